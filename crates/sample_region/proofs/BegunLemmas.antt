-- An edge that has just begun stands where it crosses its first row.
use Rattle.std.proofs.Common.{◌≡◌, ℤ, pos, negsuc, neg_ℤ, ◌+ℤ◌, ◌-ℤ◌, ◌*ℤ◌, ◌≤ℤ◌, ◌<ℤ◌, FitsSigned, w32, w64, ◌∙◌, arith}
use Rattle.std.proofs.lemmas.Int.{ints}
use Rattle.sample_region.specs.Carried.{IsCarriedTo, IsDivision, cut_number}
use Rattle.sample_region.specs.Edges.{IsCrossed, IsEdge}
use Rattle.sample_region.specs.Limits.{max_fourfold}
use Rattle.sample_region.specs.declared.carried.Division.{Division}
use Rattle.sample_region.specs.declared.carried.LiveEdge.{LiveEdge}
use Rattle.sample_region.specs.declared.edges.SweepEdge.{SweepEdge}
use Rattle.sample_region.proofs.CarryLemmas.{cut_near, whole_near}

-- What is divided for an edge: by which divisor, for where it crosses, and for by how much that grows.
pub record IsDividedFor (y : ℤ) (e : SweepEdge) (divisor number growth : ℤ) : Type 0 where
  pub crossed : IsCrossed y e
  pub divisor_is : divisor ≡ pos 4 *ℤ (e.lower.y -ℤ e.upper.y)
  pub number_is : number ≡ cut_number e.upper e.lower y
  pub growth_is : growth ≡ pos 4 *ℤ (e.lower.x -ℤ e.upper.x)

pub begun : (y : ℤ) (e : SweepEdge) (divisor number growth : ℤ) (at step : Division) → IsDividedFor y e divisor number growth → IsDivision number divisor at → IsDivision growth divisor step
    → IsCarriedTo y (record { edge = e; at = at.whole; over = at.over; step = step.whole; step_over = step.over; divisor = divisor })
begun y e divisor number growth at step is whole steps = record {
  crossed = is.crossed;
  divisor = is.divisor_is;
  sum = whole.sum ∙ is.number_is;
  low = whole.low;
  high = whole.high;
  step_sum = steps.sum ∙ is.growth_is;
  step_low = steps.low;
  step_high = steps.high;
}

-- the divisor is small and above 0
pub divisor_small : (y : ℤ) (e : SweepEdge) (divisor : ℤ) → IsCrossed y e → divisor ≡ pos 4 *ℤ (e.lower.y -ℤ e.upper.y) → (pos 0 <ℤ divisor) × (divisor ≤ℤ pos max_fourfold)
divisor_small y e divisor crossed d =
    let u = crossed.edge.upper in
    let v = crossed.edge.lower in
    let starts = crossed.begun in
    let unended = crossed.unended in
    (omega (arith, ints), omega (arith, ints))

-- it stands near
pub begun_fits : (y : ℤ) (e : SweepEdge) (divisor number growth : ℤ) (at step : Division) → IsDividedFor y e divisor number growth → IsDivision number divisor at → IsDivision growth divisor step
    → FitsSigned w32 at.whole
begun_fits y e divisor number growth at step is whole steps =
    let live : LiveEdge = record { edge = e; at = at.whole; over = at.over; step = step.whole; step_over = step.over; divisor = divisor } in
    let near = cut_near y live (begun y e divisor number growth at step is whole steps) in
    fits at.whole near.0 near.1
  where
    fits : (z : ℤ) → negsuc 65535 ≤ℤ z → z ≤ℤ pos 65536 → FitsSigned w32 z
    fits z low high = omega (arith, ints)

-- the quotient, by what it leaves
least : (number divisor : ℤ) (division : Division) → IsDivision number divisor division → (division.whole *ℤ divisor) ≤ℤ number
least number divisor division is = let sum = is.sum in let low = is.low in omega (arith, ints)

most : (number divisor : ℤ) (division : Division) → IsDivision number divisor division → number <ℤ (division.whole *ℤ divisor +ℤ divisor)
most number divisor division is = let sum = is.sum in let high = is.high in omega (arith, ints)

-- so does what it grows by
pub step_fits : (growth divisor : ℤ) (step : Division) → pos 0 <ℤ divisor → neg_ℤ (pos max_fourfold) ≤ℤ growth → growth ≤ℤ pos max_fourfold → IsDivision growth divisor step → FitsSigned w32 step.whole
step_fits growth divisor step positive low high is =
    let near = whole_near growth divisor step.whole max_fourfold positive low high (least growth divisor step is) (most growth divisor step is) in
    fits step.whole near.0 near.1
  where
    fits : (z : ℤ) → neg_ℤ (pos max_fourfold) ≤ℤ z → z ≤ℤ pos max_fourfold → FitsSigned w32 z
    fits z low high = omega (arith, ints)

-- a quotient and what it leaves
pub divided : (number divisor : ℤ) (division : Division) → division.over ≡ number -ℤ division.whole *ℤ divisor → (division.whole *ℤ divisor) ≤ℤ number → number <ℤ (division.whole *ℤ divisor +ℤ divisor)
    → IsDivision number divisor division
divided number divisor division over least most = record {
  sum = omega (arith, ints);
  low = omega (arith, ints);
  high = omega (arith, ints);
}

-- the ends of an edge fit their type
pub ends_fit : (e : SweepEdge) → IsEdge e → FitsSigned w64 e.upper.x × FitsSigned w64 e.upper.y × FitsSigned w64 e.lower.x × FitsSigned w64 e.lower.y
ends_fit e edge =
    let u = edge.upper in
    let v = edge.lower in
    (omega (arith, ints), omega (arith, ints), omega (arith, ints), omega (arith, ints))
