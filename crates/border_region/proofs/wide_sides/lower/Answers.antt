use Rattle.std.proofs.Common.{arith, rules, refl, ◌∙◌, ◌<◌, ◌-ℤ◌, length, pos, get_or, to_z-of_z, FitsSigned, w32}
use Rattle.std.proofs.lemmas.Int.{ints}
use Rattle.border_region.specs.Keys.{key_at}
use Rattle.border_region.proofs.PartLemmas.{lowered_more}
use Rattle.border_region.proofs.wide_sides.lower.Goals as goal

pub loop-q-init : goal.loop-q-init
loop-q-init c = record { done = λ q l. absurd (omega arith); rest = λ q l. refl }

pub loop-q-preserved : goal.loop-q-preserved
loop-q-preserved c =
    let k = c.loop-q.q in
    let within : k < length c.loop-q.numbers = omega arith in
    let here : k < length c.args.widths.now = omega arith in
    let near = c.requires.side in
    let least = c.requires.least k here in
    let most = c.requires.most k here in
    let fn : FitsSigned w32 (get_or c.loop-q.numbers k (pos 0)) = search rules in
    let fw : FitsSigned w32 (get_or c.args.widths.now k (pos 0)) = search rules in
    let fs : FitsSigned w32 c.args.side = c.ranges.side in
    let fd : FitsSigned w32 (c.args.side -ℤ get_or c.args.widths.now k (pos 0)) = omega (arith, ints) in
    let fm : FitsSigned w32 c.min.result = search rules in
    let v = simp to_z-of_z at c.min.ensures.value in
    let was = rw (to_z-of_z c.ranges.side) at c.loop-q.invariant in
    rw (to_z-of_z c.ranges.side) (lowered_more (λ q. c.args.side -ℤ key_at c.args.widths.now q) c.args.numbers.now c.loop-q.numbers k _ within (to_z-of_z fm ∙ v) was)

pub returns : goal.returns
returns c = let was = rw (to_z-of_z c.ranges.side) at c.loop-q.invariant in λ q l. was.done q (omega arith)
