use Rattle.std.proofs.Common.{rules, FitsSigned, w32, w64, to_z-of_z, ap, pos, inl, inr, ◌∙◌, ◌≡◌, ◌<ℤ◌, ◌≤ℤ◌, ℤ, sym, refl, [], false, ◌-ℤ◌}
use Rattle.std.proofs.lemmas.Bool.{false≢true}
use Rattle.std.proofs.lemmas.List.Elements.{All-nil}
use Rattle.sample_region.specs.Carried.{IsCarriedTo}
use Rattle.ass_num.specs.Regions.{RegionValue, member}
use Rattle.ass_num.specs.Winding.{place}
use Rattle.sample_region.specs.Crossings.{is_inside}
use Rattle.region_rows.proofs.GrowthLemmas.{empty_members}
use Rattle.ass_num.proofs.LimitLemmas.{IsWithin-wider, within_from}
use Rattle.sample_region.proofs.InsideLemmas.{columns_near, rows_near}
use Rattle.sample_region.proofs.OutsideLemmas.{outside, outside_all}
use Rattle.ass_num.proofs.OrderLemmas.{lt_is}
use Rattle.sample_region.proofs.SteadyLemmas.{first_rows}
use Rattle.sample_region.proofs.region.region_of.Goals as goal

pub returns-then-heights-clause-samples : goal.returns-then-heights-clause-samples
returns-then-heights-clause-samples c = λ i j.
    let fl : FitsSigned w64 c.find_heights-heights.result.low = search rules in
    let fh : FitsSigned w64 c.find_heights-heights.result.high = search rules in
    let l = lt_is c.find_heights-heights.result.high c.find_heights-heights.result.low (rw (to_z-of_z fl, to_z-of_z fh) at c.if-heights.true) in
    ap (λ (r : RegionValue). member r.top r.rows i j) c.empty.ensures ∙ empty_members (pos 0) i j ∙ sym (outside_all c.find_heights-heights.result.low c.find_heights-heights.result.high c.args.outline.now.rings c.find_heights-heights.ensures.between l i j)

pub add_rows-requires-clause-rows : goal.add_rows-requires-clause-rows
add_rows-requires-clause-rows c =
    let f : FitsSigned w32 c.rows_within-rows.result.first = search rules in
    let g = rw (to_z-of_z f) at c.new-3.ensures in
    let none : (i j : ℤ) → j <ℤ c.rows_within-rows.result.first → is_inside c.in_ok-edges.edges.items i j ≡ false =
    λ i j l. c.in_ok-edges.ensures.insides i j ∙ outside c.find_heights-heights.result.low c.find_heights-heights.result.high c.args.outline.now.rings c.find_heights-heights.ensures.between i j (inl (c.rows_within-rows.ensures.above j l)) in
    rw (to_z-of_z f, c.as_slice.ensures.value) (record {
      reached = c.new.ensures.swept (place c.rows_within-rows.result.first) c.in_ok-edges.edges.items;
      steady = λ k _ s. rw c.new-2.ensures (first_rows c.in_ok-edges.edges.items k (rw (c.new.ensures.begun, c.new.ensures.active) at s));
      carried = rw c.new.ensures.active (All-nil (IsCarriedTo (place (c.rows_within-rows.result.first -ℤ pos 1))));
      grown = g (is_inside c.in_ok-edges.edges.items) none;
    })

pub returns-clause-samples : goal.returns-clause-samples
returns-clause-samples c = λ i j.
    let f : FitsSigned w32 c.rows_within-rows.result.end = search rules in
    let s = rw (to_z-of_z f, c.as_slice.ensures.value) at c.in_ok-add_rows.ensures in
    let none : (i j : ℤ) → c.rows_within-rows.result.end ≤ℤ j → is_inside c.in_ok-edges.edges.items i j ≡ false =
    λ i j l. c.in_ok-edges.ensures.insides i j ∙ outside c.find_heights-heights.result.low c.find_heights-heights.result.high c.args.outline.now.rings c.find_heights-heights.ensures.between i j (inr (c.rows_within-rows.ensures.below j l)) in
    c.finish.ensures.samples (is_inside c.in_ok-edges.edges.items) c.rows_within-rows.result.end s.grown none i j ∙ c.in_ok-edges.ensures.insides i j

pub returns-then-heights-clause-within : goal.returns-then-heights-clause-within
returns-then-heights-clause-within c = λ limit l. rw c.empty.ensures (within_from limit (pos 0) [] refl (λ i j m. absurd (false≢true (sym (empty_members (pos 0) i j) ∙ m))))

pub returns-clause-within : goal.returns-clause-within
returns-clause-within c = λ limit l.
    within_from limit c.finish.result.top c.finish.result.rows c.finish.ensures.canonical
    (λ i j m.
    let s = sym (returns-clause-samples c i j) ∙ m in
    (IsWithin-wider 65536 limit i l (columns_near c.in_ok-edges.edges.items c.in_ok-edges.ensures.sweepable i j (c.in_ok-edges.ensures.insides i j ∙ s)), IsWithin-wider 65536 limit j l (rows_near c.args.outline.now.rings c.requires i j s)))
