use Rattle.std.proofs.Common.{rules, ◌≡◌, ◌∙◌, ℤ, Bool, w32, to_z-of_z, FitsSigned}
use Rattle.ass_num.specs.Regions.{member}
use Rattle.region_rows.specs.Widened.{in_widened}
use Rattle.border_region.proofs.RowLemmas.{above_all, below_all, bool_same}
use Rattle.border_region.proofs.StripRowLemmas.{live_none}
use Rattle.border_region.proofs.border.widened_by_strips.Goals as goal

-- at first the wanted samples are those of the widened region themselves
pub add_rows-requires-clause-rows : goal.add_rows-requires-clause-rows
add_rows-requires-clause-rows c =
    let f : FitsSigned w32 c.rows_around-rows.result.first = search rules in
    let wanted : ℤ → ℤ → Bool = in_widened (member c.args.region.now.top c.args.region.now.rows) c.args.rx c.args.ry in
    let holds = c.in_ok-wide.ensures in
    let g = rw (to_z-of_z f) at c.new-2.ensures in
    let top = c.rows_around-rows.ensures.first in
    rw (to_z-of_z f) (record {
      wanted = wanted;
      are_held = holds.held;
      held = holds.reached;
      spans = holds.are_spans;
      live = rw (c.new.ensures.begun, c.new.ensures.live) (live_none c.rows_around-rows.result.first c.in_ok-wide.wide.spans.items);
      grown = g wanted (λ i j l. above_all c.args.region.now c.args.rx c.args.ry i j (rw top at l));
    })

-- at last they are still the same samples: both are those that the strips hold
pub returns-clause-samples : goal.returns-clause-samples
returns-clause-samples c = λ i j.
    let f : FitsSigned w32 c.rows_around-rows.result.end = search rules in
    let wanted : ℤ → ℤ → Bool = in_widened (member c.args.region.now.top c.args.region.now.rows) c.args.rx c.args.ry in
    let holds = c.in_ok-wide.ensures in
    let s = rw (to_z-of_z f) at c.in_ok-add_rows.ensures in
    let end = c.rows_around-rows.ensures.end in
    let same : (i j : ℤ) → s.wanted i j ≡ wanted i j = λ i j. bool_same (s.wanted i j) (wanted i j) (λ m. holds.reached i j (s.are_held i j m)) (λ m. s.held i j (holds.held i j m)) in
    c.finish.ensures.samples s.wanted c.rows_around-rows.result.end s.grown (λ i j l. same i j ∙ below_all c.args.region.now c.args.rx c.args.ry i j (rw end at l)) i j ∙ same i j
