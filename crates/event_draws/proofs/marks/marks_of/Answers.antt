use Rattle.std.proofs.Common.{subst, sym}
use Rattle.std.specs.List.{All}
use Rattle.std.specs.Option.{option_to_list}
use Rattle.std.proofs.lemmas.List.Elements.{All-append}
use Rattle.event_draws.specs.Marks.{IsMark}
use Rattle.event_draws.proofs.RunLemmas.{no_placed}
use Rattle.event_draws.proofs.StepLemmas.{marks_all, marks_more}
use Rattle.event_draws.proofs.marks.marks_of.Goals as goal

pub loop-placed-preserved : goal.loop-placed-preserved
loop-placed-preserved c =
    let inv = c.loop-placed.invariant in
    let r = c.in_ok-mark_of.field-0 in
    let new = c.in_ok-push_mark.ensures in
    record {
      value = marks_more c.args.stage.now c.args.fonts.now.fonts c.args.view.now c.args.line.now c.args.items.now c.loop-placed.placed-index no_placed c.loop-placed.marks
          c.push_mark.new.marks r c.loop-placed-test.true inv.value c.in_ok-mark_of.ensures.value new;
      range = subst (All IsMark) (sym new) (All-append IsMark c.loop-placed.marks (option_to_list r) inv.range (marks_all r c.in_ok-mark_of.ensures.range));
    }
