use Rattle.std.proofs.Common.{◌∙◌, sym, subst}
use Rattle.std.specs.List.{All}
use Rattle.event_draws.specs.Draws.{IsStampNear}
use Rattle.event_draws.proofs.StampLemmas.{stamps_near}
use Rattle.event_draws.proofs.draws.add_draw.Goals as goal

pub add_masks-requires-clause-stamps : goal.add_masks-requires-clause-stamps
add_masks-requires-clause-stamps c =
    subst (All (IsStampNear c.args.stage.now.size)) (sym (c.as_slice.ensures.value ∙ c.in_ok-stamps.ensures)) (stamps_near c.args.stage.now c.args.making.now c.args.marks.now)
