use Rattle.std.proofs.Common.{List, length, subst}
use Rattle.override_tags.specs.declared.view.Shown.{Shown}
use Rattle.text_layout.specs.Layouts.{IsWithinBlock}
use Rattle.picture_plan.proofs.AlikeLemmas.{laid_alike}
use Rattle.picture_plan.proofs.event.add_alike_event.Goals as goal

pub add_laid_event-requires-clause-laid_out : goal.add_laid_event-requires-clause-laid_out
add_laid_event-requires-clause-laid_out c =
    laid_alike c.args.setting.now.script c.args.setting.now.fonts c.args.event.now c.args.own.now.view c.args.view.now c.args.setting.now.frame c.args.own.now.laid
    (c.are_laid_alike.ensures c.if-are_laid_alike.true) c.requires.own.laid_out

pub add_laid_event-requires-clause-within : goal.add_laid_event-requires-clause-within
add_laid_event-requires-clause-within c =
    subst (λ (items : List Shown). IsWithinBlock (length items) c.args.own.now.laid) (c.are_laid_alike.ensures c.if-are_laid_alike.true).items c.requires.own.within
