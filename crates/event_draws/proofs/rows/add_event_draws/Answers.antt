use Rattle.std.proofs.Common.{subst, sym, rules, arith}
use Rattle.std.proofs.lemmas.Grind.{common_steps}
use Rattle.std.proofs.lemmas.List.Elements.{All-append}
use Rattle.std.proofs.lemmas.Result.{on_ok_weaker}
use Rattle.mask_keys.specs.Keys.{IsValidDraw, IsValidPlan}
use Rattle.mask_keys.specs.Outlines.{glyph_counts}
use Rattle.event_draws.specs.EventDraws.{event_draws}
use Rattle.event_draws.proofs.ValidEvents.{event_valid}
use Rattle.event_draws.proofs.rows.add_event_draws.Goals as goal

pub returns-clause-draws : goal.returns-clause-draws
returns-clause-draws c = first_of (search rules, grind (arith, common_steps))

pub returns-clause-valid : goal.returns-clause-valid
returns-clause-valid c =
    let fonts = c.args.fonts.now.fonts in
    let added = event_draws c.args.stage.now fonts c.args.view.now c.args.laid.now in
    on_ok_weaker c.add_draws.result
    (λ e old.
    subst (IsValidPlan (glyph_counts fonts)) (sym e)
    (All-append (IsValidDraw (glyph_counts fonts)) c.args.draws.now added old
    (event_valid c.args.stage.now fonts c.args.view.now c.args.laid.now c.requires.stage.size c.requires.fonts c.requires.view c.requires.laid)))
    (returns-clause-draws c)
