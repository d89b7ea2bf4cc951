use Rattle.std.proofs.Common.{subst, sym}
use Rattle.std.specs.List.{All}
use Rattle.std.proofs.lemmas.List.Elements.{All-push}
use Rattle.std.proofs.lemmas.Result.{on_ok_weaker}
use Rattle.event_draws.specs.EventDraws.{IsDrawnRow}
use Rattle.event_draws.proofs.runs.push_row.Goals as goal

pub returns-clause-range : goal.returns-clause-range
returns-clause-range c =
    on_ok_weaker c.push.result (λ e h. subst (All IsDrawnRow) (sym e) (All-push IsDrawnRow c.args.rows.now c.in_ok-row_of.field-0 h c.in_ok-row_of.ensures.range)) c.push.ensures.ok
