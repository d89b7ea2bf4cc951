use Rattle.event_draws.proofs.RunLemmas.{no_placed}
use Rattle.event_draws.proofs.StepLemmas.{row_is}
use Rattle.event_draws.proofs.runs.row_of.Goals as goal

pub returns-clause-value : goal.returns-clause-value
returns-clause-value c =
    row_is c.args.stage.now c.args.fonts.now.fonts c.args.view.now c.args.line.now c.args.items.now no_placed c.state_of.result.now c.in_ok-line_runs.field-0 c.requires.some
    c.state_of.ensures.value c.in_ok-line_runs.ensures.value
