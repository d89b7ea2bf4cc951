use Rattle.renderer_tests.proofs.Given.{still_alone}
use Rattle.renderer_tests.proofs.rows.counted_beside.Goals as goal

pub returns-clause-held : goal.returns-clause-held
returns-clause-held g c = still_alone c.args.renderer.now c.args.pass c.totals.result.0 c.args.frame.now c.requires.held c.totals.ensures.holds
