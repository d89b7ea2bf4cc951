use Rattle.renderer_tests.proofs.Given.{frame_alone, nothing_again, untold_fits}
use Rattle.renderer_tests.proofs.calls.held_within.Goals as goal

pub returns-clause-held : goal.returns-clause-held
returns-clause-held c = frame_alone c.args.renderer.now c.args.pass c.frame_within-after.result.0 c.frame_within-after.result.1 c.requires.idle.1 c.frame_within-after.ensures.holds c.frame_within-after.ensures.home

pub returns-clause-size : goal.returns-clause-size
returns-clause-size c = let h = c.frame_within-after.ensures.tried in untold_fits c.args.renderer.now h.1.waited c.frame_within-after.result.0 _ _ c.frame_within-after.result.1 c.requires.size (h.0, h.1.tried, h.2)

pub returns-clause-none : goal.returns-clause-none
returns-clause-none c =
    nothing_again c.args.renderer.now c.args.pass c.frame_within-after.result.0 c.frame_within-after.result.1 c.frame_within-after.ensures.holds
    (λ same. c.frames_are_given_back.ensures.nothing c.args.renderer.now c.args.pass c.frame_within-after.result.0 c.requires.idle.1 same c.proof_kept.ensures)
