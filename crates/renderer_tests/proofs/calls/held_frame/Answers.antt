use Rattle.renderer_tests.proofs.Given.{frame_alone, frame_fits, nothing_again}
use Rattle.renderer_tests.proofs.calls.held_frame.Goals as goal

pub returns-clause-held : goal.returns-clause-held
returns-clause-held g c = frame_alone c.args.renderer.now c.args.pass c.frame-after.result.0 c.frame-after.result.1 c.requires.idle.1 c.frame-after.ensures.holds c.frame-after.ensures.home

pub returns-clause-size : goal.returns-clause-size
returns-clause-size g c = frame_fits c.args.renderer.now c.args.pass c.frame-after.result.0 _ _ c.frame-after.result.1 c.requires.size c.frame-after.ensures.rendered

pub returns-clause-none : goal.returns-clause-none
returns-clause-none g c =
    nothing_again c.args.renderer.now c.args.pass c.frame-after.result.0 c.frame-after.result.1 c.frame-after.ensures.holds
    (λ same. c.frames_are_given_back.ensures.nothing c.args.renderer.now c.args.pass c.frame-after.result.0 c.requires.idle.1 same c.proof_kept.ensures)
