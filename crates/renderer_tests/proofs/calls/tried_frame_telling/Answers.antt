use Rattle.renderer_tests.proofs.Given.{frame_alone, nothing_again, tried_fits}
use Rattle.renderer_tests.proofs.calls.tried_frame_telling.Goals as goal

pub returns-clause-held : goal.returns-clause-held
returns-clause-held c = frame_alone c.args.renderer.now c.args.pass c.try_frame_telling-after.result.0 c.try_frame_telling-after.result.1 c.requires.idle.1 c.try_frame_telling-after.ensures.holds c.try_frame_telling-after.ensures.home

pub returns-clause-size : goal.returns-clause-size
returns-clause-size c = tried_fits c.args.renderer.now c.args.pass c.try_frame_telling-after.result.0 _ _ c.try_frame_telling-after.result.1 c.requires.size c.try_frame_telling-after.ensures.tried

pub returns-clause-none : goal.returns-clause-none
returns-clause-none c =
    nothing_again c.args.renderer.now c.args.pass c.try_frame_telling-after.result.0 c.try_frame_telling-after.result.1 c.try_frame_telling-after.ensures.holds
    (λ same. c.frames_are_given_back.ensures.nothing c.args.renderer.now c.args.pass c.try_frame_telling-after.result.0 c.requires.idle.1 same c.proof_kept.ensures)
