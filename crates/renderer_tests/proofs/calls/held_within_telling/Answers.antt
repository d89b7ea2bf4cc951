use Rattle.renderer_tests.proofs.Given.{frame_alone, nothing_again, tried_fits}
use Rattle.renderer_tests.proofs.calls.held_within_telling.Goals as goal

pub returns-clause-held : goal.returns-clause-held
returns-clause-held c = frame_alone c.args.renderer.now c.args.pass c.frame_within_telling-after.result.0 c.frame_within_telling-after.result.1 c.requires.idle.1 c.frame_within_telling-after.ensures.holds c.frame_within_telling-after.ensures.home

pub returns-clause-size : goal.returns-clause-size
returns-clause-size c = let h = c.frame_within_telling-after.ensures.tried in tried_fits c.args.renderer.now h.waited c.frame_within_telling-after.result.0 _ _ c.frame_within_telling-after.result.1 c.requires.size h.tried

pub returns-clause-none : goal.returns-clause-none
returns-clause-none c =
    nothing_again c.args.renderer.now c.args.pass c.frame_within_telling-after.result.0 c.frame_within_telling-after.result.1 c.frame_within_telling-after.ensures.holds
    (λ same. c.frames_are_given_back.ensures.nothing c.args.renderer.now c.args.pass c.frame_within_telling-after.result.0 c.requires.idle.1 same c.proof_kept.ensures)
