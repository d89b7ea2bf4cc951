use Rattle.std.proofs.Common.{None, subst, sym, ◌∙◌}
use Rattle.ass_num.specs.Limits.{IsFrameSize}
use Rattle.track_history.proofs.LawLemmas.{turn_follows}
use Rattle.library_example.proofs.two_threads.draw.Goals as goal

pub paint-requires : goal.paint-requires
paint-requires g c =
    let rendered = rw c.in-Ok.is at c.frame-pass.ensures.rendered in
    subst IsFrameSize (sym rendered.is_frame.size_is) c.requires.size

pub release-requires-clause-own : goal.release-requires-clause-own
release-requires-clause-own g c = rw c.in-Ok.is at c.frame-pass.ensures.home

pub release-requires-in-Err-paint-clause-own : goal.release-requires-in-Err-paint-clause-own
release-requires-in-Err-paint-clause-own g c = rw c.in-Ok.is at c.frame-pass.ensures.home

pub release-requires-clause-held : goal.release-requires-clause-held
release-requires-clause-held g c =
    c.frames_are_given_back.ensures.holds c.args.renderer.now c.args.pass c.frame-pass.result.0 c.in-Ok.frame (rw c.in-Ok.is at c.frame-pass.ensures.holds)

pub release-requires-in-Err-paint-clause-held : goal.release-requires-in-Err-paint-clause-held
release-requires-in-Err-paint-clause-held g c =
    c.frames_are_given_back.ensures.holds c.args.renderer.now c.args.pass c.frame-pass.result.0 c.in-Ok.frame (rw c.in-Ok.is at c.frame-pass.ensures.holds)

pub returns-in-Err : goal.returns-in-Err
returns-in-Err g c =
    let rendered = rw c.in-Err.is at c.frame-pass.ensures.rendered in
    let gives = turn_follows c.args.pass.track c.frame-pass.result.0.track None rendered.turn in
    record { pass = c.frame-pass.ensures.pass; first = gives.2.number ∙ c.requires.first; picture = tt }
