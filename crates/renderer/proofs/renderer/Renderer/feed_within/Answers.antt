use Rattle.std.proofs.Common.{◌≡◌, ◌+◌, of_z, subst, to_z, w64}
use Rattle.std.specs.Result.{IfOk, OnErr}
use Rattle.std.proofs.Math.Facts.{to_z-of_z}
use Rattle.track_history.specs.Calls.{IsFed}
use Rattle.renderer.specs.Passes.{RenderView}
use Rattle.renderer.proofs.Together.{track-of, track-together}
use Rattle.renderer.proofs.TriedWithin.{within-follows}
use Rattle.renderer.proofs.renderer.Renderer.feed_within.Goals as goal

pub invariant_of-pass : goal.invariant_of-pass
invariant_of-pass c =
    let gives = within-follows c.args.chunk.now (to_z w64 (of_z w64 c.args.start)) (to_z w64 (of_z w64 c.args.duration)) c.pass.inside.track c.feed_within-track.result.0 c.args.tries c.feed_within-track.result.1 c.feed_within-track.ensures.fed c.feed_within-track.ensures.out in
    track-together c.pass.inside.track c.feed_within-track.result.0 c.pass.inside.caches gives.0 c.pass.invariant gives.1

pub returns-clause-pass : goal.returns-clause-pass
returns-clause-pass c =
    let gives = within-follows c.args.chunk.now (to_z w64 (of_z w64 c.args.start)) (to_z w64 (of_z w64 c.args.duration)) c.pass.inside.track c.feed_within-track.result.0 c.args.tries c.feed_within-track.result.1 c.feed_within-track.ensures.fed c.feed_within-track.ensures.out in
    track-of c.args.self.now c.args.pass c.pass.inside.track c.feed_within-track.result.0 c.pass.inside.caches gives.0 c.requires.pass c.pass.view_is gives.1

pub returns-clause-fed : goal.returns-clause-fed
returns-clause-fed c =
    let fed = rw (to_z-of_z c.ranges.start, to_z-of_z c.ranges.duration) at c.feed_within-track.ensures.fed in
    subst (λ (v : RenderView). IfOk c.feed_within-track.result.1 (IsFed c.args.chunk.now c.args.start c.args.duration v.track c.feed_within-track.result.0)) c.pass.view_is fed

pub returns-clause-event : goal.returns-clause-event
returns-clause-event c = rw (to_z-of_z c.ranges.start, to_z-of_z c.ranges.duration) at c.feed_within-track.ensures.event

pub returns-clause-out : goal.returns-clause-out
returns-clause-out c = subst (λ (v : RenderView). OnErr c.feed_within-track.result.1 (c.feed_within-track.result.0 ≡ record v.track { lost = v.track.lost + c.args.tries })) c.pass.view_is c.feed_within-track.ensures.out
