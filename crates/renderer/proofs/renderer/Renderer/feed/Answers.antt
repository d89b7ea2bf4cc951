use Rattle.std.proofs.Common.{of_z, subst, to_z, w64}
use Rattle.std.proofs.Math.Facts.{to_z-of_z}
use Rattle.track_history.specs.Calls.{IsFed}
use Rattle.track_history.proofs.LawLemmas.{fed_gives}
use Rattle.renderer.specs.Passes.{RenderView}
use Rattle.renderer.proofs.Together.{track-of, track-together}
use Rattle.renderer.proofs.renderer.Renderer.feed.Goals as goal

pub invariant_of-pass : goal.invariant_of-pass
invariant_of-pass g c =
    let gives = fed_gives c.args.chunk.now (to_z w64 (of_z w64 c.args.start)) (to_z w64 (of_z w64 c.args.duration)) c.pass.inside.track c.feed-track.result.0 c.feed-track.result.1 c.feed-track.ensures in
    track-together c.pass.inside.track c.feed-track.result.0 c.pass.inside.caches gives.0 c.pass.invariant gives.2

pub returns-clause-pass : goal.returns-clause-pass
returns-clause-pass g c =
    let gives = fed_gives c.args.chunk.now (to_z w64 (of_z w64 c.args.start)) (to_z w64 (of_z w64 c.args.duration)) c.pass.inside.track c.feed-track.result.0 c.feed-track.result.1 c.feed-track.ensures in
    track-of c.args.self.now c.args.pass c.pass.inside.track c.feed-track.result.0 c.pass.inside.caches gives.0 c.requires.pass c.pass.view_is gives.2

pub returns-clause-fed : goal.returns-clause-fed
returns-clause-fed g c =
    let fed = rw (to_z-of_z c.ranges.start, to_z-of_z c.ranges.duration) at c.feed-track.ensures in
    subst (λ (v : RenderView). IsFed c.args.chunk.now c.args.start c.args.duration v.track c.feed-track.result.0 c.feed-track.result.1) c.pass.view_is fed
