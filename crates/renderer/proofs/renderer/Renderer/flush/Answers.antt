use Rattle.std.proofs.Common.{subst}
use Rattle.track_history.specs.Answers.{flushed_entry}
use Rattle.track_history.specs.Calls.{IsFlushed}
use Rattle.track_history.proofs.LawLemmas.{turn_follows}
use Rattle.renderer.specs.Passes.{RenderView}
use Rattle.renderer.proofs.Together.{track-of, track-together}
use Rattle.renderer.proofs.renderer.Renderer.flush.Goals as goal

pub invariant_of-pass : goal.invariant_of-pass
invariant_of-pass g c =
    let gives = turn_follows c.pass.inside.track c.flush-track.result.0 (flushed_entry c.flush-track.result.1) c.flush-track.ensures.turn in
    track-together c.pass.inside.track c.flush-track.result.0 c.pass.inside.caches gives.0 c.pass.invariant gives.2

pub returns-clause-pass : goal.returns-clause-pass
returns-clause-pass g c =
    let gives = turn_follows c.pass.inside.track c.flush-track.result.0 (flushed_entry c.flush-track.result.1) c.flush-track.ensures.turn in
    track-of c.args.self.now c.args.pass c.pass.inside.track c.flush-track.result.0 c.pass.inside.caches gives.0 c.requires c.pass.view_is gives.2

pub returns-clause-flushed : goal.returns-clause-flushed
returns-clause-flushed g c = subst (λ (v : RenderView). IsFlushed v.track c.flush-track.result.0 c.flush-track.result.1) c.pass.view_is c.flush-track.ensures
