use Rattle.std.proofs.Common.{None, subst}
use Rattle.track_history.specs.Calls.{IsTurn}
use Rattle.track_history.proofs.LawLemmas.{turn_follows}
use Rattle.renderer.specs.Passes.{RenderView}
use Rattle.renderer.proofs.Together.{track-of, track-together}
use Rattle.renderer.proofs.renderer.Renderer.orders.Goals as goal

pub invariant_of-pass : goal.invariant_of-pass
invariant_of-pass g c =
    let gives = turn_follows c.pass.inside.track c.orders-track.result.0 None c.orders-track.ensures.turn in
    track-together c.pass.inside.track c.orders-track.result.0 c.pass.inside.caches gives.0 c.pass.invariant gives.2

pub returns-clause-pass : goal.returns-clause-pass
returns-clause-pass g c =
    let gives = turn_follows c.pass.inside.track c.orders-track.result.0 None c.orders-track.ensures.turn in
    track-of c.args.self.now c.args.pass c.pass.inside.track c.orders-track.result.0 c.pass.inside.caches gives.0 c.requires c.pass.view_is gives.2

pub returns-clause-turn : goal.returns-clause-turn
returns-clause-turn g c = subst (λ (v : RenderView). IsTurn v.track c.orders-track.result.0 None) c.pass.view_is c.orders-track.ensures.turn
