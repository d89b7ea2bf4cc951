use Rattle.std.proofs.Common.{arith}
use Rattle.play_shares.proofs.RoundPlaces.{few_painters, share_fits}
use Rattle.play_shares.proofs.renderers.share_begins.Goals as goal

pub returns-clause-near : goal.returns-clause-near
returns-clause-near c =
    let few = few_painters c.args.play.now c.requires.play in let inside = c.requires.painter in
    let behind = share_fits c.args.painter c.images_in.result (omega (arith, few, inside)) c.images_in.ensures.few in
    let near = c.first_place.ensures.near in omega (arith, behind, near)
