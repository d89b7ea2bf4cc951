use Rattle.std.proofs.Common.{◌<◌, arith, subst}
use Rattle.play_shares.proofs.InstantLemmas.{instant_here, instant_signed}
use Rattle.play_shares.specs.Instants.{instant_count}
use Rattle.play_shares.proofs.instants.instant_at.Goals as goal

pub overflow_cast-result : goal.overflow_cast-result
overflow_cast-result c =
    let there : c.args.place < instant_count c.args.play.now = omega (arith, c.instant_count.ensures) in
    instant_signed c.args.play.now c.args.place c.at-t.result c.requires there c.at-t.ensures.at

pub returns : goal.returns
returns c =
    let there : c.args.place < instant_count c.args.play.now = omega (arith, c.instant_count.ensures) in
    instant_here c.args.play.now c.args.place c.at-t.result c.requires there c.at-t.ensures.at
