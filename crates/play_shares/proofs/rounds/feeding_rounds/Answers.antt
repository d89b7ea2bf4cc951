use Rattle.std.proofs.Common.{ℕ, ◌*◌, ◌<◌, ◌≤◌, arith, subst, sym}
use Rattle.std.proofs.lemmas.Nat.{mul-le}
use Rattle.play_shares.proofs.FeederLines.{batches_hold}
use Rattle.play_shares.proofs.InstantLemmas.{ceil_enough}
use Rattle.play_shares.proofs.rounds.feeding_rounds.Goals as goal

pub returns-clause-enough : goal.returns-clause-enough
returns-clause-enough c feeder inside =
    let feeders = c.args.play.now.feeders in
    let batch = c.args.play.now.batch in
    let least : 1 * 1 ≤ feeders * batch = mul-le 1 1 feeders batch c.requires.play.feeders.0 c.requires.play.batch.0 in
    let some : 0 < feeders * batch = omega (arith, least) in
    let all : c.args.count ≤ c.div_ceil.result * (feeders * batch) =
    subst (λ (r : ℕ). c.args.count ≤ r * (feeders * batch)) (sym c.div_ceil.ensures) (ceil_enough c.args.count (feeders * batch) some) in
    batches_hold c.args.count feeders batch c.div_ceil.result feeder inside all
