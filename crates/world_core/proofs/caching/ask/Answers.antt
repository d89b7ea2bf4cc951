use Rattle.std.proofs.Common.{arith}
use Rattle.world_core.specs.Steps.{held_key}
use Rattle.world_core.proofs.Shards.{caches-asked, caches-same}
use Rattle.world_core.proofs.caching.ask.Goals as goal

pub ask-requires : goal.ask-requires
ask-requires c = omega (arith, c.world_shard.ensures.below, c.requires.caches.shards)

pub returns-clause-reply : goal.returns-clause-reply
returns-clause-reply c = record { answered = c.in_ok-answer.answer; is_answer = rw c.world_shard.ensures.shard at c.in_ok-answer.ensures.answer; is = c.reply_of.ensures }

pub returns-clause-state : goal.returns-clause-state
returns-clause-state c = rw c.world_shard.ensures.shard at c.in_ok-answer.ensures.state

pub returns-clause-caches : goal.returns-clause-caches
returns-clause-caches c =
    caches-same c.args.fonts.now _ c.ask.new.self (rw c.world_shard.ensures.shard at c.in_ok-answer.ensures.state)
    (caches-asked c.args.fonts.now c.args.caches.now c.requires.caches (held_key c.args.actor c.args.key.now) c.requires.key)

pub returns-in_err-answer-clause-caches : goal.returns-in_err-answer-clause-caches
returns-in_err-answer-clause-caches c = caches-same c.args.fonts.now c.args.caches.now c.ask.new.self c.in_err-answer.ensures.err c.requires.caches
