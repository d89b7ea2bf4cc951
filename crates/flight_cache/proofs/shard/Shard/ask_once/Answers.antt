use Rattle.flight_cache.proofs.shard.Shard.ask_once.Goals as goal

pub answer-requires-clause-cell : goal.answer-requires-clause-cell
answer-requires-clause-cell g c = rw c.of-before.ensures c.requires.cell

pub answer-requires-clause-turn : goal.answer-requires-clause-turn
answer-requires-clause-turn g c = rw c.of-before.ensures c.take-turn.ensures.turn

pub answer-requires-clause-legal : goal.answer-requires-clause-legal
answer-requires-clause-legal g c = rw c.of-before.ensures c.take-turn.ensures.legal

pub returns-clause-asked : goal.returns-clause-asked
returns-clause-asked g c = rw c.of-before.ensures at c.answer.ensures.asked

pub returns-clause-again : goal.returns-clause-again
returns-clause-again g c = rw c.of-before.ensures at c.answer.ensures.again
