use Rattle.play_model.proofs.ChunkLengths.{short_chunk}
use Rattle.play_model.proofs.Shares.{good_events}
use Rattle.play_model.proofs.laws.lines_may_be_fed.Goals as goal

pub returns-clause-events : goal.returns-clause-events
returns-clause-events c play lines within = good_events play.script lines within

pub returns-clause-short : goal.returns-clause-short
returns-clause-short c play i event playable inside is = short_chunk play i event playable inside is
