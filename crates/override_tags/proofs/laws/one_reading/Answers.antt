use Rattle.override_tags.proofs.ExistsLemmas.{has_reading}
use Rattle.override_tags.proofs.OneReadingLemmas as lemmas
use Rattle.override_tags.proofs.laws.one_reading.Goals as goal

pub returns : goal.returns
returns c = record { some = has_reading; one = lemmas.one_reading }
