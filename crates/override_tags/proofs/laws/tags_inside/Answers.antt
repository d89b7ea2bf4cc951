use Rattle.override_tags.proofs.PlaceLemmas as lemmas
use Rattle.override_tags.proofs.laws.tags_inside.Goals as goal

pub returns : goal.returns
returns c = lemmas.tags_inside
