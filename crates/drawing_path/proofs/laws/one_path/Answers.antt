use Rattle.drawing_path.proofs.ExistsLemmas.{has_path}
use Rattle.drawing_path.proofs.LawLemmas as lemmas
use Rattle.drawing_path.proofs.laws.one_path.Goals as goal

pub returns : goal.returns
returns c = record { some = has_path; one = lemmas.one_path }
