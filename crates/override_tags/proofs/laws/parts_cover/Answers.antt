use Rattle.std.proofs.Common.{ℕ, length, subst, zero-add}
use Rattle.override_tags.specs.Laws.{Follow}
use Rattle.override_tags.proofs.LawLemmas.{items_follow}
use Rattle.override_tags.proofs.laws.parts_cover.Goals as goal

pub returns : goal.returns
returns c = λ text items reading. let P : ℕ → Type 0 = λ z. Follow 0 items z in subst P (zero-add (length text)) (items_follow reading)
