use Rattle.std.proofs.Common.{rules, Bool, List, ℕ, ◌≡◌, map}
use Rattle.std.specs.Bool.{Decides}
use Rattle.std.specs.Str.{bytes_eq}
use Rattle.std.specs.Char.{to_ascii_lowercase}
use Rattle.std.proofs.lemmas.Slice.Eq.{bytes_eq-Decides}
use Rattle.bdf_font.proofs.font.same_name.Goals as goal

decided : (xs ys : List ℕ) (r : Bool) → Decides r (xs ≡ ys) → r ≡ bytes_eq xs ys
decided xs ys r h = search (rules, bytes_eq-Decides)

pub returns : goal.returns
returns c = decided (map to_ascii_lowercase c.args.a.now) (map to_ascii_lowercase c.args.b.now) _ c.eq_ignore_ascii_case.ensures.test
