use Rattle.std.proofs.Common.{◌≡◌, ℕ, ◌≤◌, List, true, get_or, ◌∙◌, subst}
use Rattle.std.specs.Arc.{arc_value}
use Rattle.ass_num.specs.Masks.{MaskValue, is_mask}
use Rattle.made_values.proofs.PartLemmas.{alone_is}
use Rattle.made_values.proofs.composites.shared_mask.Goals as goal

pub returns : goal.returns
returns c =
    let P : MaskValue → Type 0 = λ m. is_mask m ≡ true in
    let Q : MaskValue → Type 0 = λ m. (k : ℕ) → get_or m.bytes k 0 ≤ 255 in
    let R : List ℕ → Type 0 = λ bytes. (k : ℕ) → get_or bytes k 0 ≤ 255 in
    let canonical = subst P c.deref.ensures c.bytes-bytes.ensures.canonical in
    let most = subst Q c.deref.ensures (subst R c.bytes-bytes.ensures.bytes c.proof_most_255.ensures) in
    c.in_ok-try_clone.ensures ∙ alone_is (arc_value c.args.mask.now) canonical c.requires most
