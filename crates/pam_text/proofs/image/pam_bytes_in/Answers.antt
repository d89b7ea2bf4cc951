use Rattle.std.proofs.Common.{◌≡◌, ℕ, List, [], ◌++◌, ap, ◌∙◌, w64}
use Rattle.std.proofs.lemmas.Int.{to_z-of_z}
use Rattle.pam_text.specs.Pams.{pam_form}
use Rattle.pam_text.proofs.image.pam_bytes_in.Goals as goal

-- three parts, one after the other, in a list that was empty
joined : (none one two kept three s form pixels : List ℕ) → none ≡ [] → one ≡ none ++ s → two ≡ one ++ form → kept ≡ two → three ≡ kept ++ pixels → three ≡ s ++ form ++ pixels
joined none one two kept three s form pixels a b c d e =
    e ∙ ap (λ (t : List ℕ). t ++ pixels) (d ∙ (c ∙ ap (λ (t : List ℕ). t ++ form) (b ∙ ap (λ (t : List ℕ). t ++ s) a)))

pub returns : goal.returns
returns c =
    let sizes_are = rw (to_z-of_z w64 c.args.t c.ranges.t) at c.in_ok-sizes.ensures in
    joined _ _ _ _ _ _ pam_form c.args.pixels.now c.clear.ensures.items c.in_ok-extend_from_slice.ensures.items c.in_ok-extend_from_slice-2.ensures.items
    c.in_ok-reserve_exact.ensures.items c.in_ok-extend_from_slice-3.ensures.items
    ∙ ap (λ (s : List ℕ). s ++ pam_form ++ c.args.pixels.now) (c.as_bytes.ensures.value ∙ sizes_are)
