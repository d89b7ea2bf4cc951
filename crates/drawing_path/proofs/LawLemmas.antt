-- A text has one list of tokens, so one path.
use Rattle.std.proofs.Common.{◌≡◌, ℕ, Option, Some, None, List, [], ◌∷◌, drop, refl, sym, ap, ◌∙◌, subst}
use Rattle.ass_num.specs.Numerals.{IsMilli}
use Rattle.ass_num.proofs.OneReading.{one_front, one_milli}
use Rattle.ass_num.specs.declared.geometry.Seg.{Seg}
use Rattle.drawing_path.specs.declared.command.Command.{Command}
use Rattle.drawing_path.specs.Tokens.{Token, Letter, Number, Skipped, IsToken, AreTokens}
use Rattle.drawing_path.specs.Paths.{path_after, IsPathOf}

one_token : (text : List ℕ) (t u : Token) (m n : ℕ) → IsToken text t m → IsToken text u n → (t ≡ u) × (m ≡ n)
one_token [] t u m n first second = absurd first
one_token (c ∷ text) (Letter a) (Letter b) m n first second =
    let same : ◌≡◌ {A = Option Command} (Some a) (Some b) = sym first.0 ∙ second.0 in
    let command : a ≡ b = cc in
    (ap Letter command, first.1 ∙ sym second.1)
one_token (c ∷ text) (Letter a) (Number w) m n first second = let both : ◌≡◌ {A = Option Command} (Some a) None = sym first.0 ∙ second.0 in absurd (cc)
one_token (c ∷ text) (Letter a) Skipped m n first second = let both : ◌≡◌ {A = Option Command} (Some a) None = sym first.0 ∙ second.0 in absurd (cc)
one_token (c ∷ text) (Number v) (Letter b) m n first second = let both : ◌≡◌ {A = Option Command} (Some b) None = sym second.0 ∙ first.0 in absurd (cc)
one_token (c ∷ text) (Number v) (Number w) m n first second = let both = one_front IsMilli one_milli (c ∷ text) v w m n first.1 second.1 in (ap Number both.0, both.1)
one_token (c ∷ text) (Number v) Skipped m n first second = absurd (second.1 m v first.1.spelled)
one_token (c ∷ text) Skipped (Letter b) m n first second = let both : ◌≡◌ {A = Option Command} (Some b) None = sym second.0 ∙ first.0 in absurd (cc)
one_token (c ∷ text) Skipped (Number w) m n first second = absurd (first.1 n w second.1.spelled)
one_token (c ∷ text) Skipped Skipped m n first second = (refl, first.2 ∙ sym second.2)

one_list : (a b : List Token) (text : List ℕ) → AreTokens a text → AreTokens b text → a ≡ b
one_list [] [] text first second = refl
one_list [] (u ∷ us) text first second = let P : List ℕ → Type 0 = λ z. IsToken z u second.0 in absurd (subst P first second.1)
one_list (t ∷ ts) [] text first second = let P : List ℕ → Type 0 = λ z. IsToken z t first.0 in absurd (subst P second first.1)
one_list (t ∷ ts) (u ∷ us) text first second =
    let both = one_token text t u first.0 second.0 first.1 second.1 in
    let P : ℕ → Type 0 = λ n. AreTokens us (drop n text) in
    let rest : ts ≡ us = one_list ts us (drop first.0 text) first.2 (subst P (sym both.1) second.2) in
    ap (λ z. z ∷ ts) both.0 ∙ ap (λ z. u ∷ z) rest

pub one_path : (text : List ℕ) (a b : List Seg) → IsPathOf text a → IsPathOf text b → a ≡ b
one_path text a b first second = first.drawn ∙ ap (path_after []) (one_list first.tokens second.tokens text first.read second.read) ∙ sym second.drawn
