-- Texts without the blanks at their ends.
use Rattle.std.proofs.Common.{◌≡◌, ℕ, zero, suc, ◌+◌, ◌-◌, ◌<◌, ◌≤◌, Bool, true, false, cond, ◌⊎◌, inl, inr, List, [], ◌∷◌, length, take, drop, get_or, reverse, refl, sym, ap, ◌∙◌, subst, arith}
use Rattle.std.specs.Str.{IsUtf8, IsCharBoundary}
use Rattle.std.specs.List.{All, prefix_len, suffix_len}
use Rattle.std.proofs.lemmas.Str.{IsUtf8-take, IsUtf8-drop, IsCharBoundary-start, IsCharBoundary-end, IsCharBoundary-before_ascii}
use Rattle.std.proofs.lemmas.List.{take_all, get_or-reverse, length-reverse}
use Rattle.std.proofs.lemmas.List.Elements.{All-take, All-drop}
use Rattle.std.proofs.lemmas.List.Sums.{prefix_len-le-length, prefix_len_passes, prefix_len_stops, prefix_len-drop_no, prefix_len-drop_all, suffix_len-le-length, suffix_len-take_no}
use Rattle.ass_num.specs.Numerals.{is_blank}
use Rattle.ass_num.specs.Blanks.{past_blanks, before_blanks, trimmed}
use Rattle.ass_num.proofs.CutLemmas.{blank_ascii, past_ascii}

zero_or_more : (n : ℕ) → (n ≡ 0) ⊎ (0 < n)
zero_or_more zero = inl refl
zero_or_more (suc n) = inr (omega arith)

less_or_not : (m n : ℕ) → (m < n) ⊎ (n ≤ m)
less_or_not m n = grind arith

-- ---- the blanks at the front

front_bare : (t : List ℕ) → prefix_len is_blank (past_blanks t) ≡ 0
unfolding past_blanks
front_bare t = elim (less_or_not (prefix_len is_blank t) (length t)) [
  | inl inside ↦ prefix_len-drop_no is_blank t (prefix_len is_blank t) 0 inside (prefix_len_stops is_blank t 0 inside)
  | inr past ↦ prefix_len-drop_all is_blank t (prefix_len is_blank t) past
]

front_utf8 : (t : List ℕ) → IsUtf8 t → IsUtf8 (past_blanks t)
unfolding past_blanks
front_utf8 t utf8 = IsUtf8-drop t (prefix_len is_blank t) utf8 (cases (zero_or_more (prefix_len is_blank t)))
  where
    cases : (prefix_len is_blank t ≡ 0) ⊎ (0 < prefix_len is_blank t) → IsCharBoundary t (prefix_len is_blank t)
    cases (inl none) = let P : ℕ → Type 0 = IsCharBoundary t in subst P (sym none) (IsCharBoundary-start t utf8)
    cases (inr some) =
        past_ascii t (prefix_len is_blank t) utf8 (prefix_len-le-length is_blank t) some (blank_ascii _ (prefix_len_passes is_blank t (prefix_len is_blank t - 1) 0 (omega arith)))

-- ---- the blanks at the end

-- the last byte that stays is no blank, and the first that goes is one
back_stops : (u : List ℕ) → 0 < length u - suffix_len is_blank u → is_blank (get_or u (length u - suffix_len is_blank u - 1) 0) ≡ false
back_stops u some =
    let s = suffix_len is_blank u in
    let size = length-reverse u in
    let at : get_or (reverse u) s 0 ≡ get_or u (length u - 1 - s) 0 = get_or-reverse u s 0 (omega arith) in
    let place : length u - 1 - s ≡ length u - s - 1 = omega arith in
    sym (ap (λ k. is_blank (get_or u k 0)) place) ∙ sym (ap is_blank at) ∙ prefix_len_stops is_blank (reverse u) 0 (omega (arith, size))

back_passes : (u : List ℕ) → 0 < suffix_len is_blank u → is_blank (get_or u (length u - suffix_len is_blank u) 0) ≡ true
back_passes u some =
    let s = suffix_len is_blank u in
    let within = suffix_len-le-length is_blank u in
    let at : get_or (reverse u) (s - 1) 0 ≡ get_or u (length u - 1 - (s - 1)) 0 = get_or-reverse u (s - 1) 0 (omega arith) in
    let place : length u - 1 - (s - 1) ≡ length u - s = omega arith in
    sym (ap (λ k. is_blank (get_or u k 0)) place) ∙ sym (ap is_blank at) ∙ prefix_len_passes is_blank (reverse u) (s - 1) 0 (omega arith)

back_bare : (u : List ℕ) → suffix_len is_blank (before_blanks u) ≡ 0
unfolding before_blanks
back_bare u = cases (zero_or_more (length u - suffix_len is_blank u))
  where
    cases : (length u - suffix_len is_blank u ≡ 0) ⊎ (0 < length u - suffix_len is_blank u) → suffix_len is_blank (take (length u - suffix_len is_blank u) u) ≡ 0
    cases (inl none) = ap (λ n. suffix_len is_blank (take n u)) none
    cases (inr some) = suffix_len-take_no is_blank u (length u - suffix_len is_blank u) 0 some (omega arith) (back_stops u some)

back_utf8 : (u : List ℕ) → IsUtf8 u → IsUtf8 (before_blanks u)
unfolding before_blanks
back_utf8 u utf8 = IsUtf8-take u (length u - suffix_len is_blank u) utf8 (cases (zero_or_more (suffix_len is_blank u)))
  where
    cases : (suffix_len is_blank u ≡ 0) ⊎ (0 < suffix_len is_blank u) → IsCharBoundary u (length u - suffix_len is_blank u)
    cases (inl none) = let P : ℕ → Type 0 = IsCharBoundary u in let all : length u ≡ length u - suffix_len is_blank u = omega arith in subst P all (IsCharBoundary-end u)
    cases (inr some) = IsCharBoundary-before_ascii u (length u - suffix_len is_blank u) (omega (arith, suffix_len-le-length is_blank u)) (blank_ascii _ (back_passes u some))

-- a prefix of what begins with no blank begins with none
front_of_bare : (u : List ℕ) (n : ℕ) → prefix_len is_blank u ≡ 0 → prefix_len is_blank (take n u) ≡ 0
front_of_bare u zero bare = refl
front_of_bare [] (suc n) bare = refl
front_of_bare (c ∷ cs) (suc n) bare = ap (λ b. cond b (1 + prefix_len is_blank (take n cs)) 0) (first (is_blank c) bare)
  where
    first : (b : Bool) → cond b (1 + prefix_len is_blank cs) 0 ≡ 0 → b ≡ false
    first true e = absurd (omega (arith, e))
    first false e = refl

-- ---- both

-- what has no blanks at its ends stays
pub trimmed_bare : (w : List ℕ) → prefix_len is_blank w ≡ 0 → suffix_len is_blank w ≡ 0 → trimmed w ≡ w
unfolding trimmed past_blanks before_blanks
trimmed_bare w front back =
    ap (λ n. before_blanks (drop n w)) front ∙ ap (λ n. take (length w - n) w) back ∙ take_all (length w - 0) w (omega arith)

both_bare : (t : List ℕ) → prefix_len is_blank (before_blanks (past_blanks t)) ≡ 0
unfolding before_blanks
both_bare t = front_of_bare (past_blanks t) (length (past_blanks t) - suffix_len is_blank (past_blanks t)) (front_bare t)

pub trimmed-trimmed : (t : List ℕ) → trimmed (trimmed t) ≡ trimmed t
unfolding trimmed
trimmed-trimmed t = trimmed_bare (trimmed t) (both_bare t) (back_bare (past_blanks t))

pub trimmed_utf8 : (t : List ℕ) → IsUtf8 t → IsUtf8 (trimmed t)
unfolding trimmed
trimmed_utf8 t utf8 = back_utf8 (past_blanks t) (front_utf8 t utf8)

-- what each byte of a text passes, each that is left passes
pub All-trimmed : (P : ℕ → Type 0) (t : List ℕ) → All P t → All P (trimmed t)
unfolding trimmed past_blanks before_blanks
All-trimmed P t each =
    let u = drop (prefix_len is_blank t) t in
    All-take P (length u - suffix_len is_blank u) u (All-drop P (prefix_len is_blank t) t each)
