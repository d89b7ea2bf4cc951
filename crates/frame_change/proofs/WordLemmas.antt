-- Bytes that are the same, eight at a time and one at a time.
use Rattle.std.proofs.Common.{◌≡◌, ℕ, ◌+◌, ◌-◌, ◌<◌, ◌≤◌, inl, inr, List, length, get_or, take, drop, refl, sym, ap, ◌∙◌, subst, arith}
use Rattle.std.specs.Int.{from_le_bytes, w64}
use Rattle.std.proofs.lemmas.Nat.{le_bytes_8}
use Rattle.std.proofs.lemmas.List.{get_or-take, get_or-drop, get_or_past, length-take-le, length-drop}
use Rattle.frame_change.specs.Rows.{AreSame}
use Rattle.std.proofs.lemmas.Bool.{cases_lt}

-- all numbers of the list are bytes
abbrev pub AreBytes : List ℕ → Type 0
AreBytes xs = (k : ℕ) → get_or xs k 0 < 256

eight_at : (a : List ℕ) (i j : ℕ) → j < 8 → get_or (take 8 (drop i a)) j 0 ≡ get_or a (i + j) 0
eight_at a i j inside = get_or-take 8 (drop i a) j 0 inside ∙ get_or-drop i a j 0

eight_long : (a : List ℕ) (i : ℕ) → i + 8 ≤ length a → length (take 8 (drop i a)) ≡ 8
eight_long a i inside = length-take-le 8 (drop i a) (omega (arith, length-drop i a))

eight_bytes : (a : List ℕ) (i : ℕ) → AreBytes a → i + 8 ≤ length a → AreBytes (take 8 (drop i a))
eight_bytes a i bytes inside j = elim (cases_lt j 8) [
  | inl less ↦ (let P : ℕ → Type 0 = λ n. n < 256 in subst P (sym (eight_at a i j less)) (bytes (i + j)))
  | inr past ↦ (let P : ℕ → Type 0 = λ n. n < 256 in subst P (sym (get_or_past (take 8 (drop i a)) j 0 (omega (arith, eight_long a i inside)))) (omega arith))
]

eight_same : (a b : List ℕ) → length a ≡ 8 → length b ≡ 8 → AreBytes a → AreBytes b → from_le_bytes w64 a ≡ from_le_bytes w64 b → a ≡ b
eight_same a b size_a size_b bytes_a bytes_b same = sym (le_bytes_8 a (from_le_bytes w64 a) size_a bytes_a refl) ∙ le_bytes_8 b (from_le_bytes w64 a) size_b bytes_b same

-- equal words have the same bytes
pub word_same : (a b : List ℕ) (i v w : ℕ) → i + 8 ≤ length a → i + 8 ≤ length b → AreBytes a → AreBytes b → v ≡ from_le_bytes w64 (take 8 (drop i a)) → w ≡ from_le_bytes w64 (take 8 (drop i b)) → v ≡ w → AreSame a b i (i + 8)
word_same a b i v w in_a in_b bytes_a bytes_b v_is w_is same = λ k first last.
    let place : i + (k - i) ≡ k = omega arith in
    let lists = eight_same (take 8 (drop i a)) (take 8 (drop i b)) (eight_long a i in_a) (eight_long b i in_b) (eight_bytes a i bytes_a in_a) (eight_bytes b i bytes_b in_b) (sym v_is ∙ same ∙ w_is) in
    let inside : k - i < 8 = omega arith in
    sym (ap (λ n. get_or a n 0) place) ∙ sym (eight_at a i (k - i) inside) ∙ ap (λ z. get_or z (k - i) 0) lists ∙ eight_at b i (k - i) inside ∙ ap (λ n. get_or b n 0) place

-- what is the same up to a place and from it on
pub same_on : (a b : List ℕ) (i j k : ℕ) → AreSame a b i j → AreSame a b j k → AreSame a b i k
same_on a b i j k before behind = λ n first last. elim (cases_lt n j) [ inl less ↦ before n first less | inr past ↦ behind n past last ]

pub same_one : (a b : List ℕ) (i j : ℕ) → j ≡ i + 1 → get_or a i 0 ≡ get_or b i 0 → AreSame a b i j
same_one a b i j next same = λ n first last.
    let here : i ≡ n = omega arith in
    let P : ℕ → Type 0 = λ z. get_or a z 0 ≡ get_or b z 0 in
    subst P here same

pub same_none : (a b : List ℕ) (i j : ℕ) → j ≤ i → AreSame a b i j
same_none a b i j none = λ n first last. absurd (omega arith)
