-- The columns in which rows of two pictures differ.
use Rattle.std.proofs.Common.{◌≡◌, ℕ, ◌+◌, ◌-◌, ◌*◌, ◌/◌, ◌<◌, ◌≤◌, ◌⊎◌, inl, inr, List, length, get_or, take, drop, sym, ap, ◌∙◌, subst, arith}
use Rattle.std.proofs.lemmas.List.{get_or-take, get_or-drop, length-take-le, length-drop}
use Rattle.frame_change.specs.Changes.{DiffersAt}
use Rattle.frame_change.specs.Rows.{AreSame, IsLeft, IsRight, AreColumns}
use Rattle.std.proofs.lemmas.Bool.{cases_lt}

-- a byte of both lists differs
abbrev pub Differs : List ℕ → List ℕ → ℕ → Type 0
Differs a b k = get_or a k 0 ≡ get_or b k 0 → ⊥

-- ---- one row

-- what is said of the front of a row
pub left_is : (a b : List ℕ) (left found : ℕ) → 3 * left ≤ length a → length a ≡ length b → found ≤ length (take (3 * left) a) → AreSame (take (3 * left) a) (take (3 * left) b) 0 found →
    (found < length (take (3 * left) a) → Differs (take (3 * left) a) (take (3 * left) b) found) → IsLeft a b left (found / 3)
left_is a b left found inside sizes within same differs =
    let size = length-take-le (3 * left) a inside in
    let at : (z : List ℕ) (k : ℕ) → k < 3 * left → get_or (take (3 * left) z) k 0 ≡ get_or z k 0 = λ z k h. get_or-take (3 * left) z k 0 h in
    record {
      within = omega (arith, size);
      same = λ k first last. sym (at a k (omega (arith, size))) ∙ same k first (omega arith) ∙ at b k (omega (arith, size));
      differs = λ less. (found, omega arith, omega arith, λ e. differs (omega (arith, size)) (at a found (omega arith) ∙ e ∙ sym (at b found (omega arith))));
    }

-- what is said of the rest of a row
pub right_is : (a b : List ℕ) (right found n : ℕ) → 3 * right ≤ length a → length a ≡ length b → found ≤ 3 * n → 3 * n < found + 3 → found ≤ length (drop (3 * right) a) →
    AreSame (drop (3 * right) a) (drop (3 * right) b) found (length (drop (3 * right) a)) → (0 < found → Differs (drop (3 * right) a) (drop (3 * right) b) (found - 1)) → IsRight a b right (right + n)
right_is a b right found n inside sizes low high within same differs =
    let size = length-drop (3 * right) a in
    let at : (z : List ℕ) (k : ℕ) → 3 * right ≤ k → get_or (drop (3 * right) z) (k - 3 * right) 0 ≡ get_or z k 0 = λ z k h. (
    let place : 3 * right + (k - 3 * right) ≡ k = omega arith in
    get_or-drop (3 * right) z (k - 3 * right) 0 ∙ ap (λ m. get_or z m 0) place
    ) in
    record {
      within = omega arith;
      in_row = omega (arith, size);
      same = λ k first last. sym (at a k (omega arith)) ∙ same (k - 3 * right) (omega arith) (omega (arith, size)) ∙ at b k (omega arith);
      differs = λ more. (
          let k : ℕ = 3 * right + (found - 1) in
          let place : k - 3 * right ≡ found - 1 = omega arith in (
            k,
            omega arith,
            omega (arith, size),
            λ e. differs (omega arith)
                (ap (λ m. get_or (drop (3 * right) a) m 0) (sym place) ∙ (at a k (omega arith) ∙ e ∙ sym (at b k (omega arith))) ∙ ap (λ m. get_or (drop (3 * right) b) m 0) place),
          )
          );
    }

-- ---- one row more

abbrev pub row_of : ℕ → ℕ → List ℕ → List ℕ
row_of w y a = take (3 * w) (drop (y * (3 * w)) a)

row_at : (w y : ℕ) (a : List ℕ) (i k : ℕ) → 3 * i + k < 3 * w → get_or (row_of w y a) (3 * i + k) 0 ≡ get_or a (3 * (y * w + i) + k) 0
row_at w y a i k inside =
    let place : y * (3 * w) + (3 * i + k) ≡ 3 * (y * w + i) + k = omega arith in
    get_or-take (3 * w) (drop (y * (3 * w)) a) (3 * i + k) 0 inside ∙ get_or-drop (y * (3 * w)) a (3 * i + k) 0 ∙ ap (λ m. get_or a m 0) place

module _ (w : ℕ) (a b : List ℕ) (y : ℕ) (size : length (row_of w y a) ≡ 3 * w) where
  -- a pixel differs where its row does
  to_row : (i k : ℕ) → k < 3 → i < w → Differs a b (3 * (y * w + i) + k) → Differs (row_of w y a) (row_of w y b) (3 * i + k)
  to_row i k small inside differs = λ e. differs (sym (row_at w y a i k (omega arith)) ∙ e ∙ row_at w y b i k (omega arith))

  from_row : (i m : ℕ) → 3 * i ≤ m → m < 3 * i + 3 → i < w → Differs (row_of w y a) (row_of w y b) m → DiffersAt w a b i y
  from_row i m low high inside differs =
      let k : ℕ = m - 3 * i in
      let place : 3 * i + k ≡ m = omega arith in
      (k, omega arith, λ e. differs (ap (λ n. get_or (row_of w y a) n 0) (sym place) ∙ (row_at w y a i k (omega arith) ∙ e ∙ sym (row_at w y b i k (omega arith))) ∙ ap (λ n. get_or (row_of w y b) n 0) place))

  right_at : (right found : ℕ) → right < found → IsRight (row_of w y a) (row_of w y b) right found → DiffersAt w a b (found - 1) y
  right_at right found more is =
      let some = is.differs more in
      let high : some.0 < 3 * (found - 1) + 3 = elim (cases_lt some.0 (3 * found)) [ inl less ↦ omega arith | inr past ↦ absurd (some.3 (is.same some.0 past some.2)) ] in
      from_row (found - 1) some.0 (omega (arith, some.1)) high (omega (arith, is.in_row, size)) some.3

  left_at : (left found : ℕ) → found < left → left ≤ w → IsLeft (row_of w y a) (row_of w y b) left found → DiffersAt w a b found y
  left_at left found less within is =
      let some = is.differs less in
      from_row found some.0 some.1 some.2 (omega arith) some.3

  pub columns_more : (first left right x z : ℕ) → first ≤ y → AreColumns w a b first y left right → IsLeft (row_of w y a) (row_of w y b) left x → IsRight (row_of w y a) (row_of w y b) right z → AreColumns w a b first (y + 1) x z
  columns_more first left right x z order before is_left is_right = record {
    left_within = omega (arith, before.left_within, is_left.within);
    right_within = omega (arith, is_right.in_row, size);
    has = λ i j inside from to differs. has_pixel i j inside from differs (last_or_not j to);
    left_differs = λ inside. left_pixel (cases_lt x left) inside;
    right_differs = λ some. right_pixel (cases_lt right z) some;
  }
    where
      last_or_not : (j : ℕ) → j < y + 1 → (j < y) ⊎ (j ≡ y)
      last_or_not j h = grind arith

      has_pixel : (i j : ℕ) → i < w → first ≤ j → DiffersAt w a b i j → (j < y) ⊎ (j ≡ y) → (x ≤ i) × (i < z)
      has_pixel i j inside from differs (inl above) = (omega (arith, (before.has i j inside from above differs).0, is_left.within), omega (arith, (before.has i j inside from above differs).1, is_right.within))
      has_pixel i j inside from differs (inr here) =
          let P : ℕ → Type 0 = λ n. Differs a b (3 * (n * w + i) + differs.0) in
          let in_row = to_row i differs.0 differs.1 inside (subst P here differs.2) in (
            elim (cases_lt i x) [ inl less ↦ absurd (in_row (is_left.same (3 * i + differs.0) (omega arith) (omega (arith, differs.1)))) | inr past ↦ past ],
            elim (cases_lt i z) [ inl less ↦ less | inr past ↦ absurd (in_row (is_right.same (3 * i + differs.0) (omega arith) (omega (arith, differs.1, size)))) ],
          )

      left_pixel : (x < left) ⊎ (left ≤ x) → x < w → (j : ℕ) × (first ≤ j) × (j < y + 1) × DiffersAt w a b x j
      left_pixel (inl less) inside = (y, order, omega arith, left_at left x less before.left_within is_left)
      left_pixel (inr not) inside =
          let here : left ≡ x = omega (arith, is_left.within) in
          let old = before.left_differs (omega arith) in
          let P : ℕ → Type 0 = λ n. DiffersAt w a b n old.0 in
          (old.0, old.1, omega (arith, old.2), subst P here old.3)

      right_pixel : (right < z) ⊎ (z ≤ right) → 0 < z → (j : ℕ) × (first ≤ j) × (j < y + 1) × DiffersAt w a b (z - 1) j
      right_pixel (inl more) some = (y, order, omega arith, right_at right z more is_right)
      right_pixel (inr not) some =
          let here : right ≡ z = omega (arith, is_right.within) in
          let old = before.right_differs (omega arith) in
          let P : ℕ → Type 0 = λ n. DiffersAt w a b (n - 1) old.0 in
          (old.0, old.1, omega (arith, old.2), subst P here old.3)
