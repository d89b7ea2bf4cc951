-- The least box of pixels of four bytes, row by row.
use Rattle.std.proofs.Common.{◌≡◌, ℕ, ◌+◌, ◌-◌, ◌*◌, ◌/◌, ◌<◌, ◌≤◌, ◌⊎◌, inl, inr, List, length, get_or, slice_index, take, drop, Option, Some, None, sym, ap, ◌∙◌, subst, arith}
use Rattle.std.proofs.Math.Nat.{mul-le-mul_left}
use Rattle.std.proofs.lemmas.List.{get_or-take, get_or-drop}
use Rattle.std.proofs.lemmas.Bool.{cases_lt}
use Rattle.ass_num.specs.declared.size.Size.{Size}
use Rattle.frame_change.specs.Changes.{LiesInside}
use Rattle.frame_change.specs.Rows.{AreSame}
use Rattle.frame_change.specs.declared.pixels.Changed.{Changed}
use Rattle.frame_change.proofs.BoxLemmas.{all_same}
use Rattle.still_images.specs.Boxes.{DiffersIn, HasAll, HasPixels, IsBoxOfPixels, IsLeastOf}
use Rattle.still_images.specs.Rows.{DifferBetween, row_box, with_columns}
use Rattle.still_images.specs.declared.alpha_box.Columns.{Columns}
use Rattle.still_images.proofs.BoxLemmas.{least_on_frame}

abbrev pub Differs : List ℕ → List ℕ → ℕ → Type 0
Differs a b k = slice_index a k ≡ slice_index b k → ⊥

abbrev pub columns_of : ℕ → ℕ → Columns
columns_of first last = record { first = first / 4; end = (last - 1) / 4 + 1 }

-- what is said of the first and the last byte that differ
pub columns_are : (a b : List ℕ) (first last : ℕ) → first < length a → AreSame a b 0 first → Differs a b first → last ≤ length a → AreSame a b last (length a) → (0 < last → Differs a b (last - 1)) →
    DifferBetween a b (columns_of first last)
columns_are a b first last inside same_first differs_first within same_last differs_last =
    let past : first < last = elim (cases_lt first last) [ inl less ↦ less | inr not ↦ absurd (differs_first (same_last first not inside)) ] in
    record {
      before = λ k from to. same_first k from (omega (arith, to));
      behind = λ k from to. same_last k (omega (arith, from)) to;
      first = (first, omega arith, omega arith, differs_first);
      last = (last - 1, omega (arith, past), omega (arith, past), differs_last (omega (arith, past)));
      order = omega (arith, past);
      within = omega (arith, past, within);
    }

pub no_columns : (a b : List ℕ) (first : ℕ) → length a ≡ length b → first ≡ length a → AreSame a b 0 first → a ≡ b
no_columns a b first sizes all same = all_same a b sizes (subst (λ n. AreSame a b 0 n) all same)

abbrev pub pixel_row : ℕ → ℕ → List ℕ → List ℕ
pixel_row w y a = take (4 * w) (drop (y * (4 * w)) a)

-- Pixels of the first rows differ.
abbrev pub DifferAbove : ℕ → List ℕ → List ℕ → ℕ → ℕ → ℕ → Type 0
DifferAbove w a b y i j = (j < y) × DiffersIn 4 w a b i j

-- what is known of the first rows
abbrev pub IsBoxAbove : Size → List ℕ → List ℕ → ℕ → Option Changed → Type 0
IsBoxAbove size a b y None = AreSame a b 0 (y * (4 * size.w))
IsBoxAbove size a b y (Some box) = IsLeastOf size (DifferAbove size.w a b y) box

-- A row ends within the picture.
pub rows_fit : (size : Size) (a : List ℕ) (y : ℕ) → HasPixels 4 size a → y < size.h → (y + 1) * (4 * size.w) ≤ length a
rows_fit size a y sizes low =
    let below : y + 1 ≤ size.h = omega (arith, low) in
    let rows : size.w * (y + 1) ≤ size.w * size.h = mul-le-mul_left size.w below in
    omega (arith, sizes, rows)

pub no_rows : (size : Size) (a b : List ℕ) → IsBoxAbove size a b 0 None
no_rows size a b = λ k from to. absurd (omega (arith, to))

pub all_rows : (size : Size) (a b : List ℕ) (box : Option Changed) → HasPixels 4 size a → HasPixels 4 size b → IsBoxAbove size a b size.h box → IsBoxOfPixels 4 size a b box
all_rows size a b None sizes too is = all_same a b (omega (arith, sizes, too)) (λ k from to. is k from (omega (arith, to, sizes)))
all_rows size a b (Some box) sizes too is = record {
  has = λ i j wide high differs. is.has i j wide high (high, differs);
  least = λ other has. is.least other (λ i j wide high differs. has i j wide high differs.1);
}

row_byte : (w y : ℕ) (z : List ℕ) (i k : ℕ) → 4 * i + k < 4 * w → get_or (pixel_row w y z) (4 * i + k) 0 ≡ get_or z (4 * (y * w + i) + k) 0
row_byte w y z i k inside =
    let place : y * (4 * w) + (4 * i + k) ≡ 4 * (y * w + i) + k = omega arith in
    get_or-take (4 * w) (drop (y * (4 * w)) z) (4 * i + k) 0 inside ∙ get_or-drop (y * (4 * w)) z (4 * i + k) 0 ∙ ap (λ m. get_or z m 0) place

module _ (size : Size) (a b : List ℕ) (y : ℕ) (low : y < size.h) where
  -- a byte of the row, where pixels are told by their columns
  to_row : (i k : ℕ) → i < size.w → k < 4 → Differs a b (4 * (y * size.w + i) + k) → Differs (pixel_row size.w y a) (pixel_row size.w y b) (4 * i + k)
  to_row i k inside few differs = λ e. differs (sym (row_byte size.w y a i k (omega (arith, inside, few))) ∙ e ∙ row_byte size.w y b i k (omega (arith, inside, few)))

  from_row : (i m : ℕ) → i < size.w → 4 * i ≤ m → m < 4 * i + 4 → Differs (pixel_row size.w y a) (pixel_row size.w y b) m → DiffersIn 4 size.w a b i y
  from_row i m inside from to differs =
      let k : ℕ = m - 4 * i in
      let place : 4 * i + k ≡ m = omega (arith, from) in
      let few : k < 4 = omega (arith, from, to) in (
        k,
        few,
        λ e. differs (subst (λ n. get_or (pixel_row size.w y a) n 0 ≡ get_or (pixel_row size.w y b) n 0) place
            (row_byte size.w y a i k (omega (arith, inside, few)) ∙ e ∙ sym (row_byte size.w y b i k (omega (arith, inside, few))))),
      )

  here_or_above : (j : ℕ) → j < y + 1 → (j < y) ⊎ (j ≡ y)
  here_or_above j h = grind arith

  -- ---- a row that is the same

  same_row : pixel_row size.w y a ≡ pixel_row size.w y b → (i : ℕ) → i < size.w → DiffersIn 4 size.w a b i y → ⊥
  same_row same i inside differs = to_row i differs.0 inside differs.1 differs.2 (ap (λ (row : List ℕ). get_or row (4 * i + differs.0) 0) same)

  same_above : AreSame a b 0 (y * (4 * size.w)) → (i j : ℕ) → i < size.w → j < y → DiffersIn 4 size.w a b i j → ⊥
  same_above same i j inside above differs =
      differs.2 (same (4 * (j * size.w + i) + differs.0) (omega arith) (omega (arith, inside, differs.1, rows j above)))
    where
      rows : (j : ℕ) → j < y → j * size.w + size.w ≤ y * size.w
      rows j above =
          let below : j + 1 ≤ y = omega (arith, above) in
          let wide : size.w * (j + 1) ≤ size.w * y = mul-le-mul_left size.w below in
          omega (arith, wide)

  pub row_same : (changed : Option Changed) → IsBoxAbove size a b y changed → pixel_row size.w y a ≡ pixel_row size.w y b → IsBoxAbove size a b (y + 1) changed
  row_same None is same = λ k from to. elim (cases_lt k (y * (4 * size.w))) [
    | inl above ↦ is k from above
    | inr here ↦
        let m : ℕ = k - y * (4 * size.w) in
        let inside : m < 4 * size.w = omega (arith, here, to) in
        let place : y * (4 * size.w) + m ≡ k = omega (arith, here) in
        let at : (z : List ℕ) → get_or (pixel_row size.w y z) m 0 ≡ get_or z k 0 =
        λ z. get_or-take (4 * size.w) (drop (y * (4 * size.w)) z) m 0 inside ∙ get_or-drop (y * (4 * size.w)) z m 0 ∙ ap (λ n. get_or z n 0) place in
        sym (at a) ∙ ap (λ (row : List ℕ). get_or row m 0) same ∙ at b
  ]
  row_same (Some box) is same = record {
    has = λ i j wide high differs. elim (here_or_above j differs.0) [
      | inl above ↦ is.has i j wide high (above, differs.1)
      | inr here ↦ absurd (same_row same i wide (subst (λ n. DiffersIn 4 size.w a b i n) here differs.1))
    ];
    least = λ other has. is.least other (λ i j wide high differs. has i j wide high (omega (arith, differs.0), differs.1));
  }

  -- ---- a row that differs

  module _ (columns : Columns) (row : DifferBetween (pixel_row size.w y a) (pixel_row size.w y b) columns) (whole : length (pixel_row size.w y a) ≡ 4 * size.w) where
    ends : columns.end ≤ size.w
    ends = omega (arith, row.within, whole)

    between : (i : ℕ) → i < size.w → DiffersIn 4 size.w a b i y → (columns.first ≤ i) × (i < columns.end)
    between i inside differs =
        let byte = to_row i differs.0 inside differs.1 differs.2 in (
          elim (cases_lt (4 * i + differs.0) (4 * columns.first)) [
            | inl less ↦ absurd (byte (row.before (4 * i + differs.0) (omega arith) less))
            | inr past ↦ omega (arith, past, differs.1)
          ],
          elim (cases_lt (4 * i + differs.0) (4 * columns.end)) [
            | inl less ↦ omega (arith, less)
            | inr past ↦ absurd (byte (row.behind (4 * i + differs.0) past (omega (arith, whole, inside, differs.1))))
          ],
        )

    first_pixel : DiffersIn 4 size.w a b columns.first y
    first_pixel = from_row columns.first row.first.0 (omega (arith, row.order, ends)) row.first.1 row.first.2 row.first.3

    last_pixel : DiffersIn 4 size.w a b (columns.end - 1) y
    last_pixel = from_row (columns.end - 1) row.last.0 (omega (arith, row.order, ends)) (omega (arith, row.order, row.last.1)) (omega (arith, row.order, row.last.2)) row.last.3

    -- Each box that has all pixels has the ends of the row.
    reaches : (other : Changed) → HasAll size (DifferAbove size.w a b (y + 1)) other → LiesInside (row_box columns y) other
    reaches other has =
        let one = has columns.first y (omega (arith, row.order, ends)) low (omega arith, first_pixel) in
        let two = has (columns.end - 1) y (omega (arith, row.order, ends)) low (omega arith, last_pixel) in
        record { left = one.left; right = omega (arith, two.right, row.order); top = one.top; bottom = omega (arith, one.bottom) }

    pub row_differs : (changed : Option Changed) → IsBoxAbove size a b y changed → IsBoxAbove size a b (y + 1) (with_columns changed (Some columns) y)
    row_differs None is = record {
      has = λ i j wide high differs. elim (here_or_above j differs.0) [
        | inl above ↦ absurd (same_above is i j wide above differs.1)
        | inr here ↦
            let inside = between i wide (subst (λ n. DiffersIn 4 size.w a b i n) here differs.1) in
            record { left = inside.0; right = inside.1; top = omega (arith, here); bottom = omega (arith, here) }
      ];
      least = reaches;
    }
    row_differs (Some box) is =
        let down = (least_on_frame size (DifferAbove size.w a b y) box is).down in
        let flat : Changed = record { x1 = box.x1; y1 = box.y1; x2 = box.x2; y2 = y } in
        let above_flat : HasAll size (DifferAbove size.w a b y) flat = λ i j wide high differs.
        let inside = is.has i j wide high differs in record { left = inside.left; right = inside.right; top = inside.top; bottom = differs.0 } in
        let over : box.y1 ≤ y = omega (arith, down, (is.least flat above_flat).bottom) in
        record {
          has = λ i j wide high differs. elim (here_or_above j differs.0) [
            | inl above ↦
                let inside = is.has i j wide high (above, differs.1) in
                record { left = omega (arith, inside.left); right = omega (arith, inside.right); top = inside.top; bottom = differs.0 }
            | inr here ↦
                let inside = between i wide (subst (λ n. DiffersIn 4 size.w a b i n) here differs.1) in
                record { left = omega (arith, inside.0); right = omega (arith, inside.1); top = omega (arith, over, here); bottom = differs.0 }
          ];
          least = λ other has.
              let old = is.least other (λ i j wide high differs. has i j wide high (omega (arith, differs.0), differs.1)) in
              let new = reaches other has in
              record { left = omega (arith, old.left, new.left); right = omega (arith, old.right, new.right); top = old.top; bottom = new.bottom };
        }
