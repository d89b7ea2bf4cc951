-- Pictures whose bytes are 0 all around.
use Rattle.std.proofs.Common.{◌≡◌, ℕ, ◌+◌, ◌-◌, ◌*◌, ◌/◌, ◌<◌, ◌≤◌, ◌⊎◌, inl, inr, ℤ, pos, ◌+ℤ◌, ◌-ℤ◌, ◌<ℤ◌, ◌≤ℤ◌, List, get_or, take, replicate, refl, sym, ap, ◌∙◌, arith}
use Rattle.std.proofs.lemmas.Bool.{cases_lt}
use Rattle.std.proofs.lemmas.Int.{ints, by_lt_z}
use Rattle.std.proofs.lemmas.List.{get_or-take, get_or-replicate}
use Rattle.std.proofs.lemmas.Nat.{mul-le}
use Rattle.mask_blur.specs.Frames.{IsInFrame, IsFramed, IsSoftenedTo}
use Rattle.mask_blur.specs.Shown.{IsBoxed, Shows}
use Rattle.mask_blur.specs.Softening.{neighbour_sum, softer}
use Rattle.mask_blur.proofs.GrowthLemmas.{place_of}
use Rattle.mask_blur.proofs.ShownLemmas.{softer_boxed}

-- what holds at each of four sides
by_side : {A B C D P : Type 0} → A ⊎ B ⊎ C ⊎ D → (A → P) → (B → P) → (C → P) → (D → P) → P
by_side (inl p) a b c d = a p
by_side (inr (inl p)) a b c d = b p
by_side (inr (inr (inl p))) a b c d = c p
by_side (inr (inr (inr p))) a b c d = d p

-- where a frame of the plane lies
abbrev pub IsOutward : (x y : ℤ) (w h m : ℕ) (u v : ℤ) → Type 0
IsOutward x y w h m u v = (u <ℤ (x +ℤ pos m)) ⊎ ((x +ℤ pos w) ≤ℤ (u +ℤ pos m)) ⊎ (v <ℤ (y +ℤ pos m)) ⊎ ((y +ℤ pos h) ≤ℤ (v +ℤ pos (m + 2)))

-- a picture is 0 in the frame of its bytes
pub framed_zero : (f : ℤ → ℤ → ℕ) (x y : ℤ) (w h m : ℕ) (bytes : List ℕ) → Shows f x y w h bytes → IsFramed w h m bytes
    → (u v : ℤ) → IsOutward x y w h m u v → f u v ≡ 0
framed_zero f x y w h m bytes shows framed u v out =
    by_lt_z u x (λ far. (shows.outside.rows v).before u far)
    (λ left. by_lt_z u (x +ℤ pos w)
    (λ right. by_lt_z v y (λ far. (shows.outside.columns u).before v far)
    (λ top. by_lt_z v (y +ℤ pos h)
    (λ bottom. inside left right top bottom)
    (λ far. (shows.outside.columns u).behind v far)))
    (λ far. (shows.outside.rows v).behind u far))
  where
    inside : x ≤ℤ u → u <ℤ (x +ℤ pos w) → y ≤ℤ v → v <ℤ (y +ℤ pos h) → f u v ≡ 0
    inside left right top bottom =
        let column = place_of u x (u -ℤ x) refl left in
        let row = place_of v y (v -ℤ y) refl top in
        let i = column.0 in
        let j = row.0 in
        let i_less : i < w = omega (arith, ints, column.1) in
        let j_less : j < h = omega (arith, ints, row.1) in
        let there : IsInFrame w h m i j = by_side out
        (λ (a : u <ℤ (x +ℤ pos m)). inl (omega (arith, ints, column.1)))
        (λ (a : (x +ℤ pos w) ≤ℤ (u +ℤ pos m)). inr (inl (omega (arith, ints, column.1))))
        (λ (a : v <ℤ (y +ℤ pos m)). inr (inr (inl (omega (arith, ints, row.1)))))
        (λ (a : (y +ℤ pos h) ≤ℤ (v +ℤ pos (m + 2))). inr (inr (inr (omega (arith, ints, row.1))))) in
        rw (column.1, row.1) (sym (shows.inside.cells i j i_less j_less) ∙ framed i j i_less j_less there)

framed_boxed : (f : ℤ → ℤ → ℕ) (x y : ℤ) (w h m : ℕ) (bytes : List ℕ) → Shows f x y w h bytes → IsFramed w h m bytes
    → IsBoxed f (x +ℤ pos m) (y +ℤ pos m) (w - 2 * m) (h - (2 * m + 2))
framed_boxed f x y w h m bytes shows framed =
    let zero = framed_zero f x y w h m bytes shows framed in
    record {
      rows = λ v. record {
        before = λ u far. zero u v (inl far);
        behind = λ u far. zero u v (inr (inl (omega (arith, ints))));
      };
      columns = λ u. record {
        before = λ v far. zero u v (inr (inr (inl far)));
        behind = λ v far. zero u v (inr (inr (inr (omega (arith, ints)))));
      };
    }

-- and the softer one in a frame that is narrower by one
pub softer_zero : (f : ℤ → ℤ → ℕ) (x y : ℤ) (w h m : ℕ) (bytes : List ℕ) → 2 * (m + 1) ≤ w → 2 * m + 4 ≤ h
    → Shows f x y w h bytes → IsFramed w h (m + 1) bytes → (u v : ℤ) → IsOutward x y w h m u v → softer f u v ≡ 0
softer_zero f x y w h m bytes wide high shows framed u v out =
    let boxed = softer_boxed f (x +ℤ pos (m + 1)) (y +ℤ pos (m + 1)) (w - 2 * (m + 1)) (h - (2 * (m + 1) + 2)) (framed_boxed f x y w h (m + 1) bytes shows framed) in
    by_side out
    (λ (a : u <ℤ (x +ℤ pos m)). (boxed.rows v).before u (omega (arith, ints)))
    (λ (a : (x +ℤ pos w) ≤ℤ (u +ℤ pos m)). (boxed.rows v).behind u (omega (arith, ints)))
    (λ (a : v <ℤ (y +ℤ pos m)). (boxed.columns u).before v (omega (arith, ints)))
    (λ (a : (y +ℤ pos h) ≤ℤ (v +ℤ pos (m + 2))). (boxed.columns u).behind v (omega (arith, ints)))

-- the softer picture is 0 outside the box
pub softer_within : (f : ℤ → ℤ → ℕ) (x y : ℤ) (w h m : ℕ) (bytes : List ℕ) → 2 * (m + 1) ≤ w → 2 * m + 4 ≤ h
    → Shows f x y w h bytes → IsFramed w h (m + 1) bytes → IsBoxed (softer f) x y w h
softer_within f x y w h m bytes wide high shows framed =
    let zero = softer_zero f x y w h m bytes wide high shows framed in
    record {
      rows = λ v. record {
        before = λ u far. zero u v (inl (omega (arith, ints, far)));
        behind = λ u far. zero u v (inr (inl (omega (arith, ints, far))));
      };
      columns = λ u. record {
        before = λ v far. zero u v (inr (inr (inl (omega (arith, ints, far)))));
        behind = λ v far. zero u v (inr (inr (inr (omega (arith, ints, far)))));
      };
    }

-- a place of the frame lies outward
pub outward : (x y : ℤ) (w h m i j : ℕ) → IsInFrame w h m i j → IsOutward x y w h m (x +ℤ pos i) (y +ℤ pos j)
outward x y w h m i j place = by_side place
    (λ (a : i < m). inl (omega (arith, ints)))
    (λ (a : w ≤ i + m). inr (inl (omega (arith, ints))))
    (λ (a : j < m). inr (inr (inl (omega (arith, ints)))))
    (λ (a : h ≤ j + m + 2). inr (inr (inr (omega (arith, ints)))))

-- a wider frame
pub framed_more : (w h m n : ℕ) (bytes : List ℕ) → m ≤ n → IsFramed w h n bytes → IsFramed w h m bytes
framed_more w h m n bytes less framed i j a b place = framed i j a b (elim place [
  | inl p ↦ inl (omega (arith, p, less))
  | inr (inl p) ↦ inr (inl (omega (arith, p, less)))
  | inr (inr (inl p)) ↦ inr (inr (inl (omega (arith, p, less))))
  | inr (inr (inr p)) ↦ inr (inr (inr (omega (arith, p, less))))
])

-- sums 1 2 1 of a row above the frame's inner side
pub sum_above : (f : ℤ → ℤ → ℕ) (x y : ℤ) (w h m : ℕ) (bytes : List ℕ) → Shows f x y w h bytes → IsFramed w h m bytes
    → (u v : ℤ) → v <ℤ (y +ℤ pos m) → neighbour_sum (λ t. f t v) u ≡ 0
sum_above f x y w h m bytes shows framed u v above =
    let zero = λ (t : ℤ). framed_zero f x y w h m bytes shows framed t v (inr (inr (inl above))) in
    omega (arith, zero (u -ℤ pos 1), zero u, zero (u +ℤ pos 1))

-- row k + 1 of the bytes, from the byte before it to the one behind it
flat_row : (f : ℤ → ℤ → ℕ) (x y : ℤ) (w h m : ℕ) (bytes : List ℕ) → Shows f x y w h bytes → IsFramed w h (m + 1) bytes
    → (k t : ℕ) → 0 < w → k + 2 < h → t ≤ w + 1 → get_or bytes (k * w + w + t - 1) 0 ≡ f ((x -ℤ pos 1) +ℤ pos t) (y +ℤ pos (k + 1))
flat_row f x y w h m bytes shows framed k t some below within =
    let zero = framed_zero f x y w h (m + 1) bytes shows framed in
    elim (cases_lt 0 t) [
      | inr none ↦
          let place : k * w + w + t - 1 ≡ k * w + (w - 1) = omega arith in
          let byte : get_or bytes (k * w + (w - 1)) 0 ≡ 0 = framed (w - 1) k (omega arith) (omega arith) (inr (inl (omega arith))) in
          ap (λ n. get_or bytes n 0) place ∙ (byte ∙ sym (zero ((x -ℤ pos 1) +ℤ pos t) (y +ℤ pos (k + 1)) (inl (omega (arith, ints)))))
      | inl some_t ↦ elim (cases_lt w t) [
        | inr inner ↦
            let place : k * w + w + t - 1 ≡ (k + 1) * w + (t - 1) = omega arith in
            let column : x +ℤ pos (t - 1) ≡ (x -ℤ pos 1) +ℤ pos t = omega (arith, ints) in
            ap (λ n. get_or bytes n 0) place ∙ (shows.inside.cells (t - 1) (k + 1) (omega arith) (omega arith) ∙ ap (λ u. f u (y +ℤ pos (k + 1))) column)
        | inl last ↦
            let is : t ≡ w + 1 = omega arith in
            let place : k * w + w + t - 1 ≡ (k + 2) * w + 0 = omega arith in
            let byte : get_or bytes ((k + 2) * w + 0) 0 ≡ 0 = framed 0 (k + 2) some below (inl (omega arith)) in
            ap (λ n. get_or bytes n 0) place ∙ (byte ∙ sym (zero ((x -ℤ pos 1) +ℤ pos t) (y +ℤ pos (k + 1)) (inr (inl (omega (arith, ints, is))))))
      ]
    ]

-- and its sums 1 2 1
pub sum_below : (f : ℤ → ℤ → ℕ) (x y : ℤ) (w h m : ℕ) (bytes : List ℕ) → Shows f x y w h bytes → IsFramed w h (m + 1) bytes
    → (k t a b c : ℕ) → k + 2 < h → t < w → a ≡ get_or bytes (k * w + w + t - 1) 0 → b ≡ get_or bytes (k * w + w + t) 0 → c ≡ get_or bytes (k * w + w + t + 1) 0
    → a + 2 * b + c ≡ neighbour_sum (λ u. f u (y +ℤ pos (k + 1))) (x +ℤ pos t)
sum_below f x y w h m bytes shows framed k t a b c below within p q r =
    let flat = λ (d : ℕ) (less : d ≤ w + 1). flat_row f x y w h m bytes shows framed k d (omega arith) below less in
    let row = y +ℤ pos (k + 1) in
    let first : (x -ℤ pos 1) +ℤ pos t ≡ (x +ℤ pos t) -ℤ pos 1 = omega (arith, ints) in
    let second : (x -ℤ pos 1) +ℤ pos (t + 1) ≡ x +ℤ pos t = omega (arith, ints) in
    let third : (x -ℤ pos 1) +ℤ pos (t + 2) ≡ (x +ℤ pos t) +ℤ pos 1 = omega (arith, ints) in
    let middle : k * w + w + t ≡ k * w + w + (t + 1) - 1 = omega arith in
    let right : k * w + w + t + 1 ≡ k * w + w + (t + 2) - 1 = omega arith in
    let one : a ≡ f ((x +ℤ pos t) -ℤ pos 1) row = p ∙ (flat t (omega arith) ∙ ap (λ u. f u row) first) in
    let two : b ≡ f (x +ℤ pos t) row = q ∙ (ap (λ n. get_or bytes n 0) middle ∙ (flat (t + 1) (omega arith) ∙ ap (λ u. f u row) second)) in
    let three : c ≡ f ((x +ℤ pos t) +ℤ pos 1) row = r ∙ (ap (λ n. get_or bytes n 0) right ∙ (flat (t + 2) (omega arith) ∙ ap (λ u. f u row) third)) in
    omega (arith, one, two, three)

-- a softer value, by the sums of three rows
pub softer_cell : (f : ℤ → ℤ → ℕ) (y u : ℤ) (k both last next out : ℕ)
    → both ≡ neighbour_sum (λ t. f t ((y +ℤ pos k) -ℤ pos 1)) u + neighbour_sum (λ t. f t (y +ℤ pos k)) u + 8
    → last ≡ neighbour_sum (λ t. f t (y +ℤ pos k)) u → next ≡ neighbour_sum (λ t. f t (y +ℤ pos (k + 1))) u
    → out ≡ (both + (last + next)) / 16 → out ≡ softer f u (y +ℤ pos k)
softer_cell f y u k both last next out both_is last_is next_is out_is =
    let e : (y +ℤ pos k) +ℤ pos 1 ≡ y +ℤ pos (k + 1) = omega (arith, ints) in
    let there : next ≡ neighbour_sum (λ t. f t ((y +ℤ pos k) +ℤ pos 1)) u = rw e next_is in
    out_is ∙ ap (λ n. n / 16) (omega (arith, both_is, last_is, there))

-- the places of a strip, and those that are known already
pub strip_more : {P : Type 0} (w h m at i j : ℕ) → (i < at + 16) ⊎ (w ≤ i + m) ⊎ (j < m) ⊎ (h ≤ j + m + 2)
    → ((i < at) ⊎ (w ≤ i + m) ⊎ (j < m) ⊎ (h ≤ j + m + 2) → P) → ((m ≤ j) × (j + m + 2 < h) × (at ≤ i) × (i < at + 16)) ⊎ P
strip_more w h m at i j place known = elim place [
  | inr side ↦ inr (known (inr side))
  | inl less ↦ elim (cases_lt i at) [
    | inl left ↦ inr (known (inl left))
    | inr from ↦ elim (cases_lt j m) [
      | inl above ↦ inr (known (inr (inr (inl above))))
      | inr top ↦ elim (cases_lt (j + m + 2) h) [
        | inl bottom ↦ inl (top, bottom, from, less)
        | inr under ↦ inr (known (inr (inr (inr under))))
      ]
    ]
  ]
]

-- the bytes without the last two rows
pub shows_cut : (f : ℤ → ℤ → ℕ) (x y : ℤ) (w h n : ℕ) (bytes : List ℕ) → n ≡ h * w → Shows f x y w (h + 2) bytes → IsFramed w (h + 2) 0 bytes
    → Shows f x y w h (take n bytes)
shows_cut f x y w h n bytes count shows framed =
    let zero = framed_zero f x y w (h + 2) 0 bytes shows framed in
    record {
      inside = record {
        cells = λ i j i_less j_less.
            let rows : (j + 1) * w ≤ h * w = mul-le (j + 1) w h w (omega arith) (omega arith) in
            get_or-take n bytes (j * w + i) 0 (omega (arith, rows, count)) ∙ shows.inside.cells i j i_less (omega arith);
      };
      outside = record {
        rows = shows.outside.rows;
        columns = λ u. record {
          before = λ v far. (shows.outside.columns u).before v far;
          behind = λ v far. zero u v (inr (inr (inr (omega (arith, ints, far)))));
        };
      };
    }

-- a picture in a box that is wider on all sides
pub shown_widely : (f : ℤ → ℤ → ℕ) (x y : ℤ) (w h n : ℕ) (bytes before to : List ℕ) → Shows f x y w h bytes → ((k : ℕ) → get_or before k 0 ≡ 0)
    → ((g : ℕ → ℕ → ℕ) → ((a b : ℕ) → a < h → b < w → get_or bytes (a * w + b) 0 ≡ g (n + a) (n + b))
    → (u v : ℕ) → v < w + 2 * n → ((n ≤ u) × (u < n + h) × (n ≤ v) × (v < n + w)) ⊎ (get_or before (u * (w + 2 * n) + v) 0 ≡ g u v)
    → get_or to (u * (w + 2 * n) + v) 0 ≡ g u v)
    → Shows f (x -ℤ pos n) (y -ℤ pos n) (w + 2 * n) (h + 2 * n + 2) to
shown_widely f x y w h n bytes before to shows zeros put = record {
  inside = record { cells = λ i j i_less j_less. put (λ u v. f ((x -ℤ pos n) +ℤ pos v) ((y -ℤ pos n) +ℤ pos u)) same j i i_less (place i j) };
  outside = record {
    rows = λ v. record {
      before = λ u far. (shows.outside.rows v).before u (omega (arith, ints, far));
      behind = λ u far. (shows.outside.rows v).behind u (omega (arith, ints, far));
    };
    columns = λ u. record {
      before = λ v far. (shows.outside.columns u).before v (omega (arith, ints, far));
      behind = λ v far. (shows.outside.columns u).behind v (omega (arith, ints, far));
    };
  };
}
  where
    same : (a b : ℕ) → a < h → b < w → get_or bytes (a * w + b) 0 ≡ f ((x -ℤ pos n) +ℤ pos (n + b)) ((y -ℤ pos n) +ℤ pos (n + a))
    same a b a_less b_less =
        let column : x +ℤ pos b ≡ (x -ℤ pos n) +ℤ pos (n + b) = omega (arith, ints) in
        let row : y +ℤ pos a ≡ (y -ℤ pos n) +ℤ pos (n + a) = omega (arith, ints) in
        shows.inside.cells b a b_less a_less ∙ (ap (λ u. f u (y +ℤ pos a)) column ∙ ap (λ v. f ((x -ℤ pos n) +ℤ pos (n + b)) v) row)

    zero : (i j : ℕ) → f ((x -ℤ pos n) +ℤ pos i) ((y -ℤ pos n) +ℤ pos j) ≡ 0 → get_or before (j * (w + 2 * n) + i) 0 ≡ f ((x -ℤ pos n) +ℤ pos i) ((y -ℤ pos n) +ℤ pos j)
    zero i j none = zeros (j * (w + 2 * n) + i) ∙ sym none

    place : (i j : ℕ) → ((n ≤ j) × (j < n + h) × (n ≤ i) × (i < n + w)) ⊎ (get_or before (j * (w + 2 * n) + i) 0 ≡ f ((x -ℤ pos n) +ℤ pos i) ((y -ℤ pos n) +ℤ pos j))
    place i j = elim (cases_lt j n) [
      | inl above ↦ inr (zero i j ((shows.outside.columns ((x -ℤ pos n) +ℤ pos i)).before ((y -ℤ pos n) +ℤ pos j) (omega (arith, ints, above))))
      | inr top ↦ elim (cases_lt j (n + h)) [
        | inr under ↦ inr (zero i j ((shows.outside.columns ((x -ℤ pos n) +ℤ pos i)).behind ((y -ℤ pos n) +ℤ pos j) (omega (arith, ints, under))))
        | inl bottom ↦ elim (cases_lt i n) [
          | inl left ↦ inr (zero i j ((shows.outside.rows ((y -ℤ pos n) +ℤ pos j)).before ((x -ℤ pos n) +ℤ pos i) (omega (arith, ints, left))))
          | inr from ↦ elim (cases_lt i (n + w)) [
            | inr right ↦ inr (zero i j ((shows.outside.rows ((y -ℤ pos n) +ℤ pos j)).behind ((x -ℤ pos n) +ℤ pos i) (omega (arith, ints, right))))
            | inl inside ↦ inl (top, bottom, from, inside)
          ]
        ]
      ]
    ]

-- whose bytes are 0 around its old box
pub framed_value : (f : ℤ → ℤ → ℕ) (x y : ℤ) (w h n : ℕ) (bytes to : List ℕ) → Shows f x y w h bytes
    → Shows f (x -ℤ pos n) (y -ℤ pos n) (w + 2 * n) (h + 2 * n + 2) to → IsFramed (w + 2 * n) (h + 2 * n + 2) n to
framed_value f x y w h n bytes to shows wide i j i_less j_less place =
    let u = (x -ℤ pos n) +ℤ pos i in
    let v = (y -ℤ pos n) +ℤ pos j in
    let none : f u v ≡ 0 = elim place [
      | inl left ↦ (shows.outside.rows v).before u (omega (arith, ints, left))
      | inr (inl right) ↦ (shows.outside.rows v).behind u (omega (arith, ints, right))
      | inr (inr (inl above)) ↦ (shows.outside.columns u).before v (omega (arith, ints, above))
      | inr (inr (inr below)) ↦ (shows.outside.columns u).behind v (omega (arith, ints, below))
    ] in
    wide.inside.cells i j i_less j_less ∙ none

-- where a pass over 16 columns begins
pub softened_start_row : (w h m at k : ℕ) (from to : List ℕ) → k ≡ m → IsFramed w h (m + 1) from
    → IsSoftenedTo w h m at k from to to (replicate 16 0) (replicate 16 8)
softened_start_row w h m at k from to is framed = record {
  cells = λ f x y shows j i i_less known. elim known [ inl t ↦ absurd (omega (arith, is, t.0, t.1)) | inr o ↦ o ];
  last_sums = λ f x y shows b l. omega (arith, get_or-replicate {A = ℕ} 16 b 0 0 l, none f x y shows (x +ℤ pos (at + b)) (y +ℤ pos k) (omega (arith, ints, is)));
  both_sums = λ f x y shows b l. omega (
    arith,
    get_or-replicate {A = ℕ} 16 b 8 0 l,
    none f x y shows (x +ℤ pos (at + b)) (y +ℤ pos k) (omega (arith, ints, is)),
    none f x y shows (x +ℤ pos (at + b)) ((y +ℤ pos k) -ℤ pos 1) (omega (arith, ints, is)),
  );
}
  where
    none : (f : ℤ → ℤ → ℕ) (x y : ℤ) → Shows f x y w h from → (u v : ℤ) → v <ℤ (y +ℤ pos (m + 1)) → neighbour_sum (λ t. f t v) u ≡ 0
    none f x y shows u v above = sum_above f x y w h (m + 1) from shows framed u v above
