-- Tiles, and rows that are columns of others.
use Rattle.std.proofs.Common.{◌≡◌, ◌≢◌, ℕ, ◌+◌, ◌-◌, ◌*◌, ◌/◌, ◌%◌, ◌<◌, ◌≤◌, ℤ, List, length, set, get_or, ap, refl, ◌∙◌, ◌⊎◌, inl, inr, arith, length-set, get_or-set_same, get_or-set_other}
use Rattle.std.proofs.lemmas.Bool.{cases_lt}
use Rattle.std.proofs.lemmas.Nat.{mul-le}
use borrow.Rule.Slice.PartMut.{put_mid}
use Rattle.mask_blur.specs.Shown.{Shows}
use Rattle.mask_blur.specs.Transposed.{IsTransposedAt}
use Rattle.mask_blur.proofs.PutLemmas.{put_below, put_inside, put_behind}

-- two bytes more
pub pair-step : (g : ℕ → ℕ) (xs : List ℕ) (k a b : ℕ) → 2 * k + 1 < length xs → a ≡ g (2 * k) → b ≡ g (2 * k + 1)
    → ((j : ℕ) → j < 2 * k → get_or xs j 0 ≡ g j)
    → (j : ℕ) → j < 2 * (k + 1) → get_or (set (set xs (2 * k) a) (2 * k + 1) b) j 0 ≡ g j
pair-step g xs k a b fits p q was j below =
    let one : List ℕ = set xs (2 * k) a in
    let one_len : length one ≡ length xs = length-set xs (2 * k) a in
    elim (cases_lt j (2 * k)) [
      | inl less ↦
          let m : j ≢ 2 * k = omega arith in
          let n : j ≢ 2 * k + 1 = omega arith in
          get_or-set_other one (2 * k + 1) j b 0 n ∙ (get_or-set_other xs (2 * k) j a 0 m ∙ was j less)
      | inr from ↦ elim (cases_lt j (2 * k + 1)) [
        | inl here ↦
            let is : j ≡ 2 * k = omega arith in
            rw is (let n : 2 * k ≢ 2 * k + 1 = omega arith in get_or-set_other one (2 * k + 1) (2 * k) b 0 n ∙ (get_or-set_same xs (2 * k) a 0 (omega arith) ∙ p))
        | inr last ↦
            let is : j ≡ 2 * k + 1 = omega arith in
            rw is (get_or-set_same one (2 * k + 1) b 0 (omega arith) ∙ q)
      ]
    ]

-- the second list has the bytes of the halves of the first by turns
abbrev pub IsInterleaved : List ℕ → List ℕ → Type 0
IsInterleaved xs ys = (k : ℕ) → k < 256 → get_or ys k 0 ≡ get_or xs (k / 2 + 128 * (k % 2)) 0

twice : (xs ys zs : List ℕ) → IsInterleaved xs ys → IsInterleaved ys zs → (k : ℕ) → k < 256 → get_or zs k 0 ≡ get_or xs (k / 4 + 64 * (k % 4)) 0
twice xs ys zs first second k below =
    let inner = k / 2 + 128 * (k % 2) in
    let same : inner / 2 + 128 * (inner % 2) ≡ k / 4 + 64 * (k % 4) = omega arith in
    second k below ∙ (first inner (omega arith) ∙ ap (λ n. get_or xs n 0) same)

-- four times: rows of 16 are columns
pub four_times : (vs bs cs ds es : List ℕ) → IsInterleaved vs bs → IsInterleaved bs cs → IsInterleaved cs ds → IsInterleaved ds es
    → (a b : ℕ) → a < 16 → b < 16 → get_or es (16 * a + b) 0 ≡ get_or vs (16 * b + a) 0
four_times vs bs cs ds es p q r s a b a_less b_less =
    let k = 16 * a + b in
    let inner = k / 4 + 64 * (k % 4) in
    let same : inner / 4 + 64 * (inner % 4) ≡ 16 * b + a = omega arith in
    twice cs ds es r s k (omega arith) ∙ (twice vs bs cs p q inner (omega arith) ∙ ap (λ n. get_or vs n 0) same)

-- sixteen bytes more of a tile that is taken
pub tile-more : (xs tile row : List ℕ) (w start i n : ℕ) → length tile ≡ 256 → i < 16 → length row ≡ 16
    → ((b : ℕ) → b < 16 → get_or row b 0 ≡ get_or xs (start + i * w + b) 0)
    → ((k : ℕ) → k < 16 * i → get_or tile k 0 ≡ get_or xs (start + k / 16 * w + k % 16) 0)
    → (k : ℕ) → k < 16 * (i + 1) → get_or (put_mid (16 * i) n tile row) k 0 ≡ get_or xs (start + k / 16 * w + k % 16) 0
tile-more xs tile row w start i n long few wide taken was k below = elim (cases_lt k (16 * i)) [
  | inl less ↦ put_below (16 * i) n k tile row less (omega arith) ∙ was k less
  | inr from ↦
      let row_is : k / 16 ≡ i = omega arith in
      let at : k ≡ 16 * i + (k - 16 * i) = omega arith in
      let column : k % 16 ≡ k - 16 * i = omega arith in
      let place : start + i * w + (k - 16 * i) ≡ start + k / 16 * w + k % 16 = omega (arith, ap (λ z. z * w) row_is) in
      ap (λ z. get_or (put_mid (16 * i) n tile row) z 0) at ∙ (put_inside (16 * i) n (k - 16 * i) tile row (omega arith) (omega arith) ∙ (taken (k - 16 * i) (omega arith) ∙ ap (λ z. get_or xs z 0) place))
]

-- a row more of a block that is put
pub block-put : (f : ℕ → ℕ → ℕ) (h i j a c n : ℕ) (before to row : List ℕ) → j + c ≤ h → (i + a) * h + j + c ≤ length to → length row ≡ c → n ≡ c
    → ((b : ℕ) → b < c → get_or row b 0 ≡ f (i + a) (j + b))
    → ((u v : ℕ) → v < h → ((i ≤ u) × (u < i + a) × (j ≤ v) × (v < j + c)) ⊎ (get_or before (u * h + v) 0 ≡ f u v) → get_or to (u * h + v) 0 ≡ f u v)
    → (u v : ℕ) → v < h → ((i ≤ u) × (u < i + (a + 1)) × (j ≤ v) × (v < j + c)) ⊎ (get_or before (u * h + v) 0 ≡ f u v)
    → get_or (put_mid ((i + a) * h + j) n to row) (u * h + v) 0 ≡ f u v
block-put f h i j a c n before to row inside fits wide many is was u v v_less known =
    let start = (i + a) * h + j in
    elim (cases_lt u (i + a)) [
      | inl above ↦
          let rows : (u + 1) * h ≤ (i + a) * h = mul-le (u + 1) h (i + a) h (omega arith) (omega arith) in
          put_below start n (u * h + v) to row (omega (arith, rows)) (omega arith) ∙ was u v v_less (elim known [ inl t ↦ inl (t.0, above, t.2, t.3) | inr o ↦ inr o ])
      | inr from ↦ elim (cases_lt (i + a) u) [
        | inl under ↦
            let rows : (i + a + 1) * h ≤ u * h = mul-le (i + a + 1) h u h (omega arith) (omega arith) in
            put_behind start n (u * h + v) to row (omega arith) (omega arith) (omega (arith, rows)) ∙ was u v v_less (elim known [ inl t ↦ absurd (omega (arith, t.1)) | inr o ↦ inr o ])
        | inr till ↦
            let row_is : u ≡ i + a = omega arith in
            let at : u * h ≡ (i + a) * h = ap (λ z. z * h) row_is in
            elim (cases_lt v j) [
              | inl left ↦ put_below start n (u * h + v) to row (omega (arith, at)) (omega arith) ∙ was u v v_less (elim known [ inl t ↦ absurd (omega (arith, t.2)) | inr o ↦ inr o ])
              | inr right ↦ elim (cases_lt v (j + c)) [
                | inl within ↦
                    let place : u * h + v ≡ start + (v - j) = omega (arith, at) in
                    let column : j + (v - j) ≡ v = omega arith in
                    ap (λ z. get_or (put_mid start n to row) z 0) place ∙ (put_inside start n (v - j) to row (omega arith) (omega arith) ∙ (is (v - j) (omega arith) ∙ rw (column, row_is) (refl)))
                | inr behind ↦ put_behind start n (u * h + v) to row (omega arith) (omega arith) (omega (arith, at)) ∙ was u v v_less (elim known [ inl t ↦ absurd (omega (arith, t.3)) | inr o ↦ inr o ])
              ]
            ]
      ]
    ]

-- sixteen bytes more of a tile that is put
pub tile-put : (f : ℕ → ℕ → ℕ) (h i j a n : ℕ) (before to row : List ℕ) → j + 16 ≤ h → (i + a) * h + j + 16 ≤ length to → length row ≡ 16 → n ≡ 16
    → ((b : ℕ) → b < 16 → get_or row b 0 ≡ f (i + a) (j + b))
    → ((u v : ℕ) → v < h → ((i ≤ u) × (u < i + a) × (j ≤ v) × (v < j + 16)) ⊎ (get_or before (u * h + v) 0 ≡ f u v) → get_or to (u * h + v) 0 ≡ f u v)
    → (u v : ℕ) → v < h → ((i ≤ u) × (u < i + (a + 1)) × (j ≤ v) × (v < j + 16)) ⊎ (get_or before (u * h + v) 0 ≡ f u v)
    → get_or (put_mid ((i + a) * h + j) n to row) (u * h + v) 0 ≡ f u v
tile-put f h i j a n before to row = block-put f h i j a 16 n before to row

-- a whole row more
pub row-put : (g : ℕ → ℕ → ℕ) (h u n : ℕ) (to row : List ℕ) → length row ≡ h → u * h + h ≤ length to
    → ((v : ℕ) → v < h → get_or row v 0 ≡ g u v)
    → ((p v : ℕ) → p < u → v < h → get_or to (p * h + v) 0 ≡ g p v)
    → (p v : ℕ) → p < u + 1 → v < h → get_or (put_mid (u * h) n to row) (p * h + v) 0 ≡ g p v
row-put g h u n to row wide fits is was p v p_less v_less = elim (cases_lt p u) [
  | inl above ↦
      let rows : (p + 1) * h ≤ u * h = mul-le (p + 1) h u h (omega arith) (omega arith) in
      put_below (u * h) n (p * h + v) to row (omega (arith, rows)) (omega arith) ∙ was p v above v_less
  | inr from ↦
      let row_is : p ≡ u = omega arith in
      rw row_is (put_inside (u * h) n v to row (omega arith) (omega arith) ∙ is v v_less)
]

-- the picture with its axes exchanged
pub transposed_shows : (f : ℤ → ℤ → ℕ) (x y : ℤ) (w h : ℕ) (from to : List ℕ) → Shows f x y w h from
    → ((u v : ℕ) → u < w → v < h → IsTransposedAt w h from to u v) → Shows (λ u v. f v u) y x h w to
transposed_shows f x y w h from to shows is = record {
  inside = record { cells = λ i j a b. is j i b a ∙ shows.inside.cells j i b a };
  outside = record { rows = λ v. shows.outside.columns v; columns = λ u. shows.outside.rows u };
}

-- where a byte of a tile comes from
pub tile-start : (xs : List ℕ) (w i j a b : ℕ) → a < 16 → get_or xs (j * w + i + (16 * b + a) / 16 * w + (16 * b + a) % 16) 0 ≡ get_or xs ((j + b) * w + (i + a)) 0
tile-start xs w i j a b less =
    let row : (16 * b + a) / 16 ≡ b = omega arith in
    let place : j * w + i + (16 * b + a) / 16 * w + (16 * b + a) % 16 ≡ (j + b) * w + (i + a) = omega (arith, ap (λ z. z * w) row) in
    ap (λ z. get_or xs z 0) place

-- sixteen bytes of a row more, in the columns from `at` on
pub strip-put : (f : ℕ → ℕ → ℕ) (w at k n : ℕ) (before to row : List ℕ) → at + 16 ≤ w → k * w + at + 16 ≤ length to → length row ≡ 16 → n ≡ 16
    → ((b : ℕ) → b < 16 → get_or row b 0 ≡ f k (at + b))
    → ((u v : ℕ) → v < w → ((u < k) × (at ≤ v) × (v < at + 16)) ⊎ (get_or before (u * w + v) 0 ≡ f u v) → get_or to (u * w + v) 0 ≡ f u v)
    → (u v : ℕ) → v < w → ((u < k + 1) × (at ≤ v) × (v < at + 16)) ⊎ (get_or before (u * w + v) 0 ≡ f u v)
    → get_or (put_mid (k * w + at) n to row) (u * w + v) 0 ≡ f u v
strip-put f w at k n before to row inside fits wide many is was u v v_less known =
    let same : 0 + k ≡ k = omega arith in
    let put = tile-put f w 0 at k n before to row inside (rw same fits) wide many (rw same is)
    (λ p q q_less p_known. was p q q_less (elim p_known [ inl t ↦ inl (omega (arith, t.1), t.2, t.3) | inr o ↦ inr o ]))
    u v v_less (elim known [ inl t ↦ inl (omega arith, omega (arith, t.0), t.1, t.2) | inr o ↦ inr o ]) in
    rw same at put
