-- Lemmas on sixteen pixels that get a colour together.
use Rattle.std.proofs.Common.{◌≡◌, ◌≢◌, ℕ, suc, ◌+◌, ◌-◌, ◌*◌, ◌<◌, List, [], ◌∷◌, length, take, drop, set, get_or, refl, ◌∙◌, ◌⊎◌, inl, inr, arith, length-set, get_or-set_same, get_or-set_other, get_or-take, get_or-drop}
use Rattle.std.proofs.lemmas.Bool.{cases_lt}
use Rattle.ass_num.specs.declared.colour.Rgba.{Rgba}
use Rattle.blend.specs.Blending.{Tint, by_255, blended, tint_of, tinted}
use Rattle.blend.specs.Blocks.{channel, IsSolid}
use Rattle.blend.proofs.TintedLemmas.{cons-same}

-- a byte of the pixels up to number i is one of those before, or one of the three of pixel i
cases3 : (i k c : ℕ) → k < i + 1 → c < 3 → (k < i) ⊎ (((k ≡ i) × (c ≡ 0)) ⊎ (((k ≡ i) × (c ≡ 1)) ⊎ ((k ≡ i) × (c ≡ 2))))
cases3 i k c p q = elim (cases_lt k i) [
  | inl less ↦ inl less
  | inr from ↦ elim (cases_lt c 1) [
    | inl none ↦ inr (inl (omega arith, omega arith))
    | inr some ↦ elim (cases_lt c 2) [
      | inl one ↦ inr (inr (inl (omega arith, omega arith)))
      | inr two ↦ inr (inr (inr (omega arith, omega arith)))
    ]
  ]
]

-- the three bytes of one more pixel are written
pub pixel-step : (f : ℕ → ℕ → ℕ) (s : List ℕ) (i x y z : ℕ) → 3 * i + 2 < length s → x ≡ f i 0 → y ≡ f i 1 → z ≡ f i 2
    → ((k c : ℕ) → k < i → c < 3 → get_or s (3 * k + c) 0 ≡ f k c)
    → (k c : ℕ) → k < i + 1 → c < 3 → get_or (set (set (set s (3 * i) x) (3 * i + 1) y) (3 * i + 2) z) (3 * k + c) 0 ≡ f k c
pixel-step f s i x y z fits p q h was k c k_less c_less =
    let one : List ℕ = set s (3 * i) x in
    let two : List ℕ = set one (3 * i + 1) y in
    let one_len : length one ≡ length s = length-set s (3 * i) x in
    let two_len : length two ≡ length one = length-set one (3 * i + 1) y in
    elim (cases3 i k c k_less c_less) [
      | inl less ↦
          let a : 3 * k + c ≢ 3 * i = omega arith in
          let b : 3 * k + c ≢ 3 * i + 1 = omega arith in
          let d : 3 * k + c ≢ 3 * i + 2 = omega arith in
          get_or-set_other two (3 * i + 2) (3 * k + c) z 0 d ∙ (get_or-set_other one (3 * i + 1) (3 * k + c) y 0 b ∙ (get_or-set_other s (3 * i) (3 * k + c) x 0 a ∙ was k c less c_less))
      | inr (inl e) ↦
          let k_is : k ≡ i = e.0 in let c_is : c ≡ 0 = e.1 in
          rw (k_is, c_is) (
          let a : 3 * i + 0 ≡ 3 * i = omega arith in
          rw a (let b : 3 * i ≢ 3 * i + 1 = omega arith in
          let d : 3 * i ≢ 3 * i + 2 = omega arith in
          get_or-set_other two (3 * i + 2) (3 * i) z 0 d ∙ (get_or-set_other one (3 * i + 1) (3 * i) y 0 b ∙ (get_or-set_same s (3 * i) x 0 (omega arith) ∙ p))))
      | inr (inr (inl e)) ↦
          let k_is : k ≡ i = e.0 in let c_is : c ≡ 1 = e.1 in
          rw (k_is, c_is) (
          let d : 3 * i + 1 ≢ 3 * i + 2 = omega arith in
          get_or-set_other two (3 * i + 2) (3 * i + 1) z 0 d ∙ (get_or-set_same one (3 * i + 1) y 0 (omega arith) ∙ q))
      | inr (inr (inr e)) ↦
          let k_is : k ≡ i = e.0 in let c_is : c ≡ 2 = e.1 in
          rw (k_is, c_is) (get_or-set_same two (3 * i + 2) z 0 (omega arith) ∙ h)
    ]

-- Pixels are tinted where each byte is blended with the weight and the colour of its pixel.
pub tinted-bytes : (tint : ℕ → Tint) (n m : ℕ) (s t : List ℕ) → length s ≡ 3 * m → length t ≡ 3 * m
    → ((k c : ℕ) → k < m → c < 3 → get_or t (3 * k + c) 0 ≡ blended (get_or s (3 * k + c) 0) (channel (tint (n + k)).colour c) (tint (n + k)).weight)
    → t ≡ tinted tint n s
tinted-bytes tint n m [] [] p q h = refl
tinted-bytes tint n m [] (a ∷ t) p q h = absurd (omega arith)
tinted-bytes tint n m (a ∷ []) t p q h = absurd (omega arith)
tinted-bytes tint n m (a ∷ b ∷ []) t p q h = absurd (omega arith)
tinted-bytes tint n m (r ∷ g ∷ b ∷ s) [] p q h = absurd (omega arith)
tinted-bytes tint n m (r ∷ g ∷ b ∷ s) (x ∷ []) p q h = absurd (omega arith)
tinted-bytes tint n m (r ∷ g ∷ b ∷ s) (x ∷ y ∷ []) p q h = absurd (omega arith)
tinted-bytes tint n m (r ∷ g ∷ b ∷ s) (x ∷ y ∷ z ∷ t) p q h =
    let here : n + 0 ≡ n = omega arith in
    let first : x ≡ blended r (tint n).colour.r (tint n).weight = rw here at (h 0 0 (omega arith) (omega arith)) in
    let second : y ≡ blended g (tint n).colour.g (tint n).weight = rw here at (h 0 1 (omega arith) (omega arith)) in
    let third : z ≡ blended b (tint n).colour.b (tint n).weight = rw here at (h 0 2 (omega arith) (omega arith)) in
    let more : (k c : ℕ) → k < m - 1 → c < 3 → get_or t (3 * k + c) 0 ≡ blended (get_or s (3 * k + c) 0) (channel (tint (n + 1 + k)).colour c) (tint (n + 1 + k)).weight =
    λ k c l w.
    let place : 3 * (k + 1) + c ≡ suc (suc (suc (3 * k + c))) = omega arith in
    let number : n + (k + 1) ≡ n + 1 + k = omega arith in
    rw (place, number) at (h (k + 1) c (omega arith) w) in
    cons-same _ _ _ _ _ _ _ _ first second third (tinted-bytes tint (n + 1) (m - 1) s t (omega arith) (omega arith) more)

-- a whole weight leaves nothing of what was there
blended-whole : (under over alpha m : ℕ) → alpha ≡ 0 → m ≡ 255 → over ≡ blended under over (by_255 (m * (255 - alpha)))
blended-whole under over alpha m p q = rw (p, q) (omega arith)

-- Sixteen pixels that an opaque colour covers wholly have that colour.
pub block-solid : (colour : Rgba) (cover s t : List ℕ) → length s ≡ 48 → length t ≡ 48 → IsSolid colour t → colour.a ≡ 0
    → ((k : ℕ) → k < 16 → get_or cover k 0 ≡ 255) → t ≡ tinted (λ k. tint_of colour (get_or cover k 0)) 0 s
block-solid colour cover s t p q solid opaque whole =
    tinted-bytes (λ k. tint_of colour (get_or cover k 0)) 0 16 s t p q
    (λ k c l w.
    let number : 0 + k ≡ k = omega arith in
    rw number (solid k c l w ∙ blended-whole _ (channel colour c) colour.a _ opaque (whole k l)))

-- the coverage of part of a span
pub get_or-part : (s : List ℕ) (at len k : ℕ) → k < len → get_or (take len (drop at s)) k 0 ≡ get_or s (at + k) 0
get_or-part s at len k l = get_or-take len (drop at s) k 0 l ∙ get_or-drop at s k 0
