-- The table of sines rises, and what is read from it.
use Rattle.std.proofs.Common.{◌≡◌, ℕ, zero, suc, ◌+◌, ◌-◌, ◌*◌, ◌/◌, ◌<◌, ◌≤◌, min, Bool, true, ltb, ◌&&◌, get_or, refl, sym, ap, ◌∙◌, subst, inl, inr, arith}
use Rattle.std.proofs.Math.Nat.{mul-le-mul_left}
use Rattle.std.proofs.lemmas.Bool.{cases_lt}
use Rattle.std.proofs.lemmas.Bool.Decides.{Decides-below_and, Decides-and, Decides-ltb}
use Rattle.ass_num.specs.Sine.{sines, quarter_sine}

-- an entry is no greater than the next, which is at most 10,000
rises_at : ℕ → Bool
rises_at n = ltb (get_or sines n 0) (suc (get_or sines (suc n) 0)) && ltb (get_or sines (suc n) 0) 10001

-- the first n entries are so
rises : ℕ → Bool
rises zero = true
rises (suc n) = rises_at n && rises n

-- the whole table is so
table_rises : rises 90 ≡ true
unfolding rises rises_at sines
table_rises = refl

pub entry_rises : (d : ℕ) → d < 90 → (get_or sines d 0 ≤ get_or sines (d + 1) 0) × (get_or sines (d + 1) 0 ≤ 10000)
unfolding rises rises_at
entry_rises d inside =
    let P : ℕ → Type 0 = λ n. (get_or sines n 0 < suc (get_or sines (suc n) 0)) × (get_or sines (suc n) 0 < 10001) in
    let all = (Decides-below_and rises_at P rises (λ k. Decides-and _ _ (Decides-ltb _ _) (Decides-ltb _ _)) refl (λ _. refl) 90).0 table_rises in
    let here = all d inside in
    let next : get_or sines (d + 1) 0 ≡ get_or sines (suc d) 0 = ap (λ z. get_or sines z 0) (omega arith) in
    (omega (arith, here, next), omega (arith, here, next))

-- between two entries
abbrev pub between : ℕ → ℕ → ℕ
between d m = get_or sines d 0 + (get_or sines (d + 1) 0 - get_or sines d 0) * (m - d * 1000) / 1000

last_entry : between (min (90000 / 1000) 89) 90000 ≡ quarter_sine 90000
unfolding sines
last_entry = refl

pub quarter_is : (m : ℕ) → m ≤ 90000 → between (min (m / 1000) 89) m ≡ quarter_sine m
quarter_is m small = elim (cases_lt m 90000) [
  | inl below ↦
      let degree : min (m / 1000) 89 ≡ m / 1000 = omega arith in
      let low = get_or sines (m / 1000) 0 in
      let high = get_or sines (m / 1000 + 1) 0 in
      ap (λ z. between z m) degree ∙ ap (λ z. low + (high - low) * z / 1000) (omega arith)
  | inr last ↦
      let m_is : m ≡ 90000 = omega arith in
      let P : ℕ → Type 0 = λ z. between (min (z / 1000) 89) z ≡ quarter_sine z in
      subst P (sym m_is) last_entry
]

-- the same by the names of its parts
pub quarter_value : (m d low high : ℕ) → m ≤ 90000 → d ≡ min (m / 1000) 89 → low ≡ get_or sines d 0 → high ≡ get_or sines (d + 1) 0 → low + (high - low) * (m - d * 1000) / 1000 ≡ quarter_sine m
quarter_value m d low high small degree first second =
    ap (λ z. z + (high - z) * (m - d * 1000) / 1000) first ∙ ap (λ z. get_or sines d 0 + (z - get_or sines d 0) * (m - d * 1000) / 1000) second
    ∙ ap (λ z. between z m) degree ∙ quarter_is m small

-- What lies between two entries is at most the second.
pub between_most : (low high part : ℕ) → low ≤ high → high ≤ 10000 → part ≤ 1000 → low + (high - low) * part / 1000 ≤ 10000
between_most low high part order most small =
    let product = mul-le-mul_left (high - low) small in
    omega (arith, product)
