-- What a trim leaves, and how to show that it keeps a fact.
use Rattle.std.proofs.Common.{◌≡◌, ℕ, zero, suc, ◌<◌, Bool, true, false, cond, not, length, refl, sym, ap, ◌∙◌, subst, arith}
use Rattle.std.proofs.lemmas.Bool.{or_parts, not-false}
use Rattle.evict_core.specs.Recency.{without_last}
use Rattle.evict_core.specs.Machine.{State, is_idle, has_idle, evict, evict_all, is_within, least, trim}
use Rattle.evict_core.specs.Laws.{TrimsBy}
use Rattle.evict_core.proofs.RecencyLemmas.{length-without_last}

least-before : (test : ℕ → Bool) (n i : ℕ) → i < least test n → test i ≡ false
least-before test zero i below = absurd (omega arith)
least-before test (suc n) zero below = (elim (test 0) as (λ b. test 0 ≡ b → 0 < cond b 0 (suc (least (λ j. test (suc j)) n)) → test 0 ≡ false) [
  | true ↦ λ t l. absurd (omega arith)
  | false ↦ λ t l. t
]) refl below
least-before test (suc n) (suc i) below = (elim (test 0) as (λ b. suc i < cond b 0 (suc (least (λ j. test (suc j)) n)) → test (suc i) ≡ false) [
  | true ↦ λ l. absurd (omega arith)
  | false ↦ λ l. least-before (λ j. test (suc j)) n i (omega arith)
]) below

least-none : (test : ℕ → Bool) (n : ℕ) → test 0 ≡ true → least test n ≡ 0
least-none test zero here = refl
least-none test (suc n) here = rw here

least-next : (test : ℕ → Bool) (n : ℕ) → test 0 ≡ false → least test (suc n) ≡ suc (least (λ j. test (suc j)) n)
least-next test n here = rw here

module _ {K V : Type 0} where
  pub some-idle : (s : State K V) → is_within s ≡ false → has_idle s.entries ≡ true
  some-idle s outside = not-false (has_idle s.entries) (or_parts (not (has_idle s.entries)) _ outside).0

  pub trim-done : (s : State K V) → is_within s ≡ true → trim s ≡ s
  unfolding trim
  trim-done s within = ap (λ (j : ℕ). evict_all j s) (least-none (λ j. is_within (evict_all j s)) (length s.entries) within)

  pub trim-more : (s : State K V) → is_within s ≡ false → trim s ≡ trim (evict s)
  unfolding trim
  trim-more s outside =
      let shorter : length s.entries ≡ suc (length (without_last is_idle s.entries)) = sym (length-without_last is_idle s.entries (some-idle s outside)) in
      ap (λ (n : ℕ). evict_all (least (λ j. is_within (evict_all j s)) n) s) shorter
      ∙ ap (λ (j : ℕ). evict_all j s) (least-next (λ j. is_within (evict_all j s)) (length (without_last is_idle s.entries)) outside)

  no-room : (s : State K V) → length s.entries ≡ 0 → is_within s ≡ false → ⊥
  no-room s none outside = omega (arith, length-without_last is_idle s.entries (some-idle s outside))

  one-fewer : (s : State K V) (n : ℕ) → length s.entries ≡ suc n → is_within s ≡ false → length (evict s).entries ≡ n
  one-fewer s n some outside = omega (arith, length-without_last is_idle s.entries (some-idle s outside))

  -- what each eviction keeps, a trim keeps
  pub kept-by-trim : (P : State K V → Type 0) → ((s : State K V) → is_within s ≡ false → P s → P (evict s)) → (n : ℕ) (s : State K V) → length s.entries ≡ n → P s → P (trim s)
  kept-by-trim P keeps zero s len here = (elim (is_within s) as (λ b. is_within s ≡ b → P (trim s)) [
    | true ↦ λ t. subst P (sym (trim-done s t)) here
    | false ↦ λ t. absurd (no-room s len t)
  ]) refl
  kept-by-trim P keeps (suc n) s len here = (elim (is_within s) as (λ b. is_within s ≡ b → P (trim s)) [
    | true ↦ λ t. subst P (sym (trim-done s t)) here
    | false ↦ λ t. subst P (sym (trim-more s t)) (kept-by-trim P keeps n (evict s) (one-fewer s n len t) (keeps s t here))
  ]) refl

  within-trim : (n : ℕ) (s : State K V) → length s.entries ≡ n → is_within (trim s) ≡ true
  within-trim zero s len = (elim (is_within s) as (λ b. is_within s ≡ b → is_within (trim s) ≡ true) [
    | true ↦ λ t. rw (trim-done s t) t
    | false ↦ λ t. absurd (no-room s len t)
  ]) refl
  within-trim (suc n) s len = (elim (is_within s) as (λ b. is_within s ≡ b → is_within (trim s) ≡ true) [
    | true ↦ λ t. rw (trim-done s t) t
    | false ↦ λ t. rw (trim-more s t) (within-trim n (evict s) (one-fewer s n len t))
  ]) refl

  pub is_within-trim : (s : State K V) → is_within (trim s) ≡ true
  is_within-trim s = within-trim (length s.entries) s refl

pub trims-least : {K V : Type 0} (s : State K V) → (j : ℕ) × TrimsBy s j
unfolding trim
trims-least s =
    let j = least (λ i. is_within (evict_all i s)) (length s.entries) in
    (j, record { is = refl; enough = is_within-trim s; fewest = λ i below. least-before (λ i. is_within (evict_all i s)) (length s.entries) i below })
