-- Several hits in a row, by the places of their keys.
use Rattle.std.proofs.Common.{◌≡◌, ℕ, ◌+◌, ◌<◌, Bool, true, false, cond, nat_lt, List, [], ◌∷◌, ◌++◌, Option, Some, None, option_map, refl, ap, ◌∙◌, subst, arith}
use Rattle.std.specs.Cmp.{IsEquivalence}
use Rattle.std.proofs.lemmas.Bool.{ltb-true}
use Rattle.evict_core.specs.Recency.{Apart}
use Rattle.evict_core.specs.Machine.{Status, Flying, Ready, State, Hit, Claim, Crowded, max_pins, has_room, one_pin_more, status_of, ask_answer, answer_at, hit, hit_all, HitsEach}
use Rattle.evict_core.specs.Asked.{ready_pins}
use Rattle.evict_core.specs.History.{one_if, times_named}
use Rattle.evict_core.specs.Laws.{ArePinnable, EachIsPinnable, PinsAfterAll, OneHitMore}
use Rattle.evict_core.proofs.RecencyLemmas.{lookup-to_front}
use Rattle.evict_core.proofs.AskLemmas.{hit-ready}
use Rattle.evict_core.proofs.StateLemmas.{IsSound, sound-hit}
use Rattle.evict_core.proofs.PinLemmas.{pins-hit_all}
use Rattle.evict_core.proofs.HistoryLemmas.{sound-replay}

module _ {V : Type 0} where
  more-pins : (o : Option (Status V)) (p : ℕ) → ready_pins o ≡ Some p → ready_pins (option_map one_pin_more o) ≡ Some (p + 1)
  more-pins None p is = cc
  more-pins (Some (Flying n)) p is = cc
  more-pins (Some (Ready pins cost value)) p is = let same : pins ≡ p = cc in ap (λ (n : ℕ). Some (n + 1)) same

  pins-before : (o : Option (Status V)) (p : ℕ) → ready_pins (option_map one_pin_more o) ≡ Some p → (n : ℕ) × (ready_pins o ≡ Some n) × (n + 1 ≡ p)
  pins-before None p is = cc
  pins-before (Some (Flying n)) p is = cc
  pins-before (Some (Ready pins cost value)) p is = let same : pins + 1 ≡ p = cc in (pins, refl, same)

module _ {K V : Type 0} (eq : K → K → Bool) (laws : IsEquivalence eq) where
  hits-at : (s : State K V) (k : K) (p : ℕ) → ready_pins (status_of eq s k) ≡ Some p → p < max_pins → ask_answer eq s k ≡ Some Hit
  hits-at s k p is few = by (status_of eq s k) refl is
    where
      by : (o : Option (Status V)) → status_of eq s k ≡ o → ready_pins o ≡ Some p → ask_answer eq s k ≡ Some Hit
      by None found is = cc
      by (Some (Flying n)) found is = cc
      by (Some (Ready pins cost value)) found is = let same : pins ≡ p = cc in hit-ready eq s k pins cost value found (omega (arith, same, few))

  hit-means : (s : State K V) (o : Option (Status V)) → answer_at s o ≡ Some Hit → (p : ℕ) × (ready_pins o ≡ Some p) × (p < max_pins)
  hit-means s None h = absurd ((elim (has_room s) as (λ b. Some (cond b Claim Crowded) ≡ Some Hit → ⊥) [ true ↦ λ h. cc | false ↦ λ h. cc ]) h)
  hit-means s (Some (Flying n)) h = cc
  hit-means s (Some (Ready pins cost value)) h = (
    pins,
    refl,
    (elim (nat_lt pins max_pins) as (λ b. nat_lt pins max_pins ≡ b → Some (cond b Hit Crowded) ≡ Some Hit → pins < max_pins) [
      | true ↦ λ t _. ltb-true _ _ t
      | false ↦ λ t h. cc
    ]) refl h,
  )

  ready-hit : (s : State K V) (k j : K) (p : ℕ) → Apart eq s.entries → ready_pins (status_of eq s j) ≡ Some p → ready_pins (status_of eq (hit eq s k) j) ≡ Some (p + one_if (eq j k))
  ready-hit s k j p apart is = rw (lookup-to_front eq laws k one_pin_more j s.entries apart) (elim (eq j k) as (λ b. ready_pins (cond b (option_map one_pin_more (status_of eq s j)) (status_of eq s j)) ≡ Some (p + one_if b)) [
    | true ↦ more-pins (status_of eq s j) p is
    | false ↦ is ∙ ap Some (omega arith)
  ])

  ready-before : (s : State K V) (k j : K) (p : ℕ) → Apart eq s.entries → ready_pins (status_of eq (hit eq s k) j) ≡ Some p → (n : ℕ) × (ready_pins (status_of eq s j) ≡ Some n) × (n + one_if (eq j k) ≡ p)
  ready-before s k j p apart is = (elim (eq j k) as (λ b. ready_pins (cond b (option_map one_pin_more (status_of eq s j)) (status_of eq s j)) ≡ Some p → (n : ℕ) × (ready_pins (status_of eq s j) ≡ Some n) × (n + one_if b ≡ p)) [
    | true ↦ λ is. pins-before (status_of eq s j) p is
    | false ↦ λ is. (p, is, omega arith)
  ]) (rw (lookup-to_front eq laws k one_pin_more j s.entries apart) at is)

  each-hits : (ks : List K) (s : State K V) → IsSound eq s → ArePinnable eq s ks → HitsEach eq s ks
  each-hits [] s sound all = tt
  each-hits (k ∷ ks) s sound all =
      let here = all [] ks k refl in (
        hits-at s k here.0 here.1 (omega (arith, here.2)),
        each-hits ks (hit eq s k) (sound-hit eq laws s k sound) (λ front back j is.
            let p = all (k ∷ front) back j (ap (λ (l : List K). k ∷ l) is) in
            (p.0 + one_if (eq j k), ready-hit s k j p.0 sound.apart p.1, omega (arith, p.2))),
      )

  hits-each : (front back : List K) (k : K) (s : State K V) → IsSound eq s → HitsEach eq s (front ++ k ∷ back) → (p : ℕ) × (ready_pins (status_of eq s k) ≡ Some p) × (p + times_named eq k front < max_pins)
  hits-each [] back k s sound each = let p = hit-means s (status_of eq s k) each.0 in (p.0, p.1, omega (arith, p.2))
  hits-each (f ∷ front) back k s sound each =
      let p = hits-each front back k (hit eq s f) (sound-hit eq laws s f sound) each.1 in
      let n = ready-before s f k p.0 sound.apart p.1 in
      (n.0, n.1, omega (arith, n.2, p.2))

module _ {K V : Type 0} (eq : K → K → Bool) where
  hit_all-push : (ks : List K) (k : K) (s : State K V) → hit_all eq s (ks ++ k ∷ []) ≡ hit eq (hit_all eq s ks) k
  hit_all-push [] k s = refl
  hit_all-push (j ∷ ks) k s = hit_all-push ks k (hit eq s j)

  each-push : (ks : List K) (k : K) (s : State K V) → HitsEach eq s ks → ask_answer eq (hit_all eq s ks) k ≡ Some Hit → HitsEach eq s (ks ++ k ∷ [])
  each-push [] k s each last = (last, tt)
  each-push (j ∷ ks) k s each last = (each.0, each-push ks k (hit eq s j) each.1 last)

  each-front : (ks : List K) (k : K) (s : State K V) → HitsEach eq s (ks ++ k ∷ []) → HitsEach eq s ks × (ask_answer eq (hit_all eq s ks) k ≡ Some Hit)
  each-front [] k s each = (tt, each.0)
  each-front (j ∷ ks) k s each = let rest = each-front ks k (hit eq s j) each.1 in ((each.0, rest.0), rest.1)

module _ {K : Type 0} (V : Type 0) (eq : K → K → Bool) where
  pub one-hit-more : OneHitMore V eq
  one-hit-more s ks k = (hit_all-push eq ks k s, (each-front eq ks k s, λ both. each-push eq ks k s both.0 both.1))

  module _ (laws : IsEquivalence eq) where
    pub each-is-pinnable : EachIsPinnable V eq
    each-is-pinnable limit budget h legal ks =
        let sound = sound-replay eq laws limit budget h legal in
        (λ each front back k is. hits-each eq laws front back k _ sound (subst (HitsEach eq (_)) is each), each-hits eq laws ks _ sound)

    pub pins-after-all : PinsAfterAll V eq
    pins-after-all limit budget h legal ks each k = pins-hit_all eq laws ks _ k (sound-replay eq laws limit budget h legal) each
