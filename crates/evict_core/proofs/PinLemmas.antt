-- What a step does to the pins and to the maker of a key.
use Rattle.std.proofs.Common.{◌≡◌, ℕ, ◌+◌, ◌-◌, ◌≤◌, Bool, true, false, cond, not, ◌||◌, ◌&&◌, ◌==◌, nat_lt, List, [], ◌∷◌, length, Option, Some, None, option_map, refl, sym, ap, ◌∙◌, subst, true≢false, arith}
use Rattle.std.specs.Cmp.{IsEquivalence}
use Rattle.std.proofs.lemmas.Bool.{eqb-true}
use Rattle.evict_core.specs.Recency.{Apart, change}
use Rattle.evict_core.specs.Machine.{Status, Flying, Ready, State, Hit, Claim, Crowded, Step, Ask, PinAll, Fill, Fail, Spill, Unpin, Limits, Hard, is_idle, one_pin_more, one_pin_less, pins_in, maker_in, evict, trim, has_room, status_of, ask_answer, answer_at, hit, hit_all, room_for_one, put_first, state_after, HitsEach, IsEnabled}
use Rattle.evict_core.specs.History.{one_if, times_named, takes, gives, is_open_after}
use Rattle.evict_core.proofs.RecencyLemmas.{cond-same, lookup-congr, lookup-to_front, lookup-change, lookup-remove, lookup-without_last, Apart-without_last, Apart-change}
use Rattle.evict_core.proofs.TrimLemmas.{kept-by-trim}
use Rattle.evict_core.proofs.StateLemmas.{IsSound, sound-hit, claim-has-room}

-- m makes what is found
abbrev pub makes : ℕ → Option ℕ → Bool
makes m None = false
makes m (Some n) = n == m

module _ {V : Type 0} where
  pub idle-pins : (st : Status V) → is_idle st ≡ true → pins_in (Some st) ≡ 0
  idle-pins (Flying n) idle = refl
  idle-pins (Ready pins cost value) idle = eqb-true pins 0 idle

  pub idle-maker : (st : Status V) → is_idle st ≡ true → maker_in (Some st) ≡ None
  idle-maker (Flying n) idle = absurd (true≢false (sym idle))
  idle-maker (Ready pins cost value) idle = refl

  maker-more : (o : Option (Status V)) → maker_in (option_map one_pin_more o) ≡ maker_in o
  maker-more None = refl
  maker-more (Some (Flying n)) = refl
  maker-more (Some (Ready pins cost value)) = refl

  maker-less : (o : Option (Status V)) → maker_in (option_map one_pin_less o) ≡ maker_in o
  maker-less None = refl
  maker-less (Some (Flying n)) = refl
  maker-less (Some (Ready pins cost value)) = refl

  pins-less : (o : Option (Status V)) → pins_in (option_map one_pin_less o) ≡ pins_in o - 1
  pins-less None = refl
  pins-less (Some (Flying n)) = refl
  pins-less (Some (Ready pins cost value)) = refl

  -- a key that is being made has no pins
  pub flying-pins : (o : Option (Status V)) (m : ℕ) → maker_in o ≡ Some m → pins_in o ≡ 0
  flying-pins None m h = cc
  flying-pins (Some (Flying n)) m h = refl
  flying-pins (Some (Ready pins cost value)) m h = cc

  pub flying-is : (o : Option (Status V)) (m : ℕ) → maker_in o ≡ Some m → o ≡ Some (Flying m)
  flying-is None m h = cc
  flying-is (Some (Flying n)) m h = cc
  flying-is (Some (Ready pins cost value)) m h = cc

  map-constant : (o : Option (Status V)) (st : Status V) (m : ℕ) → maker_in o ≡ Some m → option_map (λ _. st) o ≡ Some st
  map-constant None st m h = cc
  map-constant (Some (Flying n)) st m h = refl
  map-constant (Some (Ready pins cost value)) st m h = cc

module _ {K V : Type 0} (eq : K → K → Bool) (laws : IsEquivalence eq) where
  hit-adds : (s : State K V) (o : Option (Status V)) → answer_at s o ≡ Some Hit → pins_in (option_map one_pin_more o) ≡ pins_in o + 1
  hit-adds s None h = absurd ((elim (has_room s) as (λ b. Some (cond b Claim Crowded) ≡ Some Hit → ⊥) [ true ↦ λ h. cc | false ↦ λ h. cc ]) h)
  hit-adds s (Some (Flying n)) h = cc
  hit-adds s (Some (Ready pins cost value)) h = refl

  pins-hit : (s : State K V) (k q : K) → Apart eq s.entries → ask_answer eq s k ≡ Some Hit → pins_in (status_of eq (hit eq s k) q) ≡ pins_in (status_of eq s q) + one_if (eq q k)
  pins-hit s k q apart hits = rw (lookup-to_front eq laws k one_pin_more q s.entries apart) ((elim (eq q k) as (λ b. eq q k ≡ b → pins_in (cond b (option_map one_pin_more (status_of eq s q)) (status_of eq s q)) ≡ pins_in (status_of eq s q) + one_if b) [
    | true ↦ λ t. hit-adds s (status_of eq s q) (subst (λ (o : Option (Status V)). answer_at s o ≡ Some Hit) (sym (lookup-congr eq laws q k t s.entries)) hits)
    | false ↦ λ t. omega arith
  ]) refl)

  pub pins-hit_all : (ks : List K) (s : State K V) (q : K) → IsSound eq s → HitsEach eq s ks → pins_in (status_of eq (hit_all eq s ks) q) ≡ pins_in (status_of eq s q) + times_named eq q ks
  pins-hit_all [] s q sound each = omega arith
  pins-hit_all (k ∷ ks) s q sound each = omega (arith, pins-hit_all ks (hit eq s k) q (sound-hit eq laws s k sound) each.1, pins-hit s k q sound.apart each.0)

  pins-evict : (s : State K V) (q : K) → Apart eq s.entries → pins_in (status_of eq (evict s) q) ≡ pins_in (status_of eq s q)
  pins-evict s q apart = lookup-without_last eq laws is_idle q s.entries apart (λ o. pins_in o ≡ pins_in (status_of eq s q)) refl (λ x idle h. sym (idle-pins x idle) ∙ h)

  maker-evict : (s : State K V) (q : K) → Apart eq s.entries → maker_in (status_of eq (evict s) q) ≡ maker_in (status_of eq s q)
  maker-evict s q apart = lookup-without_last eq laws is_idle q s.entries apart (λ o. maker_in o ≡ maker_in (status_of eq s q)) refl (λ x idle h. sym (idle-maker x idle) ∙ h)

  pins-trim : (s : State K V) (q : K) → Apart eq s.entries → pins_in (status_of eq (trim s) q) ≡ pins_in (status_of eq s q)
  pins-trim s q apart = (kept-by-trim (λ (t : State K V). Apart eq t.entries × (pins_in (status_of eq t q) ≡ pins_in (status_of eq s q)))
      (λ t _ here. (Apart-without_last eq laws is_idle t.entries here.0, pins-evict t q here.0 ∙ here.1)) (length s.entries) s refl (apart, refl)).1

  maker-trim : (s : State K V) (q : K) → Apart eq s.entries → maker_in (status_of eq (trim s) q) ≡ maker_in (status_of eq s q)
  maker-trim s q apart = (kept-by-trim (λ (t : State K V). Apart eq t.entries × (maker_in (status_of eq t q) ≡ maker_in (status_of eq s q)))
      (λ t _ here. (Apart-without_last eq laws is_idle t.entries here.0, maker-evict t q here.0 ∙ here.1)) (length s.entries) s refl (apart, refl)).1

  pins-claim : (s : State K V) (m : ℕ) (k q : K) → Apart eq s.entries → status_of eq s k ≡ None → pins_in (status_of eq (put_first (room_for_one s) k m) q) ≡ pins_in (status_of eq s q)
  pins-claim s m k q apart absent = (elim (eq q k) as (λ b. eq q k ≡ b → pins_in (cond b (Some (Flying m)) (status_of eq (room_for_one s) q)) ≡ pins_in (status_of eq s q)) [
    | true ↦ λ t. sym (ap pins_in (lookup-congr eq laws q k t s.entries ∙ absent))
    | false ↦ λ t. elim (nat_lt (length s.entries) s.limit) as (λ b. pins_in (status_of eq (cond b s (evict s)) q) ≡ pins_in (status_of eq s q)) [
      | true ↦ refl
      | false ↦ pins-evict s q apart
    ]
  ]) refl

  maker-claim : (s : State K V) (m : ℕ) (k q : K) → Apart eq s.entries → maker_in (status_of eq (put_first (room_for_one s) k m) q) ≡ cond (eq q k) (Some m) (maker_in (status_of eq s q))
  maker-claim s m k q apart = elim (eq q k) as (λ b. maker_in (cond b (Some (Flying m)) (status_of eq (room_for_one s) q)) ≡ cond b (Some m) (maker_in (status_of eq s q))) [
    | true ↦ refl
    | false ↦ elim (nat_lt (length s.entries) s.limit) as (λ b. maker_in (status_of eq (cond b s (evict s)) q) ≡ maker_in (status_of eq s q)) [
      | true ↦ refl
      | false ↦ maker-evict s q apart
    ]
  ]

  pins-unpin : (s : State K V) (k q : K) → Apart eq s.entries → 1 ≤ pins_in (status_of eq s k) → pins_in (status_of eq (trim (record s { entries = change (eq k) one_pin_less s.entries })) q) + one_if (eq q k) ≡ pins_in (status_of eq s q) + 0
  pins-unpin s k q apart some =
      rw (pins-trim (record s { entries = change (eq k) one_pin_less s.entries }) q (Apart-change eq laws k one_pin_less s.entries apart), lookup-change eq laws k one_pin_less q s.entries)
      ((elim (eq q k) as (λ b. eq q k ≡ b → pins_in (cond b (option_map one_pin_less (status_of eq s q)) (status_of eq s q)) + one_if b ≡ pins_in (status_of eq s q) + 0) [
        | true ↦ λ t. let same : pins_in (status_of eq s q) ≡ pins_in (status_of eq s k) = ap pins_in (lookup-congr eq laws q k t s.entries) in
            omega (arith, pins-less (status_of eq s q), same, some)
        | false ↦ λ t. omega arith
      ]) refl)

  -- the pins of a key after an enabled step
  pub pins-after : (s : State K V) (held : K → ℕ) (m : ℕ) (step : Step K V) → IsSound eq s → IsEnabled eq s held m step → ((k : K) → held k ≤ pins_in (status_of eq s k)) → (q : K)
      → pins_in (status_of eq (state_after eq s m step) q) + gives eq q step ≡ pins_in (status_of eq s q) + takes eq q step
  pins-after s held m (Ask k Hit) sound enabled some q = omega (arith, pins-hit s k q sound.apart enabled)
  pins-after s held m (Ask k Claim) sound enabled some q = omega (arith, pins-claim s m k q sound.apart (claim-has-room eq laws s k enabled).0)
  pins-after s held m (Ask k Crowded) sound enabled some q = refl
  pins-after s held m (PinAll ks) sound enabled some q = omega (arith, pins-hit_all ks s q sound enabled)
  pins-after s held m (Fill k cost value) sound enabled some q = rw (lookup-to_front eq laws k (λ _. Ready 1 cost value) q s.entries sound.apart)
      ((elim (eq q k) as (λ b. eq q k ≡ b → pins_in (cond b (option_map (λ _. Ready 1 cost value) (status_of eq s q)) (status_of eq s q)) + 0 ≡ pins_in (status_of eq s q) + one_if b) [
        | true ↦ λ t. let made : maker_in (status_of eq s q) ≡ Some m = ap maker_in (lookup-congr eq laws q k t s.entries) ∙ enabled in
            rw (map-constant (status_of eq s q) (Ready 1 cost value) m made) (omega (arith, flying-pins (status_of eq s q) m made))
        | false ↦ λ t. refl
      ]) refl)
  pins-after s held m (Fail k) sound enabled some q = rw (lookup-remove eq laws k q s.entries sound.apart)
      ((elim (eq q k) as (λ b. eq q k ≡ b → pins_in (cond b None (status_of eq s q)) + 0 ≡ pins_in (status_of eq s q) + 0) [
        | true ↦ λ t. omega (arith, flying-pins (status_of eq s q) m (ap maker_in (lookup-congr eq laws q k t s.entries) ∙ enabled))
        | false ↦ λ t. refl
      ]) refl)
  pins-after s held m (Spill k cost) sound enabled some q = rw (lookup-remove eq laws k q s.entries sound.apart)
      ((elim (eq q k) as (λ b. eq q k ≡ b → pins_in (cond b None (status_of eq s q)) + 0 ≡ pins_in (status_of eq s q) + 0) [
        | true ↦ λ t. omega (arith, flying-pins (status_of eq s q) m (ap maker_in (lookup-congr eq laws q k t s.entries) ∙ enabled.0))
        | false ↦ λ t. refl
      ]) refl)
  pins-after s held m (Unpin k) sound enabled some q = pins-unpin s k q sound.apart (omega (arith, some k, enabled))
  pins-after s held m (Limits entries budget) sound enabled some q = ap (λ (n : ℕ). n + 0) (pins-trim (record s { limit = entries; budget = budget }) q sound.apart)
  pins-after s held m (Hard hard) sound enabled some q = refl

  maker-hit : (s : State K V) (k q : K) → Apart eq s.entries → maker_in (status_of eq (hit eq s k) q) ≡ maker_in (status_of eq s q)
  maker-hit s k q apart = rw (lookup-to_front eq laws k one_pin_more q s.entries apart) (elim (eq q k) as (λ b. maker_in (cond b (option_map one_pin_more (status_of eq s q)) (status_of eq s q)) ≡ maker_in (status_of eq s q)) [
    | true ↦ maker-more (status_of eq s q)
    | false ↦ refl
  ])

  maker-hit_all : (ks : List K) (s : State K V) (q : K) → IsSound eq s → maker_in (status_of eq (hit_all eq s ks) q) ≡ maker_in (status_of eq s q)
  maker-hit_all [] s q sound = refl
  maker-hit_all (k ∷ ks) s q sound = maker-hit_all ks (hit eq s k) q (sound-hit eq laws s k sound) ∙ maker-hit s k q sound.apart

  maker-unpin : (s : State K V) (k q : K) → Apart eq s.entries → maker_in (status_of eq (trim (record s { entries = change (eq k) one_pin_less s.entries })) q) ≡ maker_in (status_of eq s q)
  maker-unpin s k q apart =
      rw (maker-trim (record s { entries = change (eq k) one_pin_less s.entries }) q (Apart-change eq laws k one_pin_less s.entries apart), lookup-change eq laws k one_pin_less q s.entries)
      (elim (eq q k) as (λ b. maker_in (cond b (option_map one_pin_less (status_of eq s q)) (status_of eq s q)) ≡ maker_in (status_of eq s q)) [
        | true ↦ maker-less (status_of eq s q)
        | false ↦ refl
      ])

  -- a step that ends the making of k
  ends : (o : Option (Status V)) (m n : ℕ) → maker_in o ≡ Some m → false ≡ cond (m == n) false (makes n (maker_in o))
  ends o m n made = rw made (elim (m == n) as (λ b. false ≡ cond b false b) [ true ↦ refl | false ↦ refl ])

  -- n makes a key after an enabled step exactly where its claim is then open
  pub makes-after : (s : State K V) (held : K → ℕ) (m : ℕ) (step : Step K V) → IsSound eq s → IsEnabled eq s held m step → (q : K) (n : ℕ)
      → makes n (maker_in (status_of eq (state_after eq s m step) q)) ≡ cond (m == n) (is_open_after eq step q (makes n (maker_in (status_of eq s q)))) (makes n (maker_in (status_of eq s q)))
  makes-after s held m (Ask k Hit) sound enabled q n = ap (makes n) (maker-hit s k q sound.apart) ∙ sym (cond-same (m == n) _)
  makes-after s held m (Ask k Claim) sound enabled q n = rw (maker-claim s m k q sound.apart) ((elim (eq q k) as (λ b. eq q k ≡ b → makes n (cond b (Some m) (maker_in (status_of eq s q))) ≡ cond (m == n) (b || makes n (maker_in (status_of eq s q))) (makes n (maker_in (status_of eq s q)))) [
    | true ↦ λ t. let none : status_of eq s q ≡ None = lookup-congr eq laws q k t s.entries ∙ (claim-has-room eq laws s k enabled).0 in
        rw none (elim (m == n) as (λ b. b ≡ cond b true false) [ true ↦ refl | false ↦ refl ])
    | false ↦ λ t. sym (cond-same (m == n) _)
  ]) refl)
  makes-after s held m (Ask k Crowded) sound enabled q n = sym (cond-same (m == n) _)
  makes-after s held m (PinAll ks) sound enabled q n = ap (makes n) (maker-hit_all ks s q sound) ∙ sym (cond-same (m == n) _)
  makes-after s held m (Fill k cost value) sound enabled q n = rw (lookup-to_front eq laws k (λ _. Ready 1 cost value) q s.entries sound.apart)
      ((elim (eq q k) as (λ b. eq q k ≡ b → makes n (maker_in (cond b (option_map (λ _. Ready 1 cost value) (status_of eq s q)) (status_of eq s q))) ≡ cond (m == n) (not b && makes n (maker_in (status_of eq s q))) (makes n (maker_in (status_of eq s q)))) [
        | true ↦ λ t. let made : maker_in (status_of eq s q) ≡ Some m = ap maker_in (lookup-congr eq laws q k t s.entries) ∙ enabled in
            rw (map-constant (status_of eq s q) (Ready 1 cost value) m made) (ends (status_of eq s q) m n made)
        | false ↦ λ t. sym (cond-same (m == n) _)
      ]) refl)
  makes-after s held m (Fail k) sound enabled q n = rw (lookup-remove eq laws k q s.entries sound.apart)
      ((elim (eq q k) as (λ b. eq q k ≡ b → makes n (maker_in (cond b None (status_of eq s q))) ≡ cond (m == n) (not b && makes n (maker_in (status_of eq s q))) (makes n (maker_in (status_of eq s q)))) [
        | true ↦ λ t. ends (status_of eq s q) m n (ap maker_in (lookup-congr eq laws q k t s.entries) ∙ enabled)
        | false ↦ λ t. sym (cond-same (m == n) _)
      ]) refl)
  makes-after s held m (Spill k cost) sound enabled q n = rw (lookup-remove eq laws k q s.entries sound.apart)
      ((elim (eq q k) as (λ b. eq q k ≡ b → makes n (maker_in (cond b None (status_of eq s q))) ≡ cond (m == n) (not b && makes n (maker_in (status_of eq s q))) (makes n (maker_in (status_of eq s q)))) [
        | true ↦ λ t. ends (status_of eq s q) m n (ap maker_in (lookup-congr eq laws q k t s.entries) ∙ enabled.0)
        | false ↦ λ t. sym (cond-same (m == n) _)
      ]) refl)
  makes-after s held m (Unpin k) sound enabled q n = ap (makes n) (maker-unpin s k q sound.apart) ∙ sym (cond-same (m == n) _)
  makes-after s held m (Limits entries budget) sound enabled q n = ap (makes n) (maker-trim (record s { limit = entries; budget = budget }) q sound.apart) ∙ sym (cond-same (m == n) _)
  makes-after s held m (Hard hard) sound enabled q n = sym (cond-same (m == n) _)
