-- What holds of every state of a legal history, and that each enabled step keeps it.
use Rattle.std.proofs.Common.{◌≡◌, ℕ, suc, ◌+◌, ◌<◌, ◌≤◌, Bool, true, false, cond, ◌||◌, nat_lt, List, [], ◌∷◌, length, Option, Some, None, inl, inr, refl, sym, ap, ◌∙◌, subst, true≢false, arith}
use Rattle.std.specs.Cmp.{IsEquivalence}
use Rattle.std.specs.Map.{lookup_entry, remove_entry}
use Rattle.std.specs.Option.{option_map_or}
use Rattle.std.proofs.lemmas.Bool.{or_parts, or_cases, and_parts, not-true, leb-true, ltb-true, or_from}
use Rattle.evict_core.specs.Recency.{Apart, without_last, to_front, change}
use Rattle.evict_core.specs.Machine.{max_pins, Status, Flying, Ready, State, Hit, Claim, Crowded, Step, Ask, PinAll, Fill, Fail, Spill, Unpin, Limits, Hard, is_idle, idle_cost, one_pin_more, one_pin_less, has_idle, has_space, has_room, unpinned, evict, trim, status_of, ask_answer, answer_at, hit, hit_all, room_for_one, put_first, state_after, IsEnabled}
use Rattle.evict_core.proofs.RecencyLemmas.{Apart-remove, Apart-change, Apart-to_front, Apart-without_last, length-without_last, lookup-without_last}
use Rattle.evict_core.proofs.TrimLemmas.{kept-by-trim, is_within-trim}

module _ {V : Type 0} where
  pub busy-costs-nothing : (st : Status V) → is_idle st ≡ false → idle_cost st ≡ 0
  busy-costs-nothing (Flying n) busy = refl
  busy-costs-nothing (Ready pins cost value) busy = rw busy

  pub pinned-is-busy : (st : Status V) → is_idle (one_pin_more st) ≡ false
  pinned-is-busy (Flying n) = refl
  pinned-is-busy (Ready pins cost value) = grind arith

module _ {K V : Type 0} where
  pub nothing-idle : (es : List (K × Status V)) → has_idle es ≡ false → unpinned es ≡ 0
  nothing-idle [] none = refl
  nothing-idle (e ∷ es) none =
      let parts = or_parts (has_idle es) (is_idle e.1) none in
      rw (busy-costs-nothing e.1 parts.1, nothing-idle es parts.0)

  -- taking an entry away leaves no more to evict
  pub unpinned-remove : (test : K → Bool) (es : List (K × Status V)) → unpinned (remove_entry test es) ≤ unpinned es
  unpinned-remove test [] = omega arith
  unpinned-remove test (e ∷ es) = elim (test e.0) as (λ b. unpinned (cond b es (e ∷ remove_entry test es)) ≤ idle_cost e.1 + unpinned es) [
    | true ↦ omega arith
    | false ↦ omega (arith, unpinned-remove test es)
  ]

  pub idle-remove : (test : K → Bool) (es : List (K × Status V)) → has_idle es ≡ false → has_idle (remove_entry test es) ≡ false
  idle-remove test [] none = none
  idle-remove test (e ∷ es) none = let parts = or_parts (has_idle es) (is_idle e.1) none in
      elim (test e.0) as (λ b. has_idle (cond b es (e ∷ remove_entry test es)) ≡ false) [
        | true ↦ parts.0
        | false ↦ or_from _ _ (idle-remove test es parts.0) parts.1
      ]

  pub length-remove : (test : K → Bool) (es : List (K × Status V)) → length (remove_entry test es) ≤ length es
  length-remove test [] = omega arith
  length-remove test (e ∷ es) = elim (test e.0) as (λ b. length (cond b es (e ∷ remove_entry test es)) ≤ suc (length es)) [
    | true ↦ omega arith
    | false ↦ omega (arith, length-remove test es)
  ]

  pub length-remove-found : (test : K → Bool) (es : List (K × Status V)) (e : K × Status V) → lookup_entry test es ≡ Some e → suc (length (remove_entry test es)) ≡ length es
  length-remove-found test [] e found = cc
  length-remove-found test (d ∷ es) e found = (elim (test d.0) as (λ b. test d.0 ≡ b → suc (length (cond b es (d ∷ remove_entry test es))) ≡ suc (length es)) [
    | true ↦ λ t. refl
    | false ↦ λ t. ap suc (length-remove-found test es e (rw t at found))
  ]) refl

  pub unpinned-without_last : (es : List (K × Status V)) → unpinned (without_last is_idle es) ≤ unpinned es
  unpinned-without_last [] = omega arith
  unpinned-without_last (e ∷ es) = elim (has_idle es) as (λ b. unpinned (cond b (e ∷ without_last is_idle es) (cond (is_idle e.1) es (e ∷ es))) ≤ idle_cost e.1 + unpinned es) [
    | true ↦ omega (arith, unpinned-without_last es)
    | false ↦ elim (is_idle e.1) as (λ b. unpinned (cond b es (e ∷ es)) ≤ idle_cost e.1 + unpinned es) [ true ↦ omega arith | false ↦ omega arith ]
  ]

-- what holds of every state of a legal history
pub record IsSound {K V : Type 0} (eq : K → K → Bool) (s : State K V) : Type 0 where
  pub apart : Apart eq s.entries
  pub in_budget : unpinned s.entries ≤ s.budget
  pub in_limit : s.limit < length s.entries → has_idle s.entries ≡ false

module _ {K V : Type 0} (eq : K → K → Bool) (laws : IsEquivalence eq) where
  -- a change that leaves the entry busy
  pub record ChangesWell (old new : List (K × Status V)) : Type 0 where
    pub cost : unpinned new ≤ unpinned old
    pub idle : has_idle old ≡ false → has_idle new ≡ false
    pub len : length new ≡ length old

  pub well-to_front : (k : K) (f : Status V → Status V) (es : List (K × Status V)) → ((st : Status V) → is_idle (f st) ≡ false) → ChangesWell es (to_front (eq k) f es)
  well-to_front k f es busy = by (lookup_entry (eq k) es) refl
    where
      by : (r : Option (K × Status V)) → lookup_entry (eq k) es ≡ r → ChangesWell es (option_map_or (λ e. (e.0, f e.1) ∷ remove_entry (eq k) es) r es)
      by None found = record { cost = omega arith; idle = λ h. h; len = refl }
      by (Some e) found = record {
        cost = omega (arith, busy-costs-nothing (f e.1) (busy e.1), unpinned-remove (eq k) es);
        idle = λ none. or_from _ _ (idle-remove (eq k) es none) (busy e.1);
        len = length-remove-found (eq k) es e found;
      }

  sound-to_front : (s : State K V) (k : K) (f : Status V → Status V) → ((st : Status V) → is_idle (f st) ≡ false) → IsSound eq s
      → (new : State K V) → new.entries ≡ to_front (eq k) f s.entries → new.limit ≡ s.limit → new.budget ≡ s.budget → IsSound eq new
  sound-to_front s k f busy sound new entries limit budget =
      let well = well-to_front k f s.entries busy in
      record {
        apart = subst (Apart eq) (sym entries) (Apart-to_front eq laws k f s.entries sound.apart);
        in_budget = rw (entries, budget) (omega (arith, well.cost, sound.in_budget));
        in_limit = rw (entries, limit, well.len) (λ over. well.idle (sound.in_limit over));
      }

  pub sound-hit : (s : State K V) (k : K) → IsSound eq s → IsSound eq (hit eq s k)
  sound-hit s k sound = sound-to_front s k one_pin_more pinned-is-busy sound (hit eq s k) refl refl refl

  sound-hit_all : (ks : List K) (s : State K V) → IsSound eq s → IsSound eq (hit_all eq s ks)
  sound-hit_all [] s sound = sound
  sound-hit_all (k ∷ ks) s sound = sound-hit_all ks (hit eq s k) (sound-hit s k sound)

  sound-trim : (s : State K V) → Apart eq s.entries → IsSound eq (trim s)
  sound-trim s apart =
      let within = or_cases _ _ (is_within-trim s) in
      let t = trim s in
      let apart' = kept-by-trim (λ (s : State K V). Apart eq s.entries) (λ s _ a. Apart-without_last eq laws is_idle s.entries a) (length s.entries) s refl apart in
      elim within [
        | inl none ↦ let none' = not-true _ none in record { apart = apart'; in_budget = rw (nothing-idle t.entries none') (omega arith); in_limit = λ _. none' }
        | inr both ↦ let parts = and_parts _ _ both in
            record { apart = apart'; in_budget = leb-true _ _ parts.0; in_limit = λ over. absurd (omega (arith, leb-true _ _ parts.1, over)) }
      ]

  -- a claim is answered where the list is shorter than its limit, or an entry may be evicted
  pub claim-has-room : (s : State K V) (k : K) → ask_answer eq s k ≡ Some Claim → (status_of eq s k ≡ None) × ((nat_lt (length s.entries) s.limit || has_idle s.entries) ≡ true) × (has_space s ≡ true)
  claim-has-room s k claims = by (status_of eq s k) refl claims
    where
      by : (r : Option (Status V)) → status_of eq s k ≡ r → answer_at s r ≡ Some Claim → (status_of eq s k ≡ None) × ((nat_lt (length s.entries) s.limit || has_idle s.entries) ≡ true) × (has_space s ≡ true)
      by None is claims =
          let room : has_room s ≡ true = (elim (has_room s) as (λ b. Some (cond b Claim Crowded) ≡ Some Claim → b ≡ true) [
            | true ↦ λ _. refl
            | false ↦ λ h. cc
          ]) claims in
          let parts = and_parts (nat_lt (length s.entries) s.limit || has_idle s.entries) (has_space s) room in
          (is, parts.0, parts.1)
      by (Some (Flying n)) is claims = cc
      by (Some (Ready pins cost value)) is claims = absurd ((elim (nat_lt pins max_pins) as (λ b. Some (cond b Hit Crowded) ≡ Some Claim → ⊥) [
        | true ↦ λ h. cc
        | false ↦ λ h. cc
      ]) claims)

  sound-claim : (s : State K V) (m : ℕ) (k : K) → IsSound eq s → ask_answer eq s k ≡ Some Claim → IsSound eq (put_first (room_for_one s) k m)
  sound-claim s m k sound claims =
      let room = claim-has-room s k claims in
      (elim (nat_lt (length s.entries) s.limit) as (λ b. nat_lt (length s.entries) s.limit ≡ b → (b || has_idle s.entries) ≡ true → IsSound eq (put_first (cond b s (evict s)) k m)) [
        | true ↦ λ t _. record {
          apart = (room.0, sound.apart);
          in_budget = omega (arith, sound.in_budget);
          in_limit = λ over. absurd (omega (arith, ltb-true _ _ t, over));
        }
        | false ↦ λ t idle. record {
          apart = (lookup-without_last eq laws is_idle k s.entries sound.apart (λ o. o ≡ None) room.0 (λ x _ h. refl), Apart-without_last eq laws is_idle s.entries sound.apart);
          in_budget = omega (arith, unpinned-without_last s.entries, sound.in_budget);
          in_limit = λ over. absurd (true≢false (sym idle ∙ sound.in_limit (omega (arith, over, length-without_last is_idle s.entries idle))));
        }
      ]) refl room.1

  pub sound-after : (s : State K V) (held : K → ℕ) (m : ℕ) (step : Step K V) → IsSound eq s → IsEnabled eq s held m step → IsSound eq (state_after eq s m step)
  sound-after s held m (Ask k Hit) sound enabled = sound-hit s k sound
  sound-after s held m (Ask k Claim) sound enabled = sound-claim s m k sound enabled
  sound-after s held m (Ask k Crowded) sound enabled = record { apart = sound.apart; in_budget = sound.in_budget; in_limit = sound.in_limit }
  sound-after s held m (PinAll ks) sound enabled = sound-hit_all ks s sound
  sound-after s held m (Fill k cost value) sound enabled = sound-to_front s k (λ _. Ready 1 cost value) (λ _. refl) sound (state_after eq s m (Fill k cost value)) refl refl refl
  sound-after s held m (Fail k) sound enabled = record {
    apart = Apart-remove eq laws k s.entries sound.apart;
    in_budget = omega (arith, unpinned-remove (eq k) s.entries, sound.in_budget);
    in_limit = λ over. idle-remove (eq k) s.entries (sound.in_limit (omega (arith, over, length-remove (eq k) s.entries)));
  }
  sound-after s held m (Spill k cost) sound enabled = record {
    apart = Apart-remove eq laws k s.entries sound.apart;
    in_budget = omega (arith, unpinned-remove (eq k) s.entries, sound.in_budget);
    in_limit = λ over. idle-remove (eq k) s.entries (sound.in_limit (omega (arith, over, length-remove (eq k) s.entries)));
  }
  sound-after s held m (Unpin k) sound enabled = sound-trim (record s { entries = change (eq k) one_pin_less s.entries }) (Apart-change eq laws k one_pin_less s.entries sound.apart)
  sound-after s held m (Limits entries budget) sound enabled = sound-trim (record s { limit = entries; budget = budget }) sound.apart
  sound-after s held m (Hard hard) sound enabled = record { apart = sound.apart; in_budget = sound.in_budget; in_limit = sound.in_limit }
