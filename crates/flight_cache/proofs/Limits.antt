-- The limits that a history leaves, and the parts of a limit.
use Rattle.std.proofs.Common.{◌≡◌, ℕ, ◌+◌, ◌-◌, nat_lt, Bool, true, false, cond, List, [], ◌∷◌, ◌++◌, length, Option, None, All, refl, sym, ap, ◌∙◌, subst, true≢false}
use Rattle.std.proofs.lemmas.List.{map-append}
use Rattle.std.proofs.lemmas.List.Elements.{All-head, All-tail}
use Rattle.turn_cell.specs.History.{History}
use Rattle.evict_core.specs.Recency.{change}
use Rattle.evict_core.specs.Machine.{State, Step, Hit, Claim, Crowded, Ask, PinAll, Fill, Fail, Spill, Unpin, Limits, Hard, can_fill, is_held, unpinned, pinned, flying, one_pin_less, evict, trim, room_for_one, hit, hit_all, state_after, IsEnabled}
use Rattle.evict_core.specs.History.{opening, replay, replay_from, pins_held}
use Rattle.evict_core.proofs.TrimLemmas.{kept-by-trim}
use Rattle.evict_core.proofs.HistoryLemmas.{replay-append}
use Rattle.flight_cache.specs.Meaning.{Meaning}
use Rattle.evict_core.specs.declared.hard_limit.HardLimit.{HardLimit}
use Rattle.flight_cache.specs.Laws.{SetsNoLimits, SetsNoHard, LimitsAreOpened, LimitsAreSet, HardIsUnset, HardIsSet, NoneIsSpilled}
use Rattle.flight_cache.specs.Histories.{step_of, steps_in, left_by, IsLegalUnder}
use Rattle.flight_cache.specs.declared.kept.Opening.{Opening}
use Rattle.flight_cache.specs.declared.kept.Entry.{Entry}

module _ {K V : Type 0} (eq : K → K → Bool) (limit budget : ℕ) where
  -- the state has these limits
  abbrev HasThese : State K V → Type 0
  HasThese s = (s.limit ≡ limit) × (s.budget ≡ budget)

  trimmed : (s : State K V) → HasThese s → HasThese (trim s)
  trimmed s h = kept-by-trim HasThese (λ z outside same. same) (length s.entries) s refl h

  all-hit : (keys : List K) (s : State K V) → HasThese s → HasThese (hit_all eq s keys)
  all-hit [] s h = h
  all-hit (k ∷ ks) s h = all-hit ks (hit eq s k) h

  room-made : (s : State K V) → HasThese s → HasThese (room_for_one s)
  room-made s h = elim (nat_lt (length s.entries) s.limit) as (λ b. HasThese (cond b s (evict s))) [
    | true ↦ h
    | false ↦ h
  ]

  step-keeps : (s : State K V) (m : ℕ) (step : Step K V) → SetsNoLimits step → HasThese s → HasThese (state_after eq s m step)
  step-keeps s m (Ask k Hit) none h = h
  step-keeps s m (Ask k Claim) none h = room-made s h
  step-keeps s m (Ask k Crowded) none h = h
  step-keeps s m (PinAll ks) none h = all-hit ks s h
  step-keeps s m (Fill k cost value) none h = h
  step-keeps s m (Fail k) none h = h
  step-keeps s m (Spill k cost) none h = h
  step-keeps s m (Unpin k) none h = trimmed (record s { entries = change (eq k) one_pin_less s.entries }) h
  step-keeps s m (Limits entries spent) none h = absurd none
  step-keeps s m (Hard hard) none h = h

  steps-keep : (steps : History (Step K V)) → All (λ e. SetsNoLimits e.1) steps → (s : State K V) → HasThese s → HasThese (replay_from eq s steps)
  steps-keep [] none s h = h
  steps-keep (e ∷ later) none s h = steps-keep later (All-tail (λ e. SetsNoLimits e.1) e later none) (state_after eq s e.0 e.1) (step-keeps s e.0 e.1 (All-head (λ e. SetsNoLimits e.1) e later none) h)

module _ {K V T : Type 0} (eq : K → K → Bool) (meaning : Meaning K V T) where
  pub limits_are_opened : LimitsAreOpened eq meaning
  limits_are_opened under history none = steps-keep eq under.entries under.budget (steps_in meaning under history) none (opening under.entries under.budget) (refl, refl)

  pub limits_are_set : LimitsAreSet eq meaning
  limits_are_set under history before later m entries budget is none =
      let s = replay eq under.entries under.budget before in
      subst (λ (steps : History (Step K V)). HasThese eq entries budget (replay eq under.entries under.budget steps)) (sym is)
      (subst (λ (z : State K V). HasThese eq entries budget z) (sym (replay-append eq before ((m, Limits entries budget) ∷ later) (opening under.entries under.budget)))
      (steps-keep eq entries budget later none (state_after eq s m (Limits entries budget)) (trimmed eq entries budget (record s { limit = entries; budget = budget }) (refl, refl))))

module _ {K V : Type 0} (eq : K → K → Bool) (hard : Option HardLimit) where
  -- the state has this hard limit
  abbrev HasHard : State K V → Type 0
  HasHard s = s.hard ≡ hard

  hard-trimmed : (s : State K V) → HasHard s → HasHard (trim s)
  hard-trimmed s h = kept-by-trim HasHard (λ z outside same. same) (length s.entries) s refl h

  hard-hit : (keys : List K) (s : State K V) → HasHard s → HasHard (hit_all eq s keys)
  hard-hit [] s h = h
  hard-hit (k ∷ ks) s h = hard-hit ks (hit eq s k) h

  hard-room : (s : State K V) → HasHard s → HasHard (room_for_one s)
  hard-room s h = elim (nat_lt (length s.entries) s.limit) as (λ b. HasHard (cond b s (evict s))) [
    | true ↦ h
    | false ↦ h
  ]

  hard-step : (s : State K V) (m : ℕ) (step : Step K V) → SetsNoHard step → HasHard s → HasHard (state_after eq s m step)
  hard-step s m (Ask k Hit) none h = h
  hard-step s m (Ask k Claim) none h = hard-room s h
  hard-step s m (Ask k Crowded) none h = h
  hard-step s m (PinAll ks) none h = hard-hit ks s h
  hard-step s m (Fill k cost value) none h = h
  hard-step s m (Fail k) none h = h
  hard-step s m (Spill k cost) none h = h
  hard-step s m (Unpin k) none h = hard-trimmed (record s { entries = change (eq k) one_pin_less s.entries }) h
  hard-step s m (Limits entries budget) none h = hard-trimmed (record s { limit = entries; budget = budget }) h
  hard-step s m (Hard other) none h = absurd none

  hard-steps : (steps : History (Step K V)) → All (λ e. SetsNoHard e.1) steps → (s : State K V) → HasHard s → HasHard (replay_from eq s steps)
  hard-steps [] none s h = h
  hard-steps (e ∷ later) none s h = hard-steps later (All-tail (λ e. SetsNoHard e.1) e later none) (state_after eq s e.0 e.1) (hard-step s e.0 e.1 (All-head (λ e. SetsNoHard e.1) e later none) h)

module _ {K V T : Type 0} (eq : K → K → Bool) (meaning : Meaning K V T) where
  pub hard_is_unset : HardIsUnset eq meaning
  hard_is_unset under history none = hard-steps eq None (steps_in meaning under history) none (opening under.entries under.budget) refl

  pub hard_is_set : HardIsSet eq meaning
  hard_is_set under history before later m hard is none =
      let s = replay eq under.entries under.budget before in
      subst (λ (steps : History (Step K V)). HasHard eq hard (replay eq under.entries under.budget steps)) (sym is)
      (subst (λ (z : State K V). HasHard eq hard z) (sym (replay-append eq before ((m, Hard hard) ∷ later) (opening under.entries under.budget)))
      (hard-steps eq hard later none (state_after eq s m (Hard hard)) refl))

  -- the spill of a legal history found no room
  spilled : (under : Opening T) (before later : History (Entry K)) (e : ℕ × Entry K) (key : K) (cost : ℕ) → IsLegalUnder eq meaning under (before ++ e ∷ later)
      → step_of meaning under e.1 ≡ Spill key cost → can_fill (left_by eq meaning under before) cost ≡ false
  spilled under before later e key cost legal is =
      let step : ℕ × Step K V = (e.0, step_of meaning under e.1) in
      let parts = map-append (λ (e : ℕ × Entry K). (e.0, step_of meaning under e.1)) before (e ∷ later) in
      let follows = legal.legal (steps_in meaning under before) (steps_in meaning under later) step parts in
      (subst (λ (z : Step K V). IsEnabled eq (left_by eq meaning under before) (pins_held eq (steps_in meaning under before) e.0) e.0 z) is follows).1

  pub none_is_spilled : NoneIsSpilled eq meaning
  none_is_spilled under before later e key cost legal is none =
      let s = left_by eq meaning under before in
      let room : can_fill s cost ≡ true = ap (λ (hard : Option HardLimit). is_held hard (unpinned s.entries + pinned s.entries + cost) (flying s.entries - 1)) (hard_is_unset under before none) in
      true≢false (sym room ∙ spilled under before later e key cost legal is)
