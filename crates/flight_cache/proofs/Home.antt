-- What holds of every history that a shard can have, by the machine's laws.
use Rattle.std.proofs.Common.{◌≡◌, ℕ, ◌+◌, ◌*◌, ◌≤◌, Bool, List, ◌++◌, ◌∷◌, [], sym, ap, ◌∙◌, subst, arith}
use Rattle.std.specs.Cmp.{IsEquivalence}
use Rattle.turn_cell.specs.History.{History, entries_of}
use Rattle.turn_cell.proofs.Histories.{IsBelow-map}
use Rattle.evict_core.specs.Machine.{State, Step, idle_cost, unpinned, pinned, flying, status_of}
use Rattle.evict_core.specs.History.{IsLegal, pins_left, has_open}
use Rattle.evict_core.proofs.StateLemmas.{IsSound}
use Rattle.evict_core.proofs.HistoryLemmas.{sound-replay}
use Rattle.evict_core.proofs.HardLemmas.{stays-in-hard-limit}
use Rattle.evict_core.proofs.FillLaws.{claims-once, fills-once}
use Rattle.evict_core.proofs.PinLaws as pin
use Rattle.evict_core.proofs.SumLemmas.{total-found, weight_in}
use Rattle.flight_cache.specs.Meaning.{Meaning}
use Rattle.flight_cache.specs.Histories.{step_of, steps_in, IsLegalUnder, left_by}
use Rattle.flight_cache.specs.Laws.{ShardsStayInBudget, ShardsStayInLimit, HistoryInBudget, HistoryInLimit, HistoryInHardLimit, ShardsStayInHardLimit, IdleInBudget, ShardsClaimOnce, ShardsFillOnce, FliesWhereOpen, ShardPinsAreHeld, ShardsKeepHeld}
use Rattle.flight_cache.proofs.Standing.{steps-more, own-in}
use Rattle.flight_cache.specs.declared.kept.Opening.{Opening}
use Rattle.flight_cache.specs.declared.kept.Entry.{Entry}

module _ {K V T : Type 0} (eq : K → K → Bool) (laws : IsEquivalence eq) (meaning : Meaning K V T) where
  sound : (under : Opening T) (history : History (Entry K)) → IsLegalUnder eq meaning under history → IsSound eq (left_by eq meaning under history)
  sound under history legal = sound-replay eq laws under.entries under.budget (steps_in meaning under history) legal.legal

  pub history_in_budget : HistoryInBudget eq meaning
  history_in_budget under history legal = (sound under history legal).in_budget

  pub idle_in_budget : IdleInBudget eq meaning
  idle_in_budget under history legal key cost value is =
      let left = left_by eq meaning under history in
      let found = total-found idle_cost (eq key) left.entries in
      let weight : weight_in idle_cost (status_of eq left key) ≡ cost = ap (weight_in idle_cost) is in
      let within = history_in_budget under history legal in
      omega (arith, found, weight, within)

  pub history_in_limit : HistoryInLimit eq meaning
  history_in_limit under history legal = (sound under history legal).in_limit

  pub history_in_hard_limit : HistoryInHardLimit eq meaning
  history_in_hard_limit under history legal hard is = stays-in-hard-limit V eq laws under.entries under.budget (steps_in meaning under history) legal.legal legal.fits hard is

  pub stays_in_hard_limit : (M : Type 0) → ShardsStayInHardLimit M eq meaning
  stays_in_hard_limit M under kept history s hard is =
      subst (λ (z : State K V). unpinned z.entries + pinned z.entries + hard.making * flying z.entries ≤ hard.cost) (sym s.entries)
      (history_in_hard_limit under history s.legal hard (ap (λ (z : State K V). z.hard) (sym s.entries) ∙ is))

  pub stays_in_budget : (M : Type 0) → ShardsStayInBudget M eq meaning
  stays_in_budget M under kept history s = (subst (λ (z : State K V). IsSound eq z) (sym s.entries) (sound under history s.legal)).in_budget

  pub stays_in_limit : (M : Type 0) → ShardsStayInLimit M eq meaning
  stays_in_limit M under kept history s = (subst (λ (z : State K V). IsSound eq z) (sym s.entries) (sound under history s.legal)).in_limit

  pub claims_once : ShardsClaimOnce eq meaning
  claims_once under history legal before between later m n key is =
      claims-once eq laws under.entries under.budget before between later m n key key (subst (λ (h : History (Step K V)). IsLegal eq under.entries under.budget h) is legal.legal) (laws.refl key)

  pub fills_once : ShardsFillOnce eq meaning
  fills_once under history legal before between later m n key c d v w is =
      fills-once eq laws under.entries under.budget before between later m n key key c d v w (subst (λ (h : History (Step K V)). IsLegal eq under.entries under.budget h) is legal.legal) (laws.refl key)

  pub flies_where_open : FliesWhereOpen eq meaning
  flies_where_open under history legal m key =
      let law = pin.flies-where-pending eq laws under.entries under.budget (steps_in meaning under history) legal.legal m key in
      let same = ap (λ (l : List (Step K V)). has_open eq l key) (own-in eq laws meaning under history m) in
      ((λ making. sym same ∙ law.0 making), (λ pending. law.1 (same ∙ pending)))

  pub pins_are_held : ShardPinsAreHeld eq meaning
  pins_are_held under history legal n below key =
      pin.pins-are-held eq laws under.entries under.budget (steps_in meaning under history) legal.legal n (IsBelow-map (step_of meaning under) n history below) key

  pub held_is_kept : ShardsKeepHeld eq meaning
  held_is_kept under history e legal key lost m =
      let step : ℕ × Step K V = (e.0, step_of meaning under e.1) in
      let more : steps_in meaning under (history ++ e ∷ []) ≡ steps_in meaning under history ++ step ∷ [] = steps-more meaning under history e.0 e.1 in
      let law = pin.held-is-kept eq laws under.entries under.budget (steps_in meaning under history) step (subst (λ (h : History (Step K V)). IsLegal eq under.entries under.budget h) more legal.legal) key lost m in
      ap (λ (l : List (Step K V)). pins_left eq l key) (sym (own-in eq laws meaning under (history ++ e ∷ []) m) ∙ ap (entries_of m) more) ∙ law
