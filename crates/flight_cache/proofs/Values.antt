-- The ready values that a legal history leaves.
use Rattle.std.proofs.Common.{◌≡◌, ℕ, Bool, true, [], ◌∷◌, ◌++◌, Option, Some, None, refl, sym, ap, ◌∙◌, subst}
use Rattle.std.specs.Cmp.{IsEquivalence}
use Rattle.turn_cell.specs.History.{History}
use Rattle.evict_core.specs.Machine.{Status, Flying, Ready, State, Step, status_of}
use Rattle.evict_core.specs.Machine as machine
use Rattle.evict_core.specs.Asked.{ready_value}
use Rattle.evict_core.proofs.LegalLemmas.{ready-was-filled}
use Rattle.flight_cache.specs.Meaning.{Meaning, entry_cost}
use Rattle.flight_cache.specs.declared.kept.Opening.{Opening}
use Rattle.flight_cache.specs.declared.kept.Entry.{Entry}
use Rattle.flight_cache.specs.declared.kept.Entry.TheVariants.{Hit, Claim, Crowded, PinAll, Fill, Fail, Spill, Unpin, Limits, Hard}
use Rattle.flight_cache.specs.Histories.{value_under, step_of, steps_in, IsLegalUnder, left_by, AreMade}

module _ {K V T : Type 0} (meaning : Meaning K V T) (under : Opening T) where
  -- what a fill puts is the value of its key, at its cost
  abbrev FillsRight : Step K V → Type 0
  FillsRight (machine.Fill k cost value) = (value ≡ value_under meaning under k) × (cost ≡ entry_cost meaning k value)
  FillsRight (machine.Ask k answer) = Unit {0}
  FillsRight (machine.PinAll ks) = Unit {0}
  FillsRight (machine.Fail k) = Unit {0}
  FillsRight (machine.Spill k cost) = Unit {0}
  FillsRight (machine.Unpin k) = Unit {0}
  FillsRight (machine.Limits entries budget) = Unit {0}
  FillsRight (machine.Hard hard) = Unit {0}

  right-step : (e : Entry K) → FillsRight (step_of meaning under e)
  right-step (Hit k) = tt
  right-step (Claim k) = tt
  right-step (Crowded k) = tt
  right-step (PinAll ks) = tt
  right-step (Fill k) = (refl, refl)
  right-step (Fail k) = tt
  right-step (Spill k) = tt
  right-step (Unpin k) = tt
  right-step (Limits entries budget) = tt
  right-step (Hard hard) = tt

  right-in : (history : History (Entry K)) (front back : History (Step K V)) (number : ℕ) (step : Step K V) → steps_in meaning under history ≡ front ++ (number, step) ∷ back → FillsRight step
  right-in [] [] back number step is = cc
  right-in [] (f ∷ front) back number step is = cc
  right-in (e ∷ history) [] back number step is =
      let head : (e.0, step_of meaning under e.1) ≡ (number, step) = cc in
      subst FillsRight (ap (λ (p : ℕ × Step K V). p.1) head) (right-step e.1)
  right-in (e ∷ history) (f ∷ front) back number step is =
      let rest : steps_in meaning under history ≡ front ++ (number, step) ∷ back = cc in
      right-in history front back number step rest

  module _ (eq : K → K → Bool) (laws : IsEquivalence eq) (same : (a b : K) → eq a b ≡ true → a ≡ b) where
    pub made-when-legal : (history : History (Entry K)) → IsLegalUnder eq meaning under history → AreMade eq meaning under (left_by eq meaning under history)
    made-when-legal history legal key pins cost value is =
        let f = ready-was-filled V eq laws under.entries under.budget (steps_in meaning under history) legal.legal key pins cost value is in
        let right = right-in history f.front f.back f.number (machine.Fill f.key cost value) f.is in
        (right.0 ∙ ap (value_under meaning under) (sym (same key f.key f.same)), right.1 ∙ ap (λ (k : K). entry_cost meaning k value) (sym (same key f.key f.same)))

    -- the value that a key finds is its own
    pub value-found : (s : State K V) → AreMade eq meaning under s → (key : K) (value : V) → ready_value (status_of eq s key) ≡ Some value → value ≡ value_under meaning under key
    value-found s made key value found = by (status_of eq s key) refl
      where
        by : (r : Option (Status V)) → status_of eq s key ≡ r → value ≡ value_under meaning under key
        by None is = let no : None ≡ Some value = ap ready_value (sym is) ∙ found in cc
        by (Some (Flying number)) is = let no : None ≡ Some value = ap ready_value (sym is) ∙ found in cc
        by (Some (Ready pins cost v)) is =
            let some : Some v ≡ Some value = ap ready_value (sym is) ∙ found in
            let own : v ≡ value = cc in sym own ∙ (made key pins cost v is).0
