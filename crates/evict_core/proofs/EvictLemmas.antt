-- What the eviction of a place does to the entries and their unpinned cost.
use Rattle.std.proofs.Common.{◌≡◌, ℕ, ◌+◌, Bool, true, false, cond, nat_eq, List, [], ◌∷◌, ◌++◌, length, slice_get, Some, refl, sym, ap, ◌∙◌, arith}
use Rattle.std.specs.Cmp.{nat_eq_equiv}
use Rattle.std.specs.Map.{lookup, remove_entry}
use Rattle.evict_core.specs.Machine.{Status, is_idle, idle_cost, has_idle, unpinned}
use Rattle.evict_core.specs.Recency.{some_passes, without_last}
use Rattle.evict_core.specs.declared.recency.Slot.{Slot}
use Rattle.evict_core.specs.Places.{shown, stored_status, entries_in, is_idle_place, IsOldestIdle, Ties}
use Rattle.evict_core.proofs.PlacesLemmas.{Each, each-found, Names, lookup-at, some_passes-shown, without_last-shown}
use Rattle.evict_core.proofs.Searching.{without-oldest}

there-at : {X : Type 0} (front back : List X) (x : X) → slice_get (front ++ x ∷ back) (length front) ≡ Some x
there-at [] back x = refl
there-at (d ∷ front) back x = there-at front back x

cost-removed : {K P V : Type 0} (index : P → ℕ) (view : P → Status V) (es : List (K × ℕ)) (test : ℕ → Bool) (os : List (ℕ × P)) (x : P) → Each (Names index view es) os → lookup test os ≡ Some x
    → unpinned (shown index view es os) ≡ idle_cost (view x) + unpinned (shown index view es (remove_entry test os))
cost-removed index view es test [] x all found = cc
cost-removed index view es test (o ∷ os) x all found = let s = all.0 in rw s.1 ((elim (test o.0) as (λ b. test o.0 ≡ b → idle_cost (view o.1) + unpinned (shown index view es os) ≡ idle_cost (view x) + unpinned (shown index view es (cond b os (o ∷ remove_entry test os)))) [
  | true ↦ λ t. let is : Some o.1 ≡ Some x = rw t at found in let same : o.1 ≡ x = cc in ap (λ y. idle_cost (view y) + unpinned (shown index view es os)) same
  | false ↦ λ t. rw s.1 (omega (arith, cost-removed index view es test os x all.1 (rw t at found)))
]) refl)

module _ {K V : Type 0} (eq : K → K → Bool) (es : List (K × ℕ)) (os : List (ℕ × Slot V)) (next : ℕ) (tied : Ties (λ p. p.index) eq es os next) where
  names : Each (Names (λ p. p.index) (λ (p : Slot V). stored_status p.stored) es) os
  names = each-found (Names (λ p. p.index) (λ (p : Slot V). stored_status p.stored) es) os tied.numbers tied.named

  pub idle-places : has_idle (entries_in es os) ≡ some_passes is_idle_place os
  idle-places = some_passes-shown (λ p. p.index) (λ p. stored_status p.stored) es is_idle os names

  module _ (n price : ℕ) (oldest : IsOldestIdle os n price) where
    pub entries-evicted : entries_in es (remove_entry (nat_eq n) os) ≡ without_last is_idle (entries_in es os)
    entries-evicted =
        ap (entries_in es) (without-oldest is_idle_place oldest.newer oldest.older os n oldest.place oldest.is oldest.idle oldest.busy tied.numbers)
        ∙ sym (without_last-shown (λ p. p.index) (λ p. stored_status p.stored) es is_idle os names)

    pub cost-evicted : unpinned (entries_in es os) ≡ price + unpinned (entries_in es (remove_entry (nat_eq n) os))
    cost-evicted =
        let at : slice_get os (length oldest.newer) ≡ Some (n, oldest.place) = ap (λ l. slice_get l (length oldest.newer)) oldest.is ∙ there-at oldest.newer oldest.older (n, oldest.place) in
        let found = lookup-at nat_eq nat_eq_equiv os (length oldest.newer) (n, oldest.place) n tied.numbers at (nat_eq_equiv.refl n) in
        omega (arith, cost-removed (λ p. p.index) (λ (p : Slot V). stored_status p.stored) es (nat_eq n) os oldest.place names found, oldest.costs)
