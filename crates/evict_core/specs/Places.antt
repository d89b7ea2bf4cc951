-- Inner: how the entries stand in a map from keys to numbers and a list of numbers with their places.
use Rattle.std.specs.Prelude.{◌≡◌, ℕ, ◌<◌, Bool, true, false, List, [], ◌∷◌, ◌++◌, slice_get, nat_eq, Option, Some, None}
use Rattle.std.specs.Map.{lookup, keys_of}
use Rattle.std.specs.List.{IsDistinct}
use Rattle.std.specs.Arc.{arc_value}
use Rattle.evict_core.specs.Recency.{Apart, some_passes}
use Rattle.evict_core.specs.Machine.{Status, Flying, Ready, is_idle, idle_cost}
use Rattle.evict_core.specs.declared.stored.Stored.{Stored}
use Rattle.evict_core.specs.declared.stored.Stored.TheVariants.{Making, Made}
use Rattle.evict_core.specs.declared.recency.Slot.{Slot}

abbrev pub stored_status : {V : Type 0} → Stored V → Status V
stored_status (Making number) = Flying number
stored_status (Made pins cost value) = Ready pins cost (arc_value value)

module _ {K P X : Type 0} (index : P → ℕ) (view : P → X) where
  abbrev pub with_key : Option (K × ℕ) → X → List (K × X) → List (K × X)
  with_key None x rest = rest
  with_key (Some e) x rest = (e.0, x) ∷ rest

  -- each number's key, with what its place shows, in the order of the numbers
  abbrev pub shown : List (K × ℕ) → List (ℕ × P) → List (K × X)
  shown es [] = []
  shown es (o ∷ os) = with_key (slice_get es (index o.1)) (view o.1) (shown es os)

-- the map and the list name each other, and numbers from `next` on are free
pub record Ties {K P : Type 0} (index : P → ℕ) (eq : K → K → Bool) (es : List (K × ℕ)) (os : List (ℕ × P)) (next : ℕ) : Type 0 where
  pub keys : IsDistinct eq (keys_of es)
  pub numbers : Apart nat_eq os
  pub named : (n : ℕ) (p : P) → lookup (nat_eq n) os ≡ Some p → (k : K) × (slice_get es (index p) ≡ Some (k, n))
  pub listed : (i : ℕ) (e : K × ℕ) → slice_get es i ≡ Some e → (p : P) × (lookup (nat_eq e.1) os ≡ Some p) × (index p ≡ i)
  pub fresh : (n : ℕ) (p : P) → lookup (nat_eq n) os ≡ Some p → n < next

module _ {K V : Type 0} where
  abbrev pub entries_in : List (K × ℕ) → List (ℕ × Slot V) → List (K × Status V)
  entries_in es os = shown (λ p. p.index) (λ p. stored_status p.stored) es os

  abbrev pub IsTied : (K → K → Bool) → List (K × ℕ) → List (ℕ × Slot V) → ℕ → ℕ → Type 0
  IsTied eq es os cap next = Ties (λ p. p.index) eq es os next × (cap ≡ 18446744073709551615)

module _ {V : Type 0} where
  abbrev pub is_idle_place : Slot V → Bool
  is_idle_place p = is_idle (stored_status p.stored)

  -- n is the number of the least recent place that may be evicted, which costs so much
  pub record IsOldestIdle (os : List (ℕ × Slot V)) (n price : ℕ) : Type 0 where
    pub place : Slot V
    pub newer : List (ℕ × Slot V)
    pub older : List (ℕ × Slot V)
    pub is : os ≡ newer ++ (n, place) ∷ older
    pub idle : is_idle_place place ≡ true
    pub costs : price ≡ idle_cost (stored_status place.stored)
    pub busy : some_passes is_idle_place older ≡ false
