-- A number is taken out of the list, and its key out of the map.
use Rattle.std.proofs.Common.{◌≡◌, IfSome, ℕ, Bool, nat_eq, List, slice_get, Option, Some, None, sym, ap, ◌∙◌, subst}
use Rattle.std.specs.Cmp.{IsEquivalence}
use Rattle.std.specs.List.{IsDistinct, swap_remove}
use Rattle.std.specs.Map.{lookup, lookup_entry, remove_entry, set_value, keys_of}
use Rattle.evict_core.specs.Recency.{change}
use Rattle.evict_core.specs.Places.{shown, Ties}
use Rattle.evict_core.proofs.PlacesLemmas.{write-there}
use Rattle.evict_core.proofs.TieLemmas.{IsSwapRemoved, item-of, swap-removed, was-last, was-moved, has-moved, shown-last, ties-last, shown-swapped, ties-swapped}

module _ {K P X : Type 0} (index : P → ℕ) (view : P → X) (eq : K → K → Bool) (laws : IsEquivalence eq) (es : List (K × ℕ)) (os : List (ℕ × P)) (next : ℕ) (tied : Ties index eq es os next) where
  module _ (n k : ℕ) (x : P) (there : Some (k, x) ≡ lookup_entry (nat_eq n) os) (es' : List (K × ℕ)) (r : Option (K × ℕ)) (took : r ≡ slice_get es (index x))
      (is : IfSome r (λ e. es' ≡ swap_remove es (index x) e)) (distinct : IsDistinct eq (keys_of es')) (rest : List (ℕ × P)) (left : rest ≡ remove_entry (nat_eq n) os) where
    here : lookup (nat_eq n) os ≡ Some x
    here = item-of (nat_eq n) os (k, x) there

    removed : IsSwapRemoved es es' (index x)
    removed = let named = tied.named n x here in swap-removed es es' (index x) r (named.0, n) took is named.1

    pub shown-at_end : None ≡ slice_get es' (index x) → shown index view es' rest ≡ shown index view es (remove_entry (nat_eq n) os)
    shown-at_end none = ap (λ l. shown index view es' l) left ∙ shown-last index view eq laws es os next tied n x here es' removed distinct (was-last index view eq laws es os next tied n x here es' removed distinct none)

    pub ties-at_end : None ≡ slice_get es' (index x) → Ties index eq es' rest next
    ties-at_end none = subst (λ l. Ties index eq es' l next) (sym left) (ties-last index view eq laws es os next tied n x here es' removed distinct (was-last index view eq laws es os next tied n x here es' removed distinct none))

    module _ (j : K) (l : ℕ) (moved : Some (j, l) ≡ slice_get es' (index x)) where
      pub gap-moved : None ≡ lookup (nat_eq l) rest → {A : Type 0} → A
      gap-moved none = let place = has-moved index view eq laws es os next tied n x here es' removed distinct (j, l) moved in
          let wrong : None ≡ Some place.0 = none ∙ (ap (λ o. lookup (nat_eq l) o) left ∙ place.1) in cc

      module _ (old w : P) (found : Some old ≡ lookup (nat_eq l) rest) (at : index w ≡ index x) (shows : view w ≡ view old) where
        was : lookup (nat_eq l) (remove_entry (nat_eq n) os) ≡ Some old
        was = ap (λ o. lookup (nat_eq l) o) (sym left) ∙ sym found

        pub shown-told : shown index view es' (set_value (nat_eq l) rest w) ≡ shown index view es (remove_entry (nat_eq n) os)
        shown-told = let m = was-moved index view eq laws es os next tied n x here es' removed distinct (j, l) moved in
            ap (λ o. shown index view es' o) (write-there (nat_eq l) rest w ∙ ap (λ o. change (nat_eq l) (λ _. w) o) left)
            ∙ shown-swapped index view eq laws es os next tied n x here es' removed distinct m.0 j l m.1 old w was at shows

        pub ties-told : Ties index eq es' (set_value (nat_eq l) rest w) next
        ties-told = let m = was-moved index view eq laws es os next tied n x here es' removed distinct (j, l) moved in
            subst (λ o. Ties index eq es' o next) (sym (write-there (nat_eq l) rest w ∙ ap (λ o. change (nat_eq l) (λ _. w) o) left))
            (ties-swapped index view eq laws es os next tied n x here es' removed distinct m.0 j l m.1 old w was at shows)
