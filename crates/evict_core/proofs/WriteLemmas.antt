-- A write to the place of a key, as the map and the list see it.
use Rattle.std.proofs.Common.{◌≡◌, ℕ, Bool, true, false, cond, nat_eq, List, [], ◌∷◌, Some, None, refl, sym, ap, ◌∙◌, subst}
use Rattle.std.specs.Cmp.{IsEquivalence, nat_eq_equiv}
use Rattle.std.specs.Map.{lookup, lookup_entry, set_value}
use Rattle.lru.specs.LruCache.{promoted}
use Rattle.evict_core.specs.Recency.{to_front, change}
use Rattle.evict_core.specs.Places.{shown, Ties}
use Rattle.evict_core.proofs.RecencyLemmas.{lookup-to_front, lookup-change, Apart-to_front, Apart-change}
use Rattle.evict_core.proofs.PlacesLemmas.{write-front, write-there, to_front-shown, change-shown}
use Rattle.evict_core.proofs.TieLemmas.{agree, place-of, lookup-missing, ties-written}

-- an edit at a key that isn't there changes nothing
pub to_front-missing : {K X : Type 0} (test : K → Bool) (f : X → X) (es : List (K × X)) → lookup test es ≡ None → to_front test f es ≡ es
to_front-missing {K} {X} test f es none = rw (no-entry es none)
  where
    no-entry : (es : List (K × X)) → lookup test es ≡ None → lookup_entry test es ≡ None
    no-entry [] h = refl
    no-entry (e ∷ es) h = (elim (test e.0) as (λ b. test e.0 ≡ b → cond b (Some e) (lookup_entry test es) ≡ None) [
      | true ↦ λ t. let wrong : Some e.1 ≡ None = rw t at h in cc
      | false ↦ λ t. no-entry es (rw t at h)
    ]) refl

pub change-missing : {K X : Type 0} (test : K → Bool) (f : X → X) (es : List (K × X)) → lookup test es ≡ None → change test f es ≡ es
change-missing test f [] none = refl
change-missing test f (e ∷ es) none = (elim (test e.0) as (λ b. test e.0 ≡ b → cond b ((e.0, f e.1) ∷ es) (e ∷ change test f es) ≡ e ∷ es) [
  | true ↦ λ t. let wrong : Some e.1 ≡ None = rw t at none in cc
  | false ↦ λ t. ap (λ l. e ∷ l) (change-missing test f es (rw t at none))
]) refl

module _ {K P X : Type 0} (index : P → ℕ) (view : P → X) (eq : K → K → Bool) (laws : IsEquivalence eq) (es : List (K × ℕ)) (os : List (ℕ × P)) (next : ℕ) (tied : Ties index eq es os next) (q : K) where
  -- the key has a number in the map, so the list has its place
  pub no-gap : (n : ℕ) → Some n ≡ lookup (eq q) es → None ≡ lookup (nat_eq n) os → {A : Type 0} → A
  no-gap n found none = let place = place-of index view eq laws es os next tied q n (sym found) in let wrong : None ≡ Some place.0 = none ∙ place.1 in cc

  module _ (n : ℕ) (found : Some n ≡ lookup (eq q) es) (x w : P) (here : Some x ≡ lookup (nat_eq n) os) (same : index w ≡ index x) where
    pub ties-front : Ties index eq es (set_value (nat_eq n) (promoted (nat_eq n) os) w) next
    ties-front = subst (λ l. Ties index eq es l next) (sym (write-front (nat_eq n) os w))
        (ties-written index view eq laws es os next tied n x w (to_front (nat_eq n) (λ _. w) os) (sym here) same (Apart-to_front nat_eq nat_eq_equiv n (λ _. w) os tied.numbers)
        (λ m. lookup-to_front nat_eq nat_eq_equiv n (λ _. w) m os tied.numbers))

    pub ties-there : Ties index eq es (set_value (nat_eq n) os w) next
    ties-there = subst (λ l. Ties index eq es l next) (sym (write-there (nat_eq n) os w))
        (ties-written index view eq laws es os next tied n x w (change (nat_eq n) (λ _. w) os) (sym here) same (Apart-change nat_eq nat_eq_equiv n (λ _. w) os tied.numbers)
        (λ m. lookup-change nat_eq nat_eq_equiv n (λ _. w) m os))

    module _ (f : X → X) (item : view w ≡ f (view x)) where
      follows : (y : P) → lookup (nat_eq n) os ≡ Some y → (view w ≡ f (view y)) × (index w ≡ index y)
      follows y there = let is : Some x ≡ Some y = here ∙ there in let is' : x ≡ y = cc in (item ∙ ap (λ (z : P). f (view z)) is', same ∙ ap index is')

      pub shown-front : shown index view es (set_value (nat_eq n) (promoted (nat_eq n) os) w) ≡ to_front (eq q) f (shown index view es os)
      shown-front = ap (λ l. shown index view es l) (write-front (nat_eq n) os w)
          ∙ sym (to_front-shown index view es (eq q) (nat_eq n) f (λ _. w) os (agree index view eq laws es os next tied q n (sym found)) follows)

      pub shown-there : shown index view es (set_value (nat_eq n) os w) ≡ change (eq q) f (shown index view es os)
      shown-there = ap (λ l. shown index view es l) (write-there (nat_eq n) os w)
          ∙ sym (change-shown index view es (eq q) (nat_eq n) f (λ _. w) os (agree index view eq laws es os next tied q n (sym found)) follows)

  module _ (none : None ≡ lookup (eq q) es) (f : X → X) where
    pub front-none : shown index view es os ≡ to_front (eq q) f (shown index view es os)
    front-none = sym (to_front-missing (eq q) f (shown index view es os) (lookup-missing index view eq laws es os next tied q (sym none)))

    pub there-none : shown index view es os ≡ change (eq q) f (shown index view es os)
    there-none = sym (change-missing (eq q) f (shown index view es os) (lookup-missing index view eq laws es os next tied q (sym none)))
