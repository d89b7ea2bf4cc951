-- How many entries are being made, after each edit of them.
use Rattle.std.proofs.Common.{◌≡◌, IsSome, ℕ, ◌+◌, ◌≤◌, Bool, true, List, [], ◌∷◌, length, Option, Some, None, option_map, refl, sym, arith, true≢false}
use Rattle.std.specs.Map.{lookup, remove_entry}
use Rattle.evict_core.specs.Recency.{without_last, to_front, change}
use Rattle.evict_core.specs.Machine.{Status, Flying, Ready, is_idle, flying_one, flying, one_pin_more, one_pin_less, maker_in}
use Rattle.evict_core.proofs.SumLemmas.{weight_in, total-change, total-remove, total-to_front, total-without_last}

module _ {V : Type 0} where
  pub more-flying : (o : Option (Status V)) → weight_in flying_one (option_map one_pin_more o) ≡ weight_in flying_one o
  more-flying None = refl
  more-flying (Some (Flying n)) = refl
  more-flying (Some (Ready pins cost value)) = refl

  pub less-flying : (o : Option (Status V)) → weight_in flying_one (option_map one_pin_less o) ≡ weight_in flying_one o
  less-flying None = refl
  less-flying (Some (Flying n)) = refl
  less-flying (Some (Ready pins cost value)) = refl

  pub idle-not-flying : (st : Status V) → is_idle st ≡ true → flying_one st ≡ 0
  idle-not-flying (Flying n) idle = absurd (true≢false (sym idle))
  idle-not-flying (Ready pins cost value) idle = refl

  -- a key that is being made counts one, and none once it has its value
  flying-weighs : (o : Option (Status V)) (cost : ℕ) (value : V) → IsSome (maker_in o) → (weight_in flying_one o ≡ 1) × (weight_in flying_one (option_map (λ _. Ready 1 cost value) o) ≡ 0)
  flying-weighs None cost value made = cc
  flying-weighs (Some (Flying n)) cost value made = (refl, refl)
  flying-weighs (Some (Ready pins price was)) cost value made = cc

  one-flying : (o : Option (Status V)) → IsSome (maker_in o) → weight_in flying_one o ≡ 1
  one-flying None made = cc
  one-flying (Some (Flying n)) made = refl
  one-flying (Some (Ready pins cost value)) made = cc

  flying-most-one : (st : Status V) → flying_one st ≤ 1
  flying-most-one (Flying n) = omega arith
  flying-most-one (Ready pins cost value) = omega arith

module _ {K V : Type 0} where
  pub flying-few : (es : List (K × Status V)) → flying es ≤ length es
  flying-few [] = omega arith
  flying-few (e ∷ es) = omega (arith, flying-few es, flying-most-one e.1)

  pub flying-evicted : (es : List (K × Status V)) → flying (without_last is_idle es) ≡ flying es
  flying-evicted es = total-without_last flying_one is_idle idle-not-flying es

  module _ (test : K → Bool) (es : List (K × Status V)) where
    pub flying-pinned : flying (to_front test one_pin_more es) ≡ flying es
    flying-pinned = omega (arith, total-to_front flying_one test one_pin_more es, more-flying (lookup test es))

    pub flying-unpinned : flying (change test one_pin_less es) ≡ flying es
    flying-unpinned = omega (arith, total-change flying_one test one_pin_less es, less-flying (lookup test es))

    pub flying-filled : (cost : ℕ) (value : V) → IsSome (maker_in (lookup test es)) → flying (to_front test (λ _. Ready 1 cost value) es) + 1 ≡ flying es
    flying-filled cost value made = let w = flying-weighs (lookup test es) cost value made in omega (arith, total-to_front flying_one test (λ _. Ready 1 cost value) es, w.0, w.1)

    pub flying-removed : IsSome (maker_in (lookup test es)) → flying (remove_entry test es) + 1 ≡ flying es
    flying-removed made = omega (arith, total-remove flying_one test es, one-flying (lookup test es) made)

    -- one of them is being made
    pub some-flying : IsSome (maker_in (lookup test es)) → 1 ≤ flying es
    some-flying made = omega (arith, flying-removed made)
