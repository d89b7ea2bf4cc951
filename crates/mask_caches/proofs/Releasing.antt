-- Leases that are given back one after another, the last one first.
use Rattle.std.proofs.Common.{◌≡◌, ◌+◌, ◌≤◌, Bool, List, [], ◌∷◌, ◌++◌, reverse, flat_map, refl, sym, ap, ◌∙◌, subst, append_assoc, append-nil, arith}
use Rattle.std.specs.Cmp.{IsEquivalence}
use Rattle.std.proofs.lemmas.Grind.{flat_map-append}
use Rattle.std.proofs.lemmas.List.{reverse-append}
use Rattle.evict_core.specs.Machine.{Step}
use Rattle.evict_core.specs.History.{times_named}
use Rattle.flight_cache.specs.Meaning.{Meaning}
use Rattle.flight_cache.specs.Shards.{CacheView, CachePassView, HoldsEach}
use Rattle.flight_cache.proofs.Places.{named-append}
use Rattle.mask_caches.specs.Adding.{Adds, pins_of, is_open, HoldsFewer}
use Rattle.mask_caches.specs.Leases.{HoldsLease, given_steps}
use Rattle.mask_caches.specs.Holding.{all_given_steps, pinned_key, pinned_keys}
use Rattle.mask_caches.specs.declared.lease.Lease.{Lease}
use Rattle.mask_caches.specs.declared.lease.Lease.TheVariants.{Pinned, Own}
use Rattle.mask_caches.proofs.Adding.{adds-none, adds-then}

module _ {M K V T : Type 0} (eq : K → K → Bool) (laws : IsEquivalence eq) (meaning : Meaning K V T) (cache : CacheView T) (p : CachePassView K T) (all : List (Lease M K V T)) where
  -- the last ones were given back, and these are left
  pub record AreReleased (q : CachePassView K T) (left : List (Lease M K V T)) : Type 0 where
    pub given : List (Lease M K V T)
    pub are : all ≡ left ++ given
    pub steps : Adds eq meaning cache p q (all_given_steps given)
    pub holds : HoldsFewer eq meaning cache p q (pinned_keys given)

  pub released-none : AreReleased p all
  released-none = record {
    given = [];
    are = sym (append-nil all);
    steps = adds-none eq meaning cache p;
    holds = record { pins = λ k. omega arith; claims = λ k. refl };
  }

  one-held : (q : CachePassView K T) (lease : Lease M K V T) → ((k : K) → times_named eq k (pinned_key lease) ≤ pins_of eq meaning cache q k) → HoldsLease eq meaning cache q lease
  one-held q (Pinned pin) h = let here = rw (laws.refl pin.key) at (h pin.key) in omega arith
  one-held q (Own value) h = tt

  places-of : (k : K) (left given : List (Lease M K V T)) (lease : Lease M K V T) → times_named eq k (pinned_keys ((left ++ lease ∷ []) ++ given)) ≡ times_named eq k (pinned_keys left) + (times_named eq k (pinned_key lease) + times_named eq k (pinned_keys given))
  places-of k left given lease =
      let whole : (left ++ lease ∷ []) ++ given ≡ left ++ lease ∷ given = append_assoc left (lease ∷ []) given in
      let parts = ap (λ (l : List (Lease M K V T)). times_named eq k (pinned_keys l)) whole ∙ (ap (times_named eq k) (flat_map-append pinned_key left (lease ∷ given)) ∙ named-append eq k (pinned_keys left) (pinned_key lease ++ pinned_keys given)) in
      omega (arith, parts, named-append eq k (pinned_key lease) (pinned_keys given))

  pub released-held : (q : CachePassView K T) (before left : List (Lease M K V T)) (lease : Lease M K V T) → before ≡ left ++ lease ∷ [] → AreReleased q before → HoldsEach eq meaning cache p (pinned_keys all) → HoldsLease eq meaning cache q lease
  released-held q before left lease popped r held =
      one-held q lease (λ k.
      let had = held k in
      let less = r.holds.pins k in
      let places = ap (λ (l : List (Lease M K V T)). times_named eq k (pinned_keys l)) (r.are ∙ ap (λ (l : List (Lease M K V T)). l ++ r.given) popped) ∙ places-of k left r.given lease in
      omega arith)

  one-less : (q s : CachePassView K T) (lease : Lease M K V T) → Adds eq meaning cache q s (given_steps lease) → (k : K) → pins_of eq meaning cache s k + times_named eq k (pinned_key lease) ≡ pins_of eq meaning cache q k
  one-less q s (Pinned pin) gives k = let less = gives.pins k in omega arith
  one-less q s (Own value) gives k = let less = gives.pins k in omega arith

  same-claims : (q s : CachePassView K T) (lease : Lease M K V T) → Adds eq meaning cache q s (given_steps lease) → (k : K) → is_open eq meaning cache s k ≡ is_open eq meaning cache q k
  same-claims q s (Pinned pin) gives k = gives.claims k
  same-claims q s (Own value) gives k = gives.claims k

  steps-more : (given : List (Lease M K V T)) (lease : Lease M K V T) → all_given_steps (lease ∷ given) ≡ all_given_steps given ++ given_steps lease
  steps-more given lease =
      ap (flat_map given_steps) (reverse-append (lease ∷ []) given)
      ∙ (flat_map-append given_steps (reverse given) (lease ∷ []) ∙ ap (λ (l : List (Step K V)). all_given_steps given ++ l) (append-nil (given_steps lease)))

  pub released-more : (q s : CachePassView K T) (before left : List (Lease M K V T)) (lease : Lease M K V T) → before ≡ left ++ lease ∷ [] → AreReleased q before → Adds eq meaning cache q s (given_steps lease) → AreReleased s left
  released-more q s before left lease popped r gives = record {
    given = lease ∷ r.given;
    are = r.are ∙ (ap (λ (l : List (Lease M K V T)). l ++ r.given) popped ∙ append_assoc left (lease ∷ []) r.given);
    steps = subst (λ (l : List (Step K V)). Adds eq meaning cache p s l) (sym (steps-more r.given lease)) (adds-then eq meaning cache p q s (all_given_steps r.given) (given_steps lease) r.steps gives);
    holds = record {
      pins = λ k. let less = r.holds.pins k in let one = one-less q s lease gives k in let places = named-append eq k (pinned_key lease) (pinned_keys r.given) in omega arith;
      claims = λ k. same-claims q s lease gives k ∙ r.holds.claims k;
    };
  }

  pub released-all : (q : CachePassView K T) (left : List (Lease M K V T)) → left ≡ [] → AreReleased q left → Adds eq meaning cache p q (all_given_steps all) × HoldsFewer eq meaning cache p q (pinned_keys all)
  released-all q left none r =
      let is : all ≡ r.given = r.are ∙ ap (λ (l : List (Lease M K V T)). l ++ r.given) none in (
        subst (λ (l : List (Lease M K V T)). Adds eq meaning cache p q (all_given_steps l)) (sym is) r.steps,
        subst (λ (l : List (Lease M K V T)). HoldsFewer eq meaning cache p q (pinned_keys l)) (sym is) r.holds,
      )
