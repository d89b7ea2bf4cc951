-- The first key whose composed mask can't be kept, key by key.
use Rattle.std.proofs.Common.{◌≡◌, ℕ, ◌+◌, ◌<◌, Bool, true, false, cond, List, [], ◌∷◌, ◌++◌, length, take, get_or, Some, None, refl, sym, ap, ◌∙◌, arith}
use Rattle.std.specs.List.{position_from}
use Rattle.std.proofs.lemmas.List.{length-take-le, take_more}
use Rattle.std.specs.declared.sync.Arc.{Arc}
use Rattle.bdf_font.specs.declared.sets.FontSet.{FontSet}
use Rattle.ass_num.specs.Masks.{MaskValue}
use Rattle.cache_kinds.specs.Kinds.{composite_meaning}
use Rattle.flight_cache.specs.Shards.{Shards}
use Rattle.mask_keys.specs.declared.composite_key.CompositeKey.{CompositeKey}
use Rattle.mask_caches.specs.Courses.{Course, IsLeaseOf}
use Rattle.mask_caches.specs.Keeping.{is_unkept, unkept_in, unkept_then}
use Rattle.mask_caches.specs.Leases.{lease_value}
use Rattle.mask_caches.specs.declared.lease.Lease.{Lease}
use Rattle.mask_caches.specs.declared.lease.Lease.TheVariants.{Pinned, Own}

-- one more behind the others
position-more : {X : Type 0} (t : X → Bool) (i : ℕ) (xs : List X) (x : X) (place : ℕ) → place ≡ i + length xs → position_from t i (xs ++ x ∷ []) ≡ unkept_then (position_from t i xs) place (t x)
position-more t i [] x place is = let here : i ≡ place = omega (arith, is) in
    elim (t x) as (λ b. cond b (Some i) None ≡ cond b (Some place) None) [
      | true ↦ ap Some here
      | false ↦ refl
    ]
position-more t i (y ∷ ys) x place is = let rest : place ≡ (i + 1) + length ys = omega (arith, is) in
    elim (t y) as (λ b. cond b (Some i) (position_from t (i + 1) (ys ++ x ∷ [])) ≡ unkept_then (cond b (Some i) (position_from t (i + 1) ys)) place (t x)) [
      | true ↦ refl
      | false ↦ position-more t (i + 1) ys x place rest
    ]

-- the first n of the keys, and the next one
pub unkept-more : {Z : Type 0} (fonts : Arc FontSet Z) (budgets : Shards ℕ) (keys : List CompositeKey) (n : ℕ) (key : CompositeKey) → n < length keys → key ≡ get_or keys n key
    → unkept_in fonts budgets (take (n + 1) keys) ≡ unkept_then (unkept_in fonts budgets (take n keys)) n (is_unkept fonts budgets key)
unkept-more fonts budgets keys n key there is =
    let more : take (n + 1) keys ≡ take n keys ++ key ∷ [] = take_more keys n key there ∙ ap (λ (k : CompositeKey). take n keys ++ k ∷ []) (sym is) in
    let long : n ≡ 0 + length (take n keys) = omega (arith, there, length-take-le n keys (omega (arith, there))) in
    ap (unkept_in fonts budgets) more ∙ position-more (is_unkept fonts budgets) 0 (take n keys) key n long

-- the value of a lease that was had
pub made-lease : {M Z : Type 0} (tag : Arc FontSet Z) (course : Course) (key : CompositeKey) (lease : Lease M CompositeKey MaskValue (Arc FontSet Z)) → IsLeaseOf (composite_meaning {Z = Z}) tag key course lease
    → lease_value lease ≡ (composite_meaning {Z = Z}).made tag key
made-lease tag course key (Pinned pin) had = had.2
made-lease tag course key (Own value) had = had.1
