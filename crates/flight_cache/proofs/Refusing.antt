-- From what is held to what a call that pins several keys gives.
use Rattle.std.proofs.Common.{◌≡◌, ℕ, zero, suc, ◌<◌, ◌==◌, ◌||◌, Bool, true, false, List, [], ◌∷◌, slice_get, map, take, Option, Some, None, option_map, refl, ap, ◌∙◌, arith, inr}
use Rattle.std.proofs.lemmas.Bool.{eq-eqb}
use Rattle.std.proofs.lemmas.Option.{slice_get-map}
use Rattle.std.specs.Cmp.{IsEquivalence}
use Rattle.turn_cell.proofs.Passes.{Follows_same}
use Rattle.flight_cache.specs.Meaning.{Meaning, shard_count, shard_of}
use Rattle.flight_cache.specs.Calls.{PinView}
use Rattle.flight_cache.specs.Shards.{CacheView, CachePassView, AreShardsOf, at}
use Rattle.flight_cache.specs.Pinning.{is_named, shards_of, GivesNothing, IsPinnedAll, IsRefused}
use Rattle.flight_cache.specs.Holds.{passes_back, four_of, pins_at, maker_at, unready, AreHoldsOf, ArePassesPinned, CanPinAll, IsRefusalOf}
use Rattle.flight_cache.specs.declared.pinning.PinRefusal.{PinRefusal}
use Rattle.flight_cache.specs.declared.pinning.PinRefusal.TheVariants.{TurnOut, NotReady, Making, PinsFull, OutOfMemory}
use Rattle.flight_cache.specs.declared.holds.Holds.{Holds}
use Rattle.flight_cache.proofs.Pinned.{pinned-turns}
use Rattle.flight_cache.proofs.Four.{back-stops-all, pins-back, makers-back}

named-of : (xs : List ℕ) (i m : ℕ) → slice_get xs i ≡ Some m → is_named xs m ≡ true
named-of [] i m is = cc
named-of (x ∷ xs) zero m is = let same : x ≡ m = cc in rw (eq-eqb x m same) refl
named-of (x ∷ xs) (suc i) m is = elim (x == m) as (λ b. (b || is_named xs m) ≡ true) [
  | true ↦ refl
  | false ↦ named-of xs i m is
]

-- the shard of a key is named
pub named-key : {K V T : Type 0} (meaning : Meaning K V T) (keys : List K) (i : ℕ) (k : K) → slice_get keys i ≡ Some k → is_named (shards_of meaning keys) (shard_of (meaning.numbers k)) ≡ true
named-key meaning keys i k is = named-of (shards_of meaning keys) i (shard_of (meaning.numbers k)) (slice_get-map (λ k. shard_of (meaning.numbers k)) keys i ∙ ap (option_map (λ k. shard_of (meaning.numbers k))) is)

pub below-four : (numbers : List ℕ) → shard_of numbers < shard_count
below-four numbers = omega arith

pub same-nothing : {K T : Type 0} (pass : CachePassView K T) → GivesNothing pass pass
same-nothing pass = record { first = Follows_same pass.first; second = Follows_same pass.second; third = Follows_same pass.third; fourth = Follows_same pass.fourth }

module _ {M K V T : Type 0} (eq : K → K → Bool) (meaning : Meaning K V T) (cache : CacheView T) (keys : List K) (holds : Holds M K V T) where
  -- a key without pins is refused by whether somebody makes it
  pub unready-of : (i : ℕ) (k : K) → slice_get keys i ≡ Some k → CanPinAll eq meaning cache (take i keys) holds → pins_at eq (at (four_of holds) (shard_of (meaning.numbers k))) k ≡ None
      → (maker : Option ℕ) → maker_at eq (at (four_of holds) (shard_of (meaning.numbers k))) k ≡ maker → IsRefusalOf eq meaning cache keys holds (unready i maker)
  unready-of i k there can none None made = (k, there, can, none, made)
  unready-of i k there can none (Some maker) made = (k, maker, there, can, made)

module _ {M K V T : Type 0} (eq : K → K → Bool) (laws : IsEquivalence eq) (same : (a b : K) → eq a b ≡ true → a ≡ b) (meaning : Meaning K V T) (cache : CacheView T) (of : AreShardsOf cache.tag cache.shards) (pass : CachePassView K T) (keys : List K) (holds : Holds M K V T) (h : AreHoldsOf eq meaning (shards_of meaning keys) cache pass holds) where
  pub refused-of : (r : PinRefusal) → IsRefusalOf eq meaning cache keys holds r → IsRefused eq meaning cache pass keys (passes_back holds) r
  refused-of TurnOut r = absurd r
  refused-of (NotReady i) r = (
    r.0,
    (back-stops-all eq laws same meaning (shards_of meaning keys) cache pass holds h (take i keys) r.2, r.1),
    pins-back eq laws same meaning (shards_of meaning keys) cache pass holds h of (shard_of (meaning.numbers r.0)) (below-four (meaning.numbers r.0)) (named-key meaning keys i r.0 r.1) r.0 ∙ r.3,
    makers-back eq laws same meaning (shards_of meaning keys) cache pass holds h of (shard_of (meaning.numbers r.0)) (below-four (meaning.numbers r.0)) (named-key meaning keys i r.0 r.1) r.0 ∙ r.4,
  )
  refused-of (Making i) r = (
    r.0,
    r.1,
    (back-stops-all eq laws same meaning (shards_of meaning keys) cache pass holds h (take i keys) r.3, r.2),
    makers-back eq laws same meaning (shards_of meaning keys) cache pass holds h of (shard_of (meaning.numbers r.0)) (below-four (meaning.numbers r.0)) (named-key meaning keys i r.0 r.2) r.0 ∙ r.4,
  )
  refused-of (PinsFull i) r = (
    r.0,
    r.1,
    (back-stops-all eq laws same meaning (shards_of meaning keys) cache pass holds h (take i keys) r.3, r.2),
    pins-back eq laws same meaning (shards_of meaning keys) cache pass holds h of (shard_of (meaning.numbers r.0)) (below-four (meaning.numbers r.0)) (named-key meaning keys i r.0 r.2) r.0 ∙ r.4,
    r.5,
  )
  refused-of OutOfMemory r = absurd r

  -- memory ran out where all the keys could have been pinned
  pub short-of : CanPinAll eq meaning cache keys holds → IsRefused eq meaning cache pass keys (passes_back holds) OutOfMemory
  short-of can = inr (back-stops-all eq laws same meaning (shards_of meaning keys) cache pass holds h keys can)

  pub pinned-of : (after : CachePassView K T) (pins : List (PinView K V)) → ArePassesPinned eq meaning cache keys holds after → map (λ p. p.key) pins ≡ keys → map (λ p. p.value) pins ≡ map (meaning.made cache.tag) keys
      → map (λ p. p.cell) pins ≡ map (λ k. (at cache.shards (shard_of (meaning.numbers k))).id) keys → IsPinnedAll eq meaning cache pass keys after pins
  pinned-of after pins p ks vs cs = record {
    first = pinned-turns eq laws same meaning cache.shards.first (shards_of meaning keys) pass.first holds.first keys after.first h.first p.first;
    second = pinned-turns eq laws same meaning cache.shards.second (shards_of meaning keys) pass.second holds.second keys after.second h.second p.second;
    third = pinned-turns eq laws same meaning cache.shards.third (shards_of meaning keys) pass.third holds.third keys after.third h.third p.third;
    fourth = pinned-turns eq laws same meaning cache.shards.fourth (shards_of meaning keys) pass.fourth holds.fourth keys after.fourth h.fourth p.fourth;
    keys_are = ks;
    values_are = vs;
    cells_are = cs;
  }
