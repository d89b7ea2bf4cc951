-- Pins and tickets of the cache.
use Rattle.std.proofs.Common.{◌≡◌, ℕ, Bool, true, false, List, [], ◌∷◌, ◌++◌, map, Option, Some, None, Result, Ok, Err, All, sym, ap, ◌∙◌, subst}
use Rattle.std.specs.Result.{IfOk}
use Rattle.std.specs.declared.sync.Arc.{Arc}
use Rattle.std.proofs.lemmas.List.Elements.{All-cons, All-head, All-nil, All-tail}
use Rattle.flight_cache.specs.Answers.{IsHomeAsk}
use Rattle.flight_cache.specs.Calls.{PinView, TicketView}
use Rattle.flight_cache.specs.Meaning.{Meaning, shard_of}
use Rattle.flight_cache.specs.Shards.{CacheView, IsHome, at, CachePassView}
use Rattle.flight_cache.specs.declared.pins.Asked.{Asked}
use Rattle.flight_cache.specs.declared.pins.Asked.TheVariants.{Hit, Make, OutOfMemory}
use Rattle.flight_cache.proofs.Visits.{home-by}
use Rattle.mask_caches.specs.Courses.{IsForKey, IsHomeAsked, IsHomeDuty, IsOwnOf}
use Rattle.mask_caches.specs.Leases.{IsHomeLease}
use Rattle.mask_caches.specs.declared.lease.Lease.{Lease}
use Rattle.mask_caches.specs.declared.lease.Lease.TheVariants.{Own, Pinned}
use Rattle.mask_caches.specs.Pinning.{ArePinned}

module _ {M K V T : Type 0} (meaning : Meaning K V T) (cache : CacheView T) where
  -- what an ask for a key gives is of the key's shard
  pub ask-home : (key : K) (answer : Asked M K V T) → IsForKey meaning cache.tag key answer → IsHomeAsk (at cache.shards (shard_of (meaning.numbers key))) answer → IsHomeAsked meaning cache answer
  ask-home key (Hit pin) need is = home-by meaning cache key pin.key pin.cell need.0 is
  ask-home key (Make (Some ticket)) need is = home-by meaning cache key ticket.key ticket.cell need is
  ask-home key (Make None) need is = tt
  ask-home key OutOfMemory need is = tt

  -- what is a caller's own is of no cache
  pub own-home : {E Z : Type 0} (made : Result (Arc V Z) E) (had : Result (Lease M K V T) E) → IsOwnOf made had → IfOk had (IsHomeLease meaning cache)
  own-home (Ok value) (Ok (Own own)) is = tt
  own-home (Ok value) (Ok (Pinned pin)) is = absurd is
  own-home (Ok value) (Err refused) is = tt
  own-home (Err refused) (Ok lease) is = absurd is
  own-home (Err refused) (Err again) is = tt

  -- pins of the shards of their keys
  pub pinned-home : (pins : List (PinView K V)) → map (λ p. p.cell) pins ≡ map (λ k. (at cache.shards (shard_of (meaning.numbers k))).id) (map (λ p. p.key) pins) → All (IsHomeLease {M = M} meaning cache) (map Pinned pins)
  pinned-home [] are = All-nil (IsHomeLease {M = M} meaning cache)
  pinned-home (pin ∷ pins) are =
      let homes : pin.cell ∷ map (λ p. p.cell) pins ≡ (at cache.shards (shard_of (meaning.numbers pin.key))).id ∷ map (λ k. (at cache.shards (shard_of (meaning.numbers k))).id) (map (λ p. p.key) pins) = are in
      let here : pin.cell ≡ (at cache.shards (shard_of (meaning.numbers pin.key))).id = cc in
      let rest : map (λ p. p.cell) pins ≡ map (λ k. (at cache.shards (shard_of (meaning.numbers k))).id) (map (λ p. p.key) pins) = cc in
      All-cons (IsHomeLease {M = M} meaning cache) (Pinned pin) (map Pinned pins) here (pinned-home pins rest)

-- what holds of each of a list holds of those before the last and of the last
pub last-home : {X : Type 0} (P : X → Type 0) (xs front : List X) (last : X) → xs ≡ front ++ last ∷ [] → All P xs → All P front × P last
last-home {X} P xs front last is all = parts front (subst (λ (l : List X). All P l) is all)
  where
    parts : (front : List X) → All P (front ++ last ∷ []) → All P front × P last
    parts [] all = (All-nil P, All-head P last [] all)
    parts (x ∷ xs) all = let rest = parts xs (All-tail P x (xs ++ last ∷ []) all) in (All-cons P x xs (All-head P x (xs ++ last ∷ []) all) rest.0, rest.1)

-- leases that were had all at once
pub pinned-leases-home : {M K V T : Type 0} (eq : K → K → Bool) (meaning : Meaning K V T) (cache : CacheView T) (pass : CachePassView K T) (keys : List K) (after : CachePassView K T) (leases : List (Lease M K V T))
    → ArePinned eq meaning cache pass keys after leases → All (IsHomeLease meaning cache) leases
pinned-leases-home {M} {K} {V} {T} eq meaning cache pass keys after leases h =
    let cells = h.pinned.cells_are ∙ ap (map (λ k. (at cache.shards (shard_of (meaning.numbers k))).id)) (sym h.pinned.keys_are) in
    subst (λ (l : List (Lease M K V T)). All (IsHomeLease meaning cache) l) (sym h.are) (pinned-home meaning cache h.pins cells)
