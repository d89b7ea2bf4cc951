-- What leases that were had all at once leave, and what a refusal leaves.
use Rattle.std.proofs.Common.{◌≡◌, Bool, true, List, [], ◌∷◌, ◌++◌, length, map, reverse, Result, Ok, Err, sym, ap, ◌∙◌, append_assoc, arith}
use Rattle.std.specs.Result.{IfOk, IfErr}
use Rattle.std.proofs.lemmas.List.{length-map, map-append, reverse-append}
use Rattle.flight_cache.specs.Meaning.{Meaning}
use Rattle.flight_cache.specs.Calls.{PinView}
use Rattle.flight_cache.specs.Shards.{CacheView, CachePassView, AreShardsOf}
use Rattle.flight_cache.specs.Laws.{IsLater}
use Rattle.flight_cache.specs.Pinning.{GivesNothing, IsPinnedAll}
use Rattle.flight_cache.proofs.Rows.{nothing_holds, pinned_all_holds}
use Rattle.mask_caches.specs.Adding.{HoldsAsMuch, HoldsMore}
use Rattle.std.specs.Cmp.{IsEquivalence}

module _ {K V T : Type 0} (eq : K → K → Bool) (meaning : Meaning K V T) (cache : CacheView T) (pass after : CachePassView K T) where
  pub nothing-much : GivesNothing pass after → HoldsAsMuch eq meaning cache pass after
  nothing-much gives =
      let held = nothing_holds eq meaning cache pass after gives in
      record { pins = λ k. let more = held.pins k in omega arith; claims = held.claims }

  module _ (laws : IsEquivalence eq) (same : (a b : K) → eq a b ≡ true → a ≡ b) (of : AreShardsOf cache.tag cache.shards) (keys : List K) where
    pub pinned-more : (pins : List (PinView K V)) → IsPinnedAll eq meaning cache pass keys after pins → HoldsMore eq meaning cache pass after keys
    pinned-more pins h = let held = pinned_all_holds eq laws same meaning cache pass after keys pins of h in record { pins = held.pins; claims = held.claims }

    -- the pass is a later one, whatever the try came to
    pub tried-later : {A E : Type 0} (pins : A → List (PinView K V)) (tried : Result A E) → IfOk tried (λ a. IsPinnedAll eq meaning cache pass keys after (pins a)) → IfErr tried (λ refusal. GivesNothing pass after) → IsLater pass after
    tried-later pins (Ok a) had refused = (pinned_all_holds eq laws same meaning cache pass after keys (pins a) of had).later
    tried-later pins (Err refusal) had refused = (nothing_holds eq meaning cache pass after refused).later

module _ {K V : Type 0} (keys : List K) (pins : List (PinView K V)) (are : map (λ p. p.key) pins ≡ keys) where
  -- there is a pin for each key
  pub pin-each : length pins ≡ length keys
  pin-each = sym (length-map pins (λ (p : PinView K V). p.key)) ∙ ap length are

-- what is taken from the end of one list is put at the end of another
module _ {X Y : Type 0} (f : X → Y) (all left before : List X) (x : X) (given after : List Y) (taken : before ≡ left ++ x ∷ []) (put : after ≡ given ++ f x ∷ []) where
  pub one-moved : map f before ++ reverse given ≡ map f all → map f left ++ reverse after ≡ map f all
  one-moved are =
      ap (λ (l : List Y). map f left ++ l) (ap reverse put ∙ reverse-append given (f x ∷ []))
      ∙ (sym (append_assoc (map f left) (f x ∷ []) (reverse given))
      ∙ (ap (λ (l : List Y). l ++ reverse given) (sym (map-append f left (x ∷ [])) ∙ ap (map f) (sym taken)) ∙ are))

pub all-moved : {X Y : Type 0} (f : X → Y) (all left : List X) (given : List Y) → left ≡ [] → map f left ++ reverse given ≡ map f all → reverse given ≡ map f all
all-moved {X} {Y} f all left given none are = ap (λ (l : List X). map f l ++ reverse given) (sym none) ∙ are
