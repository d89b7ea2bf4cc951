-- What an ask gives, by its answer.
use Rattle.std.proofs.Common.{◌≡◌, Bool, true, false, Some, None, sym, subst}
use Rattle.std.specs.Cmp.{IsEquivalence}
use Rattle.evict_core.specs.Machine as machine
use Rattle.flight_cache.specs.Meaning.{Meaning, shard_of}
use Rattle.flight_cache.specs.Answers.{HasKeyValue, IsAsked}
use Rattle.flight_cache.proofs.Asking.{short-follows}
use Rattle.flight_cache.specs.Shards.{CacheView, CachePassView, at, with_at}
use Rattle.flight_cache.specs.declared.pins.Asked.{Asked}
use Rattle.flight_cache.specs.declared.pins.Asked.TheVariants.{Hit, Make, OutOfMemory}
use Rattle.mask_caches.specs.Adding.{Adds, is_open}
use Rattle.mask_caches.specs.Courses.{IsForKey, IsNewClaim, IsUnaskedBy, asked_steps}
use Rattle.mask_caches.proofs.Adding.{adds-ask, adds-nothing}
use Rattle.mask_caches.proofs.Closing.{closed-before}

module _ {M K V T : Type 0} (eq : K → K → Bool) (laws : IsEquivalence eq) (same : (a b : K) → eq a b ≡ true → a ≡ b) (meaning : Meaning K V T) (cache : CacheView T) (key : K) (pass after : CachePassView K T) where
  abbrev IsAnswer : Asked M K V T → Type 0
  IsAnswer answer = let n = shard_of (meaning.numbers key) in IsAsked eq meaning (at cache.shards n) (at pass n) key (at after n) answer

  pub ask-steps : (answer : Asked M K V T) → IsAnswer answer → (let n = shard_of (meaning.numbers key) in after ≡ with_at pass n (at after n)) → Adds eq meaning cache pass after (asked_steps meaning cache.tag key answer)
  ask-steps (Hit pin) asked others = adds-ask eq same meaning cache key machine.Hit pass after (asked.0, others)
  ask-steps (Make (Some ticket)) asked others = adds-ask eq same meaning cache key machine.Claim pass after (asked.0, others)
  ask-steps (Make None) asked others = adds-ask eq same meaning cache key machine.Crowded pass after (asked, others)
  ask-steps OutOfMemory asked others = let n = shard_of (meaning.numbers key) in adds-nothing eq meaning cache key pass after (short-follows eq meaning (at cache.shards n) (at pass n) (at after n) key asked) others

  pub ask-key : (answer : Asked M K V T) → IsAnswer answer → HasKeyValue meaning cache.tag key answer → IsForKey meaning cache.tag key answer
  ask-key (Hit pin) asked value = (asked.1, value)
  ask-key (Make (Some ticket)) asked value = asked.1
  ask-key (Make None) asked value = tt
  ask-key OutOfMemory asked value = tt

  pub ask-new : (answer : Asked M K V T) → IsAnswer answer → IsNewClaim meaning cache.tag eq cache pass answer
  ask-new (Hit pin) asked = tt
  ask-new (Make (Some ticket)) asked =
      let n = shard_of (meaning.numbers key) in
      subst (λ (k : K). is_open eq meaning cache pass k ≡ false) (sym asked.1) (closed-before eq laws meaning (at cache.shards n) (at pass n) (at after n) key asked.0)
  ask-new (Make None) asked = tt
  ask-new OutOfMemory asked = tt

  pub ask-short : (answer : Asked M K V T) → IsAnswer answer → IsUnaskedBy eq meaning cache pass key after answer
  ask-short (Hit pin) asked = tt
  ask-short (Make duty) asked = tt
  ask-short OutOfMemory asked = asked
