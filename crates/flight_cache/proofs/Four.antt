-- Four shards at once, and what is held of them.
use Rattle.std.proofs.Common.{◌≡◌, ℕ, zero, suc, ◌+◌, ◌<◌, Bool, true, false, List, [], length, get_or, take, Some, sym, ap, ◌∙◌, subst, arith}
use Rattle.std.proofs.lemmas.Bool.{eqb-true}
use Rattle.std.specs.Cmp.{IsEquivalence}
use Rattle.evict_core.specs.Machine.{status_of, maker_in, max_pins}
use Rattle.evict_core.specs.History.{times_named}
use Rattle.evict_core.specs.Asked.{ready_pins}
use Rattle.flight_cache.specs.Meaning.{Meaning, shard_count, shard_of}
use Rattle.flight_cache.specs.Histories.{is_in, value_under}
use Rattle.flight_cache.specs.Calls.{ShardView, ShardPassView}
use Rattle.flight_cache.specs.Shards.{Shards, CacheView, CachePassView, IsShardOf, AreShardsOf, AreAlike, at}
use Rattle.flight_cache.specs.Pinning.{is_named, shown_state, GivesNothing, StopsBeforeAll}
use Rattle.flight_cache.specs.Holds.{pass_back, passes_back, four_of, pins_at, maker_at, held_value, IsHeld, IsHoldOf, CanPin, IsPassPinned, AreHeld, AreHoldsOf, CanPinAll, ArePassesPinned}
use Rattle.flight_cache.specs.declared.holds.Hold.{Hold}
use Rattle.flight_cache.specs.declared.holds.Hold.TheVariants.{Turn, Pass}
use Rattle.flight_cache.specs.declared.holds.Holds.{Holds}
use Rattle.flight_cache.proofs.Values.{value-found}
use Rattle.flight_cache.proofs.Places.{more-pinnable, none-pinnable}
use Rattle.flight_cache.proofs.Pinned.{back-follows, back-stops}

-- the shard of a number
pub at-shard : {T : Type 0} (tag : T) (s : Shards (ShardView T)) → AreShardsOf tag s → (n : ℕ) → n < shard_count → IsShardOf tag (at s n) n
at-shard tag s of zero lt = of.first
at-shard tag s of (suc zero) lt = of.second
at-shard tag s of (suc (suc zero)) lt = of.third
at-shard tag s of (suc (suc (suc zero))) lt = of.fourth
at-shard tag s of (suc (suc (suc (suc n)))) lt = absurd (omega arith)

-- what holds of each of four holds of each number
pub at-each : {A B C : Type 0} (Q : A → B → C → Type 0) (s : Shards A) (p : Shards B) (h : Shards C)
    → Q s.first p.first h.first → Q s.second p.second h.second → Q s.third p.third h.third → Q s.fourth p.fourth h.fourth
    → (n : ℕ) → n < shard_count → Q (at s n) (at p n) (at h n)
at-each Q s p h a b c d zero lt = a
at-each Q s p h a b c d (suc zero) lt = b
at-each Q s p h a b c d (suc (suc zero)) lt = c
at-each Q s p h a b c d (suc (suc (suc zero))) lt = d
at-each Q s p h a b c d (suc (suc (suc (suc n)))) lt = absurd (omega arith)

module _ {K T : Type 0} where
  -- passes stay alike over calls that neither split nor join
  pub alike-after : (p q : CachePassView K T) → GivesNothing p q → AreAlike p → AreAlike q
  alike-after p q f a = record {
    second_number = f.second.number ∙ (a.second_number ∙ sym f.first.number);
    third_number = f.third.number ∙ (a.third_number ∙ sym f.first.number);
    fourth_number = f.fourth.number ∙ (a.fourth_number ∙ sym f.first.number);
    second_next = f.second.next ∙ (a.second_next ∙ sym f.first.next);
    third_next = f.third.next ∙ (a.third_next ∙ sym f.first.next);
    fourth_next = f.fourth.next ∙ (a.fourth_next ∙ sym f.first.next);
  }

module _ {M K V T : Type 0} (eq : K → K → Bool) (laws : IsEquivalence eq) (same : (a b : K) → eq a b ≡ true → a ≡ b) (meaning : Meaning K V T) where
  pinned-number : (shard : ShardView T) (keys : List K) (hold : Hold M K V T) (after : ShardPassView K T) → IsPassPinned eq meaning shard keys hold after → (after.number ≡ (pass_back hold).number) × (after.next ≡ (pass_back hold).next)
  pinned-number shard keys (Turn turn) after h = (ap (λ (p : ShardPassView K T). p.number) h.2, ap (λ (p : ShardPassView K T). p.next) h.2)
  pinned-number shard keys (Pass p) after h = (ap (λ (p : ShardPassView K T). p.number) h, ap (λ (p : ShardPassView K T). p.next) h)

  pub alike-pinned : (cache : CacheView T) (keys : List K) (holds : Holds M K V T) (after : CachePassView K T) → ArePassesPinned eq meaning cache keys holds after → AreAlike (passes_back holds) → AreAlike after
  alike-pinned cache keys holds after p a =
      let first = pinned-number cache.shards.first keys holds.first after.first p.first in
      let second = pinned-number cache.shards.second keys holds.second after.second p.second in
      let third = pinned-number cache.shards.third keys holds.third after.third p.third in
      let fourth = pinned-number cache.shards.fourth keys holds.fourth after.fourth p.fourth in record {
        second_number = second.0 ∙ (a.second_number ∙ sym first.0);
        third_number = third.0 ∙ (a.third_number ∙ sym first.0);
        fourth_number = fourth.0 ∙ (a.fourth_number ∙ sym first.0);
        second_next = second.1 ∙ (a.second_next ∙ sym first.1);
        third_next = third.1 ∙ (a.third_next ∙ sym first.1);
        fourth_next = fourth.1 ∙ (a.fourth_next ∙ sym first.1);
      }

  -- one key more, which can be pinned where it is in the shard
  can-more : (shard : ShardView T) (keys : List K) (i : ℕ) (d : K) → i < length keys → (hold : Hold M K V T) → CanPin eq meaning shard (take i keys) hold
      → (is_in meaning shard.tag (get_or keys i d) ≡ true → (pins : ℕ) × (pins_at eq hold (get_or keys i d) ≡ Some pins) × (pins + times_named eq (get_or keys i d) (take i keys) < max_pins))
      → CanPin eq meaning shard (take (i + 1) keys) hold
  can-more shard keys i d lt (Turn turn) can here = more-pinnable eq turn.value.entries (is_in meaning shard.tag) keys i d lt can here
  can-more shard keys i d lt (Pass p) can here = tt

  can-none : (shard : ShardView T) (hold : Hold M K V T) → CanPin eq meaning shard [] hold
  can-none shard (Turn turn) = none-pinnable eq turn.value.entries
  can-none shard (Pass p) = tt

  pub can-pin-none : (cache : CacheView T) (holds : Holds M K V T) → CanPinAll eq meaning cache [] holds
  can-pin-none cache holds = record {
    first = can-none cache.shards.first holds.first;
    second = can-none cache.shards.second holds.second;
    third = can-none cache.shards.third holds.third;
    fourth = can-none cache.shards.fourth holds.fourth;
  }

  -- the same for all four, where the shard of the key has it with pins to spare
  pub can-pin-more : (cache : CacheView T) → AreShardsOf cache.tag cache.shards → (keys : List K) (i : ℕ) (d : K) → i < length keys → (holds : Holds M K V T) → CanPinAll eq meaning cache (take i keys) holds
      → (pins : ℕ) → pins_at eq (at (four_of holds) (shard_of (meaning.numbers (get_or keys i d)))) (get_or keys i d) ≡ Some pins
      → pins + times_named eq (get_or keys i d) (take i keys) < max_pins
      → CanPinAll eq meaning cache (take (i + 1) keys) holds
  can-pin-more cache of keys i d lt holds can pins found few =
      let k = get_or keys i d in
      let n = shard_of (meaning.numbers k) in
      let here : (shard : ShardView T) (j : ℕ) → shard.tag.shard ≡ j → is_in meaning shard.tag k ≡ true → n ≡ j = λ shard j is t. eqb-true _ _ t ∙ is in
      let there : (j : ℕ) → n ≡ j → pins_at eq (at (four_of holds) j) k ≡ Some pins = λ j e. subst (λ (m : ℕ). pins_at eq (at (four_of holds) m) k ≡ Some pins) e found in
      record {
        first = can-more cache.shards.first keys i d lt holds.first can.first (λ t. (pins, there 0 (here cache.shards.first 0 of.first.number t), few));
        second = can-more cache.shards.second keys i d lt holds.second can.second (λ t. (pins, there 1 (here cache.shards.second 1 of.second.number t), few));
        third = can-more cache.shards.third keys i d lt holds.third can.third (λ t. (pins, there 2 (here cache.shards.third 2 of.third.number t), few));
        fourth = can-more cache.shards.fourth keys i d lt holds.fourth can.fourth (λ t. (pins, there 3 (here cache.shards.fourth 3 of.fourth.number t), few));
      }

  -- the value of a key that is held
  value-held : (shard : ShardView T) (hold : Hold M K V T) → IsHeld eq meaning shard hold → (k : K) (value : V) → held_value eq hold k ≡ Some value → value ≡ value_under meaning shard.tag k
  value-held shard (Turn turn) h k value found = value-found meaning shard.tag eq laws same turn.value.entries h.1.made k value found
  value-held shard (Pass p) h k value found = cc

  pub value-made : (cache : CacheView T) → AreShardsOf cache.tag cache.shards → (holds : Holds M K V T) → AreHeld eq meaning cache holds → (n : ℕ) → n < shard_count → (k : K) (value : V) → held_value eq (at (four_of holds) n) k ≡ Some value → value ≡ meaning.made cache.tag k
  value-made cache of holds held n lt k value found =
      let law = at-each (λ (shard : ShardView T) (other : ShardView T) (hold : Hold M K V T). held_value eq hold k ≡ Some value → value ≡ value_under meaning shard.tag k) cache.shards cache.shards (four_of holds)
      (value-held cache.shards.first holds.first held.first k value) (value-held cache.shards.second holds.second held.second k value) (value-held cache.shards.third holds.third held.third k value) (value-held cache.shards.fourth holds.fourth held.fourth k value) n lt found in
      law ∙ ap (λ (t : T). meaning.made t k) (at-shard cache.tag cache.shards of n lt).tagged

  module _ (shards : List ℕ) (cache : CacheView T) (pass : CachePassView K T) (holds : Holds M K V T) (h : AreHoldsOf eq meaning shards cache pass holds) where
    pub back-nothing : GivesNothing pass (passes_back holds)
    back-nothing = record {
      first = back-follows eq laws same meaning cache.shards.first shards pass.first holds.first h.first;
      second = back-follows eq laws same meaning cache.shards.second shards pass.second holds.second h.second;
      third = back-follows eq laws same meaning cache.shards.third shards pass.third holds.third h.third;
      fourth = back-follows eq laws same meaning cache.shards.fourth shards pass.fourth holds.fourth h.fourth;
    }

    pub back-stops-all : (keys : List K) → CanPinAll eq meaning cache keys holds → StopsBeforeAll eq meaning cache pass shards (passes_back holds) keys
    back-stops-all keys can = record {
      first = back-stops eq laws same meaning cache.shards.first shards pass.first holds.first keys h.first can.first;
      second = back-stops eq laws same meaning cache.shards.second shards pass.second holds.second keys h.second can.second;
      third = back-stops eq laws same meaning cache.shards.third shards pass.third holds.third keys h.third can.third;
      fourth = back-stops eq laws same meaning cache.shards.fourth shards pass.fourth holds.fourth keys h.fourth can.fourth;
    }

    -- the pins of a key whose turn is held are what the turn showed
    pins-one : (shard : ShardView T) (p : ShardPassView K T) (hold : Hold M K V T) → IsHoldOf eq meaning shards shard p hold → is_named shards shard.tag.shard ≡ true → (k : K) → ready_pins (status_of eq (shown_state eq meaning shard (pass_back hold)) k) ≡ pins_at eq hold k
    pins-one shard p (Turn turn) h named k = ap (λ z. ready_pins (status_of eq z k)) (sym h.1.value.entries)
    pins-one shard p (Pass other) h named k = let no : true ≡ false = sym named ∙ h.0 in cc

    pub pins-back : AreShardsOf cache.tag cache.shards → (n : ℕ) → n < shard_count → is_named shards n ≡ true → (k : K) → ready_pins (status_of eq (shown_state eq meaning (at cache.shards n) (at (passes_back holds) n)) k) ≡ pins_at eq (at (four_of holds) n) k
    pins-back of n lt named k =
        at-each (λ (shard : ShardView T) (after : ShardPassView K T) (hold : Hold M K V T). is_named shards shard.tag.shard ≡ true → ready_pins (status_of eq (shown_state eq meaning shard after) k) ≡ pins_at eq hold k) cache.shards (passes_back holds) (four_of holds)
        (λ t. pins-one cache.shards.first pass.first holds.first h.first t k) (λ t. pins-one cache.shards.second pass.second holds.second h.second t k) (λ t. pins-one cache.shards.third pass.third holds.third h.third t k) (λ t. pins-one cache.shards.fourth pass.fourth holds.fourth h.fourth t k) n lt
        (subst (λ (m : ℕ). is_named shards m ≡ true) (sym (at-shard cache.tag cache.shards of n lt).number) named)

    -- so is who makes it
    makers-one : (shard : ShardView T) (p : ShardPassView K T) (hold : Hold M K V T) → IsHoldOf eq meaning shards shard p hold → is_named shards shard.tag.shard ≡ true → (k : K) → maker_in (status_of eq (shown_state eq meaning shard (pass_back hold)) k) ≡ maker_at eq hold k
    makers-one shard p (Turn turn) h named k = ap (λ z. maker_in (status_of eq z k)) (sym h.1.value.entries)
    makers-one shard p (Pass other) h named k = let no : true ≡ false = sym named ∙ h.0 in cc

    pub makers-back : AreShardsOf cache.tag cache.shards → (n : ℕ) → n < shard_count → is_named shards n ≡ true → (k : K) → maker_in (status_of eq (shown_state eq meaning (at cache.shards n) (at (passes_back holds) n)) k) ≡ maker_at eq (at (four_of holds) n) k
    makers-back of n lt named k =
        at-each (λ (shard : ShardView T) (after : ShardPassView K T) (hold : Hold M K V T). is_named shards shard.tag.shard ≡ true → maker_in (status_of eq (shown_state eq meaning shard after) k) ≡ maker_at eq hold k) cache.shards (passes_back holds) (four_of holds)
        (λ t. makers-one cache.shards.first pass.first holds.first h.first t k) (λ t. makers-one cache.shards.second pass.second holds.second h.second t k) (λ t. makers-one cache.shards.third pass.third holds.third h.third t k) (λ t. makers-one cache.shards.fourth pass.fourth holds.fourth h.fourth t k) n lt
        (subst (λ (m : ℕ). is_named shards m ≡ true) (sym (at-shard cache.tag cache.shards of n lt).number) named)
