-- Trying for the turns of the named shards, one after another.
use Rattle.std.proofs.Common.{◌≡◌, ℕ, ◌+◌, ◌==◌, nat_lt, Bool, true, List, [], inl, inr, refl, sym, subst, lit<}
use Rattle.std.specs.Bool.{MatchBool}
use Rattle.std.specs.Cmp.{IsEquivalence}
use Rattle.flight_cache.specs.Meaning.{Meaning}
use Rattle.flight_cache.specs.Calls.{ShardView, ShardPassView}
use Rattle.flight_cache.specs.Shards.{CacheView, CachePassView, IsCacheOf, AreShardsOf, AreAlike}
use Rattle.flight_cache.specs.Pinning.{is_named, TurnsWith, IsOutAt, IsTurnOut}
use Rattle.flight_cache.specs.Holds.{pass_back, passes_back, IsHoldOf, IsOneLost, AreHoldsOf}
use Rattle.flight_cache.specs.declared.holds.Hold.{Hold}
use Rattle.flight_cache.specs.declared.holds.Holds.{Holds}
use Rattle.flight_cache.proofs.Pinned.{held-of, back-turns, back-follows}
use Rattle.flight_cache.proofs.Four.{alike-after}
use Rattle.flight_cache.proofs.Refusals.{out-nothing}

module _ {K V T : Type 0} (eq : K → K → Bool) (meaning : Meaning K V T) (shards : List ℕ) where
  -- how a shard of number j is left where n is out
  out-at : (shard : ShardView T) (pass after : ShardPassView K T) (j n : ℕ) → shard.tag.shard ≡ j
      → MatchBool (nat_lt j n) (TurnsWith eq meaning shards shard pass after []) (MatchBool (j == n) (after ≡ record pass { lost = pass.lost + 1 }) (after ≡ pass))
      → IsOutAt eq meaning shards shard pass after n
  out-at shard pass after j n is h = subst (λ (m : ℕ). MatchBool (nat_lt m n) (TurnsWith eq meaning shards shard pass after []) (MatchBool (m == n) (after ≡ record pass { lost = pass.lost + 1 }) (after ≡ pass))) (sym is) h

  module _ (cache : CacheView T) (of : AreShardsOf cache.tag cache.shards) (pass : CachePassView K T) where
    -- one of the first two shards is out
    pub out-front : (first second : ShardPassView K T) → IsOneLost eq meaning shards cache.shards.first cache.shards.second pass.first pass.second first second
        → (n : ℕ) × IsTurnOut eq meaning cache pass shards (record { first = first; second = second; third = pass.third; fourth = pass.fourth }) n
    out-front first second (inl h) = (
      0,
      record {
        below = lit< tt;
        named = subst (λ (m : ℕ). is_named shards m ≡ true) of.first.number h.0.0;
        first = out-at cache.shards.first pass.first first 0 0 of.first.number h.0.1;
        second = out-at cache.shards.second pass.second second 1 0 of.second.number h.1;
        third = out-at cache.shards.third pass.third pass.third 2 0 of.third.number refl;
        fourth = out-at cache.shards.fourth pass.fourth pass.fourth 3 0 of.fourth.number refl;
      },
    )
    out-front first second (inr h) = (
      1,
      record {
        below = lit< tt;
        named = subst (λ (m : ℕ). is_named shards m ≡ true) of.second.number h.1.0;
        first = out-at cache.shards.first pass.first first 0 1 of.first.number h.0;
        second = out-at cache.shards.second pass.second second 1 1 of.second.number h.1.1;
        third = out-at cache.shards.third pass.third pass.third 2 1 of.third.number refl;
        fourth = out-at cache.shards.fourth pass.fourth pass.fourth 3 1 of.fourth.number refl;
      },
    )

    -- one of the last two is, once the first two are given back
    pub out-back : (first second third fourth : ShardPassView K T) → TurnsWith eq meaning shards cache.shards.first pass.first first [] → TurnsWith eq meaning shards cache.shards.second pass.second second []
        → IsOneLost eq meaning shards cache.shards.third cache.shards.fourth pass.third pass.fourth third fourth
        → (n : ℕ) × IsTurnOut eq meaning cache pass shards (record { first = first; second = second; third = third; fourth = fourth }) n
    out-back first second third fourth one two (inl h) = (
      2,
      record {
        below = lit< tt;
        named = subst (λ (m : ℕ). is_named shards m ≡ true) of.third.number h.0.0;
        first = out-at cache.shards.first pass.first first 0 2 of.first.number one;
        second = out-at cache.shards.second pass.second second 1 2 of.second.number two;
        third = out-at cache.shards.third pass.third third 2 2 of.third.number h.0.1;
        fourth = out-at cache.shards.fourth pass.fourth fourth 3 2 of.fourth.number h.1;
      },
    )
    out-back first second third fourth one two (inr h) = (
      3,
      record {
        below = lit< tt;
        named = subst (λ (m : ℕ). is_named shards m ≡ true) of.fourth.number h.1.0;
        first = out-at cache.shards.first pass.first first 0 3 of.first.number one;
        second = out-at cache.shards.second pass.second second 1 3 of.second.number two;
        third = out-at cache.shards.third pass.third third 2 3 of.third.number h.0;
        fourth = out-at cache.shards.fourth pass.fourth fourth 3 3 of.fourth.number h.1.1;
      },
    )

    pub out-alike : (after : CachePassView K T) → (n : ℕ) × IsTurnOut eq meaning cache pass shards after n → AreAlike pass → AreAlike after
    out-alike after out alike = alike-after pass after (out-nothing eq meaning cache pass shards after out) alike

module _ {M K V T : Type 0} (eq : K → K → Bool) (laws : IsEquivalence eq) (same : (a b : K) → eq a b ≡ true → a ≡ b) (meaning : Meaning K V T) (shards : List ℕ) where
  -- what was let go
  pub gone-turns : (shard : ShardView T) (pass after : ShardPassView K T) (hold : Hold M K V T) → IsHoldOf eq meaning shards shard pass hold → after ≡ pass_back hold → TurnsWith eq meaning shards shard pass after []
  gone-turns shard pass after hold h e = subst (λ (z : ShardPassView K T). TurnsWith eq meaning shards shard pass z []) (sym e) (back-turns eq laws same meaning shard shards pass hold h)

  module _ (cache : CacheView T) (pass : CachePassView K T) where
    pub holds-of : AreAlike pass → IsCacheOf cache pass → (holds : Holds M K V T)
        → IsHoldOf eq meaning shards cache.shards.first pass.first holds.first → IsHoldOf eq meaning shards cache.shards.second pass.second holds.second → IsHoldOf eq meaning shards cache.shards.third pass.third holds.third → IsHoldOf eq meaning shards cache.shards.fourth pass.fourth holds.fourth
        → AreHoldsOf eq meaning shards cache pass holds
    holds-of alike from holds h k l m = record {
      first = h;
      second = k;
      third = l;
      fourth = m;
      held = record {
        first = held-of eq laws same meaning cache.shards.first shards pass.first from.first holds.first h;
        second = held-of eq laws same meaning cache.shards.second shards pass.second from.second holds.second k;
        third = held-of eq laws same meaning cache.shards.third shards pass.third from.third holds.third l;
        fourth = held-of eq laws same meaning cache.shards.fourth shards pass.fourth from.fourth holds.fourth m;
        alike = alike-after pass (passes_back holds) record {
          first = back-follows eq laws same meaning cache.shards.first shards pass.first holds.first h;
          second = back-follows eq laws same meaning cache.shards.second shards pass.second holds.second k;
          third = back-follows eq laws same meaning cache.shards.third shards pass.third holds.third l;
          fourth = back-follows eq laws same meaning cache.shards.fourth shards pass.fourth holds.fourth m;
        } alike;
      };
    }
