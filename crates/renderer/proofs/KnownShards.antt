-- What a pass knows of the shards.
use Rattle.std.proofs.Common.{Bool}
use Rattle.std.specs.Cmp.{IsEquivalence}
use Rattle.flight_cache.specs.Calls.{ShardPassView, ShardView}
use Rattle.flight_cache.specs.Histories.{IsLegalUnder}
use Rattle.flight_cache.specs.Meaning.{Meaning}
use Rattle.flight_cache.specs.Shards.{CachePassView, CacheView, EachIsLegal}
use Rattle.flight_cache.proofs.Home.{fills_once, history_in_budget}
use Rattle.renderer.specs.Keeping.{AreShardsKept, IsKept}

module _ {K V T : Type 0} (eq : K → K → Bool) (laws : IsEquivalence eq) (meaning : Meaning K V T) where
  shard-kept : (shard : ShardView T) (pass : ShardPassView K T) → IsLegalUnder eq meaning shard.tag pass.seen → IsKept eq meaning shard pass
  shard-kept shard pass legal = record {
    legal = legal;
    within = history_in_budget eq laws meaning shard.tag pass.seen legal;
    once = fills_once eq laws meaning shard.tag pass.seen legal;
  }

  pub shards-kept : (cache : CacheView T) (pass : CachePassView K T) → EachIsLegal eq meaning cache.shards pass → AreShardsKept eq meaning cache pass
  shards-kept cache pass legal = record {
    first = shard-kept cache.shards.first pass.first legal.first;
    second = shard-kept cache.shards.second pass.second legal.second;
    third = shard-kept cache.shards.third pass.third legal.third;
    fourth = shard-kept cache.shards.fourth pass.fourth legal.fourth;
  }

module _ {K V T : Type 0} (eq : K → K → Bool) (meaning : Meaning K V T) where
  pub shards-legal : (cache : CacheView T) (pass : CachePassView K T) → AreShardsKept eq meaning cache pass → EachIsLegal eq meaning cache.shards pass
  shards-legal cache pass kept = record { first = kept.first.legal; second = kept.second.legal; third = kept.third.legal; fourth = kept.fourth.legal }
