-- Passes that are split off the first one, one after another.
use Rattle.std.proofs.Common.{◌≡◌, ℕ, ◌+◌, ◌<◌, refl, sym, ap, subst, ◌∙◌, arith}
use mathlib.Core.Logic.{dite}
use native.Mathlib.Decide.{ℕ_discrete}
use Rattle.cache_kinds.specs.Kinds.{composite_meaning, mask_meaning, region_meaning}
use Rattle.flight_cache.specs.Calls.{ShardPassView, ShardView, own_steps}
use Rattle.flight_cache.specs.Histories.{step_of}
use Rattle.flight_cache.specs.Meaning.{Meaning}
use Rattle.flight_cache.specs.Shards.{CachePassView, CacheView, at}
use Rattle.mask_caches.specs.Caches.{IsJoinedIn, IsSplitIn}
use Rattle.renderer.specs.Passes.{HoldsNothing, IsPassOfRenderer, IsRenderJoined, IsRenderSplit, RenderView, RendererView}
use Rattle.turn_cell.specs.Passes.{Extends, PassView, joined_pass, new_pass, split_pass}
use Rattle.turn_cell.proofs.Histories.{IsPrefix_same}
use Rattle.std.proofs.lemmas.List.Elements.{All-weaker}
use Rattle.play_model.specs.Joining.{ArePassesJoined, ArePassesSplit}
use Rattle.play_model.proofs.JoinedPasses.{joined_step}
use Rattle.play_rounds.specs.Passes.{AreCachePassesJoined, AreCachePassesSplit, AreRendersJoined, AreRendersSplit, EachExtendsItself, ExtendsItself}
use Rattle.play_rounds.proofs.Shards.{at_all, at_both, at_each, begins_at, extends_at, gave_the_same}

module _ {E T : Type 0} where
  pub none_split : (first : PassView E T) (passes : ℕ → PassView E T) → ArePassesSplit first 0 passes first
  none_split first passes =
      let same : first.next ≡ first.next + 0 = omega arith in record {
        first_is = ap (λ (n : ℕ). record first { next = n }) same;
        each = λ i lt. absurd (omega arith);
      }

  pub split_more : (first now kept new : PassView E T) (count : ℕ) (passes : ℕ → PassView E T) → ArePassesSplit first count passes now
      → kept ≡ split_pass now → new ≡ new_pass now → passes count ≡ new → ArePassesSplit first (count + 1) passes kept
  split_more first now kept new count passes so_far kept_is new_is named =
      let next : (first.next + count) + 1 ≡ first.next + (count + 1) = omega arith in record {
        first_is = kept_is ∙ (ap (λ (p : PassView E T). split_pass p) so_far.first_is ∙ ap (λ (n : ℕ). record first { next = n }) next);
        each = λ i lt. dite (ℕ_discrete i count)
            (λ here. subst (λ (k : ℕ). passes k ≡ new_pass (record first { next = first.next + k })) (sym here) (named ∙ (new_is ∙ ap (λ (p : PassView E T). new_pass p) so_far.first_is)))
            (λ ne. so_far.each i (omega arith));
      }

  pub none_joined : (first : PassView E T) (passes : ℕ → PassView E T) → Extends first first.seen → ArePassesJoined first 0 passes first
  none_joined first passes itself = record {
    cell = refl;
    tag = refl;
    number = refl;
    next = refl;
    begins = IsPrefix_same first.seen;
    mine_is = refl;
    past = λ pair there. there;
    joined = λ i lt. absurd (omega arith);
    seen = λ i lt. absurd (omega arith);
    itself = itself;
  }

  -- a first pass that drew more numbers still extends itself
  pub extends_later : (p : PassView E T) (n : ℕ) → Extends p p.seen → Extends (record p { next = p.next + n }) p.seen
  extends_later p n ex = record {
    begins = ex.begins;
    own = ex.own;
    joined = ex.joined;
    distinct = ex.distinct;
    below = λ zeroth. All-weaker (λ (x : ℕ × E). x.0 < p.next) (λ (x : ℕ × E). x.0 < p.next + n) (λ x h. omega (arith, h)) p.seen (ex.below zeroth);
  }

-- ---- of a cache

module _ {K T : Type 0} where
  pub caches_none_split : (first : CachePassView K T) (passes : ℕ → CachePassView K T) → AreCachePassesSplit first 0 passes first
  caches_none_split first passes = λ n. none_split (at first n) (λ i. at (passes i) n)

  pub caches_split_more : {V : Type 0} (meaning : Meaning K V T) (cache : CacheView T) (first now kept new : CachePassView K T) (count : ℕ) (passes : ℕ → CachePassView K T)
      → AreCachePassesSplit first count passes now → IsSplitIn meaning cache now kept new → passes count ≡ new → AreCachePassesSplit first (count + 1) passes kept
  caches_split_more meaning cache first now kept new count passes so_far split named =
      λ n. split_more (at first n) (at now n) (at kept n) (at new n) count (λ i. at (passes i) n) (so_far n)
      (ap (λ (p : CachePassView K T). at p n) split.first_is ∙ at_each (λ (p : ShardPassView K T). split_pass p) now n) (ap (λ (p : CachePassView K T). at p n) split.new_is ∙ at_each (λ (p : ShardPassView K T). new_pass p) now n)
      (ap (λ (p : CachePassView K T). at p n) named)

  pub caches_none_joined : (first : CachePassView K T) (passes : ℕ → CachePassView K T) → EachExtendsItself first → AreCachePassesJoined first 0 passes first
  caches_none_joined first passes itself = λ n. none_joined (at first n) (λ i. at (passes i) n) (itself n)

  pub caches_join_more : {V : Type 0} (meaning : Meaning K V T) (cache : CacheView T) (first now pass after : CachePassView K T) (count : ℕ) (passes : ℕ → CachePassView K T)
      → AreCachePassesJoined first count passes now → IsJoinedIn meaning cache now pass after → passes count ≡ pass → AreCachePassesJoined first (count + 1) passes after
  caches_join_more meaning cache first now pass after count passes so_far join named =
      λ n. let is : at after n ≡ joined_pass (at now n) (at pass n) = ap (λ (p : CachePassView K T). at p n) join.is ∙ at_both (λ (p q : ShardPassView K T). joined_pass p q) now pass n in
      let steps : own_steps meaning (at cache.shards n).tag (at after n) ≡ own_steps meaning (at cache.shards n).tag (at now n) =
      at_all (λ (shard : ShardView T) (p q : ShardPassView K T). own_steps meaning shard.tag q ≡ own_steps meaning shard.tag p) cache.shards now after join.own.first join.own.second join.own.third join.own.fourth n in
      let begins = begins_at now after join.begins n in
      joined_step (at first n) (at now n) (at pass n) (at after n) count (λ i. at (passes i) n) (so_far n) (ap (λ (p : CachePassView K T). at p n) named) is begins (begins_at pass after join.begins_other n)
      (gave_the_same (step_of meaning (at cache.shards n).tag) (at now n) (at after n) (ap (λ (p : ShardPassView K T). p.number) is) begins steps) (extends_at after join.itself n)

  pub caches_itself_later : (first split : CachePassView K T) (count : ℕ) (passes : ℕ → CachePassView K T) → AreCachePassesSplit first count passes split → EachExtendsItself first → EachExtendsItself split
  caches_itself_later first split count passes are_split itself =
      λ n. subst (λ (p : ShardPassView K T). Extends p p.seen) (sym (are_split n).first_is) (extends_later (at first n) count (itself n))

-- ---- of a renderer

pub renders_none : (renderer : RendererView) (first : RenderView) (passes : ℕ → RenderView) → AreRendersSplit renderer first 0 passes first
renders_none renderer first passes = record {
  track = none_split first.track (λ i. (passes i).track);
  regions = caches_none_split first.caches.regions (λ i. (passes i).caches.regions);
  masks = caches_none_split first.caches.masks (λ i. (passes i).caches.masks);
  composites = caches_none_split first.caches.composites (λ i. (passes i).caches.composites);
  each_of = λ i lt. absurd (omega arith);
  nothing = λ i lt. absurd (omega arith);
}

pub renders_more : (renderer : RendererView) (first now kept new : RenderView) (count : ℕ) (passes : ℕ → RenderView) → AreRendersSplit renderer first count passes now
    → IsRenderSplit renderer now kept new → passes count ≡ new → AreRendersSplit renderer first (count + 1) passes kept
renders_more renderer first now kept new count passes so_far split named =
    let caches = renderer.caches in record {
      track = split_more first.track now.track kept.track new.track count (λ i. (passes i).track) so_far.track split.track.first_is split.track.new_is (ap (λ (p : RenderView). p.track) named);
      regions = caches_split_more region_meaning caches.regions first.caches.regions now.caches.regions kept.caches.regions new.caches.regions count (λ i. (passes i).caches.regions)
          so_far.regions split.caches.regions (ap (λ (p : RenderView). p.caches.regions) named);
      masks = caches_split_more mask_meaning caches.masks first.caches.masks now.caches.masks kept.caches.masks new.caches.masks count (λ i. (passes i).caches.masks)
          so_far.masks split.caches.masks (ap (λ (p : RenderView). p.caches.masks) named);
      composites = caches_split_more composite_meaning caches.composites first.caches.composites now.caches.composites kept.caches.composites new.caches.composites count (λ i. (passes i).caches.composites)
          so_far.composites split.caches.composites (ap (λ (p : RenderView). p.caches.composites) named);
      each_of = λ i lt. dite (ℕ_discrete i count)
          (λ here. subst (λ (k : ℕ). IsPassOfRenderer renderer (passes k)) (sym here) (subst (IsPassOfRenderer renderer) (sym named) split.new_of))
          (λ ne. so_far.each_of i (omega arith));
      nothing = λ i lt. dite (ℕ_discrete i count)
          (λ here. subst (λ (k : ℕ). HoldsNothing renderer (passes k)) (sym here) (subst (HoldsNothing renderer) (sym named) split.nothing))
          (λ ne. so_far.nothing i (omega arith));
    }

pub joins_none : (renderer : RendererView) (first : RenderView) (passes : ℕ → RenderView) → ExtendsItself first → AreRendersJoined renderer first 0 passes first
joins_none renderer first passes itself = record {
  track = none_joined first.track (λ i. (passes i).track) itself.track;
  regions = caches_none_joined first.caches.regions (λ i. (passes i).caches.regions) itself.regions;
  masks = caches_none_joined first.caches.masks (λ i. (passes i).caches.masks) itself.masks;
  composites = caches_none_joined first.caches.composites (λ i. (passes i).caches.composites) itself.composites;
  nothing = λ i lt. absurd (omega arith);
}

pub joins_more : (renderer : RendererView) (first now pass after : RenderView) (count : ℕ) (passes : ℕ → RenderView) → AreRendersJoined renderer first count passes now
    → IsRenderJoined renderer now pass after → HoldsNothing renderer pass → passes count ≡ pass → AreRendersJoined renderer first (count + 1) passes after
joins_more renderer first now pass after count passes so_far join nothing named =
    let caches = renderer.caches in record {
      track = joined_step first.track now.track pass.track after.track count (λ i. (passes i).track) so_far.track (ap (λ (p : RenderView). p.track) named)
          join.track.is join.track.begins join.track.begins_other join.track.own join.track.itself;
      regions = caches_join_more region_meaning caches.regions first.caches.regions now.caches.regions pass.caches.regions after.caches.regions count (λ i. (passes i).caches.regions)
          so_far.regions join.caches.regions (ap (λ (p : RenderView). p.caches.regions) named);
      masks = caches_join_more mask_meaning caches.masks first.caches.masks now.caches.masks pass.caches.masks after.caches.masks count (λ i. (passes i).caches.masks)
          so_far.masks join.caches.masks (ap (λ (p : RenderView). p.caches.masks) named);
      composites = caches_join_more composite_meaning caches.composites first.caches.composites now.caches.composites pass.caches.composites after.caches.composites count (λ i. (passes i).caches.composites)
          so_far.composites join.caches.composites (ap (λ (p : RenderView). p.caches.composites) named);
      nothing = λ i lt. dite (ℕ_discrete i count)
          (λ here. subst (λ (k : ℕ). HoldsNothing renderer (passes k)) (sym here) (subst (HoldsNothing renderer) (sym named) nothing))
          (λ ne. so_far.nothing i (omega arith));
    }
