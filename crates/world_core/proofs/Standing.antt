-- The laws that hold of caches with histories, and what is kept of what an actor holds.
use Rattle.std.proofs.Common.{◌≡◌, ℕ, ◌≤◌, List, get_or, Option, Some, None, refl, sym, ap, subst, arith}
use Rattle.std.specs.Arc.{arc_value}
use Rattle.std.specs.List.{All}
use Rattle.evict_core.specs.Asked.{ready_value}
use Rattle.evict_core.specs.Machine.{State, Status, Flying, Ready, pins_in, status_of}
use Rattle.evict_core.proofs.PinLaws.{held-are-pins}
use Rattle.mask_keys.specs.declared.composite_key.CompositeKey.{CompositeKey}
use Rattle.mask_keys.specs.declared.plans.Clip.{Clip}
use Rattle.mask_keys.specs.declared.plans.Clip.TheVariants as clip
use Rattle.mask_keys.specs.declared.plans.Draw.{Draw}
use Rattle.world_core.specs.Caches.{ActorCachesView, shard_in}
use Rattle.world_core.specs.Holdings.{count_held}
use Rattle.world_core.specs.CacheLaws.{HaveHistories}
use Rattle.world_core.proofs.Owned.{tickets-are-of-making, makers-have-tickets, pins-are-actors, each-in-budget, each-in-limit, ready-values-are-made}
use Rattle.world_core.specs.Keys.{equal_world_keys, world_meaning, world_shard}
use Rattle.world_core.specs.Laws.{KeepsLaws}
use Rattle.world_core.specs.Replies.{HoldsAll, HoldsClip, HoldsMask, KeepsClip, KeepsDraw, KeepsMask}
use Rattle.world_core.specs.Tellings.{WorldTag}
use Rattle.world_core.specs.contracts.world_keys.WorldKeyEq.TheImpl.Laws as key_laws
use Rattle.world_core.specs.declared.world_keys.WorldKey.{WorldKey}
use Rattle.world_core.specs.declared.world_keys.WorldKey.TheVariants as key
use Rattle.world_core.specs.declared.world_keys.WorldValue.{WorldValue}
use Rattle.world_core.specs.SameKeys.{world_same}

module _ (s : ActorCachesView WorldKey WorldValue WorldTag) (have : HaveHistories equal_world_keys world_meaning s) where
  held-pinned : (actor n : ℕ) (key : WorldKey) → 1 ≤ count_held equal_world_keys actor n key s.pins → 1 ≤ pins_in (status_of equal_world_keys (shard_in s n) key)
  held-pinned actor n key some =
      let among = held-are-pins equal_world_keys key_laws.laws-law (have.limits n).0 (have.limits n).1 (have.histories n) (have.stand.legal n) actor key in
      subst (λ (z : State WorldKey WorldValue). 1 ≤ pins_in (status_of equal_world_keys z key)) (sym (have.stand.shards n)) (omega (arith, some, have.stand.pins actor n key, among))

  -- what an actor holds is there, with its value
  pub held-kept : (actor n : ℕ) (key : WorldKey) → 1 ≤ count_held equal_world_keys actor n key s.pins
      → ready_value (status_of equal_world_keys (shard_in s n) key) ≡ Some (world_meaning.made s.tag key)
  held-kept actor n key some = by (status_of equal_world_keys (shard_in s n) key) refl (held-pinned actor n key some)
    where
      by : (o : Option (Status WorldValue)) → status_of equal_world_keys (shard_in s n) key ≡ o → 1 ≤ pins_in o → ready_value o ≡ Some (world_meaning.made s.tag key)
      by None is pins = absurd (omega (arith, pins))
      by (Some (Flying number)) is pins = absurd (omega (arith, pins))
      by (Some (Ready pins cost value)) is some = ap Some (ready-values-are-made equal_world_keys key_laws.laws-law world_meaning world_same s have n key value (ap ready_value is))

  pub keeps-laws : KeepsLaws world_meaning s
  keeps-laws = record {
    legal = have;
    budget = each-in-budget equal_world_keys key_laws.laws-law world_meaning s have;
    limit = each-in-limit equal_world_keys key_laws.laws-law world_meaning s have;
    tickets = tickets-are-of-making equal_world_keys key_laws.laws-law world_meaning s have;
    makers = makers-have-tickets equal_world_keys key_laws.laws-law world_meaning s have;
    pins = pins-are-actors equal_world_keys key_laws.laws-law world_meaning s have;
    held = held-kept;
  }

-- ---- draws

module _ (s : ActorCachesView WorldKey WorldValue WorldTag) (laws : KeepsLaws world_meaning s) (actor : ℕ) where
  kept-mask : (k : CompositeKey) → HoldsMask s actor k → KeepsMask (arc_value s.tag).fonts s k
  kept-mask k holds = laws.held actor (world_shard (key.Composite k)) (key.Composite k) holds

  kept-clip : (c : Clip) → HoldsClip s actor c → KeepsClip (arc_value s.tag).fonts s c
  kept-clip clip.Free holds = tt
  kept-clip (clip.Rect x1 y1 x2 y2 inverse) holds = tt
  kept-clip (clip.Drawn k x y inverse) holds = kept-mask k holds

  -- what an actor holds of draws is kept
  pub kept-draws : (draws : List Draw) → HoldsAll s actor draws → All (KeepsDraw (arc_value s.tag).fonts s) draws
  kept-draws draws holds = λ k d below. record { mask = kept-mask (get_or draws k d).key (holds k d below).mask; clip = kept-clip (get_or draws k d).clip (holds k d below).clip }
