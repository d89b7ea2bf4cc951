use Rattle.std.proofs.Common.{◌≡◌, ◌≤◌, length, take, vec_len, All}
use Rattle.std.specs.Vec.{vec_capacity}
use Rattle.std.specs.Arc.{arc_value}
use Rattle.flight_cache.specs.Shards.{IsCacheOf}
use Rattle.cache_kinds.specs.Kinds.{mask_meaning, region_meaning}
use Rattle.mask_keys.specs.Equality.{equal_masks, equal_regions}
use Rattle.mask_caches.specs.Adding.{IsFree}
use Rattle.mask_caches.specs.Leases.{IsHomeLease}
use Rattle.mask_caches.proofs.PartVisits.{AreHad}
use Rattle.mask_caches.proofs.caches.Caches.visit_masks.Given as goal

abbrev pub invariant-loop-part : goal.invariant-loop-part
invariant-loop-part g l = record {
  len : vec_len l.leases ≡ l.part-index;
  room : length l.parts ≤ vec_capacity l.leases;
  regions_of : IsCacheOf l.self.regions l.regions;
  masks_of : IsCacheOf l.self.masks l.masks;
  regions_free : IsFree equal_regions region_meaning l.self.regions l.regions;
  masks_free : IsFree equal_masks mask_meaning l.self.masks l.masks;
  homes : All (IsHomeLease mask_meaning l.self.masks) l.leases.items;
  had : AreHad (arc_value l.self.fonts).fonts l.self.regions l.self.masks l.fn.regions l.fn.masks (take l.part-index l.parts) l.regions l.masks l.leases.items;
}
