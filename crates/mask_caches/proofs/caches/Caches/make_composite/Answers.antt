use Rattle.std.proofs.Common.{◌≡◌, List, [], All, map, flat_map, reverse, sym, subst}
use Rattle.std.specs.Result.{IfOk}
use Rattle.std.specs.Arc.{arc_value}
use Rattle.mask_keys.specs.Equality.{equal_masks, equal_regions}
use Rattle.mask_keys.proofs.Equal.{mask_same, region_same}
use Rattle.mask_keys.specs.contracts.mask_key.MaskKeyEq.TheImpl.Laws as mask_laws
use Rattle.mask_keys.specs.contracts.region_key.RegionKeyEq.TheImpl.Laws as region_laws
use Rattle.mask_keys.specs.Keys.{IsValidPart}
use Rattle.mask_keys.specs.declared.composite_key.Part.{Part}
use Rattle.mask_keys.specs.Masks.{summed_mask}
use Rattle.mask_keys.specs.Outlines.{glyph_counts}
use Rattle.mask_keys.specs.Values.{placed_part}
use Rattle.cache_kinds.specs.Kinds.{mask_meaning, region_meaning}
use Rattle.mask_caches.specs.Holding.{AreAllHad, all_given_steps, pinned_keys}
use Rattle.mask_caches.specs.Visits.{AreMaskVisits, mask_steps, mask_unpins}
use Rattle.mask_caches.proofs.Adding.{adds-none, adds-stays}
use Rattle.mask_caches.proofs.Composed.{as-many, composed-value, given-back, given-then, more-held, none-visited, on-ok-then, placeable}
use Rattle.mask_caches.proofs.caches.Caches.make_composite.Goals as goal
use Rattle.mask_caches.proofs.Holding.{much-itself}

pub returns-then-is_err : goal.returns-then-is_err
returns-then-is_err g c = record {
  visits = ([], none-visited c.args.key.now.parts, adds-none equal_regions region_meaning c.args.self.now.regions c.args.regions, adds-none equal_masks mask_meaning c.args.self.now.masks c.args.masks, tt);
  regions = much-itself equal_regions region_meaning c.args.self.now.regions c.args.regions;
  holds = much-itself equal_masks mask_meaning c.args.self.now.masks c.args.masks;
  value = tt;
}

pub composed-made-requires : goal.composed-made-requires
composed-made-requires g c =
    let fonts = (arc_value c.args.self.now.fonts).fonts in
    let v = c.visit_masks-regions.ensures.visits.1 in
    let leases = c.visit_masks-regions.result.leases.items in
    record {
      count = as-many fonts c.as_slice-parts.result.now leases c.visit_masks-regions.result.are_all v.values;
      masks = placeable fonts c.as_slice-parts.result.now leases c.visit_masks-regions.result.are_all v.values (glyph_counts fonts) (subst (λ (l : List Part). All (IsValidPart (glyph_counts fonts)) l) (sym c.as_slice-parts.ensures) c.requires.key.parts);
    }

pub give_all_back-masks-requires : goal.give_all_back-masks-requires
give_all_back-masks-requires g c =
    let cache = c.args.self.now.masks in
    let r = c.visit_masks-regions.result in
    record {
      cell = adds-stays equal_masks mask_meaning cache c.args.masks r.masks _ c.requires.masks c.visit_masks-regions.ensures.visits.3;
      held = more-held equal_masks mask_meaning cache c.args.masks r.masks r.masks (pinned_keys r.leases.items) c.visit_masks-regions.ensures.holds;
      own = c.visit_masks-regions.ensures.homes;
    }

pub returns : goal.returns
returns g c =
    let fonts = (arc_value c.args.self.now.fonts).fonts in
    let cache = c.args.self.now.masks in
    let r = c.visit_masks-regions.result in
    let v = c.visit_masks-regions.ensures.visits in
    let made = c.composed-made.result in
    let same = c.as_slice-parts.ensures in
    let after = c.give_all_back-masks.result in
    record {
      visits = (
        v.0,
        subst (λ (l : List Part). AreMaskVisits l v.0) same v.1.are,
        v.2,
        given-then equal_masks mask_meaning cache c.args.masks r.masks after (flat_map (mask_steps cache.tag) v.0) (all_given_steps r.leases.items) (flat_map (mask_unpins cache.tag) (reverse v.0)) v.1.given v.3 c.give_all_back-masks.ensures.steps,
        on-ok-then made c.composed-made.ensures.all (λ yes. subst (λ (l : List Part). AreAllHad l v.0) same (v.1.all yes)),
      );
      regions = c.visit_masks-regions.ensures.regions;
      holds = given-back equal_masks mask_meaning cache c.args.masks r.masks after (pinned_keys r.leases.items) c.visit_masks-regions.ensures.holds c.give_all_back-masks.ensures.holds;
      value = subst (λ (l : List Part). IfOk made (λ a. arc_value a ≡ summed_mask (map (placed_part fonts) l))) same (composed-value fonts c.as_slice-parts.result.now r.leases.items r.are_all v.1.values made c.composed-made.ensures.all c.composed-made.ensures.value);
    }
