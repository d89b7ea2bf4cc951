use Rattle.std.proofs.Common.{◌∙◌, ◌≡◌, ◌<◌, List, length, map, All, [], ◌∷◌, sym, ap, subst, arith, rules}
use Rattle.std.specs.Arc.{arc_value}
use Rattle.std.proofs.lemmas.List.Elements.{All-append, All-cons, All-nil}
use Rattle.std.specs.declared.sync.Arc.{Arc}
use Rattle.std.specs.declared.alloc.Global.{Global}
use Rattle.ass_num.specs.Masks.{MaskValue}
use Rattle.bdf_font.specs.declared.sets.FontSet.{FontSet}
use Rattle.mask_keys.specs.Equality.{equal_masks, equal_regions}
use Rattle.mask_keys.specs.declared.mask_key.MaskKey.{MaskKey}
use Rattle.mask_keys.proofs.Equal.{mask_same}
use Rattle.mask_keys.specs.contracts.mask_key.MaskKeyEq.TheImpl.Laws as mask_laws
use Rattle.cache_kinds.specs.declared.kinds.MaskMade.{MaskMade}
use Rattle.mask_caches.specs.declared.lease.Lease.{Lease}
use Rattle.cache_kinds.specs.Kinds.{mask_meaning, region_meaning}
use Rattle.made_values.specs.Parts.{masks_of}
use Rattle.mask_caches.specs.Holding.{AreAllHad}
use Rattle.mask_caches.specs.Leases.{lease_value, IsHomeLease}
use Rattle.mask_caches.proofs.Adding.{adds-stays}
use Rattle.mask_caches.proofs.PartVisits.{AreHad, all-had, none-had, one-more, one-refused}
use Rattle.mask_caches.proofs.Visiting.{false-true, refused-much}
use Rattle.mask_caches.proofs.caches.Caches.visit_masks.Goals as goal

pub loop-part-init : goal.loop-part-init
loop-part-init g c = record {
  len = c.requires.len;
  room = c.requires.room;
  regions_of = c.requires.regions;
  masks_of = c.requires.masks;
  regions_free = c.requires.regions_free;
  masks_free = c.requires.masks_free;
  homes = subst (λ (l : List (Lease MaskMade MaskKey MaskValue (Arc FontSet Global))). All (IsHomeLease mask_meaning c.args.self.now.masks) l) (sym c.requires.empty) (All-nil (IsHomeLease mask_meaning c.args.self.now.masks));
  had = subst (λ (l : List (Lease MaskMade MaskKey MaskValue (Arc FontSet Global))). AreHad (arc_value c.args.self.now.fonts).fonts c.args.self.now.regions c.args.self.now.masks c.args.regions c.args.masks [] c.args.regions c.args.masks l) (sym c.requires.empty)
      (none-had (arc_value c.args.self.now.fonts).fonts c.args.self.now.regions c.args.self.now.masks c.args.regions c.args.masks);
}

pub loop-part-preserved : goal.loop-part-preserved
loop-part-preserved g c =
    let xs = c.args.parts.now in
    let i = c.loop-part.part-index in
    let there : i < length xs = search rules in
    let v = rw c.in-Ok.is at c.mask-next_regions.ensures.visit in
    let holds = rw c.in-Ok.is at c.mask-next_regions.ensures.holds in
    let fonts = c.args.self.now.fonts in
    let store = c.args.self.now.regions in
    let cache = c.args.self.now.masks in
    record {
      len = omega (arith, c.push_reserved.ensures.len, c.loop-part.invariant.len);
      room = omega (arith, c.push_reserved.ensures.capacity, c.loop-part.invariant.room);
      regions_of = adds-stays equal_regions region_meaning store c.loop-part.regions c.mask-next_regions.result.0 _ c.loop-part.invariant.regions_of v.3;
      masks_of = adds-stays equal_masks mask_meaning cache c.loop-part.masks c.mask-next_regions.result.1 _ c.loop-part.invariant.masks_of v.4;
      regions_free = λ k. c.mask-next_regions.ensures.regions.claims k ∙ c.loop-part.invariant.regions_free k;
      masks_free = λ k. holds.claims k ∙ c.loop-part.invariant.masks_free k;
      homes = subst (λ (l : List (Lease MaskMade MaskKey MaskValue (Arc FontSet Global))). All (IsHomeLease mask_meaning cache) l) (sym c.push_reserved.ensures.items)
          (All-append (IsHomeLease mask_meaning cache) c.loop-part.leases.items (c.in-Ok.lease ∷ []) c.loop-part.invariant.homes (All-cons (IsHomeLease mask_meaning cache) c.in-Ok.lease [] (rw c.in-Ok.is at c.mask-next_regions.ensures.home) (All-nil (IsHomeLease mask_meaning cache))));
      had = one-more (arc_value fonts).fonts store cache c.args.regions c.args.masks xs i c.part-item.result c.loop-part.regions c.mask-next_regions.result.0 c.loop-part.masks c.mask-next_regions.result.1
          c.loop-part.leases.items c.push_reserved.new.self.items c.in-Ok.lease there c.part-item.is c.push_reserved.ensures.items (ap (λ (s : FontSet). s.fonts) c.args.self.now.tags.masks_have)
          c.loop-part.invariant.had v c.mask-next_regions.ensures.regions holds;
    }

pub returns-in-Err : goal.returns-in-Err
returns-in-Err g c =
    let xs = c.args.parts.now in
    let i = c.loop-part.part-index in
    let there : i < length xs = search rules in
    let v = rw c.in-Err.is at c.mask-next_regions.ensures.visit in
    let holds = rw c.in-Err.is at c.mask-next_regions.ensures.holds in
    let store = c.args.self.now.regions in
    let cache = c.args.self.now.masks in
    let same = refused-much equal_masks mask_laws.laws-law mask_same mask_meaning cache c.loop-part.masks c.mask-next_regions.result.1 _ holds in
    let r = one-refused (arc_value c.args.self.now.fonts).fonts store cache c.args.regions c.args.masks xs i c.part-item.result c.loop-part.regions c.mask-next_regions.result.0 c.loop-part.masks c.mask-next_regions.result.1
    c.loop-part.leases.items there c.part-item.is c.loop-part.invariant.had v c.mask-next_regions.ensures.regions same in
    record {
      visits = (r.visits, record { are = r.are; given = r.given; all = λ no. absurd {A = AreAllHad xs r.visits} (false-true no); values = λ no. absurd {A = map lease_value c.loop-part.leases.items ≡ masks_of (arc_value c.args.self.now.fonts).fonts xs} (false-true no) }, r.regions, r.masks);
      regions = r.regions_hold;
      holds = r.masks_hold;
      homes = c.loop-part.invariant.homes;
    }

pub returns : goal.returns
returns g c =
    let h = c.loop-part.invariant.had in
    let a = all-had (arc_value c.args.self.now.fonts).fonts c.args.self.now.regions c.args.self.now.masks c.args.regions c.args.masks c.args.parts.now c.loop-part.part-index c.loop-part.regions c.loop-part.masks c.loop-part.leases.items (search rules) h in
    record {
      visits = (h.visits, record { are = a.0; given = h.given; all = λ yes. a.1; values = λ yes. a.2 }, h.regions, h.masks);
      regions = h.regions_hold;
      holds = h.masks_hold;
      homes = c.loop-part.invariant.homes;
    }
