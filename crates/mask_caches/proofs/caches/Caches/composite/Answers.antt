use Rattle.std.proofs.Common.{◌∙◌}
use Rattle.cache_kinds.specs.Kinds.{composite_meaning, mask_meaning, region_meaning}
use Rattle.mask_keys.specs.Equality.{equal_composites, equal_masks, equal_regions}
use Rattle.mask_keys.proofs.Equal.{composite_same}
use Rattle.mask_keys.specs.contracts.composite_key.CompositeKeyEq.TheImpl.Laws as composite_laws
use Rattle.mask_caches.proofs.Adding.{adds-stays}
use Rattle.mask_caches.proofs.Staying.{together-later}
use Rattle.mask_caches.proofs.Tagged.{composite-of-fonts}
use Rattle.mask_caches.proofs.Visiting.{had-held}
use Rattle.mask_caches.proofs.caches.Caches.composite.Goals as goal

pub invariant_of-pass : goal.invariant_of-pass
invariant_of-pass g c =
    let t = c.visit_composite-passes.ensures.composed in
    record {
      together = together-later c.args.pass.regions c.visit_composite-passes.result.0.regions c.args.pass.masks c.visit_composite-passes.result.0.masks c.args.pass.composites c.visit_composite-passes.result.0.composites
          c.args.pass.together t.regions.later t.masks.later t.composites.later;
    }

pub returns-clause-value : goal.returns-clause-value
returns-clause-value g c =
    let t = c.visit_composite-passes.ensures.composed in
    composite-of-fonts c.args.self.now.fonts c.args.self.now.composites.tag c.args.self.now.tags.composites_have t.visit.course c.args.key.now c.visit_composite-passes.result.1 t.had_by

pub returns-clause-pass : goal.returns-clause-pass
returns-clause-pass g c =
    let t = c.visit_composite-passes.ensures.composed in let h = c.visit_composite-passes.ensures.holds in
    record {
      regions = adds-stays equal_regions region_meaning c.args.self.now.regions c.args.pass.regions c.visit_composite-passes.result.0.regions _ c.requires.pass.regions t.regions;
      masks = adds-stays equal_masks mask_meaning c.args.self.now.masks c.args.pass.masks c.visit_composite-passes.result.0.masks _ c.requires.pass.masks t.masks;
      composites = adds-stays equal_composites composite_meaning c.args.self.now.composites c.args.pass.composites c.visit_composite-passes.result.0.composites _ c.requires.pass.composites t.composites;
      free = record {
        regions = λ k. h.regions.claims k ∙ c.requires.pass.free.regions k;
        masks = λ k. h.masks.claims k ∙ c.requires.pass.free.masks k;
        composites = λ k. h.composites.claims k ∙ c.requires.pass.free.composites k;
      };
    }

pub returns-clause-held : goal.returns-clause-held
returns-clause-held g c =
    had-held equal_composites composite_laws.laws-law composite_same composite_meaning c.args.self.now.composites c.args.pass.composites c.visit_composite-passes.result.0.composites c.visit_composite-passes.result.1 c.visit_composite-passes.ensures.holds.composites
