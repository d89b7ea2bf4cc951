use Rattle.std.proofs.Common.{◌≤◌, [], ◌∷◌, refl}
use Rattle.std.proofs.lemmas.List.Elements.{All-cons, All-nil}
use Rattle.evict_core.specs.declared.counts.Totals.{Totals}
use Rattle.cache_kinds.specs.Kinds.{composite_meaning, mask_meaning, region_meaning}
use Rattle.mask_keys.specs.Equality.{equal_composites, equal_masks, equal_regions}
use Rattle.mask_caches.proofs.Cells.{each-of}
use Rattle.mask_caches.proofs.Free.{free-before}
use Rattle.mask_caches.proofs.Holding.{each-much}
use Rattle.mask_caches.proofs.caches.Caches.totals.Goals as goal

pub returns-clause-budgets : goal.returns-clause-budgets
returns-clause-budgets g c =
    let P : Totals → Type 0 = λ t. t.unpinned ≤ t.budget in
    let last = All-cons P c.totals-composites.result.1 [] c.totals-composites.ensures.budget (All-nil P) in
    All-cons P c.totals-regions.result.1 (c.totals-masks.result.1 ∷ c.totals-composites.result.1 ∷ []) c.totals-regions.ensures.budget
    (All-cons P c.totals-masks.result.1 (c.totals-composites.result.1 ∷ []) c.totals-masks.ensures.budget last)

pub returns-clause-holds : goal.returns-clause-holds
returns-clause-holds g c = record {
  regions = each-much equal_regions region_meaning c.args.self.now.regions c.args.pass.regions c.totals-regions.result.0 _ c.totals-regions.ensures.pass (λ n k. refl) (λ n k. refl) (λ n k was. refl);
  masks = each-much equal_masks mask_meaning c.args.self.now.masks c.args.pass.masks c.totals-masks.result.0 _ c.totals-masks.ensures.pass (λ n k. refl) (λ n k. refl) (λ n k was. refl);
  composites = each-much equal_composites composite_meaning c.args.self.now.composites c.args.pass.composites c.totals-composites.result.0 _ c.totals-composites.ensures.pass (λ n k. refl) (λ n k. refl) (λ n k was. refl);
}

pub returns-clause-pass : goal.returns-clause-pass
returns-clause-pass g c = record {
  regions = each-of equal_regions region_meaning c.args.self.now.regions c.args.pass.regions c.totals-regions.result.0 _ c.requires.regions c.totals-regions.ensures.pass;
  masks = each-of equal_masks mask_meaning c.args.self.now.masks c.args.pass.masks c.totals-masks.result.0 _ c.requires.masks c.totals-masks.ensures.pass;
  composites = each-of equal_composites composite_meaning c.args.self.now.composites c.args.pass.composites c.totals-composites.result.0 _ c.requires.composites c.totals-composites.ensures.pass;
  free = free-before c.args.self.now c.args.pass _ (returns-clause-holds g c) c.requires.free;
}
