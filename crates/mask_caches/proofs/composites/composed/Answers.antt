use Rattle.std.proofs.Common.{◌≡◌, List, length, map, All, sym, ap, ◌∙◌, subst}
use Rattle.std.specs.Result.{IfOk}
use Rattle.std.specs.Arc.{arc_value}
use Rattle.std.proofs.lemmas.List.{length-map}
use Rattle.ass_num.specs.Masks.{MaskValue}
use Rattle.made_values.specs.Parts.{placed_masks}
use Rattle.mask_cover.specs.Sums.{IsPlaceableMask}
use Rattle.mask_keys.specs.Masks.{summed_mask}
use Rattle.mask_caches.specs.Leases.{lease_value}
use Rattle.mask_caches.proofs.Visiting.{any-ok}
use Rattle.mask_caches.proofs.composites.composed.Goals as goal

pub made_composite-requires-clause-count : goal.made_composite-requires-clause-count
made_composite-requires-clause-count g c =
    let same = c.in_ok-shares.ensures in
    ap length c.deref.ensures.value ∙ (sym (length-map c.in_ok-shares.shares.items arc_value) ∙ (ap length same ∙ (length-map c.args.leases.now.items lease_value ∙ c.requires.count c.if-not-are_all.false)))

pub made_composite-requires-clause-masks : goal.made_composite-requires-clause-masks
made_composite-requires-clause-masks g c =
    subst (λ (l : List MaskValue). All IsPlaceableMask (placed_masks c.args.parts.now l)) (sym (ap (map arc_value) c.deref.ensures.value ∙ c.in_ok-shares.ensures)) (c.requires.masks c.if-not-are_all.false)

pub returns-clause-all : goal.returns-clause-all
returns-clause-all g c = any-ok c.made_composite.result c.if-not-are_all.false

pub returns-clause-value : goal.returns-clause-value
returns-clause-value g c = subst (λ (l : List MaskValue). IfOk c.made_composite.result (λ a. arc_value a ≡ summed_mask (placed_masks c.args.parts.now l))) (ap (map arc_value) c.deref.ensures.value ∙ c.in_ok-shares.ensures) c.made_composite.ensures
