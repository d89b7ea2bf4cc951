use Rattle.std.proofs.Common.{◌≡◌, ℤ, pos, List, All, length, w32, to_z, sym, ap, ◌∙◌, subst, rules, arith}
use Rattle.std.proofs.lemmas.Int.{to_z-of_z}
use Rattle.std.specs.Arc.{arc_value}
use Rattle.std.specs.Int.RustNames.{FitsSigned}
use Rattle.ass_num.specs.Masks.{MaskValue}
use Rattle.mask_cover.specs.Sums.{IsPlaceableMask}
use Rattle.made_values.proofs.PartLemmas.{placed_alone}
use Rattle.made_values.proofs.composites.made_composite.Goals as goal

pub shared_mask-requires : goal.shared_mask-requires
shared_mask-requires c =
    let dx : FitsSigned w32 c.part-item.result.dx = search rules in
    let dy : FitsSigned w32 c.part-item.result.dy = search rules in
    let x : c.part-item.result.dx ≡ pos 0 = sym (to_z-of_z w32 c.part-item.result.dx dx) ∙ ap (to_z w32) c.if-part-eq0.true in
    let y : c.part-item.result.dy ≡ pos 0 = sym (to_z-of_z w32 c.part-item.result.dy dy) ∙ ap (to_z w32) c.if-part-eq0-2.true in
    let one : length c.args.parts.now ≡ 1 = omega arith in
    let e = placed_alone arc_value c.args.parts.now c.args.masks.now c.part-item.result c.index-masks-0.result one c.requires.count c.part-item.is c.index-masks-0.is x y in
    let P : List (MaskValue × ℤ × ℤ) → Type 0 = λ z. All IsPlaceableMask z in
    (subst P e c.requires.masks 0 (arc_value c.index-masks-0.result, pos 0, pos 0) (omega arith)).mask
