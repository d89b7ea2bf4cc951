use Rattle.std.proofs.Common.{◌≡◌, ◌+◌, ◌*◌, ℤ, List, length, map, take, get_or, sym, ◌∙◌, subst, arith}
use Rattle.std.specs.Arc.{arc_value}
use Rattle.ass_num.specs.Coverage.{PixelBox, InBox}
use Rattle.ass_num.specs.Limits.{max_mask_corner, max_mask_side, max_mask_shift}
use Rattle.ass_num.specs.Masks.{MaskValue}
use Rattle.mask_cover.specs.Sums.{IsBoxOf}
use Rattle.mask_keys.proofs.ValueLemmas.{summed_is}
use Rattle.made_values.specs.Parts.{placed_masks}
use Rattle.made_values.proofs.PartLemmas.{placed_at, placed_count, placed_more, placed_whole}
use Rattle.made_values.proofs.composites.sum_of_parts.Goals as goal

pub add_part-requires : goal.add_part-requires
add_part-requires c = λ i j pixel.
    let all : List (MaskValue × ℤ × ℤ) = placed_masks c.args.parts.now (map arc_value c.args.masks.now) in
    let item : MaskValue × ℤ × ℤ = (c.deref.result.now, c.index-parts-k.result.dx, c.index-parts-k.result.dy) in
    let count : length all ≡ length c.args.parts.now = placed_count arc_value c.args.parts.now c.args.masks.now c.requires.count in
    let here : get_or all c.loop-k.k item ≡ item =
    placed_at arc_value c.args.parts.now c.args.masks.now c.loop-k.k c.index-parts-k.result c.index-masks-k.result c.deref.result.now item c.requires.count c.loop-k-test.true
    c.index-parts-k.is c.index-masks-k.is c.deref.ensures in
    let P : PixelBox → Type 0 = λ z. InBox z i j in
    subst P (sym (c.loop-k.invariant.place ∙ c.in_ok-sum.ensures.place)) (c.extent_of.ensures.has i j (c.loop-k.k, item, omega (arith, count), here, pixel))

pub loop-k-preserved : goal.loop-k-preserved
loop-k-preserved c =
    let all : List (MaskValue × ℤ × ℤ) = placed_masks c.args.parts.now (map arc_value c.args.masks.now) in
    record {
      place = c.add_part.ensures.place ∙ c.loop-k.invariant.place;
      value = rw (placed_more arc_value c.args.parts.now c.args.masks.now c.loop-k.k c.index-parts-k.result c.index-masks-k.result c.deref.result.now c.requires.count c.loop-k-test.true
          c.index-parts-k.is c.index-masks-k.is c.deref.ensures)
          (c.add_part.ensures.sum (take c.loop-k.k all) c.loop-k.invariant.value);
    }

pub returns : goal.returns
returns c =
    let all : List (MaskValue × ℤ × ℤ) = placed_masks c.args.parts.now (map arc_value c.args.masks.now) in
    let P : PixelBox → Type 0 = λ z. IsBoxOf all z in
    let box = subst P (sym (c.loop-k.invariant.place ∙ c.in_ok-sum.ensures.place)) c.extent_of.ensures in
    let value = rw (placed_whole arc_value c.args.parts.now c.args.masks.now c.loop-k.k c.requires.count c.loop-k-test.false) at c.loop-k.invariant.value in
    summed_is all (max_mask_corner + max_mask_shift) (2 * (max_mask_corner + max_mask_shift) + max_mask_side) c.into_mask.result c.into_mask.ensures.canonical (c.into_mask.ensures.sum all box value)
    (c.into_mask.ensures.within all box max_mask_corner max_mask_side max_mask_shift c.requires.masks) (omega arith)
