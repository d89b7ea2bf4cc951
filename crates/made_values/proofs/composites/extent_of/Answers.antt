use Rattle.std.proofs.Common.{List, ℤ, map, take}
use Rattle.std.specs.Arc.{arc_value}
use Rattle.ass_num.specs.Masks.{MaskValue}
use Rattle.mask_cover.specs.Sums.{IsPlaceableMask}
use Rattle.made_values.specs.Parts.{placed_masks}
use Rattle.made_values.proofs.PartLemmas.{placed_holds, placed_more, placed_whole}
use Rattle.made_values.proofs.composites.extent_of.Goals as goal

pub with_part-extent-requires : goal.with_part-extent-requires
with_part-extent-requires c =
    placed_holds IsPlaceableMask arc_value c.args.parts.now c.args.masks.now c.loop-k.k c.index-parts-k.result c.index-masks-k.result c.deref.result.now c.requires.count c.loop-k-test.true
    c.index-parts-k.is c.index-masks-k.is c.deref.ensures c.requires.masks

pub loop-k-preserved : goal.loop-k-preserved
loop-k-preserved c =
    let all : List (MaskValue × ℤ × ℤ) = placed_masks c.args.parts.now (map arc_value c.args.masks.now) in
    rw (placed_more arc_value c.args.parts.now c.args.masks.now c.loop-k.k c.index-parts-k.result c.index-masks-k.result c.deref.result.now c.requires.count c.loop-k-test.true
    c.index-parts-k.is c.index-masks-k.is c.deref.ensures)
    (c.with_part-extent.ensures (take c.loop-k.k all) c.loop-k.invariant)

pub returns : goal.returns
returns c = rw (placed_whole arc_value c.args.parts.now c.args.masks.now c.loop-k.k c.requires.count c.loop-k-test.false) at c.loop-k.invariant
