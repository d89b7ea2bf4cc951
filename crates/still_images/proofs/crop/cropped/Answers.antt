use Rattle.still_images.specs.Boxes.{cropped_row}
use Rattle.still_images.proofs.CropLemmas.{rows_more}
use Rattle.still_images.proofs.crop.cropped.Goals as goal

pub loop-y-preserved : goal.loop-y-preserved
loop-y-preserved c =
    rows_more (cropped_row c.args.depth c.args.size.now.w c.args.part.now c.args.pixels.now) c.args.part.now.y1 c.loop-y.y c.loop-y.bytes.items c.cropped_row.result.now c.extend_from_slice.new.self.items
    c.loop-y.auto.y c.loop-y.invariant c.cropped_row.ensures c.in_ok-extend_from_slice.ensures.items
