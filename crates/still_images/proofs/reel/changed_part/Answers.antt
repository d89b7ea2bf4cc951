use Rattle.still_images.specs.Formats.{pixel_bytes}
use Rattle.still_images.proofs.BoxLemmas.{part_on_frame}
use Rattle.still_images.proofs.reel.changed_part.Goals as goal

pub returns-in-Some-clause-within : goal.returns-in-Some-clause-within
returns-in-Some-clause-within c =
    part_on_frame (pixel_bytes c.args.job.now.format) c.args.job.now.size c.as_slice.result.now c.args.pixels.now c.box_of.result c.box_of.ensures
