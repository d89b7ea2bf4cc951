use Rattle.blend.specs.Areas.{placed_of}
use Rattle.blend.proofs.AreaLemmas.{meeting-is}
use Rattle.blend.proofs.drawing.meeting.Goals as goal

pub returns : goal.returns
returns c = meeting-is _ c.args.band (placed_of c.args.placed) c.cut_to_box.ensures.part c.cut_to_box.ensures.both
