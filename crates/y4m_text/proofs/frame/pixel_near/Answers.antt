use Rattle.std.proofs.Common.{arith}
use Rattle.y4m_text.proofs.PlaneLemmas.{near-fits}
use Rattle.y4m_text.proofs.frame.pixel_near.Goals as goal

pub picture_colour-requires : goal.picture_colour-requires
picture_colour-requires c = near-fits c.args.size.now.w c.args.size.now.h _ _ _ c.requires.wide c.requires.high (omega arith) (omega arith) c.requires.bytes
