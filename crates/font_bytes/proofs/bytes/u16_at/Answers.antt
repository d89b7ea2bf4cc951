use Rattle.std.proofs.Common.{rules}
use Rattle.font_bytes.specs.Bytes.{u16_at}
use Rattle.font_bytes.proofs.bytes.u16_at.Goals as goal

pub returns : goal.returns
unfolding u16_at
returns c = search rules
