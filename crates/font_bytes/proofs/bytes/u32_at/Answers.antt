use Rattle.std.proofs.Common.{rules}
use Rattle.font_bytes.specs.Bytes.{u32_at}
use Rattle.font_bytes.proofs.bytes.u32_at.Goals as goal

pub returns : goal.returns
unfolding u32_at
returns c = search rules
