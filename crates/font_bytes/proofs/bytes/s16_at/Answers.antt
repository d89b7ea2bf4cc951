use Rattle.std.proofs.Common.{rules}
use Rattle.font_bytes.specs.Bytes.{s16_at}
use Rattle.font_bytes.proofs.bytes.s16_at.Goals as goal

pub returns-then-number-lt32768-clause-value : goal.returns-then-number-lt32768-clause-value
unfolding s16_at
returns-then-number-lt32768-clause-value c = search rules

pub returns-else-number-lt32768-clause-value : goal.returns-else-number-lt32768-clause-value
unfolding s16_at
returns-else-number-lt32768-clause-value c = search rules
