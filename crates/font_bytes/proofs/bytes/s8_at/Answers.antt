use Rattle.std.proofs.Common.{rules}
use Rattle.font_bytes.specs.Bytes.{s8_at}
use Rattle.font_bytes.proofs.bytes.s8_at.Goals as goal

pub returns-then-number-lt128-clause-value : goal.returns-then-number-lt128-clause-value
unfolding s8_at
returns-then-number-lt128-clause-value c = search rules

pub returns-else-number-lt128-clause-value : goal.returns-else-number-lt128-clause-value
unfolding s8_at
returns-else-number-lt128-clause-value c = search rules
