use Rattle.std.proofs.Common.{rules}
use Rattle.cff_font.specs.Tokens.{s32_at}
use Rattle.cff_font.proofs.tokens.s32_at.Goals as goal

pub returns-then-number-lt2147483648 : goal.returns-then-number-lt2147483648
unfolding s32_at
returns-then-number-lt2147483648 c = search rules

pub returns-else-number-lt2147483648 : goal.returns-else-number-lt2147483648
unfolding s32_at
returns-else-number-lt2147483648 c = search rules
