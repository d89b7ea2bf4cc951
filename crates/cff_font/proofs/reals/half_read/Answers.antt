use Rattle.std.proofs.Common.{arith}
use Rattle.cff_font.proofs.KeptLemmas.{half_digit}
use Rattle.cff_font.proofs.reals.half_read.Goals as goal

pub returns-then-half-lt10 : goal.returns-then-half-lt10
returns-then-half-lt10 c = λ halves exact kept.
    half_digit halves exact c.args.real _ c.args.half (omega arith) kept.marks (c.with_digit.ensures halves exact kept)
