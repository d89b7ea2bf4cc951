use Rattle.std.proofs.Common.{◌≤◌, arith}
use Rattle.cff_font.specs.KeptReals.{nineteen_digits}
use Rattle.cff_font.proofs.KeptLemmas.{digit_dropped}
use Rattle.cff_font.proofs.reals.followed_by.Goals as goal

pub returns-clause-digits : goal.returns-clause-digits
returns-clause-digits c = λ n are.
    let enough : nineteen_digits ≤ c.args.digits.kept = omega arith in
    digit_dropped n c.args.digits c.args.digit c.requires.digit enough are
