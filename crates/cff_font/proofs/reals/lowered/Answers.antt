use Rattle.std.proofs.Common.{min, ap}
use Rattle.cff_font.specs.Reals.{max_decimal}
use Rattle.cff_font.proofs.KeptLemmas.{ten_to, lowered_far}
use Rattle.cff_font.proofs.reals.lowered.Goals as goal

pub nonzero_div-from : goal.nonzero_div-from
nonzero_div-from c = rw c.pow-power.ensures (ten_to c.min.result)

pub returns : goal.returns
returns c =
    rw (c.min-2.ensures, c.from.ensures, c.pow-power.ensures, c.min.ensures)
    (ap (λ v. min v max_decimal) (lowered_far c.args.value c.args.exponent c.requires))
