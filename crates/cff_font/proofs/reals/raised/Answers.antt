use Rattle.cff_font.proofs.KeptLemmas.{raised_far}
use Rattle.cff_font.proofs.reals.raised.Goals as goal

pub returns : goal.returns
returns c = rw (c.min-2.ensures, c.from.ensures, c.pow-power.ensures, c.min.ensures) (raised_far c.args.value c.args.exponent)
