use Rattle.std.proofs.Common.{ℕ, ℤ, pos, negsuc, ◌*ℤ◌, ◌≤ℤ◌, arith}
use Rattle.std.proofs.lemmas.Grind.{common_steps}
use Rattle.std.proofs.lemmas.Int.{ints}
use Rattle.ass_num.specs.Floor.{floor_div}
use Rattle.frame_view.specs.Limits.{whole_letter_scale}
use Rattle.frame_view.proofs.letters.multiple.Goals as goal

quotient_from_zero : (z : ℤ) (n d : ℕ) → pos 0 ≤ℤ z → pos 0 ≤ℤ floor_div (z *ℤ pos n) (pos d)
quotient_from_zero (pos a) n d h = omega (arith, ints)
quotient_from_zero (negsuc a) n d h = absurd (omega (arith, ints))

pub returns-clause-value : goal.returns-clause-value
returns-clause-value c = grind (arith, common_steps)

pub returns-clause-from_zero : goal.returns-clause-from_zero
returns-clause-from_zero c h = rw (returns-clause-value c) (quotient_from_zero c.args.number c.args.letter_scale whole_letter_scale h)
