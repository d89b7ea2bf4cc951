-- Moves by the last operands.
use Rattle.std.proofs.Common.{◌≡◌, ℤ, pos, ap, ap₂}
use Rattle.cff_font.specs.declared.machine.Machine.{Machine}
use Rattle.cff_font.specs.Machines.{behind_drawing, moved_by, operand_before_last}
use Rattle.cff_font.specs.Strokes.{step}

pub both-move : (m : Machine) (before last : ℤ) → before ≡ operand_before_last m.operands 1 → last ≡ operand_before_last m.operands 0 → moved_by m 2 (step before last) ≡ behind_drawing m 21
both-move m before last x y = ap₂ (λ a b. moved_by m 2 (step a b)) x y

pub level-move : (m : Machine) (last : ℤ) → last ≡ operand_before_last m.operands 0 → moved_by m 1 (step last (pos 0)) ≡ behind_drawing m 22
level-move m last x = ap (λ a. moved_by m 1 (step a (pos 0))) x

pub upright-move : (m : Machine) (last : ℤ) → last ≡ operand_before_last m.operands 0 → moved_by m 1 (step (pos 0) last) ≡ behind_drawing m 4
upright-move m last y = ap (λ b. moved_by m 1 (step (pos 0) b)) y
