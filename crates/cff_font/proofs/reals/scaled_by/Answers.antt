use Rattle.std.proofs.Common.{◌∙◌, arith}
use Rattle.cff_font.proofs.KeptLemmas.{scaled_up, scaled_down}
use Rattle.cff_font.proofs.reals.scaled_by.Goals as goal

pub returns-then-lowering-total-clause-value : goal.returns-then-lowering-total-clause-value
returns-then-lowering-total-clause-value c = λ n are. c.raised.ensures ∙ scaled_up n c.args.digits c.args.raising c.args.lowering are (omega arith)

pub returns-clause-value : goal.returns-clause-value
returns-clause-value c = λ n are. c.lowered.ensures ∙ scaled_down n c.args.digits c.args.raising c.args.lowering are (omega arith)
