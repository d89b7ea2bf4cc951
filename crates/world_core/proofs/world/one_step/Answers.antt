use Rattle.std.proofs.Common.{refl}
use Rattle.world_core.proofs.world.one_step.Goals as goal

pub returns-in-Ok-clause-script : goal.returns-in-Ok-clause-script
returns-in-Ok-clause-script c = c.in-Ok.ensures.made.script

pub returns-in-Ok-clause-fonts : goal.returns-in-Ok-clause-fonts
returns-in-Ok-clause-fonts c = c.in-Ok.ensures.made.fonts

pub returns-in-Ok-clause-ok : goal.returns-in-Ok-clause-ok
returns-in-Ok-clause-ok c = λ s t. c.in-Ok.ensures.made.ok s t

pub returns-in-Err-clause-err : goal.returns-in-Err-clause-err
returns-in-Err-clause-err c = λ s t. c.in-Err.ensures.made.err s t

pub returns-in-Err-clause-inputs : goal.returns-in-Err-clause-inputs
returns-in-Err-clause-inputs c = (c.in-Err.ensures.made.script, c.in-Err.ensures.made.fonts)

pub returns-in-Ok-clause-calm : goal.returns-in-Ok-clause-calm
returns-in-Ok-clause-calm c = λ calm. refl

pub returns-in-Err-clause-calm : goal.returns-in-Err-clause-calm
returns-in-Err-clause-calm c = λ calm. c.in-Err.ensures.calm calm
