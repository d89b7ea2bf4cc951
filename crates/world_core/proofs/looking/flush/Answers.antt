use Rattle.world_core.proofs.Feeding.{flush-tells}
use Rattle.world_core.proofs.looking.flush.Goals as goal

pub returns-clause-history : goal.returns-clause-history
returns-clause-history c = λ history t. flush-tells history c.flush.result c.flush.new.self (c.flush.ensures.answer history t) (c.flush.ensures.history history t)
