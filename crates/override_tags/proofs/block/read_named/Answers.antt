use Rattle.override_tags.proofs.BlockLemmas.{named_result}
use Rattle.override_tags.proofs.block.read_named.Goals as goal

pub returns-in_default : goal.returns-in_default
returns-in_default c = named_result c.args.name c.args.rest.now c.read_single.result c.in_default.not-Transform c.read_single.ensures
