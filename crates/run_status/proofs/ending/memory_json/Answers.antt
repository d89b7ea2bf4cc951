use Rattle.std.proofs.Common.{refl}
use Rattle.std.specs.Fmt.{digits}
use Rattle.json.proofs.OnLiterals.{json_on_literals}
use Rattle.run_status.proofs.ending.memory_json.Goals as goal

pub returns : goal.returns
unfolding json_on_literals digits
returns c = refl
