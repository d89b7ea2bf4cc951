use Rattle.script_laws.proofs.ReadScripts.{script_read}
use Rattle.script_laws.proofs.laws.texts_spell_scripts.Goals as goal

pub returns : goal.returns
returns c = script_read
