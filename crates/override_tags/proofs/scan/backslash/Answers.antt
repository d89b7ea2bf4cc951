use Rattle.override_tags.proofs.FrontLemmas.{backslash_char}
use Rattle.override_tags.proofs.scan.backslash.Goals as goal

pub returns-in-None-clause-front : goal.returns-in-None-clause-front
returns-in-None-clause-front c = backslash_char c.args.text.now c.in-None.ensures.none
