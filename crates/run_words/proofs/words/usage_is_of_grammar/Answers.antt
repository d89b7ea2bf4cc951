use Rattle.run_words.proofs.WordsLemmas.{usage}
use Rattle.run_words.proofs.words.usage_is_of_grammar.Goals as goal

pub returns : goal.returns
returns c = usage
