use Rattle.run_words.proofs.FirstWordLemmas.{first_word}
use Rattle.run_words.proofs.words.first_word_is_command.Goals as goal

pub returns : goal.returns
returns c = first_word
