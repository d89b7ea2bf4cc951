use Rattle.tag_arguments.proofs.LongestLemmas as lemmas
use Rattle.tag_arguments.proofs.laws.longest_counts.Goals as goal

pub returns : goal.returns
returns c = record { longest = lemmas.longest_counts; none = lemmas.none_is_none }
