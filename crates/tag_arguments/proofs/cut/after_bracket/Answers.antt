use Rattle.std.proofs.Common.{lit<}
use Rattle.std.proofs.lemmas.Str.Pattern.{strip_prefix_char}
use Rattle.tag_arguments.proofs.CutLemmas.{bracket_cases}
use Rattle.tag_arguments.proofs.cut.after_bracket.Goals as goal

pub returns : goal.returns
returns c = bracket_cases c.args.text.now c.strip_prefix.result (strip_prefix_char 40 c.args.text.now c.strip_prefix.result c.strip_prefix.ensures.cases (lit< tt))
