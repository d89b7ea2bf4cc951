use Rattle.std.proofs.Common.{◌∙◌, arith, None}
use Rattle.std.proofs.lemmas.Str.Pattern.{strip_prefix_char}
use Rattle.value_texts.proofs.TextLemmas.{column_without}
use Rattle.value_texts.proofs.places.pixel_in.Goals as goal

pub returns-in-None : goal.returns-in-None
returns-in-None c = c.column_in-in-None.ensures.value ∙ column_without c.args.text.now (strip_prefix_char 45 c.args.text.now None c.in-None.ensures.cases (omega arith))
