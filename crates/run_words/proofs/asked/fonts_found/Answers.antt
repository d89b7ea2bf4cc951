use Rattle.std.proofs.Common.{◌∙◌, ap}
use Rattle.clap.specs.Matches.{found_of}
use Rattle.clap.specs.Walk.{all_of, rows_of}
use Rattle.clap.proofs.WalkLemmas.{raw_values-rows}
use Rattle.run_words.proofs.asked.fonts_found.Goals as goal

pub returns : goal.returns
returns c =
    c.get_raw.ensures ∙ raw_values-rows (found_of c.args.found.now) c.name.result.now
    ∙ ap (λ name. all_of name (rows_of (found_of c.args.found.now))) c.name.ensures
