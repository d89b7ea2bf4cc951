use Rattle.std.proofs.Common.{◌∙◌, ap}
use Rattle.clap.specs.Matches.{found_of}
use Rattle.clap.specs.Walk.{first_of, rows_of}
use Rattle.clap.proofs.WalkLemmas.{first_value-rows}
use Rattle.run_words.proofs.asked.text_at.Goals as goal

pub returns : goal.returns
returns c =
    c.get_str.ensures ∙ first_value-rows (found_of c.args.found.now) c.name.result.now
    ∙ ap (λ name. first_of name (rows_of (found_of c.args.found.now))) c.name.ensures
