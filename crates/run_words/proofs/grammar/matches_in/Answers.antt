use Rattle.std.proofs.Common.{◌∙◌}
use Rattle.clap.specs.Simple.{app_of}
use Rattle.run_words.specs.Words.{texts}
use Rattle.run_words.proofs.WordsLemmas.{found_err, found_ok}
use Rattle.run_words.proofs.grammar.matches_in.Goals as goal

pub returns-in-Ok : goal.returns-in-Ok
returns-in-Ok c = found_ok (app_of c.in_ok-whole.field-0) (texts c.args.words.now) c.in-Ok.matches c.in_ok-whole.ensures c.in-Ok.ensures.kinds c.in-Ok.ensures.matches

pub returns : goal.returns
returns c =
    found_err (app_of c.in_ok-whole.field-0) (texts c.args.words.now) c.in-Err.error c.in_ok-whole.ensures c.in-Err.ensures.kinds
    (λ memory. c.in_default.not-OutOfMemory (c.kind.ensures ∙ memory))
