use Rattle.std.proofs.Common.{◌∙◌, ap, rules, subst, sym}
use Rattle.clap.specs.Matches.{found_of}
use Rattle.clap.specs.Walk.{rows_of}
use Rattle.run_words.specs.Words.{IsReading, job_in, reading_in}
use Rattle.run_words.proofs.WordsLemmas.{met}
use Rattle.run_words.proofs.words.read_matches.Goals as goal

pub returns-in-Some-command_named : goal.returns-in-Some-command_named
returns-in-Some-command_named c =
    let rows = rows_of (found_of c.in-Some.found.now) in
    let was = met c.args.matches.now c.in-Some.name.now rows (search rules) (search rules) in
    subst (λ m. IsReading (job_in m) c.read_together.result) (sym was)
    (subst (λ command. IsReading (reading_in rows command) c.read_together.result) c.in-Some-command_named.ensures c.read_together.ensures)

pub returns-in-None : goal.returns-in-None
returns-in-None c =
    let rows = rows_of (found_of c.in-Some.found.now) in
    let was = met c.args.matches.now c.in-Some.name.now rows (search rules) (search rules) in
    ap job_in was ∙ ap (reading_in rows) (sym c.in-None.ensures)
