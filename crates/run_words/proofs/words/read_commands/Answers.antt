use Rattle.std.proofs.Common.{◌∙◌, Err, ap, subst, sym}
use Rattle.std.specs.Prelude.{option_map}
use Rattle.clap.specs.Simple.{subcommand_rows_of}
use Rattle.run_words.specs.Words.{IsReading, job_in, texts}
use Rattle.run_words.specs.declared.job.WordsFault.TheVariants.{Usage}
use Rattle.run_words.proofs.AskedLemmas.{met_within, read_within}
use Rattle.run_words.proofs.WordsLemmas.{read_refused, read_taken}
use Rattle.run_words.proofs.words.read_commands.Goals as goal

pub returns-in-Some-clause-read : goal.returns-in-Some-clause-read
returns-in-Some-clause-read c =
    subst (λ reading. IsReading reading c.read_matches.result)
    (sym (read_taken job_in (Err Usage) (texts c.args.words.now) (subcommand_rows_of c.in-Some.matches) (ap (option_map subcommand_rows_of) (sym c.in-Some.is) ∙ c.in_ok-matches.ensures)))
    c.read_matches.ensures

pub returns-in-Some-clause-within : goal.returns-in-Some-clause-within
returns-in-Some-clause-within c =
    let met = subcommand_rows_of c.in-Some.matches in read_within (job_in met) c.read_matches.result c.read_matches.ensures (met_within met)

pub returns-in-None-clause-read : goal.returns-in-None-clause-read
returns-in-None-clause-read c = read_refused job_in (Err Usage) (texts c.args.words.now) (ap (option_map subcommand_rows_of) (sym c.in-None.is) ∙ c.in_ok-matches.ensures)
