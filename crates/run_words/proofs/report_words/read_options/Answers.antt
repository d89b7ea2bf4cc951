use Rattle.std.proofs.Common.{◌≡◌, ◌∙◌, ap, subst, sym}
use Rattle.std.specs.Prelude.{IfOk, option_map}
use Rattle.clap.specs.Simple.{subcommand_rows_of}
use Rattle.run_words.specs.ReportWords.{options_met, plain_options}
use Rattle.run_words.specs.Words.{texts}
use Rattle.run_words.specs.declared.report_words.ReportOptions.{ReportOptions}
use Rattle.run_words.proofs.WordsLemmas.{read_refused, read_taken}
use Rattle.run_words.proofs.report_words.read_options.Goals as goal

pub returns-in-Some : goal.returns-in-Some
returns-in-Some c =
    subst (λ (o : ReportOptions). IfOk c.options_met.result (λ (options : ReportOptions). options ≡ o))
    (sym (read_taken options_met plain_options (texts c.args.words.now) (subcommand_rows_of c.in-Some.matches) (ap (option_map subcommand_rows_of) (sym c.in-Some.is) ∙ c.in_ok-matches.ensures)))
    c.options_met.ensures

pub returns-in-None : goal.returns-in-None
returns-in-None c =
    c.plain_options.ensures
    ∙ sym (read_refused options_met plain_options (texts c.args.words.now) (ap (option_map subcommand_rows_of) (sym c.in-None.is) ∙ c.in_ok-matches.ensures))
