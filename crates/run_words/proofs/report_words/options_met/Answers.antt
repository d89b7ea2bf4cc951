use Rattle.std.proofs.Common.{◌≡◌, ◌∙◌, ap, rules, subst, sym}
use Rattle.std.specs.Prelude.{IfOk}
use Rattle.clap.specs.Matches.{found_of}
use Rattle.clap.specs.Walk.{rows_of}
use Rattle.run_words.specs.ReportWords.{options_met}
use Rattle.run_words.specs.declared.report_words.ReportOptions.{ReportOptions}
use Rattle.run_words.proofs.WordsLemmas.{met, none_met}
use Rattle.run_words.proofs.report_words.options_met.Goals as goal

pub returns-in-Some : goal.returns-in-Some
returns-in-Some c =
    let rows = rows_of (found_of c.in-Some.found.now) in
    let was = met c.args.matches.now c.in-Some._name.now rows (search rules) (search rules) in
    subst (λ m. IfOk c.options_at.result (λ (options : ReportOptions). options ≡ options_met m)) (sym was) c.options_at.ensures

pub returns-in-None : goal.returns-in-None
returns-in-None c = c.plain_options.ensures ∙ sym (ap options_met (none_met c.args.matches.now (search rules)))
