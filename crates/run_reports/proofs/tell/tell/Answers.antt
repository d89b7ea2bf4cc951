use Rattle.std.proofs.Common.{refl, subst, sym}
use Rattle.run_words.specs.declared.report_words.ReportForm.{ReportForm}
use Rattle.run_reports.specs.Telling.{IsTold}
use Rattle.run_reports.proofs.TellLemmas.{form_told}
use Rattle.run_reports.proofs.tell.tell.Goals as goal

pub returns-in-Text : goal.returns-in-Text
returns-in-Text g c =
    form_told c.args.form c.args.tale c.tell_aloud.result (g.R.Sink.state c.args.report.now) (g.R.Sink.state c.tell_aloud.new.report) c.in-Text.is c.tell_aloud.ensures

pub returns-in-Silent : goal.returns-in-Silent
returns-in-Silent g c =
    let state = g.R.Sink.state c.args.report.now in
    subst (λ (form : ReportForm). IsTold form c.args.tale state state c.ending_of.result) (sym c.in-Silent.is) (refl, c.ending_of.ensures)
