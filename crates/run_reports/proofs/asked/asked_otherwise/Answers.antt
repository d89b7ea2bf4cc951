use Rattle.std.proofs.Common.{◌∙◌, sym}
use Rattle.run_words.specs.Words.{texts}
use Rattle.run_reports.proofs.AskedLemmas.{asked_nothing, asked_plainly, asked_reported}
use Rattle.run_reports.proofs.asked.asked_otherwise.Goals as goal

pub returns-then-is_plain : goal.returns-then-is_plain
returns-then-is_plain c = asked_plainly (texts c.args.words.now) c.in_ok-options.options c.in_ok-options.ensures (sym c.is_plain.ensures ∙ c.if-is_plain.true)

pub returns-in-Ok : goal.returns-in-Ok
returns-in-Ok c =
    asked_reported (texts c.args.words.now) c.in_ok-options.options c.in_ok-options.ensures c.in-Ok.job (sym c.is_plain.ensures ∙ c.if-is_plain.false)
    c.in-Ok.ensures.read c.in-Ok.ensures.within c.reported.result c.reported.ensures

pub returns-in-Err-BadWords : goal.returns-in-Err-BadWords
returns-in-Err-BadWords c = asked_nothing (texts c.args.words.now) _ (rw c.in-Err-BadWords.field-0-is at c.in-Err-BadWords.ensures.read)
