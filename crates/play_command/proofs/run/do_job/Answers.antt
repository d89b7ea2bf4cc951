use Rattle.std.proofs.Common.{◌∙◌, rules, subst, sym}
use Rattle.ass_io.specs.Fetches.{fetch_change}
use Rattle.single_run.specs.Runs.{sink_change}
use Rattle.run_words.specs.Jobs.{IsJob, IsPlay}
use Rattle.run_words.specs.declared.job.Job.{Job}
use Rattle.run_words.specs.declared.job.Job.TheVariants.{Selftest}
use Rattle.play_report.specs.Reports.{summary_text}
use Rattle.play_command.proofs.RunLemmas.{not_selftest}
use Rattle.play_command.proofs.SelftestLemmas.{worked_kind}
use Rattle.play_command.proofs.TextLemmas.{text_reads_none, text_reportable}
use Rattle.play_command.specs.declared.help.TheConstants.{HELP}
use Rattle.play_command.specs.declared.own_text.TheConstants.{VERSION}
use Rattle.play_command.specs.Working.{IsJobWorked, IsPlayWorked}
use Rattle.play_command.proofs.run.do_job.Goals as goal

pub play_files-requires : goal.play_files-requires
play_files-requires g c =
    let within : IsPlay c.in-Play.play = subst IsJob c.in-Play.is c.requires.within in
    search (rules, within)

pub do_selftest-requires : goal.do_selftest-requires
do_selftest-requires g c =
    let within : IsJob (Selftest c.in-Selftest.seed c.in-Selftest.events c.in-Selftest.workers) = subst IsJob c.in-Selftest.is c.requires.within in
    search (rules, within)

pub returns-in-Play-clause-worked : goal.returns-in-Play-clause-worked
returns-in-Play-clause-worked g c =
    let told = g.S.Shelf.told c.args.shelf.now in
    let log = fetch_change (g.S.Shelf.log c.args.shelf.now) (g.S.Shelf.log c.play_files.new.shelf) in
    let old = c.args.frames.now in
    let new = c.play_files.new.frames in
    let change = sink_change (g.F.Sink.state old) (g.F.Sink.state new) in
    subst (λ (job : Job). IsJobWorked told log job change c.play_files.result) (sym c.in-Play.is)
    (subst (λ fonts. IsPlayWorked told log c.in-Play.play c.in-Play.script fonts change c.play_files.result) c.as_slice-fonts.ensures c.play_files.ensures.run)

pub returns-in-Play-clause-selftest_shelf : goal.returns-in-Play-clause-selftest_shelf
returns-in-Play-clause-selftest_shelf g c = λ seed events workers is. absurd (not_selftest _ _ _ seed events workers (sym c.in-Play.is ∙ is))

pub returns-in-Play-clause-selftest_frames : goal.returns-in-Play-clause-selftest_frames
returns-in-Play-clause-selftest_frames g c = λ seed events workers is. absurd (not_selftest _ _ _ seed events workers (sym c.in-Play.is ∙ is))

pub returns-in-Selftest-clause-worked : goal.returns-in-Selftest-clause-worked
returns-in-Selftest-clause-worked g c =
    let frames = c.args.frames.now in
    let log = fetch_change (g.S.Shelf.log c.args.shelf.now) (g.S.Shelf.log c.args.shelf.now) in
    let change = sink_change (g.F.Sink.state frames) (g.F.Sink.state frames) in
    subst (λ (job : Job). IsJobWorked (g.S.Shelf.told c.args.shelf.now) log job change c.do_selftest.result) (sym c.in-Selftest.is) c.do_selftest.ensures

pub returns-in-Selftest-clause-read : goal.returns-in-Selftest-clause-read
returns-in-Selftest-clause-read g c = (worked_kind summary_text c.in-Selftest.seed c.in-Selftest.events c.do_selftest.result _ 0 c.do_selftest.ensures).0

pub returns-in-Selftest-clause-write : goal.returns-in-Selftest-clause-write
returns-in-Selftest-clause-write g c = (worked_kind summary_text c.in-Selftest.seed c.in-Selftest.events c.do_selftest.result 0 _ c.do_selftest.ensures).1

pub returns-in-Selftest-clause-reportable : goal.returns-in-Selftest-clause-reportable
returns-in-Selftest-clause-reportable g c = (worked_kind summary_text c.in-Selftest.seed c.in-Selftest.events c.do_selftest.result 0 0 c.do_selftest.ensures).2

pub returns-in-Selftest-clause-spoken : goal.returns-in-Selftest-clause-spoken
returns-in-Selftest-clause-spoken g c = λ none. (worked_kind summary_text c.in-Selftest.seed c.in-Selftest.events c.do_selftest.result 0 0 c.do_selftest.ensures).3

-- ---- what the program tells of itself

pub returns-in-Help-clause-worked : goal.returns-in-Help-clause-worked
returns-in-Help-clause-worked g c =
    let log = fetch_change (g.S.Shelf.log c.args.shelf.now) (g.S.Shelf.log c.args.shelf.now) in
    let change = sink_change (g.F.Sink.state c.args.frames.now) (g.F.Sink.state c.tell.new.frames) in
    subst (λ (job : Job). IsJobWorked (g.S.Shelf.told c.args.shelf.now) log job change c.tell.result) (sym c.in-Help.is) c.tell.ensures.worked

pub returns-in-Help-clause-read : goal.returns-in-Help-clause-read
returns-in-Help-clause-read g c = text_reads_none HELP.now _ c.tell.result _ c.tell.ensures.worked

pub returns-in-Help-clause-reportable : goal.returns-in-Help-clause-reportable
returns-in-Help-clause-reportable g c = text_reportable HELP.now _ c.tell.result c.tell.ensures.worked

pub returns-in-Version-clause-worked : goal.returns-in-Version-clause-worked
returns-in-Version-clause-worked g c =
    let log = fetch_change (g.S.Shelf.log c.args.shelf.now) (g.S.Shelf.log c.args.shelf.now) in
    let change = sink_change (g.F.Sink.state c.args.frames.now) (g.F.Sink.state c.tell-in-Version.new.frames) in
    subst (λ (job : Job). IsJobWorked (g.S.Shelf.told c.args.shelf.now) log job change c.tell-in-Version.result) (sym c.in-Version.is) c.tell-in-Version.ensures.worked

pub returns-in-Version-clause-read : goal.returns-in-Version-clause-read
returns-in-Version-clause-read g c = text_reads_none VERSION.now _ c.tell-in-Version.result _ c.tell-in-Version.ensures.worked

pub returns-in-Version-clause-reportable : goal.returns-in-Version-clause-reportable
returns-in-Version-clause-reportable g c = text_reportable VERSION.now _ c.tell-in-Version.result c.tell-in-Version.ensures.worked
