use Rattle.std.proofs.Common.{◌≡◌, None, Some, subst, sym}
use Rattle.ass_io.specs.Fetches.{fetch_change}
use Rattle.single_run.specs.Runs.{sink_change}
use Rattle.run_words.specs.Words.{job_of, texts}
use Rattle.run_words.specs.declared.job.Job.{Job}
use Rattle.run_words.specs.declared.job.Job.TheVariants.{Selftest}
use Rattle.play_command.proofs.RunLemmas.{job_left, job_wanting, same_job}
use Rattle.play_command.specs.OwnTexts.{own_text}
use Rattle.play_command.specs.Working.{IsJobWorked}
use Rattle.play_command.proofs.run.do_left.Goals as goal

pub do_job-requires-clause-left : goal.do_job-requires-clause-left
do_job-requires-clause-left g c κs within = job_left (texts c.args.words.now) c.in-Ok.job c.in-Ok.ensures.read c.requires

pub returns-in-Ok-clause-worked : goal.returns-in-Ok-clause-worked
returns-in-Ok-clause-worked g c = λ job asked.
    let log = fetch_change (g.S.Shelf.log c.args.shelf.now) (g.S.Shelf.log c.do_job.new.shelf) in
    let old = c.args.frames.now in
    let new = c.do_job.new.frames in
    let change = sink_change (g.F.Sink.state old) (g.F.Sink.state new) in
    subst (λ (it : Job). IsJobWorked (g.S.Shelf.told c.args.shelf.now) log it change c.do_job.result)
    (same_job (job_of (texts c.args.words.now)) c.in-Ok.job job c.in-Ok.ensures.read asked) c.do_job.ensures.worked

pub returns-in-Ok-clause-selftest_shelf : goal.returns-in-Ok-clause-selftest_shelf
returns-in-Ok-clause-selftest_shelf g c = λ seed events workers asked.
    c.do_job.ensures.selftest_shelf seed events workers (same_job (job_of (texts c.args.words.now)) c.in-Ok.job (Selftest seed events workers) c.in-Ok.ensures.read asked)

pub returns-in-Ok-clause-selftest_frames : goal.returns-in-Ok-clause-selftest_frames
returns-in-Ok-clause-selftest_frames g c = λ seed events workers asked.
    c.do_job.ensures.selftest_frames seed events workers (same_job (job_of (texts c.args.words.now)) c.in-Ok.job (Selftest seed events workers) c.in-Ok.ensures.read asked)

pub returns-in-Err-clause-worked : goal.returns-in-Err-clause-worked
returns-in-Err-clause-worked g c = λ job asked. job_wanting _ _ job _ (job_left (texts c.args.words.now) job asked c.requires)

pub returns-in-Ok-clause-text_shelf : goal.returns-in-Ok-clause-text_shelf
returns-in-Ok-clause-text_shelf g c = λ job text asked told.
    c.do_job.ensures.text_shelf text (subst (λ it. own_text it ≡ Some text) (sym (same_job (job_of (texts c.args.words.now)) c.in-Ok.job job c.in-Ok.ensures.read asked)) told)

pub returns-in-Ok-clause-spoken : goal.returns-in-Ok-clause-spoken
returns-in-Ok-clause-spoken g c = λ job asked none.
    c.do_job.ensures.spoken (subst (λ it. own_text it ≡ None) (sym (same_job (job_of (texts c.args.words.now)) c.in-Ok.job job c.in-Ok.ensures.read asked)) none)
