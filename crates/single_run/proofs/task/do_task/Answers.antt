use Rattle.std.proofs.Common.{Ok, inl, subst, sym}
use Rattle.single_run.specs.Outcomes.{status_if_put}
use Rattle.single_run.specs.Outputs.{IsAnswerOf, SuitsTask, task_status}
use Rattle.single_run.specs.Runs.{IsTaskDone, sink_change}
use Rattle.single_run.specs.declared.outcome.Outcome.TheVariants.{Ended}
use Rattle.single_run.specs.declared.work.Task.{Task}
use Rattle.single_run.proofs.TaskLemmas.{changes_done, check_done, frame_done, write_done}
use Rattle.single_run.proofs.task.do_task.Goals as goal

pub returns-in-Check-clause-answered : goal.returns-in-Check-clause-answered
returns-in-Check-clause-answered g c =
    subst (λ (task : Task). IsAnswerOf task (task_status task c.args.inputs) (status_if_put c.check.result)) (sym c.in-Check.is) c.check.ensures.answered

pub returns-in-Check-clause-done : goal.returns-in-Check-clause-done
returns-in-Check-clause-done g c =
    let state = g.F.Sink.state c.args.frames.now in
    subst (λ (task : Task). IsTaskDone task (Ok c.args.inputs) (sink_change state state) c.check.result) (sym c.in-Check.is)
    (check_done c.args.inputs state c.check.result c.check.ensures.own c.check.ensures.text)

pub returns-in-Check-clause-own : goal.returns-in-Check-clause-own
returns-in-Check-clause-own g c =
    subst (λ (task : Task). SuitsTask task c.check.result) (sym c.in-Check.is) c.check.ensures.own

pub returns-in-Changes-clause-answered : goal.returns-in-Changes-clause-answered
returns-in-Changes-clause-answered g c =
    subst (λ (task : Task). IsAnswerOf task (task_status task c.args.inputs) (status_if_put c.compare.result)) (sym c.in-Changes.is) c.compare.ensures.answered

pub returns-in-Changes-clause-done : goal.returns-in-Changes-clause-done
returns-in-Changes-clause-done g c =
    let state = g.F.Sink.state c.args.frames.now in
    subst (λ (task : Task). IsTaskDone task (Ok c.args.inputs) (sink_change state state) c.compare.result) (sym c.in-Changes.is)
    (changes_done c.args.inputs state c.compare.result c.compare.ensures.own c.in-Changes.changes c.compare.ensures.text)

pub returns-in-Changes-clause-own : goal.returns-in-Changes-clause-own
returns-in-Changes-clause-own g c =
    subst (λ (task : Task). SuitsTask task c.compare.result) (sym c.in-Changes.is) c.compare.ensures.own

pub returns-in-Frame-clause-answered : goal.returns-in-Frame-clause-answered
returns-in-Frame-clause-answered g c =
    subst (λ (task : Task). IsAnswerOf task (task_status task c.args.inputs) c.draw.result) (sym c.in-Frame.is) c.draw.ensures.answered

pub returns-in-Frame-clause-done : goal.returns-in-Frame-clause-done
returns-in-Frame-clause-done g c =
    let old = g.F.Sink.state c.args.frames.now in
    let new = g.F.Sink.state c.draw.new.frames in
    subst (λ (task : Task). IsTaskDone task (Ok c.args.inputs) (sink_change old new) (Ended c.draw.result)) (sym c.in-Frame.is)
    (frame_done c.args.inputs old new c.draw.result c.in-Frame.frame c.draw.ensures.shown c.draw.ensures.pieces)

pub returns-in-Write-clause-answered : goal.returns-in-Write-clause-answered
returns-in-Write-clause-answered g c =
    subst (λ (task : Task). IsAnswerOf task (task_status task c.args.inputs) c.rewrite.result) (sym c.in-Write.is) c.rewrite.ensures.answered

pub returns-in-Write-clause-done : goal.returns-in-Write-clause-done
returns-in-Write-clause-done g c =
    let old = g.F.Sink.state c.args.frames.now in
    let new = g.F.Sink.state c.rewrite.new.frames in
    subst (λ (task : Task). IsTaskDone task (Ok c.args.inputs) (sink_change old new) (Ended c.rewrite.result)) (sym c.in-Write.is)
    (write_done c.args.inputs old new c.rewrite.result c.in-Write.write c.rewrite.ensures.shown c.rewrite.ensures.pieces)

pub returns-in-Stills-clause-answered : goal.returns-in-Stills-clause-answered
returns-in-Stills-clause-answered g c =
    subst (λ (task : Task). IsAnswerOf task (task_status task c.args.inputs) (status_if_put c.keep.result)) (sym c.in-Stills.is) (inl c.keep.ensures.answered)

pub returns-in-Stills-clause-done : goal.returns-in-Stills-clause-done
returns-in-Stills-clause-done g c =
    subst (λ (task : Task). IsTaskDone task (Ok c.args.inputs) (sink_change (g.F.Sink.state c.args.frames.now) (g.F.Sink.state c.keep.new.frames)) c.keep.result) (sym c.in-Stills.is) c.keep.ensures.done

pub returns-in-Stills-clause-own : goal.returns-in-Stills-clause-own
returns-in-Stills-clause-own g c =
    subst (λ (task : Task). SuitsTask task c.keep.result) (sym c.in-Stills.is) c.keep.ensures.own
