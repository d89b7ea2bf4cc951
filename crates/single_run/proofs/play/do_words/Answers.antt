use Rattle.std.proofs.Common.{◌≡◌, ◌∙◌, arith, inl, inr, Bool, true, false, Err, None, Ok, Option, Result, Some, if◌then◌else◌, refl, subst, sym}
use Rattle.run_status.specs.declared.status.Status.{Status}
use Rattle.run_status.specs.declared.status.Status.TheVariants.{BadWords, OutOfMemory, TooLarge}
use Rattle.run_status.specs.declared.status.What.TheVariants.{Frames}
use Rattle.ass_io.specs.Fetches.{fetch_change}
use Rattle.run_words.specs.Words.{job_of, texts}
use Rattle.run_words.specs.declared.job.Job.{Job}
use Rattle.run_words.specs.declared.job.Job.TheVariants as job
use Rattle.run_words.specs.declared.job.WordsFault.{WordsFault}
use Rattle.run_words.specs.declared.job.WordsFault.TheVariants.{Usage}
use Rattle.single_run.specs.Runs.{IsWorked, sink_change}
use Rattle.single_run.specs.Outcomes.{IsReportable, IsStatusReadCounted, IsWriteCounted}
use Rattle.single_run.specs.Works.{IsWorkRead, is_too_long, limited_in, max_frames, work_asked, work_in, work_of}
use Rattle.single_run.specs.declared.outcome.Outcome.TheVariants.{Ended}
use Rattle.single_run.specs.declared.work.Work.{Work}
use Rattle.single_run.proofs.Runs.{memory_worked, reportable_of}
use Rattle.single_run.proofs.play.do_words.Goals as goal

-- Where words ask for work, out of memory alone comes in its place.
memory_alone : (asked : Result (Option Work) Status) (why : Status) (work : Work) → IsWorkRead asked (Err why) → asked ≡ Ok (Some work) → why ≡ OutOfMemory
memory_alone asked why work (inl same) e = let equal : Err why ≡ Ok (Some work) = same ∙ e in absurd cc
memory_alone asked why work (inr memory) e = cc

-- What holds of words that are refused, of too many pictures and of lack of memory holds of what comes in place of work.
refused_at : (P : Status → Type 0) (why : Status) (work : Work) (long : Bool) → P (TooLarge Frames max_frames)
    → Err why ≡ (if long then Err (TooLarge Frames max_frames) else Ok (Some work)) → P why
refused_at P why work true large e = let equal : TooLarge Frames max_frames ≡ why = cc in subst P equal large
refused_at P why work false large e = let equal : Err why ≡ Ok (Some work) = e in absurd cc

refused_in : (P : Status → Type 0) (why : Status) (work : Option Work) → P (BadWords Usage) → P (TooLarge Frames max_frames) → Err why ≡ limited_in work → P why
refused_in P why None words large e = let equal : BadWords Usage ≡ why = cc in subst P equal words
refused_in P why (Some work) words large e = refused_at P why work (is_too_long work) large e

asked_refused : (P : Status → Type 0) (why : Status) (reading : Result Job WordsFault) → ((fault : WordsFault) → P (BadWords fault)) → P (TooLarge Frames max_frames)
    → Err why ≡ work_in reading → P why
asked_refused P why (Err fault) words large e = let equal : BadWords fault ≡ why = cc in subst P equal (words fault)
asked_refused P why (Ok (job.Play play script fonts)) words large e = absurd cc
asked_refused P why (Ok (job.Selftest seed events workers)) words large e = absurd cc
asked_refused P why (Ok job.Help) words large e = absurd cc
asked_refused P why (Ok job.Version) words large e = absurd cc
asked_refused P why (Ok (job.Check script fonts)) words large e = refused_in P why (work_of (job.Check script fonts)) (words Usage) large e
asked_refused P why (Ok (job.Frame frame script fonts)) words large e = refused_in P why (work_of (job.Frame frame script fonts)) (words Usage) large e
asked_refused P why (Ok (job.Changes changes script fonts)) words large e = refused_in P why (work_of (job.Changes changes script fonts)) (words Usage) large e
asked_refused P why (Ok (job.Stills stills script fonts)) words large e = refused_in P why (work_of (job.Stills stills script fonts)) (words Usage) large e
asked_refused P why (Ok (job.Write later earlier script)) words large e = refused_in P why (work_of (job.Write later earlier script)) (words Usage) large e

refused : (P : Status → Type 0) (why : Status) (reading : Result Job WordsFault) → ((fault : WordsFault) → P (BadWords fault)) → P (TooLarge Frames max_frames)
    → P OutOfMemory → IsWorkRead (work_in reading) (Err why) → P why
refused P why reading words large memory (inl same) = asked_refused P why reading words large same
refused P why reading words large memory (inr same) = let equal : OutOfMemory ≡ why = cc in subst P equal memory

pub returns-in-Err-clause-run : goal.returns-in-Err-clause-run
returns-in-Err-clause-run g c = λ work asked.
    let told = g.S.Shelf.told c.args.shelf.now in
    let log = g.S.Shelf.log c.args.shelf.now in
    let frames = c.args.frames.now in
    let change = sink_change (g.F.Sink.state frames) (g.F.Sink.state frames) in
    subst (λ why. IsWorked told (fetch_change log log) work change (Ended why)) (sym (memory_alone (work_asked (texts c.args.words.now)) c.in-Err.status work c.in-Err.ensures.asked asked))
    (memory_worked told log work (g.F.Sink.state frames))

pub returns-in-Ok-Some-clause-reportable : goal.returns-in-Ok-Some-clause-reportable
returns-in-Ok-Some-clause-reportable g c = reportable_of c.in-Ok-Some.work.task c.do_work.result c.do_work.ensures.run.own

pub returns-in-Err-clause-read : goal.returns-in-Err-clause-read
returns-in-Err-clause-read g c =
    let faults = g.S.Shelf.faults c.args.shelf.now in
    refused (λ why. IsStatusReadCounted why faults faults) c.in-Err.status (job_of (texts c.args.words.now)) (λ fault. refl) refl (omega arith) c.in-Err.ensures.asked

pub returns-in-Err-clause-write : goal.returns-in-Err-clause-write
returns-in-Err-clause-write g c =
    let faults = (g.F.Sink.state c.args.frames.now).faults in
    refused (λ why. IsWriteCounted why faults faults) c.in-Err.status (job_of (texts c.args.words.now)) (λ fault. refl) refl (omega arith) c.in-Err.ensures.asked

pub returns-in-Err-clause-reportable : goal.returns-in-Err-clause-reportable
returns-in-Err-clause-reportable g c =
    refused (λ why. IsReportable (Ended why)) c.in-Err.status (job_of (texts c.args.words.now)) (λ fault. tt) tt tt c.in-Err.ensures.asked
