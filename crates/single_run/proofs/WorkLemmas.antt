-- The work of a job is within the limits of its task.
use Rattle.std.proofs.Common.{◌≡◌, ◌∙◌, true, ◌&&◌, ℤ, pos, int_le, [], ◌∷◌, Option, Some, ap, arith, subst}
use Rattle.std.specs.Prelude.{IfSome}
use Rattle.ass_num.specs.Limits.{max_instant}
use Rattle.ass_num.proofs.OrderLemmas.{le_true}
use Rattle.ass_events.specs.Events.{is_time}
use Rattle.run_words.specs.Jobs.{IsJob, IsMoment}
use Rattle.run_words.specs.declared.job.Job.{Job}
use Rattle.run_words.specs.declared.job.Job.TheVariants as job
use Rattle.single_run.specs.Works.{IsWork, work_of}
use Rattle.single_run.specs.declared.work.Work.{Work}

instant : (t : ℤ) → IsMoment t → is_time t ≡ true
instant t h = ap (λ b. b && int_le t (pos max_instant)) (le_true (pos 0) t h.0) ∙ le_true t (pos max_instant) h.1

suits : (asked : Job) → IsJob asked → IfSome (work_of asked) IsWork
suits (job.Check script fonts) h = tt
suits (job.Frame frame script []) h = tt
suits (job.Frame frame script (font ∷ fonts)) h = (h.0, omega arith)
suits (job.Play play script fonts) h = tt
suits (job.Stills stills script []) h = tt
suits (job.Stills stills script (font ∷ fonts)) h = (h, omega arith)
suits job.Help h = tt
suits job.Version h = tt
suits (job.Selftest seed events workers) h = tt
suits (job.Changes changes script []) h = tt
suits (job.Changes changes script (font ∷ fonts)) h = (h.0, omega arith)
suits (job.Write later earlier script) h = record { later = instant later h.0; earlier = instant earlier h.1 }

pub work_suits : (asked : Job) (work : Work) → IsJob asked → work_of asked ≡ Some work → IsWork work
work_suits asked work h e = subst (λ (o : Option Work). IfSome o IsWork) e (suits asked h)
