-- A play of only what changes, from its images to the end of a run.
use Rattle.std.proofs.Common.{◌≡◌, ◌⊎◌, inl, inr, ℕ, List, [], Option, Result, Ok, Err, refl, sym, subst, append-nil, string_bytes, arith}
use Rattle.std.specs.Io.KnownBytes.{Appends}
use Rattle.std.specs.Global.{Global}
use Rattle.std.specs.declared.string.String.{String}
use Rattle.ass_io.specs.Sinks.{SinkState}
use Rattle.ass_io.specs.Written.{AppendsFront}
use Rattle.run_status.specs.declared.inputs.Inputs.{Inputs}
use Rattle.run_status.specs.declared.status.Status.{Status}
use Rattle.run_status.specs.declared.status.Status.TheVariants as status
use Rattle.run_status.specs.declared.status.Which.TheVariants.{Frames, Report}
use Rattle.run_words.specs.declared.job.StillsJob.{StillsJob}
use Rattle.still_images.specs.Puts.{AreStillsShown, IsShownInPart, IsShownWhole}
use Rattle.still_images.specs.Stills.{AreFirstStills, AreStills, Still, StillsView}
use Rattle.still_images.specs.declared.fault.StillsFault.{StillsFault}
use Rattle.still_images.specs.declared.fault.StillsFault.TheVariants as fault
use Rattle.single_run.specs.Outcomes.{IsEnded, IsOrFault, IsWriteCounted, status_if_put}
use Rattle.single_run.specs.Outputs.{kept_view}
use Rattle.single_run.specs.Runs.{IsTaskDone, sink_change}
use Rattle.single_run.specs.StillOutputs.{AreImagesHeld, AreStillsKept, IsToldAs, SuitsStills, WholeOrPart, images_bytes}
use Rattle.single_run.specs.declared.outcome.Outcome.{Outcome}
use Rattle.single_run.specs.declared.outcome.Outcome.TheVariants.{Ended, Found}
use Rattle.single_run.specs.declared.work.Task.TheVariants.{Stills}
use Rattle.single_run.proofs.Ends.{ended}

-- ---- what came of the images

module _ (stills : StillsJob) (inputs : Inputs) (old new : SinkState) where
  abbrev IsDone : Outcome → Type 0
  IsDone outcome = IsTaskDone (Stills stills) (Ok inputs) (sink_change old new) outcome

  whole_done : (text : String Global) → IsShownWhole (kept_view stills inputs) (string_bytes text) old new → IsDone (Found text)
  whole_done text h = record { kept = h.stills; are_kept = h.are; shown = h.got.held; pieces = h.got.asked; text = λ done. (h.are, h.value) }

  cut_done : IsShownInPart (kept_view stills inputs) fault.WriteFault old new → IsDone (Ended (status.WriteFault Frames))
  cut_done h = record {
    kept = h.stills;
    are_kept = h.are;
    shown = h.got.held;
    pieces = h.got.asked;
    text = λ done. let e : status.WriteFault Frames ≡ status.Done = done in absurd cc;
  }

  memory_done : IsShownInPart (kept_view stills inputs) fault.OutOfMemory old new → IsDone (Ended status.OutOfMemory)
  memory_done h = record {
    kept = h.stills;
    are_kept = h.are;
    shown = h.got.held;
    pieces = h.got.asked;
    text = λ done. let e : status.OutOfMemory ≡ status.Done = done in absurd cc;
  }

  pub stills_done : (end : Result (String Global) StillsFault) (outcome : Outcome) → IsToldAs end outcome → AreStillsShown (kept_view stills inputs) end old new → IsDone outcome
  stills_done (Ok text) outcome is h = subst IsDone (sym is) (whole_done text h)
  stills_done (Err fault.WriteFault) outcome is h = subst IsDone (sym is) (cut_done h)
  stills_done (Err fault.OutOfMemory) outcome is h = subst IsDone (sym is) (memory_done h)

pub counted_of : (view : StillsView) (old new : SinkState) (end : Result (String Global) StillsFault) (outcome : Outcome) → IsToldAs end outcome → AreStillsShown view end old new →
    IsWriteCounted (status_if_put outcome) old.faults new.faults
counted_of view old new (Ok text) outcome is h = subst (λ (o : Outcome). IsWriteCounted (status_if_put o) old.faults new.faults) (sym is) h.got.faults
counted_of view old new (Err fault.WriteFault) outcome is h = subst (λ (o : Outcome). IsWriteCounted (status_if_put o) old.faults new.faults) (sym is) h.got.counted
counted_of view old new (Err fault.OutOfMemory) outcome is h =
    let same : new.faults ≡ old.faults = h.got.counted in
    subst (λ (o : Outcome). IsWriteCounted (status_if_put o) old.faults new.faults) (sym is) (omega (arith, same))

pub told_answer : (end : Result (String Global) StillsFault) (outcome : Outcome) → IsToldAs end outcome → IsOrFault Frames status.Done (status_if_put outcome)
told_answer (Ok text) outcome is = subst (λ (o : Outcome). IsOrFault Frames status.Done (status_if_put o)) (sym is) (inl (inl refl))
told_answer (Err fault.WriteFault) outcome is = subst (λ (o : Outcome). IsOrFault Frames status.Done (status_if_put o)) (sym is) (inr (refl, refl))
told_answer (Err fault.OutOfMemory) outcome is = subst (λ (o : Outcome). IsOrFault Frames status.Done (status_if_put o)) (sym is) (inl (inr refl))

pub told_suits : (end : Result (String Global) StillsFault) (outcome : Outcome) → IsToldAs end outcome → SuitsStills outcome
told_suits (Ok text) outcome is = subst SuitsStills (sym is) tt
told_suits (Err fault.WriteFault) outcome is = subst SuitsStills (sym is) tt
told_suits (Err fault.OutOfMemory) outcome is = subst SuitsStills (sym is) tt

-- ---- from an outcome to the end

module _ (whole part : Type 0) (begun : whole → part) where
  part_of : (answer : Status) → WholeOrPart answer whole part → part
  part_of status.Done h = begun h
  part_of (status.NoSuchFile name) h = absurd h
  part_of (status.ReadFault name) h = absurd h
  part_of (status.BadScript cause) h = absurd h
  part_of (status.BadFont index fault) h = absurd h
  part_of (status.WriteFault Frames) h = h
  part_of (status.WriteFault Report) h = begun h
  part_of (status.TooLarge what limit) h = absurd h
  part_of status.OutOfMemory h = h
  part_of (status.BadWords why) h = absurd h
  part_of (status.Unwritable order field) h = absurd h

  pub put_after : (outcome : Outcome) (answer : Status) → IsEnded outcome answer → WholeOrPart (status_if_put outcome) whole part → WholeOrPart answer whole part
  put_after (Ended before) answer e h = elim (ended before answer e) [
    | inl same ↦ subst (λ s. WholeOrPart s whole part) (sym same) h
    | inr memory ↦ subst (λ s. WholeOrPart s whole part) (sym memory) (part_of before h)
  ]
  put_after (Found text) answer (inl (inl done)) h = subst (λ s. WholeOrPart s whole part) (sym done) h
  put_after (Found text) answer (inl (inr memory)) h = subst (λ s. WholeOrPart s whole part) (sym memory) (begun h)
  put_after (Found text) answer (inr fault) h = subst (λ s. WholeOrPart s whole part) (sym fault) h

module _ (view : StillsView) (kept : List Still) (outcome : Outcome) (answer : Status) (e : IsEnded outcome answer) where
  pub kept_after : AreStillsKept view (status_if_put outcome) kept → AreStillsKept view answer kept
  kept_after h = put_after (AreStills view view.job.instants.count kept) (AreFirstStills view kept) (λ are. (view.job.instants.count, omega arith, are)) outcome answer e h

  pub held_after : (old new : Option (List ℕ)) → AreImagesHeld view (status_if_put outcome) kept old new → AreImagesHeld view answer kept old new
  held_after old new h =
      put_after (Appends old new (images_bytes view kept)) (AppendsFront old new (images_bytes view kept)) (λ all. (images_bytes view kept, [], sym (append-nil (images_bytes view kept)), all)) outcome answer e h

-- the answers of both sinks
abbrev IsEither : Status → Status → Type 0
IsEither wanted answer = IsOrFault Frames wanted answer ⊎ IsOrFault Report wanted answer

pub wanted_done : (wanted : Status) → IsEither wanted status.Done → wanted ≡ status.Done
wanted_done wanted (inl (inl (inl is))) = sym is
wanted_done wanted (inl (inl (inr memory))) = absurd cc
wanted_done wanted (inl (inr (done, fault))) = done
wanted_done wanted (inr (inl (inl is))) = sym is
wanted_done wanted (inr (inl (inr memory))) = absurd cc
wanted_done wanted (inr (inr (done, fault))) = done

pub either_after : (wanted : Status) (outcome : Outcome) (answer : Status) → IsEither wanted (status_if_put outcome) → IsEnded outcome answer → IsEither wanted answer
either_after wanted (Ended before) answer asked h = elim (ended before answer h) [
  | inl same ↦ subst (IsEither wanted) (sym same) asked
  | inr memory ↦ inl (inl (inr memory))
]
either_after wanted (Found text) answer asked (inl (inl done)) = subst (IsEither wanted) (sym done) asked
either_after wanted (Found text) answer asked (inl (inr memory)) = inl (inl (inr memory))
either_after wanted (Found text) answer asked (inr fault) = inr (inr (wanted_done wanted asked, fault))
