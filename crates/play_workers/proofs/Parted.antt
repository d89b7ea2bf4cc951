-- What came of the part of a worker.
use Rattle.std.proofs.Common.{◌≡◌, ℕ, ◌<◌, ℤ, [], Some, None, Ok, Err, subst, sym, arith, FitsSigned, w64}
use Rattle.std.specs.List.{slice_get}
use Rattle.std.proofs.lemmas.Int.{ints}
use Rattle.ass_num.specs.Limits.{IsWithin, max_instant}
use Rattle.ass_num.specs.declared.memory.OutOfMemory.{OutOfMemory as NoMemory}
use Rattle.renderer.specs.Holding.{HoldsTheSame}
use Rattle.renderer.specs.Passes.{IsPassOfRenderer, RenderView}
use Rattle.turn_cell.specs.Passes.{Follows}
use Rattle.play_shares.specs.Instants.{instant_count, instants, play_instant}
use Rattle.mask_caches.specs.Balance.{AreLater}
use Rattle.play_workers.specs.Offers.{HasGiven}
use Rattle.play_workers.specs.Parts.{IsBatchFed, IsDone, IsOutcome}
use Rattle.play_workers.specs.Stages.{IsPlayStage}
use Rattle.play_workers.specs.declared.stage.PlayStage.{PlayStage}
use Rattle.play_workers.specs.declared.worker.Outcome.{Outcome}
use Rattle.play_workers.specs.declared.worker.Outcome.TheVariants.{Fed, OutOfMemory}
use Rattle.play_workers.specs.declared.worker.Role.{Role}
use Rattle.play_workers.specs.declared.worker.Role.TheVariants.{Feeder}
use Rattle.play_workers.proofs.Later.{caches_same}
use Rattle.play_workers.proofs.Painted.{holds_itself}
use Rattle.play_workers.proofs.Shared.{instant_within, place_gone, place_there}

module _ (stage : PlayStage) (round : ℕ) (pass after : RenderView) (is_of : IsPassOfRenderer stage.renderer after) where
  pub fed_done : (feeder repeated : ℕ) → after.caches ≡ pass.caches → HasGiven pass.track after.track (IsBatchFed stage {E = NoMemory} round feeder pass after (Ok repeated))
      → IsDone stage round (Feeder feeder) pass after (Fed repeated)
  fed_done feeder repeated same fed = record { is_of = is_of; given = fed.given; follows = fed.follows; later = caches_same pass.caches after.caches same; holds = holds_itself stage.renderer pass after same; came = fed.as_told }

  pub fed_in_part : (feeder : ℕ) (refused : NoMemory) → after.caches ≡ pass.caches → HasGiven pass.track after.track (IsBatchFed stage round feeder pass after (Err refused))
      → IsDone stage round (Feeder feeder) pass after OutOfMemory
  fed_in_part feeder refused same fed = record { is_of = is_of; given = fed.given; follows = fed.follows; later = caches_same pass.caches after.caches same; holds = holds_itself stage.renderer pass after same; came = fed.as_told }

  -- a part that gave nothing
  pub done_giving_none : (role : Role) (outcome : Outcome) → Follows pass.track after.track [] → AreLater pass.caches after.caches → HoldsTheSame stage.renderer pass after → IsOutcome stage round role pass after [] outcome
      → IsDone stage round role pass after outcome
  done_giving_none role outcome follows later same came = record { is_of = is_of; given = []; follows = follows; later = later; holds = same; came = came }

-- the instant at a place
module _ (stage : PlayStage) (is : IsPlayStage stage) (place : ℕ) (t : ℤ) (there : Some t ≡ slice_get (instants stage.job) place) where
  pub instant_is : t ≡ play_instant stage.job place
  instant_is = (place_there stage.job is.playable.job place t there).1

  pub instant_fits_frame : IsWithin max_instant t × FitsSigned w64 t
  instant_fits_frame =
      let here = place_there stage.job is.playable.job place t there in
      let within : IsWithin max_instant t = subst (IsWithin max_instant) (sym here.1) (instant_within stage.job is.playable.job place here.0) in
      (within, omega (arith, ints, within.0, within.1))

pub instant_not_gone : (stage : PlayStage) → IsPlayStage stage → (place : ℕ) → place < instant_count stage.job → None ≡ slice_get (instants stage.job) place → ⊥
instant_not_gone stage is place inside gone = let past = place_gone stage.job is.playable.job place gone in absurd (omega (arith, inside, past))
