-- Public: what comes of the part of a worker in a round.
use Rattle.std.specs.Prelude.{◌≡◌, ℕ, ◌-◌, List, [], ◌++◌, map, Some, None, Result, Ok, Err}
use Rattle.std.specs.Global.{Vec}
use Rattle.ass_events.specs.Histories.{Entry, live}
use Rattle.mask_caches.specs.Balance.{AreLater}
use Rattle.play_shares.specs.Renderers.{share_begins, share_ends}
use Rattle.renderer.specs.Holding.{HoldsTheSame}
use Rattle.renderer.specs.Passes.{IsPassOfRenderer, RenderView, RendererView}
use Rattle.track_history.specs.Answers.{entry_of}
use Rattle.track_history.specs.Calls.{history_of}
use Rattle.track_history.specs.declared.answers.TrackEntry.{TrackEntry}
use Rattle.turn_cell.specs.Passes.{Follows}
use Rattle.play_model.specs.Feeding.{AreFedTwice}
use Rattle.play_model.specs.Plays.{events_again, events_in}
use Rattle.play_workers.specs.Asks.{AreImagesAsked}
use Rattle.play_workers.specs.Offers.{IsFrontOffered}
use Rattle.play_workers.specs.Stages.{play_on}
use Rattle.play_workers.specs.declared.stage.PlayStage.{PlayStage}
use Rattle.play_workers.specs.declared.worker.Outcome.{Outcome}
use Rattle.play_workers.specs.declared.worker.Outcome.TheVariants.{Idle, Fed, Shown, OutOfMemory}
use Rattle.play_workers.specs.declared.worker.Role.{Role}
use Rattle.play_workers.specs.declared.worker.Role.TheVariants.{Feeder, Painter, Warmer}
use Rattle.play_workers.specs.declared.worker.Worker.{Worker}

-- the bytes of images
abbrev pub painted_bytes : List (Vec ℕ) → List (List ℕ)
painted_bytes images = map (λ (image : Vec ℕ). image.items) images

module _ (stage : PlayStage) where
  -- A feeder did its part, whatever dead history it found before.
  abbrev pub IsFedPart : ℕ → ℕ → RenderView → RenderView → List Entry → ℕ → Type 0
  IsFedPart round feeder pass after given repeated =
      (old before fresh : List Entry) → live old ≡ [] → history_of pass.track.seen ≡ old ++ before → history_of after.track.seen ≡ old ++ fresh
      → AreFedTwice before (events_again (play_on stage) round feeder) (events_in (play_on stage) round feeder) fresh given repeated

  -- Its part ended for lack of memory.
  abbrev pub IsFedInPart : ℕ → ℕ → RenderView → RenderView → List Entry → Type 0
  IsFedInPart round feeder pass after given =
      IsFrontOffered pass.track after.track (events_again (play_on stage) round feeder ++ events_in (play_on stage) round feeder) given

  abbrev pub IsBatchFed : {E : Type 0} → ℕ → ℕ → RenderView → RenderView → Result ℕ E → List Entry → Type 0
  IsBatchFed round feeder pass after (Ok repeated) given = IsFedPart round feeder pass after given repeated
  IsBatchFed round feeder pass after (Err refused) given = IsFedInPart round feeder pass after given

  -- ---- what came of a part

  -- These are the images that a painter makes in a round.
  abbrev pub ArePainted : ℕ → ℕ → RenderView → RenderView → List (Vec ℕ) → Type 0
  ArePainted round p pass after images =
      AreImagesAsked (play_on stage) stage.renderer pass after (share_begins stage.job round p) (share_ends stage.job round p - share_begins stage.job round p) (painted_bytes images)

  -- What came of the part of a worker in a round: a feeder may be through; a painter has the images of its instants of the round, if it has some, each of all that its pass had seen then, and asked for at least as many composed masks as their pictures need.
  abbrev pub IsOutcome : ℕ → Role → RenderView → RenderView → List Entry → Outcome → Type 0
  IsOutcome round (Feeder f) pass after given (Fed repeated) = IsFedPart round f pass after given repeated
  IsOutcome round (Feeder f) pass after given OutOfMemory = IsFedInPart round f pass after given
  IsOutcome round (Painter p) pass after given (Shown images) = (given ≡ []) × ArePainted round p pass after images
  IsOutcome round (Painter p) pass after given OutOfMemory = given ≡ []
  IsOutcome round Warmer pass after given Idle = given ≡ []
  IsOutcome round Warmer pass after given OutOfMemory = given ≡ []
  IsOutcome round _ pass after given _ = ⊥

  -- The part of a worker was done with the pass, which holds and has open afterwards what it did before.
  pub record IsDone (round : ℕ) (role : Role) (pass after : RenderView) (outcome : Outcome) : Type 0 where
    pub is_of : IsPassOfRenderer stage.renderer after
    pub given : List TrackEntry
    pub follows : Follows pass.track after.track given
    pub later : AreLater pass.caches after.caches
    pub holds : HoldsTheSame stage.renderer pass after
    pub came : IsOutcome round role pass after (map entry_of given) outcome

abbrev pub IsFine : Outcome → Type 0
IsFine Idle = Unit {0}
IsFine (Fed repeated) = Unit {0}
IsFine (Shown images) = Unit {0}
IsFine OutOfMemory = ⊥

abbrev pub told_repeats : Outcome → ℕ
told_repeats Idle = 0
told_repeats (Fed repeated) = repeated
told_repeats (Shown images) = 0
told_repeats OutOfMemory = 0

abbrev pub images_by : Outcome → List (List ℕ)
images_by Idle = []
images_by (Fed repeated) = []
images_by (Shown images) = painted_bytes images
images_by OutOfMemory = []

-- ---- workers

abbrev pub HasNoPass : Worker → Type 0
HasNoPass worker = worker.pass ≡ None

-- the worker has a pass of the renderer
pub record HasPass (renderer : RendererView) (worker : Worker) : Type 0 where
  pub pass : RenderView
  pub is : worker.pass ≡ Some pass
  pub is_of : IsPassOfRenderer renderer pass

-- the worker did its part, and has its pass again
pub record HasWorked (stage : PlayStage) (round : ℕ) (before after : Worker) : Type 0 where
  pub pass : RenderView
  pub is : before.pass ≡ Some pass
  pub pass_after : RenderView
  pub is_after : after.pass ≡ Some pass_after
  pub role : after.role ≡ before.role
  pub done : IsDone stage round before.role pass pass_after after.outcome
