-- Public: what holds of a run of steps, and what the pictures are that it shows.
use Rattle.std.specs.Prelude.{◌≡◌, ◌≤◌, ℕ, List, ◌∷◌, ◌++◌, length, Some, take}
use Rattle.ass_script.specs.Scripts.{ScriptValue}
use Rattle.ass_events.specs.Histories.{live}
use Rattle.bdf_font.specs.Fonts.{FontValue}
use Rattle.mask_keys.specs.declared.plans.Draw.{Draw}
use Rattle.mask_keys.specs.Pictures.{picture}
use Rattle.frame_view.specs.FrameViews.{plain_frame}
use Rattle.picture_plan.specs.Pictures.{AreDraws}
use Rattle.world_core.specs.Keys.{world_meaning}
use Rattle.world_core.specs.Histories.{ShardHistories, with_steps_of}
use Rattle.world_core.specs.Laws.{KeepsLawsFor}
use Rattle.world_core.specs.Records.{IsRecorded}
use Rattle.world_core.specs.States.{LookState, WorldState}
use Rattle.world_core.specs.Steps.{after_steps}
use Rattle.world_core.specs.Tellings.{TellsWorld, WorldTag}
use Rattle.world_core.specs.declared.steps.Reply.{Reply}
use Rattle.world_core.specs.declared.steps.Reply.TheVariants.{Shown}
use Rattle.world_core.specs.declared.steps.Step.{Step}
use Rattle.world_core.specs.declared.steps.Step.TheVariants.{Show}
use Rattle.world_core.specs.declared.world.World.{World}

-- The world tells of the state that the definition makes of the steps. After each of them the laws hold, and what was recorded before them is recorded with what the steps so far added
pub record IsRunOf (s : WorldState WorldTag) (steps : List Step) (world : World) : Type 0 where
  pub state : TellsWorld world (after_steps world_meaning s steps)
  pub laws : (k : ℕ) → k ≤ length steps → KeepsLawsFor world_meaning s steps k
  pub recorded : (limits : ℕ → ℕ × ℕ) (histories : ShardHistories) → IsRecorded world_meaning s limits histories
      → (k : ℕ) → k ≤ length steps → IsRecorded world_meaning (after_steps world_meaning s (take k steps)) limits (with_steps_of world_meaning s (take k steps) histories)

module _ (script : ScriptValue) (fonts : List FontValue) where
  -- the pixels are those of the picture without caches of what is live after the first n entries, at the instant and in the size of the actor's last look
  pub record IsPictureOfFirst (s : WorldState WorldTag) (actor n : ℕ) (pixels : List ℕ) : Type 0 where
    pub look : LookState
    pub last : s.looks actor ≡ Some look
    pub draws : List Draw
    pub are_draws : AreDraws script fonts (live (take n s.history)) look.instant (plain_frame look.size) draws
    pub pixels_are : pixels ≡ (picture fonts look.size draws).bytes

  -- so it is with each picture that is shown
  abbrev pub ShowPicturesOfFirst : WorldState WorldTag → List Step → List Reply → Type 0
  ShowPicturesOfFirst s steps replies = (before later : List Step) (told rest : List Reply) (actor n : ℕ) (pixels : List ℕ)
      → steps ≡ before ++ Show actor ∷ later → replies ≡ told ++ Shown n pixels ∷ rest → length told ≡ length before
      → IsPictureOfFirst (after_steps world_meaning s before) actor n pixels
