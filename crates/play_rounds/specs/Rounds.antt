-- Public: what a round does.
use Rattle.std.specs.Prelude.{◌≡◌, ℕ, ◌<◌, List, length, map, slice_index_or, Some}
use Rattle.renderer.specs.Passes.{RenderView}
use Rattle.play_workers.specs.Parts.{IsDone}
use Rattle.play_workers.specs.declared.stage.PlayStage.{PlayStage}
use Rattle.play_workers.specs.declared.worker.Role.{Role}
use Rattle.play_workers.specs.declared.worker.Worker.{Worker}
use Rattle.play_rounds.specs.Passes.{AreRendersJoined, AreRendersSplit}

-- each worker has the pass of its place
abbrev pub AreHandedOut : (ℕ → RenderView) → List Worker → Type 0
AreHandedOut passes workers = (i : ℕ) (d : Worker) → i < length workers → (slice_index_or workers i d).pass ≡ Some (passes i)

abbrev pub worker_roles : List Worker → List Role
worker_roles workers = map (λ (w : Worker). w.role) workers

-- One round: each worker did its part with a pass of its own, split off the first one, and all passes were joined.
pub record IsRound (stage : PlayStage) (round : ℕ) (first : RenderView) (workers : List Worker) (after : RenderView) : Type 0 where
  pub begun : ℕ → RenderView
  pub split : RenderView
  pub are_split : AreRendersSplit stage.renderer first (length workers) begun split
  pub passes : ℕ → RenderView
  pub done : (i : ℕ) (d : Worker) → i < length workers → IsDone stage round (slice_index_or workers i d).role (begun i) (passes i) (slice_index_or workers i d).outcome
  pub joined : AreRendersJoined stage.renderer split (length workers) passes after
