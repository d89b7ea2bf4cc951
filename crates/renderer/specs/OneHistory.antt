-- Public: what a frame has to do with its caller, in the one history of a track.
use Rattle.std.specs.Prelude.{◌≡◌, ◌+◌, ℤ, length}
use Rattle.ass_events.specs.Histories.{IsHistory, live}
use Rattle.ass_num.specs.declared.size.Size.{Size}
use Rattle.frame_view.specs.FrameViews.{plain_frame}
use Rattle.picture_plan.specs.Pictures.{IsPictureAt}
use Rattle.track_history.specs.Calls.{history_of}
use Rattle.turn_cell.specs.History.{IsPrefix, entries_of}
use Rattle.turn_cell.specs.Passes.{mine}
use Rattle.renderer.specs.ShownFrames.{canvas_of}
use Rattle.renderer.specs.declared.frames.Frame.{Frame}
use Rattle.renderer.specs.Passes.{RenderView, RendererView}

-- The frame is, pixel for pixel, the picture at its instant of the first n entries of the history, which is all that the pass has seen after the call. That begins
-- with all that the caller had seen, has of the caller just the entries that it gave, each once, and is legal.
pub record ShowsOneHistory (renderer : RendererView) (pass after : RenderView) (t : ℤ) (size : Size) (frame : Frame) : Type 0 where
  pub n : frame.n ≡ length after.track.seen
  pub instant : frame.t ≡ t
  pub begins : IsPrefix pass.track.seen after.track.seen
  pub own : entries_of pass.track.number after.track.seen ≡ mine pass.track
  pub legal : IsHistory (history_of after.track.seen)
  pub fresh : after.track.turns ≡ pass.track.turns + 1
  pub picture : IsPictureAt renderer.script renderer.fonts (live (history_of after.track.seen)) t (plain_frame size) (canvas_of frame)
