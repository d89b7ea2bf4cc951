-- Public: what a picture and a list of images have to do with the seat that asked for them, in the one history of a track.
use Rattle.std.specs.Prelude.{◌≡◌, ℕ, ◌+◌, ℤ, List, length, All}
use Rattle.alpha_canvas.specs.declared.pixel.AlphaForm.{AlphaForm}
use Rattle.ass_events.specs.Histories.{IsHistory, live}
use Rattle.blend.specs.Canvases.{black}
use Rattle.frame_view.specs.declared.view.FrameView.{FrameView}
use Rattle.picture_plan.specs.AlphaPictures.{IsAlphaPictureAt}
use Rattle.picture_plan.specs.Pictures.{IsPictureAt}
use Rattle.plain_images.specs.PlainImages.{LiesInFrame, with_plain_images}
use Rattle.player.specs.Changes.{IsListChange}
use Rattle.player.specs.Listing.{IsListOf}
use Rattle.shared_player.specs.Seats.{SharedSeatView}
use Rattle.shared_player.specs.declared.answers.Drawn.{Drawn}
use Rattle.shared_player.specs.declared.answers.ListChange.{ListChange}
use Rattle.track_history.specs.Calls.{TrackView, history_of}
use Rattle.turn_cell.specs.History.{IsPrefix, entries_of}
use Rattle.turn_cell.specs.Passes.{mine}

-- The first `entries` entries of the track's history are all that the pass has seen after the call. They begin with all that it had seen before, have of the pass just
-- the entries that it gave, each once, and are a legal history.
pub record SeesHistory (pass after : TrackView) (entries : ℕ) : Type 0 where
  pub entries_are : entries ≡ length after.seen
  pub begins : IsPrefix pass.seen after.seen
  pub own : entries_of pass.number after.seen ≡ mine pass
  pub legal : IsHistory (history_of after.seen)
  pub fresh : after.turns ≡ pass.turns + 1

-- The canvas is, pixel for pixel, the picture that these entries show at the instant, in the frame.
pub record ShowsHistory (seat after : SharedSeatView) (t : ℤ) (frame : FrameView) (drawn : Drawn) : Type 0 where
  pub sees : SeesHistory seat.track after.track drawn.entries
  pub picture : IsPictureAt seat.script seat.fonts (live (history_of after.track.seen)) t frame drawn.canvas
  pub width : drawn.canvas.w ≡ frame.size.w
  pub height : drawn.canvas.h ≡ frame.size.h

-- The bytes are the picture with alpha that these entries show at the instant, in the frame.
pub record ShowsAlphaHistory (seat after : SharedSeatView) (t : ℤ) (frame : FrameView) (form : AlphaForm) (bytes : List ℕ) (entries : ℕ) : Type 0 where
  pub sees : SeesHistory seat.track after.track entries
  pub picture : IsAlphaPictureAt form seat.script seat.fonts (live (history_of after.track.seen)) t frame bytes

-- The images that the seat has listed then are those that these entries show at the instant, in the frame. Painted in order, with nothing hidden, they make the
-- picture, and all of them lie in the frame. The change is that from the list before.
pub record ListsHistory (seat after : SharedSeatView) (t : ℤ) (frame : FrameView) (listed : ListChange) : Type 0 where
  pub sees : SeesHistory seat.track after.track listed.entries
  pub picture : IsPictureAt seat.script seat.fonts (live (history_of after.track.seen)) t frame (with_plain_images (black frame.size.w frame.size.h) after.images)
  pub within : All (LiesInFrame frame.size) after.images
  pub list : IsListOf seat.script seat.fonts (live (history_of after.track.seen)) t frame after.images
  pub change : IsListChange listed.change seat.images after.images
