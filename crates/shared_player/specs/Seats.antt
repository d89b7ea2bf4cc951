-- Public: what a seat is to its callers.
use Rattle.std.specs.Prelude.{◌≡◌, ◌≢◌, ℕ, Bool, true, false, IsTrue, List, []}
use Rattle.ass_script.specs.Scripts.{ScriptValue}
use Rattle.bdf_font.specs.Fonts.{FontValue}
use Rattle.plain_images.specs.declared.plain.PlainImage.{PlainImage}
use Rattle.player.specs.Players.{PlayerView}
use Rattle.shared_player.specs.declared.refusals.ShareRefusal.{ShareRefusal}
use Rattle.shared_player.specs.declared.refusals.ShareRefusal.TheVariants as share
use Rattle.shared_player.specs.declared.refusals.SplitRefusal.{SplitRefusal}
use Rattle.shared_player.specs.declared.refusals.SplitRefusal.TheVariants as split
use Rattle.track_history.specs.Calls.{TrackView}
use Rattle.track_history.specs.LocalTracks.{new_track}
use Rattle.turn_cell.specs.Passes.{CellView, IsOf, first_pass, new_pass}

-- A seat: the script and the fonts of all seats, the budget of each of its own caches, the images that it listed last, the cell of
-- the track that all seats share, what it has seen and given of the track's history, and whether it is the first seat.
-- What its caches keep is not seen.
pub record SharedSeatView : Type 0 where
  pub script : ScriptValue
  pub fonts : List FontValue
  pub budget : ℕ
  pub images : List PlainImage
  pub cell : CellView (Unit {0})
  pub track : TrackView
  pub first : Bool

-- what is kept of a seat besides its pass is a player that nothing was fed to
abbrev pub seat_of : PlayerView → CellView (Unit {0}) → TrackView → Bool → SharedSeatView
seat_of player cell track first = record {
  script = player.script;
  fonts = player.fonts;
  budget = player.budget;
  images = player.images;
  cell = cell;
  track = track;
  first = first;
}

-- What is kept belongs together: nothing was fed to the player, the pass comes from the track, and the first seat has the first pass.
pub record IsSeat (player : PlayerView) (cell : CellView (Unit {0})) (track : TrackView) (first : Bool) : Type 0 where
  pub unfed : player.track ≡ new_track
  pub of_cell : IsOf cell track
  pub is_first : IsTrue first → track.number ≡ 0

-- ---- sharing a player

-- the seat has all that the player had, and the first pass of a new track
abbrev pub IsFirstSeat : PlayerView → SharedSeatView → Type 0
IsFirstSeat player seat = (player.track ≡ new_track) × (seat ≡ seat_of player seat.cell (first_pass seat.cell) true)

-- why a player isn't shared
abbrev pub IsShareRefused : PlayerView → ShareRefusal → Type 0
IsShareRefused player share.WasFed = player.track ≢ new_track
IsShareRefused player share.OutOfMemory = player.track ≡ new_track

-- ---- splitting a seat

-- The new seat has the same script, fonts, budget and track. It has seen what the first one has, has given nothing, and has listed nothing.
abbrev pub new_seat : SharedSeatView → SharedSeatView
new_seat seat = record seat { images = []; track = new_pass seat.track; first = false }

-- the most numbers that seats may have been given
abbrev pub max_numbers : ℕ
max_numbers = 4294967295

-- why no seat is split off
abbrev pub IsSplitRefused : SharedSeatView → SplitRefusal → Type 0
IsSplitRefused seat split.NotFirst = seat.first ≡ false
IsSplitRefused seat split.TooMany = (seat.first ≡ true) × (seat.track.next ≡ max_numbers)
IsSplitRefused seat split.OutOfMemory = seat.first ≡ true
