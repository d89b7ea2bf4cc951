-- Public: what the calls that draw pictures with alpha answer, and what they do to the player or the seat behind a handle.
use Rattle.std.specs.Prelude.{◌≡◌, ◌≢◌, ◌↔◌, ◌⊎◌, ℕ, ◌*◌, ◌<◌, ◌==◌, if◌then◌else◌, ℤ, List, [], length, None}
use Rattle.alpha_canvas.specs.declared.pixel.AlphaForm.{AlphaForm}
use Rattle.alpha_canvas.specs.declared.pixel.AlphaForm.TheVariants.{Straight, Premultiplied}
use Rattle.frame_view.specs.declared.view.FrameView.{FrameView}
use Rattle.picture_plan.specs.AlphaPictures.{IsAlphaPictureAt}
use Rattle.player.specs.Players.{PlayerView}
use Rattle.shared_player.specs.Seats.{SharedSeatView}
use Rattle.shared_player.specs.Shown.{ShowsAlphaHistory}
use Rattle.shared_player.specs.Tries.{IsLostTry}
use Rattle.track_history.specs.Calls.{IsTurn}
use Rattle.vimalorua_c.specs.Calls.{IsBadView}
use Rattle.vimalorua_c.specs.Statuses.{busy_status, done_status, no_font_status, out_of_memory_status}
use Rattle.vimalorua_c.specs.declared.views.ViewNumbers.{ViewNumbers}

-- the form of a number: 0 or 1
abbrev pub form_numbered : ℕ → AlphaForm
form_numbered n = if n == 0 then Straight else Premultiplied

-- Numbers say no view or no form, or no picture is asked for at this instant, or the bytes haven't just room for it.
abbrev pub IsBadAlphaDraw : ℤ → ViewNumbers → ℕ → List ℕ → Type 0
IsBadAlphaDraw at numbers form out = IsBadView at numbers ⊎ ((1 < form) ⊎ (length out ≢ 4 * (numbers.h * numbers.w)))

-- The bytes are those of the picture with alpha; or there is no font, or memory ran out, and they are as before. The player stays as it is.
pub record IsAlphaDrawn (at : ℤ) (frame : FrameView) (form : AlphaForm) (before after : List ℕ) (status : ℤ) (old new : PlayerView) : Type 0 where
  pub same : new ≡ old
  pub fonts : (status ≡ no_font_status) ↔ (old.fonts ≡ [])
  pub picture : status ≡ done_status → IsAlphaPictureAt form old.script old.fonts old.track.events at frame after
  pub else_same : status ≢ done_status → after ≡ before
  pub others : status ≢ done_status → status ≢ no_font_status → status ≡ out_of_memory_status

-- The bytes are the picture with alpha of the entries that are told, in the one history of the track; or there is no font, or another seat has the track, or memory ran
-- out, and they are as before.
pub record IsAlphaTried (at : ℤ) (frame : FrameView) (form : AlphaForm) (before after : List ℕ) (entries : ℕ) (status : ℤ) (old new : SharedSeatView) : Type 0 where
  pub fonts : (status ≡ no_font_status) ↔ (old.fonts ≡ [])
  pub shown : status ≡ done_status → ShowsAlphaHistory old new at frame form after entries
  pub unshown : status ≡ no_font_status → new ≡ old
  pub busy : status ≡ busy_status → IsLostTry old.track new.track
  pub wanting : status ≡ out_of_memory_status → IsTurn old.track new.track None
  pub else_same : status ≢ done_status → (after ≡ before) × (entries ≡ 0)
  pub same : new ≡ record old { track = new.track }
  pub others : status ≢ done_status → status ≢ no_font_status → status ≢ busy_status → status ≡ out_of_memory_status
