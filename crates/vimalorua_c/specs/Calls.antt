-- Public: what the calls of a handle answer, and what they do to the player behind it.
use Rattle.std.specs.Prelude.{◌≡◌, ◌≢◌, ◌↔◌, ◌⊎◌, ℕ, ◌*◌, ◌+◌, ◌<◌, ◌≤◌, ℤ, pos, neg_ℤ, ◌<ℤ◌, List, [], ◌∷◌, length, All, flat_map, fold, Option, Some, None, Ok, Err}
use Rattle.track_history.specs.LocalFeeding.{AreFrontOffered, IsChunkOffered, IsFlushedLocally, with_offer}
use Rattle.ass_events.specs.Events.{event_of}
use Rattle.ass_num.specs.Limits.{IsWithin, max_file_bytes, max_frame_side, max_instant}
use Rattle.ass_num.specs.declared.size.Size.{Size}
use Rattle.ass_script.specs.Scripts.{ScriptValue, script_of}
use Rattle.ass_script.specs.declared.refusal.ScriptRefusal.{ScriptRefusal}
use Rattle.blend.specs.Canvases.{CanvasValue, black}
use Rattle.evict_core.specs.Machine.{max_budget}
use Rattle.frame_change.specs.declared.kinds.ChangeKind.{ChangeKind}
use Rattle.frame_view.specs.declared.view.FrameView.{FrameView}
use Rattle.picture_plan.specs.Pictures.{IsPictureAt}
use Rattle.plain_images.specs.PlainImages.{LiesInFrame, with_plain_images}
use Rattle.plain_images.specs.declared.plain.PlainImage.{PlainImage}
use Rattle.player.specs.Changes.{IsListChange}
use Rattle.player.specs.Listing.{IsListOf}
use Rattle.player.specs.Players.{PlayerView, mask_bytes, new_player}
use Rattle.ass_events.specs.ScriptEvents.{line_events}
use Rattle.track_history.specs.declared.answers.Feed.{Feed}
use Rattle.track_history.specs.declared.answers.Flushed.{Flushed}
use Rattle.vimalorua_c.specs.Statuses.{bad_call_status, change_number, closed_status, done_status, fed_field, feed_told, flush_told, no_font_status, out_of_memory_status, script_told, told}
use Rattle.vimalorua_c.specs.Views.{AreViewNumbers}
use Rattle.vimalorua_c.specs.declared.handle.Handle.{Handle}
use Rattle.vimalorua_c.specs.declared.kept.HeldPlayer.{HeldPlayer}
use Rattle.vimalorua_c.specs.declared.listing.ImageNumbers.{ImageNumbers}
use Rattle.vimalorua_c.specs.declared.status.Told.{Told}
use Rattle.vimalorua_c.specs.declared.views.ViewNumbers.{ViewNumbers}

-- ---- all calls

-- Where there is a player the call was made of it, and there is one then. Where there is none the handle is closed, and nothing is told.
abbrev pub IsMadeOf : Type 0 → (PlayerView → PlayerView → Type 0) → ℤ → Option PlayerView → Option PlayerView → Type 0
IsMadeOf IsUntold call status (Some old) (Some new) = call old new
IsMadeOf IsUntold call status None None = (status ≡ closed_status) × IsUntold
IsMadeOf IsUntold call status (Some old) None = ⊥
IsMadeOf IsUntold call status None (Some new) = ⊥

-- A call of a handle whose numbers are good: where memory ran out before it was made, it changes and tells nothing.
abbrev pub IsGoodCall : Type 0 → (PlayerView → PlayerView → Type 0) → ℤ → HeldPlayer → HeldPlayer → Type 0
IsGoodCall IsUntold call status old new =
    ((status ≡ out_of_memory_status) × (new ≡ old) × IsUntold) ⊎ IsMadeOf IsUntold call status old.player new.player

-- A call of a handle: a bad one changes and tells nothing.
abbrev pub IsCall : Type 0 → Type 0 → (PlayerView → PlayerView → Type 0) → ℤ → HeldPlayer → HeldPlayer → Type 0
IsCall IsBad IsUntold call status old new =
    (IsBad × (status ≡ bad_call_status) × (new ≡ old) × IsUntold) ⊎ ((IsBad → ⊥) × IsGoodCall IsUntold call status old new)

-- ---- opening

-- What stands behind a handle is a player of the script that bytes spell, just opened.
abbrev pub IsNewHandle : List ℕ → ℕ → Handle → Type 0
IsNewHandle bytes budget handle = (script : ScriptValue) × (script_of bytes ≡ Ok script) × (handle.value.player ≡ Some (new_player script budget))

-- Why no handle is opened of bytes: memory runs out, or they spell no script.
abbrev pub IsScriptTold : List ℕ → Told → Type 0
IsScriptTold bytes answer = (answer ≡ told out_of_memory_status 0) ⊎ ((refusal : ScriptRefusal) × (script_of bytes ≡ Err refusal) × (answer ≡ script_told refusal))

pub record IsOpened (bytes : List ℕ) (budget : ℕ) (status : ℤ) (place : ℕ) : Type 0 where
  pub bad : (status ≡ bad_call_status) ↔ ((max_file_bytes < length bytes) ⊎ (max_budget < budget))
  pub opened : status ≡ done_status → (script : ScriptValue) × (script_of bytes ≡ Ok script) × (place ≡ 0)
  pub untold : (status ≡ bad_call_status) ⊎ (status ≡ out_of_memory_status) → place ≡ 0
  pub refused : status ≢ done_status → status ≢ bad_call_status → status ≢ out_of_memory_status
      → (refusal : ScriptRefusal) × (script_of bytes ≡ Err refusal) × (script_told refusal ≡ told status place)

abbrev pub IsLongFile : List ℕ → Type 0
IsLongFile bytes = max_file_bytes < length bytes

abbrev pub IsBudgetSet : ℕ → ℤ → PlayerView → PlayerView → Type 0
IsBudgetSet budget status old new = (status ≡ done_status) × (new ≡ record old { budget = budget })

-- ---- feeding

-- The chunk was fed, and its answer is told.
pub record IsChunkFed (chunk : List ℕ) (start duration : ℤ) (status : ℤ) (field place : ℕ) (old new : PlayerView) : Type 0 where
  pub answer : Feed
  pub fed : IsChunkOffered (event_of chunk start duration) old.track new.track answer
  pub same : new ≡ record old { track = new.track }
  pub is_told : feed_told answer ≡ told status place
  pub is_field : fed_field answer ≡ field

-- The events of the script's lines were offered, for lack of memory only some of them, from the first on; and how many entries the history has then is told.
abbrev pub AreLinesFed : ℤ → ℕ → PlayerView → PlayerView → Type 0
AreLinesFed status place old new = (place ≡ new.track.entries) × (new ≡ record old { track = new.track }) × (
    ((status ≡ done_status) × (new.track ≡ fold with_offer old.track (line_events old.script)))
    ⊎ ((status ≡ out_of_memory_status) × AreFrontOffered (line_events old.script) old.track new.track))

pub record IsFlushTold (status : ℤ) (place : ℕ) (old new : PlayerView) : Type 0 where
  pub answer : Flushed
  pub flushed : IsFlushedLocally old.track new.track answer
  pub same : new ≡ record old { track = new.track }
  pub is_told : flush_told answer ≡ told status place

-- ---- pictures

-- No frame has this size, or no picture is asked for at this instant.
abbrev pub IsBeyond : ℤ → Size → Type 0
IsBeyond at size = (max_frame_side < size.w) ⊎ ((max_frame_side < size.h) ⊎ ((at <ℤ neg_ℤ (pos max_instant)) ⊎ (pos max_instant <ℤ at)))

abbrev pub IsBadDraw : ℤ → Size → List ℕ → Type 0
IsBadDraw at size out = IsBeyond at size ⊎ (length out ≢ 3 * (size.w * size.h))

-- Numbers say no view, or no picture is asked for at this instant.
abbrev pub IsBadView : ℤ → ViewNumbers → Type 0
IsBadView at numbers = AreViewNumbers numbers × IsWithin max_instant at → ⊥

abbrev pub IsBadDrawIn : ℤ → ViewNumbers → List ℕ → Type 0
IsBadDrawIn at numbers out = IsBadView at numbers ⊎ (length out ≢ 3 * (numbers.w * numbers.h))

-- The bytes are those of the picture; or there is no font, or memory ran out, and they are as before. The player stays as it is.
pub record IsDrawn (at : ℤ) (frame : FrameView) (before after : List ℕ) (status : ℤ) (old new : PlayerView) : Type 0 where
  pub same : new ≡ old
  pub fonts : (status ≡ no_font_status) ↔ (old.fonts ≡ [])
  pub picture : status ≡ done_status → (canvas : CanvasValue) × IsPictureAt old.script old.fonts old.track.events at frame canvas × (after ≡ canvas.bytes)
  pub else_same : status ≢ done_status → after ≡ before
  pub others : status ≢ done_status → status ≢ no_font_status → status ≡ out_of_memory_status

-- The images were listed; or there is no font, or memory ran out, and the player stays as it is.
pub record AreImagesTold (at : ℤ) (frame : FrameView) (status before change : ℤ) (count bytes : ℕ) (old new : PlayerView) : Type 0 where
  pub fonts : (status ≡ no_font_status) ↔ (old.fonts ≡ [])
  pub picture : status ≡ done_status → IsPictureAt old.script old.fonts old.track.events at frame (with_plain_images (black frame.size.w frame.size.h) new.images)
  pub within : status ≡ done_status → All (LiesInFrame frame.size) new.images
  pub list : status ≡ done_status → IsListOf old.script old.fonts old.track.events at frame new.images
  pub changed : status ≡ done_status → (kind : ChangeKind) × IsListChange kind old.images new.images × (change ≡ change_number kind)
  pub else_same : status ≢ done_status → (new ≡ old) × (change ≡ before)
  pub only_images : new ≡ record old { images = new.images }
  pub count_is : count ≡ length new.images
  pub bytes_is : bytes ≡ mask_bytes new.images
  pub others : status ≢ done_status → status ≢ no_font_status → status ≡ out_of_memory_status

-- an image as numbers, where its bytes begin at a place
abbrev pub image_numbers : PlainImage → ℕ → ImageNumbers
image_numbers image at = record {
  x = image.mask.x;
  y = image.mask.y;
  w = image.mask.w;
  h = image.mask.h;
  r = image.colour.r;
  g = image.colour.g;
  b = image.colour.b;
  a = image.colour.a;
  unused = 0;
  at = at;
}

-- images as numbers, where the bytes of the first begin at a place, and those of each other behind those before
abbrev pub all_numbers : List PlainImage → ℕ → List ImageNumbers
all_numbers [] at = []
all_numbers (image ∷ images) at = image_numbers image at ∷ all_numbers images (at + length image.mask.bytes)

-- The arrays have room for just the images, which were copied into them; or they are as before.
pub record AreCopied (images : List PlainImage) (numbers after_numbers : List ImageNumbers) (masks after_masks : List ℕ) (status : ℤ) : Type 0 where
  pub fits : (status ≡ done_status) ↔ ((length numbers ≡ length images) × (length masks ≡ mask_bytes images))
  pub numbers_are : status ≡ done_status → after_numbers ≡ all_numbers images 0
  pub masks_are : status ≡ done_status → after_masks ≡ flat_map (λ (image : PlainImage). image.mask.bytes) images
  pub else_same : status ≢ done_status → (status ≡ bad_call_status) × (after_numbers ≡ numbers) × (after_masks ≡ masks)

-- The images that were listed last were copied, if the arrays have room for just them. The player stays as it is.
abbrev pub AreImagesCopied : List ImageNumbers → List ImageNumbers → List ℕ → List ℕ → ℤ → PlayerView → PlayerView → Type 0
AreImagesCopied numbers after_numbers masks after_masks status old new = (new ≡ old) × AreCopied old.images numbers after_numbers masks after_masks status
