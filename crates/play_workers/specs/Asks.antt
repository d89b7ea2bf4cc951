-- Public: the composed masks that a pass asks for.
use Rattle.std.specs.Prelude.{◌≡◌, ℕ, ◌+◌, ◌≤◌, ℤ, List, [], ◌∷◌, length}
use Rattle.ass_events.specs.Histories.{Entry}
use Rattle.ass_num.specs.declared.size.Size.{Size}
use Rattle.cache_kinds.specs.Kinds.{composite_meaning}
use Rattle.mask_caches.specs.Asks.{own_asks, seen_asks}
use Rattle.renderer.specs.declared.frames.Frame.{Frame}
use Rattle.mask_keys.specs.declared.plans.Draw.{Draw}
use Rattle.renderer.specs.Frames.{IsFrameOf}
use Rattle.renderer.specs.Passes.{RenderView, RendererView}
use Rattle.track_history.specs.Calls.{history_of}
use Rattle.turn_cell.specs.History.{IsPrefix}
use Rattle.play_shares.specs.Instants.{play_instant}
use Rattle.play_model.specs.Images.{IsImageOf, ShownImage, all_masks, masks_needed, needed_by, shown_pieces}
use Rattle.play_model.specs.Plays.{PlayView}

-- how many composed masks a pass has asked for
abbrev pub masks_asked : RendererView → RenderView → ℕ
masks_asked renderer pass = own_asks composite_meaning renderer.caches.composites pass.caches.composites

-- how many were asked for in all that it has seen
abbrev pub masks_seen : RendererView → RenderView → ℕ
masks_seen renderer pass = seen_asks composite_meaning renderer.caches.composites pass.caches.composites

-- It is a frame of the history, and the pass asked for at least as many composed masks as its draws need.
pub record IsFrameAsked (renderer : RendererView) (pass after : RenderView) (history : List Entry) (t : ℤ) (size : Size) (frame : Frame) : Type 0 where
  pub is : IsFrameOf renderer.script renderer.fonts history t size frame
  pub asked : masks_asked renderer pass + masks_needed is.draws ≤ masks_asked renderer after

-- It is the image of these draws.
pub record IsImageOfDraws (play : PlayView) (history : List Entry) (t : ℤ) (draws : List Draw) (bytes : List ℕ) : Type 0 where
  pub is : IsImageOf play history t bytes
  pub needed : needed_by is ≡ masks_needed draws

-- It is the image of what the history shows at t, and the pass asked for at least as many composed masks as its picture needs.
pub record IsImageAsked (play : PlayView) (renderer : RendererView) (pass after : RenderView) (history : List Entry) (t : ℤ) (bytes : List ℕ) : Type 0 where
  pub is : IsImageOf play history t bytes
  pub asked : masks_asked renderer pass + needed_by is ≤ masks_asked renderer after

-- The image shows at t a history that goes on from another one.
pub record IsNextImage (play : PlayView) (before history : List Entry) (t : ℤ) (image : ShownImage) : Type 0 where
  pub goes_on : IsPrefix before history
  pub is : IsImageOf play history t image.bytes
  pub masks_are : image.masks ≡ needed_by is

-- These are the images of the instants from a place on, in order. The history of each goes on from that of the image before it, the first one's from `before`, and the last image shows all of `seen`.
abbrev pub AreImagesInTurn : PlayView → ℕ → List Entry → List Entry → List ShownImage → Type 0
AreImagesInTurn play place before seen [] = seen ≡ before
AreImagesInTurn play place before seen (image ∷ images) =
    (history : List Entry) × IsNextImage play before history (play_instant play.job place) image × AreImagesInTurn play (place + 1) history seen images

-- These are the images of so many instants from a place on, in order, each of what the pass had seen when it was made, and the last one of all that it has seen then. It asked for at least as many composed masks as their pictures need.
pub record AreImagesAsked (play : PlayView) (renderer : RendererView) (pass after : RenderView) (first count : ℕ) (pieces : List (List ℕ)) : Type 0 where
  pub images : List ShownImage
  pub pieces_are : shown_pieces images ≡ pieces
  pub many : length images ≡ count
  pub in_turn : AreImagesInTurn play first (history_of pass.track.seen) (history_of after.track.seen) images
  pub asked : masks_asked renderer pass + all_masks images ≤ masks_asked renderer after
