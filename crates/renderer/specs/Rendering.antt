-- Public: what a call that renders a frame gives, and what it adds to the track's history and to the caches.
use Rattle.std.specs.Prelude.{◌≡◌, ◌⊎◌, ℤ, List, map, Result, Ok, Err, None}
use Rattle.ass_events.specs.Histories.{live}
use Rattle.ass_events.specs.declared.event.Event.{Event}
use Rattle.ass_num.specs.declared.size.Size.{Size}
use Rattle.mask_caches.specs.Caches.{HoldsAsBefore, IsPassOf}
use Rattle.mask_caches.specs.declared.passes.CachesPass.{CachesPass}
use Rattle.mask_keys.specs.declared.plans.Draw.{Draw}
use Rattle.mask_keys.specs.Pictures.{image_of_draw}
use Rattle.frame_view.specs.FrameViews.{plain_frame}
use Rattle.picture_plan.specs.Pictures.{AreDraws}
use Rattle.track_history.specs.Calls.{IsTurn, history_of}
use Rattle.renderer.specs.ShownFrames.{FrameImage, image_shown, leases_of}
use Rattle.renderer.specs.Frames.{IsFrameOf}
use Rattle.mask_keys.specs.PlanKeys.{plan_keys}
use Rattle.renderer.specs.Leasing.{AreLeased, AreUnleased, IsLent}
use Rattle.renderer.specs.Passes.{RenderView, RendererView}
use Rattle.renderer.specs.declared.frames.Frame.{Frame}

-- ---- a part of a frame

module _ (renderer : RendererView) (pass after : CachesPass) (events : List Event) (t : ℤ) (size : Size) where
  -- The images are the draws of these events, with leases of their keys.
  pub record AreDrawsLent (images : List FrameImage) : Type 0 where
    pub draws : List Draw
    pub are_draws : AreDraws renderer.script renderer.fonts events t (plain_frame size) draws
    pub shown : map image_shown images ≡ map (image_of_draw renderer.fonts) draws
    pub lent : IsLent renderer.caches pass after (plan_keys draws) (leases_of images)

  -- Memory was wanting. No key was asked for, or those of the draws, all or as far as one wasn't had, and what was had was given back.
  pub record AreDrawsUnlent : Type 0 where
    pub of : IsPassOf renderer.caches after
    pub holds : HoldsAsBefore renderer.caches pass after
    pub unleased : (after ≡ pass) ⊎ ((draws : List Draw) × AreDraws renderer.script renderer.fonts events t (plain_frame size) draws × AreUnleased renderer.caches pass after (plan_keys draws))

  abbrev pub AreImagesLent : {E : Type 0} → Result (List FrameImage) E → Type 0
  AreImagesLent (Ok images) = AreDrawsLent images
  AreImagesLent (Err refused) = AreDrawsUnlent

-- ---- frames

module _ (renderer : RendererView) (pass after : RenderView) (t : ℤ) (size : Size) where
  -- The pass took one turn of the track, which added nothing. The frame is of all that the pass has seen then, and its leases are what was had of the keys of its draws.
  pub record IsRenderedFrame (frame : Frame) : Type 0 where
    pub turn : IsTurn pass.track after.track None
    pub is_frame : IsFrameOf renderer.script renderer.fonts (history_of after.track.seen) t size frame
    pub leased : AreLeased renderer.caches pass.caches after.caches (plan_keys is_frame.draws) (leases_of frame.images)

  -- Memory was wanting. The turn of the track was taken. No key was asked for, or those of the draws, all or as far as one wasn't had, and what was had was given back.
  pub record IsUnrendered : Type 0 where
    pub turn : IsTurn pass.track after.track None
    pub unleased : (after.caches ≡ pass.caches)
        ⊎ ((draws : List Draw) × AreDraws renderer.script renderer.fonts (live (history_of after.track.seen)) t (plain_frame size) draws × AreUnleased renderer.caches pass.caches after.caches (plan_keys draws))

  abbrev pub IsRendered : {E : Type 0} → Result Frame E → Type 0
  IsRendered (Ok frame) = IsRenderedFrame frame
  IsRendered (Err refused) = IsUnrendered
