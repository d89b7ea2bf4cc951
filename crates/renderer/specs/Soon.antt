-- Public: what a call that tries for a frame and else renders it gives, and what it adds to the track's history and to the caches.
use Rattle.std.specs.Prelude.{◌≢◌, ◌⊎◌, ℤ, List, Result, Ok, Err}
use Rattle.ass_events.specs.Histories.{live}
use Rattle.ass_events.specs.declared.event.Event.{Event}
use Rattle.ass_num.specs.declared.size.Size.{Size}
use Rattle.flight_cache.specs.declared.pinning.PinRefusal.{PinRefusal}
use Rattle.flight_cache.specs.declared.pinning.PinRefusal.TheVariants.{OutOfMemory}
use Rattle.mask_caches.specs.declared.passes.CachesPass.{CachesPass}
use Rattle.track_history.specs.Calls.{history_of}
use Rattle.renderer.specs.ShownFrames.{FrameImage}
use Rattle.renderer.specs.declared.frames.Frame.{Frame}
use Rattle.renderer.specs.Passes.{RenderView, RendererView}
use Rattle.renderer.specs.Rendering.{AreImagesLent, IsRendered}
use Rattle.renderer.specs.Trying.{AreDrawsPinned, AreDrawsRefused, AreImagesWanting, IsTriedFrame, IsWanting}

-- ---- a part of a frame

module _ (renderer : RendererView) (pass after : CachesPass) (events : List Event) (t : ℤ) (size : Size) where
  -- The cache of composed masks refused the keys of the draws, not for lack of memory, and nothing was added. From there on their images were lent.
  pub record AreImagesLentThen {E : Type 0} (had : Result (List FrameImage) E) : Type 0 where
    pub between : CachesPass
    pub refusal : PinRefusal
    pub cause : refusal ≢ OutOfMemory
    pub refused : AreDrawsRefused renderer pass between events t size refusal
    pub lent : AreImagesLent renderer between after events t size had

  -- The images are the draws of these events, each with pins of its keys, had all at once, or with what was lent of them then.
  -- Memory was wanting for the pins, and nothing was added, or for what was to be lent then.
  abbrev pub AreImagesSoon : {E : Type 0} → Result (List FrameImage) E → Type 0
  AreImagesSoon {E} (Ok images) = AreDrawsPinned renderer pass after events t size images ⊎ AreImagesLentThen {E = E} (Ok images)
  AreImagesSoon {E} (Err refused) = AreImagesWanting renderer pass after events t size ⊎ AreImagesLentThen {E = E} (Err refused)

-- ---- frames

module _ (renderer : RendererView) (pass after : RenderView) (t : ℤ) (size : Size) where
  -- The cache of composed masks refused the keys of the draws, not for lack of memory, and nothing was added. From there on it is as with a call that renders a frame.
  pub record IsRenderedThen {E : Type 0} (result : Result Frame E) : Type 0 where
    pub between : CachesPass
    pub refusal : PinRefusal
    pub cause : refusal ≢ OutOfMemory
    pub refused : AreDrawsRefused renderer pass.caches between (live (history_of after.track.seen)) t size refusal
    pub rendered : IsRendered renderer (record pass { caches = between }) after t size result

  -- The frame has pins of the keys of its draws, had all at once, or it is rendered then. Memory was wanting for the pins, and nothing was added, or for what was to be rendered then.
  abbrev pub IsTriedThenRendered : {E : Type 0} → Result Frame E → Type 0
  IsTriedThenRendered {E} (Ok frame) = IsTriedFrame renderer pass after t size frame ⊎ IsRenderedThen {E = E} (Ok frame)
  IsTriedThenRendered {E} (Err refused) = IsWanting renderer pass after t size ⊎ IsRenderedThen {E = E} (Err refused)
