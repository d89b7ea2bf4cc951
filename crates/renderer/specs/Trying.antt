-- Public: what a call that tries for a frame and tells each cause gives, and what it adds to the track's history and to the caches.
use Rattle.std.specs.Prelude.{◌≡◌, ◌⊎◌, ◌+◌, ℤ, List, map, Result, Ok, Err, None}
use Rattle.ass_events.specs.Histories.{live}
use Rattle.ass_events.specs.declared.event.Event.{Event}
use Rattle.ass_num.specs.declared.size.Size.{Size}
use Rattle.cache_kinds.specs.Kinds.{composite_meaning}
use Rattle.flight_cache.specs.Pinning.{GivesNothing, IsRefused}
use Rattle.flight_cache.specs.declared.pinning.PinRefusal.{PinRefusal}
use Rattle.flight_cache.specs.declared.pinning.PinRefusal.TheVariants as refused
use Rattle.mask_caches.specs.Caches.{IsPassOf}
use Rattle.mask_caches.specs.Pinning.{ArePinned}
use Rattle.mask_caches.specs.declared.passes.CachesPass.{CachesPass}
use Rattle.mask_keys.specs.Equality.{equal_composites}
use Rattle.mask_keys.specs.declared.plans.Draw.{Draw}
use Rattle.mask_keys.specs.Pictures.{image_of_draw}
use Rattle.frame_view.specs.FrameViews.{plain_frame}
use Rattle.picture_plan.specs.Pictures.{AreDraws}
use Rattle.track_history.specs.Calls.{IsTurn, history_of}
use Rattle.track_history.specs.declared.answers.LookRefusal.{LookRefusal}
use Rattle.track_history.specs.declared.answers.LookRefusal.TheVariants as look
use Rattle.renderer.specs.ShownFrames.{FrameImage, image_shown, leases_of}
use Rattle.renderer.specs.declared.frames.Frame.{Frame}
use Rattle.mask_keys.specs.PlanKeys.{plan_keys}
use Rattle.renderer.specs.Frames.{IsFrameOf}
use Rattle.renderer.specs.Passes.{RenderView, RendererView}
use Rattle.renderer.specs.declared.trying.Again.TheVariants as again
use Rattle.renderer.specs.declared.trying.TryRefusal.{TryRefusal}
use Rattle.renderer.specs.declared.trying.TryRefusal.TheVariants.{Again, OutOfMemory}

-- ---- refusals

-- what the track refused
abbrev pub look_refusal : LookRefusal → TryRefusal
look_refusal look.TurnOut = Again again.Track
look_refusal look.OutOfMemory = OutOfMemory

-- what the caches refused
abbrev pub pin_refusal : PinRefusal → TryRefusal
pin_refusal refused.TurnOut = Again again.Cache
pin_refusal (refused.NotReady place) = Again (again.NotReady place)
pin_refusal (refused.Making place) = Again (again.Making place)
pin_refusal (refused.PinsFull place) = Again (again.PinsFull place)
pin_refusal refused.OutOfMemory = OutOfMemory

-- ---- a part of a frame

-- the other two caches are as they were
pub record LeavesOthers (pass after : CachesPass) : Type 0 where
  pub masks : after.masks ≡ pass.masks
  pub regions : after.regions ≡ pass.regions

-- nothing was added to any cache
pub record AddsNothing (renderer : RendererView) (pass after : CachesPass) : Type 0 where
  pub of : IsPassOf renderer.caches after
  pub nothing : GivesNothing pass.composites after.composites
  pub others : LeavesOthers pass after

module _ (renderer : RendererView) (pass after : CachesPass) (events : List Event) (t : ℤ) (size : Size) where
  -- The images are the draws of these events, each with pins of its keys, had all at once.
  pub record AreDrawsPinned (images : List FrameImage) : Type 0 where
    pub draws : List Draw
    pub are_draws : AreDraws renderer.script renderer.fonts events t (plain_frame size) draws
    pub shown : map image_shown images ≡ map (image_of_draw renderer.fonts) draws
    pub of : IsPassOf renderer.caches after
    pub pinned : ArePinned equal_composites composite_meaning renderer.caches.composites pass.composites (plan_keys draws) after.composites (leases_of images)
    pub others : LeavesOthers pass after

  -- The cache of composed masks refused the keys of the draws so, and nothing was added.
  pub record AreDrawsRefused (refusal : PinRefusal) : Type 0 where
    pub draws : List Draw
    pub are_draws : AreDraws renderer.script renderer.fonts events t (plain_frame size) draws
    pub refused : IsRefused equal_composites composite_meaning renderer.caches.composites pass.composites (plan_keys draws) after.composites refusal
    pub nothing : AddsNothing renderer pass after

  -- Memory was wanting: before the turn of a shard was tried for, or where the masks of all keys of the draws could have been pinned. Nothing was added.
  pub record AreImagesWanting : Type 0 where
    pub nothing : AddsNothing renderer pass after
    pub cause : (after ≡ pass) ⊎ AreDrawsRefused refused.OutOfMemory

  abbrev pub AreImagesRefused : PinRefusal → Type 0
  AreImagesRefused refused.TurnOut = AreDrawsRefused refused.TurnOut
  AreImagesRefused (refused.NotReady place) = AreDrawsRefused (refused.NotReady place)
  AreImagesRefused (refused.Making place) = AreDrawsRefused (refused.Making place)
  AreImagesRefused (refused.PinsFull place) = AreDrawsRefused (refused.PinsFull place)
  AreImagesRefused refused.OutOfMemory = AreImagesWanting

  abbrev pub AreImagesTried : Result (List FrameImage) PinRefusal → Type 0
  AreImagesTried (Ok images) = AreDrawsPinned images
  AreImagesTried (Err refusal) = AreImagesRefused refusal

-- ---- frames

module _ (renderer : RendererView) (pass after : RenderView) (t : ℤ) (size : Size) where
  -- The pass took one turn of the track, which added nothing. The frame is of all that the pass has seen then, and its leases are pins of the keys of its draws, had all at once.
  pub record IsTriedFrame (frame : Frame) : Type 0 where
    pub turn : IsTurn pass.track after.track None
    pub is_frame : IsFrameOf renderer.script renderer.fonts (history_of after.track.seen) t size frame
    pub pinned : ArePinned equal_composites composite_meaning renderer.caches.composites pass.caches.composites (plan_keys is_frame.draws) after.caches.composites (leases_of frame.images)
    pub others : LeavesOthers pass.caches after.caches

  -- The pass took one turn of the track, which added nothing. The cache of composed masks refused the keys of the draws of all that the pass has seen then.
  pub record IsRefusedFrame (refusal : PinRefusal) : Type 0 where
    pub turn : IsTurn pass.track after.track None
    pub refused : AreDrawsRefused renderer pass.caches after.caches (live (history_of after.track.seen)) t size refusal

  -- Another pass had the turn of the track: a try was lost, and nothing else was done.
  pub record IsTrackOut : Type 0 where
    pub track : after.track ≡ record pass.track { lost = pass.track.lost + 1 }
    pub caches : after.caches ≡ pass.caches

  -- Memory was wanting: the turn of the track was taken, and nothing was added. No turn of a shard was tried for then, or the masks of all keys of the draws could have been pinned.
  pub record IsWanting : Type 0 where
    pub turn : IsTurn pass.track after.track None
    pub nothing : AddsNothing renderer pass.caches after.caches
    pub cause : (after.caches ≡ pass.caches) ⊎ AreDrawsRefused renderer pass.caches after.caches (live (history_of after.track.seen)) t size refused.OutOfMemory

  abbrev pub IsTried : Result Frame TryRefusal → Type 0
  IsTried (Ok frame) = IsTriedFrame frame
  IsTried (Err (Again again.Track)) = IsTrackOut
  IsTried (Err (Again again.Cache)) = IsRefusedFrame refused.TurnOut
  IsTried (Err (Again (again.NotReady place))) = IsRefusedFrame (refused.NotReady place)
  IsTried (Err (Again (again.Making place))) = IsRefusedFrame (refused.Making place)
  IsTried (Err (Again (again.PinsFull place))) = IsRefusedFrame (refused.PinsFull place)
  IsTried (Err OutOfMemory) = IsWanting
