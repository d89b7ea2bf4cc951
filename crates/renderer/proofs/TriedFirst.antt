-- What a call that tries for a frame and else renders it gives.
use Rattle.std.proofs.Common.{◌≢◌, ℤ, List, None, Result, Ok, Err, inl, inr, refl, sym, ◌∙◌, subst, arith}
use Rattle.ass_events.specs.Histories.{live}
use Rattle.ass_events.specs.declared.event.Event.{Event}
use Rattle.ass_num.specs.declared.memory.OutOfMemory.{OutOfMemory}
use Rattle.ass_num.specs.declared.size.Size.{Size}
use Rattle.cache_kinds.specs.Kinds.{mask_meaning, region_meaning}
use Rattle.flight_cache.specs.declared.pinning.PinRefusal.{PinRefusal}
use Rattle.flight_cache.specs.declared.pinning.PinRefusal.TheVariants as refused
use Rattle.mask_keys.specs.Equality.{equal_masks, equal_regions}
use Rattle.mask_caches.specs.Caches.{HoldsAsBefore, IsPassOf}
use Rattle.mask_caches.specs.declared.caches.Caches.{Caches}
use Rattle.mask_caches.specs.declared.passes.CachesPass.{CachesPass}
use Rattle.mask_caches.proofs.Holding.{much-then}
use Rattle.track_history.specs.Answers.{IsSceneOf}
use Rattle.track_history.specs.Calls.{IsTurn, TrackView, history_of}
use Rattle.track_history.specs.declared.scene.Scene.{Scene}
use Rattle.renderer.specs.ShownFrames.{FrameImage, MaskLease, leases_of}
use Rattle.renderer.specs.Frames.{frame_with}
use Rattle.renderer.specs.declared.frames.Frame.{Frame}
use Rattle.renderer.specs.Holding.{HoldsFrameMore, HoldsLeasesMore, HoldsTheSame, AreHome}
use Rattle.renderer.specs.OneHistory.{ShowsOneHistory}
use Rattle.renderer.specs.Passes.{IsPassOfRenderer, RendererView}
use Rattle.renderer.specs.Rendering.{AreImagesLent}
use Rattle.renderer.specs.Soon.{AreImagesSoon, IsTriedThenRendered}
use Rattle.renderer.specs.Trying.{AreDrawsRefused, AreImagesRefused}
use Rattle.renderer.proofs.Framed.{IsFrameGiven, framed}
use Rattle.renderer.proofs.Pictures.{frame-history}
use Rattle.renderer.proofs.Together.{pass_of, turn-of}
use Rattle.renderer.proofs.Tried.{frame-tried, nothing-holds, wanting-itself, images-home}
use Rattle.mask_caches.proofs.KeysWarmed.{before-then}

-- what is held more behind calls that hold as much
pub leases-behind : (caches : Caches) (p q r : CachesPass) (leases : List MaskLease) → HoldsAsBefore caches p q → HoldsLeasesMore caches q r leases → HoldsLeasesMore caches p r leases
leases-behind caches p q r leases f g = record {
  composites = record { pins = λ k. let one = f.composites.pins k in let two = g.composites.pins k in omega arith; claims = λ k. g.composites.claims k ∙ f.composites.claims k };
  masks = much-then equal_masks mask_meaning caches.masks p.masks q.masks r.masks f.masks g.masks;
  regions = much-then equal_regions region_meaning caches.regions p.regions q.regions r.regions f.regions g.regions;
}

-- ---- images

-- memory ran out, and no key was asked for
pub wanting-soon : (renderer : RendererView) (p : CachesPass) (events : List Event) (t : ℤ) (size : Size) → IsPassOf renderer.caches p → (wanting : OutOfMemory) → AreImagesSoon renderer p p events t size (Err wanting)
wanting-soon renderer p events t size of wanting = inl (wanting-itself renderer p events t size of)

module _ (renderer : RendererView) (old between new : CachesPass) (events : List Event) (t : ℤ) (size : Size) where
  -- where it isn't for lack of memory, the cache refused the keys of the draws
  draws-refused : (refusal : PinRefusal) → refusal ≢ refused.OutOfMemory → AreImagesRefused renderer old between events t size refusal → AreDrawsRefused renderer old between events t size refusal
  draws-refused refused.TurnOut cause h = h
  draws-refused (refused.NotReady place) cause h = h
  draws-refused (refused.Making place) cause h = h
  draws-refused (refused.PinsFull place) cause h = h
  draws-refused refused.OutOfMemory cause h = absurd (cause refl)

  -- what was lent behind a refusal
  pub lent-soon : {E : Type 0} (refusal : PinRefusal) (had : Result (List FrameImage) E) → refusal ≢ refused.OutOfMemory → AreImagesRefused renderer old between events t size refusal → AreImagesLent renderer between new events t size had → AreImagesSoon renderer old new events t size had
  lent-soon refusal (Ok images) cause h lent = inr (record { between = between; refusal = refusal; cause = cause; refused = draws-refused refusal cause h; lent = lent })
  lent-soon refusal (Err wanting) cause h lent = inr (record { between = between; refusal = refusal; cause = cause; refused = draws-refused refusal cause h; lent = lent })

pub soon-home : (renderer : RendererView) (old new : CachesPass) (images : List FrameImage) (events : List Event) (t : ℤ) (size : Size) → AreImagesSoon renderer old new events t size {E = OutOfMemory} (Ok images) → AreHome renderer.caches (leases_of images)
soon-home renderer old new images events t size (inl pinned) = images-home renderer old new images events t size pinned
soon-home renderer old new images events t size (inr h) = h.lent.lent.homes

-- ---- frames

module _ (renderer : RendererView) (track later : TrackView) (old new : CachesPass) (t : ℤ) (size : Size) (of : IsPassOfRenderer renderer (pass_of track old)) where
  -- what a call that has this frame makes of a pass
  pub record IsFrameSoon (frame : Frame) : Type 0 where
    pub pass : IsPassOfRenderer renderer (pass_of later new)
    pub history : ShowsOneHistory renderer (pass_of track old) (pass_of later new) t size frame
    pub rendered : IsTriedThenRendered renderer (pass_of track old) (pass_of later new) t size {E = OutOfMemory} (Ok frame)
    pub holds : HoldsFrameMore renderer (pass_of track old) (pass_of later new) frame

  pub frame-soon : (scene : Scene) (images : List FrameImage) → IsTurn track later None → IsSceneOf (history_of later.seen) t scene → AreImagesSoon renderer old new (live (history_of later.seen)) t size {E = OutOfMemory} (Ok images)
      → IsFrameSoon (record { n = scene.n; t = t; size = size; images = images })
  frame-soon scene images turn shown (inl pinned) =
      let f = frame-tried renderer track later old new t size of scene images turn shown pinned in
      record { pass = f.pass; history = f.history; rendered = inl f.tried; holds = f.holds }
  frame-soon scene images turn shown (inr h) =
      let frame : Frame = record { n = scene.n; t = t; size = size; images = images } in
      let nothing = h.refused.nothing in
      let between : IsPassOfRenderer renderer (pass_of track h.between) = record { track = of.track; caches = nothing.of } in
      let f = framed renderer track later h.between new t size scene images between turn shown h.lent in
      record {
        pass = f.of;
        history = frame-history renderer (pass_of track old) (pass_of later new) t size frame turn f.rendered.is_frame;
        rendered = inr (record { between = h.between; refusal = h.refusal; cause = h.cause; refused = h.refused; rendered = f.rendered });
        holds = leases-behind renderer.caches old h.between new (leases_of images) (nothing-holds renderer old h.between nothing) f.holds;
      }

  -- what a call that wants memory makes of it
  pub record IsFrameWanting (wanting : OutOfMemory) : Type 0 where
    pub pass : IsPassOfRenderer renderer (pass_of later new)
    pub rendered : IsTriedThenRendered renderer (pass_of track old) (pass_of later new) t size (Err wanting)
    pub holds : HoldsTheSame renderer (pass_of track old) (pass_of later new)

  pub frame-wanting : (wanting : OutOfMemory) → IsTurn track later None → AreImagesSoon renderer old new (live (history_of later.seen)) t size (Err wanting) → IsFrameWanting wanting
  frame-wanting wanting turn (inl short) = record {
    pass = record { track = turn-of renderer track later None of.track turn; caches = short.nothing.of };
    rendered = inl (record { turn = turn; nothing = short.nothing; cause = short.cause });
    holds = nothing-holds renderer old new short.nothing;
  }
  frame-wanting wanting turn (inr h) = record {
    pass = record { track = turn-of renderer track later None of.track turn; caches = h.lent.of };
    rendered = inr (record { between = h.between; refusal = h.refusal; cause = h.cause; refused = h.refused; rendered = record { turn = turn; unleased = h.lent.unleased } });
    holds = before-then renderer.caches old h.between new (nothing-holds renderer old h.between h.refused.nothing) h.lent.holds;
  }

  -- by what was had of the images
  pub given-soon : (scene : Scene) (images : Result (List FrameImage) OutOfMemory) → IsTurn track later None → IsSceneOf (history_of later.seen) t scene → AreImagesSoon renderer old new (live (history_of later.seen)) t size images
      → IsFrameGiven renderer (pass_of track old) (pass_of later new) t size (IsTriedThenRendered renderer (pass_of track old) (pass_of later new) t size) (frame_with scene size images)
  given-soon scene (Ok images) turn shown had =
      let f = subst (λ (s : ℤ). IsFrameSoon (record { n = scene.n; t = s; size = size; images = images })) (sym shown.instant) (frame-soon scene images turn shown had) in
      record { of = f.pass; history = f.history; came = f.rendered; holds = f.holds; home = soon-home renderer old new images (live (history_of later.seen)) t size had }
  given-soon scene (Err wanting) turn shown had =
      let f = frame-wanting wanting turn had in
      record { of = f.pass; history = tt; came = f.rendered; holds = f.holds; home = tt }
