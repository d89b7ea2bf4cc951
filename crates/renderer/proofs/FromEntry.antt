-- What a call that wants a frame of at least so many entries gives.
use Rattle.std.proofs.Common.{◌≡◌, ◌≤◌, ℕ, ℤ, List, length, None, Result, Ok, Err, inl, refl, sym, subst}
use Rattle.ass_events.specs.Histories.{live}
use Rattle.ass_num.specs.declared.size.Size.{Size}
use Rattle.mask_caches.specs.declared.passes.CachesPass.{CachesPass}
use Rattle.mask_caches.proofs.KeysWarmed.{before-itself}
use Rattle.track_history.specs.Answers.{IsSceneFrom, IsSceneOf}
use Rattle.track_history.specs.Calls.{IsTurn, TrackView, history_of}
use Rattle.track_history.specs.declared.answers.FromRefusal.{FromRefusal}
use Rattle.track_history.specs.declared.answers.FromRefusal.TheVariants.{Behind, OutOfMemory}
use Rattle.track_history.specs.declared.scene.Scene.{Scene}
use Rattle.renderer.specs.Behind.{IsRenderedFrom}
use Rattle.renderer.specs.Frames.{frame_with}
use Rattle.renderer.specs.Passes.{IsPassOfRenderer, RenderView, RendererView}
use Rattle.renderer.specs.Rendering.{AreImagesLent, IsRendered}
use Rattle.renderer.specs.ShownFrames.{FrameImage}
use Rattle.renderer.specs.declared.frames.Frame.{Frame}
use Rattle.renderer.proofs.Framed.{IsFrameGiven, frame-given}
use Rattle.renderer.proofs.Together.{pass_of, turn-of}

-- a frame, or that memory was wanting
abbrev pub short_of_memory : {E : Type 0} → Result Frame E → Result Frame FromRefusal
short_of_memory (Ok frame) = Ok frame
short_of_memory (Err refused) = Err OutOfMemory

-- a call for a frame whose turn showed enough entries
enough-given : {E : Type 0} (renderer : RendererView) (pass after : RenderView) (t : ℤ) (size : Size) (least : ℕ) (given : Result Frame E) → least ≤ length (history_of after.track.seen)
    → IsFrameGiven renderer pass after t size (IsRendered renderer pass after t size) given → IsFrameGiven renderer pass after t size (IsRenderedFrom renderer pass after t size least) (short_of_memory given)
enough-given renderer pass after t size least (Ok frame) enough f =
    record { of = f.of; history = f.history; came = (subst (λ (n : ℕ). least ≤ n) (sym f.came.is_frame.n) enough, f.came); holds = f.holds; home = f.home }
enough-given renderer pass after t size least (Err refused) enough f = record { of = f.of; history = tt; came = (enough, f.came); holds = f.holds; home = tt }

module _ (renderer : RendererView) (track later : TrackView) (t : ℤ) (size : Size) (least : ℕ) (turn : IsTurn track later None) where
  -- by what was had of the images
  pub given-from : {E : Type 0} (old new : CachesPass) (scene : Scene) (images : Result (List FrameImage) E) (given : Result Frame E) → IsPassOfRenderer renderer (pass_of track old) → given ≡ frame_with scene size images
      → IsSceneFrom (history_of later.seen) t least (Ok scene) → AreImagesLent renderer old new (live (history_of later.seen)) t size images
      → IsFrameGiven renderer (pass_of track old) (pass_of later new) t size (IsRenderedFrom renderer (pass_of track old) (pass_of later new) t size least) (short_of_memory given)
  given-from {E} old new scene images given of is shown had =
      let f = subst (λ (g : Result Frame E). IsFrameGiven renderer (pass_of track old) (pass_of later new) t size (IsRendered renderer (pass_of track old) (pass_of later new) t size) g) (sym is)
      (frame-given renderer track later old new t size scene images of turn shown.1 had) in
      enough-given renderer (pass_of track old) (pass_of later new) t size least given shown.0 f

  refused : (caches : CachesPass) (refusal : FromRefusal) → IsSceneFrom (history_of later.seen) t least (Err refusal)
      → IsRenderedFrom renderer (pass_of track caches) (pass_of later caches) t size least (Err refusal)
  refused caches (Behind n) shown = record { turn = turn; n_is = shown.0; behind = shown.1; caches = refl }
  refused caches OutOfMemory shown = (shown, record { turn = turn; unleased = inl refl })

  -- by what the track refused
  pub refused-from : (caches : CachesPass) (refusal : FromRefusal) → IsPassOfRenderer renderer (pass_of track caches) → IsSceneFrom (history_of later.seen) t least (Err refusal)
      → IsFrameGiven renderer (pass_of track caches) (pass_of later caches) t size (IsRenderedFrom renderer (pass_of track caches) (pass_of later caches) t size least) (Err refusal)
  refused-from caches refusal of shown = record {
    of = record { track = turn-of renderer track later None of.track turn; caches = of.caches };
    history = tt;
    came = refused caches refusal shown;
    holds = before-itself renderer.caches caches;
    home = tt;
  }
