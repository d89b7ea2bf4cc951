-- Public: what a call that wants a frame of at least so many entries gives.
use Rattle.std.specs.Prelude.{◌≡◌, ◌<◌, ◌≤◌, ℕ, ℤ, length, Result, Ok, Err, None}
use Rattle.ass_num.specs.declared.size.Size.{Size}
use Rattle.track_history.specs.Calls.{IsTurn, history_of}
use Rattle.track_history.specs.declared.answers.FromRefusal.{FromRefusal}
use Rattle.track_history.specs.declared.answers.FromRefusal.TheVariants.{Behind, OutOfMemory}
use Rattle.renderer.specs.Passes.{RenderView, RendererView}
use Rattle.renderer.specs.Rendering.{IsRenderedFrame, IsUnrendered}
use Rattle.renderer.specs.declared.frames.Frame.{Frame}

module _ (renderer : RendererView) (pass after : RenderView) (t : ℤ) (size : Size) (least : ℕ) where
  -- The pass took one turn of the track, which added nothing and showed fewer entries, n. No key was asked for
  pub record IsOfFewer (n : ℕ) : Type 0 where
    pub turn : IsTurn pass.track after.track None
    pub n_is : n ≡ length (history_of after.track.seen)
    pub behind : n < least
    pub caches : after.caches ≡ pass.caches

  -- A frame has enough entries. Where memory was wanting, the turn showed enough
  abbrev pub IsRenderedFrom : Result Frame FromRefusal → Type 0
  IsRenderedFrom (Ok frame) = (least ≤ frame.n) × IsRenderedFrame renderer pass after t size frame
  IsRenderedFrom (Err (Behind n)) = IsOfFewer n
  IsRenderedFrom (Err OutOfMemory) = (least ≤ length (history_of after.track.seen)) × IsUnrendered renderer pass after t size
