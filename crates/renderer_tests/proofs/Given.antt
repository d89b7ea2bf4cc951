-- What is held behind a call that may give a frame.
use Rattle.std.proofs.Common.{◌∙◌, ℕ, ℤ, Result, Ok, Err, subst, sym}
use Rattle.std.specs.Result.{IfOk, OnErr}
use Rattle.ass_num.specs.Limits.{IsFrameSize}
use Rattle.ass_num.specs.declared.size.Size.{Size}
use Rattle.renderer.specs.Behind.{IsRenderedFrom}
use Rattle.renderer.specs.Holding.{HoldsJustTheFrame, HoldsTheSame, IsHomeFrame}
use Rattle.renderer.specs.Passes.{HoldsNothing, RenderView, RendererView}
use Rattle.renderer.specs.Rendering.{IsRendered}
use Rattle.renderer.specs.Trying.{IsTried}
use Rattle.renderer.specs.Untold.{IsTriedUntold, untold}
use Rattle.renderer.specs.declared.frames.Frame.{Frame}
use Rattle.renderer.specs.declared.trying.TryRefusal.{TryRefusal}
use Rattle.renderer_tests.specs.Passes.{HoldsFrameAlone}
use Rattle.track_history.specs.declared.answers.FromRefusal.{FromRefusal}

module _ (renderer : RendererView) (pass after : RenderView) where
  pub frame_alone : {E : Type 0} (answer : Result Frame E) → HoldsNothing renderer pass → HoldsJustTheFrame renderer pass after answer → IfOk answer (IsHomeFrame renderer) → IfOk answer (HoldsFrameAlone renderer after)
  frame_alone (Ok frame) nothing h home = record { begun = pass; nothing = nothing; more = h; home = home }
  frame_alone (Err refused) nothing h home = record {}

  pub nothing_again : {E : Type 0} (answer : Result Frame E) → HoldsJustTheFrame renderer pass after answer
      → (HoldsTheSame renderer pass after → HoldsNothing renderer after) → OnErr answer (HoldsNothing renderer after)
  nothing_again (Ok frame) h again = record {}
  nothing_again (Err refused) h again = again h

  module _ (t : ℤ) (size : Size) where
    pub frame_fits : {E : Type 0} (answer : Result Frame E) → IsFrameSize size → IsRendered renderer pass after t size answer → IfOk answer (λ frame. IsFrameSize frame.size)
    frame_fits (Ok frame) fits h = subst IsFrameSize (sym h.is_frame.size_is) fits
    frame_fits (Err refused) fits h = record {}

    pub from_fits : (least : ℕ) (answer : Result Frame FromRefusal) → IsFrameSize size → IsRenderedFrom renderer pass after t size least answer → IfOk answer (λ frame. IsFrameSize frame.size)
    from_fits least (Ok frame) fits h = subst IsFrameSize (sym h.1.is_frame.size_is) fits
    from_fits least (Err refusal) fits h = record {}

    pub tried_fits : (answer : Result Frame TryRefusal) → IsFrameSize size → IsTried renderer pass after t size answer → IfOk answer (λ frame. IsFrameSize frame.size)
    tried_fits (Ok frame) fits h = subst IsFrameSize (sym h.is_frame.size_is) fits
    tried_fits (Err refused) fits h = record {}

    told_fits : (told : Result Frame TryRefusal) → IfOk told (λ frame. IsFrameSize frame.size) → IfOk (untold told) (λ frame. IsFrameSize frame.size)
    told_fits (Ok frame) fits = fits
    told_fits (Err refused) fits = record {}

    pub untold_fits : (answer : Result Frame TryRefusal) → IsFrameSize size → IsTriedUntold renderer pass after t size answer → IfOk answer (λ frame. IsFrameSize frame.size)
    untold_fits answer fits h = subst (λ (a : Result Frame TryRefusal). IfOk a (λ frame. IsFrameSize frame.size)) (sym h.2) (told_fits h.0 (tried_fits h.0 fits h.1))

-- the frame is held alone as long as the same is held
pub still_alone : (renderer : RendererView) (pass after : RenderView) (frame : Frame) → HoldsFrameAlone renderer pass frame → HoldsTheSame renderer pass after → HoldsFrameAlone renderer after frame
still_alone renderer pass after frame alone same = record {
  begun = alone.begun;
  nothing = alone.nothing;
  more = record {
    composites = record {
      pins = λ key. same.composites.pins key ∙ alone.more.composites.pins key;
      claims = λ key. same.composites.claims key ∙ alone.more.composites.claims key;
    };
    masks = record {
      pins = λ key. same.masks.pins key ∙ alone.more.masks.pins key;
      claims = λ key. same.masks.claims key ∙ alone.more.masks.claims key;
    };
    regions = record {
      pins = λ key. same.regions.pins key ∙ alone.more.regions.pins key;
      claims = λ key. same.regions.claims key ∙ alone.more.regions.claims key;
    };
  };
  home = alone.home;
}
