-- Frames and images whose composed masks were asked for.
use Rattle.std.proofs.Common.{Global, Vec, ℕ, ◌+◌, ◌≤◌, ℤ, List, Result, Ok, Err, ⊎_elim, arith}
use Rattle.std.specs.Result.{IfOk}
use Rattle.ass_events.specs.Histories.{Entry}
use Rattle.ass_num.specs.declared.size.Size.{Size}
use Rattle.cache_kinds.specs.Kinds.{composite_meaning}
use Rattle.mask_caches.specs.Balance.{AreLater}
use Rattle.mask_caches.proofs.Asks.{later_asks}
use Rattle.renderer.specs.declared.frames.Frame.{Frame}
use Rattle.mask_caches.specs.Caches.{AreNumbered}
use Rattle.mask_keys.specs.Equality.{equal_composites}
use Rattle.mask_keys.specs.declared.plans.Draw.{Draw}
use Rattle.renderer.specs.Passes.{RenderView, RendererView}
use Rattle.renderer.specs.Rendering.{IsRenderedFrame}
use Rattle.renderer.specs.Soon.{IsTriedThenRendered}
use Rattle.renderer.specs.Trying.{IsTriedFrame}
use Rattle.track_history.specs.Calls.{history_of}
use Rattle.mask_keys.specs.PlanKeys.{plan_keys}
use Rattle.play_model.specs.Images.{masks_needed}
use Rattle.play_model.specs.Plays.{PlayView}
use Rattle.play_workers.specs.Asks.{IsFrameAsked, IsImageAsked, IsImageOfDraws, masks_asked}
use Rattle.play_workers.proofs.Asked.{keys_needed, pinned_asks, visits_added, visits_ask}
use Rattle.play_workers.proofs.Later.{nothing_later}

-- later passes have asked for no fewer
pub asked_later : (renderer : RendererView) (pass after : RenderView) → AreLater pass.caches after.caches → masks_asked renderer pass ≤ masks_asked renderer after
asked_later renderer pass after later = later_asks composite_meaning renderer.caches.composites pass.caches.composites after.caches.composites later.composites

module _ (renderer : RendererView) (t : ℤ) (size : Size) (frame : Frame) where
  tried_frame : (pass after : RenderView) → AreNumbered renderer.caches → IsTriedFrame renderer pass after t size frame → IsFrameAsked renderer pass after (history_of after.track.seen) t size frame
  tried_frame pass after numbered h = record {
    is = h.is_frame;
    asked =
        let keys = keys_needed h.is_frame.draws in
        let all = pinned_asks equal_composites composite_meaning renderer.caches.composites pass.caches.composites after.caches.composites (plan_keys h.is_frame.draws) h.pinned.pins h.pinned.pinned numbered.composites in
        omega (arith, keys, all);
  }

  -- behind a try
  rendered_frame : (pass tried after : RenderView) → AreLater pass.caches tried.caches → IsRenderedFrame renderer tried after t size frame → IsFrameAsked renderer pass after (history_of after.track.seen) t size frame
  rendered_frame pass tried after later h = record {
    is = h.is_frame;
    asked =
        let keys = keys_needed h.is_frame.draws in
        let before = asked_later renderer pass tried later in
        let many = h.leased.all.as_many in
        let asks = visits_ask renderer.caches.composites.tag h.leased.visits h.leased.all.had in
        let added = visits_added renderer.caches tried.caches after.caches h.leased.visits h.leased.adds in
        omega (arith, keys, before, many, asks, added);
  }

pub soon_asked : {E : Type 0} (renderer : RendererView) (pass after : RenderView) (t : ℤ) (size : Size) (answer : Result Frame E) → AreNumbered renderer.caches → IsTriedThenRendered renderer pass after t size answer
    → IfOk answer (IsFrameAsked renderer pass after (history_of after.track.seen) t size)
soon_asked renderer pass after t size (Ok frame) numbered h = ⊎_elim
    (λ tried. tried_frame renderer t size frame pass after numbered tried)
    (λ then. rendered_frame renderer t size frame pass (record pass { caches = then.between }) after (nothing_later renderer pass.caches then.between then.refused.nothing) then.rendered)
    h
soon_asked renderer pass after t size (Err refused) numbered h = tt

-- the image of a frame, whatever is given back behind it
pub image_asked : {E : Type 0} (play : PlayView) (renderer : RendererView) (pass framed after : RenderView) (history : List Entry) (t : ℤ) (draws : List Draw) (result : Result (Vec ℕ Global) E)
    → masks_asked renderer pass + masks_needed draws ≤ masks_asked renderer framed → AreLater framed.caches after.caches
    → IfOk result (λ image. IsImageOfDraws play history t draws image.items) → IfOk result (λ image. IsImageAsked play renderer pass after history t image.items)
image_asked play renderer pass framed after history t draws (Ok image) asked later h = record {
  is = h.is;
  asked = let needed = h.needed in let more = asked_later renderer framed after later in omega (arith, asked, needed, more);
}
image_asked play renderer pass framed after history t draws (Err refused) asked later h = tt
