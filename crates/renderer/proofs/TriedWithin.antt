-- What tries in a row make of a pass.
use Rattle.std.proofs.Common.{◌≡◌, ℕ, ◌+◌, ◌<◌, ℤ, true, List, [], length, Result, Ok, Err, sym, subst, arith}
use Rattle.std.specs.Result.{IfOk, OnErr}
use Rattle.ass_num.specs.declared.size.Size.{Size}
use Rattle.turn_cell.specs.Passes.{Follows}
use Rattle.turn_cell.proofs.Passes.{Follows_trans, Follows_tries}
use Rattle.track_history.specs.Calls.{IsFed, TrackView}
use Rattle.track_history.specs.declared.answers.Feed.{Feed}
use Rattle.track_history.specs.declared.answers.TrackEntry.{TrackEntry}
use Rattle.track_history.proofs.LawLemmas.{fed_gives, turn_alone}
use Rattle.mask_caches.proofs.KeysWarmed.{before-then}
use Rattle.renderer.specs.Holding.{HoldsJustTheFrame, HoldsTheSame, IsHomeFrame}
use Rattle.renderer.specs.OneHistory.{ShowsOneHistory}
use Rattle.renderer.specs.Passes.{IsPassOfRenderer, RenderView, RendererView}
use Rattle.renderer.specs.ShownFrames.{leases_of}
use Rattle.renderer.specs.Trying.{IsTried}
use Rattle.renderer.specs.Within.{AreRefusedTries, IsTriedWithin, is_again}
use Rattle.renderer.specs.declared.frames.Frame.{Frame}
use Rattle.renderer.specs.declared.trying.Again.{Again}
use Rattle.renderer.specs.declared.trying.Again.TheVariants as again
use Rattle.renderer.specs.declared.trying.TryRefusal.{TryRefusal}
use Rattle.renderer.specs.declared.trying.TryRefusal.TheVariants as refusal
use Rattle.renderer.proofs.TriedFirst.{leases-behind}

-- a try gives the track no entry
pub tried-alone : (renderer : RendererView) (pass after : RenderView) (t : ℤ) (size : Size) (result : Result Frame TryRefusal) → IsTried renderer pass after t size result → Follows pass.track after.track []
tried-alone renderer pass after t size (Ok frame) h = turn_alone pass.track after.track h.turn
tried-alone renderer pass after t size (Err (refusal.Again again.Track)) h = Follows_tries pass.track after.track (pass.track.lost + 1) (omega arith) h.track
tried-alone renderer pass after t size (Err (refusal.Again again.Cache)) h = turn_alone pass.track after.track h.turn
tried-alone renderer pass after t size (Err (refusal.Again (again.NotReady place))) h = turn_alone pass.track after.track h.turn
tried-alone renderer pass after t size (Err (refusal.Again (again.Making place))) h = turn_alone pass.track after.track h.turn
tried-alone renderer pass after t size (Err (refusal.Again (again.PinsFull place))) h = turn_alone pass.track after.track h.turn
tried-alone renderer pass after t size (Err refusal.OutOfMemory) h = turn_alone pass.track after.track h.turn

-- what is held behind tries that held as much
held-then : (renderer : RendererView) (pass before after : RenderView) (result : Result Frame TryRefusal) → HoldsTheSame renderer pass before → HoldsJustTheFrame renderer before after result → HoldsJustTheFrame renderer pass after result
held-then renderer pass before after (Ok frame) same had = leases-behind renderer.caches pass.caches before.caches after.caches (leases_of frame.images) same had
held-then renderer pass before after (Err refused) same had = before-then renderer.caches pass.caches before.caches after.caches same had

-- what a call by so many tries makes of a pass
pub record IsHadWithin (renderer : RendererView) (t : ℤ) (size : Size) (pass after : RenderView) (tries : ℕ) (result : Result Frame TryRefusal) : Type 0 where
  pub of : IsPassOfRenderer renderer after
  pub track : Follows pass.track after.track []
  pub tried : IsTriedWithin renderer t size pass after tries result
  pub holds : HoldsJustTheFrame renderer pass after result
  pub home : IfOk result (IsHomeFrame renderer)

pub had-within : (renderer : RendererView) (t : ℤ) (size : Size) (pass before after : RenderView) (tries n : ℕ) (result : Result Frame TryRefusal)
    → (causes : List Again) × (length causes ≡ n) × AreRefusedTries renderer t size causes pass before → n < tries → (is_again result ≡ true → tries ≡ n + 1) → Follows pass.track before.track [] → HoldsTheSame renderer pass before
    → IsPassOfRenderer renderer after → IsTried renderer before after t size result → IfOk result (ShowsOneHistory renderer before after t size) → HoldsJustTheFrame renderer before after result → IfOk result (IsHomeFrame renderer)
    → IsHadWithin renderer t size pass after tries result
had-within renderer t size pass before after tries n result refused few all follows same of tried shows holds home = record {
  of = of;
  track = Follows_trans pass.track before.track after.track [] [] follows (tried-alone renderer before after t size result tried);
  tried = record {
    causes = refused.0;
    waited = before;
    refused = refused.2;
    few = subst (λ (m : ℕ). m < tries) (sym refused.1) few;
    all = λ again. subst (λ (m : ℕ). tries ≡ m + 1) (sym refused.1) (all again);
    tried = tried;
    history = shows;
  };
  holds = held-then renderer pass before after result same holds;
  home = home;
}

-- what an offer by so many tries makes of a pass of the track
pub within-follows : {E : Type 0} (bytes : List ℕ) (start duration : ℤ) (pass later : TrackView) (n : ℕ) (answer : Result Feed E) → IfOk answer (IsFed bytes start duration pass later) → OnErr answer (later ≡ record pass { lost = pass.lost + n })
    → (given : List TrackEntry) × Follows pass later given
within-follows bytes start duration pass later n (Ok answer) fed out = let gives = fed_gives bytes start duration pass later answer fed in (gives.0, gives.2)
within-follows bytes start duration pass later n (Err refused) fed out = ([], Follows_tries pass later (pass.lost + n) (omega arith) out)
