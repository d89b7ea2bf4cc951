-- Public: what a call that tries for a frame so often gives.
use Rattle.std.specs.Prelude.{◌≡◌, ◌+◌, ◌<◌, ℕ, ℤ, Bool, true, false, List, [], ◌∷◌, length, Result, Ok, Err}
use Rattle.std.specs.Result.{IfOk}
use Rattle.ass_num.specs.declared.size.Size.{Size}
use Rattle.renderer.specs.OneHistory.{ShowsOneHistory}
use Rattle.renderer.specs.Passes.{RenderView, RendererView}
use Rattle.renderer.specs.Trying.{IsTried}
use Rattle.renderer.specs.declared.frames.Frame.{Frame}
use Rattle.renderer.specs.declared.trying.Again.{Again}
use Rattle.renderer.specs.declared.trying.TryRefusal.{TryRefusal}
use Rattle.renderer.specs.declared.trying.TryRefusal.TheVariants as refusal

-- there is a cause to try again
abbrev pub is_again : Result Frame TryRefusal → Bool
is_again (Ok frame) = false
is_again (Err (refusal.Again cause)) = true
is_again (Err refusal.OutOfMemory) = false

module _ (renderer : RendererView) (t : ℤ) (size : Size) where
  -- Tries in a row, each refused for a cause to try again, so that it added nothing; the last cause is the first of the list
  abbrev pub AreRefusedTries : List Again → RenderView → RenderView → Type 0
  AreRefusedTries [] pass after = after ≡ pass
  AreRefusedTries (cause ∷ causes) pass after = (between : RenderView) × AreRefusedTries causes pass between × IsTried renderer between after t size (Err (refusal.Again cause))

  -- Some tries were refused, and the last one came to the result; there is a cause to try again only where all tries were made.
  -- A frame shows the one history to the pass as it was behind the refused tries
  pub record IsTriedWithin (pass after : RenderView) (tries : ℕ) (result : Result Frame TryRefusal) : Type 0 where
    pub causes : List Again
    pub waited : RenderView
    pub refused : AreRefusedTries causes pass waited
    pub few : length causes < tries
    pub all : is_again result ≡ true → tries ≡ length causes + 1
    pub tried : IsTried renderer waited after t size result
    pub history : IfOk result (ShowsOneHistory renderer waited after t size)
