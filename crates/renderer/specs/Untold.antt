-- Public: what calls that try for a frame give which don't tell a mask that is being made from one that nobody makes.
use Rattle.std.specs.Prelude.{◌≡◌, ℕ, ℤ, Result, Ok, Err}
use Rattle.ass_num.specs.declared.size.Size.{Size}
use Rattle.renderer.specs.Passes.{RenderView, RendererView}
use Rattle.renderer.specs.Trying.{IsTried}
use Rattle.renderer.specs.Within.{IsTriedWithin}
use Rattle.renderer.specs.declared.frames.Frame.{Frame}
use Rattle.renderer.specs.declared.trying.Again.TheVariants as again
use Rattle.renderer.specs.declared.trying.TryRefusal.{TryRefusal}
use Rattle.renderer.specs.declared.trying.TryRefusal.TheVariants.{Again, OutOfMemory}

-- a mask that is being made isn't ready
abbrev pub untold_refusal : TryRefusal → TryRefusal
untold_refusal (Again again.Track) = Again again.Track
untold_refusal (Again again.Cache) = Again again.Cache
untold_refusal (Again (again.NotReady place)) = Again (again.NotReady place)
untold_refusal (Again (again.Making place)) = Again (again.NotReady place)
untold_refusal (Again (again.PinsFull place)) = Again (again.PinsFull place)
untold_refusal OutOfMemory = OutOfMemory

abbrev pub untold : Result Frame TryRefusal → Result Frame TryRefusal
untold (Ok frame) = Ok frame
untold (Err refusal) = Err (untold_refusal refusal)

module _ (renderer : RendererView) where
  -- the answer is that of the call that tells each cause, untold
  abbrev pub IsTriedUntold : RenderView → RenderView → ℤ → Size → Result Frame TryRefusal → Type 0
  IsTriedUntold pass after t size result = (told : Result Frame TryRefusal) × IsTried renderer pass after t size told × (result ≡ untold told)

  -- so it is with tries in a row
  abbrev pub IsTriedWithinUntold : ℤ → Size → RenderView → RenderView → ℕ → Result Frame TryRefusal → Type 0
  IsTriedWithinUntold t size pass after tries result = (told : Result Frame TryRefusal) × IsTriedWithin renderer t size pass after tries told × (result ≡ untold told)
