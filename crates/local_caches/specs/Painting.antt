-- Public: what is painted of a plan for which memory ran out.
use Rattle.std.specs.Prelude.{◌≡◌, List, ◌++◌, fold}
use Rattle.bdf_font.specs.Fonts.{FontValue}
use Rattle.blend.specs.Canvases.{CanvasValue}
use Rattle.mask_keys.specs.declared.plans.Draw.{Draw}
use Rattle.mask_keys.specs.Pictures.{with_draw}

-- some of the draws, from the first on, each whole
pub record IsFrontPainted (fonts : List FontValue) (draws : List Draw) (old new : CanvasValue) : Type 0 where
  pub front : List Draw
  pub back : List Draw
  pub is : draws ≡ front ++ back
  pub painted : new ≡ fold (with_draw fonts) old front
