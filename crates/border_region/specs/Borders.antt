-- Inner: a widened region that grows row by row: what is known before row j.
use Rattle.std.specs.Prelude.{◌≡◌, ℕ, ℤ, Bool, true, false}
use Rattle.ass_num.specs.Regions.{RegionValue, member}
use Rattle.region_rows.specs.Grown.{IsGrown}
use Rattle.region_rows.specs.Widened.{in_widened}
use Rattle.border_region.specs.Ellipse.{AreFalling, AreHalfWidths}
use Rattle.border_region.specs.Frontier.{IsFrontier}
use Rattle.border_region.specs.Held.{AreStripSpans, IsInStrips}
use Rattle.border_region.specs.StripRows.{AreLive}
use Rattle.border_region.specs.declared.border.Border.{Border}
use Rattle.border_region.specs.declared.border.StripBorder.{StripBorder}
use Rattle.border_region.specs.declared.wide_strips.WideStrips.{WideStrips}

pub record HasWidened (region : RegionValue) (rx ry : ℕ) (j : ℤ) (border : Border) : Type 0 where
  pub across : border.ellipse.rx ≡ rx
  pub down : border.ellipse.ry ≡ ry
  pub above : IsFrontier region true border.above.items
  pub below : IsFrontier region false border.below.items
  pub falling : AreFalling border.ellipse.half_widths.items
  pub widths : AreHalfWidths rx ry border.ellipse.half_widths.items
  pub grown : IsGrown (in_widened (member region.top region.rows) rx ry) j border.growth

-- and the same from widened strips; the samples that are wanted are those that the strips hold
pub record HasUnited (wide : WideStrips) (j : ℤ) (border : StripBorder) : Type 0 where
  pub wanted : ℤ → ℤ → Bool
  pub are_held : (i k : ℤ) → wanted i k ≡ true → IsInStrips wide.spans.items wide.runs i k
  pub held : (i k : ℤ) → IsInStrips wide.spans.items wide.runs i k → wanted i k ≡ true
  pub spans : AreStripSpans wide.spans.items wide.runs
  pub live : AreLive j wide.spans.items border.rows.begun border.rows.live.items
  pub grown : IsGrown wanted j border.growth
