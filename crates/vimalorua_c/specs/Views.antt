-- Public: what a frame is to a script, as C says it in numbers. Each number that is 0 says nothing, but those of the frame's size.
use Rattle.std.specs.Prelude.{◌≡◌, ℕ, ◌==◌, ◌&&◌, ◌≤◌, not, Bool, if◌then◌else◌, Option, Some, None, pos}
use Rattle.ass_num.specs.declared.size.Size.{Size}
use Rattle.frame_view.specs.FrameViews.{IsFrameView, plain_frame}
use Rattle.frame_view.specs.Limits.{whole_letter_scale}
use Rattle.frame_view.specs.declared.view.FrameView.{FrameView}
use Rattle.frame_view.specs.declared.view.LetterWidth.{LetterWidth}
use Rattle.frame_view.specs.declared.view.LetterWidth.TheVariants.{Canvas, Aspect}
use Rattle.frame_view.specs.declared.view.PixelAspect.{PixelAspect}
use Rattle.frame_view.specs.declared.view.PixelRect.{PixelRect}
use Rattle.vimalorua_c.specs.declared.views.ViewNumbers.{ViewNumbers}

abbrev pub content_numbered : ViewNumbers → Option PixelRect
content_numbered v =
    if v.content_w == 0 && v.content_h == 0 then None else Some (record { left = v.left; top = v.top; w = v.content_w; h = v.content_h })

abbrev pub storage_numbered : ViewNumbers → Option Size
storage_numbered v = if v.storage_w == 0 && v.storage_h == 0 then None else Some (record { w = v.storage_w; h = v.storage_h })

abbrev pub aspect_numbered : ViewNumbers → Option PixelAspect
aspect_numbered v = if v.aspect_wide == 0 && v.aspect_high == 0 then None else Some (record { wide = v.aspect_wide; high = v.aspect_high })

abbrev pub letters_numbered : ℕ → LetterWidth
letters_numbered n = if n == 0 then Canvas else Aspect

abbrev pub scale_numbered : ℕ → ℕ
scale_numbered n = if n == 0 then whole_letter_scale else n

-- the view that numbers say
abbrev pub view_numbered : ViewNumbers → FrameView
view_numbered v = record {
  size = record { w = v.w; h = v.h };
  content = content_numbered v;
  storage = storage_numbered v;
  aspect = aspect_numbered v;
  letters = letters_numbered v.letters;
  scale = scale_numbered v.scale;
  bars = not (v.use_bars == 0);
}

-- how many bytes the numbers of a frame's size end at
abbrev pub least_view_bytes : ℕ
least_view_bytes = 16

-- The numbers say a view: those of the size are there, the choices are choices, what means nothing is 0, and all is within its limits.
pub record AreViewNumbers (v : ViewNumbers) : Type 0 where
  pub some : least_view_bytes ≤ v.size
  pub letters : v.letters ≤ 1
  pub bars : v.use_bars ≤ 1
  pub unused : v.unused ≡ 0
  pub view : IsFrameView (view_numbered v)

-- ---- a law

-- the numbers of a size, and nothing more
abbrev pub size_numbers : ℕ → Size → ViewNumbers
size_numbers bytes size = record {
  size = bytes;
  w = size.w;
  h = size.h;
  left = pos 0;
  top = pos 0;
  content_w = 0;
  content_h = 0;
  storage_w = 0;
  storage_h = 0;
  aspect_wide = 0;
  aspect_high = 0;
  letters = 0;
  scale = 0;
  use_bars = 0;
  unused = 0;
}

-- They say the view of that size alone.
abbrev pub SizesAreSizesAlone : Type 0
SizesAreSizesAlone = (bytes : ℕ) (size : Size) → view_numbered (size_numbers bytes size) ≡ plain_frame size
