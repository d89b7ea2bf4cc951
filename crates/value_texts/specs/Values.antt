-- Public: what the text of a value says (docs/PROGRAM.md).
use Rattle.std.specs.Prelude.{ℕ, ◌==◌, ◌≤◌, ◌&&◌, Bool, ℤ, pos, neg_ℤ, List, [], ◌∷◌, length, nat_le, nat_lt, Option, Some, None, if◌then◌else◌, codes, option_and_then, option_map}
use Rattle.std.specs.Char.{is_ascii_digit}
use Rattle.std.specs.List.{after_first, before_first, list_all, list_any}
use Rattle.std.specs.Str.{bytes_eq}
use Rattle.ass_num.specs.Limits.{max_frame_side}
use Rattle.ass_num.specs.Numerals.{number_of}
use Rattle.ass_num.specs.declared.size.Size.{Size}
use Rattle.ass_script.specs.Words.{is_comma}
use Rattle.frame_rate.specs.Rates.{max_rate_frames}
use Rattle.frame_rate.specs.declared.rate.FrameRate.{FrameRate}
use Rattle.frame_view.specs.Limits.{max_aspect_parts, max_layout_side}
use Rattle.frame_view.specs.declared.view.LetterWidth.{LetterWidth}
use Rattle.frame_view.specs.declared.view.LetterWidth.TheVariants.{Canvas, Aspect}
use Rattle.frame_view.specs.declared.view.PixelAspect.{PixelAspect}
use Rattle.frame_view.specs.declared.view.PixelRect.{PixelRect}

-- the number is from `least` to `most`
abbrev pub IsNumberBetween : ℕ → ℕ → ℕ → Type 0
IsNumberBetween least most n = (least ≤ n) × (n ≤ most)

-- the most digits of a number
abbrev pub max_digits : ℕ
max_digits = 13

-- from one to thirteen decimal digits
abbrev pub is_number : List ℕ → Bool
is_number text = nat_lt 0 (length text) && (nat_le (length text) max_digits && list_all is_ascii_digit text)

-- the number that a text is
abbrev pub number_in : List ℕ → Option ℕ
number_in text = if is_number text then Some (number_of 10 text) else None

-- the same, from `least` to `most`
abbrev pub number_within : ℕ → ℕ → List ℕ → Option ℕ
number_within least most text =
    option_and_then (λ number. if nat_le least number && nat_le number most then Some number else None) (number_in text)

abbrev pub is_x : ℕ → Bool
is_x c = c == 120

-- two sides from 1 to the largest one, before and behind an `x`
abbrev pub sides_in : ℕ → List ℕ → List ℕ → Option Size
sides_in most columns rows =
    option_and_then (λ w. option_map (λ h. record { w = w; h = h }) (number_within 1 most rows)) (number_within 1 most columns)

-- the size that a text is, at its first `x`
abbrev pub size_within : ℕ → List ℕ → Option Size
size_within most text = if list_any is_x text then sides_in most (before_first is_x text) (after_first is_x text) else None

-- that of a frame, and of a video
abbrev pub size_in : List ℕ → Option Size
size_in text = size_within max_frame_side text

abbrev pub storage_in : List ℕ → Option Size
storage_in text = size_within max_layout_side text

abbrev pub is_slash : ℕ → Bool
is_slash c = c == 47

-- the shape of a pixel, before and behind a `/`
abbrev pub shape_in : List ℕ → List ℕ → Option PixelAspect
shape_in wide high =
    option_and_then (λ n. option_map (λ d. record { wide = n; high = d }) (number_within 1 max_aspect_parts high)) (number_within 1 max_aspect_parts wide)

abbrev pub aspect_in : List ℕ → Option PixelAspect
aspect_in text = if list_any is_slash text then shape_in (before_first is_slash text) (after_first is_slash text) else None

-- a column or a row of the frame
abbrev pub column_in : List ℕ → Option ℤ
column_in text = option_map (λ n. pos n) (number_within 0 max_frame_side text)

-- the same, or one of what lies around the frame: below 0 with a `-` before its number
abbrev pub pixel_in : List ℕ → Option ℤ
pixel_in [] = None
pixel_in (c ∷ text) = if c == 45 then option_map neg_ℤ (column_in text) else column_in (c ∷ text)

abbrev pub rect_at : Option ℤ → Option ℤ → Option Size → Option PixelRect
rect_at left top size =
    option_and_then (λ x. option_and_then (λ y. option_map (λ (s : Size). record { left = x; top = y; w = s.w; h = s.h }) size) top) left

-- its left before the first comma, its top up to the next one, and then its size
abbrev pub rect_behind : Option ℤ → List ℕ → Option PixelRect
rect_behind left text = if list_any is_comma text then rect_at left (pixel_in (before_first is_comma text)) (size_in (after_first is_comma text)) else None

abbrev pub content_in : List ℕ → Option PixelRect
content_in text = if list_any is_comma text then rect_behind (pixel_in (before_first is_comma text)) (after_first is_comma text) else None

abbrev pub letters_in : List ℕ → Option LetterWidth
letters_in text = if bytes_eq text (codes "script") then Some Canvas else (if bytes_eq text (codes "aspect") then Some Aspect else None)

-- frames in seconds
abbrev pub rate_of : List ℕ → List ℕ → Option FrameRate
rate_of frames seconds =
    option_and_then (λ n. option_map (λ d. record { frames = n; seconds = d }) (number_within 1 max_rate_frames seconds)) (number_within 1 max_rate_frames frames)

-- the frames before the first `/`, and the seconds behind it
abbrev pub rate_parted : List ℕ → Option FrameRate
rate_parted text = if list_any is_slash text then rate_of (before_first is_slash text) (after_first is_slash text) else None

abbrev pub frames_or : Option ℕ → Option FrameRate → Option FrameRate
frames_or None parted = parted
frames_or (Some n) parted = Some (record { frames = n; seconds = 1 })

-- the rate that a text is: so many frames in one second, or in so many
abbrev pub rate_in : List ℕ → Option FrameRate
rate_in text = frames_or (number_within 1 max_rate_frames text) (rate_parted text)
