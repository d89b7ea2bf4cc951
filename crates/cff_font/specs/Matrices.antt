-- Public: the matrices that DICTs give, and what they do to the points of glyphs (Adobe Technical Note 5176, "Top DICT Data", FontMatrix).
use Rattle.std.specs.Prelude.{ℕ, ◌+◌, ◌*◌, ◌/◌, Bool, ◌==◌, nat_lt, if◌then◌else◌, List, [], ◌∷◌, Option, Some, None, option_map, option_and_then, ℤ, pos, neg_ℤ, ◌+ℤ◌, ◌-ℤ◌, ◌*ℤ◌, unsigned_abs}
use Rattle.std.specs.Ordering.{int_eq}
use Rattle.ass_num.specs.declared.geometry.Point.{Point}
use Rattle.ass_num.specs.Floor.{floor_div, held}
use Rattle.ass_num.specs.Limits.{IsWithin}
use Rattle.font_bytes.specs.Bytes.{u8_at}
use Rattle.outline_points.specs.declared.stroke.Stroke.{Stroke}
use Rattle.outline_points.specs.declared.stroke.Stroke.TheVariants.{Line, Curve}
use Rattle.cff_font.specs.declared.decimals.Decimal.{Decimal}
use Rattle.cff_font.specs.declared.decimals.FontMatrix.{FontMatrix}
use Rattle.cff_font.specs.declared.read.CffFont.{CffFont}
use Rattle.cff_font.specs.declared.read.FontDicts.{FontDicts}
use Rattle.cff_font.specs.declared.tokens.Span.{Span}
use Rattle.cff_font.specs.declared.tokens.Token.{Token}
use Rattle.cff_font.specs.declared.tokens.Token.TheVariants.{Number}
use Rattle.cff_font.specs.Dicts.{dict_token, operands_of}
use Rattle.cff_font.specs.Reals.{decimal_one, max_decimal, real_between}
use Rattle.cff_font.specs.Strokes.{glyph_coordinate, point_of}
use Rattle.cff_font.specs.Subroutines.{glyph_dict}

-- the operator FontMatrix, 12 7
abbrev pub matrix_code : ℕ
matrix_code = 3079

-- ---- the matrix of a DICT, in 10^-15

-- a whole number
abbrev pub whole_decimal : ℤ → ℤ
whole_decimal value = held (neg_ℤ (pos max_decimal)) (pos max_decimal) (value *ℤ pos decimal_one)

-- the number whose first byte is b, and which is whole but for a real one
abbrev pub decimal_by : List ℕ → ℕ → ℕ → ℤ → ℕ → Decimal
decimal_by bytes at b value behind = record { value = if b == 30 then real_between bytes (at + 1) behind else whole_decimal value; behind = behind }

abbrev pub decimal_by_token : List ℕ → ℕ → Option Token → Option Decimal
decimal_by_token bytes at (Some (Number value behind)) = Some (decimal_by bytes at (u8_at bytes at) value behind)
decimal_by_token bytes at _ = None

-- the number at a place of a DICT that ends at `stop`
abbrev pub decimal_at : List ℕ → ℕ → ℕ → Option Decimal
decimal_at bytes stop at = decimal_by_token bytes at (dict_token bytes stop at)

-- the matrix whose six numbers begin at a place
abbrev pub matrix_at : List ℕ → ℕ → ℕ → Option FontMatrix
matrix_at bytes stop at =
    option_and_then (λ xx.
    option_and_then (λ yx.
    option_and_then (λ xy.
    option_and_then (λ yy.
    option_and_then (λ x.
    option_map (λ y. record { xx = xx.value; yx = yx.value; xy = xy.value; yy = yy.value; x = x.value; y = y.value })
    (decimal_at bytes stop x.behind))
    (decimal_at bytes stop yy.behind))
    (decimal_at bytes stop xy.behind))
    (decimal_at bytes stop yx.behind))
    (decimal_at bytes stop xx.behind))
    (decimal_at bytes stop at)

abbrev pub squared : ℤ → ℕ
squared z = unsigned_abs z * unsigned_abs z

-- the area that a square of area 1 has behind a matrix
abbrev pub area_behind : FontMatrix → ℕ
area_behind m = unsigned_abs ((m.xx *ℤ m.yy) -ℤ (m.xy *ℤ m.yx))

-- what is stretched by as much, or more, to 1 counts as flat
abbrev pub too_narrow : ℕ
too_narrow = 51

-- whether a square behind a matrix is neither flat nor too narrow, as FreeType asks (FT_Matrix_Check)
abbrev pub keeps_area : FontMatrix → Bool
keeps_area m = nat_lt (squared m.xx + squared m.yx + squared m.xy + squared m.yy) (too_narrow * area_behind m)

abbrev pub matrix_if : FontMatrix → Option FontMatrix
matrix_if m = if keeps_area m then Some m else None

-- The matrix of a DICT. One of fewer than six numbers, or that doesn't keep areas, isn't one.
abbrev pub dict_matrix : List ℕ → Span → Option FontMatrix
dict_matrix bytes dict =
    option_and_then (λ operands. option_and_then matrix_if (matrix_at bytes dict.to operands.from)) (operands_of bytes dict matrix_code)

-- ---- the matrix of a glyph, in 1/65,536

-- the most that a number of it is, below 0 too: 65,536
abbrev pub max_share : ℕ
max_share = 4294967296

abbrev pub held_share : ℤ → ℤ
held_share z = held (neg_ℤ (pos max_share)) (pos max_share) z

-- The em of a font by its matrix: heights are counted in it, or where upright lines lie level widths.
abbrev pub matrix_em : FontMatrix → ℕ
matrix_em m = if int_eq m.yy (pos 0) then unsigned_abs m.yx else unsigned_abs m.yy

-- a number by that of an em, rounded to the nearest
abbrev pub em_share : ℕ → ℤ → ℤ
em_share em z = held_share (floor_div (z *ℤ pos 65536 +ℤ pos (em / 2)) (pos em))

-- A matrix by its em. A scale alone changes nothing.
abbrev pub normalized : FontMatrix → FontMatrix
normalized m = let em = matrix_em m in record { xx = em_share em m.xx; yx = em_share em m.yx; xy = em_share em m.xy; yy = em_share em m.yy; x = em_share em m.x; y = em_share em m.y }

-- the matrix that gives an em its units
abbrev pub em_matrix : ℕ → FontMatrix
em_matrix units = record { xx = pos (units * 65536); yx = pos 0; xy = pos 0; yy = pos (units * 65536); x = pos 0; y = pos 0 }

-- a sum of two products of 1/65,536 and 10^-15, rounded to the nearest
abbrev pub product_share : ℤ → ℤ → ℤ → ℤ → ℤ
product_share a b c d = held_share (floor_div ((a *ℤ b) +ℤ (c *ℤ d) +ℤ pos 500000000000000) (pos decimal_one))

-- The matrix of a font DICT, and then another one, whose own shift counts nothing then.
abbrev pub matrix_product : FontMatrix → FontMatrix → FontMatrix
matrix_product m own = record {
  xx = product_share m.xx own.xx m.xy own.yx;
  yx = product_share m.yx own.xx m.yy own.yx;
  xy = product_share m.xx own.xy m.xy own.yy;
  yy = product_share m.yx own.xy m.yy own.yy;
  x = product_share m.xx own.x m.xy own.y;
  y = product_share m.yx own.x m.yy own.y;
}

-- the matrix of a glyph by that of the Top DICT and that of its font DICT, in a font whose em has so many units
abbrev pub matrix_by : ℕ → Option FontMatrix → Option FontMatrix → Option FontMatrix
matrix_by units None None = None
matrix_by units (Some top) None = Some (normalized top)
matrix_by units None (Some own) = Some (matrix_product (em_matrix units) own)
matrix_by units (Some top) (Some own) = Some (matrix_product (normalized top) own)

-- the matrix of the font DICT of a glyph, where there are any
abbrev pub own_matrix : List ℕ → CffFont → ℕ → Option FontDicts → Option FontMatrix
own_matrix bytes font g None = None
own_matrix bytes font g (Some dicts) = option_and_then (dict_matrix bytes) (glyph_dict bytes font g (Some dicts))

abbrev pub glyph_matrix : List ℕ → CffFont → ℕ → ℕ → Option FontMatrix
glyph_matrix bytes font units g = matrix_by units (dict_matrix bytes font.top) (own_matrix bytes font g font.dicts)

-- ---- points behind a matrix

-- a coordinate, rounded to the nearest, that isn't too far from 0
abbrev pub transformed : ℤ → ℤ → ℤ → ℤ → ℤ → Option ℤ
transformed a x b y shift = glyph_coordinate (floor_div ((a *ℤ x) +ℤ (b *ℤ y) +ℤ pos 32768) (pos 65536) +ℤ shift)

abbrev pub transformed_point : FontMatrix → Point → Option Point
transformed_point m p = point_of (transformed m.xx p.x m.xy p.y m.x) (transformed m.yx p.x m.yy p.y m.y)

abbrev pub transformed_stroke : FontMatrix → Stroke → Option Stroke
transformed_stroke m (Line p) = option_map Line (transformed_point m p)
transformed_stroke m (Curve p q r) =
    option_and_then (λ a. option_and_then (λ b. option_map (Curve a b) (transformed_point m r)) (transformed_point m q)) (transformed_point m p)

-- what each of a list becomes; nothing where one becomes nothing
abbrev pub all_or_none : {X Y : Type 0} → (X → Option Y) → List X → Option (List Y)
all_or_none f [] = Some []
all_or_none f (x ∷ xs) = option_and_then (λ first. option_map (λ others. first ∷ others) (all_or_none f xs)) (f x)

-- all strokes of a contour; nothing where one is too far from 0
abbrev pub transformed_contour : FontMatrix → List Stroke → Option (List Stroke)
transformed_contour m contour = all_or_none (transformed_stroke m) contour

-- all contours; nothing where a stroke is too far from 0
abbrev pub transformed_contours : FontMatrix → List (List Stroke) → Option (List (List Stroke))
transformed_contours m contours = all_or_none (transformed_contour m) contours

-- contours behind the matrix of their glyph, if it has one
abbrev pub contours_behind : Option FontMatrix → List (List Stroke) → Option (List (List Stroke))
contours_behind None contours = Some contours
contours_behind (Some m) contours = transformed_contours m contours

-- the numbers of a matrix in a DICT, and of one of a glyph
pub record IsDictMatrix (m : FontMatrix) : Type 0 where
  pub xx : IsWithin max_decimal m.xx
  pub yx : IsWithin max_decimal m.yx
  pub xy : IsWithin max_decimal m.xy
  pub yy : IsWithin max_decimal m.yy
  pub x : IsWithin max_decimal m.x
  pub y : IsWithin max_decimal m.y

pub record IsGlyphMatrix (m : FontMatrix) : Type 0 where
  pub xx : IsWithin max_share m.xx
  pub yx : IsWithin max_share m.yx
  pub xy : IsWithin max_share m.xy
  pub yy : IsWithin max_share m.yy
  pub x : IsWithin max_share m.x
  pub y : IsWithin max_share m.y
