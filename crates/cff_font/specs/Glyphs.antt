-- Public: the contours of a glyph. They are a total function of the file's bytes: a broken glyph has none.
use Rattle.std.specs.Prelude.{ℕ, zero, suc, ◌-◌, Bool, true, ◌==◌, nat_le, if◌then◌else◌, List, [], Option, Some, None, option_and_then, option_map}
use Rattle.font_bytes.specs.Bytes.{u8_at}
use Rattle.cff_font.specs.declared.indexes.Index.{Index}
use Rattle.cff_font.specs.declared.machine.Machine.{Machine}
use Rattle.cff_font.specs.declared.read.CffFont.{CffFont}
use Rattle.outline_points.specs.declared.stroke.Stroke.{Stroke}
use Rattle.cff_font.specs.declared.tokens.Span.{Span}
use Rattle.cff_font.specs.declared.tokens.Token.{Token}
use Rattle.cff_font.specs.declared.tokens.Token.TheVariants.{Number, Operator}
use Rattle.cff_font.specs.Indexes.{item_at}
use Rattle.cff_font.specs.Machines.{charstring_token, first_machine, run}
use Rattle.cff_font.specs.Matrices.{contours_behind, glyph_matrix}
use Rattle.cff_font.specs.Pens.{closed_contours}
use Rattle.cff_font.specs.Subroutines.{local_subroutines}

-- a glyph has fewer numbers and operators
abbrev pub max_steps : ℕ
max_steps = 65536

-- what the machine drew
abbrev pub drawn_by : Machine → List (List Stroke)
drawn_by m = closed_contours m.pen.contours m.pen.contour

-- the contours of the charstring in these bytes, with these subroutines of its own
abbrev pub charstring_contours : List ℕ → CffFont → Span → Index → Option (List (List Stroke))
charstring_contours bytes font body own = option_map drawn_by (run bytes (record { shared = font.globals; own = own }) max_steps (first_machine body))

abbrev pub glyph_contours : List ℕ → CffFont → ℕ → Option (List (List Stroke))
glyph_contours bytes font g =
    option_and_then (λ body. option_and_then (charstring_contours bytes font body) (local_subroutines bytes font g)) (item_at bytes font.glyphs g)

abbrev pub contours_if_whole : Option (List (List Stroke)) → List (List Stroke)
contours_if_whole None = []
contours_if_whole (Some contours) = contours

-- The contours of glyph g of a font whose em has so many units, in 1/65,536 of a unit, y upwards, behind the glyph's matrix. Each begins with a line to its first point.
abbrev pub cff_contours : List ℕ → CffFont → ℕ → ℕ → List (List Stroke)
cff_contours bytes font units g = contours_if_whole (option_and_then (contours_behind (glyph_matrix bytes font units g)) (glyph_contours bytes font g))

-- ---- glyphs that draw nothing at sight

abbrev pub ends_by : (ℕ → Bool) → Option Token → Bool
ends_by rest None = true
ends_by rest (Some (Number value behind)) = rest behind
ends_by rest (Some (Operator code behind)) = code == 14

-- whether the first operator of a charstring is endchar, or there is none, from a place on with n bytes up to the end
unfoldable pub is_blank_from : List ℕ → ℕ → ℕ → ℕ → Bool
is_blank_from bytes stop zero at = true
is_blank_from bytes stop (suc n) at = if nat_le stop at then true else ends_by (is_blank_from bytes stop n) (charstring_token bytes stop at (u8_at bytes at))

abbrev pub is_blank_body : List ℕ → Option Span → Bool
is_blank_body bytes None = true
is_blank_body bytes (Some body) = is_blank_from bytes body.to (body.to - body.from) body.from

-- whether the charstring of glyph g draws nothing at sight
abbrev pub is_blank_at_sight : List ℕ → CffFont → ℕ → Bool
is_blank_at_sight bytes font g = is_blank_body bytes (item_at bytes font.glyphs g)
