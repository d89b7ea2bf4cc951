-- Public: a key's list of numbers, by which a cache puts it into one of its parts: its fields in order, each modulo 2^32.
-- A flag is 0 or 1. A choice begins with its number, counted from 0, and a list with its length.
use Rattle.std.specs.Prelude.{ℕ, ◌^◌, ◌==◌, ℤ, pos, Bool, ◌&&◌, List, [], ◌∷◌, ◌++◌, length, flat_map, unsigned_abs, if◌then◌else◌}
use Rattle.std.specs.Int.{int_rem_euclid}
use Rattle.ass_num.specs.declared.geometry.Matrix.{Matrix}
use Rattle.ass_num.specs.declared.geometry.Point.{Point}
use Rattle.ass_num.specs.declared.geometry.Seg.{Seg}
use Rattle.ass_num.specs.declared.geometry.Seg.TheVariants.{Move, Line, Cubic, Spline}
use Rattle.mask_keys.specs.declared.composite_key.CompositeKey.{CompositeKey}
use Rattle.mask_keys.specs.declared.composite_key.Part.{Part}
use Rattle.mask_keys.specs.declared.mask_key.MaskKey.{MaskKey}
use Rattle.mask_keys.specs.declared.outline_key.OutlineKey.{OutlineKey}
use Rattle.mask_keys.specs.declared.outline_key.OutlineKey.TheVariants.{Glyph, Drawing, Box}
use Rattle.mask_keys.specs.declared.region_key.RegionKey.{RegionKey}

abbrev pub word_of : ℤ → ℕ
word_of z = unsigned_abs (int_rem_euclid z (pos (2 ^ 32)))

abbrev pub flag_of : Bool → ℕ
flag_of b = if b then 1 else 0

-- a length modulo 2^32
abbrev pub length_word : {X : Type 0} → List X → ℕ
length_word xs = word_of (pos (length xs))

abbrev pub point_numbers : Point → List ℕ
point_numbers p = word_of p.x ∷ word_of p.y ∷ []

abbrev pub seg_numbers : Seg → List ℕ
seg_numbers (Move p) = 0 ∷ point_numbers p
seg_numbers (Line p) = 1 ∷ point_numbers p
seg_numbers (Cubic b c d) = 2 ∷ point_numbers b ++ point_numbers c ++ point_numbers d
seg_numbers (Spline controls closed) = 3 ∷ length_word controls ∷ flat_map point_numbers controls ++ flag_of closed ∷ []

abbrev pub matrix_numbers : Matrix → List ℕ
matrix_numbers m = word_of m.ux ∷ word_of m.uy ∷ flag_of m.italic ∷ word_of m.turn ∷ []

abbrev pub outline_numbers : OutlineKey → List ℕ
outline_numbers (Glyph font glyph m bold underline strikeout) =
    (0 ∷ font ∷ glyph ∷ matrix_numbers m) ++ (flag_of bold ∷ flag_of underline ∷ flag_of strikeout ∷ [])
outline_numbers (Drawing path m shift) =
    (1 ∷ length_word path.segs ∷ flat_map seg_numbers path.segs) ++ matrix_numbers m ++ word_of shift ∷ []
outline_numbers (Box w h turn) = 2 ∷ word_of w ∷ word_of h ∷ word_of turn ∷ []

-- A region that isn't widened has the numbers of its outline; a widened one is a fourth kind of outline.
abbrev pub region_numbers : RegionKey → List ℕ
region_numbers key =
    if (key.rx == 0) && (key.ry == 0) then outline_numbers key.outline else (3 ∷ outline_numbers key.outline) ++ (key.rx ∷ key.ry ∷ [])

abbrev pub mask_numbers : MaskKey → List ℕ
mask_numbers key = outline_numbers key.outline ++ (key.rx ∷ key.ry ∷ key.px ∷ key.py ∷ key.edges ∷ key.blur ∷ [])

abbrev pub part_numbers : Part → List ℕ
part_numbers part = mask_numbers part.mask ++ (word_of part.dx ∷ word_of part.dy ∷ [])

abbrev pub composite_numbers : CompositeKey → List ℕ
composite_numbers key = length_word key.parts ∷ flat_map part_numbers key.parts
