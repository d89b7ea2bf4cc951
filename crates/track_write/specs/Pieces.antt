-- Inner: what the fields of a line that a call handles say.
use Rattle.std.specs.Prelude.{ℕ, List, ◌∷◌, codes}
use Rattle.std.specs.Fmt.{decimal, signed_decimal}
use Rattle.std.specs.Int.RustNames.{unsigned_abs}
use Rattle.ass_num.specs.Bytes.{comma}
use Rattle.track_write.specs.Spelling.{milli_text, colour_text, flag_text, time_text}
use Rattle.track_write.specs.declared.pieces.Piece.{Piece}
use Rattle.track_write.specs.declared.pieces.Piece.TheVariants as piece

abbrev pub piece_text : Piece → List ℕ
piece_text (piece.Text part) = part.now
piece_text (piece.Whole number) = signed_decimal number.now
piece_text (piece.Small number) = decimal number
piece_text (piece.Milli number) = milli_text number.now
piece_text (piece.Colour colour) = colour_text colour
piece_text (piece.Flag flag) = flag_text flag
piece_text (piece.Time time) = time_text (unsigned_abs time.now)
piece_text piece.Encoding = codes "1"

-- a comma and a field
abbrev pub next_field : Piece → List ℕ
next_field piece = comma ∷ piece_text piece
