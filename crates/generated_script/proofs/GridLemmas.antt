-- The font of a selftest is within the ranges of fonts.
use Rattle.std.proofs.Common.{ℕ, [], map, ℤ, pos, arith}
use Rattle.std.specs.List.{range_with_len}
use Rattle.std.proofs.lemmas.Int.{ints}
use Rattle.std.proofs.lemmas.List.Elements.{All-cons, All-from_get_or, All-map}
use Rattle.std.proofs.lemmas.List.FromFn.{length-map-range_with_len}
use Rattle.bdf_font.specs.Fonts.{pixel_bar, strikeout_top}
use Rattle.bdf_font.specs.Ranges.{IsBar, IsBitmap, IsFont, IsGlyph, IsMeasure}
use Rattle.generated_script.specs.Grid.{blank, grid_font, letter, letter_rows, pixels, row_byte}

pub letter_bitmap : (n : ℕ) → IsBitmap (pixels 5 7 (letter_rows n))
letter_bitmap n = record {
  w = omega arith;
  h = omega arith;
  x = (omega (arith, ints), omega (arith, ints));
  y = (omega (arith, ints), omega (arith, ints));
  rows = length-map-range_with_len (row_byte n) 0 7;
}

pub blank_bitmap : IsBitmap (pixels 0 0 [])
blank_bitmap = record {
  w = omega arith;
  h = omega arith;
  x = (omega (arith, ints), omega (arith, ints));
  y = (omega (arith, ints), omega (arith, ints));
  rows = omega arith;
}

letter_is : (n : ℕ) → IsGlyph (letter n)
letter_is n = record { advance = (omega (arith, ints), omega (arith, ints)); shape = letter_bitmap n }

blank_is : IsGlyph blank
blank_is = record { advance = (omega (arith, ints), omega (arith, ints)); shape = blank_bitmap }

one_pixel_is : (top : ℤ) → IsMeasure top → IsBar (pixel_bar top)
one_pixel_is top within = record { top = within; size = (omega (arith, ints), omega (arith, ints)) }

pub grid_is : IsFont grid_font
grid_is = record {
  ascent = omega (arith, ints);
  ascent_most = omega (arith, ints);
  descent = omega (arith, ints);
  descent_most = omega (arith, ints);
  glyphs = All-cons IsGlyph blank (map letter (range_with_len 0 6)) blank_is
      (All-map IsGlyph letter (range_with_len 0 6) (All-from_get_or (λ n. IsGlyph (letter n)) (range_with_len 0 6) 0 (λ i lt. letter_is _)));
  few = omega arith;
  underline = one_pixel_is (pos 1) (omega (arith, ints), omega (arith, ints));
  strikeout = one_pixel_is (strikeout_top (pos 7)) (omega (arith, ints), omega (arith, ints));
  bold_step = (omega (arith, ints), omega (arith, ints));
}
