use Rattle.std.proofs.Common.{◌≡◌, ℕ, [], true, false, Bool, Option, Some, None, cond, refl, arith}
use Rattle.std.specs.Prelude.{is_none, nat_lt, option_and_then}
use Rattle.sfnt_font.specs.declared.font.SfntFont.{SfntFont}
use Rattle.sfnt_glyphs.specs.declared.drawn.Drawn.{Drawn}
use Rattle.sfnt_glyphs.specs.declared.drawn.Room.{Room}
use Rattle.sfnt_glyphs.specs.declared.stretch.Stretch.{Stretch}
use Rattle.sfnt_glyphs.specs.Metrics.{bearing_of}
use Rattle.sfnt_glyphs.specs.Glyphs.{contours_of, contours_or_none, drawn_or_blank, glyph_drawn, glyph_stretch, is_blank_glyph, max_depth, shifted_contours}
use Rattle.sfnt_glyphs.proofs.ContourBounds.{contours_within}
use Rattle.sfnt_glyphs.proofs.laws.glyphs_are_total.Goals as goal

abbrev no_room : Room
no_room = record { points = 0; parts = 0 }

blank_drawn : (font : SfntFont) (g : ℕ) (draw : ℕ → Room → Option Drawn) (o : Option Stretch) (b : Bool) → is_none o ≡ true →
    contours_or_none (option_and_then shifted_contours (cond b (drawn_or_blank draw font.bytes (bearing_of font g) o no_room) None)) ≡ []
blank_drawn font g draw None true h = refl
blank_drawn font g draw None false h = refl
blank_drawn font g draw (Some stretch) b h = absurd (grind (arith, h))

blank_has_none : (font : SfntFont) (g : ℕ) → is_blank_glyph font g ≡ true → contours_of font g ≡ []
unfolding glyph_drawn
blank_has_none font g h = blank_drawn font g (glyph_drawn font max_depth) (glyph_stretch font g) (nat_lt g font.numbers.glyphs) h

pub returns : goal.returns
returns c = λ font g. (contours_within font g, blank_has_none font g)
