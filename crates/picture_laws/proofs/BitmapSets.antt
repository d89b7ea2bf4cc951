-- In a set of bitmaps alone each state has the first font of its name, and each character a glyph of that font or none.
use Rattle.std.proofs.Common.{◌≡◌, ◌∙◌, refl, sym, ap, ap₂, ℕ, ◌<◌, Bool, true, false, cond, not, ◌&&◌, List, [], length, Option, Some, None, option_and_then, ℤ, pos, ◌*ℤ◌, ◌+ℤ◌, arith}
use Rattle.std.proofs.Math.Bool.{and-true}
use Rattle.std.proofs.lemmas.Int.{ints}
use Rattle.std.specs.Prelude.{nat_lt, slice_get, slice_index_or}
use Rattle.std.specs.Option.{option_map_or}
use Rattle.ass_num.proofs.Floor.{floor_div-zero}
use Rattle.ass_num.specs.Floor.{floor_div}
use Rattle.ass_num.specs.Limits.{one_16}
use Rattle.ass_num.specs.declared.geometry.Matrix.{Matrix}
use Rattle.bdf_font.specs.Fonts.{FontValue, glyph_of}
use Rattle.bdf_font.specs.Laws.{BitmapsAreFoundByName, BitmapsKeepTheirGlyphs}
use Rattle.bdf_font.specs.Sets.{AreBitmapFonts, IsFoundByName, no_font, glyph_place_in, set_glyph_of}
use Rattle.bdf_font.specs.declared.sets.GlyphPlace.{GlyphPlace}
use Rattle.bdf_font.proofs.SetLemmas.{chosen_within}
use Rattle.frame_view.specs.declared.scales.Scales.{Scales}
use Rattle.mask_keys.specs.declared.outline_key.OutlineKey.{OutlineKey}
use Rattle.mask_keys.specs.declared.outline_key.OutlineKey.TheVariants.{Glyph}
use Rattle.override_tags.specs.declared.view.State.{State}
use Rattle.text_layout.specs.Extents.{char_extent, found_advance, glyph_advance, spacing_behind}
use Rattle.text_layout.specs.Fonts.{font_of_state, needs_slant, needs_bold_step, least_bold_weight}
use Rattle.text_layout.specs.Metrics.{HasFont, held_extent, metrics_of, scaled_pixels}
use Rattle.text_layout.specs.Scales.{text_matrix, turn_of}
use Rattle.text_layout.specs.declared.extents.Extent.{Extent}
use Rattle.text_layout.specs.declared.metrics.Metrics.{Metrics}
use Rattle.event_draws.specs.Marks.{glyph_outline, is_marked}
use Rattle.event_draws.specs.declared.stage.Stage.{Stage}
use Rattle.picture_laws.specs.BitmapSets.{AreDrawnAsNamed, own_extent, own_glyph_outline}

-- ---- one font

slants : (font : FontValue) (state : State) → IsFoundByName font → needs_slant font state ≡ state.italic
slants font state named = ap (λ (z : Bool). state.italic && not z) named.slanted ∙ and-true state.italic

widens : (font : FontValue) (state : State) → IsFoundByName font → needs_bold_step font state ≡ state.bold
widens font state named = ap (λ (z : ℕ). state.bold && nat_lt z least_bold_weight) named.weight ∙ and-true state.bold

none_wide : (scale : ℤ) → pos 0 ≡ scaled_pixels (pos 0) scale
none_wide scale =
    let none : pos 0 *ℤ scale ≡ pos 0 = omega (arith, ints) in
    sym (ap (λ (z : ℤ). floor_div z (pos one_16)) none ∙ floor_div-zero one_16 (omega arith))

-- ---- advances

module _ (fonts : List FontValue) (metrics : Metrics) (has : HasFont fonts metrics) where
  own_advance : (o : Option ℕ) → found_advance fonts metrics (glyph_place_in metrics.font o)
      ≡ scaled_pixels (option_map_or (glyph_advance (slice_index_or fonts metrics.font no_font).glyphs) o (pos 0)) metrics.ux
  own_advance None = none_wide metrics.ux
  own_advance (Some place) = ap (λ (z : ℤ). scaled_pixels (glyph_advance (slice_index_or fonts metrics.font no_font).glyphs place) z) (sym has.scale)

  own_extents : BitmapsKeepTheirGlyphs → AreBitmapFonts fonts → (ends_cluster : Bool) (c : ℕ)
      → char_extent fonts metrics ends_cluster c ≡ own_extent metrics (slice_index_or fonts metrics.font no_font) ends_cluster c
  own_extents keep bitmaps ends_cluster c =
      let glyph = glyph_of (slice_index_or fonts metrics.font no_font) c in
      let advance : found_advance fonts metrics (set_glyph_of fonts metrics.font c)
      ≡ scaled_pixels (option_map_or (glyph_advance (slice_index_or fonts metrics.font no_font).glyphs) glyph (pos 0)) metrics.ux =
      ap (found_advance fonts metrics) (keep fonts bitmaps metrics.font c) ∙ own_advance glyph in
      ap (λ (z : ℤ). let e : Extent = record { advance = held_extent (z +ℤ spacing_behind metrics ends_cluster); ascent = metrics.ascent; descent = metrics.descent } in e) advance

-- ---- outlines

module _ (stage : Stage) (fonts : List FontValue) (state : State) (number : ℕ) where
  -- the font at the place
  abbrev own : FontValue
  own = slice_index_or fonts number no_font

  -- the outline of a glyph that is slanted and bold or not
  abbrev outline_with : ℕ → Bool → Bool → Option OutlineKey
  outline_with place slanted widened =
      let m = text_matrix stage.scales own state in
      let matrix : Matrix = record { ux = m.ux; uy = m.uy; italic = slanted; turn = turn_of state.angle } in
      cond (option_map_or (is_marked state) (slice_get own.glyphs place) false) (Some (Glyph number place matrix widened state.underline state.strikeout)) None

  own_outline : IsFoundByName own → (o : Option ℕ) → option_and_then (glyph_outline stage fonts state) (glyph_place_in number o) ≡ option_and_then (own_glyph_outline stage state number own) o
  own_outline named None = refl
  own_outline named (Some place) = ap₂ (outline_with place) (slants own state named) (widens own state named)

-- ---- the law

pub drawn_as_named : BitmapsAreFoundByName → BitmapsKeepTheirGlyphs → (fonts : List FontValue) → 0 < length fonts → AreBitmapFonts fonts → AreDrawnAsNamed fonts
drawn_as_named found keep fonts some bitmaps =
    let by_name = λ (names : List (List ℕ)) (state : State). found fonts bitmaps (slice_index_or names state.font []) state.bold state.italic in
    record {
      metrics = λ scales names state. ap (λ (n : ℕ). metrics_of scales n (slice_index_or fonts n no_font) state) (by_name names state);
      extents = λ metrics ends_cluster c has. own_extents fonts metrics has keep bitmaps ends_cluster c;
      outlines = λ stage names state c.
          let number = font_of_state fonts names state in
          let within : number < length fonts = chosen_within (slice_index_or names state.font []) state.bold state.italic fonts some in
          let named : IsFoundByName (slice_index_or fonts number no_font) = (bitmaps number no_font within).by_name in
          ap (option_and_then (glyph_outline stage fonts state)) (keep fonts bitmaps number c)
          ∙ (own_outline stage fonts state number named (glyph_of (slice_index_or fonts number no_font) c)
          ∙ ap (λ (n : ℕ). option_and_then (own_glyph_outline stage state n (slice_index_or fonts n no_font)) (glyph_of (slice_index_or fonts n no_font) c)) (by_name names state));
    }
