-- The rings of a glyph that the fonts have.
use Rattle.std.proofs.Common.{◌≡◌, ℕ, ◌<◌, Bool, List, length, get_or, Some, refl, subst, sym, ap, ◌∙◌, inl, inr, arith, IfOk, Result, Ok, Err}
use Rattle.std.specs.Prelude.{slice_get}
use Rattle.std.proofs.lemmas.List.{get_or-map, length-map}
use Rattle.std.proofs.lemmas.Option.{slice_get_cases, slice_get_read}
use Rattle.ass_num.specs.declared.geometry.Matrix.{Matrix}
use Rattle.ass_num.specs.declared.geometry.Outline.{Outline}
use Rattle.ass_num.specs.declared.geometry.Point.{Point}
use Rattle.bdf_font.specs.Fonts.{FontValue}
use Rattle.bdf_font.specs.GlyphRings.{rings_of_glyph}
use Rattle.bdf_font.specs.declared.glyphs.FontGlyph.{FontGlyph}
use Rattle.mask_keys.specs.Keys.{IsValidGlyph}
use Rattle.mask_keys.specs.Outlines.{found_font_rings, found_glyph_rings, glyph_counts}

-- the font of a valid key's glyph, and that it has the glyph
pub font_found : (fonts read : List FontValue) (at glyph : ℕ) (font : FontValue) (m : Matrix) → read ≡ fonts → font ≡ get_or read at font → IsValidGlyph (glyph_counts fonts) at glyph m → (slice_get fonts at ≡ Some font) × (glyph < length font.glyphs)
font_found fonts read at glyph font m e f valid =
    let same : length (glyph_counts fonts) ≡ length fonts = length-map fonts (λ (z : FontValue). length z.glyphs) in
    let here : at < length fonts = let a = valid.in_fonts in omega (arith, same) in
    let is : font ≡ get_or fonts at font = f ∙ ap (λ z. get_or z at font) e in
    let glyphs : get_or (glyph_counts fonts) at 0 ≡ length (get_or fonts at font).glyphs = get_or-map (λ (z : FontValue). length z.glyphs) fonts at font 0 here in
    let L : FontValue → ℕ = λ z. length z.glyphs in
    let own : length font.glyphs ≡ length (get_or fonts at font).glyphs = ap L is in
    let b = valid.in_font in
    (slice_get_read fonts (length fonts) at font refl here is, omega (arith, glyphs, own))

module _ (m : Matrix) (bold underline strikeout : Bool) where
  -- what an answer's outline has to do with the rings of a glyph that is there, it has to do with those that the fonts have
  pub glyph_rings_found : {E : Type 0} (P : Outline → List (List Point) → Type 0) (answer : Result Outline E) (fonts : List FontValue) (at glyph : ℕ) (font : FontValue) → slice_get fonts at ≡ Some font → glyph < length font.glyphs
      → IfOk answer (λ o. (g : FontGlyph) → slice_get font.glyphs glyph ≡ Some g → P o (rings_of_glyph m bold underline strikeout font g))
      → IfOk answer (λ o. P o (found_font_rings m bold underline strikeout glyph (slice_get fonts at)))
  glyph_rings_found P (Ok o) fonts at glyph font found within has = elim (slice_get_cases font.glyphs glyph).1 [
    | inl g ↦
        subst (P o) (sym (ap (found_font_rings m bold underline strikeout glyph) found ∙ ap (found_glyph_rings m bold underline strikeout font) g.2)) (has g.0 g.2)
    | inr past ↦ let l = past.0 in absurd (omega arith)
  ]
  glyph_rings_found P (Err e) fonts at glyph font found within has = has
