use Rattle.std.proofs.Common.{rules, ◌≡◌, ◌∙◌, ◌<◌, ℕ, Option, length, ap, pos, sym, subst}
use Rattle.std.specs.Prelude.{IfSome}
use Rattle.sfnt_font.specs.Fonts.{place_of_code}
use Rattle.sfnt_font.specs.Ranges.{IsSfntFont}
use Rattle.bdf_font.specs.FontData.{font_value}
use Rattle.bdf_font.specs.Fonts.{FontValue, place_of}
use Rattle.bdf_font.specs.Outlines.{outline_font}
use Rattle.bdf_font.proofs.OutlineGlyphs.{outline_place_of}
use Rattle.bdf_font.proofs.SetLemmas.{place_within}
use Rattle.bdf_font.proofs.font.Font.code_place.Goals as goal

pub returns-in-Bitmaps-clause-within : goal.returns-in-Bitmaps-clause-within
returns-in-Bitmaps-clause-within c =
    let e : c.in-Bitmaps.font ≡ c.args.self.now = ap font_value (sym c.in-Bitmaps.is) ∙ c.data.ensures.value in
    let value : c.code_place.result ≡ place_of c.args.self.now.glyphs (pos c.args.c) = c.code_place.ensures ∙ ap (λ (f : FontValue). place_of f.glyphs (pos c.args.c)) e in
    subst (λ (o : Option ℕ). IfSome o (λ place. place < length c.args.self.now.glyphs)) (sym value) (place_within c.args.self.now.glyphs (pos c.args.c))

pub returns-in-Outlines-clause-value : goal.returns-in-Outlines-clause-value
returns-in-Outlines-clause-value c =
    let font = c.in-Outlines.font in
    let e : outline_font font ≡ c.args.self.now = ap font_value (sym c.in-Outlines.is) ∙ c.data.ensures.value in
    let sound : IsSfntFont font = search rules in
    (c.place_of.ensures ∙ ap (place_of_code font) c.from.ensures)
    ∙ (sym (outline_place_of font c.args.c sound) ∙ ap (λ (f : FontValue). place_of f.glyphs (pos c.args.c)) e)

pub returns-in-Outlines-clause-within : goal.returns-in-Outlines-clause-within
returns-in-Outlines-clause-within c =
    let font = c.in-Outlines.font in
    let e : outline_font font ≡ c.args.self.now = ap font_value (sym c.in-Outlines.is) ∙ c.data.ensures.value in
    let sound : IsSfntFont font = search rules in
    let value : c.place_of.result ≡ place_of c.args.self.now.glyphs (pos c.args.c) =
    (c.place_of.ensures ∙ ap (place_of_code font) c.from.ensures)
    ∙ (sym (outline_place_of font c.args.c sound) ∙ ap (λ (f : FontValue). place_of f.glyphs (pos c.args.c)) e) in
    subst (λ (o : Option ℕ). IfSome o (λ place. place < length c.args.self.now.glyphs)) (sym value) (place_within c.args.self.now.glyphs (pos c.args.c))
