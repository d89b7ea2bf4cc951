use Rattle.std.proofs.Common.{◌∙◌, Option, sym, subst}
use Rattle.std.specs.Prelude.{IfSome}
use Rattle.bdf_font.specs.declared.sets.GlyphPlace.{GlyphPlace}
use Rattle.bdf_font.specs.Sets.{IsGlyphPlaceIn}
use Rattle.bdf_font.proofs.SetLemmas.{elsewhere_within}
use Rattle.bdf_font.proofs.sets.set_glyph.Goals as goal

pub returns-in-Some-glyph_elsewhere-clause-within : goal.returns-in-Some-glyph_elsewhere-clause-within
returns-in-Some-glyph_elsewhere-clause-within c =
    subst (λ (o : Option GlyphPlace). IfSome o (IsGlyphPlaceIn c.args.set.now.fonts)) (sym c.glyph_elsewhere.ensures ∙ c.in-Some-glyph_elsewhere.is)
    (elsewhere_within c.args.set.now.fonts c.args.c)
