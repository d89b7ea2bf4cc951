use Rattle.std.proofs.Common.{◌∙◌, ap, Some, sym, length, ◌-◌}
use Rattle.std.specs.Option.{option_or}
use Rattle.sfnt_font.specs.Codes.{font_codes}
use Rattle.bdf_font.proofs.OutlineGlyphs.{outline_found}
use Rattle.bdf_font.proofs.outlines.outline_place.Goals as goal

pub returns-in-Some : goal.returns-in-Some
returns-in-Some c =
    sym (outline_found c.args.font.now c.args.c c.requires ∙ rw (← c.from.ensures) (ap (λ o. option_or o (Some (length (font_codes c.args.font.now) - 1))) (sym c.place_of.ensures ∙ c.in-Some.is)))

pub returns-in-None : goal.returns-in-None
returns-in-None c =
    sym (outline_found c.args.font.now c.args.c c.requires ∙ rw (← c.from.ensures) (ap (λ o. option_or o (Some (length (font_codes c.args.font.now) - 1))) (sym c.place_of.ensures ∙ c.in-None.is)) ∙ ap (λ n. Some (n - 1)) (sym c.glyph_count.ensures.value))
