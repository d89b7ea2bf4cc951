use Rattle.fixed_outline.proofs.ShapeLemmas.{glyph_whole}
use Rattle.fixed_outline.proofs.glyphs.quads_of.Goals as goal

pub returns-clause-value : goal.returns-clause-value
returns-clause-value c g is =
    glyph_whole c.style_of-style.result.matrix c.args.m.now c.style_of-style.result.bold c.args.bold c.args.underline c.args.strikeout c.args.font.now g c.in_ok-rings.rings c.add_bars.new.rings
    c.style_of-style.ensures.matrix c.style_of-style.ensures.bold (c.in_ok-rings.ensures.value g is) (c.in_ok-add_bars.ensures.added g is)

pub returns-clause-within : goal.returns-clause-within
returns-clause-within c = c.in_ok-add_bars.ensures.within c.in_ok-rings.ensures.within
