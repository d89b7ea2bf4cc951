use Rattle.fixed_outline.proofs.RunLemmas.{glyph_winding}
use Rattle.fixed_outline.proofs.runs.runs_of.Goals as goal

pub returns-clause-winding : goal.returns-clause-winding
returns-clause-winding c g is =
    glyph_winding c.style_of-style.result.matrix c.args.m.now c.style_of-style.result.bold c.args.bold c.args.underline c.args.strikeout c.args.font.now g c.in_ok-rings.rings c.add_bars.new.rings
    c.style_of-style.ensures.matrix c.style_of-style.ensures.bold (c.in_ok-rings.ensures.winding g is) (c.in_ok-add_bars.ensures.added g is)

pub returns-clause-within : goal.returns-clause-within
returns-clause-within c = c.in_ok-add_bars.ensures.within c.in_ok-rings.ensures.within
