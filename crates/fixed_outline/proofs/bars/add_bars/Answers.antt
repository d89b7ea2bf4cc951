use Rattle.std.proofs.Common.{FitsSigned, to_z-of_z, rules, w32}
use Rattle.fixed_outline.proofs.ShapeLemmas.{advance_is, advance_within, bars_read}
use Rattle.fixed_outline.proofs.bars.add_bars.Goals as goal

pub add_bar-requires-clause-advance : goal.add_bar-requires-clause-advance
add_bar-requires-clause-advance c =
    let fa : FitsSigned w32 c.advance_at-advance.result = search rules in
    rw (to_z-of_z fa) (advance_within c.args.font.now.glyphs c.args.glyph c.advance_at-advance.result c.requires.font.glyphs c.requires.glyph c.advance_at-advance.ensures)

pub add_bar-requires-2-clause-advance : goal.add_bar-requires-2-clause-advance
add_bar-requires-2-clause-advance c =
    let fa : FitsSigned w32 c.advance_at-advance.result = search rules in
    rw (to_z-of_z fa) (advance_within c.args.font.now.glyphs c.args.glyph c.advance_at-advance.result c.requires.font.glyphs c.requires.glyph c.advance_at-advance.ensures)

pub returns-clause-added : goal.returns-clause-added
returns-clause-added c g is =
    let fa : FitsSigned w32 c.advance_at-advance.result = search rules in
    bars_read c.args.style.now.matrix c.args.underline c.args.strikeout c.args.font.now c.advance_at-advance.result c.underline.result c.strikeout.result g c.args.rings.now c.add_bar.new.rings c.add_bar-2.new.rings
    (advance_is c.args.font.now.glyphs c.args.glyph g c.advance_at-advance.result is c.advance_at-advance.ensures) c.underline.ensures c.strikeout.ensures
    (rw (to_z-of_z fa) at c.in_ok-add_bar.ensures.added) (rw (to_z-of_z fa) at c.in_ok-add_bar-2.ensures.added)

pub returns-clause-within : goal.returns-clause-within
returns-clause-within c outline = c.in_ok-add_bar-2.ensures.within (c.in_ok-add_bar.ensures.within outline)
