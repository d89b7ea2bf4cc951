use Rattle.std.proofs.Common.{◌≡◌, ◌+◌, ◌-◌, ◌*◌, ◌≤◌}
use Rattle.sfnt_glyphs.specs.Glyphs.{glyph_drawn, parts_from, max_parts, last_place}
use Rattle.sfnt_glyphs.proofs.drawing.+drawing.Given as goal

abbrev pub decreases-glyph_drawn : goal.decreases-glyph_drawn
decreases-glyph_drawn l = 4 * l.depth

abbrev pub decreases-stretch_drawn : goal.decreases-stretch_drawn
decreases-stretch_drawn l = 4 * l.depth + 3

abbrev pub decreases-parts_from : goal.decreases-parts_from
decreases-parts_from l = 4 * l.depth + 2

abbrev pub decreases-drawn_part : goal.decreases-drawn_part
decreases-drawn_part l = 4 * l.depth + 1

abbrev pub invariant-parts_from-loop-k : goal.invariant-parts_from-loop-k
invariant-parts_from-loop-k l = record {
  read : parts_from (glyph_drawn l.font l.depth) l.font.bytes l.stretch.to (max_parts - l._k) l.at l.front ≡ parts_from (glyph_drawn l.font l.depth) l.font.bytes l.stretch.to max_parts l.initial.at l.initial.front;
  place : l.at ≤ last_place;
}
