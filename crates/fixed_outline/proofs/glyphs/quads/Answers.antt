use Rattle.std.specs.List.{All}
use Rattle.std.proofs.lemmas.List.Elements.{All-same, All-nil}
use Rattle.ass_num.specs.Limits.{IsOutlinePoint}
use Rattle.fixed_outline.proofs.glyphs.quads.Goals as goal

pub returns-clause-value : goal.returns-clause-value
returns-clause-value c = rw c.in_ok-rings.ensures at c.in_ok-add_rows.ensures.added

pub returns-clause-within : goal.returns-clause-within
returns-clause-within c = c.in_ok-add_rows.ensures.within (All-same (All IsOutlinePoint) c.in_ok-rings.rings _ c.in_ok-rings.ensures (All-nil (All IsOutlinePoint)))
