use Rattle.std.proofs.Common.{◌++◌, sym, ap, ◌∙◌}
use Rattle.std.proofs.lemmas.List.{append-nil}
use Rattle.cff_font.proofs.StrokeLemmas.{turning_lines-short}
use Rattle.cff_font.proofs.strokes.add_turning_lines.Goals as goal

pub returns : goal.returns
returns c =
    let drawn = c.loop-rest.strokes.items in
    sym (ap (λ z. drawn ++ z) (turning_lines-short c.loop-rest.is_level c.loop-rest.rest.now c.in_default.len_below) ∙ append-nil drawn) ∙ c.loop-rest.invariant
