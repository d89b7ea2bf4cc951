use Rattle.std.proofs.Common.{◌++◌, sym, ap, ◌∙◌}
use Rattle.std.proofs.lemmas.List.{append-nil}
use Rattle.cff_font.proofs.StrokeLemmas.{lines-short}
use Rattle.cff_font.proofs.strokes.add_lines.Goals as goal

pub returns : goal.returns
returns c =
    let drawn = c.loop-rest.strokes.items in
    sym (ap (λ z. drawn ++ z) (lines-short c.loop-rest.rest.now c.in_default.len_below) ∙ append-nil drawn) ∙ c.loop-rest.invariant
