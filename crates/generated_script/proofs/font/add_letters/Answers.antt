use Rattle.std.proofs.Common.{◌++◌, [], ◌∷◌, ◌∙◌, ap, ap₂, sym, map, append_assoc, arith}
use Rattle.std.specs.List.{range_with_len}
use Rattle.std.proofs.lemmas.List.FromFn.{map-range_with_len_more}
use Rattle.generated_script.specs.Grid.{letter}
use Rattle.generated_script.proofs.font.add_letters.Goals as goal

pub loop-i-preserved : goal.loop-i-preserved
loop-i-preserved c =
    let i = c.loop-i.i in
    let old = c.args.glyphs.now in
    c.in_ok-push.ensures.ok ∙ ap₂ (λ glyphs g. glyphs ++ g ∷ []) c.loop-i.invariant c.in_ok-letter.ensures
    ∙ append_assoc old (map letter (range_with_len 0 i)) (letter i ∷ []) ∙ ap (λ z. old ++ z) (sym (map-range_with_len_more letter 0 i i (omega arith)))
