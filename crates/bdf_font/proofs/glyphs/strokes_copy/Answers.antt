use Rattle.std.proofs.Common.{◌∙◌, ◌++◌, ◌∷◌, [], ap, sym, arith, get_or}
use Rattle.std.proofs.lemmas.List.{take_more, take_all}
use Rattle.bdf_font.proofs.glyphs.strokes_copy.Goals as goal

pub loop-k-preserved : goal.loop-k-preserved
loop-k-preserved c =
    c.in_ok-push.ensures.ok
    ∙ ap (λ ring. c.loop-k.copy ++ ring ∷ []) c.get.ensures
    ∙ ap (λ rings. rings ++ get_or c.args.contours.now c.loop-k.k [] ∷ []) c.loop-k.invariant
    ∙ sym (take_more c.args.contours.now c.loop-k.k [] (omega arith))

pub returns : goal.returns
returns c = c.loop-k.invariant ∙ take_all c.loop-k.k c.args.contours.now (omega arith)
