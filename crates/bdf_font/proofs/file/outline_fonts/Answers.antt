use Rattle.std.proofs.Common.{◌≡◌, ◌∷◌, [], ◌++◌, List, length, ap, sym, subst, ◌∙◌, arith}
use Rattle.std.specs.Vec.Iter.{into_iter_items}
use Rattle.sfnt_font.specs.declared.font.SfntFont.{SfntFont}
use Rattle.bdf_font.specs.Fonts.{FontValue}
use Rattle.bdf_font.specs.Outlines.{outline_font}
use Rattle.bdf_font.proofs.OutlineLists.{AreMade, made_next}
use Rattle.bdf_font.proofs.file.outline_fonts.Goals as goal

pub loop-face-preserved : goal.loop-face-preserved
loop-face-preserved c =
    let at = c.loop-face in
    let face = c.in-Some.face in
    let left = into_iter_items c.next.new.self in
    let steps : into_iter_items at.face-iterator ≡ face ∷ left = c.in-Some.ensures.steps.0 in
    let one_less = c.in-Some.ensures.steps.1 in
    let lengths = ap length steps in
    let pushed : c.push.new.self ≡ at.fonts ++ outline_font face ∷ [] =
    c.in_ok-push.ensures.ok ∙ ap (λ (font : FontValue). at.fonts ++ font ∷ []) c.in_ok-of_outlines.ensures in (
      subst (λ (fonts : List FontValue). AreMade c.args.faces fonts left) (sym pushed)
          (made_next c.args.faces at.fonts face left (subst (λ (rest : List SfntFont). AreMade c.args.faces at.fonts rest) steps at.invariant.0)),
      omega (arith, at.invariant.1, one_less, lengths),
    )
