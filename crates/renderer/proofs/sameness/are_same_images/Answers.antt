use Rattle.std.proofs.Common.{◌<◌, List, length, get_or, sym, ap, ◌∙◌, arith}
use Rattle.std.proofs.lemmas.Bool.{false≢true}
use Rattle.std.proofs.lemmas.List.{get_or-map, get_or_default}
use Rattle.blend.specs.Blending.{Image}
use Rattle.renderer.specs.ShownFrames.{image_shown}
use Rattle.renderer.proofs.sameness.are_same_images.Goals as goal

pub returns-then-not-is_same_image : goal.returns-then-not-is_same_image
returns-then-not-is_same_image c =
    let a = c.args.a.now in
    let b = c.args.b.now in
    let i = c.loop-i.i in
    let x = c.index-a-i.result in
    let y = c.index-b-i.result in
    let in_a = c.loop-i-test.true in
    let in_b : i < length b = omega (arith, in_a, c.if-a-b.false) in (
      (λ e. absurd (false≢true e)),
      (λ same. (
          let here = sym (get_or-map image_shown a i x (image_shown x) in_a) ∙ ap (λ (z : List Image). get_or z i (image_shown x)) same ∙ get_or-map image_shown b i x (image_shown x) in_b in
          c.if-not-is_same_image.ensures.1 (ap image_shown c.index-a-i.is ∙ here ∙ ap image_shown (get_or_default b i x y in_b ∙ sym c.index-b-i.is))
          )),
    )
