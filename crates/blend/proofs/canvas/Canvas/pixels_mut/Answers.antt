use Rattle.std.proofs.Common.{◌*◌, length, refl, ap, ◌∙◌}
use Rattle.blend.specs.Canvases.{CanvasValue}
use Rattle.blend.specs.Lending.{with_bytes}
use Rattle.blend.proofs.CanvasLemmas.{lent-bytes}
use Rattle.blend.proofs.canvas.Canvas.pixels_mut.Goals as goal

pub returns : goal.returns
returns c =
    let inside = c.self.inside in (
      (refl, λ bytes. lent-bytes inside.w inside.h inside.bytes.len inside.bytes.items bytes inside.bytes.ok.0 ∙ ap (λ (p : CanvasValue). with_bytes p bytes) c.self.view_is),
      record {
        writes_back = tt;
        value = c.as_mut_slice.ensures.value ∙ ap (λ (p : CanvasValue). p.bytes) c.self.view_is;
        count = ap length c.as_mut_slice.ensures.value ∙ (c.self.invariant ∙ ap (λ (p : CanvasValue). 3 * (p.w * p.h)) c.self.view_is);
      },
    )
