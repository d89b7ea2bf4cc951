use Rattle.std.proofs.Common.{◌≡◌, ℕ, ◌*◌, List, ap, ◌∙◌, arith}
use Rattle.std.proofs.lemmas.List.{with_items_is}
use Rattle.blend.specs.Canvases.{CanvasValue, drawn}
use Rattle.blend.specs.Images.{image_value}
use Rattle.blend.proofs.canvas.Canvas.draw.Goals as goal

pub returns : goal.returns
returns g c =
    let inside = c.self.inside in
    let none : inside.w * 0 ≡ 0 = omega arith in
    let painted_is = rw (none, c.as_mut_slice.ensures.value) at c.draw_rows.ensures in
    let kept = with_items_is inside.bytes c.draw_rows.new.rows (omega arith) in
    ap (λ (bytes : List ℕ). let p : CanvasValue = record { w = inside.w; h = inside.h; bytes = bytes } in p) (kept ∙ painted_is)
    ∙ ap (λ (p : CanvasValue). drawn p (image_value g.M.AsMask.mask c.args.image.now)) c.self.view_is
