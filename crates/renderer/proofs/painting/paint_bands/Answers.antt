use Rattle.std.proofs.Common.{◌≡◌, List, map, subst}
use Rattle.std.specs.Prelude.{IfOk}
use Rattle.blend.specs.Canvases.{CanvasValue}
use Rattle.blend.specs.Painting.{picture_of}
use Rattle.renderer.specs.ShownFrames.{FrameImage, canvas_of, image_shown}
use Rattle.renderer.proofs.PaintedPictures.{canvas-picture}
use Rattle.renderer.proofs.painting.paint_bands.Goals as goal

pub returns-clause-canvas : goal.returns-clause-canvas
returns-clause-canvas g c =
    subst (λ (images : List FrameImage). IfOk c.paint_bands.result (λ canvas. canvas ≡ picture_of c.args.frame.now.size (map image_shown images))) c.as_slice.ensures c.paint_bands.ensures

pub returns-clause-picture : goal.returns-clause-picture
returns-clause-picture g c = λ fonts draws shows.
    let frame = c.args.frame.now in
    let painted : IfOk c.paint_bands.result (λ canvas. canvas ≡ canvas_of frame) =
    subst (λ (images : List FrameImage). IfOk c.paint_bands.result (λ canvas. canvas ≡ picture_of frame.size (map image_shown images))) c.as_slice.ensures c.paint_bands.ensures in
    subst (λ (picture : CanvasValue). IfOk c.paint_bands.result (λ canvas. canvas ≡ picture)) (canvas-picture fonts draws frame shows) painted
