use Rattle.std.proofs.Common.{◌∙◌, ◌+◌, ◌-◌, ◌*◌, ℕ, List, length, take, ap, sym}
use Rattle.std.proofs.lemmas.List.{take_rest}
use Rattle.still_images.proofs.CropLemmas.{row_length}
use Rattle.still_images.proofs.crop.cropped_row.Goals as goal

pub slice_bounds-result-end-2 : goal.slice_bounds-result-end-2
slice_bounds-result-end-2 c =
    let part = c.args.part.now in
    let size = c.args.size.now in
    let count : ℕ = c.args.depth * (part.x2 - part.x1) in
    sym (ap (λ (l : List ℕ). length (take count l)) (take_rest c.args.pixels.now (c.args.depth * (c.args.y * size.w + part.x1)))
    ∙ row_length c.args.depth size part c.args.pixels.now c.requires.pixels c.requires.part c.args.y c.requires.y)
