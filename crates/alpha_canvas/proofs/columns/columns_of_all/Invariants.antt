use Rattle.std.proofs.Common.{◌≡◌, ◌≤◌, ◌<◌, ◌⊎◌, ℕ, map, take}
use Rattle.blend.specs.Images.{image_value}
use Rattle.alpha_canvas.specs.Alpha.{clear, layers_at}
use Rattle.alpha_canvas.proofs.columns.columns_of_all.Given as goal

abbrev pub invariant-loop-image : goal.invariant-loop-image
invariant-loop-image g l =
    (l.all.right ≤ l.w) × ((i : ℕ) → i < l.w → (i < l.all.left) ⊎ (l.all.right ≤ i) → layers_at (map (image_value g.M.AsMask.mask) (take l.image-index l.images)) i l.j ≡ clear)
