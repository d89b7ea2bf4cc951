-- Public: the ring of a box.
use Rattle.std.specs.Prelude.{ℤ, pos, List, [], ◌∷◌, map}
use Rattle.ass_num.specs.declared.geometry.Point.{Point}
use Rattle.outline_points.specs.Placing.{outline_point}

-- the corners of a box of these sides, from its upper left one at 0 clockwise
abbrev pub box_corners : ℤ → ℤ → List Point
box_corners w h =
    record { x = pos 0; y = pos 0 } ∷ record { x = w; y = pos 0 } ∷ record { x = w; y = h } ∷ record { x = pos 0; y = h } ∷ []

-- turned and held
abbrev pub box_ring : ℤ → ℤ → ℤ → List Point
box_ring w h turn = map (outline_point turn) (box_corners w h)
