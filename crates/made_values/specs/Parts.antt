-- Public: parts with their masks at hand.
use Rattle.std.specs.Prelude.{ℤ, List, [], ◌∷◌, map}
use Rattle.ass_num.specs.Masks.{MaskValue}
use Rattle.bdf_font.specs.Fonts.{FontValue}
use Rattle.mask_keys.specs.declared.composite_key.Part.{Part}
use Rattle.mask_keys.specs.Values.{mask_value}

-- the masks of the parts in the same order, each with its part's offset
abbrev pub placed_masks : List Part → List MaskValue → List (MaskValue × ℤ × ℤ)
placed_masks (p ∷ parts) (m ∷ masks) = (m, p.dx, p.dy) ∷ placed_masks parts masks
placed_masks _ _ = []

-- the masks of the parts' keys
abbrev pub masks_of : List FontValue → List Part → List MaskValue
masks_of fonts parts = map (λ part. mask_value fonts part.mask) parts
