-- The masks of a key's parts.
use Rattle.std.proofs.Common.{◌≡◌, ℕ, List, [], ◌∷◌, All, map, refl, ap, arith}
use Rattle.std.proofs.lemmas.List.Elements.{All-nil, All-cons, All-head, All-tail}
use Rattle.ass_num.specs.Limits.{max_mask_shift}
use Rattle.ass_num.proofs.LimitLemmas.{IsWithin-wider}
use Rattle.bdf_font.specs.Fonts.{FontValue}
use Rattle.mask_cover.specs.Sums.{IsPlaceableMask}
use Rattle.mask_keys.specs.Keys.{IsValidPart, max_part_offset, region_key}
use Rattle.mask_keys.specs.declared.composite_key.Part.{Part}
use Rattle.mask_keys.specs.Values.{mask_value, placed_part, region_value}
use Rattle.mask_keys.proofs.ReachLemmas.{mask_reach}
use Rattle.made_values.specs.Parts.{masks_of, placed_masks}

pub placed_are : (fonts : List FontValue) (parts : List Part) → placed_masks parts (masks_of fonts parts) ≡ map (placed_part fonts) parts
placed_are fonts [] = refl
placed_are fonts (p ∷ parts) = ap (λ z. (mask_value fonts p.mask, p.dx, p.dy) ∷ z) (placed_are fonts parts)

part_placeable : (fonts : List FontValue) (glyphs : List ℕ) (p : Part) → IsValidPart glyphs p → IsPlaceableMask (mask_value fonts p.mask, p.dx, p.dy)
part_placeable fonts glyphs p valid = record {
  mask = mask_reach p.mask (region_value fonts (region_key p.mask)) valid.mask.ranges;
  dx = IsWithin-wider max_part_offset max_mask_shift p.dx (omega arith) valid.dx;
  dy = IsWithin-wider max_part_offset max_mask_shift p.dy (omega arith) valid.dy;
}

pub parts_placeable : (fonts : List FontValue) (glyphs : List ℕ) (parts : List Part) → All (IsValidPart glyphs) parts → All IsPlaceableMask (placed_masks parts (masks_of fonts parts))
parts_placeable fonts glyphs [] valid = All-nil IsPlaceableMask
parts_placeable fonts glyphs (p ∷ parts) valid =
    All-cons IsPlaceableMask (mask_value fonts p.mask, p.dx, p.dy) (placed_masks parts (masks_of fonts parts))
    (part_placeable fonts glyphs p (All-head (IsValidPart glyphs) p parts valid)) (parts_placeable fonts glyphs parts (All-tail (IsValidPart glyphs) p parts valid))
