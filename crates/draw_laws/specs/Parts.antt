-- Public: the masks of a draw, by the items that they are of.
use Rattle.std.specs.Prelude.{◌≡◌, ℕ, ◌+◌, ◌*◌, ◌<◌, ◌⊎◌, List, [], ◌∷◌, All, IfSome, Option, Some, ℤ, pos, neg_ℤ, ◌+ℤ◌, ◌*ℤ◌, ◌≤ℤ◌, ◌<ℤ◌}
use Rattle.std.specs.List.{AllZip}
use Rattle.ass_num.specs.declared.geometry.Point.{Point}
use Rattle.ass_num.specs.declared.size.Size.{Size}
use Rattle.draw_numbers.specs.Limits.{max_reach}
use Rattle.draw_numbers.specs.declared.widths.Radii.{Radii}
use Rattle.draw_numbers.specs.declared.widths.Softness.{Softness}
use Rattle.mask_keys.specs.Keys.{samples_across}
use Rattle.mask_keys.specs.declared.composite_key.Part.{Part}
use Rattle.mask_keys.specs.declared.mask_key.MaskKey.{MaskKey}
use Rattle.mask_keys.specs.declared.outline_key.OutlineKey.{OutlineKey}
use Rattle.mask_keys.specs.declared.plans.Draw.{Draw}
use Rattle.text_layout.specs.declared.laid.Placed.{Placed}

-- ---- one mask

-- A mask that stands in this column and this row, under its phase, has its pen at this sample of the frame.
pub record IsMaskAt (pen : Point) (column row : ℤ) (mask : MaskKey) : Type 0 where
  pub across : (pos samples_across *ℤ column) +ℤ pos mask.px ≡ pen.x
  pub down : (pos samples_across *ℤ row) +ℤ pos mask.py ≡ pen.y
  pub px : mask.px < samples_across
  pub py : mask.py < samples_across

-- A sample lies so near a side of the frame, in pixels, that a mask that begins there may reach it.
abbrev pub IsSampleNear : ℕ → ℤ → Type 0
IsSampleNear side sample = (neg_ℤ (pos (samples_across * max_reach)) ≤ℤ sample) × (sample <ℤ pos (samples_across * (side + max_reach)))

pub record MayReach (size : Size) (pen : Point) : Type 0 where
  pub across : IsSampleNear size.w pen.x
  pub down : IsSampleNear size.h pen.y

-- ---- the masks of items

-- An item leaves no mask that may reach the frame. (`leaves` has the outline that an item leaves and its pen, and `samples` the sample at
-- which a mask with that pen stands.)
abbrev pub IsLeftOut : (Placed → Option (OutlineKey × Point)) → (Point → Point) → Size → Placed → Type 0
IsLeftOut leaves samples size item = IfSome (leaves item) (λ (mark : OutlineKey × Point). MayReach size (samples mark.1) → ⊥)

-- A part of a draw is the mask that an item leaves.
pub record IsItemMask (leaves : Placed → Option (OutlineKey × Point)) (samples : Point → Point) (size : Size) (draw : Draw) (item : Placed) (part : Part) : Type 0 where
  pub pen : Point
  pub left : leaves item ≡ Some (part.mask.outline, pen)
  pub near : MayReach size (samples pen)
  pub stands : IsMaskAt (samples pen) (draw.x +ℤ part.dx) (draw.y +ℤ part.dy) part.mask

-- The parts are the masks of the items, in order: one of each that may reach the frame, and no other.
abbrev pub AreParts : (Placed → Option (OutlineKey × Point)) → (Point → Point) → Size → Draw → List Placed → List Part → Type 0
AreParts leaves samples size draw [] parts = parts ≡ []
AreParts leaves samples size draw (item ∷ items) parts =
    (IsLeftOut leaves samples size item × AreParts leaves samples size draw items parts)
    ⊎ ((part : Part) × (rest : List Part) × (parts ≡ part ∷ rest) × IsItemMask leaves samples size draw item part × AreParts leaves samples size draw items rest)

-- ---- draws

-- The draw stands where its first mask does.
pub record StandsAtFirst (draw : Draw) : Type 0 where
  pub first : Part
  pub rest : List Part
  pub parts : draw.key.parts ≡ first ∷ rest
  pub column : first.dx ≡ pos 0
  pub row : first.dy ≡ pos 0

-- The items are drawn, by one draw; if none of their masks may reach the frame, by none.
abbrev pub AreDrawn : (Placed → Option (OutlineKey × Point)) → (Point → Point) → Size → List Placed → List Draw → Type 0
AreDrawn leaves samples size items [] = All (IsLeftOut leaves samples size) items
AreDrawn leaves samples size items (draw ∷ []) = AreParts leaves samples size draw items draw.key.parts × StandsAtFirst draw
AreDrawn leaves samples size items (draw ∷ others) = ⊥

-- Its masks are widened by radii, and softened.
pub record IsMaskMadeBy (radii : Radii) (softness : Softness) (part : Part) : Type 0 where
  pub rx : part.mask.rx ≡ radii.x
  pub ry : part.mask.ry ≡ radii.y
  pub edges : part.mask.edges ≡ softness.edges
  pub blur : part.mask.blur ≡ softness.blur

abbrev pub AreMadeBy : Radii → Softness → Draw → Type 0
AreMadeBy radii softness draw = All (IsMaskMadeBy radii softness) draw.key.parts

-- Two masks of one outline, at one place.
pub record HaveOnePlace (a b : Part) : Type 0 where
  pub outline : a.mask.outline ≡ b.mask.outline
  pub px : a.mask.px ≡ b.mask.px
  pub py : a.mask.py ≡ b.mask.py
  pub dx : a.dx ≡ b.dx
  pub dy : a.dy ≡ b.dy

-- Two draws have the masks of the same outlines, at the same places.
pub record LieTogether (a b : Draw) : Type 0 where
  pub x : a.x ≡ b.x
  pub y : a.y ≡ b.y
  pub parts : AllZip HaveOnePlace a.key.parts b.key.parts
