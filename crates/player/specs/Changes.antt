-- Public: how two lists of plain images differ.
use Rattle.std.specs.Prelude.{◌≡◌, ◌≢◌, ℤ, pos, List, map}
use Rattle.frame_change.specs.declared.kinds.ChangeKind.{ChangeKind}
use Rattle.frame_change.specs.declared.kinds.ChangeKind.TheVariants.{Same, Moved, Other}
use Rattle.plain_images.specs.declared.plain.PlainImage.{PlainImage}

-- a plain image without its place
abbrev pub unplaced_plain : PlainImage → PlainImage
unplaced_plain plain = record plain { mask = record plain.mask { x = pos 0; y = pos 0 } }

-- where it stands in the frame
abbrev pub plain_place : PlainImage → ℤ × ℤ
plain_place plain = (plain.mask.x, plain.mask.y)

-- `Same`: the lists are equal. `Moved`: they aren't, and are where all places are left out. `Other`: not even then.
abbrev pub IsListChange : ChangeKind → List PlainImage → List PlainImage → Type 0
IsListChange Same a b = a ≡ b
IsListChange Moved a b = (a ≢ b) × (map unplaced_plain a ≡ map unplaced_plain b)
IsListChange Other a b = map unplaced_plain a ≢ map unplaced_plain b
