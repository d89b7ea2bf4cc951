-- Public: the line of a report on what changed up to an instant (docs/PROGRAM.md).
use Rattle.std.specs.Prelude.{ℕ, List, ◌++◌, codes, decimal, Option, Some, None}
use Rattle.frame_change.specs.declared.kinds.ChangeKind.{ChangeKind}
use Rattle.frame_change.specs.declared.kinds.ChangeKind.TheVariants.{Same, Moved, Other}
use Rattle.frame_change.specs.declared.pixels.Changed.{Changed}

-- the number by which libass tells how two pictures differ
abbrev pub kind_number : ChangeKind → ℕ
kind_number Same = 0
kind_number Moved = 1
kind_number Other = 2

abbrev pub box_text : Option Changed → List ℕ
box_text None = codes "none"
box_text (Some box) = decimal box.x1 ++ codes " " ++ decimal box.y1 ++ codes " " ++ decimal box.x2 ++ codes " " ++ decimal box.y2

-- the line on the instant t
abbrev pub change_line : ℕ → ChangeKind → Option Changed → List ℕ
change_line t kind box = codes "t=" ++ decimal t ++ codes " change=" ++ decimal (kind_number kind) ++ codes " box " ++ box_text box ++ codes "\n"
