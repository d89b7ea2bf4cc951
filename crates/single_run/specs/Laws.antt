-- Public: what a report never tells.
use Rattle.std.specs.Prelude.{◌≡◌, List, Option, None}
use Rattle.ass_num.specs.declared.size.Size.{Size}
use Rattle.bdf_font.specs.Fonts.{FontValue}
use Rattle.frame_change.specs.Changes.{IsChange}
use Rattle.frame_change.specs.declared.kinds.ChangeKind.TheVariants.{Same}
use Rattle.frame_change.specs.declared.pixels.Changed.{Changed}
use Rattle.mask_keys.specs.declared.plans.Draw.{Draw}
use Rattle.mask_keys.specs.Pictures.{picture}
use Rattle.single_run.specs.ChangeReports.{IsChangedBox, plan_of}

-- Where the draws are those before, no pixel differs.
abbrev pub SameDrawsChangeNothing : Type 0
SameDrawsChangeNothing =
    (fonts : List FontValue) (size : Size) (before now : List Draw) (box : Option Changed) → IsChange Same (plan_of before) (plan_of now) →
    IsChangedBox size (picture fonts size before).bytes (picture fonts size now).bytes box → box ≡ None
