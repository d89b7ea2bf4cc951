-- The least box of pixels of three bytes, and boxes on the frame.
use Rattle.std.proofs.Common.{◌≡◌, ◌↔◌, ℕ, ◌+◌, inl, inr, List, Option, Some, None, refl, arith}
use Rattle.std.specs.Prelude.{IfSome}
use Rattle.std.proofs.lemmas.Bool.{cases_lt}
use Rattle.ass_num.specs.declared.size.Size.{Size}
use Rattle.frame_change.specs.Changes.{IsLeastChanged}
use Rattle.frame_change.specs.declared.pixels.Changed.{Changed}
use Rattle.still_images.specs.Boxes.{DiffersIn, HasAll, IsBoxOfPixels, IsLeastOf, IsOnFrame, whole_box}

pub box_of_three : (size : Size) (a b : List ℕ) (box : Option Changed) → (box ≡ None) ↔ (a ≡ b) → IfSome box (IsLeastChanged size a b) → IsBoxOfPixels 3 size a b box
box_of_three size a b None none some = none.0 refl
box_of_three size a b (Some box) none some = record { has = some.has; least = some.least }

-- The whole frame has all.
whole_has : (size : Size) (Differs : ℕ → ℕ → Type 0) → HasAll size Differs (whole_box size)
whole_has size Differs i j wide high differs = record { left = omega arith; right = wide; top = omega arith; bottom = high }

-- The least box lies on the frame. Where it has nothing, it is no larger than any other.
pub least_on_frame : (size : Size) (Differs : ℕ → ℕ → Type 0) (box : Changed) → IsLeastOf size Differs box → IsOnFrame size box
least_on_frame size Differs box is =
    let whole = is.least (whole_box size) (whole_has size Differs) in
    record {
      across = elim (cases_lt box.x2 box.x1) [
        | inr past ↦ past
        | inl less ↦
            let other : Changed = record { x1 = box.x1 + 1; y1 = box.y1; x2 = box.x2; y2 = box.y2 } in
            let has : HasAll size Differs other = λ i j wide high differs. let inside = is.has i j wide high differs in absurd (omega (arith, inside.left, inside.right, less)) in
            absurd (omega (arith, (is.least other has).left))
      ];
      right = whole.right;
      down = elim (cases_lt box.y2 box.y1) [
        | inr past ↦ past
        | inl less ↦
            let other : Changed = record { x1 = box.x1; y1 = box.y1 + 1; x2 = box.x2; y2 = box.y2 } in
            let has : HasAll size Differs other = λ i j wide high differs. let inside = is.has i j wide high differs in absurd (omega (arith, inside.top, inside.bottom, less)) in
            absurd (omega (arith, (is.least other has).top))
      ];
      bottom = whole.bottom;
    }

pub whole_on_frame : (size : Size) → IsOnFrame size (whole_box size)
whole_on_frame size = record { across = omega arith; right = omega arith; down = omega arith; bottom = omega arith }

pub part_on_frame : (depth : ℕ) (size : Size) (a b : List ℕ) (box : Option Changed) → IsBoxOfPixels depth size a b box → IfSome box (IsOnFrame size)
part_on_frame depth size a b None is = tt
part_on_frame depth size a b (Some box) is = least_on_frame size (DiffersIn depth size.w a b) box is
