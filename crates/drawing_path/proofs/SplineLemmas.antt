-- The last spline of the last figure of a path that grows.
use Rattle.std.proofs.Common.{◌≡◌, ℕ, ◌<◌, ◌==◌, Bool, true, false, cond, ◌||◌, Option, Some, None, List, [], ◌∷◌, ◌++◌, length, map, get_or, set, refl, sym, ap, ◌∙◌, arith, append_assoc}
use Rattle.std.proofs.lemmas.List.{get_or_at, set_at}
use Rattle.std.proofs.lemmas.List.Folds.{list_any-append}
use Rattle.std.specs.List.{list_any}
use Rattle.ass_num.specs.declared.geometry.Point.{Point}
use Rattle.ass_num.specs.declared.geometry.Seg.{Seg}
use Rattle.ass_num.specs.declared.geometry.Seg.TheVariants.{Move, Line, Cubic, Spline}
use Rattle.drawing_path.specs.Paths.{continued, is_figure_or_spline, spline_changed, last_spline_changed, cubics_of}
use Rattle.drawing_path.specs.Sketches.{IsLastSpline, IsSplinePlace}

-- Behind a path stands a segment that ends its figure or is a spline: the path stays.
changed_behind : (change : List Point → Bool → Seg) (path more : List Seg) → list_any is_figure_or_spline more ≡ true → last_spline_changed change (path ++ more) ≡ path ++ last_spline_changed change more
changed_behind change [] more some = refl
changed_behind change (seg ∷ path) more some =
    let later : list_any is_figure_or_spline (path ++ more) ≡ true = list_any-append is_figure_or_spline path more ∙ ap (λ z. list_any is_figure_or_spline path || z) some ∙ or_true (list_any is_figure_or_spline path) in
    ap (λ z. cond z (seg ∷ last_spline_changed change (path ++ more)) (spline_changed change seg ∷ (path ++ more))) later
    ∙ ap (λ z. seg ∷ z) (changed_behind change path more some)
  where
    or_true : (b : Bool) → (b || true) ≡ true
    or_true true = refl
    or_true false = refl

-- Neither a spline nor the beginning of a figure is changed.
plain_stays : (change : List Point → Bool → Seg) (seg : Seg) → is_figure_or_spline seg ≡ false → spline_changed change seg ≡ seg
plain_stays change (Move _) plain = refl
plain_stays change (Line _) plain = refl
plain_stays change (Cubic _ _ _) plain = refl
plain_stays change (Spline _ _) plain = cc

or_false_left : (a b : Bool) → (a || b) ≡ false → a ≡ false
or_false_left true b e = e
or_false_left false b e = refl

or_false_right : (a b : Bool) → (a || b) ≡ false → b ≡ false
or_false_right true b e = cc
or_false_right false b e = e

plain_all_stay : (change : List Point → Bool → Seg) (path : List Seg) → list_any is_figure_or_spline path ≡ false → last_spline_changed change path ≡ path
plain_all_stay change [] plain = refl
plain_all_stay change (seg ∷ path) plain =
    let later : list_any is_figure_or_spline path ≡ false = or_false_right (is_figure_or_spline seg) (list_any is_figure_or_spline path) plain in
    let here : is_figure_or_spline seg ≡ false = or_false_left (is_figure_or_spline seg) (list_any is_figure_or_spline path) plain in
    ap (λ z. cond z (seg ∷ last_spline_changed change path) (spline_changed change seg ∷ path)) later
    ∙ ap (λ z. z ∷ path) (plain_stays change seg here)

-- Lines and curves behind a path change nothing of its last spline.
changed_before : (change : List Point → Bool → Seg) (path more : List Seg) → list_any is_figure_or_spline more ≡ false → last_spline_changed change (path ++ more) ≡ last_spline_changed change path ++ more
changed_before change [] more plain = plain_all_stay change more plain
changed_before change (seg ∷ path) more plain =
    let later : list_any is_figure_or_spline (path ++ more) ≡ list_any is_figure_or_spline path = list_any-append is_figure_or_spline path more ∙ ap (λ z. list_any is_figure_or_spline path || z) plain ∙ or_false (list_any is_figure_or_spline path) in
    ap (λ z. cond z (seg ∷ last_spline_changed change (path ++ more)) (spline_changed change seg ∷ (path ++ more))) later
    ∙ ap (λ z. cond (list_any is_figure_or_spline path) (seg ∷ z) (spline_changed change seg ∷ (path ++ more))) (changed_before change path more plain)
    ∙ into (list_any is_figure_or_spline path)
  where
    or_false : (b : Bool) → (b || false) ≡ b
    or_false true = refl
    or_false false = refl

    into : (b : Bool) → cond b (seg ∷ (last_spline_changed change path ++ more)) (spline_changed change seg ∷ (path ++ more)) ≡ cond b (seg ∷ last_spline_changed change path) (spline_changed change seg ∷ path) ++ more
    into true = refl
    into false = refl

pub place_kept : (path more : List Seg) (place : Option ℕ) → list_any is_figure_or_spline more ≡ false → IsSplinePlace path place → IsSplinePlace (path ++ more) place
place_kept path more None plain is = λ change. changed_before change path more plain ∙ ap (λ z. z ++ more) (is change)
place_kept path more (Some place) plain is = record {
  before = is.before;
  control = is.control;
  closed = is.closed;
  behind = is.behind ++ more;
  parts = ap (λ z. z ++ more) is.parts ∙ append_assoc is.before (Spline is.control is.closed ∷ is.behind) more;
  count = is.count;
  local = list_any-append is_figure_or_spline is.behind more ∙ ap (λ z. z || list_any is_figure_or_spline more) is.local ∙ plain;
}

-- the last spline of a path, changed
pub changed_at : (change : List Point → Bool → Seg) (path : List Seg) (place : ℕ) → (is : IsLastSpline path place) → last_spline_changed change path ≡ is.before ++ (change is.control is.closed ∷ is.behind)
changed_at change path place is =
    ap (last_spline_changed change) is.parts
    ∙ changed_behind change is.before (Spline is.control is.closed ∷ is.behind) refl
    ∙ ap (λ z. is.before ++ cond z (Spline is.control is.closed ∷ last_spline_changed change is.behind) (change is.control is.closed ∷ is.behind)) is.local

-- Figures begun behind a path have no spline.
figures_stay : (change : List Point → Bool → Seg) (points : List Point) → last_spline_changed change (map Move points) ≡ map Move points
figures_stay change [] = refl
figures_stay change (point ∷ points) =
    ap (λ z. cond (list_any is_figure_or_spline (map Move points)) (Move point ∷ z) (Move point ∷ map Move points)) (figures_stay change points)
    ∙ same (list_any is_figure_or_spline (map Move points))
  where
    same : (b : Bool) → cond b (Move point ∷ map Move points) (Move point ∷ map Move points) ≡ Move point ∷ map Move points
    same true = refl
    same false = refl

pub no_spline : (path : List Seg) (points : List Point) → ¬ (points ≡ []) → IsSplinePlace (path ++ map Move points) None
no_spline path [] some = absurd (some refl)
no_spline path (point ∷ points) some = λ change. changed_behind change path (map Move (point ∷ points)) refl ∙ ap (λ z. path ++ z) (figures_stay change (point ∷ points))

pub lines_plain : (points : List Point) → list_any is_figure_or_spline (map Line points) ≡ false
lines_plain [] = refl
lines_plain (point ∷ points) = lines_plain points

pub cubics_plain : (points : List Point) → list_any is_figure_or_spline (cubics_of points) ≡ false
cubics_plain (a ∷ (b ∷ (c ∷ points))) = cubics_plain points
cubics_plain (a ∷ (b ∷ [])) = refl
cubics_plain (a ∷ []) = refl
cubics_plain [] = refl

-- a spline at the end
pub spline_added : (path : List Seg) (control : List Point) → IsLastSpline (path ++ (Spline control false ∷ [])) (length path)
spline_added path control = record { before = path; control = control; closed = false; behind = []; parts = refl; count = refl; local = refl }

-- A write in the place of the last spline is the change of it.
pub spline_written : (path : List Seg) (place : ℕ) (seg : Seg) (control : List Point) (closed : Bool) (change : List Point → Bool → Seg) (new_control : List Point) (new_closed : Bool) → IsLastSpline path place → seg ≡ get_or path place seg → seg ≡ Spline control closed → change control closed ≡ Spline new_control new_closed → (set path place (Spline new_control new_closed) ≡ last_spline_changed change path) × IsLastSpline (set path place (Spline new_control new_closed)) place
spline_written path place seg control closed change new_control new_closed is read spline changed =
    let there : get_or path place seg ≡ Spline is.control is.closed = ap (λ z. get_or z place seg) is.parts ∙ get_or_at is.before (Spline is.control is.closed) is.behind seg place is.count in
    let same : Spline is.control is.closed ≡ Spline control closed = sym there ∙ sym read ∙ spline in
    let points : is.control ≡ control = cc in
    let flag : is.closed ≡ closed = cc in
    let written : set path place (Spline new_control new_closed) ≡ is.before ++ (Spline new_control new_closed ∷ is.behind) = ap (λ z. set z place (Spline new_control new_closed)) is.parts ∙ set_at is.before (Spline is.control is.closed) is.behind (Spline new_control new_closed) place is.count in
    let new : change is.control is.closed ≡ Spline new_control new_closed = ap (λ z. change z is.closed) points ∙ ap (change control) flag ∙ changed in (
      written ∙ ap (λ z. is.before ++ (z ∷ is.behind)) (sym new) ∙ sym (changed_at change path place is),
      record { before = is.before; control = new_control; closed = new_closed; behind = is.behind; parts = written; count = is.count; local = is.local },
    )

pub not_empty : {X : Type 0} (xs : List X) → (length xs == 0) ≡ false → ¬ (xs ≡ [])
not_empty xs some e = let none : (length xs == 0) ≡ true = ap (λ z. length z == 0) e in absurd (cc)

pub continued_some : (path more : List Seg) → ¬ (path ≡ []) → continued path more ≡ path ++ more
continued_some [] more some = absurd (some refl)
continued_some (seg ∷ path) more some = refl

-- Fewer than three points make no cubic.
pub cubics_short : (points : List Point) → length points < 3 → cubics_of points ≡ []
cubics_short [] few = refl
cubics_short (a ∷ []) few = refl
cubics_short (a ∷ (b ∷ [])) few = refl
cubics_short (a ∷ (b ∷ (c ∷ points))) few = absurd (omega arith)
