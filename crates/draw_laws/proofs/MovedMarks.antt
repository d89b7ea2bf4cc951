-- What items leave on a stage that is moved by whole pixels, and the draws of that.
use Rattle.std.proofs.Common.{◌≡◌, refl, sym, ap, ap₂, ◌∙◌, ℕ, Bool, true, false, cond, Option, Some, None, option_and_then, option_map, List, [], ◌∷◌, map, ℤ, ◌+ℤ◌, ◌-ℤ◌, int_lt, subst, arith}
use Rattle.std.specs.List.{All, AllZip}
use Rattle.std.proofs.lemmas.Bool.{false≢true}
use Rattle.std.proofs.lemmas.Int.{ints}
use Rattle.std.proofs.lemmas.List.Elements.{All-head, All-tail}
use Rattle.ass_num.specs.Limits.{IsFrameSize}
use Rattle.ass_num.specs.declared.geometry.Path.{Path}
use Rattle.ass_num.specs.declared.geometry.Point.{Point}
use Rattle.ass_num.specs.declared.geometry.Seg.{Seg}
use Rattle.ass_num.specs.declared.size.Size.{Size}
use Rattle.bdf_font.specs.Fonts.{FontValue}
use Rattle.draw_numbers.specs.Pens.{is_near_frame, point_sum, spot_at}
use Rattle.draw_numbers.specs.declared.colours.Paint.{Paint}
use Rattle.draw_numbers.specs.declared.pens.Spot.{Spot}
use Rattle.event_draws.specs.Draws.{box_mark, draw_of, draw_of_marks, is_near_stamp, part_from, stamp_of, stamps_of}
use Rattle.event_draws.specs.Items.{shown_of, state_of}
use Rattle.event_draws.specs.Marks.{char_mark, char_outline, drawing_mark, mark_by, mark_of, marks_of, pen_on}
use Rattle.event_draws.specs.declared.stage.Stage.{Stage}
use Rattle.mask_keys.specs.declared.composite_key.CompositeKey.{CompositeKey}
use Rattle.mask_keys.specs.declared.composite_key.Part.{Part}
use Rattle.mask_keys.specs.declared.outline_key.OutlineKey.{OutlineKey}
use Rattle.mask_keys.specs.declared.plans.Clip.{Clip}
use Rattle.override_tags.specs.declared.view.EventView.{EventView}
use Rattle.override_tags.specs.declared.view.ShownKind.{ShownKind}
use Rattle.override_tags.specs.declared.view.ShownKind.TheVariants as shown
use Rattle.override_tags.specs.declared.view.State.{State}
use Rattle.text_layout.specs.Extents.{drawn_extent}
use Rattle.text_layout.specs.Kinds.{char_of}
use Rattle.text_layout.specs.Scales.{drawing_matrix}
use Rattle.text_layout.specs.declared.laid.Line.{Line}
use Rattle.text_layout.specs.declared.laid.Placed.{Placed}
use Rattle.draw_laws.specs.Moves.{IsColumn, IsMovedDraw}
use Rattle.draw_laws.proofs.ListPairs.{given_images}
use Rattle.draw_laws.proofs.MovedNumbers.{IsMovedSpot, same_point, spot_moved, whole_step}
use Rattle.draw_laws.proofs.Types.{Making, Mark, Stamp}

-- ---- marks

abbrev pub moved_stage : Point → Stage → Stage
moved_stage by stage = record stage { corner = point_sum stage.corner by; origin = point_sum stage.origin by }

abbrev pub moved_mark : Point → Mark → Mark
moved_mark by mark = record mark { pen = point_sum mark.pen by }

by_segs : (by : Point) (stage : Stage) (state : State) (pen : Point) (path : Path) (segs : List Seg)
    → drawing_mark (moved_stage by stage) state (point_sum pen by) path segs ≡ option_map (moved_mark by) (drawing_mark stage state pen path segs)
by_segs by stage state pen path [] = refl
by_segs by stage state pen path (s ∷ segs) =
    let made = drawing_mark stage state pen path (s ∷ segs) in
    let height = (drawn_extent (drawing_matrix stage.scales state) (s ∷ segs)).ascent in
    ap (λ (at : Point). option_map (λ (mark : Mark). record mark { pen = at }) made)
    (same_point (pen.x +ℤ by.x) (pen.x +ℤ by.x) ((pen.y +ℤ by.y) -ℤ height) ((pen.y -ℤ height) +ℤ by.y) refl (omega (arith, ints)))

by_outline : (by pen : Point) (o : Option OutlineKey)
    → option_map (λ (key : OutlineKey). let m : Mark = record { outline = key; pen = point_sum pen by } in m) o
    ≡ option_map (moved_mark by) (option_map (λ (key : OutlineKey). let m : Mark = record { outline = key; pen = pen } in m) o)
by_outline by pen None = refl
by_outline by pen (Some key) = refl

by_char : (by : Point) (stage : Stage) (fonts : List FontValue) (names : List (List ℕ)) (state : State) (pen : Point) (o : Option ℕ)
    → option_and_then (char_mark (moved_stage by stage) fonts names state (point_sum pen by)) o ≡ option_map (moved_mark by) (option_and_then (char_mark stage fonts names state pen) o)
by_char by stage fonts names state pen None = refl
by_char by stage fonts names state pen (Some c) = by_outline by pen (char_outline stage fonts names state c)

by_kind : (by : Point) (stage : Stage) (fonts : List FontValue) (view : EventView) (state : State) (pen : Point) (kind : ShownKind)
    → mark_by (moved_stage by stage) fonts view state (point_sum pen by) kind ≡ option_map (moved_mark by) (mark_by stage fonts view state pen kind)
by_kind by stage fonts view state pen (shown.Drawing path) = by_segs by stage state pen path path.segs
by_kind by stage fonts view state pen (shown.Char c) = by_char by stage fonts view.names state pen (char_of view.wrap (shown.Char c))
by_kind by stage fonts view state pen shown.Hard = by_char by stage fonts view.names state pen (char_of view.wrap shown.Hard)
by_kind by stage fonts view state pen shown.Soft = by_char by stage fonts view.names state pen (char_of view.wrap shown.Soft)

mark_moved : (by : Point) (stage : Stage) (fonts : List FontValue) (view : EventView) (line : Line) (item : Placed)
    → mark_of (moved_stage by stage) fonts view line item ≡ option_map (moved_mark by) (mark_of stage fonts view line item)
mark_moved by stage fonts view line item =
    let pens : pen_on (moved_stage by stage) line item ≡ point_sum (pen_on stage line item) by = same_point _ _ _ _ (omega (arith, ints)) (omega (arith, ints)) in
    ap (λ (pen : Point). mark_by (moved_stage by stage) fonts view (state_of view item) pen (shown_of view item).kind) pens
    ∙ by_kind by stage fonts view (state_of view item) (pen_on stage line item) (shown_of view item).kind

pub marks_moved : (by : Point) (stage : Stage) (fonts : List FontValue) (view : EventView) (line : Line) (items : List Placed)
    → marks_of (moved_stage by stage) fonts view line items ≡ map (moved_mark by) (marks_of stage fonts view line items)
marks_moved by stage fonts view line items =
    given_images (mark_of stage fonts view line) (mark_of (moved_stage by stage) fonts view line) (moved_mark by) items (mark_moved by stage fonts view line)

pub box_moved : (by : Point) (stage : Stage) (line : Line) (state : State) → box_mark (moved_stage by stage) line state ≡ moved_mark by (box_mark stage line state)
box_moved by stage line state =
    let pens : (box_mark (moved_stage by stage) line state).pen ≡ point_sum (box_mark stage line state).pen by = same_point _ _ _ _ (omega (arith, ints)) (omega (arith, ints)) in
    ap (λ (at : Point). record (box_mark stage line state) { pen = at }) pens

-- ---- stamps

record IsMovedStamp (columns rows : ℤ) (a b : Stamp) : Type 0 where
  outline : b.outline ≡ a.outline
  spot : IsMovedSpot columns rows a.spot b.spot

-- A mark's mask stands near the frame.
abbrev pub IsMarkNear : Stage → Making → Mark → Type 0
IsMarkNear stage making mark = is_near_frame stage.size (spot_at stage.origin making.angle mark.pen making.offsets) ≡ true

both_kept : {A B : Type 0} (R : A → B → Type 0) (b c : Bool) (x : A) (y : B) (xs : List A) (ys : List B) → b ≡ true → c ≡ true → R x y → AllZip R xs ys
    → AllZip R (cond b (x ∷ xs) xs) (cond c (y ∷ ys) ys)
both_kept R true true x y xs ys h k r rs = (r, rs)
both_kept R false c x y xs ys h k r rs = absurd (false≢true h)
both_kept R true false x y xs ys h k r rs = absurd (false≢true k)

stamps_moved : (stage : Stage) (making : Making) (columns rows : ℤ) (marks : List Mark) → IsFrameSize stage.size → All (IsMarkNear stage making) marks
    → All (IsMarkNear (moved_stage (whole_step columns rows) stage) making) (map (moved_mark (whole_step columns rows)) marks)
    → AllZip (IsMovedStamp columns rows) (stamps_of stage making marks)
    (stamps_of (moved_stage (whole_step columns rows) stage) making (map (moved_mark (whole_step columns rows)) marks))
stamps_moved stage making columns rows [] framed near later = tt
stamps_moved stage making columns rows (mark ∷ marks) framed near later =
    let by = whole_step columns rows in
    let here : IsMarkNear stage making mark = All-head (IsMarkNear stage making) mark marks near in
    let there : IsMarkNear (moved_stage by stage) making (moved_mark by mark) = All-head (IsMarkNear (moved_stage by stage) making) (moved_mark by mark) (map (moved_mark by) marks) later in
    both_kept (IsMovedStamp columns rows) (is_near_stamp stage (stamp_of stage making mark)) (is_near_stamp (moved_stage by stage) (stamp_of (moved_stage by stage) making (moved_mark by mark)))
    (stamp_of stage making mark) (stamp_of (moved_stage by stage) making (moved_mark by mark)) (stamps_of stage making marks) (stamps_of (moved_stage by stage) making (map (moved_mark by) marks))
    here there
    (record { outline = refl; spot = spot_moved stage.size stage.origin making.angle making.offsets columns rows mark.pen framed here there })
    (stamps_moved stage making columns rows marks framed (All-tail (IsMarkNear stage making) mark marks near)
    (All-tail (IsMarkNear (moved_stage by stage) making) (moved_mark by mark) (map (moved_mark by) marks) later))

-- ---- draws

-- The colours are the same, and a sweep has come so many columns farther.
pub record IsMovedPaint (size : Size) (columns : ℤ) (p q : Paint) : Type 0 where
  pub left : q.left ≡ p.left
  pub right : q.right ≡ p.right
  pub sweep : (column : ℤ) → IsColumn size column → IsColumn size (column +ℤ columns)
      → cond (int_lt (column +ℤ columns) q.edge) q.left q.right ≡ cond (int_lt column p.edge) p.left p.right

abbrev part_made : Making → OutlineKey → ℕ → ℕ → ℤ → ℤ → Part
part_made making outline px py dx dy = record {
  mask =
      record { outline = outline; rx = making.radii.x; ry = making.radii.y; px = px; py = py; edges = making.softness.edges; blur = making.softness.blur };
  dx = dx;
  dy = dy;
}

same_gap : (a b p q n : ℤ) → b ≡ a +ℤ n → q ≡ p +ℤ n → b -ℤ q ≡ a -ℤ p
same_gap a b p q n e f = omega (arith, ints, e, f)

same_part : (making : Making) (columns rows : ℤ) (p q : Spot) (a b : Stamp) → IsMovedSpot columns rows p q → IsMovedStamp columns rows a b
    → part_from making q b ≡ part_from making p a
same_part making columns rows p q a b place h =
    let dx = same_gap a.spot.x b.spot.x p.x q.x columns h.spot.x place.x in
    let dy = same_gap a.spot.y b.spot.y p.y q.y rows h.spot.y place.y in
    ap (λ (o : OutlineKey). part_made making o b.spot.px b.spot.py (b.spot.x -ℤ q.x) (b.spot.y -ℤ q.y)) h.outline
    ∙ ap (λ (n : ℕ). part_made making a.outline n b.spot.py (b.spot.x -ℤ q.x) (b.spot.y -ℤ q.y)) h.spot.px
    ∙ ap (λ (n : ℕ). part_made making a.outline a.spot.px n (b.spot.x -ℤ q.x) (b.spot.y -ℤ q.y)) h.spot.py
    ∙ ap (λ (z : ℤ). part_made making a.outline a.spot.px a.spot.py z (b.spot.y -ℤ q.y)) dx
    ∙ ap (λ (z : ℤ). part_made making a.outline a.spot.px a.spot.py (a.spot.x -ℤ p.x) z) dy

same_parts : (making : Making) (columns rows : ℤ) (p q : Spot) (cs bs : List Stamp) → IsMovedSpot columns rows p q → AllZip (IsMovedStamp columns rows) cs bs
    → map (part_from making q) bs ≡ map (part_from making p) cs
same_parts making columns rows p q [] [] place h = refl
same_parts making columns rows p q [] (b ∷ bs) place h = absurd h
same_parts making columns rows p q (a ∷ cs) [] place h = absurd h
same_parts making columns rows p q (a ∷ cs) (b ∷ bs) place h =
    ap₂ (λ (x : Part) (xs : List Part). x ∷ xs) (same_part making columns rows p q a b place h.0) (same_parts making columns rows p q cs bs place h.1)

draw_moved : (size : Size) (making : Making) (columns rows : ℤ) (p q : Paint) (clip : Clip) (cs bs : List Stamp) → IsMovedPaint size columns p q
    → AllZip (IsMovedStamp columns rows) cs bs → AllZip (IsMovedDraw size columns rows) (draw_of making p clip cs) (draw_of making q clip bs)
draw_moved size making columns rows p q clip [] [] paints h = tt
draw_moved size making columns rows p q clip [] (b ∷ bs) paints h = absurd h
draw_moved size making columns rows p q clip (a ∷ cs) [] paints h = absurd h
draw_moved size making columns rows p q clip (a ∷ cs) (b ∷ bs) paints h = (
  record {
    key = ap (λ (parts : List Part). let key : CompositeKey = record { parts = parts } in key) (same_parts making columns rows a.spot b.spot (a ∷ cs) (b ∷ bs) h.0.spot h);
    x = h.0.spot.x;
    y = h.0.spot.y;
    left = paints.left;
    right = paints.right;
    sweep = paints.sweep;
    clip = refl;
  },
  tt,
)

-- The draw of the same marks on a stage that is moved by whole pixels.
pub marks_draw_moved : (stage : Stage) (making : Making) (columns rows : ℤ) (p q : Paint) (clip : Clip) (marks moved : List Mark) → IsFrameSize stage.size
    → IsMovedPaint stage.size columns p q → moved ≡ map (moved_mark (whole_step columns rows)) marks → All (IsMarkNear stage making) marks
    → All (IsMarkNear (moved_stage (whole_step columns rows) stage) making) moved
    → AllZip (IsMovedDraw stage.size columns rows) (draw_of_marks stage making p clip marks) (draw_of_marks (moved_stage (whole_step columns rows) stage) making q clip moved)
marks_draw_moved stage making columns rows p q clip marks moved framed paints e near later =
    let by = whole_step columns rows in
    let after : All (IsMarkNear (moved_stage by stage) making) (map (moved_mark by) marks) = subst (λ (ms : List Mark). All (IsMarkNear (moved_stage by stage) making) ms) e later in
    subst (λ (ms : List Mark). AllZip (IsMovedDraw stage.size columns rows) (draw_of_marks stage making p clip marks) (draw_of_marks (moved_stage by stage) making q clip ms)) (sym e)
    (draw_moved stage.size making columns rows p q clip (stamps_of stage making marks) (stamps_of (moved_stage by stage) making (map (moved_mark by) marks)) paints
    (stamps_moved stage making columns rows marks framed near after))
