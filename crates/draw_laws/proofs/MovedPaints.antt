-- Fills on a stage that is moved by whole pixels: a sweep has come as much farther.
use Rattle.std.proofs.Common.{◌≡◌, refl, sym, ap, ap₂, ◌∙◌, ℕ, ◌-◌, ◌<◌, ◌≤◌, Bool, true, false, cond, Option, Some, None, List, [], ◌∷◌, length, get_or, ℤ, pos, neg_ℤ, ◌+ℤ◌, ◌-ℤ◌, ◌*ℤ◌, ◌<ℤ◌, ◌≤ℤ◌, int_lt, subst, slice_get, arith}
use Rattle.std.specs.List.{All}
use Rattle.std.specs.Option.{option_map_or}
use Rattle.std.specs.Prelude.{slice_index_or}
use Rattle.std.proofs.lemmas.Bool.{eq-eqb, false≢true}
use Rattle.std.proofs.lemmas.Int.{ints, clamps}
use Rattle.std.proofs.lemmas.Option.{none-some, slice_get-get_or}
use Rattle.ass_num.proofs.Floor.{floor_div-add_mul}
use Rattle.ass_num.proofs.OrderLemmas.{lt_is, lt_true}
use Rattle.ass_num.specs.Floor.{floor_div, held}
use Rattle.ass_num.specs.Limits.{IsFrameSize}
use Rattle.ass_num.specs.declared.colour.Rgba.{Rgba}
use Rattle.ass_num.specs.declared.size.Size.{Size}
use Rattle.draw_numbers.specs.Colours.{is_awaited, is_swept, plain_paint, primary, secondary, sung_paint, swept_paint, swept_to}
use Rattle.draw_numbers.specs.declared.colours.Paint.{Paint}
use Rattle.event_draws.proofs.MaximalRuns.{runs_maximal}
use Rattle.event_draws.specs.EventDraws.{is_sung_with, left_end, paint_of, right_end, right_of, same_syllable, sung_with}
use Rattle.event_draws.specs.Items.{state_of}
use Rattle.event_draws.specs.Runs.{runs_of}
use Rattle.event_draws.specs.declared.stage.Stage.{Stage}
use Rattle.override_tags.specs.declared.view.EventView.{EventView}
use Rattle.override_tags.specs.declared.view.State.{State}
use Rattle.override_tags.specs.declared.view.Syllable.{Syllable}
use Rattle.text_layout.specs.declared.laid.Placed.{Placed}
use Rattle.draw_laws.specs.Moves.{IsColumn}
use Rattle.draw_laws.proofs.ListPairs.{all_pieces, each_kept}
use Rattle.draw_laws.proofs.MovedMarks.{IsMovedPaint, moved_stage}
use Rattle.draw_laws.proofs.MovedNumbers.{whole_step}

-- ---- edges

same_tests : (b c : Bool) → (b ≡ true → c ≡ true) → (c ≡ true → b ≡ true) → b ≡ c
same_tests true true h k = refl
same_tests false false h k = refl
same_tests true false h k = absurd (false≢true (h refl))
same_tests false true h k = absurd (false≢true (k refl))

edge_later : (edge column columns : ℤ) (w : ℕ) → w ≤ 4096 → pos 0 ≤ℤ column → column <ℤ pos w → pos 0 ≤ℤ (column +ℤ columns) → (column +ℤ columns) <ℤ pos w
    → (column +ℤ columns) <ℤ held (neg_ℤ (pos 262144)) (pos 262144) (edge +ℤ columns) → column <ℤ held (neg_ℤ (pos 262144)) (pos 262144) edge
edge_later edge column columns w small a b c d h = omega (arith, ints, clamps)

edge_sooner : (edge column columns : ℤ) (w : ℕ) → w ≤ 4096 → pos 0 ≤ℤ column → column <ℤ pos w → pos 0 ≤ℤ (column +ℤ columns) → (column +ℤ columns) <ℤ pos w
    → column <ℤ held (neg_ℤ (pos 262144)) (pos 262144) edge → (column +ℤ columns) <ℤ held (neg_ℤ (pos 262144)) (pos 262144) (edge +ℤ columns)
edge_sooner edge column columns w small a b c d h = omega (arith, ints, clamps)

-- A column lies before a held edge as the moved column does before the moved edge.
edge_moved : (size : Size) (edge column columns : ℤ) → IsFrameSize size → IsColumn size column → IsColumn size (column +ℤ columns)
    → int_lt (column +ℤ columns) (held (neg_ℤ (pos 262144)) (pos 262144) (edge +ℤ columns)) ≡ int_lt column (held (neg_ℤ (pos 262144)) (pos 262144) edge)
edge_moved size edge column columns framed here there =
    same_tests _ _
    (λ h. lt_true _ _ (edge_later edge column columns size.w framed.wide here.first here.last there.first there.last (lt_is _ _ h)))
    (λ h. lt_true _ _ (edge_sooner edge column columns size.w framed.wide here.first here.last there.first there.last (lt_is _ _ h)))

-- ---- sweeps

turned_sum : (a b c : ℤ) → (a +ℤ b) +ℤ c ≡ (a +ℤ c) +ℤ b
turned_sum a b c = omega (arith, ints)

swept_moved : (left right columns : ℤ) (s : Syllable) (elapsed : ℤ)
    → swept_to (left +ℤ (pos 64 *ℤ columns)) (right +ℤ (pos 64 *ℤ columns)) s elapsed ≡ swept_to left right s elapsed +ℤ (pos 64 *ℤ columns)
swept_moved left right columns s elapsed =
    let gap : (right +ℤ (pos 64 *ℤ columns)) -ℤ (left +ℤ (pos 64 *ℤ columns)) ≡ right -ℤ left = omega (arith, ints) in
    let part = λ (z : ℤ). floor_div (z *ℤ (elapsed -ℤ s.begin)) (s.end -ℤ s.begin) in
    let gone : part ((right +ℤ (pos 64 *ℤ columns)) -ℤ (left +ℤ (pos 64 *ℤ columns))) ≡ part (right -ℤ left) = ap part gap in
    ap (λ (z : ℤ). (left +ℤ (pos 64 *ℤ columns)) +ℤ z) gone ∙ turned_sum left (pos 64 *ℤ columns) (part (right -ℤ left))

column_moved : (s columns : ℤ) → floor_div (s +ℤ (pos 64 *ℤ columns)) (pos 64) ≡ floor_div s (pos 64) +ℤ columns
column_moved s columns =
    let times : pos 64 *ℤ columns ≡ columns *ℤ pos 64 = omega (arith, ints) in
    ap (λ z. floor_div (s +ℤ z) (pos 64)) times ∙ floor_div-add_mul s columns 64 (omega arith)

record AreEndsMoved (columns a b c d : ℤ) : Type 0 where
  left : c ≡ a +ℤ (pos 64 *ℤ columns)
  right : d ≡ b +ℤ (pos 64 *ℤ columns)

one_colour : (b : Bool) (colour : Rgba) → cond b colour colour ≡ colour
one_colour true colour = refl
one_colour false colour = refl

pub plain_same : (size : Size) (columns : ℤ) (colour : Rgba) → IsMovedPaint size columns (plain_paint colour) (plain_paint colour)
plain_same size columns colour =
    record { left = refl; right = refl; sweep = λ column here there. one_colour (int_lt (column +ℤ columns) (pos 0)) colour ∙ sym (one_colour (int_lt column (pos 0)) colour) }

paint_if : (size : Size) (columns : ℤ) (b : Bool) (p q r s : Paint) → IsMovedPaint size columns p r → IsMovedPaint size columns q s → IsMovedPaint size columns (cond b p q) (cond b r s)
paint_if size columns true p q r s h k = h
paint_if size columns false p q r s h k = k

swept_paint_moved : (size : Size) (columns : ℤ) (fade : ℕ) (elapsed : ℤ) (state : State) (left right later last : ℤ) (s : Syllable) → IsFrameSize size
    → AreEndsMoved columns left right later last
    → IsMovedPaint size columns (swept_paint fade elapsed state left right s) (swept_paint fade elapsed state later last s)
swept_paint_moved size columns fade elapsed state left right later last s framed ends =
    let edge : floor_div (swept_to later last s elapsed) (pos 64) ≡ floor_div (swept_to left right s elapsed) (pos 64) +ℤ columns =
    ap₂ (λ (a b : ℤ). floor_div (swept_to a b s elapsed) (pos 64)) ends.left ends.right
    ∙ ap (λ (z : ℤ). floor_div z (pos 64)) (swept_moved left right columns s elapsed) ∙ column_moved (swept_to left right s elapsed) columns in
    record {
      left = refl;
      right = refl;
      sweep = λ column here there.
          ap (λ (z : ℤ). cond (int_lt (column +ℤ columns) (held (neg_ℤ (pos 262144)) (pos 262144) z)) (primary fade state) (secondary fade state)) edge
          ∙ ap (λ (b : Bool). cond b (primary fade state) (secondary fade state)) (edge_moved size (floor_div (swept_to left right s elapsed) (pos 64)) column columns framed here there);
    }

sung_moved : (size : Size) (columns : ℤ) (fade : ℕ) (elapsed : ℤ) (state : State) (left right later last : ℤ) (sung : Option Syllable) → IsFrameSize size
    → ((s : Syllable) → sung ≡ Some s → AreEndsMoved columns left right later last)
    → IsMovedPaint size columns (sung_paint fade elapsed state left right sung) (sung_paint fade elapsed state later last sung)
sung_moved size columns fade elapsed state left right later last None framed ends = plain_same size columns (primary fade state)
sung_moved size columns fade elapsed state left right later last (Some s) framed ends =
    paint_if size columns (is_swept elapsed s) (swept_paint fade elapsed state left right s) (plain_paint (primary fade state)) (swept_paint fade elapsed state later last s)
    (plain_paint (primary fade state)) (swept_paint_moved size columns fade elapsed state left right later last s framed (ends s refl)) (plain_same size columns (primary fade state))

-- ---- the ends of a syllable

left_moved : (stage : Stage) (columns rows : ℤ) (items : List Placed) → 0 < length items
    → left_end (moved_stage (whole_step columns rows) stage) items ≡ left_end stage items +ℤ (pos 64 *ℤ columns)
left_moved stage columns rows [] some = absurd (omega arith)
left_moved stage columns rows (a ∷ items) some = turned_sum stage.corner.x (pos 64 *ℤ columns) a.x

right_moved : (stage : Stage) (columns rows : ℤ) (items : List Placed) → 0 < length items
    → right_end (moved_stage (whole_step columns rows) stage) items ≡ right_end stage items +ℤ (pos 64 *ℤ columns)
right_moved stage columns rows [] some = absurd (omega arith)
right_moved stage columns rows (a ∷ items) some =
    let moved = moved_stage (whole_step columns rows) stage in
    let last = get_or (a ∷ items) (length (a ∷ items) - 1) a in
    let found : slice_get (a ∷ items) (length (a ∷ items) - 1) ≡ Some last = slice_get-get_or (a ∷ items) (length (a ∷ items) - 1) a (omega arith) in
    let there : right_of moved last ≡ right_of stage last +ℤ (pos 64 *ℤ columns) =
    ap (λ (z : ℤ). z +ℤ last.advance) (turned_sum stage.corner.x (pos 64 *ℤ columns) last.x) ∙ turned_sum (stage.corner.x +ℤ last.x) (pos 64 *ℤ columns) last.advance in
    ap (λ (o : Option Placed). option_map_or (right_of moved) o (pos 0)) found ∙ there
    ∙ ap (λ (o : Option Placed). option_map_or (right_of stage) o (pos 0) +ℤ (pos 64 *ℤ columns)) (sym found)

-- Where the state of an item is sung, some item of the line is sung with it.
abbrev pub IsSungWithSome : EventView → List Placed → Placed → Type 0
IsSungWithSome view items item = (s : Syllable) → (state_of view item).sung ≡ Some s → 0 < length (sung_with view (state_of view item) items)

same_self : (o : Option Syllable) (s : Syllable) → o ≡ Some s → same_syllable o o ≡ true
same_self None s e = absurd (none-some s e)
same_self (Some a) s e = eq-eqb a.index a.index refl

each_sung : (view : EventView) (items : List Placed) → All (IsSungWithSome view items) items
each_sung view items = λ k d within s e.
    let item = slice_index_or items k d in
    each_kept (is_sung_with view (state_of view item)) items k d within (same_self (state_of view item).sung s e)

-- So it is in each run.
pub runs_sung : (view : EventView) (items : List Placed) → All (All (IsSungWithSome view items)) (runs_of view items)
runs_sung view items =
    all_pieces (IsSungWithSome view items) (runs_of view items)
    (subst (λ (xs : List Placed). All (IsSungWithSome view items) xs) (sym (runs_maximal view items).whole) (each_sung view items))

pub paint_moved : (stage : Stage) (columns rows : ℤ) (view : EventView) (items : List Placed) (item : Placed) → IsFrameSize stage.size → IsSungWithSome view items item
    → IsMovedPaint stage.size columns (paint_of stage view items (state_of view item)) (paint_of (moved_stage (whole_step columns rows) stage) view items (state_of view item))
paint_moved stage columns rows view items item framed sung =
    let state = state_of view item in
    let moved = moved_stage (whole_step columns rows) stage in
    let sharers = sung_with view state items in
    paint_if stage.size columns (is_awaited stage.elapsed state.sung) (plain_paint (secondary stage.fade state)) _ (plain_paint (secondary stage.fade state)) _
    (plain_same stage.size columns (secondary stage.fade state))
    (sung_moved stage.size columns stage.fade stage.elapsed state (left_end stage sharers) (right_end stage sharers) (left_end moved sharers) (right_end moved sharers) state.sung framed
    (λ s e. record { left = left_moved stage columns rows sharers (sung s e); right = right_moved stage columns rows sharers (sung s e) }))
