-- Where an event stands whose places are moved by whole pixels.
use Rattle.std.proofs.Common.{◌≡◌, refl, sym, ap, ap₂, ◌∙◌, ℕ, ◌*◌, ◌≤◌, Option, Some, None, option_map, ℤ, pos, negsuc, ◌+ℤ◌, ◌*ℤ◌, arith}
use Rattle.std.proofs.lemmas.Int.{ints}
use Rattle.ass_events.specs.declared.event.Event.{Event}
use Rattle.ass_num.proofs.Floor.{floor_div-add_mul, product-add}
use Rattle.ass_num.specs.Floor.{floor_div}
use Rattle.ass_num.specs.declared.geometry.Point.{Point}
use Rattle.ass_script.specs.Scripts.{ScriptValue}
use Rattle.draw_numbers.specs.Pens.{point_sum}
use Rattle.event_draws.specs.Stages.{moved_down, origin_by, stage_at}
use Rattle.frame_view.specs.FrameScales.{IsScales}
use Rattle.frame_view.specs.declared.scales.Scales.{Scales}
use Rattle.frame_view.specs.declared.view.FrameView.{FrameView}
use Rattle.override_tags.specs.declared.view.EventView.{EventView}
use Rattle.text_layout.specs.Anchors.{block_corner, on_ground, script_place}
use Rattle.text_layout.specs.LineScales.{line_scales}
use Rattle.text_layout.specs.Scales.{framed}
use Rattle.text_layout.specs.declared.laid.Laid.{Laid}
use Rattle.draw_laws.specs.Moves.{IsWholeMove, place_farther, view_at}
use Rattle.draw_laws.proofs.MovedMarks.{moved_stage}
use Rattle.draw_laws.proofs.MovedNumbers.{same_point, whole_step}

-- ---- places

units_out : (z : ℤ) (n : ℕ) → z *ℤ pos (64 * n) ≡ pos 64 *ℤ (z *ℤ pos n)
units_out (pos a) n = omega (arith, ints)
units_out (negsuc a) n = omega (arith, ints)

factor_out : (z : ℤ) (n : ℕ) → (pos 64 *ℤ z) *ℤ pos n ≡ pos 64 *ℤ (z *ℤ pos n)
factor_out z n =
    let twice = λ (x : ℤ). product-add x x n in
    let b = z +ℤ z in
    let c = b +ℤ b in
    let d = c +ℤ c in
    let e = d +ℤ d in
    let f = e +ℤ e in
    let sum : pos 64 *ℤ z ≡ f +ℤ f = omega (arith, ints) in
    ap (λ (x : ℤ). x *ℤ pos n) sum ∙ omega (arith, ints, twice z, twice b, twice c, twice d, twice e, twice f)

multiple_moved : (len by columns : ℤ) (pixels units : ℕ) → by *ℤ pos pixels ≡ columns *ℤ pos (1000 * units)
    → (len +ℤ by) *ℤ pos (64 * pixels) ≡ (len *ℤ pos (64 * pixels)) +ℤ ((pos 64 *ℤ columns) *ℤ pos (1000 * units))
multiple_moved len by columns pixels units whole =
    product-add len by (64 * pixels)
    ∙ ap (λ (z : ℤ). (len *ℤ pos (64 * pixels)) +ℤ z) (units_out by pixels ∙ (ap (λ (z : ℤ). pos 64 *ℤ z) whole ∙ sym (factor_out columns (1000 * units))))

length_moved : (len by columns : ℤ) (pixels units : ℕ) → 1 ≤ units → by *ℤ pos pixels ≡ columns *ℤ pos (1000 * units)
    → framed (len +ℤ by) pixels units ≡ framed len pixels units +ℤ (pos 64 *ℤ columns)
length_moved len by columns pixels units some whole =
    ap (λ (z : ℤ). floor_div z (pos (1000 * units))) (multiple_moved len by columns pixels units whole)
    ∙ floor_div-add_mul (len *ℤ pos (64 * pixels)) (pos 64 *ℤ columns) (1000 * units) (omega (arith, some))

script_place_moved : (scales : Scales) (by place : ℤ × ℤ) (columns rows : ℤ) → IsScales scales → IsWholeMove scales by columns rows
    → script_place scales (place_farther by place) ≡ point_sum (script_place scales place) (whole_step columns rows)
script_place_moved scales by place columns rows scaled whole =
    same_point _ _ _ _ (length_moved place.0 by.0 columns scales.canvas.x.pixels scales.canvas.x.units scaled.canvas.x.some whole.across)
    (length_moved place.1 by.1 rows scales.canvas.y.pixels scales.canvas.y.units scaled.canvas.y.some whole.down)

ground_moved : (scales : Scales) (p by : Point) → on_ground scales (point_sum p by) ≡ point_sum (on_ground scales p) by
ground_moved scales p by = same_point _ _ _ _ (omega (arith, ints)) (omega (arith, ints))

place_moved : (scales : Scales) (by place : ℤ × ℤ) (columns rows : ℤ) → IsScales scales → IsWholeMove scales by columns rows
    → on_ground scales (script_place scales (place_farther by place)) ≡ point_sum (on_ground scales (script_place scales place)) (whole_step columns rows)
place_moved scales by place columns rows scaled whole =
    ap (on_ground scales) (script_place_moved scales by place columns rows scaled whole) ∙ ground_moved scales (script_place scales place) (whole_step columns rows)

-- ---- corners and origins

down_moved : (p by : Point) (shift : ℤ) → moved_down (point_sum p by) shift ≡ point_sum (moved_down p shift) by
down_moved p by shift = same_point _ _ _ _ refl (omega (arith, ints))

corner_moved : (p by : Point) (align : ℕ) (width height : ℤ) → block_corner (point_sum p by) align width height ≡ point_sum (block_corner p align width height) by
corner_moved p by align width height = same_point _ _ _ _ (omega (arith, ints)) (omega (arith, ints))

origin_moved : (scales : Scales) (by : ℤ × ℤ) (columns rows : ℤ) (p q : Point) (origin : Option (ℤ × ℤ)) → IsScales scales → IsWholeMove scales by columns rows
    → q ≡ point_sum p (whole_step columns rows)
    → origin_by scales q (option_map (place_farther by) origin) ≡ point_sum (origin_by scales p origin) (whole_step columns rows)
origin_moved scales by columns rows p q None scaled whole e = e
origin_moved scales by columns rows p q (Some place) scaled whole e = place_moved scales by place columns rows scaled whole

-- ---- stages

pub stage_moved : (script : ScriptValue) (event : Event) (t : ℤ) (frame : FrameView) (view : EventView) (laid : Laid) (shift : ℤ) (place by : ℤ × ℤ) (origin : Option (ℤ × ℤ))
    (columns rows : ℤ) → IsScales (line_scales script.header frame (view_at view place origin)) → IsWholeMove (line_scales script.header frame (view_at view place origin)) by columns rows
    → stage_at script event t frame (view_at view (place_farther by place) (option_map (place_farther by) origin)) laid shift
    ≡ moved_stage (whole_step columns rows) (stage_at script event t frame (view_at view place origin) laid shift)
stage_moved script event t frame view laid shift place by origin columns rows scaled whole =
    let scales = line_scales script.header frame (view_at view place origin) in
    let step = whole_step columns rows in
    let old = stage_at script event t frame (view_at view place origin) laid shift in
    let at = on_ground scales (script_place scales place) in
    let there = place_moved scales by place columns rows scaled whole in
    let corner = ap (λ (p : Point). moved_down (block_corner p view.align laid.width laid.height) shift) there
    ∙ (ap (λ (p : Point). moved_down p shift) (corner_moved at step view.align laid.width laid.height) ∙ down_moved (block_corner at view.align laid.width laid.height) step shift) in
    let down = ap (λ (p : Point). moved_down p shift) there ∙ down_moved at step shift in
    let turned = origin_moved scales by columns rows (moved_down at shift) _ origin scaled whole down in
    ap₂ (λ (c o : Point). record old { corner = c; origin = o }) corner turned
