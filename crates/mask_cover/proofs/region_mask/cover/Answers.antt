use Rattle.std.proofs.Common.{refl, ◌≡◌, ◌<◌, true, length, pos, ◌+ℤ◌, ◌-ℤ◌, ◌≤ℤ◌, w32, w64, to_z, of_z, ap, sym, ◌∙◌, arith, rules}
use Rattle.std.proofs.lemmas.Int.{ints, to_z-of_z}
use Rattle.std.proofs.lemmas.Bool.{and_parts}
use Rattle.std.specs.Int.RustNames.{FitsSigned}
use Rattle.ass_num.specs.Coverage.{first_sample, box_of}
use Rattle.ass_num.specs.Masks.{MaskValue, is_mask}
use Rattle.ass_num.specs.Regions.{all_ascend}
use Rattle.mask_cover.proofs.CoverLemmas.{Spans, spans_full, no_pixels, is_cover, empty_cover, spans_inside, falls_same, some_pixels, span_order, mask_ok, last_row, cells_for}
use Rattle.mask_cover.proofs.ReachLemmas.{cover_within}
use Rattle.mask_cover.proofs.SpanLemmas.{no_items}
use Rattle.mask_cover.proofs.region_mask.cover.Goals as goal

pub returns-then-len-eq0 : goal.returns-then-len-eq0
returns-then-len-eq0 c =
    let none : length c.rows-rows.result.now ≡ 0 = sym c.len.ensures ∙ c.if-len-eq0.true in
    let cover = empty_cover c.args.region.now c.args.px c.args.py (sym c.rows-rows.ensures.rows ∙ no_items c.rows-rows.result.now none) in
    rw c.empty.ensures (record { mask = cover; canonical = refl; within = cover_within c.args.region.now.top c.args.region.now.rows c.args.px c.args.py no_pixels c.requires.px c.requires.py refl cover })

pub overflow_add-from : goal.overflow_add-from
overflow_add-from c =
    let len : c.len-2.result ≡ length c.args.region.now.rows = c.len-2.ensures ∙ ap length c.rows-rows.ensures.rows in
    let top : FitsSigned w32 c.top-top.result = search rules in
    omega (arith, ints, len, c.top-top.ensures, c.from-2.ensures, c.requires.rows)

pub axis_of-down-requires-clause-some : goal.axis_of-down-requires-clause-some
axis_of-down-requires-clause-some c =
    let len : c.len-2.result ≡ length c.args.region.now.rows = c.len-2.ensures ∙ ap length c.rows-rows.ensures.rows in
    let top : FitsSigned w32 c.top-top.result = search rules in
    omega (arith, ints, len, c.top-top.ensures, c.from-2.ensures, c.requires.rows, c.len.ensures, c.len-2.ensures, c.if-len-eq0.false)

pub axis_of-down-requires-clause-high : goal.axis_of-down-requires-clause-high
axis_of-down-requires-clause-high c =
    let len : c.len-2.result ≡ length c.args.region.now.rows = c.len-2.ensures ∙ ap length c.rows-rows.ensures.rows in
    let top : FitsSigned w32 c.top-top.result = search rules in
    omega (arith, ints, len, c.top-top.ensures, c.from-2.ensures, c.requires.rows)

pub cover_rows-requires-clause-ascends : goal.cover_rows-requires-clause-ascends
cover_rows-requires-clause-ascends c = rw c.rows-rows.ensures.rows (and_parts (all_ascend c.args.region.now.rows) _ c.rows-rows.ensures.canonical).0

pub cover_rows-requires-clause-inside : goal.cover_rows-requires-clause-inside
cover_rows-requires-clause-inside c =
    let rows = c.rows-rows.result.now in
    let span = c.span_of-span.result in
    let across = c.axis_of-across.result in
    let ascends : all_ascend rows ≡ true = rw c.rows-rows.ensures.rows (and_parts (all_ascend c.args.region.now.rows) _ c.rows-rows.ensures.canonical).0 in
    let fits : FitsSigned w64 across.start = search rules in
    let same : to_z w64 (of_z w64 across.start) ≡ across.start = to_z-of_z w64 across.start fits in
    let a : FitsSigned w32 span.from = search rules in
    let b : FitsSigned w32 span.to = search rules in
    rw same (spans_inside rows c.args.px span across.first across.start across.count ascends c.span_of-span.ensures
    (falls_same c.args.px _ span.from across.first (omega (arith, ints)) c.axis_of-across.ensures.first)
    (falls_same c.args.px _ (span.to -ℤ pos 1) _ (omega (arith, ints, c.from.ensures)) c.axis_of-across.ensures.last)
    c.axis_of-across.ensures.start)

pub new-requires : goal.new-requires
new-requires c =
    let across = c.axis_of-across.result in
    let down = c.axis_of-down.result in
    let span = c.span_of-span.result in
    let a : FitsSigned w32 span.from = search rules in
    let b : FitsSigned w32 span.to = search rules in
    let len : c.len-2.result ≡ length c.args.region.now.rows = c.len-2.ensures ∙ ap length c.rows-rows.ensures.rows in
    let top : FitsSigned w32 c.top-top.result = search rules in
    let from : c.from-2.result ≡ c.args.region.now.top = omega (arith, ints, c.from-2.ensures, c.top-top.ensures) in
    let w : 0 < across.count = some_pixels c.args.px span.from (span.to -ℤ pos 1) across.first across.count (span_order c.rows-rows.result.now (length c.rows-rows.result.now) span c.span_of-span.ensures)
    (falls_same c.args.px _ span.from across.first (omega (arith, ints)) c.axis_of-across.ensures.first)
    (falls_same c.args.px _ (span.to -ℤ pos 1) _ (omega (arith, ints, c.from.ensures)) c.axis_of-across.ensures.last) in
    let order : c.args.region.now.top ≤ℤ ((c.args.region.now.top +ℤ pos (length c.args.region.now.rows)) -ℤ pos 1) = omega (arith, ints, len, c.len.ensures, c.len-2.ensures, c.if-len-eq0.false) in
    let h : 0 < down.count = some_pixels c.args.py c.args.region.now.top ((c.args.region.now.top +ℤ pos (length c.args.region.now.rows)) -ℤ pos 1) down.first down.count order
    (falls_same c.args.py _ c.args.region.now.top down.first (omega (arith, ints, c.top-top.ensures)) c.axis_of-down.ensures.first)
    (falls_same c.args.py _ ((c.args.region.now.top +ℤ pos (length c.args.region.now.rows)) -ℤ pos 1) _ (last_row c.args.region.now.top c.from-2.result (length c.args.region.now.rows) c.len-2.result (rw c.top-top.ensures at top) from len c.requires.rows) c.axis_of-down.ensures.last) in
    mask_ok (to_z w32 (of_z w32 across.first)) (to_z w32 (of_z w32 down.first)) across.count down.count c.in_ok-bytes.bytes.items c.in_ok-bytes.ensures.count w h

pub returns : goal.returns
returns c =
    let region = c.args.region.now in
    let across = c.axis_of-across.result in
    let down = c.axis_of-down.result in
    let span = c.span_of-span.result in
    let a : FitsSigned w32 span.from = search rules in
    let b : FitsSigned w32 span.to = search rules in
    let x : FitsSigned w32 across.first = search rules in
    let y : FitsSigned w32 down.first = search rules in
    let s : FitsSigned w64 across.start = search rules in
    let t : FitsSigned w64 down.start = search rules in
    let x_is : to_z w32 (of_z w32 across.first) ≡ across.first = to_z-of_z w32 across.first x in
    let y_is : to_z w32 (of_z w32 down.first) ≡ down.first = to_z-of_z w32 down.first y in
    let len : c.len-2.result ≡ length region.rows = c.len-2.ensures ∙ ap length c.rows-rows.ensures.rows in
    let top : FitsSigned w32 c.top-top.result = search rules in
    let from : c.from-2.result ≡ c.args.region.now.top = omega (arith, ints, c.from-2.ensures, c.top-top.ensures) in
    let m : MaskValue = record { x = across.first; y = down.first; w = across.count; h = down.count; bytes = c.in_ok-bytes.bytes.items } in
    let is : c.new.result ≡ record { x = across.first; y = down.first; w = across.count; h = down.count; bytes = c.in_ok-bytes.bytes.items } = rw (x_is, y_is) at c.new.ensures in
    let some : 0 < length region.rows = omega (arith, len, c.len.ensures, c.len-2.ensures, c.if-len-eq0.false) in
    let spans : Spans region c.args.px c.args.py (record { x = across.first; y = down.first; w = across.count; h = down.count }) = record {
      span = span;
      is_span = rw c.rows-rows.ensures.rows at c.span_of-span.ensures;
      canonical = c.rows-rows.ensures.canonical;
      some = some;
      left = falls_same c.args.px _ span.from across.first (omega (arith, ints)) c.axis_of-across.ensures.first;
      right = falls_same c.args.px _ (span.to -ℤ pos 1) _ (omega (arith, ints, c.from.ensures)) c.axis_of-across.ensures.last;
      top = falls_same c.args.py _ region.top down.first (omega (arith, ints, c.top-top.ensures)) c.axis_of-down.ensures.first;
      bottom = falls_same c.args.py _ ((region.top +ℤ pos (length region.rows)) -ℤ pos 1) _ (last_row c.args.region.now.top c.from-2.result (length c.args.region.now.rows) c.len-2.result (rw c.top-top.ensures at top) from len c.requires.rows) c.axis_of-down.ensures.last;
    } in
    let above : pos c.place_of-above.result ≡ region.top -ℤ first_sample c.args.py down.first = omega (arith, ints, c.place_of-above.ensures, c.axis_of-down.ensures.start, c.top-top.ensures) in
    let cells = cells_for _ region.rows _ across.start c.place_of-above.result across.count down.count c.in_ok-bytes.bytes.items c.rows-rows.ensures.rows (omega (arith, ints)) c.in_ok-bytes.ensures in
    let cover = is_cover region c.args.px c.args.py m across.start c.place_of-above.result spans c.axis_of-across.ensures.start above cells.cells in
    let full = spans_full region c.args.px c.args.py (box_of m) spans in
    let ok : is_mask m ≡ true = mask_ok m.x m.y m.w m.h m.bytes cells.count full.0 full.1 in
    rw is (record { mask = cover; canonical = ok; within = cover_within region.top region.rows c.args.px c.args.py m c.requires.px c.requires.py ok cover })
