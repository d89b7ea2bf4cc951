use Rattle.std.proofs.Common.{◌≡◌, ◌∙◌, ℕ, ◌+◌, ◌-◌, ◌^◌, ◌<◌, ◌≤◌, List, [], ◌∷◌, ◌++◌, map, length, get_or, ℤ, pos, ◌+ℤ◌, ◌≤ℤ◌, sym, ap₂, w64, to_z, arith}
use Rattle.std.proofs.lemmas.Int.{ints}
use Rattle.std.proofs.lemmas.List.{get_or-map, length-map}
use Rattle.std.specs.List.{All, range_with_len}
use Rattle.ass_num.specs.Limits.{max_text_bytes}
use Rattle.line_layout.specs.Breaks.{width}
use Rattle.line_layout.proofs.PenLemmas.{pen-above, pen-le, pen-small}
use Rattle.text_layout.specs.declared.extents.Extent.{Extent}
use Rattle.text_layout.specs.declared.laid.Line.{Line}
use Rattle.text_layout.specs.declared.laid.Placed.{Placed}
use Rattle.text_layout.specs.Extents.{IsItemExtent, no_extent}
use Rattle.text_layout.specs.Limits.{max_block, max_line}
use Rattle.text_layout.specs.Lines.{IsLineWithin, advances_of, placed_item}
use Rattle.text_layout.proofs.BitLemmas.{bits_64, place_bits}
use Rattle.text_layout.proofs.BlockLemmas.{paragraph_of_all}
use Rattle.text_layout.proofs.LineLemmas.{item_step, width-more}
use Rattle.text_layout.proofs.lines.add_items.Goals as goal

-- the farthest that a pen goes
abbrev max_pen : ℕ
max_pen = 2 ^ 48

pen_within : (es : List Extent) (line : Line) (i : ℕ) (x : ℤ) → length es ≤ max_text_bytes → All IsItemExtent es → IsLineWithin (length es) (pos max_line) (pos max_block) line
    → line.first ≤ i → i < length es → x ≡ line.left +ℤ width (advances_of es) line.first i → (pos 0 ≤ℤ x) × (x ≤ℤ pos max_pen)
pen_within es line i x few each h from l is =
    let ws = advances_of es in
    let g = paragraph_of_all es few each in
    let n = length-map es (λ (e : Extent). e.advance) in
    let long : i ≤ length ws = omega (arith, n, l) in
    let near = pen-le ws [] line.first i g from in
    let first = pen-above ws [] line.first g in
    let far = pen-small ws [] i g long in
    let left = h.left in
    let wide = h.wide in
    let right = h.right in
    (omega (arith, ints, is, near, left), omega (arith, ints, is, far, first, wide, right))

-- the advance of an item among those of all items
advance_at : (es : List Extent) (i : ℕ) → i < length es → get_or (advances_of es) i (pos 0) ≡ (get_or es i no_extent).advance
advance_at es i l = get_or-map (λ (e : Extent). e.advance) es i no_extent (pos 0) l

abbrev placed_of : ℕ → ℕ → ℤ → ℤ → Placed
placed_of item line x advance = record { item = item; line = line; x = x; advance = advance }

-- one more item of a line
placed_more : (es : List Extent) (number : ℕ) (line : Line) (i : ℕ) (start before after : List Placed) (x a : ℤ) → i < length es → line.first ≤ i
    → before ≡ start ++ map (placed_item (advances_of es) number line) (range_with_len line.first (i - line.first)) → after ≡ before ++ placed_of i number x a ∷ []
    → x ≡ line.left +ℤ width (advances_of es) line.first i → a ≡ (get_or es i no_extent).advance
    → after ≡ start ++ map (placed_item (advances_of es) number line) (range_with_len line.first (i + 1 - line.first))
placed_more es number line i start before after x a l from h push pen advance =
    item_step (placed_item (advances_of es) number line) line.first i start before after (placed_of i number x a) from h push
    (ap₂ (placed_of i number) pen (advance ∙ sym (advance_at es i l)))

pub overflow_add-x : goal.overflow_add-x
overflow_add-x c =
    let es = c.args.extents.now in
    let i = c.loop-item.item in
    let line = c.args.line.now in
    let last = c.loop-item-test.true in
    let within = c.requires.line.within in
    let l : i < length es = omega (arith, last, within) in
    let p = pen_within es line i (to_z w64 c.loop-item.x-bits) c.requires.few c.requires.extents c.requires.line c.loop-item.auto.item l c.loop-item.invariant.pen in
    let low = p.0 in
    let high = p.1 in
    let reach : IsItemExtent (get_or es i no_extent) = c.requires.extents i no_extent l in
    let wide = reach.advance in
    omega (arith, ints, low, high, wide)

pub loop-item-preserved : goal.loop-item-preserved
loop-item-preserved c =
    let es = c.args.extents.now in
    let i = c.loop-item.item in
    let line = c.args.line.now in
    let last = c.loop-item-test.true in
    let within = c.requires.line.within in
    let l : i < length es = omega (arith, last, within) in
    let pen = c.loop-item.invariant.pen in
    let p = pen_within es line i (to_z w64 c.loop-item.x-bits) c.requires.few c.requires.extents c.requires.line c.loop-item.auto.item l pen in
    let low = p.0 in
    let high = p.1 in
    let reach : IsItemExtent (get_or es i no_extent) = c.requires.extents i no_extent l in
    let wide = reach.advance in
    let n = length-map es (λ (e : Extent). e.advance) in
    let advance = advance_at es i l in
    let more = width-more (advances_of es) line.first i (let m : i < length (advances_of es) = omega (arith, n, l) in m) in
    record {
      value = placed_more es c.args.number line i c.args.placed.now c.loop-item.placed c.push.new.self (to_z w64 c.loop-item.x-bits) (bits_64 (get_or es i no_extent).advance) l c.loop-item.auto.item
          c.loop-item.invariant.value (c.in_ok-push.ensures.ok) pen (place_bits (get_or es i no_extent).advance (omega (arith, ints, wide), omega (arith, ints, wide)));
      pen = omega (arith, ints, pen, more, advance, low, high, wide);
    }
