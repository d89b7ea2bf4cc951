use Rattle.std.proofs.Common.{◌≡◌, ◌≤◌, ◌<◌, ◌+◌, ◌-◌, ◌∙◌, false, true, Some, None, Option, sym, ap, subst, arith, rules, refl, ◌-ℤ◌, FitsSigned, w32, to_z, of_z, to_z-of_z}
use Rattle.std.specs.Prelude.{IfOk}
use Rattle.sfnt_glyphs.specs.declared.drawn.Drawn.{Drawn}
use Rattle.std.proofs.lemmas.Int.{ints}
use Rattle.font_bytes.specs.Bytes.{u16_at, s16_at}
use Rattle.sfnt_glyphs.specs.Metrics.{bearing_of}
use Rattle.sfnt_glyphs.specs.Glyphs.{no_points, glyph_drawn, stretch_drawn, parts_from, drawn_part, part_at, max_parts}
use Rattle.sfnt_glyphs.proofs.Drawings.{drawn-deep, drawn-missing, drawn-blank, drawn-stretch, parts-spent, parts-none, parts-broken, parts-last, parts-next, stretch-simple, stretch-parts}
use Rattle.sfnt_glyphs.proofs.Wide.{small_difference}
use Rattle.sfnt_glyphs.proofs.drawing.+drawing.Goals as goal

pub glyph_drawn-returns-then-depth-eq0 : goal.glyph_drawn-returns-then-depth-eq0
glyph_drawn-returns-then-depth-eq0 t c = sym (drawn-deep c.args.font.now c.args.depth c.args.g c.args.room c.if-depth-eq0.true)

pub glyph_drawn-returns-then-g-numbers : goal.glyph_drawn-returns-then-g-numbers
glyph_drawn-returns-then-g-numbers t c =
    let most : c.args.font.now.numbers.glyphs ≤ c.args.g = rw c.numbers.ensures at c.if-g-numbers.true in
    sym (drawn-missing c.args.font.now c.args.depth c.args.g c.args.room (omega arith) most)

pub glyph_drawn-returns-in-Some : goal.glyph_drawn-returns-in-Some
glyph_drawn-returns-in-Some t c =
    let font = c.args.font.now in
    let less : c.args.g < font.numbers.glyphs = rw c.numbers.ensures at c.if-g-numbers.false in
    let fits : FitsSigned w32 c.bearing_of.result = search rules in
    let same : stretch_drawn (glyph_drawn font (c.args.depth - 1)) font.bytes (bearing_of font c.args.g) c.in-Some.stretch c.args.room ≡ glyph_drawn font c.args.depth c.args.g c.args.room =
    sym (drawn-stretch font c.args.depth c.args.g c.args.room c.in-Some.stretch (omega arith) less c.in-Some.ensures.value) in
    subst (λ (z : Option Drawn). IfOk c.stretch_drawn.result (λ whole. whole ≡ z)) (ap (λ z. stretch_drawn (glyph_drawn font (c.args.depth - 1)) font.bytes z c.in-Some.stretch c.args.room) (to_z-of_z fits ∙ c.bearing_of.ensures.value) ∙ same) c.stretch_drawn.ensures

pub glyph_drawn-returns-in-None : goal.glyph_drawn-returns-in-None
glyph_drawn-returns-in-None t c =
    let font = c.args.font.now in
    let less : c.args.g < font.numbers.glyphs = rw c.numbers.ensures at c.if-g-numbers.false in
    let fits : FitsSigned w32 c.bearing_of-in-None.result = search rules in
    ap Some (c.no_points.ensures ∙ ap (λ z. no_points z c.args.room) (to_z-of_z fits ∙ c.bearing_of-in-None.ensures.value))
    ∙ sym (drawn-blank font c.args.depth c.args.g c.args.room (omega arith) less c.in-None.ensures.value)

pub parts_from-returns-in-None : goal.parts_from-returns-in-None
parts_from-returns-in-None t c =
    let font = c.args.font.now in
    let here = c.in-None.ensures.value ∙ ap (λ bytes. part_at bytes c.args.stretch.to c.loop-k.at) c.bytes.ensures in
    sym (parts-none (glyph_drawn font c.args.depth) font.bytes c.args.stretch.to max_parts c.loop-k._k c.loop-k.at c.loop-k.front c.loop-k-test.true here) ∙ c.loop-k.invariant.read

pub parts_from-returns-in-None-2 : goal.parts_from-returns-in-None-2
parts_from-returns-in-None-2 t c =
    let font = c.args.font.now in
    let draw = glyph_drawn font c.args.depth in
    let here = c.in-Some.ensures.value ∙ ap (λ bytes. part_at bytes c.args.stretch.to c.loop-k.at) c.bytes.ensures in
    let drawn : None ≡ drawn_part draw c.in-Some.part c.loop-k.front = sym c.in-None-2.is ∙ c.in_ok-whole.ensures in
    sym (parts-broken draw font.bytes c.args.stretch.to max_parts c.loop-k._k c.loop-k.at c.loop-k.front c.in-Some.part c.loop-k-test.true here drawn) ∙ c.loop-k.invariant.read

pub parts_from-returns-then-not-part : goal.parts_from-returns-then-not-part
parts_from-returns-then-not-part t c =
    let font = c.args.font.now in
    let draw = glyph_drawn font c.args.depth in
    let here = c.in-Some.ensures.value ∙ ap (λ bytes. part_at bytes c.args.stretch.to c.loop-k.at) c.bytes.ensures in
    let drawn : Some c.in-Some-2.whole ≡ drawn_part draw c.in-Some.part c.loop-k.front = sym c.in-Some-2.is ∙ c.in_ok-whole.ensures in
    let last : c.in-Some.part.is_followed ≡ false = search rules in
    sym (parts-last draw font.bytes c.args.stretch.to max_parts c.loop-k._k c.loop-k.at c.loop-k.front c.in-Some.part c.in-Some-2.whole c.loop-k-test.true here drawn last) ∙ c.loop-k.invariant.read

pub parts_from-loop-k-preserved : goal.parts_from-loop-k-preserved
parts_from-loop-k-preserved t c =
    let font = c.args.font.now in
    let draw = glyph_drawn font c.args.depth in
    let here = c.in-Some.ensures.value ∙ ap (λ bytes. part_at bytes c.args.stretch.to c.loop-k.at) c.bytes.ensures in
    let drawn : Some c.in-Some-2.whole ≡ drawn_part draw c.in-Some.part c.loop-k.front = sym c.in-Some-2.is ∙ c.in_ok-whole.ensures in
    let followed : c.in-Some.part.is_followed ≡ true = search rules in
    record {
      read = sym (parts-next draw font.bytes c.args.stretch.to max_parts c.loop-k._k c.loop-k.at c.loop-k.front c.in-Some.part c.in-Some-2.whole c.loop-k-test.true here drawn followed) ∙ c.loop-k.invariant.read;
      place = c.in-Some.ensures.behind;
    }

pub parts_from-returns : goal.parts_from-returns
parts_from-returns t c =
    sym (parts-spent (glyph_drawn c.args.font.now c.args.depth) c.args.font.now.bytes c.args.stretch.to max_parts c.loop-k._k c.loop-k.at c.loop-k.front (omega arith)) ∙ c.loop-k.invariant.read

pub stretch_drawn-returns-then-count-lt32768 : goal.stretch_drawn-returns-then-count-lt32768
stretch_drawn-returns-then-count-lt32768 t c =
    let stretch = c.args.stretch in
    let bytes = c.args.font.now.bytes in
    let bound = c.requires.bearing in
    let step = c.s16_at.ensures in
    let count : c.from.result ≡ u16_at bytes stretch.from = c.from.ensures ∙ (c.u16_at-count.ensures ∙ ap (λ bs. u16_at bs stretch.from) c.bytes-bytes.ensures) in
    let shift : to_z w32 (of_z w32 (to_z w32 (of_z w32 c.args.bearing) -ℤ to_z w32 (of_z w32 c.s16_at.result))) ≡ c.args.bearing -ℤ s16_at bytes (stretch.from + 2) =
    small_difference c.args.bearing c.s16_at.result (omega (arith, ints, bound)) (omega (arith, ints, bound)) (omega (arith, ints, step.least)) (omega (arith, ints, step.most))
    ∙ ap (λ z. c.args.bearing -ℤ z) (step.value ∙ ap (λ bs. s16_at bs (stretch.from + 2)) c.bytes-bytes.ensures) in
    let simple : u16_at bytes stretch.from < 32768 = rw (c.u16_at-count.ensures ∙ ap (λ bs. u16_at bs stretch.from) c.bytes-bytes.ensures) at c.if-count-lt32768.true in
    subst (λ (z : Option Drawn). IfOk c.simple_glyph.result (λ whole. whole ≡ z))
    (rw (c.bytes-bytes.ensures, count, shift) refl ∙ sym (stretch-simple (glyph_drawn c.args.font.now c.args.depth) bytes c.args.bearing stretch c.args.room (omega arith) simple))
    c.simple_glyph.ensures

pub stretch_drawn-returns : goal.stretch_drawn-returns
stretch_drawn-returns t c =
    let stretch = c.args.stretch in
    let bytes = c.args.font.now.bytes in
    let draw = glyph_drawn c.args.font.now c.args.depth in
    let bound = c.requires.bearing in
    let step = c.s16_at.ensures in
    let shift : to_z w32 (of_z w32 (to_z w32 (of_z w32 c.args.bearing) -ℤ to_z w32 (of_z w32 c.s16_at.result))) ≡ c.args.bearing -ℤ s16_at bytes (stretch.from + 2) =
    small_difference c.args.bearing c.s16_at.result (omega (arith, ints, bound)) (omega (arith, ints, bound)) (omega (arith, ints, step.least)) (omega (arith, ints, step.most))
    ∙ ap (λ z. c.args.bearing -ℤ z) (step.value ∙ ap (λ bs. s16_at bs (stretch.from + 2)) c.bytes-bytes.ensures) in
    let many : 32768 ≤ u16_at bytes stretch.from = rw (c.u16_at-count.ensures ∙ ap (λ bs. u16_at bs stretch.from) c.bytes-bytes.ensures) at c.if-count-lt32768.false in
    subst (λ (z : Option Drawn). IfOk c.parts_from.result (λ whole. whole ≡ z))
    (ap (λ front. parts_from draw bytes stretch.to max_parts (stretch.from + 10) front) (c.no_points.ensures ∙ ap (λ z. no_points z c.args.room) shift)
    ∙ sym (stretch-parts draw bytes c.args.bearing stretch c.args.room (omega arith) many))
    c.parts_from.ensures
