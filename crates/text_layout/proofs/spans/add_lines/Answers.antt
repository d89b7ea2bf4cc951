use Rattle.std.proofs.Common.{◌≡◌, ℕ, ℤ, List, ◌+◌, ◌-◌, ◌∙◌, ◌++◌, map, take, drop, sym, ap, subst, to_z, of_z, to_z-of_z, w64, refl}
use Rattle.text_layout.specs.Spans.{AreChosen, places_of, spans_between}
use Rattle.text_layout.specs.declared.kinds.BreakRole.TheVariants.{Space}
use Rattle.text_layout.proofs.SpanLemmas.{AreInOrder-placed, AreSpans-between, chosen-slice, paragraph-slice, roles-slice, two_of_wraps}
use Rattle.text_layout.proofs.spans.add_lines.Goals as goal

-- What `choose_breaks` chose, of the break places and the limit that it was given.
chosen_from : (wrap : ℕ) (widths : List ℤ) (given spaces : List ℕ) (limit max : ℤ) (places : List ℕ) → given ≡ spaces → limit ≡ max
    → AreChosen wrap widths given limit places → AreChosen wrap widths spaces max places
chosen_from wrap widths given spaces limit max places e f h =
    subst (λ (s : List ℕ). AreChosen wrap widths s max places) e (subst (λ (m : ℤ). AreChosen wrap widths given m places) f h)

pub choose_breaks-requires-clause-paragraph : goal.choose_breaks-requires-clause-paragraph
choose_breaks-requires-clause-paragraph c =
    rw c.as_slice.ensures.value
    (paragraph-slice c.args.advances.now c.args.items.now c.args.paragraph.first c.args.paragraph.last c.in_ok-spaces.spaces.items
    c.requires.items c.requires.advances c.requires.widths c.requires.ordered c.requires.within c.in_ok-spaces.ensures.order)

pub add_spans-requires-clause-order : goal.add_spans-requires-clause-order
add_spans-requires-clause-order c =
    let a = c.args.paragraph.first in
    let b = c.args.paragraph.last in
    let widths = take (b - a) (drop a c.args.advances.now) in
    let places = c.in_ok-chosen.chosen.items in
    let e = c.in_ok-chosen.ensures in
    let given : AreChosen c.args.wrap widths c.as_slice.result.now (to_z w64 (of_z w64 c.args.max)) places =
    record { greatest = e.greatest; filled = e.filled; none = λ a b d. e.none (two_of_wraps c.args.wrap c.requires.wrap a b d); least = e.least } in
    let chosen = chosen_from c.args.wrap widths _ c.in_ok-spaces.spaces.items _ c.args.max places c.as_slice.ensures.value (to_z-of_z c.ranges.max) given in
    rw c.as_slice-2.ensures.value
    (chosen-slice c.args.wrap c.args.advances.now c.args.items.now a b c.in_ok-spaces.spaces.items c.args.max places
    c.requires.wrap c.requires.advances c.requires.ordered c.requires.within c.in_ok-spaces.ensures.order chosen)

pub returns : goal.returns
returns c =
    let a = c.args.paragraph.first in
    let b = c.args.paragraph.last in
    let wrap = c.args.wrap in
    let items = c.args.items.now in
    let widths = take (b - a) (drop a c.args.advances.now) in
    let places = c.in_ok-chosen.chosen.items in
    let e = c.in_ok-chosen.ensures in
    let given : AreChosen wrap widths c.as_slice.result.now (to_z w64 (of_z w64 c.args.max)) places =
    record { greatest = e.greatest; filled = e.filled; none = λ a b d. e.none (two_of_wraps c.args.wrap c.requires.wrap a b d); least = e.least } in
    let spaces = c.in_ok-spaces.ensures.value ∙ ap (places_of Space) (sym (roles-slice wrap items a b)) in
    let chosen = chosen_from wrap widths _ c.in_ok-spaces.spaces.items _ c.args.max places c.as_slice.ensures.value (to_z-of_z c.ranges.max) given in
    let ordered =
    chosen-slice wrap c.args.advances.now items a b c.in_ok-spaces.spaces.items c.args.max places
    c.requires.wrap c.requires.advances c.requires.ordered c.requires.within c.in_ok-spaces.ensures.order chosen in
    let placed = AreInOrder-placed a b places c.requires.ordered ordered in
    let added = c.in_ok-add_spans.ensures.value ∙ ap (λ (ps : List ℕ). c.args.lines.now.items ++ spans_between a b (map (λ place. a + place) ps)) c.as_slice-2.ensures.value in
    record {
      lines = (
        spans_between a b (map (λ place. a + place) places),
        (places, chosen_from wrap widths _ _ _ c.args.max places spaces refl chosen, refl),
        AreSpans-between a b (map (λ place. a + place) places) placed,
        added,
      );
    }
