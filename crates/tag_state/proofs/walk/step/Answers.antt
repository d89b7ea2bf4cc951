use Rattle.std.proofs.Common.{reverse, ◌++◌, to_z-of_z, ◌≡◌, ◌-◌, ◌<◌, length, Some, ℕ, List, ◌+◌, sym, ap, ◌∙◌, arith, get_or, subst}
use Rattle.std.specs.Prelude.{slice_get, slice_range}
use Rattle.std.proofs.lemmas.Option.{get_or_from_slice_get, slice_get-get_or}
use Rattle.drawing_path.specs.Paths.{IsPathOf}
use Rattle.override_tags.specs.declared.item.Item.{Item}
use Rattle.tag_state.specs.Looks as rule
use Rattle.std.specs.Str.{IsCharBoundary}
use Rattle.override_tags.specs.Laws.{IsAtCharacters}
use Rattle.tag_state.specs.Setters.{effects_of_tag}
use Rattle.tag_state.specs.Walks.{before_at, IsPen, IsSliceTo}
use Rattle.tag_state.proofs.WalkLemmas.{at_tag, at_block, at_text, at_drawing, follow_two, pen_held, song_room, shown_text, untagged}
use Rattle.tag_state.proofs.walk.step.Goals as goal

pub apply-requires-clause-song : goal.apply-requires-clause-song
apply-requires-clause-song c =
    song_room c.args.script.now c.args.event.now.style (before_at c.args.event.now c.args.elapsed c.args.items.now c.args.place) c.args.place c.args.pen.now c.requires.at.state (omega (arith, c.requires.items.few, c.requires.within))

pub returns-in-Tag-clause-next : goal.returns-in-Tag-clause-next
returns-in-Tag-clause-next c =
    let items = c.args.items.now in
    let place = c.args.place in
    let i = get_or items place c.index-items-place.result in
    let moved : IsPen c.args.script.now c.args.event.now.style (reverse (effects_of_tag c.args.event.now.duration c.args.elapsed c.in-Tag.tag) ++ before_at c.args.event.now c.args.elapsed c.args.items.now c.args.place) (c.args.place + 1) c.apply.new.self =
    rw (to_z-of_z c.ranges.elapsed) at (c.in_ok-apply.ensures.pen c.args.event.now.style (before_at c.args.event.now c.args.elapsed c.args.items.now c.args.place) c.args.place c.requires.at.state) in
    at_tag c.args.script.now c.args.event.now c.args.elapsed items place c.args.pen.now c.apply.new.self c.args.sheet.now c.turn.new.self i c.in-Tag.tag c.requires.at
    (slice_get-get_or items place c.index-items-place.result c.requires.within) c.in-Tag.is moved c.in_ok-apply.ensures.grown c.turn.ensures

pub returns-in_default-shown_as : goal.returns-in_default-shown_as
returns-in_default-shown_as c =
    let items = c.args.items.now in
    let place = c.args.place in
    let i = get_or items place c.index-items-place-2.result in
    let found : slice_get items place ≡ Some i = slice_get-get_or items place c.index-items-place-2.result c.requires.within in
    let same : get_or items place c.index-items-place.result ≡ i = get_or_from_slice_get items place i c.index-items-place.result found in
    record {
      next =
          at_block c.args.script.now c.args.event.now c.args.elapsed items place c.args.pen.now c.args.sheet.now i c.requires.at found (sym c.shown_as.ensures ∙ c.in_default-shown_as.is)
          (λ tag is. c.in_default.not-Tag tag (ap (λ (j : Item). j.kind) same ∙ is));
      on = omega arith;
    }

pub returns-then-pen-eq0 : goal.returns-then-pen-eq0
returns-then-pen-eq0 c =
    let items = c.args.items.now in
    let place = c.args.place in
    let i = get_or items place c.index-items-place-2.result in
    record {
      next =
          at_text c.args.script.now c.args.event.now c.args.elapsed items place c.args.pen.now c.args.sheet.now c.show.new.self i c.in-Some.kind c.in_ok-show.ensures.shown.0 c.requires.at
          (slice_get-get_or items place c.index-items-place-2.result c.requires.within) (sym c.shown_as.ensures ∙ c.in-Some.is) c.if-pen-eq0.true c.in_ok-show.ensures.shown.1 c.in_ok-show.ensures.shown.2
          c.in_ok-show.ensures.grown c.in_ok-show.ensures.current
          (c.in_ok-show.ensures.held (length c.args.pen.now.fonts.names)
          (λ four. pen_held c.args.script.now c.args.event.now c.args.elapsed items place c.args.pen.now c.requires.script c.requires.items.held c.requires.at.state four) c.requires.at.shown.held);
      on = omega arith;
    }

pub text_end-end-requires : goal.text_end-end-requires
text_end-end-requires c = record {
  within = c.requires.within;
  text = λ i found.
      (let same : get_or c.args.items.now c.args.place c.index-items-place-2.result ≡ i = get_or_from_slice_get c.args.items.now c.args.place i c.index-items-place-2.result found in
      let shows : rule.shown_as i.kind ≡ Some c.in-Some.kind = ap (λ (j : Item). rule.shown_as j.kind) (sym same) ∙ (sym c.shown_as.ensures ∙ c.in-Some.is) in
      shown_text i.kind c.in-Some.kind shows);
}

pub range-requires : goal.range-requires
range-requires c =
    let items = c.args.items.now in
    let place = c.args.place in
    let end = c.text_end-end.result in
    let slice : IsSliceTo c.args.items.now c.args.place c.text_end-end.result = c.text_end-end.ensures in
    let i : Item = get_or items place c.index-items-place-3.result in
    let last : Item = get_or items (end - 1) c.index-items-end.result in
    let there : end - 1 < length items = omega (arith, slice.some, slice.within) in
    let found : slice_get items place ≡ Some i = slice_get-get_or items place c.index-items-place-3.result c.requires.within in
    let found_last : slice_get items (end - 1) ≡ Some last = slice_get-get_or items (end - 1) c.index-items-end.result there in
    let first_cuts : IsAtCharacters c.args.event.now.text i = c.requires.items.cuts place c.index-items-place-3.result c.requires.within in
    let last_cuts : IsAtCharacters c.args.event.now.text last = c.requires.items.cuts (end - 1) c.index-items-end.result there in
    let P : List ℕ → Type 0 = λ z. IsCharBoundary z i.from in
    let Q : List ℕ → Type 0 = λ z. IsCharBoundary z last.to in
    record {
      start_le_end =
          follow_two 0 items (length c.args.event.now.text) place (end - 1) i last c.requires.items.follow found found_last (omega (arith, slice.some))
          (untagged i.kind (slice.text place i (omega arith) slice.some found)) (untagged last.kind (slice.text (end - 1) last (omega (arith, slice.some)) (omega (arith, slice.some)) found_last));
      start_boundary = λ some. subst P (sym c.as_str-text.ensures) first_cuts.0;
      end_boundary = subst Q (sym c.as_str-text.ensures) last_cuts.1;
    }

pub returns : goal.returns
returns c =
    let items = c.args.items.now in
    let place = c.args.place in
    let end = c.text_end-end.result in
    let i = get_or items place c.index-items-place-3.result in
    let last = get_or items (end - 1) c.index-items-end.result in
    let P : List ℕ → Type 0 = λ z. IsPathOf z c.in_ok-path.path.segs in
    record {
      next =
          at_drawing c.args.script.now c.args.event.now c.args.elapsed items place end c.args.pen.now c.args.sheet.now c.show-2.new.self i last c.in_ok-path.path c.in_ok-show-2.ensures.shown.0 c.requires.at
          (slice_get-get_or items place c.index-items-place-3.result c.requires.within)
          (slice_get-get_or items (end - 1) c.index-items-end.result (omega (arith, c.text_end-end.ensures.some, c.text_end-end.ensures.within)))
          c.text_end-end.ensures c.if-pen-eq0.false
          (subst P (c.range.ensures.value ∙ ap (λ (z : List ℕ). slice_range z i.from last.to) c.as_str-text.ensures) c.in_ok-path.ensures.path)
          c.in_ok-show-2.ensures.shown.1 c.in_ok-show-2.ensures.shown.2 c.in_ok-show-2.ensures.grown c.in_ok-show-2.ensures.current
          (c.in_ok-show-2.ensures.held (length c.args.pen.now.fonts.names)
          (λ four. pen_held c.args.script.now c.args.event.now c.args.elapsed items place c.args.pen.now c.requires.script c.requires.items.held c.requires.at.state four) c.requires.at.shown.held);
      on = c.text_end-end.ensures.some;
    }
