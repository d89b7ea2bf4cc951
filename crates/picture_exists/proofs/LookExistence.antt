-- A text that is read shows something, whatever is drawn in it.
use Rattle.std.proofs.Common.{◌≡◌, ℕ, zero, suc, ◌+◌, ◌≤◌, ℤ, true, false, Some, List, [], ◌∷◌, ◌++◌, length, inl, inr, refl, sym, ap, subst, arith, length-append}
use Rattle.std.specs.Prelude.{slice_range}
use Rattle.std.specs.List.{All}
use Rattle.std.proofs.lemmas.Bool.{cases_Bool, cases_lt, false≢true}
use Rattle.std.proofs.lemmas.List.Elements.{All-cons, All-nil}
use Rattle.drawing_path.proofs.ExistsLemmas.{has_path}
use Rattle.override_tags.specs.declared.item.Item.{Item}
use Rattle.override_tags.specs.declared.item.ItemKind.{ItemKind}
use Rattle.override_tags.specs.declared.item.ItemKind.TheVariants as item
use Rattle.override_tags.specs.declared.view.ShownKind.{ShownKind}
use Rattle.override_tags.specs.declared.view.ShownKind.TheVariants.{Drawing}
use Rattle.tag_state.specs.Looks as looks
use Rattle.tag_state.specs.Looks.{AreLooks, BeginsNoText, IsShownText, Look, is_text_kind, items_end, level_at, shown_as}
use Rattle.tag_state.specs.Setters.{Effect, past}

-- what stands in front of the next block, and what stands from it on
record TextFront (items : List Item) : Type 0 where
  slice : List Item
  rest : List Item
  all : All IsShownText slice
  ends : BeginsNoText rest
  parts : items ≡ slice ++ rest

text_front : (items : List Item) → TextFront items
text_front [] = record { slice = []; rest = []; all = All-nil IsShownText; ends = tt; parts = refl }
text_front (i ∷ items) = elim (cases_Bool (is_text_kind i.kind)) [
  | inl text ↦
      let front = text_front items in
      record { slice = i ∷ front.slice; rest = front.rest; all = All-cons IsShownText i front.slice text front.all; ends = front.ends; parts = ap (λ (z : List Item). i ∷ z) front.parts }
  | inr none ↦ record { slice = []; rest = i ∷ items; all = All-nil IsShownText; ends = none; parts = refl }
]

-- what is text is shown
text_shown : (kind : ItemKind) → is_text_kind kind ≡ true → (shown : ShownKind) × (shown_as kind ≡ Some shown)
text_shown (item.Char c) text = (_, refl)
text_shown item.HardBreak text = (_, refl)
text_shown item.SoftBreak text = (_, refl)
text_shown item.HardSpace text = (_, refl)
text_shown item.Block text = absurd (false≢true text)
text_shown (item.Tag tag) text = absurd (false≢true text)

module _ (text : List ℕ) (duration elapsed : ℤ) where
  -- The items show something, no more than there are items.
  pub looks_exist : (fuel : ℕ) (before : List Effect) (items : List Item) → length items ≤ fuel
      → (found : List Look) × AreLooks text duration elapsed before items found × (length found ≤ length items)
  looks_exist fuel before [] few = ([], looks.none before, omega arith)
  looks_exist zero before (i ∷ items) few = absurd (omega (arith, few))
  looks_exist (suc fuel) before (i ∷ items) few = elim (cases_Bool (is_text_kind i.kind)) [
    | inl is_text ↦ elim (cases_lt 0 (level_at before)) [
      | inl drawn ↦
          let front = text_front items in
          let long : length items ≡ length (front.slice ++ front.rest) = ap length front.parts in
          let both = length-append front.slice front.rest in
          let found = looks_exist fuel before front.rest (omega (arith, few, long, both)) in
          let path = has_path (slice_range text i.from (items_end i.to front.slice)) in
          let look : Look = record { kind = Drawing (record { segs = path.0 }); before = before } in
          let count = found.2 in (
            look ∷ found.0,
            subst (λ (z : List Item). AreLooks text duration elapsed before (i ∷ z) (look ∷ found.0)) (sym front.parts)
                (looks.drawn before i front.slice front.rest (record { segs = path.0 }) found.0 drawn (All-cons IsShownText i front.slice is_text front.all) front.ends path.1 found.1),
            omega (arith, count, long, both),
          )
      | inr written ↦
          let shown = text_shown i.kind is_text in
          let found = looks_exist fuel before items (omega (arith, few)) in
          let count = found.2 in
          (record { kind = shown.0; before = before } ∷ found.0, looks.seen before i shown.0 items found.0 (omega (arith, written)) shown.1 found.1, omega (arith, count))
    ]
    | inr hidden ↦
        let found = looks_exist fuel (past duration elapsed before i) items (omega (arith, few)) in
        let count = found.2 in
        (found.0, looks.unseen before i items found.0 hidden found.1, omega (arith, count))
  ]
