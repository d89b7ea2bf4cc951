-- The items of a text are few, no name of a font stands twice, and a view is in range.
use Rattle.std.proofs.Common.{◌≡◌, ℕ, ◌+◌, ◌-◌, ◌≤◌, ℤ, pos, ◌-ℤ◌, ◌≤ℤ◌, FitsSigned, w64, Bool, true, false, ◌&&◌, ◌==◌, List, [], ◌∷◌, ◌++◌, length, refl, sym, ap, ◌∙◌, subst, arith, Option, None, Some, All, length-append, zero-add}
use Rattle.std.specs.Prelude.{unwrap_or, int_le, IfSome}
use Rattle.std.specs.Option.{option_map}
use Rattle.std.proofs.lemmas.List.Elements.{All-nil, All-cons, All-head, All-tail}
use Rattle.std.proofs.lemmas.Option.{slice_get_within}
use Rattle.std.specs.BTreeMap.{get_by_text}
use Rattle.std.proofs.lemmas.List.{length-drop}
use Rattle.ass_num.specs.Limits.{IsWithin, max_instant, max_text_bytes}
use Rattle.ass_events.specs.Events.{is_time}
use Rattle.std.proofs.lemmas.Int.{ints}
use Rattle.ass_script.specs.Ranges.{IsScript}
use Rattle.ass_script.specs.Scripts.{ScriptValue, style_for}
use Rattle.ass_events.specs.declared.event.Event.{Event}
use Rattle.drawing_path.proofs.RangeLemmas.{drawing_valid}
use Rattle.override_tags.specs.Fronts.{Part, Char, HardBreak, SoftBreak, HardSpace, Block, IsFront}
use Rattle.override_tags.specs.Laws.{Follow, IsAtCharacters}
use Rattle.override_tags.specs.Ranges.{IsHeldItem}
use Rattle.override_tags.specs.Readings as reads
use Rattle.override_tags.specs.Readings.{AreItems, AreTags, ArePartTags, tag_items, part_item}
use Rattle.override_tags.specs.Ranges.{IsClip}
use Rattle.override_tags.specs.Views.{IsState, IsShownKind, IsShownItem, IsHeldPlace, IsView}
use Rattle.override_tags.specs.declared.item.Item.{Item}
use Rattle.override_tags.specs.declared.item.ItemKind.{ItemKind}
use Rattle.override_tags.specs.declared.item.ItemKind.TheVariants as item
use Rattle.override_tags.specs.declared.tag.ClipTag.{ClipTag}
use Rattle.override_tags.specs.declared.view.EventView.{EventView}
use Rattle.override_tags.specs.declared.view.Shown.{Shown}
use Rattle.override_tags.specs.declared.view.ShownKind.{ShownKind}
use Rattle.override_tags.specs.declared.view.ShownKind.TheVariants as shown
use Rattle.override_tags.specs.declared.view.State.{State}
use Rattle.override_tags.specs.declared.tag.Tag.{Tag}
use Rattle.override_tags.proofs.LawLemmas.{items_follow, some_bytes}
use Rattle.std.specs.List.{position_or_len}
use Rattle.ass_num.specs.Bytes.{backslash}
use Rattle.tag_arguments.specs.Cuts.{tag_len}
use Rattle.tag_state.specs.Setters.{Effect, past_all}
use Rattle.tag_state.specs.Looks as looks
use Rattle.tag_state.specs.Looks.{Look, AreLooks, shown_as, no_break_space}
use Rattle.tag_state.specs.Choices.{IsSaid}
use Rattle.tag_state.specs.declared.choices.Said.{Said}
use Rattle.tag_state.specs.declared.pen.Pen.{Pen}
use Rattle.tag_state.specs.declared.sheet.Sheet.{Sheet}
use Rattle.tag_state.specs.Views.{AreOnce, AreSeen, IsViewBy}
use Rattle.tag_state.proofs.RangeLemmas.{IsHeldEffect, style_held, past_held, align_held, wrap_held, point_held, origin_held, clip_held}
use Rattle.tag_state.specs.Walks.{AreFonts, AreItemsOf, IsItemWalk}
use Rattle.tag_state.specs.declared.fonts.Fonts.{Fonts}

-- at most one item for each tag
one_tag : (from to : ℕ) (tag : Option Tag) (items : List Item) → length (tag_items from to tag ++ items) ≤ 1 + length items
one_tag from to None items = omega arith
one_tag from to (Some tag) items = omega arith

tags_few : {from : ℕ} {text : List ℕ} {items : List Item} → AreTags from text items → length items ≤ length text
tags_few (reads.none from) = omega arith
tags_few (reads.more from text tag items is rest) = omega (arith, one_tag from (from + (1 + tag_len text)) tag items, tags_few rest, length-drop (tag_len text) text)

-- a part and its tags take as many bytes as there are items
part_few : (from : ℕ) (text : List ℕ) (part : Part) (rest : List ℕ) (mine : List Item) → IsFront text part rest → ArePartTags from part mine → 1 + (length mine + length rest) ≤ length text
part_few from text (Char c) rest mine front none = omega (arith, some_bytes text (Char c) rest front, ap length none)
part_few from text HardBreak rest mine front none = omega (arith, some_bytes text HardBreak rest front, ap length none)
part_few from text SoftBreak rest mine front none = omega (arith, some_bytes text SoftBreak rest front, ap length none)
part_few from text HardSpace rest mine front none = omega (arith, some_bytes text HardSpace rest front, ap length none)
part_few from text (Block body) rest mine front are =
    let e = ap length front.0 in
    let split = length-append body (125 ∷ rest) in
    omega (arith, tags_few are, e, split, length-drop (position_or_len (λ c. c == backslash) body) body)

pub items_few : {from : ℕ} {text : List ℕ} {items : List Item} → AreItems from text items → length items ≤ length text
items_few (reads.none from) = omega arith
items_few (reads.more from to text part rest mine items front place are others) = omega (arith, part_few from text part rest mine front are, items_few others, length-append mine items)

pub items_of_reading : (text : List ℕ) (items : List Item) → AreItems 0 text items → All IsHeldItem items → All (IsAtCharacters text) items → length text ≤ max_text_bytes → AreItemsOf text items
items_of_reading text items are held cuts few = record { held = held; cuts = cuts; follow = subst (λ (z : ℕ). Follow 0 items z) (zero-add (length text)) (items_follow are); few = omega (arith, items_few are) }

pub names_once : (script : ScriptValue) (fonts : Fonts) → AreFonts script fonts → AreOnce fonts.names
names_once script fonts are i j name first second =
    let one : get_by_text fonts.numbers name ≡ Some i = are.found name i first in
    let two : get_by_text fonts.numbers name ≡ Some j = are.found name j second in
    cc

-- ---- the range of a view

shown_kind_held : (kind : ItemKind) (shows : ShownKind) → shown_as kind ≡ Some shows → IsShownKind shows
shown_kind_held (item.Char c) shows e = let same : shown.Char c ≡ shows = cc in subst IsShownKind same tt
shown_kind_held item.HardBreak shows e = let same : shown.Hard ≡ shows = cc in subst IsShownKind same tt
shown_kind_held item.SoftBreak shows e = let same : shown.Soft ≡ shows = cc in subst IsShownKind same tt
shown_kind_held item.HardSpace shows e = let same : shown.Char no_break_space ≡ shows = cc in subst IsShownKind same tt
shown_kind_held item.Block shows e = cc
shown_kind_held (item.Tag tag) shows e = cc

abbrev IsHeldLook : Look → Type 0
IsHeldLook look = IsShownKind look.kind

looks_held : {text : List ℕ} {duration elapsed : ℤ} {before : List Effect} {items : List Item} {seen : List Look} → AreLooks text duration elapsed before items seen → All IsHeldLook seen
looks_held (looks.none before) = All-nil IsHeldLook
looks_held (looks.unseen before i items seen hidden rest) = looks_held rest
looks_held (looks.seen before i kind items seen plain shows rest) = All-cons IsHeldLook (record { kind = kind; before = before }) seen (shown_kind_held i.kind kind shows) (looks_held rest)
looks_held (looks.drawn before i slice items path seen some all behind is rest) =
    All-cons IsHeldLook (record { kind = shown.Drawing path; before = before }) seen (drawing_valid _ path.segs is) (looks_held rest)

seen_held : (script : ScriptValue) (own : List ℕ) (names : List (List ℕ)) (states : List State) (items : List Shown) (seen : List Look)
    → AreSeen script own names states items seen → All IsHeldLook seen → All (IsShownItem (length states)) items
seen_held script own names states [] [] are all = All-nil (IsShownItem (length states))
seen_held script own names states (shown ∷ items) (look ∷ seen) are all =
    All-cons (IsShownItem (length states)) shown items
    (record {
      kind = subst IsShownKind (sym are.0.kind) (All-head IsHeldLook look seen all);
      state = slice_get_within states shown.state are.0.state.0 are.0.state.1;
    })
    (seen_held script own names states items seen are.1 (All-tail IsHeldLook look seen all))
seen_held script own names states [] (look ∷ seen) are all = absurd are
seen_held script own names states (shown ∷ items) [] are all = absurd are

pub view_held : (script : ScriptValue) (event : Event) (elapsed : ℤ) (items : List Item) (view : EventView)
    → IsScript script → All IsHeldItem items → IsViewBy script event elapsed items view → All (IsState (length view.names)) view.states → length view.items ≤ max_text_bytes → IsView view
view_held script event elapsed items view is all shows states few =
    let effects : All IsHeldEffect (past_all event.duration elapsed [] items) = past_held event.duration elapsed [] items (All-nil IsHeldEffect) all in
    let key = align_held items (style_for event.style script) all (style_held script is event.style) in
    record {
      states = states;
      some_state = omega (arith, slice_get_within view.states (length view.states - 1) shows.last.0 shows.last.1);
      items = seen_held script event.style view.names view.states view.items shows.looks shows.seen (looks_held shows.shows);
      few_items = few;
      least_align = omega (arith, key.0, shows.align);
      greatest_align = omega (arith, key.1, shows.align);
      wrap = omega (arith, shows.wrap, wrap_held script.header.wrap (past_all event.duration elapsed [] items) is.header.wrap effects);
      position =
          (let P : Option (ℤ × ℤ) → Type 0 = λ z. IfSome z IsHeldPlace in
          subst P (sym shows.position) (point_held event.duration elapsed items all));
      origin =
          (let P : Option (ℤ × ℤ) → Type 0 = λ z. IfSome z IsHeldPlace in
          subst P (sym shows.origin) (origin_held items all));
      clip =
          (let P : Option ClipTag → Type 0 = λ z. IfSome z IsClip in
          subst P (sym shows.clip) (clip_held script.header (past_all event.duration elapsed [] items) is.header effects));
    }

-- ---- the whole view

fade_number : (fade : Option ℕ) → pos (unwrap_or fade 0) ≡ unwrap_or (option_map (λ f. pos f) fade) (pos 0)
fade_number None = refl
fade_number (Some f) = refl

-- the view that the walk and what the tags say come to
pub view_by : (script : ScriptValue) (event : Event) (elapsed : ℤ) (items : List Item) (pen : Pen) (sheet : Sheet) (said : Said) (align fade : ℕ)
    → IsItemWalk script event elapsed items pen sheet
    → IsSaid script.header event.duration elapsed items said
    → align ≡ unwrap_or said.align (style_for event.style script).alignment
    → fade ≡ unwrap_or said.fade 0
    → IsViewBy script event elapsed items (record { names = pen.fonts.names; states = sheet.states; items = sheet.items; align = align; wrap = said.wrap; pos = said.pos; org = said.org; fade = fade; clip = said.clip })
view_by script event elapsed items pen sheet said align fade walked is align_is fade_is = record {
  looks = walked.looks;
  shows = walked.shows;
  seen = walked.seen;
  last = walked.last;
  align = align_is ∙ ap (λ o. unwrap_or o (style_for event.style script).alignment) is.align;
  wrap = is.wrap;
  position = is.position;
  origin = is.origin;
  fade = ap (λ n. pos n) fade_is ∙ (fade_number said.fade ∙ ap (λ o. unwrap_or o (pos 0)) is.fade);
  clip = is.clip;
}

time_within : (time : ℤ) → is_time time ≡ true → (pos 0 ≤ℤ time) × (time ≤ℤ pos max_instant)
time_within time e = by (int_le (pos 0) time) (int_le time (pos max_instant)) e (λ low. grind (arith, ints)) (λ high. grind (arith, ints))
  where
    by : (a b : Bool) → (a && b) ≡ true → (a ≡ true → pos 0 ≤ℤ time) → (b ≡ true → time ≤ℤ pos max_instant) → (pos 0 ≤ℤ time) × (time ≤ℤ pos max_instant)
    by true true e low high = (low refl, high refl)
    by true false e low high = cc
    by false b e low high = cc

pub elapsed_fits : (t start : ℤ) → IsWithin max_instant t → is_time start ≡ true → FitsSigned w64 (t -ℤ start)
elapsed_fits t start within begins =
    let begun = time_within start begins in
    omega (arith, ints, within.0, within.1, begun.0, begun.1)
