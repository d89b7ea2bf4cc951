-- Lines have the same runs in two views of an event, with the same marks and paints.
use Rattle.std.proofs.Common.{◌≡◌, ◌∙◌, refl, sym, ap, ap₂, ℕ, ◌<◌, Bool, true, false, cond, List, [], ◌∷◌, ◌++◌, length, filter, flat_map, Option, Some, None, option_and_then, option_map}
use Rattle.std.specs.List.{All, cons_option, filter_map}
use Rattle.std.specs.Option.{option_map_or}
use Rattle.std.proofs.lemmas.List.Elements.{All-cons, All-head, All-nil, All-tail, All-weaker}
use Rattle.ass_num.specs.declared.geometry.Point.{Point}
use Rattle.ass_script.specs.Scripts.{ScriptValue}
use Rattle.bdf_font.specs.Fonts.{FontValue}
use Rattle.draw_numbers.specs.Colours.{fill_paint}
use Rattle.override_tags.specs.declared.view.EventView.{EventView}
use Rattle.override_tags.specs.declared.view.ShownKind.{ShownKind}
use Rattle.override_tags.specs.declared.view.ShownKind.TheVariants as shown
use Rattle.override_tags.specs.declared.view.State.{State}
use Rattle.text_layout.specs.Fonts.{font_of_state}
use Rattle.text_layout.specs.Kinds.{char_of}
use Rattle.text_layout.specs.declared.laid.Line.{Line}
use Rattle.text_layout.specs.declared.laid.Placed.{Placed}
use Rattle.event_draws.specs.EventDraws.{is_sung_with, left_end, paint_of, right_end, same_syllable, sung_with}
use Rattle.event_draws.specs.Items.{shown_of, state_of}
use Rattle.event_draws.specs.Marks.{char_mark, char_outline, drawing_mark, font_outline, mark_by, mark_of, marks_of, pen_on}
use Rattle.event_draws.specs.Runs.{are_joined, runs_of, with_item}
use Rattle.event_draws.specs.declared.stage.Stage.{Stage}
use Rattle.picture_laws.proofs.Items.{ShowAlike, same_item, same_joined, same_number}
use Rattle.picture_laws.proofs.States.{AreAlike}

-- ---- lists

same_then : {X Y : Type 0} (f g : X → Option Y) → ((x : X) → f x ≡ g x) → (o : Option X) → option_and_then f o ≡ option_and_then g o
same_then f g h None = refl
same_then f g h (Some x) = h x

same_filter : {X : Type 0} (p q : X → Bool) (xs : List X) → All (λ x. p x ≡ q x) xs → filter p xs ≡ filter q xs
same_filter p q [] h = refl
same_filter p q (x ∷ xs) h =
    ap (λ b. cond b (x ∷ filter p xs) (filter p xs)) (All-head (λ y. p y ≡ q y) x xs h)
    ∙ ap (λ z. cond (q x) (x ∷ z) z) (same_filter p q xs (All-tail (λ y. p y ≡ q y) x xs h))

same_given : {X Y : Type 0} (f g : X → Option Y) (xs : List X) → All (λ x. f x ≡ g x) xs → filter_map f xs ≡ filter_map g xs
same_given f g [] h = refl
same_given f g (x ∷ xs) h =
    ap (λ o. cons_option o (filter_map f xs)) (All-head (λ y. f y ≡ g y) x xs h)
    ∙ ap (λ z. cons_option (g x) z) (same_given f g xs (All-tail (λ y. f y ≡ g y) x xs h))

flat_given : {Y Z : Type 0} (F : Y → List Z) (o : Option Y) (ys : List Y) → flat_map F (cons_option o ys) ≡ option_map_or F o [] ++ flat_map F ys
flat_given F None ys = refl
flat_given F (Some y) ys = refl

-- Lists that are made of the same lists are the same.
pub same_flat : {X Y Z : Type 0} (F G : Y → List Z) (f g : X → Option Y) (xs : List X) → All (λ x. option_map_or F (f x) [] ≡ option_map_or G (g x) []) xs
    → flat_map F (filter_map f xs) ≡ flat_map G (filter_map g xs)
same_flat F G f g [] h = refl
same_flat {X = X} {Z = Z} F G f g (x ∷ xs) h =
    let P : X → Type 0 = λ y. option_map_or F (f y) [] ≡ option_map_or G (g y) [] in
    flat_given F (f x) (filter_map f xs)
    ∙ (ap₂ (λ (a b : List Z). a ++ b) (All-head P x xs h) (same_flat F G f g xs (All-tail P x xs h)) ∙ sym (flat_given G (g x) (filter_map g xs)))

-- ---- items in range

-- one of so many items
abbrev pub IsItem : ℕ → Placed → Type 0
IsItem items placed = placed.item < items

cond_runs : (items : ℕ) (b : Bool) (item next : Placed) (run : List Placed) (runs : List (List Placed)) → IsItem items item → All (IsItem items) (next ∷ run) → All (All (IsItem items)) runs
    → All (All (IsItem items)) (cond b ((item ∷ next ∷ run) ∷ runs) ((item ∷ []) ∷ (next ∷ run) ∷ runs))
cond_runs items true item next run runs here first later =
    All-cons (All (IsItem items)) (item ∷ next ∷ run) runs (All-cons (IsItem items) item (next ∷ run) here first) later
cond_runs items false item next run runs here first later =
    All-cons (All (IsItem items)) (item ∷ []) ((next ∷ run) ∷ runs) (All-cons (IsItem items) item [] here (All-nil (IsItem items)))
    (All-cons (All (IsItem items)) (next ∷ run) runs first later)

items_before : (view : EventView) (items : ℕ) (item : Placed) (runs : List (List Placed)) → IsItem items item → All (All (IsItem items)) runs
    → All (All (IsItem items)) (with_item view item runs)
items_before view items item [] here all = All-cons (All (IsItem items)) (item ∷ []) [] (All-cons (IsItem items) item [] here (All-nil (IsItem items))) all
items_before view items item ([] ∷ runs) here all =
    All-cons (All (IsItem items)) (item ∷ []) runs (All-cons (IsItem items) item [] here (All-nil (IsItem items))) (All-tail (All (IsItem items)) [] runs all)
items_before view items item ((next ∷ run) ∷ runs) here all =
    cond_runs items (are_joined view item next) item next run runs here (All-head (All (IsItem items)) (next ∷ run) runs all) (All-tail (All (IsItem items)) (next ∷ run) runs all)

pub items_of_runs : (view : EventView) (items : ℕ) (placed : List Placed) → All (IsItem items) placed → All (All (IsItem items)) (runs_of view placed)
items_of_runs view items [] all = All-nil (All (IsItem items))
items_of_runs view items (item ∷ placed) all =
    items_before view items item (runs_of view placed) (All-head (IsItem items) item placed all) (items_of_runs view items placed (All-tail (IsItem items) item placed all))

-- ---- two views

module _ (script : ScriptValue) (own : List ℕ) (v w : EventView) (alike : ShowAlike script own v w) where
  abbrev IsItemOfView : Placed → Type 0
  IsItemOfView = IsItem (length v.items)

  same_with : (item : Placed) (runs : List (List Placed)) → IsItemOfView item → All (All IsItemOfView) runs → with_item v item runs ≡ with_item w item runs
  same_with item [] here all = refl
  same_with item ([] ∷ runs) here all = refl
  same_with item ((next ∷ run) ∷ runs) here all =
      let first = All-head IsItemOfView next run (All-head (All IsItemOfView) (next ∷ run) runs all) in
      ap (λ (b : Bool). cond b ((item ∷ next ∷ run) ∷ runs) ((item ∷ []) ∷ (next ∷ run) ∷ runs)) (same_joined script own v w alike item next here first)

  pub same_runs : (placed : List Placed) → All IsItemOfView placed → runs_of v placed ≡ runs_of w placed
  same_runs [] all = refl
  same_runs (item ∷ placed) all =
      let later = All-tail IsItemOfView item placed all in
      same_with item (runs_of v placed) (All-head IsItemOfView item placed all) (items_of_runs v (length v.items) placed later)
      ∙ ap (with_item w item) (same_runs placed later)

  -- ---- paints
  same_sung : (a b : State) (placed : Placed) → AreAlike a b → IsItemOfView placed → is_sung_with v a placed ≡ is_sung_with w b placed
  same_sung a b placed same here =
      ap (λ (z : State). same_syllable z.sung (state_of v placed).sung) same
      ∙ ap (λ (z : State). same_syllable b.sung z.sung) (same_item script own v w alike placed here).alike

  pub same_paint : (stage : Stage) (placed : List Placed) (a b : State) → AreAlike a b → All IsItemOfView placed → paint_of stage v placed a ≡ paint_of stage w placed b
  same_paint stage placed a b same all =
      let sung : sung_with v a placed ≡ sung_with w b placed =
      same_filter (is_sung_with v a) (is_sung_with w b) placed (All-weaker IsItemOfView (λ (p : Placed). is_sung_with v a p ≡ is_sung_with w b p) (λ p here. same_sung a b p same here) placed all)
      in
      ap (λ (z : List Placed). fill_paint stage.fade stage.elapsed a (left_end stage z) (right_end stage z)) sung
      ∙ ap (λ (z : State). fill_paint stage.fade stage.elapsed z (left_end stage (sung_with w b placed)) (right_end stage (sung_with w b placed))) same

  -- ---- marks
  module _ (stage : Stage) (fonts : List FontValue) where
    -- the place of the font of a state of a view
    abbrev number_in : EventView → State → ℕ
    number_in view state = font_of_state fonts view.names state

    same_char : (a b : State) (pen : Point) (c : ℕ) → AreAlike a b → number_in v a ≡ number_in w b → char_mark stage fonts v.names a pen c ≡ char_mark stage fonts w.names b pen c
    same_char a b pen c same number =
        let outline : char_outline stage fonts v.names a c ≡ char_outline stage fonts w.names b c =
        ap (λ (n : ℕ). font_outline stage fonts a n c) number ∙ ap (λ (s : State). font_outline stage fonts s (number_in w b) c) same
        in
        ap (option_map _) outline

    same_chars : (a b : State) (pen : Point) (kind : ShownKind) → AreAlike a b → number_in v a ≡ number_in w b
        → option_and_then (char_mark stage fonts v.names a pen) (char_of v.wrap kind) ≡ option_and_then (char_mark stage fonts w.names b pen) (char_of w.wrap kind)
    same_chars a b pen kind same number =
        ap (λ (z : ℕ). option_and_then (char_mark stage fonts v.names a pen) (char_of z kind)) alike.wrap
        ∙ same_then (char_mark stage fonts v.names a pen) (char_mark stage fonts w.names b pen) (λ c. same_char a b pen c same number) (char_of w.wrap kind)

    same_mark_by : (a b : State) (pen : Point) (kind : ShownKind) → AreAlike a b → number_in v a ≡ number_in w b → mark_by stage fonts v a pen kind ≡ mark_by stage fonts w b pen kind
    same_mark_by a b pen (shown.Drawing path) same number = ap (λ (s : State). drawing_mark stage s pen path path.segs) same
    same_mark_by a b pen (shown.Char c) same number = same_chars a b pen (shown.Char c) same number
    same_mark_by a b pen shown.Hard same number = refl
    same_mark_by a b pen shown.Soft same number = same_chars a b pen shown.Soft same number

    same_mark : (line : Line) (placed : Placed) → IsItemOfView placed → mark_of stage fonts v line placed ≡ mark_of stage fonts w line placed
    same_mark line placed here =
        let same = same_item script own v w alike placed here in
        let number = same_number script own v w alike fonts placed here in
        same_mark_by (state_of v placed) (state_of w placed) (pen_on stage line placed) (shown_of v placed).kind same.alike number
        ∙ ap (λ (z : ShownKind). mark_by stage fonts w (state_of w placed) (pen_on stage line placed) z) same.kind

    pub same_marks : (line : Line) (placed : List Placed) → All IsItemOfView placed → marks_of stage fonts v line placed ≡ marks_of stage fonts w line placed
    same_marks line placed all =
        same_given (mark_of stage fonts v line) (mark_of stage fonts w line) placed
        (All-weaker IsItemOfView (λ (p : Placed). mark_of stage fonts v line p ≡ mark_of stage fonts w line p) (λ p here. same_mark line p here) placed all)
