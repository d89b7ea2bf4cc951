-- One more run of a line, and one more line.
use Rattle.std.proofs.Common.{◌≡◌, refl, sym, ap, ap₂, subst, ◌∙◌, ℕ, ◌+◌, ◌-◌, ◌<◌, ◌≤◌, Option, Some, None, List, [], ◌∷◌, ◌++◌, length, get_or, take, drop, pos, arith, append_assoc}
use Rattle.std.specs.List.{All, cons_option, filter_map}
use Rattle.std.specs.Option.{IfSome, option_to_list}
use Rattle.std.proofs.lemmas.List.{drop-drop, drop_more, take_more}
use Rattle.std.proofs.lemmas.List.Elements.{All-cons, All-nil, filter_map-append}
use Rattle.bdf_font.specs.Fonts.{FontValue}
use Rattle.override_tags.specs.declared.view.EventView.{EventView}
use Rattle.override_tags.specs.declared.view.State.{State}
use Rattle.text_layout.specs.declared.laid.Laid.{Laid}
use Rattle.text_layout.specs.declared.laid.Line.{Line}
use Rattle.text_layout.specs.declared.laid.Placed.{Placed}
use Rattle.event_draws.specs.EventDraws.{FollowLines, line_runs, row_by, row_on, rows_made, run_of, runs_made}
use Rattle.event_draws.specs.Items.{items_of, state_of}
use Rattle.event_draws.specs.Marks.{IsMark, mark_of, marks_of}
use Rattle.event_draws.specs.Runs.{runs_of}
use Rattle.event_draws.specs.declared.marks.Mark.{Mark}
use Rattle.event_draws.specs.declared.runs.Row.{Row}
use Rattle.event_draws.specs.declared.runs.Run.{Run}
use Rattle.event_draws.specs.declared.stage.Stage.{Stage}

pub runs_step : (stage : Stage) (fonts : List FontValue) (view : EventView) (line : Line) (items : List Placed) (from n : ℕ) (before after all : List Run) (r : Run)
    → before ++ runs_made stage fonts view line items (runs_of view (drop from items)) ≡ all
    → runs_of view (drop from items) ≡ take n (drop from items) ∷ runs_of view (drop n (drop from items))
    → Some r ≡ run_of stage fonts view line items (take n (drop from items)) → after ≡ before ++ r ∷ []
    → after ++ runs_made stage fonts view line items (runs_of view (drop (from + n) items)) ≡ all
runs_step stage fonts view line items from n before after all r h split is push =
    let made = runs_made stage fonts view line items in
    let rest : List Run = made (runs_of view (drop n (drop from items))) in
    ap (λ z. z ++ made (runs_of view (drop (from + n) items))) push
    ∙ append_assoc before (r ∷ []) (made (runs_of view (drop (from + n) items)))
    ∙ ap (λ z. before ++ r ∷ made (runs_of view z)) (sym (drop-drop n from items))
    ∙ ap (λ o. before ++ cons_option o rest) is
    ∙ ap (λ z. before ++ made z) (sym split)
    ∙ h

listed : {X : Type 0} (o : Option X) → cons_option o [] ≡ option_to_list o
listed None = refl
listed (Some x) = refl

-- the marks of one more item
pub marks_more : (stage : Stage) (fonts : List FontValue) (view : EventView) (line : Line) (items : List Placed) (k : ℕ) (d : Placed) (before after : List Mark) (r : Option Mark) → k < length items
    → before ≡ marks_of stage fonts view line (take k items) → r ≡ mark_of stage fonts view line (get_or items k d) → after ≡ before ++ option_to_list r
    → after ≡ marks_of stage fonts view line (take (k + 1) items)
marks_more stage fonts view line items k d before after r within was is push =
    let f = mark_of stage fonts view line in
    push ∙ ap (λ z. z ++ option_to_list r) was
    ∙ ap (λ o. marks_of stage fonts view line (take k items) ++ option_to_list o) is
    ∙ ap (λ z. marks_of stage fonts view line (take k items) ++ z) (sym (listed (f (get_or items k d))))
    ∙ sym (ap (filter_map f) (take_more items k d within) ∙ filter_map-append f (take k items) (get_or items k d ∷ []))

pub marks_all : (o : Option Mark) → IfSome o IsMark → All IsMark (option_to_list o)
marks_all None h = All-nil IsMark
marks_all (Some x) h = All-cons IsMark x [] h (All-nil IsMark)

-- the rows of one more line
rows_more : (stage : Stage) (fonts : List FontValue) (view : EventView) (laid : Laid) (lines : List Line) (k : ℕ) (d : Line) → k < length lines
    → rows_made stage fonts view laid (take (k + 1) lines) ≡ rows_made stage fonts view laid (take k lines) ++ option_to_list (row_on stage fonts view laid (get_or lines k d))
rows_more stage fonts view laid lines k d within =
    ap (rows_made stage fonts view laid) (take_more lines k d within)
    ∙ filter_map-append (row_on stage fonts view laid) (take k lines) (get_or lines k d ∷ [])
    ∙ ap (λ z. rows_made stage fonts view laid (take k lines) ++ z) (listed (row_on stage fonts view laid (get_or lines k d)))

pub rows_step : (stage : Stage) (fonts : List FontValue) (view : EventView) (laid : Laid) (lines : List Line) (k : ℕ) (d : Line) (items : List Placed) (before after : List Row) → k < length lines
    → items_of laid (get_or lines k d) ≡ items → before ≡ rows_made stage fonts view laid (take k lines)
    → after ≡ before ++ option_to_list (row_by stage fonts view (get_or lines k d) items) → after ≡ rows_made stage fonts view laid (take (k + 1) lines)
rows_step stage fonts view laid lines k d items before after within same was is =
    is ∙ ap (λ z. z ++ option_to_list (row_by stage fonts view (get_or lines k d) items)) was
    ∙ ap (λ z. rows_made stage fonts view laid (take k lines) ++ option_to_list (row_by stage fonts view (get_or lines k d) z)) (sym same)
    ∙ sym (rows_more stage fonts view laid lines k d within)

-- the row of some items
pub row_is : (stage : Stage) (fonts : List FontValue) (view : EventView) (line : Line) (items : List Placed) (d : Placed) (state : State) (runs : List Run) → 0 < length items
    → state ≡ state_of view (get_or items 0 d) → runs ≡ line_runs stage fonts view line items
    → Some (let row : Row = record { line = line; state = state; runs = runs } in row) ≡ row_by stage fonts view line items
row_is stage fonts view line [] d state runs some is made = absurd (omega arith)
row_is stage fonts view line (p ∷ ps) d state runs some is made =
    ap₂ (λ (s : State) (r : List Run). let row : Row = record { line = line; state = s; runs = r } in Some row) is made

-- What the next line's items are, and that the others follow.
pub record NextLine (laid : Laid) (lines : List Line) (k : ℕ) (line : Line) (from : ℕ) (placed : List Placed) : Type 0 where
  pub ordered : line.first ≤ line.last
  pub within : line.last - line.first ≤ length (drop from placed)
  pub items : items_of laid line ≡ take (line.last - line.first) (drop from placed)
  pub follow : FollowLines laid (drop (k + 1) lines) (drop (from + (line.last - line.first)) placed)

pub next_line : (laid : Laid) (lines : List Line) (k : ℕ) (d : Line) (from : ℕ) (placed : List Placed) → k < length lines → FollowLines laid (drop k lines) (drop from placed)
    → NextLine laid lines k (get_or lines k d) from placed
next_line laid lines k d from placed within h =
    let line = get_or lines k d in
    let parts : FollowLines laid (line ∷ drop (k + 1) lines) (drop from placed) = subst (λ (z : List Line). FollowLines laid z (drop from placed)) (drop_more lines k d within) h in
    record {
      ordered = parts.0;
      within = parts.1;
      items = parts.2;
      follow = subst (λ (z : List Placed). FollowLines laid (drop (k + 1) lines) z) (drop-drop (line.last - line.first) from placed) parts.3;
    }

-- what stands where there is no line
abbrev pub no_line : Line
no_line = record { first = 0; last = 0; top = pos 0; baseline = pos 0; left = pos 0; width = pos 0; height = pos 0 }
