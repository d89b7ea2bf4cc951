-- Public: the runs of a line: as many items in a row as have equal states; a drawing is a run of its own.
use Rattle.std.specs.Prelude.{◌≡◌, ◌&&◌, not, Bool, true, false, if◌then◌else◌, List, [], ◌∷◌, flat_map}
use Rattle.override_tags.specs.contracts.view.StatePartialEq.TheImpl as state_eq
use Rattle.override_tags.specs.declared.view.EventView.{EventView}
use Rattle.override_tags.specs.declared.view.ShownKind.{ShownKind}
use Rattle.override_tags.specs.declared.view.ShownKind.TheVariants as shown
use Rattle.override_tags.specs.declared.view.State.{State}
use Rattle.text_layout.specs.declared.laid.Placed.{Placed}
use Rattle.event_draws.specs.Items.{shown_of, state_of}

abbrev pub equal_states : State → State → Bool
equal_states = state_eq.ghosts.eq

abbrev pub is_drawing : ShownKind → Bool
is_drawing (shown.Drawing _) = true
is_drawing _ = false

-- An item belongs to the run of the one before it.
abbrev pub are_joined : EventView → Placed → Placed → Bool
are_joined view a b = equal_states (state_of view a) (state_of view b) && (not (is_drawing (shown_of view a).kind) && not (is_drawing (shown_of view b).kind))

-- an item before runs; it begins the first of them where it is joined to that one's first item
abbrev pub with_item : EventView → Placed → List (List Placed) → List (List Placed)
with_item view item [] = (item ∷ []) ∷ []
with_item view item ([] ∷ runs) = (item ∷ []) ∷ runs
with_item view item ((next ∷ run) ∷ runs) = if are_joined view item next then (item ∷ next ∷ run) ∷ runs else (item ∷ []) ∷ (next ∷ run) ∷ runs

abbrev pub runs_of : EventView → List Placed → List (List Placed)
runs_of view [] = []
runs_of view (item ∷ items) = with_item view item (runs_of view items)

-- ---- a law

-- each item but the first is joined to the one before it, and there is one at least
abbrev pub IsRun : EventView → List Placed → Type 0
IsRun view [] = ⊥
IsRun view (a ∷ []) = Unit {0}
IsRun view (a ∷ b ∷ items) = (are_joined view a b ≡ true) × IsRun view (b ∷ items)

abbrev pub AreRuns : EventView → List (List Placed) → Type 0
AreRuns view [] = Unit {0}
AreRuns view (run ∷ runs) = IsRun view run × AreRuns view runs

-- the first item of the next run isn't joined to the last one of this run
abbrev pub EndsBefore : EventView → List Placed → List (List Placed) → Type 0
EndsBefore view (a ∷ []) ((b ∷ _) ∷ _) = are_joined view a b ≡ false
EndsBefore view (a ∷ b ∷ items) runs = EndsBefore view (b ∷ items) runs
EndsBefore view _ _ = Unit {0}

abbrev pub AreMaximal : EventView → List (List Placed) → Type 0
AreMaximal view [] = Unit {0}
AreMaximal view (run ∷ runs) = EndsBefore view run runs × AreMaximal view runs

-- The runs of a line are its items, one run after the other; none could go on.
pub record AreRunsOf (view : EventView) (items : List Placed) (runs : List (List Placed)) : Type 0 where
  pub whole : flat_map (λ run. run) runs ≡ items
  pub joined : AreRuns view runs
  pub maximal : AreMaximal view runs
