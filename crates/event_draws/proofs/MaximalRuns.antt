-- The runs of a line are its items, and none could go on.
use Rattle.std.proofs.Common.{◌≡◌, refl, ap, Bool, true, false, cond, List, [], ◌∷◌}
use Rattle.override_tags.specs.declared.view.EventView.{EventView}
use Rattle.text_layout.specs.declared.laid.Placed.{Placed}
use Rattle.event_draws.specs.Runs.{are_joined, with_item, runs_of, AreRunsOf}

-- an item before runs, by whether it is joined to the next one
by_join : (view : EventView) (b : Bool) (item next : Placed) (run : List Placed) (runs : List (List Placed)) (items : List Placed) → are_joined view item next ≡ b
    → AreRunsOf view items ((next ∷ run) ∷ runs)
    → AreRunsOf view (item ∷ items) (cond b ((item ∷ next ∷ run) ∷ runs) ((item ∷ []) ∷ (next ∷ run) ∷ runs))
by_join view true item next run runs items is h = record {
  whole = ap (λ l. item ∷ l) h.whole;
  joined = ((is, h.joined.0), h.joined.1);
  maximal = h.maximal;
}
by_join view false item next run runs items is h = record {
  whole = ap (λ l. item ∷ l) h.whole;
  joined = (tt, h.joined);
  maximal = (is, h.maximal);
}

begun : (view : EventView) (item : Placed) (items : List Placed) (runs : List (List Placed)) → AreRunsOf view items runs → AreRunsOf view (item ∷ items) (with_item view item runs)
begun view item items [] h = record { whole = ap (λ l. item ∷ l) h.whole; joined = (tt, tt); maximal = (tt, tt) }
begun view item items ([] ∷ runs) h = absurd h.joined.0
begun view item items ((next ∷ run) ∷ runs) h = by_join view (are_joined view item next) item next run runs items refl h

pub runs_maximal : (view : EventView) (items : List Placed) → AreRunsOf view items (runs_of view items)
runs_maximal view [] = record { whole = refl; joined = tt; maximal = tt }
runs_maximal view (item ∷ items) = begun view item items (runs_of view items) (runs_maximal view items)
