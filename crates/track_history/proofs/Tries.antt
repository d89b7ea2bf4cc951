-- Tries that are lost before a turn is had.
use Rattle.std.proofs.Common.{◌≡◌, ℕ, ◌+◌, List, Result, Ok, Err, sym, ap, ◌∙◌, subst, arith}
use Rattle.std.specs.Result.{IfOk, OnErr}
use Rattle.turn_cell.specs.History.{entry_list}
use Rattle.turn_cell.specs.Passes.{CellView, Follows, IsOf}
use Rattle.ass_events.specs.declared.event.Event.{Event}
use Rattle.track_history.specs.declared.answers.Feed.{Feed}
use Rattle.track_history.specs.declared.answers.TrackEntry.{TrackEntry}
use Rattle.track_history.specs.Calls.{IsOffered, IsTurn, TrackView}

-- the pass after so many tries more
abbrev pub tried : TrackView → ℕ → TrackView
tried pass n = record pass { lost = pass.lost + n }

module _ (pass after : TrackView) (n : ℕ) where
  follows-tried : (given : List TrackEntry) → Follows (tried pass n) after given → Follows pass after given
  follows-tried given f = record {
    cell = f.cell;
    tag = f.tag;
    number = f.number;
    next = f.next;
    past = f.past;
    turns = f.turns;
    lost = let more = f.lost in omega arith;
    seen = f.seen;
    mine = f.mine;
  }

  pub offered-tried : (event : Event) (answer : Feed) → IsOffered event (tried pass n) after answer → IsOffered event pass after answer
  offered-tried event answer h = record {
    turn = record {
      given = h.turn.given;
      is_entry = h.turn.is_entry;
      turn = record {
        list = h.turn.turn.list;
        extends = h.turn.turn.extends;
        seen = h.turn.turn.seen;
        turns = h.turn.turn.turns;
        follows = follows-tried (entry_list h.turn.given) h.turn.turn.follows;
      };
      legal = h.turn.legal;
      short = h.turn.short;
    };
    answered = h.answered;
    wanting = h.wanting;
    history = h.history;
  }

pub one-more : (pass waiting : TrackView) (n m : ℕ) → waiting ≡ tried pass n → n + 1 ≡ m → record waiting { lost = waiting.lost + 1 } ≡ tried pass m
one-more pass waiting n m is one =
    let more : pass.lost + n + 1 ≡ pass.lost + m = omega (arith, one) in
    ap (λ (p : TrackView). record p { lost = p.lost + 1 }) is ∙ ap (λ (l : ℕ). record pass { lost = l }) more

module _ {E : Type 0} (pass waiting after : TrackView) (n : ℕ) (event : Event) (is : waiting ≡ tried pass n) where
  -- what the last try came to
  pub last-offered : (answer : Result Feed E) → IfOk answer (IsOffered event waiting after) → IfOk answer (IsOffered event pass after)
  last-offered (Ok answer) h = offered-tried pass after n event answer (subst (λ (p : TrackView). IsOffered event p after answer) is h)
  last-offered (Err out) h = tt

  pub last-lost : (m : ℕ) → n + 1 ≡ m → (answer : Result Feed E) → OnErr answer (after ≡ record waiting { lost = waiting.lost + 1 }) → OnErr answer (after ≡ tried pass m)
  last-lost m one (Ok answer) h = tt
  last-lost m one (Err out) h = h ∙ one-more pass waiting n m is one

pub tried-of : (cell : CellView (Unit {0})) (pass waiting : TrackView) (n : ℕ) → waiting ≡ tried pass n → IsOf cell pass → IsOf cell waiting
tried-of cell pass waiting n is of = subst (λ (p : TrackView). IsOf cell p) (sym is) (record { id = of.id; tagged = of.tagged })

pub tried-none : (pass : TrackView) → pass ≡ tried pass 0
tried-none pass = let same : pass.lost ≡ pass.lost + 0 = omega arith in ap (λ (l : ℕ). record pass { lost = l }) same
