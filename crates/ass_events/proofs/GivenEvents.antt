-- The events that the lines of a script give.
use Rattle.std.proofs.Common.{◌≡◌, ◌≢◌, ℕ, zero, suc, ◌+◌, ◌<◌, ◌≤◌, List, [], ◌∷◌, ◌++◌, length, map, All, ap, refl, sym, ◌∙◌, arith, Result, Ok, Err, append-nil, flat_map}
use Rattle.std.specs.List.{range_with_len}
use Rattle.std.specs.Prelude.{slice_index_or}
use Rattle.std.proofs.lemmas.Grind.{flat_map-append}
use Rattle.std.proofs.lemmas.List.Elements.{All-append, All-cons, All-nil, All-weaker}
use Rattle.std.proofs.lemmas.List.FromFn.{map-range_with_len_more}
use Rattle.ass_script.specs.Scripts.{ScriptValue}
use Rattle.ass_events.specs.Events.{event_of_line, line_event, line_made}
use Rattle.ass_events.specs.Fields.{FieldValues, columns_of, examined, no_fields}
use Rattle.ass_events.specs.Histories.{HaveOwnOrders}
use Rattle.ass_events.specs.declared.event.ChunkRefusal.{ChunkRefusal}
use Rattle.ass_events.specs.declared.event.Event.{Event}
use Rattle.ass_events.specs.ScriptEvents.{event_given, first_events}

abbrev order_in : Result Event ChunkRefusal → ℕ
order_in (Ok event) = event.order
order_in (Err refusal) = 0

made_order : (i : ℕ) (fields : Result FieldValues ChunkRefusal) (event : Event) → line_made i fields ≡ Ok event → event.order ≡ i
made_order i (Ok fields) event e = sym (ap order_in e)
made_order i (Err refusal) event e = absurd cc

-- an event of a line has its place
pub line_order : (script : ScriptValue) (i : ℕ) (event : Event) → event_of_line script i ≡ Ok event → event.order ≡ i
unfolding line_event
line_order script i event e = made_order i (examined (columns_of script.format (slice_index_or script.lines i [])) no_fields) event e

module _ (answers : ℕ → Result Event ChunkRefusal) where
  abbrev given : ℕ → ℕ → List Event
  given a n = flat_map event_given (map answers (range_with_len a n))

  -- what holds of each event that is given holds of all
  all_given : (P : Event → Type 0) (a n : ℕ) → ((i : ℕ) (e : Event) → a ≤ i → i < a + n → answers i ≡ Ok e → P e) → All P (given a n)
  all_given P a zero each = All-nil P
  all_given P a (suc n) each =
      All-append P (event_given (answers a)) (given (a + 1) n) (first (answers a) refl)
      (all_given P (a + 1) n (λ i e from below is. each i e (omega (arith, from)) (omega (arith, below)) is))
    where
      first : (answer : Result Event ChunkRefusal) → answers a ≡ answer → All P (event_given answer)
      first (Ok e) is = All-cons P e [] (each a e (omega arith) (omega arith) is) (All-nil P)
      first (Err refusal) is = All-nil P

  few_given : (a n : ℕ) → length (given a n) ≤ n
  few_given a zero = omega arith
  few_given a (suc n) = first (answers a) (few_given (a + 1) n)
    where
      first : (answer : Result Event ChunkRefusal) → length (given (a + 1) n) ≤ n → length (event_given answer ++ given (a + 1) n) ≤ suc n
      first (Ok e) few = omega (arith, few)
      first (Err refusal) few = omega (arith, few)

  own_given : ((i : ℕ) (e : Event) → answers i ≡ Ok e → e.order ≡ i) → (a n : ℕ) → HaveOwnOrders (given a n)
  own_given orders a zero = tt
  own_given orders a (suc n) = first (answers a) refl (own_given orders (a + 1) n)
    where
      later : All (λ (f : Event). a < f.order) (given (a + 1) n)
      later = all_given (λ (f : Event). a < f.order) (a + 1) n (λ i e from below is. omega (arith, orders i e is, from))

      first : (answer : Result Event ChunkRefusal) → answers a ≡ answer → HaveOwnOrders (given (a + 1) n) → HaveOwnOrders (event_given answer ++ given (a + 1) n)
      first (Ok e) is rest =
          (All-weaker (λ (f : Event). a < f.order) (λ (f : Event). e.order ≢ f.order) (λ f below same. omega (arith, below, same, orders a e is)) (given (a + 1) n) later, rest)
      first (Err refusal) is rest = rest

-- the events of one line more
pub one_more : (script : ScriptValue) (i : ℕ) → first_events script (i + 1) ≡ first_events script i ++ event_given (event_of_line script i)
one_more script i =
    let lines = map (event_of_line script) (range_with_len 0 i) in
    ap (flat_map event_given) (map-range_with_len_more (event_of_line script) 0 i i (omega arith))
    ∙ flat_map-append event_given lines (event_of_line script i ∷ [])
    ∙ ap (λ more. first_events script i ++ more) (append-nil (event_given (event_of_line script i)))

pub accepted : (script : ScriptValue) (i : ℕ) (event : Event) → event_of_line script i ≡ Ok event → first_events script (i + 1) ≡ first_events script i ++ event ∷ []
accepted script i event is = one_more script i ∙ ap (λ answer. first_events script i ++ event_given answer) is

pub refused : (script : ScriptValue) (i : ℕ) (refusal : ChunkRefusal) → event_of_line script i ≡ Err refusal → first_events script (i + 1) ≡ first_events script i
refused script i refusal is = one_more script i ∙ ap (λ answer. first_events script i ++ event_given answer) is ∙ append-nil (first_events script i)

pub all_events : (script : ScriptValue) (count : ℕ) (P : Event → Type 0) → ((i : ℕ) (e : Event) → i < count → event_of_line script i ≡ Ok e → P e) → All P (first_events script count)
all_events script count P each = all_given (event_of_line script) P 0 count (λ i e from below is. each i e (omega (arith, below)) is)

pub few_events : (script : ScriptValue) (count : ℕ) → length (first_events script count) ≤ count
few_events script count = few_given (event_of_line script) 0 count

pub own_orders : (script : ScriptValue) (count : ℕ) → HaveOwnOrders (first_events script count)
own_orders script count = own_given (event_of_line script) (line_order script) 0 count
