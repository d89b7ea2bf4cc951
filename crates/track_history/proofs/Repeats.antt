-- Where the entry of a live event stands.
use Rattle.std.proofs.Common.{◌≡◌, ℕ, suc, ◌+◌, ◌-◌, ◌<◌, Bool, true, false, cond, List, [], ◌∷◌, ◌++◌, length, map, get_or, refl, sym, ap, ◌∙◌, arith, ⊎_elim, length-append, append_assoc, Option, Some, None}
use Rattle.std.specs.Prelude.{◌==◌, nat_le, slice_get}
use Rattle.std.specs.List.{Contains, position_from}
use Rattle.std.proofs.lemmas.Bool.{cases_Bool}
use Rattle.std.proofs.lemmas.Bool.Decides.{nat_tests}
use Rattle.std.proofs.lemmas.List.{append-nil, length-map, map-append, get_or-append-add}
use Rattle.std.proofs.lemmas.List.Elements.{Contains-get_or}
use Rattle.std.proofs.lemmas.Option.{slice_get-get_or, slice_get-map, get_or_from_slice_get}
use Rattle.std.specs.Option.{option_map}
use Rattle.ass_events.specs.declared.event.Event.{Event}
use Rattle.ass_events.specs.Histories.{Entry, Chunk, Flush, live, live_after, max_live}
use Rattle.track_history.specs.declared.answers.Feed.TheVariants.{Accepted, Repeated, Full}
use Rattle.track_history.specs.Answers.{answer_by, feed_answer, position_of}

-- a history ends with the chunks of its live events
ends_live : (events : List Event) (entries : List Entry) → (front : List Entry) × (map Chunk events ++ entries ≡ front ++ map Chunk (live_after events entries))
ends_live events [] = ([], append-nil (map Chunk events))
ends_live events (Chunk e ∷ es) =
    let rest = ends_live (events ++ e ∷ []) es in
    (rest.0, sym (ap (λ xs. xs ++ es) (map-append Chunk events (e ∷ [])) ∙ append_assoc (map Chunk events) (Chunk e ∷ []) es) ∙ rest.1)
ends_live events (Flush ∷ es) =
    let rest = ends_live [] es in
    (map Chunk events ++ Flush ∷ rest.0, ap (λ xs. map Chunk events ++ Flush ∷ xs) rest.1 ∙ sym (append_assoc (map Chunk events) (Flush ∷ rest.0) (map Chunk (live_after [] es))))

not_repeated : (full : Bool) (most entries place : ℕ) → cond full (Full most) (Accepted entries) ≡ Repeated place → ⊥
not_repeated true most entries place e = cc
not_repeated false most entries place e = cc

by_position : (o : Option ℕ) (lives entries place : ℕ) → answer_by o lives entries ≡ Repeated place → (k : ℕ) × (o ≡ Some k) × (place ≡ entries - lives + k)
by_position (Some k) lives entries place e = let same : entries - lives + k ≡ place = cc in (k, refl, sym same)
by_position None lives entries place e = absurd (not_repeated (nat_le max_live lives) max_live entries place e)

same_index : (i k : ℕ) → Some i ≡ Some k → i ≡ k
same_index i k e = cc

no_index : (k : ℕ) → None ≡ Some k → ⊥
no_index k e = cc

-- what stands where the test first passes
found_at : {X : Type 0} (t : X → Bool) (i : ℕ) (xs : List X) (k : ℕ) (d : X) → position_from t i xs ≡ Some k → (j : ℕ) × (k ≡ i + j) × (j < length xs) × (t (get_or xs j d) ≡ true)
found_at t i [] k d e = absurd (no_index k e)
found_at t i (x ∷ xs) k d e =
    ⊎_elim
    (λ pass. let same = same_index i k (sym (ap (λ b. cond b (Some i) (position_from t (i + 1) xs)) pass) ∙ e) in (0, omega (arith, same), omega arith, pass))
    (λ fail. let rest = found_at t (i + 1) xs k d (sym (ap (λ b. cond b (Some i) (position_from t (i + 1) xs)) fail) ∙ e) in
    let at = rest.1 in let within = rest.2 in (suc rest.0, omega (arith, at), omega (arith, within), rest.3))
    (cases_Bool (t x))

pub repeated_entry : (history : List Entry) (event : Event) (place : ℕ) → feed_answer history event ≡ Repeated place
    → (other : Event) × (slice_get history place ≡ Some (Chunk other)) × (other.order ≡ event.order) × Contains (live history) other
repeated_entry history event place answer =
    let lives = live history in
    let by = by_position (position_of event.order lives) (length lives) (length history) place answer in
    let found = found_at (λ (e : Event). e.order == event.order) 0 lives by.0 event by.1 in
    let j = found.0 in let other = get_or lives j event in
    let ends = ends_live [] history in let front = ends.0 in
    let long : length history ≡ length (front ++ map Chunk lives) = ap length ends.1 in
    let within = found.2 in let index = found.1 in let is = by.2 in
    let at : place ≡ length front + j = omega (arith, long, length-append front (map Chunk lives), length-map lives Chunk, index, is) in
    let there : slice_get (map Chunk lives) j ≡ Some (Chunk other) = slice_get-map Chunk lives j ∙ ap (option_map Chunk) (slice_get-get_or lives j event within) in
    let short : place < length history = omega (arith, at, within, long, length-append front (map Chunk lives), length-map lives Chunk) in
    let entry : get_or history place Flush ≡ Chunk other =
    ap (λ xs. get_or xs place Flush) ends.1 ∙ (ap (λ n. get_or (front ++ map Chunk lives) n Flush) at ∙ (get_or-append-add front (map Chunk lives) j Flush ∙ get_or_from_slice_get (map Chunk lives) j (Chunk other) Flush there)) in
    let test = found.3 in
    (other, slice_get-get_or history place Flush short ∙ ap Some entry, grind (arith, nat_tests), Contains-get_or lives j event within)
