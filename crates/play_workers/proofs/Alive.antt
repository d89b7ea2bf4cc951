-- What is live behind a dead history.
use Rattle.std.proofs.Common.{◌≡◌, ℕ, ◌+◌, true, cond, List, [], ◌∷◌, ◌++◌, length, map, sym, ap, subst, ◌∙◌, arith, append_assoc, append-nil, ⊎_elim, Some, None}
use Rattle.std.specs.Prelude.{◌==◌}
use Rattle.std.specs.List.{Contains, position_from}
use Rattle.std.proofs.lemmas.Bool.{cases_Bool}
use Rattle.std.proofs.lemmas.Bool.Decides.{nat_tests}
use Rattle.std.proofs.lemmas.List.{length-map, map-append}
use Rattle.ass_events.specs.declared.event.Event.{Event}
use Rattle.ass_events.specs.Histories.{Entry, Chunk, Flush, flushes_of, live, live_after}
use Rattle.track_history.specs.Answers.{position_of}
use Rattle.play_model.proofs.FeedLaws.{unchunk}
use Rattle.play_model.proofs.JoinedPasses.{Contains_cons_cases, Contains_map, not_in_nil}

no_flush : (xs : List Entry) → flushes_of (Flush ∷ xs) ≡ 0 → ⊥
no_flush xs none = absurd (omega (arith, none))

chunks_after : (es : List Event) (xs : List Entry) → flushes_of xs ≡ 0 → map Chunk (live_after es xs) ≡ map Chunk es ++ xs
chunks_after es [] none = sym (append-nil (map Chunk es))
chunks_after es (Chunk e ∷ xs) none =
    chunks_after (es ++ e ∷ []) xs none ∙ ap (λ z. z ++ xs) (map-append Chunk es (e ∷ [])) ∙ append_assoc (map Chunk es) (Chunk e ∷ []) xs
chunks_after es (Flush ∷ xs) none = absurd (no_flush xs none)

-- without a flush all is live
pub chunks_live : (xs : List Entry) → flushes_of xs ≡ 0 → map Chunk (live xs) ≡ xs
chunks_live xs none = chunks_after [] xs none

pub length_live : (xs : List Entry) → flushes_of xs ≡ 0 → length (live xs) ≡ length xs
length_live xs none = let long = length-map (live xs) Chunk in let same = ap length (chunks_live xs none) in omega (arith, long, same)

pub is_live : (xs : List Entry) (e : Event) → flushes_of xs ≡ 0 → Contains xs (Chunk e) → Contains (live xs) e
is_live xs e none there = unchunk (live xs) e (subst (λ (z : List Entry). Contains z (Chunk e)) (sym (chunks_live xs none)) there)

pub was_live : (xs : List Entry) (e : Event) → flushes_of xs ≡ 0 → Contains (live xs) e → Contains xs (Chunk e)
was_live xs e none there = subst (λ (z : List Entry). Contains z (Chunk e)) (chunks_live xs none) (Contains_map Chunk (live xs) e there)

-- ---- places by ReadOrder

some_none : (k : ℕ) → Some k ≡ None → ⊥
some_none k e = cc

-- where there is no place, no event has the ReadOrder
absent_from : (i order : ℕ) (es : List Event) (e : Event) → position_from (λ (x : Event). x.order == order) i es ≡ None → Contains es e → e.order ≡ order → ⊥
absent_from i order [] e none there is = not_in_nil e there
absent_from i order (x ∷ es) e none there is = ⊎_elim
    (λ pass. some_none i (sym (ap (λ b. cond b (Some i) (position_from (λ (x : Event). x.order == order) (i + 1) es)) pass) ∙ none))
    (λ fail. ⊎_elim
    (λ same. let here : x.order ≡ order = ap (λ (z : Event). z.order) same ∙ is in let test : x.order == order ≡ true = grind (arith, nat_tests) in cc)
    (λ later. absent_from (i + 1) order es e (sym (ap (λ b. cond b (Some i) (position_from (λ (x : Event). x.order == order) (i + 1) es)) fail) ∙ none) later is)
    (Contains_cons_cases x es e there))
    (cases_Bool (x.order == order))

pub absent : (order : ℕ) (es : List Event) (e : Event) → position_of order es ≡ None → Contains es e → e.order ≡ order → ⊥
absent order es e none there is = absent_from 0 order es e none there is
