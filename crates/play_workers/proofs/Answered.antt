-- What the giver knows of the answer to one feed.
use Rattle.std.proofs.Common.{◌≡◌, ℕ, ◌≤◌, true, cond, List, [], ◌∷◌, ◌++◌, length, refl, sym, ap, subst, ◌∙◌, arith, append_assoc, ⊎_elim, Option, Some, None}
use Rattle.std.specs.Prelude.{nat_le}
use Rattle.std.specs.List.{Contains}
use Rattle.std.proofs.lemmas.Bool.{cases_Bool}
use Rattle.std.proofs.lemmas.Bool.Decides.{nat_tests}
use Rattle.std.proofs.lemmas.List.{append_cancel_left, map-append}
use Rattle.std.proofs.lemmas.List.Elements.{Contains-append_left}
use Rattle.turn_cell.specs.History.{History, IsPrefix}
use Rattle.ass_events.specs.declared.event.Event.{Event}
use Rattle.ass_script.specs.declared.script.EventField.{EventField}
use Rattle.ass_events.specs.Histories.{Entry, Chunk, flushes_of, live, max_live}
use Rattle.track_history.specs.Answers.{IsFeedAnswer, answer_by, entry_of, extended, fed_entry, feed_answer, position_of}
use Rattle.track_history.specs.Calls.{IsOffered, TrackView, history_of}
use Rattle.track_history.specs.declared.answers.Feed.{Feed}
use Rattle.track_history.specs.declared.answers.Feed.TheVariants.{Accepted, Repeated, Malformed, Full, OutOfMemory}
use Rattle.track_history.specs.declared.answers.TrackEntry.{TrackEntry}
use Rattle.track_history.proofs.Repeats.{repeated_entry}
use Rattle.track_history.proofs.Turns.{history_of-with_entry}
use Rattle.play_model.specs.Feeding.{Has, HasMemory, IsKnownOf}
use Rattle.play_workers.proofs.Alive.{absent, is_live, length_live, was_live}
use Rattle.play_model.proofs.SettledLaws.{live_behind}
use Rattle.track_history.proofs.Histories.{flushes_of-append}

-- ---- answers by the place

not_malformed : (o : Option ℕ) (lives entries place : ℕ) (field : EventField) → Malformed field place ≡ answer_by o lives entries → ⊥
not_malformed (Some k) lives entries place field e = cc
not_malformed None lives entries place field e = ⊎_elim
    (λ full. let is : Malformed field place ≡ Full max_live = e ∙ ap (λ b. cond b (Full max_live) (Accepted entries)) full in cc)
    (λ room. let is : Malformed field place ≡ Accepted entries = e ∙ ap (λ b. cond b (Full max_live) (Accepted entries)) room in cc)
    (cases_Bool (nat_le max_live lives))

accepted_absent : (o : Option ℕ) (lives entries place : ℕ) → Accepted place ≡ answer_by o lives entries → o ≡ None
accepted_absent (Some k) lives entries place e = absurd cc
accepted_absent None lives entries place e = refl

full_absent : (o : Option ℕ) (lives entries most : ℕ) → Full most ≡ answer_by o lives entries → o ≡ None
full_absent (Some k) lives entries most e = absurd cc
full_absent None lives entries most e = refl

full_many : (o : Option ℕ) (lives entries most : ℕ) → Full most ≡ answer_by o lives entries → max_live ≤ lives
full_many (Some k) lives entries most e = absurd cc
full_many None lives entries most e = ⊎_elim
    (λ full. let test : nat_le max_live lives ≡ true = full in grind (arith, nat_tests))
    (λ room. absurd (let is : Full most ≡ Accepted entries = e ∙ ap (λ b. cond b (Full max_live) (Accepted entries)) room in cc))
    (cases_Bool (nat_le max_live lives))

-- ---- what a turn found behind a dead history

module _ (old before fresh list : List Entry) (dead : live old ≡ []) (begins : IsPrefix (old ++ before) list) where
  abbrev mid : List Entry
  mid = before ++ begins.0

  found : list ≡ old ++ mid
  found = sym begins.1 ∙ append_assoc old before begins.0

  mid_live : live list ≡ live mid
  mid_live = ap live found ∙ live_behind old mid dead

  -- the same where the answer gave this entry
  module _ (given : Option Entry) (gave : extended list given ≡ old ++ fresh) where
    fresh_is : extended mid given ≡ fresh
    fresh_is = append_cancel_left old (extended mid given) fresh (sym (behind given) ∙ ap (λ z. extended z given) (sym found) ∙ gave)
      where
        behind : (o : Option Entry) → extended (old ++ mid) o ≡ old ++ extended mid o
        behind None = refl
        behind (Some x) = append_assoc old mid (x ∷ [])

    none_in_mid : flushes_of fresh ≡ 0 → flushes_of mid ≡ 0
    none_in_mid none = let all : flushes_of (extended mid given) ≡ 0 = ap flushes_of fresh_is ∙ none in fewer given all
      where
        fewer : (o : Option Entry) → flushes_of (extended mid o) ≡ 0 → flushes_of mid ≡ 0
        fewer None z = z
        fewer (Some x) z = let sum = flushes_of-append mid (x ∷ []) in omega (arith, sum, z)

  not_before : (event : Event) → position_of event.order (live list) ≡ None → flushes_of mid ≡ 0 → Has before event.order → ⊥
  not_before event nowhere none has =
      let e = is_live mid has.event none (Contains-append_left before begins.0 (Chunk has.event) has.there) in
      absent event.order (live mid) has.event (ap (position_of event.order) (sym mid_live) ∙ nowhere) e has.is

  pub known_of : (event : Event) (answer : Feed) → extended list (fed_entry event answer) ≡ old ++ fresh → IsFeedAnswer list event answer → HasMemory answer → IsKnownOf before fresh event answer
  known_of event (Accepted place) gave is memory =
      let said : Accepted place ≡ feed_answer list event = is (λ e. cc) in
      λ none has. not_before event (accepted_absent (position_of event.order (live list)) (length (live list)) (length list) place said)
      (none_in_mid (Some (Chunk event)) gave none) has
  known_of event (Repeated place) gave is memory =
      let said : Repeated place ≡ feed_answer list event = is (λ e. cc) in
      let there = repeated_entry list event place (sym said) in
      let whole : mid ≡ fresh = fresh_is None gave in
      λ none. record {
        event = there.0;
        there = subst (λ (z : List Entry). Contains z (Chunk there.0)) whole (was_live mid there.0 (none_in_mid None gave none) (subst (λ (z : List Event). Contains z there.0) mid_live there.3));
        is = there.2;
      }
  known_of event (Malformed field place) gave is memory =
      let said : Malformed field place ≡ feed_answer list event = is (λ e. cc) in
      not_malformed (position_of event.order (live list)) (length (live list)) (length list) place field said
  known_of event (Full most) gave is memory =
      let said : Full most ≡ feed_answer list event = is (λ e. cc) in
      let whole : mid ≡ fresh = fresh_is None gave in
      let many = full_many (position_of event.order (live list)) (length (live list)) (length list) most said in
      λ none. (
        (let long = length_live mid (none_in_mid None gave none) in let same = ap length mid_live in let is_long = ap length whole in omega (arith, many, long, same, is_long)),
        not_before event (full_absent (position_of event.order (live list)) (length (live list)) (length list) most said) (none_in_mid None gave none),
      )
  known_of event OutOfMemory gave is memory = absurd memory

-- ---- one feed

pub history-prefix : (xs ys : History TrackEntry) → IsPrefix xs ys → IsPrefix (history_of xs) (history_of ys)
history-prefix xs ys begins = (history_of begins.0, sym (map-append (λ (pair : ℕ × TrackEntry). entry_of pair.1) xs begins.0) ∙ ap history_of begins.1)

pub offered_known : (event : Event) (pass after : TrackView) (answer : Feed) → IsOffered event pass after answer → HasMemory answer
    → (old before fresh : List Entry) → live old ≡ [] → history_of pass.seen ≡ old ++ before → history_of after.seen ≡ old ++ fresh → IsKnownOf before fresh event answer
offered_known event pass after answer h memory old before fresh dead first last =
    let turn = h.turn.turn in
    let list = history_of turn.list in
    let begins : IsPrefix (old ++ before) list = subst (λ (z : List Entry). IsPrefix z list) first (history-prefix pass.seen turn.list turn.extends.begins) in
    let gave : extended list (fed_entry event answer) ≡ old ++ fresh =
    ap (extended list) (sym h.turn.is_entry) ∙ sym (history_of-with_entry turn.list pass.number h.turn.given) ∙ sym (ap history_of turn.seen) ∙ last in
    known_of old before fresh list dead begins event answer gave h.answered memory
