-- What a turn's value stands for after one step more, and what a turn adds to its pass.
use Rattle.std.proofs.Common.{◌≡◌, ℕ, ◌+◌, ◌≤◌, Bool, true, false, List, [], ◌∷◌, ◌++◌, map, Option, Some, None, refl, sym, ap, ◌∙◌, subst, arith}
use Rattle.std.specs.Cmp.{IsEquivalence}
use Rattle.std.specs.List.{All}
use Rattle.std.specs.Option.{IsSome}
use Rattle.std.proofs.lemmas.List.{map-append}
use Rattle.std.proofs.lemmas.List.Elements.{All-nil, All-push}
use Rattle.std.specs.declared.snapshot.Snapshot.{Snapshot}
use Rattle.turn_cell.specs.History.{History, entries_of, with_entry, entry_list}
use Rattle.turn_cell.specs.Passes.{TurnView, IsTurnAfterTries, mine}
use Rattle.turn_cell.proofs.Histories.{entries_of-map}
use Rattle.turn_cell.proofs.Passes.{Follows_same, TakesTurn_give}
use Rattle.evict_core.specs.Machine.{State, Status, Step, Answer, IsHardLimit, IsEnabled, can_fill, holds_all, state_after, maker_in, pins_in, status_of, ask_answer, max_entries, max_budget}
use Rattle.evict_core.specs.Machine as machine
use Rattle.evict_core.specs.Asked.{ready_value}
use Rattle.evict_core.specs.History.{opening, replay, pins_taken, pins_given, pins_left, pins_held, is_open_in, has_open, MayFollow, IsLegal, IsFit, FillsFit}
use Rattle.evict_core.specs.declared.hard_limit.HardLimit.{HardLimit}
use Rattle.evict_core.proofs.HardLemmas.{none-fits, more-fits}
use Rattle.evict_core.proofs.HistoryLemmas.{replay-append, taken-append, given-append, open-append}
use Rattle.evict_core.proofs.LegalLemmas.{none-is-legal, more-is-legal}
use Rattle.evict_core.proofs.PinLaws.{flies-where-pending, held-are-pins, given-were-taken}
use Rattle.flight_cache.specs.Meaning.{Meaning, entry_cost}
use Rattle.flight_cache.specs.declared.kept.Opening.{Opening}
use Rattle.flight_cache.specs.declared.kept.Kept.{Kept}
use Rattle.flight_cache.specs.declared.kept.Entry.{Entry}
use Rattle.flight_cache.specs.declared.kept.Entry.TheVariants.{Fill, Fail, Spill, Unpin, Limits, Hard}
use Rattle.flight_cache.specs.Histories.{value_under, step_of, steps_in, is_in, IsOfShard, AreMade, IsLegalUnder, left_by, Stands}
use Rattle.flight_cache.specs.Calls.{ShardView, ShardPassView, own_steps, GivesSteps}
use Rattle.flight_cache.specs.Answers.{IsShortAsk, takes_memory}
use Rattle.flight_cache.proofs.Values.{made-when-legal, value-found}

module _ {K V T : Type 0} (eq : K → K → Bool) (laws : IsEquivalence eq) (meaning : Meaning K V T) (under : Opening T) where
  -- the steps of a number's own entries
  pub own-in : (history : History (Entry K)) (n : ℕ) → entries_of n (steps_in meaning under history) ≡ map (step_of meaning under) (entries_of n history)
  own-in history n = entries_of-map (step_of meaning under) n history

  -- a pass gave back no more than it took
  fewer-own : (pass : ShardPassView K T) → IsLegalUnder eq meaning under pass.seen → (k : K) → pins_given eq (own_steps meaning under pass) k ≤ pins_taken eq (own_steps meaning under pass) k
  fewer-own pass legal k = subst (λ (steps : List (Step K V)). pins_given eq steps k ≤ pins_taken eq steps k) (own-in pass.seen pass.number)
      (given-were-taken eq laws under.entries under.budget (steps_in meaning under pass.seen) legal.legal pass.number k)

  pins-added : (pass after : ShardPassView K T) (steps : List (Step K V)) → own_steps meaning under after ≡ own_steps meaning under pass ++ steps
      → IsLegalUnder eq meaning under pass.seen → IsLegalUnder eq meaning under after.seen
      → (k : K) → pins_left eq (own_steps meaning under after) k + pins_given eq steps k ≡ pins_left eq (own_steps meaning under pass) k + pins_taken eq steps k
  pins-added pass after steps own legal legal' k =
      let before = fewer-own pass legal k in
      let here = fewer-own after legal' k in
      let t = ap (λ l. pins_taken eq l k) own ∙ taken-append eq (own_steps meaning under pass) steps k in
      let g = ap (λ l. pins_given eq l k) own ∙ given-append eq (own_steps meaning under pass) steps k in omega arith

  claims-added : (pass after : ShardPassView K T) (steps : List (Step K V)) → own_steps meaning under after ≡ own_steps meaning under pass ++ steps
      → (k : K) → has_open eq (own_steps meaning under after) k ≡ is_open_in eq (has_open eq (own_steps meaning under pass) k) steps k
  claims-added pass after steps own k = ap (λ l. has_open eq l k) own ∙ open-append eq false (own_steps meaning under pass) steps k

module _ {K V T : Type 0} (meaning : Meaning K V T) (under : Opening T) where
  pub steps-more : (history : History (Entry K)) (n : ℕ) (e : Entry K) → steps_in meaning under (history ++ (n, e) ∷ []) ≡ steps_in meaning under history ++ (n, step_of meaning under e) ∷ []
  steps-more history n e = map-append (λ (e : ℕ × Entry K). (e.0, step_of meaning under e.1)) history ((n, e) ∷ [])

  module _ (eq : K → K → Bool) (laws : IsEquivalence eq) (same : (a b : K) → eq a b ≡ true → a ≡ b) where
    pub none-legal : IsLegalUnder eq meaning under []
    none-legal = record {
      legal = none-is-legal V eq under.entries under.budget;
      fits = none-fits V eq under.entries under.budget;
      keys = All-nil (λ (e : ℕ × Step K V). IsOfShard meaning under e.1);
    }

    module _ {M : Type 0} where
      -- what is legal gives what the entries stand for
      stands-legal : (kept : Kept M K V T) (history : History (Entry K)) → IsLegalUnder eq meaning under history → kept.entries ≡ left_by eq meaning under history → Stands eq meaning under kept history
      stands-legal kept history legal is = record {
        legal = legal;
        entries = is;
        made = subst (λ (z : State K V). AreMade eq meaning under z) (sym is) (made-when-legal meaning under eq laws same history legal);
      }

      -- no entries, and no step
      pub stands-none : (first : State K V) → first ≡ opening under.entries under.budget → Stands eq meaning {M = M} under (record { entries = first }) []
      stands-none first is = stands-legal (record { entries = first }) [] none-legal is

      -- a turn without a step
      pub stands-same : (kept new : Kept M K V T) (history : History (Entry K)) → Stands eq meaning under kept history → new.entries ≡ kept.entries → Stands eq meaning under new history
      stands-same kept new history s is = stands-legal new history s.legal (is ∙ s.entries)

      -- a step that the machine may make, with its entry
      pub stands-step : (kept new : Kept M K V T) (history : History (Entry K)) (n : ℕ) (e : Entry K)
          → Stands eq meaning under kept history
          → IsEnabled eq kept.entries (pins_held eq (steps_in meaning under history) n) n (step_of meaning under e)
          → IsOfShard meaning under (step_of meaning under e)
          → IsFit kept.entries (step_of meaning under e)
          → new.entries ≡ state_after eq kept.entries n (step_of meaning under e)
          → Stands eq meaning under new (history ++ (n, e) ∷ [])
      stands-step kept new history n e s enabled named fit is =
          let steps = steps_in meaning under history in
          let step = step_of meaning under e in
          let follows : MayFollow eq under.entries under.budget steps (n, step) = subst (λ (z : State K V). IsEnabled eq z (pins_held eq steps n) n step) s.entries enabled in
          let legal : IsLegalUnder eq meaning under (history ++ (n, e) ∷ []) = record {
            legal = subst (λ (h : History (Step K V)). IsLegal eq under.entries under.budget h) (sym (steps-more history n e)) (more-is-legal V eq under.entries under.budget steps (n, step) s.legal.legal follows);
            fits = subst (λ (h : History (Step K V)). FillsFit eq under.entries under.budget h) (sym (steps-more history n e)) (more-fits V eq under.entries under.budget steps (n, step) s.legal.fits (subst (λ (z : State K V). IsFit z step) s.entries fit));
            keys = subst (λ (h : History (Step K V)). All (λ (e : ℕ × Step K V). IsOfShard meaning under e.1) h) (sym (steps-more history n e)) (All-push (λ (e : ℕ × Step K V). IsOfShard meaning under e.1) steps (n, step) s.legal.keys named);
          } in
          stands-legal new (history ++ (n, e) ∷ []) legal
          (is ∙ (ap (λ (z : State K V). state_after eq z n step) s.entries ∙ (sym (replay-append eq steps ((n, step) ∷ []) (opening under.entries under.budget)) ∙ ap (replay eq under.entries under.budget) (sym (steps-more history n e)))))

      -- The same for an entry that holds a key
      pub stands-key : (make : Snapshot K → Entry K) (kind : K → Step K V) → ((k : Snapshot K) → step_of meaning under (make k) ≡ kind k.value)
          → (k : Snapshot K) (key : K) → k.value ≡ key
          → (kept new : Kept M K V T) (history : History (Entry K)) (n : ℕ)
          → Stands eq meaning under kept history
          → IsEnabled eq kept.entries (pins_held eq (steps_in meaning under history) n) n (kind key)
          → IsOfShard meaning under (kind key)
          → IsFit kept.entries (kind key)
          → new.entries ≡ state_after eq kept.entries n (kind key)
          → Stands eq meaning under new (history ++ (n, make k) ∷ [])
      stands-key make kind is k key of kept new history n s enabled named fit after-is =
          let step : step_of meaning under (make k) ≡ kind key = is k ∙ ap kind of in
          stands-step kept new history n (make k) s
          (subst (λ (z : Step K V). IsEnabled eq kept.entries (pins_held eq (steps_in meaning under history) n) n z) (sym step) enabled)
          (subst (λ (z : Step K V). IsOfShard meaning under z) (sym step) named)
          (subst (λ (z : Step K V). IsFit kept.entries z) (sym step) fit)
          (after-is ∙ ap (λ (z : Step K V). state_after eq kept.entries n z) (sym step))

      module _ (pass : ShardPassView K T) (turn : TurnView (Kept M K V T) (Entry K) (Opening T)) (t : IsTurnAfterTries (Stands eq meaning) under pass turn) where
        same-number : turn.pass.number ≡ pass.number
        same-number = ap (λ (p : ShardPassView K T). p.number) t.turn_of.taken

        -- the pass's steps are its number's in the turn's list
        steps-there : entries_of turn.pass.number (steps_in meaning under turn.list) ≡ own_steps meaning under pass
        steps-there = own-in eq laws meaning under turn.list turn.pass.number
            ∙ ap (map (step_of meaning under)) (subst (λ (n : ℕ). entries_of n turn.list ≡ mine pass) (sym same-number) t.turn_of.list.own)

        module _ (now : Kept M K V T) (was : now ≡ turn.value) where
          here : Stands eq meaning under now turn.list
          here = subst (λ (z : Kept M K V T). Stands eq meaning under z turn.list) (sym was) t.turn_of.value

          -- the pass's own claim is being made by its number
          pub flies : (used key : K) → used ≡ key → has_open eq (own_steps meaning under pass) key ≡ true → maker_in (status_of eq now.entries used) ≡ Some turn.pass.number
          flies used key e pending =
              let own : has_open eq (entries_of turn.pass.number (steps_in meaning under turn.list)) key ≡ true = subst (λ (l : List (Step K V)). has_open eq l key ≡ true) (sym steps-there) pending in
              let at-key : maker_in (status_of eq now.entries key) ≡ Some turn.pass.number = subst (λ (z : State K V). maker_in (status_of eq z key) ≡ Some turn.pass.number) (sym here.entries)
              ((flies-where-pending eq laws under.entries under.budget (steps_in meaning under turn.list) here.legal.legal turn.pass.number key).1 own) in
              subst (λ (z : K). maker_in (status_of eq now.entries z) ≡ Some turn.pass.number) (sym e) at-key

          pub some-flies : (used key : K) → used ≡ key → has_open eq (own_steps meaning under pass) key ≡ true → IsSome (maker_in (status_of eq now.entries used))
          some-flies used key e pending = rw (flies used key e pending) refl

          -- what the pass holds, its number holds in the turn's list
          held-there : (key : K) → 1 ≤ pins_left eq (own_steps meaning under pass) key → 1 ≤ pins_held eq (steps_in meaning under turn.list) turn.pass.number key
          held-there key some = subst (λ (l : List (Step K V)). 1 ≤ pins_left eq l key) (sym steps-there) some

          pub pinned : (used key : K) → used ≡ key → 1 ≤ pins_left eq (own_steps meaning under pass) key → 1 ≤ pins_in (status_of eq now.entries used)
          pinned used key e some =
              let among = held-are-pins eq laws under.entries under.budget (steps_in meaning under turn.list) here.legal.legal turn.pass.number key in
              let held = held-there key some in
              let at-key : 1 ≤ pins_in (status_of eq now.entries key) = subst (λ (z : State K V). 1 ≤ pins_in (status_of eq z key)) (sym here.entries) (omega (arith, among, held)) in
              subst (λ (z : K). 1 ≤ pins_in (status_of eq now.entries z)) (sym e) at-key

          -- an entry that holds a key
          stands-entry : (make : Snapshot K → Entry K) (kind : K → Step K V) → ((k : Snapshot K) → step_of meaning under (make k) ≡ kind k.value)
              → (k : Snapshot K) (used key : K) → k.value ≡ used → used ≡ key
              → IsEnabled eq now.entries (pins_held eq (steps_in meaning under turn.list) turn.pass.number) turn.pass.number (kind key)
              → IsOfShard meaning under (kind key)
              → IsFit now.entries (kind key)
              → (new : State K V) → new ≡ state_after eq now.entries turn.pass.number (kind used)
              → Stands eq meaning {M = M} under (record { entries = new }) (turn.list ++ (turn.pass.number, make k) ∷ [])
          stands-entry make kind is k used key of e enabled named fit new after-is =
              stands-key make kind is k key (of ∙ e) now (record { entries = new }) turn.list turn.pass.number here enabled named fit (after-is ∙ ap (λ (z : K). state_after eq now.entries turn.pass.number (kind z)) e)

          pub stands-fill : (k : Snapshot K) (used key : K) → k.value ≡ used → used ≡ key → is_in meaning under key ≡ true → has_open eq (own_steps meaning under pass) key ≡ true
              → (cost : ℕ) (value : V) → cost ≡ entry_cost meaning used value → value ≡ value_under meaning under key → can_fill now.entries cost ≡ true
              → (new : State K V) → new ≡ state_after eq now.entries turn.pass.number (machine.Fill used cost value)
              → Stands eq meaning {M = M} under (record { entries = new }) (turn.list ++ (turn.pass.number, Fill k) ∷ [])
          stands-fill k used key of e named pending cost value priced made room new after-is =
              let dear : cost ≡ entry_cost meaning key (value_under meaning under key) = priced ∙ (ap (λ (v : V). entry_cost meaning used v) made ∙ ap (λ (z : K). entry_cost meaning z (value_under meaning under key)) e) in
              let right : value ≡ value_under meaning under used = made ∙ ap (value_under meaning under) (sym e) in
              stands-entry Fill (λ z. machine.Fill z (entry_cost meaning z (value_under meaning under z)) (value_under meaning under z)) (λ k. refl) k used key of e (flies key key refl pending) named (subst (λ (n : ℕ). can_fill now.entries n ≡ true) dear room) new
              (after-is ∙ (ap (λ (c : ℕ). state_after eq now.entries turn.pass.number (machine.Fill used c value)) (priced ∙ ap (λ (v : V). entry_cost meaning used v) right) ∙ ap (λ (v : V). state_after eq now.entries turn.pass.number (machine.Fill used (entry_cost meaning used (value_under meaning under used)) v)) right))

          pub stands-fail : (k : Snapshot K) (used key : K) → k.value ≡ used → used ≡ key → is_in meaning under key ≡ true → has_open eq (own_steps meaning under pass) key ≡ true
              → (new : State K V) → new ≡ state_after eq now.entries turn.pass.number (machine.Fail used)
              → Stands eq meaning {M = M} under (record { entries = new }) (turn.list ++ (turn.pass.number, Fail k) ∷ [])
          stands-fail k used key of e named pending = stands-entry Fail machine.Fail (λ k. refl) k used key of e (flies key key refl pending) named tt

          pub stands-spill : (k : Snapshot K) (key : K) → k.value ≡ key → is_in meaning under key ≡ true → has_open eq (own_steps meaning under pass) key ≡ true
              → (cost : ℕ) → cost ≡ entry_cost meaning key (value_under meaning under key) → can_fill now.entries cost ≡ false
              → (new : State K V) → new ≡ state_after eq now.entries turn.pass.number (machine.Fail key)
              → Stands eq meaning {M = M} under (record { entries = new }) (turn.list ++ (turn.pass.number, Spill k) ∷ [])
          stands-spill k key of named pending cost priced full new after-is =
              stands-entry Spill (λ z. machine.Spill z (entry_cost meaning z (value_under meaning under z))) (λ k. refl) k key key of refl
              (flies key key refl pending, subst (λ (n : ℕ). can_fill now.entries n ≡ false) priced full) named tt new after-is

          pub stands-unpin : (k : Snapshot K) (used key : K) → k.value ≡ used → used ≡ key → is_in meaning under key ≡ true → 1 ≤ pins_left eq (own_steps meaning under pass) key
              → (new : State K V) → new ≡ state_after eq now.entries turn.pass.number (machine.Unpin used)
              → Stands eq meaning {M = M} under (record { entries = new }) (turn.list ++ (turn.pass.number, Unpin k) ∷ [])
          stands-unpin k used key of e named some = stands-entry Unpin machine.Unpin (λ k. refl) k used key of e (held-there key some) named tt

          -- a value that is as it was
          pub stands-unchanged : (new : State K V) → new ≡ now.entries → Stands eq meaning {M = M} under (record { entries = new }) turn.list
          stands-unchanged new is = stands-same now (record { entries = new }) turn.list here is

          -- an ask that is answered
          pub stands-asked : (make : Snapshot K → Entry K) (answer : Answer) → ((k : Snapshot K) → step_of meaning under (make k) ≡ machine.Ask k.value answer)
              → (k : Snapshot K) (key : K) → k.value ≡ key → is_in meaning under key ≡ true
              → ask_answer eq now.entries key ≡ Some answer
              → (new : State K V) → new ≡ state_after eq now.entries turn.pass.number (machine.Ask key answer)
              → Stands eq meaning {M = M} under (record { entries = new }) (turn.list ++ (turn.pass.number, make k) ∷ [])
          stands-asked make answer is k key of named answered new after-is = stands-entry make (λ z. machine.Ask z answer) is k key key of refl answered named tt new after-is

          -- the value that a hit finds
          pub hit-value : (key : K) (value : V) → ready_value (status_of eq now.entries key) ≡ Some value → value ≡ value_under meaning under key
          hit-value key value found = value-found meaning under eq laws same now.entries here.made key value found

          pub stands-limits : (entries budget : ℕ) → 1 ≤ entries → entries ≤ max_entries → budget ≤ max_budget
              → (new : State K V) → new ≡ state_after eq now.entries turn.pass.number (machine.Limits entries budget)
              → Stands eq meaning {M = M} under (record { entries = new }) (turn.list ++ (turn.pass.number, Limits entries budget) ∷ [])
          stands-limits entries budget least most budgeted new after-is = stands-step now (record { entries = new }) turn.list turn.pass.number (Limits entries budget) here (least, most, budgeted) tt tt after-is

          pub stands-hard : (hard : Option HardLimit) → IsHardLimit hard → holds_all hard now.entries.entries ≡ true
              → (new : State K V) → new ≡ state_after eq now.entries turn.pass.number (machine.Hard hard)
              → Stands eq meaning {M = M} under (record { entries = new }) (turn.list ++ (turn.pass.number, Hard hard) ∷ [])
          stands-hard hard bounds holds new after-is = stands-step now (record { entries = new }) turn.list turn.pass.number (Hard hard) here (bounds, holds) tt tt after-is

          -- what a turn that gives no entry shows is its value
          pub shown-here : (after : ShardPassView K T) → after.seen ≡ turn.list → now.entries ≡ left_by eq meaning under after.seen
          shown-here after seen = here.entries ∙ ap (left_by eq meaning under) (sym seen)

        -- a turn with its give
        pub gives-turn : (shard : ShardView T) (after : ShardPassView K T) (entry : Option (Entry K)) → shard.tag ≡ under
            → IsLegalUnder eq meaning under pass.seen → IsLegalUnder eq meaning under after.seen
            → after ≡ record turn.pass { seen = with_entry turn.list turn.pass.number entry }
            → GivesSteps eq meaning shard pass after (map (step_of meaning under) (entry_list entry))
        gives-turn shard after entry tag legal legal' is =
            let takes = TakesTurn_give (Stands eq meaning) under pass turn after entry t is in
            let steps = map (step_of meaning under) (entry_list entry) in
            let own : own_steps meaning under after ≡ own_steps meaning under pass ++ steps = ap (map (step_of meaning under)) takes.follows.mine ∙ map-append (step_of meaning under) (mine pass) (entry_list entry) in
            subst (λ (o : Opening T). GivesSteps eq meaning (record shard { tag = o }) pass after steps) (sym tag) record {
              waited = pass;
              waits = Follows_same pass;
              entry = entry;
              takes = takes;
              are = refl;
              legal = legal';
              pins = λ key. pins-added eq laws meaning under pass after steps own legal legal' key;
              claims = λ key. claims-added eq laws meaning under pass after steps own key;
            }

        -- the same for an entry that holds a key
        pub gives-key : (make : Snapshot K → Entry K) (kind : K → Step K V) → ((k : Snapshot K) → step_of meaning under (make k) ≡ kind k.value)
            → (k : Snapshot K) (key : K) → k.value ≡ key
            → (shard : ShardView T) (after : ShardPassView K T) → shard.tag ≡ under
            → IsLegalUnder eq meaning under pass.seen → IsLegalUnder eq meaning under after.seen
            → after ≡ record turn.pass { seen = with_entry turn.list turn.pass.number (Some (make k)) }
            → GivesSteps eq meaning shard pass after (kind key ∷ [])
        gives-key make kind step k key of shard after tag legal legal' is =
            subst (λ (z : Step K V). GivesSteps eq meaning shard pass after (z ∷ [])) (step k ∙ ap kind of) (gives-turn shard after (Some (make k)) tag legal legal' is)

        -- a turn that gave no entry, at which memory ran out for an answer that takes some
        pub short-ask : (now : Kept M K V T) → now ≡ turn.value → (shard : ShardView T) (after : ShardPassView K T) → shard.tag ≡ under
            → IsLegalUnder eq meaning under pass.seen → IsLegalUnder eq meaning under after.seen
            → after ≡ record turn.pass { seen = with_entry turn.list turn.pass.number None }
            → (key : K) (answer : Answer) → takes_memory (Some answer) ≡ true → ask_answer eq now.entries key ≡ Some answer
            → IsShortAsk eq meaning shard pass key after
        short-ask now was shard after tag legal legal' is key answer takes answered =
            let seen : after.seen ≡ turn.list = ap (λ (p : ShardPassView K T). p.seen) is in
            let stood : now.entries ≡ left_by eq meaning under turn.list = (here now was).entries in
            let left : now.entries ≡ left_by eq meaning shard.tag after.seen = stood ∙ (ap (left_by eq meaning under) (sym seen) ∙ ap (λ (o : Opening T). left_by eq meaning o after.seen) (sym tag)) in
            record {
              turn = gives-turn shard after None tag legal legal' is;
              shown = subst (λ (s : State K V). takes_memory (ask_answer eq s key) ≡ true) left (ap takes_memory answered ∙ takes);
            }
