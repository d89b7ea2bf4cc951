-- The caches stand for histories, which each step makes longer by one entry in its shard.
use Rattle.std.proofs.Common.{◌≡◌, ℕ, ◌+◌, ◌-◌, ◌<◌, ◌≤◌, Bool, true, false, cond, not, ◌&&◌, ◌||◌, ◌==◌, nat_lt, List, [], ◌∷◌, ◌++◌, length, get_or, Option, Some, None, refl, sym, ap, ◌∙◌, subst, arith}
use Rattle.std.specs.Cmp.{IsEquivalence}
use Rattle.std.specs.List.{remove, slice_get, slice_set, All}
use Rattle.std.proofs.lemmas.Bool.{eqb-true, eqb-false, eq-eqb, ltb-true, ltb-false}
use Rattle.std.proofs.lemmas.List.{get_or-set_same, get_or-set_other, get_or_past, get_or_append_left, get_or-append-add, length-append}
use Rattle.std.proofs.lemmas.List.Elements.{All-nil, All-push, All-head, All-tail}
use Rattle.std.proofs.lemmas.List.Sums.{sum_by-append, sum_by-remove}
use Rattle.std.proofs.lemmas.Option.{slice_get_within, get_or_from_slice_get}
use Rattle.turn_cell.specs.History.{History, entries_of}
use Rattle.evict_core.specs.Machine.{Status, Flying, Ready, State, Hit, Claim, Crowded, Step, Ask, Fill, Fail, Unpin, Limits, max_entries, max_budget, maker_in, pins_in, status_of, ask_answer, state_after}
use Rattle.evict_core.specs.History.{opening, one_if, replay, takes, gives, pins_taken, pins_given, pins_held, is_open_after, is_pending, MayFollow, IsLegal}
use Rattle.evict_core.proofs.RecencyLemmas.{lookup-congr}
use Rattle.evict_core.proofs.StateLemmas.{claim-has-room}
use Rattle.evict_core.proofs.HistoryLemmas.{replay-append, taken-more, given-more, open-more}
use Rattle.evict_core.specs.Asked.{ready_value}
use Rattle.evict_core.proofs.LegalLemmas.{none-is-legal, more-is-legal, ready-was-filled}
use Rattle.evict_core.proofs.PinLaws.{flies-where-pending, held-are-pins, given-were-taken}
use Rattle.flight_cache.specs.Meaning.{Meaning, entry_cost}
use Rattle.world_core.specs.declared.holding.Holding.{Holding}
use Rattle.world_core.specs.Holdings.{is_held_by, count_held}
use Rattle.world_core.specs.Caches.{ActorCachesView, no_shards, shard_in, with_shard, after_answer, answer_in, filled, failed, unpinned_at, with_limits}
use Rattle.world_core.specs.CacheLaws.{FillsWithMade, StandFor}
use Rattle.world_core.specs.CacheHistories.{entry_in_shard}

-- ---- counts by tests

-- what a holding counts, by whether it is the actor's, in the shard, and of the key
counts-by : (a b c : Bool) → one_if (a && (b && c)) ≡ cond a (cond b (one_if c) 0) 0
counts-by true true c = refl
counts-by true false c = refl
counts-by false b c = refl

counts-none : (a b : Bool) → ◌≡◌ {A = ℕ} (cond a (cond b 0 0) 0) 0
counts-none true true = refl
counts-none true false = refl
counts-none false b = refl

counts-same : (a b p : Bool) → one_if p ≡ one_if (cond b (cond a p p) p)
counts-same true true p = refl
counts-same false true p = refl
counts-same a false p = refl

counts-claim : (a b c p : Bool) → (b ≡ true → c ≡ true → p ≡ false) → one_if p + one_if (a && (b && c)) ≡ one_if (cond b (cond a (c || p) p) p)
counts-claim true true true p none = rw (none refl refl) refl
counts-claim true true false p none = omega arith
counts-claim true false c p none = omega arith
counts-claim false true c p none = omega arith
counts-claim false false c p none = omega arith

counts-end : (a b c p : Bool) (x : ℕ) → x + one_if (a && (b && c)) ≡ one_if p → x ≡ one_if (cond b (cond a (not c && p) p) p)
counts-end true true true true x is = omega (arith, is)
counts-end true true true false x is = omega (arith, is)
counts-end true true false p x is = omega (arith, is)
counts-end true false c p x is = omega (arith, is)
counts-end false true c p x is = omega (arith, is)
counts-end false false c p x is = omega (arith, is)

some-counts : (p : Bool) (x : ℕ) → x + 1 ≡ one_if p → p ≡ true
some-counts true x is = refl
some-counts false x is = absurd (omega (arith, is))

module _ {K : Type 0} (eq : K → K → Bool) (laws : IsEquivalence eq) where
  pub count-more : (actor shard : ℕ) (key : K) (hs : List (Holding K)) (h : Holding K)
      → count_held eq actor shard key (hs ++ h ∷ []) ≡ count_held eq actor shard key hs + one_if (is_held_by eq actor shard key h)
  count-more actor shard key hs h = omega (arith, sum_by-append (λ (h : Holding K). one_if (is_held_by eq actor shard key h)) hs (h ∷ []))

  pub count-less : (actor shard : ℕ) (key : K) (hs : List (Holding K)) (place : ℕ) (h : Holding K) → slice_get hs place ≡ Some h
      → count_held eq actor shard key (remove hs place) + one_if (is_held_by eq actor shard key h) ≡ count_held eq actor shard key hs
  count-less actor shard key hs place h is =
      let f : Holding K → ℕ = λ h. one_if (is_held_by eq actor shard key h) in
      ap (λ (x : Holding K). count_held eq actor shard key (remove hs place) + f x) (sym (get_or_from_slice_get hs place h h is))
      ∙ sum_by-remove f hs place h (slice_get_within hs place h is)

  -- a holding is its own actor's, shard's and key's
  pub counts-itself : (h : Holding K) → one_if (is_held_by eq h.actor h.shard h.key h) ≡ 1
  counts-itself h = rw (eq-eqb h.actor h.actor refl, eq-eqb h.shard h.shard refl, laws.refl h.key) refl

module _ {K V T : Type 0} (eq : K → K → Bool) (laws : IsEquivalence eq) (meaning : Meaning K V T) where
  pub stand-none : (tag : T) → StandFor eq meaning (no_shards tag) (λ _. (0, 0)) (λ _. [])
  stand-none tag = record {
    legal = λ n. none-is-legal V eq 0 0;
    shards = λ n. refl;
    fills = λ n. All-nil (λ (e : ℕ × Step K V). FillsWithMade meaning tag e.1);
    tickets = λ actor shard key. refl;
    pins = λ actor shard key. refl;
  }

  module _ (s : ActorCachesView K V T) (limits : ℕ → ℕ × ℕ) (histories : ℕ → History (Step K V)) (stand : StandFor eq meaning s limits histories) where
    abbrev pending_more : ℕ → ℕ → Step K V → ℕ → ℕ → K → Bool
    pending_more n m step actor shard key = cond (n == shard) (cond (m == actor) (is_open_after eq step key (is_pending eq (histories shard) actor key)) (is_pending eq (histories shard) actor key)) (is_pending eq (histories shard) actor key)

    -- a step in a shard, with what it makes of tickets and pins
    record IsStepTo (n m : ℕ) (step : Step K V) (new : ActorCachesView K V T) : Type 0 where
      within : n < length s.shards
      follows : MayFollow eq (limits n).0 (limits n).1 (histories n) (m, step)
      right : FillsWithMade meaning s.tag step
      tag : new.tag ≡ s.tag
      shards : new.shards ≡ slice_set s.shards n (state_after eq (shard_in s n) m step)
      tickets : (actor shard : ℕ) (key : K) → count_held eq actor shard key new.tickets ≡ one_if (pending_more n m step actor shard key)
      pins : (actor shard : ℕ) (key : K) → count_held eq actor shard key new.pins + cond (m == actor) (cond (n == shard) (gives eq key step) 0) 0 ≡ count_held eq actor shard key s.pins + cond (m == actor) (cond (n == shard) (takes eq key step) 0) 0

    module _ (n m : ℕ) (step : Step K V) (new : ActorCachesView K V T) (to : IsStepTo n m step new) where
      abbrev longer : ℕ → History (Step K V)
      longer = entry_in_shard histories n (m, step)

      step-legal : (j : ℕ) → IsLegal eq (limits j).0 (limits j).1 (longer j)
      step-legal j = (elim (n == j) as (λ b. (n == j) ≡ b → IsLegal eq (limits j).0 (limits j).1 (cond b (histories j ++ (m, step) ∷ []) (histories j))) [
        | true ↦ λ t. more-is-legal V eq (limits j).0 (limits j).1 (histories j) (m, step) (stand.legal j) (subst (λ (i : ℕ). MayFollow eq (limits i).0 (limits i).1 (histories i) (m, step)) (eqb-true n j t) to.follows)
        | false ↦ λ t. stand.legal j
      ]) refl

      step-shards : (j : ℕ) → shard_in new j ≡ replay eq (limits j).0 (limits j).1 (longer j)
      step-shards j = ap (λ (l : List (State K V)). get_or l j (opening 0 0)) to.shards ∙ (elim (n == j) as (λ b. (n == j) ≡ b → get_or (slice_set s.shards n (state_after eq (shard_in s n) m step)) j (opening 0 0) ≡ replay eq (limits j).0 (limits j).1 (cond b (histories j ++ (m, step) ∷ []) (histories j))) [
        | true ↦ λ t. subst (λ (i : ℕ). get_or (slice_set s.shards n (state_after eq (shard_in s n) m step)) i (opening 0 0) ≡ replay eq (limits i).0 (limits i).1 (histories i ++ (m, step) ∷ [])) (eqb-true n j t)
            (get_or-set_same s.shards n (state_after eq (shard_in s n) m step) (opening 0 0) to.within
            ∙ (ap (λ (z : State K V). state_after eq z m step) (stand.shards n) ∙ sym (replay-append eq (histories n) ((m, step) ∷ []) (opening (limits n).0 (limits n).1))))
        | false ↦ λ t. get_or-set_other s.shards n j (state_after eq (shard_in s n) m step) (opening 0 0) (λ e. eqb-false n j t (sym e)) ∙ stand.shards j
      ]) refl

      step-fills : (j : ℕ) → All (λ e. FillsWithMade meaning new.tag e.1) (longer j)
      step-fills j = subst (λ (tag : T). All (λ (e : ℕ × Step K V). FillsWithMade meaning tag e.1) (longer j)) (sym to.tag)
          (elim (n == j) as (λ b. All (λ (e : ℕ × Step K V). FillsWithMade meaning s.tag e.1) (cond b (histories j ++ (m, step) ∷ []) (histories j))) [
            | true ↦ All-push (λ (e : ℕ × Step K V). FillsWithMade meaning s.tag e.1) (histories j) (m, step) (stand.fills j) to.right
            | false ↦ stand.fills j
          ])

      step-tickets : (actor shard : ℕ) (key : K) → count_held eq actor shard key new.tickets ≡ one_if (is_pending eq (longer shard) actor key)
      step-tickets actor shard key = to.tickets actor shard key ∙ ap one_if
          (elim (n == shard) as (λ b. cond b (cond (m == actor) (is_open_after eq step key (is_pending eq (histories shard) actor key)) (is_pending eq (histories shard) actor key)) (is_pending eq (histories shard) actor key) ≡ is_pending eq (cond b (histories shard ++ (m, step) ∷ []) (histories shard)) actor key) [
            | true ↦ sym (open-more eq (histories shard) (m, step) actor key)
            | false ↦ refl
          ])

      abbrev taken_by : ℕ → K → List (ℕ × Step K V) → ℕ
      taken_by actor key h = pins_taken eq (entries_of actor h) key

      abbrev given_by : ℕ → K → List (ℕ × Step K V) → ℕ
      given_by actor key h = pins_given eq (entries_of actor h) key

      left-more : (actor shard : ℕ) (key : K) (more less x : ℕ) → given_by actor key (histories shard) ≤ taken_by actor key (histories shard)
          → taken_by actor key (histories shard ++ (m, step) ∷ []) ≡ taken_by actor key (histories shard) + more
          → given_by actor key (histories shard ++ (m, step) ∷ []) ≡ given_by actor key (histories shard) + less
          → x + less ≡ pins_held eq (histories shard) actor key + more → x ≡ pins_held eq (histories shard ++ (m, step) ∷ []) actor key
      left-more actor shard key more less x fewer taken given is = omega (arith, fewer, taken, given, is)

      step-pins : (actor shard : ℕ) (key : K) → count_held eq actor shard key new.pins ≡ pins_held eq (longer shard) actor key
      step-pins actor shard key = (elim (n == shard) as (λ b. count_held eq actor shard key new.pins + cond (m == actor) (cond b (gives eq key step) 0) 0 ≡ pins_held eq (histories shard) actor key + cond (m == actor) (cond b (takes eq key step) 0) 0
          → count_held eq actor shard key new.pins ≡ pins_held eq (cond b (histories shard ++ (m, step) ∷ []) (histories shard)) actor key) [
            | true ↦ λ is. left-more actor shard key (cond (m == actor) (takes eq key step) 0) (cond (m == actor) (gives eq key step) 0) (count_held eq actor shard key new.pins)
                (given-were-taken eq laws (limits shard).0 (limits shard).1 (histories shard) (stand.legal shard) actor key)
                (taken-more eq (histories shard) (m, step) actor key) (given-more eq (histories shard) (m, step) actor key) is
            | false ↦ λ is. omega (arith, is, counts-none (m == actor) false)
          ]) (to.pins actor shard key ∙ ap (λ (x : ℕ). x + cond (m == actor) (cond (n == shard) (takes eq key step) 0) 0) (stand.pins actor shard key))

      stand-step : StandFor eq meaning new limits longer
      stand-step = record { legal = step-legal; shards = step-shards; fills = step-fills; tickets = step-tickets; pins = step-pins }

    -- ---- the steps of actors

    -- pins that a step neither takes nor gives
    pins-stay : (n m : ℕ) (actor shard : ℕ) (key : K) (x : ℕ) → x + cond (m == actor) (cond (n == shard) 0 0) 0 ≡ x + cond (m == actor) (cond (n == shard) 0 0) 0
    pins-stay n m actor shard key x = refl

    tickets-stay : (n m : ℕ) (actor shard : ℕ) (key : K) → count_held eq actor shard key s.tickets ≡ one_if (cond (n == shard) (cond (m == actor) (is_pending eq (histories shard) actor key) (is_pending eq (histories shard) actor key)) (is_pending eq (histories shard) actor key))
    tickets-stay n m actor shard key = stand.tickets actor shard key ∙ counts-same (m == actor) (n == shard) (is_pending eq (histories shard) actor key)

    pins-push : (h : Holding K) (actor shard : ℕ) (key : K)
        → count_held eq actor shard key (s.pins ++ h ∷ []) + cond (h.actor == actor) (cond (h.shard == shard) 0 0) 0 ≡ count_held eq actor shard key s.pins + cond (h.actor == actor) (cond (h.shard == shard) (one_if (eq key h.key)) 0) 0
    pins-push h actor shard key = omega (arith, count-more eq laws actor shard key s.pins h, counts-by (h.actor == actor) (h.shard == shard) (eq key h.key), counts-none (h.actor == actor) (h.shard == shard))

    module _ (h : Holding K) (within : h.shard < length s.shards) where
      pub stand-hit : answer_in eq h s ≡ Some Hit → StandFor eq meaning (after_answer eq h (Some Hit) s) limits (entry_in_shard histories h.shard (h.actor, Ask h.key Hit))
      stand-hit hits = stand-step h.shard h.actor (Ask h.key Hit) (after_answer eq h (Some Hit) s) (record {
        within = within;
        follows = subst (λ (z : State K V). ask_answer eq z h.key ≡ Some Hit) (stand.shards h.shard) hits;
        right = tt;
        tag = refl;
        shards = refl;
        tickets = tickets-stay h.shard h.actor;
        pins = pins-push h;
      })

      -- who claims has no claim of the key pending, as nobody has
      none-pending : answer_in eq h s ≡ Some Claim → (actor shard : ℕ) (key : K) → (h.shard == shard) ≡ true → eq key h.key ≡ true → is_pending eq (histories shard) actor key ≡ false
      none-pending claims actor shard key here same = (elim (is_pending eq (histories shard) actor key) as (λ b. is_pending eq (histories shard) actor key ≡ b → b ≡ false) [
        | true ↦ λ t.
            let flies : maker_in (status_of eq (replay eq (limits shard).0 (limits shard).1 (histories shard)) key) ≡ Some actor = (flies-where-pending eq laws (limits shard).0 (limits shard).1 (histories shard) (stand.legal shard) actor key).1 t in
            let in-shard : maker_in (status_of eq (shard_in s shard) key) ≡ Some actor = ap (λ (z : State K V). maker_in (status_of eq z key)) (stand.shards shard) ∙ flies in
            let absent : status_of eq (shard_in s h.shard) key ≡ None = lookup-congr eq laws key h.key same (shard_in s h.shard).entries ∙ (claim-has-room eq laws (shard_in s h.shard) h.key claims).0 in
            let gone : status_of eq (shard_in s shard) key ≡ None = subst (λ (i : ℕ). status_of eq (shard_in s i) key ≡ None) (eqb-true h.shard shard here) absent in
            let no : None ≡ Some actor = sym (ap maker_in gone) ∙ in-shard in cc
        | false ↦ λ t. refl
      ]) refl

      pub stand-claim : answer_in eq h s ≡ Some Claim → StandFor eq meaning (after_answer eq h (Some Claim) s) limits (entry_in_shard histories h.shard (h.actor, Ask h.key Claim))
      stand-claim claims = stand-step h.shard h.actor (Ask h.key Claim) (after_answer eq h (Some Claim) s) (record {
        within = within;
        follows = subst (λ (z : State K V). ask_answer eq z h.key ≡ Some Claim) (stand.shards h.shard) claims;
        right = tt;
        tag = refl;
        shards = refl;
        tickets = λ actor shard key. count-more eq laws actor shard key s.tickets h ∙ (ap (λ (x : ℕ). x + one_if (is_held_by eq actor shard key h)) (stand.tickets actor shard key)
            ∙ counts-claim (h.actor == actor) (h.shard == shard) (eq key h.key) (is_pending eq (histories shard) actor key) (none-pending claims actor shard key));
        pins = λ actor shard key. refl;
      })

      pub stand-crowded : answer_in eq h s ≡ Some Crowded → StandFor eq meaning (after_answer eq h (Some Crowded) s) limits (entry_in_shard histories h.shard (h.actor, Ask h.key Crowded))
      stand-crowded crowded = stand-step h.shard h.actor (Ask h.key Crowded) (after_answer eq h (Some Crowded) s) (record {
        within = within;
        follows = subst (λ (z : State K V). ask_answer eq z h.key ≡ Some Crowded) (stand.shards h.shard) crowded;
        right = tt;
        tag = refl;
        shards = refl;
        tickets = tickets-stay h.shard h.actor;
        pins = λ actor shard key. refl;
      })

    -- a holding's shard is there
    no-shard : (n : ℕ) → length s.shards ≤ n → shard_in s n ≡ opening 0 0
    no-shard n past = get_or_past s.shards n (opening 0 0) past

    module _ (place : ℕ) (h : Holding K) where
      module _ (is : slice_get s.tickets place ≡ Some h) where
        ticket-pending : is_pending eq (histories h.shard) h.actor h.key ≡ true
        ticket-pending = some-counts (is_pending eq (histories h.shard) h.actor h.key) (count_held eq h.actor h.shard h.key (remove s.tickets place))
            (ap (λ (x : ℕ). count_held eq h.actor h.shard h.key (remove s.tickets place) + x) (sym (counts-itself eq laws h)) ∙ (count-less eq laws h.actor h.shard h.key s.tickets place h is ∙ stand.tickets h.actor h.shard h.key))

        ticket-follows : maker_in (status_of eq (replay eq (limits h.shard).0 (limits h.shard).1 (histories h.shard)) h.key) ≡ Some h.actor
        ticket-follows = (flies-where-pending eq laws (limits h.shard).0 (limits h.shard).1 (histories h.shard) (stand.legal h.shard) h.actor h.key).1 ticket-pending

        pub ticket-flies : maker_in (status_of eq (shard_in s h.shard) h.key) ≡ Some h.actor
        ticket-flies = ap (λ (z : State K V). maker_in (status_of eq z h.key)) (stand.shards h.shard) ∙ ticket-follows

        pub ticket-within : (length s.shards ≤ h.shard → ⊥)
        ticket-within past = let no : None ≡ Some h.actor = ap (λ (z : State K V). maker_in (status_of eq z h.key)) (sym (no-shard h.shard past)) ∙ ticket-flies in cc

        tickets-less : (actor shard : ℕ) (key : K) → count_held eq actor shard key (remove s.tickets place) ≡ one_if (cond (h.shard == shard) (cond (h.actor == actor) (not (eq key h.key) && is_pending eq (histories shard) actor key) (is_pending eq (histories shard) actor key)) (is_pending eq (histories shard) actor key))
        tickets-less actor shard key = counts-end (h.actor == actor) (h.shard == shard) (eq key h.key) (is_pending eq (histories shard) actor key) (count_held eq actor shard key (remove s.tickets place))
            (count-less eq laws actor shard key s.tickets place h is ∙ stand.tickets actor shard key)

        pub stand-fill : h.shard < length s.shards → StandFor eq meaning (filled eq meaning place h s) limits (entry_in_shard histories h.shard (h.actor, Fill h.key (entry_cost meaning h.key (meaning.made s.tag h.key)) (meaning.made s.tag h.key)))
        stand-fill within = stand-step h.shard h.actor (Fill h.key (entry_cost meaning h.key (meaning.made s.tag h.key)) (meaning.made s.tag h.key)) (filled eq meaning place h s) (record {
          within = within;
          follows = ticket-follows;
          right = (refl, refl);
          tag = refl;
          shards = refl;
          tickets = tickets-less;
          pins = pins-push h;
        })

        pub stand-fail : h.shard < length s.shards → StandFor eq meaning (failed eq place h s) limits (entry_in_shard histories h.shard (h.actor, Fail h.key))
        stand-fail within = stand-step h.shard h.actor (Fail h.key) (failed eq place h s) (record {
          within = within;
          follows = ticket-follows;
          right = tt;
          tag = refl;
          shards = refl;
          tickets = tickets-less;
          pins = λ actor shard key. refl;
        })

      module _ (is : slice_get s.pins place ≡ Some h) where
        pin-held : 1 ≤ pins_held eq (histories h.shard) h.actor h.key
        pin-held = omega (arith, count-less eq laws h.actor h.shard h.key s.pins place h is, counts-itself eq laws h, stand.pins h.actor h.shard h.key)

        pub pin-there : 1 ≤ pins_in (status_of eq (shard_in s h.shard) h.key)
        pin-there = subst (λ (z : State K V). 1 ≤ pins_in (status_of eq z h.key)) (sym (stand.shards h.shard))
            (omega (arith, pin-held, held-are-pins eq laws (limits h.shard).0 (limits h.shard).1 (histories h.shard) (stand.legal h.shard) h.actor h.key))

        pub pin-within : (length s.shards ≤ h.shard → ⊥)
        pin-within past = let no : 1 ≤ 0 = subst (λ (z : State K V). 1 ≤ pins_in (status_of eq z h.key)) (no-shard h.shard past) pin-there in omega (arith, no)

        pub stand-unpin : h.shard < length s.shards → StandFor eq meaning (unpinned_at eq place h s) limits (entry_in_shard histories h.shard (h.actor, Unpin h.key))
        stand-unpin within = stand-step h.shard h.actor (Unpin h.key) (unpinned_at eq place h s) (record {
          within = within;
          follows = pin-held;
          right = tt;
          tag = refl;
          shards = refl;
          tickets = tickets-stay h.shard h.actor;
          pins = λ actor shard key. omega (arith, count-less eq laws actor shard key s.pins place h is, counts-by (h.actor == actor) (h.shard == shard) (eq key h.key), counts-none (h.actor == actor) (h.shard == shard));
        })

    pub stand-limits : (n entries budget : ℕ) → n < length s.shards → 1 ≤ entries → entries ≤ max_entries → budget ≤ max_budget
        → StandFor eq meaning (with_limits eq n entries budget s) limits (entry_in_shard histories n (0, Limits entries budget))
    stand-limits n entries budget within some few least = stand-step n 0 (Limits entries budget) (with_limits eq n entries budget s) (record {
      within = within;
      follows = (some, few, least);
      right = tt;
      tag = refl;
      shards = refl;
      tickets = tickets-stay n 0;
      pins = λ actor shard key. refl;
    })

-- ---- a shard more

-- what stands at a place of a list with one element more
get-pushed : {X : Type 0} (xs : List X) (x d : X) (j : ℕ) → get_or (xs ++ x ∷ []) j d ≡ cond (length xs == j) x (get_or xs j d)
get-pushed xs x d j = (elim (length xs == j) as (λ b. (length xs == j) ≡ b → get_or (xs ++ x ∷ []) j d ≡ cond b x (get_or xs j d)) [
  | true ↦ λ t. subst (λ (i : ℕ). get_or (xs ++ x ∷ []) i d ≡ x) (eqb-true (length xs) j t) (subst (λ (i : ℕ). get_or (xs ++ x ∷ []) i d ≡ x) (omega arith) (get_or-append-add xs (x ∷ []) 0 d))
  | false ↦ λ t. (elim (nat_lt j (length xs)) as (λ b. nat_lt j (length xs) ≡ b → get_or (xs ++ x ∷ []) j d ≡ get_or xs j d) [
    | true ↦ λ u. get_or_append_left xs (x ∷ []) d j (ltb-true j (length xs) u)
    | false ↦ λ u. let apart : length xs ≡ j → ⊥ = eqb-false (length xs) j t in
        get_or_past (xs ++ x ∷ []) j d (omega (arith, ltb-false j (length xs) u, apart, length-append xs (x ∷ []))) ∙ sym (get_or_past xs j d (omega (arith, ltb-false j (length xs) u)))
  ]) refl
]) refl

module _ {K V T : Type 0} (eq : K → K → Bool) (laws : IsEquivalence eq) (meaning : Meaning K V T) (s : ActorCachesView K V T) (limits : ℕ → ℕ × ℕ) (histories : ℕ → History (Step K V)) (stand : StandFor eq meaning s limits histories) where
  -- where there is no shard yet, nothing is pending or held
  nothing-pending : (actor : ℕ) (key : K) → is_pending eq (histories (length s.shards)) actor key ≡ false
  nothing-pending actor key = let n = length s.shards in (elim (is_pending eq (histories n) actor key) as (λ b. is_pending eq (histories n) actor key ≡ b → b ≡ false) [
    | true ↦ λ t.
        let flies = (flies-where-pending eq laws (limits n).0 (limits n).1 (histories n) (stand.legal n) actor key).1 t in
        let none : shard_in s n ≡ opening 0 0 = get_or_past s.shards n (opening 0 0) (omega arith) in
        let no : None ≡ Some actor = ap (λ (z : State K V). maker_in (status_of eq z key)) (sym none ∙ stand.shards n) ∙ flies in cc
    | false ↦ λ t. refl
  ]) refl

  nothing-held : (actor : ℕ) (key : K) → pins_held eq (histories (length s.shards)) actor key ≡ 0
  nothing-held actor key = let n = length s.shards in
      let among = held-are-pins eq laws (limits n).0 (limits n).1 (histories n) (stand.legal n) actor key in
      let none : shard_in s n ≡ opening 0 0 = get_or_past s.shards n (opening 0 0) (omega arith) in
      let zero : 0 ≡ pins_in (status_of eq (replay eq (limits n).0 (limits n).1 (histories n)) key) = ap (λ (z : State K V). pins_in (status_of eq z key)) (sym none ∙ stand.shards n) in
      omega (arith, among, zero)

  abbrev pub limits_more : ℕ → ℕ → ℕ → ℕ × ℕ
  limits_more entries budget j = cond (length s.shards == j) (entries, budget) (limits j)

  abbrev pub histories_more : ℕ → History (Step K V)
  histories_more j = cond (length s.shards == j) [] (histories j)

  pub stand-shard : (entries budget : ℕ) → StandFor eq meaning (with_shard entries budget s) (limits_more entries budget) histories_more
  stand-shard entries budget = record {
    legal = λ j. elim (length s.shards == j) as (λ b. IsLegal eq (cond b (entries, budget) (limits j)).0 (cond b (entries, budget) (limits j)).1 (cond b [] (histories j))) [
      | true ↦ none-is-legal V eq entries budget
      | false ↦ stand.legal j
    ];
    shards = λ j. get-pushed s.shards (opening entries budget) (opening 0 0) j ∙ (elim (length s.shards == j) as (λ b. cond b (opening entries budget) (shard_in s j) ≡ replay eq (cond b (entries, budget) (limits j)).0 (cond b (entries, budget) (limits j)).1 (cond b [] (histories j))) [
      | true ↦ refl
      | false ↦ stand.shards j
    ]);
    fills = λ j. elim (length s.shards == j) as (λ b. All (λ (e : ℕ × Step K V). FillsWithMade meaning s.tag e.1) (cond b [] (histories j))) [
      | true ↦ All-nil (λ (e : ℕ × Step K V). FillsWithMade meaning s.tag e.1)
      | false ↦ stand.fills j
    ];
    tickets = λ actor shard key. stand.tickets actor shard key ∙ ap one_if ((elim (length s.shards == shard) as (λ b. (length s.shards == shard) ≡ b → is_pending eq (histories shard) actor key ≡ is_pending eq (cond b [] (histories shard)) actor key) [
      | true ↦ λ t. subst (λ (i : ℕ). is_pending eq (histories i) actor key ≡ false) (eqb-true (length s.shards) shard t) (nothing-pending actor key)
      | false ↦ λ t. refl
    ]) refl);
    pins = λ actor shard key. stand.pins actor shard key ∙ (elim (length s.shards == shard) as (λ b. (length s.shards == shard) ≡ b → pins_held eq (histories shard) actor key ≡ pins_held eq (cond b [] (histories shard)) actor key) [
      | true ↦ λ t. subst (λ (i : ℕ). pins_held eq (histories i) actor key ≡ 0) (eqb-true (length s.shards) shard t) (nothing-held actor key)
      | false ↦ λ t. refl
    ]) refl;
  }

-- ---- values

-- what holds of each element holds of one
all-at : {X : Type 0} (P : X → Type 0) (front back : List X) (x : X) → All P (front ++ x ∷ back) → P x
all-at P [] back x all = All-head P x back all
all-at P (f ∷ front) back x all = all-at P front back x (All-tail P f (front ++ x ∷ back) all)

module _ {K V T : Type 0} (eq : K → K → Bool) (laws : IsEquivalence eq) (same : (a b : K) → eq a b ≡ true → a ≡ b) (meaning : Meaning K V T) (s : ActorCachesView K V T) (limits : ℕ → ℕ × ℕ) (histories : ℕ → History (Step K V)) (stand : StandFor eq meaning s limits histories) where
  filled-right : (n : ℕ) (front back : History (Step K V)) (e : ℕ × Step K V) → histories n ≡ front ++ e ∷ back → FillsWithMade meaning s.tag e.1
  filled-right n front back e is =
      all-at (λ (e : ℕ × Step K V). FillsWithMade meaning s.tag e.1) front back e (subst (λ (h : History (Step K V)). All (λ (e : ℕ × Step K V). FillsWithMade meaning s.tag e.1) h) is (stand.fills n))

  -- the value that a key finds is its own
  pub found-made : (n : ℕ) (key : K) (value : V) → ready_value (status_of eq (shard_in s n) key) ≡ Some value → value ≡ meaning.made s.tag key
  found-made n key value found = by (status_of eq (shard_in s n) key) refl
    where
      by : (r : Option (Status V)) → status_of eq (shard_in s n) key ≡ r → value ≡ meaning.made s.tag key
      by None is = let no : None ≡ Some value = ap ready_value (sym is) ∙ found in cc
      by (Some (Flying number)) is = let no : None ≡ Some value = ap ready_value (sym is) ∙ found in cc
      by (Some (Ready pins cost v)) is =
          let some : Some v ≡ Some value = ap ready_value (sym is) ∙ found in
          let own : v ≡ value = cc in
          let ready : status_of eq (replay eq (limits n).0 (limits n).1 (histories n)) key ≡ Some (Ready pins cost v) = ap (λ (z : State K V). status_of eq z key) (sym (stand.shards n)) ∙ is in
          let f = ready-was-filled V eq laws (limits n).0 (limits n).1 (histories n) (stand.legal n) key pins cost v ready in
          let right = filled-right n f.front f.back (f.number, Fill f.key cost v) f.is in
          sym own ∙ (right.0 ∙ ap (meaning.made s.tag) (sym (same key f.key f.same)))
