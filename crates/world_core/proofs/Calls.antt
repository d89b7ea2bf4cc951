-- What a call makes of the caches is the step, after which they stand for histories again.
-- The fields of the caches are `s`, which is what a contract calls `t`.
use Rattle.std.proofs.Common.{◌≡◌, ℕ, ◌<◌, ◌≤◌, Bool, true, List, [], ◌∷◌, ◌++◌, length, get_or, Option, Some, None, Result, Ok, Err, IfOk, IfSome, option_map, refl, sym, ap, ◌∙◌, subst, arith}
use Rattle.std.specs.Cmp.{IsEquivalence}
use Rattle.std.specs.List.{remove, slice_get, slice_set}
use Rattle.std.specs.Option.{IsSome}
use Rattle.std.proofs.lemmas.Option.{slice_get_read, get_or_from_slice_get}
use Rattle.evict_core.specs.Machine.{State, Answer, Hit, Claim, Crowded, Step, Ask, Fill, Fail, Unpin, Limits, max_entries, max_budget, maker_in, pins_in, status_of, ask_answer, state_after}
use Rattle.evict_core.specs.Asked.{ready_value}
use Rattle.evict_core.specs.History.{opening}
use Rattle.flight_cache.specs.Meaning.{Meaning, entry_cost}
use Rattle.world_core.specs.declared.holding.Holding.{Holding}
use Rattle.world_core.specs.Caches.{ActorCachesView, shard_in, with_shard, after_answer, answer_in, asked, filled, failed, unpinned_at, with_limits}
use Rattle.world_core.specs.CacheLaws.{HaveHistories}
use Rattle.world_core.specs.CacheHistories.{entry_in_shard}
use Rattle.world_core.proofs.CacheStanding.{stand-none, stand-hit, stand-claim, stand-crowded, stand-fill, stand-fail, stand-unpin, stand-limits, ticket-flies, ticket-within, pin-there, pin-within, limits_more, histories_more, stand-shard, found-made}

-- what is read at a place
read-at : {X : Type 0} (xs : List X) (i : ℕ) (x : X) → i < length xs → x ≡ get_or xs i x → slice_get xs i ≡ Some x
read-at xs i x below is = slice_get_read xs (length xs) i x refl below is

module _ {K V T : Type 0} where
  abbrev pub Fields : T → List (State K V) → List (Holding K) → List (Holding K) → ActorCachesView K V T
  Fields tag shards tickets pins = record { tag = tag; shards = shards; tickets = tickets; pins = pins }

  same-fields : (tag : T) (shards other : List (State K V)) (tickets spent : List (Holding K)) (pins held : List (Holding K)) → shards ≡ other → tickets ≡ spent → pins ≡ held
      → Fields tag shards tickets pins ≡ Fields tag other spent held
  same-fields tag shards other tickets spent pins held a b c =
      ap (λ (l : List (State K V)). Fields tag l tickets pins) a ∙ (ap (λ (l : List (Holding K)). Fields tag other l pins) b ∙ ap (λ (l : List (Holding K)). Fields tag other spent l) c)

module _ {K V T : Type 0} (eq : K → K → Bool) (laws : IsEquivalence eq) (meaning : Meaning K V T) where
  -- caches with nothing in them
  pub have-empty : (s : ActorCachesView K V T) → s.shards ≡ [] → s.tickets ≡ [] → s.pins ≡ [] → HaveHistories eq meaning s
  have-empty s shards tickets pins = subst (HaveHistories eq meaning) (sym (same-fields s.tag s.shards [] s.tickets [] s.pins [] shards tickets pins))
      (record { limits = λ _. (0, 0); histories = λ _. []; stand = stand-none eq laws meaning s.tag })

  module _ (s t : ActorCachesView K V T) (have : HaveHistories eq meaning s) (view : s ≡ t) where
    here : (n : ℕ) → n < length t.shards → n < length s.shards
    here n below = subst (λ (v : ActorCachesView K V T). n < length v.shards) (sym view) below

    -- the entries of a shard, as they were read
    shard-read : (n : ℕ) (old : State K V) → n < length s.shards → old ≡ get_or s.shards n old → shard_in s n ≡ old
    shard-read n old within is = get_or_from_slice_get s.shards n old (opening 0 0) (read-at s.shards n old within is)

    set-shard : (n m : ℕ) (step : Step K V) (old new : State K V) → n < length s.shards → old ≡ get_or s.shards n old → new ≡ state_after eq old m step
        → slice_set s.shards n new ≡ slice_set s.shards n (state_after eq (shard_in s n) m step)
    set-shard n m step old new within is after = ap (λ (z : State K V). slice_set s.shards n z) (after ∙ ap (λ (z : State K V). state_after eq z m step) (sym (shard-read n old within is)))

    -- ---- a shard more

    pub is-more : (entries budget : ℕ) (shard : State K V) (shards : List (State K V)) → shard ≡ opening entries budget → shards ≡ s.shards ++ shard ∷ []
        → Fields s.tag shards s.tickets s.pins ≡ with_shard entries budget s
    is-more entries budget shard shards opened is = ap (λ (l : List (State K V)). Fields s.tag l s.tickets s.pins) (is ∙ ap (λ (z : State K V). s.shards ++ z ∷ []) opened)

    pub have-more : (entries budget : ℕ) (shard : State K V) (shards : List (State K V)) → shard ≡ opening entries budget → shards ≡ s.shards ++ shard ∷ []
        → HaveHistories eq meaning (Fields s.tag shards s.tickets s.pins)
    have-more entries budget shard shards opened is = subst (HaveHistories eq meaning) (sym (is-more entries budget shard shards opened is)) (record {
      limits = limits_more eq laws meaning s have.limits have.histories have.stand entries budget;
      histories = histories_more eq laws meaning s have.limits have.histories have.stand;
      stand = stand-shard eq laws meaning s have.limits have.histories have.stand entries budget;
    })

    -- ---- asks

    module _ (h : Holding K) (old new : State K V) (below : h.shard < length t.shards) (is : old ≡ get_or s.shards h.shard old) where
      answered : (o : Option Answer) → ask_answer eq old h.key ≡ o → answer_in eq h s ≡ o
      answered o found = ap (λ (z : State K V). ask_answer eq z h.key) (shard-read h.shard old (here h.shard below) is) ∙ found

      asked-so : (o : Option Answer) → ask_answer eq old h.key ≡ o → after_answer eq h o s ≡ asked eq h t
      asked-so o found = ap (λ (a : Option Answer). after_answer eq h a s) (sym (answered o found)) ∙ ap (asked eq h) view

      module _ (pins : List (Holding K)) (pushed : pins ≡ s.pins ++ h ∷ []) (hits : ask_answer eq old h.key ≡ Some Hit) (after : new ≡ state_after eq old h.actor (Ask h.key Hit)) where
        hit-fields : Fields s.tag (slice_set s.shards h.shard new) s.tickets pins ≡ after_answer eq h (Some Hit) s
        hit-fields = same-fields s.tag _ _ s.tickets s.tickets pins _ (set-shard h.shard h.actor (Ask h.key Hit) old new (here h.shard below) is after) refl pushed

        pub is-hit : Fields s.tag (slice_set s.shards h.shard new) s.tickets pins ≡ asked eq h t
        is-hit = hit-fields ∙ asked-so (Some Hit) hits

        pub have-hit : HaveHistories eq meaning (Fields s.tag (slice_set s.shards h.shard new) s.tickets pins)
        have-hit = subst (HaveHistories eq meaning) (sym hit-fields) (record {
          limits = have.limits;
          histories = entry_in_shard have.histories h.shard (h.actor, Ask h.key Hit);
          stand = stand-hit eq laws meaning s have.limits have.histories have.stand h (here h.shard below) (answered (Some Hit) hits);
        })

      module _ (pins : List (Holding K)) (kept : pins ≡ s.pins) (crowded : ask_answer eq old h.key ≡ Some Crowded) (after : new ≡ state_after eq old h.actor (Ask h.key Crowded)) where
        crowded-fields : Fields s.tag (slice_set s.shards h.shard new) s.tickets pins ≡ after_answer eq h (Some Crowded) s
        crowded-fields = same-fields s.tag _ _ s.tickets s.tickets pins s.pins (set-shard h.shard h.actor (Ask h.key Crowded) old new (here h.shard below) is after) refl kept

        pub is-crowded : Fields s.tag (slice_set s.shards h.shard new) s.tickets pins ≡ asked eq h t
        is-crowded = crowded-fields ∙ asked-so (Some Crowded) crowded

        pub have-crowded : HaveHistories eq meaning (Fields s.tag (slice_set s.shards h.shard new) s.tickets pins)
        have-crowded = subst (HaveHistories eq meaning) (sym crowded-fields) (record {
          limits = have.limits;
          histories = entry_in_shard have.histories h.shard (h.actor, Ask h.key Crowded);
          stand = stand-crowded eq laws meaning s have.limits have.histories have.stand h (here h.shard below) (answered (Some Crowded) crowded);
        })

      pub have-claim : (key : K) (tickets : List (Holding K)) → key ≡ h.key → tickets ≡ s.tickets ++ h ∷ [] → answer_in eq h t ≡ Some Claim → new ≡ state_after eq old h.actor (Ask key Claim)
          → HaveHistories eq meaning (Fields s.tag (slice_set s.shards h.shard new) tickets s.pins)
      have-claim key tickets same pushed claims after =
          let own : new ≡ state_after eq old h.actor (Ask h.key Claim) = after ∙ ap (λ (k : K). state_after eq old h.actor (Ask k Claim)) same in
          let fields : Fields s.tag (slice_set s.shards h.shard new) tickets s.pins ≡ after_answer eq h (Some Claim) s =
          same-fields s.tag _ _ tickets _ s.pins s.pins (set-shard h.shard h.actor (Ask h.key Claim) old new (here h.shard below) is own) pushed refl in
          subst (HaveHistories eq meaning) (sym fields) (record {
            limits = have.limits;
            histories = entry_in_shard have.histories h.shard (h.actor, Ask h.key Claim);
            stand = stand-claim eq laws meaning s have.limits have.histories have.stand h (here h.shard below) (ap (answer_in eq h) view ∙ claims);
          })

    -- ---- tickets

    module _ (place : ℕ) (h : Holding K) (below : place < length t.tickets) (read : h ≡ get_or s.tickets place h) where
      ticket : slice_get s.tickets place ≡ Some h
      ticket = read-at s.tickets place h (subst (λ (v : ActorCachesView K V T). place < length v.tickets) (sym view) below) read

      -- what a contract reads there
      same-ticket : (x : Holding K) → slice_get t.tickets place ≡ Some x → h ≡ x
      same-ticket x there = let same : Some h ≡ Some x = sym ticket ∙ (ap (λ (v : ActorCachesView K V T). slice_get v.tickets place) view ∙ there) in cc

      -- its shard is there, and its key is being made
      pub ticket-shard : h.shard < length s.shards
      ticket-shard = omega (arith, ticket-within eq laws meaning s have.limits have.histories have.stand place h ticket)

      module _ (old : State K V) (is : old ≡ get_or s.shards h.shard old) where
        pub ticket-made : IsSome (maker_in (status_of eq old h.key))
        ticket-made = subst (λ (z : State K V). IsSome (maker_in (status_of eq z h.key))) (shard-read h.shard old ticket-shard is)
            (rw (ticket-flies eq laws meaning s have.limits have.histories have.stand place h ticket) refl)

        module _ (new : State K V) (tickets : List (Holding K)) (spent : tickets ≡ remove s.tickets place) where
          module _ (after : new ≡ state_after eq old h.actor (Fail h.key)) where
            fail-fields : Fields s.tag (slice_set s.shards h.shard new) tickets s.pins ≡ failed eq place h s
            fail-fields = same-fields s.tag _ _ tickets _ s.pins s.pins (set-shard h.shard h.actor (Fail h.key) old new ticket-shard is after) spent refl

            pub is-failed : (x : Holding K) → slice_get t.tickets place ≡ Some x → Fields s.tag (slice_set s.shards h.shard new) tickets s.pins ≡ failed eq place x t
            is-failed x there = fail-fields ∙ (ap (failed eq place h) view ∙ ap (λ (y : Holding K). failed eq place y t) (same-ticket x there))

            pub have-failed : HaveHistories eq meaning (Fields s.tag (slice_set s.shards h.shard new) tickets s.pins)
            have-failed = subst (HaveHistories eq meaning) (sym fail-fields) (record {
              limits = have.limits;
              histories = entry_in_shard have.histories h.shard (h.actor, Fail h.key);
              stand = stand-fail eq laws meaning s have.limits have.histories have.stand place h ticket ticket-shard;
            })

          module _ (pins : List (Holding K)) (pushed : pins ≡ s.pins ++ h ∷ []) (cost : ℕ) (value : V) (priced : cost ≡ entry_cost meaning h.key value)
              (made : (x : Holding K) → slice_get t.tickets place ≡ Some x → value ≡ meaning.made t.tag x.key) (after : new ≡ state_after eq old h.actor (Fill h.key cost value)) where
            own-value : value ≡ meaning.made s.tag h.key
            own-value = made h (ap (λ (v : ActorCachesView K V T). slice_get v.tickets place) (sym view) ∙ ticket) ∙ ap (λ (v : ActorCachesView K V T). meaning.made v.tag h.key) (sym view)

            fill-after : new ≡ state_after eq old h.actor (Fill h.key (entry_cost meaning h.key (meaning.made s.tag h.key)) (meaning.made s.tag h.key))
            fill-after = after ∙ (ap (λ (c : ℕ). state_after eq old h.actor (Fill h.key c value)) priced ∙ ap (λ (v : V). state_after eq old h.actor (Fill h.key (entry_cost meaning h.key v) v)) own-value)

            fill-fields : Fields s.tag (slice_set s.shards h.shard new) tickets pins ≡ filled eq meaning place h s
            fill-fields =
                same-fields s.tag _ _ tickets _ pins _ (set-shard h.shard h.actor (Fill h.key (entry_cost meaning h.key (meaning.made s.tag h.key)) (meaning.made s.tag h.key)) old new ticket-shard is fill-after) spent pushed

            pub is-filled : (x : Holding K) → slice_get t.tickets place ≡ Some x → Fields s.tag (slice_set s.shards h.shard new) tickets pins ≡ filled eq meaning place x t
            is-filled x there = fill-fields ∙ (ap (filled eq meaning place h) view ∙ ap (λ (y : Holding K). filled eq meaning place y t) (same-ticket x there))

            pub have-filled : HaveHistories eq meaning (Fields s.tag (slice_set s.shards h.shard new) tickets pins)
            have-filled = subst (HaveHistories eq meaning) (sym fill-fields) (record {
              limits = have.limits;
              histories = entry_in_shard have.histories h.shard (h.actor, Fill h.key (entry_cost meaning h.key (meaning.made s.tag h.key)) (meaning.made s.tag h.key));
              stand = stand-fill eq laws meaning s have.limits have.histories have.stand place h ticket ticket-shard;
            })

    -- ---- pins

    module _ (place : ℕ) (h : Holding K) (below : place < length t.pins) (read : h ≡ get_or s.pins place h) where
      pin : slice_get s.pins place ≡ Some h
      pin = read-at s.pins place h (subst (λ (v : ActorCachesView K V T). place < length v.pins) (sym view) below) read

      same-pin : (x : Holding K) → slice_get t.pins place ≡ Some x → h ≡ x
      same-pin x there = let same : Some h ≡ Some x = sym pin ∙ (ap (λ (v : ActorCachesView K V T). slice_get v.pins place) view ∙ there) in cc

      -- its shard is there, and its key has pins
      pub pin-shard : h.shard < length s.shards
      pin-shard = omega (arith, pin-within eq laws meaning s have.limits have.histories have.stand place h pin)

      module _ (old : State K V) (is : old ≡ get_or s.shards h.shard old) where
        pub pin-counted : 1 ≤ pins_in (status_of eq old h.key)
        pin-counted = subst (λ (z : State K V). 1 ≤ pins_in (status_of eq z h.key)) (shard-read h.shard old pin-shard is) (pin-there eq laws meaning s have.limits have.histories have.stand place h pin)

        module _ (new : State K V) (pins : List (Holding K)) (given : pins ≡ remove s.pins place) (after : new ≡ state_after eq old h.actor (Unpin h.key)) where
          unpin-fields : Fields s.tag (slice_set s.shards h.shard new) s.tickets pins ≡ unpinned_at eq place h s
          unpin-fields = same-fields s.tag _ _ s.tickets s.tickets pins _ (set-shard h.shard h.actor (Unpin h.key) old new pin-shard is after) refl given

          pub is-unpinned : (x : Holding K) → slice_get t.pins place ≡ Some x → Fields s.tag (slice_set s.shards h.shard new) s.tickets pins ≡ unpinned_at eq place x t
          is-unpinned x there = unpin-fields ∙ (ap (unpinned_at eq place h) view ∙ ap (λ (y : Holding K). unpinned_at eq place y t) (same-pin x there))

          pub have-unpinned : HaveHistories eq meaning (Fields s.tag (slice_set s.shards h.shard new) s.tickets pins)
          have-unpinned = subst (HaveHistories eq meaning) (sym unpin-fields) (record {
            limits = have.limits;
            histories = entry_in_shard have.histories h.shard (h.actor, Unpin h.key);
            stand = stand-unpin eq laws meaning s have.limits have.histories have.stand place h pin pin-shard;
          })

    -- ---- limits

    module _ (n entries budget : ℕ) (below : n < length t.shards) (old new : State K V) (is : old ≡ get_or s.shards n old) (after : new ≡ state_after eq old 0 (Limits entries budget)) where
      limit-fields : Fields s.tag (slice_set s.shards n new) s.tickets s.pins ≡ with_limits eq n entries budget s
      limit-fields = ap (λ (l : List (State K V)). Fields s.tag l s.tickets s.pins) (set-shard n 0 (Limits entries budget) old new (here n below) is after)

      pub is-limited : Fields s.tag (slice_set s.shards n new) s.tickets s.pins ≡ with_limits eq n entries budget t
      is-limited = limit-fields ∙ ap (with_limits eq n entries budget) view

      pub have-limited : 1 ≤ entries → entries ≤ max_entries → budget ≤ max_budget → HaveHistories eq meaning (Fields s.tag (slice_set s.shards n new) s.tickets s.pins)
      have-limited some few least = subst (HaveHistories eq meaning) (sym limit-fields) (record {
        limits = have.limits;
        histories = entry_in_shard have.histories n (0, Limits entries budget);
        stand = stand-limits eq laws meaning s have.limits have.histories have.stand n entries budget (here n below) some few least;
      })

    -- ---- values

    -- a value that is read is its key's
    value-read : ((a b : K) → eq a b ≡ true → a ≡ b) → (n : ℕ) (old : State K V) → n < length t.shards → old ≡ get_or s.shards n old
        → (key : K) (value : V) → ready_value (status_of eq old key) ≡ Some value → value ≡ meaning.made t.tag key
    value-read same n old below is key value found =
        found-made eq laws same meaning s have.limits have.histories have.stand n key value (ap (λ (z : State K V). ready_value (status_of eq z key)) (shard-read n old (here n below) is) ∙ found)
        ∙ ap (λ (v : ActorCachesView K V T). meaning.made v.tag key) view

    pub if-made : {A E : Type 0} (shows : A → V) → ((a b : K) → eq a b ≡ true → a ≡ b) → (n : ℕ) (old : State K V) → n < length t.shards → old ≡ get_or s.shards n old
        → (key : K) (r : Result (Option A) E) → IfOk r (λ o. option_map shows o ≡ ready_value (status_of eq old key)) → IfOk r (λ o. IfSome o (λ v. shows v ≡ meaning.made t.tag key))
    if-made shows same n old below is key (Err e) found = tt
    if-made shows same n old below is key (Ok None) found = tt
    if-made shows same n old below is key (Ok (Some v)) found = value-read same n old below is key (shows v) (sym found)
