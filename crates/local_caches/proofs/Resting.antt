-- What each call leaves of a cache at rest.
use Rattle.std.proofs.Common.{◌≡◌, ℕ, ◌+◌, ◌<◌, ◌≤◌, Bool, true, false, cond, ◌&&◌, ◌||◌, nat_lt, List, [], ◌∷◌, length, Option, Some, None, option_map, refl, sym, ap, ◌∙◌, true≢false, arith}
use Rattle.std.specs.Cmp.{IsEquivalence}
use Rattle.std.specs.Map.{lookup}
use Rattle.std.proofs.lemmas.Bool.{or_parts, ltb-true, ltb-false}
use Rattle.evict_core.specs.Recency.{Apart, change}
use Rattle.evict_core.specs.Machine.{Status, Flying, Ready, State, Hit, Claim, Crowded, Ask, Fill, Unpin, Limits, max_entries, max_budget, is_idle, one_pin_more, one_pin_less, pins_in, maker_in, has_idle, has_space, has_room, is_held, unpinned, pinned, flying, evict, trim, status_of, ask_answer, answer_at, hit, room_for_one, put_first, state_after}
use Rattle.evict_core.specs.History.{one_if, opening}
use Rattle.evict_core.specs.declared.hard_limit.HardLimit.{HardLimit}
use Rattle.evict_core.specs.Asked.{ready_value}
use Rattle.evict_core.proofs.AskLemmas.{claim-absent}
use Rattle.evict_core.proofs.RecencyLemmas.{lookup-to_front, lookup-change, lookup-without_last, Apart-change, Apart-without_last}
use Rattle.evict_core.proofs.TrimLemmas.{kept-by-trim}
use Rattle.evict_core.proofs.StateLemmas.{IsSound, sound-after}
use Rattle.evict_core.proofs.PinLemmas.{pins-after}
use Rattle.cache_kinds.specs.Limits.{entry_limit}
use Rattle.local_caches.specs.Keeping.{IsAtRest, with_hit, with_fill}

some-limit : (budget : ℕ) → 1 ≤ entry_limit budget
some-limit budget = omega arith

few-entries : (budget : ℕ) → entry_limit budget ≤ max_entries
few-entries budget = omega arith

module _ {K V : Type 0} where
  -- the limits stay
  abbrev pub AreLimitsOf : State K V → State K V → Type 0
  AreLimitsOf s t = (t.limit ≡ s.limit) × (t.budget ≡ s.budget) × (t.hard ≡ s.hard)

  pub limits-trim : (s : State K V) → AreLimitsOf s (trim s)
  limits-trim s = kept-by-trim (AreLimitsOf s) (λ t _ h. h) (length s.entries) s refl (refl, refl, refl)

  limits-room : (s : State K V) → AreLimitsOf s (room_for_one s)
  limits-room s = elim (nat_lt (length s.entries) s.limit) as (λ b. AreLimitsOf s (cond b s (evict s))) [ true ↦ (refl, refl, refl) | false ↦ (refl, refl, refl) ]

  module _ (eq : K → K → Bool) where
    pub limits-hit : (s : State K V) (key : K) → AreLimitsOf s (with_hit eq s key)
    limits-hit s key = limits-trim (record (hit eq s key) { entries = change (eq key) one_pin_less (hit eq s key).entries })

    pub limits-fill : (s : State K V) (key : K) (price : ℕ) (value : V) → AreLimitsOf s (with_fill eq s key price value)
    limits-fill s key price value =
        let claimed = put_first (room_for_one s) key 0 in
        let filled = state_after eq claimed 0 (Fill key price value) in
        let trimmed = limits-trim (record filled { entries = change (eq key) one_pin_less filled.entries }) in
        let room = limits-room s in (trimmed.0 ∙ room.0, trimmed.1 ∙ room.1, trimmed.2 ∙ room.2)

module _ {K V : Type 0} (eq : K → K → Bool) (laws : IsEquivalence eq) (made : K → V) (cost : K → V → ℕ) where
  abbrev resting : K → Status V
  resting key = Ready 0 (cost key (made key)) (made key)

  -- what is found is as at rest
  abbrev Rests : K → Option (Status V) → Type 0
  Rests key found = (status : Status V) → found ≡ Some status → status ≡ resting key

  abbrev AllRest : List (K × Status V) → Type 0
  AllRest es = (key : K) → Rests key (lookup (eq key) es)

  none-idle : (es : List (K × Status V)) → AllRest es → has_idle es ≡ false → length es ≡ 0
  none-idle [] rest none = refl
  none-idle (e ∷ es) rest none =
      let found : lookup (eq e.0) (e ∷ es) ≡ Some e.1 = rw (laws.refl e.0) refl in
      let idle : is_idle e.1 ≡ true = ap is_idle (rest e.0 e.1 found) in
      absurd (true≢false (sym idle ∙ (or_parts (has_idle es) (is_idle e.1) none).1))

  pub sound-rest : (s : State K V) → IsAtRest eq made cost s → IsSound eq s
  sound-rest s rest = record { apart = rest.apart; in_budget = rest.in_budget; in_limit = λ over. absurd (omega (arith, over, rest.in_limit)) }

  -- a sound state whose entries rest is at rest
  rest-sound : (s : State K V) → IsSound eq s → AllRest s.entries → s.limit ≡ entry_limit s.budget → s.hard ≡ None → IsAtRest eq made cost s
  rest-sound s sound rest limit hard = record {
    ready = rest;
    apart = sound.apart;
    in_budget = sound.in_budget;
    in_limit = (elim (nat_lt s.limit (length s.entries)) as (λ b. nat_lt s.limit (length s.entries) ≡ b → length s.entries ≤ s.limit) [
      | true ↦ λ t. let over : s.limit < length s.entries = ltb-true _ _ t in absurd (omega (arith, over, none-idle s.entries rest (sound.in_limit over)))
      | false ↦ λ t. ltb-false _ _ t
    ]) refl;
    limit = limit;
    hard = hard;
  }

  rest-evict : (s : State K V) → Apart eq s.entries → AllRest s.entries → AllRest (evict s).entries
  rest-evict s apart rest key = lookup-without_last eq laws is_idle key s.entries apart (Rests key) (rest key) (λ x _ _ status found. cc)

  rest-trim : (s : State K V) → Apart eq s.entries → AllRest s.entries → AllRest (trim s).entries
  rest-trim s apart rest = (kept-by-trim (λ (t : State K V). Apart eq t.entries × AllRest t.entries)
      (λ t _ h. (Apart-without_last eq laws is_idle t.entries h.0, rest-evict t h.0 h.1)) (length s.entries) s refl (apart, rest)).1

  -- no entries
  pub rest-opening : (budget : ℕ) → IsAtRest eq made cost (opening (entry_limit budget) budget)
  rest-opening budget = record { ready = λ key status found. cc; apart = tt; in_budget = omega arith; in_limit = omega arith; limit = refl; hard = refl }

  -- a pin more and one less
  unpinned-again : (q : K) (b : Bool) (r : Option (Status V)) → Rests q r → Rests q (cond b (option_map one_pin_less (cond b (option_map one_pin_more r) r)) (cond b (option_map one_pin_more r) r))
  unpinned-again q false r rest status found = rest status found
  unpinned-again q true None rest status found = cc
  unpinned-again q true (Some x) rest status found =
      let is : one_pin_less (one_pin_more x) ≡ status = cc in
      sym is ∙ ap (λ (y : Status V). one_pin_less (one_pin_more y)) (rest x refl)

  -- a claim that is filled, and then one pin less
  filled-again : (q : K) (price : ℕ) (value : V) (b : Bool) (r : Option (Status V)) → (b ≡ true → resting q ≡ Ready 0 price value) → Rests q r
      → Rests q (cond b (option_map one_pin_less (cond b (option_map (λ _. Ready 1 price value) (cond b (Some (Flying 0)) r)) (cond b (Some (Flying 0)) r)))
      (cond b (option_map (λ _. Ready 1 price value) (cond b (Some (Flying 0)) r)) (cond b (Some (Flying 0)) r)))
  filled-again q price value true r is rest status found = let own : Ready 0 price value ≡ status = cc in sym own ∙ sym (is refl)
  filled-again q price value false r is rest status found = rest status found

  module _ (s : State K V) (rest : IsAtRest eq made cost s) where
    some-space : has_space s ≡ true
    some-space = ap (λ (hard : Option HardLimit). is_held hard (unpinned s.entries + pinned s.entries) (flying s.entries + 1)) rest.hard

    some-room : has_room s ≡ true
    some-room =
        let some : 1 ≤ s.limit = rw rest.limit (some-limit s.budget) in
        (elim (nat_lt (length s.entries) s.limit || has_idle s.entries) as (λ b. (nat_lt (length s.entries) s.limit || has_idle s.entries) ≡ b → (b && has_space s) ≡ true) [
          | true ↦ λ _. some-space
          | false ↦ λ t. let parts = or_parts (nat_lt (length s.entries) s.limit) (has_idle s.entries) t in
              absurd (omega (arith, some, ltb-false _ _ parts.0, none-idle s.entries rest.ready parts.1))
        ]) refl

    pub rest-limits : (budget : ℕ) → budget ≤ max_budget → IsAtRest eq made cost (state_after eq s 0 (Limits (entry_limit budget) budget))
    rest-limits budget within =
        let limited : State K V = record s { limit = entry_limit budget; budget = budget } in
        let sound = sound-after eq laws s (λ _. 0) 0 (Limits (entry_limit budget) budget) (sound-rest s rest) (some-limit budget, few-entries budget, within) in
        let limits = limits-trim limited in
        rest-sound (trim limited) sound (rest-trim limited rest.apart rest.ready) (limits.0 ∙ ap entry_limit (sym limits.1)) (limits.2 ∙ rest.hard)

    module _ (key : K) where
      -- what a hit finds is the key's value
      pub found-value : (value : V) → ready_value (status_of eq s key) ≡ Some value → value ≡ made key
      found-value value found = by (status_of eq s key) refl found
        where
          by : (r : Option (Status V)) → status_of eq s key ≡ r → ready_value r ≡ Some value → value ≡ made key
          by None is found = cc
          by (Some status) is found = let own : Some (made key) ≡ Some value = ap (λ (x : Status V). ready_value (Some x)) (sym (rest.ready key status is)) ∙ found in cc

      -- no entry is being made
      pub never-flying : (m : ℕ) → maker_in (status_of eq s key) ≡ Some m → ⊥
      never-flying m flying = by (status_of eq s key) refl flying
        where
          by : (r : Option (Status V)) → status_of eq s key ≡ r → maker_in r ≡ Some m → ⊥
          by None is flying = cc
          by (Some status) is flying = let no : None ≡ Some m = ap (λ (x : Status V). maker_in (Some x)) (sym (rest.ready key status is)) ∙ flying in cc

      -- there is room
      pub never-crowded : ask_answer eq s key ≡ Some Crowded → ⊥
      never-crowded crowded = by (status_of eq s key) refl crowded
        where
          by : (r : Option (Status V)) → status_of eq s key ≡ r → answer_at s r ≡ Some Crowded → ⊥
          by None is crowded = let claims : Some Claim ≡ Some Crowded = ap (λ (b : Bool). Some (cond b Claim Crowded)) (sym some-room) ∙ crowded in cc
          by (Some status) is crowded = let hits : Some Hit ≡ Some Crowded = ap (λ (x : Status V). answer_at s (Some x)) (sym (rest.ready key status is)) ∙ crowded in cc

      pub absent-claims : status_of eq s key ≡ None → ask_answer eq s key ≡ Some Claim
      absent-claims absent = claim-absent eq s key absent some-room

      module _ (answered : ask_answer eq s key ≡ Some Hit) where
        sound-hit : IsSound eq (hit eq s key)
        sound-hit = sound-after eq laws s (λ _. 0) 0 (Ask key Hit) (sound-rest s rest) answered

        pub hit-pinned : 1 ≤ pins_in (status_of eq (hit eq s key) key)
        hit-pinned =
            let more = pins-after eq laws s (λ _. 0) 0 (Ask key Hit) (sound-rest s rest) answered (λ k. omega arith) key in
            let one : one_if (eq key key) ≡ 1 = rw (laws.refl key) refl in omega (arith, more, one)

        pub rest-hit : IsAtRest eq made cost (with_hit eq s key)
        rest-hit =
            let hits : State K V = hit eq s key in
            let less : State K V = record hits { entries = change (eq key) one_pin_less hits.entries } in
            let limits = limits-hit eq s key in
            let rests : AllRest less.entries = λ q status found.
            let looked = lookup-change eq laws key one_pin_less q hits.entries
            ∙ ap (λ (r : Option (Status V)). cond (eq q key) (option_map one_pin_less r) r) (lookup-to_front eq laws key one_pin_more q s.entries rest.apart) in
            unpinned-again q (eq q key) (status_of eq s q) (rest.ready q) status (sym looked ∙ found) in
            rest-sound (with_hit eq s key) (sound-after eq laws hits (λ _. 1) 0 (Unpin key) sound-hit (omega arith))
            (rest-trim less (Apart-change eq laws key one_pin_less hits.entries sound-hit.apart) rests)
            (limits.0 ∙ (rest.limit ∙ ap entry_limit (sym limits.1))) (limits.2 ∙ rest.hard)

      module _ (answered : ask_answer eq s key ≡ Some Claim) (price : ℕ) (value : V) where
        abbrev claimed : State K V
        claimed = put_first (room_for_one s) key 0

        abbrev filled : State K V
        filled = state_after eq claimed 0 (Fill key price value)

        sound-claimed : IsSound eq claimed
        sound-claimed = sound-after eq laws s (λ _. 0) 0 (Ask key Claim) (sound-rest s rest) answered

        pub claimed-flies : maker_in (status_of eq claimed key) ≡ Some 0
        claimed-flies = rw (laws.refl key) refl

        sound-filled : IsSound eq filled
        sound-filled = sound-after eq laws claimed (λ _. 0) 0 (Fill key price value) sound-claimed claimed-flies

        pub filled-pinned : 1 ≤ pins_in (status_of eq filled key)
        filled-pinned =
            let more = pins-after eq laws claimed (λ _. 0) 0 (Fill key price value) sound-claimed claimed-flies (λ k. omega arith) key in
            let one : one_if (eq key key) ≡ 1 = rw (laws.refl key) refl in omega (arith, more, one)

        rest-room : AllRest (room_for_one s).entries
        rest-room = elim (nat_lt (length s.entries) s.limit) as (λ b. AllRest (cond b s (evict s)).entries) [ true ↦ rest.ready | false ↦ rest-evict s rest.apart rest.ready ]

        pub rest-fill : ((a b : K) → eq a b ≡ true → a ≡ b) → price ≡ cost key value → value ≡ made key → IsAtRest eq made cost (with_fill eq s key price value)
        rest-fill same priced right =
            let less : State K V = record filled { entries = change (eq key) one_pin_less filled.entries } in
            let limits = limits-fill eq s key price value in
            let own : made key ≡ value = sym right in
            let rests : AllRest less.entries = λ q status found.
            let looked = lookup-change eq laws key one_pin_less q filled.entries
            ∙ ap (λ (r : Option (Status V)). cond (eq q key) (option_map one_pin_less r) r) (lookup-to_front eq laws key (λ _. Ready 1 price value) q claimed.entries sound-claimed.apart) in
            filled-again q price value (eq q key) (lookup (eq q) (room_for_one s).entries) (λ t. let costs : cost key (made key) ≡ price = ap (cost key) own ∙ sym priced in ap resting (same q key t) ∙ cc) (rest-room q) status (sym looked ∙ found) in
            rest-sound (with_fill eq s key price value) (sound-after eq laws filled (λ _. 1) 0 (Unpin key) sound-filled (omega arith))
            (rest-trim less (Apart-change eq laws key one_pin_less filled.entries sound-filled.apart) rests)
            (limits.0 ∙ (rest.limit ∙ ap entry_limit (sym limits.1))) (limits.2 ∙ rest.hard)
