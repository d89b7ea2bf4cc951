-- What calls make of a pass: pins and claims, calls in a row, and passes that are whole.
use Rattle.std.proofs.Common.{◌≡◌, ℕ, ◌+◌, ◌<◌, ◌==◌, ◌||◌, Bool, true, false, cond, List, [], ◌∷◌, ◌++◌, map, Option, Some, None, refl, sym, ap, ◌∙◌, subst, arith}
use Rattle.std.specs.Cmp.{IsEquivalence}
use Rattle.std.specs.Bool.{MatchBool}
use Rattle.std.proofs.lemmas.Bool.{eq-eqb}
use Rattle.std.proofs.lemmas.List.{append-nil, map-append}
use Rattle.turn_cell.specs.History.{History, entry_list, with_entry}
use Rattle.turn_cell.specs.Passes.{Follows, IsWholeBut, first_pass, split_pass, joined_pass, mine}
use Rattle.turn_cell.proofs.Passes.{Follows_same, Follows_trans, IsOf-Follows, TakesTurn_itself, whole_first, whole_follows, whole_rejoined, whole_list, whole-but_none, whole-but_split, whole-but_join, whole-but_follows}
use Rattle.evict_core.specs.Machine.{Step, Ask, PinAll, Spill, IsEnabled}
use Rattle.evict_core.specs.History.{one_if, times_named, pins_taken, pins_given, pins_left, pins_held, is_open_in, has_open}
use Rattle.evict_core.proofs.HistoryLemmas.{taken-append, given-append, open-append}
use Rattle.flight_cache.specs.Meaning.{Meaning, shard_of}
use Rattle.flight_cache.specs.Histories.{is_in, step_of, steps_in, IsLegalUnder, left_by}
use Rattle.flight_cache.specs.Calls.{ShardView, ShardPassView, GivesSteps, HasGivenBack, own_steps}
use Rattle.flight_cache.specs.Shards.{Shards, CachePassView, EachHasGivenBack, at, with_at}
use Rattle.flight_cache.specs.Pinning.{is_named, shards_of, keys_in, TurnsWith}
use Rattle.flight_cache.specs.declared.kept.Opening.{Opening}
use Rattle.flight_cache.specs.declared.kept.Entry.{Entry}
use Rattle.flight_cache.specs.Laws.{HitHolds, FillHolds, UnpinGives, PinAllHolds, ClaimOpens, IsLater, CallIsLater, LaterIsLater, StaysOfCache, FirstIsWhole, StaysWhole, JoinedIsWhole, WholeButNone, SplitIsWholeBut, JoinIsWholeBut, LaterIsWholeBut, WholeKnowsAll, AskIsAnswered, SpillsHaveNoRoom, PlacesAreInShard, PinnedAllHolds, NothingHolds, NothingIsGivenBack, GivenBackAgain, OneGivesBack, GivesFollow, GivesOwnSteps, EachIsLater, GivesItself}
use Rattle.flight_cache.proofs.Asking.{gives-follows}
use Rattle.flight_cache.proofs.Places.{named-kept}
use Rattle.flight_cache.proofs.Four.{at-shard, at-each}
use Rattle.flight_cache.proofs.Refusing.{below-four}
use Rattle.flight_cache.proofs.Standing.{steps-more}

module _ {K V T : Type 0} (eq : K → K → Bool) (laws : IsEquivalence eq) (meaning : Meaning K V T) where
  pub hit_holds : HitHolds eq meaning
  hit_holds shard pass after key g = let p = rw (laws.refl key) at (g.pins key) in omega arith

  pub fill_holds : FillHolds eq meaning
  fill_holds shard pass after key cost value g = ((let p = rw (laws.refl key) at (g.pins key) in omega arith), rw (laws.refl key) at (g.claims key))

  pub unpin_gives : UnpinGives eq meaning
  unpin_gives shard pass after key g = let p = rw (laws.refl key) at (g.pins key) in omega arith

  pub pin_all_holds : PinAllHolds eq meaning
  pin_all_holds shard pass after keys g key = let p = g.pins key in omega arith

  pub claim_opens : ClaimOpens eq meaning
  claim_opens shard pass after key g = rw (laws.refl key) at (g.claims key)

module _ {K V T : Type 0} (eq : K → K → Bool) (laws : IsEquivalence eq) (same : (a b : K) → eq a b ≡ true → a ≡ b) (meaning : Meaning K V T) where
  pub places_are_in_shard : PlacesAreInShard eq meaning
  places_are_in_shard shard keys key here = named-kept eq (is_in meaning shard.tag) key (λ x e. subst (λ (k : K). is_in meaning shard.tag k ≡ true) (same key x e) here) keys

module _ {K V T : Type 0} (eq : K → K → Bool) (meaning : Meaning K V T) where
  pub gives_follow : GivesFollow eq meaning
  gives_follow shard pass after steps g = (entry_list g.entry, gives-follows eq meaning shard pass after steps g, g.are)

  pub gives_own_steps : GivesOwnSteps eq meaning
  gives_own_steps shard pass after steps g =
      ap (map (step_of meaning shard.tag)) (gives-follows eq meaning shard pass after steps g).mine
      ∙ (map-append (step_of meaning shard.tag) (mine pass) (entry_list g.entry) ∙ ap (λ (l : List (Step K V)). own_steps meaning shard.tag pass ++ l) g.are)

  -- the last step of what is seen was enabled in the state before it
  last-step : (under : Opening T) (list : History (Entry K)) (n : ℕ) (entry : Option (Entry K)) (step : Step K V)
      → map (step_of meaning under) (entry_list entry) ≡ step ∷ [] → IsLegalUnder eq meaning under (with_entry list n entry)
      → IsEnabled eq (left_by eq meaning under list) (pins_held eq (steps_in meaning under list) n) n step
  last-step under list n None step are legal = cc
  last-step under list n (Some e) step are legal =
      let is : step_of meaning under e ≡ step = cc in
      let may = legal.legal (steps_in meaning under list) [] (n, step_of meaning under e) (steps-more meaning under list n e) in
      subst (λ (z : Step K V). IsEnabled eq (left_by eq meaning under list) (pins_held eq (steps_in meaning under list) n) n z) is may

  pub ask_is_answered : AskIsAnswered eq meaning
  ask_is_answered shard pass after key answer g =
      last-step shard.tag g.takes.list g.waited.number g.entry (Ask key answer) g.are (subst (λ (h : History (Entry K)). IsLegalUnder eq meaning shard.tag h) g.takes.seen g.legal)

  pub spills_have_no_room : SpillsHaveNoRoom eq meaning
  spills_have_no_room shard pass after key cost g =
      (last-step shard.tag g.takes.list g.waited.number g.entry (Spill key cost) g.are (subst (λ (h : History (Entry K)). IsLegalUnder eq meaning shard.tag h) g.takes.seen g.legal)).1

  empty-given : (shard : ShardView T) (pass : ShardPassView K T) → own_steps meaning shard.tag pass ≡ [] → HasGivenBack eq meaning shard pass
  empty-given shard pass none = record {
    pins = λ key. ap (λ (l : List (Step K V)). pins_left eq l key) none;
    claims = λ key. ap (λ (l : List (Step K V)). has_open eq l key) none;
  }

  pub nothing_is_given_back : NothingIsGivenBack eq meaning
  nothing_is_given_back shards pass h = record {
    first = empty-given shards.first pass.first h.first;
    second = empty-given shards.second pass.second h.second;
    third = empty-given shards.third pass.third h.third;
    fourth = empty-given shards.fourth pass.fourth h.fourth;
  }

  pub given_back_again : GivenBackAgain eq meaning
  given_back_again shard pass after steps before own pins claims = record {
    pins = λ key. let was = before.pins key in let here = pins key in
        let t = ap (λ l. pins_taken eq l key) own ∙ taken-append eq (own_steps meaning shard.tag pass) steps key in
        let g = ap (λ l. pins_given eq l key) own ∙ given-append eq (own_steps meaning shard.tag pass) steps key in omega arith;
    claims = λ key. ap (λ l. has_open eq l key) own ∙ (open-append eq false (own_steps meaning shard.tag pass) steps key ∙ (ap (λ (b : Bool). is_open_in eq b steps key) (before.claims key) ∙ claims key));
  }

  given-with : (shards : Shards (ShardView T)) (pass : CachePassView K T) (n : ℕ) (own : ShardPassView K T) → EachHasGivenBack eq meaning shards pass → HasGivenBack eq meaning (at shards n) own → EachHasGivenBack eq meaning shards (with_at pass n own)
  given-with shards pass n own h =
      (elim (n == 0) as (λ b. HasGivenBack eq meaning (cond b shards.first (cond (n == 1) shards.second (cond (n == 2) shards.third shards.fourth))) own
      → EachHasGivenBack eq meaning shards (cond b (record pass { first = own }) (cond (n == 1) (record pass { second = own }) (cond (n == 2) (record pass { third = own }) (record pass { fourth = own }))))) [
        | true ↦ λ f. record { first = f; second = h.second; third = h.third; fourth = h.fourth }
        | false ↦ elim (n == 1) as (λ b. HasGivenBack eq meaning (cond b shards.second (cond (n == 2) shards.third shards.fourth)) own
            → EachHasGivenBack eq meaning shards (cond b (record pass { second = own }) (cond (n == 2) (record pass { third = own }) (record pass { fourth = own })))) [
              | true ↦ λ f. record { first = h.first; second = f; third = h.third; fourth = h.fourth }
              | false ↦ elim (n == 2) as (λ b. HasGivenBack eq meaning (cond b shards.third shards.fourth) own → EachHasGivenBack eq meaning shards (cond b (record pass { third = own }) (record pass { fourth = own }))) [
                | true ↦ λ f. record { first = h.first; second = h.second; third = f; fourth = h.fourth }
                | false ↦ λ f. record { first = h.first; second = h.second; third = h.third; fourth = f }
              ]
            ]
      ])

  pub one_gives_back : OneGivesBack eq meaning
  one_gives_back shards pass after n h is own = subst (λ (z : CachePassView K T). EachHasGivenBack eq meaning shards z) (sym is) (given-with shards pass n (at after n) h own)

  pub later-one : (shard : ShardView T) (pass after : ShardPassView K T) (steps : List (Step K V)) → GivesSteps eq meaning shard pass after steps → (entries : List (Entry K)) × Follows pass after entries
  later-one shard pass after steps g = (entry_list g.entry, gives-follows eq meaning shard pass after steps g)

  pub each_is_later : EachIsLater eq meaning
  each_is_later shards pass after steps g = record {
    first = later-one shards.first pass.first after.first (steps 0) g.first;
    second = later-one shards.second pass.second after.second (steps 1) g.second;
    third = later-one shards.third pass.third after.third (steps 2) g.third;
    fourth = later-one shards.fourth pass.fourth after.fourth (steps 3) g.fourth;
  }

  pub gives_itself : GivesItself eq meaning
  gives_itself shard pass after steps zeroth some g =
      TakesTurn_itself g.waited after g.entry (g.waits.number ∙ zeroth) (subst (λ (n : ℕ). 0 < n) (sym g.waits.next) some) g.takes

module _ {K T : Type 0} where
  same-later : (p : ShardPassView K T) → (entries : List (Entry K)) × Follows p p entries
  same-later p = ([], Follows_same p)

  later-with : (pass : CachePassView K T) (n : ℕ) (own : ShardPassView K T) (entries : List (Entry K)) → Follows (at pass n) own entries → IsLater pass (with_at pass n own)
  later-with pass n own entries f =
      (elim (n == 0) as (λ b. Follows (cond b pass.first (cond (n == 1) pass.second (cond (n == 2) pass.third pass.fourth))) own entries
      → IsLater pass (cond b (record pass { first = own }) (cond (n == 1) (record pass { second = own }) (cond (n == 2) (record pass { third = own }) (record pass { fourth = own }))))) [
        | true ↦ λ f. record { first = (entries, f); second = same-later pass.second; third = same-later pass.third; fourth = same-later pass.fourth }
        | false ↦ elim (n == 1) as (λ b. Follows (cond b pass.second (cond (n == 2) pass.third pass.fourth)) own entries
            → IsLater pass (cond b (record pass { second = own }) (cond (n == 2) (record pass { third = own }) (record pass { fourth = own })))) [
              | true ↦ λ f. record { first = same-later pass.first; second = (entries, f); third = same-later pass.third; fourth = same-later pass.fourth }
              | false ↦ elim (n == 2) as (λ b. Follows (cond b pass.third pass.fourth) own entries → IsLater pass (cond b (record pass { third = own }) (record pass { fourth = own }))) [
                | true ↦ λ f. record { first = same-later pass.first; second = same-later pass.second; third = (entries, f); fourth = same-later pass.fourth }
                | false ↦ λ f. record { first = same-later pass.first; second = same-later pass.second; third = same-later pass.third; fourth = (entries, f) }
              ]
            ]
      ]) f

  pub call_is_later : CallIsLater K T
  call_is_later pass after n entries f is = subst (λ (z : CachePassView K T). IsLater pass z) (sym is) (later-with pass n (at after n) entries f)

  both-later : (p q r : ShardPassView K T) → ((xs : List (Entry K)) × Follows p q xs) → ((ys : List (Entry K)) × Follows q r ys) → (zs : List (Entry K)) × Follows p r zs
  both-later p q r f g = (f.0 ++ g.0, Follows_trans p q r f.0 g.0 f.1 g.1)

  pub later_is_later : LaterIsLater K T
  later_is_later p q r f g = record {
    first = both-later p.first q.first r.first f.first g.first;
    second = both-later p.second q.second r.second f.second g.second;
    third = both-later p.third q.third r.third f.third g.third;
    fourth = both-later p.fourth q.fourth r.fourth f.fourth g.fourth;
  }

  pub stays_of_cache : StaysOfCache K T
  stays_of_cache cache pass after of later = record {
    first = IsOf-Follows cache.shards.first pass.first after.first later.first.0 of.first later.first.1;
    second = IsOf-Follows cache.shards.second pass.second after.second later.second.0 of.second later.second.1;
    third = IsOf-Follows cache.shards.third pass.third after.third later.third.0 of.third later.third.1;
    fourth = IsOf-Follows cache.shards.fourth pass.fourth after.fourth later.fourth.0 of.fourth later.fourth.1;
  }

  pub first_is_whole : FirstIsWhole K T
  first_is_whole shards = record {
    first = whole_first {E = Entry K} shards.first (first_pass shards.first) refl;
    second = whole_first {E = Entry K} shards.second (first_pass shards.second) refl;
    third = whole_first {E = Entry K} shards.third (first_pass shards.third) refl;
    fourth = whole_first {E = Entry K} shards.fourth (first_pass shards.fourth) refl;
  }

  pub stays_whole : StaysWhole K T
  stays_whole pass after whole later = record {
    first = whole_follows pass.first after.first later.first.0 whole.first later.first.1;
    second = whole_follows pass.second after.second later.second.0 whole.second later.second.1;
    third = whole_follows pass.third after.third later.third.0 whole.third later.third.1;
    fourth = whole_follows pass.fourth after.fourth later.fourth.0 whole.fourth later.fourth.1;
  }

  pub joined_is_whole : JoinedIsWhole K T
  joined_is_whole p a b whole f g = record {
    first = whole_rejoined p.first a.first b.first f.first.0 g.first.0 whole.first f.first.1 g.first.1;
    second = whole_rejoined p.second a.second b.second f.second.0 g.second.0 whole.second f.second.1 g.second.1;
    third = whole_rejoined p.third a.third b.third f.third.0 g.third.0 whole.third f.third.1 g.third.1;
    fourth = whole_rejoined p.fourth a.fourth b.fourth f.fourth.0 g.fourth.0 whole.fourth f.fourth.1 g.fourth.1;
  }

  pub whole_knows_all : WholeKnowsAll K T
  whole_knows_all p whole zeroth ex = record {
    first = whole_list p.first p.first.seen (ap (λ (s : Shards ℕ). s.first) zeroth) whole.first ex.first;
    second = whole_list p.second p.second.seen (ap (λ (s : Shards ℕ). s.second) zeroth) whole.second ex.second;
    third = whole_list p.third p.third.seen (ap (λ (s : Shards ℕ). s.third) zeroth) whole.third ex.third;
    fourth = whole_list p.fourth p.fourth.seen (ap (λ (s : Shards ℕ). s.fourth) zeroth) whole.fourth ex.fourth;
  }

  pub whole_but_none : WholeButNone K T
  whole_but_none p = (
    λ w. record { first = (whole-but_none p.first).0 w.first; second = (whole-but_none p.second).0 w.second; third = (whole-but_none p.third).0 w.third; fourth = (whole-but_none p.fourth).0 w.fourth },
    λ w. record { first = (whole-but_none p.first).1 w.first; second = (whole-but_none p.second).1 w.second; third = (whole-but_none p.third).1 w.third; fourth = (whole-but_none p.fourth).1 w.fourth },
  )

  split-alike : (p : ShardPassView K T) (next : ℕ) (ns : List ℕ) → p.next ≡ next → IsWholeBut p ns → IsWholeBut (split_pass p) (next ∷ ns)
  split-alike p next ns is w = subst (λ (n : ℕ). IsWholeBut (split_pass p) (n ∷ ns)) is (whole-but_split p ns w)

  pub split_is_whole_but : SplitIsWholeBut K T
  split_is_whole_but p ns a w = record {
    first = split-alike p.first p.first.next ns refl w.first;
    second = split-alike p.second p.first.next ns a.second_next w.second;
    third = split-alike p.third p.first.next ns a.third_next w.third;
    fourth = split-alike p.fourth p.first.next ns a.fourth_next w.fourth;
  }

  join-alike : (p other : ShardPassView K T) (number : ℕ) (before later : List ℕ) → other.number ≡ number → IsWholeBut p (before ++ number ∷ later) → IsWholeBut (joined_pass p other) (before ++ later)
  join-alike p other number before later is w = whole-but_join p other before later (subst (λ (n : ℕ). IsWholeBut p (before ++ n ∷ later)) (sym is) w)

  pub join_is_whole_but : JoinIsWholeBut K T
  join_is_whole_but p other before later a w = record {
    first = join-alike p.first other.first other.first.number before later refl w.first;
    second = join-alike p.second other.second other.first.number before later a.second_number w.second;
    third = join-alike p.third other.third other.first.number before later a.third_number w.third;
    fourth = join-alike p.fourth other.fourth other.first.number before later a.fourth_number w.fourth;
  }

  pub later_is_whole_but : LaterIsWholeBut K T
  later_is_whole_but p q ns w l = record {
    first = whole-but_follows p.first q.first ns l.first.0 w.first l.first.1;
    second = whole-but_follows p.second q.second ns l.second.0 w.second l.second.1;
    third = whole-but_follows p.third q.third ns l.third.0 w.third l.third.1;
    fourth = whole-but_follows p.fourth q.fourth ns l.fourth.0 w.fourth l.fourth.1;
  }

module _ {K V T : Type 0} (eq : K → K → Bool) (meaning : Meaning K V T) (shard : ShardView T) (pass after : ShardPassView K T) where
  turned : (b : Bool) (steps : List (Step K V)) → MatchBool b (GivesSteps eq meaning shard pass after steps) (after ≡ pass) → (entries : List (Entry K)) × Follows pass after entries
  turned true steps g = later-one eq meaning shard pass after steps g
  turned false steps e = subst (λ (z : ShardPassView K T). (entries : List (Entry K)) × Follows pass z entries) (sym e) (same-later pass)

  same-open : (b : Bool) (keys : List K) → MatchBool b (GivesSteps eq meaning shard pass after (PinAll keys ∷ [])) (after ≡ pass)
      → (key : K) → has_open eq (own_steps meaning shard.tag after) key ≡ has_open eq (own_steps meaning shard.tag pass) key
  same-open true keys g key = g.claims key
  same-open false keys e key = ap (λ (p : ShardPassView K T). has_open eq (own_steps meaning shard.tag p) key) e

-- what a success of pinning several keys leaves
module _ {K V T : Type 0} (eq : K → K → Bool) (laws : IsEquivalence eq) (same : (a b : K) → eq a b ≡ true → a ≡ b) (meaning : Meaning K V T) where
  -- no place of a key is among keys whose shards leave its shard out
  named-none : (under : Opening T) (key : K) → is_in meaning under key ≡ true → (keys : List K) → is_named (shards_of meaning keys) under.shard ≡ false → times_named eq key keys ≡ 0
  named-none under key here [] none = refl
  named-none under key here (x ∷ xs) none =
      (elim (shard_of (meaning.numbers x) == under.shard) as (λ b. is_in meaning under x ≡ b → (b || is_named (shards_of meaning xs) under.shard) ≡ false → one_if (eq key x) + times_named eq key xs ≡ 0) [
        | true ↦ λ t no. cc
        | false ↦ λ f rest. (elim (eq key x) as (λ c. eq key x ≡ c → one_if c + times_named eq key xs ≡ 0) [
          | true ↦ λ e. let no : true ≡ false = sym (subst (λ (k : K). is_in meaning under k ≡ true) (same key x e) here) ∙ f in cc
          | false ↦ λ e. omega (arith, named-none under key here xs rest)
        ]) refl
      ]) refl none

  pinned-one : (shard : ShardView T) (pass after : ShardPassView K T) (keys : List K) (key : K) → is_in meaning shard.tag key ≡ true
      → TurnsWith eq meaning (shards_of meaning keys) shard pass after (PinAll (keys_in meaning shard keys) ∷ [])
      → pins_left eq (own_steps meaning shard.tag after) key ≡ pins_left eq (own_steps meaning shard.tag pass) key + times_named eq key keys
  pinned-one shard pass after keys key here =
      (elim (is_named (shards_of meaning keys) shard.tag.shard) as (λ b. is_named (shards_of meaning keys) shard.tag.shard ≡ b
      → MatchBool b (GivesSteps eq meaning shard pass after (PinAll (keys_in meaning shard keys) ∷ [])) (after ≡ pass)
      → pins_left eq (own_steps meaning shard.tag after) key ≡ pins_left eq (own_steps meaning shard.tag pass) key + times_named eq key keys) [
        | true ↦ λ t g. pin_all_holds eq laws meaning shard pass after (keys_in meaning shard keys) g key ∙ ap (λ (n : ℕ). pins_left eq (own_steps meaning shard.tag pass) key + n) (places_are_in_shard eq laws same meaning shard keys key here)
        | false ↦ λ f is. let none = named-none shard.tag key here keys f in let kept = ap (λ (p : ShardPassView K T). pins_left eq (own_steps meaning shard.tag p) key) is in omega arith
      ]) refl

  pub pinned_all_holds : PinnedAllHolds eq meaning
  pinned_all_holds cache pass after keys pins of p = record {
    later = record {
      first = turned eq meaning cache.shards.first pass.first after.first _ _ p.first;
      second = turned eq meaning cache.shards.second pass.second after.second _ _ p.second;
      third = turned eq meaning cache.shards.third pass.third after.third _ _ p.third;
      fourth = turned eq meaning cache.shards.fourth pass.fourth after.fourth _ _ p.fourth;
    };
    pins = λ key. let n = shard_of (meaning.numbers key) in
        at-each (λ (shard : ShardView T) (q r : ShardPassView K T). is_in meaning shard.tag key ≡ true → pins_left eq (own_steps meaning shard.tag r) key ≡ pins_left eq (own_steps meaning shard.tag q) key + times_named eq key keys) cache.shards pass after
        (λ here. pinned-one cache.shards.first pass.first after.first keys key here p.first)
        (λ here. pinned-one cache.shards.second pass.second after.second keys key here p.second)
        (λ here. pinned-one cache.shards.third pass.third after.third keys key here p.third)
        (λ here. pinned-one cache.shards.fourth pass.fourth after.fourth keys key here p.fourth)
        n (below-four (meaning.numbers key)) (eq-eqb _ _ (sym (at-shard cache.tag cache.shards of n (below-four (meaning.numbers key))).number));
    claims = λ key.
        at-each (λ (shard : ShardView T) (q r : ShardPassView K T). has_open eq (own_steps meaning shard.tag r) key ≡ has_open eq (own_steps meaning shard.tag q) key) cache.shards pass after
        (same-open eq meaning cache.shards.first pass.first after.first _ _ p.first key)
        (same-open eq meaning cache.shards.second pass.second after.second _ _ p.second key)
        (same-open eq meaning cache.shards.third pass.third after.third _ _ p.third key)
        (same-open eq meaning cache.shards.fourth pass.fourth after.fourth _ _ p.fourth key)
        (shard_of (meaning.numbers key)) (below-four (meaning.numbers key));
  }

-- and what a call leaves that gave nothing
module _ {K V T : Type 0} (eq : K → K → Bool) (meaning : Meaning K V T) where
  pub nothing-own : (shard : ShardView T) (pass after : ShardPassView K T) → Follows pass after [] → own_steps meaning shard.tag after ≡ own_steps meaning shard.tag pass
  nothing-own shard pass after f = ap (map (step_of meaning shard.tag)) (f.mine ∙ append-nil (mine pass))

  pub nothing_holds : NothingHolds eq meaning
  nothing_holds cache pass after h =
      let own : (key : K) → let n = shard_of (meaning.numbers key) in own_steps meaning (at cache.shards n).tag (at after n) ≡ own_steps meaning (at cache.shards n).tag (at pass n) = λ key.
      at-each (λ (shard : ShardView T) (q r : ShardPassView K T). own_steps meaning shard.tag r ≡ own_steps meaning shard.tag q) cache.shards pass after
      (nothing-own cache.shards.first pass.first after.first h.first)
      (nothing-own cache.shards.second pass.second after.second h.second)
      (nothing-own cache.shards.third pass.third after.third h.third)
      (nothing-own cache.shards.fourth pass.fourth after.fourth h.fourth)
      (shard_of (meaning.numbers key)) (below-four (meaning.numbers key)) in
      record {
        later = record { first = ([], h.first); second = ([], h.second); third = ([], h.third); fourth = ([], h.fourth) };
        pins = λ key. let kept = ap (λ (l : List (Step K V)). pins_left eq l key) (own key) in omega arith;
        claims = λ key. ap (λ (l : List (Step K V)). has_open eq l key) (own key);
      }
