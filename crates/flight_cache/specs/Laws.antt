-- Public: what holds of every history that a shard can have, of entries that stand for one, and what calls make of a pass.
use Rattle.std.specs.Prelude.{◌≡◌, ℕ, ◌+◌, ◌*◌, ◌<◌, ◌≤◌, Bool, true, false, ◌⊎◌, ◌↔◌, List, [], ◌∷◌, ◌++◌, length, map, Option, Some, None, All, Contains}
use Rattle.turn_cell.specs.History.{History, IsBelow, entries_of, numbers_of}
use Rattle.turn_cell.specs.Passes.{Follows, Extends, IsWholePass, IsWholeBut, first_pass, split_pass, new_pass, joined_pass}
use Rattle.evict_core.specs.Machine.{Answer, Hit, Claim, Ask, ask_answer, PinAll, Fill, Fail, Spill, Unpin, Limits, Hard, can_fill, Step, Ready, unpinned, pinned, flying, has_idle, maker_in, pins_in, status_of}
use Rattle.evict_core.specs.declared.hard_limit.HardLimit.{HardLimit}
use Rattle.evict_core.specs.History.{replay, pins_taken, pins_given, pins_left, held_below, has_open, times_named, is_evicted}
use Rattle.evict_core.specs.Laws.{IsLostWithin, IsEvictedWithin}
use Rattle.flight_cache.specs.Meaning.{Meaning, shard_of}
use Rattle.flight_cache.specs.Histories.{is_in, step_of, steps_in, IsLegalUnder, left_by, AreMade, Stands}
use Rattle.flight_cache.specs.Calls.{PinView, ShardView, ShardPassView, GivesSteps, HasGivenBack, own_steps}
use Rattle.flight_cache.specs.Shards.{Shards, CacheView, CachePassView, IsCacheOf, AreShardsOf, AreAlike, EachGives, EachHasGivenBack, EachExtends, HasNothing, at, with_at, each, both, part}
use Rattle.flight_cache.specs.Pinning.{keys_in, GivesNothing, IsPinnedAll, IsRefused}
use Rattle.flight_cache.specs.declared.kept.Opening.{Opening}
use Rattle.flight_cache.specs.declared.kept.Kept.{Kept}
use Rattle.flight_cache.specs.declared.kept.Entry.{Entry}
use Rattle.flight_cache.specs.declared.pinning.PinRefusal.{PinRefusal}
use Rattle.flight_cache.specs.declared.pinning.PinRefusal.TheVariants.{OutOfMemory}

module _ {K V T : Type 0} (M : Type 0) (eq : K → K → Bool) (meaning : Meaning K V T) where
  -- the entries that no pin holds cost at most the budget
  abbrev pub ShardsStayInBudget : Type 0
  ShardsStayInBudget = (opening : Opening T) (kept : Kept M K V T) (history : History (Entry K)) → Stands eq meaning opening kept history
      → unpinned kept.entries.entries ≤ kept.entries.budget

  -- where the list is longer than its limit, no entry may be evicted
  abbrev pub ShardsStayInLimit : Type 0
  ShardsStayInLimit = (opening : Opening T) (kept : Kept M K V T) (history : History (Entry K)) → Stands eq meaning opening kept history
      → kept.entries.limit < length kept.entries.entries → has_idle kept.entries.entries ≡ false

  -- where a hard limit is set, no pinned, unpinned and unmade values pass it together
  abbrev pub ShardsStayInHardLimit : Type 0
  ShardsStayInHardLimit = (opening : Opening T) (kept : Kept M K V T) (history : History (Entry K)) → Stands eq meaning opening kept history
      → (hard : HardLimit) → kept.entries.hard ≡ Some hard
      → unpinned kept.entries.entries + pinned kept.entries.entries + hard.making * flying kept.entries.entries ≤ hard.cost

module _ {K V T : Type 0} (eq : K → K → Bool) (meaning : Meaning K V T) where
  -- between two claims of a key stands its fail or an eviction of it
  abbrev pub ShardsClaimOnce : Type 0
  ShardsClaimOnce = (opening : Opening T) (history : History (Entry K)) → IsLegalUnder eq meaning opening history
      → (before between later : History (Step K V)) (m n : ℕ) (key : K)
      → steps_in meaning opening history ≡ before ++ (m, Ask key Claim) ∷ (between ++ (n, Ask key Claim) ∷ later)
      → IsLostWithin eq (replay eq opening.entries opening.budget (before ++ (m, Ask key Claim) ∷ [])) between key

  -- between two fills of a key stands an eviction of it
  abbrev pub ShardsFillOnce : Type 0
  ShardsFillOnce = (opening : Opening T) (history : History (Entry K)) → IsLegalUnder eq meaning opening history
      → (before between later : History (Step K V)) (m n : ℕ) (key : K) (c d : ℕ) (v w : V)
      → steps_in meaning opening history ≡ before ++ (m, Fill key c v) ∷ (between ++ (n, Fill key d w) ∷ later)
      → IsEvictedWithin eq (replay eq opening.entries opening.budget (before ++ (m, Fill key c v) ∷ [])) between key

  -- each ready value is that of its key
  abbrev pub ReadyAreMade : Type 0
  ReadyAreMade = (opening : Opening T) (history : History (Entry K)) → IsLegalUnder eq meaning opening history → AreMade eq meaning opening (left_by eq meaning opening history)

  -- a number makes a key exactly where its own claim is open
  abbrev pub FliesWhereOpen : Type 0
  FliesWhereOpen = (opening : Opening T) (history : History (Entry K)) → IsLegalUnder eq meaning opening history
      → (m : ℕ) (key : K) → (maker_in (status_of eq (left_by eq meaning opening history) key) ≡ Some m) ↔ (has_open eq (map (step_of meaning opening) (entries_of m history)) key ≡ true)

  -- the pins of a key are those that all numbers hold
  abbrev pub ShardPinsAreHeld : Type 0
  ShardPinsAreHeld = (opening : Opening T) (history : History (Entry K)) → IsLegalUnder eq meaning opening history
      → (n : ℕ) → IsBelow n history → (key : K) → pins_in (status_of eq (left_by eq meaning opening history) key) ≡ held_below eq (steps_in meaning opening history) n key

  -- no entry evicts a key that a number holds
  abbrev pub ShardsKeepHeld : Type 0
  ShardsKeepHeld = (opening : Opening T) (history : History (Entry K)) (e : ℕ × Entry K) → IsLegalUnder eq meaning opening (history ++ e ∷ [])
      → (key : K) → is_evicted eq (left_by eq meaning opening history) (e.0, step_of meaning opening e.1) key ≡ true
      → (m : ℕ) → pins_left eq (map (step_of meaning opening) (entries_of m (history ++ e ∷ []))) key ≡ 0

  -- the entries of the history that no pin holds cost at most the budget
  abbrev pub HistoryInBudget : Type 0
  HistoryInBudget = (opening : Opening T) (history : History (Entry K)) → IsLegalUnder eq meaning opening history
      → unpinned (left_by eq meaning opening history).entries ≤ (left_by eq meaning opening history).budget

  abbrev pub HistoryInHardLimit : Type 0
  HistoryInHardLimit = (opening : Opening T) (history : History (Entry K)) → IsLegalUnder eq meaning opening history
      → (hard : HardLimit) → (left_by eq meaning opening history).hard ≡ Some hard
      → unpinned (left_by eq meaning opening history).entries + pinned (left_by eq meaning opening history).entries + hard.making * flying (left_by eq meaning opening history).entries ≤ hard.cost

  -- an entry that no pin holds costs at most the budget: what costs more is never kept unpinned
  abbrev pub IdleInBudget : Type 0
  IdleInBudget = (opening : Opening T) (history : History (Entry K)) → IsLegalUnder eq meaning opening history
      → (key : K) (cost : ℕ) (value : V) → status_of eq (left_by eq meaning opening history) key ≡ Some (Ready 0 cost value)
      → cost ≤ (left_by eq meaning opening history).budget

  abbrev pub HistoryInLimit : Type 0
  HistoryInLimit = (opening : Opening T) (history : History (Entry K)) → IsLegalUnder eq meaning opening history
      → (left_by eq meaning opening history).limit < length (left_by eq meaning opening history).entries → has_idle (left_by eq meaning opening history).entries ≡ false

-- the step sets no limits
abbrev pub SetsNoLimits : {K V : Type 0} → Step K V → Type 0
SetsNoLimits (Ask key answer) = Unit {0}
SetsNoLimits (PinAll keys) = Unit {0}
SetsNoLimits (Fill key cost value) = Unit {0}
SetsNoLimits (Fail key) = Unit {0}
SetsNoLimits (Spill key cost) = Unit {0}
SetsNoLimits (Unpin key) = Unit {0}
SetsNoLimits (Limits entries budget) = ⊥
SetsNoLimits (Hard hard) = Unit {0}

-- the step sets no hard limit
abbrev pub SetsNoHard : {K V : Type 0} → Step K V → Type 0
SetsNoHard (Ask key answer) = Unit {0}
SetsNoHard (PinAll keys) = Unit {0}
SetsNoHard (Fill key cost value) = Unit {0}
SetsNoHard (Fail key) = Unit {0}
SetsNoHard (Spill key cost) = Unit {0}
SetsNoHard (Unpin key) = Unit {0}
SetsNoHard (Limits entries budget) = Unit {0}
SetsNoHard (Hard hard) = ⊥

module _ {K V T : Type 0} (eq : K → K → Bool) (meaning : Meaning K V T) where
  -- the limits that a history leaves are those of the opening where no step of it sets any
  abbrev pub LimitsAreOpened : Type 0
  LimitsAreOpened = (opening : Opening T) (history : History (Entry K)) → All (λ e. SetsNoLimits e.1) (steps_in meaning opening history)
      → ((left_by eq meaning opening history).limit ≡ opening.entries) × ((left_by eq meaning opening history).budget ≡ opening.budget)

  -- and else those of the last step that does
  abbrev pub LimitsAreSet : Type 0
  LimitsAreSet = (opening : Opening T) (history : History (Entry K)) (before later : History (Step K V)) (m entries budget : ℕ)
      → steps_in meaning opening history ≡ before ++ (m, Limits entries budget) ∷ later → All (λ e. SetsNoLimits e.1) later
      → ((left_by eq meaning opening history).limit ≡ entries) × ((left_by eq meaning opening history).budget ≡ budget)

module _ {K V T : Type 0} (eq : K → K → Bool) (meaning : Meaning K V T) where
  -- there is no hard limit where no step of the history sets one
  abbrev pub HardIsUnset : Type 0
  HardIsUnset = (opening : Opening T) (history : History (Entry K)) → All (λ e. SetsNoHard e.1) (steps_in meaning opening history)
      → (left_by eq meaning opening history).hard ≡ None

  -- and else that of the last step that does
  abbrev pub HardIsSet : Type 0
  HardIsSet = (opening : Opening T) (history : History (Entry K)) (before later : History (Step K V)) (m : ℕ) (hard : Option HardLimit)
      → steps_in meaning opening history ≡ before ++ (m, Hard hard) ∷ later → All (λ e. SetsNoHard e.1) later
      → (left_by eq meaning opening history).hard ≡ hard

  -- so where none was set no value is spilled
  abbrev pub NoneIsSpilled : Type 0
  NoneIsSpilled = (opening : Opening T) (before later : History (Entry K)) (e : ℕ × Entry K) (key : K) (cost : ℕ) → IsLegalUnder eq meaning opening (before ++ e ∷ later)
      → step_of meaning opening e.1 ≡ Spill key cost → ¬ All (λ e. SetsNoHard e.1) (steps_in meaning opening before)

  -- a value is spilled where the hard limit has no room for its fill
  abbrev pub SpillsHaveNoRoom : Type 0
  SpillsHaveNoRoom = (shard : ShardView T) (pass after : ShardPassView K T) (key : K) (cost : ℕ) → (gives : GivesSteps eq meaning shard pass after (Spill key cost ∷ []))
      → can_fill (left_by eq meaning shard.tag gives.takes.list) cost ≡ false

-- the parts of a limit are the whole
abbrev pub PartsAddUp : Type 0
PartsAddUp = (limit : ℕ) → part limit 0 + part limit 1 + part limit 2 + part limit 3 ≡ limit

module _ {K V T : Type 0} (eq : K → K → Bool) (meaning : Meaning K V T) where
  -- a hit and a fill are a pin more of the key, a fill closes its claim, an unpin is a pin less, and a pin-all a pin more for each place
  abbrev pub HitHolds : Type 0
  HitHolds = (shard : ShardView T) (pass after : ShardPassView K T) (key : K) → GivesSteps eq meaning shard pass after (Ask key Hit ∷ [])
      → pins_left eq (own_steps meaning shard.tag after) key ≡ pins_left eq (own_steps meaning shard.tag pass) key + 1

  abbrev pub FillHolds : Type 0
  FillHolds = (shard : ShardView T) (pass after : ShardPassView K T) (key : K) (cost : ℕ) (value : V) → GivesSteps eq meaning shard pass after (Fill key cost value ∷ [])
      → (pins_left eq (own_steps meaning shard.tag after) key ≡ pins_left eq (own_steps meaning shard.tag pass) key + 1) × (has_open eq (own_steps meaning shard.tag after) key ≡ false)

  abbrev pub UnpinGives : Type 0
  UnpinGives = (shard : ShardView T) (pass after : ShardPassView K T) (key : K) → GivesSteps eq meaning shard pass after (Unpin key ∷ [])
      → pins_left eq (own_steps meaning shard.tag after) key + 1 ≡ pins_left eq (own_steps meaning shard.tag pass) key

  abbrev pub PinAllHolds : Type 0
  PinAllHolds = (shard : ShardView T) (pass after : ShardPassView K T) (keys : List K) → GivesSteps eq meaning shard pass after (PinAll keys ∷ [])
      → (key : K) → pins_left eq (own_steps meaning shard.tag after) key ≡ pins_left eq (own_steps meaning shard.tag pass) key + times_named eq key keys

  -- the places of a key among those of its shard are its places among all
  abbrev pub PlacesAreInShard : Type 0
  PlacesAreInShard = (shard : ShardView T) (keys : List K) (key : K) → is_in meaning shard.tag key ≡ true
      → times_named eq key (keys_in meaning shard keys) ≡ times_named eq key keys

  -- a pass that gave nothing has nothing to give back
  abbrev pub NothingIsGivenBack : Type 0
  NothingIsGivenBack = (shards : Shards (ShardView T)) (pass : CachePassView K T) → HasNothing meaning shards pass → EachHasGivenBack eq meaning shards pass

  -- a pass that has nothing to give back has nothing again after steps that give back what they take
  abbrev pub GivenBackAgain : Type 0
  GivenBackAgain = (shard : ShardView T) (pass after : ShardPassView K T) (steps : List (Step K V)) → HasGivenBack eq meaning shard pass
      → own_steps meaning shard.tag after ≡ own_steps meaning shard.tag pass ++ steps
      → ((key : K) → pins_taken eq steps key ≤ pins_given eq steps key) → ((key : K) → has_open eq steps key ≡ false)
      → HasGivenBack eq meaning shard after

  -- calls on one shard, after which its pass has nothing to give back
  abbrev pub OneGivesBack : Type 0
  OneGivesBack = (shards : Shards (ShardView T)) (pass after : CachePassView K T) (n : ℕ) → EachHasGivenBack eq meaning shards pass → after ≡ with_at pass n (at after n)
      → HasGivenBack eq meaning (at shards n) (at after n) → EachHasGivenBack eq meaning shards after

  -- after a claim the key is open
  abbrev pub ClaimOpens : Type 0
  ClaimOpens = (shard : ShardView T) (pass after : ShardPassView K T) (key : K) → GivesSteps eq meaning shard pass after (Ask key Claim ∷ [])
      → has_open eq (own_steps meaning shard.tag after) key ≡ true

module _ {K T : Type 0} where
  -- each shard's pass after calls that neither split nor join
  pub record IsLater (pass after : CachePassView K T) : Type 0 where
    pub first : (entries : List (Entry K)) × Follows pass.first after.first entries
    pub second : (entries : List (Entry K)) × Follows pass.second after.second entries
    pub third : (entries : List (Entry K)) × Follows pass.third after.third entries
    pub fourth : (entries : List (Entry K)) × Follows pass.fourth after.fourth entries

  -- each pass that was split off is joined again, in each shard
  pub record IsWhole (pass : CachePassView K T) : Type 0 where
    pub first : IsWholePass pass.first
    pub second : IsWholePass pass.second
    pub third : IsWholePass pass.third
    pub fourth : IsWholePass pass.fourth

  -- the same, but for these numbers of passes that are not joined yet
  pub record EachIsWholeBut (pass : CachePassView K T) (numbers : List ℕ) : Type 0 where
    pub first : IsWholeBut pass.first numbers
    pub second : IsWholeBut pass.second numbers
    pub third : IsWholeBut pass.third numbers
    pub fourth : IsWholeBut pass.fourth numbers

  -- what a shard's pass has seen was given by the number 0 or by one of a joined pass
  abbrev pub IsOfFamily : ShardPassView K T → Type 0
  IsOfFamily pass = All (λ e. (e.0 ≡ 0) ⊎ Contains (numbers_of pass.past) e.0) pass.seen

  pub record EachOfFamily (pass : CachePassView K T) : Type 0 where
    pub first : IsOfFamily pass.first
    pub second : IsOfFamily pass.second
    pub third : IsOfFamily pass.third
    pub fourth : IsOfFamily pass.fourth

module _ (K T : Type 0) where
  -- a call on one shard, and calls in a row
  abbrev pub CallIsLater : Type 0
  CallIsLater = (pass after : CachePassView K T) (n : ℕ) (entries : List (Entry K)) → Follows (at pass n) (at after n) entries → after ≡ with_at pass n (at after n) → IsLater pass after

  abbrev pub LaterIsLater : Type 0
  LaterIsLater = (p q r : CachePassView K T) → IsLater p q → IsLater q r → IsLater p r

  -- a pass stays one of its cache
  abbrev pub StaysOfCache : Type 0
  StaysOfCache = (cache : CacheView T) (pass after : CachePassView K T) → IsCacheOf cache pass → IsLater pass after → IsCacheOf cache after

  -- the first pass is whole, and is so after calls, and again once a pass that was split off is joined
  abbrev pub FirstIsWhole : Type 0
  FirstIsWhole = (shards : Shards (ShardView T)) → IsWhole {K = K} (each first_pass shards)

  abbrev pub StaysWhole : Type 0
  StaysWhole = (pass after : CachePassView K T) → IsWhole pass → IsLater pass after → IsWhole after

  abbrev pub JoinedIsWhole : Type 0
  JoinedIsWhole = (pass one other : CachePassView K T) → IsWhole pass → IsLater (each split_pass pass) one → IsLater (each new_pass pass) other → IsWhole (both joined_pass one other)

  -- several passes may be out at once: a split has one number more that isn't joined, a join one less, and calls that do neither as many
  abbrev pub WholeButNone : Type 0
  WholeButNone = (pass : CachePassView K T) → IsWhole pass ↔ EachIsWholeBut pass []

  abbrev pub SplitIsWholeBut : Type 0
  SplitIsWholeBut = (pass : CachePassView K T) (numbers : List ℕ) → AreAlike pass → EachIsWholeBut pass numbers → EachIsWholeBut (each split_pass pass) (pass.first.next ∷ numbers)

  abbrev pub JoinIsWholeBut : Type 0
  JoinIsWholeBut = (pass other : CachePassView K T) (before later : List ℕ) → AreAlike other → EachIsWholeBut pass (before ++ other.first.number ∷ later) → EachIsWholeBut (both joined_pass pass other) (before ++ later)

  abbrev pub LaterIsWholeBut : Type 0
  LaterIsWholeBut = (pass after : CachePassView K T) (numbers : List ℕ) → EachIsWholeBut pass numbers → IsLater pass after → EachIsWholeBut after numbers

  -- a whole pass knows that every entry that it has seen is of its own family
  abbrev pub WholeKnowsAll : Type 0
  WholeKnowsAll = (pass : CachePassView K T) → IsWhole pass → (each (λ p. p.number) pass ≡ record { first = 0; second = 0; third = 0; fourth = 0 }) → EachExtends pass → EachOfFamily pass

module _ {K V T : Type 0} (eq : K → K → Bool) (meaning : Meaning K V T) where
  -- a call that gives steps gave the entries of these steps
  abbrev pub GivesFollow : Type 0
  GivesFollow = (shard : ShardView T) (pass after : ShardPassView K T) (steps : List (Step K V)) → GivesSteps eq meaning shard pass after steps
      → (entries : List (Entry K)) × Follows pass after entries × (map (step_of meaning shard.tag) entries ≡ steps)

  -- the steps of the pass are those that it had, and then these
  abbrev pub GivesOwnSteps : Type 0
  GivesOwnSteps = (shard : ShardView T) (pass after : ShardPassView K T) (steps : List (Step K V)) → GivesSteps eq meaning shard pass after steps
      → own_steps meaning shard.tag after ≡ own_steps meaning shard.tag pass ++ steps

  -- an ask was answered as the machine answers in the state that the turn showed
  abbrev pub AskIsAnswered : Type 0
  AskIsAnswered = (shard : ShardView T) (pass after : ShardPassView K T) (key : K) (answer : Answer) → (gives : GivesSteps eq meaning shard pass after (Ask key answer ∷ []))
      → ask_answer eq (left_by eq meaning shard.tag gives.takes.list) key ≡ Some answer

  abbrev pub EachIsLater : Type 0
  EachIsLater = (shards : Shards (ShardView T)) (pass after : CachePassView K T) (steps : ℕ → List (Step K V)) → EachGives eq meaning shards pass after steps → IsLater pass after

  -- what the first pass has seen extends it after a turn
  abbrev pub GivesItself : Type 0
  GivesItself = (shard : ShardView T) (pass after : ShardPassView K T) (steps : List (Step K V)) → pass.number ≡ 0 → 0 < pass.next → GivesSteps eq meaning shard pass after steps → Extends after after.seen

module _ {K V T : Type 0} (eq : K → K → Bool) (meaning : Meaning K V T) where
  -- a later pass, which holds a pin more of each key for each place that it has among these, and has the same claims open
  pub record HoldsEachMore (cache : CacheView T) (pass after : CachePassView K T) (keys : List K) : Type 0 where
    pub later : IsLater pass after
    pub pins : (key : K) → let n = shard_of (meaning.numbers key) in
        pins_left eq (own_steps meaning (at cache.shards n).tag (at after n)) key ≡ pins_left eq (own_steps meaning (at cache.shards n).tag (at pass n)) key + times_named eq key keys
    pub claims : (key : K) → let n = shard_of (meaning.numbers key) in
        has_open eq (own_steps meaning (at cache.shards n).tag (at after n)) key ≡ has_open eq (own_steps meaning (at cache.shards n).tag (at pass n)) key

  -- a success of pinning several keys is a pin more for each place of a key
  abbrev pub PinnedAllHolds : Type 0
  PinnedAllHolds = (cache : CacheView T) (pass after : CachePassView K T) (keys : List K) (pins : List (PinView K V)) → AreShardsOf cache.tag cache.shards
      → IsPinnedAll eq meaning cache pass keys after pins → HoldsEachMore cache pass after keys

  -- a pass that gave nothing holds what it held
  abbrev pub NothingHolds : Type 0
  NothingHolds = (cache : CacheView T) (pass after : CachePassView K T) → GivesNothing pass after → HoldsEachMore cache pass after []

  -- a refusal of pinning several keys is for one cause, where it isn't for lack of memory
  abbrev pub RefusedForOneCause : Type 0
  RefusedForOneCause = (cache : CacheView T) (pass after : CachePassView K T) (keys : List K) (one other : PinRefusal) → AreShardsOf cache.tag cache.shards
      → ¬ (one ≡ OutOfMemory) → ¬ (other ≡ OutOfMemory)
      → IsRefused eq meaning cache pass keys after one → IsRefused eq meaning cache pass keys after other → one ≡ other
