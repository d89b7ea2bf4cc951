-- Public: what holds after every list of steps, and that the order in which chunks came isn't seen.
use Rattle.std.specs.Prelude.{◌≡◌, ◌↔◌, ◌≤◌, ◌<◌, ℕ, false, List, ◌++◌, fold, length, Some, is_some, take}
use Rattle.ass_script.specs.Scripts.{ScriptValue}
use Rattle.ass_events.specs.Histories.{Entry, HaveOwnOrders, after, live, max_live}
use Rattle.ass_events.specs.declared.event.Event.{Event}
use Rattle.bdf_font.specs.Fonts.{FontValue}
use Rattle.evict_core.specs.Asked.{ready_value}
use Rattle.evict_core.specs.History.{one_if}
use Rattle.evict_core.specs.Machine.{has_idle, maker_in, pins_in, status_of, unpinned}
use Rattle.flight_cache.specs.Meaning.{Meaning}
use Rattle.picture_plan.specs.Pictures.{HaveSameEvents}
use Rattle.world_core.specs.Caches.{ActorCachesView, shard_in}
use Rattle.world_core.specs.Holdings.{count_all, count_held}
use Rattle.world_core.specs.CacheLaws.{HaveHistories}
use Rattle.world_core.specs.Keys.{equal_world_keys}
use Rattle.world_core.specs.Replies.{IsPictureShown}
use Rattle.world_core.specs.States.{LookState, WorldState}
use Rattle.world_core.specs.Steps.{after_steps}
use Rattle.world_core.specs.Tellings.{WorldTag}
use Rattle.world_core.specs.declared.world_keys.WorldKey.{WorldKey}
use Rattle.world_core.specs.declared.world_keys.WorldValue.{WorldValue}
use Rattle.world_core.specs.declared.steps.Step.{Step}

module _ {T : Type 0} (meaning : Meaning WorldKey WorldValue T) where
  -- Each shard has a legal history, of which the single-fill law speaks; it is within its budget and its limit; a key that is being made has one ticket, its maker's, and no other key has any;
  -- the pins of a key are those that actors have; and what an actor holds is there, with the value of its key
  pub record KeepsLaws (caches : ActorCachesView WorldKey WorldValue T) : Type 0 where
    pub legal : HaveHistories equal_world_keys meaning caches
    pub budget : (n : ℕ) → unpinned (shard_in caches n).entries ≤ (shard_in caches n).budget
    pub limit : (n : ℕ) → (shard_in caches n).limit < length (shard_in caches n).entries → has_idle (shard_in caches n).entries ≡ false
    pub tickets : (n : ℕ) (key : WorldKey) → count_all equal_world_keys n key caches.tickets ≡ one_if (is_some (maker_in (status_of equal_world_keys (shard_in caches n) key)))
    pub makers : (actor n : ℕ) (key : WorldKey) → (maker_in (status_of equal_world_keys (shard_in caches n) key) ≡ Some actor) ↔ (count_held equal_world_keys actor n key caches.tickets ≡ 1)
    pub pins : (n : ℕ) (key : WorldKey) → count_all equal_world_keys n key caches.pins ≡ pins_in (status_of equal_world_keys (shard_in caches n) key)
    pub held : (actor n : ℕ) (key : WorldKey) → 1 ≤ count_held equal_world_keys actor n key caches.pins
        → ready_value (status_of equal_world_keys (shard_in caches n) key) ≡ Some (meaning.made caches.tag key)

  -- so it is after so many of the steps
  abbrev pub KeepsLawsFor : WorldState T → List Step → ℕ → Type 0
  KeepsLawsFor s steps k = KeepsLaws (after_steps meaning s (take k steps)).caches

-- the history after these events were offered, one after another
abbrev pub after_all : List Entry → List Event → List Entry
after_all history events = fold after history events

-- they have different ReadOrders, none of which a live event has, and there is room for all of them
abbrev pub AreNewTo : List Entry → List Event → Type 0
AreNewTo history events = HaveOwnOrders (live history ++ events) × (length (live history ++ events) ≤ max_live)

-- in whatever order such events are offered where the same events are live, the same are live then
abbrev pub LiveInAnyOrder : Type 0
LiveInAnyOrder = (history other : List Entry) (a b : List Event) → HaveSameEvents (live history) (live other) → HaveSameEvents a b → AreNewTo history a → AreNewTo other b
    → HaveSameEvents (live (after_all history a)) (live (after_all other b))

-- two looks at the same events, at the same instant and in the same size
pub record SeeTheSame (a b : LookState) : Type 0 where
  pub events : HaveSameEvents (live a.history) (live b.history)
  pub instant : a.instant ≡ b.instant
  pub size : a.size ≡ b.size

-- what they show is the same, whoever shows it and whatever the caches keep
abbrev pub ShowTheSame : ScriptValue → List FontValue → Type 0
ShowTheSame script fonts =
    (caches others : ActorCachesView WorldKey WorldValue WorldTag) (actor other : ℕ) (a b : LookState) (n m : ℕ) (bytes pixels : List ℕ) → SeeTheSame a b
    → IsPictureShown script fonts caches actor a n bytes → IsPictureShown script fonts others other b m pixels → bytes ≡ pixels
