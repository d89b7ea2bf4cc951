-- Public: shards with the tickets and pins that actors hold in them, and what each step makes of them.
use Rattle.std.specs.Prelude.{ℕ, Bool, List, [], ◌∷◌, ◌++◌, Option, Some, None, slice_index_or, slice_set}
use Rattle.std.specs.List.{remove}
use Rattle.evict_core.specs.Machine.{State, Answer, Hit, Claim, Crowded, Step, Ask, Fill, Fail, Unpin, Limits, ask_answer, state_after}
use Rattle.evict_core.specs.History.{opening}
use Rattle.flight_cache.specs.Meaning.{Meaning, entry_cost}
use Rattle.world_core.specs.declared.holding.Holding.{Holding}

-- what all values are made from besides their keys, the entries of each shard, and the tickets and pins of all actors
pub record ActorCachesView (K V T : Type 0) : Type 0 where
  pub tag : T
  pub shards : List (State K V)
  pub tickets : List (Holding K)
  pub pins : List (Holding K)

-- no shards
abbrev pub no_shards : {K V T : Type 0} → T → ActorCachesView K V T
no_shards tag = record { tag = tag; shards = []; tickets = []; pins = [] }

module _ {K V T : Type 0} where
  -- the entries of a shard. Where there is no such shard there are none
  abbrev pub shard_in : ActorCachesView K V T → ℕ → State K V
  shard_in s n = slice_index_or s.shards n (opening 0 0)

  -- with a shard more, which has no entries
  abbrev pub with_shard : ℕ → ℕ → ActorCachesView K V T → ActorCachesView K V T
  with_shard entries budget s = record s { shards = s.shards ++ opening entries budget ∷ [] }

module _ {K V T : Type 0} (eq : K → K → Bool) where
  -- after a step that the number makes in a shard
  abbrev pub with_step : ℕ → ℕ → Step K V → ActorCachesView K V T → ActorCachesView K V T
  with_step n m step s = record s { shards = slice_set s.shards n (state_after eq (shard_in s n) m step) }

  -- after an ask that was answered so. A hit is a pin, and a claim a ticket; of a key that is being made it is no step
  abbrev pub after_answer : Holding K → Option Answer → ActorCachesView K V T → ActorCachesView K V T
  after_answer h None s = s
  after_answer h (Some Hit) s = record (with_step h.shard h.actor (Ask h.key Hit) s) { pins = s.pins ++ h ∷ [] }
  after_answer h (Some Claim) s = record (with_step h.shard h.actor (Ask h.key Claim) s) { tickets = s.tickets ++ h ∷ [] }
  after_answer h (Some Crowded) s = with_step h.shard h.actor (Ask h.key Crowded) s

  -- what the machine answers an ask
  abbrev pub answer_in : Holding K → ActorCachesView K V T → Option Answer
  answer_in h s = ask_answer eq (shard_in s h.shard) h.key

  abbrev pub asked : Holding K → ActorCachesView K V T → ActorCachesView K V T
  asked h s = after_answer h (answer_in h s) s

  -- The ticket at this place is spent for the key's value, and its actor has a pin of it
  abbrev pub filled : Meaning K V T → ℕ → Holding K → ActorCachesView K V T → ActorCachesView K V T
  filled meaning place h s = let value = meaning.made s.tag h.key in
      record (with_step h.shard h.actor (Fill h.key (entry_cost meaning h.key value) value) s) { tickets = remove s.tickets place; pins = s.pins ++ h ∷ [] }

  -- the ticket at this place is spent for nothing
  abbrev pub failed : ℕ → Holding K → ActorCachesView K V T → ActorCachesView K V T
  failed place h s = record (with_step h.shard h.actor (Fail h.key) s) { tickets = remove s.tickets place }

  -- the pin at this place is given back
  abbrev pub unpinned_at : ℕ → Holding K → ActorCachesView K V T → ActorCachesView K V T
  unpinned_at place h s = record (with_step h.shard h.actor (Unpin h.key) s) { pins = remove s.pins place }

  -- the shard has new limits, which no actor's number needs
  abbrev pub with_limits : ℕ → ℕ → ℕ → ActorCachesView K V T → ActorCachesView K V T
  with_limits n entries budget s = with_step n 0 (Limits entries budget) s
