-- What is held of a shard, given back or with its keys pinned.
use Rattle.std.proofs.Common.{◌≡◌, ℕ, Bool, true, false, List, [], ◌∷◌, ◌++◌, Some, None, refl, sym, ap, ◌∙◌, subst, le_refl}
use Rattle.std.specs.Bool.{MatchBool}
use Rattle.std.specs.Cmp.{IsEquivalence}
use Rattle.std.specs.declared.snapshot.Snapshot.{Snapshot}
use Rattle.std.specs.Global.{Vec}
use Rattle.std.proofs.lemmas.List.Elements.{filter_passes}
use Rattle.turn_cell.specs.History.{History}
use Rattle.turn_cell.specs.Passes.{IsOf, Follows}
use Rattle.turn_cell.proofs.Passes.{Follows_same}
use Rattle.evict_core.specs.Machine.{State, Step, HitsEach, hit_all}
use Rattle.evict_core.specs.Machine as machine
use Rattle.evict_core.specs.Laws.{ArePinnable}
use Rattle.evict_core.proofs.PinAllLemmas.{each-is-pinnable}
use Rattle.flight_cache.specs.Meaning.{Meaning}
use Rattle.flight_cache.specs.Histories.{is_in, steps_in, Stands}
use Rattle.flight_cache.specs.Calls.{ShardView, ShardPassView, GivesSteps}
use Rattle.flight_cache.specs.Pinning.{keys_in, TurnsWith, StopsBefore}
use Rattle.flight_cache.specs.Holds.{pass_back, IsHeld, IsHoldOf, CanPin, IsPassPinned}
use Rattle.flight_cache.specs.declared.kept.Kept.{Kept}
use Rattle.flight_cache.specs.declared.kept.Entry.{Entry}
use Rattle.flight_cache.specs.declared.kept.Entry.TheVariants.{PinAll}
use Rattle.flight_cache.specs.declared.holds.Hold.{Hold}
use Rattle.flight_cache.specs.declared.holds.Hold.TheVariants.{Turn, Pass}
use Rattle.flight_cache.proofs.Standing.{stands-step, gives-turn}
use Rattle.flight_cache.proofs.Asking.{gives-nothing}

module _ {M K V T : Type 0} (eq : K → K → Bool) (laws : IsEquivalence eq) (same : (a b : K) → eq a b ≡ true → a ≡ b) (meaning : Meaning K V T) (shard : ShardView T) where
  -- the keys of the shard can be hit one after another where each can be pinned
  pub hits-of : (kept : Kept M K V T) (history : History (Entry K)) → Stands eq meaning shard.tag kept history → (keys : List K) → ArePinnable eq kept.entries (keys_in meaning shard keys) → HitsEach eq kept.entries (keys_in meaning shard keys)
  hits-of kept history s keys all =
      subst (λ (z : State K V). HitsEach eq z (keys_in meaning shard keys)) (sym s.entries)
      ((each-is-pinnable V eq laws shard.tag.entries shard.tag.budget (steps_in meaning shard.tag history) s.legal.legal (keys_in meaning shard keys)).1
      (subst (λ (z : State K V). ArePinnable eq z (keys_in meaning shard keys)) s.entries all))

  -- the turn with its keys pinned stands for one entry more
  pub stands-pinned : (kept new : Kept M K V T) (history : History (Entry K)) (n : ℕ) (ks : Snapshot (Vec K)) (keys : List K) → ks.value.items ≡ keys
      → Stands eq meaning shard.tag kept history → ArePinnable eq kept.entries (keys_in meaning shard keys)
      → new.entries ≡ hit_all eq kept.entries (keys_in meaning shard keys)
      → Stands eq meaning shard.tag new (history ++ (n, PinAll ks) ∷ [])
  stands-pinned kept new history n ks keys of s all is =
      stands-step meaning shard.tag eq laws same kept new history n (PinAll ks) s
      (subst (λ (l : List K). HitsEach eq kept.entries (keys_in meaning shard l)) (sym of) (hits-of kept history s keys all))
      (filter_passes (is_in meaning shard.tag) ks.value.items)
      tt
      (is ∙ ap (λ (l : List K). hit_all eq kept.entries (keys_in meaning shard l)) (sym of))

  module _ (shards : List ℕ) (pass : ShardPassView K T) where
    -- what is held may be given back
    pub held-of : IsOf shard pass → (hold : Hold M K V T) → IsHoldOf eq meaning shards shard pass hold → IsHeld eq meaning shard hold
    held-of of (Turn turn) h = (subst (λ (p : ShardPassView K T). IsOf shard p) (sym h.1.taken) (record { id = of.id; tagged = of.tagged }), h.1.value)
    held-of of (Pass p) h = tt

    -- given back without an entry
    pub back-turns : (hold : Hold M K V T) → IsHoldOf eq meaning shards shard pass hold → TurnsWith eq meaning shards shard pass (pass_back hold) []
    back-turns (Turn turn) h = subst (λ (b : Bool). MatchBool b (GivesSteps eq meaning shard pass (record turn.pass { seen = turn.list }) []) (record turn.pass { seen = turn.list } ≡ pass)) (sym h.0)
        (gives-turn meaning shard.tag eq laws same pass turn (record { lost = pass.lost; more = le_refl pass.lost; turn_of = h.1 }) shard (record turn.pass { seen = turn.list }) None refl h.2 h.1.value.legal refl)
    back-turns (Pass p) h = subst (λ (b : Bool). MatchBool b (GivesSteps eq meaning shard pass p []) (p ≡ pass)) (sym h.0) h.1

    pub back-follows : (hold : Hold M K V T) → IsHoldOf eq meaning shards shard pass hold → Follows pass (pass_back hold) []
    back-follows (Turn turn) h = gives-nothing eq meaning shard pass (record turn.pass { seen = turn.list })
        (gives-turn meaning shard.tag eq laws same pass turn (record { lost = pass.lost; more = le_refl pass.lost; turn_of = h.1 }) shard (record turn.pass { seen = turn.list }) None refl h.2 h.1.value.legal refl)
    back-follows (Pass p) h = subst (λ (z : ShardPassView K T). Follows pass z []) (sym h.1) (Follows_same pass)

    -- what the turn showed, where the keys before a place could be pinned
    pub back-stops : (hold : Hold M K V T) (keys : List K) → IsHoldOf eq meaning shards shard pass hold → CanPin eq meaning shard keys hold → StopsBefore eq meaning shards shard pass (pass_back hold) keys
    back-stops (Turn turn) keys h can = record {
      turn = back-turns (Turn turn) h;
      before = λ named. subst (λ (z : State K V). ArePinnable eq z (keys_in meaning shard keys)) h.1.value.entries can;
    }
    back-stops (Pass p) keys h can = record {
      turn = back-turns (Pass p) h;
      before = λ named. let no : true ≡ false = sym named ∙ h.0 in cc;
    }

    -- with the keys pinned
    pub pinned-turns : (hold : Hold M K V T) (keys : List K) (after : ShardPassView K T) → IsHoldOf eq meaning shards shard pass hold → IsPassPinned eq meaning shard keys hold after
        → TurnsWith eq meaning shards shard pass after (machine.PinAll (keys_in meaning shard keys) ∷ [])
    pinned-turns (Turn turn) keys after h p =
        let gives = gives-turn meaning shard.tag eq laws same pass turn (record { lost = pass.lost; more = le_refl pass.lost; turn_of = h.1 }) shard after (Some (PinAll p.0)) refl h.2 p.3 p.2 in
        subst (λ (b : Bool). MatchBool b (GivesSteps eq meaning shard pass after (machine.PinAll (keys_in meaning shard keys) ∷ [])) (after ≡ pass)) (sym h.0)
        (subst (λ (l : List K). GivesSteps eq meaning shard pass after (machine.PinAll (keys_in meaning shard l) ∷ [])) p.1 gives)
    pinned-turns (Pass p) keys after h is =
        subst (λ (b : Bool). MatchBool b (GivesSteps eq meaning shard pass after (machine.PinAll (keys_in meaning shard keys) ∷ [])) (after ≡ pass)) (sym h.0) (is ∙ h.1)
