-- An ask that tries more than once.
use Rattle.std.proofs.Common.{◌≡◌, ◌+◌, ◌⊎◌, ⊎_elim, inr, Bool, List, [], ◌∷◌, map, Some, None, refl, sym, ap, ◌∙◌, subst}
use mathlib.Core.List.{append-nil}
use Rattle.turn_cell.specs.History.{entry_list}
use Rattle.turn_cell.specs.Passes.{Follows, mine}
use Rattle.turn_cell.proofs.Passes.{Follows_same, Follows_trans}
use Rattle.evict_core.specs.Machine.{Step}
use Rattle.evict_core.specs.History.{pins_taken, pins_left, is_open_in, has_open}
use Rattle.flight_cache.specs.Meaning.{Meaning}
use Rattle.flight_cache.specs.Histories.{step_of}
use Rattle.flight_cache.specs.Calls.{ShardView, ShardPassView, GivesSteps, own_steps}
use Rattle.flight_cache.specs.Answers.{IsAsked, IsAskedAtTurn, IsShortAsk}
use Rattle.flight_cache.specs.declared.kept.Entry.{Entry}
use Rattle.flight_cache.specs.declared.pins.Asked.{Asked}
use Rattle.flight_cache.specs.declared.pins.Asked.TheVariants.{Hit, Make, OutOfMemory}

no-more : {X Y : Type 0} (f : X → Y) (xs : List X) → map f xs ≡ [] → xs ≡ []
no-more f [] none = refl
no-more f (x ∷ xs) none = cc

module _ {K V T : Type 0} (eq : K → K → Bool) (meaning : Meaning K V T) (shard : ShardView T) where
  -- the calls of a turn after others that gave nothing
  pub gives-follows : (p q : ShardPassView K T) (steps : List (Step K V)) (g : GivesSteps eq meaning shard p q steps) → Follows p q (entry_list g.entry)
  gives-follows p q steps g = Follows_trans p g.waited q [] (entry_list g.entry) g.waits g.takes.follows

  pub gives-nothing : (p q : ShardPassView K T) → GivesSteps eq meaning shard p q [] → Follows p q []
  gives-nothing p q g = subst (λ (l : List (Entry K)). Follows p q l) (no-more (step_of meaning shard.tag) (entry_list g.entry) g.are) (gives-follows p q [] g)

  pub gives-later : (p w q : ShardPassView K T) (steps : List (Step K V)) → Follows p w [] → GivesSteps eq meaning shard w q steps → GivesSteps eq meaning shard p q steps
  gives-later p w q steps f g =
      let own : own_steps meaning shard.tag w ≡ own_steps meaning shard.tag p = ap (map (step_of meaning shard.tag)) (f.mine ∙ append-nil (mine p)) in
      record {
        waited = g.waited;
        waits = Follows_trans p w g.waited [] [] f g.waits;
        entry = g.entry;
        takes = g.takes;
        are = g.are;
        legal = g.legal;
        pins = λ key. g.pins key ∙ ap (λ (l : List (Step K V)). pins_left eq l key + pins_taken eq steps key) own;
        claims = λ key. g.claims key ∙ ap (λ (l : List (Step K V)). is_open_in eq (has_open eq l key) steps key) own;
      }

  -- what an ask at a turn gives behind others that gave nothing
  pub asked-later : {M : Type 0} (p w q : ShardPassView K T) (key : K) (a : Asked M K V T) → Follows p w [] → IsAskedAtTurn eq meaning shard w key q a → IsAsked eq meaning shard p key q a
  asked-later p w q key (Hit pin) f h = (gives-later p w q _ f h.0, h.1, h.2)
  asked-later p w q key (Make (Some ticket)) f h = (gives-later p w q _ f h.0, h.1)
  asked-later p w q key (Make None) f h = gives-later p w q _ f h
  asked-later p w q key OutOfMemory f h = inr (record { turn = gives-later p w q _ f h.turn; shown = h.shown })

  -- an ask that memory ran out for gives nothing
  pub short-follows : (p q : ShardPassView K T) (key : K) → (q ≡ p) ⊎ IsShortAsk eq meaning shard p key q → Follows p q []
  short-follows p q key h = ⊎_elim (λ same. subst (λ (z : ShardPassView K T). Follows p z []) (sym same) (Follows_same p)) (λ short. gives-nothing p q short.turn) h
