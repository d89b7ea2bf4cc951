-- A claim is given only of a key of which the pass has none open.
use Rattle.std.proofs.Common.{◌≡◌, ℕ, Bool, true, false, List, [], ◌∷◌, map, Option, Some, None, refl, sym, ap, ◌∙◌, subst}
use Rattle.std.specs.Cmp.{IsEquivalence}
use Rattle.std.proofs.lemmas.List.{append-nil}
use Rattle.turn_cell.specs.History.{History, entries_of, with_entry}
use Rattle.turn_cell.specs.Passes.{mine}
use Rattle.evict_core.specs.Machine.{State, Status, Flying, Ready, Step, Answer, Claim, Ask, maker_in, status_of, answer_at}
use Rattle.evict_core.specs.History.{IsLegal, has_open}
use Rattle.evict_core.proofs.FillLaws.{legal-front}
use Rattle.evict_core.proofs.PinLaws as pin
use Rattle.flight_cache.specs.Meaning.{Meaning}
use Rattle.flight_cache.specs.Histories.{step_of, steps_in, IsLegalUnder, left_by}
use Rattle.flight_cache.specs.Calls.{ShardView, ShardPassView, GivesSteps, own_steps}
use Rattle.flight_cache.specs.declared.kept.Opening.{Opening}
use Rattle.flight_cache.specs.declared.kept.Entry.{Entry}
use Rattle.flight_cache.proofs.Rows.{ask_is_answered}
use Rattle.flight_cache.proofs.Standing.{steps-more, own-in}

-- who makes a key is answered no claim of it
not-answered : {K V : Type 0} (s : State K V) (st : Option (Status V)) (n : ℕ) (answer : Answer) → maker_in st ≡ Some n → answer_at s st ≡ Some answer → ⊥
not-answered s None n answer m a = cc
not-answered s (Some (Flying k)) n answer m a = cc
not-answered s (Some (Ready pins cost value)) n answer m a = cc

module _ {K V T : Type 0} (eq : K → K → Bool) (laws : IsEquivalence eq) (meaning : Meaning K V T) where
  front-legal : (under : Opening T) (list : History (Entry K)) (n : ℕ) (entry : Option (Entry K)) → IsLegalUnder eq meaning under (with_entry list n entry) → IsLegal eq under.entries under.budget (steps_in meaning under list)
  front-legal under list n None legal = legal.legal
  front-legal under list n (Some e) legal =
      legal-front eq laws under.entries under.budget (steps_in meaning under list) ((n, step_of meaning under e) ∷ [])
      (subst (IsLegal eq under.entries under.budget) (steps-more meaning under list n e) legal.legal)

  pub closed-before : (shard : ShardView T) (p q : ShardPassView K T) (key : K) → GivesSteps eq meaning shard p q (Ask key Claim ∷ []) → has_open eq (own_steps meaning shard.tag p) key ≡ false
  closed-before shard p q key g =
      let list = g.takes.list in
      let n = g.waited.number in
      let legal = front-legal shard.tag list n g.entry (subst (IsLegalUnder eq meaning shard.tag) g.takes.seen g.legal) in
      let law = pin.flies-where-pending eq laws shard.tag.entries shard.tag.budget (steps_in meaning shard.tag list) legal n key in
      let answered = ask_is_answered eq meaning shard p q key Claim g in
      let own : own_steps meaning shard.tag p ≡ map (step_of meaning shard.tag) (entries_of n list) =
      ap (map (step_of meaning shard.tag)) (sym (g.takes.extends.own ∙ (g.waits.mine ∙ append-nil (mine p)))) in
      let here = ap (λ (l : List (Step K V)). has_open eq l key) (own ∙ sym (own-in eq laws meaning shard.tag list n)) in
      (elim (has_open eq (own_steps meaning shard.tag p) key) as (λ b. has_open eq (own_steps meaning shard.tag p) key ≡ b → b ≡ false) [
        | true ↦ λ t. absurd (not-answered (left_by eq meaning shard.tag list) (status_of eq (left_by eq meaning shard.tag list) key) n Claim (law.1 (sym here ∙ t)) answered)
        | false ↦ λ f. refl
      ]) refl
