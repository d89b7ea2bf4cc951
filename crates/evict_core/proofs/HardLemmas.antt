-- The hard law.
use Rattle.std.proofs.Common.{◌≡◌, ℕ, ◌+◌, ◌-◌, ◌≤◌, ◌==◌, nat_lt, nat_le, Bool, true, false, cond, List, [], ◌∷◌, ◌++◌, length, Option, Some, None, IsSome, option_map, refl, sym, ap, ◌∙◌, subst, append_assoc, ⊎_elim, arith}
use Rattle.std.specs.Map.{lookup}
use Rattle.std.proofs.lemmas.Bool.{leb-true, leb-false, le-leb, lt-leb}
use Rattle.std.proofs.lemmas.Nat.{mul-le}
use Rattle.std.specs.Cmp.{IsEquivalence}
use Rattle.turn_cell.specs.History.{History}
use Rattle.evict_core.specs.Recency.{total, change, to_front}
use Rattle.evict_core.specs.Machine.{Status, Flying, Ready, State, Hit, Claim, Crowded, Step, Ask, PinAll, Fill, Fail, Spill, Unpin, Limits, Hard, is_idle, idle_cost, held_cost, unpinned, pinned, flying, is_held, holds_all, has_space, can_fill, one_pin_more, one_pin_less, maker_in, evict, trim, status_of, hit, hit_all, room_for_one, put_first, state_after, IsEnabled}
use Rattle.evict_core.specs.History.{opening, replay, pins_held, IsLegal, IsFit, FillsFit}
use Rattle.evict_core.specs.Laws.{NoneFits, MoreFits, StaysInHardLimit}
use Rattle.evict_core.specs.declared.hard_limit.HardLimit.{HardLimit}
use Rattle.evict_core.proofs.SumLemmas.{weight_in, total-change, total-remove, total-to_front, total-without_last-le}
use Rattle.evict_core.proofs.FlyingLemmas.{flying-evicted, flying-pinned, flying-unpinned, flying-filled, flying-removed}
use Rattle.evict_core.proofs.TrimLemmas.{kept-by-trim}
use Rattle.evict_core.proofs.StateLemmas.{claim-has-room}
use Rattle.evict_core.proofs.HistoryLemmas.{replay-append, by-steps}
use Rattle.evict_core.proofs.LegalLemmas.{no-end, last-or-before}

-- what costs no more, with no more makings, is held too
held-less : (hard : Option HardLimit) (a b m n : ℕ) → a ≤ b → m ≤ n → is_held hard b n ≡ true → is_held hard a m ≡ true
held-less None a b m n less fewer held = refl
held-less (Some hard) a b m n less fewer held = le-leb _ _ (omega (arith, less, leb-true _ _ held, mul-le hard.making m hard.making n (omega arith) fewer))

-- a sum is within the limit where its second part is within what the first leaves
pub left-held : (a b h : ℕ) → a ≤ h → nat_le b (h - a) ≡ nat_le (a + b) h
left-held a b h first = (elim (nat_le b (h - a)) as (λ t. nat_le b (h - a) ≡ t → t ≡ nat_le (a + b) h) [
  | true ↦ λ t. sym (le-leb (a + b) h (omega (arith, first, leb-true _ _ t)))
  | false ↦ λ t. sym (lt-leb (a + b) h (omega (arith, first, leb-false _ _ t)))
]) refl

module _ {V : Type 0} where
  -- what an entry costs, whether a pin holds it or not
  abbrev full_cost : Status V → ℕ
  full_cost (Flying number) = 0
  full_cost (Ready pins cost value) = cost

  one-cost : (st : Status V) → idle_cost st + held_cost st ≡ full_cost st
  one-cost (Flying n) = refl
  one-cost (Ready pins cost value) = elim (pins == 0) as (λ b. cond b cost 0 + cond b 0 cost ≡ cost) [ true ↦ omega arith | false ↦ omega arith ]

  more-cost : (o : Option (Status V)) → weight_in full_cost (option_map one_pin_more o) ≡ weight_in full_cost o
  more-cost None = refl
  more-cost (Some (Flying n)) = refl
  more-cost (Some (Ready pins cost value)) = refl

  less-cost : (o : Option (Status V)) → weight_in full_cost (option_map one_pin_less o) ≡ weight_in full_cost o
  less-cost None = refl
  less-cost (Some (Flying n)) = refl
  less-cost (Some (Ready pins cost value)) = refl

  filled-cost : (o : Option (Status V)) (m cost : ℕ) (value : V) → maker_in o ≡ Some m → (weight_in full_cost o ≡ 0) × (weight_in full_cost (option_map (λ _. Ready 1 cost value) o) ≡ cost)
  filled-cost None m cost value made = cc
  filled-cost (Some (Flying n)) m cost value made = (refl, refl)
  filled-cost (Some (Ready pins price was)) m cost value made = cc

module _ {K V : Type 0} where
  both-costs : (es : List (K × Status V)) → unpinned es + pinned es ≡ total full_cost es
  both-costs [] = refl
  both-costs (e ∷ es) = omega (arith, both-costs es, one-cost e.1)

  -- the hard limit holds the entries of the state
  abbrev Held : State K V → Type 0
  Held s = holds_all s.hard s.entries ≡ true

  held-by : (s t : State K V) → t.hard ≡ s.hard → total full_cost t.entries ≤ total full_cost s.entries → flying t.entries ≤ flying s.entries → Held s → Held t
  held-by s t same less fewer held = subst (λ (hard : Option HardLimit). holds_all hard t.entries ≡ true) (sym same)
      (held-less s.hard _ _ _ _ (omega (arith, less, both-costs s.entries, both-costs t.entries)) fewer held)

  held-evict : (s : State K V) → Held s → Held (evict s)
  held-evict s held = held-by s (evict s) refl (total-without_last-le full_cost is_idle s.entries) (omega (arith, flying-evicted s.entries)) held

  held-trim : (s : State K V) → Held s → Held (trim s)
  held-trim s held = kept-by-trim Held (λ t outside here. held-evict t here) (length s.entries) s refl held

  -- one more is being made, where there was space
  held-put : (s : State K V) (k : K) (m : ℕ) → has_space s ≡ true → Held (put_first (room_for_one s) k m)
  held-put s k m space = elim (nat_lt (length s.entries) s.limit) as (λ b. Held (put_first (cond b s (evict s)) k m)) [
    | true ↦ held-less s.hard _ _ _ _ (omega arith) (omega arith) space
    | false ↦ held-less s.hard _ _ _ _ (omega (arith, both-costs s.entries, both-costs (evict s).entries, total-without_last-le full_cost is_idle s.entries)) (omega (arith, flying-evicted s.entries)) space
  ]

  module _ (eq : K → K → Bool) where
    held-hit : (s : State K V) (k : K) → Held s → Held (hit eq s k)
    held-hit s k held = held-by s (hit eq s k) refl (omega (arith, total-to_front full_cost (eq k) one_pin_more s.entries, more-cost (lookup (eq k) s.entries))) (omega (arith, flying-pinned (eq k) s.entries)) held

    held-hit_all : (ks : List K) (s : State K V) → Held s → Held (hit_all eq s ks)
    held-hit_all [] s held = held
    held-hit_all (k ∷ ks) s held = held-hit_all ks (hit eq s k) (held-hit s k held)

    held-unpin : (s : State K V) (k : K) → Held s → Held (record s { entries = change (eq k) one_pin_less s.entries })
    held-unpin s k held = held-by s (record s { entries = change (eq k) one_pin_less s.entries }) refl
        (omega (arith, total-change full_cost (eq k) one_pin_less s.entries, less-cost (lookup (eq k) s.entries))) (omega (arith, flying-unpinned (eq k) s.entries)) held

    held-fill : (s : State K V) (k : K) (cost : ℕ) (value : V) (m : ℕ) → maker_in (status_of eq s k) ≡ Some m → can_fill s cost ≡ true → Held (state_after eq s m (Fill k cost value))
    held-fill s k cost value m made room =
        let es = s.entries in
        let new = to_front (eq k) (λ _. Ready 1 cost value) es in
        let w = filled-cost (lookup (eq k) es) m cost value made in
        let fewer = flying-filled (eq k) es cost value (subst IsSome (sym made) refl) in
        held-less s.hard _ _ _ _ (omega (arith, both-costs es, both-costs new, total-to_front full_cost (eq k) (λ _. Ready 1 cost value) es, w.0, w.1)) (omega (arith, fewer)) room

    held-fail : (s : State K V) (k : K) (m : ℕ) → maker_in (status_of eq s k) ≡ Some m → Held s → Held (state_after eq s m (Fail k))
    held-fail s k m made held = held-by s (state_after eq s m (Fail k)) refl (omega (arith, total-remove full_cost (eq k) s.entries))
        (omega (arith, flying-removed (eq k) s.entries (subst IsSome (sym made) refl))) held

    module _ (laws : IsEquivalence eq) where
      held-after : (s : State K V) (own : K → ℕ) (m : ℕ) (step : Step K V) → IsEnabled eq s own m step → IsFit s step → Held s → Held (state_after eq s m step)
      held-after s own m (Ask k Hit) enabled fit held = held-hit s k held
      held-after s own m (Ask k Claim) enabled fit held = held-put s k m (claim-has-room eq laws s k enabled).2
      held-after s own m (Ask k Crowded) enabled fit held = held
      held-after s own m (PinAll ks) enabled fit held = held-hit_all ks s held
      held-after s own m (Fill k cost value) enabled fit held = held-fill s k cost value m enabled fit
      held-after s own m (Fail k) enabled fit held = held-fail s k m enabled held
      held-after s own m (Spill k cost) enabled fit held = held-fail s k m enabled.0 held
      held-after s own m (Unpin k) enabled fit held = held-trim (record s { entries = change (eq k) one_pin_less s.entries }) (held-unpin s k held)
      held-after s own m (Limits entries budget) enabled fit held = held-trim (record s { limit = entries; budget = budget }) held
      held-after s own m (Hard hard) enabled fit held = enabled.1

      front-fits : (limit budget : ℕ) (g h : History (Step K V)) → FillsFit eq limit budget (g ++ h) → FillsFit eq limit budget g
      front-fits limit budget g h fits front back e is = fits front (back ++ h) e (ap (λ (l : History (Step K V)). l ++ h) is ∙ append_assoc front (e ∷ back) h)

      pub held-replay : (limit budget : ℕ) (h : History (Step K V)) → IsLegal eq limit budget h → FillsFit eq limit budget h → Held (replay eq limit budget h)
      held-replay limit budget h legal = by-steps eq limit budget (λ h. FillsFit eq limit budget h → Held (replay eq limit budget h))
          (λ _. refl)
          (λ h e follows here fits. subst Held (sym (replay-append eq h (e ∷ []) (opening limit budget)))
          (held-after (replay eq limit budget h) (pins_held eq h e.0) e.0 e.1 follows (fits h [] e refl) (here (front-fits limit budget h (e ∷ []) fits)))) h legal

module _ {K : Type 0} (V : Type 0) (eq : K → K → Bool) where
  pub none-fits : NoneFits V eq
  none-fits limit budget front back e is = absurd (no-end front back e is)

  pub more-fits : MoreFits V eq
  more-fits limit budget h e fits fit front back d is =
      ⊎_elim (λ here. subst (λ (p : History (Step K V)). IsFit (replay eq limit budget p) d.1) (sym here.0) (subst (λ (x : ℕ × Step K V). IsFit (replay eq limit budget h) x.1) (sym here.1) fit)) (λ before. fits front before.0 d before.1) (last-or-before h front back e d is)

  pub stays-in-hard-limit : IsEquivalence eq → StaysInHardLimit V eq
  stays-in-hard-limit laws limit budget h legal fits hard is =
      leb-true _ _ (subst (λ (o : Option HardLimit). holds_all o (replay eq limit budget h).entries ≡ true) is (held-replay eq laws limit budget h legal fits))
