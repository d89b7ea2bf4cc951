-- The single-fill law.
use Rattle.std.proofs.Common.{◌≡◌, ℕ, Bool, true, false, not, ◌||◌, ◌&&◌, ◌==◌, ◌⊎◌, [], ◌∷◌, ◌++◌, Option, Some, None, is_some, inl, inr, refl, sym, ap, ◌∙◌, subst, true≢false, append_assoc}
use Rattle.std.specs.Cmp.{IsEquivalence}
use Rattle.std.proofs.lemmas.Bool.{eq-eqb, and_from, not_from_false}
use Rattle.turn_cell.specs.History.{History}
use Rattle.evict_core.specs.Machine.{Ready, State, Hit, Claim, Crowded, Step, Ask, PinAll, Fill, Fail, Spill, Unpin, Limits, Hard, maker_in, status_of, state_after, IsEnabled}
use Rattle.evict_core.specs.History.{opening, replay, replay_from, pins_held, IsLegal, is_fail_of, is_open_after, is_evicted}
use Rattle.evict_core.specs.Laws.{IsLostWithin, IsEvictedWithin, ClaimsOnce, FillsOnce}
use Rattle.evict_core.proofs.RecencyLemmas.{cond-same, lookup-congr, lookup-remove-other, lookup-to_front}
use Rattle.evict_core.proofs.StateLemmas.{IsSound, claim-has-room}
use Rattle.evict_core.proofs.HistoryLemmas.{replay-append, sound-replay}
use Rattle.evict_core.proofs.PinLemmas.{makes, makes-after, flying-is}

none-made : (o : Option ℕ) → ((n : ℕ) → makes n o ≡ false) → o ≡ None
none-made None none = refl
none-made (Some n) none = absurd (true≢false (sym (eq-eqb n n refl) ∙ none n))

module _ {K V : Type 0} (eq : K → K → Bool) (laws : IsEquivalence eq) where
  -- a step that takes the entry of k away is a fail of k, or evicts it
  loses : (s : State K V) (m : ℕ) (step : Step K V) (k : K) → is_some (status_of eq s k) ≡ true → is_some (status_of eq (state_after eq s m step) k) ≡ false
      → (is_fail_of eq step k ≡ true) ⊎ (is_evicted eq s (m, step) k ≡ true)
  loses s m (Fail key) k here gone = (elim (eq k key) as (λ b. eq k key ≡ b → (b ≡ true) ⊎ (is_evicted eq s (m, Fail key) k ≡ true)) [
    | true ↦ λ t. inl refl
    | false ↦ λ t. absurd (true≢false (sym here ∙ (ap is_some (sym (lookup-remove-other eq laws key k s.entries t)) ∙ gone)))
  ]) refl
  loses s m (Spill key cost) k here gone = (elim (eq k key) as (λ b. eq k key ≡ b → (b ≡ true) ⊎ (is_evicted eq s (m, Spill key cost) k ≡ true)) [
    | true ↦ λ t. inl refl
    | false ↦ λ t. absurd (true≢false (sym here ∙ (ap is_some (sym (lookup-remove-other eq laws key k s.entries t)) ∙ gone)))
  ]) refl
  loses s m (Ask key answer) k here gone = inr (and_from _ _ (and_from _ _ here (not_from_false _ gone)) refl)
  loses s m (PinAll keys) k here gone = inr (and_from _ _ (and_from _ _ here (not_from_false _ gone)) refl)
  loses s m (Fill key cost value) k here gone = inr (and_from _ _ (and_from _ _ here (not_from_false _ gone)) refl)
  loses s m (Unpin key) k here gone = inr (and_from _ _ (and_from _ _ here (not_from_false _ gone)) refl)
  loses s m (Limits entries budget) k here gone = inr (and_from _ _ (and_from _ _ here (not_from_false _ gone)) refl)
  loses s m (Hard hard) k here gone = inr (and_from _ _ (and_from _ _ here (not_from_false _ gone)) refl)

  lost-within : (between : History (Step K V)) (s : State K V) (k : K) → is_some (status_of eq s k) ≡ true → is_some (status_of eq (replay_from eq s between) k) ≡ false → IsLostWithin eq s between k
  lost-within [] s k here gone = absurd (true≢false (sym here ∙ gone))
  lost-within (e ∷ rest) s k here gone = (elim (is_some (status_of eq (state_after eq s e.0 e.1) k)) as (λ b. is_some (status_of eq (state_after eq s e.0 e.1) k) ≡ b → IsLostWithin eq s (e ∷ rest) k) [
    | true ↦ λ t. let later = lost-within rest (state_after eq s e.0 e.1) k t gone in
        record { front = e ∷ later.front; loss = later.loss; back = later.back; is = ap (λ (l : History (Step K V)). e ∷ l) later.is; lost = later.lost }
    | false ↦ λ t. record { front = []; loss = e; back = rest; is = refl; lost = loses s e.0 e.1 k here t }
  ]) refl

  pub claims-once : ClaimsOnce V eq
  claims-once limit budget before between later m n k again legal same =
      let first : ℕ × Step K V = (m, Ask k Claim) in
      let s = replay eq limit budget (before ++ first ∷ []) in
      let now : s ≡ state_after eq (replay eq limit budget before) m (Ask k Claim) = replay-append eq before (first ∷ []) (opening limit budget) in
      let here : is_some (status_of eq s k) ≡ true = rw (now, laws.refl k) in
      let second : History (Step K V) = before ++ first ∷ between in
      let follows = legal second later (n, Ask again Claim) (sym (append_assoc before (first ∷ between) ((n, Ask again Claim) ∷ later))) in
      let state : replay eq limit budget second ≡ replay_from eq s between = ap (replay eq limit budget) (sym (append_assoc before (first ∷ []) between)) ∙ replay-append eq (before ++ first ∷ []) between (opening limit budget) in
      let none = (claim-has-room eq laws (replay eq limit budget second) again follows).0 in
      let gone : status_of eq (replay_from eq s between) k ≡ None = rw state at (lookup-congr eq laws k again same (replay eq limit budget second).entries ∙ none) in
      lost-within between s k here (ap is_some gone)

  -- what an enabled step leaves of an entry that is ready
  opens-not : (s : State K V) (held : K → ℕ) (m : ℕ) (step : Step K V) (k : K) → IsEnabled eq s held m step → is_some (status_of eq s k) ≡ true → is_open_after eq step k false ≡ false
  opens-not s held m (Ask key Claim) k enabled here = (elim (eq k key) as (λ b. eq k key ≡ b → (b || false) ≡ false) [
    | true ↦ λ t. absurd (true≢false (sym here ∙ ap is_some (lookup-congr eq laws k key t s.entries ∙ (claim-has-room eq laws s key enabled).0)))
    | false ↦ λ t. refl
  ]) refl
  opens-not s held m (Ask key Hit) k enabled here = refl
  opens-not s held m (Ask key Crowded) k enabled here = refl
  opens-not s held m (PinAll keys) k enabled here = refl
  opens-not s held m (Fill key cost value) k enabled here = elim (eq k key) as (λ b. (not b && false) ≡ false) [ true ↦ refl | false ↦ refl ]
  opens-not s held m (Fail key) k enabled here = elim (eq k key) as (λ b. (not b && false) ≡ false) [ true ↦ refl | false ↦ refl ]
  opens-not s held m (Spill key cost) k enabled here = elim (eq k key) as (λ b. (not b && false) ≡ false) [ true ↦ refl | false ↦ refl ]
  opens-not s held m (Unpin key) k enabled here = refl
  opens-not s held m (Limits entries budget) k enabled here = refl
  opens-not s held m (Hard hard) k enabled here = refl

  fails-not : (s : State K V) (held : K → ℕ) (m : ℕ) (step : Step K V) (k : K) → IsEnabled eq s held m step → maker_in (status_of eq s k) ≡ None → is_fail_of eq step k ≡ true → ⊥
  fails-not s held m (Fail key) k enabled ready fails = let made = ap maker_in (lookup-congr eq laws k key fails s.entries) ∙ enabled in let wrong : None ≡ Some m = sym ready ∙ made in cc
  fails-not s held m (Spill key cost) k enabled ready fails = let made = ap maker_in (lookup-congr eq laws k key fails s.entries) ∙ enabled.0 in let wrong : None ≡ Some m = sym ready ∙ made in cc
  fails-not s held m (Ask key answer) k enabled ready fails = true≢false (sym fails)
  fails-not s held m (PinAll keys) k enabled ready fails = true≢false (sym fails)
  fails-not s held m (Fill key cost value) k enabled ready fails = true≢false (sym fails)
  fails-not s held m (Unpin key) k enabled ready fails = true≢false (sym fails)
  fails-not s held m (Limits entries budget) k enabled ready fails = true≢false (sym fails)
  fails-not s held m (Hard hard) k enabled ready fails = true≢false (sym fails)

  pub legal-front : (limit budget : ℕ) (g h : History (Step K V)) → IsLegal eq limit budget (g ++ h) → IsLegal eq limit budget g
  legal-front limit budget g h legal front back e is = legal front (back ++ h) e (ap (λ (l : History (Step K V)). l ++ h) is ∙ append_assoc front (e ∷ back) h)

  evicted-within : (limit budget : ℕ) (between before back : History (Step K V)) (k : K) (s : State K V) → IsLegal eq limit budget (before ++ (between ++ back))
      → replay eq limit budget before ≡ s → is_some (status_of eq s k) ≡ true → maker_in (status_of eq s k) ≡ None
      → (n : ℕ) → maker_in (status_of eq (replay_from eq s between) k) ≡ Some n → IsEvictedWithin eq s between k
  evicted-within limit budget [] before back k s legal is here ready n made = let wrong : None ≡ Some n = sym ready ∙ made in cc
  evicted-within limit budget (e ∷ rest) before back k s legal is here ready n made =
      let follows = legal before (rest ++ back) e refl in
      let enabled : IsEnabled eq s (pins_held eq before e.0) e.0 e.1 = subst (λ (t : State K V). IsEnabled eq t (pins_held eq before e.0) e.0 e.1) is follows in
      let sound = subst (IsSound eq) is (sound-replay eq laws limit budget before (legal-front limit budget before (e ∷ (rest ++ back)) legal)) in
      let whole : (before ++ e ∷ []) ++ (rest ++ back) ≡ before ++ e ∷ (rest ++ back) = append_assoc before (e ∷ []) (rest ++ back) in
      let next : replay eq limit budget (before ++ e ∷ []) ≡ state_after eq s e.0 e.1 = replay-append eq before (e ∷ []) (opening limit budget) ∙ ap (λ (t : State K V). state_after eq t e.0 e.1) is in
      (elim (is_some (status_of eq (state_after eq s e.0 e.1) k)) as (λ b. is_some (status_of eq (state_after eq s e.0 e.1) k) ≡ b → IsEvictedWithin eq s (e ∷ rest) k) [
        | true ↦ λ t.
            let unmade : maker_in (status_of eq (state_after eq s e.0 e.1) k) ≡ None = none-made _ (λ j. makes-after eq laws s (pins_held eq before e.0) e.0 e.1 sound enabled k j
            ∙ rw (ready, opens-not s (pins_held eq before e.0) e.0 e.1 k enabled here) (cond-same (e.0 == j) false)) in
            let later = evicted-within limit budget rest (before ++ e ∷ []) back k (state_after eq s e.0 e.1) (subst (IsLegal eq limit budget) (sym whole) legal) next t unmade n made in
            record { front = e ∷ later.front; loss = later.loss; back = later.back; is = ap (λ (l : History (Step K V)). e ∷ l) later.is; lost = later.lost }
        | false ↦ λ t. record {
          front = [];
          loss = e;
          back = rest;
          is = refl;
          lost = elim (loses s e.0 e.1 k here t) [
            | inl fails ↦ absurd (fails-not s (pins_held eq before e.0) e.0 e.1 k enabled ready fails)
            | inr evicted ↦ evicted
          ];
        }
      ]) refl

  pub fills-once : FillsOnce V eq
  fills-once limit budget before between later m n k again c d v w legal same =
      let first : ℕ × Step K V = (m, Fill k c v) in
      let last : ℕ × Step K V = (n, Fill again d w) in
      let old = replay eq limit budget before in
      let g : History (Step K V) = before ++ first ∷ [] in
      let s = replay eq limit budget g in
      let begins = legal before (between ++ last ∷ later) first refl in
      let sound = sound-replay eq laws limit budget before (legal-front limit budget before (first ∷ (between ++ last ∷ later)) legal) in
      let now : s ≡ state_after eq old m (Fill k c v) = replay-append eq before (first ∷ []) (opening limit budget) in
      let is : status_of eq s k ≡ Some (Ready 1 c v) = rw (now, lookup-to_front eq laws k (λ _. Ready 1 c v) k old.entries sound.apart, laws.refl k, flying-is _ m begins) in
      let whole : g ++ (between ++ last ∷ later) ≡ before ++ first ∷ (between ++ last ∷ later) = append_assoc before (first ∷ []) (between ++ last ∷ later) in
      let second : History (Step K V) = before ++ first ∷ between in
      let follows = legal second later last (sym (append_assoc before (first ∷ between) (last ∷ later))) in
      let state : replay eq limit budget second ≡ replay_from eq s between = ap (replay eq limit budget) (sym (append_assoc before (first ∷ []) between)) ∙ replay-append eq g between (opening limit budget) in
      let made : maker_in (status_of eq (replay_from eq s between) k) ≡ Some n = rw state at (ap maker_in (lookup-congr eq laws k again same (replay eq limit budget second).entries) ∙ follows) in
      evicted-within limit budget between g (last ∷ later) k s (subst (IsLegal eq limit budget) (sym whole) legal) refl (ap is_some is) (ap maker_in is) n made
