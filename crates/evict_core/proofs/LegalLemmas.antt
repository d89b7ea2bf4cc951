-- Which histories are legal, and where the values of ready entries come from.
use Rattle.std.proofs.Common.{◌≡◌, ℕ, Bool, true, false, cond, List, [], ◌∷◌, ◌++◌, ◌⊎◌, inl, inr, ⊎_elim, Option, Some, None, option_map, length, nat_lt, refl, sym, ap, ◌∙◌, subst, append_assoc}
use Rattle.std.specs.Cmp.{IsEquivalence}
use Rattle.turn_cell.specs.History.{History}
use Rattle.evict_core.specs.Recency.{Apart, change}
use Rattle.evict_core.specs.Machine.{Status, Flying, Ready, State, Hit, Claim, Crowded, Step, Ask, PinAll, Fill, Fail, Spill, Unpin, Limits, Hard, is_idle, one_pin_more, one_pin_less, evict, trim, status_of, hit, hit_all, room_for_one, put_first, state_after}
use Rattle.evict_core.specs.History.{opening, replay, pins_held, MayFollow, IsLegal}
use Rattle.evict_core.specs.Laws.{IsFilled, NoneIsLegal, MoreIsLegal, ReadyWasFilled}
use Rattle.evict_core.proofs.RecencyLemmas.{lookup-to_front, lookup-change, lookup-remove, lookup-without_last, Apart-without_last, Apart-change}
use Rattle.evict_core.proofs.TrimLemmas.{kept-by-trim}
use Rattle.evict_core.proofs.StateLemmas.{IsSound, sound-hit, sound-after}
use Rattle.evict_core.proofs.HistoryLemmas.{replay-append, by-steps, sound-replay}

module _ {X : Type 0} where
  pub no-end : (front back : List X) (e : X) → [] ≡ front ++ e ∷ back → ⊥
  no-end [] back e q = cc
  no-end (f ∷ front) back e q = cc

  -- an element of a list with one more at its end is that one, or stands before it
  pub last-or-before : (h front back : List X) (x e : X) → h ++ x ∷ [] ≡ front ++ e ∷ back → ((front ≡ h) × (e ≡ x)) ⊎ ((rest : List X) × (h ≡ front ++ e ∷ rest))
  last-or-before [] [] back x e q = let same : x ≡ e = cc in inl (refl, sym same)
  last-or-before [] (f ∷ front) back x e q = let rest : [] ≡ front ++ e ∷ back = cc in absurd (no-end front back e rest)
  last-or-before (y ∷ h) [] back x e q = let same : y ≡ e = cc in inr (h, ap (λ z. z ∷ h) same)
  last-or-before (y ∷ h) (f ∷ front) back x e q =
      let same : y ≡ f = cc in
      let rest : h ++ x ∷ [] ≡ front ++ e ∷ back = cc in
      ⊎_elim (λ here. inl (ap (λ z. z ∷ front) (sym same) ∙ ap (λ l. y ∷ l) here.0, here.1)) (λ before. inr (before.0, ap (λ z. z ∷ h) same ∙ ap (λ l. f ∷ l) before.1)) (last-or-before h front back x e rest)

module _ {K : Type 0} (V : Type 0) (eq : K → K → Bool) where
  pub none-is-legal : NoneIsLegal V eq
  none-is-legal limit budget front back e is = absurd (no-end front back e is)

  pub more-is-legal : MoreIsLegal V eq
  more-is-legal limit budget h e legal follows front back d is =
      ⊎_elim (λ here. subst (λ (p : History (Step K V)). MayFollow eq limit budget p d) (sym here.0) (subst (MayFollow eq limit budget h) (sym here.1) follows)) (λ before. legal front before.0 d before.1) (last-or-before h front back e d is)

-- what a look-up costs and has, where it is ready
abbrev made_in : {V : Type 0} → Option (Status V) → Option (ℕ × V)
made_in None = None
made_in (Some (Flying number)) = None
made_in (Some (Ready pins cost value)) = Some (cost, value)

module _ {V : Type 0} where
  made-more : (o : Option (Status V)) → made_in (option_map one_pin_more o) ≡ made_in o
  made-more None = refl
  made-more (Some (Flying n)) = refl
  made-more (Some (Ready pins cost value)) = refl

  made-less : (o : Option (Status V)) → made_in (option_map one_pin_less o) ≡ made_in o
  made-less None = refl
  made-less (Some (Flying n)) = refl
  made-less (Some (Ready pins cost value)) = refl

  made-filled : (o : Option (Status V)) (cost c : ℕ) (value v : V) → made_in (option_map (λ _. Ready 1 cost value) o) ≡ Some (c, v) → (cost ≡ c) × (value ≡ v)
  made-filled None cost c value v made = cc
  made-filled (Some st) cost c value v made = let both : ◌≡◌ {A = ℕ × V} (cost, value) (c, v) = cc in (ap (λ (p : ℕ × V). p.0) both, ap (λ (p : ℕ × V). p.1) both)

module _ {K V : Type 0} (eq : K → K → Bool) (laws : IsEquivalence eq) (q : K) (c : ℕ) (v : V) where
  abbrev IsMadeIn : State K V → Type 0
  IsMadeIn s = made_in (status_of eq s q) ≡ Some (c, v)

  made-hit : (s : State K V) (k : K) → Apart eq s.entries → IsMadeIn (hit eq s k) → IsMadeIn s
  made-hit s k apart made = (elim (eq q k) as (λ b. made_in (cond b (option_map one_pin_more (status_of eq s q)) (status_of eq s q)) ≡ Some (c, v) → IsMadeIn s) [
    | true ↦ λ is. sym (made-more (status_of eq s q)) ∙ is
    | false ↦ λ is. is
  ]) (rw (lookup-to_front eq laws k one_pin_more q s.entries apart) at made)

  made-hit_all : (ks : List K) (s : State K V) → IsSound eq s → IsMadeIn (hit_all eq s ks) → IsMadeIn s
  made-hit_all [] s sound made = made
  made-hit_all (k ∷ ks) s sound made = made-hit s k sound.apart (made-hit_all ks (hit eq s k) (sound-hit eq laws s k sound) made)

  made-evict : (s : State K V) → Apart eq s.entries → IsMadeIn (evict s) → IsMadeIn s
  made-evict s apart = lookup-without_last eq laws is_idle q s.entries apart (λ o. made_in o ≡ Some (c, v) → IsMadeIn s) (λ is. is) (λ x idle h is. cc)

  made-trim : (s : State K V) → Apart eq s.entries → IsMadeIn (trim s) → IsMadeIn s
  made-trim s apart = (kept-by-trim (λ (t : State K V). Apart eq t.entries × (IsMadeIn t → IsMadeIn s))
      (λ t _ here. (Apart-without_last eq laws is_idle t.entries here.0, λ made. here.1 (made-evict t here.0 made))) (length s.entries) s refl (apart, λ made. made)).1

  made-claim : (s : State K V) (m : ℕ) (k : K) → Apart eq s.entries → IsMadeIn (put_first (room_for_one s) k m) → IsMadeIn s
  made-claim s m k apart = elim (eq q k) as (λ b. made_in (cond b (Some (Flying m)) (status_of eq (room_for_one s) q)) ≡ Some (c, v) → IsMadeIn s) [
    | true ↦ λ is. cc
    | false ↦ elim (nat_lt (length s.entries) s.limit) as (λ b. IsMadeIn (cond b s (evict s)) → IsMadeIn s) [
      | true ↦ λ is. is
      | false ↦ made-evict s apart
    ]
  ]

  -- the step fills q so
  abbrev Fills : Step K V → Type 0
  Fills step = (key : K) × (step ≡ Fill key c v) × (eq q key ≡ true)

  made-after : (s : State K V) (m : ℕ) (step : Step K V) → IsSound eq s → IsMadeIn (state_after eq s m step) → IsMadeIn s ⊎ Fills step
  made-after s m (Ask k Hit) sound made = inl (made-hit s k sound.apart made)
  made-after s m (Ask k Claim) sound made = inl (made-claim s m k sound.apart made)
  made-after s m (Ask k Crowded) sound made = inl made
  made-after s m (PinAll ks) sound made = inl (made-hit_all ks s sound made)
  made-after s m (Fill k cost value) sound made = (elim (eq q k) as (λ b. eq q k ≡ b → made_in (cond b (option_map (λ _. Ready 1 cost value) (status_of eq s q)) (status_of eq s q)) ≡ Some (c, v) → IsMadeIn s ⊎ Fills (Fill k cost value)) [
    | true ↦ λ t is. let both = made-filled (status_of eq s q) cost c value v is in inr (k, ap (λ (n : ℕ). Fill k n value) both.0 ∙ ap (λ (x : V). Fill k c x) both.1, t)
    | false ↦ λ t is. inl is
  ]) refl (rw (lookup-to_front eq laws k (λ _. Ready 1 cost value) q s.entries sound.apart) at made)
  made-after s m (Fail k) sound made = (elim (eq q k) as (λ b. made_in (cond b None (status_of eq s q)) ≡ Some (c, v) → IsMadeIn s ⊎ Fills (Fail k)) [
    | true ↦ λ is. cc
    | false ↦ λ is. inl is
  ]) (rw (lookup-remove eq laws k q s.entries sound.apart) at made)
  made-after s m (Spill k cost) sound made = (elim (eq q k) as (λ b. made_in (cond b None (status_of eq s q)) ≡ Some (c, v) → IsMadeIn s ⊎ Fills (Spill k cost)) [
    | true ↦ λ is. cc
    | false ↦ λ is. inl is
  ]) (rw (lookup-remove eq laws k q s.entries sound.apart) at made)
  made-after s m (Unpin k) sound made =
      let before = made-trim (record s { entries = change (eq k) one_pin_less s.entries }) (Apart-change eq laws k one_pin_less s.entries sound.apart) made in
      (elim (eq q k) as (λ b. made_in (cond b (option_map one_pin_less (status_of eq s q)) (status_of eq s q)) ≡ Some (c, v) → IsMadeIn s ⊎ Fills (Unpin k)) [
        | true ↦ λ is. inl (sym (made-less (status_of eq s q)) ∙ is)
        | false ↦ λ is. inl is
      ]) (rw (lookup-change eq laws k one_pin_less q s.entries) at before)
  made-after s m (Limits entries budget) sound made = inl (made-trim (record s { limit = entries; budget = budget }) sound.apart made)
  made-after s m (Hard hard) sound made = inl made

  filled-more : (h : History (Step K V)) (e : ℕ × Step K V) → IsFilled eq h q c v → IsFilled eq (h ++ e ∷ []) q c v
  filled-more h e filled = record {
    front = filled.front;
    number = filled.number;
    key = filled.key;
    back = filled.back ++ e ∷ [];
    is = ap (λ (l : History (Step K V)). l ++ e ∷ []) filled.is ∙ append_assoc filled.front ((filled.number, Fill filled.key c v) ∷ filled.back) (e ∷ []);
    same = filled.same;
  }

  filled-made : (limit budget : ℕ) (h : History (Step K V)) → IsLegal eq limit budget h → IsMadeIn (replay eq limit budget h) → IsFilled eq h q c v
  filled-made limit budget h legal = (by-steps eq limit budget (λ h. IsSound eq (replay eq limit budget h) × (IsMadeIn (replay eq limit budget h) → IsFilled eq h q c v))
      (sound-replay eq laws limit budget [] (none-is-legal V eq limit budget), λ made. cc)
      (λ h e follows here.
      let next : replay eq limit budget (h ++ e ∷ []) ≡ state_after eq (replay eq limit budget h) e.0 e.1 = replay-append eq h (e ∷ []) (opening limit budget) in (
        subst (IsSound eq) (sym next) (sound-after eq laws (replay eq limit budget h) (pins_held eq h e.0) e.0 e.1 here.0 follows),
        λ made. ⊎_elim (λ before. filled-more h e (here.1 before))
            (λ fills. record { front = h; number = e.0; key = fills.0; back = []; is = ap (λ (step : Step K V). h ++ (e.0, step) ∷ []) fills.1; same = fills.2 })
            (made-after (replay eq limit budget h) e.0 e.1 here.0 (subst IsMadeIn next made)),
      )) h legal).1

module _ {K : Type 0} (V : Type 0) (eq : K → K → Bool) (laws : IsEquivalence eq) where
  pub ready-was-filled : ReadyWasFilled V eq
  ready-was-filled limit budget h legal k pins cost value is = filled-made eq laws k cost value limit budget h legal (ap made_in is)
