-- What all actors hold of a key is what each of them holds, added up.
use Rattle.std.proofs.Common.{◌≡◌, ℕ, zero, suc, ◌+◌, ◌<◌, ◌≤◌, Bool, List, [], ◌∷◌, inl, inr, refl, sym, ap, ◌∙◌, arith}
use Rattle.std.proofs.lemmas.Bool.{eq-eqb, ne_eqb, cases_eq}
use Rattle.std.proofs.lemmas.List.Elements.{All-nil, All-cons}
use Rattle.std.proofs.lemmas.List.Sums.{sum_by-cons}
use Rattle.turn_cell.specs.History.{History, IsBelow}
use Rattle.evict_core.specs.Machine.{Step}
use Rattle.evict_core.specs.History.{one_if, pins_held, held_below}
use Rattle.world_core.specs.declared.holding.Holding.{Holding}
use Rattle.world_core.specs.Holdings.{is_of_key, is_held_by, count_held, count_all}

-- what f says of the numbers below n, added up
abbrev pub sum_below : (ℕ → ℕ) → ℕ → ℕ
sum_below f zero = 0
sum_below f (suc n) = sum_below f n + f n

pub below-same : (f g : ℕ → ℕ) → ((m : ℕ) → f m ≡ g m) → (n : ℕ) → sum_below f n ≡ sum_below g n
below-same f g same zero = refl
below-same f g same (suc n) = omega (arith, below-same f g same n, same n)

below-plus : (f g h : ℕ → ℕ) → ((m : ℕ) → f m ≡ g m + h m) → (n : ℕ) → sum_below f n ≡ sum_below g n + sum_below h n
below-plus f g h same zero = refl
below-plus f g h same (suc n) = omega (arith, below-plus f g h same n, same n)

pub below-none : (f : ℕ → ℕ) → ((m : ℕ) → f m ≡ 0) → (n : ℕ) → sum_below f n ≡ 0
below-none f none zero = refl
below-none f none (suc n) = omega (arith, below-none f none n, none n)

-- of one number alone something is said
other-none : (f : ℕ → ℕ) (a : ℕ) → ((m : ℕ) → (a ≡ m → ⊥) → f m ≡ 0) → (n : ℕ) → n ≤ a → sum_below f n ≡ 0
other-none f a none zero within = refl
other-none f a none (suc n) within = omega (arith, other-none f a none n (omega arith), none n (λ (same : a ≡ n). omega arith))

pub below-one : (f : ℕ → ℕ) (a : ℕ) → ((m : ℕ) → (a ≡ m → ⊥) → f m ≡ 0) → (n : ℕ) → a < n → sum_below f n ≡ f a
below-one f a none zero below = absurd (omega arith)
below-one f a none (suc n) below = elim (cases_eq a n) [
  | inl same ↦ let own : f n ≡ f a = ap f (sym same) in omega (arith, other-none f a none n (omega arith), own)
  | inr other ↦ omega (arith, below-one f a none n (omega arith), none n other)
]

module _ {K : Type 0} where
  -- a number above those of all actors in the list
  abbrev pub above_actors : List (Holding K) → ℕ
  above_actors [] = 0
  above_actors (h ∷ hs) = suc h.actor + above_actors hs

module _ {V : Type 0} where
  abbrev pub above_numbers : History V → ℕ
  above_numbers [] = 0
  above_numbers (e ∷ h) = suc e.0 + above_numbers h

  pub is-above : (h : History V) (n : ℕ) → above_numbers h ≤ n → IsBelow n h
  is-above [] n above = All-nil (λ (pair : ℕ × V). pair.0 < n)
  is-above (e ∷ h) n above = All-cons (λ (pair : ℕ × V). pair.0 < n) e h (omega arith) (is-above h n (omega arith))

module _ {K : Type 0} (eq : K → K → Bool) (shard : ℕ) (key : K) where
  -- a holding of the key counts for its actor alone
  own-count : (h : Holding K) (n : ℕ) → h.actor < n → sum_below (λ m. one_if (is_held_by eq m shard key h)) n ≡ one_if (is_of_key eq shard key h)
  own-count h n below = below-one (λ m. one_if (is_held_by eq m shard key h)) h.actor (λ m other. rw (ne_eqb h.actor m other) refl) n below ∙ rw (eq-eqb h.actor h.actor refl) refl

  pub count-everyone : (hs : List (Holding K)) (n : ℕ) → above_actors hs ≤ n → count_all eq shard key hs ≡ sum_below (λ m. count_held eq m shard key hs) n
  count-everyone [] n above = sym (below-none (λ m. count_held eq m shard key []) (λ m. refl) n)
  count-everyone (h ∷ hs) n above =
      let cons : count_all eq shard key (h ∷ hs) ≡ one_if (is_of_key eq shard key h) + count_all eq shard key hs = sum_by-cons (λ (x : Holding K). one_if (is_of_key eq shard key x)) h hs in
      let parts = below-plus (λ m. count_held eq m shard key (h ∷ hs)) (λ m. one_if (is_held_by eq m shard key h)) (λ m. count_held eq m shard key hs)
      (λ m. sum_by-cons (λ (x : Holding K). one_if (is_held_by eq m shard key x)) h hs) n in
      omega (arith, cons, parts, own-count h n (omega arith), count-everyone hs n (omega arith))

module _ {K V : Type 0} (eq : K → K → Bool) where
  pub held-below : (h : History (Step K V)) (key : K) (n : ℕ) → held_below eq h n key ≡ sum_below (λ m. pins_held eq h m key) n
  held-below h key zero = refl
  held-below h key (suc n) = omega (arith, held-below h key n)
