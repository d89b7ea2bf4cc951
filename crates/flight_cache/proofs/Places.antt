-- Lists of keys: how often a key is named, which keys are in a shard, and which can be pinned.
use Rattle.std.proofs.Common.{◌≡◌, ℕ, ◌+◌, ◌<◌, ◌≤◌, ◌==◌, ◌||◌, zero, suc, Bool, true, false, cond, List, [], ◌∷◌, ◌++◌, length, get_or, take, drop, map, filter, reverse, append_assoc, ◌⊎◌, inl, inr, ⊎_elim, Some, refl, sym, ap, ◌∙◌, subst, arith}
use Rattle.std.proofs.lemmas.Bool.{eq-eqb, eqb-true}
use Rattle.std.proofs.lemmas.List.{take_more, drop_more, get_or-map, length-take-le, append-nil, reverse-append}
use Rattle.std.proofs.lemmas.List.Elements.{filter-append}
use Rattle.evict_core.specs.Machine.{State, Hit, HitsEach, ask_answer, hit, hit_all, status_of, max_pins}
use Rattle.evict_core.specs.History.{one_if, times_named}
use Rattle.evict_core.specs.Asked.{ready_pins}
use Rattle.evict_core.specs.Laws.{ArePinnable}
use Rattle.flight_cache.specs.Pinning.{is_named}

module _ {X : Type 0} where
  no-end : (front back : List X) (e : X) → [] ≡ front ++ e ∷ back → ⊥
  no-end [] back e q = cc
  no-end (f ∷ front) back e q = cc

  -- an element of a list with one more at its end is that one, or stands before it
  last-or-before : (h front back : List X) (x e : X) → h ++ x ∷ [] ≡ front ++ e ∷ back → ((front ≡ h) × (e ≡ x)) ⊎ ((rest : List X) × (h ≡ front ++ e ∷ rest))
  last-or-before [] [] back x e q = let same : x ≡ e = cc in inl (refl, sym same)
  last-or-before [] (f ∷ front) back x e q = let rest : [] ≡ front ++ e ∷ back = cc in absurd (no-end front back e rest)
  last-or-before (y ∷ h) [] back x e q = let same : y ≡ e = cc in inr (h, ap (λ z. z ∷ h) same)
  last-or-before (y ∷ h) (f ∷ front) back x e q =
      let same : y ≡ f = cc in
      let rest : h ++ x ∷ [] ≡ front ++ e ∷ back = cc in
      ⊎_elim (λ here. inl (ap (λ z. z ∷ front) (sym same) ∙ ap (λ l. y ∷ l) here.0, here.1)) (λ before. inr (before.0, ap (λ z. z ∷ h) same ∙ ap (λ l. f ∷ l) before.1)) (last-or-before h front back x e rest)

  -- one element more of a list that is filtered
  pub filter-more : (p : X → Bool) (xs : List X) (i : ℕ) (d : X) → i < length xs → filter p (take (i + 1) xs) ≡ filter p (take i xs) ++ cond (p (get_or xs i d)) (get_or xs i d ∷ []) []
  filter-more p xs i d lt = ap (filter p) (take_more xs i d lt) ∙ filter-append p (take i xs) (get_or xs i d ∷ [])

  pub filter-rest : (p : X → Bool) (xs : List X) (i : ℕ) (d : X) → i < length xs → filter p (drop i xs) ≡ cond (p (get_or xs i d)) (get_or xs i d ∷ filter p (drop (i + 1) xs)) (filter p (drop (i + 1) xs))
  filter-rest p xs i d lt = ap (filter p) (drop_more xs i d lt)

module _ {K V : Type 0} (eq : K → K → Bool) (p : K → Bool) (s : State K V) (xs : List K) (i : ℕ) (d : K) (lt : i < length xs) where
  -- one key more is hit
  pub hit-here : p (get_or xs i d) ≡ true → HitsEach eq s (filter p (drop i xs)) → (ask_answer eq s (get_or xs i d) ≡ Some Hit) × HitsEach eq (hit eq s (get_or xs i d)) (filter p (drop (i + 1) xs))
  hit-here t each = rw t at (subst (HitsEach eq s) (filter-rest p xs i d lt) each)

  pub all-here : p (get_or xs i d) ≡ true → hit_all eq s (filter p (drop i xs)) ≡ hit_all eq (hit eq s (get_or xs i d)) (filter p (drop (i + 1) xs))
  all-here t = ap (hit_all eq s) (filter-rest p xs i d lt ∙ ap (λ (b : Bool). cond b (get_or xs i d ∷ filter p (drop (i + 1) xs)) (filter p (drop (i + 1) xs))) t)

  pub none-here : p (get_or xs i d) ≡ false → filter p (drop i xs) ≡ filter p (drop (i + 1) xs)
  none-here t = filter-rest p xs i d lt ∙ ap (λ (b : Bool). cond b (get_or xs i d ∷ filter p (drop (i + 1) xs)) (filter p (drop (i + 1) xs))) t

-- some element of a list that has one
pub some-of : {X : Type 0} (xs : List X) (i : ℕ) → i < length xs → X
some-of [] i lt = absurd (omega arith)
some-of (x ∷ xs) i lt = x

-- tests of numbers, by equations
pub not-equal : (a b : ℕ) → (a ≡ b → ⊥) → (a == b) ≡ false
not-equal a b ne = (elim (a == b) as (λ (v : Bool). (a == b) ≡ v → v ≡ false) [
  | true ↦ λ t. absurd (ne (eqb-true a b t))
  | false ↦ λ t. refl
]) refl

-- the shard of a key by the list of shards
pub shard-at : {K : Type 0} (f : K → ℕ) (xs : List K) (shards : List ℕ) (i n : ℕ) (d : K) → i < length xs → shards ≡ map f xs → n ≡ get_or shards i n → f (get_or xs i d) ≡ n
shard-at f xs shards i n d lt are is = sym (get_or-map f xs i d n lt) ∙ (ap (λ (l : List ℕ). get_or l i n) (sym are) ∙ sym is)

-- the shard of an element is named
pub named-at : (xs : List ℕ) (i d : ℕ) → i < length xs → is_named xs (get_or xs i d) ≡ true
named-at [] i d lt = absurd (omega arith)
named-at (x ∷ xs) zero d lt = rw (eq-eqb x x refl) refl
named-at (x ∷ xs) (suc i) d lt = (elim (x == get_or xs i d) as (λ b. (b || is_named xs (get_or xs i d)) ≡ true) [
  | true ↦ refl
  | false ↦ named-at xs i d (omega arith)
])

module _ {K : Type 0} (eq : K → K → Bool) where
  pub named-append : (k : K) (xs ys : List K) → times_named eq k (xs ++ ys) ≡ times_named eq k xs + times_named eq k ys
  named-append k [] ys = omega arith
  named-append k (x ∷ xs) ys = omega (arith, named-append k xs ys)

  -- one place more
  pub named-more : (k : K) (xs : List K) (i : ℕ) (d : K) → i < length xs → times_named eq k (take (i + 1) xs) ≡ times_named eq k (take i xs) + one_if (eq k (get_or xs i d))
  named-more k xs i d lt = ap (times_named eq k) (take_more xs i d lt) ∙ (named-append k (take i xs) (get_or xs i d ∷ []) ∙ omega arith)

  pub places-more : (k : K) (xs : List K) (i : ℕ) (d : K) → i < length xs → (n m : ℕ) → n ≡ times_named eq k (take i xs) → (b : Bool) → b ≡ eq k (get_or xs i d) → m ≡ n + one_if b → m ≡ times_named eq k (take (i + 1) xs)
  places-more k xs i d lt n m was b tests is = omega (arith, was, is, named-more k xs i d lt, ap one_if tests)

  one-at-most : (b : Bool) → one_if b ≤ 1
  one-at-most true = omega arith
  one-at-most false = omega arith

  named-within : (k : K) (xs : List K) → times_named eq k xs ≤ length xs
  named-within k [] = omega arith
  named-within k (x ∷ xs) = omega (arith, named-within k xs, one-at-most (eq k x))

  -- no more places than elements
  pub named-take : (k : K) (xs : List K) (i : ℕ) → i ≤ length xs → times_named eq k (take i xs) ≤ i
  named-take k xs i le = omega (arith, named-within k (take i xs), length-take-le i xs le)

  -- a filter leaves no more places
  pub named-filter : (p : K → Bool) (k : K) (xs : List K) → times_named eq k (filter p xs) ≤ times_named eq k xs
  named-filter p k [] = omega arith
  named-filter p k (x ∷ xs) = elim (p x) as (λ b. times_named eq k (cond b (x ∷ filter p xs) (filter p xs)) ≤ one_if (eq k x) + times_named eq k xs) [
    | true ↦ omega (arith, named-filter p k xs)
    | false ↦ omega (arith, named-filter p k xs)
  ]

  -- and as many where it keeps each element that is the key
  pub named-kept : (p : K → Bool) (k : K) → ((x : K) → eq k x ≡ true → p x ≡ true) → (xs : List K) → times_named eq k (filter p xs) ≡ times_named eq k xs
  named-kept p k keeps [] = refl
  named-kept p k keeps (x ∷ xs) = (elim (p x) as (λ b. p x ≡ b → times_named eq k (cond b (x ∷ filter p xs) (filter p xs)) ≡ one_if (eq k x) + times_named eq k xs) [
    | true ↦ λ t. omega (arith, named-kept p k keeps xs)
    | false ↦ λ f. (elim (eq k x) as (λ c. eq k x ≡ c → times_named eq k (filter p xs) ≡ one_if c + times_named eq k xs) [
      | true ↦ λ e. let no : true ≡ false = sym (keeps x e) ∙ f in cc
      | false ↦ λ e. omega (arith, named-kept p k keeps xs)
    ]) refl
  ]) refl

  module _ {V : Type 0} (s : State K V) where
    pub none-pinnable : ArePinnable eq s []
    none-pinnable front back k is = absurd (no-end front back k is)

    push-pinnable : (ks : List K) (k : K) → ArePinnable eq s ks → ((pins : ℕ) × (ready_pins (status_of eq s k) ≡ Some pins) × (pins + times_named eq k ks < max_pins)) → ArePinnable eq s (ks ++ k ∷ [])
    push-pinnable ks k all last front back j is = ⊎_elim
        (λ here. subst (λ (f : List K). (pins : ℕ) × (ready_pins (status_of eq s j) ≡ Some pins) × (pins + times_named eq j f < max_pins)) (sym here.0)
        (subst (λ (x : K). (pins : ℕ) × (ready_pins (status_of eq s x) ≡ Some pins) × (pins + times_named eq x ks < max_pins)) (sym here.1) last))
        (λ before. all front before.0 j before.1)
        (last-or-before ks front back k j is)

    -- one key more, which can be pinned where it is in the shard
    pub more-pinnable : (p : K → Bool) (xs : List K) (i : ℕ) (d : K) → i < length xs → ArePinnable eq s (filter p (take i xs))
        → (p (get_or xs i d) ≡ true → (pins : ℕ) × (ready_pins (status_of eq s (get_or xs i d)) ≡ Some pins) × (pins + times_named eq (get_or xs i d) (take i xs) < max_pins))
        → ArePinnable eq s (filter p (take (i + 1) xs))
    more-pinnable p xs i d lt all here =
        subst (ArePinnable eq s) (sym (filter-more p xs i d lt)) ((elim (p (get_or xs i d)) as (λ b. p (get_or xs i d) ≡ b → ArePinnable eq s (filter p (take i xs) ++ cond b (get_or xs i d ∷ []) [])) [
          | true ↦ λ t. let h = here t in push-pinnable (filter p (take i xs)) (get_or xs i d) all (h.0, h.1, omega (arith, h.2, named-filter p (get_or xs i d) (take i xs)))
          | false ↦ λ t. subst (ArePinnable eq s) (sym (append-nil (filter p (take i xs)))) all
        ]) refl)

-- what is taken from the end of one list goes behind another, whose elements stand for it
pub one-taken : {X Y : Type 0} (g : Y → X) (all left before : List X) (given after : List Y) (y : Y) → before ≡ left ++ g y ∷ [] → after ≡ given ++ y ∷ []
    → before ++ map g (reverse given) ≡ all → left ++ map g (reverse after) ≡ all
one-taken {X} g all left before given after y taken put are =
    ap (λ l. left ++ map g l) (ap reverse put ∙ reverse-append given (y ∷ []))
    ∙ (sym (append_assoc left (g y ∷ []) (map g (reverse given)))
    ∙ (ap (λ (l : List X). l ++ map g (reverse given)) (sym taken) ∙ are))
