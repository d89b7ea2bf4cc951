-- The map and the list name each other, before and after each edit.
use Rattle.std.proofs.Common.{◌≡◌, IfSome, ℕ, zero, suc, ◌+◌, ◌-◌, ◌<◌, ◌≤◌, Bool, true, false, cond, nat_eq, List, [], ◌∷◌, ◌++◌, length, slice_get, take, Option, Some, None, option_map, inl, inr, ◌⊎◌, refl, sym, ap, ◌∙◌, subst, arith}
use Rattle.std.specs.Cmp.{IsEquivalence, nat_eq_equiv}
use Rattle.std.specs.List.{IsDistinct, swap_remove}
use Rattle.std.specs.Map.{lookup, lookup_entry, remove_entry, keys_of}
use Rattle.std.proofs.lemmas.Bool.{eqb-true, eqb-false, eq-eqb, ne_eqb, cases_eq, cases_lt}
use Rattle.std.proofs.lemmas.Option.{slice_get-get_or, slice_get_past, slice_get_within}
use Rattle.std.proofs.lemmas.List.{get_or-take, length-take}
use Rattle.std.proofs.Common.{get_or, set, get_or-set_other, get_or-set_same}
use Rattle.std.proofs.Math.ListN.{length-set}
use Rattle.evict_core.specs.Recency.{change, Apart}
use Rattle.evict_core.specs.Places.{shown, Ties}
use Rattle.evict_core.proofs.RecencyLemmas.{lookup-congr, lookup-remove, lookup-remove-other, lookup-change, Apart-remove, Apart-change}
use Rattle.evict_core.proofs.PlacesLemmas.{Apart-from_distinct, lookup-at, found-at, Each, each-found, Agrees, lookup-shown, shown-kept, Moves, shown-moved}

same-number : (m n : ℕ) → nat_eq m n ≡ true → m ≡ n
same-number m n h = eqb-true m n h

other-number : (m n : ℕ) → (m ≡ n → ⊥) → nat_eq m n ≡ false
other-number m n h = ne_eqb m n h

pub nothing-passes : {K Y : Type 0} (es : List (K × Y)) → lookup (λ _. false) es ≡ None
nothing-passes [] = refl
nothing-passes (e ∷ es) = nothing-passes es

some-same : {A : Type 0} (x y : A) → Some x ≡ Some y → x ≡ y
some-same x y h = cc

not-both : {A : Type 0} (o : Option A) (x : A) → o ≡ None → o ≡ Some x → ⊥
not-both o x none some = let wrong : None ≡ Some x = sym none ∙ some in cc

-- what an entry that was pushed gives
push-old : {X : Type 0} (xs : List X) (e : X) (i : ℕ) (d : X) → slice_get xs i ≡ Some d → slice_get (xs ++ e ∷ []) i ≡ Some d
push-old [] e i d h = cc
push-old (x ∷ xs) e zero d h = h
push-old (x ∷ xs) e (suc i) d h = push-old xs e i d h

pub push-new : {X : Type 0} (xs : List X) (e : X) → slice_get (xs ++ e ∷ []) (length xs) ≡ Some e
push-new [] e = refl
push-new (x ∷ xs) e = push-new xs e

pushed : {X : Type 0} (xs : List X) (e : X) (i : ℕ) (d : X) → slice_get (xs ++ e ∷ []) i ≡ Some d → (slice_get xs i ≡ Some d) ⊎ ((i ≡ length xs) × (e ≡ d))
pushed [] e zero d h = inr (refl, some-same e d h)
pushed [] e (suc i) d h = cc
pushed (x ∷ xs) e zero d h = inl h
pushed (x ∷ xs) e (suc i) d h = elim (pushed xs e i d h) [
  | inl old ↦ inl old
  | inr new ↦ inr (ap suc new.0, new.1)
]

-- the entries after the one at i was removed and the last took its place
pub record IsSwapRemoved {X : Type 0} (xs ys : List X) (i : ℕ) : Type 0 where
  pub others : (j : ℕ) → (j ≡ i → ⊥) → j + 1 < length xs → slice_get ys j ≡ slice_get xs j
  pub there : i + 1 < length xs → slice_get ys i ≡ slice_get xs (length xs - 1)
  pub past : (j : ℕ) → length xs ≤ j + 1 → slice_get ys j ≡ None

pub IsSwapRemoved-swap_remove : {X : Type 0} (xs : List X) (i : ℕ) (d : X) → i < length xs → IsSwapRemoved xs (swap_remove xs i d) i
IsSwapRemoved-swap_remove {X} xs i d within =
    let last = get_or xs (length xs - 1) d in
    let n = length xs - 1 in
    let ys = set xs i last in
    let len : length ys ≡ length xs = length-set xs i last in
    let len-ys : length (take n ys) ≡ n = omega (arith, length-take n ys, len) in
    record {
      others = λ j differ below.
          slice_get-get_or (take n ys) j d (omega (arith, len-ys, below)) ∙ (ap Some (get_or-take n ys j d (omega arith) ∙ get_or-set_other xs i j last d differ) ∙ sym (slice_get-get_or xs j d (omega arith)));
      there = λ below.
          slice_get-get_or (take n ys) i d (omega (arith, len-ys, below)) ∙ (ap Some (get_or-take n ys i d (omega arith) ∙ get_or-set_same xs i last d within) ∙ sym (slice_get-get_or xs n d (omega arith)));
      past = λ j above. slice_get_past (take n ys) j (omega (arith, len-ys, above));
    }

pub swap-removed : {X : Type 0} (xs ys : List X) (i : ℕ) (r : Option X) (e : X) → r ≡ slice_get xs i → IfSome r (λ p. ys ≡ swap_remove xs i p) → slice_get xs i ≡ Some e → IsSwapRemoved xs ys i
swap-removed xs ys i None e took is some = absurd (not-both (slice_get xs i) e (sym took) some)
swap-removed xs ys i (Some d) e took is some = subst (λ l. IsSwapRemoved xs l i) (sym is) (IsSwapRemoved-swap_remove xs i d (slice_get_within xs i e some))

pub item-of : {K Y : Type 0} (test : K → Bool) (es : List (K × Y)) (e : K × Y) → Some e ≡ lookup_entry test es → lookup test es ≡ Some e.1
item-of test [] e h = cc
item-of test (d ∷ es) e h = (elim (test d.0) as (λ b. test d.0 ≡ b → cond b (Some d.1) (lookup test es) ≡ Some e.1) [
  | true ↦ λ t. let is : Some e ≡ Some d = rw t at h in let same : e ≡ d = cc in sym (ap (λ x. Some x.1) same)
  | false ↦ λ t. item-of test es e (rw t at h)
]) refl

pub no-item : {K Y : Type 0} (test : K → Bool) (es : List (K × Y)) → None ≡ lookup_entry test es → (lookup test es ≡ None) × (remove_entry test es ≡ es)
no-item test [] h = (refl, refl)
no-item test (d ∷ es) h = (elim (test d.0) as (λ b. test d.0 ≡ b → (cond b (Some d.1) (lookup test es) ≡ None) × (cond b es (d ∷ remove_entry test es) ≡ d ∷ es)) [
  | true ↦ λ t. let wrong : None ≡ Some d = rw t at h in cc
  | false ↦ λ t. let rest = no-item test es (rw t at h) in (rest.0, ap (λ l. d ∷ l) rest.1)
]) refl

module _ {K P X : Type 0} (index : P → ℕ) (view : P → X) (eq : K → K → Bool) (laws : IsEquivalence eq) (es : List (K × ℕ)) (os : List (ℕ × P)) (next : ℕ) (tied : Ties index eq es os next) where
  -- the key that has the number n in the map
  pub agree : (q : K) (n : ℕ) → lookup (eq q) es ≡ Some n → Each (Agrees index view es (eq q) (nat_eq n)) os
  agree q n found = each-found (Agrees index view es (eq q) (nat_eq n)) os tied.numbers (λ m p there.
      let named = tied.named m p there in
      let apart = Apart-from_distinct eq es tied.keys in (
        named.0,
        named.1,
        (elim (nat_eq n m) as (λ b. nat_eq n m ≡ b → eq q named.0 ≡ b) [
          | true ↦ λ t.
              let at = found-at (eq q) es n found in
              let place = tied.listed at.0 (at.1, n) at.2 in
              let same : p ≡ place.0 = some-same p place.0 (sym there ∙ (sym (lookup-congr nat_eq nat_eq_equiv n m t os) ∙ place.1)) in
              let entry : Some (named.0, m) ≡ Some (at.1, n) = sym named.1 ∙ (ap (λ (x : P). slice_get es (index x)) same ∙ (ap (λ (i : ℕ). slice_get es i) place.2 ∙ at.2)) in
              let key : named.0 ≡ at.1 = ap (λ (e : K × ℕ). e.0) (some-same _ _ entry) in
              ap (eq q) key ∙ at.3
          | false ↦ λ t. (elim (eq q named.0) as (λ b. eq q named.0 ≡ b → b ≡ false) [
            | true ↦ λ u.
                let number : n ≡ m = some-same n m (sym found ∙ lookup-at eq laws es (index p) (named.0, m) q apart named.1 u) in
                absurd (eqb-false n m t number)
            | false ↦ λ u. refl
          ]) refl
        ]) refl,
      ))

  pub agree-none : (q : K) → lookup (eq q) es ≡ None → Each (Agrees index view es (eq q) (λ _. false)) os
  agree-none q none = each-found (Agrees index view es (eq q) (λ _. false)) os tied.numbers (λ m p there.
      let named = tied.named m p there in (
        named.0,
        named.1,
        (elim (eq q named.0) as (λ b. eq q named.0 ≡ b → b ≡ false) [
          | true ↦ λ u. absurd (not-both (lookup (eq q) es) m none (lookup-at eq laws es (index p) (named.0, m) q (Apart-from_distinct eq es tied.keys) named.1 u))
          | false ↦ λ u. refl
        ]) refl,
      ))

  -- what the list has where the map has a number
  pub place-of : (q : K) (n : ℕ) → lookup (eq q) es ≡ Some n → (p : P) × (lookup (nat_eq n) os ≡ Some p)
  place-of q n found = let at = found-at (eq q) es n found in let place = tied.listed at.0 (at.1, n) at.2 in (place.0, place.1)

  pub lookup-found : (q : K) (n : ℕ) → lookup (eq q) es ≡ Some n → lookup (eq q) (shown index view es os) ≡ option_map view (lookup (nat_eq n) os)
  lookup-found q n found = lookup-shown index view es (eq q) (nat_eq n) os (agree q n found)

  pub lookup-missing : (q : K) → lookup (eq q) es ≡ None → lookup (eq q) (shown index view es os) ≡ None
  lookup-missing q none = lookup-shown index view es (eq q) (λ _. false) os (agree-none q none) ∙ ap (option_map view) (nothing-passes os)

  -- a key that isn't shown isn't in the map
  pub missing-in-map : (q : K) → lookup (eq q) (shown index view es os) ≡ None → lookup (eq q) es ≡ None
  missing-in-map q none = by (lookup (eq q) es) refl
    where
      by : (o : Option ℕ) → lookup (eq q) es ≡ o → o ≡ None
      by None h = refl
      by (Some n) h = let place = place-of q n h in absurd (not-both (lookup (eq q) (shown index view es os)) (view place.0) none (lookup-found q n h ∙ ap (option_map view) place.1))

  -- a place was written, and keeps its index
  pub ties-written : (n : ℕ) (x w : P) (os' : List (ℕ × P)) → lookup (nat_eq n) os ≡ Some x → index w ≡ index x → Apart nat_eq os'
      → ((m : ℕ) → lookup (nat_eq m) os' ≡ cond (nat_eq m n) (option_map (λ _. w) (lookup (nat_eq m) os)) (lookup (nat_eq m) os)) → Ties index eq es os' next
  ties-written n x w os' here same apart lookups = record {
    keys = tied.keys;
    numbers = apart;
    named = λ m p found. let was = back m p found in let named = tied.named m was.0 was.1 in (named.0, ap (λ (i : ℕ). slice_get es i) was.2 ∙ named.1);
    listed = λ i e at. let place = tied.listed i e at in forth e.1 place.0 place.1 i place.2;
    fresh = λ m p found. let was = back m p found in tied.fresh m was.0 was.1;
  }
    where
      back : (m : ℕ) (p : P) → lookup (nat_eq m) os' ≡ Some p → (q : P) × (lookup (nat_eq m) os ≡ Some q) × (index p ≡ index q)
      back m p found = (elim (nat_eq m n) as (λ b. nat_eq m n ≡ b → (q : P) × (lookup (nat_eq m) os ≡ Some q) × (index p ≡ index q)) [
        | true ↦ λ t. let old : lookup (nat_eq m) os ≡ Some x = lookup-congr nat_eq nat_eq_equiv m n t os ∙ here in
            let new : Some w ≡ Some p = sym (rw (t, old) at (lookups m)) ∙ found in
            (x, old, ap index (sym (some-same w p new)) ∙ same)
        | false ↦ λ t. (p, sym (rw t at (lookups m)) ∙ found, refl)
      ]) refl

      forth : (m : ℕ) (q : P) → lookup (nat_eq m) os ≡ Some q → (i : ℕ) → index q ≡ i → (p : P) × (lookup (nat_eq m) os' ≡ Some p) × (index p ≡ i)
      forth m q found i at = (elim (nat_eq m n) as (λ b. nat_eq m n ≡ b → (p : P) × (lookup (nat_eq m) os' ≡ Some p) × (index p ≡ i)) [
        | true ↦ λ t. let is : x ≡ q = some-same x q (sym here ∙ (sym (lookup-congr nat_eq nat_eq_equiv m n t os) ∙ found)) in
            (w, rw (t, found) at (lookups m), same ∙ (ap index is ∙ at))
        | false ↦ λ t. (q, rw t at (lookups m) ∙ found, at)
      ]) refl

  -- the number next was put first, and its key at the end of the map
  pub ties-pushed : (k : K) (x : P) → index x ≡ length es → IsDistinct eq (keys_of (es ++ (k, next) ∷ [])) → Ties index eq (es ++ (k, next) ∷ []) ((next, x) ∷ os) (next + 1)
  ties-pushed k x at distinct = record {
    keys = distinct;
    numbers = (free (lookup (nat_eq next) os) refl, tied.numbers);
    named = λ m p found. (elim (nat_eq m next) as (λ b. nat_eq m next ≡ b → (j : K) × (slice_get (es ++ (k, next) ∷ []) (index p) ≡ Some (j, m))) [
      | true ↦ λ t. let is : x ≡ p = some-same x p (rw t at found) in
          (k, ap (λ (i : ℕ). slice_get (es ++ (k, next) ∷ []) i) (ap index (sym is) ∙ at) ∙ (push-new es (k, next) ∙ ap (λ (j : ℕ). Some (k, j)) (sym (same-number m next t))))
      | false ↦ λ t. let named = tied.named m p (rw t at found) in (named.0, push-old es (k, next) (index p) (named.0, m) named.1)
    ]) refl;
    listed = λ i e there. elim (pushed es (k, next) i e there) [
      | inl old ↦ let place = tied.listed i e old in
          let below = tied.fresh e.1 place.0 place.1 in
          let differ = other-number e.1 next (λ (same : e.1 ≡ next). omega arith) in
          (place.0, rw differ place.1, place.2)
      | inr new ↦ let number : next ≡ e.1 = ap (λ (d : K × ℕ). d.1) new.1 in
          (x, rw (eq-eqb e.1 next (sym number)), at ∙ sym new.0)
    ];
    fresh = λ m p found. (elim (nat_eq m next) as (λ b. nat_eq m next ≡ b → m < next + 1) [
      | true ↦ λ t. let is = same-number m next t in omega arith
      | false ↦ λ t. omega (arith, tied.fresh m p (rw t at found))
    ]) refl;
  }
    where
      free : (o : Option P) → lookup (nat_eq next) os ≡ o → o ≡ None
      free None h = refl
      free (Some p) h = absurd (omega (arith, tied.fresh next p h))

  pub shown-pushed : (k : K) → shown index view (es ++ (k, next) ∷ []) os ≡ shown index view es os
  shown-pushed k = shown-kept index view es (es ++ (k, next) ∷ []) os (each-found (λ o. slice_get (es ++ (k, next) ∷ []) (index o.1) ≡ slice_get es (index o.1)) os tied.numbers (λ m p found.
      let named = tied.named m p found in push-old es (k, next) (index p) (named.0, m) named.1 ∙ sym named.1))

  -- the number n was taken out of the list, and its entry out of the map
  module _ (n : ℕ) (x : P) (here : lookup (nat_eq n) os ≡ Some x) (es' : List (K × ℕ)) (removed : IsSwapRemoved es es' (index x)) (distinct : IsDistinct eq (keys_of es')) where
    abbrev rest : List (ℕ × P)
    rest = remove_entry (nat_eq n) os

    rest-apart : Apart nat_eq rest
    rest-apart = Apart-remove nat_eq nat_eq_equiv n os tied.numbers

    rest-was : (m : ℕ) (p : P) → lookup (nat_eq m) rest ≡ Some p → (lookup (nat_eq m) os ≡ Some p) × (m ≡ n → ⊥)
    rest-was m p found = let is = lookup-remove nat_eq nat_eq_equiv n m os tied.numbers in (elim (nat_eq m n) as (λ b. nat_eq m n ≡ b → (lookup (nat_eq m) os ≡ Some p) × (m ≡ n → ⊥)) [
      | true ↦ λ t. let wrong : None ≡ Some p = sym (rw t at is) ∙ found in cc
      | false ↦ λ t. (sym (rw t at is) ∙ found, eqb-false m n t)
    ]) refl

    rest-has : (m : ℕ) (p : P) → lookup (nat_eq m) os ≡ Some p → (m ≡ n → ⊥) → lookup (nat_eq m) rest ≡ Some p
    rest-has m p found differ = lookup-remove-other nat_eq nat_eq_equiv n m os (other-number m n differ) ∙ found

    -- two numbers with places at one index are the same
    one-index : (m l : ℕ) (p q : P) → lookup (nat_eq m) os ≡ Some p → lookup (nat_eq l) os ≡ Some q → index p ≡ index q → m ≡ l
    one-index m l p q found also same =
        let a = tied.named m p found in let b = tied.named l q also in
        ap (λ (e : K × ℕ). e.1) (some-same (a.0, m) (b.0, l) (sym a.1 ∙ (ap (λ (i : ℕ). slice_get es i) same ∙ b.1)))

    within : (m : ℕ) (p : P) → lookup (nat_eq m) os ≡ Some p → index p < length es
    within m p found = let named = tied.named m p found in slice_get_within es (index p) (named.0, m) named.1

    -- the map says whether it was the last
    pub was-last : None ≡ slice_get es' (index x) → index x + 1 ≡ length es
    was-last none = elim (cases_lt (index x + 1) (length es)) [
      | inl below ↦ let last = slice_get-get_or es (length es - 1) ((tied.named n x here).0, n) (omega arith) in absurd (not-both (slice_get es' (index x)) _ (sym none) (removed.there below ∙ last))
      | inr above ↦ omega (arith, above, within n x here)
    ]

    pub was-moved : (e : K × ℕ) → Some e ≡ slice_get es' (index x) → (index x + 1 < length es) × (slice_get es (length es - 1) ≡ Some e)
    was-moved e some = elim (cases_lt (index x + 1) (length es)) [
      | inl below ↦ (below, sym (removed.there below) ∙ sym some)
      | inr above ↦ absurd (not-both (slice_get es' (index x)) e (removed.past (index x) above) (sym some))
    ]

    pub has-moved : (e : K × ℕ) → Some e ≡ slice_get es' (index x) → (p : P) × (lookup (nat_eq e.1) rest ≡ Some p)
    has-moved e some = let moved = was-moved e some in let place = tied.listed (length es - 1) e moved.1 in (
      place.0,
      rest-has e.1 place.0 place.1 (λ (same : e.1 ≡ n).
          let is : place.0 ≡ x = some-same place.0 x (sym place.1 ∙ (ap (λ (j : ℕ). lookup (nat_eq j) os) same ∙ here)) in
          let at : length es - 1 ≡ index x = sym place.2 ∙ ap index is in omega (arith, at, moved.0)),
    )

    -- its entry was the last one
    module _ (last : index x + 1 ≡ length es) where
      kept-last : (m : ℕ) (p : P) → lookup (nat_eq m) rest ≡ Some p → slice_get es' (index p) ≡ slice_get es (index p)
      kept-last m p found = let was = rest-was m p found in
          let differ : index p ≡ index x → ⊥ = λ (same : index p ≡ index x). was.1 (one-index m n p x was.0 here same) in
          removed.others (index p) differ (other-below (index p) (within m p was.0) differ)
        where
          other-below : (i : ℕ) → i < length es → (i ≡ index x → ⊥) → i + 1 < length es
          other-below i below differ = elim (cases_eq i (index x)) [
            | inl same ↦ absurd (differ same)
            | inr other ↦ omega (arith, last, below, other)
          ]

      pub shown-last : shown index view es' rest ≡ shown index view es rest
      shown-last = shown-kept index view es es' rest (each-found (λ o. slice_get es' (index o.1) ≡ slice_get es (index o.1)) rest rest-apart kept-last)

      pub ties-last : Ties index eq es' rest next
      ties-last = record {
        keys = distinct;
        numbers = rest-apart;
        named = λ m p found. let was = rest-was m p found in let named = tied.named m p was.0 in (named.0, kept-last m p found ∙ named.1);
        listed = λ i e at. elim (cases_lt (i + 1) (length es)) [
          | inl below ↦ let differ : i ≡ index x → ⊥ = λ (same : i ≡ index x). omega arith in
              let place = tied.listed i e (sym (removed.others i differ below) ∙ at) in
              let other : e.1 ≡ n → ⊥ = λ (same : e.1 ≡ n). differ (sym place.2 ∙ ap index (some-same place.0 x (sym place.1 ∙ (ap (λ (j : ℕ). lookup (nat_eq j) os) same ∙ here)))) in
              (place.0, rest-has e.1 place.0 place.1 other, place.2)
          | inr above ↦ absurd (not-both (slice_get es' i) e (removed.past i above) at)
        ];
        fresh = λ m p found. tied.fresh m p (rest-was m p found).0;
      }

    -- the last entry has taken its place, and its number l has been told
    module _ (before : index x + 1 < length es) (j : K) (l : ℕ) (ends : slice_get es (length es - 1) ≡ Some (j, l)) (old w : P) (was-last : lookup (nat_eq l) rest ≡ Some old) (at : index w ≡ index x) (shows : view w ≡ view old) where
      old-at : index old ≡ length es - 1
      old-at = let place = tied.listed (length es - 1) (j, l) ends in
          ap index (some-same old place.0 (sym (rest-was l old was-last).0 ∙ place.1)) ∙ place.2

      kept-other : (m : ℕ) (p : P) → lookup (nat_eq m) rest ≡ Some p → (m ≡ l → ⊥) → slice_get es' (index p) ≡ slice_get es (index p)
      kept-other m p found other = let was = rest-was m p found in
          let differ : index p ≡ index x → ⊥ = λ (same : index p ≡ index x). was.1 (one-index m n p x was.0 here same) in
          let not-last : index p ≡ index old → ⊥ = λ (same : index p ≡ index old). other (one-index m l p old was.0 (rest-was l old was-last).0 same) in
          removed.others (index p) differ (below (index p) (within m p was.0) not-last)
        where
          below : (i : ℕ) → i < length es → (i ≡ index old → ⊥) → i + 1 < length es
          below i inside not-last = elim (cases_eq i (length es - 1)) [
            | inl same ↦ absurd (not-last (same ∙ sym old-at))
            | inr other ↦ omega (arith, inside, other)
          ]

      moved-there : slice_get es' (index w) ≡ slice_get es (index old)
      moved-there = ap (λ (i : ℕ). slice_get es' i) at ∙ (removed.there before ∙ ap (λ (i : ℕ). slice_get es i) (sym old-at))

      pub shown-swapped : shown index view es' (change (nat_eq l) (λ _. w) rest) ≡ shown index view es rest
      shown-swapped = shown-moved index view es es' l (λ _. w) rest rest-apart (each-found (Moves index view es es' l (λ _. w)) rest rest-apart (λ m p found. (
        λ t. let is : old ≡ p = some-same old p (sym was-last ∙ (lookup-congr nat_eq nat_eq_equiv l m t rest ∙ found)) in
            (moved-there ∙ ap (λ (y : P). slice_get es (index y)) is, shows ∙ ap view is),
        λ t. kept-other m p found (λ (same : m ≡ l). eqb-false l m t (sym same)),
      )))

      new-lookup : (m : ℕ) → lookup (nat_eq m) (change (nat_eq l) (λ _. w) rest) ≡ cond (nat_eq m l) (option_map (λ _. w) (lookup (nat_eq m) rest)) (lookup (nat_eq m) rest)
      new-lookup m = lookup-change nat_eq nat_eq_equiv l (λ _. w) m rest

      at-l : (m : ℕ) → nat_eq m l ≡ true → lookup (nat_eq m) (change (nat_eq l) (λ _. w) rest) ≡ Some w
      at-l m t = let is : lookup (nat_eq m) rest ≡ Some old = lookup-congr nat_eq nat_eq_equiv m l t rest ∙ was-last in rw (t, is) at (new-lookup m)

      pub ties-swapped : Ties index eq es' (change (nat_eq l) (λ _. w) rest) next
      ties-swapped = record {
        keys = distinct;
        numbers = Apart-change nat_eq nat_eq_equiv l (λ _. w) rest rest-apart;
        named = λ m p found. (elim (nat_eq m l) as (λ b. nat_eq m l ≡ b → (k : K) × (slice_get es' (index p) ≡ Some (k, m))) [
          | true ↦ λ t. let is : w ≡ p = some-same w p (sym (at-l m t) ∙ found) in
              (j, ap (λ (y : P). slice_get es' (index y)) (sym is) ∙ (moved-there ∙ (ap (λ (i : ℕ). slice_get es i) old-at ∙ (ends ∙ ap (λ (i : ℕ). Some (j, i)) (sym (same-number m l t))))))
          | false ↦ λ t. let there : lookup (nat_eq m) rest ≡ Some p = sym (rw t at (new-lookup m)) ∙ found in
              let named = tied.named m p (rest-was m p there).0 in (named.0, kept-other m p there (eqb-false m l t) ∙ named.1)
        ]) refl;
        listed = λ i e there. elim (cases_eq i (index x)) [
          | inl same ↦ let number : l ≡ e.1 = ap (λ (d : K × ℕ). d.1) (some-same (j, l) e (sym ends ∙ (sym (removed.there before) ∙ (ap (λ (h : ℕ). slice_get es' h) (sym same) ∙ there)))) in
              (w, at-l e.1 (eq-eqb e.1 l (sym number)), at ∙ sym same)
          | inr differ ↦ elim (cases_lt (i + 1) (length es)) [
            | inl below ↦ let place = tied.listed i e (sym (removed.others i differ below) ∙ there) in
                let other : e.1 ≡ n → ⊥ = λ (same : e.1 ≡ n). differ (sym place.2 ∙ ap index (some-same place.0 x (sym place.1 ∙ (ap (λ (j : ℕ). lookup (nat_eq j) os) same ∙ here)))) in
                let not-last : e.1 ≡ l → ⊥ = λ (same : e.1 ≡ l).
                let is : index place.0 ≡ index old = ap index (some-same place.0 old (sym place.1 ∙ (ap (λ (j : ℕ). lookup (nat_eq j) os) same ∙ (rest-was l old was-last).0))) in
                let far : i ≡ length es - 1 = sym place.2 ∙ (is ∙ old-at) in omega arith in
                (place.0, rw (other-number e.1 l not-last) at (new-lookup e.1) ∙ rest-has e.1 place.0 place.1 other, place.2)
            | inr above ↦ absurd (not-both (slice_get es' i) e (removed.past i above) there)
          ]
        ];
        fresh = λ m p found. (elim (nat_eq m l) as (λ b. nat_eq m l ≡ b → m < next) [
          | true ↦ λ t. tied.fresh m old (lookup-congr nat_eq nat_eq_equiv m l t os ∙ (rest-was l old was-last).0)
          | false ↦ λ t. tied.fresh m p (rest-was m p (sym (rw t at (new-lookup m)) ∙ found)).0
        ]) refl;
      }
