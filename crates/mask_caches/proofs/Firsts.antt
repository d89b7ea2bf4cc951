-- Keys that are inserted one after another, each where it isn't there already, are those that stand first.
use Rattle.std.proofs.Common.{◌≡◌, ℕ, ◌+◌, ◌<◌, ◌≤◌, ◌||◌, Bool, true, false, not, List, [], ◌∷◌, ◌++◌, length, map, take, get_or, filter, Result, Ok, Err, All, refl, sym, ap, ◌∙◌, subst, append_assoc, append-nil, arith}
use Rattle.std.specs.Cmp.{IsEquivalence}
use Rattle.std.specs.Result.{OnErr}
use Rattle.std.specs.List.{list_any}
use Rattle.std.proofs.lemmas.List.{length-append, map_more}
use Rattle.std.proofs.lemmas.List.Elements.{All-append, All-cons, All-filter, All-head, All-nil, All-tail, filter-append}
use Rattle.indexmap.specs.IndexSet.{insert_all, insert_key}
use Rattle.mask_keys.specs.Equality.{equal_composites}
use Rattle.mask_keys.specs.Keys.{IsValidComposite, IsValidPlan}
use Rattle.mask_keys.proofs.Equal.{composite_same}
use Rattle.mask_keys.proofs.PlanKeyLemmas.{plan_keys-valid}
use Rattle.mask_keys.specs.contracts.composite_key.CompositeKeyEq.TheImpl.Laws as composite_laws
use Rattle.mask_keys.specs.declared.composite_key.CompositeKey.{CompositeKey}
use Rattle.mask_keys.specs.declared.plans.Draw.{Draw}
use Rattle.turn_cell.specs.History.{IsPrefix}
use Rattle.mask_keys.specs.PlanKeys.{plan_keys}
use Rattle.mask_caches.specs.Firsts.{firsts}

module _ {K : Type 0} (eq : K → K → Bool) (laws : IsEquivalence eq) (same : (a b : K) → eq a b ≡ true → a ≡ b) where
  -- a key that isn't x is among those that aren't x where it is among all
  others-any : (k x : K) (ks : List K) → eq k x ≡ false → list_any (eq k) (filter (λ other. not (eq x other)) ks) ≡ list_any (eq k) ks
  others-any k x [] apart = refl
  others-any k x (y ∷ ys) apart = by (eq x y) refl (others-any k x ys apart)
    where
      by : (b : Bool) → eq x y ≡ b → list_any (eq k) (filter (λ other. not (eq x other)) ys) ≡ list_any (eq k) ys → list_any (eq k) (filter (λ other. not (eq x other)) (y ∷ ys)) ≡ list_any (eq k) (y ∷ ys)
      by true is rest = rw (is, ap (eq k) (sym (same x y is)) ∙ apart) rest
      by false is rest = rw is (ap (λ (b : Bool). eq k y || b) rest)

  -- one key more
  firsts-more : (xs : List K) (k : K) → firsts eq (xs ++ k ∷ []) ≡ insert_key eq (firsts eq xs) k
  firsts-more [] k = refl
  firsts-more (x ∷ xs) k =
      let others = λ (other : K). not (eq x other) in
      by (eq k x) (list_any (eq k) (firsts eq xs)) refl refl (firsts-more xs k)
    where
      by : (here among : Bool) → eq k x ≡ here → list_any (eq k) (firsts eq xs) ≡ among → firsts eq (xs ++ k ∷ []) ≡ insert_key eq (firsts eq xs) k
          → firsts eq (x ∷ xs ++ k ∷ []) ≡ insert_key eq (x ∷ filter (λ other. not (eq x other)) (firsts eq xs)) k
      by true true is any more = rw (more, any, is) refl
      by true false is any more = rw (more, any, is, filter-append (λ (other : K). not (eq x other)) (firsts eq xs) (k ∷ []), laws.symm x k, is, append-nil (filter (λ (other : K). not (eq x other)) (firsts eq xs))) refl
      by false true is any more = rw (more, any, is, others-any k x (firsts eq xs) is, any) refl
      by false false is any more = rw (more, any, is, others-any k x (firsts eq xs) is, any, filter-append (λ (other : K). not (eq x other)) (firsts eq xs) (k ∷ []), laws.symm x k, is) refl

  -- more keys
  pub firsts-all : (xs ys : List K) → firsts eq (xs ++ ys) ≡ insert_all eq (firsts eq xs) ys
  firsts-all xs [] = ap (firsts eq) (append-nil xs)
  firsts-all xs (y ∷ ys) = ap (firsts eq) (sym (append_assoc xs (y ∷ []) ys)) ∙ (firsts-all (xs ++ y ∷ []) ys ∙ ap (λ (l : List K). insert_all eq l ys) (firsts-more xs y))

  -- of keys that stand once each is inserted still once
  one-distinct : (ks : List K) (k : K) → firsts eq ks ≡ ks → firsts eq (insert_key eq ks k) ≡ insert_key eq ks k
  one-distinct ks k once = by (list_any (eq k) ks) refl
    where
      by : (b : Bool) → list_any (eq k) ks ≡ b → firsts eq (insert_key eq ks k) ≡ insert_key eq ks k
      by true any = rw any once
      by false any = rw any (firsts-more ks k ∙ (ap (λ (l : List K). insert_key eq l k) once ∙ rw any refl))

  pub all-distinct : (ks xs : List K) → firsts eq ks ≡ ks → firsts eq (insert_all eq ks xs) ≡ insert_all eq ks xs
  all-distinct ks [] once = once
  all-distinct ks (x ∷ xs) once = all-distinct (insert_key eq ks x) xs (one-distinct ks x once)

  -- the keys that were there stay where they stand
  one-begins : (ks : List K) (k : K) → IsPrefix ks (insert_key eq ks k)
  one-begins ks k = by (list_any (eq k) ks) refl
    where
      by : (b : Bool) → list_any (eq k) ks ≡ b → IsPrefix ks (insert_key eq ks k)
      by true any = ([], rw any (append-nil ks))
      by false any = (k ∷ [], rw any refl)

  pub all-begins : (ks xs : List K) → IsPrefix ks (insert_all eq ks xs)
  all-begins ks [] = ([], append-nil ks)
  all-begins ks (x ∷ xs) =
      let one = one-begins ks x in
      let all = all-begins (insert_key eq ks x) xs in
      (one.0 ++ all.0, sym (append_assoc ks one.0 all.0) ∙ (ap (λ (l : List K). l ++ all.0) one.1 ∙ all.1))

  -- what was left out once is left out again
  pub firsts-again : (xs ys : List K) → firsts eq (firsts eq xs ++ ys) ≡ firsts eq (xs ++ ys)
  firsts-again xs ys =
      let is : firsts eq xs ≡ insert_all eq [] xs = firsts-all [] xs in
      let once : firsts eq (firsts eq xs) ≡ firsts eq xs = ap (firsts eq) is ∙ (all-distinct [] xs refl ∙ sym is) in
      firsts-all (firsts eq xs) ys ∙ (ap (λ (l : List K). insert_all eq l ys) once ∙ sym (firsts-all xs ys))

  -- what holds of all keys holds of those
  pub firsts-have : (P : K → Type 0) (xs : List K) → All P xs → All P (firsts eq xs)
  firsts-have P [] all = All-nil P
  firsts-have P (x ∷ xs) all =
      let others = λ (other : K). not (eq x other) in
      All-cons P x (filter others (firsts eq xs)) (All-head P x xs all) (All-filter others P (firsts eq xs) (firsts-have P xs (All-tail P x xs all)))

-- the keys of a valid plan go behind valid keys
pub added-valid : (glyphs : List ℕ) (old new : List CompositeKey) (draws : List Draw) → new ≡ firsts equal_composites (old ++ plan_keys draws) → All (IsValidComposite glyphs) old → IsValidPlan glyphs draws → All (IsValidComposite glyphs) new
added-valid glyphs old new draws is had valid =
    subst (All (IsValidComposite glyphs)) (sym is)
    (firsts-have equal_composites composite_laws.laws-law composite_same (IsValidComposite glyphs) (old ++ plan_keys draws) (All-append (IsValidComposite glyphs) old (plan_keys draws) had (plan_keys-valid glyphs draws valid)))

-- one key more of a list
module _ (known : List CompositeKey) where
  inserted-more : (xs ys : List CompositeKey) (start : List CompositeKey) → insert_all equal_composites start (xs ++ ys) ≡ insert_all equal_composites (insert_all equal_composites start xs) ys
  inserted-more [] ys start = refl
  inserted-more (x ∷ xs) ys start = inserted-more xs ys (insert_key equal_composites start x)

  pub list-more : {K : Type 0} (now : K → CompositeKey) (keys : List K) (n : ℕ) (key : K) (before after : List CompositeKey) → n < length keys → key ≡ get_or keys n key
      → before ≡ insert_all equal_composites known (map now (take n keys)) → after ≡ insert_all equal_composites before (now key ∷ [])
      → after ≡ insert_all equal_composites known (map now (take (n + 1) keys))
  list-more {K} now keys n key before after there is had adds =
      let more : map now (take (n + 1) keys) ≡ map now (take n keys) ++ now key ∷ [] = map_more now keys n key there ∙ ap (λ (k : K). map now (take n keys) ++ now k ∷ []) (sym is) in
      adds ∙ (ap (λ (l : List CompositeKey). insert_all equal_composites l (now key ∷ [])) had ∙ (sym (inserted-more (map now (take n keys)) (now key ∷ []) known) ∙ ap (insert_all equal_composites known) (sym more)))

  -- the keys before it
  pub begins-before : (xs before after : List CompositeKey) → before ≡ insert_all equal_composites known xs → after ≡ before → IsPrefix known after
  begins-before xs before after had same =
      let all = all-begins equal_composites composite_laws.laws-law composite_same known xs in
      (all.0, all.1 ∙ sym (same ∙ had))

-- what an addition leaves of keys that stand once each
module _ (old new keys : List CompositeKey) (is : new ≡ insert_all equal_composites old keys) where
  pub added-firsts : firsts equal_composites old ≡ old → new ≡ firsts equal_composites (old ++ keys)
  added-firsts once = is ∙ sym (firsts-all equal_composites composite_laws.laws-law composite_same old keys ∙ ap (λ (l : List CompositeKey). insert_all equal_composites l keys) once)

  pub added-distinct : firsts equal_composites old ≡ old → firsts equal_composites new ≡ new
  added-distinct once = ap (firsts equal_composites) is ∙ (all-distinct equal_composites composite_laws.laws-law composite_same old keys once ∙ sym is)

  pub added-grows : length old ≤ length new
  added-grows =
      let begins = all-begins equal_composites composite_laws.laws-law composite_same old keys in
      let long : length new ≡ length old + length begins.0 = ap length (is ∙ sym begins.1) ∙ length-append old begins.0 in
      omega arith

pub on-err : {A E P : Type 0} (r : Result A E) → P → OnErr r P
on-err (Ok a) p = tt
on-err (Err e) p = p
