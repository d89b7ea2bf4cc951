-- What an edit of the list of numbers does to the entries that it shows.
use Rattle.std.proofs.Common.{◌≡◌, ℕ, zero, suc, Bool, true, false, cond, ◌||◌, nat_eq, List, [], ◌∷◌, length, slice_get, Option, Some, None, option_map, refl, sym, ap, ◌∙◌, subst}
use Rattle.std.specs.Cmp.{IsEquivalence, nat_eq_equiv}
use Rattle.std.specs.List.{IsDistinct, AllByRecursion}
use Rattle.std.specs.Map.{lookup, lookup_entry, remove_entry, set_value, keys_of}
use Rattle.std.specs.Option.{option_map_or}
use Rattle.std.proofs.lemmas.Map.Keys.{IsDistinct-head, IsDistinct-tail}
use Rattle.lru.specs.LruCache.{promoted}
use Rattle.evict_core.specs.Recency.{some_passes, without_last, to_front, change, Apart}
use Rattle.evict_core.specs.Places.{shown}
use Rattle.evict_core.proofs.RecencyLemmas.{lookup-congr}

absent : {K Y : Type 0} (eq : K → K → Bool) (k : K) (es : List (K × Y)) → AllByRecursion (λ y. eq k y ≡ false) (keys_of es) → lookup (eq k) es ≡ None
absent eq k [] apart = refl
absent eq k (e ∷ es) apart = rw (apart.0, absent eq k es apart.1)

pub Apart-from_distinct : {K Y : Type 0} (eq : K → K → Bool) (es : List (K × Y)) → IsDistinct eq (keys_of es) → Apart eq es
Apart-from_distinct eq [] distinct = tt
Apart-from_distinct eq (e ∷ es) distinct = (absent eq e.0 es (IsDistinct-head eq e.0 (keys_of es) distinct), Apart-from_distinct eq es (IsDistinct-tail eq e.0 (keys_of es) distinct))

pub lookup-at : {K Y : Type 0} (eq : K → K → Bool) → IsEquivalence eq → (es : List (K × Y)) (i : ℕ) (e : K × Y) (q : K) → Apart eq es → slice_get es i ≡ Some e → eq q e.0 ≡ true → lookup (eq q) es ≡ Some e.1
lookup-at eq laws [] i e q apart at same = cc
lookup-at {K} {Y} eq laws (d ∷ es) zero e q apart at same = let is : d ≡ e = cc in let here : eq q d.0 ≡ true = subst (λ (x : K × Y). eq q x.0 ≡ true) (sym is) same in rw here (ap (λ (x : K × Y). Some x.1) is)
lookup-at eq laws (d ∷ es) (suc i) e q apart at same = let later = lookup-at eq laws es i e q apart.1 at same in
    (elim (eq q d.0) as (λ b. eq q d.0 ≡ b → cond b (Some d.1) (lookup (eq q) es) ≡ Some e.1) [
      | true ↦ λ t. let wrong : None ≡ Some e.1 = sym apart.0 ∙ (sym (lookup-congr eq laws q d.0 t es) ∙ later) in cc
      | false ↦ λ t. later
    ]) refl

pub found-at : {K Y : Type 0} (test : K → Bool) (es : List (K × Y)) (y : Y) → lookup test es ≡ Some y → (i : ℕ) × (k : K) × (slice_get es i ≡ Some (k, y)) × (test k ≡ true)
found-at test [] y found = cc
found-at test (e ∷ es) y found = (elim (test e.0) as (λ b. test e.0 ≡ b → (i : ℕ) × (k : _) × (slice_get (e ∷ es) i ≡ Some (k, y)) × (test k ≡ true)) [
  | true ↦ λ t. let is : Some e.1 ≡ Some y = rw t at found in let same : e.1 ≡ y = cc in (0, e.0, ap (λ v. Some (e.0, v)) same, t)
  | false ↦ λ t. let later = found-at test es y (rw t at found) in (suc later.0, later.1, later.2, later.3)
]) refl

module _ {P : Type 0} where
  -- the fact holds of each number with its place
  abbrev pub Each : (ℕ × P → Type 0) → List (ℕ × P) → Type 0
  Each F [] = Unit {0}
  Each F (o ∷ os) = F o × Each F os

  pub each-found : (F : ℕ × P → Type 0) (os : List (ℕ × P)) → Apart nat_eq os → ((n : ℕ) (p : P) → lookup (nat_eq n) os ≡ Some p → F (n, p)) → Each F os
  each-found F [] apart all = tt
  each-found F (o ∷ os) apart all = (
    all o.0 o.1 (rw (nat_eq_equiv.refl o.0)),
    each-found F os apart.1 (λ n p found. all n p ((elim (nat_eq n o.0) as (λ b. nat_eq n o.0 ≡ b → cond b (Some o.1) (lookup (nat_eq n) os) ≡ Some p) [
      | true ↦ λ t. let wrong : None ≡ Some p = sym apart.0 ∙ (sym (lookup-congr nat_eq nat_eq_equiv n o.0 t os) ∙ found) in cc
      | false ↦ λ t. found
    ]) refl)),
  )

  -- what lru makes of a write to an entry
  pub write-front : (test : ℕ → Bool) (os : List (ℕ × P)) (w : P) → set_value test (promoted test os) w ≡ to_front test (λ _. w) os
  write-front test os w = by (lookup_entry test os) refl
    where
      none-set : (os : List (ℕ × P)) → lookup_entry test os ≡ None → set_value test os w ≡ os
      none-set [] h = refl
      none-set (o ∷ os) h = (elim (test o.0) as (λ b. test o.0 ≡ b → cond b ((o.0, w) ∷ os) (o ∷ set_value test os w) ≡ o ∷ os) [
        | true ↦ λ t. let wrong : Some o ≡ None = rw t at h in cc
        | false ↦ λ t. ap (λ (l : List (ℕ × P)). o ∷ l) (none-set os (rw t at h))
      ]) refl

      found : (os : List (ℕ × P)) (o : ℕ × P) → lookup_entry test os ≡ Some o → test o.0 ≡ true
      found [] o h = cc
      found (d ∷ os) o h = (elim (test d.0) as (λ b. test d.0 ≡ b → test o.0 ≡ true) [
        | true ↦ λ t. let is : Some d ≡ Some o = rw t at h in let same : d ≡ o = cc in subst (λ (x : ℕ × P). test x.0 ≡ true) same t
        | false ↦ λ t. found os o (rw t at h)
      ]) refl

      by : (r : Option (ℕ × P)) → lookup_entry test os ≡ r → set_value test (option_map_or (λ e. e ∷ remove_entry test os) r os) w ≡ option_map_or (λ e. (e.0, w) ∷ remove_entry test os) r os
      by None h = none-set os h
      by (Some o) h = rw (found os o h)

  pub write-there : (test : ℕ → Bool) (os : List (ℕ × P)) (w : P) → set_value test os w ≡ change test (λ _. w) os
  write-there test [] w = refl
  write-there test (o ∷ os) w = rw (write-there test os w)

module _ {K P X : Type 0} (index : P → ℕ) (view : P → X) (es : List (K × ℕ)) where
  -- the place names an entry of the map, whose key passes where the number does
  abbrev pub Agrees : (K → Bool) → (ℕ → Bool) → ℕ × P → Type 0
  Agrees q p o = (k : K) × (slice_get es (index o.1) ≡ Some (k, o.0)) × (q k ≡ p o.0)

  module _ (q : K → Bool) (p : ℕ → Bool) where
    pub lookup-shown : (os : List (ℕ × P)) → Each (Agrees q p) os → lookup q (shown index view es os) ≡ option_map view (lookup p os)
    lookup-shown [] all = refl
    lookup-shown (o ∷ os) all = let s = all.0 in rw (s.1, s.2) (elim (p o.0) as (λ b. cond b (Some (view o.1)) (lookup q (shown index view es os)) ≡ option_map view (cond b (Some o.1) (lookup p os))) [
      | true ↦ refl
      | false ↦ lookup-shown os all.1
    ])

    pub remove-shown : (os : List (ℕ × P)) → Each (Agrees q p) os → remove_entry q (shown index view es os) ≡ shown index view es (remove_entry p os)
    remove-shown [] all = refl
    remove-shown (o ∷ os) all = let s = all.0 in rw s.1 (rw s.2 (elim (p o.0) as (λ b. cond b (shown index view es os) ((s.0, view o.1) ∷ remove_entry q (shown index view es os)) ≡ shown index view es (cond b os (o ∷ remove_entry p os))) [
      | true ↦ refl
      | false ↦ rw (s.1, remove-shown os all.1)
    ]))

    shown-none : (os : List (ℕ × P)) → Each (Agrees q p) os → lookup_entry p os ≡ None → lookup_entry q (shown index view es os) ≡ None
    shown-none [] all h = refl
    shown-none (o ∷ os) all h = let s = all.0 in rw (s.1, s.2) ((elim (p o.0) as (λ b. p o.0 ≡ b → cond b (Some (s.0, view o.1)) (lookup_entry q (shown index view es os)) ≡ None) [
      | true ↦ λ t. let wrong : Some o ≡ None = rw t at h in cc
      | false ↦ λ t. shown-none os all.1 (rw t at h)
    ]) refl)

    shown-some : (os : List (ℕ × P)) (o : ℕ × P) → Each (Agrees q p) os → lookup_entry p os ≡ Some o → (k : K) × (lookup_entry q (shown index view es os) ≡ Some (k, view o.1)) × (slice_get es (index o.1) ≡ Some (k, o.0))
    shown-some [] o all h = cc
    shown-some (d ∷ os) o all h = let s = all.0 in (elim (p d.0) as (λ b. p d.0 ≡ b → (k : K) × (lookup_entry q (shown index view es (d ∷ os)) ≡ Some (k, view o.1)) × (slice_get es (index o.1) ≡ Some (k, o.0))) [
      | true ↦ λ t. let is : Some d ≡ Some o = rw t at h in let same : d ≡ o = cc in
          (s.0, rw (s.1, s.2, t) (ap (λ (x : ℕ × P). Some (s.0, view x.1)) same), subst (λ (x : ℕ × P). slice_get es (index x.1) ≡ Some (s.0, x.0)) same s.1)
      | false ↦ λ t. let later = shown-some os o all.1 (rw t at h) in (later.0, rw (s.1, s.2, t) later.1, later.2)
    ]) refl

    module _ (f : X → X) (g : P → P) where
      -- the changed place stays where it is, and shows the changed item
      abbrev pub Follows : List (ℕ × P) → Type 0
      Follows os = (x : P) → lookup p os ≡ Some x → (view (g x) ≡ f (view x)) × (index (g x) ≡ index x)

      pub to_front-shown : (os : List (ℕ × P)) → Each (Agrees q p) os → Follows os → to_front q f (shown index view es os) ≡ shown index view es (to_front p g os)
      to_front-shown os all follows = by (lookup_entry p os) refl
        where
          item : (os : List (ℕ × P)) (o : ℕ × P) → lookup_entry p os ≡ Some o → lookup p os ≡ Some o.1
          item [] o h = cc
          item (d ∷ os) o h = (elim (p d.0) as (λ b. p d.0 ≡ b → cond b (Some d.1) (lookup p os) ≡ Some o.1) [
            | true ↦ λ t. let is : Some d ≡ Some o = rw t at h in let same : d ≡ o = cc in ap (λ (x : ℕ × P). Some x.1) same
            | false ↦ λ t. item os o (rw t at h)
          ]) refl

          by : (r : Option (ℕ × P)) → lookup_entry p os ≡ r → to_front q f (shown index view es os) ≡ shown index view es (option_map_or (λ e. (e.0, g e.1) ∷ remove_entry p os) r os)
          by None h = rw (shown-none os all h)
          by (Some o) h = let s = shown-some os o all h in let same = follows o.1 (item os o h) in rw (s.1, same.1, s.2, same.0, remove-shown os all)

      pub change-shown : (os : List (ℕ × P)) → Each (Agrees q p) os → Follows os → change q f (shown index view es os) ≡ shown index view es (change p g os)
      change-shown [] all follows = refl
      change-shown (o ∷ os) all follows = let s = all.0 in rw s.1 (rw s.2 ((elim (p o.0) as (λ b. p o.0 ≡ b → cond b ((s.0, f (view o.1)) ∷ shown index view es os) ((s.0, view o.1) ∷ change q f (shown index view es os)) ≡ shown index view es (cond b ((o.0, g o.1) ∷ os) (o ∷ change p g os))) [
        | true ↦ λ t. let same = follows o.1 (rw t) in rw (same.1, s.1, same.0)
        | false ↦ λ t. rw (s.1, change-shown os all.1 (λ x h. follows x (rw t h)))
      ]) refl))

  -- the place names an entry of the map
  abbrev pub Names : ℕ × P → Type 0
  Names o = (k : K) × (slice_get es (index o.1) ≡ Some (k, o.0))

  pub length-shown : (os : List (ℕ × P)) → Each Names os → length (shown index view es os) ≡ length os
  length-shown [] all = refl
  length-shown (o ∷ os) all = rw all.0.1 (ap suc (length-shown os all.1))

  pub some_passes-shown : (test : X → Bool) (os : List (ℕ × P)) → Each Names os → some_passes test (shown index view es os) ≡ some_passes (λ x. test (view x)) os
  some_passes-shown test [] all = refl
  some_passes-shown test (o ∷ os) all = rw all.0.1 (ap (λ (b : Bool). b || test (view o.1)) (some_passes-shown test os all.1))

  pub without_last-shown : (test : X → Bool) (os : List (ℕ × P)) → Each Names os → without_last test (shown index view es os) ≡ shown index view es (without_last (λ x. test (view x)) os)
  without_last-shown test [] all = refl
  without_last-shown test (o ∷ os) all = let s = all.0 in
      rw s.1 (rw (some_passes-shown test os all.1) (elim (some_passes (λ x. test (view x)) os) as (λ b. cond b ((s.0, view o.1) ∷ without_last test (shown index view es os)) (cond (test (view o.1)) (shown index view es os) ((s.0, view o.1) ∷ shown index view es os)) ≡ shown index view es (cond b (o ∷ without_last (λ x. test (view x)) os) (cond (test (view o.1)) os (o ∷ os)))) [
        | true ↦ rw (s.1, without_last-shown test os all.1)
        | false ↦ elim (test (view o.1)) as (λ b. cond b (shown index view es os) ((s.0, view o.1) ∷ shown index view es os) ≡ shown index view es (cond b os (o ∷ os))) [
          | true ↦ refl
          | false ↦ rw s.1
        ]
      ]))

  module _ (es' : List (K × ℕ)) where
    pub shown-kept : (os : List (ℕ × P)) → Each (λ o. slice_get es' (index o.1) ≡ slice_get es (index o.1)) os → shown index view es' os ≡ shown index view es os
    shown-kept [] all = refl
    shown-kept (o ∷ os) all = rw (all.0, shown-kept os all.1)

    -- the number l has a new place, at which the new map has what the old one has at its old place
    module _ (l : ℕ) (g : P → P) where
      abbrev pub Moves : ℕ × P → Type 0
      Moves o = (nat_eq l o.0 ≡ true → (slice_get es' (index (g o.1)) ≡ slice_get es (index o.1)) × (view (g o.1) ≡ view o.1)) × (nat_eq l o.0 ≡ false → slice_get es' (index o.1) ≡ slice_get es (index o.1))

      none-moves : (os : List (ℕ × P)) → lookup (nat_eq l) os ≡ None → Each Moves os → Each (λ o. slice_get es' (index o.1) ≡ slice_get es (index o.1)) os
      none-moves [] none all = tt
      none-moves (o ∷ os) none all = (elim (nat_eq l o.0) as (λ b. nat_eq l o.0 ≡ b → Each (λ o. slice_get es' (index o.1) ≡ slice_get es (index o.1)) (o ∷ os)) [
        | true ↦ λ t. let wrong : Some o.1 ≡ None = rw t at none in cc
        | false ↦ λ t. (all.0.1 t, none-moves os (rw t at none) all.1)
      ]) refl

      pub shown-moved : (os : List (ℕ × P)) → Apart nat_eq os → Each Moves os → shown index view es' (change (nat_eq l) g os) ≡ shown index view es os
      shown-moved [] apart all = refl
      shown-moved (o ∷ os) apart all = (elim (nat_eq l o.0) as (λ b. nat_eq l o.0 ≡ b → shown index view es' (cond b ((o.0, g o.1) ∷ os) (o ∷ change (nat_eq l) g os)) ≡ shown index view es (o ∷ os)) [
        | true ↦ λ t. let s = all.0.0 t in let rest = shown-kept os (none-moves os (lookup-congr nat_eq nat_eq_equiv l o.0 t os ∙ apart.0) all.1) in rw (s.0, s.1, rest)
        | false ↦ λ t. rw (all.0.1 t, shown-moved os apart.1 all.1)
      ]) refl

-- an entry that isn't there can't be removed
pub remove-missing : {K Y : Type 0} (test : K → Bool) (es : List (K × Y)) → lookup test es ≡ None → remove_entry test es ≡ es
remove-missing test [] none = refl
remove-missing test (e ∷ es) none = (elim (test e.0) as (λ b. test e.0 ≡ b → cond b es (e ∷ remove_entry test es) ≡ e ∷ es) [
  | true ↦ λ t. let wrong : Some e.1 ≡ None = rw t at none in cc
  | false ↦ λ t. ap (λ l. e ∷ l) (remove-missing test es (rw t at none))
]) refl
