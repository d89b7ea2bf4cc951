-- What the words of Recency do to look-ups.
use Rattle.std.proofs.Common.{◌≡◌, suc, Bool, true, false, cond, List, [], ◌∷◌, length, Option, Some, None, option_map, refl, sym, ap, ◌∙◌, subst, true≢false}
use Rattle.std.specs.Cmp.{IsEquivalence}
use Rattle.std.specs.Map.{lookup, lookup_entry, remove_entry}
use Rattle.std.specs.Option.{option_map_or}
use Rattle.evict_core.specs.Recency.{some_passes, without_last, to_front, change, Apart}

module _ {K : Type 0} (eq : K → K → Bool) (laws : IsEquivalence eq) where
  pub eq-flip : (a b : K) → eq a b ≡ true → eq b a ≡ true
  eq-flip a b same = laws.symm b a ∙ same

  pub eq-apart : (a b c : K) → eq a b ≡ false → eq b c ≡ true → eq a c ≡ false
  eq-apart a b c apart same = laws.symm a c ∙ (sym (laws.congr b c a same) ∙ (laws.symm b a ∙ apart))

pub cond-same : {A : Type 0} (b : Bool) (x : A) → cond b x x ≡ x
cond-same true x = refl
cond-same false x = refl

module _ {K X : Type 0} (eq : K → K → Bool) (laws : IsEquivalence eq) where
  pub lookup-congr : (a b : K) → eq a b ≡ true → (es : List (K × X)) → lookup (eq a) es ≡ lookup (eq b) es
  lookup-congr a b same [] = refl
  lookup-congr a b same (e ∷ es) = rw (laws.congr a b e.0 same, lookup-congr a b same es)

  -- what is found at a key has the item that a look-up gives
  pub lookup-entry : (k : K) (es : List (K × X)) → lookup (eq k) es ≡ option_map (λ e. e.1) (lookup_entry (eq k) es)
  lookup-entry k [] = refl
  lookup-entry k (e ∷ es) = (elim (eq k e.0) as (λ b. cond b (Some e.1) (lookup (eq k) es) ≡ option_map (λ p. p.1) (cond b (Some e) (lookup_entry (eq k) es))) [
    | true ↦ refl
    | false ↦ lookup-entry k es
  ])

  pub key-found : (k : K) (es : List (K × X)) (e : K × X) → lookup_entry (eq k) es ≡ Some e → eq k e.0 ≡ true
  key-found k [] e h = cc
  key-found k (d ∷ es) e h = (elim (eq k d.0) as (λ b. eq k d.0 ≡ b → eq k e.0 ≡ true) [
    | true ↦ λ t. let found : Some d ≡ Some e = rw t at h in let is : d ≡ e = cc in subst (λ (x : K × X). eq k x.0 ≡ true) is t
    | false ↦ λ t. key-found k es e (rw t at h)
  ]) refl

  pub lookup-remove-other : (k q : K) (es : List (K × X)) → eq q k ≡ false → lookup (eq q) (remove_entry (eq k) es) ≡ lookup (eq q) es
  lookup-remove-other k q [] apart = refl
  lookup-remove-other k q (e ∷ es) apart = (elim (eq k e.0) as (λ b. eq k e.0 ≡ b → lookup (eq q) (cond b es (e ∷ remove_entry (eq k) es)) ≡ cond (eq q e.0) (Some e.1) (lookup (eq q) es)) [
    | true ↦ λ t. rw (eq-apart eq laws q k e.0 apart t)
    | false ↦ λ t. ap (λ (r : Option X). cond (eq q e.0) (Some e.1) r) (lookup-remove-other k q es apart)
  ]) refl

  pub lookup-remove-same : (k q : K) (es : List (K × X)) → Apart eq es → eq q k ≡ true → lookup (eq q) (remove_entry (eq k) es) ≡ None
  lookup-remove-same k q [] apart same = refl
  lookup-remove-same k q (e ∷ es) apart same = (elim (eq k e.0) as (λ b. eq k e.0 ≡ b → lookup (eq q) (cond b es (e ∷ remove_entry (eq k) es)) ≡ None) [
    | true ↦ λ t. lookup-congr q k same es ∙ (lookup-congr k e.0 t es ∙ apart.0)
    | false ↦ λ t. rw (laws.congr q k e.0 same ∙ t, lookup-remove-same k q es apart.1 same)
  ]) refl

  pub lookup-remove : (k q : K) (es : List (K × X)) → Apart eq es → lookup (eq q) (remove_entry (eq k) es) ≡ cond (eq q k) None (lookup (eq q) es)
  lookup-remove k q es apart = (elim (eq q k) as (λ b. eq q k ≡ b → lookup (eq q) (remove_entry (eq k) es) ≡ cond b None (lookup (eq q) es)) [
    | true ↦ λ t. lookup-remove-same k q es apart t
    | false ↦ λ t. lookup-remove-other k q es t
  ]) refl

  none-after : (k q : K) (es : List (K × X)) → lookup (eq q) es ≡ None → lookup (eq q) (remove_entry (eq k) es) ≡ None
  none-after k q [] none = refl
  none-after k q (e ∷ es) none = (elim (eq q e.0) as (λ b. eq q e.0 ≡ b → lookup (eq q) (cond (eq k e.0) es (e ∷ remove_entry (eq k) es)) ≡ None) [
    | true ↦ λ t. let wrong : Some e.1 ≡ None = rw t at none in cc
    | false ↦ λ t. let rest : lookup (eq q) es ≡ None = rw t at none in
        elim (eq k e.0) as (λ b. lookup (eq q) (cond b es (e ∷ remove_entry (eq k) es)) ≡ None) [
          | true ↦ rest
          | false ↦ rw (t, none-after k q es rest)
        ]
  ]) refl

  pub Apart-remove : (k : K) (es : List (K × X)) → Apart eq es → Apart eq (remove_entry (eq k) es)
  Apart-remove k [] apart = tt
  Apart-remove k (e ∷ es) apart = elim (eq k e.0) as (λ b. Apart eq (cond b es (e ∷ remove_entry (eq k) es))) [
    | true ↦ apart.1
    | false ↦ (none-after k e.0 es apart.0, Apart-remove k es apart.1)
  ]

  -- the look-ups after the item of one key was changed
  pub lookup-change : (k : K) (f : X → X) (q : K) (es : List (K × X)) → lookup (eq q) (change (eq k) f es) ≡ cond (eq q k) (option_map f (lookup (eq q) es)) (lookup (eq q) es)
  lookup-change k f q [] = sym (cond-same {A = Option X} (eq q k) None)
  lookup-change k f q (e ∷ es) = (elim (eq k e.0) as (λ b. eq k e.0 ≡ b → lookup (eq q) (cond b ((e.0, f e.1) ∷ es) (e ∷ change (eq k) f es)) ≡ cond (eq q k) (option_map f (cond (eq q e.0) (Some e.1) (lookup (eq q) es))) (cond (eq q e.0) (Some e.1) (lookup (eq q) es))) [
    | true ↦ λ t. let both : eq q e.0 ≡ eq q k = laws.symm q e.0 ∙ (sym (laws.congr k e.0 q t) ∙ laws.symm k q) in
        rw both (elim (eq q k) as (λ b. cond b (Some (f e.1)) (lookup (eq q) es) ≡ cond b (option_map f (cond b (Some e.1) (lookup (eq q) es))) (cond b (Some e.1) (lookup (eq q) es))) [ true ↦ refl | false ↦ refl ])
    | false ↦ λ t. (elim (eq q e.0) as (λ b. eq q e.0 ≡ b → cond b (Some e.1) (lookup (eq q) (change (eq k) f es)) ≡ cond (eq q k) (option_map f (cond b (Some e.1) (lookup (eq q) es))) (cond b (Some e.1) (lookup (eq q) es))) [
      | true ↦ λ u. let differ : eq q k ≡ false = laws.congr q e.0 k u ∙ (laws.symm e.0 k ∙ t) in rw differ
      | false ↦ λ u. lookup-change k f q es
    ]) refl
  ]) refl

  pub Apart-change : (k : K) (f : X → X) (es : List (K × X)) → Apart eq es → Apart eq (change (eq k) f es)
  Apart-change k f [] apart = tt
  Apart-change k f (e ∷ es) apart = elim (eq k e.0) as (λ b. Apart eq (cond b ((e.0, f e.1) ∷ es) (e ∷ change (eq k) f es))) [
    | true ↦ apart
    | false ↦ (lookup-change k f e.0 es ∙ rw apart.0 (cond-same {A = Option X} (eq e.0 k) None), Apart-change k f es apart.1)
  ]

  pub lookup-to_front : (k : K) (f : X → X) (q : K) (es : List (K × X)) → Apart eq es → lookup (eq q) (to_front (eq k) f es) ≡ cond (eq q k) (option_map f (lookup (eq q) es)) (lookup (eq q) es)
  lookup-to_front k f q es apart = by (lookup_entry (eq k) es) refl
    where
      by : (r : Option (K × X)) → lookup_entry (eq k) es ≡ r → lookup (eq q) (option_map_or (λ e. (e.0, f e.1) ∷ remove_entry (eq k) es) r es) ≡ cond (eq q k) (option_map f (lookup (eq q) es)) (lookup (eq q) es)
      by None found = (elim (eq q k) as (λ b. eq q k ≡ b → lookup (eq q) es ≡ cond b (option_map f (lookup (eq q) es)) (lookup (eq q) es)) [
        | true ↦ λ t. let none : lookup (eq q) es ≡ None = lookup-congr q k t es ∙ (lookup-entry k es ∙ ap (λ (o : Option (K × X)). option_map (λ e. e.1) o) found) in rw none
        | false ↦ λ t. refl
      ]) refl
      by (Some e) found =
          let same = key-found k es e found in
          let both : eq q e.0 ≡ eq q k = laws.symm q e.0 ∙ (sym (laws.congr k e.0 q same) ∙ laws.symm k q) in
          rw (both, lookup-remove k q es apart) ((elim (eq q k) as (λ b. eq q k ≡ b → cond b (Some (f e.1)) (cond b None (lookup (eq q) es)) ≡ cond b (option_map f (lookup (eq q) es)) (lookup (eq q) es)) [
            | true ↦ λ t. let some : lookup (eq q) es ≡ Some e.1 = lookup-congr q k t es ∙ (lookup-entry k es ∙ ap (λ (o : Option (K × X)). option_map (λ e. e.1) o) found) in rw some
            | false ↦ λ t. refl
          ]) refl)

  pub Apart-to_front : (k : K) (f : X → X) (es : List (K × X)) → Apart eq es → Apart eq (to_front (eq k) f es)
  Apart-to_front k f es apart = by (lookup_entry (eq k) es) refl
    where
      by : (r : Option (K × X)) → lookup_entry (eq k) es ≡ r → Apart eq (option_map_or (λ e. (e.0, f e.1) ∷ remove_entry (eq k) es) r es)
      by None found = apart
      by (Some e) found = (lookup-remove-same k e.0 es apart (eq-flip eq laws k e.0 (key-found k es e found)), Apart-remove k es apart)

  -- an entry that passes is found after `without_last`, or nothing is, and all others are
  pub lookup-without_last : (test : X → Bool) (q : K) (es : List (K × X)) → Apart eq es → (P : Option X → Type 0) → P (lookup (eq q) es) → ((x : X) → test x ≡ true → P (Some x) → P None) → P (lookup (eq q) (without_last test es))
  lookup-without_last test q [] apart P here gone = here
  lookup-without_last test q (e ∷ es) apart P here gone = elim (some_passes test es) as (λ b. P (lookup (eq q) (cond b (e ∷ without_last test es) (cond (test e.1) es (e ∷ es))))) [
    | true ↦ (elim (eq q e.0) as (λ b. P (cond b (Some e.1) (lookup (eq q) es)) → P (cond b (Some e.1) (lookup (eq q) (without_last test es)))) [
      | true ↦ λ h. h
      | false ↦ λ h. lookup-without_last test q es apart.1 P h gone
    ]) here
    | false ↦ (elim (test e.1) as (λ b. test e.1 ≡ b → P (lookup (eq q) (cond b es (e ∷ es)))) [
      | true ↦ λ t. (elim (eq q e.0) as (λ b. eq q e.0 ≡ b → P (cond b (Some e.1) (lookup (eq q) es)) → P (lookup (eq q) es)) [
        | true ↦ λ same h. rw (lookup-congr q e.0 same es, apart.0) (gone e.1 t h)
        | false ↦ λ differ h. h
      ]) refl here
      | false ↦ λ t. here
    ]) refl
  ]

  pub Apart-without_last : (test : X → Bool) (es : List (K × X)) → Apart eq es → Apart eq (without_last test es)
  Apart-without_last test [] apart = tt
  Apart-without_last test (e ∷ es) apart = elim (some_passes test es) as (λ b. Apart eq (cond b (e ∷ without_last test es) (cond (test e.1) es (e ∷ es)))) [
    | true ↦ (lookup-without_last test e.0 es apart.1 (λ o. o ≡ None) apart.0 (λ x _ h. refl), Apart-without_last test es apart.1)
    | false ↦ elim (test e.1) as (λ b. Apart eq (cond b es (e ∷ es))) [ true ↦ apart.1 | false ↦ apart ]
  ]

-- one entry fewer, where one passes
pub length-without_last : {K X : Type 0} (test : X → Bool) (es : List (K × X)) → some_passes test es ≡ true → suc (length (without_last test es)) ≡ length es
length-without_last test [] h = absurd (true≢false (sym h))
length-without_last test (e ∷ es) h = (elim (some_passes test es) as (λ b. some_passes test es ≡ b → suc (length (cond b (e ∷ without_last test es) (cond (test e.1) es (e ∷ es)))) ≡ suc (length es)) [
  | true ↦ λ t. ap suc (length-without_last test es t)
  | false ↦ λ t. let passes : test e.1 ≡ true = rw t at h in rw passes
]) refl
