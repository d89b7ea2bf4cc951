-- A search of the list of numbers from its end.
use Rattle.std.proofs.Common.{◌≡◌, ℕ, Bool, true, false, cond, nat_eq, List, [], ◌∷◌, ◌++◌, Some, None, refl, sym, ap, ◌∙◌, subst, append_assoc, append-nil, arith, length, ◌<◌}
use Rattle.std.proofs.lemmas.List.{length-append}
use Rattle.std.specs.Cmp.{nat_eq_equiv}
use Rattle.std.specs.Map.{lookup, remove_entry}
use Rattle.std.proofs.lemmas.Bool.{or_from, or_left, or_right}
use Rattle.evict_core.specs.Recency.{some_passes, without_last, Apart}

module _ {K X : Type 0} (test : X → Bool) where
  -- what was passed is at the end of the list, and none of it passes
  pub record Searched (es rest : List (K × X)) : Type 0 where
    pub older : List (K × X)
    pub is : es ≡ rest ++ older
    pub busy : some_passes test older ≡ false

  pub searched-none : (es : List (K × X)) → Searched es es
  searched-none es = record { older = []; is = sym (append-nil es); busy = refl }

  pub searched-more : (es rest front : List (K × X)) (e : K × X) → Searched es rest → rest ≡ front ++ e ∷ [] → test e.1 ≡ false → Searched es front
  searched-more es rest front e done took busy = record {
    older = e ∷ done.older;
    is = done.is ∙ (ap (λ (l : List (K × X)). l ++ done.older) took ∙ append_assoc front (e ∷ []) done.older);
    busy = or_from _ _ done.busy busy;
  }

  pub searched-at : (es rest front : List (K × X)) (e : K × X) → (done : Searched es rest) → rest ≡ front ++ e ∷ [] → es ≡ front ++ e ∷ done.older
  searched-at es rest front e done took = done.is ∙ (ap (λ (l : List (K × X)). l ++ done.older) took ∙ append_assoc front (e ∷ []) done.older)

  pub searched-all : (es rest : List (K × X)) → (done : Searched es rest) → rest ≡ [] → some_passes test es ≡ false
  searched-all es rest done none = ap (some_passes test) (done.is ∙ ap (λ (l : List (K × X)). l ++ done.older) none) ∙ done.busy

  last-passes : (front back : List (K × X)) (e : K × X) → test e.1 ≡ true → some_passes test (front ++ e ∷ back) ≡ true
  last-passes [] back e passes = or_right (some_passes test back) (test e.1) passes
  last-passes (d ∷ front) back e passes = or_left _ (test d.1) (last-passes front back e passes)

  -- the last that passes goes, and what is before and after it stays
  pub without-found : (front back : List (K × X)) (e : K × X) → test e.1 ≡ true → some_passes test back ≡ false → without_last test (front ++ e ∷ back) ≡ front ++ back
  without-found [] back e passes busy = rw (busy, passes)
  without-found (d ∷ front) back e passes busy = rw (last-passes front back e passes, without-found front back e passes busy)

pub shorter : {X : Type 0} (rest front : List X) (e : X) → rest ≡ front ++ e ∷ [] → length front < length rest
shorter rest front e is = omega (arith, ap length is, length-append front (e ∷ []))

remove-found : {X : Type 0} (front back : List (ℕ × X)) (e : ℕ × X) → Apart nat_eq (front ++ e ∷ back) → remove_entry (nat_eq e.0) (front ++ e ∷ back) ≡ front ++ back
remove-found [] back e apart = rw (nat_eq_equiv.refl e.0)
remove-found (d ∷ front) back e apart = (elim (nat_eq e.0 d.0) as (λ b. nat_eq e.0 d.0 ≡ b → cond b (front ++ e ∷ back) (d ∷ remove_entry (nat_eq e.0) (front ++ e ∷ back)) ≡ d ∷ (front ++ back)) [
  | true ↦ λ t. absurd (there front back e d t apart.0)
  | false ↦ λ t. ap (λ l. d ∷ l) (remove-found front back e apart.1)
]) refl
  where
    there : {X : Type 0} (front back : List (ℕ × X)) (e d : ℕ × X) → nat_eq e.0 d.0 ≡ true → lookup (nat_eq d.0) (front ++ e ∷ back) ≡ None → ⊥
    there [] back e d same none = let here : nat_eq d.0 e.0 ≡ true = nat_eq_equiv.symm d.0 e.0 ∙ same in let wrong : Some e.1 ≡ None = rw here at none in cc
    there (c ∷ front) back e d same none = (elim (nat_eq d.0 c.0) as (λ b. nat_eq d.0 c.0 ≡ b → ⊥) [
      | true ↦ λ t. let wrong : Some c.1 ≡ None = rw t at none in cc
      | false ↦ λ t. there front back e d same (rw t at none)
    ]) refl

-- what a search found is taken out by its number
pub without-oldest : {X : Type 0} (test : X → Bool) (front back os : List (ℕ × X)) (n : ℕ) (x : X) → os ≡ front ++ (n, x) ∷ back → test x ≡ true → some_passes test back ≡ false → Apart nat_eq os
    → remove_entry (nat_eq n) os ≡ without_last test os
without-oldest test front back os n x is passes busy apart =
    let apart' = subst (Apart nat_eq) is apart in
    ap (remove_entry (nat_eq n)) is ∙ (remove-found front back (n, x) apart' ∙ (sym (without-found test front back (n, x) passes busy) ∙ ap (without_last test) (sym is)))
