-- The walk from the end of a list that keeps the last of like fields: one field on.
use Rattle.std.proofs.Common.{◌≡◌, ℕ, zero, suc, ◌<◌, ◌≤◌, Bool, true, false, cond, eqb, ◌||◌, List, [], ◌∷◌, ◌++◌, length, get_or, set, replicate, take, drop, refl, sym, ap, ◌∙◌, arith, append_assoc}
use Rattle.std.proofs.lemmas.List.{append-nil, take_more, length-take-le, set_at, get_or-set_same, get_or-set_other}
use Rattle.std.proofs.Math.Seq.{drop-cons, get_or-append_seam}
use Rattle.std.proofs.lemmas.Bool.Decides.{nat_tests}
use Rattle.std.specs.List.{list_any}
use Rattle.ass_script.specs.Fields.{last_ones}

module _ {F : Type 0} (number : F → ℕ) (other : F) (raw : List F) where
  -- a field with this number stands in the list
  abbrev Has : List F → ℕ → Bool
  Has fields n = list_any (λ field. eqb (number field) n) fields

  -- the fields from place k on are done
  abbrev Done : ℕ → List F → Type 0
  Done k fields = fields ≡ take k raw ++ last_ones number other (drop k raw)

  module _ (j k : ℕ) (next : k ≡ suc j) (inside : k ≤ length raw) (fields : List F) (done : Done k fields) (x : F) (x_is : x ≡ get_or fields j x) where
    abbrev left : List F
    left = last_ones number other (drop k raw)

    spread : fields ≡ take j raw ++ (get_or raw j x ∷ left)
    spread =
        let more : take k raw ≡ take j raw ++ get_or raw j x ∷ [] = ap (λ (n : ℕ). take n raw) (omega arith) ∙ take_more raw j x (omega arith) in
        done ∙ (ap (λ front. front ++ left) more ∙ append_assoc (take j raw) (get_or raw j x ∷ []) left)

    before : length (take j raw) ≡ j
    before = length-take-le j raw (omega arith)

    pub raw_is : get_or raw j x ≡ x
    raw_is =
        let at : get_or (take j raw ++ (get_or raw j x ∷ left)) (length (take j raw)) x ≡ get_or raw j x = get_or-append_seam (take j raw) (get_or raw j x) left x in
        sym (x_is ∙ (ap (λ xs. get_or xs j x) spread ∙ (ap (λ (n : ℕ). get_or (take j raw ++ (get_or raw j x ∷ left)) n x) (sym before) ∙ at)))

    pub dropped : drop j raw ≡ x ∷ drop k raw
    dropped = drop-cons raw j x (omega arith) ∙ (ap (λ y. y ∷ drop (suc j) raw) raw_is ∙ ap (λ (n : ℕ). x ∷ drop n raw) (sym next))

    pub replaced : Has (drop k raw) (number x) ≡ true → Done j (set fields j other)
    replaced seen =
        ap (λ xs. set xs j other) spread
        ∙ (set_at (take j raw) (get_or raw j x) left other j before
        ∙ ap (λ xs. take j raw ++ xs) (sym (ap (last_ones number other) dropped ∙ ap (λ b. cond b other x ∷ left) seen)))

    pub kept : Has (drop k raw) (number x) ≡ false → Done j fields
    kept unseen =
        spread
        ∙ (ap (λ y. take j raw ++ (y ∷ left)) raw_is
        ∙ ap (λ xs. take j raw ++ xs) (sym (ap (last_ones number other) dropped ∙ ap (λ b. cond b other x ∷ left) unseen)))

    pub seen_still : (seen : List Bool) → ((n : ℕ) → get_or seen n false ≡ Has (drop k raw) n) → Has (drop k raw) (number x) ≡ true → (n : ℕ) → get_or seen n false ≡ Has (drop j raw) n
    seen_still seen known has n = known n ∙ sym (ap (λ xs. Has xs n) dropped ∙ cases (eqb (number x) n) refl)
      where
        cases : (b : Bool) → eqb (number x) n ≡ b → (b || Has (drop k raw) n) ≡ Has (drop k raw) n
        cases false e = refl
        cases true e =
            let same : number x ≡ n = grind (arith, nat_tests) in
            sym (ap (λ (m : ℕ). Has (drop k raw) m) (sym same) ∙ has)

    pub seen_now : (seen : List Bool) → ((n : ℕ) → get_or seen n false ≡ Has (drop k raw) n) → number x < length seen → (n : ℕ) → get_or (set seen (number x) true) n false ≡ Has (drop j raw) n
    seen_now seen known fits n = cases (eqb (number x) n) refl ∙ sym (ap (λ xs. Has xs n) dropped)
      where
        cases : (b : Bool) → eqb (number x) n ≡ b → get_or (set seen (number x) true) n false ≡ (eqb (number x) n || Has (drop k raw) n)
        cases true e =
            let same : number x ≡ n = grind (arith, nat_tests) in
            ap (λ (m : ℕ). get_or (set seen (number x) true) m false) (sym same) ∙ (get_or-set_same seen (number x) true false fits ∙ sym (ap (λ b. b || Has (drop k raw) n) e))
        cases false e =
            let apart : n ≡ number x → ⊥ = λ same. grind (arith, nat_tests) in
            get_or-set_other seen (number x) n true false apart ∙ (known n ∙ sym (ap (λ b. b || Has (drop k raw) n) e))

-- before the walk
pub drop_all : {F : Type 0} (raw : List F) → drop (length raw) raw ≡ []
drop_all [] = refl
drop_all (x ∷ xs) = drop_all xs

pub all_left : {F : Type 0} (number : F → ℕ) (other : F) (raw : List F) → raw ≡ take (length raw) raw ++ last_ones number other (drop (length raw) raw)
all_left number other raw = sym (ap (λ xs. xs ++ last_ones number other (drop (length raw) raw)) (take_all raw) ∙ (ap (λ xs. raw ++ last_ones number other xs) (drop_all raw) ∙ append-nil raw))
  where
    take_all : {F : Type 0} (raw : List F) → take (length raw) raw ≡ raw
    take_all [] = refl
    take_all (x ∷ xs) = ap (λ ys. x ∷ ys) (take_all xs)

pub none_seen : (m n : ℕ) → get_or (replicate m false) n false ≡ false
none_seen zero n = refl
none_seen (suc m) zero = refl
none_seen (suc m) (suc n) = none_seen m n

pub length-last_ones : {F : Type 0} (number : F → ℕ) (other : F) (fields : List F) → length (last_ones number other fields) ≡ length fields
length-last_ones number other [] = refl
length-last_ones number other (x ∷ xs) = ap suc (length-last_ones number other xs)
