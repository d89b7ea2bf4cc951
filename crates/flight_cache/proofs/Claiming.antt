-- A claim after the ask that allowed it.
use Rattle.std.proofs.Common.{◌≡◌, ℕ, Bool, true, false, Result, Ok, Err, ap, ◌∙◌}
use Rattle.std.specs.Result.{is_err, OnOk, OnErr}
use Rattle.evict_core.specs.Machine.{State, Ask, Claim, state_after}

pub on-ok : {X E : Type 0} (r : Result X E) (P : Type 0) → is_err r ≡ false → OnOk r P → P
on-ok (Ok x) P t h = h
on-ok (Err e) P t h = cc

pub on-err : {X E : Type 0} (r : Result X E) (P : Type 0) → is_err r ≡ true → OnErr r P → P
on-err (Ok x) P t h = cc
on-err (Err e) P t h = h

-- the claim is of the asked key, under the pass's number
pub claimed : {K V : Type 0} (eq : K → K → Bool) (new old now : State K V) (n m : ℕ) (copy key : K) → new ≡ state_after eq old n (Ask copy Claim) → old ≡ now → n ≡ m → copy ≡ key → new ≡ state_after eq now m (Ask key Claim)
claimed eq new old now n m copy key is same numbered copied =
    is ∙ (ap (λ z. state_after eq z n (Ask copy Claim)) same ∙ (ap (λ (j : ℕ). state_after eq now j (Ask copy Claim)) numbered ∙ ap (λ k. state_after eq now m (Ask k Claim)) copied))
