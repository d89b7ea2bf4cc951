-- Elements of lists that are mapped, filtered or read.
use Rattle.std.proofs.Common.{◌≡◌, ℕ, zero, suc, ◌<◌, ◌≤◌, take, Bool, true, false, cond, List, [], ◌∷◌, length, get_or, map, sym, ap, subst, ◌∙◌, refl, arith, ⊎_elim, Option, Some, None}
use Rattle.std.specs.Prelude.{is_some, slice_get}
use Rattle.std.specs.List.{All, Contains, filter}
use Rattle.std.proofs.lemmas.Bool.{cases_Bool, false≢true}
use Rattle.std.proofs.lemmas.List.{length-map, take_all}
use Rattle.std.proofs.lemmas.List.Elements.{All-contains, All-contains_itself, All-filter, filter_passes}
use Rattle.std.specs.Option.{option_map}
use Rattle.std.proofs.lemmas.Option.{slice_get_within, slice_get-get_or, slice_get-map, slice_get_read, get_or_from_slice_get}
use Rattle.ass_events.specs.Histories.{Pairwise}
use Rattle.near_events.proofs.Pairs.{Contains-nil, Contains-head, Contains-tail, Contains-cons_cases}

pub same_some : {X : Type 0} (x y : X) → Some x ≡ Some y → x ≡ y
same_some x y e = cc

pub none_some : {X : Type 0} (x : X) → None ≡ Some x → ⊥
none_some x e = cc

pub there_from_get : {X : Type 0} (xs : List X) (k : ℕ) (x : X) → slice_get xs k ≡ Some x → Contains xs x
there_from_get xs k x is = (k, slice_get_within xs k x is, get_or_from_slice_get xs k x x is)

pub get_from_there : {X : Type 0} (xs : List X) (x : X) → Contains xs x → (k : ℕ) × (slice_get xs k ≡ Some x)
get_from_there xs x c = (c.0, slice_get-get_or xs c.0 x c.1 ∙ ap Some c.2)

pub in_map : {X Y : Type 0} (f : X → Y) (xs : List X) (x : X) → Contains xs x → Contains (map f xs) (f x)
in_map f [] x c = absurd (Contains-nil x c)
in_map f (y ∷ ys) x c =
    ⊎_elim (λ is. subst (λ z. Contains (map f (y ∷ ys)) (f z)) is (Contains-head (f y) (map f ys)))
    (λ later. Contains-tail (f y) (map f ys) (f x) (in_map f ys x later)) (Contains-cons_cases y ys x c)

pub from_map : {X Y : Type 0} (f : X → Y) (xs : List X) (b : Y) → Contains (map f xs) b → (x : X) × Contains xs x × (f x ≡ b)
from_map f [] b c = absurd (Contains-nil b c)
from_map f (y ∷ ys) b c =
    ⊎_elim (λ is. (y, Contains-head y ys, is)) (λ later. let r = from_map f ys b later in (r.0, Contains-tail y ys r.0 r.1, r.2)) (Contains-cons_cases (f y) (map f ys) b c)

pub in_filter : {X : Type 0} (p : X → Bool) (xs : List X) (x : X) → Contains xs x → p x ≡ true → Contains (filter p xs) x
in_filter p [] x c pass = absurd (Contains-nil x c)
in_filter p (y ∷ ys) x c pass =
    ⊎_elim
    (λ yes. let cut : filter p (y ∷ ys) ≡ y ∷ filter p ys = ap (λ b. cond b (y ∷ filter p ys) (filter p ys)) yes in
    subst (λ z. Contains z x) (sym cut)
    (⊎_elim (λ is. subst (Contains (y ∷ filter p ys)) is (Contains-head y (filter p ys))) (λ later. Contains-tail y (filter p ys) x (in_filter p ys x later pass))
    (Contains-cons_cases y ys x c)))
    (λ no. let cut : filter p (y ∷ ys) ≡ filter p ys = ap (λ b. cond b (y ∷ filter p ys) (filter p ys)) no in
    subst (λ z. Contains z x) (sym cut)
    (⊎_elim (λ is. absurd (false≢true (sym no ∙ (ap p is ∙ pass)))) (λ later. in_filter p ys x later pass) (Contains-cons_cases y ys x c)))
    (cases_Bool (p y))

pub from_filter : {X : Type 0} (p : X → Bool) (xs : List X) (x : X) → Contains (filter p xs) x → Contains xs x × (p x ≡ true)
from_filter p xs x c = (
  All-contains (Contains xs) (filter p xs) x (All-filter p (Contains xs) xs (All-contains_itself xs)) c,
  All-contains (λ y. p y ≡ true) (filter p xs) x (filter_passes p xs) c,
)

pub pairwise_get : {X : Type 0} (R : X → X → Type 0) (xs : List X) (i j : ℕ) (a b : X) → Pairwise R xs → i < j → slice_get xs i ≡ Some a → slice_get xs j ≡ Some b → R a b
pairwise_get R [] i j a b h lt p q = absurd (Contains-nil b (there_from_get [] j b q))
pairwise_get R (x ∷ xs) i zero a b h lt p q = absurd (omega (arith, lt))
pairwise_get R (x ∷ xs) zero (suc j) a b h lt p q =
    subst (λ z. R z b) (same_some x a p) (All-contains (R x) xs b h.0 (there_from_get xs j b q))
pairwise_get R (x ∷ xs) (suc i) (suc j) a b h lt p q = pairwise_get R xs i j a b h.1 (omega (arith, lt)) p q

-- what is read of a list that is seen by its values
pub value_read : {A B : Type 0} (v : A → B) (xs : List A) (k : ℕ) (a : A) → k < length xs → a ≡ get_or xs k a → slice_get (map v xs) k ≡ Some (v a)
value_read v xs k a lt is = slice_get-map v xs k ∙ ap (option_map v) (slice_get_read xs (length xs) k a refl lt is)

pub all_read : {A B : Type 0} (v : A → B) (P : B → Type 0) (xs : List A) (k : ℕ) (a : A) → All P (map v xs) → k < length xs → a ≡ get_or xs k a → P (v a)
all_read v P xs k a all lt is = All-contains P (map v xs) (v a) all (there_from_get (map v xs) k (v a) (value_read v xs k a lt is))

pub place_in_list : {A B : Type 0} (v : A → B) (xs : List A) (k : ℕ) (b : B) → slice_get (map v xs) k ≡ Some b → k < length xs
place_in_list v xs k b is = let within = slice_get_within (map v xs) k b is in omega (arith, within, length-map xs v)

pub none_from : {X : Type 0} (o : Option X) → is_some o ≡ false → o ≡ None
none_from None h = refl
none_from (Some x) h = absurd (false≢true (sym h))

-- what holds of all that was taken, where nothing is left
pub all_taken : {X : Type 0} (P : X → Type 0) (xs : List X) (k : ℕ) → length xs ≤ k → All P (take k xs) → All P xs
all_taken P xs k past h = subst (All P) (take_all k xs past) h
