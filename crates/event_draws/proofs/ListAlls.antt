-- What holds of all elements of lists that are made of lists or by a test.
use Rattle.std.proofs.Common.{Bool, true, false, cond, Option, Some, None, List, [], ◌∷◌, flat_map}
use Rattle.std.specs.List.{All, cons_option, filter_map}
use Rattle.std.specs.Option.{IfSome}
use Rattle.std.proofs.lemmas.List.Elements.{All-append, All-cons, All-head, All-nil, All-tail}

all_kept : {X : Type 0} (P : X → Type 0) (o : Option X) (xs : List X) → IfSome o P → All P xs → All P (cons_option o xs)
all_kept P None xs h all = all
all_kept P (Some x) xs h all = All-cons P x xs h all

pub all-filter_map : {X Y : Type 0} (h : X → Option Y) (P : Y → Type 0) (xs : List X) → All (λ x. IfSome (h x) P) xs → All P (filter_map h xs)
all-filter_map h P [] all = All-nil P
all-filter_map h P (x ∷ xs) all =
    all_kept P (h x) (filter_map h xs) (All-head (λ y. IfSome (h y) P) x xs all) (all-filter_map h P xs (All-tail (λ y. IfSome (h y) P) x xs all))

pub all-flat_map : {X Y : Type 0} (f : X → List Y) (P : Y → Type 0) (xs : List X) → All (λ x. All P (f x)) xs → All P (flat_map f xs)
all-flat_map f P [] all = All-nil P
all-flat_map f P (x ∷ xs) all =
    All-append P (f x) (flat_map f xs) (All-head (λ y. All P (f y)) x xs all) (all-flat_map f P xs (All-tail (λ y. All P (f y)) x xs all))

pub all_none_if : {X : Type 0} (P : X → Type 0) (b : Bool) (xs : List X) → All P xs → All P (cond b [] xs)
all_none_if P true xs all = All-nil P
all_none_if P false xs all = all
