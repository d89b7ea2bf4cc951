-- Lists whose elements are in a relation, one with one, and what holds of the elements of the pieces of a list.
use Rattle.std.proofs.Common.{◌≡◌, refl, ap₂, ◌∙◌, ◌<◌, Bool, true, false, ◌&&◌, cond, Option, Some, None, option_map, List, [], ◌∷◌, ◌++◌, length, map, filter, flat_map, arith}
use Rattle.std.proofs.lemmas.Bool.{false≢true}
use Rattle.std.specs.List.{All, AllZip, cons_option, filter_map}
use Rattle.std.specs.Option.{option_map_or}
use Rattle.std.proofs.lemmas.List.Elements.{All-cons, All-head, All-nil, All-tail, All-weaker}

-- ---- one with one

pub zip_append : {A B : Type 0} (R : A → B → Type 0) (xs : List A) (ys : List B) (zs : List A) (ws : List B) → AllZip R xs ys → AllZip R zs ws → AllZip R (xs ++ zs) (ys ++ ws)
zip_append R [] [] zs ws h k = k
zip_append R [] (y ∷ ys) zs ws h k = absurd h
zip_append R (x ∷ xs) [] zs ws h k = absurd h
zip_append R (x ∷ xs) (y ∷ ys) zs ws h k = (h.0, zip_append R xs ys zs ws h.1 k)

zip_given : {X Y A B : Type 0} (R : A → B → Type 0) (F : X → List A) (G : Y → List B) (o : Option X) (p : Option Y) (xs : List X) (ys : List Y)
    → AllZip R (option_map_or F o []) (option_map_or G p []) → AllZip R (flat_map F xs) (flat_map G ys) → AllZip R (flat_map F (cons_option o xs)) (flat_map G (cons_option p ys))
zip_given R F G None None xs ys h k = k
zip_given R F G None (Some y) xs ys h k = zip_append R [] (G y) (flat_map F xs) (flat_map G ys) h k
zip_given R F G (Some x) None xs ys h k = zip_append R (F x) [] (flat_map F xs) (flat_map G ys) h k
zip_given R F G (Some x) (Some y) xs ys h k = zip_append R (F x) (G y) (flat_map F xs) (flat_map G ys) h k

-- Two lists made of what one list gives by two rules.
pub zip_flat : {Z X Y A B : Type 0} (R : A → B → Type 0) (F : X → List A) (G : Y → List B) (f : Z → Option X) (g : Z → Option Y) (zs : List Z)
    → All (λ z. AllZip R (option_map_or F (f z) []) (option_map_or G (g z) [])) zs → AllZip R (flat_map F (filter_map f zs)) (flat_map G (filter_map g zs))
zip_flat R F G f g [] h = tt
zip_flat {Z = Z} R F G f g (z ∷ zs) h =
    let P : Z → Type 0 = λ y. AllZip R (option_map_or F (f y) []) (option_map_or G (g y) []) in
    zip_given R F G (f z) (g z) (filter_map f zs) (filter_map g zs) (All-head P z zs h) (zip_flat R F G f g zs (All-tail P z zs h))

pub zip_if : {A B : Type 0} (R : A → B → Type 0) (b : Bool) (xs zs : List A) (ys ws : List B) → AllZip R xs ys → AllZip R zs ws → AllZip R (cond b xs zs) (cond b ys ws)
zip_if R true xs zs ys ws h k = h
zip_if R false xs zs ys ws h k = k

-- ---- what a rule gives

same_cons : {Y Z : Type 0} (m : Y → Z) (o : Option Y) (ys : List Y) → cons_option (option_map m o) (map m ys) ≡ map m (cons_option o ys)
same_cons m None ys = refl
same_cons m (Some y) ys = refl

-- A rule that gives the images of what another one gives.
pub given_images : {X Y Z : Type 0} (f : X → Option Y) (g : X → Option Z) (m : Y → Z) (xs : List X) → ((x : X) → g x ≡ option_map m (f x))
    → filter_map g xs ≡ map m (filter_map f xs)
given_images f g m [] h = refl
given_images f g m (x ∷ xs) h = ap₂ (λ o ys. cons_option o ys) (h x) (given_images f g m xs h) ∙ same_cons m (f x) (filter_map f xs)

pub given_same : {X Y : Type 0} (f g : X → Option Y) (xs : List X) → ((x : X) → f x ≡ g x) → filter_map f xs ≡ filter_map g xs
given_same f g [] h = refl
given_same f g (x ∷ xs) h = ap₂ (λ o ys. cons_option o ys) (h x) (given_same f g xs h)

-- ---- pieces

first_part : {X : Type 0} (P : X → Type 0) (xs ys : List X) → All P (xs ++ ys) → All P xs
first_part P [] ys h = All-nil P
first_part P (x ∷ xs) ys h = All-cons P x xs (All-head P x (xs ++ ys) h) (first_part P xs ys (All-tail P x (xs ++ ys) h))

last_part : {X : Type 0} (P : X → Type 0) (xs ys : List X) → All P (xs ++ ys) → All P ys
last_part P [] ys h = h
last_part P (x ∷ xs) ys h = last_part P xs ys (All-tail P x (xs ++ ys) h)

-- What holds of all elements holds of those of each piece.
pub all_pieces : {X : Type 0} (P : X → Type 0) (pieces : List (List X)) → All P (flat_map (λ piece. piece) pieces) → All (All P) pieces
all_pieces P [] h = All-nil (All P)
all_pieces P (piece ∷ pieces) h =
    All-cons (All P) piece pieces (first_part P piece (flat_map (λ p. p) pieces) h) (all_pieces P pieces (last_part P piece (flat_map (λ p. p) pieces) h))

-- ---- what a test keeps

some_more : {X : Type 0} (b : Bool) (x : X) (kept : List X) → 0 < length kept → 0 < length (cond b (x ∷ kept) kept)
some_more true x kept h = omega arith
some_more false x kept h = h

some_here : {X : Type 0} (b : Bool) (x : X) (kept : List X) → b ≡ true → 0 < length (cond b (x ∷ kept) kept)
some_here true x kept h = omega arith
some_here false x kept h = absurd (false≢true h)

-- An element that passes is kept, so something is.
pub each_kept : {X : Type 0} (p : X → Bool) (xs : List X) → All (λ x. p x ≡ true → 0 < length (filter p xs)) xs
each_kept {X = X} p [] = All-nil (λ (y : X). p y ≡ true → 0 < length (filter p []))
each_kept {X = X} p (x ∷ xs) =
    All-cons (λ (y : X). p y ≡ true → 0 < length (filter p (x ∷ xs))) x xs (λ h. some_here (p x) x (filter p xs) h)
    (All-weaker (λ (y : X). p y ≡ true → 0 < length (filter p xs)) (λ (y : X). p y ≡ true → 0 < length (filter p (x ∷ xs)))
    (λ y h k. some_more (p x) x (filter p xs) (h k)) xs (each_kept p xs))

-- ---- tests

pub both_pass : (b c : Bool) → b ≡ true → c ≡ true → (b && c) ≡ true
both_pass true c h k = k
both_pass false c h k = h
