-- A list that is cut at ascending ends.
use Rattle.std.proofs.Common.{drop-drop, flat_map, ◌≡◌, ℕ, zero, suc, ◌+◌, ◌-◌, ◌<◌, ◌≤◌, refl, sym, ap, subst, ◌∙◌, arith, List, [], ◌∷◌, ◌++◌, length, get_or, take, drop, length-append, length-drop}
use Rattle.std.proofs.lemmas.List.{drop-append-le, take-append-le, drop_at, take_all, drop-take, take-take, drop_all, take-append-drop}
use Rattle.ass_num.specs.Pieces.{pieces, IsCut, start}

pub length-pieces : {X : Type 0} (from : ℕ) (es : List ℕ) (xs : List X) → length (pieces from es xs) ≡ length es
length-pieces from [] xs = refl
length-pieces from (e ∷ es) xs = ap suc (length-pieces e es xs)

pub IsCut-above : (from : ℕ) (es : List ℕ) (n : ℕ) → IsCut from es n → from ≤ n
IsCut-above from [] n h = omega arith
IsCut-above from (e ∷ es) n h = let i = IsCut-above e es n h.1 in omega (arith, h.0)

pub IsCut-push : (from : ℕ) (es : List ℕ) (n m : ℕ) → IsCut from es n → n ≤ m → IsCut from (es ++ m ∷ []) m
IsCut-push from [] n m h l = (omega arith, refl)
IsCut-push from (e ∷ es) n m h l = (h.0, IsCut-push e es n m h.1 l)

pub pieces-push : {X : Type 0} (from : ℕ) (es : List ℕ) (xs ys : List X) (m : ℕ) → IsCut from es (length xs) → m ≡ length (xs ++ ys) → pieces from (es ++ m ∷ []) (xs ++ ys) ≡ pieces from es xs ++ ys ∷ []
pieces-push from [] xs ys m h e = rw (drop_at xs ys from (sym h)) (ap (λ z. z ∷ []) (take_all (m - from) ys (omega (arith, length-append xs ys))))
pieces-push from (b ∷ es) xs ys m h e =
    let i = pieces-push b es xs ys m h.1 e in
    let l : b ≤ length xs = IsCut-above b es (length xs) h.1 in
    let f : from ≤ length xs = omega (arith, h.0) in
    rw (drop-append-le from xs ys, i) (ap (λ z. z ∷ (pieces b es xs ++ ys ∷ [])) (take-append-le (b - from) (drop from xs) ys (omega (arith, length-drop from xs))))

pub start-suc : (from : ℕ) (es : List ℕ) (k : ℕ) → 0 < k → start from es k ≡ get_or es (k - 1) 0
start-suc from es zero h = absurd (omega arith)
start-suc from es (suc k) h = ap (λ n. get_or es n 0) (omega arith)

start-cons : (e : ℕ) (es : List ℕ) (k : ℕ) → start e es k ≡ get_or (e ∷ es) k 0
start-cons e es zero = refl
start-cons e es (suc k) = refl

pub start-above : (from : ℕ) (es : List ℕ) (k n : ℕ) → k ≤ length es → IsCut from es n → (from ≤ start from es k) × (start from es k ≤ n)
start-above from es zero n h c = (omega arith, IsCut-above from es n c)
start-above from [] (suc k) n h c = absurd (omega arith)
start-above from (e ∷ es) (suc k) n h c = let i = start-above e es k n (omega arith) c.1 in let s = start-cons e es k in (omega (arith, i.0, c.0), omega (arith, i.1))

cut_front : {X : Type 0} (from e m : ℕ) (xs : List X) → from ≤ e → e ≤ m → take (e - from) (drop from xs) ≡ take (e - from) (drop from (take m xs))
cut_front from e m xs h k = let q : from + (m - from) ≡ m = omega arith in
    sym (rw (← q) (rw (drop-take from (m - from) xs) (take-take (e - from) (m - from) (drop from xs) (omega arith))))

pub piece_at : {X : Type 0} (from : ℕ) (es : List ℕ) (xs : List X) (k : ℕ) (d : List X) → k < length es → get_or (pieces from es xs) k d ≡ take (get_or es k 0 - start from es k) (drop (start from es k) xs)
piece_at from [] xs k d h = absurd (omega arith)
piece_at from (e ∷ es) xs zero d h = refl
piece_at from (e ∷ es) xs (suc k) d h = piece_at e es xs k d (omega arith) ∙ ap (λ s. take (get_or es k 0 - s) (drop s xs)) (start-cons e es k)

pub piece_within : (from : ℕ) (es : List ℕ) (n : ℕ) (k : ℕ) → IsCut from es n → k < length es → (start from es k ≤ get_or es k 0) × (get_or es k 0 ≤ n)
piece_within from [] n k h l = absurd (omega arith)
piece_within from (e ∷ es) n zero h l = (h.0, IsCut-above e es n h.1)
piece_within from (e ∷ es) n (suc k) h l = let i = piece_within e es n k h.1 (omega arith) in let s = start-cons e es k in (omega (arith, i.0), i.1)

pub piece_is : {X : Type 0} (es : List ℕ) (xs : List X) (k from to : ℕ) (s : List X) (lists : List (List X)) → pieces 0 es xs ≡ lists → k < length es → to ≡ start 0 es (k + 1) → from ≡ start 0 es k → s ≡ xs
    → take (to - from) (drop from s) ≡ get_or lists k []
piece_is es xs k from to s lists v l t f e = let next : k + 1 ≡ suc k = omega arith in rw (t, next, f, e, ← v) (sym (piece_at 0 es xs k [] l))

-- the ends of a piece
pub piece_ends : (es : List ℕ) (n k : ℕ) → IsCut 0 es n → k < length es → (start 0 es k ≤ start 0 es (k + 1)) × (start 0 es (k + 1) ≤ n)
piece_ends es n k h l = let next : k + 1 ≡ suc k = omega arith in rw next (piece_within 0 es n k h l)

-- a place among the pieces, and up to their end, is one among the ends
pub place_within : {X : Type 0} (es : List ℕ) (xs : List X) (lists : List (List X)) (k : ℕ) → pieces 0 es xs ≡ lists → k < length lists → k < length es
place_within es xs lists k v l = omega (arith, l, sym (length-pieces 0 es xs) ∙ ap length v)

pub count_within : {X : Type 0} (es : List ℕ) (xs : List X) (lists : List (List X)) (k : ℕ) → pieces 0 es xs ≡ lists → k ≤ length lists → k ≤ length es
count_within es xs lists k v l = omega (arith, l, sym (length-pieces 0 es xs) ∙ ap length v)

-- the first n pieces are those of the first n ends
pub take-pieces : {X : Type 0} (from : ℕ) (es : List ℕ) (xs : List X) (n m : ℕ) → n ≤ length es → IsCut from es (length xs) → start from es n ≤ m → take n (pieces from es xs) ≡ pieces from (take n es) (take m xs)
take-pieces from es xs zero m h c l = refl
take-pieces from [] xs (suc n) m h c l = absurd (omega arith)
take-pieces from (e ∷ es) xs (suc n) m h c l =
    let s = start-cons e es n in
    let u : start e es n ≤ m = omega arith in
    let a = start-above e es n (length xs) (omega arith) c.1 in
    let i = take-pieces e es xs n m (omega arith) c.1 u in
    let b : e ≤ m = omega (arith, a) in
    rw i (ap (λ z. z ∷ pieces e (take n es) (take m xs)) (cut_front from e m xs c.0 b))

pub IsCut-take : (from : ℕ) (es : List ℕ) (n k : ℕ) → k ≤ length es → IsCut from es n → IsCut from (take k es) (start from es k)
IsCut-take from es n zero h c = refl
IsCut-take from [] n (suc k) h c = absurd (omega arith)
IsCut-take from (e ∷ es) n (suc k) h c = (c.0, subst (λ (m : ℕ). IsCut e (take k es) m) (start-cons e es k) (IsCut-take e es n k (omega arith) c.1))

-- the pieces joined again are the items from the first piece on
pub joined-pieces : {X : Type 0} (from : ℕ) (es : List ℕ) (xs : List X) → IsCut from es (length xs) → flat_map (λ p. p) (pieces from es xs) ≡ drop from xs
joined-pieces from [] xs h = sym (drop_all from xs (omega arith))
joined-pieces from (e ∷ es) xs h =
    let rest : drop e xs ≡ drop (e - from) (drop from xs) = rw (drop-drop (e - from) from xs) (ap (λ n. drop n xs) (omega (arith, h.0))) in
    rw (joined-pieces e es xs h.1, rest) (take-append-drop (e - from) (drop from xs))
