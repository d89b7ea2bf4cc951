-- The pieces of an argument, one after another, and their numbers.
use Rattle.std.proofs.Common.{◌≡◌, ℕ, ◌<◌, ◌≤◌, Bool, true, false, cond, eqb, ℤ, List, [], ◌∷◌, ◌++◌, length, ap, arith, refl, sym, ◌∙◌, subst, length-append}
use Rattle.std.specs.List.{position_or_len, before_first, after_first, onto_first}
use Rattle.std.proofs.lemmas.List.Sums.{fails_before_first}
use Rattle.std.proofs.lemmas.List.Splits.{slice_split_none, slice_split_first}
use Rattle.ass_num.specs.Fronts.{BeginsWith, HasNoFront}
use Rattle.ass_num.specs.Numerals.{IsMilli}
use Rattle.ass_num.specs.Blanks.{trimmed}
use Rattle.tag_arguments.specs.Numbers.{comma_pieces, unless_blank, without_blank_last, counted_pieces, AreNumbers, AreFewNumbers}

-- a text without a comma is one piece
pub pieces_none : (text : List ℕ) → position_or_len (λ c. eqb c 44) text ≡ length text → comma_pieces text ≡ text ∷ []
pieces_none text e = slice_split_none (λ c. eqb c 44) text (λ k d h. fails_before_first (λ c. eqb c 44) text k d (omega arith))

-- no text is without a piece
onto_cons : (c : ℕ) (parts : List (List ℕ)) → (q : List ℕ) × (qs : List (List ℕ)) × (onto_first c parts ≡ q ∷ qs)
onto_cons c [] = (c ∷ [], [], refl)
onto_cons c (part ∷ parts) = (c ∷ part, parts, refl)

cond_cons : (b : Bool) (c : ℕ) (text : List ℕ) → (q : List ℕ) × (qs : List (List ℕ)) × (cond b ([] ∷ comma_pieces text) (onto_first c (comma_pieces text)) ≡ q ∷ qs)
cond_cons true c text = ([], comma_pieces text, refl)
cond_cons false c text = onto_cons c (comma_pieces text)

pub pieces_cons : (text : List ℕ) → (q : List ℕ) × (qs : List (List ℕ)) × (comma_pieces text ≡ q ∷ qs)
pieces_cons [] = ([], [], refl)
pieces_cons (c ∷ text) = cond_cons (eqb c 44) c text

blank_last_more : (piece : List ℕ) (more : List (List ℕ)) → (q : List ℕ) (qs : List (List ℕ)) → more ≡ q ∷ qs → without_blank_last (piece ∷ more) ≡ piece ∷ without_blank_last more
blank_last_more piece more q qs e = ap (λ z. without_blank_last (piece ∷ z)) e ∙ ap (λ z. piece ∷ without_blank_last z) (sym e)

pub counted_more : (drops_blank : Bool) (text piece rest : List ℕ) → comma_pieces text ≡ piece ∷ comma_pieces rest → counted_pieces drops_blank text ≡ piece ∷ counted_pieces drops_blank rest
counted_more true text piece rest e =
    let first = pieces_cons rest in
    ap without_blank_last e ∙ blank_last_more piece (comma_pieces rest) first.0 first.1 first.2
counted_more false text piece rest e = e

pub counted_last : (drops_blank : Bool) (text : List ℕ) → comma_pieces text ≡ text ∷ [] → counted_pieces drops_blank text ≡ cond drops_blank (unless_blank text) (text ∷ [])
counted_last true text e = ap without_blank_last e
counted_last false text e = e

-- ---- numbers

pub numbers_length : (parts : List (List ℕ)) (values : List ℤ) → AreNumbers parts values → length values ≡ length parts
numbers_length [] [] h = refl
numbers_length [] (v ∷ values) h = elim h [ ]
numbers_length (p ∷ parts) [] h = elim h [ ]
numbers_length (p ∷ parts) (v ∷ values) h = let e = numbers_length parts values h.1 in omega arith

pub numbers_push : (parts : List (List ℕ)) (values : List ℤ) (p : List ℕ) (v : ℤ) → AreNumbers parts values → BeginsWith IsMilli (trimmed p) v → AreNumbers (parts ++ (p ∷ [])) (values ++ (v ∷ []))
numbers_push [] [] p v h b = (b, tt)
numbers_push [] (w ∷ values) p v h b = elim h [ ]
numbers_push (q ∷ parts) [] p v h b = elim h [ ]
numbers_push (q ∷ parts) (w ∷ values) p v h b = (h.0, numbers_push parts values p v h.1 b)

-- a piece among others is a number
pub number_among : (parts : List (List ℕ)) (p : List ℕ) (more : List (List ℕ)) (values : List ℤ) → AreNumbers (parts ++ (p ∷ more)) values → (v : ℤ) × BeginsWith IsMilli (trimmed p) v
number_among [] p more [] h = elim h [ ]
number_among [] p more (v ∷ values) h = (v, h.0)
number_among (q ∷ parts) p more [] h = elim h [ ]
number_among (q ∷ parts) p more (v ∷ values) h = number_among parts p more values h.1

-- a piece without a number
pub not_numbers : (whole done : List (List ℕ)) (p : List ℕ) (more : List (List ℕ)) (values : List ℤ) → whole ≡ done ++ (p ∷ more) → HasNoFront IsMilli (trimmed p) → AreNumbers whole values → ⊥
not_numbers whole done p more values e none h =
    let P : List (List ℕ) → Type 0 = λ z. AreNumbers z values in
    let found = number_among done p more values (subst P e h) in
    none found.1.0 found.0 found.1.1.spelled

-- an eighth piece
pub too_many : (whole done : List (List ℕ)) (p : List ℕ) (more : List (List ℕ)) (numbers values : List ℤ) → whole ≡ done ++ (p ∷ more) → AreNumbers done numbers → length numbers ≡ 7 → AreFewNumbers whole values → ⊥
too_many whole done p more numbers values e h seven few =
    let all = numbers_length whole values few.1 in
    let front = numbers_length done numbers h in
    let split = ap length e ∙ length-append done (p ∷ more) in
    let few : length values ≤ 7 = few.0 in
    absurd (omega arith)

-- the piece before the first comma
pub pieces_first : (text piece rest : List ℕ) → piece ≡ before_first (λ c. eqb c 44) text → rest ≡ after_first (λ c. eqb c 44) text → position_or_len (λ c. eqb c 44) text < length text → comma_pieces text ≡ piece ∷ comma_pieces rest
pieces_first text piece rest front back within = let e = slice_split_first (λ c. eqb c 44) text 0 within in let a = ap comma_pieces back in cc
