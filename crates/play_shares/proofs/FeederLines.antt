-- The lines of a feeder stand as many apart as there are feeders.
use Rattle.std.proofs.Common.{◌≡◌, ◌≢◌, ℕ, zero, suc, ◌+◌, ◌*◌, ◌/◌, ◌%◌, ◌<◌, ◌≤◌, Bool, eqb, cond, List, [], ◌∷◌, ◌++◌, length, get_or, map, Some, None, refl, sym, ap, subst, ◌∙◌, arith, append-nil, length-append, eq-eqb, ne_eqb, lt_of_not-le, add-mul, mul_assoc, mul_comm}
use Rattle.std.specs.List.{filter, range_with_len, slice_get}
use Rattle.std.proofs.lemmas.List.{map-id}
use Rattle.std.proofs.lemmas.List.FromFn.{filter_of_map_range_with_len_more, get_or-map-range_with_len, map-range_with_len_more}
use Rattle.std.proofs.lemmas.Nat.{div-add-mod', mod-mul-add, mul-le}
use Rattle.std.proofs.lemmas.Option.{slice_get-get_or, slice_get_past}
use mathlib.Core.Logic.{dite}
use native.Mathlib.Decide.{ℕ_discrete, dec_le}
use Rattle.play_shares.specs.Batches.{feeder_lines}
use Rattle.ass_script.specs.Limits.{max_lines}
use Rattle.play_shares.specs.Limits.{max_places}
use Rattle.run_words.specs.Limits.{max_batch, max_workers}

-- These are the numbers below `count` that stand `feeders` apart, from `feeder` on.
pub record AreSteps (feeders feeder count : ℕ) (xs : List ℕ) : Type 0 where
  pub items : xs ≡ map (λ j. j * feeders + feeder) (range_with_len 0 (length xs))
  pub below : (j : ℕ) → j < length xs → j * feeders + feeder < count
  pub through : count ≤ length xs * feeders + feeder

row_more : (a F : ℕ) → (a + 1) * F ≡ a * F + F
row_more a F = add-mul a 1 F ∙ omega arith

rows_at_most : (a b F : ℕ) → a ≤ b → a * F ≤ b * F
rows_at_most a b F le = mul-le a F b F le (omega arith)

-- the place behind the last one is that of the next line
next_place : (F f n q l : ℕ) → 0 < F → q * F + f ≡ n → n ≤ l * F + f → (q < l → q * F + f < n) → q ≡ l
next_place F f n q l some is through below = dite (dec_le l q)
    (λ low. dite (dec_le q l) (λ high. omega arith) (λ no. let step : (l + 1) * F ≤ q * F = rows_at_most (l + 1) q F (let lt : l < q = lt_of_not-le no in omega arith) in
    let row = row_more l F in absurd (omega arith)))
    (λ no. let lt : q < l = lt_of_not-le no in let less = below lt in absurd (omega arith))

module _ (F f n : ℕ) (xs : List ℕ) (inside : f < F) (steps : AreSteps F f n xs) where
  with_next : n % F ≡ f → AreSteps F f (n + 1) (xs ++ n ∷ [])
  with_next is =
      let l = length xs in
      let split : n / F * F + f ≡ n = subst (λ (m : ℕ). n / F * F + m ≡ n) is (div-add-mod' n F) in
      let place : n / F ≡ l = next_place F f n (n / F) l (omega (arith, inside)) split steps.through (λ lt. let less = steps.below (n / F) lt in omega (arith, less)) in
      let here : n ≡ l * F + f = sym (subst (λ (m : ℕ). m * F + f ≡ n) place split) in
      let long : length (xs ++ n ∷ []) ≡ l + 1 = length-append xs (n ∷ []) in
      record {
        items = ap (λ z. z ++ n ∷ []) steps.items ∙ ap (λ m. map (λ j. j * F + f) (range_with_len 0 l) ++ m ∷ []) here
            ∙ sym (map-range_with_len_more (λ j. j * F + f) 0 l l (omega arith)) ∙ ap (λ k. map (λ j. j * F + f) (range_with_len 0 k)) (sym long);
        below = λ j lt. dite (ℕ_discrete j l)
            (λ last. subst (λ (m : ℕ). m * F + f < n + 1) (sym last) (omega arith))
            (λ other. let less = steps.below j (omega arith) in omega arith);
        through = subst (λ (k : ℕ). n + 1 ≤ k * F + f) (sym long) (let row = row_more l F in omega arith);
      }

  without : n % F ≢ f → AreSteps F f (n + 1) xs
  without other = record {
    items = steps.items;
    below = λ j lt. let less = steps.below j lt in omega arith;
    through = dite (ℕ_discrete n (length xs * F + f))
        (λ is. absurd (other (ap (λ (m : ℕ). m % F) is ∙ mod-mul-add (length xs) F f inside)))
        (λ ne. let last = steps.through in omega arith);
  }

  more : AreSteps F f (n + 1) (xs ++ cond (eqb (n % F) f) (n ∷ []) [])
  more = dite (ℕ_discrete (n % F) f)
      (λ is. subst (λ (b : Bool). AreSteps F f (n + 1) (xs ++ cond b (n ∷ []) [])) (sym (eq-eqb (n % F) f is)) (with_next is))
      (λ ne. subst (λ (b : Bool). AreSteps F f (n + 1) (xs ++ cond b (n ∷ []) [])) (sym (ne_eqb (n % F) f ne))
      (subst (AreSteps F f (n + 1)) (sym (append-nil xs)) (without ne)))

pub lines_more : (n F f : ℕ) → feeder_lines (n + 1) F f ≡ feeder_lines n F f ++ cond (eqb (n % F) f) (n ∷ []) []
lines_more n F f =
    let p = λ (i : ℕ). eqb (i % F) f in
    ap (filter p) (sym (map-id (range_with_len 0 (n + 1)))) ∙ filter_of_map_range_with_len_more p (λ (k : ℕ). k) 0 n n (omega arith)
    ∙ ap (λ z. filter p z ++ cond (p n) (n ∷ []) []) (map-id (range_with_len 0 n))

pub lines_are_steps : (n F f : ℕ) → f < F → AreSteps F f n (feeder_lines n F f)
lines_are_steps zero F f inside = record { items = refl; below = λ j lt. absurd (omega arith); through = omega arith }
lines_are_steps (suc n) F f inside =
    let e : n + 1 ≡ suc n = omega arith in
    subst (λ (m : ℕ). AreSteps F f m (feeder_lines m F f)) e
    (subst (AreSteps F f (n + 1)) (sym (lines_more n F f)) (more F f n (feeder_lines n F f) inside (lines_are_steps n F f inside)))

-- the line at a place, where it is one
pub line_there : (n F f place : ℕ) → f < F → place * F + f < n → slice_get (feeder_lines n F f) place ≡ Some (place * F + f)
line_there n F f place inside there =
    let xs = feeder_lines n F f in
    let steps = lines_are_steps n F f inside in
    let lt : place < length xs = lt_of_not-le (λ past. let rows = rows_at_most (length xs) place F past in let last = steps.through in omega arith) in
    slice_get-get_or xs place 0 lt
    ∙ ap Some (ap (λ z. get_or z place 0) steps.items ∙ get_or-map-range_with_len (λ j. j * F + f) 0 (length xs) place place 0 lt (omega arith))

pub lines_end : (n F f place : ℕ) → f < F → n ≤ place * F + f → length (feeder_lines n F f) ≤ place
lines_end n F f place inside past = dite (dec_le (length (feeder_lines n F f)) place)
    (λ le. le)
    (λ no. let less = (lines_are_steps n F f inside).below place (lt_of_not-le no) in absurd (omega arith))

pub line_gone : (n F f place : ℕ) → f < F → n ≤ place * F + f → slice_get (feeder_lines n F f) place ≡ None
line_gone n F f place inside past = slice_get_past (feeder_lines n F f) place (lines_end n F f place inside past)

-- the number of a place times the feeders
pub rows_fit : (place feeders : ℕ) → place ≤ max_places → feeders ≤ max_workers → place * feeders ≤ max_places * max_workers
rows_fit place feeders low few = mul-le place feeders max_places max_workers low few

-- the first place of a batch
pub places_fit : (round batch : ℕ) → round ≤ max_lines → batch ≤ max_batch → round * batch ≤ max_lines * max_batch
places_fit round batch few short = mul-le round batch max_lines max_batch few short

-- so many batches of all feeders hold all lines of one
pub batches_hold : (count F b rounds f : ℕ) → f < F → count ≤ rounds * (F * b) → length (feeder_lines count F f) ≤ rounds * b
batches_hold count F b rounds f inside enough =
    let turned : rounds * (F * b) ≡ rounds * b * F = ap (λ z. rounds * z) (mul_comm F b) ∙ sym (mul_assoc rounds b F) in
    lines_end count F f (rounds * b) inside (omega (arith, enough, turned))
