-- Parts of a list, item by item.
use Rattle.std.proofs.Common.{◌≡◌, ℕ, ◌+◌, ◌-◌, ◌<◌, ◌≤◌, Bool, true, false, ltb, cond, List, [], ◌∷◌, ◌++◌, length, get_or, take, drop, Some, None, sym, ap, ◌∙◌, arith, append_assoc, length-drop, le-ltb, lt-ltb, lt_of_not-le}
use Rattle.std.specs.List.{slice_get}
use Rattle.std.specs.Option.{is_some}
use Rattle.std.proofs.lemmas.List.{get_or-drop, take_all, take_more}
use Rattle.std.proofs.lemmas.List.Elements.{filter-append}
use Rattle.std.proofs.lemmas.Option.{get_or_from_slice_get, none-some, slice_get-get_or, slice_get_past, slice_get_within}
use mathlib.Core.Logic.{dite}
use native.Mathlib.Decide.{dec_le}
use Rattle.play_shares.specs.Batches.{good_lines}

module _ {X : Type 0} (xs : List X) where
  -- where an item is missing, the list ends
  ends_before : (i : ℕ) (d : X) → slice_get xs i ≡ None → length xs ≤ i
  ends_before i d is = dite (dec_le (length xs) i) (λ h. h)
      (λ no. absurd (none-some (get_or xs i d) (sym is ∙ slice_get-get_or xs i d (lt_of_not-le no))))

  pub part_more : (first k : ℕ) (x : X) → slice_get xs (first + k) ≡ Some x → take (k + 1) (drop first xs) ≡ take k (drop first xs) ++ x ∷ []
  part_more first k x is =
      let inside : first + k < length xs = slice_get_within xs (first + k) x is in
      take_more (drop first xs) k x (let long = length-drop first xs in omega arith)
      ∙ ap (λ y. take k (drop first xs) ++ y ∷ []) (get_or-drop first xs k x ∙ get_or_from_slice_get xs (first + k) x x is)

  pub part_ends : (first k n : ℕ) (d : X) → slice_get xs (first + k) ≡ None → k ≤ n → take n (drop first xs) ≡ take k (drop first xs)
  part_ends first k n d is le =
      let past : length xs ≤ first + k = ends_before (first + k) d is in
      let long : length (drop first xs) ≤ k = (let l = length-drop first xs in omega arith) in
      take_all n (drop first xs) (omega arith) ∙ sym (take_all k (drop first xs) long)

-- whether there is an item at a place
pub some_within : (xs : List ℕ) (i : ℕ) → is_some (slice_get xs i) ≡ ltb i (length xs)
some_within xs i = dite (dec_le (length xs) i)
    (λ past. ap is_some (slice_get_past xs i past) ∙ sym (le-ltb i (length xs) past))
    (λ no. let lt : i < length xs = lt_of_not-le no in ap is_some (slice_get-get_or xs i 0 lt) ∙ sym (lt-ltb i (length xs) lt))

-- one line that gives an event, and one that gives none
pub good_one : (good : List Bool) (line : ℕ) → get_or good line false ≡ true → good_lines good (line ∷ []) ≡ line ∷ []
good_one good line is = ap (λ b. cond b (line ∷ []) []) is

pub good_none : (good : List Bool) (line : ℕ) → get_or good line false ≡ false → good_lines good (line ∷ []) ≡ []
good_none good line is = ap (λ b. cond b (line ∷ []) []) is

module _ (good : List Bool) (xs start : List ℕ) (first place : ℕ) (from : first ≤ place) where
  place_is : first + (place - first) ≡ place
  place_is = omega (arith, from)

  pub batch_more : (lines next : List ℕ) (line : ℕ) → lines ≡ start ++ good_lines good (take (place - first) (drop first xs))
      → slice_get xs place ≡ Some line → next ≡ lines ++ good_lines good (line ∷ [])
      → next ≡ start ++ good_lines good (take (place + 1 - first) (drop first xs))
  batch_more lines next line was here is =
      let k = place - first in
      let there : slice_get xs (first + k) ≡ Some line = ap (slice_get xs) place_is ∙ here in
      let more : place + 1 - first ≡ k + 1 = omega (arith, from) in
      is ∙ ap (λ z. z ++ good_lines good (line ∷ [])) was
      ∙ append_assoc start (good_lines good (take k (drop first xs))) (good_lines good (line ∷ []))
      ∙ ap (λ z. start ++ z) (sym (filter-append (λ i. get_or good i false) (take k (drop first xs)) (line ∷ []))
      ∙ ap (good_lines good) (sym (part_more xs first k line there) ∙ ap (λ n. take n (drop first xs)) (sym more)))

  pub batch_ends : (lines : List ℕ) (n : ℕ) → lines ≡ start ++ good_lines good (take (place - first) (drop first xs))
      → slice_get xs place ≡ None → place ≤ first + n → lines ≡ start ++ good_lines good (take n (drop first xs))
  batch_ends lines n was here le =
      let gone : slice_get xs (first + (place - first)) ≡ None = ap (slice_get xs) place_is ∙ here in
      was ∙ ap (λ z. start ++ good_lines good z) (sym (part_ends xs first (place - first) n 0 gone (omega (arith, from, le))))
