-- A list after a write to a part of it.
use Rattle.std.proofs.Common.{◌≡◌, ℕ, ◌+◌, ◌-◌, ◌<◌, ◌≤◌, List, length, get_or, take, drop, rules}
use Rattle.std.proofs.lemmas.List.{places}
use Rattle.std.proofs.lemmas.List.Edits.{length-between}
use borrow.Rule.Slice.PartMut.{put_mid}

pub put_below : (a n t : ℕ) (xs ys : List ℕ) → t < a → a ≤ length xs → get_or (put_mid a n xs ys) t 0 ≡ get_or xs t 0
put_below a n t xs ys below fits = search (rules, places)

pub put_inside : (a n t : ℕ) (xs ys : List ℕ) → a ≤ length xs → t < length ys → get_or (put_mid a n xs ys) (a + t) 0 ≡ get_or ys t 0
put_inside a n t xs ys fits within = search (rules, places)

pub put_behind : (a n t : ℕ) (xs ys : List ℕ) → a ≤ length xs → length ys ≡ n → a + n ≤ t → get_or (put_mid a n xs ys) t 0 ≡ get_or xs t 0
put_behind a n t xs ys fits count behind = search (rules, places)

pub length-put : (a n : ℕ) (xs ys : List ℕ) → a + n ≤ length xs → length ys ≡ n → length (put_mid a n xs ys) ≡ length xs
length-put a n xs ys fits count = search (rules, places)

-- the part of a list from place a to place e
pub length_part : (a e : ℕ) (xs : List ℕ) → e ≤ length xs → length (take (e - a) (drop a xs)) ≡ e - a
length_part a e xs fits = length-between xs a e fits
