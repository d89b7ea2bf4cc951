-- A walk along a line, field by field, and the cut at all commas.
use Rattle.std.proofs.Common.{◌≡◌, ℕ, ◌+◌, ◌-◌, ◌<◌, ◌≤◌, Bool, true, false, cond, leb, eqb, ◌⊎◌, inl, inr, List, [], ◌∷◌, length, take, drop, get_or, Some, None, Result, Ok, Err, refl, sym, ap, ◌∙◌, arith}
use Rattle.std.specs.Option.{option_map_or}
use Rattle.std.specs.List.{position_or_len, join_with_byte}
use Rattle.std.proofs.lemmas.List.{drop_more, drop_all, drop-drop, take_all, length-take-le, length-drop}
use Rattle.std.proofs.lemmas.List.Splits.{slice_split_first, slice_split_none, join_with_byte-slice_split}
use Rattle.std.proofs.lemmas.List.Sums.{fails_before_first, prefix_len-le-length}
use Rattle.std.proofs.lemmas.Bool.Decides.{nat_tests}
use Rattle.ass_script.specs.declared.script.EventField.{EventField}
use Rattle.ass_events.specs.declared.event.ChunkRefusal.{ChunkRefusal}
use Rattle.ass_events.specs.declared.event.ChunkRefusal.TheVariants.{Malformed}
use Rattle.ass_script.specs.Words.{is_comma}
use Rattle.ass_events.specs.Cuts.{pieces_of}
use Rattle.ass_events.specs.Fields.{FieldValues, no_fields, Column, columns_from, columns_of, column_put, field_put, examined}

-- the pieces from a place on; past the line's end there are none
abbrev pub pieces_at : List ℕ → ℕ → List (List ℕ)
pieces_at line place = cond (leb place (length line)) (pieces_of (drop place line)) []

-- what the fields from the i-th on say, where they begin at a place
abbrev pub said_from : List EventField → List ℕ → ℕ → ℕ → FieldValues → Result FieldValues ChunkRefusal
said_from format line i place fields = examined (columns_from (length line) place (drop i format) (pieces_at line place)) fields

-- what was read and what is left say what the line says
pub record Walked (format : List EventField) (line : List ℕ) (i place : ℕ) (fields : FieldValues) : Type 0 where
  pub within : place ≤ length line + 1
  pub rest : said_from format line i place fields ≡ examined (columns_of format line) no_fields

-- ---- the pieces

pieces_in : (line : List ℕ) (place : ℕ) → place ≤ length line → pieces_at line place ≡ pieces_of (drop place line)
pieces_in line place inside = let test : leb place (length line) ≡ true = grind (arith, nat_tests) in ap (λ b. cond b (pieces_of (drop place line)) []) test

pieces_past : (line : List ℕ) (place : ℕ) → length line < place → pieces_at line place ≡ []
pieces_past line place past = let test : leb place (length line) ≡ false = grind (arith, nat_tests) in ap (λ b. cond b (pieces_of (drop place line)) []) test

position_within : (rest : List ℕ) → position_or_len is_comma rest ≤ length rest
position_within rest = prefix_len-le-length _ rest

less_or_all : (k n : ℕ) → k ≤ n → (k < n) ⊎ (k ≡ n)
less_or_all k n h = grind arith

-- the first piece, and those behind its comma
pieces_cut : (line : List ℕ) (place k : ℕ) → place ≤ length line → k ≡ position_or_len is_comma (drop place line) → pieces_at line place ≡ take k (drop place line) ∷ pieces_at line (place + (k + 1))
pieces_cut line place k inside count =
    let rest = drop place line in
    let size : length rest ≡ length line - place = length-drop place line in
    let within : k ≤ length rest = omega (arith, count, position_within rest) in
    elim (less_or_all k (length rest) within) [
      | inl less ↦
          let first : position_or_len is_comma rest < length rest = omega (arith, count) in
          pieces_in line place inside ∙ slice_split_first is_comma rest 0 first
          ∙ ap (λ z. take z rest ∷ pieces_of (drop (z + 1) rest)) (sym count)
          ∙ ap (λ z. take k rest ∷ pieces_of z) (drop-drop (k + 1) place line)
          ∙ ap (λ z. take k rest ∷ z) (sym (pieces_in line (place + (k + 1)) (omega (arith, size))))
      | inr all ↦
          pieces_in line place inside ∙ slice_split_none is_comma rest (λ i d h. fails_before_first is_comma rest i d (omega (arith, count)))
          ∙ ap (λ z. z ∷ []) (sym (take_all k rest (omega arith)))
          ∙ ap (λ z. take k rest ∷ z) (sym (pieces_past line (place + (k + 1)) (omega (arith, size))))
    ]

-- ---- the columns

-- the first of several columns
columns_more : (len place i : ℕ) (format : List EventField) (d : EventField) (piece : List ℕ) (pieces : List (List ℕ)) → i + 1 < length format →
    columns_from len place (drop i format) (piece ∷ pieces)
    ≡ record { field = get_or format i d; place = place; piece = Some piece } ∷ columns_from len (place + length piece + 1) (drop (i + 1) format) pieces
unfolding columns_from
columns_more len place i format d piece pieces more =
    let here = drop_more format i d (omega arith) in
    let next = drop_more format (i + 1) d more in
    let column : Column = record { field = get_or format i d; place = place; piece = Some piece } in
    ap (λ z. columns_from len place z (piece ∷ pieces)) here
    ∙ ap (λ z. columns_from len place (get_or format i d ∷ z) (piece ∷ pieces)) next
    ∙ ap (λ z. column ∷ columns_from len (place + length piece + 1) z pieces) (sym next)

-- the last column has all that is left
columns_last : (len place i : ℕ) (format : List EventField) (d : EventField) (piece : List ℕ) (pieces : List (List ℕ)) → i + 1 ≡ length format →
    columns_from len place (drop i format) (piece ∷ pieces)
    ≡ record { field = get_or format i d; place = place; piece = Some (join_with_byte 44 (piece ∷ pieces)) } ∷ []
unfolding columns_from
columns_last len place i format d piece pieces last =
    let here = drop_more format i d (omega arith) in
    let none : drop (i + 1) format ≡ [] = drop_all (i + 1) format (omega arith) in
    ap (λ z. columns_from len place z (piece ∷ pieces)) here
    ∙ ap (λ z. columns_from len place (get_or format i d ∷ z) (piece ∷ pieces)) none

columns_none : (len place i : ℕ) (format : List EventField) (pieces : List (List ℕ)) → length format ≤ i → columns_from len place (drop i format) pieces ≡ []
unfolding columns_from
columns_none len place i format pieces past = ap (λ z. columns_from len place z pieces) (drop_all i format past)

columns_missing : (len place i : ℕ) (format : List EventField) (d : EventField) → i < length format →
    columns_from len place (drop i format) [] ≡ record { field = get_or format i d; place = len; piece = None } ∷ columns_from len place (drop (i + 1) format) []
unfolding columns_from
columns_missing len place i format d inside = ap (λ z. columns_from len place z []) (drop_more format i d inside)

-- how many bytes the i-th field takes
abbrev pub piece_count : List EventField → List ℕ → ℕ → ℕ → ℕ
piece_count format line i place = cond (eqb (i + 1) (length format)) (length (drop place line)) (position_or_len is_comma (drop place line))

count_within : (format : List EventField) (line : List ℕ) (i place n : ℕ) → n ≡ piece_count format line i place → n ≤ length (drop place line)
count_within format line i place n count = cases (eqb (i + 1) (length format)) count
  where
    cases : (b : Bool) → n ≡ cond b (length (drop place line)) (position_or_len is_comma (drop place line)) → n ≤ length (drop place line)
    cases true e = omega (arith, e)
    cases false e = omega (arith, e, position_within (drop place line))

columns_step : (format : List EventField) (line : List ℕ) (i place n : ℕ) (d : EventField) → i < length format → place ≤ length line → n ≡ piece_count format line i place →
    columns_from (length line) place (drop i format) (pieces_at line place)
    ≡ record { field = get_or format i d; place = place; piece = Some (take n (drop place line)) } ∷ columns_from (length line) (place + (n + 1)) (drop (i + 1) format) (pieces_at line (place + (n + 1)))
columns_step format line i place n d inside within count = elim (last_or_not (i + 1) (length format)) [
  | inl last ↦
      let rest = drop place line in
      let k = position_or_len is_comma rest in
      let cut = pieces_cut line place k within refl in
      let all : n ≡ length rest = count ∙ ap (λ b. cond b (length rest) k) last.0 in
      let whole : join_with_byte 44 (take k rest ∷ pieces_at line (place + (k + 1))) ≡ take n rest =
      ap (join_with_byte 44) (sym cut ∙ pieces_in line place within) ∙ join_with_byte-slice_split 44 rest ∙ sym (take_all n rest (omega arith)) in
      ap (columns_from (length line) place (drop i format)) cut
      ∙ columns_last (length line) place i format d (take k rest) (pieces_at line (place + (k + 1))) last.1
      ∙ ap (λ z. record { field = get_or format i d; place = place; piece = Some z } ∷ []) whole
      ∙ ap (λ z. record { field = get_or format i d; place = place; piece = Some (take n rest) } ∷ z) (sym (columns_none (length line) (place + (n + 1)) (i + 1) format (pieces_at line (place + (n + 1))) (omega (arith, last.1))))
  | inr more ↦
      let rest = drop place line in
      let is : n ≡ position_or_len is_comma rest = count ∙ ap (λ b. cond b (length rest) (position_or_len is_comma rest)) more.0 in
      let size : length (take n rest) ≡ n = length-take-le n rest (omega (arith, is, position_within rest)) in
      let place_is : place + length (take n rest) + 1 ≡ place + (n + 1) = omega (arith, size) in
      let column : Column = record { field = get_or format i d; place = place; piece = Some (take n rest) } in
      ap (columns_from (length line) place (drop i format)) (pieces_cut line place n within is)
      ∙ columns_more (length line) place i format d (take n rest) (pieces_at line (place + (n + 1))) (omega (arith, more.1))
      ∙ ap (λ z. column ∷ columns_from (length line) z (drop (i + 1) format) (pieces_at line (place + (n + 1)))) place_is
]
  where
    last_or_not : (a b : ℕ) → ((eqb a b ≡ true) × (a ≡ b)) ⊎ ((eqb a b ≡ false) × (a ≡ b → ⊥))
    last_or_not a b = cases (eqb a b) refl
      where
        cases : (t : Bool) → eqb a b ≡ t → ((eqb a b ≡ true) × (a ≡ b)) ⊎ ((eqb a b ≡ false) × (a ≡ b → ⊥))
        cases true e = inl (e, grind (arith, nat_tests))
        cases false e = inr (e, grind (arith, nat_tests))

-- ---- the fields

pub examined_some : (column : Column) (columns : List Column) (fields more : FieldValues) → column_put column fields ≡ Some more → examined (column ∷ columns) fields ≡ examined columns more
unfolding examined
examined_some column columns fields more e = ap (λ o. option_map_or (examined columns) o (Err (Malformed column.field column.place))) e

examined_none : (column : Column) (columns : List Column) (fields : FieldValues) → column_put column fields ≡ None → examined (column ∷ columns) fields ≡ Err (Malformed column.field column.place)
unfolding examined
examined_none column columns fields e = ap (λ o. option_map_or (examined columns) o (Err (Malformed column.field column.place))) e

examined_all : (columns : List Column) (fields : FieldValues) → columns ≡ [] → examined columns fields ≡ Ok fields
unfolding examined
examined_all columns fields e = ap (λ z. examined z fields) e

module _ (format : List EventField) (line : List ℕ) (i place n : ℕ) (fields : FieldValues) (d : EventField) (so_far : Walked format line i place fields) where
  -- one field more
  pub walk_on : (more : FieldValues) → i < length format → place ≤ length line → n ≡ piece_count format line i place → field_put (get_or format i d) (take n (drop place line)) fields ≡ Some more → Walked format line (i + 1) (place + (n + 1)) more
  walk_on more inside within count put =
      let size : length (drop place line) ≡ length line - place = length-drop place line in
      let bounded : n ≤ length (drop place line) = count_within format line i place n count in
      record {
        within = omega arith;
        rest = sym (ap (λ z. examined z fields) (columns_step format line i place n d inside within count)
            ∙ examined_some (record { field = get_or format i d; place = place; piece = Some (take n (drop place line)) })
            (columns_from (length line) (place + (n + 1)) (drop (i + 1) format) (pieces_at line (place + (n + 1)))) fields more put) ∙ so_far.rest;
      }

  -- a field that can't be read
  pub walk_stops : i < length format → place ≤ length line → n ≡ piece_count format line i place → field_put (get_or format i d) (take n (drop place line)) fields ≡ None → examined (columns_of format line) no_fields ≡ Err (Malformed (get_or format i d) place)
  walk_stops inside within count put =
      sym so_far.rest ∙ ap (λ z. examined z fields) (columns_step format line i place n d inside within count)
      ∙ examined_none (record { field = get_or format i d; place = place; piece = Some (take n (drop place line)) }) (columns_from (length line) (place + (n + 1)) (drop (i + 1) format) (pieces_at line (place + (n + 1)))) fields put

  -- a field that isn't there
  pub walk_misses : i < length format → length line < place → examined (columns_of format line) no_fields ≡ Err (Malformed (get_or format i d) (length line))
  walk_misses inside past =
      sym so_far.rest ∙ ap (λ z. examined (columns_from (length line) place (drop i format) z) fields) (pieces_past line place past)
      ∙ ap (λ z. examined z fields) (columns_missing (length line) place i format d inside)
      ∙ examined_none (record { field = get_or format i d; place = length line; piece = None }) (columns_from (length line) place (drop (i + 1) format) []) fields refl

  -- the last field is read
  pub walk_ends : length format ≤ i → examined (columns_of format line) no_fields ≡ Ok fields
  walk_ends past = sym so_far.rest ∙ examined_all (columns_from (length line) place (drop i format) (pieces_at line place)) fields (columns_none (length line) place i format (pieces_at line place) past)
