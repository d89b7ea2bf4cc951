-- A written text is cut into its lines.
use Rattle.std.proofs.Common.{◌≡◌, ℕ, ◌-◌, ◌<◌, false, cond, eqb, List, [], ◌∷◌, ◌++◌, length, get_or, take, flat_map, refl, ap, ◌∙◌, arith, append_assoc, length-append}
use Rattle.std.specs.List.{All, slice_split}
use Rattle.std.specs.Str.{IsUtf8}
use Rattle.std.specs.Str.Lines.{strip_carriage_return, lines_of_parts, lines}
use Rattle.std.proofs.lemmas.List.{get_or-append_right}
use Rattle.std.proofs.lemmas.List.Elements.{All-nil, All-cons, All-append}
use Rattle.std.proofs.lemmas.List.Splits.{slice_split_at, length-slice_split}
use Rattle.std.proofs.lemmas.Str.{IsUtf8-append, IsUtf8-nil, IsUtf8-from_ascii}
use Rattle.std.proofs.lemmas.Str.Ascii.{IsAscii-from_all}
use Rattle.track_write.specs.Rows.{row, ended}
use Rattle.track_write.specs.Texts.{is_line_feed}

-- ---- cutting

-- a line that stands whole: no line feed in it, and no carriage return at its end
pub record IsLine (line : List ℕ) : Type 0 where
  pub no_line_feed : All (λ c. is_line_feed c ≡ false) line
  pub last : eqb (get_or line (length line - 1) 0) 13 ≡ false
  pub utf8 : IsUtf8 line

-- each of the lines does
abbrev pub AreLines : List (List ℕ) → Type 0
AreLines [] = Unit {0}
AreLines (line ∷ rest) = IsLine line × AreLines rest

pub lines_append : (a b : List (List ℕ)) → AreLines a → AreLines b → AreLines (a ++ b)
lines_append [] b first second = second
lines_append (line ∷ rest) b first second = (first.0, lines_append rest b first.1 second)

parts_on : (line : List ℕ) (parts : List (List ℕ)) → 0 < length parts → lines_of_parts (line ∷ parts) ≡ strip_carriage_return line ∷ lines_of_parts parts
parts_on line [] some = absurd (omega arith)
parts_on line (part ∷ parts) some = refl

some_parts : (text : List ℕ) → 0 < length (slice_split is_line_feed text)
some_parts text = omega (arith, length-slice_split is_line_feed text)

kept_whole : (line : List ℕ) → IsLine line → strip_carriage_return line ≡ line
kept_whole line is = ap (λ b. cond b (take (length line - 1) line) line) is.last

pub lines_back : (all : List (List ℕ)) → AreLines all → lines (flat_map ended all) ≡ all
lines_back [] each = refl
lines_back (line ∷ rest) each =
    let more = flat_map ended rest in
    ap lines (append_assoc line (10 ∷ []) more)
    ∙ ap lines_of_parts (slice_split_at is_line_feed line 10 more each.0.no_line_feed refl)
    ∙ parts_on line (slice_split is_line_feed more) (some_parts more)
    ∙ ap (λ z. z ∷ lines more) (kept_whole line each.0)
    ∙ ap (λ z. line ∷ z) (lines_back rest each.1)

line_feed_utf8 : IsUtf8 (10 ∷ [])
line_feed_utf8 = IsUtf8-from_ascii (10 ∷ []) (IsAscii-from_all (10 ∷ []) (All-cons (λ c. c < 128) 10 [] (omega arith) (All-nil (λ c. c < 128))))

pub text_utf8 : (all : List (List ℕ)) → AreLines all → IsUtf8 (flat_map ended all)
text_utf8 [] each = IsUtf8-nil
text_utf8 (line ∷ rest) each = IsUtf8-append (line ++ 10 ∷ []) (flat_map ended rest) (IsUtf8-append line (10 ∷ []) each.0.utf8 line_feed_utf8) (text_utf8 rest each.1)

-- ---- the last byte

-- what is put before a text that has a byte doesn't change its last byte
pub last_of_two : (a b : List ℕ) → 0 < length b → get_or (a ++ b) (length (a ++ b) - 1) 0 ≡ get_or b (length b - 1) 0
last_of_two a b some =
    let size = length-append a b in
    let place : length (a ++ b) - 1 - length a ≡ length b - 1 = omega arith in
    get_or-append_right a b (length a) (length (a ++ b) - 1) 0 refl (omega arith) ∙ ap (λ k. get_or b k 0) place

-- ---- facts of a row

-- a fact of the bytes of each field
abbrev pub EachField : (ℕ → Type 0) → List (List ℕ) → Type 0
EachField P [] = Unit {0}
EachField P (field ∷ fields) = All P field × EachField P fields

pub row_all : (P : ℕ → Type 0) → P 44 → (fields : List (List ℕ)) → EachField P fields → All P (row fields)
row_all P comma [] each = All-nil P
row_all P comma (field ∷ []) each = each.0
row_all P comma (field ∷ (next ∷ fields)) each = All-append P field (44 ∷ row (next ∷ fields)) each.0 (All-cons P 44 (row (next ∷ fields)) comma (row_all P comma (next ∷ fields) each.1))

-- the last byte of a row is that of its last field, or the comma before it
pub row_last : (fields : List (List ℕ)) (field : List ℕ) → 0 < length fields → eqb (get_or (44 ∷ field) (length (44 ∷ field) - 1) 0) 13 ≡ false → eqb (get_or (row (fields ++ field ∷ [])) (length (row (fields ++ field ∷ [])) - 1) 0) 13 ≡ false
row_last [] field some last = absurd (omega arith)
row_last (first ∷ []) field some last = ap (λ c. eqb c 13) (last_of_two first (44 ∷ field) (omega arith)) ∙ last
row_last (first ∷ (next ∷ fields)) field some last =
    let rest = row ((next ∷ fields) ++ field ∷ []) in
    ap (λ c. eqb c 13) (last_of_two first (44 ∷ rest) (omega arith)) ∙ behind rest (row_last (next ∷ fields) field (omega arith) last)
  where
    behind : (rest : List ℕ) → eqb (get_or rest (length rest - 1) 0) 13 ≡ false → eqb (get_or (44 ∷ rest) (length (44 ∷ rest) - 1) 0) 13 ≡ false
    behind [] e = refl
    behind (c ∷ cs) e = ap (λ z. eqb z 13) (last_of_two (44 ∷ []) (c ∷ cs) (omega arith)) ∙ e
