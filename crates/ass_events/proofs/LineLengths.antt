-- No line of a script is longer than the text.
use Rattle.std.proofs.Common.{◌≡◌, ℕ, suc, ◌+◌, ◌-◌, ◌≤◌, Bool, true, false, cond, List, [], ◌∷◌, length, filter, take, drop, All, ap, subst, arith, Option, Some, None, Result, Ok, Err, length-drop, length-take-le}
use Rattle.std.specs.Prelude.{slice_index, ◌==◌}
use Rattle.std.specs.Bool.{nat_eq}
use Rattle.std.specs.List.{after_first, list_any, position_or_len, onto_first, slice_split, starts_with}
use Rattle.std.specs.Option.{option_map_or}
use Rattle.std.specs.Str.Lines.{lines, lines_of_parts, strip_carriage_return}
use Rattle.std.specs.Str.Lossy.{utf8_valid_len}
use Rattle.std.proofs.lemmas.List.Elements.{All-cons, All-filter, All-head, All-map, All-nil, All-tail, All-weaker}
use Rattle.ass_script.specs.Lines.{Line, is_comment, is_heading, keyed_line, line_in, lines_in_sections, section_behind}
use Rattle.ass_script.specs.Scripts.{ScriptValue, has, is_dialogue, is_events_heading, limit_behind, lines_of, picked_script, script_of, script_of_lines, values_of}
use Rattle.ass_script.specs.Words.{is_colon, past_mark}
use Rattle.ass_script.specs.declared.lines.Section.{Section}
use Rattle.ass_script.specs.declared.lines.Section.TheVariants as section
use Rattle.ass_script.specs.declared.refusal.ScriptRefusal.{ScriptRefusal}
use Rattle.ass_script.specs.declared.refusal.ScriptRefusal.TheVariants as refusal

abbrev AreWithin : ℕ → List (List ℕ) → Type 0
AreWithin n texts = All (λ text. length text ≤ n) texts

abbrev HasValueWithin : ℕ → Line → Type 0
HasValueWithin n line = length line.value ≤ n

-- ---- parts and lines of a text

wider : (m n : ℕ) → m ≤ n → (texts : List (List ℕ)) → AreWithin m texts → AreWithin n texts
wider m n le texts h = All-weaker (λ (text : List ℕ). length text ≤ m) (λ (text : List ℕ). length text ≤ n) (λ text l. omega (arith, l, le)) texts h

onto_within : (n x : ℕ) (parts : List (List ℕ)) → AreWithin n parts → AreWithin (suc n) (onto_first x parts)
onto_within n x [] h = All-cons (λ (text : List ℕ). length text ≤ suc n) (x ∷ []) [] (omega arith) (All-nil (λ (text : List ℕ). length text ≤ suc n))
onto_within n x (part ∷ parts) h =
    let first = All-head (λ (text : List ℕ). length text ≤ n) part parts h in
    All-cons (λ (text : List ℕ). length text ≤ suc n) (x ∷ part) parts (omega (arith, first))
    (wider n (suc n) (omega arith) parts (All-tail (λ (text : List ℕ). length text ≤ n) part parts h))

parts_within : (p : ℕ → Bool) (bytes : List ℕ) → AreWithin (length bytes) (slice_split p bytes)
parts_within p [] = All-cons (λ (text : List ℕ). length text ≤ 0) [] [] (omega arith) (All-nil (λ (text : List ℕ). length text ≤ 0))
parts_within p (x ∷ xs) = at (p x) (parts_within p xs)
  where
    at : (b : Bool) → AreWithin (length xs) (slice_split p xs) → AreWithin (suc (length xs)) (cond b ([] ∷ slice_split p xs) (onto_first x (slice_split p xs)))
    at true h = All-cons (λ (text : List ℕ). length text ≤ suc (length xs)) [] (slice_split p xs) (omega arith) (wider (length xs) (suc (length xs)) (omega arith) (slice_split p xs) h)
    at false h = onto_within (length xs) x (slice_split p xs) h

stripped_within : (n : ℕ) (text : List ℕ) → length text ≤ n → length (strip_carriage_return text) ≤ n
stripped_within n text h = at (slice_index text (length text - 1) == 13)
  where
    at : (b : Bool) → length (cond b (take (length text - 1) text) text) ≤ n
    at true = omega (arith, h, length-take-le (length text - 1) text (omega arith))
    at false = h

lines_within : (n : ℕ) (parts : List (List ℕ)) → AreWithin n parts → AreWithin n (lines_of_parts parts)
lines_within n [] h = All-nil (λ (text : List ℕ). length text ≤ n)
lines_within n (x ∷ []) h = at (length x == 0)
  where
    at : (b : Bool) → AreWithin n (cond b [] (x ∷ []))
    at true = All-nil (λ (text : List ℕ). length text ≤ n)
    at false = h
lines_within n (x ∷ y ∷ more) h =
    All-cons (λ (text : List ℕ). length text ≤ n) (strip_carriage_return x) (lines_of_parts (y ∷ more))
    (stripped_within n x (All-head (λ (text : List ℕ). length text ≤ n) x (y ∷ more) h))
    (lines_within n (y ∷ more) (All-tail (λ (text : List ℕ). length text ≤ n) x (y ∷ more) h))

past_within : (bytes : List ℕ) → length (past_mark bytes) ≤ length bytes
unfolding past_mark
past_within bytes = at (starts_with nat_eq bytes (239 ∷ 187 ∷ 191 ∷ []))
  where
    at : (b : Bool) → length (cond b (drop 3 bytes) bytes) ≤ length bytes
    at true = omega (arith, length-drop 3 bytes)
    at false = omega arith

-- ---- what stands behind a colon

after_within : (text : List ℕ) → length (after_first is_colon text) ≤ length text
after_within text = omega (arith, length-drop (position_or_len is_colon text + 1) text)

either_within : (n : ℕ) (b : Bool) (x y : Line) → HasValueWithin n x → HasValueWithin n y → HasValueWithin n (cond b x y)
either_within n true x y first second = first
either_within n false x y first second = second

keyed_within : (n : ℕ) (s : Section) (text : List ℕ) → length text ≤ n → HasValueWithin n (keyed_line s text)
unfolding keyed_line
keyed_within n s text h =
    either_within n (is_comment text) _ _ (omega arith) (either_within n (list_any is_colon text) _ _ (omega (arith, h, after_within text)) (omega arith))

line_within : (n : ℕ) (s : Section) (text : List ℕ) → length text ≤ n → HasValueWithin n (line_in s text)
line_within n s text h = either_within n (is_heading text) _ _ (omega arith) (keyed_within n s text h)

values_within : (n : ℕ) (s : Section) (texts : List (List ℕ)) → AreWithin n texts → All (HasValueWithin n) (lines_in_sections s texts)
values_within n s [] h = All-nil (HasValueWithin n)
values_within n s (text ∷ texts) h =
    All-cons (HasValueWithin n) (line_in s text) (lines_in_sections (section_behind s text) texts)
    (line_within n s text (All-head (λ (text : List ℕ). length text ≤ n) text texts h))
    (values_within n (section_behind s text) texts (All-tail (λ (text : List ℕ). length text ≤ n) text texts h))

dialogues_within : (bytes : List ℕ) → AreWithin (length bytes) (values_of is_dialogue (lines_of bytes))
dialogues_within bytes =
    let n = length bytes in
    let all = lines_of bytes in
    let texts = wider (length (past_mark bytes)) n (past_within bytes) (lines (past_mark bytes)) (lines_within (length (past_mark bytes)) (slice_split (λ b. b == 10) (past_mark bytes)) (parts_within (λ b. b == 10) (past_mark bytes))) in
    All-map (λ (text : List ℕ). length text ≤ n) (λ (line : Line). line.value) (filter (λ line. is_dialogue line.key) all)
    (All-filter (λ (line : Line). is_dialogue line.key) (HasValueWithin n) all (values_within n section.Other (lines (past_mark bytes)) texts))

-- ---- the script

if_ok : (b : Bool) (answer : Result ScriptValue ScriptRefusal) (why : ScriptRefusal) (script : ScriptValue) → cond b answer (Err why) ≡ Ok script → answer ≡ Ok script
if_ok true answer why script e = e
if_ok false answer why script e = absurd cc

abbrev lines_in : Result ScriptValue ScriptRefusal → List (List ℕ)
lines_in (Ok script) = script.lines
lines_in (Err why) = []

unlimited : (limit : Option ScriptRefusal) (picked script : ScriptValue) → option_map_or Err limit (Ok picked) ≡ Ok script → picked.lines ≡ script.lines
unlimited None picked script e = ap lines_in e
unlimited (Some why) picked script e = absurd cc

picked_lines : (all : List Line) (script : ScriptValue) → script_of_lines all ≡ Ok script → values_of is_dialogue all ≡ script.lines
picked_lines all script e =
    unlimited (limit_behind [] all) (picked_script all) script
    (if_ok (has is_events_heading all) (option_map_or Err (limit_behind [] all) (Ok (picked_script all))) refusal.NoEvents script e)

pub lines_fit : (bytes : List ℕ) (script : ScriptValue) → script_of bytes ≡ Ok script → AreWithin (length bytes) script.lines
lines_fit bytes script e =
    let spelled = if_ok (utf8_valid_len bytes == length bytes) (script_of_lines (lines_of bytes)) (refusal.NotUtf8 (utf8_valid_len bytes)) script e in
    subst (AreWithin (length bytes)) (picked_lines (lines_of bytes) script spelled) (dialogues_within bytes)
