-- The reading of a drawing as far as it has come, token by token and command by command.
use Rattle.std.proofs.Common.{◌≡◌, ℕ, zero, suc, ℤ, ◌+◌, ◌-◌, ◌<◌, true, false, ◌≤◌, Option, Some, None, inl, inr, List, [], ◌∷◌, ◌++◌, length, take, drop, get_or, slice_get, refl, sym, ap, ◌∙◌, subst, arith, length-drop, length-append, append_assoc}
use Rattle.std.proofs.Math.ListN.{drop_of_length-le}
use Rattle.std.proofs.Math.Seq.{drop-cons, take-length}
use Rattle.std.proofs.lemmas.List.{append-nil, drop-drop}
use Rattle.std.proofs.lemmas.Option.{slice_get_cases, get_or_from_slice_get, slice_get-get_or}
use Rattle.std.specs.Option.{is_some, option_to_list, option_and_then}
use Rattle.ass_num.specs.Fronts.{IsLongestFront, HasNoFront}
use Rattle.ass_num.specs.Numerals.{IsMilli, IsDecimal}
use Rattle.ass_num.specs.declared.geometry.Point.{Point}
use Rattle.ass_num.specs.declared.geometry.Seg.{Seg}
use Rattle.drawing_path.specs.declared.command.Command.{Command}
use Rattle.drawing_path.specs.Tokens.{Token, Letter, Number, Skipped, IsToken, AreTokens, command_of}
use Rattle.drawing_path.specs.Paths.{leading_numbers, points_of, after_command, path_after, IsPathOf}
use Rattle.drawing_path.specs.Runs.{command_at, BeginsWithPoints, IsPointRun, coordinates, AddsNumber}

-- ---- numbers and points

pub coordinates-append : (points more : List Point) → coordinates (points ++ more) ≡ coordinates points ++ coordinates more
coordinates-append [] more = refl
coordinates-append (point ∷ points) more = ap (λ z. point.x ∷ (point.y ∷ z)) (coordinates-append points more)

-- the second of two numbers
pub second_added : (points : List Point) (point : Point) → AddsNumber points (Some point.x) point.y (points ++ point ∷ []) None
second_added points point rest =
    ap (λ z. z ++ rest) (coordinates-append points (point ∷ [])) ∙ append_assoc (coordinates points) (point.x ∷ (point.y ∷ [])) rest

-- A number that is left over is no point.
points_of-coordinates : (points : List Point) (waiting : Option ℤ) → points_of (coordinates points ++ option_to_list waiting) ≡ points
points_of-coordinates [] None = refl
points_of-coordinates [] (Some _) = refl
points_of-coordinates (point ∷ points) waiting = ap (λ z. point ∷ z) (points_of-coordinates points waiting)

-- ---- the token at the front

letter_token : (text : List ℕ) (first : ℕ) (rest : List ℕ) (command : Command) → text ≡ first ∷ rest → command_of first ≡ Some command → IsToken text (Letter command) 1
letter_token text first rest command e is =
    let P : List ℕ → Type 0 = λ z. IsToken z (Letter command) 1 in subst P (sym e) (is, refl)

number_token : (text : List ℕ) (first : ℕ) (rest : List ℕ) (value : ℤ) (len : ℕ) → text ≡ first ∷ rest → command_of first ≡ None → IsLongestFront IsMilli text value len → IsToken text (Number value) len
number_token text first rest value len e none front =
    let P : List ℕ → Type 0 = λ z. IsLongestFront IsMilli z value len → IsToken z (Number value) len in
    subst P (sym e) (λ f. (none, f)) front

skipped_token : (text : List ℕ) (first : ℕ) (rest : List ℕ) → text ≡ first ∷ rest → command_of first ≡ None → HasNoFront IsMilli text → IsToken text Skipped 1
skipped_token text first rest e none nothing =
    let P : List ℕ → Type 0 = λ z. HasNoFront IsMilli z → IsToken z Skipped 1 in
    subst P (sym e) (λ f. (none, f, refl)) nothing

-- A number has at least one byte.
pub some_bytes : (text : List ℕ) (value : ℤ) (len : ℕ) → IsLongestFront IsMilli text value len → 0 < len
some_bytes text value zero front =
    let m : IsMilli [] value = front.spelled in
    let d : IsDecimal m.decimal m.thousandths = m.number in
    let all : length (m.sign ++ m.decimal) ≡ 0 = sym (ap length m.spelled) in
    let parts : length (d.whole ++ (d.point ++ d.fraction)) ≡ length m.decimal = sym (ap length d.spelled) in
    absurd (omega (arith, length-append m.sign m.decimal, length-append d.whole (d.point ++ d.fraction), length-append d.point d.fraction, d.some_digit))
some_bytes text value (suc len) front = omega arith

-- ---- the numbers behind a letter

-- The tokens of a text that begins with these coordinates and goes on with the tokens `rest`.
pub record BeginsWithNumbers (text : List ℕ) (points : List Point) (waiting : Option ℤ) (rest : List Token) : Type 0 where
  pub tokens : List Token
  pub read : AreTokens tokens text
  pub numbers : leading_numbers tokens ≡ coordinates points ++ (option_to_list waiting ++ leading_numbers rest)
  pub skipped : (path : List Seg) → path_after path tokens ≡ path_after path rest

-- What was read before a place.
pub record IsReading (text : List ℕ) (at : ℕ) (points : List Point) (waiting : Option ℤ) : Type 0 where
  pub within : at ≤ length text
  pub begins : (rest : List Token) → AreTokens rest (drop at text) → BeginsWithNumbers text points waiting rest

pub reading_none : (text : List ℕ) → IsReading text 0 [] None
reading_none text = record {
  within = omega arith;
  begins = λ rest read. record { tokens = rest; read = read; numbers = refl; skipped = λ path. refl };
}

front_of : (text : List ℕ) (at : ℕ) → at < length text → drop at text ≡ get_or text at 0 ∷ drop (suc at) text
front_of text at lt = drop-cons text at 0 lt

pub reading_number : (text : List ℕ) (at : ℕ) (points : List Point) (waiting : Option ℤ) (value : ℤ) (len : ℕ) (new : List Point) (left : Option ℤ) → at < length text → command_of (get_or text at 0) ≡ None → IsLongestFront IsMilli (drop at text) value len → AddsNumber points waiting value new left → IsReading text at points waiting → IsReading text (at + len) new left
reading_number text at points waiting value len new left lt none front adds reading =
    let token : IsToken (drop at text) (Number value) len = number_token (drop at text) (get_or text at 0) (drop (suc at) text) value len (front_of text at lt) none front in
    record {
      within = omega (arith, front.within, length-drop at text);
      begins = λ rest read.
          let P : List ℕ → Type 0 = λ z. AreTokens rest z in
          let old : BeginsWithNumbers text points waiting (Number value ∷ rest) = reading.begins (Number value ∷ rest) (len, token, subst P (sym (drop-drop len at text)) read) in
          record { tokens = old.tokens; read = old.read; numbers = old.numbers ∙ sym (adds (leading_numbers rest)); skipped = old.skipped };
    }

pub reading_skipped : (text : List ℕ) (at : ℕ) (points : List Point) (waiting : Option ℤ) → at < length text → command_of (get_or text at 0) ≡ None → HasNoFront IsMilli (drop at text) → IsReading text at points waiting → IsReading text (at + 1) points waiting
reading_skipped text at points waiting lt none nothing reading =
    let token : IsToken (drop at text) Skipped 1 = skipped_token (drop at text) (get_or text at 0) (drop (suc at) text) (front_of text at lt) none nothing in
    record {
      within = omega arith;
      begins = λ rest read.
          let P : List ℕ → Type 0 = λ z. AreTokens rest z in
          let old : BeginsWithNumbers text points waiting (Skipped ∷ rest) = reading.begins (Skipped ∷ rest) (1, token, subst P (sym (drop-drop 1 at text)) read) in
          record { tokens = old.tokens; read = old.read; numbers = old.numbers; skipped = old.skipped };
    }

pub reading_ends : (text : List ℕ) (at : ℕ) (points : List Point) (waiting : Option ℤ) → IsReading text at points waiting → (command_at text at ≡ None → length text ≤ at) → IsPointRun text at points
reading_ends text at points waiting reading ends = record {
  within = reading.within;
  ends = ends;
  begins = λ rest none read.
      let old : BeginsWithNumbers text points waiting rest = reading.begins rest read in
      record {
        tokens = old.tokens;
        read = old.read;
        points_are = ap points_of (old.numbers ∙ ap (λ z. coordinates points ++ (option_to_list waiting ++ z)) none ∙ ap (λ z. coordinates points ++ z) (append-nil (option_to_list waiting))) ∙ points_of-coordinates points waiting;
        skipped = old.skipped;
      };
}

pub command_at_within : (text : List ℕ) (at : ℕ) → at < length text → command_at text at ≡ command_of (get_or text at 0)
command_at_within text at lt = ap (option_and_then command_of) (slice_get-get_or text at 0 lt)

slice_get-drop : {X : Type 0} (xs : List X) (n i : ℕ) → slice_get (drop n xs) i ≡ slice_get xs (n + i)
slice_get-drop xs zero i = ap (slice_get xs) (omega arith)
slice_get-drop [] (suc n) i = refl
slice_get-drop (x ∷ xs) (suc n) i = slice_get-drop xs n i ∙ ap (slice_get (x ∷ xs)) (next n i)
  where
    next : (m j : ℕ) → suc (m + j) ≡ suc m + j
    next m j = omega arith

-- the rest of a text, as it is read
pub rest_of : (text : List ℕ) (at : ℕ) → take (length text - at) (drop at text) ≡ drop at text
rest_of text at = ap (λ n. take n (drop at text)) (sym (length-drop at text)) ∙ take-length (drop at text)

pub no_command : (command : Option Command) → is_some command ≡ false → command ≡ None
no_command None none = refl
no_command (Some _) none = cc

-- At the letter of a command the numbers end.
pub ends_at : (text : List ℕ) (at : ℕ) (command : Option Command) → at < length text → command ≡ command_of (get_or text at 0) → is_some command ≡ true → command_at text at ≡ None → length text ≤ at
ends_at text at command lt is some none =
    let gone : is_some command ≡ false = ap is_some (is ∙ sym (command_at_within text at lt) ∙ none) in
    absurd (cc)

-- ---- whole commands

-- The tokens of a whole text, of which those behind the commands so far are `rest`.
pub record GoesOn (text : List ℕ) (segs : List Seg) (rest : List Token) : Type 0 where
  pub tokens : List Token
  pub read : AreTokens tokens text
  pub path : path_after [] tokens ≡ path_after segs rest

-- The path of what stands before a place.
pub record IsDrawn (text : List ℕ) (at : ℕ) (segs : List Seg) : Type 0 where
  pub within : at ≤ length text
  pub ends : command_at text at ≡ None → length text ≤ at
  pub goes_on : (rest : List Token) → leading_numbers rest ≡ [] → AreTokens rest (drop at text) → GoesOn text segs rest

pub drawn_first : (text : List ℕ) (at : ℕ) (points : List Point) → IsPointRun text at points → IsDrawn text at []
drawn_first text at points run = record {
  within = run.within;
  ends = run.ends;
  goes_on = λ rest none read.
      let first : BeginsWithPoints text points rest = run.begins rest none read in
      record { tokens = first.tokens; read = first.read; path = first.skipped [] };
}

-- the letter of a command at a place
letter_at : (text : List ℕ) (at : ℕ) (command : Command) → command_at text at ≡ Some command → (at < length text) × (command_of (get_or text at 0) ≡ Some command)
letter_at text at command is = elim (slice_get_cases text at).1 [
  | inl there ↦ (there.1, ap command_of (get_or_from_slice_get text at there.0 0 there.2) ∙ (ap (option_and_then command_of) (sym there.2) ∙ is))
  | inr past ↦ let none : ◌≡◌ {A = Option Command} None (Some command) = ap (option_and_then command_of) (sym past.1) ∙ is in absurd (cc)
]

pub letter_within : (text : List ℕ) (at : ℕ) (command : Command) → command_at text at ≡ Some command → at < length text
letter_within text at command is = (letter_at text at command is).0

pub drawn_more : (text : List ℕ) (at : ℕ) (segs : List Seg) (command : Command) (len : ℕ) (points : List Point) (new : List Seg) → command_at text at ≡ Some command → IsPointRun (drop (at + 1) text) len points → new ≡ after_command segs command points → IsDrawn text at segs → IsDrawn text (at + (1 + len)) new
drawn_more text at segs command len points new is run does drawn =
    let letter = letter_at text at command is in
    let token : IsToken (drop at text) (Letter command) 1 = letter_token (drop at text) (get_or text at 0) (drop (suc at) text) command (front_of text at letter.0) letter.1 in
    let place : at + 1 + len ≡ at + (1 + len) = omega arith in
    record {
      within = omega (arith, run.within, length-drop (at + 1) text, letter.0);
      ends = λ none. omega (arith, run.ends (command_at-drop text (at + 1) len ∙ ap (command_at text) place ∙ none), length-drop (at + 1) text, letter.0);
      goes_on = λ rest none read.
          let P : List ℕ → Type 0 = λ z. AreTokens rest z in
          let first : BeginsWithPoints (drop (at + 1) text) points rest = run.begins rest none (subst P (ap (λ z. drop z text) (sym place) ∙ sym (drop-drop len (at + 1) text)) read) in
          let Q : List ℕ → Type 0 = λ z. AreTokens first.tokens z in
          let all : GoesOn text segs (Letter command ∷ first.tokens) = drawn.goes_on (Letter command ∷ first.tokens) refl (1, token, subst Q (sym (drop-drop 1 at text)) first.read) in
          record {
            tokens = all.tokens;
            read = all.read;
            path = all.path ∙ ap (λ z. path_after (after_command segs command z) first.tokens) first.points_are ∙ ap (λ z. path_after z first.tokens) (sym does) ∙ first.skipped new;
          };
    }
  where
    command_at-drop : (z : List ℕ) (n i : ℕ) → command_at (drop n z) i ≡ command_at z (n + i)
    command_at-drop z n i = ap (option_and_then command_of) (slice_get-drop z n i)

pub drawn_all : (text : List ℕ) (at : ℕ) (segs : List Seg) → command_at text at ≡ None → IsDrawn text at segs → IsPathOf text segs
drawn_all text at segs none drawn =
    let all : GoesOn text segs [] = drawn.goes_on [] refl (drop_of_length-le text (drawn.ends none)) in
    record { tokens = all.tokens; read = all.read; drawn = sym all.path }
