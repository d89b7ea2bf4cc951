-- The lines of a generated script: each is plain, short, and stands whole in the text.
use Rattle.std.proofs.Common.{◌≡◌, ℕ, ◌+◌, ◌*◌, ◌-◌, ◌/◌, ◌%◌, ◌<◌, ◌≤◌, true, false, eqb, List, [], ◌∷◌, ◌++◌, length, get_or, refl, ap, ◌∙◌, subst, arith, append_assoc, length-append}
use Rattle.std.specs.Prelude.{codes}
use Rattle.std.specs.Fmt.{decimal}
use Rattle.std.specs.List.{list_all}
use Rattle.std.proofs.lemmas.Bool.Decides.{nat_tests}
use Rattle.std.proofs.lemmas.Fmt.{length-decimal-le}
use Rattle.std.proofs.lemmas.List.Elements.{All-append, All-weaker}
use Rattle.ass_script.specs.Limits.{max_lines}
use Rattle.generated_script.specs.Draws.{state_after_draws, number_drawn}
use Rattle.generated_script.specs.Lines.{line_numbers, minutes_text, seconds_text, hundredths_text, span_text, text_in_form, event_text, line_text}
use Rattle.generated_script.specs.declared.lines.Form.{Form}
use Rattle.generated_script.specs.declared.lines.Form.TheVariants.{Words, Placed, Moved, Sung}
use Rattle.generated_script.specs.declared.lines.LineNumbers.{LineNumbers}
use Rattle.track_write.specs.Rows.{ended}
use Rattle.track_write.proofs.LineCuts.{IsLine, last_of_two}
use Rattle.track_write.proofs.LinesHold.{is_plain, ArePlain, known_plain, plain_stands}
use Rattle.track_write.proofs.Tokens.{is_token, decimal_tokens}

-- ---- plain texts

-- plain, and of so many bytes at most
pub record IsShort (most : ℕ) (text : List ℕ) : Type 0 where
  pub plain : ArePlain text
  pub few : length text ≤ most

short_append : (m n : ℕ) (a b : List ℕ) → IsShort m a → IsShort n b → IsShort (m + n) (a ++ b)
short_append m n a b first second = record { plain = All-append (λ c. is_plain c ≡ true) a b first.plain second.plain; few = omega (arith, length-append a b, first.few, second.few) }

short_known : (text : List ℕ) → list_all is_plain text ≡ true → IsShort (length text) text
short_known text e = record { plain = known_plain text e; few = omega arith }

short_within : (m n : ℕ) (text : List ℕ) → m ≤ n → IsShort m text → IsShort n text
short_within m n text within is = record { plain = is.plain; few = omega (arith, is.few) }

token_plain : (c : ℕ) → is_token c ≡ true → is_plain c ≡ true
token_plain c passes = grind (arith, nat_tests)

short_number : (n : ℕ) → n < 1000 → IsShort 3 (decimal n)
short_number n small = record {
  plain = All-weaker (λ c. is_token c ≡ true) (λ c. is_plain c ≡ true) token_plain (decimal n) (decimal_tokens n (omega arith));
  few = length-decimal-le 3 n (omega arith) (omega arith) (omega arith);
}

-- ---- times

minutes_short : (t : ℕ) → t < 360000000 → IsShort 10 (minutes_text t)
minutes_short t small =
    short_append 7 3 _ _ (short_append 4 3 _ _ (short_append 3 1 _ _ (short_number (t / 360000) (omega arith)) (short_known (codes ":") refl)) (short_number (t / 60000 % 6) (omega arith)))
    (short_number (t / 6000 % 10) (omega arith))

seconds_short : (t : ℕ) → IsShort 13 (seconds_text t)
seconds_short t =
    short_append 10 3 _ _
    (short_append 7 3 _ _ (short_append 6 1 _ _ (short_append 3 3 _ _ (short_number (t / 1000 % 6) (omega arith)) (short_number (t / 100 % 10) (omega arith))) (short_known (codes ".") refl))
    (short_number (t / 10 % 10) (omega arith))) (short_number (t % 10) (omega arith))

time_short : (t : ℕ) → t < 360000000 → IsShort 24 (hundredths_text t)
unfolding hundredths_text
time_short t small = short_append 11 13 _ _ (short_append 10 1 _ _ (minutes_short t small) (short_known (codes ":") refl)) (seconds_short t)

span_short : (begin long : ℕ) → begin + long < 360000000 → IsShort 49 (span_text begin long)
unfolding span_text
span_short begin long small = short_append 25 24 _ _ (short_append 24 1 _ _ (time_short begin (omega arith)) (short_known (codes ",") refl)) (time_short (begin + long) small)

-- ---- what a line shows

pub text_short : (form : Form) (z x y : ℕ) → z < 1000 → x < 1000 → y < 1000 → IsShort 35 (text_in_form form z x y)
text_short Words z x y size left top = short_within 16 35 _ (omega arith) (short_append 7 9 _ _ (short_append 4 3 _ _ (short_known (codes "{\\fs") refl) (short_number z size)) (short_known (codes "}ab cd ef") refl))
text_short Placed z x y size left top =
    let place = short_append 10 3 _ _ (short_append 9 1 _ _ (short_append 6 3 _ _ (short_known (codes "{\\pos(") refl) (short_number x left)) (short_known (codes ",") refl)) (short_number y top) in
    short_within 24 35 _ (omega arith) (short_append 20 4 _ _ (short_append 17 3 _ _ (short_append 13 4 _ _ place (short_known (codes ")\\fs") refl)) (short_number z size)) (short_known (codes "}abc") refl))
text_short Moved z x y size left top =
    let from = short_append 11 3 _ _ (short_append 10 1 _ _ (short_append 7 3 _ _ (short_known (codes "{\\move(") refl) (short_number x left)) (short_known (codes ",") refl)) (short_number y top) in
    let to = short_append 18 1 _ _ (short_append 15 3 _ _ (short_append 14 1 _ _ from (short_known (codes ",") refl)) (short_number y top)) (short_known (codes ",") refl) in
    short_within 32 35 _ (omega arith) (short_append 22 10 _ _ (short_append 19 3 _ _ to (short_number x left)) (short_known (codes ")\\bord1}ab") refl))
text_short Sung z x y size left top = short_known (codes "{\\an8\\fad(100,100)\\kf20}ab{\\kf20}cd") refl

-- not empty, and without a carriage return at its end
record CanEnd (text : List ℕ) : Type 0 where
  some : 0 < length text
  last : eqb (get_or text (length text - 1) 0) 13 ≡ false

can_end : (c : ℕ) (cs : List ℕ) → eqb (get_or (c ∷ cs) (length (c ∷ cs) - 1) 0) 13 ≡ false → CanEnd (c ∷ cs)
can_end c cs last = record { some = omega arith; last = last }

ends_behind : (a b : List ℕ) → CanEnd b → CanEnd (a ++ b)
ends_behind a b end = record { some = omega (arith, length-append a b, end.some); last = ap (λ c. eqb c 13) (last_of_two a b end.some) ∙ end.last }

text_ends : (form : Form) (z x y : ℕ) → CanEnd (text_in_form form z x y)
text_ends Words z x y = ends_behind (codes "{\\fs" ++ decimal z) _ (can_end 125 (codes "ab cd ef") refl)
text_ends Placed z x y = ends_behind (codes "{\\pos(" ++ decimal x ++ codes "," ++ decimal y ++ codes ")\\fs" ++ decimal z) _ (can_end 125 (codes "abc") refl)
text_ends Moved z x y = ends_behind (codes "{\\move(" ++ decimal x ++ codes "," ++ decimal y ++ codes "," ++ decimal y ++ codes "," ++ decimal x) _ (can_end 41 (codes "\\bord1}ab") refl)
text_ends Sung z x y = can_end 123 (codes "\\an8\\fad(100,100)\\kf20}ab{\\kf20}cd") refl

-- ---- the numbers that are drawn

pub record AreSmall (numbers : LineNumbers) : Type 0 where
  pub layer : numbers.layer < 1000
  pub long : numbers.length < 1000
  pub size : numbers.size < 1000
  pub left : numbers.x < 1000
  pub top : numbers.y < 1000

layer_small : (state : ℕ) → number_drawn state 3 < 1000
layer_small state = omega arith

long_small : (state : ℕ) → 50 + number_drawn state 200 < 1000
long_small state = omega arith

size_small : (state : ℕ) → 8 + number_drawn state 9 < 1000
size_small state = omega arith

left_small : (state : ℕ) → number_drawn state 320 < 1000
left_small state = omega arith

top_small : (state : ℕ) → number_drawn state 180 < 1000
top_small state = omega arith

pub drawn_small : (state : ℕ) → AreSmall (line_numbers state)
drawn_small state = record {
  layer = layer_small (state_after_draws 1 state);
  long = long_small (state_after_draws 2 state);
  size = size_small (state_after_draws 3 state);
  left = left_small (state_after_draws 4 state);
  top = top_small (state_after_draws 5 state);
}

-- ---- the line

-- what stands behind `Dialogue: `
abbrev pub line_value : ℕ → LineNumbers → List ℕ
line_value i numbers = decimal numbers.layer ++ (codes "," ++ (span_text (10 * i) numbers.length ++ (codes ",Default,,0,0,0,," ++ event_text numbers)))

module _ (i : ℕ) (numbers : LineNumbers) where
  abbrev front : List ℕ
  front = codes "Dialogue: " ++ decimal numbers.layer ++ codes "," ++ span_text (10 * i) numbers.length ++ codes ",Default,,0,0,0,,"

  value_behind : front ++ event_text numbers ≡ codes "Dialogue: " ++ line_value i numbers
  value_behind =
      let layer = decimal numbers.layer in
      let span = span_text (10 * i) numbers.length in
      let style = codes ",Default,,0,0,0,," in
      let text = event_text numbers in
      append_assoc (codes "Dialogue: " ++ layer ++ codes "," ++ span) style text
      ∙ append_assoc (codes "Dialogue: " ++ layer ++ codes ",") span (style ++ text)
      ∙ append_assoc (codes "Dialogue: " ++ layer) (codes ",") (span ++ (style ++ text))
      ∙ append_assoc (codes "Dialogue: ") layer (codes "," ++ (span ++ (style ++ text)))

  pub line_ended : line_text i numbers ≡ ended (codes "Dialogue: " ++ line_value i numbers)
  unfolding line_text
  line_ended = ap ended value_behind

  line_short : i < max_lines → AreSmall numbers → IsShort 115 (front ++ event_text numbers)
  line_short inside small =
      let layer = short_append 10 3 _ _ (short_known (codes "Dialogue: ") refl) (short_number numbers.layer small.layer) in
      let span = short_append 14 49 _ _ (short_append 13 1 _ _ layer (short_known (codes ",") refl)) (span_short (10 * i) numbers.length (omega (arith, small.long))) in
      short_append 80 35 _ _ (short_append 63 17 _ _ span (short_known (codes ",Default,,0,0,0,,") refl)) (text_short numbers.form numbers.size numbers.x numbers.y small.size small.left small.top)

  pub line_bytes : i < max_lines → AreSmall numbers → length (line_text i numbers) ≤ 116
  unfolding line_text
  line_bytes inside small = omega (arith, length-append (front ++ event_text numbers) (10 ∷ []), (line_short inside small).few)

  pub line_holds : i < max_lines → AreSmall numbers → IsLine (codes "Dialogue: " ++ line_value i numbers)
  line_holds inside small =
      let end = ends_behind front (event_text numbers) (text_ends numbers.form numbers.size numbers.x numbers.y) in
      subst IsLine value_behind (plain_stands (front ++ event_text numbers) (line_short inside small).plain end.last)
