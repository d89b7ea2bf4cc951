-- Public: the lines of a generated script.
use Rattle.std.specs.Prelude.{ℕ, ◌+◌, ◌*◌, ◌/◌, ◌%◌, ◌==◌, if◌then◌else◌, List, ◌++◌, codes, decimal}
use Rattle.generated_script.specs.Draws.{number_drawn, state_after_draws}
use Rattle.generated_script.specs.declared.lines.Form.{Form}
use Rattle.generated_script.specs.declared.lines.Form.TheVariants.{Words, Placed, Moved, Sung}
use Rattle.generated_script.specs.declared.lines.LineNumbers.{LineNumbers}

abbrev pub form_of : ℕ → Form
form_of n = if n == 0 then Words else (if n == 1 then Placed else (if n == 2 then Moved else Sung))

-- the numbers of a line, by six draws from this state on
abbrev pub line_numbers : ℕ → LineNumbers
line_numbers x = record {
  layer = number_drawn (state_after_draws 1 x) 3;
  length = 50 + number_drawn (state_after_draws 2 x) 200;
  size = 8 + number_drawn (state_after_draws 3 x) 9;
  x = number_drawn (state_after_draws 4 x) 320;
  y = number_drawn (state_after_draws 5 x) 180;
  form = form_of (number_drawn (state_after_draws 6 x) 4);
}

-- the hours and minutes in so many hundredths of a second, digit by digit
abbrev pub minutes_text : ℕ → List ℕ
minutes_text t = decimal (t / 360000) ++ codes ":" ++ decimal (t / 60000 % 6) ++ decimal (t / 6000 % 10)

-- the seconds and hundredths
abbrev pub seconds_text : ℕ → List ℕ
seconds_text t = decimal (t / 1000 % 6) ++ decimal (t / 100 % 10) ++ codes "." ++ decimal (t / 10 % 10) ++ decimal (t % 10)

-- so many hundredths of a second as `H:MM:SS.cc`
unfoldable pub hundredths_text : ℕ → List ℕ
hundredths_text t = minutes_text t ++ codes ":" ++ seconds_text t

-- when a line begins and when it ends
unfoldable pub span_text : ℕ → ℕ → List ℕ
span_text begin long = hundredths_text begin ++ codes "," ++ hundredths_text (begin + long)

-- words of a size
abbrev pub words_text : ℕ → List ℕ
words_text z = codes "{\\fs" ++ decimal z ++ codes "}ab cd ef"

-- a word of a size at a place
abbrev pub placed_text : ℕ → ℕ → ℕ → List ℕ
placed_text z x y = codes "{\\pos(" ++ decimal x ++ codes "," ++ decimal y ++ codes ")\\fs" ++ decimal z ++ codes "}abc"

-- a word that moves
abbrev pub moved_text : ℕ → ℕ → List ℕ
moved_text x y = codes "{\\move(" ++ decimal x ++ codes "," ++ decimal y ++ codes "," ++ decimal y ++ codes "," ++ decimal x ++ codes ")\\bord1}ab"

-- syllables that are sung
abbrev pub sung_text : List ℕ
sung_text = codes "{\\an8\\fad(100,100)\\kf20}ab{\\kf20}cd"

abbrev pub text_in_form : Form → ℕ → ℕ → ℕ → List ℕ
text_in_form Words z x y = words_text z
text_in_form Placed z x y = placed_text z x y
text_in_form Moved z x y = moved_text x y
text_in_form Sung z x y = sung_text

-- the text of the event
abbrev pub event_text : LineNumbers → List ℕ
event_text numbers = text_in_form numbers.form numbers.size numbers.x numbers.y

-- the line at place i, which starts a tenth of a second after the one before
unfoldable pub line_text : ℕ → LineNumbers → List ℕ
line_text i numbers =
    codes "Dialogue: " ++ decimal numbers.layer ++ codes "," ++ span_text (10 * i) numbers.length ++ codes ",Default,,0,0,0,," ++ event_text numbers ++ codes "\n"
