-- Public: bytes by their names.
use Rattle.std.specs.Prelude.{ℕ}

abbrev pub tab : ℕ
tab = 9

abbrev pub space : ℕ
space = 32

abbrev pub quote : ℕ
quote = 34

abbrev pub ampersand : ℕ
ampersand = 38

abbrev pub open_paren : ℕ
open_paren = 40

abbrev pub close_paren : ℕ
close_paren = 41

abbrev pub star : ℕ
star = 42

abbrev pub plus : ℕ
plus = 43

abbrev pub comma : ℕ
comma = 44

abbrev pub minus : ℕ
minus = 45

abbrev pub point : ℕ
point = 46

abbrev pub colon : ℕ
colon = 58

abbrev pub semicolon : ℕ
semicolon = 59

abbrev pub upper_h : ℕ
upper_h = 72

abbrev pub open_bracket : ℕ
open_bracket = 91

abbrev pub backslash : ℕ
backslash = 92

abbrev pub close_bracket : ℕ
close_bracket = 93

abbrev pub lower_h : ℕ
lower_h = 104

abbrev pub open_brace : ℕ
open_brace = 123

abbrev pub close_brace : ℕ
close_brace = 125
