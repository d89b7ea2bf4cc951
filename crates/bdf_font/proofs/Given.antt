-- What lists of lines give, one line more.
use Rattle.std.proofs.Common.{◌≡◌, ℕ, List, [], ◌∷◌, ◌++◌, Bool, true, false, cond, Option, Some, None, unwrap_or, is_some, refl, ap, sym, ◌∙◌, negsuc}
use Rattle.std.specs.Option.{option_or}
use Rattle.std.specs.List.{AllByRecursion}
use Rattle.bdf_font.specs.Words.{first_word, after_word, offset_of, bounding_box_of}
use Rattle.ass_num.specs.Wholes.{whole_of}
use Rattle.bdf_font.specs.declared.header.Header.{Header}
use Rattle.bdf_font.specs.declared.reading.Draft.{Draft}
use Rattle.bdf_font.specs.declared.cause.FontCause.TheVariants.{BadNumber}
use Rattle.bdf_font.specs.declared.keyword.Keyword.{Keyword}
use Rattle.bdf_font.specs.declared.keyword.HeaderKeyword.{HeaderKeyword}
use Rattle.bdf_font.specs.declared.keyword.PropertyKeyword.{PropertyKeyword}
use Rattle.bdf_font.specs.declared.keyword.Keyword.TheVariants as keyword
use Rattle.bdf_font.specs.declared.keyword.GlyphKeyword.TheVariants as in_glyph
use Rattle.bdf_font.specs.declared.keyword.HeaderKeyword.TheVariants as in_header
use Rattle.bdf_font.specs.declared.keyword.PropertyKeyword.TheVariants as property
use Rattle.bdf_font.specs.Grammar.{says, line_value, last_given, last_property, switched, open_after, title_in, box_in, family_in, ascent_in, descent_in, default_in, code_in, advance_in, cell_in, is_read, AllRead}
use Rattle.bdf_font.specs.Rows.{Outcome, Next, Fault}
use Rattle.bdf_font.specs.Steps.{with_number, header_step, property_line, draft_line}

-- ---- options

pub or_none : {V : Type 0} (o : Option V) → option_or o None ≡ o
or_none None = refl
or_none (Some v) = refl

pub or_assoc : {V : Type 0} (a b c : Option V) → option_or (option_or a b) c ≡ option_or a (option_or b c)
or_assoc None b c = refl
or_assoc (Some v) b c = refl

pub unwrap_or-or : {V : Type 0} (a b : Option V) (v : V) → unwrap_or (option_or a b) v ≡ unwrap_or a (unwrap_or b v)
unwrap_or-or None b v = refl
unwrap_or-or (Some a) b v = refl

-- ---- one line more

pub last_given-push : {V : Type 0} (f : List ℕ → Option V) (lines : List (List ℕ)) (line : List ℕ) → last_given f (lines ++ line ∷ []) ≡ option_or (f line) (last_given f lines)
last_given-push f [] line = sym (or_none (f line))
last_given-push f (l ∷ lines) line = ap (λ o. option_or o (f l)) (last_given-push f lines line) ∙ or_assoc (f line) (last_given f lines) (f l)

pub open_after-push : (on : Bool) (lines : List (List ℕ)) (line : List ℕ) → open_after on (lines ++ line ∷ []) ≡ switched (says line) (open_after on lines)
open_after-push on [] line = refl
open_after-push on (l ∷ lines) line = open_after-push (switched (says l) on) lines line

pub last_property-push : {V : Type 0} (f : Bool → List ℕ → Option V) (on : Bool) (lines : List (List ℕ)) (line : List ℕ) → last_property f on (lines ++ line ∷ []) ≡ option_or (f (open_after on lines) line) (last_property f on lines)
last_property-push f on [] line = sym (or_none (f on line))
last_property-push f on (l ∷ lines) line = ap (λ o. option_or o (f on l)) (last_property-push f (switched (says l) on) lines line) ∙ or_assoc (f (open_after (switched (says l) on) lines) line) (last_property f (switched (says l) on) lines) (f on l)

pub AllRead-push : (on : Bool) (lines : List (List ℕ)) (line : List ℕ) → AllRead on lines → is_read (open_after on lines) (says line) (after_word line) ≡ true → AllRead on (lines ++ line ∷ [])
AllRead-push on [] line all one = (one, tt)
AllRead-push on (l ∷ lines) line all one = (all.0, AllRead-push (switched (says l) on) lines line all.1 one)

pub All-pushed : {X : Type 0} (P : X → Type 0) (xs : List X) (x : X) → AllByRecursion P xs → P x → AllByRecursion P (xs ++ x ∷ [])
All-pushed P [] x all one = (one, tt)
All-pushed P (y ∷ xs) x all one = (all.0, All-pushed P xs x all.1 one)

-- ---- what the reader keeps of the lines

-- of the lines that speak of the font
abbrev pub header_of : List (List ℕ) → Header
header_of lines = record {
  properties = open_after false lines;
  title = last_given (line_value title_in) lines;
  family = last_property (λ on. line_value (family_in on)) false lines;
  bounding_box = last_given (line_value box_in) lines;
  ascent = last_property (λ on. line_value (ascent_in on)) false lines;
  descent = last_property (λ on. line_value (descent_in on)) false lines;
  default_char = last_property (λ on. line_value (default_in on)) false lines;
}

-- of the lines of a glyph before its bitmap
abbrev pub draft_of : List (List ℕ) → Draft
draft_of head = record {
  code = unwrap_or (last_given (line_value code_in) head) (negsuc 0);
  advance = last_given (line_value advance_in) head;
  bounding_box = last_given (line_value cell_in) head;
  bits = [];
}

abbrev pub header_with : Keyword → List ℕ → Header → Header
header_with kind rest h = record {
  properties = switched kind h.properties;
  title = option_or (title_in kind rest) h.title;
  family = option_or (family_in h.properties kind rest) h.family;
  bounding_box = option_or (box_in kind rest) h.bounding_box;
  ascent = option_or (ascent_in h.properties kind rest) h.ascent;
  descent = option_or (descent_in h.properties kind rest) h.descent;
  default_char = option_or (default_in h.properties kind rest) h.default_char;
}

abbrev pub draft_with : Keyword → List ℕ → Draft → Draft
draft_with kind rest d = record {
  code = unwrap_or (code_in kind rest) d.code;
  advance = option_or (advance_in kind rest) d.advance;
  bounding_box = option_or (cell_in kind rest) d.bounding_box;
  bits = d.bits;
}

pub header_of-push : (lines : List (List ℕ)) (line : List ℕ) → header_of (lines ++ line ∷ []) ≡ header_with (says line) (after_word line) (header_of lines)
header_of-push lines line = simp (open_after-push, last_given-push, last_property-push)

pub draft_of-push : (head : List (List ℕ)) (line : List ℕ) → draft_of (head ++ line ∷ []) ≡ draft_with (says line) (after_word line) (draft_of head)
draft_of-push head line = simp (last_given-push, unwrap_or-or)

-- ---- a line of the font or of a glyph

number_read : {N S : Type 0} (o : Option N) (f : N → S) (g : Option N → S) → ((n : N) → f n ≡ g (Some n)) → is_some o ≡ true → with_number o f ≡ Next (g o)
number_read None f g same h = absurd cc
number_read (Some n) f g same h = ap Next (same n)

number_unread : {N S : Type 0} (o : Option N) (f : N → S) → is_some o ≡ false → with_number o f ≡ Fault BadNumber
number_unread None f h = refl
number_unread (Some n) f h = absurd cc

-- where the properties are closed nothing is said, and else what the line says
abbrev property_at : Bool → PropertyKeyword → List ℕ → Header → Outcome Header
property_at on kind rest h = cond on (property_line kind rest h) (Next h)

property_read : (kind : PropertyKeyword) (rest : List ℕ) (on : Bool) (h : Header) → is_read on (keyword.Header (in_header.Property kind)) rest ≡ true → property_at on kind rest h ≡ Next (record {
  properties = h.properties;
  title = h.title;
  family = option_or (family_in on (keyword.Header (in_header.Property kind)) rest) h.family;
  bounding_box = h.bounding_box;
  ascent = option_or (ascent_in on (keyword.Header (in_header.Property kind)) rest) h.ascent;
  descent = option_or (descent_in on (keyword.Header (in_header.Property kind)) rest) h.descent;
  default_char = option_or (default_in on (keyword.Header (in_header.Property kind)) rest) h.default_char;
})
property_read property.Ascent rest true h r = number_read (offset_of (first_word rest)) _ (λ o. record h { ascent = option_or o h.ascent }) (λ n. refl) r
property_read property.Descent rest true h r = number_read (offset_of (first_word rest)) _ (λ o. record h { descent = option_or o h.descent }) (λ n. refl) r
property_read property.DefaultChar rest true h r = number_read (whole_of (first_word rest)) _ (λ o. record h { default_char = option_or o h.default_char }) (λ n. refl) r
property_read property.FamilyName rest true h r = refl
property_read property.Ascent rest false h r = refl
property_read property.Descent rest false h r = refl
property_read property.DefaultChar rest false h r = refl
property_read property.FamilyName rest false h r = refl

property_unread : (kind : PropertyKeyword) (rest : List ℕ) (on : Bool) (h : Header) → is_read on (keyword.Header (in_header.Property kind)) rest ≡ false → property_at on kind rest h ≡ Fault BadNumber
property_unread property.Ascent rest true h r = number_unread (offset_of (first_word rest)) _ r
property_unread property.Descent rest true h r = number_unread (offset_of (first_word rest)) _ r
property_unread property.DefaultChar rest true h r = number_unread (whole_of (first_word rest)) _ r
property_unread property.FamilyName rest true h r = absurd cc
property_unread property.Ascent rest false h r = absurd cc
property_unread property.Descent rest false h r = absurd cc
property_unread property.DefaultChar rest false h r = absurd cc
property_unread property.FamilyName rest false h r = absurd cc

pub header_read : (kind : HeaderKeyword) (rest : List ℕ) (h : Header) → is_read h.properties (keyword.Header kind) rest ≡ true → header_step kind rest h ≡ Next (header_with (keyword.Header kind) rest h)
header_read in_header.Name rest h r = refl
header_read in_header.Box rest h r = number_read (bounding_box_of rest) _ (λ o. record h { bounding_box = option_or o h.bounding_box }) (λ n. refl) r
header_read in_header.StartProperties rest h r = refl
header_read in_header.EndProperties rest h r = refl
header_read (in_header.Property kind) rest h r = property_read kind rest h.properties h r

pub header_unread : (kind : HeaderKeyword) (rest : List ℕ) (h : Header) → is_read h.properties (keyword.Header kind) rest ≡ false → header_step kind rest h ≡ Fault BadNumber
header_unread in_header.Name rest h r = absurd cc
header_unread in_header.Box rest h r = number_unread (bounding_box_of rest) _ r
header_unread in_header.StartProperties rest h r = absurd cc
header_unread in_header.EndProperties rest h r = absurd cc
header_unread (in_header.Property kind) rest h r = property_unread kind rest h.properties h r

pub encoding_read : (rest : List ℕ) (d : Draft) (on : Bool) → is_read on (keyword.Glyph in_glyph.Encoding) rest ≡ true → draft_line in_glyph.Encoding rest d ≡ Next (draft_with (keyword.Glyph in_glyph.Encoding) rest d)
encoding_read rest d on r = number_read (whole_of (first_word rest)) _ (λ o. record d { code = unwrap_or o d.code }) (λ n. refl) r

pub width_read : (rest : List ℕ) (d : Draft) (on : Bool) → is_read on (keyword.Glyph in_glyph.Width) rest ≡ true → draft_line in_glyph.Width rest d ≡ Next (draft_with (keyword.Glyph in_glyph.Width) rest d)
width_read rest d on r = number_read (offset_of (first_word rest)) _ (λ o. record d { advance = option_or o d.advance }) (λ n. refl) r

pub cell_read : (rest : List ℕ) (d : Draft) (on : Bool) → is_read on (keyword.Glyph in_glyph.Box) rest ≡ true → draft_line in_glyph.Box rest d ≡ Next (draft_with (keyword.Glyph in_glyph.Box) rest d)
cell_read rest d on r = number_read (bounding_box_of rest) _ (λ o. record d { bounding_box = option_or o d.bounding_box }) (λ n. refl) r

pub encoding_unread : (rest : List ℕ) (d : Draft) (on : Bool) → is_read on (keyword.Glyph in_glyph.Encoding) rest ≡ false → draft_line in_glyph.Encoding rest d ≡ Fault BadNumber
encoding_unread rest d on r = number_unread (whole_of (first_word rest)) _ r

pub width_unread : (rest : List ℕ) (d : Draft) (on : Bool) → is_read on (keyword.Glyph in_glyph.Width) rest ≡ false → draft_line in_glyph.Width rest d ≡ Fault BadNumber
width_unread rest d on r = number_unread (offset_of (first_word rest)) _ r

pub cell_unread : (rest : List ℕ) (d : Draft) (on : Bool) → is_read on (keyword.Glyph in_glyph.Box) rest ≡ false → draft_line in_glyph.Box rest d ≡ Fault BadNumber
cell_unread rest d on r = number_unread (bounding_box_of rest) _ r
