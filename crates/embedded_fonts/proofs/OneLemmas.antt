-- Each script has one answer.
use Rattle.std.proofs.Common.{◌≡◌, ◌≢◌, ℕ, ◌+◌, ◌%◌, Bool, true, false, List, [], ◌∷◌, ◌==◌, length, Option, Some, None, Result, Ok, Err, inl, inr, refl, ap, ◌∙◌}
use Rattle.std.specs.Prelude.{nat_le, if◌then◌else◌}
use Rattle.std.specs.List.{concat}
use Rattle.std.specs.Option.{option_map_or}
use Rattle.bdf_font.specs.Files.{IsFontFileAnswer}
use Rattle.bdf_font.specs.Fonts.{FontValue}
use Rattle.bdf_font.specs.Laws.{OneFileAnswer}
use Rattle.bdf_font.specs.Limits.{max_fonts}
use Rattle.bdf_font.specs.declared.cause.FontFileRefusal.{FontFileRefusal}
use Rattle.bdf_font.proofs.FileLemmas.{one_file_answer}
use Rattle.script_fonts.specs.Attachments.{Attachment, attached_font, attached_fonts, attached, bare_lines, first_bad_line, font_before, font_of_characters, script_fonts_of}
use Rattle.script_fonts.specs.Coding.{decoded}
use Rattle.script_fonts.specs.declared.font.ScriptFont.{ScriptFont}
use Rattle.script_fonts.specs.declared.refusal.ScriptFontsRefusal.{ScriptFontsRefusal}
use Rattle.script_fonts.specs.declared.refusal.ScriptFontsRefusal.TheVariants.{BadCharacter, BadLength, OutOfMemory}
use Rattle.embedded_fonts.specs.Embedded.{AreFontsOfHeld, AreHeldFonts, at_most_a_set, fonts_before}
use Rattle.embedded_fonts.specs.Laws.{OneEmbeddedAnswer}
use Rattle.embedded_fonts.specs.declared.refusal.EmbeddedRefusal.{EmbeddedRefusal}
use Rattle.embedded_fonts.specs.declared.refusal.EmbeddedRefusal.TheVariants.{Data, Font, TooMany}

abbrev Answer : Type 0
Answer = Result (List FontValue) EmbeddedRefusal

abbrev memory : Answer
memory = Err (Data OutOfMemory)

-- ---- no script asks for want of memory

abbrev by_length : Bool → List ℕ → ℕ → List ℕ → Result ScriptFont ScriptFontsRefusal
by_length one_left name n characters = if one_left then Err (BadLength n) else Ok (record { name = name; bytes = decoded characters })

characters_want_none : (name : List ℕ) (n : ℕ) (characters : List ℕ) → font_of_characters name n characters ≢ Err OutOfMemory
characters_want_none name n characters e = cases (length characters % 4 == 1) e
  where
    cases : (b : Bool) → by_length b name n characters ≢ Err OutOfMemory
    cases true e = cc
    cases false e = cc

font_wants_none : (a : Attachment) → attached_font a ≢ Err OutOfMemory
font_wants_none a e = cases (first_bad_line (a.line + 1) a.data_lines) e
  where
    cases : (bad : Option ℕ) → option_map_or (λ n. Err (BadCharacter n)) bad (font_of_characters a.name a.line (concat a.data_lines)) ≢ Err OutOfMemory
    cases (Some n) e = cc
    cases None e = characters_want_none a.name a.line (concat a.data_lines) e

before_wants_none : (one : Result ScriptFont ScriptFontsRefusal) (more : Result (List ScriptFont) ScriptFontsRefusal) → one ≢ Err OutOfMemory → more ≢ Err OutOfMemory →
    font_before one more ≢ Err OutOfMemory
before_wants_none (Err why) more first rest e = let same : why ≡ OutOfMemory = cc in first (ap Err same)
before_wants_none (Ok font) (Err why) first rest e = let same : why ≡ OutOfMemory = cc in rest (ap Err same)
before_wants_none (Ok font) (Ok fonts) first rest e = cc

fonts_want_none : (all : List Attachment) → attached_fonts all ≢ Err OutOfMemory
fonts_want_none [] e = cc
fonts_want_none (a ∷ more) e = before_wants_none (attached_font a) (attached_fonts more) (font_wants_none a) (fonts_want_none more) e

-- ---- one answer

-- Of all answers this is the only one.
abbrev Only : (Answer → Type 0) → Answer → Type 0
Only Is answer = Is answer × (answer ≢ memory) × ((other : Answer) → Is other → other ≡ answer)

before_memory : (fonts : List FontValue) (more : Answer) → more ≢ memory → fonts_before fonts more ≢ memory
before_memory fonts (Ok more) other e = cc
before_memory fonts (Err why) other e = let same : why ≡ Data OutOfMemory = cc in other (ap Err same)

module _ (place : ℕ) (file : ScriptFont) (files : List ScriptFont) where
  only_read : (fonts : List FontValue) → IsFontFileAnswer file.bytes (Ok fonts) → ((other : Result (List FontValue) FontFileRefusal) → IsFontFileAnswer file.bytes other → other ≡ Ok fonts) →
      (more : Answer) → Only (AreHeldFonts (place + 1) files) more → Only (AreHeldFonts place (file ∷ files)) (fonts_before fonts more)
  only_read fonts is one more rest = (inl (fonts, is, (more, rest.0, refl)), before_memory fonts more rest.1, only)
    where
      only : (other : Answer) → AreHeldFonts place (file ∷ files) other → other ≡ fonts_before fonts more
      only other (inl (read, k, (next, held, e))) =
          let same_file = one (Ok read) k in
          let same : read ≡ fonts = cc in
          e ∙ (ap (λ l. fonts_before l next) same ∙ ap (fonts_before fonts) (rest.2 next held))
      only other (inr (why, k, e)) = let same = one (Err why) k in absurd cc

  only_refused : (why : FontFileRefusal) → IsFontFileAnswer file.bytes (Err why) → ((other : Result (List FontValue) FontFileRefusal) → IsFontFileAnswer file.bytes other → other ≡ Err why) →
      Only (AreHeldFonts place (file ∷ files)) (Err (Font place why))
  only_refused why is one = (inr (why, is, refl), (λ e. cc), only)
    where
      only : (other : Answer) → AreHeldFonts place (file ∷ files) other → other ≡ Err (Font place why)
      only other (inl (read, k, held)) = let same = one (Ok read) k in absurd cc
      only other (inr (refusal, k, e)) = let same_file = one (Err refusal) k in let same : refusal ≡ why = cc in e ∙ ap (λ r. Err (Font place r)) same

abbrev HasOne : (Answer → Type 0) → Type 0
HasOne Is = (answer : Answer) × Only Is answer

one_held : OneFileAnswer → (place : ℕ) (files : List ScriptFont) → HasOne (AreHeldFonts place files)
one_held law place [] = (Ok [], (refl, (λ e. cc), (λ other is. is)))
one_held law place (file ∷ files) = let read = law file.bytes in cases (one_held law (place + 1) files) read.0 read.1 read.2
  where
    cases : HasOne (AreHeldFonts (place + 1) files) → (read : Result (List FontValue) FontFileRefusal) → IsFontFileAnswer file.bytes read → ((other : Result (List FontValue) FontFileRefusal) → IsFontFileAnswer file.bytes other → other ≡ read) →
        HasOne (AreHeldFonts place (file ∷ files))
    cases rest (Ok fonts) is one = (fonts_before fonts rest.0, only_read place file files fonts is one rest.0 rest.1)
    cases rest (Err why) is one = (Err (Font place why), only_refused place file files why is one)

abbrev by_count : Bool → List FontValue → Answer
by_count fits fonts = if fits then Ok fonts else Err TooMany

set_memory : (read : Answer) → read ≢ memory → at_most_a_set read ≢ memory
set_memory (Ok fonts) other e = cases (nat_le (length fonts) max_fonts) e
  where
    cases : (b : Bool) → by_count b fonts ≢ memory
    cases true e = cc
    cases false e = cc
set_memory (Err why) other e = other e

one_of_held : OneFileAnswer → (held : Result (List ScriptFont) ScriptFontsRefusal) → held ≢ Err OutOfMemory → HasOne (AreFontsOfHeld held)
one_of_held law (Ok files) some =
    let one = one_held law 0 files in
    (at_most_a_set one.0, ((one.0, one.1.0, refl), set_memory one.0 one.1.1, λ other is. is.2 ∙ ap at_most_a_set (one.1.2 is.0 is.1)))
one_of_held law (Err why) some = (Err (Data why), (refl, (λ e. let same : why ≡ OutOfMemory = cc in some (ap Err same)), (λ other is. is)))

pub one_embedded : OneEmbeddedAnswer
one_embedded bytes =
    let one = one_of_held one_file_answer (script_fonts_of bytes) (fonts_want_none (attached false 1 (bare_lines bytes))) in
    (one.0, one.1.0, one.1.1, one.1.2)
