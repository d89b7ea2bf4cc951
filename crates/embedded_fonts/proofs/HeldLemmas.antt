-- The files that a script holds, one after another.
use Rattle.std.proofs.Common.{◌≡◌, ◌≢◌, ℕ, ◌+◌, ◌≤◌, List, [], ◌∷◌, ◌++◌, length, All, Result, Ok, Err, inl, inr, refl, sym, ap, subst, append_assoc, arith}
use Rattle.std.proofs.lemmas.List.{append-nil}
use Rattle.std.proofs.lemmas.List.Elements.{All-append, All-head, All-nil, All-tail}
use Rattle.ass_num.specs.Limits.{max_file_bytes}
use Rattle.bdf_font.specs.Files.{IsFontFileAnswer}
use Rattle.bdf_font.specs.Fonts.{FontValue}
use Rattle.bdf_font.specs.Ranges.{IsFont}
use Rattle.script_fonts.specs.declared.font.ScriptFont.{ScriptFont}
use Rattle.script_fonts.specs.declared.refusal.ScriptFontsRefusal.TheVariants.{BadCharacter, BadLength, OutOfMemory}
use Rattle.embedded_fonts.specs.Embedded.{AreHeldFonts, IsFileAnswer, fonts_before}
use Rattle.embedded_fonts.specs.declared.refusal.EmbeddedRefusal.{EmbeddedRefusal}
use Rattle.embedded_fonts.specs.declared.refusal.EmbeddedRefusal.TheVariants.{Data, Font, TooMany}

none_before : (answer : Result (List FontValue) EmbeddedRefusal) → fonts_before [] answer ≡ answer
none_before (Ok fonts) = refl
none_before (Err refusal) = refl

both_before : (fonts more : List FontValue) (answer : Result (List FontValue) EmbeddedRefusal) → fonts_before fonts (fonts_before more answer) ≡ fonts_before (fonts ++ more) answer
both_before fonts more (Ok last) = ap Ok (sym (append_assoc fonts more last))
both_before fonts more (Err refusal) = refl

abbrev pub IsSmall : ScriptFont → Type 0
IsSmall file = length file.bytes ≤ max_file_bytes

-- Of these files the last ones are still to come, and the first ones gave these fonts.
pub record HeldSoFar (files : List ScriptFont) (place : ℕ) (fonts : List FontValue) (left : List ScriptFont) : Type 0 where
  pub count : place + length left ≡ length files
  pub small : All IsSmall left
  pub answers : (answer : Result (List FontValue) EmbeddedRefusal) → AreHeldFonts place left answer → AreHeldFonts 0 files (fonts_before fonts answer)
  pub sound : All IsFont fonts

pub held_first : (files : List ScriptFont) → All IsSmall files → HeldSoFar files 0 [] files
held_first files small = record {
  count = omega arith;
  small = small;
  answers = λ answer is. subst (AreHeldFonts 0 files) (sym (none_before answer)) is;
  sound = All-nil IsFont;
}

pub held_next : (files : List ScriptFont) (place : ℕ) (fonts more : List FontValue) (file : ScriptFont) (left : List ScriptFont) → HeldSoFar files place fonts (file ∷ left) →
    IsFontFileAnswer file.bytes (Ok more) → All IsFont more → HeldSoFar files (place + 1) (fonts ++ more) left
held_next files place fonts more file left h is each = record {
  count = let n = h.count in omega (arith, n);
  small = All-tail IsSmall file left h.small;
  answers = λ answer rest. subst (AreHeldFonts 0 files) (both_before fonts more answer) (h.answers (fonts_before more answer) (inl (more, is, (answer, rest, refl))));
  sound = All-append IsFont fonts more h.sound each;
}

pub held_small : (files : List ScriptFont) (place : ℕ) (fonts : List FontValue) (file : ScriptFont) (left : List ScriptFont) → HeldSoFar files place fonts (file ∷ left) → length file.bytes ≤ max_file_bytes
held_small files place fonts file left h = All-head IsSmall file left h.small

held_all : (files : List ScriptFont) (place : ℕ) (fonts : List FontValue) → HeldSoFar files place fonts [] → AreHeldFonts 0 files (Ok fonts)
held_all files place fonts h = subst (λ all. AreHeldFonts 0 files (Ok all)) (append-nil fonts) (h.answers (Ok []) refl)

pub held_done : (files : List ScriptFont) (place : ℕ) (fonts : List FontValue) (left : List ScriptFont) → HeldSoFar files place fonts left → length left ≡ 0 → AreHeldFonts 0 files (Ok fonts)
held_done files place fonts [] h none = held_all files place fonts h
held_done files place fonts (file ∷ left) h none = absurd (omega (arith, none))

-- The first file that isn't read decides.
pub held_stopped : (files : List ScriptFont) (place : ℕ) (fonts : List FontValue) (file : ScriptFont) (left : List ScriptFont) (why : EmbeddedRefusal) → HeldSoFar files place fonts (file ∷ left) →
    IsFileAnswer place file.bytes (Err why) → why ≢ Data OutOfMemory → AreHeldFonts 0 files (Err why)
held_stopped files place fonts file left (Font at refusal) h (same, is) other =
    subst (λ k. AreHeldFonts 0 files (Err (Font k refusal))) (sym same) (h.answers (Err (Font place refusal)) (inr (refusal, is, refl)))
held_stopped files place fonts file left (Data OutOfMemory) h is other = absurd (other refl)
held_stopped files place fonts file left (Data (BadCharacter n)) h is other = absurd is
held_stopped files place fonts file left (Data (BadLength n)) h is other = absurd is
held_stopped files place fonts file left TooMany h is other = absurd is
