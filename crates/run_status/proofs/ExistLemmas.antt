-- Files that are told have an answer.
use Rattle.std.proofs.Common.{◌≡◌, ◌≢◌, ◌⊎◌, Bool, true, false, ap, ℕ, zero, suc, ◌+◌, ◌<◌, ◌≤◌, inl, inr, List, [], ◌∷◌, ◌++◌, length, slice_index_or, Some, None, Result, Ok, Err, refl, sym, subst, ◌∙◌, length-append, arith}
use Rattle.std.specs.Prelude.{nat_le, if◌then◌else◌}
use Rattle.std.proofs.lemmas.Bool.{cases_lt}
use Rattle.std.proofs.lemmas.List.{get_or_default}
use Rattle.ass_num.specs.Limits.{max_file_bytes}
use Rattle.ass_io.specs.Fetched.{Held, Told}
use Rattle.ass_script.proofs.Refusals.{never_wants_memory}
use Rattle.ass_script.specs.Scripts.{ScriptValue, script_of}
use Rattle.ass_script.specs.declared.refusal.ScriptRefusal.{ScriptRefusal}
use Rattle.ass_script.specs.declared.refusal.ScriptRefusal.TheVariants as script
use Rattle.bdf_font.specs.Fonts.{FontValue}
use Rattle.bdf_font.specs.Files.{IsFontFileAnswer, IsKindAnswer, outlines_answer}
use Rattle.bdf_font.specs.Laws.{OneFileAnswer}
use Rattle.bdf_font.specs.declared.cause.FontFileRefusal.{FontFileRefusal}
use Rattle.bdf_font.specs.declared.cause.FontFileRefusal.TheVariants as file
use Rattle.bdf_font.specs.declared.cause.FontRefusal.TheVariants as lines
use Rattle.sfnt_font.specs.declared.cause.SfntRefusal.{SfntRefusal}
use Rattle.sfnt_font.specs.declared.cause.SfntRefusal.TheVariants as bytes
use Rattle.sfnt_font.specs.declared.font.SfntFont.{SfntFont}
use Rattle.sfnt_font.specs.Answers.{then_read}
use Rattle.font_bytes.specs.Bytes.{u32_at}
use Rattle.sfnt_font.specs.Directory.{directory_at}
use Rattle.sfnt_font.specs.Faces.{face_count, face_place, is_sfnt_kind}
use Rattle.sfnt_font.specs.Fonts.{font_of, sfnt_of, sfnts_from, sfnts_of}
use Rattle.sfnt_font.proofs.Refusals.{never_wants_memory as reading_wants_no_memory}
use Rattle.script_fonts.specs.Attachments.{script_fonts_of}
use Rattle.script_fonts.specs.declared.font.ScriptFont.{ScriptFont}
use Rattle.script_fonts.specs.declared.refusal.ScriptFontsRefusal.{ScriptFontsRefusal}
use Rattle.script_fonts.specs.declared.refusal.ScriptFontsRefusal.TheVariants as coded
use Rattle.embedded_fonts.specs.Embedded.{AreEmbeddedFonts, AreFontsOfHeld, AreHeldFonts, at_most_a_set, fonts_before}
use Rattle.embedded_fonts.specs.Laws.{OneEmbeddedAnswer}
use Rattle.embedded_fonts.specs.declared.refusal.EmbeddedRefusal.{EmbeddedRefusal}
use Rattle.embedded_fonts.specs.declared.refusal.EmbeddedRefusal.TheVariants as embedded
use Rattle.run_words.specs.declared.job.ScriptSource.{ScriptSource}
use Rattle.run_status.specs.declared.font_fault.FontPlace.TheVariants.{Named}
use Rattle.run_status.specs.declared.status.Status.{Status}
use Rattle.run_status.specs.declared.status.Status.TheVariants as status
use Rattle.run_status.specs.declared.status.What.TheVariants.{Bytes, Fonts}
use Rattle.bdf_font.specs.Limits.{max_fonts}
use Rattle.run_status.specs.declared.inputs.Inputs.{Inputs}
use Rattle.run_status.specs.Causes.{embedded_status, font_status, script_status, with_status}
use Rattle.run_status.specs.Files.{Asks, AsksFonts, AsksOf, AsksScript, FontsAsked, IsAnswered, IsAskedFor, OwnFontsAsked, ScriptAsked, script_with}
use Rattle.run_status.specs.Inputs.{AreFirstFiles, AreFontFilesRead, AreRead, IsFontFileRead, IsScriptRead, fonts_of_files, told_of}
use Rattle.run_status.specs.Laws.{FilesHaveAnAnswer, IsCause, IsReadDecided}
use Rattle.run_status.proofs.DecideLemmas.{AreNamesTold}
use Rattle.run_status.proofs.FontLemmas.{first_more}
use Rattle.run_status.proofs.OwnLemmas.{IsScriptStatus, of_script, own_kind}

-- There is an answer about what a name holds, and it is decided.
record HasAnswer {Value : Type 0} (asks : Asks Value) (name : List ℕ) (held : Held) : Type 0 where
  pub answer : Result Value Status
  pub decided : IsReadDecided answer
  pub answered : IsAnswered asks (Some held) name answer

-- No face asks for want of memory, and not all together.
some_want_no_memory : (all : List ℕ) (face n : ℕ) → sfnts_from all face n ≡ Err bytes.OutOfMemory → ⊥
some_want_no_memory all face zero e = cc
some_want_no_memory all face (suc n) e = first (sfnt_of all face) (reading_wants_no_memory all face) (some_want_no_memory all (face + 1) n) e
  where
    rest : (font : SfntFont) (read : Result (List SfntFont) SfntRefusal) → (read ≡ Err bytes.OutOfMemory → ⊥) → then_read read (λ fonts. Ok (font ∷ fonts)) ≡ Err bytes.OutOfMemory → ⊥
    rest font (Ok fonts) never e = cc
    rest font (Err why) never e = let same : why ≡ bytes.OutOfMemory = cc in never (ap Err same)

    first : (read : Result SfntFont SfntRefusal) → (read ≡ Err bytes.OutOfMemory → ⊥) → (sfnts_from all (face + 1) n ≡ Err bytes.OutOfMemory → ⊥) →
        then_read read (λ font. then_read (sfnts_from all (face + 1) n) (λ fonts. Ok (font ∷ fonts))) ≡ Err bytes.OutOfMemory → ⊥
    first (Ok font) never others e = rest font (sfnts_from all (face + 1) n) others e
    first (Err why) never others e = let same : why ≡ bytes.OutOfMemory = cc in never (ap Err same)

faces_want_no_memory : (all : List ℕ) → sfnts_of all ≡ Err bytes.OutOfMemory → ⊥
faces_want_no_memory all e = cases (face_count all) refl e
  where
    cases : (count : Result ℕ SfntRefusal) → face_count all ≡ count → then_read count (sfnts_from all 0) ≡ Err bytes.OutOfMemory → ⊥
    cases (Ok n) is e = some_want_no_memory all 0 n e
    cases (Err why) is e =
        let same : why ≡ bytes.OutOfMemory = cc in
        reading_wants_no_memory all 0 (ap (λ count. then_read count (λ faces. then_read (directory_at all (face_place all 0)) (font_of all))) (is ∙ ap Err same))

-- No file asks for want of memory.
lines_decided : (sfnt : Bool) (all : List ℕ) → IsKindAnswer sfnt all (Err (file.Lines lines.OutOfMemory)) → ⊥
lines_decided true all h = cases (sfnts_of all) h
  where
    cases : (read : Result (List SfntFont) SfntRefusal) → Err (file.Lines lines.OutOfMemory) ≡ outlines_answer read → ⊥
    cases (Ok font) h = cc
    cases (Err why) h = cc
lines_decided false all h = h

bytes_decided : (sfnt : Bool) (all : List ℕ) → IsKindAnswer sfnt all (Err (file.Bytes bytes.OutOfMemory)) → ⊥
bytes_decided true all h = cases (sfnts_of all) (faces_want_no_memory all) h
  where
    cases : (read : Result (List SfntFont) SfntRefusal) → (read ≡ Err bytes.OutOfMemory → ⊥) → Err (file.Bytes bytes.OutOfMemory) ≡ outlines_answer read → ⊥
    cases (Ok font) never h = cc
    cases (Err why) never h = let same : why ≡ bytes.OutOfMemory = cc in never (ap Err same)
bytes_decided false all h = h

font_answered : (index : ℕ) (name : List ℕ) (held : Held) (all : List ℕ) (r : Result (List FontValue) FontFileRefusal) → IsFontFileAnswer all r →
    IsAskedFor (AsksFonts index name) (Some held) (with_status (font_status (Named index)) r) → HasAnswer (AsksFonts index name) name held
font_answered index name held all (Ok read) answer h = record { answer = Ok read; decided = tt; answered = h }
font_answered index name held all (Err (file.Lines (lines.BadFont line cause))) answer h =
    record { answer = Err (font_status (Named index) (file.Lines (lines.BadFont line cause))); decided = tt; answered = h }
font_answered index name held all (Err (file.Lines (lines.TooLarge most))) answer h =
    record { answer = Err (font_status (Named index) (file.Lines (lines.TooLarge most))); decided = tt; answered = h }
font_answered index name held all (Err (file.Lines lines.OutOfMemory)) answer h =
    absurd (lines_decided (is_sfnt_kind (u32_at all 0)) all answer)
font_answered index name held all (Err (file.Bytes (bytes.BadFont byte cause))) answer h =
    record { answer = Err (font_status (Named index) (file.Bytes (bytes.BadFont byte cause))); decided = tt; answered = h }
font_answered index name held all (Err (file.Bytes (bytes.TooLarge most))) answer h =
    record { answer = Err (font_status (Named index) (file.Bytes (bytes.TooLarge most))); decided = tt; answered = h }
font_answered index name held all (Err (file.Bytes bytes.OutOfMemory)) answer h =
    absurd (bytes_decided (is_sfnt_kind (u32_at all 0)) all answer)

-- A name that nothing has, or that holds too much, has its status.
held_answer : {Value : Type 0} (asks : List ℕ → Result Value Status → Type 0) (name : List ℕ) →
    ((bytes : List ℕ) → length bytes ≤ max_file_bytes → HasAnswer (AsksOf asks name) name (Some bytes)) → (held : Held) → HasAnswer (AsksOf asks name) name held
held_answer asks name known None = record { answer = Err (status.NoSuchFile name); decided = tt; answered = (None, refl, refl) }
held_answer asks name known (Some bytes) = elim (cases_lt max_file_bytes (length bytes)) [
  | inl more ↦ record { answer = Err (status.TooLarge Bytes max_file_bytes); decided = tt; answered = (Some bytes, refl, inr (more, refl)) }
  | inr few ↦ known bytes few
]

-- ---- a script with the fonts that it holds

fonts_before_refused : (fonts : List FontValue) (more : Result (List FontValue) EmbeddedRefusal) (why : EmbeddedRefusal) → Err why ≡ fonts_before fonts more → more ≡ Err why
fonts_before_refused fonts (Ok others) why e = absurd cc
fonts_before_refused fonts (Err other) why e = sym e

-- A file that is refused is one of those that are held.
refused_of_held : (place : ℕ) (files : List ScriptFont) (at : ℕ) (why : FontFileRefusal) → AreHeldFonts place files (Err (embedded.Font at why)) → (all : List ℕ) × IsFontFileAnswer all (Err why)
refused_of_held place [] at why e = absurd cc
refused_of_held place (held ∷ files) at why (inl (fonts, is, (more, rest, e))) =
    refused_of_held (place + 1) files at why (subst (AreHeldFonts (place + 1) files) (fonts_before_refused fonts more (embedded.Font at why) e) rest)
refused_of_held place (held ∷ files) at why (inr (other, is, e)) = let same : why ≡ other = cc in (held.bytes, subst (λ (refusal : FontFileRefusal). IsFontFileAnswer held.bytes (Err refusal)) (sym same) is)

abbrev by_count : Bool → List FontValue → Result (List FontValue) EmbeddedRefusal
by_count fits fonts = if fits then Ok fonts else Err embedded.TooMany

set_refused : (read : Result (List FontValue) EmbeddedRefusal) (at : ℕ) (why : FontFileRefusal) → Err (embedded.Font at why) ≡ at_most_a_set read → read ≡ Err (embedded.Font at why)
set_refused (Ok fonts) at why e = cases (nat_le (length fonts) max_fonts) e
  where
    cases : (b : Bool) → Err (embedded.Font at why) ≡ by_count b fonts → Ok fonts ≡ Err (embedded.Font at why)
    cases true e = absurd cc
    cases false e = absurd cc
set_refused (Err other) at why e = sym e

refused_of_script : (held : Result (List ScriptFont) ScriptFontsRefusal) (at : ℕ) (why : FontFileRefusal) → AreFontsOfHeld held (Err (embedded.Font at why)) → (all : List ℕ) × IsFontFileAnswer all (Err why)
refused_of_script (Ok files) at why (read, is, e) = refused_of_held 0 files at why (subst (AreHeldFonts 0 files) (set_refused read at why e) is)
refused_of_script (Err refusal) at why e = absurd cc

-- No script asks for want of memory.
own_cause : (all : List ℕ) (why : EmbeddedRefusal) → AreEmbeddedFonts all (Err why) → why ≢ embedded.Data coded.OutOfMemory → IsCause (embedded_status why)
own_cause all (embedded.Data (coded.BadCharacter line)) is some = tt
own_cause all (embedded.Data (coded.BadLength line)) is some = tt
own_cause all (embedded.Data coded.OutOfMemory) is some = absurd (some refl)
own_cause all (embedded.Font place (file.Lines (lines.BadFont line cause))) is some = tt
own_cause all (embedded.Font place (file.Lines (lines.TooLarge most))) is some = tt
own_cause all (embedded.Font place (file.Lines lines.OutOfMemory)) is some =
    let one = refused_of_script (script_fonts_of all) place _ is in
    absurd (lines_decided (is_sfnt_kind (u32_at one.0 0)) one.0 one.1)
own_cause all (embedded.Font place (file.Bytes (bytes.BadFont byte cause))) is some = tt
own_cause all (embedded.Font place (file.Bytes (bytes.TooLarge most))) is some = tt
own_cause all (embedded.Font place (file.Bytes bytes.OutOfMemory)) is some =
    let one = refused_of_script (script_fonts_of all) place _ is in
    absurd (bytes_decided (is_sfnt_kind (u32_at one.0 0)) one.0 one.1)
own_cause all embedded.TooMany is some = tt

-- There is an answer about the fonts that a script holds, and it is decided.
record HasOwn (used : Bool) (all : List ℕ) : Type 0 where
  pub answer : Result (List FontValue) Status
  pub decided : IsReadDecided answer
  pub asked : OwnFontsAsked used all answer

own_decided : (all : List ℕ) (read : Result (List FontValue) EmbeddedRefusal) → AreEmbeddedFonts all read → read ≢ Err (embedded.Data coded.OutOfMemory) → HasOwn true all
own_decided all (Ok fonts) is some = record { answer = Ok fonts; decided = tt; asked = (Ok fonts, is, refl) }
own_decided all (Err why) is some = record { answer = Err (embedded_status why); decided = own_cause all why is (λ e. some (ap Err e)); asked = (Err why, is, refl) }

own_has : OneEmbeddedAnswer → (used : Bool) (all : List ℕ) → HasOwn used all
own_has law false all = record { answer = Ok []; decided = tt; asked = refl }
own_has law true all = let one = law all in own_decided all one.0 one.1 one.2

script_cause : (why : ScriptRefusal) → why ≢ script.OutOfMemory → IsCause (script_status why)
script_cause (script.NotUtf8 n) some = tt
script_cause script.NoEvents some = tt
script_cause (script.TooManyLines n) some = tt
script_cause (script.TooManyStyles n) some = tt
script_cause script.OutOfMemory some = absurd (some refl)

module _ (used : Bool) (name all : List ℕ) (few : length all ≤ max_file_bytes) where
  refused_has : (why : Status) → IsCause why → IsScriptStatus why → ScriptAsked used all (Err why) → HasAnswer (AsksScript used name) name (Some all)
  refused_has (status.BadScript cause) decided kind asks = record { answer = Err (status.BadScript cause); decided = tt; answered = (Some all, refl, inl (few, asks)) }
  refused_has (status.BadFont place fault) decided kind asks = record { answer = Err (status.BadFont place fault); decided = tt; answered = (Some all, refl, inl (few, asks)) }
  refused_has (status.TooLarge what limit) decided kind asks = record { answer = Err (status.TooLarge what limit); decided = tt; answered = (Some all, refl, inl (few, asks)) }
  refused_has status.OutOfMemory decided kind asks = absurd decided
  refused_has status.Done decided kind asks = absurd kind
  refused_has (status.BadWords fault) decided kind asks = absurd kind
  refused_has (status.NoSuchFile other) decided kind asks = absurd kind
  refused_has (status.ReadFault other) decided kind asks = absurd kind
  refused_has (status.WriteFault which) decided kind asks = absurd kind
  refused_has (status.Unwritable order field) decided kind asks = absurd kind

  script_answered : (read : Result ScriptValue ScriptRefusal) → script_of all ≡ read → (read ≡ Err script.OutOfMemory → ⊥) → (own : Result (List FontValue) Status) → IsReadDecided own →
      OwnFontsAsked used all own → HasAnswer (AsksScript used name) name (Some all)
  script_answered (Ok script) is some (Ok fonts) decided own = record {
    answer = Ok (record { script = script; fonts = fonts });
    decided = tt;
    answered = (Some all, refl, inl (few, (Ok fonts, own, sym (ap (λ read. script_with (with_status script_status read) (Ok fonts)) is))));
  }
  script_answered (Ok script) is some (Err why) decided own =
      refused_has why decided (own_kind used all why own) (Err why, own, sym (ap (λ read. script_with (with_status script_status read) (Err why)) is))
  script_answered (Err why) is some fonts decided own =
      refused_has (script_status why) (script_cause why (λ e. some (ap Err e))) (of_script why) (fonts, own, sym (ap (λ read. script_with (with_status script_status read) fonts) is))

script_has : OneEmbeddedAnswer → (used : Bool) (name : List ℕ) (held : Held) → HasAnswer (AsksScript used name) name held
script_has law used name held =
    held_answer (ScriptAsked used) name
    (λ bytes few.
    let own = own_has law used bytes in
    script_answered used name bytes few (script_of bytes) refl (never_wants_memory bytes) own.answer own.decided own.asked) held

font_has : OneFileAnswer → (index : ℕ) (name : List ℕ) (held : Held) → HasAnswer (AsksFonts index name) name held
font_has law index name held =
    held_answer (FontsAsked index) name
    (λ bytes few.
    let read = law bytes in
    font_answered index name (Some bytes) bytes read.0 read.1 (Some bytes, refl, inl (few, (read.0, read.1, refl)))) held

-- There is an answer about a name of which it is told what it holds.
told_has : {Value : Type 0} (asks : Asks Value) (name : List ℕ) (told : Told) → told ≢ None → ((held : Held) → HasAnswer asks name held) →
    (answer : Result Value Status) × IsReadDecided answer × IsAnswered asks told name answer
told_has asks name None known has = absurd (known refl)
told_has asks name (Some held) known has = let one = has held in (one.answer, one.decided, one.answered)

font_some : OneFileAnswer → (told : List ℕ → Told) (names : List (List ℕ)) (index : ℕ) → AreNamesTold told names → index < length names →
    (answer : Result (List FontValue) Status) × IsReadDecided answer × IsFontFileRead told names index answer
font_some law told names index known within =
    let name = slice_index_or names index [] in
    let one = told_has (AsksFonts index name) name (told name) (known index [] within) (font_has law index name) in
    (one.0, one.1, λ none. subst (λ name. IsAnswered (AsksFonts index name) (told name) name one.0) (get_or_default names index [] none within) one.2)

-- The first fonts are read, or one of them is refused.
abbrev HasFirst : (List ℕ → Told) → List (List ℕ) → ℕ → Type 0
HasFirst told names n =
    ((files : List (List FontValue)) × (length files ≡ n) × AreFirstFiles told names files)
    ⊎ ((status : Status) × IsCause status × AreFontFilesRead told names (Err status))

next_has : (told : List ℕ → Told) (names : List (List ℕ)) (n : ℕ) (fonts : List (List FontValue)) → n < length names → length fonts ≡ n → AreFirstFiles told names fonts →
    (answer : Result (List FontValue) Status) → IsReadDecided answer → IsFontFileRead told names n answer → HasFirst told names (suc n)
next_has told names n fonts within count first (Ok read) decided h =
    let more : length (fonts ++ read ∷ []) ≡ length fonts + 1 = length-append fonts (read ∷ []) in
    inl (fonts ++ read ∷ [], omega (arith, more, count), first_more (told_of told) names fonts read first (subst (λ m. IsFontFileRead told names m (Ok read)) (sym count) h))
next_has told names n fonts within count first (Err why) decided h =
    inr (why, decided, (fonts, omega (arith, count, within), first, subst (λ m. IsFontFileRead told names m (Err why)) (sym count) h))

first_has : OneFileAnswer → (told : List ℕ → Told) (names : List (List ℕ)) → AreNamesTold told names → (n : ℕ) → n ≤ length names → HasFirst told names n
first_has law told names known zero within = inl ([], refl, λ index none less. absurd (omega (arith, less)))
first_has law told names known (suc n) within = elim (first_has law told names known n (omega (arith, within))) [
  | inl (fonts, count, first) ↦
      let one = font_some law told names n known (omega (arith, within)) in
      next_has told names n fonts (omega (arith, within)) count first one.0 one.1 one.2
  | inr stopped ↦ inr stopped
]

abbrev Answer : (List ℕ → Told) → ScriptSource → List (List ℕ) → Type 0
Answer told script fonts = (answer : Result Inputs Status) × IsReadDecided answer × AreRead told script fonts answer

with_fonts : (told : List ℕ → Told) (script : ScriptSource) (fonts : List (List ℕ)) (read : Inputs) → length fonts ≤ max_fonts → IsScriptRead told script (Ok read) →
    HasFirst told fonts (length fonts) → Answer told script fonts
with_fonts told script fonts read few h (inl (files, count, first)) = elim (cases_lt max_fonts (length (fonts_of_files files ++ read.fonts))) [
  | inl more ↦ (Err (status.TooLarge Fonts max_fonts), tt, inl (few, inr (read, h, inr (files, (count, first), more, refl))))
  | inr fits ↦ (Ok (record { script = read.script; fonts = fonts_of_files files ++ read.fonts }), tt, inl (few, (read, h, refl, (files, (count, first), refl, fits))))
]
with_fonts told script fonts read few h (inr (why, cause, stopped)) = (Err why, cause, inl (few, inr (read, h, inl stopped)))

with_script : OneFileAnswer → (told : List ℕ → Told) (script : ScriptSource) (fonts : List (List ℕ)) → AreNamesTold told fonts → length fonts ≤ max_fonts →
    (answer : Result Inputs Status) → IsReadDecided answer → IsScriptRead told script answer → Answer told script fonts
with_script law told script fonts known few (Ok read) decided h = with_fonts told script fonts read few h (first_has law told fonts known (length fonts) (omega arith))
with_script law told script fonts known few (Err why) decided h = (Err why, decided, inl (few, inl h))

pub files_have_an_answer : OneFileAnswer → OneEmbeddedAnswer → FilesHaveAnAnswer
files_have_an_answer law held told script fonts known = elim (cases_lt max_fonts (length fonts)) [
  | inl more ↦ (_, tt, inr (more, refl))
  | inr few ↦
      let one = told_has (AsksScript script.own_fonts script.name) script.name (told script.name) known.0 (script_has held script.own_fonts script.name) in
      with_script law told script fonts known.1 few one.0 one.1 one.2
]
