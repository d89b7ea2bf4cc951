-- A script with the fonts that it holds.
use Rattle.std.proofs.Common.{◌≡◌, ◌≢◌, ℕ, Bool, true, false, List, [], Result, Ok, Err, refl, sym, ap, ◌∙◌, subst}
use Rattle.ass_io.specs.Fetched.{Held as Holding}
use Rattle.ass_script.specs.Scripts.{IsScriptAnswer, ScriptValue, script_of}
use Rattle.ass_script.specs.declared.refusal.ScriptRefusal.{ScriptRefusal}
use Rattle.ass_script.specs.declared.refusal.ScriptRefusal.TheVariants as script
use Rattle.bdf_font.specs.Fonts.{FontValue}
use Rattle.bdf_font.specs.declared.cause.FontFileRefusal.{FontFileRefusal}
use Rattle.bdf_font.specs.declared.cause.FontFileRefusal.TheVariants as file
use Rattle.bdf_font.specs.declared.cause.FontRefusal.TheVariants as lines
use Rattle.sfnt_font.specs.declared.cause.SfntRefusal.TheVariants as bytes
use Rattle.script_fonts.specs.declared.refusal.ScriptFontsRefusal.TheVariants as coded
use Rattle.embedded_fonts.specs.Laws.{OneEmbeddedAnswer}
use Rattle.embedded_fonts.specs.declared.refusal.EmbeddedRefusal.{EmbeddedRefusal}
use Rattle.embedded_fonts.specs.declared.refusal.EmbeddedRefusal.TheVariants as embedded
use Rattle.run_status.specs.declared.font_fault.FontPlace.{FontPlace}
use Rattle.run_status.specs.declared.font_fault.FontPlace.TheVariants.{Held}
use Rattle.run_status.specs.declared.inputs.Inputs.{Inputs}
use Rattle.run_status.specs.declared.status.Status.{Status}
use Rattle.run_status.specs.declared.status.Status.TheVariants as status
use Rattle.run_status.specs.Causes.{embedded_status, font_status, script_status, with_status}
use Rattle.run_status.specs.Files.{AsksBytes, AsksScript, IsAnsweredFrom, IsAskedFrom, OwnFontsAsked, ScriptAsked, script_with}
use Rattle.run_status.proofs.AskedLemmas.{asked_of}

-- ---- which statuses there are

-- The status is one of a script and of the fonts that it holds.
abbrev pub IsScriptStatus : Status → Type 0
IsScriptStatus (status.BadScript _) = Unit {0}
IsScriptStatus (status.BadFont _ _) = Unit {0}
IsScriptStatus (status.TooLarge _ _) = Unit {0}
IsScriptStatus status.OutOfMemory = Unit {0}
IsScriptStatus _ = ⊥

pub of_script : (why : ScriptRefusal) → IsScriptStatus (script_status why)
of_script (script.NotUtf8 n) = tt
of_script script.NoEvents = tt
of_script (script.TooManyLines n) = tt
of_script (script.TooManyStyles n) = tt
of_script script.OutOfMemory = tt

of_file : (place : FontPlace) (why : FontFileRefusal) → IsScriptStatus (font_status place why)
of_file place (file.Lines (lines.BadFont line cause)) = tt
of_file place (file.Lines (lines.TooLarge most)) = tt
of_file place (file.Lines lines.OutOfMemory) = tt
of_file place (file.Bytes (bytes.BadFont byte cause)) = tt
of_file place (file.Bytes (bytes.TooLarge most)) = tt
of_file place (file.Bytes bytes.OutOfMemory) = tt

of_embedded : (why : EmbeddedRefusal) → IsScriptStatus (embedded_status why)
of_embedded (embedded.Data (coded.BadCharacter line)) = tt
of_embedded (embedded.Data (coded.BadLength line)) = tt
of_embedded (embedded.Data coded.OutOfMemory) = tt
of_embedded (embedded.Font place why) = of_file (Held place) why
of_embedded embedded.TooMany = tt

pub own_kind : (used : Bool) (all : List ℕ) (why : Status) → OwnFontsAsked used all (Err why) → IsScriptStatus why
own_kind false all why e = absurd cc
own_kind true all why (Ok fonts, is, e) = absurd cc
own_kind true all why (Err refusal, is, e) = let same : why ≡ embedded_status refusal = cc in subst IsScriptStatus (sym same) (of_embedded refusal)

script_kind : (used : Bool) (all : List ℕ) (why : Status) → ScriptAsked used all (Err why) → IsScriptStatus why
script_kind used all why (fonts, own, e) = cases (script_of all) fonts own e
  where
    cases : (read : Result ScriptValue ScriptRefusal) (fonts : Result (List FontValue) Status) → OwnFontsAsked used all fonts → Err why ≡ script_with (with_status script_status read) fonts → IsScriptStatus why
    cases (Err refusal) fonts own e = let same : why ≡ script_status refusal = cc in subst IsScriptStatus (sym same) (of_script refusal)
    cases (Ok script) (Err other) own e = let same : why ≡ other = cc in own_kind used all why (subst (λ (status : Status). OwnFontsAsked used all (Err status)) (sym same) own)
    cases (Ok script) (Ok held) own e = absurd cc

-- ---- what is held asks for it

module _ (used : Bool) (name : List ℕ) (may : Holding → Type 0) (all : List ℕ) where
  -- The bytes that are held ask for the answer, unless memory ran out.
  pub script_asked : (answer : Result Inputs Status) → IsAskedFrom (AsksBytes name) may (Ok all) → (answer ≢ Err status.OutOfMemory → ScriptAsked used all answer) →
      IsAnsweredFrom (AsksScript used name) may name answer
  script_asked (Ok inputs) h asks = asked_of (ScriptAsked used) name may all _ h (asks (λ e. cc))
  script_asked (Err status.OutOfMemory) h asks = tt
  script_asked (Err (status.BadScript cause)) h asks = asked_of (ScriptAsked used) name may all _ h (asks (λ e. cc))
  script_asked (Err (status.BadFont place fault)) h asks = asked_of (ScriptAsked used) name may all _ h (asks (λ e. cc))
  script_asked (Err (status.TooLarge what limit)) h asks = asked_of (ScriptAsked used) name may all _ h (asks (λ e. cc))
  script_asked (Err status.Done) h asks = absurd (script_kind used all status.Done (asks (λ e. cc)))
  script_asked (Err (status.BadWords fault)) h asks = absurd (script_kind used all (status.BadWords fault) (asks (λ e. cc)))
  script_asked (Err (status.NoSuchFile other)) h asks = absurd (script_kind used all (status.NoSuchFile other) (asks (λ e. cc)))
  script_asked (Err (status.ReadFault other)) h asks = absurd (script_kind used all (status.ReadFault other) (asks (λ e. cc)))
  script_asked (Err (status.WriteFault which)) h asks = absurd (script_kind used all (status.WriteFault which) (asks (λ e. cc)))
  script_asked (Err (status.Unwritable order field)) h asks = absurd (script_kind used all (status.Unwritable order field) (asks (λ e. cc)))

-- ---- a script that is refused

some_own : OneEmbeddedAnswer → (used : Bool) (all : List ℕ) → (fonts : Result (List FontValue) Status) × OwnFontsAsked used all fonts
some_own law false all = (Ok [], refl)
some_own law true all = let one = law all in (with_status embedded_status one.0, (one.0, one.1, refl))

abbrev refused_as : Status → Result Inputs Status
refused_as why = Err why

refused_asked : OneEmbeddedAnswer → (used : Bool) (all : List ℕ) (refusal : ScriptRefusal) (why : Status) → script_of all ≡ Err refusal → why ≡ script_status refusal → ScriptAsked used all (Err why)
refused_asked law used all refusal why is same =
    let some = some_own law used all in
    (some.0, some.1, ap refused_as same ∙ sym (ap (λ (read : Result ScriptValue ScriptRefusal). script_with (with_status script_status read) some.0) is))

pub script_refused : OneEmbeddedAnswer → (used : Bool) (all : List ℕ) (refusal : ScriptRefusal) (why : Status) → IsScriptAnswer (Err refusal) (script_of all) → why ≡ script_status refusal →
    refused_as why ≢ Err status.OutOfMemory → ScriptAsked used all (Err why)
script_refused law used all (script.NotUtf8 n) why is same some = refused_asked law used all _ why is same
script_refused law used all script.NoEvents why is same some = refused_asked law used all _ why is same
script_refused law used all (script.TooManyLines n) why is same some = refused_asked law used all _ why is same
script_refused law used all (script.TooManyStyles n) why is same some = refused_asked law used all _ why is same
script_refused law used all script.OutOfMemory why is same some = absurd (some (ap refused_as same))

-- ---- one answer

own_one : OneEmbeddedAnswer → (used : Bool) (all : List ℕ) (one other : Result (List FontValue) Status) → OwnFontsAsked used all one → OwnFontsAsked used all other → one ≡ other
own_one law false all one other p q = p ∙ sym q
own_one law true all one other p q =
    let answer = law all in
    p.2 ∙ ap (with_status embedded_status) (answer.3 p.0 p.1 ∙ sym (answer.3 q.0 q.1)) ∙ sym q.2

pub same_script : OneEmbeddedAnswer → (used : Bool) (all : List ℕ) (one other : Result Inputs Status) → ScriptAsked used all one → ScriptAsked used all other → one ≡ other
same_script law used all one other p q = p.2 ∙ ap (script_with (with_status script_status (script_of all))) (own_one law used all p.0 q.0 p.1 q.1) ∙ sym q.2
