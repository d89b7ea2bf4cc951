-- What the bytes of a file ask for.
use Rattle.std.proofs.Common.{◌≡◌, ◌≢◌, ℕ, ◌+◌, ◌<◌, ◌≤◌, List, length, replicate, Some, None, Result, Ok, Err, inl, inr, refl, ap, subst, arith}
use Rattle.std.proofs.lemmas.List.{length-replicate}
use Rattle.ass_num.specs.Causes.{IfTold}
use Rattle.ass_num.specs.Limits.{max_file_bytes}
use Rattle.ass_io.specs.Fetched.{Held, Holds, IsMissing, IsTooLarge, Told}
use Rattle.bdf_font.specs.Files.{IsFontFileAnswer}
use Rattle.bdf_font.specs.Fonts.{FontValue}
use Rattle.bdf_font.specs.declared.cause.FontFileRefusal.{FontFileRefusal}
use Rattle.bdf_font.specs.declared.cause.FontFileRefusal.TheVariants as file
use Rattle.bdf_font.specs.declared.cause.FontRefusal.TheVariants as lines
use Rattle.sfnt_font.specs.declared.cause.SfntRefusal.TheVariants as bytes
use Rattle.run_status.specs.declared.font_fault.FontPlace.TheVariants.{Named}
use Rattle.run_status.specs.declared.status.Status.{Status}
use Rattle.run_status.specs.declared.status.Status.TheVariants as status
use Rattle.run_status.specs.declared.status.What.TheVariants.{Bytes}
use Rattle.run_status.specs.Causes.{font_status, with_status}
use Rattle.run_status.specs.Files.{AsksBytes, AsksFonts, AsksOf, FontsAsked, IsAnsweredFrom, IsAskedFor, IsAskedFrom}

-- Some list is longer than a number says. It is never looked at.
unfoldable pub longer : (n : ℕ) → (xs : List ℕ) × (n < length xs)
longer n = (replicate (n + 1) 0, omega (arith, length-replicate {A = ℕ} (n + 1) 0))

-- Bytes that were read are held.
pub got : (told : Told) (name bytes : List ℕ) → IfTold told (Holds bytes) → length bytes ≤ max_file_bytes → IsAskedFor (AsksBytes name) told (Ok bytes)
got None name bytes told few = (Some bytes, tt, inl (few, refl))
got (Some held) name bytes told few = (Some bytes, told, inl (few, refl))

-- Nothing is held where nothing has the name.
pub missing : (told : Told) (name : List ℕ) → IfTold told IsMissing → IsAskedFor (AsksBytes name) told (Err (status.NoSuchFile name))
missing None name told = (None, tt, refl)
missing (Some held) name told = (None, told, refl)

-- Too many bytes are held.
pub too_large : (told : Told) (name : List ℕ) → IfTold told IsTooLarge → IsAskedFor (AsksBytes name) told (Err (status.TooLarge Bytes max_file_bytes))
too_large None name told = let many = longer max_file_bytes in (Some many.0, tt, inr (many.1, refl))
too_large (Some None) name told = absurd told
too_large (Some (Some bytes)) name told = (Some bytes, refl, inr (told, refl))

-- Bytes that are held ask for what they ask for.
pub asked_of : {Value : Type 0} (asks : List ℕ → Result Value Status → Type 0) (name : List ℕ) (may : Held → Type 0) (bytes : List ℕ) (answer : Result Value Status) →
    IsAskedFrom (AsksBytes name) may (Ok bytes) → asks bytes answer → IsAskedFrom (AsksOf asks name) may answer
asked_of asks name may bytes answer (None, is, h) asked = absurd cc
asked_of asks name may bytes answer (Some held, is, inl (few, same)) asked =
    let equal : bytes ≡ held = cc in
    (Some held, is, inl (few, subst (λ held. asks held answer) equal asked))
asked_of asks name may bytes answer (Some held, is, inr (many, same)) asked = absurd cc

-- The file of fonts that is held asks for the fonts, or for the status of its refusal.
pub font_asked : (index : ℕ) (name : List ℕ) (may : Held → Type 0) (all : List ℕ) (read : Result (List FontValue) FontFileRefusal) → IsAskedFrom (AsksBytes name) may (Ok all) →
    (read ≢ Err (file.Lines lines.OutOfMemory) → IsFontFileAnswer all read) → IsAnsweredFrom (AsksFonts index name) may name (with_status (font_status (Named index)) read)
font_asked index name may all (Ok font) h answer = asked_of (FontsAsked index) name may all (Ok font) h (Ok font, answer (λ e. cc), refl)
font_asked index name may all (Err (file.Lines (lines.BadFont line cause))) h answer =
    asked_of (FontsAsked index) name may all _ h (Err (file.Lines (lines.BadFont line cause)), answer (λ e. cc), refl)
font_asked index name may all (Err (file.Lines (lines.TooLarge most))) h answer =
    asked_of (FontsAsked index) name may all _ h (Err (file.Lines (lines.TooLarge most)), answer (λ e. cc), refl)
font_asked index name may all (Err (file.Lines lines.OutOfMemory)) h answer = tt
font_asked index name may all (Err (file.Bytes (bytes.BadFont byte cause))) h answer =
    asked_of (FontsAsked index) name may all _ h (Err (file.Bytes (bytes.BadFont byte cause)), answer (λ e. cc), refl)
font_asked index name may all (Err (file.Bytes (bytes.TooLarge most))) h answer =
    asked_of (FontsAsked index) name may all _ h (Err (file.Bytes (bytes.TooLarge most)), answer (λ e. cc), refl)
font_asked index name may all (Err (file.Bytes bytes.OutOfMemory)) h answer = tt

kept : {Value : Type 0} (asks : List ℕ → Result Value Status → Type 0) (name : List ℕ) (may : Held → Type 0) (why : Status) →
    IsAskedFrom (AsksBytes name) may (Err why) → IsAskedFrom (AsksOf asks name) may (Err why)
kept asks name may why (None, is, h) = let equal : why ≡ status.NoSuchFile name = cc in (None, is, ap Err equal)
kept asks name may why (Some held, is, inl (few, same)) = absurd cc
kept asks name may why (Some held, is, inr (many, same)) =
    let equal : why ≡ status.TooLarge Bytes max_file_bytes = cc in
    (Some held, is, inr (many, ap Err equal))

-- A file that isn't fetched is no script and no font.
pub refused : {Value : Type 0} (asks : List ℕ → Result Value Status → Type 0) (name : List ℕ) (may : Held → Type 0) (why : Status) →
    IsAnsweredFrom (AsksBytes name) may name (Err why) → IsAnsweredFrom (AsksOf asks name) may name (Err why)
refused asks name may status.Done h = h
refused asks name may (status.NoSuchFile other) h = kept asks name may _ h
refused asks name may (status.ReadFault other) h = h
refused asks name may (status.BadScript cause) h = kept asks name may _ h
refused asks name may (status.BadFont index fault) h = kept asks name may _ h
refused asks name may (status.WriteFault which) h = h
refused asks name may (status.TooLarge what limit) h = kept asks name may _ h
refused asks name may status.OutOfMemory h = h
refused asks name may (status.BadWords why) h = h
refused asks name may (status.Unwritable order field) h = h
