-- What is read for a play or for a selftest is what it needs.
use Rattle.std.proofs.Common.{◌≡◌, inl, inr, ℕ, ◌<◌, ◌≤◌, Bool, true, false, ◌&&◌, cond, List, [], ◌∷◌, length, All, Some, None, Result, Ok, Err, IfOk, refl, sym, ap, subst, ◌∙◌, arith, le-leb, lt-ltb, nat_le, nat_lt}
use Rattle.std.proofs.lemmas.Bool.{cases_lt}
use Rattle.ass_io.specs.Fetched.{Told}
use Rattle.ass_script.specs.Ranges.{IsScript}
use Rattle.ass_num.specs.Limits.{max_file_bytes}
use Rattle.ass_script.specs.Scripts.{IsScriptAnswer, ScriptValue, script_of}
use Rattle.ass_script.specs.declared.refusal.ScriptRefusal.{ScriptRefusal}
use Rattle.ass_script.specs.declared.refusal.ScriptRefusal.TheVariants as refusal
use Rattle.bdf_font.specs.Fonts.{FontValue}
use Rattle.bdf_font.specs.Limits.{max_fonts}
use Rattle.bdf_font.specs.Ranges.{IsFont}
use Rattle.single_run.proofs.InputLemmas.{file_lines, font_set, script_in, source_lines}
use Rattle.generated_script.specs.Generated.{generated}
use Rattle.run_status.specs.Causes.{script_status, with_status}
use Rattle.run_status.specs.Inputs.{AreFilesRead, AreRead}
use Rattle.run_status.specs.declared.inputs.Inputs.{Inputs}
use Rattle.play_model.specs.Plays.{IsPlayable}
use Rattle.play_shares.specs.Instants.{frame_count}
use Rattle.play_shares.specs.Limits.{max_frames}
use Rattle.run_words.specs.Jobs.{IsPlay}
use Rattle.run_words.specs.declared.job.PlayJob.{PlayJob}
use Rattle.run_status.specs.declared.status.Status.{Status}
use Rattle.run_status.specs.declared.status.Status.TheVariants.{TooLarge}
use Rattle.run_status.specs.declared.status.What.TheVariants.{Bytes, Frames as images}
use Rattle.ass_events.specs.LineLaws.{LinesFitTheirText}
use Rattle.text_layout.specs.Fonts.{IsLayoutFontSet}
use Rattle.play_command.specs.PlayRuns.{has_too_many, play_refusal, view_of}
use Rattle.play_command.specs.SelftestRuns.{IsScriptIn, IsSelftestRead, selftest_fonts}
use Rattle.play_command.specs.Working.{AreSelftestInputs, IsWithFont, script_alone}
use Rattle.run_words.specs.declared.job.ScriptSource.{ScriptSource}

both_true : (a b : Bool) → a ≡ true → b ≡ true → a && b ≡ true
both_true true b e f = f
both_true false b e f = cc

not_refused : (b : Bool) (why : Status) → None ≡ cond b (Some why) None → b ≡ false
not_refused true why e = cc
not_refused false why e = refl

few_frames : (job : PlayJob) (fonts : List (List ℕ)) → has_too_many job fonts ≡ false → length fonts ≤ max_fonts → frame_count job ≤ max_frames
few_frames job fonts none few = elim (cases_lt max_frames (frame_count job)) [
  | inl many ↦
      let too : has_too_many job fonts ≡ true = both_true (nat_le (length fonts) max_fonts) (nat_lt max_frames (frame_count job)) (le-leb _ _ few) (lt-ltb _ _ many) in
      let wrong : true ≡ false = sym too ∙ none in absurd cc
  | inr fits ↦ fits
]

some_fonts : (job : PlayJob) (fonts : List (List ℕ)) → None ≡ play_refusal job fonts → (0 < length fonts) × (has_too_many job fonts ≡ false)
some_fonts job [] e = absurd cc
some_fonts job (font ∷ fonts) e = (omega arith, not_refused (has_too_many job (font ∷ fonts)) (TooLarge images max_frames) e)

files_lines : LinesFitTheirText → (told : List ℕ → Told) (script : ScriptSource) (fonts : List (List ℕ)) (inputs : Inputs) → AreFilesRead told script fonts (Ok inputs) →
    All (λ line. length line ≤ max_file_bytes) inputs.script.lines
files_lines fit told script fonts inputs (read, is, same, behind) =
    subst (λ (s : ScriptValue). All (λ line. length line ≤ max_file_bytes) s.lines) (sym same) (file_lines fit told script read is)

-- A play whose files are read is within its limits.
pub playable : LinesFitTheirText → (told : List ℕ → Told) (job : PlayJob) (script : ScriptSource) (fonts : List (List ℕ)) (inputs : Inputs) →
    IsPlay job → None ≡ play_refusal job fonts → AreRead told script fonts (Ok inputs) → IsScript inputs.script → All IsFont inputs.fonts → IsPlayable (view_of job inputs)
playable fit told job script fonts inputs within passes (inr (many, e)) is each = absurd cc
playable fit told job script fonts inputs within passes (inl (few, read)) is each =
    let found = some_fonts job fonts passes in record {
      job = within;
      frames = few_frames job fonts found.1 few;
      script = is;
      short = files_lines fit told script fonts inputs read;
      fonts = font_set told script fonts inputs found.0 read each;
    }

pub all_playable : LinesFitTheirText → (told : List ℕ → Told) (job : PlayJob) (script : ScriptSource) (fonts : List (List ℕ)) (answer : Result Inputs Status) →
    IsPlay job → None ≡ play_refusal job fonts → AreRead told script fonts answer → IfOk answer (λ inputs. IsScript inputs.script) → IfOk answer (λ inputs. All IsFont inputs.fonts) →
    IfOk answer (λ inputs. IsPlayable (view_of job inputs))
all_playable fit told job script fonts (Ok inputs) within passes read is each = playable fit told job script fonts inputs within passes read is each
all_playable fit told job script fonts (Err why) within passes read is each = tt

-- What threads share is what was read.
pub view_same : (job : PlayJob) (inputs : Inputs) (script : ScriptValue) (fonts : List FontValue) → script ≡ inputs.script → fonts ≡ inputs.fonts →
    record { job = job; script = script; fonts = fonts } ≡ view_of job inputs
view_same job inputs script fonts e f = rw (e, f) refl

-- ---- a generated script

abbrev refused_as : Status → Result ScriptValue Status
refused_as why = Err why

pub many_bytes : (bytes : List ℕ) → max_file_bytes < length bytes → IsScriptIn bytes (Err (TooLarge Bytes max_file_bytes))
many_bytes bytes many = inl (inr (many, refl))

pub script_found : (bytes : List ℕ) (script : ScriptValue) → length bytes ≤ max_file_bytes → script_of bytes ≡ Ok script → IsScriptIn bytes (Ok script)
script_found bytes script few is = inl (inl (few, sym (ap (with_status script_status) is)))

pub script_refused : (bytes : List ℕ) (refusal : ScriptRefusal) (why : Status) → length bytes ≤ max_file_bytes → IsScriptAnswer (Err refusal) (script_of bytes) → why ≡ script_status refusal →
    IsScriptIn bytes (Err why)
script_refused bytes (refusal.NotUtf8 n) why few is same = inl (inl (few, ap refused_as same ∙ sym (ap (with_status script_status) is)))
script_refused bytes refusal.NoEvents why few is same = inl (inl (few, ap refused_as same ∙ sym (ap (with_status script_status) is)))
script_refused bytes (refusal.TooManyLines n) why few is same = inl (inl (few, ap refused_as same ∙ sym (ap (with_status script_status) is)))
script_refused bytes (refusal.TooManyStyles n) why few is same = inl (inl (few, ap refused_as same ∙ sym (ap (with_status script_status) is)))
script_refused bytes refusal.OutOfMemory why few is same = inr (ap refused_as same)

pub font_added : (script : ScriptValue) (fonts : List FontValue) → fonts ≡ selftest_fonts → IsLayoutFontSet selftest_fonts → IsWithFont script (Ok (record { script = script; fonts = fonts }))
font_added script fonts is few = (refl, is, subst IsLayoutFontSet (sym is) few)

-- The font changes nothing of the script.
pub font_read : (seed events : ℕ) (script : ScriptValue) (answer : Result Inputs Status) → IsSelftestRead seed events (Ok script) → IsWithFont script answer → IsSelftestRead seed events (script_alone answer)
font_read seed events script (Ok inputs) read h = subst (λ (s : ScriptValue). IsSelftestRead seed events (Ok s)) (sym h.0) read
font_read seed events script (Err why) read h = inr (ap refused_as h)

pub font_inputs : (script : ScriptValue) (answer : Result Inputs Status) → IsScript script → All (λ line. length line ≤ max_file_bytes) script.lines → IsWithFont script answer →
    IfOk answer AreSelftestInputs
font_inputs script (Ok inputs) is short h = record {
  script = subst IsScript (sym h.0) is;
  short = subst (λ (s : ScriptValue). All (λ line. length line ≤ max_file_bytes) s.lines) (sym h.0) short;
  fonts = h.1;
  few_fonts = h.2;
}
font_inputs script (Err why) is short h = tt

-- A generated script that is read has short lines.
pub generated_short : LinesFitTheirText → (seed events : ℕ) (script : ScriptValue) → IsSelftestRead seed events (Ok script) → All (λ line. length line ≤ max_file_bytes) script.lines
generated_short fit seed events script (inl (inl (small, e))) = source_lines fit (generated seed events) script small (script_in (script_of (generated seed events)) script e)
generated_short fit seed events script (inl (inr (large, e))) = absurd cc
generated_short fit seed events script (inr memory) = absurd cc
