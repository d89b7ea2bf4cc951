-- The script of a selftest is read, so that a selftest is done.
use Rattle.std.proofs.Common.{◌≡◌, ◌⊎◌, ◌∙◌, ℕ, ◌≤◌, List, length, Result, Ok, Err, IfOk, inl, inr, ap, subst, arith}
use Rattle.std.specs.Io.KnownBytes.{Appends}
use Rattle.std.specs.List.{flat_map}
use Rattle.std.proofs.lemmas.List.FromFn.{length-map-range_with_len}
use Rattle.ass_num.specs.Limits.{max_file_bytes}
use Rattle.ass_script.specs.Scripts.{ScriptValue, script_of}
use Rattle.single_run.specs.Outcomes.{IsOrFault}
use Rattle.script_laws.specs.GeneratedLaws.{GeneratedLinesGiveEvents, GeneratedScriptsAreRead, GeneratedScriptsFit, generated_event}
use Rattle.generated_script.specs.Generated.{generated}
use Rattle.run_status.specs.Causes.{script_status, with_status}
use Rattle.play_command.specs.PlayRuns.{status_read}
use Rattle.play_command.specs.SelftestRuns.{IsSelftestRead, IsSelftestReport, IsSelftestText, image_count}
use Rattle.play_laws.specs.Selftests.{SelftestsAcceptAll, SelftestsAreDone}
use Rattle.play_report.specs.Digests.{digest_after}
use Rattle.play_report.specs.Reports.{summary_text}
use Rattle.run_words.proofs.AskedLemmas.{words_within}
use Rattle.run_words.specs.Words.{job_of}
use Rattle.run_words.specs.Jobs.{IsJob}
use Rattle.run_words.specs.Limits.{max_events}
use Rattle.run_words.specs.declared.job.Job.{Job}
use Rattle.run_words.specs.declared.job.Job.TheVariants.{Selftest}
use Rattle.run_words.specs.declared.job.WordsFault.{WordsFault}
use Rattle.run_status.specs.declared.status.Status.{Status}
use Rattle.run_status.specs.declared.status.Status.TheVariants.{Done, OutOfMemory}
use Rattle.run_status.specs.declared.status.Which.TheVariants.{Report}
use Rattle.ass_events.specs.ScriptEvents.{line_events}

few_events : (words : List (List ℕ)) (seed events workers : ℕ) → job_of words ≡ Ok (Selftest seed events workers) → events ≤ max_events
few_events words seed events workers asked =
    let within : IsJob (Selftest seed events workers) = subst (λ (r : Result Job WordsFault). IfOk r IsJob) asked (words_within words) in within.1.1

-- Reading the generated script answers that script, or memory ran out.
reading_is : (seed events : ℕ) (script : ScriptValue) (reading : Result ScriptValue Status) → length (generated seed events) ≤ max_file_bytes → script_of (generated seed events) ≡ Ok script →
    IsSelftestRead seed events reading → (reading ≡ Ok script) ⊎ (reading ≡ Err OutOfMemory)
reading_is seed events script reading fits is (inl (inl (few, asked))) = inl (asked ∙ ap (with_status script_status) is)
reading_is seed events script reading fits is (inl (inr (many, asked))) = absurd (omega arith)
reading_is seed events script reading fits is (inr memory) = inr memory

memory_alone : (status : Status) → IsOrFault Report OutOfMemory status → IsOrFault Report Done status
memory_alone status (inl (inl e)) = inl (inr e)
memory_alone status (inl (inr e)) = inl (inr e)
memory_alone status (inr (other, e)) = absurd cc

never_done : IsOrFault Report OutOfMemory Done → ⊥
never_done (inl (inl e)) = cc
never_done (inl (inr e)) = cc
never_done (inr (other, e)) = cc

module _ (read : GeneratedScriptsAreRead) (give : GeneratedLinesGiveEvents) (fit : GeneratedScriptsFit) where
  pub all_done : SelftestsAreDone
  all_done words seed events workers report status asked run =
      let few = few_events words seed events workers asked in
      let is = read seed events (omega (arith, few)) in
      elim (reading_is seed events is.0 run.reading (fit seed events few) is.1 run.read) [
        | inl e ↦ subst (λ (r : Result ScriptValue Status). IsOrFault Report (status_read r) status) e run.answered
        | inr e ↦ memory_alone status (subst (λ (r : Result ScriptValue Status). IsOrFault Report (status_read r) status) e run.answered)
      ]

  pub all_accepted : SelftestsAcceptAll
  all_accepted words seed events workers report asked run =
      let few = few_events words seed events workers asked in
      let is = read seed events (omega (arith, few)) in
      let count : length (line_events is.0) ≡ events =
      ap length (give seed events is.0 (omega (arith, few)) is.1) ∙ length-map-range_with_len (generated_event seed) 0 events in
      elim (reading_is seed events is.0 run.reading (fit seed events few) is.1 run.read) [
        | inl e ↦
            let said : IsSelftestText is.0 seed events run.reported.0 = subst (λ (r : Result ScriptValue Status). IsSelftestReport seed events r run.reported.0) e run.reported.1 in
            let digest = digest_after 0 (flat_map (λ piece. piece) said.pieces) in
            (digest, subst (Appends report.before.held report.now.held) (said.value ∙ ap (λ n. summary_text seed events n image_count digest) count) run.reported.2)
        | inr e ↦ absurd (never_done (subst (λ (r : Result ScriptValue Status). IsOrFault Report (status_read r) Done) e run.answered))
      ]
