-- From the answer of a put to how the run was told.
use Rattle.std.proofs.Common.{◌≡◌, ◌⊎◌, inl, inr, ℕ, List, refl, subst, String, Global, string_bytes}
use Rattle.ass_io.specs.Sinks.{IsPutAnswered, SinkState}
use Rattle.ass_io.specs.declared.sink.Put.{Put}
use Rattle.ass_io.specs.declared.sink.Put.TheVariants as put
use Rattle.run_status.specs.Endings.{memory_ending}
use Rattle.run_status.specs.declared.ending.Ending.{Ending}
use Rattle.run_status.specs.declared.ending.Ending.TheVariants.{As, ListFault, Closed, ClosedQuietly}
use Rattle.run_status.specs.declared.status.Status.TheVariants.{Done, WriteFault}
use Rattle.run_status.specs.declared.status.Which.TheVariants.{Report}
use Rattle.run_words.specs.declared.report_words.ReportForm.{ReportForm}
use Rattle.run_words.specs.declared.report_words.ReportForm.TheVariants.{Text, Json, Silent}
use Rattle.run_reports.specs.Telling.{IsMemorySaid, IsTaleTold, IsTold, IsToldAloud, said}
use Rattle.run_reports.specs.declared.tale.Tale.{Tale}
use Rattle.run_reports.specs.declared.tale.Tale.TheVariants.{Ends, Found}

module _ (form : ReportForm) (piece : List ℕ) (old new : SinkState) where
  pub memory_said : (answer : Put) → piece ≡ said form memory_ending → IsPutAnswered piece answer old new → IsMemorySaid form old new memory_ending
  memory_said answer is put = (answer, subst (λ p. IsPutAnswered p answer old new) is put, refl)

  -- ---- an end

  module _ (ending : Ending) (is : piece ≡ said form ending) where
    pub end_told : IsPutAnswered piece put.Done old new → IsTaleTold form (Ends ending) old new ending
    end_told answered = inl (put.Done, (subst (λ p. IsPutAnswered p put.Done old new) is answered, refl))

    -- a prefix of its line was put
    pub end_cut : IsPutAnswered piece put.Failed old new → IsTaleTold form (Ends ending) old new ending
    end_cut answered = inl (put.Failed, (subst (λ p. IsPutAnswered p put.Failed old new) is answered, refl))

    -- memory ran out for the put
    pub end_wanting : (last : SinkState) (after : Ending) → IsPutAnswered piece put.OutOfMemory old new → IsMemorySaid form new last after → IsTaleTold form (Ends ending) old last after
    end_wanting last after answered memory = inl (put.OutOfMemory, (new, subst (λ p. IsPutAnswered p put.OutOfMemory old new) is answered, memory))

  -- ---- what was found

  module _ (text : String Global) (is : piece ≡ string_bytes text) where
    pub found_told : IsPutAnswered piece put.Done old new → IsTaleTold form (Found text) old new (As Done)
    found_told answered = (put.Done, (subst (λ p. IsPutAnswered p put.Done old new) is answered, refl))

    pub found_cut : IsPutAnswered piece put.Failed old new → IsTaleTold form (Found text) old new (As (WriteFault Report))
    found_cut answered = (put.Failed, (subst (λ p. IsPutAnswered p put.Failed old new) is answered, refl))

    pub found_wanting : (last : SinkState) (after : Ending) → IsPutAnswered piece put.OutOfMemory old new → IsMemorySaid form new last after → IsTaleTold form (Found text) old last after
    found_wanting last after answered memory = (put.OutOfMemory, (new, subst (λ p. IsPutAnswered p put.OutOfMemory old new) is answered, memory))

-- Memory ran out before there was a line.
pub end_unsaid : (form : ReportForm) (ending after : Ending) (old new : SinkState) → IsMemorySaid form old new after → IsTaleTold form (Ends ending) old new after
end_unsaid form ending after old new memory = inr memory

-- ---- the form

-- what isn't to be quiet
pub aloud_end : (form : ReportForm) (ending after : Ending) (old new : SinkState) → (ending ≡ ClosedQuietly → ⊥) → IsTaleTold form (Ends ending) old new after → IsToldAloud form (Ends ending) old new after
aloud_end form (As status) after old new loud told = told
aloud_end form ListFault after old new loud told = told
aloud_end form Closed after old new loud told = told
aloud_end form ClosedQuietly after old new loud told = absurd (loud refl)

-- what isn't to be silent
pub form_told : (form : ReportForm) (tale : Tale) (ending : Ending) (old new : SinkState) → (form ≡ Text) ⊎ (form ≡ Json) → IsToldAloud form tale old new ending → IsTold form tale old new ending
form_told Text tale ending old new form told = told
form_told Json tale ending old new form told = told
form_told Silent tale ending old new (inl wrong) told = absurd cc
form_told Silent tale ending old new (inr wrong) told = absurd cc
