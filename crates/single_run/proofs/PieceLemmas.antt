-- What the sinks were asked to put, from an outcome to the end of a run.
use Rattle.std.proofs.Common.{◌≡◌, ◌⊎◌, inl, inr, ℕ, List, [], ◌∷◌, ◌++◌, Bool, true, false, cond, Option, Some, None, Result, Ok, Err, refl, sym, subst, string_bytes}
use Rattle.run_status.specs.Statuses.{status_line}
use Rattle.run_words.specs.declared.job.Job.{Job}
use Rattle.run_words.specs.declared.job.Job.TheVariants as job
use Rattle.run_words.specs.declared.job.WordsFault.{WordsFault}
use Rattle.run_status.specs.declared.status.Status.{Status}
use Rattle.run_status.specs.declared.status.Status.TheVariants as status
use Rattle.run_status.specs.declared.status.What.TheVariants.{Frames as images}
use Rattle.run_status.specs.declared.status.Which.{Which}
use Rattle.run_status.specs.declared.status.Which.TheVariants.{Frames, Report}
use Rattle.single_run.specs.Outcomes.{AreAllShown, ArePiecesFinished, ArePiecesShown, ArePiecesTold, AreSomeShown, AreSomeTold, IsEnded, IsOrMemory, IsTextOrLine, SuitsSink, memory_line, status_if_put, text_to_report}
use Rattle.single_run.specs.StillOutputs.{SuitsStills}
use Rattle.single_run.specs.Works.{is_too_long, limited_in, max_frames, work_in, work_of}
use Rattle.single_run.specs.declared.outcome.Outcome.{Outcome}
use Rattle.single_run.specs.declared.outcome.Outcome.TheVariants.{Ended, Found}
use Rattle.single_run.specs.declared.work.Work.{Work}
use Rattle.single_run.proofs.Ends.{ended}

-- The line of the status can be told at the end of a task for a sink.
abbrev pub IsTellable : Which → Status → Type 0
IsTellable Report status.Done = ⊥
IsTellable sink (status.WriteFault Report) = ⊥
IsTellable sink _ = Unit {0}

suits_tellable : (sink : Which) (why : Status) → SuitsSink sink (Ended why) → IsTellable sink why
suits_tellable Report status.Done own = own
suits_tellable Frames status.Done own = tt
suits_tellable Report (status.WriteFault Report) own = own
suits_tellable Frames (status.WriteFault Report) own = own
suits_tellable Report (status.WriteFault Frames) own = tt
suits_tellable Frames (status.WriteFault Frames) own = tt
suits_tellable Report (status.NoSuchFile name) own = tt
suits_tellable Frames (status.NoSuchFile name) own = tt
suits_tellable Report (status.ReadFault name) own = tt
suits_tellable Frames (status.ReadFault name) own = tt
suits_tellable Report (status.BadScript cause) own = tt
suits_tellable Frames (status.BadScript cause) own = tt
suits_tellable Report (status.BadFont index fault) own = tt
suits_tellable Frames (status.BadFont index fault) own = tt
suits_tellable Report (status.TooLarge what limit) own = tt
suits_tellable Frames (status.TooLarge what limit) own = tt
suits_tellable Report status.OutOfMemory own = tt
suits_tellable Frames status.OutOfMemory own = tt
suits_tellable Report (status.BadWords why) own = tt
suits_tellable Frames (status.BadWords why) own = tt
suits_tellable Report (status.Unwritable order field) own = tt
suits_tellable Frames (status.Unwritable order field) own = tt

pub stills_tellable : (why : Status) → SuitsStills (Ended why) → IsTellable Report why
stills_tellable status.Done own = own
stills_tellable (status.NoSuchFile name) own = tt
stills_tellable (status.ReadFault name) own = tt
stills_tellable (status.BadScript cause) own = tt
stills_tellable (status.BadFont index fault) own = tt
stills_tellable (status.WriteFault Frames) own = tt
stills_tellable (status.WriteFault Report) own = own
stills_tellable (status.TooLarge what limit) own = tt
stills_tellable status.OutOfMemory own = tt
stills_tellable (status.BadWords why) own = tt
stills_tellable (status.Unwritable order field) own = tt

module _ (may : List ℕ → Type 0) (old new : List (List ℕ)) where
  some_unshown : (sink : Which) → new ≡ old → AreSomeShown sink may old new
  some_unshown Report h = h
  some_unshown Frames h = inl h

  some_of_all : (sink : Which) → AreAllShown sink may old new → AreSomeShown sink may old new
  some_of_all Report h = h
  some_of_all Frames h = inr h

  some_shown : (sink : Which) (answer : Status) → SuitsSink sink (Ended answer) → ArePiecesShown sink answer may old new → AreSomeShown sink may old new
  some_shown sink status.Done own h = some_of_all sink h
  some_shown sink (status.NoSuchFile name) own h = some_unshown sink h
  some_shown sink (status.ReadFault name) own h = some_unshown sink h
  some_shown sink (status.BadScript cause) own h = some_unshown sink h
  some_shown sink (status.BadFont index fault) own h = some_unshown sink h
  some_shown Report (status.WriteFault Frames) own h = absurd own
  some_shown Frames (status.WriteFault Frames) own h = inr h
  some_shown sink (status.WriteFault Report) own h = some_unshown sink h
  some_shown sink (status.TooLarge what limit) own h = some_unshown sink h
  some_shown sink status.OutOfMemory own h = h
  some_shown sink (status.BadWords why) own h = some_unshown sink h
  some_shown sink (status.Unwritable order field) own h = some_unshown sink h

  -- The frames sink isn't asked again at the end.
  pub pieces_after : (sink : Which) (outcome : Outcome) (answer : Status) → SuitsSink sink outcome → IsEnded outcome answer →
      ArePiecesShown sink (status_if_put outcome) may old new → ArePiecesShown sink answer may old new
  pieces_after sink (Ended s) answer own e h = elim (ended s answer e) [
    | inl same ↦ subst (λ s. ArePiecesShown sink s may old new) (sym same) h
    | inr memory ↦ subst (λ s. ArePiecesShown sink s may old new) (sym memory) (some_shown sink s own h)
  ]
  pieces_after Frames (Found text) answer own e h = absurd own
  pieces_after Report (Found text) answer own (inl (inl done)) h = subst (λ s. ArePiecesShown Report s may old new) (sym done) h
  pieces_after Report (Found text) answer own (inl (inr memory)) h = subst (λ s. ArePiecesShown Report s may old new) (sym memory) h
  pieces_after Report (Found text) answer own (inr fault) h = subst (λ s. ArePiecesShown Report s may old new) (sym fault) h

  -- What is put where memory runs out comes behind a line or a text.
  pub some_told : (piece : List ℕ) → IsTextOrLine may piece → (new ≡ old ++ memory_line ∷ []) ⊎ (new ≡ old ++ piece ∷ memory_line ∷ []) → AreSomeTold may old new
  some_told piece is (inl h) = inl h
  some_told piece is (inr h) = inr (piece, is, h)

  pub told_line : (why : Status) → (new ≡ old ++ memory_line ∷ []) ⊎ (new ≡ old ++ status_line why ∷ memory_line ∷ []) → AreSomeTold may old new
  told_line why h = some_told (status_line why) (inr (why, refl)) h

  told_by_line : (sink : Which) (why answer : Status) →
      (ArePiecesFinished (Ended why) why old new → ArePiecesTold sink why may old new) →
      (ArePiecesFinished (Ended why) status.OutOfMemory old new → AreSomeTold may old new) →
      IsOrMemory why answer → ArePiecesFinished (Ended why) answer old new → ArePiecesTold sink answer may old new
  told_by_line sink why answer same wants (inl e) h =
      subst (λ s. ArePiecesTold sink s may old new) (sym e) (same (subst (λ s. ArePiecesFinished (Ended why) s old new) e h))
  told_by_line sink why answer same wants (inr e) h =
      subst (λ s. ArePiecesTold sink s may old new) (sym e) (wants (subst (λ s. ArePiecesFinished (Ended why) s old new) e h))

  pub ended_told : (sink : Which) (why answer : Status) → IsTellable sink why → IsEnded (Ended why) answer → ArePiecesFinished (Ended why) answer old new →
      ArePiecesTold sink answer may old new
  ended_told Report status.Done answer own e h = absurd own
  ended_told Frames status.Done answer own e h = subst (λ s. ArePiecesTold Frames s may old new) (sym e) h
  ended_told sink (status.NoSuchFile name) answer own e h = told_by_line sink (status.NoSuchFile name) answer (λ p. p) (told_line (status.NoSuchFile name)) e h
  ended_told sink (status.ReadFault name) answer own e h = told_by_line sink (status.ReadFault name) answer (λ p. p) (told_line (status.ReadFault name)) e h
  ended_told sink (status.BadScript cause) answer own e h = told_by_line sink (status.BadScript cause) answer (λ p. p) (told_line (status.BadScript cause)) e h
  ended_told sink (status.BadFont index fault) answer own e h = told_by_line sink (status.BadFont index fault) answer (λ p. p) (told_line (status.BadFont index fault)) e h
  ended_told sink (status.WriteFault Frames) answer own e h = told_by_line sink (status.WriteFault Frames) answer (λ p. p) (told_line (status.WriteFault Frames)) e h
  ended_told Report (status.WriteFault Report) answer own e h = absurd own
  ended_told Frames (status.WriteFault Report) answer own e h = absurd own
  ended_told sink (status.TooLarge what limit) answer own e h = told_by_line sink (status.TooLarge what limit) answer (λ p. p) (told_line (status.TooLarge what limit)) e h
  ended_told sink status.OutOfMemory answer own e h = told_by_line sink status.OutOfMemory answer (λ p. inl p) (λ p. inl p) e h
  ended_told sink (status.BadWords why) answer own e h = told_by_line sink (status.BadWords why) answer (λ p. p) (told_line (status.BadWords why)) e h
  ended_told sink (status.Unwritable order field) answer own e h = told_by_line sink (status.Unwritable order field) answer (λ p. p) (told_line (status.Unwritable order field)) e h

  -- What is reported is put once.
  pub told_after : (sink : Which) (outcome : Outcome) (answer : Status) → (status_if_put outcome ≡ status.Done → may (text_to_report outcome)) → SuitsSink sink outcome → IsEnded outcome answer →
      ArePiecesFinished outcome answer old new → ArePiecesTold sink answer may old new
  told_after sink (Ended why) answer said own e h = ended_told sink why answer (suits_tellable sink why own) e h
  told_after Frames (Found text) answer said own e h = absurd own
  told_after Report (Found text) answer said own (inl (inl done)) h =
      subst (λ s. ArePiecesTold Report s may old new) (sym done) (string_bytes text, said refl, subst (λ s. ArePiecesFinished (Found text) s old new) done h)
  told_after Report (Found text) answer said own (inl (inr memory)) h =
      subst (λ s. ArePiecesTold Report s may old new) (sym memory) (some_told (string_bytes text) (inl (said refl)) (subst (λ s. ArePiecesFinished (Found text) s old new) memory h))
  told_after Report (Found text) answer said own (inr fault) h =
      subst (λ s. ArePiecesTold Report s may old new) (sym fault) (string_bytes text, said refl, subst (λ s. ArePiecesFinished (Found text) s old new) fault h)

-- What is shown of pieces that may be shown is so of all that may be.
pub pieces_more : (sink : Which) (answer : Status) (may more : List ℕ → Type 0) (old new : List (List ℕ)) → ((bytes : List ℕ) → may bytes → more bytes) → ArePiecesShown sink answer may old new →
    ArePiecesShown sink answer more old new
pieces_more Frames status.Done may more old new each h = (h.0, each h.0 h.1, h.2)
pieces_more Report status.Done may more old new each h = h
pieces_more sink (status.NoSuchFile name) may more old new each h = h
pieces_more sink (status.ReadFault name) may more old new each h = h
pieces_more sink (status.BadScript cause) may more old new each h = h
pieces_more sink (status.BadFont index fault) may more old new each h = h
pieces_more sink (status.WriteFault Frames) may more old new each h = (h.0, each h.0 h.1, h.2)
pieces_more sink (status.WriteFault Report) may more old new each h = h
pieces_more sink (status.TooLarge what limit) may more old new each h = h
pieces_more Report status.OutOfMemory may more old new each h = h
pieces_more Frames status.OutOfMemory may more old new each (inl h) = inl h
pieces_more Frames status.OutOfMemory may more old new each (inr h) = inr (h.0, each h.0 h.1, h.2)
pieces_more sink (status.BadWords why) may more old new each h = h
pieces_more sink (status.Unwritable order field) may more old new each h = h

-- A task for the report shows nothing.
pub none_shown : (outcome : Outcome) (may : List ℕ → Type 0) (asked : List (List ℕ)) → SuitsSink Report outcome → ArePiecesShown Report (status_if_put outcome) may asked asked
none_shown (Found text) may asked own = refl
none_shown (Ended status.Done) may asked own = absurd own
none_shown (Ended (status.NoSuchFile name)) may asked own = refl
none_shown (Ended (status.ReadFault name)) may asked own = refl
none_shown (Ended (status.BadScript cause)) may asked own = refl
none_shown (Ended (status.BadFont index fault)) may asked own = refl
none_shown (Ended (status.WriteFault Frames)) may asked own = absurd own
none_shown (Ended (status.WriteFault Report)) may asked own = absurd own
none_shown (Ended (status.TooLarge what limit)) may asked own = refl
none_shown (Ended status.OutOfMemory) may asked own = refl
none_shown (Ended (status.BadWords why)) may asked own = refl
none_shown (Ended (status.Unwritable order field)) may asked own = refl

-- ---- words that ask for no work

limited_not_done : (b : Bool) (work : Work) → cond b (Err (status.TooLarge images max_frames)) (Ok (Some work)) ≡ Err status.Done → ⊥
limited_not_done true work e = cc
limited_not_done false work e = cc

in_not_done : (work : Option Work) → limited_in work ≡ Err status.Done → ⊥
in_not_done None e = cc
in_not_done (Some work) e = limited_not_done (is_too_long work) work e

-- No words ask for `Done` alone.
pub not_done : (reading : Result Job WordsFault) → work_in reading ≡ Err status.Done → ⊥
not_done (Err fault) e = cc
not_done (Ok (job.Play play script fonts)) e = cc
not_done (Ok (job.Selftest seed events workers)) e = cc
not_done (Ok job.Help) e = cc
not_done (Ok job.Version) e = cc
not_done (Ok (job.Stills stills script fonts)) e = in_not_done (work_of (job.Stills stills script fonts)) e
not_done (Ok (job.Check script fonts)) e = in_not_done (work_of (job.Check script fonts)) e
not_done (Ok (job.Frame frame script fonts)) e = in_not_done (work_of (job.Frame frame script fonts)) e
not_done (Ok (job.Changes changes script fonts)) e = in_not_done (work_of (job.Changes changes script fonts)) e
not_done (Ok (job.Write later earlier script)) e = in_not_done (work_of (job.Write later earlier script)) e

memory_put : (why : Status) (old new : List (List ℕ)) → (why ≡ status.Done → ⊥) → new ≡ old ++ memory_line ∷ [] → ArePiecesFinished (Ended why) status.OutOfMemory old new
memory_put status.Done old new none h = absurd (none refl)
memory_put (status.NoSuchFile name) old new none h = inl h
memory_put (status.ReadFault name) old new none h = inl h
memory_put (status.BadScript cause) old new none h = inl h
memory_put (status.BadFont index fault) old new none h = inl h
memory_put (status.WriteFault which) old new none h = inl h
memory_put (status.TooLarge what limit) old new none h = inl h
memory_put status.OutOfMemory old new none h = h
memory_put (status.BadWords fault) old new none h = inl h
memory_put (status.Unwritable order field) old new none h = inl h

pub memory_either : (answer : Status) → IsOrMemory status.OutOfMemory answer → answer ≡ status.OutOfMemory
memory_either answer (inl memory) = memory
memory_either answer (inr memory) = memory

-- The line of such words is put as theirs, or as that of out of memory.
pub other_pieces_after : (why : Status) (outcome : Outcome) (answer : Status) (old new : List (List ℕ)) → (why ≡ status.Done → ⊥) → (outcome ≡ Ended why) ⊎ (outcome ≡ Ended status.OutOfMemory) →
    IsEnded outcome answer → ArePiecesFinished outcome answer old new → ArePiecesFinished (Ended why) answer old new
other_pieces_after why outcome answer old new none (inl is) e h = subst (λ (o : Outcome). ArePiecesFinished o answer old new) is h
other_pieces_after why outcome answer old new none (inr is) e h =
    let memory : answer ≡ status.OutOfMemory = memory_either answer (subst (λ (o : Outcome). IsEnded o answer) is e) in
    let put : new ≡ old ++ memory_line ∷ [] = subst (λ (o : Outcome). ArePiecesFinished o answer old new) is h in
    subst (λ (s : Status). ArePiecesFinished (Ended why) s old new) (sym memory) (memory_put why old new none put)
