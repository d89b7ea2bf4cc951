-- Runs of plays: over right files they are done, and settled ones over the same files put the same bytes.
use Rattle.std.proofs.Common.{◌≡◌, ◌∙◌, inl, inr, refl, sym, ap, subst, arith, ℕ, ◌<◌, ◌≤◌, Bool, true, false, ◌&&◌, cond, le-ltb, nat_le, List, [], ◌∷◌, ◌++◌, length, Option, Some, None, Result, Ok, Err}
use Rattle.std.specs.Io.KnownBytes.{Appends}
use Rattle.ass_io.specs.Fetched.{Told}
use Rattle.ass_io.specs.Fetches.{FetchChange}
use Rattle.bdf_font.specs.Limits.{max_fonts}
use Rattle.single_run.specs.Outcomes.{IsOrMemory}
use Rattle.single_run.specs.Runs.{SinkChange}
use Rattle.run_status.specs.Inputs.{AreFilesRead, AreRead}
use Rattle.run_status.specs.Laws.{AreTold, FilesDecide}
use Rattle.run_status.specs.declared.inputs.Inputs.{Inputs}
use Rattle.play_command.specs.PlayRuns.{AreReadUnless, DecidesPlay, IsPlayAsked, IsPlayPut, IsPlayRead, IsPlayRun, has_too_many, play_head_bytes, play_refusal, view_of}
use Rattle.play_laws.proofs.AgreementLemmas.{Law, plays_agree, same_head}
use Rattle.play_laws.specs.Agreement.{JobsAlike, PlayAlike}
use Rattle.play_model.specs.Plays.{IsPlayable}
use Rattle.play_shares.specs.Instants.{frame_count}
use Rattle.play_shares.specs.Limits.{max_frames}
use Rattle.run_words.specs.declared.job.Mode.TheVariants.{Settled}
use Rattle.run_words.specs.declared.job.PlayJob.{PlayJob}
use Rattle.run_status.specs.declared.status.Status.{Status}
use Rattle.run_status.specs.declared.status.Status.TheVariants.{Done, TooLarge}
use Rattle.run_status.specs.declared.status.What.TheVariants.{Frames as images}
use Rattle.run_words.specs.declared.job.ScriptSource.{ScriptSource}

-- ---- files that are right

none_true : (b : Bool) → b && false ≡ false
none_true true = refl
none_true false = refl

few_images : (job : PlayJob) (fonts : List (List ℕ)) → frame_count job ≤ max_frames → has_too_many job fonts ≡ false
few_images job fonts few = ap (λ (b : Bool). nat_le (length fonts) max_fonts && b) (le-ltb max_frames (frame_count job) few) ∙ none_true (nat_le (length fonts) max_fonts)

not_refused : (job : PlayJob) (fonts : List (List ℕ)) → 0 < length fonts → frame_count job ≤ max_frames → play_refusal job fonts ≡ None
not_refused job [] some few = absurd (omega (arith, some))
not_refused job (font ∷ fonts) some few = ap (λ (b : Bool). cond b (Some (TooLarge images max_frames)) None) (few_images job (font ∷ fonts) few)

pub play_done : (told : List ℕ → Told) (job : PlayJob) (script : ScriptSource) (fonts : List (List ℕ)) (inputs : Inputs) (status : Status)
    → AreTold told script fonts → AreFilesRead told script fonts (Ok inputs) → 0 < length fonts → length fonts ≤ max_fonts → frame_count job ≤ max_frames
    → DecidesPlay told job script fonts status → IsOrMemory Done status
play_done told job script fonts inputs status known read some fits few decides =
    decides (Ok inputs) known (subst (λ (refusal : Option Status). AreReadUnless refusal told script fonts (Ok inputs)) (sym (not_refused job fonts some few)) (inl (fits, read))) tt

-- ---- no file is refused with `Done`

limit_not_done : (b : Bool) → cond b (Some (TooLarge images max_frames)) None ≡ Some Done → ⊥
limit_not_done true e = cc
limit_not_done false e = cc

refusal_not_done : (job : PlayJob) (fonts : List (List ℕ)) → play_refusal job fonts ≡ Some Done → ⊥
refusal_not_done job [] e = cc
refusal_not_done job (font ∷ fonts) e = limit_not_done (has_too_many job (font ∷ fonts)) e

abbrev refused_in : Result Inputs Status → Option Status
refused_in (Ok inputs) = None
refused_in (Err why) = Some why

module _ (told : List ℕ → Told) (script : ScriptSource) (fonts : List (List ℕ)) where
  pub read_not_done : AreRead told script fonts (Err Done) → ⊥
  read_not_done (inr (many, e)) = cc
  read_not_done (inl (few, inl asked)) = asked
  read_not_done (inl (few, inr (read, is, inl failed))) = failed.3 []
  read_not_done (inl (few, inr (read, is, inr (files, are, many, e)))) = cc

  unless_not_done : (refusal : Option Status) → (refusal ≡ Some Done → ⊥) → AreReadUnless refusal told script fonts (Err Done) → ⊥
  unless_not_done (Some why) not read = not (ap refused_in (sym read))
  unless_not_done None not read = read_not_done read

  pub unrefused : (refusal : Option Status) (inputs : Inputs) → AreReadUnless refusal told script fonts (Ok inputs) → AreRead told script fonts (Ok inputs)
  unrefused (Some why) inputs read = absurd cc
  unrefused None inputs read = read

  refused_not_done : (job : PlayJob) (why : Status) → IsPlayRead told job script fonts (Err why) → IsOrMemory why Done → ⊥
  refused_not_done job why read (inl is) =
      unless_not_done (play_refusal job fonts) (refusal_not_done job fonts) (subst (λ (w : Status). AreReadUnless (play_refusal job fonts) told script fonts (Err w)) (sym is) read)
  refused_not_done job why read (inr memory) = cc

  -- what a run that is done has read and put
  pub record DoneRun (job : PlayJob) (frames report : SinkChange) : Type 0 where
    pub inputs : Inputs
    pub read : AreRead told script fonts (Ok inputs)
    pub playable : IsPlayable (view_of job inputs)
    pub put : IsPlayPut (view_of job inputs) frames report Done

  pub done_run : (job : PlayJob) (reading : Result Inputs Status) (frames report : SinkChange) → IsPlayRead told job script fonts reading → IsPlayAsked job reading frames report Done → DoneRun job frames report
  done_run job (Ok inputs) frames report read asked = record { inputs = inputs; read = unrefused (play_refusal job fonts) inputs read; playable = asked.0; put = asked.1 }
  done_run job (Err why) frames report read asked = absurd (refused_not_done job why read asked.0)

  -- ---- two runs

  abbrev inputs_in : Inputs → Result Inputs Status → Inputs
  inputs_in other (Ok inputs) = inputs
  inputs_in other (Err why) = other

  module _ (law : Law) (decide : FilesDecide) (known : AreTold told script fonts) where
    pub same_inputs : (a b : Inputs) → AreRead told script fonts (Ok a) → AreRead told script fonts (Ok b) → a ≡ b
    same_inputs a b read too = ap (inputs_in a) (decide told script fonts (Ok a) (Ok b) known tt tt read too)

    module _ (one other : PlayJob) (frames report more said : SinkChange) (alike : JobsAlike one other) (settled : one.mode ≡ Settled) (too : other.mode ≡ Settled)
        (x : DoneRun one frames report) (y : DoneRun other more said) where
      same : x.inputs ≡ y.inputs
      same = same_inputs x.inputs y.inputs x.read y.read

      both : PlayAlike (view_of one x.inputs) (view_of other y.inputs)
      both = record { script = ap (λ (i : Inputs). i.script) same; fonts = ap (λ (i : Inputs). i.fonts) same; jobs = alike }

      same_shown : ((x.put).2).shown ≡ ((y.put).2).shown
      same_shown =
          plays_agree law (view_of one x.inputs) (view_of other y.inputs) ((x.put).2).output.whole.times ((y.put).2).output.whole.times ((x.put).2).shown ((y.put).2).shown x.playable y.playable
          both settled too ((x.put).2).output.whole.shown ((y.put).2).output.whole.shown

      same_bytes : (x.put).0 ≡ (y.put).0
      same_bytes =
          ((x.put).2).value ∙ ap (λ head. head ++ ((x.put).2).shown) (same_head (view_of one x.inputs) (view_of other y.inputs) both)
          ∙ ap (λ shown. play_head_bytes (view_of other y.inputs) ++ shown) same_shown ∙ sym ((y.put).2).value

      both_got : (bytes : List ℕ) × Appends frames.before.held frames.now.held bytes × Appends more.before.held more.now.held bytes
      both_got = ((x.put).0, (x.put).3, subst (λ (bytes : List ℕ). Appends more.before.held more.now.held bytes) (sym same_bytes) (y.put).3)

    pub runs_agree : (one_log other_log : FetchChange) (one other : PlayJob) (frames report more said : SinkChange) → JobsAlike one other → one.mode ≡ Settled → other.mode ≡ Settled
        → IsPlayRun told one_log one script fonts frames report Done → IsPlayRun told other_log other script fonts more said Done
        → (bytes : List ℕ) × Appends frames.before.held frames.now.held bytes × Appends more.before.held more.now.held bytes
    runs_agree one_log other_log one other frames report more said alike settled too first second =
        both_got one other frames report more said alike settled too
        (done_run one first.reading frames report first.read first.asked) (done_run other second.reading more said second.read second.asked)
