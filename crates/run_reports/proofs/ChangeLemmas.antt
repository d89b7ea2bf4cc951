-- From lines that are put one by one to what the report got.
use Rattle.std.proofs.Common.{◌≡◌, ◌⊎◌, ◌∙◌, inl, inr, ℕ, ◌+◌, ◌<◌, List, [], ◌∷◌, ◌++◌, Result, Ok, Err, IfOk, String, Global, string_bytes, refl, sym, subst}
use Rattle.ass_num.specs.declared.size.Size.{Size}
use Rattle.ass_num.specs.declared.memory.OutOfMemory.{OutOfMemory as NoMemory}
use Rattle.bdf_font.specs.Fonts.{FontValue}
use Rattle.ass_io.specs.Sinks.{SinkState}
use Rattle.ass_io.specs.declared.sink.Put.TheVariants as put
use Rattle.mask_keys.specs.declared.plans.Draw.{Draw}
use Rattle.play_rounds.proofs.Puts.{nothing_written, one_put, written_then}
use Rattle.run_status.specs.declared.ending.Ending.{Ending}
use Rattle.run_words.specs.declared.report_words.ReportForm.{ReportForm}
use Rattle.run_words.specs.declared.report_words.ReportForm.TheVariants.{Text, Json, Silent}
use Rattle.single_run.specs.ChangeReports.{IsChangeFound}
use Rattle.single_run.specs.declared.screen.ScreenChange.{ScreenChange}
use Rattle.run_reports.specs.ChangeStreams.{AreLinesPut, AreLinesUpTo, AreToldIn, ChangesView, GotFirstLines, GotLines, IsChangeLineIn, IsPlacePut, IsStreamed, NoneYet, OneMore, change_in}

-- before the first line
pub nothing_got : (changes : ChangesView) (draws : List Draw) (state : SinkState) → draws ≡ [] → (lines : List (List ℕ)) × AreLinesUpTo changes 0 draws lines × GotLines lines state state
nothing_got changes draws state none = ([], subst (λ (d : List Draw). AreLinesUpTo changes 0 d []) (sym none) NoneYet, (nothing_written state state state, refl))

-- all lines
pub all_got : (changes : ChangesView) (place : ℕ) (last : List Draw) (old new : SinkState) → place ≡ changes.instants.count →
    (lines : List (List ℕ)) × AreLinesUpTo changes place last lines × GotLines lines old new → AreLinesPut changes put.Done old new
all_got changes place last old new all (lines, are, got) =
    subst (λ (n : ℕ). GotFirstLines changes n old new) all (record { last = last; lines = lines; are = are; got = got })

module _ (changes : ChangesView) (place : ℕ) (before now : List Draw) (old middle new : SinkState) where
  -- a line more
  pub next_got : (lines : List (List ℕ)) × AreLinesUpTo changes place before lines × GotLines lines old middle → IsPlacePut changes place before now put.Done middle new →
      (lines : List (List ℕ)) × AreLinesUpTo changes (place + 1) now lines × GotLines lines old new
  next_got (lines, are, got) (inl (wrong, same)) = absurd cc
  next_got (lines, are, got) (inr (line, draws, is, answered)) = (
    lines ++ line ∷ [],
    OneMore place before now lines line are draws is,
    (written_then old middle new lines (line ∷ []) got.0 (one_put put.Done line middle new answered), answered.made ∙ got.1),
  )

  -- a line that wasn't put whole
  pub next_failed : place < changes.instants.count → (lines : List (List ℕ)) × AreLinesUpTo changes place before lines × GotLines lines old middle →
      IsPlacePut changes place before now put.Failed middle new → AreLinesPut changes put.Failed old new
  next_failed within (lines, are, got) (inl (wrong, same)) = absurd cc
  next_failed within (lines, are, got) (inr (line, draws, is, answered)) =
      (place, within, record { now = now; lines = lines; line = line; middle = middle; are = OneMore place before now lines line are draws is; got = got; answered = answered })

  -- a line for which memory ran out
  pub next_wanting : place < changes.instants.count → (lines : List (List ℕ)) × AreLinesUpTo changes place before lines × GotLines lines old middle →
      IsPlacePut changes place before now put.OutOfMemory middle new → AreLinesPut changes put.OutOfMemory old new
  next_wanting within (lines, are, got) (inl (is, same)) =
      inr (inl (place, within, record { last = before; lines = lines; are = are; got = subst (GotLines lines old) (sym same) got }))
  next_wanting within (lines, are, got) (inr (line, draws, is, answered)) =
      inr (inr (place, within, record { now = now; lines = lines; line = line; middle = middle; are = OneMore place before now lines line are draws is; got = got; answered = answered }))

-- ---- the line on an instant

-- what changes, by the values that are equal
pub found_as : (fonts fonts' : List FontValue) (size size' : Size) (before now now' : List Draw) (change : ScreenChange) → IsChangeFound fonts size before now change → fonts ≡ fonts' → size ≡ size' →
    now' ≡ now → IsChangeFound fonts' size' before now' change
found_as fonts fonts' size size' before now now' change found e f d =
    subst (λ (draws : List Draw). IsChangeFound fonts' size' before draws change) (sym d)
    (subst (λ (s : Size). IsChangeFound fonts' s before now change) f (subst (λ (some : List FontValue). IsChangeFound some size before now change) e found))

pub line_told : (form : ReportForm) (fonts : List FontValue) (size : Size) (t : ℕ) (before now : List Draw) (change : ScreenChange) (line : Result (String Global) NoMemory) →
    IsChangeFound fonts size before now change → IfOk line (λ text. string_bytes text ≡ change_in form t change) → IfOk line (λ text. IsChangeLineIn form fonts size t before now (string_bytes text))
line_told form fonts size t before now change (Ok text) found is = (change, found, is)
line_told form fonts size t before now change (Err memory) found is = tt

-- ---- the form

pub stream_told : (form : ReportForm) (changes : ChangesView) (old new : SinkState) (ending : Ending) → (form ≡ Text) ⊎ (form ≡ Json) → IsStreamed changes old new ending →
    AreToldIn form changes old new ending
stream_told Text changes old new ending form told = told
stream_told Json changes old new ending form told = told
stream_told Silent changes old new ending (inl wrong) told = absurd cc
stream_told Silent changes old new ending (inr wrong) told = absurd cc
