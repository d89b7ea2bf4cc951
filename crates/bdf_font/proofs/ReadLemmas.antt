-- From the reader's walk to what the format says.
use Rattle.std.proofs.Common.{◌≡◌, ◌≢◌, ◌⊎◌, inl, inr, ℕ, ◌+◌, List, ◌∷◌, Err, Result, ap, sym, ◌∙◌, subst}
use Rattle.bdf_font.specs.declared.cause.Stop.{Stop}
use Rattle.bdf_font.specs.declared.cause.Stop.TheVariants as stop
use Rattle.bdf_font.specs.declared.cause.FontRefusal.{FontRefusal}
use Rattle.bdf_font.specs.declared.cause.FontRefusal.TheVariants as refusal
use Rattle.bdf_font.specs.declared.reading.Reading.{Reading}
use Rattle.bdf_font.specs.Fonts.{FontValue}
use Rattle.bdf_font.specs.Grammar.{IsFontAnswer}
use Rattle.bdf_font.specs.Rows.{Gives, Next}
use Rattle.bdf_font.specs.Steps.{Answered, no_font_lines, reading_after}
use Rattle.bdf_font.proofs.Walk.{lines_read, after_line, read_line}
use Rattle.bdf_font.proofs.Answering.{one_answer, read_answer}

-- the walk goes on
pub read_on : (n : ℕ) (line : List ℕ) (lines : List (List ℕ)) (reading next : Reading) → reading_after line reading ≡ Next next → lines_read n (line ∷ lines) reading ≡ lines_read (n + 1) lines next
read_on n line lines reading next e = read_line n line lines reading ∙ ap (after_line n lines) e

-- The result is this answer, unless memory ran out.
abbrev pub OrMemory : Result FontValue FontRefusal → Result FontValue FontRefusal → Type 0
OrMemory result answer = (result ≡ answer) ⊎ (result ≡ Err refusal.OutOfMemory)

-- the walk stops
pub read_stops : (n : ℕ) (line : List ℕ) (lines : List (List ℕ)) (reading last : Reading) (why : Stop) (result : Result FontValue FontRefusal) →
    Gives (Err why) last (reading_after line reading) → Answered n why last result → OrMemory result (lines_read n (line ∷ lines) reading)
read_stops n line lines reading last stop.End result gives (inl e) = inl (e ∙ sym (read_line n line lines reading ∙ ap (after_line n lines) gives))
read_stops n line lines reading last stop.End result gives (inr e) = inr e
read_stops n line lines reading last (stop.Fault cause) result gives answered = inl (answered ∙ sym (read_line n line lines reading ∙ ap (after_line n lines) gives))
read_stops n line lines reading last stop.Full result gives answered = inl (answered ∙ sym (read_line n line lines reading ∙ ap (after_line n lines) gives))
read_stops n line lines reading last stop.OutOfMemory result gives answered = inr answered

pub answers : (lines : List (List ℕ)) (result read : Result FontValue FontRefusal) → read ≡ lines_read 1 lines no_font_lines → OrMemory result read → result ≢ Err refusal.OutOfMemory → IsFontAnswer lines result
answers lines result read e (inl r) other = subst (IsFontAnswer lines) (sym (r ∙ e)) (read_answer lines)
answers lines result read e (inr r) other = absurd (other r)

pub answers_only : (lines : List (List ℕ)) (result read : Result FontValue FontRefusal) → read ≡ lines_read 1 lines no_font_lines → OrMemory result read → (answer : Result FontValue FontRefusal) → IsFontAnswer lines answer → OrMemory result answer
answers_only lines result read e (inl r) answer is = inl (r ∙ (e ∙ one_answer lines answer is))
answers_only lines result read e (inr r) answer is = inr r
