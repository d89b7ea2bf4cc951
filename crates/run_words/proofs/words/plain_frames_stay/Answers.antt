use Rattle.std.proofs.Common.{◌≡◌, ◌∙◌, Bool, true, false, cond, is_some, refl}
use Rattle.frame_rate.specs.Instants.{counted_instants, instants_before}
use Rattle.frame_rate.specs.Rates.{step_rate}
use Rattle.frame_rate.specs.declared.instants.Instants.{Instants}
use Rattle.frame_rate.specs.declared.rate.FrameRate.{FrameRate}
use Rattle.run_words.specs.Asked.{PlainFormatsStay, PlainFramesStay, StepsStay, number_at, rate_at, text_at}
use Rattle.run_words.specs.declared.argument.Argument.TheVariants as argument
use Rattle.run_words.proofs.words.plain_frames_stay.Goals as goal

stay : PlainFramesStay
stay rows content storage aspect letters scale = rw (content, storage, aspect, letters, scale) refl

formats_stay : PlainFormatsStay
formats_stay rows none = (rw none refl, rw none refl, rw none refl)

either_rate : (b : Bool) (one other : Instants) (rate : FrameRate) → one.rate ≡ rate → other.rate ≡ rate → (λ (i : Instants). i.rate) (cond b one other) ≡ rate
either_rate true one other rate h k = h
either_rate false one other rate h k = k

steps_stay : StepsStay
steps_stay rows none =
    let rate : rate_at rows ≡ step_rate (number_at rows argument.Step 1) = rw none refl in
    let from = number_at rows argument.From 0 in
    either_rate (is_some (text_at rows argument.Frames)) (counted_instants (rate_at rows) from (number_at rows argument.Frames 1)) (instants_before (rate_at rows) from (number_at rows argument.To 0))
    (rate_at rows) refl refl
    ∙ rate

pub returns : goal.returns
returns c = record { frames = stay; formats = formats_stay; steps = steps_stay }
