-- Images of the same picture are the same bytes.
use Rattle.std.proofs.Common.{◌≡◌, ◌∙◌, ℕ, zero, suc, ◌+◌, ◌*◌, ◌/◌, ◌%◌, ◌<◌, ℤ, List, length, Result, Ok, Err, inl, inr, ap, refl, sym, subst, arith}
use Rattle.std.specs.List.{flat_map, slice_index_or}
use Rattle.std.proofs.lemmas.List.{same_lists}
use Rattle.std.proofs.Math.Nat.{lt_of_mul-lt-mul_right}
use Rattle.std.proofs.lemmas.Nat.{div-add-mod', mod_below}
use Rattle.ass_events.specs.Histories.{Entry}
use Rattle.ass_num.specs.declared.size.Size.{Size}
use Rattle.ass_script.specs.Ranges.{IsScript}
use Rattle.ass_script.specs.Scripts.{ScriptValue}
use Rattle.bdf_font.specs.Fonts.{FontValue}
use Rattle.mask_keys.specs.declared.plans.Draw.{Draw}
use Rattle.picture_laws.specs.OnePicture.{HaveOneListOfDraws}
use Rattle.frame_view.specs.FrameViews.{plain_frame}
use Rattle.picture_plan.specs.Pictures.{AreDraws}
use Rattle.run_status.specs.Laws.{IsReadDecided}
use Rattle.play_command.proofs.RunLemmas.{reading_one}
use Rattle.play_command.specs.PlayRuns.{play_head_bytes}
use Rattle.play_command.specs.SelftestRuns.{IsSelftestRead, IsSelftestReport, IsSelftestText, image_count, selftest_play}
use Rattle.play_laws.proofs.FormatLemmas.{formatted, image_formatted}
use Rattle.play_laws.specs.Agreement.{PlayAlike}
use Rattle.play_model.proofs.TimeLaws.{settled_image}
use Rattle.play_model.specs.Heads.{head_in}
use Rattle.play_model.specs.Images.{IsImageIn, IsSettledImage, play_form}
use Rattle.play_model.specs.Outputs.{IsShownPlay}
use Rattle.play_model.specs.Plays.{IsPlayable, PlayView}
use Rattle.play_report.specs.Digests.{digest_after}
use Rattle.play_report.specs.Reports.{summary_text}
use Rattle.play_shares.specs.Instants.{frame_count, instant_count, play_instant}
use Rattle.run_words.specs.Forms.{image_form}
use Rattle.run_words.specs.declared.job.ImageForm.{ImageForm}
use Rattle.run_words.specs.declared.job.PlayFormat.{PlayFormat}
use Rattle.run_words.specs.declared.job.Mode.TheVariants.{Settled}
use Rattle.run_status.specs.declared.status.Status.{Status}
use Rattle.ass_events.specs.ScriptEvents.{line_events}

abbrev pub Law : Type 0
Law = (script : ScriptValue) (fonts : List FontValue) → IsScript script → HaveOneListOfDraws script fonts

-- The bytes are the image of what all events of a script show, in a form.
abbrev pub IsAt : ScriptValue → List FontValue → Size → ImageForm → ℤ → ℕ → List ℕ → Type 0
IsAt script fonts size format t q bytes =
    (draws : List Draw) × AreDraws script fonts (line_events script) t (plain_frame size) draws
    × IsImageIn format fonts size draws t (q * (length (line_events script) + 1) + length (line_events script)) bytes

pub one_image : Law → (script : ScriptValue) (fonts : List FontValue) (size : Size) (format : ImageForm) (t : ℤ) (q : ℕ) (x y : List ℕ) → IsScript script
    → IsAt script fonts size format t q x → IsAt script fonts size format t q y → x ≡ y
one_image law script fonts size format t q x y sound (a, are, is) (b, too, also) =
    let n : ℕ = q * (length (line_events script) + 1) + length (line_events script) in
    image_formatted fonts size a t n format x is
    ∙ ap (λ (draws : List Draw). formatted fonts size draws t n format) (law script fonts sound (line_events script) t (plain_frame size) a b are too)
    ∙ sym (image_formatted fonts size b t n format y also)

pub at_place : (play : PlayView) (q i : ℕ) (bytes : List ℕ) → IsSettledImage play q i bytes → IsAt play.script play.fonts play.job.size (play_form play) (play_instant play.job i) q bytes
at_place play q i bytes h = (h.draws, h.are_draws, h.value)

module _ (one other : PlayView) (alike : PlayAlike one other) where
  pub same_count : instant_count one.job ≡ instant_count other.job
  same_count = rw alike.jobs.instants refl

  pub same_frames : frame_count one.job ≡ frame_count other.job
  same_frames = ap (λ t. t * instant_count one.job) alike.jobs.times ∙ ap (λ c. other.job.times * c) same_count

  same_instant : (i : ℕ) → play_instant one.job i ≡ play_instant other.job i
  same_instant i = rw alike.jobs.instants refl

  same_form : play_form one ≡ play_form other
  same_form = ap (λ (f : PlayFormat). image_form f one.script.header.matrix) alike.jobs.format ∙ ap (λ (s : ScriptValue). image_form other.job.format s.header.matrix) alike.script

  pub same_head : play_head_bytes one ≡ play_head_bytes other
  same_head = λ i. flat_map (λ piece. piece) (head_in (same_form i) (alike.jobs.size i) ((alike.jobs.instants i).rate))

  pub moved : (q i : ℕ) (bytes : List ℕ) → IsAt other.script other.fonts other.job.size (play_form other) (play_instant other.job i) q bytes
      → IsAt one.script one.fonts one.job.size (play_form one) (play_instant one.job i) q bytes
  moved q i bytes h =
      subst (λ (s : ScriptValue). IsAt s one.fonts one.job.size (play_form one) (play_instant one.job i) q bytes) (sym alike.script)
      (subst (λ (f : List FontValue). IsAt other.script f one.job.size (play_form one) (play_instant one.job i) q bytes) (sym alike.fonts)
      (subst (λ (z : Size). IsAt other.script other.fonts z (play_form one) (play_instant one.job i) q bytes) (sym alike.jobs.size)
      (subst (λ (f : ImageForm). IsAt other.script other.fonts other.job.size f (play_instant one.job i) q bytes) (sym same_form)
      (subst (λ (t : ℤ). IsAt other.script other.fonts other.job.size (play_form other) t q bytes) (sym (same_instant i)) h))))

pub positive : (t n k : ℕ) → k < t * n → 0 < n
positive t zero k lt = absurd (omega (arith, lt))
positive t (suc n) k lt = omega arith

module _ (law : Law) (one other : PlayView) (times more : List (List Entry)) (a b : List ℕ) (playable : IsPlayable one) (fits : IsPlayable other) (alike : PlayAlike one other)
    (settled : one.job.mode ≡ Settled) (too : other.job.mode ≡ Settled) (shown : IsShownPlay one times a) (seen : IsShownPlay other more b) where
  abbrev count : ℕ
  count = instant_count one.job

  image_at : (q i k : ℕ) (d : List ℕ) → q * count + i ≡ k → i < count → q < one.job.times → slice_index_or shown.images k d ≡ slice_index_or seen.images k d
  image_at q i k d split small few =
      let same = same_count one other alike in
      let place : q * instant_count other.job + i ≡ k = ap (λ c. q * c + i) (sym same) ∙ split in
      let x = subst (λ p. IsSettledImage one q i (slice_index_or shown.images p d)) split (settled_image one times a playable settled shown q i d small few) in
      let y = subst (λ p. IsSettledImage other q i (slice_index_or seen.images p d)) place
      (settled_image other more b fits too seen q i d (subst (λ c. i < c) same small) (subst (λ t. q < t) alike.jobs.times few)) in
      one_image law one.script one.fonts one.job.size (play_form one) (play_instant one.job i) q _ _ playable.script (at_place one q i _ x) (moved one other alike q i _ (at_place other q i _ y))

  image_of : (k : ℕ) (d : List ℕ) → k < frame_count one.job → slice_index_or shown.images k d ≡ slice_index_or seen.images k d
  image_of k d lt =
      let split : k / count * count + k % count ≡ k = div-add-mod' k count in
      image_at (k / count) (k % count) k d split (mod_below k count (positive one.job.times count k lt))
      (lt_of_mul-lt-mul_right count {m = k / count} {n = one.job.times} (omega (arith, split, lt)))

  all_images : shown.images ≡ seen.images
  all_images = same_lists shown.images seen.images (shown.all ∙ same_frames one other alike ∙ sym seen.all) (λ k d lt. image_of k d (subst (λ n. k < n) shown.all lt))

  pub plays_agree : a ≡ b
  plays_agree = shown.value ∙ ap (λ images. flat_map (λ (image : List ℕ). image) images) all_images ∙ sym seen.value

module _ (law : Law) (script : ScriptValue) (seed events : ℕ) (a b : List ℕ) (one : IsSelftestText script seed events a) (other : IsSelftestText script seed events b) where
  abbrev play : PlayView
  play = selftest_play script events 1

  piece_of : (i : ℕ) (d : List ℕ) → i < image_count → slice_index_or one.pieces i d ≡ slice_index_or other.pieces i d
  piece_of i d lt =
      one_image law script play.fonts play.job.size (play_form play) (play_instant play.job i) 0 _ _ one.sound (at_place play 0 i _ (one.each i d lt)) (at_place play 0 i _ (other.each i d lt))

  all_pieces : one.pieces ≡ other.pieces
  all_pieces = same_lists one.pieces other.pieces (one.many ∙ sym other.many) (λ k d lt. piece_of k d (subst (λ n. k < n) one.many lt))

  texts_agree : a ≡ b
  texts_agree =
      one.value
      ∙ ap (λ pieces. summary_text seed events (length (line_events script)) image_count (digest_after 0 (flat_map (λ (piece : List ℕ). piece) pieces))) all_pieces
      ∙ sym other.value

reports_same : Law → (seed events : ℕ) (reading : Result ScriptValue Status) (a b : List ℕ) → IsSelftestReport seed events reading a → IsSelftestReport seed events reading b → a ≡ b
reports_same law seed events (Ok script) a b one other = texts_agree law script seed events a b one other
reports_same law seed events (Err why) a b one other = one ∙ sym other

pub reports_agree : Law → (seed events : ℕ) (one other : Result ScriptValue Status) (a b : List ℕ) → IsSelftestRead seed events one → IsSelftestRead seed events other →
    IsReadDecided one → IsReadDecided other → IsSelftestReport seed events one a → IsSelftestReport seed events other b → a ≡ b
reports_agree law seed events one other a b reads too decided sure said says = elim (reading_one seed events one other sure reads too) [
  | inl same ↦ reports_same law seed events other a b (subst (λ (r : Result ScriptValue Status). IsSelftestReport seed events r a) same said) says
  | inr memory ↦ absurd (subst (λ (r : Result ScriptValue Status). IsReadDecided r) memory decided)
]
