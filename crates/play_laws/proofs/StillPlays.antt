-- A play of only what changes is expanded to the settled play of the same files.
use Rattle.std.proofs.Common.{◌≡◌, ◌∙◌, ℕ, ◌+◌, ◌*◌, ◌<◌, pos, List, [], ◌∷◌, ◌++◌, fold, length, map, append-nil, Result, Ok, Err, refl, sym, ap, subst, arith}
use Rattle.std.specs.Io.KnownBytes.{Appends}
use Rattle.std.specs.List.{flat_map, slice_index_or}
use Rattle.std.proofs.lemmas.List.{length-replicate}
use Rattle.alpha_canvas.specs.declared.pixel.AlphaForm.TheVariants.{Straight}
use Rattle.ass_events.specs.ScriptEvents.{line_events}
use Rattle.ass_io.specs.Fetched.{Told}
use Rattle.ass_num.specs.declared.size.Size.{Size}
use Rattle.ass_script.specs.Ranges.{IsScript}
use Rattle.bdf_font.specs.Fonts.{FontValue}
use Rattle.blend.specs.Blending.{by_number, tint_at}
use Rattle.blend.specs.Canvases.{CanvasValue, black}
use Rattle.blend.proofs.TintedLemmas.{length-tinted}
use Rattle.frame_rate.specs.Instants.{rated_instant}
use Rattle.frame_rate.specs.declared.instants.Instants.{Instants}
use Rattle.frame_view.specs.FrameViews.{plain_frame}
use Rattle.mask_keys.specs.declared.plans.Draw.{Draw}
use Rattle.mask_keys.specs.Pictures.{image_of_draw, picture, with_draw}
use Rattle.pam_text.specs.Pams.{pam_bytes}
use Rattle.ppm_text.specs.Images.{image_bytes}
use Rattle.play_command.specs.PlayRuns.{view_of}
use Rattle.play_laws.proofs.AgreementLemmas.{IsAt, Law, at_place}
use Rattle.play_laws.proofs.FormatLemmas.{rows_are}
use Rattle.play_laws.proofs.RunLemmas.{DoneRun, done_run, read_not_done, same_inputs}
use Rattle.play_laws.specs.StillPlays.{AreExpanded, AreMadeByParts, FirstPart, HasPut, IsExpandedTo, NextPart, NoParts, StillsAlike, StillsShowThePlay, image_in_time}
use Rattle.play_model.proofs.TimeLaws.{settled_image}
use Rattle.play_model.specs.Heads.{head_in, play_head}
use Rattle.play_model.specs.Images.{IsImageIn, play_form}
use Rattle.play_model.specs.Outputs.{IsShownPlay}
use Rattle.run_status.specs.Inputs.{AreRead}
use Rattle.run_status.specs.Laws.{AreTold, FilesDecide}
use Rattle.run_status.specs.declared.inputs.Inputs.{Inputs}
use Rattle.run_status.specs.declared.status.Status.{Status}
use Rattle.run_status.specs.declared.status.Status.TheVariants.{Done}
use Rattle.run_words.specs.Forms.{image_form}
use Rattle.run_words.specs.declared.job.FrameFormat.{FrameFormat}
use Rattle.run_words.specs.declared.job.FrameFormat.TheVariants.{Ppm, Pam, Rgba}
use Rattle.run_words.specs.declared.job.ImageForm.{ImageForm}
use Rattle.run_words.specs.declared.job.ImageForm.TheVariants as form
use Rattle.run_words.specs.declared.job.Mode.TheVariants.{Settled}
use Rattle.run_words.specs.declared.job.PlayFormat.{PlayFormat}
use Rattle.run_words.specs.declared.job.PlayJob.{PlayJob}
use Rattle.run_words.specs.declared.job.ScriptSource.{ScriptSource}
use Rattle.run_words.specs.declared.job.StillsJob.{StillsJob}
use Rattle.single_run.specs.Outcomes.{ArePiecesTold, IsReported}
use Rattle.single_run.specs.Outputs.{AreKeptOf, ArePiecesOf, IsAnswerOf, IsReportAsked, IsShownOf, kept_view, sink_of, status_asked}
use Rattle.single_run.specs.Runs.{SinkChange}
use Rattle.single_run.specs.declared.work.Task.{Task}
use Rattle.single_run.specs.declared.work.Task.TheVariants.{Stills}
use Rattle.single_run.proofs.StillLemmas.{wanted_done}
use Rattle.still_images.proofs.BoxLemmas.{whole_on_frame}
use Rattle.still_images.proofs.CropLemmas.{cropped_byte}
use Rattle.still_images.proofs.PixelLemmas.{alpha_size}
use Rattle.still_images.specs.Boxes.{HasPixels, cropped, whole_box}
use Rattle.still_images.specs.Formats.{ArePixelsOf, image_of_pixels, pixel_bytes}
use Rattle.still_images.specs.Laws.{CropsLieOver, IsLaidOver, StillsShowAll}
use Rattle.still_images.specs.Stills.{ArePixelsAt, AreStills, FirstStill, NextStill, NoStill, SameStill, Still, StillsView, index_text, still_images, still_of}

-- ---- how many bytes pixels have

canvas_long : (fonts : List FontValue) (canvas : CanvasValue) (draws : List Draw) → length (fold (with_draw fonts) canvas draws).bytes ≡ length canvas.bytes
canvas_long fonts canvas [] = refl
canvas_long fonts canvas (draw ∷ draws) =
    canvas_long fonts (with_draw fonts canvas draw) draws ∙ length-tinted (by_number canvas.w (tint_at (image_of_draw fonts draw))) 0 canvas.bytes

picture_long : (fonts : List FontValue) (size : Size) (draws : List Draw) → HasPixels 3 size (picture fonts size draws).bytes
picture_long fonts size draws = canvas_long fonts (black size.w size.h) draws ∙ length-replicate {A = ℕ} (3 * (size.w * size.h)) 0

have_pixels : (format : FrameFormat) (fonts : List FontValue) (size : Size) (draws : List Draw) (pixels : List ℕ) → ArePixelsOf format fonts size draws pixels → HasPixels (pixel_bytes format) size pixels
have_pixels Ppm fonts size draws pixels are = ap (λ (p : List ℕ). length p) are ∙ picture_long fonts size draws
have_pixels Pam fonts size draws pixels are = alpha_size (map (image_of_draw fonts) draws) size pixels are
have_pixels Rgba fonts size draws pixels are = alpha_size (map (image_of_draw fonts) draws) size pixels are

-- ---- parts

-- The whole frame is laid over anything.
whole_over : (depth : ℕ) (size : Size) (before now : List ℕ) → HasPixels depth size now → IsLaidOver depth size (whole_box size) (cropped depth size.w (whole_box size) now) before now
whole_over depth size before now counted i j k wide high few = (
  λ inside. cropped_byte depth size (whole_box size) now counted (whole_on_frame size) i j k few inside.left inside.right inside.top inside.bottom,
  λ outside. absurd (outside (record { left = omega arith; right = wide; top = omega arith; bottom = high })),
)

parts_make : CropsLieOver → (view : StillsView) (count : ℕ) (kept : List Still) → AreStills view count kept → AreMadeByParts view kept
parts_make crops view _ _ NoStill = NoParts
parts_make crops view _ _ (FirstStill pixels at) =
    FirstPart (still_of 0 (whole_box view.job.size) pixels)
    (whole_over (pixel_bytes view.job.format) view.job.size [] pixels (have_pixels view.job.format view.fonts view.job.size at.draws pixels at.are_pixels))
parts_make crops view _ _ (SameStill place before last old at) = parts_make crops view place (before ++ last ∷ []) old
parts_make crops view _ _ (NextStill place before last box pixels old at least) =
    NextPart before last (still_of place box pixels) (parts_make crops view place (before ++ last ∷ []) old)
    (crops (pixel_bytes view.job.format) view.job.size box last.pixels pixels (have_pixels view.job.format view.fonts view.job.size at.draws pixels at.are_pixels) least)

-- ---- one image

-- Pixels of draws make the image of these.
pixels_make_image : (format : FrameFormat) (fonts : List FontValue) (size : Size) (draws : List Draw) (t n : ℕ) (pixels bytes : List ℕ) → ArePixelsOf format fonts size draws pixels
    → IsImageIn (form.Image format) fonts size draws (pos t) n bytes → bytes ≡ image_of_pixels format size pixels t n
pixels_make_image Ppm fonts size draws t n pixels bytes are is = is ∙ ap (λ (p : List ℕ). image_bytes size.w size.h p (pos t) n) (sym are)
pixels_make_image Pam fonts size draws t n pixels bytes are (other, rows, value) =
    let images = map (image_of_draw fonts) draws in
    value ∙ ap (λ (p : List ℕ). pam_bytes size.w size.h p (pos t) n) (rows_are Straight images size.w size.h other rows ∙ sym (rows_are Straight images size.w size.h pixels are))
pixels_make_image Rgba fonts size draws t n pixels bytes are rows =
    let images = map (image_of_draw fonts) draws in
    rows_are Straight images size.w size.h bytes rows ∙ sym (rows_are Straight images size.w size.h pixels are)

module _ (law : Law) (stills : StillsJob) (play : PlayJob) (inputs : Inputs) (alike : StillsAlike stills play) where
  abbrev view : StillsView
  view = kept_view stills inputs

  same_count : stills.instants.count ≡ play.instants.count
  same_count = ap (λ (instants : Instants). instants.count) alike.instants

  same_form : play_form (view_of play inputs) ≡ form.Image stills.format
  same_form = ap (λ (f : PlayFormat). image_form f inputs.script.header.matrix) alike.format

  -- Nothing stands before the images.
  no_head : play_head (view_of play inputs) ≡ []
  no_head = ap (λ (f : ImageForm). head_in f play.size play.instants.rate) same_form

  -- the image that a play has at a place, by the job of kept pictures
  moved : (q i : ℕ) (bytes : List ℕ) → IsAt inputs.script inputs.fonts play.size (play_form (view_of play inputs)) (pos (rated_instant play.instants i)) q bytes
      → IsAt inputs.script inputs.fonts stills.size (form.Image stills.format) (pos (rated_instant stills.instants i)) q bytes
  moved q i bytes h =
      subst (λ (z : Size). IsAt inputs.script inputs.fonts z (form.Image stills.format) (pos (rated_instant stills.instants i)) q bytes) (sym alike.size)
      (subst (λ (f : ImageForm). IsAt inputs.script inputs.fonts play.size f (pos (rated_instant stills.instants i)) q bytes) same_form
      (subst (λ (instants : Instants). IsAt inputs.script inputs.fonts play.size (play_form (view_of play inputs)) (pos (rated_instant instants i)) q bytes) (sym alike.instants) h))

  -- It is that of the pixels there.
  image_there : (q i : ℕ) (pixels bytes : List ℕ) → IsScript inputs.script → ArePixelsAt view i pixels
      → IsAt inputs.script inputs.fonts stills.size (form.Image stills.format) (pos (rated_instant stills.instants i)) q bytes → bytes ≡ image_in_time view q i pixels
  image_there q i pixels bytes sound at (draws, are, is) =
      let t : ℕ = rated_instant stills.instants i in
      let n : ℕ = q * (length (line_events inputs.script) + 1) + length (line_events inputs.script) in
      let same : draws ≡ at.draws = law inputs.script inputs.fonts sound (line_events inputs.script) (pos t) (plain_frame stills.size) draws at.draws are at.are_draws in
      pixels_make_image stills.format inputs.fonts stills.size at.draws t n pixels bytes at.are_pixels
      (subst (λ (d : List Draw). IsImageIn (form.Image stills.format) inputs.fonts stills.size d (pos t) n bytes) same is)

-- ---- the runs

-- what a run of only what changes that is done has put
record PutStills (stills : StillsJob) (frames report : SinkChange) (inputs : Inputs) : Type 0 where
  kept : List Still
  are : AreStills (kept_view stills inputs) stills.instants.count kept
  put : HasPut (still_images (kept_view stills inputs) kept) frames
  told : HasPut (index_text (kept_view stills inputs) kept ∷ []) report

module _ (told : List ℕ → Told) (script : ScriptSource) (fonts : List (List ℕ)) (stills : StillsJob) (frames report : SinkChange) where
  abbrev IsReadAndPut : Type 0
  IsReadAndPut = (inputs : Inputs) × AreRead told script fonts (Ok inputs) × PutStills stills frames report inputs

  put_stills : (reading : Result Inputs Status) (kept : List Still) → AreRead told script fonts reading → IsAnswerOf (Stills stills) (status_asked (Stills stills) reading) Done
      → AreKeptOf (Stills stills) reading Done kept → IsShownOf (Stills stills) reading kept Done frames.before.held frames.now.held
      → ArePiecesOf (Stills stills) reading kept Done frames.before.asked frames.now.asked
      → IsReported Done report.before.held report.now.held report.before.faults report.now.faults (IsReportAsked (Stills stills) reading kept)
      → ArePiecesTold (sink_of (Stills stills)) Done (IsReportAsked (Stills stills) reading kept) report.before.asked report.now.asked → IsReadAndPut
  put_stills (Ok inputs) kept read answered are shown pieces (text, is, got, same) (piece, piece_is, asked) =
      let index : List ℕ = index_text (kept_view stills inputs) kept in (
        inputs,
        read,
        record {
          kept = kept;
          are = are;
          put = record { held = shown; asked = pieces };
          told = record {
            held = subst (λ (bytes : List ℕ). Appends report.before.held report.now.held bytes) (is.1 ∙ sym (append-nil index)) got;
            asked = asked ∙ ap (λ (t : List ℕ). report.before.asked ++ t ∷ []) piece_is.1;
          };
        },
      )
  put_stills (Err why) kept read answered are shown pieces reported asked =
      absurd (read_not_done told script fonts (subst (λ (status : Status). AreRead told script fonts (Err status)) (wanted_done why answered) read))

  module _ (law : Law) (decide : FilesDecide) (shows : StillsShowAll) (crops : CropsLieOver) (known : AreTold told script fonts)
      (play : PlayJob) (alike : StillsAlike stills play) (settled : play.mode ≡ Settled) (more said : SinkChange)
      (one : IsReadAndPut) (other : DoneRun told script fonts play more said) where
    abbrev inputs : Inputs
    inputs = other.inputs

    same : one.0 ≡ inputs
    same = same_inputs told script fonts law decide known one.0 inputs one.1 other.read

    one_put : PutStills stills frames report inputs
    one_put = subst (PutStills stills frames report) same one.2

    abbrev shown : IsShownPlay (view_of play inputs) ((other.put).2).output.whole.times ((other.put).2).shown
    shown = ((other.put).2).output.whole.shown

    image_at : (q i : ℕ) (d : List ℕ) (pixels : List ℕ) → q < play.times → i < play.instants.count → ArePixelsAt (kept_view stills inputs) i pixels
        → slice_index_or shown.images (q * play.instants.count + i) d ≡ image_in_time (kept_view stills inputs) q i pixels
    image_at q i d pixels few lt at =
        let bytes : List ℕ = slice_index_or shown.images (q * play.instants.count + i) d in
        let image = settled_image (view_of play inputs) ((other.put).2).output.whole.times ((other.put).2).shown other.playable settled shown q i d lt few in
        image_there law stills play inputs alike q i pixels bytes other.playable.script at (moved law stills play inputs alike q i bytes (at_place (view_of play inputs) q i bytes image))

    expanded : AreExpanded (kept_view stills inputs) one_put.kept play.times shown.images
    expanded =
        let count : stills.instants.count ≡ play.instants.count = same_count law stills play inputs alike in
        record {
          all = shown.all ∙ ap (λ (c : ℕ). play.times * c) (sym count);
          each = λ q i d few lt.
              let found = shows (kept_view stills inputs) stills.instants.count one_put.kept one_put.are i lt in (
                found.0,
                found.1,
                subst (λ (c : ℕ). slice_index_or shown.images (q * c + i) d ≡ image_in_time (kept_view stills inputs) q i (found.0).pixels) (sym count)
                    (image_at q i d (found.0).pixels few (subst (λ (c : ℕ). i < c) count lt) found.2),
              );
        }

    played : HasPut shown.images more
    played =
        let none : play_head (view_of play inputs) ≡ [] = no_head law stills play inputs alike in
        let bare : (other.put).0 ≡ ((other.put).2).shown = ((other.put).2).value ∙ ap (λ (head : List (List ℕ)). flat_map (λ piece. piece) head ++ ((other.put).2).shown) none in
        record {
          held = subst (λ (bytes : List ℕ). Appends more.before.held more.now.held bytes) (bare ∙ shown.value) (other.put).3;
          asked = (other.put).6 ∙ ap (λ (head : List (List ℕ)). more.before.asked ++ (head ++ shown.images)) none;
        }

    both_show : IsExpandedTo (kept_view stills inputs) play.times frames report more
    both_show = record {
      kept = one_put.kept;
      are = one_put.are;
      put = one_put.put;
      told = one_put.told;
      parts = parts_make crops (kept_view stills inputs) stills.instants.count one_put.kept one_put.are;
      images = shown.images;
      expanded = expanded;
      played = played;
    }

pub stills_show_the_play : Law → FilesDecide → StillsShowAll → CropsLieOver → StillsShowThePlay
stills_show_the_play law decide shows crops told log other_log work stills play frames report more said known is alike settled run other =
    let reading = run.reading in
    let kept = run.kept in
    let one = put_stills told work.script work.fonts stills frames report reading kept run.read
    (subst (λ (task : Task). IsAnswerOf task (status_asked task reading) Done) is run.answered)
    (subst (λ (task : Task). AreKeptOf task reading Done kept) is run.are_kept)
    (subst (λ (task : Task). IsShownOf task reading kept Done frames.before.held frames.now.held) is run.shown)
    (subst (λ (task : Task). ArePiecesOf task reading kept Done frames.before.asked frames.now.asked) is run.pieces_shown)
    (subst (λ (task : Task). IsReported Done report.before.held report.now.held report.before.faults report.now.faults (IsReportAsked task reading kept)) is run.reported)
    (subst (λ (task : Task). ArePiecesTold (sink_of task) Done (IsReportAsked task reading kept) report.before.asked report.now.asked) is run.pieces_told) in
    let done = done_run told work.script work.fonts play other.reading more said other.read other.asked in
    (done.inputs, done.read, both_show told work.script work.fonts stills frames report law decide shows crops known play alike settled more said one done)
