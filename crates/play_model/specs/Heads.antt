-- Public: what stands before the images of a play.
use Rattle.std.specs.Prelude.{ℕ, List, [], ◌∷◌}
use Rattle.ass_num.specs.declared.size.Size.{Size}
use Rattle.frame_rate.specs.declared.rate.FrameRate.{FrameRate}
use Rattle.play_model.specs.Images.{play_form}
use Rattle.play_model.specs.Plays.{PlayView}
use Rattle.run_words.specs.declared.job.ImageForm.{ImageForm}
use Rattle.run_words.specs.declared.job.ImageForm.TheVariants.{Image, Video}
use Rattle.y4m_text.specs.Streams.{stream_head}

-- the head of a video, at the rate of the instants as it was said; a step of s milliseconds is the rate of 1000 frames in s seconds
abbrev pub head_in : ImageForm → Size → FrameRate → List (List ℕ)
head_in (Image format) size rate = []
head_in (Video form) size rate = stream_head size rate.frames rate.seconds form ∷ []

abbrev pub play_head : PlayView → List (List ℕ)
play_head play = head_in (play_form play) play.job.size play.job.instants.rate
