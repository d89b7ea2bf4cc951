use Rattle.std.proofs.Common.{◌≡◌, ◌++◌, List, pos, reverse, to_z-of_z}
use Rattle.std.specs.Option.{option_map, option_or}
use Rattle.tag_state.specs.Setters.{Effect, effects_of_tag}
use Rattle.tag_state.specs.Choices.{point_said, fade_said, clip_at}
use Rattle.tag_state.proofs.ChoiceLemmas.{said_more}
use Rattle.tag_state.proofs.choices.Said.hear.Goals as goal

pub returns : goal.returns
returns c = λ items i kind so_far.
    let point : c.first_point-self.result ≡ option_or c.args.self.now.pos (point_said c.args.duration c.args.elapsed c.args.tag.now) =
    rw (to_z-of_z c.ranges.duration, to_z-of_z c.ranges.elapsed) at c.first_point-self.ensures in
    let fade : option_map (λ fade. pos fade) c.first_fade-self.result ≡ option_or (option_map (λ fade. pos fade) c.args.self.now.fade) (fade_said c.args.duration c.args.elapsed c.args.tag.now) =
    rw (to_z-of_z c.ranges.duration, to_z-of_z c.ranges.elapsed) at c.first_fade-self.ensures in
    let clip : (before : List Effect) → c.args.self.now.clip ≡ clip_at c.args.header.now before → c.set_clip.new.clip ≡ clip_at c.args.header.now (reverse (effects_of_tag c.args.duration c.args.elapsed c.args.tag.now) ++ before) =
    λ before is. rw (to_z-of_z c.ranges.duration, to_z-of_z c.ranges.elapsed) at (c.in_ok-set_clip.ensures before is) in
    said_more c.args.header.now c.args.duration c.args.elapsed items i c.args.tag.now c.args.self.now _ kind so_far c.first_align-self.ensures point c.first_origin-self.ensures fade c.last_wrap-self.ensures clip
