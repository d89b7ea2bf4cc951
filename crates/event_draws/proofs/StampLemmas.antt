-- The masks of one more mark.
use Rattle.std.proofs.Common.{◌≡◌, sym, ap, ◌∙◌, ℕ, ◌+◌, ◌<◌, List, [], ◌∷◌, ◌++◌, length, map, filter, get_or, take}
use Rattle.std.proofs.lemmas.List.{map-append, take_more}
use Rattle.std.proofs.lemmas.List.Elements.{filter-append, filter_passes}
use Rattle.std.specs.List.{All}
use Rattle.event_draws.specs.Draws.{IsStampNear, is_near_stamp, stamp_of, stamps_of}
use Rattle.event_draws.specs.declared.draws.Making.{Making}
use Rattle.event_draws.specs.declared.draws.Stamp.{Stamp}
use Rattle.event_draws.specs.declared.marks.Mark.{Mark}
use Rattle.event_draws.specs.declared.stage.Stage.{Stage}

pub stamps_more : (stage : Stage) (making : Making) (marks : List Mark) (k : ℕ) (d : Mark) → k < length marks
    → stamps_of stage making (take (k + 1) marks) ≡ stamps_of stage making (take k marks) ++ stamps_of stage making (get_or marks k d ∷ [])
stamps_more stage making marks k d within =
    ap (stamps_of stage making) (take_more marks k d within)
    ∙ ap (filter (is_near_stamp stage)) (map-append (stamp_of stage making) (take k marks) (get_or marks k d ∷ []))
    ∙ filter-append (is_near_stamp stage) (map (stamp_of stage making) (take k marks)) (map (stamp_of stage making) (get_or marks k d ∷ []))

pub stamps_step : (stage : Stage) (making : Making) (marks : List Mark) (k : ℕ) (x : Mark) (before after : List Stamp) → k < length marks → x ≡ get_or marks k x
    → before ≡ stamps_of stage making (take k marks) → after ≡ before ++ stamps_of stage making (x ∷ []) → after ≡ stamps_of stage making (take (k + 1) marks)
stamps_step stage making marks k x before after within here was is =
    is ∙ ap (λ z. before ++ stamps_of stage making (z ∷ [])) here ∙ ap (λ z. z ++ stamps_of stage making (get_or marks k x ∷ [])) was ∙ sym (stamps_more stage making marks k x within)

-- All masks that are kept may reach the frame.
pub stamps_near : (stage : Stage) (making : Making) (marks : List Mark) → All (IsStampNear stage.size) (stamps_of stage making marks)
stamps_near stage making marks = filter_passes (is_near_stamp stage) (map (stamp_of stage making) marks)
