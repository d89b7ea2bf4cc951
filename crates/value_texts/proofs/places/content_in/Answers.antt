use Rattle.std.proofs.Common.{◌∙◌}
use Rattle.value_texts.specs.Values.{pixel_in, rect_behind}
use Rattle.value_texts.proofs.TextLemmas.{cut_at_comma}
use Rattle.value_texts.proofs.places.content_in.Goals as goal

pub returns : goal.returns
returns c =
    c.rect_behind.ensures
    ∙ rw c.pixel_in.ensures
    (cut_at_comma (λ left rest. rect_behind (pixel_in left) rest) c.args.text.now c.split_once.result (c.in_ok-left.left, c.in_ok-left.rest) c.split_once.ensures.cases c.in_ok-left.was)
