use Rattle.std.proofs.Common.{◌∙◌}
use Rattle.value_texts.specs.Values.{pixel_in, rect_at, size_in}
use Rattle.value_texts.proofs.TextLemmas.{cut_at_comma}
use Rattle.value_texts.proofs.places.rect_behind.Goals as goal

pub returns : goal.returns
returns c =
    c.rect_at.ensures
    ∙ rw (c.pixel_in.ensures, c.size_in.ensures)
    (cut_at_comma (λ top size. rect_at c.args.left (pixel_in top) (size_in size)) c.args.text.now c.split_once.result (c.in_ok-top.top, c.in_ok-top.size) c.split_once.ensures.cases c.in_ok-top.was)
