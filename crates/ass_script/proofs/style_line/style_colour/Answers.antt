use Rattle.std.proofs.Common.{subst, List, ℕ, ◌≡◌}
use Rattle.ass_script.specs.Numbers.{style_colour_of}
use Rattle.ass_script.proofs.NumberReads.{style_colour_read}
use Rattle.ass_script.proofs.style_line.style_colour.Goals as goal

pub returns : goal.returns
returns c =
    subst (λ (t : List ℕ). c.read_style_colour.result ≡ style_colour_of t) c.as_bytes.ensures.value
    (style_colour_read c.as_bytes.result.now c.read_style_colour.result c.read_style_colour.ensures.some c.read_style_colour.ensures.none)
