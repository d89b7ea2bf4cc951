use Rattle.std.proofs.Common.{subst, sym}
use Rattle.tag_arguments.specs.declared.kinds.TagName.{TagName}
use Rattle.override_tags.specs.Singles.{ReadsSingle}
use Rattle.override_tags.proofs.single.read_single.Goals as goal

pub returns-in-Number : goal.returns-in-Number
returns-in-Number c =
    let P : TagName → Type 0 = λ z. ReadsSingle z c.args.rest.now c.number_tag.result in
    subst P (sym c.in-Number.is) (c.read_number.result, rw c.plain_argument-argument.ensures at c.read_number.ensures, c.number_tag.ensures)

pub returns-in-Size : goal.returns-in-Size
returns-in-Size c =
    let P : TagName → Type 0 = λ z. ReadsSingle z c.args.rest.now c.number_tag-in-Size.result in
    subst P (sym c.in-Size.is) (c.read_unsigned.result, rw c.plain_argument-argument.ensures at c.read_unsigned.ensures, c.number_tag-in-Size.ensures)

pub returns-in-Wrap : goal.returns-in-Wrap
returns-in-Wrap c =
    let P : TagName → Type 0 = λ z. ReadsSingle z c.args.rest.now c.wrap_tag.result in
    subst P (sym c.in-Wrap.is) (c.read_number-in-Wrap.result, rw c.plain_argument-argument.ensures at c.read_number-in-Wrap.ensures, c.wrap_tag.ensures)

pub returns-in-Colour : goal.returns-in-Colour
returns-in-Colour c =
    let P : TagName → Type 0 = λ z. ReadsSingle z c.args.rest.now c.colour_tag.result in
    subst P (sym c.in-Colour.is) (c.read_colour_argument.result, rw c.plain_argument-argument.ensures at c.read_colour_argument.ensures, c.colour_tag.ensures)

pub returns-in-Alpha : goal.returns-in-Alpha
returns-in-Alpha c =
    let P : TagName → Type 0 = λ z. ReadsSingle z c.args.rest.now c.alpha_tag.result in
    subst P (sym c.in-Alpha.is) (c.read_alpha_argument.result, rw c.plain_argument-argument.ensures at c.read_alpha_argument.ensures, c.alpha_tag.ensures)
