-- Behind the blanks a colour, where it begins as one, or else a decimal number.
use Rattle.std.proofs.Common.{sym, ◌∙◌}
use Rattle.std.proofs.lemmas.List.{take_rest}
use Rattle.ass_num.proofs.ColourFronts.{style_hex_none, style_decimal_none, style_hex_front, style_decimal_front}
use Rattle.ass_num.proofs.colour_codes.read_style_colour.Goals as goal

pub returns-in_err-colour_front-clause-none : goal.returns-in_err-colour_front-clause-none
returns-in_err-colour_front-clause-none c =
    let start = sym (simp take_rest at c.is_hex_start.ensures) ∙ c.if-is_hex_start.true in
    rw c.from_residual.ensures
    (style_hex_none c.args.text.now _ c.blanks_before.ensures.count start (simp take_rest at c.in_err-colour_front.ensures.none))

pub returns-in_err-colour-clause-none : goal.returns-in_err-colour-clause-none
returns-in_err-colour-clause-none c =
    let start = sym (simp take_rest at c.is_hex_start.ensures) ∙ c.if-is_hex_start.false in
    rw c.from_residual-in_err-colour.ensures
    (style_decimal_none c.args.text.now _ c.blanks_before.ensures.count start (simp take_rest at c.in_err-colour.ensures.none))

pub returns-in_ok-colour_front-clause-some : goal.returns-in_ok-colour_front-clause-some
returns-in_ok-colour_front-clause-some c =
    let start = sym (simp take_rest at c.is_hex_start.ensures) ∙ c.if-is_hex_start.true in
    style_hex_front c.args.text.now _ c.blanks_before.ensures.count start _ _ (simp take_rest at c.in_ok-colour_front.ensures.some)

pub returns-in_ok-colour-clause-some : goal.returns-in_ok-colour-clause-some
returns-in_ok-colour-clause-some c =
    let start = sym (simp take_rest at c.is_hex_start.ensures) ∙ c.if-is_hex_start.false in
    style_decimal_front c.args.text.now _ c.blanks_before.ensures.count start _ _ (simp take_rest at c.in_ok-colour.ensures.some)
