use Rattle.std.proofs.Common.{◌≡◌, Some, None, sym, ap, ◌∙◌}
use Rattle.font_bytes.specs.Bytes.{u8_at}
use Rattle.cff_font.specs.declared.tokens.Token.TheVariants.{Number, Operator}
use Rattle.cff_font.specs.Machines.{charstring_token}
use Rattle.cff_font.proofs.Turns.{blank-broken, blank-behind_end, blank-number, blank-operator, blank-spent}
use Rattle.cff_font.proofs.blanks.is_blank_body.Goals as goal

pub returns-then-body-at : goal.returns-then-body-at
returns-then-body-at c = sym (blank-behind_end c.args.bytes.now c.args.body.to c.loop-k._k c.loop-k.at c.loop-k-test.true c.if-body-at.true) ∙ c.loop-k.invariant

pub returns-in-Some-Operator : goal.returns-in-Some-Operator
returns-in-Some-Operator c =
    let found = c.in-Some-Operator in
    let here : Some (Operator found.code found.field-0-1) ≡ charstring_token c.args.bytes.now c.args.body.to c.loop-k.at (u8_at c.args.bytes.now c.loop-k.at) =
    ap Some (sym found.field-0-is) ∙ (found.ensures ∙ ap (charstring_token c.args.bytes.now c.args.body.to c.loop-k.at) c.u8_at.ensures) in
    sym (blank-operator c.args.bytes.now c.args.body.to c.loop-k._k c.loop-k.at found.code found.field-0-1 c.loop-k-test.true c.if-body-at.false here) ∙ c.loop-k.invariant

pub returns-in-None : goal.returns-in-None
returns-in-None c =
    let here : None ≡ charstring_token c.args.bytes.now c.args.body.to c.loop-k.at (u8_at c.args.bytes.now c.loop-k.at) =
    c.in-None.ensures ∙ ap (charstring_token c.args.bytes.now c.args.body.to c.loop-k.at) c.u8_at.ensures in
    sym (blank-broken c.args.bytes.now c.args.body.to c.loop-k._k c.loop-k.at c.loop-k-test.true c.if-body-at.false here) ∙ c.loop-k.invariant

pub loop-k-preserved : goal.loop-k-preserved
loop-k-preserved c =
    let found = c.in-Some-Number in
    let here : Some (Number found.field-0-0 found.behind) ≡ charstring_token c.args.bytes.now c.args.body.to c.loop-k.at (u8_at c.args.bytes.now c.loop-k.at) =
    ap Some (sym found.field-0-is) ∙ (found.ensures ∙ ap (charstring_token c.args.bytes.now c.args.body.to c.loop-k.at) c.u8_at.ensures) in
    sym (blank-number c.args.bytes.now c.args.body.to c.loop-k._k c.loop-k.at found.field-0-0 found.behind c.loop-k-test.true c.if-body-at.false here) ∙ c.loop-k.invariant

pub returns : goal.returns
returns c = sym (blank-spent c.args.bytes.now c.args.body.to c.loop-k._k c.loop-k.at c.loop-k-test.false) ∙ c.loop-k.invariant
