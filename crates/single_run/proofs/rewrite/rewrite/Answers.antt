use Rattle.std.proofs.Common.{◌∙◌, ℕ, Vec, Global, Ok, inl, refl, ap, sym}
use Rattle.single_run.specs.Outputs.{rewritten}
use Rattle.single_run.proofs.RewriteLemmas.{said_refusal, said_text}
use Rattle.run_status.specs.declared.status.Which.TheVariants.{Frames}
use Rattle.single_run.proofs.PieceLemmas.{pieces_more}
use Rattle.single_run.proofs.Runs.{keeps, shown_more, shown_nothing}
use Rattle.single_run.proofs.rewrite.rewrite.Goals as goal

pub returns-in-Ok-clause-answered : goal.returns-in-Ok-clause-answered
returns-in-Ok-clause-answered g c = said_text _ _ _ c.in-Ok.ensures c.show.ensures.answered

pub returns-in-Ok-clause-shown : goal.returns-in-Ok-clause-shown
returns-in-Ok-clause-shown g c =
    shown_more c.show.result _ _ _ _ (λ bytes is. c.in-Ok.ensures ∙ ap Ok (sym (is ∙ c.as_slice.ensures.value))) c.show.ensures.shown

pub returns-in-Err-Unwritable-clause-answered : goal.returns-in-Err-Unwritable-clause-answered
returns-in-Err-Unwritable-clause-answered g c =
    let why = c.in-Err-Unwritable in
    said_refusal (λ (text : Vec ℕ Global). text.items) (rewritten c.args.write.now c.args.script.now) why.field-0 why.order why.field why.field-0-is why.ensures

pub returns-in-Err-Unwritable-clause-shown : goal.returns-in-Err-Unwritable-clause-shown
returns-in-Err-Unwritable-clause-shown g c = keeps _

pub returns-in-Err-OutOfMemory-clause-shown : goal.returns-in-Err-OutOfMemory-clause-shown
returns-in-Err-OutOfMemory-clause-shown g c = shown_nothing _ _

pub returns-in-Ok-clause-pieces : goal.returns-in-Ok-clause-pieces
returns-in-Ok-clause-pieces g c =
    pieces_more Frames c.show.result _ _ _ _ (λ bytes is. c.in-Ok.ensures ∙ ap Ok (sym (is ∙ c.as_slice.ensures.value))) c.show.ensures.pieces

pub returns-in-Err-Unwritable-clause-pieces : goal.returns-in-Err-Unwritable-clause-pieces
returns-in-Err-Unwritable-clause-pieces g c = refl

pub returns-in-Err-OutOfMemory-clause-pieces : goal.returns-in-Err-OutOfMemory-clause-pieces
returns-in-Err-OutOfMemory-clause-pieces g c = inl refl
