use Rattle.std.proofs.Common.{◌≡◌, [], get_or, true, false, Bool, List, ℕ, ap, ap₂, sym, ◌∙◌, arith, ◌||◌}
use Rattle.std.specs.List.{list_any}
use Rattle.std.proofs.lemmas.List.{take_all}
use Rattle.std.proofs.lemmas.List.Folds.{list_any_at, list_any_more}
use Rattle.ass_num.specs.Names.{same_name}
use Rattle.bdf_font.proofs.font.is_among.Goals as goal

pub loop-k-preserved : goal.loop-k-preserved
loop-k-preserved c =
    let test : List ℕ → Bool = λ own. same_name own c.args.name.now in
    let here : test (get_or c.args.names.now c.loop-k.k []) ≡ false = ap test (sym c.get.ensures) ∙ (sym c.same_name.ensures ∙ c.if-same_name.false) in
    list_any_more test c.args.names.now c.loop-k.k [] (omega arith) ∙ ap₂ (λ a b. a || b) c.loop-k.invariant here

pub returns-then-same_name : goal.returns-then-same_name
returns-then-same_name c =
    let test : List ℕ → Bool = λ own. same_name own c.args.name.now in
    let here : test (get_or c.args.names.now c.loop-k.k []) ≡ true = ap test (sym c.get.ensures) ∙ (sym c.same_name.ensures ∙ c.if-same_name.true) in
    sym (list_any_at test c.args.names.now c.loop-k.k [] (omega arith) here)

pub returns : goal.returns
returns c =
    let test : List ℕ → Bool = λ own. same_name own c.args.name.now in
    sym (ap (list_any test) (sym (take_all c.loop-k.k c.args.names.now (omega arith))) ∙ c.loop-k.invariant)
