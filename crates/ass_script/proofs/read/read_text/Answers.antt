use Rattle.std.proofs.Common.{◌≡◌, sym, ap, ◌∙◌, subst}
use Rattle.std.specs.Prelude.{Result}
use Rattle.std.specs.Str.Lines.{lines}
use Rattle.std.proofs.lemmas.Iterator.Splits.{YieldsList-from_lines}
use Rattle.ass_script.specs.Words.{past_mark}
use Rattle.ass_script.specs.Scripts.{ScriptValue, IsScriptAnswer}
use Rattle.ass_script.specs.Walk.{walked, no_script_lines, made_script}
use Rattle.ass_script.specs.declared.refusal.ScriptRefusal.{ScriptRefusal}
use Rattle.ass_script.proofs.Refusals.{script_of_utf8}
use Rattle.ass_script.proofs.Yields.{next_left, none_left}
use Rattle.ass_script.proofs.WalkLemmas.{read_is, walk_on, walk_end}
use Rattle.ass_script.proofs.read.read_text.Goals as goal

pub loop-line-init : goal.loop-line-init
loop-line-init c =
    let text = past_mark c.args.text.now in
    let given = YieldsList-from_lines {s = c.lines-line-items.result} text (c.lines-line-items.ensures.rest ∙ c.past_mark.ensures) in
    record {
      sound = c.new-reading.ensures.sound;
      read = record {
        rest = lines text;
        yields = rw c.into_iter-line-iterator.ensures.into_iter_gives given.runs;
        does = ap (λ r. walked (lines text) r) c.new-reading.ensures.new;
      };
    }

pub loop-line-preserved : goal.loop-line-preserved
loop-line-preserved c =
    let wanted = walked (lines (past_mark c.args.text.now)) no_script_lines in
    record {
      sound = c.in_ok-line.ensures.sound;
      read = next_left _ _ (λ rest. walked rest c.loop-line.reading ≡ wanted) (λ rest. walked rest c.line.new.self ≡ wanted) _ _ c.in-Some.line
          (λ rest does. walk_on c.in-Some.line.now rest c.loop-line.reading c.line.new.self wanted c.in_ok-line.ensures.read does)
          c.loop-line.invariant.read c.in-Some.ensures.steps;
    }

pub returns-clause-answer : goal.returns-clause-answer
returns-clause-answer c =
    let bytes = c.args.text.now in
    let all = lines (past_mark bytes) in
    let left = walk_end c.loop-line.reading (walked all no_script_lines) (none_left _ _ _ _ _ c.loop-line.invariant.read c.in-None.ensures.steps) in
    let whole = script_of_utf8 bytes c.utf8.text in
    subst (λ (w : Result ScriptValue ScriptRefusal). IsScriptAnswer c.made.result w) (ap made_script left ∙ (read_is all ∙ sym whole)) c.made.ensures.answer
