use Rattle.std.proofs.Common.{◌≡◌, ◌+◌, ◌<◌, ℕ, List, lit<, drop, length, get_or, sym, ap, ◌∙◌, arith}
use Rattle.std.specs.List.{slice_split}
use Rattle.std.proofs.lemmas.Iterator.Splits.{YieldsList-from_str_split}
use Rattle.ass_num.specs.Blanks.{trimmed}
use Rattle.ass_script.specs.Words.{is_comma}
use Rattle.ass_script.specs.Styles.{with_fields, with_field, style_of}
use Rattle.ass_script.specs.declared.style_field.StyleField.TheVariants as StyleField
use Rattle.ass_script.proofs.Yields.{next_left, none_left}
use Rattle.ass_script.proofs.StyleLemmas.{fields_on, fields_end}
use Rattle.ass_script.proofs.style_line.style_line.Goals as goal

pub loop-piece-init : goal.loop-piece-init
loop-piece-init c = record {
  within = omega arith;
  sound = c.in_ok-style.ensures.range;
  pieces =
      let given = YieldsList-from_str_split {s = c.split-piece-items.result} 44 c.args.value.now (lit< tt) c.split-piece-items.ensures.text c.split-piece-items.ensures.has_more c.split-piece-items.ensures.pattern in
      record {
        rest = slice_split is_comma c.args.value.now;
        yields = rw c.into_iter-piece-iterator.ensures.into_iter_gives given.runs;
        does = ap (λ s. with_fields c.args.fields.now (slice_split is_comma c.args.value.now) s) c.in_ok-style.ensures.style;
      };
}

pub loop-piece-preserved : goal.loop-piece-preserved
loop-piece-preserved c = record {
  within = omega arith;
  sound = c.in_ok-put.ensures.range;
  pieces =
      let fields = c.args.fields.now in
      let place = c.loop-piece.place in
      let style = c.loop-piece.style in
      let piece = c.in-Some.piece.now in
      let wanted = style_of c.args.version fields c.args.value.now in
      let inside : place < length fields = omega arith in
      let put : c.put.new.self ≡ with_field (get_or fields place StyleField.Name) (trimmed piece) style = c.in_ok-put.ensures.value ∙ ap (λ (t : List ℕ). with_field (get_or fields place StyleField.Name) t style) c.trimmed.ensures in
      next_left _ _ (λ rest. with_fields (drop place fields) rest style ≡ wanted) (λ rest. with_fields (drop (place + 1) fields) rest c.put.new.self ≡ wanted) _ _ c.in-Some.piece
      (λ rest does. ap (λ s. with_fields (drop (place + 1) fields) rest s) put ∙ (sym (fields_on fields place StyleField.Name piece rest style inside) ∙ does))
      c.loop-piece.invariant.pieces c.in-Some.ensures.steps;
}

pub returns-clause-style : goal.returns-clause-style
returns-clause-style c =
    let left = none_left _ _ _ _ _ c.loop-piece.invariant.pieces c.in-None.ensures.steps in
    sym (fields_end (drop c.loop-piece.place c.args.fields.now) c.loop-piece.style) ∙ left
