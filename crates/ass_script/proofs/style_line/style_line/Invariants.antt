use Rattle.std.proofs.Common.{◌≡◌, ◌≤◌, length, drop}
use Rattle.std.specs.Str.Iter.{split_steps}
use Rattle.std.specs.Str.Pattern.{FindsChar}
use Rattle.ass_script.specs.Styles.{with_fields, style_of}
use Rattle.ass_script.specs.Ranges.{IsStyle}
use Rattle.ass_script.proofs.Yields.{Left}
use Rattle.ass_script.proofs.style_line.style_line.Given as goal

abbrev pub invariant-loop-piece : goal.invariant-loop-piece
invariant-loop-piece l = record {
  within : l.place ≤ length l.fields;
  sound : IsStyle l.style;
  pieces : Left (split_steps FindsChar (λ a b. b ≡ a)) (λ x. x.now) l.piece-iterator (λ rest. with_fields (drop l.place l.fields) rest l.style ≡ style_of l.fn.version l.fn.fields l.fn.value);
}
