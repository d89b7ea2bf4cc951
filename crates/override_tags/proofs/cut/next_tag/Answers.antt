use Rattle.std.proofs.Common.{lit<, None, Some, List, ℕ, length, take, drop, ap, sym, subst, ◌∙◌, arith}
use Rattle.std.proofs.lemmas.Str.Pattern.{strip_prefix_char}
use Rattle.override_tags.specs.Tags.{BeginsTag}
use Rattle.override_tags.proofs.CutLemmas.{begins_drop, begins_none}
use Rattle.override_tags.proofs.cut.next_tag.Goals as goal

pub returns-in-Some-clause-next : goal.returns-in-Some-clause-next
returns-in-Some-clause-next c =
    let rest = c.in-Some.rest.now in
    let spelled = strip_prefix_char 92 c.args.text.now (Some c.in-Some.rest) c.in-Some.ensures.cases (lit< tt) in
    let whole_len = ap length spelled in
    let P : List ℕ → Type 0 = BeginsTag in
    record {
      behind = rest;
      spelled = spelled;
      tag_is = c.split_at.ensures.front ∙ ap (λ z. take z rest) c.tag_len.ensures.len;
      rest_is = c.split_at.ensures.back ∙ ap (λ z. drop z rest) c.tag_len.ensures.len;
      len = c.split_at.ensures.front_len ∙ c.tag_len.ensures.len;
      shorter = omega (arith, c.split_at.ensures.front_len, c.split_at.ensures.back_len);
      begins = subst P (sym c.split_at.ensures.back) (begins_drop rest c.tag_len.result c.tag_len.ensures.stops);
    }

pub returns-in-None-clause-none : goal.returns-in-None-clause-none
returns-in-None-clause-none c = begins_none c.args.text.now c.requires (strip_prefix_char 92 c.args.text.now None c.in-None.ensures.cases (lit< tt))
