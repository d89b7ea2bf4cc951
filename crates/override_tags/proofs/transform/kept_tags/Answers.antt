use Rattle.std.proofs.Common.{[]}
use Rattle.override_tags.proofs.TransformLemmas.{kept_more, kept_joined, kept_none, kept_whole}
use Rattle.override_tags.proofs.transform.kept_tags.Goals as goal

pub loop-text-preserved : goal.loop-text-preserved
loop-text-preserved c = record {
  before = λ tail kept. kept_joined c.args.text.now c.loop-text.tags c.push_kept.new.tags tail c.in_ok-tag.tag c.in_ok-push_kept.ensures
      (c.loop-text.invariant.before _ (kept_more c.loop-text.rest.now c.in-Some.text.now c.in-Some.others.now c.in_ok-tag.tag tail c.in-Some.ensures.next c.in_ok-tag.ensures kept));
  begins = c.in-Some.ensures.next.begins;
  utf8 = c.in-Some.ensures.text;
}

pub returns : goal.returns
returns c = kept_whole c.args.text.now c.loop-text.tags (c.loop-text.invariant.before [] (kept_none c.loop-text.rest.now c.in_default.ensures.none))
