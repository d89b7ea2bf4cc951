use Rattle.std.proofs.Common.{[], ◌+◌, ◌++◌, length, refl, sym, arith}
use Rattle.std.proofs.lemmas.List.{append-nil}
use Rattle.override_tags.specs.Readings.{tag_items}
use Rattle.override_tags.proofs.BlockLemmas.{tags_more, tags_none, tags_whole, tags_joined, lists_joined}
use Rattle.override_tags.proofs.block.add_tags.Goals as goal

pub loop-text-init : goal.loop-text-init
loop-text-init c = record {
  added = [];
  whole = sym (append-nil c.args.items.now.items);
  before = λ tail tags. tags;
  begins = c.requires.begins;
  utf8 = c.utf8.text;
  fits = c.requires.fits;
}

pub loop-text-preserved : goal.loop-text-preserved
loop-text-preserved c =
    let inv = c.loop-text.invariant in
    let next = c.in-Some.ensures.next in
    let to = c.loop-text.from + 1 + length c.in-Some.text.now in
    let tag = c.in_ok-tag.tag in
    let mine = tag_items c.loop-text.from to tag in
    record {
      added = inv.added ++ mine;
      whole = lists_joined c.args.items.now.items c.loop-text.items.items c.push_tag.new.items.items inv.added mine inv.whole c.in_ok-push_tag.ensures;
      before = λ tail tags. tags_joined c.args.from c.args.text.now inv.added mine tail
          (inv.before (mine ++ tail) (tags_more c.loop-text.from to c.loop-text.rest.now c.in-Some.text.now c.in-Some.others.now tag tail next refl c.in_ok-tag.ensures tags));
      begins = next.begins;
      utf8 = c.in-Some.ensures.text;
      fits = omega (arith, next.shorter, inv.fits);
    }

pub returns : goal.returns
returns c =
    let inv = c.loop-text.invariant in
    (inv.added, tags_whole c.args.from c.args.text.now inv.added (inv.before [] (tags_none c.loop-text.from c.loop-text.rest.now c.in_default.ensures.none)), inv.whole)
