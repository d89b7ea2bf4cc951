use Rattle.std.proofs.Common.{◌∙◌, Some, None, string_bytes, sym, subst, refl}
use Rattle.std.proofs.lemmas.Str.{IsUtf8-had, chars-nil}
use Rattle.std.specs.Str.{chars, IsUtf8}
use Rattle.text_layout.specs.Clusters.{cluster_ends}
use Rattle.text_layout.specs.Kinds.{chars_of}
use Rattle.text_layout.proofs.ClusterLemmas.{chars-pushed, codes-more, walk-break, walk-char}
use Rattle.text_layout.proofs.clusters.cluster_ends.Goals as goal
use Rattle.text_layout.proofs.clusters.cluster_ends.Goals.{in-Some+in_ok-push-in-Some, in-None+in_ok-add_text-in-None+in_ok-push-in-None}

pub loop-shown-init : goal.loop-shown-init
loop-shown-init c = rw (c.in_ok-ends.ensures.items, c.new-text.ensures.bytes, chars-nil) refl

pub loop-shown-preserved : goal.loop-shown-preserved
loop-shown-preserved c =
    let wrap = c.args.wrap in
    let items = c.args.items.now in
    let k = c.loop-shown.shown-index in
    let bytes = string_bytes c.loop-shown.text in
    let all = cluster_ends (chars_of wrap items) in
    elim c.match-char_of.branch [
      | in-Some+in_ok-push-in-Some w ↦
          let x = w.in-Some.c in
          let codes = codes-more wrap items k c.shown-item.result (Some x) c.loop-shown-test.true c.shown-item.is (sym w.in-Some.is ∙ c.char_of.ensures) in
          let utf8 = IsUtf8-had bytes c.loop-shown.text.ok in
          let pushed = w.in_ok-push-in-Some.ensures.bytes in
          let after = subst IsUtf8 pushed (IsUtf8-had (string_bytes w.push.new.self) w.push.new.self.ok) in
          rw (w.ends-is, w.text-is, pushed, chars-pushed bytes x utf8 after)
          (walk-char c.loop-shown.ends.items all (chars bytes) x _ _ codes c.loop-shown.invariant)
      | in-None+in_ok-add_text-in-None+in_ok-push-in-None w ↦
          let codes = codes-more wrap items k c.shown-item.result None c.loop-shown-test.true c.shown-item.is (sym w.in-None.is ∙ c.char_of.ensures) in
          rw (w.ends-is, w.in_ok-push-in-None.ensures.items, w.in_ok-add_text-in-None.ensures, w.as_str.ensures.value, w.text-is, w.clear.ensures.bytes, chars-nil)
          (walk-break c.loop-shown.ends.items all (chars bytes) _ _ codes c.loop-shown.invariant)
    ]
