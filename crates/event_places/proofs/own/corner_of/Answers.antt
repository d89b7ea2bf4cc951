use Rattle.std.proofs.Common.{rules, subst}
use Rattle.ass_num.specs.Limits.{IsPointWithin}
use Rattle.text_layout.specs.Anchors.{anchor}
use Rattle.text_layout.specs.Limits.{max_anchor}
use Rattle.event_places.proofs.StandLemmas.{corner_within}
use Rattle.event_places.proofs.own.corner_of.Goals as goal

pub returns-clause-value : goal.returns-clause-value
returns-clause-value c = search rules

pub returns-clause-within : goal.returns-clause-within
returns-clause-within c =
    let own = c.args.own.now in
    rw (returns-clause-value c)
    (corner_within (anchor c.args.script.now c.args.event.now own.view c.args.scales.now) own.view.align max_anchor own.laid.width own.laid.height
    (subst (IsPointWithin max_anchor) c.anchor-at.ensures.value c.anchor-at.ensures.within) c.requires.width c.requires.height)
