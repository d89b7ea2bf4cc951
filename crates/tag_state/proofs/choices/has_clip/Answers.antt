use Rattle.std.proofs.Common.{All, List, subst}
use Rattle.std.proofs.lemmas.List.{take_all}
use Rattle.override_tags.specs.declared.tag.GradualTag.{GradualTag}
use Rattle.tag_state.specs.Steps.{IsNoClip}
use Rattle.tag_state.proofs.ChoiceLemmas.{no_clip_more}
use Rattle.tag_state.proofs.choices.has_clip.Goals as goal

pub loop-tag-preserved : goal.loop-tag-preserved
loop-tag-preserved c = no_clip_more c.args.tags.now c.loop-tag.tag-index _ c.loop-tag-test.true c.loop-tag.invariant (c.is_clip.ensures c.if-is_clip.false)

pub returns : goal.returns
returns c = λ none.
    let P : List GradualTag → Type 0 = λ z. All IsNoClip z in
    subst P (take_all c.loop-tag.tag-index c.args.tags.now c.loop-tag-test.false) c.loop-tag.invariant
