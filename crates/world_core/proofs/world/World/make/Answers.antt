use Rattle.std.proofs.Common.{refl, rules, subst, to_z-of_z, w64}
use Rattle.std.specs.Arc.{arc_value}
use Rattle.std.specs.Int.RustNames.{FitsSigned}
use Rattle.world_core.specs.Replies.{IsShowReply}
use Rattle.world_core.specs.States.{WorldState}
use Rattle.world_core.specs.Steps.{TakesNoMemory}
use Rattle.world_core.specs.Tellings.{WorldTag}
use Rattle.world_core.specs.declared.steps.Reply.{Reply}
use Rattle.world_core.proofs.Telling.{made-answer}
use Rattle.world_core.proofs.world.World.make.Goals as goal

pub feed-requires-clause-short : goal.feed-requires-clause-short
feed-requires-clause-short c = rw c.in-Feed.is at c.requires.step

pub look-requires-clause-instant : goal.look-requires-clause-instant
look-requires-clause-instant c = let t : FitsSigned w64 c.in-Look.t = search rules in rw (to_z-of_z t) ((rw c.in-Look.is at c.requires.step).0)

pub look-requires-clause-size : goal.look-requires-clause-size
look-requires-clause-size c = (rw c.in-Look.is at c.requires.step).1

pub ask_outline-requires-clause-key : goal.ask_outline-requires-clause-key
ask_outline-requires-clause-key c = rw c.in-AskOutline.is at c.requires.step

pub ask_mask-requires-clause-key : goal.ask_mask-requires-clause-key
ask_mask-requires-clause-key c = rw c.in-AskMask.is at c.requires.step

pub ask_composite-requires-clause-key : goal.ask_composite-requires-clause-key
ask_composite-requires-clause-key c = rw c.in-AskComposite.is at c.requires.step

pub set_limits-requires-clause-shard : goal.set_limits-requires-clause-shard
set_limits-requires-clause-shard c = (rw c.in-Limits.is at c.requires.step).0

pub set_limits-requires-clause-least : goal.set_limits-requires-clause-least
set_limits-requires-clause-least c = (rw c.in-Limits.is at c.requires.step).1

pub set_limits-requires-clause-most : goal.set_limits-requires-clause-most
set_limits-requires-clause-most c = (rw c.in-Limits.is at c.requires.step).2

pub set_limits-requires-clause-budget : goal.set_limits-requires-clause-budget
set_limits-requires-clause-budget c = (rw c.in-Limits.is at c.requires.step).3

pub returns-in-Feed-clause-made : goal.returns-in-Feed-clause-made
returns-in-Feed-clause-made c = rw c.in-Feed.is c.feed.ensures

pub returns-in-Flush-clause-made : goal.returns-in-Flush-clause-made
returns-in-Flush-clause-made c = rw c.in-Flush.is c.flush.ensures

pub returns-in-Look-clause-made : goal.returns-in-Look-clause-made
returns-in-Look-clause-made c = let t : FitsSigned w64 c.in-Look.t = search rules in rw c.in-Look.is (rw (to_z-of_z t) at c.look.ensures)

pub returns-in-AskOutline-clause-made : goal.returns-in-AskOutline-clause-made
returns-in-AskOutline-clause-made c = rw c.in-AskOutline.is c.ask_outline.ensures

pub returns-in-AskMask-clause-made : goal.returns-in-AskMask-clause-made
returns-in-AskMask-clause-made c = rw c.in-AskMask.is c.ask_mask.ensures

pub returns-in-AskComposite-clause-made : goal.returns-in-AskComposite-clause-made
returns-in-AskComposite-clause-made c = rw c.in-AskComposite.is c.ask_composite.ensures

pub returns-in-Fill-clause-made : goal.returns-in-Fill-clause-made
returns-in-Fill-clause-made c = rw c.in-Fill.is c.fill.ensures

pub returns-in-Fail-clause-made : goal.returns-in-Fail-clause-made
returns-in-Fail-clause-made c = rw c.in-Fail.is c.fail.ensures

pub returns-in-Unpin-clause-made : goal.returns-in-Unpin-clause-made
returns-in-Unpin-clause-made c = rw c.in-Unpin.is c.unpin.ensures

pub returns-in-Limits-clause-made : goal.returns-in-Limits-clause-made
returns-in-Limits-clause-made c = rw c.in-Limits.is c.set_limits.ensures

pub returns-in-Show-clause-made : goal.returns-in-Show-clause-made
returns-in-Show-clause-made c =
    let w = c.args.self.now in
    rw c.in-Show.is
    (made-answer w (λ (s : WorldState WorldTag) (r : Reply). IsShowReply (arc_value w.script) (arc_value w.fonts).fonts s.caches c.in-Show.actor (s.looks c.in-Show.actor) r) c.show.result c.show.ensures)

pub returns-in-Feed-clause-calm : goal.returns-in-Feed-clause-calm
returns-in-Feed-clause-calm c = λ calm. absurd (subst TakesNoMemory c.in-Feed.is calm)

pub returns-in-Look-clause-calm : goal.returns-in-Look-clause-calm
returns-in-Look-clause-calm c = λ calm. absurd (subst TakesNoMemory c.in-Look.is calm)

pub returns-in-AskOutline-clause-calm : goal.returns-in-AskOutline-clause-calm
returns-in-AskOutline-clause-calm c = λ calm. absurd (subst TakesNoMemory c.in-AskOutline.is calm)

pub returns-in-AskMask-clause-calm : goal.returns-in-AskMask-clause-calm
returns-in-AskMask-clause-calm c = λ calm. absurd (subst TakesNoMemory c.in-AskMask.is calm)

pub returns-in-AskComposite-clause-calm : goal.returns-in-AskComposite-clause-calm
returns-in-AskComposite-clause-calm c = λ calm. absurd (subst TakesNoMemory c.in-AskComposite.is calm)

pub returns-in-Fill-clause-calm : goal.returns-in-Fill-clause-calm
returns-in-Fill-clause-calm c = λ calm. absurd (subst TakesNoMemory c.in-Fill.is calm)

pub returns-in-Show-clause-calm : goal.returns-in-Show-clause-calm
returns-in-Show-clause-calm c = λ calm. absurd (subst TakesNoMemory c.in-Show.is calm)

pub returns-in-Flush-clause-calm : goal.returns-in-Flush-clause-calm
returns-in-Flush-clause-calm c = λ calm. refl

pub returns-in-Fail-clause-calm : goal.returns-in-Fail-clause-calm
returns-in-Fail-clause-calm c = λ calm. refl

pub returns-in-Unpin-clause-calm : goal.returns-in-Unpin-clause-calm
returns-in-Unpin-clause-calm c = λ calm. refl

pub returns-in-Limits-clause-calm : goal.returns-in-Limits-clause-calm
returns-in-Limits-clause-calm c = λ calm. refl
