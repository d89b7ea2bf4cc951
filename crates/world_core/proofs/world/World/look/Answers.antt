use Rattle.std.proofs.Common.{◌≡◌, Err, refl, rules, subst, sym, to_z-of_z}
use Rattle.frame_view.specs.FrameViews.{plain_frame}
use Rattle.frame_view.specs.declared.view.FrameView.{FrameView}
use Rattle.world_core.proofs.Telling.{made-looks, made-no_look, made-refused}
use Rattle.world_core.proofs.world.World.look.Goals as goal

pub look_at-requires-clause-setting : goal.look_at-requires-clause-setting
look_at-requires-clause-setting c =
    record { script = rw c.deref.ensures c.requires.told.1.script; fonts = rw c.deref-2.ensures c.requires.told.1.fonts; frame = c.plain.ensures.range c.requires.size }

pub look_at-requires-clause-plain : goal.look_at-requires-clause-plain
look_at-requires-clause-plain c = subst (λ (frame : FrameView). frame ≡ plain_frame frame.size) (sym c.plain.ensures.value) refl

pub look_at-requires-clause-sound : goal.look_at-requires-clause-sound
look_at-requires-clause-sound c = c.requires.told.1.sound

pub look_at-requires-clause-history : goal.look_at-requires-clause-history
look_at-requires-clause-history c = (c.requires.told.0.history, c.requires.told.1.history)

pub returns : goal.returns
returns c =
    made-looks c.args.self.now c.insert.new.self c.args.actor c.args.t c.args.size.now c.in_ok-look.look c.entries.result
    (λ history tells. rw (c.deref.ensures, c.deref-2.ensures, c.plain.ensures.value, to_z-of_z c.ranges.t) at (c.in_ok-look.ensures history tells)) (λ history tells. c.entries.ensures history tells) c.in_ok-insert.ensures.updates

pub returns-in_err-look : goal.returns-in_err-look
returns-in_err-look c =
    let same : c.from_residual.result ≡ Err c.in_err-look.field-0.0 = search rules in
    made-refused c.args.self.now _ _ c.from_residual.result c.in_err-look.field-0.0 same

pub returns-in_err-insert : goal.returns-in_err-insert
returns-in_err-insert c =
    let same : c.from_residual-in_err-insert.result ≡ Err (record {}) = search rules in
    made-no_look c.args.self.now c.insert.new.self c.args.actor c.args.t c.args.size.now _ _ c.from_residual-in_err-insert.result (record {}) same c.in_err-insert.ensures.err
