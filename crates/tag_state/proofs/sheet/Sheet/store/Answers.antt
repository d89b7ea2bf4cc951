use Rattle.tag_state.proofs.FontLemmas.{grow_one}
use Rattle.tag_state.proofs.StateEquality.{last_stored, stored_held}
use Rattle.tag_state.proofs.sheet.Sheet.store.Goals as goal

pub returns-clause-number : goal.returns-clause-number
returns-clause-number c = last_stored c.push.new.self c.args.self.now.states c.args.state.now c.len-number.result c.in_ok-push.ensures.ok c.len-number.ensures

pub returns-clause-grown : goal.returns-clause-grown
returns-clause-grown c = grow_one c.args.self.now.states c.push.new.self c.args.state.now c.in_ok-push.ensures.ok

pub returns-clause-held : goal.returns-clause-held
returns-clause-held c = λ names is all. stored_held names c.push.new.self c.args.self.now.states c.args.state.now c.in_ok-push.ensures.ok is all
