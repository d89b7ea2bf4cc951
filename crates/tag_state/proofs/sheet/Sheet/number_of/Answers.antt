use Rattle.tag_state.proofs.sheet.Sheet.number_of.Goals as goal

pub returns-clause-held : goal.returns-clause-held
returns-clause-held c = λ names is all. c.in_ok-number.ensures.held names (is c.slot_of-slot.ensures.four) all
