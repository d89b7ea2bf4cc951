use Rattle.tag_state.proofs.sheet.Sheet.end.Goals as goal

pub returns-clause-held : goal.returns-clause-held
returns-clause-held c = λ names is all. c.in_ok-_number.ensures.held names (is c.slot_of.ensures.four) all
