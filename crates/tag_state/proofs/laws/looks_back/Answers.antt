use Rattle.tag_state.proofs.SetterLemmas.{state_step}
use Rattle.tag_state.proofs.StateLemmas.{first_state, reset_state, font_state, sung_state}
use Rattle.tag_state.proofs.laws.looks_back.Goals as goal

pub returns-clause-first : goal.returns-clause-first
returns-clause-first c = first_state

pub returns-clause-stepped : goal.returns-clause-stepped
returns-clause-stepped c = state_step

pub returns-clause-reset : goal.returns-clause-reset
returns-clause-reset c = reset_state

pub returns-clause-font : goal.returns-clause-font
returns-clause-font c = font_state

pub returns-clause-sung : goal.returns-clause-sung
returns-clause-sung c = sung_state
