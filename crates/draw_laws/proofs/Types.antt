-- The types of event_draws and text_layout that their definitions speak of, by what the definitions give.
use Rattle.std.proofs.Common.{Option}
use Rattle.event_draws.specs.Draws.{fill_making, stamp_of}
use Rattle.event_draws.specs.EventDraws.{row_on, run_of}
use Rattle.event_draws.specs.Marks.{mark_of}
use Rattle.text_layout.specs.Anchors.{edge_across}

abbrev given_by_one : {A X : Type 0} → (A → X) → Type 0
given_by_one {X = X} f = X

abbrev given_by_three : {A B C X : Type 0} → (A → B → C → X) → Type 0
given_by_three {X = X} f = X

abbrev given_by_five : {A B C D E X : Type 0} → (A → B → C → D → E → Option X) → Type 0
given_by_five {X = X} f = X

abbrev given_by_six : {A B C D E F X : Type 0} → (A → B → C → D → E → F → Option X) → Type 0
given_by_six {X = X} f = X

abbrev pub Mark : Type 0
Mark = given_by_five mark_of

abbrev pub Making : Type 0
Making = given_by_three fill_making

abbrev pub Stamp : Type 0
Stamp = given_by_three stamp_of

abbrev pub Run : Type 0
Run = given_by_six run_of

abbrev pub Row : Type 0
Row = given_by_five row_on

abbrev pub Side : Type 0
Side = given_by_one edge_across
