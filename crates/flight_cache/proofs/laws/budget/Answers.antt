use Rattle.flight_cache.proofs.Home.{stays_in_budget, history_in_budget, idle_in_budget}
use Rattle.flight_cache.proofs.laws.budget.Goals as goal

pub returns : goal.returns
returns g c = record { home = stays_in_budget g.M.Key.PartialEq.eq g.met.M.Key.Eq.laws g.M.Made.meaning g.row.M.Denot; history = history_in_budget g.M.Key.PartialEq.eq g.met.M.Key.Eq.laws g.M.Made.meaning; alone = idle_in_budget g.M.Key.PartialEq.eq g.met.M.Key.Eq.laws g.M.Made.meaning }
