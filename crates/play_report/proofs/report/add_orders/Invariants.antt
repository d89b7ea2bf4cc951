use Rattle.std.proofs.Common.{◌≡◌, ◌++◌, drop, string_bytes}
use Rattle.play_report.specs.Reports.{order_words}
use Rattle.play_report.proofs.report.add_orders.Given as goal

abbrev pub invariant-loop-order : goal.invariant-loop-order
invariant-loop-order l = string_bytes l.report ++ order_words (drop l.order-index l.orders) ≡ string_bytes l.fn.report ++ order_words l.orders
