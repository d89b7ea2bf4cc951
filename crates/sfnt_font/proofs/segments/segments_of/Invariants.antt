use Rattle.std.proofs.Common.{◌≡◌, ◌-◌, ◌≤◌, length, true}
use Rattle.sfnt_font.specs.Maps.{segments_of, segments_from}
use Rattle.sfnt_font.specs.Ranges.{are_in_order}
use Rattle.sfnt_font.proofs.InOrder.{behind}
use Rattle.sfnt_font.proofs.OrderLemmas.{low_after, count_after}
use Rattle.sfnt_font.proofs.segments.segments_of.Given as goal

abbrev pub invariant-loop-k : goal.invariant-loop-k
invariant-loop-k l = record {
  read : behind l.segments (segments_from l.bytes l.map l.k (l.map.count - l.k) l.low l.before) ≡ segments_of l.bytes l.map;
  counted : l.before ≤ l.low;
  most : l.low ≤ 1114112;
  in_order : are_in_order 0 0 l.segments ≡ true;
  low_is : low_after 0 l.segments ≡ l.low;
  before_is : count_after 0 l.segments ≡ l.before;
  numbered : length l.segments ≡ l.k;
}
