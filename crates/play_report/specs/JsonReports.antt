-- Public: what a play and a selftest report as lines of JSON (docs/REPORTS.md).
use Rattle.std.specs.Prelude.{ℕ, ◌+◌, List, [], ◌∷◌, ◌++◌, codes, flat_map}
use Rattle.json.specs.Token.{Token, begin_array, end_array, key}
use Rattle.evict_core.specs.declared.counts.Totals.{Totals}
use Rattle.json_lines.specs.Members.{json_line, number_array, number_member, object_of}
use Rattle.play_report.specs.Reports.{cache_name}
use Rattle.play_report.specs.declared.report.PlayReport.{PlayReport}

-- the events that were accepted, by their ReadOrders: an array for each time
abbrev pub accepted_member : List (List ℕ) → List Token
accepted_member times = key (codes "accepted") ∷ begin_array ∷ flat_map number_array times ++ end_array ∷ []

-- the Dialogue lines that gave no event, the events that were offered again, and the images
abbrev pub count_members : ℕ → ℕ → ℕ → List Token
count_members malformed repeated frames =
    number_member (codes "malformed") malformed ++ number_member (codes "repeated") repeated ++ number_member (codes "frames") frames

-- the entries of a cache that were found, claimed and filled
abbrev pub entry_members : Totals → List Token
entry_members t = number_member (codes "hits") t.counts.hits ++ number_member (codes "claims") t.counts.claims ++ number_member (codes "fills") t.counts.fills

-- the values that failed, had no room or were evicted
abbrev pub loss_members : Totals → List Token
loss_members t =
    number_member (codes "fails") t.counts.fails ++ number_member (codes "crowded") t.counts.crowded ++ number_member (codes "evictions") t.counts.evictions

-- what the cache at this place counted
abbrev pub cache_member : ℕ → Totals → List Token
cache_member place t = key (cache_name place) ∷ object_of (entry_members t ++ loss_members t)

-- what caches counted, the first of which stands at this place
abbrev pub cache_members : ℕ → List Totals → List Token
cache_members place [] = []
cache_members place (t ∷ totals) = cache_member place t ++ cache_members (place + 1) totals

abbrev pub report_members : PlayReport → List Token
report_members report = accepted_member report.accepted ++ count_members report.malformed report.repeated report.frames ++ cache_members 0 report.totals

-- the report of a play
abbrev pub report_json : PlayReport → List ℕ
report_json report = json_line (object_of (report_members report))

abbrev pub summary_members : ℕ → ℕ → ℕ → ℕ → ℕ → List Token
summary_members seed events accepted frames digest =
    number_member (codes "seed") seed ++ number_member (codes "events") events ++ number_member (codes "accepted") accepted
    ++ number_member (codes "frames") frames ++ number_member (codes "digest") digest

-- the report of a selftest
abbrev pub summary_json : ℕ → ℕ → ℕ → ℕ → ℕ → List ℕ
summary_json seed events accepted frames digest = json_line (object_of (summary_members seed events accepted frames digest))
