-- Public: what a play and a selftest report (docs/PROGRAM.md).
use Rattle.std.specs.Prelude.{ℕ, ◌+◌, ◌==◌, if◌then◌else◌, List, [], ◌∷◌, ◌++◌, codes, decimal, flat_map}
use Rattle.evict_core.specs.declared.counts.Totals.{Totals}
use Rattle.play_report.specs.declared.report.PlayReport.{PlayReport}

-- ReadOrders, each behind a space
abbrev pub order_words : List ℕ → List ℕ
order_words orders = flat_map (λ n. codes " " ++ decimal n) orders

-- the line on the events that were accepted at one time, by their ReadOrders
abbrev pub accepted_line : List ℕ → List ℕ
accepted_line orders = codes "accepted" ++ order_words orders ++ codes "\n"

-- one such line for each time
abbrev pub accepted_lines : List (List ℕ) → List ℕ
accepted_lines times = flat_map accepted_line times

-- the lines on Dialogue lines that gave no event, on events that were offered again, and on images
abbrev pub count_lines : ℕ → ℕ → ℕ → List ℕ
count_lines malformed repeated frames =
    codes "malformed " ++ decimal malformed ++ codes "\nrepeated " ++ decimal repeated ++ codes "\nframes " ++ decimal frames ++ codes "\n"

-- the entries of a cache that were found, claimed and filled
abbrev pub entry_words : Totals → List ℕ
entry_words t = codes " hits " ++ decimal t.counts.hits ++ codes " claims " ++ decimal t.counts.claims ++ codes " fills " ++ decimal t.counts.fills

-- the values that failed, had no room or were evicted
abbrev pub loss_words : Totals → List ℕ
loss_words t = codes " fails " ++ decimal t.counts.fails ++ codes " crowded " ++ decimal t.counts.crowded ++ codes " evictions " ++ decimal t.counts.evictions ++ codes "\n"

-- the caches in the order of their totals
abbrev pub cache_name : ℕ → List ℕ
cache_name place = if place == 0 then codes "outline" else (if place == 1 then codes "mask" else codes "composite")

-- the line on what the cache at this place counted
abbrev pub cache_line : ℕ → Totals → List ℕ
cache_line place t = cache_name place ++ entry_words t ++ loss_words t

-- the lines on caches, the first of which stands at this place
abbrev pub cache_lines : ℕ → List Totals → List ℕ
cache_lines place [] = []
cache_lines place (t ∷ totals) = cache_line place t ++ cache_lines (place + 1) totals

-- the report of a play
abbrev pub report_text : PlayReport → List ℕ
report_text report = accepted_lines report.accepted ++ count_lines report.malformed report.repeated report.frames ++ cache_lines 0 report.totals

-- the report of a selftest: its seed and events, what was accepted, the images, and the digest of their bytes
abbrev pub summary_text : ℕ → ℕ → ℕ → ℕ → ℕ → List ℕ
summary_text seed events accepted frames digest =
    codes "selftest seed " ++ decimal seed ++ codes " events " ++ decimal events ++ codes "\naccepted " ++ decimal accepted
    ++ codes "\nframes " ++ decimal frames ++ codes "\ndigest " ++ decimal digest ++ codes "\n"
