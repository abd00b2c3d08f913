-- The text of what an audit finds (docs/FORMATS.md, "Audits"). Each line ends with one line feed.
use Rattle.std.specs.Prelude.{ℕ, List, ◌++◌, length, flat_map, codes}
use Rattle.std.specs.Fmt.{decimal}
use Rattle.walter_audit.specs.Orders.{Taken}
use Rattle.walter_audit.specs.declared.finding.Finding.{Finding}
use Rattle.walter_audit.specs.declared.finding.Finding.TheVariants.{Yes, No}
use Rattle.walter_audit.specs.declared.finding.Named.{Named}
use Rattle.walter_audit.specs.declared.finding.Reason.{Reason}
use Rattle.walter_audit.specs.declared.finding.Reason.TheVariants.{Unreadable, Missing, Differs, Twice, Start, Conflict, Cycle}
use Rattle.walter_audit.specs.declared.item.Item.TheVariants.{Starts, Commits, Arrives}
use Rattle.walter_page.specs.Words.{line_feed}

-- "start <s.e.m>": the name of the transaction; "commit <s:q> <s.e.m>": and of the commit, by its site and its number; or
-- "arrive <site> <s:q>": the commit that arrives at the site
abbrev pub item_line : Taken → List ℕ
item_line (i, Starts place tx) =
    codes "start " ++ decimal tx.tid.site.0 ++ codes "." ++ decimal tx.tid.epoch ++ codes "." ++ decimal tx.tid.number
    ++ line_feed
item_line (i, Commits place seq tx) =
    codes "commit " ++ decimal i.0 ++ codes ":" ++ decimal seq ++ codes " "
    ++ decimal tx.tid.site.0 ++ codes "." ++ decimal tx.tid.epoch ++ codes "." ++ decimal tx.tid.number ++ line_feed
item_line (i, Arrives place j seq) =
    codes "arrive " ++ decimal i.0 ++ codes " " ++ decimal j.0 ++ codes ":" ++ decimal seq ++ line_feed

-- "audit yes sites <n> lines <k>", and a line for each item of the order
abbrev pub yes_line : ℕ → ℕ → List ℕ
yes_line sites lines =
    codes "audit yes sites " ++ decimal sites ++ codes " lines " ++ decimal lines ++ line_feed

abbrev pub order_text : ℕ → List Taken → List ℕ
order_text sites order = yes_line sites (length order) ++ flat_map item_line order

abbrev pub reason_word : Reason → List ℕ
reason_word Unreadable = codes "unreadable"
reason_word Missing = codes "missing"
reason_word Differs = codes "differs"
reason_word Twice = codes "twice"
reason_word Start = codes "start"
reason_word Conflict = codes "conflict"
reason_word Cycle = codes "cycle"

-- "audit no <reason> <a> <b>": two records, each by its site and its place
abbrev pub no_text : Reason → Named → Named → List ℕ
no_text reason a b =
    codes "audit no " ++ reason_word reason ++ codes " " ++ decimal a.site.0 ++ codes "." ++ decimal a.index
    ++ codes " " ++ decimal b.site.0 ++ codes "." ++ decimal b.index ++ line_feed

-- what is written of a finding, over so many sites
abbrev pub finding_text : ℕ → Finding → List ℕ
finding_text sites (Yes order) = order_text sites order.items
finding_text sites (No reason a b) = no_text reason a b
