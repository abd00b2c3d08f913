-- The text of a report (docs/FORMATS.md, "Reports"). Each line ends with one line feed.
use Rattle.std.specs.Prelude.{ℕ, ◌+◌, nat_eq, List, [], ◌∷◌, ◌++◌, length, flat_map, codes, All, if◌then◌else◌}
use Rattle.std.specs.Fmt.{decimal}
use Rattle.hex.specs.Hex.{encode_lower}
use Rattle.walter_base.specs.declared.message.Reply.{Reply}
use Rattle.walter_fields.specs.Spellings.{block_spelled}
use Rattle.walter_reply.specs.Replies.{reply_spelled, FitsFrame}
use Rattle.walter_rules.specs.declared.entry.Entry.{Entry}
use Rattle.walter_rules.specs.declared.event.Event.{Event}
use Rattle.walter_rules.specs.declared.event.Event.TheVariants.{Given}
use Rattle.walter_rules.specs.declared.event.Input.TheVariants.{Call}
use Rattle.walter_rules.specs.declared.outcome.Outcome.{Outcome}
use Rattle.walter_rules.specs.declared.outcome.Outcome.TheVariants.{Replied}
use Rattle.walter_scenario.specs.declared.scenario.Client.{Client}
use Rattle.walter_scenario.specs.declared.scenario.Scenario.{Scenario}
use Rattle.walter_report.specs.Sites.{site_lines}
use Rattle.walter_page.specs.Words.{line_feed, or_dash}

-- the reply in an outcome, and the one in an entry to a client
abbrev pub reply_in : Outcome → List Reply
reply_in (Replied reply) = reply ∷ []
reply_in outcome = []

abbrev pub reply_to : ℕ → Event → Outcome → List Reply
reply_to client (Given (Call c call)) outcome = if nat_eq c client then reply_in outcome else []
reply_to client event outcome = []

-- the replies to a client, in order
abbrev pub replies_to : ℕ → List Entry → List Reply
replies_to client trail = flat_map (λ e. reply_to client e.event e.came.outcome) trail

-- each reply in the trails has a frame
abbrev pub HaveFrames : List (List Entry) → Type 0
HaveFrames trails = All (λ trail. All (λ e. All FitsFrame (reply_in e.came.outcome)) trail) trails

-- a reply as a client gets it: its length in four bytes, and its bytes
abbrev pub reply_frame : Reply → List ℕ
reply_frame reply = block_spelled (reply_spelled reply)

-- "client <c> site <s> replies <k> <hex>": how many replies, and their frames
abbrev pub client_line : ℕ → ℕ → List Reply → List ℕ
client_line client site replies =
    codes "client " ++ decimal client ++ codes " site " ++ decimal site
    ++ codes " replies " ++ decimal (length replies) ++ codes " "
    ++ or_dash (encode_lower (flat_map reply_frame replies)) ++ line_feed

-- a line for each client, from this one on
abbrev pub client_lines : ℕ → List Client → List (List Entry) → List ℕ
client_lines number [] trails = []
client_lines number (client ∷ clients) trails =
    client_line number client.site.0 (flat_map (replies_to number) trails) ++ client_lines (number + 1) clients trails

-- "sites <n> f <f> clients <c>"
abbrev pub first_line : Scenario → List ℕ
first_line s =
    codes "sites " ++ decimal s.catalog.sites ++ codes " f " ++ decimal s.catalog.tolerated
    ++ codes " clients " ++ decimal (length s.clients) ++ line_feed

-- a line for the run, one for each client, one for each site
abbrev pub report_text : Scenario → List (List Entry) → List ℕ
report_text s trails = first_line s ++ client_lines 0 s.clients trails ++ site_lines s.catalog.sites 0 trails
