-- The lines of the sites in a report (docs/FORMATS.md, "Reports"). All is taken from the trails.
use Rattle.std.specs.Prelude.{ℕ, ◌+◌, Bool, true, false, List, [], ◌∷◌, ◌++◌, length, map, flat_map, count_by, codes, Option, Some, None}
use Rattle.std.specs.Fmt.{decimal}
use Rattle.std.specs.List.{range_with_len}
use Rattle.walter_base.specs.declared.message.Record.{Record}
use Rattle.walter_base.specs.declared.message.Record.TheVariants.{Own, Got, Seen}
use Rattle.walter_base.specs.declared.names.SiteId.{SiteId}
use Rattle.walter_base.specs.Names.{same_site}
use Rattle.walter_rules.specs.declared.entry.Entry.{Entry}
use Rattle.walter_rules.specs.Knowledge.{site_at}
use Rattle.walter_rules.specs.Learning.{epoch_after}
use Rattle.walter_rules.specs.Standing.{up_after}
use Rattle.walter_page.specs.Words.{line_feed, listed}

-- whether a site is up behind these entries, the oldest of which comes first, where it was up before or not
abbrev pub up_from : Bool → List Entry → Bool
up_from up [] = up
up_from up (e ∷ es) = up_from (up_after e.event e.came.outcome up) es

-- whether the site of a trail is up behind it; before the first entry it is down
abbrev pub is_up : List Entry → Bool
is_up trail = up_from false trail

abbrev pub up_word : Bool → List ℕ
up_word true = codes "up"
up_word false = codes "down"

-- the records of a trail, in order: of each entry the one that it kept, then the one that it wrote
abbrev pub record_in : Option Record → List Record
record_in None = []
record_in (Some rec) = rec ∷ []

abbrev pub records : List Entry → List Record
records trail = flat_map (λ e. record_in e.came.kept ++ record_in e.came.wrote) trail

-- the epoch of the last Boot among records, or this one where there is none
abbrev pub last_epoch : ℕ → List Record → ℕ
last_epoch epoch [] = epoch
last_epoch epoch (rec ∷ recs) = last_epoch (epoch_after (Some rec) epoch) recs

-- whether a record of the site i tells that it has one more commit of the site k, and that one more is committed there
abbrev pub is_got : SiteId → SiteId → Record → Bool
is_got i k (Own seq tx) = same_site i k
is_got i k (Got from seq tx) = same_site from k
is_got i k rec = false

abbrev pub is_seen : SiteId → SiteId → Record → Bool
is_seen i k (Own seq tx) = same_site i k
is_seen i k (Seen from seq) = same_site from k
is_seen i k rec = false

-- of each of so many sites, how many records tell it
abbrev pub counts : ℕ → (SiteId → Record → Bool) → List Record → List ℕ
counts sites tells recs = map (λ k. count_by (tells (site_at k)) recs) (range_with_len 0 sites)

abbrev pub counts_text : ℕ → (SiteId → Record → Bool) → List Record → List ℕ
counts_text sites tells recs = listed (map decimal (counts sites tells recs))

-- a commit in the log: "<site>:<number>"
abbrev pub version_text : SiteId → ℕ → List ℕ
version_text site seq = decimal site.0 ++ codes ":" ++ decimal seq

-- the commits that records of the site i tell to be committed there, in order
abbrev pub logged : SiteId → Record → List (List ℕ)
logged i (Own seq tx) = version_text i seq ∷ []
logged i (Seen from seq) = version_text from seq ∷ []
logged i rec = []

abbrev pub log_pieces : SiteId → List Record → List (List ℕ)
log_pieces i recs = flat_map (logged i) recs

-- "site <i> <up|down> epoch <e> events <n> records <r>"
abbrev pub events_part : ℕ → List Entry → List ℕ
events_part site trail =
    codes "site " ++ decimal site ++ codes " " ++ up_word (is_up trail)
    ++ codes " epoch " ++ decimal (last_epoch 0 (records trail))
    ++ codes " events " ++ decimal (length trail) ++ codes " records " ++ decimal (length (records trail))

-- " got <list> committed <list> log <list>"
abbrev pub lists_part : List ℕ → List ℕ → List ℕ → List ℕ
lists_part got committed log =
    codes " got " ++ got ++ codes " committed " ++ committed ++ codes " log " ++ log ++ line_feed

-- the lists of records of the site i, of so many sites
abbrev pub commits_part : ℕ → SiteId → List Record → List ℕ
commits_part sites i recs =
    lists_part (counts_text sites (is_got i) recs) (counts_text sites (is_seen i) recs) (listed (log_pieces i recs))

abbrev pub site_line : ℕ → ℕ → List Entry → List ℕ
site_line sites site trail = events_part site trail ++ commits_part sites (site_at site) (records trail)

-- a line for each site, from this one on, where the catalog has so many
abbrev pub site_lines : ℕ → ℕ → List (List Entry) → List ℕ
site_lines sites site [] = []
site_lines sites site (trail ∷ trails) = site_line sites site trail ++ site_lines sites (site + 1) trails
