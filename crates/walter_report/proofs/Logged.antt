-- The commits in a log, where there are more records.
use Rattle.std.proofs.Common.{◌≡◌, ℕ, ◌+◌, ◌<◌, Bool, List, [], ◌∷◌, ◌++◌, length, drop, get_or, ap, ◌∙◌, append-nil}
use Rattle.std.proofs.lemmas.List.{length-append}
use Rattle.std.proofs.lemmas.List.Concat.{flat_map-append}
use Rattle.walter_base.specs.declared.message.Record.{Record}
use Rattle.walter_base.specs.declared.names.SiteId.{SiteId}
use Rattle.walter_report.specs.Sites.{logged, log_pieces, record_in, records}
use Rattle.walter_page.specs.Lists.{has_pieces, list_behind}
use Rattle.walter_page.proofs.Joined.{list_behind-append}
use Rattle.walter_page.proofs.Parted.{flat_map-drop_more}
use Rattle.walter_rules.specs.declared.entry.Entry.{Entry}

pub length_log_pieces : (i : SiteId) (recs : List Record) (rec : Record)
    → length (log_pieces i (recs ++ rec ∷ [])) ≡ length (log_pieces i recs) + length (logged i rec)
length_log_pieces i recs rec =
    ap length (flat_map-append (logged i) recs (rec ∷ []) ∙ ap (λ t. log_pieces i recs ++ t) (append-nil (logged i rec)))
    ∙ length-append (log_pieces i recs) (logged i rec)

-- the commits of some records, and then those of others
pub pieces_both : (some : Bool) (i : SiteId) (recs others : List Record)
    → list_behind some (log_pieces i (recs ++ others))
    ≡ list_behind some (log_pieces i recs) ++ list_behind (has_pieces some (log_pieces i recs)) (log_pieces i others)
pieces_both some i recs others =
    ap (list_behind some) (flat_map-append (logged i) recs others)
    ∙ list_behind-append some (log_pieces i recs) (log_pieces i others)

-- those of an entry, and of what comes behind it
pub pieces_next : (some : Bool) (i : SiteId) (trail : List Entry) (k : ℕ) (e : Entry) → k < length trail
    → e ≡ get_or trail k e
    → list_behind some (log_pieces i (records (drop k trail)))
    ≡ list_behind some (log_pieces i (record_in e.came.kept ++ record_in e.came.wrote)) ++ list_behind
    (has_pieces some (log_pieces i (record_in e.came.kept ++ record_in e.came.wrote)))
    (log_pieces i (records (drop (k + 1) trail)))
pieces_next some i trail k e within is =
    ap (λ recs. list_behind some (log_pieces i recs))
    (flat_map-drop_more (λ (entry : Entry). record_in entry.came.kept ++ record_in entry.came.wrote) trail k e e within is)
    ∙ pieces_both some i (record_in e.came.kept ++ record_in e.came.wrote) (records (drop (k + 1) trail))
