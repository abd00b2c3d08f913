-- What is taken of a trail for the line of its site.
use Rattle.std.specs.Prelude.{◌≡◌, ◌<◌, ℕ, Bool, List, length, slice_index_or}
use Rattle.walter_base.specs.declared.message.Record.{Record}
use Rattle.walter_base.specs.declared.names.SiteId.{SiteId}
use Rattle.walter_rules.specs.declared.entry.Entry.{Entry}
use Rattle.walter_rules.specs.Knowledge.{site_at}
use Rattle.walter_report.specs.declared.overview.Overview.{Overview}
use Rattle.walter_report.specs.Sites.{is_up, records, last_epoch, is_got, is_seen, counts, log_pieces}

-- what is told of the site i, of so many sites, where it is up or not and has these records
pub record Tells (overview : Overview) (sites : ℕ) (i : SiteId) (up : Bool) (recs : List Record) : Type 0 where
  pub stands : overview.up ≡ up
  pub epoch : overview.epoch ≡ last_epoch 0 recs
  pub records : overview.records ≡ length recs
  pub got : overview.got.items ≡ counts sites (is_got i) recs
  pub seen : overview.seen.items ≡ counts sites (is_seen i) recs
  pub commits : overview.commits ≡ length (log_pieces i recs)

-- of each site, of so many, is told what its trail tells
pub record TellEach (overviews : List Overview) (sites : ℕ) (trails : List (List Entry)) : Type 0 where
  pub many : length overviews ≡ length trails
  pub each : (i : ℕ) (o : Overview) (t : List Entry) → i < length trails
      → Tells (slice_index_or overviews i o) sites (site_at i) (is_up (slice_index_or trails i t))
      (records (slice_index_or trails i t))
