-- Each record of an entry has a spelling in the format in force at its place.
use Rattle.std.proofs.Common.{◌≤◌, ℕ, Option, Some, None, IfSome, sym, subst, arith}
use Rattle.walter_base.specs.declared.format.Format.{Format}
use Rattle.walter_base.specs.declared.format.Format.TheVariants.{First, Second}
use Rattle.walter_base.specs.declared.message.Record.{Record}
use Rattle.walter_base.specs.declared.message.Record.TheVariants.{Boot, Own, Got, Seen, Prepared, Released, SlowBegin, SlowEnd, Marks, Format as FormatRecord}
use Rattle.walter_base.specs.Sizes.{most_in}
use Rattle.walter_rules.specs.declared.entry.Came.{Came}
use Rattle.walter_rules.specs.declared.entry.Entry.{Entry}
use Rattle.walter_rules.specs.Learning.{format_behind, format_after as behind}
use Rattle.walter_rules.specs.Records.{IsRecordAmong}
use Rattle.walter_report.specs.Traces.{HasSpellings, IsSpelledIn, AreSpelledIn, format_after}

-- the second format has a place for each site for which the first has one
most_rises : (sites : ℕ) (format : Format) → sites ≤ most_in format → sites ≤ most_in Second
most_rises sites First few = omega (arith, few)
most_rises sites Second few = few

most_behind : (sites : ℕ) (rec : Record) (format : Format) → sites ≤ most_in format
    → sites ≤ most_in (format_behind rec format)
most_behind sites FormatRecord format few = most_rises sites format few
most_behind sites rec format few = few

fits_behind : (sites : ℕ) (found : Option Record) (format : Format) → sites ≤ most_in format
    → sites ≤ most_in (behind found format)
fits_behind sites None format few = few
fits_behind sites (Some rec) format few = most_behind sites rec format few

-- the format in force behind an entry has a place for each site too
pub fits_after : (sites : ℕ) (came : Came) (format : Format) → sites ≤ most_in format
    → sites ≤ most_in (format_after came format)
fits_after sites came format few = fits_behind sites came.wrote (behind came.kept format)
    (fits_behind sites came.kept format few)

spelled : (sites : ℕ) (format : Format) (rec : Record) → sites ≤ most_in format → IsRecordAmong sites rec
    → IsSpelledIn format rec
spelled sites format (Boot epoch) few among = (among, tt)
spelled sites format (Own seq tx) few among = (among.1, subst (λ n. n ≤ most_in format) (sym among.0) few)
spelled sites format (Got from seq tx) few among = (among.1, subst (λ n. n ≤ most_in format) (sym among.0) few)
spelled sites format (Seen from seq) few among = (among, tt)
spelled sites format (Prepared from slow tid objects) few among = (among, tt)
spelled sites format (Released from slow) few among = (among, tt)
spelled sites format (SlowBegin slow tx) few among = (among.1, subst (λ n. n ≤ most_in format) (sym among.0) few)
spelled sites format (SlowEnd slow) few among = (among, tt)
spelled sites format (Marks durable visible) few among = (among, tt)
spelled sites format FormatRecord few among = (among, tt)

spelled_there : (sites : ℕ) (format : Format) (found : Option Record) → sites ≤ most_in format
    → IfSome found (IsRecordAmong sites) → IfSome found (IsSpelledIn format)
spelled_there sites format None few among = tt
spelled_there sites format (Some rec) few among = spelled sites format rec few among

pub are_spelled : (sites : ℕ) (format : Format) (e : Entry) → sites ≤ most_in format → HasSpellings sites e
    → AreSpelledIn format e.came
are_spelled sites format e few has = record {
  kept = spelled_there sites format e.came.kept few has.kept;
  wrote = spelled_there sites (behind e.came.kept format) e.came.wrote (fits_behind sites e.came.kept format few)
      has.wrote;
  flight = spelled_there sites (format_after e.came format) e.came.flight (fits_after sites e.came format few)
      has.flight;
}
