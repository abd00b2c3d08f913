-- What has a place in a format.
use Rattle.std.proofs.Common.{◌≡◌, ◌≤◌, ℕ, length, arith}
use Rattle.walter_base.specs.declared.format.Format.{Format}
use Rattle.walter_base.specs.declared.format.Format.TheVariants.{First, Second}
use Rattle.walter_base.specs.declared.message.Record.{Record}
use Rattle.walter_base.specs.declared.message.Record.TheVariants.{Boot, Own, Got, Seen, Prepared, Released, SlowBegin, SlowEnd, Marks, Format as FormatRecord}
use Rattle.walter_base.specs.Sizes.{most_in}
use Rattle.walter_record.specs.Spelling.{FitsFormat, HasRecordSpelling}

-- eight sites have one in each
pub most_any : (format : Format) (sites : ℕ) → sites ≤ 8 → sites ≤ most_in format
most_any First sites few = few
most_any Second sites few = omega (arith, few)

-- and so has a record that has a spelling in it
pub fits_format : (format : Format) (sites : ℕ) (rec : Record) → HasRecordSpelling format sites rec → FitsFormat format rec
fits_format format sites (Boot epoch) has = tt
fits_format format sites (Own seq tx) has = omega (arith, has.among, has.fits)
fits_format format sites (Got from seq tx) has = omega (arith, has.among, has.fits)
fits_format format sites (Seen from seq) has = tt
fits_format format sites (Prepared from slow tid objects) has = tt
fits_format format sites (Released from slow) has = tt
fits_format format sites (SlowBegin slow tx) has = omega (arith, has.among, has.fits)
fits_format format sites (SlowEnd slow) has = tt
fits_format format sites (Marks durable visible) has = tt
fits_format format sites FormatRecord has = tt

pub ruleset formats = (most_any, fits_format)
