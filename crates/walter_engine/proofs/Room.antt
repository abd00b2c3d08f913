-- How many bytes records need, by how they are spelled.
use Rattle.std.proofs.Common.{◌≡◌, ℕ, ◌+◌, ◌≤◌, List, [], ◌∷◌, length, map, false, refl, ap, ◌∙◌, arith, length-append}
use Rattle.std.specs.Prelude.{Bool, sum_by}
use Rattle.std.specs.List.{AllByRecursion}
use Rattle.std.proofs.lemmas.List.Concat.{length-flat_map}
use Rattle.std.proofs.lemmas.List.Elements.{recursion_from_All}
use Rattle.std.proofs.lemmas.List.Sums.{sum_by-cons}
use Rattle.walter_base.specs.declared.format.Format.{Format}
use Rattle.walter_base.specs.declared.message.Record.{Record}
use Rattle.walter_base.specs.declared.message.Record.TheVariants.{Own, Got, SlowBegin}
use Rattle.walter_base.specs.Sizes.{most_in, CanBeRecorded}
use Rattle.walter_checkpoint.proofs.Packs.{length-pack}
use Rattle.walter_checkpoint.specs.Packs.{entry_of, pack_of, renewed_by}
use Rattle.walter_engine.specs.Contents.{spelled_there, spelled, HasSpellingThere, HaveSpellings}
use Rattle.walter_engine.specs.Restarts.{left_over}
use Rattle.walter_engine.proofs.Packing.{entry_size}
use Rattle.walter_journal.specs.Journals.{need_of as body_need}
use Rattle.walter_record.specs.Spelling.{record_spelled, HasRecordSpelling, FitsFormat}
use Rattle.walter_record.proofs.Records.{length-record_spelled, at_most}
use Rattle.walter_rules.specs.Layouts.{Layout, one_area, two_areas, header_of, Placed, placed, need_of, need_there, packed_size, packed_use, left_behind}
use Rattle.walter_rules.specs.Records.{IsRecordAmong}
use Rattle.walter_rules.specs.Standing.{Standing}

-- what has a spelling in the format has a place for its start there
pub fits_format : (format : Format) (sites : ℕ) (rec : Record) → HasRecordSpelling format sites rec
    → FitsFormat format rec
fits_format format sites (Own seq tx) has = omega (arith, has.fits, has.among)
fits_format format sites (Got from seq tx) has = omega (arith, has.fits, has.among)
fits_format format sites (SlowBegin slow tx) has = omega (arith, has.fits, has.among)
fits_format format sites rec has = tt

-- and so has a record of a site among as many as the format has places for
pub fits_among : (format : Format) (sites : ℕ) (rec : Record) → sites ≤ most_in format → IsRecordAmong sites rec
    → FitsFormat format rec
fits_among format sites (Own seq tx) most is = omega (arith, most, is.0)
fits_among format sites (Got from seq tx) most is = omega (arith, most, is.0)
fits_among format sites (SlowBegin slow tx) most is = omega (arith, most, is.0)
fits_among format sites rec most is = tt

pub need_is : (format : Format) (rec : Record) → FitsFormat format rec
    → body_need (record_spelled format rec) ≡ need_of format rec
need_is format rec fits = omega (arith, length-record_spelled format rec fits)

-- a spelling is short enough for a body
pub short_enough : (format : Format) (rec : Record) → CanBeRecorded rec → FitsFormat format rec
    → length (record_spelled format rec) ≤ 65536
short_enough format rec can fits = omega (arith, at_most format rec can fits)

-- a layout is for so many sites
abbrev pub IsFor : ℕ → Layout → Type 0
IsFor sites (one_area capacity header) = Unit {0}
IsFor sites (two_areas capacity n header) = n ≡ sites

-- what a measure of bodies is by that of their records
sums_by : (sites : ℕ) (size : List ℕ → ℕ) (of : Placed → ℕ)
    → ((it : Placed) → HasSpellingThere sites it → size (spelled_there it) ≡ of it) → (all : List Placed)
    → AllByRecursion (HasSpellingThere sites) all → sum_by size (map spelled_there all) ≡ sum_by of all
sums_by sites size of same [] has = refl
sums_by sites size of same (it ∷ all) has =
    omega (
      arith,
      sum_by-cons size (spelled_there it) (map spelled_there all),
      sum_by-cons of it all,
      same it has.0,
      sums_by sites size of same all has.1,
    )

module _ (header : Format) (sites : ℕ) (records : List Record) (all : HaveSpellings header sites records) where
  spelled_all : AllByRecursion (HasSpellingThere sites) (placed header records)
  spelled_all = recursion_from_All (HasSpellingThere sites) (placed header records) all

  need_is_there : (it : Placed) → HasSpellingThere sites it → 5 + length (spelled_there it) ≡ need_there it
  need_is_there it has = omega (arith, length-record_spelled it.0 it.1 (fits_format it.0 sites it.1 has.spelling))

  sizes_are : sum_by (λ body. 5 + length body) (spelled header records) ≡ sum_by need_there (placed header records)
  sizes_are = sums_by sites (λ body. 5 + length body) need_there need_is_there (placed header records) spelled_all

  packed_are : length (renewed_by sites (spelled header records)) ≡ 9 + sum_by (packed_size sites) (placed header records)
  packed_are =
      omega (
        arith,
        length-append (pack_of sites (spelled header records)) (0 ∷ []),
        length-pack sites (spelled header records),
        length-flat_map (entry_of sites) (spelled header records),
        sums_by sites (λ body. length (entry_of sites body)) (packed_size sites) (entry_size sites) (placed header records) spelled_all,
      )

-- what is left behind the bodies of a site that is down, is what its records leave
pub left_packed : (layout : Layout) (sites : ℕ) (S : Standing) → S.up ≡ false → IsFor sites layout
    → HaveSpellings (header_of layout) sites S.records
    → left_over layout (spelled (header_of layout) S.records) ≡ left_behind layout S
left_packed (one_area capacity header) sites S down for_ all = omega (arith, sizes_are header sites S.records all)
left_packed (two_areas capacity n header) sites S down for_ all =
    let there = placed header S.records in
    let packed : packed_use n S.up there ≡ sum_by (packed_size sites) there =
    ap (λ (b : Bool). packed_use n b there) down ∙ ap (λ k. sum_by (packed_size k) there) for_ in
    let pack : length (renewed_by n (spelled header S.records)) ≡ 9 + sum_by (packed_size sites) there =
    ap (λ k. length (renewed_by k (spelled header S.records))) for_ ∙ packed_are header sites S.records all in
    omega (arith, packed, pack)
