-- The bodies of a journal spell records in one way, and what can be read can be read up to each place.
use Rattle.std.proofs.Common.{◌≡◌, ℕ, zero, suc, List, [], ◌∷◌, map, take, slice_get, Some, refl, ap, sym, ◌∙◌, subst}
use Rattle.std.specs.Prelude.{All}
use Rattle.std.proofs.lemmas.List.{take-map}
use Rattle.std.proofs.lemmas.List.Elements.{All-head, All-tail, All-take}
use Rattle.walter_base.specs.declared.catalog.Catalog.{Catalog}
use Rattle.walter_base.specs.declared.format.Format.{Format}
use Rattle.walter_base.specs.declared.message.Record.{Record}
use Rattle.walter_base.specs.declared.names.SiteId.{SiteId}
use Rattle.walter_record.specs.Spelling.{record_spelled}
use Rattle.walter_record.proofs.Records.{same_record}
use Rattle.walter_rules.specs.Knowledge.{fresh}
use Rattle.walter_rules.specs.Layouts.{placed}
use Rattle.walter_rules.specs.Learning.{format_behind}
use Rattle.walter_rules.specs.Records.{CanAllFollow}
use Rattle.walter_audit.specs.Contents.{Content, front_of, spelled_there, HasSpellingThere, AreSpelled, as_sent, CanStand, AreRead}
use Rattle.walter_audit.proofs.Clear.{follow_take}

-- the same bodies spell the same records
same_reading : (sites : ℕ) (header : Format) (xs ys : List Record) → All (HasSpellingThere sites) (placed header xs)
    → All (HasSpellingThere sites) (placed header ys)
    → map spelled_there (placed header xs) ≡ map spelled_there (placed header ys) → xs ≡ ys
same_reading sites header [] [] a b e = refl
same_reading sites header [] (y ∷ ys) a b e = absurd cc
same_reading sites header (x ∷ xs) [] a b e = absurd cc
same_reading sites header (x ∷ xs) (y ∷ ys) a b e =
    let P = HasSpellingThere sites in
    let first : record_spelled header x ≡ record_spelled header y = cc in
    let others : map spelled_there (placed (format_behind x header) xs) ≡ map spelled_there (placed (format_behind y header) ys) = cc in
    let here = same_record header sites x y (All-head P (header, x) (placed (format_behind x header) xs) a)
    (All-head P (header, y) (placed (format_behind y header) ys) b) first in
    let behind = All-tail P (header, y) (placed (format_behind y header) ys) b in
    let rest = same_reading sites (format_behind x header) xs ys
    (All-tail P (header, x) (placed (format_behind x header) xs) a)
    (subst (λ z. All P (placed (format_behind z header) ys)) (sym here) behind)
    (others ∙ ap (λ z. map spelled_there (placed (format_behind z header) ys)) (sym here)) in
    λ t. here t ∷ rest t

pub one_reading : (catalog : Catalog) (content : Content) (xs ys : List Record) → AreSpelled catalog content xs
    → AreSpelled catalog content ys → xs ≡ ys
one_reading catalog content xs ys a b = same_reading catalog.sites content.header xs ys a.can b.can (sym a.is ∙ b.is)

-- a front of the records stands in the same formats
pub placed-take : (header : Format) (n : ℕ) (records : List Record)
    → placed header (take n records) ≡ take n (placed header records)
placed-take header zero records = refl
placed-take header (suc n) [] = refl
placed-take header (suc n) (rec ∷ records) = ap (λ rest. (header, rec) ∷ rest)
    (placed-take (format_behind rec header) n records)

pub placed_at : (header : Format) (records : List Record) (p : ℕ) (rec : Record) → slice_get records p ≡ Some rec
    → (format : Format) × (slice_get (placed header records) p ≡ Some (format, rec))
placed_at header [] p rec at = absurd cc
placed_at header (first ∷ records) zero rec at = let e : first ≡ rec = cc in (header, λ t. Some (header, e t))
placed_at header (first ∷ records) (suc p) rec at = placed_at (format_behind first header) records p rec at

-- and can be read
pub front_read : (catalog : Catalog) (i : SiteId) (content : Content) (records : List Record)
    → AreRead catalog i content records → (n : ℕ) → AreRead catalog i (front_of n content) (take n records)
front_read catalog i content records r n =
    let same = placed-take content.header n records in
    record {
      spelled = record {
        is = ap (take n) r.spelled.is ∙ (take-map spelled_there n (placed content.header records)
            ∙ ap (map spelled_there) (sym same));
        can = subst (All (HasSpellingThere catalog.sites)) (sym same)
            (All-take (HasSpellingThere catalog.sites) n (placed content.header records) r.spelled.can);
      };
      follow = subst (λ rs. CanAllFollow catalog i fresh rs) (take-map as_sent n records)
          (follow_take catalog i fresh (map as_sent records) n r.follow);
      formats = subst (All CanStand) (sym same) (All-take CanStand n (placed content.header records) r.formats);
    }
