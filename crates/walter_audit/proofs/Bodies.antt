-- The bodies of a journal are read one by one.
use Rattle.std.proofs.Common.{◌≡◌, ◌+◌, ◌<◌, ℕ, zero, suc, List, [], ◌∷◌, ◌++◌, map, take, slice_get, Some, refl, ap, sym, ◌∙◌, subst, arith}
use Rattle.std.specs.Prelude.{All}
use Rattle.std.proofs.lemmas.List.{take-map, take-take}
use Rattle.std.proofs.lemmas.List.Elements.{All-nil, All-cons, All-append, All-contains}
use Rattle.std.proofs.lemmas.Option.{slice_get_within}
use Rattle.walter_base.specs.declared.catalog.Catalog.{Catalog}
use Rattle.walter_base.specs.declared.format.Format.{Format}
use Rattle.walter_base.specs.declared.message.Record.{Record}
use Rattle.walter_base.specs.declared.names.SiteId.{SiteId}
use Rattle.walter_psi.proofs.Lists.{contains_at, slice_get-take}
use Rattle.walter_record.specs.Spelling.{record_spelled, HasRecordSpelling}
use Rattle.walter_rules.specs.Knowledge.{fresh}
use Rattle.walter_rules.specs.Layouts.{Placed, placed, format_at}
use Rattle.walter_rules.specs.Learning.{format_behind}
use Rattle.walter_rules.specs.Records.{CanFollow, CanAllFollow, replayed}
use Rattle.walter_agreement.proofs.Lists.{map_place, place_mapped, take_push}
use Rattle.walter_alone.proofs.TrailJournaled.{follow-push}
use Rattle.walter_audit.specs.Contents.{Content, front_of, spelled_there, HasSpellingThere, as_sent, CanStandIn, CanStand, AreRead, IsUnreadable}
use Rattle.walter_audit.proofs.Readings.{one_reading, front_read}
use Rattle.walter_audit.proofs.Telling.{follows_at}

placed-push : (header : Format) (records : List Record) (rec : Record)
    → placed header (records ++ rec ∷ []) ≡ placed header records ++ (format_at header records, rec) ∷ []
placed-push header [] rec = refl
placed-push header (first ∷ records) rec = ap (λ rest. (header, first) ∷ rest) (placed-push (format_behind first header) records rec)

pub map-push : {X Y : Type 0} (f : X → Y) (xs : List X) (x : X) → map f (xs ++ x ∷ []) ≡ map f xs ++ f x ∷ []
map-push f [] x = refl
map-push f (y ∷ ys) x = ap (λ rest. f y ∷ rest) (map-push f ys x)

-- what stands at a place, and the format in force there
placed_back : (header : Format) (records : List Record) (p : ℕ) (it : Placed) → slice_get (placed header records) p ≡ Some it
    → (slice_get records p ≡ Some it.1) × (it.0 ≡ format_at header (take p records))
placed_back header [] p it at = absurd cc
placed_back header (first ∷ records) zero it at =
    let e : (header, first) ≡ it = cc in
    ((λ t. Some (e t).1), (λ t. (sym e t).0))
placed_back header (first ∷ records) (suc p) it at = placed_back (format_behind first header) records p it at

module _ (catalog : Catalog) (i : SiteId) (content : Content) where
  pub read_none : AreRead catalog i (front_of 0 content) []
  read_none = record {
    spelled = record { is = refl; can = All-nil (HasSpellingThere catalog.sites) };
    follow = tt;
    formats = All-nil CanStand;
  }

  module _ (index : ℕ) (body : List ℕ) (at : slice_get content.bodies index ≡ Some body) (records : List Record)
      (read : AreRead catalog i (front_of index content) records) where
    -- one more can be read
    pub read_more : (rec : Record) → HasRecordSpelling (format_at content.header records) catalog.sites rec
        → body ≡ record_spelled (format_at content.header records) rec → CanStandIn rec (format_at content.header records)
        → CanFollow catalog i (replayed catalog i fresh (map as_sent records)) (as_sent rec)
        → AreRead catalog i (front_of (index + 1) content) (records ++ rec ∷ [])
    read_more rec has spelled stands follows =
        let it : Placed = (format_at content.header records, rec) in
        let grown = placed-push content.header records rec in
        let n : index + 1 ≡ suc index = omega arith in
        record {
          spelled = record {
            is = ap (λ m. take m content.bodies) n ∙ (take_push content.bodies index body at
                ∙ ((λ t. read.spelled.is t ++ spelled t ∷ [])
                ∙ (sym (map-push spelled_there (placed content.header records) it) ∙ ap (map spelled_there) (sym grown))));
            can = subst (All (HasSpellingThere catalog.sites)) (sym grown)
                (All-append (HasSpellingThere catalog.sites) (placed content.header records) (it ∷ []) read.spelled.can
                (All-cons (HasSpellingThere catalog.sites) it [] has (All-nil (HasSpellingThere catalog.sites))));
          };
          follow = subst (λ rs. CanAllFollow catalog i fresh rs) (sym (map-push as_sent records rec))
              (follow-push catalog i fresh (map as_sent records) (as_sent rec) read.follow follows);
          formats = subst (All CanStand) (sym grown)
              (All-append CanStand (placed content.header records) (it ∷ []) read.formats
              (All-cons CanStand it [] stands (All-nil CanStand)));
        }

    -- or none can
    pub unreadable_at : ((rec : Record) → HasRecordSpelling (format_at content.header records) catalog.sites rec
        → body ≡ record_spelled (format_at content.header records) rec → CanStandIn rec (format_at content.header records)
        → ¬ CanFollow catalog i (replayed catalog i fresh (map as_sent records)) (as_sent rec))
        → IsUnreadable catalog i content index
    unreadable_at none = record {
      within = slice_get_within content.bodies index body at;
      records = records;
      before = read;
      wrong = wrong;
    }
      where
        wrong : (more : List Record) → ¬ AreRead catalog i (front_of (index + 1) content) more
        wrong more all =
            let low : index < index + 1 = omega arith in
            let here : slice_get (map spelled_there (placed content.header more)) index ≡ Some body =
            ap (λ bs. slice_get bs index) (sym all.spelled.is) ∙ (slice_get-take content.bodies (index + 1) index low ∙ at) in
            let it = map_place spelled_there (placed content.header more) body index here in
            let back = placed_back content.header more index it.0 it.1 in
            let front = front_read catalog i (front_of (index + 1) content) more all index in
            let bodies : take index (take (index + 1) content.bodies) ≡ take index content.bodies =
            take-take index (index + 1) content.bodies (omega arith) in
            let again : AreRead catalog i (front_of index content) (take index more) =
            subst (λ bs. AreRead catalog i (record { header = content.header; bodies = bs }) (take index more)) bodies front in
            let same : take index more ≡ records = one_reading catalog (front_of index content) (take index more) records
            again.spelled read.spelled in
            let format : it.0.0 ≡ format_at content.header records = back.1 ∙ ap (format_at content.header) same in
            let within = contains_at (placed content.header more) it.0 index it.1 in
            let has = All-contains (HasSpellingThere catalog.sites) (placed content.header more) it.0 all.spelled.can within in
            let stands = All-contains CanStand (placed content.header more) it.0 all.formats within in
            let follows = follows_at catalog i fresh (map as_sent more) index (as_sent it.0.1) all.follow
            (place_mapped as_sent more it.0.1 index back.0) in
            let told : take index (map as_sent more) ≡ map as_sent records = take-map as_sent index more ∙ ap (map as_sent) same in
            none it.0.1
            (subst (λ f. HasRecordSpelling f catalog.sites it.0.1) format has)
            (sym it.2 ∙ ap (λ f. record_spelled f it.0.1) format)
            (subst (λ f. CanStandIn it.0.1 f) format stands)
            (subst (λ rs. CanFollow catalog i (replayed catalog i fresh rs) (as_sent it.0.1)) told follows)
