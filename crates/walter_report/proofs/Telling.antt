-- What is told of a site, where there is one record or one entry more.
use Rattle.std.proofs.Common.{◌≡◌, ℕ, ◌+◌, ◌<◌, ◌≤◌, Bool, false, List, [], ◌∷◌, ◌++◌, length, take, get_or, count_by, ◌⊎◌, inl, inr, Option, Some, None, refl, sym, ap, subst, ◌∙◌, arith}
use Rattle.std.proofs.lemmas.List.{length-append, take_more, length-take-le, get_or_append_left}
use Rattle.std.proofs.lemmas.List.FromFn.{length-map-range_with_len}
use Rattle.std.proofs.Math.Nat.{eq-or-lt_of_le}
use Rattle.std.proofs.Math.Seq.{get_or-append_seam}
use Rattle.walter_base.specs.declared.message.Record.{Record}
use Rattle.walter_base.specs.declared.names.SiteId.{SiteId}
use Rattle.walter_rules.specs.declared.entry.Entry.{Entry}
use Rattle.walter_rules.specs.Knowledge.{site_at}
use Rattle.walter_rules.specs.Learning.{epoch_after}
use Rattle.walter_rules.specs.Standing.{up_after}
use Rattle.walter_report.specs.declared.overview.Overview.{Overview}
use Rattle.walter_report.specs.Sites.{record_in, records, is_up, is_got, last_epoch}
use Rattle.walter_report.specs.Overviews.{Tells, TellEach}
use Rattle.walter_report.proofs.Stands.{up_from-append}
use Rattle.walter_report.proofs.Tallied.{flat_map-take_more}

pub last_epoch-more : (epoch : ℕ) (recs : List Record) (rec : Record)
    → last_epoch epoch (recs ++ rec ∷ []) ≡ epoch_after (Some rec) (last_epoch epoch recs)
last_epoch-more epoch [] rec = refl
last_epoch-more epoch (r ∷ recs) rec = last_epoch-more (epoch_after (Some r) epoch) recs rec

at_most_one : (stable : Option Record) → length (record_in stable) ≤ 1
at_most_one None = omega arith
at_most_one (Some rec) = omega arith

records_few : (es : List Entry) → length (records es) ≤ length es + length es
records_few [] = omega arith
records_few (e ∷ es) =
    omega (
      arith,
      records_few es,
      at_most_one e.came.kept,
      at_most_one e.came.wrote,
      length-append (record_in e.came.kept ++ record_in e.came.wrote) (records es),
      length-append (record_in e.came.kept) (record_in e.came.wrote),
    )

pub records_of_front : (trail : List Entry) (k : ℕ) → k ≤ length trail → length (records (take k trail)) ≤ k + k
records_of_front trail k le = omega (arith, records_few (take k trail), length-take-le k trail le)

-- the entry at this place is taken
pub Tells-more : (overview : Overview) (sites : ℕ) (i : SiteId) (trail : List Entry) (k : ℕ) (e d : Entry)
    → k < length trail → e ≡ get_or trail k d
    → Tells overview sites i (up_after e.event e.came.outcome (is_up (take k trail)))
    (records (take k trail) ++ (record_in e.came.kept ++ record_in e.came.wrote))
    → Tells overview sites i (is_up (take (k + 1) trail)) (records (take (k + 1) trail))
Tells-more overview sites i trail k e d within is tells =
    let up : up_after e.event e.came.outcome (is_up (take k trail)) ≡ is_up (take (k + 1) trail) =
    sym (up_from-append false (take k trail) (e ∷ [])) ∙ ap (λ x. is_up (take k trail ++ x ∷ [])) is
    ∙ ap is_up (sym (take_more trail k d within)) in
    let of_entry = λ (entry : Entry). record_in entry.came.kept ++ record_in entry.came.wrote in
    let recs = sym (flat_map-take_more of_entry trail k e d within is) in
    subst (λ u. Tells overview sites i u (records (take (k + 1) trail))) up
    (subst (λ rs. Tells overview sites i (up_after e.event e.came.outcome (is_up (take k trail))) rs) recs tells)

-- what is told of the sites before, and of one more
pub tell_more : (overviews : List Overview) (overview : Overview) (sites : ℕ) (trails : List (List Entry)) (k : ℕ)
    → length overviews ≡ k
    → ((i : ℕ) (o : Overview) (t : List Entry) → i < k
    → Tells (get_or overviews i o) sites (site_at i) (is_up (get_or trails i t)) (records (get_or trails i t)))
    → ((t : List Entry) → Tells overview sites (site_at k) (is_up (get_or trails k t)) (records (get_or trails k t)))
    → (i : ℕ) (o : Overview) (t : List Entry) → i < k + 1
    → Tells (get_or (overviews ++ overview ∷ []) i o) sites (site_at i) (is_up (get_or trails i t))
    (records (get_or trails i t))
tell_more overviews overview sites trails k many each last i o t within =
    by_place (eq-or-lt_of_le (omega (arith, within)))
  where
    told : Overview → ℕ → Type 0
    told overview i = Tells overview sites (site_at i) (is_up (get_or trails i t)) (records (get_or trails i t))

    by_place : (i ≡ k) ⊎ (i < k) → told (get_or (overviews ++ overview ∷ []) i o) i
    by_place (inl is) =
        let here : get_or (overviews ++ overview ∷ []) k o ≡ overview =
        subst (λ n. get_or (overviews ++ overview ∷ []) n o ≡ overview) many
        (get_or-append_seam overviews overview [] o) in
        subst (λ n. told (get_or (overviews ++ overview ∷ []) n o) n) (sym is)
        (subst (λ ov. told ov k) (sym here) (last t))
    by_place (inr lt) =
        subst (λ ov. told ov i)
        (sym (get_or_append_left overviews (overview ∷ []) o i (omega (arith, lt, many)))) (each i o t lt)

-- so many sites are counted as there are
pub counted_sites : (overview : Overview) (sites : ℕ) (i : SiteId) (up : Bool) (recs : List Record)
    → Tells overview sites i up recs → length overview.got.items ≡ sites
counted_sites overview sites i up recs tells =
    ap length tells.got ∙ length-map-range_with_len (λ k. count_by (is_got i (site_at k)) recs) 0 sites

-- what is told of the site of a trail
pub tells_of : (overviews : List Overview) (overview : Overview) (sites : ℕ) (trails : List (List Entry))
    (trail here : List Entry) (k : ℕ) → TellEach overviews sites trails → k < length trails
    → overview ≡ get_or overviews k overview → trail ≡ get_or trails k trail → here ≡ trail
    → Tells overview sites (site_at k) (is_up here) (records here)
tells_of overviews overview sites trails trail here k told within is are same =
    subst (λ es. Tells overview sites (site_at k) (is_up es) (records es)) (sym (same ∙ are))
    (subst (λ o. Tells o sites (site_at k) (is_up (get_or trails k trail)) (records (get_or trails k trail))) (sym is)
    (told.each k overview trail within))

pub tells_itself : (overview : Overview) (sites : ℕ) (i : SiteId) (up : Bool) (recs : List Record)
    → Tells overview sites i up recs → Tells overview (length overview.got.items) i up recs
tells_itself overview sites i up recs tells =
    subst (λ n. Tells overview n i up recs) (sym (counted_sites overview sites i up recs tells)) tells
