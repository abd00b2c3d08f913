-- A trail, the oldest entry first, tells what a site's standing has, which is made of the entries with the newest
-- first.
use Rattle.std.proofs.Common.{◌≡◌, Bool, false, List, [], ◌∷◌, ◌++◌, reverse, Option, Some, None, refl, sym, ap, ◌∙◌, append_assoc, append-nil}
use Rattle.std.proofs.lemmas.List.{reverse-append, reverse-reverse}
use Rattle.std.proofs.lemmas.List.Concat.{flat_map-append}
use Rattle.walter_base.specs.declared.catalog.Catalog.{Catalog}
use Rattle.walter_base.specs.declared.message.Record.{Record}
use Rattle.walter_base.specs.declared.names.SiteId.{SiteId}
use Rattle.walter_rules.specs.declared.entry.Entry.{Entry}
use Rattle.walter_rules.specs.Standing.{Standing, up_after, records_after, settled}
use Rattle.walter_rules.specs.Trails.{standing}
use Rattle.walter_report.specs.Sites.{up_from, is_up, record_in, records}

newest_last : (e : Entry) (older : List Entry) → reverse (e ∷ older) ≡ reverse older ++ e ∷ []
newest_last e older = reverse-append (e ∷ []) older

pub up_from-append : (up : Bool) (es others : List Entry) → up_from up (es ++ others) ≡ up_from (up_from up es) others
up_from-append up [] others = refl
up_from-append up (e ∷ es) others = up_from-append (up_after e.event e.came.outcome up) es others

up_settled : (catalog : Catalog) (i : SiteId) (kept : Option Record) (S : Standing)
    → (settled catalog i kept S).up ≡ S.up
up_settled catalog i None S = refl
up_settled catalog i (Some rec) S = refl

up_of : (catalog : Catalog) (i : SiteId) (es : List Entry) → (standing catalog i es).up ≡ is_up (reverse es)
up_of catalog i [] = refl
up_of catalog i (e ∷ older) =
    ap (up_after e.event e.came.outcome)
    (up_settled catalog i e.came.kept (standing catalog i older) ∙ up_of catalog i older)
    ∙ sym (up_from-append false (reverse older) (e ∷ [])) ∙ ap (up_from false) (sym (newest_last e older))

pub is_up_stands : (catalog : Catalog) (i : SiteId) (trail : List Entry)
    → (standing catalog i (reverse trail)).up ≡ is_up trail
is_up_stands catalog i trail = up_of catalog i (reverse trail) ∙ ap is_up (reverse-reverse trail)

records_settled : (catalog : Catalog) (i : SiteId) (kept : Option Record) (S : Standing)
    → (settled catalog i kept S).records ≡ S.records ++ record_in kept
records_settled catalog i None S = sym (append-nil S.records)
records_settled catalog i (Some rec) S = refl

records_more : (wrote : Option Record) (before : List Record) → records_after wrote before ≡ before ++ record_in wrote
records_more None before = sym (append-nil before)
records_more (Some rec) before = refl

records_of : (catalog : Catalog) (i : SiteId) (es : List Entry) → (standing catalog i es).records ≡ records (reverse es)
records_of catalog i [] = refl
records_of catalog i (e ∷ older) =
    let before = standing catalog i older in
    let own = record_in e.came.kept ++ record_in e.came.wrote in
    records_more e.came.wrote (settled catalog i e.came.kept before).records
    ∙ ap (λ t. t ++ record_in e.came.wrote) (records_settled catalog i e.came.kept before)
    ∙ append_assoc before.records (record_in e.came.kept) (record_in e.came.wrote)
    ∙ ap (λ t. t ++ own) (records_of catalog i older)
    ∙ ap (λ t. records (reverse older) ++ t) (sym (append-nil own))
    ∙ sym (flat_map-append (λ entry. record_in entry.came.kept ++ record_in entry.came.wrote) (reverse older) (e ∷ []))
    ∙ ap records (sym (newest_last e older))

pub records_stand : (catalog : Catalog) (i : SiteId) (trail : List Entry)
    → (standing catalog i (reverse trail)).records ≡ records trail
records_stand catalog i trail = records_of catalog i (reverse trail) ∙ ap records (reverse-reverse trail)
