-- The own commits of sites, behind one more record of a site.
use Rattle.std.proofs.Common.{◌≡◌, Bool, true, false, cond, List, [], ◌∷◌, ◌++◌, map, append-nil, Option, Some, None, refl, ap, sym, ◌∙◌, if◌then◌else◌}
use Rattle.std.proofs.lemmas.List.{map-append}
use Rattle.std.proofs.lemmas.List.Elements.{filter-append}
use Rattle.walter_base.specs.declared.message.Record.{Record}
use Rattle.walter_base.specs.declared.message.Record.TheVariants.{Own, Got}
use Rattle.walter_base.specs.declared.names.SiteId.{SiteId}
use Rattle.walter_base.specs.declared.names.Tid.{Tid}
use Rattle.walter_base.specs.Names.{same_site}
use Rattle.walter_base.proofs.NameTests.{same_site-true}
use Rattle.walter_rules.specs.declared.held.Held.{Held}
use Rattle.walter_rules.specs.Learning.{log_after}
use Rattle.walter_rules.specs.Log.{is_of, of_site}
use Rattle.walter_psi_of.specs.Accounts.{commits_of, own, own_commit}

-- the own commits of a site, by its log
abbrev pub own_of : SiteId → List Held → List Tid
own_of i log = map (λ h. h.tx.tid) (of_site i log)

own_more : (i : SiteId) (h : Held) (log : List Held) → own_of i (log ++ h ∷ []) ≡ own_of i log ++ own i h.tx.tid
own_more i h log =
    ap (map (λ o. o.tx.tid)) (filter-append (is_of i) log (h ∷ []))
    ∙ (map-append (λ o. o.tx.tid) (of_site i log) (of_site i (h ∷ []))
    ∙ ap (λ l. own_of i log ++ l) (by (is_of i h)))
  where
    by : (mine : Bool) → map (λ (o : Held). o.tx.tid) (cond mine (h ∷ []) []) ≡ (if mine then h.tx.tid ∷ [] else [])
    by true = refl
    by false = refl

own_after : (i : SiteId) (rec : Option Record) (log : List Held)
    → own_of i (log_after rec log) ≡ own_of i log ++ own_commit i rec
own_after i None log = sym (append-nil (own_of i log))
own_after i (Some (Own seq tx)) log = own_more i (record { seq = seq; tx = tx }) log
own_after i (Some (Got from seq tx)) log = own_more i (record { seq = seq; tx = tx }) log
own_after i (Some rec) log = sym (append-nil (own_of i log))

-- what a record tells is the site's own
own_here : (i : SiteId) (tid : Tid) → commits_of i (own i tid) ≡ own i tid
own_here i tid = by (same_site tid.site i) refl
  where
    by : (mine : Bool) → same_site tid.site i ≡ mine
        → commits_of i (if mine then tid ∷ [] else []) ≡ (if mine then tid ∷ [] else [])
    by true is = ap (λ b. cond b (tid ∷ []) []) is
    by false is = refl

told_here : (i : SiteId) (rec : Option Record) → commits_of i (own_commit i rec) ≡ own_commit i rec
told_here i None = refl
told_here i (Some (Own seq tx)) = own_here i tx.tid
told_here i (Some (Got from seq tx)) = own_here i tx.tid
told_here i (Some rec) = refl

own_there : (i other : SiteId) (tid : Tid) → same_site i other ≡ false → commits_of other (own i tid) ≡ []
own_there i other tid apart = by (same_site tid.site i) refl
  where
    by : (mine : Bool) → same_site tid.site i ≡ mine → commits_of other (if mine then tid ∷ [] else []) ≡ []
    by true is =
        ap (λ k. cond (same_site k other) (tid ∷ []) []) (same_site-true tid.site i is)
        ∙ ap (λ b. cond b (tid ∷ []) []) apart
    by false is = refl

told_there : (i other : SiteId) (rec : Option Record) → same_site i other ≡ false
    → commits_of other (own_commit i rec) ≡ []
told_there i other None apart = refl
told_there i other (Some (Own seq tx)) apart = own_there i other tx.tid apart
told_there i other (Some (Got from seq tx)) apart = own_there i other tx.tid apart
told_there i other (Some rec) apart = refl

commits_more : (i k : SiteId) (rec : Option Record) (tids : List Tid)
    → commits_of k (tids ++ own_commit i rec) ≡ commits_of k tids ++ commits_of k (own_commit i rec)
commits_more i k rec tids = filter-append (λ tid. same_site tid.site k) tids (own_commit i rec)

-- the commits tell a log, and do so behind a record
pub own_told : (i : SiteId) (rec : Option Record) (log : List Held) (tids : List Tid) → commits_of i tids ≡ own_of i log
    → commits_of i (tids ++ own_commit i rec) ≡ own_of i (log_after rec log)
own_told i rec log tids told =
    commits_more i i rec tids ∙ ((λ t. told t ++ told_here i rec t) ∙ sym (own_after i rec log))

-- those of another site stay
pub others_told : (i other : SiteId) (rec : Option Record) (tids : List Tid) → same_site i other ≡ false
    → commits_of other (tids ++ own_commit i rec) ≡ commits_of other tids
others_told i other rec tids apart =
    commits_more i other rec tids
    ∙ (ap (λ l. commits_of other tids ++ l) (told_there i other rec apart) ∙ append-nil (commits_of other tids))
