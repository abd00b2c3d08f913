-- Lanes and what has arrived, behind one more entry.
use Rattle.std.proofs.Common.{◌≡◌, ◌⊎◌, ℕ, ◌+◌, ◌≤◌, Bool, true, false, List, [], ◌∷◌, ◌++◌, length, map, reverse, refl, ap, sym, ◌∙◌, subst, arith, if◌then◌else◌, Some, None, Option, inl, inr}
use Rattle.std.specs.Prelude.{count_by, All}
use Rattle.std.specs.List.{fold, cons_option}
use Rattle.std.proofs.lemmas.Grind.{flat_map-append}
use Rattle.std.proofs.lemmas.List.{append-nil, length-append, length-map, map-append, reverse-append, reverse-reverse}
use Rattle.std.proofs.lemmas.Bool.{cases_lt}
use Rattle.std.proofs.lemmas.List.Elements.{All-cons, All-head, All-tail}
use Rattle.walter_base.specs.declared.catalog.Catalog.{Catalog}
use Rattle.walter_base.specs.declared.message.Record.{Record}
use Rattle.walter_base.specs.declared.names.SiteId.{SiteId}
use Rattle.walter_base.specs.Names.{same_site}
use Rattle.walter_lane.specs.Lanes.{Sending}
use Rattle.walter_rules.specs.declared.entry.Came.{Came}
use Rattle.walter_rules.specs.declared.entry.Entry.{Entry}
use Rattle.walter_rules.specs.declared.event.Event.{Event}
use Rattle.walter_rules.specs.Knowledge.{site_at}
use Rattle.walter_rules.specs.Layouts.{Layout, header_of}
use Rattle.walter_rules.specs.Merges.{sent_to, put_out_to}
use Rattle.walter_rules.specs.Rule.{rule}
use Rattle.walter_rules.specs.Sending.{Send}
use Rattle.walter_rules.specs.Standing.{Standing, settled}
use Rattle.walter_rules.specs.Trails.{standing, Comes, ruled, met_fault, unread, no_memory, full, IsPutOut, all_out, put_out, drops, IsOnly, carried_one}
use Rattle.walter_outbox.specs.Lanes.{put_to, mets, met_to, posted, stamped_to, carried_by, HavePut, HavePutMore, IsPutWhereFree}
use Rattle.walter_outbox.proofs.Carried.{AgreeOnLanes, out_as_ruled}
use Rattle.walter_outbox.proofs.Putting.{rings_long, none_beyond}

-- what a trail puts out to a site, an entry later
pub put_out_more : (k : SiteId) (trail : List Entry) (e : Entry)
    → put_out_to k (trail ++ e ∷ []) ≡ put_out_to k trail ++ stamped_to e.stamp k e.came.sends
put_out_more k trail e =
    flat_map-append (sent_to k) trail (e ∷ []) ∙ ap (λ l. put_out_to k trail ++ l) (append-nil (sent_to k e))

-- the lanes put what the entry puts out
pub put_grown : (sites : ℕ) (trail : List Entry) (outs new : List Sending) (e : Entry) → HavePut sites trail outs
    → HavePutMore sites e.stamp outs new e.came.sends → HavePut sites (trail ++ e ∷ []) new
put_grown sites trail outs new e have more = record {
  long = rings_long outs new more.rings ∙ have.long;
  each = λ k below.
      more.each k (let l = have.long in omega (arith, below, l))
      ∙ (ap (λ l. l ++ map (posted sites) (stamped_to e.stamp (site_at k) e.came.sends)) (have.each k below)
      ∙ (sym (map-append (posted sites) (put_out_to (site_at k) trail) (stamped_to e.stamp (site_at k) e.came.sends))
      ∙ ap (map (posted sites)) (sym (put_out_more (site_at k) trail e))));
}

-- as many packets to a site as there are
count_from : (k : SiteId) (stamp m : ℕ) (sends : List Send)
    → fold (λ n (s : Send). n + (if same_site s.0 k then 1 else 0)) m sends ≡ m + length (stamped_to stamp k sends)
count_from k stamp m [] = omega arith
count_from k stamp m (s ∷ sends) = by (same_site s.0 k) (λ n. count_from k stamp n sends)
  where
    by : (same : Bool)
        → ((n : ℕ) → fold (λ n (x : Send). n + (if same_site x.0 k then 1 else 0)) n sends ≡ n + length (stamped_to stamp k sends))
        → fold (λ n (x : Send). n + (if same_site x.0 k then 1 else 0)) (m + (if same then 1 else 0)) sends
        ≡ m + length (cons_option (if same then Some (stamp, s.1) else None) (stamped_to stamp k sends))
    by true rest = let c = rest (m + 1) in omega (arith, c)
    by false rest = let c = rest (m + 0) in omega (arith, c)

pub settled_carried : (catalog : Catalog) (i : SiteId) (kept : Option Record) (S : Standing) (k : SiteId)
    → (settled catalog i kept S).carried k ≡ S.carried k
settled_carried catalog i None S k = refl
settled_carried catalog i (Some rec) S k = refl

-- the standing counts what was put out
pub carried_put : (catalog : Catalog) (i k : SiteId) (es : List Entry)
    → (standing catalog i es).carried k ≡ length (put_out_to k (reverse es))
carried_put catalog i k [] = refl
carried_put catalog i k (e ∷ older) =
    let before = carried_put catalog i k older in
    let kept = settled_carried catalog i e.came.kept (standing catalog i older) k in
    let counted : count_by (λ (s : Send). same_site s.0 k) e.came.sends ≡ 0 + length (stamped_to e.stamp k e.came.sends) =
    count_from k e.stamp 0 e.came.sends in
    let turned : reverse (e ∷ older) ≡ reverse older ++ e ∷ [] = reverse-append (e ∷ []) older in
    let long = ap (λ l. length (put_out_to k l)) turned ∙ (ap length (put_out_more k (reverse older) e)
    ∙ length-append (put_out_to k (reverse older)) (stamped_to e.stamp k e.came.sends)) in
    omega (arith, before, kept, counted, long)

-- what lanes have carried, by the standing of a site that has put all on its lanes
pub carried_less : (catalog : Catalog) (i : SiteId) (sites : ℕ) (trail : List Entry) (outs : List Sending) → HavePut sites trail outs
    → (k : SiteId) → carried_by outs k ≤ (standing catalog i (reverse trail)).carried k
carried_less catalog i sites trail outs have k =
    let counts = carried_put catalog i k (reverse trail) ∙ ap (λ l. length (put_out_to k l)) (reverse-reverse trail) in
    elim (cases_lt k.0 sites) [
      | inl below ↦
          let same = ap length (have.each k.0 below) ∙ length-map (put_out_to (site_at k.0) trail) (posted sites) in
          omega (arith, counts, same)
      | inr past ↦
          let none : put_to outs k.0 ≡ [] =
          none_beyond (map (λ (s : Sending). s.put) outs) k.0 []
          (let m = length-map outs (λ (s : Sending). s.put) in let l = have.long in omega (arith, m, l, past)) in
          let z = ap length none in
          omega (arith, z)
    ]

-- what lanes have carried is what the standing counts, where a lane goes
pub carried_agrees : (catalog : Catalog) (i : SiteId) (sites : ℕ) (trail : List Entry) (outs : List Sending) → HavePut sites trail outs
    → AgreeOnLanes (met_to outs) (carried_by outs) (λ k. (standing catalog i (reverse trail)).carried k)
carried_agrees catalog i sites trail outs have k =
    elim (cases_lt k.0 sites) [
      | inl below ↦
          let counts = carried_put catalog i k (reverse trail) ∙ ap (λ l. length (put_out_to k l)) (reverse-reverse trail) in
          let same = ap length (have.each k.0 below) ∙ length-map (put_out_to (site_at k.0) trail) (posted sites) in
          inl (omega (arith, counts, same))
      | inr past ↦
          inr (
            none_beyond (mets outs) k.0 0 (let m = length-map outs (λ (s : Sending). s.met) in let l = have.long in omega (arith, m, l, past)),
            carried_less catalog i sites trail outs have k,
          )
    ]

-- ---- what an event came to, where some of its packets found their lanes full

-- with other packets put out, and others lost
abbrev pub with_sends : List Send → ℕ → Came → Came
with_sends sends dropped came = record came { sends = sends; dropped = dropped }

-- where none is lost all are put out
same_out : (carried : SiteId → ℕ) (planned sends : List Send) (dropped : ℕ) → dropped ≡ 0
    → IsPutOut carried planned sends dropped → sends ≡ planned
same_out carried planned sends dropped none (all_out counts) = refl
same_out carried planned sends dropped none (put_out counts x rest more lost is) =
    ap (λ l. x ∷ l) (same_out (carried_one x.0 counts) rest more lost none is)
same_out carried planned sends dropped none (drops counts x rest more lost low is) = absurd (omega (arith, none))

-- of no packets none is put out, and none lost
none_out : (carried : SiteId → ℕ) (planned sends : List Send) (dropped : ℕ) → planned ≡ []
    → IsPutOut carried planned sends dropped → (sends ≡ []) × (dropped ≡ 0)
none_out carried planned sends dropped none (all_out counts) = (refl, refl)
none_out carried planned sends dropped none (put_out counts x rest more lost is) = absurd cc
none_out carried planned sends dropped none (drops counts x rest more lost low is) = absurd cc

only_out : (carried : SiteId → ℕ) (came : Came) (outcome : _) (flight : Option Record) (sends : List Send) (dropped : ℕ)
    → IsOnly came outcome flight → IsPutOut carried came.sends sends dropped
    → IsOnly (with_sends sends dropped came) outcome flight
only_out carried came outcome flight sends dropped only out =
    let none = none_out carried came.sends sends dropped only.sends out in
    record {
      outcome_is = only.outcome_is;
      wrote = only.wrote;
      flight_is = only.flight_is;
      sends = none.0;
      dropped = none.1;
    }

pub comes_out : (catalog : Catalog) (layout : Layout) (i : SiteId) (S : Standing) (event : Event) (came : Came)
    (sends : List Send) (dropped : ℕ) → came.dropped ≡ 0 → IsPutOut S.carried came.sends sends dropped
    → Comes catalog layout i S event came → Comes catalog layout i S event (with_sends sends dropped came)
comes_out catalog layout i S event came sends dropped none out (ruled fits is) =
    let same = same_out S.carried (rule (header_of layout) catalog i S event).sends came.sends came.dropped none is.sends in
    ruled fits (record {
      outcome = is.outcome;
      wrote = is.wrote;
      flight = is.flight;
      sends = subst (λ (l : List Send). IsPutOut S.carried l sends dropped) same out;
    })
comes_out catalog layout i S event came sends dropped none out (met_fault rec brings fits only) =
    met_fault rec brings fits (only_out S.carried came _ _ sends dropped only out)
comes_out catalog layout i S event came sends dropped none out (unread restart down only) =
    unread restart down (only_out S.carried came _ _ sends dropped only out)
comes_out catalog layout i S event came sends dropped none out (no_memory takes only) =
    no_memory takes (only_out S.carried came _ _ sends dropped only out)
comes_out catalog layout i S event came sends dropped none out (full rec brings much only) =
    full rec brings much (only_out S.carried came _ _ sends dropped only out)

-- what is put out of it wherever there is a place: of what the rule says, or of nothing
pub drops_where_full : (catalog : Catalog) (layout : Layout) (i : SiteId) (S : Standing) (event : Event) (came : Came)
    (met : ℕ → ℕ) (sends : List Send) (dropped : ℕ) → came.dropped ≡ 0
    → IsPutWhereFree met S.carried came.sends sends dropped → Comes catalog layout i S event came
    → ((sends ≡ []) × (dropped ≡ 0))
    ⊎ IsPutWhereFree met S.carried (rule (header_of layout) catalog i S event).sends sends dropped
drops_where_full catalog layout i S event came met sends dropped none out (ruled fits is) =
    let same = same_out S.carried (rule (header_of layout) catalog i S event).sends came.sends came.dropped none is.sends in
    inr (subst (λ (l : List Send). IsPutWhereFree met S.carried l sends dropped) same out)
drops_where_full catalog layout i S event came met sends dropped none out (met_fault rec brings fits only) =
    inl (none_out S.carried came.sends sends dropped only.sends (out_as_ruled met S.carried came.sends sends dropped out))
drops_where_full catalog layout i S event came met sends dropped none out (unread restart down only) =
    inl (none_out S.carried came.sends sends dropped only.sends (out_as_ruled met S.carried came.sends sends dropped out))
drops_where_full catalog layout i S event came met sends dropped none out (no_memory takes only) =
    inl (none_out S.carried came.sends sends dropped only.sends (out_as_ruled met S.carried came.sends sends dropped out))
drops_where_full catalog layout i S event came met sends dropped none out (full rec brings much only) =
    inl (none_out S.carried came.sends sends dropped only.sends (out_as_ruled met S.carried came.sends sends dropped out))

-- what is so of each packet is so of each that is put out
pub all_put : (P : Send → Type 0) (carried : SiteId → ℕ) (planned sends : List Send) (dropped : ℕ)
    → IsPutOut carried planned sends dropped → All P planned → All P sends
all_put P carried planned sends dropped (all_out counts) all = all
all_put P carried planned sends dropped (put_out counts x rest more lost is) all =
    All-cons P x more (All-head P x rest all) (all_put P (carried_one x.0 counts) rest more lost is (All-tail P x rest all))
all_put P carried planned sends dropped (drops counts x rest more lost low is) all =
    all_put P counts rest more lost is (All-tail P x rest all)
