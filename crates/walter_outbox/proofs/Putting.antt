-- The loop that puts packets on their lanes.
use Rattle.std.proofs.Common.{◌≡◌, ◌⊎◌, inl, inr, ℕ, zero, suc, ◌+◌, ◌<◌, ◌≤◌, nat_eq, Bool, true, false, List, [], ◌∷◌, ◌++◌, length, map, take, drop, get_or, set, refl, ap, sym, ◌∙◌, subst, arith, if◌then◌else◌, Some, None, Option}
use Rattle.std.specs.Prelude.{filter_map}
use Rattle.std.specs.List.{remove}
use Rattle.std.proofs.lemmas.Bool.{cases_eq, cases_lt, eq-eqb, ne_eqb}
use Rattle.std.proofs.lemmas.List.{append-nil, append_assoc, length-append, length-map, map-append, take_more, take_all, drop_all, set-get_or, get_or-map, length-drop}
use Rattle.std.proofs.lemmas.List.Elements.{filter_map-append}
use Rattle.walter_base.specs.Names.{same_site}
use Rattle.walter_lane.specs.Lanes.{Sending}
use Rattle.walter_lane.specs.declared.posted.Posted.{Posted}
use Rattle.walter_packet.specs.Framed.{FramedBytes, frame_of}
use Rattle.walter_rules.specs.Knowledge.{site_at}
use Rattle.walter_rules.specs.Merges.{Stamped}
use Rattle.walter_rules.specs.Sending.{Send}
use Rattle.walter_outbox.specs.Lanes.{put_to, out_rings, mets, met_to, posted, stamped_to, carried_by, HavePutOne, IsFull, IsPutWhereFree, none_left, HavePutMore}
use Rattle.walter_outbox.proofs.Carried.{behind, behind_last, put_last, drop_last}
use Rattle.walter_outbox.proofs.Fields.{field_read, field_set_same, field_set_other, field_kept}

-- ---- no packet

-- where there are no frames, there is nothing to put out
pub none_sent : {A : Type 0} (frames : List A) (sends : List Send) → length frames ≡ length sends
    → length frames ≡ 0 → sends ≡ []
none_sent frames [] same none = refl
none_sent frames (s ∷ sends) same none = absurd (omega (arith, same, none))

pub none_more : (sites stamp : ℕ) (outs : List Sending) → HavePutMore sites stamp outs outs []
none_more sites stamp outs = record {
  rings = refl;
  same_mets = refl;
  each = λ k below. sym (append-nil (put_to outs k));
}

-- ---- one packet

-- a packet was put on the lane at this place
pub put_here : (outs : List Sending) (to : ℕ) (old new : Sending) (post : Posted) → to < length outs
    → old ≡ get_or outs to old → new ≡ record old { put = old.put ++ post ∷ [] }
    → HavePutOne outs (set outs to new) to post
put_here outs to old new post within is more = record {
  rings = field_kept (λ (s : Sending). s.ring) outs to old new is (ap (λ (s : Sending). s.ring) more);
  same_mets = field_kept (λ (s : Sending). s.met) outs to old new is (ap (λ (s : Sending). s.met) more);
  each = λ k below. elim (cases_eq k to) [
    | inl here ↦
        subst (λ n. put_to (set outs to new) n ≡ put_to outs n ++ (if nat_eq to n then post ∷ [] else [])) (sym here)
        (field_set_same (λ (s : Sending). s.put) outs to new [] within
        ∙ (ap (λ (s : Sending). s.put) more
        ∙ (ap (λ l. l ++ post ∷ []) (sym (field_read (λ (s : Sending). s.put) outs to old [] within is))
        ∙ ap (λ (b : Bool). put_to outs to ++ (if b then post ∷ [] else [])) (sym (eq-eqb to to refl)))))
    | inr apart ↦
        field_set_other (λ (s : Sending). s.put) outs to new k [] apart
        ∙ (sym (append-nil (put_to outs k))
        ∙ ap (λ (b : Bool). put_to outs k ++ (if b then post ∷ [] else [])) (sym (ne_eqb to k (λ same. apart (sym same)))))
  ];
}

-- the lane at this place is full
pub put_full : (outs : List Sending) (to : ℕ) (old new : Sending) → to < length outs → old ≡ get_or outs to old
    → new ≡ old → (old.met + 1024 ≤ length old.put) ⊎ (length old.put ≡ 4294967295)
    → (set outs to new ≡ outs) × IsFull (met_to outs to) (length (put_to outs to))
put_full outs to old new within is same full = (
  ap (λ (s : Sending). set outs to s) (same ∙ is) ∙ set-get_or outs to old,
  subst (λ m. IsFull m (length (put_to outs to))) (sym (field_read (λ (s : Sending). s.met) outs to old 0 within is))
      (subst (λ (l : List Posted). IsFull old.met (length l)) (sym (field_read (λ (s : Sending). s.put) outs to old [] within is))
      full),
)

-- ---- the loop

remove_here : (front : List Send) (s : Send) (rest : List Send) → remove (front ++ s ∷ rest) (length front) ≡ front ++ rest
remove_here [] s rest = refl
remove_here (x ∷ front) s rest = ap (λ l. x ∷ l) (remove_here front s rest)

get_here : (front : List Send) (s d : Send) (rest : List Send) → get_or (front ++ s ∷ rest) (length front) d ≡ s
get_here [] s d rest = refl
get_here (x ∷ front) s d rest = get_here front s d rest

drop_next : (xs : List Send) (n : ℕ) (d : Send) → n < length xs → drop n xs ≡ get_or xs n d ∷ drop (suc n) xs
drop_next [] n d within = absurd (omega (arith, within))
drop_next (x ∷ xs) zero d within = refl
drop_next (x ∷ xs) (suc n) d within = drop_next xs n d (omega (arith, within))

drop_split : (xs : List Send) (n : ℕ) (d : Send) → n < length xs → drop n xs ≡ get_or xs n d ∷ drop (n + 1) xs
drop_split xs n d within =
    let more : suc n ≡ n + 1 = omega arith in
    subst (λ m. drop n xs ≡ get_or xs n d ∷ drop m xs) more (drop_next xs n d within)

pub none_beyond : {X : Type 0} (xs : List X) (n : ℕ) (d : X) → length xs ≤ n → get_or xs n d ≡ d
none_beyond [] n d past = refl
none_beyond (x ∷ xs) zero d past = absurd (omega (arith, past))
none_beyond (x ∷ xs) (suc n) d past = none_beyond xs n d (omega (arith, past))

frame_at : (yielded : List FramedBytes) (framed d : FramedBytes) (rest : List FramedBytes)
    → get_or (yielded ++ framed ∷ rest) (length yielded) d ≡ framed
frame_at [] framed d rest = refl
frame_at (x ∷ yielded) framed d rest = frame_at yielded framed d rest

pub done_within : (sites : ℕ) (planned : List Send) (frames : List FramedBytes) (yielded rest : List FramedBytes)
    (framed : FramedBytes) → frames ≡ map (λ (x : Send). frame_of sites x.1) planned
    → yielded ++ framed ∷ rest ≡ frames → length yielded < length planned
done_within sites planned frames yielded rest framed are parts =
    let a = ap length parts in
    let b = ap length are in
    let l = length-map planned (λ (x : Send). frame_of sites x.1) in
    let m = length-append yielded (framed ∷ rest) in
    omega (arith, a, b, l, m)

-- where nothing was carried there is a place
never_full : (met carried : ℕ) → carried ≡ 0 → IsFull met carried → ⊥
never_full met carried none (inl many) = omega (arith, none, many)
never_full met carried none (inr spent) = omega (arith, none, spent)

-- so many packets were handled, and these of them put out
pub record IsPutting (outs new : List Sending) (planned sends front : List Send) (count done dropped : ℕ) : Type 0 where
  pub are : sends ≡ front ++ drop done planned
  pub counted : count ≡ length front
  pub out : IsPutWhereFree (met_to outs) (carried_by outs) (take done planned) front dropped
  pub rings : out_rings new ≡ out_rings outs
  pub same_mets : mets new ≡ mets outs
  pub carried : (k : ℕ) → k < length outs → length (put_to new k) ≡ behind front (carried_by outs) (site_at k)

-- they were put with this stamp
abbrev pub HavePutFront : ℕ → ℕ → List Sending → List Sending → List Send → Type 0
HavePutFront sites stamp outs new front =
    (k : ℕ) → k < length outs → put_to new k ≡ put_to outs k ++ map (posted sites) (stamped_to stamp (site_at k) front)

pub rings_long : (outs new : List Sending) → out_rings new ≡ out_rings outs → length new ≡ length outs
rings_long outs new same =
    sym (length-map new (λ (s : Sending). s.ring)) ∙ (ap length same ∙ length-map outs (λ (s : Sending). s.ring))

if_length : (b : Bool) (post : Posted) (n : ℕ) (l : List Posted) → length l ≡ n
    → length (l ++ (if b then post ∷ [] else [])) ≡ (if b then n + 1 else n)
if_length true post n l is = length-append l (post ∷ []) ∙ ap (λ m. m + 1) is
if_length false post n l is = ap length (append-nil l) ∙ is

module _ (outs mid new : List Sending) (planned sends front : List Send) (count done dropped : ℕ) (s : Send)
    (at : IsPutting outs mid planned sends front count done dropped) (within : done < length planned) where
  -- it is the next
  pub next_is : s ≡ get_or sends count s → s ≡ get_or planned done s
  next_is is =
      is ∙ (ap (λ (l : List Send). get_or l count s) at.are
      ∙ (ap (λ n. get_or (front ++ drop done planned) n s) at.counted
      ∙ (ap (λ (l : List Send). get_or (front ++ l) (length front) s) (drop_split planned done s within)
      ∙ get_here front (get_or planned done s) s (drop (done + 1) planned))))

  module _ (is : s ≡ get_or planned done s) where
    parted : sends ≡ front ++ s ∷ drop (done + 1) planned
    parted =
        at.are ∙ ap (λ (l : List Send). front ++ l)
        (drop_split planned done s within ∙ ap (λ (x : Send). x ∷ drop (done + 1) planned) (sym is))

    longer : take (done + 1) planned ≡ take done planned ++ s ∷ []
    longer = take_more planned done s within ∙ ap (λ (x : Send). take done planned ++ x ∷ []) (sym is)

    -- it was put
    pub putting_put : (post : Posted) → HavePutOne mid new s.0.0 post
        → IsPutting outs new planned sends (front ++ s ∷ []) (count + 1) (done + 1) dropped
    putting_put post put = record {
      are = parted ∙ sym (append_assoc front (s ∷ []) (drop (done + 1) planned));
      counted = ap (λ n. n + 1) at.counted ∙ sym (length-append front (s ∷ []));
      out = subst (λ (l : List Send). IsPutWhereFree (met_to outs) (carried_by outs) l (front ++ s ∷ []) dropped) (sym longer)
          (put_last (met_to outs) (carried_by outs) (take done planned) front dropped s at.out);
      rings = put.rings ∙ at.rings;
      same_mets = put.same_mets ∙ at.same_mets;
      carried = λ k below.
          let there : k < length mid = (let l = rings_long outs mid at.rings in omega (arith, below, l)) in
          ap length (put.each k there)
          ∙ (if_length (nat_eq s.0.0 k) post (behind front (carried_by outs) (site_at k)) (put_to mid k) (at.carried k below)
          ∙ sym (behind_last front s (carried_by outs) (site_at k)));
    }

    -- it found its lane full
    pub putting_dropped : IsFull (met_to mid s.0.0) (length (put_to mid s.0.0))
        → IsPutting outs mid planned (remove sends count) front count (done + 1) (dropped + 1)
    putting_dropped full = record {
      are =
          ap (λ (l : List Send). remove l count) parted
          ∙ (ap (λ n. remove (front ++ s ∷ drop (done + 1) planned) n) at.counted
          ∙ remove_here front s (drop (done + 1) planned));
      counted = at.counted;
      out = subst (λ (l : List Send). IsPutWhereFree (met_to outs) (carried_by outs) l front (dropped + 1)) (sym longer)
          (drop_last (met_to outs) (carried_by outs) (take done planned) front dropped s
          (elim (cases_lt s.0.0 (length outs)) [
            | inl below ↦
                subst (λ m. IsFull m (behind front (carried_by outs) s.0)) (ap (λ (l : List ℕ). get_or l s.0.0 0) at.same_mets)
                (subst (λ n. IsFull (met_to mid s.0.0) n) (at.carried s.0.0 below) full)
            | inr past ↦
                let l = rings_long outs mid at.rings in
                let none : put_to mid s.0.0 ≡ [] =
                none_beyond (map (λ (x : Sending). x.put) mid) s.0.0 [] (let m = length-map mid (λ (x : Sending). x.put) in omega (arith, m, l, past)) in
                absurd (never_full (met_to mid s.0.0) (length (put_to mid s.0.0)) (ap length none) full)
          ]) at.out);
      rings = at.rings;
      same_mets = at.same_mets;
      carried = at.carried;
    }

    -- and with the stamp
    pub front_put : (sites stamp : ℕ) (post : Posted) → post ≡ posted sites (stamp, s.1) → HavePutOne mid new s.0.0 post
        → HavePutFront sites stamp outs mid front → HavePutFront sites stamp outs new (front ++ s ∷ [])
    front_put sites stamp post framed put were k below =
        let there : k < length mid = (let l = rings_long outs mid at.rings in omega (arith, below, l)) in
        put.each k there
        ∙ (ap (λ l. l ++ (if nat_eq s.0.0 k then post ∷ [] else [])) (were k below)
        ∙ (append_assoc (put_to outs k) (map (posted sites) (stamped_to stamp (site_at k) front)) (if nat_eq s.0.0 k then post ∷ [] else [])
        ∙ ap (λ l. put_to outs k ++ l) (sym all)))
      where
        own : (b : Bool) → map (posted sites) (filter_map (λ (x : Option Stamped). x) ((if b then Some (stamp, s.1) else None) ∷ []))
            ≡ (if b then post ∷ [] else [])
        own true = ap (λ (p : Posted). p ∷ []) (sym framed)
        own false = refl

        all : map (posted sites) (stamped_to stamp (site_at k) (front ++ s ∷ []))
            ≡ map (posted sites) (stamped_to stamp (site_at k) front) ++ (if nat_eq s.0.0 k then post ∷ [] else [])
        all =
            ap (map (posted sites)) (filter_map-append (λ (x : Send). if same_site x.0 (site_at k) then Some (stamp, x.1) else None) front (s ∷ []))
            ∙ (map-append (posted sites) (stamped_to stamp (site_at k) front) (stamped_to stamp (site_at k) (s ∷ []))
            ∙ ap (λ l. map (posted sites) (stamped_to stamp (site_at k) front) ++ l) (own (nat_eq s.0.0 k)))

-- the frame of the next
pub framed_is : (sites : ℕ) (planned : List Send) (frames : List FramedBytes) (yielded rest : List FramedBytes) (framed : FramedBytes)
    (s : Send) → frames ≡ map (λ (x : Send). frame_of sites x.1) planned → yielded ++ framed ∷ rest ≡ frames
    → s ≡ get_or planned (length yielded) s → framed ≡ frame_of sites s.1
framed_is sites planned frames yielded rest framed s are parts is =
    let within = done_within sites planned frames yielded rest framed are parts in
    sym (frame_at yielded framed (frame_of sites s.1) rest)
    ∙ (ap (λ (l : List FramedBytes). get_or l (length yielded) (frame_of sites s.1)) (parts ∙ are)
    ∙ (get_or-map (λ (x : Send). frame_of sites x.1) planned (length yielded) s (frame_of sites s.1) within
    ∙ ap (λ (x : Send). frame_of sites x.1) (sym is)))

-- what the loop has yielded, with one more
pub yielded_more : (frames yielded were rest : List FramedBytes) (framed : FramedBytes) → yielded ++ were ≡ frames
    → were ≡ framed ∷ rest → yielded ++ framed ∷ rest ≡ frames
yielded_more frames yielded were rest framed are steps = ap (λ (l : List FramedBytes). yielded ++ l) (sym steps) ∙ are

pub more_within : (planned : List Send) (frames yielded rest : List FramedBytes) (framed : FramedBytes)
    → length frames ≡ length planned → yielded ++ framed ∷ rest ≡ frames → length yielded < length planned
more_within planned frames yielded rest framed same parts =
    let a = ap length parts in
    let m = length-append yielded (framed ∷ rest) in
    omega (arith, a, same, m)

pub all_yielded : (planned : List Send) (frames yielded were : List FramedBytes) → length frames ≡ length planned
    → yielded ++ were ≡ frames → length were ≡ 0 → length planned ≤ length yielded
all_yielded planned frames yielded were same parts none =
    let a = ap length parts in
    let m = length-append yielded were in
    omega (arith, a, same, m, none)

-- it has its place
pub count_within : (outs mid : List Sending) (planned sends front : List Send) (count done dropped : ℕ)
    → IsPutting outs mid planned sends front count done dropped → done < length planned → count < length sends
count_within outs mid planned sends front count done dropped at within =
    let l = ap length at.are ∙ length-append front (drop done planned) in
    let m = length-drop done planned in
    let c = at.counted in
    omega (arith, l, m, c, within)

-- at first
pub putting_none : (outs : List Sending) (planned sends : List Send) → sends ≡ planned
    → IsPutting outs outs planned sends [] 0 0 0
putting_none outs planned sends same = record {
  are = same;
  counted = refl;
  out = none_left (carried_by outs);
  rings = refl;
  same_mets = refl;
  carried = λ k below. refl;
}

pub front_none : (sites stamp : ℕ) (outs : List Sending) → HavePutFront sites stamp outs outs []
front_none sites stamp outs k below = sym (append-nil (put_to outs k))

-- at last
module _ (outs new : List Sending) (planned sends front : List Send) (count done dropped : ℕ)
    (at : IsPutting outs new planned sends front count done dropped) (all : length planned ≤ done) where
  pub all_handled : front ≡ sends
  all_handled = sym (at.are ∙ (ap (λ (l : List Send). front ++ l) (drop_all done planned all) ∙ append-nil front))

  pub putting_all : IsPutWhereFree (met_to outs) (carried_by outs) planned sends dropped
  putting_all =
      subst (λ (l : List Send). IsPutWhereFree (met_to outs) (carried_by outs) l sends dropped) (take_all done planned all)
      (subst (λ (l : List Send). IsPutWhereFree (met_to outs) (carried_by outs) (take done planned) l dropped) all_handled at.out)

  pub putting_more : (sites stamp : ℕ) → HavePutFront sites stamp outs new front → HavePutMore sites stamp outs new sends
  putting_more sites stamp were = record {
    rings = at.rings;
    same_mets = at.same_mets;
    each = λ k below. subst (λ (l : List Send). put_to new k ≡ put_to outs k ++ map (posted sites) (stamped_to stamp (site_at k) l)) all_handled (were k below);
  }
