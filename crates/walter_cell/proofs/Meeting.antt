-- The ends of two sites' lanes where all that one has put for the other arrives.
use Rattle.std.proofs.Common.{◌≡◌, ◌≢◌, ◌<◌, ℕ, List, [], length, map, reverse, ◌++◌, get_or, slice_set, refl, ap, sym, ◌∙◌, subst, arith, inl, inr}
use Rattle.std.specs.Prelude.{zero, suc, ◌≤◌, ◌+◌, ◌-◌, ◌⊎◌, ◌↔◌, Result, Ok, Err, OnOk, OnErr, Option, Some, None, IsNone, IfSome, option_map, slice_get}
use Rattle.std.proofs.lemmas.Option.{slice_get_past}
use Rattle.std.proofs.lemmas.Bool.{cases_eq}
use Rattle.std.proofs.lemmas.List.{append-nil, append_assoc, length-append, length-set}
use mathlib.Core.List.{IsPrefix}
use Rattle.walter_base.specs.declared.names.SiteId.{SiteId}
use Rattle.walter_lane.specs.Lanes.{Sending, Receiving}
use Rattle.walter_lane.specs.declared.posted.Posted.{Posted}
use Rattle.walter_outbox.specs.Lanes.{posted, put_to, met_to, arrived_from, in_rings, out_rings, HavePut}
use Rattle.walter_outbox.proofs.Fields.{field_read, field_set_same, field_set_other, field_kept}
use Rattle.walter_outbox.proofs.Linked.{next_more}
use Rattle.walter_rules.specs.declared.entry.Entry.{Entry}
use Rattle.walter_rules.specs.Merges.{put_out_to}
use Rattle.walter_disk.specs.declared.disk.Disk.{Ghosts}
use Rattle.walter_cell.specs.Cells.{CellValue, IsCell, arrival}
use Rattle.walter_cell.specs.Nodes.{NodeValue, IsSound}

pub on_ok : {X E : Type 0} (r : Result X E) (P Q : Type 0) → (P → Q) → OnOk r P → OnOk r Q
on_ok (Ok x) P Q by holds = by holds
on_ok (Err e) P Q by holds = tt

pub on_err : {X E : Type 0} (r : Result X E) (P Q : Type 0) → (P → Q) → OnErr r P → OnErr r Q
on_err (Ok x) P Q by holds = tt
on_err (Err e) P Q by holds = by holds

-- ---- the sender

module _ (outs : List Sending) (to : ℕ) (out met : Sending) (at : out ≡ get_or outs to out) where
  pub rings_met : met.ring ≡ out.ring → out_rings (slice_set outs to met) ≡ out_rings outs
  rings_met same = field_kept (λ (s : Sending). s.ring) outs to out met at same

  pub put_met : met.put ≡ out.put → (k : ℕ) → put_to (slice_set outs to met) k ≡ put_to outs k
  put_met same k = ap (λ (l : List (List Posted)). get_or l k []) (field_kept (λ (s : Sending). s.put) outs to out met at same)

  -- how many had been put when its ends met
  pub met_here : to < length outs → met_to (slice_set outs to met) to ≡ met.met
  met_here within = field_set_same (λ (s : Sending). s.met) outs to met 0 within

  pub met_elsewhere : (k : ℕ) → k ≢ to → met_to (slice_set outs to met) k ≡ met_to outs k
  met_elsewhere k apart = field_set_other (λ (s : Sending). s.met) outs to met k 0 apart

  -- what was put for the other one
  pub put_here : to < length outs → put_to outs to ≡ out.put
  put_here within = field_read (λ (s : Sending). s.put) outs to out [] within at

-- what was put stays put
pub put_kept : (sites : ℕ) (trail : List Entry) (outs : List Sending) (to : ℕ) (out met : Sending) → out ≡ get_or outs to out
    → met.put ≡ out.put → HavePut sites trail outs → HavePut sites trail (slice_set outs to met)
put_kept sites trail outs to out met at same put = record {
  long = length-set outs to met ∙ put.long;
  each = λ k below. put_met outs to out met at same k ∙ put.each k below;
}

-- ---- the receiver

module _ (ins : List Receiving) (from : ℕ) (inbound met : Receiving) (at : inbound ≡ get_or ins from inbound) where
  pub arrived_met : from < length ins → arrived_from (slice_set ins from met) from ≡ met.arrived
  arrived_met within = field_set_same (λ (r : Receiving). r.arrived) ins from met [] within

  pub others_met : (j : ℕ) → j ≢ from → arrived_from (slice_set ins from met) j ≡ arrived_from ins j
  others_met j apart = field_set_other (λ (r : Receiving). r.arrived) ins from met j [] apart

  pub in_rings_met : met.ring ≡ inbound.ring → in_rings (slice_set ins from met) ≡ in_rings ins
  in_rings_met same = field_kept (λ (r : Receiving). r.ring) ins from inbound met at same

  -- what had arrived
  pub was_here : from < length ins → arrived_from ins from ≡ inbound.arrived
  was_here within = field_read (λ (r : Receiving). r.arrived) ins from inbound [] within at

  -- all that had arrived stays, and more may come
  pub grows_met : from < length ins → IsPrefix inbound.arrived met.arrived
      → (j : ℕ) → IsPrefix (arrived_from ins j) (arrived_from (slice_set ins from met) j)
  grows_met within more j = elim (cases_eq j from) [
    | inl here ↦
        subst (λ (k : ℕ). IsPrefix (arrived_from ins k) (arrived_from (slice_set ins from met) k)) (sym here)
        (subst (λ (l : List Posted). IsPrefix l (arrived_from (slice_set ins from met) from)) (sym (was_here within))
        (subst (λ (l : List Posted). IsPrefix inbound.arrived l) (sym (arrived_met within)) more))
    | inr apart ↦ ([], append-nil (arrived_from ins j) ∙ sym (others_met j apart))
  ]

-- the beginning of a list is no longer
pub prefix_long : {X : Type 0} (xs ys : List X) → IsPrefix xs ys → length xs ≤ length ys
prefix_long xs ys more = let l = ap length more.1 in let k = length-append xs more.0 in omega (arith, l, k)

-- a beginning of a beginning
pub prefix_on : {X : Type 0} (xs ys zs : List X) → IsPrefix xs ys → IsPrefix ys zs → IsPrefix xs zs
prefix_on xs ys zs first second =
    (first.0 ++ second.0, sym (append_assoc xs first.0 second.0) ∙ (ap (λ l. l ++ second.0) first.1 ∙ second.1))

-- a cell at which all has arrived that had, and maybe more
pub cell_polled : {D : Type 0} (cell : CellValue D) (ins : List Receiving) → length ins ≡ length cell.ins
    → ((from : ℕ) → IsPrefix (arrived_from cell.ins from) (arrived_from ins from)) → IsCell cell
    → IsCell (record cell { ins = ins })
cell_polled cell ins long more is = record {
  ins = long ∙ is.ins;
  next = next_more cell.node.site cell.ins ins more (reverse cell.node.trail) is.next;
  calls = is.calls;
}

-- a cell at which more has arrived
pub receiver_met : {D : Type 0} (cell : CellValue D)
    (from : ℕ) (inbound met : Receiving) → inbound ≡ get_or cell.ins from inbound → from < length cell.ins
    → IsPrefix inbound.arrived met.arrived → IsCell cell → IsCell (record cell { ins = slice_set cell.ins from met })
receiver_met cell from inbound met at within more is = record {
  ins = length-set cell.ins from met ∙ is.ins;
  next = next_more cell.node.site cell.ins (slice_set cell.ins from met)
      (λ j. grows_met cell.ins from inbound met at within more j) (reverse cell.node.trail) is.next;
  calls = is.calls;
}

-- the packet that is delivered
pub arrival_at : (ins : List Receiving) (j : SiteId) (number before : ℕ) (post : Posted) → number ≡ before + 1
    → slice_get (arrived_from ins j.0) before ≡ Some post → arrival ins j number ≡ Some post
arrival_at ins j zero before post is there = absurd (omega (arith, is))
arrival_at ins j (suc n) before post is there =
    let same : n ≡ before = omega (arith, is) in
    ap (λ k. slice_get (arrived_from ins j.0) k) same ∙ there

pub arrived_as : (ins : List Receiving) (j : SiteId) (number : ℕ) (post : Posted) → arrival ins j number ≡ Some post
    → (before : ℕ) × (number ≡ before + 1) × (slice_get (arrived_from ins j.0) before ≡ Some post)
arrived_as ins j zero post is = absurd cc
arrived_as ins j (suc before) post is = (before, omega arith, is)

-- what was put for a site is what the trail puts out to it
pub put_by_trail : {D : Type 0} (g : Ghosts D) (node : NodeValue D) (to : SiteId) → IsSound g node → to.0 < length node.outs
    → put_to node.outs to.0 ≡ map (posted node.catalog.sites) (put_out_to to node.trail)
put_by_trail g node to sound within = sound.put.each to.0 (let l = sound.put.long in omega (arith, within, l))

arrival_none : (ins : List Receiving) (j : SiteId) (number : ℕ) → (number ≡ 0) ⊎ (length (arrived_from ins j.0) < number)
    → arrival ins j number ≡ None
arrival_none ins j zero none = refl
arrival_none ins j (suc before) (inl none) = absurd (omega (arith, none))
arrival_none ins j (suc before) (inr past) = slice_get_past (arrived_from ins j.0) before (omega (arith, past))

-- what was read of a number is what has arrived of it
pub arrival_read : {X : Type 0} (now : X → Posted) (read : Option X) (ins : List Receiving) (j : SiteId) (number : ℕ) (arrived : List Posted)
    → arrived_from ins j.0 ≡ arrived → (IsNone read ↔ ((number ≡ 0) ⊎ (length arrived < number)))
    → IfSome read (λ p. (0 < number) × (slice_get arrived (number - 1) ≡ Some (now p)))
    → arrival ins j number ≡ option_map now read
arrival_read now None ins j number arrived is none some =
    arrival_none ins j number (subst (λ (l : List Posted). (number ≡ 0) ⊎ (length l < number)) (sym is) (none.0 refl))
arrival_read now (Some p) ins j number arrived is none some =
    arrival_at ins j number (number - 1) (now p) (let l = some.0 in omega (arith, l)) (ap (λ (l : List Posted). slice_get l (number - 1)) is ∙ some.1)
