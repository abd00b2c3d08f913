-- An entry that spells nothing leaves what is known of the history.
use Rattle.std.proofs.Common.{◌≡◌, ℕ, ◌+◌, ◌≤◌, List, [], ◌++◌, ap, sym, ◌∙◌, subst, arith, Some, Bool, true, false, inl, inr}
use Rattle.std.specs.Prelude.{Option}
use Rattle.std.proofs.lemmas.List.{append-nil}
use Rattle.walter_base.specs.declared.catalog.Catalog.{Catalog}
use Rattle.walter_base.specs.declared.message.Record.{Record}
use Rattle.walter_base.specs.declared.names.SiteId.{SiteId}
use Rattle.walter_base.specs.declared.names.Tid.{Tid}
use Rattle.walter_psi.specs.declared.step.Step.{Step}
use Rattle.walter_rules.specs.declared.event.Event.{Event}
use Rattle.walter_rules.specs.declared.outcome.Outcome.{Outcome}
use Rattle.walter_rules.specs.Knowledge.{Knowledge, session_of}
use Rattle.walter_rules.specs.Sending.{Send}
use Rattle.walter_rules.specs.Sessions.{Session}
use Rattle.walter_agreement.proofs.Issued.{IsIssued}
use Rattle.walter_alone.proofs.Alone.{issued_of, issued_by}
use Rattle.walter_linked.proofs.Agreed.{Stands, owns, counts, at_site}
use Rattle.walter_refinement.proofs.Going.{IsStill, BeginsNew, quiet_by, then_, same_then, final_then}
use Rattle.walter_refinement.proofs.Moves.{in_flight, held, Spells, IsDecidedBy, quiet}
use Rattle.walter_refinement.proofs.Spelled.{Key, IsLive}

-- names stay given while the epoch stays and starts rise
pub issued_same : (up : Bool) (K later : Knowledge) (x : Tid) → later.epoch ≡ K.epoch → K.starts ≤ later.starts
    → IsIssued (issued_by up K) x → IsIssued (issued_by up later) x
issued_same true K later x epoch starts given_ = elim given_ [
  | inl before ↦ inl (omega (arith, before, epoch))
  | inr now ↦ let e = now.0 in let l = now.1 in inr (e ∙ sym epoch, omega (arith, l, starts))
]
issued_same false K later x epoch starts given_ = elim given_ [
  | inl before ↦ inl (omega (arith, before, epoch))
  | inr now ↦ let e = now.0 in inr (e ∙ ap (λ n. n + 1) (sym epoch), now.1)
]

-- an open session is live
pub live_open : (W : Stands) (h : List Step) (d : Key) (s : Session) → Spells W h → held W d ≡ Some s
    → (IsDecidedBy (W d.site) s → ⊥) → IsLive (owns W) (counts W) h s
live_open W h d s sp has undecided = elim (sp.spelled.live d s has) [
  | inl committed ↦ absurd (undecided (sp.decided d s has committed))
  | inr live ↦ live
]

-- where nothing is committed here, no number is begun that was begun, names stay given, sessions were there and the
-- record in flight is gone or was there, and no step is spelled
pub quiet_entry : (catalog : Catalog) (i : SiteId) (W : Stands) (h steps : List Step) (event : Event)
    (outcome : Outcome) (kept wrote flight : Option Record) (sends : List Send) (dropped : ℕ)
    → steps ≡ [] → IsStill i wrote → BeginsNew (W i).knows wrote
    → ((x : Tid) → IsIssued (issued_of (W i)) x
    → IsIssued (issued_of (then_ catalog i (W i) event outcome kept wrote flight sends dropped)) x)
    → ((c : ℕ) (s : Session)
    → session_of (then_ catalog i (W i) event outcome kept wrote flight sends dropped).knows c ≡ Some s
    → session_of (W i).knows c ≡ Some s)
    → ((s : Session) → in_flight (then_ catalog i (W i) event outcome kept wrote flight sends dropped).flight ≡ Some s
    → in_flight (W i).flight ≡ Some s)
    → Spells W h → Spells (at_site i (then_ catalog i (W i) event outcome kept wrote flight sends dropped) W)
    (h ++ steps)
quiet_entry catalog i W h steps event outcome kept wrote flight sends dropped none still new issued sessions flights sp =
    let S2 = then_ catalog i (W i) event outcome kept wrote flight sends dropped in
    let q = quiet_by (W i) S2 issued
    (final_then catalog i (W i) event outcome kept wrote flight sends dropped new) sessions flights in
    subst (λ t. Spells (at_site i S2 W) t) (sym (ap (λ t. h ++ t) none ∙ append-nil h))
    (quiet W i S2 h (same_then catalog i (W i) event outcome kept wrote flight sends dropped still) q.on q.few sp)
