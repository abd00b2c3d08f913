-- How a site goes on by what came of an event: what it has committed, which names it has given, what it holds.
use Rattle.std.proofs.Common.{◌≡◌, ◌≢◌, ℕ, zero, suc, nat_eq, List, refl, ap, sym, ◌∙◌, subst, Some, None, true, false, inl, inr, if◌then◌else◌}
use Rattle.std.specs.Prelude.{Option}
use Rattle.std.proofs.lemmas.Bool.{eqb-true}
use Rattle.std.proofs.lemmas.Option.{same_Some}
use Rattle.walter_base.specs.declared.catalog.Catalog.{Catalog}
use Rattle.walter_base.specs.declared.message.Record.{Record}
use Rattle.walter_base.specs.declared.message.Record.TheVariants.{Boot, Own, Got, Seen, Prepared, Released, SlowBegin, SlowEnd, Marks, Format as FormatRecord}
use Rattle.walter_base.specs.declared.names.SiteId.{SiteId}
use Rattle.walter_base.specs.declared.names.Tid.{Tid}
use Rattle.walter_base.specs.declared.transaction.Tx.{Tx}
use Rattle.walter_base.specs.Names.{same_site}
use Rattle.walter_rules.specs.declared.entry.Came.{Came}
use Rattle.walter_rules.specs.declared.event.Event.{Event}
use Rattle.walter_rules.specs.declared.held.Held.{Held}
use Rattle.walter_rules.specs.declared.outcome.Outcome.{Outcome}
use Rattle.walter_rules.specs.Knowledge.{Knowledge, session_of}
use Rattle.walter_rules.specs.Learning.{log_after, committed_after, slow_after, after, lost}
use Rattle.walter_rules.specs.Log.{is_of, of_site}
use Rattle.walter_rules.specs.Objects.{participants}
use Rattle.walter_rules.specs.Sending.{Send}
use Rattle.walter_rules.specs.Sessions.{Session}
use Rattle.walter_rules.specs.Slow.{Slow, Unused, Undecided, Dropped, Decided, ended, decided}
use Rattle.walter_rules.specs.Standing.{Standing, goes_down, knows_after, stands_after}
use Rattle.walter_agreement.proofs.Cases.{site_cases}
use Rattle.walter_agreement.proofs.Issued.{IsIssued}
use Rattle.walter_agreement.proofs.Lists.{filter_push_left}
use Rattle.walter_alone.proofs.Alone.{issued_of}
use Rattle.walter_refinement.proofs.Moves.{in_flight, held_by, GoesOn, HoldsFewer, HasSame}

-- a record that commits nothing here
abbrev pub IsStill : SiteId → Option Record → Type 0
IsStill i None = Unit {0}
IsStill i (Some (Boot epoch)) = Unit {0}
IsStill i (Some (Own seq tx)) = ⊥
IsStill i (Some (Got j seq tx)) = tx.tid.site ≢ i
IsStill i (Some (Seen j seq)) = ⊥
IsStill i (Some (Prepared j n tid objects)) = Unit {0}
IsStill i (Some (Released j n)) = Unit {0}
IsStill i (Some (SlowBegin n tx)) = Unit {0}
IsStill i (Some (SlowEnd n)) = Unit {0}
IsStill i (Some (Marks durable visible)) = Unit {0}
IsStill i (Some FormatRecord) = Unit {0}

other_site : (a b : SiteId) → a ≢ b → same_site a b ≡ false
other_site a b apart = elim (site_cases a b) [ inl same ↦ absurd (apart same.1) | inr other ↦ other.0 ]

pub still_log : (i : SiteId) (rec : Option Record) (log : List Held) → IsStill i rec
    → of_site i (log_after rec log) ≡ of_site i log
still_log i None log still = refl
still_log i (Some (Boot epoch)) log still = refl
still_log i (Some (Own seq tx)) log still = absurd still
still_log i (Some (Got j seq tx)) log still = filter_push_left (is_of i) log (record { seq = seq; tx = tx })
    (other_site tx.tid.site i still)
still_log i (Some (Seen j seq)) log still = absurd still
still_log i (Some (Prepared j n tid objects)) log still = refl
still_log i (Some (Released j n)) log still = refl
still_log i (Some (SlowBegin n tx)) log still = refl
still_log i (Some (SlowEnd n)) log still = refl
still_log i (Some (Marks durable visible)) log still = refl
still_log i (Some FormatRecord) log still = refl

pub still_committed : (i : SiteId) (rec : Option Record) (committed : SiteId → ℕ) (k : SiteId) → IsStill i rec
    → committed_after i rec committed k ≡ committed k
still_committed i None committed k still = refl
still_committed i (Some (Boot epoch)) committed k still = refl
still_committed i (Some (Own seq tx)) committed k still = absurd still
still_committed i (Some (Got j seq tx)) committed k still = refl
still_committed i (Some (Seen j seq)) committed k still = absurd still
still_committed i (Some (Prepared j n tid objects)) committed k still = refl
still_committed i (Some (Released j n)) committed k still = refl
still_committed i (Some (SlowBegin n tx)) committed k still = refl
still_committed i (Some (SlowEnd n)) committed k still = refl
still_committed i (Some (Marks durable visible)) committed k still = refl
still_committed i (Some FormatRecord) committed k still = refl

-- a slow commit that ended, with a commit or without one
pub record IsFinal (g : Slow) : Type 0 where
  pub begun : g ≢ Unused
  pub not_ended : ended g ≡ g
  pub not_decided : decided g ≡ g

pub dropped_final : (g : Slow) (tx : Tx) (asked : List SiteId) → g ≡ Dropped tx asked → IsFinal g
dropped_final g tx asked is =
    subst (λ z. IsFinal z) (sym is) (record { begun = λ e. absurd cc; not_ended = refl; not_decided = refl })

pub decided_final : (g : Slow) (tx : Tx) → g ≡ Decided tx → IsFinal g
decided_final g tx is = subst (λ z. IsFinal z) (sym is)
    (record { begun = λ e. absurd cc; not_ended = refl; not_decided = refl })

-- a number is begun that wasn't
abbrev pub BeginsNew : Knowledge → Option Record → Type 0
BeginsNew K None = Unit {0}
BeginsNew K (Some (SlowBegin n tx)) = K.slow n ≡ Unused
BeginsNew K (Some (Boot epoch)) = Unit {0}
BeginsNew K (Some (Own seq tx)) = Unit {0}
BeginsNew K (Some (Got j seq tx)) = Unit {0}
BeginsNew K (Some (Seen j seq)) = Unit {0}
BeginsNew K (Some (Prepared j n tid objects)) = Unit {0}
BeginsNew K (Some (Released j n)) = Unit {0}
BeginsNew K (Some (SlowEnd n)) = Unit {0}
BeginsNew K (Some (Marks durable visible)) = Unit {0}
BeginsNew K (Some FormatRecord) = Unit {0}

-- then what ended stays as it is
pub final_stays : (catalog : Catalog) (i : SiteId) (K : Knowledge) (rec : Option Record) → BeginsNew K rec → (n : ℕ)
    → IsFinal (K.slow n) → slow_after catalog i K rec n ≡ K.slow n
final_stays catalog i K None new n final = refl
final_stays catalog i K (Some (Boot epoch)) new n final = final.not_ended
final_stays catalog i K (Some (Own seq tx)) new n final =
    elim (nat_eq tx.slow n) as (λ b. (if b then decided (K.slow n) else K.slow n) ≡ K.slow n) [
      | true ↦
          final.not_decided
      | false ↦ refl
    ]
final_stays catalog i K (Some (Got j seq tx)) new n final = refl
final_stays catalog i K (Some (Seen j seq)) new n final = refl
final_stays catalog i K (Some (Prepared j m tid objects)) new n final = refl
final_stays catalog i K (Some (Released j m)) new n final = refl
final_stays catalog i K (Some (SlowBegin m tx)) new n final =
    elim (nat_eq m n) as (λ b. nat_eq m n ≡ b
    → (if b then Undecided tx (participants catalog K i tx.updates) else K.slow n) ≡ K.slow n) [
      | true ↦ λ is. absurd (final.begun (subst (λ k. K.slow k ≡ Unused) (eqb-true m n is) new))
      | false ↦ λ is. refl
    ] refl
final_stays catalog i K (Some (SlowEnd m)) new n final =
    elim (nat_eq m n) as (λ b. (if b then ended (K.slow n) else K.slow n) ≡ K.slow n) [
      | true ↦
          final.not_ended
      | false ↦ refl
    ]
final_stays catalog i K (Some (Marks durable visible)) new n final = refl
final_stays catalog i K (Some FormatRecord) new n final = refl

-- what came of an event, in its parts
abbrev pub came_of : Outcome → Option Record → Option Record → Option Record → List Send → ℕ → Came
came_of outcome kept wrote flight sends dropped = record {
  outcome = outcome;
  kept = kept;
  wrote = wrote;
  flight =
      flight;
  sends = sends;
  dropped = dropped;
}

module _ (catalog : Catalog) (i : SiteId) (K : Knowledge) (event : Event) (outcome : Outcome)
    (wrote : Option Record) where
  -- what records tell goes by the record alone
  pub after_log : (knows_after event outcome (after catalog i K event outcome wrote)).log ≡ log_after wrote K.log
  after_log = elim (goes_down event outcome) as
      (λ b. (if b then lost (after catalog i K event outcome wrote) else after catalog i K event outcome wrote).log
      ≡ log_after wrote K.log) [ true ↦ refl | false ↦ refl ]

  pub after_committed : (k : SiteId) → (knows_after event outcome (after catalog i K event outcome wrote)).committed k
      ≡ committed_after i wrote K.committed k
  after_committed k = elim (goes_down event outcome) as
      (λ b. (if b then lost (after catalog i K event outcome wrote) else after catalog i K event outcome wrote).committed k ≡ committed_after i wrote K.committed k) [ true ↦ refl | false ↦ refl ]

  pub after_slow : (n : ℕ) → (knows_after event outcome (after catalog i K event outcome wrote)).slow n
      ≡ slow_after catalog i K wrote n
  after_slow n = elim (goes_down event outcome) as
      (λ b. (if b then lost (after catalog i K event outcome wrote) else after catalog i K event outcome wrote).slow n
      ≡ slow_after catalog i K wrote n) [ true ↦ refl | false ↦ refl ]

-- a site that stands so goes on, and holds fewer
pub record IsQuiet (before after_ : Standing) : Type 0 where
  pub on : GoesOn before after_
  pub few : HoldsFewer before after_

-- where names stay given, what ended stays ended, sessions were there, and the record in flight is gone or was there
pub quiet_by : (before after_ : Standing) → ((x : Tid) → IsIssued (issued_of before) x → IsIssued (issued_of after_) x)
    → ((n : ℕ) → IsFinal (before.knows.slow n) → after_.knows.slow n ≡ before.knows.slow n)
    → ((c : ℕ) (s : Session) → session_of after_.knows c ≡ Some s → session_of before.knows c ≡ Some s)
    → ((s : Session) → in_flight after_.flight ≡ Some s → in_flight before.flight ≡ Some s) → IsQuiet before after_
quiet_by before after_ issued final sessions flight =
    let few : HoldsFewer before after_ = λ who s has. elim who as (λ w. held_by w after_ ≡ Some s
    → held_by w before ≡ Some s) [
      | zero ↦ λ is. flight s is
      | suc c ↦ λ is. sessions c s is
    ] has in
    record {
      on = record {
        issued = issued;
        begun = λ who t u now was some. same_Some t u (sym (few who t now) ∙ was);
        lost = λ n tx asked is. final n (dropped_final (before.knows.slow n) tx asked is) ∙ is;
        done = λ n tx is. final n (decided_final (before.knows.slow n) tx is) ∙ is;
      };
      few = few;
    }

module _ (catalog : Catalog) (i : SiteId) (S : Standing) (event : Event) (outcome : Outcome)
    (kept wrote flight : Option Record) (sends : List Send) (dropped : ℕ) where
  abbrev pub then_ : Standing
  then_ = stands_after catalog i S event (came_of outcome kept wrote flight sends dropped)

  -- it has committed the same, where its record commits nothing
  pub same_then : IsStill i wrote → HasSame i S then_
  same_then still = record {
    owned = ap (λ l. of_site i l) (after_log catalog i S.knows event outcome wrote)
        ∙ still_log i wrote S.knows.log still;
    committed = λ k. after_committed catalog i S.knows event outcome wrote k
        ∙ still_committed i wrote S.knows.committed k still;
  }

  pub final_then : BeginsNew S.knows wrote → (n : ℕ) → IsFinal (S.knows.slow n) → then_.knows.slow n ≡ S.knows.slow n
  final_then new n final = after_slow catalog i S.knows event outcome wrote n
      ∙ final_stays catalog i S.knows wrote new n final
