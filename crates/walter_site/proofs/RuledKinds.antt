-- What holds of a site that is up and knows this, by the kinds of what may come of an event: its record can follow and
-- has a spelling, and the site stays up.
use Rattle.std.proofs.Common.{◌≡◌, ◌≢◌, ◌+◌, ◌≤◌, ℕ, Bool, true, false, nat_eq, List, [], ◌∷◌, length, Some, Option, IfSome, if◌then◌else◌, refl, subst, arith}
use Rattle.std.specs.Prelude.{IsSome}
use Rattle.walter_base.specs.declared.catalog.Catalog.{Catalog}
use Rattle.walter_base.specs.declared.message.Record.{Record}
use Rattle.walter_base.specs.declared.names.SiteId.{SiteId}
use Rattle.walter_base.specs.declared.transaction.Tx.{Tx}
use Rattle.walter_base.specs.declared.update.Update.{Update}
use Rattle.walter_base.specs.Sizes.{CanBeSpelled}
use Rattle.walter_base.specs.Vectors.{most_sites}
use Rattle.walter_rules.specs.declared.event.Event.{Event}
use Rattle.walter_rules.specs.declared.event.Event.TheVariants.{Given, Stop, Restart}
use Rattle.walter_rules.specs.declared.event.Input.{Input}
use Rattle.walter_rules.specs.declared.event.Input.TheVariants.{Call, Deliver, Advance, Tick, Upgrade}
use Rattle.walter_rules.specs.declared.outcome.Outcome.{Outcome}
use Rattle.walter_rules.specs.declared.outcome.Outcome.TheVariants.{Replied, Passed, Down}
use Rattle.walter_rules.specs.Allowed.{IsKind, passes, is_down, commits, begins, receives, marks_durable, marks_visible, prepares, decides, gives_up, releases, sees, upgrades, boots}
use Rattle.walter_rules.specs.Knowledge.{session_of}
use Rattle.walter_rules.specs.Learning.{recorded}
use Rattle.walter_rules.specs.Objects.{participants}
use Rattle.walter_rules.specs.Records.{IsRecordAmong}
use Rattle.walter_rules.specs.Sessions.{Session, tx_of}
use Rattle.walter_rules.specs.Slow.{Slow, Undecided, ended, decided}
use Rattle.walter_rules.specs.Standing.{Standing}
use Rattle.walter_rules.specs.Trails.{TakesMemory}
use Rattle.walter_agreement.proofs.Cases.{ended_not_undecided}
use Rattle.walter_tables.specs.Open.{IsOpenAt}
use Rattle.walter_tables.specs.Sound.{IsTxOf, IsSound}
use Rattle.walter_tables.proofs.SoundKept.{decided_not_undecided}
use Rattle.walter_site.specs.Members.{IsStarted, IsSizedInput}

-- the packet that comes is sized
abbrev pub IsSizedEvent : ℕ → Event → Type 0
IsSizedEvent sites (Given input) = IsSizedInput sites input
IsSizedEvent sites Stop = Unit {0}
IsSizedEvent sites Restart = Unit {0}

-- a list that isn't empty is of one at least
some_updates : (updates : List Update) → updates ≢ [] → 1 ≤ length updates
some_updates [] some = absurd (some refl)
some_updates (u ∷ us) some = omega arith

-- the transaction of an open session that writes can be journaled and sent
pub session_tx : (catalog : Catalog) (i : SiteId) (s : Session) (slow : ℕ) → catalog.sites ≤ most_sites
    → IsOpenAt catalog i s → s.updates ≢ []
    → IsTxOf catalog (record { tid = s.tid; slow = slow; start = s.snapshot; updates = s.updates })
session_tx catalog i s slow most is some = record {
  spelled = record {
    sites = let e = is.sites in omega (arith, most, e);
    some = some_updates s.updates some;
    updates = is.small;
  };
  sites = is.sites;
  declared = is.declared;
}

-- the sizes of a transaction's record
pub tx_sizes : (catalog : Catalog) (tx : Tx) → IsTxOf catalog tx → (length tx.start ≡ catalog.sites) × CanBeSpelled tx
tx_sizes catalog tx is = (is.sites, is.spelled)

-- only a call is answered
abbrev pub IsOfCall : Outcome → Input → Type 0
IsOfCall (Replied reply) (Call client call) = Unit {0}
IsOfCall (Replied reply) (Deliver from number packet) = ⊥
IsOfCall (Replied reply) (Advance from) = ⊥
IsOfCall (Replied reply) Tick = ⊥
IsOfCall (Replied reply) Upgrade = ⊥
IsOfCall outcome input = Unit {0}

-- no call
abbrev pub IsNoCall : Input → Type 0
IsNoCall (Call client call) = ⊥
IsNoCall input = Unit {0}

-- the event is such an input, or none
abbrev IsGivenCall : Outcome → Event → Type 0
IsGivenCall outcome (Given input) = IsOfCall outcome input
IsGivenCall outcome Stop = Unit {0}
IsGivenCall outcome Restart = Unit {0}

passed_of : (event : Event) → IsGivenCall Passed event
passed_of (Given input) = tt
passed_of Stop = tt
passed_of Restart = tt

down_of : (event : Event) → IsGivenCall Down event
down_of (Given input) = tt
down_of Stop = tt
down_of Restart = tt

module _ (catalog : Catalog) (i : SiteId) (S : Standing) where
  pub kind_of_call : (event : Event) (wrote : Option Record) (outcome : Outcome)
      → IsKind catalog i S event wrote outcome → IsGivenCall outcome event
  kind_of_call event wrote outcome (passes e) = passed_of event
  kind_of_call event wrote outcome (is_down e) = down_of event
  kind_of_call event wrote outcome kind = tt

  -- a record comes of what may want memory
  pub kind_wants : S.up ≡ true → (event : Event) (wrote : Option Record) (outcome : Outcome)
      → IsKind catalog i S event wrote outcome → IsSome wrote → TakesMemory true event
  kind_wants up event wrote outcome (commits client s open_ some local clear) is = tt
  kind_wants up event wrote outcome (begins client s open_ some clear) is = tt
  kind_wants up event wrote outcome (receives j number seq tx from next) is = tt
  kind_wants up event wrote outcome (marks_durable j number got K from most same rises) is = tt
  kind_wants up event wrote outcome (marks_visible j number committed K from most same rises) is = tt
  kind_wants up event wrote outcome (prepares j number n tid start objects from free lockable) is = tt
  kind_wants up event wrote outcome (decides p number n tx asked from undecided within said) is = tt
  kind_wants up event wrote outcome (gives_up p number n tx asked conflict from undecided within alive) is = tt
  kind_wants up event wrote outcome (releases j number n from alive) is = tt
  kind_wants up event wrote outcome (sees j tx from due) is = tt
  kind_wants up event wrote outcome (upgrades there first) is = tt
  kind_wants up event wrote outcome (boots down) is = absurd cc
  kind_wants up event wrote outcome kind is = absurd cc

module _ (catalog : Catalog) (i : SiteId) (S : Standing) (sound : IsSound catalog i S.knows)
    (opens : (client : ℕ) (s : Session) → session_of S.knows client ≡ Some s → IsOpenAt catalog i s)
    (most : catalog.sites ≤ most_sites) where
  -- the record of each kind has a spelling
  pub kind_recorded : (event : Event) (wrote : Option Record) (outcome : Outcome)
      → IsKind catalog i S event wrote outcome → IsSizedEvent catalog.sites event
      → IfSome wrote (IsRecordAmong catalog.sites)
  kind_recorded event wrote outcome (commits client s open_ some local clear) sizes =
      tx_sizes catalog (tx_of s) (session_tx catalog i s s.slow most (opens client s open_.session) some)
  kind_recorded event wrote outcome (begins client s open_ some clear) sizes =
      let is = session_tx catalog i s (S.knows.last + 1) most (opens client s open_.session) some in
      (is.sites, is.spelled)
  kind_recorded event wrote outcome (receives j number seq tx from next) sizes = (sizes.among, sizes.sizes)
  kind_recorded event wrote outcome (prepares j number n tid start objects from free lockable) sizes = sizes.sizes.1
  kind_recorded event wrote outcome (decides p number n tx asked from undecided within said) sizes =
      tx_sizes catalog tx (sound.asking n tx asked undecided).is
  kind_recorded event wrote outcome kind sizes = tt

module _ (catalog : Catalog) (i : SiteId) (S : Standing) (U : IsStarted i S.knows) (up : S.up ≡ true)
    (here : (client : ℕ) (s : Session) → session_of S.knows client ≡ Some s → s.tid.site ≡ i) where
  -- one that is being decided is of the site
  abbrev IsOwnSlow : Slow → Type 0
  IsOwnSlow g = (tx : Tx) (asked : List SiteId) → g ≡ Undecided tx asked → tx.tid.site ≡ i

  own_if : (b : Bool) (x y : Slow) → IsOwnSlow x → IsOwnSlow y → IsOwnSlow (if b then x else y)
  own_if true x y a c = a
  own_if false x y a c = c

  own_now : (n : ℕ) → IsOwnSlow (S.knows.slow n)
  own_now n tx asked is = U.own n tx asked is

  own_ended : (g : Slow) → IsOwnSlow (ended g)
  own_ended g tx asked is = absurd (ended_not_undecided g tx asked is)

  own_decided : (g : Slow) → IsOwnSlow (decided g)
  own_decided g tx asked is = absurd (decided_not_undecided g tx asked is)

  own_new : (x : Tx) (others : List SiteId) → x.tid.site ≡ i → IsOwnSlow (Undecided x others)
  own_new x others own tx asked is = let one : x ≡ tx = cc in subst (λ (t : Tx). t.tid.site ≡ i) one own

  -- the site stays up behind the record of each kind
  pub kind_started : (event : Event) (wrote : Option Record) (outcome : Outcome)
      → IsKind catalog i S event wrote outcome → IsStarted i (recorded catalog i wrote S.knows)
  kind_started event wrote outcome (commits client s open_ some local clear) = record {
    booted = U.booted;
    own = λ n. own_if (nat_eq s.slow n) (decided (S.knows.slow n)) (S.knows.slow n) (own_decided (S.knows.slow n))
        (own_now n);
  }
  kind_started event wrote outcome (begins client s open_ some clear) = record {
    booted = U.booted;
    own = λ n. own_if (nat_eq (S.knows.last + 1) n)
        (Undecided (record { tid = s.tid; slow = S.knows.last + 1; start = s.snapshot; updates = s.updates })
        (participants catalog S.knows i s.updates)) (S.knows.slow n)
        (own_new (record { tid = s.tid; slow = S.knows.last + 1; start = s.snapshot; updates = s.updates })
        (participants catalog S.knows i s.updates) (here client s open_.session)) (own_now n);
  }
  kind_started event wrote outcome (decides p number n tx asked from undecided within said) = record {
    booted = U.booted;
    own = λ m. own_if (nat_eq tx.slow m) (decided (S.knows.slow m)) (S.knows.slow m) (own_decided (S.knows.slow m))
        (own_now m);
  }
  kind_started event wrote outcome (gives_up p number n tx asked conflict from undecided within alive) = record {
    booted = U.booted;
    own = λ m. own_if (nat_eq n m) (ended (S.knows.slow m)) (S.knows.slow m) (own_ended (S.knows.slow m)) (own_now m);
  }
  kind_started event wrote outcome (boots down) = absurd cc
  kind_started event wrote outcome kind = record { booted = U.booted; own = U.own }
