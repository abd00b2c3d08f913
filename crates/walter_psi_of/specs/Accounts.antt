-- What is told of the sites for the steps to come, and when it is so.
use Rattle.std.specs.Prelude.{◌≡◌, ℕ, nat_eq, Bool, ◌&&◌, List, [], ◌∷◌, map, filter, Option, Some, None, if◌then◌else◌}
use Rattle.walter_base.specs.declared.message.Record.{Record}
use Rattle.walter_base.specs.declared.message.Record.TheVariants.{Own, Got}
use Rattle.walter_base.specs.declared.names.SiteId.{SiteId}
use Rattle.walter_base.specs.declared.names.Tid.{Tid}
use Rattle.walter_base.specs.Names.{same_site}
use Rattle.walter_rules.specs.Log.{of_site}
use Rattle.walter_rules.specs.Sessions.{Session, Sessions}
use Rattle.walter_rules.specs.Standing.{Standing}
use Rattle.walter_psi_of.specs.declared.account.Session.{Session as SessionAt}
use Rattle.walter_psi_of.specs.declared.account.Account.{Account}

-- a session of this transaction: no step names anything else of it
abbrev pub session_named : Tid → Session
session_named tid = record { tid = tid; snapshot = []; updates = []; slow = 0 }

-- the clients that have sessions, each with the name of its transaction
abbrev pub named : Sessions → List (ℕ × Tid)
named sessions = map (λ s. (s.0, s.1.tid)) sessions

-- of a session that is told: whether it is at the site, and its client with the name of its transaction
abbrev pub is_at : SiteId → SessionAt → Bool
is_at i s = same_site s.site i

abbrev pub by_client : SessionAt → ℕ × Tid
by_client s = (s.client, s.tid)

-- those at a site, in order
abbrev pub sessions_at : SiteId → List SessionAt → List (ℕ × Tid)
sessions_at i sessions = map by_client (filter (is_at i) sessions)

-- whether it is a client's at the site
abbrev pub is_of : SiteId → ℕ → SessionAt → Bool
is_of i client s = is_at i s && nat_eq client s.client

-- a site's own of the commits that are told
abbrev pub commits_of : SiteId → List Tid → List Tid
commits_of i commits = filter (λ tid. same_site tid.site i) commits

-- the own commit that a record of a site tells
abbrev pub own : SiteId → Tid → List Tid
own i tid = if same_site tid.site i then tid ∷ [] else []

abbrev pub own_commit : SiteId → Option Record → List Tid
own_commit i None = []
own_commit i (Some (Own seq tx)) = own i tx.tid
own_commit i (Some (Got from seq tx)) = own i tx.tid
own_commit i (Some rec) = []

-- it is told of sites that stand so
pub record IsToldOf (told : Account) (W : SiteId → Standing) : Type 0 where
  pub sessions : (i : SiteId) → sessions_at i told.sessions.items ≡ named (W i).knows.sessions
  pub commits : (i : SiteId) → commits_of i told.commits.items ≡ map (λ h. h.tx.tid) (of_site i (W i).knows.log)
