-- What a start, a change and an end leave of the sessions.
use Rattle.std.proofs.Common.{◌≡◌, ℕ, not, nat_eq, List, [], ◌∷◌, ◌++◌, Option, Some, None, IfSome, length, refl, arith}
use Rattle.std.proofs.lemmas.List.Elements.{All-nil, All-push, All-filter}
use Rattle.walter_base.specs.declared.catalog.Catalog.{Catalog}
use Rattle.walter_base.specs.declared.names.SiteId.{SiteId}
use Rattle.walter_base.specs.declared.names.Tid.{Tid}
use Rattle.walter_base.specs.Sizes.{HasShortValue}
use Rattle.walter_base.specs.ByClient.{changed, without}
use Rattle.walter_base.proofs.ByClient.{all_changed, all_of_client, apart_behind, apart_changed, apart_without}
use Rattle.walter_rules.specs.Sessions.{Session, Sessions, session_in}
use Rattle.walter_session.specs.Sessions.{started}
use Rattle.walter_tables.specs.Answering.{deciding_any}
use Rattle.walter_tables.specs.Open.{IsOpenAt, AreOpenAt}

-- the session of a client changes into one that may be open
pub open_changed : (catalog : Catalog) (i : SiteId) (client : ℕ) (f : Session → Session) (ss : Sessions)
    → AreOpenAt catalog i ss → IfSome (session_in client ss) (λ s. IsOpenAt catalog i (f s))
    → AreOpenAt catalog i (changed client f ss)
open_changed catalog i client f ss opens fits = record {
  each = all_changed (IsOpenAt catalog i) client f ss opens.each opens.apart fits;
  apart = apart_changed client f ss opens.apart;
}

-- the session of a client ends
pub open_without : (catalog : Catalog) (i : SiteId) (client : ℕ) (ss : Sessions) → AreOpenAt catalog i ss
    → AreOpenAt catalog i (without client ss)
open_without catalog i client ss opens = record {
  each = All-filter (λ s. not (nat_eq client s.0)) (λ s. IsOpenAt catalog i s.1) ss opens.each;
  apart = apart_without client ss opens.apart;
}

-- a session starts
pub open_more : (catalog : Catalog) (i : SiteId) (client : ℕ) (new : Session) (ss : Sessions) → AreOpenAt catalog i ss
    → session_in client ss ≡ None → IsOpenAt catalog i new → AreOpenAt catalog i (ss ++ (client, new) ∷ [])
open_more catalog i client new ss opens none one = record {
  each = All-push (λ s. IsOpenAt catalog i s.1) ss (client, new) opens.each one;
  apart = apart_behind client new ss opens.apart none;
}

-- a session that is found may be open
pub session_is : (catalog : Catalog) (i : SiteId) (client : ℕ) (ss : Sessions) → AreOpenAt catalog i ss
    → IfSome (session_in client ss) (IsOpenAt catalog i)
session_is catalog i client ss opens = all_of_client (IsOpenAt catalog i) client ss opens.each

-- a session that starts may be open
pub open_started : (catalog : Catalog) (i : SiteId) (tid : Tid) (snapshot : List ℕ) → tid.site ≡ i
    → length snapshot ≡ catalog.sites → IsOpenAt catalog i (started tid snapshot)
open_started catalog i tid snapshot here sites = record {
  here = here;
  sites = sites;
  declared = refl;
  small = record { few = omega arith; values = All-nil HasShortValue; size = omega arith };
}

-- and one whose slow commit is begun could still
pub open_decided : (catalog : Catalog) (i : SiteId) (begun : Option ℕ) (session : Option Session)
    → IfSome session (IsOpenAt catalog i) → IfSome session (λ s. IsOpenAt catalog i (deciding_any begun s))
open_decided catalog i begun None is = tt
open_decided catalog i None (Some s) is = is
open_decided catalog i (Some slow) (Some s) is =
    record { here = is.here; sites = is.sites; declared = is.declared; small = is.small }
