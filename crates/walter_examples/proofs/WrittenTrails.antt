-- Trails that are written out: what is to be seen of each entry, the oldest first, so that they are right and linked.
use Rattle.std.proofs.Common.{◌≡◌, ℕ, zero, suc, ◌+◌, ◌<◌, ◌≤◌, nat_lt, nat_le, true, false, max, length, List, [], ◌∷◌, ◌++◌, reverse, take, slice_get, slice_index_or, Some, IfSome, refl, ap, sym, ◌∙◌, subst, arith}
use Rattle.std.proofs.lemmas.Bool.{le-leb, le-ltb}
use Rattle.std.proofs.lemmas.List.{append-nil, append_assoc, reverse-append}
use Rattle.walter_base.specs.declared.catalog.Catalog.{Catalog}
use Rattle.walter_base.specs.declared.names.ObjId.{ObjId}
use Rattle.walter_base.specs.declared.names.SiteId.{SiteId}
use Rattle.walter_base.specs.declared.packet.Packet.{Packet}
use Rattle.walter_base.specs.declared.update.Update.TheVariants.{Write}
use Rattle.walter_base.specs.Sizes.{size_of_updates}
use Rattle.walter_rules.specs.declared.entry.Entry.{Entry}
use Rattle.walter_rules.specs.declared.event.Event.{Event}
use Rattle.walter_rules.specs.declared.event.Event.TheVariants.{Given, Stop, Restart}
use Rattle.walter_rules.specs.declared.event.Input.TheVariants.{Call, Deliver, Advance, Tick, Upgrade}
use Rattle.walter_rules.specs.Calls.{Expected}
use Rattle.walter_rules.specs.Knowledge.{site_at}
use Rattle.walter_rules.specs.Layouts.{Layout, header_of, FitsIn}
use Rattle.walter_rules.specs.Merges.{put_out_to, trail_of, IsLinked, AreLinked}
use Rattle.walter_rules.specs.Rule.{rule}
use Rattle.walter_rules.specs.Sending.{Send}
use Rattle.walter_rules.specs.Trails.{standing, clock, carried_one, IsPutOut, all_out, put_out, ruled, IsNextStamp, IsRightEntry, AreRight, IsRightTrail}
use Rattle.walter_runs.specs.Runs.{AreRightTrails}
use Rattle.walter_examples.specs.Entries.{entry, opening}

-- one thing and what follows it
infixr 4 ◌⨾◌
abbrev pub ◌⨾◌ : {A B : Type 0} → A → B → A × B
a ⨾ b = (a, b)

-- a catalog, as one of so many sites, none of which may be lost
abbrev pub among : ℕ → Catalog → Catalog
among n catalog = record catalog { sites = n; tolerated = 0 }

-- it is that catalog, where that is so of it
pub same_catalog : (n : ℕ) (catalog : Catalog) → catalog.sites ≡ n → catalog.tolerated ≡ 0 → among n catalog ≡ catalog
same_catalog n catalog many none = sym (λ j. record catalog { sites = many j; tolerated = none j })

-- a value that is short has a place in a transaction without updates
pub short_enough : (value : List ℕ) → length value ≤ 4096 → nat_lt 4096 (length value) ≡ false
short_enough value short = le-ltb 4096 (length value) short

pub small_enough : (oid : ObjId) (value : List ℕ) → length value ≤ 4096
    → nat_le (size_of_updates (Write oid value ∷ [])) 60000 ≡ true
small_enough oid value short = le-leb (size_of_updates (Write oid value ∷ [])) 60000 (omega (arith, short))

-- all that is to be put out is
all_sent : (carried : SiteId → ℕ) (sends : List Send) → IsPutOut carried sends sends 0
all_sent carried [] = all_out carried
all_sent carried (s ∷ sends) = put_out carried s sends sends 0 (all_sent (carried_one s.0 carried) sends)

-- what an entry's event came to
abbrev pub expected_of : Entry → Expected
expected_of e = record { wrote = e.came.wrote; outcome = e.came.outcome; sends = e.came.sends }

-- the entry of that event, where nothing else was
abbrev pub plain : Entry → Entry
plain e = entry e.stamp e.event (expected_of e)

-- it comes to what the rule says, where it says just that, and the record has a place
pub by_rule : {catalog : Catalog} {layout : Layout} {i : SiteId} {older : List Entry} {e : Entry}
    → plain e ≡ e → IsNextStamp e.event (clock older) e.stamp
    → rule (header_of layout) catalog i (standing catalog i older) e.event ≡ expected_of e
    → IfSome e.came.wrote (FitsIn layout (standing catalog i older))
    → IsRightEntry catalog layout i older e
by_rule {catalog} {layout} {i} {older} {e} is next said fits =
    subst (λ (x : Entry). IsRightEntry catalog layout i older x) is (record {
      stamp = next;
      kept = tt;
      comes = ruled
          (subst (λ (x : Expected). IfSome x.wrote (FitsIn layout (standing catalog i older))) (sym said) fits)
          (record {
            outcome = ap (λ (x : Expected). x.outcome) (sym said);
            wrote = ap (λ (x : Expected). x.wrote) (sym said);
            flight = refl;
            sends = subst (λ (x : Expected). IsPutOut (standing catalog i older).carried x.sends e.came.sends 0)
                (sym said)
                (all_sent (standing catalog i older).carried e.came.sends);
          });
    })

-- each of these entries is right behind those before it, the oldest first
abbrev pub FollowRightly : Catalog → Layout → SiteId → List Entry → List Entry → Type 0
FollowRightly catalog layout i older [] = Unit {0}
FollowRightly catalog layout i older (e ∷ es) =
    IsRightEntry catalog layout i older e × FollowRightly catalog layout i (e ∷ older) es

-- the first of the entries to come is the newest of those before
turned : (e : Entry) (older es : List Entry) → reverse (e ∷ es) ++ older ≡ reverse es ++ e ∷ older
turned e older es = ap (λ xs. xs ++ older) (reverse-append (e ∷ []) es) ∙ append_assoc (reverse es) (e ∷ []) older

-- behind right entries they make right ones
right_behind : (catalog : Catalog) (layout : Layout) (i : SiteId) (older es : List Entry)
    → AreRight catalog layout i older → FollowRightly catalog layout i older es
    → AreRight catalog layout i (reverse es ++ older)
right_behind catalog layout i older [] right follow = right
right_behind catalog layout i older (e ∷ es) right follow =
    subst (λ xs. AreRight catalog layout i xs) (sym (turned e older es))
    (right_behind catalog layout i (e ∷ older) es (right, follow.0) follow.1)

-- and so from the first entry on
right_from_start : (catalog : Catalog) (layout : Layout) (i : SiteId) (trail : List Entry)
    → FollowRightly catalog layout i [] trail → AreRight catalog layout i (reverse trail)
right_from_start catalog layout i trail follow =
    subst (λ xs. AreRight catalog layout i xs) (append-nil (reverse trail))
    (right_behind catalog layout i [] trail tt follow)

-- so a trail is right that begins with the opening
pub right_trail : {catalog : Catalog} {layout : Layout} {i : SiteId} {trail : List Entry}
    → slice_get trail 0 ≡ Some opening → FollowRightly catalog layout i [] trail
    → IsRightTrail catalog layout i trail
right_trail {catalog} {layout} {i} {trail} begins follow = record {
  opening = opening;
  begins = begins;
  opens = record { stamp = refl; event = refl; wrote = refl };
  right = right_from_start catalog layout i trail follow;
}

-- a packet that is the next behind so many on its way, put out with this stamp
pub link : {trails : List (List Entry)} {i j : SiteId} {number : ℕ} {packet : Packet} {last stamp : ℕ} (before put : ℕ)
    → number ≡ before + 1 → slice_get (put_out_to i (trail_of trails j)) before ≡ Some (put, packet)
    → put < stamp → stamp ≡ max last put + 1
    → IsLinked trails i j number packet last stamp
link before put number source lower next =
    record { before = before; number_is = number; put = put; source = source; lower = lower; next = next }

-- where a packet is delivered it is linked, and then this
abbrev pub LinkedThen : List (List Entry) → SiteId → ℕ → ℕ → Event → Type 0 → Type 0
LinkedThen trails i last stamp (Given (Deliver j number packet)) rest =
    IsLinked trails i j number packet last stamp × rest
LinkedThen trails i last stamp event rest = rest

-- each packet that one of these entries delivers is linked, the oldest entry first
abbrev pub FollowLinked : List (List Entry) → SiteId → List Entry → List Entry → Type 0
FollowLinked trails i older [] = Unit {0}
FollowLinked trails i older (e ∷ es) =
    LinkedThen trails i (clock older) e.stamp e.event (FollowLinked trails i (e ∷ older) es)

-- so it is in each trail from this site on
abbrev pub AllFollowLinked : List (List Entry) → ℕ → List (List Entry) → Type 0
AllFollowLinked trails k [] = Unit {0}
AllFollowLinked trails k (trail ∷ others) =
    FollowLinked trails (site_at k) [] trail × AllFollowLinked trails (k + 1) others

-- what then is, whatever the event
rest_of : (trails : List (List Entry)) (i : SiteId) (last stamp : ℕ) (event : Event) (rest : Type 0)
    → LinkedThen trails i last stamp event rest → rest
rest_of trails i last stamp (Given (Call client call)) rest linked = linked
rest_of trails i last stamp (Given (Deliver j number packet)) rest linked = linked.1
rest_of trails i last stamp (Given (Advance j)) rest linked = linked
rest_of trails i last stamp (Given Tick) rest linked = linked
rest_of trails i last stamp (Given Upgrade) rest linked = linked
rest_of trails i last stamp Stop rest linked = linked
rest_of trails i last stamp Restart rest linked = linked

-- the packet that the entry at a place delivers is linked: of the entries behind these, of the trails from a site on,
-- and so of all
linked_behind : (trails : List (List Entry)) (i : SiteId) (older es : List Entry) (place : ℕ) (e : Entry) (j : SiteId)
    (number : ℕ) (packet : Packet)
    → FollowLinked trails i older es → slice_get es place ≡ Some e → e.event ≡ Given (Deliver j number packet)
    → IsLinked trails i j number packet (clock (reverse (take place es) ++ older)) e.stamp
linked_behind trails i older [] place e j number packet follow at is = absurd cc
linked_behind trails i older (x ∷ es) zero e j number packet follow at is =
    let same : x ≡ e = cc in
    (subst (λ (event : Event). LinkedThen trails i (clock older) e.stamp event
    (FollowLinked trails i (e ∷ older) es)) is
    (subst (λ (y : Entry). LinkedThen trails i (clock older) y.stamp y.event (FollowLinked trails i (y ∷ older) es))
    same follow)).0
linked_behind trails i older (x ∷ es) (suc place) e j number packet follow at is =
    let rest = rest_of trails i (clock older) x.stamp x.event (FollowLinked trails i (x ∷ older) es) follow in
    subst (λ xs. IsLinked trails i j number packet (clock xs) e.stamp) (sym (turned x older (take place es)))
    (linked_behind trails i (x ∷ older) es place e j number packet rest at is)

one_linked : (trails : List (List Entry)) (k : ℕ) (others : List (List Entry)) (i : SiteId) (here place : ℕ) (e : Entry)
    (j : SiteId) (number : ℕ) (packet : Packet)
    → AllFollowLinked trails k others → i.0 ≡ k + here
    → slice_get (slice_index_or others here []) place ≡ Some e → e.event ≡ Given (Deliver j number packet)
    → IsLinked trails i j number packet (clock (reverse (take place (slice_index_or others here [])))) e.stamp
one_linked trails k [] i here place e j number packet follow site at is = absurd cc
one_linked trails k (trail ∷ others) i zero place e j number packet follow site at is =
    let mine : k ≡ i.0 = omega (arith, site) in
    let linked = subst (λ n. FollowLinked trails (site_at n) [] trail) mine follow.0 in
    subst (λ xs. IsLinked trails i j number packet (clock xs) e.stamp) (append-nil (reverse (take place trail)))
    (linked_behind trails i [] trail place e j number packet linked at is)
one_linked trails k (trail ∷ others) i (suc here) place e j number packet follow site at is =
    one_linked trails (k + 1) others i here place e j number packet follow.1 (omega (arith, site)) at is

linked_from_start : (trails : List (List Entry)) → AllFollowLinked trails 0 trails → AreLinked trails
linked_from_start trails follow i place e j number packet at is =
    one_linked trails 0 trails i i.0 place e j number packet follow (omega arith) at is

-- a right trail for each site from this one on
abbrev pub AllRight : Catalog → Layout → ℕ → List (List Entry) → Type 0
AllRight catalog layout k [] = Unit {0}
AllRight catalog layout k (trail ∷ others) =
    IsRightTrail catalog layout (site_at k) trail × AllRight catalog layout (k + 1) others

-- so that of a site is right
one_right : (catalog : Catalog) (layout : Layout) (k : ℕ) (others : List (List Entry)) (i : SiteId) (here : ℕ)
    → AllRight catalog layout k others → i.0 ≡ k + here → here < length others
    → IsRightTrail catalog layout i (slice_index_or others here [])
one_right catalog layout k [] i here right site below = absurd (omega (arith, below))
one_right catalog layout k (trail ∷ others) i zero right site below =
    let mine : k ≡ i.0 = omega (arith, site) in
    subst (λ n. IsRightTrail catalog layout (site_at n) trail) mine right.0
one_right catalog layout k (trail ∷ others) i (suc here) right site below =
    one_right catalog layout (k + 1) others i here right.1 (omega (arith, site)) (omega (arith, below))

-- the trails that are written out are right and linked
pub right_trails : (catalog : Catalog) (layout : Layout) (trails : List (List Entry))
    → length trails ≡ catalog.sites → AllRight catalog layout 0 trails → AllFollowLinked trails 0 trails
    → AreRightTrails catalog (λ k. layout) trails
right_trails catalog layout trails all right linked = record {
  one_each = all;
  right = λ i below. one_right catalog layout 0 trails i i.0 right (omega arith) (omega (arith, below, all));
  linked = linked_from_start trails linked;
}
