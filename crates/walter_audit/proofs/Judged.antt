-- What the passes find, put together: the finding is right of the contents.
use Rattle.std.proofs.Common.{◌≡◌, ◌≢◌, ◌+◌, ℕ, List, [], ◌∷◌, slice_get, Some, None, refl, ap, sym, subst, arith, inl, inr}
use Rattle.std.specs.Prelude.{Option, Contains, IfSome, IfNone}
use Rattle.std.specs.Global.{Vec}
use Rattle.std.proofs.lemmas.List.Elements.{Contains-append_cases}
use Rattle.walter_base.specs.declared.catalog.Catalog.{Catalog}
use Rattle.walter_base.specs.declared.message.Record.TheVariants.{Own}
use Rattle.walter_base.specs.declared.names.SiteId.{SiteId}
use Rattle.walter_base.specs.declared.transaction.Tx.{Tx}
use Rattle.walter_linked.specs.Catalogs.{IsWhole}
use Rattle.walter_psi.proofs.Lists.{Contains-nil, Contains-one}
use Rattle.walter_rules.proofs.Membership.{first_in}
use Rattle.walter_rules.specs.declared.entry.Entry.{Entry}
use Rattle.walter_rules.specs.Layouts.{Layout}
use Rattle.walter_audit.specs.declared.finding.Finding.{Finding}
use Rattle.walter_audit.specs.declared.finding.Finding.TheVariants.{Yes, No}
use Rattle.walter_audit.specs.declared.finding.Named.{Named}
use Rattle.walter_audit.specs.declared.finding.Reason.{Reason}
use Rattle.walter_audit.specs.declared.finding.Reason.TheVariants.{Unreadable, Missing, Differs, Twice, Start, Conflict, Cycle}
use Rattle.walter_audit.specs.Contents.{Contents, AreAllRead, AreLeft, Stands}
use Rattle.walter_audit.specs.Findings.{rank, NoneBefore, IsNo, IsYes, IfNo, IsFound, AreSound}
use Rattle.walter_audit.specs.Firsts.{IsFirst, IsFirstPair}
use Rattle.walter_audit.specs.Journals.{Journals}
use Rattle.walter_audit.specs.Lasts.{SeeLast}
use Rattle.walter_audit.specs.Orders.{Item, Starts, Commits, Taken, AreTaken, none_taken, takes, items_of, IsOrder, IsCycle}
use Rattle.walter_audit.specs.Reading.{IsUnreadableAt}
use Rattle.walter_audit.specs.Reasons.{IsMissing, IsDifferent, AreTwice, IsUnstarted, AreUnordered}
use Rattle.walter_audit.proofs.Waiting.{order_no_cycle}
use Rattle.walter_audit.proofs.Found.{clear, tells}
use Rattle.walter_audit.proofs.Items.{commit_item, item_recorded, left_among, taken_or_left}
use Rattle.walter_audit.proofs.Premises.{numbered}
use Rattle.walter_audit.proofs.Quick.{first_seen}
use Rattle.walter_audit.proofs.Reasoned.{pair_stands, no_pair_stands, one_stands, none_stands, all_readable, unreadable_stands, none_first, none_next, none_at_all}
use Rattle.walter_audit.proofs.Settled as settled

-- what was taken is among all
done_among : (all left : SiteId → List Item) (done : List Taken) → AreTaken all left done → (k : SiteId) (x : Item)
    → Contains done (k, x) → Contains (all k) x
done_among all left done (none_taken) k x c = absurd (Contains-nil (k, x) c)
done_among all left2 done2 (takes left done i item rest before is go least) k x c =
    elim (Contains-append_cases done ((i, item) ∷ []) (k, x) c) [
      | inl was ↦ done_among all left done before k x was
      | inr here ↦
          let same : ◌≡◌ {A = Taken} (i, item) (k, x) = Contains-one (i, item) (k, x) here in
          subst (λ (t : Taken). Contains (all t.0) t.1) same
          (left_among all left done before i item (subst (λ xs. Contains xs item) (sym is) (first_in item rest)))
    ]

pub no_unreadable : (catalog : Catalog) (contents : Contents) (a : Named) → IsFirst (IsUnreadableAt catalog contents) a
    → IsNo catalog contents Unreadable a a
no_unreadable catalog contents a first =
    record { stands = unreadable_stands catalog contents a first; first = none_first catalog contents }

-- what is left by right and linked trails gives no reason
never_no : (catalog : Catalog) (contents : Contents) (reason : Reason) (a b : Named) → IsNo catalog contents reason a b
    → (layouts : SiteId → Layout) (trails : List (List Entry)) → IsWhole catalog → AreLeft catalog layouts trails contents → ⊥
never_no catalog contents reason a b found layouts trails whole left =
    settled.none_stands catalog layouts whole trails contents left reason a b found.stands.so

-- Each pass finds its reason, or the next is tried.
module _ (catalog : Catalog) (J : Journals) (contents : Contents) where
  pub begun : AreAllRead catalog contents J → AreSound catalog J contents Missing
  begun read = record {
    read = read;
    none = none_next catalog contents Unreadable Missing refl (none_first catalog contents) (all_readable catalog contents J read);
  }

  -- the next reason, where one stands of no two
  past : (reason next : Reason) → rank next ≡ rank reason + 1 → AreSound catalog J contents reason
      → ((a b : Named) → ¬ Stands catalog contents reason a b) → AreSound catalog J contents next
  past reason next is S none = record { read = S.read; none = none_next catalog contents reason next is S.none none }

  pub no_missing : AreSound catalog J contents Missing → (a : Named) → IsFirst (IsMissing J) a → IsNo catalog contents Missing a a
  no_missing S a first = record { stands = one_stands catalog contents J S.read (λ H. IsMissing H) a first; first = S.none }

  pub past_missing : AreSound catalog J contents Missing → ((a : Named) → ¬ IsMissing J a) → AreSound catalog J contents Differs
  past_missing S none = past Missing Differs refl S (none_stands catalog contents J S.read (λ H. IsMissing H) none)

  pub no_differing : AreSound catalog J contents Differs → (a b : Named) → IsFirstPair (IsDifferent J) a b
      → IsNo catalog contents Differs a b
  no_differing S a b first = record { stands = pair_stands catalog contents J S.read (λ H. IsDifferent H) a b first; first = S.none }

  pub past_differing : AreSound catalog J contents Differs → ((a b : Named) → ¬ IsDifferent J a b) → AreSound catalog J contents Twice
  past_differing S none = past Differs Twice refl S (no_pair_stands catalog contents J S.read (λ H. IsDifferent H) none)

  pub no_twice : AreSound catalog J contents Twice → (a b : Named) → IsFirstPair (AreTwice J) a b → IsNo catalog contents Twice a b
  no_twice S a b first = record { stands = pair_stands catalog contents J S.read (λ H. AreTwice H) a b first; first = S.none }

  pub past_twice : AreSound catalog J contents Twice → ((a b : Named) → ¬ AreTwice J a b) → AreSound catalog J contents Start
  past_twice S none = past Twice Start refl S (no_pair_stands catalog contents J S.read (λ H. AreTwice H) none)

  pub no_start : AreSound catalog J contents Start → (a : Named) → IsFirst (IsUnstarted catalog J) a → IsNo catalog contents Start a a
  no_start S a first = record { stands = one_stands catalog contents J S.read (λ H. IsUnstarted catalog H) a first; first = S.none }

  pub past_start : AreSound catalog J contents Start → ((a : Named) → ¬ IsUnstarted catalog J a) → AreSound catalog J contents Conflict
  past_start S none = past Start Conflict refl S (none_stands catalog contents J S.read (λ H. IsUnstarted catalog H) none)

module _ (catalog : Catalog) (J : Journals) (contents : Contents) (S : AreSound catalog J contents Conflict) where
  pub no_conflict : (a b : Named) → IsFirstPair (AreUnordered J) a b → IsNo catalog contents Conflict a b
  no_conflict a b first =
      record { stands = pair_stands catalog contents J S.read (λ H. AreUnordered H) a b first; first = S.none }

  none_conflict : ((a b : Named) → ¬ AreUnordered J a b) → NoneBefore catalog contents Cycle
  none_conflict none = none_next catalog contents Conflict Cycle refl S.none
      (no_pair_stands catalog contents J S.read (λ H. AreUnordered H) none)

  no_cycle : ((a b : Named) → ¬ AreUnordered J a b) → (a b : Named) → IsFirstPair (IsCycle catalog J) a b
      → IsNo catalog contents Cycle a b
  no_cycle none a b first = record {
    stands = pair_stands catalog contents J S.read (λ H. IsCycle catalog H) a b first;
    first = none_conflict none;
  }

  yes : ((a b : Named) → ¬ AreUnordered J a b) → (order : List Taken) → IsOrder catalog J order → IsYes catalog contents order
  yes none order O =
      let all = none_at_all catalog contents (none_conflict none) (no_pair_stands catalog contents J S.read (λ H. IsCycle catalog H)
      (order_no_cycle catalog J (numbered catalog contents J S.read) order O)) in
      record { none = all; journals = J; read = S.read; ordered = O; tells = tells catalog contents J S.read all order O }

  -- what is concluded where no two conflict
  pub concluded : ((a b : Named) → ¬ AreUnordered J a b) → (circle : Option (Named × Named)) (order : Vec Taken) (finding : Finding)
      → IfSome circle (λ (a, b). IsFirstPair (IsCycle catalog J) a b) → IfNone circle (IsOrder catalog J order.items)
      → IfSome circle (λ (a, b). finding ≡ No Cycle a b) → IfNone circle (finding ≡ Yes order)
      → IsFound catalog contents finding
  concluded none None order finding first whole as_circle as_order =
      subst (λ f. IsFound catalog contents f) (sym as_order) (yes none order.items whole, tt)
  concluded none (Some (a, b)) order finding first whole as_circle as_order =
      subst (λ f. IsFound catalog contents f) (sym as_circle) (tt, no_cycle none a b first)

  pub none_missing : (a : Named) → ¬ IsMissing J a
  none_missing a m = S.none Missing a a (omega arith) (refl, (J, S.read, m))

  -- each own commit is taken
  commit_taken : (order : List Taken) → IsOrder catalog J order → (i : SiteId) (p seq : ℕ) (tx : Tx)
      → slice_get (J i) p ≡ Some (Own seq tx) → Contains order (i, Commits p seq tx)
  commit_taken order O i p seq tx at =
      elim (taken_or_left (items_of catalog J) O.left order O.taken i (Commits p seq tx) (commit_item catalog i (J i) p seq tx at)) [
        | inl taken ↦ taken
        | inr still ↦ absurd (Contains-nil (Commits p seq tx) (subst (λ xs. Contains xs (Commits p seq tx)) (O.all i) still))
      ]

  taken_commit : (order : List Taken) → IsOrder catalog J order → (i : SiteId) (p seq : ℕ) (tx : Tx)
      → Contains order (i, Commits p seq tx) → slice_get (J i) p ≡ Some (Own seq tx)
  taken_commit order O i p seq tx c =
      elim (item_recorded catalog i (J i) (Commits p seq tx)
      (done_among (items_of catalog J) O.left order O.taken i (Commits p seq tx) c)) [
        | inl of ↦ of
        | inr start ↦ absurd (let e : Commits p seq tx ≡ Starts start.0 start.2 = start.5 in cc)
      ]

  -- where each commit of an order sees the last writers before it, no two conflict
  pub none_unordered : (order : List Taken) → IsOrder catalog J order → SeeLast (λ o. None) order
      → (a b : Named) → ¬ AreUnordered J a b
  none_unordered order O see a b u =
      let o = u.owns in
      let first = commit_taken order O a.site a.index o.seq o.x o.first in
      let second = commit_taken order O b.site b.index o.other o.y o.second in
      let apart : ◌≢◌ {A = Taken} (a.site, Commits a.index o.seq o.x) (b.site, Commits b.index o.other o.y) = λ e.
      o.apart (named o.seq o.other o.x o.y e) in
      elim (first_seen catalog J (clear catalog contents J S.read S.none) order (taken_commit order O) (λ z. None) see u.conflict.0
      a.site b.site a.index b.index o.seq o.other o.x o.y first second apart u.conflict.1 u.conflict.2) [
        | inl seen ↦ let unseen = u.first_unseen in omega (arith, seen, unseen)
        | inr seen ↦ let unseen = u.second_unseen in omega (arith, seen, unseen)
      ]
    where
      named : (m n : ℕ) (x y : Tx) → ◌≡◌ {A = Taken} (a.site, Commits a.index m x) (b.site, Commits b.index n y) → a ≡ b
      named m n x y e =
          let site = ap (λ (t : Taken). t.0) e in
          let item : Commits a.index m x ≡ Commits b.index n y = ap (λ (t : Taken). t.1) e in
          let index : a.index ≡ b.index = (let f : a.index ≡ b.index = cc in f) in
          λ t. record { site = site t; index = index t }

pub never_found : (catalog : Catalog) (contents : Contents) (finding : Finding) → IsFound catalog contents finding
    → (layouts : SiteId → Layout) (trails : List (List Entry)) → IsWhole catalog → AreLeft catalog layouts trails contents
    → IfNo finding (λ reason a b. ⊥)
never_found catalog contents (Yes order) is layouts trails whole left = tt
never_found catalog contents (No reason a b) is layouts trails whole left =
    never_no catalog contents reason a b is.1 layouts trails whole left
