-- A site with its trail and its lanes that has come up for the first time.
use Rattle.std.proofs.Common.{◌≡◌, ◌<◌, ◌≤◌, ℕ, List, [], ◌∷◌, length, refl, ap, sym, ◌∙◌, subst, arith, inl, inr, Option, Some, None, Result, slice_get}
use Rattle.std.specs.Prelude.{All, IfSome, is_some, true, reverse, count_by}
use Rattle.std.proofs.lemmas.List.Elements.{All-nil, All-push}
use Rattle.walter_base.specs.declared.catalog.Catalog.{Catalog}
use Rattle.walter_base.specs.declared.format.Format.{Format}
use Rattle.walter_base.specs.declared.names.SiteId.{SiteId}
use Rattle.walter_checkpoint.specs.Areas.{Shape, shape_by}
use Rattle.walter_checkpoint.specs.Loads.{IsAreas}
use Rattle.walter_disk.specs.Images.{LeavesOnly}
use Rattle.walter_disk.specs.declared.disk.Disk.{Ghosts}
use Rattle.walter_engine.specs.Engines.{catalog_in, site_in, layout_for, layout_in, disk_in, Stands}
use Rattle.walter_outbox.specs.Lanes.{put_to, HavePut}
use Rattle.walter_rules.specs.declared.entry.Entry.{Entry}
use Rattle.walter_rules.specs.Layouts.{Layout, left_behind}
use Rattle.walter_rules.specs.Standing.{unmade}
use Rattle.walter_rules.specs.Trails.{ruled, opening, standing, clock, all_out, IsRightTrail}
use Rattle.walter_engine.specs.Begins.{HasOnly, IsBegun, IsFaultOfBegin, MayHaveBegun}
use Rattle.walter_engine.specs.declared.answers.BeginFault.{BeginFault}
use Rattle.walter_machine.specs.Comings.{IsSized, is_faulty}
use Rattle.walter_packet.specs.Spelling.{HasPacketSpelling}
use Rattle.walter_rules.specs.Sending.{Send}
use Rattle.walter_cell.specs.Builds.{Begins, OfBuilt, begun_by, calls_once_begun}
use Rattle.walter_cell.specs.Entries.{HaveRisingStamps}
use Rattle.walter_cell.specs.Nodes.{NodeParts, IsNode, IsKnownNode, calls_under, is_told}

one_of_all : {X : Type 0} (P : X → Type 0) (x : X) → P x → All P (x ∷ [])
one_of_all P x holds = All-push P [] x (All-nil P) holds

-- there is place for the first epoch
pub has_place : (areas capacity sites : ℕ) (header : Format) → IsAreas areas capacity → 19 ≤ capacity
    → 10 ≤ left_behind (layout_for areas capacity sites header) unmade
has_place areas capacity sites header (inl one) most =
    subst (λ (a : ℕ). 10 ≤ left_behind (layout_for a capacity sites header) unmade) (sym one) (omega (arith, most))
has_place areas capacity sites header (inr (two, least)) most =
    subst (λ (a : ℕ). 10 ≤ left_behind (layout_for a capacity sites header) unmade) (sym two) (omega (arith, least))

opening_right : (catalog : Catalog) (layout : Layout) (i : SiteId) → 10 ≤ left_behind layout unmade
    → IsRightTrail catalog layout i (opening ∷ [])
opening_right catalog layout i place =
    record {
      opening = opening;
      begins = refl;
      opens = record { stamp = refl; event = refl; wrote = refl };
      right = (
        tt,
        record {
          stamp = refl;
          kept = tt;
          comes = ruled place (record { outcome = refl; wrote = refl; flight = refl; sends = all_out unmade.carried });
        },
      );
    }

of_some : {X : Type 0} (o : Option X) (P : X → Type 0) → ((x : X) → P x) → IfSome o P
of_some None P all = tt
of_some (Some x) P all = all x

-- what holds of the disk that is found, holds of the disk
pub from_found : {X : Type 0} (found : Option X) (x : X) (P : X → Type 0) → found ≡ Some x → IfSome found P → P x
from_found found x P is holds = subst (λ o. IfSome o P) is holds

pub to_found : {X : Type 0} (found : Option X) (x : X) (P : X → Type 0) → found ≡ Some x → P x → IfSome found P
to_found found x P is holds = subst (λ o. IfSome o P) (sym is) holds

-- what a crash now leaves of the disk in an engine, by what one leaves at any moment of a call
pub leaves_now : {D : Type 0} (g : Ghosts D) → ((disk : D) (t : ℕ) (image : List ℕ) → t ≤ g.moment disk → g.may_leave disk image → g.left_since disk t image)
    → (old new : Option D) (disk : D) (P : List ℕ → Type 0) → old ≡ Some disk → IfSome old (λ before. IfSome new (λ after. LeavesOnly g.moment g.left_since before after P))
    → IfSome new (λ after. (image : List ℕ) → g.may_leave after image → P image)
leaves_now {D = D} g counts_now old new disk P is both = by new (from_found old disk (λ before. IfSome new (λ after. LeavesOnly g.moment g.left_since before after P)) is both)
  where
    by : (found : Option D) → IfSome found (λ after. LeavesOnly g.moment g.left_since disk after P) → IfSome found (λ after. (image : List ℕ) → g.may_leave after image → P image)
    by None leaves = tt
    by (Some after) leaves = λ image left. leaves.each image (counts_now after (g.moment disk) image leaves.later left)

-- the same, told of an equal list
module _ {X : Type 0} (P : List X → Type 0) where
  of_one : (xs : List X) (x : X) → xs ≡ x ∷ [] → P (x ∷ []) → P xs
  of_one xs x is holds = subst P (sym is) holds

module _ {D : Type 0} {g : Ghosts D} (catalog : Catalog) (layout : Layout) (i : SiteId) (node : NodeParts D g)
    (is : node.trail ≡ opening ∷ []) where
  -- where the engine stands as the opening says
  pub known_built : 10 ≤ left_behind layout unmade → Stands node.engine (standing catalog i (opening ∷ []))
      → IsKnownNode catalog layout i node
  known_built place stands = record {
    stands = of_one (λ (es : List Entry). Stands node.engine (standing catalog i (reverse es))) node.trail opening is stands;
    right = of_one (λ (es : List Entry). IsRightTrail catalog layout i es) node.trail opening is
        (opening_right catalog layout i place);
  }

  -- whatever its disk tells
  pub node_built : catalog_in node.engine ≡ catalog → site_in node.engine ≡ i → layout_in node.engine ≡ layout
      → node.clock ≡ 1 → length node.outs ≡ catalog.sites
      → ((k : ℕ) → k < catalog.sites → put_to node.outs k ≡ []) → IsNode catalog layout i node
  node_built catalog_is site layout_is one long empty = record {
    catalog_is = catalog_is;
    site = site;
    layout_is = layout_is;
    begins = ap (λ es. slice_get es 0) is;
    last = one ∙ of_one (λ (es : List Entry). 1 ≡ clock (reverse es)) node.trail opening is refl;
    early = omega (arith, one);
    rise = of_one (λ (es : List Entry). HaveRisingStamps (reverse es)) node.trail opening is (omega arith, tt);
    sized = of_one (λ (es : List Entry). All (λ (e : Entry). IsSized catalog.sites e.came) es) node.trail opening is
        (one_of_all (λ (e : Entry). IsSized catalog.sites e.came) opening
        (record { outcome = tt; kept = tt; wrote = omega arith; flight = tt; sends = All-nil (λ (s : Send). HasPacketSpelling catalog.sites s.1) }));
    put = of_one (λ (es : List Entry). HavePut catalog.sites es node.outs) node.trail opening is
        (record { long = long; each = λ k below. empty k below });
    faults = of_some (disk_in node.engine) (λ disk. count_by (λ (e : Entry). is_faulty e.came.outcome) node.trail ≤ (g.known disk).faults)
        (λ disk. let none = ap (λ (es : List Entry). count_by (λ (e : Entry). is_faulty e.came.outcome) es) is in omega (arith, none));
  }

-- by equal numbers and headers
pub shape_same : (a b m n : ℕ) (h k : Format) → a ≡ b → m ≡ n → h ≡ k → shape_by a m h ≡ shape_by b n k
shape_same a b m n h k x y z = λ j. shape_by (x j) (y j) (z j)

pub layout_same : (areas a b m n : ℕ) (h k : Format) → a ≡ b → m ≡ n → h ≡ k → layout_for areas a m h ≡ layout_for areas b n k
layout_same areas a b m n h k x y z = λ j. layout_for areas (x j) (y j) (z j)

-- whether the disk tells what it holds, as the one did that the site was given
pub told_here : {D : Type 0} (g : Ghosts D) (old new : Option D) (disk : D) → old ≡ Some disk → is_some new ≡ true
    → IfSome old (λ a. IfSome new (λ b. is_some (g.known b).reads ≡ is_some (g.known a).reads))
    → is_told g new ≡ is_some (g.known disk).reads
told_here g old None disk is there both = absurd cc
told_here g old (Some now) disk is there both =
    from_found old disk (λ a. is_some (g.known now).reads ≡ is_some (g.known a).reads) is both

-- how many calls of the disk were made, told of the one that the site was given
pub calls_here : {D : Type 0} (g : Ghosts D) (shape : Shape) (areas : ℕ) (old new : Option D) (disk : D) → old ≡ Some disk
    → is_some new ≡ true → IfSome old (λ x. IfSome new (λ y. g.device_calls y ≡ calls_once_begun g shape areas x))
    → calls_under g new ≡ calls_once_begun g shape areas disk
calls_here g shape areas old None disk is there both = absurd cc
calls_here g shape areas old (Some now) disk is there both =
    from_found old disk (λ x. g.device_calls now ≡ calls_once_begun g shape areas x) is both

-- what a first restart comes to, told of the disk that the site was given
module _ {D N : Type 0} (g : Ghosts D)
    (counts_now : (disk : D) (t : ℕ) (image : List ℕ) → t ≤ g.moment disk → g.may_leave disk image → g.left_since disk t image)
    (disk_of : N → Option D) (shape : Shape) (areas : ℕ) (disk : D) (r : Result N (D × BeginFault)) (answer : Result (Unit {0}) BeginFault) (old new : Option D)
    (old_is : old ≡ Some disk) (answered : begun_by r ≡ answer) (now_of : (P : D → Type 0) → IfSome new P → OfBuilt disk_of r P) where
  of_given : (R : D → D → Type 0) → IfSome old (λ x. IfSome new (λ y. R x y)) → IfSome new (λ y. R disk y)
  of_given R both = from_found old disk (λ x. IfSome new (λ y. R x y)) old_is both

  pub begins_by : ((bytes : List ℕ) → IfSome old (HasOnly g bytes) → IsBegun shape bytes answer)
      → ((bytes : List ℕ) → IfSome old (HasOnly g bytes)
      → IfSome old (λ x. IfSome new (λ y. LeavesOnly g.moment g.left_since x y (MayHaveBegun shape areas bytes))))
      → IfSome old (λ x. IfSome new (λ y. IsFaultOfBegin answer (g.known x).faults (g.known y).faults))
      → IfSome old (λ x. IfSome new (λ y. g.device_calls y ≤ calls_once_begun g shape areas x))
      → IfSome old (λ x. IfSome new (λ y. (g.known y).arms ≡ (g.known x).arms))
      → Begins g disk_of shape areas disk r
  begins_by begins any_moment faults calls arms = record {
    begins = λ bytes only.
        subst (λ (a : Result (Unit {0}) BeginFault). IsBegun shape bytes a) (sym answered) (begins bytes (to_found old disk (HasOnly g bytes) old_is only));
    leaves = λ bytes only.
        now_of _ (leaves_now g counts_now old new disk (MayHaveBegun shape areas bytes) old_is (any_moment bytes (to_found old disk (HasOnly g bytes) old_is only)));
    faults = now_of _
        (subst (λ (a : Result (Unit {0}) BeginFault). IfSome new (λ y. IsFaultOfBegin a (g.known disk).faults (g.known y).faults)) (sym answered)
        (of_given (λ x y. IsFaultOfBegin answer (g.known x).faults (g.known y).faults) faults));
    calls = now_of _ (of_given (λ x y. g.device_calls y ≤ calls_once_begun g shape areas x) calls);
    arms = now_of _ (of_given (λ x y. (g.known y).arms ≡ (g.known x).arms) arms);
  }
