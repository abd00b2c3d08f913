use Rattle.std.proofs.Common.{◌≡◌, ◌<◌, ◌≤◌, ℕ, List, length, Option, Some, None, refl, ap, sym, ◌∙◌, subst, arith, inl, inr}
use Rattle.walter_audit.specs.Contents.{AreLeft}
use Rattle.walter_audit.specs.Findings.{IfNo, IsFound}
use Rattle.walter_audit.specs.Reading.{contents_of}
use Rattle.walter_audit.specs.declared.content.Content.{Content as Kept}
use Rattle.walter_base.specs.declared.names.SiteId.{SiteId}
use Rattle.walter_rules.specs.declared.entry.Entry.{Entry}
use Rattle.walter_rules.specs.Layouts.{Layout}
use Rattle.walter_inspect.specs.Inspections.{AreAllRead, AreOnlyRead, IsFirstUnread}
use Rattle.walter_scenario.specs.declared.scenario.Scenario.{Scenario}
use Rattle.walter_cli.specs.declared.ended.Fault.{Fault}
use Rattle.walter_cli.specs.declared.ended.Fault.TheVariants.{Memory, Rack}
use Rattle.walter_cli.specs.Audits.{IsKept}
use Rattle.walter_cli.specs.Auditing.{EndsAudit, IsAuditFault, fault_of_unread}
use Rattle.walter_cli.specs.Racks.{RackAt, Racked, rack_at, racked}
use Rattle.walter_cli.specs.Statuses.{status_of}
use Rattle.walter_cli.proofs.Audited.{each_kept, ends_by, fails_behind, returned, told_ends, unread_fault, untaken_fault}
use Rattle.walter_cli.proofs.Giving.{IsReturned, balances}
use Rattle.walter_cli.proofs.Racking.{few_in, sure_back}
use Rattle.walter_cli.proofs.auditing.audit.Given.{Over}
use Rattle.walter_cli.proofs.auditing.audit.Goals.{After-give_all-given}
use Rattle.walter_cli.proofs.auditing.audit.Goals as goal

-- not all disks were taken
pub returns-in-Err : goal.returns-in-Err
returns-in-Err g c =
    let a : RackAt g.row.R-D.Denot = rack_at g.R.Rack c.args.rack.now in
    let b : RackAt g.row.R-D.Denot = rack_at g.R.Rack c.take_all.new.rack in
    let rack = racked g.R.D.Disk a b in
    let why = c.in-Err.ensures in
    let ended = c.early.ensures in record {
      trails = ended.trails;
      same_folder = c.take_all.ensures.same_folder;
      given_back = why.fault.given_back;
      unfailing = why.fault.unfailing;
      kept = why.kept;
      ends = ends_by rack c.args.scenario.now _ _ _ _ c.early.result.status c.early.result.fault c.in-Err.fault ended.status ended.fault
          (untaken_fault rack c.args.scenario.now _ _ c.in-Err.fault why.untaken);
    }

-- what is asked of the disks that were taken
pub read_contents-disks-requires-clause-some : goal.read_contents-disks-requires-clause-some
read_contents-disks-requires-clause-some g c =
    let many = c.in-Ok.ensures.taken.0 in
    let some = c.requires.playable.some in
    omega (arith, many, some)

pub read_contents-disks-requires-clause-many : goal.read_contents-disks-requires-clause-many
read_contents-disks-requires-clause-many g c = c.in-Ok.ensures.taken.0

pub read_contents-disks-requires-clause-few : goal.read_contents-disks-requires-clause-few
read_contents-disks-requires-clause-few g c = few_in c.args.scenario.now.format c.requires.playable.few

pub read_contents-disks-requires-clause-fresh : goal.read_contents-disks-requires-clause-fresh
read_contents-disks-requires-clause-fresh g c = c.in-Ok.ensures.taken.1.fresh

pub give_all-given-requires-clause-few : goal.give_all-given-requires-clause-few
give_all-given-requires-clause-few g c =
    let many = c.in-Ok.ensures.taken.0 in
    let long = c.read_contents-disks.ensures.only.many in
    let few = few_in c.args.scenario.now.format c.requires.playable.few in
    omega (arith, many, long, few)

-- the disks behind the call that gives them back to the rack
module _ (g : Over) (c : After-give_all-given g) where
  abbrev s : Scenario
  s = c.args.scenario.now

  abbrev before : RackAt g.row.R-D.Denot
  before = rack_at g.R.Rack c.args.rack.now

  abbrev mid : RackAt g.row.R-D.Denot
  mid = rack_at g.R.Rack c.take_all.new.rack

  abbrev after : RackAt g.row.R-D.Denot
  after = rack_at g.R.Rack c.give_all-given.new.rack

  abbrev rack : Racked
  rack = racked g.R.D.Disk before after

  abbrev taken : List g.row.R-D.Denot
  taken = c.in-Ok.disks.items

  abbrev back : List g.row.R-D.Denot
  back = c.read_contents-disks.result.disks.items

  many : length taken ≡ s.catalog.sites
  many = c.in-Ok.ensures.taken.0

  only : AreOnlyRead g.R.D.Disk taken back
  only = c.read_contents-disks.ensures.only

  is : IsReturned g.R.D.Disk before mid after taken back
  is = returned g.R.D.Disk before mid after taken back c.in-Ok.ensures.taken.1 only c.give_all-given.ensures.given

  balanced : rack.balanced
  balanced = balances g.R.D.Disk before mid after taken back is

  sure : 32 ≤ before.unfailing → before.faults < after.faults → ⊥
  sure enough rose =
      let few = few_in s.format c.requires.playable.few in
      let long = is.long in
      let same = sure_back g.R.D.Disk before mid after taken back c.in-Ok.ensures.taken.1 c.give_all-given.ensures.given long
      (omega (arith, few, many)) enough in
      omega (arith, rose, same)

  kept : rack.each (IsKept rack)
  kept = each_kept g.R.D.Disk s before mid after taken back is only

pub returns-in-Err-read-clause-given_back : goal.returns-in-Err-read-clause-given_back
returns-in-Err-read-clause-given_back g c = balanced g (goal.at.returns-in-Err-read-clause-given_back g c).After-give_all-given

pub returns-in-Err-read-clause-unfailing : goal.returns-in-Err-read-clause-unfailing
returns-in-Err-read-clause-unfailing g c = sure g (goal.at.returns-in-Err-read-clause-unfailing g c).After-give_all-given

pub returns-in-Err-read-clause-kept : goal.returns-in-Err-read-clause-kept
returns-in-Err-read-clause-kept g c = kept g (goal.at.returns-in-Err-read-clause-kept g c).After-give_all-given

pub returns-in-Err-given-clause-given_back : goal.returns-in-Err-given-clause-given_back
returns-in-Err-given-clause-given_back g c = balanced g (goal.at.returns-in-Err-given-clause-given_back g c).After-give_all-given

pub returns-in-Err-given-clause-unfailing : goal.returns-in-Err-given-clause-unfailing
returns-in-Err-given-clause-unfailing g c = sure g (goal.at.returns-in-Err-given-clause-unfailing g c).After-give_all-given

pub returns-in-Err-given-clause-kept : goal.returns-in-Err-given-clause-kept
returns-in-Err-given-clause-kept g c = kept g (goal.at.returns-in-Err-given-clause-kept g c).After-give_all-given

pub returns-in_default-audit-clause-given_back : goal.returns-in_default-audit-clause-given_back
returns-in_default-audit-clause-given_back g c = balanced g (goal.at.returns-in_default-audit-clause-given_back g c).After-give_all-given

pub returns-in_default-audit-clause-unfailing : goal.returns-in_default-audit-clause-unfailing
returns-in_default-audit-clause-unfailing g c = sure g (goal.at.returns-in_default-audit-clause-unfailing g c).After-give_all-given

pub returns-in_default-audit-clause-kept : goal.returns-in_default-audit-clause-kept
returns-in_default-audit-clause-kept g c = kept g (goal.at.returns-in_default-audit-clause-kept g c).After-give_all-given

pub returns-clause-given_back : goal.returns-clause-given_back
returns-clause-given_back g c = balanced g (goal.at.returns-clause-given_back g c).After-give_all-given

pub returns-clause-unfailing : goal.returns-clause-unfailing
returns-clause-unfailing g c = sure g (goal.at.returns-clause-unfailing g c).After-give_all-given

pub returns-clause-kept : goal.returns-clause-kept
returns-clause-kept g c = kept g (goal.at.returns-clause-kept g c).After-give_all-given

-- one can't be read
pub returns-in-Err-read-clause-ends : goal.returns-in-Err-read-clause-ends
returns-in-Err-read-clause-ends g c =
    let at = (goal.at.returns-in-Err-read-clause-ends g c).After-give_all-given in
    let u = c.in-Err-read.unread in
    let ended = c.early-in-Err-read.ensures in
    let first : IsFirstUnread g.R.D.Disk (s g at).capacity (s g at).catalog.sites (taken g at) (back g at) u =
    rw c.in-Err-read.is at c.read_contents-disks.ensures.unread in
    let named = c.unreadable.ensures in
    ends_by (rack g at) (s g at) _ _ _ _ c.early-in-Err-read.result.status c.early-in-Err-read.result.fault (fault_of_unread u.site u.why)
    (ended.status ∙ ap (λ (f : Fault). status_of (Some f)) named) (ended.fault ∙ ap (λ (f : Fault). Some f) named)
    (unread_fault g.R.D.Disk (s g at) (before g at) (mid g at) (after g at) (taken g at) (back g at) (is g at) (only g at) (many g at)
    u first _ _ u.why refl)

-- one could not be given back
pub returns-in-Err-given-clause-ends : goal.returns-in-Err-given-clause-ends
returns-in-Err-given-clause-ends g c =
    let at = (goal.at.returns-in-Err-given-clause-ends g c).After-give_all-given in
    let ended = c.early-in-Err-given.ensures in
    let site = c.in-Err-given.site in
    let contents = c.in-Ok-read.contents.items in
    let read : AreAllRead g.R.D.Disk (s g at).capacity (s g at).catalog.sites (taken g at) (back g at) contents =
    rw c.in-Ok-read.is at c.read_contents-disks.ensures.read in
    let behind = fails_behind g.R.D.Disk (s g at) (before g at) (mid g at) (after g at) (taken g at) (back g at) (is g at) (only g at)
    (many g at) contents read site c.in-Err-given.ensures.lost in
    ends_by (rack g at) (s g at) _ _ _ _ c.early-in-Err-given.result.status c.early-in-Err-given.result.fault (Rack site)
    ended.status ended.fault (behind.0, inr (inr behind.1), refl)

-- memory ran out within the audit
pub returns-in_default-audit-clause-ends : goal.returns-in_default-audit-clause-ends
returns-in_default-audit-clause-ends g c =
    let at = (goal.at.returns-in_default-audit-clause-ends g c).After-give_all-given in
    let ended = c.early-in_default-audit.ensures in
    ends_by (rack g at) (s g at) _ _ _ _ c.early-in_default-audit.result.status c.early-in_default-audit.result.fault Memory ended.status ended.fault refl

-- what is asked of the audit
pub audit-requires-clause-most : goal.audit-requires-clause-most
audit-requires-clause-most g c = few_in c.args.scenario.now.format c.requires.playable.few

pub audit-requires-clause-each : goal.audit-requires-clause-each
audit-requires-clause-each g c =
    let at = (goal.at.audit-requires-clause-each g c).After-give_all-given in
    let read : AreAllRead g.R.D.Disk (s g at).capacity (s g at).catalog.sites (taken g at) (back g at) c.in-Ok-read.contents.items =
    rw c.in-Ok-read.is at c.read_contents-disks.ensures.read in
    ap length c.deref.ensures.value ∙ (read.many ∙ many g at)

-- what was found was told, or not
pub returns-clause-ends : goal.returns-clause-ends
returns-clause-ends g c =
    let at = (goal.at.returns-clause-ends g c).After-give_all-given in
    let contents = c.in-Ok-read.contents.items in
    let read : AreAllRead g.R.D.Disk (s g at).capacity (s g at).catalog.sites (taken g at) (back g at) contents =
    rw c.in-Ok-read.is at c.read_contents-disks.ensures.read in
    let finding = c.in-Ok-audit.finding in
    let found = c.in-Ok-audit.ensures in
    let same = c.deref.ensures.value in
    let right : IsFound (s g at).catalog (contents_of contents) finding =
    subst (λ (kept : List Kept). IsFound (s g at).catalog (contents_of kept) finding) same (found.yes, found.no) in
    let never = subst (λ (kept : List Kept). (layouts : SiteId → Layout) (trails : List (List Entry))
    → AreLeft (s g at).catalog layouts trails (contents_of kept) → IfNo finding (λ reason a b. ⊥)) same
    (λ layouts trails left. found.never layouts trails c.requires.playable.whole left) in
    told_ends g.R.D.Disk (s g at) (before g at) (mid g at) (after g at) (taken g at) (back g at) (is g at) (only g at) (many g at)
    contents read c.in_default.ensures.ok finding right never _ _ _ _ c.tell.result.status c.tell.result.fault c.tell.ensures.told
