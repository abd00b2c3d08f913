-- What is read of the disks of all sites, and what an audit of them comes to.
use Rattle.std.proofs.Common.{◌≡◌, ◌≢◌, ◌<◌, ◌≤◌, ◌+◌, ℕ, List, [], length, slice_get, Option, Some, None, refl, ap, sym, ◌∙◌, subst, arith, inl, inr, ◌⊎◌}
use Rattle.std.specs.Prelude.{IfSome, IsSome, false}
use Rattle.std.proofs.lemmas.Option.{slice_get_within}
use Rattle.walter_audit.specs.Contents.{Content, Contents, AreLeft}
use Rattle.walter_audit.specs.Findings.{IfNo, IsFound}
use Rattle.walter_audit.specs.Reading.{contents_of, held, held_if}
use Rattle.walter_audit.specs.declared.content.Content.{Content as Kept}
use Rattle.walter_audit.specs.declared.finding.Finding.{Finding}
use Rattle.walter_audit.specs.declared.finding.Finding.TheVariants.{Yes, No}
use Rattle.walter_base.specs.declared.names.SiteId.{SiteId}
use Rattle.walter_checkpoint.specs.Areas.{IsForeign}
use Rattle.walter_cluster.proofs.Changes.{there_is}
use Rattle.walter_disk.specs.Disks.{Arming}
use Rattle.walter_disk.specs.declared.disk.Disk.{Ghosts}
use Rattle.walter_disk.specs.Images.{Only}
use Rattle.walter_inspect.specs.Findings.{finding_text}
use Rattle.walter_inspect.specs.Inspections.{AreAllRead, AreOnlyRead, IsContentOf, IsFirstUnread, IsOnlyRead, IsReadAs, IsUnread}
use Rattle.walter_inspect.specs.declared.inspecting.Unread.{Unread}
use Rattle.walter_journal.specs.declared.fault.JournalFault.{JournalFault}
use Rattle.walter_journal.specs.declared.fault.JournalFault.TheVariants as unread
use Rattle.walter_rules.specs.declared.entry.Entry.{Entry}
use Rattle.walter_rules.specs.Knowledge.{site_at}
use Rattle.walter_rules.specs.Layouts.{Layout}
use Rattle.walter_scenario.specs.declared.scenario.Scenario.{Scenario}
use Rattle.walter_stream.specs.Streams.{Appends, AppendsFront}
use Rattle.walter_cli.specs.declared.ended.JournalCause.TheVariants.{Foreign, Damaged, Used}
use Rattle.walter_cli.specs.declared.ended.Fault.{Fault}
use Rattle.walter_cli.specs.declared.ended.Fault.TheVariants.{Usage, Scenario as ScenarioFault, Read, Write, Memory, Rack, Journal}
use Rattle.walter_cli.specs.Auditing.{EndsAudit, IsAuditFault, IsToldAs, IsWhyUntaken, fault_of_unread}
use Rattle.walter_cli.specs.Statuses.{status_of}
use Rattle.walter_cli.specs.Audits.{CanBeRead, CannotBeRead, HasContentOf, IsAudited, IsDiskOfAudit, IsFirstUnreadable, IsKept, FailsBehind, SaysNo, SaysYes}
use Rattle.walter_cli.specs.Disks.{AreGiven, AreTaken, IsFirstLost}
use Rattle.walter_cli.specs.Racks.{RackAt, Racked, Holds, HasFailed, IsFaultlessBefore, racked}
use Rattle.walter_cli.proofs.Giving.{IsReturned, all_back, each_back, fails_to_give, holds_taken, of_reads, one_back, took_all}

-- what reads as other bytes did reads them, where these are told
told_is : (now was : Option (List ℕ)) → now ≡ was → IfSome was (λ bytes. now ≡ Some bytes)
told_is now None same = tt
told_is now (Some bytes) same = same

-- what is so of bytes that are told, where something else is
some_of : (o : Option (List ℕ)) (P Q : List ℕ → Type 0) → ((bytes : List ℕ) → P bytes → Q bytes) → IfSome o P → IfSome o Q
some_of None P Q so holds = tt
some_of (Some bytes) P Q so holds = so bytes holds

-- what isn't no is yes
no_no : (finding : Finding) → IfNo finding (λ reason a b. ⊥) → SaysYes finding
no_no (Yes order) none = tt
no_no (No reason a b) none = none

-- an audit that ends with a fault
pub ends_by : (rack : Racked) (s : Scenario) (holds holds' : Option (List ℕ)) (faults faults' status : ℕ) (named : Option Fault)
    (fault : Fault) → status ≡ status_of (Some fault) → named ≡ Some fault → IsAuditFault rack s holds holds' faults faults' fault
    → EndsAudit rack s holds holds' faults faults' status named
ends_by rack s holds holds' faults faults' status named fault is is_fault why =
    subst (λ (f : Option Fault). EndsAudit rack s holds holds' faults faults' status f) (sym is_fault) (is, why)

-- not all disks were taken
pub untaken_fault : (rack : Racked) (s : Scenario) (holds : Option (List ℕ)) (faults : ℕ) (fault : Fault) → IsWhyUntaken rack s fault
    → IsAuditFault rack s holds holds faults faults fault
untaken_fault rack s holds faults Memory why = refl
untaken_fault rack s holds faults (Rack site) why = (why.0, inl why.1, refl)
untaken_fault rack s holds faults (Usage text) why = absurd why
untaken_fault rack s holds faults (ScenarioFault place detail) why = absurd why
untaken_fault rack s holds faults Read why = absurd why
untaken_fault rack s holds faults Write why = absurd why
untaken_fault rack s holds faults (Journal site cause place) why = absurd why

-- the disks that were taken, and read alone, are given back
pub returned : {D : Type 0} (g : Ghosts D) (before mid after : RackAt D) (taken back : List D) → AreTaken g before mid taken
    → AreOnlyRead g taken back → AreGiven mid after 0 back → IsReturned g before mid after taken back
returned g before mid after taken back was only gives = record {
  told = was.told;
  fresh = was.fresh;
  same_given = was.given;
  same_handed = was.handed;
  many = was.taken;
  level = (let same = was.faults in omega (arith, same));
  long = only.many;
  gives = gives;
}

module _ {D : Type 0} (g : Ghosts D) (s : Scenario) (before mid after : RackAt D) (taken back : List D)
    (is : IsReturned g before mid after taken back) (only : AreOnlyRead g taken back) where
  abbrev rack : Racked
  rack = racked g before after

  -- what holds of the disk that was taken for a site
  held_by : (i : ℕ) (disk : D) (P : List ℕ → Type 0) → slice_get taken i ≡ Some disk → IfSome (g.known disk).reads P → Holds rack i P
  held_by i disk P at holds = holds_taken g before.disks i disk (is.told i disk at) P holds

  -- the disk that was taken, by the one that is given back
  taken_of : (i : ℕ) (now : D) → slice_get back i ≡ Some now → (disk : D) × (slice_get taken i ≡ Some disk)
  taken_of i now at =
      let within = slice_get_within back i now at in
      let long = is.long in
      there_is taken i (omega (arith, within, long))

  kept_one : (i : ℕ) (now : D) → slice_get back i ≡ Some now → IsKept rack i (g.known now) (g.may_leave now)
  kept_one i now at =
      let was = taken_of i now at in
      let disk = was.0 in
      let read = only.each i disk now was.1 at in
      let fresh = is.fresh i disk was.1 in record {
        unarmed = subst (λ (o : Option (List Arming)). IfSome o (λ told. told ≡ [])) (sym read.arms) fresh.unarmed;
        only = held_by i disk (λ bytes. Only bytes (g.may_leave now)) was.1
            (of_reads (g.known disk).reads (g.may_leave disk) (λ bytes. Only bytes (g.may_leave now)) fresh.durable
            (λ bytes told nothing_else image left. nothing_else image (read.crash image left)));
        reads = λ whole. held_by i disk (λ bytes. (g.known now).reads ≡ Some bytes) was.1
            (told_is (g.known now).reads (g.known disk).reads (read.reads whole));
      }

  -- each disk is handed back as it was taken
  pub each_kept : rack.each (IsKept rack)
  each_kept = each_back g before mid after taken back is (IsKept rack) kept_one

  module _ (many : length taken ≡ s.catalog.sites) where
    -- what the journal of a site holds
    module _ (contents : List Kept) (read : AreAllRead g s.capacity s.catalog.sites taken back contents) where
      content_at : (i : ℕ) → i < length taken → (content : Kept) × (slice_get contents i ≡ Some content)
      content_at i within = let long = read.many in there_is contents i (omega (arith, within, long))

      read_at : (i : ℕ) (disk now : D) → slice_get taken i ≡ Some disk → slice_get back i ≡ Some now
          → IsReadAs g s.capacity s.catalog.sites disk now (contents_of contents (site_at i))
      read_at i disk now at there =
          let content = content_at i (slice_get_within taken i disk at) in
          subst (IsReadAs g s.capacity s.catalog.sites disk now) (sym (ap held_if content.1)) (read.each i content.0 content.1 disk now at there)

      disk_of : (i : ℕ) (now : D) → slice_get back i ≡ Some now → IsDiskOfAudit rack s (contents_of contents) i (g.known now) (g.may_leave now)
      disk_of i now at =
          let was = taken_of i now at in
          let has = read_at i was.0 now was.1 at in record {
            kept = kept_one i now at;
            whole = has.whole;
            content = subst (λ o. IfSome o (HasContentOf s (contents_of contents (site_at i)))) (sym ((only.each i was.0 now was.1 at).reads has.whole)) has.holds;
          }

      -- the disk that is given back, by its site
      back_of : (i : ℕ) → i < length taken → (now : D) × (slice_get back i ≡ Some now)
      back_of i within = let long = is.long in there_is back i (omega (arith, within, long))

      pub held_of : (i : ℕ) → i < s.catalog.sites → Holds rack i (HasContentOf s (contents_of contents (site_at i)))
      held_of i low =
          let within : i < length taken = omega (arith, low, many) in
          let disk = there_is taken i within in
          let now = back_of i within in
          held_by i disk.0 (HasContentOf s (contents_of contents (site_at i))) disk.1 (read_at i disk.0 now.0 disk.1 now.1).holds

      pub readable : (i : ℕ) → i < s.catalog.sites → Holds rack i (CanBeRead s)
      readable i low = some_of (rack.bytes i) (HasContentOf s (contents_of contents (site_at i))) (CanBeRead s)
          (λ bytes has. (contents_of contents (site_at i), has)) (held_of i low)

      -- all could be read, and were given back
      pub audited : after.faults ≡ mid.faults → (finding : Finding) (Says : Finding → Type 0) (Written : List ℕ → Type 0)
          → Says finding → IsFound s.catalog (contents_of contents) finding
          → ((layouts : SiteId → Layout) (trails : List (List Entry)) → AreLeft s.catalog layouts trails (contents_of contents) → SaysYes finding)
          → Written (finding_text s.catalog.sites finding) → IsAudited rack s Says Written
      audited same finding Says Written says right never written = record {
        contents = contents_of contents;
        disks = subst (λ (n : ℕ). rack.all n (IsDiskOfAudit rack s (contents_of contents))) many
            (all_back g before mid after taken back is (IsDiskOfAudit rack s (contents_of contents)) same disk_of);
        held = held_of;
        finding = finding;
        says = says;
        right = right;
        never = never;
        bytes_written = written;
      }

      -- and what was found was written, or not
      pub told_ends : after.faults ≡ mid.faults → (finding : Finding) → IsFound s.catalog (contents_of contents) finding
          → ((layouts : SiteId → Layout) (trails : List (List Entry)) → AreLeft s.catalog layouts trails (contents_of contents)
          → IfNo finding (λ reason a b. ⊥))
          → (holds holds' : Option (List ℕ)) (faults faults' status : ℕ) (fault : Option Fault)
          → IsToldAs s.catalog.sites finding holds holds' faults faults' status fault
          → EndsAudit rack s holds holds' faults faults' status fault
      told_ends same finding right never holds holds' faults faults' status None told = elim told.1 [
        | inl agreed ↦
            inl (
              agreed.0,
              audited same finding SaysYes (Appends holds holds') agreed.1 right
                  (λ layouts trails left. no_no finding (never layouts trails left)) told.0,
            )
        | inr denied ↦
            inr (
              denied.0,
              audited same finding SaysNo (Appends holds holds') denied.1 right
                  (λ layouts trails left. no_no finding (never layouts trails left)) told.0,
            )
      ]
      told_ends same finding right never holds holds' faults faults' status (Some Write) told = (
        told.0,
        (
          audited same finding (λ f. Unit {0}) (AppendsFront holds holds') tt right
              (λ layouts trails left. no_no finding (never layouts trails left)) told.1,
          told.2,
        ),
      )
      told_ends same finding right never holds holds' faults faults' status (Some Memory) told = told
      told_ends same finding right never holds holds' faults faults' status (Some (Usage text)) told = absurd told
      told_ends same finding right never holds holds' faults faults' status (Some (ScenarioFault place detail)) told = absurd told
      told_ends same finding right never holds holds' faults faults' status (Some Read) told = absurd told
      told_ends same finding right never holds holds' faults faults' status (Some (Rack site)) told = absurd told
      told_ends same finding right never holds holds' faults faults' status (Some (Journal site cause place)) told = absurd told

      -- all could be read, and one was not given back
      pub fails_behind : (site : ℕ) → IsFirstLost mid after back site → (site < s.catalog.sites) × FailsBehind rack s site
      fails_behind site lost =
          let within = lost.within in
          let long = is.long in
          (omega (arith, within, long, many), record { give = fails_to_give g before mid after taken back is site lost; read = readable })

    -- one can't be read
    module _ (u : Unread) (first : IsFirstUnread g s.capacity s.catalog.sites taken back u) where
      the_disk : (disk : D) × (slice_get taken u.site ≡ Some disk)
      the_disk = there_is taken u.site first.within

      the_now : (now : D) × (slice_get back u.site ≡ Some now)
      the_now = let within = first.within in let long = is.long in there_is back u.site (omega (arith, within, long))

      why_is : IsUnread g s.capacity s.catalog.sites the_disk.0 the_now.0 u.why
      why_is = first.why the_disk.0 the_now.0 the_disk.1 the_now.1

      within_sites : u.site < s.catalog.sites
      within_sites = let within = first.within in omega (arith, within, many)

      others_read : (i : ℕ) → i < u.site → Holds rack i (CanBeRead s)
      others_read i low =
          let below = first.within in
          let within : i < length taken = omega (arith, low, below) in
          let long = is.long in
          let disk = there_is taken i within in
          let now = there_is back i (omega (arith, within, long)) in
          let found = first.before i low disk.0 now.0 disk.1 now.1 in
          some_of (rack.bytes i) (HasContentOf s found.0) (CanBeRead s) (λ bytes has. (found.0, has))
          (held_by i disk.0 (HasContentOf s found.0) disk.1 found.1.holds)

      faultless_before : rack.each (IsFaultlessBefore u.site)
      faultless_before = each_back g before mid after taken back is (IsFaultlessBefore u.site) (λ i now at low.
          let was = taken_of i now at in
          (first.before i low was.0 now was.1 at).1.faultless ∙ (is.fresh i was.0 was.1).faultless)

      pub unread_fault : (holds : Option (List ℕ)) (faults : ℕ) (why : JournalFault) → u.why ≡ why
          → IsAuditFault rack s holds holds faults faults (fault_of_unread u.site why)
      unread_fault holds faults unread.Failed same = (
        within_sites,
        inr (inl (record {
          all = subst (λ (n : ℕ). rack.took n) many (took_all g before mid after taken back is);
          failed = one_back g before mid after taken back is u.site the_now.0 HasFailed the_now.1
              (let rose : (g.known the_disk.0).faults < (g.known the_now.0).faults =
              subst (IsUnread g s.capacity s.catalog.sites the_disk.0 the_now.0) same why_is in
              omega (arith, rose));
          before = faultless_before;
          others = others_read;
        })),
        refl,
      )
      unread_fault holds faults unread.Foreign same = (
        within_sites,
        record {
          unreadable = held_by u.site the_disk.0 (CannotBeRead s Foreign 0) the_disk.1
              (some_of (g.known the_disk.0).reads (IsForeign s.capacity s.catalog.sites) (CannotBeRead s Foreign 0) (λ bytes so. (refl, so))
              (subst (IsUnread g s.capacity s.catalog.sites the_disk.0 the_now.0) same why_is).are);
          others = others_read;
        },
        faultless_before,
        (λ e. cc),
        refl,
      )
      unread_fault holds faults (unread.Damaged at length) same = (
        within_sites,
        record {
          unreadable = held_by u.site the_disk.0 (CannotBeRead s (Damaged length) at) the_disk.1
              (subst (IsUnread g s.capacity s.catalog.sites the_disk.0 the_now.0) same why_is).are;
          others = others_read;
        },
        faultless_before,
        (λ e. cc),
        refl,
      )
      unread_fault holds faults unread.NoMemory same = refl
