use Rattle.std.proofs.Common.{◌≡◌, ◌∙◌, ℕ, List, Some, ap, inl, inr, subst}
use Rattle.std.specs.Prelude.{String}
use Rattle.std.specs.Global.{Global}
use Rattle.walter_disk_file.specs.HostRacks.{RackState, fresh_rack}
use Rattle.walter_disk_file.specs.contracts.host_disk.HostDiskDisk.TheImpl.{ghosts as disk_ghosts}
use Rattle.walter_cli.specs.declared.ended.Ended.{Ended}
use Rattle.walter_cli.specs.Audits.{AuditPromise}
use Rattle.walter_cli.specs.Headline.{Outside, Promise}
use Rattle.walter_cli.specs.Hosts.{in_folder, on_host}
use Rattle.walter_cli.specs.Racks.{racked}
use Rattle.walter_cli.proofs.host.top_on_host.Goals as goal

-- what a call promises over the rack that was made for it
of_made : (words : List (String Global)) (folder : List ℕ) (made last : RackState) (before after : Outside) (ended : Ended)
    → made ≡ fresh_rack (Some folder) 0 → Promise words (racked disk_ghosts (on_host made) (on_host last)) before after ended
    → Promise words (in_folder folder last) before after ended
of_made words folder made last before after ended is promise =
    subst (λ (rack : RackState). Promise words (racked disk_ghosts (on_host rack) (on_host last)) before after ended) is promise

audit_made : (folder : List ℕ) (made last : RackState) (before after : Outside) (ended : Ended)
    → made ≡ fresh_rack (Some folder) 0 → AuditPromise (racked disk_ghosts (on_host made) (on_host last)) before after ended
    → AuditPromise (in_folder folder last) before after ended
audit_made folder made last before after ended is promise =
    subst (λ (rack : RackState). AuditPromise (racked disk_ghosts (on_host rack) (on_host last)) before after ended) is promise

pub returns-in-Ok-None : goal.returns-in-Ok-None
returns-in-Ok-None g c = ((c.top_in_memory-ended.ensures.assured, c.top_in_memory-ended.ensures.audit), inl (rw c.in-Ok-None.field-0-is at c.in-Ok-None.ensures))

pub returns-in-Ok-Some : goal.returns-in-Ok-Some
returns-in-Ok-Some g c =
    let made = c.over-rack.ensures ∙ ap (λ (path : List ℕ). fresh_rack (Some path) 0) c.into_string.ensures in (
      c.in-Ok-Some.folder,
      rw c.in-Ok-Some.field-0-is at c.in-Ok-Some.ensures,
      c.top-ended.ensures.same_folder ∙ ap (λ (rack : RackState). rack.folder) made,
      (
        λ no_audit. of_made c.args.words.now c.in-Ok-Some.folder c.over-rack.result c.top-ended.new.rack _ _ c.top-ended.result made
            (c.top-ended.ensures.promise no_audit),
        λ asks. audit_made c.in-Ok-Some.folder c.over-rack.result c.top-ended.new.rack _ _ c.top-ended.result made
            (c.top-ended.ensures.audit asks),
      ),
    )

pub returns-in-Err : goal.returns-in-Err
returns-in-Err g c = ((λ no_audit. c.without_memory-ended.ensures.assured c.args.words.now _, λ asks. c.without_memory-ended.ensures.audit _), inr c.without_memory-ended.ensures.status)
