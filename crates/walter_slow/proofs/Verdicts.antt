-- What a YES comes to.
use Rattle.std.proofs.Common.{◌≡◌, ◌∷◌, ◌&&◌, Bool, true, Some, is_some, ap, ◌∙◌, if◌then◌else◌}
use Rattle.std.specs.List.{list_all}
use Rattle.walter_base.specs.declared.names.SiteId.{SiteId}
use Rattle.walter_base.specs.declared.packet.Answer.TheVariants.{Yes}
use Rattle.walter_rules.specs.Slow.{has_site}
use Rattle.walter_slow.specs.declared.verdict.Verdict.TheVariants.{Commit, Waiting, Unknown}
use Rattle.walter_slow.specs.Kept.{Kept, verdict_of}

-- a YES of a site that is asked decides where all the others are heard
pub yes_verdict : (kept : Kept) (from : SiteId) (all : Bool) → is_some kept.tx ≡ true → has_site from kept.asked ≡ true
    → list_all (λ site. has_site site (from ∷ kept.heard)) kept.asked ≡ all → verdict_of (Some kept) from Yes ≡ (if all then Commit else Waiting)
yes_verdict kept from all undecided has is =
    ap (λ b. if b && has_site from kept.asked then (if list_all (λ site. has_site site (from ∷ kept.heard)) kept.asked then Commit else Waiting) else Unknown) undecided
    ∙ ap (λ b. if b then (if list_all (λ site. has_site site (from ∷ kept.heard)) kept.asked then Commit else Waiting) else Unknown) has
    ∙ ap (λ b. if b then Commit else Waiting) is
