use Rattle.std.proofs.Common.{sym, ◌∙◌, subst, arith}
use Rattle.std.specs.Prelude.{ℕ, IfSome}
use Rattle.walter_audit.specs.Firsts.{IsSoAt, IsFirstPlace}
use Rattle.walter_audit.specs.Journals.{AreAmong}
use Rattle.walter_audit.specs.Starts.{IsUnstartedIn}
use Rattle.walter_audit.proofs.Asked.{got_at, journal_at, none_of}
use Rattle.walter_audit.proofs.Standing.{found_unstarted, none_more_unstarted, none_unstarted_at_all}
use Rattle.walter_audit.proofs.starting.first_unstarted.Goals as goal

pub unstarted_in-requires-clause-among : goal.unstarted_in-requires-clause-among
unstarted_in-requires-clause-among c =
    let n = c.loop-number.number in
    let at = got_at c.args.journals.now n c.index-journals-number.result c.loop-number-test.true c.index-journals-number.is in
    subst (λ rs. AreAmong c.args.catalog.now.sites rs)
    (journal_at c.args.journals.now n c.index-journals-number.result at ∙ sym c.records.ensures) (c.requires.among (record { 0 = n }))

pub returns-in-Some-clause-first : goal.returns-in-Some-clause-first
returns-in-Some-clause-first c =
    let n = c.loop-number.number in
    let at = got_at c.args.journals.now n c.index-journals-number.result c.loop-number-test.true c.index-journals-number.is in
    let first = subst (λ o. IfSome o (IsFirstPlace (IsUnstartedIn c.args.catalog.now c.records.result.now) (record { 0 = n })
    c.records.result.now)) c.in-Some.is c.in_ok-index.ensures.first in
    found_unstarted c.args.catalog.now c.args.journals.now n c.index-journals-number.result at c.loop-number.invariant c.in-Some.index
    (subst (λ rs. IsFirstPlace (IsUnstartedIn c.args.catalog.now rs) (record { 0 = n }) rs c.in-Some.index) c.records.ensures first)

pub loop-number-preserved : goal.loop-number-preserved
loop-number-preserved c =
    let n = c.loop-number.number in
    let at = got_at c.args.journals.now n c.index-journals-number.result c.loop-number-test.true c.index-journals-number.is in
    let none = none_of c.in_ok-index.field-0 c.in_default.not-Some c.in_ok-index.ensures.none in
    none_more_unstarted c.args.catalog.now c.args.journals.now n c.index-journals-number.result at c.loop-number.invariant
    (subst (λ rs. (index : ℕ) → ¬ IsSoAt (IsUnstartedIn c.args.catalog.now rs) (record { 0 = n }) rs index) c.records.ensures none)

pub returns-clause-none : goal.returns-clause-none
returns-clause-none c = none_unstarted_at_all c.args.catalog.now c.args.journals.now c.loop-number.number (omega arith)
    c.loop-number.invariant
