use Rattle.std.proofs.Common.{◌≡◌, ◌<◌, ◌∷◌, [], ◌++◌, length, All, subst, sym, ap, ◌∙◌}
use Rattle.std.proofs.lemmas.List.Elements.{All-push}
use Rattle.walter_journal.specs.Layout.{IsShort}
use Rattle.walter_checkpoint.specs.Faults.{HasNoEntry}
use Rattle.walter_checkpoint.specs.Packs.{entry_of, entries}
use Rattle.walter_checkpoint.proofs.Entries.{entries_push, no_entries}
use Rattle.walter_checkpoint.proofs.unpacking.read_entries.Goals as goal

pub returns-in_default-clause-none : goal.returns-in_default-clause-none
returns-in_default-clause-none c =
    let none : HasNoEntry c.args.sites c.loop-rest.rest.now = rw c.in_default.is at c.in_ok-body.ensures.none in
    no_entries c.args.sites c.loop-rest.bodies c.args.bytes.now c.loop-rest.rest.now c.loop-rest.invariant.read c.loop-rest.invariant.short c.loop-rest-test.true none

pub loop-rest-preserved : goal.loop-rest-preserved
loop-rest-preserved c =
    let found : IsShort c.in-Some.body.items × (c.loop-rest.rest.now ≡ entry_of c.args.sites c.in-Some.body.items ++ c.in-Some.next.now) × (0 < length c.in-Some.next.now) = rw c.in-Some.is at c.in_ok-body.ensures.some in
    let pushed = c.in_ok-push.ensures.ok ∙ ap (λ l. c.loop-rest.bodies ++ l ∷ []) c.deref.ensures.value in
    record {
      read = entries_push c.args.sites c.loop-rest.bodies c.in-Some.body.items c.in-Some.next.now c.args.bytes.now c.loop-rest.rest.now c.loop-rest.invariant.read found.1 ∙ ap (λ l. entries c.args.sites l ++ c.in-Some.next.now) (sym pushed);
      short = subst (λ l. All IsShort l) (sym pushed) (All-push IsShort c.loop-rest.bodies c.in-Some.body.items c.loop-rest.invariant.short found.0);
      more = found.2;
    }
