use Rattle.std.proofs.Common.{◌∙◌, Some, sym, refl, arith}
use Rattle.walter_base.specs.declared.message.Record.{Record}
use Rattle.walter_machine.proofs.Standing.{settled_told, found_more, down_of, state_of, known_flying, none_known, settles_found}
use Rattle.walter_rules.specs.Standing.{settled}
use Rattle.walter_machine.proofs.machine.Machine.settle.Goals as goal

pub returns-clause-settles : goal.returns-clause-settles
returns-clause-settles c = λ S has found_so.
    let m = c.args.self.now in
    let rec : Record = c.in-Some.field-0.now in
    let T = settled m.catalog m.id (Some rec) S in
    let flies = sym has.flight ∙ c.in-Some.ensures.some in
    let down = down_of m.site S has.state c.requires.down in
    let known = known_flying m S rec has flies in
    let count = found_more S c.args.found m.records known (omega (arith, c.if-found-before.false)) found_so in
    settles_found _ S c.args.found c.replace.result rec (c.replace.ensures.value ∙ c.in-Some.ensures.some)
    (record { restart = refl; down = down; in_flight = flies }) (record {
      state = state_of m.site S T c.requires.down down;
      told = settled_told m.catalog m.id S rec has.told down flies;
      flight = c.replace.ensures.after ∙ c.none-2.ensures;
      count = λ which. none_known T down refl which;
      owed = has.owed;
    }) count refl
