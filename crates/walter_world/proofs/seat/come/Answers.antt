use Rattle.std.proofs.Common.{sym, ◌∙◌, subst}
use Rattle.walter_machine.proofs.Sizes.{only_alone}
use Rattle.walter_machine.specs.Machines.{catalog_in, site_in, tables_in}
use Rattle.walter_machine.specs.Readiness.{rec_in}
use Rattle.walter_world.specs.Seats.{AreSpelled}
use Rattle.walter_world.proofs.Coming.{breaks_some, comes_stable, comes_broken, fallen_spelled}
use Rattle.walter_world.proofs.seat.come.Goals as goal

pub fail-requires-clause-alone : goal.fail-requires-clause-alone
fail-requires-clause-alone c = only_alone c.only-came.result _ c.only-came.ensures

pub keep-requires-clause-alone : goal.keep-requires-clause-alone
keep-requires-clause-alone c = only_alone c.only-came.result _ c.only-came.ensures

pub fail-requires-clause-flies : goal.fail-requires-clause-flies
fail-requires-clause-flies c =
    breaks_some c.args.fate (rec_in c.args.ready) (sym c.breaks.ensures ∙ c.if-breaks.true)

pub returns-then-breaks : goal.returns-then-breaks
returns-then-breaks c format S stands counted is =
    let m = c.args.machine.now in
    let falls = sym c.breaks.ensures ∙ c.if-breaks.true in
    record {
      catalog_is = c.fail.ensures.same.catalog;
      site = c.fail.ensures.same.id;
      came_is = comes_broken format (catalog_in m) (site_in m) (tables_in m) S c.args.event.now c.args.ready
          c.args.fate c.fail.new.came is falls c.fail.ensures.came;
      stands = c.fail.ensures.stands format S stands counted is;
      spelled = fallen_spelled (catalog_in m).sites c.args.event.now (rec_in c.args.ready) c.fail.new.came
          (breaks_some c.args.fate (rec_in c.args.ready) falls) c.fail.ensures.came;
    }

pub returns : goal.returns
returns c format S stands counted is =
    let m = c.args.machine.now in
    record {
      catalog_is = c.keep.ensures.same.catalog;
      site = c.keep.ensures.same.id;
      came_is = comes_stable format (catalog_in m) (site_in m) (tables_in m) S c.args.event.now c.args.ready c.args.fate
          c.keep.new.came is (sym c.breaks.ensures ∙ c.if-breaks.false) c.keep.ensures.came;
      stands = c.keep.ensures.stands format S stands counted is;
      spelled = subst (AreSpelled (catalog_in m).sites) (sym c.keep.ensures.came) is.sized.sends;
    }
