use Rattle.std.proofs.Common.{sym, subst}
use Rattle.walter_tables.specs.Sites.{values_of, site_of, catalog_of, Follows}
use Rattle.walter_tables.proofs.tables.Tables.keep.Goals as goal

pub returns-in-Boot-clause-stands : goal.returns-in-Boot-clause-stands
unfolding values_of site_of catalog_of
returns-in-Boot-clause-stands c = subst (λ rec. Follows c.args.self.now rec c.keep_boot.new.self) (sym c.in-Boot.is) c.keep_boot.ensures.stands

pub returns-in-Own-clause-stands : goal.returns-in-Own-clause-stands
unfolding values_of site_of catalog_of
returns-in-Own-clause-stands c = subst (λ rec. Follows c.args.self.now rec c.keep_own.new.self) (sym c.in-Own.is) c.keep_own.ensures.stands

pub returns-in-Got-clause-stands : goal.returns-in-Got-clause-stands
unfolding values_of site_of catalog_of
returns-in-Got-clause-stands c = subst (λ rec. Follows c.args.self.now rec c.keep_got.new.self) (sym c.in-Got.is) c.keep_got.ensures.stands

pub returns-in-Seen-clause-stands : goal.returns-in-Seen-clause-stands
unfolding values_of site_of catalog_of
returns-in-Seen-clause-stands c = subst (λ rec. Follows c.args.self.now rec c.keep_seen.new.self) (sym c.in-Seen.is) c.keep_seen.ensures.stands

pub returns-in-Prepared-clause-stands : goal.returns-in-Prepared-clause-stands
unfolding values_of site_of catalog_of
returns-in-Prepared-clause-stands c = subst (λ rec. Follows c.args.self.now rec c.keep_prepared.new.self) (sym c.in-Prepared.is) c.keep_prepared.ensures.stands

pub returns-in-Released-clause-stands : goal.returns-in-Released-clause-stands
unfolding values_of site_of catalog_of
returns-in-Released-clause-stands c = subst (λ rec. Follows c.args.self.now rec c.keep_released.new.self) (sym c.in-Released.is) c.keep_released.ensures.stands

pub returns-in-SlowBegin-clause-stands : goal.returns-in-SlowBegin-clause-stands
unfolding values_of site_of catalog_of
returns-in-SlowBegin-clause-stands c = subst (λ rec. Follows c.args.self.now rec c.keep_begun.new.self) (sym c.in-SlowBegin.is) c.keep_begun.ensures.stands

pub returns-in-SlowEnd-clause-stands : goal.returns-in-SlowEnd-clause-stands
unfolding values_of site_of catalog_of
returns-in-SlowEnd-clause-stands c = subst (λ rec. Follows c.args.self.now rec c.keep_ended.new.self) (sym c.in-SlowEnd.is) c.keep_ended.ensures.stands

pub returns-in-Format-clause-stands : goal.returns-in-Format-clause-stands
unfolding values_of site_of catalog_of
returns-in-Format-clause-stands c = subst (λ rec. Follows c.args.self.now rec c.keep_format.new.self) (sym c.in-Format.is) c.keep_format.ensures.stands

pub returns-in-Marks-clause-stands : goal.returns-in-Marks-clause-stands
unfolding values_of site_of catalog_of
returns-in-Marks-clause-stands c = subst (λ rec. Follows c.args.self.now rec c.keep_marks.new.self) (sym c.in-Marks.is) c.keep_marks.ensures.stands
