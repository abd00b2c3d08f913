use Rattle.std.proofs.Common.{◌≡◌, ap, sym, ◌∙◌, subst, false, true}
use Rattle.walter_base.specs.declared.format.Format.{Format}
use Rattle.walter_tables.specs.Sites.{catalog_of}
use Rattle.walter_record.specs.Spelling.{record_spelled, HasRecordSpelling}
use Rattle.walter_rules.specs.Layouts.{in_force}
use Rattle.walter_engine.proofs.Bodies.{some_is, taken_if, unfit, again}
use Rattle.walter_engine.proofs.replaying.replay_body.Goals as goal
use Rattle.walter_engine.specs.Contents.{says_again}
use Rattle.walter_engine.specs.Replays.{format_in}

pub returns-then-is_told_again-clause-unfit : goal.returns-then-is_told_again-clause-unfit
returns-then-is_told_again-clause-unfit c =
    let body = c.args.body.now in
    let tables = c.args.tables.now in
    let rec = c.in-Ok-Some.rec in
    let format = c.later_of-format.result in
    let found = some_is (λ r. HasRecordSpelling format c.args.sites r × (body ≡ record_spelled format r)) _ rec c.in-Ok-Some.field-0-is c.in-Ok-Some.ensures.some in
    let same : format ≡ format_in c.args.header tables = c.later_of-format.ensures ∙ ap (in_force c.args.header) c.format.ensures in
    let says = sym c.is_told_again.ensures ∙ c.if-is_told_again.true in
    again c.args.header tables body rec
    (subst (λ (f : Format). HasRecordSpelling f (catalog_of tables).sites rec) same
    (subst (λ n. HasRecordSpelling format n rec) (sym c.requires.sites) found.0))
    (found.1 ∙ ap (λ (f : Format). record_spelled f rec) same)
    (subst (λ (f : Format). says_again rec f ≡ true) same says)

pub returns-clause-taken : goal.returns-clause-taken
returns-clause-taken c =
    let body = c.args.body.now in
    let tables = c.args.tables.now in
    let rec = c.in-Ok-Some.rec in
    let format = c.later_of-format.result in
    let found = some_is (λ r. HasRecordSpelling format c.args.sites r × (body ≡ record_spelled format r)) _ rec c.in-Ok-Some.field-0-is c.in-Ok-Some.ensures.some in
    let same : format ≡ format_in c.args.header tables = c.later_of-format.ensures ∙ ap (in_force c.args.header) c.format.ensures in
    let once = sym c.is_told_again.ensures ∙ c.if-is_told_again.false in
    taken_if c.args.header tables c.replay.new.self body rec c.replay.result
    (record {
      spelling = subst (λ (f : Format). HasRecordSpelling f (catalog_of tables).sites rec) same
          (subst (λ n. HasRecordSpelling format n rec) (sym c.requires.sites) found.0);
      once = subst (λ (f : Format). says_again rec f ≡ false) same once;
    })
    (found.1 ∙ ap (λ (f : Format). record_spelled f rec) same) c.replay.ensures.ok c.replay.ensures.stands

pub returns-clause-unfit : goal.returns-clause-unfit
returns-clause-unfit c =
    let body = c.args.body.now in
    let tables = c.args.tables.now in
    let rec = c.in-Ok-Some.rec in
    let format = c.later_of-format.result in
    let found = some_is (λ r. HasRecordSpelling format c.args.sites r × (body ≡ record_spelled format r)) _ rec c.in-Ok-Some.field-0-is c.in-Ok-Some.ensures.some in
    let same : format ≡ format_in c.args.header tables = c.later_of-format.ensures ∙ ap (in_force c.args.header) c.format.ensures in
    unfit c.args.header tables body rec c.replay.result
    (subst (λ (f : Format). HasRecordSpelling f (catalog_of tables).sites rec) same
    (subst (λ n. HasRecordSpelling format n rec) (sym c.requires.sites) found.0))
    (found.1 ∙ ap (λ (f : Format). record_spelled f rec) same) c.replay.ensures.unfit
