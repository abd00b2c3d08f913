use Rattle.std.proofs.Common.{◌≡◌, ◌++◌, ◌≤◌, ◌+◌, sym, ◌∙◌, ap, arith}
use Rattle.walter_rules.specs.Knowledge.{from_to}
use Rattle.walter_tables.specs.Packets.{to_one, commits_of}
use Rattle.walter_tables.specs.Sites.{values_of}
use Rattle.walter_tables.proofs.Said.{put_more, commits_more}
use Rattle.walter_tables.proofs.tables.Tables.put_between.Goals as goal

pub loop-before-preserved : goal.loop-before-preserved
unfolding values_of
loop-before-preserved c =
    let V = values_of c.args.self.now in
    let first = c.args.first in
    let before = c.loop-before.before in
    let reached : first ≤ before + 1 = omega (arith, c.loop-before.auto.before) in
    put_more c.args.to c.args.sends.now.items c.loop-before.sends.items c.put_commit.new.sends.items
    (commits_of V (from_to first before)) _ c.loop-before.invariant c.in_ok-put_commit.ensures
    ∙ ap (λ packets. c.args.sends.now.items ++ to_one c.args.to packets) (sym (commits_more V first before reached))

pub returns : goal.returns
unfolding values_of
returns c =
    let all : c.loop-before.before ≡ c.args.last =
    omega (arith, c.loop-before.auto.before-end, c.loop-before-test.false, c.requires.some, c.requires.any) in
    c.loop-before.invariant
    ∙ ap (λ n. c.args.sends.now.items ++ to_one c.args.to (commits_of (values_of c.args.self.now) (from_to c.args.first n))) all
