use Rattle.std.proofs.Common.{Ok, inl, inr, sym, subst}
use Rattle.std.proofs.lemmas.Result.{IfOk-weaker}
use Rattle.walter_base.specs.declared.message.Request.TheVariants.{Read, Write, SetAdd, SetDel, Level}
use Rattle.walter_tables.specs.Answering.{IsReplyTo, CanBeAnswered}
use Rattle.walter_tables.proofs.Called.{reply_is, reply_short, reply_fits}
use Rattle.walter_tables.proofs.tables.Tables.reply_to.Goals as goal

pub returns-in-Read-clause-short : goal.returns-in-Read-clause-short
returns-in-Read-clause-short c = IfOk-weaker c.value_reply.result _ _
    (λ reply by. reply_short c.args.self.now c.args.client (Read c.in-Read.oid) reply by) c.value_reply.ensures.rule

pub returns-in-Write-clause-rule : goal.returns-in-Write-clause-rule
returns-in-Write-clause-rule c =
    subst (λ request. IsReplyTo c.args.self.now c.args.client request c.write_reply.result) (sym c.in-Write.is)
    (reply_is c.args.self.now c.args.client (Write c.in-Write.oid c.in-Write.value) c.write_reply.result
    (λ K S. c.write_reply.ensures K))

pub returns-in-Write-clause-fits : goal.returns-in-Write-clause-fits
returns-in-Write-clause-fits c =
    subst (λ request. CanBeAnswered c.args.self.now c.args.client (Ok request) c.write_reply.result) (sym c.in-Write.is)
    (reply_fits c.args.self.now c.args.client (Write c.in-Write.oid c.in-Write.value) c.write_reply.result
    c.write_reply.ensures)

pub returns-in-Write-clause-short : goal.returns-in-Write-clause-short
returns-in-Write-clause-short c =
    reply_short c.args.self.now c.args.client (Write c.in-Write.oid c.in-Write.value) c.write_reply.result
    (λ K S. c.write_reply.ensures K)

pub returns-in-SetAdd-clause-rule : goal.returns-in-SetAdd-clause-rule
returns-in-SetAdd-clause-rule c = elim c.in-SetAdd.is [
  | inl add ↦
      subst (λ request. IsReplyTo c.args.self.now c.args.client request c.change_reply.result) (sym add.1)
      (reply_is c.args.self.now c.args.client (SetAdd c.in-SetAdd.oid add.0) c.change_reply.result
      (λ K S. c.change_reply.ensures.add add.0 K))
  | inr del ↦
      subst (λ request. IsReplyTo c.args.self.now c.args.client request c.change_reply.result) (sym del.1)
      (reply_is c.args.self.now c.args.client (SetDel c.in-SetAdd.oid del.0) c.change_reply.result
      (λ K S. c.change_reply.ensures.del del.0 K))
]

pub returns-in-SetAdd-clause-fits : goal.returns-in-SetAdd-clause-fits
returns-in-SetAdd-clause-fits c = elim c.in-SetAdd.is [
  | inl add ↦
      subst (λ request. CanBeAnswered c.args.self.now c.args.client (Ok request) c.change_reply.result) (sym add.1)
      (reply_fits c.args.self.now c.args.client (SetAdd c.in-SetAdd.oid add.0) c.change_reply.result
      (c.change_reply.ensures.add add.0))
  | inr del ↦
      subst (λ request. CanBeAnswered c.args.self.now c.args.client (Ok request) c.change_reply.result) (sym del.1)
      (reply_fits c.args.self.now c.args.client (SetDel c.in-SetAdd.oid del.0) c.change_reply.result
      (c.change_reply.ensures.del del.0))
]

pub returns-in-SetAdd-clause-short : goal.returns-in-SetAdd-clause-short
returns-in-SetAdd-clause-short c =
    reply_short c.args.self.now c.args.client (SetAdd c.in-SetAdd.oid 0) c.change_reply.result
    (λ K S. c.change_reply.ensures.add 0 K)

pub returns-in-Level-clause-rule : goal.returns-in-Level-clause-rule
returns-in-Level-clause-rule c =
    subst (λ request. IsReplyTo c.args.self.now c.args.client request c.level_reply.result) (sym c.in-Level.is)
    (reply_is c.args.self.now c.args.client (Level c.in-Level.tid) c.level_reply.result
    (c.level_reply.ensures.rule c.args.client))

pub returns-in-Level-clause-fits : goal.returns-in-Level-clause-fits
returns-in-Level-clause-fits c =
    subst (λ request. CanBeAnswered c.args.self.now c.args.client (Ok request) c.level_reply.result) (sym c.in-Level.is)
    (c.level_reply.ensures.fits c.args.client)

pub returns-in-Level-clause-short : goal.returns-in-Level-clause-short
returns-in-Level-clause-short c =
    reply_short c.args.self.now c.args.client (Level c.in-Level.tid) c.level_reply.result
    (c.level_reply.ensures.rule c.args.client)
