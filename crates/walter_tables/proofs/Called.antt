-- What the rule answers a client is short, and can be answered by tables that stand for what the site knows.
use Rattle.std.proofs.Common.{refl, ◌≡◌, ◌<◌, ◌+◌, ℕ, length, IfSome, Result, Ok, ap, sym, ◌∙◌, subst}
use Rattle.std.proofs.lemmas.List.Elements.{All-nil}
use Rattle.walter_base.specs.declared.message.BadFrame.{BadFrame}
use Rattle.walter_base.specs.declared.message.Reply.{Reply}
use Rattle.walter_base.specs.declared.message.Reply.TheVariants.{Started, Value, Done, Set, Count, Committed, Aborted, Deciding, Level, Ended, Unsure, Refused}
use Rattle.walter_base.specs.declared.message.Request.{Request}
use Rattle.walter_base.specs.declared.names.Tid.{Tid}
use Rattle.walter_base.specs.Sizes.{IsShortReply}
use Rattle.walter_rules.specs.declared.outcome.Outcome.TheVariants.{Replied}
use Rattle.walter_rules.specs.Calls.{Expected, answers, call_rule}
use Rattle.walter_rules.specs.Knowledge.{Knowledge, fresh, session_of as known_session}
use Rattle.walter_rules.specs.Sessions.{Sessions, session_in}
use Rattle.walter_session.specs.Sessions.{session_of, sessions_of}
use Rattle.walter_tables.specs.declared.tables.Tables.{Tables}
use Rattle.walter_tables.specs.Answering.{rule_by, IsReplyBy, IsReplyTo, CanBeAnswered}
use Rattle.walter_tables.specs.Open.{IsOpenAt}
use Rattle.walter_tables.specs.Sound.{HoldsTx}
use Rattle.walter_tables.specs.Sites.{values_of, site_of, catalog_of, Stands}
use Rattle.walter_tables.proofs.Fair.{IsFair, ruled_fair, fair_short}
use Rattle.walter_tables.proofs.Opened.{session_is}

-- the session of the tables is the one that is known
pub same_session : (t : Tables) (K : Knowledge) → Stands t K → (client : ℕ)
    → session_of t.sessions client ≡ known_session K client
unfolding values_of
same_session t K S client = ap (session_in client) S.sessions

pub reply_is : (t : Tables) (client : ℕ) (request : Request) (reply : Reply) → IsReplyBy t client request reply
    → IsReplyTo t client request reply
reply_is t client request reply by K S =
    by K S ∙ ap (call_rule (catalog_of t) (site_of t) K (Ok request)) (same_session t K S client)

-- what the rule replies is fair
told_fair : (t : Tables) (K : Knowledge) → Stands t K → (client : ℕ) (call : Result Request BadFrame)
    (reply : Reply) → (call_rule (catalog_of t) (site_of t) K call (known_session K client)).outcome ≡ Replied reply
    → IsFair t.catalog t.site K call (known_session K client) (Replied reply)
unfolding values_of site_of catalog_of
told_fair t K S client call reply ruled =
    let is = subst (λ o. IfSome o (IsOpenAt t.catalog t.site)) (same_session t K S client)
    (session_is t.catalog t.site client (sessions_of t.sessions) t.open) in
    subst (IsFair t.catalog t.site K call (known_session K client)) ruled
    (ruled_fair t.catalog t.site K S.sound.held call (known_session K client) is)

pub told_short : (t : Tables) (K : Knowledge) → Stands t K → (client : ℕ) (call : Result Request BadFrame)
    (reply : Reply) → (call_rule (catalog_of t) (site_of t) K call (known_session K client)).outcome ≡ Replied reply
    → IsShortReply reply
told_short t K S client call reply ruled =
    fair_short t.catalog t.site K call (known_session K client) reply (told_fair t K S client call reply ruled)

pub reply_short : (t : Tables) (client : ℕ) (request : Request) (reply : Reply) → IsReplyBy t client request reply
    → (K : Knowledge) → Stands t K → IsShortReply reply
reply_short t client request reply by K S = told_short t K S client (Ok request) reply
    (ap (λ (e : Expected). e.outcome) (sym (reply_is t client request reply by K S)))

-- what is fair at a site of these starts and sessions can be answered
fair_fits : (t : Tables) (K : Knowledge) → t.starts ≡ K.starts → sessions_of t.sessions ≡ K.sessions → (client : ℕ)
    (call : Result Request BadFrame) (reply : Reply)
    → IsFair t.catalog t.site K call (session_of t.sessions client) (Replied reply) → CanBeAnswered t client call reply
fair_fits t K starts sessions client call (Started tid) fair = record {
  none = fair.0;
  few = subst (λ (ss : Sessions). length ss < 256) (sym sessions) fair.2;
  here = ap (λ (x : Tid). x.site) fair.1;
  next = ap (λ (x : Tid). x.number) fair.1 ∙ ap (λ (n : ℕ). n + 1) (sym starts);
}
fair_fits t K starts sessions client call Done fair = fair
fair_fits t K starts sessions client call (Value value) fair = tt
fair_fits t K starts sessions client call (Set counts) fair = tt
fair_fits t K starts sessions client call (Count count) fair = tt
fair_fits t K starts sessions client call (Committed version) fair = tt
fair_fits t K starts sessions client call (Aborted cause) fair = tt
fair_fits t K starts sessions client call (Deciding tid) fair = tt
fair_fits t K starts sessions client call (Level level) fair = tt
fair_fits t K starts sessions client call Ended fair = tt
fair_fits t K starts sessions client call (Unsure tid) fair = tt
fair_fits t K starts sessions client call (Refused refusal) fair = tt

-- what the rule replies can be answered
pub can_be_answered : (t : Tables) (K : Knowledge) → Stands t K → (client : ℕ) (call : Result Request BadFrame)
    (reply : Reply) → (call_rule (catalog_of t) (site_of t) K call (known_session K client)).outcome ≡ Replied reply
    → CanBeAnswered t client call reply
unfolding values_of
can_be_answered t K S client call reply ruled =
    fair_fits t K S.starts S.sessions client call reply
    (subst (λ o. IsFair t.catalog t.site K call o (Replied reply)) (sym (same_session t K S client))
    (told_fair t K S client call reply ruled))

-- where the reply goes by the session alone, that needs no knowledge: it is so at a site that has no transaction
pub reply_fits : (t : Tables) (client : ℕ) (request : Request) (reply : Reply)
    → ((K : Knowledge) → answers reply ≡ rule_by t K client request) → CanBeAnswered t client (Ok request) reply
unfolding site_of catalog_of
reply_fits t client request reply ruled =
    let K : Knowledge = record fresh { starts = t.starts; sessions = sessions_of t.sessions } in
    let session = session_of t.sessions client in
    let is = session_is t.catalog t.site client (sessions_of t.sessions) t.open in
    let fair = ruled_fair t.catalog t.site K (All-nil (HoldsTx t.catalog)) (Ok request) session is in
    fair_fits t K refl refl client (Ok request) reply
    (subst (IsFair t.catalog t.site K (Ok request) session) (ap (λ (e : Expected). e.outcome) (sym (ruled K))) fair)
