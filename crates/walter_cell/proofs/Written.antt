-- What is written to a client's connection.
use Rattle.std.proofs.Common.{◌≡◌, ◌≢◌, ◌+◌, ◌-◌, ◌++◌, ◌∷◌, ◌∙◌, [], ℕ, List, Option, Some, None, Result, Ok, Err}
use Rattle.std.proofs.Common.{take, slice_get, if◌then◌else◌}
use Rattle.std.proofs.Common.{refl, ap, sym, subst, arith, inl, inr}
use Rattle.std.specs.List.{concat}
use Rattle.std.specs.Prelude.{IfSome, OnOk, OnErr, length}
use Rattle.std.proofs.lemmas.Bool.{eq-eqb, ne_eqb}
use Rattle.std.proofs.lemmas.List.{append-nil, append_assoc, length-append}
use Rattle.std.proofs.lemmas.List.Concat.{flat_map-append}
use Rattle.walter_conn.specs.Calls.{Incoming, Answers, before, fault, cut}
use Rattle.walter_conn.specs.Frames.{Call, frame}
use Rattle.walter_conn.specs.Outputs.{IsLost}
use Rattle.walter_conn.specs.Outputs as outputs
use Rattle.walter_reply.specs.Replies.{reply_spelled}
use Rattle.walter_base.specs.declared.message.Reply.{Reply}
use Rattle.walter_conn.specs.declared.next.Next.{Next}
use Rattle.walter_conn.specs.declared.next.Next.TheVariants.{Frame, Ended, Broken}
use Rattle.walter_conn.specs.declared.state.State.TheVariants as state
use Rattle.walter_rules.specs.declared.entry.Entry.{Entry}
use Rattle.walter_rules.specs.declared.event.Event.{Event}
use Rattle.walter_rules.specs.declared.event.Event.TheVariants.{Given}
use Rattle.walter_rules.specs.declared.event.Input.TheVariants.{Call as CallInput}
use Rattle.walter_rules.specs.declared.outcome.Outcome.{Outcome}
use Rattle.walter_rules.specs.declared.outcome.Outcome.TheVariants.{Replied}
use Rattle.walter_stream.specs.Streams.{Appends}
use Rattle.walter_cell.specs.Lines.{Sent, LineValue}
use Rattle.walter_cell.specs.Written.{framed_reply, framed_for, replies_to, IsHeld, AreWritten}
use Rattle.walter_cell.specs.Written.{IsCutOff}
use Rattle.walter_psi.proofs.Lists.{slice_get-push}

if_some : {X : Type 0} (o : Option X) (P Q : X → Type 0) → ((x : X) → P x → Q x) → IfSome o P → IfSome o Q
if_some None P Q by holds = tt
if_some (Some x) P Q by holds = by x holds

-- what is so of what a sink held is so behind bytes that it appends
behind_bytes : (old new : Option (List ℕ)) (bytes : List ℕ) (P Q : List ℕ → Type 0) → Appends old new bytes
    → ((held : List ℕ) → P held → Q (held ++ bytes)) → IfSome old P → IfSome new Q
behind_bytes None new bytes P Q is by holds = subst (λ (o : Option (List ℕ)). IfSome o Q) (sym is) tt
behind_bytes (Some held) new bytes P Q is by holds = subst (λ (o : Option (List ℕ)). IfSome o Q) (sym is) (by held holds)

-- the entry that came stands last
pub last_there : (entries more : List Entry) (e : Entry) → more ≡ entries ++ e ∷ []
    → slice_get more (length more - 1) ≡ Some e
last_there entries more e grown =
    let long : length more ≡ length entries + 1 = ap length grown ∙ length-append entries (e ∷ []) in
    let at : length more - 1 ≡ length entries = omega (arith, long) in
    ap (λ n. slice_get more n) at
    ∙ (ap (λ (es : List Entry). slice_get es (length entries)) grown ∙ slice_get-push entries e)

pub last_came : (entries more : List Entry) (e x : Entry) → more ≡ entries ++ e ∷ []
    → slice_get more (length more - 1) ≡ Some x → x ≡ e
last_came entries more e x grown found =
    let same : Some x ≡ Some e = sym found ∙ last_there entries more e grown in
    cc

-- a reply that a connection was given: all of it was written, or it was cut off
module _ (old new : LineValue)
    (unbroken : old.incoming.state ≢ state.Broken) (outcome : Outcome) (reply : Reply) (is : outcome ≡ Replied reply) where
  framed : framed_reply outcome ≡ frame (reply_spelled reply) ∷ []
  framed = ap (λ (o : Outcome). framed_reply o) is

  pub put_whole : {X E : Type 0} (r : Result X E)
      → OnOk r (Appends (old.sent.held) (new.sent.held) (frame (reply_spelled reply)))
      → OnOk r (Appends (old.sent.held) (new.sent.held) (concat (framed_reply outcome)))
  put_whole (Ok done) whole =
      let all : concat (framed_reply outcome) ≡ frame (reply_spelled reply) =
      ap (λ (l : List (List ℕ)). concat l) framed ∙ append-nil (frame (reply_spelled reply)) in
      subst (λ (l : List ℕ). Appends (old.sent.held) (new.sent.held) l) (sym all) whole
  put_whole (Err e) whole = tt

  cut_off : IsLost (λ (x : Sent). x.held) (λ (x : Sent). x.faults) old.sent new.sent (frame (reply_spelled reply)) old.incoming.state
      → new.incoming.state ≡ state.Broken → IsCutOff outcome new.incoming.state old.sent new.sent
  cut_off (outputs.before broken same) now = absurd (unbroken broken)
  cut_off (outputs.fault open_ front rose) now = record {
    reply = frame (reply_spelled reply);
    is = framed;
    front = front;
    broken = now;
    failed = rose;
  }

  pub put_cut : {X E : Type 0} (r : Result X E)
      → OnErr r (IsLost (λ (x : Sent). x.held) (λ (x : Sent). x.faults) old.sent new.sent (frame (reply_spelled reply)) old.incoming.state)
      → OnErr r (new.incoming ≡ record old.incoming { state = state.Broken })
      → OnErr r (IsCutOff outcome new.incoming.state old.sent new.sent)
  put_cut (Ok done) lost broken = tt
  put_cut (Err e) lost broken = cut_off lost (ap (λ (x : Incoming). x.state) broken)

concat-append : (xs ys : List (List ℕ)) → concat (xs ++ ys) ≡ concat xs ++ concat ys
concat-append [] ys = refl
concat-append (x ∷ xs) ys = ap (λ (l : List ℕ). x ++ l) (concat-append xs ys) ∙ sym (append_assoc x (concat xs) (concat ys))

-- the replies to a client with one more call of it
pub replies_more : (client : ℕ) (entries : List Entry) (e : Entry) (call : Call) → e.event ≡ Given (CallInput client call)
    → replies_to client (entries ++ e ∷ []) ≡ replies_to client entries ++ framed_reply e.came.outcome
replies_more client entries e call is =
    flat_map-append (λ (z : Entry). framed_for client z.event z.came.outcome) entries (e ∷ [])
    ∙ ap (λ xs. replies_to client entries ++ xs)
    (append-nil (framed_for client e.event e.came.outcome)
    ∙ (ap (λ (v : Event). framed_for client v e.came.outcome) is
    ∙ ap (λ b. if b then framed_reply e.came.outcome else []) (eq-eqb client client refl)))

-- the replies to a client with a call of another
pub replies_same : (client other : ℕ) (entries : List Entry) (e : Entry) (call : Call) → client ≢ other
    → e.event ≡ Given (CallInput other call) → replies_to client (entries ++ e ∷ []) ≡ replies_to client entries
replies_same client other entries e call apart is =
    flat_map-append (λ (z : Entry). framed_for client z.event z.came.outcome) entries (e ∷ [])
    ∙ (ap (λ xs. replies_to client entries ++ xs)
    (append-nil (framed_for client e.event e.came.outcome)
    ∙ (ap (λ (v : Event). framed_for client v e.came.outcome) is
    ∙ ap (λ b. if b then framed_reply e.came.outcome else []) (ne_eqb other client (λ same. apart (sym same)))))
    ∙ append-nil (replies_to client entries))

-- a connection that is broken stays so
pub stays_broken : (old new : Incoming) (next : Next) → Answers old new next → old.state ≡ state.Broken → new.state ≡ state.Broken
stays_broken old new (Frame call) takes broken = let was = takes.was_open in absurd cc
stays_broken old new Ended over broken = ap (λ (x : Incoming). x.state) over.same ∙ broken
stays_broken old new Broken (before was same) broken = ap (λ (x : Incoming). x.state) same ∙ broken
stays_broken old new Broken (fault was rose same now) broken = now
stays_broken old new Broken (cut was ends now) broken = ap (λ (x : Incoming). x.state) now

module _ (first : List ℕ) (replies : List (List ℕ)) (old new : LineValue)
    (are : AreWritten first replies old.incoming.state old.sent) where
  -- nothing was written to it
  pub written_kept : (old.incoming.state ≡ state.Broken → new.incoming.state ≡ state.Broken) → new.sent ≡ old.sent
      → AreWritten first replies new.incoming.state new.sent
  written_kept stays sinks =
      subst (λ (x : Sent). AreWritten first replies new.incoming.state x) (sym sinks)
      (if_some (old.sent.held) _ _ by are)
    where
      by : (held : List ℕ)
          → IsHeld first replies old.incoming.state old.sent held
          → IsHeld first replies new.incoming.state old.sent held
      by held (inl whole) = inl whole
      by held (inr short) = inr (stays short.0, short.1, short.2)

  pub written_next : (next : Next) → Answers old.incoming new.incoming next → new.sent ≡ old.sent
      → AreWritten first replies new.incoming.state new.sent
  written_next next answers sinks = written_kept (stays_broken old.incoming new.incoming next answers) sinks

  module _ (unbroken : old.incoming.state ≢ state.Broken) (outcome : Outcome) where
    -- a reply was written to it, where an outcome is one
    pub written_more : Appends (old.sent.held) (new.sent.held) (concat (framed_reply outcome))
        → AreWritten first (replies ++ framed_reply outcome) new.incoming.state new.sent
    written_more appends = behind_bytes (old.sent.held) (new.sent.held) (concat (framed_reply outcome)) _ _ appends by are
      where
        by : (held : List ℕ)
            → IsHeld first replies old.incoming.state old.sent held
            → IsHeld first (replies ++ framed_reply outcome) new.incoming.state new.sent
            (held ++ concat (framed_reply outcome))
        by held (inl whole) =
            inl (ap (λ (l : List ℕ). l ++ concat (framed_reply outcome)) whole
            ∙ (append_assoc first (concat replies) (concat (framed_reply outcome))
            ∙ ap (λ (l : List ℕ). first ++ l) (sym (concat-append replies (framed_reply outcome)))))
        by held (inr short) = absurd (unbroken short.0)

    -- or it was cut off
    pub written_short : IsCutOff outcome new.incoming.state old.sent new.sent
        → AreWritten first (replies ++ framed_reply outcome) new.incoming.state new.sent
    written_short off =
        behind_bytes (old.sent.held) (new.sent.held) (take off.front.0 off.reply) _ _ off.front.2 by are
      where
        by : (held : List ℕ)
            → IsHeld first replies old.incoming.state old.sent held
            → IsHeld first (replies ++ framed_reply outcome) new.incoming.state new.sent
            (held ++ take off.front.0 off.reply)
        by held (inl whole) = inr (
          off.broken,
          (let rose = off.failed in omega (arith, rose)),
          record {
            whole = replies;
            last = off.reply;
            count = off.front.0;
            replies_are = ap (λ (l : List (List ℕ)). replies ++ l) off.is;
            held_is = ap (λ (l : List ℕ). l ++ take off.front.0 off.reply) whole
                ∙ append_assoc first (concat replies) (take off.front.0 off.reply);
          },
        )
        by held (inr short) = absurd (unbroken short.0)
