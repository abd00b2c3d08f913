-- Each answer of a connection keeps what was read of the client's calls.
use Rattle.std.proofs.Common.{◌≡◌, ◌≢◌, ℕ, List, [], ◌∷◌, ◌++◌, Option, Some, None, refl, sym, subst, ◌∙◌, inl, inr, arith}
use Rattle.std.proofs.lemmas.Option.{none-some, same_Some}
use Rattle.walter_stream.specs.Streams.{AtEnd, TakesFront}
use Rattle.walter_conn.specs.Calls.{fresh_incoming, Incoming, TakesCall, TakesFrame, TakesTooLong, IsEnded, IsBroken, before, fault, cut}
use Rattle.walter_conn.specs.Frames.{frame, Call, EndsInFrame}
use Rattle.walter_conn.specs.Sequences.{BeginsWith, AreFrames, EndTooLong, AreCalls, EndWhole, EndCut, AreRead, HasCalled}
use Rattle.walter_conn.specs.Sequences as ends
use Rattle.walter_conn.specs.declared.state.State.{State}
use Rattle.walter_conn.specs.declared.state.State.TheVariants.{Open, Closed, Broken}

-- what is left of bytes that are told is told
told : (old new : Option (List ℕ)) (front rest : List ℕ) → TakesFront old new front → old ≡ Some rest → (left : List ℕ) × (new ≡ Some left) × (rest ≡ front ++ left)
told old None front rest taken is = absurd (none-some rest (sym taken ∙ is))
told old (Some left) front rest taken is = (left, refl, same_Some rest (front ++ left) (sym is ∙ taken))

one_more : (bytes : List ℕ) (calls : List Call) (rest : List ℕ) (call : Call) (left : List ℕ) → AreFrames bytes calls rest → BeginsWith rest call left → AreFrames bytes (calls ++ (call ∷ [])) left
one_more bytes [] rest call left frames begins = (left, subst (λ t. BeginsWith t call left) frames begins, refl)
one_more bytes (x ∷ xs) rest call left frames begins = (frames.0, frames.1, one_more frames.0 xs rest call left frames.2 begins)

-- what was read, in a state that is known
read_in : (bytes : List ℕ) (calls : List Call) (incoming : Incoming) (state : State) (stands : HasCalled bytes calls incoming) → incoming.state ≡ state → AreRead bytes calls stands.rest state
read_in bytes calls incoming state stands is = subst (AreRead bytes calls stands.rest) is stands.read

pub at_the_start : (bytes : List ℕ) (faults : ℕ) → HasCalled bytes [] (fresh_incoming (Some bytes) faults)
at_the_start bytes faults = record { rest = bytes; unread = refl; read = refl }

pub one_more_call : (bytes : List ℕ) (calls : List Call) (old new : Incoming) (call : Call) → HasCalled bytes calls old → TakesCall old new call → HasCalled bytes (calls ++ (call ∷ [])) new
one_more_call bytes calls old new call stands takes = elim takes.takes [ inl whole ↦ by_frame whole | inr long ↦ by_length long ]
  where
    frames : AreFrames bytes calls stands.rest
    frames = read_in bytes calls old Open stands takes.was_open

    by_frame : TakesFrame old new call → HasCalled bytes (calls ++ (call ∷ [])) new
    by_frame whole =
        let left = told old.unread new.unread (frame whole.body) stands.rest whole.taken stands.unread in
        let begins : BeginsWith stands.rest call left.0 = record { body = whole.body; short = whole.short; is_call = whole.is_call; is = left.2 } in
        record { rest = left.0; unread = left.1; read = subst (AreRead bytes (calls ++ (call ∷ [])) left.0) (sym whole.still_open) (one_more bytes calls stands.rest call left.0 frames begins) }

    by_length : TakesTooLong old new call → HasCalled bytes (calls ++ (call ∷ [])) new
    by_length long =
        let left = told old.unread new.unread long.front stands.rest long.taken stands.unread in
        let end : EndTooLong bytes (calls ++ (call ∷ [])) left.0 = record {
          others = calls;
          last = call;
          left = stands.rest;
          is = refl;
          frames = frames;
          too_long = record { front = long.front; too_long = long.too_long; bad = long.bad; is = left.2 };
        } in
        record { rest = left.0; unread = left.1; read = subst (AreRead bytes (calls ++ (call ∷ [])) left.0) (sym long.closed) end }

pub over_keeps : (bytes : List ℕ) (calls : List Call) (old new : Incoming) → HasCalled bytes calls old → IsEnded old new → HasCalled bytes calls new
over_keeps bytes calls old new stands over = subst (HasCalled bytes calls) (sym over.same) stands

pub over_whole : (bytes : List ℕ) (calls : List Call) (old new : Incoming) → HasCalled bytes calls old → IsEnded old new → EndWhole bytes calls
over_whole bytes calls old new stands over = elim over.cause [
  | inl closed ↦ ends.too_long stands.rest (read_in bytes calls old Closed stands closed)
  | inr end ↦ ends.ended (subst (λ t. AreFrames bytes calls t) (subst AtEnd stands.unread end.1) (read_in bytes calls old Open stands end.0))
]

are_calls : (bytes : List ℕ) (calls : List Call) (rest : List ℕ) (state : State) → AreRead bytes calls rest state → AreCalls bytes calls rest
are_calls bytes calls rest Open read = inl read
are_calls bytes calls rest Closed read = inr read
are_calls bytes calls rest Broken read = read

pub lost_keeps : (bytes : List ℕ) (calls : List Call) (old : Incoming) → HasCalled bytes calls old → HasCalled bytes calls (record old { state = Broken })
lost_keeps bytes calls old stands = record { rest = stands.rest; unread = stands.unread; read = are_calls bytes calls stands.rest old.state stands.read }

pub breaks_keeps : (bytes : List ℕ) (calls : List Call) (old new : Incoming) → HasCalled bytes calls old → IsBroken old new → HasCalled bytes calls new
breaks_keeps bytes calls old new stands (before was same) = subst (HasCalled bytes calls) (sym same) stands
breaks_keeps bytes calls old new stands (fault was rose same broken) = record {
  rest = stands.rest;
  unread = same ∙ stands.unread;
  read = subst (AreRead bytes calls stands.rest) (sym broken) (are_calls bytes calls stands.rest old.state stands.read);
}
breaks_keeps bytes calls old new stands (cut was ends is) = subst (HasCalled bytes calls) (sym is) (lost_keeps bytes calls old stands)

pub breaks_cut : (bytes : List ℕ) (calls : List Call) (old new : Incoming) → HasCalled bytes calls old → IsBroken old new → old.state ≢ Broken → new.faults ≡ old.faults → EndCut bytes calls
breaks_cut bytes calls old new stands (before was same) used faultless = absurd (used was)
breaks_cut bytes calls old new stands (fault was rose same broken) used faultless = absurd (omega (arith, rose, faultless))
breaks_cut bytes calls old new stands (cut was ends is) used faultless =
    record { rest = stands.rest; frames = read_in bytes calls old Open stands was; begun = subst EndsInFrame stands.unread ends }

pub calls_of : (bytes : List ℕ) (calls : List Call) (incoming : Incoming) (rest : List ℕ) → HasCalled bytes calls incoming → incoming.unread ≡ Some rest → AreCalls bytes calls rest
calls_of bytes calls incoming rest stands told = subst (AreCalls bytes calls) (same_Some stands.rest rest (sym stands.unread ∙ told)) (are_calls bytes calls stands.rest incoming.state stands.read)
