-- A text that is put part by part, one behind the other.
use Rattle.std.proofs.Common.{◌≡◌, ◌<◌, ◌+◌, ℕ, List, [], ◌++◌, length, take, drop, Option, Result, Ok, Err, refl, sym, ap, subst, ◌∙◌, append_assoc, append-nil, arith}
use Rattle.std.specs.Prelude.{IsErr, IsErrAnd, IfErr}
use Rattle.std.proofs.Math.Seq.{take-append_seam}
use Rattle.std.proofs.lemmas.Bool.{false≢true}
use Rattle.std.proofs.lemmas.List.{take-append-drop, length-append}
use Rattle.walter_stream.specs.Streams.{Appends, AppendsFront}
use Rattle.walter_stream.specs.declared.source.Failed.{Failed as Refused}
use Rattle.walter_stream.proofs.StreamLemmas.{Appends-nil, Appends-trans}
use Rattle.walter_page.specs.declared.fault.WriteFault.{WriteFault}
use Rattle.walter_page.specs.declared.fault.WriteFault.TheVariants.{Failed}
use Rattle.walter_page.specs.Unwritten.{IsUnwritten}
use Rattle.walter_page.specs.Pages.{Sends, HasPut, IsCut, Puts}

sends_then : (a b c : Option (List ℕ)) (bytes more left left' : List ℕ) → Sends a b bytes left
    → Sends b c (left ++ more) left' → Sends a c (bytes ++ more) left'
sends_then a b c bytes more left left' one two = record {
  front = one.front ++ two.front;
  is = ap (λ t. t ++ more) one.is ∙ append_assoc one.front left more ∙ ap (λ t. one.front ++ t) two.is
      ∙ sym (append_assoc one.front two.front left');
  sent = Appends-trans a b c one.front two.front one.sent two.sent;
}

-- what comes behind is left too
sends_before : (a b : Option (List ℕ)) (bytes more left : List ℕ) → Sends a b bytes left
    → Sends a b (bytes ++ more) (left ++ more)
sends_before a b bytes more left one = record {
  front = one.front;
  is = ap (λ t. t ++ more) one.is ∙ append_assoc one.front left more;
  sent = one.sent;
}

-- ---- one text behind another

-- both are put
pub put_then : {K : Type 0} {holds : K → Option (List ℕ)} {faults : K → ℕ} {old mid new : K}
    {w v u front text : List ℕ} → HasPut holds faults old mid w v front → HasPut holds faults mid new v u text
    → HasPut holds faults old new w u (front ++ text)
put_then {K} {holds} {faults} {old} {mid} {new} {w} {v} {u} {front} {text} one two = record {
  sends = subst (λ bytes. Sends (holds old) (holds new) bytes u) (append_assoc w front text)
      (sends_then (holds old) (holds mid) (holds new) (w ++ front) text v u one.sends two.sends);
  faultless = two.faultless ∙ one.faultless;
}

-- the sink fails at the second
pub put_cut : {K : Type 0} {holds : K → Option (List ℕ)} {faults : K → ℕ} {old mid new : K}
    {w v front text : List ℕ} → HasPut holds faults old mid w v front → IsCut holds faults mid new v text
    → IsCut holds faults old new w (front ++ text)
put_cut {K} {holds} {faults} {old} {mid} {new} {w} {v} {front} {text} one cut = record {
  left = cut.left;
  sends = subst (λ bytes. Sends (holds old) (holds new) bytes cut.left) (append_assoc w front text)
      (sends_then (holds old) (holds mid) (holds new) (w ++ front) text v cut.left one.sends cut.sends);
  failed = subst (λ n. n < faults new) one.faultless cut.failed;
}

-- the sink has failed before the second
pub cut_more : {K : Type 0} {holds : K → Option (List ℕ)} {faults : K → ℕ} {old new : K} {w text : List ℕ}
    (more : List ℕ) → IsCut holds faults old new w text → IsCut holds faults old new w (text ++ more)
cut_more {K} {holds} {faults} {old} {new} {w} {text} more cut = record {
  left = cut.left ++ more;
  sends = subst (λ bytes. Sends (holds old) (holds new) bytes (cut.left ++ more)) (append_assoc w text more)
      (sends_before (holds old) (holds new) (w ++ text) more cut.left cut.sends);
  failed = cut.failed;
}

-- the second is put, or the sink fails
pub put_last : {K : Type 0} {holds : K → Option (List ℕ)} {faults : K → ℕ} {old mid : K}
    {w v front : List ℕ} (new : K) (u text : List ℕ) (r : Result (Unit {0}) Refused)
    → HasPut holds faults old mid w v front → Puts holds faults mid new v u text r
    → Puts holds faults old new w u (front ++ text) r
put_last {K} {holds} {faults} {old} {mid} {w} {v} {front} new u text (Ok x) one two = put_then one two
put_last {K} {holds} {faults} {old} {mid} {w} {v} {front} new u text (Err e) one cut = put_cut one cut

-- the same text, spelled otherwise
pub put_as : {K : Type 0} {holds : K → Option (List ℕ)} {faults : K → ℕ} {old new : K} {w v text : List ℕ}
    (other : List ℕ) → text ≡ other → HasPut holds faults old new w v text → HasPut holds faults old new w v other
put_as {K} {holds} {faults} {old} {new} {w} {v} {text} other is put =
    subst (λ t. HasPut holds faults old new w v t) is put

pub cut_as : {K : Type 0} {holds : K → Option (List ℕ)} {faults : K → ℕ} {old new : K} {w text : List ℕ}
    (other : List ℕ) → text ≡ other → IsCut holds faults old new w text → IsCut holds faults old new w other
cut_as {K} {holds} {faults} {old} {new} {w} {text} other is cut =
    subst (λ t. IsCut holds faults old new w t) is cut

pub puts_as : {K : Type 0} (holds : K → Option (List ℕ)) (faults : K → ℕ) (old new : K) (w v : List ℕ)
    (r : Result (Unit {0}) Refused) (text other : List ℕ) → text ≡ other → Puts holds faults old new w v text r
    → Puts holds faults old new w v other r
puts_as holds faults old new w v r text other is puts = subst (λ t. Puts holds faults old new w v t r) is puts

-- ---- a text that is put in a loop

-- of the whole text all but what is to come was put
pub record Goes {K : Type 0} (holds : K → Option (List ℕ)) (faults : K → ℕ) (old new : K)
    (waiting waiting' whole todo : List ℕ) : Type 0 where
  pub done : List ℕ
  pub is : whole ≡ done ++ todo
  pub put : HasPut holds faults old new waiting waiting' done

-- nothing was put yet
pub put_none : {K : Type 0} {holds : K → Option (List ℕ)} {faults : K → ℕ} {old : K} {waiting : List ℕ}
    → HasPut holds faults old old waiting waiting []
put_none {K} {holds} {faults} {old} {waiting} = record {
  sends = record { front = []; is = append-nil waiting; sent = Appends-nil (holds old) };
  faultless = refl;
}

pub goes_first : {K : Type 0} {holds : K → Option (List ℕ)} {faults : K → ℕ} {old : K} {waiting whole : List ℕ}
    → Goes holds faults old old waiting waiting whole whole
goes_first {K} {holds} {faults} {old} {waiting} {whole} = record { done = []; is = refl; put = put_none }

-- what stands before was put
pub goes_from : {K : Type 0} {holds : K → Option (List ℕ)} {faults : K → ℕ} {old new : K} {w v front : List ℕ}
    (todo : List ℕ) → HasPut holds faults old new w v front → Goes holds faults old new w v (front ++ todo) todo
goes_from {K} {holds} {faults} {old} {new} {w} {v} {front} todo put = record { done = front; is = refl; put = put }

-- the next part was put
pub goes_on : {K : Type 0} {holds : K → Option (List ℕ)} {faults : K → ℕ} {old mid new : K}
    {w v u whole text todo : List ℕ} → Goes holds faults old mid w v whole (text ++ todo)
    → HasPut holds faults mid new v u text → Goes holds faults old new w u whole todo
goes_on {K} {holds} {faults} {old} {mid} {new} {w} {v} {u} {whole} {text} {todo} goes put = record {
  done = goes.done ++ text;
  is = goes.is ∙ sym (append_assoc goes.done text todo);
  put = put_then goes.put put;
}

-- the sink failed at the next part
pub goes_wrong : {K : Type 0} {holds : K → Option (List ℕ)} {faults : K → ℕ} {old mid new : K}
    {w v whole text : List ℕ} (todo : List ℕ) → Goes holds faults old mid w v whole (text ++ todo)
    → IsCut holds faults mid new v text → IsCut holds faults old new w whole
goes_wrong {K} {holds} {faults} {old} {mid} {new} {w} {v} {whole} {text} todo goes cut =
    cut_as whole (append_assoc goes.done text todo ∙ sym goes.is) (cut_more todo (put_cut goes.put cut))

-- nothing is to come
pub goes_end : {K : Type 0} {holds : K → Option (List ℕ)} {faults : K → ℕ} {old new : K} {w v whole : List ℕ}
    → Goes holds faults old new w v whole [] → HasPut holds faults old new w v whole
goes_end {K} {holds} {faults} {old} {new} {w} {v} {whole} goes =
    subst (λ text. HasPut holds faults old new w v text) (sym (goes.is ∙ append-nil goes.done)) goes.put

-- the last part is put, or the sink fails
pub goes_last : {K : Type 0} {holds : K → Option (List ℕ)} {faults : K → ℕ} {old mid : K}
    {w v whole text : List ℕ} (new : K) (u : List ℕ) (r : Result (Unit {0}) Refused) → Goes holds faults old mid w v whole text
    → Puts holds faults mid new v u text r → Puts holds faults old new w u whole r
goes_last {K} {holds} {faults} {old} {mid} {w} {v} {whole} {text} new u (Ok x) goes put =
    goes_end (goes_on (subst (λ t. Goes holds faults old mid w v whole t) (sym (append-nil text)) goes) put)
goes_last {K} {holds} {faults} {old} {mid} {w} {v} {whole} {text} new u (Err e) goes cut =
    goes_wrong [] (subst (λ t. Goes holds faults old mid w v whole t) (sym (append-nil text)) goes) cut

-- what is to come is spelled otherwise
pub goes_as : {K : Type 0} {holds : K → Option (List ℕ)} {faults : K → ℕ} {old new : K}
    {w v whole todo : List ℕ} (other : List ℕ) → todo ≡ other → Goes holds faults old new w v whole todo
    → Goes holds faults old new w v whole other
goes_as {K} {holds} {faults} {old} {new} {w} {v} {whole} {todo} other is goes =
    subst (λ t. Goes holds faults old new w v whole t) is goes

-- what an error comes to
pub cuts : {K : Type 0} {holds : K → Option (List ℕ)} {faults : K → ℕ} {old new : K} {w text : List ℕ}
    (u : List ℕ) (r : Result (Unit {0}) Refused) → IsErr r → IsCut holds faults old new w text
    → Puts holds faults old new w u text r
cuts {K} {holds} {faults} {old} {new} {w} {text} u (Ok x) is cut = absurd (false≢true is)
cuts {K} {holds} {faults} {old} {new} {w} {text} u (Err e) is cut = cut

-- an error at the next part
pub goes_err : {K : Type 0} {holds : K → Option (List ℕ)} {faults : K → ℕ} {old mid new : K}
    {w v whole text : List ℕ} (u : List ℕ) (r : Result (Unit {0}) Refused) → IsErr r → (todo : List ℕ)
    → Goes holds faults old mid w v whole (text ++ todo) → IsCut holds faults mid new v text
    → Puts holds faults old new w u whole r
goes_err {K} {holds} {faults} {old} {mid} {new} {w} {v} {whole} {text} u r is todo goes cut =
    cuts u r is (goes_wrong todo goes cut)

-- a write of all that waits fails
pub cut_front : {K : Type 0} {holds : K → Option (List ℕ)} {faults : K → ℕ} {old new : K} {w text : List ℕ}
    (bytes : List ℕ) → bytes ≡ w ++ text → AppendsFront (holds old) (holds new) bytes → faults old < faults new
    → IsCut holds faults old new w text
cut_front {K} {holds} {faults} {old} {new} {w} {text} bytes is front risen = record {
  left = drop front.0 bytes;
  sends = record { front = take front.0 bytes; is = sym is ∙ sym (take-append-drop front.0 bytes); sent = front.2 };
  failed = risen;
}

-- where nothing waited before, a front of the text was written
pub front_cut : {K : Type 0} {holds : K → Option (List ℕ)} {faults : K → ℕ} {old new : K} {text : List ℕ}
    → IsCut holds faults old new [] text → AppendsFront (holds old) (holds new) text
front_cut {K} {holds} {faults} {old} {new} {text} cut =
    let front = cut.sends.front in
    let is = cut.sends.is in
    let le : length front + length cut.left ≡ length text = sym (length-append front cut.left) ∙ ap length (sym is) in
    let taken : take (length front) text ≡ front =
    ap (take (length front)) is ∙ take-append_seam front cut.left in (
      length front,
      omega (arith, le),
      subst (λ bytes. Appends (holds old) (holds new) bytes) (sym taken) cut.sends.sent,
    )

-- where nothing waits behind it, all was written
pub all_put : {K : Type 0} {holds : K → Option (List ℕ)} {faults : K → ℕ} {old new : K} {text : List ℕ}
    → HasPut holds faults old new [] [] text → Appends (holds old) (holds new) text
all_put {K} {holds} {faults} {old} {new} {text} put =
    subst (λ bytes. Appends (holds old) (holds new) bytes) (sym (put.sends.is ∙ append-nil put.sends.front))
    put.sends.sent

-- ---- a whole text, of which nothing waited before and nothing waits behind it

pub written : {K : Type 0} {holds : K → Option (List ℕ)} {faults : K → ℕ} {old mid new : K} {w v u text : List ℕ}
    → w ≡ [] → u ≡ [] → HasPut holds faults old mid w v text → HasPut holds faults mid new v u []
    → Appends (holds old) (holds new) text
written {K} {holds} {faults} {old} {mid} {new} {w} {v} {u} {text} none gone put flushed =
    let all = put_as text (append-nil text) (put_then put flushed) in
    all_put (subst (λ x. HasPut holds faults old new x [] text) none
    (subst (λ x. HasPut holds faults old new w x text) gone all))

pub unwritten : {K : Type 0} {holds : K → Option (List ℕ)} {faults : K → ℕ} {old new : K} {w text : List ℕ}
    (r : Result (Unit {0}) WriteFault) → IsErrAnd r (λ e. e ≡ Failed) → w ≡ [] → IsCut holds faults old new w text
    → IfErr r (IsUnwritten text (holds old) (holds new) (faults old) (faults new))
unwritten {K} {holds} {faults} {old} {new} {w} {text} (Ok x) is none cut = tt
unwritten {K} {holds} {faults} {old} {new} {w} {text} (Err e) is none cut =
    let bare = subst (λ x. IsCut holds faults old new x text) none cut in
    subst (IsUnwritten text (holds old) (holds new) (faults old) (faults new)) (sym is) (front_cut bare, bare.failed)
