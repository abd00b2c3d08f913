-- What a reader of replies has taken, and why it stopped (docs/FORMATS.md, "Frames of a client").
use Rattle.std.specs.Prelude.{◌≡◌, ◌≢◌, ℕ, List, [], ◌++◌, length}
use Rattle.walter_base.specs.declared.message.Reply.{Reply}
use Rattle.walter_fields.specs.Cursors.{Remainder}
use Rattle.walter_fields.specs.Spellings.{IsBytes, number_spelled}
use Rattle.walter_reply.specs.Replies.{reply_spelled, IsReply, Spells, IsUnknown, IsBadSet}
use Rattle.walter_reply.specs.declared.fault.Stop.{Stop}
use Rattle.walter_reply.specs.declared.fault.Stop.TheVariants.{Cut, Unknown, CutSet, BadSet, NoMemory}

-- what was taken ends the spelling of the reply, which the first byte begins
pub record EndsWith (kind : ℕ) (old new : Remainder) (reply : Reply) : Type 0 where
  pub ranges : IsReply reply
  pub front : number_spelled 1 kind ++ old.left ≡ reply_spelled reply ++ new.left
  pub same : new.end ≡ old.end

-- with some bytes more they spell a reply
pub record IsFront (bytes : List ℕ) : Type 0 where
  pub more : List ℕ
  pub reply : Reply
  pub some : more ≢ []
  pub spells : Spells (bytes ++ more) reply

-- why no reply is read of what is left
abbrev pub StopsAt : List ℕ → Stop → Type 0
StopsAt left Cut = IsBytes left → IsFront left
StopsAt left (Unknown at) = IsUnknown left at
StopsAt left CutSet = IsBadSet left (length left)
StopsAt left (BadSet at) = IsBadSet left at
StopsAt left NoMemory = Unit {0}

-- why nothing that ends a reply is read of what is left behind its first byte
abbrev pub StopsBehind : ℕ → List ℕ → Stop → Type 0
StopsBehind kind left stop = StopsAt (number_spelled 1 kind ++ left) stop
