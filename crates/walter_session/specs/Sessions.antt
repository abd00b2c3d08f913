-- Sessions with the numbers of their clients, in the order of their starts.
use Rattle.std.specs.Prelude.{◌≡◌, ◌<◌, ◌≤◌, ◌-◌, ℕ, List, [], map, filter_map, length, All, Option, Some, None, IsSome, option_map, vec_len, vec_capacity}
use Rattle.std.specs.Option.{option_map_or}
use Rattle.slab.specs.Slab.{Slab, get, slab_len}
use Rattle.walter_base.specs.declared.names.Tid.{Tid}
use Rattle.walter_base.specs.ByClient.{of_client, AreApart}
use Rattle.walter_rules.specs.Sessions.{Session, Sessions, session_in}
use Rattle.walter_session.specs.declared.session.Session.{Session as Kept}
use Rattle.walter_session.specs.declared.session.StartFault.{StartFault}
use Rattle.walter_session.specs.declared.session.StartFault.TheVariants.{TxOpen, SessionsFull, NoMemory}
use Rattle.walter_session.specs.declared.slot.Slot.{Slot}

-- a session in the rules' words
abbrev pub session_view : Kept → Session
session_view s = record { tid = s.tid; snapshot = s.snapshot; updates = s.updates.items; slow = s.slow }

-- a session, and how many updates can be added without memory
pub record SessionWithRoom : Type 0 where
  pub session : Session
  pub room : ℕ

-- what is kept of each client that has a session, in the order of the starts; and for how many more sessions there are
-- slots, and keys, without memory
pub record Table : Type 0 where
  pub clients : List (ℕ × SessionWithRoom)
  pub slots : ℕ
  pub keys : ℕ

-- the sessions with their clients, in the order of their starts
abbrev pub sessions_of : Table → Sessions
sessions_of table = map (λ e. (e.0, e.1.session)) table.clients

-- the session of a client, if it has one
abbrev pub session_of : Table → ℕ → Option Session
session_of table client = session_in client (sessions_of table)

-- how many updates can be added to the client's session without memory; 0 where it has none
abbrev pub room_of : Table → ℕ → ℕ
room_of table client = option_map_or (λ kept. kept.room) (of_client client table.clients) 0

-- one more session can start without memory
abbrev pub CanStart : Table → Type 0
CanStart table = (0 < table.slots) × (0 < table.keys)

-- a session as it starts
abbrev pub started : Tid → List ℕ → Session
started tid snapshot = record { tid = tid; snapshot = snapshot; updates = []; slow = 0 }

-- why no session starts: the client has one; else there are as many as there may be; else there is no memory
abbrev pub IsStartFault : Table → ℕ → StartFault → Type 0
IsStartFault table client TxOpen = IsSome (session_of table client)
IsStartFault table client SessionsFull = (session_of table client ≡ None) × (256 ≤ length (sessions_of table))
IsStartFault table client NoMemory =
    (session_of table client ≡ None) × (length (sessions_of table) < 256) × ¬ CanStart table

-- what a slot keeps
abbrev pub kept_in : Slot → SessionWithRoom
kept_in slot = record {
  session = session_view slot.session;
  room = vec_capacity slot.session.updates - vec_len slot.session.updates;
}

-- what the slots keep of each client, by the key of its slot
abbrev pub clients_in : Slab Slot → List (ℕ × ℕ) → List (ℕ × SessionWithRoom)
clients_in slots keys = filter_map (λ e. option_map (λ slot. (e.0, kept_in slot)) (get slots e.1)) keys

-- how many more slots there is room for
abbrev pub slots_left : Slab Slot → ℕ
slots_left slots = slots.capacity - slab_len slots

-- the key is that of a slot of this client
abbrev pub IsKeyOf : Slab Slot → ℕ × ℕ → Type 0
IsKeyOf slots e = (slot : Slot) × (get slots e.1 ≡ Some slot) × (slot.client ≡ e.0)

-- the key of each client is that of a slot of this client, each client has one key at most, and there is no other slot
pub record AreLinked (keys : List (ℕ × ℕ)) (slots : Slab Slot) : Type 0 where
  pub each : All (IsKeyOf slots) keys
  pub apart : AreApart keys
  pub counted : slab_len slots ≡ length keys

-- what the slots keep under these keys, whatever room there is
abbrev pub table_in : Slab Slot → List (ℕ × ℕ) → Table
table_in slots keys = record { clients = clients_in slots keys; slots = 0; keys = 0 }
