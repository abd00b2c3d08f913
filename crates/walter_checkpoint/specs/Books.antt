-- What a book on a disk stands for (docs/FORMATS.md, "Two areas"): bodies that are safe, so that a crash leaves them.
use Rattle.std.specs.Prelude.{false, ◌≡◌, ◌≢◌, ◌⊎◌, ◌+◌, ◌-◌, ◌≤◌, min, ℕ, List, [], ◌∷◌, ◌++◌, length, All}
use Rattle.walter_disk.specs.Images.{Torn, Narrows, LeavesOnly}
use Rattle.walter_disk.specs.declared.disk.Disk.{Ghosts}
use Rattle.walter_checkpoint.specs.Areas.{Shape, shape_by, area_size, header_of_two, HasTwo}
use Rattle.walter_checkpoint.specs.Packs.{pack_of, renewed_by}
use Rattle.walter_checkpoint.specs.declared.book.Book.{Book}
use Rattle.walter_checkpoint.specs.declared.book.Live.{Live}
use Rattle.walter_checkpoint.specs.declared.book.Other.{Other}
use Rattle.walter_checkpoint.specs.declared.book.Live.TheVariants.{Whole, A, B}
use Rattle.walter_journal.specs.Journals.{capacity_of, end_of, need_of, StandsBehind}
use Rattle.walter_journal.specs.Journals as journal
use Rattle.walter_journal.specs.Zeros.{zeros as zeros_of, writes_of, HasGrown}
use Rattle.walter_journal.specs.Layout.{header_in, span_of, IsShort, HasBehind}

-- the disk that a book is on
abbrev pub disk_of : {D : Type 0} {g : Ghosts D} → Book D g → D
disk_of book = journal.disk_of book.journal

abbrev pub shape_of : {D : Type 0} {g : Ghosts D} → Book D g → Shape
shape_of book = shape_by book.capacity book.sites book.format

-- how many bytes are left behind its end
abbrev pub left_of : {D : Type 0} {g : Ghosts D} → Book D g → ℕ
left_of book = journal.left_of book.journal

-- where the live area begins; the journal of one area has no other
abbrev pub place_of : Shape → Live → ℕ
place_of shape Whole = 0
place_of shape A = 9
place_of shape B = 9 + area_size shape

-- and where the other one does
abbrev pub other_place : Shape → Live → ℕ
other_place shape Whole = 0
other_place shape A = 9 + area_size shape
other_place shape B = 9

-- the place that its end may not pass
abbrev pub limit_of : Shape → Live → ℕ
limit_of shape Whole = shape.capacity
limit_of shape A = 9 + area_size shape
limit_of shape B = 9 + area_size shape + area_size shape

-- what stands in front of the first gate where these bodies are packed
abbrev pub IsFront : Shape → Live → List (List ℕ) → List ℕ → Type 0
IsFront shape Whole packed front = (front ≡ header_in shape.header) × (packed ≡ [])
IsFront shape A packed front =
    (switch : ℕ) × (switch ≢ 1) × (front ≡ header_of_two shape.header ++ switch ∷ pack_of shape.sites packed)
IsFront shape B packed front =
    (first : List ℕ) × (length first ≡ area_size shape)
    × (front ≡ header_of_two shape.header ++ 1 ∷ (first ++ pack_of shape.sites packed))

-- and how many bytes that are
abbrev pub front_length : Shape → Live → List (List ℕ) → ℕ
front_length shape Whole packed = 8
front_length shape A packed = 9 + length (pack_of shape.sites packed)
front_length shape B packed = 9 + area_size shape + length (pack_of shape.sites packed)

-- these bodies stand within an area, packed and behind
abbrev pub IsWithinArea : Shape → List (List ℕ) → List (List ℕ) → Type 0
IsWithinArea shape packed behind =
    (47 ≤ shape.capacity) × (length (pack_of shape.sites packed) + span_of behind ≤ area_size shape)

abbrev pub IsWithin : Shape → Live → List (List ℕ) → List (List ℕ) → Type 0
IsWithin shape Whole packed behind = Unit {0}
IsWithin shape A packed behind = IsWithinArea shape packed behind
IsWithin shape B packed behind = IsWithinArea shape packed behind

-- the part that the switch byte makes live, where each area has so many bytes, and its place
abbrev pub IsLivePart : ℕ → ℕ → Live → ℕ → Type 0
IsLivePart switch size live place =
    ((switch ≢ 1) × (live ≡ A) × (place ≡ 9)) ⊎ ((switch ≡ 1) × (live ≡ B) × (place ≡ 9 + size))

-- the bytes are an area with these bodies, and this is the place in it behind the gate that ends them
pub record IsAreaRead (sites : ℕ) (area : List ℕ) (bodies : List (List ℕ)) (end : ℕ) : Type 0 where
  pub packed : List (List ℕ)
  pub behind : List (List ℕ)
  pub are : bodies ≡ packed ++ behind
  pub short : All IsShort packed
  pub content : HasBehind (pack_of sites packed) area behind
  pub place : end ≡ length (pack_of sites packed) + span_of behind

-- the bytes are a book with these bodies: which part is live, and the place behind the gate that ends them
pub record IsRead (shape : Shape) (live : Live) (bytes : List ℕ) (bodies : List (List ℕ)) (end : ℕ) : Type 0 where
  pub packed : List (List ℕ)
  pub behind : List (List ℕ)
  pub are : bodies ≡ packed ++ behind
  pub front : List ℕ
  pub is_front : IsFront shape live packed front
  pub short : All IsShort packed
  pub within : IsWithin shape live packed behind
  pub content : HasBehind front bytes behind
  pub place : end ≡ length front + span_of behind

-- of how many areas a book is that has this part live
abbrev pub areas_of : Live → ℕ
areas_of Whole = 1
areas_of A = 2
areas_of B = 2

-- the bytes of a book of as many areas, with these bodies
abbrev pub HasLaid : Live → Shape → List ℕ → List (List ℕ) → Type 0
HasLaid Whole shape bytes bodies = HasBehind (header_in shape.header) bytes bodies
HasLaid A shape bytes bodies = HasTwo shape bytes bodies
HasLaid B shape bytes bodies = HasTwo shape bytes bodies

-- with these bodies, or with one more behind them
abbrev pub IsLaidBeforeOrBehind : Live → Shape → List (List ℕ) → List ℕ → List ℕ → Type 0
IsLaidBeforeOrBehind live shape bodies body image =
    HasLaid live shape image bodies ⊎ HasLaid live shape image (bodies ++ body ∷ [])

-- it has these bodies in its pack and these behind it
pub record StandsWith {D : Type 0} {g : Ghosts D} (book : Book D g) (packed behind : List (List ℕ)) : Type 0 where
  pub front : List ℕ
  pub is_front : IsFront (shape_of book) book.live packed front
  pub short : All IsShort packed
  pub within : IsWithin (shape_of book) book.live packed behind
  pub limit : capacity_of book.journal ≡ limit_of (shape_of book) book.live
  pub stands : StandsBehind front book.journal behind

pub record StandsFor {D : Type 0} {g : Ghosts D} (book : Book D g) (bodies : List (List ℕ)) : Type 0 where
  pub packed : List (List ℕ)
  pub behind : List (List ℕ)
  pub are : bodies ≡ packed ++ behind
  pub with : StandsWith book packed behind

-- it goes on behind so much, whether its disk tells its bytes or not
pub record GoesOn {D : Type 0} {g : Ghosts D} (book : Book D g) (packed behind : List (List ℕ)) : Type 0 where
  pub end : end_of book.journal ≡ front_length (shape_of book) book.live packed + span_of behind
  pub limit : capacity_of book.journal ≡ limit_of (shape_of book) book.live

pub record GoesOnBehind {D : Type 0} {g : Ghosts D} (book : Book D g) (bodies : List (List ℕ)) : Type 0 where
  pub packed : List (List ℕ)
  pub behind : List (List ℕ)
  pub are : bodies ≡ packed ++ behind
  pub whole : book.live ≡ Whole → packed ≡ []
  pub with : GoesOn book packed behind

-- what `pack` writes is ready, as a load leaves it
pub record IsReady {D : Type 0} {g : Ghosts D} (book : Book D g) (bodies : List (List ℕ)) : Type 0 where
  pub is : book.live ≢ Whole → book.renewal.items ≡ renewed_by book.sites bodies

-- it is the same book, but for its room: what a call leaves that takes memory alone
pub record IsSameBook {D : Type 0} {g : Ghosts D} (old new : Book D g) : Type 0 where
  pub shape : shape_of new ≡ shape_of old
  pub live : new.live ≡ old.live
  pub end : end_of new.journal ≡ end_of old.journal
  pub limit : capacity_of new.journal ≡ capacity_of old.journal
  pub renewal : new.renewal.items ≡ old.renewal.items
  pub device : g.device_calls (disk_of new) ≡ g.device_calls (disk_of old)
  pub with : (packed behind : List (List ℕ)) → StandsWith old packed behind → StandsWith new packed behind
  pub stands : (bodies : List (List ℕ)) → StandsFor old bodies → StandsFor new bodies
  pub goes_on : (packed behind : List (List ℕ)) → GoesOn old packed behind → GoesOn new packed behind
  pub ready : (bodies : List (List ℕ)) → IsReady old bodies → IsReady new bodies
  pub crash : Narrows (g.may_leave (disk_of old)) (g.may_leave (disk_of new))
  pub any_moment : LeavesOnly g.moment g.left_since (disk_of old) (disk_of new) (g.may_leave (disk_of old))

-- how many bytes are missing in front of the other area
abbrev pub missing : Shape → Live → ℕ → ℕ
missing shape live size = other_place shape live - size

-- there is room on a disk to pack so many bytes, with these zeros for what is missing
pub record HasRoomOn {D : Type 0} (g : Ghosts D) (disk : D) (shape : Shape) (live : Live) (count : ℕ)
    (zeros : List ℕ) : Type 0 where
  pub least : 47 ≤ shape.capacity
  pub fits : count ≤ area_size shape
  pub zeros_are : zeros ≡ zeros_of (length zeros)
  pub few : length zeros ≤ 65536
  pub enough : min 65536 (missing shape live (g.known disk).size) ≤ length zeros
  pub reaches : other_place shape live + count ≤ g.room_end disk
  pub calls : writes_of (missing shape live (g.known disk).size) + 4 ≤ g.room_calls disk

-- there is room for `pack`
pub record HasPackRoom {D : Type 0} {g : Ghosts D} (book : Book D g) : Type 0 where
  pub two :
      book.live ≢ Whole
      → HasRoomOn g (disk_of book) (shape_of book) book.live (length book.renewal.items) book.zeros.items

-- how many reads, writes and syncs a pack makes on a disk of this size
abbrev pub calls_of_pack : Shape → Live → ℕ → ℕ
calls_of_pack shape Whole size = 0
calls_of_pack shape A size = writes_of (9 + area_size shape - size) + 4
calls_of_pack shape B size = 4

-- the area that isn't live, where this is how many bytes each has
abbrev pub IsOther : Live → ℕ → Other → Type 0
IsOther live size other =
    ((live ≡ A) × (other.at ≡ 9 + size) × (other.switch ≡ 1) × (other.live ≡ B))
    ⊎ ((live ≡ B) × (other.at ≡ 9) × (other.switch ≡ 0) × (other.live ≡ A))

-- where a pack makes live what wasn't
abbrev pub live_after : Live → Live
live_after Whole = Whole
live_after A = B
live_after B = A

-- the switch byte that makes the part live, where a load takes any but 1 for area A; the journal of one area has none
abbrev pub switch_of : Live → ℕ
switch_of Whole = 0
switch_of A = 0
switch_of B = 1

-- of one area nothing has changed; of two this holds
abbrev pub ChangesFrom : {D : Type 0} {g : Ghosts D} → Live → (old new : Book D g) → Type 0 → Type 0
ChangesFrom Whole old new P = new ≡ old
ChangesFrom A old new P = P
ChangesFrom B old new P = P

-- a pack of all bodies stands in the area that is live now
abbrev pub Packs : {D : Type 0} {g : Ghosts D} → (old new : Book D g) → List (List ℕ) → Type 0
Packs old new bodies = ChangesFrom old.live old new (StandsWith new bodies [])

-- images from these: grown up to a place, and then with so many bytes written there, which a crash may have cut short
abbrev pub HasBeenWritten : (size at count : ℕ) → (List ℕ → Type 0) → List ℕ → Type 0
HasBeenWritten size at count images image =
    (grown : List ℕ) × HasGrown size at images grown × Torn at count grown image

-- there is room to append a body of so many bytes
abbrev pub HasRoom : {D : Type 0} {g : Ghosts D} → Book D g → ℕ → Type 0
HasRoom book n = journal.HasRoom book.journal n

-- a disk has room for a pack of so many bytes, and for the calls that write it and append one body
pub record ReachesBehind {D : Type 0} (g : Ghosts D) (disk : D) (shape : Shape) (live : Live) (count : ℕ) : Type 0 where
  pub reaches : other_place shape live + count ≤ g.room_end disk
  pub calls : writes_of (missing shape live (g.known disk).size) + 8 ≤ g.room_calls disk

-- there is room to append a body of so many bytes, and as well behind a pack that is ready
pub record HasRoomBehind {D : Type 0} {g : Ghosts D} (book : Book D g) (n : ℕ) : Type 0 where
  pub now : HasRoom book n
  pub two :
      book.live ≢ Whole
      → ReachesBehind g (disk_of book) (shape_of book) book.live (length book.renewal.items + 5 + n)

-- a body was appended
pub record Appends {D : Type 0} {g : Ghosts D} (old new : Book D g) (body : List ℕ) : Type 0 where
  pub fits : need_of body ≤ left_of old
  pub whole : (g.known (disk_of new)).broken ≡ false
  pub faultless : (g.known (disk_of new)).faults ≡ (g.known (disk_of old)).faults
  pub left : left_of new ≡ left_of old - need_of body
  pub behind :
      (packed behind : List (List ℕ)) → StandsWith old packed behind → StandsWith new packed (behind ++ body ∷ [])
