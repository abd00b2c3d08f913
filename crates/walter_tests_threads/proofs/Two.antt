-- Lists of two.
use Rattle.std.proofs.Common.{◌≡◌, ◌≤◌, ◌<◌, ℕ, zero, suc, List, [], ◌∷◌, length, slice_get, get_or, Option, Some, None, sym, ap, ◌∙◌, subst, arith}
use Rattle.std.proofs.lemmas.Option.{slice_get-get_or}
use Rattle.walter_cell.specs.Lines.{IsLine, LineValue}
use Rattle.walter_cluster.specs.Builds.{AreUnarmed, AreUnread}
use Rattle.walter_disk_memory.specs.MemoryDisks.{MemoryState, holding}
use Rattle.walter_disk_memory.specs.contracts.memory_disk.MemoryDiskDisk.TheImpl.{ghosts}
use Rattle.walter_scenario.specs.declared.scenario.Client.{Client}

some_is : {X : Type 0} (x y : X) (o : Option X) → o ≡ Some x → o ≡ Some y → x ≡ y
some_is x y o a b = cc

two_unread : (clients : List Client) (a b : Client) (l m : LineValue) → slice_get clients 0 ≡ Some a → slice_get clients 1 ≡ Some b
    → IsLine a.bytes [] l → IsLine b.bytes [] m → AreUnread clients (l ∷ m ∷ [])
two_unread clients a b l m here next first second zero client line found there =
    let e : Some l ≡ Some line = there in
    let same : l ≡ line = cc in
    subst (λ (x : LineValue). IsLine client.bytes [] x) same
    (subst (λ (x : Client). IsLine x.bytes [] l) (some_is a client (slice_get clients 0) here found) first)
two_unread clients a b l m here next first second (suc zero) client line found there =
    let e : Some m ≡ Some line = there in
    let same : m ≡ line = cc in
    subst (λ (x : LineValue). IsLine client.bytes [] x) same
    (subst (λ (x : Client). IsLine x.bytes [] m) (some_is b client (slice_get clients 1) next found) second)
two_unread clients a b l m here next first second (suc (suc number)) client line found there =
    let e : None ≡ Some line = there in absurd cc

-- what is read at a place stands there
stands : {X : Type 0} (xs : List X) (k : ℕ) (x : X) → x ≡ get_or xs k x → k < length xs → slice_get xs k ≡ Some x
stands xs k x is within = slice_get-get_or xs k x within ∙ ap (λ y. Some y) (sym is)

-- the connections of two clients of whom nothing was read
pub unread : (clients : List Client) (a b : Client) (lines : List LineValue) (l m : LineValue) → a ≡ get_or clients 0 a
    → b ≡ get_or clients 1 b → 2 ≤ length clients → lines ≡ l ∷ m ∷ [] → IsLine a.bytes [] l → IsLine b.bytes [] m
    → AreUnread clients lines
unread clients a b lines l m here next many are first second =
    subst (λ (ls : List LineValue). AreUnread clients ls) (sym are)
    (two_unread clients a b l m (stands clients 0 a here (omega (arith, many))) (stands clients 1 b next (omega (arith, many))) first second)

two_unarmed : AreUnarmed ghosts (holding [] ∷ holding [] ∷ [])
two_unarmed zero disk at = let e : Some (holding []) ≡ Some disk = at in let same : holding [] ≡ disk = cc in ap (λ (d : MemoryState). d.stops.arms) (sym same)
two_unarmed (suc zero) disk at = let e : Some (holding []) ≡ Some disk = at in let same : holding [] ≡ disk = cc in ap (λ (d : MemoryState). d.stops.arms) (sym same)
two_unarmed (suc (suc i)) disk at = let e : None ≡ Some disk = at in absurd cc

-- two empty disks
pub unarmed : (disks : List MemoryState) (a b : MemoryState) → disks ≡ a ∷ b ∷ [] → a ≡ holding [] → b ≡ holding []
    → AreUnarmed ghosts disks
unarmed disks a b are first second = subst (λ (ds : List MemoryState). AreUnarmed ghosts ds) (sym are)
    (subst (λ (x : MemoryState). AreUnarmed ghosts (x ∷ b ∷ [])) (sym first)
    (subst (λ (x : MemoryState). AreUnarmed ghosts (holding [] ∷ x ∷ [])) (sym second) two_unarmed))
