-- A disk as it is taken from a rack.
use Rattle.std.specs.Prelude.{◌≡◌, ℕ, List, [], false, IfSome}
use Rattle.walter_disk.specs.Disks.{DiskState}
use Rattle.walter_disk.specs.Images.{IsDurable}

-- no call has failed, none is to fail, and a crash leaves what reads
pub record IsFresh (known : DiskState) (may_leave : List ℕ → Type 0) : Type 0 where
  pub whole : known.broken ≡ false
  pub faultless : known.faults ≡ 0
  pub unarmed : IfSome known.arms (λ arms. arms ≡ [])
  pub durable : IsDurable known.reads may_leave
