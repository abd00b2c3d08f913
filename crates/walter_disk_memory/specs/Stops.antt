-- Calls that fail: from the call on that an arm has named, until the disk has settled.
use Rattle.std.specs.Prelude.{◌≡◌, ◌+◌, ◌-◌, ◌==◌, ◌||◌, ℕ, Bool, false, List, [], ◌∷◌, ◌++◌, Option, Some, None, is_some, unwrap_or, if◌then◌else◌}
use Rattle.walter_disk.specs.Disks.{Arming}

pub record Stops : Type 0 where
  pub arms : List Arming
  -- the arm that is to come: in how many calls, and its choice
  pub due : Option (ℕ × ℕ)
  -- the choice of the arm that came, where the disk is broken
  pub came : Option ℕ
  -- how many calls were made, and how many of them have failed
  pub made : ℕ
  pub faults : ℕ

-- no call was made
abbrev pub unarmed : Stops
unarmed = record { arms = []; due = None; came = None; made = 0; faults = 0 }

-- the arm comes at the next call
abbrev pub is_next : Option (ℕ × ℕ) → Bool
is_next None = false
is_next (Some arm) = arm.0 == 1

-- the next read, write or sync fails: the disk is broken, or an arm comes
abbrev pub fails : Stops → Bool
fails stops = is_some stops.came || is_next stops.due

-- one call fewer until the arm comes
abbrev pub nearer : Option (ℕ × ℕ) → Option (ℕ × ℕ)
nearer None = None
nearer (Some arm) = Some (arm.0 - 1, arm.1)

-- after a call that did not fail
abbrev pub passed : Stops → Stops
passed stops = record stops { due = nearer stops.due; made = stops.made + 1 }

-- the choice of the arm that is to come
abbrev pub choice_of : Option (ℕ × ℕ) → ℕ
choice_of None = 0
choice_of (Some arm) = arm.1

-- After a call that failed. On a broken disk the arm that is to come stays as far away, and what came first stands.
abbrev pub failed : Stops → Stops
failed stops = record stops {
  due = if is_some stops.came then stops.due else None;
  came = Some (unwrap_or stops.came (choice_of stops.due));
  made = stops.made + 1;
  faults = stops.faults + 1;
}

-- armed once more: a later arm takes the place of one that is to come
abbrev pub armed : ℕ → ℕ → Stops → Stops
armed nth choice stops = record stops {
  arms = stops.arms ++ record { at = stops.made; nth = nth; choice = choice } ∷ [];
  due = Some (nth, choice);
}

-- the choice by which a settle goes, 0 where no arm came
abbrev pub choice_made : Stops → ℕ
choice_made stops = unwrap_or stops.came 0

-- the disk is broken no more
abbrev pub mended : Stops → Stops
mended stops = record stops { came = None }

-- without an arm none is due, none came, and no call has failed
abbrev pub FailOnlyIfArmed : Stops → Type 0
FailOnlyIfArmed stops = stops.arms ≡ [] → (stops.due ≡ None) × (stops.came ≡ None) × (stops.faults ≡ 0)
