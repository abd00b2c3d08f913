-- How the logic stores the calls of a disk, and disks with their sites.
use Rattle.std.specs.Prelude.{◌≡◌, ◌==◌, ℕ, List, [], Option, refl, if◌then◌else◌}
use Rattle.std.specs.Coded.{Coded, code_by, coded×, coded_ℕ, coded_list, coded_option}
use Rattle.walter_disk.specs.Disks.{Arming}
use Rattle.walter_disk_memory.specs.Contents.{Call, Write, FailedWrite, Sync, Settle}
use Rattle.walter_disk_memory.specs.MemoryDisks.{MemoryState}
use Rattle.walter_disk_memory.specs.Stops.{Stops}

abbrev Parts : Type 0
Parts = ℕ × (ℕ × List ℕ)

abbrev to_parts : Call → Parts
to_parts (Write at from) = (0, (at, from))
to_parts (FailedWrite at from) = (1, (at, from))
to_parts Sync = (2, (0, []))
to_parts (Settle choice) = (3, (choice, []))

abbrev from_parts : Parts → Call
from_parts p =
    if p.0 == 0 then Write p.1.0 p.1.1
    else if p.0 == 1 then FailedWrite p.1.0 p.1.1
    else if p.0 == 2 then Sync
    else Settle p.1.0

pub from_parts-to_parts : (call : Call) → from_parts (to_parts call) ≡ call
from_parts-to_parts (Write at from) = refl
from_parts-to_parts (FailedWrite at from) = refl
from_parts-to_parts Sync = refl
from_parts-to_parts (Settle choice) = refl

abbrev pub calls_code : Coded (List Call)
calls_code = coded_list (code_by Parts (coded× coded_ℕ (coded× coded_ℕ (coded_list coded_ℕ))) to_parts from_parts from_parts-to_parts)

abbrev arming_code : Coded Arming
arming_code =
    code_by (ℕ × (ℕ × ℕ)) (coded× coded_ℕ (coded× coded_ℕ coded_ℕ))
    (λ a. (a.at, (a.nth, a.choice))) (λ p. record { at = p.0; nth = p.1.0; choice = p.1.1 }) (λ _. refl)

abbrev stops_code : Coded Stops
stops_code =
    code_by (List Arming × (Option (ℕ × ℕ) × (Option ℕ × (ℕ × ℕ))))
    (coded× (coded_list arming_code)
    (coded× (coded_option (coded× coded_ℕ coded_ℕ)) (coded× (coded_option coded_ℕ) (coded× coded_ℕ coded_ℕ))))
    (λ s. (s.arms, (s.due, (s.came, (s.made, s.faults)))))
    (λ p. record { arms = p.0; due = p.1.0; came = p.1.1.0; made = p.1.1.1.0; faults = p.1.1.1.1 }) (λ _. refl)

abbrev state_code : Coded MemoryState
state_code =
    code_by (List ℕ × (List Call × (Stops × (ℕ × ℕ))))
    (coded× (coded_list coded_ℕ) (coded× calls_code (coded× stops_code (coded× coded_ℕ coded_ℕ))))
    (λ d. (d.first, (d.calls, (d.stops, (d.room_end, d.room_calls)))))
    (λ p. record { first = p.0; calls = p.1.0; stops = p.1.1.0; room_end = p.1.1.1.0; room_calls = p.1.1.1.1 }) (λ _. refl)

abbrev pub disks_code : Coded (List (ℕ × MemoryState))
disks_code = coded_list (coded× coded_ℕ state_code)
