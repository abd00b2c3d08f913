-- What contracts see of a lane's two ends.
use Rattle.std.specs.Prelude.{ℕ, List, refl}
use Rattle.std.specs.Coded.{Coded, code_by, coded×, coded_ℕ, coded_list}
use Rattle.walter_lane.specs.Rings.{Ring, ring_code}
use Rattle.walter_lane.specs.declared.posted.Posted.{Posted}

abbrev pub posted_code : Coded Posted
posted_code =
    code_by (ℕ × (ℕ × List ℕ)) (coded× coded_ℕ (coded× coded_ℕ (coded_list coded_ℕ)))
    (λ p. (p.stamp, (p.framed.sites, p.framed.bytes)))
    (λ t. record { stamp = t.0; framed = record { sites = t.1.0; bytes = t.1.1 } }) (λ _. refl)

-- the end that puts: its ring, all that was put, and how many of these when the ends last met
pub record Sending : Type 0 where
  pub ring : Ring
  pub put : List Posted
  pub met : ℕ

abbrev pub sending_code : Coded Sending
sending_code =
    code_by (Ring × (List Posted × ℕ)) (coded× ring_code (coded× (coded_list posted_code) coded_ℕ))
    (λ s. (s.ring, (s.put, s.met))) (λ t. record { ring = t.0; put = t.1.0; met = t.1.1 }) (λ _. refl)

-- the end that takes: its ring, and what has arrived
pub record Receiving : Type 0 where
  pub ring : Ring
  pub arrived : List Posted

abbrev pub receiving_code : Coded Receiving
receiving_code =
    code_by (Ring × List Posted) (coded× ring_code (coded_list posted_code))
    (λ s. (s.ring, s.arrived)) (λ t. record { ring = t.0; arrived = t.1 }) (λ _. refl)
