-- What is declared of a container, as a value that maps can hold.
use Rattle.std.specs.Prelude.{ℕ, zero, suc, refl, ◌≡◌}
use Rattle.std.specs.Coded.{Coded, code_by, coded×, coded_ℕ}
use Rattle.walter_base.specs.declared.containers.Container.{Container}
use Rattle.walter_base.specs.declared.names.Kind.{Kind}
use Rattle.walter_base.specs.declared.names.Kind.TheVariants.{Regular, Cset}

abbrev pub number_of_kind : Kind → ℕ
number_of_kind Regular = 0
number_of_kind Cset = 1

abbrev pub kind_of_number : ℕ → Kind
kind_of_number zero = Regular
kind_of_number (suc n) = Cset

pub kind_back : (kind : Kind) → kind_of_number (number_of_kind kind) ≡ kind
kind_back Regular = refl
kind_back Cset = refl

abbrev pub coded_container : Coded Container
coded_container =
    code_by (ℕ × ℕ) (coded× coded_ℕ coded_ℕ) (λ c. (number_of_kind c.kind, c.preferred.0))
    (λ p. record { kind = kind_of_number p.0; preferred = record { 0 = p.1 } }) (λ c. λ i. record { kind = kind_back c.kind i; preferred = c.preferred })
