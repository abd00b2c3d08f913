-- The steps of made calls can be taken.
use Rattle.std.proofs.Common.{◌≡◌, ◌<◌, ℕ, zero, suc, List, ◌∷◌, All, sym, subst, arith}
use Rattle.std.proofs.lemmas.List.Elements.{All-nil, All-cons}
use Rattle.walter_scenario.specs.declared.scenario.Step.{Step}
use Rattle.walter_scenario.specs.declared.scenario.Step.TheVariants.{Call, Pump}
use Rattle.walter_scenario.specs.Parts.{IsStep}
use Rattle.walter_make.specs.Calls.{Drawing, caller, behind_call, calls_from}
use Rattle.walter_make.specs.Made.{site, steps_of}

is_caller : (d : Drawing) → caller d < 6
is_caller d = omega arith

steps_right : (calls : ℕ) (d : Drawing) → All (IsStep 3 6) (steps_of (calls_from calls d))
steps_right zero d = All-nil (IsStep 3 6)
steps_right (suc calls) d =
    let rest = steps_of (calls_from calls (behind_call d)) in
    let pumps = Pump (site 0) ∷ Pump (site 1) ∷ Pump (site 2) ∷ rest in
    All-cons (IsStep 3 6) (Call (caller d)) pumps (is_caller d)
    (All-cons (IsStep 3 6) (Pump (site 0)) (Pump (site 1) ∷ Pump (site 2) ∷ rest) (omega arith)
    (All-cons (IsStep 3 6) (Pump (site 1)) (Pump (site 2) ∷ rest) (omega arith)
    (All-cons (IsStep 3 6) (Pump (site 2)) rest (omega arith) (steps_right calls (behind_call d)))))

-- of three sites and six clients
pub made_steps_right : (sites clients : ℕ) (steps : List Step) (calls : ℕ) (d : Drawing) → sites ≡ 3 → clients ≡ 6
    → steps ≡ steps_of (calls_from calls d)
    → All (IsStep sites clients) steps
made_steps_right sites clients steps calls d three six are =
    subst (λ n. All (IsStep n clients) steps) (sym three)
    (subst (λ n. All (IsStep 3 n) steps) (sym six)
    (subst (λ (xs : List Step). All (IsStep 3 6) xs) (sym are) (steps_right calls d)))
