-- What the start of each transaction in a log sees stands before it in the log.
use Rattle.std.proofs.Common.{◌≡◌, ℕ, ◌≤◌, List, [], ◌∷◌, ◌++◌, length, take, sym, subst, arith, slice_get, Some, inl, inr}
use Rattle.std.proofs.lemmas.List.{take-append-le, take_at}
use Rattle.walter_base.specs.declared.names.SiteId.{SiteId}
use Rattle.walter_base.specs.Vectors.{entry_at}
use Rattle.walter_psi.proofs.Lists.{slice_get-push_cases}
use Rattle.walter_rules.specs.declared.held.Held.{Held}
use Rattle.walter_rules.specs.Log.{of_site}
use Rattle.walter_agreement.proofs.Cases.{site_cases}
use Rattle.walter_agreement.proofs.Numbers.{IsPushed}

-- what the transaction's start sees is in the log
abbrev pub IsStartCovered : Held → List Held → Type 0
IsStartCovered r log = (k : SiteId) → entry_at r.tx.start k ≤ length (of_site k log)

-- so it is of each transaction, in the log before it
abbrev pub IsCausalLog : List Held → Type 0
IsCausalLog log = (p : ℕ) (r : Held) → slice_get log p ≡ Some r → IsStartCovered r (take p log)

-- the empty log is causal
pub causal_none : IsCausalLog []
causal_none p r here k = absurd cc

-- a log stays causal with one more whose start is covered
pub causal_push : (log : List Held) (r : Held) → IsCausalLog log → IsStartCovered r log → IsCausalLog (log ++ r ∷ [])
causal_push log r causal covered p z here k =
    elim (slice_get-push_cases log r z p here) [
      | inl old ↦
          let l = old.0 in
          subst (λ t. entry_at z.tx.start k ≤ length (of_site k t))
          (sym (take-append-le p log (r ∷ []) (omega (arith, l)))) (causal p z old.1 k)
      | inr last ↦
          subst (λ t. entry_at z.tx.start k ≤ length (of_site k t)) (sym (take_at log (r ∷ []) p (sym last.0)))
          (subst (λ (w : Held). entry_at w.tx.start k ≤ length (of_site k log)) last.1 (covered k))
    ]

-- so do the logs of the sites
pub causal_pushed : (logs longer : SiteId → List Held) (s : SiteId) (r : Held) → ((i : SiteId) → IsCausalLog (logs i))
    → IsPushed logs longer s r → IsStartCovered r (logs s) → (i : SiteId) → IsCausalLog (longer i)
causal_pushed logs longer s r causal push covered i =
    elim (site_cases s i) [
      | inl same ↦
          subst (λ (j : SiteId). IsCausalLog (longer j)) same.1
          (subst (λ t. IsCausalLog t) (sym push.0) (causal_push (logs s) r (causal s) covered))
      | inr apart ↦ subst (λ t. IsCausalLog t) (sym (push.1 i apart.1)) (causal i)
    ]
