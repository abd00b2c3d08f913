-- The connections of clients whose bytes are in memory.
use Rattle.std.proofs.Common.{◌≡◌, List, [], ◌∷◌, ◌++◌, length, slice_get, arith, inl, inr, ap, sym, ◌∙◌, subst}
use Rattle.walter_psi.proofs.Lists.{slice_get-push_cases}
use Rattle.walter_cell.specs.Lines.{LineValue, IsLine}
use Rattle.walter_cluster.specs.Builds.{AreUnread}
use Rattle.walter_scenario.specs.declared.scenario.Client.{Client}

-- those of one more client
pub unread_more : (clients more : List Client) (lines new : List (LineValue)) (client : Client)
    (line : LineValue) → more ≡ clients ++ client ∷ [] → new ≡ lines ++ line ∷ [] → length lines ≡ length clients
    → AreUnread clients lines → IsLine client.bytes [] line → AreUnread more new
unread_more clients more lines new client line longer grown long are is number other found at there =
    elim (slice_get-push_cases clients client other number (ap (λ cs. slice_get cs number) (sym longer) ∙ at)) [
      | inl before ↦ elim (slice_get-push_cases lines line found number (ap (λ ls. slice_get ls number) (sym grown) ∙ there)) [
        | inl here ↦ are number other found before.1 here.1
        | inr last ↦ absurd (let a = before.0 in let b = last.0 in omega (arith, a, b, long))
      ]
      | inr last ↦ elim (slice_get-push_cases lines line found number (ap (λ ls. slice_get ls number) (sym grown) ∙ there)) [
        | inl here ↦ absurd (let a = last.0 in let b = here.0 in omega (arith, a, b, long))
        | inr both ↦
            subst (λ (c : Client). IsLine c.bytes [] found) last.1 (subst (λ (l : LineValue). IsLine client.bytes [] l) both.1 is)
      ]
    ]
