-- Snapshots and what is committed cover the floor of the rows, also behind what happens to them.
use Rattle.std.proofs.Common.{◌≡◌, ◌≤◌, ◌<◌, ℕ, not, nat_eq, Option, Some, None, List, [], ◌∷◌, ◌++◌, length, slice_index, sym, subst, arith, inl, inr}
use Rattle.std.specs.Prelude.{IfSome, slice_set}
use Rattle.std.proofs.lemmas.Bool.Decides.{eqb_tells}
use Rattle.std.proofs.lemmas.List.{get_or-set_same, get_or-set_other}
use Rattle.std.proofs.lemmas.List.Elements.{All-push, All-filter}
use Rattle.walter_base.specs.ByClient.{AreApart, changed, without}
use Rattle.walter_base.specs.Vectors.{Covers}
use Rattle.walter_base.proofs.ByClient.{all_changed, all_of_client}
use Rattle.walter_rules.specs.Sessions.{Session, Sessions, session_in}
use Rattle.walter_session.specs.Floors.{AllCover}

module _ (floor : List ℕ) where
  abbrev DoesCover : Session → Type 0
  DoesCover s = Covers s.snapshot floor

  pub covers_session : (client : ℕ) (ss : Sessions) → AllCover ss floor → IfSome (session_in client ss) DoesCover
  covers_session client ss all = all_of_client DoesCover client ss all

  -- a session changes, and its snapshot doesn't
  pub cover_changed : (client : ℕ) (f : Session → Session) (ss : Sessions) → ((s : Session) → (f s).snapshot ≡ s.snapshot)
      → AreApart ss → AllCover ss floor → AllCover (changed client f ss) floor
  cover_changed client f ss same apart all =
      all_changed DoesCover client f ss all apart (by (session_in client ss) (covers_session client ss all))
    where
      by : (o : Option Session) → IfSome o DoesCover → IfSome o (λ s. DoesCover (f s))
      by None is = tt
      by (Some s) is = subst (λ (v : List ℕ). Covers v floor) (sym (same s)) is

  pub cover_without : (client : ℕ) (ss : Sessions) → AllCover ss floor → AllCover (without client ss) floor
  cover_without client ss all = All-filter (λ (e : ℕ × Session). not (nat_eq client e.0)) (λ e. DoesCover e.1) ss all

  pub cover_more : (client : ℕ) (s : Session) (ss : Sessions) → AllCover ss floor → Covers s.snapshot floor
      → AllCover (ss ++ (client, s) ∷ []) floor
  cover_more client s ss all one = All-push (λ e. DoesCover e.1) ss (client, s) all one

  -- an entry of a vector that rose
  pub cover_raised : (v : List ℕ) (k n : ℕ) → k < length v → Covers v floor → slice_index v k ≤ n → Covers (slice_set v k n) floor
  cover_raised v k n within covers more m = elim (eqb_tells m k) [
    | inl same ↦
        let now = get_or-set_same v k n 0 within in
        let had = covers k in
        subst (λ (i : ℕ). slice_index floor i ≤ slice_index (slice_set v k n) i) (sym same.1) (omega (arith, now, had, more))
    | inr other ↦
        let now = get_or-set_other v k m n 0 other.1 in
        let had = covers m in omega (arith, now, had)
  ]
