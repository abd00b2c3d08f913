-- What of a rack's disks holds behind a call: they were taken, and given back or lost.
use Rattle.std.proofs.Common.{◌≡◌, ℕ, ◌+◌, ◌≤◌, zero, suc, List, [], ◌∷◌, ◌++◌, length, slice_get, Option, Some, None, option_map, ap, sym, ◌∙◌, refl, subst, arith, inl, inr, ◌⊎◌}
use Rattle.std.specs.Prelude.{Result, Ok, Err, OnOk, IfSome, IsSome, Contains, false}
use Rattle.std.specs.Result.{is_err}
use Rattle.std.proofs.lemmas.Bool.{cases_lt}
use Rattle.std.proofs.lemmas.List.{append-nil, length-append}
use Rattle.std.proofs.lemmas.List.Elements.{All-contains}
use Rattle.std.proofs.lemmas.Option.{slice_get_within}
use Rattle.walter_cell.specs.Builds.{calls_once_begun}
use Rattle.walter_checkpoint.specs.Areas.{Shape}
use Rattle.walter_disk.specs.Images.{Only, IsDurable}
use Rattle.walter_disk.specs.Racks.{IsFresh}
use Rattle.walter_disk.specs.declared.disk.Disk.{Ghosts}
use Rattle.walter_psi.proofs.Lists.{contains_at}
use Rattle.walter_cli.specs.Disks.{AreGiven, IsFirstLost}
use Rattle.walter_cli.specs.Racks.{OfADisk, RackAt, Racked, IsMore, AreSo, AreFirst, AreGivenBack, AreHandedBack, bytes_of, calls_begun_of, numbered, racked, FailsToGive}
use Rattle.walter_cli.proofs.Trails.{all_there}

-- what holds of a result that is Ok holds of one that is no Err
pub ok_part : {T E : Type 0} (r : Result T E) (P : Type 0) → OnOk r P → is_err r ≡ false → P
ok_part (Ok x) P p is = p
ok_part (Err e) P p is = absurd cc

-- ---- bytes that are told

-- what two things come to that hold of bytes that are told
pub of_both : (bytes : Option (List ℕ)) (P Q : List ℕ → Type 0) (R : Type 0) → ((b : List ℕ) → P b → Q b → R) → IsSome bytes
    → IfSome bytes P → IfSome bytes Q → R
of_both None P Q R so told p q = absurd cc
of_both (Some b) P Q R so told p q = so b p q

-- of bytes that are told, where a crash leaves nothing else
pub of_reads : (reads : Option (List ℕ)) (images : List ℕ → Type 0) (P : List ℕ → Type 0) → IsDurable reads images
    → ((bytes : List ℕ) → reads ≡ Some bytes → Only bytes images → P bytes) → IfSome reads P
of_reads None images P durable so = tt
of_reads (Some bytes) images P durable so = so bytes refl durable

-- the calls of a disk once its site has begun, where the rack tells it
pub calls_told : {D : Type 0} (g : Ghosts D) (disks : Option (Option (List ℕ) → ℕ → D)) (shape : Shape) (areas i calls : ℕ) (disk : D)
    → IfSome disks (λ take. disk ≡ take None i) → calls ≡ calls_once_begun g shape areas disk
    → IfSome (calls_begun_of g disks shape areas i) (λ made. calls ≡ made)
calls_told g None shape areas i calls disk told is = tt
calls_told {D = D} g (Some take) shape areas i calls disk told is = is ∙ ap (λ (d : D). calls_once_begun g shape areas d) told

-- ---- disks with their numbers

numbered_at : {D : Type 0} (first : ℕ) (disks : List D) (i : ℕ) (disk : D) → slice_get disks i ≡ Some disk
    → slice_get (numbered first disks) i ≡ Some (first + i, disk)
numbered_at first [] i disk at = absurd cc
numbered_at first (d ∷ disks) zero disk at =
    let e : d ≡ disk = cc in
    ap (λ (x : _). Some (first, x)) e ∙ ap (λ (n : ℕ). Some (n, disk)) (let z : first ≡ first + 0 = omega arith in z)
numbered_at first (d ∷ disks) (suc i) disk at =
    numbered_at (first + 1) disks i disk at
    ∙ ap (λ (n : ℕ). Some (n, disk)) (let z : first + 1 + i ≡ first + suc i = omega arith in z)

pub numbered_has : {D : Type 0} (disks : List D) (i : ℕ) (disk : D) → slice_get disks i ≡ Some disk
    → Contains (numbered 0 disks) (i, disk)
numbered_has disks i disk at =
    contains_at (numbered 0 disks) (i, disk) i
    (numbered_at 0 disks i disk at ∙ ap (λ (n : ℕ). Some (n, disk)) (let z : 0 + i ≡ i = omega arith in z))

numbered_is : {D : Type 0} (first : ℕ) (disks : List D) (i : ℕ) (it : ℕ × D) → slice_get (numbered first disks) i ≡ Some it
    → (disk : D) × (slice_get disks i ≡ Some disk) × (it ≡ (first + i, disk))
numbered_is first [] i it at = absurd cc
numbered_is first (d ∷ disks) zero it at =
    let e : (first, d) ≡ it = cc in
    (d, refl, sym e ∙ ap (λ (n : ℕ). (n, d)) (let z : first ≡ first + 0 = omega arith in z))
numbered_is first (d ∷ disks) (suc i) it at =
    let behind = numbered_is (first + 1) disks i it at in (
      behind.0,
      behind.1,
      behind.2 ∙ ap (λ (n : ℕ). (n, behind.0)) (let z : first + 1 + i ≡ first + suc i = omega arith in z),
    )

-- what is so of each disk by its site, is so of those that are numbered from 0 on
pub numbered_so : {D : Type 0} (g : Ghosts D) (disks : List D) (P : ℕ → OfADisk)
    → ((i : ℕ) (disk : D) → slice_get disks i ≡ Some disk → P i (g.known disk) (g.may_leave disk))
    → AreSo g P (numbered 0 disks)
numbered_so {D = D} g disks P so =
    all_there (numbered 0 disks) (λ (it : ℕ × D). P it.0 (g.known it.1) (g.may_leave it.1)) (λ i it at.
    let there = numbered_is 0 disks i it at in
    let is : it ≡ (i, there.0) = there.2 ∙ ap (λ (n : ℕ). (n, there.0)) (let z : 0 + i ≡ i = omega arith in z) in
    subst (λ (x : ℕ × D). P x.0 (g.known x.1) (g.may_leave x.1)) (sym is) (so i there.0 there.1))

numbered_long : {D : Type 0} (first : ℕ) (disks : List D) → length (numbered first disks) ≡ length disks
numbered_long first [] = refl
numbered_long first (d ∷ disks) = ap (λ (n : ℕ). suc n) (numbered_long (first + 1) disks)

-- what the numbers of elements come to before these and behind them, where they are told
balances_by : {X : Type 0} (before after : Option (List X)) (more : List X) (P : ℕ → ℕ → Type 0)
    → after ≡ option_map (λ told. told ++ more) before → ((old : ℕ) → P old (old + length more))
    → IfSome before (λ old. IfSome after (λ new. P (length old) (length new)))
balances_by None after more P is so = tt
balances_by {X = X} (Some old) after more P is so =
    subst (λ (o : Option (List X)). IfSome o (λ new. P (length old) (length new))) (sym is)
    (subst (λ (n : ℕ). P (length old) n) (sym (length-append old more)) (so (length old)))

-- no more came
pub none_more : {X : Type 0} (told : Option (List X)) → told ≡ option_map (λ old. old ++ []) told
none_more None = refl
none_more (Some old) = ap (λ l. Some l) (sym (append-nil old))

-- a property of what came behind the elements of a list
pub more_so : {X : Type 0} (before after : Option (List X)) (more : List X) (P : List X → Type 0)
    → after ≡ option_map (λ told. told ++ more) before → P more → IsMore before after P
more_so None after more P is holds = tt
more_so (Some old) after more P is holds = (more, is, holds)

module _ {D : Type 0} (g : Ghosts D) (before mid after : RackAt D) (taken back : List D) where
  abbrev rack : Racked
  rack = racked g before after

  -- these disks were taken up to now, and these are given back
  pub record IsReturned : Type 0 where
    pub told : (i : ℕ) (disk : D) → slice_get taken i ≡ Some disk → IfSome before.disks (λ take. disk ≡ take None i)
    pub fresh : (i : ℕ) (disk : D) → slice_get taken i ≡ Some disk → IsFresh (g.known disk) (g.may_leave disk)
    pub same_given : mid.given ≡ before.given
    pub same_handed : mid.handed ≡ before.handed
    pub many : mid.taken ≡ before.taken + length taken
    pub level : before.faults ≤ mid.faults
    pub long : length back ≡ length taken
    pub gives : AreGiven mid after 0 back

  module _ (is : IsReturned) where
    given : after.given ≡ option_map (λ told. told ++ is.gives.more) before.given
    given = is.gives.given ∙ ap (λ (o : Option (List (ℕ × D))). option_map (λ told. told ++ is.gives.more) o) is.same_given

    handed : after.handed ≡ option_map (λ told. told ++ numbered 0 back) before.handed
    handed = is.gives.handed ∙ ap (λ (o : Option (List (ℕ × D))). option_map (λ told. told ++ numbered 0 back) o) is.same_handed

    -- what is so of each disk by its site, is so of each that was handed back
    pub each_back : (P : ℕ → OfADisk)
        → ((i : ℕ) (disk : D) → slice_get back i ≡ Some disk → P i (g.known disk) (g.may_leave disk)) → rack.each P
    each_back P so = more_so before.handed after.handed (numbered 0 back) (AreSo g P) handed (numbered_so g back P so)

    -- all were handed back
    pub handed_back : (P : ℕ → OfADisk)
        → ((i : ℕ) (disk : D) → slice_get back i ≡ Some disk → P i (g.known disk) (g.may_leave disk))
        → rack.handed (length taken) P
    handed_back P so =
        more_so before.handed after.handed (numbered 0 back) (AreFirst g (length taken) P) handed
        (back, is.long, refl, numbered_so g back P so)

    -- and given back where the rack didn't fail
    pub all_back : (P : ℕ → OfADisk) → after.faults ≡ mid.faults
        → ((i : ℕ) (disk : D) → slice_get back i ≡ Some disk → P i (g.known disk) (g.may_leave disk))
        → rack.all (length taken) P
    all_back P same so =
        more_so before.given after.given is.gives.more (AreFirst g (length taken) P) given (
          back,
          is.long,
          is.gives.whole same,
          subst (λ (more : List (ℕ × D)). AreSo g P more) (sym (is.gives.whole same)) (numbered_so g back P so),
        )

    failed_or : (after.faults ≡ mid.faults) ⊎ rack.failed
    failed_or = elim (cases_lt mid.faults after.faults) [
      | inl rose ↦ inr (let l = is.level in omega (arith, rose, l))
      | inr most ↦ inl (let l = is.gives.level in omega (arith, most, l))
    ]

    pub all_or_failed : (P : ℕ → OfADisk)
        → ((i : ℕ) (disk : D) → slice_get back i ≡ Some disk → P i (g.known disk) (g.may_leave disk))
        → rack.failed ⊎ rack.all (length taken) P
    all_or_failed P so = elim failed_or [ inl same ↦ inr (all_back P same so) | inr failed ↦ inl failed ]

    -- what was given back as a site's is its disk
    own : (i : ℕ) (disk : D) → Contains is.gives.more (i, disk) → slice_get back i ≡ Some disk
    own i disk there =
        let at = All-contains (λ (it : ℕ × D). (j : ℕ) × (it.0 ≡ 0 + j) × (slice_get back j ≡ Some it.1)) is.gives.more
        (i, disk) is.gives.those there in
        ap (λ (n : ℕ). slice_get back n) (let e = at.1 in let z : i ≡ at.0 = omega (arith, e) in z) ∙ at.2

    -- the one of this site was handed back
    pub one_back : (i : ℕ) (disk : D) (P : OfADisk) → slice_get back i ≡ Some disk
        → P (g.known disk) (g.may_leave disk) → rack.one i P
    one_back i disk P at holds =
        more_so before.handed after.handed (numbered 0 back)
        (λ more. (d : D) × Contains more (i, d) × P (g.known d) (g.may_leave d)) handed
        (disk, numbered_has back i disk at, holds)

    -- none was given back as that of a site behind these
    pub lacks_behind : (i : ℕ) → length back ≤ i → rack.lacks i
    lacks_behind i most =
        more_so before.given after.given is.gives.more (λ more. (d : D) → Contains more (i, d) → ⊥) given (λ disk there.
        let within = slice_get_within back i disk (own i disk there) in omega (arith, within, most))

    -- how many were taken
    pub took_all : rack.took (length taken)
    took_all = is.gives.taken ∙ is.many

    -- the first that was lost is that of the site at which the rack failed
    pub fails_to_give : (site : ℕ) → IsFirstLost mid after back site → FailsToGive rack site
    fails_to_give site lost =
        let told : after.given ≡ option_map (λ told. told ++ lost.more) before.given =
        lost.given ∙ ap (λ (o : Option (List (ℕ × D))). option_map (λ told. told ++ lost.more) o) is.same_given in
        record {
          failed = (let l = is.level in let rose = lost.rose in omega (arith, l, rose));
          lacks = more_so before.given after.given lost.more (λ more. (d : D) → Contains more (site, d) → ⊥) told lost.lacks;
          before = λ i below.
              more_so before.given after.given lost.more (λ more. (d : D) × Contains more (i, d)) told (lost.others i below);
        }

    given_balances : AreGivenBack before after
    given_balances =
        balances_by before.given after.given is.gives.more
        (λ old new. old + after.taken + before.faults ≤ new + before.taken + after.faults) given
        (λ old.
        let a = is.many in
        let b = is.gives.taken in
        let c = is.level in
        let d = is.gives.lost in
        let f = is.long in
        omega (arith, a, b, c, d, f))

    handed_balances : AreHandedBack before after
    handed_balances =
        balances_by before.handed after.handed (numbered 0 back)
        (λ old new. old + after.taken ≡ new + before.taken) handed
        (λ old.
        let a = is.many in
        let b = is.gives.taken in
        let f = is.long in
        let n = numbered_long 0 back in
        omega (arith, a, b, f, n))

    pub balances : rack.balanced
    balances = (handed_balances, given_balances)

-- how many disks were taken is one number
pub one_count : {D : Type 0} (g : Ghosts D) (before after : RackAt D) (m n : ℕ) → (racked g before after).took m
    → (racked g before after).took n → m ≡ n
one_count g before after m n first second = omega (arith, first, second)

-- where no disk was taken, none is to be given back
pub none_balances : {D : Type 0} (g : Ghosts D) (before after : RackAt D) → after.given ≡ before.given
    → after.handed ≡ before.handed → after.taken ≡ before.taken → before.faults ≤ after.faults
    → (racked g before after).balanced
none_balances {D = D} g before after given handed taken most = (
  balances_by before.handed after.handed [] (λ old new. old + after.taken ≡ new + before.taken)
      (handed ∙ none_more before.handed) (λ old. omega (arith, taken)),
  balances_by before.given after.given []
      (λ old new. old + after.taken + before.faults ≤ new + before.taken + after.faults)
      (given ∙ none_more before.given) (λ old. omega (arith, taken, most)),
)

module _ {D : Type 0} (g : Ghosts D) (disks : Option (Option (List ℕ) → ℕ → D)) (i : ℕ) (disk : D)
    (taken : IfSome disks (λ take. disk ≡ take None i)) where
  -- where a rack tells its disks, the one that was taken tells what it holds
  pub told_reads : IsSome (bytes_of g disks i) → IsSome (g.known disk).reads
  told_reads told = by disks taken told
    where
      by : (ds : Option (Option (List ℕ) → ℕ → D)) → IfSome ds (λ take. disk ≡ take None i) → IsSome (bytes_of g ds i)
          → IsSome (g.known disk).reads
      by None taken told = absurd cc
      by (Some take) taken told = subst (λ (d : D). IsSome (g.known d).reads) (sym taken) told

  -- what the disk that was taken holds, that of the site does
  pub holds_taken : (P : List ℕ → Type 0) → IfSome (g.known disk).reads P → IfSome (bytes_of g disks i) P
  holds_taken P holds = by disks taken
    where
      by : (ds : Option (Option (List ℕ) → ℕ → D)) → IfSome ds (λ take. disk ≡ take None i) → IfSome (bytes_of g ds i) P
      by None taken = tt
      by (Some take) taken = subst (λ (d : D). IfSome (g.known d).reads P) taken holds
