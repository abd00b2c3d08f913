-- How the disks of one more site are taken from a rack, and given back to it.
use Rattle.std.proofs.Common.{◌≡◌, ℕ, suc, ◌+◌, ◌<◌, ◌≤◌, List, [], ◌∷◌, ◌++◌, length, slice_get, Option, Some, None, option_map, ap, sym, ◌∙◌, refl, subst, arith, inl, inr}
use Rattle.std.specs.Prelude.{Result, Ok, Err, OnOk, OnErr, IsOk, IfErr, IfSome, All, Contains}
use Rattle.std.specs.Result.{is_err}
use Rattle.std.proofs.lemmas.List.{append_assoc, length-append}
use Rattle.std.proofs.lemmas.List.Elements.{All-nil, All-push, All-weaker, All-contains, Contains-append_left, Contains-append_cases}
use Rattle.std.proofs.lemmas.Option.{slice_get_within}
use Rattle.walter_base.specs.declared.format.Format.{Format}
use Rattle.walter_base.specs.declared.format.Format.TheVariants.{First, Second}
use Rattle.walter_base.specs.Sizes.{most_in}
use Rattle.walter_disk.specs.Racks.{IsFresh}
use Rattle.walter_disk.specs.declared.disk.Disk.{Ghosts}
use Rattle.walter_psi.proofs.Lists.{slice_get-push_cases, slice_get-append_left, slice_get-push}
use Rattle.walter_cluster.proofs.Changes.{there_is}
use Rattle.walter_cli.specs.Disks.{AreTaken, AreGiven, IsFirstLost, lost_after}
use Rattle.walter_cli.specs.Racks.{RackAt, numbered}
use Rattle.walter_cli.proofs.Giving.{numbered_has, none_more}

numbered_more : {D : Type 0} (first : ℕ) (disks : List D) (disk : D)
    → numbered first (disks ++ disk ∷ []) ≡ numbered first disks ++ (first + length disks, disk) ∷ []
numbered_more first [] disk = ap (λ (n : ℕ). (n, disk) ∷ []) (let z : first ≡ first + 0 = omega arith in z)
numbered_more {D = D} first (d ∷ disks) disk =
    ap (λ (xs : List (ℕ × D)). (first, d) ∷ xs)
    (numbered_more (first + 1) disks disk
    ∙ ap (λ (n : ℕ). numbered (first + 1) disks ++ (n, disk) ∷ [])
    (let z : first + 1 + length disks ≡ first + suc (length disks) = omega arith in z))

numbered_last : {D : Type 0} (disks : List D) (disk : D)
    → numbered 0 (disks ++ disk ∷ []) ≡ numbered 0 disks ++ (length disks, disk) ∷ []
numbered_last disks disk =
    numbered_more 0 disks disk
    ∙ ap (λ (n : ℕ). numbered 0 disks ++ (n, disk) ∷ []) (let z : 0 + length disks ≡ length disks = omega arith in z)

told_more : {X : Type 0} (before : Option (List X)) (a b : List X)
    → option_map (λ told. told ++ b) (option_map (λ told. told ++ a) before) ≡ option_map (λ told. told ++ (a ++ b)) before
told_more None a b = refl
told_more (Some told) a b = ap (λ t. Some t) (append_assoc told a b)

module _ {D : Type 0} (a b c : RackAt D) where
  -- none was given back yet
  pub given_none : AreGiven a a 0 []
  given_none = record {
    more = [];
    handed = none_more a.handed;
    given = none_more a.given;
    those = All-nil _;
    taken = refl;
    same_disks = refl;
    level = omega arith;
    lost = omega arith;
    whole = λ same. refl;
    unfailing = λ enough. (refl, omega arith);
  }

  module _ (disks : List D) (disk : D) {T E : Type 0} (r : Result T E) (is : AreGiven a b 0 disks)
      (given : OnOk r (c.given ≡ option_map (λ told. told ++ (length disks, disk) ∷ []) b.given))
      (lost : OnErr r (c.given ≡ b.given))
      (handed : c.handed ≡ option_map (λ told. told ++ (length disks, disk) ∷ []) b.handed)
      (taken : c.taken ≡ b.taken)
      (same : c.disks ≡ b.disks)
      (level : OnOk r (c.faults ≡ b.faults))
      (rises : OnErr r (b.faults < c.faults))
      (sure : 0 < b.unfailing → IsOk r × (b.unfailing ≤ c.unfailing + 1)) where
    those_before : All (λ (it : ℕ × D). (i : ℕ) × (it.0 ≡ 0 + i) × (slice_get (disks ++ disk ∷ []) i ≡ Some it.1)) is.more
    those_before =
        All-weaker (λ (it : ℕ × D). (i : ℕ) × (it.0 ≡ 0 + i) × (slice_get disks i ≡ Some it.1))
        (λ (it : ℕ × D). (i : ℕ) × (it.0 ≡ 0 + i) × (slice_get (disks ++ disk ∷ []) i ≡ Some it.1))
        (λ it at. (at.0, at.1, slice_get-append_left disks (disk ∷ []) it.1 at.0 at.2)) is.more is.those

    handed_more : c.handed ≡ option_map (λ told. told ++ numbered 0 (disks ++ disk ∷ [])) a.handed
    handed_more =
        handed
        ∙ (ap (λ (o : Option (List (ℕ × D))). option_map (λ told. told ++ (length disks, disk) ∷ []) o) is.handed
        ∙ (told_more a.handed (numbered 0 disks) ((length disks, disk) ∷ [])
        ∙ ap (λ (more : List (ℕ × D)). option_map (λ told. told ++ more) a.handed) (sym (numbered_last disks disk))))

    ok_given : c.given ≡ option_map (λ told. told ++ (length disks, disk) ∷ []) b.given → c.faults ≡ b.faults
        → (length (disks ++ disk ∷ []) ≤ a.unfailing → (c.faults ≡ a.faults) × (a.unfailing ≤ c.unfailing + length (disks ++ disk ∷ [])))
        → AreGiven a c 0 (disks ++ disk ∷ [])
    ok_given is_given even unfailing = record {
      more = is.more ++ (length disks, disk) ∷ [];
      handed = handed_more;
      given = is_given ∙ (ap (λ (o : Option (List (ℕ × D))). option_map (λ told. told ++ (length disks, disk) ∷ []) o) is.given
          ∙ told_more a.given is.more ((length disks, disk) ∷ []));
      those = All-push (λ (it : ℕ × D). (i : ℕ) × (it.0 ≡ 0 + i) × (slice_get (disks ++ disk ∷ []) i ≡ Some it.1)) is.more
          (length disks, disk) those_before (length disks, (let z : length disks ≡ 0 + length disks = omega arith in z), slice_get-push disks disk);
      taken = taken ∙ is.taken;
      same_disks = same ∙ is.same_disks;
      level = (let l = is.level in omega (arith, l, even));
      lost = (let l = is.lost in
          let m = length-append disks (disk ∷ []) in
          let n = length-append is.more ((length disks, disk) ∷ []) in
          omega (arith, l, m, n, even));
      whole = λ whole.
          ap (λ (xs : List (ℕ × D)). xs ++ (length disks, disk) ∷ []) (is.whole (sym even ∙ whole))
          ∙ sym (numbered_last disks disk);
      unfailing = unfailing;
    }

    err_given : c.given ≡ b.given → b.faults < c.faults
        → (length (disks ++ disk ∷ []) ≤ a.unfailing → (c.faults ≡ a.faults) × (a.unfailing ≤ c.unfailing + length (disks ++ disk ∷ [])))
        → AreGiven a c 0 (disks ++ disk ∷ [])
    err_given is_given rose unfailing = record {
      more = is.more;
      handed = handed_more;
      given = is_given ∙ is.given;
      those = those_before;
      taken = taken ∙ is.taken;
      same_disks = same ∙ is.same_disks;
      level = (let l = is.level in omega (arith, l, rose));
      lost = (let l = is.lost in let m = length-append disks (disk ∷ []) in omega (arith, l, m, rose));
      whole = λ whole. absurd (let l = is.level in omega (arith, l, rose, whole));
      unfailing = unfailing;
    }

    -- one more disk was given back, or lost
    pub given_more : AreGiven a c 0 (disks ++ disk ∷ [])
    given_more = by r given lost level rises sure
      where
        by : (it : Result T E) → OnOk it (c.given ≡ option_map (λ told. told ++ (length disks, disk) ∷ []) b.given)
            → OnErr it (c.given ≡ b.given) → OnOk it (c.faults ≡ b.faults) → OnErr it (b.faults < c.faults)
            → (0 < b.unfailing → IsOk it × (b.unfailing ≤ c.unfailing + 1)) → AreGiven a c 0 (disks ++ disk ∷ [])
        by (Ok x) given lost even rose sure = ok_given given even (λ enough.
            let m = length-append disks (disk ∷ []) in
            let before = is.unfailing (omega (arith, m, enough)) in
            let left = before.1 in
            let sure_ = (sure (omega (arith, m, enough, left))).1 in
            (even ∙ before.0, omega (arith, m, left, sure_)))
        by (Err e) given lost even rose sure = err_given lost rose (λ enough.
            let m = length-append disks (disk ∷ []) in
            let before = is.unfailing (omega (arith, m, enough)) in
            let left = before.1 in
            let ok = (sure (omega (arith, m, enough, left))).0 in
            absurd cc)

    -- that of the next site is the first that was lost
    next_lost : b.faults ≡ a.faults → c.given ≡ b.given → b.faults < c.faults
        → IsFirstLost a c (disks ++ disk ∷ []) (length disks)
    next_lost even is_given rose = record {
      within = (let m = length-append disks (disk ∷ []) in omega (arith, m));
      rose = omega (arith, rose, even);
      more = is.more;
      given = is_given ∙ is.given;
      lacks = λ d there.
          (let at = All-contains (λ (it : ℕ × D). (i : ℕ) × (it.0 ≡ 0 + i) × (slice_get disks i ≡ Some it.1)) is.more
          (length disks, d) is.those there in
          let within = slice_get_within disks at.0 d at.2 in
          let e = at.1 in
          omega (arith, e, within));
      others = λ i below.
          let d = there_is disks i below in
          (d.0, subst (λ (xs : List (ℕ × D)). Contains xs (i, d.0)) (sym (is.whole even)) (numbered_has disks i d.0 d.1));
    }

    -- the first that was lost still is
    still_lost : (site : ℕ) → IsFirstLost a b disks site → b.faults ≤ c.faults → (more : List (ℕ × D))
        → c.given ≡ option_map (λ told. told ++ more) b.given → All (λ (it : ℕ × D). it.0 ≡ length disks) more
        → IsFirstLost a c (disks ++ disk ∷ []) site
    still_lost site first most more is_given those = record {
      within = (let w = first.within in let m = length-append disks (disk ∷ []) in omega (arith, w, m));
      rose = (let rose = first.rose in omega (arith, rose, most));
      more = first.more ++ more;
      given = is_given ∙ (ap (λ (o : Option (List (ℕ × D))). option_map (λ told. told ++ more) o) first.given
          ∙ told_more a.given first.more more);
      lacks = λ d there. elim (Contains-append_cases first.more more (site, d) there) [
        | inl before ↦ first.lacks d before
        | inr behind ↦
            let e = All-contains (λ (it : ℕ × D). it.0 ≡ length disks) more (site, d) those behind in
            let w = first.within in
            omega (arith, e, w)
      ];
      others = λ i below. let d = first.others i below in (d.0, Contains-append_left first.more more (i, d.0) d.1);
    }

    abbrev pub lost_now : Result (Unit {0}) ℕ → Result (Unit {0}) ℕ
    lost_now first = lost_after first (is_err r) (length disks)

    -- which one was lost first, with that of the next site
    pub lost_more : (first : Result (Unit {0}) ℕ) → OnOk first (b.faults ≡ a.faults) → IfErr first (IsFirstLost a b disks)
        → OnOk (lost_now first) (c.faults ≡ a.faults) × IfErr (lost_now first) (IsFirstLost a c (disks ++ disk ∷ []))
    lost_more first even lost_first = by r given lost level rises first even lost_first
      where
        by : (it : Result T E) → OnOk it (c.given ≡ option_map (λ told. told ++ (length disks, disk) ∷ []) b.given)
            → OnErr it (c.given ≡ b.given) → OnOk it (c.faults ≡ b.faults) → OnErr it (b.faults < c.faults)
            → (first : Result (Unit {0}) ℕ) → OnOk first (b.faults ≡ a.faults) → IfErr first (IsFirstLost a b disks)
            → OnOk (lost_after first (is_err it) (length disks)) (c.faults ≡ a.faults)
            × IfErr (lost_after first (is_err it) (length disks)) (IsFirstLost a c (disks ++ disk ∷ []))
        by (Ok x) given lost level rose (Ok done) even none = (level ∙ even, tt)
        by (Ok x) given lost level rose (Err site) none first = (
          tt,
          still_lost site first (omega (arith, level)) ((length disks, disk) ∷ []) given
              (All-push (λ (it : ℕ × D). it.0 ≡ length disks) [] (length disks, disk) (All-nil _) refl),
        )
        by (Err e) given lost level rose (Ok done) even none = (tt, next_lost even lost rose)
        by (Err e) given lost level rose (Err site) none first =
            (tt, still_lost site first (omega (arith, rose)) [] (lost ∙ none_more b.given) (All-nil _))

module _ {D : Type 0} (g : Ghosts D) (a b c : RackAt D) where
  -- none was taken yet
  pub taken_none : AreTaken g a a []
  taken_none = record {
    told = λ i disk at. absurd cc;
    fresh = λ i disk at. absurd cc;
    same_disks = refl;
    given = refl;
    handed = refl;
    taken = omega arith;
    faults = refl;
    unfailing = λ enough. omega arith;
  }

  -- one more was
  pub taken_more : (disks : List D) (disk : D) → AreTaken g a b disks
      → IfSome b.disks (λ take. disk ≡ take None (length disks)) → IsFresh (g.known disk) (g.may_leave disk)
      → c.disks ≡ b.disks → c.given ≡ b.given → c.handed ≡ b.handed → c.taken ≡ b.taken + 1 → c.faults ≡ b.faults
      → (0 < b.unfailing → b.unfailing ≤ c.unfailing + 1) → AreTaken g a c (disks ++ disk ∷ [])
  taken_more disks disk is told fresh same given handed taken level sure = record {
    told = λ i d at. elim (slice_get-push_cases disks disk d i at) [
      | inl before ↦ is.told i d before.1
      | inr last ↦
          subst (λ (o : Option (Option (List ℕ) → ℕ → D)). IfSome o (λ take. d ≡ take None i)) is.same_disks
          (subst (λ (x : D). IfSome b.disks (λ take. x ≡ take None i)) last.1
          (subst (λ (n : ℕ). IfSome b.disks (λ take. disk ≡ take None n)) (sym last.0) told))
    ];
    fresh = λ i d at. elim (slice_get-push_cases disks disk d i at) [
      | inl before ↦ is.fresh i d before.1
      | inr last ↦ subst (λ (x : D). IsFresh (g.known x) (g.may_leave x)) last.1 fresh
    ];
    same_disks = same ∙ is.same_disks;
    given = given ∙ is.given;
    handed = handed ∙ is.handed;
    taken = (let t = is.taken in let m = length-append disks (disk ∷ []) in omega (arith, taken, t, m));
    faults = level ∙ is.faults;
    unfailing = λ enough.
        (let m = length-append disks (disk ∷ []) in
        let before = is.unfailing (omega (arith, m, enough)) in
        let now = sure (omega (arith, m, enough, before)) in
        omega (arith, m, before, now));
  }

-- what is an Err is no Ok
pub err_never : {X E : Type 0} (r : Result X E) (e : E) → r ≡ Err e → IsOk r → ⊥
err_never (Ok x) e is ok = absurd cc
err_never (Err f) e is ok = absurd cc

-- no format has places for more sites than there may be
pub few_in : (format : Format) {n : ℕ} → n ≤ most_in format → n ≤ 16
few_in First few = omega (arith, few)
few_in Second few = few

-- of a rack of which thirty-two calls don't fail sixteen disks are taken and given back without a fault
pub sure_back : {D : Type 0} (g : Ghosts D) (a b c : RackAt D) (disks back : List D) → AreTaken g a b disks → AreGiven b c 0 back
    → length back ≡ length disks → length disks ≤ 16 → 32 ≤ a.unfailing → c.faults ≡ a.faults
sure_back g a b c disks back taken gives long few many =
    let left = taken.unfailing (omega (arith, few, many)) in
    let level = taken.faults in
    let even = (gives.unfailing (omega (arith, long, few, many, left))).0 in
    omega (arith, level, even)
