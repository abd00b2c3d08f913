-- What was read of the disks before one, and of that.
use Rattle.std.proofs.Common.{◌≡◌, ◌<◌, ◌+◌, zero, suc, ℕ, List, [], ◌∷◌, ◌++◌, length, slice_get, Some, refl, sym, ap, ◌∙◌, subst, inl, inr, arith}
use Rattle.std.specs.Prelude.{Result, Ok, Err, IfOk, IfErr}
use Rattle.std.proofs.lemmas.List.{length-append}
use Rattle.std.proofs.lemmas.Option.{slice_get_within}
use Rattle.walter_audit.specs.Reading.{held}
use Rattle.walter_audit.specs.declared.content.Content.{Content as Kept}
use Rattle.walter_disk.specs.declared.disk.Disk.{Ghosts}
use Rattle.walter_journal.specs.declared.fault.JournalFault.TheVariants.{NoMemory}
use Rattle.walter_psi.proofs.Lists.{slice_get-push_cases}
use Rattle.walter_inspect.specs.Inspections.{AreAllRead, AreOnlyRead, CanBeRead, IsFirstUnread, IsOnlyRead, IsReadAs, IsSoAt, IsUnread}
use Rattle.walter_inspect.specs.Nexts.{IsNextOf, IsNextUnread}
use Rattle.walter_inspect.specs.declared.inspecting.Unread.{Unread}
use Rattle.walter_inspect.proofs.Loaded.{untouched}

some_is : {X : Type 0} (x y : X) → Some x ≡ Some y → x ≡ y
some_is x y is = cc

some_at : {X : Type 0} (xs : List X) (i : ℕ) → i < length xs → (x : X) × (slice_get xs i ≡ Some x)
some_at [] i within = absurd (omega (arith, within))
some_at (x ∷ xs) zero within = (x, refl)
some_at (x ∷ xs) (suc i) within = some_at xs i (omega (arith, within))

-- what is so of a disk before one, or of that one, by its place
push_at : {D : Type 0} (old new : List D) (disk disk' : D) (i : ℕ) (P : D → D → Type 0) → length new ≡ length old
    → (i < length old → IsSoAt old new i P) → (i ≡ length old → P disk disk')
    → IsSoAt (old ++ disk ∷ []) (new ++ disk' ∷ []) i P
push_at old new disk disk' i P many before last = λ d d' at at'.
    elim (slice_get-push_cases old disk d i at) [
      | inl one ↦ elim (slice_get-push_cases new disk' d' i at') [
        | inl two ↦ before one.0 d d' one.1 two.1
        | inr two ↦ absurd (let w = one.0 in let e = two.0 in omega (arith, w, e, many))
      ]
      | inr one ↦ elim (slice_get-push_cases new disk' d' i at') [
        | inl two ↦ absurd (let w = two.0 in let e = one.0 in omega (arith, w, e, many))
        | inr two ↦ subst (λ x. P x d') one.1 (subst (λ x. P disk x) two.1 (last one.0))
      ]
    ]

module _ {D : Type 0} (g : Ghosts D) where
  pub only_none : AreOnlyRead g [] []
  only_none = record { many = refl; each = λ i d d' at. absurd (let w = slice_get_within [] i d at in omega (arith, w)) }

  pub only_same : (disks : List D) → AreOnlyRead g disks disks
  only_same disks = record {
    many = refl;
    each = λ i d d' at at'. subst (λ (x : D). IsOnlyRead g d x) (some_is d d' (sym at ∙ at')) (untouched g d);
  }

  pub only_more : (old new : List D) (disk disk' : D) → AreOnlyRead g old new → IsOnlyRead g disk disk'
      → AreOnlyRead g (old ++ disk ∷ []) (new ++ disk' ∷ [])
  only_more old new disk disk' is one = record {
    many = length-append new (disk' ∷ []) ∙ (ap (λ (n : ℕ). n + 1) is.many ∙ sym (length-append old (disk ∷ [])));
    each = λ i. push_at old new disk disk' i (IsOnlyRead g) is.many (λ within. is.each i) (λ here. one);
  }

  pub all_none : (capacity sites : ℕ) → AreAllRead g capacity sites [] [] []
  all_none capacity sites = record {
    many = refl;
    each = λ i content at. absurd (let w = slice_get_within [] i content at in omega (arith, w));
  }

  -- without memory for the disks none is looked at
  pub unread_at_first : (capacity sites : ℕ) (disks : List D) → 0 < length disks
      → IsFirstUnread g capacity sites disks disks (record { site = 0; why = NoMemory })
  unread_at_first capacity sites disks some = record {
    within = some;
    why = λ d d' at at'. ap (λ (x : D). (g.known x).faults) (some_is d' d (sym at' ∙ at));
    before = λ i low. absurd (omega (arith, low));
    behind = λ i high d d' at at'. some_is d' d (sym at' ∙ at);
  }

  module _ (capacity sites : ℕ) (old new : List D) (disk disk' : D) (many : length new ≡ length old) where
    longer : length (old ++ disk ∷ []) ≡ length old + 1
    longer = length-append old (disk ∷ [])

    -- one more journal was read
    all_more : (before after : List Kept) → AreAllRead g capacity sites old new before
        → IsNextOf g capacity sites disk disk' before after
        → AreAllRead g capacity sites (old ++ disk ∷ []) (new ++ disk' ∷ []) after
    all_more before after is next = record {
      many = ap length next.behind ∙ (length-append before (next.content ∷ []) ∙ (ap (λ (n : ℕ). n + 1) is.many ∙ sym longer));
      each = λ i content at.
          let cases = slice_get-push_cases before next.content content i
          (sym (ap (λ (cs : List Kept). slice_get cs i) next.behind) ∙ at) in
          push_at old new disk disk' i (λ d d'. IsReadAs g capacity sites d d' (held content)) many
          (λ within. elim cases [
            | inl here ↦ is.each i content here.1
            | inr here ↦ absurd (let e = here.0 in let m = is.many in omega (arith, e, m, within))
          ])
          (λ last. elim cases [
            | inl here ↦ absurd (let w = here.0 in let m = is.many in omega (arith, w, m, last))
            | inr here ↦ subst (λ (c : Kept). IsReadAs g capacity sites disk disk' (held c)) here.1 next.read
          ]);
    }

    -- it is the first that can't be read
    unread_now : (before : List Kept) (unread : Unread) → AreAllRead g capacity sites old new before
        → IsNextUnread g capacity sites disk disk' (length old) unread
        → IsFirstUnread g capacity sites (old ++ disk ∷ []) (new ++ disk' ∷ []) unread
    unread_now before unread is next =
        let names = next.names in record {
          within = omega (arith, names, longer);
          why = push_at old new disk disk' unread.site (λ d d'. IsUnread g capacity sites d d' unread.why) many
              (λ within. absurd (omega (arith, names, within))) (λ last. next.why);
          before = λ i low. push_at old new disk disk' i (CanBeRead g capacity sites) many
              (λ within d d' at at'.
              let m = is.many in
              let content = some_at before i (omega (arith, within, m)) in
              (held content.0, is.each i content.0 content.1 d d' at at'))
              (λ last. absurd (omega (arith, names, low, last)));
          behind = λ i high. push_at old new disk disk' i (λ d d'. d' ≡ d) many
              (λ within. absurd (omega (arith, names, high, within))) (λ last. absurd (omega (arith, names, high, last)));
        }

    -- another was
    unread_still : (unread : Unread) → IsFirstUnread g capacity sites old new unread → disk' ≡ disk
        → IsFirstUnread g capacity sites (old ++ disk ∷ []) (new ++ disk' ∷ []) unread
    unread_still unread is same =
        let low = is.within in record {
          within = omega (arith, low, longer);
          why = push_at old new disk disk' unread.site (λ d d'. IsUnread g capacity sites d d' unread.why) many
              (λ within. is.why) (λ last. absurd (omega (arith, low, last)));
          before = λ i less. push_at old new disk disk' i (CanBeRead g capacity sites) many
              (λ within. is.before i less) (λ last. absurd (omega (arith, low, less, last)));
          behind = λ i high. push_at old new disk disk' i (λ d d'. d' ≡ d) many (λ within. is.behind i high) (λ last. same);
        }

    -- what was read so far, and of one disk more
    pub grows : {V : Type 0} (items : V → List Kept) (read now : Result V Unread)
        → IfOk read (λ contents. AreAllRead g capacity sites old new (items contents))
        → IfErr read (IsFirstUnread g capacity sites old new)
        → IfOk read (λ contents. IfOk now (λ so_far. IsNextOf g capacity sites disk disk' (items contents) (items so_far)))
        → IfOk read (λ contents. IfErr now (IsNextUnread g capacity sites disk disk' (length old)))
        → IfErr read (λ unread. (disk' ≡ disk) × (now ≡ Err unread))
        → IfOk now (λ contents. AreAllRead g capacity sites (old ++ disk ∷ []) (new ++ disk' ∷ []) (items contents))
        × IfErr now (IsFirstUnread g capacity sites (old ++ disk ∷ []) (new ++ disk' ∷ []))
    grows items (Ok contents) (Ok so_far) is wrong next unread stays =
        (all_more (items contents) (items so_far) is next, tt)
    grows items (Ok contents) (Err why) is wrong next unread stays = (tt, unread_now (items contents) why is unread)
    grows items (Err why) (Ok so_far) is wrong next unread stays = absurd (let e = stays.1 in cc)
    grows items (Err why) (Err told) is wrong next unread stays =
        let e = stays.1 in
        let same : why ≡ told = cc in
        (tt, subst (IsFirstUnread g capacity sites (old ++ disk ∷ []) (new ++ disk' ∷ [])) same (unread_still why wrong stays.0))
