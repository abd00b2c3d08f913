-- The items of a site are found: each start behind its front, in the order of the commits, and then the next record's.
use Rattle.std.proofs.Common.{◌≡◌, ◌≢◌, ◌+◌, ◌<◌, ◌≤◌, ℕ, zero, suc, nat_eq, List, [], ◌∷◌, ◌++◌, length, take, slice_get, Some, None, Result, Ok, Err, not, ◌&&◌, refl, ap, sym, ◌∙◌, subst, arith, inl, inr, true, false, if◌then◌else◌}
use Rattle.std.specs.Prelude.{Option, Bool, Contains, filter_map, flat_map, unwrap_or, IfSome, IfNone, IfOk}
use Rattle.std.specs.Global.{Vec}
use Rattle.std.specs.List.{list_any, range_with_len, cons_option}
use Rattle.std.specs.Option.{option_map_or}
use Rattle.std.proofs.lemmas.Bool.{cases_Bool, cases_eq, eq-eqb, eqb-true, and_parts}
use Rattle.std.proofs.lemmas.List.{append-nil, append_assoc, length-append}
use Rattle.std.proofs.lemmas.Option.{slice_get_within}
use Rattle.walter_base.specs.declared.catalog.Catalog.{Catalog}
use Rattle.walter_base.specs.declared.message.Record.{Record}
use Rattle.walter_base.specs.declared.message.Record.TheVariants.{Own}
use Rattle.walter_base.specs.declared.names.SiteId.{SiteId}
use Rattle.walter_base.specs.declared.transaction.Tx.{Tx}
use Rattle.walter_psi.proofs.Lists.{slice_get-push_cases}
use Rattle.walter_rules.proofs.Membership.{in_range}
use Rattle.walter_agreement.proofs.Lists.{take_push}
use Rattle.walter_alone.proofs.TestsPass.{some_pass}
use Rattle.walter_audit.specs.Circles.{AreQueues}
use Rattle.walter_audit.specs.Journals.{Journals, journals_of, are_counts, AreAmong}
use Rattle.walter_audit.specs.Orders.{Item, Starts, is_shortest, start_behind, item_of, items_behind, items, items_of}
use Rattle.walter_audit.specs.Queues.{IsFrontOf, StandsAt, IsStartAt, list_at, joined_at, joined}
use Rattle.walter_audit.specs.Starts.{AreFronts}
use Rattle.walter_audit.proofs.Clear.{none_any, one_shortest}
use Rattle.walter_audit.proofs.Fronts.{range_below}
use Rattle.walter_audit.proofs.Standing.{front_at, counts_alike, alike_counts, fronts_rise}
use Rattle.walter_audit.proofs.Written.{take_all}

not_equal : (a b : ℕ) → a ≢ b → nat_eq a b ≡ false
not_equal a b apart = elim (cases_Bool (nat_eq a b)) [
  | inl is ↦ absurd (apart (eqb-true a b is))
  | inr apart_is ↦ apart_is
]

pushed : {Y : Type 0} (o : Option Y) (a b c : List Y) → a ≡ b ++ c → cons_option o a ≡ cons_option o b ++ c
pushed None a b c e = e
pushed (Some z) a b c e = ap (λ rest. z ∷ rest) e

-- one element more
filter_push : {X Y : Type 0} (f : X → Option Y) (xs : List X) (x : X)
    → filter_map f (xs ++ x ∷ []) ≡ filter_map f xs ++ cons_option (f x) []
filter_push f [] x = refl
filter_push f (y ∷ ys) x = pushed (f y) (filter_map f (ys ++ x ∷ [])) (filter_map f ys) (cons_option (f x) []) (filter_push f ys x)

flat_more : {Y : Type 0} (f : ℕ → List Y) (a n : ℕ)
    → flat_map f (range_with_len a (suc n)) ≡ flat_map f (range_with_len a n) ++ f (a + n)
flat_more f a zero = append-nil (f a) ∙ ap f (omega arith)
flat_more f a (suc n) = ap (λ rest. f a ++ rest) (flat_more f (a + 1) n)
    ∙ (sym (append_assoc (f a) (flat_map f (range_with_len (a + 1) n)) (f (a + 1 + n)))
    ∙ ap (λ m. (f a ++ flat_map f (range_with_len (a + 1) n)) ++ f m) (omega arith))

flat_same : {Y : Type 0} (f g : ℕ → List Y) (a n : ℕ) → ((p : ℕ) → p < a + n → f p ≡ g p)
    → flat_map f (range_with_len a n) ≡ flat_map g (range_with_len a n)
flat_same f g a zero same = refl
flat_same f g a (suc n) same =
    let first = same a (omega arith) in
    let rest = flat_same f g (a + 1) n (λ p low. same p (omega (arith, low))) in
    λ t. first t ++ rest t

pub joined_more : (starts : List (Vec Item)) (records : List Record) (n : ℕ)
    → joined starts records (n + 1) ≡ joined starts records n ++ joined_at starts records n
joined_more starts records n =
    let next : n + 1 ≡ suc n = omega arith in
    let here : 0 + n ≡ n = omega arith in
    ap (λ m. joined starts records m) next ∙ (flat_more (joined_at starts records) 0 n
    ∙ ap (λ m. joined starts records n ++ joined_at starts records m) here)

-- behind each front the starts of the commits up to a place
pub record AreStartsTo (catalog : Catalog) (i : SiteId) (records : List Record) (upto : ℕ) (starts : List (Vec Item)) : Type 0 where
  pub many : length starts ≡ length records + 1
  pub each : (p : ℕ) → p ≤ length records
      → list_at starts p ≡ filter_map (start_behind catalog i records p) (take upto records)

module _ (catalog : Catalog) (i : SiteId) (records : List Record) (fronts : List (List ℕ))
    (F : AreFronts catalog.sites i records fronts) where
  abbrev IsAt : List ℕ → ℕ → Bool
  IsAt start q = are_counts catalog i (take q records) start

  -- no front before covers the start, so none is it
  shortest_there : (start : List ℕ) → length start ≡ catalog.sites → (p : ℕ) → p ≤ length records
      → IsFrontOf fronts start p → is_shortest catalog i records start p ≡ true
  shortest_there start size p low front =
      let is = counts_alike catalog i records fronts F p front.front start front.at front.within front.covered in
      let none : list_any (IsAt start) (range_with_len 0 p) ≡ false = none_any (IsAt start) (range_with_len 0 p) before in
      λ t. is t && not (none t)
    where
      before : (q : ℕ) → Contains (range_with_len 0 p) q → IsAt start q ≡ false
      before q within = elim (cases_Bool (IsAt start q)) [
        | inr other ↦ other
        | inl is ↦ absurd (
            let less = range_below 0 p q within in
            let v = front_at catalog i records fronts F q (omega (arith, less, low)) in
            let alike = alike_counts catalog i records fronts F q v.0 start size v.1 is in
            front.before q v.0 (omega (arith, less)) v.1 (λ k. let e = alike k in omega (arith, e)))
      ]

  not_shortest : (start : List ℕ) → length start ≡ catalog.sites → (p q : ℕ) → p ≤ length records
      → IsFrontOf fronts start p → p ≢ q → is_shortest catalog i records start q ≡ false
  not_shortest start size p q low front apart = elim (cases_Bool (is_shortest catalog i records start q)) [
    | inr other ↦ other
    | inl is ↦ absurd (apart (one_shortest catalog i records start p q (shortest_there start size p low front) is))
  ]

  none_shortest : (start : List ℕ) → length start ≡ catalog.sites → ((p : ℕ) → ¬ IsFrontOf fronts start p)
      → (q : ℕ) → q ≤ length records → is_shortest catalog i records start q ≡ false
  none_shortest start size none q low = elim (cases_Bool (is_shortest catalog i records start q)) [
    | inr other ↦ other
    | inl is ↦ absurd (
        let parts = and_parts (IsAt start q) (not (list_any (IsAt start) (range_with_len 0 q))) is in
        let v = front_at catalog i records fronts F q low in
        let alike = alike_counts catalog i records fronts F q v.0 start size v.1 parts.0 in
        none q (record {
          front = v.0;
          at = v.1;
          within = λ k. let e = alike k in omega (arith, e);
          covered = λ k. let e = alike k in omega (arith, e);
          before = λ r w less get covers.
              let up = fronts_rise catalog.sites i records fronts F r q w v.0 (omega (arith, less)) get v.1 in
              let here = counts_alike catalog i records fronts F r w start get covers
              (λ k. let e = alike k in let u = up k in omega (arith, e, u)) in
              let some = some_pass (IsAt start) (range_with_len 0 q) r (in_range 0 q r (omega arith) (omega (arith, less))) here in
              (let clash : false ≡ true = ap not (sym some) ∙ parts.1 in cc);
        }))
  ]

  pub starts_begun : (starts : List (Vec Item)) → length starts ≡ length fronts → ((p : ℕ) → list_at starts p ≡ [])
      → AreStartsTo catalog i records 0 starts
  starts_begun starts many none = record { many = (let m = F.many in omega (arith, many, m)); each = λ p low. none p }

  -- one record more, of which this start stands behind a front
  more_at : (upto : ℕ) (rec : Record) → slice_get records upto ≡ Some rec → (p : ℕ)
      → filter_map (start_behind catalog i records p) (take (upto + 1) records)
      ≡ filter_map (start_behind catalog i records p) (take upto records) ++ cons_option (start_behind catalog i records p rec) []
  more_at upto rec at p =
      let n : upto + 1 ≡ suc upto = omega arith in
      ap (λ m. filter_map (start_behind catalog i records p) (take m records)) n
      ∙ (ap (filter_map (start_behind catalog i records p)) (take_push records upto rec at)
      ∙ filter_push (start_behind catalog i records p) (take upto records) rec)

  stays_at : (upto : ℕ) (rec : Record) → slice_get records upto ≡ Some rec → (p : ℕ) → start_behind catalog i records p rec ≡ None
      → filter_map (start_behind catalog i records p) (take upto records)
      ≡ filter_map (start_behind catalog i records p) (take (upto + 1) records)
  stays_at upto rec at p none =
      sym (more_at upto rec at p
      ∙ (ap (λ o. filter_map (start_behind catalog i records p) (take upto records) ++ cons_option o []) none
      ∙ append-nil (filter_map (start_behind catalog i records p) (take upto records))))

  pub starts_own : (upto : ℕ) (starts new : List (Vec Item)) (seq : ℕ) (tx : Tx) (place : ℕ) (item : Item)
      → slice_get records upto ≡ Some (Own seq tx) → length tx.start ≡ catalog.sites → IsFrontOf fronts tx.start place
      → item ≡ Starts place tx → length new ≡ length starts
      → ((p : ℕ) → list_at new p ≡ (if nat_eq place p then list_at starts place ++ item ∷ [] else list_at starts p))
      → AreStartsTo catalog i records upto starts → AreStartsTo catalog i records (upto + 1) new
  starts_own upto starts new seq tx place item at size front is many put S = record {
    many = many ∙ S.many;
    each = λ p low. elim (cases_eq place p) [
      | inl same ↦
          let test : nat_eq place p ≡ true = eq-eqb place p same in
          let now : list_at new p ≡ list_at starts place ++ item ∷ [] =
          put p ∙ ap (λ b. if b then list_at starts place ++ item ∷ [] else list_at starts p) test in
          let there : IsFrontOf fronts tx.start p = subst (λ n. IsFrontOf fronts tx.start n) same front in
          let gives : start_behind catalog i records p (Own seq tx) ≡ Some (Starts p tx) =
          ap (λ b. if b then Some (Starts p tx) else None) (shortest_there tx.start size p low there) in
          let here : list_at starts place ++ item ∷ [] ≡ list_at starts p ++ Starts p tx ∷ [] =
          (λ t. list_at starts (same t) ++ (is ∙ ap (λ n. Starts n tx) same) t ∷ []) in
          now ∙ (here ∙ (ap (λ l. l ++ Starts p tx ∷ []) (S.each p low)
          ∙ (ap (λ o. filter_map (start_behind catalog i records p) (take upto records) ++ cons_option o []) (sym gives)
          ∙ sym (more_at upto (Own seq tx) at p))))
      | inr apart ↦
          let test : nat_eq place p ≡ false = not_equal place p apart in
          let now : list_at new p ≡ list_at starts p =
          put p ∙ ap (λ b. if b then list_at starts place ++ item ∷ [] else list_at starts p) test in
          let within = slice_get_within fronts place front.front front.at in
          let m = F.many in
          let gives : start_behind catalog i records p (Own seq tx) ≡ None =
          ap (λ b. if b then Some (Starts p tx) else None)
          (not_shortest tx.start size place p (omega (arith, within, m)) front apart) in
          now ∙ (S.each p low ∙ stays_at upto (Own seq tx) at p gives)
    ];
  }

  pub starts_other : (upto : ℕ) (starts : List (Vec Item)) (rec : Record) → slice_get records upto ≡ Some rec
      → AreAmong catalog.sites records → ((p : ℕ) → ¬ StandsAt fronts rec p) → AreStartsTo catalog i records upto starts
      → AreStartsTo catalog i records (upto + 1) starts
  starts_other upto starts rec at among none S = record {
    many = S.many;
    each = λ p low. S.each p low ∙ stays_at upto rec at p (gives rec at none p low);
  }
    where
      gives : (z : Record) → slice_get records upto ≡ Some z → ((p : ℕ) → ¬ StandsAt fronts z p) → (p : ℕ) → p ≤ length records
          → start_behind catalog i records p z ≡ None
      gives (Own seq tx) here never p low = ap (λ b. if b then Some (Starts p tx) else None)
          (none_shortest tx.start (among upto seq tx here) never p low)
      gives z here never p low = refl

  -- all of them
  pub starts_are : (upto : ℕ) (starts : List (Vec Item)) → length records ≤ upto → AreStartsTo catalog i records upto starts → (p : ℕ)
      → p ≤ length records → list_at starts p ≡ filter_map (start_behind catalog i records p) records
  starts_are upto starts past S p low =
      S.each p low ∙ ap (filter_map (start_behind catalog i records p)) (take_all records upto past)

pub joined_items : (catalog : Catalog) (i : SiteId) (records : List Record) (starts : List (Vec Item))
    → ((p : ℕ) → p ≤ length records → list_at starts p ≡ filter_map (start_behind catalog i records p) records)
    → joined starts records (length records + 1) ≡ items catalog i records
joined_items catalog i records starts each =
    flat_same (joined_at starts records) (items_behind catalog i records) 0 (length records + 1)
    (λ p low. ap (λ l. l ++ item_of p (slice_get records p)) (each p (omega (arith, low))))

-- the items of the sites up to one
pub record AreQueuesTo (catalog : Catalog) (J : Journals) (upto : ℕ) (queues : List (List Item)) : Type 0 where
  pub many : length queues ≡ upto
  pub each : (k : ℕ) (q : List Item) → slice_get queues k ≡ Some q → q ≡ items_of catalog J (record { 0 = k })

pub queue_more : (catalog : Catalog) (J : Journals) (upto : ℕ) (queues : List (List Item)) (q : List Item)
    → q ≡ items_of catalog J (record { 0 = upto }) → AreQueuesTo catalog J upto queues
    → AreQueuesTo catalog J (upto + 1) (queues ++ q ∷ [])
queue_more catalog J upto queues q is A = record {
  many = (let many = A.many in omega (arith, length-append queues (q ∷ []), many));
  each = λ k r get. elim (slice_get-push_cases queues q r k get) [
    | inl before ↦ A.each k r before.1
    | inr last ↦
        let place = last.0 in
        let many = A.many in
        let here : k ≡ upto = omega (arith, place, many) in
        sym last.1 ∙ (is ∙ ap (λ n. items_of catalog J (record { 0 = n })) (sym here))
  ];
}

pub queues_are : (catalog : Catalog) (all : List (List Record)) (upto : ℕ) (queues : List (List Item)) → length all ≤ upto
    → AreQueuesTo catalog (journals_of all) upto queues → AreQueues catalog (journals_of all) queues
queues_are catalog all upto queues past A k = by (slice_get queues k.0) refl
  where
    none : (xs : List (List Record)) (n : ℕ) → length xs ≤ n → unwrap_or (slice_get xs n) [] ≡ []
    none [] n low = refl
    none (x ∷ xs) zero low = absurd (omega (arith, low))
    none (x ∷ xs) (suc n) low = none xs n (omega (arith, low))

    beyond : (xs : List (List Item)) (n : ℕ) → slice_get xs n ≡ None → length xs ≤ n
    beyond [] n at = omega arith
    beyond (x ∷ xs) zero at = absurd cc
    beyond (x ∷ xs) (suc n) at = let rest = beyond xs n at in omega (arith, rest)

    by : (o : Option (List Item)) → slice_get queues k.0 ≡ o → unwrap_or (slice_get queues k.0) [] ≡ items_of catalog (journals_of all) k
    by (Some q) at = ap (λ o. unwrap_or o []) at ∙ A.each k.0 q at
    by None at =
        let many = A.many in
        let out = beyond queues k.0 at in
        let empty : journals_of all k ≡ [] = none all k.0 (omega (arith, past, many, out)) in
        ap (λ o. unwrap_or o []) at ∙ sym (ap (λ rs. items catalog k rs) empty)

-- behind the fronts so far, those of one more
pub joined_place : (starts : List (Vec Item)) (records : List Record) (p : ℕ) (list : Vec Item) (rec : Record)
    → slice_get starts p ≡ Some list → slice_get records p ≡ Some rec → (before middle after : List Item)
    → before ≡ joined starts records p → middle ≡ before ++ list.items → after ≡ middle ++ item_of p (Some rec)
    → after ≡ joined starts records (p + 1)
joined_place starts records p list rec at here before middle after is one two =
    two ∙ (ap (λ l. l ++ item_of p (Some rec)) (one ∙ ap (λ l. l ++ list.items) is)
    ∙ (append_assoc (joined starts records p) list.items (item_of p (Some rec))
    ∙ ((λ t. joined starts records p ++ (option_map_or (λ (l : Vec Item). l.items) (sym at t) [] ++ item_of p (sym here t)))
    ∙ sym (joined_more starts records p))))

pub joined_last : (starts : List (Vec Item)) (records : List Record) (p : ℕ) (list : Vec Item) → length records ≡ p
    → slice_get starts (length records) ≡ Some list → (before after : List Item) → before ≡ joined starts records p
    → after ≡ before ++ list.items → after ≡ joined starts records (length records + 1)
joined_last starts records p list end at before after is one =
    one ∙ (ap (λ l. l ++ list.items) (is ∙ ap (λ n. joined starts records n) (sym end))
    ∙ (ap (λ l. joined starts records (length records) ++ l)
    (sym (append-nil list.items) ∙ (λ t. option_map_or (λ (l : Vec Item). l.items) (sym at t) [] ++ item_of (length records) (sym (past records) t)))
    ∙ sym (joined_more starts records (length records))))
  where
    past : (rs : List Record) → slice_get rs (length rs) ≡ None
    past [] = refl
    past (r ∷ rs) = past rs

-- a start that is found has its place and its item
pub start_placed : (catalog : Catalog) (i : SiteId) (records : List Record) (fronts : List (List ℕ))
    (F : AreFronts catalog.sites i records fronts) → AreAmong catalog.sites records → (upto : ℕ) (starts new : List (Vec Item))
    (rec : Record) (place : ℕ) (item : Item) → slice_get records upto ≡ Some rec → IsStartAt fronts rec place item
    → length new ≡ length starts
    → ((p : ℕ) → list_at new p ≡ (if nat_eq place p then list_at starts place ++ item ∷ [] else list_at starts p))
    → AreStartsTo catalog i records upto starts → AreStartsTo catalog i records (upto + 1) new
start_placed catalog i records fronts F among upto starts new (Own seq tx) place item at start many put S =
    starts_own catalog i records fronts F upto starts new seq tx place item at (among upto seq tx at) start.0 start.1 many put S
start_placed catalog i records fronts F among upto starts new rec place item at start many put S = absurd start

pub start_within : (fronts : List (List ℕ)) (rec : Record) (place : ℕ) (item : Item) → IsStartAt fronts rec place item
    → place < length fronts
start_within fronts (Own seq tx) place item start = slice_get_within fronts place start.0.front start.0.at
start_within fronts rec place item start = absurd start

-- what is said of an option that is this
pub of_some : {X : Type 0} (P : X → Type 0) (o : Option X) (x : X) → o ≡ Some x → IfSome o P → P x
of_some P o x is holds = subst (λ z. IfSome z P) is holds

pub of_none : {X : Type 0} {P : Type 0} (o : Option X) → ((x : X) → o ≢ Some x) → IfNone o P → P
of_none None other p = p
of_none (Some x) other p = absurd (other x refl)

-- what is said of a value that is there follows of what is said of it already
pub ok_by : {A E : Type 0} (P Q : A → Type 0) → ((x : A) → P x → Q x) → (r : Result A E) → IfOk r P → IfOk r Q
ok_by P Q to (Ok x) p = to x p
ok_by P Q to (Err e) p = tt
