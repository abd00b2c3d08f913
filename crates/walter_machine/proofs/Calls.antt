-- Which inputs may want memory: those of which a record comes, or packets.
use Rattle.std.proofs.Common.{◌≡◌, ℕ, zero, suc, Bool, true, false, [], Option, Some, None, Result, Ok, Err, refl, ap, sym, ◌∙◌, if◌then◌else◌, ◌⊎◌, inl, inr}
use Rattle.std.specs.Prelude.{◌≢◌, ℤ, not, is_some, OnErr}
use Rattle.std.specs.FinMap.{get}
use Rattle.walter_base.specs.declared.catalog.Catalog.{Catalog}
use Rattle.walter_base.specs.declared.format.Format.{Format}
use Rattle.walter_base.specs.declared.containers.Container.{Container}
use Rattle.walter_base.specs.declared.message.BadFrame.{BadFrame as Bad}
use Rattle.walter_base.specs.declared.message.Refusal.TheVariants.{WrongSite, NotIssued}
use Rattle.walter_base.specs.declared.message.Reply.TheVariants.{Count, Level}
use Rattle.walter_base.specs.declared.message.Request.{Request}
use Rattle.walter_base.specs.declared.message.Request.TheVariants.{Start, Read, Write, SetAdd, SetDel, SetRead, SetReadId, Commit, Abort, Level as LevelAsked}
use Rattle.walter_base.specs.declared.names.Kind.{Kind}
use Rattle.walter_base.specs.declared.names.Kind.TheVariants.{Regular, Cset}
use Rattle.walter_base.specs.declared.names.ObjId.{ObjId}
use Rattle.walter_base.specs.declared.names.SiteId.{SiteId}
use Rattle.walter_base.specs.declared.names.Tid.{Tid}
use Rattle.walter_base.specs.Names.{same_site}
use Rattle.walter_base.specs.Values.{count_of}
use Rattle.walter_site.specs.Members.{input_rule}
use Rattle.walter_rules.specs.declared.event.Event.TheVariants.{Given}
use Rattle.walter_rules.specs.declared.event.Input.{Input}
use Rattle.walter_rules.specs.declared.event.Input.TheVariants.{Call, Deliver, Advance, Tick, Upgrade}
use Rattle.walter_rules.specs.Calls.{Expected, call_rule, if_cset, if_counted, answers, refuses, tells_level, is_issued, level_of, read_updates}
use Rattle.walter_rules.specs.Knowledge.{Knowledge, session_of}
use Rattle.walter_rules.specs.Rule.{MayWant}
use Rattle.walter_rules.specs.Sessions.{Session}
use Rattle.walter_rules.specs.Trails.{TakesMemory}

-- neither a record comes of it, nor a packet
abbrev IsFree : Expected → Type 0
IsFree x = (x.wrote ≡ None) × (x.sends ≡ [])

if_free : (b : Bool) (x y : Expected) → IsFree x → IsFree y → IsFree (if b then x else y)
if_free true x y p q = p
if_free false x y p q = q

-- the count of an id, of a set that counts or of none
counted_free : (kind : Kind) (n : ℤ) → IsFree (if_counted kind (answers (Count n)))
counted_free Cset n = (refl, refl)
counted_free Regular n = (refl, refl)

count_free : (container : Option Container) (n : ℤ) → IsFree (if_cset container (answers (Count n)))
count_free None n = (refl, refl)
count_free (Some container) n = counted_free container.kind n

level_free : (catalog : Catalog) (i : SiteId) (K : Knowledge) (tid : Tid) → IsFree (tells_level catalog i K tid)
level_free catalog i K tid =
    let told = answers (Level (level_of catalog i K tid)) in
    if_free (not (same_site tid.site i)) (refuses WrongSite)
    (if is_issued K tid then told else refuses NotIssued) (refl, refl)
    (if_free (is_issued K tid) told (refuses NotIssued) (refl, refl) (refl, refl))

-- with a transaction that is open, or whose slow commit is begun
counts_free : (catalog : Catalog) (i : SiteId) (K : Knowledge) (oid : ObjId) (id n : ℕ) (s : Session) → s.slow ≡ n
    → IsFree (call_rule catalog i K (Ok (SetReadId oid id)) (Some s))
counts_free catalog i K oid id zero s slow =
    rw slow (count_free (get catalog.containers oid.container) (count_of oid id (read_updates K s)))
counts_free catalog i K oid id (suc n) s slow = rw slow (refl, refl)

abort_free : (catalog : Catalog) (i : SiteId) (K : Knowledge) (n : ℕ) (s : Session) → s.slow ≡ n
    → IsFree (call_rule catalog i K (Ok Abort) (Some s))
abort_free catalog i K zero s slow = rw slow (refl, refl)
abort_free catalog i K (suc n) s slow = rw slow (refl, refl)

-- a call brings neither, or may want memory
free_or_may : (catalog : Catalog) (i : SiteId) (K : Knowledge) (call : Result Request Bad) (session : Option Session)
    → IsFree (call_rule catalog i K call session) ⊎ MayWant call
free_or_may catalog i K (Err bad) session = inl (refl, refl)
free_or_may catalog i K (Ok Start) session = inr tt
free_or_may catalog i K (Ok (Read oid)) session = inr tt
free_or_may catalog i K (Ok (Write oid bytes)) session = inr tt
free_or_may catalog i K (Ok (SetAdd oid id)) session = inr tt
free_or_may catalog i K (Ok (SetDel oid id)) session = inr tt
free_or_may catalog i K (Ok (SetRead oid)) session = inr tt
free_or_may catalog i K (Ok (SetReadId oid id)) None = inl (refl, refl)
free_or_may catalog i K (Ok (SetReadId oid id)) (Some s) = inl (counts_free catalog i K oid id s.slow s refl)
free_or_may catalog i K (Ok Commit) session = inr tt
free_or_may catalog i K (Ok Abort) None = inl (refl, refl)
free_or_may catalog i K (Ok Abort) (Some s) = inl (abort_free catalog i K s.slow s refl)
free_or_may catalog i K (Ok (LevelAsked tid)) session = inl (level_free catalog i K tid)

free_or_takes : (header : Format) (catalog : Catalog) (i : SiteId) (K : Knowledge) (input : Input)
    → IsFree (input_rule header catalog i K input) ⊎ TakesMemory true (Given input)
free_or_takes header catalog i K (Call client call) = free_or_may catalog i K call (session_of K client)
free_or_takes header catalog i K (Deliver from number packet) = inr tt
free_or_takes header catalog i K (Advance from) = inr tt
free_or_takes header catalog i K Tick = inr tt
free_or_takes header catalog i K Upgrade = inr tt

module _ (header : Format) (catalog : Catalog) (i : SiteId) (K : Knowledge) (input : Input) (x : Expected)
    (planned : x ≡ input_rule header catalog i K input) where
  pub record_takes : is_some x.wrote ≡ true → TakesMemory true (Given input)
  record_takes some = elim (free_or_takes header catalog i K input) [
    | inl free ↦
        let none = ap (λ (x : Expected). is_some x.wrote) planned ∙ ap is_some free.0 in
        absurd (let e = sym some ∙ none in cc)
    | inr takes ↦ takes
  ]

  pub sends_take : x.sends ≢ [] → TakesMemory true (Given input)
  sends_take some = elim (free_or_takes header catalog i K input) [
    | inl free ↦ absurd (some (ap (λ (x : Expected). x.sends) planned ∙ free.1))
    | inr takes ↦ takes
  ]

-- what holds anyway holds of an error
pub on_err : {T E : Type 0} (r : Result T E) (P : Type 0) → P → OnErr r P
on_err (Ok x) P p = tt
on_err (Err e) P p = p
