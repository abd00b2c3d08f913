-- What a site journals where it is up and where it is down, and how many bytes are left behind one record more.
use Rattle.std.proofs.Common.{◌≡◌, ◌+◌, ◌-◌, ℕ, Bool, true, false, Option, Some, None, Ok, Err, List, [], ◌∷◌, ◌++◌, reverse, refl, ap, ◌∙◌, arith}
use Rattle.std.specs.Prelude.{sum_by}
use Rattle.std.proofs.lemmas.List.{reverse-append}
use Rattle.std.proofs.lemmas.List.Sums.{sum_by-cons, sum_by-append, sum_by_push}
use Rattle.walter_base.specs.declared.catalog.Catalog.{Catalog}
use Rattle.walter_base.specs.declared.format.Format.{Format}
use Rattle.walter_base.specs.declared.message.Record.{Record}
use Rattle.walter_base.specs.declared.message.Record.TheVariants.{Boot}
use Rattle.walter_base.specs.declared.names.SiteId.{SiteId}
use Rattle.walter_rules.proofs.Placed.{placed-push}
use Rattle.walter_rules.proofs.RulesAllowed.{rule_allowed}
use Rattle.walter_rules.specs.Allowed.{IsKind, boots}
use Rattle.walter_rules.specs.Layouts.{Layout, one_area, two_areas, header_of, Placed, placed, format_at, need_of, need_there, packed_size, before_boot, since_boot, packed_use, left_behind}
use Rattle.walter_rules.specs.Rule.{rule, restart_rule, rule_where, stop_rule}
use Rattle.walter_rules.specs.Standing.{Standing, up_after}
use Rattle.walter_rules.specs.declared.event.Event.{Event}
use Rattle.walter_rules.specs.declared.event.Event.TheVariants.{Given, Stop, Restart}
use Rattle.walter_rules.specs.declared.event.Input.{Input}
use Rattle.walter_rules.specs.declared.event.Input.TheVariants.{Call, Deliver, Advance, Tick, Upgrade}
use Rattle.walter_rules.specs.declared.outcome.Outcome.{Outcome}

-- any record but a Boot; a Boot
abbrev pub IsPlain : Record → Type 0
IsPlain (Boot epoch) = ⊥
IsPlain rec = Unit {0}

abbrev pub IsBoot : Record → Type 0
IsBoot (Boot epoch) = Unit {0}
IsBoot rec = ⊥

abbrev pub AnyPlain : Option Record → Type 0
AnyPlain None = Unit {0}
AnyPlain (Some rec) = IsPlain rec

abbrev pub AnyBoot : Option Record → Type 0
AnyBoot None = Unit {0}
AnyBoot (Some rec) = IsBoot rec

-- a site that is up brings no Boot
kind_plain : (catalog : Catalog) (i : SiteId) (S : Standing) (event : Event) (wrote : Option Record) (outcome : Outcome)
    → IsKind catalog i S event wrote outcome → S.up ≡ true → AnyPlain wrote
kind_plain catalog i S event wrote outcome (boots down) up = absurd (cc)
kind_plain catalog i S event wrote outcome kind up = tt

pub brings_plain : (header : Format) (catalog : Catalog) (i : SiteId) (S : Standing) (event : Event) → S.up ≡ true
    → AnyPlain (rule header catalog i S event).wrote
brings_plain header catalog i S event up =
    kind_plain catalog i S event (rule header catalog i S event).wrote (rule header catalog i S event).outcome
    (rule_allowed header catalog i S event).0.kind up

-- and one that is down nothing else
given_boot : (header : Format) (catalog : Catalog) (i : SiteId) (S : Standing) (up : Bool) (input : Input) → up ≡ false
    → AnyBoot (rule_where up header catalog i S input).wrote
given_boot header catalog i S true input down = absurd (cc)
given_boot header catalog i S false (Call client (Ok request)) down = tt
given_boot header catalog i S false (Call client (Err bad)) down = tt
given_boot header catalog i S false (Deliver from number packet) down = tt
given_boot header catalog i S false (Advance from) down = tt
given_boot header catalog i S false Tick down = tt
given_boot header catalog i S false Upgrade down = tt

stop_boot : (up : Bool) → AnyBoot (stop_rule up).wrote
stop_boot true = tt
stop_boot false = tt

restart_boot : (S : Standing) (up : Bool) → AnyBoot (restart_rule up S.knows).wrote
restart_boot S true = tt
restart_boot S false = tt

pub brings_boot : (header : Format) (catalog : Catalog) (i : SiteId) (S : Standing) (event : Event) → S.up ≡ false
    → AnyBoot (rule header catalog i S event).wrote
brings_boot header catalog i S (Given input) down = given_boot header catalog i S S.up input down
brings_boot header catalog i S Stop down = stop_boot S.up
brings_boot header catalog i S Restart down = restart_boot S S.up

-- one that is down and journals nothing stays down
given_stays : (header : Format) (catalog : Catalog) (i : SiteId) (S : Standing) (up : Bool) (input : Input) → up ≡ false
    → up_after (Given input) (rule_where up header catalog i S input).outcome false ≡ false
given_stays header catalog i S true input down = absurd (cc)
given_stays header catalog i S false (Call client (Ok request)) down = refl
given_stays header catalog i S false (Call client (Err bad)) down = refl
given_stays header catalog i S false (Deliver from number packet) down = refl
given_stays header catalog i S false (Advance from) down = refl
given_stays header catalog i S false Tick down = refl
given_stays header catalog i S false Upgrade down = refl

stop_stays : (up : Bool) → up ≡ false → up_after Stop (stop_rule up).outcome false ≡ false
stop_stays true down = absurd (cc)
stop_stays false down = refl

restart_stays : (S : Standing) (up : Bool) → up ≡ false → (restart_rule up S.knows).wrote ≡ None
    → up_after Restart (restart_rule up S.knows).outcome false ≡ false
restart_stays S true down none = absurd (cc)
restart_stays S false down none = absurd (cc)

pub stays_down : (header : Format) (catalog : Catalog) (i : SiteId) (S : Standing) (event : Event) → S.up ≡ false
    → (rule header catalog i S event).wrote ≡ None → up_after event (rule header catalog i S event).outcome false ≡ false
stays_down header catalog i S (Given input) down none = given_stays header catalog i S S.up input down
stays_down header catalog i S Stop down none = stop_stays S.up down
stays_down header catalog i S Restart down none = restart_stays S S.up down none

-- ---- the bytes in use

sum_reverse : (f : Placed → ℕ) (all : List Placed) → sum_by f (reverse all) ≡ sum_by f all
sum_reverse f [] = refl
sum_reverse f (it ∷ all) =
    omega (
      arith,
      ap (sum_by f) (reverse-append (it ∷ []) all),
      sum_by-append f (reverse all) (it ∷ []),
      sum_by-cons f it [],
      sum_by-cons f it all,
      sum_reverse f all,
    )

-- of records, the newest of which comes first
abbrev used : ℕ → List Placed → ℕ
used sites all = sum_by (packed_size sites) (before_boot all) + sum_by need_there (since_boot all)

plain_more : (sites : ℕ) (it : Placed) (older : List Placed) → IsPlain it.1
    → used sites (it ∷ older) ≡ used sites older + need_there it
plain_more sites (format, Boot epoch) older is = absurd is
plain_more sites (format, rec) older is = omega (arith, sum_by-cons need_there (format, rec) (since_boot older))

use_plain : (sites : ℕ) (all : List Placed) (it : Placed) → IsPlain it.1
    → packed_use sites true (all ++ it ∷ []) ≡ packed_use sites true all + need_there it
use_plain sites all it is = ap (used sites) (reverse-append all (it ∷ [])) ∙ plain_more sites it (reverse all) is

use_boot : (sites : ℕ) (all : List Placed) (it : Placed) → IsBoot it.1
    → packed_use sites true (all ++ it ∷ []) ≡ packed_use sites false all + need_there it
use_boot sites all (format, Boot epoch) is =
    ap (used sites) (reverse-append all ((format, Boot epoch) ∷ []))
    ∙ omega (arith, sum_reverse (packed_size sites) all, sum_by-cons need_there (format, Boot epoch) [])
use_boot sites all (format, rec) is = absurd is

use_more : (sites : ℕ) (all : List Placed) (it : Placed) (up : Bool) → (up ≡ true → IsPlain it.1)
    → (up ≡ false → IsBoot it.1)
    → packed_use sites true (all ++ it ∷ []) ≡ packed_use sites up all + need_there it
use_more sites all it true plain boot = use_plain sites all it (plain refl)
use_more sites all it false plain boot = use_boot sites all it (boot refl)

-- what a record takes of what is left where the site is up behind it
pub left_more : (layout : Layout) (S T : Standing) (rec : Record) → T.up ≡ true → T.records ≡ S.records ++ rec ∷ []
    → (S.up ≡ true → IsPlain rec) → (S.up ≡ false → IsBoot rec)
    → left_behind layout T ≡ left_behind layout S - need_of (format_at (header_of layout) S.records) rec
left_more (one_area capacity header) S T rec up records plain boot =
    let it : Placed = (format_at header S.records, rec) in
    omega (
      arith,
      ap (λ l. sum_by need_there (placed header l)) records,
      ap (sum_by need_there) (placed-push header S.records rec),
      sum_by_push need_there (placed header S.records) it,
    )
left_more (two_areas capacity sites header) S T rec up records plain boot =
    let it : Placed = (format_at header S.records, rec) in
    let more : packed_use sites T.up (placed header T.records) ≡ packed_use sites S.up (placed header S.records) + need_there it =
    ap (λ b. packed_use sites b (placed header T.records)) up
    ∙ ap (λ l. packed_use sites true (placed header l)) records
    ∙ ap (packed_use sites true) (placed-push header S.records rec)
    ∙ use_more sites (placed header S.records) it S.up plain boot in
    omega (arith, more)

-- what leaves the records, and a site up that was up, leaves as much
pub left_same : (layout : Layout) (S T : Standing) → T.up ≡ S.up → T.records ≡ S.records
    → left_behind layout T ≡ left_behind layout S
left_same (one_area capacity header) S T up records =
    omega (arith, ap (λ l. sum_by need_there (placed header l)) records)
left_same (two_areas capacity sites header) S T up records =
    let same : packed_use sites T.up (placed header T.records) ≡ packed_use sites S.up (placed header S.records) =
    ap (λ b. packed_use sites b (placed header T.records)) up
    ∙ ap (λ l. packed_use sites S.up (placed header l)) records in
    omega (arith, same)
