-- Values that are the spellings of arms, and of steps.
use Rattle.std.proofs.Common.{◌≡◌, ◌≢◌, ℕ, ◌+◌, ◌<◌, List, [], ◌∷◌, ◌++◌, length, take, codes, refl, sym, ap, ◌∙◌, arith}
use Rattle.std.specs.Prelude.{slice_index}
use Rattle.std.specs.List.{HoldsAt}
use Rattle.std.proofs.lemmas.List.{take-map}
use Rattle.std.proofs.lemmas.List.Elements.{All-push, All-take}
use Rattle.serde_json.specs.Data.{Data, string}
use Rattle.walter_scenario.specs.declared.place.Place.{Place}
use Rattle.walter_scenario.specs.declared.scenario.Arm.{Arm}
use Rattle.walter_scenario.specs.declared.scenario.Step.{Step}
use Rattle.walter_scenario.specs.declared.scenario.Step.TheVariants.{Call, Deliver, Advance, Tick, Upgrade, Stop, Restart, Pump, Arm as Armed}
use Rattle.walter_scenario.specs.Faults.{IsItem}
use Rattle.walter_scenario.specs.Parts.{whole, list, arm_items, arm_spelled, step_spelled, IsArm, IsStep, AreSpelled, AreArms, AreSteps}
use Rattle.walter_scenario.proofs.Spelling.{one_more, no_more, same_items}
use Rattle.walter_scenario.proofs.Wrong.{first_wrong}

abbrev pub HaveSpelled : {A : Type 0} (f : A → Data) (May : A → Type 0) → List Data → Type 0
HaveSpelled {A} f May values = (xs : List A) × AreSpelled f May values xs

-- one more item was read
pub item_more : {A : Type 0} (f : A → Data) (May : A → Type 0) (values : List Data) (i : ℕ) (xs : List A) (x : A)
    → i < length values → AreSpelled f May (take i values) xs
    → May x → HoldsAt (λ d. d ≡ f x) values i → AreSpelled f May (take (i + 1) values) (xs ++ x ∷ [])
item_more f May values i xs x h are there is = record {
  spelled = one_more f values i xs x h are.spelled is;
  within = All-push May xs x are.within there;
}

-- the value at the place spells no item
pub item_wrong : {A : Type 0} (f : A → Data) (May : A → Type 0) (name : ℕ → Place) (value : Data) (values : List Data)
    (i : ℕ) (xs : List A) → value ≡ list values
    → i < length values → AreSpelled f May (take i values) xs → HoldsAt (λ d. (x : A) → May x → d ≢ f x) values i
    → IsItem name (HaveSpelled f May) value (name i)
item_wrong f May name value values i xs e h are none = record {
  index = i;
  named = refl;
  wrong = first_wrong (HaveSpelled f May) value values i e h (xs, are)
      (λ more. no_more f May values i more.0 h more.1.spelled more.1.within none);
}

-- what is spelled in front is spelled
pub items_closed : {A : Type 0} (f : A → Data) (May : A → Type 0) (n : ℕ) (values : List Data)
    → HaveSpelled f May values → HaveSpelled f May (take n values)
items_closed f May n values have = (
  take n have.0,
  record {
    spelled = ap (λ vs. take n vs) have.1.spelled ∙ take-map f n have.0;
    within = All-take May n have.0 have.1.within;
  },
)

-- ---- what was spelled is told by its spelling

same_arm : (a b : Arm) → arm_spelled a ≡ arm_spelled b → a ≡ b
same_arm a b e =
    let site : a.site.0 ≡ b.site.0 = cc in
    let nth : a.nth ≡ b.nth = cc in
    let choice : a.choice ≡ b.choice = cc in
    λ i. record { site = record { 0 = site i }; nth = nth i; choice = choice i }

-- values spell one list of arms
pub same_arms : (sites : ℕ) (values : List Data) (a b : List Arm) → AreArms sites values a → AreArms sites values b
    → a ≡ b
same_arms sites values a b are be =
    same_items arm_spelled (IsArm sites) (λ x y p q e. same_arm x y e) a b are.within be.within
    (sym are.spelled ∙ be.spelled)

-- a step is its word, and the values behind it
abbrev word_of : Step → List ℕ
word_of (Call client) = codes "call"
word_of (Deliver to from nth) = codes "deliver"
word_of (Advance at from) = codes "advance"
word_of (Tick site) = codes "tick"
word_of (Upgrade site) = codes "upgrade"
word_of (Stop site) = codes "stop"
word_of (Restart site) = codes "restart"
word_of (Pump site) = codes "pump"
word_of (Armed arm) = codes "arm"

abbrev values_of : Step → List Data
values_of (Call client) = whole client ∷ []
values_of (Deliver to from nth) = whole to.0 ∷ whole from.0 ∷ whole nth ∷ []
values_of (Advance at from) = whole at.0 ∷ whole from.0 ∷ []
values_of (Tick site) = whole site.0 ∷ []
values_of (Upgrade site) = whole site.0 ∷ []
values_of (Stop site) = whole site.0 ∷ []
values_of (Restart site) = whole site.0 ∷ []
values_of (Pump site) = whole site.0 ∷ []
values_of (Armed arm) = arm_items arm

step_parts : (a : Step) → step_spelled a ≡ list (string (word_of a) ∷ values_of a)
step_parts (Call client) = refl
step_parts (Deliver to from nth) = refl
step_parts (Advance at from) = refl
step_parts (Tick site) = refl
step_parts (Upgrade site) = refl
step_parts (Stop site) = refl
step_parts (Restart site) = refl
step_parts (Pump site) = refl
step_parts (Armed arm) = refl

same_word : (a : Step) (word : List ℕ) (values : List Data) → list (string word ∷ values) ≡ step_spelled a
    → word ≡ word_of a
same_word a word values e =
    let is : list (string word ∷ values) ≡ list (string (word_of a) ∷ values_of a) = e ∙ step_parts a in
    cc

same_step_at : (a b : Step) → word_of a ≡ word_of b → step_spelled a ≡ step_spelled b → a ≡ b
same_step_at (Call m) (Call n) word e = let same : m ≡ n = cc in ap Call same
same_step_at (Deliver a b m) (Deliver c d n) word e =
    let to : a.0 ≡ c.0 = cc in
    let from : b.0 ≡ d.0 = cc in
    let nth : m ≡ n = cc in
    λ i. Deliver (record { 0 = to i }) (record { 0 = from i }) (nth i)
same_step_at (Advance a b) (Advance c d) word e =
    let at : a.0 ≡ c.0 = cc in
    let from : b.0 ≡ d.0 = cc in
    λ i. Advance (record { 0 = at i }) (record { 0 = from i })
same_step_at (Tick m) (Tick n) word e = let same : m.0 ≡ n.0 = cc in (λ i. Tick (record { 0 = same i }))
same_step_at (Upgrade m) (Upgrade n) word e = let same : m.0 ≡ n.0 = cc in (λ i. Upgrade (record { 0 = same i }))
same_step_at (Stop m) (Stop n) word e = let same : m.0 ≡ n.0 = cc in (λ i. Stop (record { 0 = same i }))
same_step_at (Restart m) (Restart n) word e = let same : m.0 ≡ n.0 = cc in (λ i. Restart (record { 0 = same i }))
same_step_at (Pump m) (Pump n) word e = let same : m.0 ≡ n.0 = cc in (λ i. Pump (record { 0 = same i }))
same_step_at (Armed a) (Armed b) word e =
    let arm : arm_spelled a ≡ arm_spelled b = cc in
    ap Armed (same_arm a b arm)
same_step_at a b word e = absurd (omega (arith, ap (λ w. slice_index w 0) word, ap (λ w. slice_index w 1) word))

same_step : (a b : Step) → step_spelled a ≡ step_spelled b → a ≡ b
same_step a b e = same_step_at a b (same_word b (word_of a) (values_of a) (sym (step_parts a) ∙ e)) e

-- where three values are no arm, the word of one in front of them makes no step
pub arms_nothing : (sites clients : ℕ) (site nth choice : Data)
    → ((arm : Arm) → IsArm sites arm → site ∷ nth ∷ choice ∷ [] ≢ arm_items arm)
    → (step : Step) → IsStep sites clients step
    → list (string (codes "arm") ∷ site ∷ nth ∷ choice ∷ []) ≢ step_spelled step
arms_nothing sites clients site nth choice none (Armed arm) is e = none arm is cc
arms_nothing sites clients site nth choice none step is e =
    let word = same_word step (codes "arm") (site ∷ nth ∷ choice ∷ []) e in
    absurd (omega (arith, ap (λ w. slice_index w 0) word, ap (λ w. slice_index w 1) word))

-- values spell one list of steps
pub same_steps : (sites clients : ℕ) (values : List Data) (a b : List Step) → AreSteps sites clients values a
    → AreSteps sites clients values b → a ≡ b
same_steps sites clients values a b are be =
    same_items step_spelled (IsStep sites clients) (λ x y p q e. same_step x y e) a b are.within be.within
    (sym are.spelled ∙ be.spelled)
