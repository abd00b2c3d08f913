-- The report, and the trace behind it where it is asked for.
use Rattle.std.proofs.Common.{◌≡◌, ◌++◌, ℕ, Bool, true, false, List, All, length, refl, sym, ap, subst, ◌∙◌, append-nil}
use Rattle.std.proofs.lemmas.List.Elements.{All-nil}
use Rattle.walter_base.specs.declared.format.Format.{Format}
use Rattle.walter_rules.specs.declared.entry.Entry.{Entry}
use Rattle.walter_rules.specs.Merges.{Named, merge}
use Rattle.walter_scenario.specs.declared.scenario.Scenario.{Scenario}
use Rattle.walter_report.specs.Reports.{report_text}
use Rattle.walter_report.specs.Texts.{shown_of, text_of}
use Rattle.walter_report.specs.Traces.{HasSpellings, HaveSpellings, trace_lines}

text_both : (traced : Bool) (s : Scenario) (headers : List Format) (trails : List (List Entry))
    → report_text s trails ++ trace_lines (shown_of traced headers) (merge (shown_of traced trails))
    ≡ text_of traced s headers trails
text_both true s headers trails = refl
text_both false s headers trails = append-nil (report_text s trails)

-- so it is where the lines are those of these entries, and begin in these formats
pub text_whole : (traced : Bool) (s : Scenario) (headers : List Format) (trails : List (List Entry))
    (formats : List Format) (entries : List Named) → formats ≡ shown_of traced headers
    → entries ≡ merge (shown_of traced trails)
    → report_text s trails ++ trace_lines formats entries ≡ text_of traced s headers trails
text_whole traced s headers trails formats entries begin are =
    ap (λ (fs : List Format). report_text s trails ++ trace_lines fs entries) begin
    ∙ ap (λ (ns : List Named). report_text s trails ++ trace_lines (shown_of traced headers) ns) are
    ∙ text_both traced s headers trails

pub shown_all : {A : Type 0} (P : A → Type 0) (traced : Bool) (all : List A) → (traced ≡ true → All P all)
    → All P (shown_of traced all)
shown_all P true all holds = holds refl
shown_all P false all holds = All-nil P

-- of both are shown so many, where there are
pub shown_many : {A B : Type 0} (traced : Bool) (xs : List A) (ys : List B) → (traced ≡ true → length xs ≡ length ys)
    → length (shown_of traced xs) ≡ length (shown_of traced ys)
shown_many true xs ys many = many refl
shown_many false xs ys many = refl

pub shown_spelled : (traced : Bool) (headers : List Format) (trails : List (List Entry))
    → (traced ≡ true → length headers ≡ length trails) → (traced ≡ true → HaveSpellings (length trails) trails)
    → HaveSpellings (length (shown_of traced headers)) (shown_of traced trails)
shown_spelled true headers trails many have =
    subst (λ (sites : ℕ). HaveSpellings sites trails) (sym (many refl)) (have refl)
shown_spelled false headers trails many have = All-nil (λ trail. All (HasSpellings 0) trail)
