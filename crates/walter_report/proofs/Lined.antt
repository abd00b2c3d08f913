-- Lines, one behind the other.
use Rattle.std.proofs.Common.{◌≡◌, ◌<◌, ◌+◌, ℕ, List, ◌++◌, length, drop, get_or, sym, ap, ◌∙◌}
use Rattle.std.proofs.lemmas.List.{drop_more}
use Rattle.walter_rules.specs.declared.entry.Entry.{Entry}
use Rattle.walter_report.specs.Sites.{site_line, site_lines}
use Rattle.walter_report.specs.Summaries.{count_line, count_lines}

-- the line of a site, and those of the sites behind it
pub site_next : (sites : ℕ) (trails : List (List Entry)) (k : ℕ) (trail here : List Entry) (n : ℕ)
    → k < length trails → trail ≡ get_or trails k trail → here ≡ trail → n ≡ sites
    → site_lines sites k (drop k trails) ≡ site_line n k here ++ site_lines sites (k + 1) (drop (k + 1) trails)
site_next sites trails k trail here n within are same many =
    ap (site_lines sites k) (drop_more trails k trail within)
    ∙ ap (λ (es : List Entry). site_line sites k es ++ site_lines sites (k + 1) (drop (k + 1) trails))
    (sym are ∙ sym same)
    ∙ ap (λ m. site_line m k here ++ site_lines sites (k + 1) (drop (k + 1) trails)) (sym many)

pub count_next : (trails : List (List Entry)) (k : ℕ) (trail here : List Entry) → k < length trails
    → trail ≡ get_or trails k trail → here ≡ trail
    → count_lines k (drop k trails) ≡ count_line k here ++ count_lines (k + 1) (drop (k + 1) trails)
count_next trails k trail here within are same =
    ap (count_lines k) (drop_more trails k trail within)
    ∙ ap (λ (es : List Entry). count_line k es ++ count_lines (k + 1) (drop (k + 1) trails)) (sym are ∙ sym same)
