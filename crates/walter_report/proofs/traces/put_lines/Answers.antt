use Rattle.std.proofs.Common.{◌≡◌, ◌≤◌, ◌<◌, ◌+◌, ℕ, List, All, length, drop, set, get_or, length-set, ap, sym, subst, ◌∙◌, arith}
use Rattle.std.proofs.lemmas.List.Elements.{All-get_or, All-set}
use Rattle.walter_base.specs.declared.format.Format.{Format}
use Rattle.walter_base.specs.declared.format.Format.TheVariants.{First}
use Rattle.walter_base.specs.Sizes.{most_in}
use Rattle.walter_rules.specs.Merges.{Named}
use Rattle.walter_report.specs.Traces.{HasSpellings, trace_line, trace_lines, format_of, formats_after}
use Rattle.walter_page.proofs.Going.{goes_on, goes_as, goes_err}
use Rattle.walter_report.proofs.Spelled.{are_spelled, fits_after}
use Rattle.walter_report.proofs.Traced.{trace_lines-drop_more}
use Rattle.walter_report.proofs.traces.put_lines.Goals as goal

-- the format in force at a site among so many has a place for each of them
has_place : (formats old : List Format) (place : ℕ) → length formats ≡ length old → place < length old
    → All (λ (f : Format). length old ≤ most_in f) formats → length old ≤ most_in (get_or formats place First)
has_place formats old place many there places =
    All-get_or (λ f. length old ≤ most_in f) formats place First (omega (arith, many, there)) places

-- the site of the entry at this place is one of those
is_there : (entries : List Named) (sites k : ℕ) (n : Named) → All (λ (n : Named). n.0.0 < sites) entries
    → k < length entries → n ≡ get_or entries k n → n.0.0 < sites
is_there entries sites k n there within is =
    subst (λ (m : Named). m.0.0 < sites) (sym is) (All-get_or (λ m. m.0.0 < sites) entries k n within there)

pub put_line-requires-clause-records : goal.put_line-requires-clause-records
put_line-requires-clause-records g c =
    let entries = c.args.entries.now in
    let old = c.args.formats.now in
    let formats = c.loop-site.formats in
    let k = c.loop-site.site-index in
    let n : Named = c.loop-site-item.result in
    let there = is_there entries (length old) k n c.requires.sites c.loop-site-test.true c.loop-site-item.is in
    let has = subst (λ (m : Named). HasSpellings (length old) m.1) (sym c.loop-site-item.is)
    (All-get_or (λ (m : Named). HasSpellings (length old) m.1) entries k n c.loop-site-test.true c.requires.records) in
    are_spelled (length old) (get_or formats n.0.0 First) n.1
    (has_place formats old n.0.0 c.loop-site.invariant.many there c.loop-site.invariant.places) has

pub returns-in_err-put_line : goal.returns-in_err-put_line
returns-in_err-put_line g c =
    let entries = c.args.entries.now in
    let formats = c.loop-site.formats in
    let k = c.loop-site.site-index in
    let n : Named = c.loop-site-item.result in
    goes_err {text = trace_line (format_of formats n.0) n} c.put_line.new.page c.from_residual.result
    c.from_residual.ensures.0 (trace_lines (formats_after formats n) (drop (k + 1) entries))
    (goes_as _ (trace_lines-drop_more formats entries k n n c.loop-site-test.true c.loop-site-item.is)
    c.loop-site.invariant.goes)
    c.in_err-put_line.ensures

pub loop-site-preserved : goal.loop-site-preserved
loop-site-preserved g c =
    let entries = c.args.entries.now in
    let old = c.args.formats.now in
    let formats = c.loop-site.formats in
    let k = c.loop-site.site-index in
    let n : Named = c.loop-site-item.result in
    let format = format_of formats n.0 in
    let there = is_there entries (length old) k n c.requires.sites c.loop-site-test.true c.loop-site-item.is in
    let next : formats_after formats n ≡ set formats n.0.0 c.format_after.result =
    ap (λ (f : Format). set formats n.0.0 f) (sym c.format_after.ensures) in
    record {
      goes = goes_as _ (ap (λ (fs : List Format). trace_lines fs (drop (k + 1) entries)) next)
          (goes_on {text = trace_line format n} {todo = trace_lines (formats_after formats n) (drop (k + 1) entries)}
          (goes_as _ (trace_lines-drop_more formats entries k n n c.loop-site-test.true c.loop-site-item.is)
          c.loop-site.invariant.goes)
          c.in_ok-put_line.ensures);
      many = length-set formats n.0.0 c.format_after.result ∙ c.loop-site.invariant.many;
      places = All-set (λ (f : Format). length old ≤ most_in f) formats n.0.0 c.format_after.result
          (subst (λ (f : Format). length old ≤ most_in f) (sym c.format_after.ensures)
          (fits_after (length old) n.1.came format
          (has_place formats old n.0.0 c.loop-site.invariant.many there c.loop-site.invariant.places)))
          c.loop-site.invariant.places;
    }
