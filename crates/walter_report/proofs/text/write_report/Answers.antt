use Rattle.std.proofs.Common.{◌≡◌, ◌<◌, ◌++◌, ℕ, List, All, length, append-nil, ap, refl, sym, subst, ◌∙◌}
use Rattle.walter_base.specs.declared.format.Format.{Format}
use Rattle.walter_reply.specs.Replies.{FitsFrame}
use Rattle.walter_rules.specs.declared.entry.Entry.{Entry}
use Rattle.walter_rules.specs.Merges.{Named, merge}
use Rattle.walter_report.specs.Reports.{reply_in, report_text}
use Rattle.walter_report.specs.Texts.{shown_of, text_of}
use Rattle.walter_report.specs.Traces.{HasSpellings, HaveSpellings, trace_lines}
use Rattle.walter_page.proofs.Going.{cut_more, cut_as, put_cut, put_as, put_then, written, unwritten}
use Rattle.walter_report.proofs.Merged.{All-merge, merge_below}
use Rattle.walter_report.proofs.Shown.{text_whole, shown_all, shown_many, shown_spelled}
use Rattle.walter_report.proofs.text.write_report.Goals as goal

pub put_lines-requires-clause-sites : goal.put_lines-requires-clause-sites
put_lines-requires-clause-sites g c =
    let traced = c.args.traced in
    let headers = c.args.headers.now in
    let trails = c.args.trails.now in
    let formats = c.deref_mut.result.now in
    let shown = shown_of traced trails in
    let begin : formats ≡ shown_of traced headers = c.deref_mut.ensures.value ∙ c.in_ok-formats.ensures in
    let entries : c.as_slice.result.now ≡ merge shown =
    c.as_slice.ensures ∙ c.in_ok-merged.ensures ∙ ap merge c.shown.ensures in
    let many : length formats ≡ length shown =
    ap length begin ∙ shown_many traced headers trails (λ told. (c.requires.headers told).0) in
    subst (λ (ns : List Named). All (λ n. n.0.0 < length formats) ns) (sym entries)
    (subst (λ (sites : ℕ). All (λ (n : Named). n.0.0 < sites) (merge shown)) (sym many) (merge_below shown))

pub put_lines-requires-clause-frames : goal.put_lines-requires-clause-frames
put_lines-requires-clause-frames g c =
    let traced = c.args.traced in
    let trails = c.args.trails.now in
    let fits = λ (e : Entry). All FitsFrame (reply_in e.came.outcome) in
    let entries : c.as_slice.result.now ≡ merge (shown_of traced trails) =
    c.as_slice.ensures ∙ c.in_ok-merged.ensures ∙ ap merge c.shown.ensures in
    subst (λ (ns : List Named). All (λ n. fits n.1) ns) (sym entries)
    (All-merge fits (shown_of traced trails) (shown_all (λ es. All fits es) traced trails (λ told. c.requires.frames)))

pub put_lines-requires-clause-records : goal.put_lines-requires-clause-records
put_lines-requires-clause-records g c =
    let traced = c.args.traced in
    let headers = c.args.headers.now in
    let trails = c.args.trails.now in
    let formats = c.deref_mut.result.now in
    let shown = shown_of traced trails in
    let begin : formats ≡ shown_of traced headers = c.deref_mut.ensures.value ∙ c.in_ok-formats.ensures in
    let entries : c.as_slice.result.now ≡ merge shown =
    c.as_slice.ensures ∙ c.in_ok-merged.ensures ∙ ap merge c.shown.ensures in
    let spelled : HaveSpellings (length formats) shown =
    subst (λ (fs : List Format). HaveSpellings (length fs) shown) (sym begin)
    (shown_spelled traced headers trails (λ told. (c.requires.headers told).0) c.requires.records) in
    subst (λ (ns : List Named). All (λ n. HasSpellings (length formats) n.1) ns) (sym entries)
    (All-merge (HasSpellings (length formats)) shown spelled)

pub returns-in_err-put_report-clause-fault : goal.returns-in_err-put_report-clause-fault
returns-in_err-put_report-clause-fault g c =
    let s = c.args.scenario.now in
    let traced = c.args.traced in
    let headers = c.args.headers.now in
    let trails = c.args.trails.now in
    let formats = shown_of traced headers in
    let entries = merge (shown_of traced trails) in
    unwritten c.from_residual-in_err-put_report.result c.from_residual-in_err-put_report.ensures.1 c.in_ok-page.ensures
    (cut_as (text_of traced s headers trails) (text_whole traced s headers trails formats entries refl refl)
    (cut_more (trace_lines formats entries) c.in_err-put_report.ensures))

pub returns-in_err-put_lines-clause-fault : goal.returns-in_err-put_lines-clause-fault
returns-in_err-put_lines-clause-fault g c =
    let s = c.args.scenario.now in
    let traced = c.args.traced in
    let headers = c.args.headers.now in
    let trails = c.args.trails.now in
    let formats = c.deref_mut.result.now in
    let begin : formats ≡ shown_of traced headers = c.deref_mut.ensures.value ∙ c.in_ok-formats.ensures in
    let entries : c.as_slice.result.now ≡ merge (shown_of traced trails) =
    c.as_slice.ensures ∙ c.in_ok-merged.ensures ∙ ap merge c.shown.ensures in
    unwritten c.from_residual-in_err-put_lines.result c.from_residual-in_err-put_lines.ensures.1 c.in_ok-page.ensures
    (cut_as (text_of traced s headers trails)
    (text_whole traced s headers trails formats c.as_slice.result.now begin entries)
    (put_cut c.in_ok-put_report.ensures c.in_err-put_lines.ensures))

pub returns-in_err-flush-clause-fault : goal.returns-in_err-flush-clause-fault
returns-in_err-flush-clause-fault g c =
    let s = c.args.scenario.now in
    let traced = c.args.traced in
    let headers = c.args.headers.now in
    let trails = c.args.trails.now in
    let formats = c.deref_mut.result.now in
    let begin : formats ≡ shown_of traced headers = c.deref_mut.ensures.value ∙ c.in_ok-formats.ensures in
    let entries : c.as_slice.result.now ≡ merge (shown_of traced trails) =
    c.as_slice.ensures ∙ c.in_ok-merged.ensures ∙ ap merge c.shown.ensures in
    unwritten c.from_residual-in_err-flush.result c.from_residual-in_err-flush.ensures.1 c.in_ok-page.ensures
    (cut_as (text_of traced s headers trails)
    (append-nil (report_text s trails ++ trace_lines formats c.as_slice.result.now)
    ∙ text_whole traced s headers trails formats c.as_slice.result.now begin entries)
    (put_cut (put_then c.in_ok-put_report.ensures c.in_ok-put_lines.ensures) c.in_err-flush.ensures.put))

pub returns-clause-ok : goal.returns-clause-ok
returns-clause-ok g c =
    let s = c.args.scenario.now in
    let traced = c.args.traced in
    let headers = c.args.headers.now in
    let trails = c.args.trails.now in
    let formats = c.deref_mut.result.now in
    let begin : formats ≡ shown_of traced headers = c.deref_mut.ensures.value ∙ c.in_ok-formats.ensures in
    let entries : c.as_slice.result.now ≡ merge (shown_of traced trails) =
    c.as_slice.ensures ∙ c.in_ok-merged.ensures ∙ ap merge c.shown.ensures in
    written c.in_ok-page.ensures c.in_ok-flush.ensures.none
    (put_as (text_of traced s headers trails)
    (text_whole traced s headers trails formats c.as_slice.result.now begin entries)
    (put_then c.in_ok-put_report.ensures c.in_ok-put_lines.ensures))
    c.in_ok-flush.ensures.put
