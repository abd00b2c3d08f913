-- The lines of a trace, from one entry on.
use Rattle.std.proofs.Common.{◌≡◌, ℕ, ◌+◌, ◌<◌, List, ◌++◌, length, drop, get_or, sym, ap, ◌∙◌}
use Rattle.std.proofs.lemmas.List.{drop_more}
use Rattle.walter_base.specs.declared.format.Format.{Format}
use Rattle.walter_rules.specs.Merges.{Named}
use Rattle.walter_report.specs.Traces.{trace_line, trace_lines, format_of, formats_after}

pub trace_lines-drop_more : (formats : List Format) (entries : List Named) (k : ℕ) (n d : Named) → k < length entries
    → n ≡ get_or entries k d
    → trace_lines formats (drop k entries)
    ≡ trace_line (format_of formats n.0) n ++ trace_lines (formats_after formats n) (drop (k + 1) entries)
trace_lines-drop_more formats entries k n d within is =
    ap (trace_lines formats) (drop_more entries k d within)
    ∙ ap (λ m. trace_line (format_of formats m.0) m ++ trace_lines (formats_after formats m) (drop (k + 1) entries)) (sym is)
