use Rattle.std.proofs.Common.{◌++◌, length, map, ap, sym, append_assoc, ◌∙◌}
use Rattle.std.specs.Prelude.{codes}
use Rattle.std.specs.Fmt.{decimal}
use Rattle.walter_rules.specs.Knowledge.{site_at}
use Rattle.walter_report.specs.Sites.{records, is_got, is_seen, counts_text, log_pieces}
use Rattle.walter_page.specs.Words.{line_feed, listed}
use Rattle.walter_page.proofs.Going.{cuts, cut_more, cut_as, put_cut, put_as, put_then, put_last}
use Rattle.walter_report.proofs.sites.put_commits.Goals as goal

pub returns-in_err-put_counts : goal.returns-in_err-put_counts
returns-in_err-put_counts g c =
    let sites = length c.args.overview.now.got.items in
    let i = site_at c.args.site in
    let recs = records c.args.trail.now in
    let got = codes " got " ++ counts_text sites (is_got i) recs in
    cuts c.put_counts.new.page c.from_residual.result c.from_residual.ensures.0
    (cut_more line_feed (cut_more (listed (log_pieces i recs)) (cut_more (codes " log ")
    (cut_more (counts_text sites (is_seen i) recs) (cut_more (codes " committed ")
    (cut_as got (ap (λ ns. codes " got " ++ listed (map decimal ns)) (c.as_slice.ensures.value ∙ c.requires.got))
    c.in_err-put_counts.ensures))))))

pub returns-in_err-put_counts-2 : goal.returns-in_err-put_counts-2
returns-in_err-put_counts-2 g c =
    let sites = length c.args.overview.now.got.items in
    let i = site_at c.args.site in
    let recs = records c.args.trail.now in
    let got = codes " got " ++ counts_text sites (is_got i) recs in
    let committed = counts_text sites (is_seen i) recs in
    cuts c.put_counts-2.new.page c.from_residual-in_err-put_counts-2.result
    c.from_residual-in_err-put_counts-2.ensures.0
    (cut_more line_feed (cut_more (listed (log_pieces i recs)) (cut_more (codes " log ")
    (cut_as (got ++ codes " committed " ++ committed)
    (ap (λ ns. got ++ (codes " committed " ++ listed (map decimal ns))) (c.as_slice-2.ensures.value ∙ c.requires.seen)
    ∙ sym (append_assoc got (codes " committed ") committed))
    (put_cut
    (put_as got (ap (λ ns. codes " got " ++ listed (map decimal ns)) (c.as_slice.ensures.value ∙ c.requires.got))
    c.in_ok-put_counts.ensures) c.in_err-put_counts-2.ensures)))))

pub returns-in_err-put_log : goal.returns-in_err-put_log
returns-in_err-put_log g c =
    let sites = length c.args.overview.now.got.items in
    let i = site_at c.args.site in
    let recs = records c.args.trail.now in
    let got = codes " got " ++ counts_text sites (is_got i) recs in
    let committed = counts_text sites (is_seen i) recs in
    let both = got ++ codes " committed " ++ committed in
    let log = listed (log_pieces i recs) in
    cuts c.put_log.new.page c.from_residual-in_err-put_log.result c.from_residual-in_err-put_log.ensures.0
    (cut_more line_feed
    (cut_as (both ++ codes " log " ++ log) (sym (append_assoc both (codes " log ") log))
    (put_cut
    (put_as both
    (ap (λ ns. got ++ (codes " committed " ++ listed (map decimal ns))) (c.as_slice-2.ensures.value ∙ c.requires.seen)
    ∙ sym (append_assoc got (codes " committed ") committed))
    (put_then
    (put_as got (ap (λ ns. codes " got " ++ listed (map decimal ns)) (c.as_slice.ensures.value ∙ c.requires.got))
    c.in_ok-put_counts.ensures) c.in_ok-put_counts-2.ensures)) c.in_err-put_log.ensures)))

pub returns : goal.returns
returns g c =
    let sites = length c.args.overview.now.got.items in
    let i = site_at c.args.site in
    let recs = records c.args.trail.now in
    let got = codes " got " ++ counts_text sites (is_got i) recs in
    let committed = counts_text sites (is_seen i) recs in
    let both = got ++ codes " committed " ++ committed in
    let log = listed (log_pieces i recs) in
    put_last c.put.new.sink c.put.new.self line_feed c.put.result
    (put_as (both ++ codes " log " ++ log) (sym (append_assoc both (codes " log ") log))
    (put_then
    (put_as both
    (ap (λ ns. got ++ (codes " committed " ++ listed (map decimal ns))) (c.as_slice-2.ensures.value ∙ c.requires.seen)
    ∙ sym (append_assoc got (codes " committed ") committed))
    (put_then
    (put_as got (ap (λ ns. codes " got " ++ listed (map decimal ns)) (c.as_slice.ensures.value ∙ c.requires.got))
    c.in_ok-put_counts.ensures) c.in_ok-put_counts-2.ensures)) c.in_ok-put_log.ensures))
    c.put.ensures
