use Rattle.std.proofs.Common.{◌≡◌, ◌++◌, ℕ, List, slice_index, ap, append_assoc, ◌∙◌}
use Rattle.std.specs.Prelude.{codes}
use Rattle.std.specs.Fmt.{decimal}
use Rattle.walter_report.specs.Summaries.{column_part, columns_part}
use Rattle.walter_page.proofs.Going.{puts_as}
use Rattle.walter_report.proofs.summaries.put_columns.Goals as goal

-- one column more, whose word and number stand behind the text or together
more : (text front word count : List ℕ) → text ≡ front → text ++ word ++ count ≡ front ++ (word ++ count)
more text front word count is = append_assoc text word count ∙ ap (λ t. t ++ (word ++ count)) is

pub returns : goal.returns
returns g c =
    let counts = c.args.counts.now in
    let number = λ (k : ℕ). decimal (slice_index counts k) in
    let part = λ (word : List ℕ) (k : ℕ). column_part word (slice_index counts k) in
    let text0 = codes " started " ++ number 0 in
    let text1 = text0 ++ codes " ended " ++ number 1 in
    let text2 = text1 ++ codes " done " ++ number 2 in
    let text3 = text2 ++ codes " read " ++ number 3 in
    let text4 = text3 ++ codes " committed " ++ number 4 in
    let text5 = text4 ++ codes " aborted " ++ number 5 in
    let text6 = text5 ++ codes " deciding " ++ number 6 in
    let text7 = text6 ++ codes " level " ++ number 7 in
    let text8 = text7 ++ codes " unsure " ++ number 8 in
    let text9 = text8 ++ codes " refused " ++ number 9 in
    let front1 = text0 ++ part (codes "ended") 1 in
    let front2 = front1 ++ part (codes "done") 2 in
    let front3 = front2 ++ part (codes "read") 3 in
    let front4 = front3 ++ part (codes "committed") 4 in
    let front5 = front4 ++ part (codes "aborted") 5 in
    let front6 = front5 ++ part (codes "deciding") 6 in
    let front7 = front6 ++ part (codes "level") 7 in
    let front8 = front7 ++ part (codes "unsure") 8 in
    let is1 : text1 ≡ front1 = append_assoc text0 (codes " ended ") (number 1) in
    let is2 : text2 ≡ front2 = more text1 front1 (codes " done ") (number 2) is1 in
    let is3 : text3 ≡ front3 = more text2 front2 (codes " read ") (number 3) is2 in
    let is4 : text4 ≡ front4 = more text3 front3 (codes " committed ") (number 4) is3 in
    let is5 : text5 ≡ front5 = more text4 front4 (codes " aborted ") (number 5) is4 in
    let is6 : text6 ≡ front6 = more text5 front5 (codes " deciding ") (number 6) is5 in
    let is7 : text7 ≡ front7 = more text6 front6 (codes " level ") (number 7) is6 in
    let is8 : text8 ≡ front8 = more text7 front7 (codes " unsure ") (number 8) is7 in
    puts_as g.K.Sink.holds g.K.Sink.faults c.args.sink.now c.put_parts.new.sink c.args.page.now c.put_parts.new.page
    c.put_parts.result text9 (columns_part counts) (more text8 front8 (codes " refused ") (number 9) is8)
    c.put_parts.ensures
