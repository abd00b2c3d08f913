use Rattle.std.proofs.Common.{◌≡◌, ◌++◌, ◌∙◌, sym}
use Rattle.std.proofs.lemmas.List.{take-append-drop}
use Rattle.walter_page.proofs.Going.{goes_on, goes_last, goes_as, goes_err}
use Rattle.walter_page.proofs.page.Page.put.Goals as goal

pub loop-left-preserved : goal.loop-left-preserved
loop-left-preserved g c =
    let left = c.loop-left.left.now in
    let front = c.split_at.result.0.now in
    let rest = c.split_at.result.1.now in
    let is : left ≡ front ++ rest =
    sym (take-append-drop 65536 left) ∙ (λ i. sym c.split_at.ensures.front i ++ sym c.split_at.ensures.back i) in
    goes_on (goes_as (front ++ rest) is c.loop-left.invariant) c.in_ok-put_short.ensures

pub returns-in_err-put_short : goal.returns-in_err-put_short
returns-in_err-put_short g c =
    let left = c.loop-left.left.now in
    let front = c.split_at.result.0.now in
    let rest = c.split_at.result.1.now in
    let is : left ≡ front ++ rest =
    sym (take-append-drop 65536 left) ∙ (λ i. sym c.split_at.ensures.front i ++ sym c.split_at.ensures.back i) in
    goes_err c.put_short.new.self c.from_residual.result c.from_residual.ensures.0 rest
    (goes_as (front ++ rest) is c.loop-left.invariant) c.in_err-put_short.ensures

pub returns : goal.returns
returns g c =
    goes_last c.put_short-2.new.sink c.put_short-2.new.self c.put_short-2.result c.loop-left.invariant c.put_short-2.ensures
