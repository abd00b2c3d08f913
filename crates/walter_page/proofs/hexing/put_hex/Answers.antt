use Rattle.std.proofs.Common.{◌≡◌, ◌++◌, ◌∙◌, ap, sym}
use Rattle.std.proofs.lemmas.List.{take-append-drop}
use Rattle.hex.specs.Hex.{encode_lower}
use Rattle.walter_page.proofs.Digits.{encode_lower-append}
use Rattle.walter_page.proofs.Going.{goes_on, goes_last, goes_as, goes_err}
use Rattle.walter_page.proofs.hexing.put_hex.Goals as goal

pub loop-left-preserved : goal.loop-left-preserved
loop-left-preserved g c =
    let left = c.loop-left.left.now in
    let front = c.split_at.result.0.now in
    let rest = c.split_at.result.1.now in
    let is : left ≡ front ++ rest =
    sym (take-append-drop 512 left) ∙ (λ i. sym c.split_at.ensures.front i ++ sym c.split_at.ensures.back i) in
    goes_on
    (goes_as (encode_lower front ++ encode_lower rest) (ap encode_lower is ∙ encode_lower-append front rest)
    c.loop-left.invariant)
    c.in_ok-put_short_hex.ensures

pub returns-in_err-put_short_hex : goal.returns-in_err-put_short_hex
returns-in_err-put_short_hex g c =
    let left = c.loop-left.left.now in
    let front = c.split_at.result.0.now in
    let rest = c.split_at.result.1.now in
    let is : left ≡ front ++ rest =
    sym (take-append-drop 512 left) ∙ (λ i. sym c.split_at.ensures.front i ++ sym c.split_at.ensures.back i) in
    goes_err c.put_short_hex.new.page c.from_residual.result c.from_residual.ensures.0 (encode_lower rest)
    (goes_as (encode_lower front ++ encode_lower rest) (ap encode_lower is ∙ encode_lower-append front rest)
    c.loop-left.invariant)
    c.in_err-put_short_hex.ensures

pub returns : goal.returns
returns g c =
    goes_last c.put_short_hex-2.new.sink c.put_short_hex-2.new.page c.put_short_hex-2.result c.loop-left.invariant
    c.put_short_hex-2.ensures
