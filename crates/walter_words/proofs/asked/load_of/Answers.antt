use Rattle.std.proofs.Common.{◌≡◌, ◌∙◌, Some, codes, arith}
use Rattle.std.specs.Str.Parse.{ParsesUnsigned, ExplainsUnsignedError, HasUnsignedDigitsIfOk}
use Rattle.clap.specs.Words.{found_of}
use Rattle.clap.proofs.WalkLemmas.{one_text-rows}
use Rattle.walter_words.proofs.Asking.{number_read}
use Rattle.walter_words.proofs.asked.load_of.Goals as goal

pub returns-in_err-get_one : goal.returns-in_err-get_one
returns-in_err-get_one c = λ s t seed calls is is2 wrote wrote2 low high.
    let got : c.get_one.result ≡ Some seed =
    number_read _ (λ bs r. ParsesUnsigned 64 10 bs r × ExplainsUnsignedError 10 bs r × HasUnsignedDigitsIfOk bs r) 64 s seed c.get_one.result
    (c.get_one.ensures.value s (one_text-rows (found_of c.args.load.now) (codes "seed") ∙ is)) (λ u x g. g.0) wrote low in
    let was = c.in_err-get_one.was in
    cc

pub returns-in_err-get_one-2 : goal.returns-in_err-get_one-2
returns-in_err-get_one-2 c = λ s t seed calls is is2 wrote wrote2 low high.
    let got : c.get_one-2.result ≡ Some calls =
    number_read _ (λ bs r. ParsesUnsigned 32 10 bs r × ExplainsUnsignedError 10 bs r × HasUnsignedDigitsIfOk bs r) 32 t calls c.get_one-2.result
    (c.get_one-2.ensures.value t (one_text-rows (found_of c.args.load.now) (codes "calls") ∙ is2)) (λ u x g. g.0) wrote2 (omega (arith, high)) in
    let was = c.in_err-get_one-2.was in
    cc

pub returns : goal.returns
returns c = λ s t seed calls is is2 wrote wrote2 low high.
    let got : c.get_one.result ≡ Some seed =
    number_read _ (λ bs r. ParsesUnsigned 64 10 bs r × ExplainsUnsignedError 10 bs r × HasUnsignedDigitsIfOk bs r) 64 s seed c.get_one.result
    (c.get_one.ensures.value s (one_text-rows (found_of c.args.load.now) (codes "seed") ∙ is)) (λ u x g. g.0) wrote low in
    let got2 : c.get_one-2.result ≡ Some calls =
    number_read _ (λ bs r. ParsesUnsigned 32 10 bs r × ExplainsUnsignedError 10 bs r × HasUnsignedDigitsIfOk bs r) 32 t calls c.get_one-2.result
    (c.get_one-2.ensures.value t (one_text-rows (found_of c.args.load.now) (codes "calls") ∙ is2)) (λ u x g. g.0) wrote2 (omega (arith, high)) in
    let was = c.in_ok-get_one.was in
    let was2 = c.in_ok-get_one-2.was in
    cc
