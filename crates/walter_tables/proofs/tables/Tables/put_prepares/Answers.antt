use Rattle.std.proofs.Common.{◌≡◌, ◌+◌, ◌++◌, ℕ, List, take, sym, ◌∙◌, ap, subst}
use Rattle.std.specs.Prelude.{flat_map}
use Rattle.std.proofs.lemmas.List.{take_all}
use Rattle.walter_base.specs.declared.packet.Packet.{Packet}
use Rattle.walter_slow.specs.Tables.{commit_of}
use Rattle.walter_tables.specs.Packets.{to_one, prepare_kept}
use Rattle.walter_tables.specs.Sites.{values_of, catalog_of}
use Rattle.walter_tables.proofs.Said.{put_more, one_more_number, rising_made, rests_out, prepares_none}
use Rattle.walter_tables.proofs.tables.Tables.put_prepares.Goals as goal

pub loop-slow-preserved : goal.loop-slow-preserved
unfolding values_of catalog_of
loop-slow-preserved c =
    let now = c.args.self.now in
    let place = c.loop-slow.slow-index in
    let told = c.busy-slow-items.ensures.numbers in
    let numbers = c.busy-slow-items.result.now in
    let start = c.args.sends.now.items in
    let f : ℕ → List Packet = λ m. prepare_kept now.catalog c.args.to m (commit_of now.slow m) in
    let before = subst (λ (all : List ℕ). c.loop-slow.sends.items ≡ start ++ to_one c.args.to (flat_map f (take place all))) (sym told) c.loop-slow.invariant in
    subst (λ (all : List ℕ). c.put_waiting.new.sends.items ≡ start ++ to_one c.args.to (flat_map f (take (place + 1) all))) told
    (put_more c.args.to start c.loop-slow.sends.items c.put_waiting.new.sends.items (flat_map f (take place numbers)) _ before c.in_ok-put_waiting.ensures
    ∙ ap (λ packets. start ++ to_one c.args.to packets) (sym (one_more_number f numbers place _ c.loop-slow-test.true)))

pub returns : goal.returns
unfolding values_of catalog_of
returns c =
    let now = c.args.self.now in
    let place = c.loop-slow.slow-index in
    let told = c.busy-slow-items.ensures.numbers in
    let numbers = c.busy-slow-items.result.now in
    let f : ℕ → List Packet = λ m. prepare_kept now.catalog c.args.to m (commit_of now.slow m) in
    c.loop-slow.invariant
    ∙ ap (λ packets. c.args.sends.now.items ++ to_one c.args.to packets)
    (ap (λ all. flat_map f (take place all)) (sym told)
    ∙ (ap (flat_map f) (take_all place numbers c.loop-slow-test.false ∙ told)
    ∙ rising_made f now.slow.last now.slow.busy c.busy-slow-items.ensures.rising
    (λ m out. prepares_none _ (rests_out now.slow c.busy-slow-items.ensures.busy m out) now.catalog c.args.to m)))
