use Rattle.std.proofs.Common.{◌≡◌, ◌++◌, ◌∙◌, ap}
use Rattle.std.specs.Prelude.{ℕ}
use Rattle.std.proofs.lemmas.Result.{on_ok_weaker}
use Rattle.walter_base.specs.declared.packet.Packet.TheVariants.{Ack, Dsmark, Visible}
use Rattle.walter_base.specs.Vectors.{entry_at}
use Rattle.walter_rules.specs.Sending.{if_some}
use Rattle.walter_tables.specs.Packets.{to_one, commits_of, numbers_in, prepares_kept, releases_kept, said_packets}
use Rattle.walter_tables.specs.Sites.{values_of, catalog_of}
use Rattle.walter_tables.proofs.Said.{six_put}
use Rattle.walter_tables.proofs.tables.Tables.put_again.Goals as goal

pub returns : goal.returns
unfolding values_of catalog_of
returns c =
    let V = values_of c.args.self.now in
    let k = c.args.to in
    let mark = c.args.durable in
    let received = c.get-received.result in
    let committed = c.get-committed.result in
    let got_is : received ≡ entry_at V.spread.got k =
    c.get-received.ensures ∙ ap (λ v. entry_at v k) c.got.ensures.got in
    let committed_is : committed ≡ entry_at V.spread.committed k =
    c.get-committed.ensures ∙ ap (λ v. entry_at v k) c.committed.ensures in
    let before = c.args.sends.now.items in
    let after = c.put_releases.new.sends.items in
    on_ok_weaker {Q = after ≡ before ++ to_one k (said_packets V mark k)} c.put_releases.result
    (λ last. six_put k before _ _ _ _ _ after (commits_of V (numbers_in V k)) (if_some received (Ack received))
    (if_some mark (Dsmark mark)) (if_some committed (Visible committed)) (prepares_kept V k) (releases_kept V k)
    c.in_ok-put_window.ensures c.in_ok-put_some.ensures c.in_ok-put_some-2.ensures c.in_ok-put_some-3.ensures
    c.in_ok-put_prepares.ensures last
    ∙ ap (λ (n : ℕ). before ++ to_one k (commits_of V (numbers_in V k) ++ (if_some n (Ack n) ++ (if_some mark (Dsmark mark)
    ++ (if_some committed (Visible committed) ++ (prepares_kept V k ++ releases_kept V k)))))) got_is
    ∙ ap (λ (n : ℕ). before ++ to_one k (commits_of V (numbers_in V k) ++ (if_some (entry_at V.spread.got k) (Ack (entry_at V.spread.got k)) ++ (if_some mark (Dsmark mark)
    ++ (if_some n (Visible n) ++ (prepares_kept V k ++ releases_kept V k)))))) committed_is)
    c.put_releases.ensures
