use Rattle.std.proofs.Common.{◌≡◌, [], List, length, map, subst, sym, arith}
use Rattle.std.proofs.lemmas.Bool.Decides.{nat_tests}
use Rattle.walter_packet.specs.Framed.{frame_of}
use Rattle.walter_outbox.specs.Lanes.{carried_by, met_to, IsPutWhereFree, HavePutMore, none_left}
use Rattle.walter_outbox.proofs.Putting.{none_sent, none_more}
use Rattle.walter_rules.specs.Sending.{Send}
use Rattle.walter_outbox.proofs.outbox.put_out.Goals as goal

pub returns-then-is_empty : goal.returns-then-is_empty
returns-then-is_empty c =
    let empty : length c.args.frames.items ≡ 0 = grind (arith, nat_tests, c.args.frames.ok) in
    let none : c.args.sends.now ≡ [] = none_sent c.args.frames.items c.args.sends.now c.requires empty in
    record {
      out = subst (λ (l : List Send). IsPutWhereFree (met_to c.args.outs.now) (carried_by c.args.outs.now) l l 0) (sym none)
          (none_left (carried_by c.args.outs.now));
      lanes = λ sites are. subst (λ (l : List Send). HavePutMore sites c.args.stamp c.args.outs.now c.args.outs.now l) (sym none)
          (none_more sites c.args.stamp c.args.outs.now);
    }

pub put_all-put-requires : goal.put_all-put-requires
put_all-put-requires c = subst (λ (l : List Send). length c.args.frames.items ≡ length l) (sym c.replace.ensures.value) c.requires

pub returns : goal.returns
returns c = record {
  out = subst (λ (l : List Send). IsPutWhereFree (met_to c.args.outs.now) (carried_by c.args.outs.now) l c.put_all-put.result.0 c.put_all-put.result.1)
      c.replace.ensures.value c.put_all-put.ensures.out;
  lanes = λ sites are. c.put_all-put.ensures.lanes sites (subst (λ (l : List Send). c.args.frames.items ≡ map (λ s. frame_of sites s.1) l) (sym c.replace.ensures.value) are);
}
