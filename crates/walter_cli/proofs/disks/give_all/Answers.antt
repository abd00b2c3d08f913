use Rattle.std.proofs.Common.{◌≡◌, ◌++◌, ◌∷◌, [], ℕ, length, option_map, refl, ap, sym, ◌∙◌, subst, arith}
use Rattle.std.specs.Prelude.{Result, OnOk, IfErr}
use Rattle.std.specs.Result.{is_err}
use Rattle.std.proofs.lemmas.List.{length-append}
use Rattle.walter_cli.specs.Disks.{IsFirstLost, lost_after}
use Rattle.walter_cli.specs.Racks.{RackAt, rack_at}
use Rattle.walter_cli.proofs.Racking.{given_none, given_more, lost_more}
use Rattle.walter_cli.proofs.disks.give_all.Goals as goal

pub loop-disk-init : goal.loop-disk-init
loop-disk-init g c =
    let a : RackAt g.row.R-D.Denot = rack_at g.R.Rack c.args.rack.now in
    record { given = given_none a a a; folder = refl; next = refl; ok = refl; err = tt }

pub loop-disk-preserved : goal.loop-disk-preserved
loop-disk-preserved g c =
    let a : RackAt g.row.R-D.Denot = rack_at g.R.Rack c.args.rack.now in
    let b : RackAt g.row.R-D.Denot = rack_at g.R.Rack c.loop-disk.rack in
    let d : RackAt g.row.R-D.Denot = rack_at g.R.Rack c.give-given.new.self in
    let is = c.loop-disk.invariant in
    let e = c.give-given.ensures in
    let done = c.loop-disk.yielded in
    let disk = c.in-Some.disk in
    let first = c.loop-disk.lost in
    let given : OnOk c.give-given.result (d.given ≡ option_map (λ told. told ++ (length done, disk) ∷ []) b.given) =
    subst (λ (n : ℕ). OnOk c.give-given.result (d.given ≡ option_map (λ told. told ++ (n, disk) ∷ []) b.given)) is.next e.given in
    let handed : d.handed ≡ option_map (λ told. told ++ (length done, disk) ∷ []) b.handed =
    subst (λ (n : ℕ). d.handed ≡ option_map (λ told. told ++ (n, disk) ∷ []) b.handed) is.next e.handed in
    let now = lost_more a b d done disk c.give-given.result is.given given e.same_given handed e.same_taken e.same_disks e.faultless
    e.cause e.sure first is.ok is.err in
    let same : c.first_lost-lost.result ≡ lost_after first (is_err c.give-given.result) (length done) =
    c.first_lost-lost.ensures
    ∙ (ap (λ b. lost_after first b c.loop-disk.next) c.is_err.ensures.value
    ∙ ap (λ (n : ℕ). lost_after first (is_err c.give-given.result) n) is.next) in
    record {
      given = given_more a b d done disk c.give-given.result is.given given e.same_given handed e.same_taken e.same_disks e.faultless
          e.cause e.sure;
      folder = e.same_folder ∙ is.folder;
      next = (let n = is.next in let m = length-append done (disk ∷ []) in omega (arith, n, m));
      ok = subst (λ (r : Result (Unit {0}) ℕ). OnOk r (d.faults ≡ a.faults)) (sym same) now.0;
      err = subst (λ (r : Result (Unit {0}) ℕ). IfErr r (IsFirstLost a d (done ++ disk ∷ []))) (sym same) now.1;
    }
