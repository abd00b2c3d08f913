use Rattle.std.proofs.Common.{◌≡◌, [], ℕ, List, map, false, None, refl, sym, ◌∙◌, ap}
use Rattle.std.specs.Prelude.{IfSome, is_some}
use Rattle.walter_base.specs.declared.format.Format.TheVariants.{First}
use Rattle.walter_engine.specs.Effects.{AreCalls}
use Rattle.walter_engine.specs.Engines.{layout_for}
use Rattle.walter_engine.specs.Stores.{disk_under}
use Rattle.walter_engine.proofs.Crashes.{disk_next}
use Rattle.walter_engine.proofs.Loads.{always}
use Rattle.walter_engine.proofs.Taking.{come_as, if_twice, is_full, rule_fits, stands_same}
use Rattle.walter_engine.proofs.Written.{state_up, rule_allows, is_refusal, faults_as, calls_as}
use Rattle.walter_engine.proofs.engine.Engine.decline.Goals as goal
use Rattle.walter_machine.specs.Comings.{IsFaulty}
use Rattle.walter_machine.specs.Machines.{catalog_in, site_in, tables_in}
use Rattle.walter_packet.specs.Framed.{frame_of}
use Rattle.walter_rules.specs.declared.entry.Came.{Came}
use Rattle.walter_rules.specs.Sending.{Send}
use Rattle.walter_rules.specs.Standing.{unmade}

pub returns : goal.returns
returns g c =
    let engine = c.args.self.now in
    let catalog = catalog_in engine.machine in
    let i = site_in engine.machine in
    let layout = layout_for engine.areas engine.capacity catalog.sites engine.format in
    let event = c.args.event.now in
    let came = c.decline.new.came in
    let only = c.decline.ensures.alone in
    let closed = engine.«open» ∙ c.requires.down in
    record {
      taken =
          record {
            comes = λ S stands.
                let down = state_up S (tables_in engine.machine) stands.machine.state ∙ c.requires.down in
                come_as {g = g.D.Disk} catalog layout i S event came engine (ap (λ (x : Came). x.kept) only)
                (λ down restart. c.requires.stays restart) (c.decline.ensures.comes layout S stands.machine)
                (stands_same {g = g.D.Disk} engine catalog i S event came (c.decline.ensures.stands S stands.machine)
                layout refl stands.spellings stands.stored closed (ap (λ (x : Came). x.wrote) only)
                (ap (λ (x : Came). x.flight) only)
                (ap is_full (c.decline.ensures.ruled First S down) ∙ rule_fits First catalog i S event));
            any_moment = λ S stands.
                disk_next {g = g.D.Disk} g.met.D.Disk.only_now catalog layout i S event came.kept engine.book engine.disk stands.stored closed;
            refused = always (λ d. IfSome (g.D.Disk.known d).reads (λ bytes. Unit {0})) (disk_under engine.book engine.disk)
                (λ d. always (λ (bytes : List ℕ). Unit {0}) (g.D.Disk.known d).reads (λ bytes. tt));
            why = λ refused. absurd (let e = sym (ap is_refusal refused) ∙ ap is_refusal (c.decline.ensures.ruled First unmade refl)
                ∙ rule_allows First catalog i unmade event in cc);
            sized = c.decline.ensures.sized;
            framed =
                let none : map (λ (s : Send). frame_of catalog.sites s.1) came.sends ≡ [] =
                ap (λ (x : Came). map (λ (s : Send). frame_of catalog.sites s.1) x.sends) only in
                cc;
            none_dropped = ap (λ (x : Came). x.dropped) only;
            faults = if_twice (disk_under engine.book engine.disk) (λ b n. IsFaulty came (g.D.Disk.known b).faults (g.D.Disk.known n).faults)
                (λ disk. faults_as came false _ _ c.decline.ensures.fine refl);
            arms = if_twice (disk_under engine.book engine.disk) (λ b n. (g.D.Disk.known n).arms ≡ (g.D.Disk.known b).arms) (λ disk. refl);
            tells = if_twice (disk_under engine.book engine.disk) (λ b n. is_some (g.D.Disk.known n).reads ≡ is_some (g.D.Disk.known b).reads)
                (λ disk. refl);
            engine = record { catalog = refl; site = refl; capacity = refl; layout = refl };
          };
      device = if_twice (disk_under engine.book engine.disk) (λ b n. AreCalls came (g.D.Disk.device_calls b) (g.D.Disk.device_calls n))
          (λ disk. calls_as came None None _ _ (ap (λ (x : Came). x.wrote) only) (ap (λ (x : Came). x.flight) only) refl);
    }
