use Rattle.std.proofs.Common.{◌≡◌, ◌++◌, ◌∷◌, [], ◌*◌, ◌%◌, ◌^◌, List, bit_or, ap, sym, subst, if◌then◌else◌}
use Rattle.std.specs.Int.{bit_at}
use Rattle.walter_base.specs.declared.names.SiteId.{SiteId}
use Rattle.walter_durable.specs.Bits.{has_place}
use Rattle.walter_durable.specs.declared.ghost_sites.GhostSites.{GhostSites}
use Rattle.walter_durable.proofs.Bits.{bits_with}
use Rattle.walter_durable.proofs.preferred.PreferredSites.push.Goals as goal

pub invariant_of-self : goal.invariant_of-self
invariant_of-self c place =
    let inside = c.self.inside in
    let with = bits_with inside.bits inside.sites.sites c.args.site c.self.invariant place in
    subst (λ (ks : List SiteId). bit_at (bit_or inside.bits (1 * 2 ^ c.place_of.result % 2 ^ 32)) place
    ≡ (if has_place ks place then 1 else 0)) (sym (ap (λ (g : GhostSites). g.sites) c.of-self-inside.ensures))
    (subst (λ n. bit_at (bit_or inside.bits (1 * 2 ^ n % 2 ^ 32)) place
    ≡ (if has_place (inside.sites.sites ++ c.args.site ∷ []) place then 1 else 0)) (sym c.place_of.ensures) with)
