-- What the code keeps, where it hears what a peer says.
use Rattle.std.proofs.Common.{◌≡◌, ◌∙◌, ◌<◌, ◌≤◌, ℕ, List, [], length, ap, sym, subst, arith}
use Rattle.walter_base.specs.declared.names.SiteId.{SiteId}
use Rattle.walter_base.specs.Vectors.{most_sites, entry_at}
use Rattle.walter_durable.specs.declared.durable.Durable.TheInside.{Inside}
use Rattle.walter_durable.specs.Marks.{Holdings, heard, IsPossible, AreHeld, with_acknowledged, with_visible}
use Rattle.walter_durable.specs.Counted.{kept_in, copies_in, IsCounted}
use Rattle.walter_durable.proofs.Held.{still_are_held, are_held_beside, counted_beside}
use Rattle.walter_durable.proofs.Heard.{heard_long, heard_more}

-- of the copies alone the same are held
pub copies_held : (d : Inside) → AreHeld (kept_in d) d.counted → AreHeld (copies_in d.copies d.acknowledged) d.counted
copies_held d held = are_held_beside (kept_in d) [] 0 0 d.counted held

-- this site is one that a catalog may have
pub here_few : (d : Inside) → IsPossible (kept_in d) → d.copies.site.0 < most_sites
here_few d possible = omega (arith, possible.here, possible.few)

module _ (d : Inside) (most : ℕ) (all : most ≡ length d.copies.preferred.items) (said : List ℕ)
    (peer : SiteId) (number : ℕ) where
  module _ (is : said ≡ heard most d.acknowledged peer number) where
    now_said : said ≡ heard (length d.copies.preferred.items) d.acknowledged peer number
    now_said = is ∙ ap (λ n. heard n d.acknowledged peer number) all

    pub told_acknowledged : kept_in (record d { acknowledged = said }) ≡ with_acknowledged peer number (kept_in d)
    told_acknowledged = λ i. record (kept_in d) { acknowledged = now_said i }

    pub held_heard : IsPossible (kept_in d) → AreHeld (kept_in d) d.counted → peer.0 < d.copies.sites
        → AreHeld (copies_in d.copies said) d.counted
    held_heard possible held inside =
        let within : peer.0 < length d.acknowledged = omega (arith, inside, possible.acknowledged) in
        still_are_held (copies_in d.copies d.acknowledged) said (λ site.
        subst (λ (v : List ℕ). entry_at d.acknowledged site ≤ entry_at v site) (sym is)
        (heard_more most d.acknowledged peer number site.0 within))
        d.counted (copies_held d held)

    pub heard_few : IsPossible (kept_in d) → length said ≤ most_sites
    heard_few possible =
        let long : length said ≡ length d.acknowledged =
        ap length is ∙ heard_long most d.acknowledged peer number in
        omega (arith, long, possible.acknowledged, possible.few)

    pub counted_heard : (m : ℕ) → IsCounted (copies_in d.copies said) m
        → IsCounted (with_acknowledged peer number (kept_in d)) m
    counted_heard m counted =
        subst (λ (H : Holdings). IsCounted H m) told_acknowledged
        (counted_beside (copies_in d.copies said) d.visible d.durable_floor d.visible_floor m counted)

  pub told_visible : said ≡ heard most d.visible peer number
      → kept_in (record d { visible = said }) ≡ with_visible peer number (kept_in d)
  told_visible is =
      let now : said ≡ heard (length d.copies.preferred.items) d.visible peer number =
      is ∙ ap (λ n. heard n d.visible peer number) all in
      λ i. record (kept_in d) { visible = now i }
