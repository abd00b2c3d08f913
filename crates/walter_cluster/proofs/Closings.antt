-- What has arrived at each cell where it is a beginning of what was put, and what the closing of a bench gives.
use Rattle.std.proofs.Common.{◌≡◌, ◌≢◌, ℕ, ◌<◌, List, [], ◌∷◌, ◌++◌, length, map, reverse, get_or, slice_get, take, ap, sym, ◌∙◌, subst, Some}
use Rattle.std.specs.Prelude.{All}
use Rattle.std.proofs.lemmas.List.{length-map, map-append, take_at}
use Rattle.std.proofs.lemmas.List.Elements.{All-contains, All-from_get_or, All-nil, All-weaker}
use Rattle.std.proofs.lemmas.Option.{slice_get-get_or}
use mathlib.Core.List.{IsPrefix}
use Rattle.walter_base.specs.declared.names.SiteId.{SiteId}
use Rattle.walter_cell.specs.Cells.{CellValue, IsCell}
use Rattle.walter_machine.specs.Comings.{IsSized}
use Rattle.walter_cell.specs.Nodes.{IsSound}
use Rattle.walter_disk.specs.declared.disk.Disk.{Ghosts}
use Rattle.walter_lane.specs.Lanes.{Sending, Receiving}
use Rattle.walter_lane.specs.declared.posted.Posted.{Posted}
use Rattle.walter_outbox.specs.Lanes.{put_to, arrived_from, posted, HavePut, AreNext}
use Rattle.walter_outbox.proofs.Linked.{linked}
use Rattle.walter_packet.specs.Spelling.{HasPacketSpelling}
use Rattle.walter_psi.proofs.Lists.{contains_at}
use Rattle.walter_rules.specs.declared.entry.Entry.{Entry}
use Rattle.walter_rules.specs.Knowledge.{site_at}
use Rattle.walter_rules.specs.Merges.{trail_of, put_out_to, AreLinked}
use Rattle.walter_rules.specs.Sending.{Send}
use Rattle.walter_cluster.specs.Benches.{BenchValue, IsBench, AtEach, trails_of, outs_at, ins_at}
use Rattle.walter_cluster.specs.Meetings.{arrived_at, put_by, HaveLanes, Begins}
use Rattle.walter_cluster.proofs.Changes.{there_is, field_at}

-- what is taken of a list is its front
pub taken_whole : {X : Type 0} (n : ℕ) (front rest xs : List X) → xs ≡ take n (front ++ rest) → length front ≡ n → xs ≡ front
taken_whole n front rest xs is long = is ∙ take_at front rest n long

-- two lists that map to the same, each with one element more
pub maps_pushed : {X Y Z : Type 0} (f : X → Y) (h : Z → Y) (old new : List X) (x : X) (zs : List Z) (z : Z) → new ≡ old ++ x ∷ [] → map f old ≡ map h zs → f x ≡ h z
    → map f new ≡ map h (zs ++ z ∷ [])
maps_pushed f h old new x zs z pushed same one =
    ap (λ l. map f l) pushed
    ∙ (map-append f old (x ∷ [])
    ∙ (ap (λ l. l ++ f x ∷ []) same
    ∙ (ap (λ y. map h zs ++ y ∷ []) one
    ∙ sym (map-append h zs (z ∷ [])))))

pub map_pushed : {Y Z : Type 0} (h : Z → Y) (old new : List Y) (y : Y) (zs : List Z) (z : Z) → new ≡ old ++ y ∷ [] → old ≡ map h zs → y ≡ h z
    → new ≡ map h (zs ++ z ∷ [])
map_pushed h old new y zs z pushed same one =
    pushed ∙ (ap (λ l. l ++ y ∷ []) same ∙ (ap (λ v. map h zs ++ v ∷ []) one ∙ sym (map-append h zs (z ∷ []))))

module _ {D : Type 0} where
  pub begins_at : (cells : List (CellValue D)) (to from : ℕ) (a b : CellValue D) → slice_get cells to ≡ Some a → slice_get cells from ≡ Some b
      → HaveLanes cells → IsPrefix (arrived_from a.ins from) (map (posted b.node.catalog.sites) (put_out_to (site_at to) b.node.trail)) → Begins cells to from
  begins_at cells to from a b at there lanes begins =
      subst (λ (l : List Posted). IsPrefix l (put_by cells from to))
      (sym (ap (λ (is : List Receiving). arrived_from is from) (field_at (λ (c : CellValue D). c.ins) cells to a [] at)))
      (subst (λ (es : List Entry). IsPrefix (arrived_from a.ins from) (map (posted (length cells)) (put_out_to (site_at to) es)))
      (sym (field_at (λ (c : CellValue D). c.node.trail) cells from b [] there))
      (subst (λ (n : ℕ). IsPrefix (arrived_from a.ins from) (map (posted n) (put_out_to (site_at to) b.node.trail))) (lanes.among from b there) begins))

  -- what is so of all cells is so of each
  pub sound_each : (g : Ghosts D) (cells : List (CellValue D)) → All (λ (c : CellValue D). IsSound g c.node × IsCell c) cells
      → AtEach cells (λ i c. IsSound g c.node × IsCell c)
  sound_each g cells all i c at =
      All-contains (λ (c : CellValue D). IsSound g c.node × IsCell c) cells c all (contains_at cells c i at)

  pub all_each : (P : CellValue D → Type 0) → (cells : List (CellValue D)) → AtEach cells (λ i c. P c) → All P cells
  all_each P [] each = All-nil P
  all_each P (c ∷ cells) each =
      All-from_get_or P (c ∷ cells) c (λ i below. each i (get_or (c ∷ cells) i c) (slice_get-get_or (c ∷ cells) i c below))

  -- ---- the trails are linked

  module _ (g : Ghosts D) (bench : BenchValue D) (is : IsBench bench)
      (sound : AtEach bench.cells (λ i c. IsSound g c.node × IsCell c)) where
    abbrev cells : List (CellValue D)
    cells = bench.cells

    abbrev sites : ℕ
    sites = length bench.cells

    trail_at : (i : ℕ) (c : CellValue D) → slice_get cells i ≡ Some c → c.node.trail ≡ trail_of (trails_of cells) (site_at i)
    trail_at i c at = sym (field_at (λ (c : CellValue D). c.node.trail) cells i c [] at)

    few : (i : ℕ) → i < sites → length (ins_at cells i) ≡ sites
    few i below =
        let c = there_is cells i below in
        ap (λ (is : List Receiving). length is) (field_at (λ (c : CellValue D). c.ins) cells i c.0 [] c.1) ∙ (is.cells i c.0 c.1).ins

    next : (i : ℕ) → i < sites → AreNext (site_at i) (ins_at cells i) (reverse (trail_of (trails_of cells) (site_at i)))
    next i below =
        let c = there_is cells i below in
        subst (λ es. AreNext (site_at i) (ins_at cells i) (reverse es)) (trail_at i c.0 c.1)
        (subst (λ (is : List Receiving). AreNext (site_at i) is (reverse c.0.node.trail))
        (sym (field_at (λ (c : CellValue D). c.ins) cells i c.0 [] c.1))
        (subst (λ (n : SiteId). AreNext n c.0.ins (reverse c.0.node.trail)) (is.cells i c.0 c.1).site (sound i c.0 c.1).1.next))

    put : (j : ℕ) → j < sites → HavePut sites (trail_of (trails_of cells) (site_at j)) (outs_at cells j)
    put j below =
        let c = there_is cells j below in
        subst (λ es. HavePut sites es (outs_at cells j)) (trail_at j c.0 c.1)
        (subst (λ (os : List Sending). HavePut sites c.0.node.trail os)
        (sym (field_at (λ (c : CellValue D). c.node.outs) cells j c.0 [] c.1))
        (subst (λ (n : ℕ). HavePut n c.0.node.trail c.0.node.outs) (is.cells j c.0 c.1).sites_are (sound j c.0 c.1).0.put))

    spelled : (j : ℕ) → j < sites
        → All (λ (e : Entry). All (λ (s : Send). HasPacketSpelling sites s.1) e.came.sends) (trail_of (trails_of cells) (site_at j))
    spelled j below =
        let c = there_is cells j below in
        subst (λ es. All (λ (e : Entry). All (λ (s : Send). HasPacketSpelling sites s.1) e.came.sends) es) (trail_at j c.0 c.1)
        (All-weaker (λ (e : Entry). IsSized sites e.came)
        (λ (e : Entry). All (λ (s : Send). HasPacketSpelling sites s.1) e.came.sends) (λ e sized. sized.sends) c.0.node.trail
        (subst (λ (n : ℕ). All (λ (e : Entry). IsSized n e.came) c.0.node.trail) (is.cells j c.0 c.1).sites_are (sound j c.0 c.1).0.sized))

    -- what was put is what the trail puts out
    put_is : (from to : ℕ) → from < sites → to < sites → put_to (outs_at cells from) to ≡ put_by cells from to
    put_is from to below within = (put from below).each to within

    pub cells_linked : ((to from : ℕ) → to < sites → from < sites → to ≢ from → Begins cells to from) → AreLinked (trails_of cells)
    cells_linked begins =
        linked sites (trails_of cells) (ins_at cells) (outs_at cells)
        (length-map cells (λ (c : CellValue D). c.node.trail))
        few next put spelled
        (λ to from below within apart.
        subst (λ (l : List Posted). IsPrefix (arrived_at cells to from) l) (sym (put_is from to within below)) (begins to from below within apart))
