-- A bench whose sites have all begun.
use Rattle.std.proofs.Common.{◌≡◌, ℕ, ◌<◌, ◌≤◌, ◌∷◌, ◌⊎◌, List, [], Bool, true, false, Option, Some, None, length, get_or, map, replicate, slice_get, vec_capacity, refl, ap, sym, ◌∙◌, subst, arith, inl, inr}
use Rattle.std.specs.Prelude.{IsSome, IfSome, All, Vec, option_map}
use Rattle.std.specs.declared.alloc.Global.{Global}
use Rattle.std.proofs.lemmas.Bool.{cases_lt, eqb-true, eq-eqb}
use Rattle.std.proofs.lemmas.List.{get_or-replicate, length-replicate}
use Rattle.std.proofs.lemmas.List.Elements.{All-map, All-same}
use Rattle.std.proofs.lemmas.Option.{slice_get_within, slice_get-map}
use Rattle.walter_base.specs.declared.format.Format.{Format}
use Rattle.walter_base.specs.declared.format.Format.TheVariants.{First, Second}
use Rattle.walter_base.specs.declared.names.SiteId.{SiteId}
use Rattle.walter_base.specs.Sizes.{most_in}
use Rattle.walter_base.specs.Vectors.{most_sites}
use Rattle.walter_cell.specs.Cells.{CellValue}
use Rattle.walter_cell.specs.Lines.{LineValue, IsLine, is_here, is_there}
use Rattle.walter_cell.proofs.DiskCalls.{capacity_is}
use Rattle.walter_cell.specs.Nodes.{arms_under, calls_under, capacity_of}
use Rattle.walter_cell.specs.Written.{replies_to, AreWritten}
use Rattle.walter_disk.specs.Disks.{Arming}
use Rattle.walter_disk.specs.declared.disk.Disk.{Ghosts}
use Rattle.walter_rules.specs.Trails.{opening}
use Rattle.walter_lane.specs.Lanes.{Sending, Receiving}
use Rattle.walter_outbox.specs.Lanes.{met_to, arrived_from, ring_to, ring_from}
use Rattle.walter_rules.specs.declared.entry.Entry.{Entry}
use Rattle.walter_rules.specs.Knowledge.{site_at}
use Rattle.walter_scenario.specs.declared.scenario.Client.{Client}
use Rattle.walter_scenario.specs.declared.scenario.Scenario.{Scenario}
use Rattle.walter_trail.specs.Calls.{calls_of}
use Rattle.walter_cluster.specs.declared.opening.Parts.{Parts}
use Rattle.walter_cluster.specs.Benches.{outs_at, ins_at, arms_at, calls_at, is_site, is_home, IsCellAt, IsBench, IsOf, IsToldAt, AreRoomy, AreAllConnected, AreAllAnswered, AreMet, HasRoom}
use Rattle.walter_cluster.specs.Builds.{AreUnread, AreUnwritten, AreUnarmed, AreCallsOnceBegun, AreLaid, HadNoRecords}
use Rattle.walter_cluster.specs.Lanes.{AreJoined, rows_in, columns_in, row_of, column_of}
use Rattle.walter_cluster.specs.Moments.{IsFirst, moment_of}
use Rattle.walter_cluster.specs.Openings.{HasPlaces, HasBegunAt, HaveBegun, ArePrepared}
use Rattle.walter_cluster.specs.Seats.{lists_in, list_of, HavePlaces, AreSeated, AreAtHome}
use Rattle.walter_cluster.proofs.Changes.{field_at, field_past}
use Rattle.walter_cluster.proofs.Opened.{none_had}
use Rattle.walter_cluster.proofs.Places.{at_place, all_same}

-- no format has places for more sites than there may be
few_enough : (format : Format) {n : ℕ} → n ≤ most_in format → n ≤ most_sites
few_enough First few = omega (arith, few)
few_enough Second few = few

-- what was made for so many sites and these clients is what a scenario asks for
pub prepared_for : {D S K : Type 0} (t : Scenario) (conns : List LineValue) (parts : Parts D S K) (sites : ℕ) (clients : List Client) → sites ≡ t.catalog.sites → clients ≡ t.clients
    → length conns ≡ length t.clients
    → AreJoined sites sites (rows_in parts.rows.items) (columns_in parts.columns.items) → HavePlaces sites (length clients) (lists_in parts.lists.items)
    → AreSeated (length clients) clients conns (lists_in parts.lists.items) → AreAtHome clients (lists_in parts.lists.items)
    → parts.homes.items ≡ map (λ (client : Client). client.site) clients → HasPlaces sites parts.room → ArePrepared t conns parts
prepared_for t conns parts sites clients at who long joined places seated alone homes room =
    let Joined : ℕ → Type 0 = λ n. AreJoined n n (rows_in parts.rows.items) (columns_in parts.columns.items) in
    let Places : ℕ → Type 0 = λ n. HavePlaces n (length t.clients) (lists_in parts.lists.items) in
    let PlacesOf : List Client → Type 0 = λ cs. HavePlaces sites (length cs) (lists_in parts.lists.items) in
    let Seated : List Client → Type 0 = λ cs. AreSeated (length cs) cs conns (lists_in parts.lists.items) in
    let Alone : List Client → Type 0 = λ cs. AreAtHome cs (lists_in parts.lists.items) in
    let Room : ℕ → Type 0 = λ n. HasPlaces n parts.room in
    record {
      conns_long = long;
      joined = subst Joined at joined;
      places = subst Places at (subst PlacesOf who places);
      seated = subst Seated who seated;
      alone = subst Alone who alone;
      homes = homes ∙ ap (map (λ (client : Client). client.site)) who;
      room = subst Room at room;
    }

-- ---- whose connection is where

-- a connection is here just where b is so
there_is_so : (found : Option (Option LineValue)) (b : Bool) → ((line : LineValue) → found ≡ Some (Some line) → b ≡ true)
    → (b ≡ true → (line : LineValue) × (found ≡ Some (Some line))) → is_there found ≡ b
there_is_so None false to from = refl
there_is_so None true to from =
    let one = from refl in
    let e : None ≡ Some (Some one.0) = one.1 in
    absurd cc
there_is_so (Some None) false to from = refl
there_is_so (Some None) true to from =
    let one = from refl in
    let e : Some None ≡ Some (Some one.0) = one.1 in
    absurd cc
there_is_so (Some (Some line)) b to from = sym (to line refl)

home_of : (found : Option Client) (i : SiteId) → is_site (option_map (λ (client : Client). client.site) found) i ≡ true
    → (client : Client) × (found ≡ Some client) × (client.site.0 ≡ i.0)
home_of None i is = absurd cc
home_of (Some client) i is = (client, refl, eqb-true client.site.0 i.0 is)

module _ (t : Scenario) (conns : List LineValue) (lists : List (List (Option LineValue))) (conns_long : length conns ≡ length t.clients)
    (seated : AreSeated (length t.clients) t.clients conns lists) where
  -- the connection of a client, in the list of its site
  pub line_of_client : (number : ℕ) (client : Client) → slice_get t.clients number ≡ Some client
      → (line : LineValue) × (slice_get conns number ≡ Some line) × (slice_get (list_of lists client.site.0) number ≡ Some (Some line))
  line_of_client number client there =
      let lt = slice_get_within t.clients number client there in
      let conn = at_place conns number (omega (arith, lt, conns_long)) in
      (conn.0, conn.1, seated number client conn.0 lt there conn.1)

  module _ (homes : List SiteId) (alone : AreAtHome t.clients lists) (homes_are : homes ≡ map (λ (client : Client). client.site) t.clients) where
    home_at : (number : ℕ) → slice_get homes number ≡ option_map (λ (client : Client). client.site) (slice_get t.clients number)
    home_at number = ap (λ (hs : List SiteId). slice_get hs number) homes_are ∙ slice_get-map (λ (client : Client). client.site) t.clients number

    -- in the list of a site are the connections of just the clients that are at home there
    pub here_is_home : (i number : ℕ) → is_here (list_of lists i) number ≡ is_home homes number (site_at i)
    here_is_home i number =
        there_is_so (slice_get (list_of lists i) number) (is_home homes number (site_at i))
        (λ line at.
        let one = alone i number line at in
        ap (λ (o : Option SiteId). is_site o (site_at i)) (home_at number ∙ ap (option_map (λ (client : Client). client.site)) one.1)
        ∙ eq-eqb one.0.site.0 i one.2)
        (λ home.
        let one = home_of (slice_get t.clients number) (site_at i) (sym (ap (λ (o : Option SiteId). is_site o (site_at i)) (home_at number)) ∙ home) in
        let line = line_of_client number one.0 one.1 in
        (line.0, ap (λ (j : ℕ). slice_get (list_of lists j) number) (sym one.2) ∙ line.2))

-- ---- the cells

module _ {D : Type 0} (g : Ghosts D) (t : Scenario) (disks : List D) (rows : List (List Sending)) (columns : List (List Receiving)) (lists : List (List (Option LineValue)))
    (cells : List (CellValue D)) (begun : HaveBegun g t disks rows columns lists t.catalog.sites cells) (disks_long : length disks ≡ t.catalog.sites) where
  begun_at : (i : ℕ) (c : CellValue D) → slice_get cells i ≡ Some c
      → (disk : D) × (slice_get disks i ≡ Some disk) × HasBegunAt g t i disk (row_of rows i) (column_of columns i) (list_of lists i) c
  begun_at i c at =
      let lt = slice_get_within cells i c at in
      let there = at_place disks i (omega (arith, lt, disks_long, begun.long)) in
      (there.0, there.1, begun.each i there.0 c there.1 at)

  within_at : (i : ℕ) (c : CellValue D) → slice_get cells i ≡ Some c → i < t.catalog.sites
  within_at i c at = let lt = slice_get_within cells i c at in omega (arith, lt, begun.long)

  -- the bench is the scenario's
  pub of_built : (homes : List SiteId) → homes ≡ map (λ (client : Client). client.site) t.clients → IsOf t (record { cells = cells; homes = homes })
  of_built homes homes_are = record {
    sites = begun.long;
    catalogs = λ i c at. (begun_at i c at).2.begun.node.catalog_is;
    capacities = λ i c at.
        let sized = (begun_at i c at).2.begun.node.sized in
        ap capacity_of sized.3 ∙ capacity_is sized.0 t.capacity t.catalog.sites sized.1;
    homes = homes_are;
  }

  pub roomy_built : (homes : List SiteId) → AreRoomy t (record { cells = cells; homes = homes })
  roomy_built homes i c at = (begun_at i c at).2.room

  pub told_built : (homes : List SiteId) (i : ℕ) (disk : D) → slice_get disks i ≡ Some disk → IsSome (g.known disk).reads → IsToldAt g i (record { cells = cells; homes = homes })
  told_built homes i disk at told c here = (begun.each i disk c at here).begun.node.told ∙ told

  pub none_had_built : HadNoRecords g t disks
  none_had_built = none_had g t disks rows columns lists t.catalog.sites cells begun (sym disks_long)

  pub calls_built : AreCallsOnceBegun g t disks (calls_at g cells)
  calls_built i disk at =
      let within = slice_get_within disks i disk at in
      let c = at_place cells i (omega (arith, within, disks_long, begun.long)) in
      field_at (λ (c : CellValue D). calls_under g c.node.disk) cells i c.0 0 c.1 ∙ (begun.each i disk c.0 at c.1).begun.node.calls

  pub laid_built : AreLaid g t disks cells
  laid_built i disk c bytes at here has =
      let node = (begun.each i disk c at here).begun.node in
      record { sized = node.sized; laid = node.laid bytes has }

  -- ---- their lanes

  module _ (joined : AreJoined t.catalog.sites t.catalog.sites rows columns) where
    outs_are : map (λ (c : CellValue D). c.node.outs) cells ≡ rows
    outs_are = all_same (λ (c : CellValue D). c.node.outs) cells rows [] (begun.long ∙ sym joined.rows_long) (λ i c lt at. (begun_at i c at).2.begun.node.outs_are)

    ins_are : map (λ (c : CellValue D). c.ins) cells ≡ columns
    ins_are = all_same (λ (c : CellValue D). c.ins) cells columns [] (begun.long ∙ sym joined.columns_long) (λ i c lt at. (begun_at i c at).2.begun.ins_are)

    outs_is : (i : ℕ) → outs_at cells i ≡ row_of rows i
    outs_is i = ap (λ (rs : List (List Sending)). get_or rs i []) outs_are

    ins_is : (i : ℕ) → ins_at cells i ≡ column_of columns i
    ins_is i = ap (λ (cs : List (List Receiving)). get_or cs i []) ins_are

    none_came : (to from : ℕ) → arrived_from (ins_at cells to) from ≡ []
    none_came to from = ap (λ (column : List Receiving). arrived_from column from) (ins_is to) ∙ joined.none_arrived to from

    pub met_built : (homes : List SiteId) → AreMet (record { cells = cells; homes = homes })
    met_built homes to from = ap (λ (row : List Sending). met_to row to) (outs_is from) ∙ joined.none_met from to ∙ sym (ap length (none_came to from))

    -- the arms of the disks are those from before
    none_armed : AreUnarmed g disks → (i : ℕ) → (i < length cells) ⊎ (length cells ≤ i) → IfSome (arms_at g cells i) (λ arms. arms ≡ [])
    none_armed unarmed i (inl within) =
        let c = at_place cells i within in
        let one = begun_at i c.0 c.1 in
        let now = one.2 in
        subst (λ (o : Option (List Arming)). IfSome o (λ arms. arms ≡ []))
        (sym (field_at (λ (c : CellValue D). arms_under g c.node.disk) cells i c.0 None c.1 ∙ (ap (arms_under g) now.now_is ∙ now.leaves.arms)))
        (unarmed i one.0 one.1)
    none_armed unarmed i (inr past) =
        subst (λ (o : Option (List Arming)). IfSome o (λ arms. arms ≡ [])) (sym (field_past (λ (c : CellValue D). arms_under g c.node.disk) cells i None past)) tt

    pub first_built : AreUnarmed g disks → IsFirst t.catalog.sites (moment_of g cells)
    first_built unarmed = record {
      openings = all_same (λ (c : CellValue D). c.node.trail) cells (replicate t.catalog.sites (opening ∷ [])) [] (begun.long ∙ sym (length-replicate t.catalog.sites (opening ∷ [])))
          (λ i c lt at. (begun_at i c at).2.begun.node.trail ∙ sym (get_or-replicate t.catalog.sites i (opening ∷ []) [] (within_at i c at)));
      none_arrived = λ to from. ap length (none_came to from);
      none_armed = λ i. none_armed unarmed i (cases_lt i (length cells));
    }

    lanes_built : (to from : ℕ) → to < length cells → from < length cells → ring_to (outs_at cells from) to ≡ ring_from (ins_at cells to) from
    lanes_built to from in_to in_from =
        ap (λ (row : List Sending). ring_to row to) (outs_is from)
        ∙ joined.joined from to (omega (arith, in_from, begun.long)) (omega (arith, in_to, begun.long))
        ∙ sym (ap (λ (column : List Receiving). ring_from column from) (ins_is to))

    -- ---- the bench

    module _ (homes : List SiteId) (conns : List LineValue) (conns_long : length conns ≡ length t.clients) (seated : AreSeated (length t.clients) t.clients conns lists)
        (alone : AreAtHome t.clients lists) (homes_are : homes ≡ map (λ (client : Client). client.site) t.clients) where
      cell_at : (i : ℕ) (c : CellValue D) → slice_get cells i ≡ Some c → IsCellAt (length cells) homes (site_at i) c
      cell_at i c at =
          let one = (begun_at i c at).2.begun in
          let lt = within_at i c at in
          record {
            site = one.node.site;
            sites_are = ap (λ k. k.sites) one.node.catalog_is ∙ sym begun.long;
            outs = ap length one.node.outs_are ∙ (joined.row_long i lt ∙ sym begun.long);
            ins = ap length one.ins_are ∙ (joined.column_long i lt ∙ sym begun.long);
            here = λ client. ap (λ (ls : List (Option LineValue)). is_here ls client) one.lines_are ∙ here_is_home t conns lists conns_long seated homes alone homes_are i client;
          }

      pub bench_built : t.catalog.sites ≤ most_in t.format → All (λ (client : Client). client.site.0 < t.catalog.sites) t.clients → IsBench (record { cells = cells; homes = homes })
      bench_built few within = record {
        few = omega (arith, few_enough t.format few, begun.long);
        cells = cell_at;
        lanes = lanes_built;
        within = subst (λ (n : ℕ). All (λ (home : SiteId). home.0 < n) homes) (sym begun.long)
            (All-same (λ (home : SiteId). home.0 < t.catalog.sites) homes (map (λ (client : Client). client.site) t.clients) homes_are
            (All-map (λ (home : SiteId). home.0 < t.catalog.sites) (λ (client : Client). client.site) t.clients within));
      }

  pub room_built : {X : Type 0} (list : Vec X Global) → list.items ≡ [] → t.catalog.sites ≤ vec_capacity list → HasRoom (length cells) list
  room_built list none room = record { none = none; room = omega (arith, begun.long, room) }

  -- ---- their connections

  module _ (conns : List LineValue) (conns_long : length conns ≡ length t.clients) (seated : AreSeated (length t.clients) t.clients conns lists) where
    -- the connection of a client, in the cell of its site
    line_at : (i : ℕ) (c : CellValue D) → slice_get cells i ≡ Some c → (number : ℕ) (client : Client) → slice_get t.clients number ≡ Some client → client.site ≡ site_at i
        → (line : LineValue) × (slice_get conns number ≡ Some line) × (slice_get c.lines number ≡ Some (Some line))
    line_at i c at number client there home =
        let line = line_of_client t conns lists conns_long seated number client there in (
          line.0,
          line.1,
          ap (λ (list : List (Option LineValue)). slice_get list number) ((begun_at i c at).2.begun.lines_are ∙ ap (list_of lists) (sym (ap (λ (site : SiteId). site.0) home)))
              ∙ line.2,
        )

    pub connected_built : (homes : List SiteId) → AreUnread t.clients conns → AreAllConnected t (record { cells = cells; homes = homes })
    connected_built homes unread i c at number client there home =
        let line = line_at i c at number client there home in
        let Read : List Entry → Type 0 = λ es. IsLine client.bytes (calls_of number es) line.0 in
        (line.0, line.2, subst Read (sym (begun_at i c at).2.begun.node.trail) (unread number client line.0 there line.1))

    pub answered_built : (homes : List SiteId) (before : ℕ → List ℕ) → AreUnwritten before conns → AreAllAnswered t before (record { cells = cells; homes = homes })
    answered_built homes before unwritten i c at number client there home =
        let line = line_at i c at number client there home in
        let Answered : List Entry → Type 0 = λ es. AreWritten (before number) (replies_to number es) line.0.incoming.state line.0.sent in
        (line.0, line.2, subst Answered (sym (begun_at i c at).2.begun.node.trail) (unwritten number line.0 line.1))
