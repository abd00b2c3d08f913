-- Sites that begin one after another, each with what is first of what is left.
use Rattle.std.proofs.Common.{◌≡◌, ℕ, suc, ◌<◌, ◌≤◌, ◌+◌, ◌-◌, ◌++◌, ◌∷◌, ◌⊎◌, List, [], Option, Some, None, Ok, Err, length, drop, map, slice_get, refl, ap, sym, ◌∙◌, subst, inl, inr, arith, length-append}
use Rattle.std.specs.Prelude.{IfSome, option_map, is_some, true}
use Rattle.std.proofs.lemmas.Bool.{cases_lt, cases_eq}
use Rattle.std.proofs.lemmas.List.{length-map, length-drop}
use Rattle.std.proofs.lemmas.Option.{same_Some, slice_get-map, slice_get_within}
use Rattle.walter_cell.specs.Builds.{Begins}
use Rattle.walter_cell.specs.Cells.{CellValue, HasBegun}
use Rattle.walter_cell.specs.Lines.{LineValue}
use Rattle.walter_cell.specs.Nodes.{places_in}
use Rattle.walter_disk.specs.declared.disk.Disk.{Ghosts}
use Rattle.walter_engine.specs.Begins.{HasOnly, HasNoRecord, MayHaveBegun, IsBegun, IsFaultOfBegin}
use Rattle.walter_engine.specs.declared.answers.BeginFault.{BeginFault}
use Rattle.walter_engine.specs.declared.answers.BeginFault.TheVariants.{Failed, Foreign, Damaged, Used, NoMemory}
use Rattle.walter_lane.specs.Lanes.{Sending, Receiving}
use Rattle.walter_psi.proofs.Lists.{slice_get-push_cases, slice_get-append_left}
use Rattle.walter_rules.specs.Knowledge.{site_at}
use Rattle.walter_scenario.specs.declared.scenario.Scenario.{Scenario}
use Rattle.walter_cluster.specs.declared.opening.Unbuilt.{Unbuilt}
use Rattle.walter_cluster.specs.Benches.{disks_of, shape_of}
use Rattle.walter_cluster.specs.Builds.{LeavesDisk, LeavesDisks, HadNoRecords, IsWhyNone}
use Rattle.walter_cluster.specs.Lanes.{row_of, column_of}
use Rattle.walter_cluster.specs.Openings.{HasBegunAt, HaveBegun}
use Rattle.walter_cluster.specs.Seats.{list_of}
use Rattle.walter_cluster.proofs.Places.{at_place, slice_get_behind, slice_get-drop}

-- ---- disks

module _ {D : Type 0} (g : Ghosts D) (t : Scenario) where
  -- a disk that wasn't touched
  pub untouched : (disk : D) → LeavesDisk g t disk disk
  untouched disk = record {
    images = λ bytes has image may. inl (has.only image may);
    faults = omega arith;
    arms = refl;
  }

pub faults_grow : (why : BeginFault) (old new : ℕ) → IsFaultOfBegin (Err why) old new → old ≤ new
faults_grow Failed old new h = omega (arith, h)
faults_grow Foreign old new h = omega (arith, h)
faults_grow (Damaged at length) old new h = omega (arith, h)
faults_grow Used old new h = omega (arith, h)
faults_grow NoMemory old new h = omega (arith, h)

-- a disk that is there
module _ {D : Type 0} where
  one_is : (found : Option D) → is_some found ≡ true → (now : D) × (found ≡ Some now)
  one_is None there = absurd cc
  one_is (Some now) there = (now, refl)

  of_one : (found : Option D) (now : D) (P : D → Type 0) → found ≡ Some now → IfSome found P → P now
  of_one found now P is holds = subst (λ (o : Option D). IfSome o P) is holds

-- ---- cells

module _ {D : Type 0} (g : Ghosts D) (t : Scenario) where
  -- a cell that began
  pub cell_begins : (i : ℕ) (disk : D) (row : List Sending) (column : List Receiving) (list : List (Option LineValue)) (c : CellValue D)
      → HasBegun g t.catalog t.capacity t.areas t.format (site_at i) disk row column list c
      → Begins g {N = CellValue D} (λ (x : CellValue D). x.node.disk) (shape_of t) t.areas disk (Ok c)
      → t.room ≤ places_in c.node
      → HasBegunAt g t i disk row column list c
  cell_begins i disk row column list c begun begins room =
      let there = one_is c.node.disk begun.node.there in
      let same : (g.known there.0).faults ≡ (g.known disk).faults = of_one c.node.disk there.0 (λ (now : D). (g.known now).faults ≡ (g.known disk).faults) there.1 begins.faults in
      record {
        begun = begun;
        had_none = λ bytes has. begins.begins bytes has;
        now = there.0;
        now_is = there.1;
        leaves = record {
          images = λ bytes has. of_one c.node.disk there.0 (λ (now : D). (image : List ℕ) → g.may_leave now image → MayHaveBegun (shape_of t) t.areas bytes image) there.1 (begins.leaves bytes has);
          faults = omega (arith, same);
          arms = of_one c.node.disk there.0 (λ (now : D). (g.known now).arms ≡ (g.known disk).arms) there.1 begins.arms;
        };
        faultless = same;
        room = room;
      }

  module _ (disks : List D) (rows : List (List Sending)) (columns : List (List Receiving)) (lists : List (List (Option LineValue))) where
    pub begun_none : (cells : List (CellValue D)) → cells ≡ [] → HaveBegun g t disks rows columns lists 0 cells
    begun_none cells none = record {
      long = ap length none;
      each = λ i disk c at here. absurd (cc (sym here ∙ ap (λ (cs : List (CellValue D)). slice_get cs i) none));
    }

    pub begun_more : (n : ℕ) (cells : List (CellValue D)) (disk : D) (c : CellValue D) → HaveBegun g t disks rows columns lists n cells
        → slice_get disks n ≡ Some disk → HasBegunAt g t n disk (row_of rows n) (column_of columns n) (list_of lists n) c
        → HaveBegun g t disks rows columns lists (n + 1) (cells ++ c ∷ [])
    begun_more n cells disk c h at one = record {
      long = length-append cells (c ∷ []) ∙ omega (arith, h.long);
      each = λ i d x there here. step i d x there (slice_get-push_cases cells c x i here);
    }
      where
        step : (i : ℕ) (d : D) (x : CellValue D) → slice_get disks i ≡ Some d → ((i < length cells) × (slice_get cells i ≡ Some x)) ⊎ ((i ≡ length cells) × (c ≡ x))
            → HasBegunAt g t i d (row_of rows i) (column_of columns i) (list_of lists i) x
        step i d x there (inl before) = h.each i d x there before.1
        step i d x there (inr last) =
            let is : i ≡ n = last.0 ∙ h.long in
            let same : disk ≡ d = same_Some disk d (sym at ∙ ap (slice_get disks) (sym is) ∙ there) in
            let Here : ℕ → Type 0 = λ j. HasBegunAt g t j disk (row_of rows j) (column_of columns j) (list_of lists j) c in
            let Over : D → Type 0 = λ e. HasBegunAt g t i e (row_of rows i) (column_of columns i) (list_of lists i) c in
            let By : CellValue D → Type 0 = λ e. HasBegunAt g t i d (row_of rows i) (column_of columns i) (list_of lists i) e in
            subst By last.1 (subst Over same (subst Here (sym is) one))

    module _ (n : ℕ) (cells : List (CellValue D)) (h : HaveBegun g t disks rows columns lists n cells) where
      -- the disk of a site that began
      begun_of : (i : ℕ) (disk : D) → i < n → slice_get disks i ≡ Some disk
          → (now : D) × (slice_get (disks_of cells) i ≡ Some (Some now)) × LeavesDisk g t disk now × ((g.known now).faults ≡ (g.known disk).faults)
      begun_of i disk lt at =
          let there = at_place cells i (omega (arith, lt, h.long)) in
          let begun = h.each i disk there.0 at there.1 in (
            begun.now,
            slice_get-map (λ (c : CellValue D). c.node.disk) cells i ∙ ap (option_map (λ (c : CellValue D). c.node.disk)) there.1 ∙ ap (λ o. Some o) begun.now_is,
            begun.leaves,
            begun.faultless,
          )

      -- what a site that began left of its disk
      pub left_of : (i : ℕ) (disk : D) → i < n → slice_get disks i ≡ Some disk → (now : D) × (slice_get (disks_of cells) i ≡ Some (Some now)) × LeavesDisk g t disk now
      left_of i disk lt at = let begun = begun_of i disk lt at in (begun.0, begun.1, begun.2)

      pub had_none_before : (i : ℕ) (disk : D) (bytes : List ℕ) → i < n → slice_get disks i ≡ Some disk → HasOnly g bytes disk → HasNoRecord (shape_of t) bytes
      had_none_before i disk bytes lt at has =
          let there = at_place cells i (omega (arith, lt, h.long)) in
          (h.each i disk there.0 at there.1).had_none bytes has

      -- all began
      pub none_had : n ≡ length disks → HadNoRecords g t disks
      none_had all i disk bytes at has = let lt = slice_get_within disks i disk at in had_none_before i disk bytes (omega (arith, lt, all)) at has

      -- the next did not begin, and all disks come back
      module _ (disk failed : D) (rest : List D) (unbuilt : Unbuilt D) (next : slice_get disks n ≡ Some disk) (rest_is : rest ≡ drop (n + 1) disks)
          (is : map (λ (d : D). Some d) unbuilt.disks.items ≡ disks_of cells ++ map (λ (d : D). Some d) (failed ∷ rest)) where
        count : length (disks_of cells) ≡ n
        count = length-map cells (λ (c : CellValue D). c.node.disk) ∙ h.long

        failed_at : slice_get (disks_of cells ++ map (λ (d : D). Some d) (failed ∷ rest)) n ≡ Some (Some failed)
        failed_at = slice_get_behind (disks_of cells) (map (λ (d : D). Some d) (failed ∷ rest)) n 0 (omega (arith, count))

        rest_at : (i : ℕ) (d : D) → n < i → slice_get disks i ≡ Some d → slice_get (disks_of cells ++ map (λ (d : D). Some d) (failed ∷ rest)) i ≡ Some (Some d)
        rest_at i d past at =
            slice_get_behind (disks_of cells) (map (λ (d : D). Some d) (failed ∷ rest)) i (suc (i - (n + 1))) (omega (arith, past, count))
            ∙ slice_get-map (λ (d : D). Some d) rest (i - (n + 1))
            ∙ ap (option_map (λ (d : D). Some d)) (ap (λ ds. slice_get ds (i - (n + 1))) rest_is ∙ slice_get-drop disks (n + 1) i (i - (n + 1)) (omega (arith, past)) ∙ at)

        back_at : LeavesDisk g t disk failed → (i : ℕ) (d : D) → slice_get disks i ≡ Some d → (i < n) ⊎ (n ≤ i) → (i ≡ n) ⊎ (i ≡ n → ⊥)
            → (now : D) × (slice_get (disks_of cells ++ map (λ (d : D). Some d) (failed ∷ rest)) i ≡ Some (Some now)) × LeavesDisk g t d now
        back_at leaves i d at (inl before) _ =
            let left = left_of i d before at in
            (left.0, slice_get-append_left (disks_of cells) (map (λ (d : D). Some d) (failed ∷ rest)) (Some left.0) i left.1, left.2)
        back_at leaves i d at (inr past) (inl here) =
            let same : disk ≡ d = same_Some disk d (sym next ∙ ap (slice_get disks) (sym here) ∙ at) in
            (failed, ap (slice_get (disks_of cells ++ map (λ (d : D). Some d) (failed ∷ rest))) here ∙ failed_at, subst (λ e. LeavesDisk g t e failed) same leaves)
        back_at leaves i d at (inr past) (inr apart) = (d, rest_at i d (omega (arith, past, apart)) at, untouched g t d)

        pub all_back : LeavesDisk g t disk failed → LeavesDisks g t disks (Err unbuilt)
        all_back leaves i d at =
            let left = back_at leaves i d at (cases_lt i n) (cases_eq i n) in
            (left.0, ap (λ ds. slice_get ds i) is ∙ left.1, left.2)

        faultless_before : (i : ℕ) (d now : D) → i < n → slice_get disks i ≡ Some d → slice_get unbuilt.disks.items i ≡ Some now
            → (g.known now).faults ≡ (g.known d).faults
        faultless_before i d now early at back =
            let begun = begun_of i d early at in
            let its : Some begun.0 ≡ Some now = same_Some (Some begun.0) (Some now) (
            sym (slice_get-append_left (disks_of cells) (map (λ (d : D). Some d) (failed ∷ rest)) (Some begun.0) i begun.1)
            ∙ sym (ap (λ ds. slice_get ds i) is) ∙ slice_get-map (λ (d : D). Some d) unbuilt.disks.items i
            ∙ ap (option_map (λ (d : D). Some d)) back
            ) in
            let Now : D → Type 0 = λ e. (g.known e).faults ≡ (g.known d).faults in
            subst Now (same_Some begun.0 now its) begun.3

        pub why_none : unbuilt.site.0 ≡ n → ((bytes : List ℕ) → HasOnly g bytes disk → IsBegun (shape_of t) bytes (Err unbuilt.why))
            → IsFaultOfBegin (Err unbuilt.why) (g.known disk).faults (g.known failed).faults → IsWhyNone g t disks unbuilt
        why_none site why faults =
            let lt = slice_get_within disks n disk next in
            let who : (d : D) → slice_get disks unbuilt.site.0 ≡ Some d → disk ≡ d = λ d at. same_Some disk d (sym next ∙ ap (slice_get disks) (sym site) ∙ at) in
            record {
              there = omega (arith, lt, site);
              why = λ d bytes at has. why bytes (subst (HasOnly g bytes) (sym (who d at)) has);
              fault = λ d now at back.
                  let its : Some failed ≡ Some now = same_Some (Some failed) (Some now) (
                  sym failed_at ∙ sym (ap (λ ds. slice_get ds n) is) ∙ slice_get-map (λ (d : D). Some d) unbuilt.disks.items n
                  ∙ ap (option_map (λ (d : D). Some d)) (ap (slice_get unbuilt.disks.items) (sym site) ∙ back)
                  ) in
                  let Old : D → Type 0 = λ e. IsFaultOfBegin (Err unbuilt.why) (g.known e).faults (g.known now).faults in
                  let New : D → Type 0 = λ e. IsFaultOfBegin (Err unbuilt.why) (g.known disk).faults (g.known e).faults in
                  subst Old (who d at) (subst New (same_Some failed now its) faults);
              before = λ i d bytes early at has. had_none_before i d bytes (omega (arith, early, site)) at has;
              faultless = λ i d now early at back. faultless_before i d now (omega (arith, early, site)) at back;
              all_back = omega (
                arith,
                lt,
                count,
                ap length is,
                length-map unbuilt.disks.items (λ (d : D). Some d),
                length-append (disks_of cells) (map (λ (d : D). Some d) (failed ∷ rest)),
                length-map (failed ∷ rest) (λ (d : D). Some d),
                ap length rest_is,
                length-drop (n + 1) disks,
              );
            }
