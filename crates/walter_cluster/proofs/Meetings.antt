-- Cells that have stayed as they were, and two of them whose lane's ends have met.
use Rattle.std.proofs.Common.{◌≡◌, ◌≢◌, ◌⊎◌, ℕ, ◌+◌, ◌<◌, ◌≤◌, List, [], length, map, slice_get, refl, ap, sym, ◌∙◌, subst, arith, Some, None, option_map, inl, inr}
use Rattle.std.specs.Prelude.{slice_index_or, All}
use Rattle.std.proofs.lemmas.Bool.{cases_lt, cases_eq}
use Rattle.std.proofs.lemmas.Option.{slice_get-map, slice_get_past, slice_get_within}
use Rattle.walter_cell.specs.Cells.{CellValue, HaveMet}
use Rattle.walter_cell.specs.Cells as cell
use Rattle.walter_machine.specs.Comings.{IsSized}
use Rattle.walter_cell.specs.Lines.{IsLineAt, is_here}
use Rattle.walter_cell.specs.Nodes.{NodeValue, IsSound, arms_under, calls_under, is_told, places_in}
use Rattle.walter_cell.specs.Written.{AreWrittenAt}
use Rattle.walter_disk.specs.declared.disk.Disk.{Ghosts}
use Rattle.walter_lane.specs.Lanes.{Sending, Receiving}
use Rattle.walter_lane.specs.Rings.{Ring}
use Rattle.walter_lane.specs.declared.posted.Posted.{Posted}
use Rattle.walter_outbox.specs.Lanes.{put_to, arrived_from, met_to, ring_to, ring_from, no_ring, posted}
use Rattle.walter_rules.specs.declared.entry.Entry.{Entry}
use Rattle.walter_rules.specs.Knowledge.{site_at}
use Rattle.walter_rules.specs.Merges.{put_out_to, trail_of}
use Rattle.walter_trail.specs.Calls.{calls_of}
use Rattle.walter_cluster.specs.Benches.{trails_of, outs_at, ins_at, arms_at, calls_at, EachKeeps}
use Rattle.walter_cluster.specs.Meetings.{put_at, arrived_at, met_at, HaveLanes, HaveAllMet, HasStayed, HaveStayed, HasArrived, IsAsBefore}
use Rattle.walter_cluster.specs.Moments.{trail_at}
use Rattle.walter_cluster.proofs.Becoming.{become_self, become_on, become_same}
use Rattle.walter_cluster.proofs.Changes.{same_places, there_is, one_there, field_at, reads_same, others_same, ChangesTwo, first_now, second_was, rest_same}
use Rattle.walter_cluster.proofs.Keeping.{outs_long, ins_long}

module _ {D : Type 0} where
  -- ---- one cell

  pub stayed_self : (c : CellValue D) → HasStayed c c
  stayed_self c = record { node = refl; lines = refl; outs = refl; ins = refl; more = λ from. omega arith; sends = λ to. refl }

  pub stayed_on : (a b c : CellValue D) → HasStayed a b → HasStayed b c → HasStayed a c
  stayed_on a b c first second = record {
    node = second.node ∙ ap (λ (n : NodeValue D). record n { outs = c.node.outs }) first.node;
    lines = second.lines ∙ first.lines;
    outs = second.outs ∙ first.outs;
    ins = second.ins ∙ first.ins;
    more = λ from. let a = first.more from in let b = second.more from in omega (arith, a, b);
    sends = λ to. second.sends to ∙ first.sends to;
  }

  -- what stays keeps what each call keeps
  pub stayed_keeps : (g : Ghosts D) (a b : CellValue D) → HasStayed a b → cell.Keeps g a b
  stayed_keeps g a b stay = record {
    node = record {
      catalog = ap (λ (n : NodeValue D). n.catalog) stay.node;
      site = ap (λ (n : NodeValue D). n.site) stay.node;
      layout = ap (λ (n : NodeValue D). n.layout) stay.node;
      told = ap (λ (n : NodeValue D). is_told g n.disk) stay.node;
      rings = stay.outs;
      places = let e : places_in b.node ≡ places_in a.node = ap (λ (n : NodeValue D). places_in n) stay.node in omega (arith, e);
    };
    ins = stay.ins;
    more = stay.more;
    here = λ client. ap (λ ls. is_here ls client) stay.lines;
    connected = λ client bytes is.
        subst (λ (es : List Entry). IsLineAt bytes (calls_of client es) b.lines client) (sym (ap (λ (n : NodeValue D). n.trail) stay.node))
        (is.0, ap (λ ls. slice_get ls client) stay.lines ∙ is.1, is.2);
    answered = λ client first are.
        subst (λ (es : List Entry). AreWrittenAt first client es b.lines) (sym (ap (λ (n : NodeValue D). n.trail) stay.node))
        (are.0, ap (λ ls. slice_get ls client) stay.lines ∙ are.1, are.2);
  }

  -- ---- all cells

  pub have_stayed_self : (cells : List (CellValue D)) → HaveStayed cells cells
  have_stayed_self cells = become_self HasStayed stayed_self cells

  pub have_stayed_on : (old mid new : List (CellValue D)) → HaveStayed old mid → HaveStayed mid new → HaveStayed old new
  have_stayed_on old mid new first second = become_on HasStayed stayed_on old mid new first second

  module _ (old new : List (CellValue D)) (stay : HaveStayed old new) where
    pub stays_map : {Y : Type 0} (f : CellValue D → Y) → ((a b : CellValue D) → HasStayed a b → f b ≡ f a) → map f new ≡ map f old
    stays_map f same = same_places (map f new) (map f old) (λ n. elim (cases_lt n (length old)) [
      | inl within ↦
          let l = stay.long in
          let a = there_is old n within in
          let b = there_is new n (omega (arith, within, l)) in
          slice_get-map f new n
          ∙ (ap (option_map f) b.1
          ∙ (ap (λ y. Some y) (same a.0 b.0 (stay.each n a.0 b.0 a.1 b.1)) ∙ (sym (ap (option_map f) a.1) ∙ sym (slice_get-map f old n))))
      | inr past ↦
          let l = stay.long in
          slice_get-map f new n
          ∙ (ap (option_map f) (slice_get_past new n (omega (arith, past, l)))
          ∙ (sym (ap (option_map f) (slice_get_past old n past)) ∙ sym (slice_get-map f old n)))
    ])

    pub trails_stay : trails_of new ≡ trails_of old
    trails_stay = stays_map (λ (c : CellValue D). c.node.trail) (λ a b is. ap (λ (n : NodeValue D). n.trail) is.node)

    pub arms_stay : (g : Ghosts D) (i : ℕ) → arms_at g new i ≡ arms_at g old i
    arms_stay g i =
        become_same HasStayed old new stay (λ (c : CellValue D). arms_under g c.node.disk) (λ arms. arms) None
        (λ a b is. ap (λ (n : NodeValue D). arms_under g n.disk) is.node) i

    pub calls_stay : (g : Ghosts D) (i : ℕ) → calls_at g new i ≡ calls_at g old i
    calls_stay g i =
        become_same HasStayed old new stay (λ (c : CellValue D). calls_under g c.node.disk) (λ n. n) 0
        (λ a b is. ap (λ (n : NodeValue D). calls_under g n.disk) is.node) i

    pub each_stays : (g : Ghosts D) → EachKeeps g old new
    each_stays g = record { long = stay.long; each = λ i a b at is. stayed_keeps g a b (stay.each i a b at is) }

    pub put_stays : (from to : ℕ) → put_at new from to ≡ put_at old from to
    put_stays from to =
        become_same HasStayed old new stay (λ (c : CellValue D). c.node.outs) (λ (os : List Sending). put_to os to) [] (λ a b is. is.sends to) from

    pub outs_ring : (from to : ℕ) → ring_to (outs_at new from) to ≡ ring_to (outs_at old from) to
    outs_ring from to =
        become_same HasStayed old new stay (λ (c : CellValue D). c.node.outs) (λ (os : List Sending). ring_to os to) []
        (λ a b is. ap (λ (rs : List Ring). slice_index_or rs to no_ring) is.outs) from

    pub ins_ring : (to from : ℕ) → ring_from (ins_at new to) from ≡ ring_from (ins_at old to) from
    ins_ring to from =
        become_same HasStayed old new stay (λ (c : CellValue D). c.ins) (λ (is : List Receiving). ring_from is from) []
        (λ a b is. ap (λ (rs : List Ring). slice_index_or rs from no_ring) is.ins) to

    outs_as_long : (from : ℕ) → length (outs_at new from) ≡ length (outs_at old from)
    outs_as_long from =
        become_same HasStayed old new stay (λ (c : CellValue D). c.node.outs) (λ (os : List Sending). length os) []
        (λ a b is. outs_long b.node.outs a.node.outs is.outs) from

    ins_as_long : (to : ℕ) → length (ins_at new to) ≡ length (ins_at old to)
    ins_as_long to =
        become_same HasStayed old new stay (λ (c : CellValue D). c.ins) (λ (is : List Receiving). length is) []
        (λ a b is. ins_long b.ins a.ins is.ins) to

    pub lanes_stay : HaveLanes old → HaveLanes new
    lanes_stay lanes = record {
      outs = λ from to a b. let l = stay.long in let o = outs_as_long from in let w = lanes.outs from to (omega (arith, a, l)) (omega (arith, b, l)) in omega (arith, o, w);
      ins = λ to from a b. let l = stay.long in let o = ins_as_long to in let w = lanes.ins to from (omega (arith, a, l)) (omega (arith, b, l)) in omega (arith, o, w);
      rings = λ to from a b. let l = stay.long in outs_ring from to ∙ (lanes.rings to from (omega (arith, a, l)) (omega (arith, b, l)) ∙ sym (ins_ring to from));
      among = λ i c at.
          let within = slice_get_within new i c at in
          let l = stay.long in
          let a = there_is old i (omega (arith, within, l)) in
          ap (λ (n : NodeValue D). n.catalog.sites) (stay.each i a.0 c a.1 at).node ∙ (lanes.among i a.0 a.1 ∙ sym l);
    }

  -- ---- two cells whose ends have met

  -- what the meeting of the lane between two cells leaves of them, x of the receiver a and y of the sender b
  pub record Meets (g : Ghosts D) (to from : ℕ) (a b x y : CellValue D) : Type 0 where
    pub keeps_receiver : cell.Keeps g a x
    pub keeps_sender : cell.Keeps g b y
    pub met : HaveMet to from a b x y

  receiver_stays : (g : Ghosts D) (to from : ℕ) (a b x y : CellValue D) → cell.Keeps g a x → HaveMet to from a b x y → HasStayed a x
  receiver_stays g to from a b x y keeps met = record {
    node = met.node ∙ ap (λ (n : NodeValue D). record a.node { outs = n.outs }) (sym met.node);
    lines = met.lines;
    outs = keeps.node.rings;
    ins = keeps.ins;
    more = keeps.more;
    sends = λ k. ap (λ (n : NodeValue D). put_to n.outs k) met.node;
  }

  sender_stays : (g : Ghosts D) (to from : ℕ) (a b x y : CellValue D) → cell.Keeps g b y → HaveMet to from a b x y → HasStayed b y
  sender_stays g to from a b x y keeps met = record {
    node = met.sender_node;
    lines = met.sender_lines;
    outs = keeps.node.rings;
    ins = keeps.ins;
    more = keeps.more;
    sends = met.put;
  }

  module _ (g : Ghosts D) (old new : List (CellValue D)) (to from : ℕ) (a b x y : CellValue D)
      (two : ChangesTwo old new to from a b x y) (meets : Meets g to from a b x y) where
    pub meet_stays : HaveStayed old new
    meet_stays = record {
      long = two.second.long ∙ two.first.long;
      each = λ i before after at is. elim (cases_eq i to) [
        | inl here ↦
            let was = one_there old to a before two.first.was (ap (slice_get old) (sym here) ∙ at) in
            let now = one_there new to x after (first_now old new to from a b x y two) (ap (slice_get new) (sym here) ∙ is) in
            subst (λ (c : CellValue D). HasStayed c after) was (subst (λ (c : CellValue D). HasStayed a c) now (receiver_stays g to from a b x y meets.keeps_receiver meets.met))
        | inr not_to ↦ elim (cases_eq i from) [
          | inl here ↦
              let was = one_there old from b before (second_was old new to from a b x y two) (ap (slice_get old) (sym here) ∙ at) in
              let now = one_there new from y after two.second.now (ap (slice_get new) (sym here) ∙ is) in
              subst (λ (c : CellValue D). HasStayed c after) was (subst (λ (c : CellValue D). HasStayed b c) now (sender_stays g to from a b x y meets.keeps_sender meets.met))
          | inr not_from ↦
              let same = one_there new i before after (rest_same old new to from a b x y two i not_to not_from ∙ at) is in
              subst (λ (c : CellValue D). HasStayed before c) same (stayed_self before)
        ]
      ];
    }

    arrived_now : arrived_at new to from ≡ arrived_from x.ins from
    arrived_now =
        ap (λ (is : List Receiving). arrived_from is from)
        (field_at (λ (c : CellValue D). c.ins) new to x [] (first_now old new to from a b x y two))

    arrived_was : arrived_at old to from ≡ arrived_from a.ins from
    arrived_was =
        ap (λ (is : List Receiving). arrived_from is from) (field_at (λ (c : CellValue D). c.ins) old to a [] two.first.was)

    pub meet_arrives : HaveLanes old → arrived_from x.ins from ≡ map (posted b.node.catalog.sites) (put_out_to (site_at to) b.node.trail)
        → IsSound g b.node → HasArrived old new to from
    meet_arrives lanes all sound =
        let there = second_was old new to from a b x y two in
        let trail = field_at (λ (c : CellValue D). c.node.trail) old from b [] there in
        let among = lanes.among from b there in
        record {
          all = arrived_now
              ∙ (all
              ∙ (ap (λ (n : ℕ). map (posted n) (put_out_to (site_at to) b.node.trail)) among
              ∙ ap (λ (es : List Entry). map (posted (length old)) (put_out_to (site_at to) es)) (sym trail)));
          sized = subst (λ (es : List Entry). All (λ (e : Entry). IsSized (length old) e.came) es) (sym trail)
              (subst (λ (n : ℕ). All (λ (e : Entry). IsSized n e.came) b.node.trail) among sound.sized);
        }

    meet_others : (i j : ℕ) → j ≢ from → IsAsBefore old new i j
    meet_others i j apart =
        let of : CellValue D → List Receiving = λ c. c.ins in
        let read : List Receiving → List Posted = λ is. arrived_from is j in
        reads_same of two.mid new from b y two.second read [] (ap (λ (is : List Receiving). arrived_from is j) meets.met.sender_ins) i
        ∙ reads_same of old two.mid to a x two.first read [] (meets.met.other j apart) i

    meet_elsewhere_to : (i : ℕ) → i ≢ to → IsAsBefore old new i from
    meet_elsewhere_to i apart =
        let of : CellValue D → List Receiving = λ c. c.ins in
        let read : List Receiving → List Posted = λ is. arrived_from is from in
        reads_same of two.mid new from b y two.second read [] (ap (λ (is : List Receiving). arrived_from is from) meets.met.sender_ins) i
        ∙ ap read (others_same of old two.mid to a x two.first [] i apart)

    pub meet_elsewhere : (i j : ℕ) → (i ≢ to) ⊎ ((j ≢ from) ⊎ (j ≡ to)) → IsAsBefore old new i j
    meet_elsewhere i j else_ = elim (cases_eq j from) [
      | inl is ↦
          let not_to : i ≢ to = elim else_ [
            | inl apart ↦ apart
            | inr rest ↦ elim rest [
              | inl apart ↦ absurd (apart is)
              | inr own ↦ absurd (two.apart (sym own ∙ is))
            ]
          ] in
          subst (λ n. IsAsBefore old new i n) (sym is) (meet_elsewhere_to i not_to)
      | inr apart ↦ meet_others i j apart
    ]

    other_mets : (j i : ℕ) → i ≢ to → met_at new j i ≡ met_at old j i
    other_mets j i apart =
        let of : CellValue D → List Sending = λ c. c.node.outs in
        let read : List Sending → ℕ = λ os. met_to os i in
        reads_same of two.mid new from b y two.second read [] (meets.met.other_mets i apart) j
        ∙ reads_same of old two.mid to a x two.first read [] (ap (λ (n : NodeValue D). met_to n.outs i) meets.met.node) j

    mets_of_others : (j i : ℕ) → j ≢ from → met_at new j i ≡ met_at old j i
    mets_of_others j i apart =
        let of : CellValue D → List Sending = λ c. c.node.outs in
        let read : List Sending → ℕ = λ os. met_to os i in
        ap read (others_same of two.mid new from b y two.second [] j apart)
        ∙ reads_same of old two.mid to a x two.first read [] (ap (λ (n : NodeValue D). met_to n.outs i) meets.met.node) j

    met_now : met_at new from to ≡ met_to y.node.outs to
    met_now = ap (λ (os : List Sending). met_to os to) (field_at (λ (c : CellValue D). c.node.outs) new from y [] two.second.now)

    met_was : met_at old from to ≡ met_to b.node.outs to
    met_was =
        ap (λ (os : List Sending). met_to os to)
        (field_at (λ (c : CellValue D). c.node.outs) old from b [] (second_was old new to from a b x y two))

    pub meet_met : HaveAllMet old → HaveAllMet new
    meet_met all i j = elim (cases_eq i to) [
      | inl here ↦ elim (cases_eq j from) [
        | inl of ↦
            let was = sym met_was ∙ (all to from ∙ ap length arrived_was) in
            let now = met_now ∙ (meets.met.met was ∙ ap length (sym arrived_now)) in
            subst (λ n. met_at new n i ≡ length (arrived_at new i n)) (sym of)
            (subst (λ n. met_at new from n ≡ length (arrived_at new n from)) (sym here) now)
        | inr apart ↦ mets_of_others j i apart ∙ (all i j ∙ ap length (sym (meet_others i j apart)))
      ]
      | inr apart ↦ other_mets j i apart ∙ (all i j ∙ ap length (sym (meet_elsewhere i j (inl apart))))
    ]

  -- ---- one sender after another

  pub lane_there : (cells : List (CellValue D)) (to from : ℕ) (a b : CellValue D) → slice_get cells to ≡ Some a
      → slice_get cells from ≡ Some b → HaveLanes cells
      → (from < length a.ins) × (to < length b.node.outs) × (ring_to b.node.outs to ≡ ring_from a.ins from)
  lane_there cells to from a b at there lanes =
      let below = slice_get_within cells to a at in
      let within = slice_get_within cells from b there in
      let ins = field_at (λ (c : CellValue D). c.ins) cells to a [] at in
      let outs = field_at (λ (c : CellValue D). c.node.outs) cells from b [] there in (
        subst (λ (is : List Receiving). from < length is) ins (lanes.ins to from below within),
        subst (λ (os : List Sending). to < length os) outs (lanes.outs from to within below),
        sym (ap (λ (os : List Sending). ring_to os to) outs) ∙ (lanes.rings to from below within ∙ ap (λ (is : List Receiving). ring_from is from) ins),
      )

  module _ (init mid new : List (CellValue D)) (stay : HaveStayed init mid) (to n : ℕ)
      (elsewhere : (i j : ℕ) → (i ≢ to) ⊎ ((j ≢ n) ⊎ (j ≡ to)) → IsAsBefore mid new i j) where
    pub arrived_more : ((j : ℕ) → j < n → j ≢ to → HasArrived init mid to j) → (n ≢ to → HasArrived mid new to n)
        → (j : ℕ) → j < n + 1 → j ≢ to → HasArrived init new to j
    arrived_more all last j below apart = elim (cases_eq j n) [
      | inl is ↦
          let l = last (λ e. apart (is ∙ e)) in
          let trail = ap (λ (ts : List (List Entry)). trail_of ts (site_at n)) (trails_stay init mid stay) in
          subst (λ (m : ℕ). HasArrived init new to m) (sym is) (record {
            all = l.all
                ∙ (ap (λ (m : ℕ). map (posted m) (put_out_to (site_at to) (trail_at mid (site_at n)))) stay.long
                ∙ ap (λ (es : List Entry). map (posted (length init)) (put_out_to (site_at to) es)) trail);
            sized = subst (λ (es : List Entry). All (λ (e : Entry). IsSized (length init) e.came) es) trail
                (subst (λ (m : ℕ). All (λ (e : Entry). IsSized m e.came) (trail_at mid (site_at n))) stay.long l.sized);
          })
      | inr other ↦ (let was = all j (omega (arith, below, other)) apart in record { all = elsewhere to j (inr (inl other)) ∙ was.all; sized = was.sized })
    ]

    pub before_more : ((i j : ℕ) → (i ≢ to) ⊎ ((j ≡ to) ⊎ (n ≤ j)) → IsAsBefore init mid i j)
        → (i j : ℕ) → (i ≢ to) ⊎ ((j ≡ to) ⊎ (n + 1 ≤ j)) → IsAsBefore init new i j
    before_more all i j (inl apart) = elsewhere i j (inl apart) ∙ all i j (inl apart)
    before_more all i j (inr (inl own)) = elsewhere i j (inr (inr own)) ∙ all i j (inr (inl own))
    before_more all i j (inr (inr later)) = elsewhere i j (inr (inl (λ e. absurd (omega (arith, e, later))))) ∙ all i j (inr (inr (omega (arith, later))))

    pub before_kept : ((i j : ℕ) → (i ≢ to) ⊎ ((j ≡ to) ⊎ (n ≤ j)) → IsAsBefore init mid i j)
        → (i j : ℕ) → (i ≢ to) ⊎ (j ≡ to) → IsAsBefore init new i j
    before_kept all i j (inl apart) = elsewhere i j (inl apart) ∙ all i j (inl apart)
    before_kept all i j (inr own) = elsewhere i j (inr (inr own)) ∙ all i j (inr (inl own))

  pub before_all : (init mid : List (CellValue D)) (to n : ℕ) → ((i j : ℕ) → (i ≢ to) ⊎ ((j ≡ to) ⊎ (n ≤ j)) → IsAsBefore init mid i j)
      → (i j : ℕ) → (i ≢ to) ⊎ (j ≡ to) → IsAsBefore init mid i j
  before_all init mid to n all i j (inl apart) = all i j (inl apart)
  before_all init mid to n all i j (inr own) = all i j (inr (inl own))
