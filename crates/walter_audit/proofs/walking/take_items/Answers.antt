use Rattle.std.proofs.Common.{◌≡◌, ◌+◌, ◌<◌, ◌++◌, ◌∷◌, [], length, set, slice_index, sym, ◌∙◌, ap, subst, arith}
use Rattle.std.specs.HashSet.{contains}
use Rattle.std.specs.List.{list_any}
use Rattle.std.proofs.lemmas.List.{length-replicate, get_or_read}
use Rattle.walter_audit.specs.Orders.{Taken}
use Rattle.walter_audit.specs.Walks.{same_version, IsNext, AreStuck}
use Rattle.walter_audit.proofs.Queued.{of_some, of_none}
use Rattle.walter_audit.proofs.Walks.{IsWalkTo, walk_begun, walk_more, walk_ends, left_total, total_falls, zeros_at}
use Rattle.walter_audit.proofs.walking.take_items.Goals as goal

pub loop-cursors-init : goal.loop-cursors-init
loop-cursors-init c =
    let queues = c.args.queues.now in
    let zeros = c.in_ok-cursors.ensures.items_if_clones_equal (λ y e. e) in
    subst (λ order. IsWalkTo queues (contains same_version c.new-taken.result) order c.in_ok-cursors.cursors.items)
    (sym c.new-order.ensures.items)
    (walk_begun queues (contains same_version c.new-taken.result) c.in_ok-cursors.cursors.items
    (ap length zeros ∙ length-replicate (length queues) 0) (zeros_at c.in_ok-cursors.cursors.items (length queues) zeros)
    (λ v. ap (λ keys. list_any (same_version v) keys) c.new-taken.ensures.empty))

-- the next item, and the number that stands there
next_of : (c : goal.After-cursors-in-Some-2-1)
    → IsNext (contains same_version c.loop-cursors.taken) c.args.queues.now c.loop-cursors.cursors.items c.in-Some.n c.in-Some.item
next_of c =
    let has = contains same_version c.loop-cursors.taken in
    subst (λ cursors. IsNext has c.args.queues.now cursors c.in-Some.n c.in-Some.item) c.deref.ensures.value
    (of_some (λ (x, y). IsNext has c.args.queues.now c.deref.result.now x y) c.in_ok-n.field-0 (c.in-Some.n, c.in-Some.item)
    c.in-Some.is c.in_ok-n.ensures.some)

value_of : (c : goal.After-cursors-in-Some-2-1)
    → c.index_mut.result.now ≡ slice_index c.loop-cursors.cursors.items c.in-Some.n
value_of c =
    let old = c.loop-cursors.cursors.items in
    let sized = c.loop-cursors.invariant.sized in
    let within = (next_of c).within in
    get_or_read old c.in-Some.n c.index_mut.result.now (omega (arith, sized, within)) c.index_mut.ensures.value 0

-- it is no more than were taken, and these are in memory
pub overflow_add-index_mut : goal.overflow_add-index_mut
overflow_add-index_mut c =
    let has = contains same_version c.loop-cursors.taken in
    let old = c.loop-cursors.cursors.items in
    let order = c.loop-cursors.order in
    let next = of_some (λ (x, y). IsNext has c.args.queues.now c.deref.result.now x y) c.in_ok-n.field-0 (c.in-Some.n, c.in-Some.item)
    c.in-Some.is c.in_ok-n.ensures.some in
    let sized = c.loop-cursors.invariant.sized in
    let within = next.within in
    let value = get_or_read old c.in-Some.n c.index_mut.result.now (omega (arith, sized, within)) c.index_mut.ensures.value 0 in
    let few = c.loop-cursors.invariant.few c.in-Some.n in
    let long = order.ok.0 in
    let fits = order.ok.1 in
    let small = order.small in
    omega (arith, value, few, long, fits, small)

pub loop-cursors-preserved : goal.loop-cursors-preserved
loop-cursors-preserved c =
    let queues = c.args.queues.now in
    let n = c.in-Some.n in
    let old = c.loop-cursors.cursors.items in
    let new = contains same_version c.note_commit.new.taken in
    let one : Taken = (record { 0 = n }, c.in-Some.item) in
    subst (λ order. IsWalkTo queues new order (set old n (c.index_mut.result.now + 1))) (sym c.in_ok-push.ensures.items)
    (subst (λ m. IsWalkTo queues new (c.loop-cursors.order.items ++ one ∷ []) (set old n (m + 1))) (sym (value_of c))
    (walk_more queues (contains same_version c.loop-cursors.taken) c.loop-cursors.order.items old c.loop-cursors.invariant n
    c.in-Some.item (next_of c) new c.in_ok-note_commit.ensures))

pub loop-cursors-smaller : goal.loop-cursors-smaller
loop-cursors-smaller c =
    let queues = c.args.queues.now in
    let n = c.in-Some.n in
    let old = c.loop-cursors.cursors.items in
    subst (λ m. left_total queues (set old n (m + 1)) < left_total queues old) (sym (value_of c))
    (total_falls queues old n c.in-Some.item c.loop-cursors.invariant.sized (next_of c).next)

pub returns : goal.returns
returns c =
    let has = contains same_version c.loop-cursors.taken in
    walk_ends c.args.queues.now has c.loop-cursors.order.items c.loop-cursors.cursors.items c.loop-cursors.invariant
    (subst (λ cursors. AreStuck has c.args.queues.now cursors) c.deref.ensures.value
    (of_none c.in_ok-n.field-0 c.in_default.not-Some c.in_ok-n.ensures.none))
