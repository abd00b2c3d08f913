use Rattle.std.proofs.Common.{◌≡◌, ◌≢◌, Some, slice_get, sym, rules}
use Rattle.walter_objects.specs.Onto.{place_in}
use Rattle.walter_objects.proofs.Placed.{there_already, put_there}
use Rattle.walter_objects.proofs.objects.put.Goals as goal

pub returns-then-is_at : goal.returns-then-is_at
returns-then-is_at c =
    let oid = c.args.oid in
    let os = c.args.objects.now.items in
    let here : slice_get os (place_in oid os) ≡ Some oid = search rules in
    sym (there_already oid os here)

pub returns : goal.returns
returns c =
    let oid = c.args.oid in
    let os = c.args.objects.now.items in
    let none : slice_get os (place_in oid os) ≢ Some oid = search rules in
    let put = put_there oid os none in
    search rules
