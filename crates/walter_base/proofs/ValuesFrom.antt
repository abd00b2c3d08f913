-- What an object holds after updates in two parts.
use Rattle.std.proofs.Common.{◌≡◌, ℕ, List, [], ◌∷◌, ◌++◌, Option, refl}
use Rattle.walter_base.specs.declared.names.ObjId.{ObjId}
use Rattle.walter_base.specs.declared.update.Update.{Update}
use Rattle.walter_base.specs.Values.{held_after, value_from}

pub value_from-append : (held : Option (List ℕ)) (oid : ObjId) (us vs : List Update) → value_from held oid (us ++ vs) ≡ value_from (value_from held oid us) oid vs
value_from-append held oid [] vs = refl
value_from-append held oid (u ∷ us) vs = value_from-append (held_after oid held u) oid us vs
