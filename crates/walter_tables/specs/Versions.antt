-- The versions of an object that the tables have: those of its writes, folded or not.
use Rattle.std.specs.Prelude.{List}
use Rattle.walter_base.specs.declared.names.ObjId.{ObjId}
use Rattle.walter_base.specs.declared.names.Version.{Version}
use Rattle.walter_history.specs.Lines.{Table, kept_of}

abbrev pub versions_of : Table → ObjId → List Version
versions_of history oid = (kept_of history oid).versions
