use Rattle.std.proofs.Common.{map}
use Rattle.walter_tables.specs.Sites.{site_of, catalog_of}
use Rattle.walter_audit.proofs.Readers.{IsReadTo}
use Rattle.walter_audit.proofs.reading.read_bodies.Given as goal

-- the bodies so far tell these records, and the tables stand for what they tell
abbrev pub invariant-loop-index : goal.invariant-loop-index
invariant-loop-index l = IsReadTo (catalog_of l.fn.tables) (site_of l.fn.tables) l.fn.header (map (λ body. body.items) l.bodies) l.index
    l.tables l.format l.records.items
