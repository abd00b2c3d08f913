-- What one disk more adds to what was read of those before it.
use Rattle.std.specs.Prelude.{◌≡◌, ℕ, List, [], ◌∷◌, ◌++◌}
use Rattle.walter_audit.specs.Reading.{held}
use Rattle.walter_audit.specs.declared.content.Content.{Content as Kept}
use Rattle.walter_disk.specs.declared.disk.Disk.{Ghosts}
use Rattle.walter_inspect.specs.Inspections.{IsReadAs, IsUnread}
use Rattle.walter_inspect.specs.declared.inspecting.Unread.{Unread}

-- its content stands behind those before it
pub record IsNextOf {D : Type 0} (g : Ghosts D) (capacity sites : ℕ) (old new : D) (before after : List Kept)
    : Type 0 where
  pub content : Kept
  pub read : IsReadAs g capacity sites old new (held content)
  pub behind : after ≡ before ++ content ∷ []

-- it can't be read, as the disk of this site
pub record IsNextUnread {D : Type 0} (g : Ghosts D) (capacity sites : ℕ) (old new : D) (site : ℕ) (unread : Unread)
    : Type 0 where
  pub names : unread.site ≡ site
  pub why : IsUnread g capacity sites old new unread.why
