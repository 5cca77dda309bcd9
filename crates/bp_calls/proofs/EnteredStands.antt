-- What the plain tree gains where a name came into a directory.
use Rattle.std.proofs.Common.{ℕ}
use Rattle.bp_layout.specs.Paths.{Name}
use Rattle.bp_layout.specs.WellFormed.{IsWellFormed}
use Rattle.bp_layout.specs.Words.{Image}
use Rattle.bp_layout.specs.declared.fields.Kind.{Kind}
use Rattle.bp_layout.specs.declared.fields.Kind.TheVariants.{File, Dir}
use Rattle.bp_stands.proofs.AddStands.{create_shows, mkdir_shows}
use Rattle.bp_stands.proofs.LinkStands.{link_shows}
use Rattle.bp_calls.specs.Created.{EntersName, LinksEntry}
use Rattle.bp_calls.specs.OnTrees.{GainsName, SharesName}

pub entered_gains : (old new : Image) → IsWellFormed old → (i : ℕ) (name : Name) (kind : Kind) → EntersName i name kind old new → GainsName i name kind old new
entered_gains old new wf i name File enters map here shows found =
    rw enters.name_is at (create_shows old new wf i enters.slot enters.inode enters.adds here found enters.kind_is map shows)
entered_gains old new wf i name Dir enters map here shows found =
    rw enters.name_is at (mkdir_shows old new wf i enters.slot enters.inode enters.adds here found enters.kind_is map shows)

-- and a file that was named in one is there too
pub linked_shares : (old new : Image) → IsWellFormed old → (i : ℕ) (name : Name) (j : ℕ) → LinksEntry i name j old new → SharesName i name j old new
linked_shares old new wf i name j links map from here shows file directory =
    rw links.name_is at (link_shows old new wf i links.slot j links.adds here from directory file map shows)
