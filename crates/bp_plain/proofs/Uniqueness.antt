-- An image stands for at most one tree.
use Rattle.std.proofs.Common.{◌≡◌, true≢false, Option, None, Some, refl, sym, ◌∙◌, ap}
use Rattle.std.specs.FinMap.{same_map}
use Rattle.bp_layout.specs.Lookup.{file_at}
use Rattle.bp_layout.specs.Trees.{snapshot_of}
use Rattle.bp_layout.specs.Words.{Image}
use Rattle.bp_plain.specs.PlainTree.{FileTree, PathMap}
use Rattle.bp_plain.specs.Stands.{Shows, ShowsSnapshot, Stands}
use Rattle.bp_plain.proofs.Kernels.{kernel_once}
use Rattle.bp_plain.proofs.PathOrder.{path_cmp-IsAntisymmetric, path_cmp-IsTotalOrder}

pub shows_once : (image : Image) (one other : PathMap) → Shows image one → Shows image other → one ≡ other
shows_once image one other a b =
    let nodes : one.nodes ≡ other.nodes = same_map path_cmp-IsTotalOrder path_cmp-IsAntisymmetric one.nodes other.nodes (λ path. a.shows path ∙ sym (b.shows path)) in
    let pairs : one.one ≡ other.one = kernel_once (file_at image) one.one other.one (record { each = a.one }) (record { each = b.one }) in
    λ i. record { nodes = nodes i; one = pairs i }

snap_once : (image : Image) (one other : Option PathMap) → ShowsSnapshot image one → ShowsSnapshot image other → one ≡ other
snap_once image None None a b = refl
snap_once image None (Some map) a b = absurd (true≢false (sym b.0 ∙ a))
snap_once image (Some map) None a b = absurd (true≢false (sym a.0 ∙ b))
snap_once image (Some map) (Some other) a b = ap (λ m. Some m) (shows_once (snapshot_of image) map other a.1 b.1)

pub stands_once : (image : Image) (tree other : FileTree) → Stands image tree → Stands image other → tree ≡ other
stands_once image tree other a b =
    let version : tree.version ≡ other.version = a.version ∙ sym b.version in
    let now : tree.now ≡ other.now = shows_once image tree.now other.now a.now b.now in
    let snap : tree.snap ≡ other.snap = snap_once image tree.snap other.snap a.snap b.snap in
    λ i. record { version = version i; now = now i; snap = snap i }
