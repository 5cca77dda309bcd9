use Rattle.std.proofs.Common.{◌≡◌, ◌<◌, ◌∷◌, [], ℕ, List, length, take, true, sym, ◌∙◌, ap, ap₂, subst, arith, inl, refl}
use Rattle.bp_calls.proofs.CoverPaths.{writes_prefix, writes_there}
use Rattle.bp_calls.proofs.NothingInSnapshot.{clear_at_once}
use Rattle.bp_calls.proofs.WriteTargets.{below_at, file_some, write_ways_at}
use Rattle.bp_layout.specs.Inode.{size_of}
use Rattle.bp_layout.specs.Members.{Has}
use Rattle.bp_layout.specs.Need.Change.{writes}
use Rattle.bp_layout.specs.Thaw.{cover_now, is_there_now, thawed_on}
use Rattle.bp_layout.specs.WordPaths.{WordPath}
use Rattle.bp_layout.specs.Words.{Image}
use Rattle.bp_changes.specs.Sets.{in_snapshot_of}
use Rattle.bp_thaw.specs.Prefixes.{IsWayIn}
use Rattle.pm_region.specs.Memory.{current_words}
use Rattle.bp_calls.proofs.writes.is_clear_below.Goals as goal

pub returns-then-count-eq0 : goal.returns-then-count-eq0
returns-then-count-eq0 g c =
    λ is. clear_at_once g.R.Region.memory (writes c.args.ino c.args.run.now.offset (length c.args.run.now.bytes.now)) c.args.parts.now c.requires.mounted (sym c.count.ensures ∙ c.if-count-eq0.true)

pub is_clear-requires-clause-way : goal.is_clear-requires-clause-way
is_clear-requires-clause-way g c =
    let image : Image = current_words (g.R.Region.memory c.args.parts.now.region) in
    let run = c.args.run.now in
    let cover : WordPath = cover_now image (writes c.args.ino run.offset (length run.bytes.now)) in
    let low : run.offset < size_of image c.args.ino = omega (arith, c.requires.below, c.requires.can.some) in
    let same : c.truncate.new.self.items ≡ cover = c.truncate.ensures.items ∙ ap₂ take c.requires.cover c.content_path-path.ensures ∙ writes_prefix image c.args.ino run.offset (length run.bytes.now) low in
    let file = file_some image c.args.ino c.requires.can.file in
    let wf = c.requires.mounted.well_formed in
    subst (IsWayIn image) (sym same)
    (write_ways_at image wf c.args.ino run.offset (length run.bytes.now) file c.requires.can.reached c.requires.can.some cover
    (subst (λ (ps : List WordPath). Has ps cover) (sym (below_at image wf c.args.ino run.offset (length run.bytes.now) file c.requires.can.reached c.requires.below)) (inl refl)))

pub is_clear-requires-clause-there : goal.is_clear-requires-clause-there
is_clear-requires-clause-there g c =
    let image : Image = current_words (g.R.Region.memory c.args.parts.now.region) in
    let run = c.args.run.now in
    let low : run.offset < size_of image c.args.ino = omega (arith, c.requires.below, c.requires.can.some) in
    let same : c.truncate.new.self.items ≡ cover_now image (writes c.args.ino run.offset (length run.bytes.now)) = c.truncate.ensures.items ∙ ap₂ take c.requires.cover c.content_path-path.ensures ∙ writes_prefix image c.args.ino run.offset (length run.bytes.now) low in
    subst (λ (path : WordPath). (depth : ℕ) → depth < length path → is_there_now image (take depth path) ≡ true) (sym same)
    (λ depth less. writes_there image c.args.ino run.offset (length run.bytes.now) depth less)

pub returns : goal.returns
returns g c =
    let image : Image = current_words (g.R.Region.memory c.args.parts.now.region) in
    let run = c.args.run.now in
    let low : run.offset < size_of image c.args.ino = omega (arith, c.requires.below, c.requires.can.some) in
    let same : c.truncate.new.self.items ≡ cover_now image (writes c.args.ino run.offset (length run.bytes.now)) = c.truncate.ensures.items ∙ ap₂ take c.requires.cover c.content_path-path.ensures ∙ writes_prefix image c.args.ino run.offset (length run.bytes.now) low in
    λ yes. subst (λ (ps : List WordPath). thawed_on image (in_snapshot_of c.args.parts.now) ps ≡ [])
    (ap (λ (path : WordPath). path ∷ []) same ∙ sym (below_at image c.requires.mounted.well_formed c.args.ino run.offset (length run.bytes.now) (file_some image c.args.ino c.requires.can.file) c.requires.can.reached c.requires.below))
    (c.is_clear.ensures.0 yes)
