use Rattle.std.proofs.Common.{◌≡◌, ◌∙◌, arith}
use Rattle.bp_layout.specs.Inode.{root_of, size_of}
use Rattle.std.proofs.lemmas.Result.{err_from_is_err_and}
use Rattle.pm_region.specs.Memory.{current_words}
use Rattle.bp_scan.proofs.Inside.{inodes_sound}
use Rattle.bp_scan.proofs.DirectoryLaws.{begun_sound, begun_full, begun_known, begun_walk_fault, finished}
use Rattle.bp_scan.proofs.directories.read_directory.Goals.{After-of-tree}
use Rattle.bp_scan.proofs.directories.read_directory.Given as given
use Rattle.bp_scan.proofs.directories.read_directory.Goals as goal

-- the tree that was read is the directory's
read : (g : given.Over) (c : goal.After-of-tree g) →
    (c.of-tree.result.root ≡ root_of (current_words (g.R.Region.memory c.args.region.now)) c.args.ino)
    × (c.of-tree.result.size ≡ size_of (current_words (g.R.Region.memory c.args.region.now)) c.args.ino)
read g c = (c.of-tree.ensures.root ∙ c.get-words.ensures.root, c.of-tree.ensures.size ∙ c.get-words.ensures.size)

pub get-words-requires-clause-sound : goal.get-words-requires-clause-sound
get-words-requires-clause-sound g c =
    inodes_sound (current_words (g.R.Region.memory c.args.region.now)) c.args.work.now c.args.ino 0 c.requires.at_hand.reading

pub check-requires-clause-sound : goal.check-requires-clause-sound
check-requires-clause-sound g c =
    let is = read g (goal.at.check-requires-clause-sound g c).After-of-tree in
    begun_sound (current_words (g.R.Region.memory c.args.region.now)) c.args.work.now
    (record { inode = c.args.ino; tree = c.of-tree.result }) c.requires.at_hand is.0 is.1

pub check-requires-clause-full : goal.check-requires-clause-full
check-requires-clause-full g c =
    let is = read g (goal.at.check-requires-clause-full g c).After-of-tree in
    begun_full (current_words (g.R.Region.memory c.args.region.now)) c.args.work.now
    (record { inode = c.args.ino; tree = c.of-tree.result }) c.requires.at_hand is.0 is.1

pub check-requires-clause-most : goal.check-requires-clause-most
check-requires-clause-most g c =
    let sized = c.requires.at_hand.reading.ready.formatted.sized in
    omega (arith, sized.whole, sized.at_most)

pub check-requires-clause-right : goal.check-requires-clause-right
check-requires-clause-right g c = λ is.
    let read_is = read g (goal.at.check-requires-clause-right g c).After-of-tree in
    begun_known (current_words (g.R.Region.memory c.args.region.now)) c.args.work.now
    (record { inode = c.args.ino; tree = c.of-tree.result }) c.requires.at_hand read_is.0 read_is.1 (c.requires.known is)

pub returns-in_err-check-clause-fault : goal.returns-in_err-check-clause-fault
returns-in_err-check-clause-fault g c =
    let is = read g (goal.at.returns-in_err-check-clause-fault g c).After-of-tree in
    let p = err_from_is_err_and c.from_residual.result c.from_residual.ensures.1 in
    rw (p.1, p.2) (begun_walk_fault (current_words (g.R.Region.memory c.args.region.now)) c.args.work.now
    (record { inode = c.args.ino; tree = c.of-tree.result }) c.requires.at_hand is.0 is.1
    g.N.NameCheck.known c.in_err-check.field-0.0 c.in_err-check.ensures.err)

pub returns-clause-done : goal.returns-clause-done
returns-clause-done g c =
    finished (current_words (g.R.Region.memory c.args.region.now)) c.read_entries.new.work (record { inode = c.args.ino; tree = c.of-tree.result }) c.in_ok-read_entries.ensures.inside
