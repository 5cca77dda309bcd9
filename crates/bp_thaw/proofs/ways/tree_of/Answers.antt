use Rattle.std.proofs.Common.{◌≡◌, ◌≢◌, ℕ, zero, suc, ◌+◌, ◌*◌, refl, ◌∙◌, ap, arith}
use Rattle.pm_region.specs.Memory.{current_words}
use Rattle.bp_layout.specs.Reached.IsReached.{inode_file}
use Rattle.bp_layout.specs.Tree.{content_word}
use Rattle.bp_layout.specs.Inode.{root_of, size_of}
use Rattle.bp_layout.specs.Words.{Image, word}
use Rattle.bp_layout.proofs.Reached.{reached-in_file}
use Rattle.bp_thaw.proofs.ways.tree_of.Goals as goal

root_is : (image : Image) (inode : ℕ) → inode ≢ 0 → content_word image (word image 2) (8 * inode + 1) ≡ root_of image inode
root_is image zero some = absurd (some refl)
root_is image (suc i) some = refl

size_is : (image : Image) (inode : ℕ) → inode ≢ 0 → content_word image (word image 2) (8 * inode + 2) ≡ size_of image inode
size_is image zero some = absurd (some refl)
size_is image (suc i) some = refl

pub overflow_mul-first : goal.overflow_mul-first
overflow_mul-first g c = omega (arith, c.requires.few)

pub overflow_add-first : goal.overflow_add-first
overflow_add-first g c = omega (arith, c.requires.few)

pub content_word-requires-clause-sound : goal.content_word-requires-clause-sound
content_word-requires-clause-sound g c = rw (c.requires.file.0, c.requires.file.1) (c.requires.well_formed.sound 0 inode_file)

pub content_word-requires-clause-live : goal.content_word-requires-clause-live
content_word-requires-clause-live g c = omega (arith, reached-in_file (current_words (g.R.Region.memory c.args.region.now)) c.requires.well_formed c.args.inode c.requires.reached, c.requires.file.1)

pub overflow_add-first-2 : goal.overflow_add-first-2
overflow_add-first-2 g c = omega (arith, c.requires.few)

pub content_word-requires-2-clause-sound : goal.content_word-requires-2-clause-sound
content_word-requires-2-clause-sound g c = rw (c.requires.file.0, c.requires.file.1) (c.requires.well_formed.sound 0 inode_file)

pub content_word-requires-2-clause-live : goal.content_word-requires-2-clause-live
content_word-requires-2-clause-live g c = omega (arith, reached-in_file (current_words (g.R.Region.memory c.args.region.now)) c.requires.well_formed c.args.inode c.requires.reached, c.requires.file.1)

pub returns-clause-root : goal.returns-clause-root
returns-clause-root g c =
    let image = current_words (g.R.Region.memory c.args.region.now) in
    c.content_word.ensures ∙ ap (λ r. content_word image r (8 * c.args.inode + 1)) c.requires.file.0 ∙ root_is image c.args.inode c.requires.inode

pub returns-clause-size : goal.returns-clause-size
returns-clause-size g c =
    let image = current_words (g.R.Region.memory c.args.region.now) in
    c.content_word-2.ensures ∙ ap (λ r. content_word image r (8 * c.args.inode + 2)) c.requires.file.0 ∙ size_is image c.args.inode c.requires.inode
