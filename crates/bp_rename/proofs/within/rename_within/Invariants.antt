use Rattle.pm_region.specs.Memory.{current_words}
use Rattle.bp_layout.specs.Inode.{size_of}
use Rattle.bp_rename.proofs.within.rename_within.Given as goal

abbrev pub ghost-commit_at : goal.ghost-commit_at
ghost-commit_at g a = size_of (current_words (g.R.Region.memory a.parts.now.region))
