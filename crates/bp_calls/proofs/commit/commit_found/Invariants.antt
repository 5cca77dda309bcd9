use Rattle.pm_region.specs.Memory.{current_words}
use Rattle.bp_layout.specs.Inode.{size_of}
use Rattle.bp_calls.proofs.commit.commit_found.Given as goal

abbrev pub ghost-commit_at : goal.ghost-commit_at
ghost-commit_at g a = size_of (current_words (g.R.Region.memory a.parts.now.region))
