-- What a commit of bytes below the sizes of files makes of the parts of the file system.
use Rattle.std.specs.Prelude.{◌<◌, ℕ, List, Err, Ok, Result, length, slice_index}
use Rattle.std.proofs.Common.{sym, subst}
use Rattle.bp_calls.specs.Commits.{CommitsOrLacksBlocks}
use Rattle.bp_calls.specs.CommitsTouched.{CommitsTouchedOrLacks}
use Rattle.bp_calls.specs.Overwritten.{CanOverwriteThawed, stretches_of}
use Rattle.bp_calls.specs.TouchedBelow.{WritesBelow}
use Rattle.bp_calls.specs.WritesFile.{WritesFile}
use Rattle.bp_calls.proofs.CountLaws.{exact_file, exact_files}
use Rattle.bp_calls.proofs.PatchCommits.{TouchesPatches, overwrite_exact, overwrite_lacks, overwrite_performs, overwrites_files}
use Rattle.bp_calls.proofs.WriteBelow.{write_exact, write_lacks, write_performs}
use Rattle.bp_changes.specs.Overwrites.{OverwritesFiles, Patch}
use Rattle.bp_changes.proofs.Overwrites.{keeps}
use Rattle.bp_cow.specs.declared.touched.Touched.{Touched}
use Rattle.bp_free.specs.declared.parts.NoSpace.{NoSpace}
use Rattle.bp_free.specs.declared.parts.Parts.{Parts}
use Rattle.bp_layout.specs.Need.Change.{overwrites, writes}
use Rattle.bp_changes.specs.Sets.{IsExact, in_snapshot_of}
use Rattle.pm_region.specs.Memory.{Memory, current_words}

-- of one file
module _ {R T : Type 0} (memory : R → Memory) (old new : Parts R) (i offset : ℕ) (bytes : List ℕ) (touched : Touched) (exact : IsExact (current_words (memory old.region)) old)
    (write : WritesBelow (in_snapshot_of old) (memory old.region) old.free_blocks old.free_inodes i offset bytes touched) (small : (k : ℕ) → slice_index bytes k < 256) where
  pub write_commits : (result : Result T NoSpace) → CommitsTouchedOrLacks memory old new result touched → CommitsOrLacksBlocks memory old new result (writes i offset (length bytes)) (WritesFile i offset bytes)
  write_commits (Ok x) done =
      let performs = write_performs write (memory new.region) new.free_blocks small done.commits in
      record {
        performs = performs;
        snapshot_blocks = done.snapshot_blocks;
        exact = exact_file (current_words (memory old.region)) (current_words (memory new.region)) old new exact
            (rw done.inodes (write_exact write (memory new.region) new.free_blocks small done.commits done.size))
            done.snapshot_blocks done.counts i write.into.well_formed performs.effect.changes;
        refused = tt;
        free = tt;
        same = tt;
      }
  write_commits (Err lacks) done = record {
    performs = tt;
    snapshot_blocks = done.snapshot_blocks;
    exact = subst (λ (parts : Parts R). IsExact (current_words (memory parts.region)) parts) (sym done.same) exact;
    refused = write_lacks write lacks.need lacks.free done.need done.free done.fewer;
    free = done.free;
    same = done.same;
  }

-- the same of several files
module _ {R T : Type 0} (memory : R → Memory) (old new : Parts R) (patches : List Patch) (touched : Touched) (exact : IsExact (current_words (memory old.region)) old)
    (can : CanOverwriteThawed (in_snapshot_of old) (memory old.region) old.free_blocks old.free_inodes patches)
    (touches : TouchesPatches (current_words (memory old.region)) patches touched) where
  pub overwrite_commits : (result : Result T NoSpace) → CommitsTouchedOrLacks memory old new result touched →
      CommitsOrLacksBlocks memory old new result (overwrites (stretches_of patches)) (OverwritesFiles patches)
  overwrite_commits (Ok x) done = record {
    performs = overwrite_performs can touches (memory new.region) new.free_blocks done.commits;
    snapshot_blocks = done.snapshot_blocks;
    exact = exact_files (current_words (memory old.region)) (current_words (memory new.region)) old new exact
        (rw done.inodes (overwrite_exact can touches (memory new.region) new.free_blocks done.commits done.size))
        done.snapshot_blocks done.counts can.well_formed
        (keeps (current_words (memory old.region)) (current_words (memory new.region)) patches
        (overwrites_files can touches (memory new.region) new.free_blocks done.commits));
    refused = tt;
    free = tt;
    same = tt;
  }
  overwrite_commits (Err lacks) done = record {
    performs = tt;
    snapshot_blocks = done.snapshot_blocks;
    exact = subst (λ (parts : Parts R). IsExact (current_words (memory parts.region)) parts) (sym done.same) exact;
    refused = overwrite_lacks can touches lacks.need lacks.free done.need done.free done.fewer;
    free = done.free;
    same = done.same;
  }
