-- Of two images that differ only in words of the superblock in which no tree stands, one has the free blocks, the free
-- inodes and the names of the other.
use Rattle.std.proofs.Common.{ℕ}
use Rattle.bp_changes.proofs.Named.{counts_same}
use Rattle.bp_free.specs.declared.parts.Parts.{Parts}
use Rattle.bp_layout.specs.Names.{IsNamed}
use Rattle.bp_layout.specs.Reached.{IsFreeBlock, IsLiveBlock}
use Rattle.bp_layout.specs.Words.{Image}
use Rattle.bp_layout.proofs.BesideTrees.{SameTrees, same_back, names_back, reached_back, block_back}
use Rattle.bp_changes.specs.Sets.{IsExact, in_snapshot_of}

module _ (old new : Image) (same : SameTrees old new) where
  pub named_back : (j : ℕ) (e : ℕ × ℕ) → IsNamed new j e → IsNamed old j e
  named_back j e is = record { reached = reached_back old new same e.0 is.reached; names = names_back old new same e.0 e.1 j is.names }

  pub live_back : (b : ℕ) → IsLiveBlock new b → IsLiveBlock old b
  live_back b live = record {
    tree = live.tree;
    reached = reached_back old new same live.tree live.reached;
    has = block_back old new same live.tree b live.has;
  }

pub beside_exact : {R : Type 0} (old new : Image) → SameTrees old new → (parts : Parts R) → IsExact old parts → IsExact new parts
beside_exact old new same parts exact = record {
  sets = record {
    block_room = rw same.whole exact.sets.block_room;
    inode_room = rw same.whole exact.sets.inode_room;
    free_blocks = record {
      free = λ b is.
          let free : IsFreeBlock old (in_snapshot_of parts) b = exact.sets.free_blocks.free b is in
          record { low = free.low; high = rw same.whole free.high; free = λ live. free.free (live_back old new same b live); loose = free.loose };
      all = λ b free. exact.sets.free_blocks.all b
          (record { low = free.low; high = rw same.whole at free.high; free = λ live. free.free (live_back new old back b live); loose = free.loose });
    };
    free_inodes = record {
      free = λ i is.
          let free = exact.sets.free_inodes.free i is in
          record { low = free.low; high = rw same.size free.high; free = λ reached. free.free (reached_back old new same i reached) };
      all = λ i free. exact.sets.free_inodes.all i
          (record { low = free.low; high = rw same.size at free.high; free = λ reached. free.free (reached_back new old back i reached) });
    };
  };
  counts = counts_same old new parts.link_counts exact.counts (named_back old new same) (named_back new old back);
  count_room = rw same.whole exact.count_room;
  snapshot_room = rw same.whole exact.snapshot_room;
}
  where
    back : SameTrees new old
    back = same_back old new same
