use Rattle.bp_read.proofs.Filling.{filled_stores, filled_inode}
use Rattle.bp_read.proofs.inodes.put.Goals as goal

pub returns : goal.returns
returns g c =
    let first = (rw c.word.ensures at c.store_past_head.ensures) in
    let version = c.args.version in
    record {
      stores = filled_stores version _ _ _ _ _ c.args.place _ c.requires.in_range first c.store_past_head-2.ensures c.store_past_head-3.ensures c.clear_attributes.ensures.stores;
      inode = filled_inode version _ _ _ _ _ c.args.place _ c.requires.in_range first c.store_past_head-2.ensures c.store_past_head-3.ensures c.clear_attributes.ensures.stores c.clear_attributes.ensures.cleared;
    }
