-- When a cache is right of an image.
use Rattle.std.proofs.Common.{◌≡◌, ℕ, Bool, [], nat_eq, Option, Some, None, sym, ◌∙◌}
use Rattle.std.specs.Prelude.{Result, Ok, Err, OnOk, OnErr}
use Rattle.lru.specs.LruCache.{LruCache, lru_cache, promoted, put_entries}
use Rattle.lru.proofs.Splits.{Contains-nil}
use Rattle.bp_layout.specs.Words.{Image}
use Rattle.bp_cache.specs.Names.{remembered}
use Rattle.bp_cache.proofs.Maps.{known-slot}
use Rattle.bp_cache.specs.Index.{IsIndexOf}
use Rattle.bp_read.specs.declared.tree.Tree.{Tree}
use Rattle.bp_cache.specs.declared.cache.DirectoryCache.{DirectoryCache}
use Rattle.bp_cache.specs.declared.held.Held.{Held}
use Rattle.bp_cache.specs.declared.held.Held.TheVariants.{Indexed, Lost, Unindexed}
use Rattle.bp_cache.specs.Cache.{AreHeldOf, HasTree, IsCacheOf, IsHeldOf}
use Rattle.bp_cache.specs.Held.{IndexIs}
use Rattle.bp_cache.proofs.Lists.{held_promoted, held_put}

-- one that remembers nothing
pub nothing_right : (image : Image) (cache : DirectoryCache) (room most : ℕ) → cache.names ≡ remembered [] room → cache.directories ≡ lru_cache [] most →
    IsCacheOf image cache
nothing_right image cache room most names directories = record {
  names = λ name slot is.
      let never : ◌≡◌ {A = Option ℕ} None (Some slot) = sym (known-slot [] name) ∙ (rw names at is) in absurd (cc);
  directories = λ i held has. absurd (Contains-nil (i, held) (rw directories at has));
}

-- ---- what is held of a directory, stated of its tree

module _ (image : Image) (i : ℕ) (tree : Tree) (has : HasTree image i tree) where
  pub of_tree : (held : Held) → IsHeldOf image i held → IndexIs (IsIndexOf image tree.root tree.size) held
  of_tree Lost is = tt
  of_tree (Indexed index) is = rw (has.root, has.size) (is has.reached has.directory)
  of_tree Unindexed is = tt

  pub from_tree : (held : Held) → IndexIs (IsIndexOf image tree.root tree.size) held → IsHeldOf image i held
  from_tree Lost is = tt
  from_tree (Indexed index) is = λ _ _. rw (has.root, has.size) at is
  from_tree Unindexed is = tt

-- whether there was memory for it or not
pub put_right : {T E : Type 0} (image : Image) (before after : LruCache ℕ Held) (i : ℕ) (held : Held) (result : Result T E) → AreHeldOf image before.entries →
    IsHeldOf image i held → OnOk result (after ≡ lru_cache (put_entries nat_eq before i held) before.cap) → OnErr result (after ≡ before) →
    AreHeldOf image after.entries
put_right image before after i held (Ok old) right is put same = rw put (held_put image before i held right is)
put_right image before after i held (Err e) right is put same = rw same right

-- ---- a cache in which a directory was searched for

pub promoted_right : (image : Image) (test : ℕ → Bool) (before after : DirectoryCache) (most : ℕ) → after.names ≡ before.names →
    after.directories ≡ lru_cache (promoted test before.directories.entries) most → IsCacheOf image before → IsCacheOf image after
promoted_right image test before after most names directories right = record {
  names = rw names right.names;
  directories = rw directories (held_promoted image test before.directories.entries right.directories);
}
