-- When an index of a directory is right after a change, slot by slot.
use Rattle.std.proofs.Common.{◌≡◌, ◌≢◌, ◌⊎◌, ℕ, ◌<◌, nat_eq, Some, inl, inr, sym, ◌∙◌, ap, subst}
use Rattle.std.specs.HashMap.{get}
use Rattle.std.proofs.lemmas.Bool.{cases_eq}
use Rattle.bp_layout.specs.Words.{Image}
use Rattle.bp_layout.specs.Directory.{entry_count, ino_at}
use Rattle.bp_layout.specs.Inode.{IsDirectory, root_of}
use Rattle.bp_layout.specs.Reached.{IsReached}
use Rattle.bp_cache.specs.declared.index.Index.{Index}
use Rattle.bp_cache.specs.Hashes.{hash_of}
use Rattle.bp_cache.specs.Index.{EntersSlot, IsIndexed, Leads, LeavesSlot}
use Rattle.bp_cache.proofs.ChangeLaws.{indexed_kept, indexed_entered, indexed_left, others_entered, others_left}
use Rattle.bp_cache.specs.declared.name_at.NameAt.{NameAt}
use Rattle.bp_cache.specs.Cache.{IsIndexIn}
use Rattle.bp_cache.specs.Changes.{NameStands, WasNamed}

-- each entry of directory i but the one in this slot keeps its name
abbrev pub KeepsBut : Image → Image → ℕ → ℕ → Type 0
KeepsBut old new i slot = (other : ℕ) → IsReached new i → IsDirectory new i → other < entry_count new i → other ≢ slot → WasNamed old new i other

module _ (old new : Image) where
  -- what an index stated of an entry that keeps its name it reports still
  indexed_still : (i slot : ℕ) (index : Index) → IsIndexIn old i index → WasNamed old new i slot → IsIndexed new (root_of new i) slot index
  indexed_still i slot index right was =
      indexed_kept old (root_of old i) new (root_of new i) slot index was.keeps ((right was.reached was.directory).each slot was.in_size)

  -- no entry is touched
  pub index_kept : (i : ℕ) (index : Index) → ((slot : ℕ) → IsReached new i → IsDirectory new i → slot < entry_count new i → WasNamed old new i slot) →
      IsIndexIn old i index → IsIndexIn new i index
  index_kept i index keeps right reached directory = record { each = λ slot live. indexed_still i slot index right (keeps slot reached directory live) }

  module _ (at : NameAt) (before after : Index) where
    -- the name comes to its slot
    pub index_entered : KeepsBut old new at.dir at.slot → NameStands new at → EntersSlot before after at.name.now at.slot → IsIndexIn old at.dir before →
        IsIndexIn new at.dir after
    index_entered keeps stands enters right reached directory = record { each = λ slot live. go slot live (cases_eq slot at.slot) }
      where
        go : (slot : ℕ) → slot < entry_count new at.dir → (slot ≡ at.slot) ⊎ (slot ≢ at.slot) → IsIndexed new (root_of new at.dir) slot after
        go slot live (inl here) =
            subst (λ s. IsIndexed new (root_of new at.dir) s after) (sym here)
            (indexed_entered new (root_of new at.dir) before after at.name.now at.slot enters stands.named)
        go slot live (inr apart) =
            others_entered new (root_of new at.dir) before after at.name.now at.slot enters slot apart
            (indexed_still at.dir slot before right (keeps slot reached directory live apart))

    module _ (stood : NameStands old at) (leaves : LeavesSlot before after at.name.now at.slot) (right : IsIndexIn old at.dir before) where
      -- what the index stated of the entry
      entry_reported : IsIndexed old (root_of old at.dir) at.slot before
      entry_reported = (right stood.reached stood.directory).each at.slot stood.in_size

      -- the other entries are reported still
      others_reported : KeepsBut old new at.dir at.slot → (slot : ℕ) → IsReached new at.dir → IsDirectory new at.dir → slot < entry_count new at.dir →
          slot ≢ at.slot → IsIndexed new (root_of new at.dir) slot after
      others_reported keeps slot reached directory live apart =
          let reported : Leads before (hash_of at.name.now) at.slot = subst (λ name. Leads before (hash_of name) at.slot) stood.named.spelled (entry_reported.named stood.named.live) in
          others_left new (root_of new at.dir) before after at.name.now at.slot leaves reported entry_reported.room slot apart
          (indexed_still at.dir slot before right (keeps slot reached directory live apart))

      -- the name leaves its slot, which is empty then
      pub index_left : KeepsBut old new at.dir at.slot → ino_at new at.dir at.slot ≡ 0 → IsIndexIn new at.dir after
      index_left keeps none reached directory = record { each = λ slot live. go slot live (cases_eq slot at.slot) }
        where
          go : (slot : ℕ) → slot < entry_count new at.dir → (slot ≡ at.slot) ⊎ (slot ≢ at.slot) → IsIndexed new (root_of new at.dir) slot after
          go slot live (inl here) =
              subst (λ s. IsIndexed new (root_of new at.dir) s after) (sym here)
              (indexed_left new (root_of new at.dir) before after at.name.now at.slot leaves entry_reported.room none)
          go slot live (inr apart) = others_reported keeps slot reached directory live apart

      -- another name comes to the slot that a name leaves
      pub index_respelled : (to : NameAt) (last : Index) → at.dir ≡ to.dir → at.slot ≡ to.slot → KeepsBut old new at.dir at.slot → NameStands new to →
          EntersSlot after last to.name.now to.slot → IsIndexIn new to.dir last
      index_respelled to last same_dir same_slot keeps stands enters reached directory = record { each = λ slot live. go slot live (cases_eq slot to.slot) }
        where
          go : (slot : ℕ) → slot < entry_count new to.dir → (slot ≡ to.slot) ⊎ (slot ≢ to.slot) → IsIndexed new (root_of new to.dir) slot last
          go slot live (inl here) =
              subst (λ s. IsIndexed new (root_of new to.dir) s last) (sym here)
              (indexed_entered new (root_of new to.dir) after last to.name.now to.slot enters stands.named)
          go slot live (inr apart) =
              others_entered new (root_of new to.dir) after last to.name.now to.slot enters slot apart
              (subst (λ d. IsIndexed new (root_of new d) slot after) same_dir
              (others_reported keeps slot (subst (IsReached new) (sym same_dir) reached) (subst (IsDirectory new) (sym same_dir) directory)
              (subst (λ d. slot < entry_count new d) (sym same_dir) live) (λ here. apart (here ∙ same_slot))))
