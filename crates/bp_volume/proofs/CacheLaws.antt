-- What a call does to the names that a cache of directories knows.
use Rattle.std.proofs.Common.{◌≡◌, ℕ, true≢false, refl, sym, ◌∙◌, ap, ap₂}
use Rattle.std.specs.Prelude.{Result, Ok, Err, MatchResult, OnErr, OnOk, is_err, unwrap_or}
use Rattle.bp_cache.specs.Cache.{IsCacheOf}
use Rattle.bp_cache.specs.Changes.{KeepsAllNames, NameEnters, WasNamed}
use Rattle.bp_cache.specs.declared.cache.DirectoryCache.{DirectoryCache}
use Rattle.bp_cache.specs.declared.name_at.NameAt.{NameAt}
use Rattle.bp_cache.proofs.EffectLaws.{adds_enter, cache_kept, directories_keep_all, links_enter, meaning_keeps_all}
use Rattle.bp_calls.specs.Created.{EntersName, LinksEntry}
use Rattle.bp_calls.proofs.AfterLaws.{directories_over, empty_slot_over}
use Rattle.bp_changes.specs.KeepsDirectories.{KeepsDirectories}
use Rattle.bp_changes.specs.SameMeaning.{SameMeaning}
use Rattle.bp_changes.specs.Thawed.{AfterThaw, SameShape}
use Rattle.bp_changes.proofs.KeepsDirectories as files
use Rattle.bp_changes.proofs.KeepsDirectories.{directories-same}
use Rattle.bp_changes.proofs.SameMeaning.{well_formed-same}
use Rattle.bp_free.specs.declared.parts.NoSpace.{NoSpace}
use Rattle.bp_plain.specs.Calls.Refusal.{no_space}
use Rattle.bp_plain.specs.Seen.{refusal_of}
use Rattle.bp_plain.specs.declared.errors.FsError.{FsError}
use Rattle.bp_layout.specs.Directory.{empty_slot, entry_count}
use Rattle.bp_layout.specs.Paths.{Name}
use Rattle.bp_layout.specs.Inode.{IsDirectory}
use Rattle.bp_layout.specs.Reached.{IsReached}
use Rattle.bp_layout.specs.WellFormed.{IsWellFormed}
use Rattle.bp_layout.specs.Words.{Image}
use Rattle.bp_layout.specs.declared.fields.Kind.{Kind}
use Rattle.pm_region.specs.Memory.{Memory, current_words}

-- ---- a name comes

-- this is the name, in the slot that it gets in directory i
pub record ComesTo (image : Image) (i : ℕ) (name : Name) (at : NameAt) : Type 0 where
  pub dir : at.dir ≡ i
  pub name_is : at.name.now ≡ name
  pub slot : at.slot ≡ unwrap_or (empty_slot image i) (entry_count image i)

module _ (old new : Image) (wf : IsWellFormed old) (i : ℕ) (reached : IsReached old i) (directory : IsDirectory old i) (name : Name) (at : NameAt) (comes : ComesTo old i name at) where
  -- so it is after a thaw
  comes_thawed : (middle : Image) → SameMeaning old middle → ComesTo middle i name at
  comes_thawed middle same = record {
    dir = comes.dir;
    name_is = comes.name_is;
    slot = comes.slot ∙ sym (ap₂ unwrap_or (empty_slot_over old middle wf same i reached directory) ((directories_over old middle wf same).count i reached directory));
  }

  pub created_enters : (kind : Kind) → (after : AfterThaw (EntersName i name kind) old new) → NameEnters after.middle new at
  created_enters kind after =
      let here : ComesTo after.middle i name at = comes_thawed after.middle after.thawed.meaning in
      adds_enter after.middle new (well_formed-same old after.middle wf after.thawed.meaning) i after.effect.slot after.effect.inode after.effect.adds at
      (record { dir = here.dir; slot = here.slot ∙ sym after.effect.slot_is; spelled = after.effect.name_is ∙ sym here.name_is })

  pub linked_enters : (j : ℕ) → (after : AfterThaw (LinksEntry i name j) old new) → NameEnters after.middle new at
  linked_enters j after =
      let here : ComesTo after.middle i name at = comes_thawed after.middle after.thawed.meaning in
      links_enter after.middle new (well_formed-same old after.middle wf after.thawed.meaning) i after.effect.slot j after.effect.adds at
      (record { dir = here.dir; slot = here.slot ∙ sym after.effect.slot_is; spelled = after.effect.name_is ∙ sym here.name_is })

-- ---- no name comes or goes

-- where nothing changes
pub all_kept : (image : Image) → KeepsAllNames image image
all_kept image = record {
  entries = λ i slot reached now low apart. record {
    reached = reached;
    directory = now;
    in_size = low;
    keeps = record { live = λ some. some; empty = λ none. none; name = λ some. refl };
  };
  slots = λ name slot is. is;
}

-- where the bytes of several files change
pub files_keep_all : (old new : Image) → IsWellFormed old → KeepsDirectories old new → KeepsAllNames old new
files_keep_all old new wf keeps = directories_keep_all old new (directories-same old new wf keeps) (files.well_formed-same old new wf keeps)

-- and in two changes in a row
snapshot_twice : (old middle new : Image) → KeepsAllNames old middle → KeepsAllNames middle new → KeepsAllNames old new
snapshot_twice old middle new one two = record {
  entries = λ i slot reached now low apart.
      let later : WasNamed middle new i slot = two.entries i slot reached now low apart in
      let was : WasNamed old middle i slot = one.entries i slot later.reached later.directory later.in_size apart in
      record {
        reached = was.reached;
        directory = was.directory;
        in_size = was.in_size;
        keeps = record {
          live = λ some. was.keeps.live (later.keeps.live some);
          empty = λ none. was.keeps.empty (later.keeps.empty none);
          name = λ some. later.keeps.name some ∙ was.keeps.name (later.keeps.live some);
        };
      };
  slots = λ name slot is. two.slots name slot (one.slots name slot is);
}

-- so after a thaw
pub snapshot_thawed : (old new : Image) (Effect : Image → Image → Type 0) → IsWellFormed old → ((image : Image) → IsWellFormed image → Effect image new → KeepsAllNames image new) → AfterThaw Effect old new → KeepsAllNames old new
snapshot_thawed old new Effect wf keeps after =
    snapshot_twice old after.middle new (meaning_keeps_all old after.middle wf after.thawed.meaning)
    (keeps after.middle (well_formed-same old after.middle wf after.thawed.meaning) after.effect)

-- a call on inodes that either keeps all names or has changed nothing
pub names_kept : (old new : Memory) (inner : Result (Unit {0}) NoSpace) → OnOk inner (KeepsAllNames (current_words old) (current_words new)) → OnErr inner (new ≡ old) → KeepsAllNames (current_words old) (current_words new)
names_kept old new (Ok x) keeps same = keeps
names_kept old new (Err lacks) keeps same = rw same (all_kept (current_words old))

-- ---- a cache, over a thaw

pub cache_thawed : (old middle : Image) (cache : DirectoryCache) → IsWellFormed old → SameShape old middle → IsCacheOf old cache → IsCacheOf middle cache
cache_thawed old middle cache wf shape right = cache_kept old middle cache (meaning_keeps_all old middle wf shape.meaning) right

-- ---- results

-- a call on inodes whose result, with its refusal reported as that of a call with a path, is `Ok`
pub on_ok_was : {P : Type 0} (inner : Result (Unit {0}) NoSpace) (v : Unit {0}) → MatchResult inner (λ x. ◌≡◌ {A = Result (Unit {0}) FsError} (Ok v) (Ok x)) (λ _. ⊥) → OnOk inner P → P
on_ok_was (Ok x) v maps holds = holds
on_ok_was (Err lacks) v maps holds = absurd maps

-- one that was refused has changed nothing, so what the cache knew is right still
pub cache_refused : (old new : Memory) (cache : DirectoryCache) (inner : Result (Unit {0}) NoSpace) (error : FsError) →
    MatchResult inner (λ x. ◌≡◌ {A = Result (Unit {0}) FsError} (Err error) (Ok x)) (λ lacks. refusal_of error ≡ no_space lacks.need lacks.free) →
    OnErr inner (new ≡ old) → IsCacheOf (current_words old) cache → IsCacheOf (current_words new) cache
cache_refused old new cache (Ok x) error maps same right = absurd (true≢false (ap is_err maps))
cache_refused old new cache (Err lacks) error maps same right = rw same right
