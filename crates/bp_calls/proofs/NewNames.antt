-- A name is entered: what it needs, and that there is what it needs, also where the inode file grows first.
use Rattle.std.proofs.Common.{◌≡◌, ◌≢◌, ◌⊎◌, ℕ, Bool, false, inl, inr, ◌+◌, ◌<◌, ◌≤◌, [], length, Option, None, Some, refl, sym, ◌∙◌, ap, subst, arith}
use Rattle.bp_append.specs.Prepared.{need_for}
use Rattle.bp_free.specs.Set.{Set, IsLeast, members}
use Rattle.bp_layout.specs.Directory.{empty_slot}
use Rattle.bp_layout.specs.Paths.{Name}
use Rattle.bp_layout.specs.Free.{IsFreeInode, IsLeastFree}
use Rattle.bp_layout.specs.Inode.{kind_of, root_of, size_of, inode_count}
use Rattle.bp_layout.specs.Need.{Change, need}
use Rattle.bp_layout.specs.Need.Change.{enters}
use Rattle.bp_layout.specs.Need.Entrant.{grown, taken}
use Rattle.bp_layout.specs.Nodes.{nodes_for}
use Rattle.bp_layout.specs.Reached.{IsFreeBlock, IsReached}
use Rattle.bp_layout.specs.WellFormed.{IsWellFormed}
use Rattle.bp_layout.specs.Words.{Image}
use Rattle.bp_layout.specs.declared.fields.Kind.{Kind}
use Rattle.bp_layout.proofs.Reached.{reached-in_file}
use Rattle.bp_changes.specs.Sets.{AreExact}
use Rattle.bp_changes.specs.Performs.{PerformsThawed, PerformsWithin, most_stores_thawed, room_for}
use Rattle.pm_region.specs.Memory.{Memory, current_words, room_in}
use Rattle.bp_calls.specs.Created.{EntersName}
use Rattle.bp_changes.specs.Entrant.{entrant_of}
use Rattle.bp_calls.specs.Growth.{CanGrowInodes, GrowsInodes, growth_need, growth_stores, stores_after_growth}
use Rattle.bp_calls.specs.ThawedFor.{IsThawedFor}
use Rattle.bp_calls.specs.Steps.{CanEnter, CanEnterPastEnd, CanName, LacksName, entering_room, name_need}
use Rattle.bp_calls.proofs.AfterLaws.{empty_slot_over, slot_named_over}
use Rattle.bp_calls.proofs.GrowthLaws.{longer_reached, longer_well_formed, shorter_reached}
use Rattle.bp_calls.proofs.GrowthMemory.{room_after_growth}
use Rattle.bp_calls.proofs.GrowthNeed.{need_growing}
use Rattle.bp_calls.proofs.GrowthPerforms.{grown_need, performs_grown}
use Rattle.bp_changes.proofs.PerformsLaws.{within_more}
use Rattle.bp_calls.proofs.NeedLaws.{need_past_end}
use Rattle.bp_calls.proofs.Refusals.{has_members, is_least, not_none, not_some, reports}
use Rattle.bp_calls.proofs.EnteredOver.{entered_over}
use Rattle.bp_calls.proofs.EnteredLaws.{directory_inode}
use Rattle.bp_calls.proofs.EnterTargets.{IsEntrant, entry_loose, file_loose, inode_loose}
use Rattle.bp_calls.proofs.GrowthLoose.{loose_entry_on, new_inode_loose}
use Rattle.bp_changes.specs.Thawed.{SameShape}
use Rattle.bp_changes.proofs.ReachedOn.{reached_on}
use Rattle.bp_changes.proofs.SameMeaning.{well_formed-same}
use Rattle.bp_layout.specs.Free.IsLeastFree.{some as a_least}
use Rattle.bp_layout.specs.Members.{Has}
use Rattle.bp_layout.proofs.MemberLaws.{each-has}
use Rattle.std.proofs.lemmas.Bool.{cases_lt}

-- ---- what a name needs

-- given the tree that was read
pub entry_need_is : (image : Image) (i root size : ℕ) → root ≡ root_of image i → size ≡ size_of image i → length (nodes_for image root size size (size + 256)) ≡ need_for image i (size_of image i) (size_of image i + 256)
entry_need_is image i root size one two =
    ap (λ r. length (nodes_for image r size size (size + 256))) one ∙ ap (λ s. length (nodes_for image (root_of image i) s s (s + 256))) two

pub entry_needs : (image : Image) → IsWellFormed image → (i root size : ℕ) → IsReached image i → kind_of image i ≡ 2 → root ≡ root_of image i → size ≡ size_of image i → empty_slot image i ≡ None →
    length (nodes_for image root size size (size + 256)) ≡ name_need image i
entry_needs image wf i root size reached kind one two none = entry_need_is image i root size one two ∙ sym (need_past_end image i wf reached kind none)

-- ---- an inode is free

module _ {in_snapshot : ℕ → Bool} (memory : Memory) (blocks inodes : Set) (i j : ℕ) (name : Name) (can : CanEnter in_snapshot memory blocks inodes i name) (least : IsLeast inodes j) where
  pub can_name : CanName (current_words memory) i j name
  can_name = record { lacks = can.lacks; free = can.exact.free_inodes.free j least.is_in }

  pub can_enter_past_end : empty_slot (current_words memory) i ≡ None → CanEnterPastEnd in_snapshot memory blocks i j name
  can_enter_past_end none = record {
    can = record {
      lacks = can.lacks;
      none = none;
      inodes = inodes;
      exact = can.exact;
      enough = rw (need_past_end (current_words memory) i can.lacks.well_formed can.lacks.reached can.lacks.directory none) at can.enough;
      loose = can.loose.past_end none;
      room = rw (need_past_end (current_words memory) i can.lacks.well_formed can.lacks.reached can.lacks.directory none) at can.room;
    };
    free = can_name.free;
    loose = can.loose_inode j least;
  }

-- ---- none is free, and the inode file has grown

module _ {in_snapshot : ℕ → Bool} (old mid : Memory) (blocks inodes after filled : Set) (i : ℕ) (name : Name) (lacks : LacksName (current_words old) i name) (before : AreExact (current_words old) in_snapshot blocks inodes) (nobody : members inodes ≡ [])
    (ready : IsThawedFor in_snapshot old blocks (enters i grown)) (grows : GrowsInodes in_snapshot old mid) (exact : AreExact (current_words mid) in_snapshot after filled) (left : length (members blocks) ≡ growth_need (current_words old) + length (members after)) where
  abbrev image : Image
  image = current_words old

  abbrev longer : Image
  longer = current_words mid

  wf : IsWellFormed longer
  wf = longer_well_formed image longer grows.taken lacks.well_formed grows.grown

  -- the first inode that it got is free
  first_free : IsFreeInode longer (inode_count image)
  first_free = record {
    low = let some : 4096 ≤ size_of image 0 = lacks.well_formed.some_inodes in omega (arith, some);
    high = let more = grows.grown.size in omega (arith, more);
    free = λ there. let low = reached-in_file image lacks.well_formed (inode_count image) (shorter_reached image longer grows.taken lacks.well_formed grows.grown (inode_count image) there) in omega (arith, low);
  }

  -- and none before it is
  after_old : (j : ℕ) → IsFreeInode longer j → inode_count image ≤ j
  after_old j free = go (cases_lt j (inode_count image))
    where
      go : (j < inode_count image) ⊎ (inode_count image ≤ j) → inode_count image ≤ j
      go (inl low) =
          absurd (has_members inodes j (before.free_inodes.all j (record {
            low = free.low;
            high = low;
            free = λ there. free.free (longer_reached image longer grows.taken lacks.well_formed grows.grown j there);
          })) nobody)
      go (inr high) = high

  taken_loose : (b : ℕ) → Has grows.taken b → in_snapshot b ≡ false
  taken_loose b took = (each-has (IsFreeBlock image in_snapshot) grows.taken b grows.adds.takes.free took).loose

  pub grown_slot : empty_slot longer i ≡ empty_slot image i
  grown_slot = empty_slot_over image longer lacks.well_formed grows.grown.meaning i lacks.reached lacks.directory

  pub grown_enters : CanEnter in_snapshot mid after filled i name
  grown_enters = record {
    lacks = record {
      well_formed = wf;
      reached = longer_reached image longer grows.taken lacks.well_formed grows.grown i lacks.reached;
      directory = grows.grown.meaning.kind i lacks.reached ∙ lacks.directory;
      form = lacks.form;
      missing = slot_named_over image longer lacks.well_formed grows.grown.meaning i name lacks.reached lacks.directory ∙ lacks.missing;
    };
    exact = exact;
    some = has_members filled (inode_count image) (exact.free_inodes.all (inode_count image) first_free);
    enough = let needs = grown_need old mid grows lacks.well_formed i lacks.reached lacks.directory in omega (arith, ready.enough, needs, left);
    loose = loose_entry_on image longer grows.taken lacks.well_formed grows.grown in_snapshot taken_loose i lacks.reached lacks.directory (directory_inode image i lacks.directory)
        (entry_loose image lacks.well_formed i lacks.reached lacks.directory in_snapshot grown ready.clear);
    loose_inode = λ j least.
        let free : IsFreeInode longer j = exact.free_inodes.free j least.is_in in
        new_inode_loose image longer grows.taken lacks.well_formed grows.grown in_snapshot taken_loose j (after_old j free) free.high;
    room = enough_room (length grows.taken) (growth_need image) (name_need longer i) (need image (enters i grown)) (room_in old) (room_in mid) grows.number
        (grown_need old mid grows lacks.well_formed i lacks.reached lacks.directory) (room_after_growth old mid grows) ready.room;
  }
    where
      enough_room : (took wanted more all before past_end : ℕ) → took ≡ wanted → all ≡ wanted + more → before ≤ past_end + (3 + growth_stores took) → room_for all ≤ before + 2 → entering_room more ≤ past_end
      enough_room took wanted more all before past_end a b c d = omega (arith, a, b, c, d)

  -- whichever inode is the least that is free then
  pub grown_performs : (new : Memory) (kind : Kind) →
      ((free : Option ℕ) → IsLeastFree longer free → PerformsWithin in_snapshot (name_need longer i) 5 (stores_after_growth (name_need longer i)) mid new (enters i (entrant_of free)) (EntersName i name kind)) →
      PerformsThawed in_snapshot old new (enters i grown) (EntersName i name kind)
  grown_performs new kind done = go reported.0 reported.1
    where
      reported : (free : Option ℕ) × IsLeastFree longer free
      reported = reports longer after filled exact

      go : (free : Option ℕ) → IsLeastFree longer free → PerformsThawed in_snapshot old new (enters i grown) (EntersName i name kind)
      go None least = absurd (not_none longer after filled exact (has_members filled (inode_count image) (exact.free_inodes.all (inode_count image) first_free)) least)
      go (Some j) least =
          performs_grown old mid grows lacks.well_formed new i j (EntersName i name kind) (EntersName i name kind) lacks.reached lacks.directory (done (Some j) least)
          (entered_over image longer (current_words new) lacks.well_formed grows.grown.meaning i name kind lacks.directory)

-- as many are free as the growth needs
pub can_grow : {in_snapshot : ℕ → Bool} (old : Memory) (blocks inodes : Set) (i : ℕ) (name : Name) → LacksName (current_words old) i name → AreExact (current_words old) in_snapshot blocks inodes → IsThawedFor in_snapshot old blocks (enters i grown) →
    CanGrowInodes in_snapshot old blocks inodes
can_grow {in_snapshot = in_snapshot} old blocks inodes i name lacks exact ready =
    let needs = need_growing (current_words old) lacks.well_formed i lacks.reached lacks.directory in
    record {
      well_formed = lacks.well_formed;
      exact = exact;
      enough = omega (arith, needs, ready.enough);
      loose = file_loose (current_words old) lacks.well_formed i lacks.reached lacks.directory in_snapshot grown ready.clear refl;
      room = omega (arith, needs, ready.room);
    }

-- ---- after a thaw

-- whichever inode is there
pub within_call : {in_snapshot : ℕ → Bool} (old new : Memory) (change : Change) (i : ℕ) (Effect : Image → Image → Type 0) → need (current_words old) change ≡ name_need (current_words old) i →
    PerformsWithin in_snapshot (name_need (current_words old) i) 5 (stores_after_growth (name_need (current_words old) i)) old new change Effect → PerformsThawed in_snapshot old new change Effect
within_call {in_snapshot = in_snapshot} old new change i Effect same done =
    within_more in_snapshot needed 5 (stores_after_growth needed) old new change Effect (subst (λ n. PerformsWithin in_snapshot n 5 (stores_after_growth n) old new change Effect) (sym same) done) 8 (most_stores_thawed needed) (omega arith) few
  where
    needed : ℕ
    needed = need (current_words old) change

    few : stores_after_growth needed ≤ most_stores_thawed needed
    few = omega arith

-- the room that it has then
pub room_entering : (needed has : ℕ) → room_for needed ≤ has + 2 → entering_room needed ≤ has
room_entering needed has a = omega (arith, a)

module _ {in_snapshot : ℕ → Bool} (old : Memory) (blocks inodes : Set) (i : ℕ) (name : Name) (lacks : LacksName (current_words old) i name) (exact : AreExact (current_words old) in_snapshot blocks inodes)
    (ready : (free : Option ℕ) → IsLeastFree (current_words old) free → IsThawedFor in_snapshot old blocks (enters i (entrant_of free))) where
  abbrev words : Image
  words = current_words old

  -- an inode is free: any
  some_free : members inodes ≢ [] → (P : Option ℕ → Type 0) → ((j : ℕ) → IsLeastFree words (Some j) → P (Some j)) → (free : Option ℕ) → IsLeastFree words free → P free
  some_free some P at None least = absurd (not_none words blocks inodes exact some least)
  some_free some P at (Some j) least = at j least

  -- or none
  none_free : members inodes ≡ [] → (P : Option ℕ → Type 0) → P None → (free : Option ℕ) → IsLeastFree words free → P free
  none_free none P at None least = at
  none_free none P at (Some j) least = absurd (not_some words blocks inodes exact none j least)

  reported : (free : Option ℕ) × IsLeastFree words free
  reported = reports words blocks inodes exact

  pub none_ready : members inodes ≡ [] → IsThawedFor in_snapshot old blocks (enters i grown)
  none_ready none = go reported.0 reported.1
    where
      go : (free : Option ℕ) → IsLeastFree words free → IsThawedFor in_snapshot old blocks (enters i grown)
      go None least = ready None least
      go (Some j) least = absurd (not_some words blocks inodes exact none j least)

  pub some_enters : members inodes ≢ [] → CanEnter in_snapshot old blocks inodes i name
  some_enters some = go reported.0 reported.1
    where
      go : (free : Option ℕ) → IsLeastFree words free → CanEnter in_snapshot old blocks inodes i name
      go None least = absurd (not_none words blocks inodes exact some least)
      go (Some j) least =
          let here : IsThawedFor in_snapshot old blocks (enters i (taken j)) = ready (Some j) least in
          record {
            lacks = lacks;
            exact = exact;
            some = some;
            enough = here.enough;
            loose = entry_loose words lacks.well_formed i lacks.reached lacks.directory in_snapshot (taken j) here.clear;
            loose_inode = λ k first.
                inode_loose words lacks.well_formed i lacks.reached lacks.directory in_snapshot (taken j) here.clear k (ap entrant_of (is_least words blocks inodes exact k first (Some j) least)) (exact.free_inodes.free k first.is_in).high;
            room = room_entering (name_need words i) (room_in old) here.room;
          }

  -- whatever is stated of free inodes
  pub some_performs : (new : Memory) (Effect : Image → Image → Type 0) → members inodes ≢ [] →
      ((free : Option ℕ) → IsLeastFree words free → PerformsWithin in_snapshot (name_need words i) 5 (stores_after_growth (name_need words i)) old new (enters i (entrant_of free)) Effect) →
      (free : Option ℕ) → IsLeastFree words free → PerformsThawed in_snapshot old new (enters i (entrant_of free)) Effect
  some_performs new Effect some done = some_free some (λ free. PerformsThawed in_snapshot old new (enters i (entrant_of free)) Effect) (λ j least. within_call old new (enters i (taken j)) i Effect refl (done (Some j) least))

  pub none_performs : (new : Memory) (Effect : Image → Image → Type 0) → members inodes ≡ [] → PerformsThawed in_snapshot old new (enters i grown) Effect → (free : Option ℕ) → IsLeastFree words free →
      PerformsThawed in_snapshot old new (enters i (entrant_of free)) Effect
  none_performs new Effect none done = none_free none (λ free. PerformsThawed in_snapshot old new (enters i (entrant_of free)) Effect) done

-- ---- the whole call

-- the need of a new name, by whether an inode is free
module _ {in_snapshot : ℕ → Bool} (image : Image) (wf : IsWellFormed image) (blocks inodes : Set) (exact : AreExact image in_snapshot blocks inodes) (i : ℕ) (reached : IsReached image i) (kind : kind_of image i ≡ 2) where
  pub some_needs : members inodes ≢ [] → (needed : ℕ) → needed ≡ name_need image i → (free : Option ℕ) → IsLeastFree image free → need image (enters i (entrant_of free)) ≡ needed
  some_needs some needed is None least = absurd (not_none image blocks inodes exact some least)
  some_needs some needed is (Some j) least = sym is

  pub none_needs : members inodes ≡ [] → (entry growth : ℕ) → entry ≡ name_need image i → growth ≡ growth_need image → (free : Option ℕ) → IsLeastFree image free → need image (enters i (entrant_of free)) ≡ entry + growth
  none_needs none entry growth is also None least = let needs = need_growing image wf i reached kind in omega (arith, needs, is, also)
  none_needs none entry growth is also (Some j) least = absurd (not_some image blocks inodes exact none j least)

  -- the inode that is taken is one of the file's
  pub entrant_inside : (free : Option ℕ) → IsLeastFree image free → IsEntrant image (entrant_of free)
  entrant_inside None least = tt
  entrant_inside (Some j) (a_least free first) = free.high

  pub is_reported : (free : Option ℕ) × IsLeastFree image free
  is_reported = reports image blocks inodes exact

-- a name that is lacking is lacking after a thaw
pub lacks_on : (old new : Image) → SameShape old new → (i : ℕ) (name : Name) → LacksName old i name → LacksName new i name
lacks_on old new shape i name lacks =
    let wf : IsWellFormed new = well_formed-same old new lacks.well_formed shape.meaning in
    record {
      well_formed = wf;
      reached = reached_on old new shape.meaning i lacks.reached;
      directory = shape.meaning.kind i lacks.reached ∙ lacks.directory;
      form = lacks.form;
      missing = slot_named_over old new lacks.well_formed shape.meaning i name lacks.reached lacks.directory ∙ lacks.missing;
    }
