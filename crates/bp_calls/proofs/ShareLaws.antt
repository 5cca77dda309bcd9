-- One more name for a file: what it asks of the memory once nothing is left to thaw.
use Rattle.std.proofs.Common.{◌≡◌, ℕ, Bool, ◌≤◌, None}
use Rattle.bp_free.specs.Set.{Set}
use Rattle.bp_layout.specs.Directory.{empty_slot}
use Rattle.bp_layout.specs.Paths.{Name}
use Rattle.bp_layout.specs.Need.Entrant.{linked}
use Rattle.pm_region.specs.Memory.{Memory, current_words, room_in}
use Rattle.bp_calls.specs.Steps.{CanLinkPastEnd, CanShare, HasLooseEntry, entering_room, name_need}
use Rattle.bp_calls.proofs.EnterTargets.{entry_loose}
use Rattle.bp_calls.proofs.NeedLaws.{need_past_end}
use Rattle.bp_calls.proofs.NewNames.{room_entering}

module _ {in_snapshot : ℕ → Bool} (memory : Memory) (blocks inodes : Set) (i j : ℕ) (name : Name) (can : CanShare in_snapshot memory blocks inodes i j name) where
  pub link_loose : HasLooseEntry (current_words memory) in_snapshot i
  link_loose = entry_loose (current_words memory) can.link.lacks.well_formed i can.link.lacks.reached can.link.lacks.directory in_snapshot linked can.thawed.clear

  pub link_room : entering_room (name_need (current_words memory) i) ≤ room_in memory
  link_room = room_entering (name_need (current_words memory) i) (room_in memory) can.thawed.room

  pub can_link_past_end : empty_slot (current_words memory) i ≡ None → CanLinkPastEnd in_snapshot memory blocks i j name
  can_link_past_end none =
      let needs = need_past_end (current_words memory) i can.link.lacks.well_formed can.link.lacks.reached can.link.lacks.directory none in
      record {
        can = record {
          lacks = can.link.lacks;
          none = none;
          inodes = inodes;
          exact = can.exact;
          enough = rw needs at can.thawed.enough;
          loose = link_loose.past_end none;
          room = rw needs at link_room;
        };
        there = can.link.there;
        file = can.link.file;
      }
