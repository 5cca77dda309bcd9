-- The numbers of a log's entries in a vector.
use Rattle.std.specs.Prelude.{◌≡◌, ◌≤◌, length, vec_capacity}
use Rattle.pm_raw.specs.Entries.{Entered}
use Rattle.pm_raw.specs.declared.entries.Entries.TheInside.{Inside}

abbrev pub entered_of : Inside → Entered
entered_of entries = record {
  words = entries.words.words;
  saved = entries.saved.items;
  room = entries.words.room;
}

-- Each entry has its number, and the vector has room for all numbers.
pub record HasNumbers (entries : Inside) : Type 0 where
  pub counted : length entries.saved.items ≡ length entries.words.words
  pub has_room : entries.words.room ≤ vec_capacity entries.saved
