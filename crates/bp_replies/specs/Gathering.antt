-- Lines that wait for a sink.
use Rattle.std.specs.Prelude.{◌≡◌, ℕ, List, ◌++◌, Option, take}
use Rattle.std.specs.Io.KnownBytes.{Appends}
use Rattle.bp_replies.specs.declared.replies.Replies.{Replies}

-- The waiting bytes.
abbrev pub waiting : Replies → List ℕ
waiting replies = take replies.count replies.bytes.items

-- A text was added to the waiting bytes, and a sink took a prefix of both: the rest waits.
pub record PassesOn (text before after : List ℕ) (taken now : Option (List ℕ)) : Type 0 where
  pub sent : List ℕ
  pub whole : before ++ text ≡ sent ++ after
  pub took : Appends taken now sent
