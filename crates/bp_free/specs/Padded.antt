-- A list of which only a prefix is stored, in a vector.
use Rattle.std.specs.Prelude.{ℕ, ◌≡◌, ◌≤◌, ◌-◌, ◌++◌, List, Vec, length, replicate, vec_capacity}

-- The entries that are stored, and a blank one for each that is not.
abbrev pub padded : {A : Type 0} → A → List A → ℕ → List A
padded blank stored room = stored ++ replicate (room - length stored) blank

module _ {A G : Type 0} where
  -- The vector has no more entries than the list, and memory for all.
  pub record HasRoomForAll (stored : Vec A G) (bound : ℕ) : Type 0 where
    pub within : length stored.items ≤ bound
    pub room : bound ≤ vec_capacity stored

  -- Blank entries were appended.
  pub record AddsBlanks (blank : A) (old new : Vec A G) : Type 0 where
    pub items : new.items ≡ old.items ++ replicate (length new.items - length old.items) blank
    pub more : length old.items ≤ length new.items
    pub room : vec_capacity old ≤ vec_capacity new
