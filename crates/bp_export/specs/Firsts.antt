-- The remembered texts of paths.
use Rattle.std.specs.Prelude.{ℕ, List, Option, option_map}
use Rattle.std.specs.BTreeMap.{get}
use Rattle.std.specs.Ordering.{nat_cmp}
use Rattle.bp_export.specs.declared.firsts.Firsts.{Firsts}

-- The remembered text for an inode.
abbrev pub first_text : Firsts → ℕ → Option (List ℕ)
first_text firsts i = option_map (λ text. text.items) (get nat_cmp firsts.texts i)
