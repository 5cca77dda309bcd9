-- The state of a save stays right.
use Rattle.std.proofs.Common.{◌≡◌, ℕ, ◌==◌, ◌&&◌, if◌then◌else◌, Bool, true, false, List, ◌∷◌, Option, None, refl, sym, ◌∙◌, ap, subst, arith}
use Rattle.std.specs.declared.fs.File.{File}
use Rattle.bp_disk.specs.Calls.{Call, number_of}
use Rattle.bp_disk.specs.Calls.Call.{attached, flushed}
use Rattle.bp_disk.specs.Disk.{ChangesNone, IsNamed, IsOther, IsSafe, Settles, TakesPlace, led, may_lead, is_durable}
use Rattle.bp_disk.specs.declared.temp_file.TempFile.{TempFile}
use Rattle.bp_disk.specs.Saves.{Stands, IsApart, IsPlaced, IsRight, IsRightWay}
use Rattle.bp_disk.specs.declared.names.Waiting.{Waiting}
use Rattle.bp_disk.specs.declared.save.Way.{Way}
use Rattle.bp_disk.specs.declared.save.Way.TheVariants.{Clean, Beside, InPlace, Lost}
use Rattle.bp_disk.proofs.CopyLaws.{stands_still}

-- A way was chosen.
pub begun : (first : ℕ) (way : Way) (waiting after : Option Waiting) (file : Option File) (a b c : List Call) (chosen : Way)
    → way ≡ Clean → after ≡ None → IsRight first way waiting a → ChangesNone a b → (IsApart first waiting → IsOther first file)
    → IsNamed b file → (Stands first b → IsOther first file → IsNamed b file → IsRightWay first chosen c)
    → IsRight first chosen after c
begun first way waiting after file a b c chosen e none right changes other named choose =
    let P : Way → Type 0 = λ w. IsRightWay first w a in
    let Q : Option Waiting → Type 0 = λ w. IsRight first chosen w c in
    subst Q (sym none) (record {
      by_way = choose (stands_still first a b (subst P e right.by_way) changes) (other right.apart) named;
      apart = tt;
    })

not_now : (other n : ℕ) (b : Bool) → ¬ (other ≡ n) → ((other == n) && b) ≡ false
not_now other n b apart = grind arith

is_other : (other n : ℕ) → ¬ (other ≡ n) → (other == n) ≡ false
is_other other n apart = grind arith

now_sure : (n : ℕ) (b : Bool) → (if n == n then true else b) ≡ true
now_sure n b = grind arith

-- The second file took the place of the first, and its directory was flushed.
pub placed : (n : ℕ) (a b c : List Call) → IsSafe a → TakesPlace n a b → Settles b c → Stands n c
placed n a b c safe taken settled = record {
  name = settled.first ∙ taken.first;
  only = λ other apart. settled.leads other ∙ not_now other (led b).first (may_lead b other) (λ e. apart (e ∙ taken.first));
  sure = settled.durable n ∙ taken.is_so;
  safe = settled.safe (taken.safe safe);
}

-- The attached file stands after a flush of it.
pub stands_flushed : (first : ℕ) (a b : List Call) → b ≡ flushed first ∷ a → Stands first a → Stands first b
stands_flushed first a b e one =
    let P : List Call → Type 0 = λ calls. Stands first calls in
    subst P (sym e) (record { name = one.name; only = one.only; sure = now_sure first (is_durable a first); safe = (tt, one.safe) })

-- A file stands when it is attached.
pub stands_attached : (first : ℕ) (a b : List Call) → b ≡ attached first ∷ a → Stands first b
stands_attached first a b e =
    let P : List Call → Type 0 = λ calls. Stands first calls in
    subst P (sym e) (record { name = refl; only = λ other apart. is_other other first apart; sure = now_sure first (is_durable a first); safe = tt })

-- A second file took its place.
pub placed_beside : (first : ℕ) (way after : Way) (second : TempFile) (a b c : List Call) → way ≡ Beside second → after ≡ way
    → IsRightWay first way a → ((led a).second ≡ number_of second.file → TakesPlace (number_of second.file) a b) → Settles b c
    → IsPlaced first after c
placed_beside first way after second a b c e same right taken settled =
    let P : Way → Type 0 = λ w. IsRightWay first w a in
    let Q : Way → Type 0 = λ w. IsPlaced first w c in
    let now : IsRightWay first (Beside second) a = subst P e right in
    subst Q (sym (same ∙ e)) (placed (number_of second.file) a b c now.0.safe (taken now.1) settled, now.2)

-- Without a second file, the attached one stays in its place.
pub placed_other : (first : ℕ) (way : Way) (calls : List Call) → ((second : TempFile) → way ≡ Beside second → ⊥)
    → IsRightWay first way calls → IsPlaced first way calls
placed_other first Clean calls not_beside right = right
placed_other first (Beside second) calls not_beside right = absurd (not_beside second refl)
placed_other first InPlace calls not_beside right = tt
placed_other first Lost calls not_beside right = tt

-- The second file is attached from now on.
pub flushed_beside : (old_file left new_file : File) (way after : Way) (second : TempFile) (waiting : Option Waiting) (a b : List Call)
    → way ≡ Beside second → IsPlaced (number_of old_file) way a → ChangesNone a b → new_file ≡ second.file → left ≡ old_file
    → after ≡ Clean → ((first : ℕ) → ¬ (number_of left ≡ first) → IsApart first waiting)
    → IsRight (number_of new_file) after waiting b
flushed_beside old_file left new_file way after second waiting a b e is_placed none new_is left_is clean apart =
    let P : Way → Type 0 = λ w. IsPlaced (number_of old_file) w a in
    let now : IsPlaced (number_of old_file) (Beside second) a = subst P e is_placed in
    let Q : File → Type 0 = λ f. IsRight (number_of f) after waiting b in
    let R : Way → Type 0 = λ w. IsRight (number_of second.file) w waiting b in
    subst Q (sym new_is) (subst R (sym clean) (record {
      by_way = stands_still (number_of second.file) a b now.0 none;
      apart = apart (number_of second.file) (λ same. now.1 (sym (ap number_of (sym left_is) ∙ same)));
    }))
