-- A walk that has come to a entry.
use Rattle.std.proofs.Common.{◌≡◌, ◌≢◌, ℕ, ◌≤◌, List, [], ◌∷◌, ◌++◌, length, true, option_and_then, Some, append_assoc, append-nil, refl, sym, ◌∙◌, ap, arith}
use Rattle.std.specs.List.{list_all}
use Rattle.std.proofs.lemmas.List.{same_from_push}
use Rattle.bp_layout.specs.Words.{Image}
use Rattle.bp_layout.specs.Inode.{kind_of}
use Rattle.bp_layout.specs.Directory.{ino_at, slot_named, lookup_in}
use Rattle.bp_layout.specs.Paths.{Name, Path, is_name}
use Rattle.bp_layout.specs.Lookup.{lookup}
use Rattle.bp_layout.specs.Reached.{IsReached}
use Rattle.bp_layout.proofs.Paths.{lookup_from-append}
use Rattle.bp_path.specs.declared.steps.FoundEntry.{FoundEntry}
use Rattle.bp_path.specs.Names.{path_parts}
use Rattle.bp_path.specs.Walk.{walk_from}
use Rattle.bp_path.specs.Walk.Walked.{found}
use Rattle.bp_path.specs.FoundEntries.{IsEntryOf}
use Rattle.bp_path.proofs.WalkLaws.{walk_on, lookup_in-slot, lookup-reached}
use Rattle.bp_path.proofs.PartsLaws.{no_text}

pub record HasCome (image : Image) (text rest : List ℕ) (entry : FoundEntry) : Type 0 where
  pub before : Path
  pub splits : path_parts text ≡ before ++ path_parts rest
  pub leads : lookup image before ≡ Some entry.ino
  pub is_entry : IsEntryOf image before entry
  pub right : list_all is_name (path_parts rest) ≡ true
  pub some : 1 ≤ entry.ino

snoc-some : (before : Path) (name : Name) → before ++ name ∷ [] ≢ []
snoc-some [] name e = absurd (cc)
snoc-some (first ∷ before) name e = absurd (cc)

some-snoc : (before : Path) (name : Name) → [] ≢ before ++ name ∷ []
some-snoc before name e = snoc-some before name (sym e)

pub start : (image : Image) (text : List ℕ) → list_all is_name (path_parts text) ≡ true → HasCome image text text (record { ino = 1; dir = 0; slot = 0 })
start image text right = record {
  before = [];
  splits = refl;
  leads = refl;
  is_entry = record { top = λ root. (refl, refl); below = λ parent name is. absurd (some-snoc parent name is) };
  right = right;
  some = omega arith;
}

-- one name further
pub come_on : (image : Image) (text rest following : List ℕ) (name : Name) (entry next : FoundEntry) → HasCome image text rest entry →
    path_parts rest ≡ name ∷ path_parts following → list_all is_name (path_parts following) ≡ true →
    kind_of image entry.ino ≡ 2 → next.dir ≡ entry.ino → slot_named image entry.ino name ≡ Some next.slot →
    ino_at image entry.ino next.slot ≡ next.ino → 1 ≤ next.ino → HasCome image text following next
come_on image text rest following name entry next here split right kind dir slot is some = record {
  before = here.before ++ name ∷ [];
  splits = here.splits ∙ ap (λ ps. here.before ++ ps) split ∙ sym (append_assoc here.before (name ∷ []) (path_parts following));
  leads =
      lookup_from-append image 1 here.before name ∙ ap (option_and_then (λ k. lookup_in image k name)) here.leads ∙ lookup_in-slot image entry.ino next.ino next.slot name kind slot is;
  is_entry = record {
    top = λ none. absurd (snoc-some here.before name none);
    below = λ parent last same.
        let both : (here.before ≡ parent) × (name ≡ last) = same_from_push here.before parent name last same in
        (ap (lookup image) (sym both.0) ∙ here.leads ∙ ap Some (sym dir), ap (λ n. slot_named image next.dir n) (sym both.1) ∙ ap (λ d. slot_named image d name) dir ∙ slot);
  };
  right = right;
  some = some;
}

-- the walk fails at the name where it has come to
pub fails : (image : Image) (text rest following : List ℕ) (name : Name) (entry : FoundEntry) → HasCome image text rest entry →
    path_parts rest ≡ name ∷ path_parts following → walk_from image 1 (path_parts text) ≡ walk_from image entry.ino (name ∷ path_parts following)
fails image text rest following name entry here split =
    ap (walk_from image 1) (here.splits ∙ ap (λ ps. here.before ++ ps) split) ∙ walk_on image 1 entry.ino here.before (name ∷ path_parts following) here.leads

-- all names are gone through
pub all_before : (image : Image) (text rest : List ℕ) (entry : FoundEntry) → (here : HasCome image text rest entry) → length rest ≡ 0 → path_parts text ≡ here.before
all_before image text rest entry here none = here.splits ∙ ap (λ ps. here.before ++ ps) (no_text rest none) ∙ append-nil here.before

pub walked : (image : Image) (text rest : List ℕ) (entry : FoundEntry) → HasCome image text rest entry → length rest ≡ 0 → found entry.ino ≡ walk_from image 1 (path_parts text)
walked image text rest entry here none =
    sym (ap (walk_from image 1) (here.splits ∙ ap (λ ps. here.before ++ ps) (no_text rest none)) ∙ walk_on image 1 entry.ino here.before [] here.leads)

pub enters : (image : Image) (text rest : List ℕ) (entry : FoundEntry) → (here : HasCome image text rest entry) → length rest ≡ 0 → IsEntryOf image (path_parts text) entry
enters image text rest entry here none = let same = all_before image text rest entry here none in rw same here.is_entry

pub reaches : (image : Image) (text rest : List ℕ) (entry : FoundEntry) → HasCome image text rest entry → IsReached image entry.ino
reaches image text rest entry here = lookup-reached image entry.ino here.before here.leads
