-- Where the path of a call leads, as its answer reports it.
use Rattle.std.proofs.Common.{◌≡◌, ◌≢◌, ℕ, [], ◌∷◌, length, true, false, not, ◌&&◌, ◌==◌, Option, None, Some, bytes_eq, refl, sym, ◌∙◌, ap, true≢false}
use Rattle.std.specs.Prelude.{is_some, is_err, nat_le, Result, Ok, Err, IsErrAnd, MatchResult, IfErr, IfOk}
use Rattle.std.specs.List.{AllByRecursion, list_all}
use Rattle.std.proofs.lemmas.Bool.{and_parts, leb-true, eqb-false, not-true}
use Rattle.std.proofs.lemmas.List.Elements.{All-from_recursion}
use Rattle.std.proofs.lemmas.Result.{IfOk-at_ok}
use Rattle.std.proofs.lemmas.Slice.Eq.{bytes_eq-Decides}
use Rattle.bp_layout.specs.Words.{Image}
use Rattle.bp_layout.specs.Inode.{kind_of}
use Rattle.bp_layout.specs.Directory.{slot_named}
use Rattle.bp_layout.specs.Paths.{Name, IsName, Path, is_name}
use Rattle.bp_layout.specs.Lookup.{lookup}
use Rattle.bp_plain.proofs.PathLaws.{first_one}
use Rattle.bp_plain.specs.declared.errors.FsError.{FsError}
use Rattle.bp_plain.specs.Seen.{refusal_of}
use Rattle.bp_plain.specs.Calls.{Refusal}
use Rattle.bp_plain.specs.Calls.Refusal.{exists, is_dir}
use Rattle.bp_plain.specs.Plain.{first, when, is_dir_at, walk, parent_of}
use Rattle.bp_path.specs.FoundEntries.{IsEntryOf, dir_of, fault_of, walked_of}
use Rattle.bp_path.specs.Walk.{Walked, walk_from, in_directory}
use Rattle.bp_path.specs.declared.steps.FoundEntry.{FoundEntry}
use Rattle.bp_path.specs.declared.steps.WalkFault.{WalkFault}
use Rattle.bp_fs.specs.Step.{IsEntryOn, IsNewOn, last_of}
use Rattle.bp_volume.specs.Queries.{RefusesEntry, RefusesFileAt, RefusesNew, RefusesWalk, refusal_of_new, refusal_of_walk}
use Rattle.bp_volume.proofs.WalkLaws.{walk-image, walk-found, walk_parent-image, dir_at}
use Rattle.bp_volume.proofs.CreateLaws.{by_parent, create_stopped, create_there, not_root}

-- ---- the form of a name

plain_bytes : (name : Name) → list_all (λ b. not (b == 0) && not (b == 47)) name ≡ true → AllByRecursion (λ b. (b ≢ 0) × (b ≢ 47)) name
plain_bytes [] e = tt
plain_bytes (b ∷ name) e =
    let parts : (not (b == 0) && not (b == 47) ≡ true) × (list_all (λ b. not (b == 0) && not (b == 47)) name ≡ true) = and_parts _ _ e in
    let first : (not (b == 0) ≡ true) × (not (b == 47) ≡ true) = and_parts _ _ parts.0 in
    ((eqb-false b 0 (not-true _ first.0), eqb-false b 47 (not-true _ first.1)), plain_bytes name parts.1)

other_text : (name other : Name) → not (bytes_eq name other) ≡ true → name ≢ other
other_text name other e same = true≢false (sym ((bytes_eq-Decides name other).1 same) ∙ not-true _ e)

pub name_form : (name : Name) → is_name name ≡ true → IsName name
name_form name e =
    let last : (nat_le 1 (length name) && nat_le (length name) 240 && list_all (λ b. not (b == 0) && not (b == 47)) name && not (bytes_eq name (46 ∷ [])) ≡ true) × (not (bytes_eq name (46 ∷ 46 ∷ [])) ≡ true) = and_parts _ _ e in
    let dot : (nat_le 1 (length name) && nat_le (length name) 240 && list_all (λ b. not (b == 0) && not (b == 47)) name ≡ true) × (not (bytes_eq name (46 ∷ [])) ≡ true) = and_parts _ _ last.0 in
    let bytes : (nat_le 1 (length name) && nat_le (length name) 240 ≡ true) × (list_all (λ b. not (b == 0) && not (b == 47)) name ≡ true) = and_parts _ _ dot.0 in
    let bounds : (nat_le 1 (length name) ≡ true) × (nat_le (length name) 240 ≡ true) = and_parts _ _ bytes.0 in
    record {
      not_empty = leb-true 1 (length name) bounds.0;
      short = leb-true (length name) 240 bounds.1;
      plain = All-from_recursion _ name (plain_bytes name bytes.1);
      not_dot = other_text name (46 ∷ []) dot.1;
      not_dot_dot = other_text name (46 ∷ 46 ∷ []) last.1;
    }

-- ---- walks that stop

pub walk_ends : (image : Image) (path : Path) (walked : Walked) (why : Refusal) → walked ≡ walk_from image 1 path → refusal_of_walk walked ≡ Some why → RefusesWalk image path why
walk_ends image path walked why is reported tree stands = walk-image image tree stands path ∙ ap refusal_of_walk (sym is) ∙ reported

-- after the `?` of a result whose error is reported as another one, its value has what the result had
pub ok_was : {T E : Type 0} (P : T → Type 0) (inner : Result T E) (v : T) → MatchResult inner (λ x. ◌≡◌ {A = Result T FsError} (Ok v) (Ok x)) (λ _. ⊥) → IfOk inner P → P v
ok_was P (Ok x) v maps holds = IfOk-at_ok P {r = Ok x} (sym maps) holds
ok_was P (Err e) v maps holds = absurd maps

-- the fault of a walk to a parent, reported as a refusal
pub fault_reported : (inner : Result ℕ WalkFault) (error : FsError) → MatchResult inner (λ x. ◌≡◌ {A = Result ℕ FsError} (Err error) (Ok x)) (λ fault. refusal_of_walk (fault_of fault) ≡ Some (refusal_of error)) →
    refusal_of_walk (dir_of inner) ≡ Some (refusal_of error)
fault_reported (Ok x) error maps = absurd (true≢false (ap is_err maps))
fault_reported (Err fault) error maps = maps

-- a walk, and its result with the fault reported as a refusal
pub walk_reported : (image : Image) (path : Path) (inner : Result FoundEntry WalkFault) (outer : Result FoundEntry FsError) → walked_of inner ≡ walk_from image 1 path →
    MatchResult inner (λ x. outer ≡ Ok x) (λ fault. IsErrAnd outer (λ error. refusal_of_walk (fault_of fault) ≡ Some (refusal_of error))) → IfErr outer (λ error. RefusesWalk image path (refusal_of error))
walk_reported image path (Ok x) (Ok y) is maps = tt
walk_reported image path (Ok x) (Err error) is maps = absurd (true≢false (ap is_err maps))
walk_reported image path (Err fault) (Ok y) is maps = absurd maps
walk_reported image path (Err fault) (Err error) is maps = walk_ends image path _ _ is maps

-- ---- the entry at a path

pub entry_found : (image : Image) (path : Path) (entry : FoundEntry) → path ≢ [] → IsEntryOf image path entry → lookup image path ≡ Some entry.ino → IsEntryOn image path entry.dir entry.slot entry.ino
entry_found image path entry below is_entry found =
    let both = is_entry.below (parent_of path) (last_of path) (by_parent path below) in
    record { below = below; parent = both.0; slot = both.1; inode = found }

pub entry_ends : (image : Image) (path : Path) (root why : Refusal) → path ≢ [] → RefusesWalk image path why → RefusesEntry image path root why
entry_ends image path root why below ends tree stands =
    ap (λ b. first (when b root ∷ walk tree.now.nodes path ∷ [])) (not_root path below) ∙ first_one (walk tree.now.nodes path) ∙ ends tree stands

-- ---- the file at a path

-- a directory stands where a file is wanted
pub no_file : (image : Image) (path : Path) (i : ℕ) → lookup image path ≡ Some i → kind_of image i ≡ 2 → RefusesFileAt image path is_dir
no_file image path i found kind tree stands =
    ap (λ o. first (o ∷ when (is_dir_at tree.now.nodes path) is_dir ∷ [])) (walk-found image tree stands path i found)
    ∙ ap (λ b. first (when b is_dir ∷ [])) (dir_at image tree stands path i found ∙ ap (λ k. k == 2) kind)

pub parent_stops : (image : Image) (path : Path) (walked : Walked) (why : Refusal) → path ≢ [] → walked ≡ in_directory image (walk_from image 1 (parent_of path)) → refusal_of_walk walked ≡ Some why → RefusesNew image path why
parent_stops image path walked why below is reported tree stands =
    create_stopped tree path why below (walk_parent-image image tree stands path (parent_of path) refl ∙ ap refusal_of_walk (sym is) ∙ reported)

-- ---- the name of a new file

nothing : (o : Option ℕ) → is_some o ≡ false → o ≡ None
nothing None e = refl
nothing (Some slot) e = absurd (true≢false e)

module _ (image : Image) (path : Path) (below : path ≢ []) (dir : ℕ) (found : lookup image (parent_of path) ≡ Some dir) (kind : kind_of image dir ≡ 2) (name : Name) (last : name ≡ last_of path) where
  -- it is new where the directory doesn't have it, and else refused
  pub name_is_new : is_name name ≡ true → is_some (slot_named image dir name) ≡ false → IsNewOn image path dir name
  name_is_new form none = record { below = below; parent = found; last = sym last; directory = kind; form = name_form name form; missing = nothing (slot_named image dir name) none }

  pub name_is_there : is_some (slot_named image dir name) ≡ true → RefusesNew image path exists
  name_is_there some tree stands = go (slot_named image dir name) refl
    where
      go : (o : Option ℕ) → slot_named image dir name ≡ o → refusal_of_new tree path ≡ Some exists
      go None at = absurd (true≢false (sym some ∙ ap is_some at))
      go (Some slot) at = create_there image path below dir found kind name (sym last) tree stands slot at
