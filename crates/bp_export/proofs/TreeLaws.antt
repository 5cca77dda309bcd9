-- The whole of a tree, and the inodes of its paths.
use Rattle.std.proofs.Common.{◌≡◌, ℕ, zero, suc, ◌*◌, ◌/◌, ◌<◌, ◌≤◌, List, [], ◌∷◌, ◌++◌, flat_map, None, Some, refl, sym, ◌∙◌, ap, subst, arith, append-nil}
use Rattle.std.specs.Prelude.{All, Bool, Result, Ok, Err}
use Rattle.std.specs.FinMap.{entries}
use Rattle.bp_io.specs.Views.{SinkView}
use Rattle.bp_io.specs.declared.faults.Failed.{Failed}
use Rattle.bp_layout.specs.Formatted.{version_of}
use Rattle.bp_layout.specs.Inode.{IsDirectory, IsFile, attributes_of, inode_count, root_of, size_of}
use Rattle.bp_layout.specs.Lookup.{lookup, node_of}
use Rattle.bp_layout.specs.Paths.{Path}
use Rattle.bp_layout.specs.Paths.Node.{dir, file}
use Rattle.bp_layout.specs.Reached.{IsReached}
use Rattle.bp_layout.specs.Reached.IsReached.{inode_file, root_directory}
use Rattle.bp_layout.specs.Tree.{content}
use Rattle.bp_layout.specs.WellFormed.{IsWellFormed}
use Rattle.bp_layout.specs.Words.{Image, block_count}
use Rattle.bp_layout.proofs.FewLeaves.{few_inodes}
use Rattle.bp_layout.proofs.Paths.{ByLast, LastStep, by_last, last_step}
use Rattle.bp_layout.proofs.Paths.ByLast.{none, more}
use Rattle.bp_layout.proofs.View.{lookup_from-reached}
use Rattle.bp_limits.specs.CallLimits.{allows_attributes}
use Rattle.bp_plain.specs.Calls.{Call}
use Rattle.bp_plain.specs.Export.{HasShortPaths, IsExportable, IsOfBytes, calls_at, export_calls, root_text, sets_of}
use Rattle.bp_plain.specs.Plain.{attributes_at, attributes_in}
use Rattle.bp_plain.specs.PlainTree.{FileTree}
use Rattle.bp_plain.specs.Stands.{Stands}
use Rattle.bp_plain.proofs.Exportable.{image_exportable}
use Rattle.bp_script.specs.Export.{FitsText}
use Rattle.bp_script.proofs.ExportLines.{export_short}
use Rattle.bp_export.specs.Exports.{Goes}
use Rattle.bp_export.specs.Firsts.{first_text}
use Rattle.bp_export.specs.Report.{Reports, WritesInode}
use Rattle.bp_export.specs.Walking.{CanExport, WalkStandsAt, inside}
use Rattle.bp_export.specs.declared.fault.Fault.{Fault}
use Rattle.bp_export.specs.declared.fault.Fault.TheVariants.{Sink}
use Rattle.bp_export.specs.declared.firsts.Firsts.{Firsts}
use Rattle.bp_export.proofs.GoingLaws.{goes_before, goes_reported, goes_then, goes_unreported}
use Rattle.bp_export.proofs.Prefixes.{all_prefix}
use Rattle.bp_export.proofs.Places.{root_place, stands_at_root}

-- ---- the inode that a path finds

module _ (image : Image) (wf : IsWellFormed image) (path : Path) (i : ℕ) (found : lookup image path ≡ Some i) where
  pub found_reached : IsReached image i
  found_reached = lookup_from-reached image 1 i path root_directory found

  pub found_low : 1 ≤ i
  found_low = go (by_last path) found
    where
      not_zero : (j : ℕ) → (j ≡ 0 → ⊥) → 1 ≤ j
      not_zero zero other = absurd (other refl)
      not_zero (suc j) other = omega arith

      go : {p : Path} → ByLast p → lookup image p ≡ Some i → 1 ≤ i
      go none at = let root : 1 ≡ i = cc in omega (arith, root)
      go (more {path = prefix} before name) at =
          let step : LastStep image wf prefix name i = last_step image wf prefix name i at in
          not_zero i step.shows.entry.not_empty

  pub written_here : (attributes : Bool) → attributes ≡ allows_attributes (version_of image) → WritesInode image i attributes
  written_here attributes known = record { well_formed = wf; reached = found_reached; some = found_low; known = known }

-- the counts of names have one for each inode
pub has_count : (image : Image) → IsWellFormed image → (i n : ℕ) → i < inode_count image → n ≡ 64 * block_count image → i < n
has_count image wf i n high is =
    let few : size_of image 0 / 64 ≤ 64 * block_count image = few_inodes image (root_of image 0) (size_of image 0) (wf.sound 0 inode_file) wf.full_inode_file (omega (arith, wf.formatted.sized.at_least)) wf.inode_blocks in
    omega (arith, few, high, is)

pub node_of-directory : (image : Image) (i : ℕ) → IsDirectory image i → node_of image i ≡ dir (attributes_of image i)
node_of-directory image i kind = rw kind refl

pub node_of-file : (image : Image) (i : ℕ) → IsFile image i → node_of image i ≡ file (attributes_of image i) (content image (root_of image i) (size_of image i))
node_of-file image i kind = rw kind refl

-- ---- the whole tree

module _ (image : Image) (tree : FileTree) (stands : Stands image tree) (short : HasShortPaths tree) where
  can : IsExportable tree × IsOfBytes tree
  can = image_exportable image tree stands short

  pub can_export : CanExport image tree.now
  can_export = record { shows = stands.now; short = short; fits = export_short tree can.0 can.1 }

  -- the calls for the root set its attributes, and all other calls are for the entries below it
  module _ (counts : List ℕ) (firsts : Firsts) (nothing : (i : ℕ) → first_text firsts i ≡ None) where
    abbrev root_sets : List Call
    root_sets = sets_of root_text (attributes_of image 1)

    abbrev below : List Call
    below = flat_map (calls_at tree.now) (inside tree.now [])

    order : entries tree.now.nodes ≡ ([], dir (attributes_of image 1)) ∷ (inside tree.now [] ++ [])
    order = let stands : WalkStandsAt image counts inside 1 [] firsts (root_place image tree.now can_export) = stands_at_root image tree.now can_export counts firsts nothing in stands.order

    root_values : attributes_at tree.now.nodes [] ≡ attributes_of image 1
    root_values = ap attributes_in (stands.now.shows [] ∙ ap Some (node_of-directory image 1 stands.now.well_formed.root_kind))

    all_calls : root_sets ++ below ≡ export_calls tree
    all_calls =
        ap (λ values. sets_of root_text values ++ below) (sym root_values)
        ∙ ap (λ es. sets_of root_text (attributes_at tree.now.nodes []) ++ flat_map (calls_at tree.now) es) (sym (append-nil (inside tree.now [])))
        ∙ sym (ap (flat_map (calls_at tree.now)) order)

    pub fits_root : All FitsText root_sets
    fits_root = all_prefix FitsText root_sets below (subst (All FitsText) (sym all_calls) can_export.fits)

    -- the lines of the root, before which nothing waits, and those below it
    module _ (b : List ℕ) (none : b ≡ []) where
      from_root : {T : Type 0} (r : Result T Fault) (a : List ℕ) (t u : SinkView) → Goes (root_sets ++ below) r b a t u → Goes (export_calls tree) r [] a t u
      from_root r a t u goes = subst (λ (calls : List Call). Goes calls r [] a t u) all_calls (subst (λ (l : List ℕ). Goes (root_sets ++ below) r l a t u) none goes)

      pub root_fails : (S T : Type 0) (failed : Failed) (e : Fault) → e ≡ Sink → (a : List ℕ) (t u : SinkView) → Reports {T = S} root_sets (Err failed) b a t u → Goes {T = T} (export_calls tree) (Err e) [] a t u
      root_fails S T failed e is a t u reports = from_root {T = T} (Err e) a t u (goes_before T T e root_sets below b a t u (goes_unreported S T failed e is root_sets b a a t u reports))

      pub root_then : {S T : Type 0} (v : S) (r : Result T Fault) (a c : List ℕ) (t u w : SinkView) → Reports root_sets (Ok v) b a t u → Goes below r a c u w → Goes (export_calls tree) r [] c t w
      root_then v r a c t u w reports goes = from_root r c t w (goes_then v r root_sets below b a c t u w (goes_reported v v root_sets b a t u reports) goes)
