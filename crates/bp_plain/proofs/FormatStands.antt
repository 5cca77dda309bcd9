-- A formatted image stands for the root directory alone.
use Rattle.std.proofs.Common.{◌≡◌, ℕ, ◌*◌, ◌≤◌, [], ◌∷◌, length, Option, None, Some, option_map, refl, sym, ◌∙◌, ap}
use Rattle.std.specs.FinMap.{get, empty, get-empty, get-insert}
use Rattle.std.specs.FinSet.{contains-empty}
use Rattle.bp_limits.specs.Limits.{max_blocks}
use Rattle.bp_limits.specs.declared.version.Version.{Version}
use Rattle.bp_layout.specs.Words.{Image}
use Rattle.bp_layout.specs.Lookup.{are_one, file_at, lookup, node_of, shown}
use Rattle.bp_layout.specs.Paths.{Path, Node, no_attributes}
use Rattle.bp_layout.specs.Paths.Node.{dir}
use Rattle.bp_layout.specs.Format.{formatted}
use Rattle.bp_layout.specs.WellFormed.{IsWellFormed}
use Rattle.bp_layout.proofs.Format.{formatted_alone, formatted_version, formatted_well_formed, shown_formatted_root, shown_formatted_else}
use Rattle.bp_plain.specs.PlainTree.{empty_map, empty_tree, pair_cmp, path_cmp}
use Rattle.bp_plain.specs.Stands.{Shows, Stands}
use Rattle.bp_plain.proofs.PathOrder.{path_cmp-IsTotalOrder}

module _ (image : Image) (version : Version) (blocks : ℕ) (whole : length image ≡ 512 * blocks) (least : 8 ≤ blocks) (most : blocks ≤ max_blocks) where
  abbrev made : Image
  made = formatted image version blocks

  wf : IsWellFormed made
  wf = formatted_well_formed image version blocks whole least most

  no_file : (path : Path) → file_at made path ≡ None
  no_file [] = rw wf.root_kind refl
  no_file (name ∷ path) = go (lookup made (name ∷ path)) refl
    where
      go : (found : Option ℕ) → lookup made (name ∷ path) ≡ found → file_at made (name ∷ path) ≡ None
      go None e = rw e refl
      go (Some u) e =
          let there : shown made (name ∷ path) ≡ Some (node_of made u) = ap (option_map (node_of made)) e in
          let wrong : ◌≡◌ {A = Option Node} (Some (node_of made u)) None = sym there ∙ shown_formatted_else image version blocks whole least most name path in
          absurd (cc)

  pub format_shows : Shows made empty_map
  format_shows = record {
    well_formed = wf;
    shows = shows;
    one = λ p q. contains-empty pair_cmp (p, q) ∙ sym (ap (λ f. are_one f (file_at made q)) (no_file p));
  }
    where
      shows : (path : Path) → get empty_map.nodes path ≡ shown made path
      shows [] = get-insert path_cmp-IsTotalOrder empty [] (dir no_attributes) [] ∙ sym (shown_formatted_root image version blocks whole least most)
      shows (name ∷ path) =
          get-insert path_cmp-IsTotalOrder empty [] (dir no_attributes) (name ∷ path) ∙ get-empty path_cmp (name ∷ path) ∙ sym (shown_formatted_else image version blocks whole least most name path)

  pub format_stands : Stands made (empty_tree version)
  format_stands = record {
    version = sym (formatted_version image version blocks whole least);
    now = format_shows;
    snap = formatted_alone image version blocks whole least most;
  }
