-- The trails of what is found; and once those blocks are copied, no pointer on the ways leads to a block of the
-- snapshot.
use Rattle.std.proofs.Common.{◌≡◌, ◌⊎◌, ℕ, zero, suc, ◌-◌, ◌<◌, ◌≤◌, List, [], ◌∷◌, Bool, true, false, not, ◌==◌, map, take, length, filter, refl, sym, ◌∙◌, ap, subst, arith, inl, inr}
use Rattle.std.specs.List.{list_any}
use Rattle.std.proofs.lemmas.Bool.{eqb-true}
use Rattle.std.proofs.lemmas.List.{length-map}
use Rattle.bp_layout.specs.Inode.{root_of, size_of}
use Rattle.bp_layout.specs.Members.{AreApart, Has}
use Rattle.bp_layout.specs.Need.{prefixes_from}
use Rattle.bp_layout.specs.Nodes.{is_present}
use Rattle.bp_layout.specs.Reached.IsReached.{inode_file}
use Rattle.bp_layout.specs.Thaw.{proper_prefixes_of, is_proper_prefix, is_in_snapshot_at, is_there_now, thawed_on}
use Rattle.bp_layout.specs.WellFormed.{IsWellFormed}
use Rattle.bp_layout.specs.WordPaths.{WordPath, address, tree_path}
use Rattle.bp_layout.specs.Words.{Image, height_of}
use Rattle.bp_layout.proofs.MemberLaws.{filter-has, has-either}
use Rattle.bp_changes.specs.Thawed.{SameShape}
use Rattle.bp_changes.proofs.ReachedOn.{reached_on}
use Rattle.bp_changes.proofs.SameMeaning.{well_formed-same}
use Rattle.bp_changes.specs.Trail.{Trail, block_on, place_on, trail_of}
use Rattle.bp_changes.specs.Forest.{IsTreePointer}
use Rattle.bp_thaw.specs.Prefixes.{IsPointerPath, IsWayIn, path_trail}
use Rattle.bp_thaw.specs.Steps.{AreInSnapshot, IsInSnapshot}
use Rattle.bp_thaw.proofs.Found.{AreFound, IsPrefixAmong, all_apart, any_some, are_found, filter_none, found_is, gone, mapped_range, path_of, some_any, take_prefix, there_of}
use Rattle.bp_thaw.proofs.FindSteps.{take-trail, there_above}
use Rattle.bp_thaw.proofs.PointerPaths.{address_is, prefix_path, in_snapshot_is, paths_apart, there_is, there_pointer}

abbrev pub trails_of : List WordPath → List Trail
trails_of paths = map path_trail paths

has-trail : (paths : List WordPath) (p : Trail) → Has (trails_of paths) p → (f : WordPath) × Has paths f × (path_trail f ≡ p)
has-trail [] p has = absurd has
has-trail (f ∷ paths) p (inl e) = (f, inl refl, e)
has-trail (f ∷ paths) p (inr later) = let rest = has-trail paths p later in (rest.0, inr rest.1, rest.2)

pub trail-has : (paths : List WordPath) (f : WordPath) → Has paths f → Has (trails_of paths) (path_trail f)
trail-has [] f has = absurd has
trail-has (g ∷ paths) f (inl e) = inl (ap path_trail e)
trail-has (g ∷ paths) f (inr later) = inr (trail-has paths f later)

map_places : (image : Image) (paths : List WordPath) → ((f : WordPath) → Has paths f → address image f ≡ place_on image (path_trail f)) → map (address image) paths ≡ map (place_on image) (trails_of paths)
map_places image [] each = refl
map_places image (f ∷ paths) each =
    ap (λ a. a ∷ map (address image) paths) (each f (inl refl)) ∙ ap (λ rest. place_on image (path_trail f) ∷ rest) (map_places image paths (λ g later. each g (inr later)))

module _ (image : Image) (wf : IsWellFormed image) (in_snapshot : ℕ → Bool) where
  gone_has : (earlier ws : List WordPath) (w : WordPath) → Has earlier w ⊎ Has ws w → Has (gone image wf in_snapshot earlier ws) w
  gone_has earlier [] w (inl has) = has
  gone_has earlier [] w (inr none) = absurd none
  gone_has earlier (v ∷ ws) w (inl has) = gone_has (v ∷ earlier) ws w (inl (inr has))
  gone_has earlier (v ∷ ws) w (inr (inl e)) = gone_has (v ∷ earlier) ws w (inl (inl e))
  gone_has earlier (v ∷ ws) w (inr (inr later)) = gone_has (v ∷ earlier) ws w (inr later)

  prefixes_has : (earlier ws : List WordPath) (f : WordPath) → Has (proper_prefixes_of earlier ws) f → IsPrefixAmong image wf in_snapshot ws f
  prefixes_has earlier [] f has = absurd has
  prefixes_has earlier (w ∷ ws) f has = elim (has-either (filter (λ prefix. not (list_any (is_proper_prefix prefix) earlier)) (prefixes_from 0 w)) (proper_prefixes_of (w ∷ earlier) ws) f has) [
    | inl here ↦
        let one = filter-has (λ prefix. not (list_any (is_proper_prefix prefix) earlier)) (prefixes_from 0 w) f here in
        let two = mapped_range (λ n. take n w) 0 (length w - 0) f one.0 in
        record { way = w; count = two.0; has = inl refl; less = omega (arith, two.1); is = two.2 }
    | inr later ↦
        let rest = prefixes_has (w ∷ earlier) ws f later in
        record { way = rest.way; count = rest.count; has = inr rest.has; less = rest.less; is = rest.is }
  ]

  module _ (ws : List WordPath) (ways : (w : WordPath) → Has ws w → IsWayIn image w) where
    all_of : AreFound image wf in_snapshot (gone image wf in_snapshot [] ws) (thawed_on image in_snapshot ws)
    all_of = are_found image wf in_snapshot ws ways

    pointer_path : (f : WordPath) → Has (thawed_on image in_snapshot ws) f → IsPointerPath image f
    pointer_path f has = path_of image wf in_snapshot (gone image wf in_snapshot [] ws) all_of.ways f (all_of.prefixes f has)

    there_found : (f : WordPath) → Has (thawed_on image in_snapshot ws) f → is_there_now image f ≡ true
    there_found f has = there_of image wf in_snapshot f (all_of.in_snapshot_there f has)

    -- a kept prefix is among what is found
    in_snapshot_found : (f : WordPath) → IsPrefixAmong image wf in_snapshot (gone image wf in_snapshot [] ws) f → is_in_snapshot_at image in_snapshot f ≡ true → Has (thawed_on image in_snapshot ws) f
    in_snapshot_found f prefix is =
        let of : IsPointerPath image f = path_of image wf in_snapshot (gone image wf in_snapshot [] ws) all_of.ways f prefix in
        let begins : is_proper_prefix f prefix.way ≡ true = subst (λ g. is_proper_prefix g prefix.way ≡ true) (sym prefix.is) (take_prefix prefix.way prefix.count prefix.less) in
        let other = some_any (λ g. address image g == address image f) (thawed_on image in_snapshot ws) (all_of.same f of is ∙ any_some (is_proper_prefix f) (gone image wf in_snapshot [] ws) prefix.way prefix.has begins) in
        subst (Has (thawed_on image in_snapshot ws))
        (paths_apart image wf other.0 f (pointer_path other.0 other.1) of (there_found other.0 other.1) (there_of image wf in_snapshot f is) (eqb-true (address image other.0) (address image f) other.2)) other.1

    pub trails_in_snapshot : AreInSnapshot image in_snapshot (trails_of (thawed_on image in_snapshot ws))
    trails_in_snapshot = record { each = each; above = above }
      where
        each : (p : Trail) → Has (trails_of (thawed_on image in_snapshot ws)) p → IsInSnapshot image in_snapshot p
        each p has =
            let f = has-trail (thawed_on image in_snapshot ws) p has in
            let of = pointer_path f.0 f.1 in
            let there = there_found f.0 f.1 in
            let one = there_pointer image wf f.0 of there in
            subst (IsInSnapshot image in_snapshot) f.2 (record { pointer = one.0; present = one.1; is_in_snapshot = sym (in_snapshot_is image wf f.0 of there in_snapshot) ∙ all_of.in_snapshot_there f.0 f.1 })

        below : (w : WordPath) (n slot : ℕ) (p : Trail) → trail_of w n ≡ slot ∷ p → (m : ℕ) × (n ≡ suc m) × (trail_of w m ≡ p)
        below w zero slot p e = absurd (cc)
        below w (suc m) slot p e = (m, refl, cc)

        above : (slot : ℕ) (p : Trail) → Has (trails_of (thawed_on image in_snapshot ws)) (slot ∷ p) → in_snapshot (block_on image p) ≡ true → Has (trails_of (thawed_on image in_snapshot ws)) p
        above slot p has is =
            let f = has-trail (thawed_on image in_snapshot ws) (slot ∷ p) has in
            let prefix = all_of.prefixes f.0 f.1 in
            let way : IsWayIn image prefix.way = all_of.ways prefix.way prefix.has in
            let up = below prefix.way prefix.count slot p (sym (take-trail image wf prefix.way way prefix.count (omega (arith, prefix.less))) ∙ ap path_trail (sym prefix.is) ∙ f.2) in
            let m : ℕ = up.0 in
            let less : m < length prefix.way = omega (arith, up.1, prefix.less) in
            let trail : path_trail (take m prefix.way) ≡ p = take-trail image wf prefix.way way m (omega (arith, less)) ∙ up.2 in
            let here : is_there_now image (take prefix.count prefix.way) ≡ true = subst (λ g. is_there_now image g ≡ true) prefix.is (there_found f.0 f.1) in
            let there : is_there_now image (take m prefix.way) ≡ true = there_above image wf prefix.way way prefix.count m (omega (arith, up.1)) prefix.less here in
            let in_snapshot_there : is_in_snapshot_at image in_snapshot (take m prefix.way) ≡ true = in_snapshot_is image wf (take m prefix.way) (prefix_path image wf prefix.way m way less) there in_snapshot ∙ ap (λ t. in_snapshot (block_on image t)) trail ∙ is in
            subst (Has (trails_of (thawed_on image in_snapshot ws))) trail
            (trail-has (thawed_on image in_snapshot ws) (take m prefix.way) (in_snapshot_found (take m prefix.way) (record { way = prefix.way; count = m; has = prefix.has; less = less; is = refl }) in_snapshot_there))

    pub trails_number : length (trails_of (thawed_on image in_snapshot ws)) ≡ length (thawed_on image in_snapshot ws)
    trails_number = length-map (thawed_on image in_snapshot ws) path_trail

    pub places_are : map (address image) (thawed_on image in_snapshot ws) ≡ map (place_on image) (trails_of (thawed_on image in_snapshot ws))
    places_are = map_places image (thawed_on image in_snapshot ws) (λ f has. address_is image wf f (pointer_path f has) (there_found f has))

    pub places_once : AreApart (map (address image) (thawed_on image in_snapshot ws))
    places_once = subst (λ fs. AreApart (map (address image) fs)) (found_is image wf in_snapshot ws ways) (all_apart image in_snapshot [] ws tt)

    -- ---- afterwards

    module _ (new : Image) (shape : SameShape image new) (copied : (p : Trail) → Has (trails_of (thawed_on image in_snapshot ws)) p → in_snapshot (block_on new p) ≡ false)
        (uncopied : (p : Trail) → IsTreePointer image (size_of image) p → in_snapshot (block_on image p) ≡ false → block_on new p ≡ block_on image p) where
      wf_new : IsWellFormed new
      wf_new = well_formed-same image new wf shape.meaning

      abbrev new_path : (f : WordPath) → IsPointerPath image f → IsPointerPath new f
      new_path f of = record {
        tree = of.tree;
        depth = of.depth;
        index = of.index;
        reached = reached_on image new shape.meaning of.tree of.reached;
        low = subst (λ h. of.depth ≤ h) (sym (shape.heights of.tree of.reached)) of.low;
        few = of.few;
        is = of.is ∙ ap (λ h. tree_path h of.tree of.depth of.index) (sym (shape.heights 0 inode_file));
      }

      there_same : (f : WordPath) (of : IsPointerPath image f) → is_there_now new f ≡ is_there_now image f
      there_same f of =
          there_is new wf_new f (new_path f of)
          ∙ shape.present of.tree of.reached (record { level = height_of (root_of new of.tree) - of.depth; index = of.index })
          ∙ ap (λ h. is_present image (root_of image of.tree) (size_of image of.tree) (record { level = h - of.depth; index = of.index })) (shape.heights of.tree of.reached)
          ∙ sym (there_is image wf f of)

      clash : (b : Bool) → b ≡ true → b ≡ false → ⊥
      clash b one two = absurd (cc)

      loose : (f : WordPath) → IsPrefixAmong image wf in_snapshot (gone image wf in_snapshot [] ws) f → (x : Bool) → is_in_snapshot_at new in_snapshot f ≡ x → is_in_snapshot_at new in_snapshot f ≡ false
      loose f prefix false e = e
      loose f prefix true e = absurd (impossible (in_snapshot (block_on image (path_trail f))) refl)
        where
          of : IsPointerPath image f
          of = path_of image wf in_snapshot (gone image wf in_snapshot [] ws) all_of.ways f prefix

          there_new : is_there_now new f ≡ true
          there_new = there_of new wf_new in_snapshot f e

          there_old : is_there_now image f ≡ true
          there_old = sym (there_same f of) ∙ there_new

          in_snapshot_new : in_snapshot (block_on new (path_trail f)) ≡ true
          in_snapshot_new = sym (in_snapshot_is new wf_new f (new_path f of) there_new in_snapshot) ∙ e

          impossible : (y : Bool) → in_snapshot (block_on image (path_trail f)) ≡ y → ⊥
          impossible true is =
              clash (in_snapshot (block_on new (path_trail f))) in_snapshot_new
              (copied (path_trail f) (trail-has (thawed_on image in_snapshot ws) f (in_snapshot_found f prefix (in_snapshot_is image wf f of there_old in_snapshot ∙ is))))
          impossible false is =
              clash (in_snapshot (block_on new (path_trail f))) in_snapshot_new
              (ap in_snapshot (uncopied (path_trail f) (there_pointer image wf f of there_old).0 is) ∙ is)

      pub clear : thawed_on new in_snapshot ws ≡ []
      clear = filter_none (is_in_snapshot_at new in_snapshot) (proper_prefixes_of [] ws) (λ f has. loose f (among f (prefixes_has [] ws f has)) (is_in_snapshot_at new in_snapshot f) refl)
        where
          among : (f : WordPath) → IsPrefixAmong image wf in_snapshot ws f → IsPrefixAmong image wf in_snapshot (gone image wf in_snapshot [] ws) f
          among f prefix = record { way = prefix.way; count = prefix.count; has = gone_has [] ws prefix.way (inr prefix.has); less = prefix.less; is = prefix.is }
