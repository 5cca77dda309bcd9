-- The lines of a file at one of its paths.
use Rattle.std.proofs.Common.{◌≡◌, ℕ, ◌*◌, ◌<◌, ◌≤◌, List, [], ◌∷◌, ◌++◌, length, slice_index, flat_map, None, Some, sym, ◌∙◌, ap, subst, subst₂, append-nil}
use Rattle.std.specs.Prelude.{All, Result, Ok, Err, OnOk}
use Rattle.std.proofs.lemmas.List.Elements.{All-head}
use Rattle.bp_io.specs.Views.{SinkView}
use Rattle.bp_io.specs.declared.faults.Failed.{Failed}
use Rattle.bp_layout.specs.Inode.{IsDirectory, IsFile, attributes_of, root_of, size_of}
use Rattle.bp_layout.specs.Lookup.{file_at, node_of}
use Rattle.bp_layout.specs.Paths.Node.{dir, file}
use Rattle.bp_layout.specs.Names.{AreCounts}
use Rattle.bp_layout.specs.Tree.{IsSound, content}
use Rattle.bp_layout.specs.WellFormed.{IsWellFormed}
use Rattle.bp_layout.specs.Words.{Image, block_count}
use Rattle.bp_plain.specs.Calls.{Call}
use Rattle.bp_plain.specs.Calls.Call.{link}
use Rattle.bp_plain.specs.Export.{calls_at, calls_for, path_text}
use Rattle.bp_script.specs.Export.{FitsText}
use Rattle.bp_export.specs.Exports.{Goes}
use Rattle.bp_export.specs.Firsts.{first_text}
use Rattle.bp_export.specs.Report.{Reports}
use Rattle.bp_export.specs.Walking.{Place, RemembersFirsts, Tours, WalkStandsAt, itself, text_of_first}
use Rattle.bp_export.specs.declared.fault.Fault.{Fault}
use Rattle.bp_export.specs.declared.fault.Fault.TheVariants.{Memory, Sink}
use Rattle.bp_export.specs.declared.firsts.Firsts.{Firsts}
use Rattle.bp_export.proofs.FirstTexts.{directory_calls, file_here, first_calls, later_calls, no_file_here, remembers_directory, single_new}
use Rattle.bp_export.proofs.GoingLaws.{goes_nowhere, goes_reported, goes_stop, goes_unreported}
use Rattle.bp_export.proofs.Places.{fits_next}
use Rattle.bp_export.proofs.RowLaws.{IsInode, inode_reached}
use Rattle.bp_export.proofs.TreeLaws.{found_low, found_reached, has_count, node_of-directory, node_of-file}

module _ (image : Image) (wf : IsWellFormed image) (counts : List ℕ) (i : ℕ) (text : List ℕ) (firsts : Firsts) where
  -- the path at hand is that of inode i, which is reported next
  abbrev pub IsHere : Place → Type 0
  IsHere place = WalkStandsAt image counts (itself image i) i text firsts place

  abbrev pub calls_here : Place → List Call
  calls_here place = flat_map (calls_at place.tree) (itself image i place.tree place.path)

  module _ (place : Place) (stands : IsHere place) where
    pub inode_found : IsInode image wf i
    inode_found = inode_reached image wf i (found_reached image wf place.path i stands.found) (found_low image wf place.path i stands.found)

    pub counted : (n : ℕ) → n ≡ 64 * block_count image → i < n
    counted n is = has_count image wf i n inode_found.high is

    fits_here : All FitsText (calls_here place)
    fits_here = fits_next image counts (itself image i) i text firsts place stands

    module _ (below : 1 ≤ length text) where
      some : 1 ≤ length (path_text place.path)
      some = subst (λ (l : List ℕ). 1 ≤ length l) stands.spelled below

      one_entry : (calls : List Call) → calls_at place.tree (place.path, node_of image i) ≡ calls → calls_here place ≡ calls
      one_entry calls is = append-nil (calls_at place.tree (place.path, node_of image i)) ∙ is

      -- ---- a directory

      pub directory_here : IsDirectory image i → calls_here place ≡ calls_for text (dir (attributes_of image i))
      directory_here kind = one_entry (calls_for text (dir (attributes_of image i)))
          (ap (λ node. calls_at place.tree (place.path, node)) (node_of-directory image i kind)
          ∙ directory_calls image place.tree stands.can.shows place.path some (attributes_of image i) (no_file_here image place.path i stands.found kind)
          ∙ ap (λ l. calls_for l (dir (attributes_of image i))) (sym stands.spelled))

      pub fits_directory : IsDirectory image i → All FitsText (calls_for text (dir (attributes_of image i)))
      fits_directory kind = subst (All FitsText) (directory_here kind) fits_here

      pub directory_remembered : IsDirectory image i → RemembersFirsts image counts firsts (place.noted ++ itself image i place.tree place.path)
      directory_remembered kind = remembers_directory image counts firsts place.noted stands.remembers place.path (node_of image i) (no_file_here image place.path i stands.found kind)

      -- ---- a file

      module _ (kind : IsFile image i) where
        abbrev bytes : List ℕ
        bytes = content image (root_of image i) (size_of image i)

        pub at : file_at image place.path ≡ Some i
        at = file_here image place.path i stands.found kind

        -- at a later path
        module _ (several : 1 < slice_index counts i) (first : List ℕ) (known : first_text firsts i ≡ Some first) where
          pub link_here : calls_here place ≡ link first text ∷ []
          link_here = one_entry (link first text ∷ [])
              (later_calls image place.tree stands.can.shows place.path some place.noted place.later (node_of image i) stands.order i at first (sym (stands.remembers.each i several) ∙ known)
              ∙ ap (λ l. link first l ∷ []) (sym stands.spelled))

          pub fits_link : FitsText (link first text)
          fits_link = All-head FitsText (link first text) [] (subst (All FitsText) link_here fits_here)

        -- at the first one
        pub none_known : 1 < slice_index counts i → first_text firsts i ≡ None → text_of_first image i place.noted ≡ None
        none_known several unknown = sym (stands.remembers.each i several) ∙ unknown

        pub none_single : AreCounts image counts → i < length counts → slice_index counts i ≤ 1 → text_of_first image i place.noted ≡ None
        none_single are low few =
            single_new image place.tree stands.can.shows place.path some place.noted place.later (node_of image i) stands.order i at (slice_index counts i) (are.each i low) few

        module _ (new : text_of_first image i place.noted ≡ None) where
          pub made_here : calls_here place ≡ calls_for text (file (attributes_of image i) bytes)
          made_here = one_entry (calls_for text (file (attributes_of image i) bytes))
              (first_calls image place.tree stands.can.shows place.path some place.noted place.later (node_of image i) stands.order i at new
              ∙ ap (λ node. calls_for (path_text place.path) node) (node_of-file image i kind)
              ∙ ap (λ l. calls_for l (file (attributes_of image i) bytes)) (sym stands.spelled))

          pub fits_made : All FitsText (calls_for text (file (attributes_of image i) bytes))
          fits_made = subst (All FitsText) made_here fits_here

    -- ---- how it ends

    module _ (b c : List ℕ) (t u : SinkView) where
      pub toured : {S T : Type 0} (v : S) (w : T) (calls : List Call) → calls_here place ≡ calls → Reports calls (Ok v) b c t u → (after : Firsts) → RemembersFirsts image counts after (place.noted ++ itself image i place.tree place.path)
          → Tours image counts (itself image i) place (Ok w) after b c t u
      toured {S} {T} v w calls is reports after remembers =
          record { goes = subst (λ (l : List Call). Goes {T = T} l (Ok w) b c t u) (sym is) (goes_reported v w calls b c t u reports); remembers = remembers }

      pub untoured : (S T : Type 0) (failed : Failed) (e : Fault) → e ≡ Sink → (calls : List Call) → calls_here place ≡ calls → Reports {T = S} calls (Err failed) b c t u → (after : Firsts)
          → Tours {T = T} image counts (itself image i) place (Err e) after b c t u
      untoured S T failed e is_sink calls is reports after =
          record { goes = subst (λ (l : List Call). Goes {T = T} l (Err e) b c t u) (sym is) (goes_unreported S T failed e is_sink calls b c c t u reports); remembers = tt }

    pub unremembered : (T : Type 0) (e : Fault) → e ≡ Memory → (after : Firsts) (b : List ℕ) (t : SinkView) → Tours {T = T} image counts (itself image i) place (Err e) after b b t t
    unremembered T e is after b t = record { goes = goes_nowhere T e is (calls_here place) b t; remembers = tt }

    -- the same of an answer that is this one
    pub tours_end : {T : Type 0} (r : Result T Fault) (e : Fault) → r ≡ Err e → (after : Firsts) (b c : List ℕ) (t u : SinkView) → Tours {T = T} image counts (itself image i) place (Err e) after b c t u → Tours image counts (itself image i) place r after b c t u
    tours_end {T} r e is after b c t u tours = subst (λ (x : Result T Fault). Tours image counts (itself image i) place x after b c t u) (sym is) tours

    -- ---- a file or a directory that is made at the path at hand

    pub toured_so : {T : Type 0} (r : Result T Fault) (b c : List ℕ) (t u : SinkView) (calls : List Call) → calls_here place ≡ calls → Goes calls r b c t u → (after : Firsts) → RemembersFirsts image counts after (place.noted ++ itself image i place.tree place.path)
        → Tours image counts (itself image i) place r after b c t u
    toured_so {T} r b c t u calls is goes after remembers = record { goes = subst (λ (l : List Call). Goes {T = T} l r b c t u) (sym is) goes; remembers = where_ok r }
      where
        where_ok : (r : Result T Fault) → OnOk r (RemembersFirsts image counts after (place.noted ++ itself image i place.tree place.path))
        where_ok (Ok v) = remembers
        where_ok (Err e) = tt

    pub fails_so : (S T : Type 0) (e d : Fault) → d ≡ e → (b c : List ℕ) (t u : SinkView) (calls : List Call) → calls_here place ≡ calls → Goes {T = S} calls (Err e) b c t u → (after : Firsts) → Tours {T = T} image counts (itself image i) place (Err d) after b c t u
    fails_so S T e d same b c t u calls is goes after =
        subst (λ (fault : Fault). Tours {T = T} image counts (itself image i) place (Err fault) after b c t u) (sym same)
        (record { goes = subst (λ (l : List Call). Goes {T = T} l (Err e) b c t u) (sym is) (goes_stop S T e calls b c t u goes); remembers = tt })

    pub sound_here : (root size : ℕ) → root ≡ root_of image i → size ≡ size_of image i → IsSound image root size
    sound_here root size root_is size_is = subst₂ (IsSound image) (sym root_is) (sym size_is) (wf.sound i (found_reached image wf place.path i stands.found))

    module _ (below : 1 ≤ length text) (kind : IsFile image i) (new : text_of_first image i place.noted ≡ None) (root size : ℕ) (root_is : root ≡ root_of image i) (size_is : size ≡ size_of image i) where
      made_from : calls_here place ≡ calls_for text (file (attributes_of image i) (content image root size))
      made_from = subst₂ (λ r s. calls_here place ≡ calls_for text (file (attributes_of image i) (content image r s))) (sym root_is) (sym size_is) (made_here below kind new)

      pub fits_from : All FitsText (calls_for text (file (attributes_of image i) (content image root size)))
      fits_from = subst₂ (λ r s. All FitsText (calls_for text (file (attributes_of image i) (content image r s)))) (sym root_is) (sym size_is) (fits_made below kind new)

      pub toured_from : {T : Type 0} (r : Result T Fault) (b c : List ℕ) (t u : SinkView) → Goes (calls_for text (file (attributes_of image i) (content image root size))) r b c t u → (after : Firsts)
          → RemembersFirsts image counts after (place.noted ++ itself image i place.tree place.path) → Tours image counts (itself image i) place r after b c t u
      toured_from r b c t u goes after remembers = toured_so r b c t u (calls_for text (file (attributes_of image i) (content image root size))) made_from goes after remembers
