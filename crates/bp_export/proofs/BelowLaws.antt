-- The entries of a directory are reported one after the other.
use Rattle.std.proofs.Common.{◌≡◌, ℕ, ◌+◌, ◌≤◌, List, ◌++◌, length, flat_map, Some, sym, ◌∙◌, ap, subst, append_assoc, append-nil}
use Rattle.std.specs.Prelude.{Ok, Err, slice_get}
use Rattle.bp_io.specs.Views.{SinkView}
use Rattle.bp_layout.specs.Paths.{Name}
use Rattle.bp_layout.specs.Inode.{IsDirectory, IsFile}
use Rattle.bp_layout.specs.Lookup.{node_of}
use Rattle.bp_layout.specs.Words.{Image}
use Rattle.bp_plain.specs.Calls.{Call}
use Rattle.bp_plain.specs.Export.{calls_at}
use Rattle.bp_plain.proofs.PathWays.{Entry}
use Rattle.bp_export.specs.Entries.{AreEntries}
use Rattle.bp_export.specs.Exports.{Goes}
use Rattle.bp_export.specs.Walking.{Place, RemembersFirsts, Tours, WalkStandsAt, inside, itself, up_to}
use Rattle.bp_export.specs.declared.fault.Fault.{Fault}
use Rattle.bp_export.specs.declared.fault.Fault.TheVariants.{Memory}
use Rattle.bp_export.specs.declared.firsts.Firsts.{Firsts}
use Rattle.bp_export.proofs.GoingLaws.{goes_before, goes_nothing, goes_nowhere, goes_stop, goes_then}
use Rattle.bp_export.proofs.Places.{following, below_node, calls-append, child_place, entries_all, inner_place, is_dir, next_directory, next_file, reported_directory, reported_file, whole}

module _ (image : Image) (counts : List ℕ) (i : ℕ) (text : List ℕ) (before : Firsts) (place : Place) (stands : WalkStandsAt image counts inside i text before place)
    (a : List ℕ) (t : SinkView) where
  abbrev calls : List Entry → List Call
  calls es = flat_map (calls_at place.tree) es

  -- as many entries are reported
  abbrev pub ReportedTo : ℕ → Firsts → List ℕ → SinkView → Type 0
  ReportedTo k firsts b u = Tours {T = Unit {0}} image counts (up_to k) place (Ok tt) firsts a b t u

  pub none_reported : ReportedTo 0 before a t
  none_reported = record {
    goes = goes_nothing (tt {0}) a t;
    remembers = subst (RemembersFirsts image counts before) (sym (append-nil place.noted)) stands.remembers;
  }

  -- memory was out, or the walk ended in an entry
  pub ends_early : (T : Type 0) (k : ℕ) (b c : List ℕ) (u w : SinkView) (firsts after : Firsts) (more rest : List Entry) (e : Fault) → ReportedTo k firsts b u → inside place.tree place.path ≡ up_to k place.tree place.path ++ (more ++ rest) →
      Goes {T = Unit {0}} (calls more) (Err e) b c u w → Tours {T = T} image counts inside place (Err e) after a c t w
  ends_early T k b c u w firsts after more rest e noted is goes = record {
    goes = subst (λ (l : List Call). Goes {T = T} l (Err e) a c t w) (sym all)
        (goes_before (Unit {0}) T e (calls (up_to k place.tree place.path) ++ calls more) (calls rest) a c t w (goes_then {T = Unit {0}} (tt {0}) (Err e) (calls (up_to k place.tree place.path)) (calls more) a b c t u w noted.goes goes));
    remembers = tt;
  }
    where
      all : calls (inside place.tree place.path) ≡ (calls (up_to k place.tree place.path) ++ calls more) ++ calls rest
      all =
          ap calls is ∙ calls-append place.tree (up_to k place.tree place.path) (more ++ rest) ∙ ap (λ l. calls (up_to k place.tree place.path) ++ l) (calls-append place.tree more rest)
          ∙ sym (append_assoc (calls (up_to k place.tree place.path)) (calls more) (calls rest))

  -- before anything was reported
  pub ends_at_once : (T : Type 0) (e : Fault) → e ≡ Memory → (after : Firsts) → Tours {T = T} image counts inside place (Err e) after a a t t
  ends_at_once T e is after = record { goes = goes_nowhere T e is (calls (inside place.tree place.path)) a t; remembers = tt }

  module _ (rows : List (ℕ × Name)) (are : AreEntries image i rows) where
    -- at the end
    pub all_reported : (k : ℕ) → length rows ≤ k → (firsts : Firsts) (b : List ℕ) (u : SinkView) → ReportedTo k firsts b u → Tours {T = Unit {0}} image counts inside place (Ok tt) firsts a b t u
    all_reported k end firsts b u noted =
        let is : up_to k place.tree place.path ≡ inside place.tree place.path = entries_all image counts i text before place stands rows are k end in
        record {
          goes = subst (λ (es : List Entry). Goes {T = Unit {0}} (calls es) (Ok tt) a b t u) is noted.goes;
          remembers = subst (λ (es : List Entry). RemembersFirsts image counts firsts (place.noted ++ es)) is noted.remembers;
        }

    module _ (k j : ℕ) (name : Name) (at : slice_get rows k ≡ Some (j, name)) (firsts : Firsts) (b : List ℕ) (u : SinkView) (noted : ReportedTo k firsts b u) where
      abbrev here : Place
      here = child_place image counts i text before place stands rows are k j name at

      abbrev inner : Place
      inner = inner_place image counts i text before place stands rows are k j name at

      abbrev entry : List Entry
      entry = itself image j place.tree here.path

      abbrev after_it : List Entry
      after_it = following image counts i text before place stands rows are k j name at

      abbrev rest : List Entry
      rest = below_node image counts i text before place stands rows are k j name at (node_of image j)

      -- no memory for the text of its path
      pub text_fails : (T : Type 0) (e : Fault) → e ≡ Memory → (after : Firsts) → Tours {T = T} image counts inside place (Err e) after a b t u
      text_fails T e is after =
          ends_early T k b b u u firsts after (entry ++ rest) after_it e noted (whole image counts i text before place stands rows are k j name at) (goes_nowhere (Unit {0}) e is (calls (entry ++ rest)) b u)

      module _ (c : List ℕ) (w : SinkView) where
        pub entry_fails : (S T : Type 0) (e d : Fault) → d ≡ e → (after : Firsts) → Tours {T = S} image counts (itself image j) here (Err e) after b c u w → Tours {T = T} image counts inside place (Err d) after a c t w
        entry_fails S T e d same after tours =
            subst (λ (fault : Fault). Tours {T = T} image counts inside place (Err fault) after a c t w) (sym same)
            (ends_early T k b c u w firsts after entry (rest ++ after_it) e noted (whole image counts i text before place stands rows are k j name at ∙ ap (λ es. up_to k place.tree place.path ++ es) (append_assoc entry rest after_it))
            (goes_stop S (Unit {0}) e (calls entry) b c u w tours.goes))

        module _ {S : Type 0} (v : S) (middle : Firsts) (tours : Tours image counts (itself image j) here (Ok v) middle b c u w) where
          goes_on : Goes {T = Unit {0}} (calls (up_to k place.tree place.path) ++ calls entry) (Ok tt) a c t w
          goes_on = goes_then {T = Unit {0}} (tt {0}) (Ok (tt {0})) (calls (up_to k place.tree place.path)) (calls entry) a b c t u w noted.goes tours.goes

          pub file_reported : IsFile image j → ReportedTo (k + 1) middle c w
          file_reported kind = record {
            goes = subst (λ (l : List Call). Goes {T = Unit {0}} l (Ok tt) a c t w)
                (sym (ap calls (next_file image counts i text before place stands rows are k j name at kind) ∙ calls-append place.tree (up_to k place.tree place.path) entry)) goes_on;
            remembers = subst (RemembersFirsts image counts middle) (sym (reported_file image counts i text before place stands rows are k j name at kind)) tours.remembers;
          }

          module _ (kind : IsDirectory image j) (d : List ℕ) (x : SinkView) (after : Firsts) where
            pub directory_reported : {T : Type 0} (z : T) → Tours image counts inside inner (Ok z) after c d w x → ReportedTo (k + 1) after d x
            directory_reported z below = record {
              goes = subst (λ (l : List Call). Goes {T = Unit {0}} l (Ok tt) a d t x) (sym all)
                  (goes_then {T = Unit {0}} (tt {0}) (Ok (tt {0})) (calls (up_to k place.tree place.path) ++ calls entry) (calls (inside place.tree inner.path)) a c d t w x goes_on below.goes);
              remembers = subst (RemembersFirsts image counts after) (sym (reported_directory image counts i text before place stands rows are k j name at kind)) below.remembers;
            }
              where
                all : calls (up_to (k + 1) place.tree place.path) ≡ (calls (up_to k place.tree place.path) ++ calls entry) ++ calls (inside place.tree inner.path)
                all =
                    ap calls (next_directory image counts i text before place stands rows are k j name at kind)
                    ∙ calls-append place.tree (up_to k place.tree place.path) (entry ++ inside place.tree inner.path)
                    ∙ ap (λ l. calls (up_to k place.tree place.path) ++ l) (calls-append place.tree entry (inside place.tree inner.path))
                    ∙ sym (append_assoc (calls (up_to k place.tree place.path)) (calls entry) (calls (inside place.tree inner.path)))

            pub directory_fails : (U T : Type 0) (e n : Fault) → n ≡ e → Tours {T = U} image counts inside inner (Err e) after c d w x → Tours {T = T} image counts inside place (Err n) after a d t x
            directory_fails U T e n same below =
                subst (λ (fault : Fault). Tours {T = T} image counts inside place (Err fault) after a d t x) (sym same)
                (ends_early T k b d u x firsts after (entry ++ inside place.tree inner.path) after_it e noted here_whole
                (subst (λ (l : List Call). Goes {T = Unit {0}} l (Err e) b d u x) (sym (calls-append place.tree entry (inside place.tree inner.path)))
                (goes_then {T = Unit {0}} v (Err e) (calls entry) (calls (inside place.tree inner.path)) b c d u w x tours.goes (goes_stop U (Unit {0}) e (calls (inside place.tree inner.path)) c d w x below.goes))))
              where
                here_whole : inside place.tree place.path ≡ up_to k place.tree place.path ++ ((entry ++ inside place.tree inner.path) ++ after_it)
                here_whole =
                    whole image counts i text before place stands rows are k j name at
                    ∙ ap (λ es. up_to k place.tree place.path ++ ((entry ++ es) ++ after_it)) (is_dir image counts i text before place stands rows are k j name at kind)
