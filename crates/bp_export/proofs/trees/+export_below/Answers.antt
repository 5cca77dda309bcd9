use Rattle.std.proofs.Common.{rules, ◌≡◌, ℕ, ◌≤◌, List, ◌∷◌, ◌++◌, length, take, refl, sym, ◌∙◌, ap, ap₂, arith, length-append}
use Rattle.std.proofs.Math.Seq.{take-append_seam}
use Rattle.std.proofs.lemmas.Result.{err_from_is_err_and}
use Rattle.bp_layout.specs.Fields.{kind_word}
use Rattle.bp_layout.specs.Inode.{IsDirectory}
use Rattle.bp_replies.specs.Gathering.{waiting}
use Rattle.pm_region.specs.Memory.{current_words}
use Rattle.bp_export.specs.declared.work.Work.{Work}
use Rattle.bp_export.specs.Walking.{WalkStandsAt, inside, itself}
use Rattle.bp_export.proofs.BelowLaws.{all_reported, directory_fails, directory_reported, ends_at_once, entry_fails, file_reported, none_reported, text_fails}
use Rattle.bp_export.proofs.Places.{child_place, child_short, inner_place, stands_at_child, stands_in_child}
use Rattle.bp_export.proofs.TreeLaws.{found_reached}
use Rattle.bp_export.proofs.trees.+export_below.Goals.{in-File, in-Dir+in_ok-export_below-in-Dir}
use Rattle.bp_export.proofs.trees.+export_below.Goals as goal

-- a path without the name that was put after it
cut_back : (new path more text : List ℕ) (n : ℕ) → new ≡ take n text → n ≡ length path → text ≡ path ++ more → new ≡ path
cut_back new path more text n is len same = is ∙ ap₂ take len same ∙ take-append_seam path more

pub of-requires-clause-well_formed : goal.of-requires-clause-well_formed
of-requires-clause-well_formed g t c = c.requires.well_formed

pub of-requires-clause-reached : goal.of-requires-clause-reached
of-requires-clause-reached g t c = found_reached _ c.requires.well_formed c.requires.stands.0.path c.args.ino c.requires.stands.1.found

pub of-requires-clause-directory : goal.of-requires-clause-directory
of-requires-clause-directory g t c = c.requires.directory

pub returns-in_err-entries-clause-tours : goal.returns-in_err-entries-clause-tours
returns-in_err-entries-clause-tours g t c place stands =
    let p = err_from_is_err_and c.from_residual.result c.from_residual.ensures.1 in
    rw p.1 (ends_at_once _ _ _ _ _ place stands (waiting c.args.work.now.replies) (g.K.Sink.view c.args.out.now) (Unit {0}) p.0 p.2 c.args.work.now.firsts)

pub returns-in_err-entries-clause-back : goal.returns-in_err-entries-clause-back
returns-in_err-entries-clause-back g t c =
    let p = err_from_is_err_and c.from_residual.result c.from_residual.ensures.1 in
    rw p.1 tt

pub loop-k-init : goal.loop-k-init
loop-k-init g t c = record {
  back = record { path = refl; attributes = refl };
  tours = λ place stands. none_reported _ _ _ _ _ place stands (waiting c.args.work.now.replies) (g.K.Sink.view c.args.out.now);
}

pub at-inode-requires : goal.at-inode-requires
at-inode-requires g t c = omega (arith, c.len-k-end.ensures, c.loop-k-test.true)

pub returns-in_err-go_down-clause-tours : goal.returns-in_err-go_down-clause-tours
returns-in_err-go_down-clause-tours g t c place stands =
    let p = err_from_is_err_and c.from_residual-in_err-go_down.result c.from_residual-in_err-go_down.ensures.1 in
    rw p.1
    (text_fails _ _ _ _ _ place stands (waiting c.args.work.now.replies) (g.K.Sink.view c.args.out.now) c.in_ok-entries.entries c.in_ok-entries.ensures
    c.loop-k.k c.at-inode.result.0 c.at-inode.result.1.now c.at-inode.ensures.entry c.loop-k.work.firsts (waiting c.loop-k.work.replies) (g.K.Sink.view c.loop-k.out) (c.loop-k.invariant.tours place stands)
    (Unit {0}) p.0 p.2 c.loop-k.work.firsts)

pub returns-in_err-go_down-clause-back : goal.returns-in_err-go_down-clause-back
returns-in_err-go_down-clause-back g t c =
    let p = err_from_is_err_and c.from_residual-in_err-go_down.result c.from_residual-in_err-go_down.ensures.1 in
    rw p.1 tt

pub export_entry-requires-clause-well_formed : goal.export_entry-requires-clause-well_formed
export_entry-requires-clause-well_formed g t c = c.requires.well_formed

pub export_entry-requires-clause-counts : goal.export_entry-requires-clause-counts
export_entry-requires-clause-counts g t c = c.requires.counts

pub export_entry-requires-clause-inodes : goal.export_entry-requires-clause-inodes
export_entry-requires-clause-inodes g t c = c.requires.inodes

pub export_entry-requires-clause-attributes : goal.export_entry-requires-clause-attributes
export_entry-requires-clause-attributes g t c = c.loop-k.invariant.back.attributes ∙ c.requires.attributes

pub export_entry-requires-clause-below : goal.export_entry-requires-clause-below
export_entry-requires-clause-below g t c =
    omega (arith, ap length c.in_ok-go_down.ensures, length-append c.loop-k.work.path.items (47 ∷ c.at-inode.result.1.now))

pub export_entry-requires-clause-stands : goal.export_entry-requires-clause-stands
export_entry-requires-clause-stands g t c =
    let place = c.requires.stands.0 in
    let stands = c.requires.stands.1 in
    let is : c.go_down.new.path.items ≡ c.args.work.now.path.items ++ 47 ∷ c.at-inode.result.1.now = c.in_ok-go_down.ensures ∙ ap (λ l. l ++ 47 ∷ c.at-inode.result.1.now) c.loop-k.invariant.back.path in (
      child_place _ _ _ _ _ place stands c.in_ok-entries.entries c.in_ok-entries.ensures c.loop-k.k c.at-inode.result.0 c.at-inode.result.1.now c.at-inode.ensures.entry,
      rw is (stands_at_child _ _ _ _ _ place stands c.in_ok-entries.entries c.in_ok-entries.ensures c.loop-k.k c.at-inode.result.0 c.at-inode.result.1.now c.at-inode.ensures.entry c.loop-k.work.firsts (c.loop-k.invariant.tours place stands).remembers),
    )

pub returns-in_err-export_entry-clause-tours : goal.returns-in_err-export_entry-clause-tours
returns-in_err-export_entry-clause-tours g t c place stands =
    let p = err_from_is_err_and c.from_residual-in_err-export_entry.result c.from_residual-in_err-export_entry.ensures.1 in
    let is : c.go_down.new.path.items ≡ c.args.work.now.path.items ++ 47 ∷ c.at-inode.result.1.now = c.in_ok-go_down.ensures ∙ ap (λ l. l ++ 47 ∷ c.at-inode.result.1.now) c.loop-k.invariant.back.path in
    let noted = c.loop-k.invariant.tours place stands in
    let child = child_place _ _ _ _ _ place stands c.in_ok-entries.entries c.in_ok-entries.ensures c.loop-k.k c.at-inode.result.0 c.at-inode.result.1.now c.at-inode.ensures.entry in
    let there : WalkStandsAt (current_words (g.R.Region.memory c.args.region.now)) c.args.counts.now (itself (current_words (g.R.Region.memory c.args.region.now)) c.at-inode.result.0) c.at-inode.result.0 c.go_down.new.path.items c.loop-k.work.firsts child =
    rw is (stands_at_child _ _ _ _ _ place stands c.in_ok-entries.entries c.in_ok-entries.ensures c.loop-k.k c.at-inode.result.0 c.at-inode.result.1.now c.at-inode.ensures.entry c.loop-k.work.firsts noted.remembers) in
    rw p.1
    (entry_fails _ _ _ _ _ place stands (waiting c.args.work.now.replies) (g.K.Sink.view c.args.out.now) c.in_ok-entries.entries c.in_ok-entries.ensures
    c.loop-k.k c.at-inode.result.0 c.at-inode.result.1.now c.at-inode.ensures.entry c.loop-k.work.firsts (waiting c.loop-k.work.replies) (g.K.Sink.view c.loop-k.out) noted
    (waiting c.export_entry.new.work.replies) (g.K.Sink.view c.export_entry.new.out) _ (Unit {0}) c.in_err-export_entry.field-0.0 p.0 p.2 c.export_entry.new.work.firsts
    (c.in_err-export_entry.ensures.tours child there))

pub returns-in_err-export_entry-clause-back : goal.returns-in_err-export_entry-clause-back
returns-in_err-export_entry-clause-back g t c =
    let p = err_from_is_err_and c.from_residual-in_err-export_entry.result c.from_residual-in_err-export_entry.ensures.1 in
    rw p.1 tt

pub export_below-requires : goal.export_below-requires
export_below-requires g t c κs within =
    let image = current_words (g.R.Region.memory c.args.region.now) in
    let place = c.requires.stands.0 in
    let stands = c.requires.stands.1 in
    let is : c.go_down.new.path.items ≡ c.args.work.now.path.items ++ 47 ∷ c.at-inode.result.1.now = c.in_ok-go_down.ensures ∙ ap (λ l. l ++ 47 ∷ c.at-inode.result.1.now) c.loop-k.invariant.back.path in
    let path_is : c.export_entry.new.work.path.items ≡ c.args.work.now.path.items ++ 47 ∷ c.at-inode.result.1.now = c.in_ok-export_entry.ensures.back.path ∙ is in
    let noted = c.loop-k.invariant.tours place stands in
    let child = child_place _ _ _ _ _ place stands c.in_ok-entries.entries c.in_ok-entries.ensures c.loop-k.k c.at-inode.result.0 c.at-inode.result.1.now c.at-inode.ensures.entry in
    let there : WalkStandsAt image c.args.counts.now (itself image c.at-inode.result.0) c.at-inode.result.0 c.go_down.new.path.items c.loop-k.work.firsts child =
    rw is (stands_at_child _ _ _ _ _ place stands c.in_ok-entries.entries c.in_ok-entries.ensures c.loop-k.k c.at-inode.result.0 c.at-inode.result.1.now c.at-inode.ensures.entry c.loop-k.work.firsts noted.remembers) in
    let kind : IsDirectory image c.at-inode.result.0 = sym c.in_ok-export_entry.ensures.kind ∙ ap kind_word c.in-Dir.is in
    let inner = inner_place _ _ _ _ _ place stands c.in_ok-entries.entries c.in_ok-entries.ensures c.loop-k.k c.at-inode.result.0 c.at-inode.result.1.now c.at-inode.ensures.entry in
    let below : WalkStandsAt image c.args.counts.now inside c.at-inode.result.0 c.export_entry.new.work.path.items c.export_entry.new.work.firsts inner =
    rw path_is (stands_in_child _ _ _ _ _ place stands c.in_ok-entries.entries c.in_ok-entries.ensures c.loop-k.k c.at-inode.result.0 c.at-inode.result.1.now c.at-inode.ensures.entry kind c.export_entry.new.work.firsts (c.in_ok-export_entry.ensures.tours child there).remembers) in
    let known_is : c.export_entry.new.work.attributes ≡ c.args.work.now.attributes = c.in_ok-export_entry.ensures.back.attributes ∙ c.loop-k.invariant.back.attributes in
    let short : length (c.args.work.now.path.items ++ 47 ∷ c.at-inode.result.1.now) ≤ 4096 = child_short _ _ _ _ _ place stands c.in_ok-entries.entries c.in_ok-entries.ensures c.loop-k.k c.at-inode.result.0 c.at-inode.result.1.now c.at-inode.ensures.entry in (
      omega (arith, c.decreases, short, ap length path_is, length-append c.args.work.now.path.items (47 ∷ c.at-inode.result.1.now)),
      (within.0, (within.1, (c.requires.well_formed, (kind, (c.requires.counts, (c.requires.inodes, (known_is ∙ c.requires.attributes, (inner, below)))))))),
    )

pub returns-in_err-export_below-in-Dir-clause-tours : goal.returns-in_err-export_below-in-Dir-clause-tours
returns-in_err-export_below-in-Dir-clause-tours g t c place stands =
    let p = err_from_is_err_and c.from_residual-in_err-export_below-in-Dir.result c.from_residual-in_err-export_below-in-Dir.ensures.1 in
    let image = current_words (g.R.Region.memory c.args.region.now) in
    let is : c.go_down.new.path.items ≡ c.args.work.now.path.items ++ 47 ∷ c.at-inode.result.1.now = c.in_ok-go_down.ensures ∙ ap (λ l. l ++ 47 ∷ c.at-inode.result.1.now) c.loop-k.invariant.back.path in
    let path_is : c.export_entry.new.work.path.items ≡ c.args.work.now.path.items ++ 47 ∷ c.at-inode.result.1.now = c.in_ok-export_entry.ensures.back.path ∙ is in
    let noted = c.loop-k.invariant.tours place stands in
    let child = child_place _ _ _ _ _ place stands c.in_ok-entries.entries c.in_ok-entries.ensures c.loop-k.k c.at-inode.result.0 c.at-inode.result.1.now c.at-inode.ensures.entry in
    let there : WalkStandsAt image c.args.counts.now (itself image c.at-inode.result.0) c.at-inode.result.0 c.go_down.new.path.items c.loop-k.work.firsts child =
    rw is (stands_at_child _ _ _ _ _ place stands c.in_ok-entries.entries c.in_ok-entries.ensures c.loop-k.k c.at-inode.result.0 c.at-inode.result.1.now c.at-inode.ensures.entry c.loop-k.work.firsts noted.remembers) in
    let entry = c.in_ok-export_entry.ensures.tours child there in
    let kind : IsDirectory image c.at-inode.result.0 = sym c.in_ok-export_entry.ensures.kind ∙ ap kind_word c.in-Dir.is in
    let inner = inner_place _ _ _ _ _ place stands c.in_ok-entries.entries c.in_ok-entries.ensures c.loop-k.k c.at-inode.result.0 c.at-inode.result.1.now c.at-inode.ensures.entry in
    let below : WalkStandsAt image c.args.counts.now inside c.at-inode.result.0 c.export_entry.new.work.path.items c.export_entry.new.work.firsts inner =
    rw path_is (stands_in_child _ _ _ _ _ place stands c.in_ok-entries.entries c.in_ok-entries.ensures c.loop-k.k c.at-inode.result.0 c.at-inode.result.1.now c.at-inode.ensures.entry kind c.export_entry.new.work.firsts entry.remembers) in
    rw p.1
    (directory_fails _ _ _ _ _ place stands (waiting c.args.work.now.replies) (g.K.Sink.view c.args.out.now) c.in_ok-entries.entries c.in_ok-entries.ensures c.loop-k.k c.at-inode.result.0 c.at-inode.result.1.now c.at-inode.ensures.entry c.loop-k.work.firsts (waiting c.loop-k.work.replies) (g.K.Sink.view c.loop-k.out) noted
    (waiting c.export_entry.new.work.replies) (g.K.Sink.view c.export_entry.new.out) c.in_ok-export_entry.field-0 c.export_entry.new.work.firsts entry kind
    (waiting c.export_below.new.work.replies) (g.K.Sink.view c.export_below.new.out) c.export_below.new.work.firsts (Unit {0}) (Unit {0}) c.in_err-export_below-in-Dir.field-0.0 p.0 p.2 (c.in_err-export_below-in-Dir.ensures.tours inner below))

pub returns-in_err-export_below-in-Dir-clause-back : goal.returns-in_err-export_below-in-Dir-clause-back
returns-in_err-export_below-in-Dir-clause-back g t c =
    let p = err_from_is_err_and c.from_residual-in_err-export_below-in-Dir.result c.from_residual-in_err-export_below-in-Dir.ensures.1 in
    rw p.1 tt

pub loop-k-preserved : goal.loop-k-preserved
loop-k-preserved g t c =
    let image = current_words (g.R.Region.memory c.args.region.now) in
    let is : c.go_down.new.path.items ≡ c.args.work.now.path.items ++ 47 ∷ c.at-inode.result.1.now = c.in_ok-go_down.ensures ∙ ap (λ l. l ++ 47 ∷ c.at-inode.result.1.now) c.loop-k.invariant.back.path in
    let path_is : c.export_entry.new.work.path.items ≡ c.args.work.now.path.items ++ 47 ∷ c.at-inode.result.1.now = c.in_ok-export_entry.ensures.back.path ∙ is in
    let known_is : c.export_entry.new.work.attributes ≡ c.args.work.now.attributes = c.in_ok-export_entry.ensures.back.attributes ∙ c.loop-k.invariant.back.attributes in
    elim c.match-branch-4.branch [
      | in-File w ↦ record {
        back = record {
          path = cut_back _ c.args.work.now.path.items (47 ∷ c.at-inode.result.1.now) _ _ c.truncate.ensures.items (search (rules, c.len-here.ensures)) (ap (λ (work : Work). work.path.items) w.work-is ∙ path_is);
          attributes = ap (λ (work : Work). work.attributes) w.work-is ∙ known_is;
        };
        tours = λ place stands.
            let noted = c.loop-k.invariant.tours place stands in
            let child = child_place _ _ _ _ _ place stands c.in_ok-entries.entries c.in_ok-entries.ensures c.loop-k.k c.at-inode.result.0 c.at-inode.result.1.now c.at-inode.ensures.entry in
            let there : WalkStandsAt image c.args.counts.now (itself image c.at-inode.result.0) c.at-inode.result.0 c.go_down.new.path.items c.loop-k.work.firsts child =
            rw is (stands_at_child _ _ _ _ _ place stands c.in_ok-entries.entries c.in_ok-entries.ensures c.loop-k.k c.at-inode.result.0 c.at-inode.result.1.now c.at-inode.ensures.entry c.loop-k.work.firsts noted.remembers) in
            let entry = c.in_ok-export_entry.ensures.tours child there in
            rw (w.work-is, w.out-is)
            (file_reported _ _ _ _ _ place stands (waiting c.args.work.now.replies) (g.K.Sink.view c.args.out.now) c.in_ok-entries.entries c.in_ok-entries.ensures c.loop-k.k c.at-inode.result.0 c.at-inode.result.1.now c.at-inode.ensures.entry c.loop-k.work.firsts (waiting c.loop-k.work.replies) (g.K.Sink.view c.loop-k.out) noted
            (waiting c.export_entry.new.work.replies) (g.K.Sink.view c.export_entry.new.out) c.in_ok-export_entry.field-0 c.export_entry.new.work.firsts entry (sym c.in_ok-export_entry.ensures.kind ∙ ap kind_word w.in-File.is));
      }
      | in-Dir+in_ok-export_below-in-Dir w ↦ record {
        back = record {
          path = cut_back _ c.args.work.now.path.items (47 ∷ c.at-inode.result.1.now) _ _ c.truncate.ensures.items (search (rules, c.len-here.ensures)) (ap (λ (work : Work). work.path.items) w.work-is ∙ w.in_ok-export_below-in-Dir.ensures.back.path ∙ path_is);
          attributes = ap (λ (work : Work). work.attributes) w.work-is ∙ w.in_ok-export_below-in-Dir.ensures.back.attributes ∙ known_is;
        };
        tours = λ place stands.
            let noted = c.loop-k.invariant.tours place stands in
            let child = child_place _ _ _ _ _ place stands c.in_ok-entries.entries c.in_ok-entries.ensures c.loop-k.k c.at-inode.result.0 c.at-inode.result.1.now c.at-inode.ensures.entry in
            let there : WalkStandsAt image c.args.counts.now (itself image c.at-inode.result.0) c.at-inode.result.0 c.go_down.new.path.items c.loop-k.work.firsts child =
            rw is (stands_at_child _ _ _ _ _ place stands c.in_ok-entries.entries c.in_ok-entries.ensures c.loop-k.k c.at-inode.result.0 c.at-inode.result.1.now c.at-inode.ensures.entry c.loop-k.work.firsts noted.remembers) in
            let entry = c.in_ok-export_entry.ensures.tours child there in
            let kind : IsDirectory image c.at-inode.result.0 = sym c.in_ok-export_entry.ensures.kind ∙ ap kind_word w.in-Dir.is in
            let inner = inner_place _ _ _ _ _ place stands c.in_ok-entries.entries c.in_ok-entries.ensures c.loop-k.k c.at-inode.result.0 c.at-inode.result.1.now c.at-inode.ensures.entry in
            let below : WalkStandsAt image c.args.counts.now inside c.at-inode.result.0 c.export_entry.new.work.path.items c.export_entry.new.work.firsts inner =
            rw path_is (stands_in_child _ _ _ _ _ place stands c.in_ok-entries.entries c.in_ok-entries.ensures c.loop-k.k c.at-inode.result.0 c.at-inode.result.1.now c.at-inode.ensures.entry kind c.export_entry.new.work.firsts entry.remembers) in
            rw (w.work-is, w.out-is)
            (directory_reported _ _ _ _ _ place stands (waiting c.args.work.now.replies) (g.K.Sink.view c.args.out.now) c.in_ok-entries.entries c.in_ok-entries.ensures c.loop-k.k c.at-inode.result.0 c.at-inode.result.1.now c.at-inode.ensures.entry c.loop-k.work.firsts (waiting c.loop-k.work.replies) (g.K.Sink.view c.loop-k.out) noted
            (waiting c.export_entry.new.work.replies) (g.K.Sink.view c.export_entry.new.out) c.in_ok-export_entry.field-0 c.export_entry.new.work.firsts entry kind
            (waiting w.export_below.new.work.replies) (g.K.Sink.view w.export_below.new.out) w.export_below.new.work.firsts tt (w.in_ok-export_below-in-Dir.ensures.tours inner below));
      }
    ]

pub returns-clause-tours : goal.returns-clause-tours
returns-clause-tours g t c place stands =
    all_reported _ _ _ _ _ place stands (waiting c.args.work.now.replies) (g.K.Sink.view c.args.out.now) c.in_ok-entries.entries c.in_ok-entries.ensures c.loop-k.k (omega (arith, c.len-k-end.ensures, c.loop-k-test.false))
    c.loop-k.work.firsts (waiting c.loop-k.work.replies) (g.K.Sink.view c.loop-k.out) (c.loop-k.invariant.tours place stands)

pub returns-clause-back : goal.returns-clause-back
returns-clause-back g t c = c.loop-k.invariant.back
