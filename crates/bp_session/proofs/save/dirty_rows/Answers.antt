use Rattle.std.proofs.Common.{◌≡◌, ◌+◌, ◌∙◌, length, sym, refl, ap, arith, subst, List, Bool, true}
use Rattle.std.specs.Prelude.{Some, slice_get}
use Rattle.pm_epochs.specs.declared.event.Event.TheVariants.{Barrier, CallEnd, Store}
use Rattle.pm_epochs.specs.Kind.{event_of, value_at}
use Rattle.bp_session.specs.Changed.{is_dirty}
use Rattle.bp_session.proofs.DirtyLaws.{CoversStores, covers_alone, covers_changes, covers_more, covers_row, none_at, row_alone, row_within}
use Rattle.bp_session.proofs.save.dirty_rows.Goals as goal
use Rattle.bp_session.proofs.save.dirty_rows.Goals.{in-Store+else-left-eq0, in-Barrier, in-CallEnd}

pub loop-i-init : goal.loop-i-init
loop-i-init g c = record {
  here = omega arith;
  flags = λ i at value low here. absurd (omega (arith, low));
  more = λ k on. on;
  none = λ _. refl;
  size = refl;
}

pub dirty_words-requires-clause-fits : goal.dirty_words-requires-clause-fits
dirty_words-requires-clause-fits g c =
    let memory = g.R.Region.memory c.args.region.now in
    let words = length memory.base in
    let row = c.row-kind.ensures in
    let word = c.in-Store.word in
    let value = value_at memory.events c.loop-i.i in
    let at : slice_get memory.events c.loop-i.i ≡ Some (Store word value) = row.get ∙ ap (λ kind. Some (event_of kind value)) c.in-Store.is in
    omega (
      arith,
      c.words-words.ensures.count,
      c.words-words.ensures.few,
      row_within words memory.events c.loop-i.i c.row-kind.result.len word value at row.row row.inside row.some c.event_count-count.ensures.within,
    )

pub loop-i-preserved : goal.loop-i-preserved
loop-i-preserved g c =
    let memory = g.R.Region.memory c.args.region.now in
    let events = memory.events in
    let old = c.loop-i.flags in
    let new = c.match-kind.flags in
    let here = c.loop-i.invariant in
    let i = c.loop-i.i in
    let count = c.row-kind.result.len in
    let row = c.row-kind.ensures in
    let value = value_at events i in
    record {
      here = omega (arith, row.inside, c.event_count-count.ensures.count);
      flags = elim c.match-kind.branch [
        | in-Store+else-left-eq0 w ↦
            let at : slice_get events i ≡ Some (Store w.in-Store.word value) = row.get ∙ ap (λ kind. Some (event_of kind value)) w.in-Store.is in
            subst (λ (flags : List Bool). CoversStores flags events (i + count)) (sym w.flags-is)
            (covers_row w.dirty_words.new.flags events i count w.in-Store.word value at row.row row.inside w.dirty_words.ensures.dirtied
            (covers_more old w.dirty_words.new.flags events i w.dirty_words.ensures.more here.flags))
        | in-Barrier w ↦
            let at : slice_get events i ≡ Some Barrier = row.get ∙ ap (λ kind. Some (event_of kind value)) w.in-Barrier.is in
            subst (λ (flags : List Bool). CoversStores flags events (i + count)) (sym w.flags-is)
            (covers_alone old events i count Barrier at (λ word value e. cc) (row_alone events i count Barrier at (λ next follows. follows) row.row row.inside) here.flags)
        | in-CallEnd w ↦
            let at : slice_get events i ≡ Some CallEnd = row.get ∙ ap (λ kind. Some (event_of kind value)) w.in-CallEnd.is in
            subst (λ (flags : List Bool). CoversStores flags events (i + count)) (sym w.flags-is)
            (covers_alone old events i count CallEnd at (λ word value e. cc) (row_alone events i count CallEnd at (λ next follows. follows) row.row row.inside) here.flags)
      ];
      more = elim c.match-kind.branch [
        | in-Store+else-left-eq0 w ↦ λ k on. subst (λ (flags : List Bool). is_dirty flags k ≡ true) (sym w.flags-is) (w.dirty_words.ensures.more k (here.more k on))
        | in-Barrier w ↦ λ k on. subst (λ (flags : List Bool). is_dirty flags k ≡ true) (sym w.flags-is) (here.more k on)
        | in-CallEnd w ↦ λ k on. subst (λ (flags : List Bool). is_dirty flags k ≡ true) (sym w.flags-is) (here.more k on)
      ];
      none = elim c.match-kind.branch [
        | in-Store+else-left-eq0 w ↦ λ none. absurd (none_at events i w.in-Store.word value none (row.get ∙ ap (λ kind. Some (event_of kind value)) w.in-Store.is))
        | in-Barrier w ↦ λ none. w.flags-is ∙ here.none none
        | in-CallEnd w ↦ λ none. w.flags-is ∙ here.none none
      ];
      size = elim c.match-kind.branch [
        | in-Store+else-left-eq0 w ↦ ap (λ (flags : List Bool). length flags) w.flags-is ∙ w.dirty_words.ensures.size ∙ here.size
        | in-Barrier w ↦ ap (λ (flags : List Bool). length flags) w.flags-is ∙ here.size
        | in-CallEnd w ↦ ap (λ (flags : List Bool). length flags) w.flags-is ∙ here.size
      ];
    }

pub returns-clause-flags : goal.returns-clause-flags
returns-clause-flags g c = λ _.
    let memory = g.R.Region.memory c.args.region.now in
    let all : c.loop-i.i ≡ length memory.events = omega (arith, c.loop-i-test.false, c.loop-i.invariant.here, c.event_count-count.ensures.count) in
    covers_changes c.loop-i.flags memory.base memory.events (subst (λ n. CoversStores c.loop-i.flags memory.events n) all c.loop-i.invariant.flags)

pub returns-then-left-eq0-clause-some : goal.returns-then-left-eq0-clause-some
returns-then-left-eq0-clause-some g c = λ _ none.
    let events = (g.R.Region.memory c.args.region.now).events in
    none_at events c.loop-i.i c.in-Store.word (value_at events c.loop-i.i) none (c.row-kind.ensures.get ∙ ap (λ kind. Some (event_of kind (value_at events c.loop-i.i))) c.in-Store.is)
