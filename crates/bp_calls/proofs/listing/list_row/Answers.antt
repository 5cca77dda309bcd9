use Rattle.std.proofs.Common.{◌≡◌, ◌+◌, ◌<◌, ℕ, [], ◌++◌, sym, ◌∙◌, ap, arith}
use Rattle.std.specs.List.{cons_option}
use Rattle.std.proofs.lemmas.List.{append-nil, append_assoc}
use Rattle.bp_layout.specs.Inode.{root_of}
use Rattle.bp_layout.specs.Words.{Image}
use Rattle.pm_region.specs.Memory.{current_words}
use Rattle.bp_layout.proofs.EntryWords.{entry_of}
use Rattle.bp_calls.specs.Asked.{entry_seen}
use Rattle.bp_calls.proofs.RowLaws.{row_more}
use Rattle.bp_calls.proofs.listing.list_row.Goals as goal

pub loop-index-init : goal.loop-index-init
loop-index-init g c i first count row = sym (append-nil c.args.listing.now)

pub list_entry-requires-clause-entry : goal.list_entry-requires-clause-entry
list_entry-requires-clause-entry g c =
    let entries = c.requires.entries in
    let inside : c.loop-index.index < entries.count = omega (arith, entries.row.long) in
    record {
      directory = entries.directory;
      slot = entries.first + c.loop-index.index;
      reached = entries.reached;
      kind = entries.kind;
      live = omega (arith, entries.live, inside);
      has = rw c.in_row-view.ensures (entry_of _ _ entries.first entries.count c.loop-index.index c.args.words.now entries.row inside);
    }

pub loop-index-preserved : goal.loop-index-preserved
loop-index-preserved g c i first count row =
    let image : Image = current_words (g.R.Region.memory c.args.region.now) in
    let index : ℕ = c.loop-index.index in
    let inside : index < count = omega (arith, row.long) in
    c.in_ok-list_entry.ensures i (first + index) (rw c.in_row-view.ensures (entry_of image (root_of image i) first count index c.args.words.now row inside))
    ∙ ap (λ xs. xs ++ cons_option (entry_seen image i (first + index)) []) (c.loop-index.invariant i first count row)
    ∙ append_assoc c.args.listing.now _ _
    ∙ ap (λ xs. c.args.listing.now ++ xs) (sym (row_more image i first index))

pub returns : goal.returns
returns g c i first count row =
    let all : c.loop-index.index ≡ count = omega (arith, row.long) in
    rw all at c.loop-index.invariant i first count row
