use Rattle.std.proofs.Common.{◌≡◌, ◌+◌, ◌<◌, ℕ, [], ◌++◌, sym, ◌∙◌, ap, arith}
use Rattle.std.specs.List.{cons_option}
use Rattle.std.proofs.lemmas.List.{append-nil, append_assoc}
use Rattle.bp_layout.specs.Inode.{root_of}
use Rattle.bp_layout.proofs.EntryWords.{entry_of}
use Rattle.bp_export.specs.Entries.{entry_named}
use Rattle.bp_export.proofs.RowLaws.{named-append}
use Rattle.bp_export.proofs.entries.Entries.add_row.Goals as goal

pub loop-index-init : goal.loop-index-init
loop-index-init c image i first count row = sym (append-nil c.args.self.now)

pub loop-index-preserved : goal.loop-index-preserved
loop-index-preserved c image i first count row =
    let index : ℕ = c.loop-index.index in
    let inside : index < count = omega (arith, row.long) in
    c.in_ok-add.ensures image i (first + index) (rw c.in_row.ensures (entry_of image (root_of image i) first count index c.args.words.now row inside))
    ∙ ap (λ xs. xs ++ cons_option (entry_named image i (first + index)) []) (c.loop-index.invariant image i first count row)
    ∙ append_assoc c.args.self.now _ _
    ∙ ap (λ xs. c.args.self.now ++ xs) (sym (named-append image i first index 1))

pub returns : goal.returns
returns c image i first count row =
    let all : c.loop-index.index ≡ count = omega (arith, row.long) in
    rw all at c.loop-index.invariant image i first count row
