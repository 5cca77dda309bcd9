use Rattle.std.proofs.Common.{take, drop, length, slice_index, sym, ◌∙◌, ap, arith}
use Rattle.std.proofs.Math.Seq.{take-length}
use Rattle.std.proofs.lemmas.List.{length-drop}
use Rattle.bp_layout.specs.Bytes.{stored_bytes}
use Rattle.bp_layout.proofs.EntryWords.{name_of-bytes}
use Rattle.bp_layout.proofs.entry_view.EntryView.read_name.Goals as goal

pub returns : goal.returns
returns c =
    let words = c.args.self.now.words.now in
    let room = length c.args.into.now in
    rw c.name_len.ensures
    (ap (take (slice_index words 1)) (c.unpack.ensures ∙ ap (λ ws. stored_bytes ws 0 room) (ap (λ n. take n (drop 2 words)) (sym (length-drop 2 words)) ∙ take-length (drop 2 words)))
    ∙ name_of-bytes words room (omega (arith, c.requires, c.fits-into)))
