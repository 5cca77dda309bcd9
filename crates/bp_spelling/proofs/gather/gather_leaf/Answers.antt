use Rattle.std.proofs.Common.{◌≡◌, ◌≢◌, ℕ, ◌+◌, ◌*◌, ◌/◌, ◌<◌, ◌≤◌, length, sym, ◌∙◌, ap, subst, arith, true≢false, slice_index}
use Rattle.pm_region.specs.Memory.{current_words}
use Rattle.bp_layout.specs.Words.{word}
use Rattle.bp_layout.specs.Directory.{ino_in, name_in}
use Rattle.bp_layout.specs.Paths.{IsName}
use Rattle.bp_spelling.specs.Gathered.{IsGathered}
use Rattle.bp_spelling.specs.Hashes.{place_of, name_hash}
use Rattle.bp_spelling.specs.Names.{entry_place_in}
use Rattle.bp_spelling.specs.Places.{name_there}
use Rattle.bp_spelling.proofs.EntryPlaces.{place-is, ino-there, form-there, form-in, place-some, row_place, place_fits}
use Rattle.bp_spelling.proofs.Forms.{name-short}
use Rattle.bp_spelling.proofs.SlotSteps.{gathered_empty, gathered_more}
use Rattle.bp_spelling.proofs.gather.gather_leaf.Goals as goal
use Rattle.bp_spelling.proofs.gather.gather_leaf.Goals.{then-named-k-ne0+else-not-is_name, else-named-k-ne0}

pub returns-then-not-is_name-clause-err : goal.returns-then-not-is_name-clause-err
returns-then-not-is_name-clause-err g c =
    let image = current_words (g.R.Region.memory c.args.region.now) in
    let root = c.args.tree.root in
    let size = c.args.tree.size in
    let k = c.loop-k.k in
    let slot = c.args.first + k in
    let live : slot < size / 256 = omega (arith, c.loop-k-test.true) in
    let row : k < 16 = omega (arith, c.loop-k-test.true) in
    let there : c.entry_place-row.result + 32 * k ≡ entry_place_in image root slot = omega (arith, c.entry_place-row.ensures.place, row_place image root c.args.first k c.requires.starts row) in
    let read : slice_index c.named_in_row-named.result k ≡ ino_in image root slot =
    c.named_in_row-named.ensures k c.loop-k-test.true ∙ ap (word image) there ∙ sym (ino-there image root size slot c.requires.full live) in
    record {
      slot = slot;
      used = record { live = live; some = λ none. c.if-named-k-ne0.true (read ∙ none) };
      wrong = λ is.
          let good : IsName (name_there image (c.entry_place-row.result + 32 * k)) =
          subst (λ (p : ℕ). IsName (name_there image p)) (sym there) (form-in image root size slot c.requires.full live is) in
          true≢false (sym (c.is_name.ensures.1 good) ∙ c.if-not-is_name.true);
      there = ap (λ p. p + 1) there;
    }

pub hash_name-requires-clause-short : goal.hash_name-requires-clause-short
hash_name-requires-clause-short g c =
    name-short (current_words (g.R.Region.memory c.args.region.now)) (c.entry_place-row.result + 32 * c.loop-k.k) (c.is_name.ensures.0 c.if-not-is_name.false)

pub at-requires-clause-whole : goal.at-requires-clause-whole
at-requires-clause-whole g c =
    let image = current_words (g.R.Region.memory c.args.region.now) in
    let root = c.args.tree.root in
    let size = c.args.tree.size in
    let live : c.args.first < size / 256 = c.requires.live in
    omega (arith, c.entry_place-row.ensures.place, place-is image root size c.args.first c.requires.full live)

pub at-requires-clause-low : goal.at-requires-clause-low
at-requires-clause-low g c =
    let image = current_words (g.R.Region.memory c.args.region.now) in
    let root = c.args.tree.root in
    let size = c.args.tree.size in
    let slot = c.args.first + c.loop-k.k in
    let live : slot < size / 256 = omega (arith, c.loop-k-test.true) in
    let row : c.loop-k.k < 16 = omega (arith, c.loop-k-test.true) in
    let there : c.entry_place-row.result + 32 * c.loop-k.k ≡ entry_place_in image root slot = omega (arith, c.entry_place-row.ensures.place, row_place image root c.args.first c.loop-k.k c.requires.starts row) in
    omega (arith, there, place_fits image root size slot c.requires.sound c.requires.full live, c.requires.most)

pub loop-k-preserved : goal.loop-k-preserved
loop-k-preserved g c =
    let image = current_words (g.R.Region.memory c.args.region.now) in
    let root = c.args.tree.root in
    let size = c.args.tree.size in
    let k = c.loop-k.k in
    let slot = c.args.first + k in
    let live : slot < size / 256 = omega (arith, c.loop-k-test.true) in
    let row : k < 16 = omega (arith, c.loop-k-test.true) in
    let there : c.entry_place-row.result + 32 * k ≡ entry_place_in image root slot = omega (arith, c.entry_place-row.ensures.place, row_place image root c.args.first k c.requires.starts row) in
    let read : slice_index c.named_in_row-named.result k ≡ ino_in image root slot =
    c.named_in_row-named.ensures k c.loop-k-test.true ∙ ap (word image) there ∙ sym (ino-there image root size slot c.requires.full live) in
    let next : slot + 1 ≡ c.args.first + (k + 1) = omega arith in
    record {
      so_far = subst (λ (n : ℕ). IsGathered image root (size / 256) n c.if-named-k-ne0.entries c.if-named-k-ne0.count) next (elim c.if-named-k-ne0.branch [
        | then-named-k-ne0+else-not-is_name w ↦
            let form : IsName (name_in image root slot) =
            form-there image root size slot c.requires.full live (subst (λ (p : ℕ). IsName (name_there image p)) there (w.is_name.ensures.0 w.if-not-is_name.false)) in
            let room : size / 256 ≤ length c.loop-k.entries = omega (arith, c.requires.room, c.loop-k.invariant.room) in
            let at : place_of w.at.result ≡ entry_place_in image root slot = w.at.ensures.place ∙ there in
            let hash : w.at.result.hash ≡ name_hash image (place_of w.at.result) =
            w.at.ensures.hash ∙ w.hash_name.ensures ∙ ap (name_hash image) (sym w.at.ensures.place) in
            let present : w.at.result.number ≢ 0 = λ none. place-some image root size slot c.requires.full live (sym at ∙ ap (λ n. 32 * n) none) in
            rw (w.entries-is, w.count-is)
            (gathered_more image root (size / 256) c.loop-k.entries slot c.loop-k.count w.at.result live room c.loop-k.invariant.so_far (λ none. w.if-named-k-ne0.true (read ∙ none)) form at hash present)
        | else-named-k-ne0 w ↦
            rw (w.entries-is, w.count-is) (gathered_empty image root (size / 256) c.loop-k.entries slot c.loop-k.count live c.loop-k.invariant.so_far (sym read ∙ w.if-named-k-ne0.false))
      ]);
      room = c.if-named-k-ne0.auto.entries ∙ c.loop-k.invariant.room;
    }
