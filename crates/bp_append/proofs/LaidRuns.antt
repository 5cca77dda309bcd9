-- Runs of words that are laid, one after another.
use Rattle.std.proofs.Common.{◌≡◌, ℕ, zero, suc, ◌+◌, ◌-◌, ◌*◌, ◌/◌, ◌%◌, ◌<◌, ◌≤◌, List, [], ◌∷◌, length, get_or, sym, ◌∙◌, ap, subst, arith, inl, inr}
use Rattle.std.proofs.lemmas.Bool.{cases_lt}
use Rattle.bp_layout.specs.Words.{byte_of}
use Rattle.pm_epochs.specs.declared.event.Event.TheVariants.{Store}
use Rattle.pm_epochs.specs.Log.{IsPiece, StoresTo, words_after}
use Rattle.pm_epochs.proofs.PieceLaws.{IsPiece-append, IsPiece-none, IsPiece-store}
use Rattle.pm_region.specs.Memory.{Memory, current_words, room_in, stores_from, Adds}
use Rattle.pm_region.proofs.MemoryLaws.{current_words-adds, room_in-adds, base-adds, length-current_words, length-stores_from}
use Rattle.pm_region.proofs.RunLaws.{StoresMay-run, run-inside, run-outside}
use Rattle.bp_changes.specs.Performs.{InBlock}
use Rattle.bp_append.specs.Given.{given, IsLaid, LaysIn, LaysRun}
use Rattle.bp_append.specs.Into.{AddsInto}
use Rattle.bp_append.proofs.LaidLaws.{laid-kept, laid-given}
use Rattle.bp_append.proofs.IntoLaws.{into_more, into_twice}

-- a run of one word
pub one_laid : (words : List ℕ) (place start low from value : ℕ) (bytes : List ℕ) → IsLaid low from bytes (get_or words place 0) start value →
    (k : ℕ) → k < 1 → IsLaid low from bytes (get_or words (place + k) 0) (start + 8 * k) (get_or (value ∷ []) k 0)
one_laid words place start low from value bytes is zero few =
    let there : place + 0 ≡ place = omega arith in
    let offset : start + 8 * 0 ≡ start = omega arith in
    subst (λ p. IsLaid low from bytes (get_or words p 0) (start + 8 * 0) value) (sym there) (subst (λ s. IsLaid low from bytes (get_or words place 0) s value) (sym offset) is)
one_laid words place start low from value bytes is (suc k) few = absurd (omega (arith, few))

piece_run : (word : ℕ) (values : List ℕ) → IsPiece 0 (length values) (stores_from word values)
piece_run word [] = IsPiece-none
piece_run word (value ∷ values) =
    let next : 1 + length values ≡ length (value ∷ values) = omega arith in
    subst (λ n. IsPiece 0 n (Store word value ∷ stores_from (word + 1) values)) next
    (IsPiece-append 0 1 0 (length values) (Store word value ∷ []) (stores_from (word + 1) values) (IsPiece-store word value) (piece_run (word + 1) values))

-- a run of stores into one block
into_run : (May : ℕ → ℕ → Type 0) (block word : ℕ) (values : List ℕ) (old new : Memory) → 0 < length values → word / 512 ≡ block → ((i : ℕ) → i < length values → May (word + i) (get_or values i 0)) →
    Adds old new (stores_from word values) → AddsInto (block ∷ []) May (length values) old new
into_run May block word values old new some inside may adds = record {
  part = record { added = stores_from word values; adds = adds; may = StoresMay-run May word values may; piece = piece_run word values };
  stored = (first values some, tt);
}
  where
    first : (vs : List ℕ) → 0 < length vs → StoresTo (InBlock block) (stores_from word vs)
    first [] none = absurd (omega (arith, none))
    first (v ∷ vs) any = inl inside

-- The words of a block are laid up to an index, from that of the byte at the first offset on.
pub record LaidTo (old now : Memory) (block start low high from : ℕ) (bytes : List ℕ) (index : ℕ) : Type 0 where
  pub stores : AddsInto [] (LaysIn (current_words old) block (low - start) (high - start)) (index - (low - start) / 8) old now
  pub into : (low - start) / 8 < index → AddsInto (block ∷ []) (LaysIn (current_words old) block (low - start) (high - start)) (index - (low - start) / 8) old now
  pub begun : (low - start) / 8 ≤ index
  pub bytes_are : (i : ℕ) → low ≤ start + i → start + i < high → i / 8 < index → byte_of (get_or (current_words now) (512 * block + i / 8) 0) (i % 8) ≡ given from bytes (start + i)
  pub rest : (k : ℕ) → index ≤ k → get_or (current_words now) (512 * block + k) 0 ≡ get_or (current_words old) (512 * block + k) 0
  pub base : length now.base ≡ length old.base
  pub room : room_in now + (index - (low - start) / 8) ≡ room_in old

module _ {old middle new : Memory} {block start low high from : ℕ} {bytes : List ℕ} {index count : ℕ}
    (before : LaidTo old middle block start low high from bytes index)
    (run : LaysRun middle new (512 * block + index) (start + 8 * index) count low from bytes) (order : start ≤ low) (some : 0 < count)
    (less : index + count ≤ 512) (fits : 8 * (index + count) < high - start + 8) (inside : 512 * block + 512 ≤ length old.base) (room : 512 ≤ room_in old) where
  abbrev May : ℕ → ℕ → Type 0
  May = LaysIn (current_words old) block (low - start) (high - start)

  words_now : current_words new ≡ words_after (current_words middle) (stores_from (512 * block + index) run.values)
  words_now = current_words-adds middle new (stores_from (512 * block + index) run.values) run.adds

  loaded : (i : ℕ) → get_or (current_words middle) (512 * block + index + i) 0 ≡ get_or (current_words old) (512 * block + index + i) 0
  loaded i =
      let at : 512 * block + (index + i) ≡ 512 * block + index + i = omega arith in
      subst (λ p. get_or (current_words middle) p 0 ≡ get_or (current_words old) p 0) at (before.rest (index + i) (omega arith))

  may : (i : ℕ) → i < length run.values → May (512 * block + index + i) (get_or run.values i 0)
  may i low_i = let small : i < count = omega (arith, low_i, run.long) in record {
    index = index + i;
    at = omega arith;
    first = omega (arith, before.begun);
    last = omega (arith, fits, small);
    kept = λ c few below.
        run.laid i small c few
        ∙ laid-kept low from bytes (byte_of (get_or (current_words middle) (512 * block + index + i) 0) c) (start + 8 * index + 8 * i + c) (omega (arith, below, order))
        ∙ ap (λ w. byte_of w c) (loaded i);
  }

  both : AddsInto (block ∷ []) May (index - (low - start) / 8 + length run.values) old new
  both = into_twice [] (block ∷ []) May (index - (low - start) / 8) (length run.values) old middle new before.stores
      (into_run May block (512 * block + index) run.values middle new (omega (arith, run.long, some)) (omega (arith, less, some)) may run.adds)

  long_middle : length (current_words middle) ≡ length old.base
  long_middle = length-current_words middle ∙ before.base

  earlier : (i : ℕ) → i / 8 < index → get_or (current_words new) (512 * block + i / 8) 0 ≡ get_or (current_words middle) (512 * block + i / 8) 0
  earlier i early = ap (λ (ws : List ℕ). get_or ws (512 * block + i / 8) 0) words_now ∙ run-outside (512 * block + index) run.values (current_words middle) (512 * block + i / 8) (inl (omega (arith, early)))

  here_now : (i : ℕ) → index ≤ i / 8 → i / 8 < index + count → get_or (current_words new) (512 * block + i / 8) 0 ≡ get_or run.values (i / 8 - index) 0
  here_now i late low_i =
      let at : 512 * block + i / 8 ≡ 512 * block + index + (i / 8 - index) = omega (arith, late) in
      ap (λ (ws : List ℕ). get_or ws (512 * block + i / 8) 0) words_now
      ∙ ap (λ p. get_or (words_after (current_words middle) (stores_from (512 * block + index) run.values)) p 0) at
      ∙ run-inside (512 * block + index) run.values (current_words middle) (i / 8 - index) (omega (arith, long_middle, run.long, less, inside)) (omega (arith, run.long, late, low_i))

  byte_now : (i : ℕ) → low ≤ start + i → start + i < high → index ≤ i / 8 → i / 8 < index + count → byte_of (get_or (current_words new) (512 * block + i / 8) 0) (i % 8) ≡ given from bytes (start + i)
  byte_now i above below late low_i =
      let offset : start + 8 * index + 8 * (i / 8 - index) + i % 8 ≡ start + i = omega (arith, late) in
      ap (λ w. byte_of w (i % 8)) (here_now i late low_i)
      ∙ run.laid (i / 8 - index) (omega (arith, late, low_i)) (i % 8) (omega arith)
      ∙ laid-given low from bytes (byte_of (get_or (current_words middle) (512 * block + index + (i / 8 - index)) 0) (i % 8)) (start + 8 * index + 8 * (i / 8 - index) + i % 8) (omega (arith, offset, above))
      ∙ ap (given from bytes) offset

  pub next_laid : LaidTo old new block start low high from bytes (index + count)
  next_laid = record {
    stores = into_more (block ∷ []) [] May May (index - (low - start) / 8 + length run.values) (index + count - (low - start) / 8) old new (λ b m. absurd m) (λ w v m. m) (omega (arith, before.begun, run.long)) both;
    into = λ any. into_more (block ∷ []) (block ∷ []) May May (index - (low - start) / 8 + length run.values) (index + count - (low - start) / 8) old new (λ b m. m) (λ w v m. m) (omega (arith, before.begun, run.long)) both;
    begun = omega (arith, before.begun);
    bytes_are = λ i above below done. elim (cases_lt (i / 8) index) [
      | inl early ↦ ap (λ w. byte_of w (i % 8)) (earlier i early) ∙ before.bytes_are i above below early
      | inr late ↦ byte_now i above below late done
    ];
    rest = λ k high_k.
        ap (λ (ws : List ℕ). get_or ws (512 * block + k) 0) words_now ∙ run-outside (512 * block + index) run.values (current_words middle) (512 * block + k) (inr (omega (arith, high_k, run.long)))
        ∙ before.rest k (omega (arith, high_k));
    base = ap length (base-adds middle new (stores_from (512 * block + index) run.values) run.adds) ∙ before.base;
    room = omega (arith, room_in-adds middle new (stores_from (512 * block + index) run.values) run.adds, length-stores_from (512 * block + index) run.values, run.long, before.room, before.begun, room, less);
  }
