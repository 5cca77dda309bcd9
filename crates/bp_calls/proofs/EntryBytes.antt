-- The bytes of an entry that stand after a size read back as its inode number and its name.
use Rattle.std.proofs.Common.{◌≡◌, ℕ, ◌+◌, ◌-◌, ◌*◌, ◌/◌, ◌%◌, ◌^◌, ◌<◌, ◌≤◌, List, length, get_or, slice_index, refl, sym, ◌∙◌, ap, arith, le-ltb, lt-ltb}
use Rattle.bp_append.specs.Given.{given}
use Rattle.bp_append.proofs.LaidLaws.{given-there}
use Rattle.bp_layout.specs.Directory.{ino_in, name_in, word_in}
use Rattle.bp_layout.specs.Paths.{Name}
use Rattle.bp_layout.specs.Tree.{byte, content_word}
use Rattle.bp_layout.specs.Words.{Image, byte_of}
use Rattle.bp_layout.proofs.NameBytes.{map-equal}
use Rattle.pm_words.specs.Bytes.{word_bytes, word_of}
use Rattle.pm_words.proofs.Bytes.{word_of_bytes}
use Rattle.bp_calls.specs.Entries.{AreEntryBytes, entry_byte}

-- words of 64 bits with the same bytes are one
pub same_word : (a b : ℕ) → a < 2 ^ 64 → b < 2 ^ 64 → ((c : ℕ) → c < 8 → byte_of a c ≡ byte_of b c) → a ≡ b
same_word a b low high same =
    let none : a % 256 ≡ b % 256 = let first = same 0 (omega arith) in omega (arith, first) in
    let one = same 1 (omega arith) in
    let two = same 2 (omega arith) in
    let three = same 3 (omega arith) in
    let four = same 4 (omega arith) in
    let five = same 5 (omega arith) in
    let six = same 6 (omega arith) in
    let seven = same 7 (omega arith) in
    let all : word_bytes a ≡ word_bytes b = rw (none, one, two, three, four, five, six, seven) refl in
    sym (word_of_bytes a low) ∙ ap word_of all ∙ word_of_bytes b high

module _ (image : Image) (root size j : ℕ) (name : Name) (bytes : List ℕ) (entries : size % 256 ≡ 0) (entry : AreEntryBytes j name bytes)
    (laid : (o : ℕ) → size ≤ o → o < size + 256 → byte image root o ≡ given size bytes o) where
  byte_there : (o : ℕ) → o < 256 → byte image root (size + o) ≡ slice_index bytes o
  byte_there o low = let offset : size + o - size ≡ o = omega arith in laid (size + o) (omega arith) (omega (arith, low)) ∙ given-there size bytes (size + o) (omega arith) ∙ ap (slice_index bytes) offset

  -- a byte of the first two words
  word_byte : (k c : ℕ) → k < 2 → c < 8 → byte_of (content_word image root (size / 8 + k)) c ≡ slice_index bytes (8 * k + c)
  word_byte k c low few =
      let number : (size + (8 * k + c)) / 8 ≡ size / 8 + k = omega (arith, entries, few) in
      let column : (size + (8 * k + c)) % 8 ≡ c = omega (arith, entries, few) in
      rw (number, column) at (byte_there (8 * k + c) (omega (arith, low, few)))

  count_byte : (c : ℕ) → c < 8 → entry_byte j name (8 + c) ≡ byte_of (length name) c
  count_byte c few = let rest : 8 + c - 8 ≡ c = omega arith in rw (le-ltb (8 + c) 8 (omega arith), lt-ltb (8 + c) 16 (omega (arith, few)), rest) refl

  name_byte : (o : ℕ) → entry_byte j name (16 + o) ≡ slice_index name o
  name_byte o = let rest : 16 + o - 16 ≡ o = omega arith in rw (le-ltb (16 + o) 8 (omega arith), le-ltb (16 + o) 16 (omega arith), rest) refl

  -- once the words are known to be of 64 bits
  pub ino_there : j < 2 ^ 64 → content_word image root (size / 8) < 2 ^ 64 → content_word image root (size / 8) ≡ j
  ino_there high low =
      same_word (content_word image root (size / 8)) j low high
      (λ c few. let first : size / 8 + 0 ≡ size / 8 = omega arith in let column : 8 * 0 + c ≡ c = omega arith in (rw (first, column) at (word_byte 0 c (omega arith) few)) ∙ entry c (omega (arith, few)) ∙ rw (lt-ltb c 8 few) refl)

  pub length_there : length name < 2 ^ 64 → content_word image root (size / 8 + 1) < 2 ^ 64 → content_word image root (size / 8 + 1) ≡ length name
  length_there high low = same_word (content_word image root (size / 8 + 1)) (length name) low high (λ c few. word_byte 1 c (omega arith) few ∙ entry (8 + c) (omega (arith, few)) ∙ count_byte c few)

  -- the entry is read
  pub ino_read : content_word image root (size / 8) ≡ j → ino_in image root (size / 256) ≡ j
  ino_read is = let at : 32 * (size / 256) + 0 ≡ size / 8 = omega (arith, entries) in rw at is

  pub name_read_back : length name ≤ 240 → content_word image root (size / 8 + 1) ≡ length name → name_in image root (size / 256) ≡ name
  name_read_back short is =
      let at : 32 * (size / 256) + 1 ≡ size / 8 + 1 = omega (arith, entries) in
      let count : word_in image root (size / 256) 1 ≡ length name = rw at is in
      rw count (map-equal (λ o. byte image root (256 * (size / 256) + 16 + o)) name one)
    where
      one : (o : ℕ) → o < length name → byte image root (256 * (size / 256) + 16 + o) ≡ get_or name o 0
      one o low =
          let at : 256 * (size / 256) + 16 + o ≡ size + (16 + o) = omega (arith, entries) in
          rw at (byte_there (16 + o) (omega (arith, low, short)) ∙ entry (16 + o) (omega (arith, low, short)) ∙ name_byte o)
