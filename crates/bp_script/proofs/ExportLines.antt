-- Each line of an export is a call's.
use Rattle.std.proofs.Common.{◌≡◌, ◌≢◌, cond, is_some, ◌⊎◌, ℕ, zero, suc, ◌+◌, ◌-◌, ◌*◌, ◌/◌, ◌^◌, ◌<◌, ◌≤◌, ◌==◌, ◌&&◌, List, [], ◌∷◌, ◌++◌, length, flat_map, slice_index, take, drop, Bool, true, false, not, codes, decimal, nat_lt, Option, None, Some, if◌then◌else◌, find, refl, subst, sym, ◌∙◌, ap, ap₂, arith, length-append, length-take, append_assoc, true≢false, inl, inr}
use Rattle.std.specs.Option.{unwrap_or}
use Rattle.std.specs.List.{All, AllByRecursion, list_all, range_with_len}
use Rattle.std.specs.FinMap.{entries, get, keys}
use Rattle.std.specs.Cmp.{first_so, second_so}
use Rattle.std.proofs.lemmas.Bool.{ltb-false, ltb-true}
use Rattle.std.proofs.lemmas.List.Elements.{All-from_recursion}
use Rattle.std.proofs.lemmas.List.Folds.{list_all-append}
use Rattle.std.proofs.lemmas.Fmt.{length-decimal-le}
use Rattle.hex.specs.Hex.{lower_digits}
use Rattle.hex.proofs.HexLemmas.{length-encode_with}
use Rattle.percent_encoding.specs.Percent.{percent_encode_byte}
use Rattle.bp_limits.specs.Limits.{attributes, block_size}
use Rattle.bp_limits.specs.CallLimits.{greatest_size, max_path, max_size}
use Rattle.bp_limits.specs.declared.version.Version.{Version}
use Rattle.bp_limits.specs.declared.version.Version.TheVariants.{One, Two, Three}
use Rattle.bp_layout.specs.Paths.{same_path, Attributes, Path, Node}
use Rattle.bp_layout.specs.Paths.Node.{dir, file}
use Rattle.bp_plain.specs.Calls.{Call}
use Rattle.bp_plain.specs.Calls.Call.{create, link, mkdir, set_attribute, write, truncate}
use Rattle.bp_plain.specs.Export.{IsExportable, IsOfBytes, are_bytes, calls_at, calls_for, export_calls, first_of, is_zeros, path_text, root_text, set_of, sets_of, size_call, stretch, stretches, write_of, writes_of}
use Rattle.bp_plain.specs.Plain.{attributes_at, attributes_in}
use Rattle.bp_plain.specs.PlainTree.{FileTree, is_one}
use Rattle.bp_plain.proofs.PathWays.{Entry, entry_there}
use Rattle.bp_script.specs.Export.{AreRead, FitsLine, FitsText, IsOneLine, IsSpelled, IsWord, call_line, path_word}
use Rattle.bp_script.specs.Texts.{digits_or_dash, is_escaped}
use Rattle.bp_script.proofs.CallLines.{both_true, call_asks, spelled_byte}
use Rattle.bp_script.proofs.WholeLines.{one_line}

-- ---- calls that are read

record IsSaid (call : Call) : Type 0 where
  spelled : IsSpelled call
  line : FitsLine call
  text : FitsText call

abbrev AllSaid : List Call → Type 0
AllSaid calls = AllByRecursion IsSaid calls

all_both : (xs ys : List Call) → AllSaid xs → AllSaid ys → AllSaid (xs ++ ys)
all_both [] ys one two = two
all_both (x ∷ xs) ys one two = (one.0, all_both xs ys one.1 two)

are_read : (calls : List Call) → AllSaid calls → AreRead calls
are_read [] all = refl
are_read (call ∷ calls) all = ap₂ (λ x xs. x ∷ xs) (call_asks call all.0.spelled all.0.line) (are_read calls all.1)

are_short : (calls : List Call) → AllSaid calls → AllByRecursion FitsText calls
are_short [] all = tt
are_short (call ∷ calls) all = (all.0.text, are_short calls all.1)

are_lines : (calls : List Call) → AllSaid calls → AllByRecursion (λ call. IsOneLine (call_line call)) calls
are_lines [] all = tt
are_lines (call ∷ calls) all = (one_line call all.0.spelled, are_lines calls all.1)

-- ---- words

length-path_word : (text : List ℕ) → length (path_word text) ≤ 3 * length text
unfolding percent_encode_byte
length-path_word [] = omega arith
length-path_word (b ∷ text) = omega (arith, length-append (spelled_byte b) (path_word text), length-path_word text, by (is_escaped b && not (b == 47)))
  where
    by : (t : Bool) → length (if t then percent_encode_byte b else b ∷ []) ≤ 3
    by true = omega arith
    by false = omega arith

path_bytes_all : (path : Path) → list_all are_bytes path ≡ true → are_bytes (path_text path) ≡ true
path_bytes_all [] all = refl
path_bytes_all (name ∷ path) all =
    list_all-append (λ b. nat_lt b 256) (47 ∷ name) (path_text path)
    ∙ both_true (are_bytes (47 ∷ name)) _ (first_so (are_bytes name) (list_all are_bytes path) all) (path_bytes_all path (second_so (are_bytes name) (list_all are_bytes path) all))

take_bytes : (n : ℕ) (xs : List ℕ) → are_bytes xs ≡ true → are_bytes (take n xs) ≡ true
take_bytes zero xs all = refl
take_bytes (suc n) [] all = refl
take_bytes (suc n) (x ∷ xs) all = both_true (nat_lt x 256) _ (first_so (nat_lt x 256) (are_bytes xs) all) (take_bytes n xs (second_so (nat_lt x 256) (are_bytes xs) all))

drop_bytes : (n : ℕ) (xs : List ℕ) → are_bytes xs ≡ true → are_bytes (drop n xs) ≡ true
drop_bytes zero xs all = all
drop_bytes (suc n) [] all = refl
drop_bytes (suc n) (x ∷ xs) all = drop_bytes n xs (second_so (nat_lt x 256) (are_bytes xs) all)

dash_length : (new : List ℕ) → length (digits_or_dash new) ≤ 2 * length new + 1
dash_length [] = omega arith
dash_length (b ∷ new) = omega (arith, length-encode_with lower_digits (b ∷ new))

-- ---- the calls of an entry

-- the text of a path that a call takes
record IsShort (text : List ℕ) : Type 0 where
  word : IsWord text
  few : length text ≤ max_path

word_short : (text : List ℕ) → IsShort text → length (path_word text) ≤ 12288
word_short text short = omega (arith, length-path_word text, short.few)

value_short : (n : ℕ) → n < 2 ^ 64 → length (decimal n) ≤ 20
value_short n low = length-decimal-le 20 n (omega arith) (omega (arith, low)) low

number_short : (n : ℕ) → n ≤ max_size → length (decimal n) ≤ 20
number_short n low = value_short n (omega (arith, low))

link_said : (from to : List ℕ) → IsShort from → IsShort to → IsSaid (link from to)
link_said from to one two = record { spelled = (one.word, two.word); line = omega (arith, few); text = omega (arith, few) }
  where
    few : length (call_line (link from to)) < 30000
    few = omega (
      arith,
      length-append (codes "link " ++ path_word from ++ codes " ") (path_word to),
      length-append (codes "link " ++ path_word from) (codes " "),
      length-append (codes "link ") (path_word from),
      word_short from one,
      word_short to two,
    )

module _ (text : List ℕ) (short : IsShort text) where
  abbrev w : List ℕ
  w = path_word text

  create_said : IsSaid (create text)
  create_said = record { spelled = short.word; line = omega (arith, few); text = omega (arith, few) }
    where
      few : length (call_line (create text)) < 30000
      few = omega (arith, length-append (codes "create ") w, word_short text short)

  mkdir_said : IsSaid (mkdir text)
  mkdir_said = record { spelled = short.word; line = omega (arith, few); text = omega (arith, few) }
    where
      few : length (call_line (mkdir text)) < 30000
      few = omega (arith, length-append (codes "mkdir ") w, word_short text short)

  truncate_said : (size : ℕ) → size ≤ max_size → IsSaid (truncate text size)
  truncate_said size low = record { spelled = (short.word, omega (arith, low)); line = omega (arith, few); text = omega (arith, few) }
    where
      few : length (call_line (truncate text size)) < 30000
      few = omega (
        arith,
        length-append (codes "truncate " ++ w ++ codes " ") (decimal size),
        length-append (codes "truncate " ++ w) (codes " "),
        length-append (codes "truncate ") w,
        word_short text short,
        number_short size low,
      )

  write_said : (offset : ℕ) (new : List ℕ) → offset ≤ max_size → are_bytes new ≡ true → length new ≤ 4096 → IsSaid (write text offset new)
  write_said offset new low bytes block = record { spelled = (short.word, omega (arith, low), bytes); line = omega (arith, few); text = omega (arith, few) }
    where
      few : length (call_line (write text offset new)) < 30000
      few = omega (
        arith,
        length-append (codes "write " ++ w ++ codes " " ++ decimal offset ++ codes " ") (digits_or_dash new),
        length-append (codes "write " ++ w ++ codes " " ++ decimal offset) (codes " "),
        length-append (codes "write " ++ w ++ codes " ") (decimal offset),
        length-append (codes "write " ++ w) (codes " "),
        length-append (codes "write ") w,
        word_short text short,
        number_short offset low,
        dash_length new,
        block,
      )

  set_attribute_said : (number value : ℕ) → number < attributes → value < 2 ^ 64 → IsSaid (set_attribute text number value)
  set_attribute_said number value inside low = record { spelled = (short.word, inside, low); line = omega (arith, few); text = omega (arith, few) }
    where
      few : length (call_line (set_attribute text number value)) < 30000
      few = omega (
        arith,
        length-append (codes "setattr " ++ w ++ codes " " ++ decimal number ++ codes " ") (decimal value),
        length-append (codes "setattr " ++ w ++ codes " " ++ decimal number) (codes " "),
        length-append (codes "setattr " ++ w ++ codes " ") (decimal number),
        length-append (codes "setattr " ++ w) (codes " "),
        length-append (codes "setattr ") w,
        word_short text short,
        number_short number (omega (arith, inside)),
        value_short value low,
      )

  module _ (values : Attributes) (small : (k : ℕ) → slice_index values k < 2 ^ 64) where
    set_said : (k : ℕ) → k < attributes → AllSaid (set_of text values k)
    set_said k inside = go (slice_index values k == 0)
      where
        go : (b : Bool) → AllSaid (if b then [] else set_attribute text k (slice_index values k) ∷ [])
        go true = tt
        go false = (set_attribute_said k (slice_index values k) inside (small k), tt)

    later_sets_said : (n k : ℕ) → k + n ≤ attributes → AllSaid (flat_map (set_of text values) (range_with_len k n))
    later_sets_said zero k within = tt
    later_sets_said (suc n) k within =
        all_both (set_of text values k) (flat_map (set_of text values) (range_with_len (k + 1) n)) (set_said k (omega (arith, within))) (later_sets_said n (k + 1) (omega (arith, within)))

    sets_said : AllSaid (sets_of text values)
    sets_said = later_sets_said attributes 0 (omega arith)

  module _ (content : List ℕ) (fits : length content ≤ max_size) (bytes : are_bytes content ≡ true) where
    stretch_said : (k : ℕ) → block_size * k < length content → AllSaid (write_of text content k)
    stretch_said k low = go (is_zeros (stretch content k)) refl
      where
        go : (b : Bool) → is_zeros (stretch content k) ≡ b → AllSaid (write_of text content k)
        go true at = rw at tt
        go false at =
            rw at (
              write_said (block_size * k) (stretch content k) (omega (arith, low, fits)) (take_bytes 4096 (drop (4096 * k) content) (drop_bytes (4096 * k) content bytes))
                  (omega (arith, length-take 4096 (drop (4096 * k) content))),
              tt,
            )

    stretches_said : (n k : ℕ) → (n ≡ 0) ⊎ (block_size * (k + n - 1) < length content) → AllSaid (flat_map (write_of text content) (range_with_len k n))
    stretches_said zero k low = tt
    stretches_said (suc n) k (inl none) = absurd (omega (arith, none))
    stretches_said (suc n) k (inr low) =
        all_both (write_of text content k) (flat_map (write_of text content) (range_with_len (k + 1) n)) (stretch_said k (omega (arith, low))) (stretches_said n (k + 1) (left n low))
      where
        left : (n : ℕ) → block_size * (k + suc n - 1) < length content → (n ≡ 0) ⊎ (block_size * (k + 1 + n - 1) < length content)
        left zero low = inl refl
        left (suc n) low = inr (omega (arith, low))

    count_low : ((length content + 4095) / 4096 ≡ 0) ⊎ (4096 * (0 + (length content + 4095) / 4096 - 1) < length content)
    count_low = go (nat_lt 0 (length content)) refl
      where
        go : (b : Bool) → nat_lt 0 (length content) ≡ b → ((length content + 4095) / 4096 ≡ 0) ⊎ (4096 * (0 + (length content + 4095) / 4096 - 1) < length content)
        go true at = let some : 0 < length content = ltb-true 0 (length content) at in inr (omega arith)
        go false at = let none : length content ≤ 0 = ltb-false 0 (length content) at in inl (omega arith)

    size_said : AllSaid (size_call text content)
    size_said = go (nat_lt 0 (length content) && is_zeros (stretch content (stretches content - 1)))
      where
        go : (b : Bool) → AllSaid (if b then truncate text (length content) ∷ [] else [])
        go true = (truncate_said (length content) fits, tt)
        go false = tt

    file_said : AllSaid (writes_of text content ++ size_call text content)
    file_said = all_both (writes_of text content) (size_call text content) (stretches_said (stretches content) 0 count_low) size_said

  node_said : (node : Node) → ((k : ℕ) → slice_index (attributes_in (Some node)) k < 2 ^ 64)
      → ((values : Attributes) (content : List ℕ) → node ≡ file values content → (length content ≤ max_size) × (are_bytes content ≡ true)) → AllSaid (calls_for text node)
  node_said (dir values) small has = (mkdir_said, sets_said values small)
  node_said (file values content) small has =
      let is = has values content refl in
      (create_said, all_both (writes_of text content ++ size_call text content) (sets_of text values) (file_said content is.0 is.1) (sets_said values small))

-- ---- the calls of a tree

found_so : {X : Type 0} (p : X → Bool) (xs : List X) (x : X) → find p xs ≡ Some x → p x ≡ true
found_so p [] x found = absurd (true≢false (sym (ap is_some found)))
found_so p (y ∷ ys) x found = go (p y) refl found (found_so p ys x)
  where
    go : (b : Bool) → p y ≡ b → cond b (Some y) (find p ys) ≡ Some x → (find p ys ≡ Some x → p x ≡ true) → p x ≡ true
    go true passes found rest = ap p (sym (ap (λ o. unwrap_or o y) found)) ∙ passes
    go false passes found rest = rest found

abbrev is_dir : Option Node → Bool
is_dir (Some (dir values)) = true
is_dir other = false

size_most : (version : Version) (n : ℕ) → n ≤ greatest_size version → n ≤ max_size
size_most One n low = omega (arith, low)
size_most Two n low = low
size_most Three n low = low

root_short : IsShort root_text
root_short = record { word = record { some = omega arith; bytes = refl }; few = omega arith }

module _ (tree : FileTree) (can : IsExportable tree) (of_bytes : IsOfBytes tree) where
  text_short : (path : Path) (node : Node) → get tree.now.nodes path ≡ Some node → path ≢ [] → IsShort (path_text path)
  text_short [] node there not_root = absurd (not_root refl)
  text_short (name ∷ path) node there not_root = record {
    word = record { some = omega arith; bytes = path_bytes_all (name ∷ path) (of_bytes.names (name ∷ path) node there) };
    few = can.spelled (name ∷ path) node there;
  }

  file_short : (path : Path) (values : Attributes) (content : List ℕ) → get tree.now.nodes path ≡ Some (file values content) → IsShort (path_text path)
  file_short path values content there = text_short path (file values content) there other
    where
      other : path ≢ []
      other root = true≢false (ap is_dir (sym can.is_tree.now.root.is ∙ ap (get tree.now.nodes) (sym root) ∙ there))

  -- the first path of a file is one of its
  first_short : (path : Path) → IsShort (path_text path) → IsShort (path_text (first_of tree.now path))
  first_short path short = go (find (is_one tree.now.one path) (keys tree.now.nodes)) refl
    where
      go : (found : Option Path) → find (is_one tree.now.one path) (keys tree.now.nodes) ≡ found → IsShort (path_text (unwrap_or found path))
      go None at = short
      go (Some first) at =
          let are = can.is_tree.now.files path first (found_so (is_one tree.now.one path) (keys tree.now.nodes) first at) in
          file_short first are.attributes are.bytes are.other

  entry_said : (path : Path) (node : Node) → get tree.now.nodes path ≡ Some node → AllSaid (calls_at tree.now (path, node))
  entry_said [] node there = sets_said root_text root_short (attributes_at tree.now.nodes []) (of_bytes.attributes [])
  entry_said (name ∷ path) node there = go (same_path (first_of tree.now (name ∷ path)) (name ∷ path))
    where
      short : IsShort (path_text (name ∷ path))
      short = text_short (name ∷ path) node there (λ e. absurd (omega (arith, ap length e)))

      go : (b : Bool) → AllSaid (if b then calls_for (path_text (name ∷ path)) node else link (path_text (first_of tree.now (name ∷ path))) (path_text (name ∷ path)) ∷ [])
      go true =
          node_said (path_text (name ∷ path)) short node
          (λ k. subst (λ found. slice_index (attributes_in found) k < 2 ^ 64) there (of_bytes.attributes (name ∷ path) k))
          (λ values content is. (
            size_most tree.version (length content) (can.sized (name ∷ path) values content (there ∙ ap Some is)),
            of_bytes.contents (name ∷ path) values content (there ∙ ap Some is),
          ))
      go false = (link_said (path_text (first_of tree.now (name ∷ path))) (path_text (name ∷ path)) (first_short (name ∷ path) short) short, tt)

  rest_said : (before after : List Entry) → entries tree.now.nodes ≡ before ++ after → AllSaid (flat_map (calls_at tree.now) after)
  rest_said before [] are = tt
  rest_said before ((path, node) ∷ after) are =
      all_both (calls_at tree.now (path, node)) (flat_map (calls_at tree.now) after) (entry_said path node (entry_there tree.now.nodes before (path, node) after are))
      (rest_said (before ++ (path, node) ∷ []) after (are ∙ sym (append_assoc before ((path, node) ∷ []) after)))

  all_said : AllSaid (export_calls tree)
  all_said = rest_said [] (entries tree.now.nodes) refl

  pub export_read : AreRead (export_calls tree)
  export_read = are_read (export_calls tree) all_said

  pub export_whole : All (λ call. IsOneLine (call_line call)) (export_calls tree)
  export_whole = All-from_recursion (λ call. IsOneLine (call_line call)) (export_calls tree) (are_lines (export_calls tree) all_said)

  pub export_short : All FitsText (export_calls tree)
  export_short = All-from_recursion FitsText (export_calls tree) (are_short (export_calls tree) all_said)
