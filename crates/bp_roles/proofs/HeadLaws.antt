-- The first words that a view holds as they are seen, through each call of the region below.
use Rattle.std.proofs.Common.{◌≡◌, ℕ, ◌+◌, ◌<◌, ◌≤◌, List, [], ◌∷◌, ◌++◌, length, take, set, get_or, refl, sym, ◌∙◌, ap, subst, arith}
use Rattle.std.proofs.Math.Seq.{take-set-lt}
use Rattle.std.proofs.lemmas.List.{get_or-take, take-set-le, take_all, take_more, take_more_set}
use Rattle.pm_epochs.specs.declared.event.Event.{Event}
use Rattle.pm_epochs.specs.declared.event.Event.TheVariants.{Store, Barrier, CallEnd}
use Rattle.pm_epochs.specs.Log.{words_after}
use Rattle.pm_epochs.specs.May.{StoresMay}
use Rattle.pm_region.specs.Memory.{Memory, Adds, current_words, drained, stores_from}
use Rattle.pm_region.proofs.MemoryLaws.{current_words-adds, length-current_words}
use Rattle.bp_roles.specs.Roles.{stored_at, swapped}
use Rattle.bp_roles.specs.Seen.{MemoryByRoles, IsWide, head_words, seen, seen_events, seen_memory}
use Rattle.bp_roles.specs.declared.roles.Roles.{Roles}
use Rattle.bp_roles.proofs.SeenLaws.{length-seen, seen-adds, seen-drained}
use Rattle.bp_roles.proofs.RegionLaws.{load-is, store-is}

-- a word of the held ones
pub head-word : (it now : MemoryByRoles) → it ≡ now → (head : List ℕ) (word : ℕ) → word < 8 → head ≡ head_words (seen it) → get_or head word 0 ≡ get_or (current_words (seen now)) word 0
head-word it now same head word low held =
    subst (λ (r : MemoryByRoles). get_or head word 0 ≡ get_or (current_words (seen r)) word 0) same
    (ap (λ (ws : List ℕ). get_or ws word 0) held ∙ get_or-take 8 (current_words (seen it)) word 0 low)

-- ## A loop that reads the first words

module _ (roles : Roles) (memory : Memory) (wide : IsWide memory) where
  length-words : 8 ≤ length (current_words (seen_memory roles memory))
  length-words = omega (arith, length-current_words (seen_memory roles memory), length-seen roles memory.base, wide)

  pub head-more : (head : List ℕ) (word at value shown : ℕ) → word < 8 → length head ≡ 8 → at ≡ stored_at roles word → value ≡ get_or (current_words memory) at 0 → shown ≡ swapped roles word value →
      take word head ≡ take word (current_words (seen_memory roles memory)) → take (word + 1) (set head word shown) ≡ take (word + 1) (current_words (seen_memory roles memory))
  head-more head word at value shown low size there is shows before =
      let it : MemoryByRoles = record { roles = roles; memory = memory } in
      let words = current_words (seen_memory roles memory) in
      take_more_set head word shown (omega (arith, low, size))
      ∙ ap (λ (ws : List ℕ). ws ++ shown ∷ []) before
      ∙ ap (λ v. take word words ++ v ∷ []) (shows ∙ load-is it it refl wide word at value there is)
      ∙ sym (take_more words word 0 (omega (arith, low, length-words)))

pub head-whole : (roles : Roles) (memory : Memory) (head : List ℕ) (word : ℕ) → word ≡ 8 → length head ≡ 8 → take word head ≡ take word (current_words (seen_memory roles memory)) → head ≡ head_words (seen_memory roles memory)
head-whole roles memory head word end size all =
    sym (take_all 8 head (omega (arith, size))) ∙ subst (λ n. take n head ≡ take n (current_words (seen_memory roles memory))) end all

-- ## Events past the first words

-- each store goes to a word past the first 8
abbrev pub ArePast : List Event → Type 0
ArePast events = StoresMay (λ word value. 8 ≤ word) events

pub run-are_past : (first : ℕ) (values : List ℕ) → 8 ≤ first → ArePast (stores_from first values)
run-are_past first [] past = tt
run-are_past first (value ∷ values) past = (past, run-are_past (first + 1) values (omega (arith, past)))

head-after : (words : List ℕ) (events : List Event) → ArePast events → take 8 (words_after words events) ≡ take 8 words
head-after words [] past = refl
head-after words (Store word value ∷ events) past = head-after (set words word value) events past.1 ∙ take-set-le 8 words word value past.0
head-after words (Barrier ∷ events) past = head-after words events past
head-after words (CallEnd ∷ events) past = head-after words events past

pub head-kept : (roles : Roles) (old new : Memory) (more others : List Event) (head : List ℕ) → Adds old new more → seen_events roles more ≡ others → ArePast others →
    head ≡ head_words (seen_memory roles old) → head ≡ head_words (seen_memory roles new)
head-kept roles old new more others head added is past held =
    held
    ∙ sym (ap (take 8) (current_words-adds (seen_memory roles old) (seen_memory roles new) (seen_events roles more) (seen-adds roles old new more added))
    ∙ head-after (current_words (seen_memory roles old)) (seen_events roles more) (subst ArePast (sym is) past))

-- ## A store to one of the first words

pub head-stored : (roles : Roles) (old new : Memory) (word at value to : ℕ) (head : List ℕ) → word < 8 → at ≡ stored_at roles word → to ≡ swapped roles word value → Adds old new (Store at to ∷ []) →
    head ≡ head_words (seen_memory roles old) → set head word value ≡ head_words (seen_memory roles new)
head-stored roles old new word at value to head low there is added held =
    let it : MemoryByRoles = record { roles = roles; memory = old } in
    ap (λ (ws : List ℕ). set ws word value) held
    ∙ sym (ap (take 8) (current_words-adds (seen it) (seen_memory roles new) (Store word value ∷ []) (store-is it it refl new word at value to there is added))
    ∙ take-set-lt 8 (current_words (seen it)) word value low)

-- ## Drains

pub head-drained : (roles : Roles) (old new : Memory) (head : List ℕ) → IsWide old → new ≡ drained old → head ≡ head_words (seen_memory roles old) → head ≡ head_words (seen_memory roles new)
head-drained roles old new head wide is held = held ∙ sym (ap (λ (m : Memory). head_words (seen_memory roles m)) is ∙ ap head_words (seen-drained roles old wide))
