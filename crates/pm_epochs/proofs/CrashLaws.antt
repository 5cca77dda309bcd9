-- What crashes leave of joined logs, of a preparation with its commit, and of a marker.
use Rattle.std.proofs.Common.{◌≡◌, ℕ, zero, suc, ◌+◌, ◌≤◌, ◌⊎◌, inl, inr, Bool, true, false, List, [], ◌∷◌, ◌++◌, length, take, set, refl, sym, ◌∙◌, ap, arith}
use Rattle.std.proofs.lemmas.List.{take-append-le, append_assoc, length-append, length-set}
use Rattle.pm_epochs.specs.declared.event.Event.{Event}
use Rattle.pm_epochs.specs.declared.event.Event.TheVariants.{Store, Barrier, CallEnd}
use Rattle.pm_epochs.specs.Log.{words_after, stores, barriers, call_ends, up_to_call_end, IsClosed}
use Rattle.pm_epochs.specs.Replay.{stores_of, call_ends_of, after_calls, IsReplay}
use Rattle.pm_epochs.specs.Crash.{Likeness, IsTransitive, CrashRight, IsQuiet, commit}
use Rattle.pm_epochs.proofs.Cuts.{kept_stores_right, right_cut, joined}

-- ## Words

pub words_after-append : (words : List ℕ) (first rest : List Event) → words_after words (first ++ rest) ≡ words_after (words_after words first) rest
words_after-append words [] rest = refl
words_after-append words (Store word value ∷ first) rest = words_after-append (set words word value) first rest
words_after-append words (Barrier ∷ first) rest = words_after-append words first rest
words_after-append words (CallEnd ∷ first) rest = words_after-append words first rest

pub words_after-stores : (words : List ℕ) (events : List Event) → words_after words (stores events) ≡ words_after words events
words_after-stores words [] = refl
words_after-stores words (Store word value ∷ events) = words_after-stores (set words word value) events
words_after-stores words (Barrier ∷ events) = words_after-stores words events
words_after-stores words (CallEnd ∷ events) = words_after-stores words events

-- what a log that goes on from a whole one leaves
words_after_whole : (words : List ℕ) (first kept : List Event) → words_after words (stores first ++ kept) ≡ words_after (words_after words first) kept
words_after_whole words first kept = words_after-append words (stores first) kept ∙ ap (λ ws. words_after ws kept) (words_after-stores words first)

-- ## Logs

pub barriers-append : (first rest : List Event) → barriers (first ++ rest) ≡ barriers first + barriers rest
barriers-append [] rest = omega arith
barriers-append (Store word value ∷ first) rest = barriers-append first rest
barriers-append (Barrier ∷ first) rest = let e = barriers-append first rest in omega arith
barriers-append (CallEnd ∷ first) rest = barriers-append first rest

pub call_ends-append : (first rest : List Event) → call_ends (first ++ rest) ≡ call_ends first + call_ends rest
call_ends-append [] rest = omega arith
call_ends-append (Store word value ∷ first) rest = call_ends-append first rest
call_ends-append (Barrier ∷ first) rest = call_ends-append first rest
call_ends-append (CallEnd ∷ first) rest = let e = call_ends-append first rest in omega arith

pub IsClosed-append : (first rest : List Event) → IsClosed first → IsClosed rest → IsClosed (first ++ rest)
IsClosed-append [] rest closed closed_rest = closed_rest
IsClosed-append (Store word value ∷ first) rest closed closed_rest = (omega (arith, barriers-append first rest, closed.0), IsClosed-append first rest closed.1 closed_rest)
IsClosed-append (Barrier ∷ first) rest closed closed_rest = IsClosed-append first rest closed closed_rest
IsClosed-append (CallEnd ∷ first) rest closed closed_rest = IsClosed-append first rest closed closed_rest

-- a barrier closes any log
pub IsClosed-barrier : (events rest : List Event) → IsClosed rest → IsClosed (events ++ Barrier ∷ rest)
IsClosed-barrier [] rest closed = closed
IsClosed-barrier (Store word value ∷ events) rest closed = (omega (arith, barriers-append events (Barrier ∷ rest)), IsClosed-barrier events rest closed)
IsClosed-barrier (Barrier ∷ events) rest closed = IsClosed-barrier events rest closed
IsClosed-barrier (CallEnd ∷ events) rest closed = IsClosed-barrier events rest closed

-- ## Cuts

-- one more epoch than there are keeps all
stores_of_all : (events : List Event) → stores_of (suc (barriers events)) [] events ≡ stores events
stores_of_all [] = refl
stores_of_all (Store word value ∷ events) = ap (λ es. Store word value ∷ es) (stores_of_all events)
stores_of_all (Barrier ∷ events) = stores_of_all events
stores_of_all (CallEnd ∷ events) = stores_of_all events

call_ends_of_all : (events : List Event) → call_ends_of (suc (barriers events)) [] events ≡ call_ends events
call_ends_of_all [] = refl
call_ends_of_all (Store word value ∷ events) = call_ends_of_all events
call_ends_of_all (Barrier ∷ events) = call_ends_of_all events
call_ends_of_all (CallEnd ∷ events) = ap suc (call_ends_of_all events)

pub call_ends_of-le : (events : List Event) (epoch : ℕ) (mask : List Bool) → call_ends_of epoch mask events ≤ call_ends events
call_ends_of-le [] epoch mask = omega arith
call_ends_of-le (Store word value ∷ events) zero [] = omega arith
call_ends_of-le (Store word value ∷ events) zero (true ∷ mask) = call_ends_of-le events zero mask
call_ends_of-le (Store word value ∷ events) zero (false ∷ mask) = omega arith
call_ends_of-le (Store word value ∷ events) (suc epoch) mask = call_ends_of-le events (suc epoch) mask
call_ends_of-le (Barrier ∷ events) zero mask = call_ends_of-le events zero []
call_ends_of-le (Barrier ∷ events) (suc epoch) mask = call_ends_of-le events epoch mask
call_ends_of-le (CallEnd ∷ events) epoch mask = let low = call_ends_of-le events epoch mask in omega arith

pub up_to_call_end-append : (first rest : List Event) (count : ℕ) → count ≤ call_ends first → up_to_call_end count (first ++ rest) ≡ up_to_call_end count first
up_to_call_end-append first rest zero low = refl
up_to_call_end-append [] rest (suc count) low = absurd (omega arith)
up_to_call_end-append (Store word value ∷ first) rest (suc count) low = ap (λ es. Store word value ∷ es) (up_to_call_end-append first rest (suc count) low)
up_to_call_end-append (Barrier ∷ first) rest (suc count) low = ap (λ es. Barrier ∷ es) (up_to_call_end-append first rest (suc count) low)
up_to_call_end-append (CallEnd ∷ first) rest (suc count) low = ap (λ es. CallEnd ∷ es) (up_to_call_end-append first rest count (omega arith))

pub up_to_call_end_after : (first rest : List Event) (count more : ℕ) → count ≡ call_ends first + suc more → up_to_call_end count (first ++ rest) ≡ first ++ up_to_call_end (suc more) rest
up_to_call_end_after first rest zero more e = absurd (omega arith)
up_to_call_end_after [] rest (suc count) more e = ap (λ n. up_to_call_end n rest) (let k : suc count ≡ suc more = omega arith in k)
up_to_call_end_after (Store word value ∷ first) rest (suc count) more e = ap (λ es. Store word value ∷ es) (up_to_call_end_after first rest (suc count) more e)
up_to_call_end_after (Barrier ∷ first) rest (suc count) more e = ap (λ es. Barrier ∷ es) (up_to_call_end_after first rest (suc count) more e)
up_to_call_end_after (CallEnd ∷ first) rest (suc count) more e = ap (λ es. CallEnd ∷ es) (up_to_call_end_after first rest count more (omega arith))

-- ## What is right at each right cut is right for any epochs and mask, and the other way round

module _ (Same : Likeness) (base : List ℕ) (events : List Event) where
  crash_right_at : CrashRight Same base events → (epoch : ℕ) (mask : List Bool) → Same (words_after base (stores_of epoch mask events)) (after_calls base events (call_ends_of epoch mask events))
  crash_right_at right epoch mask =
      let found = right_cut events epoch mask in
      rw (found.kept, found.calls) at (right.each found.cut found.right)

  crash_right_from : ((epoch : ℕ) (mask : List Bool) → Same (words_after base (stores_of epoch mask events)) (after_calls base events (call_ends_of epoch mask events))) → CrashRight Same base events
  crash_right_from holds = record { each = λ cut right. rw (kept_stores_right events cut right) (holds cut.epoch cut.mask) }

  quiet_at : IsQuiet Same base events → (epoch : ℕ) (mask : List Bool) → Same (words_after base (stores_of epoch mask events)) base
  quiet_at quiet epoch mask =
      let found = right_cut events epoch mask in
      rw found.kept at (quiet.each found.cut found.right)

  pub quiet_from : ((epoch : ℕ) (mask : List Bool) → Same (words_after base (stores_of epoch mask events)) base) → IsQuiet Same base events
  quiet_from holds = record { each = λ cut right. rw (kept_stores_right events cut right) (holds cut.epoch cut.mask) }

  -- with all kept
  crash_right_whole : CrashRight Same base events → Same (words_after base events) (after_calls base events (call_ends events))
  crash_right_whole right =
      rw (stores_of_all events, call_ends_of_all events, words_after-stores base events) at (crash_right_at right (suc (barriers events)) [])

  pub quiet_whole : IsQuiet Same base events → Same (words_after base events) base
  quiet_whole quiet =
      rw (stores_of_all events, words_after-stores base events) at (quiet_at quiet (suc (barriers events)) [])

-- ## The laws

module _ (Same : Likeness) (trans : IsTransitive Same) where
  -- quiet pieces are quiet together
  pub quiet-append : (base : List ℕ) (first rest : List Event) → IsClosed first → IsQuiet Same base first → IsQuiet Same (words_after base first) rest → IsQuiet Same base (first ++ rest)
  quiet-append base first rest closed quiet quiet_rest = quiet_from Same base (first ++ rest) (λ epoch mask.
      elim (joined first rest epoch mask closed) [
        | inl p ↦ rw (p.kept, words_after_whole base first (stores_of p.new_epoch p.new_mask rest))
            (trans _ _ _ (quiet_at Same (words_after base first) rest quiet_rest p.new_epoch p.new_mask) (quiet_whole Same base first quiet))
        | inr s ↦ rw s.kept (quiet_at Same base first quiet epoch mask)
      ])

  -- the calls of a log that goes on from a whole one
  calls_after : (base : List ℕ) (first rest : List Event) → CrashRight Same base first → (image : List ℕ) (count : ℕ) → Same image (after_calls (words_after base first) rest count) → Same image (after_calls base (first ++ rest) (call_ends first + count))
  calls_after base first rest right image zero same =
      let none : call_ends first + 0 ≡ call_ends first = omega arith in
      rw (none, up_to_call_end-append first rest (call_ends first) (omega arith)) (trans _ _ _ same (crash_right_whole Same base first right))
  calls_after base first rest right image (suc count) same =
      rw (up_to_call_end_after first rest (call_ends first + suc count) count refl, words_after-append base first (up_to_call_end (suc count) rest)) same

  -- a log that is right goes on with one that is right from where it ends
  pub crash_right-append : (base : List ℕ) (first rest : List Event) → IsClosed first → CrashRight Same base first → CrashRight Same (words_after base first) rest → CrashRight Same base (first ++ rest)
  crash_right-append base first rest closed right right_rest = crash_right_from Same base (first ++ rest) (λ epoch mask.
      elim (joined first rest epoch mask closed) [
        | inl p ↦ rw (p.kept, p.calls, words_after_whole base first (stores_of p.new_epoch p.new_mask rest))
            (calls_after base first rest right _ _ (crash_right_at Same (words_after base first) rest right_rest p.new_epoch p.new_mask))
        | inr s ↦ rw (s.kept, s.calls, up_to_call_end-append first rest (call_ends_of epoch mask first) (call_ends_of-le first epoch mask))
            (crash_right_at Same base first right epoch mask)
      ])

-- ## The commit

-- what is kept of a commit's store, after its first barrier, and of the marker that ends the call
commit_or_not : (epoch : ℕ) (mask : List Bool) (word value : ℕ) →
    ((stores_of epoch mask (Store word value ∷ Barrier ∷ CallEnd ∷ []) ≡ []) × (call_ends_of epoch mask (Store word value ∷ Barrier ∷ CallEnd ∷ []) ≡ 0))
    ⊎ ((stores_of epoch mask (Store word value ∷ Barrier ∷ CallEnd ∷ []) ≡ Store word value ∷ []) × (call_ends_of epoch mask (Store word value ∷ Barrier ∷ CallEnd ∷ []) ≡ 1))
commit_or_not zero [] word value = inl (refl, refl)
commit_or_not zero (true ∷ mask) word value = inr (refl, refl)
commit_or_not zero (false ∷ mask) word value = inl (refl, refl)
commit_or_not (suc epoch) mask word value = inr (refl, refl)

stores_of-barrier : (events : List Event) (epoch : ℕ) (mask : List Bool) → stores_of epoch mask (events ++ Barrier ∷ []) ≡ stores_of epoch mask events
stores_of-barrier [] zero mask = refl
stores_of-barrier [] (suc epoch) mask = refl
stores_of-barrier (Store word value ∷ events) zero [] = refl
stores_of-barrier (Store word value ∷ events) zero (true ∷ mask) = ap (λ es. Store word value ∷ es) (stores_of-barrier events zero mask)
stores_of-barrier (Store word value ∷ events) zero (false ∷ mask) = stores_of-barrier events zero mask
stores_of-barrier (Store word value ∷ events) (suc epoch) mask = ap (λ es. Store word value ∷ es) (stores_of-barrier events (suc epoch) mask)
stores_of-barrier (Barrier ∷ events) zero mask = refl
stores_of-barrier (Barrier ∷ events) (suc epoch) mask = stores_of-barrier events epoch mask
stores_of-barrier (CallEnd ∷ events) epoch mask = stores_of-barrier events epoch mask

module _ (Same : Likeness) (base : List ℕ) (events : List Event) (word value : ℕ) where
  before_commit : words_after base (events ++ Barrier ∷ []) ≡ words_after base events
  before_commit = words_after-append base events (Barrier ∷ [])

  after_commit : words_after (words_after base events) (Store word value ∷ []) ≡ words_after base (events ++ commit word value)
  after_commit = sym (words_after-append base events (commit word value))

  no_call_ends : call_ends events ≡ 0 → call_ends (events ++ Barrier ∷ []) ≡ 0
  no_call_ends none = omega (arith, call_ends-append events (Barrier ∷ []))

  after_one : call_ends events ≡ 0 → after_calls base (events ++ commit word value ++ CallEnd ∷ []) 1 ≡ words_after base (events ++ commit word value)
  after_one none =
      let one : 1 ≡ call_ends (events ++ commit word value) + 1 = omega (arith, call_ends-append events (commit word value)) in
      rw (up_to_call_end_after (events ++ commit word value) (CallEnd ∷ []) 1 0 one) (words_after-append base (events ++ commit word value) (CallEnd ∷ []))

  abbrev call : List Event
  call = events ++ commit word value ++ CallEnd ∷ []

  -- what a cut leaves, by what it keeps
  outcome : (epoch : ℕ) (mask : List Bool) (kept : List Event) (calls : ℕ) → stores_of epoch mask call ≡ kept → call_ends_of epoch mask call ≡ calls →
      Same (words_after base kept) (after_calls base call calls) →
      Same (words_after base (stores_of epoch mask call)) (after_calls base call (call_ends_of epoch mask call))
  outcome epoch mask kept calls kept_is calls_is same = rw (kept_is, calls_is) same

  -- a preparation that is quiet, then the one store alone in its epoch, then the end of the call
  pub crash_right_commit : call_ends events ≡ 0 → IsQuiet Same base events → Same (words_after base (events ++ commit word value)) (words_after base (events ++ commit word value)) → CrashRight Same base (events ++ commit word value ++ CallEnd ∷ [])
  crash_right_commit none quiet same = crash_right_from Same base (events ++ commit word value ++ CallEnd ∷ []) (λ epoch mask.
      let first = events ++ Barrier ∷ [] in
      let following = Store word value ∷ Barrier ∷ CallEnd ∷ [] in
      let parts : events ++ commit word value ++ CallEnd ∷ [] ≡ first ++ following = simp append_assoc in
      let no_call_end = no_call_ends none in
      elim (joined first following epoch mask (IsClosed-barrier events [] tt)) [
        | inl p ↦
            let calls : call_ends_of epoch mask (events ++ commit word value ++ CallEnd ∷ []) ≡ call_ends_of p.new_epoch p.new_mask following = rw parts (omega (arith, p.calls, no_call_end)) in
            let kept : (es : List Event) → stores_of p.new_epoch p.new_mask following ≡ es → stores_of epoch mask (events ++ commit word value ++ CallEnd ∷ []) ≡ stores first ++ es =
            λ es e. ap (stores_of epoch mask) parts ∙ p.kept ∙ ap (λ rest. stores first ++ rest) e in
            elim (commit_or_not p.new_epoch p.new_mask word value) [
              | inl c ↦ outcome epoch mask (stores first ++ []) 0 (kept [] c.0) (calls ∙ c.1)
                  (rw (words_after_whole base first [], before_commit) (quiet_whole Same base events quiet))
              | inr c ↦ outcome epoch mask (stores first ++ Store word value ∷ []) 1 (kept (Store word value ∷ []) c.0) (calls ∙ c.1)
                  (rw (words_after_whole base first (Store word value ∷ []), before_commit, after_commit, after_one none) same)
            ]
        | inr s ↦
            let low = call_ends_of-le first epoch mask in
            let calls : call_ends_of epoch mask (first ++ following) ≡ 0 = omega (arith, s.calls) in
            outcome epoch mask (stores_of epoch mask events) 0
            (ap (stores_of epoch mask) parts ∙ s.kept ∙ stores_of-barrier events epoch mask)
            (ap (call_ends_of epoch mask) parts ∙ calls)
            (quiet_at Same base events quiet epoch mask)
      ])

-- what is kept of a store alone
store_or_not : (epoch : ℕ) (mask : List Bool) (word value : ℕ) → (stores_of epoch mask (Store word value ∷ Barrier ∷ []) ≡ []) ⊎ (stores_of epoch mask (Store word value ∷ Barrier ∷ []) ≡ Store word value ∷ [])
store_or_not zero [] word value = inl refl
store_or_not zero (true ∷ mask) word value = inr refl
store_or_not zero (false ∷ mask) word value = inl refl
store_or_not (suc epoch) mask word value = inr refl

-- a quiet preparation, and a store alone in its epoch after which the words are like those before
pub quiet-commit : (Same : Likeness) (base : List ℕ) (events : List Event) (word value : ℕ) → IsQuiet Same base events → Same (words_after base (events ++ commit word value)) base → IsQuiet Same base (events ++ commit word value)
quiet-commit Same base events word value quiet same = quiet_from Same base (events ++ commit word value) (λ epoch mask.
    let first = events ++ Barrier ∷ [] in
    let following = Store word value ∷ Barrier ∷ [] in
    let parts : events ++ commit word value ≡ first ++ following = simp append_assoc in
    let at : (kept : List Event) → stores_of epoch mask (first ++ following) ≡ kept → Same (words_after base kept) base → Same (words_after base (stores_of epoch mask (events ++ commit word value))) base =
    λ kept is like. rw (parts, is) like in
    elim (joined first following epoch mask (IsClosed-barrier events [] tt)) [
      | inl p ↦
          let kept : (es : List Event) → stores_of p.new_epoch p.new_mask following ≡ es → stores_of epoch mask (first ++ following) ≡ stores first ++ es =
          λ es e. p.kept ∙ ap (λ rest. stores first ++ rest) e in
          elim (store_or_not p.new_epoch p.new_mask word value) [
            | inl none ↦ at (stores first ++ []) (kept [] none)
                (rw (words_after_whole base first [], words_after-append base events (Barrier ∷ [])) (quiet_whole Same base events quiet))
            | inr one ↦ at (stores first ++ Store word value ∷ []) (kept (Store word value ∷ []) one)
                (rw (words_after_whole base first (Store word value ∷ []), words_after-append base events (Barrier ∷ []), ← words_after-append base events (commit word value)) same)
          ]
      | inr s ↦ at (stores_of epoch mask events) (s.kept ∙ stores_of-barrier events epoch mask) (quiet_at Same base events quiet epoch mask)
    ])

-- ## A marker, and nothing

pub crash_right_call_end : (Same : Likeness) (base : List ℕ) → Same base base → CrashRight Same base (CallEnd ∷ [])
crash_right_call_end Same base same = crash_right_from Same base (CallEnd ∷ []) (λ epoch mask. same)

pub crash_right_none : (Same : Likeness) (base : List ℕ) → Same base base → CrashRight Same base []
crash_right_none Same base same = crash_right_from Same base [] (λ epoch mask. same)

pub quiet_none : (Same : Likeness) (base : List ℕ) → Same base base → IsQuiet Same base []
quiet_none Same base same = quiet_from Same base [] (λ epoch mask. same)

-- a barrier more changes nothing
pub quiet-barrier : (Same : Likeness) (base : List ℕ) (events : List Event) → IsQuiet Same base events → IsQuiet Same base (events ++ Barrier ∷ [])
quiet-barrier Same base events quiet = quiet_from Same base (events ++ Barrier ∷ []) (λ epoch mask. rw (stores_of-barrier events epoch mask) (quiet_at Same base events quiet epoch mask))

pub length-words_after : (words : List ℕ) (events : List Event) → length (words_after words events) ≡ length words
length-words_after words [] = refl
length-words_after words (Store word value ∷ events) = length-words_after (set words word value) events ∙ length-set words word value
length-words_after words (Barrier ∷ events) = length-words_after words events
length-words_after words (CallEnd ∷ events) = length-words_after words events

-- ## Replays of joined logs

pub joined_replays : (base : List ℕ) (first rest : List Event) → IsClosed first → (image : List ℕ) → IsReplay base (first ++ rest) image → IsReplay base first image ⊎ IsReplay (words_after base first) rest image
joined_replays base first rest closed image found =
    let words : words_after base (stores_of found.cut.epoch found.cut.mask (first ++ rest)) ≡ image =
    ap (words_after base) (sym (kept_stores_right (first ++ rest) found.cut found.right)) ∙ found.words in
    elim (joined first rest found.cut.epoch found.cut.mask closed) [
      | inl p ↦
          let r = right_cut rest p.new_epoch p.new_mask in
          inr (record {
            cut = r.cut;
            right = r.right;
            words =
                ap (words_after (words_after base first)) r.kept ∙ sym (words_after_whole base first (stores_of p.new_epoch p.new_mask rest)) ∙ ap (words_after base) (sym p.kept) ∙ words;
          })
      | inr s ↦
          let r = right_cut first found.cut.epoch found.cut.mask in
          inl (record { cut = r.cut; right = r.right; words = ap (words_after base) (r.kept ∙ sym s.kept) ∙ words })
    ]

-- what a committed call leaves is closed
pub IsClosed-commit : (prepared : List Event) (word value : ℕ) → IsClosed (prepared ++ commit word value ++ CallEnd ∷ [])
IsClosed-commit prepared word value =
    let tail : IsClosed (Store word value ∷ Barrier ∷ CallEnd ∷ []) = (omega arith, tt) in
    rw append_assoc (IsClosed-barrier prepared (Store word value ∷ Barrier ∷ CallEnd ∷ []) tail)

-- a replay of a prefix of a log is a replay of the log
pub replay_of_prefix : (base : List ℕ) (prefix rest : List Event) (image : List ℕ) → IsReplay base prefix image → IsReplay base (prefix ++ rest) image
replay_of_prefix base prefix rest image found =
    let moment = found.right.moment in
    let same : take found.cut.moment (prefix ++ rest) ≡ take found.cut.moment prefix = rw take-append-le in
    record {
      cut = found.cut;
      right = record {
        moment = omega (arith, moment, length-append prefix rest);
        epoch = rw same found.right.epoch;
        mask = rw same found.right.mask;
      };
      words = rw same found.words;
    }
