-- Serving goes on from piece to piece.
use Rattle.std.proofs.Common.{refl, sym, ◌∙◌, ap, arith, ◌≡◌, ℕ, ◌<◌, List, [], ◌∷◌, ◌++◌, length, take, map, true, false, nat_eq, Bool, cond, length-append, nat_lt, get_or, drop, zero, suc, ◌≤◌, ◌+◌}
use Rattle.std.proofs.lemmas.List.{append_assoc, append-nil, take_all}
use Rattle.std.proofs.lemmas.List.Elements.{All-nil}
use Rattle.std.proofs.lemmas.Bool.{lt-ltb, ltb-true, ltb-false}
use Rattle.std.proofs.Math.Seq.{take-suc}
use Rattle.std.proofs.KnownBytes.{Appends-nil, Appends-trans}
use Rattle.std.specs.Prelude.{Option, Some, None}
use Rattle.std.specs.Io.KnownBytes.{Appends, Consumes}
use Rattle.bp_limits.specs.Limits.{max_line}
use Rattle.bp_fs.specs.Behaviour.{Behaviour}
use Rattle.bp_layout.specs.Words.{Image}
use Rattle.bp_script.specs.Commands.{Command, command_of}
use Rattle.bp_session.specs.Lines.{commands_from, lines_from}
use Rattle.bp_script.specs.Texts.{LineReply, reply_text}
use Rattle.bp_session.specs.Lines.{text_of}
use Rattle.bp_session.specs.Session.{State, SessionLine, Session}
use Rattle.bp_session.specs.Acting.{state}
use Rattle.bp_session.specs.Serving.{Acts, Replied, Serves, ServesAll, BreaksOff, StopsAtSave}

-- ---- sessions

pub session_append : {S : Type 0} (it : Behaviour S) (old middle new : State S) (xs ys : List Command) (ps qs : List LineReply) → Session it old xs ps middle → Session it middle ys qs new → Session it old (xs ++ ys) (ps ++ qs) new
session_append it old middle new [] ys [] qs first rest = rw (← first) rest
session_append it old middle new [] ys (p ∷ ps) qs first rest = absurd first
session_append it old middle new (x ∷ xs) ys [] qs first rest = absurd first
session_append it old middle new (x ∷ xs) ys (p ∷ ps) qs (next, line, later) rest = (next, line, session_append it next middle new xs ys ps qs later rest)

pub text_append : (ps qs : List LineReply) → text_of (ps ++ qs) ≡ text_of ps ++ text_of qs
unfolding text_of
text_append [] qs = refl
text_append (p ∷ ps) qs = ap (λ t. reply_text p ++ t) (text_append ps qs) ∙ sym (append_assoc (reply_text p) (text_of ps) (text_of qs))

pub text_one : (p : LineReply) → text_of (p ∷ []) ≡ reply_text p
unfolding text_of
text_one p = append-nil (reply_text p)

pub text_none : text_of [] ≡ []
unfolding text_of
text_none = refl

pub reported_none : {S : Type 0} (it : Behaviour S) (s : State S) (t : Option (List ℕ)) → Replied it s s [] t t
reported_none it s t = record { replies = []; session = refl; taken = rw text_none (Appends-nil t) }

pub reported_then : {S : Type 0} (it : Behaviour S) (a b c : State S) (xs ys : List Command) (t u v : Option (List ℕ)) → Replied it a b xs t u → Replied it b c ys u v → Replied it a c (xs ++ ys) t v
reported_then it a b c xs ys t u v first rest = record {
  replies = first.replies ++ rest.replies;
  session = session_append it a b c xs ys first.replies rest.replies first.session rest.session;
  taken = rw (text_append first.replies rest.replies) (Appends-trans t u v _ _ first.taken rest.taken);
}

pub reported_one : {S : Type 0} (it : Behaviour S) (a b : State S) (x : Command) (p : LineReply) (t u : Option (List ℕ)) → SessionLine it a x p b → Appends t u (reply_text p) → Replied it a b (x ∷ []) t u
reported_one it a b x p t u line taken = record { replies = p ∷ []; session = (b, line, refl); taken = rw (text_one p) taken }

-- ---- lines

pub commands_at_newline : (held rest : List ℕ) → commands_from held (10 ∷ rest) ≡ command_of held ∷ commands_from [] rest
unfolding commands_from
commands_at_newline held rest = refl

pub commands_at_byte : (held rest : List ℕ) (b : ℕ) → nat_eq b 10 ≡ false → commands_from held (b ∷ rest) ≡ commands_from (held ++ b ∷ []) rest
unfolding commands_from
commands_at_byte held rest b e = rw e refl

long_command : (a : List ℕ) → max_line < length a → nat_lt max_line (length a) ≡ true
long_command a p = lt-ltb max_line (length a) p

-- of a line that is too long, no byte matters
pub commands_too_long : (a b rest : List ℕ) → max_line < length a → max_line < length b → commands_from a rest ≡ commands_from b rest
unfolding commands_from
commands_too_long [] b rest p q = absurd (omega arith)
commands_too_long (x ∷ a) [] rest p q = absurd (omega arith)
commands_too_long (x ∷ a) (y ∷ b) [] p q = rw (long_command (x ∷ a) p, long_command (y ∷ b) q) refl
commands_too_long (x ∷ a) (y ∷ b) (c ∷ rest) p q =
    elim (nat_eq c 10) as (λ v. map command_of (cond v ((x ∷ a) ∷ lines_from [] rest) (lines_from ((x ∷ a) ++ c ∷ []) rest)) ≡ map command_of (cond v ((y ∷ b) ∷ lines_from [] rest) (lines_from ((y ∷ b) ++ c ∷ []) rest))) [
      | true ↦ rw (long_command (x ∷ a) p, long_command (y ∷ b) q) refl
      | false ↦ commands_too_long ((x ∷ a) ++ c ∷ []) ((y ∷ b) ++ c ∷ []) rest (omega (arith, length-append a (c ∷ []))) (omega (arith, length-append b (c ∷ [])))
    ]

pub length_taken : (xs : List ℕ) (n : ℕ) → n ≤ length xs → length (take n xs) ≡ n
length_taken [] zero low = refl
length_taken [] (suc n) low = absurd (omega arith)
length_taken (x ∷ xs) zero low = refl
length_taken (x ∷ xs) (suc n) low = ap suc (length_taken xs n (omega arith))

-- bytes with no newline go to the line
pub commands_at_run : (held run rest : List ℕ) → ((k : ℕ) → k < length run → nat_eq (get_or run k 0) 10 ≡ false) → commands_from held (run ++ rest) ≡ commands_from (held ++ run) rest
commands_at_run held [] rest quiet = rw (append-nil held) refl
commands_at_run held (b ∷ run) rest quiet =
    commands_at_byte held (run ++ rest) b (quiet 0 (omega arith)) ∙ commands_at_run (held ++ b ∷ []) run rest (λ k low. quiet (suc k) (omega (arith, low))) ∙ ap (λ l. commands_from l rest) (append_assoc held (b ∷ []) run)

-- .. of which the line keeps only its first bytes
pub commands_kept : (line rest : List ℕ) → commands_from line rest ≡ commands_from (take (max_line + 1) line) rest
commands_kept line rest = go (nat_lt max_line (length line)) refl
  where
    go : (long : Bool) → nat_lt max_line (length line) ≡ long → commands_from line rest ≡ commands_from (take (max_line + 1) line) rest
    go true e = let low = ltb-true max_line (length line) e in commands_too_long line (take (max_line + 1) line) rest low (omega (arith, low, length_taken line (max_line + 1) (omega (arith, low))))
    go false e = let high = ltb-false max_line (length line) e in ap (λ l. commands_from l rest) (sym (take_all (max_line + 1) line (omega (arith, high))))

pub commands_at_end : (x : ℕ) (held : List ℕ) → commands_from (x ∷ held) [] ≡ command_of (x ∷ held) ∷ []
unfolding commands_from
commands_at_end x held = refl

pub commands_of_nothing : commands_from [] [] ≡ []
unfolding commands_from
commands_of_nothing = refl

-- ---- serving

module _ {S : Type 0} (it : Behaviour S) (holds : Image → Type 0) where
  -- input that ends no line
  pub serves_quietly : (system : S) (saved : Image) (held input keeps : List ℕ) (t : Option (List ℕ)) → holds saved → ((rest : List ℕ) → commands_from held (input ++ rest) ≡ commands_from keeps rest) → Serves it (state system saved) system holds held input keeps t t
  serves_quietly system saved held input keeps t file same = record { commands = []; lines = same; after = saved; file = file; reported = reported_none it (state system saved) t }

  pub breaks_line : (most : ℕ) (old : State S) (system : S) (command : Command) (more : List Command) (reply : LineReply) (count : ℕ) (t u : Option (List ℕ)) → Acts it old system holds command reply → count < length (reply_text reply) → Appends t u (take count (reply_text reply))
      → BreaksOff it most old system holds (command ∷ more) t u
  breaks_line most old system command more reply count t u acts low taken = record {
    prefix = [];
    last = command;
    ahead = [];
    more = more;
    are = refl;
    middle = old;
    replies = [];
    session = refl;
    reply = reply;
    reached = state system acts.after;
    line = acts.line;
    unheard = [];
    after = acts.after;
    later = refl;
    unsynced = All-nil _;
    alone = λ _. refl;
    file = acts.file;
    count = count;
    proper = low;
    taken = rw text_none taken;
  }

-- ---- what is said of the file, in other words

module _ {S : Type 0} (it : Behaviour S) (old : State S) (system : S) (t u : Option (List ℕ)) where
  module _ (holds says : Image → Type 0) (f : (image : Image) → holds image → says image) where
    pub serves_as : (held input keeps : List ℕ) → Serves it old system holds held input keeps t u → Serves it old system says held input keeps t u
    serves_as held input keeps served = record { commands = served.commands; lines = served.lines; after = served.after; file = f served.after served.file; reported = served.reported }

    pub all_as : (commands : List Command) → ServesAll it old system holds commands t u → ServesAll it old system says commands t u
    all_as commands all = record { after = all.after; file = f all.after all.file; reported = all.reported }

    pub breaks_as : (most least : ℕ) (commands : List Command) → (least ≡ 0 → most ≡ 0) → BreaksOff it most old system holds commands t u → BreaksOff it least old system says commands t u
    breaks_as most least commands none broken = record {
      prefix = broken.prefix;
      last = broken.last;
      ahead = broken.ahead;
      more = broken.more;
      are = broken.are;
      middle = broken.middle;
      replies = broken.replies;
      session = broken.session;
      reply = broken.reply;
      reached = broken.reached;
      line = broken.line;
      unheard = broken.unheard;
      after = broken.after;
      later = broken.later;
      unsynced = broken.unsynced;
      alone = λ e. broken.alone (none e);
      file = f broken.after broken.file;
      count = broken.count;
      proper = broken.proper;
      taken = broken.taken;
    }

  pub stops_as : (partly says : Image → Image → Type 0) → ((first second : Image) → partly first second → says first second) → (commands : List Command) → StopsAtSave it old system partly commands t u → StopsAtSave it old system says commands t u
  stops_as partly says f commands stop = record {
    prefix = stop.prefix;
    last = stop.last;
    more = stop.more;
    are = stop.are;
    middle = stop.middle;
    reported = stop.reported;
    fails = record { is = stop.fails.is; drained = stop.fails.drained; file = f _ _ stop.fails.file };
  }

-- one piece after another
pub serves_then : {S : Type 0} (it : Behaviour S) (old : State S) (middle new : S) (first second : Image → Type 0) (a i b j c : List ℕ) (t u v : Option (List ℕ)) → (one : Serves it old middle first a i b t u)
    → Serves it (state middle one.after) new second b j c u v → Serves it old new second a (i ++ j) c t v
serves_then it old middle new first second a i b j c t u v one two = record {
  commands = one.commands ++ two.commands;
  lines = λ rest. rw (append_assoc i j rest) (one.lines (j ++ rest) ∙ ap (λ cs. one.commands ++ cs) (two.lines rest) ∙ sym (append_assoc one.commands two.commands (commands_from c rest)));
  after = two.after;
  file = two.file;
  reported = reported_then it old (state middle one.after) (state new two.after) one.commands two.commands t u v one.reported two.reported;
}

pub breaks_then : {S : Type 0} (it : Behaviour S) (most : ℕ) (old middle : State S) (new : S) (holds : Image → Type 0) (xs ys : List Command) (t u v : Option (List ℕ)) → Replied it old middle xs t u → BreaksOff it most middle new holds ys u v → BreaksOff it most old new holds (xs ++ ys) t v
breaks_then it most old middle new holds xs ys t u v first broken = record {
  prefix = xs ++ broken.prefix;
  last = broken.last;
  ahead = broken.ahead;
  more = broken.more;
  are = ap (λ cs. xs ++ cs) broken.are ∙ sym (append_assoc xs (broken.prefix ++ broken.last ∷ broken.ahead) broken.more) ∙ ap (λ cs. cs ++ broken.more) (sym (append_assoc xs broken.prefix (broken.last ∷ broken.ahead)));
  middle = broken.middle;
  replies = first.replies ++ broken.replies;
  session = session_append it old middle broken.middle xs broken.prefix first.replies broken.replies first.session broken.session;
  reply = broken.reply;
  reached = broken.reached;
  line = broken.line;
  unheard = broken.unheard;
  after = broken.after;
  later = broken.later;
  unsynced = broken.unsynced;
  alone = broken.alone;
  file = broken.file;
  count = broken.count;
  proper = broken.proper;
  taken = rw (text_append first.replies broken.replies, append_assoc (text_of first.replies) (text_of broken.replies) (take broken.count (reply_text broken.reply))) (Appends-trans t u v _ _ first.taken broken.taken);
}

pub stops_then : {S : Type 0} (it : Behaviour S) (old middle : State S) (new : S) (partly : Image → Image → Type 0) (xs ys : List Command) (t u v : Option (List ℕ)) → Replied it old middle xs t u → StopsAtSave it middle new partly ys u v → StopsAtSave it old new partly (xs ++ ys) t v
stops_then it old middle new partly xs ys t u v first stop = record {
  prefix = xs ++ stop.prefix;
  last = stop.last;
  more = stop.more;
  are = ap (λ cs. xs ++ cs) stop.are ∙ sym (append_assoc xs stop.prefix (stop.last ∷ stop.more));
  middle = stop.middle;
  reported = reported_then it old middle stop.middle xs stop.prefix t u v first stop.reported;
  fails = stop.fails;
}

-- ---- what a line's end adds

pub serves_one : {S : Type 0} (it : Behaviour S) (old : State S) (system : S) (holds : Image → Type 0) (command : Command) (reply : LineReply) (t u : Option (List ℕ)) → Acts it old system holds command reply → Appends t u (reply_text reply) → ServesAll it old system holds (command ∷ []) t u
serves_one it old system holds command reply t u acts taken = record {
  after = acts.after;
  file = acts.file;
  reported = reported_one it old (state system acts.after) command reply t u acts.line taken;
}

pub serves_newline : {S : Type 0} (it : Behaviour S) (old : State S) (system : S) (holds : Image → Type 0) (held : List ℕ) (t u : Option (List ℕ)) → ServesAll it old system holds (command_of held ∷ []) t u → Serves it old system holds held (10 ∷ []) [] t u
serves_newline it old system holds held t u all = record {
  commands = command_of held ∷ [];
  lines = λ rest. commands_at_newline held rest;
  after = all.after;
  file = all.file;
  reported = all.reported;
}

pub breaks_later : {S : Type 0} (it : Behaviour S) (most : ℕ) (old : State S) (system : S) (holds : Image → Type 0) (xs following : List Command) (t u : Option (List ℕ)) → BreaksOff it most old system holds xs t u → BreaksOff it most old system holds (xs ++ following) t u
breaks_later it most old system holds xs following t u broken = record {
  prefix = broken.prefix;
  last = broken.last;
  ahead = broken.ahead;
  more = broken.more ++ following;
  are = ap (λ cs. cs ++ following) broken.are ∙ append_assoc (broken.prefix ++ broken.last ∷ broken.ahead) broken.more following;
  middle = broken.middle;
  replies = broken.replies;
  session = broken.session;
  reply = broken.reply;
  reached = broken.reached;
  line = broken.line;
  unheard = broken.unheard;
  after = broken.after;
  later = broken.later;
  unsynced = broken.unsynced;
  alone = broken.alone;
  file = broken.file;
  count = broken.count;
  proper = broken.proper;
  taken = broken.taken;
}

pub stops_later : {S : Type 0} (it : Behaviour S) (old : State S) (system : S) (partly : Image → Image → Type 0) (xs following : List Command) (t u : Option (List ℕ)) → StopsAtSave it old system partly xs t u → StopsAtSave it old system partly (xs ++ following) t u
stops_later it old system partly xs following t u stop = record {
  prefix = stop.prefix;
  last = stop.last;
  more = stop.more ++ following;
  are = ap (λ cs. cs ++ following) stop.are ∙ append_assoc stop.prefix (stop.last ∷ stop.more) following;
  middle = stop.middle;
  reported = stop.reported;
  fails = stop.fails;
}

-- ---- what is after a piece that was served

module _ {S : Type 0} (it : Behaviour S) (old : State S) (middle : S) (first : Image → Type 0) (a i b : List ℕ) (t u v : Option (List ℕ)) (one : Serves it old middle first a i b t u) where
  pub breaks_in : (most : ℕ) (new : S) (holds : Image → Type 0) (j : List ℕ) → BreaksOff it most (state middle one.after) new holds (commands_from b j) u v → BreaksOff it most old new holds (commands_from a (i ++ j)) t v
  breaks_in most new holds j broken = rw (one.lines j) (breaks_then it most old (state middle one.after) new holds one.commands (commands_from b j) t u v one.reported broken)

  pub stops_in : (new : S) (partly : Image → Image → Type 0) (j : List ℕ) → StopsAtSave it (state middle one.after) new partly (commands_from b j) u v → StopsAtSave it old new partly (commands_from a (i ++ j)) t v
  stops_in new partly j stop = rw (one.lines j) (stops_then it old (state middle one.after) new partly one.commands (commands_from b j) t u v one.reported stop)

  pub serves_to_end : (new : S) (holds : Image → Type 0) (j : List ℕ) → ServesAll it (state middle one.after) new holds (commands_from b j) u v → ServesAll it old new holds (commands_from a (i ++ j)) t v
  serves_to_end new holds j all = rw (one.lines j) (record {
    after = all.after;
    file = all.file;
    reported = reported_then it old (state middle one.after) (state new all.after) one.commands (commands_from b j) t u v one.reported all.reported;
  })

-- ---- bytes of a piece

pub split_at : (xs rest : List ℕ) (i b : ℕ) → i < length xs → b ≡ get_or xs i 0 → xs ++ rest ≡ take i xs ++ (b ∷ (drop (i + 1) xs ++ rest))
split_at [] rest i b low is = absurd (omega arith)
split_at (x ∷ xs) rest zero b low is = rw is refl
split_at (x ∷ xs) rest (suc i) b low is = let next : suc i + 1 ≡ suc (i + 1) = omega arith in rw next (ap (λ l. x ∷ l) (split_at xs rest i b (omega arith) is))

pub take_next : (xs : List ℕ) (i b : ℕ) → i < length xs → b ≡ get_or xs i 0 → take (i + 1) xs ≡ take i xs ++ b ∷ []
take_next xs i b low e = ap (λ n. take n xs) (let n : i + 1 ≡ suc i = omega arith in n) ∙ take-suc xs i 0 low ∙ ap (λ x. take i xs ++ x ∷ []) (sym e)

pub take_more : (xs : List ℕ) (n m : ℕ) → n ≤ m → take n xs ++ drop n (take m xs) ≡ take m xs
take_more [] zero zero low = refl
take_more [] zero (suc m) low = refl
take_more [] (suc n) zero low = absurd (omega arith)
take_more [] (suc n) (suc m) low = refl
take_more (x ∷ xs) zero m low = refl
take_more (x ∷ xs) (suc n) zero low = absurd (omega arith)
take_more (x ∷ xs) (suc n) (suc m) low = ap (λ l. x ∷ l) (take_more xs n m (omega arith))

pub session_split : {S : Type 0} (it : Behaviour S) (old new : State S) (first rest : List Command) (replies : List LineReply) → Session it old (first ++ rest) replies new →
    (middle : State S) × (prefix : List LineReply) × (following : List LineReply) × (replies ≡ prefix ++ following) × Session it old first prefix middle × Session it middle rest following new
session_split it old new [] rest replies session = (old, [], replies, refl, refl, session)
session_split it old new (x ∷ first) rest [] session = absurd session
session_split it old new (x ∷ first) rest (p ∷ replies) (next, line, later) =
    let more = session_split it next new first rest replies later in
    (more.0, p ∷ more.1, more.2, ap (λ ps. p ∷ ps) more.3, (next, line, more.4), more.5)

pub not_long : (left after : Option (List ℕ)) (input first more : List ℕ) → left ≡ Some input → length input ≤ 1073741824 → Consumes left after (first ++ more) → length first ≡ 1073741824 → 1 ≤ length more → ⊥
not_long left after input first more is few read most some = go after (rw is at read)
  where
    go : (after : Option (List ℕ)) → Consumes (Some input) after (first ++ more) → ⊥
    go None never = never
    go (Some rest) split = omega (arith, ap length split, length-append (first ++ more) rest, length-append first more, few, most, some)
