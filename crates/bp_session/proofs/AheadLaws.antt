-- Serving lines whose replies wait.
use Rattle.std.proofs.Common.{refl, sym, ◌∙◌, ap, subst, arith, ◌≡◌, ℕ, ◌+◌, ◌-◌, ◌<◌, true, false, Bool, List, [], ◌∷◌, ◌++◌, length, take, inl, inr, length-append, nat_lt}
use Rattle.std.proofs.lemmas.List.{append_assoc, append-nil, take-append-le}
use Rattle.std.proofs.lemmas.List.Elements.{All-append, All-cons, All-nil}
use Rattle.std.proofs.lemmas.Bool.{ltb-true, ltb-false}
use Rattle.std.proofs.Math.Seq.{take-append-add}
use Rattle.std.specs.Prelude.{Option, None, Some, ◌⊎◌}
use Rattle.std.specs.Io.KnownBytes.{Appends}
use Rattle.std.proofs.KnownBytes.{Appends-trans}
use Rattle.bp_fs.specs.Behaviour.{Behaviour}
use Rattle.bp_io.specs.Causes.{Rose}
use Rattle.bp_io.specs.Files.{KeepsOthers, StaysAttached}
use Rattle.bp_io.specs.Views.{View, SourceView}
use Rattle.bp_layout.specs.Words.{Image}
use Rattle.bp_script.specs.Commands.{Command, command_of}
use Rattle.bp_script.specs.Commands.Command.{sync}
use Rattle.bp_script.specs.Texts.{reply_text}
use Rattle.bp_session.specs.Acting.{state}
use Rattle.bp_session.specs.Lines.{commands_from}
use Rattle.bp_session.specs.Outside.{counts}
use Rattle.bp_session.specs.Faults.{IsFirstFault}
use Rattle.bp_session.specs.Session.{State}
use Rattle.bp_session.specs.declared.broken.Broken.{Broken}
use Rattle.bp_session.specs.declared.broken.Broken.TheVariants as cause
use Rattle.bp_session.specs.Serving.{BreaksOff, Carries, DoesBreakOff, FailsLine, Keeps, LineOutcome, Moment, PieceOutcome, ServeOutcome, StopsAtSave, SyncFails}
use Rattle.bp_replies.specs.Taking.{TakesPart}
use Rattle.bp_session.specs.Gathering.{Clears, AwaitsReply, IsUnheard, IsUnreported, LineGathers}
use Rattle.bp_replies.specs.Gathering.{PassesOn}
use Rattle.bp_replies.proofs.PassingLaws.{handed_after, part_after, passed_part, passes_after, taken_after, with_nothing, with_waiting}
use Rattle.bp_session.proofs.OutcomeLaws.{files_fault, first_after, line_broken, line_stopped, line_whole, piece_newline, piece_quiet, piece_then, quiet, sink_fault, stops_after}
use Rattle.bp_session.proofs.ChangedLaws.{holds_lost}
use Rattle.bp_session.proofs.OthersLaws.{others_same, others_then}
use Rattle.bp_session.proofs.SavingLaws.{stays_attached, still_attached}
use Rattle.bp_session.proofs.ServingLaws.{all_as, breaks_as, breaks_later, breaks_line, commands_at_newline, serves_as, serves_one, session_append, text_none}

-- ---- what a line adds to what a sink took and what waits

added : (command : Command) (reply : List ℕ) (a b w : List ℕ) (t u v : Option (List ℕ)) (f g : View) → Clears command a w t u f g → PassesOn reply w b u v → Appends (with_waiting t a) (with_waiting v b) reply
added command reply a b w t u v f g (inl same) passes =
    passes_after reply a b t v (subst (λ (s : Option (List ℕ)). PassesOn reply a b s v) same.2 (subst (λ (l : List ℕ). PassesOn reply l b u v) same.1 passes))
added command reply a b w t u v f g (inr sent) passes =
    let one : PassesOn reply [] b u v = subst (λ (l : List ℕ). PassesOn reply l b u v) sent.0 passes in
    let two : Appends u (with_waiting v b) reply = subst (λ (s : Option (List ℕ)). Appends s (with_waiting v b) reply) (with_nothing u) (passes_after reply [] b u v one) in
    Appends-trans (with_waiting t a) u (with_waiting v b) [] reply (handed_after a t u sent.1) two

-- a sync that couldn't save, after what was handed over
stops_handed : {S : Type 0} (it : Behaviour S) (old : State S) (system : S) (partly : Image → Image → Type 0) (command : Command) (more : List Command) (t u : Option (List ℕ)) → SyncFails it old system partly command → Appends t u []
    → StopsAtSave it old system partly (command ∷ more) t u
stops_handed it old system partly command more t u fails took = record {
  prefix = [];
  last = command;
  more = more;
  are = refl;
  middle = old;
  reported = record { replies = []; session = refl; taken = rw text_none took };
  fails = fails;
}

-- what waited is handed over
piece_handed : {S : Type 0} (it : Behaviour S) (most : ℕ) (held : List ℕ) (now : Moment S) (u : Option (List ℕ)) → Appends now.taken u [] → PieceOutcome it None most held [] held now (record now { taken = u })
piece_handed it most held now u took = record {
  whole = λ _ saved. record { commands = []; lines = λ rest. refl; after = saved; file = λ name file. file; reported = record { replies = []; session = refl; taken = rw text_none took } };
  broken = λ e. absurd cc;
  stopped = λ e. absurd cc;
  keeps_files = record { size = refl; capacity = refl; attached = still_attached now.files; others = others_same now.files; flushed = λ _ e. e };
  first = quiet false _ _ refl refl refl;
  one_of = inl refl;
}

-- ---- a reply that may break off

-- The reply to one of the lines that this input ends broke off, and all lines after it were done.
pub record IsAhead {S : Type 0} (it : Behaviour S) (most : ℕ) (old : State S) (system : S) (holds : Image → Type 0) (held input keeps : List ℕ) (before now : Option (List ℕ)) : Type 0 where
  pub commands : List Command
  pub lines : (rest : List ℕ) → commands_from held (input ++ rest) ≡ commands ++ commands_from keeps rest
  pub breaks : BreaksOff it most old system holds commands before now
  pub all : breaks.more ≡ []

abbrev pub LeadsTo : {S : Type 0} (it : Behaviour S) → ℕ → Moment S → Moment S → Option (List ℕ) → List ℕ → List ℕ → List ℕ → Type 0
LeadsTo it most start now taken held input keeps =
    (saved : Image) → IsAhead it most (state start.system saved) now.system (Carries it start now saved) held input keeps start.taken taken

-- where a sink takes a proper prefix of what waits, a reply broke off
abbrev pub MayBreakOff : {S : Type 0} (it : Behaviour S) → ℕ → Moment S → Moment S → List ℕ → List ℕ → List ℕ → List ℕ → Type 0
MayBreakOff it most start now waits held input keeps = (taken : Option (List ℕ)) → TakesPart waits now.taken taken → LeadsTo it most start now taken held input keeps

-- Lines of an input were served, whose last replies wait.
pub record Waits {S : Type 0} (it : Behaviour S) (start : Moment S) (most : ℕ) (held input keeps waits : List ℕ) (now : Moment S) : Type 0 where
  pub piece : PieceOutcome it None most held input keeps start (record now { taken = with_waiting now.taken waits })
  pub may : MayBreakOff it most start now waits held input keeps
  pub few : most ≡ 0 → waits ≡ []

not_part : (waits : List ℕ) (t u : Option (List ℕ)) → waits ≡ [] → TakesPart waits t u → ⊥
not_part waits t u none part = omega (arith, part.1, ap length none)

pub waits_nothing : {S : Type 0} (it : Behaviour S) (start : Moment S) (most : ℕ) (held waits : List ℕ) → waits ≡ [] → PieceOutcome it None most held [] held start start → Waits it start most held [] held waits start
waits_nothing it start most held waits none piece = record {
  piece = rw (none, with_nothing start.taken) piece;
  may = λ taken part. absurd (not_part waits start.taken taken none part);
  few = λ _. none;
}

-- whatever follows the lines
leads_off : {S : Type 0} (it : Behaviour S) (most : ℕ) (start now : Moment S) (taken : Option (List ℕ)) (held input keeps : List ℕ) → LeadsTo it most start now taken held input keeps → (faults : ℕ) (rest : List ℕ)
    → DoesBreakOff it most start (record now { taken = taken; faults = faults }) (commands_from held (input ++ rest))
leads_off it most start now taken held input keeps leads faults rest saved =
    let ahead = leads saved in
    rw (ahead.lines rest) (breaks_later it most _ _ _ ahead.commands (commands_from keeps rest) _ _ ahead.breaks)

module _ {S : Type 0} (it : Behaviour S) (start : Moment S) (most : ℕ) (held input middle a : List ℕ) (now : Moment S) (one : Waits it start most held input middle a now) where
  module _ (new : Moment S) (done : AwaitsReply it (command_of middle) a now new) where
    -- the reply of the next line breaks off
    leads_new : (n : ℕ) (taken : Option (List ℕ)) → n < length (reply_text done.reply) → Appends (with_waiting now.taken a) taken (take n (reply_text done.reply)) → LeadsTo it most start new taken held (input ++ 10 ∷ []) []
    leads_new n taken low took saved =
        let first = one.piece.whole refl saved in
        let acts = done.does first.after in
        record {
          commands = first.commands ++ command_of middle ∷ [];
          lines = λ rest. rw (append_assoc input (10 ∷ []) rest) (first.lines (10 ∷ rest) ∙ ap (λ cs. first.commands ++ cs) (commands_at_newline middle rest) ∙ sym (append_assoc first.commands (command_of middle ∷ []) (commands_from [] rest)));
          breaks = record {
            prefix = first.commands;
            last = command_of middle;
            ahead = [];
            more = [];
            are = sym (append-nil (first.commands ++ command_of middle ∷ []));
            middle = state now.system first.after;
            replies = first.reported.replies;
            session = first.reported.session;
            reply = done.reply;
            reached = state new.system acts.after;
            line = acts.line;
            unheard = [];
            after = acts.after;
            later = refl;
            unsynced = All-nil _;
            alone = λ _. refl;
            file = λ name file. acts.file name (first.file name file);
            count = n;
            proper = low;
            taken = Appends-trans start.taken (with_waiting now.taken a) taken _ _ first.reported.taken took;
          };
          all = refl;
        }

    -- .. or one before it, after which no sync follows
    leads_old : (taken : Option (List ℕ)) → ¬ (command_of middle ≡ sync) → TakesPart a now.taken taken → LeadsTo it most start new taken held (input ++ 10 ∷ []) []
    leads_old taken other part saved =
        let old = one.may taken part saved in
        let broken = old.breaks in
        let acts = done.does broken.after in
        record {
          commands = old.commands ++ command_of middle ∷ [];
          lines = λ rest. rw (append_assoc input (10 ∷ []) rest) (old.lines (10 ∷ rest) ∙ ap (λ cs. old.commands ++ cs) (commands_at_newline middle rest) ∙ sym (append_assoc old.commands (command_of middle ∷ []) (commands_from [] rest)));
          breaks = record {
            prefix = broken.prefix;
            last = broken.last;
            ahead = broken.ahead ++ command_of middle ∷ [];
            more = [];
            are = ap (λ cs. cs ++ command_of middle ∷ []) (broken.are ∙ ap (λ cs. (broken.prefix ++ broken.last ∷ broken.ahead) ++ cs) old.all ∙ append-nil (broken.prefix ++ broken.last ∷ broken.ahead))
                ∙ append_assoc broken.prefix (broken.last ∷ broken.ahead) (command_of middle ∷ []) ∙ sym (append-nil (broken.prefix ++ broken.last ∷ (broken.ahead ++ command_of middle ∷ [])));
            middle = broken.middle;
            replies = broken.replies;
            session = broken.session;
            reply = broken.reply;
            reached = broken.reached;
            line = broken.line;
            unheard = broken.unheard ++ done.reply ∷ [];
            after = acts.after;
            later = session_append it broken.reached (state now.system broken.after) (state new.system acts.after) broken.ahead (command_of middle ∷ []) broken.unheard (done.reply ∷ []) broken.later (state new.system acts.after, acts.line, refl);
            unsynced = All-append (λ command. ¬ (command ≡ sync)) broken.ahead (command_of middle ∷ []) broken.unsynced (All-cons (λ command. ¬ (command ≡ sync)) (command_of middle) [] other (All-nil (λ command. ¬ (command ≡ sync))));
            alone = λ none. absurd (not_part a now.taken taken (one.few none) part);
            file = λ name file. acts.file name (broken.file name file);
            count = broken.count;
            proper = broken.proper;
            taken = broken.taken;
          };
          all = refl;
        }

    -- after what still waits
    leads_after : (taken : Option (List ℕ)) → ¬ (command_of middle ≡ sync) → TakesPart (a ++ reply_text done.reply) now.taken taken → LeadsTo it most start new taken held (input ++ 10 ∷ []) []
    leads_after taken other part = go (nat_lt part.0 (length a)) refl
      where
        go : (early : Bool) → nat_lt part.0 (length a) ≡ early → LeadsTo it most start new taken held (input ++ 10 ∷ []) []
        go true e =
            let low = ltb-true part.0 (length a) e in
            leads_old taken other (part.0, low, rw (take-append-le part.0 a (reply_text done.reply) (omega (arith, low))) at part.2)
        go false e =
            let high = ltb-false part.0 (length a) e in
            let n = part.0 - length a in
            let whole : part.0 ≡ length a + n = omega (arith, high) in
            let split : take part.0 (a ++ reply_text done.reply) ≡ a ++ take n (reply_text done.reply) = ap (λ m. take m (a ++ reply_text done.reply)) whole ∙ take-append-add a (reply_text done.reply) n in
            leads_new n taken (omega (arith, high, part.1, length-append a (reply_text done.reply)))
            (taken_after (take n (reply_text done.reply)) a now.taken taken (subst (λ (l : List ℕ). Appends now.taken taken l) split part.2))

    leads_part : (taken : Option (List ℕ)) → TakesPart (done.waits ++ reply_text done.reply) done.taken taken → LeadsTo it most start new taken held (input ++ 10 ∷ []) []
    leads_part taken part = go done.clears
      where
        go : Clears (command_of middle) a done.waits now.taken done.taken now.files new.files → LeadsTo it most start new taken held (input ++ 10 ∷ []) []
        go (inl same) =
            let here : TakesPart (done.waits ++ reply_text done.reply) now.taken taken = subst (λ (t : Option (List ℕ)). TakesPart (done.waits ++ reply_text done.reply) t taken) same.2 part in
            leads_after taken same.0 (subst (λ (l : List ℕ). TakesPart (l ++ reply_text done.reply) now.taken taken) same.1 here)
        go (inr sent) =
            let here : TakesPart (reply_text done.reply) done.taken taken = subst (λ (l : List ℕ). TakesPart (l ++ reply_text done.reply) done.taken taken) sent.0 part in
            leads_new here.0 taken here.1 (Appends-trans (with_waiting now.taken a) done.taken taken [] _ (handed_after a now.taken done.taken sent.1) here.2)

  -- ---- the next line

  module _ (new : Moment S) where
    keeps_on : (ended : Option Broken) → Keeps it ended now new → Keeps it ended start new
    keeps_on ended keeps = record {
      size = keeps.size ∙ one.piece.keeps_files.size;
      capacity = keeps.capacity ∙ one.piece.keeps_files.capacity;
      attached = stays_attached _ _ _ one.piece.keeps_files.attached keeps.attached;
      others = others_then start.files now.files new.files one.piece.keeps_files.attached one.piece.keeps_files.others keeps.others;
      flushed = λ other e. keeps.flushed other (one.piece.keeps_files.flushed (λ z. cc) e);
    }

    first_on : (ended : Option Broken) → IsFirstFault ended false (counts 0 now.faults now.files) (counts 0 new.faults new.files) → IsFirstFault ended false (counts 0 start.faults start.files) (counts 0 new.faults new.files)
    first_on ended first = first_after ended _ (counts 0 now.faults now.files) _ one.piece.first first

    -- its reply waits
    pub line_waits : (b : List ℕ) → (most ≡ 0 → b ≡ []) → LineGathers it None (command_of middle) a b now new → Waits it start most held (input ++ 10 ∷ []) [] b new
    line_waits b few line =
        let answered = line.whole refl in
        record {
          piece =
              piece_then it most held input middle start (record now { taken = with_waiting now.taken a }) (record new { taken = with_waiting new.taken b }) one.piece None (10 ∷ []) []
              (piece_newline it None most middle _ _
              (line_whole it _ _ _
              (λ saved. serves_one it _ _ _ _ _ _ _ (answered.done.does saved) (added (command_of middle) (reply_text answered.done.reply) a b answered.done.waits now.taken answered.done.taken new.taken now.files new.files answered.done.clears answered.passes))
              (record { size = line.keeps.size; capacity = line.keeps.capacity; attached = line.keeps.attached; others = line.keeps.others; flushed = line.keeps.flushed })
              (line.first.no_sink refl (λ e. cc)) (line.first.no_files (λ e. cc))));
          may = λ taken part. leads_part new answered.done taken (passed_part (reply_text answered.done.reply) answered.done.waits b answered.done.taken new.taken taken answered.passes part);
          few = few;
        }

    broken_off : (b : List ℕ) → LineGathers it (Some cause.Sink) (command_of middle) a b now new → (rest : List ℕ) → DoesBreakOff it most start new (commands_from held ((input ++ 10 ∷ []) ++ rest))
    broken_off b line rest = go (line.broken refl)
      where
        go : IsUnreported it (command_of middle) a now new ⊎ IsUnheard a now new → DoesBreakOff it most start new (commands_from held ((input ++ 10 ∷ []) ++ rest))
        go (inl unreported) = leads_off it most start new new.taken held (input ++ 10 ∷ []) [] (leads_part new unreported.done new.taken unreported.part) new.faults rest
        go (inr unheard) =
            subst (λ (m : Moment S). DoesBreakOff it most start m (commands_from held ((input ++ 10 ∷ []) ++ rest))) (sym unheard.same)
            (rw (append_assoc input (10 ∷ []) rest) (leads_off it most start now new.taken held input middle (one.may new.taken unheard.part) new.faults (10 ∷ rest)))

    broken_ends : (b keeps : List ℕ) → LineGathers it (Some cause.Sink) (command_of middle) a b now new → PieceOutcome it (Some cause.Sink) most held (input ++ 10 ∷ []) keeps start new
    broken_ends b keeps line = record {
      whole = λ e. absurd cc;
      broken = λ _. broken_off b line;
      stopped = λ e. absurd cc;
      keeps_files = keeps_on (Some cause.Sink) line.keeps;
      first = first_on (Some cause.Sink) line.first;
      one_of = inr (inl refl);
    }

    stop_ends : (b keeps : List ℕ) → LineGathers it (Some cause.Files) (command_of middle) a b now new → PieceOutcome it (Some cause.Files) most held (input ++ 10 ∷ []) keeps start new
    stop_ends b keeps line =
        let unsaved = line.stopped refl in
        let following : Moment S = record now { taken = with_waiting now.taken a } in
        record {
          whole = λ e. absurd cc;
          broken = λ e. absurd cc;
          stopped = λ _ rest. rw (append_assoc input (10 ∷ []) rest) (stops_after it most held input middle start following new one.piece (10 ∷ rest) (record {
            stops = λ saved. rw (commands_at_newline middle rest) (stops_handed it _ _ _ (command_of middle) (commands_from [] rest) _ _ (unsaved.fails.fails saved) (handed_after a now.taken new.taken unsaved.taken));
            lost = unsaved.fails.lost;
          }));
          keeps_files = keeps_on (Some cause.Files) line.keeps;
          first = first_on (Some cause.Files) line.first;
          one_of = inr (inr refl);
        }

    -- a fault ends it
    pub line_ends : (ended : Option Broken) (b keeps : List ℕ) → ¬ (ended ≡ None) → LineGathers it ended (command_of middle) a b now new → PieceOutcome it ended most held (input ++ 10 ∷ []) keeps start new
    line_ends ended b keeps other line = go line.one_of
      where
        go : (ended ≡ None) ⊎ (ended ≡ Some cause.Sink) ⊎ (ended ≡ Some cause.Files) → PieceOutcome it ended most held (input ++ 10 ∷ []) keeps start new
        go (inl e) = absurd (other e)
        go (inr (inl e)) = rw e (broken_ends b keeps (rw e at line))
        go (inr (inr e)) = rw e (stop_ends b keeps (rw e at line))

  -- ---- what follows

  -- input that ends no line
  pub waits_run : (run kept : List ℕ) → ((rest : List ℕ) → commands_from middle (run ++ rest) ≡ commands_from kept rest) → Waits it start most held (input ++ run) kept a now
  waits_run run kept same = record {
    piece = piece_then it most held input middle _ _ _ one.piece None run kept (piece_quiet it most _ middle run kept same);
    may = λ taken part saved.
        let old = one.may taken part saved in
        record {
          commands = old.commands;
          lines = λ rest. rw (append_assoc input run rest) (old.lines (run ++ rest) ∙ ap (λ cs. old.commands ++ cs) (same rest));
          breaks = old.breaks;
          all = old.all;
        };
    few = one.few;
  }

  -- what waits is handed over
  pub waits_handed : (taken : Option (List ℕ)) → Appends now.taken taken a → PieceOutcome it None most held input middle start (record now { taken = taken })
  waits_handed taken took =
      subst (λ (l : List ℕ). PieceOutcome it None most held l middle start (record now { taken = taken })) (append-nil input)
      (piece_then it most held input middle _ _ _ one.piece None [] middle (piece_handed it most middle (record now { taken = with_waiting now.taken a }) taken (handed_after a now.taken taken took)))

  -- .. or the sink fails
  pub waits_broken : (taken : Option (List ℕ)) (faults : ℕ) (keeps : List ℕ) → TakesPart a now.taken taken → Rose now.faults faults → PieceOutcome it (Some cause.Sink) most held input keeps start (record now { taken = taken; faults = faults })
  waits_broken taken faults keeps part rose = record {
    whole = λ e. absurd cc;
    broken = λ _ rest. leads_off it most start now taken held input middle (one.may taken part) faults rest;
    stopped = λ e. absurd cc;
    keeps_files = record { size = one.piece.keeps_files.size; capacity = one.piece.keeps_files.capacity; attached = one.piece.keeps_files.attached; others = one.piece.keeps_files.others; flushed = λ _. one.piece.keeps_files.flushed (λ z. cc) };
    first = first_after (Some cause.Sink) _ (counts 0 now.faults now.files) _ one.piece.first (sink_fault _ _ refl rose refl);
    one_of = inr (inl refl);
  }

-- ---- what a line came to

module _ {S : Type 0} (it : Behaviour S) (command : Command) (a b : List ℕ) (old new : Moment S) (size : length (it.memory new.system).base ≡ length (it.memory old.system).base) (capacity : (it.memory new.system).capacity ≡ (it.memory old.system).capacity) (attached : StaysAttached old.files new.files) (others : KeepsOthers old.files new.files) where
  pub line_reported : (flushed : old.files.is_flushed ≡ true → new.files.is_flushed ≡ true) (done : AwaitsReply it command a old new) → PassesOn (reply_text done.reply) done.waits b done.taken new.taken
      → new.faults ≡ old.faults → new.files.faults ≡ old.files.faults → LineGathers it None command a b old new
  line_reported flushed done passes sink files = record {
    whole = λ _. record { done = done; passes = passes };
    broken = λ e. absurd cc;
    stopped = λ e. absurd cc;
    keeps = record { size = size; capacity = capacity; attached = attached; others = others; flushed = λ _. flushed };
    first = quiet false _ _ refl sink files;
    one_of = inl refl;
  }

  line_broken_off : (flushed : old.files.is_flushed ≡ true → new.files.is_flushed ≡ true) → IsUnreported it command a old new ⊎ IsUnheard a old new → Rose old.faults new.faults → new.files.faults ≡ old.files.faults → LineGathers it (Some cause.Sink) command a b old new
  line_broken_off flushed broken rose files = record {
    whole = λ e. absurd cc;
    broken = λ _. broken;
    stopped = λ e. absurd cc;
    keeps = record { size = size; capacity = capacity; attached = attached; others = others; flushed = λ _. flushed };
    first = sink_fault _ _ refl rose files;
    one_of = inr (inl refl);
  }

  pub line_unreported : (flushed : old.files.is_flushed ≡ true → new.files.is_flushed ≡ true) (done : AwaitsReply it command a old new) → TakesPart (done.waits ++ reply_text done.reply) done.taken new.taken
      → Rose old.faults new.faults → new.files.faults ≡ old.files.faults → LineGathers it (Some cause.Sink) command a b old new
  line_unreported flushed done part = line_broken_off flushed (inl (record { done = done; part = part }))

  pub line_unheard : TakesPart a old.taken new.taken → new ≡ record old { taken = new.taken; faults = new.faults } → Rose old.faults new.faults → LineGathers it (Some cause.Sink) command a b old new
  line_unheard part same rose =
      line_broken_off (λ e. ap (λ (m : Moment S). m.files.is_flushed) same ∙ e) (inr (record { part = part; same = same })) rose (ap (λ (m : Moment S). m.files.faults) same)

  pub line_unsaved : FailsLine it old command new → Appends old.taken new.taken a → new.faults ≡ old.faults → Rose old.files.faults new.files.faults → LineGathers it (Some cause.Files) command a b old new
  line_unsaved fails took sink rose = record {
    whole = λ e. absurd cc;
    broken = λ e. absurd cc;
    stopped = λ _. record { fails = fails; taken = took };
    keeps = record { size = size; capacity = capacity; attached = attached; others = others; flushed = λ no. absurd (no refl) };
    first = files_fault _ _ refl sink rose;
    one_of = inr (inr refl);
  }

-- ---- a line alone

module _ {S : Type 0} (it : Behaviour S) (command : Command) (old new : Moment S) where
  reported_alone : (done : AwaitsReply it command [] old new) (taken : Option (List ℕ)) → TakesPart (done.waits ++ reply_text done.reply) done.taken taken → TakesPart (reply_text done.reply) old.taken taken
  reported_alone done taken part = go done.clears
    where
      go : Clears command [] done.waits old.taken done.taken old.files new.files → TakesPart (reply_text done.reply) old.taken taken
      go (inl same) =
          let here : TakesPart (reply_text done.reply) done.taken taken = subst (λ (l : List ℕ). TakesPart (l ++ reply_text done.reply) done.taken taken) same.1 part in
          subst (λ (t : Option (List ℕ)). TakesPart (reply_text done.reply) t taken) same.2 here
      go (inr sent) =
          let here : TakesPart (reply_text done.reply) done.taken taken = subst (λ (l : List ℕ). TakesPart (l ++ reply_text done.reply) done.taken taken) sent.0 part in
          part_after (reply_text done.reply) [] (reply_text done.reply) old.taken done.taken taken refl sent.1 here

  alone_whole : LineGathers it None command [] [] old new → LineOutcome it None (command ∷ []) old new
  alone_whole line =
      let answered = line.whole refl in
      let reply = reply_text answered.done.reply in
      let took = added command reply [] [] answered.done.waits old.taken answered.done.taken new.taken old.files new.files answered.done.clears answered.passes in
      line_whole it _ _ _ (λ saved. serves_one it _ _ _ _ _ _ _ (answered.done.does saved) (rw (with_nothing old.taken, with_nothing new.taken) at took)) line.keeps (line.first.no_sink refl (λ e. cc)) (line.first.no_files (λ e. cc))

  alone_broken : (b : List ℕ) → LineGathers it (Some cause.Sink) command [] b old new → LineOutcome it (Some cause.Sink) (command ∷ []) old new
  alone_broken b line = go (line.broken refl)
    where
      go : IsUnreported it command [] old new ⊎ IsUnheard [] old new → LineOutcome it (Some cause.Sink) (command ∷ []) old new
      go (inl unreported) =
          let part = reported_alone unreported.done new.taken unreported.part in
          line_broken it _ _ _ (λ saved. breaks_line it _ 0 _ _ _ [] _ part.0 _ _ (unreported.done.does saved) part.1 part.2) line.keeps (line.first.sink refl) (line.first.no_files (λ e. cc))
      go (inr unheard) = absurd (not_part [] old.taken new.taken refl unheard.part)

  alone_stopped : (b : List ℕ) → LineGathers it (Some cause.Files) command [] b old new → LineOutcome it (Some cause.Files) (command ∷ []) old new
  alone_stopped b line =
      let unsaved = line.stopped refl in
      line_stopped it _ _ _ (record { stops = λ saved. stops_handed it _ _ _ _ [] _ _ (unsaved.fails.fails saved) unsaved.taken; lost = unsaved.fails.lost }) line.keeps (line.first.no_sink refl (λ e. cc)) (line.first.files refl)

  pub line_alone : (ended : Option Broken) (b : List ℕ) → (ended ≡ None → b ≡ []) → LineGathers it ended command [] b old new → LineOutcome it ended (command ∷ []) old new
  line_alone ended b none line = go line.one_of
    where
      go : (ended ≡ None) ⊎ (ended ≡ Some cause.Sink) ⊎ (ended ≡ Some cause.Files) → LineOutcome it ended (command ∷ []) old new
      go (inl e) = rw e (alone_whole (rw (e, none e) at line))
      go (inr (inl e)) = rw e (alone_broken b (rw e at line))
      go (inr (inr e)) = rw e (alone_stopped b (rw e at line))

-- ---- what is taken of a file

-- a moment at which any block may lack words
forgets : {S : Type 0} (it : Behaviour S) (old new : Moment S) (saved image : Image) → Carries it old new saved image → Carries it old (record new { dirty = [] }) saved image
forgets it old new saved image carried name held = holds_lost [] new.files (it.memory new.system).base name image (λ i. refl) (carried name held).file

pub line_forgets : {S : Type 0} (it : Behaviour S) (ended : Option Broken) (commands : List Command) (old new : Moment S) → LineOutcome it ended commands old new → LineOutcome it ended commands old (record new { dirty = [] })
line_forgets it ended commands old new line = record {
  whole = λ e saved. all_as it _ _ _ _ _ _ (forgets it old new saved) _ (line.whole e saved);
  broken = λ e saved. breaks_as it _ _ _ _ _ _ (forgets it old new saved) 0 0 _ (λ z. z) (line.broken e saved);
  stopped = λ e. record { stops = (line.stopped e).stops; lost = λ i. refl };
  keeps = record { size = line.keeps.size; capacity = line.keeps.capacity; attached = line.keeps.attached; others = line.keeps.others; flushed = line.keeps.flushed };
  first = line.first;
  one_of = line.one_of;
}

pub serve_forgets : {S : Type 0} (it : Behaviour S) (ended : Option Broken) (most : ℕ) (before after : SourceView) (old new : Moment S) → ServeOutcome it ended most before after old new → ServeOutcome it ended most before after old (record new { dirty = [] })
serve_forgets it ended most before after old new served = record {
  whole = λ e. let all = served.whole e in (all.0, all.1, all.2, all.3, λ saved. all_as it _ _ _ _ _ _ (forgets it old new saved) _ (all.4 saved));
  part = λ e. let part = served.part e in (part.0, part.1, part.2, λ saved. serves_as it _ _ _ _ _ _ (forgets it old new saved) _ _ _ (part.3 saved));
  long = λ e.
      let long = served.long e in
      (long.0, long.1, long.2, long.3, long.4, long.5, long.6, λ saved. serves_as it _ _ _ _ _ _ (forgets it old new saved) _ _ _ (long.7 saved));
  broken = λ e.
      let broken = served.broken e in (
        broken.0,
        broken.1,
        elim broken.2 [
          | inl all ↦ inl (λ rest saved. breaks_as it _ _ _ _ _ _ (forgets it old new saved) most most _ (λ z. z) (all rest saved))
          | inr last ↦ inr (last.0, λ saved. breaks_as it _ _ _ _ _ _ (forgets it old new saved) most most _ (λ z. z) (last.1 saved))
        ],
      );
  stopped = λ e.
      let stopped = served.stopped e in (
        stopped.0,
        stopped.1,
        elim stopped.2 [
          | inl all ↦ inl (λ rest. record { stops = (all rest).stops; lost = λ i. refl })
          | inr last ↦ inr (last.0, record { stops = last.1.stops; lost = λ i. refl })
        ],
      );
  keeps = record { size = served.keeps.size; capacity = served.keeps.capacity; attached = served.keeps.attached; others = served.keeps.others; flushed = served.keeps.flushed };
  first = served.first;
  complete = served.complete;
}
