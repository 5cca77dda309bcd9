-- Outcomes of serving, from line to line and piece to piece.
use Rattle.std.proofs.Common.{refl, sym, ◌∙◌, subst, ◌≡◌, ◌≤◌, ℕ, Bool, true, false, true≢false, List, [], ◌∷◌, ◌++◌, length, inl, inr}
use Rattle.std.proofs.lemmas.List.{append_assoc, append-nil}
use Rattle.std.specs.Prelude.{◌⊎◌, Err, None, Ok, OnOk, Option, Result, Some}
use Rattle.std.specs.Io.KnownBytes.{Consumes, IsAtEnd}
use Rattle.bp_fs.specs.Behaviour.{Behaviour}
use Rattle.bp_io.specs.Causes.{Rose}
use Rattle.bp_io.specs.Views.{SourceView}
use Rattle.bp_script.specs.Commands.{Command, command_of}
use Rattle.bp_session.specs.Ends.{cause_of}
use Rattle.bp_session.specs.Lines.{commands_from}
use Rattle.bp_session.specs.Outside.{Faults, counts}
use Rattle.bp_session.specs.Faults.{IsFirstFault}
use Rattle.bp_layout.specs.Words.{Image}
use Rattle.bp_session.specs.Serving.{Carries, CarriesPartly, DoesAll, DoesBreakOff, DoesStop, Keeps, LineOutcome, Moment, PieceOutcome, ServeOutcome}
use Rattle.bp_session.specs.declared.broken.Broken.{Broken}
use Rattle.bp_session.specs.declared.broken.Broken.TheVariants as cause
use Rattle.bp_session.proofs.OthersLaws.{others_same, others_then}
use Rattle.bp_session.proofs.SavingLaws.{stays_attached, still_attached}
use Rattle.bp_session.proofs.ServingLaws.{all_as, breaks_as, breaks_later, breaks_in, commands_at_newline, commands_of_nothing, not_long, serves_as, serves_newline, serves_quietly, serves_then, serves_to_end, stops_as, stops_later, stops_in, reported_none}

-- ---- how serving ends

pub never_whole : (broken : Broken) → ¬ (◌≡◌ {A = Option Broken} (Some broken) None)
never_whole broken e = cc

pub where_whole : {T P : Type 0} (served : Result T Broken) → OnOk served P → cause_of served ≡ None → P
where_whole (Ok value) holds e = holds
where_whole (Err broken) holds e = absurd (never_whole broken e)

-- ---- faults

pub no_fault : (ended : Option Broken) (prints_line : Bool) (a b : Faults) → ¬ (ended ≡ Some cause.Source) → ¬ (ended ≡ Some cause.Sink) → ¬ (ended ≡ Some cause.Files) → b.source ≡ a.source → b.sink ≡ a.sink → b.files ≡ a.files → IsFirstFault ended prints_line a b
no_fault ended prints_line a b no_source no_sink no_files source sink files = record {
  source = λ e. absurd (no_source e);
  sink = λ e. absurd (no_sink e);
  files = λ e. absurd (no_files e);
  no_source = λ _. source;
  no_sink = λ _ _. sink;
  no_files = λ _. files;
}

pub quiet : (prints_line : Bool) (a b : Faults) → b.source ≡ a.source → b.sink ≡ a.sink → b.files ≡ a.files → IsFirstFault None prints_line a b
quiet prints_line a b source sink files = no_fault None prints_line a b (λ e. cc) (λ e. cc) (λ e. cc) source sink files

pub source_fault : (a b : Faults) → Rose a.source b.source → b.sink ≡ a.sink → b.files ≡ a.files → IsFirstFault (Some cause.Source) false a b
source_fault a b rose sink files = record {
  source = λ _. rose;
  sink = λ e. absurd cc;
  files = λ e. absurd cc;
  no_source = λ other. absurd (other refl);
  no_sink = λ _ _. sink;
  no_files = λ _. files;
}

pub sink_fault : (a b : Faults) → b.source ≡ a.source → Rose a.sink b.sink → b.files ≡ a.files → IsFirstFault (Some cause.Sink) false a b
sink_fault a b source rose files = record {
  source = λ e. absurd cc;
  sink = λ _. rose;
  files = λ e. absurd cc;
  no_source = λ _. source;
  no_sink = λ _ other. absurd (other refl);
  no_files = λ _. files;
}

pub files_fault : (a b : Faults) → b.source ≡ a.source → b.sink ≡ a.sink → Rose a.files b.files → IsFirstFault (Some cause.Files) false a b
files_fault a b source sink rose = record {
  source = λ e. absurd cc;
  sink = λ e. absurd cc;
  files = λ _. rose;
  no_source = λ _. source;
  no_sink = λ _ _. sink;
  no_files = λ other. absurd (other refl);
}

-- a line was stated at the end, as which the sink may have failed
pub line_fault : (a b : Faults) → b.source ≡ a.source → b.files ≡ a.files → IsFirstFault None true a b
line_fault a b source files = record {
  source = λ e. absurd cc;
  sink = λ e. absurd cc;
  files = λ e. absurd cc;
  no_source = λ _. source;
  no_sink = λ e _. absurd (true≢false e);
  no_files = λ _. files;
}

from_same : (a b c : ℕ) → b ≡ a → Rose b c → Rose a c
from_same a b c e rose = subst (λ (n : ℕ). Rose n c) e rose

pub first_then : (ended : Option Broken) (a b c : Faults) → b.source ≡ a.source → b.sink ≡ a.sink → b.files ≡ a.files → IsFirstFault ended false b c → IsFirstFault ended false a c
first_then ended a b c source sink files next = record {
  source = λ e. from_same a.source b.source c.source source (next.source e);
  sink = λ e. from_same a.sink b.sink c.sink sink (next.sink e);
  files = λ e. from_same a.files b.files c.files files (next.files e);
  no_source = λ other. next.no_source other ∙ source;
  no_sink = λ reported other. next.no_sink reported other ∙ sink;
  no_files = λ other. next.no_files other ∙ files;
}

-- what follows where all was served
pub first_after : (ended : Option Broken) (a b c : Faults) → IsFirstFault None false a b → IsFirstFault ended false b c → IsFirstFault ended false a c
first_after ended a b c one next = first_then ended a b c (one.no_source (λ e. cc)) (one.no_sink refl (λ e. cc)) (one.no_files (λ e. cc)) next

-- a source that didn't fail
pub first_with_source : (ended : Option Broken) (s t : ℕ) (a b : Faults) → ¬ (ended ≡ Some cause.Source) → t ≡ s → IsFirstFault ended false a b →
    IsFirstFault ended false (record { source = s; sink = a.sink; files = a.files }) (record { source = t; sink = b.sink; files = b.files })
first_with_source ended s t a b other same first = record {
  source = λ e. absurd (other e);
  sink = first.sink;
  files = first.files;
  no_source = λ _. same;
  no_sink = first.no_sink;
  no_files = first.no_files;
}

-- ---- what is kept

pub keeps_all : {S : Type 0} (it : Behaviour S) (a : Moment S) → Keeps it None a a
keeps_all it a = record { size = refl; capacity = refl; attached = still_attached a.files; others = others_same a.files; flushed = λ _ e. e }

pub keeps_then : {S : Type 0} (it : Behaviour S) (ended : Option Broken) (a b c : Moment S) → Keeps it None a b → Keeps it ended b c → Keeps it ended a c
keeps_then it ended a b c one two = record {
  size = two.size ∙ one.size;
  capacity = two.capacity ∙ one.capacity;
  attached = stays_attached _ _ _ one.attached two.attached;
  others = others_then a.files b.files c.files one.attached one.others two.others;
  flushed = λ other e. two.flushed other (one.flushed (λ z. cc) e);
}

-- ---- a line

pub line_whole : {S : Type 0} (it : Behaviour S) (commands : List Command) (a b : Moment S) → DoesAll it a b commands → Keeps it None a b → b.faults ≡ a.faults → b.files.faults ≡ a.files.faults → LineOutcome it None commands a b
line_whole it commands a b all keeps sink files = record {
  whole = λ _. all;
  broken = λ e. absurd cc;
  stopped = λ e. absurd cc;
  keeps = keeps;
  first = quiet false _ _ refl sink files;
  one_of = inl refl;
}

pub line_broken : {S : Type 0} (it : Behaviour S) (commands : List Command) (a b : Moment S) → DoesBreakOff it 0 a b commands → Keeps it (Some cause.Sink) a b → Rose a.faults b.faults → b.files.faults ≡ a.files.faults → LineOutcome it (Some cause.Sink) commands a b
line_broken it commands a b broken keeps rose files = record {
  whole = λ e. absurd cc;
  broken = λ _. broken;
  stopped = λ e. absurd cc;
  keeps = keeps;
  first = sink_fault _ _ refl rose files;
  one_of = inr (inl refl);
}

pub line_stopped : {S : Type 0} (it : Behaviour S) (commands : List Command) (a b : Moment S) → DoesStop it a b commands → Keeps it (Some cause.Files) a b → b.faults ≡ a.faults → Rose a.files.faults b.files.faults → LineOutcome it (Some cause.Files) commands a b
line_stopped it commands a b stop keeps sink rose = record {
  whole = λ e. absurd cc;
  broken = λ e. absurd cc;
  stopped = λ _. stop;
  keeps = keeps;
  first = files_fault _ _ refl sink rose;
  one_of = inr (inr refl);
}

pub line_nothing : {S : Type 0} (it : Behaviour S) (a : Moment S) → LineOutcome it None (commands_from [] []) a a
line_nothing it a = rw commands_of_nothing (line_whole it [] a a (λ saved. record { after = saved; file = λ name held. held; reported = reported_none it _ _ }) (keeps_all it a) refl refl)

-- ---- a piece

pub piece_quiet : {S : Type 0} (it : Behaviour S) (most : ℕ) (a : Moment S) (held i keeps : List ℕ) → ((rest : List ℕ) → commands_from held (i ++ rest) ≡ commands_from keeps rest) → PieceOutcome it None most held i keeps a a
piece_quiet it most a held i keeps same = record {
  whole = λ _ saved. serves_quietly it _ _ saved _ _ _ _ (λ name held. held) same;
  broken = λ e. absurd cc;
  stopped = λ e. absurd cc;
  keeps_files = keeps_all it a;
  first = quiet false _ _ refl refl refl;
  one_of = inl refl;
}

pub piece_nothing : {S : Type 0} (it : Behaviour S) (most : ℕ) (a : Moment S) (held : List ℕ) → PieceOutcome it None most held [] held a a
piece_nothing it most a held = piece_quiet it most a held [] held (λ rest. refl)

pub piece_newline : {S : Type 0} (it : Behaviour S) (ended : Option Broken) (most : ℕ) (held : List ℕ) (a b : Moment S) → LineOutcome it ended (command_of held ∷ []) a b → PieceOutcome it ended most held (10 ∷ []) [] a b
piece_newline it ended most held a b line = record {
  whole = λ e saved. serves_newline it _ _ _ _ _ _ (line.whole e saved);
  broken = λ e rest saved. rw (commands_at_newline held rest) (breaks_later it _ _ _ _ _ (commands_from [] rest) _ _ (breaks_as it _ _ _ _ _ _ (λ image held. held) 0 most _ (λ _. refl) (line.broken e saved)));
  stopped = λ e rest. record {
    stops = λ saved. rw (commands_at_newline held rest) (stops_later it _ _ _ _ (commands_from [] rest) _ _ ((line.stopped e).stops saved));
    lost = (line.stopped e).lost;
  };
  keeps_files = line.keeps;
  first = line.first;
  one_of = line.one_of;
}

-- what is held of a file from one moment on
pub carries_on : {S : Type 0} (it : Behaviour S) (a b c : Moment S) (saved after : Image) → Carries it a b saved after → (image : Image) → Carries it b c after image → Carries it a c saved image
carries_on it a b c saved after one image two name held = two name (one name held)

pub carries_on_partly : {S : Type 0} (it : Behaviour S) (a b c : Moment S) (saved after : Image) → Carries it a b saved after → (first second : Image) → CarriesPartly it b c after first second → CarriesPartly it a c saved first second
carries_on_partly it a b c saved after one first second two name held = two name (one name held)

module _ {S : Type 0} (it : Behaviour S) (most : ℕ) (held i middle : List ℕ) (a b c : Moment S) (one : PieceOutcome it None most held i middle a b) where
  -- what follows a piece that was served, up to a reply that broke off ..
  pub breaks_after : (j : List ℕ) → DoesBreakOff it most b c (commands_from middle j) → DoesBreakOff it most a c (commands_from held (i ++ j))
  breaks_after j broken saved =
      let first = one.whole refl saved in
      breaks_in it _ _ _ _ _ _ _ _ _ first _ _ _ j (breaks_as it _ _ _ _ _ _ (carries_on it a b c saved first.after first.file) _ _ _ (λ e. e) (broken first.after))

  -- .. or to a sync that couldn't save
  pub stops_after : (j : List ℕ) → DoesStop it b c (commands_from middle j) → DoesStop it a c (commands_from held (i ++ j))
  stops_after j stopped = record {
    stops = λ saved.
        let first = one.whole refl saved in
        stops_in it _ _ _ _ _ _ _ _ _ first _ _ j (stops_as it _ _ _ _ _ _ (carries_on_partly it a b c saved first.after first.file) _ (stopped.stops first.after));
    lost = stopped.lost;
  }

  pub all_after : (j : List ℕ) → DoesAll it b c (commands_from middle j) → DoesAll it a c (commands_from held (i ++ j))
  all_after j all saved =
      let first = one.whole refl saved in
      serves_to_end it _ _ _ _ _ _ _ _ _ first _ _ j (all_as it _ _ _ _ _ _ (carries_on it a b c saved first.after first.file) _ (all first.after))

  pub piece_then : (ended : Option Broken) (j keeps : List ℕ) → PieceOutcome it ended most middle j keeps b c → PieceOutcome it ended most held (i ++ j) keeps a c
  piece_then ended j keeps two = record {
    whole = λ e saved.
        let first = one.whole refl saved in
        serves_then it _ _ _ _ _ _ _ _ _ _ _ _ _ first (serves_as it _ _ _ _ _ _ (carries_on it a b c saved first.after first.file) _ _ _ (two.whole e first.after));
    broken = λ e rest. rw (append_assoc i j rest) (breaks_after (j ++ rest) (two.broken e rest));
    stopped = λ e rest. rw (append_assoc i j rest) (stops_after (j ++ rest) (two.stopped e rest));
    keeps_files = keeps_then it ended a b c one.keeps_files two.keeps_files;
    first = first_after ended _ _ _ one.first two.first;
    one_of = two.one_of;
  }

-- what comes after a fault doesn't matter
pub piece_stops : {S : Type 0} (it : Behaviour S) (ended : Option Broken) (most : ℕ) (held i j keeps more : List ℕ) (a b : Moment S) → ¬ (ended ≡ None) → PieceOutcome it ended most held i keeps a b → PieceOutcome it ended most held (i ++ j) more a b
piece_stops it ended most held i j keeps more a b other one = record {
  whole = λ e. absurd (other e);
  broken = λ e rest. rw (append_assoc i j rest) (one.broken e (j ++ rest));
  stopped = λ e rest. rw (append_assoc i j rest) (one.stopped e (j ++ rest));
  keeps_files = one.keeps_files;
  first = one.first;
  one_of = one.one_of;
}

-- ---- a source

module _ {S : Type 0} (it : Behaviour S) (most : ℕ) (before after : SourceView) (a b : Moment S) where
  -- the source failed
  pub serve_part : (input keeps : List ℕ) → Consumes before.left after.left input → PieceOutcome it None most [] input keeps a b → Rose before.faults after.faults → ServeOutcome it (Some cause.Source) most before after a b
  serve_part input keeps read part rose = record {
    whole = λ e. absurd cc;
    part = λ _. (input, keeps, read, part.whole refl);
    long = λ e. absurd cc;
    broken = λ e. absurd cc;
    stopped = λ e. absurd cc;
    keeps = record { size = part.keeps_files.size; capacity = part.keeps_files.capacity; attached = part.keeps_files.attached; others = part.keeps_files.others; flushed = λ _. part.keeps_files.flushed (λ e. cc) };
    first = source_fault _ _ rose (part.first.no_sink refl (λ e. cc)) (part.first.no_files (λ e. cc));
    complete = λ all reported few calm quiet still. absurd (calm rose);
  }

  -- there was more than the most bytes
  pub serve_long : (input more keeps : List ℕ) → Consumes before.left after.left (input ++ more) → length input ≡ 1073741824 → 1 ≤ length more → length more ≤ 65536
      → PieceOutcome it None most [] input keeps a b → after.faults ≡ before.faults → ServeOutcome it (Some cause.LongInput) most before after a b
  serve_long input more keeps read most some few part same = record {
    whole = λ e. absurd cc;
    part = λ e. absurd cc;
    long = λ _. (input, more, keeps, read, most, some, few, part.whole refl);
    broken = λ e. absurd cc;
    stopped = λ e. absurd cc;
    keeps = record { size = part.keeps_files.size; capacity = part.keeps_files.capacity; attached = part.keeps_files.attached; others = part.keeps_files.others; flushed = λ _. part.keeps_files.flushed (λ e. cc) };
    first = no_fault (Some cause.LongInput) false _ _ (λ e. cc) (λ e. cc) (λ e. cc) same (part.first.no_sink refl (λ e. cc)) (part.first.no_files (λ e. cc));
    complete = λ all reported small calm quiet still. absurd (not_long before.left after.left all input more reported small read most some);
  }

  -- a line that was read whole ended it
  pub serve_ended : (ended : Option Broken) (input keeps : List ℕ) → ¬ (ended ≡ None) → Consumes before.left after.left input → PieceOutcome it ended most [] input keeps a b → after.faults ≡ before.faults → ServeOutcome it ended most before after a b
  serve_ended ended input keeps other read part same = go part.one_of
    where
      go : (ended ≡ None) ⊎ (ended ≡ Some cause.Sink) ⊎ (ended ≡ Some cause.Files) → ServeOutcome it ended most before after a b
      go (inl e) = absurd (other e)
      go (inr (inl e)) = record {
        whole = λ z. absurd (other z);
        part = λ z. absurd cc;
        long = λ z. absurd cc;
        broken = λ z. (input, read, inl (part.broken z));
        stopped = λ z. absurd cc;
        keeps = part.keeps_files;
        first = first_with_source ended before.faults after.faults (counts 0 a.faults a.files) (counts 0 b.faults b.files) (λ z. cc) same part.first;
        complete = λ all reported few calm quiet still. absurd (quiet (part.first.sink e));
      }
      go (inr (inr e)) = record {
        whole = λ z. absurd (other z);
        part = λ z. absurd cc;
        long = λ z. absurd cc;
        broken = λ z. absurd cc;
        stopped = λ z. (input, read, inl (part.stopped z));
        keeps = part.keeps_files;
        first = first_with_source ended before.faults after.faults (counts 0 a.faults a.files) (counts 0 b.faults b.files) (λ z. cc) same part.first;
        complete = λ all reported few calm quiet still. absurd (still (part.first.files e));
      }

  -- the source is at its end
  pub serve_end : (ended : Option Broken) (input keeps : List ℕ) (middle : Moment S) → Consumes before.left after.left input → IsAtEnd after.left → length input ≤ 1073741824
      → PieceOutcome it None most [] input keeps a middle → LineOutcome it ended (commands_from keeps []) middle b → after.faults ≡ before.faults → ServeOutcome it ended most before after a b
  serve_end ended input keeps middle read end few part last same = record {
    whole = λ e. (input, read, end, few, rw (← append-nil input) (all_after it most _ _ _ a middle b part [] (last.whole e)));
    part = λ z. absurd (none (Some cause.Source) (λ e. cc) (λ e. cc) (λ e. cc) z last.one_of);
    long = λ z. absurd (none (Some cause.LongInput) (λ e. cc) (λ e. cc) (λ e. cc) z last.one_of);
    broken = λ e. (
      input,
      read,
      inr (end, rw (← append-nil input) (breaks_after it most _ _ _ a middle b part [] (λ saved. breaks_as it _ _ _ _ _ _ (λ image carried. carried) 0 most _ (λ _. refl) (last.broken e saved)))),
    );
    stopped = λ e. (input, read, inr (end, rw (← append-nil input) (stops_after it most _ _ _ a middle b part [] (last.stopped e))));
    keeps = keeps_then it ended a middle b part.keeps_files last.keeps;
    first = first_with_source ended before.faults after.faults (counts 0 a.faults a.files) (counts 0 b.faults b.files) (λ z. none (Some cause.Source) (λ e. cc) (λ e. cc) (λ e. cc) z last.one_of) same first;
    complete = λ all reported small calm quiet still. elim last.one_of [
      | inl e ↦ e
      | inr (inl e) ↦ absurd (quiet (first.sink e))
      | inr (inr e) ↦ absurd (still (first.files e))
    ];
  }
    where
      first : IsFirstFault ended false (counts 0 a.faults a.files) (counts 0 b.faults b.files)
      first = first_after ended (counts 0 a.faults a.files) (counts 0 middle.faults middle.files) (counts 0 b.faults b.files) part.first last.first

      none : (n : Option Broken) → ¬ (n ≡ None) → ¬ (n ≡ Some cause.Sink) → ¬ (n ≡ Some cause.Files) → ended ≡ n → (ended ≡ None) ⊎ (ended ≡ Some cause.Sink) ⊎ (ended ≡ Some cause.Files) → ⊥
      none n whole sink files z (inl e) = whole (sym z ∙ e)
      none n whole sink files z (inr (inl e)) = sink (sym z ∙ e)
      none n whole sink files z (inr (inr e)) = files (sym z ∙ e)
