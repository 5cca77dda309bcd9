-- The effect of serving on the values that a program holds, before and after: the buffers of a line or the work of a
-- run, the dirty blocks, the file system, the files and the sink.
use Rattle.std.specs.Prelude.{ℕ, List, [], ◌∷◌, Bool, Result, Some, take}
use Rattle.bp_fs.specs.Behaviour.{Behaviour}
use Rattle.bp_io.specs.Views.{View, SinkView, SourceView}
use Rattle.bp_script.specs.Commands.{command_of}
use Rattle.bp_replies.specs.Gathering.{PassesOn, waiting}
use Rattle.bp_replies.specs.Room.{gathered_size}
use Rattle.bp_replies.specs.declared.replies.Replies.{Replies}
use Rattle.bp_session.specs.Acting.{reply_of}
use Rattle.bp_session.specs.Changed.{dirty_in}
use Rattle.bp_session.specs.Ends.{cause_of}
use Rattle.bp_session.specs.Gathering.{Clears, LineGathers}
use Rattle.bp_session.specs.Lines.{commands_from}
use Rattle.bp_session.specs.Serving.{DoesLine, LineOutcome, Moment, PieceOutcome, ServeOutcome, moment, with_dirty}
use Rattle.bp_session.specs.Work.{answer_in, held_line, held_replies, line_in, read_piece, waiting_in}
use Rattle.bp_session.specs.declared.broken.Broken.{Broken}
use Rattle.bp_session.specs.declared.outcome.Outcome.{Outcome}
use Rattle.bp_session.specs.declared.save.DirtyBlocks.{DirtyBlocks}
use Rattle.bp_session.specs.declared.work.LineBuffers.{LineBuffers}
use Rattle.bp_session.specs.declared.work.Work.{Work}

-- The state of serving with these dirty blocks and this state of the file system, seen through the views of the files
-- and the sink.
abbrev pub instant : {S F K : Type 0} → (F → View) → (K → SinkView) → List Bool → S → F → K → Moment S
instant files_of sink_of dirty system files sink = with_dirty dirty (moment system (files_of files) (sink_of sink))

-- ---- replies that wait

-- A text was added to the waiting replies, and the sink took a prefix of both.
abbrev pub PassesText : List ℕ → Replies → SinkView → Replies → SinkView → Type 0
PassesText text replies sink replies_now sink_now =
    PassesOn text (waiting replies) (waiting replies_now) sink.taken sink_now.taken

-- ---- the line of the buffers

-- The line was carried out, with this outcome.
abbrev pub DoesHeld : {S F K : Type 0} → Behaviour S → (F → View) → (K → SinkView) → LineBuffers → List Bool → S → F → K
    → LineBuffers → List Bool → S → F → K → Outcome → Type 0
DoesHeld it files_of sink_of before dirty system files sink after dirty_now system_now files_now sink_now outcome =
    DoesLine it (instant files_of sink_of dirty system files sink) (command_of (line_in before))
    (reply_of outcome (answer_in after)) (instant files_of sink_of dirty_now system_now files_now sink_now)

-- The line was broken off by this cause, while replies waited.
abbrev pub StopsBy : {S F K : Type 0} → Behaviour S → (F → View) → (K → SinkView) → LineBuffers → List Bool → S → F → K
    → LineBuffers → List Bool → S → F → K → Broken → Type 0
StopsBy it files_of sink_of before dirty system files sink after dirty_now system_now files_now sink_now broken =
    LineGathers it (Some broken) (command_of (line_in before)) (waiting_in before) (waiting_in after)
    (instant files_of sink_of dirty system files sink) (instant files_of sink_of dirty_now system_now files_now sink_now)

-- After the line, the replies that waited still wait, or a sink took them.
abbrev pub ClearsHeld : {F K : Type 0} → (F → View) → (K → SinkView) → LineBuffers → F → K → LineBuffers → F → K → Type 0
ClearsHeld files_of sink_of before files sink after files_now sink_now =
    Clears (command_of (line_in before)) (waiting_in before) (waiting_in after)
    (sink_of sink).taken (sink_of sink_now).taken (files_of files) (files_of files_now)

-- ---- the line of a run

-- The effect of the line of a run while replies wait.
abbrev pub GathersHeld : {T S F K : Type 0} → Behaviour S → Result T Broken → (F → View) → (K → SinkView)
    → Work → List Bool → S → F → K → Work → List Bool → S → F → K → Type 0
GathersHeld it result files_of sink_of work dirty system files sink work_now dirty_now system_now files_now sink_now =
    LineGathers it (cause_of result) (command_of (held_line work)) (held_replies work) (held_replies work_now)
    (instant files_of sink_of dirty system files sink) (instant files_of sink_of dirty_now system_now files_now sink_now)

-- The effect of the line of a run whose reply goes to the sink at once.
abbrev pub ServesAlone : {T S F K : Type 0} → Behaviour S → Result T Broken → (F → View) → (K → SinkView) → Work
    → List Bool → S → F → K → List Bool → S → F → K → Type 0
ServesAlone it result files_of sink_of work dirty system files sink dirty_now system_now files_now sink_now =
    LineOutcome it (cause_of result) (command_of (held_line work) ∷ [])
    (instant files_of sink_of dirty system files sink) (instant files_of sink_of dirty_now system_now files_now sink_now)

-- The effect of the line of a run whose reply goes to the sink at once, where any block may be dirty.
abbrev pub ServesHeld : {T S F K : Type 0} → Behaviour S → Result T Broken → (F → View) → (K → SinkView) → Work
    → S → F → K → S → F → K → Type 0
ServesHeld it result files_of sink_of work system files sink system_now files_now sink_now =
    LineOutcome it (cause_of result) (command_of (held_line work) ∷ [])
    (moment system (files_of files) (sink_of sink)) (moment system_now (files_of files_now) (sink_of sink_now))

-- The effect of the line of a run that ends the input: it is served unless it is empty.
abbrev pub EndsHeld : {T S F K : Type 0} → Behaviour S → Result T Broken → (F → View) → (K → SinkView) → Work
    → List Bool → S → F → K → List Bool → S → F → K → Type 0
EndsHeld it result files_of sink_of work dirty system files sink dirty_now system_now files_now sink_now =
    LineOutcome it (cause_of result) (commands_from (held_line work) [])
    (instant files_of sink_of dirty system files sink) (instant files_of sink_of dirty_now system_now files_now sink_now)

-- ---- an input

-- The effect of serving the first `count` bytes of the piece that was read, where replies of at most `most` bytes may
-- wait.
abbrev pub TakesPiece : {T S F K : Type 0} → Behaviour S → Result T Broken → ℕ → ℕ → (F → View) → (K → SinkView)
    → Work → List Bool → S → F → K → Work → List Bool → S → F → K → Type 0
TakesPiece it result most count files_of sink_of work dirty system files sink work_now dirty_now system_now files_now sink_now =
    PieceOutcome it (cause_of result) most (held_line work) (take count (read_piece work)) (held_line work_now)
    (instant files_of sink_of dirty system files sink) (instant files_of sink_of dirty_now system_now files_now sink_now)

-- The effect of serving a source, where replies of at most `most` bytes may wait.
abbrev pub ServesBy : {T S I F K : Type 0} → Behaviour S → Result T Broken → ℕ → (I → SourceView) → (F → View) → (K → SinkView)
    → I → List Bool → S → F → K → I → List Bool → S → F → K → Type 0
ServesBy it result most source_of files_of sink_of source dirty system files sink source_now dirty_now system_now files_now sink_now =
    ServeOutcome it (cause_of result) most (source_of source) (source_of source_now)
    (instant files_of sink_of dirty system files sink) (instant files_of sink_of dirty_now system_now files_now sink_now)

-- The effect of serving a source with gathered replies and the dirty blocks of a run.
abbrev pub ServesGathered : {T S I F K : Type 0} → Behaviour S → Result T Broken → (I → SourceView) → (F → View) → (K → SinkView)
    → I → DirtyBlocks → S → F → K → I → DirtyBlocks → S → F → K → Type 0
ServesGathered it result source_of files_of sink_of source dirty system files sink source_now dirty_now system_now files_now sink_now =
    ServesBy it result gathered_size source_of files_of sink_of
    source (dirty_in dirty) system files sink source_now (dirty_in dirty_now) system_now files_now sink_now

-- The effect of serving a source where each reply goes to the sink at once, and any block may be dirty.
abbrev pub ServesAtOnce : {T S I F K : Type 0} → Behaviour S → Result T Broken → (I → SourceView) → (F → View) → (K → SinkView)
    → I → S → F → K → I → S → F → K → Type 0
ServesAtOnce it result source_of files_of sink_of source system files sink source_now system_now files_now sink_now =
    ServeOutcome it (cause_of result) 0 (source_of source) (source_of source_now)
    (moment system (files_of files) (sink_of sink)) (moment system_now (files_of files_now) (sink_of sink_now))
