-- The contents of the sources, sinks and files in memory.
use Rattle.std.specs.Prelude.{◌/◌, length, if◌then◌else◌, List, ℕ, Option, Some, None}
use Rattle.bp_limits.specs.Limits.{block_size}
use Rattle.bp_io.specs.Views.{View}
use Rattle.bp_io.specs.Plans.{FaultPlan}
use Rattle.bp_io.specs.declared.faults.CallPlan.{CallPlan}
use Rattle.bp_io.specs.declared.memory_streams.FairSource.{FairSource}
use Rattle.bp_io.specs.declared.memory_streams.MemSource.{MemSource}
use Rattle.bp_io.specs.declared.memory_streams.MemSink.{MemSink}
use Rattle.bp_io.specs.declared.memory_streams.NullSink.{NullSink}
use Rattle.bp_io.specs.declared.fair_files.FairFiles.{FairFiles}
use Rattle.bp_io.specs.declared.mem_files.MemFiles.{MemFiles}

-- A plan, from its representation in code.
abbrev pub plan_of : CallPlan → FaultPlan
plan_of p = record { fail_at = p.fail_at.now; next = p.next }

-- The bytes that are left.
abbrev pub fair_left : FairSource → List ℕ
fair_left s = s.rest.now

-- The bytes that are left.
abbrev pub mem_left : MemSource → List ℕ
mem_left s = s.rest.now

-- The maximum number of bytes that one read returns.
abbrev pub source_most : MemSource → ℕ
source_most s = s.most

abbrev pub source_plan : MemSource → FaultPlan
source_plan s = plan_of s.plan

abbrev pub source_faults : MemSource → ℕ
source_faults s = s.plan.faults

-- The bytes that the sink took.
abbrev pub mem_taken : MemSink → List ℕ
mem_taken s = s.bytes.items

-- The number of bytes that the sink can still take.
abbrev pub sink_room : MemSink → ℕ
sink_room s = s.room

abbrev pub sink_plan : MemSink → FaultPlan
sink_plan s = plan_of s.plan

abbrev pub sink_faults : MemSink → ℕ
sink_faults s = s.plan.faults

-- The number of bytes that the sink took.
abbrev pub null_count : NullSink → ℕ
null_count s = s.count

-- The bytes of the file that has every name.
abbrev pub fair_image : FairFiles → List ℕ
fair_image s = s.image.bytes.items

-- What is known of the file.
abbrev pub fair_view : FairFiles → View
fair_view s = record {
  is_attached = λ name. s.is_attached;
  blocks = if s.is_attached then length s.image.bytes.items / block_size else 0;
  may_write = s.may_write;
  is_flushed = s.is_flushed;
  contents = λ name. Some (Some (fair_image s));
  faults = 0;
}

-- The bytes of the file that has every name, if it exists.
abbrev pub mem_image : MemFiles → Option (List ℕ)
mem_image s = if s.is_there then Some s.image.bytes.items else None

-- What is known of the file.
abbrev pub mem_view : MemFiles → View
mem_view s = record {
  is_attached = λ name. s.is_attached;
  blocks = if s.is_attached then length s.image.bytes.items / block_size else 0;
  may_write = s.may_write;
  is_flushed = s.is_flushed;
  contents = λ name. Some (mem_image s);
  faults = s.plan.faults;
}

abbrev pub files_plan : MemFiles → FaultPlan
files_plan s = plan_of s.plan
