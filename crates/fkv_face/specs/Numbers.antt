-- Refusals and answers as the numbers that C is told.
use Rattle.std.specs.Prelude.{ℕ, ℤ, pos, neg_ℤ}
use Rattle.fkv_base.specs.Fault.{number_of}
use Rattle.fkv_base.specs.declared.faults.Fault.{Fault}
use Rattle.fkv_handles.specs.declared.refusals.Refusal.{Refusal}
use Rattle.fkv_handles.specs.declared.refusals.Refusal.TheVariants as refusal
use Rattle.fkv_map.specs.Map.{absent_word}
use Rattle.fkv_map.specs.declared.operations.Reply.{Reply}
use Rattle.fkv_map.specs.declared.operations.Reply.TheVariants as reply
use Rattle.fkv_ops.specs.declared.answers.Reason.{Reason}
use Rattle.fkv_ops.specs.declared.answers.Reason.TheVariants as reason
use Rattle.fkv_base.specs.declared.phases.Phase.{Phase}
use Rattle.fkv_base.specs.declared.phases.Phase.TheVariants as phase

-- minus the fault's number
abbrev pub fault_told : Fault → ℤ
fault_told fault = neg_ℤ (pos (number_of fault))

-- 22 says that a handle of the store is out, and 23 that the handle was taken
abbrev pub refusal_told : Refusal → ℤ
refusal_told (refusal.Fault fault) = fault_told fault
refusal_told refusal.HandleOut = neg_ℤ (pos 22)
refusal_told refusal.HandleTaken = neg_ℤ (pos 23)

-- the value that a reply tells: 2^64 - 1 where a keep has found none
abbrev pub number_in : Reply → ℕ
number_in reply.Nothing = 0
number_in (reply.Number value) = value.0
number_in (reply.Found value) = value.0
number_in reply.Absent = absent_word

abbrev pub reason_number : Reason → ℕ
reason_number reason.Fuzzy = 1
reason_number reason.Disk = 2
reason_number reason.Latch = 3
reason_number reason.Contended = 4
reason_number reason.NoRoom = 5
reason_number reason.Full = 6

abbrev pub phase_number : Phase → ℕ
phase_number phase.Rest = 0
phase_number phase.Prepare = 1
phase_number phase.InProgress = 2
phase_number phase.WaitPending = 3
phase_number phase.WaitFlush = 4
