-- What a record that was read for a session is, where its address was flushed by then.
use Rattle.std.specs.Prelude.{◌≡◌, ℕ, ◌<◌, ◌≤◌, List, [], ◌∷◌}
use Rattle.fkv_base.specs.declared.numbers.Addr.{Addr}
use Rattle.fkv_record.specs.Numbers.{spelled}
use Rattle.fkv_plane.specs.declared.places.RecordWord.TheVariants as rec
use Rattle.law_world.specs.Below.fkv_flush.GuardFlushed.{stands}
use Rattle.law_world.specs.Below.fkv_flush.GuardLevels.{levels_of}
use Rattle.law_world.specs.Below.fkv_pending.MailRecord.{MailRecord}
use Rattle.law_world.specs.Below.fkv_pending.Mailbox.{MailNote}
use Rattle.law_world.specs.Below.fkv_world.World.{Event}
use Rattle.law_world.specs.Below.fkv_world.Runs.{World, run}
use Rattle.law_world.specs.Guarded.GuardEvents.{mapped}
use Rattle.law_world.specs.Guarded.OpenedStore.{IsOpenedStore}
use Rattle.law_world.specs.Guarded.Shows.{ArePermitted, guard_opening}
use Rattle.law_refine.specs.Mail.MailEvents.{record_read}
use Rattle.law_refine.specs.Mail.Reads.{ReadSince}

-- the record at an address, as its words stand behind these events of a life
abbrev pub record_standing : World → ℕ → List Event → ℕ → MailRecord
record_standing opening start events addr =
    record_read (spelled (
    stands (guard_opening opening.now start) (mapped opening events) addr rec.Header
    ∷ stands (guard_opening opening.now start) (mapped opening events) addr rec.Key
    ∷ stands (guard_opening opening.now start) (mapped opening events) addr rec.Value
    ∷ []
    ))

-- In a life in which each step of a session is permitted: what was read at an address that is one since the opening and was flushed by then is
-- what stood there then.
abbrev pub ReadsWhatStood : Type 0
ReadsWhatStood = (opening : World) (start session : ℕ) (events : List Event) (addr : Addr) (its : MailRecord) (asked : List MailNote) → IsOpenedStore opening start → ArePermitted opening events
    → (read : ReadSince opening session events addr its asked) → start ≤ addr.0 → addr.0 < (levels_of (run opening read.earlier).now.words).flushed
    → its ≡ record_standing opening start read.earlier addr.0
