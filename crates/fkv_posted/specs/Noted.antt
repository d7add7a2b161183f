-- What a note for the log says.
use Rattle.fkv_disk.specs.Calls.{Write, Sync}
use Rattle.fkv_posted.specs.Outcomes.{Outcome, Gave, Made}
use Rattle.fkv_posted.specs.declared.log.Note.{Note}
use Rattle.fkv_posted.specs.declared.log.Note.TheVariants as note

abbrev pub outcome_of : Note → Outcome
outcome_of (note.Gave at bytes) = Gave at bytes.now
outcome_of (note.Wrote at bytes done) = Made (Write at bytes.now done)
outcome_of (note.Synced done) = Made (Sync done)
