-- What holds of an attempt wherever a look into its mailbox leads.
use Rattle.std.proofs.Common.{ℕ, Bool, true, false}
use Rattle.std.specs.Prelude.{◌==◌, if◌then◌else◌, Option}
use Rattle.fkv_map.specs.Keys.{key_of}
use Rattle.fkv_plane.specs.declared.asks.Ask.{Ask}
use Rattle.fkv_plane.specs.declared.asks.Ask.TheVariants.{Done}
use Rattle.fkv_plane.specs.declared.places.Places.{Places}
use Rattle.fkv_base.specs.declared.numbers.Addr.{Addr}
use Rattle.law_world.specs.Below.fkv_ops.Requests.{is_chain_end}
use Rattle.law_world.specs.Below.fkv_ops.DiskRecord.{DiskRecord}
use Rattle.law_world.specs.Below.fkv_ops.Reason.TheVariants as reason
use Rattle.law_world.specs.Below.fkv_ops.TryAnswer.{TryAnswer}
use Rattle.law_world.specs.Below.fkv_ops.TryAnswer.TheVariants as answer
use Rattle.law_world.specs.Below.fkv_ops.HeaderSaid.{HeaderSaid}
use Rattle.law_world.specs.Below.fkv_ops.HeaderSaid.TheVariants.{Says, Spoiled}
use Rattle.law_world.specs.Below.fkv_ops.HeaderWords.{header_said}
use Rattle.law_world.specs.Below.fkv_ops.Values.{value_of}
use Rattle.law_world.specs.Below.fkv_ops.Trying.{told_value}
use Rattle.law_world.specs.Below.fkv_pending.MailAnswer.{MailAnswer}
use Rattle.law_world.specs.Below.fkv_pending.MailAnswer.TheVariants as mail
use Rattle.law_world.specs.Below.fkv_pending.MailRecord.{MailRecord}
use Rattle.law_world.specs.Below.fkv_pending.Mailing.{is_gone, begin_told}
use Rattle.law_world.specs.Below.fkv_pending.Pending.{with_sought, with_held, with_asked, without_gone}
use Rattle.law_world.specs.Below.fkv_pending.Attempting.{AttemptState, attempt_ended, waits_for_disk, puts_addr, puts, tries, is_seeking_read, held_of, moved_on, read_on, record_taken, goes_anew, mail_taken, look_ledto}

module _ (Holds : AttemptState → Type 0) (ended : (a : AttemptState) (its : TryAnswer) → Holds (attempt_ended a its)) (puts_hold : (a : AttemptState) (sought : Option DiskRecord) → Holds (puts_addr a sought)) (p : Places) (bits : ℕ)
    (tries_hold : (a : AttemptState) → Holds (tries p bits a)) where
  either_holds : (c : Bool) (a b : AttemptState) → Holds a → Holds b → Holds (if c then a else b)
  either_holds true a b one other = one
  either_holds false a b one other = other

  read_holds : (a : AttemptState) (its : MailRecord) (said : HeaderSaid) → Holds (read_on a its said)
  read_holds a its Spoiled = puts_hold a a.pending.sought
  read_holds a its (Says previous version) =
      let next : AttemptState = record a { pending = with_sought a.pending (moved_on a.pending.sought previous) } in
      either_holds (its.key.0 == (key_of a.pending.request.op).0) (attempt_ended a (told_value (value_of its.value)))
      (if is_chain_end a.pending.request.floor previous then attempt_ended a answer.Absent else puts next) (ended a (told_value (value_of its.value)))
      (either_holds (is_chain_end a.pending.request.floor previous) (attempt_ended a answer.Absent) (puts next) (ended a answer.Absent)
      (puts_hold next next.pending.sought))

  taken_holds : (a : AttemptState) (its : MailRecord) (said : HeaderSaid) → Holds (record_taken p bits a its said)
  taken_holds a its said =
      let held : AttemptState = record a { pending = with_held a.pending (held_of a.pending.sought its said) } in
      either_holds (is_seeking_read a) (read_on a its said) (tries p bits held) (read_holds a its said) (tries_hold held)

  anew_holds : (a : AttemptState) (begin : Addr) → Holds (goes_anew p bits a begin)
  anew_holds a begin =
      let its : AttemptState = record a { pending = without_gone a.pending begin } in
      either_holds (is_seeking_read a) (waits_for_disk its) (tries p bits its) (ended its (answer.Wait reason.Disk)) (tries_hold its)

  mail_holds : (a : AttemptState) (its : MailRecord) → Holds (mail_taken p bits a its)
  mail_holds a its =
      either_holds (is_gone its) (goes_anew p bits a (begin_told its)) (record_taken p bits a its (header_said its.header)) (anew_holds a (begin_told its))
      (taken_holds a its (header_said its.header))

  pub look_holds : (a : AttemptState) (ask : Ask MailAnswer) → Holds a → Holds (look_ledto p bits a ask)
  unfolding look_ledto
  look_holds a (Done (mail.Taken its)) held = mail_holds (record a { is_emptied = true; pending = with_asked a.pending false }) its
  look_holds a (Done other) held = either_holds (is_seeking_read a) (waits_for_disk a) (tries p bits a) (ended a (answer.Wait reason.Disk)) (tries_hold a)
  look_holds a ask held = held
