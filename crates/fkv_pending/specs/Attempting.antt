-- What is attempted for one request: a look into the mailbox where it has asked there, a try, and the address that it puts into the
-- mailbox where it awaits a record of the device.
use Rattle.std.specs.Prelude.{ℕ, ◌==◌, ◌&&◌, ◌||◌, if◌then◌else◌, Bool, true, false, Option, Some, None}
use Rattle.std.specs.Option.{is_some}
use Rattle.fkv_base.specs.declared.numbers.Addr.{Addr}
use Rattle.fkv_map.specs.declared.operations.Reply.{Reply}
use Rattle.fkv_map.specs.Keys.{key_of}
use Rattle.fkv_plane.specs.declared.asks.Ask.{Ask}
use Rattle.fkv_plane.specs.declared.asks.Ask.TheVariants.{Done}
use Rattle.fkv_plane.specs.declared.places.Places.{Places}
use Rattle.fkv_plane.specs.Passing.{passed}
use Rattle.fkv_ops.specs.declared.answers.DiskRecord.{DiskRecord}
use Rattle.fkv_ops.specs.declared.answers.Reason.TheVariants as reason
use Rattle.fkv_ops.specs.declared.answers.TryAnswer.{TryAnswer}
use Rattle.fkv_ops.specs.declared.answers.TryAnswer.TheVariants as answer
use Rattle.fkv_ops.specs.declared.header_words.HeaderSaid.{HeaderSaid}
use Rattle.fkv_ops.specs.declared.header_words.HeaderSaid.TheVariants.{Says, Spoiled}
use Rattle.fkv_ops.specs.declared.requests.HeldRecord.{HeldRecord}
use Rattle.fkv_ops.specs.declared.requests.Occasion.{Occasion}
use Rattle.fkv_ops.specs.declared.requests.Occasion.TheVariants.{Call, Poll}
use Rattle.fkv_ops.specs.declared.requests.Seen.{Seen}
use Rattle.fkv_ops.specs.HeaderWords.{header_said}
use Rattle.fkv_ops.specs.Resting.{nothing_seen}
use Rattle.fkv_ops.specs.Requests.{is_read, is_chain_end}
use Rattle.fkv_ops.specs.Values.{value_of}
use Rattle.fkv_ops.specs.Trying.{TryState, try_rested, try_begun, try_ask, try_next, told_value}
use Rattle.fkv_pending.specs.declared.attempting.Attempting.{Attempting}
use Rattle.fkv_pending.specs.declared.attempting.Attempting.TheVariants.{Ended, Looks, Tries, Puts}
use Rattle.fkv_pending.specs.declared.mailing.MailAnswer.{MailAnswer}
use Rattle.fkv_pending.specs.declared.mailing.MailAnswer.TheVariants as mail
use Rattle.fkv_pending.specs.declared.mailing.MailRecord.{MailRecord}
use Rattle.fkv_pending.specs.declared.mailing.MailTask.TheVariants.{Take, Put}
use Rattle.fkv_pending.specs.declared.mailing.Mailing.{Mailing}
use Rattle.fkv_pending.specs.declared.mailing.Mailing.TheVariants.{LoadsState, StoresAddress}
use Rattle.fkv_pending.specs.declared.mailing.Mailing.TheVariants as mailing
use Rattle.fkv_pending.specs.declared.pending_requests.PendingRequest.{PendingRequest}
use Rattle.fkv_pending.specs.Mailing.{mail_ask, mail_next, is_gone, begin_told}
use Rattle.fkv_pending.specs.Pending.{no_pending, with_sought, with_held, with_latch, with_asked, without_gone}

pub record AttemptState : Type 0 where
  -- the request, and what it waits for by now
  pub pending : PendingRequest
  pub seen : Seen
  pub occasion : Occasion
  pub spare : ℕ
  -- a record is asked for whose request has finished without it
  pub is_orphaned : Bool
  -- the mailbox was emptied in this attempt
  pub is_emptied : Bool
  -- what the update was told whose effect the last reply made
  pub effect : Option Reply
  -- the machines inside it
  pub mailing : Mailing
  pub trial : TryState
  pub step : Attempting

pub record Attempter : Type 0 where
  pub places : Places
  -- the index has 2^bits buckets
  pub bits : ℕ
  -- how many addresses the log has on the device
  pub room : ℕ
  -- whose mailbox it is
  pub session : ℕ
  pub state : AttemptState

-- what each state asks
unfoldable pub attempting_ask : Places → ℕ → AttemptState → Attempting → Ask TryAnswer
attempting_ask p session a (Ended its) = Done its
attempting_ask p session a Looks = passed (mail_ask session a.mailing) answer.Shift
attempting_ask p session a Tries = passed (try_ask p a.trial) answer.Shift
attempting_ask p session a Puts = passed (mail_ask session a.mailing) answer.Shift

abbrev pub attempt_ask : Places → ℕ → AttemptState → Ask TryAnswer
attempt_ask p session a = attempting_ask p session a a.step

abbrev pub attempt_ended : AttemptState → TryAnswer → AttemptState
attempt_ended a its = record a { step = Ended its }

-- the request goes on waiting for the device
abbrev pub waits_for_disk : AttemptState → AttemptState
waits_for_disk a = attempt_ended a (answer.Wait reason.Disk)

-- the address is put into the mailbox, whose state is loaded first, but where this attempt has emptied it
abbrev pub puts_addr : AttemptState → Option DiskRecord → AttemptState
puts_addr a None = waits_for_disk a
puts_addr a (Some sought) = record a { mailing = if a.is_emptied then StoresAddress sought.addr else LoadsState (Put sought.addr); step = Puts }

abbrev pub puts : AttemptState → AttemptState
puts a = puts_addr a a.pending.sought

abbrev pub tries : Places → ℕ → AttemptState → AttemptState
tries p bits a = record a { trial = try_begun p bits a.pending.request a.seen a.occasion a.spare; step = Tries }

abbrev pub is_poll : Occasion → Bool
is_poll (Call bounds) = false
is_poll Poll = true

-- a pending read that seeks a record of the device is answered from its walk, so it waits for the mailbox alone; one that seeks none is tried again
abbrev pub is_seeking_read : AttemptState → Bool
is_seeking_read a = is_poll a.occasion && (is_read a.pending.request.op && is_some a.pending.sought)

-- without a look into the mailbox, or behind one
abbrev pub goes_on : Places → ℕ → AttemptState → AttemptState
goes_on p bits a = if is_seeking_read a then puts a else tries p bits a

-- An attempt that is given this and hasn't begun. It is made of that alone: nothing is left of an earlier one.
abbrev pub new_attempt : ℕ → PendingRequest → Seen → Occasion → ℕ → Bool → AttemptState
new_attempt bits pending seen occasion spare is_orphaned = record { pending = pending; seen = seen; occasion = occasion; spare = spare; is_orphaned = is_orphaned; is_emptied = false; effect = None; mailing = mailing.Ended mail.NotReady; trial = try_rested bits; step = Ended answer.Shift }

-- before it first starts it is at its end
abbrev pub attempt_rested : ℕ → AttemptState
attempt_rested bits = new_attempt bits no_pending nothing_seen (Call None) 0 false

abbrev pub attempt_begun : Places → ℕ → PendingRequest → Seen → Occasion → ℕ → Bool → AttemptState
attempt_begun p bits pending seen occasion spare is_orphaned =
    let its : AttemptState = new_attempt bits pending seen occasion spare is_orphaned in
    if pending.has_asked then record its { mailing = LoadsState Take; step = Looks } else goes_on p bits its

-- a record that came goes with the entry from which the walk to it began
abbrev pub held_of : Option DiskRecord → MailRecord → HeaderSaid → Option HeldRecord
held_of None its said = None
held_of (Some sought) its Spoiled = None
held_of (Some sought) its (Says previous version) = Some (record { entry = sought.entry; previous = previous; key = its.key; value = its.value })

-- a read goes on at the record before
abbrev pub moved_on : Option DiskRecord → Addr → Option DiskRecord
moved_on None addr = None
moved_on (Some sought) addr = Some (record sought { addr = addr })

-- A read is answered by its key's record, or by the end of the chain; else it asks for the record before. The chain ends below the request's floor too.
abbrev pub read_on : AttemptState → MailRecord → HeaderSaid → AttemptState
read_on a its Spoiled = puts a
read_on a its (Says previous version) =
    if its.key.0 == (key_of a.pending.request.op).0 then attempt_ended a (told_value (value_of its.value))
    else if is_chain_end a.pending.request.floor previous then attempt_ended a answer.Absent
    else puts (record a { pending = with_sought a.pending (moved_on a.pending.sought previous) })

-- an update holds the record and is tried with it
abbrev pub record_taken : Places → ℕ → AttemptState → MailRecord → HeaderSaid → AttemptState
record_taken p bits a its said = if is_seeking_read a then read_on a its said else tries p bits (record a { pending = with_held a.pending (held_of a.pending.sought its said) })

-- The record that was asked for is gone, which tells nothing of the key. A read waits, and its next attempt tries it from its entry again. Any other
-- request is tried from there at once.
abbrev pub goes_anew : Places → ℕ → AttemptState → Addr → AttemptState
goes_anew p bits a begin =
    let its : AttemptState = record a { pending = without_gone a.pending begin } in
    if is_seeking_read a then waits_for_disk its else tries p bits its

abbrev pub mail_taken : Places → ℕ → AttemptState → MailRecord → AttemptState
mail_taken p bits a its = if is_gone its then goes_anew p bits a (begin_told its) else record_taken p bits a its (header_said its.header)

-- where no record is ready, a read goes on waiting and an update is tried all the same
abbrev pub not_ready : Places → ℕ → AttemptState → AttemptState
not_ready p bits a = if is_seeking_read a then waits_for_disk a else tries p bits a

unfoldable pub look_ledto : Places → ℕ → AttemptState → Ask MailAnswer → AttemptState
look_ledto p bits a (Done (mail.Taken its)) = mail_taken p bits (record a { is_emptied = true; pending = with_asked a.pending false }) its
look_ledto p bits a (Done other) = not_ready p bits a
look_ledto p bits a ask = a

-- a record that was read along a walk from another entry is of no use any more
abbrev pub held_kept : Option HeldRecord → ℕ → Option HeldRecord
held_kept None entry = None
held_kept (Some held) entry = if held.entry == entry then Some held else None

-- the try awaits a record: it is asked for, but where an ask of the request is under way
abbrev pub awaits_record : AttemptState → DiskRecord → AttemptState
awaits_record a sought =
    let its : AttemptState = record a { pending = with_held a.pending (held_kept a.pending.request.held sought.entry) } in
    if a.pending.has_asked then waits_for_disk its else puts (record its { pending = with_sought its.pending (Some sought) })

-- a request that has finished leaves behind what it has asked for
abbrev pub leaves : AttemptState → TryAnswer → AttemptState
leaves a its = attempt_ended (record a { is_orphaned = a.is_orphaned || a.pending.has_asked }) its

-- A request that ends with Shift is not finished: it is tried anew once its session has seen the next phase. So what it has asked for is
-- still for it, as where it has to wait.
abbrev pub tried : AttemptState → TryAnswer → AttemptState
tried a (answer.AwaitsDisk sought) = awaits_record a sought
tried a (answer.Wait its) = attempt_ended a (answer.Wait its)
tried a answer.Shift = attempt_ended a answer.Shift
tried a its = leaves a its

unfoldable pub try_ledto : AttemptState → Ask TryAnswer → AttemptState
try_ledto a (Done its) = tried (record a { spare = a.trial.spare; pending = with_latch a.pending a.trial.has_shared }) its
try_ledto a ask = a

unfoldable pub put_ledto : AttemptState → Ask MailAnswer → AttemptState
put_ledto a (Done mail.Asked) = waits_for_disk (record a { pending = with_asked a.pending true })
put_ledto a (Done other) = waits_for_disk a
put_ledto a ask = a

abbrev pub mail_moved : AttemptState → ℕ → AttemptState
mail_moved a reply = record a { mailing = mail_next a.mailing reply }

-- an effect is told at the step that makes it
abbrev pub try_moved : Places → ℕ → AttemptState → ℕ → AttemptState
try_moved p room a reply = record a { trial = try_next p room a.trial reply; effect = (try_next p room a.trial reply).effect }

-- where the reply leads
unfoldable pub attempting_next : Places → ℕ → ℕ → ℕ → AttemptState → Attempting → ℕ → AttemptState
attempting_next p bits room session a (Ended its) reply = a
attempting_next p bits room session a Looks reply = look_ledto p bits (mail_moved a reply) (mail_ask session (mail_next a.mailing reply))
attempting_next p bits room session a Tries reply = try_ledto (try_moved p room a reply) (try_ask p (try_next p room a.trial reply))
attempting_next p bits room session a Puts reply = put_ledto (mail_moved a reply) (mail_ask session (mail_next a.mailing reply))

abbrev pub attempt_next : Places → ℕ → ℕ → ℕ → AttemptState → ℕ → AttemptState
attempt_next p bits room session a reply = attempting_next p bits room session (record a { effect = None }) a.step reply
