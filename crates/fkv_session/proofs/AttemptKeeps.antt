-- An attempt leaves of its request what it is: its name, its operation and its version.
use Rattle.std.proofs.Common.{ℕ, refl, Bool, true, false}
use Rattle.std.specs.Prelude.{Option, Some, None, if◌then◌else◌, ◌==◌}
use Rattle.fkv_map.specs.Keys.{key_of}
use Rattle.fkv_plane.specs.declared.asks.Ask.{Ask}
use Rattle.fkv_plane.specs.declared.asks.Ask.TheVariants.{Load, Store, Swap, Cas, Add, Max, Put, Take, Done}
use Rattle.fkv_plane.specs.declared.places.Places.{Places}
use Rattle.fkv_ops.specs.declared.answers.DiskRecord.{DiskRecord}
use Rattle.fkv_ops.specs.declared.answers.TryAnswer.{TryAnswer}
use Rattle.fkv_ops.specs.declared.answers.TryAnswer.TheVariants as answer
use Rattle.fkv_ops.specs.declared.header_words.HeaderSaid.{HeaderSaid}
use Rattle.fkv_ops.specs.declared.header_words.HeaderSaid.TheVariants.{Says, Spoiled}
use Rattle.fkv_ops.specs.declared.requests.HeldRecord.{HeldRecord}
use Rattle.fkv_ops.specs.HeaderWords.{header_said}
use Rattle.fkv_ops.specs.Trying.{try_ask, try_next}
use Rattle.fkv_pending.specs.declared.attempting.Attempting.{Attempting}
use Rattle.fkv_pending.specs.declared.attempting.Attempting.TheVariants.{Ended, Looks, Tries, Puts}
use Rattle.fkv_pending.specs.declared.mailing.MailAnswer.{MailAnswer}
use Rattle.fkv_pending.specs.declared.mailing.MailAnswer.TheVariants as mail
use Rattle.fkv_pending.specs.declared.mailing.MailRecord.{MailRecord}
use Rattle.fkv_pending.specs.declared.pending_requests.PendingRequest.{PendingRequest}
use Rattle.fkv_pending.specs.Mailing.{mail_ask, mail_next, is_gone, begin_told}
use Rattle.fkv_pending.specs.Pending.{with_sought, with_held, with_latch, with_asked, without_gone}
use Rattle.fkv_pending.specs.Attempting.{AttemptState, is_seeking_read, puts_addr, puts, goes_on, attempt_begun, record_taken, read_on, moved_on, held_of, held_kept, not_ready, look_ledto, awaits_record, tried, try_ledto, put_ledto, mail_moved, try_moved, attempting_next, attempt_next, new_attempt, goes_anew, mail_taken}
use Rattle.fkv_ops.specs.declared.requests.Occasion.{Occasion}
use Rattle.fkv_ops.specs.declared.requests.Seen.{Seen}
use Rattle.fkv_session.proofs.Requests.{IsSameRequest}
use Rattle.fkv_ops.specs.Requests.{is_chain_end}
use Rattle.fkv_base.specs.declared.numbers.Addr.{Addr}

sought_same : (p o : PendingRequest) (sought : Option DiskRecord) → IsSameRequest p o → IsSameRequest (with_sought p sought) o
unfolding with_sought
sought_same p o sought same = record { name = same.name; op = same.op; version = same.version }

held_same : (p o : PendingRequest) (held : Option HeldRecord) → IsSameRequest p o → IsSameRequest (with_held p held) o
unfolding with_held
held_same p o held same = record { name = same.name; op = same.op; version = same.version }

pub latch_same : (p o : PendingRequest) (latch : Bool) → IsSameRequest p o → IsSameRequest (with_latch p latch) o
unfolding with_latch
latch_same p o latch same = record { name = same.name; op = same.op; version = same.version }

asked_same : (p o : PendingRequest) (asked : Bool) → IsSameRequest p o → IsSameRequest (with_asked p asked) o
unfolding with_asked
asked_same p o asked same = record { name = same.name; op = same.op; version = same.version }

gone_same : (p o : PendingRequest) (begin : Addr) → IsSameRequest p o → IsSameRequest (without_gone p begin) o
unfolding without_gone
gone_same p o begin same = record { name = same.name; op = same.op; version = same.version }

puts_same : (a : AttemptState) (o : PendingRequest) (sought : Option DiskRecord) → IsSameRequest a.pending o → IsSameRequest (puts_addr a sought).pending o
puts_same a o None same = same
puts_same a o (Some sought) same = same

either_same : (c : Bool) (a b : AttemptState) (o : PendingRequest) → IsSameRequest a.pending o → IsSameRequest b.pending o → IsSameRequest (if c then a else b).pending o
either_same true a b o one other = one
either_same false a b o one other = other

goes_same : (p : Places) (bits : ℕ) (a : AttemptState) (o : PendingRequest) → IsSameRequest a.pending o → IsSameRequest (goes_on p bits a).pending o
goes_same p bits a o same = either_same (is_seeking_read a) (puts a) _ o (puts_same a o a.pending.sought same) same

read_same : (a : AttemptState) (its : MailRecord) (said : HeaderSaid) (o : PendingRequest) → IsSameRequest a.pending o → IsSameRequest (read_on a its said).pending o
read_same a its Spoiled o same = puts_same a o a.pending.sought same
read_same a its (Says previous version) o same =
    let sought : Option DiskRecord = moved_on a.pending.sought previous in
    let moved : PendingRequest = with_sought a.pending sought in
    either_same (its.key.0 == (key_of a.pending.request.op).0) _ _ o same
    (either_same (is_chain_end a.pending.request.floor previous) _ _ o same (puts_same (record a { pending = moved }) o moved.sought (sought_same a.pending o sought same)))

taken_same : (p : Places) (bits : ℕ) (a : AttemptState) (its : MailRecord) (said : HeaderSaid) (o : PendingRequest) → IsSameRequest a.pending o → IsSameRequest (record_taken p bits a its said).pending o
taken_same p bits a its said o same =
    either_same (is_seeking_read a) (read_on a its said) _ o (read_same a its said o same) (held_same a.pending o (held_of a.pending.sought its said) same)

mail_same : (p : Places) (bits : ℕ) (a : AttemptState) (its : MailRecord) (o : PendingRequest) → IsSameRequest a.pending o → IsSameRequest (mail_taken p bits a its).pending o
mail_same p bits a its o same =
    let gone = gone_same a.pending o (begin_told its) same in
    either_same (is_gone its) (goes_anew p bits a (begin_told its)) (record_taken p bits a its (header_said its.header)) o (either_same (is_seeking_read a) _ _ o gone gone) (taken_same p bits a its (header_said its.header) o same)

waits_same : (p : Places) (bits : ℕ) (a : AttemptState) (o : PendingRequest) → IsSameRequest a.pending o → IsSameRequest (not_ready p bits a).pending o
waits_same p bits a o same = either_same (is_seeking_read a) _ _ o same same

look_same : (p : Places) (bits : ℕ) (a : AttemptState) (ask : Ask MailAnswer) (o : PendingRequest) → IsSameRequest a.pending o → IsSameRequest (look_ledto p bits a ask).pending o
unfolding look_ledto
look_same p bits a (Done (mail.Taken its)) o same =
    mail_same p bits (record a { is_emptied = true; pending = with_asked a.pending false }) its o (asked_same a.pending o false same)
look_same p bits a (Done mail.NotReady) o same = waits_same p bits a o same
look_same p bits a (Done mail.Occupied) o same = waits_same p bits a o same
look_same p bits a (Done mail.Asked) o same = waits_same p bits a o same
look_same p bits a (Done mail.Cleared) o same = waits_same p bits a o same
look_same p bits a (Load place) o same = same
look_same p bits a (Store place word) o same = same
look_same p bits a (Swap place word) o same = same
look_same p bits a (Cas place old new) o same = same
look_same p bits a (Add place word) o same = same
look_same p bits a (Max place word) o same = same
look_same p bits a (Put slot action) o same = same
look_same p bits a (Take slot) o same = same

awaits_same : (a : AttemptState) (sought : DiskRecord) (o : PendingRequest) → IsSameRequest a.pending o → IsSameRequest (awaits_record a sought).pending o
awaits_same a sought o same =
    let held : Option HeldRecord = held_kept a.pending.request.held sought.entry in
    let kept = held_same a.pending o held same in
    let moved : PendingRequest = with_sought (with_held a.pending held) (Some sought) in
    either_same a.pending.has_asked _ _ o kept
    (puts_same (record a { pending = moved }) o moved.sought (sought_same (with_held a.pending held) o (Some sought) kept))

tried_same : (a : AttemptState) (its : TryAnswer) (o : PendingRequest) → IsSameRequest a.pending o → IsSameRequest (tried a its).pending o
tried_same a (answer.AwaitsDisk sought) o same = awaits_same a sought o same
tried_same a (answer.Wait why) o same = same
tried_same a (answer.Done reply) o same = same
tried_same a (answer.Found value) o same = same
tried_same a answer.Absent o same = same
tried_same a answer.Shift o same = same
tried_same a answer.IndexFull o same = same
tried_same a answer.LogFull o same = same

try_same : (a : AttemptState) (ask : Ask TryAnswer) (o : PendingRequest) → IsSameRequest a.pending o → IsSameRequest (try_ledto a ask).pending o
unfolding try_ledto
try_same a (Done its) o same = tried_same (record a { spare = a.trial.spare; pending = with_latch a.pending a.trial.has_shared }) its o (latch_same a.pending o a.trial.has_shared same)
try_same a (Load place) o same = same
try_same a (Store place word) o same = same
try_same a (Swap place word) o same = same
try_same a (Cas place old new) o same = same
try_same a (Add place word) o same = same
try_same a (Max place word) o same = same
try_same a (Put slot action) o same = same
try_same a (Take slot) o same = same

put_same : (a : AttemptState) (ask : Ask MailAnswer) (o : PendingRequest) → IsSameRequest a.pending o → IsSameRequest (put_ledto a ask).pending o
unfolding put_ledto
put_same a (Done mail.Asked) o same = asked_same a.pending o true same
put_same a (Done (mail.Taken its)) o same = same
put_same a (Done mail.NotReady) o same = same
put_same a (Done mail.Occupied) o same = same
put_same a (Done mail.Cleared) o same = same
put_same a (Load place) o same = same
put_same a (Store place word) o same = same
put_same a (Swap place word) o same = same
put_same a (Cas place old new) o same = same
put_same a (Add place word) o same = same
put_same a (Max place word) o same = same
put_same a (Put slot action) o same = same
put_same a (Take slot) o same = same

step_same : (p : Places) (bits room session : ℕ) (a : AttemptState) (step : Attempting) (reply : ℕ) (o : PendingRequest) → IsSameRequest a.pending o → IsSameRequest (attempting_next p bits room session a step reply).pending o
unfolding attempting_next
step_same p bits room session a (Ended its) reply o same = same
step_same p bits room session a Looks reply o same = look_same p bits (mail_moved a reply) (mail_ask session (mail_next a.mailing reply)) o same
step_same p bits room session a Tries reply o same = try_same (try_moved p room a reply) (try_ask p (try_next p room a.trial reply)) o same
step_same p bits room session a Puts reply o same = put_same (mail_moved a reply) (mail_ask session (mail_next a.mailing reply)) o same

-- each reply leaves the request
pub attempt_keeps : (p : Places) (bits room session : ℕ) (a : AttemptState) (reply : ℕ) → IsSameRequest (attempt_next p bits room session a reply).pending a.pending
attempt_keeps p bits room session a reply = step_same p bits room session (record a { effect = None }) a.step reply a.pending (record { name = refl; op = refl; version = refl })

-- an attempt begins with its request
pub begun_same : (p : Places) (bits : ℕ) (pending : PendingRequest) (seen : Seen) (occasion : Occasion) (spare : ℕ) (is_orphaned : Bool)
    → IsSameRequest (attempt_begun p bits pending seen occasion spare is_orphaned).pending pending
begun_same p bits pending seen occasion spare is_orphaned =
    let its : AttemptState = new_attempt bits pending seen occasion spare is_orphaned in
    let same : IsSameRequest its.pending pending = record { name = refl; op = refl; version = refl } in
    either_same pending.has_asked _ _ pending same (goes_same p bits its pending same)
