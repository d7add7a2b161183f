-- An attempt leaves a read that has asked with a record that it seeks.
use Rattle.std.proofs.Common.{◌≡◌, ℕ, ◌∙◌, refl, sym, ap, subst, Bool, true, false}
use Rattle.std.specs.Prelude.{◌==◌, if◌then◌else◌, Option, Some, None}
use Rattle.std.specs.Option.{is_some}
use Rattle.fkv_base.specs.declared.numbers.Addr.{Addr}
use Rattle.fkv_map.specs.Keys.{key_of}
use Rattle.fkv_plane.specs.declared.asks.Ask.{Ask}
use Rattle.fkv_plane.specs.declared.asks.Ask.TheVariants.{Done}
use Rattle.fkv_plane.specs.declared.places.Places.{Places}
use Rattle.law_commit.specs.Below.fkv_ops.DiskRecord.{DiskRecord}
use Rattle.law_commit.specs.Below.fkv_ops.TryAnswer.{TryAnswer}
use Rattle.law_commit.specs.Below.fkv_ops.TryAnswer.TheVariants as answer
use Rattle.law_commit.specs.Below.fkv_ops.HeaderSaid.{HeaderSaid}
use Rattle.law_commit.specs.Below.fkv_ops.HeaderSaid.TheVariants.{Says, Spoiled}
use Rattle.law_commit.specs.Below.fkv_ops.HeldRecord.{HeldRecord}
use Rattle.law_commit.specs.Below.fkv_ops.Occasion.{Occasion}
use Rattle.law_commit.specs.Below.fkv_ops.Seen.{Seen}
use Rattle.law_commit.specs.Below.fkv_ops.HeaderWords.{header_said}
use Rattle.law_commit.specs.Below.fkv_ops.Requests.{is_chain_end}
use Rattle.law_commit.specs.Below.fkv_ops.Values.{value_of}
use Rattle.law_commit.specs.Below.fkv_ops.Trying.{told_value, try_ask}
use Rattle.law_commit.specs.Below.fkv_pending.TheAttempting.{Attempting}
use Rattle.law_commit.specs.Below.fkv_pending.TheAttempting.TheVariants.{Ended, Looks, Tries, Puts}
use Rattle.law_commit.specs.Below.fkv_pending.MailAnswer.{MailAnswer}
use Rattle.law_commit.specs.Below.fkv_pending.MailAnswer.TheVariants as mail
use Rattle.law_commit.specs.Below.fkv_pending.MailRecord.{MailRecord}
use Rattle.law_commit.specs.Below.fkv_pending.MailTask.TheVariants.{Take}
use Rattle.law_commit.specs.Below.fkv_pending.TheMailing.TheVariants.{LoadsState}
use Rattle.law_commit.specs.Below.fkv_pending.PendingRequest.{PendingRequest}
use Rattle.law_commit.specs.Below.fkv_pending.Mailing.{begin_told, is_gone, mail_ask, mail_next}
use Rattle.law_commit.specs.Below.fkv_pending.Pending.{with_sought, with_held, with_latch, with_asked, without_gone}
use Rattle.law_commit.specs.Below.fkv_pending.Attempting.{AttemptState, attempt_begun, attempt_ended, waits_for_disk, puts_addr, puts, tries, is_seeking_read, goes_on, held_of, moved_on, read_on, record_taken, goes_anew, mail_taken, not_ready, look_ledto, held_kept, awaits_record, tried, try_ledto, put_ledto, mail_moved, try_moved, attempting_next, attempt_next, new_attempt}
use Rattle.law_order.specs.Rows.Asked.{SeeksWhereAsked, SeeksAt, AttemptSeeks}

-- ---- a request as it changes
pub held_seeks : (pending : PendingRequest) (held : Option HeldRecord) → SeeksWhereAsked pending → SeeksWhereAsked (with_held pending held)
unfolding with_held
held_seeks pending held its = its

pub latch_seeks : (pending : PendingRequest) (latch : Bool) → SeeksWhereAsked pending → SeeksWhereAsked (with_latch pending latch)
unfolding with_latch
latch_seeks pending latch its = its

asked_seeks : (pending : PendingRequest) → is_some pending.sought ≡ true → SeeksWhereAsked (with_asked pending true)
unfolding with_asked
asked_seeks pending some = λ read asked. some

taken_seeks : (pending : PendingRequest) → SeeksWhereAsked (with_asked pending false)
unfolding with_asked
taken_seeks pending = λ read asked. cc

sought_seeks : (pending : PendingRequest) (it : DiskRecord) → SeeksWhereAsked (with_sought pending (Some it))
unfolding with_sought
sought_seeks pending it = λ read asked. refl

moved_seeks : (pending : PendingRequest) (sought : Option DiskRecord) (addr : _) → pending.sought ≡ sought → SeeksWhereAsked pending → SeeksWhereAsked (with_sought pending (moved_on sought addr))
unfolding with_sought
moved_seeks pending None addr e its = λ read asked. sym (ap is_some e) ∙ its read asked
moved_seeks pending (Some it) addr e its = λ read asked. refl

-- ---- an attempt in a control state
seeks_at : (a : AttemptState) (step : Attempting) → a.step ≡ step → SeeksWhereAsked a.pending → SeeksAt a step → AttemptSeeks a
seeks_at a step at pending its = record { pending = pending; step = subst (SeeksAt a) (sym at) its }

either_seeks : (c : Bool) (a b : AttemptState) → AttemptSeeks a → AttemptSeeks b → AttemptSeeks (if c then a else b)
either_seeks true a b one other = one
either_seeks false a b one other = other

ended_seeks : (a : AttemptState) (its : TryAnswer) → SeeksWhereAsked a.pending → AttemptSeeks (attempt_ended a its)
ended_seeks a its pending = record { pending = pending; step = tt }

tries_seeks : (p : Places) (bits : ℕ) (a : AttemptState) → SeeksWhereAsked a.pending → AttemptSeeks (tries p bits a)
tries_seeks p bits a pending = record { pending = pending; step = tt }

puts_found : (a : AttemptState) (sought : Option DiskRecord) → a.pending.sought ≡ sought → SeeksWhereAsked a.pending → AttemptSeeks (puts_addr a sought)
puts_found a None e pending = record { pending = pending; step = tt }
puts_found a (Some it) e pending = record { pending = pending; step = ap is_some e }

puts_seeks : (a : AttemptState) → SeeksWhereAsked a.pending → AttemptSeeks (puts a)
puts_seeks a pending = puts_found a a.pending.sought refl pending

-- ---- the look
read_seeks : (a : AttemptState) (its : MailRecord) (said : HeaderSaid) → SeeksWhereAsked a.pending → AttemptSeeks (read_on a its said)
read_seeks a its Spoiled pending = puts_seeks a pending
read_seeks a its (Says previous version) pending =
    let on : AttemptState = record a { pending = with_sought a.pending (moved_on a.pending.sought previous) } in
    let ends : Bool = is_chain_end a.pending.request.floor previous in
    let below : AttemptState = if ends then attempt_ended a answer.Absent else puts on in
    either_seeks (its.key.0 == (key_of a.pending.request.op).0) (attempt_ended a (told_value (value_of its.value))) below (ended_seeks a (told_value (value_of its.value)) pending)
    (either_seeks ends (attempt_ended a answer.Absent) (puts on) (ended_seeks a answer.Absent pending) (puts_seeks on (moved_seeks a.pending a.pending.sought previous refl pending)))

record_seeks : (p : Places) (bits : ℕ) (a : AttemptState) (its : MailRecord) (said : HeaderSaid) → SeeksWhereAsked a.pending → AttemptSeeks (record_taken p bits a its said)
record_seeks p bits a its said pending =
    let holds : AttemptState = record a { pending = with_held a.pending (held_of a.pending.sought its said) } in
    either_seeks (is_seeking_read a) (read_on a its said) (tries p bits holds) (read_seeks a its said pending) (tries_seeks p bits holds (held_seeks a.pending (held_of a.pending.sought its said) pending))

pub lost_seeks : (pending : PendingRequest) (begin : Addr) → pending.has_asked ≡ false → SeeksWhereAsked (without_gone pending begin)
unfolding without_gone
lost_seeks pending begin none = λ read asked. cc

anew_seeks : (p : Places) (bits : ℕ) (a : AttemptState) (begin : Addr) → a.pending.has_asked ≡ false → AttemptSeeks (goes_anew p bits a begin)
anew_seeks p bits a begin none =
    let its : AttemptState = record a { pending = without_gone a.pending begin } in
    let pending : SeeksWhereAsked its.pending = lost_seeks a.pending begin none in
    either_seeks (is_seeking_read a) (waits_for_disk its) (tries p bits its) (ended_seeks its _ pending) (tries_seeks p bits its pending)

mail_seeks : (p : Places) (bits : ℕ) (a : AttemptState) (its : MailRecord) → a.pending.has_asked ≡ false → SeeksWhereAsked a.pending → AttemptSeeks (mail_taken p bits a its)
mail_seeks p bits a its none pending =
    either_seeks (is_gone its) (goes_anew p bits a (begin_told its)) (record_taken p bits a its (header_said its.header)) (anew_seeks p bits a (begin_told its) none)
    (record_seeks p bits a its (header_said its.header) pending)

none_asked : (pending : PendingRequest) → (with_asked pending false).has_asked ≡ false
unfolding with_asked
none_asked pending = refl

waits_seeks : (p : Places) (bits : ℕ) (a : AttemptState) → SeeksWhereAsked a.pending → AttemptSeeks (not_ready p bits a)
waits_seeks p bits a pending = either_seeks (is_seeking_read a) (waits_for_disk a) (tries p bits a) (ended_seeks a _ pending) (tries_seeks p bits a pending)

look_seeks : (p : Places) (bits : ℕ) (a : AttemptState) (ask : Ask MailAnswer) → a.step ≡ Looks → SeeksWhereAsked a.pending → AttemptSeeks (look_ledto p bits a ask)
unfolding look_ledto
look_seeks p bits a (Done (mail.Taken its)) at pending = mail_seeks p bits (record a { is_emptied = true; pending = with_asked a.pending false }) its (none_asked a.pending) (taken_seeks a.pending)
look_seeks p bits a (Done other) at pending = waits_seeks p bits a pending
look_seeks p bits a ask at pending = seeks_at a Looks at pending tt

-- ---- the try
awaits_seeks : (a : AttemptState) (it : DiskRecord) → SeeksWhereAsked a.pending → AttemptSeeks (awaits_record a it)
awaits_seeks a it pending = either_seeks a.pending.has_asked (waits_for_disk its) (puts next) (ended_seeks its _ (held_seeks a.pending (held_kept a.pending.request.held it.entry) pending)) (puts_seeks next (sought_seeks its.pending it))
  where
    its : AttemptState
    its = record a { pending = with_held a.pending (held_kept a.pending.request.held it.entry) }

    next : AttemptState
    next = record its { pending = with_sought its.pending (Some it) }

tried_seeks : (a : AttemptState) (its : TryAnswer) → SeeksWhereAsked a.pending → AttemptSeeks (tried a its)
tried_seeks a (answer.AwaitsDisk it) pending = awaits_seeks a it pending
tried_seeks a (answer.Wait why) pending = ended_seeks a _ pending
tried_seeks a its pending = record { pending = pending; step = tt }

led_seeks : (a : AttemptState) (ask : Ask TryAnswer) → a.step ≡ Tries → SeeksWhereAsked a.pending → AttemptSeeks (try_ledto a ask)
unfolding try_ledto
led_seeks a (Done its) at pending = tried_seeks (record a { spare = a.trial.spare; pending = with_latch a.pending a.trial.has_shared }) its (latch_seeks a.pending a.trial.has_shared pending)
led_seeks a ask at pending = seeks_at a Tries at pending tt

-- ---- the address that is put
put_seeks : (a : AttemptState) (ask : Ask MailAnswer) → a.step ≡ Puts → SeeksWhereAsked a.pending → is_some a.pending.sought ≡ true → AttemptSeeks (put_ledto a ask)
unfolding put_ledto
put_seeks a (Done mail.Asked) at pending some = ended_seeks (record a { pending = with_asked a.pending true }) _ (asked_seeks a.pending some)
put_seeks a (Done other) at pending some = ended_seeks a _ pending
put_seeks a ask at pending some = seeks_at a Puts at pending some

step_seeks : (p : Places) (bits room session : ℕ) (a : AttemptState) (step : Attempting) (reply : ℕ) → a.step ≡ step → SeeksWhereAsked a.pending → SeeksAt a step → AttemptSeeks (attempting_next p bits room session (record a { effect = None }) step reply)
unfolding attempting_next
step_seeks p bits room session a (Ended its) reply at pending so = seeks_at (record a { effect = None }) (Ended its) at pending tt
step_seeks p bits room session a Looks reply at pending so = look_seeks p bits (mail_moved (record a { effect = None }) reply) (mail_ask session (mail_next a.mailing reply)) at pending
step_seeks p bits room session a Tries reply at pending so = let moved : AttemptState = try_moved p room (record a { effect = None }) reply in led_seeks moved (try_ask p moved.trial) at pending
step_seeks p bits room session a Puts reply at pending so = put_seeks (mail_moved (record a { effect = None }) reply) (mail_ask session (mail_next a.mailing reply)) at pending so

-- each reply to it
pub attempt_seeks : (p : Places) (bits room session : ℕ) (a : AttemptState) (reply : ℕ) → AttemptSeeks a → AttemptSeeks (attempt_next p bits room session a reply)
attempt_seeks p bits room session a reply its = step_seeks p bits room session a a.step reply refl its.pending its.step

-- and how it begins
pub attempt_begun_seeks : (p : Places) (bits : ℕ) (pending : PendingRequest) (seen : Seen) (occasion : Occasion) (spare : ℕ) (is_orphaned : Bool) → SeeksWhereAsked pending → AttemptSeeks (attempt_begun p bits pending seen occasion spare is_orphaned)
attempt_begun_seeks p bits pending seen occasion spare is_orphaned seeks =
    let its : AttemptState = new_attempt bits pending seen occasion spare is_orphaned in
    let looks : AttemptState = record its { mailing = LoadsState Take; step = Looks } in
    either_seeks pending.has_asked looks (goes_on p bits its) (record { pending = seeks; step = tt }) (either_seeks (is_seeking_read its) (puts its) (tries p bits its) (puts_seeks its seeks) (tries_seeks p bits its seeks))
