-- An attempt that looks into the mailbox never comes to say there that it asks: the machine with which it looks takes a record.
use Rattle.std.proofs.Common.{◌≡◌, ℕ, refl, sym, subst, Bool, true, false}
use Rattle.std.specs.Prelude.{⊤, if◌then◌else◌, ◌==◌, Option, Some, None}
use Rattle.fkv_base.specs.declared.numbers.Addr.{Addr}
use Rattle.fkv_map.specs.Keys.{key_of}
use Rattle.fkv_plane.specs.declared.asks.Ask.{Ask}
use Rattle.fkv_plane.specs.declared.asks.Ask.TheVariants.{Done}
use Rattle.fkv_plane.specs.declared.places.Places.{Places}
use Rattle.law_refine.specs.Below.fkv_ops.DiskRecord.{DiskRecord}
use Rattle.law_refine.specs.Below.fkv_ops.TryAnswer.{TryAnswer}
use Rattle.law_refine.specs.Below.fkv_ops.TryAnswer.TheVariants as answer
use Rattle.law_refine.specs.Below.fkv_ops.HeaderSaid.{HeaderSaid}
use Rattle.law_refine.specs.Below.fkv_ops.HeaderSaid.TheVariants.{Says, Spoiled}
use Rattle.law_refine.specs.Below.fkv_ops.Occasion.{Occasion}
use Rattle.law_refine.specs.Below.fkv_ops.Seen.{Seen}
use Rattle.law_refine.specs.Below.fkv_ops.HeaderWords.{header_said}
use Rattle.law_refine.specs.Below.fkv_ops.Requests.{is_chain_end}
use Rattle.law_refine.specs.Below.fkv_ops.Trying.{told_value, try_ask, try_next}
use Rattle.law_refine.specs.Below.fkv_ops.Values.{value_of}
use Rattle.law_refine.specs.Below.fkv_pending.TheAttempting.{Attempting}
use Rattle.law_refine.specs.Below.fkv_pending.TheAttempting.TheVariants as attempting
use Rattle.law_refine.specs.Below.fkv_pending.MailAnswer.{MailAnswer}
use Rattle.law_refine.specs.Below.fkv_pending.MailAnswer.TheVariants as mail
use Rattle.law_refine.specs.Below.fkv_pending.MailRecord.{MailRecord}
use Rattle.law_refine.specs.Below.fkv_pending.MailTask.TheVariants.{Clear, Put, Take}
use Rattle.law_refine.specs.Below.fkv_pending.TheMailing.{Mailing}
use Rattle.law_refine.specs.Below.fkv_pending.TheMailing.TheVariants.{Ended, LoadsState, LoadsHeader, LoadsKey, LoadsValue, StoresEmpty, StoresAddress, StoresAsked}
use Rattle.law_refine.specs.Below.fkv_pending.PendingRequest.{PendingRequest}
use Rattle.law_refine.specs.Below.fkv_pending.Attempting.{AttemptState, attempt_begun, attempt_ended, attempt_next, attempting_next, goes_anew, goes_on, held_kept, held_of, is_seeking_read, look_ledto, mail_moved, mail_taken, moved_on, not_ready, put_ledto, puts, puts_addr, read_on, record_taken, tried, tries, try_ledto, try_moved, waits_for_disk, new_attempt}
use Rattle.law_refine.specs.Below.fkv_pending.Mailing.{begin_told, is_gone, mail_ask, mail_next, mail_ready}
use Rattle.law_refine.specs.Below.fkv_pending.Pending.{with_asked, with_held, with_latch, with_sought, without_gone}

-- a machine that comes to say that it asks: it puts an address
abbrev pub is_putting : Mailing → Bool
is_putting (LoadsState (Put addr)) = true
is_putting (StoresAddress addr) = true
is_putting StoresAsked = true
is_putting step = false

either_puts : (c : Bool) (a b : Mailing) → is_putting a ≡ false → is_putting b ≡ false → is_putting (if c then a else b) ≡ false
either_puts true a b one other = one
either_puts false a b one other = other

pub next_puts : (its : Mailing) (reply : ℕ) → is_putting its ≡ false → is_putting (mail_next its reply) ≡ false
unfolding mail_next
next_puts (Ended its) reply none = refl
next_puts (LoadsState Clear) reply none = either_puts (reply == mail_ready) (StoresEmpty mail.Cleared) (Ended mail.NotReady) refl refl
next_puts (LoadsState Take) reply none = either_puts (reply == mail_ready) LoadsHeader (Ended mail.NotReady) refl refl
next_puts (LoadsState (Put addr)) reply none = cc
next_puts LoadsHeader reply none = refl
next_puts (LoadsKey header) reply none = refl
next_puts (LoadsValue header key) reply none = refl
next_puts (StoresEmpty its) reply none = refl
next_puts (StoresAddress addr) reply none = cc
next_puts StoresAsked reply none = cc

-- ---- by the attempt's control state
abbrev pub LooksAlone : AttemptState → Attempting → Type 0
LooksAlone a attempting.Looks = is_putting a.mailing ≡ false
LooksAlone a step = ⊤

abbrev pub AttemptLooks : AttemptState → Type 0
AttemptLooks a = LooksAlone a a.step

either_looks : (c : Bool) (a b : AttemptState) → AttemptLooks a → AttemptLooks b → AttemptLooks (if c then a else b)
either_looks true a b one other = one
either_looks false a b one other = other

still_looks : (a : AttemptState) (step : Attempting) → a.step ≡ step → LooksAlone a step → AttemptLooks a
still_looks a step at its = subst (LooksAlone a) (sym at) its

puts_look : (a : AttemptState) (sought : Option DiskRecord) → AttemptLooks (puts_addr a sought)
puts_look a None = tt
puts_look a (Some sought) = tt

goes_look : (p : Places) (bits : ℕ) (a : AttemptState) → AttemptLooks (goes_on p bits a)
goes_look p bits a = either_looks (is_seeking_read a) (puts a) (tries p bits a) (puts_look a a.pending.sought) tt

pub begun_looks : (p : Places) (bits : ℕ) (pending : PendingRequest) (seen : Seen) (occasion : Occasion) (spare : ℕ) (is_orphaned : Bool)
    → AttemptLooks (attempt_begun p bits pending seen occasion spare is_orphaned)
begun_looks p bits pending seen occasion spare is_orphaned =
    let first : AttemptState = new_attempt bits pending seen occasion spare is_orphaned in
    either_looks pending.has_asked (record first { mailing = LoadsState Take; step = attempting.Looks }) (goes_on p bits first) refl (goes_look p bits first)

-- what a look comes to
read_looks : (a : AttemptState) (its : MailRecord) (said : HeaderSaid) → AttemptLooks (read_on a its said)
read_looks a its Spoiled = puts_look a a.pending.sought
read_looks a its (Says previous version) =
    let moved : AttemptState = record a { pending = with_sought a.pending (moved_on a.pending.sought previous) } in
    either_looks (its.key.0 == (key_of a.pending.request.op).0) (attempt_ended a (told_value (value_of its.value))) _ tt
    (either_looks (is_chain_end a.pending.request.floor previous) (attempt_ended a answer.Absent) (puts moved) tt (puts_look moved moved.pending.sought))

record_looks : (p : Places) (bits : ℕ) (a : AttemptState) (its : MailRecord) (said : HeaderSaid) → AttemptLooks (record_taken p bits a its said)
record_looks p bits a its said = either_looks (is_seeking_read a) (read_on a its said) (tries p bits (record a { pending = with_held a.pending (held_of a.pending.sought its said) })) (read_looks a its said) tt

-- a record that is gone
anew_looks : (p : Places) (bits : ℕ) (a : AttemptState) (begin : Addr) → AttemptLooks (goes_anew p bits a begin)
anew_looks p bits a begin =
    let its : AttemptState = record a { pending = without_gone a.pending begin } in
    either_looks (is_seeking_read a) (waits_for_disk its) (tries p bits its) tt tt

taken_looks : (p : Places) (bits : ℕ) (a : AttemptState) (its : MailRecord) → AttemptLooks (mail_taken p bits a its)
taken_looks p bits a its =
    either_looks (is_gone its) (goes_anew p bits a (begin_told its)) (record_taken p bits a its (header_said its.header)) (anew_looks p bits a (begin_told its)) (record_looks p bits a its (header_said its.header))

none_looks : (p : Places) (bits : ℕ) (a : AttemptState) → AttemptLooks (not_ready p bits a)
none_looks p bits a = either_looks (is_seeking_read a) (waits_for_disk a) (tries p bits a) tt tt

look_looks : (p : Places) (bits : ℕ) (a : AttemptState) (ask : Ask MailAnswer) → a.step ≡ attempting.Looks → is_putting a.mailing ≡ false → AttemptLooks (look_ledto p bits a ask)
unfolding look_ledto
look_looks p bits a (Done (mail.Taken its)) at none = taken_looks p bits (record a { is_emptied = true; pending = with_asked a.pending false }) its
look_looks p bits a (Done other) at none = none_looks p bits a
look_looks p bits a ask at none = still_looks a attempting.Looks at none

-- a put
put_looks : (a : AttemptState) (ask : Ask MailAnswer) → a.step ≡ attempting.Puts → AttemptLooks (put_ledto a ask)
unfolding put_ledto
put_looks a (Done mail.Asked) at = tt
put_looks a (Done other) at = tt
put_looks a ask at = still_looks a attempting.Puts at tt

-- and a try
tried_looks : (a : AttemptState) (its : TryAnswer) → AttemptLooks (tried a its)
tried_looks a (answer.AwaitsDisk sought) =
    let kept : AttemptState = record a { pending = with_held a.pending (held_kept a.pending.request.held sought.entry) } in
    let moved : AttemptState = record kept { pending = with_sought kept.pending (Some sought) } in
    either_looks a.pending.has_asked (waits_for_disk kept) (puts moved) tt (puts_look moved moved.pending.sought)
tried_looks a (answer.Wait why) = tt
tried_looks a its = tt

try_looks : (a : AttemptState) (ask : Ask TryAnswer) → a.step ≡ attempting.Tries → AttemptLooks (try_ledto a ask)
unfolding try_ledto
try_looks a (Done its) at = tried_looks (record a { spare = a.trial.spare; pending = with_latch a.pending a.trial.has_shared }) its
try_looks a ask at = still_looks a attempting.Tries at tt

-- each reply
step_looks : (p : Places) (bits room session : ℕ) (a : AttemptState) (step : Attempting) (reply : ℕ) → a.step ≡ step → LooksAlone a step → AttemptLooks (attempting_next p bits room session a step reply)
unfolding attempting_next
step_looks p bits room session a (attempting.Ended its) reply at none = still_looks a (attempting.Ended its) at tt
step_looks p bits room session a attempting.Looks reply at none = look_looks p bits (mail_moved a reply) (mail_ask session (mail_next a.mailing reply)) at (next_puts a.mailing reply none)
step_looks p bits room session a attempting.Tries reply at none = try_looks (try_moved p room a reply) (try_ask p (try_next p room a.trial reply)) at
step_looks p bits room session a attempting.Puts reply at none = put_looks (mail_moved a reply) (mail_ask session (mail_next a.mailing reply)) at

same_looks : (a : AttemptState) (step : Attempting) → LooksAlone a step → LooksAlone (record a { effect = None }) step
same_looks a attempting.Looks none = none
same_looks a step none = tt

pub next_looks : (p : Places) (bits room session : ℕ) (a : AttemptState) (reply : ℕ) → AttemptLooks a → AttemptLooks (attempt_next p bits room session a reply)
next_looks p bits room session a reply none = step_looks p bits room session (record a { effect = None }) a.step reply refl (same_looks a a.step none)
