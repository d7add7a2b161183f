-- How an attempt works on the mailbox: by its own machine where this is under way, and with nothing begun else.
use Rattle.std.proofs.Common.{◌≡◌, ℕ, ◌∙◌, refl, sym, ap, subst, Bool, true, false}
use Rattle.std.specs.Prelude.{if◌then◌else◌, ◌==◌, Option, Some, None}
use Rattle.fkv_map.specs.Keys.{key_of}
use Rattle.fkv_plane.specs.declared.asks.Ask.{Ask}
use Rattle.fkv_plane.specs.declared.asks.Ask.TheVariants.{Done}
use Rattle.fkv_plane.specs.declared.places.Places.{Places}
use Rattle.fkv_plane.specs.Passing.{passed}
use Rattle.fkv_base.specs.declared.numbers.Addr.{Addr}
use Rattle.law_world.specs.Below.fkv_ops.Requests.{is_chain_end}
use Rattle.law_world.specs.Below.fkv_ops.DiskRecord.{DiskRecord}
use Rattle.law_world.specs.Below.fkv_ops.TryAnswer.{TryAnswer}
use Rattle.law_world.specs.Below.fkv_ops.TryAnswer.TheVariants as answer
use Rattle.law_world.specs.Below.fkv_ops.HeaderSaid.{HeaderSaid}
use Rattle.law_world.specs.Below.fkv_ops.HeaderSaid.TheVariants.{Says, Spoiled}
use Rattle.law_world.specs.Below.fkv_ops.Occasion.{Occasion}
use Rattle.law_world.specs.Below.fkv_ops.Seen.{Seen}
use Rattle.law_world.specs.Below.fkv_ops.HeaderWords.{header_said}
use Rattle.law_world.specs.Below.fkv_ops.Trying.{try_ask, try_next, told_value}
use Rattle.law_world.specs.Below.fkv_ops.Values.{value_of}
use Rattle.law_world.specs.Below.fkv_pending.TheAttempting.{Attempting}
use Rattle.law_world.specs.Below.fkv_pending.TheAttempting.TheVariants.{Ended, Looks, Tries, Puts}
use Rattle.law_world.specs.Below.fkv_pending.MailAnswer.TheVariants as mail
use Rattle.law_world.specs.Below.fkv_pending.MailRecord.{MailRecord}
use Rattle.law_world.specs.Below.fkv_pending.MailTask.TheVariants.{Take, Put}
use Rattle.law_world.specs.Below.fkv_pending.TheMailing.{Mailing}
use Rattle.law_world.specs.Below.fkv_pending.TheMailing.TheVariants as mailing
use Rattle.law_world.specs.Below.fkv_pending.PendingRequest.{PendingRequest}
use Rattle.law_world.specs.Below.fkv_pending.Mailing.{mail_ask, mail_next, is_gone, begin_told}
use Rattle.law_world.specs.Below.fkv_pending.MailWorld.{is_at_end, has_emptied}
use Rattle.law_world.specs.Below.fkv_pending.Pending.{with_sought, with_held, with_latch, with_asked, without_gone}
use Rattle.law_world.specs.Below.fkv_pending.Attempting.{AttemptState, attempting_ask, attempt_ask, attempt_ended, waits_for_disk, puts_addr, puts, tries, is_seeking_read, goes_on, attempt_begun, held_of, moved_on, read_on, record_taken, goes_anew, mail_taken, look_ledto, held_kept, tried, try_ledto, put_ledto, mail_moved, try_moved, attempting_next, attempt_next, new_attempt}
use Rattle.law_refine.specs.Mail.Mailers.{attempt_mailing}

-- what a machine has become where it may have begun a task
abbrev pub begun : Mailing → Option Mailing → Mailing
begun m (Some (mailing.LoadsState task)) = if is_at_end m then mailing.LoadsState task else m
begun m (Some (mailing.StoresAddress addr)) = if has_emptied m then mailing.StoresAddress addr else m
begun m its = m

-- and where it was replied to, if it was under way
abbrev pub moved_of : Option Mailing → Mailing → ℕ → Mailing
moved_of None m reply = m
moved_of (Some step) m reply = mail_next step reply

-- a machine that is under way is not at its end, and the one that the mailbox has
abbrev pub IsUnderWay : Mailing → Mailing → Type 0
IsUnderWay its m = (m ≡ its) × (is_at_end its ≡ false)

-- what is known of an attempt beside the machine of its mailbox's world
abbrev pub AttemptSits : AttemptState → Attempting → Mailing → Type 0
AttemptSits a (Ended its) m = is_at_end m ≡ true
AttemptSits a Looks m = IsUnderWay a.mailing m × (a.is_emptied ≡ false)
AttemptSits a Tries m = (is_at_end m ≡ true) × (a.is_emptied ≡ true → has_emptied m ≡ true)
AttemptSits a Puts m = IsUnderWay a.mailing m

-- what an attempt leads to
abbrev pub AttemptLeads : AttemptState → Mailing → Type 0
AttemptLeads a m = AttemptSits a a.step (begun m (attempt_mailing a a.step))

-- a task may be begun, and an address put at once where the mailbox was emptied in this attempt
abbrev pub IsFree : AttemptState → Mailing → Type 0
IsFree a m = (is_at_end m ≡ true) × (a.is_emptied ≡ true → has_emptied m ≡ true)

pub begun_same : (m : Mailing) → begun m (Some m) ≡ m
begun_same (mailing.Ended its) = refl
begun_same (mailing.LoadsState task) = refl
begun_same mailing.LoadsHeader = refl
begun_same (mailing.LoadsKey header) = refl
begun_same (mailing.LoadsValue header key) = refl
begun_same (mailing.StoresEmpty its) = refl
begun_same (mailing.StoresAddress addr) = refl
begun_same mailing.StoresAsked = refl

either_leads : (c : Bool) (a b : AttemptState) (m : Mailing) → AttemptLeads a m → AttemptLeads b m → AttemptLeads (if c then a else b) m
either_leads true a b m one other = one
either_leads false a b m one other = other

-- the attempt goes on with its machine
looks_on : (a : AttemptState) (m : Mailing) → a.step ≡ Looks → IsUnderWay a.mailing m → a.is_emptied ≡ false → AttemptLeads a m
looks_on a m at its emptied =
    subst (λ (x : Attempting). AttemptSits a x (begun m (attempt_mailing a x))) (sym at)
    ((ap (λ (x : Mailing). begun m (Some x)) (sym its.0) ∙ begun_same m ∙ its.0, its.1), emptied)

puts_on : (a : AttemptState) (m : Mailing) → a.step ≡ Puts → IsUnderWay a.mailing m → AttemptLeads a m
puts_on a m at its =
    subst (λ (x : Attempting). AttemptSits a x (begun m (attempt_mailing a x))) (sym at)
    (ap (λ (x : Mailing). begun m (Some x)) (sym its.0) ∙ begun_same m ∙ its.0, its.1)

ended_on : (a : AttemptState) (its : TryAnswer) (m : Mailing) → a.step ≡ Ended its → is_at_end m ≡ true → AttemptLeads a m
ended_on a its m at ended = subst (λ (x : Attempting). AttemptSits a x (begun m (attempt_mailing a x))) (sym at) ended

tries_on : (a : AttemptState) (m : Mailing) → a.step ≡ Tries → IsFree a m → AttemptLeads a m
tries_on a m at free = subst (λ (x : Attempting). AttemptSits a x (begun m (attempt_mailing a x))) (sym at) free

-- an address is put
put_begun : (b : Bool) (addr : _) (m : Mailing) → is_at_end m ≡ true → (b ≡ true → has_emptied m ≡ true)
    → IsUnderWay (if b then mailing.StoresAddress addr else mailing.LoadsState (Put addr)) (begun m (Some (if b then mailing.StoresAddress addr else mailing.LoadsState (Put addr))))
put_begun true addr m ended emptied = (ap (λ (c : Bool). if c then mailing.StoresAddress addr else m) (emptied refl), refl)
put_begun false addr m ended emptied = (ap (λ (c : Bool). if c then mailing.LoadsState (Put addr) else m) ended, refl)

puts_leads : (a : AttemptState) (sought : Option DiskRecord) (m : Mailing) → IsFree a m → AttemptLeads (puts_addr a sought) m
puts_leads a None m free = free.0
puts_leads a (Some sought) m free = put_begun a.is_emptied sought.addr m free.0 free.1

tries_leads : (p : Places) (bits : ℕ) (a : AttemptState) (m : Mailing) → IsFree a m → AttemptLeads (tries p bits a) m
tries_leads p bits a m free = free

goes_leads : (p : Places) (bits : ℕ) (a : AttemptState) (m : Mailing) → IsFree a m → AttemptLeads (goes_on p bits a) m
goes_leads p bits a m free = either_leads (is_seeking_read a) (puts a) (tries p bits a) m (puts_leads a a.pending.sought m free) (tries_leads p bits a m free)

never : {A : Type 0} → false ≡ true → A
never e = cc

pub attempt_begun_leads : (p : Places) (bits : ℕ) (pending : PendingRequest) (seen : Seen) (occasion : Occasion) (spare : ℕ) (is_orphaned : Bool) (m : Mailing) → is_at_end m ≡ true
    → AttemptLeads (attempt_begun p bits pending seen occasion spare is_orphaned) m
attempt_begun_leads p bits pending seen occasion spare is_orphaned m ended =
    let first : AttemptState = new_attempt bits pending seen occasion spare is_orphaned in
    either_leads pending.has_asked (record first { mailing = mailing.LoadsState Take; step = Looks }) (goes_on p bits first) m
    ((ap (λ (c : Bool). if c then mailing.LoadsState Take else m) ended, refl), refl) (goes_leads p bits first m (ended, λ e. never e))

-- what a look comes to
read_leads : (a : AttemptState) (its : MailRecord) (said : HeaderSaid) (m : Mailing) → IsFree a m → AttemptLeads (read_on a its said) m
read_leads a its Spoiled m free = puts_leads a a.pending.sought m free
read_leads a its (Says previous version) m free =
    let moved : AttemptState = record a { pending = with_sought a.pending (moved_on a.pending.sought previous) } in
    either_leads (its.key.0 == (key_of a.pending.request.op).0) (attempt_ended a (told_value (value_of its.value))) _ m free.0
    (either_leads (is_chain_end a.pending.request.floor previous) (attempt_ended a answer.Absent) (puts moved) m free.0 (puts_leads moved moved.pending.sought m free))

record_leads : (p : Places) (bits : ℕ) (a : AttemptState) (its : MailRecord) (said : HeaderSaid) (m : Mailing) → IsFree a m → AttemptLeads (record_taken p bits a its said) m
record_leads p bits a its said m free =
    let held : AttemptState = record a { pending = with_held a.pending (held_of a.pending.sought its said) } in
    either_leads (is_seeking_read a) (read_on a its said) (tries p bits held) m (read_leads a its said m free) (tries_leads p bits held m free)

anew_leads : (p : Places) (bits : ℕ) (a : AttemptState) (begin : Addr) (m : Mailing) → IsFree a m → AttemptLeads (goes_anew p bits a begin) m
anew_leads p bits a begin m free =
    let its : AttemptState = record a { pending = without_gone a.pending begin } in
    either_leads (is_seeking_read a) (waits_for_disk its) (tries p bits its) m free.0 (tries_leads p bits its m free)

mail_leads : (p : Places) (bits : ℕ) (a : AttemptState) (its : MailRecord) (m : Mailing) → IsFree a m → AttemptLeads (mail_taken p bits a its) m
mail_leads p bits a its m free =
    either_leads (is_gone its) (goes_anew p bits a (begin_told its)) (record_taken p bits a its (header_said its.header)) m (anew_leads p bits a (begin_told its) m free) (record_leads p bits a its (header_said its.header) m free)

none_leads : (p : Places) (bits : ℕ) (a : AttemptState) (m : Mailing) → is_at_end m ≡ true → a.is_emptied ≡ false
    → AttemptLeads (if is_seeking_read a then waits_for_disk a else tries p bits a) m
none_leads p bits a m ended emptied =
    either_leads (is_seeking_read a) (waits_for_disk a) (tries p bits a) m ended (tries_leads p bits a m (ended, λ e. never (sym emptied ∙ e)))

look_leads : (p : Places) (bits n : ℕ) (a : AttemptState) (m : Mailing) → a.step ≡ Looks → a.mailing ≡ m → a.is_emptied ≡ false → AttemptLeads (look_ledto p bits a (mail_ask n m)) m
unfolding look_ledto mail_ask
look_leads p bits n a (mailing.Ended (mail.Taken its)) at same emptied =
    mail_leads p bits (record a { is_emptied = true; pending = with_asked a.pending false }) its (mailing.Ended (mail.Taken its)) (refl, λ e. refl)
look_leads p bits n a (mailing.Ended mail.Cleared) at same emptied = none_leads p bits a _ refl emptied
look_leads p bits n a (mailing.Ended mail.NotReady) at same emptied = none_leads p bits a _ refl emptied
look_leads p bits n a (mailing.Ended mail.Asked) at same emptied = none_leads p bits a _ refl emptied
look_leads p bits n a (mailing.Ended mail.Occupied) at same emptied = none_leads p bits a _ refl emptied
look_leads p bits n a (mailing.LoadsState task) at same emptied = looks_on a _ at (sym same, ap is_at_end same) emptied
look_leads p bits n a mailing.LoadsHeader at same emptied = looks_on a _ at (sym same, ap is_at_end same) emptied
look_leads p bits n a (mailing.LoadsKey header) at same emptied = looks_on a _ at (sym same, ap is_at_end same) emptied
look_leads p bits n a (mailing.LoadsValue header key) at same emptied = looks_on a _ at (sym same, ap is_at_end same) emptied
look_leads p bits n a (mailing.StoresEmpty its) at same emptied = looks_on a _ at (sym same, ap is_at_end same) emptied
look_leads p bits n a (mailing.StoresAddress addr) at same emptied = looks_on a _ at (sym same, ap is_at_end same) emptied
look_leads p bits n a mailing.StoresAsked at same emptied = looks_on a _ at (sym same, ap is_at_end same) emptied

-- and a put
put_leads : (n : ℕ) (a : AttemptState) (m : Mailing) → a.step ≡ Puts → a.mailing ≡ m → AttemptLeads (put_ledto a (mail_ask n m)) m
unfolding put_ledto mail_ask
put_leads n a (mailing.Ended mail.Asked) at same = refl
put_leads n a (mailing.Ended mail.Cleared) at same = refl
put_leads n a (mailing.Ended mail.NotReady) at same = refl
put_leads n a (mailing.Ended (mail.Taken its)) at same = refl
put_leads n a (mailing.Ended mail.Occupied) at same = refl
put_leads n a (mailing.LoadsState task) at same = puts_on a _ at (sym same, ap is_at_end same)
put_leads n a mailing.LoadsHeader at same = puts_on a _ at (sym same, ap is_at_end same)
put_leads n a (mailing.LoadsKey header) at same = puts_on a _ at (sym same, ap is_at_end same)
put_leads n a (mailing.LoadsValue header key) at same = puts_on a _ at (sym same, ap is_at_end same)
put_leads n a (mailing.StoresEmpty its) at same = puts_on a _ at (sym same, ap is_at_end same)
put_leads n a (mailing.StoresAddress addr) at same = puts_on a _ at (sym same, ap is_at_end same)
put_leads n a mailing.StoresAsked at same = puts_on a _ at (sym same, ap is_at_end same)

-- and a try
tried_leads : (a : AttemptState) (its : TryAnswer) (m : Mailing) → IsFree a m → AttemptLeads (tried a its) m
tried_leads a (answer.AwaitsDisk sought) m free =
    let kept : AttemptState = record a { pending = with_held a.pending (held_kept a.pending.request.held sought.entry) } in
    let moved : AttemptState = record kept { pending = with_sought kept.pending (Some sought) } in
    either_leads a.pending.has_asked (waits_for_disk kept) (puts moved) m free.0 (puts_leads moved moved.pending.sought m free)
tried_leads a (answer.Wait why) m free = free.0
tried_leads a its m free = free.0

try_leads : (a : AttemptState) (ask : Ask TryAnswer) (m : Mailing) → a.step ≡ Tries → IsFree a m → AttemptLeads (try_ledto a ask) m
unfolding try_ledto
try_leads a (Done its) m at free = tried_leads (record a { spare = a.trial.spare; pending = with_latch a.pending a.trial.has_shared }) its m free
try_leads a ask m at free = tries_on a m at free

next_leads : (p : Places) (bits room n : ℕ) (a : AttemptState) (step : Attempting) (reply : ℕ) (m : Mailing) → a.step ≡ step → AttemptSits a step m
    → AttemptLeads (attempting_next p bits room n a step reply) (moved_of (attempt_mailing a step) m reply)
unfolding attempting_next
next_leads p bits room n a (Ended its) reply m at sits = ended_on a its m at sits
next_leads p bits room n a Looks reply m at sits = look_leads p bits n (mail_moved a reply) (mail_next a.mailing reply) at refl sits.1
next_leads p bits room n a Tries reply m at sits = try_leads (try_moved p room a reply) (try_ask p (try_next p room a.trial reply)) m at sits
next_leads p bits room n a Puts reply m at sits = put_leads n (mail_moved a reply) (mail_next a.mailing reply) at refl

effect_sits : (a : AttemptState) (step : Attempting) (m : Mailing) → AttemptSits a step m → AttemptSits (record a { effect = None }) step m
effect_sits a (Ended its) m sits = sits
effect_sits a Looks m sits = sits
effect_sits a Tries m sits = sits
effect_sits a Puts m sits = sits

same_mailing : (a : AttemptState) (step : Attempting) → attempt_mailing (record a { effect = None }) step ≡ attempt_mailing a step
same_mailing a (Ended its) = refl
same_mailing a Looks = refl
same_mailing a Tries = refl
same_mailing a Puts = refl

-- each reply
pub attempt_next_leads : (p : Places) (bits room n : ℕ) (a : AttemptState) (reply : ℕ) (m : Mailing) → AttemptSits a a.step m → AttemptLeads (attempt_next p bits room n a reply) (moved_of (attempt_mailing a a.step) m reply)
attempt_next_leads p bits room n a reply m sits =
    subst (λ (x : Option Mailing). AttemptLeads (attempt_next p bits room n a reply) (moved_of x m reply)) (same_mailing a a.step)
    (next_leads p bits room n (record a { effect = None }) a.step reply m refl (effect_sits a a.step m sits))

-- an attempt that is through has no task under way
mail_asks : {A : Type 0} (n : ℕ) (its : Mailing) (told answer : A) → is_at_end its ≡ false → passed (mail_ask n its) told ≡ Done answer → ⊥
unfolding mail_ask passed
mail_asks n (mailing.Ended its) told answer way e = cc
mail_asks n (mailing.LoadsState task) told answer way e = cc
mail_asks n mailing.LoadsHeader told answer way e = cc
mail_asks n (mailing.LoadsKey header) told answer way e = cc
mail_asks n (mailing.LoadsValue header key) told answer way e = cc
mail_asks n (mailing.StoresEmpty its) told answer way e = cc
mail_asks n (mailing.StoresAddress addr) told answer way e = cc
mail_asks n mailing.StoresAsked told answer way e = cc

through_step : (p : Places) (n : ℕ) (a : AttemptState) (step : Attempting) (its : TryAnswer) (m : Mailing) → AttemptSits a step (begun m (attempt_mailing a step)) → attempting_ask p n a step ≡ Done its → is_at_end m ≡ true
unfolding attempting_ask
through_step p n a (Ended told) its m sits e = sits
through_step p n a Looks its m sits e = absurd (mail_asks n a.mailing answer.Shift its sits.0.1 e)
through_step p n a Tries its m sits e = sits.0
through_step p n a Puts its m sits e = absurd (mail_asks n a.mailing answer.Shift its sits.1 e)

pub through_ends : (p : Places) (n : ℕ) (a : AttemptState) (its : TryAnswer) (m : Mailing) → AttemptLeads a m → attempt_ask p n a ≡ Done its → is_at_end m ≡ true
through_ends p n a its m leads e = through_step p n a a.step its m leads e
