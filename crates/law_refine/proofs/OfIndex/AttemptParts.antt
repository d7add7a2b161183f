-- What an attempt is about in the index, and how a reply moves it.
use Rattle.std.proofs.Common.{◌≡◌, ℕ, ◌∙◌, refl, sym, ap, subst, Bool, true, false}
use Rattle.std.specs.Prelude.{if◌then◌else◌, ◌==◌, ⊤, Option, Some, None}
use Rattle.fkv_base.specs.declared.numbers.Key.{Key}
use Rattle.fkv_base.specs.declared.numbers.Addr.{Addr}
use Rattle.fkv_map.specs.Keys.{key_of}
use Rattle.fkv_plane.specs.declared.asks.Ask.{Ask}
use Rattle.fkv_plane.specs.declared.asks.Ask.TheVariants.{Done}
use Rattle.fkv_plane.specs.declared.places.Places.{Places}
use Rattle.fkv_plane.specs.Passing.{is_done}
use Rattle.fkv_index.specs.OneEntry.{IsHome}
use Rattle.fkv_index.specs.Slots.{home_of}
use Rattle.law_world.specs.Below.fkv_ops.DiskRecord.{DiskRecord}
use Rattle.law_world.specs.Below.fkv_ops.TryAnswer.{TryAnswer}
use Rattle.law_world.specs.Below.fkv_ops.TryAnswer.TheVariants as answer
use Rattle.law_world.specs.Below.fkv_ops.HeaderSaid.{HeaderSaid}
use Rattle.law_world.specs.Below.fkv_ops.HeaderSaid.TheVariants.{Says, Spoiled}
use Rattle.law_world.specs.Below.fkv_ops.Occasion.{Occasion}
use Rattle.law_world.specs.Below.fkv_ops.Seen.{Seen}
use Rattle.law_world.specs.Below.fkv_ops.HeaderWords.{header_said}
use Rattle.law_world.specs.Below.fkv_ops.Trying.{try_ask, try_next, told_value}
use Rattle.law_world.specs.Below.fkv_ops.Values.{value_of}
use Rattle.law_world.proofs.Below.fkv_ops.Shown.{TryRestsOrAsks, try_done, try_rests}
use Rattle.law_world.specs.Below.fkv_pending.TheAttempting.{Attempting}
use Rattle.law_world.specs.Below.fkv_pending.TheAttempting.TheVariants.{Ended, Looks, Tries, Puts}
use Rattle.law_world.specs.Below.fkv_pending.MailAnswer.{MailAnswer}
use Rattle.law_world.specs.Below.fkv_pending.MailAnswer.TheVariants as mail
use Rattle.law_world.specs.Below.fkv_pending.MailRecord.{MailRecord}
use Rattle.law_world.specs.Below.fkv_pending.MailTask.TheVariants.{Take}
use Rattle.law_world.specs.Below.fkv_pending.TheMailing.TheVariants.{LoadsState}
use Rattle.law_world.specs.Below.fkv_pending.PendingRequest.{PendingRequest}
use Rattle.law_world.specs.Below.fkv_pending.Mailing.{mail_ask, mail_next, begin_told, is_gone}
use Rattle.law_world.specs.Below.fkv_pending.Pending.{with_sought, with_held, with_latch, with_asked, without_gone}
use Rattle.law_world.specs.Below.fkv_ops.Requests.{is_chain_end}
use Rattle.law_world.specs.Below.fkv_pending.Attempting.{AttemptState, attempt_ended, waits_for_disk, puts_addr, puts, tries, is_seeking_read, goes_on, attempt_begun, held_of, moved_on, read_on, record_taken, look_ledto, held_kept, tried, try_ledto, put_ledto, mail_moved, try_moved, attempting_next, attempt_next, new_attempt, goes_anew, mail_taken}
use Rattle.law_world.proofs.Below.fkv_pending.Shown.{is_attempt_end, AttemptAsksAt, AttemptRestsOrAsks}
use Rattle.law_refine.specs.Index.Finders.{NoWork, IndexPart, try_part, attempt_part}
use Rattle.law_refine.proofs.OfIndex.Goes.{Drops, Goes, part, leads_on}
use Rattle.law_refine.proofs.OfIndex.TryParts.{TryKnows, TryGoes, try_goes, begun_goes, try_end_part}

-- each key has a home in the index
abbrev pub HaveHomes : Places → ℕ → Type 0
HaveHomes p bits = (key : Key) → IsHome p (home_of bits key)

abbrev pub AttemptKnows : Places → AttemptState → Attempting → Type 0
AttemptKnows p a Tries = TryKnows p a.trial
AttemptKnows p a step = ⊤

pub record AttemptGoes (p : Places) (reply : ℕ) (before : IndexPart) (a : AttemptState) : Type 0 where
  pub knows : AttemptKnows p a a.step
  pub goes : Goes p reply before (attempt_part a a.step)

-- from where it is about nothing
abbrev Free : Places → ℕ → AttemptState → ℕ → Type 0
Free p reply a spare = AttemptGoes p reply (part NoWork spare) a

either_free : (c : Bool) {p : Places} {reply spare : ℕ} (a b : AttemptState) → Free p reply a spare → Free p reply b spare → Free p reply (if c then a else b) spare
either_free true a b one other = one
either_free false a b one other = other

rests : (p : Places) (reply : ℕ) (spare : ℕ) → Goes p reply (part NoWork spare) (part NoWork spare)
rests p reply spare = record { work = Drops tt refl; spare = refl }

puts_free : (p : Places) (reply : ℕ) (a : AttemptState) (sought : Option DiskRecord) → Free p reply (puts_addr a sought) a.spare
puts_free p reply a None = record { knows = tt; goes = rests p reply a.spare }
puts_free p reply a (Some sought) = record { knows = tt; goes = rests p reply a.spare }

tries_free : (p : Places) (bits reply : ℕ) (a : AttemptState) → HaveHomes p bits → Free p reply (tries p bits a) a.spare
tries_free p bits reply a homes =
    let its = begun_goes p bits reply a.pending.request a.seen a.occasion a.spare (homes (key_of a.pending.request.op)) in
    record { knows = its.knows; goes = its.goes }

goes_free : (p : Places) (bits reply : ℕ) (a : AttemptState) → HaveHomes p bits → Free p reply (goes_on p bits a) a.spare
goes_free p bits reply a homes = either_free (is_seeking_read a) (puts a) (tries p bits a) (puts_free p reply a a.pending.sought) (tries_free p bits reply a homes)

pub attempt_begun_goes : (p : Places) (bits reply : ℕ) (pending : PendingRequest) (seen : Seen) (occasion : Occasion) (spare : ℕ) (is_orphaned : Bool) → HaveHomes p bits
    → AttemptGoes p reply (part NoWork spare) (attempt_begun p bits pending seen occasion spare is_orphaned)
attempt_begun_goes p bits reply pending seen occasion spare is_orphaned homes =
    let first : AttemptState = new_attempt bits pending seen occasion spare is_orphaned in
    either_free pending.has_asked (record first { mailing = LoadsState Take; step = Looks }) (goes_on p bits first) (record { knows = tt; goes = rests p reply spare }) (goes_free p bits reply first homes)

ended_free : (p : Places) (reply : ℕ) (a : AttemptState) (its : TryAnswer) → Free p reply (attempt_ended a its) a.spare
ended_free p reply a its = record { knows = tt; goes = rests p reply a.spare }

read_free : (p : Places) (reply : ℕ) (a : AttemptState) (its : MailRecord) (said : HeaderSaid) → Free p reply (read_on a its said) a.spare
read_free p reply a its Spoiled = puts_free p reply a a.pending.sought
read_free p reply a its (Says previous version) =
    let moved : AttemptState = record a { pending = with_sought a.pending (moved_on a.pending.sought previous) } in
    either_free (its.key.0 == (key_of a.pending.request.op).0) (attempt_ended a (told_value (value_of its.value))) _ (ended_free p reply a _)
    (either_free (is_chain_end a.pending.request.floor previous) (attempt_ended a answer.Absent) (puts moved) (ended_free p reply a _)
    (puts_free p reply moved moved.pending.sought))

record_free : (p : Places) (bits reply : ℕ) (a : AttemptState) (its : MailRecord) (said : HeaderSaid) → HaveHomes p bits → Free p reply (record_taken p bits a its said) a.spare
record_free p bits reply a its said homes =
    let held : AttemptState = record a { pending = with_held a.pending (held_of a.pending.sought its said) } in
    either_free (is_seeking_read a) (read_on a its said) (tries p bits held) (read_free p reply a its said) (tries_free p bits reply held homes)

anew_free : (p : Places) (bits reply : ℕ) (a : AttemptState) (begin : Addr) → HaveHomes p bits → Free p reply (goes_anew p bits a begin) a.spare
anew_free p bits reply a begin homes =
    let its : AttemptState = record a { pending = without_gone a.pending begin } in
    either_free (is_seeking_read a) (waits_for_disk its) (tries p bits its) (ended_free p reply its _) (tries_free p bits reply its homes)

mail_free : (p : Places) (bits reply : ℕ) (a : AttemptState) (its : MailRecord) → HaveHomes p bits → Free p reply (mail_taken p bits a its) a.spare
mail_free p bits reply a its homes =
    either_free (is_gone its) (goes_anew p bits a (begin_told its)) (record_taken p bits a its (header_said its.header))
    (anew_free p bits reply a (begin_told its) homes) (record_free p bits reply a its (header_said its.header) homes)

stays_free : (p : Places) (reply : ℕ) (a : AttemptState) (step : Attempting) → a.step ≡ step → AttemptKnows p a step → attempt_part a step ≡ part NoWork a.spare → Free p reply a a.spare
stays_free p reply a step at knows none = record {
  knows = subst (λ x. AttemptKnows p a x) (sym at) knows;
  goes = subst (λ x. Goes p reply (part NoWork a.spare) x) (sym (ap (λ (x : Attempting). attempt_part a x) at ∙ none)) (rests p reply a.spare);
}

look_free : (p : Places) (bits reply : ℕ) (a : AttemptState) (ask : Ask MailAnswer) → a.step ≡ Looks → HaveHomes p bits → Free p reply (look_ledto p bits a ask) a.spare
unfolding look_ledto
look_free p bits reply a (Done (mail.Taken its)) at homes =
    mail_free p bits reply (record a { is_emptied = true; pending = with_asked a.pending false }) its homes
look_free p bits reply a (Done other) at homes = either_free (is_seeking_read a) (waits_for_disk a) (tries p bits a) (ended_free p reply a _) (tries_free p bits reply a homes)
look_free p bits reply a ask at homes = stays_free p reply a Looks at tt refl

put_free : (p : Places) (reply : ℕ) (a : AttemptState) (ask : Ask MailAnswer) → a.step ≡ Puts → Free p reply (put_ledto a ask) a.spare
unfolding put_ledto
put_free p reply a (Done mail.Asked) at = ended_free p reply (record a { pending = with_asked a.pending true }) _
put_free p reply a (Done other) at = ended_free p reply a _
put_free p reply a ask at = stays_free p reply a Puts at tt refl

tried_free : (p : Places) (reply : ℕ) (a : AttemptState) (its : TryAnswer) → Free p reply (tried a its) a.spare
tried_free p reply a (answer.AwaitsDisk sought) =
    let kept : AttemptState = record a { pending = with_held a.pending (held_kept a.pending.request.held sought.entry) } in
    let moved : AttemptState = record kept { pending = with_sought kept.pending (Some sought) } in
    either_free a.pending.has_asked (waits_for_disk kept) (puts moved) (ended_free p reply kept _) (puts_free p reply moved moved.pending.sought)
tried_free p reply a (answer.Wait why) = ended_free p reply a _
tried_free p reply a its = record { knows = tt; goes = rests p reply a.spare }

try_led : (p : Places) (reply : ℕ) (before : IndexPart) (a : AttemptState) (ask : Ask TryAnswer) → a.step ≡ Tries → try_ask p a.trial ≡ ask → TryRestsOrAsks a.trial → TryGoes p reply before a.trial → AttemptGoes p reply before (try_ledto a ask)
unfolding try_ledto
try_led p reply before a (Done its) at asks rests led =
    let none = try_end_part a.trial a.trial.step (sym (try_done p a.trial rests) ∙ ap is_done asks) in
    let behind = tried_free p reply (record a { spare = a.trial.spare; pending = with_latch a.pending a.trial.has_shared }) its in
    record { knows = behind.knows; goes = leads_on p reply reply before _ a.trial.spare (subst (λ x. Goes p reply before x) none led.goes) behind.goes }
try_led p reply before a ask at asks rests led = record {
  knows = subst (λ x. AttemptKnows p a x) (sym at) led.knows;
  goes = subst (λ x. Goes p reply before (attempt_part a x)) (sym at) led.goes;
}

step_goes : (p : Places) (bits room session : ℕ) (a : AttemptState) (step : Attempting) (reply : ℕ) → a.step ≡ step → HaveHomes p bits → AttemptAsksAt a step → AttemptKnows p a step
    → AttemptGoes p reply (attempt_part a step) (attempting_next p bits room session (record a { effect = None }) step reply)
unfolding attempting_next
step_goes p bits room session a (Ended its) reply at homes asks knows = stays_free p reply (record a { effect = None }) (Ended its) at tt refl
step_goes p bits room session a Looks reply at homes asks knows = look_free p bits reply (mail_moved (record a { effect = None }) reply) (mail_ask session (mail_next a.mailing reply)) at homes
step_goes p bits room session a Tries reply at homes asks knows =
    try_led p reply (try_part a.trial a.trial.step) (try_moved p room (record a { effect = None }) reply) (try_ask p (try_next p room a.trial reply)) at refl (try_rests p room a.trial reply asks.0) (try_goes p room a.trial reply knows asks.0)
step_goes p bits room session a Puts reply at homes asks knows = put_free p reply (mail_moved (record a { effect = None }) reply) (mail_ask session (mail_next a.mailing reply)) at

-- each reply
pub attempt_goes : (p : Places) (bits room session : ℕ) (a : AttemptState) (reply : ℕ) → HaveHomes p bits → AttemptRestsOrAsks a → AttemptKnows p a a.step
    → AttemptGoes p reply (attempt_part a a.step) (attempt_next p bits room session a reply)
attempt_goes p bits room session a reply homes asks knows = step_goes p bits room session a a.step reply refl homes asks knows

-- an attempt at its end is about nothing
pub attempt_end_part : (a : AttemptState) (step : Attempting) → is_attempt_end step ≡ true → attempt_part a step ≡ part NoWork a.spare
attempt_end_part a (Ended its) ends = refl
attempt_end_part a step ends = cc
