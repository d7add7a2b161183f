-- Each true reply leads an attempt on to a state of which it knows what it has to.
use Rattle.std.proofs.Common.{◌≡◌, ◌≢◌, ℕ, ◌≤◌, ◌∙◌, refl, sym, ap, subst, Bool, true, false, Option, Some, None}
use Rattle.std.specs.Prelude.{◌==◌, ◌&&◌, if◌then◌else◌}
use Rattle.std.specs.Option.{is_some}
use Rattle.fkv_base.specs.declared.numbers.Addr.{Addr}
use Rattle.fkv_map.specs.Keys.{key_of}
use Rattle.fkv_plane.specs.declared.asks.Ask.{Ask}
use Rattle.fkv_plane.specs.declared.asks.Ask.TheVariants.{Done}
use Rattle.fkv_plane.specs.declared.places.Places.{Places}
use Rattle.law_log.specs.Begins.{Live}
use Rattle.law_log.specs.Ghosts.{Log}
use Rattle.fkv_ops.specs.declared.answers.DiskRecord.{DiskRecord}
use Rattle.fkv_ops.specs.declared.answers.TryAnswer.{TryAnswer}
use Rattle.fkv_ops.specs.declared.answers.TryAnswer.TheVariants as answer
use Rattle.fkv_ops.specs.declared.header_words.HeaderSaid.{HeaderSaid}
use Rattle.fkv_ops.specs.declared.header_words.HeaderSaid.TheVariants.{Says, Spoiled}
use Rattle.fkv_ops.specs.declared.requests.HeldRecord.{HeldRecord}
use Rattle.fkv_ops.specs.declared.requests.Occasion.{Occasion}
use Rattle.fkv_ops.specs.declared.requests.Request.{Request}
use Rattle.fkv_ops.specs.declared.requests.Seen.{Seen}
use Rattle.fkv_ops.specs.HeaderWords.{header_said}
use Rattle.fkv_ops.specs.Requests.{is_read, is_chain_end}
use Rattle.fkv_ops.specs.Values.{value_of}
use Rattle.fkv_ops.specs.Trying.{TryState, told_value, try_ask, try_next}
use Rattle.fkv_pending.specs.declared.attempting.Attempting.{Attempting}
use Rattle.fkv_pending.specs.declared.attempting.Attempting.TheVariants.{Ended, Looks, Tries, Puts}
use Rattle.fkv_pending.specs.declared.mailing.MailAnswer.{MailAnswer}
use Rattle.fkv_pending.specs.declared.mailing.MailAnswer.TheVariants as mail
use Rattle.fkv_pending.specs.declared.mailing.MailRecord.{MailRecord}
use Rattle.fkv_pending.specs.declared.mailing.MailTask.TheVariants.{Take, Put}
use Rattle.fkv_pending.specs.declared.mailing.Mailing.TheVariants.{LoadsState, StoresAddress}
use Rattle.fkv_pending.specs.declared.pending_requests.PendingRequest.{PendingRequest}
use Rattle.fkv_pending.specs.Mailing.{mail_ask, mail_next, is_gone, begin_told}
use Rattle.fkv_pending.specs.Pending.{with_sought, with_held, with_latch, with_asked, without_gone}
use Rattle.fkv_pending.specs.Attempting.{AttemptState, attempt_ended, waits_for_disk, puts_addr, puts, tries, is_poll, is_seeking_read, goes_on, attempt_begun, held_of, moved_on, read_on, record_taken, goes_anew, mail_taken as mail_led, not_ready, look_ledto, held_kept, awaits_record, tried, try_ledto, put_ledto, attempting_next, attempt_next, new_attempt}
use Rattle.law_local.specs.Tries.OnWay.{IsOrderly}
use Rattle.law_local.specs.Tries.HeldRows.{HeldKnows, IsSoughtFrom, SoughtKnows}
use Rattle.law_local.specs.Tries.MailRows.{MailKnows, PutsThere, PutsSought}
use Rattle.law_local.specs.Tries.TryRows.{key_in, head_in, floor_in, MarksTell, NoneLaterPast}
use Rattle.law_local.specs.Tries.AttemptRows.{PendingKnows, AsksAtPoll, TriesFor, AttemptRow, AttemptKnows, IsTrueOfAttempt}
use Rattle.law_local.proofs.OfTries.Tests.{eq_false, eq_true, not_both}
use Rattle.law_local.proofs.OfTries.HeldSteps.{held_knows, moved_knows}
use Rattle.law_local.proofs.OfTries.MailRows.{TakenOf, mail_leads, mail_begun, mail_gone, mail_taken, puts_leads}
use Rattle.law_local.proofs.OfTries.Tells.{try_seeks}
use Rattle.law_local.proofs.OfTries.TrialKept.{KeepsRequest, try_kept, begun_for}
use Rattle.law_local.proofs.OfTries.TryBegins.{try_begins}
use Rattle.law_local.proofs.OfTries.TrySteps.{try_leads}

-- ---- the request as it changes
pub asked_pending : (home : ℕ → ℕ) (log : Log) (pending : PendingRequest) (seen : Seen) (b : Bool) → PendingKnows home log pending seen → PendingKnows home log (with_asked pending b) seen
unfolding with_asked
asked_pending home log pending seen b knows = record { request = knows.request; sought = knows.sought; unlatched = knows.unlatched }

held_pending : (home : ℕ → ℕ) (log : Log) (pending : PendingRequest) (seen : Seen) (held : Option HeldRecord) → PendingKnows home log pending seen → HeldKnows home log (floor_in pending.request) (key_in pending.request) (head_in seen) held
    → PendingKnows home log (with_held pending held) seen
unfolding with_held
held_pending home log pending seen held knows its = record { request = record { plain = knows.request.plain; low = knows.request.low; low_floor = knows.request.low_floor; held = its }; sought = knows.sought; unlatched = knows.unlatched }

sought_pending : (home : ℕ → ℕ) (log : Log) (pending : PendingRequest) (seen : Seen) (sought : Option DiskRecord) → PendingKnows home log pending seen → SoughtKnows home log (floor_in pending.request) (key_in pending.request) (head_in seen) sought
    → PendingKnows home log (with_sought pending sought) seen
unfolding with_sought
sought_pending home log pending seen sought knows its = record { request = knows.request; sought = its; unlatched = knows.unlatched }

latch_pending : (home : ℕ → ℕ) (log : Log) (pending : PendingRequest) (seen : Seen) (b : Bool) → PendingKnows home log pending seen → (is_read pending.request.op ≡ true → b ≡ false) → PendingKnows home log (with_latch pending b) seen
unfolding with_latch
latch_pending home log pending seen b knows free = record { request = record { plain = knows.request.plain; low = knows.request.low; low_floor = knows.request.low_floor; held = knows.request.held }; sought = knows.sought; unlatched = free }

-- a record of it is gone: it goes by the begin that it was told, below which all is fixed
gone_pending : (home : ℕ → ℕ) (log : Log) (pending : PendingRequest) (seen : Seen) (begin : Addr) → PendingKnows home log pending seen → begin.0 ≤ log.fixed → PendingKnows home log (without_gone pending begin) seen
unfolding without_gone
gone_pending home log pending seen begin knows over = record { request = record { plain = knows.request.plain; low = knows.request.low; low_floor = over; held = tt }; sought = tt; unlatched = knows.unlatched }

gone_asked : (pending : PendingRequest) (begin : Addr) → (without_gone pending begin).has_asked ≡ pending.has_asked
unfolding without_gone
gone_asked pending begin = refl

sought_held : (home : ℕ → ℕ) (log : Log) (pending : PendingRequest) (held : Option HeldRecord) (low : ℕ) (it : DiskRecord) → IsSoughtFrom home log (floor_in pending.request) (key_in pending.request) low it
    → IsSoughtFrom home log (floor_in (with_held pending held).request) (key_in (with_held pending held).request) low it
unfolding with_held
sought_held home log pending held low it sought = sought

not_asked_now : (pending : PendingRequest) → (with_asked pending false).has_asked ≡ false
unfolding with_asked
not_asked_now pending = refl

asked_as : (pending : PendingRequest) (held : Option HeldRecord) → (with_held pending held).has_asked ≡ pending.has_asked
unfolding with_held
asked_as pending held = refl

sought_now : (pending : PendingRequest) (sought : Option DiskRecord) → (with_sought pending sought).sought ≡ sought
unfolding with_sought
sought_now pending sought = refl

-- ---- a try and an ask begin
tries_knows : (home : ℕ → ℕ) (log : Log) (p : Places) (bits : ℕ) (a : AttemptState) → PendingKnows home log a.pending a.seen → (is_read a.pending.request.op ≡ true → a.pending.has_asked ≡ false) → AttemptKnows home log (tries p bits a)
tries_knows home log p bits a pending none =
    let its = begun_for p bits a.pending.request a.seen a.occasion a.spare in
    record {
      pending = pending;
      row = record {
        knows = try_begins home log p bits a.pending.request a.seen a.occasion a.spare pending.request pending.unlatched;
        its_request = its.its_request;
        its_seen = its.its_seen;
        not_asked = none;
      };
    }

puts_addr_knows : (home : ℕ → ℕ) (log : Log) (a : AttemptState) (sought : Option DiskRecord) → PendingKnows home log a.pending a.seen → a.pending.sought ≡ sought → AttemptKnows home log (puts_addr a sought)
puts_addr_knows home log a None pending e = record { pending = pending; row = tt }
puts_addr_knows home log a (Some it) pending e = record { pending = pending; row = subst (λ its. PutsSought its (if a.is_emptied then StoresAddress it.addr else LoadsState (Put it.addr))) (sym e) (by_test a.is_emptied) }
  where
    by_test : (b : Bool) → PutsThere it.addr (if b then StoresAddress it.addr else LoadsState (Put it.addr))
    by_test true = refl
    by_test false = refl

puts_knows : (home : ℕ → ℕ) (log : Log) (a : AttemptState) → PendingKnows home log a.pending a.seen → AttemptKnows home log (puts a)
puts_knows home log a pending = puts_addr_knows home log a a.pending.sought pending refl

goes_on_knows : (home : ℕ → ℕ) (log : Log) (p : Places) (bits : ℕ) (a : AttemptState) → PendingKnows home log a.pending a.seen → a.pending.has_asked ≡ false → AttemptKnows home log (goes_on p bits a)
goes_on_knows home log p bits a pending none = by_test (is_seeking_read a)
  where
    by_test : (b : Bool) → AttemptKnows home log (if b then puts a else tries p bits a)
    by_test true = puts_knows home log a pending
    by_test false = tries_knows home log p bits a pending (λ read. none)

-- as the attempt begins
begun_at : (home : ℕ → ℕ) (log : Log) (p : Places) (bits : ℕ) (a : AttemptState) (b : Bool) → PendingKnows home log a.pending a.seen → AsksAtPoll a.pending a.occasion → a.pending.has_asked ≡ b
    → AttemptKnows home log (if b then record a { mailing = LoadsState Take; step = Looks } else goes_on p bits a)
begun_at home log p bits a true pending asks e = record { pending = pending; row = (e, asks, mail_begun log (floor_in a.pending.request) a.pending.sought) }
begun_at home log p bits a false pending asks e = goes_on_knows home log p bits a pending e

pub attempt_begins : (home : ℕ → ℕ) (log : Log) (p : Places) (bits : ℕ) (pending : PendingRequest) (seen : Seen) (occasion : Occasion) (spare : ℕ) (is_orphaned : Bool) → PendingKnows home log pending seen → AsksAtPoll pending occasion
    → AttemptKnows home log (attempt_begun p bits pending seen occasion spare is_orphaned)
attempt_begins home log p bits pending seen occasion spare is_orphaned knows asks =
    begun_at home log p bits (new_attempt bits pending seen occasion spare is_orphaned) pending.has_asked knows asks refl

-- ---- behind a look into the mailbox
read_on_knows : (home : ℕ → ℕ) (log : Log) (a : AttemptState) (its : MailRecord) (said : HeaderSaid) → IsOrderly home log → PendingKnows home log a.pending a.seen → TakenOf log (floor_in a.pending.request) a.pending.sought its → header_said its.header ≡ said
    → AttemptKnows home log (read_on a its said)
read_on_knows home log a its Spoiled orderly pending of e = puts_knows home log a pending
read_on_knows home log a its (Says previous version) orderly pending of e = by_key (its.key.0 == (key_of a.pending.request.op).0) refl
  where
    by_end : (b : Bool) → is_chain_end a.pending.request.floor previous ≡ b → its.key.0 ≢ (key_of a.pending.request.op).0 → AttemptKnows home log (if b then attempt_ended a answer.Absent else puts (record a { pending = with_sought a.pending (moved_on a.pending.sought previous) }))
    by_end true is other = record { pending = pending; row = tt }
    by_end false is other = puts_knows home log (record a { pending = with_sought a.pending (moved_on a.pending.sought previous) })
        (sought_pending home log a.pending a.seen (moved_on a.pending.sought previous) pending
        (moved_knows home log a.pending.request.floor (key_in a.pending.request) (head_in a.seen) a.pending.sought its previous version orderly pending.request.low_floor pending.sought of e other is))

    by_key : (b : Bool) → (its.key.0 == (key_of a.pending.request.op).0) ≡ b
        → AttemptKnows home log (if b then attempt_ended a (told_value (value_of its.value)) else if is_chain_end a.pending.request.floor previous then attempt_ended a answer.Absent else puts (record a { pending = with_sought a.pending (moved_on a.pending.sought previous) }))
    by_key true is = record { pending = pending; row = tt }
    by_key false is = by_end (is_chain_end a.pending.request.floor previous) refl (eq_false its.key.0 (key_of a.pending.request.op).0 is)

taken_knows : (home : ℕ → ℕ) (log : Log) (p : Places) (bits : ℕ) (a : AttemptState) (its : MailRecord) → IsOrderly home log → PendingKnows home log a.pending a.seen → a.pending.has_asked ≡ false → TakenOf log (floor_in a.pending.request) a.pending.sought its
    → AttemptKnows home log (record_taken p bits a its (header_said its.header))
taken_knows home log p bits a its orderly pending none of = by_test (is_seeking_read a)
  where
    by_test : (b : Bool) → AttemptKnows home log (if b then read_on a its (header_said its.header) else tries p bits (record a { pending = with_held a.pending (held_of a.pending.sought its (header_said its.header)) }))
    by_test true = read_on_knows home log a its (header_said its.header) orderly pending of refl
    by_test false = tries_knows home log p bits (record a { pending = with_held a.pending (held_of a.pending.sought its (header_said its.header)) })
        (held_pending home log a.pending a.seen (held_of a.pending.sought its (header_said its.header)) pending
        (held_knows home log (floor_in a.pending.request) (key_in a.pending.request) (head_in a.seen) a.pending.sought its (header_said its.header) orderly pending.request.low_floor pending.sought of refl))
        (λ read. asked_as a.pending (held_of a.pending.sought its (header_said its.header)) ∙ none)

-- a read that has asked seeks a record at a poll
not_seeking : (read asked poll some : Bool) → (read ≡ true → asked ≡ true → (poll ≡ true) × (some ≡ true)) → (poll && (read && some)) ≡ false → read ≡ true → asked ≡ false
not_seeking read false poll some asks other is = refl
not_seeking read true poll some asks other is = not_both (poll && (read && some)) (rw ((asks is refl).0, is, (asks is refl).1) refl) other

not_ready_knows : (home : ℕ → ℕ) (log : Log) (p : Places) (bits : ℕ) (a : AttemptState) → PendingKnows home log a.pending a.seen → AsksAtPoll a.pending a.occasion → AttemptKnows home log (not_ready p bits a)
not_ready_knows home log p bits a pending asks = by_test (is_seeking_read a) refl
  where
    by_test : (b : Bool) → is_seeking_read a ≡ b → AttemptKnows home log (if b then waits_for_disk a else tries p bits a)
    by_test true e = record { pending = pending; row = tt }
    by_test false e = tries_knows home log p bits a pending (not_seeking (is_read a.pending.request.op) a.pending.has_asked (is_poll a.occasion) (is_some a.pending.sought) asks e)

-- where the record is gone a read waits, and any other request is tried at once
anew_knows : (home : ℕ → ℕ) (log : Log) (p : Places) (bits : ℕ) (a : AttemptState) (begin : Addr) → PendingKnows home log a.pending a.seen → a.pending.has_asked ≡ false → begin.0 ≤ log.fixed → AttemptKnows home log (goes_anew p bits a begin)
anew_knows home log p bits a begin pending none over = by_test (is_seeking_read a)
  where
    by_test : (b : Bool) → AttemptKnows home log (if b then waits_for_disk (record a { pending = without_gone a.pending begin }) else tries p bits (record a { pending = without_gone a.pending begin }))
    by_test true = record { pending = gone_pending home log a.pending a.seen begin pending over; row = tt }
    by_test false = tries_knows home log p bits (record a { pending = without_gone a.pending begin }) (gone_pending home log a.pending a.seen begin pending over) (λ read. gone_asked a.pending begin ∙ none)

mail_led_knows : (home : ℕ → ℕ) (log : Log) (p : Places) (bits : ℕ) (a : AttemptState) (its : MailRecord) → IsOrderly home log → PendingKnows home log a.pending a.seen → a.pending.has_asked ≡ false → (its.header ≡ 0 → its.key.0 ≤ log.fixed)
    → (its.header ≢ 0 → TakenOf log (floor_in a.pending.request) a.pending.sought its) → AttemptKnows home log (mail_led p bits a its)
mail_led_knows home log p bits a its orderly pending none gone of = by_test (is_gone its) refl
  where
    by_test : (b : Bool) → is_gone its ≡ b → AttemptKnows home log (if b then goes_anew p bits a (begin_told its) else record_taken p bits a its (header_said its.header))
    by_test true e = anew_knows home log p bits a (begin_told its) pending none (gone (eq_true its.header 0 e))
    by_test false e = taken_knows home log p bits a its orderly pending none (of (eq_false its.header 0 e))

look_knows : (home : ℕ → ℕ) (log : Log) (p : Places) (bits session : ℕ) (a : AttemptState) (ask : Ask MailAnswer) → IsOrderly home log → a.step ≡ Looks → PendingKnows home log a.pending a.seen → a.pending.has_asked ≡ true → AsksAtPoll a.pending a.occasion
    → MailKnows log (floor_in a.pending.request) a.pending.sought a.mailing → mail_ask session a.mailing ≡ ask → AttemptKnows home log (look_ledto p bits a ask)
unfolding look_ledto with_asked
look_knows home log p bits session a (Done (mail.Taken its)) orderly at pending asked asks row e =
    mail_led_knows home log p bits (record a { is_emptied = true; pending = with_asked a.pending false }) its orderly (asked_pending home log a.pending a.seen false pending) (not_asked_now a.pending)
    (mail_gone log (floor_in a.pending.request) session a.pending.sought a.mailing its row e) (mail_taken log (floor_in a.pending.request) session a.pending.sought a.mailing its row e)
look_knows home log p bits session a (Done other) orderly at pending asked asks row e = not_ready_knows home log p bits a pending asks
look_knows home log p bits session a ask orderly at pending asked asks row e = record { pending = pending; row = subst (AttemptRow home log a) (sym at) (asked, asks, row) }

-- ---- behind a try
kept_knows : (home : ℕ → ℕ) (log : Log) (floor key low : ℕ) (held : Option HeldRecord) (entry : ℕ) → HeldKnows home log floor key low held → HeldKnows home log floor key low (held_kept held entry)
kept_knows home log floor key low None entry knows = tt
kept_knows home log floor key low (Some held) entry knows = by_test (held.entry == entry)
  where
    by_test : (b : Bool) → HeldKnows home log floor key low (if b then Some held else None)
    by_test true = knows
    by_test false = tt

awaits_knows : (home : ℕ → ℕ) (log : Log) (a : AttemptState) (it : DiskRecord) → PendingKnows home log a.pending a.seen → IsSoughtFrom home log (floor_in a.pending.request) (key_in a.pending.request) (head_in a.seen) it → AttemptKnows home log (awaits_record a it)
awaits_knows home log a it pending sought = by_test a.pending.has_asked
  where
    behind : PendingKnows home log (with_held a.pending (held_kept a.pending.request.held it.entry)) a.seen
    behind = held_pending home log a.pending a.seen (held_kept a.pending.request.held it.entry) pending (kept_knows home log (floor_in a.pending.request) (key_in a.pending.request) (head_in a.seen) a.pending.request.held it.entry pending.request.held)

    by_test : (b : Bool)
        → AttemptKnows home log (if b then waits_for_disk (record a { pending = with_held a.pending (held_kept a.pending.request.held it.entry) }) else puts (record a { pending = with_sought (with_held a.pending (held_kept a.pending.request.held it.entry)) (Some it) }))
    by_test true = record { pending = behind; row = tt }
    by_test false = puts_knows home log (record a { pending = with_sought (with_held a.pending (held_kept a.pending.request.held it.entry)) (Some it) })
        (sought_pending home log (with_held a.pending (held_kept a.pending.request.held it.entry)) a.seen (Some it) behind
        (sought_held home log a.pending (held_kept a.pending.request.held it.entry) (head_in a.seen) it sought))

tried_knows : (home : ℕ → ℕ) (log : Log) (a : AttemptState) (its : TryAnswer) → PendingKnows home log a.pending a.seen → ((it : DiskRecord) → its ≡ answer.AwaitsDisk it → IsSoughtFrom home log (floor_in a.pending.request) (key_in a.pending.request) (head_in a.seen) it)
    → AttemptKnows home log (tried a its)
tried_knows home log a (answer.AwaitsDisk it) pending seeks = awaits_knows home log a it pending (seeks it refl)
tried_knows home log a (answer.Wait its) pending seeks = record { pending = pending; row = tt }
tried_knows home log a (answer.Done its) pending seeks = record { pending = pending; row = tt }
tried_knows home log a (answer.Found its) pending seeks = record { pending = pending; row = tt }
tried_knows home log a answer.Absent pending seeks = record { pending = pending; row = tt }
tried_knows home log a answer.Shift pending seeks = record { pending = pending; row = tt }
tried_knows home log a answer.IndexFull pending seeks = record { pending = pending; row = tt }
tried_knows home log a answer.LogFull pending seeks = record { pending = pending; row = tt }

sought_latched : (home : ℕ → ℕ) (log : Log) (pending : PendingRequest) (b : Bool) (low : ℕ) (it : DiskRecord) → IsSoughtFrom home log (floor_in pending.request) (key_in pending.request) low it
    → IsSoughtFrom home log (floor_in (with_latch pending b).request) (key_in (with_latch pending b).request) low it
unfolding with_latch
sought_latched home log pending b low it sought = sought

trial_seeks : (home : ℕ → ℕ) (log : Log) (p : Places) (pending : PendingRequest) (seen : Seen) (trial : TryState) (it : DiskRecord) → TriesFor home log pending seen trial → try_ask p trial ≡ Done (answer.AwaitsDisk it)
    → IsSoughtFrom home log (floor_in pending.request) (key_in pending.request) (head_in seen) it
trial_seeks home log p pending seen trial it tries e =
    subst (λ (s : Seen). IsSoughtFrom home log (floor_in pending.request) (key_in pending.request) (head_in s) it) tries.its_seen (subst (λ (r : Request). IsSoughtFrom home log (floor_in r) (key_in r) (head_in trial.seen) it) tries.its_request (try_seeks home log p trial it tries.knows e))

try_led_knows : (home : ℕ → ℕ) (log : Log) (p : Places) (a : AttemptState) (ask : Ask TryAnswer) → a.step ≡ Tries → PendingKnows home log a.pending a.seen → TriesFor home log a.pending a.seen a.trial → try_ask p a.trial ≡ ask → AttemptKnows home log (try_ledto a ask)
unfolding try_ledto
try_led_knows home log p a (Done its) at pending trial e =
    tried_knows home log (record a { spare = a.trial.spare; pending = with_latch a.pending a.trial.has_shared }) its
    (latch_pending home log a.pending a.seen a.trial.has_shared pending (λ read. (trial.knows.free (ap (λ (r : Request). is_read r.op) trial.its_request ∙ read)).0))
    (λ it is. sought_latched home log a.pending a.trial.has_shared (head_in a.seen) it (trial_seeks home log p a.pending a.seen a.trial it trial (e ∙ ap Done is)))
try_led_knows home log p a ask at pending trial e = record { pending = pending; row = subst (AttemptRow home log a) (sym at) trial }

-- ---- behind an ask of the mailbox
put_knows : (home : ℕ → ℕ) (log : Log) (a : AttemptState) (ask : Ask MailAnswer) → a.step ≡ Puts → PendingKnows home log a.pending a.seen → PutsSought a.pending.sought a.mailing → AttemptKnows home log (put_ledto a ask)
unfolding put_ledto
put_knows home log a (Done mail.Asked) at pending row = record { pending = asked_pending home log a.pending a.seen true pending; row = tt }
put_knows home log a (Done other) at pending row = record { pending = pending; row = tt }
put_knows home log a ask at pending row = record { pending = pending; row = subst (AttemptRow home log a) (sym at) row }

-- ---- by the control state
row_leads : (home : ℕ → ℕ) (log : Log) (p : Places) (bits room session : ℕ) (a : AttemptState) (step : Attempting) (reply : ℕ) → IsOrderly home log → Live (floor_in a.pending.request) home log → (a.step ≡ Tries → NoneLaterPast home log p a.trial reply) → (a.step ≡ Tries → MarksTell log p a.trial reply) → a.step ≡ step
    → PendingKnows home log a.pending a.seen → AttemptRow home log a step → IsTrueOfAttempt home log p a step reply → AttemptKnows home log (attempting_next p bits room session (record a { effect = None }) step reply)
unfolding attempting_next
row_leads home log p bits room session a (Ended its) reply orderly live newest marks at pending row says = record { pending = pending; row = subst (AttemptRow home log (record a { effect = None })) (sym at) tt }
row_leads home log p bits room session a Looks reply orderly live newest marks at pending row says =
    look_knows home log p bits session (record a { effect = None; mailing = mail_next a.mailing reply }) (mail_ask session (mail_next a.mailing reply)) orderly at pending row.0 row.1
    (mail_leads home log (floor_in a.pending.request) (key_in a.pending.request) (head_in a.seen) a.pending.sought a.mailing reply orderly.chains pending.sought row.2 says) refl
row_leads home log p bits room session a Tries reply orderly live newest marks at pending row says =
    try_led_knows home log p (record a { effect = (try_next p room a.trial reply).effect; trial = try_next p room a.trial reply }) (try_ask p (try_next p room a.trial reply)) at pending
    (record {
      knows = try_leads home log p room a.trial reply orderly (subst (λ (r : Request). Live (floor_in r) home log) (sym row.its_request) live) (newest at) (marks at) row.knows says;
      its_request = kept.request ∙ row.its_request;
      its_seen = kept.seen ∙ row.its_seen;
      not_asked = row.not_asked;
    }) refl
  where
    kept : KeepsRequest a.trial (try_next p room a.trial reply)
    kept = try_kept p room a.trial reply
row_leads home log p bits room session a Puts reply orderly live newest marks at pending row says =
    put_knows home log (record a { effect = None; mailing = mail_next a.mailing reply }) (mail_ask session (mail_next a.mailing reply)) at pending (puts_leads a.pending.sought a.mailing reply row)

pub attempt_leads : (home : ℕ → ℕ) (log : Log) (p : Places) (bits room session : ℕ) (a : AttemptState) (reply : ℕ) → IsOrderly home log → Live (floor_in a.pending.request) home log → (a.step ≡ Tries → NoneLaterPast home log p a.trial reply) → (a.step ≡ Tries → MarksTell log p a.trial reply) → AttemptKnows home log a
    → IsTrueOfAttempt home log p a a.step reply → AttemptKnows home log (attempt_next p bits room session a reply)
attempt_leads home log p bits room session a reply orderly live newest marks knows says = row_leads home log p bits room session a a.step reply orderly live newest marks refl knows.pending knows.row says
