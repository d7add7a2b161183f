-- What an attempt of a read tells, and where the read goes down from.
use Rattle.std.proofs.Common.{◌≡◌, ◌≢◌, inl, inr, ℕ, ◌≤◌, ◌∙◌, refl, sym, ap, subst, Bool, true, false, Option, Some, None}
use Rattle.std.specs.Prelude.{◌==◌, ◌&&◌, if◌then◌else◌}
use Rattle.std.specs.Option.{is_some}
use Rattle.fkv_base.specs.declared.numbers.Addr.{Addr}
use Rattle.fkv_map.specs.Keys.{key_of}
use Rattle.fkv_plane.specs.declared.asks.Ask.{Ask}
use Rattle.fkv_plane.specs.declared.asks.Ask.TheVariants.{Done}
use Rattle.fkv_plane.specs.declared.places.Places.{Places}
use Rattle.fkv_plane.specs.Passing.{passed, is_done}
use Rattle.fkv_index.specs.Slots.{entry_addr}
use Rattle.law_log.specs.Chains.{value_at}
use Rattle.law_log.specs.Begins.{Live}
use Rattle.law_log.specs.Ghosts.{Log}
use Rattle.fkv_ops.specs.declared.answers.DiskRecord.{DiskRecord}
use Rattle.fkv_ops.specs.declared.answers.Reason.{Reason}
use Rattle.fkv_ops.specs.declared.answers.Reason.TheVariants as reason
use Rattle.fkv_ops.specs.declared.answers.TryAnswer.{TryAnswer}
use Rattle.fkv_ops.specs.declared.answers.TryAnswer.TheVariants as answer
use Rattle.fkv_ops.specs.declared.header_words.HeaderSaid.{HeaderSaid}
use Rattle.fkv_ops.specs.declared.header_words.HeaderSaid.TheVariants.{Says, Spoiled}
use Rattle.fkv_ops.specs.declared.requests.Request.{Request}
use Rattle.fkv_ops.specs.declared.requests.Seen.{Seen}
use Rattle.fkv_ops.specs.HeaderWords.{header_said}
use Rattle.fkv_ops.specs.Requests.{is_read, is_chain_end}
use Rattle.fkv_ops.specs.Values.{value_of}
use Rattle.fkv_ops.specs.Trying.{TryState, told_value, try_ask, try_next}
use Rattle.fkv_pending.specs.declared.attempting.Attempting.{Attempting}
use Rattle.fkv_pending.specs.declared.attempting.Attempting.TheVariants.{Ended, Looks, Tries, Puts}
use Rattle.fkv_pending.specs.declared.mailing.MailAnswer.{MailAnswer}
use Rattle.fkv_pending.specs.declared.mailing.MailAnswer.TheVariants as mail
use Rattle.fkv_pending.specs.declared.mailing.MailRecord.{MailRecord}
use Rattle.fkv_pending.specs.declared.pending_requests.PendingRequest.{PendingRequest}
use Rattle.fkv_pending.specs.Mailing.{mail_ask, mail_next, is_gone, begin_told}
use Rattle.fkv_pending.specs.Pending.{with_sought, with_held, with_latch, with_asked, without_gone}
use Rattle.fkv_pending.specs.Attempting.{AttemptState, attempting_ask, attempt_ask, attempt_ended, waits_for_disk, puts_addr, puts, tries, is_poll, is_seeking_read, held_of, moved_on, read_on, record_taken, goes_anew, mail_taken as mail_led, not_ready, look_ledto, held_kept, tried, try_ledto, put_ledto, attempting_next, attempt_next}
use Rattle.law_local.specs.Tries.OnWay.{IsOrderly}
use Rattle.law_local.specs.Tries.HeldRows.{SoughtKnows}
use Rattle.law_local.specs.Tries.MailRows.{MailKnows}
use Rattle.law_local.specs.Tries.Tells.{ReadTells, TryTells}
use Rattle.law_local.specs.Tries.TryRows.{key_in, head_in, floor_in, first_of}
use Rattle.law_local.specs.Tries.WalkRows.{begin_of}
use Rattle.law_local.specs.Tries.AttemptRows.{PendingKnows, AttemptRow, AttemptKnows, IsTrueOfAttempt, start_of, read_start, ReadEnds, ReadGoesTo, AttemptTells}
use Rattle.law_local.proofs.OfTries.Tests.{eq_true, eq_false}
use Rattle.law_local.proofs.OfTries.HeldSteps.{own_read, none_read}
use Rattle.law_local.proofs.OfTries.MailRows.{TakenOf, mail_leads, mail_taken}
use Rattle.law_local.proofs.OfTries.Tells.{read_tells}
use Rattle.law_local.proofs.OfTries.TrialKept.{KeepsRequest, try_kept}

-- what a read comes to, from an address on, by the state behind its step
abbrev pub GoesTo : (ℕ → ℕ) → Log → Request → ℕ → AttemptState → Type 0
GoesTo home log request from after = ReadGoesTo home log request from after.pending.sought after.step

-- ---- it goes on waiting, or asks
puts_addr_tells : (home : ℕ → ℕ) (log : Log) (request : Request) (from : ℕ) (a : AttemptState) (sought : Option DiskRecord) → start_of a.pending.sought ≡ from → GoesTo home log request from (puts_addr a sought)
puts_addr_tells home log request from a None same = inr same
puts_addr_tells home log request from a (Some it) same = same

puts_tells : (home : ℕ → ℕ) (log : Log) (request : Request) (from : ℕ) (a : AttemptState) → start_of a.pending.sought ≡ from → GoesTo home log request from (puts a)
puts_tells home log request from a same = puts_addr_tells home log request from a a.pending.sought same

-- ---- behind a look into the mailbox
sought_now : (pending : PendingRequest) (sought : Option DiskRecord) → (with_sought pending sought).sought ≡ sought
unfolding with_sought
sought_now pending sought = refl

same_asked : (pending : PendingRequest) (b : Bool) → (with_asked pending b).sought ≡ pending.sought
unfolding with_asked
same_asked pending b = refl

request_asked : (pending : PendingRequest) (b : Bool) → (with_asked pending b).request ≡ pending.request
unfolding with_asked
request_asked pending b = refl

moved_start : (sought : Option DiskRecord) (previous : Addr) → start_of (moved_on sought previous) ≡ start_of sought
moved_start None previous = refl
moved_start (Some it) previous = refl

value_tells : (home : ℕ → ℕ) (log : Log) (request : Request) (from : ℕ) (sought : Option DiskRecord) (its : Option ℕ) → its ≡ value_at (log.cells (first_of home log request from)) → ReadEnds home log request from sought (told_value its)
value_tells home log request from sought None e = sym e
value_tells home log request from sought (Some its) e = sym e

-- a read that seeks a record tells its value, or that there is none, or goes on at the next
read_on_tells : (home : ℕ → ℕ) (log : Log) (a : AttemptState) (sought : Option DiskRecord) (its : MailRecord) (said : HeaderSaid) → IsOrderly home log → a.pending.sought ≡ sought → is_some sought ≡ true → floor_in a.pending.request ≤ log.fixed → SoughtKnows home log (floor_in a.pending.request) (key_in a.pending.request) (head_in a.seen) sought
    → TakenOf log (floor_in a.pending.request) sought its → header_said its.header ≡ said → GoesTo home log a.pending.request (start_of sought) (read_on a its said)
read_on_tells home log a None its said orderly at some over knows of e = cc
read_on_tells home log a (Some it) its Spoiled orderly at some over knows of e = puts_tells home log a.pending.request (entry_addr it.entry) a (ap start_of at)
read_on_tells home log a (Some it) its (Says previous version) orderly at some over knows of e = by_key (its.key.0 == (key_of a.pending.request.op).0) refl
  where
    by_end : (b : Bool) → is_chain_end a.pending.request.floor previous ≡ b → its.key.0 ≢ (key_of a.pending.request.op).0
        → GoesTo home log a.pending.request (entry_addr it.entry) (if b then attempt_ended a answer.Absent else puts (record a { pending = with_sought a.pending (moved_on a.pending.sought previous) }))
    by_end true is other =
        (none_read home log a.pending.request.floor (key_in a.pending.request) (head_in a.seen) it its previous version orderly over knows of e other is).absent
    by_end false is other = puts_tells home log a.pending.request (entry_addr it.entry) (record a { pending = with_sought a.pending (moved_on a.pending.sought previous) })
        (ap start_of (sought_now a.pending (moved_on a.pending.sought previous)) ∙ moved_start a.pending.sought previous ∙ ap start_of at)

    by_key : (b : Bool) → (its.key.0 == (key_of a.pending.request.op).0) ≡ b
        → GoesTo home log a.pending.request (entry_addr it.entry)
        (if b then attempt_ended a (told_value (value_of its.value)) else if is_chain_end a.pending.request.floor previous then attempt_ended a answer.Absent else puts (record a { pending = with_sought a.pending (moved_on a.pending.sought previous) }))
    by_key true is = value_tells home log a.pending.request (entry_addr it.entry) a.pending.sought (value_of its.value)
        (own_read home log (floor_in a.pending.request) (key_in a.pending.request) (head_in a.seen) it its orderly.chains knows of (eq_true its.key.0 (key_of a.pending.request.op).0 is))
    by_key false is = by_end (is_chain_end a.pending.request.floor previous) refl (eq_false its.key.0 (key_of a.pending.request.op).0 is)

seeks_some : (poll read some : Bool) → (poll && (read && some)) ≡ true → some ≡ true
seeks_some true true some e = e
seeks_some true false some e = cc
seeks_some false read some e = cc

taken_tells : (home : ℕ → ℕ) (log : Log) (p : Places) (bits : ℕ) (a : AttemptState) (its : MailRecord) → IsOrderly home log → floor_in a.pending.request ≤ log.fixed → SoughtKnows home log (floor_in a.pending.request) (key_in a.pending.request) (head_in a.seen) a.pending.sought → TakenOf log (floor_in a.pending.request) a.pending.sought its
    → GoesTo home log a.pending.request (start_of a.pending.sought) (record_taken p bits a its (header_said its.header))
taken_tells home log p bits a its orderly over knows of = by_test (is_seeking_read a) refl
  where
    by_test : (b : Bool) → is_seeking_read a ≡ b
        → GoesTo home log a.pending.request (start_of a.pending.sought)
        (if b then read_on a its (header_said its.header) else tries p bits (record a { pending = with_held a.pending (held_of a.pending.sought its (header_said its.header)) }))
    by_test true e = read_on_tells home log a a.pending.sought its (header_said its.header) orderly refl (seeks_some (is_poll a.occasion) (is_read a.pending.request.op) (is_some a.pending.sought) e) over knows of refl
    by_test false e = tt

-- a read whose record is gone seeks none
anew_tells : (home : ℕ → ℕ) (log : Log) (p : Places) (bits : ℕ) (request : Request) (from : ℕ) (a : AttemptState) (begin : Addr) → GoesTo home log request from (goes_anew p bits a begin)
unfolding without_gone
anew_tells home log p bits request from a begin = by_test (is_seeking_read a)
  where
    by_test : (b : Bool) → GoesTo home log request from (if b then waits_for_disk (record a { pending = without_gone a.pending begin }) else tries p bits (record a { pending = without_gone a.pending begin }))
    by_test true = inl refl
    by_test false = tt

mail_led_tells : (home : ℕ → ℕ) (log : Log) (p : Places) (bits : ℕ) (a : AttemptState) (its : MailRecord) → IsOrderly home log → floor_in a.pending.request ≤ log.fixed → SoughtKnows home log (floor_in a.pending.request) (key_in a.pending.request) (head_in a.seen) a.pending.sought
    → (its.header ≢ 0 → TakenOf log (floor_in a.pending.request) a.pending.sought its) → GoesTo home log a.pending.request (start_of a.pending.sought) (mail_led p bits a its)
mail_led_tells home log p bits a its orderly over knows of = by_test (is_gone its) refl
  where
    by_test : (b : Bool) → is_gone its ≡ b → GoesTo home log a.pending.request (start_of a.pending.sought) (if b then goes_anew p bits a (begin_told its) else record_taken p bits a its (header_said its.header))
    by_test true e = anew_tells home log p bits a.pending.request (start_of a.pending.sought) a (begin_told its)
    by_test false e = taken_tells home log p bits a its orderly over knows (of (eq_false its.header 0 e))

not_ready_tells : (home : ℕ → ℕ) (log : Log) (p : Places) (bits : ℕ) (a : AttemptState) → GoesTo home log a.pending.request (start_of a.pending.sought) (not_ready p bits a)
not_ready_tells home log p bits a = by_test (is_seeking_read a)
  where
    by_test : (b : Bool) → GoesTo home log a.pending.request (start_of a.pending.sought) (if b then waits_for_disk a else tries p bits a)
    by_test true = inr refl
    by_test false = tt

look_tells : (home : ℕ → ℕ) (log : Log) (p : Places) (bits session : ℕ) (a : AttemptState) (ask : Ask MailAnswer) → IsOrderly home log → a.step ≡ Looks → floor_in a.pending.request ≤ log.fixed → SoughtKnows home log (floor_in a.pending.request) (key_in a.pending.request) (head_in a.seen) a.pending.sought
    → MailKnows log (floor_in a.pending.request) a.pending.sought a.mailing → mail_ask session a.mailing ≡ ask → GoesTo home log a.pending.request (start_of a.pending.sought) (look_ledto p bits a ask)
unfolding look_ledto with_asked
look_tells home log p bits session a (Done (mail.Taken its)) orderly at over knows row e =
    mail_led_tells home log p bits (record a { is_emptied = true; pending = with_asked a.pending false }) its orderly over knows (mail_taken log (floor_in a.pending.request) session a.pending.sought a.mailing its row e)
look_tells home log p bits session a (Done other) orderly at over knows row e = not_ready_tells home log p bits a
look_tells home log p bits session a ask orderly at over knows row e = subst (ReadGoesTo home log a.pending.request (start_of a.pending.sought) a.pending.sought) (sym at) tt

-- ---- behind a try
awaits_tells : (home : ℕ → ℕ) (log : Log) (request : Request) (from : ℕ) (a : AttemptState) (it : DiskRecord) (b : Bool) → b ≡ false → entry_addr it.entry ≡ from
    → GoesTo home log request from (if b then waits_for_disk (record a { pending = with_held a.pending (held_kept a.pending.request.held it.entry) }) else puts (record a { pending = with_sought (with_held a.pending (held_kept a.pending.request.held it.entry)) (Some it) }))
awaits_tells home log request from a it true none same = cc
awaits_tells home log request from a it false none same = puts_tells home log request from (record a { pending = with_sought (with_held a.pending (held_kept a.pending.request.held it.entry)) (Some it) })
    (ap start_of (sought_now (with_held a.pending (held_kept a.pending.request.held it.entry)) (Some it)) ∙ same)

waits_tells : (home : ℕ → ℕ) (log : Log) (request : Request) (seen : Seen) (from : ℕ) (sought : Option DiskRecord) (its : Reason) → ReadTells home log request seen from (answer.Wait its) → ReadEnds home log request from sought (answer.Wait its)
waits_tells home log request seen from sought reason.Disk tells = absurd tells
waits_tells home log request seen from sought its tells = tt

tried_tells : (home : ℕ → ℕ) (log : Log) (request : Request) (seen : Seen) (from : ℕ) (a : AttemptState) (its : TryAnswer) → a.pending.has_asked ≡ false → ReadTells home log request seen from its → GoesTo home log request from (tried a its)
tried_tells home log request seen from a (answer.AwaitsDisk it) none tells = awaits_tells home log request from a it a.pending.has_asked none tells.0
tried_tells home log request seen from a (answer.Wait its) none tells = waits_tells home log request seen from a.pending.sought its tells
tried_tells home log request seen from a (answer.Found its) none tells = tells
tried_tells home log request seen from a answer.Absent none tells = tells
tried_tells home log request seen from a (answer.Done its) none tells = tt
tried_tells home log request seen from a answer.Shift none tells = tt
tried_tells home log request seen from a answer.IndexFull none tells = tt
tried_tells home log request seen from a answer.LogFull none tells = tt

asked_latched : (pending : PendingRequest) (b : Bool) → (with_latch pending b).has_asked ≡ pending.has_asked
unfolding with_latch
asked_latched pending b = refl

try_led_tells : (home : ℕ → ℕ) (log : Log) (p : Places) (request : Request) (a : AttemptState) (ask : Ask TryAnswer) → a.step ≡ Tries → a.pending.has_asked ≡ false → a.trial.request ≡ request → TryTells home log p a.trial → try_ask p a.trial ≡ ask
    → GoesTo home log request (begin_of a.trial.walk) (try_ledto a ask)
unfolding try_ledto
try_led_tells home log p request a (Done its) at none same tells e =
    tried_tells home log request a.trial.seen (begin_of a.trial.walk) (record a { spare = a.trial.spare; pending = with_latch a.pending a.trial.has_shared }) its (asked_latched a.pending a.trial.has_shared ∙ none)
    (subst (λ (r : Request). ReadTells home log r a.trial.seen (begin_of a.trial.walk) its) same (tells its e))
try_led_tells home log p request a ask at none same tells e = subst (ReadGoesTo home log request (begin_of a.trial.walk) a.pending.sought) (sym at) tt

put_trial : (a : AttemptState) (sought : Option DiskRecord) → (puts_addr a sought).trial ≡ a.trial
put_trial a None = refl
put_trial a (Some it) = refl

same_trial : (a : AttemptState) (ask : Ask TryAnswer) → (try_ledto a ask).trial ≡ a.trial
unfolding try_ledto
same_trial a (Done (answer.AwaitsDisk it)) = by_test (with_latch a.pending a.trial.has_shared).has_asked
  where
    by_test : (b : Bool)
        → (if b then waits_for_disk (record a { spare = a.trial.spare; pending = with_held (with_latch a.pending a.trial.has_shared) (held_kept (with_latch a.pending a.trial.has_shared).request.held it.entry) })
        else puts (record a { spare = a.trial.spare; pending = with_sought (with_held (with_latch a.pending a.trial.has_shared) (held_kept (with_latch a.pending a.trial.has_shared).request.held it.entry)) (Some it) })).trial ≡ a.trial
    by_test true = refl
    by_test false = put_trial (record a { spare = a.trial.spare; pending = with_sought (with_held (with_latch a.pending a.trial.has_shared) (held_kept (with_latch a.pending a.trial.has_shared).request.held it.entry)) (Some it) })
        (with_sought (with_held (with_latch a.pending a.trial.has_shared) (held_kept (with_latch a.pending a.trial.has_shared).request.held it.entry)) (Some it)).sought
same_trial a (Done (answer.Wait its)) = refl
same_trial a (Done (answer.Found its)) = refl
same_trial a (Done answer.Absent) = refl
same_trial a (Done (answer.Done its)) = refl
same_trial a (Done answer.Shift) = refl
same_trial a (Done answer.IndexFull) = refl
same_trial a (Done answer.LogFull) = refl
same_trial a ask = refl

-- ---- behind an ask of the mailbox
put_tells : (home : ℕ → ℕ) (log : Log) (a : AttemptState) (ask : Ask MailAnswer) → a.step ≡ Puts → GoesTo home log a.pending.request (start_of a.pending.sought) (put_ledto a ask)
unfolding put_ledto with_asked
put_tells home log a (Done mail.Asked) at = inr refl
put_tells home log a (Done other) at = inr refl
put_tells home log a ask at = subst (ReadGoesTo home log a.pending.request (start_of a.pending.sought) a.pending.sought) (sym at) refl

-- ---- by the control state
done_passed : {A B : Type 0} (ask : Ask A) (b : B) → is_done (passed ask b) ≡ false → is_done ask ≡ false
unfolding passed
done_passed (Done its) b e = cc
done_passed ask b e = refl

done_not : {X : Type 0} {A : Type 0} (its : A) → is_done (Done its) ≡ false → X
done_not its e = cc

row_tells : (home : ℕ → ℕ) (log : Log) (p : Places) (bits room session : ℕ) (a : AttemptState) (step : Attempting) (reply : ℕ) → IsOrderly home log → Live (floor_in a.pending.request) home log → a.step ≡ step → is_read a.pending.request.op ≡ true → is_done (attempting_ask p session a step) ≡ false
    → PendingKnows home log a.pending a.seen → AttemptRow home log a step → IsTrueOfAttempt home log p a step reply
    → GoesTo home log a.pending.request (read_start step a.pending.sought (attempting_next p bits room session (record a { effect = None }) step reply).trial) (attempting_next p bits room session (record a { effect = None }) step reply)
unfolding attempting_next attempting_ask
row_tells home log p bits room session a (Ended its) reply orderly live at reads asks pending row says = done_not its asks
row_tells home log p bits room session a Looks reply orderly live at reads asks pending row says =
    look_tells home log p bits session (record a { effect = None; mailing = mail_next a.mailing reply }) (mail_ask session (mail_next a.mailing reply)) orderly at pending.request.low_floor pending.sought
    (mail_leads home log (floor_in a.pending.request) (key_in a.pending.request) (head_in a.seen) a.pending.sought a.mailing reply orderly.chains pending.sought row.2 says) refl
row_tells home log p bits room session a Tries reply orderly live at reads asks pending row says =
    subst (λ (trial : TryState). GoesTo home log a.pending.request (begin_of trial.walk) (try_ledto (record a { effect = (try_next p room a.trial reply).effect; trial = try_next p room a.trial reply }) (try_ask p (try_next p room a.trial reply))))
    (sym (same_trial (record a { effect = (try_next p room a.trial reply).effect; trial = try_next p room a.trial reply }) (try_ask p (try_next p room a.trial reply))))
    (try_led_tells home log p a.pending.request (record a { effect = (try_next p room a.trial reply).effect; trial = try_next p room a.trial reply }) (try_ask p (try_next p room a.trial reply)) at (row.not_asked reads) (kept.request ∙ row.its_request)
    (read_tells home log p room a.trial reply orderly (subst (λ (r : Request). Live (floor_in r) home log) (sym row.its_request) live) row.knows (ap (λ (r : Request). is_read r.op) row.its_request ∙ reads) (done_passed (try_ask p a.trial) answer.Shift asks) says) refl)
  where
    kept : KeepsRequest a.trial (try_next p room a.trial reply)
    kept = try_kept p room a.trial reply
row_tells home log p bits room session a Puts reply orderly live at reads asks pending row says = put_tells home log (record a { effect = None; mailing = mail_next a.mailing reply }) (mail_ask session (mail_next a.mailing reply)) at

pub attempt_tells : (home : ℕ → ℕ) (log : Log) (p : Places) (bits room session : ℕ) (a : AttemptState) (reply : ℕ) → IsOrderly home log → Live (floor_in a.pending.request) home log → AttemptKnows home log a → is_read a.pending.request.op ≡ true → is_done (attempt_ask p session a) ≡ false
    → IsTrueOfAttempt home log p a a.step reply → AttemptTells home log a (attempt_next p bits room session a reply)
attempt_tells home log p bits room session a reply orderly live knows reads asks says = row_tells home log p bits room session a a.step reply orderly live refl reads asks knows.pending knows.row says
