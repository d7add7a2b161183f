-- An attempt stores an address only into a mailbox that is empty.
use Rattle.std.proofs.Common.{◌≡◌, ℕ, List, [], ◌∷◌, refl, sym, ap, subst, ◌∙◌, Bool, true, false, arith}
use Rattle.std.specs.Prelude.{◌==◌, if◌then◌else◌, Option, Some, None}
use Rattle.std.proofs.lemmas.Bool.Decides.{nat_tests}
use Rattle.fkv_map.specs.Keys.{key_of}
use Rattle.fkv_plane.specs.declared.asks.Ask.{Ask}
use Rattle.fkv_plane.specs.declared.asks.Ask.TheVariants.{Done}
use Rattle.fkv_plane.specs.declared.places.Places.{Places}
use Rattle.fkv_plane.specs.declared.places.SessionWord.TheVariants as own
use Rattle.fkv_plane.specs.Places.{session_place}
use Rattle.fkv_ops.specs.declared.answers.DiskRecord.{DiskRecord}
use Rattle.fkv_ops.specs.declared.answers.TryAnswer.{TryAnswer}
use Rattle.fkv_ops.specs.declared.answers.TryAnswer.TheVariants as answer
use Rattle.fkv_ops.specs.declared.header_words.HeaderSaid.{HeaderSaid}
use Rattle.fkv_ops.specs.declared.header_words.HeaderSaid.TheVariants.{Says, Spoiled}
use Rattle.fkv_ops.specs.HeaderWords.{header_said}
use Rattle.fkv_ops.specs.Values.{value_of}
use Rattle.fkv_ops.specs.Trying.{told_value, try_ask, try_next}
use Rattle.fkv_pending.specs.declared.attempting.Attempting.{Attempting}
use Rattle.fkv_pending.specs.declared.attempting.Attempting.TheVariants.{Ended, Looks, Tries, Puts}
use Rattle.fkv_pending.specs.declared.mailing.MailAnswer.{MailAnswer}
use Rattle.fkv_pending.specs.declared.mailing.MailAnswer.TheVariants as mail
use Rattle.fkv_pending.specs.declared.mailing.MailRecord.{MailRecord}
use Rattle.fkv_pending.specs.declared.mailing.MailTask.TheVariants.{Clear, Take, Put}
use Rattle.fkv_pending.specs.declared.mailing.Mailing.{Mailing}
use Rattle.fkv_pending.specs.declared.mailing.Mailing.TheVariants as mailing
use Rattle.fkv_pending.specs.Mailing.{mail_empty, mail_ask, mail_next, is_gone, begin_told}
use Rattle.fkv_pending.specs.Pending.{with_sought, with_held, with_latch, with_asked, without_gone}
use Rattle.fkv_pending.specs.Attempting.{AttemptState, attempt_ended, waits_for_disk, puts_addr, puts, tries, is_seeking_read, goes_on, held_of, moved_on, read_on, record_taken, not_ready, look_ledto, held_kept, awaits_record, tried, try_ledto, put_ledto, mail_moved, try_moved, attempting_next, attempt_next, new_attempt, mail_taken}
use Rattle.fkv_pending.specs.Attempts.{AttemptPast, look_told, try_told, address_told, put_told, attempt_told, attempt_run, attempt_past, AttemptGiven, begun_by, run_by, past_by, state_met, state_of_put, met_state, IsFree, WasEmpty, WasTaken}
use Rattle.fkv_pending.proofs.AttemptRuns.{same_place, state_apart}
use Rattle.fkv_pending.proofs.AttemptTries.{nothing, same_told}
use Rattle.fkv_ops.specs.Requests.{is_chain_end}

-- nothing was stored, and where this attempt has emptied the mailbox it has taken a record
record IsOpen (is_emptied : Bool) (past : AttemptPast) (met : Option ℕ) : Type 0 where
  none_stored : past.address ≡ None
  free : is_emptied ≡ true → IsFree met past.taken

-- what was stored, was stored into an empty mailbox
abbrev IsOver : AttemptPast → Option ℕ → Type 0
IsOver past met = (word : ℕ) → past.address ≡ Some word → IsFree met past.taken

abbrev FreeAtPut : AttemptPast → Option ℕ → Mailing → Type 0
FreeAtPut past met (mailing.LoadsState (Put addr)) = past.address ≡ None
FreeAtPut past met (mailing.StoresAddress addr) = (past.address ≡ None) × IsFree met past.taken
FreeAtPut past met mailing.StoresAsked = IsFree met past.taken
FreeAtPut past met step = ⊥

abbrev FreeAt : AttemptState → AttemptPast → Option ℕ → Attempting → Type 0
FreeAt a past met (Ended its) = IsOver past met
FreeAt a past met Looks = (a.is_emptied ≡ false) × (past.address ≡ None)
FreeAt a past met Tries = IsOpen a.is_emptied past met
FreeAt a past met Puts = FreeAtPut past met a.mailing

abbrev Free : AttemptState → AttemptPast → Option ℕ → Type 0
Free a past met = FreeAt a past met a.step

open_over : (is_emptied : Bool) (past : AttemptPast) (met : Option ℕ) → IsOpen is_emptied past met → IsOver past met
open_over is_emptied past met its word e = let none = its.none_stored in cc

puts_addr_free : (a : AttemptState) (past : AttemptPast) (met : Option ℕ) (found : Option DiskRecord) → IsOpen a.is_emptied past met → Free (puts_addr a found) past met
puts_addr_free a past met None its = open_over a.is_emptied past met its
puts_addr_free a past met (Some sought) its = tested a.is_emptied refl
  where
    tested : (b : Bool) → a.is_emptied ≡ b → FreeAtPut past met (if b then mailing.StoresAddress sought.addr else mailing.LoadsState (Put sought.addr))
    tested true e = (its.none_stored, its.free e)
    tested false e = its.none_stored

puts_free : (a : AttemptState) (past : AttemptPast) (met : Option ℕ) → IsOpen a.is_emptied past met → Free (puts a) past met
puts_free a past met its = puts_addr_free a past met a.pending.sought its

none_emptied : (is_emptied : Bool) (past : AttemptPast) (met : Option ℕ) → is_emptied ≡ false → past.address ≡ None → IsOpen is_emptied past met
none_emptied is_emptied past met none stored = record { none_stored = stored; free = λ e. absurd (never (sym e ∙ none)) }
  where
    never : true ≡ false → ⊥
    never e = cc

begun_free : (c : AttemptGiven) → Free (begun_by c) nothing None
begun_free c = tested c.pending.has_asked
  where
    its : AttemptState
    its = new_attempt c.bits c.pending c.seen c.occasion c.spare c.is_orphaned

    goes : (b : Bool) → Free (if b then puts its else tries c.places c.bits its) nothing None
    goes true = puts_free its nothing None (none_emptied false nothing None refl refl)
    goes false = none_emptied false nothing None refl refl

    tested : (b : Bool) → Free (if b then record its { mailing = mailing.LoadsState Take; step = Looks } else goes_on c.places c.bits its) nothing None
    tested true = (refl, refl)
    tested false = goes (is_seeking_read its)

-- the look
read_free : (a : AttemptState) (its : MailRecord) (said : HeaderSaid) (past : AttemptPast) (met : Option ℕ) → IsOpen a.is_emptied past met → Free (read_on a its said) past met
read_free a its Spoiled past met base = puts_free a past met base
read_free a its (Says previous version) past met base = tested (its.key.0 == (key_of a.pending.request.op).0) (is_chain_end a.pending.request.floor previous)
  where
    on : AttemptState
    on = record a { pending = with_sought a.pending (moved_on a.pending.sought previous) }

    tested : (b d : Bool) → Free (if b then attempt_ended a (told_value (value_of its.value)) else if d then attempt_ended a answer.Absent else puts on) past met
    tested true d = open_over a.is_emptied past met base
    tested false true = open_over a.is_emptied past met base
    tested false false = puts_free on past met base

taken_free : (p : Places) (bits : ℕ) (a : AttemptState) (its : MailRecord) (past : AttemptPast) (met : Option ℕ) → IsOpen a.is_emptied past met → Free (record_taken p bits a its (header_said its.header)) past met
taken_free p bits a its past met base = tested (is_seeking_read a)
  where
    tested : (b : Bool) → Free (if b then read_on a its (header_said its.header) else tries p bits (record a { pending = with_held a.pending (held_of a.pending.sought its (header_said its.header)) })) past met
    tested true = read_free a its (header_said its.header) past met base
    tested false = base

mail_taken_free : (p : Places) (bits : ℕ) (a : AttemptState) (its : MailRecord) (past : AttemptPast) (met : Option ℕ) → IsOpen a.is_emptied past met → Free (mail_taken p bits a its) past met
mail_taken_free p bits a its past met base = tested (is_gone its) (is_seeking_read a)
  where
    anew : AttemptState
    anew = record a { pending = without_gone a.pending (begin_told its) }

    tested : (b read : Bool) → Free (if b then (if read then waits_for_disk anew else tries p bits anew) else record_taken p bits a its (header_said its.header)) past met
    tested true true = open_over a.is_emptied past met base
    tested true false = base
    tested false read = taken_free p bits a its past met base

not_ready_free : (p : Places) (bits : ℕ) (a : AttemptState) (past : AttemptPast) (met : Option ℕ) → IsOpen a.is_emptied past met → Free (not_ready p bits a) past met
not_ready_free p bits a past met base = tested (is_seeking_read a)
  where
    tested : (b : Bool) → Free (if b then waits_for_disk a else tries p bits a) past met
    tested true = open_over a.is_emptied past met base
    tested false = base

look_free : (p : Places) (bits : ℕ) (a : AttemptState) (past : AttemptPast) (met : Option ℕ) (ask : Ask MailAnswer) → a.step ≡ Looks → a.is_emptied ≡ false → past.address ≡ None
    → Free (look_ledto p bits a ask) (look_told ask past) met
unfolding look_ledto
look_free p bits a past met (Done (mail.Taken its)) at none stored =
    mail_taken_free p bits (record a { is_emptied = true; pending = with_asked a.pending false }) its (record past { taken = Some its }) met (record { none_stored = stored; free = λ e. WasTaken its refl })
look_free p bits a past met (Done other) at none stored = not_ready_free p bits a past met (none_emptied a.is_emptied past met none stored)
look_free p bits a past met ask at none stored = subst (λ (step : Attempting). FreeAt a past met step) (sym at) (none, stored)

-- the try
awaits_free : (a : AttemptState) (sought : DiskRecord) (past : AttemptPast) (met : Option ℕ) → IsOpen a.is_emptied past met → Free (awaits_record a sought) past met
awaits_free a sought past met base = tested a.pending.has_asked
  where
    its : AttemptState
    its = record a { pending = with_held a.pending (held_kept a.pending.request.held sought.entry) }

    tested : (b : Bool) → Free (if b then waits_for_disk its else puts (record its { pending = with_sought its.pending (Some sought) })) past met
    tested true = open_over a.is_emptied past met base
    tested false = puts_free (record its { pending = with_sought its.pending (Some sought) }) past met base

tried_free : (a : AttemptState) (its : TryAnswer) (past : AttemptPast) (met : Option ℕ) → IsOpen a.is_emptied past met → Free (tried a its) past met
tried_free a (answer.AwaitsDisk sought) past met base = awaits_free a sought past met base
tried_free a (answer.Wait its) past met base = open_over a.is_emptied past met base
tried_free a its past met base = open_over a.is_emptied past met base

try_free : (a : AttemptState) (past : AttemptPast) (met : Option ℕ) (ask : Ask TryAnswer) → a.step ≡ Tries → IsOpen a.is_emptied past met → Free (try_ledto a ask) (try_told ask past) met
unfolding try_ledto
try_free a past met (Done its) at base = tried_free (record a { spare = a.trial.spare; pending = with_latch a.pending a.trial.has_shared }) its (record past { tried = Some its }) met (record { none_stored = base.none_stored; free = base.free })
try_free a past met ask at base = subst (λ (step : Attempting). FreeAt a past met step) (sym at) base

-- the put
abbrev PutOn : AttemptGiven → AttemptState → AttemptPast → Option ℕ → Mailing → Mailing → ℕ → Type 0
PutOn c a past met step next reply =
    Free (put_ledto (record a { mailing = next }) (mail_ask c.session next)) (put_told (mail_ask c.session next) (address_told c.session (mail_ask c.session step) past))
    (state_met c (mail_ask c.session step) reply met)

put_free : (c : AttemptGiven) (a : AttemptState) (past : AttemptPast) (met : Option ℕ) (step : Mailing) (reply : ℕ) → a.step ≡ Puts → FreeAtPut past met step → PutOn c a past met step (mail_next step reply) reply
unfolding put_ledto mail_ask mail_next
put_free c a past met (mailing.Ended its) reply at free = absurd free
put_free c a past met (mailing.LoadsState Clear) reply at free = absurd free
put_free c a past met (mailing.LoadsState Take) reply at free = absurd free
put_free c a past met (mailing.LoadsState (Put addr)) reply at free = tested (reply == mail_empty) refl
  where
    is_empty : (reply == mail_empty) ≡ true → reply ≡ mail_empty
    is_empty e = grind (arith, nat_tests)

    loaded : (reply == mail_empty) ≡ true → state_met c (mail_ask c.session (mailing.LoadsState (Put addr))) reply met ≡ Some mail_empty
    loaded e = rw (same_place (session_place c.session own.MailState)) (ap (λ (word : ℕ). Some word) (is_empty e))

    found : (reply == mail_empty) ≡ true → IsFree (state_met c (mail_ask c.session (mailing.LoadsState (Put addr))) reply met) past.taken
    found e = WasEmpty (loaded e)

    tested : (b : Bool) → (reply == mail_empty) ≡ b → PutOn c a past met (mailing.LoadsState (Put addr)) (if b then mailing.StoresAddress addr else mailing.Ended mail.Occupied) reply
    tested true e = rw at (free, found e)
    tested false e = λ word is. cc
put_free c a past met mailing.LoadsHeader reply at free = absurd free
put_free c a past met (mailing.LoadsKey header) reply at free = absurd free
put_free c a past met (mailing.LoadsValue header key) reply at free = absurd free
put_free c a past met (mailing.StoresEmpty its) reply at free = absurd free
put_free c a past met (mailing.StoresAddress addr) reply at free = rw (at, same_place (session_place c.session own.MailAddress)) free.1
put_free c a past met mailing.StoresAsked reply at free = rw (state_apart c.session) (λ word e. free)

-- each reply
next_free : (c : AttemptGiven) (a : AttemptState) (past : AttemptPast) (met : Option ℕ) (step : Attempting) (reply : ℕ) → a.step ≡ step → FreeAt a past met step
    → Free (attempting_next c.places c.bits c.room c.session a step reply) (attempt_told c.places c.room c.session a step reply past) (state_of_put c a step reply met)
unfolding attempting_next
next_free c a past met (Ended its) reply at free = rw at free
next_free c a past met Looks reply at free = look_free c.places c.bits (mail_moved a reply) past met (mail_ask c.session (mail_next a.mailing reply)) at free.0 free.1
next_free c a past met Tries reply at free = try_free (try_moved c.places c.room a reply) past met (try_ask c.places (try_next c.places c.room a.trial reply)) at free
next_free c a past met Puts reply at free = put_free c a past met a.mailing reply at free

effect_free : (a : AttemptState) (past : AttemptPast) (met : Option ℕ) (step : Attempting) → FreeAt a past met step → FreeAt (record a { effect = None }) past met step
effect_free a past met (Ended its) free = free
effect_free a past met Looks free = free
effect_free a past met Tries free = free
effect_free a past met Puts free = free

same_state : (c : AttemptGiven) (a : AttemptState) (step : Attempting) (reply : ℕ) (met : Option ℕ) → state_of_put c (record a { effect = None }) step reply met ≡ state_of_put c a step reply met
same_state c a (Ended its) reply met = refl
same_state c a Looks reply met = refl
same_state c a Tries reply met = refl
same_state c a Puts reply met = refl

run_free : (c : AttemptGiven) (replies : List ℕ) → Free (run_by c replies) (past_by c replies) (met_state c replies)
unfolding attempt_run attempt_past
run_free c [] = begun_free c
run_free c (reply ∷ others) =
    let a = run_by c others in
    let past = past_by c others in
    let met = met_state c others in
    subst (λ (then_past : AttemptPast). Free (attempt_next c.places c.bits c.room c.session a reply) then_past (state_of_put c a a.step reply met)) (same_told c a a.step reply past)
    (subst (λ (then_met : Option ℕ). Free (attempt_next c.places c.bits c.room c.session a reply) (attempt_told c.places c.room c.session (record a { effect = None }) a.step reply past) then_met) (same_state c a a.step reply met)
    (next_free c (record a { effect = None }) past met a.step reply refl (effect_free a past met a.step (run_free c others))))

put_over : (a : AttemptState) (past : AttemptPast) (met : Option ℕ) (step : Mailing) → FreeAtPut past met step → IsOver past met
put_over a past met (mailing.Ended its) free = absurd free
put_over a past met (mailing.LoadsState Clear) free = absurd free
put_over a past met (mailing.LoadsState Take) free = absurd free
put_over a past met (mailing.LoadsState (Put addr)) free = λ word e. cc
put_over a past met mailing.LoadsHeader free = absurd free
put_over a past met (mailing.LoadsKey header) free = absurd free
put_over a past met (mailing.LoadsValue header key) free = absurd free
put_over a past met (mailing.StoresEmpty its) free = absurd free
put_over a past met (mailing.StoresAddress addr) free = λ word e. free.1
put_over a past met mailing.StoresAsked free = λ word e. free

step_over : (a : AttemptState) (past : AttemptPast) (met : Option ℕ) (step : Attempting) → FreeAt a past met step → IsOver past met
step_over a past met (Ended its) free = free
step_over a past met Looks free = open_over a.is_emptied past met (none_emptied a.is_emptied past met free.0 free.1)
step_over a past met Tries free = open_over a.is_emptied past met free
step_over a past met Puts free = put_over a past met a.mailing free

pub puts_where_free : (c : AttemptGiven) (replies : List ℕ) (word : ℕ) → (past_by c replies).address ≡ Some word → IsFree (met_state c replies) (past_by c replies).taken
puts_where_free c replies = step_over (run_by c replies) (past_by c replies) (met_state c replies) (run_by c replies).step (run_free c replies)
