-- The spare bucket that an attempt leaves is the one that its asks tell.
use Rattle.std.proofs.Common.{◌≡◌, ◌≤◌, ℕ, List, [], ◌∷◌, refl, sym, ap, subst, ◌∙◌, Bool, true, false}
use Rattle.std.specs.Prelude.{◌==◌, if◌then◌else◌, Option, Some, None}
use Rattle.fkv_map.specs.Keys.{key_of}
use Rattle.fkv_plane.specs.declared.asks.Ask.{Ask}
use Rattle.fkv_plane.specs.declared.asks.Ask.TheVariants.{Load, Store, Swap, Cas, Add, Max, Put as PutsIn, Take as TakesOut, Done}
use Rattle.fkv_plane.specs.declared.places.Places.{Places}
use Rattle.fkv_plane.specs.Passing.{passed}
use Rattle.fkv_ops.specs.declared.answers.DiskRecord.{DiskRecord}
use Rattle.fkv_ops.specs.declared.answers.TryAnswer.{TryAnswer}
use Rattle.fkv_ops.specs.declared.answers.TryAnswer.TheVariants as answer
use Rattle.fkv_ops.specs.declared.header_words.HeaderSaid.{HeaderSaid}
use Rattle.fkv_ops.specs.declared.header_words.HeaderSaid.TheVariants.{Says, Spoiled}
use Rattle.fkv_ops.specs.declared.requests.Request.{Request}
use Rattle.fkv_ops.specs.HeaderWords.{header_said}
use Rattle.fkv_ops.specs.Spares.{spare_after, spare_told, TellsSpare}
use Rattle.fkv_ops.specs.Values.{value_of}
use Rattle.fkv_ops.specs.Trying.{TryState, told_value, try_ask, try_next}
use Rattle.fkv_ops.specs.TryRun.{Trial, trial_begun, try_run, exchanges}
use Rattle.fkv_ops.proofs.Shown.{each_tells_spare}
use Rattle.fkv_pending.specs.declared.attempting.Attempting.{Attempting}
use Rattle.fkv_pending.specs.declared.attempting.Attempting.TheVariants.{Ended, Looks, Tries, Puts}
use Rattle.fkv_pending.specs.declared.mailing.MailAnswer.{MailAnswer}
use Rattle.fkv_pending.specs.declared.mailing.MailAnswer.TheVariants as mail
use Rattle.fkv_pending.specs.declared.mailing.MailRecord.{MailRecord}
use Rattle.fkv_pending.specs.declared.mailing.MailTask.TheVariants.{Take}
use Rattle.fkv_pending.specs.declared.mailing.Mailing.{Mailing}
use Rattle.fkv_pending.specs.declared.mailing.Mailing.TheVariants as step
use Rattle.fkv_pending.specs.Mailing.{mail_ask, mail_next, is_gone, begin_told}
use Rattle.fkv_pending.specs.Pending.{with_sought, with_held, with_latch, with_asked, without_gone}
use Rattle.fkv_pending.specs.Attempting.{AttemptState, attempting_ask, attempt_ended, waits_for_disk, puts_addr, puts, tries, is_seeking_read, goes_on, held_of, moved_on, read_on, record_taken, not_ready, look_ledto, held_kept, awaits_record, tried, try_ledto, put_ledto, mail_moved, try_moved, attempting_next, new_attempt, mail_taken}
use Rattle.fkv_pending.specs.Attempts.{AttemptPast, look_told, try_told, address_told, put_told, attempt_told, attempt_run, attempt_past, AttemptGiven, begun_by, run_by, past_by, trial_of, attempt_exchanges, IsSpareKept, SpareKept}
use Rattle.fkv_pending.proofs.AttemptTries.{nothing, put_same, address_same}
use Rattle.fkv_ops.specs.Requests.{is_chain_end}

-- before the try, where the asks have told what was given
record IsUntried (c : AttemptGiven) (a : AttemptState) (past : AttemptPast) (told : ℕ) : Type 0 where
  seen : a.seen ≡ c.seen
  occasion : a.occasion ≡ c.occasion
  spare : a.spare ≡ c.spare
  none_tried : past.tried ≡ None
  few : c.spare ≤ c.places.overflow
  its_told : told ≡ c.spare

-- the try, which has met these replies
record IsTrying (c : AttemptGiven) (a : AttemptState) (past : AttemptPast) (told : ℕ) : Type 0 where
  spare : a.spare ≡ c.spare
  none_tried : past.tried ≡ None
  few : c.spare ≤ c.places.overflow
  request : Request
  replies : List ℕ
  its_run : a.trial ≡ try_run (trial_of c request) (trial_begun (trial_of c request) c.spare) replies
  its_told : told ≡ spare_told c.places c.spare (exchanges (trial_of c request) (trial_begun (trial_of c request) c.spare) replies)

abbrev SpareAt : AttemptGiven → AttemptState → AttemptPast → ℕ → Attempting → Type 0
SpareAt c a past told (Ended its) = IsSpareKept c past a.spare told
SpareAt c a past told Looks = IsUntried c a past told
SpareAt c a past told Tries = IsTrying c a past told
SpareAt c a past told Puts = IsSpareKept c past a.spare told

abbrev Spare : AttemptGiven → AttemptState → AttemptPast → ℕ → Type 0
Spare c a past told = SpareAt c a past told a.step

no_try : {X : Type 0} (tried : Option TryAnswer) (its : TryAnswer) → tried ≡ None → tried ≡ Some its → X
no_try tried its none some = cc

left : (c : AttemptGiven) (a : AttemptState) (past : AttemptPast) (told : ℕ) → IsUntried c a past told → IsSpareKept c past a.spare told
left c a past told its = record { given = λ none. its.spare; its_asks = λ it some. no_try past.tried it its.none_tried some; few = subst (λ (n : ℕ). n ≤ c.places.overflow) (sym its.spare) its.few }

puts_addr_spare : (c : AttemptGiven) (a : AttemptState) (past : AttemptPast) (told : ℕ) (found : Option DiskRecord) → IsSpareKept c past a.spare told → Spare c (puts_addr a found) past told
puts_addr_spare c a past told None its = its
puts_addr_spare c a past told (Some sought) its = its

puts_spare : (c : AttemptGiven) (a : AttemptState) (past : AttemptPast) (told : ℕ) → IsSpareKept c past a.spare told → Spare c (puts a) past told
puts_spare c a past told its = puts_addr_spare c a past told a.pending.sought its

tries_spare : (c : AttemptGiven) (a : AttemptState) (past : AttemptPast) (told : ℕ) → IsUntried c a past told → Spare c (tries c.places c.bits a) past told
tries_spare c a past told its = record {
  spare = its.spare;
  none_tried = its.none_tried;
  few = its.few;
  request = a.pending.request;
  replies = [];
  its_run = rw (its.seen, its.occasion, its.spare) refl;
  its_told = its.its_told;
}

begun_spare : (c : AttemptGiven) → c.spare ≤ c.places.overflow → Spare c (begun_by c) nothing c.spare
begun_spare c low = tested c.pending.has_asked
  where
    its : AttemptState
    its = new_attempt c.bits c.pending c.seen c.occasion c.spare c.is_orphaned

    untried : IsUntried c its nothing c.spare
    untried = record { seen = refl; occasion = refl; spare = refl; none_tried = refl; few = low; its_told = refl }

    goes : (b : Bool) → Spare c (if b then puts its else tries c.places c.bits its) nothing c.spare
    goes true = puts_spare c its nothing c.spare (left c its nothing c.spare untried)
    goes false = tries_spare c its nothing c.spare untried

    tested : (b : Bool) → Spare c (if b then record its { mailing = step.LoadsState Take; step = Looks } else goes_on c.places c.bits its) nothing c.spare
    tested true = record { seen = refl; occasion = refl; spare = refl; none_tried = refl; few = low; its_told = refl }
    tested false = goes (is_seeking_read its)

-- the look
read_on_spare : (c : AttemptGiven) (a : AttemptState) (past : AttemptPast) (told : ℕ) (its : MailRecord) (said : HeaderSaid) → IsSpareKept c past a.spare told → Spare c (read_on a its said) past told
read_on_spare c a past told its Spoiled kept = puts_spare c a past told kept
read_on_spare c a past told its (Says previous version) kept = tested (its.key.0 == (key_of a.pending.request.op).0) (is_chain_end a.pending.request.floor previous)
  where
    on : AttemptState
    on = record a { pending = with_sought a.pending (moved_on a.pending.sought previous) }

    tested : (b e : Bool) → Spare c (if b then attempt_ended a (told_value (value_of its.value)) else if e then attempt_ended a answer.Absent else puts on) past told
    tested true e = kept
    tested false true = kept
    tested false false = puts_spare c on past told kept

taken_spare : (c : AttemptGiven) (a : AttemptState) (past : AttemptPast) (told : ℕ) (its : MailRecord) (said : HeaderSaid) → IsUntried c a past told → Spare c (record_taken c.places c.bits a its said) past told
taken_spare c a past told its said untried = tested (is_seeking_read a)
  where
    held : AttemptState
    held = record a { pending = with_held a.pending (held_of a.pending.sought its said) }

    tested : (b : Bool) → Spare c (if b then read_on a its said else tries c.places c.bits held) past told
    tested true = read_on_spare c a past told its said (left c a past told untried)
    tested false = tries_spare c held past told (record { seen = untried.seen; occasion = untried.occasion; spare = untried.spare; none_tried = untried.none_tried; few = untried.few; its_told = untried.its_told })

mail_taken_spare : (c : AttemptGiven) (a : AttemptState) (past : AttemptPast) (told : ℕ) (its : MailRecord) → IsUntried c a past told → Spare c (mail_taken c.places c.bits a its) past told
mail_taken_spare c a past told its untried = tested (is_gone its) (is_seeking_read a)
  where
    anew : AttemptState
    anew = record a { pending = without_gone a.pending (begin_told its) }

    tested : (b read : Bool) → Spare c (if b then (if read then waits_for_disk anew else tries c.places c.bits anew) else record_taken c.places c.bits a its (header_said its.header)) past told
    tested true true = left c a past told untried
    tested true false = tries_spare c anew past told (record { seen = untried.seen; occasion = untried.occasion; spare = untried.spare; none_tried = untried.none_tried; few = untried.few; its_told = untried.its_told })
    tested false read = taken_spare c a past told its (header_said its.header) untried

not_ready_spare : (c : AttemptGiven) (a : AttemptState) (past : AttemptPast) (told : ℕ) → IsUntried c a past told → Spare c (not_ready c.places c.bits a) past told
not_ready_spare c a past told untried = tested (is_seeking_read a)
  where
    tested : (b : Bool) → Spare c (if b then waits_for_disk a else tries c.places c.bits a) past told
    tested true = left c a past told untried
    tested false = tries_spare c a past told untried

look_spare : (c : AttemptGiven) (a : AttemptState) (past : AttemptPast) (told : ℕ) (ask : Ask MailAnswer) → a.step ≡ Looks → IsUntried c a past told → Spare c (look_ledto c.places c.bits a ask) (look_told ask past) told
unfolding look_ledto
look_spare c a past told (Done (mail.Taken its)) at untried =
    mail_taken_spare c (record a { is_emptied = true; pending = with_asked a.pending false }) (record past { taken = Some its }) told its
    (record { seen = untried.seen; occasion = untried.occasion; spare = untried.spare; none_tried = untried.none_tried; few = untried.few; its_told = untried.its_told })
look_spare c a past told (Done other) at untried = not_ready_spare c a past told untried
look_spare c a past told ask at untried = subst (SpareAt c a past told) (sym at) untried

-- the try
awaits_spare : (c : AttemptGiven) (a : AttemptState) (past : AttemptPast) (told : ℕ) (sought : DiskRecord) → IsSpareKept c past a.spare told → Spare c (awaits_record a sought) past told
awaits_spare c a past told sought kept = tested a.pending.has_asked
  where
    its : AttemptState
    its = record a { pending = with_held a.pending (held_kept a.pending.request.held sought.entry) }

    tested : (b : Bool) → Spare c (if b then waits_for_disk its else puts (record its { pending = with_sought its.pending (Some sought) })) past told
    tested true = kept
    tested false = puts_spare c (record its { pending = with_sought its.pending (Some sought) }) past told kept

tried_spare : (c : AttemptGiven) (a : AttemptState) (past : AttemptPast) (told : ℕ) (its : TryAnswer) → IsSpareKept c past a.spare told → Spare c (tried a its) past told
tried_spare c a past told (answer.AwaitsDisk sought) kept = awaits_spare c a past told sought kept
tried_spare c a past told (answer.Wait its) kept = kept
tried_spare c a past told its kept = kept

try_spare : (c : AttemptGiven) (a : AttemptState) (past : AttemptPast) (told : ℕ) (ask : Ask TryAnswer) → c.spare ≤ c.places.overflow → a.step ≡ Tries → try_ask c.places a.trial ≡ ask → IsTrying c a past told
    → Spare c (try_ledto a ask) (try_told ask past) told
unfolding try_ledto
try_spare c a past told (Done its) low at e trying =
    tried_spare c (record a { spare = a.trial.spare; pending = with_latch a.pending a.trial.has_shared }) (record past { tried = Some its }) told its
    (record { given = λ none. no_try (Some its) its none refl; its_asks = λ it some. same; few = fits })
  where
    trial : Trial
    trial = trial_of c trying.request

    ended : try_ask c.places (try_run trial (trial_begun trial c.spare) trying.replies) ≡ Done its
    ended = sym (ap (try_ask c.places) trying.its_run) ∙ e

    tells : TellsSpare trial c.spare (exchanges trial (trial_begun trial c.spare) trying.replies) (try_run trial (trial_begun trial c.spare) trying.replies)
    tells = each_tells_spare trial c.spare trying.replies its ended

    fits : a.trial.spare ≤ c.places.overflow
    fits = subst (λ (t : TryState). t.spare ≤ c.places.overflow) (sym trying.its_run) (tells.few low)

    same : a.trial.spare ≡ told
    same = ap (λ (t : TryState). t.spare) trying.its_run ∙ tells.told low ∙ sym trying.its_told
try_spare c a past told ask low at e trying = subst (SpareAt c a past told) (sym at) trying

passed_after : (p : Places) (ask : Ask TryAnswer) (reply n : ℕ) → spare_after p (passed ask answer.Shift) reply n ≡ spare_after p ask reply n
unfolding passed
passed_after p (Load place) reply n = refl
passed_after p (Store place word) reply n = refl
passed_after p (Swap place word) reply n = refl
passed_after p (Cas place old new) reply n = refl
passed_after p (Add place k) reply n = refl
passed_after p (Max place k) reply n = refl
passed_after p (PutsIn slot action) reply n = refl
passed_after p (TakesOut slot) reply n = refl
passed_after p (Done its) reply n = refl

moved_spare : (c : AttemptGiven) (a : AttemptState) (past : AttemptPast) (told reply : ℕ) → IsTrying c a past told
    → IsTrying c (try_moved c.places c.room a reply) past (spare_after c.places (passed (try_ask c.places a.trial) answer.Shift) reply told)
moved_spare c a past told reply its = record {
  spare = its.spare;
  none_tried = its.none_tried;
  few = its.few;
  request = its.request;
  replies = reply ∷ its.replies;
  its_run = ap (λ (t : TryState). try_next c.places c.room t reply) its.its_run;
  its_told = passed_after c.places (try_ask c.places a.trial) reply told
      ∙ ap (λ (t : TryState). spare_after c.places (try_ask c.places t) reply told) its.its_run
      ∙ ap (spare_after c.places (try_ask c.places (try_run (trial_of c its.request) (trial_begun (trial_of c its.request) c.spare) its.replies)) reply) its.its_told;
}

-- the mailbox has nothing to do with it
mail_after : (p : Places) (session : ℕ) (its : Mailing) (reply n : ℕ) → spare_after p (passed (mail_ask session its) answer.Shift) reply n ≡ n
unfolding mail_ask passed
mail_after p session (step.Ended its) reply n = refl
mail_after p session (step.LoadsState task) reply n = refl
mail_after p session step.LoadsHeader reply n = refl
mail_after p session (step.LoadsKey header) reply n = refl
mail_after p session (step.LoadsValue header key) reply n = refl
mail_after p session (step.StoresEmpty its) reply n = refl
mail_after p session (step.StoresAddress addr) reply n = refl
mail_after p session step.StoresAsked reply n = refl

-- the put
put_spare : (c : AttemptGiven) (a : AttemptState) (past : AttemptPast) (told : ℕ) (ask : Ask MailAnswer) → a.step ≡ Puts → IsSpareKept c past a.spare told → Spare c (put_ledto a ask) past told
unfolding put_ledto
put_spare c a past told (Done mail.Asked) at kept = kept
put_spare c a past told (Done other) at kept = kept
put_spare c a past told ask at kept = subst (SpareAt c a past told) (sym at) kept

other_past : (c : AttemptGiven) (past then_past : AttemptPast) (spare told : ℕ) → then_past.tried ≡ past.tried → IsSpareKept c past spare told → IsSpareKept c then_past spare told
other_past c past then_past spare told same kept = record { given = λ none. kept.given (sym same ∙ none); its_asks = λ its some. kept.its_asks its (sym same ∙ some); few = kept.few }

-- each reply
next_spare : (c : AttemptGiven) (a : AttemptState) (past : AttemptPast) (told : ℕ) (step : Attempting) (reply : ℕ) → c.spare ≤ c.places.overflow → a.step ≡ step → SpareAt c a past told step
    → Spare c (attempting_next c.places c.bits c.room c.session (record a { effect = None }) step reply) (attempt_told c.places c.room c.session a step reply past) (spare_after c.places (attempting_ask c.places c.session a step) reply told)
unfolding attempting_ask attempting_next
next_spare c a past told (Ended its) reply low at kept = subst (SpareAt c (record a { effect = None }) past told) (sym at) kept
next_spare c a past told Looks reply low at kept =
    let s : AttemptState = mail_moved (record a { effect = None }) reply in
    let ask = mail_ask c.session (mail_next a.mailing reply) in
    subst (Spare c (look_ledto c.places c.bits s ask) (look_told ask past)) (sym (mail_after c.places c.session a.mailing reply told))
    (look_spare c s past told ask at (record { seen = kept.seen; occasion = kept.occasion; spare = kept.spare; none_tried = kept.none_tried; few = kept.few; its_told = kept.its_told }))
next_spare c a past told Tries reply low at kept =
    let s : AttemptState = record a { effect = None } in
    let quiet : IsTrying c s past told = record { spare = kept.spare; none_tried = kept.none_tried; few = kept.few; request = kept.request; replies = kept.replies; its_run = kept.its_run; its_told = kept.its_told } in
    try_spare c (try_moved c.places c.room s reply) past (spare_after c.places (passed (try_ask c.places a.trial) answer.Shift) reply told) (try_ask c.places (try_next c.places c.room a.trial reply)) low at refl (moved_spare c s past told reply quiet)
next_spare c a past told Puts reply low at kept =
    let s : AttemptState = mail_moved (record a { effect = None }) reply in
    let asked = mail_ask c.session a.mailing in
    let then_asks = mail_ask c.session (mail_next a.mailing reply) in
    let first = address_same c.session asked past in
    let then_same = put_same then_asks (address_told c.session asked past) in
    subst (Spare c (put_ledto s then_asks) (put_told then_asks (address_told c.session asked past))) (sym (mail_after c.places c.session a.mailing reply told))
    (put_spare c s (put_told then_asks (address_told c.session asked past)) told then_asks at (other_past c past (put_told then_asks (address_told c.session asked past)) a.spare told (then_same.1 ∙ first.1) kept))

run_spare : (c : AttemptGiven) (replies : List ℕ) → c.spare ≤ c.places.overflow → Spare c (run_by c replies) (past_by c replies) (spare_told c.places c.spare (attempt_exchanges c replies))
unfolding attempt_run attempt_past
run_spare c [] low = begun_spare c low
run_spare c (reply ∷ others) low =
    let a = run_by c others in
    next_spare c a (past_by c others) (spare_told c.places c.spare (attempt_exchanges c others)) a.step reply low refl (run_spare c others low)

spare_so : (c : AttemptGiven) (a : AttemptState) (past : AttemptPast) (told : ℕ) (step : Attempting) → SpareAt c a past told step → IsSpareKept c past a.spare told
spare_so c a past told (Ended its) kept = kept
spare_so c a past told Looks kept = left c a past told kept
spare_so c a past told Tries kept = record { given = λ none. kept.spare; its_asks = λ it some. no_try past.tried it kept.none_tried some; few = subst (λ (n : ℕ). n ≤ c.places.overflow) (sym kept.spare) kept.few }
spare_so c a past told Puts kept = kept

pub spare_is_kept : SpareKept
spare_is_kept c replies low =
    spare_so c (run_by c replies) (past_by c replies) (spare_told c.places c.spare (attempt_exchanges c replies)) (run_by c replies).step (run_spare c replies low)
