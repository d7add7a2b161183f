-- What an attempt is answered, and what its request seeks then.
use Rattle.std.proofs.Common.{◌≡◌, ◌⊎◌, inl, inr, ℕ, List, [], ◌∷◌, refl, sym, ap, subst, ◌∙◌, Bool, true, false}
use Rattle.std.specs.Prelude.{◌≢◌, ◌==◌, if◌then◌else◌, Option, Some, None}
use Rattle.std.proofs.Common.{arith}
use Rattle.std.proofs.lemmas.Bool.Decides.{nat_tests}
use Rattle.fkv_base.specs.declared.numbers.Addr.{Addr}
use Rattle.fkv_map.specs.declared.operations.Op.{Op}
use Rattle.fkv_map.specs.Keys.{key_of}
use Rattle.fkv_plane.specs.declared.asks.Ask.{Ask}
use Rattle.fkv_plane.specs.declared.asks.Ask.TheVariants.{Done}
use Rattle.fkv_plane.specs.declared.places.Places.{Places}
use Rattle.fkv_plane.specs.Passing.{is_done}
use Rattle.fkv_ops.specs.declared.answers.DiskRecord.{DiskRecord}
use Rattle.fkv_ops.specs.declared.answers.Reason.TheVariants as reason
use Rattle.fkv_ops.specs.declared.answers.TryAnswer.{TryAnswer}
use Rattle.fkv_ops.specs.declared.answers.TryAnswer.TheVariants as answer
use Rattle.fkv_ops.specs.declared.header_words.HeaderSaid.{HeaderSaid}
use Rattle.fkv_ops.specs.declared.header_words.HeaderSaid.TheVariants.{Says, Spoiled}
use Rattle.fkv_ops.specs.HeaderWords.{header_said}
use Rattle.fkv_ops.specs.Values.{value_of}
use Rattle.fkv_ops.specs.Trying.{told_value, try_ask, try_next}
use Rattle.fkv_pending.specs.declared.attempting.Attempting.{Attempting}
use Rattle.fkv_pending.specs.declared.attempting.Attempting.TheVariants.{Ended, Looks, Tries, Puts}
use Rattle.fkv_pending.specs.declared.mailing.MailAnswer.{MailAnswer}
use Rattle.fkv_pending.specs.declared.mailing.MailAnswer.TheVariants as mail
use Rattle.fkv_pending.specs.declared.mailing.MailRecord.{MailRecord}
use Rattle.fkv_pending.specs.declared.mailing.MailTask.TheVariants.{Take}
use Rattle.fkv_pending.specs.declared.mailing.Mailing.TheVariants.{LoadsState}
use Rattle.fkv_pending.specs.declared.pending_requests.PendingRequest.{PendingRequest}
use Rattle.fkv_pending.specs.Mailing.{mail_ask, mail_next, is_gone, begin_told}
use Rattle.fkv_pending.specs.Pending.{with_sought, with_held, with_latch, with_asked, without_gone}
use Rattle.fkv_pending.specs.Attempting.{AttemptState, attempting_ask, attempt_ask, attempt_ended, waits_for_disk, puts_addr, puts, tries, is_seeking_read, goes_on, held_of, moved_on, read_on, record_taken, not_ready, look_ledto, held_kept, awaits_record, tried, try_ledto, put_ledto, mail_moved, try_moved, attempting_next, attempt_next, new_attempt, goes_anew, mail_taken}
use Rattle.fkv_pending.specs.Attempts.{AttemptPast, look_told, try_told, address_told, put_told, attempt_told, attempt_run, attempt_past, is_under_way, AttemptGiven, begun_by, run_by, past_by, IsReadBy, IsReadEnd, IsTryEnd, IsBefore, ReadSeeksBy, ReadSeeks, TrySeeks, IsAnswered, sought_behind}
use Rattle.fkv_pending.proofs.AttemptRests.{AttemptRestsOrAsks, is_attempt_end, attempt_done, attempt_begun_rests, attempt_rests}
use Rattle.fkv_pending.proofs.AttemptTries.{is_read_on, is_tried, is_read_then, put_same, address_same, same_told}
use Rattle.fkv_ops.specs.Requests.{is_chain_end}
use Rattle.fkv_pending.proofs.Gone.{gone_spoiled, sought_lost, sought_stays}

-- behind the look of a read at a poll, or behind the try: by what the end is
data IsBehind (first : PendingRequest) (is_on : Bool) (sought : Option DiskRecord) (taken : Option MailRecord) (met : Option TryAnswer) (its : TryAnswer) : Type 0 where
  OfRead : is_on ≡ true → ReadSeeks first taken sought → IsReadEnd first taken its → IsBehind first is_on sought taken met its
  OfTry : is_on ≡ false → TrySeeks first taken met sought → IsTryEnd met its → IsBehind first is_on sought taken met its

record IsLooking (first : PendingRequest) (is_on : Bool) (a : AttemptState) (taken : Option MailRecord) (met : Option TryAnswer) : Type 0 where
  request : a.pending ≡ first
  its_read : is_seeking_read a ≡ is_on
  none_taken : taken ≡ None
  none_met : met ≡ None

record IsTrying (first : PendingRequest) (is_on : Bool) (pending : PendingRequest) (taken : Option MailRecord) (met : Option TryAnswer) : Type 0 where
  no_read : is_on ≡ false
  sought : pending.sought ≡ sought_behind first taken
  under_way : pending.has_asked ≡ is_under_way None taken first.has_asked
  none_met : met ≡ None

abbrev AnsweredAt : PendingRequest → Bool → AttemptState → Option MailRecord → Option TryAnswer → Attempting → Type 0
AnsweredAt first is_on a taken met (Ended its) = IsBehind first is_on a.pending.sought taken met its
AnsweredAt first is_on a taken met Looks = IsLooking first is_on a taken met
AnsweredAt first is_on a taken met Tries = IsTrying first is_on a.pending taken met
AnsweredAt first is_on a taken met Puts = IsBehind first is_on a.pending.sought taken met (answer.Wait reason.Disk)

abbrev Answered : PendingRequest → Bool → AttemptState → Option MailRecord → Option TryAnswer → Type 0
Answered first is_on a taken met = AnsweredAt first is_on a taken met a.step

puts_addr_answered : (first : PendingRequest) (is_on : Bool) (a : AttemptState) (taken : Option MailRecord) (met : Option TryAnswer) (found : Option DiskRecord)
    → IsBehind first is_on a.pending.sought taken met (answer.Wait reason.Disk) → Answered first is_on (puts_addr a found) taken met
puts_addr_answered first is_on a taken met None its = its
puts_addr_answered first is_on a taken met (Some sought) its = its

puts_answered : (first : PendingRequest) (is_on : Bool) (a : AttemptState) (taken : Option MailRecord) (met : Option TryAnswer) → IsBehind first is_on a.pending.sought taken met (answer.Wait reason.Disk)
    → Answered first is_on (puts a) taken met
puts_answered first is_on a taken met its = puts_addr_answered first is_on a taken met a.pending.sought its

begun_answered : (c : AttemptGiven) → Answered c.pending (is_read_on c) (begun_by c) None None
begun_answered c = tested c.pending.has_asked refl
  where
    its : AttemptState
    its = new_attempt c.bits c.pending c.seen c.occasion c.spare c.is_orphaned

    goes : (b : Bool) → is_read_on c ≡ b → Answered c.pending (is_read_on c) (if b then puts its else tries c.places c.bits its) None None
    goes true e = puts_answered c.pending (is_read_on c) its None None (OfRead e refl refl)
    goes false e = record { no_read = e; sought = refl; under_way = refl; none_met = refl }

    tested : (b : Bool) → c.pending.has_asked ≡ b → Answered c.pending (is_read_on c) (if b then record its { mailing = LoadsState Take; step = Looks } else goes_on c.places c.bits its) None None
    tested true e = record { request = refl; its_read = refl; none_taken = refl; none_met = refl }
    tested false e = goes (is_read_on c) refl

-- the look
same_key : (a b : ℕ) → (a == b) ≡ true → a ≡ b
same_key a b e = grind (arith, nat_tests)

other_key : (a b : ℕ) → (a == b) ≡ false → a ≢ b
other_key a b e same = grind (arith, nat_tests)

moved_before : (sought : Option DiskRecord) (previous : Addr) → IsBefore sought previous (moved_on sought previous)
moved_before None previous = refl
moved_before (Some its) previous = refl

-- by the same words of the header
record IsReadSaid (first : PendingRequest) (its : MailRecord) (said : HeaderSaid) (sought : Option DiskRecord) (told : TryAnswer) : Type 0 where
  seeks : ReadSeeksBy first its said sought
  its_end : IsReadBy first its said told

said_behind : (first : PendingRequest) (is_on : Bool) (its : MailRecord) (said : HeaderSaid) (sought : Option DiskRecord) (met : Option TryAnswer) (told : TryAnswer) → is_on ≡ true → header_said its.header ≡ said
    → IsReadSaid first its said sought told → IsBehind first is_on sought (Some its) met told
said_behind first is_on its said sought met told on e is = OfRead on
    (subst (λ (it : HeaderSaid). ReadSeeksBy first its it sought) (sym e) is.seeks)
    (subst (λ (it : HeaderSaid). IsReadBy first its it told) (sym e) is.its_end)

read_on_answered : (first : PendingRequest) (is_on : Bool) (a : AttemptState) (its : MailRecord) (said : HeaderSaid) → is_gone its ≡ false → is_on ≡ true → header_said its.header ≡ said → a.pending.sought ≡ first.sought
    → a.pending.request.op ≡ first.request.op → a.pending.request.floor ≡ first.request.floor → Answered first is_on (read_on a its said) (Some its) None
unfolding with_sought
read_on_answered first is_on a its Spoiled there on e same op floor =
    puts_answered first is_on a (Some its) None (said_behind first is_on its Spoiled a.pending.sought None (answer.Wait reason.Disk) on e (record { seeks = same ∙ sought_stays first its there; its_end = tt }))
read_on_answered first is_on a its (Says previous version) there on e same op floor = tested (its.key.0 == (key_of a.pending.request.op).0) (is_chain_end a.pending.request.floor previous) refl refl
  where
    no : true ≡ false → ⊥
    no is = cc

    ends : (b : Bool) → is_chain_end a.pending.request.floor previous ≡ b → is_chain_end first.request.floor previous ≡ b
    ends b is = subst (λ (it : Addr). is_chain_end it previous ≡ b) floor is

    said : HeaderSaid
    said = Says previous version

    later : AttemptState
    later = record a { pending = with_sought a.pending (moved_on a.pending.sought previous) }

    its_key : (its.key.0 == (key_of a.pending.request.op).0) ≡ true → its.key.0 ≡ (key_of first.request.op).0
    its_key is = let key = same_key its.key.0 (key_of a.pending.request.op).0 is in key ∙ ap (λ (it : Op). (key_of it).0) op

    anothers : (its.key.0 == (key_of a.pending.request.op).0) ≡ false → its.key.0 ≢ (key_of first.request.op).0
    anothers is key = other_key its.key.0 (key_of a.pending.request.op).0 is (key ∙ sym (ap (λ (it : Op). (key_of it).0) op))

    valued : (value : Option ℕ) → value_of its.value ≡ value → its.key.0 ≡ (key_of first.request.op).0 → IsReadBy first its said (told_value value)
    valued None is key = inl (key, is)
    valued (Some value) is key = (key, is)

    found : its.key.0 ≡ (key_of first.request.op).0 → IsReadSaid first its said a.pending.sought (told_value (value_of its.value))
    found key = record { seeks = record { goes_on = λ other some. absurd (other key); stays = λ why. same }; its_end = valued (value_of its.value) refl key }

    last : its.key.0 ≢ (key_of first.request.op).0 → is_chain_end first.request.floor previous ≡ true → IsReadSaid first its said a.pending.sought answer.Absent
    last other none = record { seeks = record { goes_on = λ key some. absurd (no (sym none ∙ some)); stays = λ why. same }; its_end = inr (other, none) }

    neither : its.key.0 ≢ (key_of first.request.op).0 → is_chain_end first.request.floor previous ≡ false → (its.key.0 ≡ (key_of first.request.op).0) ⊎ (is_chain_end first.request.floor previous ≡ true) → later.pending.sought ≡ first.sought
    neither other some (inl key) = absurd (other key)
    neither other some (inr none) = absurd (no (sym none ∙ some))

    behind : its.key.0 ≢ (key_of first.request.op).0 → is_chain_end first.request.floor previous ≡ false → IsReadSaid first its said later.pending.sought (answer.Wait reason.Disk)
    behind other some = record {
      seeks = record {
        goes_on = λ key is. subst (λ (it : Option DiskRecord). IsBefore it previous later.pending.sought) same (moved_before a.pending.sought previous);
        stays = neither other some;
      };
      its_end = (other, some);
    }

    tested : (b d : Bool) → (its.key.0 == (key_of a.pending.request.op).0) ≡ b → is_chain_end a.pending.request.floor previous ≡ d
        → Answered first is_on (if b then attempt_ended a (told_value (value_of its.value)) else if d then attempt_ended a answer.Absent else puts later) (Some its) None
    tested true d key end = said_behind first is_on its said a.pending.sought None (told_value (value_of its.value)) on e (found (its_key key))
    tested false true key end = said_behind first is_on its said a.pending.sought None answer.Absent on e (last (anothers key) (ends true end))
    tested false false key end =
        puts_answered first is_on later (Some its) None (said_behind first is_on its said later.pending.sought None (answer.Wait reason.Disk) on e (behind (anothers key) (ends false end)))

taken_answered : (p : Places) (bits : ℕ) (a : AttemptState) (its : MailRecord) → is_gone its ≡ false
    → Answered a.pending (is_seeking_read a) (record_taken p bits (record a { is_emptied = true; pending = with_asked a.pending false }) its (header_said its.header)) (Some its) None
unfolding with_asked with_held
taken_answered p bits a its there = tested (is_seeking_read a) refl
  where
    b : AttemptState
    b = record a { is_emptied = true; pending = with_asked a.pending false }

    tested : (e : Bool) → is_seeking_read a ≡ e
        → Answered a.pending (is_seeking_read a) (if e then read_on b its (header_said its.header) else tries p bits (record b { pending = with_held b.pending (held_of b.pending.sought its (header_said its.header)) })) (Some its) None
    tested true e = read_on_answered a.pending (is_seeking_read a) b its (header_said its.header) there e refl refl refl refl
    tested false e = record { no_read = e; sought = sought_stays a.pending its there; under_way = refl; none_met = refl }

-- it seeks nothing: a read waits
gone_answered : (p : Places) (bits : ℕ) (a : AttemptState) (its : MailRecord) → is_gone its ≡ true
    → Answered a.pending (is_seeking_read a) (goes_anew p bits (record a { is_emptied = true; pending = with_asked a.pending false }) (begin_told its)) (Some its) None
unfolding with_asked without_gone
gone_answered p bits a its gone = tested (is_seeking_read a)
  where
    anew : AttemptState
    anew = record a { is_emptied = true; pending = without_gone (with_asked a.pending false) (begin_told its) }

    tested : (b : Bool) → Answered a.pending b (if b then waits_for_disk anew else tries p bits anew) (Some its) None
    tested true = said_behind a.pending true its Spoiled None None (answer.Wait reason.Disk) refl (gone_spoiled its gone) (record { seeks = sought_lost a.pending its gone; its_end = tt })
    tested false = record { no_read = refl; sought = sought_lost a.pending its gone; under_way = refl; none_met = refl }

mail_answered : (p : Places) (bits : ℕ) (a : AttemptState) (its : MailRecord)
    → Answered a.pending (is_seeking_read a) (mail_taken p bits (record a { is_emptied = true; pending = with_asked a.pending false }) its) (Some its) None
mail_answered p bits a its = tested (is_gone its) refl
  where
    b : AttemptState
    b = record a { is_emptied = true; pending = with_asked a.pending false }

    tested : (c : Bool) → is_gone its ≡ c
        → Answered a.pending (is_seeking_read a) (if c then goes_anew p bits b (begin_told its) else record_taken p bits b its (header_said its.header)) (Some its) None
    tested true gone = gone_answered p bits a its gone
    tested false there = taken_answered p bits a its there

not_ready_answered : (p : Places) (bits : ℕ) (a : AttemptState) → Answered a.pending (is_seeking_read a) (not_ready p bits a) None None
not_ready_answered p bits a = tested (is_seeking_read a) refl
  where
    tested : (b : Bool) → is_seeking_read a ≡ b → Answered a.pending (is_seeking_read a) (if b then waits_for_disk a else tries p bits a) None None
    tested true e = OfRead e refl refl
    tested false e = record { no_read = e; sought = refl; under_way = refl; none_met = refl }

look_answered : (p : Places) (bits : ℕ) (a : AttemptState) (ask : Ask MailAnswer) (past : AttemptPast) → a.step ≡ Looks → past.taken ≡ None → past.tried ≡ None
    → Answered a.pending (is_seeking_read a) (look_ledto p bits a ask) (look_told ask past).taken (look_told ask past).tried
unfolding look_ledto
look_answered p bits a (Done (mail.Taken its)) past at taken met = rw met (mail_answered p bits a its)
look_answered p bits a (Done other) past at taken met = rw (taken, met) (not_ready_answered p bits a)
look_answered p bits a ask past at taken met = subst (λ (step : Attempting). AnsweredAt a.pending (is_seeking_read a) a past.taken past.tried step) (sym at) (record { request = refl; its_read = refl; none_taken = taken; none_met = met })

-- the try
awaits_answered : (first : PendingRequest) (is_on : Bool) (a : AttemptState) (taken : Option MailRecord) (sought : DiskRecord) → IsTrying first is_on a.pending taken None
    → Answered first is_on (awaits_record a sought) taken (Some (answer.AwaitsDisk sought))
unfolding with_held with_sought
awaits_answered first is_on a taken sought trying = tested a.pending.has_asked refl
  where
    its : AttemptState
    its = record a { pending = with_held a.pending (held_kept a.pending.request.held sought.entry) }

    under : (b : Bool) → a.pending.has_asked ≡ b → is_under_way None taken first.has_asked ≡ b
    under b e = sym trying.under_way ∙ e

    -- its mail is under way, so none was taken
    stays : (taken : Option MailRecord) → is_under_way None taken first.has_asked ≡ true → sought_behind first taken ≡ first.sought
    stays None e = refl
    stays (Some its) e = cc

    seeks : (b u : Bool) → u ≡ b → (u ≡ true → a.pending.sought ≡ first.sought) → (if b then a.pending.sought else Some sought) ≡ (if u then first.sought else Some sought)
    seeks true u e same = rw e (same e)
    seeks false u e same = rw e refl

    kept : is_under_way None taken first.has_asked ≡ true → a.pending.sought ≡ first.sought
    kept e = trying.sought ∙ stays taken e

    tested : (b : Bool) → a.pending.has_asked ≡ b → Answered first is_on (if b then waits_for_disk its else puts (record its { pending = with_sought its.pending (Some sought) })) taken (Some (answer.AwaitsDisk sought))
    tested true e = OfTry trying.no_read (seeks true (is_under_way None taken first.has_asked) (under true e) kept) refl
    tested false e = puts_answered first is_on (record its { pending = with_sought its.pending (Some sought) }) taken (Some (answer.AwaitsDisk sought))
        (OfTry trying.no_read (seeks false (is_under_way None taken first.has_asked) (under false e) kept) refl)

tried_answered : (first : PendingRequest) (is_on : Bool) (a : AttemptState) (taken : Option MailRecord) (its : TryAnswer) → IsTrying first is_on a.pending taken None → Answered first is_on (tried a its) taken (Some its)
tried_answered first is_on a taken (answer.AwaitsDisk sought) trying = awaits_answered first is_on a taken sought trying
tried_answered first is_on a taken (answer.Wait why) trying = OfTry trying.no_read trying.sought refl
tried_answered first is_on a taken (answer.Done its) trying = OfTry trying.no_read trying.sought refl
tried_answered first is_on a taken (answer.Found its) trying = OfTry trying.no_read trying.sought refl
tried_answered first is_on a taken answer.Absent trying = OfTry trying.no_read trying.sought refl
tried_answered first is_on a taken answer.Shift trying = OfTry trying.no_read trying.sought refl
tried_answered first is_on a taken answer.IndexFull trying = OfTry trying.no_read trying.sought refl
tried_answered first is_on a taken answer.LogFull trying = OfTry trying.no_read trying.sought refl

try_answered : (first : PendingRequest) (is_on : Bool) (a : AttemptState) (past : AttemptPast) (ask : Ask TryAnswer) → a.step ≡ Tries → IsTrying first is_on a.pending past.taken past.tried
    → Answered first is_on (try_ledto a ask) (try_told ask past).taken (try_told ask past).tried
unfolding try_ledto with_latch
try_answered first is_on a past (Done its) at trying =
    tried_answered first is_on (record a { spare = a.trial.spare; pending = with_latch a.pending a.trial.has_shared }) past.taken its
    (record { no_read = trying.no_read; sought = trying.sought; under_way = trying.under_way; none_met = refl })
try_answered first is_on a past ask at trying = subst (λ (step : Attempting). AnsweredAt first is_on a past.taken past.tried step) (sym at) trying

-- the put
put_answered : (first : PendingRequest) (is_on : Bool) (a : AttemptState) (taken : Option MailRecord) (met : Option TryAnswer) (ask : Ask MailAnswer) → a.step ≡ Puts
    → IsBehind first is_on a.pending.sought taken met (answer.Wait reason.Disk) → Answered first is_on (put_ledto a ask) taken met
unfolding put_ledto with_asked
put_answered first is_on a taken met (Done mail.Asked) at its = its
put_answered first is_on a taken met (Done other) at its = its
put_answered first is_on a taken met ask at its = subst (λ (step : Attempting). AnsweredAt first is_on a taken met step) (sym at) its

-- each reply
abbrev AnsweredBy : AttemptGiven → PendingRequest → Bool → AttemptState → AttemptPast → Attempting → ℕ → Type 0
AnsweredBy c first is_on a past step reply =
    let then_past = attempt_told c.places c.room c.session a step reply past in
    Answered first is_on (attempting_next c.places c.bits c.room c.session a step reply) then_past.taken then_past.tried

next_answered : (c : AttemptGiven) (first : PendingRequest) (is_on : Bool) (a : AttemptState) (past : AttemptPast) (step : Attempting) (reply : ℕ) → a.step ≡ step → AnsweredAt first is_on a past.taken past.tried step
    → AnsweredBy c first is_on a past step reply
unfolding attempting_next
next_answered c first is_on a past (Ended its) reply at told = rw at told
next_answered c first is_on a past Looks reply at told =
    subst (λ (on : Bool). AnsweredBy c first on a past Looks reply) told.its_read
    (subst (λ (pending : PendingRequest). AnsweredBy c pending (is_seeking_read a) a past Looks reply) told.request
    (look_answered c.places c.bits (mail_moved a reply) (mail_ask c.session (mail_next a.mailing reply)) past at told.none_taken told.none_met))
next_answered c first is_on a past Tries reply at told = try_answered first is_on (try_moved c.places c.room a reply) past (try_ask c.places (try_next c.places c.room a.trial reply)) at told
next_answered c first is_on a past Puts reply at told =
    let then_asks = mail_ask c.session (mail_next a.mailing reply) in
    let stored = address_told c.session (mail_ask c.session a.mailing) past in
    let one = address_same c.session (mail_ask c.session a.mailing) past in
    let two = put_same then_asks stored in
    let taken : (put_told then_asks stored).taken ≡ past.taken = two.0 ∙ one.0 in
    let met : (put_told then_asks stored).tried ≡ past.tried = two.1 ∙ one.1 in
    rw (taken, met) (put_answered first is_on (mail_moved a reply) past.taken past.tried then_asks at told)

effect_answered : (first : PendingRequest) (is_on : Bool) (a : AttemptState) (taken : Option MailRecord) (met : Option TryAnswer) (step : Attempting) → AnsweredAt first is_on a taken met step
    → AnsweredAt first is_on (record a { effect = None }) taken met step
effect_answered first is_on a taken met (Ended its) told = told
effect_answered first is_on a taken met Looks told = record { request = told.request; its_read = told.its_read; none_taken = told.none_taken; none_met = told.none_met }
effect_answered first is_on a taken met Tries told = told
effect_answered first is_on a taken met Puts told = told

run_answered : (c : AttemptGiven) (replies : List ℕ) → Answered c.pending (is_read_on c) (run_by c replies) (past_by c replies).taken (past_by c replies).tried
unfolding attempt_run attempt_past
run_answered c [] = begun_answered c
run_answered c (reply ∷ others) =
    let a = run_by c others in
    let past = past_by c others in
    subst (λ (then_past : AttemptPast). Answered c.pending (is_read_on c) (attempt_next c.places c.bits c.room c.session a reply) then_past.taken then_past.tried) (same_told c a a.step reply past)
    (next_answered c c.pending (is_read_on c) (record a { effect = None }) past a.step reply refl (effect_answered c.pending (is_read_on c) a past.taken past.tried a.step (run_answered c others)))

run_rests : (c : AttemptGiven) (replies : List ℕ) → AttemptRestsOrAsks (run_by c replies)
unfolding attempt_run
run_rests c [] = attempt_begun_rests c.places c.bits c.pending c.seen c.occasion c.spare c.is_orphaned
run_rests c (reply ∷ others) = attempt_rests c.places c.bits c.room c.session (run_by c others) reply (run_rests c others)

-- what is said of it
never : true ≡ false → ⊥
never e = cc

-- at its end an attempt's answer is that of its step
end_is : (p : Places) (session : ℕ) (a : AttemptState) (step : Attempting) (its : TryAnswer) → is_attempt_end step ≡ true → attempting_ask p session a step ≡ Done its → step ≡ Ended its
unfolding attempting_ask
end_is p session a (Ended other) its end e = cc
end_is p session a Looks its end e = cc
end_is p session a Tries its end e = cc
end_is p session a Puts its end e = cc

ended_is : (p : Places) (session : ℕ) (a : AttemptState) (its : TryAnswer) → AttemptRestsOrAsks a → attempt_ask p session a ≡ Done its → a.step ≡ Ended its
ended_is p session a its rests e = end_is p session a a.step its (sym (attempt_done p session a rests) ∙ ap is_done e) e

behind_read : (c : AttemptGiven) (sought : Option DiskRecord) (taken : Option MailRecord) (met : Option TryAnswer) (its : TryAnswer) → is_read_on c ≡ true → IsBehind c.pending (is_read_on c) sought taken met its
    → ReadSeeks c.pending taken sought × IsReadEnd c.pending taken its
behind_read c sought taken met its on (OfRead is seeks ends) = (seeks, ends)
behind_read c sought taken met its on (OfTry other seeks ends) = absurd (never (sym on ∙ other))

behind_try : (c : AttemptGiven) (sought : Option DiskRecord) (taken : Option MailRecord) (met : Option TryAnswer) (its : TryAnswer) → is_read_on c ≡ false → IsBehind c.pending (is_read_on c) sought taken met its
    → TrySeeks c.pending taken met sought × IsTryEnd met its
behind_try c sought taken met its other (OfRead on seeks ends) = absurd (never (sym on ∙ other))
behind_try c sought taken met its other (OfTry is seeks ends) = (seeks, ends)

step_read : (c : AttemptGiven) (a : AttemptState) (taken : Option MailRecord) (met : Option TryAnswer) (step : Attempting) → is_read_on c ≡ true → AnsweredAt c.pending (is_read_on c) a taken met step
    → ReadSeeks c.pending taken a.pending.sought
step_read c a taken met (Ended its) on told = (behind_read c a.pending.sought taken met its on told).0
step_read c a taken met Looks on told = rw told.none_taken (ap (λ (pending : PendingRequest). pending.sought) told.request)
step_read c a taken met Tries on told = absurd (never (sym on ∙ told.no_read))
step_read c a taken met Puts on told = (behind_read c a.pending.sought taken met (answer.Wait reason.Disk) on told).0

step_try : (c : AttemptGiven) (a : AttemptState) (taken : Option MailRecord) (met : Option TryAnswer) (step : Attempting) → is_read_on c ≡ false → AnsweredAt c.pending (is_read_on c) a taken met step
    → TrySeeks c.pending taken met a.pending.sought
step_try c a taken met (Ended its) other told = (behind_try c a.pending.sought taken met its other told).0
step_try c a taken met Looks other told = rw (told.none_met, told.none_taken) (ap (λ (pending : PendingRequest). pending.sought) told.request)
step_try c a taken met Tries other told = rw told.none_met told.sought
step_try c a taken met Puts other told = (behind_try c a.pending.sought taken met (answer.Wait reason.Disk) other told).0

pub answers_so : (c : AttemptGiven) (replies : List ℕ)
    → IsAnswered c (run_by c replies) (past_by c replies) (attempt_ask c.places c.session (run_by c replies))
answers_so c replies =
    let a = run_by c replies in
    let past = past_by c replies in
    let told = run_answered c replies in
    let at = (its : TryAnswer) → attempt_ask c.places c.session a ≡ Done its → IsBehind c.pending (is_read_on c) a.pending.sought past.taken past.tried its in
    let ended : at = λ its e. subst (λ (step : Attempting). AnsweredAt c.pending (is_read_on c) a past.taken past.tried step) (ended_is c.places c.session a its (run_rests c replies) e) told in
    record {
      read_end = λ poll read seeks its e. (behind_read c a.pending.sought past.taken past.tried its (is_read_then c poll read seeks) (ended its e)).1;
      read_seeks = λ poll read seeks. step_read c a past.taken past.tried a.step (is_read_then c poll read seeks) told;
      try_end = λ tried its e. (behind_try c a.pending.sought past.taken past.tried its (is_tried c tried) (ended its e)).1;
      try_seeks = λ tried. step_try c a past.taken past.tried a.step (is_tried c tried) told;
    }
