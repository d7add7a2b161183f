-- What an attempt's run tells, at every moment.
use Rattle.std.proofs.Common.{◌≡◌, ◌⊎◌, inl, inr, ℕ, List, [], ◌∷◌, refl, sym, ap, subst, ◌∙◌, arith, Bool, true, false}
use Rattle.std.specs.Prelude.{◌==◌, ◌&&◌, ◌||◌, if◌then◌else◌, Option, Some, None}
use Rattle.std.proofs.lemmas.Bool.Decides.{nat_tests}
use Rattle.fkv_base.specs.declared.numbers.Addr.{Addr}
use Rattle.fkv_map.specs.Keys.{key_of}
use Rattle.fkv_plane.specs.declared.asks.Ask.{Ask}
use Rattle.fkv_plane.specs.declared.asks.Ask.TheVariants.{Done}
use Rattle.fkv_plane.specs.declared.places.Places.{Places}
use Rattle.fkv_plane.specs.declared.places.SessionWord.TheVariants as own
use Rattle.fkv_plane.specs.Places.{session_place}
use Rattle.fkv_plane.specs.Passing.{is_done}
use Rattle.fkv_ops.specs.declared.answers.DiskRecord.{DiskRecord}
use Rattle.fkv_ops.specs.declared.answers.Reason.{Reason}
use Rattle.fkv_ops.specs.declared.answers.Reason.TheVariants as reason
use Rattle.fkv_ops.specs.declared.answers.TryAnswer.{TryAnswer}
use Rattle.fkv_ops.specs.declared.answers.TryAnswer.TheVariants as answer
use Rattle.fkv_ops.specs.declared.header_words.HeaderSaid.{HeaderSaid}
use Rattle.fkv_ops.specs.declared.header_words.HeaderSaid.TheVariants.{Says, Spoiled}
use Rattle.fkv_ops.specs.declared.requests.HeldRecord.{HeldRecord}
use Rattle.fkv_ops.specs.declared.requests.Occasion.{Occasion}
use Rattle.fkv_ops.specs.declared.requests.Seen.{Seen}
use Rattle.fkv_ops.specs.HeaderWords.{header_said}
use Rattle.fkv_ops.specs.Values.{value_of}
use Rattle.fkv_ops.specs.Trying.{told_value, try_ask, try_next}
use Rattle.fkv_pending.specs.declared.attempting.Attempting.{Attempting}
use Rattle.fkv_pending.specs.declared.attempting.Attempting.TheVariants.{Ended, Looks, Tries, Puts}
use Rattle.fkv_pending.specs.declared.mailing.MailAnswer.{MailAnswer}
use Rattle.fkv_pending.specs.declared.mailing.MailAnswer.TheVariants as mail
use Rattle.fkv_pending.specs.declared.mailing.MailRecord.{MailRecord}
use Rattle.fkv_pending.specs.declared.mailing.MailTask.TheVariants.{Clear, Take, Put}
use Rattle.fkv_pending.specs.declared.mailing.Mailing.{Mailing}
use Rattle.fkv_pending.specs.declared.mailing.Mailing.TheVariants as mailing
use Rattle.fkv_pending.specs.declared.pending_requests.PendingRequest.{PendingRequest}
use Rattle.fkv_pending.specs.Mailing.{mail_empty, mail_ask, mail_next, is_gone, begin_told}
use Rattle.fkv_pending.specs.Pending.{with_sought, with_held, with_latch, with_asked, without_gone}
use Rattle.fkv_pending.specs.Attempting.{AttemptState, attempting_ask, attempt_ask, attempt_ended, waits_for_disk, puts_addr, puts, tries, is_seeking_read, goes_on, attempt_begun, held_of, moved_on, read_on, record_taken, not_ready, look_ledto, held_kept, awaits_record, tried, try_ledto, put_ledto, mail_moved, try_moved, attempting_next, attempt_next, new_attempt, goes_anew, mail_taken}
use Rattle.fkv_pending.specs.Attempts.{AttemptPast, look_told, try_told, address_told, put_told, attempt_told, attempt_run, attempt_past, is_finished, has_finished, is_under_way, HasAskedForSought, IsAwaiting, HasCome, IsAttemptTrue, floor_behind}
use Rattle.fkv_pending.proofs.AttemptRests.{AttemptAsksAt, AttemptRestsOrAsks, attempt_done, attempt_begun_rests, attempt_rests}
use Rattle.fkv_ops.specs.Requests.{is_chain_end}
use Rattle.fkv_pending.proofs.Gone.{floor_raised, floor_stays}

abbrev nothing : AttemptPast
nothing = record { taken = None; tried = None; address = None; put = None }

abbrev HeldTrue : PendingRequest → Option MailRecord → Option HeldRecord → Type 0
HeldTrue first taken held = (its : HeldRecord) → held ≡ Some its → (first.request.held ≡ Some its) ⊎ HasCome first.sought taken its

-- up to the put
record IsBefore (first : PendingRequest) (was : Bool) (pending : PendingRequest) (is_orphaned : Bool) (past : AttemptPast) : Type 0 where
  under_way : pending.has_asked ≡ is_under_way None past.taken first.has_asked
  same_orphan : is_orphaned ≡ was
  none_put : past.put ≡ None
  held : HeldTrue first past.taken pending.request.held
  floor : pending.request.floor ≡ floor_behind first past.taken

-- at the end
record IsOver (first : PendingRequest) (was : Bool) (pending : PendingRequest) (is_orphaned : Bool) (past : AttemptPast) (its : TryAnswer) : Type 0 where
  under_way : pending.has_asked ≡ is_under_way past.put past.taken first.has_asked
  orphaned : is_orphaned ≡ (was || (is_finished its && pending.has_asked))
  asked : past.put ≡ Some mail.Asked → HasAskedForSought pending.sought past.address
  awaits : its ≡ answer.Wait reason.Disk → IsAwaiting pending past
  held : HeldTrue first past.taken pending.request.held
  floor : pending.request.floor ≡ floor_behind first past.taken

-- the record at this address is sought
record IsSoughtAt (sought : Option DiskRecord) (addr : Addr) : Type 0 where
  record_sought : DiskRecord
  its_sought : sought ≡ Some record_sought
  its_addr : record_sought.addr ≡ addr

-- how far a put has come
abbrev IsPutOf : Option DiskRecord → Option ℕ → Mailing → Type 0
IsPutOf sought address (mailing.LoadsState (Put addr)) = IsSoughtAt sought addr
IsPutOf sought address (mailing.StoresAddress addr) = IsSoughtAt sought addr
IsPutOf sought address mailing.StoresAsked = HasAskedForSought sought address
IsPutOf sought address step = ⊥

abbrev ToldAt : PendingRequest → Bool → AttemptState → AttemptPast → Attempting → Type 0
ToldAt first was a past (Ended its) = IsOver first was a.pending a.is_orphaned past its
ToldAt first was a past Looks = (a.pending ≡ first) × (a.pending.has_asked ≡ true) × (a.is_orphaned ≡ was) × (past ≡ nothing)
ToldAt first was a past Tries = IsBefore first was a.pending a.is_orphaned past
ToldAt first was a past Puts = IsBefore first was a.pending a.is_orphaned past × (a.pending.has_asked ≡ false) × IsPutOf a.pending.sought past.address a.mailing

abbrev Told : PendingRequest → Bool → AttemptState → AttemptPast → Type 0
Told first was a past = ToldAt first was a past a.step

or_none : (b : Bool) → (b || false) ≡ b
or_none true = refl
or_none false = refl

and_none : (b : Bool) → (b && false) ≡ false
and_none true = refl
and_none false = refl

-- it goes on waiting, and no mail is for nobody that wasn't
waits_over : (first : PendingRequest) (was : Bool) (pending : PendingRequest) (is_orphaned : Bool) (past : AttemptPast) (why : Reason) → IsBefore first was pending is_orphaned past
    → (answer.Wait why ≡ answer.Wait reason.Disk → IsAwaiting pending past) → IsOver first was pending is_orphaned past (answer.Wait why)
waits_over first was pending is_orphaned past why base awaits = record {
  under_way = rw base.none_put base.under_way;
  orphaned = base.same_orphan ∙ sym (or_none was);
  asked = λ e. let none = base.none_put in cc;
  awaits = awaits;
  held = base.held;
  floor = base.floor;
}

-- nor where it has to shift
shift_over : (first : PendingRequest) (was : Bool) (pending : PendingRequest) (is_orphaned : Bool) (past : AttemptPast) → IsBefore first was pending is_orphaned past → IsOver first was pending is_orphaned past answer.Shift
shift_over first was pending is_orphaned past base = record {
  under_way = rw base.none_put base.under_way;
  orphaned = base.same_orphan ∙ sym (or_none was);
  asked = λ e. let none = base.none_put in cc;
  awaits = λ e. cc;
  held = base.held;
  floor = base.floor;
}

-- it has finished without mail under way
read_over : (first : PendingRequest) (was : Bool) (pending : PendingRequest) (is_orphaned : Bool) (past : AttemptPast) (its : TryAnswer) → is_finished its ≡ true → IsBefore first was pending is_orphaned past
    → pending.has_asked ≡ false → IsOver first was pending is_orphaned past its
read_over first was pending is_orphaned past its finished base none = record {
  under_way = rw base.none_put base.under_way;
  orphaned = rw (none, and_none (is_finished its)) (base.same_orphan ∙ sym (or_none was));
  asked = λ e. let no = base.none_put in cc;
  awaits = λ e. absurd (never (sym finished ∙ ap is_finished e));
  held = base.held;
  floor = base.floor;
}
  where
    never : true ≡ false → ⊥
    never e = cc

-- it has finished, and leaves its mail behind
left_over : (first : PendingRequest) (was : Bool) (pending : PendingRequest) (is_orphaned : Bool) (past : AttemptPast) (its : TryAnswer) → is_finished its ≡ true → IsBefore first was pending is_orphaned past
    → IsOver first was pending (is_orphaned || pending.has_asked) past its
left_over first was pending is_orphaned past its finished base = record {
  under_way = rw base.none_put base.under_way;
  orphaned = rw (finished, base.same_orphan) refl;
  asked = λ e. let no = base.none_put in cc;
  awaits = λ e. absurd (never (sym finished ∙ ap is_finished e));
  held = base.held;
  floor = base.floor;
}
  where
    never : true ≡ false → ⊥
    never e = cc

puts_addr_told : (first : PendingRequest) (was : Bool) (a : AttemptState) (past : AttemptPast) (found : Option DiskRecord) → a.pending.sought ≡ found → IsBefore first was a.pending a.is_orphaned past → a.pending.has_asked ≡ false
    → Told first was (puts_addr a found) past
puts_addr_told first was a past None e base none = waits_over first was a.pending a.is_orphaned past reason.Disk base (λ why. inr (inr (inr e)))
puts_addr_told first was a past (Some sought) e base none = (base, none, tested a.is_emptied)
  where
    at : IsSoughtAt a.pending.sought sought.addr
    at = record { record_sought = sought; its_sought = e; its_addr = refl }

    tested : (b : Bool) → IsPutOf a.pending.sought past.address (if b then mailing.StoresAddress sought.addr else mailing.LoadsState (Put sought.addr))
    tested true = at
    tested false = at

puts_told : (first : PendingRequest) (was : Bool) (a : AttemptState) (past : AttemptPast) → IsBefore first was a.pending a.is_orphaned past → a.pending.has_asked ≡ false → Told first was (puts a) past
puts_told first was a past base none = puts_addr_told first was a past a.pending.sought refl base none

begun_told : (p : Places) (bits : ℕ) (pending : PendingRequest) (seen : Seen) (occasion : Occasion) (spare : ℕ) (is_orphaned : Bool)
    → Told pending is_orphaned (attempt_begun p bits pending seen occasion spare is_orphaned) nothing
begun_told p bits pending seen occasion spare is_orphaned = tested pending.has_asked refl
  where
    its : AttemptState
    its = new_attempt bits pending seen occasion spare is_orphaned

    base : IsBefore pending is_orphaned pending is_orphaned nothing
    base = record { under_way = refl; same_orphan = refl; none_put = refl; held = λ held e. inl e; floor = refl }

    goes : (b : Bool) → pending.has_asked ≡ false → Told pending is_orphaned (if b then puts its else tries p bits its) nothing
    goes true none = puts_told pending is_orphaned its nothing base none
    goes false none = base

    tested : (b : Bool) → pending.has_asked ≡ b → Told pending is_orphaned (if b then record its { mailing = mailing.LoadsState Take; step = Looks } else goes_on p bits its) nothing
    tested true e = (refl, e, refl, refl)
    tested false e = goes (is_seeking_read its) e

-- the look
held_come : (sought : Option DiskRecord) (its : MailRecord) (said : HeaderSaid) → header_said its.header ≡ said → (held : HeldRecord) → held_of sought its said ≡ Some held → HasCome sought (Some its) held
held_come None its said e held is = cc
held_come (Some sought) its Spoiled e held is = cc
held_come (Some sought) its (Says previous version) e held is =
    let same : held ≡ record { entry = sought.entry; previous = previous; key = its.key; value = its.value } = cc in
    rw same (record { record_sought = sought; its_sought = refl; mail = its; its_mail = refl; its_entry = refl; its_key = refl; its_value = refl; version = version; its_previous = e })

-- once a record was taken
abbrev taken_past : MailRecord → AttemptPast
taken_past its = record nothing { taken = Some its }

read_on_told : (first : PendingRequest) (was : Bool) (a : AttemptState) (its : MailRecord) (past : AttemptPast) (said : HeaderSaid) → IsBefore first was a.pending a.is_orphaned past → a.pending.has_asked ≡ false
    → Told first was (read_on a its said) past
unfolding with_sought
read_on_told first was a its past Spoiled base none = puts_told first was a past base none
read_on_told first was a its past (Says previous version) base none = tested (its.key.0 == (key_of a.pending.request.op).0) (is_chain_end a.pending.request.floor previous)
  where
    finished : (value : Option ℕ) → is_finished (told_value value) ≡ true
    finished None = refl
    finished (Some value) = refl

    on : PendingRequest
    on = with_sought a.pending (moved_on a.pending.sought previous)

    tested : (b c : Bool) → Told first was (if b then attempt_ended a (told_value (value_of its.value)) else if c then attempt_ended a answer.Absent else puts (record a { pending = on })) past
    tested true c = read_over first was a.pending a.is_orphaned past (told_value (value_of its.value)) (finished (value_of its.value)) base none
    tested false true = read_over first was a.pending a.is_orphaned past answer.Absent refl base none
    tested false false = puts_told first was (record a { pending = on }) past (record { under_way = base.under_way; same_orphan = base.same_orphan; none_put = base.none_put; held = base.held; floor = base.floor }) none

taken_told : (p : Places) (bits : ℕ) (was : Bool) (a : AttemptState) (its : MailRecord) → a.is_orphaned ≡ was → is_gone its ≡ false
    → Told a.pending was (record_taken p bits (record a { is_emptied = true; pending = with_asked a.pending false }) its (header_said its.header)) (taken_past its)
unfolding with_asked with_held
taken_told p bits was a its same there = tested (is_seeking_read b)
  where
    b : AttemptState
    b = record a { is_emptied = true; pending = with_asked a.pending false }

    tested : (c : Bool) → Told a.pending was (if c then read_on b its (header_said its.header) else tries p bits (record b { pending = with_held b.pending (held_of b.pending.sought its (header_said its.header)) })) (taken_past its)
    tested true = read_on_told a.pending was b its (taken_past its) (header_said its.header) (record { under_way = refl; same_orphan = same; none_put = refl; held = λ held e. inl e; floor = floor_stays a.pending its there }) refl
    tested false = record {
      under_way = refl;
      same_orphan = same;
      none_put = refl;
      held = λ held e. inr (held_come a.pending.sought its (header_said its.header) refl held e);
      floor = floor_stays a.pending its there;
    }

-- it seeks nothing any more, and holds nothing
gone_told : (p : Places) (bits : ℕ) (was : Bool) (a : AttemptState) (its : MailRecord) → a.is_orphaned ≡ was → is_gone its ≡ true
    → Told a.pending was (goes_anew p bits (record a { is_emptied = true; pending = with_asked a.pending false }) (begin_told its)) (taken_past its)
unfolding with_asked without_gone
gone_told p bits was a its same gone = tested (is_seeking_read a)
  where
    anew : AttemptState
    anew = record a { is_emptied = true; pending = without_gone (with_asked a.pending false) (begin_told its) }

    base : IsBefore a.pending was anew.pending anew.is_orphaned (taken_past its)
    base = record { under_way = refl; same_orphan = same; none_put = refl; held = λ held e. cc; floor = floor_raised a.pending its gone }

    tested : (b : Bool) → Told a.pending was (if b then waits_for_disk anew else tries p bits anew) (taken_past its)
    tested true = waits_over a.pending was anew.pending anew.is_orphaned (taken_past its) reason.Disk base (λ why. inr (inr (inr refl)))
    tested false = base

mail_told : (p : Places) (bits : ℕ) (was : Bool) (a : AttemptState) (its : MailRecord) → a.is_orphaned ≡ was
    → Told a.pending was (mail_taken p bits (record a { is_emptied = true; pending = with_asked a.pending false }) its) (taken_past its)
mail_told p bits was a its same = tested (is_gone its) refl
  where
    b : AttemptState
    b = record a { is_emptied = true; pending = with_asked a.pending false }

    tested : (c : Bool) → is_gone its ≡ c → Told a.pending was (if c then goes_anew p bits b (begin_told its) else record_taken p bits b its (header_said its.header)) (taken_past its)
    tested true gone = gone_told p bits was a its same gone
    tested false there = taken_told p bits was a its same there

not_ready_told : (p : Places) (bits : ℕ) (was : Bool) (a : AttemptState) → a.is_orphaned ≡ was → a.pending.has_asked ≡ true → Told a.pending was (not_ready p bits a) nothing
not_ready_told p bits was a same asked = tested (is_seeking_read a)
  where
    base : IsBefore a.pending was a.pending a.is_orphaned nothing
    base = record { under_way = refl; same_orphan = same; none_put = refl; held = λ held e. inl e; floor = refl }

    tested : (b : Bool) → Told a.pending was (if b then waits_for_disk a else tries p bits a) nothing
    tested true = waits_over a.pending was a.pending a.is_orphaned nothing reason.Disk base (λ why. inl asked)
    tested false = base

look_led : (p : Places) (bits : ℕ) (was : Bool) (a : AttemptState) (ask : Ask MailAnswer) → a.step ≡ Looks → a.is_orphaned ≡ was → a.pending.has_asked ≡ true → Told a.pending was (look_ledto p bits a ask) (look_told ask nothing)
unfolding look_ledto
look_led p bits was a (Done (mail.Taken its)) at same asked = mail_told p bits was a its same
look_led p bits was a (Done other) at same asked = not_ready_told p bits was a same asked
look_led p bits was a ask at same asked = rw at (refl, asked, same, refl)

-- the try
kept_held : (held : Option HeldRecord) (entry : ℕ) (its : HeldRecord) → held_kept held entry ≡ Some its → held ≡ Some its
kept_held None entry its e = cc
kept_held (Some held) entry its e = tested (held.entry == entry) e
  where
    tested : (b : Bool) → (if b then Some held else None) ≡ Some its → Some held ≡ Some its
    tested true is = is
    tested false is = cc

awaits_told : (first : PendingRequest) (was : Bool) (a : AttemptState) (past : AttemptPast) (sought : DiskRecord) → IsBefore first was a.pending a.is_orphaned past → Told first was (awaits_record a sought) past
unfolding with_held with_sought
awaits_told first was a past sought base = tested a.pending.has_asked refl
  where
    its : AttemptState
    its = record a { pending = with_held a.pending (held_kept a.pending.request.held sought.entry) }

    kept : HeldTrue first past.taken (held_kept a.pending.request.held sought.entry)
    kept = λ held e. base.held held (kept_held a.pending.request.held sought.entry held e)

    tested : (b : Bool) → a.pending.has_asked ≡ b → Told first was (if b then waits_for_disk its else puts (record its { pending = with_sought its.pending (Some sought) })) past
    tested true e = waits_over first was its.pending a.is_orphaned past reason.Disk (record { under_way = base.under_way; same_orphan = base.same_orphan; none_put = base.none_put; held = kept; floor = base.floor }) (λ why. inl e)
    tested false e = puts_told first was (record its { pending = with_sought its.pending (Some sought) }) past
        (record { under_way = base.under_way; same_orphan = base.same_orphan; none_put = base.none_put; held = kept; floor = base.floor }) e

tried_told : (first : PendingRequest) (was : Bool) (a : AttemptState) (past : AttemptPast) (its : TryAnswer) → past.tried ≡ Some its → IsBefore first was a.pending a.is_orphaned past → Told first was (tried a its) past
tried_told first was a past (answer.AwaitsDisk sought) e base = awaits_told first was a past sought base
tried_told first was a past (answer.Wait why) e base = waits_over first was a.pending a.is_orphaned past why base (λ same. inr (inr (inl (e ∙ ap Some same))))
tried_told first was a past (answer.Done its) e base = left_over first was a.pending a.is_orphaned past (answer.Done its) refl base
tried_told first was a past (answer.Found its) e base = left_over first was a.pending a.is_orphaned past (answer.Found its) refl base
tried_told first was a past answer.Absent e base = left_over first was a.pending a.is_orphaned past answer.Absent refl base
tried_told first was a past answer.Shift e base = shift_over first was a.pending a.is_orphaned past base
tried_told first was a past answer.IndexFull e base = left_over first was a.pending a.is_orphaned past answer.IndexFull refl base
tried_told first was a past answer.LogFull e base = left_over first was a.pending a.is_orphaned past answer.LogFull refl base

try_led : (first : PendingRequest) (was : Bool) (a : AttemptState) (past : AttemptPast) (ask : Ask TryAnswer) → a.step ≡ Tries → IsBefore first was a.pending a.is_orphaned past → Told first was (try_ledto a ask) (try_told ask past)
unfolding try_ledto with_latch
try_led first was a past (Done its) at base =
    tried_told first was (record a { spare = a.trial.spare; pending = with_latch a.pending a.trial.has_shared }) (record past { tried = Some its }) its refl
    (record { under_way = base.under_way; same_orphan = base.same_orphan; none_put = base.none_put; held = base.held; floor = base.floor })
try_led first was a past ask at base = rw at base

-- the put
pub same_place : (n : ℕ) → (n == n) ≡ true
same_place n = grind (arith, nat_tests)

pub state_apart : (session : ℕ) → (session_place session own.MailState == session_place session own.MailAddress) ≡ false
state_apart session = grind (arith, nat_tests)

occupied_same : (taken : Option MailRecord) (had : Bool) → is_under_way (Some mail.Occupied) taken had ≡ is_under_way None taken had
occupied_same None had = refl
occupied_same (Some its) had = refl

abbrev PutOn : PendingRequest → Bool → ℕ → AttemptState → AttemptPast → Mailing → Mailing → Type 0
PutOn first was session a past step next =
    Told first was (put_ledto (record a { mailing = next }) (mail_ask session next)) (put_told (mail_ask session next) (address_told session (mail_ask session step) past))

put_led : (first : PendingRequest) (was : Bool) (session : ℕ) (a : AttemptState) (past : AttemptPast) (step : Mailing) (reply : ℕ) → a.step ≡ Puts → IsBefore first was a.pending a.is_orphaned past → a.pending.has_asked ≡ false
    → IsPutOf a.pending.sought past.address step → PutOn first was session a past step (mail_next step reply)
unfolding put_ledto mail_ask mail_next with_asked
put_led first was session a past (mailing.Ended its) reply at base none put = absurd put
put_led first was session a past (mailing.LoadsState Clear) reply at base none put = absurd put
put_led first was session a past (mailing.LoadsState Take) reply at base none put = absurd put
put_led first was session a past (mailing.LoadsState (Put addr)) reply at base none put = tested (reply == mail_empty)
  where
    tested : (b : Bool) → PutOn first was session a past (mailing.LoadsState (Put addr)) (if b then mailing.StoresAddress addr else mailing.Ended mail.Occupied)
    tested true = rw at (base, none, put)
    tested false = record {
      under_way = base.under_way ∙ sym (occupied_same past.taken first.has_asked);
      orphaned = base.same_orphan ∙ sym (or_none was);
      asked = λ e. cc;
      awaits = λ why. inr (inl refl);
      held = base.held;
      floor = base.floor;
    }
put_led first was session a past mailing.LoadsHeader reply at base none put = absurd put
put_led first was session a past (mailing.LoadsKey header) reply at base none put = absurd put
put_led first was session a past (mailing.LoadsValue header key) reply at base none put = absurd put
put_led first was session a past (mailing.StoresEmpty its) reply at base none put = absurd put
put_led first was session a past (mailing.StoresAddress addr) reply at base none put = rw (at, same_place (session_place session own.MailAddress)) (
  record { under_way = base.under_way; same_orphan = base.same_orphan; none_put = base.none_put; held = base.held; floor = base.floor },
  none,
  record { record_sought = put.record_sought; its_sought = put.its_sought; its_address = ap (λ (it : Addr). Some it.0) (sym put.its_addr) },
)
put_led first was session a past mailing.StoresAsked reply at base none put = rw (state_apart session) (record {
  under_way = refl;
  orphaned = base.same_orphan ∙ sym (or_none was);
  asked = λ e. record { record_sought = put.record_sought; its_sought = put.its_sought; its_address = put.its_address };
  awaits = λ why. inl refl;
  held = base.held;
  floor = base.floor;
})

-- each reply
next_told : (p : Places) (bits room session : ℕ) (first : PendingRequest) (was : Bool) (a : AttemptState) (past : AttemptPast) (step : Attempting) (reply : ℕ) → a.step ≡ step → ToldAt first was a past step
    → Told first was (attempting_next p bits room session a step reply) (attempt_told p room session a step reply past)
unfolding attempting_next
next_told p bits room session first was a past (Ended its) reply at told = rw at told
next_told p bits room session first was a past Looks reply at told =
    subst (λ (its : AttemptPast). Told first was (attempting_next p bits room session a Looks reply) (attempt_told p room session a Looks reply its)) (sym told.3)
    (subst (λ (pending : PendingRequest). Told pending was (attempting_next p bits room session a Looks reply) (attempt_told p room session a Looks reply nothing)) told.0
    (look_led p bits was (mail_moved a reply) (mail_ask session (mail_next a.mailing reply)) at told.2 told.1))
next_told p bits room session first was a past Tries reply at told = try_led first was (try_moved p room a reply) past (try_ask p (try_next p room a.trial reply)) at told
next_told p bits room session first was a past Puts reply at told = put_led first was session a past a.mailing reply at told.0 told.1 told.2

effect_told : (first : PendingRequest) (was : Bool) (a : AttemptState) (past : AttemptPast) (step : Attempting) → ToldAt first was a past step → ToldAt first was (record a { effect = None }) past step
effect_told first was a past (Ended its) told = told
effect_told first was a past Looks told = told
effect_told first was a past Tries told = told
effect_told first was a past Puts told = told

same_told : (p : Places) (room session : ℕ) (a : AttemptState) (step : Attempting) (reply : ℕ) (past : AttemptPast) → attempt_told p room session (record a { effect = None }) step reply past ≡ attempt_told p room session a step reply past
same_told p room session a (Ended its) reply past = refl
same_told p room session a Looks reply past = refl
same_told p room session a Tries reply past = refl
same_told p room session a Puts reply past = refl

-- what holds of a run
record IsRunTold (first : PendingRequest) (was : Bool) (a : AttemptState) (past : AttemptPast) : Type 0 where
  told : Told first was a past
  rests : AttemptRestsOrAsks a

reply_told : (p : Places) (bits room session : ℕ) (first : PendingRequest) (was : Bool) (a : AttemptState) (past : AttemptPast) (reply : ℕ) → IsRunTold first was a past
    → IsRunTold first was (attempt_next p bits room session a reply) (attempt_told p room session a a.step reply past)
reply_told p bits room session first was a past reply its = record {
  told = subst (λ (then_past : AttemptPast). Told first was (attempt_next p bits room session a reply) then_past) (same_told p room session a a.step reply past)
      (next_told p bits room session first was (record a { effect = None }) past a.step reply refl (effect_told first was a past a.step its.told));
  rests = attempt_rests p bits room session a reply its.rests;
}

run_told : (p : Places) (bits room session : ℕ) (first : PendingRequest) (was : Bool) (begun : AttemptState) (replies : List ℕ) → IsRunTold first was begun nothing
    → IsRunTold first was (attempt_run p bits room session begun replies) (attempt_past p bits room session begun replies)
unfolding attempt_run attempt_past
run_told p bits room session first was begun [] its = its
run_told p bits room session first was begun (reply ∷ before) its =
    reply_told p bits room session first was (attempt_run p bits room session begun before) (attempt_past p bits room session begun before) reply (run_told p bits room session first was begun before its)

-- at an end the answer is the attempt's, and else it asks for something
not_finished : (ask : Ask TryAnswer) → is_done ask ≡ false → has_finished ask ≡ false
not_finished (Done its) asks = cc
not_finished ask asks = refl

abbrev TrueAt : Places → ℕ → PendingRequest → Bool → AttemptState → AttemptPast → Attempting → Type 0
TrueAt p session first was a past step = IsAttemptTrue first was a past (attempting_ask p session a step)

asks_true : (p : Places) (session : ℕ) (first : PendingRequest) (was : Bool) (a : AttemptState) (past : AttemptPast) (ask : Ask TryAnswer) → is_done ask ≡ false → IsBefore first was a.pending a.is_orphaned past
    → IsAttemptTrue first was a past ask
asks_true p session first was a past ask asks base = record {
  under_way = rw base.none_put base.under_way;
  orphaned = rw (not_finished ask asks) (base.same_orphan ∙ sym (or_none was));
  asked = λ e. let none = base.none_put in cc;
  awaits = λ e. absurd (never (sym (ap is_done e) ∙ asks));
  held = base.held;
  floor = base.floor;
}
  where
    never : true ≡ false → ⊥
    never e = cc

before_look : (first : PendingRequest) (was : Bool) (a : AttemptState) (past : AttemptPast) → a.pending ≡ first → a.is_orphaned ≡ was → past ≡ nothing → IsBefore first was a.pending a.is_orphaned past
before_look first was a past same orphan none = rw (none, same) (record { under_way = refl; same_orphan = orphan; none_put = refl; held = λ held e. inl e; floor = refl })

step_true : (p : Places) (session : ℕ) (first : PendingRequest) (was : Bool) (a : AttemptState) (past : AttemptPast) (step : Attempting) → is_done (attempting_ask p session a step) ≡ false → ToldAt first was a past step → TrueAt p session first was a past step
unfolding attempting_ask
step_true p session first was a past (Ended its) asks told = cc
step_true p session first was a past Looks asks told = asks_true p session first was a past _ asks (before_look first was a past told.0 told.2 told.3)
step_true p session first was a past Tries asks told = asks_true p session first was a past _ asks told
step_true p session first was a past Puts asks told = asks_true p session first was a past _ asks told.0

end_true : (p : Places) (session : ℕ) (first : PendingRequest) (was : Bool) (a : AttemptState) (past : AttemptPast) (its : TryAnswer) → IsOver first was a.pending a.is_orphaned past its → TrueAt p session first was a past (Ended its)
unfolding attempting_ask
end_true p session first was a past its over = record {
  under_way = over.under_way;
  orphaned = over.orphaned;
  asked = over.asked;
  awaits = λ e. over.awaits cc;
  held = over.held;
  floor = over.floor;
}

told_true : (p : Places) (session : ℕ) (first : PendingRequest) (was : Bool) (a : AttemptState) (past : AttemptPast) (step : Attempting) → a.step ≡ step → AttemptAsksAt a step → is_done (attempting_ask p session a step) ≡ is_done (attempt_ask p session a)
    → ToldAt first was a past step → TrueAt p session first was a past step
told_true p session first was a past (Ended its) at rests same told = end_true p session first was a past its told
told_true p session first was a past Looks at rests same told = step_true p session first was a past Looks (same ∙ attempt_done p session a (rw at rests) ∙ rw at refl) told
told_true p session first was a past Tries at rests same told = step_true p session first was a past Tries (same ∙ attempt_done p session a (rw at rests) ∙ rw at refl) told
told_true p session first was a past Puts at rests same told = step_true p session first was a past Puts (same ∙ attempt_done p session a (rw at rests) ∙ rw at refl) told

pub run_true : (p : Places) (bits room session : ℕ) (pending : PendingRequest) (seen : Seen) (occasion : Occasion) (spare : ℕ) (is_orphaned : Bool) (replies : List ℕ)
    → let begun = attempt_begun p bits pending seen occasion spare is_orphaned in
    let its = attempt_run p bits room session begun replies in
    IsAttemptTrue pending is_orphaned its (attempt_past p bits room session begun replies) (attempt_ask p session its)
run_true p bits room session pending seen occasion spare is_orphaned replies =
    let begun = attempt_begun p bits pending seen occasion spare is_orphaned in
    let its = attempt_run p bits room session begun replies in
    let run = run_told p bits room session pending is_orphaned begun replies (record {
      told = begun_told p bits pending seen occasion spare is_orphaned;
      rests = attempt_begun_rests p bits pending seen occasion spare is_orphaned;
    }) in
    told_true p session pending is_orphaned its (attempt_past p bits room session begun replies) its.step refl run.rests refl run.told
