-- The try of an attempt is its request's own, and what it leaves is kept.
use Rattle.std.specs.Option.{is_some}
use Rattle.std.proofs.Common.{◌≡◌, ℕ, List, [], ◌∷◌, arith, refl, sym, ap, subst, ◌∙◌, inl, inr, Bool, true, false}
use Rattle.std.specs.Prelude.{◌==◌, ◌&&◌, if◌then◌else◌, Option, Some, None}
use Rattle.std.proofs.lemmas.Bool.Decides.{nat_tests}
use Rattle.fkv_map.specs.Keys.{key_of}
use Rattle.fkv_plane.specs.declared.asks.Ask.{Ask}
use Rattle.fkv_plane.specs.declared.asks.Ask.TheVariants.{Store, Done}
use Rattle.fkv_plane.specs.declared.places.SessionWord.TheVariants as own
use Rattle.fkv_plane.specs.Places.{session_place}
use Rattle.fkv_ops.specs.declared.answers.DiskRecord.{DiskRecord}
use Rattle.fkv_ops.specs.declared.answers.TryAnswer.{TryAnswer}
use Rattle.fkv_ops.specs.declared.answers.TryAnswer.TheVariants as answer
use Rattle.fkv_ops.specs.declared.header_words.HeaderSaid.{HeaderSaid}
use Rattle.fkv_ops.specs.declared.header_words.HeaderSaid.TheVariants.{Says, Spoiled}
use Rattle.fkv_ops.specs.declared.requests.HeldRecord.{HeldRecord}
use Rattle.fkv_ops.specs.declared.requests.Occasion.{Occasion}
use Rattle.fkv_ops.specs.declared.requests.Occasion.TheVariants.{Call, Poll}
use Rattle.fkv_ops.specs.Bounds.{IsCall}
use Rattle.fkv_ops.specs.HeaderWords.{header_said}
use Rattle.fkv_ops.specs.Requests.{is_read, is_chain_end}
use Rattle.fkv_ops.specs.Values.{value_of}
use Rattle.fkv_ops.specs.Trying.{TryState, told_value, try_ask, try_next}
use Rattle.fkv_pending.specs.declared.attempting.Attempting.{Attempting}
use Rattle.fkv_pending.specs.declared.attempting.Attempting.TheVariants.{Ended, Looks, Tries, Puts}
use Rattle.fkv_pending.specs.declared.mailing.MailAnswer.{MailAnswer}
use Rattle.fkv_pending.specs.declared.mailing.MailAnswer.TheVariants as mail
use Rattle.fkv_pending.specs.declared.mailing.MailRecord.{MailRecord}
use Rattle.fkv_pending.specs.declared.mailing.MailTask.TheVariants.{Take}
use Rattle.fkv_pending.specs.declared.mailing.Mailing.TheVariants.{LoadsState}
use Rattle.fkv_pending.specs.declared.pending_requests.PendingRequest.{PendingRequest}
use Rattle.fkv_pending.specs.Mailing.{mail_ask, mail_next, is_gone, begin_told}
use Rattle.fkv_pending.specs.Pending.{with_sought, with_held, with_latch, with_asked, without_gone}
use Rattle.fkv_pending.specs.Attempting.{AttemptState, attempt_ended, waits_for_disk, puts_addr, puts, tries, is_poll, is_seeking_read, goes_on, held_of, moved_on, read_on, record_taken, not_ready, look_ledto, held_kept, awaits_record, tried, try_ledto, put_ledto, mail_moved, try_moved, attempting_next, attempt_next, new_attempt, goes_anew, mail_taken}
use Rattle.fkv_pending.specs.Attempts.{AttemptPast, look_told, try_told, address_told, put_told, attempt_told, attempt_run, attempt_past, AttemptGiven, begun_by, run_by, past_by, try_reply, try_replies, HoldsMail, HoldsSo, IsItsTry, TryStands, NotTried, UnderWay, HasEnded, IsSameRequest, HoldsFromEntry, IsTryKept, IsToBeTried, HoldsBehind, IsHeldKept, HeldKept, held_behind, floor_behind}
use Rattle.fkv_pending.proofs.Gone.{gone_spoiled, holds_none, held_lost, held_stays, floor_raised, floor_stays}

-- a read at a poll that seeks a record
abbrev pub is_read_on : AttemptGiven → Bool
is_read_on c = is_poll c.occasion && (is_read c.pending.request.op && is_some c.pending.sought)

abbrev ReadsSo : AttemptGiven → List ℕ → Type 0
ReadsSo c replies = c.occasion ≡ Poll → is_read c.pending.request.op ≡ true → is_some c.pending.sought ≡ true → replies ≡ []

-- what is held: a read at a poll keeps what it held, and loses it where its record is gone
abbrev HeldAt : AttemptGiven → Bool → Option MailRecord → Option TryAnswer → Option HeldRecord → Type 0
HeldAt c true taken tried held = held ≡ held_behind c.pending taken
HeldAt c false taken tried held = HoldsBehind c.pending taken tried held

-- behind the look of a read, or behind the try
record IsBehind (c : AttemptGiven) (pending : PendingRequest) (spare : ℕ) (trial : TryState) (past : AttemptPast) (replies : List ℕ) : Type 0 where
  same : IsSameRequest c.pending pending
  stands : TryStands c pending.request.has_latch spare trial past.taken past.tried replies
  reads : ReadsSo c replies
  held : HoldsFromEntry past.tried pending.request.held
  came : HeldAt c (is_read_on c) past.taken past.tried pending.request.held

record IsLooking (c : AttemptGiven) (a : AttemptState) (past : AttemptPast) (replies : List ℕ) : Type 0 where
  request : a.pending ≡ c.pending
  seen : a.seen ≡ c.seen
  occasion : a.occasion ≡ c.occasion
  spare : a.spare ≡ c.spare
  none_taken : past.taken ≡ None
  none_tried : past.tried ≡ None
  none_met : replies ≡ []

record IsTrying (c : AttemptGiven) (a : AttemptState) (past : AttemptPast) (replies : List ℕ) : Type 0 where
  same : IsSameRequest c.pending a.pending
  its_try : IsItsTry c past.taken a.trial replies
  none_tried : past.tried ≡ None
  latch : a.pending.request.has_latch ≡ c.pending.request.has_latch
  spare : a.spare ≡ c.spare
  no_read : is_read_on c ≡ false
  came : HoldsSo c.pending past.taken a.pending.request.held

abbrev KeptAt : AttemptGiven → AttemptState → AttemptPast → List ℕ → Attempting → Type 0
KeptAt c a past replies (Ended its) = IsBehind c a.pending a.spare a.trial past replies
KeptAt c a past replies Looks = IsLooking c a past replies
KeptAt c a past replies Tries = IsTrying c a past replies
KeptAt c a past replies Puts = IsBehind c a.pending a.spare a.trial past replies

abbrev Kept : AttemptGiven → AttemptState → AttemptPast → List ℕ → Type 0
Kept c a past replies = KeptAt c a past replies a.step

never : true ≡ false → ⊥
never e = cc

reads_no : (c : AttemptGiven) (replies : List ℕ) → is_read_on c ≡ false → ReadsSo c replies
reads_no c replies other poll read seeks = absurd (never (sym both ∙ other))
  where
    both : is_read_on c ≡ true
    both = rw (poll, read, seeks) refl

puts_addr_kept : (c : AttemptGiven) (a : AttemptState) (past : AttemptPast) (replies : List ℕ) (found : Option DiskRecord) → IsBehind c a.pending a.spare a.trial past replies → Kept c (puts_addr a found) past replies
puts_addr_kept c a past replies None its = its
puts_addr_kept c a past replies (Some sought) its = its

puts_kept : (c : AttemptGiven) (a : AttemptState) (past : AttemptPast) (replies : List ℕ) → IsBehind c a.pending a.spare a.trial past replies → Kept c (puts a) past replies
puts_kept c a past replies its = puts_addr_kept c a past replies a.pending.sought its

held_at : (c : AttemptGiven) (taken : Option MailRecord) (tried : Option TryAnswer) (held : Option HeldRecord) → is_read_on c ≡ false → HoldsBehind c.pending taken tried held → HeldAt c (is_read_on c) taken tried held
held_at c taken tried held no_read behind = subst (λ (b : Bool). HeldAt c b taken tried held) (sym no_read) behind

-- what an attempt has before its try
record IsUntried (c : AttemptGiven) (a : AttemptState) (past : AttemptPast) : Type 0 where
  same : IsSameRequest c.pending a.pending
  sought : a.pending.sought ≡ c.pending.sought
  seen : a.seen ≡ c.seen
  occasion : a.occasion ≡ c.occasion
  latch : a.pending.request.has_latch ≡ c.pending.request.has_latch
  floor : a.pending.request.floor ≡ floor_behind c.pending past.taken
  spare : a.spare ≡ c.spare
  none_tried : past.tried ≡ None

tries_kept : (c : AttemptGiven) (a : AttemptState) (past : AttemptPast) → IsUntried c a past → is_seeking_read a ≡ false → HoldsSo c.pending past.taken a.pending.request.held → Kept c (tries c.places c.bits a) past []
tries_kept c a past its other held = record {
  same = its.same;
  its_try = record {
    request = a.pending.request;
    its_op = its.same.op;
    its_version = its.same.version;
    its_latch = its.latch;
    its_held = held;
    its_floor = its.floor;
    its_run = rw (its.seen, its.occasion, its.spare) refl;
  };
  none_tried = its.none_tried;
  latch = its.latch;
  spare = its.spare;
  no_read = let occasion = its.occasion in let op = its.same.op in let sought = its.sought in rw (sym occasion, sym op, sym sought) other;
  came = held;
}

untried_behind : (c : AttemptGiven) (a : AttemptState) (past : AttemptPast) → IsUntried c a past → is_seeking_read a ≡ true → a.pending.request.held ≡ held_behind c.pending past.taken → IsBehind c a.pending a.spare a.trial past []
untried_behind c a past its read had = record {
  same = its.same;
  stands = NotTried refl its.none_tried its.latch its.spare;
  reads = λ poll read seeks. refl;
  held = λ sought e held is. let none = its.none_tried in cc;
  came = subst (λ (b : Bool). HeldAt c b past.taken past.tried a.pending.request.held) (sym reads) had;
}
  where
    reads : is_read_on c ≡ true
    reads = let occasion = its.occasion in let op = its.same.op in let sought = its.sought in rw (sym occasion, sym op, sym sought) read

-- nothing is told
abbrev pub nothing : AttemptPast
nothing = record { taken = None; tried = None; address = None; put = None }

begun_kept : (c : AttemptGiven) → Kept c (begun_by c) nothing []
begun_kept c = tested c.pending.has_asked
  where
    its : AttemptState
    its = new_attempt c.bits c.pending c.seen c.occasion c.spare c.is_orphaned

    untried : IsUntried c its nothing
    untried = record { same = record { name = refl; op = refl; version = refl }; sought = refl; seen = refl; occasion = refl; latch = refl; floor = refl; spare = refl; none_tried = refl }

    goes : (b : Bool) → is_seeking_read its ≡ b → Kept c (if b then puts its else tries c.places c.bits its) nothing []
    goes true e = puts_kept c its nothing [] (untried_behind c its nothing untried e refl)
    goes false e = tries_kept c its nothing untried e refl

    tested : (b : Bool) → Kept c (if b then record its { mailing = LoadsState Take; step = Looks } else goes_on c.places c.bits its) nothing []
    tested true = record { request = refl; seen = refl; occasion = refl; spare = refl; none_taken = refl; none_tried = refl; none_met = refl }
    tested false = goes (is_seeking_read its) refl

-- the look
read_on_kept : (c : AttemptGiven) (a : AttemptState) (past : AttemptPast) (its : MailRecord) (said : HeaderSaid) → IsBehind c a.pending a.spare a.trial past [] → Kept c (read_on a its said) past []
unfolding with_sought
read_on_kept c a past its Spoiled behind = puts_kept c a past [] behind
read_on_kept c a past its (Says previous version) behind = tested (its.key.0 == (key_of a.pending.request.op).0) (is_chain_end a.pending.request.floor previous)
  where
    on : AttemptState
    on = record a { pending = with_sought a.pending (moved_on a.pending.sought previous) }

    same : IsSameRequest c.pending on.pending
    same = record { name = behind.same.name; op = behind.same.op; version = behind.same.version }

    tested : (b e : Bool) → Kept c (if b then attempt_ended a (told_value (value_of its.value)) else if e then attempt_ended a answer.Absent else puts on) past []
    tested true e = behind
    tested false true = behind
    tested false false = puts_kept c on past [] (record { same = same; stands = behind.stands; reads = behind.reads; held = behind.held; came = behind.came })

holds_mail : (sought : Option DiskRecord) (its : MailRecord) (said : HeaderSaid) → HoldsMail sought its said (held_of sought its said)
holds_mail None its said = refl
holds_mail (Some sought) its Spoiled = refl
holds_mail (Some sought) its (Says previous version) = refl

taken_kept : (c : AttemptGiven) (a : AttemptState) (past : AttemptPast) (its : MailRecord) → is_gone its ≡ false → IsLooking c a past []
    → Kept c (record_taken c.places c.bits (record a { is_emptied = true; pending = with_asked a.pending false }) its (header_said its.header)) (record past { taken = Some its }) []
unfolding with_asked with_held
taken_kept c a past its there looking = tested (is_seeking_read b) refl
  where
    b : AttemptState
    b = record a { is_emptied = true; pending = with_asked a.pending false }

    then_past : AttemptPast
    then_past = record past { taken = Some its }

    untried : IsUntried c b then_past
    untried = record {
      same = record {
        name = ap (λ (pending : PendingRequest). pending.name) looking.request;
        op = ap (λ (pending : PendingRequest). pending.request.op) looking.request;
        version = ap (λ (pending : PendingRequest). pending.request.version) looking.request;
      };
      sought = ap (λ (pending : PendingRequest). pending.sought) looking.request;
      seen = looking.seen;
      occasion = looking.occasion;
      latch = ap (λ (pending : PendingRequest). pending.request.has_latch) looking.request;
      floor = ap (λ (pending : PendingRequest). pending.request.floor) looking.request ∙ floor_stays c.pending its there;
      spare = looking.spare;
      none_tried = looking.none_tried;
    }

    held : AttemptState
    held = record b { pending = with_held b.pending (held_of b.pending.sought its (header_said its.header)) }

    held_untried : IsUntried c held then_past
    held_untried = record {
      same = record { name = untried.same.name; op = untried.same.op; version = untried.same.version };
      sought = untried.sought;
      seen = untried.seen;
      occasion = untried.occasion;
      latch = untried.latch;
      floor = untried.floor;
      spare = untried.spare;
      none_tried = untried.none_tried;
    }

    holds : HoldsSo c.pending (Some its) held.pending.request.held
    holds = subst (λ (pending : PendingRequest). HoldsSo pending (Some its) held.pending.request.held) looking.request (holds_mail a.pending.sought its (header_said its.header))

    tested : (e : Bool) → is_seeking_read b ≡ e → Kept c (if e then read_on b its (header_said its.header) else tries c.places c.bits held) then_past []
    tested true e = read_on_kept c b then_past its (header_said its.header) (untried_behind c b then_past untried e (ap (λ (pending : PendingRequest). pending.request.held) looking.request ∙ held_stays c.pending its there))
    tested false e = tries_kept c held then_past held_untried e holds

-- a record that is gone: nothing is held any more
gone_kept : (c : AttemptGiven) (a : AttemptState) (past : AttemptPast) (its : MailRecord) → is_gone its ≡ true → IsLooking c a past []
    → Kept c (goes_anew c.places c.bits (record a { is_emptied = true; pending = with_asked a.pending false }) (begin_told its)) (record past { taken = Some its }) []
unfolding with_asked without_gone
gone_kept c a past its gone looking = tested (is_seeking_read a) refl
  where
    then_past : AttemptPast
    then_past = record past { taken = Some its }

    anew : AttemptState
    anew = record a { is_emptied = true; pending = without_gone (with_asked a.pending false) (begin_told its) }

    same : IsSameRequest c.pending anew.pending
    same = record {
      name = ap (λ (pending : PendingRequest). pending.name) looking.request;
      op = ap (λ (pending : PendingRequest). pending.request.op) looking.request;
      version = ap (λ (pending : PendingRequest). pending.request.version) looking.request;
    }

    latch : anew.pending.request.has_latch ≡ c.pending.request.has_latch
    latch = ap (λ (pending : PendingRequest). pending.request.has_latch) looking.request

    read_on : (b : Bool) → is_seeking_read a ≡ b → is_read_on c ≡ b
    read_on b e = sym (ap (λ (pending : PendingRequest). is_poll a.occasion && (is_read pending.request.op && is_some pending.sought)) looking.request
        ∙ ap (λ (o : Occasion). is_poll o && (is_read c.pending.request.op && is_some c.pending.sought)) looking.occasion) ∙ e

    holds : HoldsSo c.pending (Some its) None
    holds = subst (λ (said : HeaderSaid). HoldsMail c.pending.sought its said None) (sym (gone_spoiled its gone)) (holds_none c.pending.sought its)

    tested : (b : Bool) → is_seeking_read a ≡ b → Kept c (if b then waits_for_disk anew else tries c.places c.bits anew) then_past []
    tested true e = record {
      same = same;
      stands = NotTried refl looking.none_tried latch looking.spare;
      reads = λ poll read seeks. refl;
      held = λ sought e held is. let none = looking.none_tried in cc;
      came = subst (λ (b : Bool). HeldAt c b (Some its) past.tried None) (sym (read_on true e)) (held_lost c.pending its gone);
    }
    tested false e = record {
      same = same;
      its_try = record {
        request = anew.pending.request;
        its_op = same.op;
        its_version = same.version;
        its_latch = latch;
        its_held = holds;
        its_floor = floor_raised c.pending its gone;
        its_run = rw (looking.seen, looking.occasion, looking.spare) refl;
      };
      none_tried = looking.none_tried;
      latch = latch;
      spare = looking.spare;
      no_read = read_on false e;
      came = holds;
    }

mail_kept : (c : AttemptGiven) (a : AttemptState) (past : AttemptPast) (its : MailRecord) → IsLooking c a past []
    → Kept c (mail_taken c.places c.bits (record a { is_emptied = true; pending = with_asked a.pending false }) its) (record past { taken = Some its }) []
mail_kept c a past its looking = tested (is_gone its) refl
  where
    b : AttemptState
    b = record a { is_emptied = true; pending = with_asked a.pending false }

    tested : (d : Bool) → is_gone its ≡ d → Kept c (if d then goes_anew c.places c.bits b (begin_told its) else record_taken c.places c.bits b its (header_said its.header)) (record past { taken = Some its }) []
    tested true gone = gone_kept c a past its gone looking
    tested false there = taken_kept c a past its there looking

not_ready_kept : (c : AttemptGiven) (a : AttemptState) (past : AttemptPast) → IsLooking c a past [] → Kept c (not_ready c.places c.bits a) past []
not_ready_kept c a past looking = tested (is_seeking_read a) refl
  where
    untried : IsUntried c a past
    untried = record {
      same = record {
        name = ap (λ (pending : PendingRequest). pending.name) looking.request;
        op = ap (λ (pending : PendingRequest). pending.request.op) looking.request;
        version = ap (λ (pending : PendingRequest). pending.request.version) looking.request;
      };
      sought = ap (λ (pending : PendingRequest). pending.sought) looking.request;
      seen = looking.seen;
      occasion = looking.occasion;
      latch = ap (λ (pending : PendingRequest). pending.request.has_latch) looking.request;
      floor = rw looking.none_taken (ap (λ (pending : PendingRequest). pending.request.floor) looking.request);
      spare = looking.spare;
      none_tried = looking.none_tried;
    }

    holds : HoldsSo c.pending past.taken a.pending.request.held
    holds = rw looking.none_taken (ap (λ (pending : PendingRequest). pending.request.held) looking.request)

    tested : (b : Bool) → is_seeking_read a ≡ b → Kept c (if b then waits_for_disk a else tries c.places c.bits a) past []
    tested true e = untried_behind c a past untried e (rw looking.none_taken (ap (λ (pending : PendingRequest). pending.request.held) looking.request))
    tested false e = tries_kept c a past untried e holds

look_kept : (c : AttemptGiven) (a : AttemptState) (past : AttemptPast) (ask : Ask MailAnswer) → a.step ≡ Looks → IsLooking c a past [] → Kept c (look_ledto c.places c.bits a ask) (look_told ask past) []
unfolding look_ledto
look_kept c a past (Done (mail.Taken its)) at looking = mail_kept c a past its looking
look_kept c a past (Done other) at looking = not_ready_kept c a past looking
look_kept c a past ask at looking = subst (λ (step : Attempting). KeptAt c a past [] step) (sym at) looking

-- the try
kept_entry : (held : Option HeldRecord) (entry : ℕ) (its : HeldRecord) → held_kept held entry ≡ Some its → its.entry ≡ entry
kept_entry None entry its e = cc
kept_entry (Some held) entry its e = tested (held.entry == entry) refl e
  where
    tested : (b : Bool) → (held.entry == entry) ≡ b → (if b then Some held else None) ≡ Some its → its.entry ≡ entry
    tested true same is = let one : held ≡ its = cc in subst (λ (it : HeldRecord). it.entry ≡ entry) one (grind (arith, nat_tests))
    tested false same is = cc

awaits_kept : (c : AttemptGiven) (a : AttemptState) (past : AttemptPast) (replies : List ℕ) (sought : DiskRecord) → past.tried ≡ Some (answer.AwaitsDisk sought) → IsSameRequest c.pending a.pending
    → TryStands c a.pending.request.has_latch a.spare a.trial past.taken past.tried replies → is_read_on c ≡ false → HoldsSo c.pending past.taken a.pending.request.held → Kept c (awaits_record a sought) past replies
unfolding with_held with_sought
awaits_kept c a past replies sought is same stands no_read holds = tested a.pending.has_asked
  where
    its : AttemptState
    its = record a { pending = with_held a.pending (held_kept a.pending.request.held sought.entry) }

    held : HoldsFromEntry past.tried (held_kept a.pending.request.held sought.entry)
    held = λ other e its was. let one : sought ≡ other = cc in subst (λ (it : DiskRecord). its.entry ≡ it.entry) one (kept_entry a.pending.request.held sought.entry its was)

    came : HeldAt c (is_read_on c) past.taken past.tried (held_kept a.pending.request.held sought.entry)
    came = held_at c past.taken past.tried (held_kept a.pending.request.held sought.entry) no_read
        (subst (λ (its : Option TryAnswer). HoldsBehind c.pending past.taken its (held_kept a.pending.request.held sought.entry)) (sym is) (record { had = a.pending.request.held; came = holds; its_held = refl }))

    reads : ReadsSo c replies
    reads = reads_no c replies no_read

    tested : (b : Bool) → Kept c (if b then waits_for_disk its else puts (record its { pending = with_sought its.pending (Some sought) })) past replies
    tested true = record { same = record { name = same.name; op = same.op; version = same.version }; stands = stands; reads = reads; held = held; came = came }
    tested false = puts_kept c (record its { pending = with_sought its.pending (Some sought) }) past replies
        (record { same = record { name = same.name; op = same.op; version = same.version }; stands = stands; reads = reads; held = held; came = came })

-- a try that has ended otherwise
ended_kept : (c : AttemptGiven) (a : AttemptState) (past : AttemptPast) (replies : List ℕ) (its : TryAnswer) → past.tried ≡ Some its → IsSameRequest c.pending a.pending
    → TryStands c a.pending.request.has_latch a.spare a.trial past.taken past.tried replies → is_read_on c ≡ false → HoldsSo c.pending past.taken a.pending.request.held
    → HoldsBehind c.pending past.taken (Some its) a.pending.request.held → ((sought : DiskRecord) → its ≡ answer.AwaitsDisk sought → ⊥) → IsBehind c a.pending a.spare a.trial past replies
ended_kept c a past replies its is same stands no_read holds behind none = record {
  same = same;
  stands = stands;
  reads = reads_no c replies no_read;
  held = λ sought e held was. absurd (none sought (let one : its ≡ answer.AwaitsDisk sought = cc in one));
  came = held_at c past.taken past.tried a.pending.request.held no_read (subst (λ (it : Option TryAnswer). HoldsBehind c.pending past.taken it a.pending.request.held) (sym is) behind);
}

tried_kept : (c : AttemptGiven) (a : AttemptState) (past : AttemptPast) (replies : List ℕ) (its : TryAnswer) → past.tried ≡ Some its → IsSameRequest c.pending a.pending
    → TryStands c a.pending.request.has_latch a.spare a.trial past.taken past.tried replies → is_read_on c ≡ false → HoldsSo c.pending past.taken a.pending.request.held → Kept c (tried a its) past replies
tried_kept c a past replies (answer.AwaitsDisk sought) is same stands no_read holds = awaits_kept c a past replies sought is same stands no_read holds
tried_kept c a past replies (answer.Wait why) is same stands no_read holds = ended_kept c a past replies (answer.Wait why) is same stands no_read holds holds (λ sought e. cc)
tried_kept c a past replies (answer.Done its) is same stands no_read holds = ended_kept c a past replies (answer.Done its) is same stands no_read holds holds (λ sought e. cc)
tried_kept c a past replies (answer.Found its) is same stands no_read holds = ended_kept c a past replies (answer.Found its) is same stands no_read holds holds (λ sought e. cc)
tried_kept c a past replies answer.Absent is same stands no_read holds = ended_kept c a past replies answer.Absent is same stands no_read holds holds (λ sought e. cc)
tried_kept c a past replies answer.Shift is same stands no_read holds = ended_kept c a past replies answer.Shift is same stands no_read holds holds (λ sought e. cc)
tried_kept c a past replies answer.IndexFull is same stands no_read holds = ended_kept c a past replies answer.IndexFull is same stands no_read holds holds (λ sought e. cc)
tried_kept c a past replies answer.LogFull is same stands no_read holds = ended_kept c a past replies answer.LogFull is same stands no_read holds holds (λ sought e. cc)

try_kept : (c : AttemptGiven) (a : AttemptState) (past : AttemptPast) (replies : List ℕ) (ask : Ask TryAnswer) → a.step ≡ Tries → try_ask c.places a.trial ≡ ask → IsTrying c a past replies
    → Kept c (try_ledto a ask) (try_told ask past) replies
unfolding try_ledto with_latch
try_kept c a past replies (Done its) at e trying =
    tried_kept c (record a { spare = a.trial.spare; pending = with_latch a.pending a.trial.has_shared }) (record past { tried = Some its }) replies its refl
    (record { name = trying.same.name; op = trying.same.op; version = trying.same.version }) (HasEnded its trying.its_try e refl refl refl) trying.no_read trying.came
try_kept c a past replies ask at e trying = subst (λ (step : Attempting). KeptAt c a past replies step) (sym at) trying

moved_try : (c : AttemptGiven) (a : AttemptState) (past : AttemptPast) (replies : List ℕ) (reply : ℕ) → IsTrying c a past replies → IsTrying c (try_moved c.places c.room a reply) past (reply ∷ replies)
moved_try c a past replies reply its = record {
  same = its.same;
  its_try = record {
    request = its.its_try.request;
    its_op = its.its_try.its_op;
    its_version = its.its_try.its_version;
    its_latch = its.its_try.its_latch;
    its_held = its.its_try.its_held;
    its_floor = its.its_try.its_floor;
    its_run = ap (λ (t : TryState). try_next c.places c.room t reply) its.its_try.its_run;
  };
  none_tried = its.none_tried;
  latch = its.latch;
  spare = its.spare;
  no_read = its.no_read;
  came = its.came;
}

-- the put
pub put_same : (ask : Ask MailAnswer) (past : AttemptPast) → ((put_told ask past).taken ≡ past.taken) × ((put_told ask past).tried ≡ past.tried)
put_same (Done its) past = (refl, refl)
put_same ask past = (refl, refl)

pub address_same : (session : ℕ) (ask : Ask MailAnswer) (past : AttemptPast) → ((address_told session ask past).taken ≡ past.taken) × ((address_told session ask past).tried ≡ past.tried)
address_same session (Store place word) past = tested (place == session_place session own.MailAddress)
  where
    tested : (b : Bool) → ((if b then record past { address = Some word } else past).taken ≡ past.taken) × ((if b then record past { address = Some word } else past).tried ≡ past.tried)
    tested true = (refl, refl)
    tested false = (refl, refl)
address_same session ask past = (refl, refl)

put_kept : (c : AttemptGiven) (a : AttemptState) (past : AttemptPast) (replies : List ℕ) (ask : Ask MailAnswer) → a.step ≡ Puts → IsBehind c a.pending a.spare a.trial past replies → Kept c (put_ledto a ask) past replies
unfolding put_ledto with_asked
put_kept c a past replies (Done mail.Asked) at its =
    record { same = record { name = its.same.name; op = its.same.op; version = its.same.version }; stands = its.stands; reads = its.reads; held = its.held; came = its.came }
put_kept c a past replies (Done other) at its = its
put_kept c a past replies ask at its = subst (λ (step : Attempting). KeptAt c a past replies step) (sym at) its

other_past : (c : AttemptGiven) (pending : PendingRequest) (spare : ℕ) (trial : TryState) (past then_past : AttemptPast) (replies : List ℕ) → then_past.taken ≡ past.taken → then_past.tried ≡ past.tried
    → IsBehind c pending spare trial past replies → IsBehind c pending spare trial then_past replies
other_past c pending spare trial past then_past replies taken tried its = record { same = its.same; stands = rw (taken, tried) its.stands; reads = its.reads; held = rw tried its.held; came = rw (taken, tried) its.came }

-- each reply
next_kept : (c : AttemptGiven) (a : AttemptState) (past : AttemptPast) (replies : List ℕ) (step : Attempting) (reply : ℕ) → a.step ≡ step → KeptAt c a past replies step
    → Kept c (attempting_next c.places c.bits c.room c.session a step reply) (attempt_told c.places c.room c.session a step reply past) (try_reply step reply replies)
unfolding attempting_next
next_kept c a past replies (Ended its) reply at kept = rw at kept
next_kept c a past replies Looks reply at kept =
    subst (λ (met : List ℕ). Kept c (attempting_next c.places c.bits c.room c.session a Looks reply) (attempt_told c.places c.room c.session a Looks reply past) met) (sym kept.none_met)
    (look_kept c (mail_moved a reply) past (mail_ask c.session (mail_next a.mailing reply)) at
    (record { request = kept.request; seen = kept.seen; occasion = kept.occasion; spare = kept.spare; none_taken = kept.none_taken; none_tried = kept.none_tried; none_met = refl }))
next_kept c a past replies Tries reply at kept =
    try_kept c (try_moved c.places c.room a reply) past (reply ∷ replies) (try_ask c.places (try_next c.places c.room a.trial reply)) at refl (moved_try c a past replies reply kept)
next_kept c a past replies Puts reply at kept =
    let asked = mail_ask c.session a.mailing in
    let then_asks = mail_ask c.session (mail_next a.mailing reply) in
    let first = address_same c.session asked past in
    let then_same = put_same then_asks (address_told c.session asked past) in
    put_kept c (mail_moved a reply) (put_told then_asks (address_told c.session asked past)) replies then_asks at
    (other_past c a.pending a.spare a.trial past (put_told then_asks (address_told c.session asked past)) replies (then_same.0 ∙ first.0) (then_same.1 ∙ first.1) kept)

effect_kept : (c : AttemptGiven) (a : AttemptState) (past : AttemptPast) (replies : List ℕ) (step : Attempting) → KeptAt c a past replies step → KeptAt c (record a { effect = None }) past replies step
effect_kept c a past replies (Ended its) kept = kept
effect_kept c a past replies Looks kept = record { request = kept.request; seen = kept.seen; occasion = kept.occasion; spare = kept.spare; none_taken = kept.none_taken; none_tried = kept.none_tried; none_met = kept.none_met }
effect_kept c a past replies Tries kept = record { same = kept.same; its_try = kept.its_try; none_tried = kept.none_tried; latch = kept.latch; spare = kept.spare; no_read = kept.no_read; came = kept.came }
effect_kept c a past replies Puts kept = kept

pub same_told : (c : AttemptGiven) (a : AttemptState) (step : Attempting) (reply : ℕ) (past : AttemptPast)
    → attempt_told c.places c.room c.session (record a { effect = None }) step reply past ≡ attempt_told c.places c.room c.session a step reply past
same_told c a (Ended its) reply past = refl
same_told c a Looks reply past = refl
same_told c a Tries reply past = refl
same_told c a Puts reply past = refl

run_kept : (c : AttemptGiven) (replies : List ℕ) → Kept c (run_by c replies) (past_by c replies) (try_replies c replies)
unfolding attempt_run attempt_past
run_kept c [] = begun_kept c
run_kept c (reply ∷ others) =
    let a = run_by c others in
    let past = past_by c others in
    let met = try_replies c others in
    subst (λ (then_past : AttemptPast). Kept c (attempt_next c.places c.bits c.room c.session a reply) then_past (try_reply a.step reply met)) (same_told c a a.step reply past)
    (next_kept c (record a { effect = None }) past met a.step reply refl (effect_kept c a past met a.step (run_kept c others)))

kept_so : (c : AttemptGiven) (a : AttemptState) (past : AttemptPast) (replies : List ℕ) (step : Attempting) → KeptAt c a past replies step → IsTryKept c a past replies
kept_so c a past replies (Ended its) kept = record { same = kept.same; stands = kept.stands; reads = kept.reads; held = kept.held }
kept_so c a past replies Looks kept = record {
  same = record {
    name = ap (λ (pending : PendingRequest). pending.name) kept.request;
    op = ap (λ (pending : PendingRequest). pending.request.op) kept.request;
    version = ap (λ (pending : PendingRequest). pending.request.version) kept.request;
  };
  stands = NotTried kept.none_met kept.none_tried (ap (λ (pending : PendingRequest). pending.request.has_latch) kept.request) kept.spare;
  reads = λ poll read seeks. kept.none_met;
  held = λ sought e held is. let none = kept.none_tried in cc;
}
kept_so c a past replies Tries kept = record {
  same = kept.same;
  stands = UnderWay kept.its_try kept.none_tried kept.latch kept.spare;
  reads = reads_no c replies kept.no_read;
  held = λ sought e held is. let none = kept.none_tried in cc;
}
kept_so c a past replies Puts kept = record { same = kept.same; stands = kept.stands; reads = kept.reads; held = kept.held }

pub tries_are_kept : (c : AttemptGiven) (replies : List ℕ) → IsTryKept c (run_by c replies) (past_by c replies) (try_replies c replies)
tries_are_kept c replies = kept_so c (run_by c replies) (past_by c replies) (try_replies c replies) (run_by c replies).step (run_kept c replies)

none_both : (b : Bool) → (b && false) ≡ false
none_both true = refl
none_both false = refl

pub is_tried : (c : AttemptGiven) → IsToBeTried c → is_read_on c ≡ false
is_tried c (inl call) = by_occasion c.occasion call
  where
    by_occasion : (o : Occasion) → IsCall o → (is_poll o && (is_read c.pending.request.op && is_some c.pending.sought)) ≡ false
    by_occasion (Call bounds) its = refl
    by_occasion Poll its = absurd its
is_tried c (inr (inl update)) = rw update (none_both (is_poll c.occasion))
is_tried c (inr (inr sought)) = rw (sought, none_both (is_read c.pending.request.op)) (none_both (is_poll c.occasion))

pub is_read_then : (c : AttemptGiven) → c.occasion ≡ Poll → is_read c.pending.request.op ≡ true → is_some c.pending.sought ≡ true → is_read_on c ≡ true
is_read_then c poll read seeks = rw (poll, read, seeks) refl

at_held : (c : AttemptGiven) (past : AttemptPast) (held : Option HeldRecord) → HeldAt c (is_read_on c) past.taken past.tried held → IsHeldKept c past held
at_held c past held came = record {
  read = λ poll read seeks. subst (λ (b : Bool). HeldAt c b past.taken past.tried held) (is_read_then c poll read seeks) came;
  other = λ its. subst (λ (b : Bool). HeldAt c b past.taken past.tried held) (is_tried c its) came;
}

held_so : (c : AttemptGiven) (a : AttemptState) (past : AttemptPast) (replies : List ℕ) (step : Attempting) → KeptAt c a past replies step → IsHeldKept c past a.pending.request.held
held_so c a past replies (Ended its) kept = at_held c past a.pending.request.held kept.came
held_so c a past replies Looks kept = record { read = λ poll read seeks. rw kept.none_taken same; other = λ its. rw (kept.none_tried, kept.none_taken) same }
  where
    same : a.pending.request.held ≡ c.pending.request.held
    same = ap (λ (pending : PendingRequest). pending.request.held) kept.request
held_so c a past replies Tries kept = record {
  read = λ poll read seeks. absurd (never (sym (is_read_then c poll read seeks) ∙ kept.no_read));
  other = λ its. rw kept.none_tried kept.came;
}
held_so c a past replies Puts kept = at_held c past a.pending.request.held kept.came

pub held_is_kept : HeldKept
held_is_kept c replies = held_so c (run_by c replies) (past_by c replies) (try_replies c replies) (run_by c replies).step (run_kept c replies)
