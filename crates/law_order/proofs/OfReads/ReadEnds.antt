-- No attempt of a read ends as an update's that is done.
use Rattle.std.proofs.Common.{◌≡◌, ℕ, ◌∙◌, refl, sym, ap, subst, Bool, true, false, Option, Some, None}
use Rattle.std.specs.Prelude.{⊤, ◌==◌, ◌&&◌, not, if◌then◌else◌}
use Rattle.fkv_map.specs.Keys.{key_of}
use Rattle.fkv_plane.specs.declared.asks.Ask.{Ask}
use Rattle.fkv_plane.specs.declared.asks.Ask.TheVariants.{Done}
use Rattle.fkv_plane.specs.declared.places.Places.{Places}
use Rattle.fkv_plane.specs.Passing.{passed, is_done}
use Rattle.fkv_latch.specs.declared.latching.LatchTask.TheVariants.{DropShared, DropExclusive}
use Rattle.law_log.specs.Ghosts.{Log}
use Rattle.law_commit.specs.Below.fkv_ops.DiskRecord.{DiskRecord}
use Rattle.law_commit.specs.Below.fkv_ops.Reason.TheVariants as reason
use Rattle.law_commit.specs.Below.fkv_ops.TryAnswer.{TryAnswer}
use Rattle.law_commit.specs.Below.fkv_ops.TryAnswer.TheVariants as answer
use Rattle.law_commit.specs.Below.fkv_ops.TheWaiting.{Waiting}
use Rattle.law_commit.specs.Below.fkv_ops.Waiting.{waiting_of}
use Rattle.law_commit.specs.Below.fkv_ops.HeaderSaid.{HeaderSaid}
use Rattle.law_commit.specs.Below.fkv_ops.HeaderSaid.TheVariants.{Says, Spoiled}
use Rattle.law_commit.specs.Below.fkv_ops.Occasion.{Occasion}
use Rattle.law_commit.specs.Below.fkv_ops.Occasion.TheVariants.{Call, Poll}
use Rattle.law_commit.specs.Below.fkv_ops.TheTrying.{Trying}
use Rattle.law_commit.specs.Below.fkv_ops.TheTrying.TheVariants as try
use Rattle.law_commit.specs.Below.fkv_ops.WalkAnswer.{WalkAnswer}
use Rattle.law_commit.specs.Below.fkv_ops.WalkAnswer.TheVariants as walk
use Rattle.law_commit.specs.Below.fkv_ops.HeaderWords.{header_said}
use Rattle.law_commit.specs.Below.fkv_ops.Requests.{is_chain_end, is_read}
use Rattle.law_commit.specs.Below.fkv_ops.Trying.{TryState, awaits, with_latch, is_wait, ended_without, ends_so as ends_now, ends_by, is_bounded, ends, full_at, walked, has_walked, must_shift, walk_ledto, told_value, answer_ledto, trying_ask, try_ask, trying_next, try_next}
use Rattle.law_commit.specs.Below.fkv_ops.Values.{value_of}
use Rattle.law_commit.specs.Below.fkv_ops.Walking.{walk_on, walk_ask, walk_next}
use Rattle.law_commit.specs.Below.fkv_pending.TheAttempting.{Attempting}
use Rattle.law_commit.specs.Below.fkv_pending.TheAttempting.TheVariants.{Ended, Looks, Tries, Puts}
use Rattle.law_commit.specs.Below.fkv_pending.MailAnswer.{MailAnswer}
use Rattle.law_commit.specs.Below.fkv_pending.MailAnswer.TheVariants as mail
use Rattle.law_commit.specs.Below.fkv_pending.MailRecord.{MailRecord}
use Rattle.law_commit.specs.Below.fkv_pending.Mailing.{begin_told, is_gone, mail_ask, mail_next}
use Rattle.law_commit.specs.Below.fkv_pending.Pending.{with_sought, with_held, with_latch as with_shared, with_asked, without_gone}
use Rattle.law_commit.specs.Below.fkv_pending.Attempting.{AttemptState, attempting_ask, attempt_ask, attempt_ended, waits_for_disk, puts_addr, puts, tries, is_seeking_read, held_of, moved_on, read_on, record_taken, goes_anew, mail_taken, look_ledto, held_kept, awaits_record, tried, try_ledto, put_ledto, mail_moved, try_moved, attempting_next, attempt_next}
use Rattle.law_commit.specs.Below.law_local.Tries.AttemptRows.{AttemptRow}
use Rattle.law_commit.specs.Below.law_local.Tries.TryRows.{TryRow}
use Rattle.law_order.proofs.OfReads.Coming.{IsReadEnd}

-- ---- a try
abbrev pub EndsSo : Trying → Type 0
EndsSo (try.Ended its) = IsReadEnd its
EndsSo (try.DropsExclusive its) = IsReadEnd its
EndsSo (try.DropsShared its) = IsReadEnd its
EndsSo step = ⊤

either_so : (c : Bool) (a b : TryState) → EndsSo a.step → EndsSo b.step → EndsSo (if c then a else b).step
either_so true a b one other = one
either_so false a b one other = other

-- of a test that is true only what is first
then_so : (c : Bool) (a b : TryState) → c ≡ true → EndsSo a.step → EndsSo (if c then a else b).step
then_so true a b e one = one
then_so false a b e one = cc

ends_now_so : (p : Places) (t : TryState) (its : TryAnswer) → IsReadEnd its → EndsSo (ends_now p t its).step
unfolding ends_now
ends_now_so p t its end =
    either_so t.has_exclusive (with_latch p (record t { has_exclusive = false }) DropExclusive (try.DropsExclusive its)) (ended_without p t its) end
    (either_so (t.has_shared && not (is_wait its)) (with_latch p (record t { has_shared = false }) DropShared (try.DropsShared its)) (record t { step = try.Ended its }) end end)

ends_by_so : (p : Places) (t : TryState) (its : TryAnswer) (waiting : Option Waiting) → IsReadEnd its → EndsSo (ends_by p t its waiting).step
ends_by_so p t its None end = ends_now_so p t its end
ends_by_so p t its (Some waiting) end = either_so (is_bounded t) (record t { step = try.LoadsTail waiting }) (ends_now p t its) tt (ends_now_so p t its end)

ends_so : (p : Places) (t : TryState) (its : TryAnswer) → IsReadEnd its → EndsSo (ends p t its).step
unfolding ends
ends_so p t its end = ends_by_so p t its (waiting_of its) end

full_so : (occasion : Occasion) → IsReadEnd (full_at occasion answer.IndexFull)
full_so (Call bounds) = tt
full_so Poll = tt

told_so : (value : Option ℕ) → IsReadEnd (told_value value)
told_so None = tt
told_so (Some value) = tt

walked_so : (p : Places) (t : TryState) (its : WalkAnswer) → is_read t.request.op ≡ true → EndsSo (walked p t its).step
walked_so p t (walk.Found addr version) read = then_so (is_read t.request.op) (record t { walk = walk_on t.walk; step = try.LoadsAnswer }) _ read tt
walked_so p t walk.Nowhere read = then_so (is_read t.request.op) (ends p t answer.Absent) _ read (ends_so p t answer.Absent tt)
walked_so p t (walk.OnDisk addr) read =
    let end : Bool = is_chain_end t.request.floor addr in
    then_so (is_read t.request.op) (if end then ends p t answer.Absent else awaits p t addr) _ read
    (either_so end (ends p t answer.Absent) (awaits p t addr) (ends_so p t answer.Absent tt) (ends_so p t (answer.AwaitsDisk (record { entry = t.walk.entry; addr = addr })) tt))
walked_so p t (walk.Value value) read = ends_so p t (answer.Wait reason.Contended) tt
walked_so p t walk.Full read = ends_so p t (full_at t.occasion answer.IndexFull) (full_so t.occasion)
walked_so p t walk.Kept read = ends_so p t (full_at t.occasion answer.IndexFull) (full_so t.occasion)
walked_so p t walk.Contended read = ends_so p t (answer.Wait reason.Contended) tt

at_so : (t : TryState) (step : Trying) → t.step ≡ step → EndsSo step → EndsSo t.step
at_so t step at its = subst EndsSo (sym at) its

walk_so : (p : Places) (t : TryState) (ask : Ask WalkAnswer) → t.step ≡ try.Walks → is_read t.request.op ≡ true → EndsSo (walk_ledto p t ask).step
unfolding walk_ledto
walk_so p t (Done its) at read =
    let after : TryState = record t { spare = t.walk.spare } in
    either_so (has_walked its && must_shift after) (ends p after answer.Shift) (walked p after its) (ends_so p after answer.Shift tt) (walked_so p after its read)
walk_so p t ask at read = at_so t try.Walks at tt

answer_so : (p : Places) (t : TryState) (ask : Ask WalkAnswer) → t.step ≡ try.LoadsAnswer → EndsSo (answer_ledto p t ask).step
unfolding answer_ledto
answer_so p t (Done (walk.Value value)) at = ends_so p t (told_value (value_of value)) (told_so (value_of value))
answer_so p t (Done its) at = ends_so p t (answer.Wait reason.Contended) tt
answer_so p t ask at = at_so t try.LoadsAnswer at tt

not_both : {X : Type 0} (c : Bool) → c ≡ true → c ≡ false → X
not_both c one other = cc

done_not : {X : Type 0} {A : Type 0} (its : A) → is_done (Done its) ≡ false → X
done_not its e = cc

trying_so : (home : ℕ → ℕ) (log : Log) (p : Places) (room : ℕ) (t : TryState) (step : Trying) (reply : ℕ) → t.step ≡ step → is_read t.request.op ≡ true → TryRow home log t step → is_done (trying_ask p t step) ≡ false
    → EndsSo (trying_next p room (record t { effect = None }) step reply).step
unfolding trying_next trying_ask
trying_so home log p room t (try.Ended its) reply at read row asks = done_not its asks
trying_so home log p room t try.TakesShared reply at read row asks = not_both (is_read t.request.op) read row
trying_so home log p room t try.LoadsPhase reply at read row asks = not_both (is_read t.request.op) read row
trying_so home log p room t try.Walks reply at read row asks = walk_so p (record t { effect = None; walk = walk_next p t.walk reply }) (walk_ask p (walk_next p t.walk reply)) at read
trying_so home log p room t try.CountsTaken reply at read row asks = not_both (is_read t.request.op) read row.0
trying_so home log p room t (try.LoadsSafe addr version) reply at read row asks = not_both (is_read t.request.op) read row.0
trying_so home log p room t (try.SwapsValue addr) reply at read row asks = not_both (is_read t.request.op) read row.0
trying_so home log p room t (try.LoadsCurrent addr) reply at read row asks = not_both (is_read t.request.op) read row.0
trying_so home log p room t (try.ChangesValue addr old) reply at read row asks = not_both (is_read t.request.op) read row.0
trying_so home log p room t try.LoadsAnswer reply at read row asks = answer_so p (record t { effect = None; walk = walk_next p t.walk reply }) (walk_ask p (walk_next p t.walk reply)) at
trying_so home log p room t (try.TakesExclusive old) reply at read row asks = not_both (is_read t.request.op) read row.0
trying_so home log p room t try.LoadsOld reply at read row asks = not_both (is_read t.request.op) read row.0
trying_so home log p room t (try.Appends its) reply at read row asks = not_both (is_read t.request.op) read row.0
trying_so home log p room t (try.LoadsTail waiting) reply at read row asks = not_both (is_read t.request.op) read row.0
trying_so home log p room t (try.LoadsTaken waiting) reply at read row asks = not_both (is_read t.request.op) read row.0
trying_so home log p room t (try.DropsExclusive its) reply at read row asks = not_both (is_read t.request.op) read row.0
trying_so home log p room t (try.DropsShared its) reply at read row asks = not_both (is_read t.request.op) read row.0

-- what it tells then
passed_end : {A : Type 0} (ask : Ask A) (end its : TryAnswer) → IsReadEnd end → passed ask end ≡ Done its → IsReadEnd its
unfolding passed
passed_end (Done inner) end its is e = let same : end ≡ its = cc in subst IsReadEnd same is
passed_end ask end its is e = cc

told_end : (p : Places) (t : TryState) (step : Trying) (its : TryAnswer) → EndsSo step → trying_ask p t step ≡ Done its → IsReadEnd its
unfolding trying_ask
told_end p t (try.Ended end) its so e = let same : end ≡ its = cc in subst IsReadEnd same so
told_end p t try.TakesShared its so e = passed_end _ answer.Shift its tt e
told_end p t try.Walks its so e = passed_end _ answer.Shift its tt e
told_end p t try.LoadsPhase its so e = cc
told_end p t try.CountsTaken its so e = cc
told_end p t (try.LoadsSafe addr version) its so e = cc
told_end p t (try.SwapsValue addr) its so e = cc
told_end p t (try.LoadsCurrent addr) its so e = passed_end _ answer.Shift its tt e
told_end p t (try.ChangesValue addr old) its so e = cc
told_end p t try.LoadsAnswer its so e = passed_end _ answer.Shift its tt e
told_end p t (try.TakesExclusive old) its so e = passed_end _ answer.Shift its tt e
told_end p t try.LoadsOld its so e = passed_end _ answer.Shift its tt e
told_end p t (try.Appends reply) its so e = passed_end _ answer.Shift its tt e
told_end p t (try.LoadsTail waiting) its so e = cc
told_end p t (try.LoadsTaken waiting) its so e = cc
told_end p t (try.DropsExclusive end) its so e = passed_end _ end its so e
told_end p t (try.DropsShared end) its so e = passed_end _ end its so e

-- ---- an attempt
abbrev pub AttemptEndsSo : Attempting → Type 0
AttemptEndsSo (Ended its) = IsReadEnd its
AttemptEndsSo step = ⊤

either_ends : (c : Bool) (a b : AttemptState) → AttemptEndsSo a.step → AttemptEndsSo b.step → AttemptEndsSo (if c then a else b).step
either_ends true a b one other = one
either_ends false a b one other = other

puts_end : (a : AttemptState) (sought : Option DiskRecord) → AttemptEndsSo (puts_addr a sought).step
puts_end a None = tt
puts_end a (Some it) = tt

read_on_ends : (a : AttemptState) (its : MailRecord) (said : HeaderSaid) → AttemptEndsSo (read_on a its said).step
read_on_ends a its Spoiled = puts_end a a.pending.sought
read_on_ends a its (Says previous version) =
    either_ends (its.key.0 == (key_of a.pending.request.op).0) (attempt_ended a (told_value (value_of its.value))) _ (told_so (value_of its.value))
    (either_ends (is_chain_end a.pending.request.floor previous) (attempt_ended a answer.Absent) (puts (record a { pending = with_sought a.pending (moved_on a.pending.sought previous) })) tt
    (puts_end (record a { pending = with_sought a.pending (moved_on a.pending.sought previous) }) (with_sought a.pending (moved_on a.pending.sought previous)).sought))

taken_ends : (p : Places) (bits : ℕ) (a : AttemptState) (its : MailRecord) (said : HeaderSaid) → AttemptEndsSo (record_taken p bits a its said).step
taken_ends p bits a its said = either_ends (is_seeking_read a) (read_on a its said) (tries p bits (record a { pending = with_held a.pending (held_of a.pending.sought its said) })) (read_on_ends a its said) tt

mail_ends : (p : Places) (bits : ℕ) (a : AttemptState) (its : MailRecord) → AttemptEndsSo (mail_taken p bits a its).step
mail_ends p bits a its =
    let anew : AttemptState = record a { pending = without_gone a.pending (begin_told its) } in
    either_ends (is_gone its) (goes_anew p bits a (begin_told its)) (record_taken p bits a its (header_said its.header)) (either_ends (is_seeking_read a) (waits_for_disk anew) (tries p bits anew) tt tt)
    (taken_ends p bits a its (header_said its.header))

look_ends : (p : Places) (bits : ℕ) (a : AttemptState) (ask : Ask MailAnswer) → a.step ≡ Looks → AttemptEndsSo (look_ledto p bits a ask).step
unfolding look_ledto
look_ends p bits a (Done (mail.Taken its)) at = mail_ends p bits (record a { is_emptied = true; pending = with_asked a.pending false }) its
look_ends p bits a (Done other) at = either_ends (is_seeking_read a) (waits_for_disk a) (tries p bits a) tt tt
look_ends p bits a ask at = subst AttemptEndsSo (sym at) tt

awaits_end : (a : AttemptState) (sought : DiskRecord) → AttemptEndsSo (awaits_record a sought).step
awaits_end a sought =
    let its : AttemptState = record a { pending = with_held a.pending (held_kept a.pending.request.held sought.entry) } in
    let next : AttemptState = record its { pending = with_sought its.pending (Some sought) } in
    either_ends a.pending.has_asked (waits_for_disk its) (puts next) tt (puts_end next next.pending.sought)

tried_ends : (a : AttemptState) (its : TryAnswer) → IsReadEnd its → AttemptEndsSo (tried a its).step
tried_ends a (answer.AwaitsDisk sought) end = awaits_end a sought
tried_ends a (answer.Done reply) end = absurd end
tried_ends a its end = tt

led_ends : (a : AttemptState) (ask : Ask TryAnswer) → a.step ≡ Tries → ((its : TryAnswer) → ask ≡ Done its → IsReadEnd its) → AttemptEndsSo (try_ledto a ask).step
unfolding try_ledto
led_ends a (Done its) at ends = tried_ends (record a { spare = a.trial.spare; pending = with_shared a.pending a.trial.has_shared }) its (ends its refl)
led_ends a ask at ends = subst AttemptEndsSo (sym at) tt

put_ends : (a : AttemptState) (ask : Ask MailAnswer) → a.step ≡ Puts → AttemptEndsSo (put_ledto a ask).step
unfolding put_ledto
put_ends a (Done mail.Asked) at = tt
put_ends a (Done other) at = tt
put_ends a ask at = subst AttemptEndsSo (sym at) tt

pub passed_done : {A B : Type 0} (ask : Ask A) (told : B) → is_done (passed ask told) ≡ is_done ask
unfolding passed
passed_done (Done its) told = refl
passed_done ask told = refl

attempting_ends : (home : ℕ → ℕ) (log : Log) (p : Places) (bits room session : ℕ) (a : AttemptState) (step : Attempting) (reply : ℕ) → a.step ≡ step → is_read a.pending.request.op ≡ true → AttemptRow home log a step
    → is_done (attempting_ask p session a step) ≡ false → AttemptEndsSo (attempting_next p bits room session (record a { effect = None }) step reply).step
unfolding attempting_next attempting_ask
attempting_ends home log p bits room session a (Ended its) reply at read row asks = done_not its asks
attempting_ends home log p bits room session a Looks reply at read row asks = look_ends p bits (mail_moved (record a { effect = None }) reply) (mail_ask session (mail_next a.mailing reply)) at
attempting_ends home log p bits room session a Tries reply at read row asks =
    led_ends (try_moved p room (record a { effect = None }) reply) (try_ask p (try_next p room a.trial reply)) at
    (λ its e. told_end p (try_next p room a.trial reply) (try_next p room a.trial reply).step its
    (trying_so home log p room a.trial a.trial.step reply refl (ap (λ request. is_read request.op) row.its_request ∙ read) row.knows.row (sym (passed_done (try_ask p a.trial) answer.Shift) ∙ asks)) e)
attempting_ends home log p bits room session a Puts reply at read row asks = put_ends (mail_moved (record a { effect = None }) reply) (mail_ask session (mail_next a.mailing reply)) at

pub attempt_read_ends : (home : ℕ → ℕ) (log : Log) (p : Places) (bits room session : ℕ) (a : AttemptState) (reply : ℕ) → is_read a.pending.request.op ≡ true → AttemptRow home log a a.step → is_done (attempt_ask p session a) ≡ false
    → AttemptEndsSo (attempt_next p bits room session a reply).step
attempt_read_ends home log p bits room session a reply read row asks = attempting_ends home log p bits room session a a.step reply refl read row asks
