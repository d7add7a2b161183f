-- A call is refused before its first ask just where a fault has a cause, and by the first that has one.
use Rattle.std.proofs.Common.{◌≡◌, ℕ, ◌<◌, refl, ap, sym, subst, ◌∙◌, arith, Bool, true, false, List, [], ◌∷◌, length}
use Rattle.std.specs.Prelude.{Option, Some, None, if◌then◌else◌, not, ◌==◌, ◌&&◌, ◌≢◌, slice_get}
use Rattle.std.proofs.lemmas.Bool.{eqb-false}
use Rattle.std.proofs.lemmas.Bool.Decides.{nat_tests}
use Rattle.fkv_base.specs.Limits.{max_pending, last_serial}
use Rattle.fkv_base.specs.declared.faults.Fault.{Fault}
use Rattle.fkv_base.specs.declared.faults.Fault.TheVariants as fault
use Rattle.fkv_map.specs.declared.operations.Call.{Call}
use Rattle.fkv_map.specs.declared.operations.Call.TheVariants as call
use Rattle.fkv_map.specs.declared.operations.Op.{Op}
use Rattle.fkv_map.specs.Map.{is_reserved}
use Rattle.fkv_map.proofs.Shown.{reserved_by_test, free_by_test}
use Rattle.fkv_ops.specs.Requests.{is_read}
use Rattle.fkv_pending.specs.declared.pending_requests.PendingRequest.{PendingRequest}
use Rattle.fkv_session.specs.declared.answers.Told.TheVariants as told
use Rattle.fkv_session.specs.declared.sessions.Sitting.TheVariants.{Idle}
use Rattle.fkv_session.specs.Causes.{NeedsAwake, HasCause, rank, IsFirstCause}
use Rattle.fkv_session.specs.Sessions.{SessionState, Seat, answers, refuses, attempts, polls_request, polls_at, is_full, is_spent, refusal_of, op_begun, refresh_call, poll_begun, poll_call, sleep_call, wake_call, call_begun, session_begun}

-- tests and what they say
eq_so : (m n : ℕ) → (m == n) ≡ true → m ≡ n
eq_so m n e = grind (arith, nat_tests, e)

eq_test : (m n : ℕ) → m ≡ n → (m == n) ≡ true
eq_test m n e = grind (arith, nat_tests, e)

eq_not : (m n : ℕ) → (m == n) ≡ false → m ≡ n → ⊥
eq_not m n e f = absurd (eqb-false m n e f)

negated : (c : Bool) → not c ≡ true → c ≡ false
negated true e = cc
negated false e = refl

affirmed : (c : Bool) → not c ≡ false → c ≡ true
affirmed true e = refl
affirmed false e = cc

clash : {A : Type 0} (c : Bool) → c ≡ true → c ≡ false → A
clash true yes_so no_so = cc
clash false yes_so no_so = cc

both : (b c : Bool) → (b && c) ≡ true → (b ≡ true) × (c ≡ true)
both true true e = (refl, refl)
both true false e = cc
both false c e = cc

neither : (b c : Bool) → (b && c) ≡ false → b ≡ true → c ≡ true → ⊥
neither true true e one other = cc
neither true false e one other = cc
neither false c e one other = cc

spent_so : (s : SessionState) (op : Op) → is_spent s op ≡ true → (is_read op ≡ false) × (s.serial ≡ last_serial)
spent_so s op e = let its = both (not (is_read op)) (s.serial == last_serial) e in (negated (is_read op) its.0, eq_so s.serial last_serial its.1)

spent_not : (s : SessionState) (op : Op) → is_spent s op ≡ false → (is_read op ≡ false) × (s.serial ≡ last_serial) → ⊥
spent_not s op e its = neither (not (is_read op)) (s.serial == last_serial) e (rw its.0 refl) (eq_test s.serial last_serial its.1)

none_waits : (requests : List PendingRequest) → (length requests == 0) ≡ true → requests ≡ []
none_waits [] e = refl
none_waits (first ∷ others) e = absurd (grind (arith, nat_tests, e))

some_wait : (requests : List PendingRequest) → (length requests == 0) ≡ false → requests ≢ []
some_wait [] e = cc
some_wait (first ∷ others) e = λ none. cc

-- an operation
abbrev tested_op : Bool → Bool → Bool → Bool → Option Fault
tested_op asleep reserved full spent =
    if asleep then Some fault.Asleep else if reserved then Some fault.ValueReserved else if full then Some fault.PendingFull else if spent then Some fault.SerialsSpent else None

asleep_first : (s : SessionState) (its : Call) (other : Fault) → rank other < rank fault.Asleep → HasCause s its other → ⊥
asleep_first s its other less cause = absurd (omega (arith, less))

op_caused : (s : SessionState) (op : Op) (why : Fault) → refusal_of s op ≡ Some why → IsFirstCause s (call.Op op) why
op_caused s op why = tested (not s.is_awake) (is_reserved op) (is_full s.requests) (is_spent s op) refl refl refl refl why
  where
    before_reserved : not s.is_awake ≡ false → (other : Fault) → rank other < 1 → HasCause s (call.Op op) other → ⊥
    before_reserved awake fault.Asleep less cause = clash s.is_awake (affirmed s.is_awake awake) cause.1
    before_reserved awake fault.ValueReserved less cause = absurd (omega (arith, less))
    before_reserved awake fault.PendingFull less cause = absurd (omega (arith, less))
    before_reserved awake fault.SerialsSpent less cause = absurd (omega (arith, less))
    before_reserved awake fault.PendingLeft less cause = absurd (omega (arith, less))
    before_reserved awake other less cause = absurd (omega (arith, less))

    before_full : not s.is_awake ≡ false → is_reserved op ≡ false → (other : Fault) → rank other < 2 → HasCause s (call.Op op) other → ⊥
    before_full awake some fault.Asleep less cause = clash s.is_awake (affirmed s.is_awake awake) cause.1
    before_full awake some fault.ValueReserved less cause = free_by_test op some cause
    before_full awake some fault.PendingFull less cause = absurd (omega (arith, less))
    before_full awake some fault.SerialsSpent less cause = absurd (omega (arith, less))
    before_full awake some fault.PendingLeft less cause = absurd (omega (arith, less))
    before_full awake some other less cause = absurd (omega (arith, less))

    before_spent : not s.is_awake ≡ false → is_reserved op ≡ false → is_full s.requests ≡ false → (other : Fault) → rank other < 3 → HasCause s (call.Op op) other → ⊥
    before_spent awake some room fault.Asleep less cause = clash s.is_awake (affirmed s.is_awake awake) cause.1
    before_spent awake some room fault.ValueReserved less cause = free_by_test op some cause
    before_spent awake some room fault.PendingFull less cause = eq_not (length s.requests) max_pending room cause.1
    before_spent awake some room fault.SerialsSpent less cause = absurd (omega (arith, less))
    before_spent awake some room fault.PendingLeft less cause = absurd (omega (arith, less))
    before_spent awake some room other less cause = absurd (omega (arith, less))

    tested : (a b c d : Bool) → not s.is_awake ≡ a → is_reserved op ≡ b → is_full s.requests ≡ c → is_spent s op ≡ d → (its : Fault) → tested_op a b c d ≡ Some its → IsFirstCause s (call.Op op) its
    tested true b c d asleep e f g its is =
        let same : fault.Asleep ≡ its = cc in
        subst (λ (x : Fault). IsFirstCause s (call.Op op) x) same (record { its_cause = (tt, negated s.is_awake asleep); first = asleep_first s (call.Op op) })
    tested false true c d awake e f g its is =
        let same : fault.ValueReserved ≡ its = cc in
        subst (λ (x : Fault). IsFirstCause s (call.Op op) x) same (record { its_cause = reserved_by_test op e; first = before_reserved awake })
    tested false false true d awake e f g its is =
        let same : fault.PendingFull ≡ its = cc in
        subst (λ (x : Fault). IsFirstCause s (call.Op op) x) same (record { its_cause = (tt, eq_so (length s.requests) max_pending f); first = before_full awake e })
    tested false false false true awake e f g its is =
        let same : fault.SerialsSpent ≡ its = cc in
        subst (λ (x : Fault). IsFirstCause s (call.Op op) x) same (record { its_cause = spent_so s op g; first = before_spent awake e f })
    tested false false false false awake e f g its is = cc

op_refused : (s : SessionState) (op : Op) (why : Fault) → IsFirstCause s (call.Op op) why → refusal_of s op ≡ Some why
op_refused s op why its = tested (not s.is_awake) (is_reserved op) (is_full s.requests) (is_spent s op) refl refl refl refl why its
  where
    tested : (a b c d : Bool) → not s.is_awake ≡ a → is_reserved op ≡ b → is_full s.requests ≡ c → is_spent s op ≡ d → (why : Fault) → IsFirstCause s (call.Op op) why → tested_op a b c d ≡ Some why
    tested a b c d awake e f g fault.Asleep its = let is : a ≡ true = sym awake ∙ rw its.its_cause.1 refl in rw is refl
    tested true b c d asleep e f g fault.ValueReserved its = absurd (its.first fault.Asleep (omega arith) (tt, negated s.is_awake asleep))
    tested false true c d awake e f g fault.ValueReserved its = refl
    tested false false c d awake e f g fault.ValueReserved its = absurd (free_by_test op e its.its_cause)
    tested true b c d asleep e f g fault.PendingFull its = absurd (its.first fault.Asleep (omega arith) (tt, negated s.is_awake asleep))
    tested false true c d awake e f g fault.PendingFull its = absurd (its.first fault.ValueReserved (omega arith) (reserved_by_test op e))
    tested false false true d awake e f g fault.PendingFull its = refl
    tested false false false d awake e f g fault.PendingFull its = absurd (eq_not (length s.requests) max_pending f its.its_cause.1)
    tested true b c d asleep e f g fault.SerialsSpent its = absurd (its.first fault.Asleep (omega arith) (tt, negated s.is_awake asleep))
    tested false true c d awake e f g fault.SerialsSpent its = absurd (its.first fault.ValueReserved (omega arith) (reserved_by_test op e))
    tested false false true d awake e f g fault.SerialsSpent its = absurd (its.first fault.PendingFull (omega arith) (tt, eq_so (length s.requests) max_pending f))
    tested false false false true awake e f g fault.SerialsSpent its = refl
    tested false false false false awake e f g fault.SerialsSpent its = absurd (spent_not s op g its.its_cause)
    tested a b c d awake e f g fault.PendingLeft its = absurd (never its.its_cause.0)
      where
        never : call.Op op ≡ call.Sleep → ⊥
        never e = cc
    tested a b c d awake e f g fault.Awake its = absurd (never its.its_cause.0)
      where
        never : call.Op op ≡ call.Wake → ⊥
        never e = cc
    tested a b c d awake e f g why its = absurd its.its_cause

-- where a call leads
abbrev pub RefusesSo : SessionState → Call → SessionState → Type 0
RefusesSo s its after = (why : Fault) → after.step ≡ Idle (told.Refused why) → IsFirstCause s its why

either_so : (c : Bool) (s : SessionState) (its : Call) (a b : SessionState) → (c ≡ true → RefusesSo s its a) → (c ≡ false → RefusesSo s its b) → RefusesSo s its (if c then a else b)
either_so true s its a b one other = one refl
either_so false s its a b one other = other refl

refuses_so : (s t : SessionState) (its : Call) (why : Fault) → IsFirstCause s its why → RefusesSo s its (refuses t why)
refuses_so s t its why cause other e = let same : why ≡ other = cc in subst (λ (x : Fault). IsFirstCause s its x) same cause

op_so : (k : Seat) (s t : SessionState) (op : Op) (found : Option Fault) → ((why : Fault) → found ≡ Some why → IsFirstCause s (call.Op op) why) → RefusesSo s (call.Op op) (op_begun k t op found)
unfolding op_begun attempts
op_so k s t op (Some why) caused = refuses_so s t (call.Op op) why (caused why refl)
op_so k s t op None caused = λ why e. cc

found_so : (k : Seat) (s t : SessionState) (its : Call) (i : ℕ) (found : Option PendingRequest) → RefusesSo s its (polls_request k t i found)
found_so k s t its i None = either_so t.wants_turn s its _ (answers t (told.Polled (length t.requests))) (λ _. λ why e. cc) (λ _. λ why e. cc)
found_so k s t its i (Some pending) = λ why e. cc

polls_so : (k : Seat) (s t : SessionState) (its : Call) (i : ℕ) → RefusesSo s its (polls_at k t i)
unfolding polls_at
polls_so k s t its i = found_so k s t its i (slice_get t.requests i)

asleep_cause : (s : SessionState) (its : Call) → NeedsAwake its → s.is_awake ≡ false → IsFirstCause s its fault.Asleep
asleep_cause s its needs asleep = record { its_cause = (needs, asleep); first = asleep_first s its }

left_cause : (s : SessionState) → s.is_awake ≡ true → s.requests ≢ [] → IsFirstCause s call.Sleep fault.PendingLeft
left_cause s awake some = record { its_cause = (refl, some); first = before }
  where
    before : (other : Fault) → rank other < rank fault.PendingLeft → HasCause s call.Sleep other → ⊥
    before fault.Asleep less cause = clash s.is_awake awake cause.1
    before fault.ValueReserved less cause = cause
    before fault.PendingFull less cause = cause.0
    before fault.SerialsSpent less cause = cause.0
    before fault.PendingLeft less cause = absurd (omega (arith, less))
    before other less cause = absurd (omega (arith, less))

awake_cause : (s : SessionState) → s.is_awake ≡ true → IsFirstCause s call.Wake fault.Awake
awake_cause s awake = record { its_cause = (refl, awake); first = before }
  where
    before : (other : Fault) → rank other < rank fault.Awake → HasCause s call.Wake other → ⊥
    before fault.Asleep less cause = cause.0
    before fault.ValueReserved less cause = cause
    before fault.PendingFull less cause = cause.0
    before fault.SerialsSpent less cause = cause.0
    before fault.PendingLeft less cause = never cause.0
      where
        never : call.Wake ≡ call.Sleep → ⊥
        never e = cc
    before other less cause = absurd (omega (arith, less))

-- the session with which a call begins, and that session as it stood
call_so : (k : Seat) (s t : SessionState) (its : Call) → t.is_awake ≡ s.is_awake → t.requests ≡ s.requests → refusal_of t ≡ refusal_of s → RefusesSo s its (call_begun k t its)
unfolding refresh_call poll_call sleep_call wake_call
call_so k s t (call.Op op) awake same refusal = op_so k s t op (refusal_of t op) (λ why e. op_caused s op why (sym (ap (λ (f : Op → Option Fault). f op) refusal) ∙ e))
call_so k s t call.Refresh awake same refusal =
    either_so t.is_awake s call.Refresh _ (refuses t fault.Asleep) (λ yes_so. λ why e. cc) (λ asleep. refuses_so s t call.Refresh fault.Asleep (asleep_cause s call.Refresh tt (sym awake ∙ asleep)))
call_so k s t call.Poll awake same refusal =
    let its : SessionState = record t { finished = [] } in
    either_so t.is_awake s call.Poll (poll_begun k its) (refuses t fault.Asleep)
    (λ yes_so. either_so t.is_orphaned s call.Poll _ (polls_at k its 0) (λ _. λ why e. cc) (λ _. polls_so k s its call.Poll 0))
    (λ asleep. refuses_so s t call.Poll fault.Asleep (asleep_cause s call.Poll tt (sym awake ∙ asleep)))
call_so k s t call.Sleep awake same refusal =
    either_so (not t.is_awake) s call.Sleep (refuses t fault.Asleep) _ (λ asleep. refuses_so s t call.Sleep fault.Asleep (asleep_cause s call.Sleep tt (sym awake ∙ negated t.is_awake asleep)))
    (λ is. either_so (length t.requests == 0) s call.Sleep _ (refuses t fault.PendingLeft) (λ _. λ why e. cc)
    (λ some. refuses_so s t call.Sleep fault.PendingLeft (left_cause s (sym awake ∙ affirmed t.is_awake is) (subst (λ (x : List PendingRequest). x ≢ []) same (some_wait t.requests some)))))
call_so k s t call.Wake awake same refusal =
    either_so t.is_awake s call.Wake (refuses t fault.Awake) _ (λ is. refuses_so s t call.Wake fault.Awake (awake_cause s (sym awake ∙ is))) (λ _. λ why e. cc)
call_so k s t call.Durable awake same refusal = λ why e. cc

-- a call that is refused before its first ask
pub begun_caused : (k : Seat) (s : SessionState) (its : Call) (why : Fault) → (session_begun k s its).step ≡ Idle (told.Refused why) → IsFirstCause s its why
begun_caused k s its why e = call_so k s (record s { asks = 0; effect = None; wants_turn = false }) its refl refl refl why e

-- and one that has a cause
if_true : (c : Bool) (a b : SessionState) → c ≡ true → (if c then a else b) ≡ a
if_true true a b e = refl
if_true false a b e = cc

if_false : (c : Bool) (a b : SessionState) → c ≡ false → (if c then a else b) ≡ b
if_false true a b e = cc
if_false false a b e = refl

step_of : (a b : SessionState) (why : Fault) → a ≡ b → b.step ≡ Idle (told.Refused why) → a.step ≡ Idle (told.Refused why)
step_of a b why same e = ap (λ (x : SessionState). x.step) same ∙ e

not_so : (c : Bool) → c ≡ false → not c ≡ true
not_so true e = cc
not_so false e = refl

is_so : (c : Bool) → c ≡ true → not c ≡ false
is_so true e = refl
is_so false e = cc

awake_unless : (s : SessionState) (its : Call) → NeedsAwake its → (HasCause s its fault.Asleep → ⊥) → s.is_awake ≡ true
awake_unless s its needs none = tested s.is_awake refl
  where
    tested : (c : Bool) → s.is_awake ≡ c → s.is_awake ≡ true
    tested true e = e
    tested false e = absurd (none (needs, e))

waits_test : (requests : List PendingRequest) → requests ≢ [] → (length requests == 0) ≡ false
waits_test [] some = absurd (some refl)
waits_test (first ∷ others) some = grind (arith, nat_tests)

op_step : (k : Seat) (s : SessionState) (op : Op) (found : Option Fault) (why : Fault) → found ≡ Some why → (op_begun k s op found).step ≡ Idle (told.Refused why)
unfolding op_begun
op_step k s op (Some its) why e = let same : its ≡ why = cc in ap (λ (x : Fault). Idle (told.Refused x)) same
op_step k s op None why e = cc

refresh_refused : (s : SessionState) (why : Fault) → IsFirstCause s call.Refresh why → (refresh_call s).step ≡ Idle (told.Refused why)
unfolding refresh_call
refresh_refused s fault.Asleep its = step_of _ (refuses s fault.Asleep) fault.Asleep (if_false s.is_awake _ (refuses s fault.Asleep) its.its_cause.1) refl
refresh_refused s fault.ValueReserved its = absurd its.its_cause
refresh_refused s fault.PendingFull its = absurd its.its_cause.0
refresh_refused s fault.SerialsSpent its = absurd its.its_cause.0
refresh_refused s fault.PendingLeft its = absurd (let e = its.its_cause.0 in cc)
refresh_refused s fault.Awake its = absurd (let e = its.its_cause.0 in cc)
refresh_refused s why its = absurd its.its_cause

poll_refused : (k : Seat) (s : SessionState) (why : Fault) → IsFirstCause s call.Poll why → (poll_call k s).step ≡ Idle (told.Refused why)
unfolding poll_call
poll_refused k s fault.Asleep its = step_of _ (refuses s fault.Asleep) fault.Asleep (if_false s.is_awake (poll_begun k (record s { finished = [] })) (refuses s fault.Asleep) its.its_cause.1) refl
poll_refused k s fault.ValueReserved its = absurd its.its_cause
poll_refused k s fault.PendingFull its = absurd its.its_cause.0
poll_refused k s fault.SerialsSpent its = absurd its.its_cause.0
poll_refused k s fault.PendingLeft its = absurd (let e = its.its_cause.0 in cc)
poll_refused k s fault.Awake its = absurd (let e = its.its_cause.0 in cc)
poll_refused k s why its = absurd its.its_cause

sleep_refused : (s : SessionState) (why : Fault) → IsFirstCause s call.Sleep why → (sleep_call s).step ≡ Idle (told.Refused why)
unfolding sleep_call
sleep_refused s fault.Asleep its = step_of _ (refuses s fault.Asleep) fault.Asleep (if_true (not s.is_awake) (refuses s fault.Asleep) _ (not_so s.is_awake its.its_cause.1)) refl
sleep_refused s fault.ValueReserved its = absurd its.its_cause
sleep_refused s fault.PendingFull its = absurd its.its_cause.0
sleep_refused s fault.SerialsSpent its = absurd its.its_cause.0
sleep_refused s fault.PendingLeft its =
    let awake = awake_unless s call.Sleep tt (its.first fault.Asleep (omega arith)) in
    step_of _ (refuses s fault.PendingLeft) fault.PendingLeft
    (if_false (not s.is_awake) (refuses s fault.Asleep) _ (is_so s.is_awake awake) ∙ if_false (length s.requests == 0) _ (refuses s fault.PendingLeft) (waits_test s.requests its.its_cause.1)) refl
sleep_refused s fault.Awake its = absurd (let e = its.its_cause.0 in cc)
sleep_refused s why its = absurd its.its_cause

wake_refused : (s : SessionState) (why : Fault) → IsFirstCause s call.Wake why → (wake_call s).step ≡ Idle (told.Refused why)
unfolding wake_call
wake_refused s fault.Asleep its = absurd its.its_cause.0
wake_refused s fault.ValueReserved its = absurd its.its_cause
wake_refused s fault.PendingFull its = absurd its.its_cause.0
wake_refused s fault.SerialsSpent its = absurd its.its_cause.0
wake_refused s fault.PendingLeft its = absurd (let e = its.its_cause.0 in cc)
wake_refused s fault.Awake its = step_of _ (refuses s fault.Awake) fault.Awake (if_true s.is_awake (refuses s fault.Awake) _ its.its_cause.1) refl
wake_refused s why its = absurd its.its_cause

none_durable : (s : SessionState) (why : Fault) → HasCause s call.Durable why → ⊥
none_durable s fault.Asleep cause = cause.0
none_durable s fault.ValueReserved cause = cause
none_durable s fault.PendingFull cause = cause.0
none_durable s fault.SerialsSpent cause = cause.0
none_durable s fault.PendingLeft cause = let e = cause.0 in cc
none_durable s fault.Awake cause = let e = cause.0 in cc
none_durable s why cause = cause

call_refused : (k : Seat) (s : SessionState) (its : Call) (why : Fault) → IsFirstCause s its why → (call_begun k s its).step ≡ Idle (told.Refused why)
call_refused k s (call.Op op) why cause = op_step k s op (refusal_of s op) why (op_refused s op why cause)
call_refused k s call.Refresh why cause = refresh_refused s why cause
call_refused k s call.Poll why cause = poll_refused k s why cause
call_refused k s call.Sleep why cause = sleep_refused s why cause
call_refused k s call.Wake why cause = wake_refused s why cause
call_refused k s call.Durable why cause = absurd (none_durable s why cause.its_cause)

cause_kept : (s t : SessionState) (its : Call) (why : Fault) → t.is_awake ≡ s.is_awake → t.requests ≡ s.requests → t.serial ≡ s.serial → HasCause s its why → HasCause t its why
cause_kept s t its fault.Asleep awake same serial cause = (cause.0, awake ∙ cause.1)
cause_kept s t its fault.ValueReserved awake same serial cause = cause
cause_kept s t its fault.PendingFull awake same serial cause = (cause.0, ap (λ (x : List PendingRequest). length x) same ∙ cause.1)
cause_kept s t its fault.SerialsSpent awake same serial cause = (cause.0, serial ∙ cause.1)
cause_kept s t its fault.PendingLeft awake same serial cause = (cause.0, subst (λ (x : List PendingRequest). x ≢ []) (sym same) cause.1)
cause_kept s t its fault.Awake awake same serial cause = (cause.0, awake ∙ cause.1)
cause_kept s t its why awake same serial cause = cause

pub begun_refused : (k : Seat) (s : SessionState) (its : Call) (why : Fault) → IsFirstCause s its why → (session_begun k s its).step ≡ Idle (told.Refused why)
begun_refused k s its why cause =
    let t : SessionState = record s { asks = 0; effect = None; wants_turn = false } in
    call_refused k t its why (record {
      its_cause = cause_kept s t its why refl refl refl cause.its_cause;
      first = λ other less has. cause.first other less (cause_kept t s its other refl refl refl has);
    })
