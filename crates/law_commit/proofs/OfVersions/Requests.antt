-- The updates of a session are of versions from the one with which its life began up to its own.
use Rattle.std.proofs.Common.{◌≡◌, ℕ, zero, suc, ◌≤◌, inl, inr, ◌∙◌, List, [], ◌∷◌, refl, arith, ap, sym, subst, Bool, true, false}
use Rattle.std.specs.Prelude.{⊤, ◌==◌, Option, Some, None, slice_get}
use Rattle.fkv_base.specs.declared.numbers.Version.{Version}
use Rattle.fkv_map.specs.declared.operations.Op.{Op}
use Rattle.law_refine.specs.Below.fkv_ops.Requests.{is_read}
use Rattle.law_refine.specs.Below.fkv_pending.PendingRequest.{PendingRequest}
use Rattle.law_refine.specs.Below.fkv_pending.RequestName.{RequestName}
use Rattle.law_refine.specs.Below.fkv_pending.RequestName.TheVariants.{Update, Read}
use Rattle.law_refine.specs.Below.fkv_session.Sitting.{Sitting}
use Rattle.law_refine.specs.Below.fkv_session.Sitting.TheVariants.{Attempts, Polls}
use Rattle.law_refine.specs.Below.fkv_session.Replies.{op_called}
use Rattle.law_refine.specs.Below.fkv_session.Sessions.{IsOpened, Seat, SessionState}
use Rattle.law_refine.specs.Below.fkv_session.SessionRun.{SessionEvent, session_run}
use Rattle.law_refine.specs.Below.fkv_session.Versions.{AreAsTaken, IsAsTaken, IsAttemptOfCall, IsAttemptOfRequest, IsVersion, TakenAt, WasTakenAt, taken_at_after, versions_taken, with_taken_at}
use Rattle.law_refine.proofs.Below.fkv_session.Shown.{run_call, run_request, run_taken, run_version}
use Rattle.law_refine.specs.Below.fkv_world.Opened.{HasBecome}
use Rattle.law_refine.specs.Below.fkv_world.OwnEvents.{session_events}
use Rattle.law_refine.specs.Below.fkv_world.Runs.{World}
use Rattle.law_refine.specs.Below.fkv_world.World.{Event, seat_at}
use Rattle.law_refine.proofs.Below.law_world.OfSessions.OwnRun.{of_run, opened_so, to_run}
use Rattle.law_refine.specs.Below.law_world.Guarded.Shows as guard
use Rattle.law_refine.specs.Events.Names.{AreNamedSo, is_read_name}
use Rattle.law_refine.proofs.OfEvents.RequestNames.{life_named}
use Rattle.law_commit.specs.Accepted.{HasRisingVersion}
use Rattle.law_commit.specs.PhaseVersions.{phase_version, version_said}
use Rattle.law_commit.specs.Phases.Staged.{OpensAtRest}
use Rattle.law_commit.specs.Versions.Cells.{IsFromUpto}
use Rattle.law_commit.specs.Versions.Requests.{AreUpdatesSo, AttemptsAtItsVersion, AttemptsSo, IsUpdateSo, RequestsFrom}
use Rattle.law_commit.proofs.OfPhases.LifeStages.{first_version, rising_version}

-- ---- the versions at which serials were taken
abbrev pub AllTaken : (ℕ → Type 0) → List TakenAt → Type 0
AllTaken P [] = ⊤
AllTaken P (it ∷ before) = P it.version × AllTaken P before

one_taken : (P : ℕ → Type 0) (serial version : ℕ) (op : Option Op) (before : List TakenAt) → P version → AllTaken P before → AllTaken P (with_taken_at serial version op before)
one_taken P serial version None before its all = all
one_taken P serial version (Some op) before its all = (its, all)

after_taken : (P : ℕ → Type 0) (same : Bool) (serial version : ℕ) (op : Option Op) (before : List TakenAt) → P version → AllTaken P before → AllTaken P (taken_at_after same serial version op before)
after_taken P true serial version op before its all = all
after_taken P false serial version op before its all = one_taken P serial version op before its all

-- by one event
event_taken : (P : ℕ → Type 0) (k : Seat) (first : SessionState) (event : SessionEvent) (before : List SessionEvent) → P (session_run k first (event ∷ before)).seen.version.0 → AllTaken P (versions_taken k first before)
    → AllTaken P (versions_taken k first (event ∷ before))
unfolding versions_taken
event_taken P k first event before its all =
    let a : SessionState = session_run k first (event ∷ before) in
    after_taken P (a.serial == (session_run k first before).serial) a.serial a.seen.version.0 (op_called k first (event ∷ before)) (versions_taken k first before) its all

weaker : (P Q : ℕ → Type 0) (taken : List TakenAt) → ((version : ℕ) → P version → Q version) → AllTaken P taken → AllTaken Q taken
weaker P Q [] so all = tt
weaker P Q (it ∷ before) so all = (so it.version all.0, weaker P Q before so all.1)

-- a version that there is, up to the session's
abbrev pub Is : ℕ → ℕ → ℕ → Type 0
Is low high version = IsFromUpto low high version × IsVersion version

raised : (low high more version : ℕ) → high ≤ more → Is low high version → Is low more version
raised low high more version up its = let most = its.0.1 in ((its.0.0, omega (arith, most, up)), its.1)

not_below : (low high more : ℕ) → low ≤ high → high ≤ more → low ≤ more
not_below low high more one other = omega (arith, one, other)

pub run_low : (k : Seat) (first : SessionState) (events : List SessionEvent) → HasRisingVersion k first events → first.seen.version.0 ≤ (session_run k first events).seen.version.0
unfolding HasRisingVersion session_run
run_low k first [] rises = omega arith
run_low k first (event ∷ before) rises = not_below first.seen.version.0 (session_run k first before).seen.version.0 (session_run k first (event ∷ before)).seen.version.0 (run_low k first before rises.1) rises.0

pub run_all : (k : Seat) (first : SessionState) (events : List SessionEvent) → IsOpened first → IsVersion first.seen.version.0 → HasRisingVersion k first events
    → AllTaken (Is first.seen.version.0 (session_run k first events).seen.version.0) (versions_taken k first events)
unfolding HasRisingVersion versions_taken
run_all k first [] opened fit rises = tt
run_all k first (event ∷ before) opened fit rises =
    let low : ℕ = first.seen.version.0 in
    let high : ℕ = (session_run k first (event ∷ before)).seen.version.0 in
    let its : Is low high high = ((not_below low (session_run k first before).seen.version.0 high (run_low k first before rises.1) rises.0, omega arith), run_version k first (event ∷ before) opened fit) in
    event_taken (Is low high) k first event before its
    (weaker (Is low (session_run k first before).seen.version.0) (Is low high) (versions_taken k first before) (λ version. raised low (session_run k first before).seen.version.0 high version rises.0) (run_all k first before opened fit rises.1))

-- ---- so those of the updates that wait
was_taken : (low high serial : ℕ) (op : Op) (version : ℕ) (taken : List TakenAt) → AllTaken (Is low high) taken → WasTakenAt taken serial op version → IsFromUpto low high version
was_taken low high serial op version [] all was = absurd was
was_taken low high serial op version (it ∷ before) all (inl its) = subst (IsFromUpto low high) (sym (its.1.1 all.0.1)) all.0.0
was_taken low high serial op version (it ∷ before) all (inr was) = was_taken low high serial op version before all.1 was

named_so : (low high : ℕ) (pending : PendingRequest) (name : RequestName) (taken : List TakenAt) → is_read_name name ≡ is_read pending.request.op → AllTaken (Is low high) taken
    → IsAsTaken taken name pending.request.op pending.request.version.0 → IsUpdateSo (IsFromUpto low high) pending
named_so low high pending (Update serial) taken named all was = λ updates. was_taken low high serial.0 pending.request.op pending.request.version.0 taken all was
named_so low high pending (Read ticket) taken named all was = λ updates. let clash : true ≡ false = named ∙ updates in cc

waiting_so : (low high : ℕ) (requests : List PendingRequest) (taken : List TakenAt) → AreNamedSo requests → AllTaken (Is low high) taken → AreAsTaken taken requests → AreUpdatesSo (IsFromUpto low high) requests
waiting_so low high [] taken named all are = tt
waiting_so low high (pending ∷ rest) taken named all are = (named_so low high pending pending.name taken named.0 all are.0, waiting_so low high rest taken named.1 all are.1)

pub update_at : (P : ℕ → Type 0) (requests : List PendingRequest) (i : ℕ) (pending : PendingRequest) → slice_get requests i ≡ Some pending → AreUpdatesSo P requests → IsUpdateSo P pending
update_at P [] i pending got all = cc
update_at P (o ∷ rest) zero pending got all = let same : o ≡ pending = cc in subst (IsUpdateSo P) same all.0
update_at P (o ∷ rest) (suc i) pending got all = update_at P rest i pending got all.1

pub all_so : (P : ℕ → Type 0) (requests : List PendingRequest) → ((i : ℕ) (pending : PendingRequest) → slice_get requests i ≡ Some pending → IsUpdateSo P pending) → AreUpdatesSo P requests
all_so P [] each = tt
all_so P (pending ∷ rest) each = (each zero pending refl, all_so P rest (λ i its got. each (suc i) its got))

-- ---- and of the one that is attempted
pub same_version : (v w : Version) → v.0 ≡ w.0 → v ≡ w
same_version v w e = let make : ℕ → Version = λ n. record { 0 = n } in ap make e

pub polled_so : (P : ℕ → Type 0) (requests : List PendingRequest) (i : ℕ) (pending : PendingRequest) → AreUpdatesSo P requests → IsAttemptOfRequest requests i pending → IsUpdateSo P pending
polled_so P requests i pending all its =
    λ updates. subst (λ (v : Version). P v.0) (sym its.version) (update_at P requests i its.request its.waits all (sym (ap is_read its.op) ∙ updates))

called_at : (s : SessionState) (called : Option Op) → IsVersion s.seen.version.0 → IsAttemptOfCall s called s.attempt.pending → s.attempt.pending.request.version ≡ s.seen.version
called_at s called fit its = same_version s.attempt.pending.request.version s.seen.version (its.version fit)

called_so : (low : ℕ) (s : SessionState) → low ≤ s.seen.version.0 → s.attempt.pending.request.version ≡ s.seen.version → IsUpdateSo (IsFromUpto low s.seen.version.0) s.attempt.pending
called_so low s up same = λ updates. subst (λ (v : Version). IsFromUpto low s.seen.version.0 v.0) (sym same) (up, omega arith)

-- by where it is
record Attempted (low : ℕ) (s : SessionState) (step : Sitting) : Type 0 where
  so : AttemptsSo (IsFromUpto low s.seen.version.0) s step
  own : AttemptsAtItsVersion s step

attempted : (k : Seat) (first : SessionState) (events : List SessionEvent) (step : Sitting) → IsOpened first → IsVersion first.seen.version.0 → HasRisingVersion k first events
    → AreUpdatesSo (IsFromUpto first.seen.version.0 (session_run k first events).seen.version.0) (session_run k first events).requests → (session_run k first events).step ≡ step
    → Attempted first.seen.version.0 (session_run k first events) step
attempted k first events (Attempts has_shifted) opened fit rises all at =
    let s : SessionState = session_run k first events in
    let same = called_at s _ (run_version k first events opened fit) (run_call k first events has_shifted opened at) in
    record { so = called_so first.seen.version.0 s (run_low k first events rises) same; own = same }
attempted k first events (Polls i) opened fit rises all at =
    let s : SessionState = session_run k first events in
    record { so = polled_so (IsFromUpto first.seen.version.0 s.seen.version.0) s.requests i s.attempt.pending all (run_request k first events i opened at); own = tt }
attempted k first events step opened fit rises all at = record { so = tt; own = tt }

run_requests : (k : Seat) (first : SessionState) (events : List SessionEvent) → IsOpened first → IsVersion first.seen.version.0 → HasRisingVersion k first events → AreNamedSo (session_run k first events).requests
    → RequestsFrom first.seen.version.0 (session_run k first events)
run_requests k first events opened fit rises named =
    let s : SessionState = session_run k first events in
    let all = waiting_so first.seen.version.0 s.seen.version.0 s.requests (versions_taken k first events) named (run_all k first events opened fit rises) (run_taken k first events opened) in
    let its = attempted k first events s.step opened fit rises all refl in
    record { waiting = all; attempted = its.so; in_hand = its.own }

-- ---- over a life
pub first_said : (opening : World) (session : ℕ) (first : SessionState) → OpensAtRest opening.now → slice_get opening.now.sessions session ≡ Some first → first.seen.version.0 ≡ phase_version opening.now.words
first_said opening session first rests found = rests.seen session first found ∙ sym (ap version_said rests.says)

pub life_requests : (opening : World) (start : ℕ) (events : List Event) (session : ℕ) (first its : SessionState) → guard.IsOpened opening.now start → OpensAtRest opening.now → HasBecome opening events session first its
    → RequestsFrom (phase_version opening.now.words) its
life_requests opening start events session first its guarded rests became =
    let k : Seat = seat_at opening.now session in
    let own : List SessionEvent = session_events opening session events in
    let named = to_run (λ (s : SessionState). AreNamedSo s.requests) opening events session first its became (life_named opening start events session its guarded became.is_now).waiting in
    subst (λ (low : ℕ). RequestsFrom low its) (first_said opening session first rests became.was)
    (of_run (RequestsFrom first.seen.version.0) opening events session first its became
    (run_requests k first own (opened_so opening events session first its became) (first_version opening session first its events became rests) (rising_version opening start events session first its became guarded rests) named))
