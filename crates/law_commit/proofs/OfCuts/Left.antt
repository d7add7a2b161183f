-- The serial at which a session has left the version before its own is its point of that version.
use Rattle.std.proofs.Common.{◌≡◌, ◌⊎◌, ◌≤◌, ◌<◌, ◌+◌, ◌-◌, inl, inr, ℕ, ◌∙◌, List, [], ◌∷◌, refl, arith, sym, ap, Bool, true, false}
use Rattle.std.specs.Prelude.{◌==◌, nat_le, if◌then◌else◌}
use Rattle.std.proofs.lemmas.Bool.Decides.{nat_tests}
use Rattle.law_refine.specs.Below.fkv_session.Replies.{op_called}
use Rattle.law_refine.specs.Below.fkv_session.Sessions.{SessionState, Seat, IsOpened}
use Rattle.law_refine.specs.Below.fkv_session.SessionRun.{SessionEvent, Begins, Gets, Replies, session_run}
use Rattle.law_refine.specs.Below.fkv_session.Versions.{IsVersion, TakenAt, versions_taken}
use Rattle.law_refine.proofs.Below.fkv_session.Shown.{run_call, run_version}
use Rattle.law_refine.specs.Below.fkv_world.Opened.{HasBecome}
use Rattle.law_refine.specs.Below.fkv_world.OwnEvents.{session_events}
use Rattle.law_refine.specs.Below.fkv_world.Runs.{World}
use Rattle.law_refine.specs.Below.fkv_world.World.{Event, seat_at}
use Rattle.law_refine.proofs.Below.law_world.OfSessions.OwnRun.{of_run, opened_so}
use Rattle.law_commit.specs.Accepted.{HasRisingVersion, count_upto, point, versions_of}
use Rattle.law_commit.specs.LastSerials.{serial_at, serial_of}
use Rattle.law_commit.specs.Cuts.{serial_before}
use Rattle.law_commit.proofs.Counted.{Takes, all_upto, found_so, none_taken, one_taken, run_counted, run_moves, run_risen}

-- an update of a version isn't one of the versions before it
none_upto : (version : ℕ) (before : List ℕ) → 0 < version → count_upto (version - 1) (version ∷ before) ≡ count_upto (version - 1) before
none_upto version before some = let later : nat_le version (version - 1) ≡ false = grind (arith, nat_tests, some) in rw later refl

-- so none that comes is counted
same_count : (k : Seat) (first : SessionState) (event : SessionEvent) (before : List SessionEvent) → IsOpened first → 0 < (session_run k first (event ∷ before)).seen.version.0
    → ((session_run k first (event ∷ before)).serial ≡ (session_run k first before).serial) ⊎ Takes (session_run k first before) event (session_run k first (event ∷ before)).serial
    → count_upto ((session_run k first (event ∷ before)).seen.version.0 - 1) (versions_of (versions_taken k first (event ∷ before))) ≡ count_upto ((session_run k first (event ∷ before)).seen.version.0 - 1) (versions_of (versions_taken k first before))
unfolding versions_taken op_called
same_count k first event before opened some (inl same) =
    let a : SessionState = session_run k first (event ∷ before) in
    ap (λ (x : List TakenAt). count_upto (a.seen.version.0 - 1) (versions_of x)) (none_taken a (session_run k first before).serial _ (versions_taken k first before) same)
same_count k first (Replies reply) before opened some (inr takes) =
    let a : SessionState = session_run k first (Replies reply ∷ before) in
    let more = one_taken a (session_run k first before).serial _ (op_called k first before) (versions_taken k first before) takes.2 (run_call k first before takes.0 opened takes.1).op in
    ap (λ (x : List ℕ). count_upto (a.seen.version.0 - 1) x) more ∙ none_upto a.seen.version.0 (versions_of (versions_taken k first before)) some
same_count k first (Begins call) before opened some (inr takes) = absurd takes
same_count k first (Gets action) before opened some (inr takes) = absurd takes

-- over a run
left_by : (k : Seat) (first : SessionState) (event : SessionEvent) (before : List SessionEvent) (same : Bool) → IsOpened first → HasRisingVersion k first before
    → (session_run k first before).seen.version.0 ≤ (session_run k first (event ∷ before)).seen.version.0
    → ((session_run k first (event ∷ before)).seen.version.0 == (session_run k first before).seen.version.0) ≡ same
    → serial_before k first before ≡ first.serial + count_upto ((session_run k first before).seen.version.0 - 1) (versions_of (versions_taken k first before))
    → (if same then serial_before k first before else (session_run k first before).serial) ≡ first.serial + count_upto ((session_run k first (event ∷ before)).seen.version.0 - 1) (versions_of (versions_taken k first before))
left_by k first event before true opened rises up e was =
    let same : (session_run k first before).seen.version.0 ≡ (session_run k first (event ∷ before)).seen.version.0 = grind (arith, nat_tests, e) in
    was ∙ ap (λ (version : ℕ). first.serial + count_upto (version - 1) (versions_of (versions_taken k first before))) same
left_by k first event before false opened rises up e was =
    let s : SessionState = session_run k first before in
    let a : SessionState = session_run k first (event ∷ before) in
    let later : s.seen.version.0 ≤ a.seen.version.0 - 1 = grind (arith, nat_tests, e, up) in
    run_counted k first before opened ∙ ap (λ (n : ℕ). first.serial + n) (sym (all_upto s.seen.version.0 (a.seen.version.0 - 1) (versions_of (versions_taken k first before)) later (run_risen k first before opened rises)))

nothing : (k : Seat) (first : SessionState) → first.serial ≡ first.serial + count_upto ((session_run k first []).seen.version.0 - 1) (versions_of (versions_taken k first []))
unfolding versions_taken
nothing k first = omega arith

run_left : (k : Seat) (first : SessionState) (events : List SessionEvent) → IsOpened first → IsVersion first.seen.version.0 → HasRisingVersion k first events
    → serial_before k first events ≡ first.serial + count_upto ((session_run k first events).seen.version.0 - 1) (versions_of (versions_taken k first events))
unfolding serial_before HasRisingVersion
run_left k first [] opened fits rises = nothing k first
run_left k first (event ∷ before) opened fits rises =
    let a : SessionState = session_run k first (event ∷ before) in
    left_by k first event before (a.seen.version.0 == (session_run k first before).seen.version.0) opened rises.1 rises.0 refl (run_left k first before opened fits rises.1)
    ∙ ap (λ (n : ℕ). first.serial + n) (sym (same_count k first event before opened (run_version k first (event ∷ before) opened fits).0 (run_moves k first event before)))

-- of a life
pub life_left : (opening : World) (events : List Event) (session : ℕ) (first its : SessionState) → HasBecome opening events session first its → IsVersion first.seen.version.0
    → HasRisingVersion (seat_at opening.now session) first (session_events opening session events)
    → serial_before (seat_at opening.now session) first (session_events opening session events) ≡ point opening events session (its.seen.version.0 - 1)
life_left opening events session first its became fits rises =
    let k : Seat = seat_at opening.now session in
    let own : List SessionEvent = session_events opening session events in
    let found = found_so opening events session first became.was in
    let start : serial_at opening.now session ≡ first.serial = ap serial_of became.was in
    rw (found, start)
    (of_run (λ s. serial_before k first own ≡ first.serial + count_upto (s.seen.version.0 - 1) (versions_of (versions_taken k first own))) opening events session first its became
    (run_left k first own (opened_so opening events session first its became) fits rises))
