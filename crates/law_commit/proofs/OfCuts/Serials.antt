-- No cut word of a session tells a serial above the session's.
use Rattle.std.proofs.Common.{◌≡◌, ◌⊎◌, ◌≤◌, ◌<◌, ◌%◌, ◌^◌, inl, inr, ℕ, List, [], ◌∷◌, refl, arith, sym, ap, subst, Bool, true, false}
use Rattle.std.specs.Prelude.{◌==◌, if◌then◌else◌}
use Rattle.std.proofs.Math.Nat.{min-le_left, min-le_right}
use Rattle.std.proofs.lemmas.Bool.Decides.{nat_tests}
use Rattle.fkv_base.specs.Limits.{last_serial}
use Rattle.fkv_plane.specs.declared.asks.Ask.{Ask}
use Rattle.fkv_plane.specs.declared.asks.Ask.TheVariants.{Load, Store, Swap, Cas, Add, Max, Put, Take, Done}
use Rattle.fkv_plane.specs.declared.places.SessionWord.TheVariants as own
use Rattle.fkv_plane.specs.Places.{session_place}
use Rattle.law_refine.specs.Below.fkv_commit.Cuts.{is_cut, serial_said}
use Rattle.law_refine.specs.Below.fkv_session.Told.{Told}
use Rattle.law_refine.specs.Below.fkv_session.CatchingUp.{cut_at}
use Rattle.law_refine.specs.Below.fkv_session.Sessions.{SessionState, Seat, IsOpened, session_ask}
use Rattle.law_refine.specs.Below.fkv_session.SessionRun.{SessionEvent, Begins, Gets, Replies, session_run}
use Rattle.law_refine.specs.Below.fkv_session.Words.{IsMark, IsMarkStore, LeavesVersion, OwesUpdates, HasFinished, GoesToSleep, stored_behind, stored_by, stored_last}
use Rattle.law_refine.proofs.Below.fkv_session.Shown.{run_stores}
use Rattle.law_refine.specs.Below.fkv_world.Opened.{HasBecome}
use Rattle.law_refine.specs.Below.fkv_world.OwnEvents.{session_events}
use Rattle.law_refine.specs.Below.fkv_world.Runs.{World}
use Rattle.law_refine.specs.Below.fkv_world.World.{Event, seat_at}
use Rattle.fkv_plane.specs.Asked.{word_at}
use Rattle.law_refine.proofs.Below.law_world.OfSessions.OwnRun.{of_run, opened_so, seated}
use Rattle.law_commit.specs.Cuts.{HasItsWords, IsCutPlace, ShowCuts, word_now}
use Rattle.law_commit.proofs.Counted.{Takes, run_moves}
use Rattle.law_commit.proofs.OfCuts.Marks.{life_marks}

-- what a word tells that has a serial in its low bits
pub low_said : (word serial : ℕ) → word % 2 ^ 48 ≤ serial → serial_said word ≤ serial
unfolding serial_said
low_said word serial low = by_form (is_cut word)
  where
    by_form : (cut : Bool) → (if cut then word % 2 ^ 48 else 0) ≤ serial
    by_form true = low
    by_form false = omega arith

pub said_most : (serial version : ℕ) → serial_said (cut_at serial version) ≤ serial
said_most serial version =
    let low = min-le_left serial last_serial in
    let small = min-le_right serial last_serial in
    low_said (cut_at serial version) serial (omega (arith, low, small))

pub cut_is_mark : (number place : ℕ) → IsCutPlace number place → IsMark number place
cut_is_mark number place (inl even) = inl even
cut_is_mark number place (inr odd) = inr (inl odd)

-- the owing word is none
pub not_owing : (number place : ℕ) → IsCutPlace number place → place ≡ session_place number own.Owing → ⊥
not_owing number place (inl even) owing = omega (arith, even, owing)
not_owing number place (inr odd) owing = omega (arith, odd, owing)

store_most : (k : Seat) (s : SessionState) (place word : ℕ) → IsCutPlace k.number place → IsMarkStore k s place word → serial_said word ≤ s.serial
store_most k s place word cut (LeavesVersion catches other at is) = subst (λ (x : ℕ). serial_said x ≤ s.serial) (sym is) (said_most s.serial _)
store_most k s place word cut (OwesUpdates catches other at is) = absurd (not_owing k.number place cut at)
store_most k s place word cut (HasFinished stores at is) = absurd (not_owing k.number place cut at)
store_most k s place word cut (GoesToSleep sleeps at is) = subst (λ (x : ℕ). serial_said x ≤ s.serial) (sym is) (said_most s.serial _)

-- behind a reply
asked_most : (ask : Ask Told) (place before most : ℕ) → ((word : ℕ) → ask ≡ Store place word → serial_said word ≤ most) → serial_said before ≤ most → serial_said (stored_by ask place before) ≤ most
asked_most (Store at word) place before most stores was = by_place (at == place) refl
  where
    by_place : (here : Bool) → (at == place) ≡ here → serial_said (if here then word else before) ≤ most
    by_place true e = let same : at ≡ place = grind (arith, nat_tests, e) in stores word (ap (λ (x : ℕ). Store x word) same)
    by_place false e = was
asked_most (Load at) place before most stores was = was
asked_most (Swap at word) place before most stores was = was
asked_most (Cas at old new) place before most stores was = was
asked_most (Add at n) place before most stores was = was
asked_most (Max at n) place before most stores was = was
asked_most (Put slot action) place before most stores was = was
asked_most (Take slot) place before most stores was = was
asked_most (Done told) place before most stores was = was

event_most : (k : Seat) (s : SessionState) (event : SessionEvent) (place before : ℕ) → IsCutPlace k.number place → ((word : ℕ) → session_ask k s ≡ Store place word → IsMarkStore k s place word) → serial_said before ≤ s.serial
    → serial_said (stored_behind k s event place before) ≤ s.serial
event_most k s (Begins its) place before cut stores was = was
event_most k s (Replies reply) place before cut stores was = asked_most (session_ask k s) place before s.serial (λ word asks. store_most k s place word cut (stores word asks)) was
event_most k s (Gets action) place before cut stores was = was

-- the serial never falls
pub never_falls : (k : Seat) (first : SessionState) (event : SessionEvent) (before : List SessionEvent)
    → ((session_run k first (event ∷ before)).serial ≡ (session_run k first before).serial) ⊎ Takes (session_run k first before) event (session_run k first (event ∷ before)).serial
    → (session_run k first before).serial ≤ (session_run k first (event ∷ before)).serial
never_falls k first event before (inl same) = omega (arith, same)
never_falls k first (Replies reply) before (inr takes) = let next = takes.2 in omega (arith, next)
never_falls k first (Begins call) before (inr takes) = absurd takes
never_falls k first (Gets action) before (inr takes) = absurd takes

nothing : (k : Seat) (first : SessionState) (word : ℕ) → serial_said word ≤ first.serial → serial_said word ≤ (session_run k first []).serial
unfolding session_run
nothing k first word was = was

run_most : (k : Seat) (first : SessionState) (f : ℕ → ℕ) (events : List SessionEvent) (place : ℕ) → IsOpened first → k.number < k.places.sessions → IsCutPlace k.number place → serial_said (f place) ≤ first.serial
    → serial_said (stored_last k first f events place) ≤ (session_run k first events).serial
unfolding stored_last
run_most k first f [] place opened some cut was = nothing k first (f place) was
run_most k first f (event ∷ before) place opened some cut was =
    let s : SessionState = session_run k first before in
    let up = never_falls k first event before (run_moves k first event before) in
    let now = event_most k s event place (stored_last k first f before place) cut (λ word asks. run_stores k first before opened some place word asks (cut_is_mark k.number place cut)) (run_most k first f before place opened some cut was) in
    omega (arith, up, now)

-- in every life
pub life_most : (opening : World) (events : List Event) (number : ℕ) (first its : SessionState) (place : ℕ) → HasBecome opening events number first its → HasItsWords opening.now → ShowCuts opening.now → IsCutPlace number place
    → serial_said (word_now opening events place) ≤ its.serial
life_most opening events number first its place became words shows cut =
    let k : Seat = seat_at opening.now number in
    let own : List SessionEvent = session_events opening number events in
    subst (λ (word : ℕ). serial_said word ≤ its.serial) (sym (life_marks opening events number first place became.opened words became.was (cut_is_mark number place cut)))
    (of_run (λ s. serial_said (stored_last k first (λ at. word_at opening.now.words at) own place) ≤ s.serial) opening events number first its became
    (run_most k first (λ at. word_at opening.now.words at) own place (opened_so opening events number first its became) (seated opening events number first its became) cut ((shows number first became.was).serials place cut)))
