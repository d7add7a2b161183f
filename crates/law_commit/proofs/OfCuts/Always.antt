-- What a session tells in its cut words and its owing word stands from the first moment on, if it stood as the life began.
use Rattle.std.proofs.Common.{◌≡◌, ◌<◌, ◌-◌, ℕ, List, [], ◌∷◌, refl, arith, ap, subst, Bool, true, false}
use Rattle.std.specs.Prelude.{◌==◌, if◌then◌else◌, Option, Some}
use Rattle.std.proofs.lemmas.Bool.Decides.{nat_tests}
use Rattle.fkv_plane.specs.declared.asks.Ask.{Ask}
use Rattle.fkv_plane.specs.declared.asks.Ask.TheVariants.{Store}
use Rattle.fkv_plane.specs.declared.places.SessionWord.TheVariants as own
use Rattle.fkv_plane.specs.Asked.{word_at}
use Rattle.fkv_plane.specs.Passing.{passed}
use Rattle.fkv_plane.specs.Places.{session_place}
use Rattle.law_refine.specs.Below.fkv_session.Told.{Told}
use Rattle.law_refine.specs.Below.fkv_session.Told.TheVariants as told
use Rattle.law_refine.specs.Below.fkv_session.Catching.{Catching}
use Rattle.law_refine.specs.Below.fkv_session.Catching.TheVariants as catching
use Rattle.law_refine.specs.Below.fkv_session.Sitting.{Sitting}
use Rattle.law_refine.specs.Below.fkv_session.Sitting.TheVariants.{Idle, Attempts, CatchesUp, ClearsMail, Polls, StoresOwing, Turns, StoresCut, Leaves, LoadsDurable}
use Rattle.law_refine.specs.Below.fkv_session.CatchingUp.{catching_ask, cut_at, cut_of, owing}
use Rattle.law_refine.specs.Below.fkv_session.InOrder.{AreToldInOrder, HasTold, TellsCut, TellsOwing, taken_at}
use Rattle.law_refine.specs.Below.fkv_session.Sessions.{SessionState, Seat, IsOpened, is_busy, sitting_ask}
use Rattle.law_refine.specs.Below.fkv_session.SessionRun.{SessionEvent, session_run}
use Rattle.law_refine.specs.Below.fkv_session.Words.{left_with, stored_last}
use Rattle.law_refine.proofs.Below.fkv_session.Shown.{IsCatching, IsMarked, StepMarks, event_marks}
use Rattle.law_refine.specs.Below.fkv_world.Opened.{HasBecome}
use Rattle.law_refine.specs.Below.fkv_world.OwnEvents.{session_events}
use Rattle.law_refine.specs.Below.fkv_world.Runs.{World}
use Rattle.law_refine.specs.Below.fkv_world.World.{Event, seat_at}
use Rattle.law_refine.proofs.Below.law_world.OfSessions.OwnRun.{of_run, opened_so, seated}
use Rattle.law_commit.specs.Cuts.{HasItsWords, ShowCuts, ShowsCut, life_leaving, serial_before, serial_leaving, stored_by_session, word_now}
use Rattle.law_commit.proofs.OfCuts.Marks.{life_marks}
use Rattle.law_commit.proofs.OfCuts.Told.{told_in_order}

-- the same by the values of a moment: what is asked, what is taken up, and the requests
data OrderOf (n : ℕ) (ask : Ask Told) (version : ℕ) (owed : ℕ) (words : ℕ → ℕ) (serial : ℕ) : Type 0 where
  AsksCut : ask ≡ Store (session_place n (cut_of (version - 1))) (cut_at serial (version - 1)) → OrderOf n ask version owed words serial
  AsksOwing : words (session_place n (cut_of (version - 1))) ≡ cut_at serial (version - 1) → ask ≡ Store (session_place n own.Owing) owed → OrderOf n ask version owed words serial
  AllTold : words (session_place n (cut_of (version - 1))) ≡ cut_at serial (version - 1) → words (session_place n own.Owing) ≡ owed → OrderOf n ask version owed words serial

-- a version is the same as itself
itself : (n : ℕ) → (n == n) ≡ true
itself n = grind (arith, nat_tests)

-- which serial it is
left_some : (same : Bool) (now before : ℕ) → left_with same now (Some before) ≡ Some (if same then before else now)
left_some true now before = refl
left_some false now before = refl

module _ (k : Seat) (words : ℕ → ℕ) (before : ℕ) (s : SessionState) where
  abbrev leaving : Sitting → ℕ
  leaving step = if (taken_at s step).version.0 == s.seen.version.0 then before else s.serial

  abbrev OrderAt : Sitting → Type 0
  OrderAt step = OrderOf k.number (sitting_ask k s step) (taken_at s step).version.0 (owing (taken_at s step) s.requests) words (leaving step)

  -- where it goes by what it has taken up
  stays : (ask : Ask Told) → IsMarked k.number words (Some before) s.seen.version.0 s.requests
      → OrderOf k.number ask s.seen.version.0 (owing s.seen s.requests) words (if s.seen.version.0 == s.seen.version.0 then before else s.serial)
  stays ask marked =
      let same : (s.seen.version.0 == s.seen.version.0) ≡ true = itself s.seen.version.0 in
      let cut = marked.cut in
      rw same (AllTold cut.2 marked.owing)

  -- while it catches up
  not_taken : (ask : Ask Told) → s.catching.seen ≡ s.seen → IsMarked k.number words (Some before) s.seen.version.0 s.requests
      → OrderOf k.number ask s.catching.seen.version.0 (owing s.catching.seen s.requests) words (if s.catching.seen.version.0 == s.seen.version.0 then before else s.serial)
  not_taken ask e marked = rw e (stays ask marked)

  taken : (ask : Ask Told) → IsMarked k.number words (left_with (s.catching.seen.version.0 == s.seen.version.0) s.serial (Some before)) s.catching.seen.version.0 s.requests
      → OrderOf k.number ask s.catching.seen.version.0 (owing s.catching.seen s.requests) words (if s.catching.seen.version.0 == s.seen.version.0 then before else s.serial)
  taken ask marked =
      let its : IsMarked k.number words (Some (if s.catching.seen.version.0 == s.seen.version.0 then before else s.serial)) s.catching.seen.version.0 s.requests =
      subst (λ (left : Option ℕ). IsMarked k.number words left s.catching.seen.version.0 s.requests) (left_some (s.catching.seen.version.0 == s.seen.version.0) s.serial before) marked in
      let cut = its.cut in
      AllTold cut.2 its.owing

  catch_order : (step : Catching) → IsCatching k.number words (Some before) (record s { catching = record s.catching { step = step } })
      → OrderOf k.number (passed (catching_ask k.places k.number s.catching s.requests step) told.Slept) s.catching.seen.version.0 (owing s.catching.seen s.requests) words (if s.catching.seen.version.0 == s.seen.version.0 then before else s.serial)
  unfolding catching_ask passed
  catch_order catching.Refreshes its = not_taken _ its.at.0 its.at.1
  catch_order catching.Protects its = not_taken _ its.at.0 its.at.1
  catch_order catching.StoresCut its =
      let other : (s.catching.seen.version.0 == s.seen.version.0) ≡ false = its.at.0 in
      rw other (AsksCut (ap (λ (x : ℕ). Store (session_place k.number (cut_of (s.catching.seen.version.0 - 1))) (cut_at x (s.catching.seen.version.0 - 1))) its.serial))
  catch_order catching.StoresOwing its =
      let other : (s.catching.seen.version.0 == s.seen.version.0) ≡ false = its.at.0 in
      rw other (AsksOwing its.at.3 refl)
  catch_order catching.Ended its = taken _ its.at
  catch_order (catching.Latches index) its = taken _ its.at
  catch_order catching.Finishes its = taken _ its.at

  -- in each step
  step_order : (step : Sitting) → StepMarks k words (Some before) s step → OrderAt step
  unfolding sitting_ask
  step_order (Attempts has_shifted) marks = stays _ marks.0
  step_order (CatchesUp cause) marks = catch_order s.catching.step marks
  step_order (Polls index) marks = stays _ marks.0
  step_order (StoresOwing index) marks = let same : (s.seen.version.0 == s.seen.version.0) ≡ true = itself s.seen.version.0 in rw same (AsksOwing marks.2 refl)
  step_order (Turns its) marks = stays _ marks.0
  step_order (Idle its) marks = stays _ marks
  step_order ClearsMail marks = stays _ marks
  step_order StoresCut marks = stays _ marks
  step_order Leaves marks = stays _ marks
  step_order LoadsDurable marks = stays _ marks

  -- as it is said
  said_order : OrderAt s.step → AreToldInOrder k s words (serial_leaving s before)
  said_order (AsksCut asks) = TellsCut asks
  said_order (AsksOwing cut asks) = TellsOwing cut asks
  said_order (AllTold cut owed) = HasTold cut owed

-- ---- at each moment of a run
opening_marks : (k : Seat) (words : ℕ → ℕ) (s : SessionState) (step : Sitting) → is_busy step ≡ false → s.requests ≡ [] → ShowsCut k s words → StepMarks k words (Some s.serial) s step
opening_marks k words s (Idle its) idle none shows = record { cut = (shows.version.0, shows.version.1, shows.cut); owing = rw none shows.owing }
opening_marks k words s step idle none shows = cc

pub run_marks : (k : Seat) (first : SessionState) (f : ℕ → ℕ) (events : List SessionEvent) → IsOpened first → k.number < k.places.sessions → ShowsCut k first f
    → StepMarks k (λ place. stored_last k first f events place) (Some (serial_before k first events)) (session_run k first events) (session_run k first events).step
unfolding session_run stored_last serial_before
run_marks k first f [] opened some shows = opening_marks k f first first.step opened.none_in_hand opened.none_wait shows
run_marks k first f (event ∷ before) opened some shows =
    let s : SessionState = session_run k first before in
    let a : SessionState = session_run k first (event ∷ before) in
    let left : Option ℕ = Some (serial_before k first before) in
    subst (λ (x : Option ℕ). StepMarks k (λ place. stored_last k first f (event ∷ before) place) x a a.step) (left_some (a.seen.version.0 == s.seen.version.0) s.serial (serial_before k first before))
    (event_marks k (λ place. stored_last k first f before place) left s event some (run_marks k first f before opened some shows))

run_order : (k : Seat) (first : SessionState) (f : ℕ → ℕ) (events : List SessionEvent) → IsOpened first → k.number < k.places.sessions → ShowsCut k first f
    → AreToldInOrder k (session_run k first events) (λ place. stored_last k first f events place) (serial_leaving (session_run k first events) (serial_before k first events))
run_order k first f events opened some shows =
    let s : SessionState = session_run k first events in
    said_order k (λ place. stored_last k first f events place) (serial_before k first events) s (step_order k (λ place. stored_last k first f events place) (serial_before k first events) s s.step (run_marks k first f events opened some shows))

-- ---- in every life
pub always_told : (opening : World) (events : List Event) (number : ℕ) (first its : SessionState) → HasBecome opening events number first its → HasItsWords opening.now → ShowCuts opening.now
    → AreToldInOrder (seat_at opening.now number) its (λ place. word_now opening events place) (life_leaving opening number first events its)
always_told opening events number first its became words shows =
    let k : Seat = seat_at opening.now number in
    let own : List SessionEvent = session_events opening number events in
    told_in_order k its (λ place. word_now opening events place) (λ place. stored_by_session opening number first events place)
    (λ place mark. life_marks opening events number first place became.opened words became.was mark) (life_leaving opening number first events its)
    (of_run (λ s. AreToldInOrder k s (λ place. stored_by_session opening number first events place) (serial_leaving s (serial_before k first own))) opening events number first its became
    (run_order k first (λ at. word_at opening.now.words at) own (opened_so opening events number first its became) (seated opening events number first its became) (shows number first became.was)))
