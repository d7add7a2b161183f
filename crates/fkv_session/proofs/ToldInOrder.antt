-- At every moment of a run the cut word of the version that is left comes first, and behind it the owing word.
use Rattle.std.proofs.Common.{◌≡◌, ℕ, ◌-◌, ◌<◌, ◌∙◌, List, refl, ap, sym, Bool, false}
use Rattle.std.specs.Prelude.{Option, Some, None, ◌==◌}
use Rattle.fkv_plane.specs.declared.asks.Ask.{Ask}
use Rattle.fkv_plane.specs.declared.asks.Ask.TheVariants.{Store}
use Rattle.fkv_plane.specs.declared.places.SessionWord.TheVariants as own
use Rattle.fkv_plane.specs.Places.{session_place}
use Rattle.fkv_plane.specs.Passing.{passed}
use Rattle.fkv_pending.specs.declared.pending_requests.PendingRequest.{PendingRequest}
use Rattle.fkv_session.specs.declared.answers.Told.{Told}
use Rattle.fkv_session.specs.declared.answers.Told.TheVariants as told
use Rattle.fkv_session.specs.declared.catching_up.Catching.{Catching}
use Rattle.fkv_session.specs.declared.catching_up.Catching.TheVariants as catching
use Rattle.fkv_session.specs.declared.sessions.Sitting.{Sitting}
use Rattle.fkv_session.specs.declared.sessions.Sitting.TheVariants.{Idle, Attempts, CatchesUp, ClearsMail, Polls, StoresOwing, Turns, StoresCut, Leaves, LoadsDurable}
use Rattle.fkv_session.specs.CatchingUp.{catching_ask, cut_of, cut_at, owing}
use Rattle.fkv_session.specs.Sessions.{SessionState, Seat, IsOpened, sitting_ask}
use Rattle.fkv_session.specs.SessionRun.{SessionEvent, session_run}
use Rattle.fkv_session.specs.Words.{stored_last, left_with, serial_left}
use Rattle.fkv_session.specs.InOrder.{taken_at, serial_leaving, AreToldInOrder, TellsCut, TellsOwing, HasTold}
use Rattle.fkv_session.proofs.Marked.{IsMarked, HasCut, HasOwing, CatchAt, StepMarks, same_left, owed_of}
use Rattle.fkv_session.proofs.MarkRuns.{run_marks}

-- the same by the values of a moment: what is asked, what is taken up, and the requests
data InOrderOf (n : ℕ) (ask : Ask Told) (version : ℕ) (owed : ℕ) (words : ℕ → ℕ) (serial : ℕ) : Type 0 where
  AsksCut : ask ≡ Store (session_place n (cut_of (version - 1))) (cut_at serial (version - 1)) → InOrderOf n ask version owed words serial
  AsksOwing : words (session_place n (cut_of (version - 1))) ≡ cut_at serial (version - 1) → ask ≡ Store (session_place n own.Owing) owed → InOrderOf n ask version owed words serial
  AllTold : words (session_place n (cut_of (version - 1))) ≡ cut_at serial (version - 1) → words (session_place n own.Owing) ≡ owed → InOrderOf n ask version owed words serial

abbrev InOrderAt : Seat → SessionState → Sitting → (ℕ → ℕ) → ℕ → Type 0
InOrderAt k s step words serial = InOrderOf k.number (sitting_ask k s step) (taken_at s step).version.0 (owing (taken_at s step) s.requests) words serial

cut_of_left : (n : ℕ) (words : ℕ → ℕ) (left : Option ℕ) (version serial : ℕ) → left ≡ Some serial → HasCut n words left version → words (session_place n (cut_of (version - 1))) ≡ cut_at serial (version - 1)
cut_of_left n words None version serial e has = cc
cut_of_left n words (Some its) version serial e has = let same : its ≡ serial = cc in has.2 ∙ ap (λ (x : ℕ). cut_at x (version - 1)) same

owing_of_left : (n : ℕ) (words : ℕ → ℕ) (left : Option ℕ) (version serial : ℕ) (requests : List PendingRequest) → left ≡ Some serial → HasOwing n words left version requests
    → HasOwing n words (Some serial) version requests
owing_of_left n words None version serial requests e has = cc
owing_of_left n words (Some its) version serial requests e has = has

all_told : (n : ℕ) (ask : Ask Told) (words : ℕ → ℕ) (left : Option ℕ) (version serial : ℕ) (requests : List PendingRequest) → left ≡ Some serial → IsMarked n words left version requests
    → InOrderOf n ask version (owed_of version requests) words serial
all_told n ask words left version serial requests e marked = AllTold (cut_of_left n words left version serial e marked.cut) (owing_of_left n words left version serial requests e marked.owing)

-- while it catches up
not_taken : (n : ℕ) (words : ℕ → ℕ) (left : Option ℕ) (s : SessionState) → s.catching.seen ≡ s.seen → IsMarked n words left s.seen.version.0 s.requests
    → IsMarked n words (left_with (s.catching.seen.version.0 == s.seen.version.0) s.serial left) s.catching.seen.version.0 s.requests
not_taken n words left s e marked = rw e (rw (same_left s.seen.version.0 s.serial left) marked)

left_so : (version old serial now : ℕ) (left : Option ℕ) → (version == old) ≡ false → left_with (version == old) now left ≡ Some serial → now ≡ serial
left_so version old serial now left differs e = let its : Some now ≡ Some serial = ap (λ (c : Bool). left_with c now left) (sym differs) ∙ e in cc

catch_order : (k : Seat) (words : ℕ → ℕ) (left : Option ℕ) (s : SessionState) (serial : ℕ) (step : Catching) → s.catching.serial ≡ s.serial → left_with (s.catching.seen.version.0 == s.seen.version.0) s.serial left ≡ Some serial
    → CatchAt k.number words left s.seen s.serial s.catching s.requests step
    → InOrderOf k.number (passed (catching_ask k.places k.number s.catching s.requests step) told.Slept) s.catching.seen.version.0 (owing s.catching.seen s.requests) words serial
unfolding catching_ask passed
catch_order k words left s serial catching.Refreshes same e at = all_told k.number _ words _ s.catching.seen.version.0 serial s.requests e (not_taken k.number words left s at.0 at.1)
catch_order k words left s serial catching.Protects same e at = all_told k.number _ words _ s.catching.seen.version.0 serial s.requests e (not_taken k.number words left s at.0 at.1)
catch_order k words left s serial catching.StoresCut same e at =
    let its = left_so s.catching.seen.version.0 s.seen.version.0 serial s.serial left at.0 e in
    AsksCut (ap (λ (x : ℕ). Store (session_place k.number (cut_of (s.catching.seen.version.0 - 1))) (cut_at x (s.catching.seen.version.0 - 1))) (same ∙ its))
catch_order k words left s serial catching.StoresOwing same e at =
    let its = left_so s.catching.seen.version.0 s.seen.version.0 serial s.serial left at.0 e in
    AsksOwing (at.3 ∙ ap (λ (x : ℕ). cut_at x (s.catching.seen.version.0 - 1)) its) refl
catch_order k words left s serial catching.Ended same e at = all_told k.number _ words _ s.catching.seen.version.0 serial s.requests e at
catch_order k words left s serial (catching.Latches i) same e at = all_told k.number _ words _ s.catching.seen.version.0 serial s.requests e at
catch_order k words left s serial catching.Finishes same e at = all_told k.number _ words _ s.catching.seen.version.0 serial s.requests e at

-- in each step
old_left : (version serial now : ℕ) (left : Option ℕ) → left_with (version == version) now left ≡ Some serial → left ≡ Some serial
old_left version serial now left e = sym (same_left version now left) ∙ e

step_order : (k : Seat) (words : ℕ → ℕ) (left : Option ℕ) (s : SessionState) (serial : ℕ) (step : Sitting) → left_with ((taken_at s step).version.0 == s.seen.version.0) s.serial left ≡ Some serial → StepMarks k words left s step
    → InOrderAt k s step words serial
unfolding sitting_ask
step_order k words left s serial (Attempts has_shifted) e marks = all_told k.number _ words left s.seen.version.0 serial s.requests (old_left s.seen.version.0 serial s.serial left e) marks.0
step_order k words left s serial (CatchesUp cause) e marks = catch_order k words left s serial s.catching.step marks.serial e marks.at
step_order k words left s serial (Polls i) e marks = all_told k.number _ words left s.seen.version.0 serial s.requests (old_left s.seen.version.0 serial s.serial left e) marks.0
step_order k words left s serial (StoresOwing i) e marks = AsksOwing (cut_of_left k.number words left s.seen.version.0 serial (old_left s.seen.version.0 serial s.serial left e) marks) refl
step_order k words left s serial (Turns its) e marks = all_told k.number _ words left s.seen.version.0 serial s.requests (old_left s.seen.version.0 serial s.serial left e) marks.0
step_order k words left s serial (Idle its) e marks = all_told k.number _ words left s.seen.version.0 serial s.requests (old_left s.seen.version.0 serial s.serial left e) marks
step_order k words left s serial ClearsMail e marks = all_told k.number _ words left s.seen.version.0 serial s.requests (old_left s.seen.version.0 serial s.serial left e) marks
step_order k words left s serial StoresCut e marks = all_told k.number _ words left s.seen.version.0 serial s.requests (old_left s.seen.version.0 serial s.serial left e) marks
step_order k words left s serial Leaves e marks = all_told k.number _ words left s.seen.version.0 serial s.requests (old_left s.seen.version.0 serial s.serial left e) marks
step_order k words left s serial LoadsDurable e marks = all_told k.number _ words left s.seen.version.0 serial s.requests (old_left s.seen.version.0 serial s.serial left e) marks

-- as it is said
said_order : (k : Seat) (s : SessionState) (words : ℕ → ℕ) (serial : ℕ) → InOrderAt k s s.step words serial → AreToldInOrder k s words serial
said_order k s words serial (AsksCut asks) = TellsCut asks
said_order k s words serial (AsksOwing cut asks) = TellsOwing cut asks
said_order k s words serial (AllTold cut owing) = HasTold cut owing

pub run_order : (k : Seat) (opening : SessionState) (first : ℕ → ℕ) (events : List SessionEvent) (serial : ℕ) → IsOpened opening → k.number < k.places.sessions → serial_leaving k opening events ≡ Some serial
    → AreToldInOrder k (session_run k opening events) (λ place. stored_last k opening first events place) serial
run_order k opening first events serial opened some e =
    let s : SessionState = session_run k opening events in
    let words : ℕ → ℕ = λ place. stored_last k opening first events place in
    said_order k s words serial (step_order k words (serial_left k opening events) s serial s.step e (run_marks k opening first events opened some))
