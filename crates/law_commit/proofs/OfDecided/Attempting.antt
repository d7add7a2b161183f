-- While a session attempts something, its sight stays.
use Rattle.std.proofs.Common.{◌≡◌, ℕ, ◌≤◌, ◌∙◌, List, [], ◌∷◌, ◌++◌, refl, ap, sym, subst, arith, Bool, true, false}
use Rattle.std.specs.Prelude.{⊤, Option, Some, None, slice_get, if◌then◌else◌}
use Rattle.fkv_plane.specs.declared.actions.Action.{Action}
use Rattle.fkv_plane.specs.declared.asks.Ask.{Ask}
use Rattle.fkv_plane.specs.declared.asks.Ask.TheVariants.{Load, Store, Swap, Cas, Add, Max, Put, Take, Done}
use Rattle.fkv_plane.specs.declared.places.SharedWord.TheVariants as one
use Rattle.fkv_plane.specs.Asked.{reply_to, word_at}
use Rattle.fkv_plane.specs.Places.{shared_place}
use Rattle.fkv_words.specs.declared.phase_words.PhaseSaid.{PhaseSaid}
use Rattle.fkv_words.specs.declared.phase_words.PhaseSaid.TheVariants.{Says, Spoiled}
use Rattle.fkv_words.specs.PhaseWords.{phase_said}
use Rattle.fkv_epoch.proofs.Shown.{item_written, some_same}
use Rattle.law_refine.specs.Below.fkv_flush.GuardWorld.{GuardWorld}
use Rattle.law_refine.specs.Below.fkv_session.Told.{Told}
use Rattle.law_refine.specs.Below.fkv_session.Sitting.{Sitting}
use Rattle.law_refine.specs.Below.fkv_session.Sitting.TheVariants.{Attempts, Polls}
use Rattle.law_refine.specs.Below.fkv_session.Sessions.{SessionState, Seat, is_busy, session_ask, session_next}
use Rattle.law_refine.specs.Below.fkv_session.SessionRun.{Begins, Replies, session_happens, session_run}
use Rattle.law_refine.specs.Below.fkv_world.Actors.{is_of_session, slot_asked}
use Rattle.law_refine.specs.Below.fkv_world.Moves.{Near, session_moved}
use Rattle.law_refine.specs.Below.fkv_world.OwnEvents.{session_events, session_part, session_part_of, session_slots, session_steps}
use Rattle.law_refine.specs.Below.fkv_world.Runs.{World, happens, run}
use Rattle.law_refine.specs.Below.fkv_world.World as world
use Rattle.law_refine.specs.Below.fkv_world.World.{Event, Calls, Moves, Commits, KeeperMoves, Crashes, Now, life_goes, near, seat_at, session_moves}
use Rattle.law_refine.proofs.Below.fkv_world.Shown.{lives, same_seat, session_runs}
use Rattle.law_refine.specs.Below.law_world.Guarded.Shows as guard
use Rattle.law_refine.specs.Below.law_world.Guarded.Shows.{Shows, seen_by_guard}
use Rattle.law_refine.specs.Below.law_world.GuardSessions.Followed.{is_turning, seat_in}
use Rattle.law_refine.proofs.Below.law_world.OfGuarded.Worlds.{life_shows}
use Rattle.law_refine.proofs.Below.law_world.OfGuardSessions.Finds.{session_rests}
use Rattle.law_refine.specs.Events.Reserved.{tail_at}
use Rattle.law_refine.proofs.OfEvents.Fixed.{life_rises}
use Rattle.law_refine.proofs.OfSeen.Alone.{moves_alone}
use Rattle.law_commit.specs.Versions.Seen.{AreViewsSo}
use Rattle.law_commit.specs.Views.{Sight, View, sight_in, sight_moved, sight_through, view_said}
use Rattle.law_commit.proofs.OfVersions.Sights.{LoadsSo, through_so, views_weaker}
use Rattle.law_commit.proofs.Telling.{found_all}

-- ---- a session stands at no slot between two events
stands_off : (opening : World) (start : ℕ) (events : List Event) (session : ℕ) (s : SessionState) → guard.IsOpened opening.now start → slice_get (run opening events).now.sessions session ≡ Some s
    → slot_asked (session_ask (seat_at (run opening events).now session) s) ≡ None
stands_off opening start events session s opened found =
    let n : Now = (run opening events).now in
    let w : GuardWorld = seen_by_guard opening start events in
    let shows : Shows n w = life_shows opening start events opened in
    let seat = shows.sessions session s found in
    let same : seat_in w.now session ≡ seat_at n session = rw (shows.shape, shows.places) refl in
    subst (λ (k : Seat). slot_asked (session_ask k s) ≡ None) same (session_rests w session seat.actor s seat.sits)

-- a session that attempts something
abbrev pub IsAttempt : Sitting → Type 0
IsAttempt (Attempts has_shifted) = ⊤
IsAttempt (Polls index) = ⊤
IsAttempt step = ⊥

attempt_busy : (step : Sitting) → IsAttempt step → is_busy step ≡ true
attempt_busy (Attempts has_shifted) attempts = refl
attempt_busy (Polls index) attempts = refl
attempt_busy step attempts = absurd attempts

attempt_not_turning : (step : Sitting) → IsAttempt step → is_turning step ≡ false
attempt_not_turning (Attempts has_shifted) attempts = refl
attempt_not_turning (Polls index) attempts = refl
attempt_not_turning step attempts = absurd attempts

-- where its step leads
moved_to : (opening : World) (start : ℕ) (before : List Event) (session : ℕ) (s : SessionState) → guard.IsOpened opening.now start → (run opening before).now.crashed ≡ false → slice_get (run opening before).now.sessions session ≡ Some s → IsAttempt s.step
    → (let k : Seat = seat_at (run opening before).now session in slice_get (run opening (Moves session ∷ before)).now.sessions session ≡ Some (session_next k s (reply_to (run opening before).now.words (session_ask k s))))
unfolding run life_goes
moved_to opening start before session s opened alive found attempts =
    let n : Now = (run opening before).now in
    let k : Seat = seat_at n session in
    let alone = moves_alone opening start before session s opened found (attempt_busy s.step attempts) (attempt_not_turning s.step attempts) in
    let leads : (happens (run opening before) (Moves session)).now ≡ session_moves n session (slice_get n.sessions session) = lives (run opening before) (Moves session) alive in
    let there : slice_get (session_moves n session (Some s)).sessions session ≡ Some (session_moved k (near n s)).machine = item_written n.sessions session s (session_moved k (near n s)).machine found in
    ap (λ (m : Now). slice_get m.sessions session) leads
    ∙ (ap (λ (x : Option SessionState). slice_get (session_moves n session x).sessions session) found ∙ (there ∙ ap (λ (x : Near SessionState). Some x.machine) alone))

-- so it stands at no slot behind its reply
none_behind : (opening : World) (start : ℕ) (before : List Event) (session : ℕ) (s : SessionState) → guard.IsOpened opening.now start → (run opening before).now.crashed ≡ false → slice_get (run opening before).now.sessions session ≡ Some s → IsAttempt s.step
    → (let k : Seat = seat_at (run opening before).now session in slot_asked (session_ask k (session_next k s (reply_to (run opening before).now.words (session_ask k s)))) ≡ None)
none_behind opening start before session s opened alive found attempts =
    let k : Seat = seat_at (run opening before).now session in
    let after : SessionState = session_next k s (reply_to (run opening before).now.words (session_ask k s)) in
    let same : seat_at (run opening (Moves session ∷ before)).now session ≡ k = same_seat opening (Moves session ∷ before) session ∙ sym (same_seat opening before session) in
    subst (λ (x : Seat). slot_asked (session_ask x after) ≡ None) same (stands_off opening start (Moves session ∷ before) session after opened (moved_to opening start before session s opened alive found attempts))

-- ---- so its part is one reply
no_slots : (actions : List (Option Action)) (ask : Ask Told) → slot_asked ask ≡ None → session_slots actions ask ≡ []
unfolding session_slots
no_slots actions (Put slot action) off = cc
no_slots actions (Take slot) off = cc
no_slots actions ask off = refl

by_step : (words : List ℕ) (s : SessionState) (step : Sitting) (reply : ℕ) (after : Sitting) (its : Sight) → IsAttempt step → sight_moved words s step reply after its ≡ its
by_step words s (Attempts has_shifted) reply after its attempts = refl
by_step words s (Polls index) reply after its attempts = refl
by_step words s step reply after its attempts = absurd attempts

one_reply : (words : List ℕ) (k : Seat) (s : SessionState) (reply : ℕ) (its : Sight) → IsAttempt s.step → sight_through words k s (Replies reply ∷ []) its ≡ its
unfolding sight_through session_run
one_reply words k s reply its attempts = by_step words s s.step reply (session_happens k s (Replies reply)).step its attempts

nothing_done : (words : List ℕ) (k : Seat) (s : SessionState) (its : Sight) → sight_through words k s [] its ≡ its
unfolding sight_through
nothing_done words k s its = refl

call_done : (words : List ℕ) (k : Seat) (s : SessionState) (its : Sight) (call : _) → sight_through words k s (Begins call ∷ []) its ≡ its
unfolding sight_through session_run
call_done words k s its call = refl

word_steps : (k : Seat) (n : Near SessionState) (ask : Ask Told) (its : Sight) → IsAttempt n.machine.step → slot_asked (session_ask k (session_next k n.machine (reply_to n.words ask))) ≡ None
    → sight_through n.words k n.machine (session_slots n.actions (session_ask k (session_next k n.machine (reply_to n.words ask))) ++ Replies (reply_to n.words ask) ∷ []) its ≡ its
word_steps k n ask its attempts off = rw (no_slots n.actions _ off) (one_reply n.words k n.machine (reply_to n.words ask) its attempts)

steps_still : (k : Seat) (n : Near SessionState) (ask : Ask Told) (its : Sight) → IsAttempt n.machine.step → slot_asked ask ≡ None → slot_asked (session_ask k (session_next k n.machine (reply_to n.words ask))) ≡ None
    → sight_through n.words k n.machine (session_steps k n ask) its ≡ its
unfolding session_steps
steps_still k n (Done told) its attempts off behind = nothing_done n.words k n.machine its
steps_still k n (Put slot action) its attempts off behind = cc
steps_still k n (Take slot) its attempts off behind = cc
steps_still k n (Load place) its attempts off behind = word_steps k n (Load place) its attempts behind
steps_still k n (Store place new) its attempts off behind = word_steps k n (Store place new) its attempts behind
steps_still k n (Swap place new) its attempts off behind = word_steps k n (Swap place new) its attempts behind
steps_still k n (Cas place old new) its attempts off behind = word_steps k n (Cas place old new) its attempts behind
steps_still k n (Add place count) its attempts off behind = word_steps k n (Add place count) its attempts behind
steps_still k n (Max place count) its attempts off behind = word_steps k n (Max place count) its attempts behind

module _ (opening : World) (start : ℕ) (opened : guard.IsOpened opening.now start) (before : List Event) (session : ℕ) (s : SessionState) (found : slice_get (run opening before).now.sessions session ≡ Some s) (attempts : IsAttempt s.step) (its : Sight) where
  abbrev here : Now
  here = (run opening before).now

  abbrev seat : Seat
  seat = seat_at here session

  own_part : (event : Event) → here.crashed ≡ false → is_of_session session event ≡ true → sight_through here.words seat s (session_part seat (near here s) event) its ≡ its
  unfolding session_part
  own_part (Calls number call) alive mine = call_done here.words seat s its call
  own_part (Moves number) alive mine =
      steps_still seat (near here s) (session_ask seat s) its attempts (stands_off opening start before session s opened found) (none_behind opening start before session s opened alive found attempts)
  own_part (Commits kind) alive mine = nothing_done here.words seat s its
  own_part world.Turns alive mine = nothing_done here.words seat s its
  own_part (KeeperMoves granted done) alive mine = nothing_done here.words seat s its
  own_part Crashes alive mine = nothing_done here.words seat s its

  found_part : (event : Event) (c mine : Bool) → here.crashed ≡ c → is_of_session session event ≡ mine
      → sight_through here.words seat s (if c then [] else (if mine then session_part seat (near here s) event else [])) its ≡ its
  found_part event true mine over of_it = nothing_done here.words seat s its
  found_part event false true alive of_it = own_part event alive of_it
  found_part event false false alive of_it = nothing_done here.words seat s its

  pub sight_still : (event : Event) → sight_through here.words seat s (session_part_of here session event) its ≡ its
  sight_still event = rw found (found_part event here.crashed (is_of_session session event) refl refl)

-- ---- no view's tail is above the tail
abbrev BelowTail : ℕ → View → Type 0
BelowTail tail view = view.tail ≤ tail

said_below : (words : List ℕ) (view : View) (said : PhaseSaid) → BelowTail (word_at words (shared_place one.Tail)) (view_said words view said)
said_below words view Spoiled = omega arith
said_below words view (Says phase version) = omega arith

tail_on : (opening : World) (start : ℕ) (before : List Event) (event : Event) → guard.IsOpened opening.now start → tail_at (run opening before).now ≤ tail_at (run opening (event ∷ before)).now
unfolding run
tail_on opening start before event opened = (life_rises opening start before (event ∷ []) opened).tail

not_above : (low tail more : ℕ) → low ≤ tail → tail ≤ more → low ≤ more
not_above low tail more one other = omega (arith, one, other)

-- nor behind an event above what it was before it
tails_through : (opening : World) (session : ℕ) (first : SessionState) (before : List Event) (event : Event) → slice_get opening.now.sessions session ≡ Some first
    → AreViewsSo (λ view. BelowTail (tail_at (run opening before).now) view) (sight_in opening session first before) → AreViewsSo (λ view. BelowTail (tail_at (run opening before).now) view) (sight_in opening session first (event ∷ before))
unfolding sight_in
tails_through opening session first before event found past =
    let k : Seat = seat_at opening.now session in
    let now : Now = (run opening before).now in
    let s : SessionState = session_run k first (session_events opening session before) in
    let tell = found_all now k s session event (slice_get now.sessions session) (session_runs opening session first before found) (same_seat opening before session) in
    let loads : LoadsSo (BelowTail (tail_at now)) now.words = λ view sees. said_below now.words view (phase_said (word_at now.words (shared_place one.Phase))) in
    through_so (BelowTail (tail_at now)) now.words (sight_in opening session first before) k s (session_part_of now session event) loads tell past

pub life_tails : (opening : World) (start : ℕ) (session : ℕ) (first : SessionState) (events : List Event) → guard.IsOpened opening.now start → slice_get opening.now.sessions session ≡ Some first
    → AreViewsSo (λ view. BelowTail (tail_at (run opening events).now) view) (sight_in opening session first events)
unfolding run sight_in
life_tails opening start session first [] opened found = record { view = omega arith; coming = tt }
life_tails opening start session first (event ∷ before) opened found =
    views_weaker (BelowTail (tail_at (run opening before).now)) (BelowTail (tail_at (run opening (event ∷ before)).now)) _
    (λ view low. not_above view.tail (tail_at (run opening before).now) _ low (tail_on opening start before event opened))
    (tails_through opening session first before event found (life_tails opening start session first before opened found))

pub tails_behind : (opening : World) (start : ℕ) (session : ℕ) (first : SessionState) (before : List Event) (event : Event) → guard.IsOpened opening.now start → slice_get opening.now.sessions session ≡ Some first
    → AreViewsSo (λ view. BelowTail (tail_at (run opening before).now) view) (sight_in opening session first (event ∷ before))
tails_behind opening start session first before event opened found = tails_through opening session first before event found (life_tails opening start session first before opened found)

-- ---- and a session's sight behind an event, if it attempts something before it
pub attempt_sight : (opening : World) (start : ℕ) (before : List Event) (event : Event) (session : ℕ) (first s : SessionState) → guard.IsOpened opening.now start → slice_get opening.now.sessions session ≡ Some first
    → slice_get (run opening before).now.sessions session ≡ Some s → IsAttempt s.step → sight_in opening session first (event ∷ before) ≡ sight_in opening session first before
unfolding sight_in
attempt_sight opening start before event session first s opened was found attempts =
    let its : Sight = sight_in opening session first before in
    let now : Now = (run opening before).now in
    let same : session_run (seat_at opening.now session) first (session_events opening session before) ≡ s = some_same _ s (sym (session_runs opening session first before was) ∙ found) in
    let seat_is : seat_at opening.now session ≡ seat_at now session = sym (same_seat opening before session) in
    let still = sight_still opening start opened before session s found attempts its event in
    subst (λ (x : SessionState). sight_through now.words (seat_at opening.now session) x (session_part_of now session event) its ≡ its) (sym same)
    (subst (λ (k : Seat). sight_through now.words k s (session_part_of now session event) its ≡ its) (sym seat_is) still)
