-- Each event adds to the history what is told behind it.
use Rattle.std.proofs.Common.{◌≡◌, ℕ, ◌∙◌, refl, sym, ap, subst, inl, inr, Bool, true, false, List, [], ◌∷◌, ◌++◌}
use Rattle.std.specs.Prelude.{◌&&◌, not, if◌then◌else◌, Option, Some, None, slice_get}
use Rattle.fkv_map.specs.declared.history.HistoryEntry.{HistoryEntry}
use Rattle.fkv_map.specs.declared.operations.Call.TheVariants.{Poll}
use Rattle.fkv_plane.specs.Passing.{is_done}
use Rattle.law_opening.specs.Below.fkv_core.Alone.{in_hand, is_seat_busy}
use Rattle.law_opening.specs.Below.fkv_core.Showing.{effect_at, effect_of}
use Rattle.law_opening.specs.Below.fkv_core.Actor.TheVariants.{Session}
use Rattle.law_opening.specs.Below.fkv_session.Replies.{effects_told, with_effect}
use Rattle.law_opening.specs.Below.fkv_session.SessionRun.{SessionEvent, session_run}
use Rattle.law_opening.specs.Below.fkv_session.Sessions.{SessionState, Seat, is_busy, session_ask}
use Rattle.law_opening.specs.Below.fkv_world.Actors.{slot_asked}
use Rattle.law_opening.specs.Below.law_world.Runs.Added.{IsEffectOf, IsHistoryAfter}
use Rattle.law_opening.specs.Below.fkv_world.Opened.{IsOpenedWorld, effects_of}
use Rattle.law_opening.specs.Below.fkv_world.OwnEvents.{session_events, session_part_of}
use Rattle.law_opening.specs.Below.fkv_world.Past.{Effect}
use Rattle.law_opening.specs.Below.fkv_world.Runs.{World, happens, run}
use Rattle.law_opening.specs.Below.fkv_world.World.{Event, Calls, Moves, Commits, Turns, KeeperMoves, Crashes, seat_at}
use Rattle.law_opening.proofs.Below.law_world.OfRuns.Added.{history_so}
use Rattle.law_opening.proofs.Below.fkv_world.Shown.{is_over, same_seat, session_runs}
use Rattle.law_opening.proofs.Below.law_world.OfSessions.Effects.{life_made}
use Rattle.law_opening.proofs.Below.law_world.OfRuns.Nothing.{no_session, none_ever, none_in_hand}
use Rattle.law_opening.specs.Below.law_world.Guarded.OpenedStore.{IsOpenedStore}
use Rattle.law_opening.specs.Below.law_world.Guarded.Shows.{IsOpened}
use Rattle.law_answers.specs.Effects.Kept.{effects_kept, told_behind, updates}
use Rattle.law_answers.proofs.OfEffects.Moved.{IsBusy, asks_on, busy_of, move_replies}
use Rattle.law_answers.proofs.OfEffects.Quiet.{HaveReply, quiet}

-- what `law_world_slots` says of sessions
abbrev pub StandAtNoSlots : Type 0
StandAtNoSlots = (opening : World) (start : ℕ) (events : List Event) (session : ℕ) (its : SessionState) → IsOpened opening.now start
    → slice_get (run opening events).now.sessions session ≡ Some its → slot_asked (session_ask (seat_at (run opening events).now session) its) ≡ None

-- a move of a session that has no call in hand leaves the world as it was
idle_so : (w : World) (number : ℕ) (crashed : Bool) (found : Option SessionState) → w.now.crashed ≡ crashed → slice_get w.now.sessions number ≡ found → not crashed && is_seat_busy found ≡ false → happens w (Moves number) ≡ w
idle_so w number true found over there idle = is_over w (Moves number) over
idle_so w number false None over there idle = (no_session w number Poll there).1
idle_so w number false (Some its) over there idle = none_in_hand w number its there idle

idle_moves : (w : World) (number : ℕ) → in_hand w.now (Session number) ≡ false → happens w (Moves number) ≡ w
idle_moves w number idle = idle_so w number w.now.crashed (slice_get w.now.sessions number) refl refl idle

-- no session comes where none was
not_there : (its : SessionState) → None ≡ Some its → ⊥
not_there its e = cc

-- which session moves
number_of : Event → ℕ
number_of (Moves number) = number
number_of event = 0

its_number : (number session : ℕ) → Moves number ≡ Moves session → number ≡ session
unfolding number_of
its_number number session e = ap number_of e

-- the history doesn't grow, so the session that moved tells none
module _ (slots : StandAtNoSlots) (opening : World) (start : ℕ) (opened : IsOpenedWorld opening) (guarded : IsOpened opening.now start) (before : List Event) (number : ℕ) where
  abbrev w : World
  w = run opening before

  abbrev after : World
  after = run opening (Moves number ∷ before)

  made_in : (events : List Event) (first : SessionState) → slice_get opening.now.sessions number ≡ Some first
      → effects_told (seat_at opening.now number) first (session_events opening number events) ≡ effects_of number (run opening events).past.history
  made_in events first was = life_made opening events number first (session_run (seat_at opening.now number) first (session_events opening number events))
      (record { opened = opened; was = was; is_now = session_runs opening number first events was })

  own_part : session_events opening number (Moves number ∷ before) ≡ session_part_of w.now number (Moves number) ++ session_events opening number before
  unfolding session_events run
  own_part = refl

  none_told : (first : SessionState) → slice_get opening.now.sessions number ≡ Some first → IsBusy w.now number → after.past.history ≡ w.past.history → effect_of after.now number ≡ None
  none_told first was is same =
      let k : Seat = seat_at opening.now number in
      let own : List SessionEvent = session_events opening number before in
      let part : List SessionEvent = session_part_of w.now number (Moves number) in
      let ran : slice_get w.now.sessions number ≡ Some (session_run k first own) = session_runs opening number first before was in
      let idle : is_busy first.step ≡ false = (opened.sessions number first was).none_in_hand in
      let busy : is_busy (session_run k first own).step ≡ true = ap (λ (found : Option SessionState). is_seat_busy found) (sym ran ∙ is.found) ∙ is.busy in
      let seat : seat_at w.now number ≡ k = same_seat opening before number in
      let asks : is_done (session_ask (seat_at w.now number) (session_run k first own)) ≡ false = subst (λ (at : Seat). is_done (session_ask at (session_run k first own)) ≡ false) (sym seat) (asks_on k first own idle busy) in
      let off = slots opening start before number (session_run k first own) guarded ran in
      let reply : HaveReply part = move_replies w.now number (session_run k first own) is.alive ran asks off in
      let told : effects_told k first (part ++ own) ≡ effects_told k first own =
      ap (effects_told k first) (sym own_part) ∙ (made_in (Moves number ∷ before) first was ∙ (ap (λ (history : List Effect). effects_of number history) same ∙ sym (made_in before first was))) in
      let stays : (session_run k first (part ++ own)).effect ≡ None = quiet k first own part reply told in
      ap effect_at (session_runs opening number first (Moves number ∷ before) was ∙ ap (λ (events : List SessionEvent). Some (session_run k first events)) own_part) ∙ stays

  busy_told : (first : Option SessionState) → slice_get opening.now.sessions number ≡ first → IsBusy w.now number → after.past.history ≡ w.past.history → effect_of after.now number ≡ None
  busy_told None was is same = absurd (not_there is.its (sym (none_ever opening before number was) ∙ is.found))
  busy_told (Some first) was is same = none_told first was is same

  told_so : (its : Effect) → IsEffectOf w (Moves number) its → effect_of after.now number ≡ Some its.entry
  unfolding run
  told_so its made =
      let same : number ≡ made.session = its_number number made.session made.moves in
      ap (λ (at : ℕ). effect_of (happens w (Moves number)).now at) same ∙ (ap effect_at made.is_now ∙ made.tells)

  moved_busy : IsBusy w.now number → IsHistoryAfter w (Moves number) after.past.history → updates after.past.history ≡ with_effect (effect_of after.now number) (updates w.past.history)
  moved_busy is (inl same) =
      let none : effect_of after.now number ≡ None = busy_told (slice_get opening.now.sessions number) refl is same in
      ap updates same ∙ ap (λ (found : Option HistoryEntry). with_effect found (updates w.past.history)) (sym none)
  moved_busy is (inr (its, grown, made)) =
      let some : effect_of after.now number ≡ Some its.entry = told_so its made in
      ap updates grown ∙ ap (λ (found : Option HistoryEntry). with_effect found (updates w.past.history)) (sym some)

  moved : (busy : Bool) → in_hand w.now (Session number) ≡ busy → updates after.past.history ≡ with_effect (if busy then effect_of after.now number else None) (updates w.past.history)
  unfolding run
  moved true busy = moved_busy (busy_of w.now number busy) (history_so w (Moves number))
  moved false idle = ap (λ (behind : World). updates behind.past.history) (idle_moves w number idle)

-- an event that moves no session adds nothing
not_moving : (w : World) (event : Event) → ((session : ℕ) → event ≡ Moves session → ⊥) → IsHistoryAfter w event (happens w event).past.history → updates (happens w event).past.history ≡ updates w.past.history
not_moving w event other (inl same) = ap updates same
not_moving w event other (inr (its, grown, made)) = absurd (other made.session made.moves)

pub behind : StandAtNoSlots → (opening : World) (start : ℕ) (before : List Event) (event : Event) → IsOpenedWorld opening → IsOpenedStore opening start
    → updates (run opening (event ∷ before)).past.history ≡ with_effect (told_behind (run opening before).now (run opening (event ∷ before)).now event) (updates (run opening before).past.history)
unfolding run
behind slots opening start before (Moves number) opened store = moved slots opening start opened store.now before number (in_hand (run opening before).now (Session number)) refl
behind slots opening start before (Calls number call) opened store = not_moving (run opening before) (Calls number call) (λ session e. cc) (history_so (run opening before) (Calls number call))
behind slots opening start before (Commits kind) opened store = not_moving (run opening before) (Commits kind) (λ session e. cc) (history_so (run opening before) (Commits kind))
behind slots opening start before Turns opened store = not_moving (run opening before) Turns (λ session e. cc) (history_so (run opening before) Turns)
behind slots opening start before (KeeperMoves granted done) opened store = not_moving (run opening before) (KeeperMoves granted done) (λ session e. cc) (history_so (run opening before) (KeeperMoves granted done))
behind slots opening start before Crashes opened store = not_moving (run opening before) Crashes (λ session e. cc) (history_so (run opening before) Crashes)

pub kept : StandAtNoSlots → (opening : World) (start : ℕ) (events : List Event) → IsOpenedWorld opening → IsOpenedStore opening start → effects_kept opening events ≡ updates (run opening events).past.history
unfolding effects_kept run
kept slots opening start [] opened store = sym (ap updates opened.no_history)
kept slots opening start (event ∷ before) opened store =
    ap (with_effect (told_behind (run opening before).now (run opening (event ∷ before)).now event)) (kept slots opening start before opened store) ∙ sym (behind slots opening start before event opened store)
