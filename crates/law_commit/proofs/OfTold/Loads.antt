-- If an event ends a call with an answer that tells what is durable, the session has loaded its durable word in this event.
use Rattle.std.proofs.Common.{◌≡◌, ℕ, ◌∙◌, List, [], ◌∷◌, ◌++◌, refl, ap, sym, subst, Bool, true, false}
use Rattle.std.specs.Prelude.{if◌then◌else◌, Option, Some, None, slice_get}
use Rattle.fkv_base.specs.declared.numbers.Serial.{Serial}
use Rattle.fkv_map.specs.declared.operations.Call.{Call}
use Rattle.fkv_plane.specs.declared.actions.Action.{Action}
use Rattle.fkv_plane.specs.declared.asks.Ask.{Ask}
use Rattle.fkv_plane.specs.declared.asks.Ask.TheVariants.{Load, Store, Swap, Cas, Add, Max, Put, Take, Done}
use Rattle.fkv_plane.specs.declared.places.SessionWord.TheVariants as own
use Rattle.fkv_plane.specs.Asked.{reply_to}
use Rattle.fkv_plane.specs.Places.{session_place}
use Rattle.fkv_plane.specs.Plane.{action_at}
use Rattle.law_refine.specs.Below.fkv_session.Told.{Told}
use Rattle.law_refine.specs.Below.fkv_session.Told.TheVariants as told
use Rattle.law_refine.specs.Below.fkv_session.Sitting.{Sitting}
use Rattle.law_refine.specs.Below.fkv_session.Sitting.TheVariants.{Idle, LoadsDurable}
use Rattle.law_refine.specs.Below.fkv_session.Sessions.{IsOpened, Seat, SessionState, is_busy, session_ask, session_begun, session_next, sitting_ask}
use Rattle.law_refine.specs.Below.fkv_session.SessionRun.{Begins, Gets, Replies, SessionEvent, begins, session_happens, session_run}
use Rattle.law_refine.specs.Below.fkv_world.Actors.{is_of_session}
use Rattle.law_refine.specs.Below.fkv_world.Moves.{Near}
use Rattle.law_refine.specs.Below.fkv_world.OwnEvents.{session_events, session_got, session_part, session_part_found, session_slots, session_steps}
use Rattle.law_refine.specs.Below.fkv_world.Runs.{World, run}
use Rattle.law_refine.specs.Below.fkv_world.World.{Event, Calls, Commits, Crashes, KeeperMoves, Moves, Now, Turns, near, seat_at}
use Rattle.law_refine.proofs.Below.fkv_world.Shown.{same_seat, session_runs}
use Rattle.law_commit.proofs.OfTold.Other.{begun_other, idle_busy, not_other, run_load}

-- it loads its durable word, and tells it
pub record TellsLoad (k : Seat) (words : List ℕ) (s : SessionState) (serial : Serial) : Type 0 where
  pub loads : s.step ≡ LoadsDurable
  pub word : serial.0 ≡ reply_to {A = Told} words (Load (session_place k.number own.Durable))

asks_durable : (k : Seat) (s : SessionState) → s.step ≡ LoadsDurable → session_ask k s ≡ Load (session_place k.number own.Durable)
unfolding sitting_ask
asks_durable k s at = rw at refl

-- one that asks for a slot is busy
busy_put : (k : Seat) (s : SessionState) (step : Sitting) (slot : ℕ) (action : Action) → s.step ≡ step → sitting_ask k s step ≡ Put slot action → is_busy step ≡ true
unfolding sitting_ask
busy_put k s (Idle its) slot action at asks = cc
busy_put k s step slot action at asks = refl

busy_take : (k : Seat) (s : SessionState) (step : Sitting) (slot : ℕ) → s.step ≡ step → sitting_ask k s step ≡ Take slot → is_busy step ≡ true
unfolding sitting_ask
busy_take k s (Idle its) slot at asks = cc
busy_take k s step slot at asks = refl

same_reply : (a b : ℕ) → Replies a ≡ Replies b → a ≡ b
same_reply a b same = cc

module _ (k : Seat) (first : SessionState) (before : List SessionEvent) (opened : IsOpened first) (words : List ℕ) (actions : List (Option Action)) (serial : Serial) (busy : is_busy (session_run k first before).step ≡ true) where
  abbrev s : SessionState
  s = session_run k first before

  abbrev Tells : List SessionEvent → Type 0
  Tells part = (session_run k first (part ++ before)).step ≡ Idle (told.Durable serial)

  nothing_told : {X : Type 0} → s.step ≡ Idle (told.Durable serial) → X
  nothing_told is = idle_busy s.step (told.Durable serial) busy is

  put_told : {X : Type 0} (slot : ℕ) (action : Action) → session_ask k s ≡ Put slot action → Tells (Replies 0 ∷ []) → X
  put_told slot action asks is =
      let load = run_load k first (Replies 0) before serial opened busy is in
      let clash : Put slot action ≡ Load (session_place k.number own.Durable) = sym asks ∙ asks_durable k s load.loads in cc

  got_told : {X : Type 0} (found : Option Action) → Tells (session_got found) → X
  got_told None is = nothing_told is
  got_told (Some action) is = let load = run_load k first (Gets action) before serial opened busy is in let clash : Gets action ≡ Replies serial.0 = load.reply in cc

  call_told : {X : Type 0} (call : Call) → Tells (Begins call ∷ []) → X
  call_told call is = let load = run_load k first (Begins call) before serial opened busy is in let clash : Begins call ≡ Replies serial.0 = load.reply in cc

  -- a word is asked for, and a slot behind it
  word_told : (ask : Ask Told) → session_ask k s ≡ ask → Tells (Replies (reply_to words ask) ∷ []) → TellsLoad k words s serial
  word_told ask asks is =
      let load = run_load k first (Replies (reply_to words ask)) before serial opened busy is in
      let same : ask ≡ Load (session_place k.number own.Durable) = sym asks ∙ asks_durable k s load.loads in
      record { loads = load.loads; word = sym (same_reply (reply_to words ask) serial.0 load.reply) ∙ ap (λ (x : Ask Told). reply_to words x) same }

  slots_told : (ask next : Ask Told) → session_ask k s ≡ ask → session_ask k (session_run k first (Replies (reply_to words ask) ∷ before)) ≡ next → Tells (session_slots actions next ++ Replies (reply_to words ask) ∷ []) → TellsLoad k words s serial
  unfolding session_slots
  slots_told ask (Put slot action) asks puts is =
      let after : SessionState = session_run k first (Replies (reply_to words ask) ∷ before) in
      let load = run_load k first (Replies 0) (Replies (reply_to words ask) ∷ before) serial opened (busy_put k after after.step slot action refl puts) is in
      let clash : Put slot action ≡ Load (session_place k.number own.Durable) = sym puts ∙ asks_durable k after load.loads in cc
  slots_told ask (Take slot) asks takes is = by_action (action_at actions slot) is
    where
      by_action : (found : Option Action) → Tells (session_got found ++ Replies (reply_to words ask) ∷ []) → TellsLoad k words s serial
      by_action None tells = word_told ask asks tells
      by_action (Some action) tells =
          let after : SessionState = session_run k first (Replies (reply_to words ask) ∷ before) in
          let load = run_load k first (Gets action) (Replies (reply_to words ask) ∷ before) serial opened (busy_take k after after.step slot refl takes) tells in
          let clash : Gets action ≡ Replies serial.0 = load.reply in cc
  slots_told ask (Load at) asks next is = word_told ask asks is
  slots_told ask (Store at word) asks next is = word_told ask asks is
  slots_told ask (Swap at word) asks next is = word_told ask asks is
  slots_told ask (Cas at old new) asks next is = word_told ask asks is
  slots_told ask (Add at n) asks next is = word_told ask asks is
  slots_told ask (Max at n) asks next is = word_told ask asks is
  slots_told ask (Done its) asks next is = word_told ask asks is

  abbrev there : Near SessionState
  there = record { machine = s; words = words; actions = actions }

  next_so : (reply : ℕ) → session_run k first (Replies reply ∷ before) ≡ session_next k s reply
  unfolding session_run session_happens
  next_so reply = refl

  after_word : (ask : Ask Told) → session_ask k s ≡ ask → Tells (session_slots actions (session_ask k (session_next k s (reply_to words ask))) ++ Replies (reply_to words ask) ∷ []) → TellsLoad k words s serial
  after_word ask asks is =
      let same = next_so (reply_to words ask) in
      slots_told ask (session_ask k (session_next k s (reply_to words ask))) asks (ap (λ (x : SessionState). session_ask k x) same) is

  pub steps_told : (ask : Ask Told) → session_ask k s ≡ ask → Tells (session_steps k there ask) → TellsLoad k words s serial
  unfolding session_steps session_slots
  steps_told (Done its) asks is = nothing_told is
  steps_told (Put slot action) asks is = put_told slot action asks is
  steps_told (Take slot) asks is = got_told (action_at actions slot) is
  steps_told (Load at) asks is = after_word (Load at) asks is
  steps_told (Store at word) asks is = after_word (Store at word) asks is
  steps_told (Swap at word) asks is = after_word (Swap at word) asks is
  steps_told (Cas at old new) asks is = after_word (Cas at old new) asks is
  steps_told (Add at n) asks is = after_word (Add at n) asks is
  steps_told (Max at n) asks is = after_word (Max at n) asks is

-- ---- an event of a life
module _ (opening : World) (before : List Event) (session : ℕ) (first : SessionState) (was : slice_get opening.now.sessions session ≡ Some first) (opened_first : IsOpened first) where
  abbrev seat : Seat
  seat = seat_at opening.now session

  abbrev past : List SessionEvent
  past = session_events opening session before

  abbrev state : SessionState
  state = session_run seat first past

  abbrev n : Now
  n = (run opening before).now

  found : slice_get n.sessions session ≡ Some state
  found = session_runs opening session first before was

  abbrev IsTold : Serial → List SessionEvent → Type 0
  IsTold serial part = (session_run seat first (part ++ past)).step ≡ Idle (told.Durable serial)

  part_told : (event : Event) (serial : Serial) → is_busy state.step ≡ true → IsTold serial (session_part (seat_at n session) (near n state) event) → TellsLoad seat n.words state serial
  unfolding session_part
  part_told (Calls number call) serial busy is = call_told seat first past opened_first n.words n.actions serial busy call is
  part_told (Moves number) serial busy is =
      steps_told seat first past opened_first n.words n.actions serial busy (session_ask seat state) refl
      (subst (λ (k : Seat). IsTold serial (session_steps k (near n state) (session_ask k state))) (same_seat opening before session) is)
  part_told (Commits kind) serial busy is = nothing_told seat first past opened_first n.words n.actions serial busy is
  part_told Turns serial busy is = nothing_told seat first past opened_first n.words n.actions serial busy is
  part_told (KeeperMoves granted done) serial busy is = nothing_told seat first past opened_first n.words n.actions serial busy is
  part_told Crashes serial busy is = nothing_told seat first past opened_first n.words n.actions serial busy is

  found_told : (event : Event) (serial : Serial) → is_busy state.step ≡ true → IsTold serial (session_part_found n session event (Some state)) → TellsLoad seat n.words state serial
  found_told event serial busy is = by_turn (is_of_session session event) is
    where
      by_turn : (its : Bool) → IsTold serial (if its then session_part (seat_at n session) (near n state) event else []) → TellsLoad seat n.words state serial
      by_turn true tells = part_told event serial busy tells
      by_turn false tells = nothing_told seat first past opened_first n.words n.actions serial busy tells

  -- if a call was in hand
  pub event_told : (event : Event) (serial : Serial) → is_busy state.step ≡ true → (session_run seat first (session_events opening session (event ∷ before))).step ≡ Idle (told.Durable serial) → TellsLoad seat n.words state serial
  unfolding session_events
  event_told event serial busy is = by_crash n.crashed is
    where
      by_crash : (c : Bool) → IsTold serial (if c then [] else session_part_found n session event (slice_get n.sessions session)) → TellsLoad seat n.words state serial
      by_crash true tells = nothing_told seat first past opened_first n.words n.actions serial busy tells
      by_crash false tells = found_told event serial busy (subst (λ (its : Option SessionState). IsTold serial (session_part_found n session event its)) found tells)

  -- a call that begins tells nothing of it
  begun_told : {X : Type 0} (call : Call) (serial : Serial) → is_busy state.step ≡ false → (session_run seat first (Begins call ∷ past)).step ≡ Idle (told.Durable serial) → X
  unfolding session_run session_happens
  begun_told call serial idle is = by_busy (is_busy state.step) idle is
    where
      by_busy : {X : Type 0} (b : Bool) → b ≡ false → (begins seat state b call).step ≡ Idle (told.Durable serial) → X
      by_busy true same tells = cc
      by_busy false same tells = not_other (session_begun seat state call).step serial tells (begun_other seat state call)

  pub call_tells : {X : Type 0} (number : ℕ) (call : Call) (serial : Serial) → n.crashed ≡ false → is_of_session session (Calls number call) ≡ true → is_busy state.step ≡ false
      → (session_run seat first (session_events opening session (Calls number call ∷ before))).step ≡ Idle (told.Durable serial) → X
  unfolding session_events session_part
  call_tells number call serial alive its idle is =
      let lives = subst (λ (c : Bool). IsTold serial (if c then [] else session_part_found n session (Calls number call) (slice_get n.sessions session))) alive is in
      let here = subst (λ (f : Option SessionState). IsTold serial (session_part_found n session (Calls number call) f)) found lives in
      begun_told call serial idle (subst (λ (b : Bool). IsTold serial (if b then Begins call ∷ [] else [])) its here)
