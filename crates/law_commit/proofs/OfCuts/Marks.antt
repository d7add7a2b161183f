-- A session's cut words and its owing word are what it has stored last there.
use Rattle.std.proofs.Common.{◌≡◌, ◌≢◌, ◌⊎◌, ◌<◌, ◌≤◌, inl, inr, ℕ, ◌+◌, ◌*◌, ◌∙◌, ◌++◌, List, [], ◌∷◌, length, refl, arith, sym, ap, subst, Bool, true, false}
use Rattle.std.specs.Prelude.{◌==◌, if◌then◌else◌, Option, Some, None, slice_get}
use Rattle.std.proofs.lemmas.Bool.Decides.{nat_tests}
use Rattle.fkv_map.specs.declared.operations.Call.{Call}
use Rattle.fkv_plane.specs.declared.actions.Action.{Action}
use Rattle.fkv_plane.specs.declared.asks.Ask.{Ask}
use Rattle.fkv_plane.specs.declared.asks.Ask.TheVariants.{Load, Store, Swap, Cas, Add, Max, Put, Take, Done}
use Rattle.fkv_plane.specs.declared.places.Places.{Places}
use Rattle.fkv_plane.specs.Asked.{reply_to, word_at, words_after}
use Rattle.fkv_plane.specs.Passing.{passed}
use Rattle.fkv_plane.specs.Places.{word_count}
use Rattle.fkv_plane.specs.Plane.{action_at}
use Rattle.fkv_epoch.proofs.Shown.{item_within}
use Rattle.law_refine.specs.Below.fkv_pending.PendingRequest.{PendingRequest}
use Rattle.law_refine.specs.Below.fkv_session.Told.{Told}
use Rattle.law_refine.specs.Below.fkv_session.Told.TheVariants as told
use Rattle.law_refine.specs.Below.fkv_session.Catching.{Catching}
use Rattle.law_refine.specs.Below.fkv_session.Catching.TheVariants as catching
use Rattle.law_refine.specs.Below.fkv_session.Sitting.{Sitting}
use Rattle.law_refine.specs.Below.fkv_session.Sitting.TheVariants.{CatchesUp, StoresOwing, StoresCut}
use Rattle.law_refine.specs.Below.fkv_session.CatchingUp.{CatchState, catching_ask}
use Rattle.law_refine.specs.Below.fkv_session.Sessions.{SessionState, Seat, session_ask, session_next, sitting_ask}
use Rattle.law_refine.specs.Below.fkv_session.SessionRun.{SessionEvent, Begins, Replies, session_happens, session_run}
use Rattle.law_refine.specs.Below.fkv_session.Words.{IsMark, stored_behind, stored_by, stored_last}
use Rattle.law_refine.specs.Below.fkv_keeper.Keeping.{keeper_ask}
use Rattle.law_refine.specs.Below.fkv_world.Actors.{is_of_session}
use Rattle.law_refine.specs.Below.fkv_world.Moves.{Near}
use Rattle.law_refine.specs.Below.fkv_world.Opened.{IsOpenedWorld}
use Rattle.law_refine.specs.Below.fkv_world.OwnEvents.{session_events, session_got, session_part, session_part_found, session_part_of, session_slots, session_steps}
use Rattle.law_refine.specs.Below.fkv_world.Runs.{World, happens, run}
use Rattle.law_refine.specs.Below.fkv_world.World.{Event, Calls, Moves, Now, near, seat_at}
use Rattle.law_refine.proofs.Below.fkv_world.Shown.{is_over, places_stay, same_seat, session_runs, session_runs_on}
use Rattle.law_refine.proofs.Below.law_world.OfRuns.OneWord.{session_writes}
use Rattle.law_refine.specs.Footprint.{Marks, TheMarks, IsAmong, Spares}
use Rattle.law_refine.proofs.Footprint.Catches.{is_marking}
use Rattle.law_refine.proofs.Footprint.Lives.{at_each_moment, keeper_spares}
use Rattle.law_refine.proofs.Footprint.Sessions.{IsSessionSparing, SessionRests, session_asks_spares, session_run_spares, sitting_marks}
use Rattle.law_commit.specs.Cuts.{HasItsWords, stored_by_session, word_now}
use Rattle.law_commit.proofs.OfCuts.Events.{event_words, length_stays}
use Rattle.law_commit.proofs.OfCuts.Words.{IsStore, IsThere, followed_word, spared_word}

-- ---- what it has stored over events that follow one another
no_stores : (k : Seat) (s : SessionState) (f : ℕ → ℕ) (place : ℕ) → stored_last k s f [] place ≡ f place
unfolding stored_last
no_stores k s f place = refl

stored_on : (k : Seat) (first : SessionState) (f : ℕ → ℕ) (later before : List SessionEvent) (place : ℕ)
    → stored_last k first f (later ++ before) place ≡ stored_last k (session_run k first before) (λ at. stored_last k first f before at) later place
unfolding stored_last
stored_on k first f [] before place = refl
stored_on k first f (event ∷ later) before place =
    ap (λ (s : SessionState). stored_behind k s event place (stored_last k first f (later ++ before) place)) (session_runs_on k first later before)
    ∙ ap (λ (word : ℕ). stored_behind k (session_run k (session_run k first before) later) event place word) (stored_on k first f later before place)

-- an ask of a slot stores nothing
slots_stored : (k : Seat) (s : SessionState) (f : ℕ → ℕ) (actions : List (Option Action)) (ask : Ask Told) (before : List SessionEvent) (place : ℕ) → session_ask k (session_run k s before) ≡ ask
    → stored_last k s f (session_slots actions ask ++ before) place ≡ stored_last k s f before place
unfolding session_slots stored_last
slots_stored k s f actions (Put slot action) before place e = rw e refl
slots_stored k s f actions (Take slot) before place e = by_action (action_at actions slot)
  where
    by_action : (found : Option Action) → stored_last k s f (session_got found ++ before) place ≡ stored_last k s f before place
    by_action None = refl
    by_action (Some action) = refl
slots_stored k s f actions (Load at) before place e = refl
slots_stored k s f actions (Store at word) before place e = refl
slots_stored k s f actions (Swap at word) before place e = refl
slots_stored k s f actions (Cas at old new) before place e = refl
slots_stored k s f actions (Add at k2) before place e = refl
slots_stored k s f actions (Max at k2) before place e = refl
slots_stored k s f actions (Done told) before place e = refl

one_reply : (k : Seat) (s : SessionState) (reply : ℕ) → session_run k s (Replies reply ∷ []) ≡ session_next k s reply
unfolding session_run session_happens
one_reply k s reply = refl

one_stored : (k : Seat) (s : SessionState) (f : ℕ → ℕ) (reply place : ℕ) → stored_last k s f (Replies reply ∷ []) place ≡ stored_by (session_ask k s) place (f place)
unfolding stored_last session_run
one_stored k s f reply place = refl

-- a step stores what its ask does
replied_stored : (k : Seat) (n : Near SessionState) (ask : Ask Told) (f : ℕ → ℕ) (place : ℕ) → session_ask k n.machine ≡ ask
    → stored_last k n.machine f (session_slots n.actions (session_ask k (session_next k n.machine (reply_to n.words ask))) ++ Replies (reply_to n.words ask) ∷ []) place ≡ stored_by ask place (f place)
replied_stored k n ask f place e =
    let reply : ℕ = reply_to n.words ask in
    slots_stored k n.machine f n.actions (session_ask k (session_next k n.machine reply)) (Replies reply ∷ []) place (ap (λ (s : SessionState). session_ask k s) (one_reply k n.machine reply))
    ∙ (one_stored k n.machine f reply place ∙ ap (λ (its : Ask Told). stored_by its place (f place)) e)

slot_stored : (k : Seat) (n : Near SessionState) (ask : Ask Told) (f : ℕ → ℕ) (place : ℕ) → session_ask k n.machine ≡ ask → stored_last k n.machine f (session_slots n.actions ask) place ≡ f place
unfolding session_slots stored_last session_run
slot_stored k n (Put slot action) f place e = rw e refl
slot_stored k n (Take slot) f place e = by_action (action_at n.actions slot)
  where
    by_action : (found : Option Action) → stored_last k n.machine f (session_got found) place ≡ f place
    by_action None = refl
    by_action (Some action) = refl
slot_stored k n ask f place e = refl

steps_stored : (k : Seat) (n : Near SessionState) (ask : Ask Told) (f : ℕ → ℕ) (place : ℕ) → session_ask k n.machine ≡ ask → stored_last k n.machine f (session_steps k n ask) place ≡ stored_by ask place (f place)
unfolding session_steps
steps_stored k n (Done told) f place e = no_stores k n.machine f place
steps_stored k n (Put slot action) f place e = slot_stored k n (Put slot action) f place e
steps_stored k n (Take slot) f place e = slot_stored k n (Take slot) f place e
steps_stored k n ask f place e = replied_stored k n ask f place e

call_stored : (k : Seat) (s : SessionState) (call : Call) (f : ℕ → ℕ) (place : ℕ) → stored_last k s f (Begins call ∷ []) place ≡ f place
unfolding stored_last
call_stored k s call f place = refl

-- ---- each ask of a session is a store, or spares its marks; and each of another session or of the keeper spares them
catch_store : (p : Places) (number : ℕ) (c : CatchState) (requests : List PendingRequest) (step : Catching) → is_marking step ≡ true → IsStore (passed (catching_ask p number c requests step) told.Slept)
unfolding catching_ask passed
catch_store p number c requests catching.StoresCut marks = tt
catch_store p number c requests catching.StoresOwing marks = tt
catch_store p number c requests step marks = cc

mark_store : (k : Seat) (s : SessionState) (step : Sitting) → sitting_marks s step ≡ true → IsStore (sitting_ask k s step)
unfolding sitting_ask
mark_store k s (CatchesUp cause) marks = catch_store k.places k.number s.catching s.requests s.catching.step marks
mark_store k s (StoresOwing index) marks = tt
mark_store k s StoresCut marks = tt
mark_store k s step marks = cc

own_ask : (k : Seat) (s : SessionState) → IsSessionSparing k.places s → IsStore (session_ask k s) ⊎ Spares (TheMarks k.number) k.places (session_ask k s)
own_ask k s sparing = by_marks (sitting_marks s s.step) refl
  where
    by_marks : (marks : Bool) → sitting_marks s s.step ≡ marks → IsStore (session_ask k s) ⊎ Spares (TheMarks k.number) k.places (session_ask k s)
    by_marks true e = inl (mark_store k s s.step e)
    by_marks false e =
        let rests : SessionRests (TheMarks k.number) k s = record { knows = λ same. cc; search = λ same. cc; entry = λ same. cc; latch = λ same. cc; mail = λ same. cc; marks = λ same. e; phase = λ e. cc } in
        inr (session_asks_spares (TheMarks k.number) k s tt sparing rests)

other_ask : (k : Seat) (s : SessionState) (number : ℕ) → k.number ≢ number → IsSessionSparing k.places s → Spares (TheMarks number) k.places (session_ask k s)
other_ask k s number other sparing =
    let rests : SessionRests (TheMarks number) k s = record { knows = λ same. cc; search = λ same. cc; entry = λ same. cc; latch = λ same. cc; mail = λ same. cc; marks = λ same. absurd (other (same_number k.number number same)); phase = λ e. cc } in
    session_asks_spares (TheMarks number) k s tt sparing rests
  where
    same_number : (one other : ℕ) → TheMarks other ≡ TheMarks one → one ≡ other
    same_number one other same = cc

-- ---- one event
-- what each of them does to the word at a place of these, as things stand
pub record Follows (w : World) (number : ℕ) (s : SessionState) (place : ℕ) : Type 0 where
  pub own : word_at (words_after w.now.words (session_ask (seat_at w.now number) s)) place ≡ stored_by (session_ask (seat_at w.now number) s) place (word_at w.now.words place)
  pub other : (at : ℕ) (t : SessionState) → at ≢ number → slice_get w.now.sessions at ≡ Some t → word_at (words_after w.now.words (session_ask (seat_at w.now at) t)) place ≡ word_at w.now.words place
  pub keeper : word_at (words_after w.now.words (keeper_ask w.now.shape w.now.places w.now.keeper)) place ≡ word_at w.now.words place

module _ (w : World) (number : ℕ) (s : SessionState) (place : ℕ) where
  other_event : (event : Event) → is_of_session number event ≡ false → Follows w number s place → word_at (happens w event).now.words place ≡ word_at w.now.words place
  other_event event other follows =
      event_words (λ words. word_at words place ≡ word_at w.now.words place) w event refl
      (record { session = λ at t moves found. follows.other at t (off at moves) found; keeper = λ granted done moves. follows.keeper })
    where
      off : (at : ℕ) → event ≡ Moves at → at ≢ number
      off at moves same = let not : (at == number) ≡ false = ap (is_of_session number) (sym moves) ∙ other in grind (arith, nat_tests, not, same)

  module _ (f : ℕ → ℕ) where
    own_event : (event : Event) → is_of_session number event ≡ true → w.now.crashed ≡ false → slice_get w.now.sessions number ≡ Some s → word_at w.now.words place ≡ f place → Follows w number s place
        → word_at (happens w event).now.words place ≡ stored_last (seat_at w.now number) s f (session_part (seat_at w.now number) (near w.now s) event) place
    unfolding session_part
    own_event (Calls at call) own alive found was follows =
        event_words (λ words. word_at words place ≡ word_at w.now.words place) w (Calls at call) refl (record { session = λ other t moves got. cc; keeper = λ granted done moves. cc })
        ∙ (was ∙ sym (call_stored (seat_at w.now number) s call f place))
    own_event (Moves at) own alive found was follows =
        let same : at ≡ number = grind (arith, nat_tests, own) in
        let k : Seat = seat_at w.now number in
        let written : (happens w (Moves number)).now.words ≡ words_after w.now.words (session_ask k s) = session_writes w number s alive found in
        ap (λ (i : ℕ). word_at (happens w (Moves i)).now.words place) same
        ∙ (ap (λ (words : List ℕ). word_at words place) written
        ∙ (follows.own ∙ (ap (λ (word : ℕ). stored_by (session_ask k s) place word) was ∙ sym (steps_stored k (near w.now s) (session_ask k s) f place refl))))
    own_event event own alive found was follows = cc

    alive_event : (event : Event) (own : Bool) → is_of_session number event ≡ own → w.now.crashed ≡ false → slice_get w.now.sessions number ≡ Some s → word_at w.now.words place ≡ f place → Follows w number s place
        → word_at (happens w event).now.words place ≡ stored_last (seat_at w.now number) s f (if own then session_part (seat_at w.now number) (near w.now s) event else []) place
    alive_event event true its alive found was follows = own_event event its alive found was follows
    alive_event event false its alive found was follows = other_event event its follows ∙ (was ∙ sym (no_stores (seat_at w.now number) s f place))

    by_life : (event : Event) (crashed : Bool) → w.now.crashed ≡ crashed → slice_get w.now.sessions number ≡ Some s → word_at w.now.words place ≡ f place → Follows w number s place
        → word_at (happens w event).now.words place ≡ stored_last (seat_at w.now number) s f (if crashed then [] else session_part_found w.now number event (Some s)) place
    by_life event true over found was follows = ap (λ (x : World). word_at x.now.words place) (is_over w event over) ∙ (was ∙ sym (no_stores (seat_at w.now number) s f place))
    by_life event false alive found was follows = alive_event event (is_of_session number event) refl alive found was follows

    marks_event : (event : Event) → slice_get w.now.sessions number ≡ Some s → word_at w.now.words place ≡ f place → Follows w number s place
        → word_at (happens w event).now.words place ≡ stored_last (seat_at w.now number) s f (session_part_of w.now number event) place
    marks_event event found was follows =
        by_life event w.now.crashed refl found was follows
        ∙ ap (λ (got : Option SessionState). stored_last (seat_at w.now number) s f (if w.now.crashed then [] else session_part_found w.now number event got) place) (sym found)

-- ---- every life
mark_among : (number place : ℕ) → IsMark number place → IsAmong number Marks place
mark_among number place (inl even) = record { from = omega (arith, even); to = omega (arith, even) }
mark_among number place (inr (inl odd)) = record { from = omega (arith, odd); to = omega (arith, odd) }
mark_among number place (inr (inr owing)) = record { from = omega (arith, owing); to = omega (arith, owing) }

-- a place of a session's is one of the store's words
pub few_places : (p : Places) (count number place : ℕ) → number < p.sessions → word_count p ≤ count → place < 24 + 16 * number + 16 → place < count
few_places p count number place seat words low = omega (arith, seat, words, low)

pub sparing_now : (opening : World) (events : List Event) (number : ℕ) (s : SessionState) → IsOpenedWorld opening → slice_get (run opening events).now.sessions number ≡ Some s → IsSessionSparing (run opening events).now.places s
sparing_now opening events number s opened found =
    at_each_moment (λ seat x. IsSessionSparing seat.places x) opening events number s
    (λ first was. session_run_spares (seat_at opening.now number) first (session_events opening number events) (opened.sessions number first was)) found

pub seat_of : (opening : World) (number : ℕ) (first : SessionState) → IsOpenedWorld opening → slice_get opening.now.sessions number ≡ Some first → number < opening.now.places.sessions
seat_of opening number first opened was = subst (λ (count : ℕ). number < count) opened.seats (item_within opening.now.sessions number first was)

there_now : (opening : World) (events : List Event) (number : ℕ) (first : SessionState) (place : ℕ) → IsOpenedWorld opening → slice_get opening.now.sessions number ≡ Some first → IsMark number place
    → IsThere (run opening events).now.places number Marks place
there_now opening events number first place opened was mark = record {
  seat = subst (λ (p : Places). number < p.sessions) (sym (places_stay opening events)) (seat_of opening number first opened was);
  among = mark_among number place mark;
}

low_now : (opening : World) (events : List Event) (number : ℕ) (first : SessionState) (place : ℕ) → IsOpenedWorld opening → HasItsWords opening.now → slice_get opening.now.sessions number ≡ Some first → IsMark number place
    → place < length (run opening events).now.words
low_now opening events number first place opened words was mark =
    let to = (mark_among number place mark).to in
    subst (λ (count : ℕ). place < count) (sym (length_stays opening events))
    (few_places opening.now.places (length opening.now.words) number place (seat_of opening number first opened was) words (omega (arith, to)))

pub follows_now : (opening : World) (events : List Event) (number : ℕ) (first s : SessionState) (place : ℕ) → IsOpenedWorld opening → HasItsWords opening.now → slice_get opening.now.sessions number ≡ Some first
    → slice_get (run opening events).now.sessions number ≡ Some s → IsMark number place → Follows (run opening events) number s place
follows_now opening events number first s place opened words was found mark =
    let n : Now = (run opening events).now in
    let there : IsThere n.places number Marks place = there_now opening events number first place opened was mark in
    let few : place < length n.words = low_now opening events number first place opened words was mark in
    record {
      own = followed_word n.places number Marks n.words (session_ask (seat_at n number) s) place there few (own_ask (seat_at n number) s (sparing_now opening events number s opened found));
      other = λ at t other got. spared_word n.places number Marks n.words (session_ask (seat_at n at) t) place there few (other_ask (seat_at n at) t number other (sparing_now opening events at t opened got));
      keeper = spared_word n.places number Marks n.words (keeper_ask n.shape n.places n.keeper) place there few (keeper_spares (TheMarks number) opening events (λ e. cc) opened.keeper tt tt (λ session e. cc) (λ finishes session e. cc));
    }

pub life_marks : (opening : World) (events : List Event) (number : ℕ) (first : SessionState) (place : ℕ) → IsOpenedWorld opening → HasItsWords opening.now → slice_get opening.now.sessions number ≡ Some first → IsMark number place
    → word_now opening events place ≡ stored_by_session opening number first events place
unfolding run session_events
life_marks opening [] number first place opened words was mark = sym (no_stores (seat_at opening.now number) first (λ at. word_at opening.now.words at) place)
life_marks opening (event ∷ before) number first place opened words was mark =
    let own : List SessionEvent = session_events opening number before in
    let k : Seat = seat_at opening.now number in
    let f : ℕ → ℕ = λ at. word_at opening.now.words at in
    let s : SessionState = session_run k first own in
    let found : slice_get (run opening before).now.sessions number ≡ Some s = session_runs opening number first before was in
    marks_event (run opening before) number s place (λ at. stored_last k first f own at) event found (life_marks opening before number first place opened words was mark)
    (follows_now opening before number first s place opened words was found mark)
    ∙ (ap (λ (seat : Seat). stored_last seat s (λ at. stored_last k first f own at) (session_part_of (run opening before).now number event) place) (same_seat opening before number)
    ∙ sym (stored_on k first f (session_part_of (run opening before).now number event) own place))
