-- Beside a life no address from the tail up has a record.
use Rattle.std.proofs.Common.{◌≡◌, ℕ, ◌+◌, ◌<◌, ◌≤◌, ◌∙◌, inl, inr, refl, sym, ap, subst, arith, Bool, true, false, List, [], ◌∷◌, ◌++◌, length}
use Rattle.std.specs.Prelude.{map, if◌then◌else◌, Option, Some, None, slice_get}
use Rattle.fkv_map.specs.declared.history.HistoryEntry.{HistoryEntry}
use Rattle.law_log.specs.Chains.{Cell, Logged, Unborn, Reserved, Published, Dropped}
use Rattle.law_log.specs.Ghosts.{Log, Ghosts, GhostEvent, Tells, FindsEntry, TakesValue, Reserves, Publishes, Drops, Changes, Fixes, set_at, published, dropped, changed, log_after, ghosts_after, ghost_run}
use Rattle.law_log.specs.Trace.{TraceLine}
use Rattle.law_log.proofs.Shown.{at_one}
use Rattle.fkv_plane.specs.declared.asks.Ask.{Ask}
use Rattle.fkv_plane.specs.declared.places.SharedWord.TheVariants as one
use Rattle.fkv_plane.specs.Asked.{asked, asked_place, reply_to, word_at, word_found, words_after, words_changed}
use Rattle.fkv_plane.specs.Places.{shared_place}
use Rattle.fkv_epoch.proofs.Shown.{word_written}
use Rattle.law_world.specs.Below.fkv_flush.GuardWorld.{GuardWorld}
use Rattle.law_world.specs.Below.fkv_session.Told.{Told}
use Rattle.law_world.specs.Below.fkv_session.Sessions.{SessionState, Seat, session_ask}
use Rattle.law_world.specs.Below.fkv_world.Runs.{World, happens, run}
use Rattle.law_world.specs.Below.fkv_world.World.{Event, Moves, seat_at}
use Rattle.law_world.proofs.OfRuns.OneWord.{session_writes}
use Rattle.law_world.specs.Guarded.Shows.{IsOpened, seen_by_guard}
use Rattle.law_world.proofs.OfGuarded.Worlds.{life_shows}
use Rattle.law_refine.specs.Events.GhostEvents.{home_in, moved_ghosts, own_ghosts, safe_at, fixed_ghosts, traced_by, serials_in, ghost_events, mapped, life_ghosts}
use Rattle.law_refine.specs.Events.Lines.{lines_added}
use Rattle.law_refine.specs.Events.Reservations.{TakesTail}
use Rattle.law_refine.specs.Events.Reserved.{tail_at}
use Rattle.law_refine.specs.Events.Sessions.{sitting_ghosts}
use Rattle.law_refine.proofs.OfEvents.Fixed.{life_rises}
use Rattle.law_refine.proofs.OfEvents.SessionSteps.{life_on}
use Rattle.law_refine.proofs.OfEvents.Taking.{AreTaking, IsTaking, taking_both, taking_fixed, taking_moves, taking_step, taking_told}

-- what an event takes lies below this address
abbrev pub is_below : ℕ → GhostEvent → Type 0
is_below bound event = IsTaking (λ a. a < bound) event

abbrev pub AreBelow : ℕ → List GhostEvent → Type 0
AreBelow bound events = AreTaking (λ a. a < bound) events

-- ---- such events leave what is unborn from there up
not_here : (a bound b : ℕ) → b < bound → bound ≤ a → a ≡ b → ⊥
not_here a bound b low high same = omega (arith, low, high, same)

set_unborn : (cells : ℕ → Logged) (b a : ℕ) (x : Logged) → (a ≡ b → ⊥) → cells a ≡ Unborn → set_at cells b x a ≡ Unborn
set_unborn cells b a x other none = elim (at_one cells b x a) [
  | inl here ↦ absurd (other here.0)
  | inr there ↦ there.1 ∙ none
]

born_else : (cells : ℕ → Logged) (a b : ℕ) (x : Logged) → cells b ≡ x → (x ≡ Unborn → ⊥) → cells a ≡ Unborn → a ≡ b → ⊥
born_else cells a b x its born none same = born (sym its ∙ (ap cells (sym same) ∙ none))

reserved_born : (entry : HistoryEntry) (cell : Cell) → Reserved entry cell ≡ Unborn → ⊥
reserved_born entry cell e = cc

published_born : (cell : Cell) → Published cell ≡ Unborn → ⊥
published_born cell e = cc

publish_unborn : (home : ℕ → ℕ) (log : Log) (b a : ℕ) (logged : Logged) → log.cells b ≡ logged → log.cells a ≡ Unborn → (published home log b logged).cells a ≡ Unborn
publish_unborn home log b a (Reserved entry cell) its none = set_unborn log.cells b a (Published cell) (born_else log.cells a b (Reserved entry cell) its (reserved_born entry cell) none) none
publish_unborn home log b a logged its none = none

drop_unborn : (log : Log) (b a : ℕ) (logged : Logged) → log.cells b ≡ logged → log.cells a ≡ Unborn → (dropped log b logged).cells a ≡ Unborn
drop_unborn log b a (Reserved entry cell) its none = set_unborn log.cells b a (Dropped cell) (born_else log.cells a b (Reserved entry cell) its (reserved_born entry cell) none) none
drop_unborn log b a logged its none = none

change_unborn : (log : Log) (b a : ℕ) (entry : HistoryEntry) (logged : Logged) → log.cells b ≡ logged → log.cells a ≡ Unborn → (changed log b entry logged).cells a ≡ Unborn
change_unborn log b a entry (Published cell) its none = set_unborn log.cells b a _ (born_else log.cells a b (Published cell) its (published_born cell) none) none
change_unborn log b a entry logged its none = none

one_unborn : (home : ℕ → ℕ) (log : Log) (bound a : ℕ) (event : GhostEvent) → is_below bound event → bound ≤ a → log.cells a ≡ Unborn → (log_after home log event).cells a ≡ Unborn
one_unborn home log bound a (Reserves b entry cell) low high none = set_unborn log.cells b a (Reserved entry cell) (not_here a bound b low high) none
one_unborn home log bound a (Publishes b) low high none = publish_unborn home log b a (log.cells b) refl none
one_unborn home log bound a (Drops b) low high none = drop_unborn log b a (log.cells b) refl none
one_unborn home log bound a (Changes b entry) low high none = change_unborn log b a entry (log.cells b) refl none
one_unborn home log bound a (Tells line) low high none = none
one_unborn home log bound a (FindsEntry reader) low high none = none
one_unborn home log bound a (TakesValue reader) low high none = none
one_unborn home log bound a (Fixes b) low high none = none

-- a list of them behind others
pub behind_unborn : (home : ℕ → ℕ) (g : Ghosts) (bound a : ℕ) (later before : List GhostEvent) → AreBelow bound later → bound ≤ a → (ghost_run home g before).log.cells a ≡ Unborn
    → (ghost_run home g (later ++ before)).log.cells a ≡ Unborn
unfolding ghost_run ghosts_after
behind_unborn home g bound a [] before below high none = none
behind_unborn home g bound a (event ∷ later) before below high none = one_unborn home (ghost_run home g (later ++ before)).log bound a event below.0 high (behind_unborn home g bound a later before below.1 high none)

-- the tail that is taken is raised by one
taken_below : (words : List ℕ) (ask : Ask Told) (addr : ℕ) → shared_place one.Tail < length words → TakesTail (asked_place ask) (asked ask) (reply_to words ask) addr → addr < word_at (words_after words ask) (shared_place one.Tail)
taken_below words ask addr enough takes =
    let tail : ℕ = word_at words (shared_place one.Tail) in
    let reply : reply_to words ask ≡ tail = ap (word_found words) takes.at in
    let after : word_at (words_after words ask) (shared_place one.Tail) ≡ asked ask tail =
    ap (λ (place : Option ℕ). word_at (words_changed words place (asked ask)) (shared_place one.Tail)) takes.at ∙ word_written words (shared_place one.Tail) (asked ask tail) enough in
    let raised : asked ask tail ≡ tail + 1 = subst (λ (r : ℕ). asked ask r ≡ r + 1) reply takes.raised in
    let found : addr ≡ reply_to words ask = takes.found in
    omega (arith, found, reply, after, raised)

-- ---- of an event of a life
enough_words : (opening : World) (start : ℕ) (events : List Event) → IsOpened opening.now start → shared_place one.Tail < length (run opening events).now.words
enough_words opening start events opened =
    let w : GuardWorld = seen_by_guard opening start events in
    let shows = life_shows opening start events opened in
    let enough = shows.sound.enough_words in
    let some : shared_place one.Tail < length w.now.words = omega (arith, enough) in
    subst (λ (words : List ℕ). shared_place one.Tail < length words) shows.words some

moved_below : (opening : World) (start : ℕ) (before : List Event) (number : ℕ) (found : Option SessionState) → IsOpened opening.now start → (run opening before).now.crashed ≡ false → slice_get (run opening before).now.sessions number ≡ found
    → AreBelow (tail_at (happens (run opening before) (Moves number)).now) (moved_ghosts (run opening before) number found)
moved_below opening start before number None opened alive e = tt
moved_below opening start before number (Some s) opened alive e =
    let w : World = run opening before in
    let k : Seat = seat_at w.now number in
    let ask : Ask Told = session_ask k s in
    let bound : ℕ = tail_at (happens w (Moves number)).now in
    let low : (addr : ℕ) → TakesTail (asked_place ask) (asked ask) (reply_to w.now.words ask) addr → addr < bound = λ addr takes.
    subst (λ (words : List ℕ). addr < word_at words (shared_place one.Tail)) (sym (session_writes w number s alive e)) (taken_below w.now.words ask addr (enough_words opening start before opened) takes) in
    taking_step (λ a. a < bound) k w.past.trace s w.now.words ask
    (taking_moves (λ a. a < bound) (asked_place ask) (asked ask) (reply_to w.now.words ask) (sitting_ghosts k w.past.trace s s.step (reply_to w.now.words ask)) _ _ low (life_on opening start before number s (reply_to w.now.words ask) opened e))

own_below : (opening : World) (start : ℕ) (before : List Event) (event : Event) → IsOpened opening.now start → (run opening before).now.crashed ≡ false → AreBelow (tail_at (happens (run opening before) event).now) (own_ghosts (run opening before) event)
own_below opening start before (Moves number) opened alive = moved_below opening start before number (slice_get (run opening before).now.sessions number) opened alive refl
own_below opening start before event opened alive = tt

event_below : (opening : World) (start : ℕ) (before : List Event) (event : Event) → IsOpened opening.now start
    → AreBelow (tail_at (happens (run opening before) event).now) (ghost_events (serials_in opening.now) (run opening before) event)
unfolding ghost_events
event_below opening start before event opened = by_test w.now.crashed refl
  where
    w : World
    w = run opening before

    bound : ℕ
    bound = tail_at (happens w event).now

    lines : List TraceLine
    lines = lines_added (serials_in opening.now) w.past.trace (traced_by w event)

    by_test : (c : Bool) → w.now.crashed ≡ c → AreBelow bound (if c then [] else map Tells lines ++ (fixed_ghosts (safe_at w.now) (safe_at (happens w event).now) ++ own_ghosts w event))
    by_test true e = tt
    by_test false e =
        taking_both (λ a. a < bound) (map Tells lines) (fixed_ghosts (safe_at w.now) (safe_at (happens w event).now) ++ own_ghosts w event) (taking_told (λ a. a < bound) lines)
        (taking_both (λ a. a < bound) (fixed_ghosts (safe_at w.now) (safe_at (happens w event).now)) (own_ghosts w event) (taking_fixed (λ a. a < bound) (safe_at w.now) (safe_at (happens w event).now)) (own_below opening start before event opened e))

tail_rises : (opening : World) (start : ℕ) (before : List Event) (event : Event) → IsOpened opening.now start → tail_at (run opening before).now ≤ tail_at (happens (run opening before) event).now
unfolding run
tail_rises opening start before event opened = (life_rises opening start before (event ∷ []) opened).tail

higher : (a low high : ℕ) → low ≤ high → high ≤ a → low ≤ a
higher a low high one other = omega (arith, one, other)

-- ---- and of a life
pub ghost_unborn : (opening : World) (start : ℕ) (ghosts : Ghosts) (events : List Event) → IsOpened opening.now start → ((a : ℕ) → tail_at opening.now ≤ a → ghosts.log.cells a ≡ Unborn)
    → (a : ℕ) → tail_at (run opening events).now ≤ a → (life_ghosts opening ghosts events).log.cells a ≡ Unborn
unfolding mapped run ghost_run
ghost_unborn opening start ghosts [] opened none a high = none a high
ghost_unborn opening start ghosts (event ∷ before) opened none a high =
    let w : World = run opening before in
    behind_unborn (home_in opening.now.shape.bucket_bits) ghosts (tail_at (happens w event).now) a (ghost_events (serials_in opening.now) w event) (mapped opening before) (event_below opening start before event opened) high
    (ghost_unborn opening start ghosts before opened none a (higher a (tail_at w.now) (tail_at (happens w event).now) (tail_rises opening start before event opened) high))
