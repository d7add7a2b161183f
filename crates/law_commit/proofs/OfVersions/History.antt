-- Each effect of a life's history is of the version at which its update was accepted.
use Rattle.std.proofs.Common.{◌≡◌, ℕ, ◌⊎◌, inl, inr, ◌∙◌, List, [], ◌∷◌, ◌++◌, refl, arith, ap, sym, subst, Bool, true, false}
use Rattle.std.specs.Prelude.{Option, Some, None, ◌==◌, slice_get}
use Rattle.std.proofs.lemmas.Bool.Decides.{nat_tests}
use Rattle.fkv_base.specs.declared.numbers.Version.{Version}
use Rattle.fkv_map.specs.declared.history.HistoryEntry.{HistoryEntry}
use Rattle.fkv_plane.specs.declared.asks.Ask.{Ask}
use Rattle.fkv_plane.specs.declared.asks.Ask.TheVariants.{Load, Store, Swap, Cas, Add, Max, Put, Take, Done}
use Rattle.fkv_plane.specs.Asked.{reply_to}
use Rattle.law_refine.specs.Below.fkv_session.Told.{Told}
use Rattle.law_refine.specs.Below.fkv_session.Sessions.{IsOpened, Seat, SessionState, session_ask, session_next}
use Rattle.law_refine.specs.Below.fkv_session.SessionRun.{Replies, SessionEvent, session_run}
use Rattle.fkv_epoch.proofs.Shown.{some_same}
use Rattle.law_refine.specs.Below.fkv_world.Moves.{Near}
use Rattle.law_refine.specs.Below.fkv_world.Opened.{HasBecome, IsOpenedWorld}
use Rattle.law_refine.specs.Below.fkv_world.OwnEvents.{session_events, session_part, session_part_of, session_slots, session_steps}
use Rattle.law_refine.specs.Below.fkv_world.Past.{Effect, effect_made, history_after}
use Rattle.law_refine.specs.Below.fkv_world.Runs.{World, happens, read_by_keeper, run}
use Rattle.law_refine.specs.Below.fkv_world.World.{Event, Moves, Now, life_goes, near, seat_at}
use Rattle.law_refine.proofs.Below.fkv_world.Shown.{is_over, lived, same_seat, session_runs}
use Rattle.law_refine.specs.Below.law_world.Guarded.Shows as guard
use Rattle.law_log.specs.Trace.{IsIn}
use Rattle.law_refine.proofs.Below.law_world.OfRuns.Added.{added_history, history_added, history_found}
use Rattle.law_refine.proofs.Below.law_world.OfSessions.OwnRun.{of_run}
use Rattle.law_commit.specs.Accepted.{HasRisingVersion}
use Rattle.law_commit.specs.Phases.Staged.{OpensAtRest}
use Rattle.law_commit.specs.Versions.Effects.{HasEffectsOfItsVersions, IsNextAt}
use Rattle.law_commit.proofs.OfPhases.LifeStages.{first_version, rising_version}
use Rattle.law_commit.proofs.OfVersions.Accepted.{IsSoAt, born_so, in_hand_busy, made_own, many_more}

-- what an effect of a session is behind these events of its own
abbrev pub IsSo : Seat → SessionState → List SessionEvent → Effect → Type 0
IsSo k first own effect = IsSoAt k first own effect.entry.serial.0 effect.version.0

-- ---- one step of a session
-- the effect is new, or was there before
made_or_was : (made : Option HistoryEntry) (version : Version) (history : List Effect) (effect : Effect) → IsIn effect (effect_made made version history)
    → ((made ≡ Some effect.entry) × (version ≡ effect.version)) ⊎ IsIn effect history
made_or_was None version history effect there = inr there
made_or_was (Some entry) version history effect (inl same) = inl (ap (λ (x : Effect). Some x.entry) same, ap (λ (x : Effect). x.version) same)
made_or_was (Some entry) version history effect (inr there) = inr there

-- it takes effect behind its reply, and then the session turns to a slot at most
record IsBorn (k : Seat) (n : Near SessionState) (effect : Effect) : Type 0 where
  reply : ℕ
  slots : List SessionEvent
  part : session_steps k n (session_ask k n.machine) ≡ slots ++ Replies reply ∷ []
  made : (session_next k n.machine reply).effect ≡ Some effect.entry
  version : n.machine.attempt.pending.request.version ≡ effect.version

word_born : (k : Seat) (n : Near SessionState) (reply : ℕ) (history : List Effect) (effect : Effect) (slots : List SessionEvent) → session_steps k n (session_ask k n.machine) ≡ slots ++ Replies reply ∷ []
    → IsIn effect (effect_made (session_next k n.machine reply).effect n.machine.attempt.pending.request.version history) → IsBorn k n effect ⊎ IsIn effect history
word_born k n reply history effect slots part there = elim (made_or_was (session_next k n.machine reply).effect n.machine.attempt.pending.request.version history effect there) [
  | inl new ↦ inl (record { reply = reply; slots = slots; part = part; made = new.0; version = new.1 })
  | inr was ↦ inr was
]

-- the reply to this ask
abbrev replied : Near SessionState → Ask Told → ℕ
replied n ask = reply_to n.words ask

-- and what the session does behind it
abbrev slots_behind : Seat → Near SessionState → Ask Told → List SessionEvent
slots_behind k n ask = session_slots n.actions (session_ask k (session_next k n.machine (replied n ask)))

step_born : (k : Seat) (n : Near SessionState) (ask : Ask Told) (history : List Effect) (effect : Effect) → session_ask k n.machine ≡ ask → IsIn effect (history_after k n.machine n.words ask history) → IsBorn k n effect ⊎ IsIn effect history
unfolding history_after session_steps
step_born k n (Done its) history effect asks there = inr there
step_born k n (Put slot action) history effect asks there = inr there
step_born k n (Take slot) history effect asks there = inr there
step_born k n (Load place) history effect asks there = word_born k n (replied n (Load place)) history effect (slots_behind k n (Load place)) (ap (session_steps k n) asks) there
step_born k n (Store place new) history effect asks there = word_born k n (replied n (Store place new)) history effect (slots_behind k n (Store place new)) (ap (session_steps k n) asks) there
step_born k n (Swap place new) history effect asks there = word_born k n (replied n (Swap place new)) history effect (slots_behind k n (Swap place new)) (ap (session_steps k n) asks) there
step_born k n (Cas place old new) history effect asks there = word_born k n (replied n (Cas place old new)) history effect (slots_behind k n (Cas place old new)) (ap (session_steps k n) asks) there
step_born k n (Add place count) history effect asks there = word_born k n (replied n (Add place count)) history effect (slots_behind k n (Add place count)) (ap (session_steps k n) asks) there
step_born k n (Max place count) history effect asks there = word_born k n (replied n (Max place count)) history effect (slots_behind k n (Max place count)) (ap (session_steps k n) asks) there

-- ---- one event of a life
record BornAt (n : Now) (event : Event) (effect : Effect) (number : ℕ) : Type 0 where
  moves : event ≡ Moves number
  state : SessionState
  found : slice_get n.sessions number ≡ Some state
  born : IsBorn (seat_at n number) (near n state) effect

abbrev BornBy : Now → Event → Effect → Type 0
BornBy n event effect = (number : ℕ) × BornAt n event effect number

found_born : (n : Now) (number : ℕ) (got : Option SessionState) (history : List Effect) (effect : Effect) → slice_get n.sessions number ≡ got → IsIn effect (history_found n (seat_at n number) got history)
    → BornBy n (Moves number) effect ⊎ IsIn effect history
unfolding history_found
found_born n number None history effect e there = inr there
found_born n number (Some s) history effect e there = elim (step_born (seat_at n number) (near n s) (session_ask (seat_at n number) s) history effect refl there) [
  | inl born ↦ inl (number, record { moves = refl; state = s; found = e; born = born })
  | inr was ↦ inr was
]

added_born : (n : Now) (event : Event) (history : List Effect) (effect : Effect) → IsIn effect (history_added n event history) → BornBy n event effect ⊎ IsIn effect history
unfolding history_added
added_born n (Moves number) history effect there = found_born n number (slice_get n.sessions number) history effect refl there
added_born n event history effect there = inr there

event_born : (w : World) (event : Event) (crashed : Bool) (effect : Effect) → w.now.crashed ≡ crashed → IsIn effect (happens w event).past.history → ((crashed ≡ false) × BornBy w.now event effect) ⊎ IsIn effect w.past.history
event_born w event true effect e there = inr (subst (λ (x : World). IsIn effect x.past.history) (is_over w event e) there)
event_born w event false effect e there =
    let added = ap (λ (x : World). x.past.history) (lived w event e) ∙ added_history w (life_goes w.now (read_by_keeper w) event) event in
    elim (added_born w.now event w.past.history effect (subst (λ (history : List Effect). IsIn effect history) added there)) [
      | inl born ↦ inl (refl, born)
      | inr was ↦ inr was
    ]

-- its own events are such
part_so : (n : Now) (number : ℕ) (s : SessionState) (part : List SessionEvent) → n.crashed ≡ false → slice_get n.sessions number ≡ Some s
    → session_steps (seat_at n number) (near n s) (session_ask (seat_at n number) s) ≡ part → session_part_of n number (Moves number) ≡ part
unfolding session_part
part_so n number s part alive found steps =
    let own : (number == number) ≡ true = grind (arith, nat_tests) in
    rw alive (rw found (rw own steps))

joined : (later before : List SessionEvent) (event : SessionEvent) → (later ++ event ∷ []) ++ before ≡ later ++ event ∷ before
joined [] before event = refl
joined (x ∷ later) before event = ap (λ (rest : List SessionEvent). x ∷ rest) (joined later before event)

-- ---- a life
born_here : (opening : World) (start : ℕ) (before : List Event) (event : Event) (session : ℕ) (first : SessionState) (effect : Effect) → guard.IsOpened opening.now start → IsOpenedWorld opening → OpensAtRest opening.now
    → slice_get opening.now.sessions session ≡ Some first → (run opening before).now.crashed ≡ false → BornAt (run opening before).now event effect session
    → IsSo (seat_at opening.now session) first (session_part_of (run opening before).now session event ++ session_events opening session before) effect
born_here opening start before event session first effect guarded opened rests was alive at =
    let n : Now = (run opening before).now in
    let k : Seat = seat_at opening.now session in
    let own : List SessionEvent = session_events opening session before in
    let s : SessionState = session_run k first own in
    let is_now : slice_get n.sessions session ≡ Some s = session_runs opening session first before was in
    let became : HasBecome opening before session first s = record { opened = opened; was = was; is_now = is_now } in
    let born : IsBorn (seat_at n session) (near n s) effect = subst (λ (x : SessionState). IsBorn (seat_at n session) (near n x) effect) (some_same at.state s (sym at.found ∙ is_now)) at.born in
    let first_opened : IsOpened first = opened.sessions session first was in
    let rises : HasRisingVersion k first own = rising_version opening start before session first s became guarded rests in
    let made = subst (λ (x : Seat). (session_next x s born.reply).effect ≡ Some effect.entry) (same_seat opening before session) born.made in
    let new = born_so k first born.reply own effect.entry first_opened (first_version opening session first s before became rests) rises made in
    let so : IsSo k first (Replies born.reply ∷ own) effect = subst (λ (v : Version). IsSoAt k first (Replies born.reply ∷ own) effect.entry.serial.0 v.0) born.version new in
    subst (λ (it : Event). IsSo k first (session_part_of n session it ++ own) effect) (sym at.moves)
    (subst (λ (part : List SessionEvent). IsSo k first (part ++ own) effect) (sym (part_so n session s (born.slots ++ Replies born.reply ∷ []) alive is_now born.part))
    (subst (λ (all : List SessionEvent). IsSo k first all effect) (sym (joined born.slots own (Replies born.reply)))
    (many_more k first born.slots (Replies born.reply ∷ own) effect.entry.serial.0 effect.version.0 first_opened so)))

its_number : (n : Now) (event : Event) (effect : Effect) (number : ℕ) → BornAt n event effect number → effect.entry.session ≡ number
its_number n event effect number at = made_own (seat_at n number) at.state at.born.reply effect.entry at.born.made

pub life_so : (opening : World) (start : ℕ) (events : List Event) (session : ℕ) (first : SessionState) (effect : Effect) → guard.IsOpened opening.now start → IsOpenedWorld opening → OpensAtRest opening.now
    → slice_get opening.now.sessions session ≡ Some first → effect.entry.session ≡ session → IsIn effect (run opening events).past.history
    → IsSo (seat_at opening.now session) first (session_events opening session events) effect
unfolding run session_events
life_so opening start [] session first effect guarded opened rests was own there = absurd (subst (λ (history : List Effect). IsIn effect history) opened.no_history there)
life_so opening start (event ∷ before) session first effect guarded opened rests was own there = elim (event_born (run opening before) event (run opening before).now.crashed effect refl there) [
  | inl new ↦ born_here opening start before event session first effect guarded opened rests was new.0
      (subst (BornAt (run opening before).now event effect) (sym (its_number (run opening before).now event effect new.1.0 new.1.1) ∙ own) new.1.1)
  | inr old ↦ many_more (seat_at opening.now session) first (session_part_of (run opening before).now session event) (session_events opening session before) effect.entry.serial.0 effect.version.0 (opened.sessions session first was)
      (life_so opening start before session first effect guarded opened rests was own old)
]

pub effects_so : (opening : World) (start : ℕ) (events : List Event) (session : ℕ) (first its : SessionState) → guard.IsOpened opening.now start → OpensAtRest opening.now → HasBecome opening events session first its
    → HasEffectsOfItsVersions opening session first its events
effects_so opening start events session first its guarded rests became effect there own = elim (life_so opening start events session first effect guarded became.opened rests became.was own there) [
  | inl taken ↦ inl taken
  | inr hand ↦ inr (of_run (λ (s : SessionState). IsNextAt s effect.entry.serial.0 effect.version.0) opening events session first its became (in_hand_busy _ effect.entry.serial.0 effect.version.0 hand))
]
