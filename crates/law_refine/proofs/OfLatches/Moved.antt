-- What a session's step is to its actor, and what an ask is to the words of the latches.
use Rattle.std.proofs.Common.{◌≡◌, ℕ, ◌∙◌, refl, sym, ap, subst, List, [], ◌∷◌, ◌++◌, Bool, true, false}
use Rattle.std.specs.Prelude.{Option, Some, None, slice_get, slice_set}
use Rattle.fkv_plane.specs.declared.actions.Action.{Action}
use Rattle.fkv_plane.specs.declared.asks.Ask.{Ask}
use Rattle.fkv_plane.specs.declared.asks.Ask.TheVariants.{Load, Store, Swap, Cas, Add, Max, Put, Take, Done}
use Rattle.fkv_plane.specs.declared.places.Places.{Places}
use Rattle.fkv_plane.specs.Asked.{asked, asked_place, word_at, words_changed, words_after, reply_to}
use Rattle.fkv_plane.specs.Passing.{passed}
use Rattle.fkv_plane.specs.Plane.{action_at}
use Rattle.fkv_plane.proofs.Shown.{passed_words, passed_reply}
use Rattle.fkv_latch.specs.declared.latching.Latching.{Latching}
use Rattle.fkv_latch.specs.declared.latching.Latching.TheVariants as latching
use Rattle.fkv_latch.specs.Latching.{latch_ask}
use Rattle.fkv_latch.specs.LatchWorld.{LatchEvent, Moves, Changes, LatchActor, LatchWorld, has_latch, is_at_rest, replied, latch_happens, latch_run}
use Rattle.fkv_latch.proofs.Shown.{moves, changes_other, changes_link}
use Rattle.law_world.specs.Below.fkv_session.Told.{Told}
use Rattle.law_world.specs.Below.fkv_session.Told.TheVariants as told
use Rattle.law_world.specs.Below.fkv_session.Sessions.{SessionState, Seat, bits_of, session_ask, is_word_ask}
use Rattle.law_world.specs.Below.fkv_world.Moves.{Near, session_gets, session_settled, session_replied, session_asks}
use Rattle.law_world.proofs.OfGuardSessions.AttemptsOuter.{HomesAreLow}
use Rattle.law_refine.specs.Latches.Latchers.{session_latching}
use Rattle.law_refine.specs.Latches.LatchEvents.{changed_at, changed_by, asked_by}
use Rattle.law_refine.specs.Latches.Shows.{KeepsLatch, SparesLatches}
use Rattle.law_refine.proofs.OfLatches.SessionLatches.{session_asks as its_asks}
use Rattle.law_refine.proofs.OfLatches.Seats.{Stands, Sits, rests_on, replies, settled, puts, gets, still, set_same}

-- a list of events after another
pub runs_on : (w : LatchWorld) (later before : List LatchEvent) → latch_run w (later ++ before) ≡ latch_run (latch_run w before) later
unfolding latch_run
runs_on w [] before = refl
runs_on w (event ∷ later) before = ap (λ x. latch_happens x event) (runs_on w later before)

changed_run : (w : LatchWorld) (place : Option ℕ) (f : ℕ → ℕ) → KeepsLatch w.places w.words place f → latch_run w (changed_at w.words place f) ≡ record w { words = words_changed w.words place f }
unfolding latch_run
changed_run w None f keeps = refl
changed_run w (Some place) f keeps = by_latch (has_latch w.places place) refl
  where
    by_latch : (b : Bool) → has_latch w.places place ≡ b → latch_happens w (Changes place (f (word_at w.words place))) ≡ record w { words = slice_set w.words place (f (word_at w.words place)) }
    by_latch true e = changes_link w place (f (word_at w.words place)) (keeps e)
    by_latch false e = changes_other w place (f (word_at w.words place)) e

keeps_then : {A : Type 0} (p : Places) (words : List ℕ) (ask : Ask A) → SparesLatches p words ask → KeepsLatch p words (asked_place ask) (asked ask)
keeps_then p words (Add place k) spares = λ has. let clash : true ≡ false = sym has ∙ spares in cc
keeps_then p words (Load place) spares = spares
keeps_then p words (Store place word) spares = spares
keeps_then p words (Swap place word) spares = spares
keeps_then p words (Cas place old new) spares = spares
keeps_then p words (Max place k) spares = spares
keeps_then p words (Put slot action) spares = tt
keeps_then p words (Take slot) spares = tt
keeps_then p words (Done its) spares = tt

-- an ask that spares latches changes its word
pub spared_run : {A : Type 0} (w : LatchWorld) (ask : Ask A) → SparesLatches w.places w.words ask → latch_run w (changed_by w.words ask) ≡ record w { words = words_after w.words ask }
spared_run w ask spares = changed_run w (asked_place ask) (asked ask) (keeps_then w.places w.words ask spares)

asked_works : {A : Type 0} (words : List ℕ) (i : ℕ) (step : Latching) (ask : Ask A) → is_at_rest step ≡ false → asked_by words i step ask ≡ Moves i ∷ []
asked_works words i latching.AtRest ask e = cc
asked_works words i (latching.AddsShare q) ask e = refl
asked_works words i (latching.GivesBack q) ask e = refl
asked_works words i (latching.DropsShare q) ask e = refl
asked_works words i (latching.LoadsWord q) ask e = refl
asked_works words i (latching.SetsExclusive q word) ask e = refl
asked_works words i (latching.DropsExclusive q) ask e = refl

pub rests_at : (step : Latching) → is_at_rest step ≡ true → step ≡ latching.AtRest
rests_at latching.AtRest e = refl
rests_at step e = cc

-- the session's own ask
pub asked_run : (k : Seat) (s : SessionState) (a : LatchActor) (w : LatchWorld) (i : ℕ) (works : Bool) → is_at_rest (session_latching s) ≡ works → slice_get w.actors i ≡ Some a → a.step ≡ session_latching s
    → (session_latching s ≡ latching.AtRest → SparesLatches w.places w.words (session_ask k s))
    → latch_run w (asked_by w.words i (session_latching s) (session_ask k s)) ≡ record w { words = words_after w.words (session_ask k s); actors = slice_set w.actors i (replied a (reply_to w.words (session_ask k s))) }
unfolding latch_run
asked_run k s a w i true e got same spares =
    let rests = rests_at (session_latching s) e in
    let there : slice_set w.actors i (replied a (reply_to w.words (session_ask k s))) ≡ w.actors = ap (λ x. slice_set w.actors i x) (rests_on a (reply_to w.words (session_ask k s)) (same ∙ rests)) ∙ set_same w.actors i a got in
    rw (rests, there) (spared_run w (session_ask k s) (spares rests))
asked_run k s a w i false e got same spares =
    let asks = its_asks k s e in
    let one = passed_words w.words (latch_ask (session_latching s)) told.Slept in
    let other = passed_reply w.words (latch_ask (session_latching s)) told.Slept in
    rw (asked_works w.words i (session_latching s) (session_ask k s) e, asks, one, other) (subst (λ x. latch_happens w (Moves i) ≡ record w { words = words_after w.words (latch_ask x); actors = slice_set w.actors i (replied a (reply_to w.words (latch_ask x))) }) same (moves w i a got))

-- what goes with an ask is none of a latch's
latch_is_word : (step : Latching) → is_at_rest step ≡ false → is_word_ask (passed (latch_ask step) told.Slept) ≡ true
unfolding latch_ask passed
latch_is_word latching.AtRest e = cc
latch_is_word (latching.AddsShare q) e = refl
latch_is_word (latching.GivesBack q) e = refl
latch_is_word (latching.DropsShare q) e = refl
latch_is_word (latching.LoadsWord q) e = refl
latch_is_word (latching.SetsExclusive q word) e = refl
latch_is_word (latching.DropsExclusive q) e = refl

no_word : (k : Seat) (s : SessionState) (ask : Ask Told) → session_ask k s ≡ ask → is_word_ask ask ≡ false → session_latching s ≡ latching.AtRest
no_word k s ask asks none = by_rest (is_at_rest (session_latching s)) refl
  where
    by_rest : (b : Bool) → is_at_rest (session_latching s) ≡ b → session_latching s ≡ latching.AtRest
    by_rest true e = rests_at (session_latching s) e
    by_rest false e = let clash : true ≡ false = sym (latch_is_word (session_latching s) e) ∙ ap is_word_ask (sym (its_asks k s e) ∙ asks) ∙ none in cc

pub record Settled (k : Seat) (n after : Near SessionState) (a : LatchActor) : Type 0 where
  pub stands : Stands k after.machine a
  pub words : after.words ≡ n.words

taken : (k : Seat) (s : SessionState) (a : LatchActor) (found : Option Action) → session_latching s ≡ latching.AtRest → Sits k s a → Stands k (session_gets k s found) a
taken k s a None rests sits = still k s a rests sits
taken k s a (Some action) rests sits = gets k s a action rests sits

settles : (k : Seat) (n : Near SessionState) (a : LatchActor) (ask : Ask Told) → HomesAreLow k.places (bits_of k) → session_ask k n.machine ≡ ask → Stands k n.machine a → Settled k n (session_settled k n ask) a
unfolding session_settled
settles k n a (Put slot action) homes asks stands =
    let rests = no_word k n.machine (Put slot action) asks refl in
    record { stands = puts k n.machine a slot action homes asks rests (settled k n.machine a rests stands); words = refl }
settles k n a (Take slot) homes asks stands =
    let rests = no_word k n.machine (Take slot) asks refl in
    record { stands = taken k n.machine a (action_at n.actions slot) rests (settled k n.machine a rests stands); words = refl }
settles k n a (Load place) homes asks stands = record { stands = stands; words = refl }
settles k n a (Store place word) homes asks stands = record { stands = stands; words = refl }
settles k n a (Swap place word) homes asks stands = record { stands = stands; words = refl }
settles k n a (Cas place old new) homes asks stands = record { stands = stands; words = refl }
settles k n a (Add place number) homes asks stands = record { stands = stands; words = refl }
settles k n a (Max place number) homes asks stands = record { stands = stands; words = refl }
settles k n a (Done its) homes asks stands = record { stands = stands; words = refl }

-- the session's step, with what goes with it
pub record HasMoved (k : Seat) (n after : Near SessionState) (ask : Ask Told) (a : LatchActor) : Type 0 where
  pub stands : Stands k after.machine (replied a (reply_to n.words ask))
  pub words : after.words ≡ words_after n.words ask

went_on : (k : Seat) (n : Near SessionState) (a : LatchActor) (ask : Ask Told) → HomesAreLow k.places (bits_of k) → (session_latching n.machine ≡ latching.AtRest → SparesLatches k.places n.words (session_ask k n.machine)) → Sits k n.machine a
    → HasMoved k n (session_settled k (session_replied k n ask) (session_ask k (session_replied k n ask).machine)) ask a
went_on k n a ask homes spares sits =
    let its = settles k (session_replied k n ask) (replied a (reply_to n.words ask)) (session_ask k (session_replied k n ask).machine) homes refl (replies k n.machine a n.words (reply_to n.words ask) homes spares sits) in
    record { stands = its.stands; words = its.words }

quiet : (k : Seat) (n : Near SessionState) (a : LatchActor) (s : SessionState) → session_latching n.machine ≡ latching.AtRest → Sits k n.machine a → Stands k s a → Stands k s (replied a 0)
quiet k n a s rests sits stands = subst (λ x. Stands k s x) (sym (rests_on a 0 (sits.step ∙ rests))) stands

pub moves_on : (k : Seat) (n : Near SessionState) (a : LatchActor) (ask : Ask Told) → HomesAreLow k.places (bits_of k) → session_ask k n.machine ≡ ask → (session_latching n.machine ≡ latching.AtRest → SparesLatches k.places n.words (session_ask k n.machine)) → Sits k n.machine a
    → HasMoved k n (session_asks k n ask) ask a
unfolding session_asks session_settled
moves_on k n a (Done its) homes asks spares sits =
    let rests = no_word k n.machine (Done its) asks refl in
    record { stands = quiet k n a n.machine rests sits (still k n.machine a rests sits); words = refl }
moves_on k n a (Put slot action) homes asks spares sits = record { stands = replies k n.machine a n.words 0 homes spares sits; words = refl }
moves_on k n a (Take slot) homes asks spares sits =
    let rests = no_word k n.machine (Take slot) asks refl in
    record { stands = quiet k n a (session_gets k n.machine (action_at n.actions slot)) rests sits (taken k n.machine a (action_at n.actions slot) rests sits); words = refl }
moves_on k n a (Load place) homes asks spares sits = went_on k n a (Load place) homes spares sits
moves_on k n a (Store place word) homes asks spares sits = went_on k n a (Store place word) homes spares sits
moves_on k n a (Swap place word) homes asks spares sits = went_on k n a (Swap place word) homes spares sits
moves_on k n a (Cas place old new) homes asks spares sits = went_on k n a (Cas place old new) homes spares sits
moves_on k n a (Add place number) homes asks spares sits = went_on k n a (Add place number) homes spares sits
moves_on k n a (Max place number) homes asks spares sits = went_on k n a (Max place number) homes spares sits
