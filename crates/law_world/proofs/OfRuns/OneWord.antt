-- Each event changes one word at most, and the action of one slot at most.
use Rattle.std.proofs.Common.{◌≡◌, ◌≢◌, ℕ, ◌∙◌, List, refl, ap, sym, Bool, true, false}
use Rattle.std.specs.Prelude.{Option, Some, None, slice_get, slice_set}
use Rattle.fkv_base.specs.declared.shapes.Shape.{Shape}
use Rattle.fkv_plane.specs.declared.actions.Action.{Action}
use Rattle.fkv_plane.specs.declared.asks.Ask.{Ask}
use Rattle.fkv_plane.specs.declared.asks.Ask.TheVariants.{Put, Take, Done}
use Rattle.fkv_plane.specs.declared.places.Places.{Places}
use Rattle.fkv_plane.specs.Asked.{asked, asked_place, reply_to, words_after, words_changed}
use Rattle.fkv_epoch.proofs.Shown.{item_spared}
use Rattle.fkv_session.specs.declared.answers.Told.{Told}
use Rattle.fkv_session.specs.Sessions.{SessionState, Seat, session_ask, session_next}
use Rattle.fkv_keeper.specs.declared.answers.KeeperTold.{KeeperTold}
use Rattle.fkv_keeper.specs.declared.answers.KeeperTold.TheVariants.{Device}
use Rattle.fkv_keeper.specs.Keeping.{KeeperState, keeper_ask, keeper_next}
use Rattle.fkv_world.specs.Actors.{slot_asked, slot_of_step, place_named, slot_named, session_place_named, session_slot_named}
use Rattle.fkv_world.specs.Moves.{Near, session_settled, session_asks, keeper_settled, keeper_asks}
use Rattle.fkv_world.specs.Runs.{World, happens, read_by_keeper}
use Rattle.fkv_world.specs.World.{Event, Calls, Moves, Commits, Turns, KeeperMoves, Crashes, Now, seat_at, near, session_calls, session_moves, life_goes}
use Rattle.fkv_world.proofs.Shown.{lives, is_over}

-- what an ask does to every other word
changed_spared : (words : List ℕ) (at : Option ℕ) (f : ℕ → ℕ) (place : ℕ) → at ≢ Some place → slice_get (words_changed words at f) place ≡ slice_get words place
changed_spared words None f place other = refl
changed_spared words (Some its) f place other = item_spared words its place _ (λ same. other (ap Some (sym same)))

spared : {A : Type 0} (words : List ℕ) (ask : Ask A) (place : ℕ) → asked_place ask ≢ Some place → slice_get (words_after words ask) place ≡ slice_get words place
spared words ask place other = changed_spared words (asked_place ask) (asked ask) place other

-- a session's step writes as its ask does
settled_words : (k : Seat) (n : Near SessionState) (ask : Ask Told) → (session_settled k n ask).words ≡ n.words
unfolding session_settled
settled_words k n (Put slot action) = refl
settled_words k n (Take slot) = refl
settled_words k n ask = refl

asks_words : (k : Seat) (n : Near SessionState) (ask : Ask Told) → (session_asks k n ask).words ≡ words_after n.words ask
unfolding session_asks
asks_words k n (Put slot action) = settled_words k n (Put slot action)
asks_words k n (Take slot) = settled_words k n (Take slot)
asks_words k n (Done its) = refl
asks_words k n ask = settled_words k _ _

-- so does the keeper's
keeper_settled_words : (shape : Shape) (p : Places) (granted : Bool) (n : Near KeeperState) (ask : Ask KeeperTold) → (keeper_settled shape p granted n ask).words ≡ n.words
unfolding keeper_settled
keeper_settled_words shape p granted n (Put slot action) = refl
keeper_settled_words shape p granted n (Take slot) = refl
keeper_settled_words shape p granted n ask = refl

keeper_words : (shape : Shape) (p : Places) (granted done : Bool) (read : List ℕ) (n : Near KeeperState) (ask : Ask KeeperTold) → (keeper_asks shape p granted done read n ask).words ≡ words_after n.words ask
unfolding keeper_asks
keeper_words shape p granted done read n (Put slot action) = keeper_settled_words shape p granted n (Put slot action)
keeper_words shape p granted done read n (Take slot) = keeper_settled_words shape p granted n (Take slot)
keeper_words shape p granted done read n (Done Device) = refl
keeper_words shape p granted done read n (Done its) = refl
keeper_words shape p granted done read n ask = keeper_settled_words shape p granted _ _

pub session_writes : (w : World) (session : ℕ) (its : SessionState) → w.now.crashed ≡ false → slice_get w.now.sessions session ≡ Some its
    → (happens w (Moves session)).now.words ≡ words_after w.now.words (session_ask (seat_at w.now session) its)
unfolding life_goes
session_writes w session its alive found =
    ap (λ (n : Now). n.words) (lives w (Moves session) alive) ∙ (rw found (asks_words (seat_at w.now session) (near w.now its) (session_ask (seat_at w.now session) its)))

pub keeper_writes : (w : World) (granted done : Bool) → w.now.crashed ≡ false → (happens w (KeeperMoves granted done)).now.words ≡ words_after w.now.words (keeper_ask w.now.shape w.now.places w.now.keeper)
unfolding life_goes
keeper_writes w granted done alive =
    ap (λ (n : Now). n.words) (lives w (KeeperMoves granted done) alive) ∙ keeper_words w.now.shape w.now.places granted done (read_by_keeper w) (near w.now w.now.keeper) (keeper_ask w.now.shape w.now.places w.now.keeper)

called_words : (n : Now) (number : ℕ) (found : Option SessionState) (call : _) → (session_calls n number call found).words ≡ n.words
called_words n number None call = refl
called_words n number (Some x) call = refl

moved_words : (n : Now) (number : ℕ) (found : Option SessionState) (place : ℕ) → session_place_named (seat_at n number) found ≢ Some place → slice_get (session_moves n number found).words place ≡ slice_get n.words place
moved_words n number None place other = refl
moved_words n number (Some x) place other =
    ap (λ (words : List ℕ). slice_get words place) (asks_words (seat_at n number) (near n x) (session_ask (seat_at n number) x)) ∙ spared n.words (session_ask (seat_at n number) x) place other

goes_words : (n : Now) (read : List ℕ) (event : Event) (place : ℕ) → place_named n event ≢ Some place → slice_get (life_goes n read event).words place ≡ slice_get n.words place
unfolding life_goes
goes_words n read (Calls number call) place other = ap (λ (words : List ℕ). slice_get words place) (called_words n number (slice_get n.sessions number) call)
goes_words n read (Moves number) place other = moved_words n number (slice_get n.sessions number) place other
goes_words n read (Commits kind) place other = refl
goes_words n read Turns place other = refl
goes_words n read (KeeperMoves granted done) place other =
    ap (λ (words : List ℕ). slice_get words place) (keeper_words n.shape n.places granted done read (near n n.keeper) (keeper_ask n.shape n.places n.keeper)) ∙ spared n.words (keeper_ask n.shape n.places n.keeper) place other
goes_words n read Crashes place other = refl

either_way : {A : Type 0} (part : Now → A) (w : World) (event : Event) (crashed : Bool) → w.now.crashed ≡ crashed → part (life_goes w.now (read_by_keeper w) event) ≡ part w.now → part (happens w event).now ≡ part w.now
either_way part w event true e same = ap (λ (x : World). part x.now) (is_over w event e)
either_way part w event false e same = ap part (lives w event e) ∙ same

pub one_word : (w : World) (event : Event) (place : ℕ) → place_named w.now event ≢ Some place → slice_get (happens w event).now.words place ≡ slice_get w.now.words place
one_word w event place other = either_way (λ n. slice_get n.words place) w event w.now.crashed refl (goes_words w.now (read_by_keeper w) event place other)

-- the slots: an ask of a slot writes that one alone
slot_spared : (actions : List (Option Action)) (its slot : ℕ) (to : Option Action) → ◌≢◌ {A = Option ℕ} (Some its) (Some slot) → slice_get (slice_set actions its to) slot ≡ slice_get actions slot
slot_spared actions its slot to other = item_spared actions its slot to (λ same. other (ap Some (sym same)))

settled_actions : (k : Seat) (n : Near SessionState) (ask : Ask Told) (slot : ℕ) → slot_asked ask ≢ Some slot → slice_get (session_settled k n ask).actions slot ≡ slice_get n.actions slot
unfolding session_settled
settled_actions k n (Put its action) slot other = slot_spared n.actions its slot (Some action) other
settled_actions k n (Take its) slot other = slot_spared n.actions its slot None other
settled_actions k n ask slot other = refl

asks_actions : (k : Seat) (n : Near SessionState) (ask : Ask Told) (slot : ℕ) → slot_of_step ask (session_ask k (session_next k n.machine (reply_to n.words ask))) ≢ Some slot → slice_get (session_asks k n ask).actions slot ≡ slice_get n.actions slot
unfolding session_asks
asks_actions k n (Put its action) slot other = settled_actions k n (Put its action) slot other
asks_actions k n (Take its) slot other = settled_actions k n (Take its) slot other
asks_actions k n (Done its) slot other = refl
asks_actions k n ask slot other = settled_actions k _ _ slot other

keeper_settled_actions : (shape : Shape) (p : Places) (granted : Bool) (n : Near KeeperState) (ask : Ask KeeperTold) (slot : ℕ) → slot_asked ask ≢ Some slot
    → slice_get (keeper_settled shape p granted n ask).actions slot ≡ slice_get n.actions slot
unfolding keeper_settled
keeper_settled_actions shape p granted n (Put its action) slot other = slot_spared n.actions its slot (Some action) other
keeper_settled_actions shape p granted n (Take its) slot other = slot_spared n.actions its slot None other
keeper_settled_actions shape p granted n ask slot other = refl

keeper_actions : (shape : Shape) (p : Places) (granted done : Bool) (read : List ℕ) (n : Near KeeperState) (ask : Ask KeeperTold) (slot : ℕ)
    → slot_of_step ask (keeper_ask shape p (keeper_next shape p n.machine (reply_to n.words ask) granted)) ≢ Some slot
    → slice_get (keeper_asks shape p granted done read n ask).actions slot ≡ slice_get n.actions slot
unfolding keeper_asks
keeper_actions shape p granted done read n (Put its action) slot other = keeper_settled_actions shape p granted n (Put its action) slot other
keeper_actions shape p granted done read n (Take its) slot other = keeper_settled_actions shape p granted n (Take its) slot other
keeper_actions shape p granted done read n (Done Device) slot other = refl
keeper_actions shape p granted done read n (Done its) slot other = refl
keeper_actions shape p granted done read n ask slot other = keeper_settled_actions shape p granted _ _ slot other

called_actions : (n : Now) (number : ℕ) (found : Option SessionState) (call : _) → (session_calls n number call found).actions ≡ n.actions
called_actions n number None call = refl
called_actions n number (Some x) call = refl

moved_actions : (n : Now) (number : ℕ) (found : Option SessionState) (slot : ℕ) → session_slot_named n (seat_at n number) found ≢ Some slot
    → slice_get (session_moves n number found).actions slot ≡ slice_get n.actions slot
moved_actions n number None slot other = refl
moved_actions n number (Some x) slot other = asks_actions (seat_at n number) (near n x) (session_ask (seat_at n number) x) slot other

goes_actions : (n : Now) (read : List ℕ) (event : Event) (slot : ℕ) → slot_named n event ≢ Some slot → slice_get (life_goes n read event).actions slot ≡ slice_get n.actions slot
unfolding life_goes
goes_actions n read (Calls number call) slot other = ap (λ (actions : List (Option Action)). slice_get actions slot) (called_actions n number (slice_get n.sessions number) call)
goes_actions n read (Moves number) slot other = moved_actions n number (slice_get n.sessions number) slot other
goes_actions n read (Commits kind) slot other = refl
goes_actions n read Turns slot other = refl
goes_actions n read (KeeperMoves granted done) slot other = keeper_actions n.shape n.places granted done read (near n n.keeper) (keeper_ask n.shape n.places n.keeper) slot other
goes_actions n read Crashes slot other = refl

pub one_slot : (w : World) (event : Event) (slot : ℕ) → slot_named w.now event ≢ Some slot → slice_get (happens w event).now.actions slot ≡ slice_get w.now.actions slot
one_slot w event slot other = either_way (λ n. slice_get n.actions slot) w event w.now.crashed refl (goes_actions w.now (read_by_keeper w) event slot other)
