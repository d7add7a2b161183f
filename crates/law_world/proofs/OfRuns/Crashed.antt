-- What a crash leaves, and that nothing else ends a life.
use Rattle.std.proofs.Common.{◌≡◌, ◌∙◌, ap, refl, ℕ, List, [], ◌∷◌, Bool, true, false}
use Rattle.std.specs.Prelude.{Option, Some, None, slice_get}
use Rattle.fkv_map.specs.declared.operations.Call.{Call}
use Rattle.fkv_session.specs.Sessions.{SessionState}
use Rattle.fkv_world.specs.Past.{Past, life_past}
use Rattle.fkv_world.specs.Runs.{World, happens, read_by_keeper, run}
use Rattle.fkv_world.specs.World.{Calls, Commits, Crashes, Event, KeeperMoves, Moves, Now, Turns, life_goes, session_calls, session_moves}
use Rattle.fkv_world.proofs.Shown.{lived, world_of, is_over, lives}
use Rattle.law_world.specs.Runs.Crashes.{NoneIsCrash, is_crash}

goes_crashed : (n : Now) (read : List ℕ) → life_goes n read Crashes ≡ record n { crashed = true }
unfolding life_goes
goes_crashed n read = refl

ended : (n : Now) → n.crashed ≡ true → n ≡ record n { crashed = true }
ended n e = ap (λ (b : Bool). record n { crashed = b }) e

ends : (w : World) (crashed : Bool) → w.now.crashed ≡ crashed → (happens w Crashes).now ≡ record w.now { crashed = true }
ends w true e = ap (λ (after : World). after.now) (is_over w Crashes e) ∙ ended w.now e
ends w false e = lives w Crashes e ∙ goes_crashed w.now (read_by_keeper w)

pub crash_ends : (w : World) → (happens w Crashes).now ≡ record w.now { crashed = true }
crash_ends w = ends w w.now.crashed refl

nothing_added : (n after : Now) (p : Past) → life_past n after Crashes p ≡ p
unfolding life_past
nothing_added n after p = refl

adds_none : (w : World) (crashed : Bool) → w.now.crashed ≡ crashed → (happens w Crashes).past ≡ w.past
unfolding world_of
adds_none w true e = ap (λ (after : World). after.past) (is_over w Crashes e)
adds_none w false e = ap (λ (after : World). after.past) (lived w Crashes e) ∙ nothing_added w.now (life_goes w.now (read_by_keeper w) Crashes) w.past

pub crash_past : (w : World) → (happens w Crashes).past ≡ w.past
crash_past w = adds_none w w.now.crashed refl

pub nothing_behind : (w : World) (later : List Event) → run (happens w Crashes) later ≡ happens w Crashes
unfolding run
nothing_behind w [] = refl
nothing_behind w (event ∷ before) =
    let same = nothing_behind w before in
    ap (λ (after : World). happens after event) same ∙ is_over (happens w Crashes) event (ap (λ (n : Now). n.crashed) (crash_ends w))

-- an event of an actor
called_alive : (n : Now) (session : ℕ) (call : Call) (found : Option SessionState) → (session_calls n session call found).crashed ≡ n.crashed
called_alive n session call None = refl
called_alive n session call (Some s) = refl

moved_alive : (n : Now) (session : ℕ) (found : Option SessionState) → (session_moves n session found).crashed ≡ n.crashed
moved_alive n session None = refl
moved_alive n session (Some s) = refl

goes_alive : (n : Now) (read : List ℕ) (event : Event) → is_crash event ≡ false → (life_goes n read event).crashed ≡ n.crashed
unfolding life_goes
goes_alive n read (Calls session call) e = called_alive n session call (slice_get n.sessions session)
goes_alive n read (Moves session) e = moved_alive n session (slice_get n.sessions session)
goes_alive n read (Commits kind) e = refl
goes_alive n read Turns e = refl
goes_alive n read (KeeperMoves granted done) e = refl
goes_alive n read Crashes e = cc

pub goes_on : (opening : World) (events : List Event) → opening.now.crashed ≡ false → NoneIsCrash events → (run opening events).now.crashed ≡ false
unfolding run
goes_on opening [] alive none = alive
goes_on opening (event ∷ before) alive none =
    let w : World = run opening before in let before_it = goes_on opening before alive none.1 in
    ap (λ (n : Now). n.crashed) (lives w event before_it) ∙ (goes_alive w.now (read_by_keeper w) event none.0 ∙ before_it)
