-- An event that finds nothing to do leaves the world as it was, all that is past too.
use Rattle.std.proofs.Common.{◌≡◌, ℕ, zero, suc, ◌∙◌, List, [], ◌∷◌, refl, ap, sym, arith, Bool, true, false}
use Rattle.std.specs.Prelude.{⊤, Some, None, slice_get, slice_set}
use Rattle.std.proofs.lemmas.Bool.Decides.{nat_tests}
use Rattle.fkv_map.specs.declared.operations.Call.{Call}
use Rattle.fkv_map.specs.declared.operations.Call.TheVariants.{Refresh}
use Rattle.fkv_base.specs.declared.commits.CommitKind.{CommitKind}
use Rattle.fkv_plane.specs.declared.asks.Ask.TheVariants.{Done}
use Rattle.fkv_session.specs.declared.answers.Told.{Told}
use Rattle.fkv_session.specs.declared.sessions.Sitting.{Sitting}
use Rattle.fkv_session.specs.declared.sessions.Sitting.TheVariants.{Idle}
use Rattle.fkv_session.specs.Sessions.{SessionState, Seat, is_busy, session_ask, sitting_ask}
use Rattle.fkv_keeper.specs.declared.answers.KeeperTold.{KeeperTold}
use Rattle.fkv_keeper.specs.declared.answers.KeeperTold.TheVariants.{Device, Turned, TurnRefused, Begun, CommitRefused}
use Rattle.fkv_keeper.specs.declared.keepers.Keeping.{Keeping}
use Rattle.fkv_keeper.specs.declared.keepers.Keeping.TheVariants.{Ended}
use Rattle.fkv_keeper.specs.Keeping.{KeeperState, keeper_ask, keeping_ask, end_told, turn_over}
use Rattle.fkv_keeper.specs.KeeperRun.{is_in_hand}
use Rattle.fkv_world.specs.Actors.{is_of_session}
use Rattle.fkv_world.specs.Moves.{session_asks, keeper_asks}
use Rattle.fkv_world.specs.Past.{Past, history_after, life_past}
use Rattle.fkv_world.specs.Runs.{World, happens, read_by_keeper, run}
use Rattle.fkv_world.specs.World.{Event, Calls, Moves, Commits, Turns, KeeperMoves, Now, seat_at, life_goes}
use Rattle.fkv_world.proofs.Shown.{is_over, lived, session_apart, world_of}

-- what is read at an index and written back
pub item_back : {X : Type 0} (xs : List X) (i : ℕ) (x : X) → slice_get xs i ≡ Some x → slice_set xs i x ≡ xs
item_back [] i x found = refl
item_back (y ∷ ys) zero x found = let same : y ≡ x = cc in ap (λ (z : _). z ∷ ys) (sym same)
item_back (y ∷ ys) (suc i) x found = ap (λ (zs : List _). y ∷ zs) (item_back ys i x found)

-- the world stays where what is now does, and nothing is added
now_past : Now → Past → World
now_past n p = record { now = n; past = p }

stays : (w : World) (event : Event) (crashed : Bool) → w.now.crashed ≡ crashed → life_goes w.now (read_by_keeper w) event ≡ w.now → life_past w.now w.now event w.past ≡ w.past → happens w event ≡ w
unfolding world_of now_past
stays w event true e same none = is_over w event e
stays w event false e same none = lived w event e ∙ (ap (world_of w event) same ∙ ap (λ (p : Past). now_past w.now p) none)

pub no_session : (w : World) (session : ℕ) (call : Call) → slice_get w.now.sessions session ≡ None → (happens w (Calls session call) ≡ w) × (happens w (Moves session) ≡ w)
unfolding life_goes life_past
no_session w session call none = (stays w (Calls session call) w.now.crashed refl (rw none refl) (rw none refl), stays w (Moves session) w.now.crashed refl (rw none refl) (rw none refl))

-- so a session that isn't there never comes
none_by : (w : World) (event : Event) (session : ℕ) (own : Bool) → is_of_session session event ≡ own → slice_get w.now.sessions session ≡ None → slice_get (happens w event).now.sessions session ≡ None
none_by w event session false e none = session_apart w event session e ∙ none
none_by w (Calls at call) session true e none =
    let same : at ≡ session = grind (arith, nat_tests, e) in
    ap (λ (x : World). slice_get x.now.sessions session) (no_session w at call (ap (slice_get w.now.sessions) same ∙ none)).0 ∙ none
none_by w (Moves at) session true e none =
    let same : at ≡ session = grind (arith, nat_tests, e) in
    ap (λ (x : World). slice_get x.now.sessions session) (no_session w at Refresh (ap (slice_get w.now.sessions) same ∙ none)).1 ∙ none
none_by w event session true e none = cc

pub none_then : (w : World) (event : Event) (session : ℕ) → slice_get w.now.sessions session ≡ None → slice_get (happens w event).now.sessions session ≡ None
none_then w event session none = none_by w event session (is_of_session session event) refl none

pub none_ever : (opening : World) (events : List Event) (session : ℕ) → slice_get opening.now.sessions session ≡ None → slice_get (run opening events).now.sessions session ≡ None
unfolding run
none_ever opening [] session none = none
none_ever opening (event ∷ before) session none = none_then (run opening before) event session (none_ever opening before session none)

pub in_hand : (w : World) (session : ℕ) (call : Call) (its : SessionState) → slice_get w.now.sessions session ≡ Some its → is_busy its.step ≡ true → happens w (Calls session call) ≡ w
unfolding life_goes life_past
in_hand w session call its found busy = stays w (Calls session call) w.now.crashed refl (rw found (rw busy (ap (λ (xs : List SessionState). record w.now { sessions = xs }) (item_back w.now.sessions session its found)))) (rw found (rw busy refl))

-- a session that is idle asks for nothing
pub idle_ask : (k : Seat) (s : SessionState) (step : Sitting) → is_busy step ≡ false → (told : Told) × (sitting_ask k s step ≡ Done told)
unfolding sitting_ask
idle_ask k s (Idle told) e = (told, refl)
idle_ask k s step e = cc

pub none_in_hand : (w : World) (session : ℕ) (its : SessionState) → slice_get w.now.sessions session ≡ Some its → is_busy its.step ≡ false → happens w (Moves session) ≡ w
unfolding life_goes life_past session_asks history_after
none_in_hand w session its found idle =
    let told : Told = (idle_ask (seat_at w.now session) its its.step idle).0 in
    let asks : session_ask (seat_at w.now session) its ≡ Done told = (idle_ask (seat_at w.now session) its its.step idle).1 in
    stays w (Moves session) w.now.crashed refl
    (rw found (rw asks (ap (λ (xs : List SessionState). record w.now { sessions = xs }) (item_back w.now.sessions session its found))))
    (rw found (rw asks (rw idle refl)))

pub keeper_in_hand : (w : World) (kind : CommitKind) → is_in_hand w.now.keeper.step ≡ true → (happens w (Commits kind) ≡ w) × (happens w Turns ≡ w)
unfolding life_goes life_past
keeper_in_hand w kind busy = (stays w (Commits kind) w.now.crashed refl (rw busy refl) (rw busy refl), stays w Turns w.now.crashed refl (rw busy refl) (rw busy refl))

-- a keeper that is at its end asks for no word, and for no call of the device
abbrev IsTold : KeeperTold → Type 0
IsTold Device = ⊥
IsTold told = ⊤

end_is_told : (s : KeeperState) (its : KeeperTold) → IsTold (end_told its (turn_over s))
end_is_told s Device = tt
end_is_told s (Turned finished full) = tt
end_is_told s (TurnRefused why) = tt
end_is_told s (Begun number) = tt
end_is_told s (CommitRefused why) = tt

pub ended_ask : (w : Now) (step : Keeping) → is_in_hand step ≡ false → (told : KeeperTold) × (keeping_ask w.shape w.places w.keeper step ≡ Done told) × IsTold told
unfolding keeping_ask
ended_ask w (Ended its) e = (end_told its (turn_over w.keeper), refl, end_is_told w.keeper its)
ended_ask w step e = cc

keeper_rests : (w : World) (granted done : Bool) (told : KeeperTold) → IsTold told → keeper_ask w.now.shape w.now.places w.now.keeper ≡ Done told → is_in_hand w.now.keeper.step ≡ false → happens w (KeeperMoves granted done) ≡ w
unfolding life_goes life_past keeper_asks
keeper_rests w granted done Device its asks ended = absurd its
keeper_rests w granted done (Turned finished full) its asks ended = stays w (KeeperMoves granted done) w.now.crashed refl (rw asks refl) (rw asks (rw ended refl))
keeper_rests w granted done (TurnRefused why) its asks ended = stays w (KeeperMoves granted done) w.now.crashed refl (rw asks refl) (rw asks (rw ended refl))
keeper_rests w granted done (Begun number) its asks ended = stays w (KeeperMoves granted done) w.now.crashed refl (rw asks refl) (rw asks (rw ended refl))
keeper_rests w granted done (CommitRefused why) its asks ended = stays w (KeeperMoves granted done) w.now.crashed refl (rw asks refl) (rw asks (rw ended refl))

pub keeper_none_in_hand : (w : World) (granted done : Bool) → is_in_hand w.now.keeper.step ≡ false → happens w (KeeperMoves granted done) ≡ w
keeper_none_in_hand w granted done ended =
    let its : (told : KeeperTold) × (keeper_ask w.now.shape w.now.places w.now.keeper ≡ Done told) × IsTold told = ended_ask w.now w.now.keeper.step ended in
    keeper_rests w granted done its.0 its.2 its.1 ended
