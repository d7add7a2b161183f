-- Each kind of event leads where the rules of the world lead.
use Rattle.std.proofs.Common.{◌≡◌, ◌∙◌, sym, ap, subst, ℕ, Bool, true, false, List, [], if◌then◌else◌, not, ◌&&◌, refl}
use Rattle.std.specs.Prelude.{Option, None}
use Rattle.fkv_base.specs.declared.commits.CommitKind.{CommitKind}
use Rattle.fkv_disk.specs.Calls.{Call as DeviceCall}
use Rattle.fkv_disk.specs.Kinds.{Kind, Foretold}
use Rattle.fkv_flush.specs.Devices.{Adds}
use Rattle.fkv_keeper.specs.KeeperRun.{is_in_hand}
use Rattle.fkv_keeper.specs.Keeping.{KeeperModel, KeeperState, commit_asked, turn_asked}
use Rattle.fkv_map.specs.declared.operations.Call.{Call}
use Rattle.fkv_plane.specs.Plane.{Plane}
use Rattle.fkv_session.specs.Sessions.{Sitter}
use Rattle.fkv_world.specs.Moves.{Near, keeper_moved}
use Rattle.fkv_world.specs.World.{Event, Now, KeeperMoves, near, with_keeper, keeper_asked, life_goes, happens_now}
use Rattle.fkv_core.specs.declared.events.Event as event
use Rattle.fkv_core.specs.declared.events.Event.TheVariants as events
use Rattle.fkv_core.specs.declared.events.Told.{Told}
use Rattle.fkv_core.specs.Told.{IsAnswerBehind, IsTold, ends_here}
use Rattle.fkv_core.specs.Worlds.{AreSeated, BeginsNoSweep, AreSessionCalls, AreSessionMoves, EventUses, IsKeeperMove, IsStep, LiveEventUses, beside, kinds_behind, live_kinds, may_sweep, states_of, took_place, device_gives, event_calls, calls_made}
use Rattle.fkv_core.specs.Lives.{LeadsAnyOn}
use Rattle.fkv_core.proofs.Answered.{lived, told_so}
use Rattle.fkv_core.proofs.Lives.{leads_any_on, leads_on}
use Rattle.fkv_core.proofs.NoSweep.{commit_none, turn_none}
use Rattle.fkv_core.proofs.Seated.{with_plane, session_called_so, session_moved_so}

alive : {A : Type 0} (crashed : Bool) (was after : A) → crashed ≡ false → (if crashed then was else after) ≡ after
alive true was after e = cc
alive false was after e = refl

with_life : (its : event.Event) (n after : Now) (told : Option Told) (failed failed' : ℕ) (refuses refuses' : ℕ → Bool) (expects expects' : List Kind → Foretold) (honest : Type 0) (seen seen' : List ℕ) (may_leave may_leave' : List ℕ → Type 0) (granted done : Bool) (read : List ℕ)
    → after ≡ happens_now n read (took_place its granted done) → (may_sweep its ≡ false → BeginsNoSweep n.keeper after.keeper) → IsTold n.crashed n after (took_place its granted done) told → EventUses n.crashed n its done failed failed' refuses refuses' → expects' ≡ kinds_behind n.crashed n its done expects → (honest → after ≡ happens_now n (device_gives n seen) (took_place its granted done))
    → (honest → Adds (calls_made n (took_place its granted done)) seen seen' may_leave may_leave') → IsStep its n after told failed failed' refuses refuses' expects expects' honest seen seen' may_leave may_leave'
with_life its n after told failed failed' refuses refuses' expects expects' honest seen seen' may_leave may_leave' granted done read now no_sweep tells uses kinds as_read wrote = record {
  granted = granted;
  done = done;
  read = read;
  now = now;
  no_sweep = no_sweep;
  tells = tells;
  uses = uses;
  kinds = kinds;
  as_read = as_read;
  wrote = wrote;
  life = λ claim. leads_on n after took told seen seen' may_leave may_leave' (any claim);
  any_life = any;
}
  where
    took : Event
    took = took_place its granted done

    any : honest → LeadsAnyOn n after took told seen seen' may_leave may_leave'
    any claim = leads_any_on n after took told seen seen' may_leave may_leave' tells (as_read claim) (wrote claim)

-- after a crash nothing happens
pub no_step : (its : event.Event) (n : Now) (failed : ℕ) (refuses : ℕ → Bool) (expects : List Kind → Foretold) (honest : Type 0) (seen : List ℕ) (may_leave : List ℕ → Type 0) → n.crashed ≡ true → (told : Option Told) → told ≡ None → IsStep its n n told failed failed refuses refuses expects expects honest seen seen may_leave may_leave
no_step its n failed refuses expects honest seen may_leave over told none =
    let still : (event : Event) (read : List ℕ) → n ≡ happens_now n read event = λ event read. sym (ap (λ (crashed : Bool). if crashed then n else life_goes n read event) over) in
    with_life its n n told failed failed refuses refuses expects expects honest seen seen may_leave may_leave true true [] (still (took_place its true true) []) (λ none sweeps. sweeps) (subst (λ (crashed : Bool). IsTold crashed n n (took_place its true true) told) (sym over) none) (rw over (refl, refl)) (rw over refl)
    (λ claim. still (took_place its true true) (device_gives n seen))
    (λ claim. subst (λ (made : List DeviceCall). Adds made seen seen may_leave may_leave) (sym (ap (λ (crashed : Bool). if crashed then [] else event_calls n (took_place its true true)) over)) (λ opening calls was. was))

-- an event that makes no call of the device
quiet_step : (its : event.Event) (n after : Now) (told : Option Told) (failed : ℕ) (refuses : ℕ → Bool) (expects : List Kind → Foretold) (honest : Type 0) (seen : List ℕ) (may_leave : List ℕ → Type 0) → n.crashed ≡ false
    → ((read : List ℕ) → after ≡ life_goes n read (took_place its true true)) → BeginsNoSweep n.keeper after.keeper → IsTold n.crashed n after (took_place its true true) told → LiveEventUses n its true failed failed refuses refuses → expects ≡ live_kinds n its true expects → event_calls n (took_place its true true) ≡ []
    → IsStep its n after told failed failed refuses refuses expects expects honest seen seen may_leave may_leave
quiet_step its n after told failed refuses expects honest seen may_leave lives goes no_sweep tells uses kinds quiet =
    let took : Event = took_place its true true in
    with_life its n after told failed failed refuses refuses expects expects honest seen seen may_leave may_leave true true []
    (goes [] ∙ sym (alive n.crashed n (life_goes n [] took) lives))
    (λ none. no_sweep) tells (rw lives uses) (rw lives kinds)
    (λ claim. goes (device_gives n seen) ∙ sym (alive n.crashed n (life_goes n (device_gives n seen) took) lives))
    (λ claim. subst (λ (made : List DeviceCall). Adds made seen seen may_leave may_leave) (sym (alive n.crashed [] (event_calls n took) lives ∙ quiet)) (λ opening calls was. was))

pub call_step : (n : Now) (number : ℕ) (call : Call) (sitters sitters' : List Sitter) (ended : Bool) (told : Option Told) (failed : ℕ) (refuses : ℕ → Bool) (expects : List Kind → Foretold) (honest : Type 0) (seen : List ℕ) (may_leave : List ℕ → Type 0) → n.crashed ≡ false
    → AreSeated n.shape n.places sitters → AreSessionCalls number call sitters sitters' ended
    → IsAnswerBehind ended (events.Call number call) (record n { sessions = states_of sitters' }) told
    → IsStep (events.Call number call) (record n { sessions = states_of sitters }) (record n { sessions = states_of sitters' }) told failed failed refuses refuses expects expects honest seen seen may_leave may_leave
unfolding life_goes
call_step n number call sitters sitters' ended told failed refuses expects honest seen may_leave lives seated its tells =
    let before : Now = record n { sessions = states_of sitters } in
    let after : Now = record n { sessions = states_of sitters' } in
    let so = session_called_so n number call sitters sitters' ended seated its in
    let over = lived n.crashed (ends_here (events.Call number call) before after) ended lives so.over in
    quiet_step (events.Call number call) (record n { sessions = states_of sitters }) (record n { sessions = states_of sitters' }) told failed refuses expects honest seen may_leave lives (λ read. so.is) (λ sweeps. sweeps) (told_so (events.Call number call) before after true true ended told over tells) (refl, refl) refl refl

pub move_step : (n : Now) (number : ℕ) (plane plane' : Plane) (sitters sitters' : List Sitter) (ended : Bool) (told : Option Told) (failed : ℕ) (refuses : ℕ → Bool) (expects : List Kind → Foretold) (honest : Type 0) (seen : List ℕ) (may_leave : List ℕ → Type 0) → n.crashed ≡ false
    → AreSeated n.shape n.places sitters → AreSessionMoves number plane plane' sitters sitters' ended
    → IsAnswerBehind ended (events.Move number) (with_plane n plane' sitters') told
    → IsStep (events.Move number) (with_plane n plane sitters) (with_plane n plane' sitters') told failed failed refuses refuses expects expects honest seen seen may_leave may_leave
unfolding life_goes
move_step n number plane plane' sitters sitters' ended told failed refuses expects honest seen may_leave lives seated its tells =
    let before : Now = with_plane n plane sitters in
    let after : Now = with_plane n plane' sitters' in
    let so = session_moved_so n number plane plane' sitters sitters' ended seated its in
    let over = lived n.crashed (ends_here (events.Move number) before after) ended lives so.over in
    quiet_step (events.Move number) (with_plane n plane sitters) (with_plane n plane' sitters') told failed refuses expects honest seen may_leave lives (λ read. so.is) (λ sweeps. sweeps) (told_so (events.Move number) before after true true ended told over tells) (refl, refl) refl refl

-- the world with another keeper of its store
abbrev pub kept : Now → KeeperModel → Now
kept n k = record n { shape = k.shape; places = k.places; keeper = k.state }

abbrev pub keeper_of : Now → KeeperModel
keeper_of n = record { shape = n.shape; places = n.places; state = n.keeper }

asked_so : (n : Now) (k : KeeperModel) (begun : KeeperState) → k ≡ record { shape = n.shape; places = n.places; state = keeper_asked n.keeper begun } → kept n k ≡ with_keeper n (near n (keeper_asked n.keeper begun))
asked_so n k begun e = ap (λ (it : KeeperModel). kept n it) e

asked_none : (n : Now) (k : KeeperModel) (begun : KeeperState) → k ≡ record { shape = n.shape; places = n.places; state = keeper_asked n.keeper begun } → BeginsNoSweep n.keeper (keeper_asked n.keeper begun) → BeginsNoSweep n.keeper k.state
asked_none n k begun e none = subst (λ (it : KeeperModel). BeginsNoSweep n.keeper it.state) (sym e) none

pub commit_step : (n : Now) (kind : CommitKind) (k : KeeperModel) (ended : Bool) (told : Option Told) (failed : ℕ) (refuses : ℕ → Bool) (expects : List Kind → Foretold) (honest : Type 0) (seen : List ℕ) (may_leave : List ℕ → Type 0) → n.crashed ≡ false
    → k ≡ record { shape = n.shape; places = n.places; state = keeper_asked n.keeper (commit_asked n.keeper kind) } → ended ≡ (not (is_in_hand n.keeper.step) && not (is_in_hand k.state.step)) → IsAnswerBehind ended (events.Commit kind) (kept n k) told
    → IsStep (events.Commit kind) n (kept n k) told failed failed refuses refuses expects expects honest seen seen may_leave may_leave
unfolding life_goes
commit_step n kind k ended told failed refuses expects honest seen may_leave lives e ends tells =
    let over = lived n.crashed (ends_here (events.Commit kind) n (kept n k)) ended lives ends in
    quiet_step (events.Commit kind) n (kept n k) told failed refuses expects honest seen may_leave lives (λ read. asked_so n k (commit_asked n.keeper kind) e) (asked_none n k (commit_asked n.keeper kind) e (commit_none n.keeper kind)) (told_so (events.Commit kind) n (kept n k) true true ended told over tells) (refl, refl) refl refl

pub turn_step : (n : Now) (k : KeeperModel) (ended : Bool) (told : Option Told) (failed : ℕ) (refuses : ℕ → Bool) (expects : List Kind → Foretold) (honest : Type 0) (seen : List ℕ) (may_leave : List ℕ → Type 0) → n.crashed ≡ false
    → k ≡ record { shape = n.shape; places = n.places; state = keeper_asked n.keeper (turn_asked n.keeper) } → ended ≡ (not (is_in_hand n.keeper.step) && not (is_in_hand k.state.step)) → IsAnswerBehind ended events.Turn (kept n k) told
    → IsStep events.Turn n (kept n k) told failed failed refuses refuses expects expects honest seen seen may_leave may_leave
unfolding life_goes
turn_step n k ended told failed refuses expects honest seen may_leave lives e ends tells =
    let over = lived n.crashed (ends_here events.Turn n (kept n k)) ended lives ends in
    quiet_step events.Turn n (kept n k) told failed refuses expects honest seen may_leave lives (λ read. asked_so n k (turn_asked n.keeper) e) (asked_none n k (turn_asked n.keeper) e (turn_none n.keeper)) (told_so events.Turn n (kept n k) true true ended told over tells) (refl, refl) refl refl

pub crash_step : (n : Now) (told : Option Told) (failed : ℕ) (refuses : ℕ → Bool) (expects : List Kind → Foretold) (honest : Type 0) (seen : List ℕ) (may_leave : List ℕ → Type 0) → n.crashed ≡ false → told ≡ None → IsStep events.Crash n (record n { crashed = true }) told failed failed refuses refuses expects expects honest seen seen may_leave may_leave
unfolding life_goes
crash_step n told failed refuses expects honest seen may_leave lives none =
    let over = lived n.crashed (ends_here events.Crash n (record n { crashed = true })) false lives refl in
    quiet_step events.Crash n (record n { crashed = true }) told failed refuses expects honest seen may_leave lives (λ read. refl) (λ sweeps. sweeps) (told_so events.Crash n (record n { crashed = true }) true true false told over none) (refl, refl) refl refl

-- the world with other words and actions, and another keeper of its store
abbrev pub kept_beside : Now → Plane → KeeperModel → Now
kept_beside n plane k = record n { shape = k.shape; places = k.places; words = plane.words; actions = plane.actions; keeper = k.state }

put_back : (n : Now) (plane : Plane) (k : KeeperModel) (goes : Near KeeperState) → k ≡ record (keeper_of n) { state = k.state } → beside plane k.state ≡ goes → kept_beside n plane k ≡ with_keeper n goes
put_back n plane k goes store e = ap (λ (it : KeeperModel). kept_beside n plane it) store ∙ ap (λ (it : Near KeeperState). with_keeper n it) e

-- by each of the two events
abbrev pub keeper_event : Bool → event.Event
keeper_event true = events.SweepMove
keeper_event false = events.KeeperMove

pub keeper_step : (sweeps : Bool) (n : Now) (plane' : Plane) (k' : KeeperModel) (ended : Bool) (told : Option Told) (failed failed' : ℕ) (refuses refuses' : ℕ → Bool) (expects expects' : List Kind → Foretold) (honest : Type 0) (seen seen' : List ℕ) (may_leave may_leave' : List ℕ → Type 0) → n.crashed ≡ false
    → IsKeeperMove sweeps (record { words = n.words; actions = n.actions }) (keeper_of n) plane' k' failed failed' refuses refuses' expects expects' honest seen seen' may_leave may_leave' → ended ≡ (is_in_hand n.keeper.step && not (is_in_hand k'.state.step)) → IsAnswerBehind ended (keeper_event sweeps) (kept_beside n plane' k') told
    → IsStep (keeper_event sweeps) n (kept_beside n plane' k') told failed failed' refuses refuses' expects expects' honest seen seen' may_leave may_leave'
unfolding life_goes
keeper_step false n plane' k' ended told failed failed' refuses refuses' expects expects' honest seen seen' may_leave may_leave' lives its ends tells =
    let over = lived n.crashed (ends_here events.KeeperMove n (kept_beside n plane' k')) ended lives ends in
    let took : Event = KeeperMoves its.granted its.done in
    let goes : (read : List ℕ) → Near KeeperState = λ read. keeper_moved n.shape n.places its.granted its.done read (near n n.keeper) in
    with_life events.KeeperMove n (kept_beside n plane' k') told failed failed' refuses refuses' expects expects' honest seen seen' may_leave may_leave' its.granted its.done its.read
    (put_back n plane' k' (goes its.read) its.store its.moved ∙ sym (alive n.crashed n (life_goes n its.read took) lives))
    its.no_sweep
    (told_so events.KeeperMove n (kept_beside n plane' k') its.granted its.done ended told over tells) (rw lives its.uses) (rw lives its.kinds)
    (λ claim. put_back n plane' k' (goes (device_gives n seen)) its.store (its.as_read claim) ∙ sym (alive n.crashed n (life_goes n (device_gives n seen) took) lives))
    (λ claim. subst (λ (made : List DeviceCall). Adds made seen seen' may_leave may_leave') (sym (alive n.crashed [] (event_calls n took) lives)) (its.wrote claim))
keeper_step true n plane' k' ended told failed failed' refuses refuses' expects expects' honest seen seen' may_leave may_leave' lives its ends tells =
    let over = lived n.crashed (ends_here events.SweepMove n (kept_beside n plane' k')) ended lives ends in
    let took : Event = KeeperMoves its.granted its.done in
    let goes : (read : List ℕ) → Near KeeperState = λ read. keeper_moved n.shape n.places its.granted its.done read (near n n.keeper) in
    with_life events.SweepMove n (kept_beside n plane' k') told failed failed' refuses refuses' expects expects' honest seen seen' may_leave may_leave' its.granted its.done its.read
    (put_back n plane' k' (goes its.read) its.store its.moved ∙ sym (alive n.crashed n (life_goes n its.read took) lives))
    its.no_sweep
    (told_so events.SweepMove n (kept_beside n plane' k') its.granted its.done ended told over tells) (rw lives its.uses) (rw lives its.kinds)
    (λ claim. put_back n plane' k' (goes (device_gives n seen)) its.store (its.as_read claim) ∙ sym (alive n.crashed n (life_goes n (device_gives n seen) took) lives))
    (λ claim. subst (λ (made : List DeviceCall). Adds made seen seen' may_leave may_leave') (sym (alive n.crashed [] (event_calls n took) lives)) (its.wrote claim))
