-- A turn and a commit that are asked for, where a call may be in hand; and what is known of the keeper as offsets rise.
use Rattle.std.proofs.Common.{◌≡◌, ℕ, [], ◌∷◌, refl, Bool, true, false, arith}
use Rattle.std.specs.Prelude.{Some, None, slice_get, if◌then◌else◌}
use Rattle.fkv_plane.specs.declared.actions.Action.{Action}
use Rattle.fkv_plane.specs.declared.actions.Action.TheVariants as act
use Rattle.fkv_plane.specs.declared.places.Places.{Places}
use Rattle.fkv_base.specs.declared.commits.CommitKind.{CommitKind}
use Rattle.fkv_commit.specs.declared.entering.Entering.{Entering}
use Rattle.fkv_commit.specs.declared.entering.Entering.TheVariants as enter
use Rattle.fkv_commit.specs.declared.seeking.Seeking.{Seeking}
use Rattle.fkv_commit.specs.declared.seeking.Seeking.TheVariants as seek
use Rattle.fkv_commit.specs.declared.starting.Starting.{Starting}
use Rattle.fkv_commit.specs.declared.starting.Starting.TheVariants as start
use Rattle.fkv_commit.specs.Deferring.{DeferState, action_of}
use Rattle.fkv_commit.specs.Entering.{EnterState}
use Rattle.fkv_commit.specs.Seeking.{SeekState}
use Rattle.fkv_commit.specs.Starting.{StartState}
use Rattle.fkv_flush.specs.GuardLevels.{Levels, levels_of, Rises}
use Rattle.fkv_flush.specs.GuardSeen.{LastSeen, IsStored}
use Rattle.fkv_flush.specs.GuardWorld.{Actor, GuardNow, Begins}
use Rattle.fkv_flush.proofs.Shown.{Fits}
use Rattle.fkv_keeper.specs.declared.keepers.Keeping.{Keeping}
use Rattle.fkv_keeper.specs.declared.keepers.Keeping.TheVariants as keeping
use Rattle.fkv_keeper.specs.Keeping.{KeeperState, commit_asked, serves_alone, turn_asked}
use Rattle.fkv_world.specs.World.{keeper_asked}
use Rattle.law_world.specs.GuardKeeper.CommitShown.{StartKnows, EnterKnows, SeekKnows, IsActionDeferred}
use Rattle.law_world.specs.GuardKeeper.Followed.{likeness, KeeperLed}
use Rattle.law_world.specs.GuardKeeper.KeeperEvents.{turn_asked_events, turn_task}
use Rattle.law_world.specs.GuardKeeper.KeeperShown.{keeping_machine, keeping_work, keeper_machine, keeper_work, KeepingKnows, KeeperKnows, OfStore}
use Rattle.law_world.proofs.OfGuardKeeper.Begun.{turn_begins, turn_refused, commit_begins}
use Rattle.law_world.proofs.OfGuardKeeper.Deferred.{by_deferred}
use Rattle.law_world.proofs.OfGuardKeeper.PartLed.{stays}

turn_by : (b : Bool) (n : GuardNow) (a : ℕ) (x : Actor) (seen : LastSeen) (s : KeeperState) → s.is_broken ≡ b → slice_get n.actors a ≡ Some x → Fits (likeness seen None None) x → OfStore n.places s
    → KeeperLed n a (if b then [] else Begins a (turn_task s.maintain.begin.0 (serves_alone s)) ∷ []) seen (turn_asked s) n.words n.actions
turn_by true n a x seen s e got fits same = turn_refused n a x seen s got fits same e
turn_by false n a x seen s e got fits same = turn_begins n a x seen s got fits same e

turn_at : (n : GuardNow) (a : ℕ) (x : Actor) (seen : LastSeen) (s : KeeperState) (step : Keeping) → slice_get n.actors a ≡ Some x → Fits (likeness seen (keeping_machine s step) (keeping_work s step)) x
    → KeepingKnows (levels_of n.words) s step → OfStore n.places s
    → (let here : KeeperState = record s { step = step } in KeeperLed n a (turn_asked_events a here) seen (keeper_asked here (turn_asked here)) n.words n.actions)
turn_at n a x seen s (keeping.Ended its) got fits k same = turn_by s.is_broken n a x seen (record s { step = keeping.Ended its }) refl got fits same
turn_at n a x seen s step got fits k same = record { follows = record { actor = x; same = stays n a x got; fits = fits }; knows = record { sessions = same.0; loads = same.1; its = k } }

pub turn_asked_to : (n : GuardNow) (a : ℕ) (x : Actor) (seen : LastSeen) (s : KeeperState) → slice_get n.actors a ≡ Some x → Fits (likeness seen (keeper_machine s) (keeper_work s)) x → KeeperKnows (levels_of n.words) n.places s
    → KeeperLed n a (turn_asked_events a s) seen (keeper_asked s (turn_asked s)) n.words n.actions
turn_asked_to n a x seen s got fits knows = turn_at n a x seen s s.step got fits knows.its (knows.sessions, knows.loads)

commit_at : (n : GuardNow) (a : ℕ) (x : Actor) (seen : LastSeen) (s : KeeperState) (step : Keeping) (kind : CommitKind) → slice_get n.actors a ≡ Some x → Fits (likeness seen (keeping_machine s step) (keeping_work s step)) x
    → KeepingKnows (levels_of n.words) s step → OfStore n.places s
    → (let here : KeeperState = record s { step = step } in KeeperLed n a [] seen (keeper_asked here (commit_asked here kind)) n.words n.actions)
commit_at n a x seen s (keeping.Ended its) kind got fits k same = commit_begins n a x seen (record s { step = keeping.Ended its }) kind got fits same
commit_at n a x seen s step kind got fits k same = record { follows = record { actor = x; same = stays n a x got; fits = fits }; knows = record { sessions = same.0; loads = same.1; its = k } }

pub commit_asked_to : (n : GuardNow) (a : ℕ) (x : Actor) (seen : LastSeen) (s : KeeperState) (kind : CommitKind) → slice_get n.actors a ≡ Some x → Fits (likeness seen (keeper_machine s) (keeper_work s)) x → KeeperKnows (levels_of n.words) n.places s
    → KeeperLed n a [] seen (keeper_asked s (commit_asked s kind)) n.words n.actions
commit_asked_to n a x seen s kind got fits knows = commit_at n a x seen s s.step kind got fits knows.its (knows.sessions, knows.loads)

stored_on : (l l' : Levels) (action : Action) → Rises l l' → IsStored l action → IsStored l' action
stored_on l l' (act.SafeReadOnly addr) up k = let r = up.read_only in omega (arith, k, r)
stored_on l l' (act.Close addr) up k = let r = up.head in omega (arith, k, r)
stored_on l l' (act.Phase phase version) up k = tt

deferred_on : (l l' : Levels) (d : DeferState) → Rises l l' → IsActionDeferred l d → IsActionDeferred l' d
deferred_on l l' d up k = by_deferred (λ (e : DeferState). IsActionDeferred l' e) l d k (λ its slot arming stored. stored_on l l' (action_of its) up stored) (λ epoch slot c raising. tt)

start_on : (l l' : Levels) (s : StartState) (step : Starting) → Rises l l' → StartKnows l s step → StartKnows l' s step
start_on l l' s (start.Defers number first) up k = deferred_on l l' s.defer up k
start_on l l' s step up k = k

enter_on : (l l' : Levels) (s : EnterState) (step : Entering) → Rises l l' → EnterKnows l s step → EnterKnows l' s step
enter_on l l' s enter.Defers up k = deferred_on l l' s.defer up k
enter_on l l' s step up k = k

seek_on : (l l' : Levels) (s : SeekState) (step : Seeking) → Rises l l' → SeekKnows l s step → SeekKnows l' s step
seek_on l l' s (seek.Defers end) up k = deferred_on l l' s.defer up k
seek_on l l' s (seek.RaisesReadOnly end) up k = (k.0, let r = up.tail in let low = k.1 in omega (arith, low, r))
seek_on l l' s step up k = k

keeping_on : (l l' : Levels) (s : KeeperState) (step : Keeping) → Rises l l' → KeepingKnows l s step → KeepingKnows l' s step
keeping_on l l' s keeping.Starts up k = start_on l l' s.start s.start.step up k
keeping_on l l' s keeping.Enters up k = enter_on l l' s.enter s.enter.step up k
keeping_on l l' s keeping.Seeks up k = seek_on l l' s.seek s.seek.step up k
keeping_on l l' s step up k = k

pub knowledge_stays : (l l' : Levels) (p : Places) (s : KeeperState) → Rises l l' → KeeperKnows l p s → KeeperKnows l' p s
knowledge_stays l l' p s up knows = record { sessions = knows.sessions; loads = knows.loads; its = keeping_on l l' s s.step up knows.its }
