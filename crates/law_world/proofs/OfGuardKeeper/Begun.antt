-- A turn or a commit that begins.
use Rattle.std.proofs.Common.{◌≡◌, ℕ, [], ◌∷◌, refl, ap, Bool, true, false}
use Rattle.std.proofs.lemmas.Bool.{lt-ltb}
use Rattle.std.specs.Prelude.{Some, None, slice_get}
use Rattle.fkv_base.specs.declared.commits.CommitKind.{CommitKind}
use Rattle.fkv_epoch.specs.declared.scanning.Scanning.TheVariants as scan
use Rattle.fkv_epoch.specs.EpochWorld.{Scans, ToScan}
use Rattle.fkv_flush.specs.GuardSeen.{LastSeen}
use Rattle.fkv_base.specs.declared.shapes.Shape.{Shape}
use Rattle.fkv_flush.specs.declared.serving.Serving.{Serving}
use Rattle.fkv_flush.specs.declared.serving.Serving.TheVariants as serving
use Rattle.fkv_flush.specs.Serving.{mailbox_from}
use Rattle.fkv_flush.specs.GuardWorld.{Actor, Rests, Serves, GuardNow, Begins, ToDo, ToServe}
use Rattle.fkv_flush.proofs.Shown.{Fits}
use Rattle.fkv_keeper.specs.Keeping.{KeeperState, commit_asked, turn_asked, serves_alone}
use Rattle.law_world.specs.GuardKeeper.KeeperShown.{OfStore}
use Rattle.law_world.specs.GuardKeeper.Followed.{KeeperLed, likeness}
use Rattle.law_world.specs.GuardKeeper.KeeperEvents.{turn_task}
use Rattle.law_world.proofs.OfGuardKeeper.Led.{then_begins}
use Rattle.law_world.proofs.OfGuardKeeper.PartLed.{stays}

-- the first mailbox that is served, where there is a session
first_loads : (shape : Shape) → mailbox_from shape.sessions 0 ≡ serving.LoadsState 0
unfolding mailbox_from
first_loads shape = rw (lt-ltb 0 shape.sessions shape.limits.some_session) refl

-- where writes rest a turn serves
serves_begins : (n : GuardNow) (a : ℕ) (x : Actor) (seen : LastSeen) (s : KeeperState) → slice_get n.actors a ≡ Some x → Fits (likeness seen None None) x → OfStore n.places s → s.is_broken ≡ false → serves_alone s ≡ true
    → KeeperLed n a (Begins a (ToServe s.maintain.begin.0) ∷ []) seen (turn_asked s) n.words n.actions
serves_begins n a x seen s got fits same works rests = rw (works, rests) (record {
  follows = record {
    actor = record x { work = Serves s.maintain.begin.0 (mailbox_from n.shape.sessions 0) };
    same = then_begins n a x x [] n.words n.actions (ToServe s.maintain.begin.0) got (stays n a x got) fits.machine fits.work refl;
    fits = record { machine = fits.machine; work = ap (λ (first : Serving). Serves s.maintain.begin.0 first) (first_loads n.shape); seen = fits.seen; undecided = fits.undecided };
  };
  knows = record { sessions = same.0; loads = same.1; its = refl };
})

-- and else it scans first
scans_begins : (n : GuardNow) (a : ℕ) (x : Actor) (seen : LastSeen) (s : KeeperState) → slice_get n.actors a ≡ Some x → Fits (likeness seen None None) x → OfStore n.places s → s.is_broken ≡ false → serves_alone s ≡ false
    → KeeperLed n a (Begins a (ToDo ToScan) ∷ []) seen (turn_asked s) n.words n.actions
scans_begins n a x seen s got fits same works awake = rw (works, awake) (record {
  follows = record {
    actor = record x { machine = Scans scan.LoadsEpoch; work = Rests };
    same = then_begins n a x x [] n.words n.actions (ToDo ToScan) got (stays n a x got) fits.machine fits.work refl;
    fits = record { machine = refl; work = refl; seen = fits.seen; undecided = fits.undecided };
  };
  knows = record { sessions = same.0; loads = same.1; its = refl };
})

pub turn_begins : (n : GuardNow) (a : ℕ) (x : Actor) (seen : LastSeen) (s : KeeperState) → slice_get n.actors a ≡ Some x → Fits (likeness seen None None) x → OfStore n.places s → s.is_broken ≡ false
    → KeeperLed n a (Begins a (turn_task s.maintain.begin.0 (serves_alone s)) ∷ []) seen (turn_asked s) n.words n.actions
turn_begins n a x seen s got fits same works = by (serves_alone s) refl
  where
    by : (rests : Bool) → serves_alone s ≡ rests → KeeperLed n a (Begins a (turn_task s.maintain.begin.0 rests) ∷ []) seen (turn_asked s) n.words n.actions
    by true rests = serves_begins n a x seen s got fits same works rests
    by false awake = scans_begins n a x seen s got fits same works awake

-- a device that has failed is never used again
pub turn_refused : (n : GuardNow) (a : ℕ) (x : Actor) (seen : LastSeen) (s : KeeperState) → slice_get n.actors a ≡ Some x → Fits (likeness seen None None) x → OfStore n.places s → s.is_broken ≡ true
    → KeeperLed n a [] seen (turn_asked s) n.words n.actions
turn_refused n a x seen s got fits same broken = rw broken (record { follows = record { actor = x; same = stays n a x got; fits = fits }; knows = record { sessions = same.0; loads = same.1; its = tt } })

-- a commit loads the phase first, or is refused
commit_at : (b rests : Bool) (n : GuardNow) (a : ℕ) (x : Actor) (seen : LastSeen) (s : KeeperState) (kind : CommitKind) → s.is_broken ≡ b → s.rests ≡ rests → slice_get n.actors a ≡ Some x → Fits (likeness seen None None) x → OfStore n.places s
    → KeeperLed n a [] seen (commit_asked s kind) n.words n.actions
commit_at true rests n a x seen s kind e at got fits same = rw e (record { follows = record { actor = x; same = stays n a x got; fits = fits }; knows = record { sessions = same.0; loads = same.1; its = tt } })
commit_at false true n a x seen s kind e at got fits same = rw (e, at) (record { follows = record { actor = x; same = stays n a x got; fits = fits }; knows = record { sessions = same.0; loads = same.1; its = tt } })
commit_at false false n a x seen s kind e at got fits same = rw (e, at) (record { follows = record { actor = x; same = stays n a x got; fits = fits }; knows = record { sessions = same.0; loads = same.1; its = tt } })

pub commit_begins : (n : GuardNow) (a : ℕ) (x : Actor) (seen : LastSeen) (s : KeeperState) (kind : CommitKind) → slice_get n.actors a ≡ Some x → Fits (likeness seen None None) x → OfStore n.places s
    → KeeperLed n a [] seen (commit_asked s kind) n.words n.actions
commit_begins n a x seen s kind got fits same = commit_at s.is_broken s.rests n a x seen s kind refl refl got fits same
