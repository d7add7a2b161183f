-- How far commits have come and what each session has seen of that, by ranks and epochs alone: no word and no machine is named.
use Rattle.std.specs.Prelude.{◌≡◌, ⊤, ℕ, ◌+◌, ◌<◌, ◌≤◌, max, Bool, true, false, List, [], ◌∷◌}
use Rattle.law_log.specs.Ghosts.{set_at}

-- What a session saw as it loaded the phase word: the epoch and the tail as they stood, and the word's rank.
pub record View : Type 0 where
  pub stamp : ℕ
  pub rank : ℕ
  pub tail : ℕ

-- The raises of the epoch for the commit in hand. Each is the epoch that stood before it, 0 if it hasn't come yet.
pub record Raises : Type 0 where
  -- for in-progress; the commit's first address was loaded before it
  pub progress : ℕ
  pub first : ℕ
  -- for wait-pending
  pub pending : ℕ
  -- for the commit's end, which was loaded before it
  pub ending : ℕ
  pub end : ℕ
  -- the epoch of the action that is to store the next phase, 0 where none is outstanding
  pub due : ℕ

-- What sessions see. A live one goes by its view. One that is catching up has a view coming, from its load of the phase word on.
pub record Sessions : Type 0 where
  pub live : ℕ → Bool
  pub view : ℕ → View
  pub comes : ℕ → Bool
  pub coming : ℕ → View

-- The phase word has the rank base + stage. The base is 5v, v the version at rest or the number of the commit in hand. The stage is 0 at rest, 1 in prepare,
-- 2 in in-progress, 3 in wait-pending and 4 in wait-flush.
pub record Phasing : Type 0 where
  pub base : ℕ
  pub stage : ℕ
  pub epoch : ℕ
  pub safe : ℕ
  pub tail : ℕ
  pub raises : Raises
  pub sessions : Sessions

pub data PhaseEvent : Type 0 where
  -- prepare is stored; wait-flush is stored; rest is stored
  Prepares : PhaseEvent
  WaitsFlush : PhaseEvent
  Rests : PhaseEvent
  -- the epoch is raised for in-progress, with the commit's first address; for wait-pending; for the commit's end
  RaisesProgress : ℕ → PhaseEvent
  RaisesPending : PhaseEvent
  RaisesEnding : ℕ → PhaseEvent
  -- the action of this epoch runs, which stores the next phase
  StoresNext : ℕ → PhaseEvent
  -- the epoch is raised for something else; it is safe up to here; the tail rises
  RaisesElse : PhaseEvent
  IsSafe : ℕ → PhaseEvent
  Reserves : PhaseEvent
  -- the session loads the phase word; it goes by the view that was coming; it leaves
  Loads : ℕ → PhaseEvent
  Completes : ℕ → PhaseEvent
  Leaves : ℕ → PhaseEvent

-- the rank of the phase word
abbrev pub rank_of : Phasing → ℕ
rank_of p = p.base + p.stage

-- what is seen by who loads the phase word now
abbrev pub view_now : Phasing → View
view_now p = record { stamp = p.epoch; rank = rank_of p; tail = p.tail }

-- what an event does
unfoldable pub phase_after : Phasing → PhaseEvent → Phasing
phase_after p Prepares = record p { stage = 1 }
phase_after p WaitsFlush = record p { stage = 4 }
phase_after p Rests = record p { base = p.base + 5; stage = 0; raises = (let r = p.raises in record r { progress = 0; pending = 0; ending = 0 }) }
phase_after p (RaisesProgress first) = record p { raises = (let r = p.raises in record r { progress = p.epoch; due = p.epoch; first = first }); epoch = p.epoch + 1 }
phase_after p RaisesPending = record p { raises = (let r = p.raises in record r { pending = p.epoch; due = p.epoch }); epoch = p.epoch + 1 }
phase_after p (RaisesEnding end) = record p { raises = (let r = p.raises in record r { ending = p.epoch; end = end }); epoch = p.epoch + 1 }
phase_after p (StoresNext c) = record p { stage = p.stage + 1; raises = (let r = p.raises in record r { due = 0 }) }
phase_after p RaisesElse = record p { epoch = p.epoch + 1 }
phase_after p (IsSafe m) = record p { safe = max p.safe m }
phase_after p Reserves = record p { tail = p.tail + 1 }
phase_after p (Loads s) = record p { sessions = (let x = p.sessions in record x { comes = set_at x.comes s true; coming = set_at x.coming s (view_now p) }) }
phase_after p (Completes s) = record p { sessions = (let x = p.sessions in record x { live = set_at x.live s true; view = set_at x.view s (x.coming s); comes = set_at x.comes s false }) }
phase_after p (Leaves s) = record p { sessions = (let x = p.sessions in record x { live = set_at x.live s false }) }

-- ---- when an event may happen

-- An epoch may become safe that is below the current one. It is below the stamp of each view too that a session goes by, or that is coming.
pub record MayBeSafe (p : Phasing) (m : ℕ) : Type 0 where
  pub below : m < p.epoch
  pub views : (s : ℕ) → p.sessions.live s ≡ true → m < (p.sessions.view s).stamp
  pub coming : (s : ℕ) → p.sessions.comes s ≡ true → m < (p.sessions.coming s).stamp

-- Each phase is stored in its turn: rest behind wait-flush once the raise for the end is safe, and in-progress and wait-pending by an outstanding action whose
-- epoch is safe. Each raise of a commit comes once, in its phase, with an address that isn't above the tail. Only a view that is coming becomes complete.
abbrev pub IsEnabled : Phasing → PhaseEvent → Type 0
IsEnabled p Prepares = p.stage ≡ 0
IsEnabled p WaitsFlush = p.stage ≡ 3
IsEnabled p Rests = (p.stage ≡ 4) × (0 < p.raises.ending) × (p.raises.ending ≤ p.safe)
IsEnabled p (RaisesProgress first) = (p.stage ≡ 1) × (p.raises.progress ≡ 0) × (first ≤ p.tail)
IsEnabled p RaisesPending = (p.stage ≡ 2) × (p.raises.pending ≡ 0)
IsEnabled p (RaisesEnding end) = (p.stage ≡ 4) × (p.raises.ending ≡ 0) × (end ≤ p.tail)
IsEnabled p (StoresNext c) = (p.raises.due ≡ c) × (0 < c) × (c ≤ p.safe)
IsEnabled p (IsSafe m) = MayBeSafe p m
IsEnabled p (Completes s) = p.sessions.comes s ≡ true
IsEnabled p event = ⊤

-- a run from an opening, the newest event first
unfoldable pub phase_run : Phasing → List PhaseEvent → Phasing
phase_run opening [] = opening
phase_run opening (event ∷ before) = phase_after (phase_run opening before) event

-- each event of a run is enabled where it happens
unfoldable pub AreEnabled : Phasing → List PhaseEvent → Type 0
AreEnabled opening [] = ⊤
AreEnabled opening (event ∷ before) = AreEnabled opening before × IsEnabled (phase_run opening before) event

-- ---- what holds at each moment
-- What is raised fits the stage: what is safe, and where the tail is.
pub data FitStage (stage safe tail : ℕ) (r : Raises) : Type 0 where
  -- at rest, and in prepare at first, nothing is raised
  rests : stage ≡ 0 → r.progress ≡ 0 → r.pending ≡ 0 → r.ending ≡ 0 → r.due ≡ 0 → FitStage stage safe tail r
  prepares : stage ≡ 1 → r.progress ≡ 0 → r.pending ≡ 0 → r.ending ≡ 0 → r.due ≡ 0 → FitStage stage safe tail r
  -- then the epoch is raised for in-progress, whose action is outstanding
  defers : stage ≡ 1 → 0 < r.progress → r.first ≤ tail → r.pending ≡ 0 → r.ending ≡ 0 → r.due ≡ r.progress → FitStage stage safe tail r
  -- in in-progress that raise is safe; nothing is outstanding at first, and then the action for wait-pending
  goes_on : stage ≡ 2 → 0 < r.progress → r.progress ≤ safe → r.first ≤ tail → r.pending ≡ 0 → r.ending ≡ 0 → r.due ≡ 0 → FitStage stage safe tail r
  enters : stage ≡ 2 → 0 < r.progress → r.progress ≤ safe → r.first ≤ tail → 0 < r.pending → r.ending ≡ 0 → r.due ≡ r.pending → FitStage stage safe tail r
  -- in wait-pending both raises are safe, and nothing is outstanding
  pends : stage ≡ 3 → 0 < r.progress → r.progress ≤ safe → r.first ≤ tail → 0 < r.pending → r.pending ≤ safe → r.ending ≡ 0 → r.due ≡ 0 → FitStage stage safe tail r
  -- nor is it in wait-flush, where the epoch may be raised for the commit's end
  flushes : stage ≡ 4 → 0 < r.progress → r.progress ≤ safe → r.first ≤ tail → 0 < r.pending → r.pending ≤ safe → (0 < r.ending → r.end ≤ tail) → r.due ≡ 0
      → FitStage stage safe tail r

abbrev pub IsStaged : Phasing → Type 0
IsStaged p = FitStage p.stage p.safe p.tail p.raises

-- what is safe and what was raised lie below the epoch
pub record AreRaised (p : Phasing) : Type 0 where
  pub safe : p.safe < p.epoch
  pub progress : p.raises.progress < p.epoch
  pub pending : p.raises.pending < p.epoch
  pub ending : p.raises.ending < p.epoch

-- A view that counts: it was loaded after what is safe was raised, and shows what was stored before each raise that it comes after.
pub record Sees (p : Phasing) (v : View) : Type 0 where
  pub after : p.safe < v.stamp
  pub stamped : v.stamp ≤ p.epoch
  pub tailed : v.tail ≤ p.tail
  pub low : v.rank ≤ rank_of p
  pub floor : p.base ≤ v.rank + 1
  pub progress : 0 < p.raises.progress → p.raises.progress < v.stamp → (p.base + 1 ≤ v.rank) × (p.raises.first ≤ v.tail)
  pub pending : 0 < p.raises.pending → p.raises.pending < v.stamp → p.base + 2 ≤ v.rank
  pub ending : 0 < p.raises.ending → p.raises.ending < v.stamp → (p.base + 4 ≤ v.rank) × (p.raises.end ≤ v.tail)

-- the raises fit the stage and lie below the epoch, and each view that a session goes by or that is coming counts
pub record IsSound (p : Phasing) : Type 0 where
  pub staged : IsStaged p
  pub raised : AreRaised p
  pub views : (s : ℕ) → p.sessions.live s ≡ true → Sees p (p.sessions.view s)
  pub coming : (s : ℕ) → p.sessions.comes s ≡ true → Sees p (p.sessions.coming s)

-- ---- and what follows
-- How low the rank of a view may be: one below the phase word's base, or no lower than prepare from in-progress on, and than in-progress from wait-pending on.
pub record HasFloor (p : Phasing) (v : View) : Type 0 where
  pub low : v.rank ≤ rank_of p
  pub rest : p.base ≤ v.rank + 1
  pub in_progress : 2 ≤ p.stage → (p.base + 1 ≤ v.rank) × (p.raises.first ≤ v.tail)
  pub wait_pending : 3 ≤ p.stage → p.base + 2 ≤ v.rank
  -- and the same as soon as the raise is safe
  pub progress : 0 < p.raises.progress → p.raises.progress ≤ p.safe → p.base + 1 ≤ v.rank
  pub pending : 0 < p.raises.pending → p.raises.pending ≤ p.safe → p.base + 2 ≤ v.rank
  pub ending : 0 < p.raises.ending → p.raises.ending ≤ p.safe → (p.base + 4 ≤ v.rank) × (p.raises.end ≤ v.tail)

-- each live session's view has this floor
abbrev pub HaveFloor : Phasing → Type 0
HaveFloor p = (s : ℕ) → p.sessions.live s ≡ true → HasFloor p (p.sessions.view s)
