-- What is new in a life lies at the tail, above all that is fixed. So the log goes on to do without what it once did without.
use Rattle.std.proofs.Common.{◌≡◌, ℕ, ◌≤◌, ◌∙◌, refl, sym, ap, subst, arith, List, [], ◌∷◌, ◌++◌, append_assoc}
use Rattle.law_commit.specs.Below.fkv_world.Runs.{World, run}
use Rattle.law_commit.specs.Below.fkv_world.World.{Event}
use Rattle.law_commit.specs.Below.law_refine.Events.GhostEvents.{ghost_events, life_ghosts, mapped, safe_at, serials_in}
use Rattle.law_commit.specs.Below.law_refine.Events.Reserved.{tail_at}
use Rattle.law_commit.specs.Below.law_world.Guarded.Shows.{IsOpened, seen_by_guard}
use Rattle.law_commit.proofs.Below.law_refine.OfEvents.Apart.{reserved_open}
use Rattle.law_commit.proofs.Below.law_refine.OfEvents.Below.{AreAbove, event_above}
use Rattle.law_commit.proofs.Below.law_refine.OfEvents.Fixed.{ghost_fixed, life_rises}
use Rattle.law_commit.proofs.Below.law_refine.OfEvents.ReservedLife.{life_sessions}
use Rattle.law_commit.proofs.Below.law_refine.OfEvents.Taking.{taking_both}
use Rattle.law_commit.proofs.Below.law_world.OfGuarded.OfLives.{life_in_order}
use Rattle.law_commit.proofs.Below.law_world.OfGuarded.Worlds.{life_shows}
use Rattle.law_log.specs.Begins.{IsOver, Live, LiveAtRest, LiveUpto, StaysFromThere, TakeAbove, TakesAbove}
use Rattle.law_log.specs.Chains.{Logged, NoneLater, version_at}
use Rattle.law_log.specs.Enabled.{AreChains, AreEnabled}
use Rattle.law_log.specs.Ghosts.{Changes, Drops, FindsEntry, Fixes, GhostEvent, Log, Publishes, Reserves, TakesValue, Tells, ghost_run}
use Rattle.law_log.proofs.Shown.{enabled_before, run_held}
use Rattle.law_commit.specs.Versions.Cells.{CellsUpto, made_in}
use Rattle.law_order.specs.Known.Begins.{BegunLife, home_of_world}

-- ---- events that take addresses from a bound on take none below it
one_takes : (begin : ℕ) (event : GhostEvent) (before : List GhostEvent) → AreAbove begin (event ∷ before) → TakesAbove begin event
one_takes begin (Reserves a entry cell) before above = above.0
one_takes begin (Tells line) before above = tt
one_takes begin (FindsEntry reader) before above = tt
one_takes begin (TakesValue reader) before above = tt
one_takes begin (Publishes a) before above = tt
one_takes begin (Drops a) before above = tt
one_takes begin (Changes a entry) before above = tt
one_takes begin (Fixes a) before above = tt

all_take : (begin : ℕ) (events : List GhostEvent) → AreAbove begin events → TakeAbove begin events
all_take begin [] above = tt
all_take begin (event ∷ before) above = (one_takes begin event before above, all_take begin before above.1)

-- ---- and where no record is of a later version than one, no chain has a record of a later one
none_later : (home : ℕ → ℕ) (log : Log) (high version : ℕ) → AreChains home log → CellsUpto high log → high ≤ version → (h : ℕ) → NoneLater log.cells (log.chains h) version
none_later home log high version chains upto low h a is_in =
    let its = chains.in_chain h a is_in in
    let here = upto a its.cell.version (ap made_in its.its) in
    subst (λ (logged : Logged). version_at logged ≤ version) (sym its.its) (omega (arith, here, low))

-- ---- what a life adds to its log behind a moment
abbrev added : World → List Event → List Event → List GhostEvent
added opening [] before = []
added opening (event ∷ later) before = ghost_events (serials_in opening.now) (run opening (later ++ before)) event ++ added opening later before

is_added : (opening : World) (later before : List Event) → mapped opening (later ++ before) ≡ added opening later before ++ mapped opening before
unfolding mapped
is_added opening [] before = refl
is_added opening (event ∷ later) before =
    let its : List GhostEvent = ghost_events (serials_in opening.now) (run opening (later ++ before)) event in
    ap (λ (events : List GhostEvent). its ++ events) (is_added opening later before) ∙ sym (append_assoc its (added opening later before) (mapped opening before))

tail_rises : (opening : World) (start : ℕ) (before : List Event) (event : Event) → IsOpened opening.now start → tail_at (run opening before).now ≤ tail_at (run opening (event ∷ before)).now
unfolding run
tail_rises opening start before event opened = (life_rises opening start before (event ∷ []) opened).tail

tails_rise : (opening : World) (start : ℕ) (later before : List Event) → IsOpened opening.now start → tail_at (run opening before).now ≤ tail_at (run opening (later ++ before)).now
tails_rise opening start [] before opened = omega arith
tails_rise opening start (event ∷ later) before opened =
    let so_far = tails_rise opening start later before opened in
    let rises = tail_rises opening start (later ++ before) event opened in
    omega (arith, so_far, rises)

-- it takes addresses from the tail of that moment on
added_above : (opening : World) (start begin : ℕ) (later before : List Event) → IsOpened opening.now start → begin ≤ tail_at (run opening before).now → AreAbove begin (added opening later before)
added_above opening start begin [] before opened low = tt
added_above opening start begin (event ∷ later) before opened low =
    let rises = tails_rise opening start later before opened in
    taking_both (λ a. begin ≤ a) (ghost_events (serials_in opening.now) (run opening (later ++ before)) event) (added opening later before)
    (event_above opening start begin (later ++ before) event opened (omega (arith, low, rises))) (added_above opening start begin later before opened low)

-- ---- a life of the order law
module _ (life : BegunLife) where
  abbrev H : ℕ → ℕ
  H = home_of_world life.opening

  abbrev log_behind : List Event → Log
  log_behind events = (life_ghosts life.opening life.ghosts events).log

  fixed_is_safe : (events : List Event) → (log_behind events).fixed ≡ safe_at (run life.opening events).now
  fixed_is_safe events = ghost_fixed life.opening life.start life.ghosts events life.begins.store.now life.begins.fixed

  -- what is fixed lies below the tail
  fixed_below : (events : List Event) → (log_behind events).fixed ≤ tail_at (run life.opening events).now
  fixed_below events =
      let order = life_in_order (run life.opening events).now (seen_by_guard life.opening life.start events) (life_shows life.opening life.start events life.begins.store.now) in
      let fixed = fixed_is_safe events in
      let safe = order.safe_below in
      let read_only = order.read_only_below in
      omega (arith, fixed, safe, read_only)

  -- and all there is over: what sessions are making lies at or above the safe read-only offset
  fixed_over : (events : List Event) (begin : ℕ) → begin ≤ (log_behind events).fixed → IsOver begin (log_behind events)
  fixed_over events begin low = record {
    fixed = low;
    none_reserved = λ a entry cell e.
        let of = life_sessions life.opening life.start life.ghosts events life.begins.store.now life.begins.unborn life.begins.reserves a entry cell e in
        let above = (reserved_open life.opening life.start events life.begins.store.now of.number of.its of.has).0 in
        let at : of.its.addr ≡ a = of.its_addr in
        let fixed = fixed_is_safe events in
        omega (arith, low, above, at, fixed);
  }

  -- so what the log's law says of such a moment goes on to hold
  pub life_stays : (P : ℕ → (ℕ → ℕ) → Log → Type 0) (begin : ℕ) (later before : List Event) → StaysFromThere P → AreEnabled H life.ghosts (mapped life.opening (later ++ before)) → begin ≤ (log_behind before).fixed
      → P begin H (log_behind before) → P begin H (log_behind (later ++ before))
  life_stays P begin later before stays enabled low holds =
      let adds : List GhostEvent = added life.opening later before in
      let is : mapped life.opening (later ++ before) ≡ adds ++ mapped life.opening before = is_added life.opening later before in
      let under = fixed_below before in
      let above : AreAbove begin adds = added_above life.opening life.start begin later before life.begins.store.now (omega (arith, low, under)) in
      subst (λ (events : List GhostEvent). P begin H (ghost_run H life.ghosts events).log) (sym is)
      (stays H life.map life.number life.ghosts adds (mapped life.opening before) begin life.begins.log (subst (AreEnabled H life.ghosts) is enabled) (fixed_over before begin low) (all_take begin adds above) holds)

  -- and at each moment a log that does without what lies below does so up to the version of then
  pub life_upto : (high version begin : ℕ) (later before : List Event) → LiveAtRest → AreEnabled H life.ghosts (mapped life.opening (later ++ before)) → CellsUpto high (log_behind before) → high ≤ version
      → Live begin H (log_behind before) → LiveUpto version begin H (log_behind before)
  life_upto high version begin later before rest enabled cells low live =
      let adds : List GhostEvent = added life.opening later before in
      let is : mapped life.opening (later ++ before) ≡ adds ++ mapped life.opening before = is_added life.opening later before in
      let then : AreEnabled H life.ghosts (mapped life.opening before) = enabled_before H life.ghosts adds (mapped life.opening before) (subst (AreEnabled H life.ghosts) is enabled) in
      let held = run_held H life.map life.number life.ghosts (mapped life.opening before) life.begins.log then in
      rest H begin version (log_behind before) (none_later H (log_behind before) high version held.chains cells low) live
