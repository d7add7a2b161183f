-- The versions of the records beside a life, and what its sessions have seen older.
use Rattle.std.proofs.Common.{◌≡◌, inl, inr, ℕ, ◌≤◌, ◌∙◌, List, [], ◌∷◌, ◌++◌, refl, arith, ap, sym, subst}
use Rattle.std.specs.Prelude.{Option, Some, None, slice_get}
use Rattle.fkv_plane.specs.declared.places.SharedWord.TheVariants as one
use Rattle.fkv_plane.specs.Asked.{word_at}
use Rattle.fkv_plane.specs.Places.{shared_place}
use Rattle.fkv_words.specs.declared.phase_words.PhaseSaid.{PhaseSaid}
use Rattle.fkv_words.specs.declared.phase_words.PhaseSaid.TheVariants.{Says, Spoiled}
use Rattle.fkv_words.specs.PhaseWords.{phase_said}
use Rattle.law_refine.specs.Below.fkv_session.Sitting.{Sitting}
use Rattle.law_refine.specs.Below.fkv_session.Sitting.TheVariants.{Attempts, Polls}
use Rattle.law_refine.specs.Below.fkv_session.Sessions.{Seat, SessionState}
use Rattle.law_refine.specs.Below.fkv_session.SessionRun.{session_run}
use Rattle.fkv_epoch.proofs.Shown.{none_some}
use Rattle.law_refine.specs.Below.fkv_world.Opened.{HasBecome, IsOpenedWorld}
use Rattle.law_refine.specs.Below.fkv_world.OwnEvents.{session_events, session_part_of}
use Rattle.law_refine.specs.Below.fkv_world.Runs.{World, run}
use Rattle.law_refine.specs.Below.fkv_world.World.{Event, Now, seat_at}
use Rattle.law_refine.proofs.Below.fkv_world.Shown.{same_seat, session_runs}
use Rattle.law_refine.proofs.Below.law_world.OfRuns.Nothing.{none_ever}
use Rattle.law_refine.specs.Below.law_world.Guarded.Shows as guard
use Rattle.law_log.specs.Chains.{Logged, Unborn}
use Rattle.law_log.specs.Ghosts.{GhostEvent, Ghosts, Log, ghost_run}
use Rattle.law_refine.specs.Events.GhostEvents.{ghost_events, home_in, life_ghosts, mapped, serials_in}
use Rattle.law_refine.specs.Events.Reserved.{tail_at}
use Rattle.law_refine.proofs.OfEvents.Below.{event_above}
use Rattle.law_refine.proofs.OfEvents.Fixed.{life_rises}
use Rattle.law_commit.specs.PhaseVersions.{HasRisingPhase, version_said}
use Rattle.law_commit.specs.Phases.Staged.{OpensAtRest}
use Rattle.law_commit.specs.Versions.Cells.{AllReserve, AllReserveFromUpto, CellsFrom, CellsUpto, IsFromUpto, KeepsVersions, made_in}
use Rattle.law_commit.specs.Versions.Laws.{OpensWithLog, first_version, version_now}
use Rattle.law_commit.specs.Versions.Requests.{AttemptsSo, IsUpdateSo}
use Rattle.law_commit.specs.Versions.Seen.{AreViewsSo, HasSeenOlder, IsOlder}
use Rattle.law_commit.specs.Views.{Sight, View, sight_found, sight_in, sight_of, sight_opened, view_said}
use Rattle.law_commit.proofs.Rising.{version_below}
use Rattle.law_commit.proofs.Telling.{found_all}
use Rattle.law_commit.proofs.OfPhases.LifeStages.{life_staged, none_ahead}
use Rattle.law_commit.proofs.OfVersions.Cells.{kept_made, made_so}
use Rattle.law_commit.proofs.OfVersions.Requests.{first_said, life_requests}
use Rattle.law_commit.proofs.OfVersions.Reserves.{behind_reserve, life_reserves}
use Rattle.law_commit.proofs.OfVersions.Sights.{LoadsSo, through_so, views_weaker}

-- ---- what sessions attempt
-- each session has become what it is
become : (opening : World) (events : List Event) (session : ℕ) (its : SessionState) → IsOpenedWorld opening → slice_get (run opening events).now.sessions session ≡ Some its
    → (first : SessionState) × HasBecome opening events session first its
become opening events session its opened found = by_first (slice_get opening.now.sessions session) refl
  where
    by_first : (first : Option SessionState) → slice_get opening.now.sessions session ≡ first → (x : SessionState) × HasBecome opening events session x its
    by_first None e = none_some its (sym (none_ever opening events session e) ∙ found)
    by_first (Some first) e = (first, record { opened = opened; was = e; is_now = found })

update_weaker : (low high more : ℕ) (its : SessionState) → high ≤ more → IsUpdateSo (IsFromUpto low high) its.attempt.pending → IsUpdateSo (IsFromUpto low more) its.attempt.pending
update_weaker low high more its up so = λ updates. let most = (so updates).1 in ((so updates).0, omega (arith, most, up))

attempts_weaker : (low high more : ℕ) (its : SessionState) (step : Sitting) → high ≤ more → AttemptsSo (IsFromUpto low high) its step → AttemptsSo (IsFromUpto low more) its step
attempts_weaker low high more its (Attempts has_shifted) up so = update_weaker low high more its up so
attempts_weaker low high more its (Polls i) up so = update_weaker low high more its up so
attempts_weaker low high more its step up so = tt

pub reserves_from_upto : (opening : World) (start : ℕ) (events : List Event) (event : Event) → guard.IsOpened opening.now start → IsOpenedWorld opening → OpensAtRest opening.now
    → AllReserveFromUpto (first_version opening) (version_now opening events) (ghost_events (serials_in opening.now) (run opening events) event)
reserves_from_upto opening start events event guarded opened rests =
    life_reserves (IsFromUpto (first_version opening) (version_now opening events)) opening start events event guarded (λ session s found.
    let became = become opening events session s opened found in
    let below = version_below opening events session became.0 s became.1 (none_ahead opening.now rests) (life_staged opening start events guarded opened rests).rises in
    attempts_weaker (first_version opening) s.seen.version.0 (version_now opening events) s s.step below (life_requests opening start events session became.0 s guarded rests became.1).attempted)

-- ---- records
higher : (high more version : ℕ) → high ≤ more → version ≤ high → version ≤ more
higher high more version up most = omega (arith, up, most)

cells_on : (home : ℕ → ℕ) (g : Ghosts) (low high : ℕ) (later before : List GhostEvent) → AllReserveFromUpto low high later → CellsUpto high (ghost_run home g before).log → CellsUpto high (ghost_run home g (later ++ before)).log
cells_on home g low high later before reserves upto a version made = elim (made_so (IsFromUpto low high) home g later before a version reserves made) [
  | inl was ↦ upto a version was
  | inr its ↦ its.1
]

pub cells_upto : (opening : World) (start : ℕ) (ghosts : Ghosts) (events : List Event) → OpensWithLog opening start ghosts → CellsUpto (version_now opening events) (life_ghosts opening ghosts events).log
unfolding run mapped ghost_run HasRisingPhase
cells_upto opening start ghosts [] opens a version made = opens.upto a version made
cells_upto opening start ghosts (event ∷ before) opens a version made =
    let rises = (life_staged opening start (event ∷ before) opens.guarded opens.opened opens.rests).rises in
    higher (version_now opening before) (version_now opening (event ∷ before)) version rises.0
    (cells_on (home_in opening.now.shape.bucket_bits) ghosts (first_version opening) (version_now opening before) (ghost_events (serials_in opening.now) (run opening before) event) (mapped opening before)
    (reserves_from_upto opening start before event opens.guarded opens.opened opens.rests) (cells_upto opening start ghosts before opens) a version made)

pub cells_between : (opening : World) (start : ℕ) (ghosts : Ghosts) (events : List Event) (event : Event) (later earlier : List GhostEvent) → OpensWithLog opening start ghosts
    → ghost_events (serials_in opening.now) (run opening events) event ≡ later ++ earlier
    → CellsUpto (version_now opening events) (ghost_run (home_in opening.now.shape.bucket_bits) ghosts (earlier ++ mapped opening events)).log
cells_between opening start ghosts events event later earlier opens split =
    let P : ℕ → Type 0 = IsFromUpto (first_version opening) (version_now opening events) in
    let all = subst (AllReserve P) split (reserves_from_upto opening start events event opens.guarded opens.opened opens.rests) in
    cells_on (home_in opening.now.shape.bucket_bits) ghosts (first_version opening) (version_now opening events) earlier (mapped opening events) (behind_reserve P later earlier all) (cells_upto opening start ghosts events opens)

none_made : (logged : Logged) (version low : ℕ) → logged ≡ Unborn → made_in logged ≡ Some version → low ≤ version
none_made logged version low none made = none_some version (sym (ap made_in none) ∙ made)

pub cells_from : (opening : World) (start : ℕ) (ghosts : Ghosts) (events : List Event) → OpensWithLog opening start ghosts → CellsFrom (tail_at opening.now) (first_version opening) (life_ghosts opening ghosts events).log
unfolding mapped ghost_run
cells_from opening start ghosts [] opens a version high made = none_made (ghosts.log.cells a) version (first_version opening) (opens.unborn a high) made
cells_from opening start ghosts (event ∷ before) opens a version high made =
    let P : ℕ → Type 0 = IsFromUpto (first_version opening) (version_now opening before) in
    elim (made_so P (home_in opening.now.shape.bucket_bits) ghosts (ghost_events (serials_in opening.now) (run opening before) event) (mapped opening before) a version
    (reserves_from_upto opening start before event opens.guarded opens.opened opens.rests) made) [
      | inl was ↦ cells_from opening start ghosts before opens a version high was
      | inr its ↦ its.0
    ]

-- ---- below the tail
tail_rises : (opening : World) (start : ℕ) (before : List Event) (event : Event) → guard.IsOpened opening.now start → tail_at (run opening before).now ≤ tail_at (run opening (event ∷ before)).now
unfolding run
tail_rises opening start before event guarded = (life_rises opening start before (event ∷ []) guarded).tail

upto_higher : (low tail more : ℕ) → low ≤ tail → tail ≤ more → low ≤ more
upto_higher low tail more one other = omega (arith, one, other)

tails_rise : (opening : World) (start : ℕ) (later before : List Event) → guard.IsOpened opening.now start → tail_at (run opening before).now ≤ tail_at (run opening (later ++ before)).now
tails_rise opening start [] before guarded = omega arith
tails_rise opening start (event ∷ later) before guarded =
    upto_higher (tail_at (run opening before).now) (tail_at (run opening (later ++ before)).now) _ (tails_rise opening start later before guarded) (tail_rises opening start (later ++ before) event guarded)

one_keeps : (opening : World) (start : ℕ) (ghosts : Ghosts) (bound : ℕ) (before : List Event) (event : Event) → guard.IsOpened opening.now start → bound ≤ tail_at (run opening before).now
    → KeepsVersions bound (life_ghosts opening ghosts before).log (life_ghosts opening ghosts (event ∷ before)).log
unfolding mapped
one_keeps opening start ghosts bound before event guarded low a below =
    kept_made bound (home_in opening.now.shape.bucket_bits) ghosts (ghost_events (serials_in opening.now) (run opening before) event) (mapped opening before) a (event_above opening start bound before event guarded low) below

pub keeps_versions : (opening : World) (start : ℕ) (ghosts : Ghosts) (later before : List Event) → guard.IsOpened opening.now start
    → KeepsVersions (tail_at (run opening before).now) (life_ghosts opening ghosts before).log (life_ghosts opening ghosts (later ++ before)).log
keeps_versions opening start ghosts [] before guarded a below = refl
keeps_versions opening start ghosts (event ∷ later) before guarded a below =
    one_keeps opening start ghosts (tail_at (run opening before).now) (later ++ before) event guarded (tails_rise opening start later before guarded) a below
    ∙ keeps_versions opening start ghosts later before guarded a below

-- ---- what is seen
-- the view has seen what is below its tail, which doesn't lie above this one
abbrev SeesBelow : Log → ℕ → View → Type 0
SeesBelow log tail view = IsOlder view log × (view.tail ≤ tail)

said_sees : (words : List ℕ) (log : Log) (view : View) (said : PhaseSaid) → CellsUpto (version_said said) log → SeesBelow log (word_at words (shared_place one.Tail)) (view_said words view said)
said_sees words log view Spoiled upto = ((λ a version low made. let none = upto a version made in omega (arith, none)), omega arith)
said_sees words log view (Says phase version) upto = ((λ a its low made. upto a its made), omega arith)

still_sees : (before after : Log) (tail more : ℕ) (view : View) → tail ≤ more → KeepsVersions tail before after → SeesBelow before tail view → SeesBelow after more view
still_sees before after tail more view up keeps sees =
    let low = sees.1 in
    ((λ a version below made. sees.0 a version below (sym (keeps a (omega (arith, below, low))) ∙ made)), omega (arith, low, up))

opened_sees : (opening : World) (session : ℕ) (first : SessionState) (log : Log) → OpensAtRest opening.now → slice_get opening.now.sessions session ≡ Some first → CellsUpto (first_version opening) log
    → AreViewsSo (SeesBelow log (tail_at opening.now)) (sight_opened opening.now first)
opened_sees opening session first log rests found upto =
    let same = first_said opening session first rests found in
    record { view = ((λ a version low made. let most = upto a version made in omega (arith, most, same)), omega arith); coming = tt }

life_sights : (opening : World) (start : ℕ) (ghosts : Ghosts) (session : ℕ) (first : SessionState) (events : List Event) → OpensWithLog opening start ghosts → slice_get opening.now.sessions session ≡ Some first
    → AreViewsSo (SeesBelow (life_ghosts opening ghosts events).log (tail_at (run opening events).now)) (sight_in opening session first events)
unfolding sight_in run
life_sights opening start ghosts session first [] opens found = opened_sees opening session first (life_ghosts opening ghosts []).log opens.rests found (cells_upto opening start ghosts [] opens)
life_sights opening start ghosts session first (event ∷ before) opens found =
    let k : Seat = seat_at opening.now session in
    let now : Now = (run opening before).now in
    let s : SessionState = session_run k first (session_events opening session before) in
    let log : Log = (life_ghosts opening ghosts before).log in
    let past = life_sights opening start ghosts session first before opens found in
    let tell = found_all now k s session event (slice_get now.sessions session) (session_runs opening session first before found) (same_seat opening before session) in
    let loads : LoadsSo (SeesBelow log (tail_at now)) now.words = λ view sees. said_sees now.words log view (phase_said (word_at now.words (shared_place one.Phase))) (cells_upto opening start ghosts before opens) in
    let its = through_so (SeesBelow log (tail_at now)) now.words (sight_in opening session first before) k s (session_part_of now session event) loads tell past in
    views_weaker (SeesBelow log (tail_at now)) _ _
    (λ view. still_sees log (life_ghosts opening ghosts (event ∷ before)).log (tail_at now) (tail_at (run opening (event ∷ before)).now) view (tail_rises opening start before event opens.guarded)
    (one_keeps opening start ghosts (tail_at now) before event opens.guarded (omega arith))) its

pub sees_older : (opening : World) (start : ℕ) (ghosts : Ghosts) (events : List Event) (session : ℕ) (first its : SessionState) → OpensWithLog opening start ghosts → HasBecome opening events session first its
    → HasSeenOlder (sight_of opening events session) (life_ghosts opening ghosts events).log
sees_older opening start ghosts events session first its opens became =
    let log : Log = (life_ghosts opening ghosts events).log in
    subst (λ (x : Sight). HasSeenOlder x log) (sym (ap (sight_found opening events session) became.was))
    (views_weaker (SeesBelow log (tail_at (run opening events).now)) (λ view. IsOlder view log) (sight_in opening session first events) (λ view sees. sees.0) (life_sights opening start ghosts session first events opens became.was))
