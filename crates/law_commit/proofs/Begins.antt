-- Where the log of each commit begins that has begun in a life: where the newest finished one's does, or further on, at the end of a sweep.
use Rattle.std.proofs.Common.{◌≡◌, inl, inr, ℕ, ◌≤◌, List, [], ◌∷◌, refl, ap, sym, subst, arith, Bool, true, false}
use Rattle.std.specs.Prelude.{Option, Some, None}
use Rattle.fkv_base.specs.declared.numbers.Addr.{Addr}
use Rattle.fkv_base.specs.declared.numbers.Serial.{Serial}
use Rattle.fkv_base.specs.declared.shapes.Shape.{Shape}
use Rattle.fkv_plane.specs.declared.places.Places.{Places}
use Rattle.law_refine.specs.Below.fkv_commit.Commit.{Commit}
use Rattle.law_refine.specs.Below.fkv_manifest.TheCommitting.{Committing}
use Rattle.law_refine.specs.Below.fkv_manifest.TheCommitting.TheVariants as committing
use Rattle.law_refine.specs.Below.fkv_manifest.TheGating.{Gating}
use Rattle.law_refine.specs.Below.fkv_manifest.TheGating.TheVariants as gate
use Rattle.law_refine.specs.Below.fkv_keeper.KeeperTold.TheVariants.{Turned}
use Rattle.law_refine.specs.Below.fkv_keeper.TheKeeping.{Keeping}
use Rattle.law_refine.specs.Below.fkv_keeper.TheKeeping.TheVariants.{Ended, Starts, Maintains, LoadsPhase, Enters, Copies, Seeks, Waits, Writes, Finishes, Sweeps}
use Rattle.law_refine.specs.Below.fkv_keeper.Keeping.{KeeperState, come_to}
use Rattle.law_refine.specs.Below.fkv_keeper.KeeperLaws.{MayRest}
use Rattle.law_refine.specs.Below.fkv_keeper.KeeperRun.{BeginsCommit, BeginsTurn, Calls, Gets, IsOpened, KeeperEvent, Replies, keeper_run}
use Rattle.law_refine.specs.Below.fkv_keeper.SlotLaws.{HasBegin}
use Rattle.law_refine.specs.Below.fkv_world.Opened.{IsOpenedWorld}
use Rattle.law_refine.specs.Below.fkv_world.OwnEvents.{keeper_events}
use Rattle.law_refine.specs.Below.fkv_world.Runs.{World, run}
use Rattle.law_refine.specs.Below.fkv_world.World.{Event, Now}
use Rattle.law_refine.proofs.Below.fkv_keeper.Shown.{run_begins}
use Rattle.law_refine.proofs.Below.law_world.OfKeeper.OwnRun.{keeper_begins}
use Rattle.law_commit.specs.Begins.{BegunBeginOn, BegunBeginThen, BeginsBehind, BeginsNeverFall, BeginsThen, NoneBeginsLower}
use Rattle.law_commit.specs.BegunCommits.{BegunCommit, begun_at_end, begun_at_gate, begun_at_writes, begun_by, commit_opened, commit_opening, commits_begun, life_begun, with_finished, with_sealed}
use Rattle.law_commit.specs.Decided.Ended.{HadMoment, Span, span_in}
use Rattle.law_commit.specs.HeldCommits.{HaveFinished}
use Rattle.law_commit.proofs.AllBegun.{AllBegun, event_begun, one_of, opened_begun, weaker}
use Rattle.law_commit.proofs.BegunStands.{AtGate, AtWrites, Stands, StandsAt, run_stands}
use Rattle.law_commit.proofs.InRest.{come_awake, rest_begun, rests_there}
use Rattle.law_commit.proofs.LifeBegun.{life_stands, opening_finished}
use Rattle.law_commit.proofs.OfDecided.Ended.{had_on, had_then}
use Rattle.law_commit.proofs.OfPoints.Last.{last_of}

-- ---- the commit in hand
hand_then : (n : Now) (c : Commit) (triples : List ℕ) → HasBegin n.keeper → n.keeper.commit ≡ Some c → BeginsThen (span_in c c.end triples) n
hand_then n c triples begins is = elim (begins.commit c is) [
  | inl same ↦ inl same
  | inr moved ↦ inr (record { commit = c; in_hand = is; begin = refl; first = refl; moved = moved })
]

pub hand_on : (s : KeeperState) (c : Commit) → HasBegin s → s.commit ≡ Some c → s.last.begin.0 ≤ c.begin.0
hand_on s c begins is = elim (begins.commit c is) [
  | inl same ↦ (let begin = ap (λ (a : Addr). a.0) same in omega (arith, begin))
  | inr moved ↦ moved.on
]

-- ---- at a moment of the life
abbrev Then : World → List Event → Span → List Serial → Type 0
Then opening events x points = HadMoment (BeginsThen x) opening events

all_then : (opening : World) (events : List Event) → IsOpenedWorld opening → AllBegun (Then opening events) (life_begun opening events)
unfolding run
all_then opening [] opened = opened_begun (Then opening []) opening (record { moment = []; later = []; split = refl; was = inl refl })
all_then opening (event ∷ before) opened =
    event_begun (Then opening (event ∷ before)) opening before event
    (λ at c is. had_then (BeginsThen (span_in c c.end (run opening before).now.keeper.writes.triples)) opening before event
    (hand_then (run opening before).now c (run opening before).now.keeper.writes.triples (keeper_begins opening before opened) is))
    (weaker (Then opening before) (Then opening (event ∷ before)) (life_begun opening before) (λ x points had. had_on (BeginsThen x) opening before event had) (all_then opening before opened))

pub life_then : BegunBeginThen
life_then opening events c opened there = one_of (Then opening events) c (life_begun opening events) there (all_then opening events opened)

-- ---- at or above the opening's
abbrev On : World → Span → List Serial → Type 0
On opening x points = opening.now.keeper.last.begin.0 ≤ x.begin.0

last_on : (opening : World) (events : List Event) → IsOpenedWorld opening → AllBegun (On opening) (life_begun opening events) → opening.now.keeper.last.begin.0 ≤ (run opening events).now.keeper.last.begin.0
last_on opening events opened all =
    let s : KeeperState = (run opening events).now.keeper in
    let last = last_of (life_begun opening events) s (come_to s) (life_stands opening events opened) in
    let up = one_of (On opening) last.commit (life_begun opening events) last.there all in
    let same = ap (λ (a : Addr). a.0) last.its.begin in
    omega (arith, up, same)

all_on : (opening : World) (events : List Event) → IsOpenedWorld opening → AllBegun (On opening) (life_begun opening events)
all_on opening [] opened = opened_begun (On opening) opening (omega arith)
all_on opening (event ∷ before) opened =
    let past = all_on opening before opened in
    event_begun (On opening) opening before event
    (λ at c is. let up = last_on opening before opened past in let on = hand_on (run opening before).now.keeper c (keeper_begins opening before opened) is in omega (arith, up, on)) past

pub life_on : BegunBeginOn
life_on opening events c opened there = one_of (On opening) c (life_begun opening events) there (all_on opening events opened)

-- ---- none below the one before it
sealed_rise : (begun : List BegunCommit) → NoneBeginsLower begun → NoneBeginsLower (with_sealed begun)
sealed_rise [] its = its
sealed_rise (c ∷ []) its = its
sealed_rise (c ∷ earlier ∷ before) its = its

finished_rise : (begun : List BegunCommit) → NoneBeginsLower begun → NoneBeginsLower (with_finished begun)
finished_rise [] its = its
finished_rise (c ∷ []) its = its
finished_rise (c ∷ earlier ∷ before) its = its

end_rise : (after : Keeping) (begun : List BegunCommit) → NoneBeginsLower begun → NoneBeginsLower (begun_at_end after begun)
end_rise (Ended (Turned true full)) begun its = finished_rise begun its
end_rise after begun its = its

opened_rise : (s : KeeperState) (begun : List BegunCommit) (c : Commit) → HasBegin s → s.commit ≡ Some c → HaveFinished begun s.last → NoneBeginsLower begun → NoneBeginsLower (commit_opening s c ∷ begun)
opened_rise s begun c begins found all its =
    let on = hand_on s c begins found in
    let same = ap (λ (a : Addr). a.0) all.last.begin in
    let behind : BeginsBehind (commit_opening s c) (all.newest ∷ all.older) = omega (arith, on, same) in
    (subst (λ (x : List BegunCommit). BeginsBehind (commit_opening s c) x) (sym all.its) behind, its)

opening_rise : (s : KeeperState) (begun : List BegunCommit) (found : Option Commit) (done : Bool) → HasBegin s → s.commit ≡ found → HaveFinished begun s.last → NoneBeginsLower begun → NoneBeginsLower (begun_at_gate s gate.Opens done begun)
opening_rise s begun None done begins none all its = rw none its
opening_rise s begun (Some c) done begins found all its = rw found (opened_rise s begun c begins found all its)

gate_rise : (s : KeeperState) (begun : List BegunCommit) (step : Gating) (done : Bool) → HasBegin s → AtGate begun s step → NoneBeginsLower begun → NoneBeginsLower (begun_at_gate s step done begun)
gate_rise s begun gate.Opens done begins at its = opening_rise s begun s.commit done begins refl at its
gate_rise s begun gate.SyncsOpen true begins at its = sealed_rise begun its
gate_rise s begun gate.SyncsOpen false begins at its = its
gate_rise s begun step done begins at its = its

writes_rise : (s : KeeperState) (begun : List BegunCommit) (step : Committing) (done : Bool) → HasBegin s → AtWrites begun s step → NoneBeginsLower begun → NoneBeginsLower (begun_at_writes s step done begun)
writes_rise s begun committing.PutsSlot done begins at its = gate_rise s begun s.writes.gate.step done begins at its
writes_rise s begun step done begins at its = its

event_rise : (s : KeeperState) (begun : List BegunCommit) (step : Keeping) (event : KeeperEvent) (after : Keeping) → HasBegin s → StandsAt begun s step → NoneBeginsLower begun → NoneBeginsLower (begun_by s step event after begun)
event_rise s begun Writes (Calls done bytes) after begins at its = writes_rise s begun s.writes.step done begins at its
event_rise s begun Writes BeginsTurn after begins at its = its
event_rise s begun Writes (BeginsCommit kind) after begins at its = its
event_rise s begun Writes (Replies reply granted) after begins at its = its
event_rise s begun Writes (Gets action) after begins at its = its
event_rise s begun Finishes event after begins at its = end_rise after begun its
event_rise s begun (Ended told) event after begins at its = its
event_rise s begun Starts event after begins at its = its
event_rise s begun Maintains event after begins at its = its
event_rise s begun LoadsPhase event after begins at its = its
event_rise s begun Enters event after begins at its = its
event_rise s begun Copies event after begins at its = its
event_rise s begun Sweeps event after begins at its = its
event_rise s begun Seeks event after begins at its = its
event_rise s begun Waits event after begins at its = its

-- where writes rest it stays as it is
come_rise : (s : KeeperState) (begun : List BegunCommit) (event : KeeperEvent) (after : Keeping) → (s.rests ≡ true → MayRest s.step) → HasBegin s → Stands begun s → NoneBeginsLower begun → NoneBeginsLower (begun_by s s.step event after begun)
come_rise s begun event after may begins at its = by s.rests refl
  where
    by : (b : Bool) → s.rests ≡ b → NoneBeginsLower (begun_by s s.step event after begun)
    by true rests = subst (λ (x : List BegunCommit). NoneBeginsLower x) (sym (rest_begun s s.step event after begun (may rests))) its
    by false awake = event_rise s begun s.step event after begins (subst (λ (x : Keeping). StandsAt begun s x) (come_awake s s.step awake refl) at) its

run_rise : (shape : Shape) (p : Places) (opening : KeeperState) (first : List BegunCommit) (events : List KeeperEvent) → IsOpened opening → HaveFinished first opening.last → NoneBeginsLower first → NoneBeginsLower (commits_begun shape p opening first events)
unfolding commits_begun
run_rise shape p opening first [] opened all its = its
run_rise shape p opening first (event ∷ before) opened all its =
    come_rise (keeper_run shape p opening before) (commits_begun shape p opening first before) event (keeper_run shape p opening (event ∷ before)).step (rests_there shape p opening before opened) (run_begins shape p opening before opened)
    (run_stands shape p opening first before opened all) (run_rise shape p opening first before opened all its)

pub life_rise : BeginsNeverFall
life_rise opening events opened =
    run_rise opening.now.shape opening.now.places opening.now.keeper (commit_opened opening.now opening.past.opened ∷ []) (keeper_events opening events) opened.keeper (opening_finished opening) (tt, tt)
