-- A specified store sets no sweep, so its log begins for good where it did as the store was opened.
use Rattle.std.proofs.Common.{◌≡◌, ◌⊎◌, inl, inr, ◌∙◌, List, [], ◌∷◌, refl, ap, sym, subst, Bool, true, false}
use Rattle.std.specs.Prelude.{Some, ◌&&◌, ◌||◌, ◌==◌, ◌^◌, not, nat_le, if◌then◌else◌}
use Rattle.fkv_base.specs.Limits.{is_specified}
use Rattle.fkv_base.specs.declared.numbers.Addr.{Addr}
use Rattle.fkv_base.specs.declared.numbers.Serial.{Serial}
use Rattle.fkv_base.specs.declared.shapes.Shape.{Shape}
use Rattle.fkv_plane.specs.declared.places.Places.{Places}
use Rattle.fkv_sweep.specs.Sweeping.{Sweeper, sweep_begun, sweep_failed, sweep_next, sweep_read, turn_begun}
use Rattle.fkv_sweep.proofs.Shown.{IsSameSweep, sweep_failed_same, sweep_next_same, sweep_read_same, sweep_turn_same}
use Rattle.law_refine.specs.Below.fkv_commit.Commit.{Commit}
use Rattle.law_refine.specs.Below.fkv_keeper.CheckpointLaws.{IsFinished}
use Rattle.law_refine.specs.Below.fkv_keeper.Keeping.{Finality, KeeperState, is_full, sweep_set}
use Rattle.law_refine.specs.Below.fkv_keeper.KeeperRun.{Calls, IsOpened, KeeperEvent, Replies, keeper_happens, keeper_run}
use Rattle.law_refine.specs.Below.fkv_keeper.SlotLaws.{HasBegin, HasMoved}
use Rattle.law_refine.specs.Below.fkv_keeper.SweepLaws.{IsSweepAfter, IsSweepSet}
use Rattle.law_refine.specs.Below.fkv_keeper.TheKeeping.{Keeping}
use Rattle.law_refine.specs.Below.fkv_keeper.TheKeeping.TheVariants.{Finishes, LoadsPhase, Sweeps}
use Rattle.law_refine.specs.Below.fkv_world.Opened.{IsOpenedWorld}
use Rattle.law_refine.specs.Below.fkv_world.OwnEvents.{keeper_events}
use Rattle.law_refine.specs.Below.fkv_world.Runs.{World, run}
use Rattle.law_refine.specs.Below.fkv_world.World.{Event}
use Rattle.law_refine.proofs.Below.fkv_keeper.Shown.{each_move, run_begins, run_class, sweep_moves}
use Rattle.law_refine.proofs.Below.law_world.OfKeeper.OwnRun.{of_keeper}
use Rattle.law_commit.specs.Begins.{SpecifiedBeginsStay}
use Rattle.law_commit.specs.BegunCommits.{life_begun}
use Rattle.law_commit.specs.Decided.Ended.{Span}
use Rattle.law_commit.proofs.AllBegun.{AllBegun, event_begun, one_of, opened_begun}

-- ---- the sweep has nothing to go over
abbrev pub HasNone : Sweeper → Type 0
HasNone w = w.from ≡ w.to

same_none : (w after : Sweeper) → IsSameSweep w after → HasNone w → HasNone after
same_none w after same none = same.from ∙ (none ∙ sym same.to)

none_set : (a b c d e : Bool) (x y : Sweeper) → a ≡ true → HasNone y → HasNone (if not a && b && c && d && e then x else y)
none_set true b c d e x y specified none = none
none_set false b c d e x y specified none = cc

set_none : (s : KeeperState) (c : Commit) → is_specified s.start.asked.class ≡ true → HasNone s.sweep → HasNone (sweep_set s c)
set_none s c specified none =
    none_set (is_specified s.start.asked.class) (is_full c.kind) (s.sweep.at.0 == s.sweep.from.0 || s.sweep.to.0 == c.begin.0) (nat_le c.begin.0 c.first.0) (nat_le c.first.0 (2 ^ 48)) (sweep_begun s.sweep.shape s.sweep.places c.begin c.first) s.sweep specified none

pub is_none : (w after : Sweeper) → after ≡ w → HasNone w → HasNone after
is_none w after same none = subst HasNone (sym same) none

pub event_none : (event : KeeperEvent) (step : Keeping) (s a : KeeperState) → (IsSweepSet s a → HasNone a.sweep) → HasNone s.sweep → IsSweepAfter event step s a → HasNone a.sweep
event_none (Replies reply granted) Sweeps s a sets none is = is_none (sweep_next s.sweep reply) a.sweep is (same_none s.sweep (sweep_next s.sweep reply) (sweep_next_same s.sweep reply) none)
event_none (Calls true bytes) Sweeps s a sets none is = is_none (sweep_read s.sweep bytes) a.sweep is (same_none s.sweep (sweep_read s.sweep bytes) (sweep_read_same s.sweep bytes) none)
event_none (Calls false bytes) Sweeps s a sets none is = is_none (sweep_failed s.sweep) a.sweep is (same_none s.sweep (sweep_failed s.sweep) (sweep_failed_same s.sweep) none)
event_none (Replies reply granted) LoadsPhase s a sets none (inl left) = is_none s.sweep a.sweep left.same none
event_none (Replies reply granted) LoadsPhase s a sets none (inr begun) = is_none (turn_begun s.sweep) a.sweep begun.same (same_none s.sweep (turn_begun s.sweep) (sweep_turn_same s.sweep) none)
event_none (Replies reply granted) Finishes s a sets none (inl left) = is_none s.sweep a.sweep left.same none
event_none (Replies reply granted) Finishes s a sets none (inr set) = sets set
event_none event step s a sets none left = is_none s.sweep a.sweep left.same none

run_none : (shape : Shape) (p : Places) (opening : KeeperState) (events : List KeeperEvent) → IsOpened opening → is_specified opening.start.asked.class ≡ true → HasNone (keeper_run shape p opening events).sweep
unfolding keeper_run
run_none shape p opening [] opened specified = subst HasNone (sym opened.none_swept.2) refl
run_none shape p opening (event ∷ before) opened specified =
    let s : KeeperState = keeper_run shape p opening before in
    let a : KeeperState = keeper_happens shape p s event in
    let none = run_none shape p opening before opened specified in
    event_none event s.step s a (λ set. is_none (sweep_set s set.commit) a.sweep set.same (set_none s set.commit (ap is_specified (run_class shape p opening before) ∙ specified) none)) none (sweep_moves shape p s event)

-- ---- so the begin stays
pub hand_stays : (s : KeeperState) (c : Commit) → HasNone s.sweep → (c.begin ≡ s.last.begin) ⊎ HasMoved s c → c.begin ≡ s.last.begin
hand_stays s c none (inl same) = same
hand_stays s c none (inr moved) = moved.to ∙ (sym none ∙ moved.from)

-- where the log of the newest finished commit begins, and that of the one in hand
pub record BeginStays (begin : Addr) (s : KeeperState) : Type 0 where
  pub last : s.last.begin ≡ begin
  pub commit : (c : Commit) → s.commit ≡ Some c → c.begin ≡ begin

last_stays : (begin : Addr) (s a : KeeperState) → BeginStays begin s → ((a.last ≡ s.last) × (a.lost ≡ s.lost)) ⊎ ((c : Commit) × (s.commit ≡ Some c) × IsFinished s a c) → a.last.begin ≡ begin
last_stays begin s a was (inl same) = ap (λ (f : Finality). f.begin) same.0 ∙ was.last
last_stays begin s a was (inr ends) = ap (λ (f : Finality). f.begin) ends.2.last ∙ was.commit ends.0 ends.1

there_stays : (begin : Addr) (s : KeeperState) → HasNone s.sweep → HasBegin s → s.last.begin ≡ begin → BeginStays begin s
there_stays begin s none has last = record { last = last; commit = λ c is. hand_stays s c none (has.commit c is) ∙ last }

pub run_stays : (shape : Shape) (p : Places) (opening : KeeperState) (events : List KeeperEvent) → IsOpened opening → is_specified opening.start.asked.class ≡ true → BeginStays opening.last.begin (keeper_run shape p opening events)
unfolding keeper_run
run_stays shape p opening [] opened specified = there_stays opening.last.begin opening (run_none shape p opening [] opened specified) (run_begins shape p opening [] opened) refl
run_stays shape p opening (event ∷ before) opened specified =
    let s : KeeperState = keeper_run shape p opening before in
    let a : KeeperState = keeper_happens shape p s event in
    there_stays opening.last.begin a (run_none shape p opening (event ∷ before) opened specified) (run_begins shape p opening (event ∷ before) opened)
    (last_stays opening.last.begin s a (run_stays shape p opening before opened specified) (each_move shape p s event).lists.lists)

-- ---- in a life
abbrev Stays : World → Span → List Serial → Type 0
Stays opening x points = x.begin ≡ opening.now.keeper.last.begin

all_stay : (opening : World) (events : List Event) → IsOpenedWorld opening → is_specified opening.now.keeper.start.asked.class ≡ true → AllBegun (Stays opening) (life_begun opening events)
all_stay opening [] opened specified = opened_begun (Stays opening) opening refl
all_stay opening (event ∷ before) opened specified =
    let there : BeginStays opening.now.keeper.last.begin (run opening before).now.keeper =
    of_keeper (BeginStays opening.now.keeper.last.begin) opening before (run_stays opening.now.shape opening.now.places opening.now.keeper (keeper_events opening before) opened.keeper specified) in
    event_begun (Stays opening) opening before event (λ at c is. there.commit c is) (all_stay opening before opened specified)

pub begun_stay : SpecifiedBeginsStay
begun_stay opening events c opened specified there = one_of (Stays opening) c (life_begun opening events) there (all_stay opening events opened specified)
