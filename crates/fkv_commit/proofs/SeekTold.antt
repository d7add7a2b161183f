-- What the search for points tells.
use Rattle.std.proofs.Common.{◌≡◌, ◌≢◌, ℕ, ◌+◌, ◌<◌, ◌≤◌, refl, sym, ap, subst, inl, inr, ◌⊎◌, arith, List, length, false}
use Rattle.std.specs.Prelude.{[], ◌∷◌, ◌++◌, ◌==◌, not, nat_lt, max}
use Rattle.std.proofs.lemmas.Bool.Decides.{nat_tests}
use Rattle.std.proofs.lemmas.List.{length-append}
use Rattle.fkv_base.specs.declared.numbers.Addr.{Addr}
use Rattle.fkv_base.specs.declared.numbers.Serial.{Serial}
use Rattle.fkv_base.specs.declared.numbers.Version.{Version}
use Rattle.fkv_base.specs.declared.phases.Phase.TheVariants.{WaitFlush}
use Rattle.fkv_marks.specs.Marks.{mark}
use Rattle.fkv_plane.specs.declared.asks.Ask.{Ask}
use Rattle.fkv_plane.specs.declared.asks.Ask.TheVariants.{Load, Store, Max, Add, Put, Done}
use Rattle.fkv_plane.specs.declared.places.SharedWord.TheVariants as one
use Rattle.fkv_plane.specs.declared.places.SessionWord.TheVariants as own
use Rattle.fkv_plane.specs.Places.{shared_place, session_place, drain_place}
use Rattle.fkv_plane.specs.Passing.{is_done, passed}
use Rattle.fkv_epoch.specs.Claiming.{phase_stored}
use Rattle.fkv_commit.specs.declared.deferring.Deferred.TheVariants.{ShowsReadOnly}
use Rattle.fkv_commit.specs.declared.deferring.DeferAnswer.{DeferAnswer}
use Rattle.fkv_commit.specs.declared.seeking.Seeking.{Seeking}
use Rattle.fkv_commit.specs.declared.seeking.Seeking.TheVariants.{Ended, LoadsOwing, SeeksSlot, LoadsCut, LoadsOther, LoadsAgain, StoresWaitFlush, LoadsTail, RaisesReadOnly, Defers}
use Rattle.fkv_commit.specs.declared.seeking.SeekAnswer.{SeekAnswer}
use Rattle.fkv_commit.specs.declared.seeking.SeekAnswer.TheVariants as answer
use Rattle.fkv_commit.specs.Commits.{version_after}
use Rattle.fkv_commit.specs.Cuts.{serial_said, version_said, is_cut_of, cut_of, other_cut_of}
use Rattle.fkv_commit.specs.Deferring.{defer_ask, defer_next, action_of}
use Rattle.fkv_commit.specs.Seeking.{SeekState, seek_begun, owing_from, seeking_ask, seek_ask, seeking_next, seek_next, points_from, floor_of, with_point, point_taken, slot_led, defer_led}
use Rattle.fkv_commit.specs.Exchanges.{Exchange, exchange, exchanged, AreIdle, AreSlotsBehind, HoldsSlot, IsDeferred}
use Rattle.fkv_commit.specs.Points.{CutsMet, First, Both, Again, IsPointShown, ArePointsShown, first_met, other_met, loads_of, all_loads, NoneOwes, ArePointsRight, AllAreTaken, IsSeekEnd, sought, seek_told, PointsAreRight, SeeksEndRight}
use Rattle.fkv_plane.proofs.Shown.{never}
use Rattle.fkv_commit.proofs.Replies.{by_replies, passed_exchanged, stays_among}
use Rattle.fkv_commit.proofs.DeferTold.{truth, IsSeeking, IsHolding, SeekOutcome, SeeksOn, HasHeld, HasNone, IsSpent, seek_step, begins_seeking, IsDeferring, Raises, Puts, Arms, DeferOutcome, DefersOn, HasArmed, defer_step, goes_on_deferring, none_met, seek_behind, defer_behind}

-- with this slot held, the points so far are shown by what was met behind the owing words
pub record IsShownBy (floor : List Serial) (v sessions : ℕ) (points : List Serial) (slot : ℕ) (told : List Exchange) : Type 0 where
  pub met : List CutsMet
  pub shown : ArePointsShown floor v met points
  pub many : length met ≡ length points
  pub before : List Exchange
  pub held : HoldsSlot slot before
  pub none_owes : NoneOwes sessions before
  pub its : told ≡ all_loads v met before

abbrev pub flushing : Version → ℕ → List Exchange → List Exchange
flushing number reply before = exchange (Store (shared_place one.Phase) (phase_stored WaitFlush (version_after number))) reply ∷ before

abbrev pub ending : Version → Addr → ℕ → List Exchange → List Exchange
ending number end reply before = exchange (Load (shared_place one.Tail)) end.0 ∷ flushing number reply before

abbrev pub shut : Version → Addr → ℕ → ℕ → List Exchange → List Exchange
shut number end raised reply before = exchange (Max (shared_place one.ReadOnly) end.0) raised ∷ ending number end reply before

pub record IsMissing (floor : List Serial) (number : Version) (sessions : ℕ) (s : SeekState) (told : List Exchange) : Type 0 where
  pub room : length s.points < sessions
  pub slot : ℕ
  pub holding : IsHolding slot s.defer
  pub by : IsShownBy floor number.0 sessions s.points slot told

pub record HasFirst (floor : List Serial) (number : Version) (sessions : ℕ) (s : SeekState) (first : ℕ) (told : List Exchange) : Type 0 where
  pub before : List Exchange
  pub its : told ≡ first_met number.0 (length s.points) first ∷ before
  pub isnt : version_said first ≢ mark number.0
  pub at : IsMissing floor number sessions s before

pub record HasBoth (floor : List Serial) (number : Version) (sessions : ℕ) (s : SeekState) (told : List Exchange) : Type 0 where
  pub before : List Exchange
  pub first : ℕ
  pub other : ℕ
  pub its : told ≡ other_met number.0 (length s.points) other ∷ first_met number.0 (length s.points) first ∷ before
  pub isnt : version_said first ≢ mark number.0
  pub later : version_said other ≡ mark (number.0 + 1)
  pub at : IsMissing floor number sessions s before

pub record HasAll (floor : List Serial) (number : Version) (sessions : ℕ) (s : SeekState) (told : List Exchange) : Type 0 where
  pub all : length s.points ≡ sessions
  pub slot : ℕ
  pub holding : IsHolding slot s.defer
  pub by : IsShownBy floor number.0 sessions s.points slot told

pub record IsFlushing (floor : List Serial) (number : Version) (sessions : ℕ) (s : SeekState) (told : List Exchange) : Type 0 where
  pub before : List Exchange
  pub reply : ℕ
  pub its : told ≡ flushing number reply before
  pub at : HasAll floor number sessions s before

pub record IsEnding (floor : List Serial) (number : Version) (sessions : ℕ) (s : SeekState) (end : Addr) (told : List Exchange) : Type 0 where
  pub before : List Exchange
  pub reply : ℕ
  pub its : told ≡ ending number end reply before
  pub at : HasAll floor number sessions s before

pub record IsAtDeferral (floor : List Serial) (number : Version) (sessions : ℕ) (s : SeekState) (end : Addr) (told : List Exchange) : Type 0 where
  pub all : length s.points ≡ sessions
  pub slot : ℕ
  pub before : List Exchange
  pub by : IsShownBy floor number.0 sessions s.points slot before
  pub raised : ℕ
  pub reply : ℕ
  pub deferring : IsDeferring (ShowsReadOnly end) slot (shut number end raised reply before) s.defer told

abbrev pub KnowsAt : List Serial → Version → ℕ → SeekState → Seeking → List Exchange → Type 0
KnowsAt floor number sessions s (Ended its) told = IsSeekEnd floor number sessions s.points its told
KnowsAt floor number sessions s (LoadsOwing session) told = (session < sessions) × NoneOwes session told × AreIdle told × (s.points ≡ [])
KnowsAt floor number sessions s SeeksSlot told = IsSeeking s.defer told × NoneOwes sessions told × AreIdle told × (s.points ≡ [])
KnowsAt floor number sessions s LoadsCut told = IsMissing floor number sessions s told
KnowsAt floor number sessions s (LoadsOther first) told = HasFirst floor number sessions s first told
KnowsAt floor number sessions s LoadsAgain told = HasBoth floor number sessions s told
KnowsAt floor number sessions s StoresWaitFlush told = HasAll floor number sessions s told
KnowsAt floor number sessions s LoadsTail told = IsFlushing floor number sessions s told
KnowsAt floor number sessions s (RaisesReadOnly end) told = IsEnding floor number sessions s end told
KnowsAt floor number sessions s (Defers end) told = IsAtDeferral floor number sessions s end told

pub record Knows (floor : List Serial) (number : Version) (sessions : ℕ) (s : SeekState) (told : List Exchange) : Type 0 where
  pub its_floor : s.floor ≡ floor
  pub its_number : s.number ≡ number
  pub its_sessions : s.sessions ≡ sessions
  pub at : KnowsAt floor number sessions s s.step told

-- one more owing word that is 0
one_more : (session : ℕ) (told : List Exchange) → NoneOwes session told → NoneOwes (session + 1) (exchange (Load (session_place session own.Owing)) 0 ∷ told)
one_more session told none = λ i below. elim (truth (nat_lt i session)) [
  | inl e ↦ let less : i < session = grind (arith, nat_tests, e) in inr (none i less)
  | inr e ↦ let over : session ≤ i = grind (arith, nat_tests, e) in
      let same : i ≡ session = omega (arith, over, below) in
      inl (ap (λ n. exchange (Load (session_place n own.Owing)) 0) same)
]

from_owing : (s : SeekState) (session : ℕ) (told : List Exchange) → session ≤ s.sessions → NoneOwes session told → AreIdle told → s.points ≡ [] → Knows s.floor s.number s.sessions (owing_from s session) told
from_owing s session told within none idle empty = elim (truth (nat_lt session s.sessions)) [
  | inl e ↦ let below : session < s.sessions = grind (arith, nat_tests, e) in rw e (record { its_floor = refl; its_number = refl; its_sessions = refl; at = (below, none, idle, empty) })
  | inr e ↦ let over : s.sessions ≤ session = grind (arith, nat_tests, e) in
      let all : session ≡ s.sessions = omega (arith, over, within) in
      rw e (record { its_floor = refl; its_number = refl; its_sessions = refl; at = (begins_seeking s.defer told, subst (λ n. NoneOwes n told) all none, idle, empty) })
]

from_points : (s : SeekState) (slot : ℕ) (told : List Exchange) → length s.points ≤ s.sessions → IsHolding slot s.defer → IsShownBy s.floor s.number.0 s.sessions s.points slot told → Knows s.floor s.number s.sessions (points_from s) told
from_points s slot told within holding by = elim (truth (nat_lt (length s.points) s.sessions)) [
  | inl e ↦ let room : length s.points < s.sessions = grind (arith, nat_tests, e) in
      rw e (record { its_floor = refl; its_number = refl; its_sessions = refl; at = record { room = room; slot = slot; holding = holding; by = by } })
  | inr e ↦ let over : s.sessions ≤ length s.points = grind (arith, nat_tests, e) in
      let all : length s.points ≡ s.sessions = omega (arith, over, within) in
      rw e (record { its_floor = refl; its_number = refl; its_sessions = refl; at = record { all = all; slot = slot; holding = holding; by = by } })
]

-- before any word is met
none_shown : (floor : List Serial) (v sessions : ℕ) (points : List Serial) (slot : ℕ) (told : List Exchange) → points ≡ [] → HoldsSlot slot told → NoneOwes sessions told → IsShownBy floor v sessions points slot told
none_shown floor v sessions points slot told empty held none = record { met = []; shown = empty; many = sym (ap length empty); before = told; held = held; none_owes = none; its = refl }

-- one more point that is shown
more_shown : (floor : List Serial) (v sessions : ℕ) (points : List Serial) (slot : ℕ) (told : List Exchange) (its : CutsMet) (point : ℕ) → IsShownBy floor v sessions points slot told → IsPointShown (floor_of floor (length points)) v its point
    → IsShownBy floor v sessions (points ++ record { 0 = point } ∷ []) slot (loads_of v (length points) its told)
more_shown floor v sessions points slot told its point by shown = record {
  met = its ∷ by.met;
  shown = (points, record { 0 = point }, refl, shown, by.shown);
  many = let longer : length (points ++ record { 0 = point } ∷ []) ≡ length points + 1 = length-append points (record { 0 = point } ∷ []) in
      let many = by.many in
      omega (arith, longer, many);
  before = by.before;
  held = by.held;
  none_owes = by.none_owes;
  its = rw (by.its, by.many) refl;
}

taken : (s : SeekState) (told : List Exchange) (its : CutsMet) (serial : ℕ) → IsMissing s.floor s.number s.sessions s told
    → IsPointShown (floor_of s.floor (length s.points)) s.number.0 its (max (floor_of s.floor (length s.points)) serial)
    → Knows s.floor s.number s.sessions (point_taken s serial) (loads_of s.number.0 (length s.points) its told)
taken s told its serial at shown =
    let point : ℕ = max (floor_of s.floor (length s.points)) serial in
    let longer : length (s.points ++ record { 0 = point } ∷ []) ≡ length s.points + 1 = length-append s.points (record { 0 = point } ∷ []) in
    let room = at.room in
    from_points (with_point s serial) at.slot (loads_of s.number.0 (length s.points) its told) (omega (arith, longer, room)) at.holding
    (more_shown s.floor s.number.0 s.sessions s.points at.slot told its point at.by shown)

seeks_on : (s : SeekState) (ask : Ask DeferAnswer) → is_done ask ≡ false → slot_led s ask ≡ s
unfolding slot_led
seeks_on s (Done its) e = cc
seeks_on s ask e = refl

defers_on : (end : Addr) (s : SeekState) (ask : Ask DeferAnswer) → is_done ask ≡ false → defer_led end s ask ≡ s
unfolding defer_led
defers_on end s (Done its) e = cc
defers_on end s ask e = refl

slot_sought : (s : SeekState) (told : List Exchange) → s.step ≡ SeeksSlot → NoneOwes s.sessions told → s.points ≡ [] → SeekOutcome s.defer told → Knows s.floor s.number s.sessions (slot_led s (defer_ask s.defer)) told
unfolding slot_led
slot_sought s told at none empty (SeeksOn e seeking idle) =
    rw (seeks_on s (defer_ask s.defer) e) (record { its_floor = refl; its_number = refl; its_sessions = refl; at = rw at (seeking, none, idle, empty) })
slot_sought s told at none empty (HasHeld slot e holding held) =
    let no : length s.points ≡ 0 = ap length empty in
    rw e (from_points s slot told (omega (arith, no)) holding (none_shown s.floor s.number.0 s.sessions s.points slot told empty held none))
slot_sought s told at none empty (HasNone e taken idle) = rw e (record { its_floor = refl; its_number = refl; its_sessions = refl; at = (empty, idle, taken) })
slot_sought s told at none empty (IsSpent e last idle) = rw e (record { its_floor = refl; its_number = refl; its_sessions = refl; at = (empty, idle, last) })

offset_deferred : (s : SeekState) (end : Addr) (slot : ℕ) (before : List Exchange) (raised reply : ℕ) (told : List Exchange) → s.step ≡ Defers end → length s.points ≡ s.sessions
    → IsShownBy s.floor s.number.0 s.sessions s.points slot before → DeferOutcome (ShowsReadOnly end) slot (shut s.number end raised reply before) s.defer told
    → Knows s.floor s.number s.sessions (defer_led end s (defer_ask s.defer)) told
unfolding defer_led
offset_deferred s end slot before raised reply told at all by (DefersOn e deferring) =
    rw (defers_on end s (defer_ask s.defer) e)
    (record { its_floor = refl; its_number = refl; its_sessions = refl; at = rw at (record { all = all; slot = slot; before = before; by = by; raised = raised; reply = reply; deferring = deferring }) })
offset_deferred s end slot before raised reply told at all by (HasArmed epoch e its) = rw e (record {
  its_floor = refl;
  its_number = refl;
  its_sessions = refl;
  at = record {
    met = by.met;
    shown = by.shown;
    all = all;
    slot = slot;
    before = by.before;
    held = by.held;
    none_owes = by.none_owes;
    store_reply = reply;
    max_reply = raised;
    deferred = subst (λ b. IsDeferred slot epoch (action_of (ShowsReadOnly end)) (shut s.number end raised reply b) told) by.its its;
  };
})

seeking_keeps : (s : SeekState) (step : Seeking) (told : List Exchange) (reply : ℕ) → s.step ≡ step → KnowsAt s.floor s.number s.sessions s step told
    → Knows s.floor s.number s.sessions (seeking_next s step reply) (exchanged (seeking_ask s step) reply told)
unfolding seeking_next seeking_ask exchanged passed
seeking_keeps s (Ended its) told reply at knows = record { its_floor = refl; its_number = refl; its_sessions = refl; at = rw at knows }
seeking_keeps s (LoadsOwing session) told reply at knows = elim (truth (reply == 0)) [
  | inl e ↦ let zero_said : reply ≡ 0 = grind (arith, nat_tests, e) in
      let below = knows.0 in
      rw (e, zero_said) (from_owing s (session + 1) (exchange (Load (session_place session own.Owing)) 0 ∷ told) (omega (arith, below)) (one_more session told knows.1) (tt, knows.2) knows.3)
  | inr e ↦ let isnt : reply ≢ 0 = (λ z. never (rw z at e)) in
      rw e (record { its_floor = refl; its_number = refl; its_sessions = refl; at = (knows.3, (tt, knows.2), (session, knows.0, (reply, isnt, inl refl))) })
]
seeking_keeps s SeeksSlot told reply at knows = rw (passed_exchanged (defer_ask s.defer) answer.Idle reply told)
    (slot_sought (record s { defer = defer_next s.defer reply }) (exchanged (defer_ask s.defer) reply told) at
    (λ session below. stays_among (exchange (Load (session_place session own.Owing)) 0) (defer_ask s.defer) reply told (knows.1 session below)) knows.3 (seek_step s.defer told reply knows.0 knows.2))
seeking_keeps s LoadsCut told reply at knows = elim (truth (is_cut_of s.number.0 reply)) [
  | inl e ↦ let same : version_said reply ≡ mark s.number.0 = grind (arith, nat_tests, e) in rw e (taken s told (First reply) (serial_said reply) knows (same, refl))
  | inr e ↦ let isnt : version_said reply ≢ mark s.number.0 = grind (arith, nat_tests, e) in
      rw e (record { its_floor = refl; its_number = refl; its_sessions = refl; at = record { before = told; its = refl; isnt = isnt; at = record { room = knows.room; slot = knows.slot; holding = knows.holding; by = knows.by } } })
]
seeking_keeps s (LoadsOther first) told reply at knows = elim (truth (not (is_cut_of (s.number.0 + 1) reply))) [
  | inl e ↦ let apart : version_said reply ≢ mark (s.number.0 + 1) = grind (arith, nat_tests, e) in
      rw (e, knows.its) (taken s knows.before (Both first reply) (max (serial_said first) (serial_said reply)) knows.at (knows.isnt, apart, refl))
  | inr e ↦ let later : version_said reply ≡ mark (s.number.0 + 1) = grind (arith, nat_tests, e) in
      rw (e, knows.its) (record {
        its_floor = refl;
        its_number = refl;
        its_sessions = refl;
        at = record { before = knows.before; first = first; other = reply; its = refl; isnt = knows.isnt; later = later; at = record { room = knows.at.room; slot = knows.at.slot; holding = knows.at.holding; by = knows.at.by } };
      })
]
seeking_keeps s LoadsAgain told reply at knows =
    rw knows.its (taken s knows.before (Again knows.first knows.other reply) (serial_said reply) knows.at (knows.isnt, knows.later, refl))
seeking_keeps s StoresWaitFlush told reply at knows = record {
  its_floor = refl;
  its_number = refl;
  its_sessions = refl;
  at = record { before = told; reply = reply; its = refl; at = record { all = knows.all; slot = knows.slot; holding = knows.holding; by = knows.by } };
}
seeking_keeps s LoadsTail told reply at knows = record {
  its_floor = refl;
  its_number = refl;
  its_sessions = refl;
  at = record { before = knows.before; reply = knows.reply; its = rw knows.its refl; at = record { all = knows.at.all; slot = knows.at.slot; holding = knows.at.holding; by = knows.at.by } };
}
seeking_keeps s (RaisesReadOnly end) told reply at knows = record {
  its_floor = refl;
  its_number = refl;
  its_sessions = refl;
  at = record {
    all = knows.at.all;
    slot = knows.at.slot;
    before = knows.before;
    by = knows.at.by;
    raised = reply;
    reply = knows.reply;
    deferring = rw knows.its (goes_on_deferring (ShowsReadOnly end) knows.at.slot (shut s.number end reply knows.reply knows.before) s.defer knows.at.holding);
  };
}
seeking_keeps s (Defers end) told reply at knows = rw (passed_exchanged (defer_ask s.defer) answer.Idle reply told)
    (offset_deferred (record s { defer = defer_next s.defer reply }) end knows.slot knows.before knows.raised knows.reply (exchanged (defer_ask s.defer) reply told) at knows.all knows.by
    (defer_step (ShowsReadOnly end) knows.slot (shut s.number end knows.raised knows.reply knows.before) s.defer told reply knows.deferring))

keeps : (floor : List Serial) (number : Version) (sessions : ℕ) (s : SeekState) (told : List Exchange) (reply : ℕ) → Knows floor number sessions s told → Knows floor number sessions (seek_next s reply) (exchanged (seek_ask s) reply told)
keeps floor number sessions s told reply knows =
    subst (λ (f : List Serial). Knows f number sessions (seek_next s reply) (exchanged (seek_ask s) reply told)) knows.its_floor
    (subst (λ (n : Version). Knows s.floor n sessions (seek_next s reply) (exchanged (seek_ask s) reply told)) knows.its_number
    (subst (λ (m : ℕ). Knows s.floor s.number m (seek_next s reply) (exchanged (seek_ask s) reply told)) knows.its_sessions
    (seeking_keeps s s.step told reply refl
    (subst (λ (m : ℕ). KnowsAt s.floor s.number m s s.step told) (sym knows.its_sessions)
    (subst (λ (n : Version). KnowsAt s.floor n sessions s s.step told) (sym knows.its_number) (subst (λ (f : List Serial). KnowsAt f number sessions s s.step told) (sym knows.its_floor) knows.at))))))

pub knows_all : (opening : SeekState) (number : Version) (floor : List Serial) (replies : List ℕ) → Knows floor number opening.sessions (sought opening number floor replies) (seek_told opening number floor replies)
knows_all opening number floor replies =
    by_replies seek_ask seek_next (Knows floor number opening.sessions) (seek_begun opening number floor)
    (from_owing (record opening { number = number; floor = floor; points = [] }) 0 [] (omega arith) (λ i below. let no : ⊥ = omega (arith, below) in absurd no) tt refl) (keeps floor number opening.sessions) replies

pub seeks_end : SeeksEndRight
seeks_end opening number floor replies its ended =
    let s : SeekState = sought opening number floor replies in
    subst (λ (step : Seeking). KnowsAt floor number opening.sessions s step (seek_told opening number floor replies)) ended (knows_all opening number floor replies).at

-- the points so far, and what was told since they were met
so_far : (floor : List Serial) (v sessions : ℕ) (points : List Serial) (slot : ℕ) (since before told : List Exchange) → IsShownBy floor v sessions points slot before → told ≡ since ++ before → AreIdle since ⊎ (length points ≡ sessions)
    → ArePointsRight floor v sessions points told
so_far floor v sessions points slot since before told by is first =
    inr (record { met = by.met; shown = by.shown; slot = slot; before = by.before; held = by.held; none_owes = by.none_owes; since = since; its = subst (λ b. told ≡ since ++ b) by.its is; first = first })

all_right : (floor : List Serial) (number : Version) (sessions : ℕ) (points : List Serial) (end : Addr) (epoch : ℕ) (told : List Exchange) → AllAreTaken floor number sessions points end epoch told → ArePointsRight floor number.0 sessions points told
all_right floor number sessions points end epoch told taken =
    let d = taken.deferred in
    inr (record {
      met = taken.met;
      shown = taken.shown;
      slot = taken.slot;
      before = taken.before;
      held = taken.held;
      none_owes = taken.none_owes;
      since = exchange (Store (drain_place taken.slot) (epoch + 2)) d.arm_reply ∷ exchange (Put taken.slot (action_of (ShowsReadOnly end))) d.put_reply ∷ exchange (Add (shared_place one.Epoch) 1) d.raised ∷ shut number end taken.max_reply taken.store_reply [];
      its = d.its;
      first = inr taken.all;
    })

ended_right : (floor : List Serial) (number : Version) (sessions : ℕ) (points : List Serial) (its : SeekAnswer) (told : List Exchange) → IsSeekEnd floor number sessions points its told → ArePointsRight floor number.0 sessions points told
ended_right floor number sessions points (answer.Taken end epoch) told knows = all_right floor number sessions points end epoch told knows
ended_right floor number sessions points answer.Idle told knows = absurd knows
ended_right floor number sessions points answer.Owing told knows = inl (knows.0, knows.1)
ended_right floor number sessions points answer.DrainFull told knows = inl (knows.0, knows.1)
ended_right floor number sessions points answer.EpochsSpent told knows = inl (knows.0, knows.1)

deferring_right : (floor : List Serial) (number : Version) (sessions : ℕ) (s : SeekState) (end : Addr) (told : List Exchange) (knows : IsAtDeferral floor number sessions s end told)
    → IsDeferring (ShowsReadOnly end) knows.slot (shut number end knows.raised knows.reply knows.before) s.defer told → ArePointsRight floor number.0 sessions s.points told
deferring_right floor number sessions s end told knows (Raises arming at is) = so_far floor number.0 sessions s.points knows.slot (shut number end knows.raised knows.reply []) knows.before told knows.by is (inr knows.all)
deferring_right floor number sessions s end told knows (Puts raising raised at is) =
    so_far floor number.0 sessions s.points knows.slot (exchange (Add (shared_place one.Epoch) 1) raised ∷ shut number end knows.raised knows.reply []) knows.before told knows.by is (inr knows.all)
deferring_right floor number sessions s end told knows (Arms raising raised put at is) =
    so_far floor number.0 sessions s.points knows.slot (exchange (Put knows.slot (action_of (ShowsReadOnly end))) put ∷ exchange (Add (shared_place one.Epoch) 1) raised ∷ shut number end knows.raised knows.reply []) knows.before told knows.by is (inr knows.all)

right : (floor : List Serial) (number : Version) (sessions : ℕ) (s : SeekState) (step : Seeking) (told : List Exchange) → KnowsAt floor number sessions s step told → ArePointsRight floor number.0 sessions s.points told
right floor number sessions s (Ended its) told knows = ended_right floor number sessions s.points its told knows
right floor number sessions s (LoadsOwing session) told knows = inl (knows.3, knows.2)
right floor number sessions s SeeksSlot told knows = inl (knows.3, knows.2)
right floor number sessions s LoadsCut told knows = so_far floor number.0 sessions s.points knows.slot [] told told knows.by refl (inl tt)
right floor number sessions s (LoadsOther first) told knows =
    so_far floor number.0 sessions s.points knows.at.slot (first_met number.0 (length s.points) first ∷ []) knows.before told knows.at.by knows.its (inl (tt, tt))
right floor number sessions s LoadsAgain told knows =
    so_far floor number.0 sessions s.points knows.at.slot (other_met number.0 (length s.points) knows.other ∷ first_met number.0 (length s.points) knows.first ∷ []) knows.before told knows.at.by knows.its (inl (tt, (tt, tt)))
right floor number sessions s StoresWaitFlush told knows = so_far floor number.0 sessions s.points knows.slot [] told told knows.by refl (inr knows.all)
right floor number sessions s LoadsTail told knows = so_far floor number.0 sessions s.points knows.at.slot (flushing number knows.reply []) knows.before told knows.at.by knows.its (inr knows.at.all)
right floor number sessions s (RaisesReadOnly end) told knows = so_far floor number.0 sessions s.points knows.at.slot (ending number end knows.reply []) knows.before told knows.at.by knows.its (inr knows.at.all)
right floor number sessions s (Defers end) told knows = deferring_right floor number sessions s end told knows knows.deferring

pub points_right : PointsAreRight
points_right opening number floor replies =
    let s : SeekState = sought opening number floor replies in
    right floor number opening.sessions s s.step (seek_told opening number floor replies) (knows_all opening number floor replies).at

behind_at : (floor : List Serial) (number : Version) (sessions : ℕ) (s : SeekState) (step : Seeking) (told : List Exchange) (reply : ℕ) → KnowsAt floor number sessions s step told → AreSlotsBehind told
    → AreSlotsBehind (exchanged (seeking_ask s step) reply told)
unfolding seeking_ask exchanged passed
behind_at floor number sessions s (Ended its) told reply knows behind = behind
behind_at floor number sessions s (LoadsOwing session) told reply knows behind = (none_met (session_place session own.Owing) told (inr (omega arith)), behind)
behind_at floor number sessions s SeeksSlot told reply knows behind = rw (passed_exchanged (defer_ask s.defer) answer.Idle reply told) (seek_behind s.defer told reply knows.0 behind)
behind_at floor number sessions s LoadsCut told reply knows behind = (none_met (session_place (length s.points) (cut_of s.number.0)) told (inr (omega arith)), behind)
behind_at floor number sessions s (LoadsOther first) told reply knows behind = (none_met (session_place (length s.points) (other_cut_of s.number.0)) told (inr (omega arith)), behind)
behind_at floor number sessions s LoadsAgain told reply knows behind = (none_met (session_place (length s.points) (cut_of s.number.0)) told (inr (omega arith)), behind)
behind_at floor number sessions s StoresWaitFlush told reply knows behind = (λ met. absurd met, behind)
behind_at floor number sessions s LoadsTail told reply knows behind = (none_met (shared_place one.Tail) told (inl (omega arith)), behind)
behind_at floor number sessions s (RaisesReadOnly end) told reply knows behind = (λ met. absurd met, behind)
behind_at floor number sessions s (Defers end) told reply knows behind = rw (passed_exchanged (defer_ask s.defer) answer.Idle reply told)
    (defer_behind (ShowsReadOnly end) knows.slot (shut number end knows.raised knows.reply knows.before) s.defer told reply knows.deferring behind)

abbrev BothHold : List Serial → Version → ℕ → SeekState → List Exchange → Type 0
BothHold floor number sessions s told = Knows floor number sessions s told × AreSlotsBehind told

pub seeks_behind : (opening : SeekState) (number : Version) (floor : List Serial) (replies : List ℕ) → AreSlotsBehind (seek_told opening number floor replies)
seeks_behind opening number floor replies =
    let s : SeekState = sought opening number floor replies in
    let both : BothHold floor number opening.sessions s (seek_told opening number floor replies) =
    by_replies seek_ask seek_next (BothHold floor number opening.sessions) (seek_begun opening number floor)
    (from_owing (record opening { number = number; floor = floor; points = [] }) 0 [] (omega arith) (λ i below. let no : ⊥ = omega (arith, below) in absurd no) tt refl, tt)
    (λ s told reply knows. (keeps floor number opening.sessions s told reply knows.0, behind_at floor number opening.sessions s s.step told reply knows.0.at knows.1)) replies in
    both.1
