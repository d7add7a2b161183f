-- What the start of a commit tells.
use Rattle.std.proofs.Common.{◌≡◌, ◌≢◌, ℕ, ◌-◌, ◌<◌, ◌≤◌, refl, sym, subst, inl, inr, arith, List, Bool, true, false}
use Rattle.std.specs.Prelude.{[], ◌∷◌, nat_le, nat_lt, ◌&&◌, ◌||◌}
use Rattle.std.proofs.lemmas.Bool.Decides.{nat_tests}
use Rattle.fkv_base.specs.declared.faults.Fault.TheVariants.{CommitRunning}
use Rattle.fkv_base.specs.declared.numbers.Addr.{Addr}
use Rattle.fkv_base.specs.declared.numbers.Version.{Version}
use Rattle.fkv_base.specs.declared.phases.Phase.TheVariants as phase
use Rattle.fkv_marks.specs.Window.{oldest}
use Rattle.fkv_words.specs.declared.phase_words.PhaseSaid.{PhaseSaid}
use Rattle.fkv_words.specs.declared.phase_words.PhaseSaid.TheVariants.{Says, Spoiled}
use Rattle.fkv_words.specs.PhaseWords.{phase_said}
use Rattle.fkv_plane.specs.declared.asks.Ask.{Ask}
use Rattle.fkv_plane.specs.declared.asks.Ask.TheVariants.{Load, Store, Done}
use Rattle.fkv_plane.specs.declared.places.SharedWord.TheVariants as one
use Rattle.fkv_plane.specs.Places.{shared_place}
use Rattle.fkv_plane.specs.Passing.{is_done, passed}
use Rattle.fkv_epoch.specs.Claiming.{phase_stored}
use Rattle.fkv_epoch.specs.Once.{Among}
use Rattle.fkv_base.specs.declared.commits.CommitKind.{CommitKind}
use Rattle.fkv_base.specs.declared.commits.CommitKind.TheVariants.{Full, Log}
use Rattle.fkv_commit.specs.declared.deferring.Deferred.TheVariants.{EntersPhase}
use Rattle.fkv_commit.specs.declared.deferring.DeferAnswer.{DeferAnswer}
use Rattle.fkv_commit.specs.declared.starting.StartAsked.{StartAsked}
use Rattle.fkv_commit.specs.declared.starting.Starting.{Starting}
use Rattle.fkv_commit.specs.declared.starting.Starting.TheVariants.{Ended, LoadsPhase, Seeks, StoresPrepare, LoadsTail, Defers}
use Rattle.fkv_commit.specs.declared.starting.StartAnswer.TheVariants.{Idle}
use Rattle.fkv_commit.specs.Commits.{is_log, version_after}
use Rattle.fkv_commit.specs.Deferring.{defer_ask, defer_next}
use Rattle.fkv_base.specs.Limits.{last_of}
use Rattle.fkv_commit.specs.Starting.{max_lost, is_past_window, StartState, start_begun, starting_ask, start_ask, starting_next, start_next, phase_found, refused, is_lost_full, seek_led, defer_led}
use Rattle.fkv_commit.specs.Exchanges.{Exchange, exchange, exchanged, AreIdle, AreSlotsBehind, HoldsSlot}
use Rattle.fkv_commit.specs.Phases.{HasNoRoom, SaidRest, MayStart, IsStartEnd, StartsEndRight, started, start_told}
use Rattle.fkv_commit.proofs.Replies.{by_replies, passed_exchanged, stays_among}
use Rattle.fkv_commit.proofs.DeferTold.{truth, IsSeeking, IsHolding, SeekOutcome, SeeksOn, HasHeld, HasNone, IsSpent, seek_step, begins_seeking, IsDeferring, DeferOutcome, DefersOn, HasArmed, defer_step, goes_on_deferring, none_met, seek_behind, defer_behind}

-- prepare is stored behind a held slot, and the tail is loaded behind that
abbrev prepared : Version → ℕ → List Exchange → List Exchange
prepared number reply before = exchange (Store (shared_place one.Phase) (phase_stored phase.Prepare number)) reply ∷ before

abbrev tail_loaded : Version → Addr → ℕ → List Exchange → List Exchange
tail_loaded number first reply before = exchange (Load (shared_place one.Tail)) first.0 ∷ prepared number reply before

record IsHeldAt (s : StartState) (number : Version) (before : List Exchange) : Type 0 where
  pub slot : ℕ
  pub holding : IsHolding slot s.defer
  pub held : HoldsSlot slot before
  pub may : MayStart s.asked number before

record IsPrepared (s : StartState) (number : Version) (told : List Exchange) : Type 0 where
  pub before : List Exchange
  pub reply : ℕ
  pub its : told ≡ prepared number reply before
  pub at : IsHeldAt s number before

record IsAtDeferral (s : StartState) (number : Version) (first : Addr) (told : List Exchange) : Type 0 where
  pub before : List Exchange
  pub reply : ℕ
  pub slot : ℕ
  pub held : HoldsSlot slot before
  pub may : MayStart s.asked number before
  pub deferring : IsDeferring (EntersPhase phase.InProgress (version_after number)) slot (tail_loaded number first reply before) s.defer told

abbrev KnowsAt : StartAsked → StartState → Starting → List Exchange → Type 0
KnowsAt asked s (Ended its) told = IsStartEnd asked its told
KnowsAt asked s LoadsPhase told = told ≡ []
KnowsAt asked s (Seeks number) told = IsSeeking s.defer told × AreIdle told × MayStart asked number told
KnowsAt asked s (StoresPrepare number) told = IsHeldAt s number told
KnowsAt asked s (LoadsTail number) told = IsPrepared s number told
KnowsAt asked s (Defers number first) told = IsAtDeferral s number first told

record Knows (asked : StartAsked) (s : StartState) (told : List Exchange) : Type 0 where
  pub its_asked : s.asked ≡ asked
  pub at : KnowsAt asked s s.step told

-- what was said stays said
still_rest : {A : Type 0} (number : Version) (ask : Ask A) (reply : ℕ) (told : List Exchange) → SaidRest number told → SaidRest number (exchanged ask reply told)
still_rest number ask reply told h = record { word = h.word; loaded = stays_among (exchange (Load (shared_place one.Phase)) h.word) ask reply told h.loaded; says = h.says }

still_allowed : {A : Type 0} (asked : StartAsked) (number : Version) (ask : Ask A) (reply : ℕ) (told : List Exchange) → MayStart asked number told → MayStart asked number (exchanged ask reply told)
still_allowed asked number ask reply told h = record { rest = still_rest number ask reply told h.rest; follows = h.follows; few_lost = h.few_lost }

-- why a log commit has no room
no_room : (asked : StartAsked) (number : ℕ) (many past : Bool) → nat_lt max_lost asked.lost ≡ many → is_past_window asked number ≡ past → (many || past) ≡ true → HasNoRoom asked number
no_room asked number true past many_so past_so e = inl (grind (arith, nat_tests, many_so))
no_room asked number false true many_so past_so e = let far : 8189 < number - oldest asked.class asked.checkpoint.0 = grind (arith, nat_tests, past_so) in inr (omega (arith, far))
no_room asked number false false many_so past_so e = cc

too_many : (asked : StartAsked) (number : ℕ) (kind : CommitKind) → asked.kind ≡ kind → (is_log kind && (nat_lt max_lost asked.lost || is_past_window asked number)) ≡ true → (asked.kind ≡ Log) × HasNoRoom asked number
too_many asked number Full is e = cc
too_many asked number Log is e = (is, no_room asked number (nat_lt max_lost asked.lost) (is_past_window asked number) refl refl e)

found_rest : (s : StartState) (number : Version) (told : List Exchange) → AreIdle told → SaidRest number told → Knows s.asked (phase_found s (Says phase.Rest number)) told
found_rest s number told idle rest = elim (truth (nat_le (last_of s.asked.class) number.0)) [
  | inl e ↦ let last : last_of s.asked.class ≤ number.0 = grind (arith, nat_tests, e) in rw e (record { its_asked = refl; at = (idle, (number, last, rest)) })
  | inr e ↦ let follows : number.0 < last_of s.asked.class = grind (arith, nat_tests, e) in
      rw e (elim (truth (is_lost_full s.asked number.0)) [
        | inl full ↦ let many = too_many s.asked number.0 s.asked.kind refl full in rw full (record { its_asked = refl; at = (idle, (number, follows, rest, many.0, many.1)) })
        | inr full ↦ rw full (record { its_asked = refl; at = (begins_seeking s.defer told, idle, record { rest = rest; follows = follows; few_lost = full }) })
      ])
]

running : (s : StartState) (word : ℕ) (told : List Exchange) → AreIdle told → Among (exchange (Load (shared_place one.Phase)) word) told → ((number : Version) → phase_said word ≢ Says phase.Rest number)
    → Knows s.asked (refused s CommitRunning) told
running s word told idle loaded isnt = record { its_asked = refl; at = (idle, (word, loaded, isnt)) }

found : (s : StartState) (word : ℕ) (told : List Exchange) (said : PhaseSaid) → phase_said word ≡ said → AreIdle told → Among (exchange (Load (shared_place one.Phase)) word) told → Knows s.asked (phase_found s said) told
found s word told (Says phase.Rest number) says idle loaded = found_rest s number told idle (record { word = word; loaded = loaded; says = says })
found s word told (Says phase.Prepare number) says idle loaded = running s word told idle loaded (λ n e. cc)
found s word told (Says phase.InProgress number) says idle loaded = running s word told idle loaded (λ n e. cc)
found s word told (Says phase.WaitPending number) says idle loaded = running s word told idle loaded (λ n e. cc)
found s word told (Says phase.WaitFlush number) says idle loaded = running s word told idle loaded (λ n e. cc)
found s word told Spoiled says idle loaded = running s word told idle loaded (λ n e. cc)

seeks_on : (number : Version) (s : StartState) (ask : Ask DeferAnswer) → is_done ask ≡ false → seek_led number s ask ≡ s
unfolding seek_led
seeks_on number s (Done its) e = cc
seeks_on number s ask e = refl

defers_on : (number : Version) (first : Addr) (s : StartState) (ask : Ask DeferAnswer) → is_done ask ≡ false → defer_led number first s ask ≡ s
unfolding defer_led
defers_on number first s (Done its) e = cc
defers_on number first s ask e = refl

sought : (number : Version) (s : StartState) (told : List Exchange) → s.step ≡ Seeks number → MayStart s.asked number told → SeekOutcome s.defer told → Knows s.asked (seek_led number s (defer_ask s.defer)) told
unfolding seek_led
sought number s told at may (SeeksOn e seeking idle) = rw (seeks_on number s (defer_ask s.defer) e) (record { its_asked = refl; at = rw at (seeking, idle, may) })
sought number s told at may (HasHeld slot e holding held) = rw e (record { its_asked = refl; at = record { slot = slot; holding = holding; held = held; may = may } })
sought number s told at may (HasNone e taken idle) = rw e (record { its_asked = refl; at = (idle, (number, may, taken)) })
sought number s told at may (IsSpent e last idle) = rw e (record { its_asked = refl; at = (idle, (number, may, last)) })

deferred : (number : Version) (first : Addr) (reply slot : ℕ) (before : List Exchange) (s : StartState) (told : List Exchange) → s.step ≡ Defers number first → HoldsSlot slot before → MayStart s.asked number before
    → DeferOutcome (EntersPhase phase.InProgress (version_after number)) slot (tail_loaded number first reply before) s.defer told → Knows s.asked (defer_led number first s (defer_ask s.defer)) told
unfolding defer_led
deferred number first reply slot before s told at held may (DefersOn e deferring) = rw (defers_on number first s (defer_ask s.defer) e)
    (record { its_asked = refl; at = rw at (record { before = before; reply = reply; slot = slot; held = held; may = may; deferring = deferring }) })
deferred number first reply slot before s told at held may (HasArmed epoch e its) =
    rw e (record { its_asked = refl; at = record { slot = slot; epoch = epoch; before = before; held = held; may = may; store_reply = reply; deferred = its } })

starting_keeps : (s : StartState) (step : Starting) (told : List Exchange) (reply : ℕ) → s.step ≡ step → KnowsAt s.asked s step told
    → Knows s.asked (starting_next s step reply) (exchanged (starting_ask s step) reply told)
unfolding starting_next starting_ask exchanged passed
starting_keeps s (Ended its) told reply at knows = record { its_asked = refl; at = rw at knows }
starting_keeps s LoadsPhase told reply at knows = found s reply (exchange (Load (shared_place one.Phase)) reply ∷ told) (phase_said reply) refl (tt, rw knows tt) (inl refl)
starting_keeps s (Seeks number) told reply at knows = rw (passed_exchanged (defer_ask s.defer) Idle reply told)
    (sought number (record s { defer = defer_next s.defer reply }) (exchanged (defer_ask s.defer) reply told) at (still_allowed s.asked number (defer_ask s.defer) reply told knows.2) (seek_step s.defer told reply knows.0 knows.1))
starting_keeps s (StoresPrepare number) told reply at knows =
    record { its_asked = refl; at = record { before = told; reply = reply; its = refl; at = record { slot = knows.slot; holding = knows.holding; held = knows.held; may = knows.may } } }
starting_keeps s (LoadsTail number) told reply at knows = record {
  its_asked = refl;
  at = record {
    before = knows.before;
    reply = knows.reply;
    slot = knows.at.slot;
    held = knows.at.held;
    may = knows.at.may;
    deferring = rw knows.its (goes_on_deferring (EntersPhase phase.InProgress (version_after number)) knows.at.slot (tail_loaded number (record { 0 = reply }) knows.reply knows.before) s.defer knows.at.holding);
  };
}
starting_keeps s (Defers number first) told reply at knows = rw (passed_exchanged (defer_ask s.defer) Idle reply told)
    (deferred number first knows.reply knows.slot knows.before (record s { defer = defer_next s.defer reply }) (exchanged (defer_ask s.defer) reply told) at knows.held knows.may
    (defer_step (EntersPhase phase.InProgress (version_after number)) knows.slot (tail_loaded number first knows.reply knows.before) s.defer told reply knows.deferring))

keeps : (asked : StartAsked) (s : StartState) (told : List Exchange) (reply : ℕ) → Knows asked s told → Knows asked (start_next s reply) (exchanged (start_ask s) reply told)
keeps asked s told reply knows =
    subst (λ (a : StartAsked). Knows a (start_next s reply) (exchanged (start_ask s) reply told)) knows.its_asked
    (starting_keeps s s.step told reply refl (subst (λ (a : StartAsked). KnowsAt a s s.step told) (sym knows.its_asked) knows.at))

pub starts_end : StartsEndRight
starts_end opening asked replies its ended =
    let s : StartState = started opening asked replies in
    let begins : Knows asked (start_begun opening asked) [] = record { its_asked = refl; at = refl } in
    let knows : Knows asked s (start_told opening asked replies) = by_replies start_ask start_next (Knows asked) (start_begun opening asked) begins (keeps asked) replies in
    subst (λ (step : Starting). KnowsAt asked s step (start_told opening asked replies)) ended knows.at

behind_at : (asked : StartAsked) (s : StartState) (step : Starting) (told : List Exchange) (reply : ℕ) → KnowsAt asked s step told → AreSlotsBehind told → AreSlotsBehind (exchanged (starting_ask s step) reply told)
unfolding starting_ask exchanged passed
behind_at asked s (Ended its) told reply knows behind = behind
behind_at asked s LoadsPhase told reply knows behind = (none_met (shared_place one.Phase) told (inl (omega arith)), behind)
behind_at asked s (Seeks number) told reply knows behind = rw (passed_exchanged (defer_ask s.defer) Idle reply told) (seek_behind s.defer told reply knows.0 behind)
behind_at asked s (StoresPrepare number) told reply knows behind = (λ met. absurd met, behind)
behind_at asked s (LoadsTail number) told reply knows behind = (none_met (shared_place one.Tail) told (inl (omega arith)), behind)
behind_at asked s (Defers number first) told reply knows behind = rw (passed_exchanged (defer_ask s.defer) Idle reply told)
    (defer_behind (EntersPhase phase.InProgress (version_after number)) knows.slot (tail_loaded number first knows.reply knows.before) s.defer told reply knows.deferring behind)

abbrev Both : StartAsked → StartState → List Exchange → Type 0
Both asked s told = Knows asked s told × AreSlotsBehind told

pub starts_behind : (opening : StartState) (asked : StartAsked) (replies : List ℕ) → AreSlotsBehind (start_told opening asked replies)
starts_behind opening asked replies =
    let s : StartState = started opening asked replies in
    let begins : Knows asked (start_begun opening asked) [] = record { its_asked = refl; at = refl } in
    let both : Both asked s (start_told opening asked replies) =
    by_replies start_ask start_next (Both asked) (start_begun opening asked) (begins, tt)
    (λ s told reply knows. (keeps asked s told reply knows.0, behind_at asked s s.step told reply knows.0.at knows.1)) replies in
    both.1
