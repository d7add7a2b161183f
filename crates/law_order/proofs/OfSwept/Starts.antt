-- From the load of its first address on a commit is under way: first it starts, and then it is in hand. Meanwhile no sweep moves, and no commit is finished.
use Rattle.std.proofs.Common.{◌≡◌, ◌⊎◌, ◌∙◌, inl, inr, ℕ, refl, ap, sym, subst, Bool, true, false}
use Rattle.std.specs.Prelude.{⊤, nat_le, if◌then◌else◌, Option, Some, None}
use Rattle.fkv_base.specs.Limits.{last_of}
use Rattle.fkv_base.specs.declared.numbers.Addr.{Addr}
use Rattle.fkv_base.specs.declared.numbers.Version.{Version}
use Rattle.fkv_base.specs.declared.phases.Phase.TheVariants as phase
use Rattle.fkv_base.specs.declared.shapes.Shape.{Shape}
use Rattle.fkv_plane.specs.declared.asks.Ask.{Ask}
use Rattle.fkv_plane.specs.declared.asks.Ask.TheVariants.{Done}
use Rattle.fkv_plane.specs.declared.places.Places.{Places}
use Rattle.fkv_plane.specs.Passing.{passed}
use Rattle.fkv_words.specs.declared.phase_words.PhaseSaid.{PhaseSaid}
use Rattle.fkv_words.specs.declared.phase_words.PhaseSaid.TheVariants.{Says}
use Rattle.fkv_words.specs.PhaseWords.{phase_said}
use Rattle.law_commit.specs.Below.fkv_commit.Commit.{Commit}
use Rattle.law_commit.specs.Below.fkv_commit.DeferAnswer.{DeferAnswer}
use Rattle.law_commit.specs.Below.fkv_commit.DeferAnswer.TheVariants.{Held, Spent}
use Rattle.law_commit.specs.Below.fkv_commit.Deferring.{defer_ask, defer_next}
use Rattle.law_commit.specs.Below.fkv_commit.StartAnswer.{StartAnswer}
use Rattle.law_commit.specs.Below.fkv_commit.StartAnswer.TheVariants as start
use Rattle.law_commit.specs.Below.fkv_commit.Starting.{StartState, is_lost_full, phase_found, seek_led, start_ask, start_next, starting_ask, starting_next}
use Rattle.law_commit.specs.Below.fkv_commit.TheStarting.{Starting}
use Rattle.law_commit.specs.Below.fkv_commit.TheStarting.TheVariants as starting
use Rattle.law_commit.specs.Below.fkv_keeper.CheckpointLaws.{MayStep}
use Rattle.law_commit.specs.Below.fkv_keeper.Keeping.{KeeperState, keeping_called, keeping_given, keeping_next, start_ledto}
use Rattle.law_commit.specs.Below.fkv_keeper.KeeperTold.{KeeperTold}
use Rattle.law_commit.specs.Below.fkv_keeper.KeeperRun.{BeginsCommit, BeginsTurn, Calls, Gets, KeeperEvent, Replies, keeper_happens}
use Rattle.law_commit.specs.Below.fkv_keeper.SlotLaws.{HasBegin}
use Rattle.law_commit.specs.Below.fkv_keeper.SweepLaws.{IsBeginAfter}
use Rattle.law_commit.specs.Below.fkv_keeper.TheKeeping.{Keeping}
use Rattle.law_commit.specs.Below.fkv_keeper.TheKeeping.TheVariants.{Ended, Starts, Maintains, LoadsPhase, Enters, Copies, Seeks, Waits, Writes, Finishes, Sweeps}
use Rattle.law_commit.proofs.Below.fkv_keeper.Shown.{begin_moves, each_move, sweep_moves}
use Rattle.law_commit.proofs.Below.law_world.OfStanding.Runs.{happens_at, happens_so}
use Rattle.law_order.proofs.OfSwept.Moves.{IsRead, IsReplied, IsSet, ReadFails, Stays, SweepMove, TurnBegins, move_of}

-- ---- it has loaded its first address
abbrev pub IsPast : Starting → Type 0
IsPast (starting.Defers number first) = ⊤
IsPast (starting.Ended (start.Begun number first)) = ⊤
IsPast step = ⊥

-- or is about to
abbrev pub LoadsFirst : Starting → Type 0
LoadsFirst (starting.LoadsTail number) = ⊤
LoadsFirst step = ⊥

abbrev pub IsUnderWay : KeeperState → Type 0
IsUnderWay s = ((c : Commit) × (s.commit ≡ Some c)) ⊎ ((s.step ≡ Starts) × IsPast s.start.step)

-- ---- one reply to the start
either_none : (c : Bool) (x y : StartState) → (IsPast x.step → ⊥) → (IsPast y.step → ⊥) → IsPast (if c then x else y).step → ⊥
either_none true x y one second = one
either_none false x y one second = second

none_found : (m : StartState) (said : PhaseSaid) → IsPast (phase_found m said).step → ⊥
none_found m (Says phase.Rest number) = either_none (nat_le (last_of m.asked.class) number.0) _ _ (λ past. past) (either_none (is_lost_full m.asked number.0) _ _ (λ past. past) (λ past. past))
none_found m said = λ past. past

none_sought : (number : Version) (m : StartState) (ask : Ask DeferAnswer) → (IsPast m.step → ⊥) → IsPast (seek_led number m ask).step → ⊥
unfolding seek_led
none_sought number m (Done Held) none past = past
none_sought number m (Done Spent) none past = past
none_sought number m (Done its) none past = past
none_sought number m ask none past = none past

next_past : (m : StartState) (step : Starting) (reply : ℕ) → m.step ≡ step → IsPast (starting_next m step reply).step → IsPast step ⊎ LoadsFirst step
unfolding starting_next
next_past m (starting.Ended its) reply at past = inl (subst IsPast at past)
next_past m starting.LoadsPhase reply at past = absurd (none_found m (phase_said reply) past)
next_past m (starting.Seeks number) reply at past =
    absurd (none_sought number (record m { defer = defer_next m.defer reply }) (defer_ask (defer_next m.defer reply)) (λ is. subst IsPast at is) past)
next_past m (starting.StoresPrepare number) reply at past = absurd past
next_past m (starting.LoadsTail number) reply at past = inr tt
next_past m (starting.Defers number first) reply at past = inl tt

-- what it tells as begun has loaded it
passed_idle : {X : Type 0} (ask : Ask DeferAnswer) (number : Version) (first : Addr) → passed ask start.Idle ≡ Done (start.Begun number first) → X
unfolding passed
passed_idle (Done its) number first e = cc
passed_idle ask number first e = cc

told_past : (m : StartState) (step : Starting) (number : Version) (first : Addr) → starting_ask m step ≡ Done (start.Begun number first) → IsPast step
unfolding starting_ask
told_past m (starting.Ended (start.Begun its there)) number first e = tt
told_past m (starting.Ended its) number first e = cc
told_past m starting.LoadsPhase number first e = cc
told_past m (starting.Seeks its) number first e = passed_idle (defer_ask m.defer) number first e
told_past m (starting.StoresPrepare its) number first e = cc
told_past m (starting.LoadsTail its) number first e = cc
told_past m (starting.Defers its there) number first e = tt

-- ---- an event of the keeper
-- it has come from there
abbrev Before : KeeperState → Type 0
Before s = IsPast s.start.step ⊎ LoadsFirst s.start.step

record CameSo (s a : KeeperState) : Type 0 where
  starts : a.step ≡ Starts → IsPast a.start.step → (s.step ≡ Starts) × Before s
  begun : s.commit ≡ None → (c : Commit) → a.commit ≡ Some c → Before s

itself : (s : KeeperState) → CameSo s s
itself s = record { starts = λ at past. (at, inl past); begun = λ none c is. let clash : None ≡ Some c = sym none ∙ is in cc }

else_so : (s a : KeeperState) → a.commit ≡ s.commit → (a.step ≡ Starts → ⊥) → CameSo s a
else_so s a same elsewhere = record { starts = λ at past. absurd (elsewhere at); begun = λ none c is. let clash : None ≡ Some c = sym none ∙ (sym same ∙ is) in cc }

either_so : (s a b : KeeperState) (c : Bool) → CameSo s a → CameSo s b → CameSo s (if c then a else b)
either_so s a b true one second = one
either_so s a b false one second = second

led_so : (s : KeeperState) (next : StartState) (ask : Ask StartAnswer) → s.step ≡ Starts → start_ask next ≡ ask → (IsPast next.step → Before s) → CameSo s (start_ledto (record s { start = next }) ask)
unfolding start_ledto
led_so s next (Done (start.Begun number first)) at asks before = record { starts = λ e past. cc; begun = λ none c is. before (told_past next next.step number first asks) }
led_so s next (Done (start.Refused why)) at asks before = else_so s _ refl (λ e. cc)
led_so s next (Done start.Idle) at asks before = else_so s _ refl (λ e. cc)
led_so s next ask at asks before = record { starts = λ e past. (at, before past); begun = λ none c is. let clash : None ≡ Some c = sym none ∙ is in cc }

-- as it starts
started : (shape : Shape) (p : Places) (s : KeeperState) (event : KeeperEvent) → s.step ≡ Starts → CameSo s (happens_at shape p s Starts event)
unfolding keeping_next keeping_given keeping_called
started shape p s BeginsTurn at = itself s
started shape p s (BeginsCommit kind) at = itself s
started shape p s (Replies reply granted) at = led_so s (start_next s.start reply) (start_ask (start_next s.start reply)) at refl (next_past s.start s.start.step reply refl)
started shape p s (Gets action) at = itself s
started shape p s (Calls done bytes) at = itself s

-- where a call is begun
asked : (shape : Shape) (p : Places) (s : KeeperState) (told : KeeperTold) (event : KeeperEvent) → s.step ≡ Ended told → CameSo s (happens_at shape p s (Ended told) event)
unfolding keeping_next keeping_given keeping_called
asked shape p s told BeginsTurn at = either_so s _ _ s.is_broken (else_so s _ refl (λ e. cc)) (else_so s _ refl (λ e. cc))
asked shape p s told (BeginsCommit kind) at =
    either_so s _ _ s.is_broken (else_so s _ refl (λ e. cc)) (either_so s _ _ s.rests (else_so s _ refl (λ e. cc)) (record { starts = λ e past. absurd past; begun = λ none c is. let clash : None ≡ Some c = sym none ∙ is in cc }))
asked shape p s told (Replies reply granted) at = itself s
asked shape p s told (Gets action) at = itself s
asked shape p s told (Calls done bytes) at = itself s

no_start : (rests : Bool) (step after : Keeping) → MayStep rests step after → after ≡ Starts → (step ≡ Starts) ⊎ ((told : KeeperTold) × (step ≡ Ended told))
no_start rests step after may at = by rests step (subst (MayStep rests step) at may)
  where
    by : (b : Bool) (k : Keeping) → MayStep b k Starts → (k ≡ Starts) ⊎ ((told : KeeperTold) × (k ≡ Ended told))
    by b (Ended told) may = inr (told, refl)
    by b Starts may = inl refl
    by true Maintains may = absurd may
    by false Maintains may = absurd may
    by true LoadsPhase may = absurd may
    by false LoadsPhase may = absurd may
    by true Enters may = absurd may
    by false Enters may = absurd may
    by true Copies may = absurd may
    by false Copies may = absurd may
    by true Seeks may = absurd may
    by false Seeks may = absurd may
    by true Waits may = absurd may
    by false Waits may = absurd may
    by true Writes may = absurd may
    by false Writes may = absurd may
    by true Finishes may = absurd may
    by false Finishes may = absurd may
    by true Sweeps may = absurd may
    by false Sweeps may = absurd may

module _ (shape : Shape) (p : Places) (s : KeeperState) (event : KeeperEvent) where
  abbrev a : KeeperState
  a = keeper_happens shape p s event

  at_starts : s.step ≡ Starts → CameSo s a
  at_starts at = subst (CameSo s) (ap (λ (k : Keeping). happens_at shape p s k event) (sym at) ∙ happens_so shape p s event) (started shape p s event at)

  at_ended : (told : KeeperTold) → s.step ≡ Ended told → CameSo s a
  at_ended told at = subst (CameSo s) (ap (λ (k : Keeping). happens_at shape p s k event) (sym at) ∙ happens_so shape p s event) (asked shape p s told event at)

  -- ---- no sweep moves there
  pub record StaysThere : Type 0 where
    pub last : a.last ≡ s.last
    pub sweep : a.sweep ≡ s.sweep

  none_new : s.commit ≡ None → (s.step ≡ Starts → ⊥) → (c : Commit) → a.commit ≡ Some c → ⊥
  none_new none elsewhere c is = elim (subst (λ (found : Option Commit). IsBeginAfter found s a) none (begin_moves shape p s event)) [
    | inl gone ↦ let clash : None ≡ Some c = sym gone ∙ is in cc
    | inr chosen ↦ elsewhere chosen.starts
  ]

  -- a sweep's step leads to no commit
  not_swept : HasBegin s → s.step ≡ Sweeps → IsUnderWay a → ⊥
  not_swept has at (inl (c, is)) = none_new (has.alone at) (λ starts. let clash : Sweeps ≡ Starts = sym at ∙ starts in cc) c is
  not_swept has at (inr (starts, past)) = elim (no_start s.rests s.step a.step (each_move shape p s event).one.steps starts) [
    | inl same ↦ let clash : Sweeps ≡ Starts = sym at ∙ same in cc
    | inr (told, same) ↦ let clash : Sweeps ≡ Ended told = sym at ∙ same in cc
  ]

  stays_by : HasBegin s → HasBegin a → IsUnderWay a → SweepMove s a event → StaysThere
  stays_by has had under (Stays left) = record { last = left.newest; sweep = left.same }
  stays_by has had (inl (c, is)) (TurnBegins begun) = let clash : None ≡ Some c = sym (had.alone begun.comes) ∙ is in cc
  stays_by has had (inr (starts, past)) (TurnBegins begun) = let clash : Sweeps ≡ Starts = sym begun.comes ∙ starts in cc
  stays_by has had (inl (c, is)) (IsSet at set) = let clash : None ≡ Some c = sym set.none_left ∙ is in cc
  stays_by has had (inr (starts, past)) (IsSet at set) = elim (no_start s.rests s.step a.step (each_move shape p s event).one.steps starts) [
    | inl same ↦ let clash : Finishes ≡ Starts = sym at ∙ same in cc
    | inr (told, same) ↦ let clash : Finishes ≡ Ended told = sym at ∙ same in cc
  ]
  stays_by has had under (IsReplied reply granted e at is) = absurd (not_swept has at under)
  stays_by has had under (IsRead bytes e at is) = absurd (not_swept has at under)
  stays_by has had under (ReadFails at is) = absurd (not_swept has at under)

  -- it was under way before, or its first address is loaded just now
  came_by : (found : Option Commit) → s.commit ≡ found → IsUnderWay a → IsUnderWay s ⊎ ((s.step ≡ Starts) × LoadsFirst s.start.step)
  came_by (Some c) is under = inl (inl (c, is))
  came_by None none (inl (c, is)) = elim (subst (λ (found : Option Commit). IsBeginAfter found s a) none (begin_moves shape p s event)) [
    | inl gone ↦ let clash : None ≡ Some c = sym gone ∙ is in cc
    | inr chosen ↦ from chosen.starts (let so = at_starts chosen.starts in so.begun none c is)
  ]
    where
      from : s.step ≡ Starts → Before s → IsUnderWay s ⊎ ((s.step ≡ Starts) × LoadsFirst s.start.step)
      from at (inl past) = inl (inr (at, past))
      from at (inr loads) = inr (at, loads)
  came_by None none (inr (starts, past)) = elim (no_start s.rests s.step a.step (each_move shape p s event).one.steps starts) [
    | inl at ↦ from (let so = at_starts at in so.starts starts past)
    | inr (told, at) ↦ from (let so = at_ended told at in so.starts starts past)
  ]
    where
      from : (s.step ≡ Starts) × Before s → IsUnderWay s ⊎ ((s.step ≡ Starts) × LoadsFirst s.start.step)
      from (at, inl past) = inl (inr (at, past))
      from (at, inr loads) = inr (at, loads)

  pub record CameUnderWay : Type 0 where
    pub stays : StaysThere
    pub before : IsUnderWay s ⊎ ((s.step ≡ Starts) × LoadsFirst s.start.step)

  pub came_under_way : HasBegin s → HasBegin a → IsUnderWay a → CameUnderWay
  came_under_way has had under = record { stays = stays_by has had under (move_of s a s.step event refl (sweep_moves shape p s event)); before = came_by s.commit refl under }
