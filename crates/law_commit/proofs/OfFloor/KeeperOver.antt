-- What the keeper knows of its raises goes over other actors' steps; and what is replied to it.
use Rattle.std.proofs.Common.{◌≡◌, ℕ, ◌+◌, ◌%◌, ◌^◌, ◌<◌, ◌≤◌, ◌∙◌, List, length, refl, arith, sym, ap, Bool}
use Rattle.std.specs.Prelude.{Option, slice_set}
use Rattle.fkv_plane.specs.declared.asks.Ask.{Ask}
use Rattle.fkv_plane.specs.declared.asks.Ask.TheVariants.{Add}
use Rattle.fkv_plane.specs.declared.places.Places.{Places}
use Rattle.fkv_plane.specs.declared.places.SharedWord.TheVariants as one
use Rattle.fkv_plane.specs.Asked.{reply_to, word_at, words_after}
use Rattle.fkv_plane.specs.Passing.{passed}
use Rattle.fkv_plane.specs.Places.{shared_place}
use Rattle.fkv_base.specs.declared.shapes.Shape.{Shape}
use Rattle.fkv_epoch.specs.declared.raising.Raising.{Raising}
use Rattle.fkv_epoch.specs.declared.raising.Raising.TheVariants as raise
use Rattle.fkv_epoch.specs.EpochWorld.{epoch_of, safe_of}
use Rattle.fkv_epoch.specs.Raising.{raise_ask}
use Rattle.fkv_epoch.proofs.Shown.{word_written}
use Rattle.law_refine.specs.Below.fkv_commit.Commit.{Commit}
use Rattle.law_refine.specs.Below.fkv_commit.DeferAnswer.TheVariants.{NoSlot}
use Rattle.law_refine.specs.Below.fkv_commit.TheDeferring.{Deferring}
use Rattle.law_refine.specs.Below.fkv_commit.TheDeferring.TheVariants as defer
use Rattle.law_refine.specs.Below.fkv_commit.EnterAnswer.TheVariants as entered
use Rattle.law_refine.specs.Below.fkv_commit.TheEntering.{Entering}
use Rattle.law_refine.specs.Below.fkv_commit.TheEntering.TheVariants as enter
use Rattle.law_refine.specs.Below.fkv_commit.SeekAnswer.TheVariants as sought
use Rattle.law_refine.specs.Below.fkv_commit.TheSeeking.{Seeking}
use Rattle.law_refine.specs.Below.fkv_commit.TheSeeking.TheVariants as seek
use Rattle.law_refine.specs.Below.fkv_commit.StartAnswer.TheVariants as started
use Rattle.law_refine.specs.Below.fkv_commit.TheStarting.{Starting}
use Rattle.law_refine.specs.Below.fkv_commit.TheStarting.TheVariants as start
use Rattle.law_refine.specs.Below.fkv_commit.WaitAnswer.TheVariants.{Flushed, Idle, NotYet}
use Rattle.law_refine.specs.Below.fkv_commit.TheWaiting.{Waiting}
use Rattle.law_refine.specs.Below.fkv_commit.TheWaiting.TheVariants as waiting
use Rattle.law_refine.specs.Below.fkv_commit.Deferring.{DeferState, deferring_ask}
use Rattle.law_refine.specs.Below.fkv_commit.Entering.{EnterState, entering_ask}
use Rattle.law_refine.specs.Below.fkv_commit.Seeking.{SeekState, seeking_ask}
use Rattle.law_refine.specs.Below.fkv_commit.Starting.{StartState, starting_ask}
use Rattle.law_refine.specs.Below.fkv_commit.Waiting.{WaitState, waiting_ask}
use Rattle.law_refine.specs.Below.fkv_flush.GuardLevels.{Levels}
use Rattle.law_refine.specs.Below.fkv_keeper.KeeperTold.{KeeperTold}
use Rattle.law_refine.specs.Below.fkv_keeper.TheKeeping.{Keeping}
use Rattle.law_refine.specs.Below.fkv_keeper.TheKeeping.TheVariants.{Ended, Starts, Maintains, LoadsPhase, Enters, Copies, Seeks, Waits, Writes, Finishes, Sweeps}
use Rattle.law_refine.specs.Below.fkv_keeper.Keeping.{KeeperState, keeping_ask}
use Rattle.law_refine.specs.Below.law_world.GuardKeeper.CommitShown.{EnterKnows, IsDeferring, SeekKnows, StartKnows}
use Rattle.law_refine.specs.Below.law_world.GuardKeeper.KeeperShown.{KeepingKnows}
use Rattle.law_commit.proofs.OfFloor.KeeperFits.{EnterFits, Ground, HandFits, IsEnding, IsSafeEnding, KeeperFits, KeepingFits, SeekFits, StartFits, WaitFits}
use Rattle.law_commit.proofs.OfFloor.KeeperGoes.{KeeperReply}
use Rattle.law_commit.proofs.OfFloor.PartsFit.{DeferReply, EnterReply, Raised, SeekReply, StartReply, WaitReply, defer_over}

-- ---- the addresses and the raise for the end stay, and the tail and what is safe don't fall
pub record IsOver (g h : Ground) : Type 0 where
  pub first : h.raises.first ≡ g.raises.first
  pub ending : h.raises.ending ≡ g.raises.ending
  pub end : h.raises.end ≡ g.raises.end
  pub tail : g.tail ≤ h.tail
  pub safe : g.safe ≤ h.safe

module _ (g h : Ground) (over : IsOver g h) where
  ending_over : (end epoch : ℕ) → IsEnding g.raises end epoch → IsEnding h.raises end epoch
  ending_over end epoch is =
      let some = is.some in
      let same = over.ending in
      record { some = omega (arith, some, same); epoch_is = is.epoch_is ∙ sym over.ending; end_is = is.end_is ∙ sym over.end }

  safe_over : IsSafeEnding g → IsSafeEnding h
  safe_over is =
      let some = is.0 in
      let low = is.1 in
      let same = over.ending in
      let up = over.safe in
      (omega (arith, some, same), omega (arith, low, same, up))

  tail_over : (x : ℕ) → x ≤ g.tail → x ≤ h.tail
  tail_over x low = let up = over.tail in omega (arith, low, up)

  none_over : g.raises.ending ≡ 0 → h.raises.ending ≡ 0
  none_over none = over.ending ∙ none

  start_over : (l : Levels) (commit : Option Commit) (s : StartState) (step : Starting) → StartKnows l s step → StartFits g commit s step → StartFits h commit s step
  start_over l commit s (start.LoadsTail its) knows fits = fits
  start_over l commit s (start.Defers its first) knows fits =
      (fits.0, defer_over _ _ _ _ _ _ l s.defer.step s.defer.raising s.defer.arming knows (tail_over first.0) (λ epoch same. same ∙ sym over.first) fits.1)
  start_over l commit s (start.Ended (started.Begun its first)) knows fits = fits ∙ sym over.first
  start_over l commit s (start.Ended started.Idle) knows fits = tt
  start_over l commit s (start.Ended (started.Refused why)) knows fits = tt
  start_over l commit s start.LoadsPhase knows fits = tt
  start_over l commit s (start.Seeks its) knows fits = tt
  start_over l commit s (start.StoresPrepare its) knows fits = tt

  enter_over : (l : Levels) (s : EnterState) (step : Entering) → EnterKnows l s step → EnterFits g s step → EnterFits h s step
  enter_over l s enter.Defers knows fits = defer_over _ _ _ _ _ _ l s.defer.step s.defer.raising s.defer.arming knows (λ one. one) (λ epoch one. one) fits
  enter_over l s enter.Seeks knows fits = tt
  enter_over l s (enter.Ended told) knows fits = tt

  seek_over : (l : Levels) (s : SeekState) (step : Seeking) → SeekKnows l s step → SeekFits g s step → SeekFits h s step
  seek_over l s seek.LoadsTail knows fits = none_over fits
  seek_over l s (seek.RaisesReadOnly end) knows fits = (none_over fits.0, tail_over end.0 fits.1)
  seek_over l s (seek.Defers end) knows fits =
      defer_over _ _ _ _ _ _ l s.defer.step s.defer.raising s.defer.arming knows (λ was. (none_over was.0, tail_over end.0 was.1)) (λ epoch is. ending_over end.0 epoch is) fits
  seek_over l s (seek.Ended (sought.Taken end epoch)) knows fits = ending_over end.0 epoch fits
  seek_over l s (seek.Ended sought.Idle) knows fits = tt
  seek_over l s (seek.Ended sought.Owing) knows fits = tt
  seek_over l s (seek.Ended sought.DrainFull) knows fits = tt
  seek_over l s (seek.Ended sought.EpochsSpent) knows fits = tt
  seek_over l s (seek.LoadsOwing session) knows fits = tt
  seek_over l s seek.SeeksSlot knows fits = tt
  seek_over l s seek.LoadsCut knows fits = tt
  seek_over l s (seek.LoadsOther first) knows fits = tt
  seek_over l s seek.LoadsAgain knows fits = tt
  seek_over l s seek.StoresWaitFlush knows fits = tt

  wait_over : (s : WaitState) (step : Waiting) → WaitFits g s step → WaitFits h s step
  wait_over s waiting.LoadsSafe fits = ending_over s.end.0 s.epoch fits
  wait_over s waiting.LoadsFlushed fits = safe_over fits
  wait_over s (waiting.Ended Flushed) fits = safe_over fits
  wait_over s (waiting.Ended NotYet) fits = tt
  wait_over s (waiting.Ended Idle) fits = tt

  keeping_over : (l : Levels) (s : KeeperState) (step : Keeping) → KeepingKnows l s step → KeepingFits g s step → KeepingFits h s step
  keeping_over l s Starts knows fits = start_over l s.commit s.start s.start.step knows fits
  keeping_over l s Enters knows fits = enter_over l s.enter s.enter.step knows fits
  keeping_over l s Seeks knows fits = seek_over l s.seek s.seek.step knows fits
  keeping_over l s Waits knows fits = (fits.0, wait_over s.wait s.wait.step fits.1)
  keeping_over l s Writes knows fits = (fits.0, safe_over fits.1)
  keeping_over l s Finishes knows fits = (fits.0, safe_over fits.1)
  keeping_over l s (Ended told) knows fits = tt
  keeping_over l s Maintains knows fits = tt
  keeping_over l s LoadsPhase knows fits = tt
  keeping_over l s Copies knows fits = tt
  keeping_over l s Sweeps knows fits = tt

  pub hand_over : (commit : Option Commit) (has_points resting : Bool) → HandFits g commit has_points resting → HandFits h commit has_points resting
  hand_over commit has_points resting hand = record {
    first = λ c is. hand.first c is ∙ sym over.first;
    points = λ c is yes. ending_over c.end.0 c.epoch (hand.points c is yes);
    rests = λ rests. let safe = hand.rests rests in (safe.0, safe_over safe.1);
  }

  pub over_fits : (l : Levels) (s : KeeperState) → KeepingKnows l s s.step → KeeperFits g s → KeeperFits h s
  over_fits l s knows its = record { hand = hand_over s.commit s.has_points s.rests its.hand; step = keeping_over l s s.step knows its.step }

-- ---- what is replied
raises_add : {A : Type 0} (raising : Raising) (slot : ℕ) (told : A) (its : KeeperTold) → raising ≡ raise.RaisesEpoch slot → passed (passed (passed (raise_ask raising) NoSlot) told) its ≡ Add (shared_place one.Epoch) 1
unfolding raise_ask passed
raises_add raising slot told its e = rw e refl

module _ (g : Ground) (words : List ℕ) (tail : word_at words (shared_place one.Tail) ≤ g.tail) (safe : safe_of words ≤ g.safe) (before : epoch_of words ≡ g.before) (low : epoch_of words < 2 ^ 49) (some : 0 < length words) where
  -- behind the raise the epoch is one higher
  up_by_one : (after : List ℕ) → after ≡ slice_set words 0 ((word_at words 0 + 1) % 2 ^ 64) → epoch_of after ≡ g.epoch → g.before < g.epoch
  up_by_one after is epoch =
      let written : epoch_of after ≡ (word_at words 0 + 1) % 2 ^ 64 = ap (λ (x : List ℕ). word_at x 0) is ∙ word_written words 0 ((word_at words 0 + 1) % 2 ^ 64) some in
      let up : (word_at words 0 + 1) % 2 ^ 64 ≡ word_at words 0 + 1 = omega (arith, low) in
      omega (arith, written, up, before, epoch)

  module _ (after : List ℕ) (epoch : epoch_of after ≡ g.epoch) (l : Levels) where
    raised_reply : (asks : Ask KeeperTold) → asks ≡ Add (shared_place one.Epoch) 1 → after ≡ words_after words asks → Raised g (reply_to words asks)
    raised_reply asks e is = rw e (record { before = before; low = low; up = up_by_one after (rw e at is) epoch })

    defer_reply : {A : Type 0} (d : DeferState) (step : Deferring) (raising : Raising) (told : A) (its : KeeperTold) → d.raising ≡ raising → IsDeferring l step raising d.arming → after ≡ words_after words (passed (passed (deferring_ask d step) told) its)
        → DeferReply g step (reply_to words (passed (passed (deferring_ask d step) told) its))
    unfolding deferring_ask
    defer_reply d (defer.Raises x) (raise.RaisesEpoch slot) told its at ready is = raised_reply (passed (passed (passed (raise_ask d.raising) NoSlot) told) its) (raises_add d.raising slot told its at) is
    defer_reply d (defer.Raises x) raise.AtRest told its at ready is = absurd ready
    defer_reply d (defer.Raises x) raise.LoadsEpoch told its at ready is = absurd ready
    defer_reply d (defer.Raises x) (raise.MeetsSlot slot) told its at ready is = absurd ready
    defer_reply d (defer.Raises x) (raise.HoldsSlot slot) told its at ready is = absurd ready
    defer_reply d (defer.Raises x) (raise.HasSlot slot) told its at ready is = absurd ready
    defer_reply d (defer.Arms arms) raising told its at ready is = tt
    defer_reply d (defer.Ended x) raising told its at ready is = tt
    defer_reply d defer.Seeks raising told its at ready is = tt
    defer_reply d defer.Holds raising told its at ready is = tt
    defer_reply d (defer.Puts x slot arms) raising told its at ready is = tt

    start_reply : (s : StartState) (step : Starting) (told : KeeperTold) → StartKnows l s step → after ≡ words_after words (passed (starting_ask s step) told) → StartReply g s step (reply_to words (passed (starting_ask s step) told))
    unfolding starting_ask passed
    start_reply s (start.LoadsTail its) told knows is = tail
    start_reply s (start.Defers its first) told knows is = defer_reply s.defer s.defer.step s.defer.raising started.Idle told refl knows is
    start_reply s (start.Ended x) told knows is = tt
    start_reply s start.LoadsPhase told knows is = tt
    start_reply s (start.Seeks its) told knows is = tt
    start_reply s (start.StoresPrepare its) told knows is = tt

    enter_reply : (s : EnterState) (step : Entering) (told : KeeperTold) → EnterKnows l s step → after ≡ words_after words (passed (entering_ask s step) told) → EnterReply g s step (reply_to words (passed (entering_ask s step) told))
    unfolding entering_ask
    enter_reply s enter.Defers told knows is = defer_reply s.defer s.defer.step s.defer.raising entered.Idle told refl knows is
    enter_reply s (enter.Ended x) told knows is = tt
    enter_reply s enter.Seeks told knows is = tt

    seek_reply : (s : SeekState) (step : Seeking) (told : KeeperTold) → SeekKnows l s step → after ≡ words_after words (passed (seeking_ask s step) told) → SeekReply g s step (reply_to words (passed (seeking_ask s step) told))
    unfolding seeking_ask passed
    seek_reply s seek.LoadsTail told knows is = tail
    seek_reply s (seek.Defers end) told knows is = defer_reply s.defer s.defer.step s.defer.raising sought.Idle told refl knows is
    seek_reply s (seek.Ended x) told knows is = tt
    seek_reply s (seek.LoadsOwing session) told knows is = tt
    seek_reply s seek.SeeksSlot told knows is = tt
    seek_reply s seek.LoadsCut told knows is = tt
    seek_reply s (seek.LoadsOther first) told knows is = tt
    seek_reply s seek.LoadsAgain told knows is = tt
    seek_reply s seek.StoresWaitFlush told knows is = tt
    seek_reply s (seek.RaisesReadOnly end) told knows is = tt

    wait_reply : (step : Waiting) (told : KeeperTold) → WaitReply g step (reply_to words (passed (waiting_ask step) told))
    unfolding waiting_ask passed
    wait_reply waiting.LoadsSafe told = safe
    wait_reply waiting.LoadsFlushed told = tt
    wait_reply (waiting.Ended x) told = tt

    pub keeper_reply : (shape : Shape) (p : Places) (s : KeeperState) (step : Keeping) → KeepingKnows l s step → after ≡ words_after words (keeping_ask shape p s step) → KeeperReply g s step (reply_to words (keeping_ask shape p s step))
    unfolding keeping_ask
    keeper_reply shape p s Starts knows is = start_reply s.start s.start.step _ knows is
    keeper_reply shape p s Enters knows is = enter_reply s.enter s.enter.step _ knows is
    keeper_reply shape p s Seeks knows is = seek_reply s.seek s.seek.step _ knows is
    keeper_reply shape p s Waits knows is = wait_reply s.wait.step _
    keeper_reply shape p s (Ended told) knows is = tt
    keeper_reply shape p s Maintains knows is = tt
    keeper_reply shape p s LoadsPhase knows is = tt
    keeper_reply shape p s Copies knows is = tt
    keeper_reply shape p s Sweeps knows is = tt
    keeper_reply shape p s Writes knows is = tt
    keeper_reply shape p s Finishes knows is = tt
