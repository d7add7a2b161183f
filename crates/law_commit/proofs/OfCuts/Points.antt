-- What the keeper has stored last in a durable word is a point of the newest finished commit, or of the one that finishes.
use Rattle.std.proofs.Common.{◌≡◌, ◌≢◌, ◌⊎◌, ◌<◌, inl, inr, ℕ, ◌+◌, ◌∙◌, List, [], ◌∷◌, refl, arith, sym, ap, subst, Bool, true, false}
use Rattle.std.specs.Prelude.{◌==◌, nat_lt, if◌then◌else◌, Option, Some, None, slice_get}
use Rattle.std.proofs.lemmas.Bool.Decides.{nat_tests}
use Rattle.fkv_base.specs.declared.numbers.Serial.{Serial}
use Rattle.fkv_base.specs.declared.shapes.Shape.{Shape}
use Rattle.fkv_plane.specs.declared.asks.Ask.{Ask}
use Rattle.fkv_plane.specs.declared.asks.Ask.TheVariants.{Store}
use Rattle.fkv_plane.specs.declared.places.Places.{Places}
use Rattle.fkv_plane.specs.declared.places.SessionWord.TheVariants as own
use Rattle.fkv_plane.specs.Passing.{passed}
use Rattle.fkv_plane.specs.Places.{session_place}
use Rattle.law_refine.specs.Below.fkv_commit.Commit.{Commit}
use Rattle.law_refine.specs.Below.fkv_commit.FinishAnswer.TheVariants.{Finished}
use Rattle.law_refine.specs.Below.fkv_commit.TheFinishing.{Finishing}
use Rattle.law_refine.specs.Below.fkv_commit.TheFinishing.TheVariants as finishing
use Rattle.law_refine.specs.Below.fkv_commit.Finishing.{durable_from, finishing_ask, finishing_next, point_of}
use Rattle.law_refine.specs.Below.fkv_manifest.WriteAnswer.{WriteAnswer}
use Rattle.law_refine.specs.Below.fkv_manifest.WriteAnswer.TheVariants as write
use Rattle.law_refine.specs.Below.fkv_manifest.Committing.{commit_answer, commit_next}
use Rattle.law_refine.specs.Below.fkv_keeper.KeeperTold.TheVariants.{Turned}
use Rattle.law_refine.specs.Below.fkv_keeper.TheKeeping.{Keeping}
use Rattle.law_refine.specs.Below.fkv_keeper.TheKeeping.TheVariants.{Ended, Starts, Maintains, LoadsPhase, Enters, Copies, Seeks, Waits, Writes, Finishes, Sweeps}
use Rattle.law_refine.specs.Below.fkv_keeper.CheckpointLaws.{IsFinished, MayFollow, SparesDurable, SparesWord}
use Rattle.law_refine.specs.Below.fkv_keeper.Keeping.{KeeperState, finish_ledto, finished, keeper_ask, keeping_ask, keeping_called, keeping_given, keeping_next, must_rest, turned, write_ledto, come_to}
use Rattle.law_refine.specs.Below.fkv_keeper.KeeperLaws.{MayRest}
use Rattle.law_refine.specs.Below.fkv_keeper.KeeperRun.{KeeperEvent, BeginsTurn, BeginsCommit, Replies, Gets, Calls, IsOpened, is_in_hand, keeper_happens, keeper_run}
use Rattle.law_refine.proofs.Below.fkv_keeper.Shown.{each_move, run_finished, run_spares}
use Rattle.law_refine.proofs.Below.law_world.OfStanding.Runs.{happens_at}
use Rattle.law_refine.proofs.Footprint.Keepers.{keeper_run_spares}
use Rattle.law_commit.specs.Cuts.{durable_at, durable_in, stored_behind, stored_by, stored_last}
use Rattle.law_commit.proofs.BegunStands.{there}
use Rattle.law_commit.proofs.InRest.{follows_or_writes}

abbrev shown : ℕ → KeeperState → ℕ
shown number s = durable_at s s.step number

-- ---- where none finishes
plain : (s : KeeperState) (step : Keeping) (number : ℕ) → step ≢ Finishes → durable_at s step number ≡ point_of (slice_get s.last.points number)
plain s Finishes number other = absurd (other refl)
plain s (Ended told) number other = refl
plain s Starts number other = refl
plain s Maintains number other = refl
plain s LoadsPhase number other = refl
plain s Enters number other = refl
plain s Copies number other = refl
plain s Sweeps number other = refl
plain s Seeks number other = refl
plain s Waits number other = refl
plain s Writes number other = refl

-- so it is where writes rest
pub durable_come : (s : KeeperState) (number : ℕ) → (s.rests ≡ true → MayRest s.step) → durable_at s s.step number ≡ durable_at s (come_to s) number
durable_come s number may = by s.rests refl
  where
    by : (b : Bool) → s.rests ≡ b → durable_at s s.step number ≡ durable_at s (if b then Writes else s.step) number
    by true rests = plain s s.step number (λ ends. subst MayRest ends (may rests))
    by false awake = refl

-- a finish follows on writes alone
goes_not : (step : Keeping) → step ≢ Finishes → step ≢ Writes → MayFollow step Finishes → ⊥
goes_not Finishes finishes writes follows = finishes refl
goes_not Writes finishes writes follows = writes refl
goes_not (Ended told) finishes writes follows = follows
goes_not Starts finishes writes follows = follows
goes_not Maintains finishes writes follows = follows
goes_not LoadsPhase finishes writes follows = follows
goes_not Enters finishes writes follows = follows
goes_not Copies finishes writes follows = follows
goes_not Sweeps finishes writes follows = follows
goes_not Seeks finishes writes follows = follows
goes_not Waits finishes writes follows = follows

same_last : (s a : KeeperState) → s.step ≢ Finishes → ((a.last ≡ s.last) × (a.lost ≡ s.lost)) ⊎ ((c : Commit) × (s.commit ≡ Some c) × IsFinished s a c) → a.last ≡ s.last
same_last s a other (inl same) = same.0
same_last s a other (inr ends) = absurd (other ends.2.finishes)

none_stored : {A : Type 0} (ask : Ask A) (place word : ℕ) → SparesWord place ask → stored_by ask place word ≡ word
none_stored (Store at new) place word spares =
    let off : at ≢ place = λ same. spares (ap Some same) in
    let no : (at == place) ≡ false = grind (arith, nat_tests, off) in
    rw no refl
none_stored ask place word spares = refl

-- ---- one durable word that is stored
stored_next : (last points : List Serial) (count next number word : ℕ) → number < count → word ≡ durable_in last points (finishing.StoresDurable next) number
    → (if session_place next own.Durable == session_place number own.Durable then point_of (slice_get points next) else word) ≡ durable_in last points (durable_from count (next + 1)) number
unfolding durable_from
stored_next last points count next number word inside was = by_tests (session_place next own.Durable == session_place number own.Durable) (nat_lt (next + 1) count) (nat_lt number next) refl refl refl
  where
    by_tests : (here more below : Bool) → (session_place next own.Durable == session_place number own.Durable) ≡ here → nat_lt (next + 1) count ≡ more → nat_lt number next ≡ below
        → (if here then point_of (slice_get points next) else word) ≡ durable_in last points (if more then finishing.StoresDurable (next + 1) else finishing.StoresRest) number
    by_tests true true below here more low =
        let same : next ≡ number = grind (arith, nat_tests, here) in
        let passed_it : nat_lt number (next + 1) ≡ true = grind (arith, nat_tests, same) in
        rw passed_it (ap (λ (x : ℕ). point_of (slice_get points x)) same)
    by_tests true false below here more low =
        let same : next ≡ number = grind (arith, nat_tests, here) in
        ap (λ (x : ℕ). point_of (slice_get points x)) same
    by_tests false true true here more low =
        let passed_it : nat_lt number (next + 1) ≡ true = grind (arith, nat_tests, low) in
        rw passed_it (was ∙ rw low refl)
    by_tests false true false here more low =
        let not_yet : nat_lt number (next + 1) ≡ false = grind (arith, nat_tests, low, here) in
        rw not_yet (was ∙ rw low refl)
    by_tests false false true here more low = was ∙ rw low refl
    by_tests false false false here more low = absurd (grind (arith, nat_tests, low, here, more, inside))

-- what comes next is another store
goes_on : (s : KeeperState) (count next : ℕ) → finish_ledto s (finishing_ask s.seek.points s.finish (durable_from count next)) ≡ s
unfolding durable_from finish_ledto finishing_ask
goes_on s count next = by_test (nat_lt next count)
  where
    by_test : (more : Bool) → finish_ledto s (finishing_ask s.seek.points s.finish (if more then finishing.StoresDurable next else finishing.StoresRest)) ≡ s
    by_test true = refl
    by_test false = refl

module _ (shape : Shape) (p : Places) (number : ℕ) where
  unstored : (s : KeeperState) (event : KeeperEvent) (word : ℕ) → s.step ≢ Finishes → SparesDurable shape p s → stored_behind shape p s event (session_place number own.Durable) word ≡ word
  unstored s BeginsTurn word other spares = refl
  unstored s (BeginsCommit kind) word other spares = refl
  unstored s (Replies reply granted) word other spares = none_stored (keeper_ask shape p s) (session_place number own.Durable) word (spares number other)
  unstored s (Gets action) word other spares = refl
  unstored s (Calls done bytes) word other spares = refl

  module _ (s : KeeperState) (event : KeeperEvent) (word : ℕ) (was : word ≡ shown number s) (spares : SparesDurable shape p s) where
    -- ---- a step that no finish follows
    calm_on : s.step ≢ Finishes → s.step ≢ Writes → stored_behind shape p s event (session_place number own.Durable) word ≡ shown number (keeper_happens shape p s event)
    calm_on finishes writes =
        let a : KeeperState = keeper_happens shape p s event in
        let move = each_move shape p s event in
        let not : a.step ≢ Finishes = λ ends. finishes_not a ends (follows_or_writes s.rests s.step a.step move.one.steps) in
        let last : a.last ≡ s.last = same_last s a finishes move.lists.lists in
        unstored s event word finishes spares ∙ (was ∙ (plain s s.step number finishes ∙ (ap (λ (x : _). point_of (slice_get x.points number)) (sym last) ∙ sym (plain a a.step number not))))
      where
        finishes_not : (a : KeeperState) → a.step ≡ Finishes → MayFollow s.step a.step ⊎ (a.step ≡ Writes) → ⊥
        finishes_not a ends (inl follows) = goes_not s.step finishes writes (subst (λ (x : Keeping). MayFollow s.step x) ends follows)
        finishes_not a ends (inr on) = let clash : Finishes ≡ Writes = sym ends ∙ on in cc

    -- ---- where a commit is written
    module _ (inside : number < s.finish.sessions) where
      written_on : (t : KeeperState) (found : Option Commit) (answer : WriteAnswer) → t.step ≡ Writes → t.last ≡ s.last → number < t.finish.sessions → point_of (slice_get s.last.points number) ≡ shown number (write_ledto t found answer)
      unfolding write_ledto durable_from
      written_on t None answer e last few = ap (λ (x : _). point_of (slice_get x.points number)) (sym last)
      written_on t (Some c) write.Written e last few =
          let some : nat_lt 0 t.finish.sessions ≡ true = grind (arith, nat_tests, few) in
          let none : nat_lt number 0 ≡ false = grind (arith, nat_tests) in
          rw (some, none) (ap (λ (x : _). point_of (slice_get x.points number)) (sym last))
      written_on t (Some c) write.Device e last few = by (must_rest t)
        where
          by : (rests : Bool) → point_of (slice_get s.last.points number) ≡ shown number (if rests then turned (record t { rests = true }) else t)
          by true = ap (λ (x : _). point_of (slice_get x.points number)) (sym last)
          by false = ap (λ (x : _). point_of (slice_get x.points number)) (sym last) ∙ sym (plain t t.step number (λ ends. let clash : Writes ≡ Finishes = sym e ∙ ends in cc))
      written_on t (Some c) (write.Broken why) e last few = ap (λ (x : _). point_of (slice_get x.points number)) (sym last) ∙ sym (plain t t.step number (λ ends. let clash : Writes ≡ Finishes = sym e ∙ ends in cc))

      writes_led : (its : KeeperEvent) → s.step ≡ Writes → point_of (slice_get s.last.points number) ≡ shown number (happens_at shape p s Writes its)
      unfolding keeping_next keeping_given keeping_called
      writes_led BeginsTurn e = sym (plain s s.step number (λ ends. let clash : Writes ≡ Finishes = sym e ∙ ends in cc))
      writes_led (BeginsCommit kind) e = sym (plain s s.step number (λ ends. let clash : Writes ≡ Finishes = sym e ∙ ends in cc))
      writes_led (Replies reply granted) e = sym (plain s s.step number (λ ends. let clash : Writes ≡ Finishes = sym e ∙ ends in cc))
      writes_led (Gets action) e = sym (plain s s.step number (λ ends. let clash : Writes ≡ Finishes = sym e ∙ ends in cc))
      writes_led (Calls true bytes) e = written_on (record s { writes = commit_next s.writes true }) s.commit (commit_answer (commit_next s.writes true)) e refl inside
      writes_led (Calls false bytes) e = refl

      writes_on : s.step ≡ Writes → stored_behind shape p s event (session_place number own.Durable) word ≡ shown number (keeper_happens shape p s event)
      writes_on e =
          let other : s.step ≢ Finishes = λ ends. let clash : Writes ≡ Finishes = sym e ∙ ends in cc in
          unstored s event word other spares ∙ (was ∙ (plain s s.step number other ∙ (writes_led event e ∙ ap (λ (a : KeeperState). shown number a) (there shape p s event Writes e))))

      -- ---- where it finishes
      module _ (c : Commit) (found : s.commit ≡ Some c) where
        over : (t : KeeperState) (commit : Option Commit) → commit ≡ Some c → point_of (slice_get t.seek.points number) ≡ shown number (finished t commit)
        over t None none = let clash : None ≡ Some c = none in cc
        over t (Some d) some = refl

        replied : (reply : ℕ) (step : Finishing) → s.step ≡ Finishes → s.finish.step ≡ step → word ≡ durable_in s.last.points s.seek.points step number
            → stored_by (passed (finishing_ask s.seek.points s.finish step) (Turned false s.is_drain_full)) (session_place number own.Durable) word
            ≡ shown number (finish_ledto (record s { finish = record s.finish { step = finishing_next s.finish step } }) (finishing_ask s.seek.points (record s.finish { step = finishing_next s.finish step }) (finishing_next s.finish step)))
        unfolding finish_ledto finishing_ask finishing_next passed
        replied reply (finishing.Ended told) e at its = its ∙ over (record s { finish = record s.finish { step = finishing.Ended told } }) s.commit found
        replied reply finishing.StoresRest e at its =
            let off : (2 == session_place number own.Durable) ≡ false = grind (arith, nat_tests) in
            rw off (its ∙ over (record s { finish = record s.finish { step = finishing.Ended Finished } }) s.commit found)
        replied reply (finishing.StoresDurable next) e at its =
            let t : KeeperState = record s { finish = record s.finish { step = durable_from s.finish.sessions (next + 1) } } in
            stored_next s.last.points s.seek.points s.finish.sessions next number word inside its
            ∙ (ap (λ (x : Keeping). durable_at t x number) (sym e) ∙ sym (ap (λ (a : KeeperState). shown number a) (goes_on t s.finish.sessions (next + 1))))

        asked : s.step ≡ Finishes → stored_by (keeper_ask shape p s) (session_place number own.Durable) word ≡ stored_by (passed (finishing_ask s.seek.points s.finish s.finish.step) (Turned false s.is_drain_full)) (session_place number own.Durable) word
        unfolding keeping_ask
        asked e = rw e refl

        finishes_led : (its : KeeperEvent) → s.step ≡ Finishes → stored_behind shape p s its (session_place number own.Durable) word ≡ shown number (happens_at shape p s Finishes its)
        unfolding keeping_next keeping_given keeping_called
        finishes_led BeginsTurn e = was
        finishes_led (BeginsCommit kind) e = was
        finishes_led (Replies reply granted) e =
            asked e ∙ replied reply s.finish.step e refl (was ∙ ap (λ (x : Keeping). durable_at s x number) e)
        finishes_led (Gets action) e = was
        finishes_led (Calls done bytes) e = was

        finishes_on : s.step ≡ Finishes → stored_behind shape p s event (session_place number own.Durable) word ≡ shown number (keeper_happens shape p s event)
        finishes_on e = finishes_led event e ∙ ap (λ (a : KeeperState). shown number a) (there shape p s event Finishes e)

    -- ---- each of them
    event_on : (step : Keeping) → s.step ≡ step → number < s.finish.sessions → (s.step ≡ Finishes → (c : Commit) × (s.commit ≡ Some c)) → stored_behind shape p s event (session_place number own.Durable) word ≡ shown number (keeper_happens shape p s event)
    event_on Finishes e inside in_hand = finishes_on inside (in_hand e).0 (in_hand e).1 e
    event_on Writes e inside in_hand = writes_on inside e
    event_on (Ended told) e inside in_hand = calm_on (λ ends. let clash : Ended told ≡ Finishes = sym e ∙ ends in cc) (λ writes. let clash : Ended told ≡ Writes = sym e ∙ writes in cc)
    event_on Starts e inside in_hand = calm_on (λ ends. let clash : Starts ≡ Finishes = sym e ∙ ends in cc) (λ writes. let clash : Starts ≡ Writes = sym e ∙ writes in cc)
    event_on Maintains e inside in_hand = calm_on (λ ends. let clash : Maintains ≡ Finishes = sym e ∙ ends in cc) (λ writes. let clash : Maintains ≡ Writes = sym e ∙ writes in cc)
    event_on LoadsPhase e inside in_hand = calm_on (λ ends. let clash : LoadsPhase ≡ Finishes = sym e ∙ ends in cc) (λ writes. let clash : LoadsPhase ≡ Writes = sym e ∙ writes in cc)
    event_on Enters e inside in_hand = calm_on (λ ends. let clash : Enters ≡ Finishes = sym e ∙ ends in cc) (λ writes. let clash : Enters ≡ Writes = sym e ∙ writes in cc)
    event_on Copies e inside in_hand = calm_on (λ ends. let clash : Copies ≡ Finishes = sym e ∙ ends in cc) (λ writes. let clash : Copies ≡ Writes = sym e ∙ writes in cc)
    event_on Sweeps e inside in_hand = calm_on (λ ends. let clash : Sweeps ≡ Finishes = sym e ∙ ends in cc) (λ writes. let clash : Sweeps ≡ Writes = sym e ∙ writes in cc)
    event_on Seeks e inside in_hand = calm_on (λ ends. let clash : Seeks ≡ Finishes = sym e ∙ ends in cc) (λ writes. let clash : Seeks ≡ Writes = sym e ∙ writes in cc)
    event_on Waits e inside in_hand = calm_on (λ ends. let clash : Waits ≡ Finishes = sym e ∙ ends in cc) (λ writes. let clash : Waits ≡ Writes = sym e ∙ writes in cc)

  -- ---- at each moment of a keeper's run
  not_opened : (s : KeeperState) (step : Keeping) → s.step ≡ step → is_in_hand step ≡ false → step ≢ Finishes
  not_opened s Finishes e idle = cc
  not_opened s step e idle = λ ends. let busy : is_in_hand step ≡ true = ap is_in_hand ends in let clash : true ≡ false = sym busy ∙ idle in cc

  pub run_shows : (opening : KeeperState) (f : ℕ → ℕ) (events : List KeeperEvent) → IsOpened opening → number < opening.finish.sessions → f (session_place number own.Durable) ≡ point_of (slice_get opening.last.points number)
      → stored_last shape p opening f events (session_place number own.Durable) ≡ shown number (keeper_run shape p opening events)
  unfolding keeper_run stored_last
  run_shows opening f [] opened inside first = first ∙ sym (plain opening opening.step number (not_opened opening opening.step refl opened.none_in_hand))
  run_shows opening f (event ∷ before) opened inside first =
      let s : KeeperState = keeper_run shape p opening before in
      let counts : s.finish.sessions ≡ opening.finish.sessions = (keeper_run_spares opening.finish.sessions shape p opening before opened refl).counts in
      event_on s event (stored_last shape p opening f before (session_place number own.Durable)) (run_shows opening f before opened inside first) (run_spares shape p opening before opened) s.step refl
      (omega (arith, counts, inside)) (λ finishes. let its = run_finished shape p opening before opened finishes in (its.commit, its.in_hand))
