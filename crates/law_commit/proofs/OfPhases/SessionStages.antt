-- A session's step leaves the stage, or runs the action that is out.
use Rattle.std.proofs.Common.{◌≡◌, ◌⊎◌, inl, inr, ℕ, ◌<◌, ◌≤◌, ◌∙◌, List, [], ◌∷◌, length, refl, arith, sym, ap, subst, Bool, true, false}
use Rattle.std.specs.Prelude.{Option, Some, None, slice_get, slice_set}
use Rattle.fkv_base.specs.Limits.{last_version}
use Rattle.fkv_base.specs.declared.numbers.Version.{Version}
use Rattle.fkv_base.specs.declared.phases.Phase.{Phase}
use Rattle.fkv_base.specs.declared.phases.Phase.TheVariants as phase
use Rattle.fkv_base.specs.declared.shapes.Shape.{Shape}
use Rattle.fkv_words.specs.declared.phase_words.PhaseSaid.TheVariants.{Says}
use Rattle.fkv_words.specs.PhaseWords.{phase_said}
use Rattle.fkv_plane.specs.declared.actions.Action.{Action}
use Rattle.fkv_plane.specs.declared.actions.Action.TheVariants as act
use Rattle.fkv_plane.specs.declared.asks.Ask.{Ask}
use Rattle.fkv_plane.specs.declared.asks.Ask.TheVariants.{Load, Store, Swap, Cas, Add, Max, Put, Take, Done}
use Rattle.fkv_plane.specs.declared.places.Places.{Places}
use Rattle.fkv_plane.specs.declared.places.SharedWord.TheVariants as one
use Rattle.fkv_plane.specs.Asked.{reply_to, word_at, words_after}
use Rattle.fkv_plane.specs.Passing.{passed}
use Rattle.fkv_plane.specs.Places.{shared_place}
use Rattle.fkv_plane.specs.Plane.{action_at}
use Rattle.fkv_epoch.specs.declared.claiming.Claiming.{Claiming}
use Rattle.fkv_epoch.specs.declared.claiming.Claiming.TheVariants as claim
use Rattle.fkv_epoch.specs.Claiming.{claim_ask, phase_stored}
use Rattle.fkv_epoch.proofs.Shown.{same_or, word_spared, word_written}
use Rattle.law_refine.specs.Below.fkv_session.Told.{Told}
use Rattle.law_refine.specs.Below.fkv_session.OwnTurning.{OwnTurning}
use Rattle.law_refine.specs.Below.fkv_session.OwnTurning.TheVariants as turning
use Rattle.law_refine.specs.Below.fkv_session.Sitting.{Sitting}
use Rattle.law_refine.specs.Below.fkv_session.Sitting.TheVariants.{Turns}
use Rattle.law_refine.specs.Below.fkv_session.OwnTurns.{OwnTurnState, own_turning_ask}
use Rattle.law_refine.specs.Below.fkv_session.Sessions.{Seat, SessionState, session_ask, session_given, session_next, sitting_ask}
use Rattle.law_refine.specs.Below.fkv_commit.Commits.{version_after}
use Rattle.law_refine.specs.Below.fkv_world.Actors.{slot_asked}
use Rattle.law_refine.specs.Below.fkv_world.Moves.{session_asks, session_gets, session_moved, session_settled}
use Rattle.law_refine.specs.Below.fkv_world.World.{Now, near, seat_at, with_session}
use Rattle.law_refine.specs.Footprint.{Spares, ThePhase, stores_phase}
use Rattle.law_refine.proofs.Footprint.OwnTurns.{turn_stores}
use Rattle.law_refine.proofs.Footprint.Sessions.{sitting_stores}
use Rattle.law_commit.specs.Phases.Staged.{DefersPending, DefersProgress, FitsVersion, Flushes, InSlot, IsStaged, KeeperAt, OnlyOut, Pends, Prepares, Progresses, Rests, Stage, WithSession, claim_hand, hand_found, held, held_at, phase_in, session_hand, sitting_hand, stage_out, stage_phase, stage_run, stage_version, stage_word, turn_hand}
use Rattle.law_commit.proofs.OfPhases.OneOut.{dropped, fewer, session_empties, session_put, session_same, session_takes, taken}
use Rattle.law_commit.proofs.OfPhases.SessionHands.{PutsNone, session_given_hand, session_next_none, session_puts}
use Rattle.law_commit.proofs.OfPhases.StageMoves.{Ran, SameStage, SessionOn}
use Rattle.law_commit.proofs.OfPhases.StageWords.{word_says}
use Rattle.law_commit.proofs.OfPhases.StagesRun.{runs_on}

-- ---- the phase word behind an ask
loads_back : (words : List ℕ) (place : ℕ) → word_at (slice_set words place (word_at words place)) 2 ≡ word_at words 2
loads_back words place = elim (same_or 2 place) [
  | inl same ↦ subst (λ (x : ℕ). word_at (slice_set words x (word_at words x)) 2 ≡ word_at words 2) same (loaded words)
  | inr other ↦ word_spared words place (word_at words place) 2 other
]
  where
    loaded : (words : List ℕ) → word_at (slice_set words 2 (word_at words 2)) 2 ≡ word_at words 2
    loaded [] = refl
    loaded (a ∷ []) = refl
    loaded (a ∷ b ∷ []) = refl
    loaded (a ∷ b ∷ c ∷ more) = refl

-- one that spares it leaves it
pub phase_spared : {A : Type 0} (p : Places) (words : List ℕ) (ask : Ask A) → Spares ThePhase p ask → word_at (words_after words ask) 2 ≡ word_at words 2
phase_spared p words (Load place) spares = loads_back words place
phase_spared p words (Store place new) spares = word_spared words place _ 2 (λ e. spares (sym e))
phase_spared p words (Swap place new) spares = word_spared words place _ 2 (λ e. spares (sym e))
phase_spared p words (Cas place old new) (inl off) = word_spared words place _ 2 (λ e. off (sym e))
phase_spared p words (Cas place old new) (inr may) = absurd may
phase_spared p words (Add place k) (inl off) = word_spared words place _ 2 (λ e. off (sym e))
phase_spared p words (Add place k) (inr may) = absurd may
phase_spared p words (Max place k) spares = word_spared words place _ 2 (λ e. spares (sym e))
phase_spared p words (Put slot action) spares = refl
phase_spared p words (Take slot) spares = refl
phase_spared p words (Done its) spares = refl

-- and a store of it is it
pub phase_written : {A : Type 0} (words : List ℕ) (ask : Ask A) (word : ℕ) → 2 < length words → ask ≡ Store (shared_place one.Phase) word → word_at (words_after words ask) 2 ≡ word
phase_written words ask word low is = rw is (word_written words 2 word low)

-- ---- who runs an action that stores a phase
pub record IsRun {A : Type 0} (ask : Ask A) (hand : Option Action) : Type 0 where
  pub its : Phase
  pub version : Version
  pub has : hand ≡ Some (act.Phase its version)
  pub asks : ask ≡ Store (shared_place one.Phase) (phase_stored its version)

pub claim_runs : (step : Claiming) → stores_phase step ≡ true → IsRun (claim_ask step) (claim_hand step)
unfolding claim_ask
claim_runs (claim.Runs slot epoch safe (act.Phase its version)) e = record { its = its; version = version; has = refl; asks = refl }
claim_runs (claim.Runs slot epoch safe (act.SafeReadOnly addr)) e = cc
claim_runs (claim.Runs slot epoch safe (act.Close addr)) e = cc
claim_runs claim.AtRest e = cc
claim_runs (claim.MeetsSlot slot safe) e = cc
claim_runs (claim.LoadsSafe slot word) e = cc
claim_runs (claim.TakesSlot slot word safe) e = cc
claim_runs (claim.Receives slot epoch safe) e = cc
claim_runs (claim.FreesSlot slot safe) e = cc

pub passed_runs : {A B : Type 0} (ask : Ask A) (told : B) (hand : Option Action) → IsRun ask hand → IsRun (passed ask told) hand
unfolding passed
passed_runs ask told hand run = record { its = run.its; version = run.version; has = run.has; asks = ap (λ x. passed x told) run.asks }

turn_runs : (shape : Shape) (o : OwnTurnState) (step : OwnTurning) → turn_stores o step ≡ true → IsRun (own_turning_ask shape o step) (turn_hand o step)
unfolding own_turning_ask
turn_runs shape o turning.Claims e = passed_runs (claim_ask o.claiming) tt (claim_hand o.claiming) (claim_runs o.claiming e)
turn_runs shape o step e = cc

sitting_runs : (k : Seat) (s : SessionState) (step : Sitting) → sitting_stores s step ≡ true → IsRun (sitting_ask k s step) (sitting_hand s step)
unfolding sitting_ask
sitting_runs k s (Turns its) e = passed_runs _ its (turn_hand s.own_turn s.own_turn.step) (turn_runs k.shape s.own_turn s.own_turn.step e)
sitting_runs k s step e = cc

-- what runs is what is out, and it leads to the next stage
pub record RunsOn (number : Version) (stage : Stage) (word : ℕ) : Type 0 where
  pub word_is : word ≡ stage_word number (stage_run stage)
  pub none : stage_out number (stage_run stage) ≡ None
  pub fits : FitsVersion number (stage_run stage)
  pub rises : (stage_version number stage).0 ≤ (stage_version number (stage_run stage)).0

action_same : {x y : Action} → ◌≡◌ {A = Option Action} (Some x) (Some y) → x ≡ y
action_same e = cc

stored_as : (its other : Phase) (version also : Version) → act.Phase its version ≡ act.Phase other also → phase_stored its version ≡ phase_stored other also
stored_as its other version also e = let a : its ≡ other = cc in let b : version ≡ also = cc in rw (a, b) refl

next_above : (number : Version) → number.0 ≤ last_version → number.0 ≤ (version_after number).0
next_above number low = omega (arith, low)

pub stage_runs : (number : Version) (stage : Stage) (its : Phase) (version : Version) → Some (act.Phase its version) ≡ stage_out number stage → FitsVersion number stage → RunsOn number stage (phase_stored its version)
stage_runs number DefersProgress its version is fits =
    record { word_is = stored_as its phase.InProgress version (version_after number) (action_same is); none = refl; fits = record { some = fits.some; low = fits.low; lower = λ e. fits.lower refl }; rises = next_above number fits.low }
stage_runs number DefersPending its version is fits =
    record { word_is = stored_as its phase.WaitPending version (version_after number) (action_same is); none = refl; fits = record { some = fits.some; low = fits.low; lower = λ e. fits.lower refl }; rises = omega arith }
stage_runs number Rests its version is fits = cc
stage_runs number Prepares its version is fits = cc
stage_runs number Progresses its version is fits = cc
stage_runs number Pends its version is fits = cc
stage_runs number Flushes its version is fits = cc

-- ---- a step
module _ (n : Now) (number : Version) (stage : Stage) (i : ℕ) (s : SessionState) where
  -- behind the reply, with the session that it leads to
  record Answered (words : List ℕ) (m : SessionState) : Type 0 where
    at : Stage
    fits : FitsVersion number at
    word : phase_said (word_at words 2) ≡ Says (stage_phase at) (stage_version number at)
    out : OnlyOut (held_at n.actions (slice_set n.sessions i m) n.keeper) (stage_out number at)
    keeper : KeeperAt number at n.keeper
    rises : (stage_version number stage).0 ≤ (stage_version number at).0
    how : SameStage number number stage at ⊎ Ran number number stage at (session_hand s)

  gets_hand : (k : Seat) (m : SessionState) (found : Option Action) (a : Action) → session_hand m ≡ None → phase_in (session_hand (session_gets k m found)) ≡ Some a → phase_in found ≡ Some a
  gets_hand k m None a none is = let clash : None ≡ Some a = ap phase_in (sym none) ∙ is in cc
  gets_hand k m (Some action) a none is = by_hand (session_hand (session_given k m action)) refl is
    where
      by_hand : (hand : Option Action) → session_hand (session_given k m action) ≡ hand → phase_in hand ≡ Some a → phase_in (Some action) ≡ Some a
      by_hand None e it = cc
      by_hand (Some its) e it = subst (λ (x : Action). phase_in (Some x) ≡ Some a) (session_given_hand k m action its none e) it

  settles : (k : Seat) (m : SessionState) (words : List ℕ) (ask : Ask Told) → Answered words m → session_hand m ≡ None → PutsNone ask
      → SessionOn number stage s n (with_session n i (session_settled k (record { machine = m; words = words; actions = n.actions }) ask))
  unfolding session_settled
  settles k m words (Put slot action) r none puts = record {
    on = record {
      its_number = number;
      its_stage = r.at;
      staged = record { fits = r.fits; word = r.word; out = fewer r.out (session_put n.actions n.sessions n.keeper i (session_next k m 0) m slot action (session_next_none k m 0) puts); keeper = r.keeper };
      rises = r.rises;
    };
    how = r.how;
    keeper = refl;
  }
  settles k m words (Take slot) r none puts = record {
    on = record {
      its_number = number;
      its_stage = r.at;
      staged = record {
        fits = r.fits;
        word = r.word;
        out = taken (InSlot slot) (WithSession i) r.out (session_takes n.actions n.sessions n.keeper i (session_gets k m (action_at n.actions slot)) m slot (λ a is. gets_hand k m (action_at n.actions slot) a none is));
        keeper = r.keeper;
      };
      rises = r.rises;
    };
    how = r.how;
    keeper = refl;
  }
  settles k m words ask r none puts = record { on = record { its_number = number; its_stage = r.at; staged = record { fits = r.fits; word = r.word; out = r.out; keeper = r.keeper }; rises = r.rises }; how = r.how; keeper = refl }

  replies : (its : IsStaged n number stage) → slice_get n.sessions i ≡ Some s → 2 < length n.words → (sitting_stores s s.step ≡ false → Spares ThePhase n.places (session_ask (seat_at n i) s)) → (m : SessionState) → session_hand m ≡ None
      → Answered (words_after n.words (session_ask (seat_at n i) s)) m
  replies its got low spares m none = by_stores (sitting_stores s s.step) refl
    where
      by_stores : (b : Bool) → sitting_stores s s.step ≡ b → Answered (words_after n.words (session_ask (seat_at n i) s)) m
      by_stores false e = record {
        at = stage;
        fits = its.fits;
        word = ap phase_said (phase_spared n.places n.words (session_ask (seat_at n i) s) (spares e)) ∙ its.word;
        out = fewer its.out (λ holder a is. (session_empties n.actions n.sessions n.keeper i m none holder a is).0);
        keeper = its.keeper;
        rises = omega arith;
        how = inl (record { version = refl; same = refl });
      }
      by_stores true e =
          let run = sitting_runs (seat_at n i) s s.step e in
          let action : Action = act.Phase run.its run.version in
          let has : held n (WithSession i) ≡ Some action = ap (λ (x : Option SessionState). phase_in (hand_found x)) got ∙ ap phase_in run.has in
          let on = stage_runs number stage run.its run.version (its.out.its_own (WithSession i) action has) its.fits in
          record {
            at = stage_run stage;
            fits = on.fits;
            word = ap phase_said (phase_written n.words (session_ask (seat_at n i) s) (phase_stored run.its run.version) low run.asks ∙ on.word_is) ∙ word_says number (stage_run stage) on.fits;
            out = subst (λ (x : Option Action). OnlyOut (held_at n.actions (slice_set n.sessions i m) n.keeper) x) (sym on.none)
                (dropped (WithSession i) action its.out has (λ holder a is. session_empties n.actions n.sessions n.keeper i m none holder a is));
            keeper = runs_on number stage n.keeper its.keeper;
            rises = on.rises;
            how = inr (record { version = refl; runs = refl; its = run.its; its_version = run.version; has = run.has });
          }

  asks : IsStaged n number stage → slice_get n.sessions i ≡ Some s → 2 < length n.words → (sitting_stores s s.step ≡ false → Spares ThePhase n.places (session_ask (seat_at n i) s)) → (ask : Ask Told) → session_ask (seat_at n i) s ≡ ask
      → slot_asked ask ≡ None → SessionOn number stage s n (with_session n i (session_asks (seat_at n i) (near n s) ask))
  unfolding session_asks
  asks its got low spares (Done told) e rests = record {
    on = record {
      its_number = number;
      its_stage = stage;
      staged = record { fits = its.fits; word = its.word; out = fewer its.out (session_same n.actions n.sessions n.keeper i s got); keeper = its.keeper };
      rises = omega arith;
    };
    how = inl (record { version = refl; same = refl });
    keeper = refl;
  }
  asks its got low spares (Put slot action) e rests = cc
  asks its got low spares (Take slot) e rests = cc
  asks its got low spares ask e rests =
      let k : Seat = seat_at n i in
      let m : SessionState = session_next k s (reply_to n.words ask) in
      let none = session_next_none k s (reply_to n.words ask) in
      let r : Answered (words_after n.words ask) m = subst (λ (x : Ask Told). Answered (words_after n.words x) m) e (replies its got low spares m none) in
      settles k m (words_after n.words ask) (session_ask k m) r none (session_puts k m)

pub session_on : (n : Now) (number : Version) (stage : Stage) (i : ℕ) (s : SessionState) → IsStaged n number stage → slice_get n.sessions i ≡ Some s → 2 < length n.words
    → (sitting_stores s s.step ≡ false → Spares ThePhase n.places (session_ask (seat_at n i) s)) → slot_asked (session_ask (seat_at n i) s) ≡ None → SessionOn number stage s n (with_session n i (session_moved (seat_at n i) (near n s)))
session_on n number stage i s its got low spares rests = asks n number stage i s its got low spares (session_ask (seat_at n i) s) refl rests
