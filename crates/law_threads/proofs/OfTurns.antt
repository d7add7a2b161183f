-- What a turn tells as finished, by the law of prefixes.
use Rattle.std.proofs.Common.{◌≡◌, ◌⊎◌, inl, inr, ℕ, ◌∙◌, List, ◌∷◌, refl, ap, sym, subst, Bool, true, false}
use Rattle.std.specs.Prelude.{Option, Some, None, Result, Ok, Err, if◌then◌else◌}
use Rattle.fkv_base.specs.declared.commits.CommitKind.{CommitKind}
use Rattle.fkv_base.specs.declared.faults.Fault.{Fault}
use Rattle.fkv_base.specs.declared.numbers.Serial.{Serial}
use Rattle.fkv_base.specs.declared.shapes.Shape.{Shape}
use Rattle.law_order.specs.Below.fkv_core.Openings.{beginning}
use Rattle.law_order.specs.Below.fkv_keeper.Answers.{IsFinishTold}
use Rattle.law_order.specs.Below.fkv_keeper.Keeping.{Finality, KeeperState, come_to, keeping_ask}
use Rattle.law_order.specs.Below.fkv_keeper.KeeperRun.{is_in_hand}
use Rattle.law_order.specs.Below.fkv_keeper.Running.{IsTurnTold}
use Rattle.law_order.specs.Below.fkv_keeper.Finished.{Finished}
use Rattle.law_order.specs.Below.fkv_keeper.KeeperTold.{KeeperTold}
use Rattle.law_order.specs.Below.fkv_keeper.KeeperTold.TheVariants.{Device, Turned, TurnRefused, Begun, CommitRefused}
use Rattle.law_order.specs.Below.fkv_keeper.Turn.{Turn}
use Rattle.law_order.specs.Below.fkv_keeper.TheKeeping.{Keeping}
use Rattle.law_order.specs.Below.fkv_keeper.TheKeeping.TheVariants.{Ended, Writes}
use Rattle.fkv_map.specs.History.{point_of}
use Rattle.law_order.specs.Below.fkv_opening.TheOpened.{Opened}
use Rattle.fkv_plane.specs.declared.asks.Ask.{Ask}
use Rattle.fkv_plane.specs.declared.asks.Ask.TheVariants.{Done}
use Rattle.fkv_plane.specs.declared.places.Places.{Places}
use Rattle.fkv_seats.specs.Rule.{AreAllowed, led}
use Rattle.law_order.specs.Below.fkv_world.Opened.{IsOpenedWorld}
use Rattle.law_order.specs.Below.fkv_world.Runs.{World, run}
use Rattle.law_order.specs.Below.fkv_world.World.{Event, Now}
use Rattle.law_order.specs.Below.law_commit.LastSerials.{serial_at}
use Rattle.law_order.specs.Below.law_commit.BegunCommits.{BegunCommit, life_begun}
use Rattle.law_order.specs.Below.law_commit.HeldCommits.{AtEnd, AtKeeping, HaveFinished, IsAsLast, OneIsOpen}
use Rattle.law_order.proofs.Below.law_commit.Shown.{life_stands}
use Rattle.law_order.specs.OneHistory.EachLife.{IsLife}
use Rattle.law_order.specs.Prefix.Law.{BeginsWithTaken, HasFairPoints, IsFairPoint, IsInHandAsTaken, PrefixLaw, TakesFairPoints, past_so_far}
use Rattle.law_order.specs.Rules.Ordered.{now_after}
use Rattle.law_order.proofs.OfRules.Beginning.{world_opens}
use Rattle.fkv_table.specs.declared.happenings.Happening.{Happening}
use Rattle.fkv_table.specs.Planes.{plane}
use Rattle.fkv_table.proofs.Lives.{led_run}
use Rattle.law_threads.specs.Calls.{IsOver, events_of}
use Rattle.law_threads.specs.Kinds.{IsOfKind}
use Rattle.law_threads.specs.Laws.{IsWithin}
use Rattle.law_threads.specs.Turns.{HasTurned, IsTakenFairly, IsToldFinished, OfEachTurn, TellsFinish}
use Rattle.law_threads.proofs.Numbers.{calls_fit}
use Rattle.law_threads.proofs.OfFinishes.{HasFinished, has_finished}
use Rattle.law_threads.proofs.OfKinds.{NewestIsOfKind, alive_at, newest_of_kind}

-- ---- the turn's own words
not_both : (A : Type 0) (x : A) → ◌≡◌ {A = Option A} None (Some x) → ⊥
not_both A x e = cc

same_turn : (a b : Turn) → ◌≡◌ {A = Result Turn Fault} (Ok a) (Ok b) → a ≡ b
same_turn a b e = cc

same_finish : (a b : Finished) → ◌≡◌ {A = Option Finished} (Some a) (Some b) → a ≡ b
same_finish a b e = cc

no_turn : (a : Turn) (why : Fault) → ◌≡◌ {A = Result Turn Fault} (Ok a) (Err why) → ⊥
no_turn a why e = cc

-- it has ended as one that finishes a commit, and tells the newest finished one
pub record Finishes (last : Finality) (ask : Ask KeeperTold) (its : Finished) : Type 0 where
  pub full : Bool
  pub asks : ask ≡ Done (Turned true full)
  pub told : IsFinishTold last its

finish_told : (last : Finality) (ask : Ask KeeperTold) (told : Result Turn Fault) (its : Finished) → IsTurnTold last ask told → TellsFinish told its → Finishes last ask its
finish_told last (Done (Turned true full)) told its is tells =
    let same = same_turn tells.0 is.0 (sym tells.1 ∙ is.1) in
    let finish = same_finish is.3.0 its (sym is.3.1 ∙ (ap (λ (x : Turn). x.finished) (sym same) ∙ tells.2)) in
    record { full = full; asks = refl; told = subst (IsFinishTold last) finish is.3.2 }
finish_told last (Done (Turned false full)) told its is tells =
    let same = same_turn tells.0 is.0 (sym tells.1 ∙ is.1) in
    absurd (not_both Finished its (sym is.3 ∙ (ap (λ (x : Turn). x.finished) (sym same) ∙ tells.2)))
finish_told last (Done (TurnRefused why)) told its is tells = absurd (no_turn tells.0 why (sym tells.1 ∙ is))
finish_told last ask told its is tells = absurd (no_turn tells.0 _ (sym tells.1 ∙ is))

-- so it stands in the keeper's step
ended_so : (shape : Shape) (p : Places) (s : KeeperState) (step : Keeping) (full : Bool) → is_in_hand step ≡ false → keeping_ask shape p s step ≡ Done (Turned true full) → step ≡ Ended (Turned true full)
unfolding keeping_ask
ended_so shape p s (Ended (Turned finished its_full)) full idle asks = cc
ended_so shape p s (Ended Device) full idle asks = cc
ended_so shape p s (Ended (TurnRefused why)) full idle asks = cc
ended_so shape p s (Ended (Begun number)) full idle asks = cc
ended_so shape p s (Ended (CommitRefused why)) full idle asks = cc
ended_so shape p s step full idle asks = cc

-- ---- the newest that has begun
head_of : (a b : BegunCommit) (more rest : List BegunCommit) → (a ∷ more) ≡ (b ∷ rest) → a ≡ b
head_of a b more rest same = cc

not_open : true ≡ false → ⊥
not_open e = cc

-- if it is finished, it is the keeper's last one
newest_is : (begun older : List BegunCommit) (c : BegunCommit) (last : Finality) → begun ≡ c ∷ older → c.is_finished ≡ true → HaveFinished begun last ⊎ OneIsOpen begun last → IsAsLast last c
newest_is begun older c last now done (inl all) = subst (IsAsLast last) (head_of all.newest c all.older older (sym all.its ∙ now)) all.last
newest_is begun older c last now done (inr one) =
    let same = head_of one.newest c one.older older (sym one.its ∙ now) in
    absurd (not_open (sym done ∙ (sym (ap (λ (x : BegunCommit). x.is_finished) same) ∙ one.unfinished)))

at_end : (begun : List BegunCommit) (s : KeeperState) (broken : Bool) → AtEnd begun s broken → HaveFinished begun s.last ⊎ OneIsOpen begun s.last
at_end begun s true its = its
at_end begun s false its = inl its

at_told : (begun : List BegunCommit) (s : KeeperState) (told : KeeperTold) → s.step ≡ Ended told → AtKeeping begun s (come_to s) → HaveFinished begun s.last ⊎ OneIsOpen begun s.last
at_told begun s told e stands = by s.rests stands
  where
    by : (rests : Bool) → AtKeeping begun s (if rests then Writes else s.step) → HaveFinished begun s.last ⊎ OneIsOpen begun s.last
    by true its = its
    by false its = at_end begun s s.is_broken (subst (λ (step : Keeping). AtKeeping begun s step) e its)

tails_of : (a b : BegunCommit) (more rest : List BegunCommit) → (a ∷ more) ≡ (b ∷ rest) → more ≡ rest
tails_of a b more rest same = cc

kind_there : (kind : CommitKind) (a b : BegunCommit) (more rest : List BegunCommit) → (a ∷ more) ≡ (b ∷ rest) → IsOfKind kind a more → IsOfKind kind b rest
kind_there kind a b more rest same its = subst (λ (those : List BegunCommit). IsOfKind kind b those) (tails_of a b more rest same) (subst (λ (c : BegunCommit). IsOfKind kind c more) (head_of a b more rest same) its)

-- ---- and the moment at which it was in hand
module _ (o : Opened) (n : Now) (bytes : List ℕ) (events : List Event) (law : HasFairPoints o n bytes events) (was : HasFinished (beginning n bytes) events) where
  fair_then : TakesFairPoints (now_after n bytes was.before) (past_so_far n bytes was.before) × BeginsWithTaken (now_after n bytes was.before) (past_so_far n bytes was.before).begun
  fair_then = law was.later was.before was.so

  taken : IsInHandAsTaken (now_after n bytes was.before) was.commit
  taken = subst (λ (begun : List BegunCommit). BeginsWithTaken (now_after n bytes was.before) begun) was.begun fair_then.1 was.unfinished

  pub taken_fairly : IsTakenFairly o n bytes events (record was.commit { is_finished = true })
  taken_fairly = record {
    later = was.later;
    before = was.before;
    so = was.so;
    taken = record { commit = taken.commit; in_hand = taken.in_hand; number = taken.number; taken = taken.taken; points = taken.points };
    fair = λ session.
        subst (λ (points : List Serial). IsFairPoint ((past_so_far n bytes was.before).asked session) (serial_at (now_after n bytes was.before) session) (point_of (now_after n bytes was.before).keeper.last.points session) (point_of points session)) (sym taken.points)
        (fair_then.0 taken.commit taken.in_hand taken.taken session);
  }

module _ {K : Type 0} (at : K → World) (prefix : PrefixLaw) (key : K) (seen : List Happening) (told : Result Turn Fault) (turned : HasTurned at key seen told) (o : Opened) (n : Now) (bytes : List ℕ) (over : IsOver at key o n bytes) (within : IsWithin o n bytes (events_of seen)) (its : Finished) (tells : TellsFinish told its) where
  abbrev events : List Event
  events = events_of seen

  abbrev keeper : KeeperState
  keeper = (run (beginning n bytes) events).now.keeper

  finishes : Finishes turned.machine.state.last (keeping_ask turned.machine.shape turned.machine.places turned.machine.state turned.machine.state.step) its
  finishes = finish_told turned.machine.state.last (keeping_ask turned.machine.shape turned.machine.places turned.machine.state turned.machine.state.step) told its turned.told tells

  state_so : turned.machine.state ≡ keeper
  state_so =
      turned.ready.keeping.state
      ∙ (ap (λ (es : List Happening). (led (plane at) (at key) es).now.keeper) turned.seen
      ∙ (ap (λ (w : World). w.now.keeper) (led_run at (at key) seen)
      ∙ ap (λ (w : World). (run w events).now.keeper) over.same))

  ends : keeper.step ≡ Ended (Turned true finishes.full)
  ends = sym (ap (λ (s : KeeperState). s.step) state_so) ∙ ended_so turned.machine.shape turned.machine.places turned.machine.state turned.machine.state.step finishes.full turned.ready.idle finishes.asks

  opened : IsOpenedWorld (beginning n bytes)
  opened = world_opens o n bytes over.begins

  was : HasFinished (beginning n bytes) events
  was = has_finished (beginning n bytes) finishes.full opened over.begins.its_keeper.no_call events ends

  newest : IsAsLast keeper.last (record was.commit { is_finished = true })
  newest = newest_is (life_begun (beginning n bytes) events) was.older (record was.commit { is_finished = true }) keeper.last was.now refl
      (at_told (life_begun (beginning n bytes) events) keeper (Turned true finishes.full) ends (life_stands (beginning n bytes) events opened))

  told_so : IsFinishTold keeper.last its
  told_so = subst (λ (s : KeeperState). IsFinishTold s.last its) state_so finishes.told

  is_life : IsLife (record { bytes = bytes; opened = o; world = n; events = events })
  is_life = record { store = over.store; begins = over.begins; fits = calls_fit at seen (subst (AreAllowed (plane at)) turned.seen turned.ready.keeping.allowed); few = within }

  of_kind : NewestIsOfKind (beginning n bytes) seen
  of_kind = newest_of_kind (beginning n bytes) finishes.full opened over.begins.its_keeper.no_call (alive_at (beginning n bytes) opened) seen ends

  both : of_kind.newest ∷ of_kind.older ≡ record was.commit { is_finished = true } ∷ was.older
  both = sym of_kind.its ∙ was.now

  pub told_finished : IsToldFinished o n bytes seen its
  told_finished = record {
    commit = record was.commit { is_finished = true };
    older = was.older;
    newest = was.now;
    kind = of_kind.kind;
    asked = of_kind.asked;
    is_of_kind = kind_there of_kind.kind of_kind.newest (record was.commit { is_finished = true }) of_kind.older was.older both of_kind.is_of_kind;
    is_sealed = was.is_sealed;
    is_finished = refl;
    number = told_so.0 ∙ sym newest.number;
    points = told_so.1 ∙ sym newest.points;
    fair = taken_fairly o n bytes events (prefix.fair (record { bytes = bytes; opened = o; world = n; events = events }) is_life) was;
  }

pub tells_finish : {K : Type 0} (at : K → World) → PrefixLaw → OfEachTurn at
tells_finish at prefix key seen told turned o n bytes over within its tells = told_finished at prefix key seen told turned o n bytes over within its tells
