-- Beat by beat, whoever makes it.
use Rattle.std.proofs.Common.{◌≡◌, ◌∙◌, ◌≤◌, ◌+◌, ℕ, zero, suc, List, [], ◌∷◌, ◌++◌, Bool, true, false, ap, append_assoc, arith, cond, length, map, refl, replicate, sym, subst, take}
use Rattle.std.specs.Prelude.{⊤, Option, Some, None, filter, slice_get, slice_set}
use Rattle.law_order.specs.Below.fkv_core.Openings.{beginning}
use Rattle.law_order.specs.Below.fkv_core.Worlds.{WorldModel}
use Rattle.law_order.specs.Below.fkv_core.Event as events
use Rattle.law_order.specs.Below.fkv_core.TheTold as tells
use Rattle.fkv_epoch.proofs.Shown.{some_same}
use Rattle.law_order.specs.Below.fkv_opening.TheOpened.{Opened}
use Rattle.fkv_runs.specs.Below.fkv_playing.Beats.{IsBeat}
use Rattle.fkv_base.specs.declared.phases.Phase.{Phase}
use Rattle.fkv_base.specs.declared.phases.Phase.TheVariants as phase
use Rattle.fkv_runs.specs.Below.fkv_playing.Finishes.{IsFinishIn, IsPlayedAlone, calls_of_seat, calls_of_seats, most_rounds, round_of, rounds}
use Rattle.fkv_runs.specs.Below.fkv_playing.Groups.{GroupState, IsBeatOf, IsPick, missing_session, queues_behind}
use Rattle.fkv_runs.specs.Below.fkv_playing.InTurn.{InTurn}
use Rattle.fkv_runs.specs.Below.fkv_playing.Players.{PlayerState}
use Rattle.fkv_runs.specs.Below.fkv_playing.Queues.{AreQueuesOf, QueueState, given_up, held, held_by, is_of, queue_behind, step_of}
use Rattle.fkv_runs.specs.Below.fkv_playing.ActorCall.{ActorCall}
use Rattle.fkv_runs.specs.Below.fkv_playing.ActorCall.TheVariants.{Commit, Session, Trim, Turn}
use Rattle.fkv_runs.specs.Below.fkv_playing.Outcome.{Outcome}
use Rattle.fkv_runs.specs.Below.fkv_playing.Outcome.TheVariants.{Answered, GoesOn}
use Rattle.fkv_runs.specs.Below.fkv_playing.Stage.{Stage}
use Rattle.fkv_runs.specs.Below.fkv_playing.Stage.TheVariants as stage
use Rattle.fkv_runs.specs.Below.fkv_playing.Seats.{SeatState}
use Rattle.fkv_runs.specs.Below.fkv_playing.Texts.{phase_shown}
use Rattle.fkv_runs.specs.Below.fkv_playing.Telling.{Telling}
use Rattle.fkv_runs.specs.Below.fkv_playing.Telling.TheVariants.{Finished, Whole}
use Rattle.law_order.specs.Below.fkv_world.World.{Event, Now}
use Rattle.law_order.specs.Served.Fits.{EventFits}
use Rattle.law_order.specs.Tickets.Few.{calls_in}
use Rattle.law_program.specs.PlayedCalls.EachLine.{IsUnswept, ItsNumbersFit}
use Rattle.law_program.specs.PlayedCalls.FewCalls.{left_in}
use Rattle.law_program.specs.PlayedCalls.Interleaved.{AreAll, AreFitting, FinishesGoOn, FittingCallsMakeQueues, GroupsGoOn, HandIs, IsLifeShown, IsNoTrim, QueuesAre, QueuesFit, QuietLivesAreShown}
use Rattle.law_program.proofs.OfPlayedCalls.EachLine.{taken_few}
use Rattle.law_program.proofs.OfPlayedCalls.FewCalls.{begun_at, event_counted, left_given_up, pick_counted}
use Rattle.law_program.proofs.OfPlayedCalls.Led.{IsEventAt, IsLedTo, LeadsLives, one_on}
use Rattle.law_order.proofs.OfRules.Beginning.{world_opens}

-- ---- calls that are each so
module _ (Is : ActorCall → Type 0) where
  abbrev QueueIs : QueueState → Type 0
  QueueIs queue = HandIs Is queue.hand × AreAll Is queue.left

  pub queue_at : (queues : List QueueState) (at : ℕ) (queue : QueueState) → QueuesAre Is queues → slice_get queues at ≡ Some queue → QueueIs queue
  queue_at [] at queue all got = cc
  queue_at (x ∷ rest) zero queue all got = let same : x ≡ queue = cc in subst QueueIs same all.0
  queue_at (x ∷ rest) (suc at) queue all got = queue_at rest at queue all.1 got

  pub queues_set : (queues : List QueueState) (at : ℕ) (queue : QueueState) → QueuesAre Is queues → QueueIs queue → QueuesAre Is (slice_set queues at queue)
  queues_set [] at queue all its = tt
  queues_set (x ∷ rest) zero queue all its = (its, all.1)
  queues_set (x ∷ rest) (suc at) queue all its = (all.0, queues_set rest at queue all.1 its)

  queues_given_up : (queues : List QueueState) → QueuesAre Is queues → QueuesAre Is (map given_up queues)
  queues_given_up [] all = tt
  queues_given_up (x ∷ rest) all = ((tt, all.0.1), queues_given_up rest all.1)

  pub queues_left : (struck : Bool) (queues : List QueueState) → QueuesAre Is queues → QueuesAre Is (queues_behind struck queues)
  queues_left true queues all = queues_given_up queues all
  queues_left false queues all = all

  pub held_is : (rank : ℕ) (hand : Option ActorCall) (left : List ActorCall) → HandIs Is hand → AreAll Is left → QueueIs (held_by rank hand left)
  held_is rank None [] hand left = (tt, tt)
  held_is rank None (call ∷ later) hand left = (left.0, left.1)
  held_is rank (Some call) left hand all = (hand, all)

  pub behind_is : (outcome : Outcome) (queue : QueueState) → QueueIs queue → QueueIs (queue_behind outcome queue)
  behind_is GoesOn queue all = all
  behind_is other queue all = (tt, all.1)

  pub step_is : (hand : Option ActorCall) (left : List ActorCall) (call : ActorCall) (at : Stage) → HandIs Is hand → AreAll Is left → step_of hand left ≡ Some (call, at) → Is call
  step_is (Some its) left call at hand all e = subst Is (ap (λ (x : ActorCall × Stage). x.0) (some_same (its, stage.Moves) (call, at) e)) hand
  step_is None [] call at hand all e = cc
  step_is None (its ∷ later) call at hand all e = subst Is (ap (λ (x : ActorCall × Stage). x.0) (some_same (its, stage.Begins) (call, at) e)) all.0

  -- ---- the queues of a group
  filter_all : (rank : ℕ) (calls : List ActorCall) → AreAll Is calls → AreAll Is (filter (is_of rank) calls)
  filter_all rank [] all = tt
  filter_all rank (call ∷ later) all = by_test (is_of rank call) (filter_all rank later all.1)
    where
      by_test : (c : Bool) → AreAll Is (filter (is_of rank) later) → AreAll Is (cond c (call ∷ filter (is_of rank) later) (filter (is_of rank) later))
      by_test true rest = (all.0, rest)
      by_test false rest = rest

  queues_by_place : (queues : List QueueState) → ((at : ℕ) (queue : QueueState) → slice_get queues at ≡ Some queue → QueueIs queue) → QueuesAre Is queues
  queues_by_place [] each = tt
  queues_by_place (x ∷ rest) each = (each 0 x refl, queues_by_place rest (λ at queue got. each (suc at) queue got))

  pub queues_all : (calls : List ActorCall) (queues : List QueueState) → AreAll Is calls → AreQueuesOf calls queues → QueuesAre Is queues
  queues_all calls queues all are = queues_by_place queues (λ at queue got.
      (subst (HandIs Is) (sym (are.idle at queue got)) tt, subst (AreAll Is) (sym (are.each at queue got)) (filter_all queue.rank calls all)))

  -- ---- the calls of a finish
  append_all : (xs ys : List ActorCall) → AreAll Is xs → AreAll Is ys → AreAll Is (xs ++ ys)
  append_all [] ys one other = other
  append_all (x ∷ xs) ys one other = (one.0, append_all xs ys one.1 other)

  take_all : (count : ℕ) (calls : List ActorCall) → AreAll Is calls → AreAll Is (take count calls)
  take_all zero calls all = tt
  take_all (suc count) [] all = tt
  take_all (suc count) (x ∷ xs) all = (all.0, take_all count xs all.1)

  rounds_all : (count : ℕ) (round : List ActorCall) → AreAll Is round → AreAll Is (rounds count round)
  rounds_all zero round all = tt
  rounds_all (suc count) round all = append_all (rounds count round) round (rounds_all count round all) all

pub queues_fit : FittingCallsMakeQueues
queues_fit calls queues fit are = queues_all ItsNumbersFit calls queues fit are

-- each call fits, and is no trim if this holds
abbrev pub FitsWhere : Type 0 → ActorCall → Type 0
FitsWhere Q call = ItsNumbersFit call × (Q → IsNoTrim call)

all_where : (Q : Type 0) (calls : List ActorCall) → AreFitting calls → (Q → AreAll IsNoTrim calls) → AreAll (FitsWhere Q) calls
all_where Q [] fit none = tt
all_where Q (call ∷ later) fit none = ((fit.0, λ so. (none so).0), all_where Q later fit.1 (λ so. (none so).1))

hand_where : (Q : Type 0) (hand : Option ActorCall) → HandIs ItsNumbersFit hand → (Q → HandIs IsNoTrim hand) → HandIs (FitsWhere Q) hand
hand_where Q None fit none = tt
hand_where Q (Some call) fit none = (fit, none)

pub queues_where : (Q : Type 0) (queues : List QueueState) → QueuesFit queues → (Q → QueuesAre IsNoTrim queues) → QueuesAre (FitsWhere Q) queues
queues_where Q [] fit none = tt
queues_where Q (x ∷ rest) fit none =
    ((hand_where Q x.hand fit.0.0 (λ so. (none so).0.0), all_where Q x.left fit.0.1 (λ so. (none so).0.1)), queues_where Q rest fit.1 (λ so. (none so).1))

-- and back
all_each : (Is Also : ActorCall → Type 0) → ((call : ActorCall) → Is call → Also call) → (calls : List ActorCall) → AreAll Is calls → AreAll Also calls
all_each Is Also so [] all = tt
all_each Is Also so (call ∷ later) all = (so call all.0, all_each Is Also so later all.1)

hand_each : (Is Also : ActorCall → Type 0) → ((call : ActorCall) → Is call → Also call) → (hand : Option ActorCall) → HandIs Is hand → HandIs Also hand
hand_each Is Also so None is = tt
hand_each Is Also so (Some call) is = so call is

queues_each : (Is Also : ActorCall → Type 0) → ((call : ActorCall) → Is call → Also call) → (queues : List QueueState) → QueuesAre Is queues → QueuesAre Also queues
queues_each Is Also so [] all = tt
queues_each Is Also so (x ∷ rest) all = ((hand_each Is Also so x.hand all.0.0, all_each Is Also so x.left all.0.1), queues_each Is Also so rest all.1)

pub queues_still_fit : (Q : Type 0) (queues : List QueueState) → QueuesAre (FitsWhere Q) queues → QueuesFit queues
queues_still_fit Q = queues_each (FitsWhere Q) ItsNumbersFit (λ call its. its.0)

pub queues_no_trims : (Q : Type 0) (queues : List QueueState) → QueuesAre (FitsWhere Q) queues → Q → QueuesAre IsNoTrim queues
queues_no_trims Q queues all so = queues_each (FitsWhere Q) IsNoTrim (λ call its. its.1 so) queues all

-- ---- the calls of a finish
seat_fits : (Q : Type 0) (number : ℕ) (awake : Bool) → AreAll (FitsWhere Q) (calls_of_seat number awake)
seat_fits Q number true = ((tt, λ so e. cc), ((tt, λ so e. cc), tt))
seat_fits Q number false = tt

seats_fit : (Q : Type 0) (number : ℕ) (seats : List SeatState) → AreAll (FitsWhere Q) (calls_of_seats number seats)
seats_fit Q number [] = tt
seats_fit Q number (seat ∷ later) =
    append_all (FitsWhere Q) (calls_of_seat number seat.is_awake) (calls_of_seats (suc number) later) (seat_fits Q number seat.is_awake) (seats_fit Q (suc number) later)

round_fits : (Q : Type 0) (seats : List SeatState) → AreAll (FitsWhere Q) (round_of seats)
round_fits Q seats = append_all (FitsWhere Q) (calls_of_seats 0 seats) (Turn ∷ []) (seats_fit Q 0 seats) ((tt, λ so e. cc), tt)

pub finish_fits : (Q : Type 0) (count : ℕ) (seats : List SeatState) → AreAll (FitsWhere Q) (take count (rounds most_rounds (round_of seats)))
finish_fits Q count seats = take_all (FitsWhere Q) count (rounds most_rounds (round_of seats)) (rounds_all (FitsWhere Q) most_rounds (round_of seats) (round_fits Q seats))

-- the event of a beat fits where its call does
pub event_fits : (at : Stage) (its : ActorCall) (event : Event) → ItsNumbersFit its → IsEventAt at its event → EventFits event
event_fits stage.Begins (Session number asked) event fit is = subst EventFits (sym is) fit
event_fits stage.Begins (Commit kind) event fit is = subst EventFits (sym is) tt
event_fits stage.Begins Trim event fit is = subst EventFits (sym is) tt
event_fits stage.Begins Turn event fit is = subst EventFits (sym is) tt
event_fits stage.Moves (Session number asked) event fit is = subst EventFits (sym is) tt
event_fits stage.Moves (Commit kind) event fit is = subst EventFits (sym is.2) tt
event_fits stage.Moves Trim event fit is = subst EventFits (sym is.2) tt
event_fits stage.Moves Turn event fit is = subst EventFits (sym is.2) tt

-- ---- a group
module _ {D : Type 0} (seen : D → List ℕ) (may_leave : D → List ℕ → Type 0) (engine : events.Event → WorldModel D → WorldModel D → Option tells.Told → Bool → Type 0) (leads : LeadsLives seen may_leave engine)
    (bytes : List ℕ) (o : Opened) (first : Now) (NoTrims Unswept : Type 0) where
  -- where the calls have no trim, and the life was unswept as they began, it is so still
  abbrev Shown : List Event → PlayerState D → Type 0
  Shown life player = IsLifeShown seen may_leave bytes o first life player × (NoTrims → Unswept → IsUnswept bytes first life player)

  abbrev Fits : ActorCall → Type 0
  Fits call = FitsWhere NoTrims call

  record IsOn (life : List Event) (begun : ℕ) (player : PlayerState D) : Type 0 where
    later : List Event
    since : List Event
    grown : later ≡ since ++ life
    shown : Shown later player
    counted : calls_in later ≤ calls_in life + begun

  still_on : (life : List Event) (player : PlayerState D) → Shown life player → IsOn life 0 player
  still_on life player shown = record { later = life; since = []; grown = refl; shown = shown; counted = omega arith }

  -- no more than so many have begun
  at_most : (life : List Event) (begun most : ℕ) (player : PlayerState D) → begun ≤ most → IsOn life begun player → IsOn life most player
  at_most life begun most player few on = let counted = on.counted in record { later = on.later; since = on.since; grown = on.grown; shown = on.shown; counted = omega (arith, few, counted) }

  joined : (life : List Event) (begun then : ℕ) (between after : PlayerState D) → (one : IsOn life begun between) → IsOn one.later then after → IsOn life (begun + then) after
  joined life begun then between after one other =
      let few = one.counted in
      let fewer = other.counted in
      record {
        later = other.later;
        since = other.since ++ one.since;
        grown = other.grown ∙ (ap (λ (x : List Event). other.since ++ x) one.grown ∙ sym (append_assoc other.since one.since life));
        shown = other.shown;
        counted = omega (arith, few, fewer);
      }

  beat_on : (telling : Telling) (life : List Event) (call : ActorCall) (at : Stage) (before after : PlayerState D) (outcome : Outcome) (text : List ℕ) → Shown life before → Fits call → IsBeat engine telling call at before after outcome text
      → IsOn life (begun_at at) after
  beat_on telling life call at before after outcome text was fit beat =
      let now = was.0 in
      let led : IsLedTo seen may_leave call (beginning first bytes) at life before after =
      one_on seen may_leave engine leads telling call (beginning first bytes) (world_opens o first bytes now.opening) at life before after outcome text (record { shows = now.shows; device = now.device }) beat in
      let shows = led.shows in
      record {
        later = led.event ∷ life;
        since = led.event ∷ [];
        grown = refl;
        shown = (
          record { store = now.store; opening = now.opening; fits = (event_fits at call led.event fit.0 led.is_at, now.fits); shows = shows.shows; device = shows.device; begins = λ none. cc },
          λ none unswept. led.unswept (fit.1 none) (was.1 none unswept),
        );
        counted = event_counted at call led.event life led.is_at;
      }

  beat_of_on : (life : List Event) (call : ActorCall) (at : Stage) (before after : PlayerState D) (outcome : Outcome) (text : List ℕ) (missing : Option ℕ) → Shown life before → Fits call
      → IsBeatOf engine call at before after outcome text missing → IsOn life (begun_at at) after
  beat_of_on life call at before after outcome text (Some number) was fit refused = at_most life 0 (begun_at at) after (omega arith) (still_on life after (subst (Shown life) (sym refused.0) was))
  beat_of_on life call at before after outcome text None was fit beat = beat_on Whole life call at before after outcome text was fit beat

  -- of the calls that stood to begin as many have begun as aren't left
  record GoneOn (life : List Event) (to_begin : ℕ) (state : GroupState D) : Type 0 where
    begun : ℕ
    on : IsOn life begun state.player
    fit : QueuesAre Fits state.queues
    left : begun + left_in state.queues ≡ to_begin

  pick_on : (life : List Event) (at : ℕ) (before after : GroupState D) (struck : Bool) (text : List ℕ) → Shown life before.player → QueuesAre Fits before.queues → IsPick engine at before after struck text → GoneOn life (left_in before.queues) after
  pick_on life at before after struck text was fit pick =
      let its = queue_at Fits before.queues at pick.queue fit pick.stands in
      let counted = pick_counted before.queues at pick.queue pick.call pick.stage pick.outcome pick.stands pick.has_step in
      let queues = ap left_in pick.queues in
      record {
        begun = begun_at pick.stage;
        on = beat_of_on life pick.call pick.stage before.player after.player pick.outcome text (missing_session before.player.seats pick.call) was
            (step_is Fits pick.queue.hand pick.queue.left pick.call pick.stage its.0 its.1 pick.has_step) pick.beat;
        fit = subst (QueuesAre Fits) (sym pick.queues)
            (queues_set Fits before.queues at (queue_behind pick.outcome (held pick.queue)) fit (behind_is Fits pick.outcome (held pick.queue) (held_is Fits pick.queue.rank pick.queue.hand pick.queue.left its.0 its.1)));
        left = omega (arith, counted, queues);
      }

  picks_on : (picks : List ℕ) (life : List Event) (before after : GroupState D) (struck : Bool) (text : List ℕ) → Shown life before.player → QueuesAre Fits before.queues → InTurn (IsPick engine) false picks before after struck text → GoneOn life (left_in before.queues) after
  picks_on [] life before after struck text was fit played = record {
    begun = 0;
    on = still_on life after.player (subst (λ (x : GroupState D). Shown life x.player) (sym played.0) was);
    fit = subst (λ (x : GroupState D). QueuesAre Fits x.queues) (sym played.0) fit;
    left = (let same = ap (λ (x : GroupState D). left_in x.queues) played.0 in omega (arith, same));
  }
  picks_on (at ∷ []) life before after struck text was fit played = pick_on life at before after struck text was fit played
  picks_on (at ∷ next ∷ later) life before after struck text was fit played =
      let one : GoneOn life (left_in before.queues) played.0 = pick_on life at before played.0 false played.1 was fit played.3 in
      let on = one.on in
      let rest : GoneOn on.later (left_in played.0.queues) after = picks_on (next ∷ later) on.later played.0 after struck played.2 on.shown one.fit played.4 in
      let between = played.0 in
      let left = one.left in
      let fewer = rest.left in
      record { begun = one.begun + rest.begun; on = joined life one.begun rest.begun between.player after.player on rest.on; fit = rest.fit; left = omega (arith, left, fewer) }

  -- ---- a finish
  beats_gone : (telling : Telling) (count : ℕ) (life : List Event) (call : ActorCall) (at : Stage) (before after : PlayerState D) (outcome : Outcome) (text : List ℕ) → Shown life before → Fits call
      → InTurn (IsBeat engine telling call) GoesOn (at ∷ replicate count stage.Moves) before after outcome text → IsOn life (begun_at at) after
  beats_gone telling zero life call at before after outcome text was fit beat = beat_on telling life call at before after outcome text was fit beat
  beats_gone telling (suc count) life call at before after outcome text was fit beats =
      let one : IsOn life (begun_at at) beats.0 = beat_on telling life call at before beats.0 GoesOn beats.1 was fit beats.3 in
      at_most life (begun_at at + 0) (begun_at at) after (omega arith) (joined life (begun_at at) 0 beats.0 after one (beats_gone telling count one.later call stage.Moves beats.0 after outcome beats.2 one.shown fit beats.4))

  calls_gone : (calls : List ActorCall) (life : List Event) (before after : PlayerState D) (outcome : Outcome) (text : List ℕ) → Shown life before → AreAll Fits calls → InTurn (IsPlayedAlone engine Finished) Answered calls before after outcome text
      → IsOn life (length calls) after
  calls_gone [] life before after outcome text was fit played = still_on life after (subst (Shown life) (sym played.0) was)
  calls_gone (call ∷ []) life before after outcome text was fit played = beats_gone Finished played.moves life call stage.Begins before after outcome text was fit.0 played.beats
  calls_gone (call ∷ next ∷ later) life before after outcome text was fit played =
      let first_one = played.3 in
      let one : IsOn life 1 played.0 = beats_gone Finished first_one.moves life call stage.Begins before played.0 Answered played.1 was fit.0 first_one.beats in
      at_most life (1 + length (next ∷ later)) (length (call ∷ next ∷ later)) after (omega arith) (joined life 1 (length (next ∷ later)) played.0 after one (calls_gone (next ∷ later) one.later played.0 after outcome played.2 one.shown fit.1 played.4))

  finish_gone : (its : Phase) (life : List Event) (before after : PlayerState D) (outcome : Outcome) (text : List ℕ) → Shown life before → IsFinishIn engine its before after outcome text → IsOn life (length (rounds most_rounds (round_of before.seats))) after
  finish_gone phase.Rest life before after outcome text was finish =
      at_most life 0 (length (rounds most_rounds (round_of before.seats))) after (omega arith) (still_on life after (subst (Shown life) (sym finish.0) was))
  finish_gone other life before after outcome text was finish =
      at_most life (length (take finish.count (rounds most_rounds (round_of before.seats)))) (length (rounds most_rounds (round_of before.seats))) after (taken_few finish.count (rounds most_rounds (round_of before.seats)))
      (calls_gone (take finish.count (rounds most_rounds (round_of before.seats))) life before after outcome finish.said was
      (finish_fits NoTrims finish.count before.seats) finish.calls)

pub finishes_go_on : {D : Type 0} (seen : D → List ℕ) (may_leave : D → List ℕ → Type 0) (engine : events.Event → WorldModel D → WorldModel D → Option tells.Told → Bool → Type 0) → LeadsLives seen may_leave engine → FinishesGoOn seen may_leave engine
finishes_go_on seen may_leave engine leads bytes o first life before after outcome text was finish =
    let on =
    finish_gone seen may_leave engine leads bytes o first ⊤ (IsUnswept bytes first life before) (phase_shown before.world.now).0 life before after outcome text
    (was, λ none unswept. unswept) finish in
    let counted = on.counted in
    record {
      later = on.later;
      since = on.since;
      grown = on.grown;
      shown = on.shown.0;
      fit = tt;
      counted = omega (arith, counted);
      no_trims = λ none. tt;
      unswept = λ none. on.shown.1 tt;
    }

pub groups_go_on : {D : Type 0} (seen : D → List ℕ) (may_leave : D → List ℕ → Type 0) (engine : events.Event → WorldModel D → WorldModel D → Option tells.Told → Bool → Type 0) → LeadsLives seen may_leave engine → GroupsGoOn seen may_leave engine
groups_go_on seen may_leave engine leads bytes o first life before after queues left struck text was fit group =
    let gone =
    picks_on seen may_leave engine leads bytes o first (QueuesAre IsNoTrim queues) (IsUnswept bytes first life before) group.picks life (record { player = before; queues = queues }) (record { player = after; queues = group.last }) struck text
    (was, λ none unswept. unswept) (queues_where (QueuesAre IsNoTrim queues) queues fit (λ none. none)) group.played in
    let on = gone.on in
    let counted = on.counted in
    let fewer = gone.left in
    let behind = ap left_in group.queues in
    let given_up = left_given_up struck group.last in
    record {
      later = on.later;
      since = on.since;
      grown = on.grown;
      shown = on.shown.0;
      fit = subst QueuesFit (sym group.queues) (queues_left ItsNumbersFit struck group.last (queues_still_fit (QueuesAre IsNoTrim queues) group.last gone.fit));
      counted = omega (arith, counted, fewer, behind, given_up);
      no_trims = λ none. subst (QueuesAre IsNoTrim) (sym group.queues) (queues_left IsNoTrim struck group.last (queues_no_trims (QueuesAre IsNoTrim queues) group.last gone.fit none));
      unswept = on.shown.1;
    }

pub quiet_shown : {D : Type 0} (seen : D → List ℕ) (may_leave : D → List ℕ → Type 0) → QuietLivesAreShown seen may_leave
quiet_shown seen may_leave bytes o first life player over =
    let quiet = over.quiet in
    (record { store = quiet.store; opening = quiet.opening; fits = quiet.fits; shows = quiet.shows; device = over.device; begins = over.begins }, quiet.few)
