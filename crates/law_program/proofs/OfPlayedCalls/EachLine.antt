-- A life goes on by each line of a call, and by each finish.
use Rattle.std.proofs.Common.{◌≡◌, ◌≢◌, ◌∙◌, ◌⊎◌, ◌+◌, ◌-◌, ◌^◌, ◌<◌, ◌≤◌, ℕ, zero, suc, List, [], ◌∷◌, ◌++◌, Bool, true, false, ap, append_assoc, arith, inl, inr, length, refl, replicate, sym, subst, take}
use Rattle.std.specs.Prelude.{Option, Some, None, nat_lt, ⊤}
use Rattle.std.proofs.lemmas.List.{append-nil}
use Rattle.fkv_base.specs.declared.faults.Fault.TheVariants.{NoSession}
use Rattle.fkv_base.specs.declared.phases.Phase.{Phase}
use Rattle.fkv_base.specs.declared.phases.Phase.TheVariants as phase
use Rattle.law_order.specs.Below.fkv_core.Openings.{beginning}
use Rattle.law_order.specs.Below.fkv_core.Unswept.{UnsweptLivesKeepBegin}
use Rattle.law_order.specs.Below.fkv_core.Worlds.{WorldModel}
use Rattle.law_order.specs.Below.fkv_core.Event as events
use Rattle.law_order.specs.Below.fkv_core.TheTold as tells
use Rattle.fkv_epoch.proofs.Shown.{none_some}
use Rattle.fkv_map.specs.declared.operations.Call.{Call}
use Rattle.fkv_map.specs.declared.operations.Call.TheVariants as call
use Rattle.law_order.specs.Below.fkv_opening.TheOpened.{Opened}
use Rattle.fkv_runs.specs.Below.fkv_playing.Beats.{IsBeat, seats_behind}
use Rattle.fkv_runs.specs.Below.fkv_playing.Finishes.{AreRounds, IsFinishIn, IsPlayedAlone, behind_rounds, calls_of_seat, calls_of_seats, most_rounds, round_of, rounds}
use Rattle.fkv_runs.specs.Below.fkv_playing.Groups.{is_struck_by, missing_session}
use Rattle.fkv_runs.specs.Below.fkv_playing.InTurn.{InTurn}
use Rattle.fkv_runs.specs.Below.fkv_playing.Players.{PlayerState}
use Rattle.fkv_runs.specs.Below.fkv_playing.Seats.{SeatState}
use Rattle.fkv_runs.specs.Below.fkv_playing.Texts.{phase_shown}
use Rattle.fkv_runs.specs.Below.fkv_playing.ActorCall.{ActorCall}
use Rattle.fkv_runs.specs.Below.fkv_playing.ActorCall.TheVariants.{Session, Commit, Trim, Turn}
use Rattle.fkv_runs.specs.Below.fkv_playing.Outcome.{Outcome}
use Rattle.fkv_runs.specs.Below.fkv_playing.Outcome.TheVariants.{Answered, Closed, GoesOn, Struck}
use Rattle.fkv_runs.specs.Below.fkv_playing.Stage.TheVariants as stage
use Rattle.fkv_runs.specs.Below.fkv_playing.Telling.{Telling}
use Rattle.fkv_runs.specs.Below.fkv_playing.Telling.TheVariants.{Finished, Whole}
use Rattle.fkv_texts.specs.Keeper.{nothing_to_finish}
use Rattle.fkv_texts.specs.Refusals.{session_refusal}
use Rattle.law_order.specs.Below.fkv_world.Opened.{IsOpenedWorld}
use Rattle.law_order.specs.Below.fkv_world.Runs.{World, run}
use Rattle.law_order.specs.Below.fkv_world.World.{Calls, Event, Moves, Now}
use Rattle.law_order.specs.OneHistory.EachLife.{InEachLife, IsLife}
use Rattle.law_order.specs.Prefix.Law.{TellsFinished}
use Rattle.law_order.specs.Rules.InTime.{ReadsInTime}
use Rattle.law_order.specs.Rules.Waiting.{WaitingReadsInTime}
use Rattle.law_order.specs.Rules.Ordered.{HasLegalHistory, OrdersItsCalls, ReadsFreshly}
use Rattle.law_order.specs.Served.Fits.{CallFits, CallsFit}
use Rattle.law_order.specs.Tickets.Few.{HasFewCalls, calls_in}
use Rattle.law_order.proofs.OfRules.Beginning.{world_opens}
use Rattle.law_program.specs.PlayedCalls.EachLine.{AreMovesOf, ArePlayedInLife, CallsGoOn, FinishesGoOn, IsEndOfFinish, IsFinishCutShort, IsFinishInLife, IsKeeperAnswered, IsLifeOver, IsLineInLife, IsPlayedInLife, IsRefusedLine, IsToldInLife, IsUnswept, ItsNumbersFit, StruckCallsSayNothing, StruckFinishesEnd, begun_by}
use Rattle.law_program.specs.PlayedCalls.Finished.{IsCallAnswered}
use Rattle.law_program.specs.PlayedCalls.PlayedCalls.{called_alone}
use Rattle.law_program.specs.PlayedCalls.Waiting.{SeatsKeepKeys}
use Rattle.law_program.specs.WholeCalls.Laws.{AnswersWholeCalls}
use Rattle.law_program.proofs.OfPlayedCalls.Beats.{EndsCall, HasEnded, beats_end}
use Rattle.law_program.proofs.OfPlayedCalls.InLife.{calls_few, calls_fit}
use Rattle.law_program.proofs.OfPlayedCalls.Keeper.{map_stays, nobody_still, seats_still}
use Rattle.law_program.proofs.OfPlayedCalls.FinishedCommits.{finishes_what_is_told}
use Rattle.law_program.proofs.OfPlayedCalls.Led.{IsKeepers, IsLedBy, IsOneAnswer, LeadsLives, ShowsBoth, SweepsNothing, alike, struck_alone, told_last}
use Rattle.law_program.proofs.OfPlayedCalls.OneCall.{HasOneCall, first_call, played_out, refused_out, struck_silent}
use Rattle.law_program.proofs.OfPlayedCalls.Polled.{IsTraced, traced, updates_answered}
use Rattle.law_program.proofs.OfPlayedCalls.PolledReads.{reads_answered}
use Rattle.law_program.proofs.OfPlayedCalls.Replies.{at_rest_behind, missing_number, op_answered}
use Rattle.law_program.proofs.OfPlayedCalls.Steps.{GoesByRules}
use Rattle.law_program.proofs.OfPlayedCalls.Unswept.{call_unswept}
use Rattle.law_program.proofs.OfPlayedCalls.Waiting.{seats_kept}
use Rattle.law_order.specs.Below.law_refine.Results.Results.{NobodyCalls}

-- ---- the events of a call
session_moves : (number count : ℕ) (asked : Call) → AreMovesOf (Session number asked) (replicate count (Moves number))
session_moves number zero asked = tt
session_moves number (suc count) asked = (refl, session_moves number count asked)

-- those of the keeper are no calls of sessions, whatever their numbers
keeper_fits : (its : ActorCall) (moves life : List Event) → IsKeepers its → AreMovesOf its moves → CallsFit life → CallsFit (moves ++ begun_by its ∷ life)
keeper_fits (Session number asked) moves life keeper are fits = absurd keeper
keeper_fits (Commit kind) [] life keeper are fits = (tt, fits)
keeper_fits Trim [] life keeper are fits = (tt, fits)
keeper_fits Turn [] life keeper are fits = (tt, fits)
keeper_fits (Commit kind) (event ∷ moves) life keeper are fits = subst (λ (x : Event). CallsFit (x ∷ (moves ++ begun_by (Commit kind) ∷ life))) (sym are.0.2) (tt, keeper_fits (Commit kind) moves life keeper are.1 fits)
keeper_fits Trim (event ∷ moves) life keeper are fits = subst (λ (x : Event). CallsFit (x ∷ (moves ++ begun_by Trim ∷ life))) (sym are.0.2) (tt, keeper_fits Trim moves life keeper are.1 fits)
keeper_fits Turn (event ∷ moves) life keeper are fits = subst (λ (x : Event). CallsFit (x ∷ (moves ++ begun_by Turn ∷ life))) (sym are.0.2) (tt, keeper_fits Turn moves life keeper are.1 fits)

-- how many calls of sessions there are behind a call
pub calls_counted : (its : ActorCall) (moves life : List Event) → AreMovesOf its moves → calls_in (moves ++ begun_by its ∷ life) ≡ calls_in (begun_by its ∷ life)
calls_counted its [] life are = refl
calls_counted (Session number asked) (event ∷ moves) life are =
    ap (λ (x : Event). calls_in (x ∷ (moves ++ begun_by (Session number asked) ∷ life))) are.0 ∙ calls_counted (Session number asked) moves life are.1
calls_counted (Commit kind) (event ∷ moves) life are = ap (λ (x : Event). calls_in (x ∷ (moves ++ begun_by (Commit kind) ∷ life))) are.0.2 ∙ calls_counted (Commit kind) moves life are.1
calls_counted Trim (event ∷ moves) life are = ap (λ (x : Event). calls_in (x ∷ (moves ++ begun_by Trim ∷ life))) are.0.2 ∙ calls_counted Trim moves life are.1
calls_counted Turn (event ∷ moves) life are = ap (λ (x : Event). calls_in (x ∷ (moves ++ begun_by Turn ∷ life))) are.0.2 ∙ calls_counted Turn moves life are.1

-- no more than one
pub begun_counted : (its : ActorCall) (life : List Event) → calls_in (begun_by its ∷ life) ≤ suc (calls_in life)
begun_counted (Session number asked) life = omega arith
begun_counted (Commit kind) life = omega arith
begun_counted Trim life = omega arith
begun_counted Turn life = omega arith

-- behind one a life isn't empty
pub begun_not_empty : (moves life : List Event) (event : Event) → moves ++ event ∷ life ≢ []
begun_not_empty [] life event = λ e. cc
begun_not_empty (x ∷ moves) life event = λ e. cc

-- ---- the calls of a finish
-- their numbers fit in words, and none is a trim
abbrev AreFit : List ActorCall → Type 0
AreFit [] = ⊤
AreFit (its ∷ later) = ItsNumbersFit its × (its ≢ Trim) × AreFit later

fit_both : (calls later : List ActorCall) → AreFit calls → AreFit later → AreFit (calls ++ later)
fit_both [] later fit behind = behind
fit_both (its ∷ calls) later fit behind = (fit.0, fit.1, fit_both calls later fit.2 behind)

fit_taken : (count : ℕ) (calls : List ActorCall) → AreFit calls → AreFit (take count calls)
fit_taken zero calls fit = tt
fit_taken (suc count) [] fit = tt
fit_taken (suc count) (its ∷ calls) fit = (fit.0, fit.1, fit_taken count calls fit.2)

fit_seat : (number : ℕ) (is_awake : Bool) → AreFit (calls_of_seat number is_awake)
fit_seat number true = (tt, (λ e. cc), (tt, (λ e. cc), tt))
fit_seat number false = tt

fit_seats : (number : ℕ) (seats : List SeatState) → AreFit (calls_of_seats number seats)
fit_seats number [] = tt
fit_seats number (seat ∷ later) = fit_both (calls_of_seat number seat.is_awake) (calls_of_seats (suc number) later) (fit_seat number seat.is_awake) (fit_seats (suc number) later)

fit_round : (seats : List SeatState) → AreFit (round_of seats)
fit_round seats = fit_both (calls_of_seats 0 seats) (Turn ∷ []) (fit_seats 0 seats) (tt, (λ e. cc), tt)

fit_rounds : (count : ℕ) (round : List ActorCall) → AreFit round → AreFit (rounds count round)
fit_rounds zero round fit = tt
fit_rounds (suc count) round fit = fit_both (rounds count round) round (fit_rounds count round fit) fit

pub taken_few : (count : ℕ) (calls : List ActorCall) → length (take count calls) ≤ length calls
taken_few zero calls = omega arith
taken_few (suc count) [] = omega arith
taken_few (suc count) (its ∷ calls) = let rest = taken_few count calls in omega (arith, rest)

taken_parts : (count : ℕ) (calls : List ActorCall) → (behind : List ActorCall) × (calls ≡ take count calls ++ behind)
taken_parts zero calls = (calls, refl)
taken_parts (suc count) [] = ([], refl)
taken_parts (suc count) (its ∷ calls) = let rest = taken_parts count calls in (rest.0, ap (λ (x : List ActorCall). its ∷ x) rest.1)

-- where a crash strikes it says nothing behind them
none_behind : (outcome : Outcome) → true ≡ is_struck_by outcome → behind_rounds outcome ≡ []
none_behind Struck struck = refl
none_behind GoesOn struck = cc
none_behind Answered struck = cc
none_behind Closed struck = cc

-- what it says behind them
ends_so : (outcome : Outcome) → IsEndOfFinish (behind_rounds outcome)
ends_so Answered = inr (inl refl)
ends_so other = inl refl

-- ---- a call that is played alone
module _ {D : Type 0} (legal : InEachLife HasLegalHistory) (ordered : InEachLife OrdersItsCalls) (fresh : InEachLife ReadsFreshly) (waiting : InEachLife WaitingReadsInTime) (in_time : InEachLife ReadsInTime) (unswept : UnsweptLivesKeepBegin) (whole : AnswersWholeCalls) (tells_finished : InEachLife TellsFinished) (seen : D → List ℕ) (may_leave : D → List ℕ → Type 0)
    (engine : events.Event → WorldModel D → WorldModel D → Option tells.Told → Bool → Type 0) (rules : GoesByRules engine) (leads : LeadsLives seen may_leave engine) where
  -- what is printed, and where the life goes
  pub record IsPlayed (telling : Telling) (its : ActorCall) (bytes : List ℕ) (o : Opened) (first : Now) (life : List Event) (before after : PlayerState D) (text : List ℕ) : Type 0 where
    pub later : List Event
    pub played : IsPlayedInLife seen may_leave telling its bytes o first life later before after text
    pub few : calls_in later ≡ calls_in (begun_by its ∷ life)

  shows_first : (bytes : List ℕ) (o : Opened) (first : Now) (life : List Event) (before : PlayerState D) → IsLifeOver seen may_leave bytes o first life before → ShowsBoth seen may_leave (beginning first bytes) life before.world
  shows_first bytes o first life before over = record { shows = over.quiet.shows; device = over.device }

  -- of a session
  call_answered : (telling : Telling) (number count : ℕ) (asked : Call) (bytes : List ℕ) (o : Opened) (first : Now) (life : List Event) (before after : PlayerState D) (text : List ℕ) → IsLifeOver seen may_leave bytes o first life before
      → CallFits asked → HasFewCalls (Calls number asked ∷ life) → (ends : EndsCall telling number asked before.seats (beginning first bytes) (called_alone number count asked life) after text)
      → IsTraced bytes first life number count asked ends.answered.its ends.answered.s.finished → IsCallAnswered bytes o first life (called_alone number count asked life) number before.seats ends.said
  call_answered telling number count asked bytes o first life before after text over fits few ends at =
      let answered = ends.answered in
      let is_life : IsLife (record { bytes = bytes; opened = o; world = first; events = called_alone number count asked life })
      = record { store = over.quiet.store; begins = over.quiet.opening; fits = calls_fit number count asked life fits over.quiet.fits; few = calls_few number count asked life few } in
      let opened : IsOpenedWorld (beginning first bytes) = world_opens o first bytes over.quiet.opening in
      record {
        answer = answered.answer;
        same = answered.same;
        updates = updates_answered legal ordered number count asked bytes o first life answered.its answered.s.finished answered.answer at is_life answered.is_told;
        reads = reads_answered fresh waiting in_time bytes o first life number count asked answered.its answered.s.finished at is_life unswept opened before.seats answered.answer answered.is_told over.keeps;
      }

  told_in_life : (telling : Telling) (number count : ℕ) (asked : Call) (bytes : List ℕ) (o : Opened) (first : Now) (life : List Event) (before after : PlayerState D) (text : List ℕ) → IsLifeOver seen may_leave bytes o first life before
      → CallFits asked → HasFewCalls (Calls number asked ∷ life) → (ends : EndsCall telling number asked before.seats (beginning first bytes) (called_alone number count asked life) after text)
      → IsTraced bytes first life number count asked ends.answered.its ends.answered.s.finished → IsToldInLife bytes o first life (called_alone number count asked life) before.seats (Session number asked) ends.said
  told_in_life telling number count (call.Op op) bytes o first life before after text over fits few ends at =
      op_answered legal ordered fresh whole telling number count op bytes o first life before after text over.quiet over.rests fits few ends
  told_in_life telling number count asked bytes o first life before after text over fits few ends at = call_answered telling number count asked bytes o first life before after text over fits few ends at

  -- the seats behind it
  keeps_behind : (telling : Telling) (number count : ℕ) (asked : Call) (bytes : List ℕ) (o : Opened) (first : Now) (life : List Event) (before after : PlayerState D) (text : List ℕ) → IsLifeOver seen may_leave bytes o first life before
      → (ends : EndsCall telling number asked before.seats (beginning first bytes) (called_alone number count asked life) after text)
      → IsTraced bytes first life number count asked ends.answered.its ends.answered.s.finished → SeatsKeepKeys bytes first (called_alone number count asked life) after.seats
  keeps_behind telling number count asked bytes o first life before after text over ends at =
      let answered = ends.answered in
      subst (SeatsKeepKeys bytes first (called_alone number count asked life)) (sym (ends.seats ∙ ap (λ (x : tells.Told). seats_behind asked before.seats (Some x)) answered.same))
      (seats_kept bytes first life number count asked answered.answer before.seats answered.its answered.s.finished at answered.is_told over.keeps)

  -- the device is shown behind the same events
  session_shows : (number count : ℕ) (asked : Call) (opening : World) (life : List Event) (after : WorldModel D) → IsLedBy seen may_leave (Session number asked) opening stage.Begins count life after
      → ShowsBoth seen may_leave opening (called_alone number count asked life) after
  session_shows number count asked opening life after led =
      let moves : led.moves ≡ replicate count (Moves number) = alike number asked led.moves led.are_moves ∙ ap (λ (x : ℕ). replicate x (Moves number)) led.many in
      subst (λ (x : List Event). ShowsBoth seen may_leave opening (x ++ Calls number asked ∷ life) after) moves
      (subst (λ (x : Event). ShowsBoth seen may_leave opening (led.moves ++ x ∷ life) after) led.is_at led.shows)

  session_played : (telling : Telling) (number count : ℕ) (asked : Call) (bytes : List ℕ) (o : Opened) (first : Now) (life : List Event) (before after : PlayerState D) (outcome : Outcome) (text : List ℕ)
      → IsLifeOver seen may_leave bytes o first life before → CallFits asked → HasFewCalls (Calls number asked ∷ life) → HasEnded outcome
      → InTurn (IsBeat engine telling (Session number asked)) GoesOn (stage.Begins ∷ replicate count stage.Moves) before after outcome text
      → IsPlayed telling (Session number asked) bytes o first life before after text
  session_played telling number count asked bytes o first life before after outcome text over fits few ended beats =
      let opening : World = beginning first bytes in
      let ends : EndsCall telling number asked before.seats opening (called_alone number count asked life) after text
      = beats_end engine rules telling number asked opening stage.Begins count life before after outcome text over.quiet.shows ended beats in
      let at : IsTraced bytes first life number count asked ends.answered.its ends.answered.s.finished = traced telling number count asked bytes o first life before after text over.quiet over.rests ends in
      let behind = at_rest_behind telling number count asked bytes o first life before after text over.quiet over.rests fits few ends in
      let opened : IsOpenedWorld opening = world_opens o first bytes over.quiet.opening in
      let last = told_last seen may_leave engine leads telling (Session number asked) opening opened stage.Begins count life before after outcome text
      (shows_first bytes o first life before over) ended beats in
      record {
        later = called_alone number count asked life;
        played = record {
          said = ends.said;
          says = ends.says;
          alone = record { moves = replicate count (Moves number); are_moves = session_moves number count asked; so = refl };
          told = told_in_life telling number count asked bytes o first life before after text over fits few ends at;
          goes_on = record {
            quiet = behind.goes_on;
            device = (session_shows number count asked opening life after.world last.led).device;
            rests = behind.rests;
            keeps = keeps_behind telling number count asked bytes o first life before after text over ends at;
            begins = λ none. absurd (begun_not_empty (replicate count (Moves number)) life (Calls number asked) none);
          };
          unswept = λ plain swept. (call_unswept opening number count asked life opened swept.0, (last.unswept plain swept).1);
        };
        few = calls_counted (Session number asked) (replicate count (Moves number)) life (session_moves number count asked);
      }

  -- of the keeper
  keeper_told_in_life : (bytes : List ℕ) (o : Opened) (first : Now) (life later : List Event) (seats : List SeatState) (its : ActorCall) (said : tells.Told) → IsKeepers its
      → IsKeeperAnswered bytes o first life later said → IsToldInLife bytes o first life later seats its said
  keeper_told_in_life bytes o first life later seats (Session number asked) said keeper answered = absurd keeper
  keeper_told_in_life bytes o first life later seats (Commit kind) said keeper answered = answered
  keeper_told_in_life bytes o first life later seats Trim said keeper answered = answered
  keeper_told_in_life bytes o first life later seats Turn said keeper answered = answered

  keeper_played : (telling : Telling) (its : ActorCall) (count : ℕ) (bytes : List ℕ) (o : Opened) (first : Now) (life : List Event) (before after : PlayerState D) (outcome : Outcome) (text : List ℕ) → IsKeepers its
      → IsLifeOver seen may_leave bytes o first life before → HasFewCalls (begun_by its ∷ life) → HasEnded outcome
      → InTurn (IsBeat engine telling its) GoesOn (stage.Begins ∷ replicate count stage.Moves) before after outcome text
      → IsPlayed telling its bytes o first life before after text
  keeper_played telling its count bytes o first life before after outcome text keeper over few ended beats =
      let opening : World = beginning first bytes in
      let told = told_last seen may_leave engine leads telling its opening (world_opens o first bytes over.quiet.opening) stage.Begins count life before after outcome text (shows_first bytes o first life before over) ended beats in
      let led = told.led in
      let later : List Event = led.moves ++ begun_by its ∷ life in
      let shown : ShowsBoth seen may_leave opening later after.world = subst (λ (x : Event). ShowsBoth seen may_leave opening (led.moves ++ x ∷ life) after.world) led.is_at led.shows in
      let here : NobodyCalls (run opening life).now = subst NobodyCalls (sym over.quiet.shows) over.rests in
      let many = calls_counted its led.moves life led.are_moves in
      let is_life : IsLife (record { bytes = bytes; opened = o; world = first; events = later })
      = record {
        store = over.quiet.store;
        begins = over.quiet.opening;
        fits = keeper_fits its led.moves life keeper led.are_moves over.quiet.fits;
        few = subst (λ (x : ℕ). x < 2 ^ 64 - 1) (sym many) few;
      } in
      let was_life : IsLife (record { bytes = bytes; opened = o; world = first; events = life }) = record { store = over.quiet.store; begins = over.quiet.opening; fits = over.quiet.fits; few = over.quiet.few } in
      let one : IsOneAnswer opening life later told.said = subst (λ (x : Event). IsOneAnswer opening life (led.moves ++ x ∷ life) told.said) led.is_at told.one in
      record {
        later = later;
        played = record {
          said = told.said;
          says = told.says;
          alone = record { moves = led.moves; are_moves = led.are_moves; so = refl };
          told = keeper_told_in_life bytes o first life later before.seats its told.said keeper (record {
            by_keeper = told.by_keeper keeper;
            map = map_stays bytes o first its keeper led.moves life led.are_moves;
            finished = finishes_what_is_told tells_finished bytes o first life later was_life is_life told.said one;
          });
          goes_on = record {
            quiet = record {
              store = over.quiet.store;
              opening = over.quiet.opening;
              fits = is_life.fits;
              few = is_life.few;
              shows = shown.shows;
            };
            device = shown.device;
            rests = subst NobodyCalls shown.shows (nobody_still opening its keeper led.moves life led.are_moves here);
            keeps = subst (SeatsKeepKeys bytes first later) (sym (told.seats keeper)) (seats_still bytes first its keeper led.moves life led.are_moves before.seats over.keeps);
            begins = λ none. absurd (begun_not_empty led.moves life (begun_by its) none);
          };
          unswept = λ plain swept. subst (λ (x : Event). SweepsNothing opening (led.moves ++ x ∷ life) after) led.is_at (told.unswept plain swept);
        };
        few = many;
      }

  pub played : (telling : Telling) (its : ActorCall) (count : ℕ) (bytes : List ℕ) (o : Opened) (first : Now) (life : List Event) (before after : PlayerState D) (outcome : Outcome) (text : List ℕ)
      → IsLifeOver seen may_leave bytes o first life before → ItsNumbersFit its → HasFewCalls (begun_by its ∷ life) → HasEnded outcome
      → InTurn (IsBeat engine telling its) GoesOn (stage.Begins ∷ replicate count stage.Moves) before after outcome text
      → IsPlayed telling its bytes o first life before after text
  played telling (Session number asked) count bytes o first life before after outcome text over fits few ended beats =
      session_played telling number count asked bytes o first life before after outcome text over fits few ended beats
  played telling (Commit kind) count bytes o first life before after outcome text over fits few ended beats =
      keeper_played telling (Commit kind) count bytes o first life before after outcome text tt over few ended beats
  played telling Trim count bytes o first life before after outcome text over fits few ended beats =
      keeper_played telling Trim count bytes o first life before after outcome text tt over few ended beats
  played telling Turn count bytes o first life before after outcome text over fits few ended beats =
      keeper_played telling Turn count bytes o first life before after outcome text tt over few ended beats

  -- ---- a line
  refused_line : (its : ActorCall) (number : ℕ) (before after : PlayerState D) (text : List ℕ) → missing_session before.seats its ≡ Some number → (after ≡ before) × (text ≡ session_refusal number NoSession) → IsRefusedLine its before after text
  refused_line (Session number asked) its before after text missing refused =
      (refused.0, refused.1 ∙ ap (λ (x : ℕ). session_refusal x NoSession) (sym (missing_number number its (nat_lt number (length before.seats)) missing)))
  refused_line (Commit kind) its before after text missing refused = none_some its missing
  refused_line Trim its before after text missing refused = none_some its missing
  refused_line Turn its before after text missing refused = none_some its missing

  pub calls_go_on : CallsGoOn seen may_leave engine
  calls_go_on bytes o first life its queues left before after text over fits few are group = by_seat (missing_session before.seats its) refl
    where
      one : (place : ℕ) × HasOneCall stage.Begins its place queues
      one = first_call its queues are

      by_seat : (missing : Option ℕ) → missing_session before.seats its ≡ missing → IsRefusedLine its before after text ⊎ IsLineInLife seen may_leave its bytes o first life before after text
      by_seat None there =
          let out = played_out engine its group.picks stage.Begins one.0 (record { player = before; queues = queues }) (record { player = after; queues = group.last }) text one.1 there (group.over refl) group.played in
          let line = played Whole its out.moves bytes o first life before after out.outcome text over fits few out.ended out.beats in
          inr (record { later = line.later; played = line.played })
      by_seat (Some number) missing =
          let out = refused_out engine its group.picks one.0 number (record { player = before; queues = queues }) (record { player = after; queues = group.last }) text one.1 missing (group.over refl) group.played in
          inl (refused_line its number before after text missing out)

  -- one in which a crash strikes prints nothing
  pub struck_says_nothing : StruckCallsSayNothing seen may_leave engine
  struck_says_nothing its queues left before after text are group =
      let one = first_call its queues are in
      (struck_silent engine its group.picks stage.Begins one.0 (record { player = before; queues = queues }) (record { player = after; queues = group.last }) text one.1 group.played).silent

  -- ---- a finish
  -- where the life goes by these calls, one behind the other
  record GoesOnByAll (calls : List ActorCall) (bytes : List ℕ) (o : Opened) (first : Now) (life : List Event) (before after : PlayerState D) (text : List ℕ) : Type 0 where
    later : List Event
    all : ArePlayedInLife seen may_leave Finished calls bytes o first life later before after text
    over : IsLifeOver seen may_leave bytes o first later after
    stays : IsUnswept bytes first life before → IsUnswept bytes first later after

  one_alone : (its : ActorCall) (bytes : List ℕ) (o : Opened) (first : Now) (life : List Event) (before after : PlayerState D) (outcome : Outcome) (text : List ℕ) → IsLifeOver seen may_leave bytes o first life before → ItsNumbersFit its
      → HasFewCalls (begun_by its ∷ life) → is_struck_by outcome ≡ false → IsPlayedAlone engine Finished its before after outcome text → IsPlayed Finished its bytes o first life before after text
  one_alone its bytes o first life before after outcome text over fits few calm alone = played Finished its alone.moves bytes o first life before after outcome text over fits few (alone.over, calm) alone.beats

  all_alone : (calls : List ActorCall) (bytes : List ℕ) (o : Opened) (first : Now) (life : List Event) (before after : PlayerState D) (outcome : Outcome) (text : List ℕ) → IsLifeOver seen may_leave bytes o first life before → AreFit calls
      → calls_in life + length calls < 2 ^ 64 - 1 → is_struck_by outcome ≡ false → InTurn (IsPlayedAlone engine Finished) Answered calls before after outcome text → GoesOnByAll calls bytes o first life before after text
  all_alone [] bytes o first life before after outcome text over fit few calm all =
      record {
        later = life;
        all = (refl, all.0, all.2);
        over = subst (IsLifeOver seen may_leave bytes o first life) (sym all.0) over;
        stays = subst (IsUnswept bytes first life) (sym all.0);
      }
  all_alone (its ∷ []) bytes o first life before after outcome text over fit few calm all =
      let more = begun_counted its life in
      let one = one_alone its bytes o first life before after outcome text over fit.0 (omega (arith, few, more)) calm all in
      record { later = one.later; all = (one.later, after, text, [], one.played, (refl, refl, refl), sym (append-nil text)); over = one.played.goes_on; stays = one.played.unswept fit.1 }
  all_alone (its ∷ next ∷ rest) bytes o first life before after outcome text over fit few calm all =
      let more = begun_counted its life in
      let one = one_alone its bytes o first life before all.0 Answered all.1 over fit.0 (omega (arith, few, more)) refl all.3 in
      let many = one.few in
      let others = all_alone (next ∷ rest) bytes o first one.later all.0 after outcome all.2 one.played.goes_on fit.2 (omega (arith, few, more, many)) calm all.4 in
      record {
        later = others.later;
        all = (one.later, all.0, all.1, all.2, one.played, others.all, all.5);
        over = others.over;
        stays = λ swept. others.stays (one.played.unswept fit.1 swept);
      }

  rounds_in_life : (bytes : List ℕ) (o : Opened) (first : Now) (life : List Event) (before after : PlayerState D) (outcome : Outcome) (text : List ℕ)
      → IsLifeOver seen may_leave bytes o first life before → calls_in life + length (rounds most_rounds (round_of before.seats)) < 2 ^ 64 - 1
      → AreRounds engine before after outcome text → is_struck_by outcome ≡ false → IsFinishInLife seen may_leave bytes o first life before after text
  rounds_in_life bytes o first life before after outcome text over few its calm =
      let calls : List ActorCall = rounds most_rounds (round_of before.seats) in
      let fewer = taken_few its.count calls in
      let all = all_alone (take its.count calls) bytes o first life before after outcome its.said over (fit_taken its.count calls (fit_rounds most_rounds (round_of before.seats) (fit_round before.seats))) (omega (arith, few, fewer)) calm its.calls in
      record { count = its.count; later = all.later; said = its.said; played = all.all; behind = behind_rounds outcome; ends = ends_so outcome; says = its.says; goes_on = all.over; unswept = all.stays }

  nothing_in_life : (bytes : List ℕ) (o : Opened) (first : Now) (life : List Event) (before after : PlayerState D) (text : List ℕ)
      → IsLifeOver seen may_leave bytes o first life before → after ≡ before → text ≡ nothing_to_finish → IsFinishInLife seen may_leave bytes o first life before after text
  nothing_in_life bytes o first life before after text over same says = record {
    count = zero;
    later = life;
    said = [];
    played = (refl, same, refl);
    behind = nothing_to_finish;
    ends = inr (inr refl);
    says = says;
    goes_on = subst (IsLifeOver seen may_leave bytes o first life) (sym same) over;
    unswept = subst (IsUnswept bytes first life) (sym same);
  }

  pub finishes_go_on : FinishesGoOn seen may_leave engine
  finishes_go_on bytes o first life before after outcome text over few its calm = by_phase (phase_shown before.world.now).0 its
    where
      by_phase : (its : Phase) → IsFinishIn engine its before after outcome text → IsFinishInLife seen may_leave bytes o first life before after text
      by_phase phase.Rest its = nothing_in_life bytes o first life before after text over its.0 its.2
      by_phase other its = rounds_in_life bytes o first life before after outcome text over few its calm

  -- ---- a finish in which a crash strikes
  record GoesOnUpTo (calls : List ActorCall) (bytes : List ℕ) (o : Opened) (first : Now) (life : List Event) (before : PlayerState D) (text : List ℕ) : Type 0 where
    ended : List ActorCall
    behind : List ActorCall
    parts : calls ≡ ended ++ behind
    later : List Event
    last : PlayerState D
    all : ArePlayedInLife seen may_leave Finished ended bytes o first life later before last text

  up_to : (calls : List ActorCall) (bytes : List ℕ) (o : Opened) (first : Now) (life : List Event) (before after : PlayerState D) (outcome : Outcome) (text : List ℕ) → IsLifeOver seen may_leave bytes o first life before → AreFit calls
      → calls_in life + length calls < 2 ^ 64 - 1 → true ≡ is_struck_by outcome → InTurn (IsPlayedAlone engine Finished) Answered calls before after outcome text → GoesOnUpTo calls bytes o first life before text
  up_to [] bytes o first life before after outcome text over fit few struck all = let never : true ≡ false = struck ∙ ap is_struck_by all.1 in cc
  up_to (its ∷ []) bytes o first life before after outcome text over fit few struck all =
      record { ended = []; behind = its ∷ []; parts = refl; later = life; last = before; all = (refl, refl, struck_alone engine Finished its stage.Begins all.moves before after outcome text struck all.beats) }
  up_to (its ∷ next ∷ rest) bytes o first life before after outcome text over fit few struck all =
      let more = begun_counted its life in
      let one = one_alone its bytes o first life before all.0 Answered all.1 over fit.0 (omega (arith, few, more)) refl all.3 in
      let many = one.few in
      let others = up_to (next ∷ rest) bytes o first one.later all.0 after outcome all.2 one.played.goes_on fit.2 (omega (arith, few, more, many)) struck all.4 in
      record {
        ended = its ∷ others.ended;
        behind = others.behind;
        parts = ap (λ (x : List ActorCall). its ∷ x) others.parts;
        later = others.later;
        last = others.last;
        all = (one.later, all.0, all.1, all.2, one.played, others.all, all.5);
      }

  rounds_up_to : (bytes : List ℕ) (o : Opened) (first : Now) (life : List Event) (before after : PlayerState D) (outcome : Outcome) (text : List ℕ)
      → IsLifeOver seen may_leave bytes o first life before → calls_in life + length (rounds most_rounds (round_of before.seats)) < 2 ^ 64 - 1
      → AreRounds engine before after outcome text → true ≡ is_struck_by outcome → IsFinishCutShort seen may_leave bytes o first life before text
  rounds_up_to bytes o first life before after outcome text over few its struck =
      let calls : List ActorCall = rounds most_rounds (round_of before.seats) in
      let fewer = taken_few its.count calls in
      let all = up_to (take its.count calls) bytes o first life before after outcome its.said over (fit_taken its.count calls (fit_rounds most_rounds (round_of before.seats) (fit_round before.seats))) (omega (arith, few, fewer)) struck its.calls in
      let parts = taken_parts its.count calls in
      let says : text ≡ its.said = its.says ∙ (ap (λ (x : List ℕ). its.said ++ x) (none_behind outcome struck) ∙ append-nil its.said) in
      record {
        calls = all.ended;
        behind = all.behind ++ parts.0;
        first_of = parts.1 ∙ (ap (λ (x : List ActorCall). x ++ parts.0) all.parts ∙ append_assoc all.ended all.behind parts.0);
        later = all.later;
        last = all.last;
        played = subst (ArePlayedInLife seen may_leave Finished all.ended bytes o first life all.later before all.last) (sym says) all.all;
      }

  pub struck_finishes_end : StruckFinishesEnd seen may_leave engine
  struck_finishes_end bytes o first life before after outcome text over few its struck = by_phase (phase_shown before.world.now).0 its
    where
      by_phase : (its : Phase) → IsFinishIn engine its before after outcome text → IsFinishCutShort seen may_leave bytes o first life before text
      by_phase phase.Rest its = let never : false ≡ true = sym (ap is_struck_by its.1) ∙ struck in cc
      by_phase other its = rounds_up_to bytes o first life before after outcome text over few its (sym struck)
