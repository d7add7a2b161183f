-- An operation that is played alone is answered by the map.
use Rattle.std.proofs.Common.{◌≡◌, ◌∙◌, ◌⊎◌, ℕ, zero, suc, List, [], ◌∷◌, Bool, true, false, ap, arith, inl, inr, length, refl, sym, subst, ◌+◌}
use Rattle.std.specs.Prelude.{Option, Some, None, if◌then◌else◌, nat_lt, slice_get}
use Rattle.std.proofs.lemmas.Bool.Decides.{nat_tests}
use Rattle.fkv_base.specs.declared.faults.Fault.TheVariants.{NoSession}
use Rattle.law_order.specs.Below.fkv_core.Openings.{beginning}
use Rattle.law_order.specs.Below.fkv_core.Worlds.{WorldModel}
use Rattle.law_order.specs.Below.fkv_core.Event as events
use Rattle.law_order.specs.Below.fkv_core.TheTold as tells
use Rattle.fkv_epoch.proofs.Shown.{none_some, some_same}
use Rattle.fkv_map.specs.declared.operations.Call.{Call}
use Rattle.fkv_map.specs.declared.operations.Call.TheVariants as call
use Rattle.fkv_map.specs.declared.operations.Op.{Op}
use Rattle.law_order.specs.OneHistory.EachLife.{InEachLife, IsLife, Life}
use Rattle.law_order.specs.Below.fkv_opening.TheOpened.{Opened}
use Rattle.law_order.specs.Rules.Ordered.{HasLegalHistory, OrdersItsCalls, ReadsFreshly}
use Rattle.law_order.proofs.OfRules.Beginning.{world_opens}
use Rattle.fkv_runs.specs.Below.fkv_playing.Groups.{IsGroup, missing_session}
use Rattle.fkv_runs.specs.Below.fkv_playing.Players.{PlayerState}
use Rattle.fkv_runs.specs.Below.fkv_playing.Queues.{AreQueuesOf, QueueState}
use Rattle.fkv_runs.specs.Below.fkv_playing.Seats.{SeatState}
use Rattle.fkv_runs.specs.Below.fkv_playing.Texts.{text_of}
use Rattle.fkv_runs.specs.Below.fkv_playing.ActorCall.TheVariants.{Session}
use Rattle.fkv_runs.specs.Below.fkv_playing.Outcome.TheVariants.{Answered}
use Rattle.fkv_runs.specs.Below.fkv_playing.Stage.TheVariants as stage
use Rattle.fkv_runs.specs.Below.fkv_playing.Telling.{Telling}
use Rattle.fkv_runs.specs.Below.fkv_playing.Telling.TheVariants.{Whole}
use Rattle.law_order.specs.Below.fkv_session.Told.{Told}
use Rattle.law_order.specs.Below.fkv_session.Told.TheVariants as tellings
use Rattle.fkv_texts.specs.Refusals.{session_refusal}
use Rattle.law_program.specs.WholeCalls.Laws.{AnswersWholeCalls}
use Rattle.law_order.specs.Below.fkv_world.Past.{Effect}
use Rattle.law_order.specs.Below.fkv_world.Runs.{World, run}
use Rattle.law_order.specs.Below.fkv_world.World.{Calls, Event, Now}
use Rattle.law_order.specs.Below.law_refine.Results.Results.{IsResult, NobodyCalls, history_at, in_call}
use Rattle.law_order.proofs.Below.law_refine.OfResults.InCall.{result_told}
use Rattle.fkv_map.specs.Fits.{OpFits}
use Rattle.law_order.specs.Served.Fits.{CallFits}
use Rattle.law_order.specs.Tickets.Few.{HasFewCalls}
use Rattle.law_program.specs.PlayedCalls.EachLine.{IsOpAnswered}
use Rattle.law_program.specs.PlayedCalls.PlayedCalls.{IsAnsweredAlone, IsLineOfSession, IsQuietLife, IsRefusedSession, IsReplyOfMap, IsToldTo, LinesGoOn, LinesReplyAsMap, RepliesAsMap, called_alone}
use Rattle.law_program.proofs.OfPlayedCalls.Beats.{EndsCall, beats_end}
use Rattle.law_program.proofs.OfPlayedCalls.InLife.{calls_few, calls_fit, nobody_behind, was_alive, was_there}
use Rattle.law_program.proofs.OfPlayedCalls.OneCall.{HasOneCall, first_call, played_out, refused_out}
use Rattle.law_program.proofs.OfPlayedCalls.Steps.{GoesByRules}

-- the session that is missing is the call's
pub missing_number : (number its : ℕ) (c : Bool) → (if c then None else Some number) ≡ Some its → number ≡ its
missing_number number its true e = none_some its e
missing_number number its false e = some_same _ _ e

there_number : (number : ℕ) (c : Bool) → (if c then None else Some number) ≡ None → c ≡ true
there_number number true e = refl
there_number number false e = none_some number (sym e)

seat_there : (seats : List SeatState) (number : ℕ) → nat_lt number (length seats) ≡ true → (seat : SeatState) × (slice_get seats number ≡ Some seat)
seat_there [] number below = absurd (grind (arith, nat_tests, below))
seat_there (seat ∷ later) zero below = (seat, refl)
seat_there (seat ∷ later) (suc number) below = seat_there later number (grind (arith, nat_tests, below))

-- ---- a line
-- the session has a seat, and its call has ended in the life
pub record EndsLine {D : Type 0} (number : ℕ) (asked : Call) (opening : World) (life : List Event) (before after : PlayerState D) (text : List ℕ) : Type 0 where
  pub seat : SeatState
  pub sits : slice_get before.seats number ≡ Some seat
  pub moves : ℕ
  pub ends : EndsCall Whole number asked before.seats opening (called_alone number moves asked life) after text

-- a line is refused, or its call has ended
line_ends : {D : Type 0} (engine : events.Event → WorldModel D → WorldModel D → Option tells.Told → Bool → Type 0) (rules : GoesByRules engine) (number : ℕ) (asked : Call) (opening : World) (life : List Event) (queues left : List QueueState)
    (before after : PlayerState D) (text : List ℕ) → (run opening life).now ≡ before.world.now → AreQueuesOf (Session number asked ∷ []) queues
    → IsGroup engine (record { player = before; queues = queues }) (record { player = after; queues = left }) false text → IsRefusedSession number before after text ⊎ EndsLine number asked opening life before after text
line_ends {D} engine rules number asked opening life queues left before after text shows are played = by_seat (missing_session before.seats (Session number asked)) refl
  where
    one : (place : ℕ) × HasOneCall stage.Begins (Session number asked) place queues
    one = first_call (Session number asked) queues are

    by_seat : (missing : Option ℕ) → missing_session before.seats (Session number asked) ≡ missing → IsRefusedSession number before after text ⊎ EndsLine number asked opening life before after text
    by_seat None there =
        let out = played_out engine (Session number asked) played.picks stage.Begins one.0 (record { player = before; queues = queues }) (record { player = after; queues = played.last }) text one.1 there (played.over refl) played.played in
        let seat = seat_there before.seats number (there_number number (nat_lt number (length before.seats)) there) in
        inr (record { seat = seat.0; sits = seat.1; moves = out.moves; ends = beats_end engine rules Whole number asked opening stage.Begins out.moves life before after out.outcome text shows out.ended out.beats })
    by_seat (Some its) missing =
        let out = refused_out engine (Session number asked) played.picks one.0 its (record { player = before; queues = queues }) (record { player = after; queues = played.last }) text one.1 missing (played.over refl) played.played in
        inl (out.0, out.1 ∙ ap (λ (x : ℕ). session_refusal x NoSession) (sym (missing_number number its (nat_lt number (length before.seats)) missing)))

-- ---- any call
-- the life has gone on, and no session has a call in hand
pub record IsAtRest (bytes : List ℕ) (o : Opened) (first : Now) (later : List Event) (after : Now) : Type 0 where
  pub goes_on : IsQuietLife bytes o first later after
  pub rests : NobodyCalls after

-- so it is behind a call that has ended
pub at_rest_behind : {D : Type 0} (telling : Telling) (number moves : ℕ) (asked : Call) (bytes : List ℕ) (o : Opened) (first : Now) (life : List Event) (before after : PlayerState D) (text : List ℕ) → IsQuietLife bytes o first life before.world.now
    → NobodyCalls before.world.now → CallFits asked → HasFewCalls (Calls number asked ∷ life) → EndsCall telling number asked before.seats (beginning first bytes) (called_alone number moves asked life) after text
    → IsAtRest bytes o first (called_alone number moves asked life) after.world.now
at_rest_behind telling number moves asked bytes o first life before after text quiet nobody fits few ends =
    let opening : World = beginning first bytes in
    let answered = ends.answered in
    let here : NobodyCalls (run opening life).now = subst NobodyCalls (sym quiet.shows) nobody in
    let is_now : slice_get (run opening (called_alone number moves asked life)).now.sessions number ≡ Some answered.s = ap (λ (x : Now). slice_get x.sessions number) ends.shows ∙ answered.found in
    record {
      goes_on = record {
        store = quiet.store;
        opening = quiet.opening;
        fits = calls_fit number moves asked life fits quiet.fits;
        few = calls_few number moves asked life few;
        shows = ends.shows;
      };
      rests = subst NobodyCalls ends.shows (nobody_behind opening life number moves asked answered.s answered.its here is_now answered.at_rest);
    }

-- a life goes on by a line of it
answered_alone : {D : Type 0} (number : ℕ) (asked : Call) (bytes : List ℕ) (o : Opened) (first : Now) (life : List Event) (before after : PlayerState D) (text : List ℕ) → IsQuietLife bytes o first life before.world.now
    → NobodyCalls before.world.now → CallFits asked → HasFewCalls (Calls number asked ∷ life) → EndsLine number asked (beginning first bytes) life before after text → IsAnsweredAlone number asked bytes o first life before after text
answered_alone number asked bytes o first life before after text quiet nobody fits few its =
    let answered = its.ends.answered in
    let behind = at_rest_behind Whole number its.moves asked bytes o first life before after text quiet nobody fits few its.ends in
    record {
      answer = answered.answer;
      says = its.ends.says ∙ ap (text_of Whole asked before.seats after.world.now) answered.same;
      moves = its.moves;
      goes_on = behind.goes_on;
      rests = behind.rests;
    }

pub lines_go_on : {D : Type 0} (engine : events.Event → WorldModel D → WorldModel D → Option tells.Told → Bool → Type 0) → GoesByRules engine → LinesGoOn engine
lines_go_on {D} engine rules bytes o first life number asked queues left before after text quiet nobody fits few are played =
    by_end (line_ends engine rules number asked (beginning first bytes) life queues left before after text quiet.shows are played)
  where
    by_end : IsRefusedSession number before after text ⊎ EndsLine number asked (beginning first bytes) life before after text → IsRefusedSession number before after text ⊎ IsAnsweredAlone number asked bytes o first life before after text
    by_end (inl refused) = inl refused
    by_end (inr its) = inr (answered_alone number asked bytes o first life before after text quiet nobody fits few its)

-- ---- an operation
-- what an operation is told, by what has taken effect in its call
told_to : (number : ℕ) (op : Op) (serial : ℕ) (before after : List Effect) (its : Told) → IsResult number op serial before after its → IsToldTo op its
told_to number op serial before after (tellings.Done given its) result = result.0.update
told_to number op serial before after (tellings.Pending given why) result = result.1
told_to number op serial before after (tellings.Found value) result = result.1
told_to number op serial before after tellings.Absent result = result.1
told_to number op serial before after (tellings.PendingRead ticket) result = result.1
told_to number op serial before after (tellings.Refused why) result = tt
told_to number op serial before after other result = absurd result

module _ (legal : InEachLife HasLegalHistory) (ordered : InEachLife OrdersItsCalls) (fresh : InEachLife ReadsFreshly) (whole : AnswersWholeCalls) where
  -- one that has ended in a life is answered by the map
  pub op_answered : {D : Type 0} (telling : Telling) (number moves : ℕ) (op : Op) (bytes : List ℕ) (o : Opened) (first : Now) (life : List Event) (before after : PlayerState D) (text : List ℕ)
      → IsQuietLife bytes o first life before.world.now → NobodyCalls before.world.now → OpFits op → HasFewCalls (Calls number (call.Op op) ∷ life)
      → (ends : EndsCall telling number (call.Op op) before.seats (beginning first bytes) (in_call number moves op life) after text)
      → IsOpAnswered bytes o first life (in_call number moves op life) number op ends.said
  op_answered telling number moves op bytes o first life before after text quiet nobody fits few ends =
      let opening : World = beginning first bytes in
      let all : List Event = in_call number moves op life in
      let answered = ends.answered in
      let here : NobodyCalls (run opening life).now = subst NobodyCalls (sym quiet.shows) nobody in
      let all_fit = calls_fit number moves (call.Op op) life fits quiet.fits in
      let small : HasFewCalls all = calls_few number moves (call.Op op) life few in
      let alive : (run opening life).now.crashed ≡ false = was_alive opening life number moves (call.Op op) (ap (λ (x : Now). x.crashed) ends.shows ∙ answered.alive) in
      let is_now : slice_get (run opening all).now.sessions number ≡ Some answered.s = ap (λ (x : Now). slice_get x.sessions number) ends.shows ∙ answered.found in
      let there = was_there opening life number moves (call.Op op) answered.s is_now in
      let result = result_told opening life number moves op there.s answered.s answered.its (world_opens o first bytes quiet.opening) alive there.found (here number there.s there.found) is_now answered.at_rest in
      let lived : Life = record { bytes = bytes; opened = o; world = first; events = all } in
      let is_life : IsLife lived = record { store = quiet.store; begins = quiet.opening; fits = all_fit; few = small } in
      record {
        answer = answered.answer;
        same = answered.same;
        its = answered.its;
        finished = answered.s.finished;
        is_told = answered.is_told;
        told_to = told_to number op (there.s.serial + 1) (history_at opening life) (history_at opening all) answered.its result;
        by_map =
            whole bytes o first life number moves op there.s answered.s answered.its quiet.opening
            (legal lived is_life)
            (ordered lived is_life)
            (fresh lived is_life)
            here alive there.found is_now answered.at_rest;
      }

  -- so it prints the map's reply
  pub reply_of : {D : Type 0} (telling : Telling) (number moves : ℕ) (op : Op) (bytes : List ℕ) (o : Opened) (first : Now) (life : List Event) (before after : PlayerState D) (text : List ℕ)
      → IsQuietLife bytes o first life before.world.now → NobodyCalls before.world.now → OpFits op → HasFewCalls (Calls number (call.Op op) ∷ life)
      → EndsCall telling number (call.Op op) before.seats (beginning first bytes) (in_call number moves op life) after text
      → IsReplyOfMap telling number op bytes o first life before after text
  reply_of telling number moves op bytes o first life before after text quiet nobody fits few ends =
      let its = op_answered telling number moves op bytes o first life before after text quiet nobody fits few ends in
      let behind = at_rest_behind telling number moves (call.Op op) bytes o first life before after text quiet nobody fits few ends in
      record {
        answer = its.answer;
        its = its.its;
        finished = its.finished;
        is_told = its.is_told;
        told_to = its.told_to;
        says = ends.says ∙ ap (text_of telling (call.Op op) before.seats after.world.now) its.same;
        moves = moves;
        by_map = its.by_map;
        goes_on = behind.goes_on;
        rests = behind.rests;
      }

  pub replies : {D : Type 0} (engine : events.Event → WorldModel D → WorldModel D → Option tells.Told → Bool → Type 0) → GoesByRules engine → RepliesAsMap engine
  replies engine rules bytes o first life telling number op before after text quiet nobody fits few played =
      reply_of telling number played.moves op bytes o first life before after text quiet nobody fits few
      (beats_end engine rules telling number (call.Op op) (beginning first bytes) stage.Begins played.moves life before after Answered text quiet.shows (played.over, refl) played.beats)

  -- so it is of a line
  pub lines_reply : {D : Type 0} (engine : events.Event → WorldModel D → WorldModel D → Option tells.Told → Bool → Type 0) → GoesByRules engine → LinesReplyAsMap engine
  lines_reply {D} engine rules bytes o first life number op queues left before after text quiet nobody fits few are played =
      by_end (line_ends engine rules number (call.Op op) (beginning first bytes) life queues left before after text quiet.shows are played)
    where
      by_end : IsRefusedSession number before after text ⊎ EndsLine number (call.Op op) (beginning first bytes) life before after text → IsRefusedSession number before after text ⊎ IsLineOfSession number op bytes o first life before after text
      by_end (inl refused) = inl refused
      by_end (inr its) = inr (record { seat = its.seat; sits = its.sits; reply = reply_of Whole number its.moves op bytes o first life before after text quiet nobody fits few its.ends })
