-- A read that waits has its value settled, at a moment at which its session rests. So its answer is the value that it has by then.
use Rattle.std.proofs.Common.{◌≡◌, ◌⊎◌, inl, inr, ℕ, zero, suc, Bool, ◌≤◌, ◌∙◌, append_assoc, true, false, Option, List, [], ◌∷◌, ◌++◌, refl, sym, ap, subst, arith}
use Rattle.std.specs.Prelude.{None, Some, slice_get}
use Rattle.std.specs.Option.{is_some}
use Rattle.law_opening.specs.Below.fkv_core.Openings.{beginning}
use Rattle.law_opening.specs.Below.fkv_filling.OpeningIndex.{opening_lists}
use Rattle.fkv_index.specs.Slots.{entry_addr}
use Rattle.fkv_map.specs.Map.{Map, reply_to_read}
use Rattle.fkv_map.specs.declared.operations.Reply.{Reply}
use Rattle.law_opening.specs.Below.fkv_opening.TheOpened.{Opened}
use Rattle.law_commit.specs.Below.fkv_ops.Requests.{is_read}
use Rattle.law_commit.specs.Below.fkv_ops.DiskRecord.{DiskRecord}
use Rattle.law_commit.specs.Below.fkv_pending.Attempting.{is_poll}
use Rattle.law_commit.specs.Below.fkv_pending.PendingRequest.{PendingRequest}
use Rattle.law_commit.specs.Below.fkv_pending.Ticket.{Ticket}
use Rattle.law_commit.specs.Below.fkv_session.Sessions.{SessionState, is_busy}
use Rattle.law_commit.specs.Below.fkv_session.Sitting.{Sitting}
use Rattle.law_commit.specs.Below.fkv_session.Sitting.TheVariants.{Polls}
use Rattle.law_commit.specs.Below.fkv_world.Opened.{IsOpenedWorld}
use Rattle.law_commit.specs.Below.fkv_world.Runs.{World, run}
use Rattle.law_commit.specs.Below.fkv_world.World.{Event, Now, seat_at}
use Rattle.law_commit.specs.Below.law_local.Sessions.Inputs.{AttemptsBy, IsAttemptInPoll}
use Rattle.law_commit.specs.Below.law_local.Tries.AttemptRows.{PendingKnows}
use Rattle.law_commit.specs.Below.law_local.Tries.HeldRows.{SoughtKnows}
use Rattle.law_commit.specs.Below.law_local.Tries.ReadRows.{SoughtReads}
use Rattle.law_commit.specs.Below.law_local.Tries.TryRows.{floor_in, head_in, key_in}
use Rattle.law_log.specs.Chains.{value_at}
use Rattle.law_log.specs.Enabled.{AreEnabled, IsLineEnabled, IsOpened}
use Rattle.law_log.specs.Ghosts.{Ghosts, GhostEvent, HasValue, Log, Reading, Tells, Walks, first_from, ghost_run}
use Rattle.law_log.specs.Trace.{AnswersRead, CallsRead, Effect, IsIn, history_of}
use Rattle.law_log.proofs.Shown.{HadValue, Held, IsSound, KnowsRead, enabled_before, run_held, run_sound}
use Rattle.law_opening.specs.Log.Maps.{opening_map}
use Rattle.law_opening.specs.Log.OpeningLog.{opening_ghosts}
use Rattle.law_order.specs.Known.Begins.{BeginStays, BeginsLife, home_of_world}
use Rattle.law_order.specs.OneHistory.Beside.{HasItsHistory}
use Rattle.law_order.specs.OneHistory.EachLife.{InEachLife, IsLife, Life}
use Rattle.law_order.specs.Ordered.Keeps.{KeepsItsOrder, KeepsOrder}
use Rattle.law_order.specs.Ordered.Met.{SeeksItsReads, WasToldGone}
use Rattle.law_order.specs.Reads.Reads.{SitsReads, readings_of}
use Rattle.law_order.specs.Rules.InTime.{IsInTime}
use Rattle.law_order.specs.Rules.Openings.{BeginsItsLife}
use Rattle.law_order.specs.Rules.Ordered.{effects_so_far}
use Rattle.law_order.specs.Rules.Waiting.{HasWaiting, UntoldReadsInTime, WaitingReadsInTime, waiting_read}
use Rattle.law_order.specs.Served.Fits.{CallsFit}
use Rattle.law_order.specs.Tickets.Few.{HasFewCalls}
use Rattle.law_order.proofs.OfKnown.Newest.{known_now}
use Rattle.law_order.proofs.OfReads.Life.{idle_waits}
use Rattle.law_order.proofs.OfReads.LifeNumbers.{life_numbered}
use Rattle.law_order.proofs.OfReads.LifeReads.{reads_now}
use Rattle.law_order.proofs.OfReads.Settled.{AllSpare, Goes, Has, IsSettled, IsSettledAt, both_spare, fixed_from, run_settled, spare_behind}
use Rattle.law_order.proofs.OfReads.Spared.{IsBehindSpared, IsPast, PollsOthers, behind_spared, event_spared, past_on}
use Rattle.law_order.proofs.OfOrdered.Seeking.{none_told, told_later}
use Rattle.law_order.proofs.OfRules.InTime.{IsTold, behind, told}
use Rattle.law_order.proofs.OfRules.ReadRuns.{WasCalled, had_in_time, run_so, walks_so}
use Rattle.law_opening.proofs.OfChanges.OfSessions.Attempting.{life_attempts}
use Rattle.law_order.proofs.OfTickets.Events.{before_few}
use Rattle.law_commit.proofs.Below.law_refine.OfEvents.RequestNames.{life_named}
use Rattle.law_commit.proofs.Below.law_refine.OfMail.GoneTold.{begin_above}
use Rattle.law_commit.proofs.Below.law_world.OfKeeper.OwnRun.{keeper_goes_on}
use Rattle.law_commit.specs.Below.law_refine.Calls.Calls.{event_adds}
use Rattle.law_commit.specs.Below.law_refine.Events.GhostEvents.{ghost_events, life_ghosts, mapped, serials_in}
use Rattle.law_commit.specs.Below.law_refine.Events.Lines.{read_waiting}
use Rattle.law_commit.specs.Below.law_refine.Events.Names.{AreNamedSo, IsNamedSo, is_read_name}
use Rattle.law_commit.specs.Below.law_refine.Events.Sessions.{ticket_of}

-- ---- a shorter life
fits_before : (later before : List Event) → CallsFit (later ++ before) → CallsFit before
fits_before [] before fits = fits
fits_before (event ∷ later) before fits = fits_before later before fits.1

few_before : (later before : List Event) → HasFewCalls (later ++ before) → HasFewCalls before
few_before [] before few = few
few_before (event ∷ later) before few = few_before later before (before_few event (later ++ before) few)

abbrev pub life_of : List ℕ → Opened → Now → List Event → Life
life_of bytes o n events = record { bytes = bytes; opened = o; world = n; events = events }

pub life_before : (bytes : List ℕ) (o : Opened) (n : Now) (later before : List Event) → IsLife (life_of bytes o n (later ++ before)) → IsLife (life_of bytes o n before)
life_before bytes o n later before its = record { store = its.store; begins = its.begins; fits = fits_before later before its.fits; few = few_before later before its.few }

-- ---- where a read waits
named_at : (requests : List PendingRequest) (index : ℕ) (pending : PendingRequest) → AreNamedSo requests → slice_get requests index ≡ Some pending → IsNamedSo pending
named_at [] index pending all got = cc
named_at (it ∷ rest) zero pending all got = let same : it ≡ pending = cc in subst IsNamedSo same all.0
named_at (it ∷ rest) (suc index) pending all got = named_at rest index pending all.1 got

-- it goes from the entry of the record that it seeks, and that is fixed
record IsSettledHere (home : ℕ → ℕ) (log : Log) (reading : Reading) : Type 0 where
  key : ℕ
  seen : List Effect
  from : ℕ
  is : reading ≡ Walks key seen from
  at : IsSettledAt home log key from (value_at (log.cells (first_from home log key from)))

sought_settled : (home : ℕ → ℕ) (m : Map) (log : Log) (floor key low : ℕ) (reading : Reading) (sought : Option DiskRecord) → Held home m log → is_some sought ≡ true → SoughtReads key reading sought → SoughtKnows home log floor key low sought → low ≤ log.fixed
    → IsSettledHere home log reading
sought_settled home m log floor key low reading None held some goes knows high = cc
sought_settled home m log floor key low reading (Some it) held some goes knows high = record {
  key = key;
  seen = goes.0;
  from = entry_addr it.entry;
  is = goes.1;
  at = record { begins = knows.comes.way.begins; fixed = fixed_from home log key (entry_addr it.entry) it.addr.0 low held.chains knows.comes high; its_value = refl };
}

-- a session that rests polls none
not_polling : (step : Sitting) (index : ℕ) → is_busy step ≡ false → step ≡ Polls index → ⊥
not_polling step index idle at = let clash : true ≡ false = sym (ap is_busy at) ∙ idle in cc

module _ (begins : BeginsItsLife) (keeps : InEachLife KeepsItsOrder) (seeks : InEachLife SeeksItsReads) (bytes : List ℕ) (o : Opened) (n : Now) where
  abbrev opening : World
  opening = beginning n bytes

  abbrev ghosts : Ghosts
  ghosts = opening_ghosts bytes o

  abbrev home : ℕ → ℕ
  home = home_of_world opening

  abbrev map_of : Map
  map_of = opening_map bytes o

  record IsSettledRead (events : List Event) (number : ℕ) (ticket : Ticket) : Type 0 where
    past : IsPast (run opening events) number (waiting_read n bytes events number ticket)
    settled : IsSettledHere home (life_ghosts opening ghosts events).log ((life_ghosts opening ghosts events).reads (waiting_read n bytes events number ticket))

  settled_there : (events : List Event) → IsLife (life_of bytes o n events) → (number : ℕ) → ((begin : ℕ) → WasToldGone opening number events begin → ⊥) → (ticket : Ticket) → HasWaiting (run opening events).now number ticket → IsSettledRead events number ticket
  settled_there events is_life number untold ticket waiting = record {
    past = record {
      own = (life_numbered opening events number waiting.s start.world waiting.found).waits ticket.0 given;
      later = λ s found busy. let same : slice_get (run opening events).now.sessions number ≡ Some waiting.s = waiting.found in at_rest s (sym same ∙ found) busy;
    };
    settled =
        subst (λ (t : ℕ). IsSettledHere home (life_ghosts opening ghosts events).log ((life_ghosts opening ghosts events).reads (read_waiting number t (run opening events).past.trace))) its_ticket
        (sought_settled home map_of (life_ghosts opening ghosts events).log (floor_in waiting.pending.request) (key_in waiting.pending.request) (head_in waiting.s.seen) ((life_ghosts opening ghosts events).reads (read_waiting number (ticket_of waiting.pending.name) (run opening events).past.trace)) waiting.pending.sought
        (run_held home map_of o.number.0 ghosts (mapped opening events) start.log order.enabled)
        (untold_seeks (is_some waiting.pending.sought) waiting.pending.request.floor.0 ((seeks (life_of bytes o n events) is_life).seek_or_told number waiting.s waiting.index waiting.pending waiting.found waiting.got (not_polling waiting.s.step waiting.index waiting.idle) read))
        so.1 knows.sought knows.request.low);
  }
    where
      -- it was told of none that is gone, so it seeks one
      untold_seeks : (some : Bool) (floor : ℕ) → (some ≡ true) ⊎ WasToldGone opening number events floor → some ≡ true
      untold_seeks some floor (inl is) = is
      untold_seeks some floor (inr told_so) = absurd (untold floor told_so)

      start : BeginsLife opening o.tail.0 (opening_lists o.entries.items) map_of o.number.0 ghosts
      start = begins bytes o n is_life.store is_life.begins

      order : KeepsOrder opening ghosts events
      order = keeps (life_of bytes o n events) is_life

      its_ticket : ticket_of waiting.pending.name ≡ ticket.0
      its_ticket = ap ticket_of waiting.its_name

      read : is_read waiting.pending.request.op ≡ true
      read = sym (named_at waiting.s.requests waiting.index waiting.pending (life_named opening o.tail.0 events number waiting.s start.store.now waiting.found).waiting waiting.got) ∙ ap is_read_name waiting.its_name

      so : (readings_of (life_ghosts opening ghosts events).reads (run opening events).past.trace number).given (ticket_of waiting.pending.name) ≡ true
          × SoughtReads (key_in waiting.pending.request) ((life_ghosts opening ghosts events).reads (read_waiting number (ticket_of waiting.pending.name) (run opening events).past.trace)) waiting.pending.sought
      so =
          idle_waits (readings_of (life_ghosts opening ghosts events).reads (run opening events).past.trace number) waiting.s waiting.s.step waiting.idle
          (reads_now opening ghosts events order.reads number waiting.s waiting.found) waiting.index waiting.pending waiting.got read

      given : (readings_of (life_ghosts opening ghosts events).reads (run opening events).past.trace number).given ticket.0 ≡ true
      given = subst (λ (t : ℕ). (readings_of (life_ghosts opening ghosts events).reads (run opening events).past.trace number).given t ≡ true) its_ticket so.0

      knows : PendingKnows home (life_ghosts opening ghosts events).log waiting.pending waiting.s.seen
      knows = (known_now opening ghosts events order.known number waiting.s waiting.found).waiting waiting.index waiting.pending waiting.got (not_polling waiting.s.step waiting.index waiting.idle)

      at_rest : {X : Type 0} (s : SessionState) → Some waiting.s ≡ Some s → is_busy s.step ≡ true → X
      at_rest s same busy = let one : waiting.s ≡ s = cc in let clash : true ≡ false = sym busy ∙ (ap (λ (x : SessionState). is_busy x.step) (sym one) ∙ waiting.idle) in cc

  -- ---- its answer
  -- the value that it has then
  value_told : (g : Ghosts) (key : ℕ) (seen : List Effect) (value : Option ℕ) (reader : ℕ) (reply : Reply) → IsSettled home g.log key seen value (g.reads reader) → IsLineEnabled g (AnswersRead reader reply) → reply ≡ reply_to_read value
  value_told g key seen value reader reply (Goes a is at) enabled = let clash : Walks key seen a ≡ HasValue enabled.0 enabled.1 enabled.2 = sym is ∙ enabled.3 in cc
  value_told g key seen value reader reply (Has is) enabled =
      let both : HasValue key seen value ≡ HasValue enabled.0 enabled.1 enabled.2 = sym is ∙ enabled.3 in
      let same : value ≡ enabled.2 = cc in
      enabled.4 ∙ ap reply_to_read (sym same)

  -- it is one that the key had between the call and this moment
  had_there : (since earlier : List Event) (call : Event) (reader key : ℕ) → IsOpened home map_of o.number.0 ghosts → AreEnabled home ghosts (mapped opening (since ++ call ∷ earlier)) → IsIn (CallsRead reader key) (event_adds opening earlier call)
      → (its : IsSettledHere home (life_ghosts opening ghosts (since ++ call ∷ earlier)).log ((life_ghosts opening ghosts (since ++ call ∷ earlier)).reads reader)) → (reply : Reply)
      → reply ≡ reply_to_read (value_at ((life_ghosts opening ghosts (since ++ call ∷ earlier)).log.cells (first_from home (life_ghosts opening ghosts (since ++ call ∷ earlier)).log its.key its.from)))
      → IsInTime map_of (history_of (life_ghosts opening ghosts (call ∷ earlier)).log.history) (history_of (life_ghosts opening ghosts (since ++ call ∷ earlier)).log.history) key reply
  had_there since earlier call reader key opened enabled calls its reply replied =
      let events : List Event = since ++ call ∷ earlier in
      let its_call = told opening earlier call (CallsRead reader key) calls in
      let front = behind opening since (call ∷ earlier) in
      let last : List GhostEvent = its_call.older ++ mapped opening earlier in
      let parts : mapped opening events ≡ (front.front ++ its_call.newer) ++ Tells (CallsRead reader key) ∷ last
      = front.all ∙ (ap (λ (x : List GhostEvent). front.front ++ x) its_call.all ∙ sym (append_assoc front.front its_call.newer (Tells (CallsRead reader key) ∷ last))) in
      let was = subst (λ (x : List GhostEvent). WasCalled key (ghost_run home ghosts last).log.history ((ghost_run home ghosts x).reads reader)) (sym parts) (run_so home ghosts (front.front ++ its_call.newer) last reader key (subst (AreEnabled home ghosts) parts enabled)) in
      let same = walks_so key (ghost_run home ghosts last).log.history ((life_ghosts opening ghosts events).reads reader) its.key its.seen its.from its.is was in
      let sound : IsSound home map_of (life_ghosts opening ghosts events) = run_sound home map_of o.number.0 ghosts (mapped opening events) opened enabled in
      let had : HadValue map_of (life_ghosts opening ghosts events).log.history its.seen its.key (value_at ((life_ghosts opening ghosts events).log.cells (first_from home (life_ghosts opening ghosts events).log its.key its.from)))
      = (subst (KnowsRead home map_of (life_ghosts opening ghosts events).log (life_ghosts opening ghosts events).trace reader) its.is (sound.knows reader)).1.1 in
      let so = had_in_time map_of (life_ghosts opening ghosts events).log.history its.seen its.key _ reply had replied in
      subst (λ (x : Log). IsInTime map_of (history_of x.history) (history_of (life_ghosts opening ghosts events).log.history) key reply) (sym (its_call.log home ghosts))
      (subst (λ (k : ℕ). IsInTime map_of (history_of (ghost_run home ghosts last).log.history) (history_of (life_ghosts opening ghosts events).log.history) k reply) same.0
      (subst (λ (s : List Effect). IsInTime map_of (history_of s) (history_of (life_ghosts opening ghosts events).log.history) its.key reply) same.1 so))

  -- A read that a poll tries waits under its ticket. It is none of a session that was told of no record that is gone.
  polls_others : (events : List Event) → IsLife (life_of bytes o n events) → (number : ℕ) → ((begin : ℕ) → WasToldGone opening number events begin → ⊥) → PollsOthers opening events number
  polls_others events is_life number untold = record {
    given = λ session s index found at read.
        let in_poll : IsAttemptInPoll (seat_at opening.now session) s index =
        subst (AttemptsBy (seat_at opening.now session) s) at (life_attempts opening events session s (begins bytes o n is_life.store is_life.begins).world found) in
        let sits : SitsReads (readings_of (life_ghosts opening ghosts events).reads (run opening events).past.trace session) s (Polls index) =
        subst (SitsReads (readings_of (life_ghosts opening ghosts events).reads (run opening events).past.trace session) s) at (reads_now opening ghosts events (keeps (life_of bytes o n events) is_life).reads session s found) in
        (sits.1 read).0 (ap is_poll in_poll.goes.its_occasion);
    none = λ s index found at tries read.
        let gone : WasToldGone opening number events s.attempt.pending.request.floor.0 = ((seeks (life_of bytes o n events) is_life).try_gone number s index found at tries read).1 in
        untold s.attempt.pending.request.floor.0 gone;
  }

  -- a search of it is none of what the log has between
  value_there : (between since earlier : List Event) (call answer : Event) (number : ℕ) (ticket : Ticket) (reply : Reply) → IsLife (life_of bytes o n (answer ∷ (between ++ (since ++ call ∷ earlier)))) → ((begin : ℕ) → WasToldGone opening number (between ++ (since ++ call ∷ earlier)) begin → ⊥)
      → (its : IsSettledRead (since ++ call ∷ earlier) number ticket)
      → IsIn (AnswersRead (waiting_read n bytes (since ++ call ∷ earlier) number ticket) reply) (event_adds opening (between ++ (since ++ call ∷ earlier)) answer)
      → reply ≡ reply_to_read (value_at ((life_ghosts opening ghosts (since ++ call ∷ earlier)).log.cells (first_from home (life_ghosts opening ghosts (since ++ call ∷ earlier)).log its.settled.key its.settled.from)))
  unfolding AreEnabled
  value_there between since earlier call answer number ticket reply is_life untold its answers =
      value_told (ghost_run home ghosts (its_answer.older ++ mapped opening upto)) its.settled.key its.settled.seen value reader reply
      (subst (λ (x : List GhostEvent). IsSettled home (ghost_run home ghosts x).log its.settled.key its.settled.seen value ((ghost_run home ghosts x).reads reader)) (sym parts)
      (run_settled home map_of o.number.0 ghosts (its_answer.older ++ front.front) (mapped opening there) its.settled.key its.settled.seen value reader start.log (subst (AreEnabled home ghosts) parts enabled.0) spared
      (Goes its.settled.from its.settled.is its.settled.at)))
      enabled.1
    where
      there : List Event
      there = since ++ call ∷ earlier

      upto : List Event
      upto = between ++ there

      reader : ℕ
      reader = waiting_read n bytes there number ticket

      value : Option ℕ
      value = value_at ((life_ghosts opening ghosts there).log.cells (first_from home (life_ghosts opening ghosts there).log its.settled.key its.settled.from))

      start : BeginsLife opening o.tail.0 (opening_lists o.entries.items) map_of o.number.0 ghosts
      start = begins bytes o n is_life.store is_life.begins

      its_answer : IsTold opening upto answer (AnswersRead reader reply)
      its_answer = told opening upto answer (AnswersRead reader reply) answers

      enabled : AreEnabled home ghosts (Tells (AnswersRead reader reply) ∷ (its_answer.older ++ mapped opening upto))
      enabled = enabled_before home ghosts its_answer.newer _ (subst (AreEnabled home ghosts) its_answer.all (keeps (life_of bytes o n (answer ∷ upto)) is_life).enabled)

      polls : (more front : List Event) → between ≡ front ++ more → PollsOthers opening (more ++ there) number
      polls more front so =
          let whole : upto ≡ front ++ (more ++ there) = ap (λ (x : List Event). x ++ there) so ∙ append_assoc front more there in
          polls_others (more ++ there) (life_before bytes o n (answer ∷ front) (more ++ there) (subst (λ (x : List Event). IsLife (life_of bytes o n (answer ∷ x))) whole is_life)) number
          (λ begin told_so. untold begin (subst (λ (x : List Event). WasToldGone opening number x begin) (sym whole) (told_later opening number front (more ++ there) begin told_so)))

      front : IsBehindSpared opening between there reader
      front = behind_spared opening between there number reader start.world polls its.past

      parts : its_answer.older ++ mapped opening upto ≡ (its_answer.older ++ front.front) ++ mapped opening there
      parts = ap (λ (x : List GhostEvent). its_answer.older ++ x) front.all ∙ sym (append_assoc its_answer.older front.front (mapped opening there))

      last_spared : AllSpare reader (ghost_events (serials_in opening.now) (run opening upto) answer)
      last_spared = event_spared opening upto answer number reader start.world (polls between [] refl) (past_on opening between there number reader its.past)

      spared : AllSpare reader (its_answer.older ++ front.front)
      spared = both_spare reader its_answer.older front.front (spare_behind reader its_answer.newer (Tells (AnswersRead reader reply)) its_answer.older (subst (AllSpare reader) its_answer.its last_spared)) front.spared

  pub waits_in_time : InEachLife HasItsHistory → (events : List Event) → IsLife (life_of bytes o n events) → UntoldReadsInTime o n bytes events
  waits_in_time history events is_life = λ later between since earlier call answer number key ticket reply whole untold waiting calls answers.
      let there : List Event = since ++ call ∷ earlier in
      let at_answer : IsLife (life_of bytes o n (answer ∷ (between ++ there))) = life_before bytes o n later (answer ∷ (between ++ there)) (subst (λ (x : List Event). IsLife (life_of bytes o n x)) whole is_life) in
      let here : IsLife (life_of bytes o n there) = life_before bytes o n (answer ∷ between) there at_answer in
      let at_call : IsLife (life_of bytes o n (call ∷ earlier)) = life_before bytes o n since (call ∷ earlier) here in
      let its = settled_there there here number (λ begin told_so. untold begin (told_later opening number between there begin told_so)) ticket waiting in
      let replied = value_there between since earlier call answer number ticket reply at_answer untold its answers in
      let so =
      had_there since earlier call (waiting_read n bytes there number ticket) key (begins bytes o n is_life.store is_life.begins).log (keeps (life_of bytes o n there) here).enabled calls its.settled reply replied in
      subst (λ (x : List Effect). IsInTime map_of (history_of x) (history_of (effects_so_far n bytes there)) key reply) (history (life_of bytes o n (call ∷ earlier)) at_call)
      (subst (λ (x : List Effect). IsInTime map_of (history_of (life_ghosts opening ghosts (call ∷ earlier)).log.history) (history_of x) key reply) (history (life_of bytes o n there) here) so)

-- so it is in each life
pub untold_reads : BeginsItsLife → InEachLife KeepsItsOrder → InEachLife SeeksItsReads → InEachLife HasItsHistory → InEachLife UntoldReadsInTime
untold_reads begins keeps seeks history = λ its is. waits_in_time begins keeps seeks its.bytes its.opened its.world history its.events is

-- where the begin has stayed, it had stayed before
stayed_in : (opening : World) → IsOpenedWorld opening → (more before : List Event) → BeginStays opening (more ++ before) → BeginStays opening before
stayed_in opening opened more before stays = let low = begin_above opening before opened in let up = keeper_goes_on opening more before opened in omega (arith, stays, low, up)

-- and while the log begins where it did at first none is told so
pub waiting_reads : BeginsItsLife → InEachLife UntoldReadsInTime → InEachLife WaitingReadsInTime
waiting_reads begins untold = λ its is later between since earlier call answer number key ticket reply whole stays.
    let opening : World = beginning its.world its.bytes in
    let opened : IsOpenedWorld opening = (begins its.bytes its.opened its.world is.store is.begins).world in
    let upto : List Event = between ++ (since ++ call ∷ earlier) in
    untold its is later between since earlier call answer number key ticket reply whole (λ begin told_so. none_told opening upto number begin opened (stayed_in opening opened (answer ∷ []) upto stays) told_so)
