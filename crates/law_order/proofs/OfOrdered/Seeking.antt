-- So each read that waits seeks a record of the device at each moment of a life, or its session was told that this is gone. And a poll tries a read only where it was.
use Rattle.std.proofs.Common.{◌≡◌, ◌⊎◌, inl, inr, ℕ, ◌∙◌, refl, sym, ap, subst, arith, Bool, true, false, List, [], ◌∷◌, ◌++◌}
use Rattle.std.specs.Prelude.{Some, slice_get}
use Rattle.std.specs.Option.{is_some}
use Rattle.fkv_map.specs.declared.operations.Call.{Call}
use Rattle.law_commit.specs.Below.fkv_ops.TryAnswer.{TryAnswer}
use Rattle.law_commit.specs.Below.fkv_ops.TryAnswer.TheVariants as answer
use Rattle.law_commit.specs.Below.fkv_ops.Occasion.{Occasion}
use Rattle.law_commit.specs.Below.fkv_ops.Occasion.TheVariants.{Call as AtCall, Poll as AtPoll}
use Rattle.law_commit.specs.Below.fkv_ops.Bounds.{bounds_of}
use Rattle.law_commit.specs.Below.fkv_ops.Seen.{Seen}
use Rattle.fkv_epoch.proofs.Shown.{some_same}
use Rattle.law_commit.specs.Below.fkv_pending.TheAttempting.TheVariants.{Looks, Tries}
use Rattle.law_commit.specs.Below.fkv_pending.PendingRequest.{PendingRequest}
use Rattle.law_commit.specs.Below.fkv_pending.Attempting.{AttemptState, attempt_ask, attempt_begun, is_poll}
use Rattle.law_commit.specs.Below.fkv_pending.Mailing.{mail_ask, mail_next}
use Rattle.law_commit.specs.Below.fkv_pending.Pending.{with_latch}
use Rattle.law_commit.proofs.Below.fkv_pending.Shown.{AttemptRestsOrAsks, attempt_begun_rests, attempt_rests}
use Rattle.fkv_plane.specs.declared.asks.Ask.TheVariants.{Done}
use Rattle.law_commit.specs.Below.fkv_session.Sessions.{Seat, SessionState, bits_of, is_busy, is_finished, request_in_hand, room_of, session_begun, session_next}
use Rattle.law_commit.proofs.Below.fkv_session.Shown.{attempt_ends}
use Rattle.law_commit.specs.Below.fkv_world.Moves.{Near, session_moved}
use Rattle.law_commit.specs.Below.fkv_world.Runs.{World, run}
use Rattle.law_commit.specs.Below.fkv_world.World.{Event, Now, near, seat_at}
use Rattle.law_commit.proofs.Below.fkv_world.Shown.{is_over}
use Rattle.law_commit.specs.Below.fkv_ops.Requests.{is_read}
use Rattle.law_commit.specs.Below.law_local.Sessions.Inputs.{AttemptsBy, IsAttemptInPoll}
use Rattle.law_commit.specs.Below.law_local.Sessions.Known.{KnowsRequests, attempt_after, catch_after, caught_up_at, is_accepted, is_attempting, with_op}
use Rattle.law_commit.proofs.Below.law_local.OfSessions.Known.{begun_known, next_known, opened_known, stays_known}
use Rattle.law_opening.proofs.OfChanges.OfSessions.Calm.{calm_known, is_calm, not_calm}
use Rattle.law_opening.proofs.OfChanges.OfSessions.Comes.{SessionComes, Stays, Begins, Steps, session_comes}
use Rattle.law_order.specs.Known.Begins.{BeginStays, BegunLife, begin_in}
use Rattle.law_order.specs.Known.Told.{reply_in}
use Rattle.law_order.specs.Ordered.Met.{AllReadsSeek, MeetsItsReads, PollsTryNoRead, PollsTryWhatIsGone, ReadsSeekOrWereTold, SeeksOr, WasToldGone}
use Rattle.law_order.specs.Rows.Asked.{AttemptSeeks, SeeksWhereAsked}
use Rattle.law_order.proofs.OfOrdered.Waits.{LooksSo, MeetsTry, SeeksBy, Waits, WaitsRow, attempt_begun_waits, attempt_waits, pending_on, row_on}
use Rattle.law_order.proofs.OfLooks.Looks.{TellsAbove, look_asks}
use Rattle.law_order.proofs.OfLooks.Ready.{look_mailing}
use Rattle.law_order.proofs.OfRows.Asks.{anew_seeks}
use Rattle.law_order.proofs.OfRows.Seeks.{attempt_begun_seeks, attempt_seeks, latch_seeks}
use Rattle.law_opening.proofs.OfChanges.OfSessions.Attempting.{life_attempts}
use Rattle.law_commit.specs.Below.fkv_world.Opened.{IsOpenedWorld}
use Rattle.law_commit.proofs.Below.law_world.OfKeeper.OwnRun.{keeper_goes_on}
use Rattle.law_commit.proofs.Below.law_refine.OfSeen.Alone.{moves_alone}
use Rattle.law_commit.proofs.Below.law_refine.OfSeen.There.{there_before}
use Rattle.law_commit.specs.Below.law_refine.Mail.Reads.{IsTaking}
use Rattle.law_commit.specs.Below.law_refine.Seen.Floors.{TellsUpto}

-- A request that waits seeks a record if it has asked for one. If it is of a read it seeks one, or goes by such a floor.
pub record PendingSo (G : ℕ → Type 0) (pending : PendingRequest) : Type 0 where
  pub asked : SeeksWhereAsked pending
  pub one : SeeksOr G pending

-- an attempt rests or asks, and leaves its read so
pub record AttemptSo (G : ℕ → Type 0) (a : AttemptState) : Type 0 where
  pub rests : AttemptRestsOrAsks a
  pub seeks : AttemptSeeks a
  pub waits : Waits G a

abbrev pub AllSo : (ℕ → Type 0) → SessionState → Type 0
AllSo G s = KnowsRequests (PendingSo G) (AttemptSo G) s

module _ (G : ℕ → Type 0) where
  latch_one : (pending : PendingRequest) → SeeksOr G pending → SeeksOr G (with_latch pending true)
  unfolding with_latch
  latch_one pending its = its

  accepted_one : (pending : PendingRequest) (has_shifted : Bool) (its : TryAnswer) → is_accepted has_shifted its ≡ true → SeeksBy G pending its → SeeksOr G pending
  accepted_one pending has_shifted (answer.Wait why) e so = so
  accepted_one pending has_shifted (answer.AwaitsDisk it) e so = so
  accepted_one pending has_shifted answer.Shift e so = so
  accepted_one pending has_shifted its e so = cc

  kept_one : (pending : PendingRequest) (its : TryAnswer) → is_finished its ≡ false → SeeksBy G pending its → SeeksOr G pending
  kept_one pending (answer.Wait why) e so = so
  kept_one pending (answer.AwaitsDisk it) e so = so
  kept_one pending answer.Shift e so = so
  kept_one pending answer.IndexFull e so = so
  kept_one pending answer.LogFull e so = so
  kept_one pending its e so = cc

  -- by the answer to which an attempt has come
  comes_one : (k : Seat) (a : AttemptState) (its : TryAnswer) → attempt_ask k.places k.number a ≡ Done its → AttemptSo G a → SeeksBy G a.pending its
  comes_one k a its comes so = subst (WaitsRow G a) (attempt_ends k.places k.number a its so.rests comes) so.waits

  begun_so : (k : Seat) (pending : PendingRequest) (seen : Seen) (occasion : Occasion) (spare : ℕ) (is_orphaned : Bool) → SeeksWhereAsked pending → (is_poll occasion ≡ true → SeeksOr G pending) → AttemptSo G (attempt_begun k.places (bits_of k) pending seen occasion spare is_orphaned)
  begun_so k pending seen occasion spare is_orphaned asked one = record {
    rests = attempt_begun_rests k.places (bits_of k) pending seen occasion spare is_orphaned;
    seeks = attempt_begun_seeks k.places (bits_of k) pending seen occasion spare is_orphaned asked;
    waits = attempt_begun_waits G k.places (bits_of k) pending seen occasion spare is_orphaned asked one;
  }

  pub next_so : (k : Seat) (s : SessionState) (reply : ℕ) → (is_attempting s.step ≡ true → s.attempt.step ≡ Tries → MeetsTry k.places (room_of k) s.attempt reply)
      → (is_attempting s.step ≡ true → s.attempt.step ≡ Looks → LooksSo G k.number s.attempt reply) → AllSo G s → AllSo G (session_next k s reply)
  next_so k s reply met told all =
      next_known (PendingSo G) (PendingSo G) (AttemptSo G) (AttemptSo G) k s reply all
      (record {
        waits = λ pending its. its;
        attempts = λ attempting its. record {
          rests = attempt_rests k.places (bits_of k) (room_of k) k.number s.attempt reply its.rests;
          seeks = attempt_seeks k.places (bits_of k) (room_of k) k.number s.attempt reply its.seeks;
          waits = attempt_waits G k.places (bits_of k) (room_of k) k.number s.attempt reply its.rests (met attempting) (told attempting) its.waits;
        };
        accepts = λ has_shifted its at comes accepted after. record {
          asked = after.seeks.pending;
          one = accepted_one (attempt_after k s reply).pending has_shifted its accepted (comes_one k (attempt_after k s reply) its comes after);
        };
        keeps = λ index its at comes waits after. record {
          asked = after.seeks.pending;
          one = kept_one (attempt_after k s reply).pending its waits (comes_one k (attempt_after k s reply) its comes after);
        };
        hands_over = λ polling pending spare is_orphaned its. begun_so k pending s.seen AtPoll spare is_orphaned its.asked (λ poll. its.one);
        begins_anew = λ its at done spare is_orphaned. begun_so k (request_in_hand (caught_up_at k s reply)) (catch_after k s reply).seen (AtCall (bounds_of k.shape)) spare is_orphaned (anew_seeks (caught_up_at k s reply)) (λ poll. cc);
        latches = λ cause pending at its. record { asked = latch_seeks pending true its.asked; one = latch_one pending its.one };
      })

  pub call_so : (k : Seat) (s : SessionState) (its : Call) → is_busy s.step ≡ false → AllSo G s → AllSo G (session_begun k s its)
  call_so k s its idle all =
      begun_known (PendingSo G) (AttemptSo G) k s its idle all
      (record {
        calls = λ op is none spare is_orphaned. begun_so k (request_in_hand (with_op s op)) s.seen (AtCall (bounds_of k.shape)) spare is_orphaned (anew_seeks (with_op s op)) (λ poll. cc);
        polls = λ is awake pending spare is_orphaned its. begun_so k pending s.seen AtPoll spare is_orphaned its.asked (λ poll. its.one);
      })

-- what is known of floors goes on
all_on : (G G' : ℕ → Type 0) → ((floor : ℕ) → G floor → G' floor) → (s : SessionState) → AllSo G s → AllSo G' s
all_on G G' on s all =
    stays_known (PendingSo G) (PendingSo G') (AttemptSo G) (AttemptSo G') s (λ pending its. record { asked = its.asked; one = pending_on G G' on pending its.one })
    (λ attempting its. record { rests = its.rests; seeks = its.seeks; waits = row_on G G' on s.attempt s.attempt.step its.waits }) all

-- ---- in a life
abbrev pub AllSeekSo : World → List Event → Type 0
AllSeekSo opening events = (session : ℕ) (s : SessionState) → slice_get (run opening events).now.sessions session ≡ Some s → AllSo (WasToldGone opening session events) s

pub seeking_first : (life : BegunLife) → AllSeekSo life.opening []
unfolding run
seeking_first life session s found = opened_known (PendingSo (WasToldGone life.opening session [])) (AttemptSo (WasToldGone life.opening session [])) s (life.begins.world.sessions session s found)

pub seeking_all : (opening : World) (events : List Event) → AllSeekSo opening events → ReadsSeekOrWereTold opening events
seeking_all opening events all session s index pending found got other = ((all session s found).waiting index pending got other).one

-- a poll's attempt has its occasion
pub seeking_polls : (life : BegunLife) (events : List Event) → AllSeekSo life.opening events → PollsTryWhatIsGone life.opening events
seeking_polls life events all session s index found at tries read = row.1 (ap is_poll in_poll.goes.its_occasion) read
  where
    in_poll : IsAttemptInPoll (seat_at life.opening.now session) s index
    in_poll = subst (AttemptsBy (seat_at life.opening.now session) s) at (life_attempts life.opening events session s life.begins.world found)

    row : WaitsRow (WasToldGone life.opening session events) s.attempt Tries
    row = subst (WaitsRow (WasToldGone life.opening session events) s.attempt) tries ((all session s found).attempted (ap is_attempting at)).waits

-- ---- while the log begins where it did at first nobody is told so
pub none_told : (opening : World) (events : List Event) (session floor : ℕ) → IsOpenedWorld opening → BeginStays opening events → WasToldGone opening session events floor → ⊥
none_told opening events session floor opened stays told =
    let above = told.above in
    let upto = told.upto in
    let next = keeper_goes_on opening (told.event ∷ []) told.earlier opened in
    let later = keeper_goes_on opening told.later (told.event ∷ told.earlier) opened in
    let same = ap (λ (es : List Event). begin_in (run opening es)) told.cut in
    omega (arith, above, upto, next, later, same, stays)

seeks_one : (life : BegunLife) (events : List Event) (session floor : ℕ) (some : Bool) → BeginStays life.opening events → (some ≡ true) ⊎ WasToldGone life.opening session events floor → some ≡ true
seeks_one life events session floor some stays (inl is) = is
seeks_one life events session floor some stays (inr told) = absurd (none_told life.opening events session floor life.begins.world stays told)

pub stays_seeking : (life : BegunLife) (events : List Event) → BeginStays life.opening events → ReadsSeekOrWereTold life.opening events → AllReadsSeek life.opening events
stays_seeking life events stays all session s index pending found got other = λ read.
    seeks_one life events session pending.request.floor.0 (is_some pending.sought) stays (all session s index pending found got other read)

pub stays_untried : (life : BegunLife) (events : List Event) → BeginStays life.opening events → PollsTryWhatIsGone life.opening events → PollsTryNoRead life.opening events
stays_untried life events stays all session s index found at tries = by_read (is_read s.attempt.pending.request.op) refl
  where
    by_read : (b : Bool) → is_read s.attempt.pending.request.op ≡ b → b ≡ false
    by_read true read = absurd (none_told life.opening events session s.attempt.pending.request.floor.0 life.begins.world stays (all session s index found at tries read).1)
    by_read false read = refl

-- ---- by each event
pub told_on : (opening : World) (session : ℕ) (event : Event) (before : List Event) (floor : ℕ) → WasToldGone opening session before floor → WasToldGone opening session (event ∷ before) floor
told_on opening session event before floor told = record {
  later = event ∷ told.later;
  event = told.event;
  earlier = told.earlier;
  its = told.its;
  cut = ap (λ (es : List Event). event ∷ es) told.cut;
  takes = told.takes;
  gone = told.gone;
  tells = told.tells;
  above = told.above;
  upto = told.upto;
}

pub told_later : (opening : World) (session : ℕ) (later before : List Event) (floor : ℕ) → WasToldGone opening session before floor → WasToldGone opening session (later ++ before) floor
told_later opening session [] before floor told = told
told_later opening session (event ∷ later) before floor told = told_on opening session event (later ++ before) floor (told_later opening session later before floor told)

module _ (life : BegunLife) (before : List Event) (event : Event) (met : MeetsItsReads life.opening before) (tells_above : TellsAbove (begin_in life.opening) (run life.opening before).now)
    (tells_upto : TellsUpto (begin_in (run life.opening before)) (run life.opening before).now) (all : AllSeekSo life.opening before) where
  abbrev W : World
  W = run life.opening before

  abbrev N : Now
  N = W.now

  module _ (session : ℕ) (s after : SessionState) (was : slice_get N.sessions session ≡ Some s) (is_now : slice_get (run life.opening (event ∷ before)).now.sessions session ≡ Some after) where
    abbrev K : Seat
    K = seat_at N session

    abbrev G : ℕ → Type 0
    G = WasToldGone life.opening session (event ∷ before)

    all_was : AllSo G s
    all_was = all_on (WasToldGone life.opening session before) G (told_on life.opening session event before) s (all session s was)

    -- who is told that a record is gone is told so now
    told_now : N.crashed ≡ false → is_attempting s.step ≡ true → s.attempt.step ≡ Looks → LooksSo G session s.attempt (reply_in N session s)
    told_now alive attempting looks its takes gone =
        let taking : IsTaking N session its = record {
          taker = s;
          there = was;
          step = s.attempt.mailing;
          under_way = look_mailing s s.step attempting looks;
          takes = ap (λ (reply : ℕ). mail_ask session (mail_next s.attempt.mailing reply)) (sym (look_asks N session s attempting looks)) ∙ takes;
        } in
        record {
          later = [];
          event = event;
          earlier = before;
          its = its;
          cut = refl;
          takes = taking;
          gone = gone;
          tells = refl;
          above = tells_above alive session its taking gone;
          upto = tells_upto alive session its taking gone;
        }

    moved : N.crashed ≡ false → after ≡ (session_moved K (near N s)).machine → (calm : Bool) → is_calm s.step ≡ calm → AllSo G after
    moved alive is true e = subst (AllSo G) (sym is) (calm_known (PendingSo G) (AttemptSo G) K (near N s) e all_was)
    moved alive is false e =
        let busy = not_calm s.step e in
        subst (AllSo G) (sym (is ∙ ap (λ (x : Near SessionState). x.machine) (moves_alone life.opening life.start before session s life.begins.store.now was busy.0 busy.1)))
        (next_so G K s (reply_in N session s) (λ attempting tries its ends read. met session s its was attempting tries read ends) (told_now alive) all_was)

    comes : N.crashed ≡ false → SessionComes W session s after → AllSo G after
    comes alive (Stays is) = subst (AllSo G) (sym is) all_was
    comes alive (Begins its idle is) = subst (AllSo G) (sym is) (call_so G K s its idle all_was)
    comes alive (Steps is) = moved alive is (is_calm s.step) refl

    goes : AllSo G after
    unfolding run
    goes = by_crash N.crashed refl
      where
        by_crash : (c : Bool) → N.crashed ≡ c → AllSo G after
        by_crash true over = subst (AllSo G) (some_same s after (sym was ∙ (sym (ap (λ (x : World). slice_get x.now.sessions session) (is_over W event over)) ∙ is_now))) all_was
        by_crash false alive = comes alive (session_comes W event session s after was is_now)

  pub seeking_then : AllSeekSo life.opening (event ∷ before)
  unfolding run
  seeking_then session after is_now = let s = there_before W event session after is_now in goes session s.0 after s.1 is_now
