-- A step of a session, with the drain slot that it turns to behind it, leaves its reads as far as its control state says.
use Rattle.std.proofs.Common.{◌≡◌, ℕ, zero, suc, ◌∙◌, refl, sym, ap, subst, true, false, List, [], ◌∷◌, ◌++◌}
use Rattle.std.specs.Prelude.{Option, Some, None}
use Rattle.law_log.specs.Begins.{Live}
use Rattle.law_log.specs.Ghosts.{Ghosts, GhostEvent, Tells, FindsEntry, TakesValue, ghost_run}
use Rattle.fkv_plane.specs.declared.actions.Action.{Action}
use Rattle.fkv_plane.specs.declared.asks.Ask.{Ask}
use Rattle.fkv_plane.specs.declared.asks.Ask.TheVariants.{Put, Take, Done}
use Rattle.fkv_plane.specs.Asked.{reply_to}
use Rattle.fkv_plane.specs.Passing.{passed, is_done}
use Rattle.fkv_plane.specs.Plane.{action_at}
use Rattle.law_commit.specs.Below.fkv_pending.PendingRequest.{PendingRequest}
use Rattle.law_commit.specs.Below.fkv_ops.Requests.{is_read}
use Rattle.law_commit.specs.Below.fkv_pending.Attempting.{AttemptState, is_poll, attempt_ask}
use Rattle.law_commit.specs.Below.fkv_session.Accounts.{names_of}
use Rattle.law_commit.specs.Below.fkv_session.Told.{Told}
use Rattle.law_commit.specs.Below.fkv_session.Told.TheVariants as told
use Rattle.law_commit.specs.Below.fkv_session.Sitting.{Sitting}
use Rattle.law_commit.specs.Below.fkv_session.Sitting.TheVariants.{Idle, Attempts, Polls}
use Rattle.law_commit.specs.Below.fkv_session.SessionRun.{SessionEvent, Replies, session_happens, session_run}
use Rattle.law_commit.specs.Below.fkv_session.Sessions.{SessionState, Seat, is_busy, sitting_ask, session_ask, session_next}
use Rattle.law_commit.proofs.Below.fkv_session.Shown.{IsUnderWay}
use Rattle.law_commit.specs.Below.law_local.Sessions.Inputs.{AttemptsSo}
use Rattle.law_commit.specs.Below.law_local.Sessions.Known.{is_attempting}
use Rattle.law_commit.proofs.Below.law_local.OfSessions.SessionInputs.{attempt_at_call, attempt_in_poll}
use Rattle.law_commit.specs.Below.law_local.Tries.AttemptRows.{AttemptKnows, IsTrueOfAttempt}
use Rattle.law_commit.specs.Below.law_local.Tries.TryRows.{floor_in}
use Rattle.law_commit.specs.Below.law_local.Tries.OnWay.{IsOrderly}
use Rattle.law_commit.specs.Below.fkv_world.Moves.{Near}
use Rattle.law_commit.specs.Below.fkv_world.OwnEvents.{session_got, session_slots, session_steps}
use Rattle.law_commit.specs.Below.fkv_world.Past.{Traced}
use Rattle.law_commit.proofs.Below.fkv_world.Shown.{session_runs_on}
use Rattle.law_commit.specs.Below.law_world.GuardKeeper.Settled.{is_of_slot}
use Rattle.law_order.specs.Known.Told.{AreApart}
use Rattle.law_commit.specs.Below.law_refine.Events.Names.{IsNamedSo, AreNamedSo, AttemptsNamedSo, RequestsAreNamed}
use Rattle.law_commit.specs.Below.law_refine.Events.Lines.{read_in_hand, read_waiting}
use Rattle.law_commit.specs.Below.law_refine.Events.Sessions.{attempt_ghosts, ticket_of, sitting_ghosts, step_ghosts}
use Rattle.law_order.specs.Reads.Reads.{SessionReadings, readings_of, SitsReads}
use Rattle.law_order.proofs.OfReads.Coming.{AllNamed, ComesTo, Comes, IsFreshly, MovedSo, next_comes, given_comes}
use Rattle.law_order.proofs.OfReads.Moved.{call_moves, poll_moves}
use Rattle.law_commit.proofs.Below.law_world.OfRuns.NoSlots.{IsOffSlots, passed_off, attempt_off_slots}
use Rattle.law_order.proofs.OfReads.Numbers.{IsOwn, Numbered}
use Rattle.law_order.proofs.OfReads.ReadEnds.{passed_done}
use Rattle.law_order.proofs.OfReads.Touched.{touches, AllTouch, IsItsRead, attempt_touch}

-- what is known of a session that has a call in hand, before its step
pub record StepFacts (home : ℕ → ℕ) (g : Ghosts) (k : Seat) (trace : List Traced) (words : List ℕ) (s : SessionState) : Type 0 where
  pub busy : is_busy s.step ≡ true
  pub orderly : IsOrderly home g.log
  pub live : is_attempting s.step ≡ true → Live (floor_in s.attempt.pending.request) home g.log
  pub knows : is_attempting s.step ≡ true → AttemptKnows home g.log s.attempt
  pub says : is_attempting s.step ≡ true → IsTrueOfAttempt home g.log k.places s.attempt s.attempt.step (reply_to words (session_ask k s))
  pub inputs : AttemptsSo k s
  pub under_way : is_attempting s.step ≡ true → IsUnderWay s.attempt
  pub named : RequestsAreNamed s
  pub apart : AreApart (names_of s.requests)
  pub numbered : Numbered k.number trace true
  pub reads : SitsReads (readings_of g.reads trace k.number) s s.step

-- ---- control states
pub busy_comes : (r : SessionReadings) (s : SessionState) (step : Sitting) → is_busy step ≡ true → SitsReads r s step → ComesTo r s step
busy_comes r s (Idle its) busy so = cc
busy_comes r s step busy so = so

quiet_moved : (r : SessionReadings) (k : Seat) (s : SessionState) (step : Sitting) (reply : ℕ) → is_busy step ≡ true → is_attempting step ≡ false → ComesTo r s step → MovedSo r k s step reply
quiet_moved r k s (Idle its) reply busy quiet so = cc
quiet_moved r k s (Attempts has_shifted) reply busy quiet so = cc
quiet_moved r k s (Polls index) reply busy quiet so = cc
quiet_moved r k s step reply busy quiet so = so

-- ---- slots
off_slot : {X : Type 0} (ask : Ask Told) → IsOffSlots ask → is_of_slot ask ≡ true → X
off_slot (Put slot action) off is = absurd off
off_slot (Take slot) off is = absurd off
off_slot ask off is = cc

-- who turns to a slot attempts nothing
asks_slot : (k : Seat) (s : SessionState) (step : Sitting) → is_of_slot (sitting_ask k s step) ≡ true → (is_busy step ≡ true) × (is_attempting step ≡ false)
unfolding sitting_ask
asks_slot k s (Idle its) is = cc
asks_slot k s (Attempts has_shifted) is = off_slot (passed (attempt_ask k.places k.number s.attempt) told.Slept) (passed_off (attempt_ask k.places k.number s.attempt) told.Slept (attempt_off_slots k.places k.number s.attempt s.attempt.step)) is
asks_slot k s (Polls index) is = off_slot (passed (attempt_ask k.places k.number s.attempt) told.Slept) (passed_off (attempt_ask k.places k.number s.attempt) told.Slept (attempt_off_slots k.places k.number s.attempt s.attempt.step)) is
asks_slot k s step is = (refl, refl)

put_comes : (r : SessionReadings) (k : Seat) (s : SessionState) → is_of_slot (session_ask k s) ≡ true → Comes r s → IsFreshly (session_next k s 0) → Comes r (session_next k s 0)
put_comes r k s is so fresh = let at = asks_slot k s s.step is in next_comes r k s 0 (quiet_moved r k s s.step 0 at.0 at.1 so) fresh

got_comes : (r : SessionReadings) (k : Seat) (s : SessionState) (found : Option Action) → Comes r s → Comes r (session_run k s (session_got found))
unfolding session_run session_happens
got_comes r k s None so = so
got_comes r k s (Some action) so = given_comes r k s action so

slots_by : (r : SessionReadings) (k : Seat) (s : SessionState) (actions : List (Option Action)) (ask : Ask Told) → session_ask k s ≡ ask → Comes r s → IsFreshly (session_run k s (session_slots actions ask)) → Comes r (session_run k s (session_slots actions ask))
unfolding session_run session_happens session_slots
slots_by r k s actions (Put slot action) asks so fresh = put_comes r k s (ap is_of_slot asks) so fresh
slots_by r k s actions (Take slot) asks so fresh = got_comes r k s (action_at actions slot) so
slots_by r k s actions ask asks so fresh = so

-- a call that has come to its end turns to none
idle_final : (k : Seat) (s : SessionState) (actions : List (Option Action)) (its : Told) → s.step ≡ Idle its → session_run k s (session_slots actions (session_ask k s)) ≡ s
unfolding session_run session_slots sitting_ask
idle_final k s actions its at = ap (λ (step : Sitting). session_run k s (session_slots actions (sitting_ask k s step))) at

-- ---- a reply, and the slot behind it
one_reply : (k : Seat) (s : SessionState) (reply : ℕ) (later : List SessionEvent) → session_run k s (later ++ Replies reply ∷ []) ≡ session_run k (session_next k s reply) later
unfolding session_run session_happens
one_reply k s reply later = session_runs_on k s later (Replies reply ∷ [])

word_comes : (r : SessionReadings) (k : Seat) (s : SessionState) (actions : List (Option Action)) (reply : ℕ) → MovedSo r k s s.step reply
    → IsFreshly (session_run k s (session_slots actions (session_ask k (session_next k s reply)) ++ Replies reply ∷ [])) → Comes r (session_run k s (session_slots actions (session_ask k (session_next k s reply)) ++ Replies reply ∷ []))
word_comes r k s actions reply moved fresh =
    let after : SessionState = session_next k s reply in
    let slots : List SessionEvent = session_slots actions (session_ask k after) in
    let same : session_run k s (slots ++ Replies reply ∷ []) ≡ session_run k after slots = one_reply k s reply slots in
    let freshly : IsFreshly (session_run k after slots) = subst IsFreshly same fresh in
    let settled : IsFreshly after = λ ticket at. subst (λ (x : SessionState). AreApart (names_of x.requests)) (idle_final k after actions (told.PendingRead ticket) at) (freshly ticket (ap (λ (x : SessionState). x.step) (idle_final k after actions (told.PendingRead ticket) at) ∙ at)) in
    subst (Comes r) (sym same) (slots_by r k after actions (session_ask k after) refl (next_comes r k s reply moved settled) freshly)

-- ---- the step itself
all_named : (requests : List PendingRequest) → AreNamedSo requests → AllNamed requests
all_named [] all index pending got = cc
all_named (o ∷ rest) all zero pending got = let same : o ≡ pending = cc in subst IsNamedSo same all.0
all_named (o ∷ rest) all (suc index) pending got = all_named rest all.1 index pending got

sitting_moves : (home : ℕ → ℕ) (g : Ghosts) (k : Seat) (trace : List Traced) (words : List ℕ) (s : SessionState) (step : Sitting) → s.step ≡ step → StepFacts home g k trace words s → is_done (session_ask k s) ≡ false
    → MovedSo (readings_of (ghost_run home g (sitting_ghosts k trace s step (reply_to words (session_ask k s)))).reads trace k.number) k s step (reply_to words (session_ask k s))
unfolding ghost_run sitting_ask
sitting_moves home g k trace words s (Idle its) at facts asks = let busy = sym (ap is_busy at) ∙ facts.busy in cc
sitting_moves home g k trace words s (Attempts has_shifted) at facts asks =
    call_moves home g k trace s has_shifted (reply_to words (session_ask k s))
    (record {
      orderly = facts.orderly;
      live = facts.live (ap is_attempting at);
      knows = facts.knows (ap is_attempting at);
      says = facts.says (ap is_attempting at);
      asks = sym (passed_done (attempt_ask k.places k.number s.attempt) told.Slept) ∙ (sym (ap (λ (x : Sitting). is_done (sitting_ask k s x)) at) ∙ asks);
      under_way = facts.under_way (ap is_attempting at);
    })
    (attempt_at_call k s has_shifted at facts.inputs) (all_named s.requests facts.named.waiting) facts.numbered (subst (SitsReads (readings_of g.reads trace k.number) s) at facts.reads)
sitting_moves home g k trace words s (Polls index) at facts asks =
    poll_moves home g k trace s index (reply_to words (session_ask k s))
    (record {
      orderly = facts.orderly;
      live = facts.live (ap is_attempting at);
      knows = facts.knows (ap is_attempting at);
      says = facts.says (ap is_attempting at);
      asks = sym (passed_done (attempt_ask k.places k.number s.attempt) told.Slept) ∙ (sym (ap (λ (x : Sitting). is_done (sitting_ask k s x)) at) ∙ asks);
      under_way = facts.under_way (ap is_attempting at);
    })
    (attempt_in_poll k s index at facts.inputs) (all_named s.requests facts.named.waiting) (subst (AttemptsNamedSo s) at facts.named.attempted) facts.apart facts.numbered
    (subst (SitsReads (readings_of g.reads trace k.number) s) at facts.reads)
sitting_moves home g k trace words s step at facts asks = subst (SitsReads (readings_of g.reads trace k.number) s) at facts.reads

pub steps_by : (home : ℕ → ℕ) (g : Ghosts) (k : Seat) (trace : List Traced) (n : Near SessionState) (ask : Ask Told) → session_ask k n.machine ≡ ask → StepFacts home g k trace n.words n.machine
    → IsFreshly (session_run k n.machine (session_steps k n ask)) → Comes (readings_of (ghost_run home g (step_ghosts k trace n.machine n.words ask)).reads trace k.number) (session_run k n.machine (session_steps k n ask))
unfolding session_steps session_slots session_run session_happens step_ghosts ghost_run
steps_by home g k trace n (Done its) asks facts fresh = busy_comes (readings_of g.reads trace k.number) n.machine n.machine.step facts.busy facts.reads
steps_by home g k trace n (Put slot action) asks facts fresh =
    put_comes (readings_of g.reads trace k.number) k n.machine (ap is_of_slot asks) (busy_comes (readings_of g.reads trace k.number) n.machine n.machine.step facts.busy facts.reads) fresh
steps_by home g k trace n (Take slot) asks facts fresh =
    got_comes (readings_of g.reads trace k.number) k n.machine (action_at n.actions slot) (busy_comes (readings_of g.reads trace k.number) n.machine n.machine.step facts.busy facts.reads)
steps_by home g k trace n ask asks facts fresh =
    let s : SessionState = n.machine in
    word_comes (readings_of (ghost_run home g (sitting_ghosts k trace s s.step (reply_to n.words ask))).reads trace k.number) k s n.actions (reply_to n.words ask)
    (subst (λ (a : Ask Told). MovedSo (readings_of (ghost_run home g (sitting_ghosts k trace s s.step (reply_to n.words a))).reads trace k.number) k s s.step (reply_to n.words a)) asks
    (sitting_moves home g k trace n.words s s.step refl facts (ap is_done asks))) fresh

-- ---- the reads that it touches are the session's own
touch_more : (Such Other : ℕ → Type 0) (events : List GhostEvent) → ((reader : ℕ) → Such reader → Other reader) → AllTouch Such events → AllTouch Other events
touch_more Such Other [] more all = tt
touch_more Such Other (event ∷ before) more all = (by_event event all.0, touch_more Such Other before more all.1)
  where
    by_event : (event : GhostEvent) → touches Such event → touches Other event
    by_event (FindsEntry reader) its = more reader its
    by_event (TakesValue reader) its = more reader its
    by_event (Tells line) its = absurd its
    by_event event its = tt

attempt_own : (k : Seat) (trace : List Traced) (reader : ℕ) (a : AttemptState) (reply : ℕ) → (is_read a.pending.request.op ≡ true → IsOwn k.number reader trace) → AllTouch (λ other. IsOwn k.number other trace) (attempt_ghosts k reader a reply)
attempt_own k trace reader a reply own =
    touch_more (IsItsRead a.pending.request.op reader) (λ other. IsOwn k.number other trace) (attempt_ghosts k reader a reply) (λ other its. subst (λ n. IsOwn k.number n trace) (sym its.1) (own its.0)) (attempt_touch k reader a reply)

sitting_touch : (home : ℕ → ℕ) (g : Ghosts) (k : Seat) (trace : List Traced) (words : List ℕ) (s : SessionState) (step : Sitting) (reply : ℕ) → s.step ≡ step → StepFacts home g k trace words s → AllTouch (λ other. IsOwn k.number other trace) (sitting_ghosts k trace s step reply)
sitting_touch home g k trace words s (Attempts has_shifted) reply at facts = attempt_own k trace (read_in_hand k.number trace) s.attempt reply (λ read. facts.numbered.in_hand refl)
sitting_touch home g k trace words s (Polls index) reply at facts =
    attempt_own k trace (read_waiting k.number (ticket_of s.attempt.pending.name) trace) s.attempt reply
    (λ read.
    let so : SitsReads (readings_of g.reads trace k.number) s (Polls index) = subst (SitsReads (readings_of g.reads trace k.number) s) at facts.reads in
    let polled = (attempt_in_poll k s index at facts.inputs).goes.its_occasion in
    facts.numbered.waits (ticket_of s.attempt.pending.name) ((so.1 read).0 (ap is_poll polled)))
sitting_touch home g k trace words s step reply at facts = tt

pub steps_touch : (home : ℕ → ℕ) (g : Ghosts) (k : Seat) (trace : List Traced) (words : List ℕ) (s : SessionState) (ask : Ask Told) → StepFacts home g k trace words s → AllTouch (λ other. IsOwn k.number other trace) (step_ghosts k trace s words ask)
unfolding step_ghosts
steps_touch home g k trace words s (Done its) facts = tt
steps_touch home g k trace words s (Put slot action) facts = tt
steps_touch home g k trace words s (Take slot) facts = tt
steps_touch home g k trace words s ask facts = sitting_touch home g k trace words s s.step (reply_to words ask) refl facts
