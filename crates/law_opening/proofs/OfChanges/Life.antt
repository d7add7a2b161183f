-- At every moment of a life each session goes by what is published. So what it changes in place is published.
use Rattle.std.proofs.Common.{◌≡◌, ℕ, ◌∙◌, refl, ap, sym, subst, Bool, true, false, List, [], ◌∷◌}
use Rattle.std.specs.Prelude.{Option, Some, None, slice_get}
use Rattle.fkv_epoch.proofs.Shown.{none_some, some_same}
use Rattle.law_refine.specs.Below.fkv_ops.Walking.{WalkState}
use Rattle.law_refine.specs.Below.fkv_ops.Occasion.TheVariants.{Call as AtCall, Poll as AtPoll}
use Rattle.law_refine.specs.Below.fkv_ops.TheTrying.{Trying}
use Rattle.law_refine.specs.Below.fkv_ops.TheTrying.TheVariants.{SwapsValue, ChangesValue}
use Rattle.law_refine.specs.Below.fkv_pending.Attempting.{AttemptState}
use Rattle.law_refine.specs.Below.fkv_pending.TheAttempting.{Attempting}
use Rattle.law_refine.specs.Below.fkv_pending.TheAttempting.TheVariants.{Tries}
use Rattle.law_refine.specs.Below.fkv_pending.PendingRequest.{PendingRequest}
use Rattle.fkv_plane.specs.Asked.{reply_to}
use Rattle.law_refine.specs.Below.fkv_session.Sessions.{SessionState, Seat, bits_of, request_in_hand, room_of, session_ask, session_next}
use Rattle.law_refine.specs.Below.fkv_session.Sitting.{Sitting}
use Rattle.law_refine.specs.Below.fkv_session.Sitting.TheVariants.{Attempts, Polls}
use Rattle.law_refine.specs.Below.fkv_world.Moves.{Near, session_moved}
use Rattle.law_refine.specs.Below.fkv_world.Runs.{World, run}
use Rattle.law_refine.specs.Below.fkv_world.World.{Event, Moves, Now, near, seat_at}
use Rattle.law_refine.proofs.Below.fkv_world.Shown.{same_seat}
use Rattle.law_refine.specs.Below.law_world.GuardSessions.InPlace.{attempt_changes, sitting_changes, try_changes}
use Rattle.law_refine.specs.Below.law_local.Sessions.Inputs.{AttemptsSo}
use Rattle.law_refine.specs.Below.law_local.Sessions.Known.{KnowsRequests, attempt_after, catch_after, caught_up_at, is_attempting, with_op}
use Rattle.law_refine.proofs.Below.law_local.OfSessions.Known.{begun_known, next_known, opened_known, stays_known}
use Rattle.law_log.specs.Ghosts.{Ghosts, Log}
use Rattle.law_refine.specs.Events.GhostEvents.{life_ghosts}
use Rattle.law_refine.specs.Events.Published.{IsPublished}
use Rattle.law_refine.specs.Heads.Heads.{head_at}
use Rattle.law_refine.specs.Heads.Searches.{home_attempted}
use Rattle.law_refine.specs.Records.Changes.{AreChangesPublished, ChangesPublished, SessionChangesPublished}
use Rattle.law_refine.proofs.OfHeads.LifeHeads.{life_found}
use Rattle.law_refine.proofs.OfSeen.Alone.{moves_alone}
use Rattle.law_refine.proofs.OfSeen.There.{there_before}
use Rattle.law_refine.specs.Events.GhostEvents.{home_number}
use Rattle.law_opening.specs.Changes.Laws.{BeginsLinked}
use Rattle.law_opening.specs.Changes.Linked.{IsLed}
use Rattle.law_opening.proofs.OfChanges.AttemptRows.{AttemptTold, attempt_begins, attempt_so}
use Rattle.law_opening.proofs.OfChanges.OfSessions.Attempting.{life_attempts}
use Rattle.law_opening.proofs.OfChanges.OfSessions.Calm.{calm_known, is_calm, not_calm}
use Rattle.law_opening.proofs.OfChanges.OfSessions.Comes.{SessionComes, Stays, Begins, Steps, session_comes}
use Rattle.law_opening.proofs.OfChanges.LifeLogs.{life_linked, life_stays}
use Rattle.law_opening.proofs.OfChanges.Rows.{AttemptKnown, AttemptSo, TrySo, attempt_grows, made_previous}
use Rattle.law_opening.proofs.OfChanges.Told.{headers_lead, session_told}
use Rattle.law_refine.specs.Below.fkv_ops.Bounds.{bounds_of}

-- nothing need be known of a request that waits: each try begins with an entry of the index
abbrev pub NoneNeeded : PendingRequest → Type 0
NoneNeeded pending = Unit {0}

abbrev pub SessionKnown : Log → SessionState → Type 0
SessionKnown log s = KnowsRequests NoneNeeded (λ a. AttemptKnown log a) s

abbrev pub AllKnown : World → Ghosts → List Event → Type 0
AllKnown opening ghosts events = (session : ℕ) (s : SessionState) → slice_get (run opening events).now.sessions session ≡ Some s → SessionKnown (life_ghosts opening ghosts events).log s

-- ---- what it changes in place
at_published : (log : Log) (at a : ℕ) → IsPublished (log.cells at) → Some at ≡ Some a → IsPublished (log.cells a)
at_published log at a its e = subst (λ (i : ℕ). IsPublished (log.cells i)) (some_same at a e) its

try_published : (log : Log) (w : WalkState) (previous : ℕ) (step : Trying) (a : ℕ) → TrySo log w previous step → try_changes step ≡ Some a → IsPublished (log.cells a)
try_published log w previous (SwapsValue addr) a so e = at_published log addr.0 a so.0 e
try_published log w previous (ChangesValue addr old) a so e = at_published log addr.0 a so.0 e
try_published log w previous step a so e = none_some a e

attempt_published : (log : Log) (its : AttemptState) (step : Attempting) (a : ℕ) → AttemptSo log its.trial step → attempt_changes its step ≡ Some a → IsPublished (log.cells a)
attempt_published log its Tries a so e = try_published log its.trial.walk (made_previous its.trial) its.trial.step a so.1 e
attempt_published log its step a so e = none_some a e

sitting_published : (log : Log) (s : SessionState) (step : Sitting) (a : ℕ) → (is_attempting step ≡ true → AttemptKnown log s.attempt) → sitting_changes s step ≡ Some a → IsPublished (log.cells a)
sitting_published log s (Attempts has_shifted) a knows e = attempt_published log s.attempt s.attempt.step a (knows refl) e
sitting_published log s (Polls index) a knows e = attempt_published log s.attempt s.attempt.step a (knows refl) e
sitting_published log s step a knows e = none_some a e

session_published : (log : Log) (found : Option SessionState) → ((s : SessionState) → found ≡ Some s → SessionKnown log s) → SessionChangesPublished log found
session_published log None knows = tt
session_published log (Some s) knows = λ a e. sitting_published log s s.step a (knows s refl).attempted e

changes_published : (opening : World) (ghosts : Ghosts) (before : List Event) (event : Event) → AllKnown opening ghosts before → ChangesPublished (run opening before).now (life_ghosts opening ghosts before).log event
changes_published opening ghosts before (Moves session) known = session_published (life_ghosts opening ghosts before).log (slice_get (run opening before).now.sessions session) (λ s found. known session s found)
changes_published opening ghosts before event known = tt

-- what an attempt is told leads to published records
pub life_told : (opening : World) (start : ℕ) (lists : ℕ → List ℕ) (ghosts : Ghosts) (events : List Event) (session : ℕ) (s : SessionState) → BeginsLinked opening start lists ghosts → AreChangesPublished opening ghosts events
    → slice_get (run opening events).now.sessions session ≡ Some s → is_attempting s.step ≡ true
    → AttemptTold (life_ghosts opening ghosts events).log (run opening events).now.places s.attempt s.attempt.step (reply_to (run opening events).now.words (session_ask (seat_at (run opening events).now session) s))
life_told opening start lists ghosts events session s begins published was attempts =
    let n : Now = (run opening events).now in
    let k : Seat = seat_at n session in
    let log : Log = (life_ghosts opening ghosts events).log in
    let head : ℕ = head_at log (home_attempted n s) in
    let so : AttemptsSo k s = subst (λ (its : Seat). AttemptsSo its s) (sym (same_seat opening events session)) (life_attempts opening events session s begins.world was) in
    let led : IsLed log head = (life_linked opening start lists ghosts events begins).begins (home_number (home_attempted n s)) in
    session_told log k n.words s head attempts so (headers_lead opening start lists ghosts events session s begins published was attempts) led
    (λ its searches. (life_found opening start lists ghosts events begins.now begins.index begins.unborn begins.reserves begins.heads session s its was searches).replied)

-- ---- by each event
module _ (opening : World) (start : ℕ) (lists : ℕ → List ℕ) (ghosts : Ghosts) (begins : BeginsLinked opening start lists ghosts) (before : List Event) (event : Event) (known : AllKnown opening ghosts before) (published : AreChangesPublished opening ghosts before) where
  abbrev W : World
  W = run opening before

  abbrev N : Now
  N = W.now

  abbrev L : Log
  L = (life_ghosts opening ghosts before).log

  abbrev L' : Log
  L' = (life_ghosts opening ghosts (event ∷ before)).log

  grows : (a : AttemptState) → AttemptKnown L a → AttemptKnown L' a
  grows a its = attempt_grows L L' (life_stays opening start ghosts begins.now begins.unborn before event) a its

  module _ (session : ℕ) (s after : SessionState) (was : slice_get N.sessions session ≡ Some s) where
    abbrev K : Seat
    K = seat_at N session

    knows : SessionKnown L s
    knows = known session s was

    stays : SessionKnown L' s
    stays = stays_known NoneNeeded NoneNeeded (λ a. AttemptKnown L a) (λ a. AttemptKnown L' a) s (λ pending its. tt) (λ attempting its. grows s.attempt its) knows

    told : is_attempting s.step ≡ true → AttemptTold L N.places s.attempt s.attempt.step (reply_to N.words (session_ask K s))
    told attempts = life_told opening start lists ghosts before session s begins published was attempts

    replied : SessionKnown L' (session_next K s (reply_to N.words (session_ask K s)))
    replied =
        next_known NoneNeeded NoneNeeded (λ a. AttemptKnown L a) (λ a. AttemptKnown L' a) K s (reply_to N.words (session_ask K s)) knows
        (record {
          waits = λ pending its. tt;
          attempts = λ attempting its. grows (attempt_after K s (reply_to N.words (session_ask K s))) (attempt_so L K.places (bits_of K) (room_of K) K.number s.attempt (reply_to N.words (session_ask K s)) its (told attempting));
          accepts = λ has_shifted its at comes accepted then. tt;
          keeps = λ index its at comes waits then. tt;
          hands_over = λ polling pending spare is_orphaned its. attempt_begins L' K.places (bits_of K) pending s.seen AtPoll spare is_orphaned;
          begins_anew = λ its at done spare is_orphaned. attempt_begins L' K.places (bits_of K) (request_in_hand (caught_up_at K s (reply_to N.words (session_ask K s)))) (catch_after K s (reply_to N.words (session_ask K s))).seen (AtCall (bounds_of K.shape)) spare is_orphaned;
          latches = λ cause pending at its. tt;
        })

    moved : after ≡ (session_moved K (near N s)).machine → (calm : Bool) → is_calm s.step ≡ calm → SessionKnown L' after
    moved is true e = subst (SessionKnown L') (sym is) (calm_known NoneNeeded (λ a. AttemptKnown L' a) K (near N s) e stays)
    moved is false e =
        let busy = not_calm s.step e in
        subst (SessionKnown L') (sym (is ∙ ap (λ (x : Near SessionState). x.machine) (moves_alone opening start before session s begins.now was busy.0 busy.1))) replied

    comes : SessionComes W session s after → SessionKnown L' after
    comes (Stays is) = subst (SessionKnown L') (sym is) stays
    comes (Begins its idle is) = subst (SessionKnown L') (sym is)
        (begun_known NoneNeeded (λ a. AttemptKnown L' a) K s its idle stays
        (record {
          calls = λ op made none spare is_orphaned. attempt_begins L' K.places (bits_of K) (request_in_hand (with_op s op)) s.seen (AtCall (bounds_of K.shape)) spare is_orphaned;
          polls = λ made awake pending spare is_orphaned known_then. attempt_begins L' K.places (bits_of K) pending s.seen AtPoll spare is_orphaned;
        }))
    comes (Steps is) = moved is (is_calm s.step) refl

  pub known_on : AllKnown opening ghosts (event ∷ before)
  unfolding run
  known_on session after is_now =
      let s = there_before W event session after is_now in
      comes session s.0 after s.1 (session_comes W event session s.0 after s.1 is_now)

-- ---- and of a life
pub record Holds (opening : World) (ghosts : Ghosts) (events : List Event) : Type 0 where
  pub known : AllKnown opening ghosts events
  pub published : AreChangesPublished opening ghosts events

pub life_holds : (opening : World) (start : ℕ) (lists : ℕ → List ℕ) (ghosts : Ghosts) (events : List Event) → BeginsLinked opening start lists ghosts → Holds opening ghosts events
unfolding run
life_holds opening start lists ghosts [] begins = record {
  known = λ session s found. opened_known NoneNeeded (λ a. AttemptKnown (life_ghosts opening ghosts []).log a) s (begins.world.sessions session s found);
  published = tt;
}
life_holds opening start lists ghosts (event ∷ before) begins =
    let was = life_holds opening start lists ghosts before begins in
    record {
      known = known_on opening start lists ghosts begins before event was.known was.published;
      published = (changes_published opening ghosts before event was.known, was.published);
    }
