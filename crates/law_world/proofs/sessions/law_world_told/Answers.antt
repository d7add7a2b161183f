-- By the law of answers, of its own run.
use Rattle.std.proofs.Common.{◌≡◌, ◌∷◌, ◌∙◌, ap, sym}
use Rattle.fkv_plane.specs.declared.places.SharedWord.TheVariants.{Phase as PhaseWord}
use Rattle.fkv_plane.specs.Places.{shared_place}
use Rattle.fkv_session.specs.Asleep.{is_awake_told}
use Rattle.fkv_session.specs.CallAsks.{asked_in_call, told_in}
use Rattle.fkv_session.specs.InOrder.{loaded_last}
use Rattle.fkv_session.specs.Refused.{before_call}
use Rattle.fkv_session.specs.SessionRun.{tellings}
use Rattle.fkv_session.specs.TrueAnswers.{IsPhaseSeen, IsTrueOf, trial_of}
use Rattle.fkv_session.proofs.Shown.{begun_at_once, run_awake, run_durable, run_kind, run_refreshed, run_true, run_woken}
use Rattle.fkv_world.specs.OwnEvents.{session_events}
use Rattle.fkv_world.specs.World.{seat_at}
use Rattle.law_world.proofs.OfSessions.Heard.{run_heard}
use Rattle.law_world.proofs.OfSessions.OwnRun.{of_newest, of_run, opened_so}
use Rattle.law_world.proofs.sessions.law_world_told.Goals as goal

pub returns-clause-operations : goal.returns-clause-operations
returns-clause-operations c = λ opening events session first its event before buckets told op became newest ends called. of_newest (λ s. IsTrueOf (trial_of (seat_at opening.now session) buckets s.seen s.floor op) (told_in (asked_in_call (seat_at opening.now session) first (event ∷ before))) told) opening events session first its event before became newest (run_true (seat_at opening.now session) buckets first event before told op (opened_so opening events session first its became) ends called)

pub returns-clause-kinds : goal.returns-clause-kinds
returns-clause-kinds c = λ opening events session first its event before told became newest buckets ends. run_kind (seat_at opening.now session) buckets first event before told (opened_so opening events session first its became) ends

pub returns-clause-asks_none : goal.returns-clause-asks_none
returns-clause-asks_none c = λ opening events session first its call told became ends. begun_at_once (seat_at opening.now session) its call told ends

pub returns-clause-refreshed : goal.returns-clause-refreshed
returns-clause-refreshed c = λ opening events session first its event before phase version became newest buckets ends. of_newest (λ s. IsPhaseSeen (before_call (seat_at opening.now session) first (event ∷ before)).seen s.seen (loaded_last (asked_in_call (seat_at opening.now session) first (event ∷ before)) (shared_place PhaseWord)) phase version) opening events session first its event before became newest (run_refreshed (seat_at opening.now session) buckets first event before phase version (opened_so opening events session first its became) ends)

pub returns-clause-woken : goal.returns-clause-woken
returns-clause-woken c = λ opening events session first its event before phase version became newest buckets ends. of_newest (λ s. IsPhaseSeen (before_call (seat_at opening.now session) first (event ∷ before)).seen s.seen (loaded_last (asked_in_call (seat_at opening.now session) first (event ∷ before)) (shared_place PhaseWord)) phase version) opening events session first its event before became newest (run_woken (seat_at opening.now session) buckets first event before phase version (opened_so opening events session first its became) ends)

pub returns-clause-durable : goal.returns-clause-durable
returns-clause-durable c = λ opening events session first its event before serial became newest buckets ends. run_durable (seat_at opening.now session) buckets first event before serial (opened_so opening events session first its became) ends

pub returns-clause-awake : goal.returns-clause-awake
returns-clause-awake c = λ opening events session first its became. of_run (λ s. s.is_awake ≡ is_awake_told (tellings (seat_at opening.now session) first (session_events opening session events))) opening events session first its became (run_awake (seat_at opening.now session) first (session_events opening session events) (opened_so opening events session first its became)) ∙ ap (λ told. is_awake_told told) (sym (run_heard opening events session first became.opened.no_trace became.was))
