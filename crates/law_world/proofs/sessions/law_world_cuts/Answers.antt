-- By the law of cuts, of its own run.
use Rattle.std.specs.Prelude.{◌≡◌, ◌≢◌, false}
use Rattle.fkv_session.specs.Cuts.{IsCutTold}
use Rattle.fkv_session.specs.InOrder.{AreToldInOrder, IsEpochLast, IsOwedOrOneMore, exchanged, owing_place, owing_told}
use Rattle.fkv_session.specs.Sessions.{is_busy}
use Rattle.fkv_session.specs.Words.{AreMarkStores, AreMarksTold, IsCutAsleep, stored_last}
use Rattle.fkv_session.specs.declared.sessions.CatchCause.TheVariants.{Wakes}
use Rattle.fkv_session.specs.declared.sessions.Sitting.TheVariants.{CatchesUp, Leaves, StoresOwing}
use Rattle.fkv_session.proofs.Shown.{run_cuts, run_epoch, run_leaves, run_order, run_sleeps, run_stores, run_told_marks, run_unprotected}
use Rattle.fkv_world.specs.OwnEvents.{session_events}
use Rattle.fkv_world.specs.World.{seat_at}
use Rattle.law_world.proofs.OfSessions.OwnRun.{of_run, opened_so, owing_near, seated, to_run}
use Rattle.law_world.proofs.sessions.law_world_cuts.Goals as goal

pub returns-clause-takes_up : goal.returns-clause-takes_up
returns-clause-takes_up c = λ opening events session first its cause became catching. of_run (λ s. IsCutTold (seat_at opening.now session) s) opening events session first its became (run_cuts (seat_at opening.now session) first (session_events opening session events) cause (opened_so opening events session first its became) (to_run (λ s. s.step ≡ CatchesUp cause) opening events session first its became catching))

pub returns-clause-stores : goal.returns-clause-stores
returns-clause-stores c = λ opening events session first its became. of_run (λ s. AreMarkStores (seat_at opening.now session) s) opening events session first its became (run_stores (seat_at opening.now session) first (session_events opening session events) (opened_so opening events session first its became) (seated opening events session first its became))

pub returns-clause-told : goal.returns-clause-told
returns-clause-told c = λ opening events session first its words serial became rests left. of_run (λ s. AreMarksTold (seat_at opening.now session) s (λ place. stored_last (seat_at opening.now session) first words (session_events opening session events) place) serial) opening events session first its became (run_told_marks (seat_at opening.now session) first words (session_events opening session events) serial (opened_so opening events session first its became) (seated opening events session first its became) (to_run (λ s. is_busy s.step ≡ false) opening events session first its became rests) left)

pub returns-clause-asleep : goal.returns-clause-asleep
returns-clause-asleep c = λ opening events session first its words became asleep other. of_run (λ s. IsCutAsleep (seat_at opening.now session) s (λ place. stored_last (seat_at opening.now session) first words (session_events opening session events) place)) opening events session first its became (run_sleeps (seat_at opening.now session) first words (session_events opening session events) (opened_so opening events session first its became) (to_run (λ s. s.is_awake ≡ false) opening events session first its became asleep) (to_run (λ s. s.step ≢ CatchesUp Wakes) opening events session first its became other))

pub returns-clause-leaves : goal.returns-clause-leaves
returns-clause-leaves c = λ opening events session first its words became leaves. of_run (λ s. IsCutAsleep (seat_at opening.now session) s (λ place. stored_last (seat_at opening.now session) first words (session_events opening session events) place)) opening events session first its became (run_leaves (seat_at opening.now session) first words (session_events opening session events) (opened_so opening events session first its became) (to_run (λ s. s.step ≡ Leaves) opening events session first its became leaves))

pub returns-clause-in_order : goal.returns-clause-in_order
returns-clause-in_order c = λ opening events session first its words serial became left. of_run (λ s. AreToldInOrder (seat_at opening.now session) s (λ place. stored_last (seat_at opening.now session) first words (session_events opening session events) place) serial) opening events session first its became (run_order (seat_at opening.now session) first words (session_events opening session events) serial (opened_so opening events session first its became) (seated opening events session first its became) left)

pub returns-clause-polls_owing : goal.returns-clause-polls_owing
returns-clause-polls_owing c = λ opening events session first its words index serial became stores left. of_run (λ s. IsOwedOrOneMore (stored_last (seat_at opening.now session) first words (session_events opening session events) (owing_place (seat_at opening.now session))) (owing_told s)) opening events session first its became (owing_near (seat_at opening.now session) first words (session_events opening session events) index serial (opened_so opening events session first its became) (seated opening events session first its became) (to_run (λ s. s.step ≡ StoresOwing index) opening events session first its became stores) left)

pub returns-clause-epoch_last : goal.returns-clause-epoch_last
returns-clause-epoch_last c = λ opening events session first its cause became catching other. of_run (λ s. IsEpochLast (seat_at opening.now session) s (exchanged (seat_at opening.now session) first (session_events opening session events))) opening events session first its became (run_epoch (seat_at opening.now session) first (session_events opening session events) cause (opened_so opening events session first its became) (to_run (λ s. s.step ≡ CatchesUp cause) opening events session first its became catching) other)

pub returns-clause-unprotected : goal.returns-clause-unprotected
returns-clause-unprotected c = λ opening events session first its words became asleep other. run_unprotected (seat_at opening.now session) first words (session_events opening session events) (opened_so opening events session first its became) (to_run (λ s. s.is_awake ≡ false) opening events session first its became asleep) (to_run (λ s. s.step ≢ CatchesUp Wakes) opening events session first its became other)
