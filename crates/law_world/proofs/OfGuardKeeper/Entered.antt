-- A step of a commit that goes on to wait-pending.
use Rattle.std.proofs.Common.{◌≡◌, ℕ, List, [], ◌∷◌, refl, ap, sym, subst, ◌∙◌, true, false}
use Rattle.std.specs.Prelude.{Option, Some, None, slice_get}
use Rattle.fkv_base.specs.declared.phases.Phase.TheVariants.{WaitPending}
use Rattle.fkv_plane.specs.declared.asks.Ask.{Ask}
use Rattle.fkv_plane.specs.declared.asks.Ask.TheVariants.{Put, Take, Done}
use Rattle.fkv_plane.specs.Asked.{reply_to, words_after}
use Rattle.fkv_plane.specs.Passing.{passed, is_done}
use Rattle.fkv_epoch.specs.declared.raising.Raising.TheVariants as raise
use Rattle.fkv_epoch.specs.declared.arming.Arming.TheVariants as arm
use Rattle.fkv_epoch.specs.Raising.{raise_ask, raise_next, raise_next_ask, raise_on}
use Rattle.fkv_epoch.specs.Arming.{arm_ask, arm_next}
use Rattle.fkv_epoch.specs.EpochWorld.{EpochMachine, Raises, Arms}
use Rattle.fkv_commit.specs.declared.deferring.DeferAnswer.{DeferAnswer}
use Rattle.fkv_commit.specs.declared.deferring.DeferAnswer.TheVariants.{Held, Spent}
use Rattle.fkv_commit.specs.declared.deferring.Deferred.TheVariants.{EntersPhase}
use Rattle.fkv_commit.specs.declared.deferring.Deferring.TheVariants as defer
use Rattle.fkv_commit.specs.declared.entering.EnterAnswer.TheVariants as answer
use Rattle.fkv_commit.specs.declared.entering.Entering.{Entering}
use Rattle.fkv_commit.specs.declared.entering.Entering.TheVariants as enter
use Rattle.fkv_commit.specs.Commits.{version_after}
use Rattle.fkv_commit.specs.Deferring.{DeferState, action_of, armed_epoch, defer_ask, defer_next, defer_on, deferring_ask, deferring_next, deferring_on, raise_ledto, arm_ledto}
use Rattle.fkv_commit.specs.Entering.{EnterState, enter_ask, enter_next, entering_ask, entering_next, seek_led, defer_led}
use Rattle.fkv_flush.specs.GuardLevels.{levels_of}
use Rattle.fkv_flush.specs.GuardSeen.{LastSeen}
use Rattle.fkv_flush.specs.GuardWorld.{Actor, GuardNow, GuardEvent, GuardWorld, Resumes, Moves, near, put_near, is_idle}
use Rattle.fkv_flush.proofs.Shown.{runs_now, Fits, FitsMachine, IsSound}
use Rattle.law_world.specs.GuardKeeper.CommitEvents.{entered_events, entering_events}
use Rattle.law_world.specs.GuardKeeper.CommitShown.{entering_machine, defer_machine, EnterKnows}
use Rattle.law_world.specs.GuardKeeper.Settled.{settled, actions_settled, is_of_slot, takes_none}
use Rattle.law_world.proofs.OfGuardKeeper.Deferred.{SeekGoes, sought, sought_led, sought_shows, by_held, by_deferred, raised_led, armed_led}
use Rattle.law_world.specs.GuardKeeper.Followed.{likeness}
use Rattle.law_world.proofs.OfGuardKeeper.PartLed.{PartLed, slotless_part, passed_step, then_resumes}
use Rattle.law_world.proofs.OfGuardKeeper.Slots.{passed_slot}

abbrev pub enter_machine : EnterState → Option EpochMachine
enter_machine s = entering_machine s s.step

abbrev pub EnterKnown : List ℕ → EnterState → Type 0
EnterKnown words s = EnterKnows (levels_of words) s s.step

-- where a step leads
abbrev pub EnterLed : GuardNow → ℕ → List GuardEvent → LastSeen → EnterState → List ℕ → Type 0
EnterLed n a events seen there words =
    PartLed n a events seen enter_machine (EnterKnown words) (settled enter_next takes_none n.actions there (enter_ask there)) words (actions_settled n.actions (enter_ask there))

slotless : (n : GuardNow) (a : ℕ) (events : List GuardEvent) (seen : LastSeen) (there : EnterState) (words : List ℕ) → is_of_slot (enter_ask there) ≡ false
    → PartLed n a events seen enter_machine (EnterKnown words) there words n.actions → EnterLed n a events seen there words
slotless n a events seen there words e led = slotless_part n a events seen enter_machine (EnterKnown words) enter_next there words (enter_ask there) e led

-- the slot is held, and wait-pending is deferred
enters_held : (n : GuardNow) (a : ℕ) (x : Actor) (seen : LastSeen) (s : EnterState) (words : List ℕ) (slot : ℕ) (d : DeferState) → slice_get n.actors a ≡ Some x
    → is_idle x.work ≡ true → x.seen ≡ seen → x.undecided ≡ None → runs_now n (Moves a ∷ []) ≡ put_near n a (near words n.actions (record x { machine = Raises (raise.HasSlot slot) }))
    → EnterLed n a (Resumes a ∷ Moves a ∷ []) seen (record s { defer = record d { raising = raise.RaisesEpoch slot; step = defer.Raises (EntersPhase WaitPending (version_after s.number)) }; step = enter.Defers }) words
unfolding entering_ask deferring_ask raise_ask raise_on passed
enters_held n a x seen s words slot d got idle same none led =
    slotless n a (Resumes a ∷ Moves a ∷ []) seen (record s { defer = record d { raising = raise.RaisesEpoch slot; step = defer.Raises (EntersPhase WaitPending (version_after s.number)) }; step = enter.Defers }) words refl (record {
      follows = record {
        actor = record x { machine = Raises (raise.RaisesEpoch slot) };
        same = then_resumes n a x (record x { machine = Raises (raise.HasSlot slot) }) (Moves a ∷ []) words n.actions got led idle;
        fits = record { machine = refl; work = idle; seen = same; undecided = none };
      };
      knows = tt;
    })

enters_seek : (n : GuardNow) (a : ℕ) (x : Actor) (seen : LastSeen) (s : EnterState) (e : DeferState) (words : List ℕ) (ask : Ask DeferAnswer) → defer_ask e ≡ ask → SeekGoes ask e → slice_get n.actors a ≡ Some x
    → is_idle x.work ≡ true → x.seen ≡ seen → x.undecided ≡ None → runs_now n (Moves a ∷ []) ≡ put_near n a (near words n.actions (record x { machine = Raises e.raising }))
    → EnterLed n a (entered_events a ask) seen (seek_led (record s { defer = e; step = enter.Seeks }) ask) words
unfolding seek_led entering_ask deferring_on raise_on
enters_seek n a x seen s e words (Done Held) its k got idle same none led =
    by_held (λ (d : DeferState). runs_now n (Moves a ∷ []) ≡ put_near n a (near words n.actions (record x { machine = Raises d.raising })) →
    EnterLed n a (Resumes a ∷ Moves a ∷ []) seen (record s { defer = defer_on d (EntersPhase WaitPending (version_after s.number)); step = enter.Defers }) words) e k
    (λ slot arming there. enters_held n a x seen s words slot (record { raising = raise.HasSlot slot; arming = arming; step = defer.Holds }) got idle same none there) led
enters_seek n a x seen s e words (Put slot action) its k got idle same none led = absurd k
enters_seek n a x seen s e words (Take slot) its k got idle same none led = absurd k
enters_seek n a x seen s e words (Done Spent) its k got idle same none led =
    slotless n a (Moves a ∷ []) seen (record s { defer = e; step = enter.Ended answer.EpochsSpent }) words refl (record { follows = record { actor = record x { machine = Raises e.raising }; same = led; fits = record { machine = k; work = idle; seen = same; undecided = none } }; knows = tt })
enters_seek n a x seen s e words (Done other) its k got idle same none led =
    slotless n a (Moves a ∷ []) seen (record s { defer = e; step = enter.Ended answer.DrainFull }) words refl (record { follows = record { actor = record x { machine = Raises e.raising }; same = led; fits = record { machine = k; work = idle; seen = same; undecided = none } }; knows = tt })
enters_seek n a x seen s e words ask its k got idle same none led =
    slotless n a (Moves a ∷ []) seen (record s { defer = e; step = enter.Seeks }) words (passed_slot (defer_ask e) answer.Idle ∙ ap is_of_slot its) (record {
      follows = record {
        actor = record x { machine = Raises e.raising };
        same = led;
        fits = record { machine = subst (λ (machine : Option EpochMachine). FitsMachine machine (Raises e.raising)) (sym (sought_shows e k)) refl; work = idle; seen = same; undecided = none };
      };
      knows = k;
    })

enters_defer : (w : GuardWorld) (a : ℕ) (x : Actor) (seen : LastSeen) (s : EnterState) → IsSound w → slice_get w.now.actors a ≡ Some x
    → Fits (likeness seen (defer_machine s.defer) None) x → EnterKnows (levels_of w.now.words) s enter.Defers
    → (let n : GuardNow = w.now in let here : EnterState = record s { step = enter.Defers } in let reply : ℕ = reply_to n.words (enter_ask here) in
    EnterLed n a (entering_events a s enter.Defers reply) seen (enter_next here reply) (words_after n.words (enter_ask here)))
unfolding entering_events entering_ask entering_next defer_led deferring_ask deferring_next raise_ledto arm_ledto raise_ask raise_next raise_next_ask arm_ask arm_next passed
enters_defer w a x seen s sound got fits k =
    let n : GuardNow = w.now in
    by_deferred (λ (d : DeferState). Fits (likeness seen (defer_machine d) None) x →
    (let here : EnterState = record s { defer = d; step = enter.Defers } in let reply : ℕ = reply_to n.words (enter_ask here) in
    EnterLed n a (entering_events a here enter.Defers reply) seen (enter_next here reply) (words_after n.words (enter_ask here)))) (levels_of n.words) s.defer k
    (λ its slot arming stored its_fits. record {
      follows = record {
        actor = record x { machine = Arms (arm.StoresEpoch slot (armed_epoch (reply_to n.words (raise_ask (raise.RaisesEpoch slot))))) };
        same = raised_led w a x slot (action_of its) sound got its_fits.machine its_fits.work stored;
        fits = record { machine = refl; work = its_fits.work; seen = its_fits.seen; undecided = its_fits.undecided };
      };
      knows = tt;
    })
    (λ epoch slot c raising its_fits. record {
      follows = record {
        actor = record x { machine = Arms arm.AtRest };
        same = armed_led n a x slot c got its_fits.machine its_fits.work;
        fits = record { machine = refl; work = its_fits.work; seen = its_fits.seen; undecided = its_fits.undecided };
      };
      knows = tt;
    }) fits

entered_at : (w : GuardWorld) (a : ℕ) (x : Actor) (seen : LastSeen) (s : EnterState) (step : Entering) → IsSound w → slice_get w.now.actors a ≡ Some x
    → Fits (likeness seen (entering_machine s step) None) x → EnterKnows (levels_of w.now.words) s step → is_done (entering_ask s step) ≡ false
    → (let n : GuardNow = w.now in let here : EnterState = record s { step = step } in let reply : ℕ = reply_to n.words (enter_ask here) in
    EnterLed n a (entering_events a s step reply) seen (enter_next here reply) (words_after n.words (enter_ask here)))
unfolding entering_events entering_ask entering_next
entered_at w a x seen s (enter.Ended its) sound got fits k e = cc
entered_at w a x seen s enter.Seeks sound got fits k e =
    let n : GuardNow = w.now in
    let d : DeferState = s.defer in
    let its : x.machine ≡ Raises d.raising = subst (λ (machine : Option EpochMachine). FitsMachine machine x.machine) (sought_shows d k) fits.machine in
    passed_step (λ reply words. EnterLed n a (entered_events a (defer_ask (defer_next d reply))) seen (enter_next (record s { step = enter.Seeks }) reply) words) n.words (defer_ask d) answer.Idle
    (enters_seek n a x seen s (defer_next d (reply_to n.words (defer_ask d))) (words_after n.words (defer_ask d)) (defer_ask (defer_next d (reply_to n.words (defer_ask d)))) refl
    (sought d (reply_to n.words (defer_ask d)) k) got fits.work fits.seen fits.undecided (sought_led n a x d got its fits.work k))
entered_at w a x seen s enter.Defers sound got fits k e = enters_defer w a x seen s sound got fits k

pub entered_to : (w : GuardWorld) (a : ℕ) (x : Actor) (seen : LastSeen) (s : EnterState) → IsSound w → slice_get w.now.actors a ≡ Some x
    → Fits (likeness seen (enter_machine s) None) x → EnterKnown w.now.words s → is_done (enter_ask s) ≡ false
    → (let n : GuardNow = w.now in let reply : ℕ = reply_to n.words (enter_ask s) in EnterLed n a (entering_events a s s.step reply) seen (enter_next s reply) (words_after n.words (enter_ask s)))
entered_to w a x seen s sound got fits k e = entered_at w a x seen s s.step sound got fits k e
