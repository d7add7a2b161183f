-- A step of a commit's start.
use Rattle.std.proofs.Common.{◌≡◌, ℕ, List, [], ◌∷◌, inl, inr, refl, ap, sym, subst, ◌∙◌, true, false}
use Rattle.std.specs.Prelude.{Option, Some, None, slice_get, slice_set, nat_le}
use Rattle.std.proofs.lemmas.List.{set-get_or}
use Rattle.fkv_base.specs.declared.faults.Fault.{Fault}
use Rattle.fkv_base.specs.declared.faults.Fault.TheVariants as fault
use Rattle.fkv_base.specs.declared.numbers.Addr.{Addr}
use Rattle.fkv_base.specs.declared.numbers.Version.{Version}
use Rattle.fkv_base.specs.declared.phases.Phase.TheVariants.{Rest, Prepare}
use Rattle.fkv_words.specs.declared.phase_words.PhaseSaid.{PhaseSaid}
use Rattle.fkv_words.specs.declared.phase_words.PhaseSaid.TheVariants.{Says}
use Rattle.fkv_words.specs.PhaseWords.{phase_said}
use Rattle.fkv_plane.specs.declared.asks.Ask.{Ask}
use Rattle.fkv_plane.specs.declared.asks.Ask.TheVariants.{Put, Take, Done}
use Rattle.fkv_plane.specs.declared.places.SharedWord.TheVariants as one
use Rattle.fkv_plane.specs.Asked.{word_at, reply_to, words_after}
use Rattle.fkv_plane.specs.Passing.{passed, is_done}
use Rattle.fkv_plane.specs.Places.{shared_place}
use Rattle.fkv_epoch.specs.declared.raising.Raising.TheVariants as raise
use Rattle.fkv_epoch.specs.declared.arming.Arming.TheVariants as arm
use Rattle.fkv_epoch.specs.Raising.{raise_ask, raise_next, raise_next_ask, raise_on}
use Rattle.fkv_epoch.specs.Arming.{arm_ask, arm_next}
use Rattle.fkv_epoch.specs.Claiming.{phase_stored}
use Rattle.fkv_epoch.specs.EpochWorld.{EpochMachine, Raises, Arms, ToRaise, resumed_machine}
use Rattle.fkv_commit.specs.declared.deferring.DeferAnswer.{DeferAnswer}
use Rattle.fkv_commit.specs.declared.deferring.DeferAnswer.TheVariants.{Held, Spent}
use Rattle.fkv_commit.specs.declared.deferring.Deferring.TheVariants as defer
use Rattle.fkv_commit.specs.declared.starting.StartAnswer.TheVariants as answer
use Rattle.fkv_commit.specs.declared.starting.Starting.{Starting}
use Rattle.fkv_commit.specs.declared.starting.Starting.TheVariants as start
use Rattle.fkv_commit.specs.Deferring.{DeferState, action_of, armed_epoch, defer_begun, defer_ask, defer_next, deferring_ask, deferring_next, deferring_on, raise_ledto, arm_ledto}
use Rattle.fkv_base.specs.Limits.{last_of}
use Rattle.fkv_commit.specs.Starting.{StartState, start_ask, start_next, starting_ask, starting_next, phase_found, refused, seek_led, defer_led, is_lost_full}
use Rattle.fkv_flush.specs.GuardLevels.{levels_of}
use Rattle.fkv_flush.specs.GuardSeen.{LastSeen}
use Rattle.fkv_flush.specs.GuardWorld.{Actor, Rests, GuardNow, GuardEvent, GuardWorld, Begins, Resumes, Moves, Changes, ToDo, near, put_near, is_idle}
use Rattle.fkv_flush.proofs.Shown.{runs_now, resumes, changes, Fits, FitsMachine, IsSound, phase_is_outer}
use Rattle.law_world.specs.GuardKeeper.CommitEvents.{start_begins, starting_events}
use Rattle.law_world.specs.GuardKeeper.CommitShown.{starting_machine, defer_machine, StartKnows, IsSlotHeld}
use Rattle.law_world.specs.GuardKeeper.Settled.{settled, actions_settled, is_of_slot, takes_none}
use Rattle.law_world.proofs.OfGuardKeeper.Deferred.{SeekGoes, sought, sought_led, sought_shows, by_held, by_deferred, raised_led, armed_led}
use Rattle.law_world.specs.GuardKeeper.Followed.{likeness}
use Rattle.law_world.proofs.OfGuardKeeper.PartLed.{PartLed, slotless_part, passed_step, stays, raise_begins}
use Rattle.law_world.proofs.OfGuardKeeper.Slots.{truth, passed_slot}

abbrev pub start_machine : StartState → Option EpochMachine
start_machine s = starting_machine s s.step

abbrev pub StartKnown : List ℕ → StartState → Type 0
StartKnown words s = StartKnows (levels_of words) s s.step

-- where a step of the start leads
abbrev pub StartLed : GuardNow → ℕ → List GuardEvent → LastSeen → StartState → List ℕ → Type 0
StartLed n a events seen there words =
    PartLed n a events seen start_machine (StartKnown words) (settled start_next takes_none n.actions there (start_ask there)) words (actions_settled n.actions (start_ask there))

slotless : (n : GuardNow) (a : ℕ) (events : List GuardEvent) (seen : LastSeen) (there : StartState) (words : List ℕ) → is_of_slot (start_ask there) ≡ false
    → PartLed n a events seen start_machine (StartKnown words) there words n.actions → StartLed n a events seen there words
slotless n a events seen there words e led = slotless_part n a events seen start_machine (StartKnown words) start_next there words (start_ask there) e led

refuses : (n : GuardNow) (a : ℕ) (x : Actor) (seen : LastSeen) (s : StartState) (why : Fault) → slice_get n.actors a ≡ Some x → Fits (likeness seen None None) x → StartLed n a [] seen (refused s why) n.words
unfolding starting_ask
refuses n a x seen s why got fits =
    slotless n a [] seen (refused s why) n.words refl (record { follows = record { actor = x; same = stays n a x got; fits = record { machine = fits.machine; work = fits.work; seen = fits.seen; undecided = fits.undecided } }; knows = tt })

-- by what the phase word says
phase_starts : (n : GuardNow) (a : ℕ) (x : Actor) (seen : LastSeen) (s : StartState) (said : PhaseSaid) → slice_get n.actors a ≡ Some x → Fits (likeness seen None None) x
    → StartLed n a (start_begins a (phase_found s said).step) seen (phase_found s said) n.words
unfolding starting_ask deferring_ask raise_ask passed
phase_starts n a x seen s (Says Rest number) got fits = elim (truth (nat_le (last_of s.asked.class) number.0)) [
  | inl e ↦ rw e (refuses n a x seen s fault.VersionsSpent got fits)
  | inr e ↦ elim (truth (is_lost_full s.asked number.0)) [
    | inl f ↦ rw (e, f) (refuses n a x seen s fault.LostFull got fits)
    | inr f ↦ rw (e, f) (slotless n a (Begins a (ToDo ToRaise) ∷ []) seen (record s { defer = defer_begun s.defer; step = start.Seeks number }) n.words refl (record {
      follows = record {
        actor = record x { machine = Raises raise.LoadsEpoch; work = Rests };
        same = raise_begins n a x got fits.machine fits.work;
        fits = record { machine = refl; work = refl; seen = fits.seen; undecided = fits.undecided };
      };
      knows = tt;
    }))
  ]
]
phase_starts n a x seen s said got fits = refuses n a x seen s fault.CommitRunning got fits

starts_seek : (n : GuardNow) (a : ℕ) (x : Actor) (seen : LastSeen) (s : StartState) (number : Version) (e : DeferState) (words : List ℕ) (ask : Ask DeferAnswer) → defer_ask e ≡ ask → SeekGoes ask e
    → is_idle x.work ≡ true → x.seen ≡ seen → x.undecided ≡ None → runs_now n (Moves a ∷ []) ≡ put_near n a (near words n.actions (record x { machine = Raises e.raising }))
    → StartLed n a (Moves a ∷ []) seen (seek_led number (record s { defer = e; step = start.Seeks number }) ask) words
unfolding seek_led starting_ask
starts_seek n a x seen s number e words (Done Held) its k idle same none led =
    by_held (λ (d : DeferState). runs_now n (Moves a ∷ []) ≡ put_near n a (near words n.actions (record x { machine = Raises d.raising })) → StartLed n a (Moves a ∷ []) seen (record s { defer = d; step = start.StoresPrepare number }) words) e k
    (λ slot arming there. slotless n a (Moves a ∷ []) seen (record s { defer = record { raising = raise.HasSlot slot; arming = arming; step = defer.Holds }; step = start.StoresPrepare number }) words refl (record {
      follows = record { actor = record x { machine = Raises (raise.HasSlot slot) }; same = there; fits = record { machine = refl; work = idle; seen = same; undecided = none } };
      knows = tt;
    })) led
starts_seek n a x seen s number e words (Put slot action) its k idle same none led = absurd k
starts_seek n a x seen s number e words (Take slot) its k idle same none led = absurd k
starts_seek n a x seen s number e words (Done Spent) its k idle same none led =
    slotless n a (Moves a ∷ []) seen (refused (record s { defer = e; step = start.Seeks number }) fault.EpochsSpent) words refl (record { follows = record { actor = record x { machine = Raises e.raising }; same = led; fits = record { machine = k; work = idle; seen = same; undecided = none } }; knows = tt })
starts_seek n a x seen s number e words (Done other) its k idle same none led =
    slotless n a (Moves a ∷ []) seen (refused (record s { defer = e; step = start.Seeks number }) fault.DrainFull) words refl (record { follows = record { actor = record x { machine = Raises e.raising }; same = led; fits = record { machine = k; work = idle; seen = same; undecided = none } }; knows = tt })
starts_seek n a x seen s number e words ask its k idle same none led =
    slotless n a (Moves a ∷ []) seen (record s { defer = e; step = start.Seeks number }) words (passed_slot (defer_ask e) answer.Idle ∙ ap is_of_slot its) (record {
      follows = record {
        actor = record x { machine = Raises e.raising };
        same = led;
        fits = record { machine = subst (λ (machine : Option EpochMachine). FitsMachine machine (Raises e.raising)) (sym (sought_shows e k)) refl; work = idle; seen = same; undecided = none };
      };
      knows = k;
    })

-- in-progress is deferred
starts_defer : (w : GuardWorld) (a : ℕ) (x : Actor) (seen : LastSeen) (s : StartState) (number : Version) (first : Addr) → IsSound w → slice_get w.now.actors a ≡ Some x
    → Fits (likeness seen (defer_machine s.defer) None) x → StartKnows (levels_of w.now.words) s (start.Defers number first)
    → (let n : GuardNow = w.now in let here : StartState = record s { step = start.Defers number first } in let reply : ℕ = reply_to n.words (start_ask here) in
    StartLed n a (starting_events a s (start.Defers number first) reply) seen (start_next here reply) (words_after n.words (start_ask here)))
unfolding starting_events starting_ask starting_next defer_led deferring_ask deferring_next raise_ledto arm_ledto raise_ask raise_next raise_next_ask arm_ask arm_next passed
starts_defer w a x seen s number first sound got fits k =
    let n : GuardNow = w.now in
    by_deferred (λ (d : DeferState). Fits (likeness seen (defer_machine d) None) x →
    (let here : StartState = record s { defer = d; step = start.Defers number first } in let reply : ℕ = reply_to n.words (start_ask here) in
    StartLed n a (starting_events a here (start.Defers number first) reply) seen (start_next here reply) (words_after n.words (start_ask here)))) (levels_of n.words) s.defer k
    (λ its slot arming stored its_fits. record {
      follows = record {
        actor = record x { machine = Arms (arm.StoresEpoch slot (armed_epoch (reply_to n.words (raise_ask (raise.RaisesEpoch slot))))) };
        same = raised_led w a x slot (action_of its) sound got its_fits.machine its_fits.work stored;
        fits = record { machine = refl; work = its_fits.work; seen = its_fits.seen; undecided = its_fits.undecided };
      };
      knows = tt;
    })
    (λ epoch slot c raising its_fits. record {
      follows = record {
        actor = record x { machine = Arms arm.AtRest };
        same = armed_led n a x slot c got its_fits.machine its_fits.work;
        fits = record { machine = refl; work = its_fits.work; seen = its_fits.seen; undecided = its_fits.undecided };
      };
      knows = tt;
    }) fits

-- once the tail is loaded the raise goes on
start_resumes : (n : GuardNow) (a : ℕ) (x : Actor) (seen : LastSeen) (s : StartState) (number : Version) → slice_get n.actors a ≡ Some x → IsSlotHeld s.defer → Fits (likeness seen (defer_machine s.defer) None) x
    → StartLed n a (Resumes a ∷ []) seen (start_next (record s { step = start.LoadsTail number }) (word_at n.words (shared_place one.Tail))) n.words
unfolding starting_next starting_ask deferring_on deferring_ask raise_on raise_ask passed
start_resumes n a x seen s number got k fits =
    by_held (λ (d : DeferState). Fits (likeness seen (defer_machine d) None) x → StartLed n a (Resumes a ∷ []) seen (start_next (record s { defer = d; step = start.LoadsTail number }) (word_at n.words (shared_place one.Tail))) n.words) s.defer k
    (λ slot arming its_fits. slotless n a (Resumes a ∷ []) seen (start_next (record s { defer = record { raising = raise.HasSlot slot; arming = arming; step = defer.Holds }; step = start.LoadsTail number }) (word_at n.words (shared_place one.Tail))) n.words refl (record {
      follows = record {
        actor = record x { machine = Raises (raise.RaisesEpoch slot) };
        same = resumes n a x got its_fits.work ∙ ap (λ (machine : EpochMachine). put_near n a (near n.words n.actions (record x { machine = resumed_machine machine }))) its_fits.machine;
        fits = record { machine = refl; work = its_fits.work; seen = its_fits.seen; undecided = its_fits.undecided };
      };
      knows = tt;
    })) fits

started_at : (w : GuardWorld) (a : ℕ) (x : Actor) (seen : LastSeen) (s : StartState) (step : Starting) → IsSound w → slice_get w.now.actors a ≡ Some x
    → Fits (likeness seen (starting_machine s step) None) x → StartKnows (levels_of w.now.words) s step → is_done (starting_ask s step) ≡ false
    → (let n : GuardNow = w.now in let here : StartState = record s { step = step } in let reply : ℕ = reply_to n.words (start_ask here) in
    StartLed n a (starting_events a s step reply) seen (start_next here reply) (words_after n.words (start_ask here)))
unfolding starting_events starting_ask starting_next deferring_on
started_at w a x seen s (start.Ended its) sound got fits k e = cc
started_at w a x seen s start.LoadsPhase sound got fits k e = rw (set-get_or w.now.words (shared_place one.Phase) 0) (phase_starts w.now a x seen (record s { step = start.LoadsPhase }) (phase_said (word_at w.now.words (shared_place one.Phase))) got fits)
started_at w a x seen s (start.Seeks number) sound got fits k e =
    let n : GuardNow = w.now in
    let d : DeferState = s.defer in
    let its : x.machine ≡ Raises d.raising = subst (λ (machine : Option EpochMachine). FitsMachine machine x.machine) (sought_shows d k) fits.machine in
    passed_step (λ reply words. StartLed n a (Moves a ∷ []) seen (start_next (record s { step = start.Seeks number }) reply) words) n.words (defer_ask d) answer.Idle
    (starts_seek n a x seen s number (defer_next d (reply_to n.words (defer_ask d))) (words_after n.words (defer_ask d)) (defer_ask (defer_next d (reply_to n.words (defer_ask d)))) refl
    (sought d (reply_to n.words (defer_ask d)) k) fits.work fits.seen fits.undecided (sought_led n a x d got its fits.work k))
started_at w a x seen s (start.StoresPrepare number) sound got fits k e =
    let n : GuardNow = w.now in
    slotless n a (Changes a (shared_place one.Phase) (phase_stored Prepare number) ∷ []) seen (record s { step = start.LoadsTail number }) (slice_set n.words (shared_place one.Phase) (phase_stored Prepare number)) refl (record {
      follows = record {
        actor = x;
        same = changes n a x got (shared_place one.Phase) (phase_stored Prepare number) (phase_is_outer n.places);
        fits = record { machine = fits.machine; work = fits.work; seen = fits.seen; undecided = fits.undecided };
      };
      knows = k;
    })
started_at w a x seen s (start.LoadsTail number) sound got fits k e = rw (set-get_or w.now.words (shared_place one.Tail) 0) (start_resumes w.now a x seen s number got k fits)
started_at w a x seen s (start.Defers number first) sound got fits k e = starts_defer w a x seen s number first sound got fits k

pub started_to : (w : GuardWorld) (a : ℕ) (x : Actor) (seen : LastSeen) (s : StartState) → IsSound w → slice_get w.now.actors a ≡ Some x
    → Fits (likeness seen (start_machine s) None) x → StartKnown w.now.words s → is_done (start_ask s) ≡ false
    → (let n : GuardNow = w.now in let reply : ℕ = reply_to n.words (start_ask s) in StartLed n a (starting_events a s s.step reply) seen (start_next s reply) (words_after n.words (start_ask s)))
started_to w a x seen s sound got fits k e = started_at w a x seen s s.step sound got fits k e
