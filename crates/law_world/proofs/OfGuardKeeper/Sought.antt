-- A step of a commit that seeks its points, and makes the log read-only up to its end.
use Rattle.std.proofs.Common.{◌≡◌, ℕ, ◌≤◌, ◌<◌, List, [], ◌∷◌, inl, inr, refl, ap, sym, subst, ◌∙◌, true, false, arith, max}
use Rattle.std.specs.Prelude.{not, Option, Some, None, slice_get, slice_set, length, nat_lt, nat_le, ◌==◌, ◌+◌}
use Rattle.std.proofs.lemmas.Bool.Decides.{nat_tests}
use Rattle.std.proofs.lemmas.List.{set-get_or}
use Rattle.fkv_base.specs.declared.numbers.Addr.{Addr}
use Rattle.fkv_base.specs.declared.phases.Phase.TheVariants.{WaitFlush}
use Rattle.fkv_plane.specs.declared.asks.Ask.{Ask}
use Rattle.fkv_plane.specs.declared.asks.Ask.TheVariants.{Put, Take, Done}
use Rattle.fkv_plane.specs.declared.places.SessionWord.TheVariants as own
use Rattle.fkv_plane.specs.declared.places.SharedWord.TheVariants as one
use Rattle.fkv_plane.specs.Asked.{word_at, reply_to, words_after}
use Rattle.fkv_plane.specs.Passing.{passed, is_done}
use Rattle.fkv_plane.specs.Places.{shared_place, session_place}
use Rattle.fkv_epoch.specs.declared.raising.Raising.TheVariants as raise
use Rattle.fkv_epoch.specs.declared.arming.Arming.TheVariants as arm
use Rattle.fkv_epoch.specs.Raising.{raise_ask, raise_next, raise_next_ask, raise_on}
use Rattle.fkv_epoch.specs.Arming.{arm_ask, arm_next}
use Rattle.fkv_epoch.specs.Claiming.{phase_stored}
use Rattle.fkv_epoch.specs.EpochWorld.{EpochMachine, Raises, Arms, resumed_machine}
use Rattle.fkv_epoch.proofs.Shown.{word_written}
use Rattle.fkv_commit.specs.declared.deferring.DeferAnswer.{DeferAnswer}
use Rattle.fkv_commit.specs.declared.deferring.DeferAnswer.TheVariants.{Held, Spent}
use Rattle.fkv_commit.specs.declared.deferring.Deferring.TheVariants as defer
use Rattle.fkv_commit.specs.declared.seeking.SeekAnswer.TheVariants as answer
use Rattle.fkv_commit.specs.declared.seeking.Seeking.{Seeking}
use Rattle.fkv_commit.specs.declared.seeking.Seeking.TheVariants as seek
use Rattle.fkv_commit.specs.Commits.{version_after}
use Rattle.fkv_commit.specs.Cuts.{serial_said, is_cut_of, cut_of, other_cut_of}
use Rattle.fkv_commit.specs.Deferring.{DeferState, action_of, armed_epoch, defer_ask, defer_next, deferring_ask, deferring_next, deferring_on, raise_ledto, arm_ledto}
use Rattle.fkv_commit.specs.Seeking.{SeekState, owing_from, seek_ask, seek_next, seeking_ask, seeking_next, points_from, with_point, slot_led, defer_led}
use Rattle.fkv_flush.specs.GuardLevels.{levels_of}
use Rattle.fkv_flush.specs.GuardSeen.{LastSeen}
use Rattle.fkv_flush.specs.GuardWorld.{Actor, Rests, GuardNow, GuardEvent, GuardWorld, Resumes, Moves, RaisesReadOnly, Changes, near, put_near, is_idle}
use Rattle.fkv_flush.proofs.Shown.{runs_now, raises_read_only, changes, Fits, FitsMachine, IsSound, phase_is_outer}
use Rattle.law_world.specs.GuardKeeper.CommitEvents.{seek_begins, seeking_events}
use Rattle.law_world.specs.GuardKeeper.CommitShown.{seeking_machine, defer_machine, SeekKnows, IsSlotHeld}
use Rattle.law_world.specs.GuardKeeper.Settled.{settled, actions_settled, is_of_slot, takes_none}
use Rattle.law_world.proofs.OfGuardKeeper.Deferred.{SeekGoes, sought, sought_led, sought_shows, by_held, by_deferred, raised_led, armed_led}
use Rattle.law_world.specs.GuardKeeper.Followed.{likeness}
use Rattle.law_world.proofs.OfGuardKeeper.PartLed.{PartLed, slotless_part, passed_step, stays, then_resumes, raise_begins}
use Rattle.law_world.proofs.OfGuardKeeper.Slots.{truth, passed_slot}

abbrev pub seek_machine : SeekState → Option EpochMachine
seek_machine s = seeking_machine s s.step

abbrev pub SeekKnown : List ℕ → SeekState → Type 0
SeekKnown words s = SeekKnows (levels_of words) s s.step

-- where a step of the search leads
abbrev pub SeekLed : GuardNow → ℕ → List GuardEvent → LastSeen → SeekState → List ℕ → Type 0
SeekLed n a events seen there words =
    PartLed n a events seen seek_machine (SeekKnown words) (settled seek_next takes_none n.actions there (seek_ask there)) words (actions_settled n.actions (seek_ask there))

slotless : (n : GuardNow) (a : ℕ) (events : List GuardEvent) (seen : LastSeen) (there : SeekState) (words : List ℕ) → is_of_slot (seek_ask there) ≡ false
    → PartLed n a events seen seek_machine (SeekKnown words) there words n.actions → SeekLed n a events seen there words
slotless n a events seen there words e led = slotless_part n a events seen seek_machine (SeekKnown words) seek_next there words (seek_ask there) e led

-- the owing words are loaded from a session's on, and behind the last a slot is sought
pub owing_led : (n : GuardNow) (a : ℕ) (x : Actor) (seen : LastSeen) (s : SeekState) (session : ℕ) → slice_get n.actors a ≡ Some x → Fits (likeness seen None None) x
    → PartLed n a (seek_begins a (owing_from s session).step) seen seek_machine (SeekKnown n.words) (owing_from s session) n.words n.actions
owing_led n a x seen s session got fits = elim (truth (nat_lt session s.sessions)) [
  | inl e ↦ rw e (record {
    follows = record { actor = x; same = stays n a x got; fits = record { machine = fits.machine; work = fits.work; seen = fits.seen; undecided = fits.undecided } };
    knows = tt;
  })
  | inr e ↦ rw e (record {
    follows = record {
      actor = record x { machine = Raises raise.LoadsEpoch; work = Rests };
      same = raise_begins n a x got fits.machine fits.work;
      fits = record { machine = refl; work = refl; seen = fits.seen; undecided = fits.undecided };
    };
    knows = tt;
  })
]

pub owing_slot : (s : SeekState) (session : ℕ) → is_of_slot (seek_ask (owing_from s session)) ≡ false
unfolding seeking_ask deferring_ask raise_ask passed
owing_slot s session = elim (truth (nat_lt session s.sessions)) [ inl e ↦ rw e refl | inr e ↦ rw e refl ]

owing_goes : (n : GuardNow) (a : ℕ) (x : Actor) (seen : LastSeen) (s : SeekState) (session : ℕ) → slice_get n.actors a ≡ Some x → Fits (likeness seen None None) x
    → SeekLed n a (seek_begins a (owing_from s session).step) seen (owing_from s session) n.words
owing_goes n a x seen s session got fits = slotless n a (seek_begins a (owing_from s session).step) seen (owing_from s session) n.words (owing_slot s session) (owing_led n a x seen s session got fits)

-- with a slot held the points are sought, and behind the last wait-flush is stored
points_go : (n : GuardNow) (a : ℕ) (y : Actor) (seen : LastSeen) (s : SeekState) (events : List GuardEvent) (words : List ℕ) → runs_now n events ≡ put_near n a (near words n.actions y) → IsSlotHeld s.defer
    → Fits (likeness seen (defer_machine s.defer) None) y → SeekLed n a events seen (points_from s) words
unfolding seeking_ask
points_go n a y seen s events words led held fits = elim (truth (nat_lt (length s.points) s.sessions)) [
  | inl e ↦ rw e (slotless n a events seen (record s { step = seek.LoadsCut }) words refl (record { follows = record { actor = y; same = led; fits = fits }; knows = held }))
  | inr e ↦ rw e (slotless n a events seen (record s { step = seek.StoresWaitFlush }) words refl (record { follows = record { actor = y; same = led; fits = fits }; knows = held }))
]

seeks_slot : (n : GuardNow) (a : ℕ) (x : Actor) (seen : LastSeen) (s : SeekState) (e : DeferState) (words : List ℕ) (ask : Ask DeferAnswer) → defer_ask e ≡ ask → SeekGoes ask e
    → is_idle x.work ≡ true → x.seen ≡ seen → x.undecided ≡ None → runs_now n (Moves a ∷ []) ≡ put_near n a (near words n.actions (record x { machine = Raises e.raising }))
    → SeekLed n a (Moves a ∷ []) seen (slot_led (record s { defer = e; step = seek.SeeksSlot }) ask) words
unfolding slot_led seeking_ask
seeks_slot n a x seen s e words (Done Held) its k idle same none led =
    by_held (λ (d : DeferState). IsSlotHeld d → runs_now n (Moves a ∷ []) ≡ put_near n a (near words n.actions (record x { machine = Raises d.raising })) →
    SeekLed n a (Moves a ∷ []) seen (points_from (record s { defer = d; step = seek.SeeksSlot })) words) e k
    (λ slot arming held there. points_go n a (record x { machine = Raises (raise.HasSlot slot) }) seen (record s { defer = record { raising = raise.HasSlot slot; arming = arming; step = defer.Holds }; step = seek.SeeksSlot }) (Moves a ∷ []) words there held
    (record { machine = refl; work = idle; seen = same; undecided = none })) k led
seeks_slot n a x seen s e words (Put slot action) its k idle same none led = absurd k
seeks_slot n a x seen s e words (Take slot) its k idle same none led = absurd k
seeks_slot n a x seen s e words (Done Spent) its k idle same none led =
    slotless n a (Moves a ∷ []) seen (record s { defer = e; step = seek.Ended answer.EpochsSpent }) words refl (record { follows = record { actor = record x { machine = Raises e.raising }; same = led; fits = record { machine = k; work = idle; seen = same; undecided = none } }; knows = tt })
seeks_slot n a x seen s e words (Done other) its k idle same none led =
    slotless n a (Moves a ∷ []) seen (record s { defer = e; step = seek.Ended answer.DrainFull }) words refl (record { follows = record { actor = record x { machine = Raises e.raising }; same = led; fits = record { machine = k; work = idle; seen = same; undecided = none } }; knows = tt })
seeks_slot n a x seen s e words ask its k idle same none led =
    slotless n a (Moves a ∷ []) seen (record s { defer = e; step = seek.SeeksSlot }) words (passed_slot (defer_ask e) answer.Idle ∙ ap is_of_slot its) (record {
      follows = record {
        actor = record x { machine = Raises e.raising };
        same = led;
        fits = record { machine = subst (λ (machine : Option EpochMachine). FitsMachine machine (Raises e.raising)) (sym (sought_shows e k)) refl; work = idle; seen = same; undecided = none };
      };
      knows = k;
    })

-- by the words of a cut
cut_goes : (n : GuardNow) (a : ℕ) (x : Actor) (seen : LastSeen) (s : SeekState) (word : ℕ) → slice_get n.actors a ≡ Some x → IsSlotHeld s.defer → Fits (likeness seen (defer_machine s.defer) None) x
    → SeekLed n a [] seen (seek_next (record s { step = seek.LoadsCut }) word) n.words
unfolding seeking_next seeking_ask
cut_goes n a x seen s word got held fits = elim (truth (is_cut_of s.number.0 word)) [
  | inl e ↦ rw e (points_go n a x seen (with_point (record s { step = seek.LoadsCut }) (serial_said word)) [] n.words (stays n a x got) held fits)
  | inr e ↦ rw e (slotless n a [] seen (record s { step = seek.LoadsOther word }) n.words refl (record { follows = record { actor = x; same = stays n a x got; fits = fits }; knows = held }))
]

other_goes : (n : GuardNow) (a : ℕ) (x : Actor) (seen : LastSeen) (s : SeekState) (first word : ℕ) → slice_get n.actors a ≡ Some x → IsSlotHeld s.defer → Fits (likeness seen (defer_machine s.defer) None) x
    → SeekLed n a [] seen (seek_next (record s { step = seek.LoadsOther first }) word) n.words
unfolding seeking_next seeking_ask
other_goes n a x seen s first word got held fits = elim (truth (not (is_cut_of (s.number.0 + 1) word))) [
  | inl e ↦ rw e (points_go n a x seen (with_point (record s { step = seek.LoadsOther first }) (max (serial_said first) (serial_said word))) [] n.words (stays n a x got) held fits)
  | inr e ↦ rw e (slotless n a [] seen (record s { step = seek.LoadsAgain }) n.words refl (record { follows = record { actor = x; same = stays n a x got; fits = fits }; knows = held }))
]

-- the read-only offset is raised to the commit's end, and that the safe one follows is deferred
read_only_goes : (w : GuardWorld) (a : ℕ) (x : Actor) (seen : LastSeen) (s : SeekState) (end : Addr) → IsSound w → slice_get w.now.actors a ≡ Some x → IsSlotHeld s.defer → end.0 ≤ (levels_of w.now.words).tail
    → Fits (likeness seen (defer_machine s.defer) None) x
    → (let n : GuardNow = w.now in
    SeekLed n a (Resumes a ∷ RaisesReadOnly a end.0 ∷ []) seen (seek_next (record s { step = seek.RaisesReadOnly end }) (word_at n.words (shared_place one.ReadOnly))) (slice_set n.words (shared_place one.ReadOnly) (max (word_at n.words (shared_place one.ReadOnly)) end.0)))
unfolding seeking_next seeking_ask deferring_on deferring_ask raise_on raise_ask passed
read_only_goes w a x seen s end sound got held low fits =
    let n : GuardNow = w.now in
    let old : ℕ = word_at n.words (shared_place one.ReadOnly) in
    let words : List ℕ = slice_set n.words (shared_place one.ReadOnly) (max old end.0) in
    let may : nat_le end.0 (word_at n.words (shared_place one.Tail)) ≡ true = grind (arith, nat_tests, low) in
    let enough = sound.enough_words in
    let within : 5 < length n.words = omega (arith, enough) in
    let written : word_at words 5 ≡ max old end.0 = word_written n.words 5 (max old end.0) within in
    let stored : end.0 ≤ word_at words 5 = omega (arith, written) in
    by_held (λ (d : DeferState). Fits (likeness seen (defer_machine d) None) x →
    SeekLed n a (Resumes a ∷ RaisesReadOnly a end.0 ∷ []) seen (seek_next (record s { defer = d; step = seek.RaisesReadOnly end }) old) words) s.defer held
    (λ slot arming its_fits. slotless n a (Resumes a ∷ RaisesReadOnly a end.0 ∷ []) seen (seek_next (record s { defer = record { raising = raise.HasSlot slot; arming = arming; step = defer.Holds }; step = seek.RaisesReadOnly end }) old) words refl (record {
      follows = record {
        actor = record x { machine = Raises (raise.RaisesEpoch slot) };
        same = then_resumes n a x x (RaisesReadOnly a end.0 ∷ []) words n.actions got (raises_read_only n a x got end.0 may) its_fits.work
            ∙ ap (λ (machine : EpochMachine). put_near n a (near words n.actions (record x { machine = resumed_machine machine }))) its_fits.machine;
        fits = record { machine = refl; work = its_fits.work; seen = its_fits.seen; undecided = its_fits.undecided };
      };
      knows = stored;
    })) fits

seeks_defer : (w : GuardWorld) (a : ℕ) (x : Actor) (seen : LastSeen) (s : SeekState) (end : Addr) → IsSound w → slice_get w.now.actors a ≡ Some x
    → Fits (likeness seen (defer_machine s.defer) None) x → SeekKnows (levels_of w.now.words) s (seek.Defers end)
    → (let n : GuardNow = w.now in let here : SeekState = record s { step = seek.Defers end } in let reply : ℕ = reply_to n.words (seek_ask here) in
    SeekLed n a (seeking_events a s (seek.Defers end) reply) seen (seek_next here reply) (words_after n.words (seek_ask here)))
unfolding seeking_events seeking_ask seeking_next defer_led deferring_ask deferring_next raise_ledto arm_ledto raise_ask raise_next raise_next_ask arm_ask arm_next passed
seeks_defer w a x seen s end sound got fits k =
    let n : GuardNow = w.now in
    by_deferred (λ (d : DeferState). Fits (likeness seen (defer_machine d) None) x →
    (let here : SeekState = record s { defer = d; step = seek.Defers end } in let reply : ℕ = reply_to n.words (seek_ask here) in
    SeekLed n a (seeking_events a here (seek.Defers end) reply) seen (seek_next here reply) (words_after n.words (seek_ask here)))) (levels_of n.words) s.defer k
    (λ its slot arming stored its_fits. record {
      follows = record {
        actor = record x { machine = Arms (arm.StoresEpoch slot (armed_epoch (reply_to n.words (raise_ask (raise.RaisesEpoch slot))))) };
        same = raised_led w a x slot (action_of its) sound got its_fits.machine its_fits.work stored;
        fits = record { machine = refl; work = its_fits.work; seen = its_fits.seen; undecided = its_fits.undecided };
      };
      knows = tt;
    })
    (λ epoch slot c raising its_fits. record {
      follows = record {
        actor = record x { machine = Arms arm.AtRest };
        same = armed_led n a x slot c got its_fits.machine its_fits.work;
        fits = record { machine = refl; work = its_fits.work; seen = its_fits.seen; undecided = its_fits.undecided };
      };
      knows = tt;
    }) fits

sought_at : (w : GuardWorld) (a : ℕ) (x : Actor) (seen : LastSeen) (s : SeekState) (step : Seeking) → IsSound w → slice_get w.now.actors a ≡ Some x
    → Fits (likeness seen (seeking_machine s step) None) x → SeekKnows (levels_of w.now.words) s step → is_done (seeking_ask s step) ≡ false
    → (let n : GuardNow = w.now in let here : SeekState = record s { step = step } in let reply : ℕ = reply_to n.words (seek_ask here) in
    SeekLed n a (seeking_events a s step reply) seen (seek_next here reply) (words_after n.words (seek_ask here)))
unfolding seeking_events seeking_ask seeking_next
sought_at w a x seen s (seek.Ended its) sound got fits k e = cc
sought_at w a x seen s (seek.LoadsOwing session) sound got fits k e = rw (set-get_or w.now.words (session_place session own.Owing) 0) (elim (truth (word_at w.now.words (session_place session own.Owing) == 0)) [
  | inl f ↦ rw f (owing_goes w.now a x seen (record s { step = seek.LoadsOwing session }) (session + 1) got fits)
  | inr f ↦ rw f (slotless w.now a [] seen (record s { step = seek.Ended answer.Owing }) w.now.words refl (record { follows = record { actor = x; same = stays w.now a x got; fits = fits }; knows = tt }))
])
sought_at w a x seen s seek.SeeksSlot sound got fits k e =
    let n : GuardNow = w.now in
    let d : DeferState = s.defer in
    let its : x.machine ≡ Raises d.raising = subst (λ (machine : Option EpochMachine). FitsMachine machine x.machine) (sought_shows d k) fits.machine in
    passed_step (λ reply words. SeekLed n a (Moves a ∷ []) seen (seek_next (record s { step = seek.SeeksSlot }) reply) words) n.words (defer_ask d) answer.Idle
    (seeks_slot n a x seen s (defer_next d (reply_to n.words (defer_ask d))) (words_after n.words (defer_ask d)) (defer_ask (defer_next d (reply_to n.words (defer_ask d)))) refl
    (sought d (reply_to n.words (defer_ask d)) k) fits.work fits.seen fits.undecided (sought_led n a x d got its fits.work k))
sought_at w a x seen s seek.LoadsCut sound got fits k e = rw (set-get_or w.now.words (session_place (length s.points) (cut_of s.number.0)) 0) (cut_goes w.now a x seen s (word_at w.now.words (session_place (length s.points) (cut_of s.number.0))) got k fits)
sought_at w a x seen s (seek.LoadsOther first) sound got fits k e = rw (set-get_or w.now.words (session_place (length s.points) (other_cut_of s.number.0)) 0) (other_goes w.now a x seen s first (word_at w.now.words (session_place (length s.points) (other_cut_of s.number.0))) got k fits)
sought_at w a x seen s seek.LoadsAgain sound got fits k e =
    rw (set-get_or w.now.words (session_place (length s.points) (cut_of s.number.0)) 0)
    (points_go w.now a x seen (with_point (record s { step = seek.LoadsAgain }) (serial_said (word_at w.now.words (session_place (length s.points) (cut_of s.number.0))))) [] w.now.words (stays w.now a x got) k fits)
sought_at w a x seen s seek.StoresWaitFlush sound got fits k e =
    let n : GuardNow = w.now in
    let word : ℕ = phase_stored WaitFlush (version_after s.number) in
    slotless n a (Changes a (shared_place one.Phase) word ∷ []) seen (record s { step = seek.LoadsTail }) (slice_set n.words (shared_place one.Phase) word) refl (record {
      follows = record { actor = x; same = changes n a x got (shared_place one.Phase) word (phase_is_outer n.places); fits = fits };
      knows = k;
    })
sought_at w a x seen s seek.LoadsTail sound got fits k e =
    let n : GuardNow = w.now in
    let tail : ℕ = word_at n.words (shared_place one.Tail) in
    rw (set-get_or w.now.words (shared_place one.Tail) 0)
    (slotless n a [] seen (record s { step = seek.RaisesReadOnly (record { 0 = tail }) }) n.words refl (record { follows = record { actor = x; same = stays n a x got; fits = fits }; knows = (k, omega arith) }))
sought_at w a x seen s (seek.RaisesReadOnly end) sound got fits k e = read_only_goes w a x seen s end sound got k.0 k.1 fits
sought_at w a x seen s (seek.Defers end) sound got fits k e = seeks_defer w a x seen s end sound got fits k

pub sought_to : (w : GuardWorld) (a : ℕ) (x : Actor) (seen : LastSeen) (s : SeekState) → IsSound w → slice_get w.now.actors a ≡ Some x
    → Fits (likeness seen (seek_machine s) None) x → SeekKnown w.now.words s → is_done (seek_ask s) ≡ false
    → (let n : GuardNow = w.now in let reply : ℕ = reply_to n.words (seek_ask s) in SeekLed n a (seeking_events a s s.step reply) seen (seek_next s reply) (words_after n.words (seek_ask s)))
sought_to w a x seen s sound got fits k e = sought_at w a x seen s s.step sound got fits k e
