-- Where a part of a commit gives an action to a slot, this is empty: the epoch was raised for it.
use Rattle.std.proofs.Common.{◌≡◌, ℕ, ◌∙◌, inl, inr, refl, ap, subst, false, List, max}
use Rattle.std.specs.Prelude.{not, Option, Some, slice_get, length, nat_lt, nat_le, ◌==◌, ◌+◌}
use Rattle.fkv_base.specs.declared.phases.Phase.TheVariants.{Rest, InProgress, WaitPending}
use Rattle.fkv_base.specs.declared.numbers.Addr.{Addr}
use Rattle.fkv_base.specs.declared.numbers.Version.{Version}
use Rattle.fkv_words.specs.declared.phase_words.PhaseSaid.{PhaseSaid}
use Rattle.fkv_words.specs.declared.phase_words.PhaseSaid.TheVariants.{Says}
use Rattle.fkv_words.specs.PhaseWords.{phase_said}
use Rattle.fkv_plane.specs.declared.actions.Action.{Action}
use Rattle.fkv_plane.specs.declared.asks.Ask.{Ask}
use Rattle.fkv_plane.specs.declared.asks.Ask.TheVariants.{Put, Take, Done}
use Rattle.fkv_plane.specs.Passing.{passed}
use Rattle.fkv_epoch.specs.declared.raising.Raising.TheVariants as raise
use Rattle.fkv_epoch.specs.Raising.{raise_ask, raise_next, raise_next_ask, raise_on}
use Rattle.fkv_epoch.specs.Arming.{arm_ask, arm_next}
use Rattle.fkv_epoch.specs.EpochWorld.{Raises}
use Rattle.fkv_epoch.proofs.Shown.{some_same}
use Rattle.fkv_commit.specs.declared.deferring.DeferAnswer.{DeferAnswer}
use Rattle.fkv_commit.specs.declared.deferring.DeferAnswer.TheVariants.{Held, Spent, Armed}
use Rattle.fkv_commit.specs.declared.deferring.Deferred.{Deferred}
use Rattle.fkv_commit.specs.declared.deferring.Deferred.TheVariants.{EntersPhase, ShowsReadOnly}
use Rattle.fkv_commit.specs.declared.entering.EnterAnswer.TheVariants as entered
use Rattle.fkv_commit.specs.declared.entering.Entering.{Entering}
use Rattle.fkv_commit.specs.declared.entering.Entering.TheVariants as enter
use Rattle.fkv_commit.specs.declared.seeking.SeekAnswer.TheVariants as sought_as
use Rattle.fkv_commit.specs.declared.seeking.Seeking.{Seeking}
use Rattle.fkv_commit.specs.declared.seeking.Seeking.TheVariants as seek
use Rattle.fkv_commit.specs.declared.starting.StartAnswer.TheVariants as started
use Rattle.fkv_commit.specs.declared.starting.Starting.{Starting}
use Rattle.fkv_commit.specs.declared.starting.Starting.TheVariants as start
use Rattle.fkv_commit.specs.Commits.{version_after}
use Rattle.fkv_commit.specs.Cuts.{serial_said, is_cut_of}
use Rattle.fkv_commit.specs.Deferring.{DeferState, defer_ask, defer_next, defer_on, deferring_ask, deferring_next, deferring_on, raise_ledto, arm_ledto}
use Rattle.fkv_commit.specs.Entering as entering
use Rattle.fkv_commit.specs.Entering.{EnterState, enter_ask, enter_next, entering_ask, entering_next}
use Rattle.fkv_commit.specs.Seeking as seeking
use Rattle.fkv_commit.specs.Seeking.{SeekState, seek_ask, seek_next, seeking_ask, seeking_next, points_from, with_point, slot_led, cut_met, other_met}
use Rattle.fkv_commit.specs.Starting as starting
use Rattle.fkv_base.specs.Limits.{last_of}
use Rattle.fkv_commit.specs.Starting.{StartState, start_ask, start_next, starting_ask, starting_next, phase_found, is_lost_full}
use Rattle.fkv_flush.specs.GuardLevels.{levels_of}
use Rattle.fkv_flush.specs.GuardWorld.{Actor, GuardWorld}
use Rattle.fkv_flush.proofs.Shown.{IsSound, FitsMachine, machine_at}
use Rattle.law_world.specs.GuardKeeper.CommitShown.{starting_machine, entering_machine, seeking_machine, defer_machine, StartKnows, EnterKnows, SeekKnows, IsSlotHeld, IsActionDeferred}
use Rattle.law_world.specs.GuardKeeper.Settled.{is_of_slot}
use Rattle.law_world.proofs.OfGuardKeeper.Deferred.{SeekGoes, sought, by_held, by_deferred}
use Rattle.law_world.proofs.OfGuardKeeper.Puts.{IsEmptySlot, PutsIntoEmpty, puts_none, passed_puts}
use Rattle.law_world.proofs.OfGuardKeeper.Slots.{truth, passed_slot}
use Rattle.law_world.proofs.OfGuardKeeper.Sought.{owing_slot}

-- who is about to raise the epoch for a slot has found it empty
raised_empty : (w : GuardWorld) (a : ℕ) (x : Actor) (slot : ℕ) → IsSound w → slice_get w.now.actors a ≡ Some x → x.machine ≡ Raises (raise.RaisesEpoch slot)
    → (other : ℕ) → ◌≡◌ {A = Option ℕ} (Some slot) (Some other) → IsEmptySlot w.now.actions other
raised_empty w a x slot sound got its other e =
    let holds = sound.epochs.slots.holds a (Raises (raise.RaisesEpoch slot)) (machine_at w.now.actors a x got ∙ ap Some its) in
    subst (λ (k : ℕ). IsEmptySlot w.now.actions k) (some_same slot other e) (holds.0, holds.2)

-- a deferral gives its action to the slot that it has raised the epoch for
defer_puts : (w : GuardWorld) (a : ℕ) (x : Actor) (d : DeferState) (reply : ℕ) → IsSound w → slice_get w.now.actors a ≡ Some x → FitsMachine (defer_machine d) x.machine → IsActionDeferred (levels_of w.now.words) d
    → PutsIntoEmpty w.now.actions (defer_ask (defer_next d reply))
unfolding deferring_ask deferring_next raise_ledto arm_ledto raise_ask raise_next raise_next_ask arm_ask arm_next passed
defer_puts w a x d reply sound got fits k =
    by_deferred (λ (e : DeferState). FitsMachine (defer_machine e) x.machine → PutsIntoEmpty w.now.actions (defer_ask (defer_next e reply))) (levels_of w.now.words) d k
    (λ its slot arming stored its_fits. raised_empty w a x slot sound got its_fits)
    (λ epoch slot c raising its_fits other e. cc) fits

-- as it is let go on it raises the epoch
on_off : (d : DeferState) (its : Deferred) → IsSlotHeld d → is_of_slot (defer_ask (defer_on d its)) ≡ false
unfolding deferring_on deferring_ask raise_on raise_ask passed
on_off d its k = by_held (λ (e : DeferState). is_of_slot (defer_ask (defer_on e its)) ≡ false) d k (λ slot arming. refl)

-- a commit's start
phase_off : (s : StartState) (said : PhaseSaid) → is_of_slot (start_ask (phase_found s said)) ≡ false
unfolding starting_ask deferring_ask raise_ask passed
phase_off s (Says Rest number) = elim (truth (nat_le (last_of s.asked.class) number.0)) [
  | inl e ↦ rw e refl
  | inr e ↦ elim (truth (is_lost_full s.asked number.0)) [ inl f ↦ rw (e, f) refl | inr f ↦ rw (e, f) refl ]
]
phase_off s said = refl

start_seeks : (s : StartState) (number : Version) (e : DeferState) (ask : Ask DeferAnswer) → defer_ask e ≡ ask → SeekGoes ask e → is_of_slot (start_ask (starting.seek_led number (record s { defer = e; step = start.Seeks number }) ask)) ≡ false
unfolding starting.seek_led starting_ask
start_seeks s number e (Done Held) its k = refl
start_seeks s number e (Done Spent) its k = refl
start_seeks s number e (Done other) its k = refl
start_seeks s number e (Put slot action) its k = absurd k
start_seeks s number e (Take slot) its k = absurd k
start_seeks s number e ask its k = passed_slot (defer_ask e) started.Idle ∙ ap is_of_slot its

start_defers : (actions : List (Option Action)) (s : StartState) (number : Version) (first : Addr) (e : DeferState) (ask : Ask DeferAnswer) → PutsIntoEmpty actions (defer_ask e)
    → PutsIntoEmpty actions (start_ask (starting.defer_led number first (record s { defer = e; step = start.Defers number first }) ask))
unfolding starting.defer_led starting_ask
start_defers actions s number first e (Done (Armed epoch)) empty slot f = cc
start_defers actions s number first e (Done other) empty slot f = cc
start_defers actions s number first e ask empty slot f = passed_puts actions (defer_ask e) started.Idle empty slot f

start_puts_at : (w : GuardWorld) (a : ℕ) (x : Actor) (s : StartState) (step : Starting) (reply : ℕ) → IsSound w → slice_get w.now.actors a ≡ Some x → FitsMachine (starting_machine s step) x.machine → StartKnows (levels_of w.now.words) s step
    → PutsIntoEmpty w.now.actions (start_ask (start_next (record s { step = step }) reply))
unfolding starting_next starting_ask
start_puts_at w a x s (start.Ended its) reply sound got fits k slot f = cc
start_puts_at w a x s start.LoadsPhase reply sound got fits k slot f =
    let here : StartState = phase_found (record s { step = start.LoadsPhase }) (phase_said reply) in
    puts_none w.now.actions (start_ask here) (phase_off (record s { step = start.LoadsPhase }) (phase_said reply)) slot f
start_puts_at w a x s (start.Seeks number) reply sound got fits k slot f =
    let e : DeferState = defer_next s.defer reply in
    puts_none w.now.actions (start_ask (starting.seek_led number (record s { defer = e; step = start.Seeks number }) (defer_ask e))) (start_seeks s number e (defer_ask e) refl (sought s.defer reply k)) slot f
start_puts_at w a x s (start.StoresPrepare number) reply sound got fits k slot f = cc
start_puts_at w a x s (start.LoadsTail number) reply sound got fits k slot f =
    let its : Deferred = EntersPhase InProgress (version_after number) in
    passed_puts w.now.actions (defer_ask (defer_on s.defer its)) started.Idle (puts_none w.now.actions (defer_ask (defer_on s.defer its)) (on_off s.defer its k)) slot f
start_puts_at w a x s (start.Defers number first) reply sound got fits k slot f =
    let e : DeferState = defer_next s.defer reply in
    start_defers w.now.actions s number first e (defer_ask e) (defer_puts w a x s.defer reply sound got fits k) slot f

pub start_puts : (w : GuardWorld) (a : ℕ) (x : Actor) (s : StartState) (reply : ℕ) → IsSound w → slice_get w.now.actors a ≡ Some x → FitsMachine (starting_machine s s.step) x.machine → StartKnows (levels_of w.now.words) s s.step
    → PutsIntoEmpty w.now.actions (start_ask (start_next s reply))
start_puts w a x s reply sound got fits k = start_puts_at w a x s s.step reply sound got fits k

-- its wait-pending
enter_seeks : (s : EnterState) (e : DeferState) (ask : Ask DeferAnswer) → defer_ask e ≡ ask → SeekGoes ask e → is_of_slot (enter_ask (entering.seek_led (record s { defer = e; step = enter.Seeks }) ask)) ≡ false
unfolding entering.seek_led entering_ask
enter_seeks s e (Done Held) its k =
    let next : Deferred = EntersPhase WaitPending (version_after s.number) in
    passed_slot (defer_ask (defer_on e next)) entered.Idle ∙ on_off e next k
enter_seeks s e (Done Spent) its k = refl
enter_seeks s e (Done other) its k = refl
enter_seeks s e (Put slot action) its k = absurd k
enter_seeks s e (Take slot) its k = absurd k
enter_seeks s e ask its k = passed_slot (defer_ask e) entered.Idle ∙ ap is_of_slot its

enter_defers : (actions : List (Option Action)) (s : EnterState) (e : DeferState) (ask : Ask DeferAnswer) → PutsIntoEmpty actions (defer_ask e) → PutsIntoEmpty actions (enter_ask (entering.defer_led (record s { defer = e; step = enter.Defers }) ask))
unfolding entering.defer_led entering_ask
enter_defers actions s e (Done (Armed epoch)) empty slot f = cc
enter_defers actions s e (Done other) empty slot f = cc
enter_defers actions s e ask empty slot f = passed_puts actions (defer_ask e) entered.Idle empty slot f

enter_puts_at : (w : GuardWorld) (a : ℕ) (x : Actor) (s : EnterState) (step : Entering) (reply : ℕ) → IsSound w → slice_get w.now.actors a ≡ Some x → FitsMachine (entering_machine s step) x.machine → EnterKnows (levels_of w.now.words) s step
    → PutsIntoEmpty w.now.actions (enter_ask (enter_next (record s { step = step }) reply))
unfolding entering_next entering_ask
enter_puts_at w a x s (enter.Ended its) reply sound got fits k slot f = cc
enter_puts_at w a x s enter.Seeks reply sound got fits k slot f =
    let e : DeferState = defer_next s.defer reply in
    puts_none w.now.actions (enter_ask (entering.seek_led (record s { defer = e; step = enter.Seeks }) (defer_ask e))) (enter_seeks s e (defer_ask e) refl (sought s.defer reply k)) slot f
enter_puts_at w a x s enter.Defers reply sound got fits k slot f =
    let e : DeferState = defer_next s.defer reply in
    enter_defers w.now.actions s e (defer_ask e) (defer_puts w a x s.defer reply sound got fits k) slot f

pub enter_puts : (w : GuardWorld) (a : ℕ) (x : Actor) (s : EnterState) (reply : ℕ) → IsSound w → slice_get w.now.actors a ≡ Some x → FitsMachine (entering_machine s s.step) x.machine → EnterKnows (levels_of w.now.words) s s.step
    → PutsIntoEmpty w.now.actions (enter_ask (enter_next s reply))
enter_puts w a x s reply sound got fits k = enter_puts_at w a x s s.step reply sound got fits k

-- its points
points_off : (s : SeekState) → is_of_slot (seek_ask (points_from s)) ≡ false
unfolding seeking_ask
points_off s = elim (truth (nat_lt (length s.points) s.sessions)) [ inl e ↦ rw e refl | inr e ↦ rw e refl ]

owing_off : (s : SeekState) (session reply : ℕ) → is_of_slot (seek_ask (seek_next (record s { step = seek.LoadsOwing session }) reply)) ≡ false
unfolding seeking_next seeking_ask
owing_off s session reply = elim (truth (reply == 0)) [ inl e ↦ rw e (owing_slot (record s { step = seek.LoadsOwing session }) (session + 1)) | inr e ↦ rw e refl ]

cut_off : (s : SeekState) (word : ℕ) → is_of_slot (seek_ask (cut_met s word)) ≡ false
unfolding seeking_ask
cut_off s word = elim (truth (is_cut_of s.number.0 word)) [ inl e ↦ rw e (points_off (with_point s (serial_said word))) | inr e ↦ rw e refl ]

other_off : (s : SeekState) (first word : ℕ) → is_of_slot (seek_ask (other_met s first word)) ≡ false
unfolding seeking_ask
other_off s first word = elim (truth (not (is_cut_of (s.number.0 + 1) word))) [ inl e ↦ rw e (points_off (with_point s (max (serial_said first) (serial_said word)))) | inr e ↦ rw e refl ]

seek_seeks : (s : SeekState) (e : DeferState) (ask : Ask DeferAnswer) → defer_ask e ≡ ask → SeekGoes ask e → is_of_slot (seek_ask (slot_led (record s { defer = e; step = seek.SeeksSlot }) ask)) ≡ false
unfolding slot_led seeking_ask
seek_seeks s e (Done Held) its k = points_off (record s { defer = e; step = seek.SeeksSlot })
seek_seeks s e (Done Spent) its k = refl
seek_seeks s e (Done other) its k = refl
seek_seeks s e (Put slot action) its k = absurd k
seek_seeks s e (Take slot) its k = absurd k
seek_seeks s e ask its k = passed_slot (defer_ask e) sought_as.Idle ∙ ap is_of_slot its

seek_defers : (actions : List (Option Action)) (s : SeekState) (end : Addr) (e : DeferState) (ask : Ask DeferAnswer) → PutsIntoEmpty actions (defer_ask e) → PutsIntoEmpty actions (seek_ask (seeking.defer_led end (record s { defer = e; step = seek.Defers end }) ask))
unfolding seeking.defer_led seeking_ask
seek_defers actions s end e (Done (Armed epoch)) empty slot f = cc
seek_defers actions s end e (Done other) empty slot f = cc
seek_defers actions s end e ask empty slot f = passed_puts actions (defer_ask e) sought_as.Idle empty slot f

seek_puts_at : (w : GuardWorld) (a : ℕ) (x : Actor) (s : SeekState) (step : Seeking) (reply : ℕ) → IsSound w → slice_get w.now.actors a ≡ Some x → FitsMachine (seeking_machine s step) x.machine → SeekKnows (levels_of w.now.words) s step
    → PutsIntoEmpty w.now.actions (seek_ask (seek_next (record s { step = step }) reply))
unfolding seeking_next seeking_ask
seek_puts_at w a x s (seek.Ended its) reply sound got fits k slot f = cc
seek_puts_at w a x s (seek.LoadsOwing session) reply sound got fits k slot f =
    puts_none w.now.actions (seek_ask (seek_next (record s { step = seek.LoadsOwing session }) reply)) (owing_off s session reply) slot f
seek_puts_at w a x s seek.SeeksSlot reply sound got fits k slot f =
    let e : DeferState = defer_next s.defer reply in
    puts_none w.now.actions (seek_ask (slot_led (record s { defer = e; step = seek.SeeksSlot }) (defer_ask e))) (seek_seeks s e (defer_ask e) refl (sought s.defer reply k)) slot f
seek_puts_at w a x s seek.LoadsCut reply sound got fits k slot f = puts_none w.now.actions (seek_ask (cut_met (record s { step = seek.LoadsCut }) reply)) (cut_off (record s { step = seek.LoadsCut }) reply) slot f
seek_puts_at w a x s (seek.LoadsOther first) reply sound got fits k slot f =
    puts_none w.now.actions (seek_ask (other_met (record s { step = seek.LoadsOther first }) first reply)) (other_off (record s { step = seek.LoadsOther first }) first reply) slot f
seek_puts_at w a x s seek.LoadsAgain reply sound got fits k slot f =
    puts_none w.now.actions (seek_ask (seek_next (record s { step = seek.LoadsAgain }) reply)) (points_off (with_point (record s { step = seek.LoadsAgain }) (serial_said reply))) slot f
seek_puts_at w a x s seek.StoresWaitFlush reply sound got fits k slot f = cc
seek_puts_at w a x s seek.LoadsTail reply sound got fits k slot f = cc
seek_puts_at w a x s (seek.RaisesReadOnly end) reply sound got fits k slot f =
    passed_puts w.now.actions (defer_ask (defer_on s.defer (ShowsReadOnly end))) sought_as.Idle (puts_none w.now.actions (defer_ask (defer_on s.defer (ShowsReadOnly end))) (on_off s.defer (ShowsReadOnly end) k.0)) slot f
seek_puts_at w a x s (seek.Defers end) reply sound got fits k slot f =
    let e : DeferState = defer_next s.defer reply in
    seek_defers w.now.actions s end e (defer_ask e) (defer_puts w a x s.defer reply sound got fits k) slot f

pub seek_puts : (w : GuardWorld) (a : ℕ) (x : Actor) (s : SeekState) (reply : ℕ) → IsSound w → slice_get w.now.actors a ≡ Some x → FitsMachine (seeking_machine s s.step) x.machine → SeekKnows (levels_of w.now.words) s s.step
    → PutsIntoEmpty w.now.actions (seek_ask (seek_next s reply))
seek_puts w a x s reply sound got fits k = seek_puts_at w a x s s.step reply sound got fits k
