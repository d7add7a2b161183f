-- A step of a commit that copies the index, waits, is written or finishes, and one of a sweep, as the keeper makes it.
use Rattle.std.proofs.Common.{◌≡◌, ℕ, List, [], refl, ap, sym, subst, ◌∙◌, Bool, true, false}
use Rattle.std.specs.Prelude.{Option, Some, None, slice_get, ◌+◌, if◌then◌else◌}
use Rattle.fkv_index.specs.Slots.{bucket_slots}
use Rattle.std.proofs.lemmas.List.{set-get_or}
use Rattle.fkv_base.specs.declared.numbers.Serial.{Serial}
use Rattle.fkv_base.specs.declared.shapes.Shape.{Shape}
use Rattle.fkv_disk.specs.Calls.{Call}
use Rattle.fkv_plane.specs.declared.asks.Ask.{Ask}
use Rattle.fkv_plane.specs.declared.asks.Ask.TheVariants.{Load, Done}
use Rattle.fkv_plane.specs.Asked.{words_after}
use Rattle.fkv_checkpoint.specs.declared.copying.CopyStep.{CopyStep}
use Rattle.fkv_checkpoint.specs.declared.copying.CopyStep.TheVariants as copy
use Rattle.fkv_checkpoint.specs.Copying.{Copier, copy_step_ask}
use Rattle.fkv_commit.specs.declared.commits.Commit.{Commit}
use Rattle.fkv_commit.specs.declared.finishing.FinishAnswer.{FinishAnswer}
use Rattle.fkv_commit.specs.declared.finishing.Finishing.{Finishing}
use Rattle.fkv_commit.specs.declared.finishing.Finishing.TheVariants as finish
use Rattle.fkv_commit.specs.declared.waiting.WaitAnswer.{WaitAnswer}
use Rattle.fkv_commit.specs.declared.waiting.WaitAnswer.TheVariants as waited
use Rattle.fkv_commit.specs.declared.waiting.Waiting.{Waiting}
use Rattle.fkv_commit.specs.declared.waiting.Waiting.TheVariants as wait
use Rattle.fkv_commit.specs.Finishing.{FinishState, durable_from, finish_ask, finishing_ask}
use Rattle.fkv_commit.specs.Waiting.{WaitState, wait_ask, wait_next, waiting_ask}
use Rattle.fkv_index.proofs.Shown.{IsReading}
use Rattle.fkv_sweep.specs.declared.sweeping.SweepAnswer.{SweepAnswer}
use Rattle.fkv_sweep.specs.declared.sweeping.SweepAnswer.TheVariants as swept
use Rattle.fkv_sweep.specs.Sweeping.{Sweeper, sweep_ask, sweep_next, sweep_read}
use Rattle.fkv_sweep.specs.Swept.{IsLoadOrEnd}
use Rattle.fkv_sweep.proofs.Shown.{sweep_begun_loading, sweep_loads, sweep_next_loading, sweep_read_loading}
use Rattle.fkv_flush.specs.GuardSeen.{LastSeen}
use Rattle.fkv_flush.specs.GuardWorld.{Actor, GuardNow, GuardEvent, near, put_near}
use Rattle.fkv_flush.proofs.Shown.{runs_now, Fits, Follows}
use Rattle.fkv_manifest.specs.declared.answers.WriteAnswer.{WriteAnswer}
use Rattle.fkv_manifest.specs.declared.answers.WriteAnswer.TheVariants as write
use Rattle.fkv_manifest.specs.Committing.{commit_next, commit_answer}
use Rattle.fkv_keeper.specs.declared.keepers.Keeping.TheVariants as keeping
use Rattle.fkv_keeper.specs.Keeping.{must_rest, turned, KeeperState, copy_asked, copy_ledto, copy_driven, finished, finish_ledto, keeping_ask, may_set, sweep_called, sweep_ledto, sweep_set, turn_over, wait_ledto, writes_begun, writes_called, write_ledto, copy_told}
use Rattle.law_world.specs.GuardKeeper.KeeperShown.{OfStore}
use Rattle.law_world.specs.GuardKeeper.CommitShown.{FinishKnows}
use Rattle.law_world.specs.GuardKeeper.KeeperEvents.{write_events}
use Rattle.law_world.specs.GuardKeeper.Settled.{is_of_slot}
use Rattle.law_world.proofs.OfGuardKeeper.Finished.{durable_known}
use Rattle.law_world.specs.GuardKeeper.Followed.{KeeperLed, likeness}
use Rattle.law_world.proofs.OfGuardKeeper.KeeperLed.{StepLed, slotless_step}
use Rattle.law_world.proofs.OfGuardKeeper.PartLed.{stays}
use Rattle.law_world.proofs.OfGuardKeeper.Quiet.{is_quiet, IsQuietAs, quiet_led, quiet_step}
use Rattle.law_world.proofs.OfGuardKeeper.Slots.{passed_slot}

-- a load leaves the words as they are
copy_words_at : (words : List ℕ) (base : ℕ) (step : CopyStep) → words_after words (copy_step_ask base step) ≡ words
unfolding copy_step_ask
copy_words_at words base copy.Ended = refl
copy_words_at words base (copy.LoadsSlot slot) = set-get_or words (base + slot) 0
copy_words_at words base copy.LoadsLink = set-get_or words (base + bucket_slots) 0

copy_words : (words : List ℕ) (its : Option Copier) → words_after words (copy_asked its) ≡ words
copy_words words None = refl
copy_words words (Some m) = copy_words_at words m.copying.base m.copying.step

pub copy_quiet : (s : KeeperState) (its : Option Copier) (ask : Ask (Unit {0})) → IsQuietAs s (copy_ledto (record s { copy = its; step = keeping.Copies }) ask)
unfolding copy_ledto
copy_quiet s its (Done told) = record { quiet = refl; store = λ p same. same }
copy_quiet s its ask = record { quiet = refl; store = λ p same. same }

pub copies_kept : (n : GuardNow) (a : ℕ) (x : Actor) (seen : LastSeen) (s : KeeperState) (granted : Bool) (reply : ℕ) → slice_get n.actors a ≡ Some x → Fits (likeness seen None None) x → OfStore n.places s
    → StepLed n a [] seen granted (copy_ledto (record s { copy = copy_driven s.copy reply; step = keeping.Copies }) (copy_told (copy_driven s.copy reply))) (words_after n.words (copy_asked s.copy))
copies_kept n a x seen s granted reply got fits same =
    let there : KeeperState = copy_ledto (record s { copy = copy_driven s.copy reply; step = keeping.Copies }) (copy_told (copy_driven s.copy reply)) in
    let its : IsQuietAs s there = copy_quiet s (copy_driven s.copy reply) (copy_told (copy_driven s.copy reply)) in
    subst (λ (words : List ℕ). StepLed n a [] seen granted there words) (sym (copy_words n.words s.copy))
    (quiet_step n a [] seen granted there n.words its.quiet (its.store n.places same) (record { actor = x; same = stays n a x got; fits = fits }))

-- so does each ask of a sweep, whose search is one for a read
load_words : (words : List ℕ) (ask : Ask SweepAnswer) → IsLoadOrEnd ask → words_after words ask ≡ words
load_words words (Load place) loads = set-get_or words place 0
load_words words (Done its) loads = refl
load_words words ask loads = absurd loads

sweep_words : (words : List ℕ) (w : Sweeper) → IsReading w.finding → words_after words (sweep_ask w) ≡ words
sweep_words words w reads = load_words words (sweep_ask w) (sweep_loads w (record { reads = reads }))

pub sweep_quiet : (s : KeeperState) (w : Sweeper) (ask : Ask SweepAnswer) → (IsReading s.sweep.finding → IsReading w.finding) → IsQuietAs s (sweep_ledto (record s { sweep = w; step = keeping.Sweeps }) ask)
unfolding sweep_ledto
sweep_quiet s w (Done swept.Through) on = record { quiet = refl; store = λ p same. (same.0, on same.1) }
sweep_quiet s w ask on = record { quiet = refl; store = λ p same. (same.0, on same.1) }

next_reads : (w : Sweeper) (reply : ℕ) → IsReading w.finding → IsReading (sweep_next w reply).finding
next_reads w reply reads = (sweep_next_loading w reply (record { reads = reads })).reads

read_reads : (w : Sweeper) (bytes : List ℕ) → IsReading w.finding → IsReading (sweep_read w bytes).finding
read_reads w bytes reads = (sweep_read_loading w bytes (record { reads = reads })).reads

pub sweep_replied_quiet : (s : KeeperState) (reply : ℕ) → IsQuietAs s (sweep_ledto (record s { sweep = sweep_next s.sweep reply; step = keeping.Sweeps }) (sweep_ask (sweep_next s.sweep reply)))
sweep_replied_quiet s reply = sweep_quiet s (sweep_next s.sweep reply) (sweep_ask (sweep_next s.sweep reply)) (next_reads s.sweep reply)

pub sweeps_kept : (n : GuardNow) (a : ℕ) (x : Actor) (seen : LastSeen) (s : KeeperState) (granted : Bool) (reply : ℕ) → slice_get n.actors a ≡ Some x → Fits (likeness seen None None) x → OfStore n.places s
    → StepLed n a [] seen granted (sweep_ledto (record s { sweep = sweep_next s.sweep reply; step = keeping.Sweeps }) (sweep_ask (sweep_next s.sweep reply))) (words_after n.words (sweep_ask s.sweep))
sweeps_kept n a x seen s granted reply got fits same =
    let there : KeeperState = sweep_ledto (record s { sweep = sweep_next s.sweep reply; step = keeping.Sweeps }) (sweep_ask (sweep_next s.sweep reply)) in
    let its : IsQuietAs s there = sweep_replied_quiet s reply in
    subst (λ (words : List ℕ). StepLed n a [] seen granted there words) (sym (sweep_words n.words s.sweep same.1))
    (quiet_step n a [] seen granted there n.words its.quiet (its.store n.places same) (record { actor = x; same = stays n a x got; fits = fits }))

-- its read of the device is nothing to the guard
pub sweep_called_kept : (n : GuardNow) (a : ℕ) (x : Actor) (seen : LastSeen) (s : KeeperState) (done : Bool) (bytes : List ℕ) → slice_get n.actors a ≡ Some x → Fits (likeness seen None None) x → OfStore n.places s
    → KeeperLed n a [] seen (sweep_called (record s { step = keeping.Sweeps }) done bytes) n.words n.actions
sweep_called_kept n a x seen s true bytes got fits same =
    let next : Sweeper = sweep_read s.sweep bytes in
    let there : KeeperState = sweep_ledto (record s { sweep = next; step = keeping.Sweeps }) (sweep_ask next) in
    let its : IsQuietAs s there = sweep_quiet s next (sweep_ask next) (read_reads s.sweep bytes) in
    quiet_led n a [] seen there n.words n.actions its.quiet (its.store n.places same) (record { actor = x; same = stays n a x got; fits = fits })
sweep_called_kept n a x seen s false bytes got fits same =
    quiet_led n a [] seen (sweep_called (record s { step = keeping.Sweeps }) false bytes) n.words n.actions refl same (record { actor = x; same = stays n a x got; fits = fits })

wait_words : (words : List ℕ) (step : Waiting) → words_after words (waiting_ask step) ≡ words
unfolding waiting_ask
wait_words words (wait.Ended its) = refl
wait_words words wait.LoadsSafe = set-get_or words 1 0
wait_words words wait.LoadsFlushed = set-get_or words 7 0

writes_quiet : (shape : Shape) (s : KeeperState) (its : Option Commit) → IsQuietAs s (writes_begun shape s its)
writes_quiet shape s None = record { quiet = refl; store = λ p same. same }
writes_quiet shape s (Some c) = record { quiet = refl; store = λ p same. same }

pub wait_quiet : (shape : Shape) (s : KeeperState) (t : WaitState) (ask : Ask WaitAnswer) → IsQuietAs s (wait_ledto shape (record s { wait = t; step = keeping.Waits }) ask)
unfolding wait_ledto
wait_quiet shape s t (Done waited.Flushed) = let its = writes_quiet shape (record s { wait = t; step = keeping.Waits }) s.commit in record { quiet = its.quiet; store = its.store }
wait_quiet shape s t (Done waited.NotYet) = record { quiet = refl; store = λ p same. same }
wait_quiet shape s t (Done waited.Idle) = record { quiet = refl; store = λ p same. same }
wait_quiet shape s t ask = record { quiet = refl; store = λ p same. same }

pub waits_kept : (n : GuardNow) (a : ℕ) (x : Actor) (seen : LastSeen) (s : KeeperState) (granted : Bool) (reply : ℕ) → slice_get n.actors a ≡ Some x → Fits (likeness seen None None) x → OfStore n.places s
    → StepLed n a [] seen granted (wait_ledto n.shape (record s { wait = wait_next s.wait reply; step = keeping.Waits }) (wait_ask (wait_next s.wait reply))) (words_after n.words (wait_ask s.wait))
waits_kept n a x seen s granted reply got fits same =
    let there : KeeperState = wait_ledto n.shape (record s { wait = wait_next s.wait reply; step = keeping.Waits }) (wait_ask (wait_next s.wait reply)) in
    let its : IsQuietAs s there = wait_quiet n.shape s (wait_next s.wait reply) (wait_ask (wait_next s.wait reply)) in
    subst (λ (words : List ℕ). StepLed n a [] seen granted there words) (sym (wait_words n.words s.wait.step))
    (quiet_step n a [] seen granted there n.words its.quiet (its.store n.places same) (record { actor = x; same = stays n a x got; fits = fits }))

pub finish_slot : (points : List Serial) (s : FinishState) (step : Finishing) → is_of_slot (finishing_ask points s step) ≡ false
unfolding finishing_ask
finish_slot points s (finish.Ended its) = refl
finish_slot points s (finish.StoresDurable session) = refl
finish_slot points s finish.StoresRest = refl

-- a sweep that is set has no search yet
either_reads : (b : Bool) (w its : Sweeper) → IsReading w.finding → IsReading its.finding → IsReading (if b then w else its).finding
either_reads true w its one other = one
either_reads false w its one other = other

set_reads : (s : KeeperState) (c : Commit) → IsReading s.sweep.finding → IsReading (sweep_set s c).finding
set_reads s c reads = either_reads (may_set s c) _ _ (sweep_begun_loading s.sweep.shape s.sweep.places c.begin c.first).reads reads

pub finish_quiet : (s : KeeperState) (its : Option Commit) → IsQuietAs s (finished s its)
finish_quiet s None = record { quiet = refl; store = λ p same. same }
finish_quiet s (Some c) = record { quiet = refl; store = λ p same. (same.0, set_reads s c same.1) }

pub finishes_kept : (n : GuardNow) (a : ℕ) (seen : LastSeen) (events : List GuardEvent) (s : KeeperState) (granted : Bool) (t : FinishState) (words : List ℕ) (ask : Ask FinishAnswer) → OfStore n.places (record s { finish = t }) → FinishKnows t t.step
    → Follows n a events (likeness seen None None) words n.actions → StepLed n a events seen granted (finish_ledto (record s { finish = t; step = keeping.Finishes }) ask) words
unfolding finish_ledto keeping_ask
finishes_kept n a seen events s granted t words (Done told) same knows f =
    let here : KeeperState = record s { finish = t; step = keeping.Finishes } in
    let its : IsQuietAs here (finished here s.commit) = finish_quiet here s.commit in
    quiet_step n a events seen granted (finished here s.commit) words its.quiet (its.store n.places same) f
finishes_kept n a seen events s granted t words ask same knows f =
    slotless_step n a events seen granted (record s { finish = t; step = keeping.Finishes }) words
    (passed_slot (finish_ask s.seek.points t) (turn_over s) ∙ finish_slot s.seek.points t t.step) (record { follows = f; knows = record { sessions = same.0; loads = same.1; its = knows } })

-- a call of the device for the writes is nothing to the words
write_led : (n : GuardNow) (a : ℕ) (x : Actor) (call : Option Call) → slice_get n.actors a ≡ Some x → runs_now n (write_events call) ≡ put_near n a (near n.words n.actions x)
write_led n a x None got = stays n a x got
write_led n a x (Some call) got = stays n a x got

write_shows : (n : GuardNow) (a : ℕ) (seen : LastSeen) (events : List GuardEvent) (s : KeeperState) (its : Option Commit) (answer : WriteAnswer) → s.step ≡ keeping.Writes → OfStore n.places s
    → Follows n a events (likeness seen None None) n.words n.actions → KeeperLed n a events seen (write_ledto s its answer) n.words n.actions
unfolding write_ledto
write_shows n a seen events s None answer at same f = quiet_led n a events seen (write_ledto s None answer) n.words n.actions refl same f
write_shows n a seen events s (Some c) write.Written at same f =
    record { follows = f; knows = record { sessions = same.0; loads = same.1; its = durable_known (record s.finish { number = c.number; step = durable_from s.finish.sessions 0 }) 0 } }
write_shows n a seen events s (Some c) write.Device at same f = by (must_rest s)
  where
    by : (rests : Bool) → KeeperLed n a events seen (if rests then turned (record s { rests = true }) else s) n.words n.actions
    by true = quiet_led n a events seen (turned (record s { rests = true })) n.words n.actions refl same f
    by false = quiet_led n a events seen s n.words n.actions (ap is_quiet at) same f
write_shows n a seen events s (Some c) (write.Broken why) at same f = quiet_led n a events seen s n.words n.actions (ap is_quiet at) same f

pub writes_kept : (n : GuardNow) (a : ℕ) (x : Actor) (seen : LastSeen) (s : KeeperState) (call : Option Call) (done : Bool) → slice_get n.actors a ≡ Some x → Fits (likeness seen None None) x → OfStore n.places s
    → KeeperLed n a (write_events call) seen (writes_called (record s { step = keeping.Writes }) done) n.words n.actions
writes_kept n a x seen s call true got fits same =
    write_shows n a seen (write_events call) (record s { writes = commit_next s.writes true; step = keeping.Writes }) s.commit (commit_answer (commit_next s.writes true)) refl same (record { actor = x; same = write_led n a x call got; fits = fits })
writes_kept n a x seen s call false got fits same =
    quiet_led n a (write_events call) seen (writes_called (record s { step = keeping.Writes }) false) n.words n.actions refl same (record { actor = x; same = write_led n a x call got; fits = fits })
