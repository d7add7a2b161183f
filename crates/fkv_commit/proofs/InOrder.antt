-- A commit stores or defers its phases in their order.
use Rattle.std.proofs.Common.{◌≡◌, ◌≢◌, ℕ, zero, suc, ◌+◌, ◌<◌, ◌∙◌, refl, sym, ap, inl, inr, arith, List, Bool}
use Rattle.std.specs.Prelude.{[], ◌∷◌, ◌++◌, ◌==◌, ◌&&◌, if◌then◌else◌, slice_get}
use Rattle.std.proofs.lemmas.Bool.Decides.{nat_tests}
use Rattle.std.proofs.lemmas.List.{append_assoc}
use Rattle.fkv_base.specs.declared.numbers.Addr.{Addr}
use Rattle.fkv_base.specs.declared.numbers.Serial.{Serial}
use Rattle.fkv_base.specs.declared.numbers.Version.{Version}
use Rattle.fkv_base.specs.declared.phases.Phase.{Phase}
use Rattle.fkv_base.specs.declared.phases.Phase.TheVariants as phase
use Rattle.fkv_plane.specs.declared.actions.Action.TheVariants as act
use Rattle.fkv_plane.specs.declared.asks.Ask.{Ask}
use Rattle.fkv_plane.specs.declared.asks.Ask.TheVariants.{Load, Store, Swap, Cas, Add, Max, Put, Take, Done}
use Rattle.fkv_plane.specs.declared.places.SharedWord.TheVariants as one
use Rattle.fkv_plane.specs.declared.places.SessionWord.TheVariants as own
use Rattle.fkv_plane.specs.Places.{shared_place, session_place, drain_place}
use Rattle.fkv_epoch.specs.Claiming.{phase_stored}
use Rattle.fkv_commit.specs.declared.starting.StartAsked.{StartAsked}
use Rattle.fkv_commit.specs.Commits.{version_after}
use Rattle.fkv_commit.specs.Finishing.{point_of}
use Rattle.fkv_commit.specs.Exchanges.{Exchange, ChangesNothing, AreIdle, HoldsSlot, IsDeferred}
use Rattle.fkv_commit.specs.Points.{CutsMet, First, Both, Again, all_loads, loads_of, AllAreTaken, seek_told, sought}
use Rattle.fkv_commit.specs.Phases.{HasBegun, HasEntered, AreDurable, HasFinished, phases_of, phases_told, PhasesInOrder, start_told, enter_told, finish_told}
use Rattle.fkv_commit.specs.declared.starting.StartAnswer.TheVariants.{Begun}
use Rattle.fkv_commit.specs.declared.entering.EnterAnswer.TheVariants.{Entered}
use Rattle.fkv_commit.specs.declared.seeking.SeekAnswer.TheVariants.{Taken}
use Rattle.fkv_commit.proofs.DeferTold.{truth}
use Rattle.fkv_commit.proofs.StartTold.{starts_end}
use Rattle.fkv_commit.proofs.EnterTold.{enters_end}
use Rattle.fkv_commit.proofs.SeekTold.{seeks_end}
use Rattle.fkv_commit.proofs.FinishTold.{finishes_end}

-- a store at another place tells no phase
elsewhere : (place new : ℕ) → 2 < place → (if place == 2 then new ∷ [] else []) ≡ []
elsewhere place new far = elim (truth (place == 2)) [
  | inl e ↦ let same : place ≡ 2 = grind (arith, nat_tests, e) in let no : ⊥ = omega (arith, same, far) in absurd no
  | inr e ↦ rw e refl
]

lost : (reply old : ℕ) (at : Bool) (new : ℕ) → reply ≢ old → (if reply == old && at then new ∷ [] else []) ≡ []
lost reply old at new apart = elim (truth (reply == old)) [
  | inl e ↦ let same : reply ≡ old = grind (arith, nat_tests, e) in absurd (apart same)
  | inr e ↦ rw e refl
]

idle_one : (ask : Ask (Unit {0})) (reply : ℕ) → ChangesNothing ask reply → phases_of ask reply ≡ []
idle_one (Load place) reply idle = refl
idle_one (Cas place old new) reply idle = lost reply old (place == shared_place one.Phase) new idle
idle_one (Store place new) reply idle = absurd idle
idle_one (Swap place new) reply idle = absurd idle
idle_one (Add place k) reply idle = refl
idle_one (Max place k) reply idle = refl
idle_one (Put slot action) reply idle = absurd idle
idle_one (Take slot) reply idle = refl
idle_one (Done its) reply idle = refl

idle_tells : (told : List Exchange) → AreIdle told → phases_told told ≡ []
idle_tells [] idle = refl
idle_tells (its ∷ before) idle = rw (idle_one its.ask its.reply idle.0) (idle_tells before idle.1)

held_tells : (slot : ℕ) (told : List Exchange) → HoldsSlot slot told → phases_told told ≡ []
held_tells slot told held = rw (held.its, elsewhere (drain_place slot) 1 (omega arith)) (idle_tells held.before held.idle)

-- a deferred phase is told, behind what was told before
deferral_tells : (slot epoch : ℕ) (its : Phase) (version : Version) (before told : List Exchange) → IsDeferred slot epoch (act.Phase its version) before told → phases_told told ≡ phase_stored its version ∷ phases_told before
deferral_tells slot epoch its version before told d = rw (d.its, elsewhere (drain_place slot) (epoch + 2) (omega arith)) refl

offset_tells : (slot epoch : ℕ) (to : Addr) (before told : List Exchange) → IsDeferred slot epoch (act.SafeReadOnly to) before told → phases_told told ≡ phases_told before
offset_tells slot epoch to before told d = rw (d.its, elsewhere (drain_place slot) (epoch + 2) (omega arith)) refl

loads_tell : (v session : ℕ) (its : CutsMet) (before : List Exchange) → phases_told (loads_of v session its before) ≡ phases_told before
loads_tell v session (First first) before = refl
loads_tell v session (Both first other) before = refl
loads_tell v session (Again first other again) before = refl

all_tell : (v : ℕ) (met : List CutsMet) (before : List Exchange) → phases_told (all_loads v met before) ≡ phases_told before
all_tell v [] before = refl
all_tell v (its ∷ earlier) before = loads_tell v _ its (all_loads v earlier before) ∙ all_tell v earlier before

durable_tells : (points : List Serial) (session : ℕ) (told : List Exchange) → AreDurable points session told → phases_told told ≡ []
durable_tells points zero told durable = rw durable refl
durable_tells points (suc session) told durable =
    rw (durable.2, elsewhere (session_place session own.Durable) (point_of (slice_get points session)) (omega arith)) (durable_tells points session durable.1 durable.3)

joined : (a b : List Exchange) → phases_told (a ++ b) ≡ phases_told a ++ phases_told b
joined [] b = refl
joined (its ∷ a) b = rw (joined a b) (sym (append_assoc (phases_of its.ask its.reply) (phases_told a) (phases_told b)))

start_tells : (asked : StartAsked) (number : Version) (first : Addr) (told : List Exchange) → HasBegun asked number first told → phases_told told ≡ phase_stored phase.InProgress (version_after number) ∷ phase_stored phase.Prepare number ∷ []
start_tells asked number first told begun = deferral_tells begun.slot begun.epoch phase.InProgress (version_after number) _ told begun.deferred
    ∙ ap (λ (l : List ℕ). phase_stored phase.InProgress (version_after number) ∷ phase_stored phase.Prepare number ∷ l) (held_tells begun.slot begun.before begun.held)

enter_tells : (number : Version) (told : List Exchange) → HasEntered number told → phases_told told ≡ phase_stored phase.WaitPending (version_after number) ∷ []
enter_tells number told entered = deferral_tells entered.slot entered.epoch phase.WaitPending (version_after number) entered.before told entered.deferred
    ∙ ap (λ (l : List ℕ). phase_stored phase.WaitPending (version_after number) ∷ l) (held_tells entered.slot entered.before entered.held)

seek_tells : (floor : List Serial) (number : Version) (sessions : ℕ) (points : List Serial) (end : Addr) (epoch : ℕ) (told : List Exchange) → AllAreTaken floor number sessions points end epoch told
    → phases_told told ≡ phase_stored phase.WaitFlush (version_after number) ∷ []
seek_tells floor number sessions points end epoch told taken = offset_tells taken.slot epoch end _ told taken.deferred
    ∙ ap (λ (l : List ℕ). phase_stored phase.WaitFlush (version_after number) ∷ l) (all_tell number.0 taken.met taken.before ∙ held_tells taken.slot taken.before taken.held)

finish_tells : (number : Version) (sessions : ℕ) (points : List Serial) (told : List Exchange) → HasFinished number sessions points told → phases_told told ≡ phase_stored phase.Rest (version_after number) ∷ []
finish_tells number sessions points told finished = rw finished.its (ap (λ (l : List ℕ). phase_stored phase.Rest (version_after number) ∷ l) (durable_tells points sessions finished.before finished.durable))

pub in_order : PhasesInOrder
in_order number c =
    let s = start_told c.starter c.asked c.start_replies in
    let e = enter_told c.enterer number c.enter_replies in
    let k = seek_told c.seeker number c.floor c.seek_replies in
    let points = (sought c.seeker number c.floor c.seek_replies).points in
    let f = finish_told points c.finisher number c.finish_replies in
    let first = start_tells c.asked number c.first s (starts_end c.starter c.asked c.start_replies (Begun number c.first) c.begun) in
    let second = enter_tells number e (enters_end c.enterer number c.enter_replies Entered c.has_entered) in
    let third = seek_tells c.floor number c.seeker.sessions points c.end c.epoch k (seeks_end c.seeker number c.floor c.seek_replies (Taken c.end c.epoch) c.taken) in
    let fourth = finish_tells number c.finisher.sessions points f (finishes_end c.finisher number points c.finish_replies c.has_finished) in
    rw (joined f (k ++ (e ++ s)), joined k (e ++ s), joined e s, first, second, third, fourth) refl
