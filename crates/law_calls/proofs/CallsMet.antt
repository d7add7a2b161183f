-- What a device has met of steps of the engine, by the call that is due in each.
use Rattle.std.proofs.Common.{◌≡◌, ℕ, ◌+◌, Bool, true, false, List, [], ◌∷◌, length, refl, sym, ap, ◌∙◌, arith}
use Rattle.std.specs.Prelude.{◌++◌, Option, Some, None, if◌then◌else◌}
use Rattle.std.proofs.lemmas.List.{append_assoc, length-append}
use Rattle.fkv_disk.specs.Asks.{AskedCall, Reads, Writes, Syncs, calls_by, count_by, kinds_by}
use Rattle.fkv_disk.specs.Calls.{Call, Write, Sync}
use Rattle.fkv_disk.specs.Device.{after}
use Rattle.fkv_disk.specs.Kinds.{Foretold, Kind, Reading, Writing, Syncing}
use Rattle.fkv_disk.specs.declared.devices.Device.{Ghosts}
use Rattle.fkv_disk.proofs.Shown.{after_is}
use Rattle.fkv_keeper.specs.declared.answers.KeeperTold.{KeeperTold}
use Rattle.fkv_keeper.specs.declared.answers.KeeperTold.TheVariants.{Device}
use Rattle.fkv_keeper.specs.KeeperAsks.{keeper_calls, keeper_due, keeper_made}
use Rattle.fkv_keeper.specs.Keeping.{KeeperModel, keeper_ask}
use Rattle.fkv_keeper.proofs.Shown.{makes_due}
use Rattle.fkv_plane.specs.declared.asks.Ask.{Ask}
use Rattle.fkv_plane.specs.declared.asks.Ask.TheVariants.{Done}
use Rattle.fkv_core.specs.Worlds.{EventUses, UsesDevice, calls_made, event_calls, kinds_asked, kinds_behind, took_place}
use Rattle.fkv_core.specs.declared.events.Event as event
use Rattle.fkv_core.specs.declared.events.Event.TheVariants as events
use Rattle.fkv_world.specs.Past.{calls_after}
use Rattle.fkv_world.specs.World.{Now}
use Rattle.law_calls.specs.Met.{StepsMakeWhatTheyNote, in_notes}
use Rattle.law_calls.specs.Steps.{device_behind, now_behind}

-- what a device has met of a step that wrote and synced so
record HasMetBy (calls : List Call) (refuses refuses' : ℕ → Bool) (expects expects' : List Kind → Foretold) : Type 0 where
  met : List Kind
  foretells : (later : List Kind) → expects' later ≡ expects (met ++ later)
  refused : (i : ℕ) → refuses' i ≡ refuses (i + length met)
  notes : (before : List Call) → in_notes met before ≡ calls ++ before

-- nothing where no call was made
met_none : (refuses refuses' : ℕ → Bool) (expects expects' : List Kind → Foretold) → refuses' ≡ refuses → expects' ≡ expects → HasMetBy [] refuses refuses' expects expects'
met_none refuses refuses' expects expects' same still = record {
  met = [];
  foretells = λ later. ap (λ (says : List Kind → Foretold). says later) still;
  refused = λ i. ap (λ (f : ℕ → Bool). f i) same ∙ ap refuses (let sum : i ≡ i + 0 = omega arith in sum);
  notes = λ before. refl;
}

-- and the call that was due
abbrev its_kinds : Option AskedCall → Bool → List Kind
its_kinds None done = []
its_kinds (Some (Reads at count)) done = Reading ∷ []
its_kinds (Some (Writes at bytes)) done = Writing at bytes done ∷ []
its_kinds (Some Syncs) done = Syncing done ∷ []

kinds_told : (due : Option AskedCall) (done : Bool) (expects : List Kind → Foretold) (later : List Kind) → kinds_by due done expects later ≡ expects (its_kinds due done ++ later)
kinds_told None done expects later = refl
kinds_told (Some (Reads at count)) done expects later = refl
kinds_told (Some (Writes at bytes)) done expects later = refl
kinds_told (Some Syncs) done expects later = refl

counts_told : (due : Option AskedCall) (done : Bool) → count_by due ≡ length (its_kinds due done)
counts_told None done = refl
counts_told (Some (Reads at count)) done = refl
counts_told (Some (Writes at bytes)) done = refl
counts_told (Some Syncs) done = refl

notes_told : (due : Option AskedCall) (done : Bool) (before : List Call) → in_notes (its_kinds due done) before ≡ calls_by due done ++ [] ++ before
notes_told None done before = refl
notes_told (Some (Reads at count)) done before = refl
notes_told (Some (Writes at bytes)) done before = refl
notes_told (Some Syncs) done before = refl

met_due : (due : Option AskedCall) (done : Bool) (calls : List Call) (count : ℕ) (refuses refuses' : ℕ → Bool) (expects expects' : List Kind → Foretold)
    → calls ≡ calls_by due done → count ≡ count_by due → refuses' ≡ after count refuses → expects' ≡ kinds_by due done expects → HasMetBy (calls ++ []) refuses refuses' expects expects'
met_due due done calls count refuses refuses' expects expects' are one counted kinds = record {
  met = its_kinds due done;
  foretells = λ later. ap (λ (says : List Kind → Foretold). says later) kinds ∙ kinds_told due done expects later;
  refused = λ i. ap (λ (f : ℕ → Bool). f i) counted ∙ after_is count refuses i ∙ ap (λ (k : ℕ). refuses (i + k)) (one ∙ counts_told due done);
  notes = λ before. notes_told due done before ∙ ap (λ (its : List Call). its ++ [] ++ before) (sym are);
}

by_ask : (ask : Ask KeeperTold) (due : Option AskedCall) (done : Bool) (calls : List Call) (count failed failed' : ℕ) (refuses refuses' : ℕ → Bool) (expects expects' : List Kind → Foretold)
    → calls ≡ calls_by due done → count ≡ count_by due → UsesDevice ask count done failed failed' refuses refuses' → expects' ≡ kinds_asked ask due done expects
    → HasMetBy (calls_after ask calls []) refuses refuses' expects expects'
by_ask (Done Device) due done calls count failed failed' refuses refuses' expects expects' are one uses kinds = met_due due done calls count refuses refuses' expects expects' are one uses.counted kinds
by_ask ask due done calls count failed failed' refuses refuses' expects expects' are one uses kinds = met_none refuses refuses' expects expects' uses.1 kinds

by_event : (crashed : Bool) (n : Now) (its : event.Event) (granted done : Bool) (failed failed' : ℕ) (refuses refuses' : ℕ → Bool) (expects expects' : List Kind → Foretold)
    → EventUses crashed n its done failed failed' refuses refuses' → expects' ≡ kinds_behind crashed n its done expects
    → HasMetBy (if crashed then [] else event_calls n (took_place its granted done)) refuses refuses' expects expects'
by_event true n its granted done failed failed' refuses refuses' expects expects' uses kinds = met_none refuses refuses' expects expects' uses.1 kinds
by_event false n events.KeeperMove granted done failed failed' refuses refuses' expects expects' uses kinds =
    let k : KeeperModel = record { shape = n.shape; places = n.places; state = n.keeper } in
    let due = makes_due k in
    by_ask (keeper_ask n.shape n.places n.keeper) (keeper_due k) done (keeper_calls n.shape n.keeper done) (keeper_made n.places n.keeper) failed failed' refuses refuses' expects expects'
    (due.calls done) due.counted uses kinds
by_event false n events.SweepMove granted done failed failed' refuses refuses' expects expects' uses kinds =
    let k : KeeperModel = record { shape = n.shape; places = n.places; state = n.keeper } in
    let due = makes_due k in
    by_ask (keeper_ask n.shape n.places n.keeper) (keeper_due k) done (keeper_calls n.shape n.keeper done) (keeper_made n.places n.keeper) failed failed' refuses refuses' expects expects'
    (due.calls done) due.counted uses kinds
by_event false n its granted done failed failed' refuses refuses' expects expects' uses kinds = met_none refuses refuses' expects expects' uses.1 kinds

-- calls noted behind others
notes_on : (first later : List Kind) (before : List Call) → in_notes (first ++ later) before ≡ in_notes later (in_notes first before)
notes_on [] later before = refl
notes_on (Reading ∷ first) later before = notes_on first later before
notes_on (Writing at bytes done ∷ first) later before = notes_on first later (Write at bytes done ∷ before)
notes_on (Syncing done ∷ first) later before = notes_on first later (Sync done ∷ before)

pub all_met : {D : Type 0} (device : Ghosts D) → StepsMakeWhatTheyNote device
all_met device n was [] made = ([], record { foretells = λ later. refl; refuses = λ i. ap (device.refuses was) (let sum : i ≡ i + 0 = omega arith in sum) }, refl)
all_met device n was (step ∷ before) made =
    let at = now_behind n before in
    let here = device_behind was before in
    let its = made.0 in
    let first = all_met device n was before made.1 in
    let last = by_event at.crashed at step.event its.granted its.done (device.failed here) (device.failed step.device) (device.refuses here) (device.refuses step.device) (device.expects here) (device.expects step.device)
    its.uses its.kinds in (
      first.0 ++ last.met,
      record {
        foretells = λ later. last.foretells later ∙ first.1.foretells (last.met ++ later) ∙ ap (device.expects was) (sym (append_assoc first.0 last.met later));
        refuses = λ i. last.refused i ∙ first.1.refuses (i + length last.met)
            ∙ ap (device.refuses was) (let sum : (i + length last.met) + length first.0 ≡ i + length (first.0 ++ last.met) = omega (arith, length-append first.0 last.met) in sum);
      },
      notes_on first.0 last.met [] ∙ last.notes (in_notes first.0 []) ∙ ap (λ (calls : List Call). calls_made at (took_place step.event its.granted its.done) ++ calls) first.2,
    )
