-- What was read at an address that was flushed by then is what stood there.
use Rattle.std.proofs.Common.{◌≡◌, ℕ, ◌<◌, ◌≤◌, ◌∙◌, inl, refl, ap, subst, arith, List, [], ◌∷◌, ◌++◌}
use Rattle.fkv_base.specs.declared.shapes.Shape.{Shape}
use Rattle.fkv_record.specs.Places.{record_place}
use Rattle.fkv_disk.specs.Bytes.{bytes_at}
use Rattle.fkv_disk.specs.Calls.{Call, reads_as, ReadsAs}
use Rattle.fkv_disk.proofs.Shown.{reads_within}
use Rattle.law_world.specs.Below.fkv_flush.GuardFlushed.{IsSynced, stands}
use Rattle.law_world.specs.Below.fkv_flush.GuardLevels.{levels_of}
use Rattle.law_world.specs.Below.fkv_world.World.{Event}
use Rattle.law_world.specs.Below.fkv_world.Runs.{World, run}
use Rattle.law_world.proofs.OfKeeper.OwnCalls.{opened_stays}
use Rattle.law_world.proofs.Below.fkv_world.Shown.{shape_stays}
use Rattle.law_world.specs.Guarded.GuardEvents.{mapped}
use Rattle.law_world.specs.Guarded.OpenedStore.{IsOpenedStore}
use Rattle.law_world.specs.Guarded.Shows.{ArePermitted, guard_opening}
use Rattle.law_refine.specs.Mail.MailEvents.{record_read}
use Rattle.law_refine.specs.Mail.Reads.{record_there}
use Rattle.law_refine.specs.Mail.Stood.{record_standing, ReadsWhatStood}

-- the guard's law, of a life whose steps are permitted
abbrev pub SyncedLaw : Type 0
SyncedLaw = (opening : World) (start : ℕ) (events : List Event) → IsOpenedStore opening start → ArePermitted opening events
    → IsSynced opening.now.shape opening.past.opened (run opening events).past.calls (stands (guard_opening opening.now start) (mapped opening events)) start (levels_of (run opening events).now.words).flushed

itself : (opened : List ℕ) (calls : List Call) → ReadsAs opened calls (reads_as opened calls)
itself opened calls = record { no_shorter = omega arith; no_longer = reads_within opened calls; last_written = λ i sure. refl }

-- a beginning of such a life is one
permitted_before : (opening : World) (later : List Event) (event : Event) (earlier : List Event) → ArePermitted opening (later ++ (event ∷ earlier)) → ArePermitted opening earlier
permitted_before opening [] event earlier permitted = permitted.1
permitted_before opening (other ∷ later) event earlier permitted = permitted_before opening later event earlier permitted.1

pub there_stands : SyncedLaw → (opening : World) (start : ℕ) (events : List Event) (addr : ℕ) → IsOpenedStore opening start → ArePermitted opening events → start ≤ addr → addr < (levels_of (run opening events).now.words).flushed
    → record_there (run opening events) addr ≡ record_standing opening start events addr
there_stands synced opening start events addr opened permitted from to =
    let w : World = run opening events in
    let shown = (synced opening start events opened permitted).records (reads_as opening.past.opened w.past.calls) (inl (itself opening.past.opened w.past.calls)) addr from to in
    ap (λ (x : List ℕ). record_read (bytes_at (reads_as x w.past.calls) (record_place w.now.shape addr) 24)) (opened_stays opening events)
    ∙ ap (λ (x : Shape). record_read (bytes_at (reads_as opening.past.opened w.past.calls) (record_place x addr) 24)) (shape_stays opening events)
    ∙ ap (λ (x : List ℕ). record_read x) shown

pub reads_stood : SyncedLaw → ReadsWhatStood
reads_stood synced opening start session events addr its asked opened permitted read from to =
    let permitted_then : ArePermitted opening read.earlier = permitted_before opening read.later read.event read.earlier (subst (λ (es : List Event). ArePermitted opening es) read.cut permitted) in
    read.gives ∙ there_stands synced opening start read.earlier addr.0 opened permitted_then from to
