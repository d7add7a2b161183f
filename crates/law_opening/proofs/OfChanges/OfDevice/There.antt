-- The device has each published record that is flushed: those since the opening as they stand, and those of before as it was opened with them.
use Rattle.std.proofs.Common.{◌≡◌, ◌⊎◌, ℕ, ◌+◌, ◌*◌, ◌<◌, ◌≤◌, ◌∙◌, inl, inr, refl, sym, ap, subst, arith, List, [], length}
use Rattle.std.proofs.lemmas.Bool.{cases_lt}
use Rattle.fkv_base.specs.declared.numbers.Version.{Version}
use Rattle.fkv_base.specs.declared.shapes.Shape.{Shape}
use Rattle.fkv_marks.specs.Marks.{mark}
use Rattle.fkv_disk.proofs.Shown.{length-bytes_at, reads_within}
use Rattle.fkv_disk.specs.Bytes.{bytes_at}
use Rattle.fkv_disk.specs.Calls.{Call, ReadsAs, reads_as}
use Rattle.law_refine.specs.Below.fkv_flush.GuardFlushed.{IsSynced, calls_made}
use Rattle.law_refine.specs.Below.fkv_flush.GuardLevels.{levels_of}
use Rattle.fkv_map.specs.Fits.{NumberFits}
use Rattle.law_refine.specs.Below.fkv_ops.HeaderWords.{header_said}
use Rattle.law_refine.specs.Below.fkv_pending.MailRecord.{MailRecord}
use Rattle.fkv_plane.specs.declared.places.RecordWord.TheVariants as rec
use Rattle.fkv_record.proofs.Shown.{from_below, from_lower, from_on}
use Rattle.fkv_record.specs.Begin.{from_or_none}
use Rattle.fkv_record.specs.Places as image
use Rattle.law_refine.proofs.Below.fkv_world.Shown.{shape_stays}
use Rattle.law_refine.specs.Below.fkv_world.Runs.{World, run}
use Rattle.law_refine.specs.Below.fkv_world.World.{Event}
use Rattle.law_opening.proofs.OfChanges.Life.{life_holds}
use Rattle.law_opening.proofs.OfChanges.LifeEvents.{life_low}
use Rattle.law_opening.proofs.OfChanges.LifeLogs.{life_linked}
use Rattle.law_opening.proofs.OfChanges.OfDevice.Bytes.{further, range_same, reads_same, same_further}
use Rattle.law_opening.proofs.OfChanges.OfDevice.Words.{WordsLaw, has_header, header_fits, read_back, value_fits}
use Rattle.law_opening.proofs.OfChanges.OfFits.Logs.{LogOk, LoggedOk}
use Rattle.law_opening.proofs.OfChanges.OfFits.Rows.{IsLedThere, IsThere, RecordOk, SaysThere}
use Rattle.law_opening.specs.Changes.Fits.{CellFits}
use Rattle.law_opening.specs.Changes.Images.{IsInImage}
use Rattle.law_opening.specs.Changes.Laws.{BeginsFitting, BeginsLinked, begin_at}
use Rattle.law_opening.specs.Changes.Linked.{IsLed}
use Rattle.law_refine.proofs.Below.law_world.OfGuarded.Flushed.{life_synced}
use Rattle.law_refine.specs.Below.law_world.Guarded.GuardEvents as guarded
use Rattle.law_refine.specs.Below.law_world.Guarded.OpenedStore.{IsOpenedStore}
use Rattle.law_refine.specs.Below.law_world.Guarded.Shows.{ArePermitted, guard_opening}
use Rattle.law_log.specs.Chains.{Cell, Logged, Published, Unborn}
use Rattle.law_log.specs.Ghosts.{Ghosts, Log}
use Rattle.law_refine.specs.Mail.MailEvents.{record_read}
use Rattle.law_refine.specs.Mail.Reads.{record_there}
use Rattle.law_refine.specs.Mail.Servers.{record_of}
use Rattle.law_refine.proofs.OfEvents.Fixed.{life_rises}
use Rattle.law_refine.proofs.OfRecords.Below.{published_permitted}
use Rattle.law_refine.proofs.OfRecords.Life as records
use Rattle.law_refine.proofs.OfRecords.Standing.{stands_in}
use Rattle.law_refine.specs.Events.GhostEvents.{life_ghosts}
use Rattle.law_refine.specs.Events.Published.{IsPublished}
use Rattle.law_refine.specs.Records.Cells.{ShowsCell}
use Rattle.law_refine.proofs.Below.law_world.OfKeeper.OwnCalls.{opened_stays}

-- the calls of the guard's run are those of the life
abbrev pub CallsLaw : Type 0
CallsLaw = (opening : World) (start : ℕ) (events : List Event) → IsOpenedStore opening start → calls_made (guard_opening opening.now start) (guarded.mapped opening events) ≡ (run opening events).past.calls

-- what the device reads as in this life
abbrev pub read_then : World → List Event → List ℕ
read_then opening events = reads_as opening.past.opened (run opening events).past.calls

itself : (bytes : List ℕ) (calls : List Call) → ReadsAs bytes calls (reads_as bytes calls)
itself bytes calls = record { no_shorter = omega arith; no_longer = reads_within bytes calls; last_written = λ i sure. refl }

-- so it is synced, whatever it was opened with
synced : CallsLaw → (opening : World) (start : ℕ) (events : List Event) (bytes : List ℕ) → IsOpenedStore opening start → ArePermitted opening events
    → IsSynced opening.now.shape bytes (run opening events).past.calls (stands_in opening start events) start (levels_of (run opening events).now.words).flushed
synced law opening start events bytes store permitted =
    subst (λ (calls : List Call). IsSynced opening.now.shape bytes calls (stands_in opening start events) start (levels_of (run opening events).now.words).flushed) (law opening start events store)
    (life_synced opening start events bytes store.now permitted)

-- ---- since the opening
since_there : CallsLaw → (opening : World) (start : ℕ) (events : List Event) (a : ℕ) (cell : Cell) → IsOpenedStore opening start → ArePermitted opening events → start ≤ a → a < (levels_of (run opening events).now.words).flushed
    → ShowsCell (stands_in opening start events a) cell → IsInImage (begin_at opening.now) opening.now.shape (read_then opening events) a cell
since_there law opening start events a cell store permitted from to shows = record {
  words = stands_in opening start events a;
  leads = record { said = record { 0 = cell.previous }; version = record { 0 = mark cell.version }; says = shows.header; same = refl };
  key = shows.key;
  value = shows.value;
  there = (synced law opening start events opening.past.opened store permitted).records (read_then opening events) (inl (itself opening.past.opened (run opening events).past.calls)) a from to;
}

-- ---- and before it
placed_from : (base a i : ℕ) → base + 24 * a ≤ i → base + 24 * 0 ≤ i
placed_from base a i from = omega (arith, from)

placed_to : (base a start i : ℕ) → a < start → i < base + 24 * a + 24 → i < base + 24 * start
placed_to base a start i low to = omega (arith, low, to)

within_further : (n more size i : ℕ) → size ≡ n + more → i < more → i < size
within_further n more size i is below = omega (arith, is, below)

range_there : CallsLaw → (opening : World) (start : ℕ) (events : List Event) (a : ℕ) → IsOpenedStore opening start → ArePermitted opening events → a < start
    → bytes_at (read_then opening events) (image.record_place opening.now.shape a) 24 ≡ bytes_at opening.past.opened (image.record_place opening.now.shape a) 24
range_there law opening start events a store permitted low =
    let bytes : List ℕ = opening.past.opened in
    let calls : List Call = (run opening events).past.calls in
    let end : ℕ = image.record_place opening.now.shape start in
    let base : ℕ = image.area_place opening.now.shape 2 in
    let more : List ℕ = further bytes end in
    let size : length more ≡ length bytes + end = length-bytes_at bytes 0 (length bytes + end) in
    range_same (read_then opening events) bytes (image.record_place opening.now.shape a) 24 (λ i from to.
    sym (reads_same more bytes calls (same_further bytes end) i)
    ∙ ((synced law opening start events more store permitted).earlier (reads_as more calls) (inl (itself more calls)) i (placed_from base a i from) (placed_to base a start i low to)
    (within_further (length bytes) end (length more) i size (placed_to base a start i low to))
    ∙ same_further bytes end i))

before_there : CallsLaw → (opening : World) (start : ℕ) (events : List Event) (a : ℕ) (cell : Cell) → IsOpenedStore opening start → ArePermitted opening events → a < start
    → IsInImage (begin_at opening.now) opening.now.shape opening.past.opened a cell → IsInImage (begin_at opening.now) opening.now.shape (read_then opening events) a cell
before_there law opening start events a cell store permitted low was = record {
  words = was.words;
  leads = was.leads;
  key = was.key;
  value = was.value;
  there = range_there law opening start events a store permitted low ∙ was.there;
}

-- ---- each that is flushed
module _ (opening : World) (start : ℕ) (lists : ℕ → List ℕ) (ghosts : Ghosts) (begins : BeginsFitting opening start lists ghosts) (events : List Event) where
  abbrev L : Log
  L = (life_ghosts opening ghosts events).log

  abbrev B : ℕ
  B = begin_at opening.now

  abbrev flushed_then : ℕ
  flushed_then = (levels_of (run opening events).now.words).flushed

  pub device_there : CallsLaw → (a : ℕ) (cell : Cell) → L.cells a ≡ Published cell → a < flushed_then → IsInImage (begin_at opening.now) opening.now.shape (read_then opening events) a cell
  device_there law a cell e to =
      let linked : BeginsLinked opening start lists ghosts = begins.linked in
      let published = (life_holds opening start lists ghosts events linked).published in
      let permitted : ArePermitted opening events = published_permitted opening start ghosts events linked.now linked.unborn published in
      elim (cases_lt a start) [
        | inl low ↦ before_there law opening start events a cell begins.store permitted low (begins.device a cell (sym (life_low opening start lists ghosts events a linked low) ∙ e))
        | inr high ↦ since_there law opening start events a cell begins.store permitted high to ((records.life_holds opening start ghosts events linked.now linked.unborn linked.reserves published).shows a cell high e)
      ]

  -- ---- and what it leads to
  start_flushed : start ≤ flushed_then
  unfolding run
  start_flushed =
      let rises = (life_rises opening start [] events begins.linked.now).flushed in
      let first = begins.linked.now.words.flushed in
      omega (arith, rises, first)

  born_below : (a : ℕ) → IsPublished (ghosts.log.cells a) → a < start
  born_below a there = elim (cases_lt a start) [
    | inl low ↦ low
    | inr high ↦ absurd (unborn_not (ghosts.log.cells a) (begins.linked.unborn a (let tail = begins.linked.now.words.tail in omega (arith, tail, high))) there)
  ]
    where
      unborn_not : (logged : Logged) → logged ≡ Unborn → IsPublished logged → ⊥
      unborn_not logged e there = subst IsPublished e there

  old_below : (previous : ℕ) → IsLed ghosts.log previous → (previous ≡ 0) ⊎ (previous < flushed_then)
  old_below previous (inl none) = inl none
  old_below previous (inr there) = inr (let low = born_below previous there in let most = start_flushed in omega (arith, low, most))

  nowhere : (previous : ℕ) → previous ≡ 0 → from_or_none B previous ≡ 0
  nowhere previous none = omega (arith, from_lower B previous, none)

  led_below : (previous : ℕ) → IsLed L previous → (previous ≡ 0) ⊎ (previous < flushed_then) → IsLedThere B L flushed_then previous
  led_below previous (inl none) small = inl (nowhere previous none)
  led_below previous (inr there) (inl none) = inl (nowhere previous none)
  led_below previous (inr there) (inr low) = inr (there, low)

  leads_below : LogOk start L → (a : ℕ) (cell : Cell) → L.cells a ≡ Published cell → a < flushed_then → (cell.previous ≡ 0) ⊎ (cell.previous < flushed_then)
  leads_below ok a cell e to = elim (cases_lt a start) [
    | inl low ↦ old_below cell.previous (begins.linked.linked.leads a cell (sym (life_low opening start lists ghosts events a begins.linked low) ∙ e))
    | inr high ↦ let falls = (subst (LoggedOk start a) e (ok a)).1 high in inr (omega (arith, falls, to))
  ]

  pub leads_there : LogOk start L → (a : ℕ) (cell : Cell) → L.cells a ≡ Published cell → a < flushed_then → IsLedThere B L flushed_then cell.previous
  leads_there ok a cell e to = led_below cell.previous ((life_linked opening start lists ghosts events begins.linked).leads a cell e) (leads_below ok a cell e to)

  -- its bytes may say another address, below the log's begin
  said_there : (a b : ℕ) → from_or_none B a ≡ from_or_none B b → IsLedThere B L flushed_then b → IsLedThere B L flushed_then a
  said_there a b same (inl none) = inl (same ∙ none)
  said_there a b same (inr there) = elim (cases_lt a B) [
    | inl low ↦ inl (from_below B a low)
    | inr on ↦ elim (cases_lt b B) [
      | inl low ↦ inl (same ∙ from_below B b low)
      | inr other ↦ inr (subst (IsThere L flushed_then) (sym (sym (from_on B a on) ∙ same ∙ from_on B b other)) there)
    ]
  ]

  -- ---- a record that is read
  pub there_read : (a : ℕ) → record_there (run opening events) a ≡ record_read (bytes_at (read_then opening events) (image.record_place opening.now.shape a) 24)
  there_read a =
      let w : World = run opening events in
      ap (λ (x : List ℕ). record_read (bytes_at (reads_as x w.past.calls) (image.record_place w.now.shape a) 24)) (opened_stays opening events)
      ∙ ap (λ (x : Shape). record_read (bytes_at (read_then opening events) (image.record_place x a) 24)) (shape_stays opening events)

  abbrev Reads : MailRecord → Type 0
  Reads its = RecordOk B L flushed_then its (header_said its.header)

  image_ok : WordsLaw → (bytes : List ℕ) (a : ℕ) (cell : Cell) → CellFits cell → IsLedThere B L flushed_then cell.previous → IsInImage B opening.now.shape bytes a cell → Reads (record_read (bytes_at bytes (image.record_place opening.now.shape a) 24))
  image_ok law bytes a cell fits leads its =
      let header = its.words rec.Header in
      let key = its.words rec.Key in
      let value = its.words rec.Value in
      let version : Version = its.leads.version in
      let small : NumberFits value = value_fits value cell.value its.value fits.1 in
      let read : record_read (bytes_at bytes (image.record_place opening.now.shape a) 24) ≡ record_of header key value = ap record_read its.there ∙ read_back law header key value (header_fits header its.leads.said version its.leads.says) (subst NumberFits (sym its.key) fits.0) small in
      let says : SaysThere B L flushed_then (header_said header) = subst (SaysThere B L flushed_then) (sym its.leads.says) (said_there its.leads.said.0 cell.previous its.leads.same leads) in
      subst Reads (sym read) (small, (says, λ gone. absurd (has_header header its.leads.said version its.leads.says gone)))

  published_there : (a : ℕ) (logged : Logged) → L.cells a ≡ logged → IsPublished logged → (cell : Cell) × (L.cells a ≡ Published cell)
  published_there a (Published cell) e there = (cell, e)
  published_there a logged e there = absurd there

  pub read_ok : CallsLaw → WordsLaw → LogOk start L → (a : ℕ) → IsThere L flushed_then a → Reads (record_there (run opening events) a)
  read_ok calls words ok a there =
      let its = published_there a (L.cells a) refl there.0 in
      let cell : Cell = its.0 in
      let fits : CellFits cell = (subst (LoggedOk start a) its.1 (ok a)).0 in
      subst Reads (sym (there_read a)) (image_ok words (read_then opening events) a cell fits (leads_there ok a cell its.1 there.1) (device_there calls a cell its.1 there.1))
