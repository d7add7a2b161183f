-- What the device gives for records that are flushed shows a sweep the log beside the life.
use Rattle.std.proofs.Common.{◌≡◌, ℕ, ◌+◌, ◌*◌, ◌<◌, ◌≤◌, ◌^◌, ◌∙◌, inl, inr, refl, sym, ap, subst, arith, false, List, [], ◌∷◌, length}
use Rattle.std.proofs.lemmas.Bool.{cases_lt}
use Rattle.fkv_base.specs.declared.shapes.Shape.{Shape}
use Rattle.fkv_disk.specs.Bytes.{bytes_at}
use Rattle.fkv_disk.specs.Calls.{Call, ReadsAs, reads_as}
use Rattle.fkv_disk.proofs.Shown.{length-bytes_at, reads_within}
use Rattle.fkv_plane.specs.declared.places.RecordWord.{RecordWord}
use Rattle.fkv_plane.specs.declared.places.RecordWord.TheVariants as rec
use Rattle.fkv_record.specs.Numbers.{spelled}
use Rattle.fkv_record.specs.Places.{area_place, number_at, record_place}
use Rattle.fkv_sweep.proofs.Shown.{IsSweepSound, sweep_read_sound}
use Rattle.fkv_sweep.specs.SweptLogs.{ShowsRead}
use Rattle.fkv_sweep.specs.Sweeping.{Sweeper, piece_bytes, read_place, sweep_read}
use Rattle.law_commit.specs.Below.fkv_flush.GuardFlushed.{IsSynced}
use Rattle.law_commit.specs.Below.fkv_flush.GuardLevels.{levels_of}
use Rattle.law_commit.specs.Below.fkv_world.Runs.{World, run}
use Rattle.law_commit.specs.Below.fkv_world.World.{Event}
use Rattle.law_commit.specs.Below.law_refine.Events.GhostEvents.{life_ghosts, mapped}
use Rattle.law_commit.specs.Below.law_refine.Records.Headers.{IsHeaderOf}
use Rattle.law_commit.specs.Below.law_world.Guarded.Shows.{ArePermitted}
use Rattle.law_commit.proofs.Below.law_refine.OfRecords.Below.{published_permitted}
use Rattle.law_commit.proofs.Below.law_refine.OfRecords.Standing.{stands_in}
use Rattle.law_commit.proofs.Below.law_world.OfGuarded.Flushed.{life_synced}
use Rattle.law_commit.proofs.Below.law_world.OfKeeper.OwnCalls.{opened_stays}
use Rattle.law_log.specs.Chains.{Cell, Published}
use Rattle.law_log.specs.Enabled.{AreEnabled}
use Rattle.law_log.specs.Ghosts.{Log}
use Rattle.law_log.proofs.Shown.{run_held}
use Rattle.law_opening.proofs.OfChanges.Life.{life_holds}
use Rattle.law_opening.proofs.OfChanges.LifeEvents.{life_headers, life_low}
use Rattle.law_opening.proofs.OfChanges.OfDevice.Bytes.{further, range_same, reads_same, same_further}
use Rattle.law_opening.proofs.OfChanges.OfDevice.There.{CallsLaw, device_there, read_then}
use Rattle.law_opening.specs.Changes.Fits.{CellsFit}
use Rattle.law_order.specs.Known.Begins.{BegunLife, begin_in, home_of_world}
use Rattle.law_order.specs.Swept.Logs.{swept_log}
use Rattle.law_order.specs.Swept.Shown.{ShowLog}
use Rattle.law_order.specs.Swept.Valid.{IsValidThere}
use Rattle.law_order.proofs.OfServed.Device.{begins_fitting, begins_linked}
use Rattle.law_order.proofs.OfSwept.Headers.{valid_low}
use Rattle.law_order.proofs.OfSwept.Shown.{read_shown}
use Rattle.law_order.proofs.OfSwept.Words.{header_read}

-- the bytes that the device of a world reads as now
abbrev pub device_seen : World → List ℕ
device_seen w = reads_as w.past.opened w.past.calls

itself : (bytes : List ℕ) (calls : List Call) → ReadsAs bytes calls (reads_as bytes calls)
itself bytes calls = record { no_shorter = omega arith; no_longer = reads_within bytes calls; last_written = λ i sure. refl }

placed_from : (base a i : ℕ) → base + 24 * a ≤ i → base + 24 * 0 ≤ i
placed_from base a i from = omega (arith, from)

placed_to : (base a start i : ℕ) → a < start → i < base + 24 * a + 24 → i < base + 24 * start
placed_to base a start i low to = omega (arith, low, to)

within_further : (n more size i : ℕ) → size ≡ n + more → i < more → i < size
within_further n more size i is below = omega (arith, is, below)

-- ---- the bytes of a record: those of the opened device below where its records ended, and from there on the words that stand
module _ (calls : CallsLaw) (life : BegunLife) (events : List Event) where
  abbrev pub seen : List ℕ
  seen = read_then life.opening events

  abbrev pub its_shape : Shape
  its_shape = life.opening.now.shape

  abbrev pub flushed : ℕ
  flushed = (levels_of (run life.opening events).now.words).flushed

  abbrev pub L : Log
  L = (life_ghosts life.opening life.ghosts events).log

  permitted : ArePermitted life.opening events
  permitted =
      let linked = begins_linked life in
      published_permitted life.opening life.start life.ghosts events linked.now linked.unborn (life_holds life.opening life.start life.lists life.ghosts events linked).published

  synced : (bytes : List ℕ) → IsSynced its_shape bytes (run life.opening events).past.calls (stands_in life.opening life.start events) life.start flushed
  synced bytes =
      subst (λ (made : List Call). IsSynced its_shape bytes made (stands_in life.opening life.start events) life.start flushed) (calls life.opening life.start events life.begins.store)
      (life_synced life.opening life.start events bytes life.begins.store.now permitted)

  old_bytes : (a : ℕ) → a < life.start → bytes_at seen (record_place its_shape a) 24 ≡ bytes_at life.opening.past.opened (record_place its_shape a) 24
  old_bytes a low =
      let bytes : List ℕ = life.opening.past.opened in
      let made : List Call = (run life.opening events).past.calls in
      let end : ℕ = record_place its_shape life.start in
      let base : ℕ = area_place its_shape 2 in
      let more : List ℕ = further bytes end in
      let size : length more ≡ length bytes + end = length-bytes_at bytes 0 (length bytes + end) in
      range_same seen bytes (record_place its_shape a) 24 (λ i from to.
      sym (reads_same more bytes made (same_further bytes end) i)
      ∙ ((synced more).earlier (reads_as more made) (inl (itself more made)) i (placed_from base a i from) (placed_to base a life.start i low to)
      (within_further (length bytes) end (length more) i size (placed_to base a life.start i low to))
      ∙ same_further bytes end i))

  new_header : (a : ℕ) (cell : Cell) → L.cells a ≡ Published cell → life.start ≤ a → a < flushed → IsValidThere its_shape seen a
  new_header a cell e from to =
      let words : RecordWord → ℕ = stands_in life.opening life.start events a in
      let header : IsHeaderOf cell false (words rec.Header) = (life_headers life.opening life.start life.lists life.ghosts (begins_linked life) events).published a cell from e in
      let low : words rec.Header < 2 ^ 61 = subst (λ (n : ℕ). n < 2 ^ 61) (sym header.spells) (valid_low header.header header.bit) in
      let there : bytes_at seen (record_place its_shape a) 24 ≡ spelled (words rec.Header ∷ words rec.Key ∷ words rec.Value ∷ []) =
      (synced life.opening.past.opened).records seen (inl (itself life.opening.past.opened (run life.opening events).past.calls)) a from to in
      let read : number_at (bytes_at seen (record_place its_shape a) 24) 0 ≡ words rec.Header =
      ap (λ (bytes : List ℕ). number_at bytes 0) there ∙ header_read (words rec.Header) (words rec.Key) (words rec.Value) (omega (arith, low)) in
      subst (λ (n : ℕ). n < 2 ^ 61) (sym read) low

  -- none that is flushed and published says that it was given up
  pub valid_there : (a : ℕ) (cell : Cell) → L.cells a ≡ Published cell → a < flushed → IsValidThere its_shape seen a
  valid_there a cell e to = elim (cases_lt a life.start) [
    | inl low ↦
        let was = sym (life_low life.opening life.start life.lists life.ghosts events a (begins_linked life) low) ∙ e in
        subst (λ (bytes : List ℕ). number_at bytes 0 < 2 ^ 61) (sym (old_bytes a low)) (life.begins.valid a cell was)
    | inr high ↦ new_header a cell e high to
  ]

  -- ---- so these bytes show the log
  pub life_shown : CellsFit life.ghosts.log → CellsFit L → ShowLog (begin_in life.opening) its_shape seen L flushed
  life_shown was fits = record {
    image = device_there life.opening life.start life.lists life.ghosts (begins_fitting life was) events calls;
    valid = valid_there;
    fits = fits;
  }

-- What a sweep reads of the device of a life shows the log. All below its end is flushed then, and so is all below the head that it has loaded.
pub life_read : CallsLaw → (life : BegunLife) (events : List Event) → CellsFit life.ghosts.log → CellsFit (life_ghosts life.opening life.ghosts events).log → AreEnabled (home_of_world life.opening) life.ghosts (mapped life.opening events)
    → (s : Sweeper) → s.shape ≡ life.opening.now.shape → begin_in life.opening ≤ s.to.0 → 0 < s.to.0 → s.to.0 ≤ (levels_of (run life.opening events).now.words).flushed → s.head.0 ≤ (levels_of (run life.opening events).now.words).flushed
    → ShowsRead (swept_log (life_ghosts life.opening life.ghosts events).log) s s.step (bytes_at (device_seen (run life.opening events)) (read_place s) piece_bytes)
life_read calls life events was fits enabled s shape low some to head =
    let w : World = run life.opening events in
    let log : Log = (life_ghosts life.opening life.ghosts events).log in
    let held = run_held (home_of_world life.opening) life.map life.number life.ghosts (mapped life.opening events) life.begins.log enabled in
    subst (λ (bytes : List ℕ). ShowsRead (swept_log log) s s.step (bytes_at (reads_as bytes w.past.calls) (read_place s) piece_bytes)) (sym (opened_stays life.opening events))
    (read_shown (begin_in life.opening) life.opening.now.shape (read_then life.opening events) log (levels_of w.now.words).flushed (life_shown calls life events was fits)
    life.opening.now.shape.bucket_bits held.chains s shape (ap (λ (x : Shape). x.bucket_bits) shape) low some to head)

-- so it goes on to be sound by what it reads
pub life_read_sound : CallsLaw → (life : BegunLife) (events : List Event) → CellsFit life.ghosts.log → CellsFit (life_ghosts life.opening life.ghosts events).log → AreEnabled (home_of_world life.opening) life.ghosts (mapped life.opening events)
    → (s : Sweeper) → s.shape ≡ life.opening.now.shape → begin_in life.opening ≤ s.to.0 → 0 < s.to.0 → s.to.0 ≤ (levels_of (run life.opening events).now.words).flushed → s.head.0 ≤ (levels_of (run life.opening events).now.words).flushed
    → IsSweepSound s (swept_log (life_ghosts life.opening life.ghosts events).log)
    → IsSweepSound (sweep_read s (bytes_at (device_seen (run life.opening events)) (read_place s) piece_bytes)) (swept_log (life_ghosts life.opening life.ghosts events).log)
life_read_sound calls life events was fits enabled s shape low some to head sound =
    sweep_read_sound s (swept_log (life_ghosts life.opening life.ghosts events).log) (bytes_at (device_seen (run life.opening events)) (read_place s) piece_bytes) sound (life_read calls life events was fits enabled s shape low some to head)
