-- What is flushed is synced as the records stand: at every moment, and through every event.
use Rattle.std.proofs.Common.{◌≡◌, ◌≢◌, ◌⊎◌, inl, inr, ℕ, ◌+◌, ◌<◌, ◌≤◌, Bool, true, false, List, [], ◌∷◌, ◌++◌, length, refl, sym, ap, subst, ◌∙◌, arith}
use Rattle.std.specs.Prelude.{Option, Some, None, ⊤, slice_get, slice_set, nat_lt, nat_le, ◌&&◌, if◌then◌else◌}
use Rattle.std.proofs.lemmas.Bool.Decides.{nat_tests}
use Rattle.std.proofs.lemmas.Bool.{cases_lt}
use Rattle.fkv_base.specs.declared.shapes.Shape.{Shape}
use Rattle.fkv_record.specs.Places as image
use Rattle.fkv_disk.specs.Bytes.{byte_at}
use Rattle.fkv_disk.specs.Calls.{Call}
use Rattle.fkv_plane.specs.declared.places.Places.{Places}
use Rattle.fkv_plane.specs.declared.places.RecordWord.{RecordWord}
use Rattle.fkv_plane.specs.Places.{record_place}
use Rattle.fkv_plane.specs.Asked.{word_at, reply_to}
use Rattle.fkv_epoch.proofs.Shown.{some_same, none_some}
use Rattle.fkv_flush.specs.declared.flushing.Flushing.{Flushing}
use Rattle.fkv_flush.specs.declared.flushing.Flushing.TheVariants as flush
use Rattle.fkv_flush.specs.Flushing.{flush_ask, flush_next, bytes_next, flush_calls, flush_done, bytes_done}
use Rattle.fkv_flush.specs.GuardLevels.{levels_of}
use Rattle.fkv_flush.specs.GuardWorld.{Actor, Work, Rests, Reserves, Fills, Invalidates, Shifts, Turns, Flushes, Serves, ToDo, ToReserve, ToFill, ToInvalidate, ToShift, ToTurnPage, ToFlush, ToServe, GuardNow, GuardWorld, GuardEvent, Begins, Resumes, Moves, Calls, Reads, Sees, Publishes, Updates, RaisesReadOnly, RaisesFor, Changes, CallsElse, is_idle, epoch_step, work_step, with_actor, started, begun, moved, called, called_by, guard_happens, guard_run}
use Rattle.fkv_flush.specs.Guarded.{event_writes, IsPermittedEvent, ArePermittedEvents, IsOpened, opening, first_actor}
use Rattle.fkv_flush.specs.GuardFlushed.{is_open, framed, stands, spares_log, work_calls, actor_calls, event_calls, calls_made, FlushesAlone, OneFlushes, IsSynced}
use Rattle.fkv_flush.proofs.GuardEpochs.{Spares}
use Rattle.fkv_flush.proofs.GuardSound.{IsSound}
use Rattle.fkv_flush.proofs.GuardWorks.{truth, Known}
use Rattle.fkv_flush.proofs.GuardHappens.{both}
use Rattle.fkv_flush.proofs.GuardMoves.{some_page}
use Rattle.fkv_flush.proofs.GuardWrites.{guards_writes}
use Rattle.fkv_flush.proofs.GuardUnwritten.{unwritten, limit_rises, flushed_stays, RaisesIt}
use Rattle.fkv_flush.proofs.GuardStays.{same_store, put_each, is_flush, is_quiet, quiet_stays, moved_stays}
use Rattle.fkv_flush.proofs.GuardLaw.{run_sound, replicate_item}
use Rattle.fkv_flush.proofs.OnDevice.{IsRead, IsKept, read_on, kept_on, opened_kept, kept_shown, log_missed, RecordKept, record_shown}
use Rattle.fkv_flush.proofs.FlushKnows.{FlushKnows, IsReply, flush_end, synced_to, begins, record_kept_on, knows_on, replied, call_spares, called_on}

-- an address below the limit whose page's frame is not used again has a frame
pub opens : (n : GuardNow) (addr : ℕ) → addr < (levels_of n.words).limit → (levels_of n.words).limit ≤ addr + n.places.ring → is_open n addr ≡ true
opens n addr below near =
    let p : nat_lt addr (levels_of n.words).limit ≡ true = grind (arith, nat_tests) in
    let q : nat_le (levels_of n.words).limit (addr + n.places.ring) ≡ true = grind (arith, nat_tests) in
    ap (λ (b : Bool). b && nat_le (levels_of n.words).limit (addr + n.places.ring)) p ∙ q

-- what is still to be flushed has one
has_frame : (w : GuardWorld) (addr : ℕ) → IsSound w → (levels_of w.now.words).flushed ≤ addr → addr < (levels_of w.now.words).safe_read_only → is_open w.now addr ≡ true
has_frame w addr sound above below =
    let o = sound.guard.in_order in
    let c = sound.guard.cover in
    opens w.now addr (omega (arith, below, o.safe_below, o.read_only_below, o.tail_below)) (omega (arith, c, o.closed_below, o.head_below, above))

-- no permitted event writes a word of a record below the safe read-only offset
untouched : (w : GuardWorld) (event : GuardEvent) (addr : ℕ) (word : RecordWord) → IsSound w → IsPermittedEvent w.now event → addr < (levels_of w.now.words).safe_read_only → addr < (levels_of w.now.words).limit → (levels_of w.now.words).limit ≤ addr + w.now.places.ring
    → word_at (guard_happens w event).now.words (record_place w.now.places addr word) ≡ word_at w.now.words (record_place w.now.places addr word)
untouched w event addr word sound permitted safe below near = unwritten w event (record_place w.now.places addr word) (spares (event_writes w.now event) refl)
  where
    spares : (found : Option ℕ) → event_writes w.now event ≡ found → Spares found (record_place w.now.places addr word)
    spares None e = tt
    spares (Some place) e = λ same.
        let o = guards_writes w event sound permitted place e (omega (arith, same)) in
        let alone = o.alone addr word (sym same) below near in
        let above = o.safe in
        omega (arith, alone, above, safe)

-- so what stands for it stays
pub steady : (w : GuardWorld) (event : GuardEvent) (before : ℕ → RecordWord → ℕ) (addr : ℕ) (word : RecordWord) → IsSound w → IsPermittedEvent w.now event → addr < (levels_of w.now.words).safe_read_only
    → (is_open w.now addr ≡ true → before addr word ≡ word_at w.now.words (record_place w.now.places addr word))
    → framed (guard_happens w event).now before addr word ≡ before addr word
steady w event before addr word sound permitted safe stood = elim (truth (is_open (guard_happens w event).now addr)) [
  | inl e ↦
      let n' : GuardNow = (guard_happens w event).now in
      let t = both (nat_lt addr (levels_of n'.words).limit) (nat_le (levels_of n'.words).limit (addr + n'.places.ring)) e in
      let near : (levels_of n'.words).limit ≤ addr + n'.places.ring = grind (arith, nat_tests, t) in
      let same : n'.places ≡ w.now.places = (same_store w event).1 in
      let ring = ap (λ (p : Places). p.ring) same in
      let rises = limit_rises w event sound in
      let o = sound.guard.in_order in
      let below : addr < (levels_of w.now.words).limit = omega (arith, safe, o.safe_below, o.read_only_below, o.tail_below) in
      let near_before : (levels_of w.now.words).limit ≤ addr + w.now.places.ring = omega (arith, rises, near, ring) in
      ap (λ (b : Bool). if b then word_at n'.words (record_place n'.places addr word) else before addr word) e
      ∙ ap (λ (p : Places). word_at n'.words (record_place p addr word)) same
      ∙ untouched w event addr word sound permitted safe below near_before
      ∙ sym (stood (opens w.now addr below near_before))
  | inr e ↦ ap (λ (b : Bool). if b then word_at (guard_happens w event).now.words (record_place (guard_happens w event).now.places addr word) else before addr word) e
]

-- what stands for a record that has a frame is in the frame
pub stood_open : (first : GuardWorld) (events : List GuardEvent) (addr : ℕ) (word : RecordWord) → is_open (guard_run first events).now addr ≡ true
    → stands first events addr word ≡ word_at (guard_run first events).now.words (record_place (guard_run first events).now.places addr word)
unfolding stands guard_run
stood_open first [] addr word e = ap (λ (b : Bool). if b then word_at first.now.words (record_place first.now.places addr word) else 0) e
stood_open first (event ∷ before) addr word e =
    ap (λ (b : Bool). if b then word_at (guard_run first (event ∷ before)).now.words (record_place (guard_run first (event ∷ before)).now.places addr word) else stands first before addr word) e

-- what is known of an actor's flush: it is at rest, or the keeper's
abbrev Row : ℕ → Shape → List ℕ → List Call → (ℕ → RecordWord → ℕ) → ℕ → ℕ → Work → Type 0
Row keeper shape opened calls words flushed b (Flushes step bytes) = (step ≡ flush.AtRest) ⊎ ((b ≡ keeper) × FlushKnows shape opened calls words flushed step bytes)
Row keeper shape opened calls words flushed b work = ⊤

-- What holds at every moment of the device and of the flush.
pub record IsFlushed (keeper start : ℕ) (shape : Shape) (opened : List ℕ) (calls : List Call) (words : ℕ → RecordWord → ℕ) (w : GuardWorld) : Type 0 where
  pub start_below : start ≤ (levels_of w.now.words).flushed
  pub earlier : (i : ℕ) → image.record_place shape 0 ≤ i → i < image.record_place shape start → i < length opened → IsKept opened calls i (byte_at opened i)
  pub records : (addr : ℕ) → start ≤ addr → addr < (levels_of w.now.words).flushed → RecordKept shape opened calls words addr
  pub rows : (b : ℕ) (y : Actor) → slice_get w.now.actors b ≡ Some y → Row keeper shape opened calls words (levels_of w.now.words).flushed b y.work

-- a machine that is no flush
row_none : (keeper : ℕ) (shape : Shape) (opened : List ℕ) (calls : List Call) (words : ℕ → RecordWord → ℕ) (flushed b : ℕ) (work : Work) → is_flush work ≡ false → Row keeper shape opened calls words flushed b work
row_none keeper shape opened calls words flushed b (Flushes step bytes) e = cc
row_none keeper shape opened calls words flushed b work e = tt

-- an actor that is not the keeper doesn't flush, whatever else changes
row_other : (keeper : ℕ) (shape : Shape) (opened : List ℕ) (calls calls' : List Call) (words words' : ℕ → RecordWord → ℕ) (flushed flushed' b : ℕ) (work : Work) → b ≢ keeper
    → Row keeper shape opened calls words flushed b work → Row keeper shape opened calls' words' flushed' b work
row_other keeper shape opened calls calls' words words' flushed flushed' b (Flushes step bytes) n (inl rest) = inl rest
row_other keeper shape opened calls calls' words words' flushed flushed' b (Flushes step bytes) n (inr k) = absurd (n k.0)
row_other keeper shape opened calls calls' words words' flushed flushed' b work n row = tt

-- a flush ends where nobody writes any more
known_end : (w : GuardWorld) (b : ℕ) (y : Actor) (step : Flushing) (bytes : List ℕ) → IsSound w → slice_get w.now.actors b ≡ Some y → y.work ≡ Flushes step bytes → flush_end step ≤ (levels_of w.now.words).safe_read_only
known_end w b y step bytes sound got its = by step (subst (Known w b y) its (sound.knows b y got))
  where
    by : (step : Flushing) → Known w b y (Flushes step bytes) → flush_end step ≤ (levels_of w.now.words).safe_read_only
    by flush.AtRest k = omega arith
    by flush.LoadsFlushed k = omega arith
    by (flush.LoadsEnd flushed) k = omega arith
    by (flush.LoadsWord part addr word) k = k
    by (flush.WritesPart part) k = k
    by (flush.Syncs end) k = k
    by (flush.RaisesFlushed end) k = k

-- the page of a store has records
pub page_some : (w : GuardWorld) → IsSound w → 0 < w.now.shape.page
page_some w sound = let ring = sound.fits.ring in let some = w.now.places.some_ring in some_page w.now.shape.frames w.now.shape.page (omega (arith, ring, some))

-- One event of a world that is sound, and has its flushed records on the device.
module _ (keeper start : ℕ) (opened : List ℕ) (calls : List Call) (words : ℕ → RecordWord → ℕ) (w : GuardWorld) (sound : IsSound w)
    (stood : (addr : ℕ) (word : RecordWord) → is_open w.now addr ≡ true → words addr word ≡ word_at w.now.words (record_place w.now.places addr word))
    (was : IsFlushed keeper start w.now.shape opened calls words w) where
  abbrev shape : Shape
  shape = w.now.shape

  abbrev flushed : ℕ
  flushed = (levels_of w.now.words).flushed

  abbrev safe : ℕ
  safe = (levels_of w.now.words).safe_read_only

  flushed_safe : flushed ≤ safe
  flushed_safe = sound.guard.in_order.flushed_below

  -- what stands after the event
  abbrev words_on : GuardEvent → ℕ → RecordWord → ℕ
  words_on event = framed (guard_happens w event).now words

  same_below : (event : GuardEvent) → IsPermittedEvent w.now event → (addr : ℕ) (word : RecordWord) → addr < safe → words_on event addr word ≡ words addr word
  same_below event permitted addr word below = steady w event words addr word sound permitted below (stood addr word)

  -- the calls leave what is synced of the log, and what is read of what is still to be flushed
  record SparesLog (calls' : List Call) : Type 0 where
    kept_too : (i b : ℕ) → image.record_place shape 0 ≤ i → i < image.record_place shape flushed → IsKept opened calls i b → IsKept opened calls' i b

  -- what is flushed stays, where flushed does
  stays_flushed : (event : GuardEvent) → IsPermittedEvent w.now event → (calls' : List Call) → SparesLog calls' → (levels_of (guard_happens w event).now.words).flushed ≡ flushed
      → ((b : ℕ) (y : Actor) → slice_get (guard_happens w event).now.actors b ≡ Some y → Row keeper shape opened calls' (words_on event) flushed b y.work)
      → IsFlushed keeper start shape opened calls' (words_on event) (guard_happens w event)
  stays_flushed event permitted calls' spares same rows =
      let s = was.start_below in
      let top = flushed_safe in
      record {
        start_below = omega (arith, s, same);
        earlier = λ i above below known. spares.kept_too i (byte_at opened i) above (omega (arith, below, s)) (was.earlier i above below known);
        records = λ addr above below.
            let under : addr < flushed = omega (arith, below, same) in
            record_kept_on shape opened calls calls' words (words_on event) addr (λ word. same_below event permitted addr word (omega (arith, under, top)))
            (λ k b small is. spares.kept_too (image.record_place shape addr + k) b (omega arith) (omega (arith, under, small)) is) (was.records addr above under);
        rows = λ b y got. subst (λ (f : ℕ). Row keeper shape opened calls' (words_on event) f b y.work) (sym same) (rows b y got);
      }

  -- a flush that another event leaves as far as it was
  row_on : (event : GuardEvent) → IsPermittedEvent w.now event → (calls' : List Call) (b : ℕ) (y : Actor) (work : Work) → slice_get w.now.actors b ≡ Some y → y.work ≡ work
      → ((i c : ℕ) → image.record_place shape flushed ≤ i → IsRead opened calls i c → IsRead opened calls' i c)
      → ((i c : ℕ) → image.record_place shape flushed ≤ i → IsKept opened calls i c → IsKept opened calls' i c)
      → Row keeper shape opened calls words flushed b work → Row keeper shape opened calls' (words_on event) flushed b work
  row_on event permitted calls' b y (Flushes step bytes) got its read_too kept_too (inl rest) = inl rest
  row_on event permitted calls' b y (Flushes step bytes) got its read_too kept_too (inr k) =
      inr (k.0, knows_on shape opened calls calls' words (words_on event) flushed safe step bytes (known_end w b y step bytes sound got its) (same_below event permitted) read_too kept_too k.1)
  row_on event permitted calls' b y work got its read_too kept_too row = tt

  -- the same without a call of the device
  row_stays : (event : GuardEvent) → IsPermittedEvent w.now event → (b : ℕ) (y : Actor) (work : Work) → slice_get w.now.actors b ≡ Some y → y.work ≡ work
      → Row keeper shape opened calls words flushed b work → Row keeper shape opened calls (words_on event) flushed b work
  row_stays event permitted b y work got its = row_on event permitted calls b y work got its (λ i c above is. is) (λ i c above is. is)

  no_call : SparesLog calls
  no_call = record { kept_too = λ i b above below is. is }

  -- an event by which no flush begins or goes on makes no call of the log
  quiet_reads : (event : GuardEvent) → is_quiet event ≡ true → (i b : ℕ) → image.record_place shape 0 ≤ i → IsRead opened calls i b → IsRead opened (event_calls w.now event ++ calls) i b
  quiet_reads (Calls a done) quiet i b above is = cc
  quiet_reads (CallsElse call) quiet i b above is = elim (truth (spares_log shape call)) [
    | inl e ↦ rw e (read_on opened calls call i b (log_missed shape call i e above) is)
    | inr e ↦ rw e is
  ]
  quiet_reads event quiet i b above is = is

  quiet_keeps : (event : GuardEvent) → is_quiet event ≡ true → (i b : ℕ) → image.record_place shape 0 ≤ i → IsKept opened calls i b → IsKept opened (event_calls w.now event ++ calls) i b
  quiet_keeps (Calls a done) quiet i b above is = cc
  quiet_keeps (CallsElse call) quiet i b above is = elim (truth (spares_log shape call)) [
    | inl e ↦ rw e (kept_on opened calls call i b (log_missed shape call i e above) is)
    | inr e ↦ rw e is
  ]
  quiet_keeps event quiet i b above is = is

  -- and leaves the flushed offset
  no_move : {X : Type 0} (event : GuardEvent) (a : ℕ) → is_quiet event ≡ true → event ≡ Moves a → X
  no_move {X} event a quiet e = let false_too : is_quiet event ≡ false = ap is_quiet e in cc

  quiet_flushed : (event : GuardEvent) → is_quiet event ≡ true → (levels_of (guard_happens w event).now.words).flushed ≡ flushed
  quiet_flushed event quiet = elim (flushed_stays w event sound) [
    | inl same ↦ same
    | inr r ↦ no_move event r.actor quiet r.its_event
  ]

  quiet_case : (event : GuardEvent) → IsPermittedEvent w.now event → is_quiet event ≡ true → IsFlushed keeper start shape opened (event_calls w.now event ++ calls) (words_on event) (guard_happens w event)
  quiet_case event permitted quiet =
      stays_flushed event permitted (event_calls w.now event ++ calls) (record { kept_too = λ i b above below is. quiet_keeps event quiet i b above is }) (quiet_flushed event quiet) row
    where
      row : (b : ℕ) (y : Actor) → slice_get (guard_happens w event).now.actors b ≡ Some y → Row keeper shape opened (event_calls w.now event ++ calls) (words_on event) flushed b y.work
      row b y got =
          let from = quiet_stays w event quiet b y got in
          elim from.2 [
            | inl same ↦ subst (Row keeper shape opened (event_calls w.now event ++ calls) (words_on event) flushed b) (sym same)
                (row_on event permitted (event_calls w.now event ++ calls) b from.0 from.0.work from.1 refl
                (λ i c above is. quiet_reads event quiet i c (omega (arith, above)) is)
                (λ i c above is. quiet_keeps event quiet i c (omega (arith, above)) is)
                (was.rows b from.0 from.1))
            | inr apart ↦ row_none keeper shape opened (event_calls w.now event ++ calls) (words_on event) flushed b y.work apart
          ]

  -- the flushed offset is raised by the actor alone that does so
  moves_flushed : (event : GuardEvent) → ((r : RaisesIt w event) → ⊥) → (levels_of (guard_happens w event).now.words).flushed ≡ flushed
  moves_flushed event none = elim (flushed_stays w event sound) [
    | inl same ↦ same
    | inr r ↦ absurd (none r)
  ]

  -- the keeper begins to flush
  begins_case : (a : ℕ) → a ≡ keeper → IsFlushed keeper start shape opened calls (words_on (Begins a ToFlush)) (guard_happens w (Begins a ToFlush))
  unfolding guard_happens
  begins_case a mine = stays_flushed (Begins a ToFlush) tt calls no_call (moves_flushed (Begins a ToFlush) (λ r. let e = r.its_event in cc)) (by (slice_get w.now.actors a) refl)
    where
      after : GuardNow → Type 0
      after n = (b : ℕ) (y : Actor) → slice_get n.actors b ≡ Some y → Row keeper shape opened calls (words_on (Begins a ToFlush)) flushed b y.work

      stays : after w.now
      stays b y got = row_stays (Begins a ToFlush) tt b y y.work got refl (was.rows b y got)

      either : (b : Bool) (n m : GuardNow) → after n → after m → after (if b then n else m)
      either true n m p q = p
      either false n m p q = q

      by : (found : Option Actor) → slice_get w.now.actors a ≡ found → after (begun w.now a ToFlush found)
      by None got = stays
      by (Some x) got =
          either _ (with_actor w.now a (started w.now x ToFlush)) w.now
          (put_each (λ b y. Row keeper shape opened calls (words_on (Begins a ToFlush)) flushed b y.work) w.now.actors a x (started w.now x ToFlush) got
          (λ b y its other. stays b y its) (inr (mine, begins shape opened calls (words_on (Begins a ToFlush)) flushed)))
          stays

  -- a step of an actor that is not flushing
  aside_case : (a : ℕ) (x : Actor) → slice_get w.now.actors a ≡ Some x → (is_idle x.work ≡ true) ⊎ (is_flush x.work ≡ false) → IsFlushed keeper start shape opened calls (words_on (Moves a)) (guard_happens w (Moves a))
  unfolding guard_happens
  aside_case a x got why = stays_flushed (Moves a) tt calls no_call (moves_flushed (Moves a) raises_none) (λ b y found. row b y (subst (λ (o : Option Actor). slice_get (moved w.now a o).actors b ≡ Some y) got found))
    where
      raises_none : RaisesIt w (Moves a) → ⊥
      raises_none r =
          let same : a ≡ r.actor = let e = r.its_event in cc in
          let x_same : x ≡ r.x = some_same x r.x (sym got ∙ (ap (slice_get w.now.actors) same ∙ r.its_actor)) in
          let work : x.work ≡ Flushes (flush.RaisesFlushed r.end) r.bytes = ap (λ (z : Actor). z.work) x_same ∙ r.its_work in
          elim why [
            | inl idle ↦ let busy : is_idle x.work ≡ false = ap is_idle work in cc
            | inr apart ↦ let flushes : is_flush x.work ≡ true = ap is_flush work in cc
          ]

      row : (b : ℕ) (y : Actor) → slice_get (moved w.now a (Some x)).actors b ≡ Some y → Row keeper shape opened calls (words_on (Moves a)) flushed b y.work
      row b y found =
          let from = moved_stays w a x got why b y found in
          elim from.2 [
            | inl same ↦ subst (Row keeper shape opened calls (words_on (Moves a)) flushed b) (sym same) (row_stays (Moves a) tt b from.0 from.0.work from.1 refl (was.rows b from.0 from.1))
            | inr apart ↦ row_none keeper shape opened calls (words_on (Moves a)) flushed b y.work apart
          ]

  -- the reply to a flush is the flushed offset, or the word that stands
  reply_is : (event : GuardEvent) → IsPermittedEvent w.now event → (step : Flushing) (bytes : List ℕ) → flush_end step ≤ safe → FlushKnows shape opened calls words flushed step bytes
      → IsReply (words_on event) flushed step (reply_to w.now.words (flush_ask w.now.places step))
  unfolding flush_ask
  reply_is event permitted flush.AtRest bytes within k = tt
  reply_is event permitted flush.LoadsFlushed bytes within k = refl
  reply_is event permitted (flush.LoadsEnd loaded) bytes within k = tt
  reply_is event permitted (flush.LoadsWord part addr this) bytes within k =
      let p = k.in_range in
      let part_is = p.is_part in
      let began = k.began in
      let below : addr < safe = omega (arith, p.before, part_is.within, within) in
      sym (same_below event permitted addr this below ∙ stood addr this (has_frame w addr sound (omega (arith, began, p.after)) below))
  reply_is event permitted (flush.WritesPart part) bytes within k = tt
  reply_is event permitted (flush.Syncs end) bytes within k = tt
  reply_is event permitted (flush.RaisesFlushed end) bytes within k = tt

  -- a step of the keeper's flush
  module _ (a : ℕ) (x : Actor) (step : Flushing) (bytes : List ℕ) (got : slice_get w.now.actors a ≡ Some x) (its : x.work ≡ Flushes step bytes) (mine : a ≡ keeper)
      (k : FlushKnows shape opened calls words flushed step bytes) where
    abbrev reply : ℕ
    reply = reply_to w.now.words (flush_ask w.now.places step)

    abbrev stepped : Actor
    stepped = record x { work = Flushes (flush_next shape.page step reply) (bytes_next step bytes reply) }

    abbrev called_once : Bool → Actor
    called_once done = record x { work = Flushes (flush_done shape.page step done) (bytes_done step bytes) }

    within : flush_end step ≤ safe
    within = known_end w a x step bytes sound got its

    -- what it knows, with what stands after the event
    knows_still : (event : GuardEvent) → IsPermittedEvent w.now event → FlushKnows shape opened calls (words_on event) flushed step bytes
    knows_still event permitted = knows_on shape opened calls calls words (words_on event) flushed safe step bytes within (same_below event permitted) (λ i c above is. is) (λ i c above is. is) k

    others : (event : GuardEvent) (calls' : List Call) (flushed' : ℕ) (b : ℕ) (y : Actor) → slice_get w.now.actors b ≡ Some y → b ≢ a → Row keeper shape opened calls' (words_on event) flushed' b y.work
    others event calls' flushed' b y found other =
        row_other keeper shape opened calls calls' words (words_on event) flushed flushed' b y.work (λ e. other (e ∙ sym mine)) (was.rows b y found)

    actors_moved : is_idle (Flushes step bytes) ≡ false → (guard_happens w (Moves a)).now.actors ≡ slice_set w.now.actors a stepped
    unfolding guard_happens
    actors_moved busy =
        ap (λ (o : Option Actor). (moved w.now a o).actors) got
        ∙ ap (λ (work : Work). slice_set w.now.actors a (if is_idle work then epoch_step w.now a x else work_step w.now a x work).actor) its
        ∙ ap (λ (c : Bool). slice_set w.now.actors a (if c then epoch_step w.now a x else work_step w.now a x (Flushes step bytes)).actor) busy

    flush_case : is_idle (Flushes step bytes) ≡ false → IsFlushed keeper start shape opened calls (words_on (Moves a)) (guard_happens w (Moves a))
    unfolding flush_next
    flush_case busy = elim (flushed_stays w (Moves a) sound) [
      | inl same ↦ stays_flushed (Moves a) tt calls no_call same (λ b y found.
          put_each (λ c z. Row keeper shape opened calls (words_on (Moves a)) flushed c z.work) w.now.actors a x stepped got (others (Moves a) calls flushed)
          (inr (mine, replied shape opened calls (words_on (Moves a)) flushed step bytes reply (page_some w sound) (reply_is (Moves a) tt step bytes within k) (knows_still (Moves a) tt)))
          b y (subst (λ (all : List Actor). slice_get all b ≡ Some y) (actors_moved busy) found))
      | inr r ↦ raises r
    ]
      where
        raises : RaisesIt w (Moves a) → IsFlushed keeper start shape opened calls (words_on (Moves a)) (guard_happens w (Moves a))
        raises r =
            let same : a ≡ r.actor = let e = r.its_event in cc in
            let x_same : x ≡ r.x = some_same x r.x (sym got ∙ (ap (slice_get w.now.actors) same ∙ r.its_actor)) in
            let work : Flushes step bytes ≡ Flushes (flush.RaisesFlushed r.end) r.bytes = sym its ∙ (ap (λ (z : Actor). z.work) x_same ∙ r.its_work) in
            let step_is : step ≡ flush.RaisesFlushed r.end = cc in
            let s = was.start_below in
            let top = flushed_safe in
            let raised = r.raised in
            let end_below : r.end ≤ safe = subst (λ (z : Flushing). flush_end z ≤ safe) step_is within in
            record {
              start_below = omega (arith, s, raised);
              earlier = was.earlier;
              records = λ addr above below. elim (cases_lt addr flushed) [
                | inl old ↦ record_kept_on shape opened calls calls words (words_on (Moves a)) addr (λ word. same_below (Moves a) tt addr word (omega (arith, old, top))) (λ j c small is. is) (was.records addr above old)
                | inr new ↦
                    let upto : addr < r.end = omega (arith, below, raised, new) in
                    record_kept_on shape opened calls calls words (words_on (Moves a)) addr (λ word. same_below (Moves a) tt addr word (omega (arith, upto, end_below))) (λ j c small is. is)
                    (k.synced addr new (subst (λ (z : Flushing). addr < synced_to z) (sym step_is) upto))
              ];
              rows = λ b y found.
                  put_each (λ c z. Row keeper shape opened calls (words_on (Moves a)) (levels_of (guard_happens w (Moves a)).now.words).flushed c z.work) w.now.actors a x stepped got
                  (others (Moves a) calls (levels_of (guard_happens w (Moves a)).now.words).flushed)
                  (inl (ap (λ (z : Flushing). flush_next shape.page z reply) step_is))
                  b y (subst (λ (all : List Actor). slice_get all b ≡ Some y) (actors_moved busy) found);
            }

    actors_called : (done : Bool) → (guard_happens w (Calls a done)).now.actors ≡ slice_set w.now.actors a (called_once done)
    unfolding guard_happens
    actors_called done =
        ap (λ (o : Option Actor). (called w.now a done o).actors) got
        ∙ ap (λ (work : Work). (called_by w.now a done x work).actors) its

    -- its call of the device
    call_case : (done : Bool) → IsFlushed keeper start shape opened (flush_calls shape bytes step done ++ calls) (words_on (Calls a done)) (guard_happens w (Calls a done))
    call_case done =
        stays_flushed (Calls a done) tt (flush_calls shape bytes step done ++ calls) (record { kept_too = λ i b above below is. call_spares shape opened calls words flushed step bytes done i b k below is })
        (moves_flushed (Calls a done) (λ r. let e = r.its_event in cc))
        (λ b y found.
        put_each (λ c z. Row keeper shape opened (flush_calls shape bytes step done ++ calls) (words_on (Calls a done)) flushed c z.work) w.now.actors a x (called_once done) got
        (others (Calls a done) (flush_calls shape bytes step done ++ calls) flushed)
        (inr (mine, called_on shape opened calls (words_on (Calls a done)) flushed step bytes done (page_some w sound) (knows_still (Calls a done) tt)))
        b y (subst (λ (all : List Actor). slice_get all b ≡ Some y) (actors_called done) found))

  abbrev After : GuardEvent → List Call → Type 0
  After event calls' = IsFlushed keeper start shape opened calls' (words_on event) (guard_happens w event)

  moves_case : (a : ℕ) (found : Option Actor) → slice_get w.now.actors a ≡ found → After (Moves a) calls
  unfolding guard_happens
  moves_case a None got = stays_flushed (Moves a) tt calls no_call (moves_flushed (Moves a) raises_none) (λ b y found. row_stays (Moves a) tt b y y.work (there b y found) refl (was.rows b y (there b y found)))
    where
      raises_none : RaisesIt w (Moves a) → ⊥
      raises_none r =
          let same : a ≡ r.actor = let e = r.its_event in cc in
          none_some r.x (sym got ∙ (ap (slice_get w.now.actors) same ∙ r.its_actor))

      there : (b : ℕ) (y : Actor) → slice_get (moved w.now a (slice_get w.now.actors a)).actors b ≡ Some y → slice_get w.now.actors b ≡ Some y
      there b y found = subst (λ (o : Option Actor). slice_get (moved w.now a o).actors b ≡ Some y) got found
  moves_case a (Some x) got = by x.work refl
    where
      by : (work : Work) → x.work ≡ work → After (Moves a) calls
      by Rests its = aside_case a x got (inr (ap is_flush its))
      by (Reserves step) its = aside_case a x got (inr (ap is_flush its))
      by (Fills step) its = aside_case a x got (inr (ap is_flush its))
      by (Invalidates step) its = aside_case a x got (inr (ap is_flush its))
      by (Shifts s) its = aside_case a x got (inr (ap is_flush its))
      by (Turns s) its = aside_case a x got (inr (ap is_flush its))
      by (Serves begin step) its = aside_case a x got (inr (ap is_flush its))
      by (Flushes step bytes) its = elim (truth (is_idle (Flushes step bytes))) [
        | inl idle ↦ aside_case a x got (inl (ap is_idle its ∙ idle))
        | inr busy ↦ elim (subst (Row keeper shape opened calls words flushed a) its (was.rows a x got)) [
          | inl rest ↦ let idle : is_idle (Flushes step bytes) ≡ true = ap (λ (z : Flushing). is_idle (Flushes z bytes)) rest in cc
          | inr k ↦ flush_case a x step bytes got its k.0 k.1 busy
        ]
      ]

  -- a call that no flush makes
  no_flush_call : (a : ℕ) (done : Bool) → ((b : ℕ) (y : Actor) → slice_get (guard_happens w (Calls a done)).now.actors b ≡ Some y → slice_get w.now.actors b ≡ Some y) → After (Calls a done) calls
  no_flush_call a done there =
      stays_flushed (Calls a done) tt calls no_call (moves_flushed (Calls a done) (λ r. let e = r.its_event in cc))
      (λ b y found. row_stays (Calls a done) tt b y y.work (there b y found) refl (was.rows b y (there b y found)))

  calls_case : (a : ℕ) (done : Bool) (found : Option Actor) → slice_get w.now.actors a ≡ found → After (Calls a done) (actor_calls w.now done found ++ calls)
  unfolding guard_happens flush_done flush_calls
  calls_case a done None got = no_flush_call a done (λ b y found. subst (λ (o : Option Actor). slice_get (called w.now a done o).actors b ≡ Some y) got found)
  calls_case a done (Some x) got = by x.work refl
    where
      to_work : (work : Work) (b : ℕ) (y : Actor) → x.work ≡ work → slice_get (called w.now a done (slice_get w.now.actors a)).actors b ≡ Some y → slice_get (called_by w.now a done x work).actors b ≡ Some y
      to_work work b y its found =
          subst (λ (z : Work). slice_get (called_by w.now a done x z).actors b ≡ Some y) its
          (subst (λ (o : Option Actor). slice_get (called w.now a done o).actors b ≡ Some y) got found)

      rest_case : (step : Flushing) (bytes : List ℕ) → x.work ≡ Flushes step bytes → step ≡ flush.AtRest → After (Calls a done) calls
      rest_case step bytes its rest =
          stays_flushed (Calls a done) tt calls no_call (moves_flushed (Calls a done) (λ r. let e = r.its_event in cc))
          (λ b y found.
          put_each (λ c z. Row keeper shape opened calls (words_on (Calls a done)) flushed c z.work) w.now.actors a x (record x { work = Flushes (flush_done shape.page step done) (bytes_done step bytes) }) got
          (λ c z there other. row_stays (Calls a done) tt c z z.work there refl (was.rows c z there))
          (inl (ap (λ (z : Flushing). flush_done shape.page z done) rest))
          b y (to_work (Flushes step bytes) b y its found))

      by : (work : Work) → x.work ≡ work → After (Calls a done) (work_calls w.now done work ++ calls)
      by (Flushes step bytes) its = elim (subst (Row keeper shape opened calls words flushed a) its (was.rows a x got)) [
        | inl rest ↦ subst (λ (z : Flushing). After (Calls a done) (flush_calls shape bytes z done ++ calls)) (sym rest) (rest_case step bytes its rest)
        | inr k ↦ call_case a x step bytes got its k.0 k.1 done
      ]
      by Rests its = no_flush_call a done (λ b y found. to_work Rests b y its found)
      by (Reserves step) its = no_flush_call a done (λ b y found. to_work (Reserves step) b y its found)
      by (Fills step) its = no_flush_call a done (λ b y found. to_work (Fills step) b y its found)
      by (Invalidates step) its = no_flush_call a done (λ b y found. to_work (Invalidates step) b y its found)
      by (Shifts s) its = no_flush_call a done (λ b y found. to_work (Shifts s) b y its found)
      by (Turns s) its = no_flush_call a done (λ b y found. to_work (Turns s) b y its found)
      by (Serves begin step) its = no_flush_call a done (λ b y found. to_work (Serves begin step) b y its found)

  pub happens_flushed : (event : GuardEvent) → FlushesAlone keeper event → IsPermittedEvent w.now event → After event (event_calls w.now event ++ calls)
  happens_flushed (Begins a (ToDo task)) alone permitted = quiet_case (Begins a (ToDo task)) permitted refl
  happens_flushed (Begins a (ToReserve bound)) alone permitted = quiet_case (Begins a (ToReserve bound)) permitted refl
  happens_flushed (Begins a (ToFill its_words)) alone permitted = quiet_case (Begins a (ToFill its_words)) permitted refl
  happens_flushed (Begins a (ToInvalidate header)) alone permitted = quiet_case (Begins a (ToInvalidate header)) permitted refl
  happens_flushed (Begins a ToShift) alone permitted = quiet_case (Begins a ToShift) permitted refl
  happens_flushed (Begins a (ToTurnPage form tail)) alone permitted = quiet_case (Begins a (ToTurnPage form tail)) permitted refl
  happens_flushed (Begins a ToFlush) alone permitted = begins_case a alone
  happens_flushed (Begins a (ToServe begin)) alone permitted = quiet_case (Begins a (ToServe begin)) permitted refl
  happens_flushed (Moves a) alone permitted = moves_case a (slice_get w.now.actors a) refl
  happens_flushed (Calls a done) alone permitted = calls_case a done (slice_get w.now.actors a) refl
  happens_flushed (Resumes a) alone permitted = quiet_case (Resumes a) permitted refl
  happens_flushed (Reads a bytes) alone permitted = quiet_case (Reads a bytes) permitted refl
  happens_flushed (Sees a sight) alone permitted = quiet_case (Sees a sight) permitted refl
  happens_flushed (Publishes a) alone permitted = quiet_case (Publishes a) permitted refl
  happens_flushed (Updates a addr word) alone permitted = quiet_case (Updates a addr word) permitted refl
  happens_flushed (RaisesReadOnly a to) alone permitted = quiet_case (RaisesReadOnly a to) permitted refl
  happens_flushed (RaisesFor a action) alone permitted = quiet_case (RaisesFor a action) permitted refl
  happens_flushed (Changes a place word) alone permitted = quiet_case (Changes a place word) permitted refl
  happens_flushed (CallsElse call) alone permitted = quiet_case (CallsElse call) permitted refl

-- A whole run.
module _ (keeper start : ℕ) (opened : List ℕ) (first : GuardWorld) (sound : IsSound first) (was : IsFlushed keeper start first.now.shape opened [] (stands first []) first) where
  pub same_shape : (events : List GuardEvent) → (guard_run first events).now.shape ≡ first.now.shape
  unfolding guard_run
  same_shape [] = refl
  same_shape (event ∷ before) = (same_store (guard_run first before) event).0 ∙ same_shape before

  pub run_flushed : (events : List GuardEvent) → OneFlushes keeper events → ArePermittedEvents first events → IsFlushed keeper start (guard_run first events).now.shape opened (calls_made first events) (stands first events) (guard_run first events)
  unfolding guard_run stands calls_made
  run_flushed [] alone permitted = was
  run_flushed (event ∷ before) alone permitted =
      let w : GuardWorld = guard_run first before in
      subst (λ (s : Shape). IsFlushed keeper start s opened (event_calls w.now event ++ calls_made first before) (framed (guard_happens w event).now (stands first before)) (guard_happens w event)) (sym (same_store w event).0)
      (happens_flushed keeper start opened (calls_made first before) (stands first before) w (run_sound first before sound) (stood_open first before) (run_flushed before alone.1 permitted.1) event alone.0 permitted.0)

-- The store as it is opened: no flush is under way, and the device has what it was opened with.
pub opening_flushed : (keeper : ℕ) (shape : Shape) (places : Places) (actors : ℕ) (words : List ℕ) (start : ℕ) (opened : List ℕ) (stood : ℕ → RecordWord → ℕ) → IsOpened shape places actors words start
    → IsFlushed keeper start shape opened [] stood (opening shape places actors words start)
opening_flushed keeper shape places actors words start opened stood o = record {
  start_below = let f = o.flushed in omega (arith, f);
  earlier = λ i above below known. opened_kept opened i known;
  records = λ addr above below. let f = o.flushed in absurd (omega (arith, f, above, below));
  rows = λ b y got. subst (λ (z : Actor). Row keeper shape opened [] stood (levels_of words).flushed b z.work) (sym (replicate_item actors b (first_actor start (levels_of words).closed) y got)) tt;
}

-- so what is flushed is synced
pub is_synced : (keeper start : ℕ) (shape : Shape) (opened : List ℕ) (calls : List Call) (words : ℕ → RecordWord → ℕ) (w : GuardWorld) → IsFlushed keeper start shape opened calls words w
    → IsSynced shape opened calls words start (levels_of w.now.words).flushed
is_synced keeper start shape opened calls words w is = record {
  records = λ bytes shows addr above below. record_shown shape opened calls words addr bytes (is.records addr above below) shows;
  earlier = λ bytes shows i above below known. kept_shown opened calls i (byte_at opened i) bytes (is.earlier i above below known) shows;
}
