-- What a flush knows of the device and of the records that stand, by how far it has come, and how a reply and a call of the device keep it.
use Rattle.std.proofs.Common.{◌≡◌, inl, inr, ℕ, ◌+◌, ◌-◌, ◌*◌, ◌<◌, ◌≤◌, ◌^◌, Bool, true, false, List, [], ◌∷◌, ◌++◌, length, refl, sym, ap, subst, arith, length-append}
use Rattle.std.specs.Prelude.{nat_lt, ◌&&◌, if◌then◌else◌, ⊤}
use Rattle.std.specs.Int.{w64, to_le_bytes}
use Rattle.std.proofs.lemmas.Bool.{cases_lt}
use Rattle.std.proofs.lemmas.Bool.Decides.{nat_tests}
use Rattle.fkv_base.specs.declared.shapes.Shape.{Shape}
use Rattle.fkv_record.specs.Numbers.{spelled}
use Rattle.fkv_record.specs.Places as image
use Rattle.fkv_record.proofs.Shown.{length-spelled}
use Rattle.fkv_disk.specs.Bytes.{byte_at}
use Rattle.fkv_disk.specs.Calls.{Call, Write, Sync}
use Rattle.fkv_plane.specs.declared.places.RecordWord.{RecordWord}
use Rattle.fkv_plane.specs.declared.places.RecordWord.TheVariants as rec
use Rattle.fkv_flush.specs.declared.flushing.Part.{Part}
use Rattle.fkv_flush.specs.declared.flushing.Flushing.{Flushing}
use Rattle.fkv_flush.specs.declared.flushing.Flushing.TheVariants.{AtRest, LoadsFlushed, LoadsEnd, LoadsWord, WritesPart, Syncs, RaisesFlushed}
use Rattle.fkv_flush.specs.Flushing.{IsPart, IsFlushInRange, part_from, flush_next, bytes_next, flush_calls, flush_done, bytes_done, count_next, count_done}
use Rattle.fkv_flush.specs.InHand.{words_from, HasLoaded, IsAskedWord}
use Rattle.fkv_flush.proofs.InHand.{in_hand, next_part}
use Rattle.fkv_flush.proofs.Parts.{after_reply, after_call}
use Rattle.fkv_flush.proofs.OnDevice.{IsRead, IsKept, read_on, kept_on, read_synced, record_bytes, RecordRead, RecordKept, part_read, part_misses, part_misses_below, words_from_length, PartOf, loaded_alike}

-- where the whole flush ends
abbrev pub flush_end : Flushing → ℕ
flush_end (LoadsWord part addr word) = part.end
flush_end (WritesPart part) = part.end
flush_end (Syncs end) = end
flush_end (RaisesFlushed end) = end
flush_end step = 0

-- how far it has written, and how far that is synced
abbrev pub written_to : Flushing → ℕ
written_to (LoadsWord part addr word) = part.from
written_to (WritesPart part) = part.from
written_to (Syncs end) = end
written_to (RaisesFlushed end) = end
written_to step = 0

abbrev pub synced_to : Flushing → ℕ
synced_to (RaisesFlushed end) = end
synced_to step = 0

-- it began where the flushed offset is
abbrev pub BeganAt : ℕ → Flushing → Type 0
BeganAt flushed (LoadsEnd loaded) = loaded ≡ flushed
BeganAt flushed (LoadsWord part addr word) = flushed ≤ part.from
BeganAt flushed (WritesPart part) = flushed ≤ part.from
BeganAt flushed step = ⊤

pub record FlushKnows (shape : Shape) (opened : List ℕ) (calls : List Call) (words : ℕ → RecordWord → ℕ) (flushed : ℕ) (step : Flushing) (bytes : List ℕ) : Type 0 where
  pub in_range : IsFlushInRange shape.page (length bytes) step
  pub loaded : HasLoaded words step bytes
  pub began : BeganAt flushed step
  pub written : (addr : ℕ) → flushed ≤ addr → addr < written_to step → RecordRead shape opened calls words addr
  pub synced : (addr : ℕ) → flushed ≤ addr → addr < synced_to step → RecordKept shape opened calls words addr

-- the reply is what the flush asked for
abbrev pub IsReply : (ℕ → RecordWord → ℕ) → ℕ → Flushing → ℕ → Type 0
IsReply words flushed LoadsFlushed reply = reply ≡ flushed
IsReply words flushed (LoadsWord part addr this) reply = reply ≡ words addr this
IsReply words flushed step reply = ⊤

module _ (shape : Shape) (opened : List ℕ) (calls : List Call) (words : ℕ → RecordWord → ℕ) (flushed : ℕ) where
  -- a flush that is through
  pub rests : (bytes : List ℕ) → FlushKnows shape opened calls words flushed AtRest bytes
  rests bytes = record { in_range = tt; loaded = tt; began = tt; written = λ addr above below. absurd (omega (arith, below)); synced = λ addr above below. absurd (omega (arith, below)) }

  -- one that begins
  pub begins : FlushKnows shape opened calls words flushed LoadsFlushed []
  begins = record { in_range = refl; loaded = refl; began = tt; written = λ addr above below. absurd (omega (arith, below)); synced = λ addr above below. absurd (omega (arith, below)) }

count_is : (step : Flushing) (bytes : List ℕ) (reply : ℕ) → count_next step (length bytes) ≡ length (bytes_next step bytes reply)
unfolding count_next bytes_next
count_is AtRest bytes reply = refl
count_is LoadsFlushed bytes reply = refl
count_is (LoadsEnd flushed) bytes reply = refl
count_is (LoadsWord part addr word) bytes reply = sym (length-append bytes (to_le_bytes w64 reply))
count_is (WritesPart part) bytes reply = refl
count_is (Syncs end) bytes reply = refl
count_is (RaisesFlushed end) bytes reply = refl

count_done_is : (step : Flushing) (bytes : List ℕ) → count_done step (length bytes) ≡ length (bytes_done step bytes)
unfolding count_done bytes_done
count_done_is AtRest bytes = refl
count_done_is LoadsFlushed bytes = refl
count_done_is (LoadsEnd flushed) bytes = refl
count_done_is (LoadsWord part addr word) bytes = refl
count_done_is (WritesPart part) bytes = refl
count_done_is (Syncs end) bytes = refl
count_done_is (RaisesFlushed end) bytes = refl

-- what a flush has written is below its end
written_within : (page : ℕ) (step : Flushing) (n : ℕ) → IsFlushInRange page n step → written_to step ≤ flush_end step
written_within page AtRest n r = omega arith
written_within page LoadsFlushed n r = omega arith
written_within page (LoadsEnd flushed) n r = omega arith
written_within page (LoadsWord part addr word) n r = let p = r.is_part in omega (arith, p.some_records, p.within)
written_within page (WritesPart part) n r = omega (arith, r.some_records, r.within)
written_within page (Syncs end) n r = omega arith
written_within page (RaisesFlushed end) n r = omega arith

synced_within : (step : Flushing) → synced_to step ≤ flush_end step
synced_within AtRest = omega arith
synced_within LoadsFlushed = omega arith
synced_within (LoadsEnd flushed) = omega arith
synced_within (LoadsWord part addr word) = omega arith
synced_within (WritesPart part) = omega arith
synced_within (Syncs end) = omega arith
synced_within (RaisesFlushed end) = omega arith

-- so is the part that it has in hand
part_within : (page : ℕ) (step : Flushing) (n : ℕ) (part : Part) → IsFlushInRange page n step → PartOf step part → part.stop ≤ flush_end step
part_within page AtRest n part r of = absurd of
part_within page LoadsFlushed n part r of = absurd of
part_within page (LoadsEnd flushed) n part r of = absurd of
part_within page (LoadsWord mine addr word) n part r of = let p = r.is_part in let same = ap (λ (q : Part). q.stop) of in omega (arith, p.within, same)
part_within page (WritesPart mine) n part r of = let same = ap (λ (q : Part). q.stop) of in omega (arith, r.within, same)
part_within page (Syncs end) n part r of = absurd of
part_within page (RaisesFlushed end) n part r of = absurd of

-- the same words are the same bytes
same_bytes : (words words' : ℕ → RecordWord → ℕ) (addr : ℕ) → ((word : RecordWord) → words' addr word ≡ words addr word) → record_bytes words' addr ≡ record_bytes words addr
same_bytes words words' addr same =
    let header = same rec.Header in
    let key = same rec.Key in
    let value = same rec.Value in
    ap spelled (let list : (words' addr rec.Header ∷ words' addr rec.Key ∷ words' addr rec.Value ∷ []) ≡ (words addr rec.Header ∷ words addr rec.Key ∷ words addr rec.Value ∷ []) = cc in list)

module _ (shape : Shape) (opened : List ℕ) (calls calls' : List Call) (words words' : ℕ → RecordWord → ℕ) where
  -- a record stays as it is where its words do and the calls leave its bytes
  pub record_read_on : (addr : ℕ) → ((word : RecordWord) → words' addr word ≡ words addr word)
      → ((k b : ℕ) → k < 24 → IsRead opened calls (image.record_place shape addr + k) b → IsRead opened calls' (image.record_place shape addr + k) b)
      → RecordRead shape opened calls words addr → RecordRead shape opened calls' words' addr
  record_read_on addr same on is k below =
      subst (λ (those : List ℕ). IsRead opened calls' (image.record_place shape addr + k) (byte_at those k)) (sym (same_bytes words words' addr same)) (on k (byte_at (record_bytes words addr) k) below (is k below))

  pub record_kept_on : (addr : ℕ) → ((word : RecordWord) → words' addr word ≡ words addr word)
      → ((k b : ℕ) → k < 24 → IsKept opened calls (image.record_place shape addr + k) b → IsKept opened calls' (image.record_place shape addr + k) b)
      → RecordKept shape opened calls words addr → RecordKept shape opened calls' words' addr
  record_kept_on addr same on is k below =
      subst (λ (those : List ℕ). IsKept opened calls' (image.record_place shape addr + k) (byte_at those k)) (sym (same_bytes words words' addr same)) (on k (byte_at (record_bytes words addr) k) below (is k below))

  -- A flush knows what it knew while the records that it may flush stand, and the calls leave what it has written.
  pub knows_on : (flushed safe : ℕ) (step : Flushing) (bytes : List ℕ) → flush_end step ≤ safe
      → ((addr : ℕ) (word : RecordWord) → addr < safe → words' addr word ≡ words addr word)
      → ((i b : ℕ) → image.record_place shape flushed ≤ i → IsRead opened calls i b → IsRead opened calls' i b)
      → ((i b : ℕ) → image.record_place shape flushed ≤ i → IsKept opened calls i b → IsKept opened calls' i b)
      → FlushKnows shape opened calls words flushed step bytes → FlushKnows shape opened calls' words' flushed step bytes
  knows_on flushed safe step bytes within stand read_too kept_too k =
      let far = written_within shape.page step (length bytes) k.in_range in
      let near = synced_within step in
      record {
        in_range = k.in_range;
        loaded = loaded_alike shape.page words words' step bytes k.in_range
            (λ part of addr word above below. let p = part_within shape.page step (length bytes) part k.in_range of in stand addr word (omega (arith, p, below, within))) k.loaded;
        began = k.began;
        written = λ addr above below. record_read_on addr (λ word. stand addr word (omega (arith, far, below, within))) (λ j b small is. read_too (image.record_place shape addr + j) b (omega (arith, above)) is) (k.written addr above below);
        synced = λ addr above below. record_kept_on addr (λ word. stand addr word (omega (arith, near, below, within))) (λ j b small is. kept_too (image.record_place shape addr + j) b (omega (arith, above)) is) (k.synced addr above below);
      }

module _ (shape : Shape) (opened : List ℕ) (calls : List Call) (words : ℕ → RecordWord → ℕ) (flushed : ℕ) where
  loads_part : (loaded end : ℕ) (bytes : List ℕ) (b : Bool) → loaded ≡ flushed
      → BeganAt flushed (if b then LoadsWord (part_from shape.page loaded end) loaded rec.Header else AtRest)
      × ((addr : ℕ) → flushed ≤ addr → addr < written_to (if b then LoadsWord (part_from shape.page loaded end) loaded rec.Header else AtRest) → RecordRead shape opened calls words addr)
      × ((addr : ℕ) → flushed ≤ addr → addr < synced_to (if b then LoadsWord (part_from shape.page loaded end) loaded rec.Header else AtRest) → RecordKept shape opened calls words addr)
  loads_part loaded end bytes true same = (omega (arith, same), λ addr above below. absurd (omega (arith, same, above, below)), λ addr above below. absurd (omega (arith, below)))
  loads_part loaded end bytes false same = (tt, λ addr above below. absurd (omega (arith, below)), λ addr above below. absurd (omega (arith, below)))

  next_record : (part : Part) (addr : ℕ) (b : Bool) → flushed ≤ part.from
      → ((other : ℕ) → flushed ≤ other → other < part.from → RecordRead shape opened calls words other)
      → BeganAt flushed (if b then LoadsWord part (addr + 1) rec.Header else WritesPart part)
      × ((other : ℕ) → flushed ≤ other → other < written_to (if b then LoadsWord part (addr + 1) rec.Header else WritesPart part) → RecordRead shape opened calls words other)
      × ((other : ℕ) → flushed ≤ other → other < synced_to (if b then LoadsWord part (addr + 1) rec.Header else WritesPart part) → RecordKept shape opened calls words other)
  next_record part addr true above written = (above, written, λ other over below. absurd (omega (arith, below)))
  next_record part addr false above written = (above, written, λ other over below. absurd (omega (arith, below)))

  -- where a reply leads, it has begun there and written so far
  goes_on : (step : Flushing) (bytes : List ℕ) (reply : ℕ) → IsReply words flushed step reply → FlushKnows shape opened calls words flushed step bytes
      → BeganAt flushed (flush_next shape.page step reply)
      × ((addr : ℕ) → flushed ≤ addr → addr < written_to (flush_next shape.page step reply) → RecordRead shape opened calls words addr)
      × ((addr : ℕ) → flushed ≤ addr → addr < synced_to (flush_next shape.page step reply) → RecordKept shape opened calls words addr)
  unfolding flush_next
  goes_on AtRest bytes reply is k = (tt, k.written, k.synced)
  goes_on LoadsFlushed bytes reply is k = (is, k.written, k.synced)
  goes_on (LoadsEnd loaded) bytes reply is k = loads_part loaded reply bytes (nat_lt loaded reply && nat_lt reply (2 ^ 48)) k.began
  goes_on (LoadsWord part addr rec.Header) bytes reply is k = (k.began, k.written, k.synced)
  goes_on (LoadsWord part addr rec.Key) bytes reply is k = (k.began, k.written, k.synced)
  goes_on (LoadsWord part addr rec.Value) bytes reply is k = next_record part addr (nat_lt (addr + 1) part.stop) k.began k.written
  goes_on (WritesPart part) bytes reply is k = (k.began, k.written, k.synced)
  goes_on (Syncs end) bytes reply is k = (tt, k.written, k.synced)
  goes_on (RaisesFlushed end) bytes reply is k = (tt, λ addr above below. absurd (omega (arith, below)), λ addr above below. absurd (omega (arith, below)))

  asked_word : (step : Flushing) (reply : ℕ) → IsReply words flushed step reply → IsAskedWord words step reply
  asked_word AtRest reply is = tt
  asked_word LoadsFlushed reply is = tt
  asked_word (LoadsEnd loaded) reply is = tt
  asked_word (LoadsWord part addr this) reply is = is
  asked_word (WritesPart part) reply is = tt
  asked_word (Syncs end) reply is = tt
  asked_word (RaisesFlushed end) reply is = tt

  -- a reply
  pub replied : (step : Flushing) (bytes : List ℕ) (reply : ℕ) → 0 < shape.page → IsReply words flushed step reply → FlushKnows shape opened calls words flushed step bytes
      → FlushKnows shape opened calls words flushed (flush_next shape.page step reply) (bytes_next step bytes reply)
  replied step bytes reply some is k =
      let on = goes_on step bytes reply is k in
      record {
        in_range = subst (λ (n : ℕ). IsFlushInRange shape.page n (flush_next shape.page step reply)) (count_is step bytes reply) (after_reply shape.page step (length bytes) reply some k.in_range);
        loaded = in_hand shape.page words step bytes reply k.in_range k.loaded (asked_word step reply is);
        began = on.0;
        written = on.1;
        synced = on.2;
      }

  -- the bytes of a part are those of its records
  part_size : (part : Part) (bytes : List ℕ) → FlushKnows shape opened calls words flushed (WritesPart part) bytes → length bytes ≡ 24 * (part.stop - part.from)
  part_size part bytes k =
      let size = ap (λ (those : List ℕ). length those) k.loaded in
      let letters = length-spelled (words_from words part.from (part.stop - part.from)) in
      let three = words_from_length words part.from (part.stop - part.from) in
      omega (arith, size, letters, three)

  -- a call of a flush leaves all that was synced before it began
  pub call_spares : (step : Flushing) (bytes : List ℕ) (done : Bool) (i b : ℕ) → FlushKnows shape opened calls words flushed step bytes → i < image.record_place shape flushed
      → IsKept opened calls i b → IsKept opened (flush_calls shape bytes step done ++ calls) i b
  unfolding flush_calls
  call_spares AtRest bytes done i b k below is = is
  call_spares LoadsFlushed bytes done i b k below is = is
  call_spares (LoadsEnd loaded) bytes done i b k below is = is
  call_spares (LoadsWord part addr word) bytes done i b k below is = is
  call_spares (WritesPart part) bytes done i b k below is =
      kept_on opened calls (Write (image.record_place shape part.from) bytes done) i b (part_misses_below shape part.from bytes done i (let began = k.began in omega (arith, began, below))) is
  call_spares (Syncs end) bytes done i b k below is = kept_on opened calls (Sync done) i b tt is
  call_spares (RaisesFlushed end) bytes done i b k below is = is

  -- after a write: the records before the part, and those of it
  wrote : (part : Part) (bytes : List ℕ) → FlushKnows shape opened calls words flushed (WritesPart part) bytes
      → (addr : ℕ) → flushed ≤ addr → addr < part.stop → RecordRead shape opened (Write (image.record_place shape part.from) bytes true ∷ calls) words addr
  wrote part bytes k addr above below = elim (cases_lt addr part.from) [
    | inl before ↦ λ j small. read_on opened calls (Write (image.record_place shape part.from) bytes true) (image.record_place shape addr + j) (byte_at (record_bytes words addr) j)
        (part_misses shape part.from (part.stop - part.from) bytes true addr j (part_size part bytes k) (inl before) small) (k.written addr above before j small)
    | inr after ↦ part_read shape opened calls words part.from (part.stop - part.from) bytes addr k.loaded after (omega (arith, below))
  ]

  written_where : (part : Part) (b : Bool) → nat_lt part.stop part.end ≡ b → IsPart shape.page part → flushed ≤ part.from → (calls' : List Call)
      → ((addr : ℕ) → flushed ≤ addr → addr < part.stop → RecordRead shape opened calls' words addr)
      → BeganAt flushed (if b then LoadsWord (part_from shape.page part.stop part.end) part.stop rec.Header else Syncs part.end)
      × ((addr : ℕ) → flushed ≤ addr → addr < written_to (if b then LoadsWord (part_from shape.page part.stop part.end) part.stop rec.Header else Syncs part.end) → RecordRead shape opened calls' words addr)
      × ((addr : ℕ) → flushed ≤ addr → addr < synced_to (if b then LoadsWord (part_from shape.page part.stop part.end) part.stop rec.Header else Syncs part.end) → RecordKept shape opened calls' words addr)
  written_where part true e is above calls' written = (omega (arith, above, is.some_records), written, λ addr over below. absurd (omega (arith, below)))
  written_where part false e is above calls' written =
      let last : part.end ≤ part.stop = grind (arith, nat_tests, e) in
      (tt, λ addr over below. written addr over (omega (arith, last, below)), λ addr over below. absurd (omega (arith, below)))

  -- where a call leads
  calls_on : (step : Flushing) (bytes : List ℕ) (done : Bool) → FlushKnows shape opened calls words flushed step bytes
      → BeganAt flushed (flush_done shape.page step done)
      × ((addr : ℕ) → flushed ≤ addr → addr < written_to (flush_done shape.page step done) → RecordRead shape opened (flush_calls shape bytes step done ++ calls) words addr)
      × ((addr : ℕ) → flushed ≤ addr → addr < synced_to (flush_done shape.page step done) → RecordKept shape opened (flush_calls shape bytes step done ++ calls) words addr)
  unfolding flush_calls flush_done
  calls_on AtRest bytes done k = (tt, k.written, k.synced)
  calls_on LoadsFlushed bytes done k = (tt, k.written, k.synced)
  calls_on (LoadsEnd loaded) bytes done k = (k.began, k.written, k.synced)
  calls_on (LoadsWord part addr word) bytes done k = (k.began, k.written, k.synced)
  calls_on (WritesPart part) bytes true k = written_where part (nat_lt part.stop part.end) refl k.in_range k.began (Write (image.record_place shape part.from) bytes true ∷ calls) (wrote part bytes k)
  calls_on (WritesPart part) bytes false k = (tt, λ addr above below. absurd (omega (arith, below)), λ addr above below. absurd (omega (arith, below)))
  calls_on (Syncs end) bytes true k = (
    tt,
    λ addr above below j small. read_on opened calls (Sync true) (image.record_place shape addr + j) (byte_at (record_bytes words addr) j) tt (k.written addr above below j small),
    λ addr above below j small. read_synced opened calls (image.record_place shape addr + j) (byte_at (record_bytes words addr) j) (k.written addr above below j small),
  )
  calls_on (Syncs end) bytes false k = (tt, λ addr above below. absurd (omega (arith, below)), λ addr above below. absurd (omega (arith, below)))
  calls_on (RaisesFlushed end) bytes done k = (tt, k.written, k.synced)

  -- a call of the device
  pub called_on : (step : Flushing) (bytes : List ℕ) (done : Bool) → 0 < shape.page → FlushKnows shape opened calls words flushed step bytes
      → FlushKnows shape opened (flush_calls shape bytes step done ++ calls) words flushed (flush_done shape.page step done) (bytes_done step bytes)
  called_on step bytes done some k =
      let on = calls_on step bytes done k in
      record {
        in_range = subst (λ (n : ℕ). IsFlushInRange shape.page n (flush_done shape.page step done)) (count_done_is step bytes) (after_call shape.page step done (length bytes) some k.in_range);
        loaded = next_part shape.page words step bytes done k.loaded;
        began = on.0;
        written = on.1;
        synced = on.2;
      }
