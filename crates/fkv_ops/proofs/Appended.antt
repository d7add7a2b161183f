-- What an append knows at each of its steps, and what it has come to at its end.
use Rattle.std.proofs.Common.{◌≡◌, ℕ, ◌+◌, ◌*◌, ◌<◌, ◌≤◌, ◌^◌, ◌⊎◌, refl, inl, inr, arith, sym, ap, ◌∙◌, subst, Bool, true, false}
use Rattle.std.specs.Prelude.{◌≢◌, ◌==◌, ◌&&◌, nat_lt, if◌then◌else◌, Option, Some, None}
use Rattle.fkv_base.specs.declared.numbers.Addr.{Addr}
use Rattle.fkv_marks.specs.Marks.{mark}
use Rattle.fkv_words.specs.declared.headers.Header.{Header}
use Rattle.fkv_words.specs.Fields.{bit_of}
use Rattle.fkv_words.specs.Layout.{header_word}
use Rattle.fkv_plane.specs.declared.asks.Ask.{Ask}
use Rattle.fkv_plane.specs.declared.asks.Ask.TheVariants.{Store, Cas, Done}
use Rattle.fkv_plane.specs.declared.places.Places.{Places}
use Rattle.fkv_plane.specs.declared.places.SharedWord.TheVariants as one
use Rattle.fkv_plane.specs.declared.places.RecordWord.TheVariants as rec
use Rattle.fkv_plane.specs.Places.{shared_place, record_place}
use Rattle.fkv_plane.specs.Passing.{passed, is_done}
use Rattle.fkv_log.specs.declared.record_words.RecordWords.{RecordWords}
use Rattle.fkv_log.specs.declared.reserving.ReserveAnswer.TheVariants as reserve
use Rattle.fkv_log.specs.declared.reserving.Reserving.{Reserving}
use Rattle.fkv_log.specs.declared.reserving.Reserving.TheVariants.{AtRest as RestsReserving, LoadsLimit, LoadsTail, TakesTail}
use Rattle.fkv_log.specs.declared.filling.Filling.{Filling}
use Rattle.fkv_log.specs.declared.filling.Filling.TheVariants.{AtRest as RestsFilling, StoresValue, StoresKey, StoresHeader}
use Rattle.fkv_log.specs.declared.invalidating.Invalidating.TheVariants as invalidate
use Rattle.fkv_log.specs.Reserving.{reserve_ask, limit_within, reserve_next, reserve_next_ask, no_room_at}
use Rattle.fkv_log.specs.Filling.{fill_begun, fill_ask, fill_next}
use Rattle.fkv_log.specs.Invalidating.{invalidated, invalidate_ask, invalidate_next}
use Rattle.fkv_index.specs.declared.publishing.PublishAnswer.TheVariants as publish
use Rattle.fkv_index.specs.declared.publishing.Publishing.TheVariants.{SwapsEntry}
use Rattle.fkv_index.specs.Slots.{entry_addr}
use Rattle.fkv_index.specs.Publishing.{publish_ask, publish_next, publish_next_ask}
use Rattle.fkv_index.specs.IndexWorld.{new_entry}
use Rattle.fkv_ops.specs.declared.answers.TryAnswer.TheVariants as answer
use Rattle.fkv_ops.specs.declared.appending.FoundSlot.{FoundSlot}
use Rattle.fkv_ops.specs.declared.appending.AppendAnswer.{AppendAnswer}
use Rattle.fkv_ops.specs.declared.appending.AppendAnswer.TheVariants as append
use Rattle.fkv_ops.specs.declared.appending.Appending.{Appending}
use Rattle.fkv_ops.specs.declared.appending.Appending.TheVariants.{Ended, Reserves, Fills, Publishes, Invalidates}
use Rattle.fkv_ops.specs.Appending.{AppendState, append_begun, appending_ask, append_ask, addr_reserved, reserve_ledto, fill_ledto, publish_ledto, invalidate_ledto, appending_next, append_next}
use Rattle.fkv_ops.specs.declared.bounds.Bounds.{Bounds}
use Rattle.fkv_ops.specs.Bounds.{bounds_at, tail_bound}
use Rattle.fkv_ops.specs.Requests.{is_read}
use Rattle.fkv_ops.specs.TryRun.{Trial, home_at, Told}
use Rattle.fkv_ops.specs.Reasons.{Loaded, IsStored, Won, IsLost, HasEntry, HasNoRoom, IsPastTail, IsContended, TailLost, EntryLost, NoStore, NoAddress}
use Rattle.fkv_ops.proofs.BoolTests.{lt_true, lt_false, eq_true, eq_false}

-- the address was reserved, and an entry can have it
pub record IsReserved (c : Trial) (told : Told) (slot : FoundSlot) (addr : Addr) : Type 0 where
  pub its_cas : Won told (shared_place one.Tail) addr.0 (addr.0 + 1)
  pub above : entry_addr slot.entry < addr.0
  pub fits : addr.0 < 2 ^ 48

-- the limit as it counts for the request: up to its bound, where it has one
pub record HasLimit (c : Trial) (told : Told) (limit : ℕ) : Type 0 where
  pub update : is_read c.request.op ≡ false
  pub word : ℕ
  pub its_word : Loaded told (shared_place one.Limit) word
  pub its : limit ≡ limit_within (tail_bound (bounds_at c.occasion)) word

abbrev pub ReserveRow : Trial → Told → Reserving → Type 0
ReserveRow c told RestsReserving = ⊥
ReserveRow c told (LoadsLimit bound) = (is_read c.request.op ≡ false) × (bound ≡ tail_bound (bounds_at c.occasion))
ReserveRow c told (LoadsTail limit) = HasLimit c told limit
ReserveRow c told (TakesTail tail) = Loaded told (shared_place one.Tail) tail

-- the words that are stored so far
abbrev pub FillRow : Trial → Told → RecordWords → Addr → Filling → Type 0
FillRow c told words addr RestsFilling = ⊥
FillRow c told words addr (StoresValue at its) = (at ≡ addr) × (its ≡ words)
FillRow c told words addr (StoresKey at its) = (at ≡ addr) × (its ≡ words) × IsStored told (record_place c.places addr.0 rec.Value) words.value
FillRow c told words addr (StoresHeader at its) = (at ≡ addr) × (its ≡ words) × IsStored told (record_place c.places addr.0 rec.Value) words.value × IsStored told (record_place c.places addr.0 rec.Key) words.key.0

pub record IsFilled (c : Trial) (told : Told) (words : RecordWords) (addr : Addr) : Type 0 where
  pub its_value : IsStored told (record_place c.places addr.0 rec.Value) words.value
  pub its_key : IsStored told (record_place c.places addr.0 rec.Key) words.key.0
  pub its_header : IsStored told (record_place c.places addr.0 rec.Header) (header_word words.header)

-- the step before this end
abbrev pub is_publishing : Appending → Bool
is_publishing (Publishes addr) = true
is_publishing step = false

abbrev pub AppendEnd : Trial → Told → Appending → AppendAnswer → Type 0
AppendEnd c told last append.Published = is_publishing last ≡ true
AppendEnd c told last append.Full = HasNoRoom told c.room ⊎ IsPastTail c told
AppendEnd c told last append.NoRoom = ((tail : ℕ) × HasNoRoom told tail × (tail ≢ c.room)) ⊎ IsPastTail c told
AppendEnd c told last append.Contended = IsContended c told

-- the slot and the record are the request's
abbrev pub IsMadeFor : Trial → FoundSlot → RecordWords → Type 0
IsMadeFor c slot words = (slot.tag ≡ (home_at c).tag) × (words.header.version.0 ≡ mark c.request.version.0)

-- the Cas of the entry was lost, and the record is to be invalidated
pub record LosesSlot (c : Trial) (told : Told) (slot : FoundSlot) (words : RecordWords) (a : AppendState) : Type 0 where
  pub addr : Addr
  pub reserved : IsReserved c told slot addr
  pub lost : IsLost told slot.place slot.entry (new_entry addr.0 slot.tag)
  pub its_step : a.invalidating ≡ invalidate.StoresHeader addr words.header

abbrev pub AppendRow : Trial → Told → FoundSlot → RecordWords → Appending → AppendState → Appending → Type 0
AppendRow c told slot words last a (Ended its) = AppendEnd c told last its
AppendRow c told slot words last a Reserves = ReserveRow c told a.reserving
AppendRow c told slot words last a (Fills addr) = IsReserved c told slot addr × FillRow c told words addr a.filling
AppendRow c told slot words last a (Publishes addr) = IsReserved c told slot addr × IsFilled c told words addr × (a.publishing ≡ SwapsEntry slot.place slot.entry (new_entry addr.0 slot.tag))
AppendRow c told slot words last a Invalidates = LosesSlot c told slot words a

pub record AppendKnows (c : Trial) (told : Told) (slot : FoundSlot) (words : RecordWords) (last : Appending) (a : AppendState) : Type 0 where
  pub its_slot : a.slot ≡ slot
  pub its_words : a.its_words ≡ words
  pub has_slot : HasEntry c told slot.place slot.entry
  pub previous : words.header.previous.0 ≡ entry_addr slot.entry
  pub made_for : IsMadeFor c slot words
  pub its_row : AppendRow c told slot words last a a.step

-- an append without its step
record Works (c : Trial) (told : Told) (slot : FoundSlot) (words : RecordWords) (a : AppendState) : Type 0 where
  its_slot : a.slot ≡ slot
  its_words : a.its_words ≡ words
  has_slot : HasEntry c told slot.place slot.entry
  previous : words.header.previous.0 ≡ entry_addr slot.entry
  made_for : IsMadeFor c slot words

with_row : (c : Trial) (told : Told) (slot : FoundSlot) (words : RecordWords) (last : Appending) (a : AppendState) → Works c told slot words a → AppendRow c told slot words last a a.step → AppendKnows c told slot words last a
with_row c told slot words last a works row = record { its_slot = works.its_slot; its_words = works.its_words; has_slot = works.has_slot; previous = works.previous; made_for = works.made_for; its_row = row }

works_on : (c : Trial) (told : Told) (slot : FoundSlot) (words : RecordWords) (a b : AppendState) → Works c told slot words a → b.slot ≡ a.slot → b.its_words ≡ a.its_words → Works c told slot words b
works_on c told slot words a b works s t = record { its_slot = s ∙ works.its_slot; its_words = t ∙ works.its_words; has_slot = works.has_slot; previous = works.previous; made_for = works.made_for }

reserved_true : (c : Trial) (told : Told) (slot : FoundSlot) (words : RecordWords) (last : Appending) (a : AppendState) (addr : Addr) → Works c told slot words a → Won told (shared_place one.Tail) addr.0 (addr.0 + 1)
    → AppendKnows c told slot words last (addr_reserved a addr)
reserved_true c told slot words last a addr works won = by_range (nat_lt a.its_words.header.previous.0 addr.0) (nat_lt addr.0 (2 ^ 48)) refl refl
  where
    before : a.its_words.header.previous.0 ≡ entry_addr slot.entry
    before = ap (λ w. w.header.previous.0) works.its_words ∙ works.previous

    lost : (entry_addr slot.entry < addr.0 → 2 ^ 48 ≤ addr.0) → IsContended c told
    lost high = NoStore (NoAddress works.has_slot won (by_test (nat_lt (entry_addr slot.entry) addr.0) refl))
      where
        by_test : (b : Bool) → nat_lt (entry_addr slot.entry) addr.0 ≡ b → (addr.0 ≤ entry_addr slot.entry) ⊎ (2 ^ 48 ≤ addr.0)
        by_test true e = inr (high (lt_true (entry_addr slot.entry) addr.0 e))
        by_test false e = inl (lt_false (entry_addr slot.entry) addr.0 e)

    by_range : (b d : Bool) → nat_lt a.its_words.header.previous.0 addr.0 ≡ b → nat_lt addr.0 (2 ^ 48) ≡ d
        → AppendKnows c told slot words last (if b && d then record a { filling = fill_begun addr a.its_words; step = Fills addr } else record a { step = Ended append.Contended })
    by_range true true e f =
        let low = lt_true a.its_words.header.previous.0 addr.0 e in
        record { its_slot = works.its_slot; its_words = works.its_words; has_slot = works.has_slot; previous = works.previous; made_for = works.made_for; its_row = (record { its_cas = won; above = omega (arith, before, low); fits = lt_true addr.0 (2 ^ 48) f }, (refl, works.its_words)) }
    by_range true false e f = record { its_slot = works.its_slot; its_words = works.its_words; has_slot = works.has_slot; previous = works.previous; made_for = works.made_for; its_row = lost (λ low. lt_false addr.0 (2 ^ 48) f) }
    by_range false d e f =
        let high = lt_false a.its_words.header.previous.0 addr.0 e in
        record { its_slot = works.its_slot; its_words = works.its_words; has_slot = works.has_slot; previous = works.previous; made_for = works.made_for; its_row = lost (λ low. absurd (omega (arith, before, low, high))) }

-- a tail that isn't below that limit: no limit was above it, or it isn't below the bound
no_room : (c : Trial) (told : Told) (limit tail : ℕ) → HasLimit c told limit → Loaded told (shared_place one.Tail) tail → limit ≤ tail → HasNoRoom told tail ⊎ IsPastTail c told
no_room c told limit tail has was high = by_bounds (bounds_at c.occasion) refl (subst (λ l. l ≤ tail) has.its high)
  where
    by_test : (bounds : Bounds) → bounds_at c.occasion ≡ Some bounds → (b : Bool) → (if b then bounds.tail else has.word) ≤ tail → HasNoRoom told tail ⊎ IsPastTail c told
    by_test bounds e true low = inr (record { update = has.update; bounds = bounds; has = e; tail = tail; its_tail = was; past = low })
    by_test bounds e false low = inl (record { limit = has.word; its_limit = has.its_word; its_tail = was; high = low })

    by_bounds : (its : Option Bounds) → bounds_at c.occasion ≡ its → limit_within (tail_bound its) has.word ≤ tail → HasNoRoom told tail ⊎ IsPastTail c told
    by_bounds None e low = inl (record { limit = has.word; its_limit = has.its_word; its_tail = was; high = low })
    by_bounds (Some bounds) e low = by_test bounds e (nat_lt bounds.tail has.word) low

reserve_true : (c : Trial) (told : Told) (slot : FoundSlot) (words : RecordWords) (last : Appending) (a : AppendState) (reserving : Reserving) (reply : ℕ) → Works c told slot words a → a.step ≡ Reserves → a.reserving ≡ reserve_next reserving reply
    → ReserveRow c told reserving → told (passed (passed (reserve_ask reserving) append.Contended) answer.Shift) reply → AppendKnows c told slot words last (reserve_ledto a (reserve_next_ask c.room reserving reply))
unfolding reserve_ledto reserve_ask reserve_next reserve_next_ask passed
reserve_true c told slot words last a RestsReserving reply works at next row was = absurd row
reserve_true c told slot words last a (LoadsLimit bound) reply works at next row was =
    with_row c told slot words last a works (subst (AppendRow c told slot words last a) (sym at) (subst (ReserveRow c told) (sym next) (record { update = row.0; word = reply; its_word = was; its = ap (λ b. limit_within b reply) row.1 })))
reserve_true c told slot words last a (LoadsTail limit) reply works at next row was = by_limit (nat_lt reply limit) refl
  where
    at_end : reply ≡ c.room → HasNoRoom told reply ⊎ IsPastTail c told → HasNoRoom told c.room ⊎ IsPastTail c told
    at_end same (inl none) = inl (subst (HasNoRoom told) same none)
    at_end same (inr past) = inr past

    open_yet : reply ≢ c.room → HasNoRoom told reply ⊎ IsPastTail c told → ((tail : ℕ) × HasNoRoom told tail × (tail ≢ c.room)) ⊎ IsPastTail c told
    open_yet other (inl none) = inl (reply, none, other)
    open_yet other (inr past) = inr past

    by_room : (b : Bool) → (reply == c.room) ≡ b → limit ≤ reply → AppendKnows c told slot words last (reserve_ledto a (Done (if b then reserve.Full else reserve.NoRoom)))
    by_room true e high = record { its_slot = works.its_slot; its_words = works.its_words; has_slot = works.has_slot; previous = works.previous; made_for = works.made_for; its_row = at_end (eq_true reply c.room e) (no_room c told limit reply row was high) }
    by_room false e high = record { its_slot = works.its_slot; its_words = works.its_words; has_slot = works.has_slot; previous = works.previous; made_for = works.made_for; its_row = open_yet (eq_false reply c.room e) (no_room c told limit reply row was high) }

    on : a.reserving ≡ TakesTail reply → AppendKnows c told slot words last a
    on its = with_row c told slot words last a works (subst (AppendRow c told slot words last a) (sym at) (subst (ReserveRow c told) (sym its) was))

    by_limit : (b : Bool) → nat_lt reply limit ≡ b → AppendKnows c told slot words last (reserve_ledto a (if b then reserve_ask (TakesTail reply) else Done (no_room_at c.room reply)))
    by_limit true e = on (next ∙ rw e refl)
    by_limit false e = by_room (reply == c.room) refl (lt_false reply limit e)
reserve_true c told slot words last a (TakesTail tail) reply works at next row was = by_tail (reply == tail) refl
  where
    by_tail : (b : Bool) → (reply == tail) ≡ b → AppendKnows c told slot words last (reserve_ledto a (Done (if b then reserve.Reserved (record { 0 = tail }) else reserve.Contended)))
    by_tail true e = reserved_true c told slot words last a (record { 0 = tail }) works (subst (told (Cas (shared_place one.Tail) tail (tail + 1))) (eq_true reply tail e) was)
    by_tail false e = record {
      its_slot = works.its_slot;
      its_words = works.its_words;
      has_slot = works.has_slot;
      previous = works.previous;
      made_for = works.made_for;
      its_row = TailLost tail row (record { found = reply; its_cas = was; another = eq_false reply tail e });
    }

stored : (told : Told) (place word reply : ℕ) → told (Store place word) reply → IsStored told place word
stored told place word reply was = record { reply = reply; its_store = was }

fill_true : (c : Trial) (told : Told) (slot : FoundSlot) (words : RecordWords) (last : Appending) (a : AppendState) (addr : Addr) (filling : Filling) (reply : ℕ) → Works c told slot words a → a.step ≡ Fills addr → a.filling ≡ fill_next filling
    → IsReserved c told slot addr → FillRow c told words addr filling → told (passed (passed (fill_ask c.places filling) append.Contended) answer.Shift) reply
    → AppendKnows c told slot words last (fill_ledto a addr (fill_ask c.places (fill_next filling)))
unfolding fill_ledto fill_ask fill_next passed
fill_true c told slot words last a addr RestsFilling reply works at next reserved row was = absurd row
fill_true c told slot words last a addr (StoresValue it its) reply works at next reserved row was =
    with_row c told slot words last a works (subst (AppendRow c told slot words last a) (sym at) (reserved, subst (FillRow c told words addr) (sym next) (row.0, row.1, has)))
  where
    has : IsStored told (record_place c.places addr.0 rec.Value) words.value
    has = subst (λ x. IsStored told (record_place c.places x.0 rec.Value) words.value) row.0 (subst (λ x. IsStored told (record_place c.places it.0 rec.Value) x.value) row.1 (stored told (record_place c.places it.0 rec.Value) its.value reply was))
fill_true c told slot words last a addr (StoresKey it its) reply works at next reserved row was =
    with_row c told slot words last a works (subst (AppendRow c told slot words last a) (sym at) (reserved, subst (FillRow c told words addr) (sym next) (row.0, row.1, row.2, has)))
  where
    has : IsStored told (record_place c.places addr.0 rec.Key) words.key.0
    has = subst (λ x. IsStored told (record_place c.places x.0 rec.Key) words.key.0) row.0 (subst (λ x. IsStored told (record_place c.places it.0 rec.Key) x.key.0) row.1 (stored told (record_place c.places it.0 rec.Key) its.key.0 reply was))
fill_true c told slot words last a addr (StoresHeader it its) reply works at next reserved row was = record {
  its_slot = works.its_slot;
  its_words = works.its_words;
  has_slot = works.has_slot;
  previous = works.previous;
  made_for = works.made_for;
  its_row = (reserved, record { its_value = row.2; its_key = row.3; its_header = has }, ap (λ s. SwapsEntry s.place s.entry (new_entry addr.0 s.tag)) works.its_slot);
}
  where
    has : IsStored told (record_place c.places addr.0 rec.Header) (header_word words.header)
    has = subst (λ x. IsStored told (record_place c.places x.0 rec.Header) (header_word words.header)) row.0
        (subst (λ x. IsStored told (record_place c.places it.0 rec.Header) (header_word x.header)) row.1 (stored told (record_place c.places it.0 rec.Header) (header_word its.header) reply was))

publish_true : (c : Trial) (told : Told) (slot : FoundSlot) (words : RecordWords) (a : AppendState) (addr : Addr) (reply : ℕ) → Works c told slot words a → IsReserved c told slot addr → told (Cas slot.place slot.entry (new_entry addr.0 slot.tag)) reply
    → AppendKnows c told slot words (Publishes addr) (publish_ledto a addr (publish_next_ask (SwapsEntry slot.place slot.entry (new_entry addr.0 slot.tag)) reply))
unfolding publish_ledto publish_next_ask
publish_true c told slot words a addr reply works reserved was = by_word (reply == slot.entry) refl
  where
    by_word : (b : Bool) → (reply == slot.entry) ≡ b → AppendKnows c told slot words (Publishes addr) (publish_ledto a addr (Done (if b then publish.Won else publish.Lost)))
    by_word true e = record { its_slot = works.its_slot; its_words = works.its_words; has_slot = works.has_slot; previous = works.previous; made_for = works.made_for; its_row = refl }
    by_word false e = record {
      its_slot = works.its_slot;
      its_words = works.its_words;
      has_slot = works.has_slot;
      previous = works.previous;
      made_for = works.made_for;
      its_row = record { addr = addr; reserved = reserved; lost = record { found = reply; its_cas = was; another = eq_false reply slot.entry e }; its_step = ap (λ w. invalidate.StoresHeader addr w.header) works.its_words };
    }

-- the word of an invalid header
pub invalid_word : (previous version previous' version' : ℕ) → previous ≡ previous' → version ≡ version' → previous + version * 2 ^ 48 + bit_of true * 2 ^ 62 ≡ previous' + version' * 2 ^ 48 + 2 ^ 62
invalid_word previous version previous' version' e f = omega (arith, e, f)

invalidated_true : (c : Trial) (told : Told) (slot : FoundSlot) (words : RecordWords) (a : AppendState) (addr : Addr) → Works c told slot words a → IsReserved c told slot addr → IsLost told slot.place slot.entry (new_entry addr.0 slot.tag)
    → IsStored told (record_place c.places addr.0 rec.Header) (header_word (invalidated words.header))
    → AppendKnows c told slot words Invalidates (invalidate_ledto (record a { invalidating = invalidate_next (invalidate.StoresHeader addr words.header) }) (invalidate_ask c.places (invalidate_next (invalidate.StoresHeader addr words.header))))
unfolding invalidate_ledto invalidate_ask invalidate_next
invalidated_true c told slot words a addr works reserved lost its_header = record {
  its_slot = works.its_slot;
  its_words = works.its_words;
  has_slot = works.has_slot;
  previous = works.previous;
  made_for = works.made_for;
  its_row = EntryLost (record {
    place = slot.place;
    entry = slot.entry;
    addr = addr.0;
    slot = works.has_slot;
    reserved = reserved.its_cas;
    its_cas = subst (λ tag. IsLost told slot.place slot.entry (new_entry addr.0 tag)) works.made_for.0 lost;
    its_header = subst (IsStored told (record_place c.places addr.0 rec.Header)) (invalid_word words.header.previous.0 words.header.version.0 (entry_addr slot.entry) (mark c.request.version.0) works.previous works.made_for.1) its_header;
  });
}

its_cas : (told : Told) (place entry new reply : ℕ) → told (passed (passed (publish_ask (SwapsEntry place entry new)) append.Contended) answer.Shift) reply → told (Cas place entry new) reply
unfolding publish_ask passed
its_cas told place entry new reply was = was

its_store : (told : Told) (p : Places) (addr : Addr) (header : Header) (reply : ℕ) → told (passed (passed (invalidate_ask p (invalidate.StoresHeader addr header)) append.Contended) answer.Shift) reply
    → IsStored told (record_place p addr.0 rec.Header) (header_word (invalidated header))
unfolding invalidate_ask passed
its_store told p addr header reply was = stored told (record_place p addr.0 rec.Header) (header_word (invalidated header)) reply was

swap_asks : (place entry new : ℕ) → is_done (publish_ask (SwapsEntry place entry new)) ≡ false
unfolding publish_ask
swap_asks place entry new = refl

header_asks : (p : Places) (addr : Addr) (header : Header) → is_done (invalidate_ask p (invalidate.StoresHeader addr header)) ≡ false
unfolding invalidate_ask
header_asks p addr header = refl

append_row_true : (c : Trial) (told : Told) (slot : FoundSlot) (words : RecordWords) (last : Appending) (a : AppendState) (step : Appending) (reply : ℕ) → a.step ≡ step → Works c told slot words a → AppendRow c told slot words last a step
    → is_done (appending_ask c.places a step) ≡ false → told (passed (appending_ask c.places a step) answer.Shift) reply → AppendKnows c told slot words step (appending_next c.places c.room a step reply)
unfolding appending_ask appending_next
append_row_true c told slot words last a (Ended its) reply at works row asks was = cc
append_row_true c told slot words last a Reserves reply at works row asks was =
    reserve_true c told slot words Reserves (record a { reserving = reserve_next a.reserving reply }) a.reserving reply (record { its_slot = works.its_slot; its_words = works.its_words; has_slot = works.has_slot; previous = works.previous; made_for = works.made_for }) at refl row was
append_row_true c told slot words last a (Fills addr) reply at works row asks was =
    fill_true c told slot words (Fills addr) (record a { filling = fill_next a.filling }) addr a.filling reply (record { its_slot = works.its_slot; its_words = works.its_words; has_slot = works.has_slot; previous = works.previous; made_for = works.made_for }) at refl row.0 row.1 was
append_row_true c told slot words last a (Publishes addr) reply at works row asks was =
    subst (λ x. AppendKnows c told slot words (Publishes addr) (publish_ledto (record a { publishing = publish_next a.publishing reply }) addr (publish_next_ask x reply))) (sym row.2)
    (publish_true c told slot words (record a { publishing = publish_next a.publishing reply }) addr reply (record { its_slot = works.its_slot; its_words = works.its_words; has_slot = works.has_slot; previous = works.previous; made_for = works.made_for }) row.0
    (its_cas told slot.place slot.entry (new_entry addr.0 slot.tag) reply (subst (λ x. told (passed (passed (publish_ask x) append.Contended) answer.Shift) reply) row.2 was)))
append_row_true c told slot words last a Invalidates reply at works row asks was =
    subst (λ x. AppendKnows c told slot words Invalidates (invalidate_ledto (record a { invalidating = invalidate_next x }) (invalidate_ask c.places (invalidate_next x)))) (sym row.its_step)
    (invalidated_true c told slot words a row.addr works row.reserved row.lost (its_store told c.places row.addr words.header reply (subst (λ x. told (passed (passed (invalidate_ask c.places x) append.Contended) answer.Shift) reply) row.its_step was)))

-- a reply leads on
pub append_true : (c : Trial) (told : Told) (slot : FoundSlot) (words : RecordWords) (last : Appending) (a : AppendState) (reply : ℕ) → AppendKnows c told slot words last a → is_done (append_ask c.places a) ≡ false
    → told (passed (append_ask c.places a) answer.Shift) reply → AppendKnows c told slot words a.step (append_next c.places c.room a reply)
append_true c told slot words last a reply knows asks was =
    append_row_true c told slot words last a a.step reply refl (record { its_slot = knows.its_slot; its_words = knows.its_words; has_slot = knows.has_slot; previous = knows.previous; made_for = knows.made_for }) knows.its_row asks was

-- as it begins, it asks
pub append_begun_true : (c : Trial) (told : Told) (last : Appending) (slot : FoundSlot) (words : RecordWords) → HasEntry c told slot.place slot.entry → words.header.previous.0 ≡ entry_addr slot.entry → IsMadeFor c slot words → is_read c.request.op ≡ false
    → AppendKnows c told slot words last (append_begun slot words (tail_bound (bounds_at c.occasion)))
append_begun_true c told last slot words has_slot previous made_for update = record { its_slot = refl; its_words = refl; has_slot = has_slot; previous = previous; made_for = made_for; its_row = (update, refl) }

pub append_begun_asks : (p : Places) (slot : FoundSlot) (words : RecordWords) (bound : Option ℕ) → is_done (append_ask p (append_begun slot words bound)) ≡ false
unfolding appending_ask reserve_ask passed
append_begun_asks p slot words bound = refl

not_passed : {A B : Type 0} (ask : Ask A) (a b : B) → is_done ask ≡ false → passed ask a ≡ Done b → ⊥
unfolding passed
not_passed (Done its) a b e f = cc
not_passed ask a b e f = cc

reserve_row_asks : (c : Trial) (told : Told) (reserving : Reserving) → ReserveRow c told reserving → is_done (reserve_ask reserving) ≡ false
unfolding reserve_ask
reserve_row_asks c told RestsReserving row = absurd row
reserve_row_asks c told reserving row = refl

fill_row_asks : (c : Trial) (told : Told) (words : RecordWords) (addr : Addr) (filling : Filling) → FillRow c told words addr filling → is_done (fill_ask c.places filling) ≡ false
unfolding fill_ask
fill_row_asks c told words addr RestsFilling row = absurd row
fill_row_asks c told words addr filling row = refl

the_answer : (a b : AppendAnswer) → Done a ≡ Done b → a ≡ b
the_answer a b e = cc

append_row_answers : (c : Trial) (told : Told) (slot : FoundSlot) (words : RecordWords) (last : Appending) (a : AppendState) (step : Appending) (its : AppendAnswer) → AppendRow c told slot words last a step → appending_ask c.places a step ≡ Done its → AppendEnd c told last its
unfolding appending_ask
append_row_answers c told slot words last a (Ended it) its row e = subst (AppendEnd c told last) (the_answer it its e) row
append_row_answers c told slot words last a Reserves its row e = absurd (not_passed (reserve_ask a.reserving) append.Contended its (reserve_row_asks c told a.reserving row) e)
append_row_answers c told slot words last a (Fills addr) its row e = absurd (not_passed (fill_ask c.places a.filling) append.Contended its (fill_row_asks c told words addr a.filling row.1) e)
append_row_answers c told slot words last a (Publishes addr) its row e = absurd (not_passed (publish_ask a.publishing) append.Contended its (subst (λ x. is_done (publish_ask x) ≡ false) (sym row.2) (swap_asks slot.place slot.entry (new_entry addr.0 slot.tag))) e)
append_row_answers c told slot words last a Invalidates its row e = absurd (not_passed (invalidate_ask c.places a.invalidating) append.Contended its (subst (λ x. is_done (invalidate_ask c.places x) ≡ false) (sym row.its_step) (header_asks c.places row.addr words.header)) e)

-- what it has come to
pub append_answers : (c : Trial) (told : Told) (slot : FoundSlot) (words : RecordWords) (last : Appending) (a : AppendState) (its : AppendAnswer) → AppendKnows c told slot words last a → append_ask c.places a ≡ Done its → AppendEnd c told last its
append_answers c told slot words last a its knows e = append_row_answers c told slot words last a a.step its knows.its_row e
