-- How a new record is appended and published.
use Rattle.std.proofs.Common.{◌≡◌, ℕ, ◌+◌, ◌*◌, ◌^◌, ◌<◌, refl, ap, ◌∙◌, arith, true, false, subst, sym}
use Rattle.std.specs.Prelude.{◌==◌, nat_lt, Option, None}
use Rattle.std.proofs.lemmas.Bool.Decides.{nat_tests}
use Rattle.fkv_map.specs.Keys.{key_of, value_applied, reply_from}
use Rattle.fkv_marks.specs.Marks.{mark}
use Rattle.fkv_words.specs.Layout.{header_word}
use Rattle.fkv_plane.specs.declared.asks.Ask.TheVariants.{Load, Store, Cas}
use Rattle.fkv_plane.specs.declared.places.RecordWord.TheVariants as rec
use Rattle.fkv_plane.specs.declared.places.SharedWord.TheVariants as one
use Rattle.fkv_plane.specs.Passing.{passed}
use Rattle.fkv_plane.specs.Places.{record_place, shared_place}
use Rattle.fkv_log.specs.declared.filling.Filling.{Filling}
use Rattle.fkv_log.specs.declared.filling.Filling.TheVariants as fill
use Rattle.fkv_log.specs.declared.reserving.Reserving.{Reserving}
use Rattle.fkv_log.specs.declared.reserving.Reserving.TheVariants as reserve
use Rattle.fkv_log.specs.Filling.{fill_ask, fill_next}
use Rattle.fkv_log.specs.Reserving.{reserve_ask, reserve_next, reserve_next_ask, limit_within}
use Rattle.fkv_index.specs.declared.publishing.Publishing.TheVariants as publish
use Rattle.fkv_index.specs.IndexWorld.{new_entry}
use Rattle.fkv_index.specs.Publishing.{publish_ask, publish_next, publish_next_ask}
use Rattle.fkv_index.specs.Slots.{entry_addr}
use Rattle.fkv_ops.specs.declared.answers.Reason.TheVariants as reason
use Rattle.fkv_ops.specs.declared.answers.TryAnswer.TheVariants as tried
use Rattle.fkv_ops.specs.declared.appending.Appending.TheVariants.{Reserves, Fills, Publishes}
use Rattle.fkv_ops.specs.declared.trying.Trying.TheVariants.{Appends, Ended}
use Rattle.fkv_ops.specs.Requests.{is_read}
use Rattle.fkv_ops.specs.Values.{word_of}
use Rattle.fkv_ops.specs.Appending.{appending_ask, appending_next, reserve_ledto, fill_ledto, publish_ledto}
use Rattle.fkv_ops.specs.Trying.{TryState, trying_ask, trying_next, append_ledto, words_of, header_of, ends, ends_so}
use Rattle.fkv_ops.specs.Walking.{WalkState}
use Rattle.fkv_session.specs.Sessions.{SessionState}
use Rattle.fkv_straight.specs.Course.{Course, IsSettled, home_in, request_in, shares}
use Rattle.fkv_straight.specs.Met.{trying, append_at, IsAtReserve, IsAtFill, IsReserved, IsAtPublish, limit_of}
use Rattle.fkv_straight.specs.Standing.{asked, leads, next_try, IsDone, IsWaiting}
use Rattle.fkv_straight.proofs.Moves.{asks_load, asks_store, asks_cas, led_on, steps, ends_done, ends_waiting}
use Rattle.fkv_straight.proofs.Tests.{differs, same}
use Rattle.fkv_ops.specs.Bounds.{bounds_at, tail_bound}

-- ---- its address is reserved
abbrev pub reserving : Course → WalkState → ℕ → ℕ → Option ℕ → Reserving → TryState
reserving c w place entry old step = trying c w (append_at c place entry old step fill.AtRest publish.AtRest Reserves) (Appends (reply_from old c.op))

abbrev filling : Course → WalkState → ℕ → ℕ → Option ℕ → ℕ → Filling → TryState
filling c w place entry old addr step = trying c w (append_at c place entry old reserve.AtRest step publish.AtRest (Fills (record { 0 = addr }))) (Appends (reply_from old c.op))

abbrev publishing : Course → WalkState → ℕ → ℕ → Option ℕ → ℕ → TryState
publishing c w place entry old addr = trying c w (append_at c place entry old reserve.AtRest fill.AtRest (publish.SwapsEntry place entry (new_entry addr (home_in c).tag)) (Publishes (record { 0 = addr }))) (Appends (reply_from old c.op))

pub limit_asks : (c : Course) (place entry : ℕ) (old : Option ℕ) (s : SessionState) → IsAtReserve c place entry old (limit_of c) s → asked c.seat s ≡ Load (shared_place one.Limit)
unfolding IsAtReserve trying_ask appending_ask reserve_ask passed
limit_asks c place entry old s at = asks_load c (reserving c at.0 place entry old (limit_of c)) (shared_place one.Limit) s at.1 refl

has_limit : (c : Course) (w : WalkState) (place entry : ℕ) (old : Option ℕ) (found : ℕ)
    → next_try c (reserving c w place entry old (limit_of c)) found ≡ reserving c w place entry old (reserve.LoadsTail (limit_within (tail_bound (bounds_at c.occasion)) found))
unfolding trying_next append_ledto appending_ask appending_next reserve_ledto reserve_ask reserve_next reserve_next_ask passed
has_limit c w place entry old found = refl

limit_loaded : (c : Course) (place entry : ℕ) (old : Option ℕ) (found : ℕ) (s u : SessionState) → IsAtReserve c place entry old (limit_of c) s → u ≡ leads c.seat s found
    → IsAtReserve c place entry old (reserve.LoadsTail (limit_within (tail_bound (bounds_at c.occasion)) found)) u
unfolding IsAtReserve trying_ask appending_ask reserve_ask passed
limit_loaded c place entry old found s u at e =
    let after = reserving c at.0 place entry old (reserve.LoadsTail (limit_within (tail_bound (bounds_at c.occasion)) found)) in
    (at.0, steps c (reserving c at.0 place entry old (limit_of c)) after found s u at.1 e (has_limit c at.0 place entry old found) refl refl)

pub limit_comes : (c : Course) (place entry : ℕ) (old : Option ℕ) (found limit : ℕ) (s u : SessionState) → IsAtReserve c place entry old (limit_of c) s → u ≡ leads c.seat s found → limit ≡ limit_within (tail_bound (bounds_at c.occasion)) found
    → IsAtReserve c place entry old (reserve.LoadsTail limit) u
limit_comes c place entry old found limit s u at e its = subst (λ (n : ℕ). IsAtReserve c place entry old (reserve.LoadsTail n) u) (sym its) (limit_loaded c place entry old found s u at e)

pub tail_asks : (c : Course) (place entry : ℕ) (old : Option ℕ) (limit : ℕ) (s : SessionState) → IsAtReserve c place entry old (reserve.LoadsTail limit) s → asked c.seat s ≡ Load (shared_place one.Tail)
unfolding IsAtReserve trying_ask appending_ask reserve_ask passed
tail_asks c place entry old limit s at = asks_load c (reserving c at.0 place entry old (reserve.LoadsTail limit)) (shared_place one.Tail) s at.1 refl

has_tail : (c : Course) (w : WalkState) (place entry : ℕ) (old : Option ℕ) (limit tail : ℕ) → nat_lt tail limit ≡ true → next_try c (reserving c w place entry old (reserve.LoadsTail limit)) tail ≡ reserving c w place entry old (reserve.TakesTail tail)
unfolding trying_next append_ledto appending_ask appending_next reserve_ledto reserve_ask reserve_next reserve_next_ask passed
has_tail c w place entry old limit tail room = rw room refl

pub tail_comes : (c : Course) (place entry : ℕ) (old : Option ℕ) (limit tail : ℕ) (s u : SessionState) → IsAtReserve c place entry old (reserve.LoadsTail limit) s → u ≡ leads c.seat s tail → tail < limit → IsAtReserve c place entry old (reserve.TakesTail tail) u
unfolding IsAtReserve trying_ask appending_ask reserve_ask passed
tail_comes c place entry old limit tail s u at e room =
    (at.0, steps c (reserving c at.0 place entry old (reserve.LoadsTail limit)) (reserving c at.0 place entry old (reserve.TakesTail tail)) tail s u at.1 e (has_tail c at.0 place entry old limit tail (grind (arith, nat_tests))) refl refl)

pub take_asks : (c : Course) (place entry : ℕ) (old : Option ℕ) (tail : ℕ) (s : SessionState) → IsAtReserve c place entry old (reserve.TakesTail tail) s → asked c.seat s ≡ Cas (shared_place one.Tail) tail (tail + 1)
unfolding IsAtReserve trying_ask appending_ask reserve_ask passed
take_asks c place entry old tail s at = asks_cas c (reserving c at.0 place entry old (reserve.TakesTail tail)) (shared_place one.Tail) tail (tail + 1) s at.1 refl

has_taken : (c : Course) (w : WalkState) (place entry : ℕ) (old : Option ℕ) (tail : ℕ) → (tail == tail) ≡ true → nat_lt (entry_addr entry) tail ≡ true → nat_lt tail (2 ^ 48) ≡ true
    → next_try c (reserving c w place entry old (reserve.TakesTail tail)) tail ≡ filling c w place entry old tail (fill.StoresValue (record { 0 = tail }) (words_of (request_in c) entry old))
unfolding trying_next append_ledto appending_ask appending_next reserve_ledto reserve_ask reserve_next reserve_next_ask fill_ask passed
has_taken c w place entry old tail won above fits = rw (won, above, fits) refl

pub take_comes : (c : Course) (place entry : ℕ) (old : Option ℕ) (tail found : ℕ) (s u : SessionState) → IsAtReserve c place entry old (reserve.TakesTail tail) s → u ≡ leads c.seat s found → found ≡ tail → entry_addr entry < tail → tail < 2 ^ 48
    → IsReserved c place entry old tail u
unfolding IsAtReserve IsAtFill trying_ask appending_ask fill_ask passed
take_comes c place entry old tail found s u at e won above fits = (
  at.0,
  steps c (reserving c at.0 place entry old (reserve.TakesTail tail)) (filling c at.0 place entry old tail (fill.StoresValue (record { 0 = tail }) (words_of (request_in c) entry old))) tail s u at.1
      (e ∙ ap (λ (n : ℕ). leads c.seat s n) won) (has_taken c at.0 place entry old tail (same tail) (grind (arith, nat_tests)) (grind (arith, nat_tests))) refl refl,
)

-- another session was quicker
take_fails : (c : Course) (w : WalkState) (place entry : ℕ) (old : Option ℕ) (tail found : ℕ) → bounds_at c.occasion ≡ None → shares c ≡ false → (found == tail) ≡ false → (next_try c (reserving c w place entry old (reserve.TakesTail tail)) found).step ≡ Ended (tried.Wait reason.Contended)
unfolding trying_next append_ledto appending_ask appending_next reserve_ledto reserve_ask reserve_next reserve_next_ask ends ends_so passed
take_fails c w place entry old tail found none calm lost = rw (lost, none, calm) refl

take_leaves : (c : Course) (w : WalkState) (place entry : ℕ) (old : Option ℕ) (tail found : ℕ) → bounds_at c.occasion ≡ None → shares c ≡ false → (found == tail) ≡ false → (next_try c (reserving c w place entry old (reserve.TakesTail tail)) found).spare ≡ c.lasts.spare
unfolding trying_next append_ledto appending_ask appending_next reserve_ledto reserve_ask reserve_next reserve_next_ask ends ends_so passed
take_leaves c w place entry old tail found none calm lost = rw (lost, none, calm) refl

take_free : (c : Course) (w : WalkState) (place entry : ℕ) (old : Option ℕ) (tail found : ℕ) → bounds_at c.occasion ≡ None → shares c ≡ false → (found == tail) ≡ false → (next_try c (reserving c w place entry old (reserve.TakesTail tail)) found).has_shared ≡ false
unfolding trying_next append_ledto appending_ask appending_next reserve_ledto reserve_ask reserve_next reserve_next_ask ends ends_so passed
take_free c w place entry old tail found none calm lost = rw (lost, none, calm) refl

pub take_lost : (c : Course) (place entry : ℕ) (old : Option ℕ) (tail found : ℕ) (s u : SessionState) → IsSettled c → shares c ≡ false → is_read c.op ≡ false → IsAtReserve c place entry old (reserve.TakesTail tail) s → u ≡ leads c.seat s found → ¬ (found ≡ tail)
    → bounds_at c.occasion ≡ None → IsWaiting c u
unfolding IsAtReserve
take_lost c place entry old tail found s u settled calm updates at e lost none =
    let t = reserving c at.0 place entry old (reserve.TakesTail tail) in
    let no = differs found tail lost in
    ends_waiting c (next_try c t found) u settled (led_on c t found s u at.1 e) (take_fails c at.0 place entry old tail found none calm no) (take_leaves c at.0 place entry old tail found none calm no) (take_free c at.0 place entry old tail found none calm no) updates

-- ---- its words are stored
pub value_asks : (c : Course) (place entry : ℕ) (old : Option ℕ) (addr : ℕ) (s : SessionState) → IsReserved c place entry old addr s → asked c.seat s ≡ Store (record_place c.seat.places addr rec.Value) (word_of (value_applied old c.op))
unfolding IsAtFill trying_ask appending_ask fill_ask passed
value_asks c place entry old addr s at =
    asks_store c (filling c at.0 place entry old addr (fill.StoresValue (record { 0 = addr }) (words_of (request_in c) entry old))) (record_place c.seat.places addr rec.Value) (word_of (value_applied old c.op)) s at.1 refl

has_value : (c : Course) (w : WalkState) (place entry : ℕ) (old : Option ℕ) (addr found : ℕ)
    → next_try c (filling c w place entry old addr (fill.StoresValue (record { 0 = addr }) (words_of (request_in c) entry old))) found ≡ filling c w place entry old addr (fill.StoresKey (record { 0 = addr }) (words_of (request_in c) entry old))
unfolding trying_next append_ledto appending_ask appending_next fill_ledto fill_ask fill_next passed
has_value c w place entry old addr found = refl

pub value_comes : (c : Course) (place entry : ℕ) (old : Option ℕ) (addr found : ℕ) (s u : SessionState) → IsReserved c place entry old addr s → u ≡ leads c.seat s found → IsAtFill c place entry old addr (fill.StoresKey (record { 0 = addr }) (words_of (request_in c) entry old)) u
unfolding IsAtFill trying_ask appending_ask fill_ask passed
value_comes c place entry old addr found s u at e = (
  at.0,
  steps c (filling c at.0 place entry old addr (fill.StoresValue (record { 0 = addr }) (words_of (request_in c) entry old))) (filling c at.0 place entry old addr (fill.StoresKey (record { 0 = addr }) (words_of (request_in c) entry old))) found s u at.1 e
      (has_value c at.0 place entry old addr found) refl refl,
)

pub key_stores : (c : Course) (place entry : ℕ) (old : Option ℕ) (addr : ℕ) (s : SessionState) → IsAtFill c place entry old addr (fill.StoresKey (record { 0 = addr }) (words_of (request_in c) entry old)) s
    → asked c.seat s ≡ Store (record_place c.seat.places addr rec.Key) (key_of c.op).0
unfolding IsAtFill trying_ask appending_ask fill_ask passed
key_stores c place entry old addr s at =
    asks_store c (filling c at.0 place entry old addr (fill.StoresKey (record { 0 = addr }) (words_of (request_in c) entry old))) (record_place c.seat.places addr rec.Key) (key_of c.op).0 s at.1 refl

has_key : (c : Course) (w : WalkState) (place entry : ℕ) (old : Option ℕ) (addr found : ℕ)
    → next_try c (filling c w place entry old addr (fill.StoresKey (record { 0 = addr }) (words_of (request_in c) entry old))) found ≡ filling c w place entry old addr (fill.StoresHeader (record { 0 = addr }) (words_of (request_in c) entry old))
unfolding trying_next append_ledto appending_ask appending_next fill_ledto fill_ask fill_next passed
has_key c w place entry old addr found = refl

pub key_stored : (c : Course) (place entry : ℕ) (old : Option ℕ) (addr found : ℕ) (s u : SessionState) → IsAtFill c place entry old addr (fill.StoresKey (record { 0 = addr }) (words_of (request_in c) entry old)) s → u ≡ leads c.seat s found
    → IsAtFill c place entry old addr (fill.StoresHeader (record { 0 = addr }) (words_of (request_in c) entry old)) u
unfolding IsAtFill trying_ask appending_ask fill_ask passed
key_stored c place entry old addr found s u at e = (
  at.0,
  steps c (filling c at.0 place entry old addr (fill.StoresKey (record { 0 = addr }) (words_of (request_in c) entry old))) (filling c at.0 place entry old addr (fill.StoresHeader (record { 0 = addr }) (words_of (request_in c) entry old))) found s u at.1 e
      (has_key c at.0 place entry old addr found) refl refl,
)

pub header_stores : (c : Course) (place entry : ℕ) (old : Option ℕ) (addr : ℕ) (s : SessionState) → IsAtFill c place entry old addr (fill.StoresHeader (record { 0 = addr }) (words_of (request_in c) entry old)) s
    → asked c.seat s ≡ Store (record_place c.seat.places addr rec.Header) (header_word (header_of (request_in c) entry))
unfolding IsAtFill trying_ask appending_ask fill_ask passed
header_stores c place entry old addr s at =
    asks_store c (filling c at.0 place entry old addr (fill.StoresHeader (record { 0 = addr }) (words_of (request_in c) entry old))) (record_place c.seat.places addr rec.Header) (header_word (header_of (request_in c) entry)) s at.1 refl

pub header_is : (c : Course) (entry its_mark word : ℕ) → mark (request_in c).version.0 ≡ its_mark → word ≡ entry_addr entry + its_mark * 2 ^ 48 → header_word (header_of (request_in c) entry) ≡ word
header_is c entry its_mark word its e = omega (arith, its, e)

has_header : (c : Course) (w : WalkState) (place entry : ℕ) (old : Option ℕ) (addr found : ℕ)
    → next_try c (filling c w place entry old addr (fill.StoresHeader (record { 0 = addr }) (words_of (request_in c) entry old))) found ≡ publishing c w place entry old addr
unfolding trying_next append_ledto appending_ask appending_next fill_ledto fill_ask fill_next publish_ask passed
has_header c w place entry old addr found = refl

pub header_stored : (c : Course) (place entry : ℕ) (old : Option ℕ) (addr found : ℕ) (s u : SessionState) → IsAtFill c place entry old addr (fill.StoresHeader (record { 0 = addr }) (words_of (request_in c) entry old)) s → u ≡ leads c.seat s found
    → IsAtPublish c place entry old addr u
unfolding IsAtFill IsAtPublish trying_ask appending_ask publish_ask passed
header_stored c place entry old addr found s u at e =
    (at.0, steps c (filling c at.0 place entry old addr (fill.StoresHeader (record { 0 = addr }) (words_of (request_in c) entry old))) (publishing c at.0 place entry old addr) found s u at.1 e (has_header c at.0 place entry old addr found) refl refl)

-- ---- its entry is published
pub publish_asks : (c : Course) (place entry : ℕ) (old : Option ℕ) (addr : ℕ) (s : SessionState) → IsAtPublish c place entry old addr s → asked c.seat s ≡ Cas place entry (new_entry addr (home_in c).tag)
unfolding IsAtPublish trying_ask appending_ask publish_ask passed
publish_asks c place entry old addr s at = asks_cas c (publishing c at.0 place entry old addr) place entry (new_entry addr (home_in c).tag) s at.1 refl

published : (c : Course) (w : WalkState) (place entry : ℕ) (old : Option ℕ) (addr : ℕ) → shares c ≡ false → (entry == entry) ≡ true → (next_try c (publishing c w place entry old addr) entry).step ≡ Ended (tried.Done (reply_from old c.op))
unfolding trying_next append_ledto appending_ask appending_next publish_ledto publish_ask publish_next publish_next_ask ends ends_so passed
published c w place entry old addr calm won = rw (won, calm) refl

publish_spares : (c : Course) (w : WalkState) (place entry : ℕ) (old : Option ℕ) (addr : ℕ) → shares c ≡ false → (entry == entry) ≡ true → (next_try c (publishing c w place entry old addr) entry).spare ≡ c.lasts.spare
unfolding trying_next append_ledto appending_ask appending_next publish_ledto publish_ask publish_next publish_next_ask ends ends_so passed
publish_spares c w place entry old addr calm won = rw (won, calm) refl

pub publish_ends : (c : Course) (place entry : ℕ) (old : Option ℕ) (addr found : ℕ) (s u : SessionState) → IsSettled c → shares c ≡ false → IsAtPublish c place entry old addr s → is_read c.op ≡ false → found ≡ entry → u ≡ leads c.seat s found → IsDone c (reply_from old c.op) u
unfolding IsAtPublish
publish_ends c place entry old addr found s u settled calm at updates won e =
    ends_done c (next_try c (publishing c at.0 place entry old addr) entry) (reply_from old c.op) u settled (led_on c (publishing c at.0 place entry old addr) entry s u at.1 (e ∙ ap (λ (n : ℕ). leads c.seat s n) won))
    (published c at.0 place entry old addr calm (same entry)) (publish_spares c at.0 place entry old addr calm (same entry)) updates
