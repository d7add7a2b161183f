-- Three stores at the three places of one record.
use Rattle.std.proofs.Common.{◌≡◌, refl, ◌≢◌, ℕ, ◌%◌, ◌<◌, ◌≤◌, ◌∙◌, List, length, arith}
use Rattle.std.specs.Prelude.{slice_set}
use Rattle.std.proofs.lemmas.List.{length-set, get_or-set_same, get_or-set_other}
use Rattle.std.proofs.lemmas.Nat.{mod_below}
use Rattle.fkv_base.specs.declared.numbers.Addr.{Addr}
use Rattle.fkv_words.specs.declared.headers.Header.{Header}
use Rattle.fkv_words.specs.Layout.{header_word}
use Rattle.fkv_plane.specs.declared.places.Places.{Places}
use Rattle.fkv_plane.specs.declared.places.RecordWord.{RecordWord}
use Rattle.fkv_plane.specs.declared.places.RecordWord.TheVariants as rec
use Rattle.fkv_plane.specs.Places.{record_place, record_number, word_count}
use Rattle.fkv_plane.specs.Asked.{word_at}
use Rattle.fkv_log.specs.declared.record_words.RecordWords.{RecordWords}
use Rattle.fkv_log.specs.Filling.{fill_ask, fill_next}
use Rattle.fkv_log.specs.Invalidating.{invalidate_ask, invalidate_next, invalidated}
use Rattle.fkv_log.specs.Loading.{load_ask, load_next, load_next_ask, load_on, LoadsInOrder}
use Rattle.fkv_log.specs.Turning.{TurnsLastPage}
use Rattle.fkv_log.specs.Written.{HasWords, IsWritten, IsInvalidated, FillsInOrder}
use Rattle.fkv_log.proofs.Records.{three_words}

-- a record's words are among those that the store has
within : (places : Places) (addr : ℕ) (word : RecordWord) → record_place places addr word < word_count places
within places addr word =
    let place : addr % places.ring < places.ring = mod_below addr places.ring places.some_ring in
    let number = three_words word in
    omega (arith, place, number)

-- no two of them stand at one place
words_apart : (places : Places) (addr : ℕ) (v w : RecordWord) → record_number v ≢ record_number w → record_place places addr v ≢ record_place places addr w
words_apart places addr v w h = λ e. h (omega (arith, e))

-- three writes at places that differ
pub three_writes : (words : List ℕ) (first second third x y z : ℕ) → first < length words → second < length words → third < length words → first ≢ second → first ≢ third → second ≢ third
    → (word_at (slice_set (slice_set (slice_set words first x) second y) third z) first ≡ x)
    × (word_at (slice_set (slice_set (slice_set words first x) second y) third z) second ≡ y)
    × (word_at (slice_set (slice_set (slice_set words first x) second y) third z) third ≡ z)
three_writes words first second third x y z a b c fs ft st =
    let one : List ℕ = slice_set words first x in
    let two : List ℕ = slice_set one second y in
    let same_one : length one ≡ length words = length-set words first x in
    let same_two : length two ≡ length one = length-set one second y in (
      get_or-set_other two third first z 0 ft ∙ get_or-set_other one second first y 0 fs ∙ get_or-set_same words first x 0 a,
      get_or-set_other two third second z 0 st ∙ get_or-set_same one second y 0 (omega (arith, same_one, b)),
      get_or-set_same two third z 0 (omega (arith, same_one, same_two, c)),
    )

pub written : (places : Places) (words : List ℕ) (addr : Addr) (its_words : RecordWords) → word_count places ≤ length words → IsWritten places words addr its_words
unfolding fill_ask fill_next
written places words addr its_words enough =
    let value : ℕ = record_place places addr.0 rec.Value in
    let key : ℕ = record_place places addr.0 rec.Key in
    let header : ℕ = record_place places addr.0 rec.Header in
    let one : List ℕ = slice_set words value its_words.value in
    let two : List ℕ = slice_set one key its_words.key.0 in
    let v = within places addr.0 rec.Value in
    let k = within places addr.0 rec.Key in
    let h = within places addr.0 rec.Header in
    let all = three_writes words value key header its_words.value its_words.key.0 (header_word its_words.header) (omega (arith, v, enough)) (omega (arith, k, enough)) (omega (arith, h, enough))
    (words_apart places addr.0 rec.Value rec.Key (omega arith)) (words_apart places addr.0 rec.Value rec.Header (omega arith)) (words_apart places addr.0 rec.Key rec.Header (omega arith)) in
    record {
      asks = 3;
      rests = refl;
      has = record { its_header = all.2; its_key = all.1; its_value = all.0 };
      spares = λ place apart.
          get_or-set_other two header place (header_word its_words.header) 0 (apart rec.Header)
          ∙ get_or-set_other one key place its_words.key.0 0 (apart rec.Key)
          ∙ get_or-set_other words value place its_words.value 0 (apart rec.Value);
    }

pub dropped_record : (places : Places) (words : List ℕ) (addr : Addr) (header : Header) (word key value : ℕ) → word_count places ≤ length words → HasWords places words addr.0 word key value
    → IsInvalidated places words addr header key value
unfolding invalidate_ask invalidate_next
dropped_record places words addr header word key value enough its =
    let place : ℕ = record_place places addr.0 rec.Header in
    let new : ℕ = header_word (invalidated header) in
    let h = within places addr.0 rec.Header in
    record {
      asks = 1;
      rests = refl;
      has = record {
        its_header = get_or-set_same words place new 0 (omega (arith, h, enough));
        its_key = get_or-set_other words place (record_place places addr.0 rec.Key) new 0 (words_apart places addr.0 rec.Key rec.Header (omega arith)) ∙ its.its_key;
        its_value = get_or-set_other words place (record_place places addr.0 rec.Value) new 0 (words_apart places addr.0 rec.Value rec.Header (omega arith)) ∙ its.its_value;
      };
      spares = λ other apart. get_or-set_other words place other new 0 (apart rec.Header);
    }

-- the order of a fill
pub in_order : FillsInOrder
unfolding fill_ask fill_next
in_order places addr its_words = refl

-- the order of a load
pub loads_in_order : LoadsInOrder
unfolding load_ask load_next load_next_ask load_on
loads_in_order places addr header key value = record { first = refl; second = refl; met = refl; waits = refl; third = refl; whole = refl; rests = refl }

-- a turn by numbers
pub last_page : TurnsLastPage
last_page shape page frames pages = record { wanted = rw (page, pages) refl; no_more = rw (page, pages) refl; below_the_last = rw (page, pages) refl; its_frame = rw (page, frames) refl; limit = rw page refl }
