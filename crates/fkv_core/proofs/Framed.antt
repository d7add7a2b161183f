-- A record that memory has lies in its frame.
use Rattle.std.proofs.Common.{◌≡◌, ◌∙◌, sym, ap, ℕ, ◌+◌, ◌-◌, ◌*◌, ◌%◌, ◌^◌, ◌<◌, ◌≤◌, List, length, arith}
use Rattle.std.specs.Prelude.{replicate}
use Rattle.std.proofs.lemmas.List.{get_or-append-add, length-replicate}
use Rattle.fkv_keeper.specs.NewKeepers.{ArePlacesOfStore}
use Rattle.fkv_opening.specs.Warm.{warm_word}
use Rattle.fkv_opening.specs.declared.opened_store.Opened.{Opened}
use Rattle.fkv_plane.specs.Asked.{word_at}
use Rattle.fkv_plane.specs.Places.{frames_start, record_number, record_place}
use Rattle.fkv_plane.specs.declared.places.Places.{Places}
use Rattle.fkv_plane.specs.declared.places.RecordWord.{RecordWord}
use Rattle.fkv_core.specs.OpeningWords.{AreWordsOfOpened, frames_of, ring_words, warm_place, words_before_frames}
use Rattle.fkv_core.proofs.Lengths.{length-before}
use Rattle.fkv_core.proofs.Round.{laid_there, wraps}

pub framed : (o : Opened) (p : Places) (all : List ℕ) (a k : ℕ) (part : RecordWord) → AreWordsOfOpened o all → ArePlacesOfStore o.shape p → o.warm.0 ≤ a → a < o.tail.0 → record_number part ≡ k → k < 3
    → o.tail.0 ≤ o.warm.0 + o.shape.frames * o.shape.page → word_at all (record_place p a part) ≡ warm_word o a k
framed o p all a k part are store above below is small room =
    let ring : ℕ = o.shape.frames * o.shape.page in
    let its_ring : p.ring ≡ ring = store.ring in
    let some_ring = p.some_ring in
    let front : List ℕ = words_before_frames o are.index are.taken in
    let many : length front ≡ 24 + 16 * o.shape.sessions + 8 * 2 ^ o.shape.bucket_bits + 8 * o.shape.overflow = length-before o are.index are.taken are.filled in
    let sessions = store.sessions in
    let buckets = store.buckets in
    let overflow = store.overflow in
    let start : frames_start p ≡ length front = omega (arith, many, sessions, buckets, overflow) in
    let in_ring : 3 * (a % p.ring) ≡ 3 * (a % ring) = ap (λ (r : ℕ). 3 * (a % r)) its_ring in
    let place : record_place p a part ≡ length front + (3 * (a % ring) + k) = omega (arith, start, in_ring, is) in
    let index : ℕ = 3 * (a - o.warm.0) + k in
    let three = o.three_words in
    let there : (warm_place o + index) % ring_words o ≡ 3 * (a % ring) + k = wraps ring o.warm.0 a k (omega (arith, some_ring, its_ring)) above small in
    let none : List ℕ = replicate (ring_words o) 0 in
    let laid : length none ≡ ring_words o = length-replicate {A = ℕ} (ring_words o) 0 in
    ap (word_at all) place
    ∙ (ap (λ (words : List ℕ). word_at words (length front + (3 * (a % ring) + k))) are.whole
    ∙ (get_or-append-add front (frames_of o) (3 * (a % ring) + k) 0
    ∙ (ap (word_at (frames_of o)) (sym there)
    ∙ laid_there (ring_words o) (warm_place o) o.frames.items none index (length o.frames.items)
    (omega (arith, some_ring, its_ring)) (omega (arith, above, below, three, small)) (omega (arith, three, room)) (omega (arith, laid)))))
