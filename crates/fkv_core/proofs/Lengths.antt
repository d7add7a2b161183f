-- How many words there are before the frames, and what stands behind them.
use Rattle.std.proofs.Common.{◌≡◌, ◌∙◌, sym, ap, ℕ, zero, suc, ◌+◌, ◌-◌, ◌*◌, ◌^◌, ◌%◌, List, [], ◌∷◌, ◌++◌, length, take, drop, arith, refl}
use Rattle.std.specs.Prelude.{replicate}
use Rattle.std.proofs.lemmas.List.{append-nil, append_assoc, length-append, length-take, length-replicate, length-set, drop-replicate}
use Rattle.fkv_keeper.specs.NewKeepers.{ArePlacesOfStore}
use Rattle.fkv_plane.specs.Places.{word_count}
use Rattle.fkv_plane.specs.declared.places.Places.{Places}
use Rattle.fkv_entries.specs.Room.{needed}
use Rattle.fkv_filling.specs.Filled.{IsFilled, eight_words, up_to, filled_by, link_words, first_link, other_links}
use Rattle.fkv_opening.specs.declared.opened_store.Opened.{Opened}
use Rattle.fkv_core.specs.OpeningWords.{AreWordsOfOpened, frames_of, laid_round, ring_words, warm_place, words_before_frames, words_of_session, words_of_sessions, words_once}
use Rattle.fkv_core.proofs.Written.{laid_behind}

-- one session more
pub sessions_start : (o : Opened) (words : List ℕ) → words ≡ words ++ words_of_sessions o 0
unfolding words_of_sessions
sessions_start o words = sym (append-nil words)

sessions_more : (o : Opened) (n : ℕ) → words_of_sessions o (suc n) ≡ words_of_sessions o n ++ words_of_session o n
unfolding words_of_sessions
sessions_more o n = refl

pub sessions_step : (o : Opened) (front words words' : List ℕ) (n : ℕ) → words ≡ front ++ words_of_sessions o n → words' ≡ words ++ words_of_session o n → words' ≡ front ++ words_of_sessions o (n + 1)
sessions_step o front words words' n so_far more =
    let next : suc n ≡ n + 1 = omega arith in
    more ∙ ap (λ (all : List ℕ). all ++ words_of_session o n) so_far ∙ append_assoc front (words_of_sessions o n) (words_of_session o n)
    ∙ ap (λ (all : List ℕ). front ++ all) (sym (sessions_more o n)) ∙ ap (λ (m : ℕ). front ++ words_of_sessions o m) next

pub length-sessions : (o : Opened) (n : ℕ) → length (words_of_sessions o n) ≡ 16 * n
unfolding words_of_sessions
length-sessions o zero = refl
length-sessions o (suc n) = length-append (words_of_sessions o n) (words_of_session o n) ∙ ap (λ (m : ℕ). m + 16) (length-sessions o n) ∙ (let e : 16 * n + 16 ≡ 16 * suc n = omega arith in e)

-- eight words to a bucket
length-eight : (words : List ℕ) (next : ℕ) → length (eight_words words next) ≡ 8
length-eight words next =
    omega (arith, length-append (take 7 words ++ replicate (7 - length words) 0) (next ∷ []), length-append (take 7 words) (replicate (7 - length words) 0), length-take 7 words, length-replicate {A = ℕ} (7 - length words) 0)

length-link : (words : List ℕ) (taken j : ℕ) → length (link_words words taken j) ≡ 8
unfolding link_words
length-link words taken j = length-eight (drop (7 * j) words) _

length-first : (taken : ℕ) (chains : List (List ℕ)) → length (filled_by first_link taken chains) ≡ 8 * length chains
unfolding filled_by
length-first taken [] = refl
length-first taken (words ∷ chains) =
    length-append (first_link words taken) (filled_by first_link (taken + needed (length words)) chains)
    ∙ (let here : length (first_link words taken) ≡ 8 = length-link words taken 0 in
    let rest : length (filled_by first_link (taken + needed (length words)) chains) ≡ 8 * length chains = length-first (taken + needed (length words)) chains in
    let e : length (first_link words taken) + length (filled_by first_link (taken + needed (length words)) chains) ≡ 8 * suc (length chains) = omega (arith, here, rest) in e)

length-up_to : (n : ℕ) (words : List ℕ) → length (up_to n words) ≡ n
length-up_to n words = omega (arith, length-append (take n words) (replicate (n - length words) 0), length-take n words, length-replicate {A = ℕ} (n - length words) 0)

pub length-filled : (o : Opened) (index : List ℕ) (taken : ℕ) → IsFilled (2 ^ o.shape.bucket_bits) o.shape.overflow o.entries.items index taken → length index ≡ 8 * 2 ^ o.shape.bucket_bits + 8 * o.shape.overflow
length-filled o index taken its =
    let first : List ℕ = filled_by first_link 0 its.chains in
    let behind : List ℕ = up_to (8 * o.shape.overflow) (filled_by other_links 0 its.chains) in
    ap length its.filled ∙ length-append first behind
    ∙ (let e : length first ≡ 8 * 2 ^ o.shape.bucket_bits = length-first 0 its.chains ∙ ap (λ (n : ℕ). 8 * n) its.many in
    let f : length behind ≡ 8 * o.shape.overflow = length-up_to (8 * o.shape.overflow) (filled_by other_links 0 its.chains) in
    let sum : length first + length behind ≡ 8 * 2 ^ o.shape.bucket_bits + 8 * o.shape.overflow = omega (arith, e, f) in sum)

pub length-before : (o : Opened) (index : List ℕ) (taken : ℕ) → IsFilled (2 ^ o.shape.bucket_bits) o.shape.overflow o.entries.items index taken
    → length (words_before_frames o index taken) ≡ 24 + 16 * o.shape.sessions + 8 * 2 ^ o.shape.bucket_bits + 8 * o.shape.overflow
length-before o index taken its =
    let once : List ℕ = words_once o taken in
    let own : List ℕ = words_of_sessions o o.shape.sessions in
    length-append (once ++ own) index ∙ ap (λ (n : ℕ). n + length index) (length-append once own)
    ∙ (let e : length once ≡ 24 = refl in
    let f : length own ≡ 16 * o.shape.sessions = length-sessions o o.shape.sessions in
    let g : length index ≡ 8 * 2 ^ o.shape.bucket_bits + 8 * o.shape.overflow = length-filled o index taken its in
    let sum : length once + length own + length index ≡ 24 + 16 * o.shape.sessions + 8 * 2 ^ o.shape.bucket_bits + 8 * o.shape.overflow = omega (arith, e, f, g) in sum)

-- the frames have as many words as they are to have
pub length-laid : (base size first : ℕ) (words all : List ℕ) (n : ℕ) → length (laid_round base size first words all n) ≡ length all
unfolding laid_round
length-laid base size first words all zero = refl
length-laid base size first words all (suc n) = length-set (laid_round base size first words all n) _ _ ∙ length-laid base size first words all n

pub length-frames : (o : Opened) → length (frames_of o) ≡ ring_words o
length-frames o = length-laid 0 (ring_words o) (warm_place o) o.frames.items (replicate (ring_words o) 0) (length o.frames.items) ∙ length-replicate {A = ℕ} (ring_words o) 0

-- the words before the frames have room
pub words_fit : (o : Opened) (p : Places) (index words : List ℕ) (taken : ℕ) → ArePlacesOfStore o.shape p → IsFilled (2 ^ o.shape.bucket_bits) o.shape.overflow o.entries.items index taken
    → words ≡ words_before_frames o index taken → length words + 3 * (o.shape.frames * o.shape.page) ≡ word_count p
words_fit o p index words taken store its are =
    let many : length words ≡ 24 + 16 * o.shape.sessions + 8 * 2 ^ o.shape.bucket_bits + 8 * o.shape.overflow = ap length are ∙ length-before o index taken its in
    let s = store.sessions in
    let b = store.buckets in
    let v = store.overflow in
    let r = store.ring in
    omega (arith, many, s, b, v, r)

-- and the frames are what is left: there the words of the records that memory has are laid
pub words_whole : (o : Opened) (p : Places) (index words all : List ℕ) (taken first : ℕ) → ArePlacesOfStore o.shape p → IsFilled (2 ^ o.shape.bucket_bits) o.shape.overflow o.entries.items index taken
    → words ≡ words_before_frames o index taken → first ≡ 3 * (o.warm.0 % p.ring)
    → all ≡ laid_round (length words) (3 * p.ring) first o.frames.items (words ++ drop (length words) (replicate (word_count p) 0)) (length o.frames.items) → AreWordsOfOpened o all
words_whole o p index words all taken first store its are begins whole =
    let fit : length words + 3 * (o.shape.frames * o.shape.page) ≡ word_count p = words_fit o p index words taken store its are in
    let left : word_count p - length words ≡ ring_words o = omega (arith, fit) in
    let size : 3 * p.ring ≡ ring_words o = ap (λ (ring : ℕ). 3 * ring) store.ring in
    let place : first ≡ warm_place o = begins ∙ ap (λ (ring : ℕ). 3 * (o.warm.0 % ring)) store.ring in
    let rest : drop (length words) (replicate (word_count p) 0) ≡ replicate (ring_words o) 0 = drop-replicate (length words) (word_count p) 0 ∙ ap (λ (n : ℕ). replicate n 0) left in
    record {
      index = index;
      taken = taken;
      filled = its;
      whole = whole ∙ laid_behind (length words) (3 * p.ring) first o.frames.items words (drop (length words) (replicate (word_count p) 0)) (length o.frames.items) refl
          ∙ ap (λ (ring : List ℕ). words ++ laid_round 0 (3 * p.ring) first o.frames.items ring (length o.frames.items)) rest
          ∙ ap (λ (n : ℕ). words ++ laid_round 0 n first o.frames.items (replicate (ring_words o) 0) (length o.frames.items)) size
          ∙ ap (λ (n : ℕ). words ++ laid_round 0 (ring_words o) n o.frames.items (replicate (ring_words o) 0) (length o.frames.items)) place
          ∙ ap (λ (front : List ℕ). front ++ frames_of o) are;
    }
