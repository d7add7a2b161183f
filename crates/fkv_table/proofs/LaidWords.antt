-- The words of a table are laid one after the other.
use Rattle.std.proofs.Common.{◌≡◌, ℕ, zero, suc, ◌+◌, ◌*◌, ◌∙◌, ap, arith, List, [], ◌∷◌, ◌++◌, length, length-append}
use Rattle.std.specs.Prelude.{◌^◌}
use Rattle.fkv_core.specs.OpeningWords.{AreWordsOfOpened, frames_of, words_before_frames}
use Rattle.fkv_core.proofs.Shown.{length-before, length-frames}
use Rattle.fkv_opening.specs.declared.opened_store.Opened.{Opened}
use Rattle.fkv_plane.specs.Places.{word_count}
use Rattle.fkv_plane.specs.declared.places.Places.{Places}
use Rattle.fkv_plane.specs.Asked.{word_found}
use Rattle.fkv_table.specs.Positions.{laid_from, place_at}

laid_on : (words : List ℕ) (at left : ℕ) → laid_from words at left ++ word_found words (place_at (at + left)) ∷ [] ≡ laid_from words at (left + 1)
unfolding laid_from
laid_on words at zero = let here : at + zero ≡ at = omega arith in ap (λ (n : ℕ). word_found words (place_at n) ∷ []) here
laid_on words at (suc left) =
    let here : at + suc left ≡ suc at + left = omega arith in
    let count : suc (left + 1) ≡ suc left + 1 = omega arith in
    ap (λ (n : ℕ). word_found words (place_at at) ∷ (laid_from words (suc at) left ++ word_found words (place_at n) ∷ [])) here
    ∙ (ap (λ (rest : List ℕ). word_found words (place_at at) ∷ rest) (laid_on words (suc at) left) ∙ ap (laid_from words at) count)

pub laid_more : (words : List ℕ) (count : ℕ) → laid_from words 0 count ++ word_found words (place_at count) ∷ [] ≡ laid_from words 0 (count + 1)
laid_more words count = let here : count ≡ 0 + count = omega arith in ap (λ (n : ℕ). laid_from words 0 count ++ word_found words (place_at n) ∷ []) here ∙ laid_on words 0 count

-- an opened store has as many words as its places say
pub words_counted : (o : Opened) (p : Places) (words : List ℕ) → AreWordsOfOpened o words → p.sessions ≡ o.shape.sessions → p.buckets ≡ 2 ^ o.shape.bucket_bits → p.overflow ≡ o.shape.overflow
    → p.ring ≡ o.shape.frames * o.shape.page → word_count p ≡ length words
words_counted o p words are sessions buckets overflow ring =
    let before = length-before o are.index are.taken are.filled in
    let whole = ap length are.whole ∙ length-append (words_before_frames o are.index are.taken) (frames_of o) in
    let frames = length-frames o in
    omega (arith, before, whole, frames, sessions, buckets, overflow, ring)
