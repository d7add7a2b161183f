-- The words of an opened store, read at their places.
use Rattle.std.proofs.Common.{◌≡◌, ◌∙◌, ap, sym, refl, arith, inl, inr, ℕ, zero, suc, ◌+◌, ◌-◌, ◌*◌, ◌<◌, List, ◌++◌, length}
use Rattle.std.proofs.lemmas.Bool.{cases_lt}
use Rattle.std.proofs.lemmas.List.{append_assoc, length-append, get_or_append_left, get_or-append_right}
use Rattle.fkv_plane.specs.Asked.{word_at}
use Rattle.law_paper.specs.Below.fkv_opening.TheOpened.{Opened}
use Rattle.fkv_core.specs.OpeningWords.{AreWordsOfOpened, frames_of, words_of_session, words_of_sessions, words_once}

length-sessions : (o : Opened) (n : ℕ) → length (words_of_sessions o n) ≡ 16 * n
unfolding words_of_sessions
length-sessions o zero = refl
length-sessions o (suc n) = length-append (words_of_sessions o n) (words_of_session o n) ∙ ap (λ (m : ℕ). m + 16) (length-sessions o n) ∙ (let e : 16 * n + 16 ≡ 16 * suc n = omega arith in e)

-- word k of session s, among those of the first n
own_word : (o : Opened) (n s k : ℕ) → s < n → k < 16 → word_at (words_of_sessions o n) (16 * s + k) ≡ word_at (words_of_session o s) k
unfolding words_of_sessions
own_word o zero s k few small = absurd (omega (arith, few))
own_word o (suc n) s k few small = elim (cases_lt s n) [
  | inl before ↦ get_or_append_left (words_of_sessions o n) (words_of_session o n) 0 (16 * s + k) (let many = length-sessions o n in omega (arith, before, small, many)) ∙ own_word o n s k before small
  | inr last ↦
      let same : s ≡ n = omega (arith, few, last) in
      let many = length-sessions o n in
      get_or-append_right (words_of_sessions o n) (words_of_session o n) (16 * n) (16 * s + k) 0 many (omega (arith, same))
      ∙ (let e : 16 * s + k - 16 * n ≡ k = omega (arith, same) in ap (word_at (words_of_session o n)) e)
      ∙ ap (λ (m : ℕ). word_at (words_of_session o m) k) (sym same)
]

-- The words are those that the store has once, then those of its sessions, and the rest.
pub record IsParted (o : Opened) (words : List ℕ) : Type 0 where
  pub taken : ℕ
  pub rest : List ℕ
  pub whole : words ≡ words_once o taken ++ (words_of_sessions o o.shape.sessions ++ rest)

pub parted : (o : Opened) (words : List ℕ) → AreWordsOfOpened o words → IsParted o words
parted o words are =
    let once : List ℕ = words_once o are.taken in
    let own : List ℕ = words_of_sessions o o.shape.sessions in
    let frames : List ℕ = frames_of o in
    record {
      taken = are.taken;
      rest = are.index ++ frames;
      whole = are.whole ∙ (append_assoc (once ++ own) are.index frames ∙ append_assoc once own (are.index ++ frames));
    }

-- a word that the store has once
pub once_word : (o : Opened) (words : List ℕ) (p : IsParted o words) (place : ℕ) → place < 24 → word_at words place ≡ word_at (words_once o p.taken) place
once_word o words p place low = ap (λ (all : List ℕ). word_at all place) p.whole ∙ get_or_append_left (words_once o p.taken) _ 0 place (omega (arith, low))

-- and a session's
pub session_word_at : (o : Opened) (words : List ℕ) (p : IsParted o words) (s k : ℕ) → s < o.shape.sessions → k < 16 → word_at words (24 + 16 * s + k) ≡ word_at (words_of_session o s) k
session_word_at o words p s k few small =
    let many = length-sessions o o.shape.sessions in
    ap (λ (all : List ℕ). word_at all (24 + 16 * s + k)) p.whole
    ∙ get_or-append_right (words_once o p.taken) (words_of_sessions o o.shape.sessions ++ p.rest) 24 (24 + 16 * s + k) 0 refl (omega arith)
    ∙ (let e : 24 + 16 * s + k - 24 ≡ 16 * s + k = omega arith in ap (word_at (words_of_sessions o o.shape.sessions ++ p.rest)) e)
    ∙ get_or_append_left (words_of_sessions o o.shape.sessions) p.rest 0 (16 * s + k) (omega (arith, many, few, small))
    ∙ own_word o o.shape.sessions s k few small

-- a word of the index
pub index_word : (o : Opened) (words : List ℕ) (are : AreWordsOfOpened o words) (place i : ℕ) → place ≡ 24 + 16 * o.shape.sessions + i → i < length are.index → word_at words place ≡ word_at are.index i
unfolding parted
index_word o words are place i its few =
    let p : IsParted o words = parted o words are in
    let many = length-sessions o o.shape.sessions in
    let frames : List ℕ = frames_of o in
    let own : List ℕ = words_of_sessions o o.shape.sessions in
    ap (λ (all : List ℕ). word_at all place) p.whole
    ∙ get_or-append_right (words_once o are.taken) (own ++ (are.index ++ frames)) 24 place 0 refl (omega (arith, its))
    ∙ (let e : place - 24 ≡ 16 * o.shape.sessions + i = omega (arith, its) in ap (word_at (own ++ (are.index ++ frames))) e)
    ∙ get_or-append_right own (are.index ++ frames) (16 * o.shape.sessions) (16 * o.shape.sessions + i) 0 many (omega arith)
    ∙ (let e : 16 * o.shape.sessions + i - 16 * o.shape.sessions ≡ i = omega arith in ap (word_at (are.index ++ frames)) e)
    ∙ get_or_append_left are.index frames 0 i few

-- how many overflow buckets are taken
pub taken_word : (o : Opened) (words : List ℕ) (are : AreWordsOfOpened o words) → word_at words 10 ≡ are.taken
unfolding parted
taken_word o words are = once_word o words (parted o words are) 10 (omega arith)
