-- A machine that passes on what a machine inside it asks does to the words what that one does.
use Rattle.std.proofs.Common.{◌≡◌, ℕ, ◌⊎◌, List, refl, inl, inr, true, false}
use Rattle.fkv_plane.specs.declared.asks.Ask.{Ask}
use Rattle.fkv_plane.specs.declared.asks.Ask.TheVariants.{Load, Store, Swap, Cas, Add, Max, Put, Take, Done}
use Rattle.fkv_plane.specs.Asked.{words_after, reply_to}
use Rattle.fkv_plane.specs.Passing.{passed, is_done}

-- the words after a passed ask are those after the ask
pub passed_words : {A B : Type 0} (words : List ℕ) (ask : Ask A) (answer : B) → words_after words (passed ask answer) ≡ words_after words ask
unfolding passed
passed_words words (Load place) answer = refl
passed_words words (Store place new) answer = refl
passed_words words (Swap place new) answer = refl
passed_words words (Cas place old new) answer = refl
passed_words words (Add place k) answer = refl
passed_words words (Max place k) answer = refl
passed_words words (Put slot action) answer = refl
passed_words words (Take slot) answer = refl
passed_words words (Done inner) answer = refl

-- so is the reply
pub passed_reply : {A B : Type 0} (words : List ℕ) (ask : Ask A) (answer : B) → reply_to words (passed ask answer) ≡ reply_to words ask
unfolding passed
passed_reply words (Load place) answer = refl
passed_reply words (Store place new) answer = refl
passed_reply words (Swap place new) answer = refl
passed_reply words (Cas place old new) answer = refl
passed_reply words (Add place k) answer = refl
passed_reply words (Max place k) answer = refl
passed_reply words (Put slot action) answer = refl
passed_reply words (Take slot) answer = refl
passed_reply words (Done inner) answer = refl

-- it is at an end exactly where the machine inside it is
pub passed_done : {A B : Type 0} (ask : Ask A) (answer : B) → is_done (passed ask answer) ≡ is_done ask
unfolding passed
passed_done (Load place) answer = refl
passed_done (Store place new) answer = refl
passed_done (Swap place new) answer = refl
passed_done (Cas place old new) answer = refl
passed_done (Add place k) answer = refl
passed_done (Max place k) answer = refl
passed_done (Put slot action) answer = refl
passed_done (Take slot) answer = refl
passed_done (Done inner) answer = refl

-- at an end no word changes
pub done_words : {A : Type 0} (words : List ℕ) (ask : Ask A) → is_done ask ≡ true → words_after words ask ≡ words
done_words words (Done answer) end = refl
done_words words ask end = cc

-- a machine is at an end, with an answer, or it asks for something
pub done_or_asks : {A : Type 0} (ask : Ask A) → ((answer : A) × (ask ≡ Done answer)) ⊎ (is_done ask ≡ false)
done_or_asks (Done answer) = inl (answer, refl)
done_or_asks ask = inr refl
