-- What an ask does to one of a session's words: one that spares it leaves it, and a store there leaves what it stores.
use Rattle.std.proofs.Common.{◌≡◌, ◌≢◌, ◌⊎◌, ◌<◌, inl, inr, ℕ, ◌∙◌, List, length, refl, arith, sym, subst, true, false}
use Rattle.std.specs.Prelude.{◌==◌, ⊤, slice_set}
use Rattle.std.proofs.lemmas.Bool.Decides.{nat_tests}
use Rattle.fkv_plane.specs.declared.asks.Ask.{Ask}
use Rattle.fkv_plane.specs.declared.asks.Ask.TheVariants.{Load, Store, Swap, Cas, Add, Max, Put, Take, Done}
use Rattle.fkv_plane.specs.declared.places.Places.{Places}
use Rattle.fkv_plane.specs.Asked.{word_at, words_after}
use Rattle.fkv_epoch.proofs.Shown.{same_or, word_spared, word_written}
use Rattle.law_refine.specs.Footprint.{OwnWords, OfSession, IsAmong, IsOutside, Spares}
use Rattle.law_commit.specs.Cuts.{stored_by}

-- it is a store
abbrev pub IsStore : {A : Type 0} → Ask A → Type 0
IsStore (Store place word) = ⊤
IsStore ask = ⊥

-- where one of these words of a session is
pub record IsThere (p : Places) (session : ℕ) (its : OwnWords) (place : ℕ) : Type 0 where
  pub seat : session < p.sessions
  pub among : IsAmong session its place

-- an ask that spares these words names no place of theirs
other_place : (p : Places) (session : ℕ) (its : OwnWords) (place at : ℕ) → IsThere p session its place → IsOutside (OfSession session its) p at → place ≢ at
other_place p session its place at there outside = λ same. outside there.seat (subst (λ (x : ℕ). IsAmong session its x) same there.among)

-- what is written back
back : (words : List ℕ) (at place : ℕ) → place < length words → word_at (slice_set words at (word_at words at)) place ≡ word_at words place
back words at place few = elim (same_or place at) [
  | inl same ↦ subst (λ (x : ℕ). word_at (slice_set words x (word_at words x)) place ≡ word_at words place) same (word_written words place (word_at words place) few)
  | inr other ↦ word_spared words at (word_at words at) place other
]

pub spared_word : {A : Type 0} (p : Places) (session : ℕ) (its : OwnWords) (words : List ℕ) (ask : Ask A) (place : ℕ) → IsThere p session its place → place < length words → Spares (OfSession session its) p ask
    → word_at (words_after words ask) place ≡ word_at words place
spared_word p session its words (Load at) place there few spares = back words at place few
spared_word p session its words (Store at word) place there few spares = word_spared words at _ place (other_place p session its place at there spares)
spared_word p session its words (Swap at word) place there few spares = word_spared words at _ place (other_place p session its place at there spares)
spared_word p session its words (Cas at old new) place there few (inl spares) = word_spared words at _ place (other_place p session its place at there spares)
spared_word p session its words (Cas at old new) place there few (inr may) = absurd may
spared_word p session its words (Add at k) place there few (inl spares) = word_spared words at _ place (other_place p session its place at there spares)
spared_word p session its words (Add at k) place there few (inr may) = absurd may
spared_word p session its words (Max at k) place there few spares = word_spared words at _ place (other_place p session its place at there spares)
spared_word p session its words (Put slot action) place there few spares = refl
spared_word p session its words (Take slot) place there few spares = refl
spared_word p session its words (Done told) place there few spares = refl

-- so it stores none
pub none_stored : {A : Type 0} (p : Places) (session : ℕ) (its : OwnWords) (ask : Ask A) (place before : ℕ) → IsThere p session its place → Spares (OfSession session its) p ask → stored_by ask place before ≡ before
none_stored p session its (Store at word) place before there spares =
    let off = other_place p session its place at there spares in
    let no : (at == place) ≡ false = grind (arith, nat_tests, off) in
    rw no refl
none_stored p session its ask place before there spares = refl

-- a store
stored_word : {A : Type 0} (words : List ℕ) (ask : Ask A) (place : ℕ) → place < length words → IsStore ask → word_at (words_after words ask) place ≡ stored_by ask place (word_at words place)
stored_word words (Store at word) place few its = elim (same_or place at) [
  | inl same ↦
      let yes : (at == place) ≡ true = grind (arith, nat_tests, same) in
      rw yes (subst (λ (x : ℕ). word_at (slice_set words x word) place ≡ word) same (word_written words place word few))
  | inr other ↦
      let no : (at == place) ≡ false = grind (arith, nat_tests, other) in
      rw no (word_spared words at word place other)
]
stored_word words ask place few its = absurd its

-- each ask stores there, or spares these words
pub followed_word : {A : Type 0} (p : Places) (session : ℕ) (its : OwnWords) (words : List ℕ) (ask : Ask A) (place : ℕ) → IsThere p session its place → place < length words
    → IsStore ask ⊎ Spares (OfSession session its) p ask → word_at (words_after words ask) place ≡ stored_by ask place (word_at words place)
followed_word p session its words ask place there few (inl stores) = stored_word words ask place few stores
followed_word p session its words ask place there few (inr spares) = spared_word p session its words ask place there few spares ∙ sym (none_stored p session its ask place (word_at words place) there spares)
