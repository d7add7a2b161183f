-- An ask of a word that is none of the guard's, and asks that are passed on.
use Rattle.std.proofs.Common.{◌≡◌, ℕ, List, [], ◌∷◌, refl, sym, ap, suc, zero}
use Rattle.std.specs.Prelude.{Some, slice_get, slice_set}
use Rattle.std.proofs.lemmas.List.{set-get_or}
use Rattle.fkv_plane.specs.declared.asks.Ask.{Ask}
use Rattle.fkv_plane.specs.declared.asks.Ask.TheVariants.{Load, Store, Swap, Cas, Add, Max, Put, Take, Done}
use Rattle.fkv_plane.specs.declared.places.Places.{Places}
use Rattle.fkv_plane.specs.Asked.{words_after, word_at}
use Rattle.fkv_plane.specs.Passing.{passed}
use Rattle.fkv_flush.specs.GuardWorld.{Actor, GuardNow, near, put_near}
use Rattle.fkv_flush.proofs.Shown.{changes, Likeness, Fits, Follows}
use Rattle.law_world.specs.GuardSessions.Steps.{outer_events, IsOuter}

item_kept : {X : Type 0} (xs : List X) (i : ℕ) (x : X) → slice_get xs i ≡ Some x → slice_set xs i x ≡ xs
item_kept [] i x got = cc
item_kept (y ∷ ys) zero x got = cc
item_kept (y ∷ ys) (suc i) x got = ap (λ zs. y ∷ zs) (item_kept ys i x got)

-- no event, where no word changes
pub no_event : (n : GuardNow) (a : ℕ) (x : Actor) (words : List ℕ) → slice_get n.actors a ≡ Some x → words ≡ n.words → n ≡ put_near n a (near words n.actions x)
no_event n a x words got same = rw same (ap (λ (actors : List Actor). record n { actors = actors }) (sym (item_kept n.actors a x got)))

-- a load writes back what it finds
pub loaded_words : (words : List ℕ) (place : ℕ) → slice_set words place (word_at words place) ≡ words
loaded_words words place = set-get_or words place 0

pub outer_step : {A : Type 0} (n : GuardNow) (a : ℕ) (x : Actor) (its : Likeness) (ask : Ask A) → slice_get n.actors a ≡ Some x → Fits its x → IsOuter n.places ask → Follows n a (outer_events a n.words ask) its (words_after n.words ask) n.actions
outer_step n a x its (Load place) got fits outer = record { actor = x; same = no_event n a x _ got (loaded_words n.words place); fits = fits }
outer_step n a x its (Store place new) got fits outer = record { actor = x; same = changes n a x got place _ outer; fits = fits }
outer_step n a x its (Swap place new) got fits outer = record { actor = x; same = changes n a x got place _ outer; fits = fits }
outer_step n a x its (Cas place old new) got fits outer = record { actor = x; same = changes n a x got place _ outer; fits = fits }
outer_step n a x its (Add place k) got fits outer = record { actor = x; same = changes n a x got place _ outer; fits = fits }
outer_step n a x its (Max place k) got fits outer = record { actor = x; same = changes n a x got place _ outer; fits = fits }
outer_step n a x its (Put slot action) got fits outer = record { actor = x; same = no_event n a x n.words got refl; fits = fits }
outer_step n a x its (Take slot) got fits outer = record { actor = x; same = no_event n a x n.words got refl; fits = fits }
outer_step n a x its (Done answer) got fits outer = record { actor = x; same = no_event n a x n.words got refl; fits = fits }

-- what is passed on is the same change
pub passed_outer : {A B : Type 0} (number : ℕ) (words : List ℕ) (ask : Ask A) (answer : B) → outer_events number words (passed ask answer) ≡ outer_events number words ask
unfolding passed
passed_outer number words (Load place) answer = refl
passed_outer number words (Store place new) answer = refl
passed_outer number words (Swap place new) answer = refl
passed_outer number words (Cas place old new) answer = refl
passed_outer number words (Add place k) answer = refl
passed_outer number words (Max place k) answer = refl
passed_outer number words (Put slot action) answer = refl
passed_outer number words (Take slot) answer = refl
passed_outer number words (Done inner) answer = refl

-- and owes the same
pub passed_owes : {A B : Type 0} (p : Places) (ask : Ask A) (answer : B) → IsOuter p (passed ask answer) ≡ IsOuter p ask
unfolding passed
passed_owes p (Load place) answer = refl
passed_owes p (Store place new) answer = refl
passed_owes p (Swap place new) answer = refl
passed_owes p (Cas place old new) answer = refl
passed_owes p (Add place k) answer = refl
passed_owes p (Max place k) answer = refl
passed_owes p (Put slot action) answer = refl
passed_owes p (Take slot) answer = refl
passed_owes p (Done inner) answer = refl
