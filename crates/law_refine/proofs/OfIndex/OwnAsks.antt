-- The ask of a session in the world of the index: its actor makes it, or it spares the index.
use Rattle.std.proofs.Common.{◌≡◌, ℕ, ◌∙◌, refl, sym, ap, subst, arith, List, [], ◌∷◌, Bool, true, false}
use Rattle.std.specs.Prelude.{if◌then◌else◌, ◌==◌, ◌&&◌, ◌||◌, not, Option, Some, None, slice_get, slice_set}
use Rattle.std.proofs.lemmas.Bool.Decides.{nat_tests}
use Rattle.std.proofs.lemmas.List.{set-get_or}
use Rattle.fkv_plane.specs.declared.asks.Ask.{Ask}
use Rattle.fkv_plane.specs.declared.places.Places.{Places}
use Rattle.fkv_plane.specs.declared.places.SharedWord.TheVariants as one
use Rattle.fkv_plane.specs.Places.{shared_place}
use Rattle.fkv_plane.specs.Asked.{asked, asked_place, word_at, words_changed, words_after, reply_to}
use Rattle.fkv_plane.specs.Passing.{passed}
use Rattle.fkv_plane.proofs.Shown.{passed_words, passed_reply}
use Rattle.fkv_index.specs.Finding.{find_ask}
use Rattle.fkv_index.specs.IndexWorld as index
use Rattle.fkv_index.specs.IndexWorld.{IndexActor, IndexNow, is_bucket_place, is_link_place, is_barred, new_entry, actor_step, actor_after}
use Rattle.fkv_index.specs.Publishing.{publish_first, publish_ask, publish_next}
use Rattle.fkv_index.specs.Slots.{link_of}
use Rattle.law_world.specs.Below.fkv_session.Told.{Told}
use Rattle.law_world.specs.Below.fkv_session.Told.TheVariants as told
use Rattle.law_world.proofs.OfRuns.Nothing.{item_back}
use Rattle.law_refine.specs.Index.Finders.{Search, KeptSlot, SessionWork, NoWork, Searches, KeepsSlot, PublishesEntry, IndexPart, search_in, entry_in}
use Rattle.law_refine.specs.Index.IndexEvents.{changed_at, changed_by, asked_by}
use Rattle.law_refine.specs.Index.Shows.{KeepsWord, KeepsIndex, SparesIndex, IsWork, IsPart}
use Rattle.law_refine.proofs.OfIndex.Goes.{part}
use Rattle.law_refine.proofs.OfIndex.Actors.{now_run, HasAsked, Asked}

-- what is barred there changes nothing
barred_same : (p : Places) (words : List ℕ) (place word : ℕ) → KeepsWord p place (word_at words place) word → is_barred p words place word ≡ true → word ≡ word_at words place
barred_same p words place word keeps barred = by_tests (place == shared_place one.Taken) (is_bucket_place p place) (is_link_place p place) (link_of word == link_of (word_at words place)) refl refl refl refl barred
  where
    by_tests : (a b c d : Bool) → (place == shared_place one.Taken) ≡ a → is_bucket_place p place ≡ b → is_link_place p place ≡ c → (link_of word == link_of (word_at words place)) ≡ d → (a || (b && not (c && d))) ≡ true → word ≡ word_at words place
    by_tests true b c d taken bucket link same is = keeps.count (grind (arith, nat_tests, taken))
    by_tests false true false d taken bucket link same is = keeps.slots bucket link
    by_tests false true true false taken bucket link same is = let leads = keeps.links bucket link in absurd (grind (arith, nat_tests, same, leads))
    by_tests false true true true taken bucket link same is = cc
    by_tests false false c d taken bucket link same is = cc

changed_now : (n : IndexNow) (place : Option ℕ) (f : ℕ → ℕ) → KeepsIndex n.places n.words place f → now_run n (changed_at n.words place f) ≡ record n { words = words_changed n.words place f }
changed_now n None f keeps = refl
changed_now n (Some place) f keeps = by_bar (is_barred n.places n.words place (f (word_at n.words place))) refl
  where
    by_bar : (c : Bool) → is_barred n.places n.words place (f (word_at n.words place)) ≡ c
        → (if c then n else record n { words = slice_set n.words place (f (word_at n.words place)) }) ≡ record n { words = slice_set n.words place (f (word_at n.words place)) }
    by_bar true barred =
        let same = barred_same n.places n.words place (f (word_at n.words place)) keeps barred in
        ap (λ xs. record n { words = xs }) (sym (ap (λ x. slice_set n.words place x) same ∙ set-get_or n.words place 0))
    by_bar false free = refl

-- an ask that spares the index changes its word
pub spared_now : {A : Type 0} (n : IndexNow) (ask : Ask A) → SparesIndex n.places n.words ask → now_run n (changed_by n.words ask) ≡ record n { words = words_after n.words ask }
spared_now n ask spares = changed_now n (asked_place ask) (asked ask) spares

pub record HasMade (n : IndexNow) (i : ℕ) (its : IndexPart) (ask : Ask Told) : Type 0 where
  pub actor : IndexActor
  pub same : now_run n (asked_by n.words i (search_in its.work) (entry_in its.work) ask) ≡ record n { words = words_after n.words ask; actors = slice_set n.actors i actor }
  pub asked : Asked n.places (reply_to n.words ask) its actor

-- nobody moves
quiet_made : (n : IndexNow) (i spare : ℕ) (work : SessionWork) (ask : Ask Told) (a : IndexActor) → slice_get n.actors i ≡ Some a → a.spare ≡ spare → SparesIndex n.places n.words ask
    → now_run n (changed_by n.words ask) ≡ record n { words = words_after n.words ask; actors = slice_set n.actors i a }
quiet_made n i spare work ask a got same spares = spared_now n ask spares ∙ ap (λ xs. record n { words = words_after n.words ask; actors = xs }) (sym (item_back n.actors i a got))

-- the actor moves
moved_words : (n : IndexNow) (i : ℕ) (a : IndexActor) (after : List ℕ) → slice_get n.actors i ≡ Some a → (actor_step n.places n.words a.finding a.work).words ≡ after
    → now_run n (index.Moves i ∷ []) ≡ record n { words = after; actors = slice_set n.actors i (actor_after n.places n.words a a.work) }
moved_words n i a after got same = rw got (ap (λ xs. record n { words = xs; actors = slice_set n.actors i (actor_after n.places n.words a a.work) }) same)

seeks_asked : (p : Places) (words : List ℕ) (a : IndexActor) (its : Search) → a.work ≡ index.Seeks → a.finding ≡ its.finding → a.purpose ≡ its.purpose → HasAsked p (reply_to words (find_ask its.finding)) (Searches its) (actor_after p words a a.work)
seeks_asked p words a its seeks finding purpose = (rw (seeks, finding) refl, rw (seeks, finding) refl, purpose)

searches_made : (n : IndexNow) (i spare : ℕ) (its : Search) (a : IndexActor) → slice_get n.actors i ≡ Some a → IsWork (Searches its) a → a.spare ≡ spare → HasMade n i (part (Searches its) spare) (passed (find_ask its.finding) told.Slept)
searches_made n i spare its a got work same =
    let seeks = work.0 in
    let finding = work.1 in
    let words : (actor_step n.places n.words a.finding a.work).words ≡ words_after n.words (find_ask its.finding) = rw (seeks, finding) refl in
    let reply = passed_reply n.words (find_ask its.finding) told.Slept in
    record {
      actor = actor_after n.places n.words a a.work;
      same = moved_words n i a (words_after n.words (passed (find_ask its.finding) told.Slept)) got (words ∙ sym (passed_words n.words (find_ask its.finding) told.Slept));
      asked = rw reply (record { work = seeks_asked n.places n.words a its seeks finding work.2; spare = rw (seeks, finding, same) refl });
    }

entry_made : (n : IndexNow) (i spare : ℕ) (slot : KeptSlot) (addr : ℕ) (a : IndexActor) → slice_get n.actors i ≡ Some a → IsWork (PublishesEntry slot addr) a → a.spare ≡ spare
    → HasMade n i (part (PublishesEntry slot addr) spare) (passed (publish_ask (publish_first slot.place slot.word (new_entry addr slot.home.tag))) told.Slept)
unfolding publish_next
entry_made n i spare slot addr a got work same =
    let enters = work.0 in
    let swaps = publish_first slot.place slot.word (new_entry addr slot.home.tag) in
    let words : (actor_step n.places n.words a.finding a.work).words ≡ words_after n.words (publish_ask swaps) = rw enters refl in
    record {
      actor = actor_after n.places n.words a a.work;
      same = moved_words n i a (words_after n.words (passed (publish_ask swaps) told.Slept)) got (words ∙ sym (passed_words n.words (publish_ask swaps) told.Slept));
      asked = record { work = (rw enters work.2, rw enters refl); spare = rw enters same };
    }

-- the ask of a session that is about this
pub has_made : (n : IndexNow) (i : ℕ) (its : IndexPart) (ask : Ask Told) (a : IndexActor) → slice_get n.actors i ≡ Some a → IsPart its a → (search_in its.work ≡ None → entry_in its.work ≡ None → SparesIndex n.places n.words ask)
    → ((search : Search) → its.work ≡ Searches search → ask ≡ passed (find_ask search.finding) told.Slept)
    → ((slot : KeptSlot) (addr : ℕ) → its.work ≡ PublishesEntry slot addr → ask ≡ passed (publish_ask (publish_first slot.place slot.word (new_entry addr slot.home.tag))) told.Slept) → HasMade n i its ask
has_made n i its ask a got is spares searches enters = by_work its.work refl
  where
    here : SessionWork → Type 0
    here work = HasMade n i (part work its.spare) ask

    by_work : (work : SessionWork) → its.work ≡ work → HasMade n i its ask
    by_work NoWork at =
        let quiet = spares (ap search_in at) (ap entry_in at) in
        record { actor = a; same = rw at (quiet_made n i its.spare NoWork ask a got is.spare quiet); asked = record { work = rw at (subst (λ x. IsWork x a) at is.work); spare = rw at is.spare } }
    by_work (KeepsSlot slot) at =
        let quiet = spares (ap search_in at) (ap entry_in at) in
        record { actor = a; same = rw at (quiet_made n i its.spare (KeepsSlot slot) ask a got is.spare quiet); asked = record { work = subst (λ x. HasAsked n.places (reply_to n.words ask) x a) (sym at) (subst (λ x. IsWork x a) at is.work); spare = rw at is.spare } }
    by_work (Searches search) at =
        let made = searches_made n i its.spare search a got (subst (λ x. IsWork x a) at is.work) is.spare in
        subst (λ x. HasMade n i its x) (sym (searches search at)) (record { actor = made.actor; same = rw at made.same; asked = record { work = subst (λ x. HasAsked n.places (reply_to n.words (passed (find_ask search.finding) told.Slept)) x made.actor) (sym at) made.asked.work; spare = rw at made.asked.spare } })
    by_work (PublishesEntry slot addr) at =
        let made = entry_made n i its.spare slot addr a got (subst (λ x. IsWork x a) at is.work) is.spare in
        let swaps = publish_first slot.place slot.word (new_entry addr slot.home.tag) in
        subst (λ x. HasMade n i its x) (sym (enters slot addr at)) (record { actor = made.actor; same = rw at made.same; asked = record { work = subst (λ x. HasAsked n.places (reply_to n.words (passed (publish_ask swaps) told.Slept)) x made.actor) (sym at) made.asked.work; spare = rw at made.asked.spare } })
