-- What holds of the index at each moment of a life: the laws of its world, of what that shows.
use Rattle.std.proofs.Common.{◌≡◌, ℕ, ◌<◌, ◌∙◌, refl, sym, ap, subst, List, false, length}
use Rattle.std.specs.Prelude.{Some, slice_get, replicate}
use Rattle.fkv_plane.specs.declared.asks.Ask.TheVariants.{Cas}
use Rattle.fkv_plane.specs.declared.places.Places.{Places}
use Rattle.fkv_plane.specs.Asked.{reply_to}
use Rattle.fkv_plane.specs.Passing.{passed}
use Rattle.fkv_index.specs.declared.finding.FindStep.{FindStep}
use Rattle.fkv_index.specs.declared.finding.FindStep.TheVariants.{AtRest}
use Rattle.fkv_index.specs.declared.finding.Finding.{Finding}
use Rattle.fkv_index.specs.declared.homes.Home.{Home}
use Rattle.fkv_index.specs.Buckets.{bucket_words}
use Rattle.fkv_index.specs.Entries.{entry_at, IsEntryAnswered}
use Rattle.fkv_index.specs.Finding.{find_ask, find_next_ask}
use Rattle.fkv_index.specs.IndexWorld.{Seeks, IndexActor, IndexWorld, is_seeking, new_entry, rested_actor}
use Rattle.fkv_index.specs.OneEntry.{IsIndex, HasSlot, IsTrueAnswer, spare_in, spare_at}
use Rattle.fkv_index.specs.Publishing.{publish_first, publish_ask}
use Rattle.fkv_index.specs.SlotOrders.{slot_order, IsFilled, HasTagsOnce}
use Rattle.fkv_index.proofs.Shown.{IsSound, run_sound, opening_sound, sound_answers, sound_full, sound_lost, sound_spares, sound_slots, sound_entries, sound_filled, sound_tags}
use Rattle.law_world.specs.Below.fkv_session.Told.TheVariants as told
use Rattle.law_world.specs.Below.fkv_session.Sessions.{SessionState}
use Rattle.law_world.specs.Below.fkv_world.World.{Event, Now, seat_at}
use Rattle.law_world.specs.Below.fkv_world.Runs.{World, run}
use Rattle.law_refine.specs.Index.Finders.{Search, SessionWork, NoWork, Searches, KeepsSlot, PublishesEntry, search_in, session_part}
use Rattle.law_refine.specs.Index.IndexEvents.{mapped}
use Rattle.law_refine.specs.Index.LifeEntries.{lists_seen, spare_held, session_spare, IsIndexNow, FullIsSo, ContendedHasLost, AreAnsweredSo, AreSlotsKept, AreOrders, AskForThese}
use Rattle.law_refine.specs.Index.Shows.{IsOpened, ArePermitted, opening_index, IsWork, Shows, seen_by_index}
use Rattle.law_refine.proofs.OfIndex.SessionAsks.{search_asks, entry_asks}
use Rattle.law_refine.proofs.OfIndex.Worlds.{opening_holds, run_holds}

-- the run of the index is a sound one
pub life_sound : (opening : World) (lists : ℕ → List ℕ) (events : List Event) → IsOpened opening lists → IsSound (seen_by_index opening lists events)
life_sound opening lists events opened = run_sound (opening_index opening lists) (mapped opening events) (opening_sound opening.now.places opening.now.words lists (length opening.now.sessions) opened.its_index)

-- what is so of its places and words is so of the life's
pub of_life : (P : Places → List ℕ → Type 0) (n : Now) (w : IndexWorld) → Shows n w → P w.now.places w.now.words → P n.places n.words
of_life P n w shows its = subst (λ p. P p n.words) shows.places (subst (λ words. P w.now.places words) shows.words its)

rests_at : (step : FindStep) → is_seeking step ≡ false → step ≡ AtRest
rests_at AtRest e = refl
rests_at step e = cc

-- what an actor has to spare
spare_told_so : (w : IndexWorld) (i : ℕ) (a : IndexActor) → IsSound w → slice_get w.now.actors i ≡ Some a → is_seeking a.finding.step ≡ false → spare_at w.now.actors i ≡ a.spare
spare_told_so w i a sound got rests = sym (sound_spares w sound i a got (rests_at a.finding.step rests))

work_spare : (w : IndexWorld) (i : ℕ) (a : IndexActor) (work : SessionWork) → IsSound w → slice_get w.now.actors i ≡ Some a → IsWork work a → spare_at w.now.actors i ≡ spare_held work a.spare
work_spare w i a NoWork sound got is = spare_told_so w i a sound got is.0
work_spare w i a (Searches its) sound got is = ap spare_in got ∙ ap (λ (f : Finding). f.spare) is.1
work_spare w i a (KeepsSlot slot) sound got is = spare_told_so w i a sound got is.2
work_spare w i a (PublishesEntry slot addr) sound got is = spare_told_so w i a sound got is.2

pub shown_spare : (n : Now) (w : IndexWorld) (i : ℕ) (s : SessionState) → IsSound w → Shows n w → slice_get n.sessions i ≡ Some s → spare_at w.now.actors i ≡ session_spare s
shown_spare n w i s sound shows at =
    let has = shows.actors i s at in
    work_spare w i has.actor (session_part s).work sound has.got has.its.work ∙ ap (λ x. spare_held (session_part s).work x) has.its.spare

pub index_shown : (n : Now) (w : IndexWorld) → IsSound w → Shows n w → IsIndexNow n w.lists
index_shown n w sound shows = record {
  spares = spare_at w.now.actors;
  of_sessions = λ i s at. shown_spare n w i s sound shows at;
  its_index = of_life (λ p words. IsIndex p words w.lists (spare_at w.now.actors)) n w shows sound.its_index;
}

searches_then : (work : SessionWork) (its : Search) → search_in work ≡ Some its → work ≡ Searches its
searches_then NoWork its same = cc
searches_then (Searches other) its same = let is : other ≡ its = cc in ap Searches is
searches_then (KeepsSlot slot) its same = cc
searches_then (PublishesEntry slot addr) its same = cc

actor_full : (w : IndexWorld) (i : ℕ) (a : IndexActor) → IsSound w → slice_get w.now.actors i ≡ Some a → a.work ≡ Seeks → FullIsSo w.now.places w.now.words w.lists a.finding
actor_full w i a sound got seeks answer asks full =
    let its = sound_full w sound i a answer got seeks asks full in
    record { all_taken = its.all_taken; none_spare = sym (ap spare_in got) ∙ its.none_spare; bucket = its.bucket; its_bucket = its.its_bucket; full_of_others = its.full_of_others }

pub answers_shown : (n : Now) (w : IndexWorld) → IsSound w → Shows n w → AreAnsweredSo n w.lists
answers_shown n w sound shows i s its at searches =
    let has = shows.actors i s at in
    let work : IsWork (Searches its) has.actor = subst (λ x. IsWork x has.actor) (searches_then (session_part s).work its searches) has.its.work in
    let one = sound_answers w sound i has.actor has.got work.0 in
    let other = sound_entries w sound i has.actor has.got work.0 in
    record {
      answer_true = of_life (λ p words. IsTrueAnswer p words w.lists its.finding.home (find_next_ask p its.finding (reply_to words (find_ask its.finding)))) n w shows
          (subst (λ (f : Finding). IsTrueAnswer w.now.places w.now.words w.lists f.home (find_next_ask w.now.places f (reply_to w.now.words (find_ask f)))) work.1 one);
      its_entry = of_life (λ p words. IsEntryAnswered (entry_at p words w.lists its.finding.home) (find_next_ask p its.finding (reply_to words (find_ask its.finding)))) n w shows
          (subst (λ (f : Finding). IsEntryAnswered (entry_at w.now.places w.now.words w.lists f.home) (find_next_ask w.now.places f (reply_to w.now.words (find_ask f)))) work.1 other);
      its_full = of_life (λ p words. FullIsSo p words w.lists its.finding) n w shows
          (subst (λ (f : Finding). FullIsSo w.now.places w.now.words w.lists f) work.1 (actor_full w i has.actor sound has.got work.0));
      contended = of_life (λ p words. ContendedHasLost p words its.finding) n w shows
          (subst (λ (f : Finding). ContendedHasLost w.now.places w.now.words f) work.1 (λ answer asks lost. sound_lost w sound i has.actor answer has.got work.0 asks lost));
    }

pub slots_shown : (n : Now) (w : IndexWorld) → IsSound w → Shows n w → AreSlotsKept n w.lists
slots_shown n w sound shows i s slot at keeps =
    let has = shows.actors i s at in
    let work : IsWork (KeepsSlot slot) has.actor = subst (λ x. IsWork x has.actor) keeps has.its.work in
    of_life (λ p words. HasSlot p (bucket_words p words) w.lists slot.home slot.place slot.word) n w shows
    (subst (λ (home : Home). HasSlot w.now.places (bucket_words w.now.places w.now.words) w.lists home slot.place slot.word) work.1 (sound_slots w sound i has.actor slot.place slot.word has.got work.0))

pub orders_shown : (n : Now) (w : IndexWorld) → IsSound w → Shows n w → AreOrders n w.lists
orders_shown n w sound shows bucket low =
    let few = subst (λ (p : Places). bucket < p.buckets) (sym shows.places) low in
    record {
      filled = of_life (λ p words. IsFilled (slot_order p words w.lists bucket)) n w shows (sound_filled w sound bucket few);
      tags_once = of_life (λ p words. HasTagsOnce (slot_order p words w.lists bucket)) n w shows (sound_tags w sound bucket few);
    }

-- the Cas of a publish
swap_passed : (place word entry : ℕ) → passed (publish_ask (publish_first place word entry)) told.Slept ≡ Cas place word entry
unfolding publish_ask passed
swap_passed place word entry = refl

pub life_asks : (opening : World) (lists : ℕ → List ℕ) (events : List Event) → IsOpened opening lists → ArePermitted opening events → AskForThese (run opening events).now (lists_seen opening lists events)
life_asks opening lists events opened permitted i s at =
    let its = run_holds opening events (replicate (length opening.now.sessions) rested_actor) permitted (opening_holds opening lists opened) in
    let seat = its.holds.seats i s at in
    record {
      searches = λ search work. search_asks (seat_at (run opening events).now i) s search seat.knows work;
      publishes = λ slot addr work. entry_asks (seat_at (run opening events).now i) s slot addr seat.knows work ∙ swap_passed slot.place slot.word (new_entry addr slot.home.tag);
    }
