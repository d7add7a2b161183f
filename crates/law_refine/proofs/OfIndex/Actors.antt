-- The actor of a session, through the ask that the session makes, and through what begins then.
use Rattle.std.proofs.Common.{◌≡◌, ℕ, ◌^◌, ◌∙◌, refl, sym, ap, subst, arith, List, [], ◌∷◌, ◌++◌, true, false}
use Rattle.std.specs.Prelude.{nat_lt, Option, Some, None, slice_get, slice_set}
use Rattle.std.proofs.lemmas.Bool.Decides.{nat_tests}
use Rattle.fkv_plane.specs.declared.places.Places.{Places}
use Rattle.fkv_plane.specs.Passing.{is_done}
use Rattle.fkv_index.specs.declared.finding.Finding.{Finding}
use Rattle.fkv_index.specs.declared.finding.Purpose.{Purpose}
use Rattle.fkv_index.specs.declared.homes.Home.{Home}
use Rattle.fkv_index.specs.Finding.{first_finding, find_next, find_next_ask}
use Rattle.fkv_index.specs.IndexWorld as index
use Rattle.fkv_index.specs.IndexWorld.{SlotWork, IndexActor, IndexEvent, IndexNow, IndexWorld, answer_work, found_work, spare_told, is_publishing, is_seeking, may_find, may_publish, new_entry, with_actor, find_begun, work_begun, actor_step, actor_after, index_happens_now, index_happens, index_run}
use Rattle.fkv_index.specs.OneEntry.{IsHome}
use Rattle.fkv_index.specs.Publishing.{publish_first}
use Rattle.law_world.proofs.OfRuns.Nothing.{item_back}
use Rattle.law_refine.specs.Index.Finders.{Search, KeptSlot, SessionWork, NoWork, Searches, KeepsSlot, PublishesEntry, IndexPart, search_in, entry_in}
use Rattle.law_refine.specs.Index.IndexEvents.{search_begun, publish_begun}
use Rattle.law_refine.specs.Index.Shows.{IsFree, IsWork, IsPart}
use Rattle.law_refine.proofs.OfIndex.FindingFacts.{next_home, done_rests, none_published, more_seeks}
use Rattle.law_refine.proofs.OfIndex.Goes.{HasDone, spare_by, WorkGoes, SeeksOn, HasFound, Keeps, Drops, Seeks, Enters, Goes}

-- a run without its lists
abbrev pub now_run : IndexNow → List IndexEvent → IndexNow
now_run n [] = n
now_run n (event ∷ before) = index_happens_now (now_run n before) event

pub runs_now : (w : IndexWorld) (events : List IndexEvent) → (index_run w events).now ≡ now_run w.now events
unfolding index_run index_happens
runs_now w [] = refl
runs_now w (event ∷ before) = ap (λ n. index_happens_now n event) (runs_now w before)

pub now_on : (n : IndexNow) (later before : List IndexEvent) → now_run n (later ++ before) ≡ now_run (now_run n before) later
now_on n [] before = refl
now_on n (event ∷ later) before = ap (λ m. index_happens_now m event) (now_on n later before)

-- what the actor is behind the session's own ask
abbrev pub HasAsked : Places → ℕ → SessionWork → IndexActor → Type 0
HasAsked p reply NoWork b = IsFree b
HasAsked p reply (Searches its) b = (b.work ≡ answer_work (find_next_ask p its.finding reply)) × (b.finding ≡ find_next p its.finding reply) × (b.purpose ≡ its.purpose)
HasAsked p reply (KeepsSlot slot) b = IsWork (KeepsSlot slot) b
HasAsked p reply (PublishesEntry slot addr) b = IsFree b

pub record Asked (p : Places) (reply : ℕ) (its : IndexPart) (b : IndexActor) : Type 0 where
  pub work : HasAsked p reply its.work b
  pub spare : b.spare ≡ spare_by p reply its.work its.spare

-- where its work has ended it is free
free_work : (b : IndexActor) (work : SlotWork) → b.work ≡ work → is_publishing work ≡ false → is_publishing b.work ≡ false
free_work b work same none = ap is_publishing same ∙ none

asked_free : (p : Places) (reply : ℕ) (work : SessionWork) (b : IndexActor) → HasDone p reply work → HasAsked p reply work b → IsFree b
asked_free p reply NoWork b done asked = asked
asked_free p reply (Searches its) b done asked =
    (ap (λ (f : Finding). is_seeking f.step) asked.1 ∙ done_rests p its.finding reply done, free_work b (answer_work (find_next_ask p its.finding reply)) asked.0 (none_published (find_next_ask p its.finding reply)))
asked_free p reply (KeepsSlot slot) b done asked = (asked.2, free_work b (index.Holds slot.place slot.word) asked.0 refl)
asked_free p reply (PublishesEntry slot addr) b done asked = asked

-- what has begun by the step
abbrev pub begun_events : Places → ℕ → ℕ → SessionWork → SessionWork → List IndexEvent
begun_events p i reply before after = search_begun p i reply (search_in before) (search_in after) ++ publish_begun i (entry_in after)

pub record Begun (p : Places) (n : IndexNow) (i : ℕ) (events : List IndexEvent) (its : IndexPart) : Type 0 where
  pub actor : IndexActor
  pub same : now_run n events ≡ record n { actors = slice_set n.actors i actor }
  pub part : IsPart its actor

-- nothing begins
as_is : (p : Places) (n : IndexNow) (i : ℕ) (b : IndexActor) (events : List IndexEvent) (its : IndexPart) → slice_get n.actors i ≡ Some b → events ≡ [] → IsWork its.work b → b.spare ≡ its.spare → Begun p n i events its
as_is p n i b events its got none work spare = record {
  actor = b;
  same = rw none (ap (λ xs. record n { actors = xs }) (sym (item_back n.actors i b got)));
  part = record { work = work; spare = spare };
}

more_none : (p : Places) (i reply : ℕ) (its : Search) (after : Option Search) → is_done (find_next_ask p its.finding reply) ≡ false → search_begun p i reply (Some its) after ≡ []
more_none p i reply its None more = refl
more_none p i reply its (Some next) more = rw more refl

done_begins : (p : Places) (i reply : ℕ) (before : SessionWork) (after : Search) → HasDone p reply before → search_begun p i reply (search_in before) (Some after) ≡ index.BeginsFind i after.finding.home after.purpose ∷ []
done_begins p i reply NoWork after done = refl
done_begins p i reply (Searches its) after done = rw done refl
done_begins p i reply (KeepsSlot slot) after done = refl
done_begins p i reply (PublishesEntry slot addr) after done = refl

none_begins : (p : Places) (i reply : ℕ) (before : SessionWork) → search_begun p i reply (search_in before) None ≡ []
none_begins p i reply NoWork = refl
none_begins p i reply (Searches its) = refl
none_begins p i reply (KeepsSlot slot) = refl
none_begins p i reply (PublishesEntry slot addr) = refl

may_begin : (p : Places) (home : Home) (b : IndexActor) → IsHome p home → IsFree b → may_find p home b ≡ true
may_begin p home b is free =
    let few = is.few in
    let fits = is.fits in
    let one : nat_lt home.bucket p.buckets ≡ true = grind (arith, nat_tests, few) in
    let other : nat_lt home.tag (2 ^ 15) ≡ true = grind (arith, nat_tests, fits) in
    let seeks = free.0 in
    let publishes = free.1 in
    rw (one, other, seeks, publishes) refl

-- a search begins
finds_begin : (p : Places) (n : IndexNow) (i : ℕ) (b : IndexActor) (events : List IndexEvent) (home : Home) (purpose : Purpose) (its : IndexPart) → n.places ≡ p → slice_get n.actors i ≡ Some b → IsHome p home → IsFree b → b.spare ≡ its.spare
    → events ≡ index.BeginsFind i home purpose ∷ [] → its.work ≡ Searches (record { finding = first_finding p home purpose its.spare; purpose = purpose }) → Begun p n i events its
finds_begin p n i b events home purpose its places got is free spare same work =
    let begun : IndexActor = record b { finding = first_finding n.places home purpose b.spare; work = index.Seeks; purpose = purpose } in
    let may : may_find n.places home b ≡ true = rw places (may_begin p home b is free) in
    record {
      actor = begun;
      same = rw (same, got, may) refl;
      part = record { work = subst (λ x. IsWork x begun) (sym work) (refl, rw (places, spare) refl, refl); spare = spare };
    }

-- a publish begins
entry_begins : (p : Places) (n : IndexNow) (i : ℕ) (b : IndexActor) (events : List IndexEvent) (slot : KeptSlot) (addr : ℕ) (its : IndexPart) → slice_get n.actors i ≡ Some b → IsWork (KeepsSlot slot) b → may_publish slot.word addr ≡ true → b.spare ≡ its.spare
    → events ≡ index.BeginsPublish i addr ∷ [] → its.work ≡ PublishesEntry slot addr → Begun p n i events its
entry_begins p n i b events slot addr its got holds may spare same work =
    let begun : IndexActor = record b { work = work_begun b.finding addr b.work } in
    record {
      actor = begun;
      same = rw (same, got) refl;
      part = record { work = subst (λ x. IsWork x begun) (sym work) (by_work, holds.1, holds.2); spare = spare };
    }
  where
    by_work : work_begun b.finding addr b.work ≡ index.Enters (publish_first slot.place slot.word (new_entry addr slot.home.tag))
    by_work = let held = holds.0 in let home = holds.1 in rw (held, may, home) refl

-- behind the session's own ask: what begins
pub begins_then : (p : Places) (n : IndexNow) (i reply : ℕ) (b : IndexActor) (before after : IndexPart) → n.places ≡ p → slice_get n.actors i ≡ Some b → Goes p reply before after → Asked p reply before b → Begun p n i (begun_events p i reply before.work after.work) after
begins_then p n i reply b before after places got goes asked = by_work goes.work
  where
    spare : b.spare ≡ after.spare
    spare = asked.spare ∙ sym goes.spare

    by_work : WorkGoes p reply before.work after.work after.spare → Begun p n i (begun_events p i reply before.work after.work) after
    by_work (SeeksOn its was more next) =
        let asked_so : HasAsked p reply (Searches its) b = subst (λ x. HasAsked p reply x b) was asked.work in
        as_is p n i b _ after got (rw (was, next) (ap (λ xs. xs ++ []) (more_none p i reply its (Some (record { finding = find_next p its.finding reply; purpose = its.purpose })) more))) (subst (λ x. IsWork x b) (sym next) (asked_so.0 ∙ more_seeks (find_next_ask p its.finding reply) more, asked_so.1, asked_so.2)) spare
    by_work (HasFound its answer slot was asks finds home keeps) =
        let asked_so : HasAsked p reply (Searches its) b = subst (λ x. HasAsked p reply x b) was asked.work in
        let held : b.work ≡ index.Holds slot.place slot.word = asked_so.0 ∙ ap answer_work asks ∙ ap found_work finds in
        let there : b.finding.home ≡ slot.home = ap (λ (f : Finding). f.home) asked_so.1 ∙ next_home p its.finding reply ∙ home in
        let rests : is_seeking b.finding.step ≡ false = ap (λ (f : Finding). is_seeking f.step) asked_so.1 ∙ done_rests p its.finding reply (ap is_done asks) in
        as_is p n i b _ after got (rw (was, keeps) refl) (subst (λ x. IsWork x b) (sym keeps) (held, there, rests)) spare
    by_work (Keeps slot was keeps) =
        let asked_so : HasAsked p reply (KeepsSlot slot) b = subst (λ x. HasAsked p reply x b) was asked.work in
        as_is p n i b _ after got (rw (was, keeps) refl) (subst (λ x. IsWork x b) (sym keeps) asked_so) spare
    by_work (Drops done none) = as_is p n i b _ after got (rw none (ap (λ xs. xs ++ []) (none_begins p i reply before.work))) (subst (λ x. IsWork x b) (sym none) (asked_free p reply before.work b done asked.work)) spare
    by_work (Seeks home purpose done is seeks) =
        let its : Search = record { finding = first_finding p home purpose after.spare; purpose = purpose } in
        finds_begin p n i b _ home purpose after places got is (asked_free p reply before.work b done asked.work) spare (rw seeks (ap (λ xs. xs ++ []) (done_begins p i reply before.work its done))) seeks
    by_work (Enters slot addr was may enters) =
        let asked_so : HasAsked p reply (KeepsSlot slot) b = subst (λ x. HasAsked p reply x b) was asked.work in
        entry_begins p n i b _ slot addr after got asked_so may spare (rw (was, enters) refl) enters
