-- What an event of a life does to the index: the laws of its world, of the events that this event is there.
use Rattle.std.proofs.Common.{◌≡◌, ℕ, ◌∙◌, refl, sym, ap, subst, inl, inr, arith, List, [], ◌∷◌, ◌++◌, Bool, true, false}
use Rattle.std.specs.Prelude.{if◌then◌else◌, ◌==◌, ◌⊎◌, ⊤, Option, Some, None, slice_get}
use Rattle.fkv_map.specs.declared.operations.Call.{Call}
use Rattle.fkv_plane.specs.declared.asks.Ask.{Ask}
use Rattle.fkv_plane.specs.declared.asks.Ask.TheVariants.{Done}
use Rattle.fkv_plane.specs.declared.places.Places.{Places}
use Rattle.fkv_plane.specs.Asked.{asked, asked_place, word_at, reply_to}
use Rattle.fkv_plane.specs.Passing.{is_done}
use Rattle.fkv_index.specs.declared.finding.Finding.{Finding}
use Rattle.fkv_index.specs.declared.finding.Purpose.{Purpose}
use Rattle.fkv_index.specs.declared.homes.Home.{Home}
use Rattle.fkv_index.specs.declared.publishing.PublishAnswer.TheVariants.{Won, Lost}
use Rattle.fkv_index.specs.Entries.{NewEntry, entry_at, entry_of, won_entry, published_in, published, EntriesMove}
use Rattle.fkv_index.specs.Finding.{find_next_ask, first_finding}
use Rattle.fkv_index.specs.IndexWorld as index
use Rattle.fkv_index.specs.IndexWorld.{SlotWork, IndexActor, IndexEvent, IndexNow, IndexWorld, may_find, new_entry, find_begun, index_happens, index_run}
use Rattle.fkv_index.specs.OneEntry.{spare_in, spare_at, Grows}
use Rattle.fkv_index.specs.Publishing.{publish_first, publish_ask, publish_next_ask}
use Rattle.fkv_index.specs.Searches.{LinksOne, IsLinkBy}
use Rattle.fkv_index.specs.SlotOrders.{OrdersMove}
use Rattle.fkv_index.proofs.Shown.{IsSound, event_entries, event_happened, event_orders, sound_lists}
use Rattle.law_world.specs.Below.fkv_keeper.Keeping.{keeper_ask}
use Rattle.law_world.specs.Below.fkv_session.Sessions.{SessionState, is_busy, session_ask}
use Rattle.law_world.specs.Below.fkv_world.Moves.{session_moved}
use Rattle.law_world.specs.Below.fkv_world.Runs.{World, run}
use Rattle.law_world.specs.Below.fkv_world.World.{Event, Calls, Moves, Commits, Turns, KeeperMoves, Crashes, Now, seat_at, near, session_called}
use Rattle.law_refine.specs.Index.Finders.{Search, KeptSlot, SessionWork, NoWork, Searches, KeepsSlot, PublishesEntry, search_in, entry_in, session_part, session_search, session_entry}
use Rattle.law_refine.specs.Index.IndexEvents.{search_begun, publish_begun, begun_by, changed_at, changed_by, asked_by, moved_events, called_events, life_events, index_events, mapped}
use Rattle.law_refine.specs.Index.LifeEntries.{won_there, entry_won, IsLinkNow, MovesIndex, EachMovesIndex}
use Rattle.law_refine.specs.Index.Shows.{opening_index, IsWork, Shows, seen_by_index}
use Rattle.law_refine.proofs.OfIndex.Permitted.{are_permitted}
use Rattle.law_refine.proofs.OfIndex.LifeFacts.{life_sound, of_life}
use Rattle.law_refine.proofs.OfIndex.Worlds.{life_shows}

runs_on : (w : IndexWorld) (later before : List IndexEvent) → index_run w (later ++ before) ≡ index_run (index_run w before) later
unfolding index_run
runs_on w [] before = refl
runs_on w (event ∷ later) before = ap (λ x. index_happens x event) (runs_on w later before)

-- what begins changes no word, and no list
abbrev IsBegin : IndexEvent → Type 0
IsBegin (index.BeginsFind actor home purpose) = ⊤
IsBegin (index.BeginsPublish actor addr) = ⊤
IsBegin event = ⊥

abbrev AllBegin : List IndexEvent → Type 0
AllBegin [] = ⊤
AllBegin (event ∷ before) = IsBegin event × AllBegin before

record IsSame (w after : IndexWorld) : Type 0 where
  places : after.now.places ≡ w.now.places
  words : after.now.words ≡ w.now.words
  lists : after.lists ≡ w.lists

find_same : (n : IndexNow) (actor : ℕ) (home : Home) (purpose : Purpose) (found : Option IndexActor) → ((find_begun n actor home purpose found).places ≡ n.places) × ((find_begun n actor home purpose found).words ≡ n.words)
find_same n actor home purpose None = (refl, refl)
find_same n actor home purpose (Some x) = by_test (may_find n.places home x)
  where
    after : IndexNow
    after = index.with_actor n actor (record x { finding = first_finding n.places home purpose x.spare; work = index.Seeks; purpose = purpose })

    by_test : (c : Bool) → ((if c then after else n).places ≡ n.places) × ((if c then after else n).words ≡ n.words)
    by_test true = (refl, refl)
    by_test false = (refl, refl)

publish_same : (n : IndexNow) (actor addr : ℕ) (found : Option IndexActor) → ((index.publish_begun n actor addr found).places ≡ n.places) × ((index.publish_begun n actor addr found).words ≡ n.words)
publish_same n actor addr None = (refl, refl)
publish_same n actor addr (Some x) = (refl, refl)

begin_same : (w : IndexWorld) (event : IndexEvent) → IsBegin event → IsSame w (index_happens w event)
unfolding index_happens
begin_same w (index.BeginsFind actor home purpose) is = let same = find_same w.now actor home purpose (slice_get w.now.actors actor) in record { places = same.0; words = same.1; lists = refl }
begin_same w (index.BeginsPublish actor addr) is = let same = publish_same w.now actor addr (slice_get w.now.actors actor) in record { places = same.0; words = same.1; lists = refl }
begin_same w (index.Moves actor) is = absurd is
begin_same w (index.Changes place word) is = absurd is

begins_same : (w : IndexWorld) (events : List IndexEvent) → AllBegin events → IsSame w (index_run w events)
unfolding index_run
begins_same w [] all = record { places = refl; words = refl; lists = refl }
begins_same w (event ∷ before) all =
    let was = begins_same w before all.1 in
    let is = begin_same (index_run w before) event all.0 in
    record { places = is.places ∙ was.places; words = is.words ∙ was.words; lists = is.lists ∙ was.lists }

all_both : (later before : List IndexEvent) → AllBegin later → AllBegin before → AllBegin (later ++ before)
all_both [] before one other = other
all_both (event ∷ later) before one other = (one.0, all_both later before one.1 other)

search_begins : (p : Places) (i reply : ℕ) (before after : Option Search) → AllBegin (search_begun p i reply before after)
search_begins p i reply before None = tt
search_begins p i reply None (Some its) = (tt, tt)
search_begins p i reply (Some was) (Some its) = by_done (is_done (find_next_ask p was.finding reply))
  where
    by_done : (c : Bool) → AllBegin (if c then index.BeginsFind i its.finding.home its.purpose ∷ [] else [])
    by_done true = (tt, tt)
    by_done false = tt

publish_begins : (i : ℕ) (entry : Option ℕ) → AllBegin (publish_begun i entry)
publish_begins i None = tt
publish_begins i (Some addr) = (tt, tt)

begun_begins : (p : Places) (i reply : ℕ) (before : Option Search) (s : SessionState) → AllBegin (begun_by p i reply before s)
begun_begins p i reply before s = all_both (search_begun p i reply before (session_search s)) (publish_begun i (session_entry s)) (search_begins p i reply before (session_search s)) (publish_begins i (session_entry s))

-- nothing is published, and nothing is linked
record QuietlyMoved (w after : IndexWorld) : Type 0 where
  entries : EntriesMove None (entry_of w) (entry_of after) w.now.places
  orders : OrdersMove None w.now.places w.now.words after.now.words w.lists after.lists
  lists : after.lists ≡ w.lists
  grows : Grows w.now.places w.now.words after.now.words w.lists after.lists

nil_right : (xs : List ℕ) → xs ≡ xs ++ []
nil_right [] = refl
nil_right (x ∷ xs) = ap (λ ys. x ∷ ys) (nil_right xs)

none_grows : (p : Places) (words : List ℕ) (lists : ℕ → List ℕ) → Grows p words words lists lists
none_grows p words lists = record { its_entries = λ m i low few some. (some, refl, omega arith); its_lists = λ bucket. ([], nil_right (lists bucket)); more_taken = omega arith }

nothing_moved : (w after : IndexWorld) → IsSame w after → QuietlyMoved w after
nothing_moved w after same =
    let places = same.places in
    let words = same.words in
    let lists = same.lists in
    record {
      entries = λ home is. rw (places, words, lists) refl;
      orders = λ bucket low. inl (rw lists refl, rw (words, lists) refl);
      lists = lists;
      grows = rw (words, lists) (none_grows w.now.places w.now.words w.lists);
    }

-- others change words
changed_moved : {A : Type 0} (w : IndexWorld) (ask : Ask A) → IsSound w → QuietlyMoved w (index_run w (changed_by w.now.words ask))
unfolding index_run index_happens
changed_moved w ask sound = by_place (asked_place ask)
  where
    one : (place word : ℕ) → QuietlyMoved w (index_run w (index.Changes place word ∷ []))
    one place word = record { entries = event_entries w (index.Changes place word) sound; orders = event_orders w (index.Changes place word) sound; lists = refl; grows = (event_happened w (index.Changes place word) sound).grows }

    by_place : (place : Option ℕ) → QuietlyMoved w (index_run w (changed_at w.now.words place (asked ask)))
    by_place None = nothing_moved w w (record { places = refl; words = refl; lists = refl })
    by_place (Some place) = one place (asked ask (word_at w.now.words place))

-- the search has linked what it had to spare
record HasLinked (work : SessionWork) (w after : IndexWorld) : Type 0 where
  its : Search
  searches : work ≡ Searches its
  links : LinksOne w.now.places w.now.words after.now.words w.lists after.lists its.finding.home.bucket its.finding.spare

record OwnMoved (work : SessionWork) (w after : IndexWorld) : Type 0 where
  entries : EntriesMove (won_there w.now.words work) (entry_of w) (entry_of after) w.now.places
  orders : OrdersMove (won_there w.now.words work) w.now.places w.now.words after.now.words w.lists after.lists
  lists : (after.lists ≡ w.lists) ⊎ HasLinked work w after
  grows : Grows w.now.places w.now.words after.now.words w.lists after.lists

-- what begins behind it changes nothing
moved_on : (work : SessionWork) (w mid after : IndexWorld) → OwnMoved work w mid → IsSame mid after → OwnMoved work w after
moved_on work w mid after moved same = record {
  entries = by_entry (won_there w.now.words work) moved.entries;
  orders = subst (λ words. OrdersMove (won_there w.now.words work) w.now.places w.now.words words w.lists after.lists) (sym same.words)
      (subst (λ lists. OrdersMove (won_there w.now.words work) w.now.places w.now.words mid.now.words w.lists lists) (sym same.lists) moved.orders);
  lists = by_lists moved.lists;
  grows = subst (λ words. Grows w.now.places w.now.words words w.lists after.lists) (sym same.words) (subst (λ lists. Grows w.now.places w.now.words mid.now.words w.lists lists) (sym same.lists) moved.grows);
}
  where
    each : (home : Home) → entry_of after home ≡ entry_of mid home
    each home = let places = same.places in let words = same.words in let lists = same.lists in rw (places, words, lists) refl

    by_entry : (found : Option NewEntry) → EntriesMove found (entry_of w) (entry_of mid) w.now.places → EntriesMove found (entry_of w) (entry_of after) w.now.places
    by_entry None kept = λ home is. each home ∙ kept home is
    by_entry (Some entry) is = record { had = is.had; has = each entry.home ∙ is.has; others = λ home at other. each home ∙ is.others home at other }

    by_lists : (mid.lists ≡ w.lists) ⊎ HasLinked work w mid → (after.lists ≡ w.lists) ⊎ HasLinked work w after
    by_lists (inl kept) = inl (same.lists ∙ kept)
    by_lists (inr linked) = inr (record {
      its = linked.its;
      searches = linked.searches;
      links = subst (λ words. LinksOne w.now.places w.now.words words w.lists after.lists linked.its.finding.home.bucket linked.its.finding.spare) (sym same.words)
          (subst (λ lists. LinksOne w.now.places w.now.words mid.now.words w.lists lists linked.its.finding.home.bucket linked.its.finding.spare) (sym same.lists) linked.links);
    })

-- a publish is won where the word stands
won_so : (its : NewEntry) (c : Bool) → won_entry its (Done (if c then Won else Lost)) ≡ (if c then Some its else None)
won_so its true = refl
won_so its false = refl

entry_so : (words : List ℕ) (home : Home) (place word entry : ℕ) → published_in words home (index.Enters (publish_first place word entry)) ≡ (if word_at words place == word then Some (record { home = home; before = word; entry = entry }) else None)
unfolding publish_ask publish_next_ask
entry_so words home place word entry = won_so (record { home = home; before = word; entry = entry }) (word_at words place == word)

the_actor : (xs : List IndexActor) (i j : ℕ) (a x : IndexActor) → slice_get xs i ≡ Some a → slice_get xs j ≡ Some x → j ≡ i → x ≡ a
the_actor xs i j a x got its same = let one : slice_get xs i ≡ Some x = subst (λ k. slice_get xs k ≡ Some x) same its in let both : Some x ≡ Some a = sym one ∙ got in cc

moves_own : (i actor : ℕ) → index.Moves i ≡ index.Moves actor → actor ≡ i
moves_own i actor e = cc

search_moved : (i : ℕ) (w : IndexWorld) (a : IndexActor) (its : Search) → IsSound w → slice_get w.now.actors i ≡ Some a → IsWork (Searches its) a → OwnMoved (Searches its) w (index_happens w (index.Moves i))
search_moved i w a its sound got is = record {
  entries = subst (λ x. EntriesMove x (entry_of w) (entry_of after) w.now.places) none (event_entries w (index.Moves i) sound);
  orders = subst (λ x. OrdersMove x w.now.places w.now.words after.now.words w.lists after.lists) none (event_orders w (index.Moves i) sound);
  lists = by_lists (sound_lists w sound (index.Moves i));
  grows = (event_happened w (index.Moves i) sound).grows;
}
  where
    after : IndexWorld
    after = index_happens w (index.Moves i)

    none : published w.now (index.Moves i) ≡ None
    none = let seeks = is.0 in rw (got, seeks) refl

    by_lists : (after.lists ≡ w.lists) ⊎ IsLinkBy w (index.Moves i) → (after.lists ≡ w.lists) ⊎ HasLinked (Searches its) w after
    by_lists (inl kept) = inl kept
    by_lists (inr link) =
        let here = moves_own i link.actor link.its_event in
        let finding : link.x.finding ≡ its.finding = ap (λ (x : IndexActor). x.finding) (the_actor w.now.actors i link.actor a link.x got link.got here) ∙ is.1 in
        let spare : spare_at w.now.actors link.actor ≡ its.finding.spare = ap spare_in link.got ∙ ap (λ (f : Finding). f.spare) finding in
        inr (record {
          its = its;
          searches = refl;
          links = subst (λ n. LinksOne w.now.places w.now.words after.now.words w.lists after.lists its.finding.home.bucket n) spare
              (subst (λ (f : Finding). LinksOne w.now.places w.now.words after.now.words w.lists after.lists f.home.bucket (spare_at w.now.actors link.actor)) finding link.links);
        })

entry_moved : (i : ℕ) (w : IndexWorld) (a : IndexActor) (slot : KeptSlot) (addr : ℕ) → IsSound w → slice_get w.now.actors i ≡ Some a → IsWork (PublishesEntry slot addr) a → OwnMoved (PublishesEntry slot addr) w (index_happens w (index.Moves i))
entry_moved i w a slot addr sound got is = record {
  entries = subst (λ x. EntriesMove x (entry_of w) (entry_of after) w.now.places) won (event_entries w (index.Moves i) sound);
  orders = subst (λ x. OrdersMove x w.now.places w.now.words after.now.words w.lists after.lists) won (event_orders w (index.Moves i) sound);
  lists = by_lists (sound_lists w sound (index.Moves i));
  grows = (event_happened w (index.Moves i) sound).grows;
}
  where
    after : IndexWorld
    after = index_happens w (index.Moves i)

    entry : ℕ
    entry = new_entry addr slot.home.tag

    won : published w.now (index.Moves i) ≡ won_there w.now.words (PublishesEntry slot addr)
    won =
        let enters = is.0 in
        let home = is.1 in
        let one : published w.now (index.Moves i) ≡ published_in w.now.words slot.home (index.Enters (publish_first slot.place slot.word entry)) = rw (got, enters, home) refl in
        one ∙ entry_so w.now.words slot.home slot.place slot.word entry

    by_lists : (after.lists ≡ w.lists) ⊎ IsLinkBy w (index.Moves i) → (after.lists ≡ w.lists) ⊎ HasLinked (PublishesEntry slot addr) w after
    by_lists (inl kept) = inl kept
    by_lists (inr link) =
        let here = moves_own i link.actor link.its_event in
        let clash : index.Seeks ≡ index.Enters (publish_first slot.place slot.word entry) = sym link.seeks ∙ ap (λ (x : IndexActor). x.work) (the_actor w.now.actors i link.actor a link.x got link.got here) ∙ is.0 in
        cc

-- the session's own ask
own_moved : {A : Type 0} (i : ℕ) (w : IndexWorld) (ask : Ask A) (a : IndexActor) (work : SessionWork) → IsSound w → slice_get w.now.actors i ≡ Some a → IsWork work a → OwnMoved work w (index_run w (asked_by w.now.words i (search_in work) (entry_in work) ask))
unfolding index_run
own_moved i w ask a NoWork sound got is = let quiet = changed_moved w ask sound in record { entries = quiet.entries; orders = quiet.orders; lists = inl quiet.lists; grows = quiet.grows }
own_moved i w ask a (KeepsSlot slot) sound got is = let quiet = changed_moved w ask sound in record { entries = quiet.entries; orders = quiet.orders; lists = inl quiet.lists; grows = quiet.grows }
own_moved i w ask a (Searches its) sound got is = search_moved i w a its sound got is
own_moved i w ask a (PublishesEntry slot addr) sound got is = entry_moved i w a slot addr sound got is

-- what an event of the engine is to the index
data EventMoved (n : Now) (event : Event) (w after : IndexWorld) : Type 0 where
  Quietly : entry_won n event ≡ None → QuietlyMoved w after → EventMoved n event w after
  ByMove : (i : ℕ) (s : SessionState) → event ≡ Moves i → slice_get n.sessions i ≡ Some s → entry_won n event ≡ won_there w.now.words (session_part s).work → OwnMoved (session_part s).work w after → EventMoved n event w after

none_now : (w : IndexWorld) → QuietlyMoved w (index_run w [])
unfolding index_run
none_now w = nothing_moved w w (record { places = refl; words = refl; lists = refl })

crashed_none : (n : Now) (event : Event) → n.crashed ≡ true → entry_won n event ≡ None
crashed_none n (Moves i) over = rw over refl
crashed_none n (Calls i call) over = refl
crashed_none n (Commits kind) over = refl
crashed_none n Turns over = refl
crashed_none n (KeeperMoves granted done) over = refl
crashed_none n Crashes over = refl

call_moved : (n : Now) (w : IndexWorld) (i : ℕ) (call : Call) (found : Option SessionState) → QuietlyMoved w (index_run w (called_events n i call found))
call_moved n w i call None = none_now w
call_moved n w i call (Some s) = by_busy (is_busy s.step)
  where
    by_busy : (b : Bool) → QuietlyMoved w (index_run w (if b then [] else begun_by n.places i 0 None (session_called (seat_at n i) s call)))
    by_busy true = none_now w
    by_busy false = nothing_moved w _ (begins_same w (begun_by n.places i 0 None (session_called (seat_at n i) s call)) (begun_begins n.places i 0 None (session_called (seat_at n i) s call)))

move_moved : (n : Now) (w : IndexWorld) (i : ℕ) (found : Option SessionState) → slice_get n.sessions i ≡ found → n.crashed ≡ false → IsSound w → Shows n w → EventMoved n (Moves i) w (index_run w (moved_events n i found))
move_moved n w i None there on sound shows = Quietly (rw (on, there) refl) (none_now w)
move_moved n w i (Some s) there on sound shows =
    let has = shows.actors i s there in
    let ask = session_ask (seat_at n i) s in
    let own : List IndexEvent = asked_by n.words i (session_search s) (session_entry s) ask in
    let later : List IndexEvent = begun_by n.places i (reply_to n.words ask) (session_search s) (session_moved (seat_at n i) (near n s)).machine in
    let moved : OwnMoved (session_part s).work w (index_run w own) =
    subst (λ words. OwnMoved (session_part s).work w (index_run w (asked_by words i (session_search s) (session_entry s) ask))) shows.words (own_moved i w ask has.actor (session_part s).work sound has.got has.its.work) in
    let behind = begins_same (index_run w own) later (begun_begins n.places i (reply_to n.words ask) (session_search s) (session_moved (seat_at n i) (near n s)).machine) in
    ByMove i s refl there (rw (on, there) (ap (λ words. won_there words (session_part s).work) (sym shows.words)))
    (subst (λ x. OwnMoved (session_part s).work w x) (sym (runs_on w later own)) (moved_on (session_part s).work w (index_run w own) (index_run (index_run w own) later) moved behind))

event_moved : (n : Now) (w : IndexWorld) (event : Event) → n.crashed ≡ false → IsSound w → Shows n w → EventMoved n event w (index_run w (life_events n event))
unfolding life_events
event_moved n w (Calls i call) on sound shows = Quietly refl (call_moved n w i call (slice_get n.sessions i))
event_moved n w (Moves i) on sound shows = move_moved n w i (slice_get n.sessions i) refl on sound shows
event_moved n w (KeeperMoves granted done) on sound shows = Quietly refl (subst (λ words. QuietlyMoved w (index_run w (changed_by words (keeper_ask n.shape n.places n.keeper)))) shows.words (changed_moved w (keeper_ask n.shape n.places n.keeper) sound))
event_moved n w (Commits kind) on sound shows = Quietly refl (none_now w)
event_moved n w Turns on sound shows = Quietly refl (none_now w)
event_moved n w Crashes on sound shows = Quietly refl (none_now w)

happens_moved : (n : Now) (w : IndexWorld) (event : Event) → IsSound w → Shows n w → EventMoved n event w (index_run w (index_events n event))
happens_moved n w event sound shows = by_crash n.crashed refl
  where
    by_crash : (b : Bool) → n.crashed ≡ b → EventMoved n event w (index_run w (if b then [] else life_events n event))
    by_crash true over = Quietly (crashed_none n event over) (none_now w)
    by_crash false on = event_moved n w event on sound shows

-- of the life
life_entries : (its : Option NewEntry) (n n' : Now) (w w' : IndexWorld) → Shows n w → Shows n' w' → EntriesMove its (entry_of w) (entry_of w') w.now.places → EntriesMove its (entry_at n.places n.words w.lists) (entry_at n'.places n'.words w'.lists) n.places
life_entries its n n' w w' shows shows' moves =
    of_life (λ p words. EntriesMove its (entry_at n.places n.words w.lists) (entry_at p words w'.lists) n.places) n' w' shows' (of_life (λ p words. EntriesMove its (entry_at p words w.lists) (entry_of w') p) n w shows moves)

life_orders : (its : Option NewEntry) (n n' : Now) (w w' : IndexWorld) → Shows n w → Shows n' w' → OrdersMove its w.now.places w.now.words w'.now.words w.lists w'.lists → OrdersMove its n.places n.words n'.words w.lists w'.lists
life_orders its n n' w w' shows shows' moves =
    of_life (λ p words. OrdersMove its n.places n.words words w.lists w'.lists) n' w' shows' (of_life (λ p words. OrdersMove its p words w'.now.words w.lists w'.lists) n w shows moves)

life_links : (bucket number : ℕ) (n n' : Now) (w w' : IndexWorld) → Shows n w → Shows n' w' → LinksOne w.now.places w.now.words w'.now.words w.lists w'.lists bucket number → LinksOne n.places n.words n'.words w.lists w'.lists bucket number
life_links bucket number n n' w w' shows shows' links =
    of_life (λ p words. LinksOne n.places n.words words w.lists w'.lists bucket number) n' w' shows' (of_life (λ p words. LinksOne p words w'.now.words w.lists w'.lists bucket number) n w shows links)

life_grows : (n n' : Now) (w w' : IndexWorld) → Shows n w → Shows n' w' → Grows w.now.places w.now.words w'.now.words w.lists w'.lists → Grows n.places n.words n'.words w.lists w'.lists
life_grows n n' w w' shows shows' grows = of_life (λ p words. Grows n.places n.words words w.lists w'.lists) n' w' shows' (of_life (λ p words. Grows p words w'.now.words w.lists w'.lists) n w shows grows)

moves_index : (n n' : Now) (event : Event) (w w' : IndexWorld) → Shows n w → Shows n' w' → EventMoved n event w w' → MovesIndex n n' w.lists w'.lists event
moves_index n n' event w w' shows shows' (Quietly none quiet) = record {
  entries = subst (λ x. EntriesMove x (entry_at n.places n.words w.lists) (entry_at n'.places n'.words w'.lists) n.places) (sym none) (life_entries None n n' w w' shows shows' quiet.entries);
  orders = subst (λ x. OrdersMove x n.places n.words n'.words w.lists w'.lists) (sym none) (life_orders None n n' w w' shows shows' quiet.orders);
  its_lists = inl quiet.lists;
  grows = life_grows n n' w w' shows shows' quiet.grows;
}
moves_index n n' event w w' shows shows' (ByMove i s same there won moved) = record {
  entries = subst (λ x. EntriesMove x (entry_at n.places n.words w.lists) (entry_at n'.places n'.words w'.lists) n.places) (sym won) (life_entries (won_there w.now.words (session_part s).work) n n' w w' shows shows' moved.entries);
  orders = subst (λ x. OrdersMove x n.places n.words n'.words w.lists w'.lists) (sym won) (life_orders (won_there w.now.words (session_part s).work) n n' w w' shows shows' moved.orders);
  its_lists = by_lists moved.lists;
  grows = life_grows n n' w w' shows shows' moved.grows;
}
  where
    by_lists : (w'.lists ≡ w.lists) ⊎ HasLinked (session_part s).work w w' → (w'.lists ≡ w.lists) ⊎ IsLinkNow n n' w.lists w'.lists event
    by_lists (inl kept) = inl kept
    by_lists (inr linked) = inr (record {
      session = i;
      its_event = same;
      s = s;
      got = there;
      its = linked.its;
      searches = ap search_in linked.searches;
      links = life_links linked.its.finding.home.bucket linked.its.finding.spare n n' w w' shows shows' linked.links;
    })

-- each event of a life
pub life_moves : EachMovesIndex
unfolding mapped
life_moves opening lists event before opened =
    let permitted = are_permitted opening lists (event ∷ before) opened in
    let w : IndexWorld = seen_by_index opening lists before in
    let n : Now = (run opening before).now in
    let shows = life_shows opening lists before opened permitted.1 in
    let shows' = life_shows opening lists (event ∷ before) opened permitted in
    let same = seen_on opening lists event before in
    moves_index n (run opening (event ∷ before)).now event w (seen_by_index opening lists (event ∷ before)) shows shows'
    (subst (λ x. EventMoved n event w x) (sym same) (happens_moved n w event (life_sound opening lists before opened) shows))
  where
    seen_on : (first : World) (linked : ℕ → List ℕ) (next : Event) (earlier : List Event) → seen_by_index first linked (next ∷ earlier) ≡ index_run (seen_by_index first linked earlier) (index_events (run first earlier).now next)
    seen_on first linked next earlier = runs_on (opening_index first linked) (index_events (run first earlier).now next) (mapped first earlier)
