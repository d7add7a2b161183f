-- Over a life the entries of the index lead to where the chains of the log begin.
use Rattle.std.proofs.Common.{◌≡◌, ℕ, ◌+◌, ◌*◌, ◌^◌, ◌<◌, ◌∙◌, refl, sym, ap, subst, arith, Bool, true, false, List, [], ◌∷◌, ◌++◌}
use Rattle.std.specs.Prelude.{map, ◌==◌, if◌then◌else◌, Option, Some, None, slice_get}
use Rattle.fkv_map.specs.declared.history.HistoryEntry.{HistoryEntry}
use Rattle.fkv_map.specs.declared.operations.Op.{Op}
use Rattle.fkv_map.specs.Keys.{key_of}
use Rattle.law_log.specs.Ghosts.{Log, Ghosts, GhostEvent, Tells, Fixes, ghost_run}
use Rattle.law_log.specs.Trace.{TraceLine}
use Rattle.law_log.proofs.Shown.{run_on}
use Rattle.fkv_plane.specs.declared.asks.Ask.{Ask}
use Rattle.fkv_plane.specs.declared.asks.Ask.TheVariants.{Load, Store, Swap, Cas, Add, Max, Put, Take, Done}
use Rattle.fkv_plane.specs.declared.places.Places.{Places}
use Rattle.fkv_plane.specs.Asked.{reply_to, word_at}
use Rattle.fkv_plane.specs.Passing.{passed}
use Rattle.fkv_index.specs.declared.finding.FindAnswer.{FindAnswer}
use Rattle.fkv_index.specs.declared.finding.Found.{Found}
use Rattle.fkv_index.specs.declared.finding.Found.TheVariants.{Slot, NoSlot, Full, Kept, Contended}
use Rattle.fkv_index.specs.declared.homes.Home.{Home}
use Rattle.fkv_index.specs.Buckets.{bucket_words}
use Rattle.fkv_index.specs.Entries.{entry_at, EntriesMove, IsEntryFound, IsEntryAnswered}
use Rattle.fkv_index.specs.Finding.{find_ask, find_next_ask}
use Rattle.fkv_index.specs.IndexWorld.{Enters, SlotWork, IndexWorld, new_entry}
use Rattle.fkv_index.specs.OneEntry.{IsHome}
use Rattle.fkv_index.specs.Publishing.{publish_first}
use Rattle.fkv_index.specs.Slots.{entry_addr, entry_tag}
use Rattle.fkv_index.proofs.Shown.{IsSound, WorkKnows, homes_are_there}
use Rattle.law_world.specs.Below.fkv_session.Told.TheVariants.{Slept}
use Rattle.law_world.specs.Below.fkv_session.Sessions.{SessionState, session_ask}
use Rattle.law_world.specs.Below.fkv_world.Runs.{World, happens, run}
use Rattle.law_world.specs.Below.fkv_world.World.{Event, Calls, Moves, Commits, Turns, KeeperMoves, Crashes, Now, seat_at}
use Rattle.law_world.proofs.Below.fkv_world.Shown.{places_stay, shape_stays}
use Rattle.law_world.specs.Guarded.Shows as guard
use Rattle.law_refine.specs.Index.Finders.{Search, KeptSlot, SessionWork, NoWork, Searches, KeepsSlot, PublishesEntry, search_in, session_part}
use Rattle.law_refine.specs.Index.LifeEntries.{lists_seen, AskForThese, entry_won, won_there}
use Rattle.law_refine.specs.Index.Shows as index
use Rattle.law_refine.specs.Index.Shows.{IsWork, Shows, seen_by_index}
use Rattle.law_refine.proofs.OfIndex.Permitted.{are_permitted}
use Rattle.law_refine.proofs.OfIndex.LifeFacts.{answers_shown, life_asks, life_sound}
use Rattle.law_refine.proofs.OfIndex.LifeMoves.{life_moves}
use Rattle.law_refine.proofs.OfIndex.Worlds.{life_shows}
use Rattle.law_refine.specs.Events.Effects.{Stepped as TheStep, TakesEffect, mover_step, step_at, step_of}
use Rattle.law_refine.specs.Events.GhostEvents.{fixed_ghosts, ghost_events, home_in, home_number, life_ghosts, mapped, moved_ghosts, own_ghosts, safe_at, serials_in, traced_by}
use Rattle.law_refine.specs.Events.Lines.{lines_added}
use Rattle.law_refine.specs.Events.Reserved.{IsUnbornFrom, ReservesNothing, tail_at}
use Rattle.law_refine.proofs.OfEvents.EventEffects.{life_makes}
use Rattle.law_refine.proofs.OfEvents.ReservedLife.{life_reserved}
use Rattle.law_refine.specs.Heads.Heads.{AllMeetHeads, LeadToHeads, head_at}
use Rattle.law_refine.specs.Heads.Searches.{IsWorkAt, home_attempted, IsHeadFound, IsHeadAnswered, AreHeadsFound}
use Rattle.law_refine.proofs.OfHeads.AtHome.{life_at_home}
use Rattle.law_refine.proofs.OfHeads.Entries.{IsTagged, entry_tagged, head_addr, lists_first}
use Rattle.law_refine.proofs.OfHeads.Reserved.{PublishesAt, takes_one, takes_behind, reserved_op}
use Rattle.law_refine.proofs.OfHeads.Steps.{LeaveChains, LeadTo, Stepped, one_behind, quietly_stepped, IsPublishing, publish_stepped, meets_on}
use Rattle.law_refine.proofs.OfHeads.Won.{ShowsWon, Quietly, Behind, PublishesOne, won_behind, won_entry, entry_is_won, publish_replied, moved_won}

-- ---- what an event is to the log and to the index
data EventWon (n : Now) (event : Event) (events : List GhostEvent) : Type 0 where
  Quiet : LeaveChains events → entry_won n event ≡ None → EventWon n event events
  ByMove : (number : ℕ) (s : SessionState) → event ≡ Moves number → slice_get n.sessions number ≡ Some s → entry_won n event ≡ won_there n.words (session_part s).work → ShowsWon n.words (session_part s).work events
      → EventWon n event events

leaves_both : (later before : List GhostEvent) → LeaveChains later → LeaveChains before → LeaveChains (later ++ before)
leaves_both [] before one other = other
leaves_both (event ∷ later) before one other = (one.0, leaves_both later before one.1 other)

event_behind : (n : Now) (event : Event) (later events : List GhostEvent) → LeaveChains later → EventWon n event events → EventWon n event (later ++ events)
event_behind n event later events leave (Quiet its none) = Quiet (leaves_both later events leave its) none
event_behind n event later events leave (ByMove number s is got won shows) = ByMove number s is got won (won_behind n.words (session_part s).work later events leave shows)

told_leave : (lines : List TraceLine) → LeaveChains (map Tells lines)
told_leave [] = tt
told_leave (line ∷ rest) = (tt, told_leave rest)

fixed_leave : (before safe : ℕ) → LeaveChains (fixed_ghosts before safe)
fixed_leave before safe = by_test (safe == before)
  where
    by_test : (c : Bool) → LeaveChains (if c then [] else Fixes safe ∷ [])
    by_test true = tt
    by_test false = (tt, tt)

crashed_none : (n : Now) (event : Event) → n.crashed ≡ true → entry_won n event ≡ None
crashed_none n (Moves number) over = rw over refl
crashed_none n (Calls number call) over = refl
crashed_none n (Commits kind) over = refl
crashed_none n Turns over = refl
crashed_none n (KeeperMoves granted done) over = refl
crashed_none n Crashes over = refl

move_won : (w : World) (lists : ℕ → List ℕ) (number : ℕ) (found : Option SessionState) → w.now.crashed ≡ false → AskForThese w.now lists → slice_get w.now.sessions number ≡ found → EventWon w.now (Moves number) (moved_ghosts w number found)
move_won w lists number None alive asks got = Quiet tt (rw (alive, got) refl)
move_won w lists number (Some s) alive asks got = ByMove number s refl got (rw (alive, got) refl) (moved_won w.now number w.past.trace s (asks number s got))

own_won : (w : World) (lists : ℕ → List ℕ) (event : Event) → w.now.crashed ≡ false → AskForThese w.now lists → EventWon w.now event (own_ghosts w event)
own_won w lists (Moves number) alive asks = move_won w lists number (slice_get w.now.sessions number) alive asks refl
own_won w lists (Calls number call) alive asks = Quiet tt refl
own_won w lists (Commits kind) alive asks = Quiet tt refl
own_won w lists Turns alive asks = Quiet tt refl
own_won w lists (KeeperMoves granted done) alive asks = Quiet tt refl
own_won w lists Crashes alive asks = Quiet tt refl

event_won : (first : ℕ → ℕ) (w : World) (lists : ℕ → List ℕ) (event : Event) → AskForThese w.now lists → EventWon w.now event (ghost_events first w event)
unfolding ghost_events
event_won first w lists event asks = by_test w.now.crashed refl
  where
    lines : List TraceLine
    lines = lines_added first w.past.trace (traced_by w event)

    fresh : List GhostEvent
    fresh = fixed_ghosts (safe_at w.now) (safe_at (happens w event).now)

    by_test : (c : Bool) → w.now.crashed ≡ c → EventWon w.now event (if c then [] else map Tells lines ++ (fresh ++ own_ghosts w event))
    by_test true over = Quiet tt (crashed_none w.now event over)
    by_test false alive =
        event_behind w.now event (map Tells lines) (fresh ++ own_ghosts w event) (told_leave lines)
        (event_behind w.now event fresh (own_ghosts w event) (fixed_leave (safe_at w.now) (safe_at (happens w event).now)) (own_won w lists event alive asks))

-- ---- what a session publishes is an entry of its home, of an address that isn't 0
record IsEntering (p : Places) (slot : KeptSlot) (addr : ℕ) : Type 0 where
  there : IsHome p slot.home
  some : 0 < addr

some_entered : (addr tag before : ℕ) → entry_tag (addr + tag * 2 ^ 48) ≡ tag → before < entry_addr (addr + tag * 2 ^ 48) → 0 < addr
some_entered addr tag before same above = omega (arith, same, above)

entering : (n : Now) (w : IndexWorld) (number : ℕ) (s : SessionState) (slot : KeptSlot) (addr : ℕ) → IsSound w → Shows n w → slice_get n.sessions number ≡ Some s → (session_part s).work ≡ PublishesEntry slot addr → IsEntering n.places slot addr
entering n w number s slot addr sound shows got is =
    let has = shows.actors number s got in
    let work : IsWork (PublishesEntry slot addr) has.actor = subst (λ (x : SessionWork). IsWork x has.actor) is has.its.work in
    let row : WorkKnows w.now.places (bucket_words w.now.places w.now.words) w.lists has.actor.finding (Enters (publish_first slot.place slot.word (new_entry addr slot.home.tag))) =
    subst (λ (x : SlotWork). WorkKnows w.now.places (bucket_words w.now.places w.now.words) w.lists has.actor.finding x) work.0 (sound.rows number has.actor has.got) in
    let its_tag : entry_tag (new_entry addr slot.home.tag) ≡ slot.home.tag = row.1 ∙ ap (λ (h : Home). h.tag) work.1 in
    record {
      there = subst (λ (p : Places). IsHome p slot.home) shows.places (subst (λ (h : Home). IsHome w.now.places h) work.1 row.0.its_home);
      some = some_entered addr slot.home.tag (entry_addr slot.word) its_tag row.2;
    }

-- ---- and is the record that it has reserved, of its key
life_publishing : (opening : World) (start : ℕ) (lists : ℕ → List ℕ) (ghosts : Ghosts) (before : List Event) (number : ℕ) (s : SessionState) (slot : KeptSlot) (addr : ℕ)
    → guard.IsOpened opening.now start → index.IsOpened opening lists → IsUnbornFrom (tail_at opening.now) ghosts → ReservesNothing ghosts
    → slice_get (run opening before).now.sessions number ≡ Some s → (session_part s).work ≡ PublishesEntry slot addr → word_at (run opening before).now.words slot.place ≡ slot.word
    → PublishesAt (step_of (seat_at (run opening before).now number) s (reply_to (run opening before).now.words (session_ask (seat_at (run opening before).now number) s))) addr
    → IsPublishing (home_in opening.now.shape.bucket_bits) (life_ghosts opening ghosts before).log (run opening before).now.places addr (won_entry slot addr)
unfolding won_entry
life_publishing opening start lists ghosts before number s slot addr opened in_order none free got is stands published =
    let n : Now = (run opening before).now in
    let permitted = are_permitted opening lists before in_order in
    let enters = entering n (seen_by_index opening lists before) number s slot addr (life_sound opening lists before in_order) (life_shows opening lists before in_order permitted) got is in
    let replied = publish_replied n number s (life_asks opening lists before in_order permitted number s got) slot addr is in
    let its = published.its in
    let reserved = life_reserved opening start ghosts before opened none free number its (record { state = s; found = got; reserved = published.publishes.reserved }) in
    let op : its.entry.op ≡ s.attempt.pending.request.op = reserved_op number s s.step its published.publishes.reserved in
    let home : slot.home ≡ home_attempted n s = subst (λ (x : SessionWork). IsWorkAt (home_attempted n s) x) is (life_at_home opening lists before in_order number s got).work in
    record {
      entry = its.entry;
      cell = its.cell;
      reserved = ap (life_ghosts opening ghosts before).log.cells (sym published.its_addr) ∙ reserved;
      of_home = ap (home_in opening.now.shape.bucket_bits) published.publishes.its_key ∙ (ap (λ (o : Op). home_in opening.now.shape.bucket_bits (key_of o).0) op
          ∙ (ap (λ (shape : _). home_in shape.bucket_bits (key_of s.attempt.pending.request.op).0) (sym (shape_stays opening before)) ∙ sym (ap (λ (h : Home). home_number h) home)));
      there = enters.there;
      previous = ap entry_addr (sym stands ∙ sym replied) ∙ published.publishes.previous;
      some = enters.some;
      its_entry = refl;
    }

-- ---- a step of a session moves entries and chains together
heads_moved : (home : ℕ → ℕ) (g : Ghosts) (p : Places) (entry after : Home → ℕ) (words : List ℕ) (work : SessionWork) (its_step : TheStep) (events : List GhostEvent) (made : Option HistoryEntry)
    → ((slot : KeptSlot) (addr : ℕ) → work ≡ PublishesEntry slot addr → word_at words slot.place ≡ slot.word → PublishesAt its_step addr → IsPublishing home g.log p addr (won_entry slot addr))
    → EntriesMove (won_there words work) entry after p → ((its_home : Home) → IsTagged its_home.tag (entry its_home)) → LeadTo p entry g.log → TakesEffect its_step events made → ShowsWon words work events → Stepped home g events p after
unfolding won_entry
heads_moved home g p entry after words work its_step events made facts moves tagged leads takes (Quietly all leave none) =
    quietly_stepped home g all p entry after leave (subst (λ x. EntriesMove x entry after p) none moves) leads
heads_moved home g p entry after words work its_step events made facts moves tagged leads takes (Behind event leaves its) =
    let rest = takes_behind its_step event _ _ made leaves takes refl in
    one_behind home g event _ p after leaves (heads_moved home g p entry after words work its_step _ rest.0 facts moves tagged leads rest.1 its)
heads_moved home g p entry after words work its_step events made facts moves tagged leads takes (PublishesOne slot addr is stands) =
    publish_stepped home g p addr (won_entry slot addr) entry after (facts slot addr is stands (takes_one its_step addr _ made takes refl))
    (subst (λ x. EntriesMove x entry after p) (ap (won_there words) is ∙ entry_is_won words slot addr stands) moves) (tagged slot.home) leads

-- ---- each event of a life
abbrev entry_then : World → (ℕ → List ℕ) → List Event → Home → ℕ
entry_then opening lists events = entry_at (run opening events).now.places (run opening events).now.words (lists_seen opening lists events)

abbrev HeadsStepped : World → (ℕ → List ℕ) → Ghosts → List Event → Event → Type 0
HeadsStepped opening lists ghosts before event =
    Stepped (home_in opening.now.shape.bucket_bits) (life_ghosts opening ghosts before) (ghost_events (serials_in opening.now) (run opening before) event) (run opening before).now.places (entry_then opening lists (event ∷ before))

event_stepped : (opening : World) (start : ℕ) (lists : ℕ → List ℕ) (ghosts : Ghosts) (before : List Event) (event : Event)
    → guard.IsOpened opening.now start → index.IsOpened opening lists → IsUnbornFrom (tail_at opening.now) ghosts → ReservesNothing ghosts
    → LeadToHeads (run opening before).now (lists_seen opening lists before) (life_ghosts opening ghosts before).log
    → EventWon (run opening before).now event (ghost_events (serials_in opening.now) (run opening before) event) → HeadsStepped opening lists ghosts before event
event_stepped opening start lists ghosts before event opened in_order none free leads (Quiet leave lost) =
    quietly_stepped _ _ (ghost_events (serials_in opening.now) (run opening before) event) (run opening before).now.places (entry_then opening lists before) (entry_then opening lists (event ∷ before)) leave
    (subst (λ x. EntriesMove x (entry_then opening lists before) (entry_then opening lists (event ∷ before)) (run opening before).now.places) lost (life_moves opening lists event before in_order).entries) leads
event_stepped opening start lists ghosts before event opened in_order none free leads (ByMove number s is got won shows) =
    let n : Now = (run opening before).now in
    let its_step : TheStep = step_of (seat_at n number) s (reply_to n.words (session_ask (seat_at n number) s)) in
    let events : List GhostEvent = ghost_events (serials_in opening.now) (run opening before) event in
    let makes = life_makes opening start before event opened in
    let same : step_at n event ≡ its_step = ap (step_at n) is ∙ ap (mover_step n number) got in
    heads_moved (home_in opening.now.shape.bucket_bits) (life_ghosts opening ghosts before) n.places (entry_then opening lists before) (entry_then opening lists (event ∷ before)) n.words (session_part s).work its_step events makes.made
    (λ slot addr work stands published. life_publishing opening start lists ghosts before number s slot addr opened in_order none free got work stands published)
    (subst (λ x. EntriesMove x (entry_then opening lists before) (entry_then opening lists (event ∷ before)) n.places) won (life_moves opening lists event before in_order).entries)
    (λ its_home. entry_tagged n (lists_seen opening lists before) its_home) leads
    (subst (λ (x : TheStep). TakesEffect x events makes.made) same makes.takes) shows

-- ---- and all of it
abbrev LifeStepped : World → (ℕ → List ℕ) → Ghosts → List Event → Type 0
LifeStepped opening lists ghosts events = Stepped (home_in opening.now.shape.bucket_bits) ghosts (mapped opening events) (run opening events).now.places (entry_then opening lists events)

opening_stepped : (opening : World) (lists : ℕ → List ℕ) (ghosts : Ghosts) → LeadToHeads opening.now lists ghosts.log → LifeStepped opening lists ghosts []
unfolding mapped run ghost_run AllMeetHeads
opening_stepped opening lists ghosts leads = record { leads = subst (λ (x : ℕ → List ℕ). LeadToHeads opening.now x ghosts.log) (sym (lists_first opening lists)) leads; meets = tt }

places_same : (opening : World) (event : Event) (before : List Event) → (run opening (event ∷ before)).now.places ≡ (run opening before).now.places
places_same opening event before = places_stay opening (event ∷ before) ∙ sym (places_stay opening before)

more_stepped : (opening : World) (lists : ℕ → List ℕ) (ghosts : Ghosts) (before : List Event) (event : Event) → LifeStepped opening lists ghosts before → HeadsStepped opening lists ghosts before event → LifeStepped opening lists ghosts (event ∷ before)
unfolding mapped
more_stepped opening lists ghosts before event s t =
    let home : ℕ → ℕ = home_in opening.now.shape.bucket_bits in
    let later : List GhostEvent = ghost_events (serials_in opening.now) (run opening before) event in
    let after : Home → ℕ = entry_then opening lists (event ∷ before) in
    record {
      leads = subst (λ (p : Places). LeadTo p after (ghost_run home ghosts (later ++ mapped opening before)).log) (sym (places_same opening event before))
          (subst (λ (x : Ghosts). LeadTo (run opening before).now.places after x.log) (sym (run_on home ghosts later (mapped opening before))) t.leads);
      meets = meets_on home ghosts later (mapped opening before) t.meets s.meets;
    }

pub life_stepped : (opening : World) (start : ℕ) (lists : ℕ → List ℕ) (ghosts : Ghosts) (events : List Event)
    → guard.IsOpened opening.now start → index.IsOpened opening lists → IsUnbornFrom (tail_at opening.now) ghosts → ReservesNothing ghosts → LeadToHeads opening.now lists ghosts.log
    → LifeStepped opening lists ghosts events
life_stepped opening start lists ghosts [] opened in_order none free leads = opening_stepped opening lists ghosts leads
life_stepped opening start lists ghosts (event ∷ before) opened in_order none free leads =
    let s = life_stepped opening start lists ghosts before opened in_order none free leads in
    let asks = life_asks opening lists before in_order (are_permitted opening lists before in_order) in
    more_stepped opening lists ghosts before event s
    (event_stepped opening start lists ghosts before event opened in_order none free s.leads (event_won (serials_in opening.now) (run opening before) (lists_seen opening lists before) event asks))

pub life_leads : (opening : World) (start : ℕ) (lists : ℕ → List ℕ) (ghosts : Ghosts) (events : List Event)
    → guard.IsOpened opening.now start → index.IsOpened opening lists → IsUnbornFrom (tail_at opening.now) ghosts → ReservesNothing ghosts → LeadToHeads opening.now lists ghosts.log
    → LeadToHeads (run opening events).now (lists_seen opening lists events) (life_ghosts opening ghosts events).log
life_leads opening start lists ghosts events opened in_order none free leads = (life_stepped opening start lists ghosts events opened in_order none free leads).leads

pub life_meets : (opening : World) (start : ℕ) (lists : ℕ → List ℕ) (ghosts : Ghosts) (events : List Event)
    → guard.IsOpened opening.now start → index.IsOpened opening lists → IsUnbornFrom (tail_at opening.now) ghosts → ReservesNothing ghosts → LeadToHeads opening.now lists ghosts.log
    → AllMeetHeads (home_in opening.now.shape.bucket_bits) ghosts (mapped opening events)
life_meets opening start lists ghosts events opened in_order none free leads = (life_stepped opening start lists ghosts events opened in_order none free leads).meets

-- ---- what a search comes to
found_head : (entry head : ℕ) (its : Found) → entry_addr entry ≡ head → IsEntryFound entry its → IsHeadFound head its
found_head entry head (Slot place word) leads found = sym (ap entry_addr found) ∙ leads
found_head entry head NoSlot leads found = sym leads ∙ ap entry_addr found
found_head entry head Full leads found = tt
found_head entry head Kept leads found = tt
found_head entry head Contended leads found = tt

pub answered_head : (entry head : ℕ) (ask : Ask FindAnswer) → entry_addr entry ≡ head → IsEntryAnswered entry ask → IsHeadAnswered head ask
answered_head entry head (Done its) leads found = found_head entry head its.found leads found
answered_head entry head ask leads found = tt

searches_then : (work : SessionWork) (its : Search) → search_in work ≡ Some its → work ≡ Searches its
searches_then NoWork its same = cc
searches_then (Searches other) its same = let is : other ≡ its = cc in ap Searches is
searches_then (KeepsSlot slot) its same = cc
searches_then (PublishesEntry slot addr) its same = cc

-- an ask that is passed on is replied to as it is
passed_reply : {A B : Type 0} (words : List ℕ) (ask : Ask A) (its : B) → reply_to words (passed ask its) ≡ reply_to words ask
unfolding passed
passed_reply words (Load place) its = refl
passed_reply words (Store place new) its = refl
passed_reply words (Swap place new) its = refl
passed_reply words (Cas place old new) its = refl
passed_reply words (Add place k) its = refl
passed_reply words (Max place k) its = refl
passed_reply words (Put slot action) its = refl
passed_reply words (Take slot) its = refl
passed_reply words (Done answer) its = refl

pub life_found : (opening : World) (start : ℕ) (lists : ℕ → List ℕ) (ghosts : Ghosts) (events : List Event)
    → guard.IsOpened opening.now start → index.IsOpened opening lists → IsUnbornFrom (tail_at opening.now) ghosts → ReservesNothing ghosts → LeadToHeads opening.now lists ghosts.log
    → AreHeadsFound (run opening events).now (life_ghosts opening ghosts events).log
life_found opening start lists ghosts events opened in_order none free leads number s its got searches =
    let n : Now = (run opening events).now in
    let seen : ℕ → List ℕ = lists_seen opening lists events in
    let permitted = are_permitted opening lists events in_order in
    let answered = answers_shown n (seen_by_index opening lists events) (life_sound opening lists events in_order) (life_shows opening lists events in_order permitted) number s its got searches in
    let log : Log = (life_ghosts opening ghosts events).log in
    let work : (session_part s).work ≡ Searches its = searches_then (session_part s).work its searches in
    let home : its.finding.home ≡ home_attempted n s = subst (λ (x : SessionWork). IsWorkAt (home_attempted n s) x) work (life_at_home opening lists events in_order number s got).work in
    let buckets : n.places.buckets ≡ 2 ^ n.shape.bucket_bits = rw (places_stay opening events, shape_stays opening events) in_order.buckets in
    let there : IsHome n.places its.finding.home = subst (λ (h : Home). IsHome n.places h) (sym home) (homes_are_there n.places n.shape.bucket_bits (key_of s.attempt.pending.request.op) buckets) in
    let found : IsHeadAnswered (head_at log its.finding.home) (find_next_ask n.places its.finding (reply_to n.words (find_ask its.finding))) =
    answered_head (entry_at n.places n.words seen its.finding.home) (head_at log its.finding.home) (find_next_ask n.places its.finding (reply_to n.words (find_ask its.finding)))
    (head_addr n seen log its.finding.home (life_leads opening start lists ghosts events opened in_order none free leads) there) answered.its_entry in
    let asks : session_ask (seat_at n number) s ≡ passed (find_ask its.finding) Slept = (life_asks opening lists events in_order permitted number s got).searches its work in
    let reply : reply_to n.words (find_ask its.finding) ≡ reply_to n.words (session_ask (seat_at n number) s) = sym (passed_reply n.words (find_ask its.finding) Slept) ∙ sym (ap (reply_to n.words) asks) in
    record {
      found = found;
      replied = subst (λ (h : Home). IsHeadAnswered (head_at log h) (find_next_ask n.places its.finding (reply_to n.words (session_ask (seat_at n number) s)))) home
          (subst (λ (x : ℕ). IsHeadAnswered (head_at log its.finding.home) (find_next_ask n.places its.finding x)) reply found);
    }
