-- A session's search that links has met an empty chain at a moment before, and has been linking since.
use Rattle.std.proofs.Common.{◌≡◌, inl, inr, ℕ, ◌∙◌, List, [], ◌∷◌, length, refl, sym, ap, subst, arith, Bool, true, false}
use Rattle.std.specs.Prelude.{if◌then◌else◌, Option, Some, None, replicate, slice_get}
use Rattle.std.proofs.lemmas.Bool.Decides.{nat_tests}
use Rattle.fkv_map.specs.declared.operations.Call.{Call}
use Rattle.fkv_plane.specs.Asked.{reply_to}
use Rattle.fkv_index.specs.declared.finding.FindStep.TheVariants.{LoadsLink}
use Rattle.fkv_index.specs.declared.homes.Home.{Home}
use Rattle.fkv_index.specs.IndexWorld.{rested_actor}
use Rattle.fkv_index.specs.Slots.{link_of}
use Rattle.fkv_index.proofs.Shown.{homes_are_there}
use Rattle.law_refine.specs.Below.fkv_session.Sessions.{Seat, SessionState, is_busy, session_ask, session_begun}
use Rattle.law_refine.specs.Below.fkv_world.Actors.{is_of_session, session_goes}
use Rattle.law_refine.specs.Below.fkv_world.Runs.{World, happens, run}
use Rattle.law_refine.specs.Below.fkv_world.World.{Event, Calls, Moves, Now, life_goes, near, seat_at, session_calls, session_moves}
use Rattle.law_refine.proofs.Below.fkv_world.Shown.{is_over, lives, session_apart, session_written}
use Rattle.law_log.specs.Ghosts.{Ghosts}
use Rattle.law_refine.specs.Index.Finders.{IndexPart, Search, NoWork, Searches, session_part}
use Rattle.law_refine.specs.Index.Shows as index
use Rattle.law_refine.proofs.OfIndex.Moved.{moves_on}
use Rattle.law_refine.proofs.OfIndex.Permitted.{are_permitted}
use Rattle.law_refine.proofs.OfIndex.SessionParts.{Homes, SittingKnows, call_goes, idle_part}
use Rattle.law_refine.proofs.OfIndex.Worlds.{opening_holds, run_holds}
use Rattle.law_refine.specs.Events.GhostEvents.{life_ghosts}
use Rattle.law_refine.specs.Heads.Heads.{head_at}
use Rattle.law_commit.specs.Linked.{HasMetEmpty, HaveMetEmpty, IsLinking, LinksFor}
use Rattle.law_commit.proofs.OfCopied.Commits.{some_same}
use Rattle.law_commit.proofs.OfCopied.Leads.{HasHeads}
use Rattle.law_commit.proofs.OfLinked.Lives.{life_meets}
use Rattle.law_commit.proofs.OfLinked.Searches.{WorkFrom, work_from}

-- what a session knows between events, and where its homes are
record SeatKnows (n : Now) (number : ℕ) : Type 0 where
  homes : Homes (seat_at n number)
  knows : (s : SessionState) → slice_get n.sessions number ≡ Some s → SittingKnows n.places s s.step

seat_knows : (opening : World) (lists : ℕ → List ℕ) (events : List Event) (number : ℕ) → index.IsOpened opening lists → SeatKnows (run opening events).now number
seat_knows opening lists events number opened =
    let n : Now = (run opening events).now in
    let its = run_holds opening events (replicate (length opening.now.sessions) rested_actor) (are_permitted opening lists events opened) (opening_holds opening lists opened) in
    record { homes = λ key. homes_are_there n.places n.shape.bucket_bits key its.holds.buckets; knows = λ s got. (its.holds.seats number s got).knows }

-- ---- where a session's search was before an event
-- it was linking, or it loads no link by this event
data CameFrom (n : Now) (number : ℕ) (home : Home) : Type 0 where
  Linked : LinksFor n number home → CameFrom n number home
  Loaded : (s : SessionState) (its : Search) → slice_get n.sessions number ≡ Some s → (session_part s).work ≡ Searches its → its.finding.home ≡ home → its.finding.step ≡ LoadsLink
      → link_of (reply_to n.words (session_ask (seat_at n number) s)) ≡ 0 → CameFrom n number home

stayed : (n : Now) (number : ℕ) (s : SessionState) (its : Search) → slice_get n.sessions number ≡ Some s → (session_part s).work ≡ Searches its → IsLinking its.finding → CameFrom n number its.finding.home
stayed n number s its got searches links = Linked (record { s = s; got = got; its = its; searches = searches; of_home = refl; links = links })

came : (n : Now) (number : ℕ) (s : SessionState) (home : Home) → slice_get n.sessions number ≡ Some s → WorkFrom (reply_to n.words (session_ask (seat_at n number) s)) (session_part s).work home → CameFrom n number home
came n number s home got its = elim its.so [
  | inl links ↦ Linked (record { s = s; got = got; its = its.its; searches = its.was; of_home = its.of_home; links = links })
  | inr none ↦ Loaded s its.its got its.was its.of_home none.0 none.1
]

moved : (w : World) (number : ℕ) (before after : SessionState) (its : Search) → w.now.crashed ≡ false → SeatKnows w.now number → slice_get w.now.sessions number ≡ Some before → slice_get (happens w (Moves number)).now.sessions number ≡ Some after
    → is_of_session number (Moves number) ≡ true → (session_part after).work ≡ Searches its → IsLinking its.finding → CameFrom w.now number its.finding.home
unfolding session_goes
moved w number before after its alive seat got got_then own searches links =
    let n : Now = w.now in
    let k : Seat = seat_at n number in
    let goes = moves_on k (near n before) (session_ask k before) seat.homes refl (seat.knows before got) in
    let same = some_same _ after (sym (session_written w (Moves number) number before own alive got) ∙ got_then) in
    came n number before its.finding.home got
    (work_from n.places (reply_to n.words (session_ask k before)) (session_part before).work _ _ its goes.goes.goes.work (ap (λ (s : SessionState). (session_part s).work) same ∙ searches) links)

none_before : {X : Type 0} (reply : ℕ) (home : Home) → WorkFrom reply NoWork home → X
none_before reply home its = let never : NoWork ≡ Searches its.its = its.was in cc

called : (w : World) (number : ℕ) (call : Call) (before after : SessionState) (its : Search) → w.now.crashed ≡ false → SeatKnows w.now number → slice_get w.now.sessions number ≡ Some before → slice_get (happens w (Calls number call)).now.sessions number ≡ Some after
    → is_of_session number (Calls number call) ≡ true → (session_part after).work ≡ Searches its → IsLinking its.finding → CameFrom w.now number its.finding.home
unfolding session_goes
called w number call before after its alive seat got got_then own searches links =
    by_busy (is_busy before.step) (some_same _ after (sym (session_written w (Calls number call) number before own alive got) ∙ got_then))
  where
    k : Seat
    k = seat_at w.now number

    by_busy : (b : Bool) → (if b then before else session_begun k before call) ≡ after → CameFrom w.now number its.finding.home
    by_busy true same = stayed w.now number before its got (ap (λ (s : SessionState). (session_part s).work) same ∙ searches) links
    by_busy false same =
        let goes = call_goes k before call seat.homes in
        none_before 0 its.finding.home (work_from k.places 0 NoWork _ _ its goes.goes.work (ap (λ (s : SessionState). (session_part s).work) same ∙ searches) links)

-- an event of a session that isn't there
none_called : (w : World) (number : ℕ) (call : Call) → w.now.crashed ≡ false → slice_get w.now.sessions number ≡ None → slice_get (happens w (Calls number call)).now.sessions number ≡ None
unfolding life_goes
none_called w number call alive none =
    ap (λ (n : Now). slice_get n.sessions number) (lives w (Calls number call) alive) ∙ ap (λ (found : Option SessionState). slice_get (session_calls w.now number call found).sessions number) none ∙ none

none_moved : (w : World) (number : ℕ) → w.now.crashed ≡ false → slice_get w.now.sessions number ≡ None → slice_get (happens w (Moves number)).now.sessions number ≡ None
unfolding life_goes
none_moved w number alive none =
    ap (λ (n : Now). slice_get n.sessions number) (lives w (Moves number) alive) ∙ ap (λ (found : Option SessionState). slice_get (session_moves w.now number found).sessions number) none ∙ none

never_some : {X : Type 0} (found : Option SessionState) (s : SessionState) → found ≡ None → found ≡ Some s → X
never_some found s none some = let never : None ≡ Some s = sym none ∙ some in cc

own_call : (w : World) (number : ℕ) (call : Call) (found : Option SessionState) (after : SessionState) (its : Search) → w.now.crashed ≡ false → SeatKnows w.now number → slice_get w.now.sessions number ≡ found
    → slice_get (happens w (Calls number call)).now.sessions number ≡ Some after → is_of_session number (Calls number call) ≡ true → (session_part after).work ≡ Searches its → IsLinking its.finding → CameFrom w.now number its.finding.home
own_call w number call None after its alive seat was got own searches links = never_some _ after (none_called w number call alive was) got
own_call w number call (Some before) after its alive seat was got own searches links = called w number call before after its alive seat was got own searches links

own_move : (w : World) (number : ℕ) (found : Option SessionState) (after : SessionState) (its : Search) → w.now.crashed ≡ false → SeatKnows w.now number → slice_get w.now.sessions number ≡ found
    → slice_get (happens w (Moves number)).now.sessions number ≡ Some after → is_of_session number (Moves number) ≡ true → (session_part after).work ≡ Searches its → IsLinking its.finding → CameFrom w.now number its.finding.home
own_move w number None after its alive seat was got own searches links = never_some _ after (none_moved w number alive was) got
own_move w number (Some before) after its alive seat was got own searches links = moved w number before after its alive seat was got own searches links

own_event : (w : World) (event : Event) (number : ℕ) (after : SessionState) (its : Search) → w.now.crashed ≡ false → SeatKnows w.now number → slice_get (happens w event).now.sessions number ≡ Some after → is_of_session number event ≡ true
    → (session_part after).work ≡ Searches its → IsLinking its.finding → CameFrom w.now number its.finding.home
own_event w (Calls other call) number after its alive seat got own searches links =
    let same : other ≡ number = grind (arith, nat_tests, own) in
    own_call w number call (slice_get w.now.sessions number) after its alive seat refl (subst (λ (x : ℕ). slice_get (happens w (Calls x call)).now.sessions number ≡ Some after) same got)
    (subst (λ (x : ℕ). is_of_session number (Calls x call) ≡ true) same own) searches links
own_event w (Moves other) number after its alive seat got own searches links =
    let same : other ≡ number = grind (arith, nat_tests, own) in
    own_move w number (slice_get w.now.sessions number) after its alive seat refl (subst (λ (x : ℕ). slice_get (happens w (Moves x)).now.sessions number ≡ Some after) same got)
    (subst (λ (x : ℕ). is_of_session number (Moves x) ≡ true) same own) searches links
own_event w event number after its alive seat got own searches links = cc

came_from : (w : World) (event : Event) (number : ℕ) (after : SessionState) (its : Search) → SeatKnows w.now number → slice_get (happens w event).now.sessions number ≡ Some after → (session_part after).work ≡ Searches its → IsLinking its.finding
    → CameFrom w.now number its.finding.home
came_from w event number after its seat got searches links = by_crash w.now.crashed refl
  where
    by_owner : (own : Bool) → w.now.crashed ≡ false → is_of_session number event ≡ own → CameFrom w.now number its.finding.home
    by_owner true alive own = own_event w event number after its alive seat got own searches links
    by_owner false alive own = stayed w.now number after its (sym (session_apart w event number own) ∙ got) searches links

    by_crash : (over : Bool) → w.now.crashed ≡ over → CameFrom w.now number its.finding.home
    by_crash true over = stayed w.now number after its (subst (λ (x : World). slice_get x.now.sessions number ≡ Some after) (is_over w event over) got) searches links
    by_crash false alive = by_owner (is_of_session number event) alive refl

-- ---- a life
links_now : (n : Now) (number : ℕ) (s : SessionState) (its : Search) → slice_get n.sessions number ≡ Some s → (session_part s).work ≡ Searches its → IsLinking its.finding → LinksFor n number its.finding.home
links_now n number s its got searches links = record { s = s; got = got; its = its; searches = searches; of_home = refl; links = links }

met_before : (opening : World) (ghosts : Ghosts) (before : List Event) (event : Event) (number : ℕ) (home : Home) → LinksFor (run opening (event ∷ before)).now number home → HasMetEmpty opening ghosts before number home
    → HasMetEmpty opening ghosts (event ∷ before) number home
met_before opening ghosts before event number home now met = record {
  moment = met.moment;
  later = event ∷ met.later;
  split = ap (λ (x : List Event). event ∷ x) met.split;
  empty = met.empty;
  since = (subst (λ (x : List Event). LinksFor (run opening (event ∷ x)).now number home) met.split now, met.since);
}

met_now : (opening : World) (ghosts : Ghosts) (before : List Event) (event : Event) (number : ℕ) (home : Home) → LinksFor (run opening (event ∷ before)).now number home → head_at (life_ghosts opening ghosts before).log home ≡ 0
    → HasMetEmpty opening ghosts (event ∷ before) number home
met_now opening ghosts before event number home now empty = record { moment = before; later = event ∷ []; split = refl; empty = empty; since = (now, tt) }

on_from : (opening : World) (start : ℕ) (lists : ℕ → List ℕ) (ghosts : Ghosts) (before : List Event) (event : Event) (number : ℕ) (home : Home) → HasHeads opening start lists ghosts → HaveMetEmpty opening ghosts before
    → LinksFor (run opening (event ∷ before)).now number home → CameFrom (run opening before).now number home → HasMetEmpty opening ghosts (event ∷ before) number home
on_from opening start lists ghosts before event number home has was now (Linked from) =
    met_before opening ghosts before event number home now (subst (λ (x : Home). HasMetEmpty opening ghosts before number x) from.of_home (was number from.s from.its from.got from.searches from.links))
on_from opening start lists ghosts before event number home has was now (Loaded s its got searches of_home at none) =
    met_now opening ghosts before event number home now
    (subst (λ (x : Home). head_at (life_ghosts opening ghosts before).log x ≡ 0) of_home (life_meets opening start lists ghosts before has number s its got searches at none))

pub life_linked : (opening : World) (start : ℕ) (lists : ℕ → List ℕ) (ghosts : Ghosts) (events : List Event) → HasHeads opening start lists ghosts → HaveMetEmpty opening ghosts events
unfolding run
life_linked opening start lists ghosts [] has number s its got searches links =
    let never : NoWork ≡ Searches its = sym (ap (λ (x : IndexPart). x.work) (idle_part s s.step (has.in_order.sessions number s got).none_in_hand)) ∙ searches in cc
life_linked opening start lists ghosts (event ∷ before) has number s its got searches links =
    on_from opening start lists ghosts before event number its.finding.home has (life_linked opening start lists ghosts before has) (links_now (run opening (event ∷ before)).now number s its got searches links)
    (came_from (run opening before) event number s its (seat_knows opening lists before number has.in_order) got searches links)
