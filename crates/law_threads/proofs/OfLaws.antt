-- The thread law, by clauses of the order law.
use Rattle.std.proofs.Common.{◌≡◌, ◌⊎◌, inl, inr, ℕ, ◌∙◌, ap, sym, subst, List, ◌++◌, append_assoc}
use Rattle.std.specs.FinMap.{get}
use mathlib.Core.Option.{some}
use lib.ListN.{get_elem?}
use Rattle.atomic_table.specs.Table.{State}
use Rattle.law_order.specs.Below.fkv_core.Openings.{IsOpeningWorld}
use Rattle.law_order.specs.Below.fkv_opening.Opened.{IsStoreOf}
use Rattle.law_order.specs.Below.fkv_opening.TheOpened.{Opened}
use Rattle.fkv_seats.specs.Kept.{SeesInOrder}
use Rattle.fkv_seats.specs.Rule.{AreAllowed, IsSeenBy, Ruled}
use Rattle.fkv_seats.proofs.Keeps.{allowed_last}
use Rattle.law_order.specs.Below.fkv_world.Runs.{World}
use Rattle.law_order.specs.Below.fkv_world.World.{Event, Now}
use Rattle.law_order.specs.OneHistory.EachLife.{InEachLife, IsLife, Life}
use Rattle.fkv_map.specs.History.{content}
use Rattle.fkv_map.specs.Map.{Map, reply_to_read}
use Rattle.fkv_map.specs.declared.history.HistoryEntry.{HistoryEntry}
use Rattle.fkv_map.specs.declared.operations.Reply.{Reply}
use Rattle.law_order.specs.Rules.InTime.{IsInTime, ReadsInTime}
use Rattle.law_order.specs.Rules.Ordered.{HasLegalHistory, OrdersItsCalls}
use Rattle.fkv_table.specs.declared.happenings.Happening.{Happening}
use Rattle.fkv_table.specs.Desks.{Slot, Knows}
use Rattle.fkv_table.specs.Planes.{plane}
use Rattle.law_threads.specs.Calls.{events_of}
use Rattle.law_threads.specs.Laws.{GoesOnFromWhatWasSeen, IsSeenIn, IsThreadLaw, IsWithin, SharesOneHistory}
use Rattle.law_threads.specs.Threads.{IsBeginning, history_seen}
use Rattle.law_threads.proofs.Histories.{begins_with}
use Rattle.law_threads.proofs.Numbers.{calls_fit}
use Rattle.law_threads.proofs.OfDone.{GivesSerialsInTurn, done_so}
use Rattle.law_threads.proofs.OfPolls.{finished_so, polls_so}
use Rattle.law_threads.proofs.OfReads.{reads_so}
use Rattle.law_threads.proofs.OfTickets.{GivesTicketsInTurn}
use Rattle.law_threads.proofs.OfRuns.{begins_so}

-- the order law's clauses of which the thread law makes use
pub record IsOrdered (o : Opened) (n : Now) (bytes : List ℕ) (events : List Event) : Type 0 where
  pub legal : HasLegalHistory o n bytes events
  pub ordered : OrdersItsCalls o n bytes events
  pub in_time : ReadsInTime o n bytes events

pub thread_law : GivesSerialsInTurn → GivesTicketsInTurn → {K : Type 0} (at : K → World) → IsThreadLaw at IsOrdered
thread_law in_turn tickets at = record {
  done = λ key o n bytes its over run law. done_so in_turn at key o n bytes its over run law.ordered;
  reads = λ key o n bytes its over run law. reads_so at key its run o n bytes over law.in_time;
  finished = λ key o n bytes its over run law. finished_so at key o n bytes its over run law.ordered;
  polled = λ key o n bytes asked poll over ran polled law few k reply its. polls_so tickets at key asked poll ran polled k reply its few o n bytes over law.in_time;
  history = λ key o n bytes its over run law. record { legal = law.legal; ordered = law.ordered; begins = begins_so at key its run n bytes };
}

-- where more is so of all that may stand in the list
abbrev Implies : {K : Type 0} → (K → World) → (Opened → Now → List ℕ → List Event → Type 0) → (Opened → Now → List ℕ → List Event → Type 0) → Type 0
Implies at If Then = (o : Opened) (n : Now) (bytes : List ℕ) (seen : List Happening) → IsStoreOf bytes o → IsOpeningWorld o n → AreAllowed (plane at) seen → If o n bytes (events_of seen) → Then o n bytes (events_of seen)

weaker : {K : Type 0} (at : K → World) (If Then : Opened → Now → List ℕ → List Event → Type 0) → Implies at If Then → IsThreadLaw at Then → IsThreadLaw at If
weaker at If Then so law = record {
  done = λ key o n bytes its over run it. law.done key o n bytes its over run (so o n bytes its.behind over.store over.begins run.allowed it);
  reads = λ key o n bytes its over run it. law.reads key o n bytes its over run (so o n bytes its.behind over.store over.begins run.allowed it);
  finished = λ key o n bytes its over run it. law.finished key o n bytes its over run (so o n bytes its.behind over.store over.begins run.allowed it);
  polled = λ key o n bytes asked poll over ran polled it. law.polled key o n bytes asked poll over ran polled (so o n bytes poll.behind over.store over.begins polled.allowed it);
  history = λ key o n bytes its over run it. law.history key o n bytes its over run (so o n bytes its.behind over.store over.begins run.allowed it);
}

abbrev life : Opened → Now → List ℕ → List Event → Life
life o n bytes events = record { bytes = bytes; opened = o; world = n; events = events }

is_life : {K : Type 0} (at : K → World) (o : Opened) (n : Now) (bytes : List ℕ) (seen : List Happening) → IsStoreOf bytes o → IsOpeningWorld o n → AreAllowed (plane at) seen → IsWithin o n bytes (events_of seen) → IsLife (life o n bytes (events_of seen))
is_life at o n bytes seen store begins may few = record { store = store; begins = begins; fits = calls_fit at seen may; few = few }

pub in_lives : {K : Type 0} (at : K → World) → InEachLife HasLegalHistory → InEachLife OrdersItsCalls → InEachLife ReadsInTime → IsThreadLaw at IsOrdered → IsThreadLaw at IsWithin
in_lives at legal ordered in_time law = weaker at IsWithin IsOrdered
    (λ o n bytes seen store begins may it.
    let its : Life = life o n bytes (events_of seen) in
    let is : IsLife its = is_life at o n bytes seen store begins may it in
    record { legal = legal its is; ordered = ordered its is; in_time = in_time its is })
    law

-- ---- what was seen before
history_goes_on : {K : Type 0} (at : K → World) (n : Now) (bytes : List ℕ) (less more : List Happening) → IsSeenBy (plane at) less more → IsBeginning (history_seen n bytes less) (history_seen n bytes more)
history_goes_on at n bytes less more seen = subst (λ (x : List Happening). IsBeginning (history_seen n bytes less) (history_seen n bytes x)) (sym seen.1) (begins_with n bytes seen.0 less)

-- what is read behind a history is read behind a beginning of it
read_sooner : (m : Map) (less first last : List HistoryEntry) (key : ℕ) (reply : Reply) → IsBeginning less first → IsInTime m first last key reply → IsInTime m less last key reply
read_sooner m less first last key reply begins its =
    let both : first ++ its.between ≡ less ++ (begins.newer ++ its.between) = ap (λ (x : List HistoryEntry). x ++ its.between) begins.whole ∙ append_assoc less begins.newer its.between in
    record {
      between = begins.newer ++ its.between;
      newer = its.newer;
      all = its.all ∙ (sym (append_assoc first its.between its.newer) ∙ (ap (λ (x : List HistoryEntry). x ++ its.newer) both ∙ append_assoc less (begins.newer ++ its.between) its.newer));
      value = its.value ∙ ap (λ (x : List HistoryEntry). reply_to_read (get (content m x) key)) both;
    }

pub goes_on : {K : Type 0} (at : K → World) → GoesOnFromWhatWasSeen at
goes_on at = record {
  history = λ n bytes less more seen. history_goes_on at n bytes less more seen;
  reads = λ o n bytes less more behind key reply seen its. read_sooner _ _ _ _ key.0 reply (history_goes_on at n bytes less more seen) its;
}

seen_in : {K : Type 0} (at : K → World) (n : Now) (bytes : List ℕ) (less more : List Happening) → IsSeenBy (plane at) less more → AreAllowed (plane at) more → IsSeenIn at n bytes less more
seen_in at n bytes less more seen may = record { seen = seen; allowed = may; history = history_goes_on at n bytes less more seen }

-- all that a pass has seen may stand in the list
seen_allowed : {K : Type 0} (at : K → World) (key : K) (s : State Slot (Knows K)) → Ruled (plane at) key s → (id : ℕ) (v : Knows K) → get_elem? s.views id ≡ some v → AreAllowed (plane at) v.seen
seen_allowed at key s ruled id v there =
    let fits = ruled.each id v there in allowed_last (plane at) fits.later v.seen (subst (AreAllowed (plane at)) fits.whole ruled.allowed)

pub shares : {K : Type 0} (at : K → World) → SeesInOrder (plane at) → SharesOneHistory at
shares at in_order key o n bytes s id other v u over ruled one two = by_side (in_order key s id other v u ruled one two)
  where
    by_side : IsSeenBy (plane at) v.seen u.seen ⊎ IsSeenBy (plane at) u.seen v.seen → IsSeenIn at n bytes v.seen u.seen ⊎ IsSeenIn at n bytes u.seen v.seen
    by_side (inl less) = inl (seen_in at n bytes v.seen u.seen less (seen_allowed at key s ruled other u two))
    by_side (inr more) = inr (seen_in at n bytes u.seen v.seen more (seen_allowed at key s ruled id v one))
