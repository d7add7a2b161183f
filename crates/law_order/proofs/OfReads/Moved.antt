-- A step of an attempt moves the reads of its session as far as the attempt comes, and leaves those that wait.
use Rattle.std.proofs.Common.{◌≡◌, ℕ, ◌∙◌, refl, sym, ap, subst, arith, Bool, true, false, List, [], ◌∷◌}
use Rattle.std.specs.Prelude.{Option, Some, slice_get}
use Rattle.std.proofs.lemmas.Option.{slice_get-map}
use Rattle.std.specs.Option.{option_map}
use Rattle.fkv_map.specs.declared.operations.Op.{Op}
use Rattle.fkv_map.specs.Keys.{key_of, as_number}
use Rattle.law_log.specs.Begins.{Live}
use Rattle.law_log.specs.Ghosts.{Ghosts, GhostEvent, Reading, ghost_run}
use Rattle.fkv_plane.specs.declared.asks.Ask.TheVariants.{Done}
use Rattle.fkv_plane.specs.Passing.{is_done}
use Rattle.law_commit.specs.Below.fkv_ops.DiskRecord.{DiskRecord}
use Rattle.law_commit.specs.Below.fkv_ops.TryAnswer.{TryAnswer}
use Rattle.law_commit.specs.Below.fkv_ops.TryAnswer.TheVariants as tried
use Rattle.law_commit.specs.Below.fkv_ops.Occasion.{Occasion}
use Rattle.law_commit.specs.Below.fkv_ops.Occasion.TheVariants.{Call as AtCall, Poll as AtPoll}
use Rattle.law_commit.specs.Below.fkv_ops.Bounds.{bounds_of}
use Rattle.law_commit.specs.Below.fkv_ops.Requests.{is_read}
use Rattle.law_commit.specs.Below.fkv_pending.TheAttempting.TheVariants.{Ended}
use Rattle.law_commit.specs.Below.fkv_pending.PendingRequest.{PendingRequest}
use Rattle.law_commit.specs.Below.fkv_pending.RequestName.{RequestName}
use Rattle.law_commit.specs.Below.fkv_pending.RequestName.TheVariants.{Update, Read}
use Rattle.law_commit.specs.Below.fkv_pending.Attempting.{AttemptState, is_poll, attempt_ask, attempt_next}
use Rattle.law_commit.proofs.Below.fkv_pending.Shown.{attempt_rests}
use Rattle.law_commit.specs.Below.fkv_session.Finished.{Finished}
use Rattle.law_commit.specs.Below.fkv_session.Finished.TheVariants as finished
use Rattle.law_commit.specs.Below.fkv_session.Sitting.TheVariants.{Attempts, Polls}
use Rattle.law_commit.specs.Below.fkv_session.Accounts.{names_of}
use Rattle.law_commit.specs.Below.fkv_session.Sessions.{SessionState, Seat, bits_of, room_of, finished_of, is_finished, attempt_moved}
use Rattle.law_commit.proofs.Below.fkv_session.Shown.{IsSameRequest, IsUnderWay, IsUpdateEnd, KnowsUpdate, attempt_ends, attempt_keeps, attempt_so}
use Rattle.law_commit.specs.Below.law_local.Sessions.Inputs.{IsAttemptAtCall, IsAttemptInPoll}
use Rattle.law_commit.specs.Below.law_local.Sessions.Known.{attempt_after, attempt_comes_to}
use Rattle.law_commit.proofs.Below.law_local.OfSessions.AttemptInputs.{attempt_goes}
use Rattle.law_commit.specs.Below.law_local.Tries.AttemptRows.{AttemptKnows, IsTrueOfAttempt}
use Rattle.law_commit.specs.Below.law_local.Tries.OnWay.{IsOrderly}
use Rattle.law_commit.specs.Below.law_local.Tries.ReadRows.{SoughtReads, AnsweredReads, AttemptReads}
use Rattle.law_commit.specs.Below.law_local.Tries.TryRows.{floor_in, key_in}
use Rattle.law_commit.proofs.Below.law_local.OfTries.ReadAttempts.{attempt_reads}
use Rattle.law_commit.specs.Below.fkv_world.Past.{Traced}
use Rattle.law_order.specs.Known.Told.{AreApart}
use Rattle.law_commit.specs.Below.law_refine.Events.Lines.{read_in_hand, read_waiting}
use Rattle.law_commit.specs.Below.law_refine.Events.Names.{is_read_name, IsNamedSo}
use Rattle.law_commit.specs.Below.law_refine.Events.Sessions.{attempt_ghosts, ticket_of}
use Rattle.law_order.specs.Reads.Reads.{SessionReadings, is_given, readings_of, WaitsSo, TriedAs, TriedSo, FinishedSo, AllFinished, SitsReads}
use Rattle.law_order.proofs.OfReads.Coming.{AllNamed, IsReadEnd, EndsAtCall, EndsInPoll, MovedSo}
use Rattle.law_order.proofs.OfReads.Numbers.{Numbered}
use Rattle.law_order.proofs.OfReads.ReadEnds.{AttemptEndsSo, attempt_read_ends}
use Rattle.law_order.proofs.OfReads.Touched.{AllTouch, IsItsRead, untouched, value_kept, attempt_touch, attempt_moves}

-- ---- the attempt's own read
-- what is known of an attempt that is replied to
pub record Replied (home : ℕ → ℕ) (g : Ghosts) (k : Seat) (a : AttemptState) (reply : ℕ) : Type 0 where
  pub orderly : IsOrderly home g.log
  pub live : Live (floor_in a.pending.request) home g.log
  pub knows : AttemptKnows home g.log a
  pub says : IsTrueOfAttempt home g.log k.places a a.step reply
  pub asks : is_done (attempt_ask k.places k.number a) ≡ false
  pub under_way : IsUnderWay a

abbrev pub after_reply : Seat → AttemptState → ℕ → AttemptState
after_reply k a reply = attempt_next k.places (bits_of k) (room_of k) k.number a reply

-- the log behind it
abbrev pub moved_ghosts_of : (ℕ → ℕ) → Ghosts → Seat → ℕ → AttemptState → ℕ → Ghosts
moved_ghosts_of home g k reader a reply = ghost_run home g (attempt_ghosts k reader a reply)

own_reads : (home : ℕ → ℕ) (g : Ghosts) (k : Seat) (reader : ℕ) (a : AttemptState) (reply : ℕ) → Replied home g k a reply → is_read a.pending.request.op ≡ true → AttemptReads (key_in a.pending.request) (g.reads reader) a a.step
    → AttemptReads (key_in (after_reply k a reply).pending.request) ((moved_ghosts_of home g k reader a reply).reads reader) (after_reply k a reply) (after_reply k a reply).step
own_reads home g k reader a reply its read goes =
    let after : AttemptState = after_reply k a reply in
    let keeps = attempt_keeps k.places (bits_of k) (room_of k) k.number a reply in
    let same : key_in after.pending.request ≡ key_in a.pending.request = ap (λ (op : Op). (key_of op).0) keeps.op in
    subst (λ key. AttemptReads key ((moved_ghosts_of home g k reader a reply).reads reader) after after.step) (sym same)
    (subst (λ reading. AttemptReads (key_in a.pending.request) reading after after.step) (sym (attempt_moves home g k reader a reply read its.knows.row))
    (attempt_reads home g.log k.places (bits_of k) (room_of k) k.number (g.reads reader) a reply its.orderly its.live its.knows read its.asks its.says goes))

-- how it ends
ended_at : (home : ℕ → ℕ) (g : Ghosts) (k : Seat) (a : AttemptState) (reply : ℕ) (its : TryAnswer) → Replied home g k a reply → attempt_ask k.places k.number (after_reply k a reply) ≡ Done its → (after_reply k a reply).step ≡ Ended its
ended_at home g k a reply its facts asks = attempt_ends k.places k.number (after_reply k a reply) its (attempt_rests k.places (bits_of k) (room_of k) k.number a reply facts.under_way.rests) asks

update_ends : (home : ℕ → ℕ) (g : Ghosts) (k : Seat) (a : AttemptState) (reply : ℕ) (its : TryAnswer) → Replied home g k a reply → attempt_ask k.places k.number (after_reply k a reply) ≡ Done its → is_read a.pending.request.op ≡ false → IsUpdateEnd its
update_ends home g k a reply its facts asks update =
    let after : AttemptState = after_reply k a reply in
    let keeps = attempt_keeps k.places (bits_of k) (room_of k) k.number a reply in
    let so = attempt_so k.places (bits_of k) (room_of k) k.number a reply facts.under_way.knows in
    subst (KnowsUpdate after) (ended_at home g k a reply its facts asks) (so.knows (ap is_read keeps.op ∙ update))

read_ends : (home : ℕ → ℕ) (g : Ghosts) (k : Seat) (a : AttemptState) (reply : ℕ) (its : TryAnswer) → Replied home g k a reply → attempt_ask k.places k.number (after_reply k a reply) ≡ Done its → is_read a.pending.request.op ≡ true → IsReadEnd its
read_ends home g k a reply its facts asks read =
    subst AttemptEndsSo (ended_at home g k a reply its facts asks) (attempt_read_ends home g.log k.places (bits_of k) (room_of k) k.number a reply read facts.knows.row facts.asks)

answered_at : (key : ℕ) (reading : Reading) (a : AttemptState) (its : TryAnswer) → a.step ≡ Ended its → AttemptReads key reading a a.step → AnsweredReads key reading a.pending.sought its
answered_at key reading a its at goes = subst (AttemptReads key reading a) at goes

-- ---- those that wait
-- one of another number
waits_still : (home : ℕ → ℕ) (g : Ghosts) (events : List GhostEvent) (trace : List Traced) (number : ℕ) (Such : ℕ → Type 0) (pending : PendingRequest) → AllTouch Such events
    → (is_read pending.request.op ≡ true → is_given number (ticket_of pending.name) trace ≡ true → Such (read_waiting number (ticket_of pending.name) trace) → ⊥) → WaitsSo (readings_of g.reads trace number) pending
    → WaitsSo (readings_of (ghost_run home g events).reads trace number) pending
waits_still home g events trace number Such pending all none waits read =
    let was = waits read in (
      was.0,
      subst (λ reading. SoughtReads (key_in pending.request) reading pending.sought) (sym (untouched Such home g events (read_waiting number (ticket_of pending.name) trace) all (none read was.0))) was.1,
    )

pub finished_still : (home : ℕ → ℕ) (g : Ghosts) (events : List GhostEvent) (trace : List Traced) (number : ℕ) (Such : ℕ → Type 0) (its : List Finished) → AllTouch Such events → AllFinished (readings_of g.reads trace number) its
    → AllFinished (readings_of (ghost_run home g events).reads trace number) its
finished_still home g events trace number Such [] all so = tt
finished_still home g events trace number Such (finished.Update serial reply ∷ rest) all so = (tt, finished_still home g events trace number Such rest all so.1)
finished_still home g events trace number Such (finished.Read ticket value ∷ rest) all so =
    ((so.0.0, (so.0.1.0, value_kept Such home g events (read_waiting number ticket.0 trace) so.0.1.0 (as_number value) all so.0.1.1)), finished_still home g events trace number Such rest all so.1)

-- ---- at a call
abbrev hand_ghosts : (ℕ → ℕ) → Ghosts → Seat → List Traced → AttemptState → ℕ → Ghosts
hand_ghosts home g k trace a reply = moved_ghosts_of home g k (read_in_hand k.number trace) a reply

never_poll : {X : Type 0} → false ≡ true → X
never_poll e = cc

call_tried : (home : ℕ → ℕ) (g : Ghosts) (k : Seat) (trace : List Traced) (s : SessionState) (reply : ℕ) → Replied home g k s.attempt reply → IsAttemptAtCall k s → TriedSo (readings_of g.reads trace k.number) s.attempt
    → TriedAs (readings_of (hand_ghosts home g k trace s.attempt reply).reads trace k.number) (attempt_after k s reply).pending false (attempt_after k s reply)
call_tried home g k trace s reply facts at goes read =
    let keeps = attempt_keeps k.places (bits_of k) (room_of k) k.number s.attempt reply in
    let was : is_read s.attempt.pending.request.op ≡ true = ap is_read (sym keeps.op) ∙ read in
    let so : TriedAs (readings_of g.reads trace k.number) s.attempt.pending false s.attempt = subst (λ (o : Occasion). TriedAs (readings_of g.reads trace k.number) s.attempt.pending (is_poll o) s.attempt) at.goes.its_occasion goes in
    (λ e. never_poll e, own_reads home g k (read_in_hand k.number trace) s.attempt reply facts was (so was).1)

call_ends : (home : ℕ → ℕ) (g : Ghosts) (k : Seat) (trace : List Traced) (s : SessionState) (reply : ℕ) (its : TryAnswer) → Replied home g k s.attempt reply → IsAttemptAtCall k s → TriedSo (readings_of g.reads trace k.number) s.attempt → AllNamed s.requests
    → attempt_comes_to k s reply ≡ Done its → EndsAtCall (readings_of (hand_ghosts home g k trace s.attempt reply).reads trace k.number) (attempt_moved k s reply) its
call_ends home g k trace s reply its facts at goes named asks =
    let after : AttemptState = attempt_after k s reply in
    let keeps = attempt_keeps k.places (bits_of k) (room_of k) k.number s.attempt reply in
    let op : after.pending.request.op ≡ s.op = keeps.op ∙ at.same.op in
    record {
      op = op;
      name = keeps.name ∙ at.same.name;
      named = named;
      reads = λ read.
          let reading : Reading = (hand_ghosts home g k trace s.attempt reply).reads (read_in_hand k.number trace) in
          let told : AnsweredReads (key_in after.pending.request) reading after.pending.sought its
          = answered_at (key_in after.pending.request) reading after its (ended_at home g k s.attempt reply its facts asks) (call_tried home g k trace s reply facts at goes (ap is_read op ∙ read)).1 in (
            read_ends home g k s.attempt reply its facts asks (ap is_read at.same.op ∙ read),
            subst (λ (o : Op). AnsweredReads (key_of o).0 reading after.pending.sought its) op told,
          );
      updates = λ update. update_ends home g k s.attempt reply its facts asks (ap is_read at.same.op ∙ update);
    }

pub call_moves : (home : ℕ → ℕ) (g : Ghosts) (k : Seat) (trace : List Traced) (s : SessionState) (has_shifted : Bool) (reply : ℕ) → Replied home g k s.attempt reply → IsAttemptAtCall k s → AllNamed s.requests → Numbered k.number trace true
    → SitsReads (readings_of g.reads trace k.number) s (Attempts has_shifted) → MovedSo (readings_of (hand_ghosts home g k trace s.attempt reply).reads trace k.number) k s (Attempts has_shifted) reply
call_moves home g k trace s has_shifted reply facts at named numbered so =
    let r : SessionReadings = readings_of (hand_ghosts home g k trace s.attempt reply).reads trace k.number in
    let goes = attempt_goes (bits_of k) s.seen (AtCall (bounds_of k.shape)) k.places (room_of k) k.number s.attempt reply at.goes in (
      λ index pending got. waits_still home g (attempt_ghosts k (read_in_hand k.number trace) s.attempt reply) trace k.number (IsItsRead s.attempt.pending.request.op (read_in_hand k.number trace)) pending (attempt_touch k (read_in_hand k.number trace) s.attempt reply)
          (λ read given such. let low = numbered.later refl (ticket_of pending.name) given in let same = such.1 in omega (arith, low, same)) (so.0 index pending got),
      subst (λ (o : Occasion). TriedAs r (attempt_after k s reply).pending (is_poll o) (attempt_after k s reply)) (sym goes.its_occasion) (call_tried home g k trace s reply facts at so.1),
      λ its asks. call_ends home g k trace s reply its facts at so.1 named asks,
    )

-- ---- in a poll
abbrev poll_reader : Seat → List Traced → AttemptState → ℕ
poll_reader k trace a = read_waiting k.number (ticket_of a.pending.name) trace

abbrev poll_ghosts : (ℕ → ℕ) → Ghosts → Seat → List Traced → AttemptState → ℕ → Ghosts
poll_ghosts home g k trace a reply = moved_ghosts_of home g k (poll_reader k trace a) a reply

was_polled : (g : Ghosts) (k : Seat) (trace : List Traced) (s : SessionState) (index : ℕ) → IsAttemptInPoll k s index → TriedSo (readings_of g.reads trace k.number) s.attempt → TriedAs (readings_of g.reads trace k.number) s.attempt.pending true s.attempt
was_polled g k trace s index at goes = subst (λ (o : Occasion). TriedAs (readings_of g.reads trace k.number) s.attempt.pending (is_poll o) s.attempt) at.goes.its_occasion goes

poll_tried : (home : ℕ → ℕ) (g : Ghosts) (k : Seat) (trace : List Traced) (s : SessionState) (index reply : ℕ) → Replied home g k s.attempt reply → IsAttemptInPoll k s index → TriedSo (readings_of g.reads trace k.number) s.attempt
    → TriedAs (readings_of (poll_ghosts home g k trace s.attempt reply).reads trace k.number) (attempt_after k s reply).pending true (attempt_after k s reply)
poll_tried home g k trace s index reply facts at goes read =
    let after : AttemptState = attempt_after k s reply in
    let keeps = attempt_keeps k.places (bits_of k) (room_of k) k.number s.attempt reply in
    let was : is_read s.attempt.pending.request.op ≡ true = ap is_read (sym keeps.op) ∙ read in
    let so = was_polled g k trace s index at goes was in
    let same : ticket_of after.pending.name ≡ ticket_of s.attempt.pending.name = ap ticket_of keeps.name in (
      λ e. ap (λ ticket. is_given k.number ticket trace) same ∙ so.0 refl,
      subst (λ ticket. AttemptReads (key_in after.pending.request) ((poll_ghosts home g k trace s.attempt reply).reads (read_waiting k.number ticket trace)) after after.step) (sym same)
          (own_reads home g k (poll_reader k trace s.attempt) s.attempt reply facts was so.1),
    )

-- what it tells where it is finished, and how far it has come where it is not
told_finished : (r : SessionReadings) (key : ℕ) (name : RequestName) (sought : Option DiskRecord) (its : TryAnswer) → is_finished its ≡ true → (is_read_name name ≡ true → IsReadEnd its × (r.given (ticket_of name) ≡ true) × AnsweredReads key (r.waiting (ticket_of name)) sought its)
    → FinishedSo r (finished_of name its)
told_finished r key (Update serial) sought (tried.Done reply) ends goes = tt
told_finished r key (Update serial) sought (tried.Found value) ends goes = tt
told_finished r key (Update serial) sought its ends goes = tt
told_finished r key (Read ticket) sought (tried.Done reply) ends goes = absurd (goes refl).0
told_finished r key (Read ticket) sought (tried.Found value) ends goes = let so = goes refl in (so.1, (key, so.2))
told_finished r key (Read ticket) sought tried.Absent ends goes = let so = goes refl in (so.1, (key, so.2))
told_finished r key (Read ticket) sought its ends goes = cc

left_waiting : (key : ℕ) (reading : Reading) (sought : Option DiskRecord) (its : TryAnswer) → is_finished its ≡ false → AnsweredReads key reading sought its → SoughtReads key reading sought
left_waiting key reading sought (tried.Done reply) waits goes = cc
left_waiting key reading sought (tried.Found value) waits goes = cc
left_waiting key reading sought tried.Absent waits goes = cc
left_waiting key reading sought its waits goes = goes

poll_ends : (home : ℕ → ℕ) (g : Ghosts) (k : Seat) (trace : List Traced) (s : SessionState) (index reply : ℕ) (its : TryAnswer) → Replied home g k s.attempt reply → IsAttemptInPoll k s index → TriedSo (readings_of g.reads trace k.number) s.attempt
    → IsNamedSo s.attempt.pending → attempt_comes_to k s reply ≡ Done its → EndsInPoll (readings_of (poll_ghosts home g k trace s.attempt reply).reads trace k.number) (attempt_after k s reply) its
poll_ends home g k trace s index reply its facts at goes named asks = record {
  finished = λ ends. told_finished r (key_in after.pending.request) after.pending.name after.pending.sought its ends
      (λ name.
      let read : is_read s.attempt.pending.request.op ≡ true = sym named ∙ (ap is_read_name (sym keeps.name) ∙ name) in
      let so = poll_tried home g k trace s index reply facts at goes (ap is_read keeps.op ∙ read) in (
        read_ends home g k s.attempt reply its facts asks read,
        so.0 refl,
        answered_at (key_in after.pending.request) (r.waiting (ticket_of after.pending.name)) after its (ended_at home g k s.attempt reply its facts asks) so.1,
      ));
  waits = λ ends read.
      let so = poll_tried home g k trace s index reply facts at goes read in (
        so.0 refl,
        left_waiting (key_in after.pending.request) (r.waiting (ticket_of after.pending.name)) after.pending.sought its ends
            (answered_at (key_in after.pending.request) (r.waiting (ticket_of after.pending.name)) after its (ended_at home g k s.attempt reply its facts asks) so.1),
      );
}
  where
    r : SessionReadings
    r = readings_of (poll_ghosts home g k trace s.attempt reply).reads trace k.number

    after : AttemptState
    after = attempt_after k s reply

    keeps : IsSameRequest (attempt_after k s reply).pending s.attempt.pending
    keeps = attempt_keeps k.places (bits_of k) (room_of k) k.number s.attempt reply

-- names that are apart
name_there : (requests : List PendingRequest) (index : ℕ) (its : PendingRequest) → slice_get requests index ≡ Some its → slice_get (names_of requests) index ≡ Some its.name
name_there requests index its got = slice_get-map (λ (p : PendingRequest). p.name) requests index ∙ ap (option_map (λ (p : PendingRequest). p.name)) got

one_name : (name other : RequestName) → is_read_name name ≡ true → is_read_name other ≡ true → ticket_of name ≡ ticket_of other → name ≡ other
one_name (Read ticket) (Read given) one two same = ap (λ (n : ℕ). Read (record { 0 = n })) same
one_name (Update serial) other one two same = cc
one_name name (Update serial) one two same = cc

one_place : (requests : List PendingRequest) (index other : ℕ) (its one : PendingRequest) → AreApart (names_of requests) → slice_get requests index ≡ Some its → slice_get requests other ≡ Some one → its.name ≡ one.name → index ≡ other
one_place requests index other its one apart got at same = apart index other one.name (name_there requests index its got ∙ ap Some same) (name_there requests other one at)

pub poll_moves : (home : ℕ → ℕ) (g : Ghosts) (k : Seat) (trace : List Traced) (s : SessionState) (index reply : ℕ) → Replied home g k s.attempt reply → IsAttemptInPoll k s index → AllNamed s.requests → IsNamedSo s.attempt.pending → AreApart (names_of s.requests)
    → Numbered k.number trace true → SitsReads (readings_of g.reads trace k.number) s (Polls index) → MovedSo (readings_of (poll_ghosts home g k trace s.attempt reply).reads trace k.number) k s (Polls index) reply
poll_moves home g k trace s index reply facts at named own_name apart numbered so =
    let goes = attempt_goes (bits_of k) s.seen AtPoll k.places (room_of k) k.number s.attempt reply at.goes in (
      λ i pending got other. waits_still home g (attempt_ghosts k (poll_reader k trace s.attempt) s.attempt reply) trace k.number (IsItsRead s.attempt.pending.request.op (poll_reader k trace s.attempt)) pending touch (λ read given such. clash i pending got other read given such) (so.0 i pending got other),
      subst (λ (o : Occasion). TriedAs r (attempt_after k s reply).pending (is_poll o) (attempt_after k s reply)) (sym goes.its_occasion) (poll_tried home g k trace s index reply facts at so.1),
      finished_still home g (attempt_ghosts k (poll_reader k trace s.attempt) s.attempt reply) trace k.number (IsItsRead s.attempt.pending.request.op (poll_reader k trace s.attempt)) s.finished touch so.2,
      λ its asks. poll_ends home g k trace s index reply its facts at so.1 own_name asks,
    )
  where
    r : SessionReadings
    r = readings_of (poll_ghosts home g k trace s.attempt reply).reads trace k.number

    touch : AllTouch (IsItsRead s.attempt.pending.request.op (poll_reader k trace s.attempt)) (attempt_ghosts k (poll_reader k trace s.attempt) s.attempt reply)
    touch = attempt_touch k (poll_reader k trace s.attempt) s.attempt reply

    clash : (i : ℕ) (pending : PendingRequest) → slice_get s.requests i ≡ Some pending → (i ≡ index → ⊥) → is_read pending.request.op ≡ true → is_given k.number (ticket_of pending.name) trace ≡ true
        → IsItsRead s.attempt.pending.request.op (poll_reader k trace s.attempt) (read_waiting k.number (ticket_of pending.name) trace) → ⊥
    clash i pending got other read given such =
        let tried_so = was_polled g k trace s index at so.1 such.0 in
        let ticket : ticket_of pending.name ≡ ticket_of s.attempt.pending.name = numbered.apart (ticket_of pending.name) (ticket_of s.attempt.pending.name) given (tried_so.0 refl) such.1 in
        let same : pending.name ≡ s.attempt.pending.name = one_name pending.name s.attempt.pending.name (named i pending got ∙ read) (own_name ∙ such.0) ticket in
        other (one_place s.requests i index pending at.same.request apart got at.same.waits (same ∙ at.same.name))
