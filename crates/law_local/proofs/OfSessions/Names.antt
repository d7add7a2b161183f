-- The names of the requests that wait behind a reply.
use Rattle.std.proofs.Common.{◌≡◌, ℕ, ◌∙◌, zero, suc, refl, sym, ap, subst, Bool, true, false, List, [], ◌∷◌, ◌++◌}
use Rattle.std.specs.Prelude.{Option, Some, None, if◌then◌else◌, slice_get, slice_set}
use Rattle.std.specs.List.{remove}
use Rattle.fkv_plane.specs.declared.asks.Ask.{Ask}
use Rattle.fkv_plane.specs.declared.asks.Ask.TheVariants.{Done}
use Rattle.fkv_latch.specs.declared.latching.LatchAnswer.{LatchAnswer}
use Rattle.fkv_latch.specs.declared.latching.LatchAnswer.TheVariants.{Taken as LatchTaken}
use Rattle.fkv_latch.specs.Latching.{latch_next_ask}
use Rattle.fkv_ops.specs.declared.answers.TryAnswer.{TryAnswer}
use Rattle.fkv_pending.specs.declared.pending_requests.PendingRequest.{PendingRequest}
use Rattle.fkv_pending.specs.declared.pending_requests.RequestName.{RequestName}
use Rattle.fkv_pending.specs.Pending.{with_latch}
use Rattle.fkv_session.specs.declared.catching_up.Catching.{Catching}
use Rattle.fkv_session.specs.declared.catching_up.Catching.TheVariants.{Latches}
use Rattle.fkv_session.specs.declared.sessions.Sitting.{Sitting}
use Rattle.fkv_session.specs.declared.sessions.Sitting.TheVariants.{Attempts, CatchesUp, Polls}
use Rattle.fkv_session.specs.Accounts.{names_of}
use Rattle.fkv_session.specs.CatchingUp.{CatchState, latched, latch_marked, catching_requests}
use Rattle.fkv_session.specs.Sessions.{SessionState, Seat, bits_of, room_of, is_finished, name_of, session_next}
use Rattle.fkv_session.proofs.Shown.{attempt_keeps}
use Rattle.law_local.specs.Sessions.Inputs.{AttemptsBy, AttemptsSo}
use Rattle.law_local.specs.Sessions.Known.{is_accepted, attempt_after, attempt_comes_to}
use Rattle.law_local.specs.Sessions.Moves.{with_accepted, with_polled, requests_at, NamesMove, NamesStay, NextComes, NameGoes}
use Rattle.law_local.proofs.OfSessions.Moves.{next_requests}

names_behind : (requests : List PendingRequest) (its : PendingRequest) (name : RequestName) → its.name ≡ name → names_of (requests ++ its ∷ []) ≡ names_of requests ++ name ∷ []
names_behind [] its name same = ap (λ (x : RequestName). x ∷ []) same
names_behind (o ∷ rest) its name same = ap (λ (names : List RequestName). o.name ∷ names) (names_behind rest its name same)

names_left : (requests : List PendingRequest) (i : ℕ) → names_of (remove requests i) ≡ remove (names_of requests) i
names_left [] zero = refl
names_left [] (suc i) = refl
names_left (o ∷ rest) zero = refl
names_left (o ∷ rest) (suc i) = ap (λ (names : List RequestName). o.name ∷ names) (names_left rest i)

names_set : (requests : List PendingRequest) (i : ℕ) (its before : PendingRequest) → slice_get requests i ≡ Some before → its.name ≡ before.name → names_of (slice_set requests i its) ≡ names_of requests
names_set [] i its before got same = refl
names_set (o ∷ rest) zero its before got same =
    let one : before ≡ o = cc in
    ap (λ (x : RequestName). x ∷ names_of rest) (same ∙ ap (λ (pending : PendingRequest). pending.name) one)
names_set (o ∷ rest) (suc i) its before got same = ap (λ (names : List RequestName). o.name ∷ names) (names_set rest i its before got same)

accepted_names : (requests : List PendingRequest) (its : PendingRequest) (name : RequestName) (has_shifted : Bool) (ask : Ask TryAnswer) → its.name ≡ name → NamesMove name (names_of requests) (names_of (with_accepted requests its has_shifted ask))
accepted_names requests its name has_shifted (Done comes) same = by_test (is_accepted has_shifted comes)
  where
    by_test : (c : Bool) → NamesMove name (names_of requests) (names_of (if c then requests ++ its ∷ [] else requests))
    by_test true = NextComes (names_behind requests its name same)
    by_test false = NamesStay refl
accepted_names requests its name has_shifted ask same = NamesStay refl

polled_names : (requests : List PendingRequest) (its before : PendingRequest) (name : RequestName) (i : ℕ) (ask : Ask TryAnswer) → slice_get requests i ≡ Some before → its.name ≡ before.name → NamesMove name (names_of requests) (names_of (with_polled requests its i ask))
polled_names requests its before name i (Done comes) got same = by_test (is_finished comes)
  where
    by_test : (c : Bool) → NamesMove name (names_of requests) (names_of (if c then remove requests i else slice_set requests i its))
    by_test true = NameGoes i (names_left requests i)
    by_test false = NamesStay (names_set requests i its before got same)
polled_names requests its before name i ask got same = NamesStay refl

latched_names : (requests : List PendingRequest) (i : ℕ) (found : Option PendingRequest) → slice_get requests i ≡ found → names_of (latched requests i found) ≡ names_of requests
unfolding with_latch
latched_names requests i None got = refl
latched_names requests i (Some its) got = names_set requests i (with_latch its true) its got refl

marked_names : (requests : List PendingRequest) (i : ℕ) (ask : Ask LatchAnswer) → names_of (latch_marked requests i ask) ≡ names_of requests
unfolding latch_marked
marked_names requests i (Done LatchTaken) = latched_names requests i (slice_get requests i) refl
marked_names requests i ask = refl

caught_names : (c : CatchState) (requests : List PendingRequest) (step : Catching) (reply : ℕ) → names_of (catching_requests c requests step reply) ≡ names_of requests
unfolding catching_requests
caught_names c requests (Latches i) reply = marked_names requests i (latch_next_ask c.latching reply)
caught_names c requests step reply = refl

at_names : (k : Seat) (s : SessionState) (step : Sitting) (reply : ℕ) → AttemptsBy k s step → NamesMove (name_of s) (names_of s.requests) (names_of (requests_at k s step reply))
at_names k s (Attempts has_shifted) reply so =
    let same = attempt_keeps k.places (bits_of k) (room_of k) k.number s.attempt reply in
    accepted_names s.requests (attempt_after k s reply).pending (name_of s) has_shifted (attempt_comes_to k s reply) (same.name ∙ so.same.name)
at_names k s (CatchesUp cause) reply so = NamesStay (caught_names s.catching s.requests s.catching.step reply)
at_names k s (Polls i) reply so =
    let same = attempt_keeps k.places (bits_of k) (room_of k) k.number s.attempt reply in
    polled_names s.requests (attempt_after k s reply).pending so.same.request (name_of s) i (attempt_comes_to k s reply) so.same.waits (same.name ∙ so.same.name)
at_names k s step reply so = NamesStay refl

-- where the session attempts what it should
pub next_names : (k : Seat) (s : SessionState) (reply : ℕ) → AttemptsSo k s → NamesMove (name_of s) (names_of s.requests) (names_of (session_next k s reply).requests)
next_names k s reply so = subst (λ (after : List PendingRequest). NamesMove (name_of s) (names_of s.requests) (names_of after)) (sym (next_requests k s reply)) (at_names k s s.step reply so)
