-- In a session's own run an effect is of the version at which its update was accepted.
use Rattle.std.proofs.Common.{◌≡◌, ℕ, zero, suc, ◌+◌, ◌⊎◌, inl, inr, ◌∙◌, List, [], ◌∷◌, ◌++◌, refl, arith, ap, sym, subst, Bool, true, false}
use Rattle.std.specs.Prelude.{Option, Some, None, ◌==◌, if◌then◌else◌, slice_get}
use Rattle.std.proofs.lemmas.Bool.Decides.{nat_tests}
use Rattle.fkv_base.specs.declared.numbers.Serial.{Serial}
use Rattle.fkv_base.specs.declared.numbers.Version.{Version}
use Rattle.fkv_map.specs.declared.history.HistoryEntry.{HistoryEntry}
use Rattle.fkv_map.specs.declared.operations.Op.{Op}
use Rattle.fkv_map.specs.declared.operations.Reply.{Reply}
use Rattle.law_refine.specs.Below.fkv_ops.TryAnswer.{TryAnswer}
use Rattle.law_refine.specs.Below.fkv_ops.TryAnswer.TheVariants as tried
use Rattle.law_refine.specs.Below.fkv_ops.Seen.{Seen}
use Rattle.law_refine.specs.Below.fkv_ops.Requests.{is_read}
use Rattle.law_refine.specs.Below.fkv_pending.TheAttempting.TheVariants.{Ended}
use Rattle.law_refine.specs.Below.fkv_pending.PendingRequest.{PendingRequest}
use Rattle.law_refine.specs.Below.fkv_pending.RequestName.{RequestName}
use Rattle.law_refine.specs.Below.fkv_pending.RequestName.TheVariants.{Update, Read}
use Rattle.law_refine.specs.Below.fkv_pending.Attempting.{AttemptState, attempt_ask, attempt_next}
use Rattle.law_refine.specs.Below.fkv_pending.Mailing.{mail_ask, mail_next}
use Rattle.law_refine.proofs.Below.fkv_pending.Shown.{AttemptRestsOrAsks, attempt_rests}
use Rattle.fkv_plane.specs.declared.asks.Ask.{Ask}
use Rattle.fkv_plane.specs.declared.asks.Ask.TheVariants.{Done}
use Rattle.fkv_epoch.specs.Leaving.{leave_ask, leave_next}
use Rattle.fkv_epoch.proofs.Shown.{none_some, some_same}
use Rattle.law_refine.specs.Below.fkv_session.Sitting.{Sitting}
use Rattle.law_refine.specs.Below.fkv_session.Sitting.TheVariants.{Idle, Attempts, CatchesUp, ClearsMail, Polls, StoresOwing, Turns, StoresCut, Leaves, LoadsDurable}
use Rattle.law_refine.specs.Below.fkv_session.CatchingUp.{catch_ask}
use Rattle.law_refine.specs.Below.fkv_session.OwnTurns.{own_turn_ask}
use Rattle.law_refine.specs.Below.fkv_session.Replies.{effects_told, op_called, serials_taken}
use Rattle.law_refine.specs.Below.fkv_session.Sessions.{IsOpened, Seat, SessionState, asks_after, attempt_ledto, attempt_moved, attempted, attempt_left, bits_of, caught, entry_of, is_busy, is_word_ask, own_turn_moved, room_of, session_ask, session_next, sitting_given, sitting_next, ticket_after}
use Rattle.law_refine.specs.Below.fkv_session.SessionRun.{Begins, Gets, Replies, SessionEvent, all_told, begins, session_happens, session_run}
use Rattle.law_refine.specs.Below.fkv_session.Versions.{AreAsTaken, IsAsTaken, IsVersion, TakenAt, WasTakenAt, taken_at_after, versions_taken}
use Rattle.law_refine.proofs.Below.fkv_session.Shown.{IsTold, attempt_ends, attempt_keeps, attempt_so, made_in, made_of, run_call, run_request, run_taken, run_told, run_version}
use Rattle.law_refine.proofs.Below.law_world.OfRuns.EffectStays.{leave_keeps, turn_keeps}
use Rattle.law_refine.proofs.OfEvents.SessionEffects.{called_keeps, catch_keeps, clear_keeps, polled_keeps, polls_keeps}
use Rattle.law_commit.specs.Accepted.{HasRisingVersion}
use Rattle.law_commit.specs.Versions.Effects.{IsTakenAt}
use Rattle.law_commit.proofs.Goes.{given_on}
use Rattle.law_commit.proofs.OfVersions.Requests.{AllTaken, Is, run_all}

-- ---- the effect of a reply is that of the attempt
abbrev effect_by : Seat → SessionState → Sitting → ℕ → Option HistoryEntry
effect_by k s (Attempts has_shifted) reply = (attempt_moved k s reply).effect
effect_by k s (Polls index) reply = (attempt_moved k s reply).effect
effect_by k s step reply = None

made_by_step : (k : Seat) (s : SessionState) (asks : ℕ) (step : Sitting) (reply : ℕ) → (sitting_next k (record s { asks = asks; effect = None }) step reply).effect ≡ effect_by k (record s { asks = asks; effect = None }) step reply
unfolding sitting_next
made_by_step k s asks (Idle its) reply = refl
made_by_step k s asks (Attempts has_shifted) reply =
    let after : SessionState = attempt_moved k (record s { asks = asks; effect = None }) reply in
    called_keeps after has_shifted (attempt_ask k.places k.number after.attempt)
made_by_step k s asks (Polls index) reply =
    let after : SessionState = attempt_moved k (record s { asks = asks; effect = None }) reply in
    polled_keeps k after index (attempt_ask k.places k.number after.attempt)
made_by_step k s asks (CatchesUp its) reply =
    let after : SessionState = caught k (record s { asks = asks; effect = None }) reply in
    catch_keeps k after its (catch_ask k.places k.number after.catching after.requests)
made_by_step k s asks ClearsMail reply = clear_keeps k (record s { asks = asks; effect = None; mailing = mail_next s.mailing reply }) (mail_ask k.number (mail_next s.mailing reply))
made_by_step k s asks (StoresOwing index) reply = polls_keeps k (record s { asks = asks; effect = None }) index
made_by_step k s asks (Turns its) reply =
    let after : SessionState = own_turn_moved k (record s { asks = asks; effect = None }) reply in
    turn_keeps after its (own_turn_ask k.shape after.own_turn)
made_by_step k s asks StoresCut reply = refl
made_by_step k s asks Leaves reply = leave_keeps (record s { asks = asks; effect = None; leaving = leave_next s.leaving }) (leave_ask k.number (leave_next s.leaving))
made_by_step k s asks LoadsDurable reply = refl

-- an effect is named as its request
record IsEntryOf (number : ℕ) (pending : PendingRequest) (name : RequestName) (made : Option Reply) (its : HistoryEntry) : Type 0 where
  reply : Reply
  made_so : made ≡ Some reply
  named : name ≡ Update its.serial
  op : pending.request.op ≡ its.op
  session : its.session ≡ number

entry_so : (number : ℕ) (pending : PendingRequest) (name : RequestName) (made : Option Reply) (its : HistoryEntry) → entry_of number pending name made ≡ Some its → IsEntryOf number pending name made its
entry_so number pending name None its e = cc
entry_so number pending (Update serial) (Some reply) its e =
    let same : record { session = number; serial = serial; op = pending.request.op; reply = reply } ≡ its = some_same _ its e in
    record {
      reply = reply;
      made_so = refl;
      named = ap (λ (x : HistoryEntry). Update x.serial) same;
      op = ap (λ (x : HistoryEntry). x.op) same;
      session = ap (λ (x : HistoryEntry). x.session) (sym same);
    }
entry_so number pending (Read ticket) (Some reply) its e = cc

-- ---- a call in hand whose update has taken effect
pub record InHand (s : SessionState) (serial version : ℕ) : Type 0 where
  pub has_shifted : Bool
  pub at : s.step ≡ Attempts has_shifted
  pub reply : Reply
  pub made : made_of s.attempt ≡ Some reply
  pub updates : is_read s.op ≡ false
  pub next : serial ≡ s.serial + 1
  pub its : version ≡ s.seen.version.0

pub in_hand_busy : (s : SessionState) (serial version : ℕ) → InHand s serial version → (is_busy s.step ≡ true) × (serial ≡ s.serial + 1) × (version ≡ s.seen.version.0)
in_hand_busy s serial version hand = (ap is_busy hand.at, hand.next, hand.its)

-- it goes on, or its serial is taken
abbrev GoesOn : SessionState → Bool → SessionState → Type 0
GoesOn s has_shifted a = (a.step ≡ Attempts has_shifted) × (a.attempt ≡ s.attempt) × (a.op ≡ s.op) × (a.serial ≡ s.serial) × (a.seen ≡ s.seen)

abbrev IsTaken : SessionState → SessionState → Type 0
IsTaken s a = (a.serial ≡ s.serial + 1) × (a.seen ≡ s.seen)

done_taken : (s : SessionState) (has_shifted : Bool) (its : TryAnswer) (reply : Reply) → made_of s.attempt ≡ Some reply → s.attempt.step ≡ Ended its → is_read s.op ≡ false → IsTaken s (attempted (attempt_left s) has_shifted its)
done_taken s has_shifted (tried.Done its) reply made ended updates = rw updates (refl, refl)
done_taken s has_shifted its reply made ended updates = none_some reply (sym (ap (made_in s.attempt) ended) ∙ made)

led_on : (k : Seat) (s : SessionState) (has_shifted : Bool) (reply : Reply) (ask : Ask TryAnswer) → attempt_ask k.places k.number s.attempt ≡ ask → s.step ≡ Attempts has_shifted → AttemptRestsOrAsks s.attempt → made_of s.attempt ≡ Some reply
    → is_read s.op ≡ false → GoesOn s has_shifted (attempt_ledto s has_shifted ask) ⊎ IsTaken s (attempt_ledto s has_shifted ask)
unfolding attempt_ledto
led_on k s has_shifted reply (Done its) asks at rests made updates = inr (done_taken s has_shifted its reply made (attempt_ends k.places k.number s.attempt its rests asks) updates)
led_on k s has_shifted reply ask asks at rests made updates = inl (at, refl, refl, refl, refl)

-- by a reply to its attempt
replied_on : (k : Seat) (s : SessionState) (asks : ℕ) (step : Sitting) (has_shifted : Bool) (reply : ℕ) (made : Reply) → s.step ≡ step → step ≡ Attempts has_shifted → AttemptRestsOrAsks s.attempt
    → made_of (attempt_next k.places (bits_of k) (room_of k) k.number s.attempt reply) ≡ Some made → is_read s.op ≡ false
    → GoesOn (attempt_moved k s reply) has_shifted (sitting_next k (record s { asks = asks; effect = None }) step reply) ⊎ IsTaken s (sitting_next k (record s { asks = asks; effect = None }) step reply)
unfolding sitting_next
replied_on k s asks (Attempts found) has_shifted reply made at same rests made_so updates =
    let after : SessionState = attempt_moved k (record s { asks = asks; effect = None }) reply in
    subst (λ (b : Bool). GoesOn (attempt_moved k s reply) b (attempt_ledto after found (attempt_ask k.places k.number after.attempt)) ⊎ IsTaken s (attempt_ledto after found (attempt_ask k.places k.number after.attempt)))
    (same_shift found has_shifted same)
    (led_on k after found made (attempt_ask k.places k.number after.attempt) refl at (attempt_rests k.places (bits_of k) (room_of k) k.number s.attempt reply rests) made_so updates)
  where
    same_shift : (b c : Bool) → Attempts b ≡ Attempts c → b ≡ c
    same_shift b c e = cc
replied_on k s asks step has_shifted reply made at same rests made_so updates = cc

-- what was taken stays so, and what is taken now is so
taken_more : (same : Bool) (serial at : ℕ) (op : Option Op) (taken : List TakenAt) (its version : ℕ) → IsTakenAt taken its version → IsTakenAt (taken_at_after same serial at op taken) its version
taken_more true serial at op taken its version was = was
taken_more false serial at None taken its version was = was
taken_more false serial at (Some op) taken its version was = inr was

run_more : (k : Seat) (first : SessionState) (event : SessionEvent) (before : List SessionEvent) (serial version : ℕ) → IsTakenAt (versions_taken k first before) serial version → IsTakenAt (versions_taken k first (event ∷ before)) serial version
unfolding versions_taken
run_more k first event before serial version was = taken_more _ _ _ _ (versions_taken k first before) serial version was

taken_now : (same : Bool) (serial at : ℕ) (op : Op) (found : Option Op) (taken : List TakenAt) → same ≡ false → found ≡ Some op → IsTakenAt (taken_at_after same serial at found taken) serial at
taken_now same serial at op found taken other is = rw (other, is) (inl (refl, refl))

-- ---- a moment of a run, at which the effect of a serial is of this version
abbrev pub IsSoAt : Seat → SessionState → List SessionEvent → ℕ → ℕ → Type 0
IsSoAt k first own serial version = IsTakenAt (versions_taken k first own) serial version ⊎ InHand (session_run k first own) serial version

told_at : (k : Seat) (first : SessionState) (own : List SessionEvent) (has_shifted : Bool) → IsOpened first → (session_run k first own).step ≡ Attempts has_shifted
    → IsTold k (effects_told k first own) (serials_taken k first own) (op_called k first own) (all_told k first own) (session_run k first own) (Attempts has_shifted)
told_at k first own has_shifted opened at =
    subst (λ (step : Sitting). IsTold k (effects_told k first own) (serials_taken k first own) (op_called k first own) (all_told k first own) (session_run k first own) step) at (run_told k first own opened)

-- behind a reply to a call's attempt, by which or before which its update took effect
hand_on : (k : Seat) (first : SessionState) (reply : ℕ) (before : List SessionEvent) (has_shifted : Bool) (made : Reply) (serial version : ℕ) → IsOpened first → (session_run k first before).step ≡ Attempts has_shifted
    → made_of (attempt_next k.places (bits_of k) (room_of k) k.number (session_run k first before).attempt reply) ≡ Some made → is_read (session_run k first before).op ≡ false
    → serial ≡ (session_run k first before).serial + 1 → version ≡ (session_run k first before).seen.version.0
    → IsSoAt k first (Replies reply ∷ before) serial version
unfolding session_run session_happens versions_taken op_called
hand_on k first reply before has_shifted made serial version opened at made_so updates next its =
    let s : SessionState = session_run k first before in
    let asks : ℕ = asks_after s.asks (is_word_ask (session_ask k s)) in
    let a : SessionState = sitting_next k (record s { asks = asks; effect = None }) s.step reply in
    elim (replied_on k s asks s.step has_shifted reply made refl at (told_at k first before has_shifted opened at).knows.under_way.rests made_so updates) [
      | inl goes ↦ inr (record {
        has_shifted = has_shifted;
        at = goes.0;
        reply = made;
        made = ap made_of goes.1 ∙ made_so;
        updates = ap is_read goes.2 ∙ updates;
        next = next ∙ ap (λ (n : ℕ). n + 1) (sym goes.3);
        its = its ∙ ap (λ (x : Seen). x.version.0) (sym goes.4);
      })
      | inr taken ↦
          let called = (run_call k first before has_shifted opened at).op in
          let other : (a.serial == s.serial) ≡ false = (let more = taken.0 in grind (arith, nat_tests, more)) in
          inl (subst (λ (v : ℕ). IsTakenAt (versions_taken k first (Replies reply ∷ before)) serial v) (ap (λ (x : Seen). x.version.0) taken.1 ∙ sym its)
          (subst (λ (n : ℕ). IsTakenAt (versions_taken k first (Replies reply ∷ before)) n a.seen.version.0) (taken.0 ∙ sym next)
          (taken_now (a.serial == s.serial) a.serial a.seen.version.0 _ (op_called k first before) (versions_taken k first before) other called)))
    ]

-- by an effect of its own, or none
abbrev MadeFrom : Option Reply → Option Reply → Option Reply → Type 0
MadeFrom None made before = made ≡ before
MadeFrom (Some its) made before = (made ≡ Some its) × (before ≡ None)

-- one more event of its own
stays_hand : (k : Seat) (first : SessionState) (event : SessionEvent) (before : List SessionEvent) (serial version : ℕ) → session_run k first (event ∷ before) ≡ session_run k first before → InHand (session_run k first before) serial version
    → IsSoAt k first (event ∷ before) serial version
stays_hand k first event before serial version same hand = inr (subst (λ (x : SessionState). InHand x serial version) (sym same) hand)

made_still : (made before : Option Reply) (effect : Option Reply) (reply : Reply) → MadeFrom effect made before → before ≡ Some reply → made ≡ Some reply
made_still made before None reply its was = its ∙ was
made_still made before (Some new) reply its was = none_some reply (sym its.1 ∙ was)

more_hand : (k : Seat) (first : SessionState) (event : SessionEvent) (before : List SessionEvent) (serial version : ℕ) → IsOpened first → InHand (session_run k first before) serial version → IsSoAt k first (event ∷ before) serial version
unfolding session_run session_happens
more_hand k first (Replies reply) before serial version opened hand =
    let s : SessionState = session_run k first before in
    let under_way = (told_at k first before hand.has_shifted opened hand.at).knows.under_way in
    let so = attempt_so k.places (bits_of k) (room_of k) k.number s.attempt reply under_way.knows in
    hand_on k first reply before hand.has_shifted hand.reply serial version opened hand.at (made_still _ (made_of s.attempt) _ hand.reply so.made hand.made) hand.updates hand.next hand.its
more_hand k first (Begins call) before serial version opened hand =
    let s : SessionState = session_run k first before in
    let busy : is_busy s.step ≡ true = ap is_busy hand.at in
    stays_hand k first (Begins call) before serial version (ap (λ (b : Bool). begins k s b call) busy) hand
more_hand k first (Gets action) before serial version opened hand =
    let s : SessionState = session_run k first before in
    stays_hand k first (Gets action) before serial version
    (ap (λ (step : Sitting). sitting_given k s step action) hand.at ∙ given_on k s (Attempts hand.has_shifted) action hand.at) hand

pub one_more : (k : Seat) (first : SessionState) (event : SessionEvent) (before : List SessionEvent) (serial version : ℕ) → IsOpened first → IsSoAt k first before serial version → IsSoAt k first (event ∷ before) serial version
one_more k first event before serial version opened (inl taken) = inl (run_more k first event before serial version taken)
one_more k first event before serial version opened (inr hand) = more_hand k first event before serial version opened hand

pub many_more : (k : Seat) (first : SessionState) (later before : List SessionEvent) (serial version : ℕ) → IsOpened first → IsSoAt k first before serial version → IsSoAt k first (later ++ before) serial version
many_more k first [] before serial version opened so = so
many_more k first (event ∷ later) before serial version opened so = one_more k first event (later ++ before) serial version opened (many_more k first later before serial version opened so)

-- ---- a reply by which an update takes effect
named_next : (s : SessionState) (reads : Bool) (serial : Serial) → is_read s.op ≡ reads → (if reads then Read (record { 0 = ticket_after s.ticket }) else Update (record { 0 = s.serial + 1 })) ≡ Update serial
    → (is_read s.op ≡ false) × (serial.0 ≡ s.serial + 1)
named_next s true serial r e = cc
named_next s false serial r e = let same : record { 0 = s.serial + 1 } ≡ serial = cc in (r, ap (λ (x : Serial). x.0) (sym same))

was_at : (low high serial : ℕ) (op : Op) (version : ℕ) (taken : List TakenAt) → AllTaken (Is low high) taken → WasTakenAt taken serial op version → IsTakenAt taken serial version
was_at low high serial op version [] all was = absurd was
was_at low high serial op version (it ∷ before) all (inl its) = inl (its.0, sym (its.1.1 all.0.1))
was_at low high serial op version (it ∷ before) all (inr was) = inr (was_at low high serial op version before all.1 was)

waits_at : (requests : List PendingRequest) (i : ℕ) (pending : PendingRequest) (taken : List TakenAt) → slice_get requests i ≡ Some pending → AreAsTaken taken requests → IsAsTaken taken pending.name pending.request.op pending.request.version.0
waits_at [] i pending taken got all = cc
waits_at (o ∷ rest) zero pending taken got all = let same : o ≡ pending = cc in subst (λ (x : PendingRequest). IsAsTaken taken x.name x.request.op x.request.version.0) same all.0
waits_at (o ∷ rest) (suc i) pending taken got all = waits_at rest i pending taken got all.1

polled_at : (low high serial : ℕ) (taken : List TakenAt) (name : RequestName) (op : Op) (version : Version) (at : ℕ) → AllTaken (Is low high) taken → IsAsTaken taken name op version.0 → (its : Serial) → name ≡ Update its → its.0 ≡ serial → version.0 ≡ at
    → IsTakenAt taken serial at
polled_at low high serial taken name op version at all was its named is of =
    let so : WasTakenAt taken its.0 op version.0 = subst (λ (x : RequestName). IsAsTaken taken x op version.0) named was in
    subst (λ (v : ℕ). IsTakenAt taken serial v) of (subst (λ (n : ℕ). IsTakenAt taken n version.0) is (was_at low high its.0 op version.0 taken all so))

made_new : (made before : Option Reply) (effect : Option Reply) (reply : Reply) → MadeFrom effect made before → effect ≡ Some reply → made ≡ Some reply
made_new made before None reply its e = none_some reply e
made_new made before (Some new) reply its e = its.0 ∙ e

born_by : (k : Seat) (first : SessionState) (reply : ℕ) (before : List SessionEvent) (step : Sitting) (its : HistoryEntry) → IsOpened first → IsVersion first.seen.version.0 → HasRisingVersion k first before → (session_run k first before).step ≡ step
    → effect_by k (record (session_run k first before) { asks = asks_after (session_run k first before).asks (is_word_ask (session_ask k (session_run k first before))); effect = None }) step reply ≡ Some its
    → IsSoAt k first (Replies reply ∷ before) its.serial.0 (session_run k first before).attempt.pending.request.version.0
born_by k first reply before (Attempts has_shifted) its opened fit rises at made =
    let s : SessionState = session_run k first before in
    let same = attempt_keeps k.places (bits_of k) (room_of k) k.number s.attempt reply in
    let next_state : AttemptState = attempt_next k.places (bits_of k) (room_of k) k.number s.attempt reply in
    let entry = entry_so k.number next_state.pending next_state.pending.name next_state.effect its made in
    let told = told_at k first before has_shifted opened at in
    let next = named_next s (is_read s.op) its.serial refl (sym told.knows.name ∙ (sym same.name ∙ entry.named)) in
    let so = attempt_so k.places (bits_of k) (room_of k) k.number s.attempt reply told.knows.under_way.knows in
    let own = (run_call k first before has_shifted opened at).version (run_version k first before opened fit) in
    hand_on k first reply before has_shifted entry.reply its.serial.0 s.attempt.pending.request.version.0 opened at (made_new _ (made_of s.attempt) _ entry.reply so.made entry.made_so) next.0 next.1 own
born_by k first reply before (Polls index) its opened fit rises at made =
    let s : SessionState = session_run k first before in
    let same = attempt_keeps k.places (bits_of k) (room_of k) k.number s.attempt reply in
    let next_state : AttemptState = attempt_next k.places (bits_of k) (room_of k) k.number s.attempt reply in
    let entry = entry_so k.number next_state.pending next_state.pending.name next_state.effect its made in
    let request = run_request k first before index opened at in
    let was = waits_at s.requests index request.request (versions_taken k first before) request.waits (run_taken k first before opened) in
    inl (run_more k first (Replies reply) before its.serial.0 s.attempt.pending.request.version.0
    (polled_at first.seen.version.0 s.seen.version.0 its.serial.0 (versions_taken k first before) request.request.name request.request.request.op request.request.request.version s.attempt.pending.request.version.0 (run_all k first before opened fit rises) was
    its.serial (sym request.name ∙ (sym same.name ∙ entry.named)) refl (ap (λ (v : Version). v.0) (sym request.version))))
born_by k first reply before step its opened fit rises at made = none_some its made

pub born_so : (k : Seat) (first : SessionState) (reply : ℕ) (before : List SessionEvent) (its : HistoryEntry) → IsOpened first → IsVersion first.seen.version.0 → HasRisingVersion k first before
    → (session_next k (session_run k first before) reply).effect ≡ Some its → IsSoAt k first (Replies reply ∷ before) its.serial.0 (session_run k first before).attempt.pending.request.version.0
born_so k first reply before its opened fit rises made =
    let s : SessionState = session_run k first before in
    let asks : ℕ = asks_after s.asks (is_word_ask (session_ask k s)) in
    born_by k first reply before s.step its opened fit rises refl (sym (made_by_step k s asks s.step reply) ∙ made)

-- and it is the session's own
attempt_own : (k : Seat) (s : SessionState) (reply : ℕ) (its : HistoryEntry) → (attempt_moved k s reply).effect ≡ Some its → its.session ≡ k.number
attempt_own k s reply its made =
    let after : AttemptState = attempt_next k.places (bits_of k) (room_of k) k.number s.attempt reply in
    (entry_so k.number after.pending after.pending.name after.effect its made).session

own_by : (k : Seat) (s : SessionState) (step : Sitting) (reply : ℕ) (its : HistoryEntry) → effect_by k s step reply ≡ Some its → its.session ≡ k.number
own_by k s (Attempts has_shifted) reply its made = attempt_own k s reply its made
own_by k s (Polls index) reply its made = attempt_own k s reply its made
own_by k s step reply its made = none_some its made

pub made_own : (k : Seat) (s : SessionState) (reply : ℕ) (its : HistoryEntry) → (session_next k s reply).effect ≡ Some its → its.session ≡ k.number
made_own k s reply its made =
    let asks : ℕ = asks_after s.asks (is_word_ask (session_ask k s)) in
    own_by k (record s { asks = asks; effect = None }) s.step reply its (sym (made_by_step k s asks s.step reply) ∙ made)
