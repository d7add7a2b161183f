-- The rank by which a session goes never falls, and is never above the phase word's.
use Rattle.std.proofs.Common.{◌≡◌, ℕ, ◌+◌, ◌*◌, ◌≤◌, List, [], ◌∷◌, ◌++◌, refl, arith, ap, true}
use Rattle.std.specs.Prelude.{⊤, Some, slice_get}
use Rattle.fkv_base.specs.declared.phases.Phase.{Phase}
use Rattle.fkv_base.specs.declared.phases.Phase.TheVariants.{InProgress, Prepare, Rest, WaitFlush, WaitPending}
use Rattle.law_refine.specs.Below.fkv_ops.Seen.{Seen}
use Rattle.law_refine.specs.Below.fkv_ops.Trying.{is_prepare}
use Rattle.fkv_plane.specs.declared.places.SharedWord.TheVariants as one
use Rattle.fkv_plane.specs.Asked.{word_at}
use Rattle.fkv_plane.specs.Places.{shared_place}
use Rattle.law_refine.specs.Below.fkv_session.SessionRun.{SessionEvent, session_run}
use Rattle.law_refine.specs.Below.fkv_session.Sessions.{Seat, SessionState}
use Rattle.fkv_words.specs.declared.phase_words.PhaseSaid.{PhaseSaid}
use Rattle.fkv_words.specs.declared.phase_words.PhaseSaid.TheVariants.{Says, Spoiled}
use Rattle.fkv_words.specs.PhaseWords.{phase_said}
use Rattle.law_refine.specs.Below.fkv_world.Opened.{IsOpenedWorld}
use Rattle.law_refine.specs.Below.fkv_world.OwnEvents.{session_events, session_part_of}
use Rattle.law_refine.specs.Below.fkv_world.Runs.{World, run}
use Rattle.law_refine.specs.Below.fkv_world.World.{Event, Now, seat_at}
use Rattle.law_refine.proofs.Below.fkv_world.Shown.{same_seat, session_runs, session_runs_on}
use Rattle.law_refine.specs.Below.law_world.Guarded.Shows as guard
use Rattle.law_commit.specs.Floor.Stands.{OpensSeen}
use Rattle.law_commit.specs.Quiet.{rank_said}
use Rattle.law_commit.specs.Ranks.{rank}
use Rattle.law_commit.specs.Views.{IsSeenAs, Sight, View, rank_of, sight_in, sight_through, view_said}
use Rattle.law_commit.proofs.Measured.{HasRisen, IsBelow, higher}
use Rattle.law_commit.proofs.Telling.{TellAll, found_all}
use Rattle.law_commit.proofs.Sights.{Sees, life_sees}
use Rattle.law_commit.proofs.OfQuiet.Live.{rank_low}
use Rattle.law_commit.proofs.OfQuiet.Ranks.{rank_up}
use Rattle.law_commit.proofs.Rising.{through_each}

-- the rank that the phase word has, and the one by which a session goes
abbrev pub rank_in : List ℕ → ℕ
rank_in words = rank_said (phase_said (word_at words (shared_place one.Phase)))

abbrev pub seen_rank : Seen → ℕ
seen_rank seen = rank seen.phase seen.version.0

-- ---- what a higher rank tells
-- The version doesn't fall, and prepare leads on to no other phase of its version.
pub record IsOnward (seen after : Seen) : Type 0 where
  pub rises : seen.version.0 ≤ after.version.0
  pub stays : after.version.0 ≡ seen.version.0 → is_prepare seen.phase ≡ true → is_prepare after.phase ≡ true

pub rank_high : (phase : Phase) (version : ℕ) → 5 * version ≤ rank phase version + 3
rank_high Rest version = omega arith
rank_high Prepare version = omega arith
rank_high InProgress version = omega arith
rank_high WaitPending version = omega arith
rank_high WaitFlush version = omega arith

prepare_rank : (phase : Phase) (version : ℕ) → is_prepare phase ≡ true → rank phase version ≡ 5 * version + 1
prepare_rank Prepare version e = refl
prepare_rank Rest version e = cc
prepare_rank InProgress version e = cc
prepare_rank WaitPending version e = cc
prepare_rank WaitFlush version e = cc

stays_prepare : (phase : Phase) (version : ℕ) → 5 * version + 1 ≤ rank phase version → is_prepare phase ≡ true
stays_prepare Prepare version up = refl
stays_prepare Rest version up = absurd (omega (arith, up))
stays_prepare InProgress version up = absurd (omega (arith, up))
stays_prepare WaitPending version up = absurd (omega (arith, up))
stays_prepare WaitFlush version up = absurd (omega (arith, up))

pub rank_onward : (seen after : Seen) → seen_rank seen ≤ seen_rank after → IsOnward seen after
rank_onward seen after up =
    let high = rank_high seen.phase seen.version.0 in
    let low = rank_low after.phase after.version.0 in
    record {
      rises = omega (arith, up, high, low);
      stays = λ same prepares. (let its = prepare_rank seen.phase seen.version.0 prepares in stays_prepare after.phase after.version.0 (omega (arith, up, same, its)));
    }

-- ---- a sight
said_under : (words : List ℕ) (its : View) (said : PhaseSaid) → rank_of its ≤ rank_said said → (rank_of its ≤ rank_of (view_said words its said)) × (rank_of (view_said words its said) ≤ rank_said said)
said_under words its Spoiled under = (omega arith, under)
said_under words its (Says phase version) under = (under, omega arith)

-- ---- events of a session's own
pub record IsOn (top : ℕ) (seen after : Seen) : Type 0 where
  pub rises : seen_rank seen ≤ seen_rank after
  pub low : seen_rank after ≤ top

unfoldable AllOn : ℕ → Seat → SessionState → List SessionEvent → Type 0
AllOn top k s [] = ⊤
AllOn top k s (event ∷ before) = IsOn top (session_run k s before).seen (session_run k s (event ∷ before)).seen × AllOn top k s before

record GoOn (top : ℕ) (k : Seat) (s : SessionState) (events : List SessionEvent) (after : Sight) : Type 0 where
  under : IsBelow rank_of top after
  on : AllOn top k s events

same_rank : (its : View) (seen : Seen) → IsSeenAs its seen → seen_rank seen ≡ rank_of its
same_rank its seen as_seen = rw (as_seen.phase, as_seen.version) refl

on_so : (top : ℕ) (before after : Sight) (seen then_seen : Seen) → IsSeenAs before.view seen → IsSeenAs after.view then_seen → HasRisen rank_of top before after → IsOn top seen then_seen
on_so top before after seen then_seen one other risen =
    let was = same_rank before.view seen one in
    let is = same_rank after.view then_seen other in
    let rises = risen.rises in
    let low = risen.below.view in
    record { rises = omega (arith, was, is, rises); low = omega (arith, is, low) }

through_on : (words : List ℕ) (its : Sight) (k : Seat) (s : SessionState) (events : List SessionEvent) → IsBelow rank_of (rank_in words) its → Sees its s → TellAll words k s events
    → GoOn (rank_in words) k s events (sight_through words k s events its)
unfolding AllOn
through_on words its k s events under sees tells =
    let both = through_each rank_of rank_said said_under words its k s (λ events. AllOn (rank_in words) k s events) tt
    (λ event before was after goes_by goes_after risen past. (on_so (rank_in words) was after (session_run k s before).seen (session_run k s (event ∷ before)).seen goes_by goes_after risen, past)) events under sees tells in
    record { under = both.0; on = both.1 }

-- behind others of its own
unfoldable pub OwnOn : ℕ → Seat → SessionState → List SessionEvent → List SessionEvent → Type 0
OwnOn top k first own [] = ⊤
OwnOn top k first own (event ∷ later) = IsOn top (session_run k first (later ++ own)).seen (session_run k first (event ∷ later ++ own)).seen × OwnOn top k first own later

own_on : (top : ℕ) (k : Seat) (first : SessionState) (own part : List SessionEvent) → AllOn top k (session_run k first own) part → OwnOn top k first own part
unfolding AllOn OwnOn
own_on top k first own [] on = tt
own_on top k first own (event ∷ later) on = (rw (session_runs_on k first later own, session_runs_on k first (event ∷ later) own) on.0, own_on top k first own later on.1)

-- ---- over a life
module _ (opening : World) (start session : ℕ) (first : SessionState) (guarded : guard.IsOpened opening.now start) (opened : IsOpenedWorld opening) (opens : OpensSeen opening.now) (was : slice_get opening.now.sessions session ≡ Some first) where
  abbrev k : Seat
  k = seat_at opening.now session

  abbrev own : List Event → List SessionEvent
  own events = session_events opening session events

  opened_under : rank first.seen.phase first.seen.version.0 ≤ rank_in opening.now.words
  opened_under =
      let phase = opens.seen session first was in
      let version = opens.rests.seen session first was in
      let word : rank_in opening.now.words ≡ 5 * (opening.now.keeper.last.number.0 + 1) = ap rank_said opens.rests.says in
      let its : rank first.seen.phase first.seen.version.0 ≡ 5 * first.seen.version.0 = ap (λ (x : Phase). rank x first.seen.version.0) phase in
      omega (arith, version, word, its)

  part_on : (before : List Event) (event : Event) → IsBelow rank_of (rank_in (run opening before).now.words) (sight_in opening session first before)
      → GoOn (rank_in (run opening before).now.words) k (session_run k first (own before)) (session_part_of (run opening before).now session event)
      (sight_through (run opening before).now.words k (session_run k first (own before)) (session_part_of (run opening before).now session event) (sight_in opening session first before))
  part_on before event under =
      let now : Now = (run opening before).now in
      let s : SessionState = session_run k first (own before) in
      let tell = found_all now k s session event (slice_get now.sessions session) (session_runs opening session first before was) (same_seat opening before session) in
      through_on now.words (sight_in opening session first before) k s (session_part_of now session event) under (life_sees opening session first before (opened.sessions session first was)) tell

  pub life_under : (events : List Event) → IsBelow rank_of (rank_in (run opening events).now.words) (sight_in opening session first events)
  unfolding sight_in run
  life_under [] = record { view = opened_under; coming = tt }
  life_under (event ∷ before) =
      higher rank_of (rank_in (run opening before).now.words) (rank_in (run opening (event ∷ before)).now.words) _ (rank_up opening start before event guarded opened opens.rests) (part_on before event (life_under before)).under

  pub life_on : (before : List Event) (event : Event) → OwnOn (rank_in (run opening before).now.words) k first (own before) (session_part_of (run opening before).now session event)
  life_on before event = own_on (rank_in (run opening before).now.words) k first (own before) (session_part_of (run opening before).now session event) (part_on before event (life_under before)).on
