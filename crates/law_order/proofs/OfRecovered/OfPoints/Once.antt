-- The effects of a session, once a version is over: one of each serial that it has given from the opening on, up to its point of that version.
use Rattle.std.proofs.Common.{◌≡◌, inl, inr, ℕ, ◌+◌, ◌<◌, ◌≤◌, List, arith, ap, subst}
use Rattle.law_commit.specs.Below.fkv_session.Accounts.{IsAnsweredOnce, names_of, number_of}
use Rattle.law_commit.specs.Below.fkv_session.Replies.{AreRepliesOfEffects, is_of}
use Rattle.law_commit.specs.Below.fkv_session.SessionRun.{SessionEvent, in_hand, session_run}
use Rattle.law_commit.specs.Below.fkv_session.Sessions.{IsOpened, Seat, SessionState, is_busy}
use Rattle.law_commit.specs.Below.fkv_session.Versions.{AreAsTaken, IsVersion, TakenAt, versions_taken}
use Rattle.law_commit.specs.Below.fkv_world.Opened.{HasBecome, effects_of, life_effects, life_told}
use Rattle.law_commit.specs.Below.fkv_world.OwnEvents.{session_events}
use Rattle.law_commit.specs.Below.fkv_world.Past.{Effect}
use Rattle.law_commit.specs.Below.fkv_world.Runs.{World, run}
use Rattle.law_commit.specs.Below.fkv_world.World.{Event, seat_at}
use Rattle.law_commit.specs.Accepted.{HasRisingVersion, NeverFall, count_upto, point, versions_accepted, versions_found, versions_of}
use Rattle.law_commit.specs.LastSerials.{serial_at, serial_of}
use Rattle.law_commit.specs.Quiet.{HasNoneUpto, OpensQuiet}
use Rattle.law_commit.specs.Versions.Effects.{HasEffectsOfItsVersions}
use Rattle.law_commit.proofs.OfPhases.LifeStages.{first_version, rising_version}
use Rattle.law_commit.proofs.OfVersions.Points.{run_follow}
use Rattle.law_commit.proofs.OfVersions.Requests.{run_all}
use Rattle.law_commit.proofs.Shown.{life_counted, life_risen}
use Rattle.law_log.specs.Trace.{IsIn}
use Rattle.law_order.proofs.OfRecovered.OfPoints.Counted.{one_least}
use Rattle.law_order.proofs.OfRecovered.OfPoints.Effects.{none_so}
use Rattle.law_order.proofs.OfRecovered.OfPoints.Waiting.{none_waits, taken_above, taken_upto}
use Rattle.law_commit.specs.Below.law_refine.Events.Names.{AreNamedSo}
use Rattle.law_commit.proofs.Below.law_refine.OfEvents.RequestNames.{life_named}
use Rattle.law_commit.proofs.Below.law_world.OfSessions.OwnRun.{opened_so}

just_one : (count : ℕ) → 1 ≤ count → count ≤ 1 → count ≡ 1
just_one count least most = omega (arith, least, most)

module _ (opening : World) (start : ℕ) (events : List Event) (opens : OpensQuiet opening start) (session : ℕ) (first its : SessionState) (became : HasBecome opening events session first its) where
  abbrev k : Seat
  k = seat_at opening.now session

  abbrev own : List SessionEvent
  own = session_events opening session events

  abbrev taken : List TakenAt
  taken = versions_taken k first own

  opened : IsOpened first
  opened = opened_so opening events session first its became

  rises : HasRisingVersion k first own
  rises = rising_version opening start events session first its became opens.guarded opens.seen.rests

  found : versions_accepted opening events session ≡ versions_of taken
  found = ap (versions_found opening events session) became.was

  falls : NeverFall its.seen.version.0 (versions_of taken)
  falls = subst (λ (versions : List ℕ). NeverFall its.seen.version.0 versions) found (life_risen opening events session first its became rises)

  begun : serial_at opening.now session ≡ first.serial
  begun = ap serial_of became.was

  -- the session's serial is no lower than as the life began
  no_lower : first.serial ≤ its.serial
  no_lower = let counts = life_counted opening events session first its became in let same = begun in omega (arith, counts, same)

  -- ---- none of the serials that were given before
  old_none : (n : ℕ) → n ≤ first.serial → (it : Effect) → it.entry.session ≡ session → it.entry.serial.0 ≡ n → HasEffectsOfItsVersions opening session first its events → IsIn it (run opening events).past.history → ⊥
  old_none n low it mine named effects there = elim (effects it there mine) [
    | inl was ↦ let above = taken_above first.serial it.entry.serial.0 it.version.0 taken (run_follow k first own opened) was in omega (arith, above, named, low)
    | inr next ↦ let after = next.1 in let up = no_lower in omega (arith, after, up, named, low)
  ]

  pub none_low : HasEffectsOfItsVersions opening session first its events → (n : ℕ) → n ≤ first.serial → number_of (is_of n) (effects_of session (run opening events).past.history) ≡ 0
  none_low effects n low = none_so session n (run opening events).past.history (λ it there mine named. old_none n low it mine named effects there)

  -- ---- one of each of those up to the point
  -- a serial up to the point is counted
  counted : (last n : ℕ) → n ≤ point opening events session last → n ≤ first.serial + count_upto last (versions_of taken)
  counted last n low = subst (λ (versions : List ℕ). n ≤ first.serial + count_upto last versions) found (let same = begun in omega (arith, low, same))

  pub one_there : AreAsTaken taken its.requests
      → ((n : ℕ) → first.serial < n → n ≤ its.serial → IsAnsweredOnce (life_told opening events session first) (names_of its.requests) (in_hand its.step its.finished) n)
      → AreRepliesOfEffects (life_effects opening events session first) (life_told opening events session first) (in_hand its.step its.finished) (is_busy its.step)
      → ((n : ℕ) → number_of (is_of n) (life_effects opening events session first) ≤ 1)
      → (last n : ℕ) → HasNoneUpto last its → first.serial < n → n ≤ point opening events session last → n ≤ its.serial → number_of (is_of n) (life_effects opening events session first) ≡ 1
  one_there are once replies most last n none above low given =
      let fit : IsVersion first.seen.version.0 = first_version opening session first its events became opens.seen.rests in
      let named : AreNamedSo its.requests = (life_named opening start events session its opens.guarded became.is_now).waiting in
      just_one (number_of (is_of n) (life_effects opening events session first))
      (one_least n (life_effects opening events session first) (life_told opening events session first) (names_of its.requests) (in_hand its.step its.finished) (is_busy its.step) replies (once n above given)
      (none_waits last n first.seen.version.0 (session_run k first own).seen.version.0 taken its.requests
      (λ version was. taken_upto first.serial last its.seen.version.0 n version taken (run_follow k first own opened) falls was (counted last n low))
      named (run_all k first own opened fit rises) are none.waiting))
      (most n)
