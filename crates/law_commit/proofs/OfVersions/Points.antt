-- A session's point of a version that it has left splits its effects by version.
use Rattle.std.proofs.Common.{◌≡◌, ℕ, ◌+◌, ◌<◌, ◌≤◌, ◌⊎◌, inl, inr, ◌∙◌, List, [], ◌∷◌, length, refl, arith, ap, sym, subst, Bool, true, false}
use Rattle.std.specs.Prelude.{⊤, Option, Some, None, ◌==◌, cond, nat_le}
use Rattle.std.proofs.lemmas.Bool.Decides.{nat_tests}
use Rattle.fkv_map.specs.declared.operations.Op.{Op}
use Rattle.law_refine.specs.Below.fkv_session.Sessions.{IsOpened, Seat, SessionState}
use Rattle.law_refine.specs.Below.fkv_session.SessionRun.{Begins, Gets, Replies, SessionEvent, session_run}
use Rattle.law_refine.specs.Below.fkv_session.Versions.{TakenAt, taken_at_after, versions_taken}
use Rattle.law_refine.specs.Below.fkv_world.Opened.{HasBecome}
use Rattle.law_refine.specs.Below.fkv_world.OwnEvents.{session_events}
use Rattle.law_refine.specs.Below.fkv_world.Runs.{World}
use Rattle.law_refine.specs.Below.fkv_world.World.{Event, seat_at}
use Rattle.law_refine.specs.Below.law_world.Guarded.Shows as guard
use Rattle.law_refine.proofs.Below.law_world.OfSessions.OwnRun.{opened_so}
use Rattle.law_commit.specs.Accepted.{NeverFall, count_upto, versions_accepted, versions_of}
use Rattle.law_commit.specs.LastSerials.{serial_at, serial_of}
use Rattle.law_commit.specs.Phases.Staged.{OpensAtRest}
use Rattle.law_commit.specs.Versions.Effects.{IsTakenAt, PointSplits}
use Rattle.law_commit.proofs.Counted.{Takes, all_upto, found_so, life_counted, life_risen, run_counted, run_moves}
use Rattle.law_commit.proofs.OfPhases.LifeStages.{rising_version}
use Rattle.law_commit.proofs.OfVersions.History.{effects_so}

-- ---- tests
is_le : (a b : ℕ) → nat_le a b ≡ true → a ≤ b
is_le a b e = grind (arith, nat_tests, e)

is_above : (a b : ℕ) → nat_le a b ≡ false → b < a
is_above a b e = grind (arith, nat_tests, e)

pub le_so : (a b : ℕ) → a ≤ b → nat_le a b ≡ true
le_so a b h = grind (arith, nat_tests, h)

above_so : (a b : ℕ) → b < a → nat_le a b ≡ false
above_so a b h = grind (arith, nat_tests, h)

-- ---- the serials that were taken follow one another
abbrev pub FollowFrom : ℕ → List TakenAt → Type 0
FollowFrom first [] = ⊤
FollowFrom first (it ∷ before) = (it.serial ≡ first + length before + 1) × FollowFrom first before

taken_follow : (first : ℕ) (same : Bool) (serial at : ℕ) (op : Option Op) (taken : List TakenAt) → (same ≡ false → serial ≡ first + length taken + 1) → FollowFrom first taken → FollowFrom first (taken_at_after same serial at op taken)
taken_follow first true serial at op taken next follow = follow
taken_follow first false serial at None taken next follow = follow
taken_follow first false serial at (Some op) taken next follow = (next refl, follow)

pub lengths : (taken : List TakenAt) → length (versions_of taken) ≡ length taken
lengths [] = refl
lengths (it ∷ before) = let rest = lengths before in omega (arith, rest)

rises_by : (s : SessionState) (event : SessionEvent) (n : ℕ) → (n ≡ s.serial) ⊎ Takes s event n → (n ≡ s.serial) ⊎ (n ≡ s.serial + 1)
rises_by s event n (inl same) = inl same
rises_by s (Replies reply) n (inr takes) = inr takes.2
rises_by s (Begins call) n (inr takes) = absurd takes
rises_by s (Gets action) n (inr takes) = absurd takes

next_one : (first was now count counted : ℕ) → counted ≡ count → was ≡ first + counted → (now == was) ≡ false → (now ≡ was) ⊎ (now ≡ was + 1) → now ≡ first + count + 1
next_one first was now count counted same all other (inl stays) = let clash : (now == was) ≡ true = grind (arith, nat_tests, stays) in let both : true ≡ false = sym clash ∙ other in cc
next_one first was now count counted same all other (inr next) = omega (arith, same, all, next)

pub run_follow : (k : Seat) (first : SessionState) (own : List SessionEvent) → IsOpened first → FollowFrom first.serial (versions_taken k first own)
unfolding versions_taken
run_follow k first [] opened = tt
run_follow k first (event ∷ before) opened =
    let s : SessionState = session_run k first before in
    let a : SessionState = session_run k first (event ∷ before) in
    taken_follow first.serial (a.serial == s.serial) a.serial _ _ (versions_taken k first before)
    (λ other. next_one first.serial s.serial a.serial (length (versions_taken k first before)) (length (versions_of (versions_taken k first before))) (lengths (versions_taken k first before)) (run_counted k first before opened) other
    (rises_by s event a.serial (run_moves k first event before)))
    (run_follow k first before opened)

-- ---- how many are of versions up to one
pub count_low : (n : ℕ) (versions : List ℕ) → count_upto n versions ≤ length versions
count_low n [] = omega arith
count_low n (v ∷ before) = by_test (nat_le v n) (count_low n before)
  where
    by_test : (b : Bool) → count_upto n before ≤ length before → cond b (count_upto n before + 1) (count_upto n before) ≤ length (v ∷ before)
    by_test true rest = omega (arith, rest)
    by_test false rest = omega (arith, rest)

pub record IsLow (first high serial version : ℕ) (taken : List TakenAt) : Type 0 where
  pub serial_low : serial ≤ first + length taken
  pub version_low : version ≤ high

pub taken_low : (first high serial version : ℕ) (taken : List TakenAt) → FollowFrom first taken → NeverFall high (versions_of taken) → IsTakenAt taken serial version → IsLow first high serial version taken
taken_low first high serial version [] follow falls was = absurd was
taken_low first high serial version (it ∷ before) follow falls (inl its) =
    let next = follow.0 in let same = its.0 in let most = falls.0 in let is = its.1 in
    record { serial_low = omega (arith, next, same); version_low = omega (arith, most, is) }
taken_low first high serial version (it ∷ before) follow falls (inr was) =
    let rest = taken_low first it.version serial version before follow.1 falls.1 was in
    let serial_low = rest.serial_low in let version_low = rest.version_low in let most = falls.0 in
    record { serial_low = omega (arith, serial_low); version_low = omega (arith, version_low, most) }

both_low : (first n last serial version count : ℕ) (taken : List TakenAt) → last ≤ n → count ≡ length (versions_of taken) → IsLow first last serial version taken → nat_le serial (first + (count + 1)) ≡ nat_le version n
both_low first n last serial version count taken up all low =
    let serial_low = low.serial_low in let version_low = low.version_low in let lengths_so = lengths taken in
    le_so serial (first + (count + 1)) (omega (arith, serial_low, all, lengths_so)) ∙ sym (le_so version n (omega (arith, version_low, up)))

splits : (first n high serial version : ℕ) (taken : List TakenAt) → FollowFrom first taken → NeverFall high (versions_of taken) → IsTakenAt taken serial version
    → nat_le serial (first + count_upto n (versions_of taken)) ≡ nat_le version n
splits first n high serial version [] follow falls was = absurd was
splits first n high serial version (it ∷ before) follow falls was = by_test (nat_le it.version n) refl (λ rest. splits first n it.version serial version before follow.1 falls.1 rest) was
  where
    count : ℕ
    count = count_upto n (versions_of before)

    by_test : (b : Bool) → nat_le it.version n ≡ b → (IsTakenAt before serial version → nat_le serial (first + count) ≡ nat_le version n) → IsTakenAt (it ∷ before) serial version → nat_le serial (first + cond b (count + 1) count) ≡ nat_le version n
    by_test true e again (inl its) =
        let all : count ≡ length (versions_of before) = all_upto it.version n (versions_of before) (is_le it.version n e) falls.1 in
        let next = follow.0 in let same = its.0 in let is = its.1 in let up = is_le it.version n e in let lengths_so = lengths before in
        le_so serial (first + (count + 1)) (omega (arith, all, next, same, lengths_so)) ∙ sym (le_so version n (omega (arith, is, up)))
    by_test true e again (inr rest) =
        let up = is_le it.version n e in
        both_low first n it.version serial version count before up (all_upto it.version n (versions_of before) up falls.1) (taken_low first it.version serial version before follow.1 falls.1 rest)
    by_test false e again (inl its) =
        let low = count_low n (versions_of before) in
        let next = follow.0 in let same = its.0 in let is = its.1 in let above = is_above it.version n e in let lengths_so = lengths before in
        above_so serial (first + count) (omega (arith, low, next, same, lengths_so)) ∙ sym (above_so version n (omega (arith, is, above)))
    by_test false e again (inr rest) = again rest

-- ---- in a life
next_splits : (start n count counted serial last version seen : ℕ) → count ≤ counted → last ≡ start + counted → serial ≡ last + 1 → version ≡ seen → n < seen → nat_le serial (start + count) ≡ nat_le version n
next_splits start n count counted serial last version seen low all next is left = above_so serial (start + count) (omega (arith, low, all, next)) ∙ sym (above_so version n (omega (arith, is, left)))

pub point_splits : (opening : World) (start : ℕ) (events : List Event) (session : ℕ) (first its : SessionState) → guard.IsOpened opening.now start → OpensAtRest opening.now → HasBecome opening events session first its
    → PointSplits opening session its events
point_splits opening start events session first its guarded rests became effect n left there own = elim (effects_so opening start events session first its guarded rests became effect there own) [
  | inl taken ↦
      let k : Seat = seat_at opening.now session in
      let own_events : List SessionEvent = session_events opening session events in
      let found = found_so opening events session first became.was in
      let begun : serial_at opening.now session ≡ first.serial = ap serial_of became.was in
      let opened = opened_so opening events session first its became in
      let falls = subst (λ (versions : List ℕ). NeverFall its.seen.version.0 versions) found (life_risen opening events session first its became (rising_version opening start events session first its became guarded rests)) in
      rw (found, begun) (splits first.serial n its.seen.version.0 effect.entry.serial.0 effect.version.0 (versions_taken k first own_events) (run_follow k first own_events opened) falls taken)
  | inr next ↦
      next_splits (serial_at opening.now session) n (count_upto n (versions_accepted opening events session)) (length (versions_accepted opening events session)) effect.entry.serial.0 its.serial effect.version.0 its.seen.version.0
      (count_low n (versions_accepted opening events session)) (life_counted opening events session first its became) next.1 next.2 left
]
