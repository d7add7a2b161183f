-- The effects of a life, by session and serial.
use Rattle.std.proofs.Common.{◌≡◌, inl, inr, ℕ, ◌+◌, ◌≤◌, ◌∙◌, List, [], ◌∷◌, ◌++◌, refl, arith, ap, sym, subst, Bool, true, false, cond, ◌&&◌}
use Rattle.std.specs.Prelude.{◌==◌, if◌then◌else◌, Some, slice_get}
use Rattle.std.specs.List.{count_by}
use Rattle.std.proofs.lemmas.Bool.Decides.{nat_tests}
use Rattle.fkv_map.specs.History.{is_update}
use Rattle.fkv_map.specs.declared.history.HistoryEntry.{HistoryEntry}
use Rattle.fkv_map.proofs.Shown.{count-push}
use Rattle.fkv_plane.specs.Asked.{reply_to}
use Rattle.law_commit.specs.Below.fkv_session.Accounts.{number_of}
use Rattle.law_commit.specs.Below.fkv_session.Replies.{is_of}
use Rattle.law_commit.specs.Below.fkv_session.Sessions.{Seat, SessionState, session_ask}
use Rattle.law_commit.specs.Below.fkv_world.Opened.{IsOpenedWorld, effects_of}
use Rattle.law_commit.specs.Below.fkv_world.Past.{Effect}
use Rattle.law_commit.specs.Below.fkv_world.Runs.{World, happens, run}
use Rattle.law_commit.specs.Below.fkv_world.World.{Event, seat_at}
use Rattle.law_commit.proofs.OfVersions.Accepted.{made_own}
use Rattle.law_log.specs.Trace as log
use Rattle.law_log.specs.Trace.{HasUpdate, IsIn, history_of}
use Rattle.law_commit.specs.Below.law_refine.Calls.Calls.{effect_in_log, effects_in_log}
use Rattle.law_commit.proofs.Below.law_refine.OfCalls.InHand.{was_opened}
use Rattle.law_commit.specs.Below.law_world.Runs.Added.{IsEffectOf, IsHistoryAfter}

-- ---- each is one of a session that there is
abbrev pub IsSeated : World → Effect → Type 0
IsSeated opening effect = (first : SessionState) × (slice_get opening.now.sessions effect.entry.session ≡ Some first)

module _ (added : (w : World) (event : Event) → IsHistoryAfter w event (happens w event).past.history) (opening : World) (opened : IsOpenedWorld opening) where
  made_seated : (before : List Event) (event : Event) (its : Effect) → IsEffectOf (run opening before) event its → IsSeated opening its
  made_seated before event its from =
      let w : World = run opening before in
      let k : Seat = seat_at w.now from.session in
      let own : its.entry.session ≡ from.session =
      made_own k from.mover (reply_to w.now.words (session_ask k from.mover)) its.entry (ap (λ (s : SessionState). s.effect) (sym from.replied) ∙ from.tells) in
      let was = was_opened opening before from.session from.mover opened from.found in
      let became = was.became in
      (was.first, ap (λ (i : ℕ). slice_get opening.now.sessions i) own ∙ became.was)

  pub each_seated : (events : List Event) (effect : Effect) → IsIn effect (run opening events).past.history → IsSeated opening effect
  unfolding run
  each_seated [] effect there = absurd (subst (λ (history : List Effect). IsIn effect history) opened.no_history there)
  each_seated (event ∷ before) effect there = elim (added (run opening before) event) [
    | inl same ↦ each_seated before effect (subst (λ (history : List Effect). IsIn effect history) same there)
    | inr new ↦ elim (subst (λ (history : List Effect). IsIn effect history) new.1 there) [
      | inl first ↦ subst (IsSeated opening) first (made_seated before event new.0 new.2)
      | inr older ↦ each_seated before effect older
    ]
  ]

-- as the log's effects
pub of_life : (history : List Effect) (effect : log.Effect) → IsIn effect (effects_in_log history) → (its : Effect) × (IsIn its history) × (effect_in_log its ≡ effect)
of_life [] effect there = absurd there
of_life (it ∷ before) effect (inl same) = (it, inl refl, same)
of_life (it ∷ before) effect (inr later) = let found = of_life before effect later in (found.0, inr found.1, found.2)

-- ---- how many are of a session and a serial
count_more : (mine named : Bool) (n : ℕ) (entry : HistoryEntry) (rest : List HistoryEntry) (count : ℕ) → (entry.serial.0 == n) ≡ named → count ≡ number_of (is_of n) rest
    → count + cond (mine && named) 1 0 ≡ number_of (is_of n) (if mine then entry ∷ rest else rest)
count_more true true n entry rest count e same = rw e (omega (arith, same))
count_more true false n entry rest count e same = rw e (omega (arith, same))
count_more false named n entry rest count e same = omega (arith, same)

pub count_is : (session n : ℕ) (history : List Effect) → count_by (is_update session n) (history_of (effects_in_log history)) ≡ number_of (is_of n) (effects_of session history)
count_is session n [] = refl
count_is session n (it ∷ before) =
    count-push (is_update session n) (history_of (effects_in_log before)) it.entry
    ∙ count_more (it.entry.session == session) (it.entry.serial.0 == n) n it.entry (effects_of session before) (count_by (is_update session n) (history_of (effects_in_log before))) refl (count_is session n before)

pub none_so : (session n : ℕ) (history : List Effect) → ((it : Effect) → IsIn it history → it.entry.session ≡ session → it.entry.serial.0 ≡ n → ⊥) → number_of (is_of n) (effects_of session history) ≡ 0
none_so session n [] none = refl
none_so session n (it ∷ before) none = by_test (it.entry.session == session) (it.entry.serial.0 == n) refl refl (none_so session n before (λ x there. none x (inr there)))
  where
    by_test : (mine named : Bool) → (it.entry.session == session) ≡ mine → (it.entry.serial.0 == n) ≡ named → number_of (is_of n) (effects_of session before) ≡ 0
        → number_of (is_of n) (if mine then it.entry ∷ effects_of session before else effects_of session before) ≡ 0
    by_test true true m e rest = absurd (none it (inl refl) (grind (arith, nat_tests, m)) (grind (arith, nat_tests, e)))
    by_test true false m e rest = rw e (omega (arith, rest))
    by_test false named m e rest = rest

-- ---- if each update has taken effect once, at most one is counted
abbrev pub NoneTwice : List log.Effect → Type 0
NoneTwice effects = (newer older : List log.Effect) (effect : log.Effect) → effects ≡ newer ++ effect ∷ older → HasUpdate older effect.entry.session effect.entry.serial.0 → ⊥

in_log : (history : List Effect) (it : Effect) → IsIn it history → IsIn (effect_in_log it) (effects_in_log history)
in_log [] it there = absurd there
in_log (x ∷ before) it (inl same) = inl (ap effect_in_log same)
in_log (x ∷ before) it (inr older) = inr (in_log before it older)

pub most_one : (session n : ℕ) (history : List Effect) → NoneTwice (effects_in_log history) → number_of (is_of n) (effects_of session history) ≤ 1
most_one session n [] once = omega arith
most_one session n (it ∷ before) once =
    by_test (it.entry.session == session) (it.entry.serial.0 == n) refl refl
    (most_one session n before (λ newer older effect same. once (effect_in_log it ∷ newer) older effect (ap (λ (x : List log.Effect). effect_in_log it ∷ x) same)))
  where
    none : (it.entry.session == session) ≡ true → (it.entry.serial.0 == n) ≡ true → number_of (is_of n) (effects_of session before) ≡ 0
    none m e =
        let mine : it.entry.session ≡ session = grind (arith, nat_tests, m) in
        let named : it.entry.serial.0 ≡ n = grind (arith, nat_tests, e) in
        none_so session n before (λ x there own serial.
        once [] (effects_in_log before) (effect_in_log it) refl (record { effect = effect_in_log x; is_in = in_log before x there; its_session = own ∙ sym mine; its_serial = serial ∙ sym named }))

    by_test : (mine named : Bool) → (it.entry.session == session) ≡ mine → (it.entry.serial.0 == n) ≡ named → number_of (is_of n) (effects_of session before) ≤ 1
        → number_of (is_of n) (if mine then it.entry ∷ effects_of session before else effects_of session before) ≤ 1
    by_test true true m e rest = let zero_there = none m e in rw e (omega (arith, zero_there))
    by_test true false m e rest = rw e (omega (arith, rest))
    by_test false named m e rest = rest
