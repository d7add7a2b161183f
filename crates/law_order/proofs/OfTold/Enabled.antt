-- Each line that an event tells is enabled in the log.
use Rattle.std.proofs.Common.{◌≡◌, ℕ, ◌∙◌, refl, ap, sym, subst, Bool, true, false, List, [], ◌∷◌, ◌++◌, append_assoc}
use Rattle.std.specs.Prelude.{map, if◌then◌else◌}
use Rattle.fkv_map.specs.Map.{Map}
use Rattle.law_log.specs.Ghosts.{Log, Ghosts, GhostEvent, Tells, ghost_run}
use Rattle.law_log.specs.Enabled.{AreEnabled, IsLineEnabled, IsOpened}
use Rattle.law_log.specs.Trace.{Effect, TraceLine, CallsUpdate, RefusesUpdate, GivesResult, CallsRead, AnswersRead, IsIn, called_as}
use Rattle.law_log.proofs.Shown.{run_on, IsSound, run_sound}
use Rattle.law_commit.specs.Below.fkv_world.Runs.{World, run}
use Rattle.law_commit.specs.Below.fkv_world.World.{Event}
use Rattle.law_commit.specs.Below.law_refine.Calls.Calls.{EachIsEnabled, IsCallEnabled, effects_of_life, entries_of, event_adds, lines_of_life}
use Rattle.law_commit.proofs.Below.law_refine.OfCalls.UpdateLines.{event_is_enabled}
use Rattle.law_commit.proofs.Below.law_refine.OfCalls.LifeHistory.{life_entries}
use Rattle.law_commit.proofs.Below.law_refine.OfCalls.SameHistory.{same_reply, same_update}
use Rattle.law_order.specs.Known.Answered.{IsAnswerEnabled, EachAnswered, acted, acted_ghosts}
use Rattle.law_order.specs.Known.Begins.{BegunLife, home_of_world}
use Rattle.law_commit.specs.Below.law_refine.Events.GhostEvents.{ghost_events, life_ghosts, mapped}
use Rattle.law_commit.proofs.Below.law_refine.OfEvents.Trace.{ghost_trace}
use Rattle.law_commit.specs.Below.law_refine.Records.Changes.{AreChangesPublished}
use Rattle.law_commit.proofs.Below.law_refine.OfRecords.Meets.{life_meets_published}
use Rattle.law_order.proofs.OfTold.Lines.{acted_trace, told_log, told_trace}
use Rattle.law_order.proofs.OfTold.Runs.{free_read, enabled_on}

-- ---- one line, of a log that has the entries of these effects and these lines
line_is_enabled : (home : ℕ → ℕ) (m : Map) (g : Ghosts) (effects : List Effect) (lines : List TraceLine) (line : TraceLine) → IsSound home m g → entries_of g.log.history ≡ entries_of effects → g.trace ≡ lines
    → IsCallEnabled effects lines line → IsAnswerEnabled g line → IsLineEnabled g line
line_is_enabled home m g effects lines (CallsUpdate session serial op) sound same traced is_enabled answer = ap (λ (x : List TraceLine). called_as x session serial) traced ∙ is_enabled
line_is_enabled home m g effects lines (RefusesUpdate session serial) sound same traced is_enabled answer = λ has. is_enabled (same_update g.log.history effects session serial same has)
line_is_enabled home m g effects lines (GivesResult session serial reply) sound same traced is_enabled answer = same_reply effects g.log.history session serial reply (sym same) is_enabled
line_is_enabled home m g effects lines (CallsRead reader key) sound same traced is_enabled answer =
    free_read home m g.log g.trace reader (g.reads reader) (sound.knows reader) (λ other is_in. is_enabled other (subst (IsIn (CallsRead reader other)) traced is_in))
line_is_enabled home m g effects lines (AnswersRead reader reply) sound same traced is_enabled answer = answer

-- ---- and each of a list of them, behind what has been enabled
told_enabled : (home : ℕ → ℕ) (m : Map) (version : ℕ) (ghosts : Ghosts) (behind : List GhostEvent) (effects : List Effect) (known lines : List TraceLine) → IsOpened home m version ghosts → AreEnabled home ghosts behind
    → entries_of (ghost_run home ghosts behind).log.history ≡ entries_of effects → (ghost_run home ghosts behind).trace ≡ known
    → EachIsEnabled (IsCallEnabled effects) known lines → EachAnswered home (ghost_run home ghosts behind) lines → AreEnabled home ghosts (map Tells lines ++ behind)
unfolding AreEnabled
told_enabled home m version ghosts behind effects known [] opened enabled same traced is_enabled answered = enabled
told_enabled home m version ghosts behind effects known (line ∷ earlier) opened enabled same traced is_enabled answered =
    let base : Ghosts = ghost_run home ghosts behind in
    let before : AreEnabled home ghosts (map Tells earlier ++ behind) = told_enabled home m version ghosts behind effects known earlier opened enabled same traced is_enabled.1 answered.1 in
    let joined : ghost_run home ghosts (map Tells earlier ++ behind) ≡ ghost_run home base (map Tells earlier) = run_on home ghosts (map Tells earlier) behind in
    let its : IsLineEnabled (ghost_run home base (map Tells earlier)) line = line_is_enabled home m (ghost_run home base (map Tells earlier)) effects (earlier ++ known) line
    (subst (IsSound home m) joined (run_sound home m version ghosts (map Tells earlier ++ behind) opened before))
    (ap (λ (x : Log). entries_of x.history) (told_log home base earlier) ∙ same)
    (told_trace home base earlier ∙ ap (λ (x : List TraceLine). earlier ++ x) traced)
    is_enabled.0 answered.0 in
    (before, subst (λ (x : Ghosts). IsLineEnabled x line) (sym joined) its)

-- ---- what an event is to the log
pub mapped_alive : (opening : World) (before : List Event) (event : Event) → (run opening before).now.crashed ≡ false
    → mapped opening (event ∷ before) ≡ map Tells (event_adds opening before event) ++ (acted opening before event ++ mapped opening before)
unfolding mapped ghost_events run
mapped_alive opening before event alive =
    ap (λ (c : Bool). (if c then [] else map Tells (event_adds opening before event) ++ acted opening before event) ++ mapped opening before) alive
    ∙ append_assoc (map Tells (event_adds opening before event)) (acted opening before event) (mapped opening before)

pub mapped_crashed : (opening : World) (before : List Event) (event : Event) → (run opening before).now.crashed ≡ true → mapped opening (event ∷ before) ≡ mapped opening before
unfolding mapped ghost_events run
mapped_crashed opening before event crashed = ap (λ (c : Bool). (if c then [] else map Tells (event_adds opening before event) ++ acted opening before event) ++ mapped opening before) crashed

module _ (life : BegunLife) (before : List Event) (event : Event) where
  abbrev H : ℕ → ℕ
  H = home_of_world life.opening

  -- the lines, and what the life is to the log until they are told
  abbrev told : List TraceLine
  told = event_adds life.opening before event

  abbrev behind : List GhostEvent
  behind = acted life.opening before event ++ mapped life.opening before

  abbrev base : Ghosts
  base = acted_ghosts life.opening life.ghosts before event

  behind_is : ghost_run H life.ghosts behind ≡ base
  behind_is = run_on H life.ghosts (acted life.opening before event) (mapped life.opening before)

  behind_trace : (ghost_run H life.ghosts behind).trace ≡ lines_of_life life.opening before
  behind_trace =
      ap (λ (x : Ghosts). x.trace) behind_is
      ∙ (acted_trace H (life_ghosts life.opening life.ghosts before) life.opening before event ∙ ghost_trace life.opening life.ghosts before life.begins.world.no_trace life.begins.log.no_trace)

  behind_entries : (run life.opening before).now.crashed ≡ false → AreChangesPublished life.opening life.ghosts (event ∷ before)
      → entries_of (ghost_run H life.ghosts behind).log.history ≡ entries_of (effects_of_life life.opening (event ∷ before))
  behind_entries alive published =
      sym (ap (λ (x : Log). entries_of x.history) (told_log H (ghost_run H life.ghosts behind) told))
      ∙ (sym (ap (λ (x : Ghosts). entries_of x.log.history) (run_on H life.ghosts (map Tells told) behind))
      ∙ (sym (ap (λ (x : List GhostEvent). entries_of (ghost_run H life.ghosts x).log.history) (mapped_alive life.opening before event alive))
      ∙ life_entries life.opening life.start life.ghosts (event ∷ before) life.begins.world life.begins.store.now life.begins.unborn life.begins.reserves life.begins.log.no_history
      (life_meets_published life.opening life.start life.ghosts life.begins.store.now life.begins.unborn life.begins.reserves (event ∷ before) published)))

  alive_enabled : (run life.opening before).now.crashed ≡ false → AreEnabled H life.ghosts (mapped life.opening before)
      → AreChangesPublished life.opening life.ghosts (event ∷ before) → AreEnabled H (life_ghosts life.opening life.ghosts before) (acted life.opening before event)
      → EachAnswered H base told → AreEnabled H life.ghosts (mapped life.opening (event ∷ before))
  alive_enabled alive enabled published own answered =
      subst (AreEnabled H life.ghosts) (sym (mapped_alive life.opening before event alive))
      (told_enabled H life.map life.number life.ghosts behind (effects_of_life life.opening (event ∷ before)) (lines_of_life life.opening before) told life.begins.log (enabled_on H life.ghosts (acted life.opening before event) (mapped life.opening before) enabled own)
      (behind_entries alive published) behind_trace (event_is_enabled life.opening before event life.begins.world) (subst (λ (x : Ghosts). EachAnswered H x told) (sym behind_is) answered))

  pub lines_enabled : AreEnabled H life.ghosts (mapped life.opening before) → AreChangesPublished life.opening life.ghosts (event ∷ before)
      → AreEnabled H (life_ghosts life.opening life.ghosts before) (acted life.opening before event)
      → EachAnswered H base told → AreEnabled H life.ghosts (mapped life.opening (event ∷ before))
  lines_enabled enabled published own answered = by_test (run life.opening before).now.crashed refl
    where
      by_test : (c : Bool) → (run life.opening before).now.crashed ≡ c → AreEnabled H life.ghosts (mapped life.opening (event ∷ before))
      by_test true crashed = subst (AreEnabled H life.ghosts) (sym (mapped_crashed life.opening before event crashed)) enabled
      by_test false alive = alive_enabled alive enabled published own answered
