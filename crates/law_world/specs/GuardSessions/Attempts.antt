-- What a step of an attempt is to the guard: what its try is, and else a word of a mailbox.
use Rattle.std.specs.Prelude.{⊤, ℕ, List}
use Rattle.fkv_plane.specs.declared.asks.Ask.{Ask}
use Rattle.fkv_plane.specs.declared.places.Places.{Places}
use Rattle.fkv_flush.specs.GuardSeen.{LastSeen}
use Rattle.fkv_flush.specs.GuardWorld.{GuardEvent}
use Rattle.fkv_flush.proofs.Shown.{Likeness}
use Rattle.fkv_pending.specs.declared.attempting.Attempting.{Attempting}
use Rattle.fkv_pending.specs.declared.attempting.Attempting.TheVariants.{Tries}
use Rattle.fkv_pending.specs.Attempting.{AttemptState}
use Rattle.law_world.specs.GuardSessions.Likenesses.{through}
use Rattle.law_world.specs.GuardSessions.Steps.{Onward, Stays, outer_events}
use Rattle.law_world.specs.GuardSessions.Tries.{try_events, try_onward, try_likeness_at, TryWritesOuter}

abbrev pub attempt_events : {A : Type 0} → ℕ → ℕ → List ℕ → Places → AttemptState → Attempting → Ask A → List GuardEvent
attempt_events number room words p a Tries ask = try_events number room words p a.trial a.trial.step ask
attempt_events number room words p a step ask = outer_events number words ask

abbrev pub attempt_onward : AttemptState → Attempting → Onward
attempt_onward a Tries = try_onward a.trial a.trial.step
attempt_onward a step = Stays

abbrev pub attempt_likeness_at : LastSeen → AttemptState → Attempting → Likeness
attempt_likeness_at seen a Tries = try_likeness_at seen a.trial a.trial.step
attempt_likeness_at seen a step = through seen

abbrev pub attempt_likeness : LastSeen → AttemptState → Likeness
attempt_likeness seen a = attempt_likeness_at seen a a.step

-- So it is with an attempt: its mailbox is the session's own.
abbrev pub AttemptWritesOuter : {A : Type 0} → Places → AttemptState → Attempting → Ask A → Type 0
AttemptWritesOuter p a Tries ask = TryWritesOuter p a.trial a.trial.step ask
AttemptWritesOuter p a step ask = ⊤
