use Rattle.law_commit.proofs.OfPhases.Awake.{life_live}
use Rattle.law_commit.proofs.OfPhases.OpeningSound.{opening_sound}
use Rattle.law_commit.proofs.OfPhases.RepliesShown.{replies_shown}
use Rattle.law_commit.proofs.OfPhases.SafeEnabled.{safe_enabled}
use Rattle.law_commit.proofs.OfPhases.SessionsShown.{events_shown, opening_shown}
use Rattle.law_commit.proofs.phases.law_sessions_are_phases.Goals as goal

pub returns : goal.returns
returns c = record { live = life_live; replies = replies_shown; events = events_shown; safe = safe_enabled; sound = opening_sound; opening = opening_shown }
