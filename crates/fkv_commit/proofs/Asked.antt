-- What a start was asked for stays as it goes on; and no store's last version is above the last that there is.
use Rattle.std.proofs.Common.{◌≡◌, ℕ, ◌<◌, arith, refl, Bool, true, false}
use Rattle.std.specs.Prelude.{nat_le, if◌then◌else◌}
use Rattle.fkv_base.specs.Limits.{last_version, last_of}
use Rattle.fkv_base.specs.declared.classes.StoreClass.{StoreClass}
use Rattle.fkv_base.specs.declared.classes.StoreClass.TheVariants.{Specified, Living}
use Rattle.fkv_base.specs.declared.phases.Phase.TheVariants as phase
use Rattle.fkv_words.specs.PhaseWords.{phase_said}
use Rattle.fkv_words.specs.declared.phase_words.PhaseSaid.{PhaseSaid}
use Rattle.fkv_words.specs.declared.phase_words.PhaseSaid.TheVariants.{Says}
use Rattle.fkv_plane.specs.declared.asks.Ask.{Ask}
use Rattle.fkv_plane.specs.declared.asks.Ask.TheVariants.{Done}
use Rattle.fkv_commit.specs.declared.deferring.DeferAnswer.{DeferAnswer}
use Rattle.fkv_commit.specs.declared.deferring.DeferAnswer.TheVariants.{Held, Spent, Armed}
use Rattle.fkv_commit.specs.declared.starting.Starting.{Starting}
use Rattle.fkv_commit.specs.declared.starting.Starting.TheVariants.{Ended, LoadsPhase, Seeks, StoresPrepare, LoadsTail, Defers}
use Rattle.fkv_commit.specs.Deferring.{defer_ask, defer_next}
use Rattle.fkv_commit.specs.Starting.{StartState, is_lost_full, phase_found, seek_led, defer_led, starting_next, start_next}

pub last_low : (class : StoreClass) (n : ℕ) → n < last_of class → n < last_version
last_low Specified n low = omega (arith, low)
last_low Living n low = low

starting_asked : (s : StartState) (step : Starting) (reply : ℕ) → (starting_next s step reply).asked ≡ s.asked
unfolding starting_next seek_led defer_led
starting_asked s (Ended its) reply = refl
starting_asked s LoadsPhase reply = by_phase (phase_said reply)
  where
    either : (b : Bool) (x y : StartState) → x.asked ≡ s.asked → y.asked ≡ s.asked → (if b then x else y).asked ≡ s.asked
    either true x y one other = one
    either false x y one other = other

    by_phase : (said : PhaseSaid) → (phase_found s said).asked ≡ s.asked
    by_phase (Says phase.Rest number) = either (nat_le (last_of s.asked.class) number.0) _ _ refl (either (is_lost_full s.asked number.0) _ _ refl refl)
    by_phase said = refl
starting_asked s (Seeks number) reply = sought (record s { defer = defer_next s.defer reply }) (defer_ask (defer_next s.defer reply))
  where
    sought : (t : StartState) (ask : Ask DeferAnswer) → (seek_led number t ask).asked ≡ t.asked
    sought t (Done Held) = refl
    sought t (Done Spent) = refl
    sought t (Done its) = refl
    sought t ask = refl
starting_asked s (StoresPrepare number) reply = refl
starting_asked s (LoadsTail number) reply = refl
starting_asked s (Defers number first) reply = led (record s { defer = defer_next s.defer reply }) (defer_ask (defer_next s.defer reply))
  where
    led : (t : StartState) (ask : Ask DeferAnswer) → (defer_led number first t ask).asked ≡ t.asked
    led t (Done (Armed epoch)) = refl
    led t (Done its) = refl
    led t ask = refl

pub start_asked : (s : StartState) (reply : ℕ) → (start_next s reply).asked ≡ s.asked
start_asked s reply = starting_asked s s.step reply
