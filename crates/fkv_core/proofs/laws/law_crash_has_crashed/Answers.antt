-- A store that has crashed before stays so.
use Rattle.std.proofs.Common.{◌≡◌, refl, ℕ, Bool, true, false, List}
use Rattle.std.specs.Prelude.{if◌then◌else◌}
use Rattle.fkv_core.specs.declared.events.Event.TheVariants.{Crash}
use Rattle.fkv_core.specs.Worlds.{took_place}
use Rattle.fkv_world.specs.World.{Now, life_goes}
use Rattle.fkv_core.proofs.laws.law_crash_has_crashed.Goals as goal

crashed_so : (b : Bool) (n m : Now) → n.crashed ≡ b → m.crashed ≡ true → (if b then n else m).crashed ≡ true
crashed_so true n m e h = e
crashed_so false n m e h = h

crashes : (n : Now) (read : List ℕ) (granted done : Bool) → (life_goes n read (took_place Crash granted done)).crashed ≡ true
unfolding life_goes
crashes n read granted done = refl

pub returns : goal.returns
returns c = record { crashed = λ n read granted done. crashed_so n.crashed n (life_goes n read (took_place Crash granted done)) refl (crashes n read granted done) }
