-- A life begins over a device that is synced.
use Rattle.std.proofs.Common.{◌≡◌, refl, sym, subst, ℕ, List, []}
use Rattle.law_opening.specs.Below.fkv_core.Openings.{IsOpeningWorld, beginning}
use Rattle.law_opening.specs.Below.fkv_core.Worlds.{WorldModel}
use Rattle.fkv_disk.specs.Device.{IsAfter, LeavesOnly}
use Rattle.law_opening.specs.Below.fkv_opening.TheOpened.{Opened}
use Rattle.law_opening.specs.Below.fkv_world.Opened.{IsOpenedWorld}
use Rattle.law_opening.specs.Below.fkv_world.Runs.{run}
use Rattle.law_opening.specs.Below.fkv_world.World.{Now}
use Rattle.law_opening.specs.Below.law_world.Guarded.OpenedStore.{IsOpenedStore}
use Rattle.law_answers.specs.Answered.Lives.{IsOfLife}

-- what the laws of opened stores say
abbrev pub WorldsOpen : Type 0
WorldsOpen = (o : Opened) (n : Now) (bytes : List ℕ) → IsOpeningWorld o n → IsOpenedWorld (beginning n bytes)

abbrev pub StoresOpen : Type 0
StoresOpen = (o : Opened) (n : Now) (bytes : List ℕ) → IsOpeningWorld o n → IsOpenedStore (beginning n bytes) o.tail.0

abbrev pub DeviceOpens : {D : Type 0} → (D → List ℕ) → (D → List ℕ → Type 0) → D → Type 0
DeviceOpens seen may_leave device = LeavesOnly (seen device) (may_leave device) → IsAfter (seen device) [] (seen device) (may_leave device)

module _ {D : Type 0} (honest : D → Type 0) (seen : D → List ℕ) (may_leave : D → List ℕ → Type 0) (device : D) (worlds : WorldsOpen) (stores : StoresOpen) (opens : DeviceOpens seen may_leave device) (o : Opened) where
  over_itself : (n : Now) → honest device → LeavesOnly (seen device) (may_leave device) → IsOpeningWorld o n
      → IsOfLife honest seen may_leave (beginning n (seen device)) o.tail.0 [] (record { now = n; device = device })
  unfolding run
  over_itself n claim only its = record {
    opened = worlds o n (seen device) its;
    store = stores o n (seen device) its;
    shows = refl;
    device = opens only;
    is_honest = claim;
  }

  pub life_begins : (world : WorldModel D) → honest device → LeavesOnly (seen device) (may_leave device) → IsOpeningWorld o world.now → world.device ≡ device
      → IsOfLife honest seen may_leave (beginning world.now (seen device)) o.tail.0 [] world
  life_begins world claim only its over =
      subst (λ (it : D). IsOfLife honest seen may_leave (beginning world.now (seen device)) o.tail.0 [] (record { now = world.now; device = it })) (sym over) (over_itself world.now claim only its)

  -- the bytes were read before, too
  pub begins_from : (world : WorldModel D) (bytes : List ℕ) → seen device ≡ bytes → honest device → LeavesOnly bytes (may_leave device) → IsOpeningWorld o world.now → world.device ≡ device
      → IsOfLife honest seen may_leave (beginning world.now bytes) o.tail.0 [] world
  begins_from world bytes same claim only its over =
      subst (λ (they : List ℕ). IsOfLife honest seen may_leave (beginning world.now they) o.tail.0 [] world) same
      (life_begins world claim (subst (λ (they : List ℕ). LeavesOnly they (may_leave device)) (sym same) only) its over)
